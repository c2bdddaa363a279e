-- The grammar of queries, rule by rule: which kinds of tokens are a sentence, and which value
-- it has. That names are declared once, and the limits of lists and depth, are apart, in Limits.
use Rattle.std.specs.Prelude.{◌≡◌, ◌≤◌, ℕ, List, [], ◌∷◌, ◌++◌, Option, Some, None}
use Rattle.pipes_token.specs.declared.token.Sign.TheVariants.{Open, Close, Comma}
use Rattle.pipes_token.specs.declared.keyword.Keyword.TheVariants as keyword
use Rattle.pipes_token.specs.declared.token.TokenKind.{TokenKind}
use Rattle.pipes_token.specs.declared.token.TokenKind.TheVariants.{Sign, Keyword, Name, Number}
use Rattle.pipes_token.specs.declared.token.TokenKind.TheVariants.{Text}
use Rattle.pipes_token.specs.Keywords.{keyword_text}
use Rattle.pipes_tuple.specs.declared.value.Kind.{Kind}
use Rattle.pipes_tuple.specs.declared.value.Kind.TheVariants as kind
use Rattle.pipes_window.specs.declared.kind.WindowKind.{WindowKind}
use Rattle.pipes_window.specs.declared.kind.WindowKind.TheVariants.{Time, Slide, Count}
use Rattle.pipes_grammar.specs.Grammar.{IsPlan}
use Rattle.pipes_query.specs.declared.query.SourceDecl.{SourceDecl}
use Rattle.pipes_query.specs.declared.query.Query.{Query}
use Rattle.pipes_query.specs.Queries.{names_of}
use Rattle.pipes_time.specs.Slides.{IsDuration}

-- a word, a keyword or not
abbrev pub word_of : TokenKind → Option (List ℕ)
word_of (Name word) = Some word
word_of (Keyword k) = Some (keyword_text k)
word_of _ = None

-- ---- `kind`

abbrev pub kind_of_token : TokenKind → Option Kind
kind_of_token (Keyword keyword.Int) = Some kind.Int
kind_of_token (Keyword keyword.Text) = Some kind.Text
kind_of_token (Keyword keyword.Flag) = Some kind.Flag
kind_of_token _ = None

-- ---- `column`

-- a column's name, any word, and its kind
pub data IsColumn : List ℕ → Kind → List TokenKind → Type 0 where
  column : (name : List ℕ) (sort : Kind) (word kind : TokenKind) → word_of word ≡ Some name
      → kind_of_token kind ≡ Some sort → IsColumn name sort (word ∷ kind ∷ [])

-- the names and the kinds of one column or more, with a comma before each further one
pub data AreColumns : List (List ℕ) → List Kind → List TokenKind → Type 0 where
  last : (name : List ℕ) (sort : Kind) (ks : List TokenKind) → IsColumn name sort ks
      → AreColumns (name ∷ []) (sort ∷ []) ks
  more : (name : List ℕ) (sort : Kind) (names : List (List ℕ)) (sorts : List Kind)
      (ks ls : List TokenKind) → IsColumn name sort ks → AreColumns names sorts ls
      → AreColumns (name ∷ names) (sort ∷ sorts) (ks ++ (Sign Comma ∷ ls))

-- ---- `slack`

-- a time up to the horizon, or none
pub data IsSlack : ℕ → List TokenKind → Type 0 where
  in_order : IsSlack 0 []
  within : (n : ℕ) → IsDuration n → IsSlack n (Keyword keyword.Slack ∷ Number n ∷ [])

-- ---- `window`

-- a time and perhaps a slide, each up to the horizon, or a number of rows up to a million
pub data IsWindowText : WindowKind → List TokenKind → Type 0 where
  time : (n : ℕ) → IsDuration n → IsWindowText (Time n) (Keyword keyword.Time ∷ Number n ∷ [])
  slide : (n m : ℕ) → IsDuration n → IsDuration m
      → IsWindowText (Slide n m)
      (Keyword keyword.Time ∷ Number n ∷ Keyword keyword.Slide ∷ Number m ∷ [])
  count : (n : ℕ) → 1 ≤ n → n ≤ 1000000
      → IsWindowText (Count n) (Keyword keyword.Count ∷ Number n ∷ [])

-- ---- `source`

pub data IsSource : SourceDecl → List TokenKind → Type 0 where
  source : (s : SourceDecl) (cs ls ws : List TokenKind) → AreColumns s.names s.schema cs
      → IsSlack s.slack ls → IsWindowText s.window ws
      → IsSource s (Keyword keyword.Source ∷ Name s.name ∷ Keyword keyword.From ∷ Text s.file
      ∷ Sign Open ∷ (cs ++ (Sign Close ∷ (ls ++ (Keyword keyword.Window ∷ ws)))))

-- one source or more
pub data AreSources : List SourceDecl → List TokenKind → Type 0 where
  last : (s : SourceDecl) (ks : List TokenKind) → IsSource s ks → AreSources (s ∷ []) ks
  more : (s : SourceDecl) (ss : List SourceDecl) (ks ls : List TokenKind) → IsSource s ks
      → AreSources ss ls → AreSources (s ∷ ss) (ks ++ ls)

-- ---- `query`

pub data IsQuery : Query → List TokenKind → Type 0 where
  query : (q : Query) (ss ps : List TokenKind) → AreSources q.sources ss
      → IsPlan (names_of q.sources) q.plan ps → IsQuery q (ss ++ (Keyword keyword.Plan ∷ ps))
