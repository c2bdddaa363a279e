-- Texts of queries, and why a text has none.
use Rattle.std.specs.Prelude.{◌≡◌, ℕ, List, ◌∷◌, [], ◌++◌}
use Rattle.pipes_token.specs.declared.refusal.Refusal.{Refusal}
use Rattle.pipes_token.specs.declared.refusal.ReadFault.{ReadFault}
use Rattle.pipes_token.specs.declared.refusal.ReadFault.TheVariants as fault
use Rattle.pipes_token.specs.declared.refusal.TextRefusal.{TextRefusal}
use Rattle.pipes_token.specs.declared.keyword.Keyword.TheVariants as keyword
use Rattle.pipes_token.specs.declared.token.TokenKind.{TokenKind}
use Rattle.pipes_token.specs.declared.token.TokenKind.TheVariants.{Keyword, Cut}
use Rattle.pipes_token.specs.declared.token.Token.{Token}
use Rattle.pipes_reader.specs.Reading.{kinds_of}
use Rattle.pipes_reader.specs.Texts.{IsText, IsFile, IsRefused}
use Rattle.pipes_grammar.specs.Places.{IsPlanPlace}
use Rattle.pipes_query.specs.declared.query.SourceDecl.{SourceDecl}
use Rattle.pipes_query.specs.declared.query.Query.{Query}
use Rattle.pipes_query.specs.Queries.{names_of}
use Rattle.pipes_text.specs.Grammar.{AreSources}
use Rattle.pipes_text.specs.Limits.{IsNamedQuery, IsQueryWithin}
use Rattle.pipes_text.specs.Reading.{parse_query}

-- The tokens of the text are those of the query.
abbrev pub IsTextOfQuery : Query → List ℕ → Type 0
IsTextOfQuery = IsText IsQueryWithin

-- The same, of a text within the limit.
abbrev pub IsFileOfQuery : Query → List ℕ → Type 0
IsFileOfQuery = IsFile IsQueryWithin

-- Where a refused query's place is: at the refused token, inside a string that begins there, or
-- where the plan's is.
pub data IsQueryPlace (before : List Token) (t : Token) (r : Refusal) : Type 0 where
  there : r.at ≡ t.at → IsQueryPlace before t r
  inside : t.kind ≡ Cut r → IsQueryPlace before t r
  in_plan : (sources : List SourceDecl) (ss : List TokenKind) (declared plan : List Token)
      → AreSources sources ss → kinds_of declared ≡ ss ++ (Keyword keyword.Plan ∷ [])
      → before ≡ declared ++ plan → IsPlanPlace (names_of sources) plan t r
      → IsQueryPlace before t r

-- The text is too long, or its tokens are refused at the first place at which no query goes on.
abbrev pub IsRefusedQuery : List ℕ → TextRefusal → Type 0
IsRefusedQuery = IsRefused IsNamedQuery IsQueryWithin IsQueryPlace parse_query

-- why a text isn't read as a query
abbrev pub QueryCause : List ℕ → ReadFault → Type 0
QueryCause bytes (fault.Text r) = IsRefusedQuery bytes r
QueryCause bytes fault.Memory = Unit {0}
