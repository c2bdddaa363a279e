-- Why a token is refused, by the grammar.
use Rattle.std.specs.Prelude.{◌≡◌, ℕ, List, [], ◌∷◌, ◌++◌, Option, Some, None, ◌⊎◌}
use Rattle.pipes_token.specs.declared.refusal.TextWhy.{TextWhy}
use Rattle.pipes_token.specs.declared.refusal.TextWhy.TheVariants as why
use Rattle.pipes_token.specs.declared.refusal.Refusal.{Refusal}
use Rattle.pipes_token.specs.declared.token.TokenKind.{TokenKind}
use Rattle.pipes_token.specs.declared.token.TokenKind.TheVariants.{Keyword, Name, Number, Text}
use Rattle.pipes_token.specs.declared.token.TokenKind.TheVariants.{Long, Cut, Byte, End}
use Rattle.pipes_reader.specs.Sentences.{Grammar, Begins}
use Rattle.pipes_reader.specs.Names.{IsSourceName}

-- numbers are alike, and so are words that are no keywords
pub data AreAlike : TokenKind → TokenKind → Type 0 where
  itself : (k : TokenKind) → AreAlike k k
  two_numbers : (n m : ℕ) → AreAlike (Number n) (Number m)
  two_names : (v w : List ℕ) → AreAlike (Name v) (Name w)

-- what no grammar has anywhere is refused for itself
abbrev pub own_why : TokenKind → Option TextWhy
own_why Long = Some why.Long
own_why Byte = Some why.Byte
own_why End = Some why.Ended
own_why _ = None

-- a word, a keyword or not
abbrev pub IsWord : TokenKind → Type 0
IsWord (Name w) = Unit {0}
IsWord (Keyword k) = Unit {0}
IsWord _ = ⊥

-- the grammar without limits allows more
abbrev pub IsLimit : TextWhy → Type 0
IsLimit why.Mode = Unit {0}
IsLimit why.Many = Unit {0}
IsLimit why.Deep = Unit {0}
IsLimit _ = ⊥

-- Why a token of a kind is refused. GoesOn: the grammar without limits goes on with such a token.
-- IsFull: nothing within the limits goes on. IsStuck: nothing within them goes on with such a
-- token.
pub data IsTextWhy (GoesOn : TokenKind → Type 0) (IsFull : Type 0) (IsStuck : TokenKind → Type 0)
    : TokenKind → TextWhy → Type 0 where
  -- it is the end of the text, a byte that begins no token, or too long
  own : (k : TokenKind) (w : TextWhy) → own_why k ≡ Some w → IsTextWhy GoesOn IsFull IsStuck k w
  -- a string that breaks, where a string goes on
  broken : (r : Refusal) (content : List ℕ) → GoesOn (Text content)
      → IsTextWhy GoesOn IsFull IsStuck (Cut r) r.why
  -- a number, where another number goes on
  other_number : (n m : ℕ) → GoesOn (Number m) → IsTextWhy GoesOn IsFull IsStuck
      (Number n) why.Range
  -- a word, where another word goes on, one that texts have as a name
  other_word : (k : TokenKind) (w : List ℕ) → IsWord k → IsSourceName w → GoesOn (Name w)
      → IsTextWhy GoesOn IsFull IsStuck k why.Name
  -- without the limits it goes on with this token, or with them nothing goes on
  over_limit : (k : TokenKind) (w : TextWhy) → IsLimit w → GoesOn k ⊎ IsFull
      → IsTextWhy GoesOn IsFull IsStuck k w
  -- nothing goes on with a token like this one
  not_allowed : (k : TokenKind) → own_why k ≡ None → ((j : TokenKind) → AreAlike k j → IsStuck j)
      → IsTextWhy GoesOn IsFull IsStuck k why.Token

-- The same, after tokens of these kinds, in a grammar without limits and within them.
abbrev pub IsCause : {A : Type 0} → Grammar A → Grammar A → List TokenKind → TokenKind → TextWhy
    → Type 0
IsCause Is Within before =
    IsTextWhy (λ k. Begins Is (before ++ (k ∷ []))) (¬ (Begins Within before))
    (λ k. ¬ (Begins Within (before ++ (k ∷ []))))
