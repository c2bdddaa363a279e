-- Texts: the value that a text has, and why a text has none.
use Rattle.std.specs.Prelude.{◌≡◌, ◌≤◌, ◌<◌, ℕ, List, length, Result, Ok, Err}
use Rattle.pipes_token.specs.declared.refusal.Refusal.{Refusal}
use Rattle.pipes_token.specs.declared.refusal.ReadFault.{ReadFault}
use Rattle.pipes_token.specs.declared.refusal.ReadFault.TheVariants as fault
use Rattle.pipes_token.specs.declared.refusal.TextRefusal.{TextRefusal}
use Rattle.pipes_token.specs.declared.refusal.TextWhy.TheVariants as why
use Rattle.pipes_token.specs.declared.token.Token.{Token}
use Rattle.pipes_token.specs.Places.{located}
use Rattle.pipes_token.specs.Tokens.{Tokens}
use Rattle.pipes_reader.specs.Reading.{Reads, kinds_of, whole}
use Rattle.pipes_reader.specs.Sentences.{Grammar, Whole}
use Rattle.pipes_reader.specs.Places.{Refusals, FirstPlace}

-- The tokens of the text are those of a sentence of this value.
pub record IsText {A : Type 0} (Is : Grammar A) (x : A) (bytes : List ℕ) : Type 0 where
  pub tokens : List Token
  pub are : Tokens (length bytes) bytes tokens
  pub spells : Whole Is x (kinds_of tokens)

-- The same, of a text within the limit.
pub record IsFile {A : Type 0} (Is : Grammar A) (x : A) (bytes : List ℕ) : Type 0 where
  pub text : IsText Is x bytes
  pub short : length bytes ≤ 1048576

-- this value and no other was read, unless memory ran out
abbrev pub ReadAs : {A : Type 0} → A → Result A ReadFault → Type 0
ReadAs x (Ok read) = read ≡ x
ReadAs x (Err (fault.Text r)) = ⊥
ReadAs x (Err fault.Memory) = Unit {0}

-- A text's refusal: it is too long, or its tokens are refused at the first place at which no text
-- of the grammar goes on.
pub data IsRefused {A : Type 0} (Is Within : Grammar A) (Where : Refusals) (read : Reads A)
    (bytes : List ℕ) : TextRefusal → Type 0 where
  too_long : 1048576 < length bytes
      → IsRefused Is Within Where read bytes (record { line = 1; column = 1; why = why.Long })
  tokens : (ts : List Token) (r : Refusal) → length bytes ≤ 1048576
      → Tokens (length bytes) bytes ts
      → FirstPlace (Whole Is) (Whole Within) Where (whole read) ts r
      → IsRefused Is Within Where read bytes (located bytes r)

-- ---- what a reader of texts answers

-- the tokens of a text that isn't too long
pub record HasTokens (bytes : List ℕ) (ts : List Token) : Type 0 where
  pub short : length bytes ≤ 1048576
  pub are : Tokens (length bytes) bytes ts

abbrev pub refused_long : TextRefusal
refused_long = record { line = 1; column = 1; why = why.Long }

-- the refusal is that of the text's tokens, or the text is too long
pub data IsRefusedBy {A : Type 0} (read : Reads A) (bytes : List ℕ) : TextRefusal → Type 0 where
  past_limit : 1048576 < length bytes → IsRefusedBy read bytes refused_long
  by_tokens : (ts : List Token) (r : Refusal) → HasTokens bytes ts → whole read ts ≡ Err r
      → IsRefusedBy read bytes (located bytes r)

-- the value of the text's tokens, or why they have none
abbrev pub IsReadBy : {A : Type 0} → Reads A → List ℕ → Result A ReadFault → Type 0
IsReadBy read bytes (Ok x) = (ts : List Token) × HasTokens bytes ts × (whole read ts ≡ Ok x)
IsReadBy read bytes (Err (fault.Text r)) = IsRefusedBy read bytes r
IsReadBy read bytes (Err fault.Memory) = Unit {0}
