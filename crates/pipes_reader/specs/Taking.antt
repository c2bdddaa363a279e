-- Values of one token: numbers, strings and names.
use Rattle.std.specs.Prelude.{ℕ, Bool, true, false, if◌then◌else◌, ◌&&◌, nat_le, List, [], ◌∷◌}
use Rattle.std.specs.Prelude.{Option, Some, None}
use Rattle.pipes_token.specs.declared.refusal.TextWhy.TheVariants as why
use Rattle.pipes_token.specs.declared.refusal.Refusal.{Refusal}
use Rattle.pipes_token.specs.declared.token.TokenKind.{TokenKind}
use Rattle.pipes_token.specs.declared.token.TokenKind.TheVariants.{Number, Text, Cut}
use Rattle.pipes_reader.specs.Reading.{Reads, refusal, refused_by, take_by}
use Rattle.pipes_reader.specs.Names.{is_taken}

-- ---- numbers

abbrev pub number_between : ℕ → ℕ → TokenKind → Option ℕ
number_between low high (Number n) = if nat_le low n && nat_le n high then Some n else None
number_between low high _ = None

-- another number is out of range
abbrev pub number_refused : TokenKind → ℕ → Refusal
number_refused (Number n) at = refusal at why.Range
number_refused k at = refused_by k at

unfoldable pub take_number : ℕ → ℕ → Reads ℕ
take_number low high ts = take_by (number_between low high) number_refused ts

-- ---- strings

abbrev pub string_content : TokenKind → Option (List ℕ)
string_content (Text content) = Some content
string_content _ = None

-- a broken string is refused where it breaks, since a string may be here
abbrev pub text_refused : TokenKind → ℕ → Refusal
text_refused (Cut r) at = r
text_refused k at = refused_by k at

unfoldable pub take_text : Reads (List ℕ)
take_text ts = take_by string_content text_refused ts

-- ---- names

abbrev pub unless_taken : List (List ℕ) → Option (List ℕ) → Option (List ℕ)
unless_taken names (Some word) = if is_taken names word then None else Some word
unless_taken names None = None

-- a word that is taken is a name that is declared twice
abbrev pub name_refused : Option (List ℕ) → TokenKind → ℕ → Refusal
name_refused (Some word) k at = refusal at why.Name
name_refused None k at = refused_by k at

-- a name that isn't among these, of the words that may be here
unfoldable pub take_name : (TokenKind → Option (List ℕ)) → List (List ℕ) → Reads (List ℕ)
take_name word names ts =
    take_by (λ k. unless_taken names (word k)) (λ k at. name_refused (word k) k at) ts
