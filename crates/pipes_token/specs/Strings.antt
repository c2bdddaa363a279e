-- Strings: characters between two quotes, and where one is refused.
use Rattle.std.specs.Prelude.{◌≡◌, ◌≢◌, ℕ, ◌+◌, Bool, true, not, ◌&&◌, ◌==◌, if◌then◌else◌, List}
use Rattle.std.specs.Prelude.{[], ◌∷◌, ◌++◌, length, Option, Some, None}
use Rattle.std.specs.Char.{IsScalar, encode_utf8}
use Rattle.std.specs.Str.{encode_utf8_all}
use Rattle.pipes_token.specs.declared.refusal.TextWhy.{TextWhy}
use Rattle.pipes_token.specs.declared.refusal.TextWhy.TheVariants.{Byte, Ended}
use Rattle.pipes_token.specs.declared.refusal.Refusal.{Refusal}

-- a character that stands for itself: no quote, no backslash and no LF
abbrev pub is_plain : ℕ → Bool
is_plain c = not (c == 34) && not (c == 92) && not (c == 10)

-- the character that a backslash and this byte stand for: a quote, a backslash, LF by `n`, CR by
-- `r`
abbrev pub escaped_by : ℕ → Option ℕ
escaped_by e = if e == 34 then Some 34 else if e == 92 then Some 92 else if e == 110 then Some 10
    else if e == 114 then Some 13 else None

-- The bytes stand for the character inside a string: its UTF-8, or an escape.
pub data SpellsChar (c : ℕ) (bs : List ℕ) : Type 0 where
  itself : IsScalar c → is_plain c ≡ true → bs ≡ encode_utf8 c → SpellsChar c bs
  escape : (e : ℕ) → escaped_by e ≡ Some c → bs ≡ 92 ∷ e ∷ [] → SpellsChar c bs

-- The bytes begin with what stands for the character, and `rest` is left after that.
pub record BeginsChar (bs : List ℕ) (c : ℕ) (rest : List ℕ) : Type 0 where
  pub prefix : List ℕ
  pub parts : bs ≡ prefix ++ rest
  pub spells : SpellsChar c prefix

-- The bytes stand for the characters, one after the other.
abbrev pub SpellsChars : List ℕ → List ℕ → Type 0
SpellsChars [] bs = bs ≡ []
SpellsChars (c ∷ cs) bs = (prefix more : List ℕ) × SpellsChar c prefix × (bs ≡ prefix ++ more)
    × SpellsChars cs more

-- A string: a quote, what stands for the characters of its content, and a quote.
pub record IsString (content bs : List ℕ) : Type 0 where
  pub characters : List ℕ
  pub inside : List ℕ
  pub content_is : content ≡ encode_utf8_all characters
  pub spells : SpellsChars characters inside
  pub quoted : bs ≡ 34 ∷ (inside ++ (34 ∷ []))

-- nothing that stands for a character begins here
abbrev pub HasNoChar : List ℕ → Type 0
HasNoChar bs = (c : ℕ) (prefix more : List ℕ) → bs ≡ prefix ++ more → ¬ (SpellsChar c prefix)

-- why a string can't go on here: the text ends, or a byte stands here that is no quote and begins
-- nothing that stands for a character
abbrev pub StopsString : TextWhy → List ℕ → Type 0
StopsString why [] = why ≡ Ended
StopsString why (b ∷ bs) = (why ≡ Byte) × (b ≢ 34) × HasNoChar (b ∷ bs)

-- A string begins here and is refused after some characters, in a text of n bytes of which `left`
-- are left there.
pub record IsBrokenString (n : ℕ) (bs : List ℕ) (refusal : Refusal) : Type 0 where
  pub characters : List ℕ
  pub inside : List ℕ
  pub left : List ℕ
  pub spells : SpellsChars characters inside
  pub begins : bs ≡ 34 ∷ (inside ++ left)
  pub place : refusal.at + length left ≡ n
  pub stops : StopsString refusal.why left

-- Inside a string: the longest bytes that stand for characters, the UTF-8 of these, and what is
-- left after them.
pub record IsInside (bs content left : List ℕ) : Type 0 where
  pub characters : List ℕ
  pub inside : List ℕ
  pub parts : bs ≡ inside ++ left
  pub spells : SpellsChars characters inside
  pub content_is : content ≡ encode_utf8_all characters
  pub longest : HasNoChar left
