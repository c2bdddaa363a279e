-- Bytes that were written as tokens, one after the other.
use Rattle.std.specs.Prelude.{◌≡◌, ℕ, ◌≤◌, false, List, [], ◌∷◌, ◌++◌, map, length}
use Rattle.pipes_token.specs.declared.token.TokenKind.{TokenKind}
use Rattle.pipes_token.specs.declared.token.Token.{Token}
use Rattle.pipes_token.specs.Spelling.{Spells, is_word_byte}
use Rattle.pipes_token.specs.Tokens.{Tokens}

-- a word or a number that stands before doesn't go on here
abbrev pub IsApart : List ℕ → Type 0
IsApart [] = Unit {0}
IsApart (b ∷ bs) = is_word_byte b ≡ false

-- The bytes that are left of a text of n bytes have tokens of these kinds, and then these tokens.
pub record BeginsWith (n : ℕ) (kinds : List TokenKind) (bs : List ℕ) (tokens : List Token) : Type 0
  where
    pub prefix : List Token
    pub are : map (λ (t : Token). t.kind) prefix ≡ kinds
    pub whole : Tokens n bs (prefix ++ tokens)

-- Wherever the bytes stand in a text, before what is so, they are tokens of these kinds.
pub record WritesBefore (P : List ℕ → Type 0) (kinds : List TokenKind) (bytes : List ℕ) : Type 0
  where
    pub begins : (n : ℕ) (more : List ℕ) (tokens : List Token) → length (bytes ++ more) ≤ n → P more
        → Tokens n more tokens → BeginsWith n kinds (bytes ++ more) tokens

-- before what is apart
abbrev pub Writes : List TokenKind → List ℕ → Type 0
Writes kinds bytes = WritesBefore IsApart kinds bytes

-- before anything
abbrev pub WritesFreely : List TokenKind → List ℕ → Type 0
WritesFreely kinds bytes = WritesBefore (λ more. Unit {0}) kinds bytes

-- the kind of a token that some bytes spell
abbrev pub IsSpelled : TokenKind → Type 0
IsSpelled kind = (bs : List ℕ) × Spells kind bs
