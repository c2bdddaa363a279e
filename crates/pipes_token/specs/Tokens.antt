-- The tokens of a text.
use Rattle.std.specs.Prelude.{◌≡◌, ◌≢◌, ℕ, ◌+◌, Bool, true, false, List, [], ◌∷◌, ◌++◌, length, ◌⊎◌}
use Rattle.pipes_token.specs.declared.token.TokenKind.{TokenKind}
use Rattle.pipes_token.specs.declared.token.TokenKind.TheVariants.{Long, Cut, Byte, End}
use Rattle.pipes_token.specs.declared.token.Token.{Token}
use Rattle.pipes_token.specs.Gaps.{IsPastGap}
use Rattle.pipes_token.specs.Strings.{IsBrokenString}
use Rattle.pipes_token.specs.Spelling.{Spells, IsLongest, BeginsNone}

-- The token's place in a text of n bytes, of which `bs` are left before it and `here` after the
-- gap before it.
pub record IsPlaced (n : ℕ) (bs here : List ℕ) (token : Token) : Type 0 where
  pub past_gap : IsPastGap bs here
  pub place : token.at + length here ≡ n

-- A token of the kind begins here, spelled by the longest bytes that spell any token, and `rest` is
-- left after it.
pub record TokenBegins (kind : TokenKind) (here rest : List ℕ) : Type 0 where
  pub spelling : List ℕ
  pub parts : here ≡ spelling ++ rest
  pub spells : Spells kind spelling
  pub longest : IsLongest spelling rest

-- a byte stands here with which no token begins
abbrev pub StopsText : List ℕ → Type 0
StopsText [] = ⊥
StopsText (b ∷ bs) = BeginsNone b

-- No token is spelled here, in a text of n bytes: it ends, a byte begins no token, or a string is
-- refused.
abbrev pub Stops : ℕ → List ℕ → TokenKind → Type 0
Stops n here End = here ≡ []
Stops n here Byte = StopsText here
Stops n here (Cut refusal) = IsBrokenString n here refusal
Stops n here _ = ⊥

-- The tokens of the bytes that are left of a text of n bytes. What is too long, a refusal and the
-- end of the text are the last.
pub data Tokens (n : ℕ) : List ℕ → List Token → Type 0 where
  next : (bs here rest : List ℕ) (token : Token) (tokens : List Token) → IsPlaced n bs here token
      → TokenBegins token.kind here rest → token.kind ≢ Long → Tokens n rest tokens
      → Tokens n bs (token ∷ tokens)
  too_long : (bs here rest : List ℕ) (token : Token) → IsPlaced n bs here token
      → TokenBegins token.kind here rest → token.kind ≡ Long → Tokens n bs (token ∷ [])
  stopped : (bs here : List ℕ) (token : Token) → IsPlaced n bs here token → Stops n here token.kind
      → Tokens n bs (token ∷ [])

-- ---- one token after the other

-- no token follows
abbrev pub is_last : TokenKind → Bool
is_last Long = true
is_last (Cut refusal) = true
is_last Byte = true
is_last End = true
is_last _ = false

-- what stands here, in a text of n bytes: a token, and what is left after it, or why there is none
abbrev pub ReadsToken : ℕ → List ℕ → TokenKind → List ℕ → Type 0
ReadsToken n here kind rest = TokenBegins kind here rest ⊎ Stops n here kind

-- The token after the gap that stands here, in a text of n bytes, and what is left after it.
pub record Follows (n : ℕ) (bs : List ℕ) (token : Token) (rest : List ℕ) : Type 0 where
  pub here : List ℕ
  pub placed : IsPlaced n bs here token
  pub reads : ReadsToken n here token.kind rest
