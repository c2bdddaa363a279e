-- Readers of tokens whose sentences may be before anything.
use Rattle.std.specs.Prelude.{◌≡◌, Bool, if◌then◌else◌, List, [], ◌∷◌, ◌++◌, Ok, Err}
use Rattle.pipes_token.specs.declared.token.TokenKind.{TokenKind}
use Rattle.pipes_token.specs.declared.token.Token.{Token}
use Rattle.pipes_reader.specs.Reading.{Reads, kinds_of, run_out, refused_by}

-- the tokens begin with a sentence of this value, and these are left
abbrev pub SentencePrefix : {A : Type 0} → (A → List TokenKind → Type 0) → A → List Token
    → List Token
    → Type 0
SentencePrefix Is x ts rest = (prefix : List Token) × Is x (kinds_of prefix) × (ts ≡ prefix ++ rest)

-- one token that is wanted
unfoldable pub wanted : (TokenKind → Bool) → Reads (Unit {0})
wanted is [] = Err run_out
wanted is (t ∷ ts) = if is t.kind then Ok (tt, ts) else Err (refused_by t.kind t.at)
