-- The names of a text are words that texts have as names.
use Rattle.std.proofs.Common.{◌≡◌, ℕ, List, [], ◌∷◌, sym, subst}
use Rattle.pipes_token.specs.declared.token.TokenKind.{TokenKind}
use Rattle.pipes_token.specs.declared.token.TokenKind.TheVariants.{Sign, Keyword, Name, Number}
use Rattle.pipes_token.specs.declared.token.TokenKind.TheVariants.{Text, Long, Cut, Byte, End}
use Rattle.pipes_token.specs.declared.token.Token.{Token}
use Rattle.pipes_token.specs.Spelling.{Spells}
use Rattle.pipes_token.specs.Tokens.{Tokens, Stops}
use Rattle.pipes_token.specs.Tokens as lexed
use Rattle.pipes_reader.specs.Reading.{kinds_of}
use Rattle.pipes_reader.specs.Names.{IsSourceName}

abbrev pub IsNamed : TokenKind → Type 0
IsNamed (Name w) = IsSourceName w
IsNamed _ = Unit {0}

abbrev pub AreNamed : List TokenKind → Type 0
AreNamed [] = Unit {0}
AreNamed (k ∷ ks) = IsNamed k × AreNamed ks

spelled_kind : (k : TokenKind) (bs : List ℕ) → Spells k bs → IsNamed k
spelled_kind (Name w) bs s = (s.1, s.2)
spelled_kind (Sign x) bs s = tt
spelled_kind (Keyword x) bs s = tt
spelled_kind (Number x) bs s = tt
spelled_kind (Text x) bs s = tt
spelled_kind (Cut x) bs s = tt
spelled_kind Long bs s = tt
spelled_kind Byte bs s = tt
spelled_kind End bs s = tt

last_kind : (n : ℕ) (here : List ℕ) (k : TokenKind) → Stops n here k → IsNamed k
last_kind n here (Name w) s = absurd s
last_kind n here (Sign x) s = tt
last_kind n here (Keyword x) s = tt
last_kind n here (Number x) s = tt
last_kind n here (Text x) s = tt
last_kind n here (Cut x) s = tt
last_kind n here Long s = tt
last_kind n here Byte s = tt
last_kind n here End s = tt

pub text_named : (n : ℕ) (bs : List ℕ) (ts : List Token) → Tokens n bs ts → AreNamed (kinds_of ts)
text_named n _ _ (lexed.next bs here rest t ts placed begins short others) =
    (spelled_kind t.kind begins.spelling begins.spells, text_named n rest ts others)
text_named n _ _ (lexed.too_long bs here rest t placed begins long) =
    (spelled_kind t.kind begins.spelling begins.spells, tt)
text_named n _ _ (lexed.stopped bs here t placed stops) = (last_kind n here t.kind stops, tt)
