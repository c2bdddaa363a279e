-- Readers of tokens: a value and the tokens that are left, or the first refusal.
use Rattle.std.specs.Prelude.{◌≡◌, ℕ, zero, suc, Bool, true, false, List, [], ◌∷◌, ◌++◌, map}
use Rattle.std.specs.Prelude.{Option, Some, None, Result, Ok, Err}
use Rattle.pipes_time.specs.Results.{◌>>=◌}
use Rattle.pipes_token.specs.declared.refusal.TextWhy.{TextWhy}
use Rattle.pipes_token.specs.declared.refusal.TextWhy.TheVariants as why
use Rattle.pipes_token.specs.declared.refusal.Refusal.{Refusal}
use Rattle.pipes_token.specs.declared.token.TokenKind.{TokenKind}
use Rattle.pipes_token.specs.declared.token.TokenKind.TheVariants.{Long, Byte, End}
use Rattle.pipes_token.specs.declared.token.Token.{Token}
use Rattle.pipes_reader.specs.declared.fault.ParseFault.{ParseFault}
use Rattle.pipes_reader.specs.declared.fault.ParseFault.TheVariants.{Refused, Memory}

abbrev pub Reads : Type 0 → Type 0
Reads A = List Token → Result (A × List Token) Refusal

-- ---- what a function of the code returned, seen by view, is what is read, unless memory ran out

abbrev pub Fails : {Y : Type 0} → ParseFault → Result Y Refusal → Type 0
Fails (Refused r) read = read ≡ Err r
Fails Memory read = Unit {0}

abbrev pub Gives : {X Y : Type 0} → (X → Y) → Result X ParseFault → Result Y Refusal → Type 0
Gives view (Ok x) read = read ≡ Ok (view x)
Gives view (Err fault) read = Fails fault read

-- the same of a function that goes on from some tokens to others
abbrev pub GivesFrom : {X Y : Type 0} → (X → Y) → Reads Y → List Token → List Token
    → Result X ParseFault → Type 0
GivesFrom view read ts rest (Ok x) = read ts ≡ Ok (view x, rest)
GivesFrom view read ts rest (Err fault) = Fails fault (read ts)

-- ---- tokens

abbrev pub kinds_of : List Token → List TokenKind
kinds_of ts = map (λ (t : Token). t.kind) ts

-- this value is read, and these tokens are left
abbrev pub done : {A : Type 0} → A → List Token → Result (A × List Token) Refusal
done x rest = Ok (x, rest)

-- ---- refusals

abbrev pub refusal : ℕ → TextWhy → Refusal
refusal at why = record { at = at; why = why }

-- no token is left, not even the last one of a text
abbrev pub run_out : Refusal
run_out = refusal 0 why.Ended

-- a token that the grammar doesn't allow here
abbrev pub refused_by : TokenKind → ℕ → Refusal
refused_by Long at = refusal at why.Long
refused_by Byte at = refusal at why.Byte
refused_by End at = refusal at why.Ended
refused_by _ at = refusal at why.Token

-- a token that is refused whatever it is, at another place or for another cause; a byte that begins
-- no token and the end of the text keep their own
abbrev pub refused_as : Refusal → TokenKind → ℕ → Refusal
refused_as r Byte at = refused_by Byte at
refused_as r End at = refused_by End at
refused_as r _ at = r

-- the place of the first token
abbrev pub place_of : List Token → ℕ
place_of [] = 0
place_of (t ∷ ts) = t.at

-- a level is entered that is too deep, in a whole that begins at this place
unfoldable pub too_deep : ℕ → List Token → Refusal
too_deep whole [] = run_out
too_deep whole (t ∷ ts) = refused_as (refusal whole why.Deep) t.kind t.at

-- an entry begins that is one too many
unfoldable pub too_many : List Token → Refusal
too_many [] = run_out
too_many (t ∷ ts) = refused_as (refusal t.at why.Many) t.kind t.at

-- the tokens after the first
abbrev pub after_first : List Token → List Token
after_first [] = []
after_first (t ∷ ts) = ts

-- ---- readers of one token or of none

abbrev pub done_with : {A : Type 0} → A → Reads A
done_with x ts = Ok (x, ts)

abbrev pub taken_or : {A : Type 0} → Option A → Refusal → Reads A
taken_or (Some x) r ts = Ok (x, ts)
taken_or None r ts = Err r

-- the first token is taken as this value, or refused where there is none
unfoldable pub take_first : {A : Type 0} → Option A → Refusal → Reads A
take_first value r [] = Err run_out
take_first value r (t ∷ ts) = taken_or value r ts

-- the first token's value, or its refusal where it has none
unfoldable pub take_by : {A : Type 0} → (TokenKind → Option A) → (TokenKind → ℕ → Refusal) → Reads A
take_by value refused [] = Err run_out
take_by value refused (t ∷ ts) = taken_or (value t.kind) (refused t.kind t.at) ts

abbrev pub taken_if : {A : Type 0} → Option A → Token → Reads (Option A)
taken_if (Some x) t ts = Ok (Some x, ts)
taken_if None t ts = Ok (None, t ∷ ts)

-- the first token's value where it has one, or nothing
unfoldable pub optional : {A : Type 0} → (TokenKind → Option A) → Reads (Option A)
optional value [] = Ok (None, [])
optional value (t ∷ ts) = taken_if (value t.kind) t ts

abbrev pub barred : {A B : Type 0} → Option A → Refusal → B → Token → Reads B
barred (Some x) r v t ts = Err r
barred None r v t ts = Ok (v, t ∷ ts)

-- this value, unless a token is here that begins one too many
unfoldable pub unless : {A B : Type 0} → (TokenKind → Option A) → (TokenKind → ℕ → Refusal) → B
    → Reads B
unless value refused v [] = Ok (v, [])
unless value refused v (t ∷ ts) = barred (value t.kind) (refused t.kind t.at) v t ts

-- ---- readers in turn

-- a reader that goes on with what the first one read
abbrev pub in_turn : {A B : Type 0} → Reads A → (A → Reads B) → Reads B
in_turn read next ts = read ts >>= λ x. next x.0 x.1

abbrev pub tail_of : {A B : Type 0} → (A → Reads B) → B → Option A → Reads B
tail_of tail v (Some x) = tail x
tail_of tail v None = done_with v

-- a tail where the first token begins one, or this value
abbrev pub with_tail : {A B : Type 0} → (TokenKind → Option A) → (A → Reads B) → B → Reads B
with_tail value tail v = in_turn (optional value) (tail_of tail v)

-- what was read, or what others go on to read
abbrev pub followed : {A : Type 0} → Bool → A → Reads A → Reads A
followed true x others ts = others ts
followed false x others ts = Ok (x, ts)

-- Steps from a state, each of which says whether another follows, at most so many; after the last
-- of them `over`.
unfoldable pub many_within : {S : Type 0} → ℕ → (S → Reads (S × Bool)) → (S → Reads S) → S → Reads S
many_within zero step over s ts = over s ts
many_within (suc left) step over s ts =
    step s ts >>= λ o. followed o.0.1 o.0.0 (many_within left step over o.0.0) o.1

-- ---- a whole text

abbrev pub at_end : {A : Type 0} → A → TokenKind → ℕ → Result A Refusal
at_end x End at = Ok x
at_end x k at = Err (refused_by k at)

abbrev pub then_end : {A : Type 0} → A → List Token → Result A Refusal
then_end x [] = Err run_out
then_end x (t ∷ ts) = at_end x t.kind t.at

-- the value of all tokens of a text
abbrev pub whole : {A : Type 0} → Reads A → List Token → Result A Refusal
whole read ts = read ts >>= λ x. then_end x.0 x.1
