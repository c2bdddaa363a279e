-- The list of tokens, one token after the other.
use Rattle.std.proofs.Common.{◌≡◌, ◌≢◌, ℕ, ◌<◌, true, false, List, [], ◌∷◌, ◌++◌, length, refl, sym}
use Rattle.std.proofs.Common.{ap, subst, true≢false, ◌∙◌, arith, inl, inr, append_assoc}
use Rattle.std.proofs.Common.{length-append}
use Rattle.pipes_token.specs.declared.token.TokenKind.{TokenKind}
use Rattle.pipes_token.specs.declared.token.TokenKind.TheVariants.{Sign, Keyword, Name, Number}
use Rattle.pipes_token.specs.declared.token.TokenKind.TheVariants.{Text, Long, Cut, Byte, End}
use Rattle.pipes_token.specs.declared.token.Token.{Token}
use Rattle.pipes_token.specs.Spelling.{Spells}
use Rattle.pipes_token.specs.Tokens.{IsPlaced, TokenBegins, Stops, Tokens, next, too_long, stopped}
use Rattle.pipes_token.specs.Tokens.{is_last, ReadsToken, Follows}
use Rattle.pipes_token.proofs.ByFirst.{never_empty}
use Rattle.pipes_token.proofs.Gaps.{past_shorter}

spelled_last : (kind : TokenKind) (bs : List ℕ) → is_last kind ≡ true → Spells kind bs → kind ≡ Long
spelled_last Long bs h k = refl
spelled_last (Cut r) bs h k = absurd k
spelled_last Byte bs h k = absurd k
spelled_last End bs h k = absurd k
spelled_last (Sign s) bs h k = absurd (true≢false (sym h))
spelled_last (Keyword w) bs h k = absurd (true≢false (sym h))
spelled_last (Name w) bs h k = absurd (true≢false (sym h))
spelled_last (Number i) bs h k = absurd (true≢false (sym h))
spelled_last (Text t) bs h k = absurd (true≢false (sym h))

stop_is_last : (n : ℕ) (here : List ℕ) (kind : TokenKind) → Stops n here kind → is_last kind ≡ true
stop_is_last n here (Cut r) h = refl
stop_is_last n here Byte h = refl
stop_is_last n here End h = refl
stop_is_last n here Long h = absurd h
stop_is_last n here (Sign s) h = absurd h
stop_is_last n here (Keyword w) h = absurd h
stop_is_last n here (Name w) h = absurd h
stop_is_last n here (Number i) h = absurd h
stop_is_last n here (Text t) h = absurd h

last_by : (n : ℕ) (bs here rest : List ℕ) (t : Token) → IsPlaced n bs here t
    → ReadsToken n here t.kind rest → is_last t.kind ≡ true → Tokens n bs (t ∷ [])
last_by n bs here rest t p (inl h) l = too_long bs here rest t p h
    (spelled_last t.kind h.spelling l h.spells)
last_by n bs here rest t p (inr h) l = stopped bs here t p h

pub follows_last : (n : ℕ) (bs rest : List ℕ) (t : Token) → Follows n bs t rest
    → is_last t.kind ≡ true → Tokens n bs (t ∷ [])
follows_last n bs rest t f l = last_by n bs f.here rest t f.placed f.reads l

not_long : (kind : TokenKind) → is_last kind ≡ false → kind ≢ Long
not_long kind h e = true≢false (sym (ap is_last e) ∙ h)

next_by : (n : ℕ) (bs here rest : List ℕ) (t : Token) (ts : List Token) → IsPlaced n bs here t
    → ReadsToken n here t.kind rest → is_last t.kind ≡ false → Tokens n rest ts
    → Tokens n bs (t ∷ ts)
next_by n bs here rest t ts p (inl h) l k = next bs here rest t ts p h (not_long t.kind l) k
next_by n bs here rest t ts p (inr h) l k = absurd (true≢false (sym (stop_is_last n here t.kind h)
    ∙ l))

pub follows_next : (n : ℕ) (bs rest : List ℕ) (t : Token) (ts : List Token) → Follows n bs t rest
    → is_last t.kind ≡ false → Tokens n rest ts → Tokens n bs (t ∷ ts)
follows_next n bs rest t ts f l k = next_by n bs f.here rest t ts f.placed f.reads l k

spelled_some : (kind : TokenKind) (bs : List ℕ) → Spells kind bs → 0 < length bs
spelled_some kind [] h = absurd (never_empty kind h)
spelled_some kind (b ∷ bs) h = omega arith

begins_shorter : (kind : TokenKind) (here rest : List ℕ) → TokenBegins kind here rest
    → length rest < length here
begins_shorter kind here rest h = omega (
  arith,
  spelled_some kind h.spelling h.spells,
  ap (λ (x : List ℕ). length x) h.parts,
  length-append h.spelling rest,
)

reads_shorter : (n : ℕ) (here rest : List ℕ) (kind : TokenKind) → ReadsToken n here kind rest
    → is_last kind ≡ false → length rest < length here
reads_shorter n here rest kind (inl h) l = begins_shorter kind here rest h
reads_shorter n here rest kind (inr h) l =
    absurd (true≢false (sym (stop_is_last n here kind h) ∙ l))

pub follows_shorter : (n : ℕ) (bs rest : List ℕ) (t : Token) → Follows n bs t rest
    → is_last t.kind ≡ false → length rest < length bs
follows_shorter n bs rest t f l = omega (
  arith,
  reads_shorter n f.here rest t.kind f.reads l,
  past_shorter bs f.here f.placed.past_gap,
)

-- ---- the loop

abbrev pub Whole : ℕ → List ℕ → List ℕ → List Token → Type 0
Whole n bytes rest made = (more : List Token) → Tokens n rest more → Tokens n bytes (made ++ more)

pub whole_more : (n : ℕ) (bytes bs rest : List ℕ) (made longer : List Token) (t : Token)
    → longer ≡ made ++ (t ∷ []) → Follows n bs t rest → is_last t.kind ≡ false
    → Whole n bytes bs made → Whole n bytes rest longer
whole_more n bytes bs rest made longer t e f l w more k =
    subst (λ (x : List Token). Tokens n bytes x) (sym (ap (λ (x : List Token). x ++ more) e
    ∙ append_assoc made (t ∷ []) more)) (w (t ∷ more) (follows_next n bs rest t more f l k))

pub whole_last : (n : ℕ) (bytes bs rest : List ℕ) (made longer : List Token) (t : Token)
    → longer ≡ made ++ (t ∷ []) → Follows n bs t rest → is_last t.kind ≡ true
    → Whole n bytes bs made → Tokens n bytes longer
whole_last n bytes bs rest made longer t e f l w =
    subst (λ (x : List Token). Tokens n bytes x) (sym e) (w (t ∷ []) (follows_last n bs rest t f l))
