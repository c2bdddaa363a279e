-- The bytes of a text have one list of tokens alone.
use Rattle.std.proofs.Common.{◌≡◌, ℕ, List, [], ◌∷◌, ◌++◌, length, refl, sym, ap, ap₂, subst, ◌∙◌}
use Rattle.std.proofs.Common.{arith, inl, inr, append-nil}
use Rattle.std.proofs.lemmas.Bool.{cases_lt}
use Rattle.pipes_token.specs.declared.refusal.Refusal.{Refusal}
use Rattle.pipes_token.specs.declared.token.TokenKind.{TokenKind}
use Rattle.pipes_token.specs.declared.token.TokenKind.TheVariants.{Sign, Keyword, Name, Number}
use Rattle.pipes_token.specs.declared.token.TokenKind.TheVariants.{Text, Long, Cut, Byte, End}
use Rattle.pipes_token.specs.declared.token.Token.{Token}
use Rattle.pipes_token.specs.Strings.{IsString, IsBrokenString}
use Rattle.pipes_token.specs.Spelling.{Spells, IsLongest, BeginsNone}
use Rattle.pipes_token.specs.Tokens.{IsPlaced, TokenBegins, StopsText, Stops, Tokens, next}
use Rattle.pipes_token.specs.Tokens.{too_long}
use Rattle.pipes_token.specs.Tokens.{stopped}
use Rattle.pipes_token.proofs.Gaps.{same_past}
use Rattle.pipes_token.proofs.Strings.{not_cut, same_cut}
use Rattle.pipes_token.proofs.Prefixes.{Continues, continues}
use Rattle.pipes_token.proofs.ByFirst.{Of, class_of, a_string, by_first, never_empty, same_kind}

-- ---- tokens that begin at one place

longest_by : (kind other : TokenKind) (s t x y : List ℕ) → IsLongest s x → Spells other t
    → Continues s t x y → s ≡ t
longest_by kind other s t x y long spells c =
    let none = long other c.more y c.rest_is (subst (Spells other) c.longer_is spells) in
    sym (c.longer_is ∙ ap (λ (z : List ℕ). s ++ z) none ∙ append-nil s)

same_spelling : (kind other : TokenKind) (s t x y : List ℕ) → Spells kind s → Spells other t
    → IsLongest s x → IsLongest t y → s ++ x ≡ t ++ y → s ≡ t
same_spelling kind other s t x y p q long wide e = elim (cases_lt (length t) (length s)) [
  | inl less ↦ sym (longest_by other kind t s y x wide p (continues t s y x (sym e) (omega arith)))
  | inr more ↦ longest_by kind other s t x y long q (continues s t x y e more)
]

append_same : (s t x y : List ℕ) → s ≡ t → s ++ x ≡ t ++ y → x ≡ y
append_same [] [] x y p e = e
append_same [] (c ∷ t) x y p e = absurd cc
append_same (b ∷ s) [] x y p e = absurd cc
append_same (b ∷ s) (c ∷ t) x y p e =
    let prefix : s ≡ t = cc in
    let rest : s ++ x ≡ t ++ y = cc in
    append_same s t x y prefix rest

same_begin : (kind other : TokenKind) (here rest left : List ℕ) → TokenBegins kind here rest
    → TokenBegins other here left → (kind ≡ other) × (rest ≡ left)
same_begin kind other here rest left p q =
    let parts = sym p.parts ∙ q.parts in
    let spelling = same_spelling kind other p.spelling q.spelling rest left p.spells q.spells
    p.longest q.longest parts in (
      same_kind kind other q.spelling (subst (Spells kind) spelling p.spells) q.spells,
      append_same p.spelling q.spelling rest left spelling parts,
    )

-- ---- where no token begins

some_begin : (kind : TokenKind) (s rest : List ℕ) → [] ≡ s ++ rest → Spells kind s → ⊥
some_begin kind [] rest e h = never_empty kind h
some_begin kind (b ∷ s) rest e h = absurd cc

none_by_byte : (kind : TokenKind) (here s rest : List ℕ) → here ≡ s ++ rest → Spells kind s
    → StopsText here → ⊥
none_by_byte kind [] s rest e h k = k
none_by_byte kind (b ∷ bs) [] rest e h k = never_empty kind h
none_by_byte kind (b ∷ bs) (c ∷ s) rest e h k =
    let same : c ≡ b = cc in
    k kind s (subst (λ (x : ℕ). Spells kind (x ∷ s)) same h)

of_quote : (kind : TokenKind) (b : ℕ) (s : List ℕ) → b ≡ 34 → Spells kind (b ∷ s)
    → Of a_string (b ∷ s) kind
of_quote kind b s e h = subst (λ (x : ℕ). Of (class_of x) (b ∷ s) kind) e (by_first kind b s h)

not_both : (n : ℕ) (kind : TokenKind) (here s rest : List ℕ) (refusal : Refusal) → here ≡ s ++ rest
    → Spells kind s → IsBrokenString n here refusal → ⊥
not_both n kind here [] rest refusal e h k = never_empty kind h
not_both n kind here (b ∷ s) rest refusal e h k =
    let begins : b ∷ (s ++ rest) ≡ 34 ∷ (k.inside ++ k.left) = sym e ∙ k.begins in
    let quote : b ≡ 34 = cc in
    let string = of_quote kind b s quote h in
    not_cut n string.0 (b ∷ s) rest here refusal string.1 e k

not_stopped : (n : ℕ) (kind other : TokenKind) (here rest : List ℕ) → TokenBegins kind here rest
    → Stops n here other → ⊥
not_stopped n kind End here rest p h = some_begin kind p.spelling rest (sym h ∙ p.parts) p.spells
not_stopped n kind Byte here rest p h = none_by_byte kind here p.spelling rest p.parts p.spells h
not_stopped n kind (Cut refusal) here rest p h = not_both n kind here p.spelling rest refusal
    p.parts p.spells h
not_stopped n kind (Sign s) here rest p h = h
not_stopped n kind (Keyword k) here rest p h = h
not_stopped n kind (Name w) here rest p h = h
not_stopped n kind (Number i) here rest p h = h
not_stopped n kind (Text t) here rest p h = h
not_stopped n kind Long here rest p h = h

empty_string : IsString [] (34 ∷ 34 ∷ [])
empty_string = record {
  characters = [];
  inside = [];
  content_is = refl;
  spells = refl;
  quoted =
      refl;
}

quote_begins : (bs more : List ℕ) → bs ≡ 34 ∷ more → StopsText bs → ⊥
quote_begins [] more e h = h
quote_begins (b ∷ bs) more e h =
    let quote : b ≡ 34 = cc in
    subst BeginsNone quote h (Text []) (34 ∷ []) (empty_string, omega arith)

none_at_end : (bs : List ℕ) → bs ≡ [] → StopsText bs → ⊥
none_at_end [] e h = h
none_at_end (b ∷ bs) e h = absurd cc

same_stop : (n : ℕ) (kind other : TokenKind) (here : List ℕ) → Stops n here kind
    → Stops n here other → kind ≡ other
same_stop n End End here h k = refl
same_stop n End Byte here h k = absurd (none_at_end here h k)
same_stop n End (Cut r) here h k =
    let begins : [] ≡ 34 ∷ (k.inside ++ k.left) = sym h ∙ k.begins in
    absurd cc
same_stop n Byte End here h k = absurd (none_at_end here k h)
same_stop n Byte Byte here h k = refl
same_stop n Byte (Cut r) here h k = absurd (quote_begins here (k.inside ++ k.left) k.begins h)
same_stop n (Cut r) End here h k =
    let begins : [] ≡ 34 ∷ (h.inside ++ h.left) = sym k ∙ h.begins in
    absurd cc
same_stop n (Cut r) Byte here h k = absurd (quote_begins here (h.inside ++ h.left) h.begins k)
same_stop n (Cut r) (Cut s) here h k = ap Cut (same_cut n here r s h k)
same_stop n (Sign s) other here h k = absurd h
same_stop n (Keyword w) other here h k = absurd h
same_stop n (Name w) other here h k = absurd h
same_stop n (Number i) other here h k = absurd h
same_stop n (Text t) other here h k = absurd h
same_stop n Long other here h k = absurd h
same_stop n other (Sign s) here h k = absurd k
same_stop n other (Keyword w) here h k = absurd k
same_stop n other (Name w) here h k = absurd k
same_stop n other (Number i) here h k = absurd k
same_stop n other (Text t) here h k = absurd k
same_stop n other Long here h k = absurd k

-- ---- the whole list

same_place : (n : ℕ) (bs here there : List ℕ) (t u : Token) → IsPlaced n bs here t
    → IsPlaced n bs there u → (here ≡ there) × (t.at ≡ u.at)
same_place n bs here there t u p q =
    let left = same_past bs here there p.past_gap q.past_gap in
    let many : length here ≡ length there = ap (λ (x : List ℕ). length x) left in
    let place : t.at ≡ u.at = omega (arith, p.place, q.place, many) in
    (left, place)

same_token : (t u : Token) → t.at ≡ u.at → t.kind ≡ u.kind → t ≡ u
same_token t u e f =
    let made : ℕ → TokenKind → Token = λ (a : ℕ) (k : TokenKind). record { at = a; kind = k } in
    ap₂ made e f

begins_here : (kind : TokenKind) (here there rest : List ℕ) → here ≡ there
    → TokenBegins kind here rest
    → TokenBegins kind there rest
begins_here kind here there rest e h = subst (λ (x : List ℕ). TokenBegins kind x rest) e h

both_begin : (n : ℕ) (bs here there rest left : List ℕ) (t u : Token) → IsPlaced n bs here t
    → IsPlaced n bs there u → TokenBegins t.kind here rest → TokenBegins u.kind there left → (t ≡ u)
    × (t.kind ≡ u.kind) × (rest ≡ left)
both_begin n bs here there rest left t u p q h k =
    let place = same_place n bs here there t u p q in
    let same = same_begin t.kind u.kind there rest left (begins_here t.kind here there rest place.0
    h) k in
    (same_token t u place.1 same.0, same.0, same.1)

one_stops : (n : ℕ) (bs here there rest : List ℕ) (t u : Token) → IsPlaced n bs here t
    → IsPlaced n bs there u → TokenBegins t.kind here rest → Stops n there u.kind → ⊥
one_stops n bs here there rest t u p q h k =
    not_stopped n t.kind u.kind there rest (begins_here t.kind here there rest
    (same_place n bs here there t u p q).0 h) k

both_stop : (n : ℕ) (bs here there : List ℕ) (t u : Token) → IsPlaced n bs here t
    → IsPlaced n bs there u → Stops n here t.kind → Stops n there u.kind → t ≡ u
both_stop n bs here there t u p q h k =
    let place = same_place n bs here there t u p q in
    same_token t u place.1 (same_stop n t.kind u.kind there
    (subst (λ (x : List ℕ). Stops n x t.kind) place.0 h) k)

alone : (t u : Token) → t ≡ u → t ∷ [] ≡ u ∷ []
alone t u e = ap (λ (x : Token). x ∷ []) e

pub same_tokens : (n : ℕ) (bs : List ℕ) (ts us : List Token) → Tokens n bs ts → Tokens n bs us
    → ts ≡ us
same_tokens n bs _ _ (next _ here rest t ts p h long more) (next _ there left u us q k wide
    others) =
    let same = both_begin n bs here there rest left t u p q h k in
    ap₂ (λ (x : Token) (xs : List Token). x ∷ xs) same.0 (same_tokens n rest ts us more
    (subst (λ (x : List ℕ). Tokens n x us) (sym same.2) others))
same_tokens n bs _ _ (next _ here rest t ts p h long more) (too_long _ there left u q k wide) =
    absurd (long ((both_begin n bs here there rest left t u p q h k).1 ∙ wide))
same_tokens n bs _ _ (next _ here rest t ts p h long more) (stopped _ there u q k) =
    absurd (one_stops n bs here there rest t u p q h k)
same_tokens n bs _ _ (too_long _ here rest t p h long) (next _ there left u us q k wide others) =
    absurd (wide (sym (both_begin n bs here there rest left t u p q h k).1 ∙ long))
same_tokens n bs _ _ (too_long _ here rest t p h long) (too_long _ there left u q k wide) =
    alone t u (both_begin n bs here there rest left t u p q h k).0
same_tokens n bs _ _ (too_long _ here rest t p h long) (stopped _ there u q k) =
    absurd (one_stops n bs here there rest t u p q h k)
same_tokens n bs _ _ (stopped _ here t p h) (next _ there left u us q k wide others) =
    absurd (one_stops n bs there here left u t q p k h)
same_tokens n bs _ _ (stopped _ here t p h) (too_long _ there left u q k wide) =
    absurd (one_stops n bs there here left u t q p k h)
same_tokens n bs _ _ (stopped _ here t p h) (stopped _ there u q k) =
    alone t u (both_stop n bs here there t u p q h k)
