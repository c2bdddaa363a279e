-- What is put into a hold, element by element.
use Rattle.std.proofs.Common.{◌≡◌, ℕ, ◌+◌, ◌≤◌, ◌<◌, max, min, Bool, true, false, cond, ◌&&◌}
use Rattle.std.proofs.Common.{nat_lt, List, [], ◌∷◌, ◌++◌, length, take, get_or, refl, sym, ◌∙◌}
use Rattle.std.proofs.Common.{subst, ap, arith, append_assoc, append-nil, Option, Some, None}
use Rattle.std.specs.List.{flat_map}
use Rattle.std.proofs.lemmas.Bool.{lt-ltb, ltb-true}
use Rattle.std.proofs.lemmas.Grind.{flat_map-append}
use Rattle.std.proofs.lemmas.List.{take_more}
use Rattle.pipes_time.specs.Interval.{IsInterval, horizon}
use Rattle.pipes_tuple.proofs.Perm.{Perm, then, Perm-refl, Perm-left, Perm-right, Perm-equal}
use Rattle.pipes_tuple.proofs.Perm.{Perm-append_comm}
use Rattle.pipes_stream.specs.declared.Elem.{Elem}
use Rattle.pipes_relation.specs.declared.lists.Pair.{Pair}
use Rattle.pipes_expr.specs.declared.expr.Expr.{Expr}
use Rattle.pipes_relation.specs.Relations.{meets}
use Rattle.pipes_expr.specs.ExprValue.{passes}
use Rattle.pipes_sweep.specs.Areas.{is_overlap}
use Rattle.pipes_sweep.specs.Waiting.{placed}
use Rattle.pipes_sweep.proofs.Places.{placed-Perm}
use Rattle.pipes_pair.specs.Meeting.{both_of, joined_elem, joined_from, listed}

-- one element more is looked at
pub put_more : (made rest hold now : List Elem) → Perm now (made ++ hold)
    → Perm (rest ++ now) ((made ++ rest) ++ hold)
put_more made rest hold now h =
    then (Perm-left rest h)
    (then (Perm-equal (sym (append_assoc rest made hold)))
    (Perm-right hold (Perm-append_comm rest made)))

pub put_next : (f : Elem → List Elem) (e : Elem) (others rest hold now all : List Elem)
    → others ≡ e ∷ rest → Perm now (f e ++ hold) → Perm (flat_map f others ++ hold) all
    → Perm (flat_map f rest ++ now) all
put_next f e others rest hold now all is h k =
    then (put_more (f e) (flat_map f rest) hold now h)
    (subst (λ (es : List Elem). Perm (flat_map f es ++ hold) all) is k)

-- what two elements make is put
pub put_some : (made : List Elem) (o : Option Elem) (e : Elem) (hold now : List Elem)
    → listed o ≡ made → o ≡ Some e → now ≡ placed e hold → Perm now (made ++ hold)
put_some made o e hold now is some put =
    let one : e ∷ [] ≡ made = sym (ap listed some) ∙ is in
    then (Perm-equal put)
    (then (placed-Perm e hold) (Perm-equal (ap (λ (es : List Elem). es ++ hold) one)))

pub put_none : (made : List Elem) (o : Option Elem) (hold : List Elem)
    → listed o ≡ made → o ≡ None → Perm hold (made ++ hold)
put_none made o hold is none =
    Perm-equal (ap (λ (es : List Elem). es ++ hold) (sym (ap listed none) ∙ is))

nothing : (o m : Bool) (e : Elem) → o ≡ false → [] ≡ cond (o && m) (e ∷ []) []
nothing o m e h = rw h refl

unmet : (o m : Bool) (e : Elem) → m ≡ false → [] ≡ cond (o && m) (e ∷ []) []
unmet true m e h = rw h refl
unmet false m e h = refl

met : (o m : Bool) (e : Elem) → o ≡ true → m ≡ true → e ∷ [] ≡ cond (o && m) (e ∷ []) []
met o m e h k = rw (h, k) refl

below : (a b : ℕ) (c : Bool) → nat_lt a b ≡ c → (a < b → ⊥) → c ≡ false
below a b true e h = absurd (h (ltb-true a b e))
below a b false e h = refl

test_false : (a b : ℕ) → (a < b → ⊥) → nat_lt a b ≡ false
test_false a b h = below a b (nat_lt a b) refl h

-- spans with no instant in common
pub joined_apart : (c : Expr) (l r : Elem) → l.span.end ≤ horizon
    → (IsInterval (max l.span.start r.span.start) (min l.span.end r.span.end) → ⊥)
    → [] ≡ joined_elem [] c l r
joined_apart c l r most apart =
    nothing (is_overlap l.span r.span) (meets [] c l.tuple r.tuple) (both_of l r)
    (test_false (max l.span.start r.span.start) (min l.span.end r.span.end)
    (λ h. apart (h, omega (arith, most))))

-- rows that don't meet
pub joined_unmet : (c : Expr) (l r : Elem) → passes c (l.tuple ++ r.tuple) ≡ false
    → [] ≡ joined_elem [] c l r
joined_unmet c l r h =
    unmet (is_overlap l.span r.span) (passes c (l.tuple ++ r.tuple)) (both_of l r) h

-- rows that meet
pub joined_met : (c : Expr) (l r e : Elem)
    → IsInterval (max l.span.start r.span.start) (min l.span.end r.span.end)
    → passes c (l.tuple ++ r.tuple) ≡ true → e ≡ both_of l r → e ∷ [] ≡ joined_elem [] c l r
joined_met c l r e inside h is =
    ap (λ (d : Elem). d ∷ []) is
    ∙ met (is_overlap l.span r.span) (passes c (l.tuple ++ r.tuple)) (both_of l r)
    (lt-ltb (max l.span.start r.span.start) (min l.span.end r.span.end) inside.0) h
