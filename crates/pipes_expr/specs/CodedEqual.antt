-- Equality of the values of any type that has a code, as a test: recursive types get theirs by it.
use Rattle.std.specs.Prelude.{◌≡◌, Bool, true, false, ◌&&◌, ◌==◌, refl}
use Rattle.std.specs.Bool.{Decides}
use Rattle.std.specs.Cmp.{IsEquivalence}
use Rattle.std.proofs.Common.{ap, sym, subst, ◌∙◌}
use Rattle.std.proofs.lemmas.Bool.{false≢true}
use Rattle.std.proofs.lemmas.Bool.Decides.{same_from_decides, Decides-like, Decides-eqb}
use Rattle.std.proofs.lemmas.Bool.{and_parts}
use base.Stored.{Gv, gnil, gnum, gcons, Coded}

abbrev code_eq : Gv → Gv → Bool
code_eq gnil gnil = true
code_eq (gnum m) (gnum n) = m == n
code_eq (gcons a b) (gcons c d) = code_eq a c && code_eq b d
code_eq _ _ = false

code_eq-same : (a b : Gv) → code_eq a b ≡ true → a ≡ b
code_eq-same gnil gnil h = refl
code_eq-same (gnum m) (gnum n) h = ap gnum ((Decides-eqb m n).0 h)
code_eq-same (gcons a b) (gcons c d) h =
    let p = and_parts (code_eq a c) (code_eq b d) h in
    ap (λ x. gcons x b) (code_eq-same a c p.0) ∙ ap (gcons c) (code_eq-same b d p.1)
code_eq-same gnil (gnum n) h = absurd (false≢true h)
code_eq-same gnil (gcons c d) h = absurd (false≢true h)
code_eq-same (gnum m) gnil h = absurd (false≢true h)
code_eq-same (gnum m) (gcons c d) h = absurd (false≢true h)
code_eq-same (gcons a b) gnil h = absurd (false≢true h)
code_eq-same (gcons a b) (gnum n) h = absurd (false≢true h)

code_eq-refl : (a : Gv) → code_eq a a ≡ true
code_eq-refl gnil = refl
code_eq-refl (gnum n) = (Decides-eqb n n).1 refl
code_eq-refl (gcons a b) = ap (λ x. x && code_eq b b) (code_eq-refl a) ∙ code_eq-refl b

-- `a == b`, at a type whose values have the code c
pub coded_eq : {A : Type 0} → Coded A → A → A → Bool
coded_eq c x y = code_eq (c.code x) (c.code y)

pub coded_eq-Decides : {A : Type 0} (c : Coded A) (x y : A) → Decides (coded_eq c x y) (x ≡ y)
unfolding coded_eq
coded_eq-Decides {A} c x y = (
  λ h. c.inj x y (code_eq-same (c.code x) (c.code y) h),
  λ e. subst (λ (z : A). code_eq (c.code x) (c.code z) ≡ true) e (code_eq-refl (c.code x)),
)

-- a test that decides `≡` is an equivalence
equiv_from_decides : {A : Type 0} (E : A → A → Bool) → ((x y : A) → Decides (E x y) (x ≡ y))
    → IsEquivalence E
equiv_from_decides {A} E d = record {
  refl = λ x. (d x x).1 refl;
  symm = λ x y. same_from_decides (E x y) (E y x) (d x y) (Decides-like (E y x) sym sym (d y x));
  congr = λ x y z h. ap (λ (w : A). E w z) ((d x y).0 h);
}

pub coded_eq-equiv : {A : Type 0} (c : Coded A) → IsEquivalence (coded_eq c)
coded_eq-equiv c = equiv_from_decides (coded_eq c) (coded_eq-Decides c)

pub ruleset decided = (coded_eq-Decides)
