-- How often a row occurs among rows that pass a test, among each row once, and in lists made of
-- others.
use Rattle.std.proofs.Common.{◌≡◌, ℕ, ◌+◌, Bool, true, false, ◌&&◌, cond, List, [], ◌∷◌, ◌++◌}
use Rattle.std.proofs.Common.{map, refl, sym, ap, ◌∙◌, subst, arith}
use Rattle.std.specs.Prelude.{nat_lt}
use Rattle.std.specs.List.{filter}
use Rattle.pipes_tuple.specs.Equal.{tuple_eq}
use Rattle.pipes_tuple.specs.Bag.{count, SameBag}
use Rattle.pipes_tuple.proofs.Equality.{tuple_eq-Decides}
use Rattle.pipes_tuple.proofs.Bags.{count-cons}
use Rattle.pipes_expr.specs.ExprValue.{Row}
use Rattle.pipes_relation.specs.Relations.{distinct}
use Rattle.pipes_plan.proofs.SameAnswers.{count-distinct, has_counted}

-- once, if at all
abbrev pub any_once : ℕ → ℕ
any_once n = cond (nat_lt 0 n) 1 0

pub count-once : (t : Row) (xs : List Row) → count t (distinct xs) ≡ any_once (count t xs)
count-once t xs = count-distinct t xs ∙ ap (λ b. cond b 1 0) (has_counted t xs)

filter_step : (test : Row → Bool) (t x : Row) (xs : List Row) (b c d : Bool) → b ≡ test x
    → c ≡ tuple_eq x t → d ≡ test t → count t (filter test xs) ≡ cond d (count t xs) 0
    → count t (cond b (x ∷ filter test xs) (filter test xs))
    ≡ cond d (cond (tuple_eq x t) 1 0 + count t xs) 0
filter_step test t x xs true true true e f g h = count-cons t x (filter test xs)
    ∙ ap (λ n. cond (tuple_eq x t) 1 0 + n) h
filter_step test t x xs true true false e f g h =
    let same = (tuple_eq-Decides x t).0 (sym f) in
    let w : true ≡ false = e ∙ ap test same ∙ sym g in cc
filter_step test t x xs true false true e f g h = count-cons t x (filter test xs)
    ∙ ap (λ n. cond (tuple_eq x t) 1 0 + n) h
filter_step test t x xs true false false e f g h =
    let w : ◌≡◌ {A = ℕ} (cond (tuple_eq x t) 1 0) 0 = ap (λ z. cond z 1 0) (sym f) in
    omega (arith, w, h, count-cons t x (filter test xs))
filter_step test t x xs false true true e f g h =
    let same = (tuple_eq-Decides x t).0 (sym f) in
    let w : false ≡ true = e ∙ ap test same ∙ sym g in cc
filter_step test t x xs false true false e f g h = h
filter_step test t x xs false false true e f g h =
    let w : ◌≡◌ {A = ℕ} (cond (tuple_eq x t) 1 0) 0 = ap (λ z. cond z 1 0) (sym f) in
    omega (arith, w, h)
filter_step test t x xs false false false e f g h = h

nothing_kept : (d : Bool) → ◌≡◌ {A = ℕ} 0 (cond d 0 0)
nothing_kept true = refl
nothing_kept false = refl

pub count-filter : (test : Row → Bool) (t : Row) (xs : List Row)
    → count t (filter test xs) ≡ cond (test t) (count t xs) 0
count-filter test t [] = nothing_kept (test t)
count-filter test t (x ∷ xs) =
    filter_step test t x xs (test x) (tuple_eq x t) (test t) refl refl refl
    (count-filter test t xs)
    ∙ ap (λ n. cond (test t) n 0) (sym (count-cons t x xs))

pub count-append : (t : Row) (xs ys : List Row) → count t (xs ++ ys) ≡ count t xs + count t ys
count-append t [] ys = omega arith
count-append t (x ∷ xs) ys = omega (
  arith,
  count-cons t x (xs ++ ys),
  count-cons t x xs,
  count-append t xs ys,
)
