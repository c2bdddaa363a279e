-- Tuples in the order of their instants.
use Rattle.std.proofs.Common.{◌≡◌, ℕ, ◌≤◌, ◌<◌, ◌+◌, false, List, [], ◌∷◌, refl}
use Rattle.std.proofs.Common.{sym, ◌∙◌, ap, subst, arith, inl, inr}
use Rattle.std.specs.declared.cmp.Ordering.{Ordering}
use Rattle.std.specs.declared.cmp.Ordering.TheVariants.{Less, Equal, Greater}
use Rattle.std.specs.Ordering.{is_gt, is_eq, nat_cmp, ordering_then, match_ordering}
use Rattle.std.specs.BTreeSet.{insert_key}
use Rattle.std.specs.List.{All, sum_by}
use Rattle.std.proofs.lemmas.Bool.Decides.{nat_tests}
use Rattle.std.proofs.lemmas.List.Elements.{All-weaker}
use Rattle.std.proofs.lemmas.List.Sums.{sum_by-cons}
use Rattle.std.proofs.lemmas.Map.Lookups.{exact_pairs, exact_unsigned}
use Rattle.pipes_timeline.proofs.Filing.{then-less}
use Rattle.pipes_timeline.proofs.Filing.{le-cmp}
use Rattle.pipes_sweep.proofs.Indices.{then-gt}
use Rattle.pipes_tuple.specs.declared.value.Value.{Value}
use Rattle.pipes_tuple.specs.Order.{tuple_cmp}
use Rattle.pipes_tuple.specs.OrderLaws.{tuple_cmp-ties}
use Rattle.pipes_tuple.proofs.Equality.{tuple_eq-Decides}
use Rattle.pipes_group.specs.Dues.{Due, Among, Joins}

abbrev pub due_cmp : Due → Due → Ordering
due_cmp x y = ordering_then (nat_cmp x.0 y.0) (tuple_cmp x.1 y.1)

exact-tuples : (x y : List Value) → tuple_cmp x y ≡ Equal → x ≡ y
exact-tuples x y e = (tuple_eq-Decides x y).0 (tuple_cmp-ties x y ∙ ap is_eq e)

exact-dues : (x y : Due) → due_cmp x y ≡ Equal → x ≡ y
exact-dues = exact_pairs nat_cmp tuple_cmp exact_unsigned exact-tuples

-- ---- one comes
there-case : (k x : Due) (xs : List Due) (o : Ordering) → due_cmp k x ≡ o
    → Among k (insert_key due_cmp xs k)
    → Among k (match_ordering o (k ∷ x ∷ xs) (x ∷ xs) (x ∷ insert_key due_cmp xs k))
there-case k x xs Less e h = inl refl
there-case k x xs Equal e h = inl (exact-dues k x e)
there-case k x xs Greater e h = inr h

there : (k : Due) (xs : List Due) → Among k (insert_key due_cmp xs k)
there k [] = inl refl
there k (x ∷ xs) = there-case k x xs (due_cmp k x) refl (there k xs)

kept-case : (k d x : Due) (xs : List Due) (o : Ordering)
    → (Among d xs → Among d (insert_key due_cmp xs k)) → Among d (x ∷ xs)
    → Among d (match_ordering o (k ∷ x ∷ xs) (x ∷ xs) (x ∷ insert_key due_cmp xs k))
kept-case k d x xs Less f h = inr h
kept-case k d x xs Equal f h = h
kept-case k d x xs Greater f h = elim h [ inl e ↦ inl e | inr l ↦ inr (f l) ]

kept : (k d : Due) (xs : List Due) → Among d xs → Among d (insert_key due_cmp xs k)
kept k d [] h = absurd h
kept k d (x ∷ xs) h = kept-case k d x xs (due_cmp k x) (kept k d xs) h

weight-case : (f : Due → ℕ) (k x : Due) (xs : List Due) (o : Ordering)
    → sum_by f (insert_key due_cmp xs k) ≤ f k + sum_by f xs
    → sum_by f (match_ordering o (k ∷ x ∷ xs) (x ∷ xs) (x ∷ insert_key due_cmp xs k))
    ≤ f k + sum_by f (x ∷ xs)
weight-case f k x xs Less h = omega (arith, sum_by-cons f k (x ∷ xs))
weight-case f k x xs Equal h = omega arith
weight-case f k x xs Greater h =
    omega (arith, sum_by-cons f x (insert_key due_cmp xs k), sum_by-cons f x xs, h)

weight : (f : Due → ℕ) (k : Due) (xs : List Due)
    → sum_by f (insert_key due_cmp xs k) ≤ f k + sum_by f xs
weight f k [] = omega (arith, sum_by-cons f k [])
weight f k (x ∷ xs) = weight-case f k x xs (due_cmp k x) (weight f k xs)

pub joins_insert : (k : Due) (old new : List Due) → new ≡ insert_key due_cmp old k → Joins k old new
joins_insert k old new is = subst (λ (ds : List Due). Joins k old ds) (sym is) (record {
  there = there k old;
  kept = λ d h. kept k d old h;
  weight = λ f. weight f k old;
})

pub from-first : (to : ℕ) (d : Due) (ds : List Due) → to < d.0
    → All (λ e. is_gt (due_cmp d e) ≡ false) ds → All (λ e. to < e.0) ds
from-first to d ds h all = All-weaker (λ (e : Due). is_gt (due_cmp d e) ≡ false)
    (λ (e : Due). to < e.0)
    (λ e g. let a = le-cmp d.0 e.0 (then-gt (nat_cmp d.0 e.0) (tuple_cmp d.1 e.1) g) in omega
    (arith, a, h)) ds all
