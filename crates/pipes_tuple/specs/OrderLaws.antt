-- The laws of equality and of the order, which their implementations cite: each order is total, and
-- it ties exactly what is equal. (For proofs; nothing else reads this file.)
use Rattle.std.proofs.Common.{◌≡◌, Bool, true, false, List, Some, refl, sym, subst, ap}
use Rattle.std.proofs.lemmas.Bool.{true≢false}
use Rattle.std.specs.declared.cmp.Ordering.TheVariants.{Less, Equal}
use Rattle.std.specs.Ordering.{eq_by_cmp, ordering_reverse, is_lt, is_gt}
use Rattle.std.specs.Cmp.{IsTotalOrder, IsPartialOrder, IsEquivalence, IsPartialEquivalence}
use Rattle.std.specs.Cmp.{int_cmp_total, nat_cmp_total, nat_eq_equiv, bool_cmp_total, on_total}
use Rattle.std.specs.Cmp.{on_equiv, eq_by_cmp_equiv, partial_equiv_from_equiv}
use Rattle.std.specs.Cmp.{partial_order_from_agreeing_total}
use Rattle.std.specs.Cmp.Lexicographic.{nat_list_cmp_total, texts_ties, lists_per, lists_equiv}
use Rattle.std.specs.Cmp.Lexicographic.{lists_total, lists_ties}
use Rattle.pipes_tuple.specs.declared.value.Kind.{Kind}
use Rattle.pipes_tuple.specs.declared.value.Kind.TheVariants as kind
use Rattle.pipes_tuple.specs.declared.value.Value.{Value}
use Rattle.pipes_tuple.specs.declared.value.Value.TheVariants.{Int, Text, Flag}
use Rattle.pipes_tuple.specs.Equal.{value_eq, tuple_eq, kind_eq, schema_eq}
use Rattle.pipes_tuple.specs.Kinds.{kind_place}
use Rattle.pipes_tuple.specs.Order.{value_cmp, tuple_cmp, kind_cmp, schema_cmp}

antisymm : (x y : Value) → value_cmp x y ≡ ordering_reverse (value_cmp y x)
antisymm (Int m) (Int n) = int_cmp_total.antisymm m n
antisymm (Int m) (Text t) = refl
antisymm (Int m) (Flag b) = refl
antisymm (Text s) (Int n) = refl
antisymm (Text s) (Text t) = nat_list_cmp_total.antisymm s t
antisymm (Text s) (Flag b) = refl
antisymm (Flag a) (Int n) = refl
antisymm (Flag a) (Text t) = refl
antisymm (Flag a) (Flag b) = bool_cmp_total.antisymm a b

trans : (x y z : Value) → value_cmp x y ≡ Less → value_cmp y z ≡ Less → value_cmp x z ≡ Less
trans (Int m) (Int n) (Int o) h k = int_cmp_total.trans m n o h k
trans (Int m) y (Text t) h k = refl
trans (Int m) y (Flag b) h k = refl
trans (Text s) (Text t) (Text u) h k = nat_list_cmp_total.trans s t u h k
trans (Text s) y (Flag b) h k = refl
trans (Flag a) (Flag b) (Flag c) h k = bool_cmp_total.trans a b c h k
trans (Int m) (Text t) (Int o) h k = absurd (true≢false (ap is_gt k))
trans (Int m) (Flag b) (Int o) h k = absurd (true≢false (ap is_gt k))
trans (Text s) (Int n) z h k = absurd (true≢false (ap is_gt h))
trans (Text s) (Text t) (Int o) h k = absurd (true≢false (ap is_gt k))
trans (Text s) (Flag b) (Int o) h k = absurd (true≢false (ap is_gt k))
trans (Text s) (Flag b) (Text u) h k = absurd (true≢false (ap is_gt k))
trans (Flag a) (Int n) z h k = absurd (true≢false (ap is_gt h))
trans (Flag a) (Text t) z h k = absurd (true≢false (ap is_gt h))
trans (Flag a) (Flag b) (Int o) h k = absurd (true≢false (ap is_gt k))
trans (Flag a) (Flag b) (Text u) h k = absurd (true≢false (ap is_gt k))

congr : (x y z : Value) → value_cmp x y ≡ Equal → value_cmp x z ≡ value_cmp y z
congr (Int m) (Int n) (Int o) h = int_cmp_total.congr m n o h
congr (Int m) (Int n) (Text t) h = refl
congr (Int m) (Int n) (Flag b) h = refl
congr (Text s) (Text t) (Int o) h = refl
congr (Text s) (Text t) (Text u) h = nat_list_cmp_total.congr s t u h
congr (Text s) (Text t) (Flag b) h = refl
congr (Flag a) (Flag b) (Int o) h = refl
congr (Flag a) (Flag b) (Text t) h = refl
congr (Flag a) (Flag b) (Flag c) h = bool_cmp_total.congr a b c h
congr (Int m) (Text t) z h = absurd (true≢false (ap is_lt h))
congr (Int m) (Flag b) z h = absurd (true≢false (ap is_lt h))
congr (Text s) (Int n) z h = absurd (true≢false (ap is_gt h))
congr (Text s) (Flag b) z h = absurd (true≢false (ap is_lt h))
congr (Flag a) (Int n) z h = absurd (true≢false (ap is_gt h))
congr (Flag a) (Text t) z h = absurd (true≢false (ap is_gt h))

pub value_cmp-total : IsTotalOrder value_cmp
value_cmp-total = record { antisymm = antisymm; trans = trans; congr = congr }

flags : (a b : Bool) → value_eq (Flag a) (Flag b) ≡ eq_by_cmp value_cmp (Flag a) (Flag b)
flags false false = refl
flags false true = refl
flags true false = refl
flags true true = refl

pub value_cmp-ties : (x y : Value) → value_eq x y ≡ eq_by_cmp value_cmp x y
value_cmp-ties (Int m) (Int n) = refl
value_cmp-ties (Int m) (Text t) = refl
value_cmp-ties (Int m) (Flag b) = refl
value_cmp-ties (Text s) (Int n) = refl
value_cmp-ties (Text s) (Text t) = texts_ties s t
value_cmp-ties (Text s) (Flag b) = refl
value_cmp-ties (Flag a) (Int n) = refl
value_cmp-ties (Flag a) (Text t) = refl
value_cmp-ties (Flag a) (Flag b) = flags a b

pub value_eq-equivalence : IsEquivalence value_eq
value_eq-equivalence =
    subst (λ (E : Value → Value → Bool). IsEquivalence E) (λ i x y. sym (value_cmp-ties x y) i)
    (eq_by_cmp_equiv value_cmp-total)

pub value_eq-partial : IsPartialEquivalence value_eq
value_eq-partial = partial_equiv_from_equiv value_eq-equivalence

pub value_cmp-partial : IsPartialOrder value_eq (λ x y. Some (value_cmp x y))
value_cmp-partial =
    partial_order_from_agreeing_total value_cmp value_cmp-total (λ x y. refl) value_cmp-ties

pub tuple_eq-partial : IsPartialEquivalence tuple_eq
tuple_eq-partial = lists_per value_eq-partial

pub tuple_eq-equivalence : IsEquivalence tuple_eq
tuple_eq-equivalence = lists_equiv value_eq-equivalence

pub tuple_cmp-total : IsTotalOrder tuple_cmp
tuple_cmp-total = lists_total value_cmp-total

pub tuple_cmp-ties : (xs ys : List Value) → tuple_eq xs ys ≡ eq_by_cmp tuple_cmp xs ys
tuple_cmp-ties xs ys = lists_ties value_cmp value_cmp-ties xs ys

pub tuple_cmp-partial : IsPartialOrder tuple_eq (λ xs ys. Some (tuple_cmp xs ys))
tuple_cmp-partial =
    partial_order_from_agreeing_total tuple_cmp tuple_cmp-total (λ xs ys. refl) tuple_cmp-ties

pub kind_eq-equivalence : IsEquivalence kind_eq
kind_eq-equivalence = on_equiv kind_place nat_eq_equiv

pub kind_cmp-total : IsTotalOrder kind_cmp
kind_cmp-total = on_total kind_place nat_cmp_total

pub kind_cmp-ties : (x y : Kind) → kind_eq x y ≡ eq_by_cmp kind_cmp x y
kind_cmp-ties kind.Int kind.Int = refl
kind_cmp-ties kind.Int kind.Text = refl
kind_cmp-ties kind.Int kind.Flag = refl
kind_cmp-ties kind.Text kind.Int = refl
kind_cmp-ties kind.Text kind.Text = refl
kind_cmp-ties kind.Text kind.Flag = refl
kind_cmp-ties kind.Flag kind.Int = refl
kind_cmp-ties kind.Flag kind.Text = refl
kind_cmp-ties kind.Flag kind.Flag = refl

pub kind_cmp-partial : IsPartialOrder kind_eq (λ x y. Some (kind_cmp x y))
kind_cmp-partial =
    partial_order_from_agreeing_total kind_cmp kind_cmp-total (λ x y. refl) kind_cmp-ties

pub schema_eq-partial : IsPartialEquivalence schema_eq
schema_eq-partial = lists_per (partial_equiv_from_equiv kind_eq-equivalence)

pub schema_eq-equivalence : IsEquivalence schema_eq
schema_eq-equivalence = lists_equiv kind_eq-equivalence

pub schema_cmp-total : IsTotalOrder schema_cmp
schema_cmp-total = lists_total kind_cmp-total

pub schema_cmp-ties : (xs ys : List Kind) → schema_eq xs ys ≡ eq_by_cmp schema_cmp xs ys
schema_cmp-ties xs ys = lists_ties kind_cmp kind_cmp-ties xs ys

pub schema_cmp-partial : IsPartialOrder schema_eq (λ xs ys. Some (schema_cmp xs ys))
schema_cmp-partial =
    partial_order_from_agreeing_total schema_cmp schema_cmp-total (λ xs ys. refl) schema_cmp-ties
