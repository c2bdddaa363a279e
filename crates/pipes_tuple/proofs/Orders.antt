-- What the order says of equal values and of equal lists of values.
use Rattle.std.proofs.Common.{◌≡◌, List, refl, sym, ◌∙◌}
use Rattle.std.specs.declared.cmp.Ordering.TheVariants.{Equal}
use Rattle.std.specs.Cmp.{Equal-is}
use Rattle.pipes_tuple.specs.declared.value.Value.{Value}
use Rattle.pipes_tuple.specs.Order.{value_cmp, tuple_cmp}
use Rattle.pipes_tuple.specs.OrderLaws.{value_cmp-ties, tuple_cmp-ties}
use Rattle.pipes_tuple.proofs.Equality.{value_eq-Decides, tuple_eq-Decides}

-- values that the order ties are equal
pub value_cmp-Equal : (x y : Value) → value_cmp x y ≡ Equal → x ≡ y
value_cmp-Equal x y h = (value_eq-Decides x y).0
    (value_cmp-ties x y ∙ (Equal-is (value_cmp x y)).1 h)

-- a value ties with itself
pub value_cmp-same : (x : Value) → value_cmp x x ≡ Equal
value_cmp-same x =
    (Equal-is (value_cmp x x)).0 (sym (value_cmp-ties x x) ∙ (value_eq-Decides x x).1 refl)

-- lists of values that the order ties are equal
pub tuple_cmp-Equal : (xs ys : List Value) → tuple_cmp xs ys ≡ Equal → xs ≡ ys
tuple_cmp-Equal xs ys h = (tuple_eq-Decides xs ys).0
    (tuple_cmp-ties xs ys ∙ (Equal-is (tuple_cmp xs ys)).1 h)

-- a list of values ties with itself
pub tuple_cmp-same : (xs : List Value) → tuple_cmp xs xs ≡ Equal
tuple_cmp-same xs =
    (Equal-is (tuple_cmp xs xs)).0 (sym (tuple_cmp-ties xs xs) ∙ (tuple_eq-Decides xs xs).1 refl)
