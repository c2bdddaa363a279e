-- Two values are equal exactly where the order ties them, and where the test of equality holds.
use Rattle.std.proofs.Common.{◌≡◌}
use Rattle.std.specs.Ordering.{is_eq}
use Rattle.pipes_tuple.specs.declared.value.Value.{Value}
use Rattle.pipes_tuple.specs.Equal.{value_eq}
use Rattle.pipes_tuple.specs.Order.{value_cmp}
use Rattle.pipes_tuple.specs.OrderLaws.{value_cmp-ties}
use Rattle.pipes_tuple.proofs.Equality.{value_eq-Decides}

pub equal_by_order : (a b : Value) → value_eq a b ≡ is_eq (value_cmp a b)
equal_by_order a b = value_cmp-ties a b

pub ruleset equal_values = (value_eq-Decides)
