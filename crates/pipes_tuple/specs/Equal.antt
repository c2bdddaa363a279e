-- Equality of values, of tuples and of schemas, as tests.
use Rattle.std.specs.Prelude.{Bool, false, List, nat_eq}
use Rattle.std.specs.Bool.{beq}
use Rattle.std.specs.Ordering.{int_eq, on}
use Rattle.std.specs.Cmp.Lexicographic.{pointwise}
use Rattle.pipes_tuple.specs.declared.value.Kind.{Kind}
use Rattle.pipes_tuple.specs.declared.value.Value.{Value}
use Rattle.pipes_tuple.specs.declared.value.Value.TheVariants.{Int, Text, Flag}
use Rattle.pipes_tuple.specs.Kinds.{kind_place}

-- two integers, two texts with the same bytes, or two flags
abbrev pub value_eq : Value → Value → Bool
value_eq (Int m) (Int n) = int_eq m n
value_eq (Int m) (Text t) = false
value_eq (Int m) (Flag b) = false
value_eq (Text s) (Int n) = false
value_eq (Text s) (Text t) = pointwise nat_eq s t
value_eq (Text s) (Flag b) = false
value_eq (Flag a) (Int n) = false
value_eq (Flag a) (Text t) = false
value_eq (Flag a) (Flag b) = beq a b

-- as many values, equal one by one
abbrev pub tuple_eq : List Value → List Value → Bool
tuple_eq = pointwise value_eq

abbrev pub kind_eq : Kind → Kind → Bool
kind_eq = on kind_place nat_eq

-- as many kinds, equal one by one
abbrev pub schema_eq : List Kind → List Kind → Bool
schema_eq = pointwise kind_eq
