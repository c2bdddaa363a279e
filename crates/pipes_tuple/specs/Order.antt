-- The one order of values, of kinds, and of lists of each.
use Rattle.std.specs.Prelude.{List}
use Rattle.std.specs.Ordering.{int_cmp, nat_cmp, bool_cmp, on}
use Rattle.std.specs.declared.cmp.Ordering.{Ordering}
use Rattle.std.specs.declared.cmp.Ordering.TheVariants.{Less, Greater}
use Rattle.std.specs.Cmp.Lexicographic.{slice_cmp}
use Rattle.pipes_tuple.specs.declared.value.Kind.{Kind}
use Rattle.pipes_tuple.specs.declared.value.Value.{Value}
use Rattle.pipes_tuple.specs.declared.value.Value.TheVariants.{Int, Text, Flag}
use Rattle.pipes_tuple.specs.Kinds.{kind_place}

-- integers before texts before flags; integers by number, texts by bytes, false before true
abbrev pub value_cmp : Value → Value → Ordering
value_cmp (Int m) (Int n) = int_cmp m n
value_cmp (Int m) (Text t) = Less
value_cmp (Int m) (Flag b) = Less
value_cmp (Text s) (Int n) = Greater
value_cmp (Text s) (Text t) = slice_cmp nat_cmp s t
value_cmp (Text s) (Flag b) = Less
value_cmp (Flag a) (Int n) = Greater
value_cmp (Flag a) (Text t) = Greater
value_cmp (Flag a) (Flag b) = bool_cmp a b

-- value by value, a proper prefix first
abbrev pub tuple_cmp : List Value → List Value → Ordering
tuple_cmp = slice_cmp value_cmp

-- integers before texts before flags
abbrev pub kind_cmp : Kind → Kind → Ordering
kind_cmp = on kind_place nat_cmp

-- kind by kind, a proper prefix first
abbrev pub schema_cmp : List Kind → List Kind → Ordering
schema_cmp = slice_cmp kind_cmp
