-- An operator with one port that answers each element by itself.
use Rattle.std.specs.Prelude.{◌≡◌, Bool, false, List, [], ◌∷◌, ◌++◌, Option, Some, None}
use Rattle.std.specs.Prelude.{if◌then◌else◌, filter_map}
use Rattle.std.specs.Option.{option_map}
use Rattle.std.specs.List.{All}
use Rattle.pipes_tuple.specs.declared.value.Kind.{Kind}
use Rattle.pipes_tuple.specs.Kinds.{Fits}
use Rattle.pipes_stream.specs.declared.Elem.{Elem}
use Rattle.pipes_stream.specs.declared.message.Message.{Message}
use Rattle.pipes_stream.specs.declared.message.Message.TheVariants as message
use Rattle.pipes_stream.specs.Progress.{Progress}
use Rattle.pipes_stream.specs.Lists.{run, start_of_list, Valid, elements}
use Rattle.pipes_stream.specs.Lawful.{Lists}
use Rattle.pipes_expr.specs.declared.expr.Expr.{Expr}
use Rattle.pipes_expr.specs.ExprValue.{Row, passes}
use Rattle.pipes_relation.specs.Relations.{values_of}

-- the row itself, where the condition is true on it
abbrev pub kept : Expr → Row → Option Row
kept condition row = if passes condition row then Some row else None

-- the row of the expressions' values
abbrev pub changed : List Expr → Row → Option Row
changed exprs row = Some (values_of exprs row)

-- the element with the answer to its row, if there is one
abbrev pub answered : (Row → Option Row) → Elem → Option Elem
answered answer e = option_map (λ row. record { tuple = row; span = e.span }) (answer e.tuple)

-- what is sent for an element: it with the answer to its row, or how far its list has come
abbrev pub sent_for_elem : Elem → Option Row → Message
sent_for_elem e (Some row) = message.Elem (record { tuple = row; span = e.span })
sent_for_elem e None = message.Beat e.span.start

-- what is sent for a message
abbrev pub sent_for : (Row → Option Row) → Message → Message
sent_for answer (message.Elem e) = sent_for_elem e (answer e.tuple)
sent_for answer (message.Beat at) = message.Beat at
sent_for answer message.End = message.End

-- The elements sent are those taken that have an answer, with it and their intervals, in order; the
-- list sent is as far as the list taken.
pub record StandsForEach (answer : Row → Option Row) (kinds : List Kind) (failed : Bool)
    (watch : Progress) (taken : Lists) (sent : List Message) : Type 0 where
  pub going : failed ≡ false
  pub taken_valid : Valid (taken 0)
  pub taken_fits : All (λ e. Fits e.tuple kinds) (elements (taken 0))
  pub watch_is : watch ≡ run start_of_list (taken 0)
  pub sent_valid : Valid sent
  pub sent_run : run start_of_list sent ≡ run start_of_list (taken 0)
  pub elements_are : elements sent ≡ filter_map (answered answer) (elements (taken 0))
