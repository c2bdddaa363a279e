-- Operators that send, for each element taken, what they make of it alone.
use Rattle.std.proofs.Common.{◌≡◌, Bool, true, false, cond, List, [], ◌∷◌, ◌++◌, map, refl, ◌∙◌, ap}
use Rattle.std.proofs.Common.{Option, Some, None, filter_map}
use Rattle.std.specs.List.{cons_option, filter, flat_map}
use Rattle.std.specs.Option.{option_map, option_to_list}
use Rattle.pipes_stream.specs.declared.Elem.{Elem}
use Rattle.pipes_stream.specs.declared.message.Message.{Message}
use Rattle.pipes_stream.specs.Lists.{elements}
use Rattle.pipes_stream.specs.Lawful.{Lists, Task}
use Rattle.pipes_expr.specs.declared.expr.Expr.{Expr}
use Rattle.pipes_expr.specs.ExprValue.{Row, passes}
use Rattle.pipes_flat.specs.Each.{answered, kept}
use Rattle.pipes_flat.specs.EachLaw.{with_row}

-- the rows that the task makes of the element's row alone, each in the element's interval
abbrev pub made_of : Task → Elem → List Elem
made_of task e = map (with_row e) (task.meaning (λ port. e.tuple ∷ []))

-- the elements sent are those made of each element taken, one by one and in order
abbrev pub SendsOneByOne : Task → Lists → List Message → Type 0
SendsOneByOne task taken sent = elements sent ≡ flat_map (made_of task) (elements (taken 0))

one-made : (e : Elem) (o : Option Row) (rest : List Elem) → cons_option (option_map (with_row e) o)
    rest ≡ map (with_row e) (option_to_list o) ++ rest
one-made e (Some row) rest = refl
one-made e None rest = refl

pub made_one_by_one : (answer : Row → Option Row) (task : Task)
    → ((row : Row) → option_to_list (answer row) ≡ task.meaning (λ port. row ∷ []))
    → (es : List Elem) → filter_map (answered answer) es ≡ flat_map (made_of task) es
made_one_by_one answer task means [] = refl
made_one_by_one answer task means (e ∷ es) =
    one-made e (answer e.tuple) (filter_map (answered answer) es)
    ∙ (ap (λ (rows : List Row). map (with_row e) rows ++ filter_map (answered answer) es)
    (means e.tuple)
    ∙ ap (λ (rest : List Elem). made_of task e ++ rest) (made_one_by_one answer task means es))

kept-alone : (b : Bool) (row : Row) → option_to_list (cond b (Some row) None) ≡ cond b (row ∷ []) []
kept-alone true row = refl
kept-alone false row = refl

-- a row that is kept, or not, and a row that is changed
pub kept_one : (condition : Expr) (row : Row) → option_to_list (kept condition row) ≡ filter
    (passes condition) (row ∷ [])
kept_one condition row = kept-alone (passes condition row) row
