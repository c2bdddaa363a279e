-- Elements as the results of a query.
use Rattle.std.specs.Prelude.{List}
use Rattle.std.specs.List.{All}
use Rattle.pipes_time.specs.Rising.{RisesBy}
use Rattle.pipes_stream.specs.declared.Elem.{Elem}
use Rattle.pipes_stream.specs.Snapshot.{snapshot}
use Rattle.pipes_window.specs.declared.item.Item.{Item}
use Rattle.pipes_query.specs.declared.query.Query.{Query}
use Rattle.pipes_output.specs.NormalText.{SameRows}
use Rattle.pipes_semantics.specs.Answer.{answer}
use Rattle.pipes_semantics.specs.Right.{IsResultOf}

-- results of the query, in the order of their starts
pub record AreResults (query : Query) (elems : List Elem) : Type 0 where
  pub order : RisesBy (λ e. e.span.start) 0 elems
  pub typed : All (IsResultOf query) elems

-- at each instant they are the answer over these items of the sources, as bags
pub record AreAnswers (query : Query) (items : List (List Item)) (elems : List Elem) : Type 0 where
  pub results : AreResults query elems
  pub rows : SameRows (snapshot elems) (answer query items)
