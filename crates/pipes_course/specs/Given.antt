-- What the sources of a run have given to its plans, and how far it goes.
use Rattle.std.specs.Prelude.{◌≡◌, ℕ, ◌+◌, ◌<◌, List, [], ◌∷◌, ◌++◌, map, length, slice_get}
use Rattle.std.specs.Prelude.{unwrap_or}
use Rattle.pipes_time.specs.Interval.{horizon}
use Rattle.pipes_tuple.specs.Bag.{SameBag}
use Rattle.pipes_stream.specs.declared.Elem.{Elem}
use Rattle.pipes_stream.specs.Snapshot.{snapshot}
use Rattle.pipes_stream.specs.Lists.{beat, elements}
use Rattle.pipes_stream.specs.Lawful.{Lists, least}
use Rattle.pipes_plan.specs.PlanKinds.{BagsFit}
use Rattle.pipes_window.specs.declared.item.Item.{Item}
use Rattle.pipes_query.specs.declared.query.SourceDecl.{SourceDecl}
use Rattle.pipes_semantics.specs.Answer.{bags_at}
use Rattle.pipes_told.specs.Floors.{Grown}
use Rattle.pipes_course.specs.Known.{all_spans, last_end}

-- the elements of the lists of the sources from this number on
abbrev pub elements_from : ℕ → List SourceDecl → Lists → List Elem
elements_from number [] by_source = []
elements_from number (s ∷ ss) by_source =
    elements (by_source number) ++ elements_from (number + 1) ss by_source

-- Of these items, which are all that the run will have taken, the sources gave so far what these
-- lists hold.
pub record HaveGiven (sources : List SourceDecl) (items : List (List Item)) (inputs end : ℕ)
    (by_source : Lists) : Type 0 where
  -- each source gave what is valid, as far as it has come
  pub fed : (source t : ℕ) → source < length sources → t < horizon → t < beat (by_source source)
      → SameBag (snapshot (elements (by_source source)) t)
      (unwrap_or (slice_get (bags_at sources items t) source) [])
  -- the heartbeat of the inputs, and the greatest end that is known
  pub beat_is : least (length sources) by_source ≡ inputs
  pub end_is : last_end (elements_from 0 sources by_source) ≡ end
  -- what else is to come starts at or above that heartbeat
  pub grown : Grown inputs (elements_from 0 sources by_source) (all_spans sources items)
  -- all rows are of the kinds of their sources
  pub fit : (t : ℕ) → BagsFit (bags_at sources items t) (map (λ s. s.schema) sources)
