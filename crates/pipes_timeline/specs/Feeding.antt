-- A timeline that takes elements before what is ready is sent.
use Rattle.std.specs.Prelude.{ℕ, ◌≡◌, List}
use Rattle.pipes_stream.specs.declared.Elem.{Elem}
use Rattle.pipes_timeline.specs.declared.timeline.Timeline.{Timeline}
use Rattle.pipes_stream.specs.Weights.{weigh}
use Rattle.pipes_timeline.specs.Rules.{Row, RowBags, Arrival, KeyRule}
use Rattle.pipes_timeline.specs.Lines.{ends_by}
use Rattle.pipes_timeline.specs.Timelines.{Runs}

-- The timeline has come to an instant with the elements that were taken; its pieces start at `low`
-- or later.
pub record LineFed {T R : Type 0} (r : KeyRule) (tells : Row → T → RowBags → Type 0)
    (t : Timeline T R) (low h : ℕ) (taken : List Arrival) (sent : List Elem) : Type 0 where
  pub now : t.instant ≡ h
  pub runs : Runs r tells low t.ends t taken sent
  pub over : weigh (λ s. ends_by h s.1.span) t.ends ≡ 0
