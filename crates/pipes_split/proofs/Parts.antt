-- The parts of a cut, by their starts and ends.
use Rattle.std.proofs.Common.{ℕ, ◌-◌, ◌≤◌, Option, Some, arith}
use Rattle.pipes_time.specs.Interval.{IsInterval}
use Rattle.pipes_stream.specs.declared.Elem.{Elem}
use Rattle.pipes_split.specs.Cutting.{IsCut}

-- the first part ends at or below the split, and the second starts at or above it
pub below-ends : (e part : Elem) (split : ℕ) (above : Option Elem)
    → IsInterval part.span.start part.span.end
    → IsCut e split (Some part) above → part.span.end ≤ split
below-ends e part split above within is =
    let t = part.span.end - 1 in
    let h = (is.below.1 t).0 (omega (arith, within.0), omega (arith, within.0)) in
    omega (arith, h.1)

pub above-starts : (e part : Elem) (split : ℕ) (below : Option Elem)
    → IsInterval part.span.start part.span.end
    → IsCut e split below (Some part) → split ≤ part.span.start
above-starts e part split below within is =
    let h = (is.above.1 part.span.start).0 (omega arith, within.0) in h.1
