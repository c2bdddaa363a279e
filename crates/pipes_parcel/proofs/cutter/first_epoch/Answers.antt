use Rattle.std.proofs.Common.{rules, arith, ℕ, Some, None}
use Rattle.pipes_split.specs.Knowledge.{seat_knows, Knowledge}
use Rattle.pipes_parcel.specs.Pieces.{RaisesEnd}
use Rattle.pipes_parcel.proofs.Growing.{raises-on, looked-raises, begins-more, begins-next}
use Rattle.pipes_parcel.proofs.Growing.{begins-later}
use Rattle.pipes_parcel.proofs.cutter.first_epoch.Goals as goal

pub epochs-preserved : goal.epochs-preserved
epochs-preserved c =
    let i = c.epochs.invariant in
    let first : Knowledge = seat_knows c.args.seat.now in
    let before : Knowledge = seat_knows c.epochs.seat in
    let now : Knowledge = seat_knows c.look.new.seat in
    let met = c.in-Some.ensures.knows in record {
      seat = search rules;
      raises = λ end. raises-on first before now end (i.raises end)
          (looked-raises before now c.epochs.first end (Some c.in-Some.split) met);
      begins = begins-next before now c.epochs.first c.in-Some.split c.epochs.low c.in-Some.split
          i.begins met (omega arith);
      low = omega arith;
    }

pub returns-then-start-split : goal.returns-then-start-split
returns-then-start-split c =
    let i = c.epochs.invariant in
    let first : Knowledge = seat_knows c.args.seat.now in
    let before : Knowledge = seat_knows c.epochs.seat in
    let now : Knowledge = seat_knows c.look.new.seat in
    let met = c.in-Some.ensures.knows in
    let later = begins-more before now c.epochs.first c.epochs.low met.learnt.grows i.begins in record {
      seat = search rules;
      raises = λ end. raises-on first before now end (i.raises end)
          (looked-raises before now c.epochs.first end (Some c.in-Some.split) met);
      later = later;
      begins = begins-later now c.epochs.first c.epochs.low c.args.start i.low later;
    }

pub returns : goal.returns
returns c =
    let i = c.epochs.invariant in
    let first : Knowledge = seat_knows c.args.seat.now in
    let before : Knowledge = seat_knows c.epochs.seat in
    let now : Knowledge = seat_knows c.look.new.seat in
    let raises : (end : ℕ) → RaisesEnd before end now =
    λ end. looked-raises before now c.epochs.first end None c.in_default.ensures.knows in
    let later = begins-more before now c.epochs.first c.epochs.low (raises 0).grows i.begins in record {
      seat = search rules;
      raises = λ end. raises-on first before now end (i.raises end) (raises end);
      later = later;
      begins = begins-later now c.epochs.first c.epochs.low c.args.start i.low later;
    }
