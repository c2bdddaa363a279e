use Rattle.std.proofs.Common.{rules, arith}
use Rattle.pipes_split.specs.Knowledge.{seat_knows, Knowledge}
use Rattle.pipes_split.specs.declared.book.Raised.TheVariants.{Free, Cut}
use Rattle.pipes_parcel.proofs.Growing.{raises-none, raises-on, told-raises, closed-more}
use Rattle.pipes_parcel.proofs.Growing.{closed-next}
use Rattle.pipes_parcel.proofs.cutter.register.Goals as goal

pub loop-epoch-init : goal.loop-epoch-init
loop-epoch-init c = record {
  early = omega arith;
  seat = search rules;
  raises = raises-none (seat_knows c.args.seat.now) c.args.end;
  closed = c.requires.closed;
}

pub loop-epoch-preserved : goal.loop-epoch-preserved
loop-epoch-preserved c =
    let i = c.loop-epoch.invariant in
    let told = c.in-Cut.ensures.knows in
    let before : Knowledge = seat_knows c.loop-epoch.seat in
    let now : Knowledge = seat_knows c.raise.new.seat in
    let early = told.learnt.early in record {
      early = omega (arith, early);
      seat = search rules;
      raises = raises-on (seat_knows c.args.seat.now) before now c.args.end i.raises
          (told-raises before now c.loop-epoch.epoch c.args.end (Cut c.in-Cut.field-0) told);
      closed = closed-next now c.loop-epoch.epoch c.in-Cut.field-0
          (closed-more before now c.loop-epoch.epoch told.learnt.grows i.closed) told.learnt.known;
    }

pub returns-in-Free : goal.returns-in-Free
returns-in-Free c =
    let i = c.loop-epoch.invariant in
    let told = c.in-Free.ensures.knows in
    let before : Knowledge = seat_knows c.loop-epoch.seat in
    let now : Knowledge = seat_knows c.raise.new.seat in record {
      seat = search rules;
      raises = raises-on (seat_knows c.args.seat.now) before now c.args.end i.raises
          (told-raises before now c.loop-epoch.epoch c.args.end Free told);
      registered = record {
        epoch = c.loop-epoch.epoch;
        early = i.early;
        below = closed-more before now c.loop-epoch.epoch told.grows i.closed;
        open_there = search rules;
        top = omega (arith, told.top);
      };
    }
