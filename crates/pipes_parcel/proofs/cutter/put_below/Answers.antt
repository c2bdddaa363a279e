use Rattle.std.proofs.Common.{arith, Option, Some, None, subst}
use Rattle.pipes_stream.specs.declared.Elem.{Elem}
use Rattle.pipes_split.specs.Cutting.{IsCut}
use Rattle.pipes_parcel.proofs.Cuts.{puts-below, puts-above}
use Rattle.pipes_parcel.proofs.cutter.put_below.Goals as goal

pub returns-in-None-clause-put : goal.returns-in-None-clause-put
returns-in-None-clause-put c =
    let e : Elem = c.args.elem in
    let is : IsCut e c.args.split c.in_ok-below.below None =
    subst (λ (above : Option Elem). IsCut e c.args.split c.in_ok-below.below above) c.in-None.is
    c.in_ok-below.ensures in
    puts-below c.args.epoch c.args.split e c.in_ok-below.below c.args.out.now.items
    c.put_part.new.out.items (omega arith) c.put_part.ensures.some is c.in_ok-put_part.ensures.put

pub returns-in-Some-clause-put : goal.returns-in-Some-clause-put
returns-in-Some-clause-put c =
    let e : Elem = c.args.elem in
    let is : IsCut e c.args.split c.in_ok-below.below (Some c.in-Some.above) =
    subst (λ (above : Option Elem). IsCut e c.args.split c.in_ok-below.below above) c.in-Some.is
    c.in_ok-below.ensures in
    puts-above c.args.epoch c.args.split e c.in-Some.above c.in_ok-below.below c.args.out.now.items
    c.put_part.new.out.items (omega arith) c.put_part.ensures.some (omega arith) is
    c.in_ok-put_part.ensures.put
