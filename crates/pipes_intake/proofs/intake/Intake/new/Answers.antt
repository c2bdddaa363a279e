use Rattle.std.proofs.Common.{subst, Option, IfSome, ◌≡◌, [], refl}
use Rattle.pipes_arrivals.specs.Arriving.{Arriving, HasArrived, new_arriving}
use Rattle.pipes_intake.proofs.Turning.{intake-new}
use Rattle.pipes_intake.proofs.intake.Intake.new.Goals as goal

pub returns-clause-stands : goal.returns-clause-stands
returns-clause-stands g c =
    let s = c.args.source.now in
    let value = subst (λ (o : Option Arriving). IfSome o (λ a. a ≡ new_arriving s.slack s.window))
    c.unwrap.ensures c.new-2.ensures.value in
    let arrived = subst (λ (o : Option Arriving). IfSome o (λ a. HasArrived [] a))
    c.unwrap.ensures c.new-2.ensures.none in
    intake-new s _ _ _ _ _ refl c.in_ok-ahead.ensures.taken value arrived
