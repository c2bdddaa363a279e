use Rattle.std.proofs.Common.{rules, ◌≡◌, ◌∙◌, ap, refl}
use Rattle.pipes_feed.specs.declared.reason.Reason.TheVariants as reason
use Rattle.pipes_feed.specs.declared.reader.Next.TheVariants as next
use Rattle.pipes_intake.proofs.Turning.{turn-end}
use Rattle.pipes_intake.proofs.intake.Intake.end_so.Goals as goal

pub returns-clause-turned : goal.returns-clause-turned
returns-clause-turned c = λ s first left before now taken list stands.
    let why : c.args.reason ≡ reason.AtEnd = search rules in
    turn-end s first left before now taken list c.args.self.now _ c.in_ok-step.step stands
    c.requires.going c.in_ok-step.ensures.finishes c.in_ok-step.ensures.last refl refl
    (c.requires.next ∙ ap next.Ended why)
