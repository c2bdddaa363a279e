use Rattle.std.proofs.Common.{◌≡◌, ◌≤◌, ◌<◌, ◌⊎◌, List, true, inl, inr, refl, sym, subst, arith}
use Rattle.pipes_output.specs.declared.entry.Entry.{Entry}
use Rattle.pipes_time.specs.Interval.{closed}
use Rattle.pipes_replies.specs.declared.replies.Replies.{Replies}
use Rattle.pipes_replies.specs.declared.stage.Stage.TheVariants.{Calm, Moving}
use Rattle.pipes_replies.specs.Telling.{Paces}
use Rattle.pipes_replies.proofs.Calls.{paces-before, paces-past, paces-reached}
use Rattle.pipes_replies.proofs.replies.Replies.pace.Goals as goal
use Rattle.pipes_replies.proofs.replies.Replies.pace.Goals.{
  then-split-output-via-then-split-output,
  then-split-output-via-else-split-output+then-inputs-eq-CLOSED,
}

pub returns-then-inputs-split-clause-paces : goal.returns-then-inputs-split-clause-paces
returns-then-inputs-split-clause-paces c =
    subst (λ (l : List Entry). Paces c.args.self.now c.args.self.now c.args.inputs
    c.args.output l) (sym c.nothing-then-inputs-split.ensures.told)
    (paces-before c.args.self.now c.args.inputs c.args.output c.in-Moving.split c.in-Moving.idle
    c.requires.within c.requires.ends c.in-Moving.is c.if-inputs-split.true)

pub returns-then-split-output-clause-paces : goal.returns-then-split-output-clause-paces
returns-then-split-output-clause-paces c =
    let far : (c.in-Moving.split < c.args.output) ⊎ (c.args.inputs ≡ closed) =
    elim c.then-split-output.branch [
      | then-split-output-via-then-split-output w ↦ inl w.if-split-output.true
      | then-split-output-via-else-split-output+then-inputs-eq-CLOSED w ↦
          inr w.if-inputs-eq-CLOSED.true
    ] in
    let new : Replies = record c.args.self.now { stage = Calm } in
    subst (λ (l : List Entry). Paces c.args.self.now new c.args.inputs c.args.output l)
    (sym c.over.ensures.told)
    (paces-past c.args.self.now new c.args.inputs c.args.output c.in-Moving.split
    c.in-Moving.idle c.requires.within c.requires.ends c.in-Moving.is
    (let reached = c.if-inputs-split.false in omega (arith, reached)) far
    (record { commands = refl; accepted = refl; last = refl; stage_is = refl }))

pub returns-clause-paces : goal.returns-clause-paces
returns-clause-paces c =
    let new : Replies = record c.args.self.now { stage = Moving c.in-Moving.split true } in
    subst (λ (l : List Entry). Paces c.args.self.now new c.args.inputs c.args.output l)
    (sym c.reached.ensures.told)
    (paces-reached c.args.self.now new c.args.inputs c.args.output c.in-Moving.split
    c.in-Moving.idle c.requires.within c.requires.ends c.in-Moving.is
    (let reached = c.if-inputs-split.false in omega (arith, reached))
    (record { commands = refl; accepted = refl; last = refl; stage_is = refl })
    (let low = c.if-split-output.false in omega (arith, low)) c.if-inputs-eq-CLOSED.false)
