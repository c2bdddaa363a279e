use Rattle.std.proofs.Common.{arith, rules, refl, ◌∙◌}
use Rattle.pipes_timeline.proofs.Turns.{passes_step, passes_done}
use Rattle.pipes_timeline.proofs.timeline.Timeline.pass.Goals as goal

pub loop-next-preserved : goal.loop-next-preserved
loop-next-preserved g c = record {
  passes = passes_step g.R.Rule.rule g.R.Rule.tells c.args.self.now c.loop-next.self _
      c.leave.new.self c.trim.new.self c.in-Some.next c.args.to c.loop-next.invariant.rule
      c.leave.ensures.rule c.loop-next.invariant.passes c.in-Some.ensures.0 c.in-Some.ensures.1
      c.in-Some.ensures.2
      (let a = c.end-self.ensures.value in let b = c.end-self.ensures.bound in
      omega (arith, a, b))
      c.end-self.ensures.value refl refl c.in_ok-leave.ensures.leaves c.in_ok-trim.ensures.trims;
  rule = c.trim.ensures.rule ∙ c.leave.ensures.rule ∙ c.loop-next.invariant.rule;
}

pub returns-clause-passes : goal.returns-clause-passes
returns-clause-passes g c =
    passes_done (g.R.Rule.rule c.args.self.now.rule) (g.R.Rule.tells c.args.self.now.rule)
    c.args.self.now c.loop-next.self _ c.args.to c.loop-next.invariant.passes (search rules)
    (search rules) refl refl refl
