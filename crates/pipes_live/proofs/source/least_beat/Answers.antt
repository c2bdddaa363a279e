use Rattle.std.proofs.Common.{◌≡◌, ◌∙◌, ℕ, length, ap, arith}
use Rattle.pipes_stream.specs.Lawful.{least}
use Rattle.pipes_live.proofs.Watching.{least-watched}
use Rattle.pipes_live.proofs.source.least_beat.Goals as goal

pub loop-source-preserved : goal.loop-source-preserved
loop-source-preserved c = record {
  least = λ schemas by_source are.
      least-watched schemas by_source c.args.sources.now c.loop-source.source
      c.loop-source.least c.beat_now.result c.lesser-least.result c.index-sources-source.result
      (omega (arith, c.loop-source-test.true)) are
      (c.loop-source.invariant.least schemas by_source are)
      c.beat_now.ensures
      c.lesser-least.ensures;
}

pub returns : goal.returns
returns c = λ schemas by_source are.
    let all : c.loop-source.source ≡ length c.args.sources.now = omega (
      arith,
      c.loop-source-test.false,
      c.loop-source.auto.source-end,
    ) in
    c.loop-source.invariant.least schemas by_source are
    ∙ ap (λ (k : ℕ). least k by_source) all
