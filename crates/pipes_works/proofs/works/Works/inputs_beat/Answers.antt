use Rattle.std.proofs.Common.{◌≡◌, ◌<◌, ◌≤◌, ◌∙◌, ℕ, List, length, ap, arith}
use Rattle.pipes_stream.specs.Lawful.{least}
use Rattle.pipes_works.specs.declared.input.Input.{Input}
use Rattle.pipes_works.proofs.BySource.{least-more}
use Rattle.pipes_works.proofs.works.Works.inputs_beat.Goals as goal

pub loop-source-preserved : goal.loop-source-preserved
loop-source-preserved c = record {
  least = λ schemas plan by_source got s.
      let within : c.loop-source.source < length c.args.self.now.inputs.items = omega (
        arith,
        c.loop-source-test.true,
        ap (λ (l : List Input). length l) c.as_slice-source-end.ensures.value,
      ) in
      least-more c.args.self.now schemas plan by_source got c.loop-source.source
      c.loop-source.least c.beat_now.result c.lesser-least.result c.index.result.now s within
      (c.loop-source.invariant.least schemas plan by_source got s)
      (c.beat_now.ensures ∙ ap (λ (i : Input). i.watch.beat) c.index.ensures)
      c.lesser-least.ensures;
}

pub returns : goal.returns
returns c = λ schemas plan by_source got s.
    let all : c.loop-source.source ≡ length c.args.self.now.inputs.items = omega (
      arith,
      c.loop-source-test.false,
      c.loop-source.auto.source-end,
      ap (λ (l : List Input). length l) c.as_slice-source-end.ensures.value,
    ) in
    c.loop-source.invariant.least schemas plan by_source got s
    ∙ ap (λ (k : ℕ). least k by_source) all
