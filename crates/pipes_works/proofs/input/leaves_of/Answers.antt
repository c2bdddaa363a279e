use Rattle.std.proofs.Common.{◌≡◌, ℕ, ◌<◌, ◌≤◌, ◌∙◌, sym, ap, arith, length, List}
use Rattle.std.proofs.lemmas.List.{take_all}
use Rattle.pipes_box.specs.Shapes.{shape_of, sources_of}
use Rattle.pipes_works.specs.Sources.{leaves_from}
use Rattle.pipes_works.proofs.Leaves.{sources-count}
use Rattle.pipes_works.proofs.NewInputs.{leaf-noted}
use Rattle.pipes_works.proofs.input.leaves_of.Goals as goal

pub loop-leaf-preserved : goal.loop-leaf-preserved
loop-leaf-preserved c = record {
  found = λ schemas plan given got s.
      let within : c.loop-leaf.leaf < length (sources_of (shape_of schemas plan)) = omega (
        arith,
        sources-count (shape_of schemas plan),
        c.loop-leaf-test.true,
        c.leaf_count-leaf-end.ensures.count schemas plan given got s,
      ) in
      leaf-noted (sources_of (shape_of schemas plan)) c.loop-leaf.leaves.items
      c.note_leaf.new.leaves.items c.args.source c.loop-leaf.leaf c.leaf_source.result within
      (c.loop-leaf.invariant.found schemas plan given got s) c.in_ok-note_leaf.ensures
      (c.leaf_source.ensures.source schemas plan given got s 0);
}

pub returns : goal.returns
returns c = λ schemas plan given got s.
    let all : length (sources_of (shape_of schemas plan)) ≤ c.loop-leaf.leaf = omega (
      arith,
      sources-count (shape_of schemas plan),
      c.loop-leaf-test.false,
      c.leaf_count-leaf-end.ensures.count schemas plan given got s,
    ) in
    c.loop-leaf.invariant.found schemas plan given got s
    ∙ ap (leaves_from c.args.source 0)
    (take_all c.loop-leaf.leaf (sources_of (shape_of schemas plan)) all)
