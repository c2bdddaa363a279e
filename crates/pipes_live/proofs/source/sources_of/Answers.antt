use Rattle.std.proofs.Common.{◌<◌, ◌+◌, get_or, length, subst, List, take, arith, sym, ◌∙◌, ap}
use Rattle.std.proofs.lemmas.List.{take_all}
use Rattle.pipes_tuple.specs.declared.value.Kind.{Kind}
use Rattle.pipes_stream.specs.Lawful.{no_messages}
use Rattle.pipes_live.specs.Lives.{AreSources}
use Rattle.pipes_live.proofs.Watching.{source-added, sources-none}
use Rattle.pipes_live.proofs.source.sources_of.Goals as goal

pub loop-source-init : goal.loop-source-init
loop-source-init c = record {
  are = subst (AreSources (take 0 c.args.schemas.now) no_messages) (sym c.new-sources.ensures.items)
      (sources-none c.args.schemas.now);
}

pub loop-source-preserved : goal.loop-source-preserved
loop-source-preserved c = record {
  are =
      let within : c.loop-source.source < length c.args.schemas.now = omega (
        arith,
        c.loop-source-test.true,
        ap (λ (l : List (List Kind)). length l) c.as_slice-source-end.ensures.value,
      ) in
      subst (AreSources (take (c.loop-source.source + 1) c.args.schemas.now) no_messages)
      (sym c.in_ok-push.ensures.items)
      (source-added c.args.schemas.now c.loop-source.source
      c.loop-source.sources.items _ c.index-as_slice-source.result within
      c.loop-source.invariant.are c.new.ensures
      (c.in_ok-schema.ensures ∙ c.index-as_slice-source.is
      ∙ ap (λ (l : List (List Kind)). get_or l c.loop-source.source
      c.index-as_slice-source.result) c.as_slice.ensures.value));
}

pub returns : goal.returns
returns c =
    subst (λ (l : List (List Kind)). AreSources l no_messages c.loop-source.sources.items)
    (take_all c.loop-source.source c.args.schemas.now (omega (
      arith,
      c.loop-source-test.false,
      ap (λ (l : List (List Kind)). length l) c.as_slice-source-end.ensures.value,
    )))
    c.loop-source.invariant.are
