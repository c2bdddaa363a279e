use Rattle.std.proofs.Common.{◌≡◌, ◌∙◌, ℕ, length, arith, refl, subst}
use Rattle.pipes_halves.specs.Halves.{low_opening, high_opening}
use Rattle.pipes_live.specs.declared.source.Source.{Source}
use Rattle.pipes_live.specs.Deeds.{GivesBoth, Opens}
use Rattle.pipes_live.proofs.Opening.{opens-none, opens-more}
use Rattle.pipes_live.proofs.openings.open_each.Goals as goal

pub loop-source-init : goal.loop-source-init
loop-source-init g c = record {
  whole = c.requires.whole;
  count = (refl, refl);
  opens = opens-none c.args.moving.now c.args.sources.now c.args.split;
}

pub loop-source-preserved : goal.loop-source-preserved
loop-source-preserved g c = record {
  whole = c.open_one.ensures.whole;
  count = (
    c.open_one.ensures.count.0 ∙ c.loop-source.invariant.count.0,
    c.open_one.ensures.count.1 ∙ c.loop-source.invariant.count.1,
  );
  opens = opens-more c.args.moving.now c.loop-source.moving c.open_one.new.moving
      c.args.sources.now c.args.split c.loop-source.source c.index-sources-source.result
      (omega (arith, c.loop-source-test.true)) c.loop-source.invariant.opens
      (subst (λ (s : Source). GivesBoth c.loop-source.moving c.open_one.new.moving
      c.loop-source.source (low_opening s.watch.beat c.args.split)
      (high_opening s.watch.beat s.watch.ended c.args.split)) c.index-sources-source.is
      c.in_ok-open_one.ensures.gives);
}

pub returns-clause-opens : goal.returns-clause-opens
returns-clause-opens g c =
    let all : c.loop-source.source ≡ length c.args.sources.now = omega (
      arith,
      c.loop-source-test.false,
      c.loop-source.auto.source-end,
    ) in
    subst (λ (n : ℕ). Opens c.args.moving.now c.loop-source.moving c.args.sources.now c.args.split
    n) all c.loop-source.invariant.opens
