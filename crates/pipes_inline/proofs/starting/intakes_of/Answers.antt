use Rattle.std.proofs.Common.{rules, ◌≡◌, ◌≤◌, ◌<◌, ◌∙◌, ◌+◌, map, length, get_or, List, ℕ, Option}
use Rattle.std.proofs.Common.{None, sym, arith, length-set, ap, ◌++◌, ◌∷◌, []}
use Rattle.std.proofs.lemmas.List.{length-map}
use Rattle.pipes_intake.specs.declared.intake.Intake.{Intake}
use Rattle.pipes_buffer.proofs.Appended.{on_err}
use Rattle.pipes_inline.proofs.Places.{read-at, keeps-at, later-at, other-at, new-at}
use Rattle.pipes_inline.proofs.Opening.{new-more, stands-read}
use Rattle.pipes_inline.proofs.starting.intakes_of.Goals as goal

pub returns-in_err-intake-clause-later : goal.returns-in_err-intake-clause-later
returns-in_err-intake-clause-later g c =
    later-at c.sources.srcs c.sources.i c.index-srcs-i.result c.new.new.src (search rules)
    g.S.Source.faults (map g.S.Source.faults c.args.srcs.now) c.new.ensures.later
    c.sources.invariant.later

pub returns-in_err-intake-clause-name : goal.returns-in_err-intake-clause-name
returns-in_err-intake-clause-name g c =
    keeps-at c.sources.srcs c.sources.i c.index-srcs-i.result c.new.new.src (search rules)
    g.S.Source.name (map g.S.Source.name c.args.srcs.now) c.new.ensures.name
    c.sources.invariant.name

pub returns-in_err-intake-clause-found_at : goal.returns-in_err-intake-clause-found_at
returns-in_err-intake-clause-found_at g c =
    keeps-at c.sources.srcs c.sources.i c.index-srcs-i.result c.new.new.src (search rules)
    g.S.Source.found_at (map g.S.Source.found_at c.args.srcs.now) c.new.ensures.found_at
    c.sources.invariant.found_at

pub returns-in_err-push-clause-later : goal.returns-in_err-push-clause-later
returns-in_err-push-clause-later g c =
    later-at c.sources.srcs c.sources.i c.index-srcs-i.result c.new.new.src (search rules)
    g.S.Source.faults (map g.S.Source.faults c.args.srcs.now) c.new.ensures.later
    c.sources.invariant.later

pub returns-in_err-push-clause-name : goal.returns-in_err-push-clause-name
returns-in_err-push-clause-name g c =
    keeps-at c.sources.srcs c.sources.i c.index-srcs-i.result c.new.new.src (search rules)
    g.S.Source.name (map g.S.Source.name c.args.srcs.now) c.new.ensures.name
    c.sources.invariant.name

pub returns-in_err-push-clause-found_at : goal.returns-in_err-push-clause-found_at
returns-in_err-push-clause-found_at g c =
    keeps-at c.sources.srcs c.sources.i c.index-srcs-i.result c.new.new.src (search rules)
    g.S.Source.found_at (map g.S.Source.found_at c.args.srcs.now) c.new.ensures.found_at
    c.sources.invariant.found_at

pub sources-preserved : goal.sources-preserved
sources-preserved g c =
    let xs = c.sources.srcs in
    let i = c.sources.i in
    let d = c.index-srcs-i.result in
    let x = c.new.new.src in
    let many = c.sources.invariant.srcs in
    let l : i < length xs = omega (arith, c.sources-test.true, many, c.requires.count) in
    let pushed : c.push.new.self.items ≡ c.sources.intakes.items ++ c.in_ok-intake.intake ∷ [] =
    search rules in
    record {
      count = search rules;
      srcs = length-set xs i x ∙ many;
      stand = new-at xs i d x l g.S.Source.left g.S.Source.faults c.args.sources.now
          (map g.S.Source.left c.args.srcs.now) (map g.S.Source.faults c.args.srcs.now) (i + 1)
          c.push.new.self.items
          (new-more c.args.sources.now (map g.S.Source.left c.args.srcs.now)
          (map g.S.Source.left xs) (map g.S.Source.faults c.args.srcs.now)
          (map g.S.Source.faults xs) i c.sources.intakes.items c.push.new.self.items
          (g.S.Source.left x) (g.S.Source.faults x) c.in_ok-intake.intake
          c.sources.invariant.stand
          (λ s. stands-read c.args.sources.now i c.index-sources-i.result s _ _ _ _ _ _ _
          c.index-sources-i.is c.sources-test.true
          (sym (read-at xs i d x l g.S.Source.left None)
          ∙ c.sources.invariant.lefts i (omega arith))
          (sym (read-at xs i d x l g.S.Source.faults 0)
          ∙ c.sources.invariant.counts i (omega arith))
          c.in_ok-intake.ensures.stands)
          (omega (arith, l, length-map xs g.S.Source.left))
          (omega (arith, l, length-map xs g.S.Source.faults)) pushed c.sources.invariant.count);
      lefts = λ k above. other-at xs i d x l g.S.Source.left None k (λ e. omega (arith, e, above))
          ∙ c.sources.invariant.lefts k (omega (arith, above));
      counts = λ k above. other-at xs i d x l g.S.Source.faults 0 k (λ e. omega (arith, e, above))
          ∙ c.sources.invariant.counts k (omega (arith, above));
      later = later-at xs i d x l g.S.Source.faults (map g.S.Source.faults c.args.srcs.now)
          c.new.ensures.later c.sources.invariant.later;
      name = keeps-at xs i d x l g.S.Source.name (map g.S.Source.name c.args.srcs.now)
          c.new.ensures.name c.sources.invariant.name;
      found_at = keeps-at xs i d x l g.S.Source.found_at (map g.S.Source.found_at c.args.srcs.now)
          c.new.ensures.found_at c.sources.invariant.found_at;
    }
