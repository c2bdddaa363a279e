use Rattle.std.proofs.Common.{rules, ◌≡◌, ◌∙◌, subst, List, map, sym}
use Rattle.std.specs.List.{All}
use Rattle.std.proofs.lemmas.List.{map-id}
use Rattle.std.proofs.lemmas.Iterator.Consumers.{YieldsList-turn, YieldsList-so_far, YieldsList-end}
use Rattle.std.proofs.lemmas.Iterator.Adapters.{YieldsList-from_vec}
use Rattle.pipes_run.proofs.Retiring.{Rises, rises-push}
use Rattle.pipes_run.proofs.sources.retire_all.Goals as goal

pub retire-requires : goal.retire-requires
retire-requires g c =
    let turn = YieldsList-turn (YieldsList-from_vec {s = c.into_iter-src-iterator.result}
    c.args.srcs.items (search rules) (search rules)) c.srcs.yielded c.srcs.src-iterator
    c.srcs.yielded_by c.next.result c.next.new.self c.in-Some.src c.in-Some.is
    c.next.ensures.steps in
    c.srcs.invariant.keeps (g.F.Src.Source.name c.in-Some.src)
    (rw turn.1 (c.requires _ c.in-Some.src turn.0))

pub srcs-preserved : goal.srcs-preserved
srcs-preserved g c = record {
  can = search rules;
  finite = search rules;
  known = search rules;
  later = search rules;
  searches = search rules;
  keeps = λ n kept. c.retire.ensures.keeps n (c.srcs.invariant.keeps n kept);
  rose = rises-push g.F.Src.Source.name g.F.Src.Source.found_at g.F.Src.Source.faults _ _ _
      c.srcs.yielded c.in-Some.src c.srcs.invariant.later c.retire.ensures.later
      c.srcs.invariant.rose c.retire.ensures.rose;
}

pub returns-clause-rose : goal.returns-clause-rose
returns-clause-rose g c =
    let end = YieldsList-end (YieldsList-from_vec {s = c.into_iter-src-iterator.result}
    c.args.srcs.items (search rules) (search rules))
    c.srcs.yielded c.srcs.src-iterator c.srcs.yielded_by c.next.result c.next.new.self
    c.in-None.is c.next.ensures.steps in
    rw (sym (sym (map-id c.srcs.yielded) ∙ end.0)) c.srcs.invariant.rose
