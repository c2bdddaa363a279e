use Rattle.std.proofs.Common.{◌∙◌, arith}
use Rattle.pipes_error.specs.Fault.{fault_seen}
use Rattle.pipes_answer.proofs.Bags.{cause-later, refused-at, fit-at, are-at}
use Rattle.pipes_answer.proofs.answer.bags_of.Goals as goal

pub returns-in-Err-clause-known : goal.returns-in-Err-clause-known
returns-in-Err-clause-known g c = c.in-Err.ensures.known ∙ c.sources.invariant.known

pub returns-in-Err-clause-later : goal.returns-in-Err-clause-later
returns-in-Err-clause-later g c n = omega (
  arith,
  c.sources.invariant.later n,
  c.in-Err.ensures.later n,
)

pub returns-in-Err-clause-cause : goal.returns-in-Err-clause-cause
returns-in-Err-clause-cause g c = cause-later (fault_seen c.in-Err.fault) _
    (g.F.Files.faults c.sources.files) _ c.sources.invariant.later c.in-Err.ensures.cause

pub returns-in-Err-clause-gives : goal.returns-in-Err-clause-gives
returns-in-Err-clause-gives g c named known =
    let before = c.sources.invariant.so_far named known in
    refused-at named c.args.sources.now c.sources.source-index c.source-item.result before.0
    (fault_seen c.in-Err.fault) c.sources-test.true c.source-item.is before.1
    (c.in-Err.ensures.gives named (c.sources.invariant.known ∙ known))

pub sources-preserved : goal.sources-preserved
sources-preserved g c =
    let inv = c.sources.invariant in
    let s = c.source-item.result in
    let grown = c.in-Ok-push.ensures.items in
    record {
      known = c.in-Ok.ensures.known ∙ inv.known;
      later = λ n. omega (arith, inv.later n, c.in-Ok.ensures.later n);
      fit = fit-at c.args.sources.now c.sources.source-index s c.sources.bags.items
          c.push.new.self.items c.in-Ok.rows c.sources-test.true c.source-item.is grown inv.fit
          c.in-Ok.ensures.fit;
      so_far = λ named known. are-at named c.args.sources.now c.sources.source-index s c.args.time
          c.sources.bags.items c.push.new.self.items c.in-Ok.rows c.sources-test.true
          c.source-item.is grown (inv.so_far named known) (c.in-Ok.ensures.gives named
          (inv.known ∙ known));
    }
