use Rattle.std.proofs.Common.{◌≡◌, ◌-◌, ◌+◌, Bool, Ok, Err, ◌∙◌, ap, sym, arith}
use Rattle.pipes_token.specs.declared.refusal.Refusal.{Refusal}
use Rattle.pipes_grammar.proofs.Entries.{failed, last, goes_on, none_left}
use Rattle.pipes_grammar.proofs.list.entries_within.Goals as goal

pub returns-in-Err-clause-value : goal.returns-in-Err-clause-value
returns-in-Err-clause-value g c =
    failed c.in-Err.fault g.T.Entry.entry c.entries.list.items (c.args.most - c.entries.counter)
    c.entries.rest.now _ c.in-Err.ensures c.entries.invariant.reads
    (omega arith)

pub returns-then-not-goes_on-clause-value : goal.returns-then-not-goes_on-clause-value
returns-then-not-goes_on-clause-value g c =
    last g.T.Entry.entry c.entries.list.items c.push.new.self.items c.in-Ok.step.0
    (c.args.most - c.entries.counter) c.entries.rest.now c.in-Ok.step.2.now _
    (c.in-Ok.ensures ∙ ap (λ (b : Bool). Ok ((c.in-Ok.step.0, b), c.in-Ok.step.2.now))
    c.if-not-goes_on.true) c.entries.invariant.reads
    c.in_ok-push.ensures.items (omega arith)

pub entries-preserved : goal.entries-preserved
entries-preserved g c = record {
  reads = goes_on g.T.Entry.entry c.entries.list.items c.push.new.self.items c.in-Ok.step.0
      (c.args.most - c.entries.counter)
      (c.args.most - (c.entries.counter + 1)) c.entries.rest.now c.in-Ok.step.2.now _
      (c.in-Ok.ensures ∙ ap (λ (b : Bool). Ok ((c.in-Ok.step.0, b), c.in-Ok.step.2.now))
      c.if-not-goes_on.false) c.entries.invariant.reads
      c.in_ok-push.ensures.items (omega arith);
  count = omega (arith, c.in_ok-push.ensures.len, c.entries.invariant.count);
}

pub returns-clause-value : goal.returns-clause-value
returns-clause-value g c =
    none_left g.T.Entry.entry c.entries.list.items (c.args.most - c.entries.counter)
    c.entries.rest.now _ c.entries.invariant.reads (omega arith)
    ∙ ap (λ (r : Refusal). Err r) (sym c.too_many.ensures)
