use Rattle.std.proofs.Common.{refl}
use Rattle.pipes_settled.proofs.Stepping.{settling-first, settling-next, settling-last}
use Rattle.pipes_settled.proofs.Stepping.{settling-same}
use Rattle.pipes_settled.proofs.settled.Settled.settle.Goals as goal

pub changes-init : goal.changes-init
changes-init c = record {
  settling = λ elems from given s le.
      settling-first elems from c.args.h given c.args.self.now le s;
  flag = refl;
}

pub changes-preserved : goal.changes-preserved
changes-preserved c = record {
  settling = λ elems from given s le.
      settling-next elems from c.args.h given c.changes.self _ c.in-Some.at c.in-Some.tuple
      c.in-Some.change (c.changes.invariant.settling elems from given s le)
      c.in-Some.ensures.first c.in-Some.ensures.before c.in_ok-turn.ensures;
  flag = c.changes.invariant.flag;
}

pub returns-clause-settles : goal.returns-clause-settles
returns-clause-settles c = λ elems from given s le.
    settling-last elems from c.args.h given _
    (settling-same elems from c.args.h given c.changes.self _ c.in_default.ensures.same refl
    (c.changes.invariant.settling elems from given s le)) c.in_default.ensures.none
