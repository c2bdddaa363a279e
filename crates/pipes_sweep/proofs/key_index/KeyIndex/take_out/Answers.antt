use Rattle.std.proofs.Common.{ap, sym}
use Rattle.pipes_sweep.proofs.Indices.{unlisted_none}
use Rattle.pipes_sweep.proofs.key_index.KeyIndex.take_out.Goals as goal

pub returns-in-None-clause-taken : goal.returns-in-None-clause-taken
returns-in-None-clause-taken c = λ k.
    unlisted_none c.args.key.now k c.args.self.now.sets.entries
    c.get_mut.follows.lender-at-none.entries c.args.number
    (ap (λ m. m.entries) c.get_mut.follows.holds-at-none) (sym c.in-None.ensures.value)
