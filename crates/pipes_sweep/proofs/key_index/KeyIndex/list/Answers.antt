use Rattle.std.proofs.Common.{sym, refl}
use Rattle.pipes_sweep.proofs.Indices.{written_same}
use Rattle.pipes_sweep.proofs.key_index.KeyIndex.list.Goals as goal

pub returns-in-Some-clause-memory : goal.returns-in-Some-clause-memory
returns-in-Some-clause-memory c = λ k.
    written_same c.args.key k c.args.self.now.sets.entries
    (c.get_mut.follows.lender c.insert.new.self).entries c.in-Some.set.now c.insert.new.self
    (sym c.in-Some.ensures.value) c.in-Err.ensures.err
    (((c.get_mut.follows.holds c.insert.new.self).3 (rw (sym c.in-Some.ensures.value) refl)).0 k)
