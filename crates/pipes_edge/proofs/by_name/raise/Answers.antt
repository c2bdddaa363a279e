use Rattle.std.proofs.Common.{◌≡◌, Some, sym, rules, arith}
use Rattle.std.proofs.Math.Path.{fun_ext}
use Rattle.std.proofs.lemmas.Map.Text.{btree_map_updates_text}
use Rattle.pipes_edge.specs.Causes.{raised}
use Rattle.pipes_edge.specs.ByName.{counts_in}
use Rattle.pipes_edge.proofs.ByName.{IsSome-raised_at, count_at-raised_at}
use Rattle.pipes_edge.proofs.by_name.raise.Goals as goal

pub returns-in-Some-clause-raised : goal.returns-in-Some-clause-raised
returns-in-Some-clause-raised c =
    let w = c.saturating_add.result in
    let new = c.get_mut.follows.lender w in
    let sets = btree_map_updates_text c.args.name.now c.args.counts.now new (Some w)
    ((c.get_mut.follows.holds w).3 (search rules)) in
    let more : w ≡ raised c.in-Some.count.now = omega arith in
    let was : counts_in c.args.counts.now c.args.name.now ≡ Some c.in-Some.count.now =
    sym c.in-Some.ensures.value in
    rw (was, ← more) (fun_ext sets)

pub returns-in-Some-clause-each : goal.returns-in-Some-clause-each
returns-in-Some-clause-each c = IsSome-raised_at (counts_in c.args.counts.now) _ _
    (returns-in-Some-clause-raised c)

pub returns-in-Some-clause-later : goal.returns-in-Some-clause-later
returns-in-Some-clause-later c = count_at-raised_at (counts_in c.args.counts.now) _ _
    (returns-in-Some-clause-raised c)
