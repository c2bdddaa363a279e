use Rattle.std.proofs.Common.{◌≡◌, string_bytes}
use Rattle.std.proofs.Math.Path.{fun_ext}
use Rattle.std.proofs.lemmas.Map.Text.{btree_map_updates_text}
use Rattle.pipes_edge.specs.ByName.{counts_in, count_at}
use Rattle.pipes_edge.proofs.ByName.{count_at-none, IsSome-kept_at, count_at-kept_at}
use Rattle.pipes_edge.proofs.by_name.keep.Goals as goal

pub returns-in_ok-insert-clause-ok : goal.returns-in_ok-insert-clause-ok
returns-in_ok-insert-clause-ok c =
    let name = string_bytes c.in_ok-own.own in
    let sets = btree_map_updates_text name c.args.counts.now c.insert.new.self _
    c.in_ok-insert.ensures.updates in
    let same = c.in_ok-own.ensures.ok in
    let none : count_at (counts_in c.args.counts.now) c.args.name.now ≡ 0 =
    count_at-none (counts_in c.args.counts.now) c.args.name.now c.contains_key.result
    c.if-not-contains_key.true c.contains_key.ensures in
    rw none (rw same at (fun_ext sets))

pub returns-in_ok-insert-clause-each : goal.returns-in_ok-insert-clause-each
returns-in_ok-insert-clause-each c = IsSome-kept_at (counts_in c.args.counts.now) _ _
    (returns-in_ok-insert-clause-ok c)

pub returns-in_ok-insert-clause-same : goal.returns-in_ok-insert-clause-same
returns-in_ok-insert-clause-same c = count_at-kept_at (counts_in c.args.counts.now) _ _
    (returns-in_ok-insert-clause-ok c)
