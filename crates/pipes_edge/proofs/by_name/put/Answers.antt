use Rattle.std.proofs.Common.{string_bytes}
use Rattle.std.proofs.lemmas.Map.Text.{btree_map_updates_text}
use Rattle.pipes_edge.proofs.ByName.{files_in-update}
use Rattle.pipes_edge.proofs.by_name.put.Goals as goal

pub returns-clause-ok : goal.returns-clause-ok
returns-clause-ok c =
    let name = string_bytes c.in_ok-own.own in
    let sets = btree_map_updates_text name c.args.files.now c.insert.new.self _
    c.in_ok-insert.ensures.updates in
    let files = files_in-update c.args.files.now c.insert.new.self name c.in_ok-bytes.bytes sets in
    rw (c.in_ok-own.ensures.ok, c.in_ok-bytes.ensures.items) at files
