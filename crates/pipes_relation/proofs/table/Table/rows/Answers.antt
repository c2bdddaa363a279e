use Rattle.std.proofs.Common.{sym, ◌∙◌}
use Rattle.pipes_relation.proofs.Tables.{lookup_rows, table_none}
use Rattle.pipes_relation.proofs.table.Table.rows.Goals as goal

pub returns-in-Some : goal.returns-in-Some
returns-in-Some c key_of rows t =
    c.as_slice.ensures.value
    ∙ lookup_rows key_of rows c.args.self.now.keys.keys c.args.self.now.groups.items c.args.key.now
    c.in-Some.i c.index.result.now t c.in-Some.ensures.found c.in-Some.ensures.index
    c.in-Some.ensures.within c.index.ensures

pub returns-in-None : goal.returns-in-None
returns-in-None c key_of rows t =
    sym (table_none key_of rows c.args.self.now.keys.keys c.args.self.now.groups.items
    c.args.key.now t (sym c.in-None.ensures.found))
