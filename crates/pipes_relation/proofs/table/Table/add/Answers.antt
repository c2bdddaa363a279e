use Rattle.std.proofs.Common.{true, false, List, ◌++◌, ◌∷◌, [], sym, ap, ◌∙◌, subst}
use Rattle.std.specs.List.{list_any}
use Rattle.pipes_tuple.specs.Equal.{tuple_eq}
use Rattle.pipes_expr.specs.ExprValue.{Row}
use Rattle.pipes_relation.specs.Relations.{bag_lists}
use Rattle.pipes_relation.specs.Tables.{IsTable, put_at}
use Rattle.pipes_relation.proofs.Tables.{table_old, table_new, flipped}
use Rattle.pipes_relation.proofs.table.Table.add.Goals.{then-added+in_ok-push, else-added}
use Rattle.pipes_relation.proofs.table.Table.add.Goals as goal

pub returns : goal.returns
returns c key_of rows has t =
    elim c.if-added.branch [
      | then-added+in_ok-push w ↦
          subst (λ (ks : List Row). IsTable key_of (rows ++ c.args.row ∷ []) ks
          c.put.new.groups.items)
          (sym (ap (λ s. s.keys.keys) w.self-is))
          (table_new key_of rows c.args.self.now.keys.keys c.args.self.now.groups.items
          c.put.new.groups.items c.args.key c.args.row c.insert_full.new.self.keys c.in_ok-i.i t has
          c.in_ok-i.ensures.keys c.insert_full.ensures.unique c.in_ok-i.ensures.index
          w.new.result c.if-added.self.groups.items
          (flipped (list_any (tuple_eq c.args.key) c.args.self.now.keys.keys) true
          (sym w.if-added.true ∙ c.in_ok-i.ensures.added)) w.new.ensures.items
          (ap (λ s. s.groups.items) w.self-is ∙ w.in_ok-push.ensures.items) c.in_ok-put.ensures)
      | else-added w ↦
          subst (λ (ks : List Row). IsTable key_of (rows ++ c.args.row ∷ []) ks
          c.put.new.groups.items)
          (sym (ap (λ s. s.keys.keys) w.self-is))
          (table_old key_of rows c.args.self.now.keys.keys c.args.self.now.groups.items
          c.put.new.groups.items c.args.key c.args.row c.insert_full.new.self.keys c.in_ok-i.i t has
          c.in_ok-i.ensures.keys c.insert_full.ensures.unique c.in_ok-i.ensures.index
          (flipped (list_any (tuple_eq c.args.key) c.args.self.now.keys.keys) false
          (sym w.if-added.false ∙ c.in_ok-i.ensures.added))
          (c.in_ok-put.ensures
          ∙ ap (λ s. put_at (bag_lists s.groups.items) c.in_ok-i.i c.args.row) w.self-is))
    ]
