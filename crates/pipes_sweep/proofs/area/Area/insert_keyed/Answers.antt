use Rattle.std.proofs.Common.{◌≡◌, ◌∙◌, ap, refl, sym}
use Rattle.std.specs.Map.{values_of}
use Rattle.pipes_tuple.specs.Columns.{at_columns}
use Rattle.pipes_sweep.specs.Areas.{KeptByKey}
use Rattle.pipes_sweep.specs.Numbers.{Numbered}
use Rattle.pipes_sweep.proofs.Kept.{kept_by, holds_inserted}
use Rattle.pipes_sweep.proofs.Numbers.{dropped_again}
use Rattle.pipes_sweep.proofs.Indices.{indexed_more, indexed_same, taken_back, values_more}
use Rattle.pipes_sweep.proofs.area.Area.insert_keyed.Goals as goal

pub invariant_of-self-in-Err-1 : goal.invariant_of-self-in-Err-1
invariant_of-self-in-Err-1 c =
    indexed_same c.self.inside.cols c.self.inside.store _ _ _ _ _ c.self.invariant
    (dropped_again c.self.inside.store c.add.new.self c.drop_one.new.self c.in_ok-number.number
    c.args.elem c.in_ok-number.ensures.added c.in_ok-number.ensures.above
    c.drop_one.ensures.dropped)
    (λ k. refl) c.in-Err.ensures.memory

pub returns-in-Err-clause-memory : goal.returns-in-Err-clause-memory
returns-in-Err-clause-memory c =
    ap (λ (s : Numbered). kept_by c.self.inside.cols (values_of s))
    (dropped_again c.self.inside.store c.add.new.self c.drop_one.new.self c.in_ok-number.number
    c.args.elem c.in_ok-number.ensures.added c.in_ok-number.ensures.above
    c.drop_one.ensures.dropped)
    ∙ c.self.view_is

pub invariant_of-self-in-Err-list : goal.invariant_of-self-in-Err-list
invariant_of-self-in-Err-list c =
    indexed_same c.self.inside.cols c.self.inside.store _ _ _ _ _ c.self.invariant
    (dropped_again c.self.inside.store c.add.new.self c.drop_one-in-Err-list.new.self
    c.in_ok-number.number c.args.elem c.in_ok-number.ensures.added c.in_ok-number.ensures.above
    c.drop_one-in-Err-list.ensures.dropped)
    c.in-Err-list.ensures.memory
    (taken_back c.self.inside.cols c.self.inside.store _ _ c.put.new.self.ends
    c.take_back.new.self.ends c.end-end.result
    c.in_ok-number.number c.in_ok-copy.copy c.self.invariant c.in_ok-number.ensures.above
    c.in-Ok.ensures.put c.take_back.ensures)

pub returns-in-Err-list-clause-memory : goal.returns-in-Err-list-clause-memory
returns-in-Err-list-clause-memory c =
    ap (λ (s : Numbered). kept_by c.self.inside.cols (values_of s))
    (dropped_again c.self.inside.store c.add.new.self c.drop_one-in-Err-list.new.self
    c.in_ok-number.number c.args.elem c.in_ok-number.ensures.added c.in_ok-number.ensures.above
    c.drop_one-in-Err-list.ensures.dropped)
    ∙ c.self.view_is

pub invariant_of-self-in-Ok-list : goal.invariant_of-self-in-Ok-list
invariant_of-self-in-Ok-list c =
    indexed_more c.self.inside.cols c.self.inside.store c.add.new.self _ _ _ _
    c.in_ok-number.number c.end-end.result c.args.elem c.args.key c.in_ok-copy.copy
    c.self.invariant c.in_ok-number.ensures.added c.in_ok-number.ensures.above
    c.in_ok-number.ensures.rising c.end-end.ensures.value (c.requires ∙ ap (λ (a : KeptByKey).
    at_columns a.columns c.args.elem.tuple) (sym c.self.view_is))
    c.in_ok-copy.ensures c.in-Ok.ensures.put c.in-Ok-list.ensures.listed

pub returns-in-Ok-list-clause-inserted : goal.returns-in-Ok-list-clause-inserted
returns-in-Ok-list-clause-inserted c = λ list h.
    holds_inserted c.args.self.now c.self.inside.cols (values_of c.self.inside.store)
    (values_of c.add.new.self) list c.args.elem c.self.view_is
    (values_more c.self.inside.store c.add.new.self c.in_ok-number.number c.args.elem
    c.in_ok-number.ensures.added) h
