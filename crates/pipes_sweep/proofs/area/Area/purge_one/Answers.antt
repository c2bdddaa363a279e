use Rattle.std.proofs.Common.{◌≡◌, ◌+◌, ◌∙◌, ap, sym, length, arith, List, ℕ}
use Rattle.std.specs.Map.{values_of}
use Rattle.std.proofs.lemmas.List.{length-map}
use Rattle.pipes_stream.specs.declared.Elem.{Elem}
use Rattle.pipes_sweep.specs.Areas.{KeptByKey, until}
use Rattle.pipes_sweep.proofs.Indices.{indexed_less, none_ended, counted_gone}
use Rattle.pipes_sweep.proofs.area.Area.purge_one.Goals as goal

pub invariant_of-self : goal.invariant_of-self
invariant_of-self c =
    (indexed_less c.self.inside.cols c.args.t c.self.inside.store c.drop_one.new.self _ _ _ _
    c.in-Some.number c.in-Some.key c.self.invariant c.in-Some.ensures c.drop_one.ensures.dropped
    c.drop_one.ensures.rising c.unlist.ensures).indexed

pub returns-in-Some-clause-purged : goal.returns-in-Some-clause-purged
returns-in-Some-clause-purged c =
    (indexed_less c.self.inside.cols c.args.t c.self.inside.store c.drop_one.new.self _ _ _ _
    c.in-Some.number c.in-Some.key c.self.invariant c.in-Some.ensures c.drop_one.ensures.dropped
    c.drop_one.ensures.rising c.unlist.ensures).stays
    ∙ ap (λ (a : KeptByKey). until c.args.t a.elems) c.self.view_is

pub returns-in-Some-clause-gone : goal.returns-in-Some-clause-gone
returns-in-Some-clause-gone c = λ gone.
    counted_gone c.args.self.now c.self.inside.cols c.self.inside.store c.drop_one.new.self
    c.self.view_is
    (indexed_less c.self.inside.cols c.args.t c.self.inside.store c.drop_one.new.self _ _ _ _
    c.in-Some.number c.in-Some.key c.self.invariant c.in-Some.ensures c.drop_one.ensures.dropped
    c.drop_one.ensures.rising c.unlist.ensures).count

pub returns-in-None-clause-over : goal.returns-in-None-clause-over
returns-in-None-clause-over c = λ over.
    none_ended c.self.inside.cols c.args.t c.self.inside.store _ _ c.self.invariant
    c.in-None.ensures.1
