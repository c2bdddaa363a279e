use Rattle.std.proofs.Common.{[]}
use Rattle.pipes_pair.specs.Meeting.{joined_from}
use Rattle.pipes_pair.proofs.Keeping.{keeps_elem, keeps_keyless}
use Rattle.pipes_pair.proofs.side.keep.Goals as goal

pub returns-in-None-clause-keeps : goal.returns-in-None-clause-keeps
returns-in-None-clause-keeps g c =
    keeps_keyless (joined_from [] c.args.condition.now c.args.is_left) c.args.elem
    c.args.own.now c.args.other.now c.args.hold.now (rw c.in-None.is at c.in_ok-key_of.ensures)

pub returns-in_ok-insert_keyed-in-Some-clause-keeps :
    goal.returns-in_ok-insert_keyed-in-Some-clause-keeps
returns-in_ok-insert_keyed-in-Some-clause-keeps g c =
    let known = rw c.in-Some.is at c.in_ok-key_of.ensures in
    keeps_elem (joined_from [] c.args.condition.now c.args.is_left) c.args.elem c.in-Some.key
    c.args.own.now _ c.args.other.now c.args.hold.now _ c.of_key-others.result known.0
    c.of_key-others.ensures c.insert_keyed.ensures.columns
    c.in_ok-insert_keyed-in-Some.ensures.inserted c.in_ok-put_all-in-Some.ensures.put
