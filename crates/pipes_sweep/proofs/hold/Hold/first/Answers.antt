use Rattle.std.proofs.Common.{rules, ◌≡◌, ℕ, ◌<◌, length}
use Rattle.std.specs.VecDeque.{deque_len}
use Rattle.pipes_sweep.proofs.Places.{first-is}
use Rattle.pipes_sweep.proofs.hold.Hold.first.Goals as goal

pub returns-in-Some : goal.returns-in-Some
returns-in-Some c =
    let there : 0 < length c.self.inside.waiting.items = search rules in
    search (
      rules,
      first-is c.in-Some.elem.now c.self.inside.waiting.items c.self.invariant there
          c.in-Some.ensures.lookup,
    )
