use Rattle.std.proofs.Common.{rules, ◌≡◌, ℕ, ◌≤◌, List, length, sym, subst}
use Rattle.std.specs.VecDeque.{deque_len}
use Rattle.pipes_stream.specs.declared.Elem.{Elem}
use Rattle.pipes_sweep.specs.Waiting.{StartsRise}
use Rattle.pipes_sweep.proofs.Places.{rise_placed}
use Rattle.pipes_sweep.proofs.hold.Hold.put.Goals as goal
use Rattle.pipes_sweep.proofs.hold.Hold.put.Goals.{in-Ok, in-Err}

pub invariant_of-self : goal.invariant_of-self
invariant_of-self c =
    elim c.match-insert.branch [
      | in-Ok w ↦
          (let within : c.count_due-place.result ≤ length c.self.inside.waiting.items =
          search rules in
          subst (λ (es : List Elem). StartsRise es) (sym w.in-Ok.ensures.items)
          (rise_placed c.args.elem c.self.inside.waiting.items c.count_due-place.result
          c.self.invariant within (search rules) (search rules)))
      | in-Err w ↦ subst (λ (es : List Elem). StartsRise es) (search rules) c.self.invariant
    ]
