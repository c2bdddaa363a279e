use Rattle.std.proofs.Common.{ℕ, arith, subst, option_to_list}
use Rattle.pipes_halves.specs.Halves.{IsHalved}
use Rattle.pipes_live.proofs.Taking.{moving-next}
use Rattle.pipes_live.proofs.state.take_split.Goals as goal

pub returns-clause-takes : goal.returns-clause-takes
returns-clause-takes g c =
    moving-next c.args.moving.now c.give_both.new.moving c.args.source c.args.message
    (option_to_list c.in_ok-halves.halves.below) (option_to_list c.in_ok-halves.halves.from)
    (omega (arith, c.requires.in_range, c.requires.whole.1)) c.requires.in_range
    (subst (λ (n : ℕ). IsHalved n c.args.message (option_to_list c.in_ok-halves.halves.below)
    (option_to_list c.in_ok-halves.halves.from)) c.split.ensures c.in_ok-halves.ensures)
    c.in_ok-give_both.ensures.gives
