use Rattle.std.proofs.Common.{refl, subst}
use Rattle.pipes_live.specs.Lives.{IsSettledIn}
use Rattle.pipes_live.proofs.state.State.begin.Goals as goal

pub returns-clause-begins : goal.returns-clause-begins
returns-clause-begins c =
    let settled = subst IsSettledIn c.in-Alone.is c.requires.settled in record {
      standing = c.in-Alone.standing;
      moving = c.begin.result;
      old_is = c.in-Alone.is;
      new_is = refl;
      begins = c.begin.ensures.begins;
      written = settled.nothing_sent;
      up_to_date = c.keeps_up.ensures.up_to_date;
    }
