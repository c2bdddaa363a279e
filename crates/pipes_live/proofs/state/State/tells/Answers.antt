use Rattle.pipes_live.proofs.state.State.tells.Goals as goal

pub returns-in-Alone-clause-order : goal.returns-in-Alone-clause-order
returns-in-Alone-clause-order c = λ query items plan earlier split by_source entries at.
    let s = rw c.in-Alone.is at at in
    c.tells_alike.ensures.order query items plan s.base s.given s.got entries s.alike s.calm

pub returns-in-Alone-clause-whole : goal.returns-in-Alone-clause-whole
returns-in-Alone-clause-whole c = λ query items plan earlier split by_source entries at ended.
    let s = rw c.in-Alone.is at at in let end = rw c.in-Alone.is at ended in
    c.tells_alike.ensures.whole query items plan s.base s.given s.got entries s.alike s.calm end

pub returns-in-Moving-clause-order : goal.returns-in-Moving-clause-order
returns-in-Moving-clause-order c = λ query items plan earlier split by_source entries at.
    let s = rw c.in-Moving.is at at in
    c.tells.ensures.order query items s.before plan s.base s.below s.from entries s.alike s.moving

pub returns-in-Moving-clause-whole : goal.returns-in-Moving-clause-whole
returns-in-Moving-clause-whole c = λ query items plan earlier split by_source entries at ended.
    let s = rw c.in-Moving.is at at in let end = rw c.in-Moving.is at ended in
    c.tells.ensures.whole query items s.before plan s.base s.below s.from entries s.alike s.moving
    end
