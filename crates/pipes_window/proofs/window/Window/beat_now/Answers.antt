use Rattle.pipes_window.proofs.Taking.{taken_heartbeat}
use Rattle.pipes_window.proofs.window.Window.beat_now.Goals as goal

pub returns-then-self-clause-later : goal.returns-then-self-clause-later
returns-then-self-clause-later c = taken_heartbeat c.args.self.now

pub returns-in-Slide-clause-later : goal.returns-in-Slide-clause-later
returns-in-Slide-clause-later c = taken_heartbeat c.args.self.now

pub returns-in-Time-clause-later : goal.returns-in-Time-clause-later
returns-in-Time-clause-later c = taken_heartbeat c.args.self.now

pub returns-in-Count-clause-later : goal.returns-in-Count-clause-later
returns-in-Count-clause-later c = taken_heartbeat c.args.self.now
