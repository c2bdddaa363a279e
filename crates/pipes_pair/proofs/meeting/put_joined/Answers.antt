use Rattle.pipes_pair.proofs.Puts.{put_some, put_none}
use Rattle.pipes_pair.proofs.meeting.put_joined.Goals as goal

pub returns-in_ok-put-in-Some : goal.returns-in_ok-put-in-Some
returns-in_ok-put-in-Some c = λ narrow.
    put_some _ _ c.in-Some.elem c.args.hold.now _ (c.in_ok-elem.ensures narrow) c.in-Some.is
    c.in_ok-put-in-Some.ensures.put

pub returns-in-None : goal.returns-in-None
returns-in-None c = λ narrow.
    put_none _ _ c.args.hold.now (c.in_ok-elem.ensures narrow) c.in-None.is
