use Rattle.pipes_replies.proofs.Calls.{tells-results}
use Rattle.pipes_replies.proofs.replies.Replies.tells.Goals as goal

pub returns-clause-results : goal.returns-clause-results
returns-clause-results c = λ elems. tells-results c.args.self.now elems
