use Rattle.pipes_token.proofs.read.read.Goals as goal

pub returns : goal.returns
returns c = c.sign.ensures c.args.total
