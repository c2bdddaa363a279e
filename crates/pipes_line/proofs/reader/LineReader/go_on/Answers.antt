use Rattle.pipes_line.proofs.reader.LineReader.go_on.Goals as goal

pub returns-in-Some-clause-answer : goal.returns-in-Some-clause-answer
returns-in-Some-clause-answer g c = c.end_line.ensures.answer (g.S.Source.left c.args.src.now)
