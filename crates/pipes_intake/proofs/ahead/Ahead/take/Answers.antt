use Rattle.std.proofs.Common.{rules}
use Rattle.pipes_intake.proofs.Reading.{takes-more}
use Rattle.pipes_intake.proofs.ahead.Ahead.take.Goals as goal

pub returns-clause-more : goal.returns-clause-more
returns-clause-more g c = λ item is kinds slack first before taken h.
    let old = c.args.self.now in
    takes-more kinds slack first _ _ before _ _ taken old
    (record { reader = c.next-next.new.self; next = c.replace.new.dest }) item
    (search rules) h (search rules) (search rules) (search rules) (search rules) (search rules)
    (search rules) (search rules)
