use Rattle.std.proofs.Common.{rules}
use Rattle.pipes_line.proofs.PartFields.{split_ends}
use Rattle.pipes_line.proofs.record.Record.split.Goals as goal

pub returns-then-next-line : goal.returns-then-next-line
returns-then-next-line c _ =
    rw c.fields.invariant.copied (split_ends c.args.line.now c.fields.self.parts.items
    c.push.new.self.items c.fields.from c.in-Some.part c.in-Some.next c.requires.plain
    c.fields.invariant.known c.in-Some.ensures (search rules) (search rules))
