use Rattle.std.proofs.Common.{rules}
use Rattle.pipes_line.proofs.PartFields.{bare_field, quoted_field}
use Rattle.pipes_line.proofs.split.field_from.Goals as goal

pub returns-in_ok-len : goal.returns-in_ok-len
returns-in_ok-len c = quoted_field c.args.line.now c.args.from c.in_ok-len.len c.requires.within
    (search rules) (search rules)

pub returns-else-begins_quoted : goal.returns-else-begins_quoted
returns-else-begins_quoted c =
    bare_field c.args.line.now c.args.from c.field_len.result c.requires.within c.requires.some
    (search rules) (search rules) (search rules)
