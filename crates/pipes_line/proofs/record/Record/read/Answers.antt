use Rattle.std.proofs.Common.{rules, ◌≡◌, ap, ◌∙◌, length}
use Rattle.std.proofs.lemmas.List.{nil_from_length}
use Rattle.pipes_line.specs.Content.{content_of}
use Rattle.pipes_line.proofs.OneRecord.{empty_is_blank}
use Rattle.pipes_line.proofs.record.Record.read.Goals as goal

pub returns-then-is_empty : goal.returns-then-is_empty
returns-then-is_empty c =
    let none : length c.args.line.now ≡ 0 = search rules in
    ap content_of (nil_from_length c.args.line.now none) ∙ empty_is_blank
