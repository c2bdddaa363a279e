use Rattle.std.proofs.Common.{rules, ◌≡◌, ◌++◌, ap, ◌∙◌}
use Rattle.pipes_line.specs.Copied.{Fields}
use Rattle.pipes_line.proofs.Copying.{fields_with, appended}
use Rattle.pipes_line.proofs.copied.Copied.append.Goals as goal

pub returns : goal.returns
returns c =
    let held = c.self.inside in
    let was : fields_with held.parts.items held.from held.bytes.items ≡ c.args.self.now =
    search rules in
    let grown : c.extend_from_slice.new.self.items ≡ held.bytes.items ++ c.args.bytes.now =
    search rules in
    ap (fields_with held.parts.items held.from) grown ∙ appended held.parts.items held.from
    held.bytes.items c.args.bytes.now (search rules) (search rules)
    ∙ ap (λ (f : Fields). record f { last = f.last ++ c.args.bytes.now }) was
