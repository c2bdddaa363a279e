use Rattle.std.proofs.Common.{rules, ◌≡◌, ◌∷◌, ◌++◌, [], List, ℕ, sym, ap, ◌∙◌}
use Rattle.csv.specs.Records.{fields_of}
use Rattle.pipes_line.proofs.Copying.{one_more, no_more}
use Rattle.pipes_line.proofs.quoted.copy_fields.Goals as goal

pub fields-preserved : goal.fields-preserved
fields-preserved c =
    let more = one_more (fields_of c.args.row.now) c.fields.i c.in-Some.field.now (search rules) in
    let closed : c.close.new.self.closed ≡ c.fields.copied.closed ++ c.in-Some.field.now ∷ [] =
    search rules in
    record {
      closed = closed ∙ ap (λ (l : List (List ℕ)). l ++ c.in-Some.field.now ∷ [])
          c.fields.invariant.closed ∙ sym more;
      last = search rules;
    }

pub returns : goal.returns
returns c = c.fields.invariant.closed ∙ no_more (fields_of c.args.row.now) c.fields.i (search rules)
