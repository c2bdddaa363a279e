use Rattle.std.proofs.Common.{rules, ◌≡◌, ◌+◌, ◌++◌, ◌∷◌, ◌∙◌, [], length, Vec, Global, ap}
use Rattle.std.proofs.lemmas.List.{length_push}
use Rattle.pipes_tuple.specs.declared.value.Value.{Value}
use Rattle.pipes_line.specs.Fields.{fields_in}
use Rattle.pipes_feed.proofs.Columns.{one_more, one_fails, one_lacks}
use Rattle.pipes_feed.proofs.judge.values_of.Goals as goal

pub columns-preserved : goal.columns-preserved
columns-preserved c =
    let more = one_more c.columns.values.items c.columns.column c.args.schema.now
    (fields_in c.args.fields.now c.args.line.now) c.in-Some.field.now c.in-Ok.value _
    (search rules) (search rules) (search rules) c.columns.invariant.known in
    let grown : c.push.new.values.items ≡ c.columns.values.items ++ c.in-Ok.value ∷ [] =
    search rules in
    let one = ap (length {A = Value}) grown ∙ length_push c.columns.values.items c.in-Ok.value in
    record {
      count = one ∙ ap (λ n. n + 1) c.columns.invariant.count;
      known = rw grown more;
    }

pub returns-in_default-clause-values : goal.returns-in_default-clause-values
returns-in_default-clause-values c =
    one_lacks c.columns.values.items c.columns.column c.args.schema.now
    (fields_in c.args.fields.now c.args.line.now) _ (search rules) (search rules)
    c.columns.invariant.known

pub returns-in-Err-clause-values : goal.returns-in-Err-clause-values
returns-in-Err-clause-values c =
    one_fails (λ (values : Vec Value Global). values.items) c.columns.values.items c.columns.column
    c.args.schema.now (fields_in c.args.fields.now c.args.line.now) c.in-Some.field.now
    c.in-Err.fault _ (search rules) (search rules) (search rules) c.columns.invariant.known
