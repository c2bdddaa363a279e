use Rattle.std.proofs.Common.{◌≡◌, List, ℕ, [], ◌∷◌, codes, subst}
use Rattle.std.specs.Fmt.{decimal}
use Rattle.pipes_tuple.specs.Texts.{quoted}
use Rattle.pipes_error.specs.Fault.{Given, line_of_parts, WritesLine}
use Rattle.pipes_error.proofs.say_derivation.Goals as goal

pub returns : goal.returns
returns g c =
    let r = c.args.refusal.now in
    let given : Given = record {
      written_before = g.K.Sink.written c.args.err.now;
      written_now = g.K.Sink.written c.say_parts.new.err;
      faults_before =
          g.K.Sink.faults c.args.err.now;
      faults_now = g.K.Sink.faults c.say_parts.new.err;
    } in
    let name : c.as_bytes.result.now ≡ c.args.name.now = c.as_bytes.ensures.value in
    subst (λ (why : List ℕ). WritesLine (line_of_parts (codes "derivation" ∷ quoted c.args.name.now
    ∷ decimal r.line ∷ decimal r.column ∷ why ∷ [])) given)
    c.text_why-why.ensures
    (subst (λ (n : List ℕ). WritesLine (line_of_parts (codes "derivation" ∷ quoted n
    ∷ decimal r.line ∷ decimal r.column ∷ c.text_why-why.result.now ∷ [])) given)
    name c.say_parts.ensures)
