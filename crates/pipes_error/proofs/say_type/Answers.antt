use Rattle.std.proofs.Common.{List, ℕ, [], ◌∷◌, codes, subst}
use Rattle.std.specs.Fmt.{decimal}
use Rattle.pipes_error.specs.Fault.{line_of_parts, WritesLine}
use Rattle.pipes_error.proofs.say_type.Goals as goal

pub returns : goal.returns
returns g c =
    let r = c.args.refusal.now in
    subst (λ (why : List ℕ). WritesLine (line_of_parts (codes "query" ∷ codes "type" ∷ decimal
    r.place ∷ why ∷ []))
    (record {
      written_before = g.K.Sink.written c.args.err.now;
      written_now =
          g.K.Sink.written c.say_parts.new.err;
      faults_before = g.K.Sink.faults c.args.err.now;
      faults_now = g.K.Sink.faults c.say_parts.new.err;
    })) c.type_why-why.ensures
    c.say_parts.ensures
