use Rattle.std.proofs.Common.{rules, ◌≡◌, ℕ, length, reverse, sym, subst, ap, ◌∙◌, arith}
use Rattle.pipes_stream.specs.Weights.{weigh}
use Rattle.pipes_coalesce.specs.Filed.{Entries, AreFiled, contents}
use Rattle.pipes_coalesce.proofs.Filing.{reverse-filed, reverse-weights, reverse-length}
use Rattle.pipes_coalesce.proofs.by_tuple.ByTuple.turn_round.Goals as goal

pub invariant_of-self : goal.invariant_of-self
invariant_of-self c =
    let es : Entries = c.self.inside.table.entries in
    subst (λ (fs : Entries). AreFiled fs × (c.self.inside.count ≡ length (contents fs)))
    (sym c.reverse.ensures.entries)
    (reverse-filed es c.self.invariant.0, c.self.invariant.1 ∙ sym (reverse-length es))

pub returns : goal.returns
returns c = λ f.
    let es : Entries = c.self.inside.table.entries in
    let view : c.args.self.now ≡ contents es = search rules in
    ap (λ (fs : Entries). weigh f (contents fs)) c.reverse.ensures.entries ∙ reverse-weights f es
    ∙ ap (weigh f) (sym view)
