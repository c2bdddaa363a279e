use Rattle.std.proofs.Common.{◌≡◌, ◌∙◌, ◌∷◌, refl, ap, ℕ}
use Rattle.pipes_stream.specs.declared.message.Message.TheVariants as message
use Rattle.pipes_seam.specs.Seams.{end_of}
use Rattle.pipes_written.specs.declared.output.Output.{Output}
use Rattle.pipes_moving.proofs.Beginning.{begins}
use Rattle.pipes_moving.proofs.moving.Moving.begin.Goals as goal

pub returns-clause-begins : goal.returns-clause-begins
returns-clause-begins c =
    let first : c.beat_now-first.result ≡ c.args.standing.output.beat =
    c.beat_now-first.ensures ∙ ap (λ (o : Output). o.beat) c.into_parts-parts.ensures.output in
    begins c.args.standing c.args.next c.args.split _ c.is_ended.result
    c.into_parts-parts.ensures.works refl c.into_parts-parts.ensures.output c.new.ensures.items
    (λ schemas plan by_source got s. c.is_ended.ensures schemas plan by_source got
    (rw c.into_parts-parts.ensures.works s))
    (c.opened-old_sent.ensures
    ∙ ap (λ (h : ℕ). message.Beat h ∷ end_of c.is_ended.result) first)
    (c.new-2.ensures.first ∙ first) c.new-2.ensures.split c.new-2.ensures.stands
