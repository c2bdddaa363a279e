-- A message of a source comes.
use Rattle.std.proofs.Common.{◌≡◌, ◌≢◌, ◌⊎◌, ℕ, ◌≤◌, ◌<◌, max, [], ◌∷◌, length, inl, inr}
use Rattle.std.proofs.Common.{sym, ap, subst, ◌∙◌, arith, ⊎_elim}
use Rattle.std.proofs.lemmas.Bool.Decides.{eqb_tells}
use Rattle.pipes_stream.specs.declared.message.Message.{Message}
use Rattle.pipes_stream.specs.Progress.{Progress}
use Rattle.pipes_stream.specs.Lists.{run, start_of_list, after, Valid, CanFollow, beat, elements}
use Rattle.pipes_stream.specs.Lawful.{Lists, with_message}
use Rattle.pipes_stream.proofs.Messages.{run-push, after-rises, beat-closed}
use Rattle.pipes_plan.specs.declared.plan.Plan.{Plan}
use Rattle.pipes_semantics.specs.Answer.{bags_at, schemas_of}
use Rattle.pipes_replies.specs.declared.replies.Replies.{Replies}
use Rattle.pipes_replies.specs.Keeping.{Keeps}
use Rattle.pipes_live.specs.Lives.{Serves}
use Rattle.pipes_live.specs.Deeds.{Stays}
use Rattle.pipes_live.specs.Deeds.{Takes as TakesLive}
use Rattle.pipes_course.specs.Known.{last_end}
use Rattle.pipes_engine.specs.declared.serving.Serving.{Serving}
use Rattle.pipes_engine.specs.Runs.{IsSound, told_by}
use Rattle.pipes_engine.specs.Deeds.{TakesIn}
use Rattle.pipes_engine.proofs.Sources.{here, elsewhere, end-longer}
use Rattle.pipes_engine.proofs.Running.{sources-count, least-rises}

same-or-not : (a b : ℕ) → (a ≡ b) ⊎ (a ≢ b)
same-or-not a b = ⊎_elim (λ p. inl p.1) (λ p. inr p.1) (eqb_tells a b)

-- no source falls back
beat-longer : (by_source : Lists) (source : ℕ) (m : Message) → ((k : ℕ) → Valid (by_source k))
    → CanFollow (run start_of_list (by_source source)) m → (k : ℕ)
    → beat (by_source k) ≤ beat (with_message by_source source m k)
beat-longer by_source source m valid follows k =
    elim (same-or-not k source) [
      | inl is ↦ (let p : Progress = run start_of_list (by_source k) in
          let up : p.beat ≤ (after p m).beat =
          (after-rises p m (subst (λ (j : ℕ). CanFollow (run start_of_list (by_source j)) m)
          (sym is) follows) (beat-closed (by_source k) (valid k))).0 in
          let now : beat (with_message by_source source m k) ≡ (after p m).beat =
          ap beat (here by_source source k m is)
          ∙ ap (λ (q : Progress). q.beat) (run-push start_of_list (by_source k) m) in
          omega (arith, up, now))
      | inr not ↦ (let same = ap beat (elsewhere by_source source k m not) in
          omega (arith, same))
    ]

pub takes-in : (old new : Serving) (source : ℕ) (m : Message) → IsSound old
    → source < length old.schemas → new.schemas ≡ old.schemas → new.plan ≡ old.plan
    → new.replies ≡ old.replies → new.end ≡ max old.end (last_end (elements (m ∷ [])))
    → Stays old.live new.live → TakesLive old.live new.live source m → TakesIn old new source m
takes-in old new source m sound low schemas plan replies end stays t = record {
  entries = t.entries;
  beat = t.beat;
  runs = λ query items asks later by_source entries r next.
      let count = sources-count old query sound r.schemas_are in
      let whole = sound.count in
      let within : source < length query.sources = omega (arith, low, count, whole) in
      let valid = r.serves.sources.valid in
      let rises = least-rises (length query.sources) by_source
      (with_message by_source source m) (beat-longer by_source source m valid next.follows) in
      let was = r.inputs_low in let out = r.output_low in let beats = t.beat in
      let ends = end-longer query.sources source by_source m within in
      let ended = r.end_is in
      record {
        schemas_are = schemas ∙ r.schemas_are;
        later_are = r.later_are;
        plan_is = r.plan_is ∙ sym plan;
        serves = subst (λ (p : Plan). Serves new.live (schemas_of query) query.plan p
            (told_by query asks entries).earlier (bags_at query.sources items)
            (with_message by_source source m) entries) (sym plan)
            (t.taken_in (schemas_of query) query.plan old.plan
            (told_by query asks entries).earlier (bags_at query.sources items) by_source entries
            r.serves next);
        inputs = r.inputs;
        output = r.output;
        inputs_low = omega (arith, was, rises);
        output_low = omega (arith, out, beats);
        keeps = subst (λ (x : Replies). Keeps x (told_by query asks entries) r.inputs r.output)
            (sym replies) r.keeps;
        moving = λ not alone. r.moving
            (λ calm. not (ap (λ (x : Replies). x.stage) replies ∙ calm)) (stays.alone.1 alone);
        follow = r.follow;
        going = r.going;
        coalesced = r.coalesced;
        end_is = omega (arith, ends, ended, end);
      };
}
