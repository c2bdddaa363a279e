-- What whole calls tell.
use Rattle.std.proofs.Common.{◌≡◌, ◌⊎◌, ℕ, ◌≤◌, ◌<◌, Bool, true, false, List, [], ◌∷◌, map, length}
use Rattle.std.proofs.Common.{Option, Some, None, inl, inr, refl, sym, ap, subst, ◌∙◌, arith}
use Rattle.std.specs.Bool.{IsTrue}
use Rattle.std.specs.List.{All}
use Rattle.std.proofs.lemmas.List.Elements.{All-head, All-tail}
use Rattle.pipes_time.specs.Interval.{closed}
use Rattle.pipes_tuple.specs.declared.value.Kind.{Kind}
use Rattle.pipes_stream.specs.declared.Elem.{Elem}
use Rattle.pipes_output.specs.declared.entry.Entry.{Entry}
use Rattle.pipes_output.specs.declared.entry.Entry.TheVariants as entry
use Rattle.pipes_derivation.specs.declared.derivation.Derivation.{Derivation}
use Rattle.pipes_told.specs.Asks.{Ask, Drains, Taken, NextDrains, NextInputs}
use Rattle.pipes_told.specs.Told.{Move, Told, after_entry, after_entries}
use Rattle.pipes_told.specs.Pacing.{EachMove, IsOver, IsPaced, MayFollow, Follow, StartsBehind}
use Rattle.pipes_told.specs.Pacing.{TellsInputs, IsDrain, least_output}
use Rattle.pipes_told.specs.Steep.{steep}
use Rattle.pipes_replies.specs.declared.replies.Replies.{Replies}
use Rattle.pipes_replies.specs.declared.stage.Stage.{Stage}
use Rattle.pipes_replies.specs.declared.stage.Stage.TheVariants.{Calm, Moving}
use Rattle.pipes_replies.specs.Leading.{target, ComesTo}
use Rattle.pipes_replies.specs.Keeping.{IsAt, IsPast, Keeps, KeepsPaced}
use Rattle.pipes_replies.specs.Telling.{AllTold, HasReached, NextDrain, Paces}
use Rattle.pipes_replies.specs.Telling.{TellsResults, TellsDrain, TellsEnd}
use Rattle.pipes_replies.specs.Telling.{over_entries, idle_entries}
use Rattle.pipes_replies.proofs.Stages.{keeps-later, calm-paced, before-split, idle-behind}
use Rattle.pipes_replies.proofs.Steps.{NowAt, told-idle, told-over}

-- ---- what is told of the last migration

-- nothing: none is in progress
pub paces-calm : (r : Replies) (inputs output : ℕ) → inputs ≤ closed
    → (inputs ≡ closed → output ≡ closed) → r.stage ≡ Calm → Paces r r inputs output []
paces-calm r inputs output within ends calm schemas spans told before behind k rise climb = (
  tt,
  calm-paced r told inputs output
      (keeps-later before behind inputs output rise climb within ends r told k) calm,
)

-- nothing: the inputs have not reached its split
pub paces-before : (r : Replies) (inputs output split : ℕ) (idle : Bool) → inputs ≤ closed
    → (inputs ≡ closed → output ≡ closed) → r.stage ≡ Moving split idle → inputs < split
    → Paces r r inputs output []
paces-before r inputs output split idle within ends is low schemas spans told before behind k rise
    climb = (
      tt,
      before-split r told inputs output
          (keeps-later before behind inputs output rise climb within ends r told k) split idle is
          low,
    )

-- nothing new: it was told to be idle, and the output has not passed it
pub paces-behind : (old new : Replies) (inputs output split : ℕ) → inputs ≤ closed
    → (inputs ≡ closed → output ≡ closed) → old.stage ≡ Moving split true
    → NowAt old new (Moving split true) → output ≤ split → (inputs ≡ closed → ⊥)
    → Paces old new inputs output []
paces-behind old new inputs output split within ends is now low goes schemas spans told before
    behind k rise climb =
    (tt, idle-behind new told inputs output now_kept split now.stage_is low goes)
  where
    first : Keeps old told inputs output
    first = keeps-later before behind inputs output rise climb within ends old told k

    now_kept : Keeps new told inputs output
    now_kept = record {
      going = first.going;
      due = first.due;
      commands = first.commands ∙ sym now.commands;
      accepted = first.accepted ∙ sym now.accepted;
      last = first.last ∙ sym now.last;
      at = subst (λ (s : Stage). IsAt inputs s told.moves) (is ∙ sym now.stage_is) first.at;
      past = first.past;
    }

-- that it is idle
pub paces-idle : (old new : Replies) (inputs output split : ℕ) → inputs ≤ closed
    → (inputs ≡ closed → output ≡ closed) → old.stage ≡ Moving split false → split ≤ inputs
    → NowAt old new (Moving split true) → output ≤ split → (inputs ≡ closed → ⊥)
    → Paces old new inputs output (entry.Idle old.accepted ∷ [])
paces-idle old new inputs output split within ends is far now low goes schemas spans told before
    behind k rise climb =
    let step = told-idle target (ComesTo schemas) steep spans old new told inputs output split
    (keeps-later before behind inputs output rise climb within ends old told k) is far now in (
      (step.0, tt),
      idle-behind new (after_entry target told (entry.Idle old.accepted)) inputs output step.1 split
          now.stage_is low goes,
    )

-- that it is over
pub paces-over : (old new : Replies) (inputs output split : ℕ) → inputs ≤ closed
    → (inputs ≡ closed → output ≡ closed) → old.stage ≡ Moving split true
    → (split < output) ⊎ (inputs ≡ closed) → NowAt old new Calm
    → Paces old new inputs output (entry.Over old.accepted ∷ [])
paces-over old new inputs output split within ends is far now schemas spans told before behind k
    rise climb =
    let step = told-over target (ComesTo schemas) steep spans old new told inputs output split
    (keeps-later before behind inputs output rise climb within ends old told k) is
    (passed far) now in (
      (step.0, tt),
      calm-paced new (after_entry target told (entry.Over old.accepted)) inputs output step.1
          now.stage_is,
    )
  where
    passed : (split < output) ⊎ (inputs ≡ closed)
        → (split < output) ⊎ ((inputs ≡ closed) × (output ≡ closed))
    passed (inl low) = inl low
    passed (inr all) = inr (all, ends all)

-- both
pub paces-both : (old new : Replies) (inputs output split : ℕ) → inputs ≤ closed
    → (inputs ≡ closed → output ≡ closed) → old.stage ≡ Moving split false → split ≤ inputs
    → (split < output) ⊎ (inputs ≡ closed) → NowAt old new Calm
    → Paces old new inputs output (entry.Idle old.accepted ∷ entry.Over old.accepted ∷ [])
paces-both old new inputs output split within ends is reached far now schemas spans told before
    behind k rise climb =
    let idle = told-idle target (ComesTo schemas) steep spans old mid told inputs output split
    (keeps-later before behind inputs output rise climb within ends old told k) is reached here in
    let over = told-over target (ComesTo schemas) steep spans mid new
    (after_entry target told (entry.Idle old.accepted)) inputs output split idle.1 refl
    (passed far) there in (
      (idle.0, (over.0, tt)),
      calm-paced new (after_entries target told (entry.Idle old.accepted
          ∷ entry.Over old.accepted ∷ [])) inputs output over.1 now.stage_is,
    )
  where
    mid : Replies
    mid = record old { stage = Moving split true }

    here : NowAt old mid (Moving split true)
    here = record { commands = refl; accepted = refl; last = refl; stage_is = refl }

    there : NowAt mid new Calm
    there = record {
      commands = now.commands;
      accepted = now.accepted;
      last = now.last;
      stage_is = now.stage_is;
    }

    passed : (split < output) ⊎ (inputs ≡ closed)
        → (split < output) ⊎ ((inputs ≡ closed) × (output ≡ closed))
    passed (inl low) = inl low
    passed (inr all) = inr (all, ends all)

-- that it is over, whether or not it was told to be idle
pub paces-past : (old new : Replies) (inputs output split : ℕ) (idle : Bool) → inputs ≤ closed
    → (inputs ≡ closed → output ≡ closed) → old.stage ≡ Moving split idle → split ≤ inputs
    → (split < output) ⊎ (inputs ≡ closed) → NowAt old new Calm
    → Paces old new inputs output (over_entries idle old.accepted)
paces-past old new inputs output split true within ends is reached far now =
    paces-over old new inputs output split within ends is far now
paces-past old new inputs output split false within ends is reached far now =
    paces-both old new inputs output split within ends is reached far now

-- that it is idle, where that is new
pub paces-reached : (old new : Replies) (inputs output split : ℕ) (idle : Bool) → inputs ≤ closed
    → (inputs ≡ closed → output ≡ closed) → old.stage ≡ Moving split idle → split ≤ inputs
    → NowAt old new (Moving split true) → output ≤ split → (inputs ≡ closed → ⊥)
    → Paces old new inputs output (idle_entries idle old.accepted)
paces-reached old new inputs output split true within ends is reached now low goes =
    paces-behind old new inputs output split within ends is now low goes
paces-reached old new inputs output split false within ends is reached now low goes =
    paces-idle old new inputs output split within ends is reached now low goes

-- ---- results

behind-each : (e : Elem) (inputs output : ℕ) (ms : List Move)
    → EachMove (λ m. IsTrue m.over → IsPast inputs output m) ms → output ≤ e.span.start
    → e.span.start < closed → EachMove (StartsBehind e) ms
behind-each e inputs output [] past low high = tt
behind-each e inputs output (m ∷ ms) past low high =
    (λ over. behind (past.0 over).passed, behind-each e inputs output ms past.1 low high)
  where
    behind : (m.split < output) ⊎ ((inputs ≡ closed) × (output ≡ closed))
        → m.split < e.span.start
    behind (inl under) = omega (arith, under, low)
    behind (inr both) = let all = both.1 in absurd (omega (arith, all, low, high))

pub tells-results : (r : Replies) (elems : List Elem) → TellsResults r elems
tells-results r [] schemas spans told inputs output k all = (tt, refl)
tells-results r (e ∷ es) schemas spans told inputs output k all =
    let first =
    All-head (λ (e : Elem). (output ≤ e.span.start) × (e.span.start < closed)) e es all in
    let rest = tells-results r es schemas spans told inputs output k
    (All-tail (λ (e : Elem). (output ≤ e.span.start) × (e.span.start < closed)) e es all) in (
      (
        record {
          going = k.going;
          due = k.due;
          replies = tt;
          paced = behind-each e inputs output told.moves k.past first.0 first.1;
        },
        rest.0,
      ),
      rest.1,
    )

-- ---- a drain

drain-with : (r : Replies) (inputs output end : ℕ) (schemas : List (List Kind))
    (spans : List Elem) (told : AllTold) (asks later : List (Ask Derivation))
    → asks ≡ Drains (Taken inputs end) ∷ later
    → NextDrains asks × NextInputs (TellsInputs inputs) asks
drain-with r inputs output end schemas spans told asks later is =
    subst (λ (q : List (Ask Derivation)). NextDrains q × NextInputs (TellsInputs inputs) q)
    (sym is) (tt, refl)

pub tells-drain : (r : Replies) (inputs output : ℕ) → TellsDrain r inputs output
tells-drain r inputs output schemas spans told end p next reached =
    let k = p.keeps in
    let asked = drain-with r inputs output end schemas spans told told.asks next.0 next.1 in (
      (
        record { going = k.going; due = k.due; replies = asked.0; paced = tt },
        (
          record {
            going = k.going;
            due = refl;
            replies = asked.0;
            paced = record { tells = asked.1; reached = reached.1; moves = p.paced };
          },
          tt,
        ),
      ),
      record {
        keeps = record {
          going = k.going;
          due = refl;
          commands = k.commands;
          accepted = k.accepted;
          last = k.last;
          at = k.at;
          past = k.past;
        };
        paced = p.paced;
      },
    )

-- ---- the end

all-over : (inputs output : ℕ) (ms : List Move) → inputs ≡ closed
    → EachMove (IsPaced inputs output) ms
    → EachMove (λ m. IsTrue m.over → IsPast inputs output m) ms → EachMove IsOver ms
all-over inputs output [] all paced past = tt
all-over inputs output (m ∷ ms) all paced past =
    let over : IsTrue m.over = paced.0.over.1 (inr all) in (
      (paced.0.idle.1 (past.0 over).reached, over),
      all-over inputs output ms all paced.1 past.1,
    )

pub tells-end : (r : Replies) → TellsEnd r
tells-end r schemas spans told inputs output p all none =
    let k = p.keeps in
    let over = all-over inputs output told.moves all p.paced k.past in (
      record { going = k.going; due = k.due; replies = none; paced = over },
      record { going = k.going; due = k.due; replies = none; paced = over },
    )
