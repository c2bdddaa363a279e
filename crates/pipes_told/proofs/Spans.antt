-- Entries that may follow while a part of the intervals is known may follow with all of them, as
-- long as the heartbeat of the inputs is one below which no other interval starts.
use Rattle.std.proofs.Common.{◌≡◌, ℕ, ◌+◌, ◌≤◌, List, [], ◌∷◌, Option, sym, subst}
use Rattle.std.specs.Prelude.{⊤}
use Rattle.pipes_stream.specs.declared.Elem.{Elem}
use Rattle.pipes_output.specs.declared.entry.Entry.{Entry}
use Rattle.pipes_output.specs.declared.entry.Entry.TheVariants as entry
use Rattle.pipes_told.specs.Asks.{Ask, Migrates, Drains, Inputs, Taken, Awaited, NextInputs}
use Rattle.pipes_told.specs.Told.{Told, after_entry}
use Rattle.pipes_told.specs.Pacing.{steepest, least_output, AreTimely, EachMove, IsTimely}
use Rattle.pipes_told.specs.Pacing.{SplitsAbove}
use Rattle.pipes_told.specs.Pacing.{MayFollow, Follow}
use Rattle.pipes_told.specs.Floors.{Grown}
use Rattle.pipes_told.proofs.Floors.{floors-grown}

-- what is known of the inputs is a heartbeat up to this one
abbrev pub UpTo : ℕ → Inputs → Type 0
UpTo beat (Taken inputs end) = inputs ≤ beat
UpTo beat (Awaited low) = ⊤

-- the entry speaks of no heartbeat of the inputs above this one
abbrev pub SpeaksUpTo : {P D : Type 0} → ℕ → Told P D → Entry → Type 0
SpeaksUpTo beat told (entry.Result e) = ⊤
SpeaksUpTo beat told (entry.Beat h) = ⊤
SpeaksUpTo beat told (entry.Accepted number split) = NextInputs (UpTo beat) told.asks
SpeaksUpTo beat told (entry.Refused command why) = NextInputs (UpTo beat) told.asks
SpeaksUpTo beat told (entry.Idle number) = ⊤
SpeaksUpTo beat told (entry.Over number) = ⊤
SpeaksUpTo beat told (entry.Drained inputs output) = inputs ≤ beat
SpeaksUpTo beat told entry.Ended = ⊤
SpeaksUpTo beat told entry.Stopped = ⊤

-- each where it stands
abbrev pub AllSpeakUpTo : {P D : Type 0} → (D → P) → ℕ → Told P D → List Entry → Type 0
AllSpeakUpTo target beat told [] = ⊤
AllSpeakUpTo target beat told (e ∷ es) =
    SpeaksUpTo beat told e × AllSpeakUpTo target beat (after_entry target told e) es

module _ {P D : Type 0} (target : D → P) (ComesTo : P → D → Option ℕ → Type 0)
    (steep : P → ℕ) (beat : ℕ) (known all : List Elem)
    (grown : Grown beat known all) where
  pub least-grown : (told : Told P D) (inputs : ℕ) → inputs ≤ beat
      → least_output steep all told inputs ≡ least_output steep known told inputs
  least-grown told inputs low =
      floors-grown (steepest steep (told.plan ∷ told.earlier) + 1) beat inputs known all low grown

  timely-grown : (told : Told P D) (i : Inputs) → UpTo beat i → AreTimely steep known told i
      → AreTimely steep all told i
  timely-grown told (Taken inputs end) low timely =
      subst (λ (n : ℕ). EachMove (IsTimely inputs n) told.moves)
      (sym (least-grown told inputs low)) timely
  timely-grown told (Awaited low) up timely = tt

  accepted-grown : (told : Told P D) (split : ℕ) (asks : List (Ask D)) → NextInputs (UpTo beat) asks
      → NextInputs (λ i. SplitsAbove split i × AreTimely steep known told i) asks
      → NextInputs (λ i. SplitsAbove split i × AreTimely steep all told i) asks
  accepted-grown told split [] up p = absurd up
  accepted-grown told split (Migrates d i ∷ asks) up p = (p.0, timely-grown told i up p.1)
  accepted-grown told split (Drains i ∷ asks) up p = (p.0, timely-grown told i up p.1)

  refused-grown : (told : Told P D) (asks : List (Ask D)) → NextInputs (UpTo beat) asks
      → NextInputs (AreTimely steep known told) asks → NextInputs (AreTimely steep all told) asks
  refused-grown told [] up p = absurd up
  refused-grown told (Migrates d i ∷ asks) up p = timely-grown told i up p
  refused-grown told (Drains i ∷ asks) up p = timely-grown told i up p

  pub may_follow-grown : (told : Told P D) (e : Entry) → SpeaksUpTo beat told e
      → MayFollow ComesTo steep known told e → MayFollow ComesTo steep all told e
  may_follow-grown told (entry.Result e) up m =
      record { going = m.going; due = m.due; replies = tt; paced = m.paced }
  may_follow-grown told (entry.Beat h) up m =
      record { going = m.going; due = m.due; replies = m.replies; paced = tt }
  may_follow-grown told (entry.Accepted number split) up m =
      record {
        going = m.going;
        due = m.due;
        replies = m.replies;
        paced = accepted-grown told split told.asks up m.paced;
      }
  may_follow-grown told (entry.Refused command why) up m =
      record {
        going = m.going;
        due = m.due;
        replies = m.replies;
        paced = refused-grown told told.asks up m.paced;
      }
  may_follow-grown told (entry.Idle number) up m =
      record { going = m.going; due = m.due; replies = tt; paced = m.paced }
  may_follow-grown told (entry.Over number) up m =
      record { going = m.going; due = m.due; replies = tt; paced = m.paced }
  may_follow-grown told (entry.Drained inputs output) up m =
      let p = m.paced in
      record {
        going = m.going;
        due = m.due;
        replies = m.replies;
        paced = record {
          tells = p.tells;
          reached = subst (λ (n : ℕ). n ≤ output)
              (sym (least-grown told inputs up)) p.reached;
          moves = p.moves;
        };
      }
  may_follow-grown told entry.Ended up m =
      record { going = m.going; due = m.due; replies = m.replies; paced = m.paced }
  may_follow-grown told entry.Stopped up m =
      record { going = m.going; due = m.due; replies = m.replies; paced = m.paced }

  pub Follow-grown : (told : Told P D) (es : List Entry) → AllSpeakUpTo target beat told es
      → Follow target ComesTo steep known told es → Follow target ComesTo steep all told es
  Follow-grown told [] up follow = tt
  Follow-grown told (e ∷ es) up follow = (
    may_follow-grown told e up.0 follow.0,
    Follow-grown (after_entry target told e) es up.1 follow.1,
  )
