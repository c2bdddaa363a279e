-- One entry more: that a migration is idle, or over; that one is refused, or accepted.
use Rattle.std.proofs.Common.{◌≡◌, ◌⊎◌, ℕ, ◌≤◌, ◌<◌, ◌+◌, Bool, true, false, List, [], ◌∷◌, length}
use Rattle.std.proofs.Common.{Option, Some, None, inl, inr, refl, sym, ap, subst, ◌∙◌, arith}
use Rattle.std.specs.Bool.{IsTrue}
use Rattle.pipes_time.specs.Interval.{closed}
use Rattle.pipes_stream.specs.declared.Elem.{Elem}
use Rattle.pipes_output.specs.declared.entry.Entry.TheVariants as entry
use Rattle.pipes_output.specs.declared.entry.RefusedWhy.{RefusedWhy}
use Rattle.pipes_told.specs.Asks.{Ask, Migrates, Taken, NextMigrates, NextInputs}
use Rattle.pipes_told.specs.Told.{Move, Told, new_move, last_split, in_progress, after_entry}
use Rattle.pipes_told.specs.Told.{accepted}
use Rattle.pipes_told.specs.Replies.{AcceptsMove, IsRefusal, RefusesMove, most_moves}
use Rattle.pipes_told.specs.Pacing.{EachMove, IsOver, IsPaced, MayFollow, least_output}
use Rattle.pipes_told.specs.Pacing.{AreTimely, SplitsAbove}
use Rattle.pipes_told.proofs.Calls.{each-timely}
use Rattle.pipes_replies.specs.declared.replies.Replies.{Replies}
use Rattle.pipes_replies.specs.declared.stage.Stage.{Stage}
use Rattle.pipes_replies.specs.declared.stage.Stage.TheVariants.{Calm, Moving}
use Rattle.pipes_replies.specs.Keeping.{IsInProgress, IsAt, IsPast, Keeps, KeepsPaced, MayAccept}
use Rattle.pipes_replies.proofs.Stages.{with_moves}

-- the same numbers, and the last migration stands here now
pub record NowAt (old new : Replies) (stage : Stage) : Type 0 where
  pub commands : new.commands ≡ old.commands
  pub accepted : new.accepted ≡ old.accepted
  pub last : new.last ≡ old.last
  pub stage_is : new.stage ≡ stage

not_true : {A : Type 0} (b : Bool) → b ≡ false → IsTrue b → A
not_true b isnt is = let both : true ≡ false = sym is ∙ isnt in cc

module _ {P D : Type 0} (target : D → P) (ComesTo : P → D → Option ℕ → Type 0) (steep : P → ℕ)
    (spans : List Elem) where
  -- ---- idle

  idle-with : (old new : Replies) (told : Told P D) (moves : List Move) (inputs output split : ℕ)
      → Keeps old (with_moves told moves) inputs output → old.stage ≡ Moving split false
      → split ≤ inputs → NowAt old new (Moving split true)
      → MayFollow ComesTo steep spans (with_moves told moves) (entry.Idle old.accepted)
      × Keeps new (after_entry target (with_moves told moves) (entry.Idle old.accepted)) inputs
      output
  idle-with old new told [] inputs output split k is low now =
      absurd (subst (λ (s : Stage). IsAt inputs s []) is k.at)
  idle-with old new told (m ∷ ms) inputs output split k is low now =
      let at : IsInProgress inputs split false m ms =
      subst (λ (s : Stage). IsAt inputs s (m ∷ ms)) is k.at in (
        record {
          going = k.going;
          due = k.due;
          replies = tt;
          paced = (sym k.accepted, at.idle_is);
        },
        record {
          going = k.going;
          due = k.due;
          commands = k.commands ∙ sym now.commands;
          accepted = k.accepted ∙ sym now.accepted;
          last = k.last ∙ sym now.last;
          at = subst (λ (s : Stage). IsAt inputs s (record m { idle = true } ∷ ms))
              (sym now.stage_is) (record {
                split_is = at.split_is;
                idle_is = refl;
                going = at.going;
                within = at.within;
                reached = λ told. low;
                others = at.others;
              });
          past = (λ over. not_true m.over at.going over, k.past.1);
        },
      )

  pub told-idle : (old new : Replies) (told : Told P D) (inputs output split : ℕ)
      → Keeps old told inputs output → old.stage ≡ Moving split false → split ≤ inputs
      → NowAt old new (Moving split true)
      → MayFollow ComesTo steep spans told (entry.Idle old.accepted)
      × Keeps new (after_entry target told (entry.Idle old.accepted)) inputs output
  told-idle old new told = idle-with old new told told.moves

  -- ---- over

  over-with : (old new : Replies) (told : Told P D) (moves : List Move) (inputs output split : ℕ)
      → Keeps old (with_moves told moves) inputs output → old.stage ≡ Moving split true
      → (split < output) ⊎ ((inputs ≡ closed) × (output ≡ closed)) → NowAt old new Calm
      → MayFollow ComesTo steep spans (with_moves told moves) (entry.Over old.accepted)
      × Keeps new (after_entry target (with_moves told moves) (entry.Over old.accepted)) inputs
      output
  over-with old new told [] inputs output split k is far now =
      absurd (subst (λ (s : Stage). IsAt inputs s []) is k.at)
  over-with old new told (m ∷ ms) inputs output split k is far now =
      let at : IsInProgress inputs split true m ms =
      subst (λ (s : Stage). IsAt inputs s (m ∷ ms)) is k.at in
      let same = at.split_is in let reached = at.reached refl in (
        record {
          going = k.going;
          due = k.due;
          replies = tt;
          paced = (sym k.accepted, at.idle_is, at.going);
        },
        record {
          going = k.going;
          due = k.due;
          commands = k.commands ∙ sym now.commands;
          accepted = k.accepted ∙ sym now.accepted;
          last = k.last ∙ sym now.last;
          at = subst (λ (s : Stage). IsAt inputs s (record m { over = true } ∷ ms))
              (sym now.stage_is) ((at.idle_is, refl), at.others);
          past = (
            λ over. record {
              reached = omega (arith, same, reached);
              passed = passed same far;
            },
            k.past.1,
          );
        },
      )
    where
      passed : m.split ≡ split → (split < output) ⊎ ((inputs ≡ closed) × (output ≡ closed))
          → (m.split < output) ⊎ ((inputs ≡ closed) × (output ≡ closed))
      passed same (inl low) = inl (omega (arith, same, low))
      passed same (inr both) = inr both

  pub told-over : (old new : Replies) (told : Told P D) (inputs output split : ℕ)
      → Keeps old told inputs output → old.stage ≡ Moving split true
      → (split < output) ⊎ ((inputs ≡ closed) × (output ≡ closed)) → NowAt old new Calm
      → MayFollow ComesTo steep spans told (entry.Over old.accepted)
      × Keeps new (after_entry target told (entry.Over old.accepted)) inputs output
  told-over old new told = over-with old new told told.moves

  -- ---- refused

  pub told-refused : (old new : Replies) (told : Told P D) (d : D) (later : List (Ask D))
      (inputs output end : ℕ) (why : RefusedWhy) → KeepsPaced old told inputs output
      → told.asks ≡ Migrates d (Taken inputs end) ∷ later
      → least_output steep spans told inputs ≤ inputs
      → least_output steep spans told inputs ≤ output → IsRefusal ComesTo told d why
      → new.commands ≡ old.commands + 1 → new.accepted ≡ old.accepted → new.last ≡ old.last
      → new.stage ≡ old.stage
      → MayFollow ComesTo steep spans told (entry.Refused new.commands why)
      × KeepsPaced new (after_entry target told (entry.Refused new.commands why)) inputs output
  told-refused old new told d later inputs output end why p asks low reached refused one same last
      stage =
      let k = p.keeps in let replies = k.commands in (
        record {
          going = k.going;
          due = k.due;
          replies = next asks;
          paced = timely asks;
        },
        record {
          keeps = record {
            going = k.going;
            due = k.due;
            commands = omega (arith, one, replies);
            accepted = k.accepted ∙ sym same;
            last = k.last ∙ sym last;
            at = subst (λ (s : Stage). IsAt inputs s told.moves) (sym stage) k.at;
            past = k.past;
          };
          paced = p.paced;
        },
      )
    where
      next : told.asks ≡ Migrates d (Taken inputs end) ∷ later
          → NextMigrates (λ derivation. RefusesMove ComesTo told derivation new.commands why)
          told.asks
      next asks = let replies = p.keeps.commands in
          subst (λ (q : List (Ask D)). NextMigrates (λ derivation. RefusesMove ComesTo told
          derivation new.commands why) q) (sym asks)
          (record { refused = refused; next = omega (arith, one, replies) })

      timely : told.asks ≡ Migrates d (Taken inputs end) ∷ later
          → NextInputs (AreTimely steep spans told) told.asks
      timely asks = subst (λ (q : List (Ask D)). NextInputs (AreTimely steep spans told) q)
          (sym asks) (each-timely inputs output (least_output steep spans told inputs) told.moves
          low reached p.paced)

  -- ---- accepted

  pub told-accepted : (old new : Replies) (told : Told P D) (d : D) (later : List (Ask D))
      (inputs output end split : ℕ) → KeepsPaced old told inputs output
      → told.asks ≡ Migrates d (Taken inputs end) ∷ later
      → least_output steep spans told inputs ≤ inputs
      → least_output steep spans told inputs ≤ output → ComesTo told.plan d None → end < split
      → MayAccept old → 1 ≤ split → old.last ≤ split → split ≤ closed
      → new.commands ≡ old.commands + 1 → new.accepted ≡ old.accepted + 1 → new.last ≡ split
      → new.stage ≡ Moving split false
      → MayFollow ComesTo steep spans told (entry.Accepted new.accepted split)
      × Keeps new (after_entry target told (entry.Accepted new.accepted split)) inputs output
  told-accepted old new told d later inputs output end split p asks low reached comes above may
      least rising within one more last stage = (
        record {
          going = p.keeps.going;
          due = p.keeps.due;
          replies = next;
          paced = timely;
        },
        subst (λ (q : List (Ask D)). Keeps new (accepted target told split q) inputs output)
            (sym asks) after,
      )
    where
      calm : EachMove IsOver told.moves
      calm = subst (λ (s : Stage). IsAt inputs s told.moves) may.calm p.keeps.at

      none-in : (ms : List Move) → EachMove IsOver ms → in_progress ms ≡ None
      none-in [] over = refl
      none-in (m ∷ ms) over = rw over.0.1 refl

      next : NextMigrates (λ derivation. AcceptsMove ComesTo told derivation new.accepted split)
          told.asks
      next = let count = p.keeps.accepted in let room = may.room in let was = p.keeps.last in
          subst (λ (q : List (Ask D)). NextMigrates (λ derivation. AcceptsMove ComesTo told
          derivation new.accepted split) q) (sym asks) (record {
            derived = comes;
            alone = none-in told.moves calm;
            room = omega (arith, count, room);
            next = omega (arith, count, more);
            rising = omega (arith, was, rising);
            above = least;
            within = within;
          })

      timely : NextInputs (λ i. SplitsAbove split i × AreTimely steep spans told i) told.asks
      timely = subst (λ (q : List (Ask D)).
          NextInputs (λ i. SplitsAbove split i × AreTimely steep spans told i) q) (sym asks) (
            above,
            each-timely inputs output (least_output steep spans told inputs) told.moves low
                reached p.paced,
          )

      after : Keeps new (accepted target told split (Migrates d (Taken inputs end) ∷ later)) inputs
          output
      after = let commands = p.keeps.commands in let count = p.keeps.accepted in record {
        going = p.keeps.going;
        due = p.keeps.due;
        commands = omega (arith, one, commands);
        accepted = omega (arith, more, count);
        last = sym last;
        at = subst (λ (s : Stage). IsAt inputs s (new_move split ∷ told.moves)) (sym stage)
            (record {
              split_is = refl;
              idle_is = refl;
              going = refl;
              within = within;
              reached = λ told. (let never : false ≡ true = told in cc);
              others = calm;
            });
        past = (λ told. (let never : false ≡ true = told in cc), p.keeps.past);
      }
