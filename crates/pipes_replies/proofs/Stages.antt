-- What is kept while the inputs and the output come further, and when each migration is paced.
use Rattle.std.proofs.Common.{◌≡◌, ◌⊎◌, ℕ, ◌≤◌, ◌<◌, Bool, true, false, List, [], ◌∷◌, inl, inr}
use Rattle.std.proofs.Common.{refl, sym, subst, ◌∙◌, arith}
use Rattle.std.specs.Bool.{IsTrue}
use Rattle.pipes_time.specs.Interval.{closed}
use Rattle.pipes_told.specs.Told.{Move, Told}
use Rattle.pipes_told.specs.Pacing.{EachMove, IsOver, IsPaced}
use Rattle.pipes_replies.specs.declared.replies.Replies.{Replies}
use Rattle.pipes_replies.specs.declared.stage.Stage.{Stage}
use Rattle.pipes_replies.specs.declared.stage.Stage.TheVariants.{Calm, Moving}
use Rattle.pipes_replies.specs.Keeping.{IsInProgress, IsAt, IsPast, Keeps, KeepsPaced}

-- the same told, with these migrations
abbrev pub with_moves : {P D : Type 0} → Told P D → List Move → Told P D
with_moves told moves = record told { moves = moves }

not_both : (b : Bool) → b ≡ true → b ≡ false → ⊥
not_both b is isnt = let both : true ≡ false = sym is ∙ isnt in cc

-- Parameters: the inputs and the output came from the first two heartbeats to the others, and where
-- the inputs have ended the output has.
module _ (before behind inputs output : ℕ) (rise : before ≤ inputs) (climb : behind ≤ output)
    (within : inputs ≤ closed) (ends : inputs ≡ closed → output ≡ closed) where
  past-later : (m : Move) → IsPast before behind m → IsPast inputs output m
  past-later m p = record { reached = omega (arith, rise, p.reached); passed = passed p.passed }
    where
      passed : (m.split < behind) ⊎ ((before ≡ closed) × (behind ≡ closed))
          → (m.split < output) ⊎ ((inputs ≡ closed) × (output ≡ closed))
      passed (inl low) = inl (omega (arith, low, climb))
      passed (inr both) =
          let all : inputs ≡ closed = (let first = both.0 in omega (arith, first, rise, within)) in
          inr (all, ends all)

  pub each-later : (ms : List Move) → EachMove (λ m. IsTrue m.over → IsPast before behind m) ms
      → EachMove (λ m. IsTrue m.over → IsPast inputs output m) ms
  each-later [] past = tt
  each-later (m ∷ ms) past = (λ over. past-later m (past.0 over), each-later ms past.1)

  pub at-later : (stage : Stage) (ms : List Move) → IsAt before stage ms → IsAt inputs stage ms
  at-later Calm ms at = at
  at-later (Moving split idle) [] at = at
  at-later (Moving split idle) (m ∷ ms) at = record {
    split_is = at.split_is;
    idle_is = at.idle_is;
    going = at.going;
    within = at.within;
    reached = λ told. (let low = at.reached told in omega (arith, low, rise));
    others = at.others;
  }

  pub keeps-later : {P D : Type 0} (r : Replies) (told : Told P D) → Keeps r told before behind
      → Keeps r told inputs output
  keeps-later r told k = record {
    going = k.going;
    due = k.due;
    commands = k.commands;
    accepted = k.accepted;
    last = k.last;
    at = at-later r.stage told.moves k.at;
    past = each-later told.moves k.past;
  }

-- ---- when each migration is paced

over-paced : (inputs output : ℕ) (m : Move) → IsOver m → IsPast inputs output m
    → IsPaced inputs output m
over-paced inputs output m over past = record {
  idle = (λ told. past.reached, λ low. over.0);
  over = (λ told. passed past.passed, λ far. over.1);
}
  where
    passed : (m.split < output) ⊎ ((inputs ≡ closed) × (output ≡ closed))
        → ((m.split ≤ inputs) × (m.split < output)) ⊎ (inputs ≡ closed)
    passed (inl low) = inl (past.reached, low)
    passed (inr both) = inr both.0

pub each-paced : (inputs output : ℕ) (ms : List Move) → EachMove IsOver ms
    → EachMove (λ m. IsTrue m.over → IsPast inputs output m) ms
    → EachMove (IsPaced inputs output) ms
each-paced inputs output [] over past = tt
each-paced inputs output (m ∷ ms) over past = (
  over-paced inputs output m over.0 (past.0 over.0.1),
  each-paced inputs output ms over.1 past.1,
)

-- the inputs have not reached the split
before-paced : (inputs output split : ℕ) (idle : Bool) (m : Move) (ms : List Move)
    → IsInProgress inputs split idle m ms → inputs < split → IsPaced inputs output m
before-paced inputs output split idle m ms at low =
    let same = at.split_is in let most = at.within in
    record {
      idle = (
        λ told. (let high = at.reached (sym at.idle_is ∙ told) in omega (arith, high, low, same)),
        λ high. absurd (omega (arith, high, low, same)),
      );
      over = (
        λ told. absurd (not_both m.over told at.going),
        λ far. absurd (never same most far),
      );
    }
  where
    never : m.split ≡ split → split ≤ closed
        → ((m.split ≤ inputs) × (m.split < output)) ⊎ (inputs ≡ closed) → ⊥
    never same most (inl both) = let high = both.0 in omega (arith, high, low, same)
    never same most (inr all) = omega (arith, all, low, most)

-- they have, and it was told to be idle, but the output has not passed it
idle-paced : (inputs output split : ℕ) (m : Move) (ms : List Move)
    → IsInProgress inputs split true m ms → output ≤ split → (inputs ≡ closed → ⊥)
    → IsPaced inputs output m
idle-paced inputs output split m ms at low goes =
    let same = at.split_is in let high = at.reached refl in
    record {
      idle = (λ told. omega (arith, high, same), λ far. at.idle_is);
      over = (
        λ told. absurd (not_both m.over told at.going),
        λ far. absurd (never same far),
      );
    }
  where
    never : m.split ≡ split
        → ((m.split ≤ inputs) × (m.split < output)) ⊎ (inputs ≡ closed) → ⊥
    never same (inl both) = let far = both.1 in omega (arith, far, low, same)
    never same (inr all) = goes all

module _ {P D : Type 0} (r : Replies) (told : Told P D) (inputs output : ℕ)
    (k : Keeps r told inputs output) where
  pub calm-paced : r.stage ≡ Calm → KeepsPaced r told inputs output
  calm-paced calm = record {
    keeps = k;
    paced = each-paced inputs output told.moves
        (subst (λ (s : Stage). IsAt inputs s told.moves) calm k.at) k.past;
  }

  each-before : (split : ℕ) (idle : Bool) (ms : List Move) → IsAt inputs (Moving split idle) ms
      → EachMove (λ m. IsTrue m.over → IsPast inputs output m) ms → inputs < split
      → EachMove (IsPaced inputs output) ms
  each-before split idle [] at past low = tt
  each-before split idle (m ∷ ms) at past low = (
    before-paced inputs output split idle m ms at low,
    each-paced inputs output ms at.others past.1,
  )

  pub before-split : (split : ℕ) (idle : Bool) → r.stage ≡ Moving split idle → inputs < split
      → KeepsPaced r told inputs output
  before-split split idle is low = record {
    keeps = k;
    paced = each-before split idle told.moves
        (subst (λ (s : Stage). IsAt inputs s told.moves) is k.at) k.past low;
  }

  each-idle : (split : ℕ) (ms : List Move) → IsAt inputs (Moving split true) ms
      → EachMove (λ m. IsTrue m.over → IsPast inputs output m) ms → output ≤ split
      → (inputs ≡ closed → ⊥) → EachMove (IsPaced inputs output) ms
  each-idle split [] at past low goes = tt
  each-idle split (m ∷ ms) at past low goes = (
    idle-paced inputs output split m ms at low goes,
    each-paced inputs output ms at.others past.1,
  )

  pub idle-behind : (split : ℕ) → r.stage ≡ Moving split true → output ≤ split
      → (inputs ≡ closed → ⊥) → KeepsPaced r told inputs output
  idle-behind split is low goes = record {
    keeps = k;
    paced = each-idle split told.moves
        (subst (λ (s : Stage). IsAt inputs s told.moves) is k.at) k.past low goes;
  }
