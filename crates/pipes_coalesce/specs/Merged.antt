-- What a merge at a split owes, of the lists of both sides and the list that it sent.
use Rattle.std.specs.Prelude.{ℕ, ◌≡◌, ◌+◌, ◌≤◌, ◌<◌, max, min, List, [], ◌∷◌, ◌++◌, map, length}
use Rattle.pipes_time.specs.Interval.{closed}
use Rattle.pipes_tuple.specs.Bag.{SameBag}
use Rattle.pipes_stream.specs.declared.Elem.{Elem}
use Rattle.pipes_stream.specs.declared.message.Message.{Message}
use Rattle.pipes_stream.specs.Snapshot.{snapshot}
use Rattle.pipes_stream.specs.Lists.{Valid, beat, HasEnded, elements}
use Rattle.pipes_stream.specs.Weights.{weigh}
use Rattle.pipes_coalesce.specs.Bags.{SameMembers}
use Rattle.pipes_coalesce.specs.Tests.{starts_below, starts_by, ends_above, ends_at, goes_by}
use Rattle.pipes_coalesce.specs.Tests.{waits_below, touching}
use Rattle.pipes_coalesce.specs.Merging.{Pairing, ArePairings}

-- Some pairs of an old element that ends at the split and a fresh one of the same tuple that starts
-- there became one, and all others stayed.
pub record Outcome (split : ℕ) (olds fresh all : List Elem) : Type 0 where
  pub pairs : List Pairing
  pub pairings : ArePairings split pairs
  pub loose_old : List Elem
  pub loose_fresh : List Elem
  pub from_old : SameMembers olds (loose_old ++ map (λ (p : Pairing). p.first) pairs)
  pub from_fresh : SameMembers fresh (loose_fresh ++ map (λ (p : Pairing). p.second) pairs)
  pub into : SameMembers all (loose_old ++ (loose_fresh ++ map (λ (p : Pairing). p.both) pairs))

-- at the instant the one list has the tuples of the other
abbrev pub SameAt : ℕ → List Message → List Message → Type 0
SameAt t ms ns = SameBag (snapshot (elements ms) t) (snapshot (elements ns) t)

-- the least start of the elements, above every instant where there are none
abbrev pub least_start : List Elem → ℕ
least_start [] = closed
least_start (e ∷ es) = min e.span.start (least_start es)

-- The sent list is the old one before the split and the fresh one from it on, with no seam between
-- them.
pub record Merged (split : ℕ) (olds fresh sent : List Message) (held : ℕ) : Type 0 where
  pub valid : Valid sent
  -- what was sent, and what is held of either side
  pub held_old : List Elem
  pub held_fresh : List Elem
  pub held_is : held ≡ length held_old + length held_fresh
  pub held_ends : weigh (ends_above split) held_old ≡ 0
  pub held_starts : weigh (starts_below split) held_fresh ≡ 0
  pub outcome :
      Outcome split (elements olds) (elements fresh) (elements sent ++ (held_old ++ held_fresh))
  -- snapshots
  pub below : (t : ℕ) → t < beat sent → t < split → SameAt t sent olds
  pub from : (t : ℕ) → t < beat sent → split ≤ t → SameAt t sent fresh
  pub all_below : held ≡ 0 → (t : ℕ) → t < split → SameAt t sent olds
  pub all_from : held ≡ 0 → (t : ℕ) → split ≤ t → SameAt t sent fresh
  -- no tuple has an element that ends at the split and one that starts there
  pub apart : touching split (elements sent) ≡ 0
  -- how far it is; and so no further than either side, and no less than where an old element may
  -- still find its partner
  pub beat_is : beat sent
      ≡ min (beat olds) (min (least_start held_old) (max split (beat fresh)))
  pub beat_old : beat sent ≤ beat olds
  pub beat_fresh : beat sent ≤ max split (beat fresh)
  pub beat_from : (b : ℕ) → b ≤ beat olds → b ≤ max split (beat fresh)
      → (beat fresh ≤ split → weigh (waits_below split b) (elements olds) ≡ 0) → b ≤ beat sent
  -- an old element that ends at the split waits for a partner until the fresh side is above the
  -- split, and no longer
  pub waits : beat fresh ≤ split → weigh (ends_at split) (elements sent) ≡ 0
  pub waits_no_longer : split < beat fresh → held_old ≡ []
  -- what is held starts no earlier; and no other old one, and no fresh one, is held once it starts
  pub late : weigh (starts_below (beat sent)) (held_old ++ held_fresh) ≡ 0
  pub prompt_old : weigh (goes_by split (beat sent)) held_old ≡ 0
  pub prompt_fresh : weigh (starts_by (beat sent)) held_fresh ≡ 0
  -- the ends
  pub over : HasEnded olds → split < beat fresh → (held ≡ 0) × (beat sent ≡ beat fresh)
  pub ended : HasEnded olds → HasEnded fresh → HasEnded sent × (held ≡ 0)
  -- what is sent starts and ends where the sides' elements do
  pub starts : (b : ℕ) → weigh (starts_below b) (elements olds) ≡ 0
      → weigh (starts_below b) (elements fresh) ≡ 0
      → weigh (starts_below b) (elements sent) ≡ 0
  pub ends : (b : ℕ) → weigh (ends_above b) (elements olds) ≡ 0
      → weigh (ends_above b) (elements fresh) ≡ 0
      → weigh (ends_above b) (elements sent) ≡ 0
