-- The old side of a merge has ended, and the fresh one is above the split.
use Rattle.std.proofs.Common.{◌≡◌, ◌⊎◌, ℕ, ◌≤◌, ◌<◌, List, [], ◌++◌, sym, ◌∙◌, subst}
use Rattle.std.proofs.Common.{arith, inl, inr}
use Rattle.pipes_time.specs.Interval.{closed}
use Rattle.pipes_tuple.specs.Bag.{SameBag}
use Rattle.pipes_stream.specs.declared.Elem.{Elem}
use Rattle.pipes_stream.specs.declared.message.Message.{Message}
use Rattle.pipes_stream.specs.Snapshot.{snapshot}
use Rattle.pipes_stream.specs.Lists.{Valid, beat, elements, HasEnded}
use Rattle.pipes_stream.specs.Weights.{weigh}
use Rattle.pipes_stream.proofs.Messages.{beat-ended}
use Rattle.pipes_coalesce.specs.Tests.{ends_above}
use Rattle.pipes_coalesce.specs.Merged.{Merged}
use Rattle.pipes_seam.proofs.Sending.{over-none, two-parts}

module _ (split held : ℕ) (olds fresh sent : List Message)
    (m : Merged split olds fresh sent held) (fresh_valid : Valid fresh) (ended : HasEnded olds)
    (passed : (split < beat fresh) ⊎ HasEnded fresh) where
  pub over-held : (held ≡ 0) × (beat sent ≡ beat fresh)
  over-held = elim passed [
    | inl above ↦ m.over ended above
    | inr over ↦
        (let both = m.ended ended over in (
          both.1,
          beat-ended sent m.valid both.0 ∙ sym (beat-ended fresh fresh_valid over),
        ))
  ]

  pub over-above : split ≤ closed → split ≤ beat fresh
  over-above low = elim passed [
    | inl above ↦ omega (arith, above)
    | inr over ↦ omega (arith, low, beat-ended fresh fresh_valid over)
  ]

  -- from the split on the fresh list alone says what is written
  pub over-same : (t : ℕ) (earlier : List Elem) (begun : List Message)
      → SameBag (snapshot earlier t) (snapshot (elements begun) t)
      → weigh (ends_above split) (elements begun) ≡ 0 → split ≤ t
      → SameBag (snapshot (earlier ++ elements sent) t) (snapshot (elements fresh) t)
  over-same t earlier begun shown low from =
      let none : SameBag (snapshot earlier t) (snapshot [] t) =
      subst (SameBag (snapshot earlier t)) (over-none split t (elements begun) low from) shown in
      two-parts earlier [] (elements sent) (elements fresh) t none (m.all_from over-held.0 t from)
