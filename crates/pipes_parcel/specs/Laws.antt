-- What holds of the pieces of an element.
use Rattle.std.specs.Prelude.{◌≡◌, ℕ, ◌≤◌, List, [], ◌∷◌, map}
use Rattle.std.specs.List.{All}
use Rattle.pipes_time.specs.Interval.{IsInterval}
use Rattle.pipes_stream.specs.declared.Elem.{Elem}
use Rattle.pipes_stream.specs.Snapshot.{snapshot}
use Rattle.pipes_split.specs.Views.{last_epoch}
use Rattle.pipes_split.specs.Knowledge.{Knowledge, KnowsMore}
use Rattle.pipes_parcel.specs.declared.parcel.Parcel.{Parcel}
use Rattle.pipes_parcel.specs.Pieces.{ArePieces, MayStart, MayEnd}

-- an interval within the element's, where a part of the epoch may lie
pub record IsPlaced (k : Knowledge) (e : Elem) (p : Parcel) : Type 0 where
  pub interval : IsInterval p.elem.span.start p.elem.span.end
  pub starts : e.span.start ≤ p.elem.span.start
  pub ends : p.elem.span.end ≤ e.span.end
  pub epoch : p.epoch ≤ last_epoch
  pub may_start : MayStart k p.epoch p.elem.span.start
  pub may_end : MayEnd k p.epoch p.elem.span.end

-- at each instant the parts hold what the element holds, and each part has its place
pub record StandFor (k : Knowledge) (e : Elem) (parts : List Parcel) : Type 0 where
  pub snapshots : (t : ℕ) → snapshot (map (λ p. p.elem) parts) t ≡ snapshot (e ∷ []) t
  pub places : All (IsPlaced k e) parts

abbrev pub PiecesStandFor : Type 0
PiecesStandFor =
    (k : Knowledge) (first : ℕ) (e : Elem) (parts : List Parcel)
    → IsInterval e.span.start e.span.end → ArePieces k first e parts → StandFor k e parts

-- pieces stay pieces as more is known
abbrev pub PiecesStay : Type 0
PiecesStay =
    (k l : Knowledge) (first : ℕ) (e : Elem) (parts : List Parcel) → KnowsMore k l
    → ArePieces k first e parts → ArePieces l first e parts
