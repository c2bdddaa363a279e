-- Which book a seat is of.
use Rattle.std.specs.Prelude.{◌≡◌, List, [], ◌∷◌, ⊤}
pub use Rattle.atomic_table.specs.Seated.{TableId}
use Rattle.atomic_table.specs.declared.shared.Seat.{Seat}
use Rattle.pipes_split.specs.declared.views.View.{View}

abbrev pub IsSeatOf : TableId → Seat (Unit {0}) View → Type 0
IsSeatOf book seat = (seat.table_id ≡ book) × (seat.me.1 ≡ [])

-- the same seat of the same book, whatever it knows
pub record IsSameSeat (old new : Seat (Unit {0}) View) : Type 0 where
  pub book : new.table_id ≡ old.table_id
  pub number : new.id ≡ old.id
  pub slots : new.me.1 ≡ old.me.1

abbrev pub AreSeatsOf : TableId → List (Seat (Unit {0}) View) → Type 0
AreSeatsOf book [] = ⊤
AreSeatsOf book (seat ∷ seats) = IsSeatOf book seat × AreSeatsOf book seats
