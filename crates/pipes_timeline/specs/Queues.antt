-- The queue of pieces.
use Rattle.std.specs.Prelude.{ℕ, ◌≡◌, ◌≤◌, ◌+◌, ◌-◌, List, [], ◌∷◌, Option, Some, None, slice_get}
use Rattle.pipes_time.specs.Interval.{IsInterval}
use Rattle.pipes_timeline.specs.declared.piece.Piece.{Piece}
use Rattle.pipes_timeline.specs.declared.piece.Piece.TheVariants as piece
use Rattle.pipes_timeline.specs.declared.pieces.Pieces.{Pieces}
use Rattle.pipes_stream.specs.Weights.{weigh}
use Rattle.pipes_timeline.specs.Rules.{Row}
use Rattle.pipes_timeline.specs.Lines.{opens, start_at}

-- the start of a piece that is open
abbrev pub open_start : Option Piece → Option ℕ
open_start None = None
open_start (Some (piece.Open k b)) = Some b
open_start (Some (piece.Closed e many)) = None
open_start (Some (piece.Void b)) = None

-- the start of the first piece
abbrev pub first_piece_start : List Piece → Option ℕ
first_piece_start [] = None
first_piece_start (p ∷ ps) = Some (start_at p)

abbrev pub IsOpen : Piece → Type 0
IsOpen (piece.Open k b) = Unit {0}
IsOpen (piece.Closed e many) = ⊥
IsOpen (piece.Void b) = ⊥

abbrev pub IsShut : Piece → Type 0
IsShut (piece.Open k b) = ⊥
IsShut (piece.Closed e many) = Unit {0}
IsShut (piece.Void b) = Unit {0}

-- the first piece, if there is one, is open
abbrev pub FirstIsOpen : List Piece → Type 0
FirstIsOpen [] = Unit {0}
FirstIsOpen (p ∷ ps) = IsOpen p

-- the first piece left, which is not open; or the first is open
abbrev pub Shifts : Pieces → Pieces → Option Piece → Type 0
Shifts old new None = (new ≡ old) × FirstIsOpen new.queue.items
Shifts old new (Some p) = (old.queue.items ≡ p ∷ new.queue.items) × IsShut p
    × (new.base ≡ old.base + 1)

-- what is closed is valid somewhere
abbrev pub HasSpan : Piece → Type 0
HasSpan (piece.Open k b) = Unit {0}
HasSpan (piece.Closed e many) = IsInterval e.span.start e.span.end
HasSpan (piece.Void b) = Unit {0}

-- the pieces start in order, from an instant on
abbrev pub InOrder : ℕ → List Piece → Type 0
InOrder low [] = Unit {0}
InOrder low (p ∷ ps) = (low ≤ start_at p) × HasSpan p × InOrder (start_at p) ps

-- the key has no open piece, or the one at the place, counted from a base
abbrev pub LinkedAt : Row → ℕ → List Piece → Option ℕ → Type 0
LinkedAt k base pieces None = weigh (opens k) pieces ≡ 0
LinkedAt k base pieces (Some place) = (base ≤ place)
    × ((b : ℕ) × (slice_get pieces (place - base) ≡ Some (piece.Open k b)))
