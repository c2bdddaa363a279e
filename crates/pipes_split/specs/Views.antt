-- What a seat knows of the book, and how each kind of step changes it.
use Rattle.std.specs.Prelude.{◌≡◌, ℕ, ◌+◌, ◌%◌, ◌^◌, ◌≤◌, ◌==◌, ◌||◌, max, cond, Bool, true, false}
use Rattle.std.specs.Prelude.{Option, Some, None, List, [], ◌∷◌, ◌++◌}
use Rattle.atomic_table.specs.declared.shared.Seat.{Seat}
use Rattle.pipes_split.specs.declared.views.View.{View}
use Rattle.pipes_split.specs.declared.views.Act.{Act}
use Rattle.pipes_split.specs.declared.views.Kind.{Kind}
use Rattle.pipes_split.specs.declared.views.Kind.TheVariants as kind

-- the number of epochs, and the last of them
abbrev pub epochs : ℕ
epochs = 1025

abbrev pub last_epoch : ℕ
last_epoch = 1024

abbrev pub all_halts : ℕ
all_halts = 16

-- the split words, and then the halt words
abbrev pub all_words : ℕ
all_words = 1041

abbrev pub halt_word : ℕ → ℕ
halt_word i = 1025 + i

-- ---- maps as lists of pairs
abbrev pub Map : Type 0
Map = List (ℕ × ℕ)

-- the greatest number at a key, or 0
abbrev pub greatest_at : Map → ℕ → ℕ
greatest_at [] e = 0
greatest_at (p ∷ ps) e = cond (p.0 == e) (max p.1 (greatest_at ps e)) (greatest_at ps e)

-- the first number at a key
abbrev pub first_value_at : Map → ℕ → Option ℕ
first_value_at [] e = None
first_value_at (p ∷ ps) e = cond (p.0 == e) (Some p.1) (first_value_at ps e)

abbrev pub is_among : List ℕ → ℕ → Bool
is_among [] i = false
is_among (k ∷ ks) i = (k == i) || is_among ks i

-- ---- split words: open below 2 ^ 63, and closed from there on
abbrev pub low : ℕ → ℕ
low n = n % 2 ^ 63

-- the word is closed, with this split time
pub record IsSplitOf (n split : ℕ) : Type 0 where
  pub closed : 2 ^ 63 ≤ n
  pub above : split ≡ low n + 1

-- ---- views
abbrev pub seat_view : Seat (Unit {0}) View → View
seat_view seat = seat.me.0

-- the greatest end that the seat registered in the epoch, or 0
abbrev pub top_of : View → ℕ → ℕ
top_of v e = greatest_at v.ends e

-- the split time of the epoch, where the seat knows it
abbrev pub split_of : View → ℕ → Option ℕ
split_of v e = first_value_at v.splits e

abbrev pub has_asked : View → ℕ → Bool
has_asked v i = is_among v.asked i

-- the word that the last step found
abbrev pub last_found : View → ℕ
last_found v = v.last.found

abbrev pub act : Kind → ℕ → ℕ → Act
act k i n = record { kind = k; number = i; found = n }

abbrev pub empty_view : Kind → Bool → View
empty_view k closes =
    record {
      steps = 0;
      last = act k 0 0;
      ends = [];
      splits = [];
      asked = [];
      noted_splits = [];
      noted_ends = [];
      closes = closes;
    }

-- a seat that came from another one
abbrev pub blank : View
blank = empty_view kind.Split false

-- the first seat, which closes
abbrev pub first_view : View
first_view = empty_view kind.Make true

-- one more step
abbrev pub with_step : Act → View → View
with_step a v = record v { steps = v.steps + 1; last = a }

-- an end was registered in an epoch, whose word was n
abbrev pub with_end : View → ℕ → ℕ → ℕ → View
with_end v e x n =
    record v { steps = v.steps + 1; last = act kind.Raise e n; ends = (e, x) ∷ v.ends }

-- a step of this kind tells the split time of the word n
abbrev pub with_split : Kind → View → ℕ → ℕ → View
with_split k v e n =
    record v { steps = v.steps + 1; last = act k e n; splits = (e, low n + 1) ∷ v.splits }

-- a halt word, which was n, was set
abbrev pub with_halt : View → ℕ → ℕ → View
with_halt v i n = record v { steps = v.steps + 1; last = act kind.Halt i n; asked = i ∷ v.asked }

-- a seat that has a note of what another one knows
abbrev pub note_of : View → View
note_of v = record blank { noted_splits = v.splits; noted_ends = v.ends }

-- what either knows, and the note of the second
abbrev pub joined : View → View → View
joined v w =
    record {
      steps = v.steps + 1;
      last = act kind.Join 0 0;
      ends = w.ends ++ v.ends;
      splits = w.splits ++ v.splits;
      asked = w.asked ++ v.asked;
      noted_splits = w.noted_splits;
      noted_ends = w.noted_ends;
      closes = w.closes || v.closes;
    }

-- the note was read
abbrev pub without_note : View → ℕ → View
without_note v n =
    record v { steps = v.steps + 1; last = act kind.Look 0 n; noted_splits = []; noted_ends = [] }
