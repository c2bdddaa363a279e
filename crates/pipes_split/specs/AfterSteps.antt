-- What each kind of step tells the seat that made it. Only the rule's plays use these.
use Rattle.std.specs.Prelude.{◌≡◌, ℕ, ◌+◌, ◌-◌, ◌^◌, ◌<◌, ◌≤◌, true, Some, None}
use Rattle.atomic_table.specs.Table.{Me, Step}
use Rattle.pipes_time.specs.Interval.{horizon}
use Rattle.pipes_split.specs.declared.views.View.{View}
use Rattle.pipes_split.specs.declared.views.Kind.{Kind}
use Rattle.pipes_split.specs.declared.views.Kind.TheVariants as kind
use Rattle.pipes_split.specs.Views.{epochs, last_epoch, greatest_at, first_value_at, low, top_of}
use Rattle.pipes_split.specs.Views.{split_of}
use Rattle.pipes_split.specs.Views.{act, with_step, with_end, with_split, with_halt, without_note}

abbrev pub MySeat : Type 0
MySeat = Me (Unit {0}) View

-- no slot changes hands
abbrev pub SameSlots : MySeat → MySeat → Type 0
SameSlots m l = l.1 ≡ m.1

-- the word n of the epoch agrees with what the view knew of it
pub record AgreesWith (n e : ℕ) (v : View) : Type 0 where
  pub within : low n ≤ horizon
  pub before : (t : ℕ) → split_of v e ≡ Some t → t ≡ low n + 1
  pub top : top_of v e ≤ low n

-- the word n was found closed
pub record ClosedTells (k : Kind) (v : View) (e n : ℕ) (w : View) : Type 0 where
  pub early : e < last_epoch
  pub closer : v.closes ≡ true → split_of v e ≡ Some (low n + 1)
  pub agrees : AgreesWith n e v
  pub view : w ≡ with_split k v e n

-- the word n was found open
pub record OpenTells (v : View) (e : ℕ) (next w : View) : Type 0 where
  pub unknown : split_of v e ≡ None
  pub view : w ≡ next

pub record RaiseSays (v : View) (e x n : ℕ) (w : View) : Type 0 where
  pub free : n < 2 ^ 63 → OpenTells v e (with_end v e x n) w
  pub cut : 2 ^ 63 ≤ n → ClosedTells kind.Raise v e n w

pub record LookSays (v : View) (e n : ℕ) (w : View) : Type 0 where
  pub free : n < 2 ^ 63 → OpenTells v e (with_step (act kind.Look e n) v) w
  pub cut : 2 ^ 63 ≤ n → ClosedTells kind.Look v e n w

pub record CloseSays (v : View) (e n : ℕ) (w : View) : Type 0 where
  pub word : n < 2 ^ 64
  pub agrees : AgreesWith n e v
  pub view : w ≡ with_split kind.Close v e n

-- what the note said is known, and the noted ends lie below the splits that are known
pub record NoteSays (v : View) : Type 0 where
  pub splits : (e t : ℕ) → e < epochs → v.closes ≡ true → first_value_at v.noted_splits e ≡ Some t
      → split_of v e ≡ Some t
  pub ends : (e t : ℕ) → e < epochs → split_of v e ≡ Some t → greatest_at v.noted_ends e < t

abbrev pub after_raise : Step (Unit {0}) → MySeat → ℕ → MySeat → Type 0
after_raise s m n l = RaiseSays m.0 s.word s.first n l.0 × SameSlots m l

abbrev pub after_look : Step (Unit {0}) → MySeat → ℕ → MySeat → Type 0
after_look s m n l = LookSays m.0 s.word n l.0 × SameSlots m l

abbrev pub after_close : Step (Unit {0}) → MySeat → ℕ → MySeat → Type 0
after_close s m n l = CloseSays m.0 s.word n l.0 × SameSlots m l

abbrev pub after_halt : Step (Unit {0}) → MySeat → ℕ → MySeat → Type 0
after_halt s m n l = (l.0 ≡ with_halt m.0 (s.word - epochs) n) × SameSlots m l

abbrev pub after_halted : Step (Unit {0}) → MySeat → ℕ → MySeat → Type 0
after_halted s m n l = (l.0 ≡ with_step (act kind.Halted (s.word - epochs) n) m.0) × SameSlots m l

abbrev pub after_read : Step (Unit {0}) → MySeat → ℕ → MySeat → Type 0
after_read s m n l = NoteSays m.0 × (l.0 ≡ without_note m.0 n) × SameSlots m l
