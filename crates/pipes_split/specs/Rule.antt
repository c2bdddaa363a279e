-- The rule of the words and the views of all seats, which holds between any two steps, and its
-- laws.
use Rattle.std.specs.Prelude.{◌≡◌, ℕ, ◌+◌, ◌^◌, ◌<◌, ◌≤◌, ◌⊎◌, ◌↔◌, true, Some, List, length}
use Rattle.std.specs.Prelude.{slice_index}
use mathlib.Core.Option.{some}
use lib.ListN.{get_elem?}
use Rattle.atomic_table.specs.Table.{State}
use Rattle.pipes_time.specs.Interval.{horizon}
use Rattle.pipes_split.specs.declared.views.View.{View}
use Rattle.pipes_split.specs.Views.{epochs, last_epoch, all_halts, all_words, halt_word}
use Rattle.pipes_split.specs.Views.{greatest_at, first_value_at, low, IsSplitOf, top_of, split_of}
use Rattle.pipes_split.specs.Views.{has_asked}

abbrev pub HasView : List View → ℕ → View → Type 0
HasView views seat v = get_elem? views seat ≡ some v

-- What the word of an epoch says of one view.
pub record ViewFits (n e : ℕ) (v : View) : Type 0 where
  pub top : top_of v e ≤ low n
  pub split : (t : ℕ) → split_of v e ≡ Some t → IsSplitOf n t
  pub noted_split : (t : ℕ) → first_value_at v.noted_splits e ≡ Some t → IsSplitOf n t
  pub noted_end : greatest_at v.noted_ends e ≤ low n

-- some seat's greatest end of the epoch is this one
abbrev pub SomeTop : List View → ℕ → ℕ → Type 0
SomeTop views e end = (j : ℕ) × (v : View) × HasView views j v × (top_of v e ≡ end)

-- the seat that closes knows this split time
abbrev pub CloserKnows : List View → ℕ → ℕ → Type 0
CloserKnows views e t =
    (j : ℕ) × (v : View) × HasView views j v × (v.closes ≡ true) × (split_of v e ≡ Some t)

-- The word of an epoch: an end that some seat registered, or 0, closed or not.
pub record EpochRule (n e : ℕ) (views : List View) : Type 0 where
  pub within : low n ≤ horizon
  pub each : (j : ℕ) (v : View) → HasView views j v → ViewFits n e v
  pub reached : (low n ≡ 0) ⊎ SomeTop views e (low n)
  pub closed_by : 2 ^ 63 ≤ n → CloserKnows views e (low n + 1)

-- some seat set this halt word
abbrev pub SomeAsked : List View → ℕ → Type 0
SomeAsked views i = (j : ℕ) × (v : View) × HasView views j v × (has_asked v i ≡ true)

-- A halt word: 0, or 1 where some seat set it.
pub record HaltRule (n i : ℕ) (views : List View) : Type 0 where
  pub bit : n ≤ 1
  pub asked_by : n ≡ 1 → SomeAsked views i

-- exactly one seat closes
abbrev pub OneCloses : List View → Type 0
OneCloses views =
    (j : ℕ) × (v : View) × HasView views j v × (v.closes ≡ true)
    × ((k : ℕ) (w : View) → HasView views k w → w.closes ≡ true → k ≡ j)

abbrev pub Book : Type 0
Book = State (Unit {0}) View

pub record SplitRule (s : Book) : Type 0 where
  pub wide : length s.words ≡ all_words
  pub epoch : (e : ℕ) → e < epochs → EpochRule (slice_index s.words e) e s.views
  pub last_open : slice_index s.words last_epoch < 2 ^ 63
  pub halt : (i : ℕ) → i < all_halts → HaltRule (slice_index s.words (halt_word i)) i s.views
  pub closer : OneCloses s.views

-- ---- laws across seats, of any two views between any two steps
abbrev pub OfTwoSeats : (ℕ → View → View → Type 0) → Type 0
OfTwoSeats P =
    (s : Book) → SplitRule s → (e i j : ℕ) (v w : View) → e < epochs
    → HasView s.views i v → HasView s.views j w → P e v w

-- each end that a seat registered in an epoch lies below the split time that any seat knows of it
abbrev pub EndsLieBelow : Type 0
EndsLieBelow = OfTwoSeats (λ e v w. (t : ℕ) → split_of w e ≡ Some t → top_of v e < t)

-- all who know a split time of an epoch know the same
abbrev pub SplitsAgree : Type 0
SplitsAgree =
    OfTwoSeats (λ e v w. (t u : ℕ) → split_of v e ≡ Some t → split_of w e ≡ Some u → t ≡ u)

-- an epoch is closed exactly where the seat that closes knows its split time
abbrev pub ClosedIsKnown : ℕ → ℕ → List View → Type 0
ClosedIsKnown n e views = 2 ^ 63 ≤ n ↔ CloserKnows views e (low n + 1)

-- the word of an epoch holds 0 or an end that some seat registered there
abbrev pub WordsHoldEnds : Type 0
WordsHoldEnds =
    (s : Book) → SplitRule s → (e : ℕ) → e < epochs
    → ((low (slice_index s.words e) ≡ 0) ⊎ SomeTop s.views e (low (slice_index s.words e)))
    × ClosedIsKnown (slice_index s.words e) e s.views

-- a halt word is set only where some seat set it
abbrev pub HaltsWereAsked : Type 0
HaltsWereAsked =
    (s : Book) → SplitRule s → (i : ℕ) → i < all_halts
    → slice_index s.words (halt_word i) ≡ 1 → SomeAsked s.views i
