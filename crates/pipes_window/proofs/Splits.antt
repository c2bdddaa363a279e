-- The elements of a longer list of rows: those that were known, and those of the rows that wait.
use Rattle.std.proofs.Common.{◌≡◌, ℕ, ◌+◌, ◌-◌, ◌≤◌, ◌<◌, min, List, [], ◌∷◌, ◌++◌, length, Bool}
use Rattle.std.proofs.Common.{true, false, nat_le, Option, Some, refl, sym, ap, ◌∙◌, arith}
use Rattle.std.proofs.Common.{append_assoc}
use Rattle.std.specs.Option.{option_map}
use Rattle.std.proofs.lemmas.Bool.Decides.{nat_tests}
use Rattle.pipes_time.specs.Interval.{horizon}
use Rattle.pipes_time.specs.Slides.{slide_end}
use Rattle.pipes_stream.specs.declared.Elem.{Elem}
use Rattle.pipes_window.specs.declared.kind.WindowKind.{WindowKind}
use Rattle.pipes_window.specs.declared.kind.WindowKind.TheVariants.{Time, Slide, Count}
use Rattle.pipes_window.specs.declared.row.Row.{Row}
use Rattle.pipes_window.specs.Items.{last_n}
use Rattle.pipes_window.specs.Windows.{IsWindow, end_of, span_up_to, fixed_span, each_row}
use Rattle.pipes_window.specs.Windows.{waiting_of}
use Rattle.pipes_window.proofs.Lists.{slice_get-past, slice_get-some, slice_get-append, last_n-few}
use Rattle.pipes_window.proofs.Lists.{last_n-many}

-- the end of a row that has n after it
end_of-within : (n : ℕ) (row : Row) (later more : List Row) → 1 ≤ n → n ≤ length later
    → (end : ℕ) × (end_of (Count n) row later ≡ Some end)
    × (end_of (Count n) row (later ++ more) ≡ Some end)
end_of-within n row later more one h =
    let there = slice_get-some later (n - 1) (omega arith) in
    let stamp : Row → ℕ = λ r. r.stamp in (
      there.0.stamp,
      ap (option_map stamp) there.1,
      ap (option_map stamp)
          (slice_get-append later more (n - 1) (omega arith) ∙ there.1),
    )

-- of at most n rows none has n after it
pub known_of-few : (n : ℕ) (rows : List Row) → 1 ≤ n → length rows ≤ n
    → each_row fixed_span (Count n) rows ≡ []
unfolding each_row
known_of-few n [] one h = refl
known_of-few n (row ∷ later) one h = rw (slice_get-past later (n - 1) (omega arith))
    (known_of-few n later one (omega arith))

pub data Reach (n k : ℕ) : Type 0 where
  within : n ≤ k → Reach n k
  past : k < n → Reach n k

pub reach : (n k : ℕ) → Reach n k
reach n k = by (nat_le n k) refl
  where
    by : (b : Bool) → nat_le n k ≡ b → Reach n k
    by true e = within (grind (arith, nat_tests, e))
    by false e = past (grind (arith, nat_tests, e))

module _ (give : WindowKind → Row → Option ℕ → List Elem)
    (fixed : (kind : WindowKind) (row : Row) (end : ℕ)
    → give kind row (Some end) ≡ span_up_to kind row end) where
  -- where each row fixes its end
  split_alone : (kind : WindowKind) (end : Row → ℕ)
      → ((row : Row) (later : List Row) → end_of kind row later ≡ Some (end row))
      → (rows more : List Row)
      → each_row give kind (rows ++ more) ≡ each_row fixed_span kind rows ++ each_row give kind more
  unfolding each_row
  split_alone kind end fixes [] more = refl
  split_alone kind end fixes (row ∷ later) more =
      (λ i. give kind row (fixes row (later ++ more) i) ++ split_alone kind end fixes later more i)
      ∙ ap (λ (l : List Elem). l ++ (each_row fixed_span kind later ++ each_row give kind more))
      (fixed kind row (end row))
      ∙ sym (append_assoc (span_up_to kind row (end row)) (each_row fixed_span kind later)
      (each_row give kind more))
      ∙ sym (ap (λ (o : Option ℕ). (fixed_span kind row o ++ each_row fixed_span kind later)
      ++ each_row give kind more) (fixes row later))

  split_count : (n : ℕ) (rows more : List Row) → 1 ≤ n
      → each_row give (Count n) (rows ++ more) ≡ each_row fixed_span (Count n) rows ++ each_row give
      (Count n) (last_n n rows ++ more)
  unfolding each_row
  split_count n [] more one = ap (λ (l : List Row). each_row give (Count n) (l ++ more))
      (sym (last_n-few n [] (omega arith)))
  split_count n (row ∷ later) more one = by (reach n (length later)) (split_count n later more one)
    where
      by : Reach n (length later)
          → each_row give (Count n) (later ++ more) ≡ each_row fixed_span (Count n) later
          ++ each_row give (Count n) (last_n n later ++ more)
          → each_row give (Count n) (row ∷ (later ++ more)) ≡ each_row fixed_span (Count n)
          (row ∷ later) ++ each_row give (Count n) (last_n n (row ∷ later) ++ more)
      by (within h) same =
          let end = end_of-within n row later more one h in
          let rest = each_row give (Count n) (last_n n later ++ more) in
          (λ i. give (Count n) row (end.2 i) ++ same i)
          ∙ ap (λ (l : List Elem). l ++ (each_row fixed_span (Count n) later ++ rest))
          (fixed (Count n) row end.0)
          ∙ sym (append_assoc (span_up_to (Count n) row end.0)
          (each_row fixed_span (Count n) later) rest)
          ∙ sym (λ i. (fixed_span (Count n) row (end.1 i) ++ each_row fixed_span (Count n) later)
          ++ each_row give (Count n) (last_n-many n row later h i ++ more))
      by (past h) same =
          sym (λ i. known_of-few n (row ∷ later) one (omega arith) i ++ each_row give (Count n)
          (last_n-few n (row ∷ later) (omega arith) i ++ more))

  pub split : (kind : WindowKind) (rows more : List Row) → IsWindow kind
      → each_row give kind (rows ++ more) ≡ each_row fixed_span kind rows ++ each_row give kind
      (waiting_of kind rows ++ more)
  split (Time size) rows more limits = split_alone (Time size)
      (λ row. min (row.stamp + size) horizon) (λ row later. refl) rows more
  split (Slide size slide) rows more limits = split_alone (Slide size slide)
      (λ row. slide_end size slide row.stamp) (λ row later. refl) rows more
  split (Count n) rows more limits = split_count n rows more limits.0
