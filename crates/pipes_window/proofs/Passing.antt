-- The element that a row makes known, as the code finds it.
use Rattle.std.proofs.Common.{◌≡◌, ℕ, suc, ◌+◌, ◌-◌, ◌≤◌, ◌<◌, min, List, [], ◌∷◌, ◌++◌, length}
use Rattle.std.proofs.Common.{Bool, true, false, cond, nat_lt, Option, Some, None, refl, sym, ap}
use Rattle.std.proofs.Common.{◌∙◌, subst, arith, append-nil, length-append, length-drop, slice_get}
use Rattle.std.proofs.Common.{IsSome, IfSome, ◌↔◌}
use Rattle.std.proofs.lemmas.Bool.Decides.{nat_tests}
use Rattle.pipes_time.specs.Interval.{Span, IsInterval, horizon}
use Rattle.pipes_time.specs.Slides.{HasSlideSpan, IsDuration, next_slide, slide_end}
use Rattle.pipes_tuple.specs.declared.value.Value.{Value}
use Rattle.pipes_window.specs.declared.kind.WindowKind.{WindowKind}
use Rattle.pipes_window.specs.declared.kind.WindowKind.TheVariants.{Time, Slide, Count}
use Rattle.pipes_window.specs.declared.row.Row.{Row}
use Rattle.pipes_window.specs.Items.{last_n}
use Rattle.pipes_window.specs.Windows.{IsWindow, end_of, elem_of, span_of, elem_between, fixed_span}
use Rattle.pipes_window.specs.Windows.{each_row, most_rows}
use Rattle.pipes_window.proofs.Splits.{known_of-few}

-- the interval that is tried is the tuple's validity
elem_of-span : (tuple : List Value) (start end : ℕ) (span : Option Span)
    → (IsSome span ↔ IsInterval start end) → IfSome span (λ s. s ≡ span_of start end)
    → end ≤ horizon
    → elem_of tuple span ≡ elem_between tuple start end
elem_of-span tuple start end span exact value below = by (nat_lt start end) refl span exact value
  where
    by : (b : Bool) → nat_lt start end ≡ b → (span : Option Span)
        → (IsSome span ↔ IsInterval start end) → IfSome span (λ s. s ≡ span_of start end)
        → elem_of tuple span ≡ cond b (record { tuple = tuple; span = span_of start end } ∷ []) []
    by true e (Some s) exact value = ap
        (λ (s : Span). record { tuple = tuple; span = s } ∷ []) value
    by true e None exact value =
        let some : start < end = grind (arith, nat_tests, e) in
        let there : false ≡ true = exact.1 (some, below) in
        cc
    by false e (Some s) exact value =
        let after : end ≤ start = grind (arith, nat_tests, e) in
        let some = exact.0 refl in
        absurd (omega arith)
    by false e None exact value = refl

-- one row, and none that waits
known_one : (kind : WindowKind) (rows : List Row) (row : Row) → length rows ≤ 0
    → each_row fixed_span kind (rows ++ row ∷ []) ≡ fixed_span kind row (end_of kind row [])
unfolding each_row
known_one kind [] row h = append-nil (fixed_span kind row (end_of kind row []))
known_one kind (first ∷ rest) row h = absurd (omega arith)

pub pass_time : (kind : WindowKind) (size : ℕ) (rows : List Row) (row : Row) (span : Option Span)
    → kind ≡ Time size → IsWindow kind → length rows ≤ most_rows kind → row.stamp < horizon
    → (IsSome span ↔ ((row.stamp < horizon) × (0 < size)))
    → IfSome span (λ s. s ≡ span_of row.stamp (min (row.stamp + size) horizon))
    → each_row fixed_span kind (rows ++ row ∷ []) ≡ elem_of row.tuple span
pass_time kind size rows row span e limits few below exact value =
    let end = min (row.stamp + size) horizon in
    let whole : 1 ≤ size
    → (IsSome span ↔ IsInterval row.stamp end) = λ one.
    (λ s. (omega arith, omega arith), λ i. exact.1 (below, omega arith)) in
    subst (λ (k : WindowKind). IsWindow k → length rows ≤ most_rows k
    → each_row fixed_span k (rows ++ row ∷ []) ≡ elem_of row.tuple span) (sym e)
    (λ l f. known_one (Time size) rows row f
    ∙ sym (elem_of-span row.tuple row.stamp end span (whole l.0) value (omega arith))) limits
    few

pub pass_slide : (kind : WindowKind) (size slide : ℕ) (rows : List Row) (row : Row)
    (span : Option Span) → kind ≡ Slide size slide → IsWindow kind → length rows ≤ most_rows kind
    → row.stamp < horizon
    → (IsSome span ↔ HasSlideSpan row.stamp size slide)
    → IfSome span (λ s. s ≡ span_of (next_slide slide row.stamp) (slide_end size slide row.stamp))
    → each_row fixed_span kind (rows ++ row ∷ []) ≡ elem_of row.tuple span
pass_slide kind size slide rows row span e limits few below exact value =
    let start = next_slide slide row.stamp in
    let end = slide_end size slide row.stamp in
    let whole : IsDuration size → IsDuration slide → (IsSome span ↔ IsInterval start end) = λ a b. (
      λ s. (exact.0 s).not_empty,
      λ i. exact.1
          (record { is_instant = below; has_size = a; has_slide = b; not_empty = i }),
    ) in
    subst (λ (k : WindowKind). IsWindow k → length rows ≤ most_rows k
    → each_row fixed_span k (rows ++ row ∷ []) ≡ elem_of row.tuple span) (sym e)
    (λ l f. known_one (Slide size slide) rows row f
    ∙ sym (elem_of-span row.tuple start end span (whole l.0 l.1) value (omega arith))) limits
    few

slice_get-last : (rows : List Row) (row : Row)
    → slice_get (rows ++ row ∷ []) (length rows) ≡ Some row
slice_get-last [] row = refl
slice_get-last (first ∷ rest) row = slice_get-last rest row

pub pass_none : (kind : WindowKind) (n : ℕ) (rows left : List Row) (row : Row) → kind ≡ Count n
    → IsWindow kind → left ≡ rows ++ row ∷ [] → length left ≤ n
    → each_row fixed_span kind (rows ++ row ∷ []) ≡ []
pass_none kind n rows left row e limits all few =
    subst (λ (k : WindowKind). IsWindow k → each_row fixed_span k (rows ++ row ∷ []) ≡ []) (sym e)
    (λ l. known_of-few n (rows ++ row ∷ []) l.0
    (subst (λ (l : List Row). length l ≤ n) all few)) limits

-- the oldest has left, and the newest is the n-th after it
freed : (n : ℕ) (rows left : List Row) (row oldest : Row) → 1 ≤ n → oldest ∷ left ≡ rows ++ row ∷ []
    → left ≡ last_n n (rows ++ row ∷ []) → length rows ≤ n
    → each_row fixed_span (Count n)
    (oldest ∷ left) ≡ elem_between oldest.tuple oldest.stamp row.stamp
unfolding each_row
freed n rows left row oldest one all last few =
    let sizes : suc (length left) ≡ length (rows ++ row ∷ []) = ap length all in
    let kept : length left ≡ length (last_n n (rows ++ row ∷ [])) = ap length last in
    let full : length left ≡ n = omega
    (arith, length-drop (length (rows ++ row ∷ []) - n) (rows ++ row ∷ [])) in
    let before : suc (n - 1) ≡ length rows = omega (arith, length-append rows (row ∷ [])) in
    let newest : slice_get left (n - 1) ≡ Some row =
    ap (λ (l : List Row). slice_get l (suc (n - 1))) all ∙ ap (slice_get (rows ++ row ∷ [])) before
    ∙ slice_get-last rows row in
    rw (newest, known_of-few n left one (omega arith))
    (append-nil (elem_between oldest.tuple oldest.stamp row.stamp))

pub pass_some : (kind : WindowKind) (n : ℕ) (rows left : List Row) (row oldest : Row)
    (span : Option Span) → kind ≡ Count n → IsWindow kind → length rows ≤ most_rows kind
    → row.stamp < horizon
    → oldest ∷ left ≡ rows ++ row ∷ [] → left ≡ last_n n (rows ++ row ∷ [])
    → (IsSome span ↔ IsInterval oldest.stamp row.stamp)
    → IfSome span (λ s. s ≡ span_of oldest.stamp row.stamp)
    → each_row fixed_span kind (rows ++ row ∷ []) ≡ elem_of oldest.tuple span
pass_some kind n rows left row oldest span e limits few below all last exact value =
    subst (λ (k : WindowKind). IsWindow k → length rows ≤ most_rows k
    → each_row fixed_span k (rows ++ row ∷ []) ≡ elem_of oldest.tuple span) (sym e)
    (λ l f. ap (each_row fixed_span (Count n)) (sym all)
    ∙ freed n rows left row oldest l.0 all last f
    ∙ sym (elem_of-span oldest.tuple oldest.stamp row.stamp span exact value (omega arith)))
    limits few
