-- The elements that hold an instant are the rows that are valid then.
use Rattle.std.proofs.Common.{◌≡◌, ℕ, zero, suc, ◌+◌, ◌-◌, ◌≤◌, ◌<◌, ◌↔◌, min, List, [], ◌∷◌, ◌++◌}
use Rattle.std.proofs.Common.{length, map, Bool, true, false, cond, nat_le, nat_lt, ◌&&◌, Option}
use Rattle.std.proofs.Common.{Some, refl, sym, ap, ◌∙◌, arith, slice_get, filter, unwrap_or}
use Rattle.std.specs.Option.{option_map}
use Rattle.std.proofs.lemmas.Bool.{lt-ltb}
use Rattle.std.proofs.lemmas.Bool.Decides.{nat_tests}
use Rattle.pipes_time.specs.Interval.{horizon}
use Rattle.pipes_time.specs.Slides.{last_slide, next_slide, slide_end}
use Rattle.pipes_time.proofs.Slides.{in_slide}
use Rattle.pipes_tuple.specs.declared.value.Value.{Value}
use Rattle.pipes_tuple.specs.Bag.{SameBag, count}
use Rattle.pipes_stream.specs.declared.Elem.{Elem}
use Rattle.pipes_stream.specs.Snapshot.{is_held, snapshot}
use Rattle.pipes_window.specs.declared.item.Item.{Item}
use Rattle.pipes_window.specs.declared.kind.WindowKind.{WindowKind}
use Rattle.pipes_window.specs.declared.kind.WindowKind.TheVariants.{Time, Slide, Count}
use Rattle.pipes_window.specs.declared.row.Row.{Row}
use Rattle.pipes_window.specs.Items.{rows_of, StampsRise, last_n}
use Rattle.pipes_window.specs.Windows.{IsWindow, is_recent, has_come, valid_rows, in_window}
use Rattle.pipes_window.specs.Windows.{span_start, end_of, span_of, elem_between, whole_span}
use Rattle.pipes_window.specs.Windows.{each_row, spans}
use Rattle.pipes_window.proofs.Lists.{last_n-few, last_n-cons}
use Rattle.pipes_window.proofs.Rising.{RowsFrom, rows_rise}

abbrev tuples : List Row → List (List Value)
tuples rows = map (λ r. r.tuple) rows

-- a tuple from a start up to an end, and the elements after it
snapshot-elem : (tuple : List Value) (start end t : ℕ) (elems : List Elem)
    → snapshot (elem_between tuple start end ++ elems) t
    ≡ cond (nat_le start t && nat_lt t end) (tuple ∷ snapshot elems t) (snapshot elems t)
snapshot-elem tuple start end t elems = by (nat_lt start end) refl
  where
    first : Elem
    first = record { tuple = tuple; span = span_of start end }

    held : (b : Bool)
        → map (λ (e : Elem). e.tuple)
        (cond b (record { tuple = tuple; span = span_of start end } ∷ filter
        (λ e. is_held e.span t) elems) (filter (λ e. is_held e.span t) elems))
        ≡ cond b (tuple ∷ snapshot elems t) (snapshot elems t)
    held true = refl
    held false = refl

    by : (b : Bool) → nat_lt start end ≡ b
        → snapshot (cond b (record { tuple = tuple; span = span_of start end } ∷ []) [] ++ elems) t
        ≡ cond (nat_le start t && nat_lt t end) (tuple ∷ snapshot elems t) (snapshot elems t)
    by true e = held (nat_le start t && nat_lt t end)
    by false e =
        let not_held : (nat_le start t && nat_lt t end) ≡ false = grind (arith, nat_tests, e) in
        rw not_held refl

-- In a window of this kind each row fixes its end, and holds the instant where it is valid then.
module _ (kind : WindowKind) (end : Row → ℕ)
    (fixes : (row : Row) (later : List Row) → end_of kind row later ≡ Some (end row))
    (valid : Row → Bool) (t : ℕ)
    (same : (row : Row)
    → (nat_le (span_start kind row.stamp) t && nat_lt t (end row)) ≡ valid row) where
  alone_rows : (rows : List Row)
      → snapshot (each_row whole_span kind rows) t ≡ tuples (filter valid rows)
  unfolding each_row
  alone_rows [] = refl
  alone_rows (row ∷ later) =
      ap (λ (o : Option ℕ). snapshot (whole_span kind row o ++ each_row whole_span kind later) t)
      (fixes row later)
      ∙ snapshot-elem row.tuple (span_start kind row.stamp) (end row) t
      (each_row whole_span kind later)
      ∙ ap (λ (b : Bool). cond b (row.tuple ∷ snapshot (each_row whole_span kind later) t)
      (snapshot (each_row whole_span kind later) t)) (same row)
      ∙ by (valid row) (alone_rows later)
    where
      by : (b : Bool) → snapshot (each_row whole_span kind later) t ≡ tuples (filter valid later)
          → cond b (row.tuple ∷ snapshot (each_row whole_span kind later) t)
          (snapshot (each_row whole_span kind later) t)
          ≡ tuples (cond b (row ∷ filter valid later) (filter valid later))
      by true e = ap (λ (l : List (List Value)). row.tuple ∷ l) e
      by false e = e

-- below the horizon the clipped end is as good as the whole one
clipped : (stamp size t : ℕ) → t < horizon
    → (nat_le stamp t && nat_lt t (min (stamp + size) horizon)) ≡
    (nat_le stamp t && nat_lt t (stamp + size))
clipped stamp size t below = grind (arith, nat_tests)

-- tests of facts that agree
tests_agree : (a b s z t l : ℕ) → ((s ≤ l) × (l < z)) ↔ ((a ≤ t) × (t < b))
    → (nat_le a t && nat_lt t b) ≡ (nat_le s l && nat_lt l z)
tests_agree a b s z t l agree = by (nat_le a t && nat_lt t b) refl (nat_le s l && nat_lt l z) refl
  where
    by : (c : Bool) → (nat_le a t && nat_lt t b) ≡ c → (d : Bool) → (nat_le s l && nat_lt l z) ≡ d
        → c ≡ d
    by true e true f = refl
    by false e false f = refl
    by true e false f =
        let start : a ≤ t = grind (arith, nat_tests, e) in
        let end : t < b = grind (arith, nat_tests, e) in
        let h = agree.1 (start, end) in
        let come = h.0 in
        let young = h.1 in
        absurd (grind (arith, nat_tests, f, come, young))
    by false e true f =
        let come : s ≤ l = grind (arith, nat_tests, f) in
        let young : l < z = grind (arith, nat_tests, f) in
        let h = agree.0 (come, young) in
        let start = h.0 in
        let end = h.1 in
        absurd (grind (arith, nat_tests, e, start, end))

-- a row of a sliding window holds the instants at which the last move of the window has it
slide_held : (size slide t : ℕ) (row : Row) → 1 ≤ slide → t < horizon
    → (nat_le (next_slide slide row.stamp) t && nat_lt t (slide_end size slide row.stamp)) ≡
    is_recent size (last_slide slide t) row
slide_held size slide t row some below =
    let meet = in_slide row.stamp size slide t some in
    tests_agree (next_slide slide row.stamp) (slide_end size slide row.stamp) row.stamp
    (row.stamp + size) t (last_slide slide t) (
      λ h. meet.0 (record { has_come = h.0; is_young = h.1; is_instant = below }),
      λ h. let is = meet.1 h in (is.has_come, is.is_young),
    )

-- past the instant no row has come
has_come-past : (t low : ℕ) (rows : List Row) → t < low → RowsFrom low rows
    → filter (has_come t) rows ≡ []
has_come-past t low [] past up = refl
has_come-past t low (row ∷ later) past up =
    let l = up.0 in
    let late : nat_le row.stamp t ≡ false = grind (arith, nat_tests, l, past) in
    rw late (has_come-past t row.stamp later (omega arith) up.2)

abbrev stamp_or_horizon : Option Row → ℕ
stamp_or_horizon row = unwrap_or (option_map (λ r. r.stamp) row) horizon

-- where the instant is past, the place is past too
ends_past : (t low i : ℕ) (rows : List Row) → t < low → t < horizon → RowsFrom low rows
    → nat_lt t (stamp_or_horizon (slice_get rows i)) ≡ true
ends_past t low i [] past below up = lt-ltb t horizon below
ends_past t low zero (row ∷ later) past below up = lt-ltb t row.stamp (let l = up.0 in omega arith)
ends_past t low (suc i) (row ∷ later) past below up = ends_past t row.stamp i later
    (let l = up.0 in omega arith) below up.2

none_le : (n : ℕ) → nat_le 0 n ≡ true
none_le n = grind (arith, nat_tests)

-- the row at a place comes after the instant exactly where at most as many have come by it
ends_after : (t low i : ℕ) (rows : List Row) → t < horizon → RowsFrom low rows
    → nat_lt t (stamp_or_horizon (slice_get rows i)) ≡ nat_le (length (filter (has_come t) rows)) i
ends_after t low i [] below up = lt-ltb t horizon below ∙ sym (none_le i)
ends_after t low zero (row ∷ later) below up = by (nat_le row.stamp t) refl
  where
    by : (b : Bool) → nat_le row.stamp t ≡ b
        → nat_lt t row.stamp ≡ nat_le
        (length (cond b (row ∷ filter (has_come t) later) (filter (has_come t) later))) zero
    by true e = grind (arith, nat_tests, e)
    by false e =
        let after : t < row.stamp = grind (arith, nat_tests, e) in
        lt-ltb t row.stamp after
        ∙ sym (ap (λ (l : List Row). nat_le (length l) zero)
        (has_come-past t row.stamp later after up.2))
ends_after t low (suc i) (row ∷ later) below up = by (nat_le row.stamp t) refl
    (ends_after t row.stamp i later below up.2)
  where
    step : (k : ℕ) → nat_le k i ≡ nat_le (suc k) (suc i)
    step k = grind (arith, nat_tests)

    by : (b : Bool) → nat_le row.stamp t ≡ b
        → nat_lt t (stamp_or_horizon (slice_get later i)) ≡ nat_le
        (length (filter (has_come t) later)) i
        → nat_lt t (stamp_or_horizon (slice_get later i)) ≡ nat_le
        (length (cond b (row ∷ filter (has_come t) later) (filter (has_come t) later))) (suc i)
    by true e same = same ∙ step (length (filter (has_come t) later))
    by false e same =
        let after : t < row.stamp = grind (arith, nat_tests, e) in
        ends_past t row.stamp i later after below up.2 ∙ sym (none_le (suc i))
        ∙ sym (ap (λ (l : List Row). nat_le (length l) (suc i))
        (has_come-past t row.stamp later after up.2))

-- fewer than n
fewer : (n k : ℕ) → 1 ≤ n → nat_le k (n - 1) ≡ nat_lt k n
fewer n k one = grind (arith, nat_tests)

count_rows : (n t low : ℕ) (rows : List Row) → 1 ≤ n → t < horizon → RowsFrom low rows
    → snapshot (each_row whole_span (Count n) rows) t ≡ tuples (valid_rows (Count n) rows t)
unfolding each_row
count_rows n t low [] one below up = ap tuples (sym (last_n-few n [] (omega arith)))
count_rows n t low (row ∷ later) one below up =
    snapshot-elem row.tuple row.stamp (stamp_or_horizon (slice_get later (n - 1))) t
    (each_row whole_span (Count n) later)
    ∙ ap (λ (b : Bool). cond (nat_le row.stamp t && b)
    (row.tuple ∷ snapshot (each_row whole_span (Count n) later) t)
    (snapshot (each_row whole_span (Count n) later) t))
    (ends_after t row.stamp (n - 1) later below up.2
    ∙ fewer n (length (filter (has_come t) later)) one)
    ∙ by (nat_le row.stamp t) (nat_lt (length (filter (has_come t) later)) n)
    (last_n-cons n row (filter (has_come t) later))
    (count_rows n t row.stamp later one below up.2)
  where
    by : (b d : Bool) → last_n n (row ∷ filter (has_come t) later) ≡ cond d
        (row ∷ last_n n (filter (has_come t) later)) (last_n n (filter (has_come t) later))
        → snapshot (each_row whole_span (Count n) later) t ≡ tuples
        (last_n n (filter (has_come t) later))
        → cond (b && d) (row.tuple ∷ snapshot (each_row whole_span (Count n) later) t)
        (snapshot (each_row whole_span (Count n) later) t)
        ≡ tuples (last_n n (cond b (row ∷ filter (has_come t) later) (filter (has_come t) later)))
    by true true e same = ap (λ (l : List (List Value)). row.tuple ∷ l) same ∙ sym (ap tuples e)
    by true false e same = same ∙ sym (ap tuples e)
    by false d e same = same

pub spans_are_rows : (kind : WindowKind) (items : List Item) (t : ℕ) → IsWindow kind
    → StampsRise items → t < horizon → snapshot (spans kind items) t ≡ in_window kind items t
spans_are_rows (Time size) items t limits up below =
    alone_rows (Time size) (λ row. min (row.stamp + size) horizon) (λ row later. refl)
    (is_recent size t) t
    (λ row. clipped row.stamp size t below) (rows_of items)
spans_are_rows (Slide size slide) items t limits up below =
    alone_rows (Slide size slide) (λ row. slide_end size slide row.stamp) (λ row later. refl)
    (is_recent size (last_slide slide t)) t
    (λ row. slide_held size slide t row limits.1.0 below) (rows_of items)
spans_are_rows (Count n) items t limits up below = count_rows n t 0 (rows_of items) limits.0 below
    (rows_rise 0 items up)

pub same_bag : (xs ys : List (List Value)) → xs ≡ ys → SameBag xs ys
same_bag xs ys e = record { counts = λ tuple. ap (count tuple) e }

-- elements that are kept by their tuples hold, at each instant, the tuples that are kept
pub snapshot-filter : (p : List Value → Bool) (elems : List Elem) (t : ℕ)
    → snapshot (filter (λ e. p e.tuple) elems) t ≡ filter p (snapshot elems t)
snapshot-filter p [] t = refl
snapshot-filter p (elem ∷ rest) t = outer (p elem.tuple)
    ∙ by (p elem.tuple) (is_held elem.span t) refl (snapshot-filter p rest t)
  where
    outer : (b : Bool)
        → snapshot (cond b (elem ∷ filter (λ e. p e.tuple) rest) (filter (λ e. p e.tuple) rest)) t
        ≡ cond b (cond (is_held elem.span t)
        (elem.tuple ∷ snapshot (filter (λ e. p e.tuple) rest) t)
        (snapshot (filter (λ e. p e.tuple) rest) t)) (snapshot (filter (λ e. p e.tuple) rest) t)
    outer true = inner (is_held elem.span t)
      where
        inner : (d : Bool)
            → map (λ (e : Elem). e.tuple)
            (cond d (elem ∷ filter (λ e. is_held e.span t) (filter (λ e. p e.tuple) rest))
            (filter (λ e. is_held e.span t) (filter (λ e. p e.tuple) rest)))
            ≡ cond d (elem.tuple ∷ snapshot (filter (λ e. p e.tuple) rest) t)
            (snapshot (filter (λ e. p e.tuple) rest) t)
        inner true = refl
        inner false = refl
    outer false = refl

    by : (b d : Bool) → p elem.tuple ≡ b
        → snapshot (filter (λ e. p e.tuple) rest) t ≡ filter p (snapshot rest t)
        → cond b (cond d (elem.tuple ∷ snapshot (filter (λ e. p e.tuple) rest) t)
        (snapshot (filter (λ e. p e.tuple) rest) t)) (snapshot (filter (λ e. p e.tuple) rest) t)
        ≡ filter p (map (λ (e : Elem). e.tuple)
        (cond d (elem ∷ filter (λ e. is_held e.span t) rest)
        (filter (λ e. is_held e.span t) rest)))
    by true true e same = rw e (ap (λ (l : List (List Value)). elem.tuple ∷ l) same)
    by true false e same = same
    by false true e same = rw e same
    by false false e same = same

-- so the elements that are kept by their tuples hold, at each instant, the valid rows that are kept
pub filtered_spans_are_rows : (p : List Value → Bool) (kind : WindowKind) (items : List Item)
    (t : ℕ) → IsWindow kind → StampsRise items → t < horizon
    → snapshot (filter (λ e. p e.tuple) (spans kind items)) t ≡ filter p (in_window kind items t)
filtered_spans_are_rows p kind items t limits up below = snapshot-filter p (spans kind items) t
    ∙ ap (filter p) (spans_are_rows kind items t limits up below)
