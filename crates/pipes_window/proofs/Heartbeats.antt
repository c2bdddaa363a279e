-- The order of the elements, and the heartbeat between those that are known and those that are not.
use Rattle.std.proofs.Common.{◌≡◌, ℕ, suc, ◌-◌, ◌≤◌, ◌<◌, max, List, [], ◌∷◌, ◌++◌, length, Bool}
use Rattle.std.proofs.Common.{true, false, cond, nat_lt, Option, Some, None, refl, sym, ap, ◌∙◌}
use Rattle.std.proofs.Common.{subst, arith, append-nil, length-append, length-drop, drop_at}
use Rattle.std.proofs.Common.{slice_get, unwrap_or}
use Rattle.std.specs.List.{All}
use Rattle.std.specs.Option.{option_map, option_map_or}
use Rattle.std.proofs.lemmas.Bool.Decides.{nat_tests}
use Rattle.std.proofs.lemmas.List.Elements.{All-nil, All-cons, All-append, All-drop}
use Rattle.pipes_time.specs.Interval.{horizon, IsInterval}
use Rattle.pipes_time.proofs.Slides.{slides-rise}
use Rattle.pipes_stream.specs.declared.Elem.{Elem}
use Rattle.pipes_window.specs.declared.item.Item.{Item}
use Rattle.pipes_window.specs.declared.item.Item.TheVariants as items
use Rattle.pipes_window.specs.declared.kind.WindowKind.{WindowKind}
use Rattle.pipes_window.specs.declared.kind.WindowKind.TheVariants.{Time, Slide, Count}
use Rattle.pipes_window.specs.declared.row.Row.{Row}
use Rattle.pipes_window.specs.Items.{rows_of, last_stamp, RisesFrom, StampsRise, last_n}
use Rattle.pipes_window.specs.Windows.{IsWindow, span_start, end_of, span_of, span_up_to}
use Rattle.pipes_window.specs.Windows.{whole_span, fixed_span, each_row, spans, known, waiting_of}
use Rattle.pipes_window.specs.Windows.{waiting, oldest_stamp, beat_of, waiting_beat}
use Rattle.pipes_window.specs.Laws.{StartsFrom, SpansAreRows, IsHeartbeat, MakesKnown, MakesRest}
use Rattle.pipes_window.proofs.Lists.{last_n-many, last_n-append}
use Rattle.pipes_window.proofs.Rising.{RowsFrom, RowsUpTo, rows_rise, rows_of-append}
use Rattle.pipes_window.proofs.Rising.{last_stamp-append, rows_up_to, rises_after, waiting_rise}
use Rattle.pipes_window.proofs.Rising.{waiting_up_to, slice_get-below}
use Rattle.pipes_window.proofs.Splits.{Reach, within, past, reach, known_of-few, split}
use Rattle.pipes_window.proofs.Snapshots.{spans_are_rows, same_bag}

pub starts_lower : (low high : ℕ) (elems : List Elem) → low ≤ high → StartsFrom high elems
    → StartsFrom low elems
starts_lower low high [] h up = tt
starts_lower low high (elem ∷ rest) h up = (let l = up.0 in omega arith, up.1)

-- starts rise with the stamps
starts-rise : (kind : WindowKind) (s t : ℕ) → IsWindow kind → s ≤ t
    → span_start kind s ≤ span_start kind t
starts-rise (Time size) s t limits h = h
starts-rise (Slide size slide) s t limits h = slides-rise slide s t limits.1.0 h
starts-rise (Count n) s t limits h = h

-- the heartbeat at a stamp is not after its start, and no start that an interval has is after it
beat_below : (kind : WindowKind) (stamp : ℕ) → beat_of kind stamp ≤ span_start kind stamp
beat_below (Time size) stamp = omega arith
beat_below (Slide size slide) stamp = omega arith
beat_below (Count n) stamp = omega arith

beats-rise : (kind : WindowKind) (s t : ℕ) → IsWindow kind → s ≤ t → beat_of kind s ≤ beat_of kind t
beats-rise (Time size) s t limits h = h
beats-rise (Slide size slide) s t limits h = let up = slides-rise slide s t limits.1.0 h in
    omega arith
beats-rise (Count n) s t limits h = h

beat_reaches : (kind : WindowKind) (stamp high : ℕ) → IsWindow kind → stamp ≤ high
    → span_start kind stamp < horizon → span_start kind stamp ≤ beat_of kind high
beat_reaches (Time size) stamp high limits h below = h
beat_reaches (Slide size slide) stamp high limits h below = let up =
    slides-rise slide stamp high limits.1.0 h in omega arith
beat_reaches (Count n) stamp high limits h below = h

-- a row up to an end, and later elements
starts_span : (kind : WindowKind) (low : ℕ) (row : Row) (end : ℕ) (rest : List Elem)
    → low ≤ span_start kind row.stamp → StartsFrom (span_start kind row.stamp) rest
    → StartsFrom low (span_up_to kind row end ++ rest)
starts_span kind low row end rest h up = by (nat_lt (span_start kind row.stamp) end)
  where
    by : (b : Bool) → StartsFrom low
        (cond b (record { tuple = row.tuple; span = span_of (span_start kind row.stamp) end } ∷ [])
        []
        ++ rest)
    by true = (h, up)
    by false = starts_lower low (span_start kind row.stamp) rest h up

-- what is given of a row starts where the row does
abbrev StartsThere : (WindowKind → Row → Option ℕ → List Elem) → Type 0
StartsThere give = (kind : WindowKind) (low : ℕ) (row : Row) (end : Option ℕ) (rest : List Elem)
    → low ≤ span_start kind row.stamp → StartsFrom (span_start kind row.stamp) rest
    → StartsFrom low (give kind row end ++ rest)

module _ (give : WindowKind → Row → Option ℕ → List Elem) (starts : StartsThere give) where
  -- elements of rows start where the rows do
  starts_rows : (kind : WindowKind) (low : ℕ) (rows : List Row) → IsWindow kind → RowsFrom low rows
      → StartsFrom (span_start kind low) (each_row give kind rows)
  unfolding each_row
  starts_rows kind low [] limits up = tt
  starts_rows kind low (row ∷ later) limits up =
      starts kind (span_start kind low) row (end_of kind row later) (each_row give kind later)
      (starts-rise kind low row.stamp limits up.0)
      (starts_rows kind row.stamp later limits up.2)

  starts_from_beat : (kind : WindowKind) (low : ℕ) (rows : List Row) → IsWindow kind
      → RowsFrom low rows → StartsFrom (beat_of kind low) (each_row give kind rows)
  starts_from_beat kind low rows limits up =
      starts_lower (beat_of kind low) (span_start kind low) (each_row give kind rows)
      (beat_below kind low) (starts_rows kind low rows limits up)

starts_whole : StartsThere whole_span
starts_whole kind low row end rest h up = starts_span kind low row (unwrap_or end horizon) rest h up

starts_fixed : StartsThere fixed_span
starts_fixed kind low row None rest h up = starts_lower low (span_start kind row.stamp) rest h up
starts_fixed kind low row (Some end) rest h up = starts_span kind low row end rest h up

-- a row's end lies within the instants
end_within : (kind : WindowKind) (row : Row) (later : List Row) → RowsFrom row.stamp later
    → unwrap_or (end_of kind row later) horizon ≤ horizon
end_within (Time size) row later up = omega arith
end_within (Slide size slide) row later up = omega arith
end_within (Count n) row later up = by (slice_get later (n - 1)) refl
  where
    by : (there : Option Row) → slice_get later (n - 1) ≡ there
        → unwrap_or (option_map (λ r. r.stamp) there) horizon ≤ horizon
    by None e = omega arith
    by (Some r) e = let below = slice_get-below row.stamp (n - 1) later r up e in omega arith

abbrev IsSpan : Elem → Type 0
IsSpan e = IsInterval e.span.start e.span.end

intervals_span : (kind : WindowKind) (row : Row) (end : ℕ) → end ≤ horizon
    → All IsSpan (span_up_to kind row end)
intervals_span kind row end h = by (nat_lt (span_start kind row.stamp) end) refl
  where
    by : (b : Bool) → nat_lt (span_start kind row.stamp) end ≡ b
        → All IsSpan (cond b
        (record { tuple = row.tuple; span = span_of (span_start kind row.stamp) end } ∷ []) [])
    by true e =
        let some : span_start kind row.stamp < end = grind (arith, nat_tests, e) in
        All-cons IsSpan (record {
          tuple = row.tuple;
          span = span_of (span_start kind row.stamp) end;
        })
        [] (some, h) (All-nil IsSpan)
    by false e = All-nil IsSpan

intervals_rows : (kind : WindowKind) (low : ℕ) (rows : List Row) → RowsFrom low rows
    → All IsSpan (each_row whole_span kind rows)
unfolding each_row
intervals_rows kind low [] up = All-nil IsSpan
intervals_rows kind low (row ∷ later) up =
    All-append IsSpan (span_up_to kind row (unwrap_or (end_of kind row later) horizon))
    (each_row whole_span kind later)
    (intervals_span kind row (unwrap_or (end_of kind row later) horizon)
    (end_within kind row later up.2)) (intervals_rows kind row.stamp later up.2)

pub spans_law : (kind : WindowKind) (items : List Item) → IsWindow kind → StampsRise items
    → SpansAreRows kind items
spans_law kind items limits up = record {
  intervals = intervals_rows kind 0 (rows_of items) (rows_rise 0 items up);
  order = starts_lower 0 (span_start kind 0) (spans kind items) (omega arith)
      (starts_rows whole_span starts_whole kind 0 (rows_of items) limits (rows_rise 0 items up));
  rows = λ t below. spans_are_rows kind items t limits up below;
  bags = λ t below. same_bag _ _ (spans_are_rows kind items t limits up below);
}

-- the first stamp, or this one where there is none
abbrev first_or : ℕ → List Row → ℕ
first_or high rows = option_map_or (λ r. r.stamp) (slice_get rows 0) high

-- the rows that wait and those that come have no stamp below the heartbeat
from_beat : (high : ℕ) (rows more : List Row) → RowsFrom 0 (rows ++ more) → RowsFrom high more
    → RowsFrom (first_or high rows) (rows ++ more)
from_beat high [] more up after = after
from_beat high (row ∷ rest) more up after = (omega arith, up.1, up.2)

pub ahead : (kind : WindowKind) (source more : List Item) → StampsRise (source ++ more)
    → RowsFrom (oldest_stamp kind source) (waiting kind source ++ rows_of more)
ahead kind source more up =
    let rows_up : RowsFrom 0 (rows_of source ++ rows_of more) = subst
    (λ (l : List Row). RowsFrom 0 l) (rows_of-append source more)
    (rows_rise 0 (source ++ more) up) in
    let high : max 0 (last_stamp source) ≡ last_stamp source = omega arith in
    from_beat (last_stamp source) (waiting kind source) (rows_of more)
    (waiting_rise kind 0 (rows_of source) (rows_of more) rows_up)
    (rows_rise (last_stamp source) more
    (subst (λ (l : ℕ). RisesFrom l more) high (rises_after 0 source more up)))

-- the element starts at this instant or before it
abbrev StartsBy : ℕ → Elem → Type 0
StartsBy high e = e.span.start ≤ high

fixed_starts_by : (kind : WindowKind) (high : ℕ) (row : Row) (end : Option ℕ) → IsWindow kind
    → row.stamp ≤ high → unwrap_or end horizon ≤ horizon
    → All (StartsBy (beat_of kind high)) (fixed_span kind row end)
fixed_starts_by kind high row None limits h bound = All-nil (StartsBy (beat_of kind high))
fixed_starts_by kind high row (Some end) limits h bound = by
    (nat_lt (span_start kind row.stamp) end) refl
  where
    by : (b : Bool) → nat_lt (span_start kind row.stamp) end ≡ b
        → All (StartsBy (beat_of kind high))
        (cond b (record { tuple = row.tuple; span = span_of (span_start kind row.stamp) end } ∷ [])
        [])
    by true e =
        let some : span_start kind row.stamp < end = grind (arith, nat_tests, e) in
        All-cons (StartsBy (beat_of kind high))
        (record { tuple = row.tuple; span = span_of (span_start kind row.stamp) end }) []
        (beat_reaches kind row.stamp high limits h (omega arith))
        (All-nil (StartsBy (beat_of kind high)))
    by false e = All-nil (StartsBy (beat_of kind high))

first_from : (low high : ℕ) (rows : List Row) → RowsFrom low rows → low ≤ high
    → low ≤ first_or high rows
first_from low high [] up h = h
first_from low high (row ∷ rest) up h = up.0

first_up_to : (first high : ℕ) (rows : List Row) → RowsUpTo high rows → first ≤ high
    → first_or first rows ≤ high
first_up_to first high [] up h = h
first_up_to first high (row ∷ rest) up h = up.0

waiting_from : (kind : WindowKind) (low : ℕ) (rows : List Row) → RowsFrom low rows
    → RowsFrom low (waiting_of kind rows)
waiting_from kind low rows up =
    subst (λ (l : List Row). RowsFrom low l) (append-nil (waiting_of kind rows))
    (waiting_rise kind low rows []
    (subst (λ (l : List Row). RowsFrom low l) (sym (append-nil rows)) up))

before_alone : (kind : WindowKind) (low high : ℕ) (rows : List Row) → IsWindow kind
    → RowsFrom low rows → RowsUpTo high rows
    → All (StartsBy (beat_of kind high)) (each_row fixed_span kind rows)
unfolding each_row
before_alone kind low high [] limits up top = All-nil (StartsBy (beat_of kind high))
before_alone kind low high (row ∷ later) limits up top =
    All-append (StartsBy (beat_of kind high)) (fixed_span kind row (end_of kind row later))
    (each_row fixed_span kind later)
    (fixed_starts_by kind high row (end_of kind row later) limits top.0
    (end_within kind row later up.2)) (before_alone kind row.stamp high later limits up.2 top.1)

before_count : (n low high : ℕ) (rows : List Row) → IsWindow (Count n) → RowsFrom low rows
    → RowsUpTo high rows
    → All (StartsBy (first_or high (last_n n rows))) (each_row fixed_span (Count n) rows)
unfolding each_row
before_count n low high [] limits up top = All-nil (StartsBy (first_or high (last_n n [])))
before_count n low high (row ∷ later) limits up top = by (reach n (length later))
    (before_count n row.stamp high later limits up.2 top.1)
  where
    by : Reach n (length later)
        → All (StartsBy (first_or high (last_n n later))) (each_row fixed_span (Count n) later)
        → All (StartsBy (first_or high (last_n n (row ∷ later))))
        (fixed_span (Count n) row (end_of (Count n) row later) ++ each_row fixed_span
        (Count n) later)
    by (within h) more =
        let beat = first_or high (last_n n later) in
        let first : row.stamp ≤ beat = first_from row.stamp high (last_n n later)
        (waiting_from (Count n) row.stamp later up.2) top.0 in
        subst (λ (l : List Row). All (StartsBy (first_or high l))
        (fixed_span (Count n) row (end_of (Count n) row later) ++ each_row fixed_span
        (Count n) later)) (sym (last_n-many n row later h))
        (All-append (StartsBy beat) (fixed_span (Count n) row (end_of (Count n) row later))
        (each_row fixed_span (Count n) later)
        (fixed_starts_by (Count n) beat row (end_of (Count n) row later) limits first
        (end_within (Count n) row later up.2)) more)
    by (past h) more =
        subst (λ (l : List Elem). All (StartsBy (first_or high (last_n n (row ∷ later)))) l)
        (sym (known_of-few n (row ∷ later) limits.0 (omega arith)))
        (All-nil (StartsBy (first_or high (last_n n (row ∷ later)))))

before : (kind : WindowKind) (source : List Item) → IsWindow kind → StampsRise source
    → All (StartsBy (waiting_beat kind source)) (known kind source)
before (Time size) source limits up = before_alone (Time size) 0 (last_stamp source)
    (rows_of source) limits (rows_rise 0 source up)
    (rows_up_to (last_stamp source) source (omega arith))
before (Slide size slide) source limits up =
    before_alone (Slide size slide) 0 (last_stamp source) (rows_of source) limits
    (rows_rise 0 source up) (rows_up_to (last_stamp source) source (omega arith))
before (Count n) source limits up = before_count n 0 (last_stamp source) (rows_of source) limits
    (rows_rise 0 source up) (rows_up_to (last_stamp source) source (omega arith))

pub heartbeat_law : (kind : WindowKind) (source : List Item) → IsWindow kind → StampsRise source
    → IsHeartbeat kind source
heartbeat_law kind source limits up = record {
  past = before kind source limits up;
  ahead = λ more rises. (
    each_row whole_span kind (waiting kind source ++ rows_of more),
    ap (λ (l : List Row). each_row whole_span kind l) (rows_of-append source more)
        ∙ split whole_span (λ kind row end. refl) kind (rows_of source) (rows_of more) limits,
    starts_from_beat whole_span starts_whole kind (oldest_stamp kind source)
        (waiting kind source ++ rows_of more) limits (ahead kind source more rises),
  );
}

pub rest_law : (kind : WindowKind) (source : List Item) → IsWindow kind → StampsRise source
    → MakesRest kind source (each_row whole_span kind (waiting kind source))
rest_law kind source limits up =
    let last : waiting kind source ++ [] ≡ waiting kind source = append-nil (waiting kind source) in
    let start : source ++ [] ≡ source = append-nil source in
    record {
      all =
          ap (λ (l : List Row). each_row whole_span kind l) (sym (append-nil (rows_of source)))
          ∙ split whole_span (λ kind row end. refl) kind (rows_of source) [] limits
          ∙ ap (λ (l : List Row). known kind source ++ each_row whole_span kind l) last;
      starts =
          starts_from_beat whole_span starts_whole kind (oldest_stamp kind source)
          (waiting kind source) limits
          (subst (λ (l : List Row). RowsFrom (oldest_stamp kind source) l) last
          (ahead kind source [] (subst (λ (l : List Item). StampsRise l) (sym start) up)));
    }

-- only the rows that waited count for those that wait
pub waiting-append : (kind : WindowKind) (source more : List Item)
    → waiting kind (source ++ more) ≡ waiting_of kind (waiting kind source ++ rows_of more)
waiting-append (Time size) source more = refl
waiting-append (Slide size slide) source more = refl
waiting-append (Count n) source more = ap (λ (l : List Row). last_n n l)
    (rows_of-append source more) ∙ last_n-append n (rows_of source) (rows_of more)

lone_span : (kind : WindowKind) (row : Row) (end : Option ℕ)
    → length {A = Elem} (fixed_span kind row end ++ []) ≤ 1
lone_span kind row None = omega arith
lone_span kind row (Some end) = by (nat_lt (span_start kind row.stamp) end)
  where
    by : (b : Bool) → length {A = Elem}
        (cond b (record { tuple = row.tuple; span = span_of (span_start kind row.stamp) end } ∷ [])
        []
        ++ []) ≤ 1
    by true = omega arith
    by false = omega arith

few_alone : (kind : WindowKind) (rows : List Row) → length rows ≤ 1
    → length (each_row fixed_span kind rows) ≤ 1
unfolding each_row
few_alone kind [] h = omega arith
few_alone kind (row ∷ []) h = lone_span kind row (end_of kind row [])
few_alone kind (row ∷ next ∷ later) h = absurd (omega arith)

few_count : (n : ℕ) (rows : List Row) → 1 ≤ n → length rows ≤ suc n
    → length (each_row fixed_span (Count n) rows) ≤ 1
unfolding each_row
few_count n [] one h = omega arith
few_count n (row ∷ later) one h = rw (known_of-few n later one (omega arith))
    (lone_span (Count n) row (end_of (Count n) row later))

one_item : (item : Item) → length (rows_of (item ∷ [])) ≤ 1
one_item (items.Row stamp tuple) = omega arith
one_item (items.Beat stamp) = omega arith

few_more : (kind : WindowKind) (rows : List Row) (item : Item) → IsWindow kind
    → length (each_row fixed_span kind (waiting_of kind rows ++ rows_of (item ∷ []))) ≤ 1
few_more (Time size) rows item limits = few_alone (Time size) (rows_of (item ∷ [])) (one_item item)
few_more (Slide size slide) rows item limits = few_alone (Slide size slide) (rows_of (item ∷ []))
    (one_item item)
few_more (Count n) rows item limits =
    let one = one_item item in
    few_count n (last_n n rows ++ rows_of (item ∷ [])) limits.0
    (omega (
      arith,
      length-append (last_n n rows) (rows_of (item ∷ [])),
      length-drop
          (length rows - n) rows,
    ))

All-right : (P : Elem → Type 0) (xs ys : List Elem) → All P (xs ++ ys) → All P ys
All-right P xs ys all = subst (λ (l : List Elem). All P l) (drop_at xs ys (length xs) refl)
    (All-drop P (length xs) (xs ++ ys) all)

-- the stamp of the oldest row that waits never falls, and so the heartbeat doesn't
oldest-rises : (kind : WindowKind) (source : List Item) (item : Item)
    → StampsRise (source ++ item ∷ [])
    → oldest_stamp kind source ≤ oldest_stamp kind (source ++ item ∷ [])
oldest-rises kind source item up =
    let oldest = oldest_stamp kind source in
    let rows = waiting kind source ++ rows_of (item ∷ []) in
    let last = last_stamp-append source item in
    let high : oldest ≤ last_stamp (source ++ item ∷ []) =
    first_up_to (last_stamp source) (last_stamp (source ++ item ∷ [])) (waiting kind source)
    (waiting_up_to kind (last_stamp (source ++ item ∷ [])) (rows_of source)
    (rows_up_to (last_stamp (source ++ item ∷ [])) source (omega arith))) (omega arith) in
    subst (λ (l : List Row). oldest ≤ first_or (last_stamp (source ++ item ∷ [])) l)
    (sym (waiting-append kind source (item ∷ [])))
    (first_from oldest (last_stamp (source ++ item ∷ [])) (waiting_of kind rows)
    (waiting_from kind oldest rows (ahead kind source (item ∷ []) up)) high)

pub item_law : (kind : WindowKind) (source : List Item) (item : Item) → IsWindow kind
    → StampsRise (source ++ item ∷ [])
    → MakesKnown kind source item
    (each_row fixed_span kind (waiting kind source ++ rows_of (item ∷ [])))
item_law kind source item limits up =
    let more = each_row fixed_span kind (waiting kind source ++ rows_of (item ∷ [])) in
    let same : known kind (source ++ item ∷ []) ≡ known kind source ++ more =
    ap (λ (l : List Row). each_row fixed_span kind l) (rows_of-append source (item ∷ []))
    ∙ split fixed_span (λ kind row end. refl) kind (rows_of source)
    (rows_of (item ∷ [])) limits in
    let after = waiting_beat kind (source ++ item ∷ []) in
    record {
      all = same;
      few = few_more kind (rows_of source) item limits;
      starts = starts_from_beat fixed_span starts_fixed kind (oldest_stamp kind source)
          (waiting kind source ++ rows_of (item ∷ [])) limits (ahead kind source (item ∷ []) up);
      caught_up = All-right (StartsBy after) (known kind source) more
          (subst (λ (l : List Elem). All (StartsBy after) l) same
          (before kind (source ++ item ∷ []) limits up));
      rises = beats-rise kind (oldest_stamp kind source)
          (oldest_stamp kind (source ++ item ∷ [])) limits (oldest-rises kind source item up);
    }
