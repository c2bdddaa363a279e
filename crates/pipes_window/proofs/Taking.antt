-- The items that a window has taken after a call.
use Rattle.std.proofs.Common.{◌≡◌, ℕ, ◌-◌, ◌≤◌, ◌<◌, List, [], ◌∷◌, ◌++◌, length, Bool, true, false}
use Rattle.std.proofs.Common.{cond, refl, sym, ap, ◌∙◌, subst, arith, append-nil, slice_get, Result}
use Rattle.std.proofs.Common.{Ok, Err, is_err, OnOk}
use Rattle.std.specs.List.{flat_map}
use Rattle.std.specs.Option.{option_map_or}
use Rattle.pipes_time.specs.Interval.{horizon}
use Rattle.pipes_stream.specs.declared.Elem.{Elem}
use Rattle.pipes_window.specs.declared.item.Item.{Item}
use Rattle.pipes_window.specs.declared.item.Item.TheVariants as items
use Rattle.pipes_window.specs.declared.kind.WindowKind.{WindowKind}
use Rattle.pipes_window.specs.declared.kind.WindowKind.TheVariants.{Time, Slide, Count}
use Rattle.pipes_window.specs.declared.row.Row.{Row}
use Rattle.pipes_window.specs.Items.{rows_of, item_stamp, StampsRise}
use Rattle.pipes_window.specs.Windows.{IsWindow, whole_span, fixed_span, each_row, elem_between}
use Rattle.pipes_window.specs.Windows.{waiting_of, waiting, most_rows, oldest_stamp, beat_of}
use Rattle.pipes_window.specs.Windows.{window_beat}
use Rattle.pipes_window.specs.Laws.{SpansAreRows, IsHeartbeat, MakesKnown, MakesRest}
use Rattle.pipes_window.specs.State.{State, WindowHasTaken, WindowTakes, WindowFinishes}
use Rattle.pipes_window.proofs.Lists.{last_n-few, slice_get-past}
use Rattle.pipes_window.proofs.Splits.{known_of-few}
use Rattle.pipes_window.proofs.Rising.{last_stamp-append, rises_more}
use Rattle.pipes_window.proofs.Heartbeats.{waiting-append, item_law, rest_law, heartbeat_law}
use Rattle.pipes_window.proofs.Heartbeats.{spans_law}

rises : (w : State) (source : List Item) (item : Item) → w.last ≤ item_stamp item
    → item_stamp item < horizon → WindowHasTaken source w → StampsRise (source ++ item ∷ [])
rises w source item order below t = let last = t.last in
    rises_more 0 source item t.source (omega arith) (omega arith) below

-- the rows of a window that goes on
goes_on : (w : State) (source : List Item) → w.ended ≡ false → WindowHasTaken source w
    → w.rows ≡ waiting w.kind source
goes_on w source going t = t.rows ∙ ap (λ (b : Bool). cond b [] (waiting w.kind source)) going

-- a call that takes an item, keeps the rows that wait then and appends what is known by it
takes : (old new : State) (item : Item) (out after : List Elem) → old.ended ≡ false
    → old.last ≤ item_stamp item → item_stamp item < horizon
    → new.kind ≡ old.kind → new.last ≡ item_stamp item → new.ended ≡ old.ended
    → new.failed ≡ old.failed
    → new.rows ≡ waiting_of old.kind (old.rows ++ rows_of (item ∷ []))
    → after ≡ out ++ each_row fixed_span old.kind (old.rows ++ rows_of (item ∷ []))
    → WindowTakes old new item out after
takes old new item out after going order below kind last ended failed rows sent = record {
  kind = kind;
  last = last;
  ended = ended;
  failed = failed;
  taken = λ source t. record {
    limits = subst IsWindow (sym kind) t.limits;
    source = rises old source item order below t;
    rows =
        rows ∙ ap (λ (l : List Row). waiting_of old.kind (l ++ rows_of (item ∷ [])))
        (goes_on old source going t) ∙ sym (waiting-append old.kind source (item ∷ []))
        ∙ (λ i. cond (sym (ended ∙ going) i) [] (waiting (sym kind i) (source ++ item ∷ [])));
    last = (let e = last_stamp-append source item in let f = t.last in omega arith);
    unfailed = failed ∙ t.unfailed;
  };
  sent = (
    each_row fixed_span old.kind (old.rows ++ rows_of (item ∷ [])),
    sent,
    λ source t.
        subst (λ (l : List Row). MakesKnown old.kind source item
        (each_row fixed_span old.kind (l ++ rows_of (item ∷ []))))
        (sym (goes_on old source going t))
        (item_law old.kind source item t.limits (rises old source item order below t)),
  );
}

finishes : (old new : State) (out after : List Elem) → old.ended ≡ false → new.kind ≡ old.kind
    → new.last ≡ old.last → new.ended ≡ true → new.failed ≡ old.failed
    → new.rows ≡ [] → after ≡ out ++ each_row whole_span old.kind old.rows
    → WindowFinishes old new out after
finishes old new out after going kind last ended failed rows sent = record {
  kind = kind;
  last = last;
  ended = ended;
  failed = failed;
  taken = λ source t. record {
    limits = subst IsWindow (sym kind) t.limits;
    source = t.source;
    rows = rows ∙ ap (λ (b : Bool). cond b [] (waiting new.kind source)) (sym ended);
    last = last ∙ t.last;
    unfailed = failed ∙ t.unfailed;
  };
  sent = (
    each_row whole_span old.kind old.rows,
    sent,
    λ source t. subst (λ (l : List Row). MakesRest old.kind source (each_row whole_span old.kind l))
        (sym (goes_on old source going t)) (rest_law old.kind source t.limits t.source),
  );
}

pub taken_spans : (w : State) (source : List Item) → WindowHasTaken source w
    → SpansAreRows w.kind source
taken_spans w source t = spans_law w.kind source t.limits t.source

pub taken_heartbeat : (w : State) (source : List Item) → WindowHasTaken source w
    → IsHeartbeat w.kind source
taken_heartbeat w source t = heartbeat_law w.kind source t.limits t.source

-- the stamp of the first row that is held
pub oldest_held : (w : State) (source : List Item) → WindowHasTaken source w → w.ended ≡ false
    → option_map_or (λ r. r.stamp) (slice_get w.rows 0) w.last ≡ oldest_stamp w.kind source
oldest_held w source t going =
    (λ i. option_map_or (λ r. r.stamp) (slice_get (goes_on w source going t i) 0) (t.last i))

-- what a window that goes on answers
pub beat_value : (w : State) (source : List Item) → WindowHasTaken source w → w.ended ≡ false
    → beat_of w.kind (option_map_or (λ r. r.stamp) (slice_get w.rows 0) w.last) ≡
    window_beat w.kind source w.ended
beat_value w source t going =
    ap (beat_of w.kind) (oldest_held w source t going)
    ∙ ap (λ (b : Bool). window_beat w.kind source b) (sym going)

-- rows that are few enough all wait, and none of their ends is known
waiting_few : (kind : WindowKind) (rows : List Row) → length rows ≤ most_rows kind
    → waiting_of kind rows ≡ rows
waiting_few (Time size) [] h = refl
waiting_few (Time size) (row ∷ rest) h = absurd (omega arith)
waiting_few (Slide size slide) [] h = refl
waiting_few (Slide size slide) (row ∷ rest) h = absurd (omega arith)
waiting_few (Count n) rows h = last_n-few n rows h

known_few : (kind : WindowKind) (rows : List Row) → IsWindow kind → length rows ≤ most_rows kind
    → each_row fixed_span kind rows ≡ []
unfolding each_row
known_few (Time size) [] limits h = refl
known_few (Time size) (row ∷ rest) limits h = absurd (omega arith)
known_few (Slide size slide) [] limits h = refl
known_few (Slide size slide) (row ∷ rest) limits h = absurd (omega arith)
known_few (Count n) rows limits h = known_of-few n rows limits.0 h

-- the same for the fields of a window
pub takes_inside : (kind : WindowKind) (rows left : List Row) (last : ℕ) (ended failed : Bool)
    (old : State) (item : Item) (out after : List Elem)
    → record { kind = kind; rows = rows; last = last; ended = ended; failed = failed } ≡ old
    → old.ended ≡ false → old.last ≤ item_stamp item → item_stamp item < horizon
    → left ≡ waiting_of kind (rows ++ rows_of (item ∷ []))
    → after ≡ out ++ each_row fixed_span kind (rows ++ rows_of (item ∷ []))
    → WindowTakes old (record {
      kind = kind;
      rows = left;
      last = item_stamp item;
      ended = ended;
      failed = failed;
    }) item out after
takes_inside kind rows left last ended failed old item out after e going order below waits sent =
    takes old (record {
      kind = kind;
      rows = left;
      last = item_stamp item;
      ended = ended;
      failed = failed;
    }) item out after going order below
    (ap (λ (w : State). w.kind) e) refl (ap (λ (w : State). w.ended) e)
    (ap (λ (w : State). w.failed) e)
    (waits ∙ ap (λ (w : State). waiting_of w.kind (w.rows ++ rows_of (item ∷ []))) e)
    (sent ∙ ap (λ (w : State). out ++ each_row fixed_span w.kind (w.rows ++ rows_of (item ∷ []))) e)

-- a heartbeat: the rows stay
pub takes_beat : (kind : WindowKind) (rows : List Row) (last stamp : ℕ) (ended failed : Bool)
    (old : State)
    → record { kind = kind; rows = rows; last = last; ended = ended; failed = failed } ≡ old
    → old.ended ≡ false → old.last ≤ stamp → stamp < horizon → IsWindow kind
    → length rows ≤ most_rows kind
    → WindowTakes old (record {
      kind = kind;
      rows = rows;
      last = stamp;
      ended = ended;
      failed = failed;
    })
    (items.Beat stamp) [] []
takes_beat kind rows last stamp ended failed old e going order below limits few =
    takes_inside kind rows rows last ended failed old (items.Beat stamp) [] [] e going order below
    (sym (waiting_few kind rows few) ∙ ap (waiting_of kind) (sym (append-nil rows)))
    (sym (known_few kind rows limits few) ∙ ap (each_row fixed_span kind) (sym (append-nil rows)))

whole_of-few : (n : ℕ) (rows : List Row) → length rows ≤ n
    → each_row whole_span (Count n) rows ≡ flat_map
    (λ row. elem_between row.tuple row.stamp horizon) rows
unfolding each_row
whole_of-few n [] h = refl
whole_of-few n (row ∷ later) h = rw
    (slice_get-past later (n - 1) (omega arith), whole_of-few n later (omega arith)) refl

-- the rows that wait last up to the horizon
whole_few : (kind : WindowKind) (rows : List Row) → length rows ≤ most_rows kind
    → each_row whole_span kind rows ≡ flat_map
    (λ row. elem_between row.tuple row.stamp horizon) rows
unfolding each_row
whole_few (Time size) [] h = refl
whole_few (Time size) (row ∷ rest) h = absurd (omega arith)
whole_few (Slide size slide) [] h = refl
whole_few (Slide size slide) (row ∷ rest) h = absurd (omega arith)
whole_few (Count n) rows h = whole_of-few n rows h

pub finishes_inside : (kind : WindowKind) (rows left : List Row) (last : ℕ) (ended failed : Bool)
    (old : State) (out after : List Elem)
    → record { kind = kind; rows = rows; last = last; ended = ended; failed = failed } ≡ old
    → old.ended ≡ false → length rows ≤ most_rows kind
    → left ≡ [] → after ≡ out ++ flat_map (λ row. elem_between row.tuple row.stamp horizon) rows
    → WindowFinishes old
    (record { kind = kind; rows = left; last = last; ended = true; failed = failed })
    out after
finishes_inside kind rows left last ended failed old out after e going few none_left sent =
    finishes old (record { kind = kind; rows = left; last = last; ended = true; failed = failed })
    out after going (ap (λ (w : State). w.kind) e) (ap (λ (w : State). w.last) e) refl
    (ap (λ (w : State). w.failed) e) none_left
    (sent ∙ ap (λ (l : List Elem). out ++ l) (sym (whole_few kind rows few))
    ∙ ap (λ (w : State). out ++ each_row whole_span w.kind w.rows) e)

-- what holds of success holds where there is no failure
pub on_ok : {T E : Type 0} (P : Type 0) (r : Result T E) → is_err r ≡ false → OnOk r P → P
on_ok P (Ok x) e p = p
on_ok P (Err x) e p = cc
