-- The rows of what is released are those of the arrivals in order.
use Rattle.std.proofs.Common.{◌≡◌, ℕ, ◌≤◌, ◌<◌, List, [], ◌∷◌, ◌++◌, true, false, nat_le, nat_lt}
use Rattle.std.proofs.Common.{filter, map, refl, sym, ap, ◌∙◌, subst, arith, append_assoc}
use Rattle.std.proofs.Common.{⊎_elim}
use Rattle.std.proofs.lemmas.Bool.{cases_lt, le-leb, lt-ltb, le-ltb, lt-leb}
use Rattle.std.proofs.lemmas.List.Elements.{filter-append}
use Rattle.pipes_window.specs.declared.item.Item.{Item}
use Rattle.pipes_window.specs.declared.item.Item.TheVariants as items
use Rattle.pipes_window.specs.declared.row.Row.{Row}
use Rattle.pipes_window.specs.Items.{rows_of, RisesFrom}
use Rattle.pipes_window.specs.Windows.{valid_rows, spans}
use Rattle.pipes_window.specs.Laws.{SpansAreRows, IsHeartbeat}
use Rattle.pipes_window.proofs.Rising.{rows_of-append, rows_rise, RowsFrom, RowsUpTo}
use Rattle.pipes_window.proofs.Heartbeats.{spans_law, heartbeat_law}
use Rattle.pipes_feed.specs.Items.{stamp_in, placed_item, ordered_after, in_order}
use Rattle.pipes_feed.specs.Waiting.{up_to, past}
use Rattle.pipes_feed.specs.Released.{Arrived, none_arrived, held_floor, rows_with, after_arrival}
use Rattle.pipes_feed.specs.Released.{rest_of, due_of, released_from, held_after, released}
use Rattle.pipes_feed.specs.Released.{completed}
use Rattle.pipes_arrivals.specs.Arriving.{ArriveAfter, Arrive}
use Rattle.pipes_arrivals.specs.Laws.{OfArrivals, AreRowsInOrder, IsArrivalBeat}
use Rattle.pipes_arrivals.proofs.Rising.{Orderly, orderly-more, orderly-none, rows-rise, same-stamp}
use Rattle.pipes_arrivals.proofs.Rising.{floor-rises, completed-rises, released-rises}
use Rattle.pipes_arrivals.proofs.Releasing.{completed-more}

-- ---- rows, parted by their stamps
abbrev rows_to : ℕ → List Row → List Row
rows_to t rows = filter (λ r. nat_le r.stamp t) rows

abbrev rows_past : ℕ → List Row → List Row
rows_past t rows = filter (λ r. nat_lt t r.stamp) rows

abbrev row_in : Item → List Row
row_in item = rows_of (item ∷ [])

-- a row put among others
abbrev placed_rows : Item → List Row → List Row
placed_rows x rows = rows_to (stamp_in x) rows ++ (row_in x ++ rows_past (stamp_in x) rows)

rows_of_to : (t : ℕ) (list : List Item) → rows_of (up_to t list) ≡ rows_to t (rows_of list)
rows_of_to t [] = refl
rows_of_to t (items.Row stamp tuple ∷ list) = ⊎_elim
    (λ h. let is : nat_le stamp t ≡ false = lt-leb _ _ h in rw is (rows_of_to t list))
    (λ h. let is : nat_le stamp t ≡ true = le-leb _ _ h in
    rw is (ap (λ (l : List Row). record { stamp = stamp; tuple = tuple } ∷ l)
    (rows_of_to t list)))
    (cases_lt t stamp)
rows_of_to t (items.Beat stamp ∷ list) = ⊎_elim
    (λ h. let is : nat_le stamp t ≡ false = lt-leb _ _ h in rw is (rows_of_to t list))
    (λ h. let is : nat_le stamp t ≡ true = le-leb _ _ h in rw is (rows_of_to t list))
    (cases_lt t stamp)

rows_of_past : (t : ℕ) (list : List Item) → rows_of (past t list) ≡ rows_past t (rows_of list)
rows_of_past t [] = refl
rows_of_past t (items.Row stamp tuple ∷ list) = ⊎_elim
    (λ h. let is : nat_lt t stamp ≡ true = lt-ltb _ _ h in
    rw is (ap (λ (l : List Row). record { stamp = stamp; tuple = tuple } ∷ l)
    (rows_of_past t list)))
    (λ h. let is : nat_lt t stamp ≡ false = le-ltb _ _ h in rw is (rows_of_past t list))
    (cases_lt t stamp)
rows_of_past t (items.Beat stamp ∷ list) = ⊎_elim
    (λ h. let is : nat_lt t stamp ≡ true = lt-ltb _ _ h in rw is (rows_of_past t list))
    (λ h. let is : nat_lt t stamp ≡ false = le-ltb _ _ h in rw is (rows_of_past t list))
    (cases_lt t stamp)

rows_of_placed : (x : Item) (list : List Item)
    → rows_of (placed_item x list) ≡ placed_rows x (rows_of list)
rows_of_placed x list =
    let t : ℕ = stamp_in x in
    rows_of-append (up_to t list) (x ∷ past t list)
    ∙ ap (λ (l : List Row). l ++ rows_of (x ∷ past t list)) (rows_of_to t list)
    ∙ ap (λ (l : List Row). rows_to t (rows_of list) ++ l) (rows_of-append (x ∷ []) (past t list))
    ∙ ap (λ (l : List Row). rows_to t (rows_of list) ++ (row_in x ++ l)) (rows_of_past t list)

-- rows that rise part at an instant
none_to : (t from : ℕ) (rows : List Row) → t < from → RowsFrom from rows → rows_to t rows ≡ []
none_to t from [] h up = refl
none_to t from (r ∷ rows) h up =
    let above : t < r.stamp = omega (arith, h, up.0) in
    let is : nat_le r.stamp t ≡ false = lt-leb _ _ above in
    rw is (none_to t r.stamp rows above up.2)

rows_parted : (low t : ℕ) (rows : List Row) → RowsFrom low rows
    → rows_to t rows ++ rows_past t rows ≡ rows
rows_parted low t [] up = refl
rows_parted low t (r ∷ rows) up =
    let rest = rows_parted r.stamp t rows up.2 in ⊎_elim
    (λ h.
    let is : nat_le r.stamp t ≡ false = lt-leb _ _ h in
    let too : nat_lt t r.stamp ≡ true = lt-ltb _ _ h in
    let empty : rows_to t rows ≡ [] = none_to t r.stamp rows h up.2 in
    let all : rows_past t rows ≡ rows =
    ap (λ (l : List Row). l ++ rows_past t rows) (sym empty) ∙ rest in
    rw (is, too) (ap (λ (l : List Row). l ++ r ∷ rows_past t rows) empty
    ∙ ap (λ (l : List Row). r ∷ l) all))
    (λ h.
    let is : nat_le r.stamp t ≡ true = le-leb _ _ h in
    let too : nat_lt t r.stamp ≡ false = le-ltb _ _ h in
    rw (is, too) (ap (λ (l : List Row). r ∷ l) rest))
    (cases_lt t r.stamp)

-- rows that lie no higher
to_all : (high t : ℕ) (rows : List Row) → RowsUpTo high rows → high ≤ t → rows_to t rows ≡ rows
to_all high t [] up h = refl
to_all high t (r ∷ rows) up h =
    let is : nat_le r.stamp t ≡ true = le-leb _ _ (omega (arith, h, up.0)) in
    rw is (ap (λ (l : List Row). r ∷ l) (to_all high t rows up.1 h))

past_none : (high t : ℕ) (rows : List Row) → RowsUpTo high rows → high ≤ t → rows_past t rows ≡ []
past_none high t [] up h = refl
past_none high t (r ∷ rows) up h =
    let is : nat_lt t r.stamp ≡ false = le-ltb _ _ (omega (arith, h, up.0)) in
    rw is (past_none high t rows up.1 h)

higher : (low high : ℕ) (rows : List Row) → low ≤ high → RowsUpTo low rows → RowsUpTo high rows
higher low high [] h up = tt
higher low high (r ∷ rows) h up = (omega (arith, h, up.0), higher low high rows h up.1)

up_to_append : (high : ℕ) (rows more : List Row) → RowsUpTo high rows → RowsUpTo high more
    → RowsUpTo high (rows ++ more)
up_to_append high [] more a b = b
up_to_append high (r ∷ rows) more a b = (a.0, up_to_append high rows more a.1 b)

to_lies : (t : ℕ) (rows : List Row) → RowsUpTo t (rows_to t rows)
to_lies t [] = tt
to_lies t (r ∷ rows) = ⊎_elim
    (λ h. let is : nat_le r.stamp t ≡ false = lt-leb _ _ h in rw is (to_lies t rows))
    (λ h. let is : nat_le r.stamp t ≡ true = le-leb _ _ h in rw is (h, to_lies t rows))
    (cases_lt t r.stamp)

-- a row is placed after all that lie no higher
placed_after : (x : Item) (high : ℕ) (done rows : List Row) → RowsUpTo high done
    → high ≤ stamp_in x → placed_rows x (done ++ rows) ≡ done ++ placed_rows x rows
placed_after x high done rows up h =
    let t : ℕ = stamp_in x in
    let low : rows_to t (done ++ rows) ≡ done ++ rows_to t rows =
    filter-append (λ (r : Row). nat_le r.stamp t) done rows
    ∙ ap (λ (l : List Row). l ++ rows_to t rows) (to_all high t done up h) in
    let past : rows_past t (done ++ rows) ≡ rows_past t rows =
    filter-append (λ (r : Row). nat_lt t r.stamp) done rows
    ∙ ap (λ (l : List Row). l ++ rows_past t rows) (past_none high t done up h) in
    ap (λ (l : List Row). l ++ (row_in x ++ rows_past t (done ++ rows))) low
    ∙ ap (λ (l : List Row). (done ++ rows_to t rows) ++ (row_in x ++ l)) past
    ∙ append_assoc done (rows_to t rows) (row_in x ++ rows_past t rows)

-- a heartbeat adds no row
with_one : (low : ℕ) (x : Item) (list : List Item) → RowsFrom low (rows_of list)
    → placed_rows x (rows_of list) ≡ rows_of (rows_with x list)
with_one low (items.Row stamp tuple) list up = sym (rows_of_placed (items.Row stamp tuple) list)
with_one low (items.Beat stamp) list up = rows_parted low stamp (rows_of list) up

parted : (low t : ℕ) (list : List Item) → RowsFrom low (rows_of list)
    → rows_of list ≡ rows_of (up_to t list) ++ rows_of (past t list)
parted low t list up =
    sym (ap (λ (l : List Row). l ++ rows_of (past t list)) (rows_of_to t list)
    ∙ ap (λ (l : List Row). rows_to t (rows_of list) ++ l) (rows_of_past t list)
    ∙ rows_parted low t (rows_of list) up)

-- The arrivals in order have the rows that are released, and then those that are not.
all_rows : (slack : ℕ) (held : Arrived) (arrivals list : List Item) (done : List Row)
    → Orderly slack held → ArriveAfter slack held arrivals → RowsUpTo (held_floor slack held) done
    → rows_of list ≡ done ++ rows_of held.rows
    → rows_of (ordered_after list arrivals)
    ≡ done ++ rows_of (released_from slack held arrivals ++ (held_after slack held arrivals).rows)
all_rows slack held [] list done o come up is = is
all_rows slack held (x ∷ arrivals) list done o come up is =
    let now : Arrived = after_arrival x held in
    let floor : ℕ = held_floor slack now in
    let next : Arrived = rest_of slack now in
    let from : ℕ = held_floor slack held in
    let rise = floor-rises slack x held in
    let at : from ≤ stamp_in x = omega (arith, come.0, same-stamp x) in
    let held_rise : RowsFrom from (rows_of held.rows) = rows_rise from held.rows o.rows in
    let now_rise : RowsFrom from (rows_of now.rows) =
    rows_rise from now.rows (rows-rise from x held.rows o.rows come.0 come.1) in
    let due : List Row = rows_of (up_to floor now.rows) in
    let placed : rows_of (placed_item x list) ≡ done ++ rows_of now.rows =
    rows_of_placed x list ∙ ap (λ (l : List Row). placed_rows x l) is
    ∙ placed_after x from done (rows_of held.rows) up at
    ∙ ap (λ (l : List Row). done ++ l) (with_one from x held.rows held_rise) in
    let split : rows_of (placed_item x list) ≡ (done ++ due) ++ rows_of next.rows =
    placed ∙ ap (λ (l : List Row). done ++ l) (parted from floor now.rows now_rise)
    ∙ sym (append_assoc done due (rows_of next.rows)) in
    let lies : RowsUpTo floor due =
    subst (λ (l : List Row). RowsUpTo floor l) (sym (rows_of_to floor now.rows))
    (to_lies floor (rows_of now.rows)) in
    let below : RowsUpTo floor (done ++ due) =
    up_to_append floor done due (higher from floor done rise up) lies in
    let later : List Item = released_from slack next arrivals in
    let left : List Item = (held_after slack next arrivals).rows in
    let rest = all_rows slack next arrivals (placed_item x list) (done ++ due)
    (orderly-more slack x held o come.0 come.1) come.2 below split in
    let lists : (due_of slack now ++ later) ++ left
    ≡ up_to floor now.rows ++ items.Beat floor ∷ (later ++ left) =
    append_assoc (due_of slack now) later left
    ∙ append_assoc (up_to floor now.rows) (items.Beat floor ∷ []) (later ++ left) in
    let front : rows_of ((due_of slack now ++ later) ++ left) ≡ due ++ rows_of (later ++ left) =
    ap rows_of lists
    ∙ rows_of-append (up_to floor now.rows) (items.Beat floor ∷ (later ++ left)) in
    rest ∙ append_assoc done due (rows_of (later ++ left))
    ∙ sym (ap (λ (l : List Row). done ++ l) front)

completed_rows : (slack : ℕ) (arrivals : List Item) → Arrive slack arrivals
    → rows_of (in_order arrivals) ≡ rows_of (completed slack arrivals)
completed_rows slack arrivals come =
    all_rows slack none_arrived arrivals [] [] (orderly-none slack) come tt refl

-- ---- the laws
pub rows_in_order : OfArrivals AreRowsInOrder
rows_in_order slack kind arrivals window come =
    let law : SpansAreRows kind (completed slack arrivals) =
    spans_law kind (completed slack arrivals) window (completed-rises slack arrivals come) in record {
      spans_are = law;
      rows = λ t h. law.rows t h ∙ sym (ap (λ (l : List Row). map (λ (r : Row). r.tuple)
          (valid_rows kind l t)) (completed_rows slack arrivals come));
    }

pub heartbeat : OfArrivals IsArrivalBeat
heartbeat slack kind arrivals window come =
    let law : IsHeartbeat kind (released slack arrivals) =
    heartbeat_law kind (released slack arrivals) window (released-rises slack arrivals come) in record {
      past = law.past;
      ahead = λ more later.
          let held : Arrived = held_after slack none_arrived arrivals in
          let tail : List Item = released_from slack held more
          ++ (held_after slack none_arrived (arrivals ++ more)).rows in
          let same : completed slack (arrivals ++ more) ≡ released slack arrivals ++ tail =
          completed-more slack arrivals more in
          let rises = subst (λ (l : List Item). RisesFrom 0 l) same
          (completed-rises slack (arrivals ++ more) later) in
          let found = law.ahead tail rises in
          (found.0, ap (λ (l : List Item). spans kind l) same ∙ found.1, found.2);
    }
