-- Arrivals in the order of their stamps.
use Rattle.std.proofs.Common.{◌≡◌, ℕ, ◌≤◌, ◌<◌, List, [], ◌∷◌, ◌++◌, true, false, nat_le}
use Rattle.std.proofs.Common.{nat_lt, refl, sym, ◌∙◌, subst, arith, append_assoc}
use Rattle.std.proofs.Common.{⊎_elim, inl, inr}
use Rattle.std.specs.Prelude.{◌⊎◌}
use Rattle.std.proofs.lemmas.Bool.{cases_lt, le-leb, lt-ltb, le-ltb, lt-leb}
use Rattle.pipes_time.specs.Interval.{horizon}
use Rattle.pipes_window.specs.declared.item.Item.{Item}
use Rattle.pipes_window.specs.declared.item.Item.TheVariants.{Row, Beat}
use Rattle.pipes_window.specs.Items.{item_stamp, RisesFrom, StampsRise}
use Rattle.pipes_feed.specs.Items.{stamp_in, placed_item}
use Rattle.pipes_feed.specs.Waiting.{up_to, past}
use Rattle.pipes_feed.specs.Released.{Arrived, none_arrived, held_floor, rows_with, after_arrival}
use Rattle.pipes_feed.specs.Released.{rest_of, due_of, released_from, held_after, completed}
use Rattle.pipes_arrivals.specs.Arriving.{ArriveAfter, Arrive}

pub same-stamp : (i : Item) → stamp_in i ≡ item_stamp i
same-stamp (Row stamp tuple) = refl
same-stamp (Beat stamp) = refl

pub rises-lower : (low high : ℕ) (items : List Item) → low ≤ high → RisesFrom high items
    → RisesFrom low items
rises-lower low high [] h up = tt
rises-lower low high (i ∷ items) h up = (omega (arith, h, up.0), up.1, up.2)

-- those up to the item, the item, and what rises from it
pub up_to-rises : (low t : ℕ) (items : List Item) (x : Item) (rest : List Item)
    → RisesFrom low items → item_stamp x ≡ t → low ≤ t → t < horizon → RisesFrom t rest
    → RisesFrom low (up_to t items ++ x ∷ rest)
up_to-rises low t [] x rest up at h below after = (
  omega (arith, at, h),
  omega (arith, at, below),
  subst (λ (n : ℕ). RisesFrom n rest) (sym at) after,
)
up_to-rises low t (i ∷ items) x rest up at h below after = ⊎_elim
    (λ above.
    let is : nat_le (stamp_in i) t ≡ false = lt-leb _ _ above in
    rw is (up_to-rises low t items x rest (rises-lower low (item_stamp i) items up.0 up.2) at h
    below after))
    (λ under.
    let is : nat_le (stamp_in i) t ≡ true = le-leb _ _ under in
    let to : item_stamp i ≤ t = omega (arith, same-stamp i, under) in
    rw is (up.0, up.1, up_to-rises (item_stamp i) t items x rest up.2 at to below after))
    (cases_lt t (stamp_in i))

-- those past an instant
pub past-rises : (low t from : ℕ) (items : List Item) → RisesFrom low items
    → (from ≤ low) ⊎ (from ≤ t) → RisesFrom from (past t items)
past-rises low t from [] up h = tt
past-rises low t from (i ∷ items) up h = ⊎_elim
    (λ over.
    let is : nat_lt t (stamp_in i) ≡ true = lt-ltb _ _ over in
    let above : from ≤ item_stamp i = ⊎_elim (λ a. omega (arith, a, up.0))
    (λ b. omega (arith, b, over, same-stamp i)) h in
    rw is (
      above,
      up.1,
      past-rises (item_stamp i) t (item_stamp i) items up.2
          (inl (omega arith)),
    ))
    (λ under.
    let is : nat_lt t (stamp_in i) ≡ false = le-ltb _ _ under in
    rw is (past-rises (item_stamp i) t from items up.2
    (⊎_elim (λ a. inl (omega (arith, a, up.0))) (λ b. inr b) h)))
    (cases_lt t (stamp_in i))

-- an item among them
pub placed-rises : (low : ℕ) (x : Item) (items : List Item) → RisesFrom low items
    → low ≤ item_stamp x → item_stamp x < horizon → RisesFrom low (placed_item x items)
placed-rises low x items up h below =
    let at : item_stamp x ≡ stamp_in x = sym (same-stamp x) in
    let from : low ≤ stamp_in x = omega (arith, at, h) in
    let under : stamp_in x < horizon = omega (arith, at, below) in
    up_to-rises low (stamp_in x) items x (past (stamp_in x) items) up at from under
    (past-rises low (stamp_in x) (stamp_in x) items up (inr (omega arith)))

pub rows-rise : (low : ℕ) (x : Item) (items : List Item) → RisesFrom low items
    → low ≤ item_stamp x → item_stamp x < horizon → RisesFrom low (rows_with x items)
rows-rise low (Row stamp tuple) items up h below = placed-rises low (Row stamp tuple) items up h below
rows-rise low (Beat stamp) items up h below = up

-- ---- the floor
-- the greatest stamps lie below the horizon, and what waits rises from the floor on
pub record Orderly (slack : ℕ) (held : Arrived) : Type 0 where
  pub newest : held.newest < horizon
  pub beat : held.beat < horizon
  pub rows : RisesFrom (held_floor slack held) held.rows

pub floor-rises : (slack : ℕ) (x : Item) (held : Arrived)
    → held_floor slack held ≤ held_floor slack (after_arrival x held)
floor-rises slack (Row stamp tuple) held = omega arith
floor-rises slack (Beat stamp) held = omega arith

pub floor-below : (slack : ℕ) (x : Item) (held : Arrived) → held.newest < horizon
    → held.beat < horizon → item_stamp x < horizon
    → ((after_arrival x held).newest < horizon) × ((after_arrival x held).beat < horizon)
floor-below slack (Row stamp tuple) held newest beat below = (omega arith, omega arith)
floor-below slack (Beat stamp) held newest beat below = (omega arith, omega arith)

pub orderly-more : (slack : ℕ) (x : Item) (held : Arrived) → Orderly slack held
    → held_floor slack held ≤ item_stamp x → item_stamp x < horizon
    → Orderly slack (rest_of slack (after_arrival x held))
orderly-more slack x held o h below =
    let stamps = floor-below slack x held o.newest o.beat below in
    let floor : ℕ = held_floor slack (after_arrival x held) in record {
      newest = stamps.0;
      beat = stamps.1;
      rows = past-rises (held_floor slack held) floor floor (rows_with x held.rows)
          (rows-rise (held_floor slack held) x held.rows o.rows h below) (inr (omega arith));
    }

-- what is released, and then what is not, rises from the floor on
released_rise : (slack : ℕ) (held : Arrived) (arrivals : List Item) → Orderly slack held
    → ArriveAfter slack held arrivals
    → RisesFrom (held_floor slack held)
    (released_from slack held arrivals ++ (held_after slack held arrivals).rows)
released_rise slack held [] o come = o.rows
released_rise slack held (x ∷ arrivals) o come =
    let now : Arrived = after_arrival x held in
    let floor : ℕ = held_floor slack now in
    let next : Arrived = rest_of slack now in
    let up = floor-rises slack x held in
    let stamps = floor-below slack x held o.newest o.beat come.1 in
    let below : floor < horizon = omega (arith, stamps.0, stamps.1) in
    let rest : List Item = released_from slack next arrivals
    ++ (held_after slack next arrivals).rows in
    let after : RisesFrom floor rest = released_rise slack next arrivals
    (orderly-more slack x held o come.0 come.1) come.2 in
    let all : RisesFrom (held_floor slack held) (up_to floor now.rows ++ Beat floor ∷ rest) =
    up_to-rises (held_floor slack held) floor now.rows (Beat floor) rest
    (rows-rise (held_floor slack held) x held.rows o.rows come.0 come.1) refl up below after in
    let same : (due_of slack now ++ released_from slack next arrivals)
    ++ (held_after slack next arrivals).rows ≡ up_to floor now.rows ++ Beat floor ∷ rest =
    append_assoc (due_of slack now) (released_from slack next arrivals)
    (held_after slack next arrivals).rows
    ∙ append_assoc (up_to floor now.rows) (Beat floor ∷ []) rest in
    subst (λ (l : List Item). RisesFrom (held_floor slack held) l) (sym same) all

pub orderly-none : (slack : ℕ) → Orderly slack none_arrived
orderly-none slack = record { newest = omega arith; beat = omega arith; rows = tt }

pub completed-rises : (slack : ℕ) (arrivals : List Item) → Arrive slack arrivals
    → StampsRise (completed slack arrivals)
completed-rises slack arrivals come =
    rises-lower 0 (held_floor slack none_arrived) (completed slack arrivals) (omega arith)
    (released_rise slack none_arrived arrivals (orderly-none slack) come)

-- what is released alone
rises_front : (low : ℕ) (items more : List Item) → RisesFrom low (items ++ more)
    → RisesFrom low items
rises_front low [] more up = tt
rises_front low (i ∷ items) more up = (up.0, up.1, rises_front (item_stamp i) items more up.2)

pub released-rises : (slack : ℕ) (arrivals : List Item) → Arrive slack arrivals
    → StampsRise (released_from slack none_arrived arrivals)
released-rises slack arrivals come =
    rises_front 0 (released_from slack none_arrived arrivals)
    (held_after slack none_arrived arrivals).rows (completed-rises slack arrivals come)
