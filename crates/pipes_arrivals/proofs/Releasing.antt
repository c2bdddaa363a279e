-- What is released of more arrivals.
use Rattle.std.proofs.Common.{◌≡◌, ℕ, ◌≤◌, ◌<◌, List, [], ◌∷◌, ◌++◌, refl, sym, ap, ◌∙◌}
use Rattle.std.proofs.Common.{append_assoc, append-nil}
use Rattle.pipes_time.specs.Interval.{horizon}
use Rattle.pipes_window.specs.declared.item.Item.{Item}
use Rattle.pipes_window.specs.Items.{item_stamp}
use Rattle.pipes_feed.specs.Released.{Arrived, none_arrived, held_floor, after_arrival, rest_of}
use Rattle.pipes_feed.specs.Released.{due_of, released_from, held_after, released, completed}
use Rattle.pipes_arrivals.specs.Arriving.{ArriveAfter}

released_append : (slack : ℕ) (held : Arrived) (arrivals more : List Item)
    → released_from slack held (arrivals ++ more)
    ≡ released_from slack held arrivals
    ++ released_from slack (held_after slack held arrivals) more
released_append slack held [] more = refl
released_append slack held (x ∷ arrivals) more =
    let now : Arrived = after_arrival x held in
    let next : Arrived = rest_of slack now in
    ap (λ (l : List Item). due_of slack now ++ l) (released_append slack next arrivals more)
    ∙ sym (append_assoc (due_of slack now) (released_from slack next arrivals)
    (released_from slack (held_after slack next arrivals) more))

held_append : (slack : ℕ) (held : Arrived) (arrivals more : List Item)
    → held_after slack held (arrivals ++ more) ≡ held_after slack (held_after slack held arrivals) more
held_append slack held [] more = refl
held_append slack held (x ∷ arrivals) more =
    held_append slack (rest_of slack (after_arrival x held)) arrivals more

-- one arrival more
pub held-more : (slack : ℕ) (arrivals : List Item) (x : Item)
    → held_after slack none_arrived (arrivals ++ x ∷ [])
    ≡ rest_of slack (after_arrival x (held_after slack none_arrived arrivals))
held-more slack arrivals x = held_append slack none_arrived arrivals (x ∷ [])

pub released-more : (slack : ℕ) (arrivals : List Item) (x : Item)
    → released slack (arrivals ++ x ∷ [])
    ≡ released slack arrivals ++ due_of slack (after_arrival x (held_after slack none_arrived arrivals))
released-more slack arrivals x =
    released_append slack none_arrived arrivals (x ∷ [])
    ∙ ap (λ (l : List Item). released slack arrivals ++ l)
    (append-nil (due_of slack (after_arrival x (held_after slack none_arrived arrivals))))

arrive_more : (slack : ℕ) (held : Arrived) (arrivals : List Item) (x : Item)
    → ArriveAfter slack held arrivals
    → held_floor slack (held_after slack held arrivals) ≤ item_stamp x → item_stamp x < horizon
    → ArriveAfter slack held (arrivals ++ x ∷ [])
arrive_more slack held [] x come h below = (h, below, tt)
arrive_more slack held (a ∷ arrivals) x come h below = (
  come.0,
  come.1,
  arrive_more slack (rest_of slack (after_arrival a held)) arrivals x come.2 h
      below,
)

pub arrives-more : (slack : ℕ) (arrivals : List Item) (x : Item)
    → ArriveAfter slack none_arrived arrivals
    → held_floor slack (held_after slack none_arrived arrivals) ≤ item_stamp x
    → item_stamp x < horizon
    → ArriveAfter slack none_arrived (arrivals ++ x ∷ [])
arrives-more slack arrivals x come h below = arrive_more slack none_arrived arrivals x come h below

-- what is released of the first arrivals comes first
pub completed-more : (slack : ℕ) (arrivals more : List Item)
    → completed slack (arrivals ++ more)
    ≡ released slack arrivals
    ++ (released_from slack (held_after slack none_arrived arrivals) more
    ++ (held_after slack none_arrived (arrivals ++ more)).rows)
completed-more slack arrivals more =
    let held : Arrived = held_after slack none_arrived arrivals in
    ap (λ (l : List Item). l ++ (held_after slack none_arrived (arrivals ++ more)).rows)
    (released_append slack none_arrived arrivals more)
    ∙ append_assoc (released slack arrivals) (released_from slack held more)
    (held_after slack none_arrived (arrivals ++ more)).rows
