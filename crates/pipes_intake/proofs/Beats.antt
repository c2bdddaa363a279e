-- The heartbeat of a window never falls, and lies below the horizon or at it.
use Rattle.std.proofs.Common.{ℕ, zero, suc, ◌-◌, ◌≤◌, ◌<◌, List, [], ◌∷◌, ◌++◌, length, drop}
use Rattle.std.proofs.Common.{false, sym, subst, arith, slice_get}
use Rattle.std.proofs.Common.{append_assoc}
use Rattle.std.specs.Option.{option_map_or}
use Rattle.std.proofs.lemmas.List.{append-nil}
use Rattle.pipes_time.specs.Interval.{horizon}
use Rattle.pipes_window.specs.declared.item.Item.{Item}
use Rattle.pipes_window.specs.declared.item.Item.TheVariants as items
use Rattle.pipes_window.specs.declared.kind.WindowKind.{WindowKind}
use Rattle.pipes_window.specs.declared.kind.WindowKind.TheVariants.{Time, Slide, Count}
use Rattle.pipes_window.specs.declared.row.Row.{Row}
use Rattle.pipes_window.specs.Items.{StampsRise, RisesFrom, rows_of, last_stamp}
use Rattle.pipes_window.specs.Windows.{IsWindow, window_beat}
use Rattle.pipes_window.proofs.Heartbeats.{item_law}

rises-front : (low : ℕ) (xs ys : List Item) → RisesFrom low (xs ++ ys) → RisesFrom low xs
rises-front low [] ys up = tt
rises-front low (x ∷ xs) ys up = (up.0, up.1, rises-front _ xs ys up.2)

-- more items never lower it
pub beat-rises : (kind : WindowKind) (xs ys : List Item) → IsWindow kind → StampsRise (xs ++ ys)
    → window_beat kind xs false ≤ window_beat kind (xs ++ ys) false
beat-rises kind xs [] limits up =
    let e = append-nil xs in
    subst (λ (l : List Item). window_beat kind xs false ≤ window_beat kind l false) (sym e)
    (omega arith)
beat-rises kind xs (y ∷ ys) limits up =
    let e = append_assoc xs (y ∷ []) ys in
    let up' : StampsRise ((xs ++ y ∷ []) ++ ys) = subst (λ (l : List Item). StampsRise l) (sym e)
    up in
    let one = (item_law kind xs y limits (rises-front 0 (xs ++ y ∷ []) ys up')).rises in
    let more = beat-rises kind (xs ++ y ∷ []) ys limits up' in
    subst (λ (l : List Item). window_beat kind xs false ≤ window_beat kind l false) e
    (omega (arith, one, more))

last-below : (low : ℕ) (xs : List Item) → RisesFrom low xs → last_stamp xs < horizon
last-below low [] up = omega arith
last-below low (x ∷ xs) up = let rest = last-below _ xs up.2 in omega (arith, up.1, rest)

first : List Row → ℕ → ℕ
first rows s = option_map_or (λ r. r.stamp) (slice_get rows 0) s

first-below : (low s k : ℕ) (xs : List Item) → RisesFrom low xs → s < horizon
    → first (drop k (rows_of xs)) s < horizon
unfolding first
first-below low s zero [] up h = h
first-below low s (suc k) [] up h = h
first-below low s zero (items.Row stamp tuple ∷ xs) up h = up.1
first-below low s (suc k) (items.Row stamp tuple ∷ xs) up h = first-below stamp s k xs up.2 h
first-below low s k (items.Beat stamp ∷ xs) up h = first-below stamp s k xs up.2 h

-- it is no instant past the horizon
pub beat-below : (kind : WindowKind) (xs : List Item) → StampsRise xs
    → window_beat kind xs false ≤ horizon
unfolding first
beat-below (Time size) xs up = let l = last-below 0 xs up in omega (arith, l)
beat-below (Slide size slide) xs up = omega arith
beat-below (Count n) xs up =
    let rows = rows_of xs in
    let l = first-below 0 (last_stamp xs) (length rows - n) xs up (last-below 0 xs up) in
    omega (arith, l)
