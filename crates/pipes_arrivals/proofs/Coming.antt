-- One more arrival, and the end.
use Rattle.std.proofs.Common.{◌≡◌, ℕ, ◌-◌, ◌≤◌, ◌<◌, max, List, [], ◌∷◌, ◌++◌, Bool, false, refl}
use Rattle.std.proofs.Common.{nat_lt, sym, ap, ◌∙◌, subst, arith, append_assoc}
use Rattle.std.proofs.lemmas.Bool.{le-ltb}
use Rattle.pipes_time.specs.Interval.{horizon}
use Rattle.pipes_stream.specs.declared.Elem.{Elem}
use Rattle.pipes_window.specs.declared.item.Item.{Item}
use Rattle.pipes_window.specs.declared.item.Item.TheVariants.{Row, Beat}
use Rattle.pipes_window.specs.Items.{item_stamp, RisesFrom}
use Rattle.pipes_window.specs.Windows.{known, spans}
use Rattle.pipes_window.specs.declared.kind.WindowKind.{WindowKind}
use Rattle.pipes_window.specs.State.{State, WindowHasTaken, WindowFinishes}
use Rattle.pipes_feed.specs.Reached.{newest_after, beat_after}
use Rattle.pipes_feed.specs.Waiting.{past}
use Rattle.pipes_feed.specs.Released.{Arrived, none_arrived, held_floor, rows_with, after_arrival}
use Rattle.pipes_feed.specs.Released.{rest_of, due_of, held_after, released, unreleased, completed}
use Rattle.pipes_arrivals.specs.Arriving.{Arriving, HasArrived}
use Rattle.pipes_arrivals.specs.Taking.{ArrivalsTake, ArrivalsFinish, WaitsPast, Passes}
use Rattle.pipes_arrivals.proofs.Rising.{Orderly, orderly-more, rises-lower}
use Rattle.pipes_arrivals.proofs.Releasing.{held-more, released-more, arrives-more}

-- what waits rises from where the window has come to
pub waits-rise : (slack : ℕ) (held : Arrived) (last : ℕ) → WaitsPast slack held last
    → RisesFrom last held.rows
waits-rise slack held last w = rises-lower last (held_floor slack held) held.rows w.last_taken w.rows

-- what is held, by its parts
pub held-is : (slack newest beat floor : ℕ) (now : List Item) (x : Item) (held : Arrived)
    → newest ≡ newest_after held.newest x → beat ≡ beat_after held.beat x
    → floor ≡ max (newest - slack) beat → now ≡ past floor (rows_with x held.rows)
    → record { newest = newest; beat = beat; rows = now } ≡ rest_of slack (after_arrival x held)
held-is slack newest beat floor now x held n b f rows =
    let at : floor ≡ held_floor slack (after_arrival x held) =
    f ∙ ap (λ (m : ℕ). max (m - slack) beat) n
    ∙ ap (λ (m : ℕ). max (newest_after held.newest x - slack) m) b in
    let left : now ≡ past (held_floor slack (after_arrival x held)) (rows_with x held.rows) =
    rows ∙ ap (λ (m : ℕ). past m (rows_with x held.rows)) at in
    λ i. record { newest = n i; beat = b i; rows = left i }

pub floor_is : (slack newest beat floor : ℕ) (x : Item) (held : Arrived)
    → newest ≡ newest_after held.newest x → beat ≡ beat_after held.beat x
    → floor ≡ max (newest - slack) beat → floor ≡ held_floor slack (after_arrival x held)
floor_is slack newest beat floor x held n b f =
    f ∙ ap (λ (m : ℕ). max (m - slack) beat) n
    ∙ ap (λ (m : ℕ). max (newest_after held.newest x - slack) m) b

-- without slack no row waits
none_waits : (slack : ℕ) (x : Item) (held : Arrived) → slack ≡ 0 → held.rows ≡ []
    → (rest_of slack (after_arrival x held)).rows ≡ []
none_waits slack (Row stamp tuple) held zero none =
    let floor : ℕ = held_floor slack (after_arrival (Row stamp tuple) held) in
    let under : stamp ≤ floor = omega (arith, zero) in
    let is : nat_lt floor stamp ≡ false = le-ltb _ _ under in
    ap (λ (l : List Item). past floor (rows_with (Row stamp tuple) l)) none ∙ rw is refl
none_waits slack (Beat stamp) held zero none =
    ap (λ (l : List Item). past (held_floor slack (after_arrival (Beat stamp) held)) l) none

pub waits-more : (slack : ℕ) (x : Item) (held now : Arrived) (last last' : ℕ)
    → WaitsPast slack held last → held_floor slack held ≤ item_stamp x → item_stamp x < horizon
    → now ≡ rest_of slack (after_arrival x held) → last' ≡ held_floor slack (after_arrival x held)
    → WaitsPast slack now last'
waits-more slack x held now last last' w h below is at =
    let o : Orderly slack held = record { newest = w.newest; beat = w.beat; rows = w.rows } in
    let next = orderly-more slack x held o h below in
    let all : WaitsPast slack (rest_of slack (after_arrival x held)) last' = record {
      newest = next.newest;
      beat = next.beat;
      last_taken = omega (arith, at);
      rows = next.rows;
      none = λ zero. none_waits slack x held zero (w.none zero);
    } in
    subst (λ (a : Arrived). WaitsPast slack a last') (sym is) all

abbrev arriving : ℕ → Arrived → State → Bool → Arriving
arriving slack held w failed = record { slack = slack; held = held; window = w; failed = failed }

pub take-arrival : (slack : ℕ) (x : Item) (held now : Arrived) (w w' : State) (failed : Bool)
    (before after : List Elem) → failed ≡ false → w'.kind ≡ w.kind → w'.ended ≡ w.ended
    → held_floor slack held ≤ item_stamp x → item_stamp x < horizon
    → now ≡ rest_of slack (after_arrival x held)
    → Passes (due_of slack (after_arrival x held)) w w' before after
    → ArrivalsTake (arriving slack held w failed) (arriving slack now w' failed) x before after
take-arrival slack x held now w w' failed before after unfailed kind ended h below is p = record {
  slack = refl;
  kind = kind;
  ended = ended;
  failed = unfailed;
  held = is;
  taken = λ arrivals a.
      let here : held ≡ held_after slack none_arrived arrivals = a.held in
      let floor : held_floor slack (held_after slack none_arrived arrivals) ≤ item_stamp x =
      subst (λ (k : Arrived). held_floor slack k ≤ item_stamp x) here h in record {
        come = arrives-more slack arrivals x a.come floor below;
        held = is ∙ ap (λ (k : Arrived). rest_of slack (after_arrival x k)) here
            ∙ sym (held-more slack arrivals x);
        window = subst (λ (l : List Item). WindowHasTaken l w') (sym (more arrivals here))
            (p.taken (released slack arrivals) a.window);
        goes_on = ended ∙ a.goes_on;
      };
  sent = (
    p.sent.0,
    p.sent.1,
    λ arrivals a.
        ap (λ (l : List Item). known w.kind l) (more arrivals a.held)
        ∙ p.sent.2 (released slack arrivals) a.window,
  );
}
  where
    more : (arrivals : List Item) → held ≡ held_after slack none_arrived arrivals
        → released slack (arrivals ++ x ∷ [])
        ≡ released slack arrivals ++ due_of slack (after_arrival x held)
    more arrivals here = released-more slack arrivals x
        ∙ ap (λ (k : Arrived). released slack arrivals ++ due_of slack (after_arrival x k)) (sym here)

pub finish-arrivals : (slack : ℕ) (held now : Arrived) (w mid w' : State) (failed : Bool)
    (before between after : List Elem) → failed ≡ false → mid.kind ≡ w.kind
    → Passes held.rows w mid before between → WindowFinishes mid w' between after
    → ArrivalsFinish (arriving slack held w failed) (arriving slack now w' failed) before after
finish-arrivals slack held now w mid w' failed before between after unfailed kind p f = record {
  slack = refl;
  kind = f.kind ∙ kind;
  ended = f.ended;
  failed = unfailed;
  taken = λ arrivals a. record {
    come = a.come;
    window = f.taken (completed slack arrivals) (all arrivals a);
    ended = f.ended;
  };
  sent = (
    p.sent.0 ++ f.sent.0,
    f.sent.1 ∙ ap (λ (l : List Elem). l ++ f.sent.0) p.sent.1
        ∙ append_assoc before p.sent.0 f.sent.0,
    λ arrivals a.
        let rest : spans mid.kind (completed slack arrivals)
        ≡ known mid.kind (completed slack arrivals) ++ f.sent.0 =
        (f.sent.2 (completed slack arrivals) (all arrivals a)).all in
        let whole : spans w.kind (completed slack arrivals)
        ≡ known w.kind (completed slack arrivals) ++ f.sent.0 =
        subst (λ (k : WindowKind). spans k (completed slack arrivals)
        ≡ known k (completed slack arrivals) ++ f.sent.0) kind rest in
        let first : known w.kind (completed slack arrivals)
        ≡ known w.kind (released slack arrivals) ++ p.sent.0 =
        ap (λ (l : List Item). known w.kind (released slack arrivals ++ l)) (rows arrivals a)
        ∙ p.sent.2 (released slack arrivals) a.window in
        whole ∙ ap (λ (l : List Elem). l ++ f.sent.0) first
        ∙ append_assoc (known w.kind (released slack arrivals)) p.sent.0 f.sent.0,
  );
}
  where
    rows : (arrivals : List Item) → HasArrived arrivals (arriving slack held w failed)
        → unreleased slack arrivals ≡ held.rows
    rows arrivals a = ap (λ (k : Arrived). k.rows) (sym a.held)

    all : (arrivals : List Item) → HasArrived arrivals (arriving slack held w failed)
        → WindowHasTaken (completed slack arrivals) mid
    all arrivals a = subst (λ (l : List Item). WindowHasTaken (released slack arrivals ++ l) mid)
        (ap (λ (k : Arrived). k.rows) a.held) (p.taken (released slack arrivals) a.window)
