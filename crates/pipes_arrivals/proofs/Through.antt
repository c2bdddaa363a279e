-- Items that the window took, one after another.
use Rattle.std.proofs.Common.{◌≡◌, ℕ, ◌≤◌, ◌<◌, List, [], ◌∷◌, ◌++◌, refl, sym, ap, ◌∙◌, subst}
use Rattle.std.proofs.Common.{append_assoc, append-nil, Result, Ok, Err, OnOk}
use Rattle.std.proofs.lemmas.List.Elements.{All-nil, All-push}
use Rattle.pipes_time.specs.declared.memory.Memory.{Memory}
use Rattle.pipes_stream.specs.declared.Elem.{Elem}
use Rattle.pipes_window.specs.declared.item.Item.{Item}
use Rattle.pipes_window.specs.Windows.{known}
use Rattle.pipes_window.specs.State.{State, WindowHasTaken, WindowTakes}
use Rattle.pipes_feed.specs.Items.{stamp_in, placed_item}
use Rattle.pipes_feed.specs.Waiting.{up_to, past}
use Rattle.pipes_time.specs.Interval.{horizon}
use Rattle.pipes_window.specs.Items.{item_stamp, RisesFrom}
use Rattle.pipes_arrivals.proofs.Rising.{placed-rises}
use Rattle.pipes_arrivals.specs.Taking.{Passes}
use Rattle.pipes_arrivals.proofs.Parting.{AllUpTo, AllPast, up_to-parted, past-parted}
use Rattle.pipes_window.specs.declared.kind.WindowKind.{WindowKind}

pub passes-none : (w : State) (out : List Elem) → Passes [] w w out out
passes-none w out = record {
  failed = refl;
  taken = λ items h. subst (λ (l : List Item). WindowHasTaken l w) (sym (append-nil items)) h;
  sent = (
    [],
    sym (append-nil out),
    λ items h. ap (λ (l : List Item). known w.kind l)
        (append-nil items) ∙ sym (append-nil (known w.kind items)),
  );
}

pub passes-one : (old new : State) (item : Item) (before after : List Elem)
    → WindowTakes old new item before after → Passes (item ∷ []) old new before after
passes-one old new item before after t = record {
  failed = t.failed;
  taken = t.taken;
  sent = (t.sent.0, t.sent.1, λ items h. (t.sent.2 items h).all);
}

nothing : (more : List Elem) → [] ≡ [] ++ more → more ≡ []
nothing more is = sym is

-- a heartbeat appends nothing
pub passes-beat : (old new : State) (item : Item) (out : List Elem)
    → WindowTakes old new item [] [] → Passes (item ∷ []) old new out out
passes-beat old new item out t = record {
  failed = t.failed;
  taken = t.taken;
  sent = (
    [],
    sym (append-nil out),
    λ items h.
        (t.sent.2 items h).all ∙ ap (λ (l : List Elem). known old.kind items ++ l)
        (nothing t.sent.0 t.sent.1),
  );
}

pub passes-on : (a b : List Item) (old mid new : State) (before between after : List Elem)
    → mid.kind ≡ old.kind → Passes a old mid before between → Passes b mid new between after
    → Passes (a ++ b) old new before after
passes-on a b old mid new before between after kind p q = record {
  failed = q.failed ∙ p.failed;
  taken = λ items h. subst (λ (l : List Item). WindowHasTaken l new) (append_assoc items a b)
      (q.taken (items ++ a) (p.taken items h));
  sent = (
    p.sent.0 ++ q.sent.0,
    q.sent.1 ∙ ap (λ (l : List Elem). l ++ q.sent.0) p.sent.1
        ∙ append_assoc before p.sent.0 q.sent.0,
    λ items h.
        let second : known old.kind ((items ++ a) ++ b)
        ≡ known old.kind (items ++ a) ++ q.sent.0 =
        subst (λ (k : WindowKind). known k ((items ++ a) ++ b) ≡ known k (items ++ a) ++ q.sent.0) kind
        (q.sent.2 (items ++ a) (p.taken items h)) in
        ap (λ (l : List Item). known old.kind l) (sym (append_assoc items a b)) ∙ second
        ∙ ap (λ (l : List Elem). l ++ q.sent.0) (p.sent.2 items h)
        ∙ append_assoc (known old.kind items) p.sent.0 q.sent.0,
  );
}

-- with the same items
pub passes-same : (a b : List Item) (old new : State) (before after : List Elem) → a ≡ b
    → Passes a old new before after → Passes b old new before after
passes-same a b old new before after is p =
    subst (λ (l : List Item). Passes l old new before after) is p

-- ---- in a loop: those that left, and those that still wait
pub record Leaving (t : ℕ) (first now : List Item) (old new : State) (before after : List Elem)
    : Type 0 where
  pub moved : List Item
  pub split : first ≡ moved ++ now
  pub low : AllUpTo t moved
  pub passes : Passes moved old new before after

pub record Moving (first now : List Item) (old new : State) (before after : List Elem)
    : Type 0 where
  pub moved : List Item
  pub split : first ≡ moved ++ now
  pub passes : Passes moved old new before after

pub leaving-none : (t : ℕ) (first : List Item) (w : State) (out : List Elem)
    → Leaving t first first w w out out
leaving-none t first w out = record {
  moved = [];
  split = refl;
  low = All-nil (λ (i : Item). stamp_in i ≤ t);
  passes = passes-none w out;
}

pub leaving-more : (t : ℕ) (first now left : List Item) (item : Item) (old mid new : State)
    (before between after : List Elem) → mid.kind ≡ old.kind
    → Leaving t first now old mid before between → now ≡ item ∷ left → stamp_in item ≤ t
    → Passes (item ∷ []) mid new between after → Leaving t first left old new before after
leaving-more t first now left item old mid new before between after kind l is low p = record {
  moved = l.moved ++ item ∷ [];
  split = l.split ∙ ap (λ (i : List Item). l.moved ++ i) is
      ∙ sym (append_assoc l.moved (item ∷ []) left);
  low = All-push (λ (i : Item). stamp_in i ≤ t) l.moved item l.low low;
  passes = passes-on l.moved (item ∷ []) old mid new before between after kind l.passes p;
}

pub left-all : (t : ℕ) (first now : List Item) (old new : State) (before after : List Elem)
    → Leaving t first now old new before after → AllPast t now
    → Passes (up_to t first) old new before after
left-all t first now old new before after l high =
    passes-same l.moved (up_to t first) old new before after
    (sym (ap (λ (i : List Item). up_to t i) l.split ∙ up_to-parted t l.moved now l.low high)) l.passes

pub left-over : (t : ℕ) (first now : List Item) (old new : State) (before after : List Elem)
    → Leaving t first now old new before after → AllPast t now → now ≡ past t first
left-over t first now old new before after l high =
    sym (ap (λ (i : List Item). past t i) l.split ∙ past-parted t l.moved now l.low high)

pub moving-none : (first : List Item) (w : State) (out : List Elem) → Moving first first w w out out
moving-none first w out = record { moved = []; split = refl; passes = passes-none w out }

pub moving-more : (first now left : List Item) (item : Item) (old mid new : State)
    (before between after : List Elem) → mid.kind ≡ old.kind
    → Moving first now old mid before between → now ≡ item ∷ left
    → Passes (item ∷ []) mid new between after → Moving first left old new before after
moving-more first now left item old mid new before between after kind l is p = record {
  moved = l.moved ++ item ∷ [];
  split = l.split ∙ ap (λ (i : List Item). l.moved ++ i) is
      ∙ sym (append_assoc l.moved (item ∷ []) left);
  passes = passes-on l.moved (item ∷ []) old mid new before between after kind l.passes p;
}

pub moved-all : (first now : List Item) (old new : State) (before after : List Elem)
    → Moving first now old new before after → now ≡ [] → Passes first old new before after
moved-all first now old new before after l none =
    passes-same l.moved first old new before after
    (sym (l.split ∙ ap (λ (i : List Item). l.moved ++ i) none ∙ append-nil l.moved)) l.passes

-- the first has gone through
pub rises-next : (last now : ℕ) (items left : List Item) (item : Item) → RisesFrom last items
    → items ≡ item ∷ left → now ≡ item_stamp item → RisesFrom now left
rises-next last now items left item up is at =
    let rest = subst (λ (l : List Item). RisesFrom last l) is up in
    subst (λ (n : ℕ). RisesFrom n left) (sym at) rest.2

-- an item that lies at the window's last or later is put among those that do
pub rises-with : (last : ℕ) (x : Item) (items now : List Item) → RisesFrom last items
    → last ≤ item_stamp x → item_stamp x < horizon → now ≡ placed_item x items
    → RisesFrom last now
rises-with last x items now up h below is =
    subst (λ (l : List Item). RisesFrom last l) (sym is) (placed-rises last x items up h below)

-- one more item, unless memory is wanting
pub passes-then : (r : Result (Unit {0}) Memory) (a b : List Item) (old mid new : State)
    (before between after : List Elem) → mid.kind ≡ old.kind → Passes a old mid before between
    → OnOk r (Passes b mid new between after) → OnOk r (Passes (a ++ b) old new before after)
passes-then (Ok done) a b old mid new before between after kind p q =
    passes-on a b old mid new before between after kind p q
passes-then (Err memory) a b old mid new before between after kind p q = tt
