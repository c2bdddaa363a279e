-- Items up to an instant, and those past it.
use Rattle.std.proofs.Common.{◌≡◌, ℕ, ◌≤◌, ◌<◌, List, [], ◌∷◌, ◌++◌, true, false, nat_le, nat_lt}
use Rattle.std.proofs.Common.{refl, ap, ◌∙◌, append-nil}
use Rattle.std.specs.List.{All}
use Rattle.std.proofs.lemmas.Bool.{le-leb, lt-ltb, le-ltb, lt-leb}
use Rattle.std.proofs.lemmas.List.Elements.{All-head, All-tail, filter-append}
use Rattle.pipes_window.specs.declared.item.Item.{Item}
use Rattle.pipes_feed.specs.Items.{stamp_in}
use Rattle.pipes_feed.specs.Waiting.{up_to, past}

abbrev pub AllUpTo : ℕ → List Item → Type 0
AllUpTo t items = All (λ i. stamp_in i ≤ t) items

abbrev pub AllPast : ℕ → List Item → Type 0
AllPast t items = All (λ i. t < stamp_in i) items

up_to_all : (t : ℕ) (items : List Item) → AllUpTo t items → up_to t items ≡ items
up_to_all t [] h = refl
up_to_all t (i ∷ items) h =
    let is : nat_le (stamp_in i) t ≡ true =
    le-leb (stamp_in i) t (All-head (λ (i : Item). stamp_in i ≤ t) i items h) in
    rw is (ap (λ (is : List Item). i ∷ is) (up_to_all t items
    (All-tail (λ (i : Item). stamp_in i ≤ t) i items h)))

past_none : (t : ℕ) (items : List Item) → AllUpTo t items → past t items ≡ []
past_none t [] h = refl
past_none t (i ∷ items) h =
    let is : nat_lt t (stamp_in i) ≡ false =
    le-ltb _ _ (All-head (λ (i : Item). stamp_in i ≤ t) i items h) in
    rw is (past_none t items (All-tail (λ (i : Item). stamp_in i ≤ t) i items h))

up_to_none : (t : ℕ) (items : List Item) → AllPast t items → up_to t items ≡ []
up_to_none t [] h = refl
up_to_none t (i ∷ items) h =
    let is : nat_le (stamp_in i) t ≡ false =
    lt-leb _ _ (All-head (λ (i : Item). t < stamp_in i) i items h) in
    rw is (up_to_none t items (All-tail (λ (i : Item). t < stamp_in i) i items h))

past_all : (t : ℕ) (items : List Item) → AllPast t items → past t items ≡ items
past_all t [] h = refl
past_all t (i ∷ items) h =
    let is : nat_lt t (stamp_in i) ≡ true =
    lt-ltb _ _ (All-head (λ (i : Item). t < stamp_in i) i items h) in
    rw is (ap (λ (is : List Item). i ∷ is) (past_all t items
    (All-tail (λ (i : Item). t < stamp_in i) i items h)))

-- a list that parts at the instant
pub up_to-parted : (t : ℕ) (low high : List Item) → AllUpTo t low → AllPast t high
    → up_to t (low ++ high) ≡ low
up_to-parted t low high l h =
    filter-append (λ (i : Item). nat_le (stamp_in i) t) low high
    ∙ ap (λ (is : List Item). is ++ up_to t high) (up_to_all t low l)
    ∙ ap (λ (is : List Item). low ++ is) (up_to_none t high h) ∙ append-nil low

pub past-parted : (t : ℕ) (low high : List Item) → AllUpTo t low → AllPast t high
    → past t (low ++ high) ≡ high
past-parted t low high l h =
    filter-append (λ (i : Item). nat_lt t (stamp_in i)) low high
    ∙ ap (λ (is : List Item). is ++ past t high) (past_none t low l)
    ∙ past_all t high h
