-- The order of a source's items, arrival by arrival.
use Rattle.std.proofs.Common.{◌≡◌, ℕ, ◌≤◌, List, [], ◌∷◌, ◌++◌, true, false}
use Rattle.std.proofs.Common.{nat_le, nat_lt, filter, refl, sym, ap, ◌∙◌, subst, append_assoc}
use Rattle.std.proofs.Common.{append-nil, arith}
use Rattle.std.specs.Prelude.{⊤}
use Rattle.std.specs.List.{All}
use Rattle.std.proofs.lemmas.Bool.{le-leb, le-ltb}
use Rattle.std.proofs.lemmas.List.Elements.{All-head, All-tail, All-nil, All-cons, All-append}
use Rattle.std.proofs.lemmas.List.Elements.{All-filter, All-push, All-weaker, filter-append}
use Rattle.pipes_tuple.specs.declared.value.Kind.{Kind}
use Rattle.pipes_window.specs.declared.item.Item.{Item}
use Rattle.pipes_window.specs.declared.item.Item.TheVariants.{Row, Beat}
use Rattle.pipes_line.specs.Lines.{Line, size_of, lines_of}
use Rattle.pipes_feed.specs.declared.line.Verdict.{Verdict}
use Rattle.pipes_feed.specs.declared.line.Verdict.TheVariants.{Pass, Give, Refuse, Limit}
use Rattle.pipes_feed.specs.Reached.{Reached, source_start, stamp_floor}
use Rattle.pipes_feed.specs.Reached.{after_line, after_item}
use Rattle.pipes_feed.specs.Ahead.{ArrivalFollows}
use Rattle.pipes_feed.specs.Judged.{judge}
use Rattle.pipes_feed.specs.Items.{Items, stamp_in, by_verdict, arrivals_from, placed_item}
use Rattle.pipes_feed.specs.Items.{ordered_after, in_order, arrivals_of, items_of}
use Rattle.pipes_feed.proofs.Laws.{Allows, judge_allows}

after_more : (items arrivals : List Item) (x : Item)
    → ordered_after items (arrivals ++ x ∷ []) ≡ placed_item x (ordered_after items arrivals)
after_more items [] x = refl
after_more items (a ∷ arrivals) x = after_more (placed_item a items) arrivals x

-- one arrival more
pub in_order-more : (arrivals : List Item) (x : Item) → in_order (arrivals ++ x ∷ []) ≡ placed_item
    x (in_order arrivals)
in_order-more arrivals x = after_more [] arrivals x

abbrev AllUpTo : ℕ → List Item → Type 0
AllUpTo t items = All (λ i. stamp_in i ≤ t) items

kept_all : (t : ℕ) (items : List Item) → AllUpTo t items → filter (λ i. nat_le (stamp_in i) t)
    items ≡ items
kept_all t [] h = refl
kept_all t (i ∷ items) h =
    let here : stamp_in i ≤ t = All-head (λ (i : Item). stamp_in i ≤ t) i items h in
    let is : nat_le (stamp_in i) t ≡ true = le-leb (stamp_in i) t here in
    rw is (ap (λ (is : List Item). i ∷ is) (kept_all t items
    (All-tail (λ (i : Item). stamp_in i ≤ t) i items h)))

kept_none : (t : ℕ) (items : List Item) → AllUpTo t items → filter (λ i. nat_lt t (stamp_in i))
    items ≡ []
kept_none t [] h = refl
kept_none t (i ∷ items) h =
    let here : stamp_in i ≤ t = All-head (λ (i : Item). stamp_in i ≤ t) i items h in
    let is : nat_lt t (stamp_in i) ≡ false = le-ltb _ _ here in
    rw is (kept_none t items (All-tail (λ (i : Item). stamp_in i ≤ t) i items h))

-- an item is placed after all that have no greater stamp
pub placed-after : (x : Item) (before items : List Item) → All (λ i. stamp_in i ≤ stamp_in x) before
    → placed_item x (before ++ items) ≡ before ++ placed_item x items
placed-after x before items h =
    let low : filter (λ i. nat_le (stamp_in i) (stamp_in x)) (before ++ items) ≡ before
    ++ filter (λ i. nat_le (stamp_in i) (stamp_in x)) items =
    filter-append (λ (i : Item). nat_le (stamp_in i) (stamp_in x)) before items
    ∙ ap (λ (l : List Item). l ++ filter (λ i. nat_le (stamp_in i) (stamp_in x)) items)
    (kept_all (stamp_in x) before h) in
    let high : filter (λ i. nat_lt (stamp_in x) (stamp_in i)) (before ++ items) ≡ filter
    (λ i. nat_lt (stamp_in x) (stamp_in i)) items =
    filter-append (λ (i : Item). nat_lt (stamp_in x) (stamp_in i)) before items
    ∙ ap (λ (l : List Item). l ++ filter (λ i. nat_lt (stamp_in x) (stamp_in i)) items)
    (kept_none (stamp_in x) before h) in
    rw (low, high) (append_assoc before (filter (λ i. nat_le (stamp_in i) (stamp_in x)) items)
    (x ∷ filter (λ i. nat_lt (stamp_in x) (stamp_in i)) items))

-- the stamps never fall, from this one on
abbrev pub RisesFrom : ℕ → List Item → Type 0
RisesFrom low [] = ⊤
RisesFrom low (i ∷ items) = (low ≤ stamp_in i) × RisesFrom (stamp_in i) items

after_rising : (low : ℕ) (before arrivals : List Item) → AllUpTo low before → RisesFrom low arrivals
    → ordered_after before arrivals ≡ before ++ arrivals
after_rising low before [] h rises = sym (append-nil before)
after_rising low before (a ∷ arrivals) h rises =
    let upto : AllUpTo (stamp_in a) before = All-weaker (λ (i : Item). stamp_in i ≤ low)
    (λ (i : Item). stamp_in i ≤ stamp_in a) (λ i e. omega (arith, e, rises.0)) before h in
    let placed : placed_item a before ≡ before ++ a ∷ [] =
    ap (placed_item a) (sym (append-nil before)) ∙ placed-after a before [] upto in
    let more : AllUpTo (stamp_in a) (before ++ a ∷ []) = All-push
    (λ (i : Item). stamp_in i ≤ stamp_in a) before a upto (omega arith) in
    ap (λ (l : List Item). ordered_after l arrivals) placed
    ∙ after_rising (stamp_in a) (before ++ a ∷ []) arrivals more rises.1
    ∙ append_assoc before (a ∷ []) arrivals

-- arrivals that come in order are the items
pub in_order-rising : (arrivals : List Item) → RisesFrom 0 arrivals → in_order arrivals ≡ arrivals
in_order-rising arrivals rises = after_rising 0 [] arrivals (All-nil (λ (i : Item). stamp_in i ≤ 0))
    rises

-- without slack, the floor after an item is its stamp
floor_reached : (reached : Reached) (size : ℕ) (item : Item) → stamp_floor 0 reached ≤ stamp_in item
    → stamp_floor 0 (after_item reached size item) ≡ stamp_in item
floor_reached reached size (Row stamp tuple) h = omega (arith, h)
floor_reached reached size (Beat stamp) h = omega (arith, h)

-- without slack the arrivals come in order
pub arrivals-rise : (kinds : List Kind) (reached : Reached) (lines : List Line)
    → RisesFrom (stamp_floor 0 reached) (arrivals_from kinds 0 reached lines).list
unfolding arrivals_from
arrivals-rise kinds reached [] = tt
arrivals-rise kinds reached (line ∷ lines) =
    by_line (judge kinds 0 reached line) (judge_allows kinds 0 reached line)
    (λ next. arrivals-rise kinds next lines)
  where
    by_line : (v : Verdict) → Allows kinds 0 reached (size_of line) v
        → ((next : Reached) → RisesFrom (stamp_floor 0 next)
        (arrivals_from kinds 0 next lines).list)
        → RisesFrom (stamp_floor 0 reached) (by_verdict reached (size_of line)
        (λ next. arrivals_from kinds 0 next lines) v).list
    by_line Pass allows rest = rest (after_line reached (size_of line))
    by_line (Give item) allows rest = (
      allows.2.at_floor,
      subst (λ (t : ℕ). RisesFrom t (arrivals_from kinds 0 (after_item reached (size_of line) item)
          lines).list)
          (floor_reached reached (size_of line) item allows.2.at_floor)
          (rest (after_item reached (size_of line) item)),
    )
    by_line (Refuse refusal) allows rest = tt
    by_line Limit allows rest = tt

-- without slack, the floor after an arrival is its stamp
pub floor-reached : (kinds : List Kind) (before now : Reached) (item : Item)
    → ArrivalFollows kinds 0 before now item → stamp_floor 0 now ≡ stamp_in item
floor-reached kinds before now (Row stamp tuple) f = omega (arith, f.newest, f.beat, f.at_floor)
floor-reached kinds before now (Beat stamp) f = omega (arith, f.newest, f.beat, f.at_floor)

-- without slack, the arrivals are the items
pub items-in_order : (kinds : List Kind) (slack : ℕ) (bytes : List ℕ) → slack ≡ 0
    → items_of kinds slack bytes ≡ arrivals_of kinds 0 bytes
items-in_order kinds slack bytes none =
    let arrivals : Items = arrivals_of kinds 0 bytes in
    ap (λ (n : ℕ). items_of kinds n bytes) none
    ∙ ap (λ (l : List Item). record { list = l; end = arrivals.end })
    (in_order-rising arrivals.list (arrivals-rise kinds source_start (lines_of bytes)))

-- the floor never falls
pub floor-rises : (kinds : List Kind) (slack : ℕ) (before now : Reached) (item : Item)
    → ArrivalFollows kinds slack before now item → stamp_floor slack before ≤ stamp_floor slack now
floor-rises kinds slack before now (Row stamp tuple) f = omega (arith, f.newest, f.beat)
floor-rises kinds slack before now (Beat stamp) f = omega (arith, f.newest, f.beat)

-- what holds of the items and of one more holds once it is placed among them
pub placed-all : (P : Item → Type 0) (item : Item) (items : List Item) → P item → All P items
    → All P (placed_item item items)
placed-all P item items one all =
    All-append P (filter (λ i. nat_le (stamp_in i) (stamp_in item)) items)
    (item ∷ filter (λ i. nat_lt (stamp_in item) (stamp_in i)) items)
    (All-filter (λ (i : Item). nat_le (stamp_in i) (stamp_in item)) P items all)
    (All-cons P item (filter (λ i. nat_lt (stamp_in item) (stamp_in i)) items) one
    (All-filter (λ (i : Item). nat_lt (stamp_in item) (stamp_in i)) P items all))
