-- One source, an item further and at its end.
use Rattle.std.proofs.Common.{◌≡◌, ℕ, ◌+◌, List, [], ◌∷◌, ◌++◌, filter, Option, Some, None, Result}
use Rattle.std.proofs.Common.{Ok, refl, sym, ap, ◌∙◌, append_assoc, append-nil, subst, arith, ◌≤◌}
use Rattle.std.proofs.Common.{nat_le, nat_lt, ◌&&◌, ◌-◌, length}
use Rattle.std.specs.Prelude.{⊤}
use Rattle.std.specs.Option.{option_map}
use Rattle.std.specs.List.{All}
use Rattle.std.proofs.lemmas.List.Elements.{All-nil, All-cons, All-head, All-tail, All-append}
use Rattle.std.proofs.lemmas.List.Elements.{All-weaker, All-push, All-drop, All-filter, All-map}
use Rattle.pipes_stream.proofs.Ports.{All-parts}
use Rattle.pipes_tuple.specs.declared.value.Value.{Value}
use Rattle.pipes_tuple.specs.declared.value.Kind.{Kind}
use Rattle.pipes_tuple.specs.Kinds.{Fits}
use Rattle.pipes_window.specs.declared.item.Item.{Item}
use Rattle.pipes_window.specs.declared.item.Item.TheVariants as items
use Rattle.pipes_window.specs.declared.kind.WindowKind.{WindowKind}
use Rattle.pipes_window.specs.declared.kind.WindowKind.TheVariants.{Time, Slide, Count}
use Rattle.pipes_window.specs.declared.row.Row.{Row}
use Rattle.pipes_window.specs.Items.{rows_of}
use Rattle.pipes_window.specs.Windows.{valid_rows, in_window}
use Rattle.pipes_window.specs.Valid.{Gathered, Gathers, HasValid}
use Rattle.pipes_window.proofs.Gathering.{in_window-beat}
use Rattle.pipes_feed.specs.declared.reason.Reason.{Reason}
use Rattle.pipes_feed.specs.declared.reason.Reason.TheVariants as reason
use Rattle.pipes_feed.specs.declared.reader.Next.TheVariants as next
use Rattle.pipes_feed.specs.Items.{Items, no_more, put, stamp_in, placed_item, in_order, ordered}
use Rattle.pipes_feed.specs.Reached.{Reached, stamp_floor}
use Rattle.pipes_feed.proofs.Order.{in_order-more, placed-after, placed-all, floor-rises}
use Rattle.pipes_feed.specs.Ahead.{TakesArrival, ItemFits, ArrivalFollows}
use Rattle.pipes_query.specs.declared.query.SourceDecl.{SourceDecl}
use Rattle.pipes_answer.specs.Gathering.{HasTaken, IsGathered, ReleasesRows, put_all}
use Rattle.pipes_error.specs.Fault.{Fault}
use Rattle.pipes_answer.specs.declared.source.SourceFault.{SourceFault}
use Rattle.pipes_answer.specs.Gives.{Refuses, answer_fault, source_refusal}
use Rattle.pipes_answer.specs.Whole.{up_to_end}

-- a heartbeat gathers no row
pub gathers-beat : (g : Gathered) (stamp : ℕ) → Gathers g g (items.Beat stamp)
gathers-beat g stamp = record {
  kind = refl;
  time = refl;
  valid = λ source has. has
      ∙ sym (in_window-beat g.kind source stamp g.time);
}

-- the arrivals ahead, after one more
rest-more : (taken : List Item) (item : Item) (now left : Option Items) (whole : Items)
    → TakesArrival now left (next.Item item) → option_map (put_all taken) now ≡ Some whole
    → option_map (put_all (taken ++ item ∷ [])) left ≡ Some whole
rest-more taken item None left whole takes is = cc
rest-more taken item (Some x) None whole takes is = cc
rest-more taken item (Some x) (Some y) whole takes is =
    let split : put item y ≡ x = cc in
    let lists : (taken ++ item ∷ []) ++ y.list ≡ taken ++ (item ∷ y.list) =
    append_assoc taken (item ∷ []) y.list in
    ap (λ (l : List Item). Some (record { list = l; end = y.end })) lists
    ∙ ap (λ (z : Items). Some (put_all taken z)) split ∙ is

-- the items that are in their place, once one more arrival has come and what is due has gone on
gathered-more : (kinds : List Kind) (slack : ℕ) (arrivals : List Item) (reached reached' : Reached)
    (waiting put now : List Item) (rows rows' : Gathered) (item : Item)
    → IsGathered kinds slack arrivals reached waiting rows → ArrivalFollows kinds slack reached
    reached' item → put ≡ placed_item item waiting
    → ReleasesRows (λ stamp. stamp ≤ stamp_floor slack reached') put now rows rows'
    → IsGathered kinds slack (arrivals ++ item ∷ []) reached' now rows'
gathered-more kinds slack arrivals reached reached' waiting put now rows rows' item g follows is r =
    let rises = floor-rises kinds slack reached reached' item follows in
    let below : All (λ i. stamp_in i ≤ stamp_in item) g.placed =
    All-weaker (λ (i : Item). stamp_in i ≤ stamp_floor slack reached)
    (λ (i : Item). stamp_in i ≤ stamp_in item) (λ i h. omega (arith, h, follows.at_floor))
    g.placed g.low in
    let low : All (λ i. stamp_in i ≤ stamp_floor slack reached') g.placed =
    All-weaker (λ (i : Item). stamp_in i ≤ stamp_floor slack reached)
    (λ (i : Item). stamp_in i ≤ stamp_floor slack reached') (λ i h. omega (arith, h, rises))
    g.placed
    g.low in
    let parts = All-parts (ItemFits kinds) g.placed waiting g.fit in
    let fits : All (ItemFits kinds) (r.moved ++ now) =
    subst (λ (l : List Item). All (ItemFits kinds) l) (sym is ∙ r.split)
    (placed-all (ItemFits kinds) item waiting follows.fits parts.1) in
    record {
      placed = g.placed ++ r.moved;
      order =
          in_order-more arrivals item ∙ ap (λ (l : List Item). placed_item item l) g.order
          ∙ placed-after item g.placed waiting below
          ∙ ap (λ (l : List Item). g.placed ++ l) (sym is ∙ r.split)
          ∙ sym (append_assoc g.placed r.moved now);
      low = All-append (λ (i : Item). stamp_in i ≤ stamp_floor slack reached') g.placed r.moved low
          r.due;
      fit = subst (λ (l : List Item). All (ItemFits kinds) l)
          (sym (append_assoc g.placed r.moved now)) (All-append (ItemFits kinds) g.placed
          (r.moved ++ now) parts.0 fits);
      valid = r.valid g.placed g.valid;
    }

-- one arrival more
pub taken-more : (kinds : List Kind) (slack : ℕ) (before now left : Option Items)
    (reached reached' : Reached) (waiting put waits : List Item) (rows rows' : Gathered)
    (item : Item)
    → HasTaken kinds slack before now reached waiting rows → TakesArrival now left (next.Item item)
    → ArrivalFollows kinds slack reached reached' item → put ≡ placed_item item waiting
    → ReleasesRows (λ stamp. stamp ≤ stamp_floor slack reached') put waits rows rows'
    → HasTaken kinds slack before left reached' waits rows'
taken-more kinds slack before now left reached reached' waiting put waits rows rows' item h takes
    follows is r = record {
      arrivals = h.arrivals ++ item ∷ [];
      gathered = gathered-more kinds slack h.arrivals reached reached' waiting put waits rows rows'
          item
          h.gathered follows is r;
      rest = λ whole is. rest-more h.arrivals item now left whole takes (h.rest whole is);
    }

-- the rows of all items, once those that waited have gone on
pub all-gathered : (kinds : List Kind) (slack : ℕ) (arrivals : List Item) (reached : Reached)
    (waiting now : List Item) (rows rows' : Gathered)
    → IsGathered kinds slack arrivals reached waiting rows → ReleasesRows (λ stamp. ⊤) waiting now
    rows
    rows' → now ≡ []
    → HasValid (in_order arrivals) rows' × All (ItemFits kinds) (in_order arrivals)
all-gathered kinds slack arrivals reached waiting now rows rows' g r none =
    let moved : waiting ≡ r.moved = r.split ∙ ap (λ (l : List Item). r.moved ++ l) none
    ∙ append-nil r.moved in
    let all : in_order arrivals ≡ g.placed ++ r.moved = g.order
    ∙ ap (λ (l : List Item). g.placed ++ l) moved in (
      subst (λ (l : List Item). HasValid l rows') (sym all) (r.valid g.placed g.valid),
      subst (λ (l : List Item). All (ItemFits kinds) l) (sym g.order) g.fit,
    )

-- items that left those that wait, one more and none
pub released-none : (low : ℕ → Type 0) (before now : List Item) (old new : Gathered) → now ≡ before
    → new ≡ old → ReleasesRows low before now old new
released-none low before now old new same rows = record {
  moved = [];
  split = sym same;
  due = All-nil (λ (i : Item). low (stamp_in i));
  kind = ap (λ (g : Gathered). g.kind) rows;
  time = ap (λ (g : Gathered). g.time) rows;
  valid = λ items h. subst (λ (g : Gathered). HasValid (items ++ []) g) (sym rows)
      (subst (λ (l : List Item). HasValid l old) (sym (append-nil items)) h);
}

pub released-more : (low : ℕ → Type 0) (before now left : List Item) (old mid new : Gathered)
    (item : Item)
    → ReleasesRows low before now old mid → now ≡ item ∷ left → low (stamp_in item)
    → Gathers mid new item → ReleasesRows low before left old new
released-more low before now left old mid new item r is due gathers = record {
  moved = r.moved ++ item ∷ [];
  split = r.split ∙ ap (λ (l : List Item). r.moved ++ l) is ∙ sym
      (append_assoc r.moved (item ∷ []) left);
  due = All-push (λ (i : Item). low (stamp_in i)) r.moved item r.due due;
  kind = gathers.kind ∙ r.kind;
  time = gathers.time ∙ r.time;
  valid = λ items h. subst (λ (l : List Item). HasValid l new)
      (append_assoc items r.moved (item ∷ [])) (gathers.valid (items ++ r.moved) (r.valid items h));
}

-- what the end of the arrivals says of the items: they are those taken, in order, or it is a
-- refusal
abbrev Ends : SourceDecl → List Item → Option SourceFault → Result (List Item) Fault → Type 0
Ends s taken None asked = asked ≡ Ok (in_order taken)
Ends s taken (Some fault) asked = Refuses asked (answer_fault s.name s.file fault)

ends_by : (s : SourceDecl) (taken : List Item) (now left : Option Items) (end : Reason)
    (whole : Items) → TakesArrival now left (next.Ended end)
    → option_map (put_all taken) now ≡ Some whole → Ends s taken (source_refusal end)
    (up_to_end s (ordered whole))
ends_by s taken None left end whole takes is = absurd (cc)
ends_by s taken (Some x) left reason.AtEnd whole takes is =
    let all : put_all taken (no_more reason.AtEnd) ≡ whole = cc in
    ap (λ (i : Items). up_to_end s (ordered i)) (sym all) ∙ ap (λ (l : List Item). Ok (in_order l))
    (append-nil taken)
ends_by s taken (Some x) left (reason.Row line why) whole takes is =
    let all : put_all taken (no_more (reason.Row line why)) ≡ whole = cc in
    ap (λ (i : Items). up_to_end s (ordered i)) (sym all)
ends_by s taken (Some x) left (reason.Limit line) whole takes is =
    let all : put_all taken (no_more (reason.Limit line)) ≡ whole = cc in
    ap (λ (i : Items). up_to_end s (ordered i)) (sym all)
ends_by s taken (Some x) left reason.Failed whole takes is = tt
ends_by s taken (Some x) left reason.Memory whole takes is = tt

pub taken-end : (s : SourceDecl) (taken : List Item) (now left : Option Items) (end : Reason)
    (whole : Items) (refused : Option SourceFault) → refused ≡ source_refusal end
    → TakesArrival now left (next.Ended end) → option_map (put_all taken) now ≡ Some whole
    → Ends s taken refused (up_to_end s (ordered whole))
taken-end s taken now left end whole refused why takes is = subst
    (λ (o : Option SourceFault). Ends s taken o (up_to_end s (ordered whole))) (sym why)
    (ends_by s taken now left end whole takes is)

-- the rows of items that fit

rows_fit : (kinds : List Kind) (taken : List Item) → All (ItemFits kinds) taken
    → All (λ (r : Row). Fits r.tuple kinds) (rows_of taken)
rows_fit kinds [] h = All-nil (λ (r : Row). Fits r.tuple kinds)
rows_fit kinds (items.Row stamp tuple ∷ rest) h =
    All-cons (λ (r : Row). Fits r.tuple kinds) (record { stamp = stamp; tuple = tuple })
    (rows_of rest) (All-head (ItemFits kinds) _ rest h) (rows_fit kinds rest
    (All-tail (ItemFits kinds) _ rest h))
rows_fit kinds (items.Beat stamp ∷ rest) h = rows_fit kinds rest
    (All-tail (ItemFits kinds) _ rest h)

valid_fit : (kinds : List Kind) (window : WindowKind) (rows : List Row) (t : ℕ)
    → All (λ (r : Row). Fits r.tuple kinds) rows → All (λ (r : Row). Fits r.tuple kinds)
    (valid_rows window rows t)
valid_fit kinds (Time size) rows t h = All-filter (λ (r : Row). nat_le r.stamp t && nat_lt t
    (r.stamp + size)) (λ (r : Row). Fits r.tuple kinds) rows h
valid_fit kinds (Slide size slide) rows t h = All-filter _ (λ (r : Row). Fits r.tuple kinds) rows h
valid_fit kinds (Count n) rows t h =
    let come : List Row = filter (λ (r : Row). nat_le r.stamp t) rows in
    All-drop (λ (r : Row). Fits r.tuple kinds) (length come - n) come
    (All-filter (λ (r : Row). nat_le r.stamp t) (λ (r : Row). Fits r.tuple kinds) rows h)

-- those of them that are valid
pub window_fits : (kinds : List Kind) (window : WindowKind) (taken : List Item) (t : ℕ)
    → All (ItemFits kinds) taken → All (λ (row : List Value). Fits row kinds)
    (in_window window taken t)
window_fits kinds window taken t h =
    All-map (λ (row : List Value). Fits row kinds) (λ (r : Row). r.tuple)
    (valid_rows window (rows_of taken) t) (valid_fit kinds window (rows_of taken) t
    (rows_fit kinds taken h))

-- the rows that were gathered are those of the window
pub taken-rows : (items : List Item) (rows : Gathered) (window : WindowKind) (t : ℕ)
    (got : List (List Value)) → HasValid items rows → got ≡ rows.rows → rows.kind ≡ window
    → rows.time ≡ t → got ≡ in_window window items t
taken-rows items rows window t got valid is kind time =
    is ∙ valid ∙ ap (λ (k : WindowKind). in_window k items rows.time) kind
    ∙ ap (λ (n : ℕ). in_window window items n) time

pub taken-fit : (kinds : List Kind) (items : List Item) (rows : Gathered) (got : List (List Value))
    → HasValid items rows → All (ItemFits kinds) items → got ≡ rows.rows
    → All (λ (row : List Value). Fits row kinds) got
taken-fit kinds items rows got valid fit is =
    subst (λ (l : List (List Value)). All (λ (row : List Value). Fits row kinds) l)
    (sym (is ∙ valid)) (window_fits kinds rows.kind items rows.time fit)
