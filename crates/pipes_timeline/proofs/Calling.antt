-- What the calls promise, from what they did.
use Rattle.std.proofs.Common.{◌≡◌, ℕ, ◌+◌, ◌-◌, ◌≤◌, ◌<◌, Bool, true, false, cond, eqb, List}
use Rattle.std.proofs.Common.{[], ◌∷◌, ◌++◌, Option, Some, None, IsSome, Result, Ok, Err}
use Rattle.std.proofs.Common.{slice_get, slice_set, refl, sym, ap, ◌∙◌, subst, arith, inl, inr}
use Rattle.std.specs.Prelude.{OnOk}
use Rattle.std.specs.Bool.{OnTrue, OnFalse}
use Rattle.std.proofs.lemmas.Bool.{cases_lt}
use Rattle.pipes_time.specs.Interval.{Span, IsInterval}
use Rattle.pipes_tuple.specs.Equal.{tuple_eq}
use Rattle.pipes_tuple.specs.Bag.{count}
use Rattle.pipes_tuple.proofs.Bags.{count-cons}
use Rattle.pipes_stream.specs.declared.Elem.{Elem}
use Rattle.pipes_timeline.specs.declared.piece.Piece.{Piece}
use Rattle.pipes_timeline.specs.declared.piece.Piece.TheVariants as piece
use Rattle.pipes_timeline.specs.declared.pieces.Pieces.{Pieces}
use Rattle.pipes_timeline.specs.declared.table.Slot.{Slot}
use Rattle.pipes_stream.specs.Weights.{weigh}
use Rattle.pipes_timeline.specs.Rules.{Row, RowBags, Arrival, rows_at, SameOfKey}
use Rattle.pipes_timeline.specs.Rules.{KeyRule}
use Rattle.pipes_timeline.specs.Ends.{AddsArrival}
use Rattle.pipes_timeline.specs.Lines.{is_old, PiecesStand, no_key, only_key}
use Rattle.pipes_timeline.specs.Queues.{open_start, LinkedAt}
use Rattle.pipes_timeline.specs.Tables.{IsAnswer, with_arrival, place_in, sets, Tallied, Good}
use Rattle.pipes_timeline.specs.Tables.{Frees}
use Rattle.pipes_timeline.specs.Tables.{Settles, Begins, Finishes, Opens, Voids}
use Rattle.pipes_timeline.specs.LineMoves.{back-key, is_row, count-rows_at}
use Rattle.pipes_timeline.specs.LineChanges.{none-old, new-old, line-ended, same-others}
use Rattle.pipes_timeline.specs.LineChanges.{back-others}
use Rattle.pipes_timeline.specs.LineOpens.{line-begun, answer-early}
use Rattle.pipes_timeline.proofs.Tabling.{sets-own, sets-each, sets-same, sets-twice, good_find}
use Rattle.pipes_timeline.proofs.Tabling.{good_freed, linked-slot, key-slot, open-is, good_closed}
use Rattle.pipes_timeline.proofs.Tabling.{good_opened, good_kept, good_shut, good_voided}

-- where a call succeeds, or a test
pub from-ok : {A E : Type 0} {P Q : Type 0} (r : Result A E) → (P → Q) → OnOk r P → OnOk r Q
from-ok (Ok a) f h = f h
from-ok (Err e) f h = tt

pub on-true : (b : Bool) (P : Type 0) → (b ≡ true → P) → OnTrue b P
on-true true P f = f refl
on-true false P f = tt

pub from-true : {P : Type 0} (b : Bool) → b ≡ true → OnTrue b P → P
from-true true e h = h
from-true false e h = absurd cc

pub from-false : {P : Type 0} (b : Bool) → b ≡ false → OnFalse b P → P
from-false false e h = h
from-false true e h = absurd cc

-- an element's row more
pub rows-with : (key : Row → Row) (k : Row) (live more : List Arrival) (s : Arrival)
    → AddsArrival s live more → SameOfKey key k (with_arrival (rows_at live) s.0 s.1.tuple)
    (rows_at more)
rows-with key k live more s adds port row own =
    let a = count-rows_at row port live in
    let b = count-rows_at row port more in
    let c = adds.weight (is_row port row) in
    pick (eqb s.0 port) refl ∙ sym (omega (arith, a, b, c))
  where
    pick : (d : Bool) → eqb s.0 port ≡ d
        → count row (cond d (s.1.tuple ∷ rows_at live port) (rows_at live port))
        ≡ is_row port row s + count row (rows_at live port)
    pick true e =
        let f : is_row port row s ≡ cond {A = ℕ} (tuple_eq s.1.tuple row) 1 0 =
        ap (λ (x : Bool). cond {A = ℕ} x (cond {A = ℕ} (tuple_eq s.1.tuple row) 1 0) 0) e in
        omega (arith, count-cons row s.1.tuple (rows_at live port), f)
    pick false e =
        let f : is_row port row s ≡ 0 =
        ap (λ (x : Bool). cond {A = ℕ} x (cond {A = ℕ} (tuple_eq s.1.tuple row) 1 0) 0) e in
        omega (arith, f)

pub back-same : (key : Row → Row) (k : Row) (bags others : RowBags) → SameOfKey key k bags others
    → SameOfKey key k others bags
back-same key k bags others h port row e = sym (h port row e)

module _ {T : Type 0} (r : KeyRule) (tells : Row → T → RowBags → Type 0) (now : ℕ) (k : Row) where
  -- ---- the key's piece closes
  freed-same : (slot : Slot T) (low : ℕ) (live taken : List Arrival) (sent : List Elem)
      (find : Row → Option (Slot T)) (base : ℕ) (ps : List Piece) → find k ≡ Some slot
      → weigh (is_old k now) ps ≡ 0 → Good r tells no_key low now live find base ps taken sent
      → Good r tells (only_key k) low now live (sets k (Some slot) find) base ps taken sent
  freed-same slot low live taken sent find base ps e o g =
      good_find r tells (only_key k) low now live find (sets k (Some slot) find) base ps taken sent
      (sets-same k (Some slot) find e)
      (good_freed r tells low now live find k base ps taken sent o g)

  not-open : (o : Option ℕ) (base : ℕ) (ps : List Piece)
      → ((place : ℕ) → o ≡ Some place → open_start (slice_get ps (place - base)) ≡ None)
      → LinkedAt k base ps o → weigh (is_old k now) ps ≡ 0
  not-open None base ps h l = none-old k now ps l
  not-open (Some place) base ps h l = absurd (
      let a : open_start (Some (piece.Open k l.1.0)) ≡ None = sym (ap open_start l.1.1)
      ∙ h place refl in
      let f : Some l.1.0 ≡ None = a in cc)

  pub frees_none : (slot : Slot T) (p : Pieces)
      → ((place : ℕ) → slot.place ≡ Some place
      → open_start (slice_get p.queue.items (place - p.base)) ≡ None)
      → Frees r tells now k slot slot p p
  frees_none slot p h = record {
    good = λ low live taken sent find most e g.
        freed-same slot low live taken sent find p.base p.queue.items e
        (not-open slot.place p.base p.queue.items h
        (linked-slot r tells no_key low now live find k slot p.base p.queue.items taken sent e g))
        g;
  }

  pub frees_late : (slot : Slot T) (p : Pieces) (place b : ℕ) → slot.place ≡ Some place
      → open_start (slice_get p.queue.items (place - p.base)) ≡ Some b
      → (IsInterval b now → IsSome {T = Span} None) → Frees r tells now k slot slot p p
  frees_late slot p place b at start none = record {
    good = λ low live taken sent find most e g.
        (let l0 = linked-slot r tells no_key low now live find k slot p.base p.queue.items taken
        sent e g in
        let l : LinkedAt k p.base p.queue.items (Some place) =
        subst (λ (o : Option ℕ). LinkedAt k p.base p.queue.items o) at l0 in
        let here = open-is r tells k p.base place b p.queue.items l start in
        let late : now ≤ b = elim (cases_lt b now) [
          | inl h ↦ absurd (let f : false ≡ true = none (h, most) in cc)
          | inr h ↦ h
        ] in
        freed-same slot low live taken sent find p.base p.queue.items e
        (new-old k now b (place - p.base) p.queue.items here late (g.line.single k)) g);
  }

  pub frees_closed : (slot new_slot : Slot T) (p new : Pieces) (e : Elem) (many place b : ℕ)
      → slot.place ≡ Some place → open_start (slice_get p.queue.items (place - p.base)) ≡ Some b
      → e.span.start ≡ b → e.span.end ≡ now → IsInterval e.span.start e.span.end
      → ((bags : RowBags) → tells k slot.tally bags → IsAnswer r k bags e.tuple many)
      → new_slot.tally ≡ slot.tally → new_slot.place ≡ None
      → new.queue.items ≡ slice_set p.queue.items (place - p.base) (piece.Closed e many)
      → new.base ≡ p.base → Frees r tells now k slot new_slot p new
  frees_closed slot new_slot p new e many place b at start from to inside answer same gone items
      base = record {
        good = λ low live taken sent find most f g.
            subst (λ (n : ℕ). Good r tells (only_key k) low now live (sets k (Some new_slot) find) n
            new.queue.items taken sent) (sym base)
            (subst (λ (ps : List Piece). Good r tells (only_key k) low now live
            (sets k (Some new_slot) find) p.base ps taken sent) (sym items)
            (good_closed r tells low now live find k slot new_slot p.base place p.queue.items taken
            sent e many b f at start from to inside (answer (rows_at live)) same gone g));
      }

  -- ---- a piece opens, or goes
  pub settles_some : (slot new_slot : Slot T) (p new : Pieces)
      → ((j : Row) (bags : RowBags) → tells j slot.tally bags → (x : Row) × (0 < r.gives j bags x))
      → Opens now k slot new_slot p new → Settles r tells now k slot new_slot p new
  settles_some slot new_slot p new some o = record {
    good = λ low live taken sent find e g.
        (let t = key-slot r tells (only_key k) low now live find k slot p.base p.queue.items taken
        sent e g in
        let x = some k (rows_at live) t in
        let early = answer-early r k x.0 now live taken g.line.lives x.1 in
        subst (λ (n : ℕ). Good r tells no_key low now live (sets k (Some new_slot) find) n
        new.queue.items taken sent) (sym o.1)
        (elim o.2 [
          | inl a ↦ subst (λ (ps : List Piece). Good r tells no_key low now live
              (sets k (Some new_slot) find) p.base ps taken sent) (sym a.2)
              (good_opened r tells low now live find k slot new_slot p.base p.queue.items taken
              sent e a.0 a.1 o.0 early g)
          | inr a ↦ subst (λ (ps : List Piece). Good r tells no_key low now live
              (sets k (Some new_slot) find) p.base ps taken sent) (sym a.3)
              (good_kept r tells low now live find k slot new_slot p.base a.0 p.queue.items
              taken sent e a.1 a.2 o.0 early g)
        ]));
  }

  pub settles_none : (slot new_slot : Slot T) (p new : Pieces)
      → ((j : Row) (bags : RowBags) → tells j slot.tally bags → (x : Row) → r.gives j bags x ≡ 0)
      → Voids now slot new_slot p new → Settles r tells now k slot new_slot p new
  settles_none slot new_slot p new none o = record {
    good = λ low live taken sent find e g.
        (let t = key-slot r tells (only_key k) low now live find k slot p.base p.queue.items taken
        sent e g in
        subst (λ (n : ℕ). Good r tells no_key low now live (sets k (Some new_slot) find) n
        new.queue.items taken sent) (sym o.1)
        (elim o.3 [
          | inl a ↦ subst (λ (ps : List Piece). Good r tells no_key low now live
              (sets k (Some new_slot) find) p.base ps taken sent) (sym a.1)
              (good_shut r tells low now live find k slot new_slot p.base p.queue.items taken
              sent e a.0 o.2 o.0 (none k (rows_at live) t) g)
          | inr a ↦ subst (λ (ps : List Piece). Good r tells no_key low now live
              (sets k (Some new_slot) find) p.base ps taken sent) (sym a.2)
              (good_voided r tells low now live find k slot new_slot p.base a.0 p.queue.items
              taken sent e a.1 o.2 o.0 (none k (rows_at live) t) g)
        ]));
  }

  -- ---- an element comes, or ends
  module _ (stays : (j : Row) (tally : T) (bags others : RowBags) → SameOfKey r.key j bags others
      → tells j tally bags → tells j tally others) where
    tallied-same : (j : Row) (o : Option (Slot T)) (bags others : RowBags)
        → SameOfKey r.key j bags others → Tallied r tells j o bags → Tallied r tells j o others
    tallied-same j None bags others same t = λ port row e. sym (same port row e) ∙ t port row e
    tallied-same j (Some s) bags others same t = stays j s.tally bags others same t

    -- the rows of the free key change
    changed : (low : ℕ) (live new taken now_taken : List Arrival) (sent : List Elem)
        (find : Row → Option (Slot T)) (slot new_slot : Slot T) (base : ℕ) (ps : List Piece)
        → find k ≡ Some slot → new_slot.place ≡ slot.place
        → tells k new_slot.tally (rows_at new)
        → ((j : Row) → tuple_eq j k ≡ false → SameOfKey r.key j (rows_at live) (rows_at new))
        → PiecesStand r (only_key k) now new ps now_taken sent
        → Good r tells (only_key k) low now live find base ps taken sent
        → Good r tells (only_key k) low now new (sets k (Some new_slot) find) base ps now_taken sent
    changed low live new taken now_taken sent find slot new_slot base ps e place t same line g =
        record {
          line = line;
          order = g.order;
          upto = g.upto;
          linked = sets-each (λ (j : Row) (o : Option (Slot T)). LinkedAt j base ps (place_in o)) k
              (Some new_slot) find
              (subst (λ (o : Option ℕ). LinkedAt k base ps o) (sym place)
              (linked-slot r tells (only_key k) low now live find k slot base ps taken sent e g))
              (λ j n. g.linked j);
          each_key = sets-each (λ (j : Row) (o : Option (Slot T)). Tallied r tells j o
              (rows_at new)) k
              (Some new_slot) find t
              (λ j n. tallied-same j (find j) (rows_at live) (rows_at new)
              (same j (back-key k j false n)) (g.each_key j));
        }

    pub begins : (slot freed more_slot new_slot : Slot T) (p mid new : Pieces) (s : Arrival)
        → Frees r tells now k slot freed p mid → more_slot.place ≡ freed.place
        → ((j : Row) (bags : RowBags) → r.key s.1.tuple ≡ j → tells j freed.tally bags
        → tells j more_slot.tally (with_arrival bags s.0 s.1.tuple))
        → Settles r tells now k more_slot new_slot mid new
        → Begins r tells now k slot new_slot p new s
    begins slot freed more_slot new_slot p mid new s frees place add settles = record {
      good = λ low live more taken sent find e key start inside adds g.
          (let upto : now ≤ 1000000000000000 = (let a : s.1.span.start < s.1.span.end = inside.0 in
          let b : s.1.span.end ≤ 1000000000000000 = inside.1 in omega (arith, a, b, start)) in
          let once : Row → Option (Slot T) = sets k (Some freed) find in
          let twice : Row → Option (Slot T) = sets k (Some more_slot) once in
          let f = frees.good low live taken sent find upto e g in
          let own : once k ≡ Some freed = sets-own k (Some freed) find in
          let t = key-slot r tells (only_key k) low now live once k freed mid.base
          mid.queue.items taken sent own f in
          let still = stays k more_slot.tally (with_arrival (rows_at live) s.0 s.1.tuple)
          (rows_at more)
          (rows-with r.key k live more s adds) (add k (rows_at live) key t) in
          let line = line-begun r k now live more mid.queue.items taken sent s key start inside
          adds.weight f.line in
          let c = changed low live more taken (taken ++ s ∷ []) sent once freed more_slot mid.base
          mid.queue.items own place still (same-others r.key k live more s key adds.weight)
          line
          f in
          let d = settles.good low more (taken ++ s ∷ []) sent twice
          (sets-own k (Some more_slot) once)
          c in
          good_find r tells no_key low now more (sets k (Some new_slot) twice)
          (sets k (Some new_slot) find) new.base new.queue.items (taken ++ s ∷ []) sent
          (λ q. sets-twice k (Some more_slot) (Some new_slot) once q
          ∙ sets-twice k (Some freed) (Some new_slot) find q) d);
    }

    pub finishes : (slot freed less_slot new_slot : Slot T) (p mid new : Pieces) (s : Arrival)
        → Frees r tells now k slot freed p mid → less_slot.place ≡ freed.place
        → ((j : Row) (bags : RowBags) → r.key s.1.tuple ≡ j
        → tells j freed.tally (with_arrival bags s.0 s.1.tuple) → tells j less_slot.tally bags)
        → Settles r tells now k less_slot new_slot mid new
        → Finishes r tells now k slot new_slot p new s
    finishes slot freed less_slot new_slot p mid new s frees place remove settles = record {
      good = λ low live less taken sent find e key end upto adds g.
          (let once : Row → Option (Slot T) = sets k (Some freed) find in
          let twice : Row → Option (Slot T) = sets k (Some less_slot) once in
          let f = frees.good low live taken sent find upto e g in
          let own : once k ≡ Some freed = sets-own k (Some freed) find in
          let t = key-slot r tells (only_key k) low now live once k freed mid.base
          mid.queue.items taken sent own f in
          let with : RowBags = with_arrival (rows_at less) s.0 s.1.tuple in
          let still = remove k (rows_at less) key
          (stays k freed.tally (rows_at live) with
          (back-same r.key k with (rows_at live) (rows-with r.key k less live s adds)) t) in
          let line = line-ended r k now live less mid.queue.items taken sent s key
          (omega (arith, end)) adds.weight f.line in
          let c = changed low live less taken taken sent once freed less_slot mid.base
          mid.queue.items own place still (back-others r.key k less live s key adds.weight)
          line
          f in
          let d = settles.good low less taken sent twice (sets-own k (Some less_slot) once) c in
          good_find r tells no_key low now less (sets k (Some new_slot) twice)
          (sets k (Some new_slot) find) new.base new.queue.items taken sent
          (λ q. sets-twice k (Some less_slot) (Some new_slot) once q
          ∙ sets-twice k (Some freed) (Some new_slot) find q) d);
    }
