-- What the calls on a key's slot and piece do.
use Rattle.std.proofs.Common.{◌≡◌, ℕ, zero, suc, ◌+◌, ◌-◌, ◌≤◌, ◌<◌, Bool, true, false}
use Rattle.std.proofs.Common.{cond, nat_lt, List, [], ◌∷◌, ◌++◌, length, Option, Some, None}
use Rattle.std.proofs.Common.{slice_get, slice_set, refl, sym, ap, ◌∙◌, subst, arith, inl}
use Rattle.std.proofs.Common.{inr}
use Rattle.pipes_time.specs.Interval.{IsInterval}
use Rattle.pipes_tuple.specs.Equal.{tuple_eq}
use Rattle.pipes_stream.specs.declared.Elem.{Elem}
use Rattle.pipes_timeline.specs.declared.piece.Piece.{Piece}
use Rattle.pipes_timeline.specs.declared.piece.Piece.TheVariants as piece
use Rattle.pipes_timeline.specs.declared.table.Slot.{Slot}
use Rattle.pipes_stream.specs.Weights.{weigh}
use Rattle.pipes_stream.proofs.Weights.{weigh-append, weigh-member}
use Rattle.pipes_timeline.specs.Rules.{Row, RowBags, Arrival, rows_at}
use Rattle.pipes_timeline.specs.Rules.{KeyRule}
use Rattle.pipes_timeline.specs.Lines.{opens, is_old, start_at, starts_early, none_counted, unfit}
use Rattle.pipes_timeline.specs.Lines.{no_key, only_key}
use Rattle.pipes_timeline.specs.Queues.{open_start, HasSpan, InOrder, LinkedAt}
use Rattle.pipes_timeline.specs.Tables.{IsAnswer, place_in, sets, Tallied, Good}
use Rattle.pipes_timeline.specs.LineMoves.{self-key, same-key, bool-cases, back-key}
use Rattle.pipes_timeline.specs.LineMoves.{zero-if, not-lt}
use Rattle.pipes_timeline.specs.LineChanges.{line-freed, own-shut, other-shut}
use Rattle.pipes_timeline.specs.LineChanges.{line-closed}
use Rattle.pipes_timeline.specs.LineOpens.{line-shut, line-voided, line-opened}
use Rattle.pipes_timeline.specs.LineOpens.{line-kept}

-- ---- lists
module _ {X : Type 0} where
  pub get-before : (xs ys : List X) (i : ℕ) (v : X) → slice_get xs i ≡ Some v
      → slice_get (xs ++ ys) i ≡ Some v
  get-before [] ys i v h = absurd cc
  get-before (x ∷ xs) ys zero v h = h
  get-before (x ∷ xs) ys (suc i) v h = get-before xs ys i v h

  pub get-last : (xs : List X) (y : X) → slice_get (xs ++ y ∷ []) (length xs) ≡ Some y
  get-last [] y = refl
  get-last (x ∷ xs) y = get-last xs y

  pub get-other : (xs : List X) (i j : ℕ) (v w : X) → (i ≡ j → ⊥) → slice_get xs i ≡ Some v
      → slice_get (slice_set xs j w) i ≡ Some v
  get-other [] i j v w n h = absurd cc
  get-other (x ∷ xs) zero zero v w n h = absurd (n refl)
  get-other (x ∷ xs) zero (suc j) v w n h = h
  get-other (x ∷ xs) (suc i) zero v w n h = h
  get-other (x ∷ xs) (suc i) (suc j) v w n h = get-other xs i j v w (λ e. n (ap suc e)) h

-- ---- order
pub order-set : (low i : ℕ) (ps : List Piece) (p q : Piece) → slice_get ps i ≡ Some p
    → start_at q ≡ start_at p → HasSpan q → InOrder low ps → InOrder low (slice_set ps i q)
order-set low i [] p q at same span o = absurd cc
order-set low zero (x ∷ xs) p q at same span o =
    let e : x ≡ p = cc in
    let a : start_at q ≡ start_at x = same ∙ sym (ap start_at e) in
    let b : low ≤ start_at x = o.0 in (
      (let c : low ≤ start_at q = omega (arith, a, b) in c),
      span,
      subst (λ (n : ℕ). InOrder n xs) (sym a) o.2,
    )
order-set low (suc i) (x ∷ xs) p q at same span o =
    (o.0, o.1, order-set (start_at x) i xs p q at same span o.2)

-- no piece starts after an instant
abbrev pub StartsBy : ℕ → List Piece → Type 0
StartsBy now [] = Unit {0}
StartsBy now (p ∷ ps) = (start_at p ≤ now) × StartsBy now ps

pub order-push : (low now : ℕ) (ps : List Piece) (q : Piece) → low ≤ now → start_at q ≡ now
    → HasSpan q → StartsBy now ps → InOrder low ps → InOrder low (ps ++ q ∷ [])
order-push low now [] q h e span t o = (
  (let a : low ≤ start_at q = omega (arith, h, e) in a),
  span,
  tt,
)
order-push low now (p ∷ ps) q h e span t o =
    (o.0, o.1, order-push (start_at p) now ps q t.0 e span t.1 o.2)

pub starts-by : (r : KeyRule) (free : Row → Bool) (low now : ℕ) (live taken : List Arrival)
    (ps : List Piece) → weigh (unfit r free now live taken) ps ≡ 0 → InOrder low ps
    → StartsBy now ps
starts-by r free low now live taken [] z o = tt
starts-by r free low now live taken (piece.Open k b ∷ ps) z o =
    (not-lt now b (omega arith), starts-by r free b now live taken ps (omega arith) o.2)
starts-by r free low now live taken (piece.Closed e many ∷ ps) z o = (
  (let a : e.span.end ≤ now = not-lt now e.span.end (omega arith) in
      let b : e.span.start < e.span.end = o.1.0 in omega (arith, a, b)),
  starts-by r free e.span.start now live taken ps (omega arith) o.2,
)
starts-by r free low now live taken (piece.Void b ∷ ps) z o =
    (not-lt now b (omega arith), starts-by r free b now live taken ps (omega arith) o.2)

-- ---- the table
module _ {T : Type 0} where
  pub sets-own : (k : Row) (o : Option (Slot T)) (find : Row → Option (Slot T))
      → sets k o find k ≡ o
  sets-own k o find = ap (λ (b : Bool). cond b o (find k)) (self-key k)

  pub sets-other : (k q : Row) (o : Option (Slot T)) (find : Row → Option (Slot T))
      → tuple_eq k q ≡ false → sets k o find q ≡ find q
  sets-other k q o find n = ap (λ (b : Bool). cond b o (find q)) n

  pub sets-each : (P : Row → Option (Slot T) → Type 0) (k : Row) (o : Option (Slot T))
      (find : Row → Option (Slot T)) → P k o → ((q : Row) → tuple_eq k q ≡ false → P q (find q))
      → (q : Row) → P q (sets k o find q)
  sets-each P k o find own others q = elim (bool-cases (tuple_eq k q)) [
    | inl e ↦ subst (λ (i : Row). P i (sets k o find i)) (same-key k q e)
        (subst (P k) (sym (sets-own k o find)) own)
    | inr e ↦ subst (P q) (sym (sets-other k q o find e)) (others q e)
  ]

  pub sets-same : (k : Row) (o : Option (Slot T)) (find : Row → Option (Slot T)) → find k ≡ o
      → (q : Row) → find q ≡ sets k o find q
  sets-same k o find e q = elim (bool-cases (tuple_eq k q)) [
    | inl h ↦ (ap find (sym (same-key k q h)) ∙ e ∙ sym (sets-own k o find)
        ∙ ap (sets k o find) (same-key k q h))
    | inr h ↦ sym (sets-other k q o find h)
  ]

  pub sets-twice : (k : Row) (o u : Option (Slot T)) (find : Row → Option (Slot T)) (q : Row)
      → sets k u (sets k o find) q ≡ sets k u find q
  sets-twice k o u find q = twice (tuple_eq k q)
    where
      twice : (b : Bool) → cond b u (cond b o (find q)) ≡ cond b u (find q)
      twice true = refl
      twice false = refl

module _ {T : Type 0} (r : KeyRule) (tells : Row → T → RowBags → Type 0) where
  -- the same table
  pub good_find : (free : Row → Bool) (low now : ℕ) (live : List Arrival)
      (find other : Row → Option (Slot T)) (base : ℕ) (ps : List Piece) (taken : List Arrival)
      (sent : List Elem) → ((q : Row) → find q ≡ other q)
      → Good r tells free low now live find base ps taken sent
      → Good r tells free low now live other base ps taken sent
  good_find free low now live find other base ps taken sent e g = record {
    line = g.line;
    order = g.order;
    upto = g.upto;
    linked = λ q. subst (λ (o : Option (Slot T)). LinkedAt q base ps (place_in o)) (e q)
        (g.linked q);
    each_key = λ q. subst (λ (o : Option (Slot T)). Tallied r tells q o (rows_at live)) (e q)
        (g.each_key q);
  }

  -- ---- the key becomes free
  pub good_freed : (low now : ℕ) (live : List Arrival) (find : Row → Option (Slot T)) (k : Row)
      (base : ℕ) (ps : List Piece) (taken : List Arrival) (sent : List Elem)
      → weigh (is_old k now) ps ≡ 0
      → Good r tells no_key low now live find base ps taken sent
      → Good r tells (only_key k) low now live find base ps taken sent
  good_freed low now live find k base ps taken sent o g = record {
    line = line-freed r k now live ps taken sent o g.line;
    order = g.order;
    upto = g.upto;
    linked = g.linked;
    each_key = g.each_key;
  }

  pub linked-slot : (free : Row → Bool) (low now : ℕ) (live : List Arrival)
      (find : Row → Option (Slot T)) (k : Row) (slot : Slot T) (base : ℕ) (ps : List Piece)
      (taken : List Arrival) (sent : List Elem) → find k ≡ Some slot
      → Good r tells free low now live find base ps taken sent → LinkedAt k base ps slot.place
  linked-slot free low now live find k slot base ps taken sent e g =
      subst (λ (o : Option (Slot T)). LinkedAt k base ps (place_in o)) e (g.linked k)

  pub key-slot : (free : Row → Bool) (low now : ℕ) (live : List Arrival)
      (find : Row → Option (Slot T)) (k : Row) (slot : Slot T) (base : ℕ) (ps : List Piece)
      (taken : List Arrival) (sent : List Elem) → find k ≡ Some slot
      → Good r tells free low now live find base ps taken sent
      → tells k slot.tally (rows_at live)
  key-slot free low now live find k slot base ps taken sent e g =
      subst (λ (o : Option (Slot T)). Tallied r tells k o (rows_at live)) e (g.each_key k)

  -- a link to another key's piece
  linked-other : (k q : Row) (base i b : ℕ) (ps : List Piece) (new : Piece) (o : Option ℕ)
      → slice_get ps i ≡ Some (piece.Open k b) → ((j : Row) → opens j new ≡ 0)
      → tuple_eq k q ≡ false → LinkedAt q base ps o → LinkedAt q base (slice_set ps i new) o
  linked-other k q base i b ps new None at shut n l =
      other-shut r k 0 b i [] ps [] [] new at shut q (back-key k q false n) ∙ l
  linked-other k q base i b ps new (Some place) at shut n l = (
    l.0,
    (
      l.1.0,
      get-other ps (place - base) i (piece.Open q l.1.0) new
          (λ e. let a : slice_get ps i ≡ Some (piece.Open q l.1.0) =
          subst (λ (x : ℕ). slice_get ps x ≡ Some (piece.Open q l.1.0)) e l.1.1 in
          apart k q b l.1.0 ps i at a n) l.1.1,
    ),
  )
    where
      apart : (i j : Row) (x y : ℕ) (ls : List Piece) (m : ℕ)
          → slice_get ls m ≡ Some (piece.Open i x)
          → slice_get ls m ≡ Some (piece.Open j y) → tuple_eq i j ≡ false → ⊥
      apart i j x y ls m h g n =
          let a : Some (piece.Open i x) ≡ Some (piece.Open j y) = sym h ∙ g in
          let c : i ≡ j = cc in
          absurd (let d : tuple_eq i j ≡ true = subst (λ (z : Row). tuple_eq i z ≡ true) c
          (self-key i) in
          let f : true ≡ false = sym d ∙ n in cc)

  pub open-is : (k : Row) (base place b : ℕ) (ps : List Piece) → LinkedAt k base ps (Some place)
      → open_start (slice_get ps (place - base)) ≡ Some b
      → slice_get ps (place - base) ≡ Some (piece.Open k b)
  open-is k base place b ps l e =
      let a : open_start (Some (piece.Open k l.1.0)) ≡ Some b =
      sym (ap open_start l.1.1) ∙ e in
      let c : l.1.0 ≡ b = cc in
      subst (λ (x : ℕ). slice_get ps (place - base) ≡ Some (piece.Open k x)) c l.1.1

  -- its piece closes
  pub good_closed : (low now : ℕ) (live : List Arrival) (find : Row → Option (Slot T)) (k : Row)
      (slot new_slot : Slot T) (base place : ℕ) (ps : List Piece) (taken : List Arrival)
      (sent : List Elem) (e : Elem) (many b : ℕ) → find k ≡ Some slot → slot.place ≡ Some place
      → open_start (slice_get ps (place - base)) ≡ Some b → e.span.start ≡ b
      → e.span.end ≡ now → IsInterval e.span.start e.span.end
      → (tells k slot.tally (rows_at live) → IsAnswer r k (rows_at live) e.tuple many)
      → new_slot.tally ≡ slot.tally → new_slot.place ≡ None
      → Good r tells no_key low now live find base ps taken sent
      → Good r tells (only_key k) low now live (sets k (Some new_slot) find) base
      (slice_set ps (place - base) (piece.Closed e many)) taken sent
  good_closed low now live find k slot new_slot base place ps taken sent e many b at slot_at start
      from to inside answer same gone g =
      let i : ℕ = place - base in
      let l0 = linked-slot no_key low now live find k slot base ps taken sent at g in
      let l : LinkedAt k base ps (Some place) =
      subst (λ (o : Option ℕ). LinkedAt k base ps o) slot_at l0 in
      let here : slice_get ps i ≡ Some (piece.Open k b) = open-is k base place b ps l start in
      let t = key-slot no_key low now live find k slot base ps taken sent at g in
      let q : Piece = piece.Closed e many in
      record {
        line = line-closed r k now b i live ps taken sent e many here from to (answer t) g.line;
        order = order-set low i ps (piece.Open k b) q here from inside g.order;
        upto = g.upto;
        linked = sets-each
            (λ (j : Row) (o : Option (Slot T)). LinkedAt j base (slice_set ps i q) (place_in o)) k
            (Some new_slot) find
            (subst (λ (o : Option ℕ). LinkedAt k base (slice_set ps i q) o) (sym gone)
            (own-shut r k now b i live ps taken sent q here (λ j. refl) (g.line.single k)))
            (λ j n. linked-other k j base i b ps q (place_in (find j)) here (λ j. refl) n
            (g.linked j));
        each_key = sets-each (λ (j : Row) (o : Option (Slot T)). Tallied r tells j o (rows_at live))
            k
            (Some new_slot) find
            (subst (λ (a : T). tells k a (rows_at live)) (sym same) t) (λ j n. g.each_key j);
      }

  -- ---- the key is settled
  key-kept : (k : Row) (live : List Arrival) (find : Row → Option (Slot T))
      (slot new_slot : Slot T) → new_slot.tally ≡ slot.tally → tells k slot.tally (rows_at live)
      → ((q : Row) → Tallied r tells q (find q) (rows_at live))
      → (q : Row) → Tallied r tells q (sets k (Some new_slot) find q) (rows_at live)
  key-kept k live find slot new_slot same t each_key =
      sets-each (λ (j : Row) (o : Option (Slot T)). Tallied r tells j o (rows_at live)) k
      (Some new_slot) find (subst (λ (a : T). tells k a (rows_at live)) (sym same) t)
      (λ j n. each_key j)

  pub good_opened : (low now : ℕ) (live : List Arrival) (find : Row → Option (Slot T)) (k : Row)
      (slot new_slot : Slot T) (base : ℕ) (ps : List Piece) (taken : List Arrival)
      (sent : List Elem) → find k ≡ Some slot → slot.place ≡ None
      → new_slot.place ≡ Some (base + length ps) → new_slot.tally ≡ slot.tally
      → 0 < weigh (starts_early r.key k now) live
      → Good r tells (only_key k) low now live find base ps taken sent
      → Good r tells no_key low now live (sets k (Some new_slot) find) base
      (ps ++ piece.Open k now ∷ []) taken sent
  good_opened low now live find k slot new_slot base ps taken sent at none place same some g =
      let l0 = linked-slot (only_key k) low now live find k slot base ps taken sent at g in
      let z : weigh (opens k) ps ≡ 0 = subst (λ (o : Option ℕ). LinkedAt k base ps o) none l0 in
      let p : Piece = piece.Open k now in
      let there : slice_get (ps ++ p ∷ []) ((base + length ps) - base) ≡ Some p =
      (let e : (base + length ps) - base ≡ length ps = omega arith in
      subst (λ (x : ℕ). slice_get (ps ++ p ∷ []) x ≡ Some p) (sym e) (get-last ps p)) in
      record {
        line = line-opened r k now live ps taken sent z some g.line;
        order = order-push low now ps p g.upto refl tt
            (starts-by r (only_key k) low now live taken ps g.line.fit g.order) g.order;
        upto = g.upto;
        linked = sets-each
            (λ (j : Row) (o : Option (Slot T)). LinkedAt j base (ps ++ p ∷ []) (place_in o)) k
            (Some new_slot) find
            (subst (λ (o : Option ℕ). LinkedAt k base (ps ++ p ∷ []) o) (sym place)
            (omega arith, (now, there)))
            (λ j n. pushed j n (place_in (find j)) (g.linked j));
        each_key = key-kept k live find slot new_slot same
            (key-slot (only_key k) low now live find k slot base ps taken sent at g) g.each_key;
      }
    where
      pushed : (j : Row) → tuple_eq k j ≡ false → (o : Option ℕ) → LinkedAt j base ps o
          → LinkedAt j base (ps ++ piece.Open k now ∷ []) o
      pushed j n None l =
          let a = weigh-append (opens j) ps (piece.Open k now ∷ []) in
          let c = zero-if (tuple_eq k j) n in omega (arith, a, c, l)
      pushed j n (Some place) l = (
        l.0,
        (
          l.1.0,
          get-before ps (piece.Open k now ∷ []) (place - base) (piece.Open j l.1.0) l.1.1,
        ),
      )

  pub good_kept : (low now : ℕ) (live : List Arrival) (find : Row → Option (Slot T)) (k : Row)
      (slot new_slot : Slot T) (base place : ℕ) (ps : List Piece) (taken : List Arrival)
      (sent : List Elem) → find k ≡ Some slot → slot.place ≡ Some place
      → new_slot.place ≡ Some place → new_slot.tally ≡ slot.tally
      → 0 < weigh (starts_early r.key k now) live
      → Good r tells (only_key k) low now live find base ps taken sent
      → Good r tells no_key low now live (sets k (Some new_slot) find) base ps taken sent
  good_kept low now live find k slot new_slot base place ps taken sent at is place_is same some g =
      let l0 = linked-slot (only_key k) low now live find k slot base ps taken sent at g in
      let l : LinkedAt k base ps (Some place) =
      subst (λ (o : Option ℕ). LinkedAt k base ps o) is l0 in
      record {
        line = line-kept r k now l.1.0 (place - base) live ps taken sent l.1.1 some g.line;
        order = g.order;
        upto = g.upto;
        linked = sets-each (λ (j : Row) (o : Option (Slot T)). LinkedAt j base ps (place_in o)) k
            (Some new_slot) find
            (subst (λ (o : Option ℕ). LinkedAt k base ps o) (sym place_is) l)
            (λ j n. g.linked j);
        each_key = key-kept k live find slot new_slot same
            (key-slot (only_key k) low now live find k slot base ps taken sent at g) g.each_key;
      }

  pub good_shut : (low now : ℕ) (live : List Arrival) (find : Row → Option (Slot T)) (k : Row)
      (slot new_slot : Slot T) (base : ℕ) (ps : List Piece) (taken : List Arrival)
      (sent : List Elem) → find k ≡ Some slot → slot.place ≡ None → new_slot.place ≡ None
      → new_slot.tally ≡ slot.tally → ((x : Row) → r.gives k (rows_at live) x ≡ 0)
      → Good r tells (only_key k) low now live find base ps taken sent
      → Good r tells no_key low now live (sets k (Some new_slot) find) base ps taken sent
  good_shut low now live find k slot new_slot base ps taken sent at is gone same none g =
      let l0 = linked-slot (only_key k) low now live find k slot base ps taken sent at g in
      let z : weigh (opens k) ps ≡ 0 = subst (λ (o : Option ℕ). LinkedAt k base ps o) is l0 in
      record {
        line = line-shut r k now live ps taken sent z none g.line;
        order = g.order;
        upto = g.upto;
        linked = sets-each (λ (j : Row) (o : Option (Slot T)). LinkedAt j base ps (place_in o)) k
            (Some new_slot) find
            (subst (λ (o : Option ℕ). LinkedAt k base ps o) (sym gone) z) (λ j n. g.linked j);
        each_key = key-kept k live find slot new_slot same
            (key-slot (only_key k) low now live find k slot base ps taken sent at g) g.each_key;
      }

  pub good_voided : (low now : ℕ) (live : List Arrival) (find : Row → Option (Slot T)) (k : Row)
      (slot new_slot : Slot T) (base place : ℕ) (ps : List Piece) (taken : List Arrival)
      (sent : List Elem) → find k ≡ Some slot → slot.place ≡ Some place → new_slot.place ≡ None
      → new_slot.tally ≡ slot.tally → ((x : Row) → r.gives k (rows_at live) x ≡ 0)
      → Good r tells (only_key k) low now live find base ps taken sent
      → Good r tells no_key low now live (sets k (Some new_slot) find) base
      (slice_set ps (place - base) (piece.Void now)) taken sent
  good_voided low now live find k slot new_slot base place ps taken sent at is gone same none g =
      let i : ℕ = place - base in
      let l0 = linked-slot (only_key k) low now live find k slot base ps taken sent at g in
      let l : LinkedAt k base ps (Some place) =
      subst (λ (o : Option ℕ). LinkedAt k base ps o) is l0 in
      let q : Piece = piece.Void now in
      let b : ℕ = l.1.0 in
      let start : now ≡ b = starts-now k now b i live taken ps l.1.1 g.line.fit in
      record {
        line = line-voided r k now b i live ps taken sent l.1.1 none g.line;
        order = order-set low i ps (piece.Open k b) q l.1.1 start tt g.order;
        upto = g.upto;
        linked = sets-each
            (λ (j : Row) (o : Option (Slot T)). LinkedAt j base (slice_set ps i q) (place_in o)) k
            (Some new_slot) find
            (subst (λ (o : Option ℕ). LinkedAt k base (slice_set ps i q) o) (sym gone)
            (own-shut r k now b i live ps taken sent q l.1.1 (λ j. refl) (g.line.single k)))
            (λ j n. linked-other k j base i b ps q (place_in (find j)) l.1.1 (λ j. refl) n
            (g.linked j));
        each_key = key-kept k live find slot new_slot same
            (key-slot (only_key k) low now live find k slot base ps taken sent at g) g.each_key;
      }
    where
      starts-now : (k : Row) (now b i : ℕ) (live taken : List Arrival) (ps : List Piece)
          → slice_get ps i ≡ Some (piece.Open k b)
          → weigh (unfit r (only_key k) now live taken) ps ≡ 0 → now ≡ b
      starts-now k now b i live taken ps at z =
          let m = weigh-member (unfit r (only_key k) now live taken) ps i (piece.Open k b) at in
          starts (tuple_eq k k) (self-key k) now b
          (weigh (starts_early r.key k b) live) (omega (arith, m, z))
        where
          starts : (c : Bool) → c ≡ true → (now b n : ℕ)
              → cond {A = ℕ} (nat_lt now b) 1 0
              + cond c (cond {A = ℕ} (nat_lt b now) 1 0) (none_counted n) ≡ 0 → now ≡ b
          starts true e now b n v = let x : b ≤ now = not-lt now b (omega (arith, v)) in
              let y : now ≤ b = not-lt b now (omega (arith, v)) in omega (arith, x, y)
          starts false e now b n v = absurd cc
