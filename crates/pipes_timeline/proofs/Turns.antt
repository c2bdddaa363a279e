-- What the calls of a timeline promise, from what they did.
use Rattle.std.proofs.Common.{◌≡◌, ℕ, zero, suc, ◌+◌, ◌-◌, ◌≤◌, ◌<◌, Bool, true, false, cond, eqb}
use Rattle.std.proofs.Common.{List, [], ◌∷◌, ◌++◌, map, replicate, Option, Some}
use Rattle.std.proofs.Common.{None, IsSome, slice_get, refl, sym, ap, ◌∙◌, subst, arith}
use Rattle.std.proofs.Common.{append_assoc, append-nil}
use Rattle.std.specs.Bool.{OnTrue}
use Rattle.std.specs.List.{All}
use Rattle.std.proofs.lemmas.Bool.Decides.{nat_tests}
use Rattle.std.proofs.lemmas.List.Elements.{All-head, All-tail}
use Rattle.indexmap.specs.IndexMap.{get}
use Rattle.pipes_time.specs.Interval.{IsInterval}
use Rattle.pipes_tuple.specs.Equal.{tuple_eq}
use Rattle.pipes_stream.specs.declared.Elem.{Elem}
use Rattle.pipes_stream.specs.declared.message.Message.{Message}
use Rattle.pipes_stream.specs.declared.message.Message.TheVariants as message
use Rattle.pipes_stream.specs.Progress.{Progress}
use Rattle.pipes_stream.specs.Lists.{start_of_list, beat, elements}
use Rattle.pipes_stream.proofs.Messages.{run-push, valid-push, elements-append, elements-map}
use Rattle.pipes_timeline.specs.declared.piece.Piece.{Piece}
use Rattle.pipes_timeline.specs.declared.piece.Piece.TheVariants as piece
use Rattle.pipes_timeline.specs.declared.pieces.Pieces.{Pieces}
use Rattle.pipes_timeline.specs.declared.table.Slot.{Slot}
use Rattle.pipes_timeline.specs.declared.timeline.Timeline.{Timeline}
use Rattle.pipes_stream.specs.Weights.{weigh}
use Rattle.pipes_timeline.specs.Rules.{Row, RowBags, Arrival, rows_at, NoneOfKey}
use Rattle.pipes_timeline.specs.Rules.{KeyRule}
use Rattle.pipes_timeline.specs.Ends.{AddsArrival}
use Rattle.pipes_timeline.specs.Lines.{ends_before, start_at, no_key}
use Rattle.pipes_timeline.specs.Queues.{InOrder, LinkedAt, IsShut, Shifts}
use Rattle.pipes_timeline.specs.Tables.{place_in, sets, Tallied, Good, Frees, Settles, Begins}
use Rattle.pipes_timeline.specs.Tables.{Finishes, Cuts}
use Rattle.pipes_timeline.specs.Reached.{HasComeTo}
use Rattle.pipes_timeline.specs.Timelines.{EntersAt, LeavesAt, Runs, Arrives, Leaves, Trims, Passes}
use Rattle.pipes_timeline.specs.Timelines.{Sends, given}
use Rattle.pipes_timeline.specs.LineMoves.{self-key, not-lt, lt-not, is_row, count-rows_at}
use Rattle.pipes_timeline.specs.LineMoves.{line-later}
use Rattle.pipes_timeline.specs.LineOpens.{line-sent, line-passed}
use Rattle.pipes_timeline.proofs.Tabling.{starts-by, sets-own, sets-each, sets-twice}
use Rattle.pipes_timeline.proofs.Tabling.{good_find}
use Rattle.pipes_timeline.proofs.Calling.{from-true}

pub is-some : {X : Type 0} (o : Option X) (v : X) → Some v ≡ o → IsSome o
is-some o v e = subst (λ (p : Option _). IsSome p) e refl

-- ---- at a key
module _ {T : Type 0} (r : KeyRule) (tells : Row → T → RowBags → Type 0) (now : ℕ) (k : Row) where
  pub cuts : (slot freed new_slot : Slot T) (p mid new : Pieces)
      → Frees r tells now k slot freed p mid → Settles r tells now k freed new_slot mid new
      → Cuts r tells now k slot new_slot p new
  cuts slot freed new_slot p mid new frees settles = record {
    good = λ low live taken sent find upto e g.
        (let once : Row → Option (Slot T) = sets k (Some freed) find in
        let f = frees.good low live taken sent find upto e g in
        let d = settles.good low live taken sent once (sets-own k (Some freed) find) f in
        good_find r tells no_key low now live (sets k (Some new_slot) once)
        (sets k (Some new_slot) find) new.base new.queue.items taken sent
        (sets-twice k (Some freed) (Some new_slot) find) d);
  }

  pub enters_found : (find after : Row → Option (Slot T)) (slot new_slot : Slot T)
      (old new : Pieces) (s : Arrival) → find k ≡ Some slot
      → ((q : Row) → after q ≡ sets k (Some new_slot) find q)
      → Begins r tells now k slot new_slot old new s
      → EntersAt r tells now k find after old new s
  enters_found find after slot new_slot old new s e same b = record {
    good = λ low live more taken sent key start inside adds g.
        good_find r tells no_key low now more (sets k (Some new_slot) find) after new.base
        new.queue.items (taken ++ s ∷ []) sent (λ q. sym (same q))
        (b.good low live more taken sent find e key start inside adds g);
  }

  pub enters_absent : (find after : Row → Option (Slot T)) (empty new_slot : Slot T)
      (old new : Pieces) (s : Arrival) → find k ≡ None → empty.place ≡ None
      → ((j : Row) (bags : RowBags) → NoneOfKey r.key j bags → tells j empty.tally bags)
      → ((q : Row) → after q ≡ sets k (Some new_slot) find q)
      → Begins r tells now k empty new_slot old new s
      → EntersAt r tells now k find after old new s
  enters_absent find after empty new_slot old new s e none each_key same b = record {
    good = λ low live more taken sent key start inside adds g.
        (let with : Row → Option (Slot T) = sets k (Some empty) find in
        let shut : LinkedAt k old.base old.queue.items None =
        subst (λ (o : Option (Slot T)). LinkedAt k old.base old.queue.items (place_in o)) e
        (g.linked k) in
        let no_rows : NoneOfKey r.key k (rows_at live) =
        subst (λ (o : Option (Slot T)). Tallied r tells k o (rows_at live)) e (g.each_key k) in
        let g1 : Good r tells no_key low now live with old.base old.queue.items taken sent =
        record {
          line = g.line;
          order = g.order;
          upto = g.upto;
          linked = sets-each
              (λ (j : Row) (o : Option (Slot T)). LinkedAt j old.base old.queue.items
              (place_in o)) k
              (Some empty) find
              (subst (λ (o : Option ℕ). LinkedAt k old.base old.queue.items o) (sym none) shut)
              (λ j n. g.linked j);
          each_key = sets-each
              (λ (j : Row) (o : Option (Slot T)). Tallied r tells j o (rows_at live)) k
              (Some empty) find (each_key k (rows_at live) no_rows) (λ j n. g.each_key j);
        } in
        good_find r tells no_key low now more (sets k (Some new_slot) with) after new.base
        new.queue.items (taken ++ s ∷ []) sent
        (λ q. sets-twice k (Some empty) (Some new_slot) find q ∙ sym (same q))
        (b.good low live more taken sent with (sets-own k (Some empty) find) key start inside adds
        g1));
  }

  pub leaves_found : (find after : Row → Option (Slot T)) (slot new_slot : Slot T)
      (old new : Pieces) (s : Arrival) (idle : Bool) → find k ≡ Some slot
      → ((q : Row) → after q ≡ sets k (Some new_slot) find q)
      → Finishes r tells now k slot new_slot old new s
      → OnTrue idle ((new_slot.place ≡ None) × ((j : Row) (bags : RowBags)
      → tells j new_slot.tally bags → NoneOfKey r.key j bags))
      → LeavesAt r tells now k find after old new s idle
  leaves_found find after slot new_slot old new s idle e same f gone = record {
    good = λ low live less taken sent key end upto adds g.
        good_find r tells no_key low now less (sets k (Some new_slot) find) after new.base
        new.queue.items taken sent (λ q. sym (same q))
        (f.good low live less taken sent find e key end upto adds g);
    gone = λ h. (let a = from-true idle h gone in
        (new_slot, same k ∙ sets-own k (Some new_slot) find, a.0, a.1));
  }

  own-row : (s : Arrival) → is_row s.0 s.1.tuple s ≡ 1
  own-row s = rw (self-key s.1.tuple) (same s.0)
    where
      same : (n : ℕ) → cond {A = ℕ} (eqb n n) 1 0 ≡ 1
      same n = grind (arith, nat_tests)

  -- it can't be that no row has the key
  pub leaves_absent : (find : Row → Option (Slot T)) (old : Pieces) (s : Arrival) → find k ≡ None
      → LeavesAt r tells now k find find old old s false
  leaves_absent find old s e = record {
    good = λ low live less taken sent key end upto adds g. absurd (
        let no_rows : NoneOfKey r.key k (rows_at live) =
        subst (λ (o : Option (Slot T)). Tallied r tells k o (rows_at live)) e (g.each_key k) in
        let a = no_rows s.0 s.1.tuple
        (subst (λ (j : Row). tuple_eq (r.key s.1.tuple) j ≡ true) key
        (self-key (r.key s.1.tuple))) in
        let b = count-rows_at s.1.tuple s.0 live in
        let c = adds.weight (is_row s.0 s.1.tuple) in
        omega (arith, a, b, c, own-row s));
    gone = λ h. absurd cc;
  }

  -- an idle key's slot goes
  pub good_removed : (low : ℕ) (live : List Arrival) (find : Row → Option (Slot T))
      (slot : Slot T) (base : ℕ) (ps : List Piece) (taken : List Arrival) (sent : List Elem)
      → find k ≡ Some slot → slot.place ≡ None
      → ((j : Row) (bags : RowBags) → tells j slot.tally bags → NoneOfKey r.key j bags)
      → Good r tells no_key low now live find base ps taken sent
      → Good r tells no_key low now live (sets k None find) base ps taken sent
  good_removed low live find slot base ps taken sent e none gone g = record {
    line = g.line;
    order = g.order;
    upto = g.upto;
    linked = sets-each (λ (j : Row) (o : Option (Slot T)). LinkedAt j base ps (place_in o)) k None
        find
        (let a : LinkedAt k base ps slot.place =
        subst (λ (o : Option (Slot T)). LinkedAt k base ps (place_in o)) e (g.linked k) in
        subst (λ (o : Option ℕ). LinkedAt k base ps o) none a)
        (λ j n. g.linked j);
    each_key = sets-each (λ (j : Row) (o : Option (Slot T)). Tallied r tells j o (rows_at live)) k
        None
        find
        (gone k (rows_at live)
        (subst (λ (o : Option (Slot T)). Tallied r tells k o (rows_at live)) e (g.each_key k)))
        (λ j n. g.each_key j);
  }

-- ---- time passes
none-before : (n : ℕ) (es : List Arrival) → All (λ s. n ≤ s.1.span.end) es
    → weigh (λ (s : Arrival). ends_before n s.1.span) es ≡ 0
none-before n [] all = refl
none-before n (s ∷ es) all =
    let a = lt-not s.1.span.end n (All-head (λ (d : Arrival). n ≤ d.1.span.end) s es all) in
    let b = none-before n es (All-tail (λ (d : Arrival). n ≤ d.1.span.end) s es all) in
    omega (arith, a, b)

none-by : (n : ℕ) (es : List Arrival) → All (λ s. n < s.1.span.end) es
    → weigh (λ (s : Arrival). ends_before n s.1.span) es ≡ 0
none-by n [] all = refl
none-by n (s ∷ es) all =
    let h : n < s.1.span.end = All-head (λ (d : Arrival). n < d.1.span.end) s es all in
    let a = lt-not s.1.span.end n (omega (arith, h)) in
    let b = none-by n es (All-tail (λ (d : Arrival). n < d.1.span.end) s es all) in
    omega (arith, a, b)

module _ {T : Type 0} (r : KeyRule) (tells : Row → T → RowBags → Type 0) where
  pub good_later : (low now n : ℕ) (live : List Arrival) (find : Row → Option (Slot T))
      (base : ℕ) (ps : List Piece) (taken : List Arrival) (sent : List Elem) → now ≤ n
      → weigh (λ (s : Arrival). ends_before n s.1.span) live ≡ 0
      → Good r tells no_key low now live find base ps taken sent
      → Good r tells no_key low n live find base ps taken sent
  good_later low now n live find base ps taken sent h z g = record {
    line = line-later r now n live ps taken sent h z g.line;
    order = g.order;
    upto = (let a = g.upto in omega (arith, a, h));
    linked = g.linked;
    each_key = g.each_key;
  }

-- ---- the whole
module _ {T R : Type 0} (r : KeyRule) (tells : Row → T → RowBags → Type 0) where
  pub arrives : (old mid new : Timeline T R) (k : Row) (s : Arrival) → k ≡ r.key s.1.tuple
      → EntersAt r tells old.instant k (get tuple_eq old.slots) (get tuple_eq mid.slots) old.pieces
      mid.pieces s → mid.ends ≡ old.ends → AddsArrival s mid.ends new.ends → new.slots ≡ mid.slots
      → new.pieces ≡ mid.pieces
      → new.instant ≡ old.instant → Arrives r tells old new s
  arrives old mid new k s key enters same adds slots pieces now = record {
    now = now;
    adds = subst (λ (es : List Arrival). AddsArrival s es new.ends) same adds;
    good = λ low taken sent start inside g.
        rw (now, slots, pieces)
        (enters.good low old.ends new.ends taken sent (sym key) start inside
        (subst (λ (es : List Arrival). AddsArrival s es new.ends) same adds) g);
  }

  pub leaves_kept : (old new : Timeline T R) (k : Row) (s : Arrival) (idle : Bool)
      → k ≡ r.key s.1.tuple
      → LeavesAt r tells old.instant k (get tuple_eq old.slots) (get tuple_eq new.slots) old.pieces
      new.pieces s idle → new.instant ≡ old.instant → new.ends ≡ old.ends → Leaves r tells old new s
  leaves_kept old new k s idle key l now ends = record {
    now = now;
    ends = ends;
    good = λ low live taken sent end upto adds g.
        subst (λ (n : ℕ). Good r tells no_key low n old.ends (get tuple_eq new.slots)
        new.pieces.base new.pieces.queue.items taken sent) (sym now)
        (l.good low live old.ends taken sent (sym key) end upto adds g);
  }

  pub leaves_removed : (old mid new : Timeline T R) (k : Row) (s : Arrival) (idle : Bool)
      → idle ≡ true → k ≡ r.key s.1.tuple
      → LeavesAt r tells old.instant k (get tuple_eq old.slots) (get tuple_eq mid.slots) old.pieces
      mid.pieces s idle
      → ((q : Row) → get tuple_eq new.slots q ≡ sets k None (get tuple_eq mid.slots) q)
      → new.pieces ≡ mid.pieces → new.instant ≡ old.instant → new.ends ≡ old.ends
      → Leaves r tells old new s
  leaves_removed old mid new k s idle is key l same pieces now ends = record {
    now = now;
    ends = ends;
    good = λ low live taken sent end upto adds g.
        (let gone = l.gone is in
        let a = l.good low live old.ends taken sent (sym key) end upto adds g in
        let b = good_removed r tells old.instant k low old.ends (get tuple_eq mid.slots) gone.0
        mid.pieces.base mid.pieces.queue.items taken sent gone.1 gone.2 gone.3 a in
        let c = good_find r tells no_key low old.instant old.ends
        (sets k None (get tuple_eq mid.slots))
        (get tuple_eq new.slots) mid.pieces.base mid.pieces.queue.items taken sent
        (λ q. sym (same q)) b in
        subst (λ (n : ℕ). Good r tells no_key low n old.ends (get tuple_eq new.slots)
        new.pieces.base new.pieces.queue.items taken sent) (sym now)
        (subst (λ (p : Pieces). Good r tells no_key low old.instant old.ends
        (get tuple_eq new.slots)
        p.base p.queue.items taken sent) (sym pieces) c));
  }

  pub trims_none : (old new : Timeline T R) → new ≡ old → Trims r tells old new
  trims_none old new e = subst (λ (t : Timeline T R). Trims r tells old t) (sym e) (record {
    now = refl;
    ends = refl;
    good = λ low live taken sent upto g. g;
  })

  pub trims_found : (old new : Timeline T R) (k : Row) (slot new_slot : Slot T)
      → get tuple_eq old.slots k ≡ Some slot
      → ((q : Row) → get tuple_eq new.slots q ≡ sets k (Some new_slot) (get tuple_eq old.slots) q)
      → Cuts r tells old.instant k slot new_slot old.pieces new.pieces
      → new.instant ≡ old.instant → new.ends ≡ old.ends → Trims r tells old new
  trims_found old new k slot new_slot e same c now ends = record {
    now = now;
    ends = ends;
    good = λ low live taken sent upto g.
        subst (λ (n : ℕ). Good r tells no_key low n live (get tuple_eq new.slots) new.pieces.base
        new.pieces.queue.items taken sent) (sym now)
        (good_find r tells no_key low old.instant live
        (sets k (Some new_slot) (get tuple_eq old.slots)) (get tuple_eq new.slots)
        new.pieces.base new.pieces.queue.items taken sent (λ q. sym (same q))
        (c.good low live taken sent (get tuple_eq old.slots) upto e g));
  }

  pub passes_turn : (first mid popped left last : Timeline T R) (s : Arrival) (to : ℕ)
      → Passes r tells first mid to → mid.ends ≡ s ∷ popped.ends → s.1.span.end ≤ to
      → All (λ d. s.1.span.end ≤ d.1.span.end) popped.ends → s.1.span.end ≤ 1000000000000000
      → popped.instant ≡ s.1.span.end → popped.slots ≡ mid.slots → popped.pieces ≡ mid.pieces
      → Leaves r tells popped left s → Trims r tells left last → Passes r tells first last to
  passes_turn first mid popped left last s to p ends upto all most now slots pieces leaves trims =
      record {
        good = λ low taken sent h g.
            (let m = p.good low taken sent h g in
            let g1 : Runs r tells low (s ∷ popped.ends) mid taken sent =
            subst (λ (es : List Arrival). Runs r tells low es mid taken sent) ends m.1 in
            let going = g1.line.lives.going in
            let late : mid.instant ≤ s.1.span.end = not-lt s.1.span.end mid.instant
            (omega (arith, going)) in
            let z : weigh (λ (d : Arrival). ends_before s.1.span.end d.1.span)
            (s ∷ popped.ends) ≡ 0 =
            (let a = lt-not s.1.span.end s.1.span.end (omega arith) in
            let b = none-before s.1.span.end popped.ends all in omega (arith, a, b)) in
            let g2 = good_later r tells low mid.instant s.1.span.end (s ∷ popped.ends)
            (get tuple_eq mid.slots)
            mid.pieces.base mid.pieces.queue.items taken sent late z g1 in
            let g3 : Runs r tells low (s ∷ popped.ends) popped taken sent =
            rw (now, slots, pieces) g2 in
            let adds : AddsArrival s popped.ends (s ∷ popped.ends) =
            record { weight = λ f. refl } in
            let g4 = leaves.good low (s ∷ popped.ends) taken sent (sym now)
            (omega (arith, now, most)) adds g3 in
            let later : left.instant ≡ popped.instant = leaves.now in
            let g5 = trims.good low popped.ends taken sent (omega (arith, later, now, most)) g4 in
            let end : last.instant ≡ left.instant = trims.now in
            let same : last.ends ≡ popped.ends = trims.ends ∙ leaves.ends in (
              (let a : last.instant ≤ to = omega (arith, end, later, now, upto) in a),
              subst (λ (es : List Arrival). Runs r tells low es last taken sent) (sym same) g5,
            ));
      }

  pub passes_done : (first mid last : Timeline T R) (to : ℕ) → Passes r tells first mid to
      → All (λ s. to < s.1.span.end) last.ends → last.ends ≡ mid.ends → last.instant ≡ to
      → last.slots ≡ mid.slots → last.pieces ≡ mid.pieces → Passes r tells first last to
  passes_done first mid last to p all ends now slots pieces = record {
    good = λ low taken sent h g.
        (let m = p.good low taken sent h g in
        let g1 = good_later r tells low mid.instant to mid.ends (get tuple_eq mid.slots)
        mid.pieces.base
        mid.pieces.queue.items taken sent m.0
        (none-by to mid.ends
        (subst (λ (es : List Arrival). All (λ s. to < s.1.span.end) es) ends all)) m.1 in (
          (let a : last.instant ≤ to = omega (arith, now) in a),
          (let f : Runs r tells low mid.ends last taken sent = rw (now, slots, pieces) g1 in
              subst (λ (es : List Arrival). Runs r tells low es last taken sent) (sym ends) f),
        ));
  }

-- the same, where the rules are those of the timelines
module _ {T R : Type 0} (rule_of : R → KeyRule) (tells_of : R → Row → T → RowBags → Type 0) where
  pub passes_step : (first mid popped left last : Timeline T R) (s : Arrival) (to : ℕ)
      → mid.rule ≡ first.rule → left.rule ≡ mid.rule
      → Passes (rule_of first.rule) (tells_of first.rule) first mid to
      → mid.ends ≡ s ∷ popped.ends → s.1.span.end ≤ to
      → All (λ d. s.1.span.end ≤ d.1.span.end) popped.ends → s.1.span.end ≤ 1000000000000000
      → popped.instant ≡ s.1.span.end → popped.slots ≡ mid.slots → popped.pieces ≡ mid.pieces
      → Leaves (rule_of mid.rule) (tells_of mid.rule) popped left s
      → Trims (rule_of left.rule) (tells_of left.rule) left last
      → Passes (rule_of first.rule) (tells_of first.rule) first last to
  passes_step first mid popped left last s to same later p ends upto all most now slots pieces
      leaves trims =
      passes_turn (rule_of first.rule) (tells_of first.rule) first mid popped left last s to p ends
      upto all most now slots pieces
      (subst (λ (x : R). Leaves (rule_of x) (tells_of x) popped left s) same leaves)
      (subst (λ (x : R). Trims (rule_of x) (tells_of x) left last) (later ∙ same) trims)

-- ---- pieces are sent
pub reaches-elem : (now : ℕ) (sent : List Message) (e : Elem) → HasComeTo now sent
    → now ≤ e.span.start → IsInterval e.span.start e.span.end
    → HasComeTo e.span.start (sent ++ message.Elem e ∷ [])
reaches-elem now sent e r h inside =
    let at_most : beat sent ≤ now = r.at_most in
    let ran = run-push start_of_list sent (message.Elem e) in
    record {
      valid = valid-push start_of_list sent (message.Elem e) r.valid
          (r.going, (let a : beat sent ≤ e.span.start = omega (arith, at_most, h) in a), inside);
      going = ap (λ (p : Progress). p.ended) ran ∙ r.going;
      at_most = let same : beat (sent ++ message.Elem e ∷ []) ≡ e.span.start =
          ap (λ (p : Progress). p.beat) ran in omega (arith, same);
    }

pub reaches-later : (now then : ℕ) (sent : List Message) → now ≤ then → HasComeTo now sent
    → HasComeTo then sent
reaches-later now then sent h r = record {
  valid = r.valid;
  going = r.going;
  at_most = let at_most : beat sent ≤ now = r.at_most in omega (arith, at_most, h);
}

reaches-many : (n now : ℕ) (sent : List Message) (e : Elem) → HasComeTo now sent
    → now ≤ e.span.start → IsInterval e.span.start e.span.end
    → HasComeTo e.span.start (sent ++ map message.Elem (replicate n e))
reaches-many zero now sent e r h inside =
    subst (λ (ms : List Message). HasComeTo e.span.start ms) (sym (append-nil sent))
    (reaches-later now e.span.start sent h r)
reaches-many (suc n) now sent e r h inside =
    subst (λ (ms : List Message). HasComeTo e.span.start ms)
    (append_assoc sent (message.Elem e ∷ []) (map message.Elem (replicate n e)))
    (reaches-many n e.span.start (sent ++ message.Elem e ∷ []) e
    (reaches-elem now sent e r h inside) (omega arith) inside)

pub order-lower : (low high : ℕ) (ps : List Piece) → low ≤ high → InOrder high ps → InOrder low ps
order-lower low high [] h o = tt
order-lower low high (p ∷ ps) h o = (
  (let a : high ≤ start_at p = o.0 in let b : low ≤ start_at p = omega (arith, a, h) in b),
  o.1,
  o.2,
)

-- the links, where a piece that is not open left at the front
tail-get : (p v : Piece) (ps : List Piece) (n : ℕ) → (p ≡ v → ⊥) → slice_get (p ∷ ps) n ≡ Some v
    → (0 < n) × (slice_get ps (n - 1) ≡ Some v)
tail-get p v ps zero apart h = absurd (apart (let e : Some p ≡ Some v = h in cc))
tail-get p v ps (suc n) apart h = (
  omega arith,
  (let e : suc n - 1 ≡ n = omega arith in
      subst (λ (i : ℕ). slice_get ps i ≡ Some v) (sym e) h),
)

popped-link : (k : Row) (base place : ℕ) (p : Piece) (ps : List Piece)
    → ((b : ℕ) → p ≡ piece.Open k b → ⊥) → LinkedAt k base (p ∷ ps) (Some place)
    → LinkedAt k (base + 1) ps (Some place)
popped-link k base place p ps apart l =
    let a = tail-get p (piece.Open k l.1.0) ps (place - base) (apart l.1.0) l.1.1 in
    let from : base ≤ place = l.0 in
    let pos : 0 < place - base = a.0 in (
      (let c : base + 1 ≤ place = omega (arith, from, pos) in c),
      (
        l.1.0,
        (let e : (place - base) - 1 ≡ place - (base + 1) = omega (arith, from, pos) in
            subst (λ (i : ℕ). slice_get ps i ≡ Some (piece.Open k l.1.0)) e a.1),
      ),
    )

linked-popped : (k : Row) (base : ℕ) (p : Piece) (ps : List Piece) (o : Option ℕ) → IsShut p
    → LinkedAt k base (p ∷ ps) o → LinkedAt k (base + 1) ps o
linked-popped k base (piece.Open j b) ps o s l = absurd s
linked-popped k base (piece.Closed e many) ps None s l = omega (arith, l)
linked-popped k base (piece.Void b) ps None s l = omega (arith, l)
linked-popped k base (piece.Closed e many) ps (Some place) s l =
    popped-link k base place (piece.Closed e many) ps (λ b h. absurd cc) l
linked-popped k base (piece.Void c) ps (Some place) s l =
    popped-link k base place (piece.Void c) ps (λ b h. absurd cc) l

module _ {T : Type 0} (r : KeyRule) (tells : Row → T → RowBags → Type 0) (now : ℕ)
    (live : List Arrival) (find : Row → Option (Slot T)) (base : ℕ) (taken : List Arrival) where
  -- what the first piece gives goes out
  pub good_sent : (low : ℕ) (p : Piece) (ps : List Piece) (sent : List Message) → IsShut p
      → HasComeTo low sent
      → Good r tells no_key low now live find base (p ∷ ps) taken (elements sent)
      → (high : ℕ) × (low ≤ high) × HasComeTo high (sent ++ given p)
      × Good r tells no_key high now live find (base + 1) ps taken (elements (sent ++ given p))
  good_sent low (piece.Open k b) ps sent s reaches g = absurd s
  good_sent low (piece.Closed e many) ps sent s reaches g =
      let by = starts-by r no_key low now live taken (piece.Closed e many ∷ ps) g.line.fit
      g.order in
      let from : low ≤ e.span.start = g.order.0 in
      let all : elements (sent ++ map message.Elem (replicate many e))
      ≡ elements sent ++ replicate many e =
      elements-append sent (map message.Elem (replicate many e))
      ∙ ap (λ (es : List Elem). elements sent ++ es) (elements-map (replicate many e)) in (
        e.span.start,
        from,
        reaches-many many low sent e reaches from g.order.1,
        subst (λ (es : List Elem). Good r tells no_key e.span.start now live find (base + 1) ps
            taken es)
            (sym all) (record {
              line = line-sent r now live e many ps taken (elements sent) g.line;
              order = g.order.2;
              upto = by.0;
              linked = λ k. linked-popped k base (piece.Closed e many) ps (place_in (find k)) tt
                  (g.linked k);
              each_key = g.each_key;
            }),
      )
  good_sent low (piece.Void b) ps sent s reaches g =
      let from : low ≤ b = g.order.0 in (
        low,
        omega arith,
        subst (λ (ms : List Message). HasComeTo low ms) (sym (append-nil sent)) reaches,
        subst (λ (ms : List Message). Good r tells no_key low now live find (base + 1) ps taken
            (elements ms)) (sym (append-nil sent)) (record {
              line = line-passed r now live b ps taken (elements sent) g.line;
              order = order-lower low b ps from g.order.2;
              upto = g.upto;
              linked = λ k. linked-popped k base (piece.Void b) ps (place_in (find k)) tt
                  (g.linked k);
              each_key = g.each_key;
            }),
      )

module _ {T R : Type 0} (r : KeyRule) (tells : Row → T → RowBags → Type 0) where
  pub sends_none : (t : Timeline T R) (out : List Message) → Sends r tells t t out out
  sends_none t out = record {
    more = [];
    appended = sym (append-nil out);
    now = refl;
    ends = refl;
    good = λ taken sent low reaches g. (
      low,
      omega arith,
      subst (λ (ms : List Message). HasComeTo low ms) (sym (append-nil sent)) reaches,
      subst (λ (ms : List Message). Runs r tells low t.ends t taken (elements ms))
          (sym (append-nil sent)) g,
    );
  }

  pub sends_turn : (first mid last : Timeline T R) (p : Piece) (before between now : List Message)
      → Sends r tells first mid before between → Shifts mid.pieces last.pieces (Some p)
      → now ≡ between ++ given p → last.instant ≡ mid.instant → last.ends ≡ mid.ends
      → last.slots ≡ mid.slots → Sends r tells first last before now
  sends_turn first mid last p before between now s shifts appended time ends slots = record {
    more = s.more ++ given p;
    appended = appended ∙ ap (λ (ms : List Message). ms ++ given p) s.appended
        ∙ append_assoc before s.more (given p);
    now = time ∙ s.now;
    ends = ends ∙ s.ends;
    good = λ taken sent low reaches g.
        (let m = s.good taken sent low reaches g in
        let g1 : Good r tells no_key m.0 mid.instant mid.ends (get tuple_eq mid.slots)
        mid.pieces.base
        (p ∷ last.pieces.queue.items) taken (elements (sent ++ s.more)) =
        subst (λ (ps : List Piece). Good r tells no_key m.0 mid.instant mid.ends
        (get tuple_eq mid.slots) mid.pieces.base ps taken (elements (sent ++ s.more)))
        shifts.0 m.3 in
        let n = good_sent r tells mid.instant mid.ends (get tuple_eq mid.slots) mid.pieces.base
        taken
        m.0 p last.pieces.queue.items (sent ++ s.more) shifts.1 m.2 g1 in
        let a : low ≤ m.0 = m.1 in
        let b : m.0 ≤ n.0 = n.1 in
        let all = append_assoc sent s.more (given p) in (
          n.0,
          omega (arith, a, b),
          subst (λ (ms : List Message). HasComeTo n.0 ms) all n.2,
          subst (λ (ms : List Message). Runs r tells n.0 last.ends last taken (elements ms)) all
              (rw (time, ends, slots, shifts.2) n.3),
        ));
  }
