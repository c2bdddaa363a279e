-- A timeline to which nothing has come.
use Rattle.std.proofs.Common.{◌≡◌, ℕ, zero, suc, ◌<◌, false, List, [], Option}
use Rattle.std.proofs.Common.{None, refl, sym, ap, subst, arith}
use Rattle.std.specs.Map.{lookup}
use Rattle.indexmap.specs.IndexMap.{get}
use Rattle.pipes_tuple.specs.Equal.{tuple_eq}
use Rattle.pipes_timeline.specs.declared.piece.Piece.{Piece}
use Rattle.pipes_timeline.specs.declared.table.Slot.{Slot}
use Rattle.pipes_timeline.specs.declared.timeline.Timeline.{Timeline}
use Rattle.pipes_stream.specs.Weights.{weigh}
use Rattle.pipes_timeline.specs.Rules.{Row, RowBags, Arrival, KeyRule, rows_at}
use Rattle.pipes_timeline.specs.Lines.{ends_by, no_key}
use Rattle.pipes_timeline.specs.Queues.{FirstIsOpen, LinkedAt}
use Rattle.pipes_timeline.specs.Tables.{Good, Tallied, place_in}
use Rattle.pipes_timeline.specs.Timelines.{reach}
use Rattle.pipes_timeline.specs.Stands.{TimelineStands}

no-answer : (r : KeyRule) (k x : Row) → r.gives k (rows_at []) x ≡ 0
no-answer r k x = pick (r.gives k (rows_at []) x) (r.from k x (rows_at []))
  where
    pick : (n : ℕ) → (0 < n → 0 < 0) → n ≡ 0
    pick zero f = refl
    pick (suc n) f = absurd (let bad = f (omega arith) in omega (arith, bad))

module _ {T : Type 0} (r : KeyRule) (tells : Row → T → RowBags → Type 0) where
  good-new : (find : Row → Option (Slot T)) (base : ℕ) → ((k : Row) → find k ≡ None)
      → Good r tells no_key 0 0 [] find base [] [] []
  good-new find base none = record {
    line = record {
      lives = record {
        gone = [];
        split = λ f. refl;
        over = refl;
        going = refl;
        begun = refl;
        most = refl;
      };
      past = refl;
      covered = refl;
      fit = refl;
      single = λ k. omega arith;
      idle = λ k x h w. no-answer r k x;
      right = λ x t low. absurd (omega (arith, low));
    };
    order = tt;
    upto = omega arith;
    linked = λ k. subst (λ (o : Option (Slot T)). LinkedAt k base [] (place_in o)) (sym (none k))
        refl;
    each_key = λ k. subst (λ (o : Option (Slot T)). Tallied r tells k o (rows_at [])) (sym (none k))
        (λ port row e. refl);
  }

  -- it stands for empty lists
  pub stands_new : {R : Type 0} (t : Timeline T R) → t.instant ≡ 0 → t.slots.entries ≡ []
      → t.pieces.queue.items ≡ [] → t.ends ≡ [] → TimelineStands r tells t 0 false [] []
  stands_new {R} t now empty none live =
      let find : (k : Row) → get tuple_eq t.slots k ≡ None =
      λ k. ap (λ (es : List (Row × Slot T)). lookup (tuple_eq k) es) empty in
      let good = good-new (get tuple_eq t.slots) t.pieces.base find in
      record {
        now = now;
        runs = subst (λ (n : ℕ). Good r tells no_key 0 n t.ends (get tuple_eq t.slots) t.pieces.base
            t.pieces.queue.items [] []) (sym now)
            (subst (λ (es : List Arrival). Good r tells no_key 0 0 es (get tuple_eq t.slots)
            t.pieces.base t.pieces.queue.items [] []) (sym live)
            (subst (λ (ps : List Piece). Good r tells no_key 0 0 [] (get tuple_eq t.slots)
            t.pieces.base ps [] []) (sym none) good));
        over = ap (λ (es : List Arrival). weigh (λ (s : Arrival). ends_by 0 s.1.span) es) live;
        waits = subst FirstIsOpen (sym none) tt;
        sent_valid = tt;
        sent_beat = sym (ap (λ (ps : List Piece). reach ps 0) none);
        sent_ended = refl;
      }
