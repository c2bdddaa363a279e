-- The plan that took the place of another stands alone.
use Rattle.std.proofs.Common.{◌≡◌, ℕ, List, [], refl, sym, subst, ◌∙◌, arith, inl, inr}
use Rattle.std.proofs.Common.{append-nil}
use Rattle.pipes_tuple.specs.declared.value.Kind.{Kind}
use Rattle.pipes_tuple.proofs.Bags.{SameBag-trans}
use Rattle.pipes_stream.specs.declared.message.Message.{Message}
use Rattle.pipes_stream.specs.Lawful.{Lists}
use Rattle.pipes_plan.specs.declared.plan.Plan.{Plan}
use Rattle.pipes_output.specs.declared.entry.Entry.{Entry}
use Rattle.pipes_halves.proofs.Laws.{split-laws}
use Rattle.pipes_standing.specs.declared.standing.Standing.{Standing}
use Rattle.pipes_standing.specs.Calms.{Rows, Calm, IsSettled}
use Rattle.pipes_moving.specs.declared.moving.Moving.{Moving as Between}
use Rattle.pipes_moving.specs.Moves.{IsMoving, IsPassed, split_of}
use Rattle.pipes_live.specs.declared.state.State.{State}
use Rattle.pipes_live.specs.declared.state.State.TheVariants as state
use Rattle.pipes_live.specs.declared.live.Live.{Live}
use Rattle.pipes_live.specs.Lives.{ServesAlone, ServesMoving, beat_in}
use Rattle.pipes_live.specs.Deeds.{HasPassed, EndsIn, Ends, MakesIn}

module _ (m : Between) (schemas : List (List Kind)) (query plan : Plan) (earlier : List Plan)
    (rows : Rows) (split : ℕ) (by_source : Lists) (entries : List Entry)
    (s : ServesMoving m schemas query plan earlier rows split by_source entries)
    (passed : HasPassed schemas plan split m.output.beat by_source) where
  has-passed : IsPassed m schemas s.before plan s.below s.from
  has-passed = record {
    old_ended = λ k reads. (let own = (s.reads k).0 reads in
        (s.each k own).sides.low.past (omega (arith, passed.reached k own, s.split_is)));
    reached = λ k reads. (let g = s.each k reads in let level = g.sides.high.beat_is in
        omega (arith, g.begun, level));
    passed = elim passed.passed [
      | inl over ↦ inl (omega (arith, over, s.split_is))
      | inr reached ↦ inr (λ k reads. (let level = (s.each k reads).sides.high.beat_is in
          omega (arith, level, reached k reads)))
    ];
  }

  closes : (new : Standing) (got : List Message)
      → Calm new schemas plan rows (split_of m) s.from got entries
      → ServesAlone new schemas query plan rows split by_source entries
  closes new got calm = record {
    base = split_of m;
    given = s.from;
    got = got;
    calm = calm;
    based = omega (arith, s.split_is);
    closes = omega (arith, s.split_is, s.moving.closes);
    each = λ k reads. (let g = s.each k reads in record {
      so_far = split-laws.joins (split_of m) s.base (by_source k) (s.below k) (s.from k) g.sides
          (omega (arith, passed.reached k reads, s.split_is));
      parts = g.high_parts;
    });
    alike = record {
      kinds = s.moving.alike.kinds ∙ s.alike.kinds;
      answers = λ t within. SameBag-trans (s.moving.alike.answers t within)
          (s.alike.answers t within);
    };
    ends = s.ends;
  }

pub ends-moving : (m : Between) (new : Standing)
    → new.output.entries.items ≡ m.output.entries.items → new.output.beat ≡ m.output.beat
    → IsSettled new
    → ((schemas : List (List Kind)) (before after : Plan) (rows : Rows) (base : ℕ)
    (below from : Lists) (entries : List Entry)
    → IsMoving m schemas before after rows base below from entries
    → IsPassed m schemas before after below from
    → (got : List Message) × Calm new schemas after rows (split_of m) from got entries)
    → EndsIn (state.Moving m) (state.Alone new)
ends-moving m new items beat_is settled calm = record {
  entries = items ∙ sym (append-nil m.output.entries.items);
  beat = beat_is;
  alone = tt;
  settled = settled;
  holds = λ schemas query plan earlier rows split by_source entries s passed.
      let r = calm schemas s.before plan rows s.base s.below s.from entries s.moving
      (has-passed m schemas query plan earlier rows split by_source entries s passed) in
      closes m schemas query plan earlier rows split by_source entries s passed new r.0 r.1;
}

pub ends-alone : (s : Standing) → IsSettled s → EndsIn (state.Alone s) (state.Alone s)
ends-alone s settled = record {
  entries = sym (append-nil s.output.entries.items);
  beat = refl;
  alone = tt;
  settled = settled;
  holds = λ schemas query plan earlier rows split by_source entries at passed. at;
}

pub ends-live : (old new : Live) (before : State) → before ≡ old.state → EndsIn before new.state
    → new.sources ≡ old.sources → new.split ≡ old.split → Ends old new
ends-live old new before is e sources split = record {
  entries = subst (λ (x : State). MakesIn x new.state []) is e.entries;
  beat = subst (λ (x : State). beat_in new.state ≡ beat_in x) is e.beat;
  alone = e.alone;
  settled = e.settled;
  holds = λ schemas query plan earlier rows by_source entries s passed. record {
    at_work = rw split (e.holds schemas query plan earlier rows old.split by_source entries
        (rw is s.at_work) (rw is passed));
    sources = rw sources s.sources;
  };
}
