-- What stays as it was, and what holds of the plans at work whichever they are.
use Rattle.std.proofs.Common.{◌≡◌, ℕ, ◌≤◌, List, length, refl, sym, ap, subst, arith}
use Rattle.pipes_time.specs.Interval.{closed}
use Rattle.pipes_tuple.specs.declared.value.Kind.{Kind}
use Rattle.pipes_stream.specs.Lawful.{Lists}
use Rattle.pipes_plan.specs.declared.plan.Plan.{Plan}
use Rattle.pipes_output.specs.declared.entry.Entry.{Entry}
use Rattle.pipes_works.specs.Standing.{source_count}
use Rattle.pipes_written.specs.Written.{IsWritten}
use Rattle.pipes_standing.specs.declared.standing.Standing.{Standing}
use Rattle.pipes_standing.specs.Calms.{Rows, answer_of, kinds_of}
use Rattle.pipes_standing.proofs.Alike.{alike-back}
use Rattle.pipes_moving.specs.declared.moving.Moving.{Moving as Between}
use Rattle.pipes_live.specs.declared.state.State.{State}
use Rattle.pipes_live.specs.declared.state.State.TheVariants as state
use Rattle.pipes_live.specs.declared.live.Live.{Live}
use Rattle.pipes_live.specs.Lives.{AtWork, beat_in}
use Rattle.pipes_live.specs.Deeds.{StaysIn, Stays}

pub stays-alone : (old : State) (s new : Standing) → old ≡ state.Alone s
    → source_count new.works ≡ source_count s.works → StaysIn old (state.Alone new)
stays-alone old s new is count = subst (λ (x : State). StaysIn x (state.Alone new)) (sym is)
    (record { count = count; alone = (λ a. a, λ a. a) })

pub stays-moving : (old : State) (m new : Between) → old ≡ state.Moving m
    → source_count new.fresh_works ≡ source_count m.fresh_works
    → StaysIn old (state.Moving new)
stays-moving old m new is count = subst (λ (x : State). StaysIn x (state.Moving new)) (sym is)
    (record { count = count; alone = (λ a. a, λ a. a) })

pub stays-live : (old new : Live) → StaysIn old.state new.state → new.sources ≡ old.sources
    → new.split ≡ old.split → Stays old new
stays-live old new stays sources split = record {
  count = ap (λ x. length x.items) sources;
  alone = stays.alone;
  split = split;
}

pub stays-same : (l : Live) → Stays l l
stays-same l = record { count = refl; alone = (λ a. a, λ a. a); split = refl }

module _ (schemas : List (List Kind)) (query plan : Plan) (earlier : List Plan) (rows : Rows)
    (split : ℕ) (by_source : Lists) (entries : List Entry) where
  pub at-closes : (x : State) → AtWork x schemas query plan earlier rows split by_source entries
      → split ≤ closed
  at-closes (state.Alone s) a = a.closes
  at-closes (state.Moving m) a = omega (arith, a.split_is, a.moving.closes)
  at-closes state.Gone a = absurd a

  pub at-written : (x : State) → AtWork x schemas query plan earlier rows split by_source entries
      → IsWritten (kinds_of schemas query) (answer_of query rows) (beat_in x) entries
  at-written (state.Alone s) a =
      alike-back schemas query plan rows s.output.beat entries a.alike a.calm.written
  at-written (state.Moving m) a =
      alike-back schemas query a.before rows m.output.beat entries a.alike a.moving.written
  at-written state.Gone a = absurd a
