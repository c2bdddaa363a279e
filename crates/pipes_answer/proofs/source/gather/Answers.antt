use Rattle.std.proofs.Common.{◌≡◌, ◌∙◌, arith, subst, ap, List, ℕ, Option, Some, None}
use Rattle.pipes_tuple.specs.declared.value.Kind.{Kind}
use Rattle.pipes_feed.specs.Items.{arrivals_of, in_order}
use Rattle.pipes_feed.specs.Ahead.{ArrivalFollows, arrivals_ahead}
use Rattle.pipes_feed.specs.State.{fresh_reader}
use Rattle.pipes_answer.specs.Gives.{source_refusal}
use Rattle.pipes_answer.proofs.Taken.{taken-more, taken-end, taken-rows, taken-fit, all-gathered}
use Rattle.pipes_answer.proofs.source.gather.Goals as goal

pub items-preserved : goal.items-preserved
items-preserved g c =
    let inv = c.items.invariant in
    let s = c.args.source.now in
    let follows = subst (λ (n : ℕ). ArrivalFollows s.schema n c.items.reader.reached
    c.next.new.self.reached c.in-Item.item) inv.slack
    (subst (λ (k : List Kind). ArrivalFollows k c.items.reader.slack c.items.reader.reached
    c.next.new.self.reached c.in-Item.item) inv.kinds c.in-Item.ensures.follows) in
    record {
      later = omega (arith, inv.later, c.next.ensures.later);
      name = c.next.ensures.name ∙ inv.name;
      found_at = c.next.ensures.found_at ∙ inv.found_at;
      going = c.in-Item.ensures.ended.1;
      kinds = c.next.ensures.kinds ∙ inv.kinds;
      slack = c.next.ensures.slack ∙ inv.slack;
      window = c.in_ok-release_due-in-Item.ensures.kind ∙ inv.window;
      instant = c.in_ok-release_due-in-Item.ensures.time ∙ inv.instant;
      taken = taken-more s.schema s.slack _ _ _ c.items.reader.reached c.next.new.self.reached
          c.items.waiting c.put.new.self _ c.items.rows _ c.in-Item.item inv.taken
          (c.in-Item.ensures.takes inv.going) follows c.in_ok-put-in-Item.ensures.put
          (rw (c.floor.ensures, c.next.ensures.slack, inv.slack) at
          c.in_ok-release_due-in-Item.ensures);
    }

pub returns-in-Some-clause-gives : goal.returns-in-Some-clause-gives
returns-in-Some-clause-gives g c bytes left =
    let inv = c.items.invariant in
    let s = c.args.source.now in
    let whole = inv.taken.rest (arrivals_of s.schema s.slack bytes)
    (ap (λ (o : Option (List ℕ)). arrivals_ahead (fresh_reader s.schema s.slack) o) left) in
    taken-end s inv.taken.arrivals _ _ c.in-Ended.reason (arrivals_of s.schema s.slack bytes)
    (Some c.in-Some.fault) c.in-Some.ensures (c.in-Ended.ensures.takes inv.going) whole

pub returns-in-Ended-clause-fit : goal.returns-in-Ended-clause-fit
returns-in-Ended-clause-fit g c =
    let inv = c.items.invariant in
    let s = c.args.source.now in
    let all = all-gathered s.schema s.slack inv.taken.arrivals c.items.reader.reached
    c.items.waiting _ c.items.rows _ inv.taken.gathered
    c.in_ok-release_rest-in-Ended.ensures.rows c.in_ok-release_rest-in-Ended.ensures.all in
    taken-fit s.schema (in_order inv.taken.arrivals) _ c.into_rows.result.items all.0 all.1
    c.into_rows.ensures

pub returns-in-Ended-clause-gives : goal.returns-in-Ended-clause-gives
returns-in-Ended-clause-gives g c bytes left =
    let inv = c.items.invariant in
    let s = c.args.source.now in
    let whole = inv.taken.rest (arrivals_of s.schema s.slack bytes)
    (ap (λ (o : Option (List ℕ)). arrivals_ahead (fresh_reader s.schema s.slack) o) left) in
    let none : None ≡ source_refusal c.in-Ended.reason = cc in
    let released = c.in_ok-release_rest-in-Ended.ensures.rows in
    let all = all-gathered s.schema s.slack inv.taken.arrivals c.items.reader.reached
    c.items.waiting _ c.items.rows _ inv.taken.gathered
    released c.in_ok-release_rest-in-Ended.ensures.all in
    let rows = taken-rows (in_order inv.taken.arrivals) _ s.window c.args.time
    c.into_rows.result.items all.0 c.into_rows.ensures (released.kind ∙ inv.window)
    (released.time ∙ inv.instant) in (
      in_order inv.taken.arrivals,
      taken-end s inv.taken.arrivals _ _ c.in-Ended.reason
          (arrivals_of s.schema s.slack bytes) None none (c.in-Ended.ensures.takes inv.going) whole,
      rows,
    )
