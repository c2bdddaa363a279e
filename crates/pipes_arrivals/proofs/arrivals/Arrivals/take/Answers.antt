use Rattle.std.proofs.Common.{ℕ, ◌≤◌, [], ◌∷◌, ◌++◌, ap, ◌∙◌, sym, subst}
use Rattle.pipes_window.specs.declared.item.Item.{Item}
use Rattle.pipes_window.specs.declared.item.Item.TheVariants.{Beat}
use Rattle.pipes_window.specs.Items.{item_stamp}
use Rattle.pipes_window.proofs.Taking.{on_ok}
use Rattle.pipes_feed.specs.Released.{Arrived, held_floor, rows_with, after_arrival}
use Rattle.pipes_feed.specs.Released.{due_of}
use Rattle.pipes_feed.specs.Waiting.{up_to}
use Rattle.pipes_arrivals.specs.Arriving.{Arriving, floor_of}
use Rattle.pipes_arrivals.specs.Taking.{ArrivalsTake, Passes}
use Rattle.pipes_arrivals.proofs.Coming.{waits-rise, waits-more, held-is, floor_is, take-arrival}
use Rattle.pipes_arrivals.proofs.arrivals.Arrivals.take.Goals as goal

pub pass_arrival-done-requires-clause-rises : goal.pass_arrival-done-requires-clause-rises
pass_arrival-done-requires-clause-rises c =
    let a = c.self.inside in
    let held : Arrived = record { newest = a.newest; beat = a.beat; rows = a.waiting } in
    let goes_on = ap (λ (b : Arriving). b.window.ended) c.self.view_is ∙ c.requires.goes_on in
    waits-rise a.slack held a.window.last (c.self.invariant c.if-self.false goes_on)

pub invariant_of-self-2 : goal.invariant_of-self-2
invariant_of-self-2 c unfailed going =
    let a = c.self.inside in
    let x : Item = c.args.arrival in
    let held : Arrived = record { newest = a.newest; beat = a.beat; rows = a.waiting } in
    let stamps = c.stamps_with-newest in
    let goes_on = ap (λ (b : Arriving). b.window.ended) c.self.view_is ∙ c.requires.goes_on in
    let done = sym c.is_err.ensures.value ∙ c.if-is_err.false in
    let order : held_floor a.slack held ≤ item_stamp x =
    subst (λ (b : Arriving). floor_of b ≤ item_stamp x) (sym c.self.view_is) c.requires.order in
    let now = held-is a.slack stamps.result.0 stamps.result.1 c.floor_at-floor.result
    c.pass_arrival-done.new.waiting x held stamps.ensures.newest stamps.ensures.beat
    c.floor_at-floor.ensures (on_ok _ c.pass_arrival-done.result done c.pass_arrival-done.ensures.left) in
    let last = on_ok _ c.pass_arrival-done.result done c.pass_arrival-done.ensures.last
    ∙ floor_is a.slack stamps.result.0 stamps.result.1 c.floor_at-floor.result x held
    stamps.ensures.newest stamps.ensures.beat c.floor_at-floor.ensures in
    waits-more a.slack x held
    (record { newest = stamps.result.0; beat = stamps.result.1; rows = c.pass_arrival-done.new.waiting })
    a.window.last c.pass_arrival-done.new.window.last
    (c.self.invariant c.if-self.false goes_on) order c.requires.below now last

pub returns-clause-takes : goal.returns-clause-takes
returns-clause-takes c =
    let a = c.self.inside in
    let x : Item = c.args.arrival in
    let held : Arrived = record { newest = a.newest; beat = a.beat; rows = a.waiting } in
    let stamps = c.stamps_with-newest in
    let done = sym c.is_err.ensures.value ∙ c.if-is_err.false in
    let order : held_floor a.slack held ≤ item_stamp x =
    subst (λ (b : Arriving). floor_of b ≤ item_stamp x) (sym c.self.view_is) c.requires.order in
    let left : Arrived = record {
      newest = stamps.result.0;
      beat = stamps.result.1;
      rows = c.pass_arrival-done.new.waiting;
    } in
    let now = held-is a.slack stamps.result.0 stamps.result.1 c.floor_at-floor.result
    c.pass_arrival-done.new.waiting x held stamps.ensures.newest stamps.ensures.beat
    c.floor_at-floor.ensures (on_ok _ c.pass_arrival-done.result done c.pass_arrival-done.ensures.left) in
    let at = floor_is a.slack stamps.result.0 stamps.result.1 c.floor_at-floor.result x held
    stamps.ensures.newest stamps.ensures.beat c.floor_at-floor.ensures in
    let passes = on_ok _ c.pass_arrival-done.result done c.pass_arrival-done.ensures.passes in
    let due : Passes (due_of a.slack (after_arrival x held)) a.window c.pass_arrival-done.new.window
    c.args.out.now.items c.pass_arrival-done.new.out.items =
    subst (λ (f : ℕ). Passes (up_to f (rows_with x held.rows) ++ Beat f ∷ []) a.window
    c.pass_arrival-done.new.window c.args.out.now.items c.pass_arrival-done.new.out.items) at passes in
    subst (λ (b : Arriving). ArrivalsTake b (record {
      slack = a.slack;
      held = left;
      window = c.pass_arrival-done.new.window;
      failed = a.failed;
    }) x
    c.args.out.now.items c.pass_arrival-done.new.out.items) c.self.view_is
    (take-arrival a.slack x held left a.window c.pass_arrival-done.new.window a.failed
    c.args.out.now.items c.pass_arrival-done.new.out.items c.if-self.false
    c.pass_arrival-done.ensures.kind c.pass_arrival-done.ensures.ended order c.requires.below now due)
