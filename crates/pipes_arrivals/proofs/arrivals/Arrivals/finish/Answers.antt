use Rattle.std.proofs.Common.{ap, ◌∙◌}
use Rattle.pipes_feed.specs.Released.{Arrived}
use Rattle.pipes_arrivals.specs.Arriving.{Arriving}
use Rattle.pipes_arrivals.proofs.Coming.{waits-rise}
use Rattle.pipes_arrivals.proofs.arrivals.Arrivals.finish.Goals as goal

pub pass_rest-requires-clause-rises : goal.pass_rest-requires-clause-rises
pass_rest-requires-clause-rises c =
    let a = c.self.inside in
    let held : Arrived = record { newest = a.newest; beat = a.beat; rows = a.waiting } in
    let goes_on = ap (λ (b : Arriving). b.window.ended) c.self.view_is ∙ c.requires in
    waits-rise a.slack held a.window.last (c.self.invariant c.if-self.false goes_on)
