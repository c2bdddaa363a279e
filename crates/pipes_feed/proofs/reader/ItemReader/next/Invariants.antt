use Rattle.std.proofs.Common.{◌≡◌, ◌≤◌, ◌-◌, None}
use Rattle.pipes_feed.specs.Ahead.{arrivals_ahead, KeepsItems, NoneWaits}
use Rattle.pipes_feed.proofs.reader.ItemReader.next.Given as goal

abbrev pub invariant-lines : goal.invariant-lines
invariant-lines g l = record {
  same : KeepsItems (arrivals_ahead l.fn.self (g.S.Source.left l.fn.src))
      (arrivals_ahead l.self (g.S.Source.left l.src));
  kinds : l.self.kinds ≡ l.fn.self.kinds;
  goes_on : l.self.ended ≡ None;
  began : l.fn.self.ended ≡ None;
  items : l.self.reached.items ≡ l.fn.self.reached.items;
  newest : l.self.reached.newest ≡ l.fn.self.reached.newest;
  beat : l.self.reached.beat ≡ l.fn.self.reached.beat;
  slack : l.self.slack ≡ l.fn.self.slack;
  waiting : NoneWaits l.self → NoneWaits l.fn.self;
  bytes : l.fn.self.reached.bytes ≤ l.self.reached.bytes;
  later : g.S.Source.faults l.fn.src ≤ g.S.Source.faults l.src;
  name : g.S.Source.name l.src ≡ g.S.Source.name l.fn.src;
  found_at : g.S.Source.found_at l.src ≡ g.S.Source.found_at l.fn.src;
}

abbrev pub decreases-lines : goal.decreases-lines
decreases-lines g l = 1073741824 - l.self.reached.bytes
