use Rattle.std.proofs.Common.{◌≡◌, ◌≤◌, [], length}
use Rattle.pipes_coalesce.specs.Stands.{now_of, IsBlocked, Releases}
use Rattle.pipes_coalesce.proofs.merge.Coalesce.release_later.Given as goal

abbrev pub invariant-loop-elem : goal.invariant-loop-elem
invariant-loop-elem l = record {
  releases : Releases l.initial.self l.self l.now l.initial.out.items l.out.items;
  partners : l.self.partners ≡ l.initial.self.partners;
  now : l.now ≡ now_of l.self;
  blocked : IsBlocked l.self;
  gone : l.self.split ≤ l.now → l.self.partners ≡ [];
}

abbrev pub decreases-loop-elem : goal.decreases-loop-elem
decreases-loop-elem l = length l.self.later
