use Rattle.std.proofs.Common.{◌≡◌, ◌≤◌, ◌++◌, length, take, vec_len}
use Rattle.pipes_tuple.specs.Texts.{escaped}
use Rattle.pipes_tuple.proofs.appending.push_escaped.Given as goal

abbrev pub invariant-parts : goal.invariant-parts
invariant-parts l = record {
  longer : vec_len l.initial.out ≤ vec_len l.out;
  kept : take (vec_len l.initial.out) l.out.items ≡ l.initial.out.items;
  written : l.out.items ++ escaped l.rest ≡ l.initial.out.items ++ escaped l.text;
}

abbrev pub decreases-parts : goal.decreases-parts
decreases-parts l = length l.rest
