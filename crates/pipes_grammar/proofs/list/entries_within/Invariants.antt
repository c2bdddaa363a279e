use Rattle.std.proofs.Common.{◌≡◌, ◌-◌, vec_len}
use Rattle.pipes_grammar.specs.ListReading.{after_prefix, entries_within}
use Rattle.pipes_grammar.proofs.list.entries_within.Given as goal

-- what is left to read gives, after the entries so far, the whole
abbrev pub invariant-entries : goal.invariant-entries
invariant-entries g l = record {
  reads : after_prefix l.list.items (entries_within g.T.Entry.entry (l.most - l.counter)
      l.rest) ≡ entries_within g.T.Entry.entry l.most l.fn.tokens;
  count : vec_len l.list ≡ l.counter;
}
