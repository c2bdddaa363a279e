use Rattle.std.proofs.Common.{◌≡◌, ◌≤◌, ◌++◌, List, ℕ, Option}
use Rattle.pipes_stream.specs.declared.Elem.{Elem}
use Rattle.pipes_stream.specs.Lists.{elements}
use Rattle.pipes_results.specs.Kept.{Keeps, form_of}
use Rattle.pipes_inline.proofs.sending.send_all.Given as goal

abbrev pub invariant-top : goal.invariant-top
invariant-top g l = record {
  can : (goal.iterator-top g).can_next l.message-iterator;
  finite : (goal.iterator-top g).is_finite l.message-iterator;
  form : form_of l.results ≡ form_of l.initial.results;
  keeps : (init : Option (List ℕ)) (elems : List Elem) → Keeps init (g.K.Sink.written l.initial.out)
      l.initial.results elems → Keeps init (g.K.Sink.written l.out) l.results
      (elems ++ elements l.yielded);
  later : g.K.Sink.faults l.initial.out ≤ g.K.Sink.faults l.out;
}
