-- Which changes of a list leave what it says.
use Rattle.std.proofs.Common.{◌≡◌, ℕ, ◌<◌, List, ◌++◌, refl, sym, ◌∙◌, ap, subst, arith}
use Rattle.std.specs.List.{All}
use Rattle.pipes_tuple.specs.declared.value.Value.{Value}
use Rattle.pipes_tuple.specs.Bag.{SameBag}
use Rattle.pipes_tuple.specs.Kinds.{Fits}
use Rattle.pipes_stream.specs.declared.Elem.{Elem}
use Rattle.pipes_stream.specs.declared.message.Message.{Message}
use Rattle.pipes_stream.specs.Progress.{Progress}
use Rattle.pipes_stream.specs.Snapshot.{snapshot}
use Rattle.pipes_stream.specs.Lists.{run, start_of_list, ValidFrom, beat, elements}
use Rattle.pipes_stream.specs.Lawful.{Lists, Task, Lawful, least, all_elements, floor, IsCovered}
use Rattle.pipes_stream.proofs.Messages.{run-append, valid-append, valid-suffix, elements-append}
use Rattle.pipes_node.specs.Says.{SaysFrom, Says}

pub says-self : (p : Progress) (xs : List Message) → ValidFrom p xs → SaysFrom p xs xs
says-self p xs v = record { valid = v; progress = refl; same_elements = refl }

pub says-then : (p : Progress) (xs ys zs : List Message) → SaysFrom p xs ys → SaysFrom p ys zs
    → SaysFrom p xs zs
says-then p xs ys zs a b = record {
  valid = b.valid;
  progress = b.progress
      ∙ a.progress;
  same_elements = b.same_elements ∙ a.same_elements;
}

-- more after both
pub says-more : (p : Progress) (xs ys more : List Message) → ValidFrom p (xs ++ more)
    → SaysFrom p xs ys → SaysFrom p (xs ++ more) (ys ++ more)
says-more p xs ys more v s = record {
  valid = valid-append p ys more s.valid (subst (λ (q : Progress). ValidFrom q more)
      (sym s.progress) (valid-suffix p xs more v));
  progress = run-append p ys more ∙ (ap (λ (q : Progress). run q more) s.progress
      ∙ sym (run-append p xs more));
  same_elements = elements-append ys more
      ∙ (ap (λ (es : List Elem). es ++ elements more) s.same_elements
      ∙ sym (elements-append xs more));
}

-- the same before both
pub says-after : (p : Progress) (before xs ys : List Message) → ValidFrom p before
    → SaysFrom (run p before) xs ys → SaysFrom p (before ++ xs) (before ++ ys)
says-after p before xs ys v s = record {
  valid = valid-append p before ys v s.valid;
  progress = run-append p before ys ∙ (s.progress ∙ sym (run-append p before xs));
  same_elements = elements-append before ys
      ∙ (ap (λ (es : List Elem). elements before ++ es) s.same_elements
      ∙ sym (elements-append before xs));
}

-- what an operator owes of the list that it sent, it owes of each list that says the same
pub lawful-says : (task : Task) (taken : Lists) (was now : List Message) (held : ℕ) → Says was now
    → Lawful task taken was held → Lawful task taken now held
lawful-says task taken was now held s l =
    let beats : beat now ≡ beat was = ap (λ (q : Progress). q.beat) s.progress in
    record {
      valid = s.valid;
      fits = subst (λ (es : List Elem). All (λ e. Fits e.tuple task.gives) es) (sym s.same_elements)
          l.fits;
      answer = λ t h.
          subst (λ (es : List Elem). SameBag (snapshot es t)
          (task.meaning (λ port. snapshot (elements (taken port)) t))) (sym s.same_elements)
          (l.answer t (omega (arith, beats, h)));
      below = omega (arith, beats, l.below);
      above = omega (arith, beats, l.above);
      prompt = λ h. beats ∙ l.prompt h;
      ends = λ h. (ap (λ (q : Progress). q.ended) s.progress ∙ (l.ends h).0, (l.ends h).1);
      few = l.few;
      spans = subst (λ (es : List Elem). All (IsCovered (all_elements task.ports taken)) es)
          (sym s.same_elements) l.spans;
    }
