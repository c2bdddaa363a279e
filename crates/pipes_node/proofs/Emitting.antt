-- What an operator's step leaves of what its node emits.
use Rattle.std.proofs.Common.{◌≡◌, ℕ, List, ◌++◌, sym, ◌∙◌, ap, subst, append_assoc}
use Rattle.pipes_stream.specs.declared.message.Message.{Message}
use Rattle.pipes_stream.specs.Progress.{Progress}
use Rattle.pipes_stream.specs.Lists.{beat, start_of_list}
use Rattle.pipes_stream.specs.Lawful.{Lists, Lawful, Takes, CanTake, with_message}
use Rattle.pipes_node.specs.declared.operator.PlanOperator.{PlanOperator}
use Rattle.pipes_node.specs.Says.{Says}
use Rattle.pipes_node.specs.Merging.{MergedAll}
use Rattle.pipes_node.specs.Operators.{task_of, StandsFor, held_by, lawful_of}
use Rattle.pipes_node.specs.Nodes.{Emits}
use Rattle.pipes_node.proofs.Saying.{lawful-says, says-more}
use Rattle.pipes_node.proofs.Merges.{says-merged}

-- the operator took a message, and what it sent for it is fresh
pub emits-more : (old new : PlanOperator) (port : ℕ) (m : Message)
    (pending fresh now : List Message)
    → Takes (task_of old) (StandsFor old) (StandsFor new) port m fresh now
    → (passed : Lists) (out : List Message) → Emits old passed (out ++ (pending ++ fresh))
    → CanTake (task_of old) passed port m
    → Emits new (with_message passed port m) (out ++ (pending ++ now))
emits-more old new port m pending fresh now takes passed out e can =
    let stands : StandsFor new (with_message passed port m) (e.was ++ takes.sent) =
    takes.stands passed e.was e.stands can in
    let joined : (out ++ (pending ++ fresh)) ++ takes.sent ≡ out ++ (pending ++ now) =
    append_assoc out (pending ++ fresh) takes.sent
    ∙ ap (λ (xs : List Message). out ++ xs) (append_assoc pending fresh takes.sent
    ∙ ap (λ (xs : List Message). pending ++ xs) (sym takes.appended)) in
    record {
      was = e.was ++ takes.sent;
      stands = stands;
      says = subst (Says (e.was ++ takes.sent)) joined
          (says-more start_of_list e.was (out ++ (pending ++ fresh)) takes.sent
          (lawful_of new (with_message passed port m) (e.was ++ takes.sent) stands).valid e.says);
    }

-- what is fresh comes after what is pending
pub emits-merged : (op : PlanOperator) (passed : Lists) (out pending fresh now : List Message)
    (level next : ℕ) → beat (out ++ pending) ≡ level → MergedAll pending level fresh now next
    → Emits op passed (out ++ (pending ++ fresh)) → Emits op passed (out ++ now)
emits-merged op passed out pending fresh now level next low merged e = record {
  was = e.was;
  stands = e.stands;
  says = says-merged e.was out pending fresh now level next low e.says merged;
}

-- the heartbeat of what an operator has sent
pub emits-level : (op : PlanOperator) (passed : Lists) (list : List Message) (level : ℕ)
    → ((taken : Lists) (was : List Message) → StandsFor op taken was → level ≡ beat was)
    → Emits op passed list → beat list ≡ level
emits-level op passed list level now e =
    ap (λ (q : Progress). q.beat) e.says.progress ∙ sym (now passed e.was e.stands)

-- what was put and is pending is all that the operator owes
pub emits-lawful : (op : PlanOperator) (passed : Lists) (list : List Message) → Emits op passed list
    → Lawful (task_of op) passed list (held_by op)
emits-lawful op passed list e = lawful-says (task_of op) passed e.was list (held_by op) e.says
    (lawful_of op passed e.was e.stands)
