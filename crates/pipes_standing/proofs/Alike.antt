-- What is written for a plan is so for another of the same answer.
use Rattle.std.proofs.Common.{◌≡◌, ℕ, ◌<◌, List, subst, sym}
use Rattle.std.specs.List.{All}
use Rattle.pipes_time.specs.Interval.{horizon}
use Rattle.pipes_tuple.specs.declared.value.Kind.{Kind}
use Rattle.pipes_tuple.specs.Bag.{SameBag}
use Rattle.pipes_tuple.proofs.Bags.{SameBag-trans, SameBag-sym}
use Rattle.pipes_plan.specs.declared.plan.Plan.{Plan}
use Rattle.pipes_output.specs.declared.entry.Entry.{Entry}
use Rattle.pipes_semantics.specs.Written.{results}
use Rattle.pipes_written.specs.Written.{Answers, IsTyped, IsWritten}
use Rattle.pipes_standing.specs.Calms.{Rows, AnswerAlike, answer_of, kinds_of}

written-same : (k l : List Kind) (a b : Answers) (m : ℕ) (entries : List Entry) → k ≡ l
    → ((t : ℕ) → t < horizon → SameBag (a t) (b t)) → IsWritten k a m entries
    → IsWritten l b m entries
written-same k l a b m entries kinds same w = record {
  bounded = w.bounded;
  rising = w.rising;
  behind = w.behind;
  typed = subst (λ (x : List Kind). All (IsTyped x) (results entries)) kinds w.typed;
  final = λ before after h t is low within.
      SameBag-trans (w.final before after h t is low within) (same t within);
  done = λ t low within. SameBag-trans (w.done t low within) (same t within);
}

pub alike-back : (schemas : List (List Kind)) (one other : Plan) (rows : Rows) (m : ℕ)
    (entries : List Entry) → AnswerAlike schemas one other rows
    → IsWritten (kinds_of schemas other) (answer_of other rows) m entries
    → IsWritten (kinds_of schemas one) (answer_of one rows) m entries
alike-back schemas one other rows m entries alike w =
    written-same (kinds_of schemas other) (kinds_of schemas one) (answer_of other rows)
    (answer_of one rows) m entries alike.kinds alike.answers w

pub alike-on : (schemas : List (List Kind)) (one other : Plan) (rows : Rows) (m : ℕ)
    (entries : List Entry) → AnswerAlike schemas one other rows
    → IsWritten (kinds_of schemas one) (answer_of one rows) m entries
    → IsWritten (kinds_of schemas other) (answer_of other rows) m entries
alike-on schemas one other rows m entries alike w =
    written-same (kinds_of schemas one) (kinds_of schemas other) (answer_of one rows)
    (answer_of other rows) m entries (sym alike.kinds)
    (λ t within. SameBag-sym (alike.answers t within)) w
