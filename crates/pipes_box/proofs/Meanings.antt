-- What a plan of tasks makes of bags is what the algebra makes of its sources' bags.
use Rattle.std.proofs.Common.{◌≡◌, ℕ, ◌+◌, ◌<◌, List, [], ◌++◌, map}
use Rattle.std.proofs.Common.{sym, ◌∙◌, ap, subst}
use Rattle.std.specs.List.{filter}
use Rattle.pipes_tuple.specs.declared.value.Value.{Value}
use Rattle.pipes_tuple.specs.declared.value.Kind.{Kind}
use Rattle.pipes_tuple.specs.Bag.{SameBag}
use Rattle.pipes_stream.specs.declared.message.Message.{Message}
use Rattle.pipes_stream.specs.Snapshot.{snapshot}
use Rattle.pipes_stream.specs.Lists.{elements}
use Rattle.pipes_stream.specs.Lawful.{Lists}
use Rattle.pipes_relation.specs.declared.lists.Pair.{Pair}
use Rattle.pipes_relation.specs.declared.lists.Agg.{Agg}
use Rattle.pipes_expr.specs.declared.expr.Expr.{Expr}
use Rattle.pipes_plan.specs.declared.plan.Plan.{Plan}
use Rattle.pipes_plan.specs.declared.plan.Plan.TheVariants.{Source, Filter, Map, Union, Join}
use Rattle.pipes_plan.specs.declared.plan.Plan.TheVariants.{Distinct, Group, Minus}
use Rattle.pipes_expr.specs.ExprValue.{passes}
use Rattle.pipes_relation.specs.Relations.{values_of, joined, distinct, grouped, minus}
use Rattle.pipes_plan.specs.Algebra.{alg}
use Rattle.pipes_plan.proofs.PlanEquations.{alg-Source, alg-Filter, alg-Map, alg-Union, alg-Join}
use Rattle.pipes_plan.proofs.PlanEquations.{alg-Distinct, alg-Group, alg-Minus}
use Rattle.pipes_plan.proofs.PlanInduction.{PlanCases, induct_plan}
use Rattle.pipes_box.specs.Shapes.{Shape, shape_of, leaf_count, meaning_of, AtSources}
use Rattle.pipes_box.specs.Shapes.{Answers, FollowsPlan}
use Rattle.pipes_box.proofs.Plans.{shape-Source}
use Rattle.pipes_box.proofs.PerKind.{shape-Filter, shape-Map, shape-Union, shape-Join}
use Rattle.pipes_box.proofs.PerKind.{shape-Distinct, shape-Group, shape-Minus}

-- the plan's tasks make what its algebra makes
abbrev Means : List (List Kind) → Plan → Type 0
Means ss p = (n : ℕ) (bags : ℕ → List (List Value)) (sources : List (List (List Value)))
    → AtSources (shape_of ss p) n bags sources
    → meaning_of (shape_of ss p) n bags ≡ alg p sources

cases : (ss : List (List Kind)) → PlanCases (Means ss)
cases ss = record {
  source = λ i n bags sources at.
      ap (λ (s : Shape). meaning_of s n bags) (shape-Source ss i)
      ∙ subst (λ (s : Shape). AtSources s n bags sources) (shape-Source ss i) at
      ∙ sym (alg-Source i sources);
  filter = λ p a f n bags sources at.
      ap (λ (s : Shape). meaning_of s n bags) (shape-Filter ss p a)
      ∙ ap (filter (passes p)) (f n bags sources
      (subst (λ (s : Shape). AtSources s n bags sources) (shape-Filter ss p a) at))
      ∙ sym (alg-Filter p a sources);
  mapped = λ es a f n bags sources at.
      ap (λ (s : Shape). meaning_of s n bags) (shape-Map ss es a)
      ∙ ap (map (values_of es)) (f n bags sources
      (subst (λ (s : Shape). AtSources s n bags sources) (shape-Map ss es a) at))
      ∙ sym (alg-Map es a sources);
  union = λ a b f g n bags sources at.
      let parts = subst (λ (s : Shape). AtSources s n bags sources) (shape-Union ss a b) at in
      let m : ℕ = n + leaf_count (shape_of ss a) in
      ap (λ (s : Shape). meaning_of s n bags) (shape-Union ss a b)
      ∙ ap (λ (rows : List (List Value)). rows ++ meaning_of (shape_of ss b) m bags)
      (f n bags sources parts.0)
      ∙ ap (λ (rows : List (List Value)). alg a sources ++ rows) (g m bags sources parts.1)
      ∙ sym (alg-Union a b sources);
  join = λ k c a b f g n bags sources at.
      let parts = subst (λ (s : Shape). AtSources s n bags sources) (shape-Join ss k c a b) at in
      let m : ℕ = n + leaf_count (shape_of ss a) in
      ap (λ (s : Shape). meaning_of s n bags) (shape-Join ss k c a b)
      ∙ ap (λ (rows : List (List Value)). joined k c rows (meaning_of (shape_of ss b) m bags))
      (f n bags sources parts.0)
      ∙ ap (λ (rows : List (List Value)). joined k c (alg a sources) rows)
      (g m bags sources parts.1)
      ∙ sym (alg-Join k c a b sources);
  distinct = λ a f n bags sources at.
      ap (λ (s : Shape). meaning_of s n bags) (shape-Distinct ss a)
      ∙ ap distinct (f n bags sources
      (subst (λ (s : Shape). AtSources s n bags sources) (shape-Distinct ss a) at))
      ∙ sym (alg-Distinct a sources);
  group = λ k g a f n bags sources at.
      ap (λ (s : Shape). meaning_of s n bags) (shape-Group ss k g a)
      ∙ ap (grouped k g) (f n bags sources
      (subst (λ (s : Shape). AtSources s n bags sources) (shape-Group ss k g a) at))
      ∙ sym (alg-Group k g a sources);
  minus = λ a b f g n bags sources at.
      let parts = subst (λ (s : Shape). AtSources s n bags sources) (shape-Minus ss a b) at in
      let m : ℕ = n + leaf_count (shape_of ss a) in
      ap (λ (s : Shape). meaning_of s n bags) (shape-Minus ss a b)
      ∙ ap (λ (rows : List (List Value)). minus rows (meaning_of (shape_of ss b) m bags))
      (f n bags sources parts.0)
      ∙ ap (λ (rows : List (List Value)). minus (alg a sources) rows) (g m bags sources parts.1)
      ∙ sym (alg-Minus a b sources);
}

-- an answer of the tasks follows the plan
pub follows-plan : (schemas : List (List Kind)) (plan : Plan) (given : Lists) (got : List Message)
    → Answers (shape_of schemas plan) 0 given got
    → FollowsPlan schemas plan given got
follows-plan schemas plan given got answers = λ t sources below at.
    subst (SameBag (snapshot (elements got) t)) (induct_plan (Means schemas) (cases schemas) plan 0
    (λ leaf. snapshot (elements (given leaf)) t) sources at) (answers.answer t below)
