-- The sources that a plan reads are among those that it is typed over.
use Rattle.std.proofs.Common.{◌≡◌, ℕ, ◌<◌, List, [], length, Option, Some}
use Rattle.std.proofs.Common.{sym, ◌∙◌, subst, refl}
use Rattle.std.specs.List.{All}
use Rattle.std.proofs.lemmas.Option.{slice_get_within}
use Rattle.std.proofs.lemmas.List.Elements.{All-cons, All-nil, All-append, All-contains}
use Rattle.pipes_tuple.specs.declared.value.Kind.{Kind}
use Rattle.pipes_stream.specs.Lawful.{Task}
use Rattle.pipes_plan.specs.declared.plan.Plan.{Plan}
use Rattle.pipes_plan.specs.declared.plan.Plan.TheVariants.{Filter, Map, Union, Join}
use Rattle.pipes_plan.specs.declared.plan.Plan.TheVariants.{Distinct, Group, Minus}
use Rattle.pipes_plan.specs.PlanKinds.{plan_kinds, IsTyped}
use Rattle.pipes_plan.proofs.PlanEquations.{kinds-Source}
use Rattle.pipes_plan.proofs.PlanTyped.{then_is, both_are}
use Rattle.pipes_plan.proofs.PlanInduction.{PlanCases, induct_plan}
use Rattle.pipes_box.specs.Shapes.{Shape, shape_of, sources_of}
use Rattle.pipes_box.proofs.Plans.{IsOne, IsTwo, shape-Source}
use Rattle.pipes_box.proofs.PerKind.{is-filter, is-map, is-union, is-join, is-distinct, is-group}
use Rattle.pipes_box.proofs.PerKind.{is-minus}
use Rattle.pipes_works.specs.Sources.{Reads}

module _ (ss : List (List Kind)) where
  abbrev ReadsWithin : Shape → Type 0
  ReadsWithin shape = All (λ s. s < length ss) (sources_of shape)

  abbrev Within : Plan → Type 0
  Within p = (kinds : List Kind) → plan_kinds p ss ≡ Some kinds → ReadsWithin (shape_of ss p)

  one : (plan a : Plan) (f : List Kind → Option (List Kind)) (task : List Kind → Task)
      → IsOne ss plan a f task → Within a → Within plan
  one plan a f task o within kinds e =
      let own = then_is f (plan_kinds a ss) kinds (sym o.kinds ∙ e) in
      subst ReadsWithin (sym o.shape) (within own.0 own.1)

  two : (plan a b : Plan) (f : List Kind → List Kind → Option (List Kind))
      (task : List Kind → List Kind → Task) → IsTwo ss plan a b f task → Within a → Within b
      → Within plan
  two plan a b f task o left right kinds e =
      let own = both_are f (plan_kinds a ss) (plan_kinds b ss) kinds (sym o.kinds ∙ e) in
      subst ReadsWithin (sym o.shape)
      (All-append (λ (s : ℕ). s < length ss) (sources_of (shape_of ss a))
      (sources_of (shape_of ss b)) (left own.0 own.2) (right own.1 own.3))

  cases : PlanCases Within
  cases = record {
    source = λ i kinds e. subst ReadsWithin (sym (shape-Source ss i))
        (All-cons (λ (s : ℕ). s < length ss) i []
        (slice_get_within ss i kinds (sym (kinds-Source i ss) ∙ e))
        (All-nil (λ (s : ℕ). s < length ss)));
    filter = λ p a f. one (Filter p a) a _ _ (is-filter ss (Filter p a) p a refl) f;
    mapped = λ es a f. one (Map es a) a _ _ (is-map ss (Map es a) es a refl) f;
    union = λ a b f g. two (Union a b) a b _ _ (is-union ss (Union a b) a b refl) f g;
    join = λ k c a b f g. two (Join k c a b) a b _ _ (is-join ss (Join k c a b) k c a b refl) f g;
    distinct = λ a f. one (Distinct a) a _ _ (is-distinct ss (Distinct a) a refl) f;
    group = λ k g a f. one (Group k g a) a _ _ (is-group ss (Group k g a) k g a refl) f;
    minus = λ a b f g. two (Minus a b) a b _ _ (is-minus ss (Minus a b) a b refl) f g;
  }

-- a source that a typed plan reads is one of those that there are
pub reads-within : (schemas : List (List Kind)) (plan : Plan) (source : ℕ) → IsTyped plan schemas
    → Reads schemas plan source → source < length schemas
reads-within schemas plan source typed reads =
    All-contains (λ (s : ℕ). s < length schemas) (sources_of (shape_of schemas plan)) source
    (induct_plan (Within schemas) (cases schemas) plan typed.schema typed.is) reads
