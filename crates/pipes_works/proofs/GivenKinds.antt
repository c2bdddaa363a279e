-- The kinds of a plan's leaves and of its results.
use Rattle.std.proofs.Common.{◌≡◌, ℕ, List, [], Option, Some, slice_get, unwrap_or, refl, sym}
use Rattle.std.proofs.Common.{◌∙◌, ap, subst}
use Rattle.pipes_tuple.specs.declared.value.Kind.{Kind}
use Rattle.pipes_stream.specs.Lawful.{Task}
use Rattle.pipes_plan.specs.declared.plan.Plan.{Plan}
use Rattle.pipes_plan.specs.declared.plan.Plan.TheVariants.{Source, Filter, Map, Union, Join}
use Rattle.pipes_plan.specs.declared.plan.Plan.TheVariants.{Distinct, Group, Minus}
use Rattle.pipes_plan.specs.PlanKinds.{plan_kinds}
use Rattle.pipes_plan.proofs.PlanEquations.{kinds-Source}
use Rattle.pipes_plan.proofs.PlanTyped.{then_is, both_are}
use Rattle.pipes_plan.proofs.PlanInduction.{PlanCases, induct_plan}
use Rattle.pipes_box.specs.Shapes.{Shape, One, Two, shape_of, gives_of}
use Rattle.pipes_box.proofs.Plans.{IsOne, IsTwo, shape-Source}
use Rattle.pipes_box.proofs.PerKind.{is-filter, is-map, is-union, is-join, is-distinct, is-group}
use Rattle.pipes_box.proofs.PerKind.{is-minus}
use Rattle.pipes_works.proofs.Leaves.{IsOver}

-- the plan's leaves have the kinds of their sources, and it gives its results' kinds
record Fit (ss : List (List Kind)) (p : Plan) : Type 0 where
  over : IsOver ss (shape_of ss p)
  gives : (kinds : List Kind) → plan_kinds p ss ≡ Some kinds → gives_of (shape_of ss p) ≡ kinds

module _ (ss : List (List Kind)) where
  one : (plan a : Plan) (f : List Kind → Option (List Kind)) (task : List Kind → Task)
      → IsOne ss plan a f task → Fit ss a → Fit ss plan
  one plan a f task o fit = record {
    over = subst (IsOver ss) (sym o.shape) fit.over;
    gives = λ kinds e.
        let own = then_is f (plan_kinds a ss) kinds (sym o.kinds ∙ e) in
        ap gives_of o.shape ∙ o.gives (gives_of (shape_of ss a)) kinds
        (ap f (fit.gives own.0 own.1) ∙ own.2);
  }

  two : (plan a b : Plan) (f : List Kind → List Kind → Option (List Kind))
      (task : List Kind → List Kind → Task) → IsTwo ss plan a b f task → Fit ss a → Fit ss b
      → Fit ss plan
  two plan a b f task o left right = record {
    over = subst (IsOver ss) (sym o.shape) (left.over, right.over);
    gives = λ kinds e.
        let own = both_are f (plan_kinds a ss) (plan_kinds b ss) kinds (sym o.kinds ∙ e) in
        ap gives_of o.shape
        ∙ o.gives (gives_of (shape_of ss a)) (gives_of (shape_of ss b)) kinds
        (ap (λ (k : List Kind). f k (gives_of (shape_of ss b))) (left.gives own.0 own.2)
        ∙ ap (f own.0) (right.gives own.1 own.3) ∙ own.4);
  }

  cases : PlanCases (Fit ss)
  cases = record {
    source = λ i. record {
      over = subst (IsOver ss) (sym (shape-Source ss i)) refl;
      gives = λ kinds e. ap gives_of (shape-Source ss i)
          ∙ ap (λ (o : Option (List Kind)). unwrap_or o []) (sym (kinds-Source i ss) ∙ e);
    };
    filter = λ p a f. one (Filter p a) a _ _ (is-filter ss (Filter p a) p a refl) f;
    mapped = λ es a f. one (Map es a) a _ _ (is-map ss (Map es a) es a refl) f;
    union = λ a b f g. two (Union a b) a b _ _ (is-union ss (Union a b) a b refl) f g;
    join = λ k c a b f g. two (Join k c a b) a b _ _ (is-join ss (Join k c a b) k c a b refl) f g;
    distinct = λ a f. one (Distinct a) a _ _ (is-distinct ss (Distinct a) a refl) f;
    group = λ k g a f. one (Group k g a) a _ _ (is-group ss (Group k g a) k g a refl) f;
    minus = λ a b f g. two (Minus a b) a b _ _ (is-minus ss (Minus a b) a b refl) f g;
  }

  pub plan-over : (plan : Plan) → IsOver ss (shape_of ss plan)
  plan-over plan = (induct_plan (Fit ss) cases plan).over

  pub plan-gives : (plan : Plan) (kinds : List Kind) → plan_kinds plan ss ≡ Some kinds
      → gives_of (shape_of ss plan) ≡ kinds
  plan-gives plan kinds e = (induct_plan (Fit ss) cases plan).gives kinds e
