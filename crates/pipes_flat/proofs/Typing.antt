-- What a node over sources that has a schema says of its expressions.
use Rattle.std.proofs.Common.{◌≡◌, true, List, [], ◌∷◌, map, length, refl, sym, ◌∙◌, ap, subst}
use Rattle.std.proofs.Common.{Option, Some, None}
use Rattle.std.specs.List.{All}
use Rattle.std.specs.Option.{option_and_then}
use Rattle.std.proofs.lemmas.List.Elements.{All-nil, All-cons}
use Rattle.pipes_plan.proofs.PlanTyped.{flag_is}
use Rattle.pipes_tuple.specs.declared.value.Kind.{Kind}
use Rattle.pipes_tuple.specs.declared.value.Kind.TheVariants as kind
use Rattle.pipes_expr.specs.declared.expr.Expr.{Expr}
use Rattle.pipes_plan.specs.declared.plan.Plan.TheVariants.{Source, Filter, Map}
use Rattle.pipes_expr.specs.ExprKind.{IsTypedExpr, expr_kind, kind_in}
use Rattle.pipes_relation.specs.Relations.{IsWidth}
use Rattle.pipes_plan.specs.PlanKinds.{IsTyped, all_kinds, filter_kinds, map_kinds}
use Rattle.pipes_plan.specs.PlanKinds.{is_flag}
use Rattle.pipes_plan.proofs.PlanEquations.{kinds-Source, kinds-Filter, kinds-Map}
use Rattle.pipes_plan.proofs.PlanTyped.{only_if_is, map_is, all_kinds-cons}

-- a filter's condition is a flag
pub condition_is_flag : (p : Expr) (s : List Kind) → IsTyped (Filter p (Source 0)) (s ∷ [])
    → expr_kind p s ≡ Some kind.Flag
condition_is_flag p s typed =
    let all : filter_kinds p s ≡ Some typed.schema = sym (ap (option_and_then (filter_kinds p))
    (kinds-Source 0 (s ∷ []))) ∙ (sym (kinds-Filter p (Source 0) (s ∷ [])) ∙ typed.is) in
    flag_is (expr_kind p s) (only_if_is (is_flag (expr_kind p s)) s typed.schema all).0

-- a map's rows have kinds
pub map_has_kinds : (es : List Expr) (s : List Kind) (typed : IsTyped (Map es (Source 0)) (s ∷ []))
    → map_kinds es s ≡ Some typed.schema
map_has_kinds es s typed =
    sym (ap (option_and_then (map_kinds es)) (kinds-Source 0 (s ∷ [])))
    ∙ (sym (kinds-Map es (Source 0) (s ∷ [])) ∙ typed.is)

each-typed : (es : List Expr) (s t : List Kind) → all_kinds (map (kind_in s) es) ≡ Some t
    → All (λ e. IsTypedExpr e s) es
each-typed [] s t h = All-nil (λ (e : Expr). IsTypedExpr e s)
each-typed (e ∷ es) s t h =
    let a = all_kinds-cons (expr_kind e s) (map (kind_in s) es) t h in
    All-cons (λ (e : Expr). IsTypedExpr e s) e es (record { kind = a.0; is = a.2 })
    (each-typed es s a.1 a.3)

pub exprs_are_typed : (es : List Expr) (s : List Kind) → IsTyped (Map es (Source 0)) (s ∷ [])
    → All (λ e. IsTypedExpr e s) es
exprs_are_typed es s typed = each-typed es s typed.schema (map_is es s typed.schema
    (map_has_kinds es s typed)).0

pub exprs_have_width : (es : List Expr) (s : List Kind) → IsTyped (Map es (Source 0)) (s ∷ [])
    → IsWidth (length es)
exprs_have_width es s typed = (map_is es s typed.schema (map_has_kinds es s typed)).1
