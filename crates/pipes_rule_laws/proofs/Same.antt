-- What a typed node says of its children, and when two plans mean the same.
use Rattle.std.proofs.Common.{◌≡◌, ℕ, List, ◌++◌, refl, sym, ap, ◌∙◌, subst, true, Option, Some}
use Rattle.std.proofs.Common.{None}
use Rattle.std.specs.Option.{option_and_then}
use Rattle.pipes_tuple.specs.declared.value.Kind.{Kind}
use Rattle.pipes_tuple.specs.declared.value.Kind.TheVariants as kind
use Rattle.pipes_tuple.specs.Bag.{SameBag}
use Rattle.pipes_tuple.proofs.Bags.{SameBag-refl, SameBag-sym, SameBag-trans}
use Rattle.pipes_expr.specs.ExprValue.{Row}
use Rattle.pipes_expr.specs.declared.expr.Expr.{Expr}
use Rattle.pipes_relation.specs.declared.lists.Pair.{Pair}
use Rattle.pipes_relation.specs.declared.lists.Agg.{Agg}
use Rattle.pipes_plan.specs.declared.plan.Plan.{Plan}
use Rattle.pipes_plan.specs.declared.plan.Plan.TheVariants.{Filter, Map, Union, Join, Distinct}
use Rattle.pipes_plan.specs.declared.plan.Plan.TheVariants.{Group, Minus}
use Rattle.pipes_plan.specs.PlanKinds.{plan_kinds, IsTyped, filter_kinds, map_kinds, join_kinds}
use Rattle.pipes_plan.specs.PlanKinds.{group_kinds, sides_kinds, is_flag}
use Rattle.pipes_expr.specs.ExprKind.{expr_kind}
use Rattle.pipes_plan.proofs.PlanEquations.{kinds-Filter, kinds-Map, kinds-Union, kinds-Join}
use Rattle.pipes_plan.proofs.PlanEquations.{kinds-Distinct, kinds-Group, kinds-Minus}
use Rattle.pipes_plan.proofs.PlanTyped.{then_is, both_are, only_if_is, filter_is, sides_are}
use Rattle.pipes_plan.proofs.PlanTyped.{join_is, flag_is}
use Rattle.pipes_rewrite.specs.SameMeaning.{SameMeaning, Alike}

pub some_schema : {s t : List Kind} → Some s ≡ Some t → s ≡ t
some_schema h = cc

-- equal lists of rows
pub same_rows : {xs ys : List Row} → xs ≡ ys → SameBag xs ys
same_rows {xs} {ys} e = subst (SameBag xs) e (SameBag-refl xs)

-- equal lists on both sides of an operator
pub both_equal : (f : List Row → List Row → List Row) {xs ys us vs : List Row} → xs ≡ ys
    → us ≡ vs → f xs us ≡ f ys vs
both_equal f {xs} {ys} {us} {vs} e g = ap (λ (rows : List Row). f rows us) e ∙ ap (f ys) g

-- what holds of the two sides of an equation
pub same_answers : {xs ys xs' ys' : List Row} → xs' ≡ xs → ys' ≡ ys → SameBag xs ys
    → SameBag xs' ys'
same_answers {xs} {ys} {xs'} {ys'} e f s = SameBag-trans (same_rows e)
    (SameBag-trans s (SameBag-sym (same_rows f)))

module _ (ss : List (List Kind)) where
  pub alike-sym : (old new : Plan) → Alike ss old new → Alike ss new old
  alike-sym old new h t u = let s = h u t in
      record { kinds = sym s.kinds; answers = λ bags fit. SameBag-sym (s.answers bags fit) }

  -- the children of a typed node
  pub record Under (a whole : Plan) : Type 0 where
    pub schema : List Kind
    pub is : plan_kinds a ss ≡ Some schema
    pub whole_is : plan_kinds whole ss ≡ Some schema

  -- a filter keeps the schema
  pub filter_under : (p : Expr) (a : Plan) → IsTyped (Filter p a) ss → Under a (Filter p a)
  filter_under p a t =
      let w = then_is (filter_kinds p) (plan_kinds a ss) t.schema (sym (kinds-Filter p a ss)
      ∙ t.is) in
      record {
        schema = t.schema;
        is = w.1 ∙ ap Some (filter_is p w.0 t.schema w.2);
        whole_is = t.is;
      }

  pub distinct_under : (a : Plan) → IsTyped (Distinct a) ss → Under a (Distinct a)
  distinct_under a t = record {
    schema = t.schema;
    is = sym (kinds-Distinct a ss) ∙ t.is;
    whole_is = t.is;
  }

  -- the sides of a union or a difference have its schema
  pub record UnderBoth (a b whole : Plan) : Type 0 where
    pub schema : List Kind
    pub left : plan_kinds a ss ≡ Some schema
    pub right : plan_kinds b ss ≡ Some schema
    pub whole_is : plan_kinds whole ss ≡ Some schema

  sides_under : (whole a b : Plan) → plan_kinds whole ss ≡ option_and_then
      (λ s. option_and_then (sides_kinds s) (plan_kinds b ss)) (plan_kinds a ss)
      → IsTyped whole ss → UnderBoth a b whole
  sides_under whole a b e t =
      let w = both_are sides_kinds (plan_kinds a ss) (plan_kinds b ss) t.schema (sym e ∙ t.is) in
      let s = sides_are w.0 w.1 t.schema w.4 in
      record {
        schema = t.schema;
        left = w.2 ∙ ap Some s.0;
        right = w.3 ∙ ap Some s.1;
        whole_is = t.is;
      }

  pub union_under : (a b : Plan) → IsTyped (Union a b) ss → UnderBoth a b (Union a b)
  union_under a b t = sides_under (Union a b) a b (kinds-Union a b ss) t

  pub minus_under : (a b : Plan) → IsTyped (Minus a b) ss → UnderBoth a b (Minus a b)
  minus_under a b t = sides_under (Minus a b) a b (kinds-Minus a b ss) t

  -- a join has the schemas of its sides, one after the other
  pub record UnderJoin (k : List Pair) (c : Expr) (a b : Plan) : Type 0 where
    pub left_kinds : List Kind
    pub right_kinds : List Kind
    pub left : plan_kinds a ss ≡ Some left_kinds
    pub right : plan_kinds b ss ≡ Some right_kinds
    pub typed : join_kinds k c left_kinds right_kinds ≡ Some (left_kinds ++ right_kinds)
    pub whole_is : plan_kinds (Join k c a b) ss ≡ Some (left_kinds ++ right_kinds)

  pub join_under : (k : List Pair) (c : Expr) (a b : Plan) → IsTyped (Join k c a b) ss
      → UnderJoin k c a b
  join_under k c a b t =
      let w = both_are (join_kinds k c) (plan_kinds a ss) (plan_kinds b ss) t.schema
      (sym (kinds-Join k c a b ss) ∙ t.is) in
      let e = (join_is k c w.0 w.1 t.schema w.4).0 in
      record {
        left_kinds = w.0;
        right_kinds = w.1;
        left = w.2;
        right = w.3;
        typed = w.4 ∙ ap Some (sym e);
        whole_is = t.is ∙ ap Some (sym e);
      }

  -- a map or a group has its schema by that of the plan below it
  pub record UnderMade (f : List Kind → Option (List Kind)) (a whole : Plan) : Type 0 where
    pub below_kinds : List Kind
    pub schema : List Kind
    pub below : plan_kinds a ss ≡ Some below_kinds
    pub typed : f below_kinds ≡ Some schema
    pub whole_is : plan_kinds whole ss ≡ Some schema

  made_under : (f : List Kind → Option (List Kind)) (a whole : Plan)
      → plan_kinds whole ss ≡ option_and_then f (plan_kinds a ss) → IsTyped whole ss
      → UnderMade f a whole
  made_under f a whole e t =
      let w = then_is f (plan_kinds a ss) t.schema (sym e ∙ t.is) in
      record { below_kinds = w.0; schema = t.schema; below = w.1; typed = w.2; whole_is = t.is }

  pub map_under : (es : List Expr) (a : Plan) → IsTyped (Map es a) ss
      → UnderMade (map_kinds es) a (Map es a)
  map_under es a t = made_under (map_kinds es) a (Map es a) (kinds-Map es a ss) t

  pub group_under : (k : List ℕ) (g : List Agg) (a : Plan) → IsTyped (Group k g a) ss
      → UnderMade (group_kinds k g) a (Group k g a)
  group_under k g a t = made_under (group_kinds k g) a (Group k g a) (kinds-Group k g a ss) t

  pub typed_as : (a : Plan) (s : List Kind) → plan_kinds a ss ≡ Some s → IsTyped a ss
  typed_as a s e = record { schema = s; is = e }

  -- ---- nodes that keep the schema

  pub filter_keeps : (p : Expr) (a : Plan) → IsTyped (Filter p a) ss
      → plan_kinds (Filter p a) ss ≡ plan_kinds a ss
  filter_keeps p a t = let u = filter_under p a t in u.whole_is ∙ sym u.is

  pub filter_typed : (p : Expr) (a : Plan) → IsTyped (Filter p a) ss → IsTyped a ss
  filter_typed p a t = let u = filter_under p a t in typed_as a u.schema u.is

  pub distinct_keeps : (a : Plan) → plan_kinds (Distinct a) ss ≡ plan_kinds a ss
  distinct_keeps a = kinds-Distinct a ss

  pub distinct_typed : (a : Plan) → IsTyped (Distinct a) ss → IsTyped a ss
  distinct_typed a t = let u = distinct_under a t in typed_as a u.schema u.is

  pub union_keeps : (a b : Plan) → IsTyped (Union a b) ss
      → plan_kinds (Union a b) ss ≡ plan_kinds a ss
  union_keeps a b t = let u = union_under a b t in u.whole_is ∙ sym u.left

  pub union_keeps_right : (a b : Plan) → IsTyped (Union a b) ss
      → plan_kinds (Union a b) ss ≡ plan_kinds b ss
  union_keeps_right a b t = let u = union_under a b t in u.whole_is ∙ sym u.right

  pub union_left_typed : (a b : Plan) → IsTyped (Union a b) ss → IsTyped a ss
  union_left_typed a b t = let u = union_under a b t in typed_as a u.schema u.left

  pub union_right_typed : (a b : Plan) → IsTyped (Union a b) ss → IsTyped b ss
  union_right_typed a b t = let u = union_under a b t in typed_as b u.schema u.right

  pub minus_keeps : (a b : Plan) → IsTyped (Minus a b) ss
      → plan_kinds (Minus a b) ss ≡ plan_kinds a ss
  minus_keeps a b t = let u = minus_under a b t in u.whole_is ∙ sym u.left

  pub minus_left_typed : (a b : Plan) → IsTyped (Minus a b) ss → IsTyped a ss
  minus_left_typed a b t = let u = minus_under a b t in typed_as a u.schema u.left

  pub minus_right_typed : (a b : Plan) → IsTyped (Minus a b) ss → IsTyped b ss
  minus_right_typed a b t = let u = minus_under a b t in typed_as b u.schema u.right

  -- ---- nodes whose schema goes by that of the plan below

  pub map_kinds_of : (es : List Expr) (a b : Plan) → plan_kinds a ss ≡ plan_kinds b ss
      → plan_kinds (Map es a) ss ≡ plan_kinds (Map es b) ss
  map_kinds_of es a b e = kinds-Map es a ss ∙ ap (option_and_then (map_kinds es)) e
      ∙ sym (kinds-Map es b ss)

  pub group_kinds_of : (k : List ℕ) (g : List Agg) (a b : Plan)
      → plan_kinds a ss ≡ plan_kinds b ss
      → plan_kinds (Group k g a) ss ≡ plan_kinds (Group k g b) ss
  group_kinds_of k g a b e = kinds-Group k g a ss ∙ ap (option_and_then (group_kinds k g)) e
      ∙ sym (kinds-Group k g b ss)

  pub map_typed : (es : List Expr) (a : Plan) → IsTyped (Map es a) ss → IsTyped a ss
  map_typed es a t = let u = map_under es a t in typed_as a u.below_kinds u.below

  pub group_typed : (k : List ℕ) (g : List Agg) (a : Plan) → IsTyped (Group k g a) ss
      → IsTyped a ss
  group_typed k g a t = let u = group_under k g a t in typed_as a u.below_kinds u.below

  -- the condition of a typed filter is a flag over the schema
  pub filter_flag : (p : Expr) (a : Plan) (s : List Kind) → plan_kinds a ss ≡ Some s
      → IsTyped (Filter p a) ss → expr_kind p s ≡ Some kind.Flag
  filter_flag p a s e t =
      let w = then_is (filter_kinds p) (plan_kinds a ss) t.schema (sym (kinds-Filter p a ss)
      ∙ t.is) in
      let same : w.0 ≡ s = some_schema (sym w.1 ∙ e) in
      subst (λ (z : List Kind). expr_kind p z ≡ Some kind.Flag) same
      (flag_is (expr_kind p w.0) (only_if_is (is_flag (expr_kind p w.0)) w.0 t.schema w.2).0)
