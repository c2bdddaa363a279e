-- What the kinds of nodes are for those who build them, each in one place.
use Rattle.std.proofs.Common.{◌≡◌, ℕ, ◌+◌, ◌<◌, max, List, [], ◌∷◌, rules, refl, sym, ◌∙◌, ap}
use Rattle.std.proofs.Common.{subst}
use Rattle.std.proofs.Common.{arith, unwrap_or, Option, Some, None}
use Rattle.std.specs.Option.{option_and_then}
use Rattle.pipes_tuple.specs.declared.value.Kind.{Kind}
use Rattle.pipes_tuple.specs.Bag.{SameBag}
use Rattle.pipes_tuple.proofs.Bags.{SameBag-filter, SameBag-map, SameBag-append}
use Rattle.pipes_relation.specs.declared.lists.Pair.{Pair}
use Rattle.pipes_relation.specs.declared.lists.Agg.{Agg}
use Rattle.pipes_expr.specs.declared.expr.Expr.{Expr}
use Rattle.pipes_plan.specs.declared.plan.Plan.{Plan, the_lemmas, size-Plan}
use Rattle.pipes_plan.specs.declared.plan.Plan.TheVariants.{Source, Filter, Map, Union, Join}
use Rattle.pipes_plan.specs.declared.plan.Plan.TheVariants.{Distinct, Group, Minus}
use Rattle.pipes_expr.specs.ExprValue.{passes}
use Rattle.pipes_relation.specs.Relations.{values_of}
use Rattle.pipes_plan.specs.Sizes.{plan_nodes, plan_depth}
use Rattle.pipes_plan.specs.PlanKinds.{IsTyped, plan_kinds, filter_kinds, map_kinds, join_kinds}
use Rattle.pipes_plan.specs.PlanKinds.{sides_kinds, group_kinds}
use Rattle.pipes_plan.proofs.PlanEquations.{kinds-Source, kinds-Filter, kinds-Map, kinds-Union}
use Rattle.pipes_plan.proofs.PlanEquations.{kinds-Join, kinds-Distinct, kinds-Group, kinds-Minus}
use Rattle.pipes_plan.proofs.PlanTyped.{filter_is, join_is, sides_are}
use Rattle.pipes_plan.proofs.SameAnswers.{SameBag-joined, SameBag-distinct, SameBag-grouped}
use Rattle.pipes_plan.proofs.SameAnswers.{SameBag-minus}
use Rattle.pipes_flat.specs.Tasks.{filter_task, map_task, union_task}
use Rattle.pipes_pair.specs.Tasks.{join_task}
use Rattle.pipes_group.specs.Tasks.{distinct_task, group_task}
use Rattle.pipes_minus.specs.Tasks.{minus_task}
use Rattle.pipes_box.specs.Shapes.{One, Two, shape_of, gives_of, KeepsBags}
use Rattle.pipes_box.proofs.Plans.{IsOne, IsTwo}

-- ---- filter

pub shape-Filter : (ss : List (List Kind)) (p : Expr) (a : Plan)
    → shape_of ss (Filter p a) ≡ One (filter_task p (gives_of (shape_of ss a))) (shape_of ss a)
shape-Filter ss p a = search (rules, the_lemmas)

pub keeps-filter : (p : Expr) (s : List Kind) → KeepsBags (filter_task p s)
keeps-filter p s f g same = SameBag-filter (passes p) (same 0 (omega arith))

pub is-filter : (ss : List (List Kind)) (plan : Plan) (p : Expr) (a : Plan) → plan ≡ Filter p a
    → IsOne ss plan a (filter_kinds p) (filter_task p)
is-filter ss plan p a e =
    subst (λ (x : Plan). IsOne ss x a (filter_kinds p) (filter_task p)) (sym e)
    (record {
      kinds = kinds-Filter p a ss;
      shape = shape-Filter ss p a;
      nodes = search (rules, the_lemmas);
      depth = search (rules, the_lemmas);
      size = search (rules, the_lemmas);
      keeps = keeps-filter p;
      ports = λ s. refl;
      takes = λ s. refl;
      gives = λ s t h. filter_is p s t h;
    })

-- ---- map

pub shape-Map : (ss : List (List Kind)) (es : List Expr) (a : Plan)
    → shape_of ss (Map es a) ≡ One (map_task es (gives_of (shape_of ss a))) (shape_of ss a)
shape-Map ss es a = search (rules, the_lemmas)

pub keeps-map : (es : List Expr) (s : List Kind) → KeepsBags (map_task es s)
keeps-map es s f g same = SameBag-map (values_of es) (same 0 (omega arith))

pub is-map : (ss : List (List Kind)) (plan : Plan) (es : List Expr) (a : Plan) → plan ≡ Map es a
    → IsOne ss plan a (map_kinds es) (map_task es)
is-map ss plan es a e =
    subst (λ (x : Plan). IsOne ss x a (map_kinds es) (map_task es)) (sym e)
    (record {
      kinds = kinds-Map es a ss;
      shape = shape-Map ss es a;
      nodes = search (rules, the_lemmas);
      depth = search (rules, the_lemmas);
      size = search (rules, the_lemmas);
      keeps = keeps-map es;
      ports = λ s. refl;
      takes = λ s. refl;
      gives = λ s t h. ap (λ (o : Option (List Kind)). unwrap_or o []) h;
    })

-- ---- union

pub shape-Union : (ss : List (List Kind)) (a b : Plan) → shape_of ss (Union a b) ≡ Two
    (union_task (gives_of (shape_of ss a))) (shape_of ss a) (shape_of ss b)
shape-Union ss a b = search (rules, the_lemmas)

pub keeps-union : (s : List Kind) → KeepsBags (union_task s)
keeps-union s f g same = SameBag-append (same 0 (omega arith)) (same 1 (omega arith))

pub is-union : (ss : List (List Kind)) (plan a b : Plan) → plan ≡ Union a b
    → IsTwo ss plan a b sides_kinds (λ s t. union_task s)
is-union ss plan a b e =
    subst (λ (x : Plan). IsTwo ss x a b sides_kinds (λ s t. union_task s)) (sym e)
    (record {
      kinds = kinds-Union a b ss;
      shape = shape-Union ss a b;
      nodes = search (rules, the_lemmas);
      depth = search (rules, the_lemmas);
      size = (search (rules, the_lemmas), search (rules, the_lemmas));
      keeps = λ s t. keeps-union s;
      ports = λ s t. refl;
      takes = λ s t u h. (refl, (sides_are s t u h).0 ∙ sym (sides_are s t u h).1);
      gives = λ s t u h. (sides_are s t u h).0;
    })

-- both sources of a typed union are of one schema
pub union-same : (s r t : List Kind) → t ≡ s
    → IsTyped (Union (Source 0) (Source 1)) (s ∷ r ∷ [])
    → IsTyped (Union (Source 0) (Source 1)) (t ∷ t ∷ [])
union-same s r t e typed =
    let made : sides_kinds s r ≡ Some typed.schema =
    sym (kinds-Union (Source 0) (Source 1) (s ∷ r ∷ [])
    ∙ ap (λ (o : Option (List Kind)). option_and_then
    (λ x. option_and_then (sides_kinds x) (plan_kinds (Source 1) (s ∷ r ∷ []))) o)
    (kinds-Source 0 (s ∷ r ∷ []))
    ∙ ap (option_and_then (sides_kinds s)) (kinds-Source 1 (s ∷ r ∷ []))) ∙ typed.is in
    let same = sides_are s r typed.schema made in
    subst (λ (x : List Kind). IsTyped (Union (Source 0) (Source 1)) (x ∷ x ∷ [])) (sym e)
    (subst (λ (x : List Kind). IsTyped (Union (Source 0) (Source 1)) (s ∷ x ∷ []))
    (same.1 ∙ sym same.0) typed)

-- ---- join

pub shape-Join : (ss : List (List Kind)) (k : List Pair) (c : Expr) (a b : Plan)
    → shape_of ss (Join k c a b) ≡ Two
    (join_task k c (gives_of (shape_of ss a)) (gives_of (shape_of ss b)))
    (shape_of ss a) (shape_of ss b)
shape-Join ss k c a b = search (rules, the_lemmas)

pub keeps-join : (k : List Pair) (c : Expr) (s t : List Kind) → KeepsBags (join_task k c s t)
keeps-join k c s t f g same =
    SameBag-joined k c (f 0) (g 0) (f 1) (g 1) (same 0 (omega arith)) (same 1 (omega arith))

pub is-join : (ss : List (List Kind)) (plan : Plan) (k : List Pair) (c : Expr) (a b : Plan)
    → plan ≡ Join k c a b → IsTwo ss plan a b (join_kinds k c) (join_task k c)
is-join ss plan k c a b e =
    subst (λ (x : Plan). IsTwo ss x a b (join_kinds k c) (join_task k c)) (sym e)
    (record {
      kinds = kinds-Join k c a b ss;
      shape = shape-Join ss k c a b;
      nodes = search (rules, the_lemmas);
      depth = search (rules, the_lemmas);
      size = (search (rules, the_lemmas), search (rules, the_lemmas));
      keeps = keeps-join k c;
      ports = λ s t. refl;
      takes = λ s t u h. (refl, refl);
      gives = λ s t u h. (join_is k c s t u h).0;
    })

pub same-join : (k k' : List Pair) (c c' : Expr) (s s' t t' : List Kind) → k ≡ k' → c ≡ c'
    → s ≡ s' → t ≡ t' → join_task k c s t ≡ join_task k' c' s' t'
same-join k k' c c' s s' t t' a b d e = rw (a, b, d, e) refl

-- ---- distinct

pub shape-Distinct : (ss : List (List Kind)) (a : Plan)
    → shape_of ss (Distinct a) ≡ One (distinct_task (gives_of (shape_of ss a))) (shape_of ss a)
shape-Distinct ss a = search (rules, the_lemmas)

pub keeps-distinct : (s : List Kind) → KeepsBags (distinct_task s)
keeps-distinct s f g same = SameBag-distinct (f 0) (g 0) (same 0 (omega arith))

some-or-none : (o : Option (List Kind)) → o ≡ option_and_then (λ s. Some s) o
some-or-none None = refl
some-or-none (Some s) = refl

pub is-distinct : (ss : List (List Kind)) (plan a : Plan) → plan ≡ Distinct a
    → IsOne ss plan a (λ s. Some s) distinct_task
is-distinct ss plan a e =
    subst (λ (x : Plan). IsOne ss x a (λ s. Some s) distinct_task) (sym e)
    (record {
      kinds = kinds-Distinct a ss ∙ some-or-none (plan_kinds a ss);
      shape = shape-Distinct ss a;
      nodes = search (rules, the_lemmas);
      depth = search (rules, the_lemmas);
      size = search (rules, the_lemmas);
      keeps = keeps-distinct;
      ports = λ s. refl;
      takes = λ s. refl;
      gives = λ s t h. ap (λ (o : Option (List Kind)). unwrap_or o []) h;
    })

-- ---- group

pub shape-Group : (ss : List (List Kind)) (k : List ℕ) (g : List Agg) (a : Plan)
    → shape_of ss (Group k g a) ≡ One (group_task k g (gives_of (shape_of ss a))) (shape_of ss a)
shape-Group ss k g a = search (rules, the_lemmas)

pub keeps-group : (k : List ℕ) (g : List Agg) (s : List Kind) → KeepsBags (group_task k g s)
keeps-group k g s f h same = SameBag-grouped k g (f 0) (h 0) (same 0 (omega arith))

pub is-group : (ss : List (List Kind)) (plan : Plan) (k : List ℕ) (g : List Agg) (a : Plan)
    → plan ≡ Group k g a → IsOne ss plan a (group_kinds k g) (group_task k g)
is-group ss plan k g a e =
    subst (λ (x : Plan). IsOne ss x a (group_kinds k g) (group_task k g)) (sym e)
    (record {
      kinds = kinds-Group k g a ss;
      shape = shape-Group ss k g a;
      nodes = search (rules, the_lemmas);
      depth = search (rules, the_lemmas);
      size = search (rules, the_lemmas);
      keeps = keeps-group k g;
      ports = λ s. refl;
      takes = λ s. refl;
      gives = λ s t h. ap (λ (o : Option (List Kind)). unwrap_or o []) h;
    })

pub same-group : (k k' : List ℕ) (g g' : List Agg) (s s' : List Kind) → k ≡ k' → g ≡ g' → s ≡ s'
    → group_task k g s ≡ group_task k' g' s'
same-group k k' g g' s s' a b c = rw (a, b, c) refl

-- ---- minus

pub shape-Minus : (ss : List (List Kind)) (a b : Plan) → shape_of ss (Minus a b) ≡ Two
    (minus_task (gives_of (shape_of ss a))) (shape_of ss a) (shape_of ss b)
shape-Minus ss a b = search (rules, the_lemmas)

pub keeps-minus : (s : List Kind) → KeepsBags (minus_task s)
keeps-minus s f g same =
    SameBag-minus (f 0) (g 0) (f 1) (g 1) (same 0 (omega arith)) (same 1 (omega arith))

pub is-minus : (ss : List (List Kind)) (plan a b : Plan) → plan ≡ Minus a b
    → IsTwo ss plan a b sides_kinds (λ s t. minus_task s)
is-minus ss plan a b e =
    subst (λ (x : Plan). IsTwo ss x a b sides_kinds (λ s t. minus_task s)) (sym e)
    (record {
      kinds = kinds-Minus a b ss;
      shape = shape-Minus ss a b;
      nodes = search (rules, the_lemmas);
      depth = search (rules, the_lemmas);
      size = (search (rules, the_lemmas), search (rules, the_lemmas));
      keeps = λ s t. keeps-minus s;
      ports = λ s t. refl;
      takes = λ s t u h. (refl, (sides_are s t u h).0 ∙ sym (sides_are s t u h).1);
      gives = λ s t u h. (sides_are s t u h).0;
    })
