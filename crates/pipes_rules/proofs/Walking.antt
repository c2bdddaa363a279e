-- A node over the rewritten plan of a child, or over why there is none.
use Rattle.std.proofs.Common.{◌≡◌, ℕ, ◌<◌, ◌≤◌, Bool, true, false, cond, List, [], ◌∷◌, max, length}
use Rattle.std.proofs.Common.{refl, sym, ap, ◌∙◌, subst, arith, rules, Option, Some, None, Result}
use Rattle.std.proofs.Common.{Ok, Err}
use Rattle.std.specs.Prelude.{nat_eq}
use Rattle.std.proofs.lemmas.Bool.Decides.{nat_tests}
use Rattle.pipes_expr.specs.declared.expr.Expr.{Expr}
use Rattle.pipes_relation.specs.declared.lists.Pair.{Pair}
use Rattle.pipes_relation.specs.declared.lists.Agg.{Agg}
use Rattle.pipes_plan.specs.declared.plan.Plan.{Plan, the_lemmas}
use Rattle.pipes_plan.specs.declared.plan.Plan.TheVariants.{Filter, Map, Union, Join, Distinct}
use Rattle.pipes_plan.specs.declared.plan.Plan.TheVariants.{Group, Minus}
use Rattle.pipes_plan.specs.Sizes.{longest_list}
use Rattle.pipes_rewrite.specs.Making.{IsTooLong}
use Rattle.pipes_join_rules.proofs.PairLists.{longest-Map, longest-Join}
use Rattle.pipes_rules.specs.declared.step.StepRefusal.{StepRefusal}
use Rattle.pipes_rules.specs.declared.step.StepRefusal.TheVariants.{NoSuchPlace, NoMatch, NotAPlan}
use Rattle.pipes_rules.specs.declared.step.StepRefusal.TheVariants.{Memory}
use Rattle.pipes_rules.specs.Stepping.{HasLongList, Rewrites, or_refuse, wrapped, at_only, at_side}

longest-Filter : (p : Expr) (a : Plan) → longest_list (Filter p a) ≡ longest_list a
longest-Filter p a = search (rules, the_lemmas)

longest-Union : (a b : Plan) → longest_list (Union a b) ≡ max (longest_list a) (longest_list b)
longest-Union a b = search (rules, the_lemmas)

longest-Distinct : (a : Plan) → longest_list (Distinct a) ≡ longest_list a
longest-Distinct a = search (rules, the_lemmas)

longest-Group : (k : List ℕ) (g : List Agg) (a : Plan)
    → longest_list (Group k g a) ≡ max (max (length k) (length g)) (longest_list a)
longest-Group k g a = search (rules, the_lemmas)

longest-Minus : (a b : Plan) → longest_list (Minus a b) ≡ max (longest_list a) (longest_list b)
longest-Minus a b = search (rules, the_lemmas)

-- why there is no plan of the child is why there is none of the node
placed_refused : (wrap : Plan → Plan)
    → ((x : Plan) → 32 < longest_list x → 32 < longest_list (wrap x)) → (why : StepRefusal)
    → (r : Result Plan StepRefusal) → Rewrites (Err why) r → Rewrites (Err why) (wrapped wrap r)
placed_refused wrap grows NoSuchPlace (Ok x) h = cc
placed_refused wrap grows NoSuchPlace (Err w) h = h
placed_refused wrap grows NoMatch (Ok x) h = cc
placed_refused wrap grows NoMatch (Err w) h = h
placed_refused wrap grows NotAPlan (Ok x) h = grows x h
placed_refused wrap grows NotAPlan (Err w) h = h
placed_refused wrap grows Memory r h = h

pub filter_refused : (p : Expr) (why : StepRefusal) (r : Result Plan StepRefusal)
    → Rewrites (Err why) r → Rewrites (Err why) (wrapped (λ x. Filter p x) r)
filter_refused p = placed_refused (λ x. Filter p x) (λ x h. omega (arith, h, longest-Filter p x))

pub map_refused : (es : List Expr) (why : StepRefusal) (r : Result Plan StepRefusal)
    → Rewrites (Err why) r → Rewrites (Err why) (wrapped (λ x. Map es x) r)
map_refused es = placed_refused (λ x. Map es x) (λ x h. omega (arith, h, longest-Map es x))

pub union_refused : (b : Plan) (why : StepRefusal) (r : Result Plan StepRefusal)
    → Rewrites (Err why) r → Rewrites (Err why) (wrapped (λ x. Union x b) r)
union_refused b = placed_refused (λ x. Union x b) (λ x h. omega (arith, h, longest-Union x b))

pub union_right_refused : (a : Plan) (why : StepRefusal) (r : Result Plan StepRefusal)
    → Rewrites (Err why) r → Rewrites (Err why) (wrapped (λ x. Union a x) r)
union_right_refused a = placed_refused (λ x. Union a x) (λ x h. omega (arith, h, longest-Union a x))

pub join_refused : (k : List Pair) (c : Expr) (b : Plan) (why : StepRefusal)
    (r : Result Plan StepRefusal) → Rewrites (Err why) r
    → Rewrites (Err why) (wrapped (λ x. Join k c x b) r)
join_refused k c b = placed_refused (λ x. Join k c x b)
    (λ x h. omega (arith, h, longest-Join k c x b))

pub join_right_refused : (k : List Pair) (c : Expr) (a : Plan) (why : StepRefusal)
    (r : Result Plan StepRefusal) → Rewrites (Err why) r
    → Rewrites (Err why) (wrapped (λ x. Join k c a x) r)
join_right_refused k c a = placed_refused (λ x. Join k c a x)
    (λ x h. omega (arith, h, longest-Join k c a x))

pub distinct_refused : (why : StepRefusal) (r : Result Plan StepRefusal)
    → Rewrites (Err why) r → Rewrites (Err why) (wrapped (λ x. Distinct x) r)
distinct_refused = placed_refused (λ x. Distinct x) (λ x h. omega (arith, h, longest-Distinct x))

pub group_refused : (k : List ℕ) (g : List Agg) (why : StepRefusal)
    (r : Result Plan StepRefusal) → Rewrites (Err why) r
    → Rewrites (Err why) (wrapped (λ x. Group k g x) r)
group_refused k g = placed_refused (λ x. Group k g x)
    (λ x h. omega (arith, h, longest-Group k g x))

pub minus_refused : (b : Plan) (why : StepRefusal) (r : Result Plan StepRefusal)
    → Rewrites (Err why) r → Rewrites (Err why) (wrapped (λ x. Minus x b) r)
minus_refused b = placed_refused (λ x. Minus x b) (λ x h. omega (arith, h, longest-Minus x b))

pub minus_right_refused : (a : Plan) (why : StepRefusal) (r : Result Plan StepRefusal)
    → Rewrites (Err why) r → Rewrites (Err why) (wrapped (λ x. Minus a x) r)
minus_right_refused a = placed_refused (λ x. Minus a x) (λ x h. omega (arith, h, longest-Minus a x))

-- ---- which child

pub first_ok : (i : ℕ) (r : Result Plan StepRefusal) (new : Plan) → i ≡ 0 → r ≡ Ok new
    → at_only i r ≡ Ok new
first_ok i r new e h = subst (λ (j : ℕ). at_only j r ≡ Ok new) (sym e) h

pub first_refused : (i : ℕ) (r : Result Plan StepRefusal) (why : StepRefusal) → i ≡ 0
    → Rewrites (Err why) r → Rewrites (Err why) (at_only i r)
first_refused i r why e h = subst (λ (j : ℕ). Rewrites (Err why) (at_only j r)) (sym e) h

pub no_child : (i : ℕ) (r : Result Plan StepRefusal) → (i ≡ 0 → ⊥)
    → at_only i r ≡ Err NoSuchPlace
no_child i r n = go (nat_eq i 0) refl where
  go : (b : Bool) → b ≡ nat_eq i 0 → cond b r (Err NoSuchPlace) ≡ Err NoSuchPlace
  go true e = absurd (n (grind (arith, nat_tests)))
  go false e = refl

pub left_ok : (i : ℕ) (l r : Result Plan StepRefusal) (new : Plan) → i ≡ 0 → l ≡ Ok new
    → at_side i l r ≡ Ok new
left_ok i l r new e h = subst (λ (j : ℕ). at_side j l r ≡ Ok new) (sym e) h

pub left_refused : (i : ℕ) (l r : Result Plan StepRefusal) (why : StepRefusal) → i ≡ 0
    → Rewrites (Err why) l → Rewrites (Err why) (at_side i l r)
left_refused i l r why e h = subst (λ (j : ℕ). Rewrites (Err why) (at_side j l r)) (sym e) h

pub right_ok : (i : ℕ) (l r : Result Plan StepRefusal) (new : Plan) → i ≡ 1 → r ≡ Ok new
    → at_side i l r ≡ Ok new
right_ok i l r new e h = subst (λ (j : ℕ). at_side j l r ≡ Ok new) (sym e) h

pub right_refused : (i : ℕ) (l r : Result Plan StepRefusal) (why : StepRefusal) → i ≡ 1
    → Rewrites (Err why) r → Rewrites (Err why) (at_side i l r)
right_refused i l r why e h = subst (λ (j : ℕ). Rewrites (Err why) (at_side j l r)) (sym e) h

pub no_side : (i : ℕ) (l r : Result Plan StepRefusal) → (i ≡ 0 → ⊥) → (i ≡ 1 → ⊥)
    → at_side i l r ≡ Err NoSuchPlace
no_side i l r n m = go (nat_eq i 0) (nat_eq i 1) refl refl where
  go : (b c : Bool) → b ≡ nat_eq i 0 → c ≡ nat_eq i 1
      → cond b l (cond c r (Err NoSuchPlace)) ≡ Err NoSuchPlace
  go true c e f = absurd (n (grind (arith, nat_tests)))
  go false true e f = absurd (m (grind (arith, nat_tests)))
  go false false e f = refl

-- the child's new plan in its place
pub wrapped_ok : (wrap : Plan → Plan) (r : Result Plan StepRefusal) (x new : Plan) → r ≡ Ok x
    → new ≡ wrap x → wrapped wrap r ≡ Ok new
wrapped_ok wrap r x new h e = ap (wrapped wrap) h ∙ ap Ok (sym e)

-- what the rule makes of the node is too long for a plan
pub long_form : (why : StepRefusal) (form : Option Plan) → IsTooLong form
    → HasLongList (or_refuse why form)
long_form why (Some plan) h = h
long_form why None h = absurd h

pub form_ok : (why : StepRefusal) (form : Option Plan) (plan : Plan) → Some plan ≡ form
    → or_refuse why form ≡ Ok plan
form_ok why form plan h = sym (ap (or_refuse why) h)

pub form_refused : (why : StepRefusal) (form : Option Plan) → None ≡ form
    → or_refuse why form ≡ Err why
form_refused why form h = sym (ap (or_refuse why) h)

pub ruleset at_the_node = (long_form, form_ok, form_refused)

pub ruleset refused_below = (
  filter_refused,
  map_refused,
  union_refused,
  union_right_refused,
  join_refused,
  join_right_refused,
  distinct_refused,
  group_refused,
  minus_refused,
  minus_right_refused,
  first_ok,
  first_refused,
  no_child,
  left_ok,
  left_refused,
  right_ok,
  right_refused,
  no_side,
  wrapped_ok,
)
