-- Which sources a node reads, and what a form reads that takes a node apart.
use Rattle.std.proofs.Common.{◌≡◌, ℕ, Bool, true, false, ◌||◌, cond, List, refl, ap, ◌∙◌}
use Rattle.std.proofs.Common.{rules, Option, Some, None}
use Rattle.std.proofs.Math.Bool.{or_comm, or_assoc, or_self, or_self_left}
use Rattle.std.specs.Option.{option_map}
use Rattle.pipes_expr.specs.declared.expr.Expr.{Expr}
use Rattle.pipes_relation.specs.declared.lists.Pair.{Pair}
use Rattle.pipes_relation.specs.declared.lists.Agg.{Agg}
use Rattle.pipes_plan.specs.declared.plan.Plan.{Plan, the_lemmas}
use Rattle.pipes_plan.specs.declared.plan.Plan.TheVariants.{Filter, Map, Union, Join, Distinct}
use Rattle.pipes_plan.specs.declared.plan.Plan.TheVariants.{Group, Minus}
use Rattle.pipes_rewrite.specs.Nodes.{in_filter, in_map, in_union, in_join, in_distinct, in_group}
use Rattle.pipes_rewrite.specs.Nodes.{in_minus}
use Rattle.pipes_rewrite.specs.FilterForms.{plan_if, plan_where}
use Rattle.pipes_rewrite.specs.BagForms.{plan_where_all}
use Rattle.pipes_rule_laws.proofs.Parts.{of_filter, of_map, of_union, of_join, of_distinct}
use Rattle.pipes_rule_laws.proofs.Parts.{of_group, of_minus}
use Rattle.pipes_rule_sources.specs.Reads.{reads}

-- ---- each node

pub reads-Filter : (s : ℕ) (p : Expr) (a : Plan) → reads s (Filter p a) ≡ reads s a
reads-Filter s p a = search (rules, the_lemmas)

pub reads-Map : (s : ℕ) (es : List Expr) (a : Plan) → reads s (Map es a) ≡ reads s a
reads-Map s es a = search (rules, the_lemmas)

pub reads-Union : (s : ℕ) (a b : Plan) → reads s (Union a b) ≡ (reads s a || reads s b)
reads-Union s a b = search (rules, the_lemmas)

pub reads-Join : (s : ℕ) (k : List Pair) (c : Expr) (a b : Plan)
    → reads s (Join k c a b) ≡ (reads s a || reads s b)
reads-Join s k c a b = search (rules, the_lemmas)

pub reads-Distinct : (s : ℕ) (a : Plan) → reads s (Distinct a) ≡ reads s a
reads-Distinct s a = search (rules, the_lemmas)

pub reads-Group : (s : ℕ) (k : List ℕ) (g : List Agg) (a : Plan)
    → reads s (Group k g a) ≡ reads s a
reads-Group s k g a = search (rules, the_lemmas)

pub reads-Minus : (s : ℕ) (a b : Plan) → reads s (Minus a b) ≡ (reads s a || reads s b)
reads-Minus s a b = search (rules, the_lemmas)

pub or_left_comm : (a b c : Bool) → (a || (b || c)) ≡ (b || (a || c))
or_left_comm true true c = refl
or_left_comm true false c = refl
or_left_comm false b c = refl

-- which of the leaves' sources are read: nodes, order and copies put aside
pub ruleset leaves_read = (
  reads-Filter,
  reads-Map,
  reads-Union,
  reads-Join,
  reads-Distinct,
  reads-Group,
  reads-Minus,
  or_assoc,
  or_self_left,
  or_self,
  or_left_comm,
  or_comm,
)

module _ (s : ℕ) where
  -- what is made, if anything is, reads the source where this says so
  abbrev pub Gives : Bool → Option Plan → Type 0
  Gives b form = (new : Plan) → form ≡ Some new → b ≡ reads s new

  -- ---- what a form makes in the end

  pub gives_some : (b : Bool) (made : Plan) → b ≡ reads s made → Gives b (Some made)
  gives_some b made h new e =
      let same : made ≡ new = cc in h ∙ ap (reads s) same

  pub gives_none : (b : Bool) → Gives b None
  gives_none b new e = cc

  pub gives_either : (b t : Bool) (f g : Option Plan) → Gives b f → Gives b g
      → Gives b (cond t f g)
  gives_either b true f g h k = h
  gives_either b false f g h k = k

  pub gives_if : (b t : Bool) (made : Plan) → (t ≡ true → b ≡ reads s made)
      → Gives b (plan_if t made)
  gives_if b true made h = gives_some b made (h refl)
  gives_if b false made h = gives_none b

  pub gives_each : {A : Type 0} (b : Bool) (f : A → Plan) (o : Option A)
      → ((x : A) → b ≡ reads s (f x)) → Gives b (option_map f o)
  gives_each b f (Some x) h = gives_some b (f x) (h x)
  gives_each b f None h = gives_none b

  pub gives_where : (b : Bool) (o : Option Expr) (y : Expr) (made : Plan) → b ≡ reads s made
      → Gives b (plan_where o y made)
  gives_where b (Some x) y made h = gives_if b _ made (λ t. h)
  gives_where b None y made h = gives_none b

  pub gives_where_all : (b : Bool) (o : Option (List Expr)) (ys : List Expr) (made : Plan)
      → b ≡ reads s made → Gives b (plan_where_all o ys made)
  gives_where_all b (Some xs) ys made h = gives_if b _ made (λ t. h)
  gives_where_all b None ys made h = gives_none b

  -- ---- what it takes apart; f says what is read beside that node

  module _ (f : Bool → Bool) where
    pub gives_filter : (k : Expr → Plan → Option Plan)
        → ((p : Expr) (a : Plan) → Gives (f (reads s a)) (k p a))
        → (plan : Plan) → Gives (f (reads s plan)) (in_filter k plan)
    gives_filter k h plan new = of_filter (λ z. f (reads s z) ≡ reads s new) new k
        (λ p a e. ap f (reads-Filter s p a) ∙ h p a new e) plan

    pub gives_map : (k : List Expr → Plan → Option Plan)
        → ((es : List Expr) (a : Plan) → Gives (f (reads s a)) (k es a))
        → (plan : Plan) → Gives (f (reads s plan)) (in_map k plan)
    gives_map k h plan new = of_map (λ z. f (reads s z) ≡ reads s new) new k
        (λ es a e. ap f (reads-Map s es a) ∙ h es a new e) plan

    pub gives_union : (k : Plan → Plan → Option Plan)
        → ((a b : Plan) → Gives (f (reads s a || reads s b)) (k a b))
        → (plan : Plan) → Gives (f (reads s plan)) (in_union k plan)
    gives_union k h plan new = of_union (λ z. f (reads s z) ≡ reads s new) new k
        (λ a b e. ap f (reads-Union s a b) ∙ h a b new e) plan

    pub gives_join : (k : List Pair → Expr → Plan → Plan → Option Plan)
        → ((pairs : List Pair) (c : Expr) (a b : Plan)
        → Gives (f (reads s a || reads s b)) (k pairs c a b))
        → (plan : Plan) → Gives (f (reads s plan)) (in_join k plan)
    gives_join k h plan new = of_join (λ z. f (reads s z) ≡ reads s new) new k
        (λ pairs c a b e. ap f (reads-Join s pairs c a b) ∙ h pairs c a b new e) plan

    pub gives_distinct : (k : Plan → Option Plan)
        → ((a : Plan) → Gives (f (reads s a)) (k a))
        → (plan : Plan) → Gives (f (reads s plan)) (in_distinct k plan)
    gives_distinct k h plan new = of_distinct (λ z. f (reads s z) ≡ reads s new) new k
        (λ a e. ap f (reads-Distinct s a) ∙ h a new e) plan

    pub gives_group : (k : List ℕ → List Agg → Plan → Option Plan)
        → ((columns : List ℕ) (g : List Agg) (a : Plan) → Gives (f (reads s a)) (k columns g a))
        → (plan : Plan) → Gives (f (reads s plan)) (in_group k plan)
    gives_group k h plan new = of_group (λ z. f (reads s z) ≡ reads s new) new k
        (λ columns g a e. ap f (reads-Group s columns g a) ∙ h columns g a new e) plan

    pub gives_minus : (k : Plan → Plan → Option Plan)
        → ((a b : Plan) → Gives (f (reads s a || reads s b)) (k a b))
        → (plan : Plan) → Gives (f (reads s plan)) (in_minus k plan)
    gives_minus k h plan new = of_minus (λ z. f (reads s z) ≡ reads s new) new k
        (λ a b e. ap f (reads-Minus s a b) ∙ h a b new e) plan
