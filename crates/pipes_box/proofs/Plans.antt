-- The parts of a plan that were built, whatever the kinds of its nodes.
use Rattle.std.proofs.Common.{◌≡◌, ℕ, ◌+◌, ◌<◌, ◌≤◌, max, List, [], ◌∷◌, ◌++◌, length, get_or, zero}
use Rattle.std.proofs.Common.{suc, rules, refl, sym, ◌∙◌, ap, subst, arith, append_assoc}
use Rattle.std.proofs.Common.{length-append, slice_get, unwrap_or, Option, Some, None}
use Rattle.std.proofs.Common.{Bool, true, false, nat_le}
use Rattle.std.specs.Option.{option_and_then}
use Rattle.std.proofs.lemmas.Bool.{leb-true}
use Rattle.pipes_tuple.specs.declared.value.Kind.{Kind}
use Rattle.pipes_stream.specs.Lawful.{Task}
use Rattle.pipes_plan.specs.declared.plan.Plan.{Plan, the_lemmas, size-Plan}
use Rattle.pipes_plan.specs.declared.plan.Plan.TheVariants.{Source}
use Rattle.pipes_plan.specs.Sizes.{plan_nodes, plan_depth}
use Rattle.pipes_plan.specs.PlanKinds.{IsTyped, plan_kinds}
use Rattle.pipes_plan.specs.declared.fault.TypeRefusal.{TypeRefusal}
use Rattle.pipes_expr.specs.declared.why.Why.TheVariants.{TooMany, TooDeep}
use Rattle.pipes_expr.specs.ExprWhys.{unless}
use Rattle.pipes_plan.specs.Refusals.{Checks, at, looked}
use Rattle.pipes_plan.proofs.PlanEquations.{kinds-Source}
use Rattle.pipes_plan.proofs.PlanTyped.{then_is, both_are}
use Rattle.pipes_box.specs.declared.leaf.Leaf.{Leaf as PlanLeaf}
use Rattle.pipes_node.specs.declared.node.Node.{Node}
use Rattle.pipes_box.specs.declared.build.Part.{Part}
use Rattle.pipes_box.specs.Shapes.{Shape, Leaf, One, Two, shape_of, gives_of, node_count, KeepsBags}
use Rattle.pipes_box.specs.Networks.{leaves_of}
use Rattle.pipes_box.specs.Parts.{Adds, AddsTask, CanBuild, IsNew, PartHolds, PartBuilt}
use Rattle.pipes_box.proofs.Built.{holds-more, one-holds, one-new, two-holds, two-new, leaf-holds}
use Rattle.pipes_box.proofs.Built.{leaf-new}

-- a node over one child: what it makes of the child's kinds, and its task over them
pub record IsOne (ss : List (List Kind)) (plan a : Plan) (f : List Kind → Option (List Kind))
    (task : List Kind → Task) : Type 0 where
  pub kinds : plan_kinds plan ss ≡ option_and_then f (plan_kinds a ss)
  pub shape : shape_of ss plan ≡ One (task (gives_of (shape_of ss a))) (shape_of ss a)
  pub nodes : plan_nodes plan ≡ plan_nodes a + 1
  pub depth : plan_depth plan ≡ plan_depth a + 1
  pub size : size-Plan a < size-Plan plan
  pub keeps : (s : List Kind) → KeepsBags (task s)
  pub ports : (s : List Kind) → (task s).ports ≡ 1
  pub takes : (s : List Kind) → (task s).takes 0 ≡ s
  pub gives : (s t : List Kind) → f s ≡ Some t → (task s).gives ≡ t

-- a node over two
pub record IsTwo (ss : List (List Kind)) (plan a b : Plan)
    (f : List Kind → List Kind → Option (List Kind)) (task : List Kind → List Kind → Task) : Type 0
  where
    pub kinds : plan_kinds plan ss
        ≡ option_and_then (λ s. option_and_then (f s) (plan_kinds b ss)) (plan_kinds a ss)
    pub shape : shape_of ss plan ≡ Two (task (gives_of (shape_of ss a)) (gives_of (shape_of ss b)))
        (shape_of ss a) (shape_of ss b)
    pub nodes : plan_nodes plan ≡ plan_nodes a + plan_nodes b + 1
    pub depth : plan_depth plan ≡ max (plan_depth a) (plan_depth b) + 1
    pub size : (size-Plan a < size-Plan plan) × (size-Plan b < size-Plan plan)
    pub keeps : (s t : List Kind) → KeepsBags (task s t)
    pub ports : (s t : List Kind) → (task s t).ports ≡ 2
    pub takes : (s t u : List Kind) → f s t ≡ Some u
        → ((task s t).takes 0 ≡ s) × ((task s t).takes 1 ≡ t)
    pub gives : (s t u : List Kind) → f s t ≡ Some u → (task s t).gives ≡ u

-- how a node of this number at this depth is entered: its first child has the next number
pub record Entered (number depth first below : ℕ) : Type 0 where
  pub first_is : first ≡ number + 1
  pub below_is : below ≡ depth + 1
  pub shallow : depth ≤ 31

nodes-Source : (i : ℕ) → plan_nodes (Source i) ≡ 1
nodes-Source i = search (rules, the_lemmas)

depth-Source : (i : ℕ) → plan_depth (Source i) ≡ 1
depth-Source i = search (rules, the_lemmas)

pub shape-Source : (ss : List (List Kind)) (i : ℕ) → shape_of ss (Source i) ≡ Leaf i
    (unwrap_or (slice_get ss i) [])
shape-Source ss i = search (rules, the_lemmas)

-- ---- the limits of a plan that checks

no-refusals : (b c : Bool) (rest : List TypeRefusal)
    → at 0 (unless b TooMany ++ unless c TooDeep) ++ rest ≡ [] → (b ≡ true) × (c ≡ true)
no-refusals true true rest h = (refl, refl)
no-refusals true false rest h = cc
no-refusals false true rest h = cc
no-refusals false false rest h = cc

pub checks-within : (ss : List (List Kind)) (plan : Plan) → Checks ss plan
    → (plan_nodes plan ≤ 255) × (plan_depth plan ≤ 32)
checks-within ss plan c =
    let w = no-refusals (nat_le (plan_nodes plan) 255) (nat_le (plan_depth plan) 32)
    (looked ss plan 0).refusals c.unrefused in
    (leb-true (plan_nodes plan) 255 w.0, leb-true (plan_depth plan) 32 w.1)

-- what a whole plan needs to be built
pub can-whole : (ss : List (List Kind)) (plan : Plan) → IsTyped plan ss → Checks ss plan
    → CanBuild ss plan 0 0 1
can-whole ss plan typed c =
    let w = checks-within ss plan c in
    record {
      typed = typed;
      shallow = omega (arith, w.1);
      few = omega (arith, w.0);
      next_is = refl;
    }

-- a source at a depth
pub source-shallow : (plan : Plan) (i depth : ℕ) → plan ≡ Source i → depth + plan_depth plan ≤ 32
    → depth ≤ 31
source-shallow plan i depth is h = omega (arith, ap plan_depth is, depth-Source i, h)

pub source-nodes : (plan : Plan) (i : ℕ) → plan ≡ Source i → plan_nodes plan ≡ 1
source-nodes plan i is = ap plan_nodes is ∙ nodes-Source i

-- a node over sources of the kinds of its parts is typed, as the node over the parts is
pub over-one : (whole : Plan) (f : List Kind → Option (List Kind)) (s t : List Kind)
    → plan_kinds whole (s ∷ []) ≡ option_and_then f (plan_kinds (Source 0) (s ∷ [])) → f s ≡ Some t
    → IsTyped whole (s ∷ [])
over-one whole f s t e h = record {
  schema = t;
  is = e ∙ ap (option_and_then f) (kinds-Source 0 (s ∷ [])) ∙ h;
}

pub over-two : (whole : Plan) (f : List Kind → List Kind → Option (List Kind)) (s r t : List Kind)
    → plan_kinds whole (s ∷ r ∷ []) ≡ option_and_then
    (λ x. option_and_then (f x) (plan_kinds (Source 1) (s ∷ r ∷ [])))
    (plan_kinds (Source 0) (s ∷ r ∷ [])) → f s r ≡ Some t → IsTyped whole (s ∷ r ∷ [])
over-two whole f s r t e h = record {
  schema = t;
  is = e ∙ ap (λ (o : Option (List Kind)). option_and_then
      (λ x. option_and_then (f x) (plan_kinds (Source 1) (s ∷ r ∷ []))) o)
      (kinds-Source 0 (s ∷ r ∷ []))
      ∙ ap (option_and_then (f s)) (kinds-Source 1 (s ∷ r ∷ [])) ∙ h;
}

module _ (ss : List (List Kind)) where
  -- ---- a node over one child

  module _ (plan a : Plan) (f : List Kind → Option (List Kind)) (task : List Kind → Task)
      (o : IsOne ss plan a f task) where
    one-typed : IsTyped plan ss → IsTyped a ss
    one-typed t = let w = then_is f (plan_kinds a ss) t.schema (sym o.kinds ∙ t.is) in
        record { schema = w.0; is = w.1 }

    pub can-one : (number depth next first below after : ℕ) → CanBuild ss plan number depth next
        → first ≡ next → below ≡ depth + 1 → after ≡ next + 1 → CanBuild ss a first below after
    can-one number depth next first below after can first-is below-is after-is = record {
      typed = one-typed can.typed;
      shallow = omega (arith, can.shallow, o.depth, below-is);
      few = omega (arith, can.few, o.nodes, first-is, can.next_is);
      next_is = omega (arith, first-is, after-is);
    }

    pub enter-one : (number depth next first below : ℕ) → CanBuild ss plan number depth next
        → first ≡ next → below ≡ depth + 1 → Entered number depth first below
    enter-one number depth next first below can first-is below-is = record {
      first_is = omega (arith, first-is, can.next_is);
      below_is = below-is;
      shallow = omega (arith, can.shallow, o.depth);
    }

    -- what the node makes of its child's kinds
    pub own-one : (s t : List Kind) → plan_kinds a ss ≡ Some s → plan_kinds plan ss ≡ Some t
        → f s ≡ Some t
    own-one s t child own = sym (o.kinds ∙ ap (option_and_then f) child) ∙ own

    pub built-one : (number depth first below : ℕ) (old mid new : List Node)
        (ls ls' : List PlanLeaf) (part whole : Part) → Entered number depth first below
        → PartBuilt ss a first below old mid ls ls' part
        → AddsTask number depth mid new (task part.schema) (part ∷ []) whole
        → plan_kinds plan ss ≡ Some whole.schema
        → PartBuilt ss plan number depth old new ls ls' whole
    built-one number depth first below old mid new ls ls' part whole enter b t kinds =
        let own : Task = task part.schema in
        let shape : shape_of ss plan ≡ One own (shape_of ss a) =
        o.shape ∙ ap (λ (ks : List Kind). One (task ks) (shape_of ss a)) b.holds.gives in
        let gives : own.gives ≡ whole.schema =
        o.gives part.schema whole.schema (own-one part.schema whole.schema b.kinds kinds) in
        let added : new ≡ old ++ (b.more ++ t.adds.adds.node ∷ []) = t.adds.adds.added
        ∙ ap (λ (ns : List Node). ns ++ t.adds.adds.node ∷ []) b.added
        ∙ append_assoc old b.more (t.adds.adds.node ∷ []) in
        let len : length new ≡ length mid + 1 = ap length t.adds.adds.added
        ∙ length-append mid (t.adds.adds.node ∷ []) in
        let counts : node_count (shape_of ss plan) ≡ node_count (shape_of ss a) + 1 =
        ap node_count shape in
        let holds : PartHolds mid (length old) (number + 1) (depth + 1) (shape_of ss a) part =
        subst (λ (k : ℕ). PartHolds mid (length old) k (depth + 1) (shape_of ss a) part)
        enter.first_is
        (subst (λ (k : ℕ). PartHolds mid (length old) first k (shape_of ss a) part)
        enter.below_is b.holds) in
        record {
          more = b.more ++ t.adds.adds.node ∷ [];
          added = added;
          count = omega (arith, len, b.count, counts);
          kinds = kinds;
          size = omega (arith, counts, o.nodes, b.size);
          holds = subst (λ (s : Shape). PartHolds new (length old) number depth s whole)
              (sym shape)
              (one-holds mid new (length old) number depth (shape_of ss a) part whole own holds
              b.count t (o.keeps part.schema) (o.ports part.schema) (o.takes part.schema) gives);
          stays_new = λ n. one-new mid new (length old) number depth (shape_of ss a) part whole own
              holds b.count t (o.keeps part.schema) (o.ports part.schema) (o.takes part.schema)
              enter.shallow (b.stays_new n);
          leaves_are = subst (λ (s : Shape). ls' ≡ ls ++ leaves_of s (length old))
              (sym shape) b.leaves_are;
        }

    pub next-one : (number depth next first after last : ℕ) → CanBuild ss plan number depth next
        → first ≡ next → last ≡ first + plan_nodes a → last ≡ number + plan_nodes plan
    next-one number depth next first after last can first-is last-is =
        omega (arith, first-is, last-is, can.next_is, o.nodes)

  -- ---- a node over two children

  module _ (plan a b : Plan) (f : List Kind → List Kind → Option (List Kind))
      (task : List Kind → List Kind → Task) (o : IsTwo ss plan a b f task) where
    two-typed : IsTyped plan ss → IsTyped a ss × IsTyped b ss
    two-typed t =
        let w = both_are f (plan_kinds a ss) (plan_kinds b ss) t.schema (sym o.kinds ∙ t.is) in
        (record { schema = w.0; is = w.2 }, record { schema = w.1; is = w.3 })

    pub can-left : (number depth next first below after : ℕ) → CanBuild ss plan number depth next
        → first ≡ next → below ≡ depth + 1 → after ≡ next + 1 → CanBuild ss a first below after
    can-left number depth next first below after can first-is below-is after-is = record {
      typed = (two-typed can.typed).0;
      shallow = omega (arith, can.shallow, o.depth, below-is);
      few = omega (arith, can.few, o.nodes, first-is, can.next_is);
      next_is = omega (arith, first-is, after-is);
    }

    -- the right child's number follows those of the left one's nodes
    pub can-right : (number depth next first second below after : ℕ)
        → CanBuild ss plan number depth next → first ≡ next → second ≡ first + plan_nodes a
        → below ≡ depth + 1 → after ≡ second + 1 → CanBuild ss b second below after
    can-right number depth next first second below after can first-is second-is below-is after-is =
        record {
          typed = (two-typed can.typed).1;
          shallow = omega (arith, can.shallow, o.depth, below-is);
          few = omega (arith, can.few, o.nodes, first-is, second-is, can.next_is);
          next_is = omega (arith, after-is);
        }

    pub enter-two : (number depth next first below : ℕ) → CanBuild ss plan number depth next
        → first ≡ next → below ≡ depth + 1 → Entered number depth first below
    enter-two number depth next first below can first-is below-is = record {
      first_is = omega (arith, first-is, can.next_is);
      below_is = below-is;
      shallow = omega (arith, can.shallow, o.depth);
    }

    pub own-two : (s r t : List Kind) → plan_kinds a ss ≡ Some s → plan_kinds b ss ≡ Some r
        → plan_kinds plan ss ≡ Some t → f s r ≡ Some t
    own-two s r t left right own =
        sym (o.kinds ∙ ap (λ (x : Option (List Kind)). option_and_then
        (λ y. option_and_then (f y) (plan_kinds b ss)) x) left
        ∙ ap (option_and_then (f s)) right) ∙ own

    pub built-two : (number depth first second below below' : ℕ) (old mid mid' new : List Node)
        (ls ls' ls'' : List PlanLeaf) (left right whole : Part)
        → Entered number depth first below → below' ≡ below → second ≡ first + plan_nodes a
        → PartBuilt ss a first below old mid ls ls' left
        → PartBuilt ss b second below' mid mid' ls' ls'' right
        → AddsTask number depth mid' new (task left.schema right.schema) (left ∷ right ∷ []) whole
        → plan_kinds plan ss ≡ Some whole.schema
        → PartBuilt ss plan number depth old new ls ls'' whole
    built-two number depth first second below below' old mid mid' new ls ls' ls'' left right whole
        enter same next l r t kinds =
        let own : Task = task left.schema right.schema in
        let made = own-two left.schema right.schema whole.schema l.kinds r.kinds kinds in
        let keeps : KeepsBags own = o.keeps left.schema right.schema in
        let two : own.ports ≡ 2 = o.ports left.schema right.schema in
        let takes = o.takes left.schema right.schema whole.schema made in
        let gives : own.gives ≡ whole.schema = o.gives left.schema right.schema whole.schema made in
        let shape : shape_of ss plan ≡ Two own (shape_of ss a) (shape_of ss b) =
        o.shape ∙ ap (λ (ks : List Kind). Two (task ks (gives_of (shape_of ss b))) (shape_of ss a)
        (shape_of ss b)) l.holds.gives
        ∙ ap (λ (ks : List Kind). Two (task left.schema ks) (shape_of ss a) (shape_of ss b))
        r.holds.gives in
        let added : new ≡ old ++ (l.more ++ (r.more ++ t.adds.adds.node ∷ [])) =
        t.adds.adds.added ∙ ap (λ (ns : List Node). ns ++ t.adds.adds.node ∷ [])
        (r.added ∙ ap (λ (ns : List Node). ns ++ r.more) l.added)
        ∙ append_assoc (old ++ l.more) r.more (t.adds.adds.node ∷ [])
        ∙ append_assoc old l.more (r.more ++ t.adds.adds.node ∷ []) in
        let len : length new ≡ length mid' + 1 = ap length t.adds.adds.added
        ∙ length-append mid' (t.adds.adds.node ∷ []) in
        let counts : node_count (shape_of ss plan) ≡ node_count (shape_of ss a) + node_count
        (shape_of ss b) + 1 = ap node_count shape in
        let left-holds : PartHolds mid (length old) (number + 1) (depth + 1) (shape_of ss a) left =
        subst (λ (k : ℕ). PartHolds mid (length old) k (depth + 1) (shape_of ss a) left)
        enter.first_is
        (subst (λ (k : ℕ). PartHolds mid (length old) first k (shape_of ss a) left)
        enter.below_is l.holds) in
        let lefts : PartHolds mid' (length old) (number + 1) (depth + 1) (shape_of ss a) left =
        subst (λ (ns : List Node). PartHolds ns (length old) (number + 1) (depth + 1)
        (shape_of ss a) left) (sym r.added)
        (holds-more mid r.more (length old) (number + 1) (depth + 1) (shape_of ss a) left
        left-holds) in
        let after-left : second ≡ number + 1 + node_count (shape_of ss a) =
        omega (arith, next, enter.first_is, l.size) in
        let rights : PartHolds mid' (length old + node_count (shape_of ss a))
        (number + 1 + node_count (shape_of ss a)) (depth + 1) (shape_of ss b) right =
        subst (λ (k : ℕ). PartHolds mid' k (number + 1 + node_count (shape_of ss a)) (depth + 1)
        (shape_of ss b) right) l.count
        (subst (λ (k : ℕ). PartHolds mid' (length mid) k (depth + 1) (shape_of ss b) right)
        after-left
        (subst (λ (k : ℕ). PartHolds mid' (length mid) second k (shape_of ss b) right)
        (same ∙ enter.below_is) r.holds)) in
        let all : length mid'
        ≡ length old + node_count (shape_of ss a) + node_count (shape_of ss b) =
        omega (arith, l.count, r.count) in
        record {
          more = l.more ++ (r.more ++ t.adds.adds.node ∷ []);
          added = added;
          count = omega (arith, len, all, counts);
          kinds = kinds;
          size = omega (arith, counts, o.nodes, l.size, r.size);
          holds = subst (λ (s : Shape). PartHolds new (length old) number depth s whole) (sym shape)
              (two-holds mid' new (length old) number depth (shape_of ss a) (shape_of ss b) left
              right whole own lefts rights all t keeps two takes.0 takes.1 gives);
          stays_new = λ n. two-new mid' new (length old) number depth (shape_of ss a)
              (shape_of ss b) left right whole own lefts rights all t keeps two takes.0 takes.1
              enter.shallow (r.stays_new (l.stays_new n));
          leaves_are = subst (λ (s : Shape). ls'' ≡ ls ++ leaves_of s (length old)) (sym shape)
              (r.leaves_are ∙ ap (λ (xs : List PlanLeaf). xs ++ leaves_of (shape_of ss b)
              (length mid)) l.leaves_are ∙ append_assoc ls (leaves_of (shape_of ss a) (length old))
              (leaves_of (shape_of ss b) (length mid))
              ∙ ap (λ (k : ℕ). ls ++ (leaves_of (shape_of ss a) (length old)
              ++ leaves_of (shape_of ss b) k)) l.count);
        }

    pub next-two : (number depth next first second last : ℕ) → CanBuild ss plan number depth next
        → first ≡ next → second ≡ first + plan_nodes a → last ≡ second + plan_nodes b
        → last ≡ number + plan_nodes plan
    next-two number depth next first second last can first-is second-is last-is =
        omega (arith, first-is, second-is, last-is, can.next_is, o.nodes)

  -- ---- a source

  pub built-source : (plan : Plan) (i number depth : ℕ) (old new : List Node)
      (ls ls' : List PlanLeaf) (part : Part) → plan ≡ Source i
      → slice_get ss i ≡ Some part.schema → depth ≤ 31
      → Adds number depth old new None [] part.inlet → part.root ≡ length old
      → ls' ≡ ls ++ record { node = length old; source = i } ∷ []
      → PartBuilt ss plan number depth old new ls ls' part
  built-source plan i number depth old new ls ls' part is schema shallow t root leaves =
      let shape : shape_of ss plan ≡ Leaf i part.schema = ap (shape_of ss) is ∙ shape-Source ss i
      ∙ ap (λ (o : Option (List Kind)). Leaf i (unwrap_or o [])) schema in
      let len : length new ≡ length old + 1 = ap length t.added ∙ length-append old (t.node ∷ []) in
      let counts : node_count (shape_of ss plan) ≡ 1 = ap node_count shape in
      record {
        more = t.node ∷ [];
        added = t.added;
        count = omega (arith, len, counts);
        kinds = ap (λ (x : Plan). plan_kinds x ss) is ∙ kinds-Source i ss ∙ schema;
        size = omega (arith, counts, source-nodes plan i is);
        holds = subst (λ (s : Shape). PartHolds new (length old) number depth s part) (sym shape)
            (leaf-holds old new number depth i part.schema part t root refl);
        stays_new = leaf-new old new number depth i part.schema part t root shallow;
        leaves_are = subst (λ (s : Shape). ls' ≡ ls ++ leaves_of s (length old)) (sym shape) leaves;
      }

get-is : (xs : List (List Kind)) (i : ℕ) (x d : List Kind) → slice_get xs i ≡ Some x
    → (i < length xs) × (get_or xs i d ≡ x)
get-is [] i x d h = absurd (none-some x h) where
  none-some : (x : List Kind) → ◌≡◌ {A = Option (List Kind)} None (Some x) → ⊥
  none-some x h = cc
get-is (y ∷ ys) zero x d h = (omega arith, ap (λ (o : Option (List Kind)). unwrap_or o []) h)
get-is (y ∷ ys) (suc i) x d h = let r = get-is ys i x d h in (omega (arith, r.0), r.1)

-- the schema of a typed source
pub source-is : (ss : List (List Kind)) (plan : Plan) (i : ℕ) (d : List Kind) → plan ≡ Source i
    → IsTyped plan ss → (i < length ss) × (slice_get ss i ≡ Some (get_or ss i d))
source-is ss plan i d is typed =
    let got : slice_get ss i ≡ Some typed.schema = sym (kinds-Source i ss)
    ∙ ap (λ (x : Plan). plan_kinds x ss) (sym is) ∙ typed.is in
    let r = get-is ss i typed.schema d got in
    (r.0, got ∙ some-of-kinds typed.schema (get_or ss i d) (sym r.1)) where
      some-of-kinds : (x y : List Kind) → x ≡ y → ◌≡◌ {A = Option (List Kind)} (Some x) (Some y)
      some-of-kinds x y h = cc
