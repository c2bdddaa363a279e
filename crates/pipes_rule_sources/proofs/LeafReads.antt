-- A plan reads a source exactly where it has a leaf of that source.
use Rattle.std.proofs.Common.{◌≡◌, ℕ, zero, suc, Bool, true, false, ◌||◌, ◌⊎◌, ◌↔◌, inl, inr}
use Rattle.std.proofs.Common.{⊎_elim, eqb, eqb-true, eq-eqb, List, [], ◌∷◌, ◌++◌, refl, sym, ap}
use Rattle.std.proofs.Common.{◌∙◌, subst, arith, rules}
use Rattle.std.specs.List.{Contains}
use Rattle.std.proofs.lemmas.List.Elements.{Contains-append_left, Contains-append_right}
use Rattle.std.proofs.lemmas.List.Elements.{Contains-append_cases}
use Rattle.pipes_tuple.specs.declared.value.Kind.{Kind}
use Rattle.pipes_plan.specs.declared.plan.Plan.{Plan, the_lemmas}
use Rattle.pipes_plan.specs.declared.plan.Plan.TheVariants.{Source}
use Rattle.pipes_plan.proofs.PlanInduction.{PlanCases, induct_plan}
use Rattle.pipes_rules.specs.declared.step.Step.{Step}
use Rattle.pipes_rules.specs.Stepping.{Derives}
use Rattle.pipes_box.specs.Shapes.{shape_of, sources_of}
use Rattle.pipes_box.proofs.Plans.{shape-Source}
use Rattle.pipes_box.proofs.PerKind.{shape-Filter, shape-Map, shape-Union, shape-Join}
use Rattle.pipes_box.proofs.PerKind.{shape-Distinct, shape-Group, shape-Minus}
use Rattle.pipes_rule_sources.specs.Reads.{reads}
use Rattle.pipes_rule_sources.proofs.NodeReads.{reads-Filter, reads-Map, reads-Union, reads-Join}
use Rattle.pipes_rule_sources.proofs.NodeReads.{reads-Distinct, reads-Group, reads-Minus}
use Rattle.pipes_rule_sources.proofs.StepReads.{steps_keep}

reads-Source : (s i : ℕ) → reads s (Source i) ≡ eqb i s
reads-Source s i = search (rules, the_lemmas)

-- one of two is true
one_true : (a b : Bool) → (a || b) ≡ true → (a ≡ true) ⊎ (b ≡ true)
one_true true b h = inl refl
one_true false b h = inr h

left_true : (a b : Bool) → a ≡ true → (a || b) ≡ true
left_true true b h = refl
left_true false b h = cc

right_true : (a b : Bool) → b ≡ true → (a || b) ≡ true
right_true true b h = refl
right_true false b h = h

only_element : (i s : ℕ) → Contains (i ∷ []) s → i ≡ s
only_element i s (zero, l, e) = e
only_element i s (suc k, l, e) = absurd (omega (arith, l))

module _ (s : ℕ) where
  -- the list has the source exactly where this says so
  abbrev Tells : List ℕ → Bool → Type 0
  Tells xs b = Contains xs s ↔ (b ≡ true)

  tells_leaf : (i : ℕ) → Tells (i ∷ []) (eqb i s)
  tells_leaf i = (λ h. eq-eqb i s (only_element i s h), λ e. (0, omega arith, eqb-true i s e))

  tells_both : (xs ys : List ℕ) (a b : Bool) → Tells xs a → Tells ys b → Tells (xs ++ ys) (a || b)
  tells_both xs ys a b h k = (
    λ c. ⊎_elim (λ l. left_true a b (h.0 l)) (λ r. right_true a b (k.0 r))
        (Contains-append_cases xs ys s c),
    λ e. ⊎_elim (λ l. Contains-append_left xs ys s (h.1 l))
        (λ r. Contains-append_right xs ys s (k.1 r)) (one_true a b e),
  )

  module _ (ss : List (List Kind)) where
    abbrev Sources : Plan → List ℕ
    Sources plan = sources_of (shape_of ss plan)

    abbrev Told : Plan → Type 0
    Told plan = Tells (Sources plan) (reads s plan)

    tells_same : (node : Plan) (xs : List ℕ) (b : Bool) → Sources node ≡ xs → reads s node ≡ b
        → Tells xs b → Told node
    tells_same node xs b is read h = subst (λ ys. Tells ys (reads s node)) (sym is)
        (subst (λ c. Tells xs c) (sym read) h)

    told_cases : PlanCases Told
    told_cases = record {
      source = λ i. tells_same _ _ _ (ap sources_of (shape-Source ss i)) (reads-Source s i)
          (tells_leaf i);
      filter = λ p a h. tells_same _ _ _ (ap sources_of (shape-Filter ss p a))
          (reads-Filter s p a) h;
      mapped = λ es a h. tells_same _ _ _ (ap sources_of (shape-Map ss es a))
          (reads-Map s es a) h;
      union = λ a b h k. tells_same _ _ _ (ap sources_of (shape-Union ss a b))
          (reads-Union s a b) (tells_both _ _ _ _ h k);
      join = λ l c a b h k. tells_same _ _ _ (ap sources_of (shape-Join ss l c a b))
          (reads-Join s l c a b) (tells_both _ _ _ _ h k);
      distinct = λ a h. tells_same _ _ _ (ap sources_of (shape-Distinct ss a))
          (reads-Distinct s a) h;
      group = λ l g a h. tells_same _ _ _ (ap sources_of (shape-Group ss l g a))
          (reads-Group s l g a) h;
      minus = λ a b h k. tells_same _ _ _ (ap sources_of (shape-Minus ss a b))
          (reads-Minus s a b) (tells_both _ _ _ _ h k);
    }

-- the laws

pub leaf_told : (ss : List (List Kind)) (plan : Plan) (s : ℕ)
    → Contains (sources_of (shape_of ss plan)) s ↔ (reads s plan ≡ true)
leaf_told ss plan s = induct_plan (Told s ss) (told_cases s ss) plan

pub leaves_keep : (ss : List (List Kind)) (old : Plan) (steps : List Step) (new : Plan)
    → Derives ss old steps new → (s : ℕ) → Contains (sources_of (shape_of ss old)) s
    ↔ Contains (sources_of (shape_of ss new)) s
leaves_keep ss old steps new d s =
    let same : reads s old ≡ reads s new = steps_keep ss old steps new d s in (
      λ h. (leaf_told ss new s).1 (sym same ∙ (leaf_told ss old s).0 h),
      λ h. (leaf_told ss old s).1 (same ∙ (leaf_told ss new s).0 h),
    )
