-- How far the output comes while a plan is replaced.
use Rattle.std.proofs.Common.{◌≡◌, ℕ, zero, suc, ◌≤◌, Bool, true, false, cond}
use Rattle.std.proofs.Common.{nat_le}
use Rattle.std.proofs.Common.{nat_lt, eqb, ◌&&◌, List, [], ◌∷◌, refl, sym, subst}
use Rattle.std.proofs.Common.{arith}
use Rattle.std.proofs.Common.{inl, inr}
use Rattle.std.specs.List.{All}
use Rattle.std.proofs.lemmas.Bool.{cases_lt, le-leb}
use Rattle.std.proofs.lemmas.Bool.Decides.{Decides-eqb}
use Rattle.std.proofs.lemmas.List.Elements.{All-nil, All-cons, All-head, All-tail, All-weaker}
use Rattle.std.proofs.lemmas.List.Elements.{All-contains}
use Rattle.pipes_tuple.specs.declared.value.Kind.{Kind}
use Rattle.pipes_stream.specs.declared.Elem.{Elem}
use Rattle.pipes_stream.specs.Lists.{elements}
use Rattle.pipes_stream.specs.Lawful.{Lists, IsCovered, floor}
use Rattle.pipes_stream.specs.Weights.{weigh}
use Rattle.pipes_stream.proofs.Ports.{floor-below}
use Rattle.pipes_coalesce.specs.Tests.{if_so, waits_below}
use Rattle.pipes_coalesce.proofs.Touching.{not-lt}
use Rattle.pipes_plan.specs.declared.plan.Plan.{Plan}
use Rattle.pipes_box.specs.Prompt.{floors}
use Rattle.pipes_works.specs.Sources.{AllWithin, IsCoveredBySource}
use Rattle.pipes_works.proofs.SourceLaw.{floors-parts}

-- more turns come no further
pub floors-less : (n k h : ℕ) (es : List Elem) → n ≤ k → floors k h es ≤ floors n h es
floors-less n zero h es l = let same : n ≡ zero = omega (arith, l) in
    subst (λ (x : ℕ). floors zero h es ≤ floors x h es) (sym same) (omega arith)
floors-less n (suc k) h es l = elim (cases_lt n (suc k)) [
  | inl low ↦ omega (
    arith,
    floor-below (floors k h es) es,
    floors-less n k h es (omega (arith, low)),
  )
  | inr high ↦
      (let same : n ≡ suc k = omega (arith, l, high) in
      subst (λ (x : ℕ). floors (suc k) h es ≤ floors x h es) (sym same) (omega arith))
]

-- an element that reaches an instant keeps it back to its start
floor-start : (h : ℕ) (e : Elem) → h ≤ e.span.end → floor h (e ∷ []) ≤ e.span.start
floor-start h e reaches =
    let at : ◌≡◌ {A = ℕ} (cond (nat_le h e.span.end) e.span.start h) e.span.start =
    rw (le-leb h e.span.end reaches) refl in
    omega (arith, at)

covered-start : (h : ℕ) (es : List Elem) (e : Elem) → IsCovered es e → h ≤ e.span.end
    → floor h es ≤ e.span.start
covered-start h es e c reaches = omega (
  arith,
  floors-parts (suc zero) h h es (e ∷ []) (omega arith)
      (All-cons (IsCovered es) e [] c (All-nil (IsCovered es))),
  floor-start h e reaches,
)

none-waits : (a b : Bool) → (a ≡ true → if_so b ≡ 0) → if_so (a && b) ≡ 0
none-waits true b h = h refl
none-waits false b h = refl

-- none that ends at the split starts below what is so kept back
pub waits-none : (split h : ℕ) (es ds : List Elem) → h ≤ split → All (IsCovered es) ds
    → weigh (waits_below split (floor h es)) ds ≡ 0
waits-none split h es [] up all = refl
waits-none split h es (d ∷ ds) up all =
    let c : IsCovered es d = All-head (IsCovered es) d ds all in
    let one : waits_below split (floor h es) d ≡ 0 =
    none-waits (eqb d.span.end split) (nat_lt d.span.start (floor h es))
    (λ at. not-lt d.span.start (floor h es) (covered-start h es d c
    (omega (arith, up, (Decides-eqb d.span.end split).0 at)))) in
    omega (arith, one, waits-none split h es ds up (All-tail (IsCovered es) d ds all))

-- what comes to a top is a part of what covers all that the sources gave
pub top-covered : (schemas : List (List Kind)) (plan : Plan) (by_source : Lists)
    (es ds : List Elem) → AllWithin schemas plan by_source es
    → All (IsCoveredBySource schemas plan by_source) ds → All (IsCovered es) ds
top-covered schemas plan by_source es ds within all =
    All-weaker (IsCoveredBySource schemas plan by_source) (IsCovered es) (λ e c.
    let d : IsCovered es c.2.0 = All-contains (IsCovered es) (elements (by_source c.0)) c.2.0
    (within c.0 c.1) c.2.1 in
    (d.0, d.1, omega (arith, d.2, c.2.2), omega (arith, d.3, c.2.3))) ds all
