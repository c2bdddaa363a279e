-- What holds of each leaf of a plan at work, and what follows for the plan.
use Rattle.std.proofs.Common.{◌≡◌, ℕ, zero, suc, ◌+◌, ◌-◌, ◌≤◌, ◌<◌, min, List, [], ◌∷◌, ◌++◌}
use Rattle.std.proofs.Common.{length, get_or, slice_get, unwrap_or, refl, sym, ◌∙◌, ap, subst}
use Rattle.std.proofs.Common.{arith, inl, inr, length-append}
use Rattle.std.specs.List.{All, Contains}
use Rattle.std.proofs.lemmas.Bool.{cases_lt}
use Rattle.std.proofs.lemmas.List.Elements.{Contains-append_cases, All-append}
use Rattle.pipes_tuple.specs.declared.value.Value.{Value}
use Rattle.pipes_tuple.specs.declared.value.Kind.{Kind}
use Rattle.pipes_stream.specs.declared.Elem.{Elem}
use Rattle.pipes_stream.specs.Lists.{beat, elements, HasEnded}
use Rattle.pipes_stream.specs.Lawful.{Lists, IsCovered}
use Rattle.pipes_node.specs.declared.node.Node.{Node}
use Rattle.pipes_box.specs.Shapes.{Shape, Leaf, One, Two, leaf_count, sources_of, leaf_elements}
use Rattle.pipes_box.specs.Shapes.{LeafFits, GivenFits, AtSources}
use Rattle.pipes_box.specs.Shapes.{node_count}
use Rattle.pipes_box.specs.Prompt.{least_given, AllEnded}
use Rattle.pipes_box.specs.Networks.{LeavesGave}
use Rattle.pipes_box.proofs.Built.{get-before}
use Rattle.pipes_box.proofs.Giving.{get-later}

pub sources-count : (s : Shape) → length (sources_of s) ≡ leaf_count s
sources-count (Leaf source kinds) = refl
sources-count (One task a) = sources-count a
sources-count (Two task a b) = omega (
  arith,
  length-append (sources_of a) (sources_of b),
  sources-count a,
  sources-count b,
)

-- something of each leaf, by its number and its source
abbrev pub EachLeaf : (ℕ → ℕ → Type 0) → Shape → ℕ → Type 0
EachLeaf P (Leaf source kinds) n = P n source
EachLeaf P (One task a) n = EachLeaf P a n
EachLeaf P (Two task a b) n = EachLeaf P a n × EachLeaf P b (n + leaf_count a)

pub each-from : (P : ℕ → ℕ → Type 0) (s : Shape) (n : ℕ)
    → ((j k : ℕ) → j < leaf_count s → k ≡ n + j → P k (get_or (sources_of s) j 0)) → EachLeaf P s n
each-from P (Leaf source kinds) n h = h 0 n (omega arith) (omega arith)
each-from P (One task a) n h = each-from P a n h
each-from P (Two task a b) n h = (
  each-from P a n (λ j k l e. subst (P k)
      (get-before (sources_of a) (sources_of b) j 0 (omega (arith, l, sources-count a)))
      (h j k (omega (arith, l)) e)),
  each-from P b (n + leaf_count a) (λ j k l e.
      let i : ℕ = leaf_count a + j in
      let late : length (sources_of a) ≤ i = omega (arith, sources-count a) in
      let same : i - length (sources_of a) ≡ j = omega (arith, sources-count a) in
      subst (P k) (get-later (sources_of a) (sources_of b) i 0 late
      ∙ ap (λ (x : ℕ). get_or (sources_of b) x 0) same)
      (h i k (omega (arith, l)) (omega (arith, e)))),
)

pub each-at : (P : ℕ → ℕ → Type 0) (s : Shape) (n j k : ℕ) → EachLeaf P s n → j < leaf_count s
    → k ≡ n + j → P k (get_or (sources_of s) j 0)
each-at P (Leaf source kinds) n zero k h l e =
    let same : n ≡ k = omega arith in subst (λ (x : ℕ). P x source) same h
each-at P (Leaf source kinds) n (suc j) k h l e = absurd (omega (arith, l))
each-at P (One task a) n j k h l e = each-at P a n j k h l e
each-at P (Two task a b) n j k h l e =
    elim (cases_lt j (leaf_count a)) [
      | inl low ↦ subst (P k)
          (sym (get-before (sources_of a) (sources_of b) j 0 (omega (arith, low, sources-count a))))
          (each-at P a n j k h.0 low e)
      | inr high ↦
          (let i : ℕ = j - length (sources_of a) in
          let small : i < leaf_count b = omega (arith, l, high, sources-count a) in
          let there : k ≡ n + leaf_count a + i = omega (arith, e, high, sources-count a) in
          subst (P k) (sym (get-later (sources_of a) (sources_of b) j 0
          (omega (arith, high, sources-count a))))
          (each-at P b (n + leaf_count a) i k h.1 small there))
    ]

pub each-weaker : (P Q : ℕ → ℕ → Type 0) → ((k source : ℕ) → P k source → Q k source)
    → (s : Shape) (n : ℕ) → EachLeaf P s n → EachLeaf Q s n
each-weaker P Q f (Leaf source kinds) n h = f n source h
each-weaker P Q f (One task a) n h = each-weaker P Q f a n h
each-weaker P Q f (Two task a b) n h =
    (each-weaker P Q f a n h.0, each-weaker P Q f b (n + leaf_count a) h.1)

-- ---- what is given at the leaves

-- the kinds of each leaf are those of its source
abbrev pub IsOver : List (List Kind) → Shape → Type 0
IsOver ss (Leaf source kinds) = unwrap_or (slice_get ss source) [] ≡ kinds
IsOver ss (One task a) = IsOver ss a
IsOver ss (Two task a b) = IsOver ss a × IsOver ss b

pub each-fits : (ss : List (List Kind)) (given : Lists) (s : Shape) (n : ℕ) → IsOver ss s
    → EachLeaf (λ k source. LeafFits (unwrap_or (slice_get ss source) []) (given k)) s n
    → GivenFits s n given
each-fits ss given (Leaf source kinds) n over h =
    subst (λ (x : List Kind). LeafFits x (given n)) over h
each-fits ss given (One task a) n over h = each-fits ss given a n over h
each-fits ss given (Two task a b) n over h =
    (each-fits ss given a n over.0 h.0, each-fits ss given b (n + leaf_count a) over.1 h.1)

pub fits-each : (ss : List (List Kind)) (given : Lists) (s : Shape) (n : ℕ) → IsOver ss s
    → GivenFits s n given
    → EachLeaf (λ k source. LeafFits (unwrap_or (slice_get ss source) []) (given k)) s n
fits-each ss given (Leaf source kinds) n over h =
    subst (λ (x : List Kind). LeafFits x (given n)) (sym over) h
fits-each ss given (One task a) n over h = fits-each ss given a n over h
fits-each ss given (Two task a b) n over h =
    (fits-each ss given a n over.0 h.0, fits-each ss given b (n + leaf_count a) over.1 h.1)

-- lists that are the same at each leaf were given alike
pub each-gave : (node : ℕ → Node) (given given' : Lists) (s : Shape) (i n : ℕ)
    → EachLeaf (λ k source. given' k ≡ given k) s n → LeavesGave node s i n given
    → LeavesGave node s i n given'
each-gave node given given' (Leaf source kinds) i n h g = h ∙ g
each-gave node given given' (One task a) i n h g = each-gave node given given' a i n h g
each-gave node given given' (Two task a b) i n h g = (
  each-gave node given given' a i n h.0 g.0,
  each-gave node given given' b (i + node_count a) (n + leaf_count a) h.1 g.1,
)

pub each-fits_alike : (given given' : Lists) (s : Shape) (n : ℕ)
    → EachLeaf (λ k source. given' k ≡ given k) s n → GivenFits s n given → GivenFits s n given'
each-fits_alike given given' (Leaf source kinds) n h g = subst (LeafFits kinds) (sym h) g
each-fits_alike given given' (One task a) n h g = each-fits_alike given given' a n h g
each-fits_alike given given' (Two task a b) n h g = (
  each-fits_alike given given' a n h.0 g.0,
  each-fits_alike given given' b (n + leaf_count a) h.1 g.1,
)

-- ---- what it means

pub each-bag : (bags : ℕ → List (List Value)) (sources : List (List (List Value))) (s : Shape)
    (n : ℕ) → EachLeaf (λ k source. bags k ≡ unwrap_or (slice_get sources source) []) s n
    → AtSources s n bags sources
each-bag bags sources (Leaf source kinds) n h = h
each-bag bags sources (One task a) n h = each-bag bags sources a n h
each-bag bags sources (Two task a b) n h =
    (each-bag bags sources a n h.0, each-bag bags sources b (n + leaf_count a) h.1)

pub each-least : (given : Lists) (h : ℕ) (s : Shape) (n : ℕ)
    → EachLeaf (λ k source. h ≤ beat (given k)) s n → h ≤ least_given s n given
each-least given h (Leaf source kinds) n e = e
each-least given h (One task a) n e = each-least given h a n e
each-least given h (Two task a b) n e =
    omega (arith, each-least given h a n e.0, each-least given h b (n + leaf_count a) e.1)

pub least-each : (given : Lists) (s : Shape) (n : ℕ)
    → EachLeaf (λ k source. least_given s n given ≤ beat (given k)) s n
least-each given (Leaf source kinds) n = omega arith
least-each given (One task a) n = least-each given a n
least-each given (Two task a b) n =
    let m : ℕ = n + leaf_count a in
    let l : ℕ = least_given a n given in
    let r : ℕ = least_given b m given in (
      each-weaker (λ k source. l ≤ beat (given k)) (λ k source. min l r ≤ beat (given k))
          (λ k source h. omega (arith, h)) a n (least-each given a n),
      each-weaker (λ k source. r ≤ beat (given k)) (λ k source. min l r ≤ beat (given k))
          (λ k source h. omega (arith, h)) b m (least-each given b m),
    )

pub each-ended : (given : Lists) (s : Shape) (n : ℕ)
    → EachLeaf (λ k source. HasEnded (given k)) s n → AllEnded s n given
each-ended given (Leaf source kinds) n h = h
each-ended given (One task a) n h = each-ended given a n h
each-ended given (Two task a b) n h =
    (each-ended given a n h.0, each-ended given b (n + leaf_count a) h.1)

-- each element that was given is one of these
pub each-among : (P : Elem → Type 0) (given : Lists) (s : Shape) (n : ℕ)
    → EachLeaf (λ k source. All P (elements (given k))) s n → All P (leaf_elements s n given)
each-among P given (Leaf source kinds) n h = h
each-among P given (One task a) n h = each-among P given a n h
each-among P given (Two task a b) n h =
    All-append P (leaf_elements a n given) (leaf_elements b (n + leaf_count a) given)
    (each-among P given a n h.0) (each-among P given b (n + leaf_count a) h.1)

-- a leaf of which an element was given that covers this one
pub record CoveredAt (given : Lists) (s : Shape) (n : ℕ) (e : Elem) : Type 0 where
  pub leaf : ℕ
  pub within : leaf < leaf_count s
  pub covered : IsCovered (elements (given (n + leaf))) e

pub covered-at : (given : Lists) (s : Shape) (n : ℕ) (e : Elem)
    → IsCovered (leaf_elements s n given) e → CoveredAt given s n e
covered-at given (Leaf source kinds) n e c =
    let same : n ≡ n + 0 = omega arith in
    record {
      leaf = 0;
      within = omega arith;
      covered = subst (λ (k : ℕ). IsCovered (elements (given k)) e) same c;
    }
covered-at given (One task a) n e c =
    let d = covered-at given a n e c in
    record { leaf = d.leaf; within = d.within; covered = d.covered }
covered-at given (Two task a b) n e c =
    elim (Contains-append_cases (leaf_elements a n given)
    (leaf_elements b (n + leaf_count a) given) c.0 c.1) [
      | inl l ↦
          (let d = covered-at given a n e (c.0, l, c.2, c.3) in
          record { leaf = d.leaf; within = omega (arith, d.within); covered = d.covered })
      | inr r ↦
          (let d = covered-at given b (n + leaf_count a) e (c.0, r, c.2, c.3) in
          let same : n + leaf_count a + d.leaf ≡ n + (leaf_count a + d.leaf) = omega arith in
          record {
            leaf = leaf_count a + d.leaf;
            within = omega (arith, d.within);
            covered = subst (λ (k : ℕ). IsCovered (elements (given k)) e) same d.covered;
          })
    ]
