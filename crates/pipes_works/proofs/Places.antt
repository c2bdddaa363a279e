-- A message that is given at each leaf of a source.
use Rattle.std.proofs.Common.{◌≡◌, ℕ, zero, suc, ◌+◌, ◌≤◌, ◌<◌, Bool, true, false, cond, eqb}
use Rattle.std.proofs.Common.{List, [], ◌∷◌, ◌++◌, length, get_or, slice_get, unwrap_or, refl}
use Rattle.std.proofs.Common.{sym, ◌∙◌, ap, subst, arith, inl, inr}
use Rattle.std.proofs.lemmas.Bool.{eqb-true}
use Rattle.std.proofs.lemmas.Bool.Decides.{eqb_tells}
use Rattle.pipes_tuple.specs.declared.value.Kind.{Kind}
use Rattle.pipes_stream.specs.declared.message.Message.{Message}
use Rattle.pipes_stream.specs.Lawful.{Lists, with_message}
use Rattle.pipes_node.proofs.NodeSteps.{with-same, with-other}
use Rattle.pipes_box.specs.Shapes.{Shape, leaf_count, sources_of, LeafFits, GivenFits}
use Rattle.pipes_works.specs.Sources.{leaves_from, by_leaf}
use Rattle.pipes_works.specs.Passed.{with_each, EachFits}
use Rattle.pipes_works.proofs.Leaves.{IsOver, each-from, each-fits, sources-count}

module _ (s : ℕ) (m : Message) where
  before-by : (b : Bool) (xs : List ℕ) (n : ℕ) (given : Lists) (k : ℕ) → k < n
      → ((given : Lists) → with_each given (leaves_from s (n + 1) xs) m k ≡ given k)
      → with_each given (cond b (n ∷ leaves_from s (n + 1) xs) (leaves_from s (n + 1) xs)) m k
      ≡ given k
  before-by true xs n given k h rest = rest (with_message given n m)
      ∙ with-other given n m k (λ e. omega (arith, h, e))
  before-by false xs n given k h rest = rest given

  -- the leaves before are given nothing
  pub each-before : (xs : List ℕ) (n : ℕ) (given : Lists) (k : ℕ) → k < n
      → with_each given (leaves_from s n xs) m k ≡ given k
  each-before [] n given k h = refl
  each-before (x ∷ xs) n given k h = before-by (eqb x s) xs n given k h
      (λ other. each-before xs (n + 1) other k (omega (arith, h)))

  first-by : (b : Bool) (xs : List ℕ) (n : ℕ) (given : Lists) (k : ℕ) → k ≡ n
      → with_each given (cond b (n ∷ leaves_from s (n + 1) xs) (leaves_from s (n + 1) xs)) m k
      ≡ cond b (given k ++ m ∷ []) (given k)
  first-by true xs n given k e =
      each-before xs (n + 1) (with_message given n m) k (omega (arith, e))
      ∙ subst (λ (z : ℕ). with_message given z m k ≡ given k ++ m ∷ []) e (with-same given k m)
  first-by false xs n given k e = each-before xs (n + 1) given k (omega (arith, e))

  later-by : (b c : Bool) (xs : List ℕ) (n : ℕ) (given : Lists) (k : ℕ) → (k ≡ n → ⊥)
      → ((given : Lists) → with_each given (leaves_from s (n + 1) xs) m k
      ≡ cond c (given k ++ m ∷ []) (given k))
      → with_each given (cond b (n ∷ leaves_from s (n + 1) xs) (leaves_from s (n + 1) xs)) m k
      ≡ cond c (given k ++ m ∷ []) (given k)
  later-by true c xs n given k ne rest = rest (with_message given n m)
      ∙ ap (λ (l : List Message). cond c (l ++ m ∷ []) l) (with-other given n m k ne)
  later-by false c xs n given k ne rest = rest given

  -- the leaves of the source are given the message, and the others nothing
  pub each-here : (xs : List ℕ) (n : ℕ) (given : Lists) (j k : ℕ) → j < length xs → k ≡ n + j
      → with_each given (leaves_from s n xs) m k
      ≡ cond (eqb (get_or xs j 0) s) (given k ++ m ∷ []) (given k)
  each-here [] n given j k l e = absurd (omega (arith, l))
  each-here (x ∷ xs) n given zero k l e = first-by (eqb x s) xs n given k (omega (arith, e))
  each-here (x ∷ xs) n given (suc j) k l e =
      later-by (eqb x s) (eqb (get_or xs j 0) s) xs n given k (λ f. omega (arith, e, f))
      (λ other. each-here xs (n + 1) other j k (omega (arith, l)) (omega (arith, e)))

  -- the leaves of a plan are given what comes next from the source
  pub by_leaf-put : (shape : Shape) (by_source : Lists) (k : ℕ) → k < leaf_count shape
      → with_each (by_leaf shape by_source) (leaves_from s 0 (sources_of shape)) m k
      ≡ by_leaf shape (with_message by_source s m) k
  by_leaf-put shape by_source k l =
      each-here (sources_of shape) 0 (by_leaf shape by_source) k k
      (omega (arith, l, sources-count shape)) (omega arith)

  module _ (ss : List (List Kind)) (shape : Shape) (over : IsOver ss shape) where
    abbrev Good : ℕ → List Message → Type 0
    Good k list = LeafFits (unwrap_or (slice_get ss (get_or (sources_of shape) k 0)) []) list

    -- lists that are good at each leaf fit
    pub good-fits : (given : Lists) → ((k : ℕ) → k < leaf_count shape → Good k (given k))
        → GivenFits shape 0 given
    good-fits given all =
        each-fits ss given shape 0 over
        (each-from (λ k source. LeafFits (unwrap_or (slice_get ss source) []) (given k)) shape 0
        (λ j k l e.
        let same : j ≡ k = omega (arith, e) in
        subst (λ (x : ℕ). LeafFits (unwrap_or (slice_get ss (get_or (sources_of shape) j 0)) [])
        (given x)) same (all j l)))

    good-with : (n : ℕ) (given : Lists) → ((k : ℕ) → k < leaf_count shape → Good k (given k))
        → Good n (given n ++ m ∷ []) → (k : ℕ) → k < leaf_count shape
        → Good k (with_message given n m k)
    good-with n given all own k l =
        elim (eqb_tells k n) [
          | inl same ↦ subst (λ (x : ℕ). Good x (with_message given n m x)) (sym same.1)
              (subst (Good n) (sym (with-same given n m)) own)
          | inr apart ↦ subst (Good k) (sym (with-other given n m k apart.1)) (all k l)
        ]

    fits-by : (b : Bool) (x : ℕ) (xs : List ℕ) (n : ℕ) (given : Lists) → eqb x s ≡ b
        → ((k : ℕ) → k < leaf_count shape → Good k (given k))
        → ((j k : ℕ) → j < length (x ∷ xs) → k ≡ n + j → get_or (x ∷ xs) j 0 ≡ s
        → Good k (given k ++ m ∷ [])) → n < leaf_count shape
        → ((given : Lists) → ((k : ℕ) → k < leaf_count shape → Good k (given k))
        → ((j k : ℕ) → j < length xs → k ≡ n + 1 + j → get_or xs j 0 ≡ s
        → Good k (given k ++ m ∷ [])) → EachFits shape given (leaves_from s (n + 1) xs) m)
        → EachFits shape given (cond b (n ∷ leaves_from s (n + 1) xs) (leaves_from s (n + 1) xs)) m
    fits-by true x xs n given e all later within rest =
        let own : Good n (given n ++ m ∷ []) = later 0 n (omega arith) (omega arith)
        (eqb-true x s e) in
        let next : (k : ℕ) → k < leaf_count shape → Good k (with_message given n m k) =
        good-with n given all own in (
          within,
          good-fits (with_message given n m) next,
          rest (with_message given n m) next (λ j k l f g.
              subst (λ (xs : List Message). Good k (xs ++ m ∷ []))
              (sym (with-other given n m k (λ h. omega (arith, f, h))))
              (later (suc j) k (omega (arith, l)) (omega (arith, f)) g)),
        )
    fits-by false x xs n given e all later within rest =
        rest given all (λ j k l f g. later (suc j) k (omega (arith, l)) (omega (arith, f)) g)

    -- the message may be given at each leaf of the source
    pub each-may : (xs : List ℕ) (n : ℕ) (given : Lists)
        → ((k : ℕ) → k < leaf_count shape → Good k (given k))
        → ((j k : ℕ) → j < length xs → k ≡ n + j → get_or xs j 0 ≡ s
        → Good k (given k ++ m ∷ [])) → n + length xs ≤ leaf_count shape
        → EachFits shape given (leaves_from s n xs) m
    each-may [] n given all later within = tt
    each-may (x ∷ xs) n given all later within =
        fits-by (eqb x s) x xs n given refl all later (omega (arith, within))
        (λ other all' later'. each-may xs (n + 1) other all' later' (omega (arith, within)))

-- ---- the leaves of a source, found one by one

push-by : (b : Bool) (s n : ℕ) (xs : List ℕ) (x : ℕ) (c : List ℕ)
    → leaves_from s (n + 1) (xs ++ x ∷ []) ≡ leaves_from s (n + 1) xs ++ c
    → cond b (n ∷ leaves_from s (n + 1) (xs ++ x ∷ [])) (leaves_from s (n + 1) (xs ++ x ∷ []))
    ≡ cond b (n ∷ leaves_from s (n + 1) xs) (leaves_from s (n + 1) xs) ++ c
push-by true s n xs x c e = ap (λ (l : List ℕ). n ∷ l) e
push-by false s n xs x c e = e

-- one leaf more
pub leaves-push : (s n : ℕ) (xs : List ℕ) (x k : ℕ) → k ≡ n + length xs
    → leaves_from s n (xs ++ x ∷ []) ≡ leaves_from s n xs ++ cond (eqb x s) (k ∷ []) []
leaves-push s n [] x k e = let same : n ≡ k = omega (arith, e) in
    subst (λ (z : ℕ). cond (eqb x s) (n ∷ []) [] ≡ cond (eqb x s) (z ∷ []) []) same refl
leaves-push s n (y ∷ xs) x k e =
    push-by (eqb y s) s n xs x (cond (eqb x s) (k ∷ []) [])
    (leaves-push s (n + 1) xs x k (omega (arith, e)))
