-- Lists of which two places are written, and what stands at the others.
use Rattle.std.proofs.Common.{◌≡◌, ℕ, zero, suc, ◌≤◌, ◌<◌, List, [], ◌∷◌, ◌++◌, length, take, drop}
use Rattle.std.proofs.Common.{get_or, set, refl, sym, ◌∙◌, ap, subst, arith, length-set, inl, inr}
use Rattle.std.proofs.lemmas.List.{get_or-set_same, get_or-set_other}
use Rattle.pipes_node.proofs.NodeSteps.{place}

module _ {X : Type 0} where
  set-rest : (xs : List X) (c : ℕ) (b : X) → c < length xs → take c xs
      ++ set (drop c xs) 0 b ≡ set xs c b
  set-rest [] c b h = absurd (omega arith)
  set-rest (x ∷ xs) zero b h = refl
  set-rest (x ∷ xs) (suc c) b h = ap (λ (ys : List X). x ∷ ys) (set-rest xs c b (omega arith))

  set-both : (xs : List X) (c p : ℕ) (a b : X) → p < c → c < length xs → set (take c xs) p a
      ++ set (drop c xs) 0 b ≡ set (set xs p a) c b
  set-both [] c p a b l h = absurd (omega arith)
  set-both (x ∷ xs) zero p a b l h = absurd (omega arith)
  set-both (x ∷ xs) (suc c) zero a b l h = ap (λ (ys : List X). a ∷ ys)
      (set-rest xs c b (omega arith))
  set-both (x ∷ xs) (suc c) (suc p) a b l h = ap (λ (ys : List X). x ∷ ys)
      (set-both xs c p a b (omega arith) (omega arith))

  get-take : (xs : List X) (c p : ℕ) (d e : X) → p < c → c < length xs
      → get_or (take c xs) p d ≡ get_or xs p e
  get-take [] c p d e l h = absurd (omega arith)
  get-take (x ∷ xs) zero p d e l h = absurd (omega arith)
  get-take (x ∷ xs) (suc c) zero d e l h = refl
  get-take (x ∷ xs) (suc c) (suc p) d e l h = get-take xs c p d e (omega arith) (omega arith)

  get-drop : (xs : List X) (c : ℕ) (d e : X) → c < length xs
      → get_or (drop c xs) 0 d ≡ get_or xs c e
  get-drop [] c d e h = absurd (omega arith)
  get-drop (x ∷ xs) zero d e h = refl
  get-drop (x ∷ xs) (suc c) d e h = get-drop xs c d e (omega arith)

  -- the parts of a list, of which each is written at one place
  pub set-parts : (xs prefix back : List X) (c p : ℕ) (a b : X) → prefix ≡ take c xs
      → back ≡ drop c xs → p < c → c < length xs → set prefix p a
      ++ set back 0 b ≡ set (set xs p a) c b
  set-parts xs prefix back c p a b f g l h =
      ap (λ (ys : List X). set ys p a ++ set back 0 b) f ∙ ap (λ (ys : List X). set (take c xs) p a
      ++ set ys 0 b) g ∙ set-both xs c p a b l h

  pub get-front : (xs prefix : List X) (c p : ℕ) (d e : X) → prefix ≡ take c xs → p < c
      → c < length xs → get_or prefix p d ≡ get_or xs p e
  get-front xs prefix c p d e f l h = ap (λ (ys : List X). get_or ys p d) f
      ∙ get-take xs c p d e l h

  pub get-back : (xs back : List X) (c : ℕ) (d e : X) → back ≡ drop c xs → c < length xs
      → get_or back 0 d ≡ get_or xs c e
  get-back xs back c d e g h = ap (λ (ys : List X). get_or ys 0 d) g ∙ get-drop xs c d e h

  module _ (xs : List X) (p c : ℕ) (a b : X) (l : p < c) (h : c < length xs) where
    pub both-count : length (set (set xs p a) c b) ≡ length xs
    both-count = length-set (set xs p a) c b ∙ length-set xs p a

    pub both-second : (d : X) → get_or (set (set xs p a) c b) c d ≡ b
    both-second d = get_or-set_same (set xs p a) c b d (omega (arith, h, length-set xs p a))

    pub both-first : (d : X) → get_or (set (set xs p a) c b) p d ≡ a
    both-first d = get_or-set_other (set xs p a) c p b d (λ e. absurd (omega (arith, l, e)))
        ∙ get_or-set_same xs p a d (omega (arith, l, h))

    pub both-other : (k : ℕ) (d : X) → (k ≡ p → ⊥) → (k ≡ c → ⊥)
        → get_or (set (set xs p a) c b) k d ≡ get_or xs k d
    both-other k d n m = get_or-set_other (set xs p a) c k b d m ∙ get_or-set_other xs p k a d n

    -- what holds of both places and of each that was left
    pub each-place : (R : X → X → Type 0) → ((x : X) → R x x) → ((d : X) → R (get_or xs p d) a)
        → ((d : X) → R (get_or xs c d) b) → (k : ℕ) (d : X) → R (get_or xs k d)
        (get_or (set (set xs p a) c b) k d)
    each-place R self f g k d =
        elim (place k c) [
          | inl e ↦ subst (λ (z : ℕ). R (get_or xs z d) (get_or (set (set xs p a) c b) z d)) (sym e)
              (subst (R (get_or xs c d)) (sym (both-second d)) (g d))
          | inr m ↦ elim (place k p) [
            | inl e ↦ subst (λ (z : ℕ). R (get_or xs z d) (get_or (set (set xs p a) c b) z d))
                (sym e) (subst (R (get_or xs p d)) (sym (both-first d)) (f d))
            | inr n ↦ subst (R (get_or xs k d)) (sym (both-other k d n m)) (self (get_or xs k d))
          ]
        ]
