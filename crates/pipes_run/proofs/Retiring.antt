-- Sources that are taken back, one after another.
use Rattle.std.proofs.Common.{ℕ, ◌≤◌, List, [], ◌∷◌, ◌++◌, arith}
use Rattle.std.specs.List.{All}
use Rattle.std.proofs.lemmas.List.Elements.{All-push, All-weaker}
use Rattle.pipes_edge.specs.Causes.{Rose}
use Rattle.pipes_edge.specs.Outside.{NoneFalls}
use Rattle.pipes_run.proofs.Causes.{rose_before}

module _ {S : Type 0} (name : S → List ℕ) (found_at faults : S → ℕ) where
  -- where the source had faults since it was found, the count of its file rose
  abbrev pub Rises : (List ℕ → ℕ) → (List ℕ → ℕ) → S → Type 0
  Rises before now x = Rose (found_at x) (faults x) → Rose (before (name x)) (now (name x))

  rose_after : (a b c : ℕ) → b ≤ c → Rose a b → Rose a c
  rose_after a b c h rose = omega (arith, h, rose)

  pub rises-push : (before mid now : List ℕ → ℕ) (xs : List S) (x : S) → NoneFalls before mid
      → NoneFalls mid now → All (Rises before mid) xs → Rises mid now x
      → All (Rises before now) (xs ++ x ∷ [])
  rises-push before mid now xs x early late all one =
      All-push (Rises before now) xs x
      (All-weaker (Rises before mid) (Rises before now)
      (λ y h rose. rose_after (before (name y)) (mid (name y)) (now (name y)) (late (name y))
      (h rose)) xs all)
      (λ rose. rose_before (before (name x)) (mid (name x)) (now (name x)) (early (name x))
      (one rose))
