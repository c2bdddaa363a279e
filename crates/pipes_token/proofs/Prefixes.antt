-- Of two prefixes of the same bytes one begins with the other.
use Rattle.std.proofs.Common.{◌≡◌, ℕ, ◌≤◌, List, [], ◌∷◌, ◌++◌, length, refl, sym, ap₂, arith}

-- the longer one's other bytes
pub record Continues (prefix longer rest left : List ℕ) : Type 0 where
  pub more : List ℕ
  pub longer_is : longer ≡ prefix ++ more
  pub rest_is : rest ≡ more ++ left

pub continues : (prefix longer rest left : List ℕ) → prefix ++ rest ≡ longer ++ left
    → length prefix ≤ length longer → Continues prefix longer rest left
continues [] longer rest left e h = record { more = longer; longer_is = refl; rest_is = e }
continues (b ∷ prefix) [] rest left e h = absurd (omega arith)
continues (b ∷ prefix) (c ∷ longer) rest left e h =
    let later : prefix ++ rest ≡ longer ++ left = cc in
    let k = continues prefix longer rest left later (omega arith) in
    let same : b ≡ c = cc in
    record {
      more = k.more;
      longer_is = ap₂ (λ (x : ℕ) (xs : List ℕ). x ∷ xs)
          (sym same) k.longer_is;
      rest_is = k.rest_is;
    }
