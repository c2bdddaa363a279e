-- Texts between quotes: the first byte that is escaped, what is before it and what is after it.
use Rattle.std.proofs.Common.{◌≡◌, ℕ, suc, ◌+◌, List, [], ◌∷◌, ◌++◌, take, drop, Some, None}
use Rattle.std.proofs.Common.{Bool, true, false, cond, get_or, refl, sym, ◌∙◌, ap, arith}
use Rattle.std.proofs.Common.{append_assoc, ◌||◌, ◌==◌}
use Rattle.std.specs.List.{position_from}
use Rattle.pipes_tuple.specs.Texts.{is_escaped, escaped_byte, escaped}

-- a byte that stands for itself
plain : (b : ℕ) → is_escaped b ≡ false → escaped_byte b ≡ b ∷ []
plain b h = go (b == 92) (b == 34) (b == 10) (b == 13) h
  where
    go : (p q r s : Bool) → (p || q || r || s) ≡ false
        → cond p (92 ∷ 92 ∷ [])
        (cond q (92 ∷ 34 ∷ []) (cond r (92 ∷ 110 ∷ []) (cond s (92 ∷ 114 ∷ []) (b ∷ [])))) ≡ b ∷ []
    go false false false false h = refl
    go false false false true h = cc
    go false false true s h = cc
    go false true r s h = cc
    go true q r s h = cc

-- a text without a byte to escape is as it is
pub escaped-plain : (bs : List ℕ) (k : ℕ) → None ≡ position_from is_escaped k bs → escaped bs ≡ bs
escaped-plain [] k h = refl
escaped-plain (b ∷ bs) k h = go (is_escaped b) refl (λ e. escaped-plain bs (k + 1) e) h
  where
    go : (t : Bool) → is_escaped b ≡ t
        → (None ≡ position_from is_escaped (k + 1) bs → escaped bs ≡ bs)
        → None ≡ cond t (Some k) (position_from is_escaped (k + 1) bs)
        → escaped_byte b ++ escaped bs ≡ b ∷ bs
    go true is next h = cc
    go false is next h = rw (plain b is) (ap (λ (l : List ℕ). b ∷ l) (next h))

abbrev IsEscapedAt : List ℕ → ℕ → ℕ → Type 0
IsEscapedAt bs k i = (j : ℕ) × (i ≡ k + j) × (is_escaped (get_or bs j 0) ≡ true)
    × (escaped bs ≡ take j bs ++ (escaped_byte (get_or bs j 0) ++ escaped (drop (j + 1) bs)))

escaped_at : (bs : List ℕ) (k i : ℕ) → Some i ≡ position_from is_escaped k bs → IsEscapedAt bs k i
escaped_at [] k i h = cc
escaped_at (b ∷ bs) k i h = go (is_escaped b) refl (λ e. escaped_at bs (k + 1) i e) h
  where
    go : (t : Bool) → is_escaped b ≡ t
        → (Some i ≡ position_from is_escaped (k + 1) bs → IsEscapedAt bs (k + 1) i)
        → Some i ≡ cond t (Some k) (position_from is_escaped (k + 1) bs) → IsEscapedAt (b ∷ bs) k i
    go true is next h = let e : i ≡ k = cc in (0, omega arith, is, refl)
    go false is next h =
        let r = next h in
        let e : suc (r.0 + 1) ≡ suc r.0 + 1 = omega arith in (
          suc r.0,
          omega (arith, r.1),
          r.2,
          rw (plain b is) (ap (λ (l : List ℕ). b ∷ l) r.3)
              ∙ ap (λ (n : ℕ). b ∷
              (take r.0 bs ++ (escaped_byte (get_or bs r.0 0) ++ escaped (drop n (b ∷ bs))))) e,
        )

-- the text up to the first byte to escape, that byte's escape, and the rest
pub escaped-around : (bs : List ℕ) (i : ℕ) → Some i ≡ position_from is_escaped 0 bs
    → (is_escaped (get_or bs i 0) ≡ true)
    × (escaped bs ≡ take i bs ++ escaped_byte (get_or bs i 0) ++ escaped (drop (i + 1) bs))
escaped-around bs i h =
    let r = escaped_at bs 0 i h in
    let e : r.0 ≡ i = omega (arith, r.1) in (
      ap (λ (n : ℕ). is_escaped (get_or bs n 0)) (sym e) ∙ r.2,
      r.3
          ∙ ap (λ (n : ℕ). take n bs ++ (escaped_byte (get_or bs n 0) ++ escaped (drop (n + 1) bs)))
          e
          ∙ sym (append_assoc (take i bs) (escaped_byte (get_or bs i 0))
          (escaped (drop (i + 1) bs))),
    )
