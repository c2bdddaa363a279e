-- What becomes of the elements of both sides.
use Rattle.std.specs.Prelude.{ℕ, ◌≡◌, ◌+◌, cond, nat_le, nat_lt, ◌&&◌, List, [], ◌∷◌, ⊤}
use Rattle.pipes_stream.specs.declared.Elem.{Elem}
use Rattle.pipes_stream.specs.Weights.{weigh}

-- an old element that ends at the split, a fresh one of the same tuple that starts there, and the
-- one made of both
pub record Pairing : Type 0 where
  pub first : Elem
  pub second : Elem
  pub both : Elem

pub record IsPairing (split : ℕ) (p : Pairing) : Type 0 where
  pub ends : p.first.span.end ≡ split
  pub starts : p.second.span.start ≡ split
  pub tuples : p.second.tuple ≡ p.first.tuple
  pub tuple : p.both.tuple ≡ p.first.tuple
  pub start : p.both.span.start ≡ p.first.span.start
  pub end : p.both.span.end ≡ p.second.span.end

abbrev pub ArePairings : ℕ → List Pairing → Type 0
ArePairings split [] = ⊤
ArePairings split (p ∷ ps) = IsPairing split p × ArePairings split ps

-- the weight of the elements that end at or below the split, of those that start at or above it,
-- and of those across it
abbrev pub below_split : ℕ → (Elem → ℕ) → Elem → ℕ
below_split split f e = cond (nat_le e.span.end split) (f e) 0

abbrev pub above_split : ℕ → (Elem → ℕ) → Elem → ℕ
above_split split f e = cond (nat_le split e.span.start) (f e) 0

abbrev pub across : ℕ → (Elem → ℕ) → Elem → ℕ
across split f e = cond (nat_lt e.span.start split && nat_lt split e.span.end) (f e) 0

-- All are the old and the fresh elements, but that some pairs became one.
pub record Bags (split : ℕ) (olds fresh all : List Elem) : Type 0 where
  pub pairs : List Pairing
  pub pairings : ArePairings split pairs
  pub old_side : (f : Elem → ℕ)
      → weigh f olds ≡ weigh (below_split split f) all + weigh (λ (p : Pairing). f p.first) pairs
  pub fresh_side : (f : Elem → ℕ)
      → weigh f fresh ≡ weigh (above_split split f) all + weigh (λ (p : Pairing). f p.second) pairs
  pub merged : (f : Elem → ℕ) → weigh (across split f) all ≡ weigh (λ (p : Pairing). f p.both) pairs
