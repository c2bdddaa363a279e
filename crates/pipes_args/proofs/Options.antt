-- Options, a pair at a time.
use Rattle.std.proofs.Common.{◌≡◌, ℕ, ◌≤◌, ◌-◌, List, [], ◌∷◌, length, map, Bool, true, false, refl}
use Rattle.std.proofs.Common.{slice_index_or, take, drop, arith, sym, ap, ◌∙◌, ◌&&◌}
use Rattle.std.proofs.lemmas.List.{take_all}
use Rattle.pipes_args.specs.Words.{is_new, are_options}

module _ {A : Type 0} (f : A → List ℕ) where
  abbrev pub after_two : List A → List (List ℕ)
  after_two words = map f (take (length words - 2) (drop 2 words))

  -- the words are options where the first pair is one and the others are
  pub pair_first : (words : List A) (a : A) (name : List ℕ) → 2 ≤ length words
      → a ≡ slice_index_or words 0 a → name ≡ f a
      → are_options (map f words) ≡ (is_new name (after_two words) && are_options (after_two words))
  pair_first [] a name more first is = absurd (omega arith)
  pair_first (x ∷ []) a name more first is = absurd (omega arith)
  pair_first (x ∷ y ∷ words) a name more first is = let same : name ≡ f x = is ∙ ap f first in
      let rest : take (length (x ∷ y ∷ words) - 2) words ≡ words =
      take_all (length (x ∷ y ∷ words) - 2) words (omega arith) in
      rw (same, rest) refl

  pub pair_new : (words : List A) (a : A) (name : List ℕ) → 2 ≤ length words
      → a ≡ slice_index_or words 0 a → name ≡ f a → is_new name (after_two words) ≡ true
      → are_options (after_two words) ≡ are_options (map f words)
  pair_new words a name more first is new =
      sym (pair_first words a name more first is
      ∙ ap (λ (b : Bool). b && are_options (after_two words)) new)

  pub pair_old : (words : List A) (a : A) (name : List ℕ) → 2 ≤ length words
      → a ≡ slice_index_or words 0 a → name ≡ f a → is_new name (after_two words) ≡ false
      → false ≡ are_options (map f words)
  pair_old words a name more first is old =
      sym (pair_first words a name more first is
      ∙ ap (λ (b : Bool). b && are_options (after_two words)) old)
