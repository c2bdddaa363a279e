-- Texts that are made of one part for each item of a list.
use Rattle.std.proofs.Common.{◌≡◌, ℕ, ◌+◌, ◌≤◌, ◌<◌, List, [], ◌∷◌, ◌++◌, length, take, drop}
use Rattle.std.proofs.Common.{get_or, flat_map, sym, ◌∙◌, ap}
use Rattle.std.proofs.lemmas.Grind.{take_at_read, flat_map-append}
use Rattle.std.proofs.lemmas.List.{append-nil, take_all, take-append-drop}

-- one item more
pub each-more : {A : Type 0} (f : A → List ℕ) (xs : List A) (i : ℕ) (x : A) → i < length xs
    → x ≡ get_or xs i x → flat_map f (take (i + 1) xs) ≡ flat_map f (take i xs) ++ f x
each-more {A} f xs i x within is =
    let prefix : take (i + 1) xs ≡ take i xs ++ x ∷ [] = (take_at_read xs i x within).1
    ∙ ap (λ (y : A). take i xs ++ y ∷ []) (sym is) in
    ap (λ (l : List A). flat_map f l) prefix ∙ flat_map-append f (take i xs) (x ∷ [])
    ∙ ap (λ (l : List ℕ). flat_map f (take i xs) ++ l) (append-nil (f x))

-- the items so far are a prefix
pub each-prefix : {A : Type 0} (f : A → List ℕ) (xs : List A) (i : ℕ)
    → flat_map f xs ≡ flat_map f (take i xs) ++ flat_map f (drop i xs)
each-prefix {A} f xs i = ap (λ (l : List A). flat_map f l) (sym (take-append-drop i xs))
    ∙ flat_map-append f (take i xs) (drop i xs)

-- past the last item they are all
pub each-all : {A : Type 0} (f : A → List ℕ) (xs : List A) (i : ℕ) → length xs ≤ i
    → flat_map f (take i xs) ≡ flat_map f xs
each-all {A} f xs i all = ap (λ (l : List A). flat_map f l) (take_all i xs all)
