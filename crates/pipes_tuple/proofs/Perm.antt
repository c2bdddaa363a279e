-- Lists that are equal up to the order of their items.
use Rattle.std.proofs.Common.{◌≡◌, ℕ, suc, ◌+◌, Bool, true, false, cond, List, [], ◌∷◌, ◌++◌}
use Rattle.std.proofs.Common.{map, length, refl, sym, ap, ◌∙◌, subst, arith, append_assoc}
use Rattle.std.proofs.Common.{append-nil, count_by}
use Rattle.std.specs.List.{filter, flat_map, sum_by}
use Rattle.std.proofs.lemmas.List.Sums.{sum_by-cons}

pub data Perm {X : Type 0} : List X → List X → Type 0 where
  none : Perm [] []
  keep : (x : X) {xs ys : List X} → Perm xs ys → Perm (x ∷ xs) (x ∷ ys)
  swap : (x y : X) (xs : List X) → Perm (x ∷ y ∷ xs) (y ∷ x ∷ xs)
  then : {xs ys zs : List X} → Perm xs ys → Perm ys zs → Perm xs zs

module _ {X : Type 0} where
  pub Perm-refl : (xs : List X) → Perm xs xs
  Perm-refl [] = none
  Perm-refl (x ∷ xs) = keep x (Perm-refl xs)

  -- equal lists
  pub Perm-equal : {xs ys : List X} → xs ≡ ys → Perm xs ys
  Perm-equal {xs} {ys} e = subst (λ (zs : List X). Perm xs zs) e (Perm-refl xs)

  pub Perm-sym : {xs ys : List X} → Perm xs ys → Perm ys xs
  Perm-sym none = none
  Perm-sym (keep x p) = keep x (Perm-sym p)
  Perm-sym (swap x y xs) = swap y x xs
  Perm-sym (then p q) = then (Perm-sym q) (Perm-sym p)

  -- the same list before both
  pub Perm-left : (zs : List X) {xs ys : List X} → Perm xs ys → Perm (zs ++ xs) (zs ++ ys)
  Perm-left [] p = p
  Perm-left (z ∷ zs) p = keep z (Perm-left zs p)

  -- the same list after both
  pub Perm-right : (zs : List X) {xs ys : List X} → Perm xs ys → Perm (xs ++ zs) (ys ++ zs)
  Perm-right zs none = Perm-refl zs
  Perm-right zs (keep x p) = keep x (Perm-right zs p)
  Perm-right zs (swap x y xs) = swap x y (xs ++ zs)
  Perm-right zs (then p q) = then (Perm-right zs p) (Perm-right zs q)

  pub Perm-append : {xs ys us vs : List X} → Perm xs ys → Perm us vs → Perm (xs ++ us) (ys ++ vs)
  Perm-append {xs} {ys} {us} {vs} p q = then (Perm-right us p) (Perm-left ys q)

  -- an item further back comes to the prefix
  pub Perm-prefix : (x : X) (xs ys : List X) → Perm (xs ++ x ∷ ys) (x ∷ (xs ++ ys))
  Perm-prefix x [] ys = Perm-refl (x ∷ ys)
  Perm-prefix x (z ∷ xs) ys = then (keep z (Perm-prefix x xs ys)) (swap z x (xs ++ ys))

  -- two lists change places
  pub Perm-append_comm : (xs ys : List X) → Perm (xs ++ ys) (ys ++ xs)
  Perm-append_comm [] ys = Perm-equal (sym (append-nil ys))
  Perm-append_comm (x ∷ xs) ys = then (keep x (Perm-append_comm xs ys))
      (Perm-sym (Perm-prefix x ys xs))

  -- two pairs of lists, paired otherwise
  pub Perm-middle : (a b c d : List X) → Perm ((a ++ b) ++ (c ++ d)) ((a ++ c) ++ (b ++ d))
  Perm-middle a b c d =
      then (Perm-equal (append_assoc a b (c ++ d)))
      (then (Perm-left a
      (then (Perm-equal (sym (append_assoc b c d)))
      (then (Perm-right d (Perm-append_comm b c)) (Perm-equal (append_assoc c b d)))))
      (Perm-equal (sym (append_assoc a c (b ++ d)))))

  -- the lengths are the same
  pub length-Perm : {xs ys : List X} → Perm xs ys → length xs ≡ length ys
  length-Perm none = refl
  length-Perm (keep x p) = ap suc (length-Perm p)
  length-Perm (swap x y xs) = refl
  length-Perm (then p q) = length-Perm p ∙ length-Perm q

  -- a sum over the items is the same
  pub sum_by-Perm : (f : X → ℕ) {xs ys : List X} → Perm xs ys → sum_by f xs ≡ sum_by f ys
  sum_by-Perm f none = refl
  sum_by-Perm f (keep x {xs} {ys} p) = sum_by-cons f x xs ∙ ap (λ n. f x + n) (sum_by-Perm f p)
      ∙ sym (sum_by-cons f x ys)
  sum_by-Perm f (swap x y xs) = omega (
    arith,
    sum_by-cons f x (y ∷ xs),
    sum_by-cons f y xs,
    sum_by-cons f y
        (x ∷ xs),
    sum_by-cons f x xs,
  )
  sum_by-Perm f (then p q) = sum_by-Perm f p ∙ sum_by-Perm f q

  -- and so is how many items pass a test
  pub count_by-Perm : (test : X → Bool) {xs ys : List X} → Perm xs ys
      → count_by test xs ≡ count_by test ys
  count_by-Perm test p = sum_by-Perm (λ x. cond (test x) 1 0) p

  filter_keep : (b : Bool) (x : X) {xs ys : List X} → Perm xs ys
      → Perm (cond b (x ∷ xs) xs) (cond b (x ∷ ys) ys)
  filter_keep true x p = keep x p
  filter_keep false x p = p

  filter_swap : (b c : Bool) (x y : X) (xs : List X)
      → Perm (cond b (x ∷ cond c (y ∷ xs) xs) (cond c (y ∷ xs) xs))
      (cond c (y ∷ cond b (x ∷ xs) xs) (cond b (x ∷ xs) xs))
  filter_swap true true x y xs = swap x y xs
  filter_swap true false x y xs = Perm-refl (x ∷ xs)
  filter_swap false true x y xs = Perm-refl (y ∷ xs)
  filter_swap false false x y xs = Perm-refl xs

  pub Perm-filter : (test : X → Bool) {xs ys : List X} → Perm xs ys
      → Perm (filter test xs) (filter test ys)
  Perm-filter test none = none
  Perm-filter test (keep x q) = filter_keep (test x) x (Perm-filter test q)
  Perm-filter test (swap x y xs) = filter_swap (test x) (test y) x y (filter test xs)
  Perm-filter test (then q r) = then (Perm-filter test q) (Perm-filter test r)

module _ {X Y : Type 0} where
  pub Perm-map : (f : X → Y) {xs ys : List X} → Perm xs ys → Perm (map f xs) (map f ys)
  Perm-map f none = none
  Perm-map f (keep x p) = keep (f x) (Perm-map f p)
  Perm-map f (swap x y xs) = swap (f x) (f y) (map f xs)
  Perm-map f (then p q) = then (Perm-map f p) (Perm-map f q)

  -- the parts that each item gives, over lists that are equal up to order
  pub Perm-flat_map : (f : X → List Y) {xs ys : List X} → Perm xs ys
      → Perm (flat_map f xs) (flat_map f ys)
  Perm-flat_map f none = none
  Perm-flat_map f (keep x p) = Perm-left (f x) (Perm-flat_map f p)
  Perm-flat_map f (swap x y xs) =
      then (Perm-equal (sym (append_assoc (f x) (f y) (flat_map f xs))))
      (then (Perm-right (flat_map f xs) (Perm-append_comm (f x) (f y)))
      (Perm-equal (append_assoc (f y) (f x) (flat_map f xs))))
  Perm-flat_map f (then p q) = then (Perm-flat_map f p) (Perm-flat_map f q)

  -- and where the parts are equal up to order
  pub Perm-each : (f g : X → List Y) → ((x : X) → Perm (f x) (g x)) → (xs : List X)
      → Perm (flat_map f xs) (flat_map g xs)
  Perm-each f g h [] = none
  Perm-each f g h (x ∷ xs) = Perm-append (h x) (Perm-each f g h xs)

  -- two parts that each item gives, together or one after the other
  pub Perm-split : (f g : X → List Y) (xs : List X)
      → Perm (flat_map (λ x. f x ++ g x) xs) (flat_map f xs ++ flat_map g xs)
  Perm-split f g [] = none
  Perm-split f g (x ∷ xs) =
      then (Perm-left (f x ++ g x) (Perm-split f g xs))
      (Perm-middle (f x) (g x) (flat_map f xs) (flat_map g xs))

  -- items that give nothing
  pub flat_map-nothing : (xs : List X)
      → flat_map (λ (x : X). let nothing : List Y = [] in nothing) xs ≡ []
  flat_map-nothing [] = refl
  flat_map-nothing (x ∷ xs) = flat_map-nothing xs

-- two loops, either one outside
pub Perm-loops : {X Y Z : Type 0} (f : X → Y → List Z) (xs : List X) (ys : List Y)
    → Perm (flat_map (λ x. flat_map (f x) ys) xs) (flat_map (λ y. flat_map (λ x. f x y) xs) ys)
Perm-loops {X} {Y} {Z} f [] ys = Perm-equal (sym (flat_map-nothing ys))
Perm-loops {X} {Y} {Z} f (x ∷ xs) ys =
    then (Perm-left (flat_map (f x) ys) (Perm-loops f xs ys))
    (Perm-sym (Perm-split (f x) (λ y. flat_map (λ w. f w y) xs) ys))
