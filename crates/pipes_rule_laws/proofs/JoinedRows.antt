-- Joins by any test of two rows: filters of them, filters of their sides, and joins of joins.
use Rattle.std.proofs.Common.{◌≡◌, ℕ, Bool, true, false, ◌&&◌, cond, List, [], ◌∷◌, ◌++◌, map, refl}
use Rattle.std.proofs.Common.{sym, ap, ◌∙◌, append_assoc, append-nil}
use Rattle.std.specs.List.{All, filter, flat_map}
use Rattle.std.proofs.lemmas.Grind.{flat_map-append}
use Rattle.std.proofs.lemmas.List.{map-append}
use Rattle.std.proofs.lemmas.List.Elements.{All-head, All-tail, filter-append}
use Rattle.pipes_tuple.proofs.Perm.{flat_map-nothing}
use Rattle.pipes_expr.specs.declared.expr.Expr.{Expr}
use Rattle.pipes_expr.specs.ExprValue.{Row}
use Rattle.pipes_relation.specs.declared.lists.Pair.{Pair}
use Rattle.pipes_relation.specs.Relations.{meets, joined}

-- ---- lists made of lists

pub flat_map_each : {A B : Type 0} (P : A → Type 0) (f g : A → List B)
    → ((x : A) → P x → f x ≡ g x) → (xs : List A) → All P xs → flat_map f xs ≡ flat_map g xs
flat_map_each P f g h [] a = refl
flat_map_each P f g h (x ∷ xs) a = rw (h x (All-head P x xs a)) (ap (λ ys. g x ++ ys)
    (flat_map_each P f g h xs (All-tail P x xs a)))

pub flat_map_all : {A B : Type 0} (f g : A → List B) → ((x : A) → f x ≡ g x) → (xs : List A)
    → flat_map f xs ≡ flat_map g xs
flat_map_all f g h [] = refl
flat_map_all f g h (x ∷ xs) = rw (h x) (ap (λ ys. g x ++ ys) (flat_map_all f g h xs))

pub map-flat_map : {A B C : Type 0} (f : B → C) (g : A → List B) (xs : List A)
    → map f (flat_map g xs) ≡ flat_map (λ x. map f (g x)) xs
map-flat_map f g [] = refl
map-flat_map f g (x ∷ xs) = map-append f (g x) (flat_map g xs)
    ∙ ap (λ ys. map f (g x) ++ ys) (map-flat_map f g xs)

pub filter-flat_map : {A B : Type 0} (test : B → Bool) (g : A → List B) (xs : List A)
    → filter test (flat_map g xs) ≡ flat_map (λ x. filter test (g x)) xs
filter-flat_map test g [] = refl
filter-flat_map test g (x ∷ xs) = filter-append test (g x) (flat_map g xs)
    ∙ ap (λ ys. filter test (g x) ++ ys) (filter-flat_map test g xs)

pub flat_map-flat_map : {A B C : Type 0} (f : B → List C) (g : A → List B) (xs : List A)
    → flat_map f (flat_map g xs) ≡ flat_map (λ x. flat_map f (g x)) xs
flat_map-flat_map f g [] = refl
flat_map-flat_map f g (x ∷ xs) = flat_map-append f (g x) (flat_map g xs)
    ∙ ap (λ ys. flat_map f (g x) ++ ys) (flat_map-flat_map f g xs)

filter_one : {A B : Type 0} (g : A → List B) (x : A) (xs : List A) (b : Bool) (ys : List B)
    → flat_map g xs ≡ ys → flat_map g (cond b (x ∷ xs) xs) ≡ cond b (g x) [] ++ ys
filter_one g x xs true ys e = ap (λ zs. g x ++ zs) e
filter_one g x xs false ys e = e

pub flat_map-filter : {A B : Type 0} (g : A → List B) (test : A → Bool) (xs : List A)
    → flat_map g (filter test xs) ≡ flat_map (λ x. cond (test x) (g x) []) xs
flat_map-filter g test [] = refl
flat_map-filter g test (x ∷ xs) =
    filter_one g x (filter test xs) (test x) (flat_map (λ x. cond (test x) (g x) []) xs)
    (flat_map-filter g test xs)

-- ---- joins by a test

-- the concatenation of each left and each right row that pass the test
abbrev pub joined_by : (Row → Row → Bool) → List Row → List Row → List Row
joined_by test ls rs = flat_map (λ l. flat_map (λ r. cond (test l r) ((l ++ r) ∷ []) []) rs) ls

pub joined-by : (k : List Pair) (c : Expr) (ls rs : List Row)
    → joined k c ls rs ≡ joined_by (meets k c) ls rs
unfolding joined
joined-by k c ls rs = refl

-- tests that agree on the rows
pub joined_alike : (P Q : Row → Type 0) (test test' : Row → Row → Bool)
    → ((l r : Row) → P l → Q r → test l r ≡ test' l r) → (ls rs : List Row) → All P ls → All Q rs
    → joined_by test ls rs ≡ joined_by test' ls rs
joined_alike P Q test test' h ls rs a b =
    flat_map_each P (λ l. flat_map (λ r. cond (test l r) ((l ++ r) ∷ []) []) rs)
    (λ l. flat_map (λ r. cond (test' l r) ((l ++ r) ∷ []) []) rs)
    (λ l p. flat_map_each Q (λ r. cond (test l r) ((l ++ r) ∷ []) [])
    (λ r. cond (test' l r) ((l ++ r) ∷ []) [])
    (λ r q. ap (λ z. cond z ((l ++ r) ∷ []) []) (h l r p q)) rs b) ls a

filter_row : {A : Type 0} (test : A → Bool) (x : A) (b c : Bool) → c ≡ test x
    → filter test (cond b (x ∷ []) []) ≡ cond (c && b) (x ∷ []) []
filter_row {A} test x true true e = ap (λ z. let xs : List A = cond z (x ∷ []) [] in xs) (sym e)
filter_row {A} test x true false e = ap (λ z. let xs : List A = cond z (x ∷ []) [] in xs) (sym e)
filter_row test x false true e = refl
filter_row test x false false e = refl

-- a filter of a join
pub filter-joined : (p : Row → Bool) (test : Row → Row → Bool) (ls rs : List Row)
    → filter p (joined_by test ls rs) ≡ joined_by (λ l r. p (l ++ r) && test l r) ls rs
filter-joined p test ls rs =
    filter-flat_map p (λ l. flat_map (λ r. cond (test l r) ((l ++ r) ∷ []) []) rs) ls
    ∙ flat_map_all (λ l. filter p (flat_map (λ r. cond (test l r) ((l ++ r) ∷ []) []) rs))
    (λ l. flat_map (λ r. cond (p (l ++ r) && test l r) ((l ++ r) ∷ []) []) rs)
    (λ l. filter-flat_map p (λ r. cond (test l r) ((l ++ r) ∷ []) []) rs
    ∙ flat_map_all (λ r. filter p (cond (test l r) ((l ++ r) ∷ []) []))
    (λ r. cond (p (l ++ r) && test l r) ((l ++ r) ∷ []) [])
    (λ r. filter_row p (l ++ r) (test l r) (p (l ++ r)) refl) rs) ls

none_of_row : (b : Bool) (test : Row → Bool) (l : Row) (rs : List Row)
    → cond b (flat_map (λ r. cond (test r) ((l ++ r) ∷ []) []) rs) []
    ≡ flat_map (λ r. cond (b && test r) ((l ++ r) ∷ []) []) rs
none_of_row true test l rs = refl
none_of_row false test l rs = sym (flat_map-nothing rs)

-- a join of a filtered left side
pub joined-left : (q : Row → Bool) (test : Row → Row → Bool) (ls rs : List Row)
    → joined_by test (filter q ls) rs ≡ joined_by (λ l r. q l && test l r) ls rs
joined-left q test ls rs =
    flat_map-filter (λ l. flat_map (λ r. cond (test l r) ((l ++ r) ∷ []) []) rs) q ls
    ∙ flat_map_all (λ l. cond (q l) (flat_map (λ r. cond (test l r) ((l ++ r) ∷ []) []) rs) [])
    (λ l. flat_map (λ r. cond (q l && test l r) ((l ++ r) ∷ []) []) rs)
    (λ l. none_of_row (q l) (test l) l rs) ls

two_tests : {A : Type 0} (b c : Bool) (xs : List A)
    → cond b (cond c xs []) [] ≡ cond (b && c) xs []
two_tests true c xs = refl
two_tests false c xs = refl

-- a join of a filtered right side
pub joined-right : (q : Row → Bool) (test : Row → Row → Bool) (ls rs : List Row)
    → joined_by test ls (filter q rs) ≡ joined_by (λ l r. q r && test l r) ls rs
joined-right q test ls rs =
    flat_map_all (λ l. flat_map (λ r. cond (test l r) ((l ++ r) ∷ []) []) (filter q rs))
    (λ l. flat_map (λ r. cond (q r && test l r) ((l ++ r) ∷ []) []) rs)
    (λ l. flat_map-filter (λ r. cond (test l r) ((l ++ r) ∷ []) []) q rs
    ∙ flat_map_all (λ r. cond (q r) (cond (test l r) ((l ++ r) ∷ []) []) [])
    (λ r. cond (q r && test l r) ((l ++ r) ∷ []) [])
    (λ r. two_tests (q r) (test l r) ((l ++ r) ∷ [])) rs) ls

-- ---- joins of joins

-- the concatenation of rows of three lists that pass the test
abbrev pub three_joined : (Row → Row → Row → Bool) → List Row → List Row → List Row → List Row
three_joined test xs ys zs = flat_map (λ x. flat_map (λ y. flat_map (λ z.
    cond (test x y z) ((x ++ (y ++ z)) ∷ []) []) zs) ys) xs

pub three_alike : (P Q R : Row → Type 0) (test test' : Row → Row → Row → Bool)
    → ((x y z : Row) → P x → Q y → R z → test x y z ≡ test' x y z) → (xs ys zs : List Row)
    → All P xs → All Q ys → All R zs → three_joined test xs ys zs ≡ three_joined test' xs ys zs
three_alike P Q R test test' h xs ys zs a b c =
    flat_map_each P (λ x. flat_map (λ y. flat_map (λ z.
    cond (test x y z) ((x ++ (y ++ z)) ∷ []) []) zs) ys)
    (λ x. flat_map (λ y. flat_map (λ z. cond (test' x y z) ((x ++ (y ++ z)) ∷ []) []) zs) ys)
    (λ x p. flat_map_each Q (λ y. flat_map (λ z. cond (test x y z) ((x ++ (y ++ z)) ∷ []) []) zs)
    (λ y. flat_map (λ z. cond (test' x y z) ((x ++ (y ++ z)) ∷ []) []) zs)
    (λ y q. flat_map_each R (λ z. cond (test x y z) ((x ++ (y ++ z)) ∷ []) [])
    (λ z. cond (test' x y z) ((x ++ (y ++ z)) ∷ []) [])
    (λ z r. ap (λ b. cond b ((x ++ (y ++ z)) ∷ []) []) (h x y z p q r)) zs c) ys b) xs a

left_row : (outer : Row → Row → Bool) (b : Bool) (x y : Row) (zs : List Row)
    → flat_map (λ l. flat_map (λ z. cond (outer l z) ((l ++ z) ∷ []) []) zs)
    (cond b ((x ++ y) ∷ []) [])
    ≡ flat_map (λ z. cond (b && outer (x ++ y) z) ((x ++ (y ++ z)) ∷ []) []) zs
left_row outer true x y zs =
    append-nil (flat_map (λ z. cond (outer (x ++ y) z) (((x ++ y) ++ z) ∷ []) []) zs)
    ∙ flat_map_all (λ z. cond (outer (x ++ y) z) (((x ++ y) ++ z) ∷ []) [])
    (λ z. cond (outer (x ++ y) z) ((x ++ (y ++ z)) ∷ []) [])
    (λ z. ap (λ (row : Row). cond (outer (x ++ y) z) (row ∷ []) []) (append_assoc x y z)) zs
left_row outer false x y zs = sym (flat_map-nothing zs)

-- a join below the left side
pub joined_then_joined : (outer inner : Row → Row → Bool) (xs ys zs : List Row)
    → joined_by outer (joined_by inner xs ys) zs
    ≡ three_joined (λ x y z. inner x y && outer (x ++ y) z) xs ys zs
joined_then_joined outer inner xs ys zs =
    flat_map-flat_map (λ l. flat_map (λ z. cond (outer l z) ((l ++ z) ∷ []) []) zs)
    (λ x. flat_map (λ y. cond (inner x y) ((x ++ y) ∷ []) []) ys) xs
    ∙ flat_map_all (λ x. flat_map (λ l. flat_map (λ z. cond (outer l z) ((l ++ z) ∷ []) []) zs)
    (flat_map (λ y. cond (inner x y) ((x ++ y) ∷ []) []) ys))
    (λ x. flat_map (λ y. flat_map (λ z.
    cond (inner x y && outer (x ++ y) z) ((x ++ (y ++ z)) ∷ []) []) zs) ys)
    (λ x. flat_map-flat_map (λ l. flat_map (λ z. cond (outer l z) ((l ++ z) ∷ []) []) zs)
    (λ y. cond (inner x y) ((x ++ y) ∷ []) []) ys
    ∙ flat_map_all (λ y. flat_map (λ l. flat_map (λ z. cond (outer l z) ((l ++ z) ∷ []) []) zs)
    (cond (inner x y) ((x ++ y) ∷ []) []))
    (λ y. flat_map (λ z. cond (inner x y && outer (x ++ y) z) ((x ++ (y ++ z)) ∷ []) []) zs)
    (λ y. left_row outer (inner x y) x y zs) ys) xs

right_row : (outer : Row → Row → Bool) (b : Bool) (x y z : Row)
    → flat_map (λ r. cond (outer x r) ((x ++ r) ∷ []) []) (cond b ((y ++ z) ∷ []) [])
    ≡ cond (b && outer x (y ++ z)) ((x ++ (y ++ z)) ∷ []) []
right_row outer true x y z = append-nil (cond (outer x (y ++ z)) ((x ++ (y ++ z)) ∷ []) [])
right_row outer false x y z = refl

-- a join below the right side
pub joined_with_joined : (outer inner : Row → Row → Bool) (xs ys zs : List Row)
    → joined_by outer xs (joined_by inner ys zs)
    ≡ three_joined (λ x y z. inner y z && outer x (y ++ z)) xs ys zs
joined_with_joined outer inner xs ys zs =
    flat_map_all (λ x. flat_map (λ r. cond (outer x r) ((x ++ r) ∷ []) [])
    (joined_by inner ys zs))
    (λ x. flat_map (λ y. flat_map (λ z.
    cond (inner y z && outer x (y ++ z)) ((x ++ (y ++ z)) ∷ []) []) zs) ys)
    (λ x. flat_map-flat_map (λ r. cond (outer x r) ((x ++ r) ∷ []) [])
    (λ y. flat_map (λ z. cond (inner y z) ((y ++ z) ∷ []) []) zs) ys
    ∙ flat_map_all (λ y. flat_map (λ r. cond (outer x r) ((x ++ r) ∷ []) [])
    (flat_map (λ z. cond (inner y z) ((y ++ z) ∷ []) []) zs))
    (λ y. flat_map (λ z. cond (inner y z && outer x (y ++ z)) ((x ++ (y ++ z)) ∷ []) []) zs)
    (λ y. flat_map-flat_map (λ r. cond (outer x r) ((x ++ r) ∷ []) [])
    (λ z. cond (inner y z) ((y ++ z) ∷ []) []) zs
    ∙ flat_map_all (λ z. flat_map (λ r. cond (outer x r) ((x ++ r) ∷ []) [])
    (cond (inner y z) ((y ++ z) ∷ []) []))
    (λ z. cond (inner y z && outer x (y ++ z)) ((x ++ (y ++ z)) ∷ []) [])
    (λ z. right_row outer (inner y z) x y z) zs) ys) xs
