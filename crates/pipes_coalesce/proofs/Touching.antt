-- Tests of elements, and elements that touch.
use Rattle.std.proofs.Common.{◌≡◌, ◌≢◌, ℕ, zero, suc, ◌+◌, ◌≤◌, ◌<◌, Bool, true, false, cond, eqb}
use Rattle.std.proofs.Common.{nat_le, nat_lt, ◌&&◌, max, List, [], ◌∷◌, ◌++◌, refl, sym, ap, ◌∙◌}
use Rattle.std.proofs.Common.{subst, arith}
use Rattle.std.proofs.lemmas.Bool.Decides.{nat_tests}
use Rattle.pipes_time.specs.Interval.{horizon, IsInterval}
use Rattle.pipes_tuple.specs.declared.value.Value.{Value}
use Rattle.pipes_tuple.specs.Equal.{tuple_eq}
use Rattle.pipes_tuple.proofs.Equality.{tuple_eq-Decides}
use Rattle.pipes_stream.specs.declared.Elem.{Elem}
use Rattle.pipes_stream.specs.Weights.{weigh}
use Rattle.pipes_coalesce.specs.Tests.{if_so, starts_below, starts_above, starts_by}
use Rattle.pipes_coalesce.specs.Tests.{starts_elsewhere, ends_above, ends_at, ends_elsewhere}
use Rattle.pipes_coalesce.specs.Tests.{is_no_interval, touch, touching}
use Rattle.pipes_coalesce.specs.Filed.{has_tuple}
use Rattle.pipes_stream.proofs.Weights.{weigh-append, weigh-same, weigh-plus, weigh-le}
use Rattle.pipes_stream.proofs.Weights.{weigh-none}

-- ---- numbers
pub not-lt : (n m : ℕ) → m ≤ n → if_so (nat_lt n m) ≡ 0
not-lt n m h = grind (arith, nat_tests)

pub is-lt : (n m : ℕ) → n < m → if_so (nat_lt n m) ≡ 1
is-lt n m h = grind (arith, nat_tests)

pub lt-zero : (n m : ℕ) → if_so (nat_lt n m) ≡ 0 → m ≤ n
lt-zero n m h = grind (arith, nat_tests)

pub not-le : (n m : ℕ) → m < n → if_so (nat_le n m) ≡ 0
not-le n m h = grind (arith, nat_tests)

pub le-zero : (n m : ℕ) → if_so (nat_le n m) ≡ 0 → m < n
le-zero n m h = grind (arith, nat_tests)

pub not-eq : (n m : ℕ) → n ≢ m → if_so (eqb n m) ≡ 0
not-eq n m h = grind (arith, nat_tests)

pub is-else : (n m : ℕ) → n ≡ m → cond {A = ℕ} (eqb n m) 0 1 ≡ 0
is-else n m h = grind (arith, nat_tests)

pub else-zero : (n m : ℕ) → cond {A = ℕ} (eqb n m) 0 1 ≡ 0 → n ≡ m
else-zero n m h = grind (arith, nat_tests)

pub no-interval : (s e : ℕ) → IsInterval s e → cond {A = ℕ} (nat_lt s e && nat_le e horizon) 0 1 ≡ 0
no-interval s e h = let a : s < e = h.0 in let b : e ≤ horizon = h.1 in grind (arith, nat_tests)

pub interval-zero : (s e : ℕ) → cond {A = ℕ} (nat_lt s e && nat_le e horizon) 0 1 ≡ 0
    → (s < e) × (e ≤ horizon)
interval-zero s e h = (first, second)
  where
    first : s < e
    first = grind (arith, nat_tests)

    second : e ≤ horizon
    second = grind (arith, nat_tests)

pub above-more : (n m s : ℕ) → n ≤ m → if_so (nat_lt m s) ≤ if_so (nat_lt n s)
above-more n m s h = grind (arith, nat_tests)

pub above-else : (s n : ℕ) → if_so (nat_lt s n) ≤ cond {A = ℕ} (eqb n s) 0 1
above-else s n = grind (arith, nat_tests)

pub end-spans : (t : ℕ) (x : Elem) → ends_at t x ≤ starts_elsewhere t x + is_no_interval x
end-spans t x = by (nat_le x.span.end horizon)
  where
    by : (u : Bool)
        → if_so (eqb x.span.end t) ≤ cond {A = ℕ} (eqb x.span.start t) 0 1 + cond {A = ℕ}
        (nat_lt x.span.start x.span.end && u) 0 1
    by u = grind (arith, nat_tests)

-- ---- lists without such elements
pub zero-of : (f g : Elem → ℕ) (xs : List Elem) → ((x : Elem) → f x ≤ g x) → weigh g xs ≡ 0
    → weigh f xs ≡ 0
zero-of f g xs h z = omega (arith, weigh-le f g h xs, z)

pub none-weighs : (f : Elem → ℕ) (xs : List Elem) → weigh (λ _. 1) xs ≡ 0 → weigh f xs ≡ 0
none-weighs f [] h = refl
none-weighs f (x ∷ xs) h = absurd (omega arith)

-- ---- elements that touch
pub end-apart : (t : ℕ) (x y : Elem) → x.span.end ≢ t → touch t x y ≡ 0
end-apart t x y h = by (tuple_eq x.tuple y.tuple)
  where
    by : (b : Bool) → if_so (b && (eqb x.span.end t && eqb y.span.start t)) ≡ 0
    by b = grind (arith, nat_tests)

pub start-apart : (t : ℕ) (x y : Elem) → y.span.start ≢ t → touch t x y ≡ 0
start-apart t x y h = by (tuple_eq x.tuple y.tuple)
  where
    by : (b : Bool) → if_so (b && (eqb x.span.end t && eqb y.span.start t)) ≡ 0
    by b = grind (arith, nat_tests)

first-le : (a b : Bool) → if_so (a && b) ≤ if_so a
first-le true true = omega arith
first-le true false = omega arith
first-le false b = omega arith

pub touch-tuple : (t : ℕ) (x y : Elem) → touch t x y ≤ has_tuple x.tuple y
touch-tuple t x y = first-le (tuple_eq x.tuple y.tuple) (eqb x.span.end t && eqb y.span.start t)

swap-tuple : (a b : List Value) → if_so (tuple_eq a b) ≤ if_so (tuple_eq b a)
swap-tuple a b = by (tuple_eq a b) refl
  where
    by : (r : Bool) → tuple_eq a b ≡ r → if_so r ≤ if_so (tuple_eq b a)
    by true h =
        let same : a ≡ b = (tuple_eq-Decides a b).0 h in
        let back : tuple_eq b a ≡ true = (tuple_eq-Decides b a).1 (sym same) in
        let one : if_so (tuple_eq b a) ≡ 1 = ap if_so back in
        omega (arith, one)
    by false h = omega arith

pub touched-tuple : (t : ℕ) (x y : Elem) → touch t x y ≤ has_tuple y.tuple x
touched-tuple t x y = let a = touch-tuple t x y in
    let b : has_tuple x.tuple y ≤ has_tuple y.tuple x = swap-tuple x.tuple y.tuple in
    omega (arith, a, b)

pub touch-end : (t : ℕ) (x y : Elem) → touch t x y ≤ ends_at t x
touch-end t x y = by (tuple_eq x.tuple y.tuple) (eqb x.span.end t) (eqb y.span.start t)
  where
    by : (a b c : Bool) → if_so (a && (b && c)) ≤ if_so b
    by true true true = omega arith
    by true true false = omega arith
    by true false c = omega arith
    by false true c = omega arith
    by false false c = omega arith

pub touch-later : (t b : ℕ) (x y : Elem) → b < t → touch t x y ≤ starts_above b y
touch-later t b x y h = by (tuple_eq x.tuple y.tuple) (eqb x.span.end t)
  where
    by : (r q : Bool) → if_so (r && (q && eqb y.span.start t)) ≤ if_so (nat_lt b y.span.start)
    by r q = grind (arith, nat_tests)

pub touch-elsewhere : (t s : ℕ) (x y : Elem) → s < t → touch t x y ≤ starts_elsewhere s y
touch-elsewhere t s x y h = by (tuple_eq x.tuple y.tuple) (eqb x.span.end t)
  where
    by : (r q : Bool)
        → if_so (r && (q && eqb y.span.start t)) ≤ cond {A = ℕ} (eqb y.span.start s) 0 1
    by r q = grind (arith, nat_tests)

-- an interval that starts at the split doesn't end there
pub touch-spans : (t : ℕ) (x y : Elem) → touch t x y ≤ starts_elsewhere t x + is_no_interval x
touch-spans t x y = by (tuple_eq x.tuple y.tuple) (eqb y.span.start t) (nat_le x.span.end horizon)
  where
    by : (r q u : Bool)
        → if_so (r && (eqb x.span.end t && q)) ≤ cond {A = ℕ}
        (eqb x.span.start t) 0 1 + cond {A = ℕ} (nat_lt x.span.start x.span.end && u) 0 1
    by r q u = grind (arith, nat_tests)

-- nothing touches, with an element more
pub touching-more : (t : ℕ) (all new : List Elem) (e : Elem)
    → ((f : Elem → ℕ) → weigh f new ≡ f e + weigh f all)
    → touch t e e ≡ 0 → weigh (touch t e) all ≡ 0 → weigh (λ x. touch t x e) all ≡ 0
    → touching t all ≡ 0 → touching t new ≡ 0
touching-more t all new e w a b c none =
    let i : touching t new ≡ weigh (touch t e) new + weigh (λ x. weigh (touch t x) new) all =
    w (λ x. weigh (touch t x) new) in
    let j : weigh (touch t e) new ≡ touch t e e + weigh (touch t e) all = w (touch t e) in
    let k : weigh (λ x. weigh (touch t x) new) all ≡ weigh
    (λ x. touch t x e + weigh (touch t x) all) all =
    weigh-same (λ x. weigh (touch t x) new) (λ x. touch t x e + weigh (touch t x) all)
    (λ x. w (touch t x)) all in
    let l = weigh-plus (λ x. touch t x e) (λ x. weigh (touch t x) all) all in
    omega (arith, i, j, k, l, a, b, c, none)

-- with an element less
pub touching-less : (t : ℕ) (all rest : List Elem) (p : Elem)
    → ((f : Elem → ℕ) → weigh f all ≡ f p + weigh f rest)
    → touching t all ≡ 0 → touching t rest ≡ 0
touching-less t all rest p w none =
    let i : touching t all ≡ weigh (touch t p) all + weigh (λ x. weigh (touch t x) all) rest =
    w (λ x. weigh (touch t x) all) in
    let k : weigh (λ x. weigh (touch t x) all) rest ≡ weigh
    (λ x. touch t x p + weigh (touch t x) rest) rest =
    weigh-same (λ x. weigh (touch t x) all) (λ x. touch t x p + weigh (touch t x) rest)
    (λ x. w (touch t x)) rest in
    let l = weigh-plus (λ x. touch t x p) (λ x. weigh (touch t x) rest) rest in
    omega (arith, i, k, l, none)

-- with the same elements in another order
pub touching-same : (t : ℕ) (all new : List Elem) → ((f : Elem → ℕ) → weigh f new ≡ weigh f all)
    → touching t all ≡ 0 → touching t new ≡ 0
touching-same t all new w none =
    let i : touching t new ≡ weigh (λ x. weigh (touch t x) new) all =
    w (λ x. weigh (touch t x) new) in
    let j : weigh (λ x. weigh (touch t x) new) all ≡ touching t all =
    weigh-same (λ x. weigh (touch t x) new) (λ x. weigh (touch t x) all)
    (λ x. w (touch t x)) all in
    omega (arith, i, j, none)

-- an element across the split touches nothing
pub touching-across : (t : ℕ) (all new : List Elem) (e : Elem) → e.span.start ≢ t → e.span.end ≢ t
    → ((f : Elem → ℕ) → weigh f new ≡ f e + weigh f all)
    → touching t all ≡ 0 → touching t new ≡ 0
touching-across t all new e s n w none =
    touching-more t all new e w (end-apart t e e n)
    (weigh-none (touch t e) (λ x. end-apart t e x n) all)
    (weigh-none (λ x. touch t x e) (λ x. start-apart t x e s) all) none
