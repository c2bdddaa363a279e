-- Elements under their instants and numbers.
use Rattle.std.proofs.Common.{◌≡◌, ℕ, ◌≤◌, ◌<◌, ◌+◌, false, List, [], ◌∷◌, Option, Some, refl}
use Rattle.std.proofs.Common.{sym, ◌∙◌, ap, subst, arith, slice_get}
use Rattle.std.specs.declared.cmp.Ordering.{Ordering}
use Rattle.std.specs.declared.cmp.Ordering.TheVariants.{Less, Equal, Greater}
use Rattle.std.specs.Ordering.{is_gt, nat_cmp, ordering_then, match_ordering}
use Rattle.std.specs.BTreeMap.{insert_entry}
use Rattle.std.specs.Map.{keys_of, values_of}
use Rattle.std.specs.List.{All}
use Rattle.std.proofs.lemmas.Bool.Decides.{nat_tests}
use Rattle.std.proofs.lemmas.List.Elements.{All-nil, All-cons, All-head, All-tail}
use Rattle.std.proofs.lemmas.Map.Lookups.{exact_unsigned}
use Rattle.pipes_sweep.proofs.Indices.{then-gt}
use Rattle.pipes_stream.specs.Weights.{weigh}
use Rattle.pipes_timeline.specs.Rules.{Arrival}
use Rattle.pipes_stream.specs.declared.Elem.{Elem}
use Rattle.pipes_timeline.specs.Ends.{AddsArrival}
use Rattle.pipes_timeline.specs.Filed.{IsFiled}

-- an end and a number
abbrev Filed : Type 0
Filed = ℕ × ℕ

abbrev pub filed_cmp : Filed → Filed → Ordering
filed_cmp x y = ordering_then (nat_cmp x.0 y.0) (nat_cmp x.1 y.1)

then-equal : (o p : Ordering) → ordering_then o p ≡ Equal → p ≡ Equal
then-equal Less p h = absurd cc
then-equal Equal p h = h
then-equal Greater p h = absurd cc

-- a new number is under no key
new-number : (k x : Filed) → x.1 < k.1 → filed_cmp k x ≡ Equal → ⊥
new-number k x h e =
    let same : k.1 ≡ x.1 =
    exact_unsigned k.1 x.1 (then-equal (nat_cmp k.0 x.0) (nat_cmp k.1 x.1) e) in
    absurd (omega (arith, h, same))

put-case : (f : Arrival → ℕ) (k : Filed) (v : Arrival) (e : Filed × Arrival)
    (es : List (Filed × Arrival)) (o : Ordering) → (o ≡ Equal → ⊥)
    → weigh f (values_of (insert_entry filed_cmp es k v)) ≡ f v + weigh f (values_of es)
    → weigh f (values_of (match_ordering o ((k, v) ∷ e ∷ es) ((e.0, v) ∷ es)
    (e ∷ insert_entry filed_cmp es k v))) ≡ f v + (f e.1 + weigh f (values_of es))
put-case f k v e es Less n h = refl
put-case f k v e es Equal n h = absurd (n refl)
put-case f k v e es Greater n h = omega (arith, h)

put-weight : (at : Elem → ℕ) (f : Arrival → ℕ) (k : Filed) (v : Arrival)
    (es : List (Filed × Arrival))
    → IsFiled at k.1 es
    → weigh f (values_of (insert_entry filed_cmp es k v)) ≡ f v + weigh f (values_of es)
put-weight at f k v [] h = refl
put-weight at f k v (e ∷ es) h =
    put-case f k v e es (filed_cmp k e.0) (new-number k e.0 h.1) (put-weight at f k v es h.2)

pub adds_put : (at : Elem → ℕ) (k : Filed) (v : Arrival) (old new : List (Filed × Arrival))
    → IsFiled at k.1 old
    → new ≡ insert_entry filed_cmp old k v → AddsArrival v (values_of old) (values_of new)
adds_put at k v old new h is = record {
  weight = λ f. ap (λ (es : List (Filed × Arrival)). weigh f (values_of es)) is
      ∙ put-weight at f k v old h;
}

filed-later : (at : Elem → ℕ) (n m : ℕ) (es : List (Filed × Arrival)) → n ≤ m → IsFiled at n es
    → IsFiled at m es
filed-later at n m [] h f = tt
filed-later at n m (e ∷ es) h f =
    (f.0, (let a : e.0.1 < n = f.1 in omega (arith, a, h)), filed-later at n m es h f.2)

filed-case : (at : Elem → ℕ) (k : Filed) (v : Arrival) (e : Filed × Arrival)
    (es : List (Filed × Arrival))
    (o : Ordering) → (o ≡ Equal → ⊥) → k.0 ≡ at v.1 → IsFiled at (k.1 + 1) (e ∷ es)
    → IsFiled at (k.1 + 1) (insert_entry filed_cmp es k v)
    → IsFiled at (k.1 + 1) (match_ordering o ((k, v) ∷ e ∷ es) ((e.0, v) ∷ es)
    (e ∷ insert_entry filed_cmp es k v))
filed-case at k v e es Less n is f h = (is, omega arith, f)
filed-case at k v e es Equal n is f h = absurd (n refl)
filed-case at k v e es Greater n is f h = (f.0, f.1, h)

put-filed : (at : Elem → ℕ) (k : Filed) (v : Arrival) (es : List (Filed × Arrival)) → k.0 ≡ at v.1
    → IsFiled at k.1 es → IsFiled at (k.1 + 1) (insert_entry filed_cmp es k v)
put-filed at k v [] is h = (is, omega arith, tt)
put-filed at k v (e ∷ es) is h =
    filed-case at k v e es (filed_cmp k e.0) (new-number k e.0 h.1) is
    (filed-later at k.1 (k.1 + 1) (e ∷ es) (omega arith) h) (put-filed at k v es is h.2)

pub filed_put : (at : Elem → ℕ) (k : Filed) (next : ℕ) (v : Arrival)
    (old new : List (Filed × Arrival))
    → k.0 ≡ at v.1 → next ≡ k.1 + 1 → IsFiled at k.1 old
    → new ≡ insert_entry filed_cmp old k v → IsFiled at next new
filed_put at k next v old new here is h put = rw (is, put) (put-filed at k v old here h)

-- ---- the first
pub le-cmp : (n k : ℕ) → is_gt (nat_cmp n k) ≡ false → n ≤ k
le-cmp n k h = grind (arith, nat_tests)

pub then-less : (o p : Ordering) → ordering_then o p ≡ Less → is_gt o ≡ false
then-less Less p h = refl
then-less Equal p h = refl
then-less Greater p h = absurd cc

at-above : (at : Elem → ℕ) (n next : ℕ) (es : List (Filed × Arrival)) → IsFiled at next es
    → All (λ k. n ≤ k.0) (keys_of es) → All (λ s. n ≤ at s.1) (values_of es)
at-above at n next [] f all = All-nil (λ (s : Arrival). n ≤ at s.1)
at-above at n next (e ∷ es) f all =
    All-cons (λ (s : Arrival). n ≤ at s.1) e.1 (values_of es)
    (let a : n ≤ e.0.0 = All-head (λ (k : Filed). n ≤ k.0) e.0 (keys_of es) all in
    let b : e.0.0 ≡ at e.1.1 = f.0 in omega (arith, a, b))
    (at-above at n next es f.2 (All-tail (λ (k : Filed). n ≤ k.0) e.0 (keys_of es) all))

weaker : {X : Type 0} (P Q : X → Type 0) → ((x : X) → P x → Q x) → (xs : List X) → All P xs
    → All Q xs
weaker P Q f [] all = All-nil Q
weaker P Q f (x ∷ xs) all =
    All-cons Q x xs (f x (All-head P x xs all)) (weaker P Q f xs (All-tail P x xs all))

pub none_due : (at : Elem → ℕ) (to next : ℕ) (first : Filed) (es : List (Filed × Arrival))
    → IsFiled at next es
    → to < first.0 → All (λ k. is_gt (filed_cmp first k) ≡ false) (keys_of es)
    → All (λ s. to < at s.1) (values_of es)
none_due at to next first es f h all =
    weaker (λ (s : Arrival). first.0 ≤ at s.1) (λ (s : Arrival). to < at s.1)
    (λ s w. omega (arith, h, w)) (values_of es)
    (at-above at first.0 next es f
    (weaker (λ (k : Filed). is_gt (filed_cmp first k) ≡ false) (λ (k : Filed). first.0 ≤ k.0)
    (λ k g. le-cmp first.0 k.0 (then-gt (nat_cmp first.0 k.0) (nat_cmp first.1 k.1) g))
    (keys_of es) all))

first-is : (k f : Filed) (s w : Arrival) (rest all : List (Filed × Arrival)) → all ≡ (k, s) ∷ rest
    → slice_get all 0 ≡ Some (f, w) → f ≡ k
first-is k f s w rest all e h =
    let a : ◌≡◌ {A = Option (Filed × Arrival)} (Some (k, s)) (Some (f, w)) =
    sym (ap (λ (x : List (Filed × Arrival)). slice_get x 0) e) ∙ h in
    let c : ◌≡◌ {A = Filed × Arrival} (k, s) (f, w) = cc in
    sym (ap (λ (p : Filed × Arrival). p.0) c)

pub popped : (at : Elem → ℕ) (to next : ℕ) (k f : Filed) (s w : Arrival)
    (rest all : List (Filed × Arrival))
    → IsFiled at next all → all ≡ (k, s) ∷ rest → slice_get all 0 ≡ Some (f, w) → f.0 ≤ to
    → All (λ x. filed_cmp k x ≡ Less) (keys_of rest)
    → (values_of all ≡ s ∷ values_of rest) × (at s.1 ≤ to)
    × All (λ d. at s.1 ≤ at d.1) (values_of rest)
popped at to next k f s w rest all filed is here upto above =
    let filed_now : IsFiled at next ((k, s) ∷ rest) =
    subst (λ (es : List (Filed × Arrival)). IsFiled at next es) is filed in
    let end : k.0 ≡ at s.1 = filed_now.0 in
    let same : f.0 ≡ k.0 = ap (λ (x : Filed). x.0) (first-is k f s w rest all is here) in (
      ap values_of is,
      omega (arith, end, same, upto),
      at-above at (at s.1) next rest filed_now.2
          (weaker (λ (x : Filed). filed_cmp k x ≡ Less) (λ (x : Filed). at s.1 ≤ x.0)
          (λ x l. let a = le-cmp k.0 x.0 (then-less (nat_cmp k.0 x.0) (nat_cmp k.1 x.1) l) in
          omega (arith, a, end)) (keys_of rest) above),
    )
