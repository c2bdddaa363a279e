-- Queues of elements by their tuple.
use Rattle.std.proofs.Common.{◌≡◌, ◌≢◌, ℕ, zero, suc, ◌+◌, ◌-◌, ◌≤◌, ◌<◌, Bool, true, false, cond}
use Rattle.std.proofs.Common.{List, [], ◌∷◌, ◌++◌, map, reverse, length}
use Rattle.std.proofs.Common.{Option, Some, None, slice_get, position, refl, sym, ap, ◌∙◌, subst}
use Rattle.std.proofs.Common.{arith, get_or, swap_remove}
use Rattle.std.specs.Prelude.{MatchOption}
use Rattle.std.specs.List.{All, AllByRecursion}
use Rattle.std.proofs.lemmas.Bool.{true≢false}
use Rattle.std.proofs.lemmas.List.Elements.{All-from_recursion, recursion_from_All}
use Rattle.std.proofs.lemmas.List.Sorted.{IsPermutation-swap_remove, All-permutation}
use Rattle.std.specs.List.{sum_by}
use Rattle.std.proofs.lemmas.List.Quantifiers.{position-Some}
use Rattle.std.proofs.lemmas.List.Sums.{sum_by-cons, sum_by-swap_remove}
use Rattle.std.specs.Map.{keys_of, values_of, lookup}
use Rattle.std.proofs.lemmas.Map.{none_passes_from_lookup}
use Rattle.indexmap.specs.Layout.{set_value_at}
use Rattle.indexmap.proofs.MapLemmas.{Missing-position}
use Rattle.pipes_tuple.specs.declared.value.Value.{Value}
use Rattle.pipes_tuple.specs.Equal.{tuple_eq}
use Rattle.pipes_tuple.proofs.Equality.{tuple_eq-Decides}
use Rattle.pipes_stream.specs.declared.Elem.{Elem}
use Rattle.pipes_stream.specs.Weights.{weigh}
use Rattle.pipes_coalesce.specs.Filed.{Entries, contents, HaveTuple, AreFiled, EntryAt, has_tuple}
use Rattle.pipes_coalesce.specs.Filed.{Added, TakenOut, TakesOfTuple, QueueOut}
use Rattle.pipes_stream.proofs.Weights.{weigh-append, weigh-length}

-- ---- a queue
pub have-push : (t : List Value) (es : List Elem) (e : Elem) → HaveTuple t es → e.tuple ≡ t
    → HaveTuple t (es ++ e ∷ [])
have-push t [] e h q = (q, tt)
have-push t (x ∷ es) e h q = (h.0, have-push t es e h.1 q)

-- ---- the queue at a place
pub there : (es : Entries) (i : ℕ) (t : List Value) (P : List Elem → Type 0) → EntryAt es i t P
    → (q : List Elem) × (slice_get (values_of es) i ≡ Some q)
there [] i t P h = absurd h
there (p ∷ ps) zero t P h = (p.1, refl)
there (p ∷ ps) (suc i) t P h = there ps i t P h

pub entry-there : (es : Entries) (i : ℕ) (t : List Value) (P : List Elem → Type 0)
    → EntryAt es i t P
    → (p : List Value × List Elem) × (slice_get es i ≡ Some p)
entry-there [] i t P h = absurd h
entry-there (p ∷ ps) zero t P h = (p, refl)
entry-there (p ∷ ps) (suc i) t P h = entry-there ps i t P h

some-is : {X : Type 0} (x y : X) → ◌≡◌ {A = Option X} (Some x) (Some y) → x ≡ y
some-is {X} x y h = ap out h
  where
    out : Option X → X
    out None = x
    out (Some z) = z

pub record At (t : List Value) (P : List Elem → Type 0) (q : List Elem) : Type 0 where
  pub have : HaveTuple t q
  pub holds : P q

pub at : (es : Entries) (i : ℕ) (t : List Value) (P : List Elem → Type 0) (q : List Elem)
    → AreFiled es → EntryAt es i t P
    → slice_get (values_of es) i ≡ Some q → At t P q
at [] i t P q f h s = absurd h
at (p ∷ ps) zero t P q f h s =
    let same : p.1 ≡ q = some-is p.1 q s in
    subst (At t P) same
    (record { have = subst (λ (u : List Value). HaveTuple u p.1) h.0 f.0; holds = h.1 })
at (p ∷ ps) (suc i) t P q f h s = at ps i t P q f.2 h s

pub weaker : (es : Entries) (i : ℕ) (t : List Value) (P Q : List Elem → Type 0)
    → ((q : List Elem) → P q → Q q)
    → EntryAt es i t P → EntryAt es i t Q
weaker [] i t P Q w h = h
weaker (p ∷ ps) zero t P Q w h = (h.0, w p.1 h.1)
weaker (p ∷ ps) (suc i) t P Q w h = weaker ps i t P Q w h

-- with another queue there
pub set-filed : (es : Entries) (i : ℕ) (t : List Value) (P : List Elem → Type 0) (w : List Elem)
    → AreFiled es → EntryAt es i t P
    → HaveTuple t w → 0 < length w → AreFiled (set_value_at es i w)
set-filed [] i t P w f h a n = absurd h
set-filed (p ∷ ps) zero t P w f h a n =
    (subst (λ (u : List Value). HaveTuple u w) (sym h.0) a, n, f.2)
set-filed (p ∷ ps) (suc i) t P w f h a n = (f.0, f.1, set-filed ps i t P w f.2 h a n)

pub set-weights : (f : Elem → ℕ) (es : Entries) (i : ℕ) (q w : List Elem)
    → slice_get (values_of es) i ≡ Some q
    → weigh f (contents (set_value_at es i w)) + weigh f q ≡ weigh f (contents es) + weigh f w
set-weights f [] i q w h = absurd (cc)
set-weights f (p ∷ ps) zero q w h =
    let same : weigh f p.1 ≡ weigh f q = ap (weigh f) (some-is p.1 q h) in
    omega (arith, weigh-append f w (contents ps), weigh-append f p.1 (contents ps), same)
set-weights f (p ∷ ps) (suc i) q w h =
    omega (
      arith,
      weigh-append f p.1 (contents (set_value_at ps i w)),
      weigh-append f p.1 (contents ps),
      set-weights f ps i q w h,
    )

-- ---- look-ups
key-there : (es : Entries) (i : ℕ) (t : List Value) → i < length (keys_of es)
    → tuple_eq t (get_or (keys_of es) i []) ≡ true
    → EntryAt es i t (λ q. slice_get (values_of es) i ≡ Some q)
key-there [] i t w h = absurd (omega arith)
key-there (p ∷ ps) zero t w h = (sym ((tuple_eq-Decides t p.0).0 h), refl)
key-there (p ∷ ps) (suc i) t w h = key-there ps i t (omega arith) h

pub found-there : (es : Entries) (i : ℕ) (t : List Value)
    → position (tuple_eq t) (keys_of es) ≡ Some i
    → EntryAt es i t (λ q. slice_get (values_of es) i ≡ Some q)
found-there es i t h = let f = position-Some (tuple_eq t) (keys_of es) i [] h in
    key-there es i t f.0 f.1

-- no element has another tuple than its queue
lacks-queue : (t u : List Value) (es : List Elem) → tuple_eq t u ≡ false → HaveTuple u es
    → weigh (has_tuple t) es ≡ 0
lacks-queue t u [] n h = refl
lacks-queue t u (e ∷ es) n h =
    let same : tuple_eq t e.tuple ≡ false = ap (tuple_eq t) h.0 ∙ n in
    let zero : cond {A = ℕ} (tuple_eq t e.tuple) 1 0 ≡ 0 = ap (λ b. cond {A = ℕ} b 1 0) same in
    omega (arith, zero, lacks-queue t u es n h.1)

absent : (es : Entries) (t : List Value) → AllByRecursion (λ p. tuple_eq t p.0 ≡ false) es
    → AreFiled es → weigh (has_tuple t) (contents es) ≡ 0
absent [] t h f = refl
absent (p ∷ ps) t h f =
    omega (
      arith,
      weigh-append (has_tuple t) p.1 (contents ps),
      lacks-queue t p.0 p.1 h.0 f.0,
      absent ps t h.1 f.2,
    )

pub lacks : (es : Entries) (t : List Value) → position (tuple_eq t) (keys_of es) ≡ None
    → AreFiled es → weigh (has_tuple t) (contents es) ≡ 0
lacks es t h f =
    absent es t (none_passes_from_lookup (tuple_eq t) es
    (Missing-position (tuple_eq t) es h).value) f

-- ---- a new queue
pub new-filed : (es : Entries) (t : List Value) (q : List Elem) → AreFiled es → HaveTuple t q
    → 0 < length q → AreFiled (es ++ (t, q) ∷ [])
new-filed [] t q f h n = (h, n, tt)
new-filed (p ∷ ps) t q f h n = (f.0, f.1, new-filed ps t q f.2 h n)

pub new-weights : (f : Elem → ℕ) (es : Entries) (p : List Value × List Elem)
    → weigh f (contents (es ++ p ∷ [])) ≡ weigh f p.1 + weigh f (contents es)
new-weights f [] p = omega (arith, weigh-append f p.1 [])
new-weights f (x ∷ es) p =
    omega (
      arith,
      weigh-append f x.1 (contents (es ++ p ∷ [])),
      weigh-append f x.1 (contents es),
      new-weights f es p,
    )

-- the last queue goes
pub less-filed : (es : Entries) (p : List Value × List Elem) → AreFiled (es ++ p ∷ [])
    → AreFiled es × HaveTuple p.0 p.1 × (0 < length p.1)
less-filed [] p f = (tt, f.0, f.1)
less-filed (x ∷ es) p f = let r = less-filed es p f.2 in ((f.0, f.1, r.0), r.1, r.2)

-- ---- the other way round
turned-filed : (es fs : Entries) → AreFiled es → AreFiled fs
    → AreFiled (mathlib.Core.List.reverse_aux es fs)
turned-filed [] fs f g = g
turned-filed (p ∷ ps) fs f g = turned-filed ps (p ∷ fs) f.2 (f.0, f.1, g)

turned-weights : (f : Elem → ℕ) (es fs : Entries)
    → weigh f (contents (mathlib.Core.List.reverse_aux es fs)) ≡ weigh f (contents es) + weigh f
    (contents fs)
turned-weights f [] fs = omega arith
turned-weights f (p ∷ ps) fs =
    omega (
      arith,
      turned-weights f ps (p ∷ fs),
      weigh-append f p.1 (contents ps),
      weigh-append f p.1 (contents fs),
    )

pub reverse-filed : (es : Entries) → AreFiled es → AreFiled (reverse es)
reverse-filed es f = turned-filed es [] f tt

pub reverse-weights : (f : Elem → ℕ) (es : Entries)
    → weigh f (contents (reverse es)) ≡ weigh f (contents es)
reverse-weights f es = omega (arith, turned-weights f es [])

-- ---- a queue goes, and the last takes its place
queue-weight : (Elem → ℕ) → List Value × List Elem → ℕ
queue-weight f p = weigh f p.1

by-queues : (f : Elem → ℕ) (es : Entries) → weigh f (contents es) ≡ sum_by (queue-weight f) es
unfolding queue-weight
by-queues f [] = refl
by-queues f (p ∷ ps) =
    omega (
      arith,
      weigh-append f p.1 (contents ps),
      by-queues f ps,
      sum_by-cons (queue-weight f) p ps,
    )

abbrev FiledOne : List Value × List Elem → Type 0
FiledOne p = HaveTuple p.0 p.1 × (0 < length p.1)

filed-all : (es : Entries) → AreFiled es → AllByRecursion FiledOne es
filed-all [] f = tt
filed-all (p ∷ ps) f = ((f.0, f.1), filed-all ps f.2)

all-filed : (es : Entries) → AllByRecursion FiledOne es → AreFiled es
all-filed [] f = tt
all-filed (p ∷ ps) f = (f.0.0, f.0.1, all-filed ps f.1)

within : {X : Type 0} (xs : List X) (i : ℕ) (x : X) → slice_get xs i ≡ Some x
    → (i < length xs) × (x ≡ get_or xs i x)
within [] i x h = absurd (cc)
within (y ∷ xs) zero x h = (omega arith, sym (some-is y x h))
within (y ∷ xs) (suc i) x h = let r = within xs i x h in (omega (arith, r.0), r.1)

pub gone-filed : (es : Entries) (i : ℕ) (p : List Value × List Elem) → slice_get es i ≡ Some p
    → AreFiled es → AreFiled (swap_remove es i p)
gone-filed es i p h f =
    let w = within es i p h in
    let moved = All-permutation FiledOne es (p ∷ swap_remove es i p)
    (IsPermutation-swap_remove es i p w.0 w.1)
    (All-from_recursion FiledOne es (filed-all es f)) in
    all-filed (swap_remove es i p) (recursion_from_All FiledOne (p ∷ swap_remove es i p) moved).1

pub gone-weights : (f : Elem → ℕ) (es : Entries) (i : ℕ) (p : List Value × List Elem)
    → slice_get es i ≡ Some p
    → weigh f (contents es) ≡ weigh f p.1 + weigh f (contents (swap_remove es i p))
unfolding queue-weight
gone-weights f es i p h =
    let w = within es i p h in
    let same : queue-weight f (get_or es i p) ≡ weigh f p.1 = ap (queue-weight f) (sym w.1) in
    omega (
      arith,
      by-queues f es,
      by-queues f (swap_remove es i p),
      sum_by-swap_remove (queue-weight f) es i p w.0,
      same,
    )

pub value-there : (es : Entries) (i : ℕ) (p : List Value × List Elem) → slice_get es i ≡ Some p
    → slice_get (values_of es) i ≡ Some p.1
value-there [] i p h = absurd (cc)
value-there (x ∷ es) zero p h = ap (λ (y : List Value × List Elem). Some y.1) (some-is x p h)
value-there (x ∷ es) (suc i) p h = value-there es i p h

-- ---- lengths
pub length-weights : (xs ys zs : List Elem)
    → weigh (λ _. 1) xs ≡ weigh (λ _. 1) ys + weigh (λ _. 1) zs → length xs ≡ length ys + length zs
length-weights xs ys zs h = omega (arith, h, weigh-length xs, weigh-length ys, weigh-length zs)

-- ---- what the calls do
pub pushed-filed : (es : Entries) (i : ℕ) (e : Elem) (P : List Elem → Type 0) (q : List Elem)
    → AreFiled es → EntryAt es i e.tuple P
    → slice_get (values_of es) i ≡ Some q → AreFiled (set_value_at es i (q ++ e ∷ []))
pushed-filed es i e P q f h s =
    set-filed es i e.tuple P (q ++ e ∷ []) f h
    (have-push e.tuple q e (at es i e.tuple P q f h s).have refl) (long q)
  where
    long : (xs : List Elem) → 0 < length (xs ++ e ∷ [])
    long [] = omega arith
    long (x ∷ xs) = omega arith

pub pushed-added : (es : Entries) (i : ℕ) (e : Elem) (q : List Elem)
    → slice_get (values_of es) i ≡ Some q
    → Added e (contents es) (contents (set_value_at es i (q ++ e ∷ [])))
pushed-added es i e q s f =
    omega (arith, set-weights f es i q (q ++ e ∷ []) s, weigh-append f q (e ∷ []))

-- the place of a queue keeps it as it was
pub same-weights : (es : Entries) (i : ℕ) (q : List Elem) → slice_get (values_of es) i ≡ Some q
    → set_value_at es i q ≡ es
same-weights [] i q s = refl
same-weights (p ∷ ps) zero q s = ap (λ (w : List Elem). (p.0, w) ∷ ps) (sym (some-is p.1 q s))
same-weights (p ∷ ps) (suc i) q s = ap (λ (es : Entries). p ∷ es) (same-weights ps i q s)

pub popped-filed : (es : Entries) (i : ℕ) (t : List Value) (e : Elem) (q rest : List Elem)
    → AreFiled es → EntryAt es i t (λ w. 1 < length w)
    → slice_get (values_of es) i ≡ Some q → q ≡ e ∷ rest → AreFiled (set_value_at es i rest)
popped-filed es i t e q rest f h s is =
    let a = at es i t (λ w. 1 < length w) q f h s in
    let have : HaveTuple t (e ∷ rest) = subst (HaveTuple t) is a.have in
    let n : length q ≡ length (e ∷ rest) = ap length is in
    let m : 1 < length q = a.holds in
    set-filed es i t (λ w. 1 < length w) rest f h have.1 (omega (arith, n, m))

pub popped-found : (es : Entries) (i : ℕ) (t : List Value) (P : List Elem → Type 0) (e : Elem)
    (q rest : List Elem) → AreFiled es → EntryAt es i t P
    → slice_get (values_of es) i ≡ Some q → q ≡ e ∷ rest
    → TakesOfTuple t (contents es) (contents (set_value_at es i rest)) (Some e)
popped-found es i t P e q rest f h s is =
    let have : HaveTuple t (e ∷ rest) = subst (HaveTuple t) is (at es i t P q f h s).have in (
      have.0,
      λ g. let w : weigh g q ≡ weigh g (e ∷ rest) = ap (weigh g) is in
          omega (arith, set-weights g es i q rest s, w),
    )

pub only-found : (es : Entries) (i : ℕ) (t : List Value) (p : List Value × List Elem) (e : Elem)
    (rest : List Elem) → AreFiled es
    → EntryAt es i t (λ w. length w ≡ 1) → slice_get es i ≡ Some p → p.1 ≡ e ∷ rest
    → TakesOfTuple t (contents es) (contents (swap_remove es i p)) (Some e)
only-found es i t p e rest f h s is =
    let a = at es i t (λ w. length w ≡ 1) p.1 f h (value-there es i p s) in
    let have : HaveTuple t (e ∷ rest) = subst (HaveTuple t) is a.have in
    let n : length p.1 ≡ length (e ∷ rest) = ap length is in
    let one : length p.1 ≡ 1 = a.holds in (
      have.0,
      λ g.
          let w : weigh g p.1 ≡ weigh g (e ∷ rest) = ap (weigh g) is in
          let z : weigh g rest ≡ 0 = no-more g rest (omega (arith, n, one)) in
          omega (arith, gone-weights g es i p s, w, z),
    )
  where
    no-more : (g : Elem → ℕ) (xs : List Elem) → length xs ≡ 0 → weigh g xs ≡ 0
    no-more g [] h = refl
    no-more g (x ∷ xs) h = absurd (omega arith)

-- a queue in a table has elements
pub some-there : (es : Entries) (i : ℕ) (t : List Value) (P : List Elem → Type 0) → AreFiled es
    → EntryAt es i t P → slice_get (values_of es) i ≡ Some [] → ⊥
some-there [] i t P f h s = absurd h
some-there (p ∷ ps) zero t P f h s = let n : length p.1 ≡ 0 = ap length (some-is p.1 [] s) in
    let m : 0 < length p.1 = f.1 in absurd (omega (arith, n, m))
some-there (p ∷ ps) (suc i) t P f h s = some-there ps i t P f.2 h s

pub only-result : (es : Entries) (i : ℕ) (t : List Value) (p : List Value × List Elem)
    (r : Option Elem) (rest : List Elem) → AreFiled es
    → EntryAt es i t (λ w. length w ≡ 1) → slice_get es i ≡ Some p
    → MatchOption r ((p.1 ≡ []) × (rest ≡ [])) (λ e. p.1 ≡ e ∷ rest)
    → TakesOfTuple t (contents es) (contents (swap_remove es i p)) r
only-result es i t p None rest f h s m =
    absurd (some-there es i t (λ w. length w ≡ 1) f h
    (value-there es i p s ∙ ap (λ (w : List Elem). Some w) m.0))
only-result es i t p (Some e) rest f h s m = only-found es i t p e rest f h s m

-- the queue that a look-up found
pub found-one : (es : Entries) (i : ℕ) (t k : List Value) (q : List Elem)
    → position (tuple_eq t) (keys_of es) ≡ Some i
    → slice_get es i ≡ Some (k, q) → length q ≡ 1 → EntryAt es i t (λ w. length w ≡ 1)
found-one es i t k q found at one =
    weaker es i t (λ w. slice_get (values_of es) i ≡ Some w) (λ w. length w ≡ 1)
    (λ w h. ap length (some-is w q (sym h ∙ value-there es i (k, q) at)) ∙ one)
    (found-there es i t found)

pub found-more : (es : Entries) (i : ℕ) (t k : List Value) (q : List Elem) → AreFiled es
    → position (tuple_eq t) (keys_of es) ≡ Some i
    → slice_get es i ≡ Some (k, q) → length q ≢ 1 → EntryAt es i t (λ w. 1 < length w)
found-more es i t k q f found at many =
    let here = found-there es i t found in
    let value = value-there es i (k, q) at in
    let none : length q ≢ 0 =
    λ z. some-there es i t (λ w. slice_get (values_of es) i ≡ Some w) f here
    (value ∙ ap (λ (w : List Elem). Some w) (empty q z)) in
    weaker es i t (λ w. slice_get (values_of es) i ≡ Some w) (λ w. 1 < length w)
    (λ w h. let n : length w ≡ length q = ap length (some-is w q (sym h ∙ value)) in
    omega (arith, n, none, many)) here
  where
    empty : (xs : List Elem) → length xs ≡ 0 → xs ≡ []
    empty [] h = refl
    empty (x ∷ xs) h = absurd (omega arith)

pub reverse-length : (es : Entries) → length (contents (reverse es)) ≡ length (contents es)
reverse-length es =
    omega (
      arith,
      reverse-weights (λ _. 1) es,
      weigh-length (contents (reverse es)),
      weigh-length (contents es),
    )

-- the last queue is taken out
pub record LastOut (es fs : Entries) (count : ℕ) (q : List Elem) : Type 0 where
  pub filed : AreFiled fs
  pub counted : count ≡ length q + length (contents fs)
  pub weights : (f : Elem → ℕ) → weigh f (contents es) ≡ weigh f q + weigh f (contents fs)
  pub some : 0 < length q

pub last-out : (es fs : Entries) (count : ℕ) (p : List Value × List Elem) → AreFiled es
    → count ≡ length (contents es) → es ≡ fs ++ p ∷ []
    → LastOut es fs count p.1
last-out es fs count p f n is =
    let g = less-filed fs p (subst AreFiled is f) in
    let w : (h : Elem → ℕ) → weigh h (contents es) ≡ weigh h p.1 + weigh h (contents fs) =
    λ h. ap (λ (l : Entries). weigh h (contents l)) is ∙ new-weights h fs p in
    record {
      filed = g.0;
      counted = n ∙ length-weights (contents es) p.1 (contents fs) (w (λ _. 1));
      weights = w;
      some = g.2;
    }

pub last-queue : (es fs : Entries) (count : ℕ) (q : List Elem) → LastOut es fs count q
    → QueueOut q (contents es) (contents fs)
last-queue es fs count q l = record {
  weights = l.weights;
  fewer = omega (arith, length-weights (contents es) q (contents fs) (l.weights (λ _. 1)), l.some);
}

pub out-length : (e : Elem) (xs ys : List Elem) → TakenOut e xs ys → length xs ≡ 1 + length ys
out-length e xs ys out = omega (arith, out (λ _. 1), weigh-length xs, weigh-length ys)

pub in-length : (e : Elem) (xs ys : List Elem) → Added e xs ys → length ys ≡ length xs + 1
in-length e xs ys put = omega (arith, put (λ _. 1), weigh-length xs, weigh-length ys)

-- an element of a new tuple
pub unfound : (es : Entries) (t : List Value) → position (tuple_eq t) (keys_of es) ≡ None
    → lookup (tuple_eq t) es ≡ None
unfound es t h = (Missing-position (tuple_eq t) es h).value

pub added-filed : (es : Entries) (e : Elem) (t : List Value) (q : List Elem) → AreFiled es
    → t ≡ e.tuple → q ≡ e ∷ [] → AreFiled (es ++ (t, q) ∷ [])
added-filed es e t q f k is =
    subst (λ (w : List Elem). AreFiled (es ++ (t, w) ∷ [])) (sym is)
    (new-filed es t (e ∷ []) f (sym k, tt) (omega arith))

pub added-weights : (f : Elem → ℕ) (es : Entries) (e : Elem) (t : List Value) (q : List Elem)
    → q ≡ e ∷ []
    → weigh f (contents (es ++ (t, q) ∷ [])) ≡ f e + weigh f (contents es)
added-weights f es e t q is =
    let w : weigh f q ≡ f e + 0 = ap (weigh f) is in
    omega (arith, new-weights f es (t, q), w)
