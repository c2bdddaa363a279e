-- Elements by number: what one more, or one less, does to the elements of each key, of each number
-- and to those that end later.
use Rattle.std.proofs.Common.{◌≡◌, ℕ, suc, ◌+◌, ◌≤◌, ◌<◌, Bool, true, false, cond, nat_lt, List, []}
use Rattle.std.proofs.Common.{◌∷◌, ◌++◌, map, length, Option, Some, None, refl, sym, ◌∙◌, ap, arith}
use Rattle.std.proofs.Common.{append-nil, subst, Bor}
use Rattle.std.specs.Option.{IsSome, MatchOption}
use Rattle.std.specs.List.{All, AllByRecursion, filter, filter_map, list_any, cons_option}
use Rattle.std.specs.declared.cmp.Ordering.{Ordering}
use Rattle.std.specs.declared.cmp.Ordering.TheVariants.{Less, Equal, Greater}
use Rattle.std.specs.Ordering.{is_eq, nat_cmp, match_ordering}
use Rattle.std.specs.BTreeMap.{insert_entry}
use Rattle.std.specs.BTreeSet.{insert_key}
use Rattle.std.specs.Map.{keys_of, values_of, lookup, remove_entry}
use Rattle.std.specs.Set.{remove_key}
use Rattle.std.proofs.lemmas.Bool.{le-ltb}
use Rattle.std.proofs.lemmas.Bool.Decides.{nat_tests}
use Rattle.std.proofs.lemmas.List.{map-append}
use Rattle.std.proofs.lemmas.List.Elements.{filter-append, All-head, All-tail, All-cons, All-nil}
use Rattle.std.proofs.lemmas.List.Elements.{All-filter, All-map, All-append, All-weaker}
use Rattle.std.proofs.lemmas.List.Elements.{All-from_recursion}
use Rattle.std.proofs.lemmas.Map.Keys.{sorted_head, sorted_tail}
use Rattle.pipes_tuple.specs.declared.value.Value.{Value}
use Rattle.pipes_stream.specs.declared.Elem.{Elem}
use Rattle.pipes_sweep.specs.Areas.{has_key, elems_with_key, until}
use Rattle.pipes_sweep.specs.Numbers.{Numbered, IsRising, is_number, element, numbers_of}

-- ---- tests of numbers
below-cmp : (k n : ℕ) → k < n → nat_cmp n k ≡ Greater
below-cmp k n h = grind (arith, nat_tests)

below-apart : (k n : ℕ) → k < n → is_number n k ≡ false
below-apart k n h = rw (below-cmp k n h) refl

less-apart : (k n : ℕ) → nat_cmp k n ≡ Less → is_number n k ≡ false
less-apart k n h = grind (arith, nat_tests)

pub itself : (n : ℕ) → is_number n n ≡ true
itself n = grind (arith, nat_tests)

pub number_same : (n k : ℕ) → is_number n k ≡ true → n ≡ k
number_same n k h = grind (arith, nat_tests)

pub number_turned : (n k : ℕ) → is_number n k ≡ is_number k n
number_turned n k = grind (arith, nat_tests)

-- ---- one more, with the greatest number
pub added_last : (store : Numbered) (n : ℕ) (e : Elem) → All (λ p. p.0 < n) store
    → insert_entry nat_cmp store n e ≡ store ++ (n, e) ∷ []
added_last [] n e h = refl
added_last (p ∷ ps) n e h =
    rw (below-cmp p.0 n (All-head (λ (q : ℕ × Elem). q.0 < n) p ps h))
    (ap (λ (qs : Numbered). p ∷ qs)
    (added_last ps n e (All-tail (λ (q : ℕ × Elem). q.0 < n) p ps h)))

pub below_more : (store : Numbered) (n next : ℕ) (e : Elem) → All (λ p. p.0 < n) store
    → next ≡ n + 1 → All (λ p. p.0 < next) (store ++ (n, e) ∷ [])
below_more store n next e h is =
    All-append (λ (p : ℕ × Elem). p.0 < next) store ((n, e) ∷ [])
    (All-weaker (λ (p : ℕ × Elem). p.0 < n) (λ (p : ℕ × Elem). p.0 < next)
    (λ p k. omega (arith, k, is)) store h)
    (All-cons (λ (p : ℕ × Elem). p.0 < next) (n, e) [] (omega (arith, is))
    (All-nil (λ (p : ℕ × Elem). p.0 < next)))

pub listed_last : (ks : List ℕ) (n : ℕ) → All (λ k. k < n) ks
    → insert_key nat_cmp ks n ≡ ks ++ n ∷ []
listed_last [] n h = refl
listed_last (k ∷ ks) n h =
    rw (below-cmp k n (All-head (λ (q : ℕ). q < n) k ks h))
    (ap (λ (qs : List ℕ). k ∷ qs) (listed_last ks n (All-tail (λ (q : ℕ). q < n) k ks h)))

pub numbers_below : (columns : List ℕ) (key : List Value) (store : Numbered) (n : ℕ)
    → All (λ p. p.0 < n) store → All (λ k. k < n) (numbers_of columns key store)
numbers_below columns key store n h =
    All-map (λ (k : ℕ). k < n) (λ (p : ℕ × Elem). p.0)
    (filter (λ p. has_key columns key p.1) store)
    (All-filter (λ (p : ℕ × Elem). has_key columns key p.1) (λ (p : ℕ × Elem). p.0 < n) store h)

ends-with : (b : Bool) (n : ℕ) (e : Elem) (ks : List ℕ)
    → ks ++ keys_of (cond b ((n, e) ∷ []) []) ≡ cond b (ks ++ n ∷ []) ks
ends-with true n e ks = refl
ends-with false n e ks = append-nil ks

pub numbers_more : (columns : List ℕ) (key : List Value) (store : Numbered) (n : ℕ) (e : Elem)
    → numbers_of columns key (store ++ (n, e) ∷ [])
    ≡ cond (has_key columns key e) (numbers_of columns key store ++ n ∷ [])
    (numbers_of columns key store)
numbers_more columns key store n e =
    ap keys_of (filter-append (λ (p : ℕ × Elem). has_key columns key p.1) store ((n, e) ∷ []))
    ∙ map-append (λ (p : ℕ × Elem). p.0) (filter (λ p. has_key columns key p.1) store)
    (filter (λ p. has_key columns key p.1) ((n, e) ∷ []))
    ∙ ends-with (has_key columns key e) n e (numbers_of columns key store)

picked : (b c : Bool) (d e : Elem) (rest : Option Elem) → (b ≡ true → c ≡ false)
    → cond b (Some d) (cond c (Some e) rest) ≡ cond c (Some e) (cond b (Some d) rest)
picked true true d e rest h = absurd (let x = h refl in cc)
picked true false d e rest h = refl
picked false true d e rest h = refl
picked false false d e rest h = refl

apart : (m k n : ℕ) → k < n → is_number m k ≡ true → is_number m n ≡ false
apart m k n h t = grind (arith, nat_tests)

pub element_more : (m n : ℕ) (e : Elem) (store : Numbered) → All (λ p. p.0 < n) store
    → element m (store ++ (n, e) ∷ []) ≡ cond (is_number m n) (Some e) (element m store)
element_more m n e [] h = refl
element_more m n e (p ∷ ps) h =
    ap (λ (o : Option Elem). cond (is_number m p.0) (Some p.1) o)
    (element_more m n e ps (All-tail (λ (q : ℕ × Elem). q.0 < n) p ps h))
    ∙ picked (is_number m p.0) (is_number m n) p.1 e (element m ps)
    (apart m p.0 n (All-head (λ (q : ℕ × Elem). q.0 < n) p ps h))

pub none_yet : (n : ℕ) (store : Numbered) → All (λ p. p.0 < n) store → element n store ≡ None
none_yet n [] h = refl
none_yet n (p ∷ ps) h =
    rw (below-apart p.0 n (All-head (λ (q : ℕ × Elem). q.0 < n) p ps h))
    (none_yet n ps (All-tail (λ (q : ℕ × Elem). q.0 < n) p ps h))

-- and it is taken away again
pub dropped_last : (store : Numbered) (n : ℕ) (e : Elem) → All (λ p. p.0 < n) store
    → remove_entry (is_number n) (store ++ (n, e) ∷ []) ≡ store
dropped_last [] n e h = rw (itself n) refl
dropped_last (p ∷ ps) n e h =
    rw (below-apart p.0 n (All-head (λ (q : ℕ × Elem). q.0 < n) p ps h))
    (ap (λ (qs : Numbered). p ∷ qs)
    (dropped_last ps n e (All-tail (λ (q : ℕ × Elem). q.0 < n) p ps h)))

pub dropped_again : (store added now : Numbered) (n : ℕ) (e : Elem) → added ≡ store ++ (n, e) ∷ []
    → All (λ p. p.0 < n) store → now ≡ remove_entry (is_number n) added → now ≡ store
dropped_again store added now n e is above gone =
    gone ∙ ap (remove_entry (is_number n)) is ∙ dropped_last store n e above

-- ---- one goes
rest-case : (b : Bool) (p : ℕ × Elem) (ps qs : Numbered) (next : ℕ) → p.0 < next
    → All (λ q. q.0 < next) ps → All (λ q. q.0 < next) qs
    → All (λ q. q.0 < next) (cond b ps (p ∷ qs))
rest-case true p ps qs next h a b = a
rest-case false p ps qs next h a b = All-cons (λ (q : ℕ × Elem). q.0 < next) p qs h b

pub below_rest : (n next : ℕ) (store : Numbered) → All (λ p. p.0 < next) store
    → All (λ p. p.0 < next) (remove_entry (is_number n) store)
below_rest n next [] h = h
below_rest n next (p ∷ ps) h =
    rest-case (is_number n p.0) p ps (remove_entry (is_number n) ps) next
    (All-head (λ (q : ℕ × Elem). q.0 < next) p ps h)
    (All-tail (λ (q : ℕ × Elem). q.0 < next) p ps h)
    (below_rest n next ps (All-tail (λ (q : ℕ × Elem). q.0 < next) p ps h))

some_same : {d e : Elem} → Some d ≡ Some e → d ≡ e
some_same h = cc

module _ (columns : List ℕ) (key : List Value) (n : ℕ) (e : Elem) where
  other-case : (b : Bool) (k : ℕ) (d : Elem) (ps : Numbered)
      → cond b (Some d) (element n ps) ≡ Some e
      → has_key columns key e ≡ false
      → (element n ps ≡ Some e
      → numbers_of columns key (remove_entry (is_number n) ps) ≡ numbers_of columns key ps)
      → numbers_of columns key (cond b ps ((k, d) ∷ remove_entry (is_number n) ps))
      ≡ numbers_of columns key ((k, d) ∷ ps)
  other-case true k d ps is h rest =
      let not_its : has_key columns key d ≡ false =
      ap (has_key columns key) (some_same is) ∙ h in
      rw not_its refl
  other-case false k d ps is h rest =
      kept (has_key columns key d) k d (remove_entry (is_number n) ps) ps (rest is)
    where
      kept : (c : Bool) (k : ℕ) (d : Elem) (xs ys : Numbered)
          → numbers_of columns key xs ≡ numbers_of columns key ys
          → keys_of (cond c ((k, d) ∷ filter (λ p. has_key columns key p.1) xs)
          (filter (λ p. has_key columns key p.1) xs))
          ≡ keys_of (cond c ((k, d) ∷ filter (λ p. has_key columns key p.1) ys)
          (filter (λ p. has_key columns key p.1) ys))
      kept true k d xs ys same = ap (λ (ks : List ℕ). k ∷ ks) same
      kept false k d xs ys same = same

  -- from another key's
  pub gone_other : (store : Numbered) → element n store ≡ Some e → has_key columns key e ≡ false
      → numbers_of columns key (remove_entry (is_number n) store) ≡ numbers_of columns key store
  gone_other [] is h = refl
  gone_other (p ∷ ps) is h =
      other-case (is_number n p.0) p.0 p.1 ps is h (λ there. gone_other ps there h)

  same-case : (b : Bool) (k : ℕ) (d : Elem) (ps : Numbered) → is_number n k ≡ b
      → cond b (Some d) (element n ps) ≡ Some e → has_key columns key e ≡ true
      → (element n ps ≡ Some e → numbers_of columns key (remove_entry (is_number n) ps)
      ≡ remove_key (is_number n) (numbers_of columns key ps))
      → numbers_of columns key (cond b ps ((k, d) ∷ remove_entry (is_number n) ps))
      ≡ remove_key (is_number n) (numbers_of columns key ((k, d) ∷ ps))
  same-case true k d ps test is h rest =
      let its : has_key columns key d ≡ true = ap (has_key columns key) (some_same is) ∙ h in
      rw its (rw test refl)
  same-case false k d ps test is h rest =
      kept (has_key columns key d) (remove_entry (is_number n) ps) (rest is)
    where
      kept : (c : Bool) (xs : Numbered)
          → numbers_of columns key xs ≡ remove_key (is_number n) (numbers_of columns key ps)
          → keys_of (cond c ((k, d) ∷ filter (λ p. has_key columns key p.1) xs)
          (filter (λ p. has_key columns key p.1) xs))
          ≡ remove_key (is_number n) (keys_of (cond c
          ((k, d) ∷ filter (λ p. has_key columns key p.1) ps)
          (filter (λ p. has_key columns key p.1) ps)))
      kept true xs same = rw test (ap (λ (ks : List ℕ). k ∷ ks) same)
      kept false xs same = same

  -- from its own key's
  pub gone_same : (store : Numbered) → element n store ≡ Some e → has_key columns key e ≡ true
      → numbers_of columns key (remove_entry (is_number n) store)
      ≡ remove_key (is_number n) (numbers_of columns key store)
  gone_same [] is h = refl
  gone_same (p ∷ ps) is h =
      same-case (is_number n p.0) p.0 p.1 ps refl is h (λ there. gone_same ps there h)

module _ (n t : ℕ) (e : Elem) where
  until-case : (b : Bool) (k : ℕ) (d : Elem) (ps : Numbered)
      → cond b (Some d) (element n ps) ≡ Some e → e.span.end ≤ t
      → (element n ps ≡ Some e → until t (values_of (remove_entry (is_number n) ps))
      ≡ until t (values_of ps))
      → until t (values_of (cond b ps ((k, d) ∷ remove_entry (is_number n) ps)))
      ≡ until t (d ∷ values_of ps)
  until-case true k d ps is h rest =
      let over : d.span.end ≤ t = rw (some_same is) h in
      rw (le-ltb t d.span.end over) refl
  until-case false k d ps is h rest =
      kept (nat_lt t d.span.end) d (until t (values_of (remove_entry (is_number n) ps)))
      (until t (values_of ps)) (rest is)
    where
      kept : (c : Bool) (d : Elem) (xs ys : List Elem) → xs ≡ ys
          → cond c (d ∷ xs) xs ≡ cond c (d ∷ ys) ys
      kept c d xs ys same = ap (λ (zs : List Elem). cond c (d ∷ zs) zs) same

  -- those that end later stay
  pub gone_until : (store : Numbered) → element n store ≡ Some e → e.span.end ≤ t
      → until t (values_of (remove_entry (is_number n) store)) ≡ until t (values_of store)
  gone_until [] is h = refl
  gone_until (p ∷ ps) is h =
      until-case (is_number n p.0) p.0 p.1 ps is h (λ there. gone_until ps there h)

  count-case : (b : Bool) (k : ℕ) (d : Elem) (ps : Numbered)
      → cond b (Some d) (element n ps) ≡ Some e
      → (element n ps ≡ Some e → length (remove_entry (is_number n) ps) + 1 ≡ length ps)
      → length (cond b ps ((k, d) ∷ remove_entry (is_number n) ps)) + 1 ≡ suc (length ps)
  count-case true k d ps is rest = omega arith
  count-case false k d ps is rest = let h = rest is in omega (arith, h)

  pub gone_count : (store : Numbered) → element n store ≡ Some e
      → length (remove_entry (is_number n) store) + 1 ≡ length store
  gone_count [] is = cc
  gone_count (p ∷ ps) is =
      count-case (is_number n p.0) p.0 p.1 ps is (λ there. gone_count ps there)

-- ---- each number names its element
abbrev Names : Numbered → ℕ × Elem → Type 0
Names store p = element p.0 store ≡ Some p.1

names-later : (p : ℕ × Elem) (ps qs : Numbered) → AllByRecursion (λ k. nat_cmp p.0 k ≡ Less)
    (keys_of qs) → AllByRecursion (Names ps) qs → AllByRecursion (Names (p ∷ ps)) qs
names-later p ps [] low h = tt
names-later p ps (q ∷ qs) low h =
    (rw (less-apart p.0 q.0 low.0) h.0, names-later p ps qs low.1 h.1)

pub each_names : (store : Numbered) → IsRising store → AllByRecursion (Names store) store
each_names [] h = tt
each_names (p ∷ ps) h = (
  rw (itself p.0) refl,
  names-later p ps ps (sorted_head nat_cmp p.0 (keys_of ps) h)
      (each_names ps (sorted_tail nat_cmp p.0 (keys_of ps) h)),
)

found-case : (c : Bool) (store : Numbered) (p : ℕ × Elem) (ps : Numbered) (es : List Elem)
    → Names store p → filter_map (λ n. element n store) (keys_of ps) ≡ es
    → filter_map (λ n. element n store) (keys_of (cond c (p ∷ ps) ps)) ≡ cond c (p.1 ∷ es) es
found-case true store p ps es names h =
    ap (λ (o : Option Elem). cons_option o (filter_map (λ n. element n store) (keys_of ps))) names
    ∙ ap (λ (ds : List Elem). p.1 ∷ ds) h
found-case false store p ps es names h = h

found-in : (columns : List ℕ) (key : List Value) (store ps : Numbered)
    → AllByRecursion (Names store) ps
    → filter_map (λ n. element n store) (numbers_of columns key ps)
    ≡ elems_with_key columns key (values_of ps)
found-in columns key store [] h = refl
found-in columns key store (p ∷ ps) h =
    found-case (has_key columns key p.1) store p (filter (λ q. has_key columns key q.1) ps)
    (elems_with_key columns key (values_of ps)) h.0 (found-in columns key store ps h.1)

-- the elements of a key's numbers are the elements of the key
pub found_all : (columns : List ℕ) (key : List Value) (store : Numbered) → IsRising store
    → filter_map (λ n. element n store) (numbers_of columns key store)
    ≡ elems_with_key columns key (values_of store)
found_all columns key store h = found-in columns key store store (each_names store h)

there-case : (c : Bool) (store : Numbered) (p : ℕ × Elem) (ps : Numbered) → Names store p
    → AllByRecursion (λ n. IsSome (element n store)) (keys_of ps)
    → AllByRecursion (λ n. IsSome (element n store)) (keys_of (cond c (p ∷ ps) ps))
there-case true store p ps names h = (rw names refl, h)
there-case false store p ps names h = h

there-in : (columns : List ℕ) (key : List Value) (store ps : Numbered)
    → AllByRecursion (Names store) ps
    → AllByRecursion (λ n. IsSome (element n store)) (numbers_of columns key ps)
there-in columns key store [] h = tt
there-in columns key store (p ∷ ps) h =
    there-case (has_key columns key p.1) store p (filter (λ q. has_key columns key q.1) ps) h.0
    (there-in columns key store ps h.1)

-- and they are there
pub there_all : (columns : List ℕ) (key : List Value) (store : Numbered) → IsRising store
    → All (λ n. IsSome (element n store)) (numbers_of columns key store)
there_all columns key store h =
    All-from_recursion (λ (n : ℕ). IsSome (element n store)) (numbers_of columns key store)
    (there-in columns key store store (each_names store h))

-- the numbers that are left after the next
pub left_after : (P : ℕ → Type 0) (o : Option (Bor ℕ)) (old now : List ℕ)
    → MatchOption o ((old ≡ []) × (now ≡ [])) (λ n. old ≡ n.now ∷ now) → All P old → All P now
left_after P None old now is h = rw is.1 (All-nil P)
left_after P (Some n) old now is h = All-tail P n.now now (subst (λ (ns : List ℕ). All P ns) is h)
