-- The indices of an area as elements come and go.
use Rattle.std.proofs.Common.{◌≡◌, ℕ, ◌+◌, ◌<◌, ◌≤◌, Bool, true, false, cond, ◌&&◌, nat_le, nat_lt}
use Rattle.std.proofs.Common.{List, [], ◌∷◌}
use Rattle.std.proofs.Common.{◌++◌, length, Option, Some, None, refl, sym, ◌∙◌, ap, subst, arith}
use Rattle.std.specs.List.{All, AllByRecursion, filter, filter_map, slice_get}
use Rattle.std.specs.Option.{IsSome, IfSome}
use Rattle.std.specs.declared.cmp.Ordering.{Ordering}
use Rattle.std.specs.declared.cmp.Ordering.TheVariants.{Less, Equal, Greater}
use Rattle.std.specs.Ordering.{is_eq, is_gt, nat_cmp, ordering_then, eq_by_cmp}
use Rattle.std.specs.Cmp.{IsEquivalence, eq_by_cmp_equiv}
use Rattle.std.specs.BTreeMap.{BTreeMap, get}
use Rattle.std.specs.BTreeSet.{BTreeSet, insert_key}
use Rattle.std.specs.Map.{keys_of, values_of, lookup, remove_entry}
use Rattle.std.specs.Set.{remove_key}
use Rattle.std.proofs.lemmas.Bool.{lt-ltb, leb-false}
use Rattle.std.proofs.lemmas.Bool.Decides.{nat_tests}
use Rattle.std.proofs.lemmas.Cmp.{nat_cmp_total}
use Rattle.std.proofs.lemmas.List.{map-append, length-map}
use Rattle.std.proofs.lemmas.List.Elements.{All-from_recursion}
use Rattle.std.proofs.lemmas.Map.{lookup-remove_entry}
use Rattle.std.proofs.lemmas.Map.Keys.{IsDistinct-from_sorted}
use Rattle.std.proofs.lemmas.Bool.{and_parts}
use Rattle.pipes_tuple.specs.declared.value.Value.{Value}
use Rattle.pipes_tuple.specs.Columns.{at_columns}
use Rattle.pipes_tuple.specs.Equal.{tuple_eq}
use Rattle.pipes_tuple.proofs.Equality.{tuple_eq-Decides}
use Rattle.pipes_stream.specs.declared.Elem.{Elem}
use Rattle.pipes_sweep.specs.Areas.{KeptByKey, has_key, until, elems_with_key}
use Rattle.pipes_sweep.specs.Numbers.{Numbered, IsRising, IsIndexed, EndsLater, PopsEnded}
use Rattle.pipes_sweep.specs.Numbers.{is_number, element, numbers_of, numbers_at, numbers_in}
use Rattle.pipes_sweep.specs.Numbers.{end_cmp, key_ending}
use Rattle.pipes_sweep.proofs.Numbers.{listed_last, numbers_below, numbers_more, element_more}
use Rattle.pipes_sweep.proofs.Numbers.{none_yet, dropped_last, gone_other, gone_same, gone_until}
use Rattle.pipes_sweep.proofs.Numbers.{gone_count, each_names, itself, number_same, number_turned}
use Rattle.pipes_sweep.proofs.Numbers.{found_all, there_all}

abbrev Sets : Type 0
Sets = List (List Value × BTreeSet ℕ)

abbrev Ends : Type 0
Ends = BTreeMap (ℕ × ℕ) (List Value)

-- ---- tests
then-eq : (o p : Ordering) → is_eq (ordering_then o p) ≡ (is_eq o && is_eq p)
then-eq Less p = refl
then-eq Equal p = refl
then-eq Greater p = refl

end-test : (a n b m : ℕ) → is_eq (end_cmp (a, n) (b, m)) ≡ (is_number a b && is_number n m)
end-test a n b m = then-eq (nat_cmp a b) (nat_cmp n m)

pub then-gt : (o p : Ordering) → is_gt (ordering_then o p) ≡ false → is_gt o ≡ false
then-gt Less p h = refl
then-gt Equal p h = refl
then-gt Greater p h = h

not-gt : (a b : ℕ) → is_gt (nat_cmp a b) ≡ false → a ≤ b
not-gt a b h = grind (arith, nat_tests)

pub end_low : (x y : ℕ × ℕ) → is_gt (end_cmp x y) ≡ false → x.0 ≤ y.0
end_low x y h = not-gt x.0 y.0 (then-gt (nat_cmp x.0 y.0) (nat_cmp x.1 y.1) h)

-- ---- one more
keys-case : (columns : List ℕ) (store : Numbered) (sets : Sets) (n : ℕ) (key k : List Value)
    (b : Bool)
    → ((q : List Value) → numbers_at sets q ≡ numbers_of columns q store)
    → All (λ p. p.0 < n) store → tuple_eq key k ≡ b
    → cond b (insert_key nat_cmp (numbers_at sets key) n) (numbers_at sets k)
    ≡ cond b (numbers_of columns k store ++ n ∷ []) (numbers_of columns k store)
keys-case columns store sets n key k true by above is =
    let same : key ≡ k = (tuple_eq-Decides key k).0 is in
    ap (λ (ns : List ℕ). insert_key nat_cmp ns n) (by key)
    ∙ listed_last (numbers_of columns key store) n (numbers_below columns key store n above)
    ∙ ap (λ (q : List Value). numbers_of columns q store ++ n ∷ []) same
keys-case columns store sets n key k false by above is = by k

ends-case : (columns : List ℕ) (store : Numbered) (e : Elem) (n end m : ℕ)
    (old : Option (List Value))
    (b : Bool) → is_number n m ≡ b → old ≡ key_ending columns end (element m store)
    → element n store ≡ None
    → cond (is_number e.span.end end && b) (Some (at_columns columns e.tuple)) old
    ≡ key_ending columns end (cond b (Some e) (element m store))
ends-case columns store e n end m old true test is none =
    let same : n ≡ m = number_same n m test in
    let nothing : old ≡ None =
    is ∙ ap (λ (k : ℕ). key_ending columns end (element k store)) (sym same)
    ∙ ap (key_ending columns end) none in
    pick (is_number e.span.end end) nothing
  where
    pick : (c : Bool) → old ≡ None
        → cond (c && true) (Some (at_columns columns e.tuple)) old
        ≡ cond c (Some (at_columns columns e.tuple)) None
    pick true h = refl
    pick false h = h
ends-case columns store e n end m old false test is none =
    pick (is_number e.span.end end)
  where
    pick : (c : Bool) → cond (c && false) (Some (at_columns columns e.tuple)) old
        ≡ key_ending columns end (element m store)
    pick true = is
    pick false = is

pub indexed_more : (columns : List ℕ) (store now : Numbered) (sets sets' : Sets) (ends ends' : Ends)
    (n at : ℕ) (e : Elem) (key copied : List Value) → IsIndexed columns store sets ends
    → now ≡ store ++ (n, e) ∷ [] → All (λ p. p.0 < n) store → IsRising now
    → at ≡ e.span.end → key ≡ at_columns columns e.tuple → copied ≡ key
    → ((q : ℕ × ℕ) → get end_cmp ends' q
    ≡ cond (is_eq (end_cmp (at, n) q)) (Some copied) (get end_cmp ends q))
    → ((k : List Value) → numbers_at sets' k
    ≡ cond (tuple_eq key k) (insert_key nat_cmp (numbers_at sets key) n) (numbers_at sets k))
    → IsIndexed columns now sets' ends'
indexed_more columns store now sets sets' ends ends' n at e key copied is added above rising at_is
    key_is copy_is put listed =
    record {
      rising = rising;
      by_key = λ k.
          listed k
          ∙ keys-case columns store sets n key k (tuple_eq key k) is.by_key above refl
          ∙ ap (λ (q : List Value). cond (tuple_eq q k) (numbers_of columns k store ++ n ∷ [])
          (numbers_of columns k store)) key_is
          ∙ sym (numbers_more columns k store n e)
          ∙ ap (numbers_of columns k) (sym added);
      by_end = λ end m.
          put (end, m)
          ∙ ap (λ (x : ℕ). cond (is_eq (end_cmp (x, n) (end, m))) (Some copied)
          (get end_cmp ends (end, m))) at_is
          ∙ ap (λ (b : Bool). cond b (Some copied) (get end_cmp ends (end, m)))
          (end-test e.span.end n end m)
          ∙ ap (λ (q : List Value). cond (is_number e.span.end end && is_number n m) (Some q)
          (get end_cmp ends (end, m))) (copy_is ∙ key_is)
          ∙ ends-case columns store e n end m (get end_cmp ends (end, m)) (is_number n m) refl
          (is.by_end end m) (none_yet n store above)
          ∙ ap (λ (b : Bool). key_ending columns end (cond b (Some e) (element m store)))
          (number_turned n m)
          ∙ ap (key_ending columns end) (sym (element_more m n e store above))
          ∙ ap (λ (s : Numbered). key_ending columns end (element m s)) (sym added);
    }

-- ---- nothing changes
pub indexed_same : (columns : List ℕ) (store now : Numbered) (sets sets' : Sets) (ends ends' : Ends)
    → IsIndexed columns store sets ends → now ≡ store
    → ((k : List Value) → numbers_at sets' k ≡ numbers_at sets k)
    → ((q : ℕ × ℕ) → get end_cmp ends' q ≡ get end_cmp ends q)
    → IsIndexed columns now sets' ends'
indexed_same columns store now sets sets' ends ends' is same keys put =
    record {
      rising = subst IsRising (sym same) is.rising;
      by_key = λ k. keys k ∙ is.by_key k ∙ ap (numbers_of columns k) (sym same);
      by_end = λ end m. put (end, m) ∙ is.by_end end m
          ∙ ap (λ (s : Numbered). key_ending columns end (element m s)) (sym same);
    }

back-case : (b : Bool) (key : List Value) (old : Option (List Value)) → (b ≡ true → old ≡ None)
    → cond b None (cond b (Some key) old) ≡ old
back-case true key old h = sym (h refl)
back-case false key old h = refl

-- what was put is taken back
pub taken_back : (columns : List ℕ) (store : Numbered) (sets : Sets) (ends put back : Ends)
    (end n : ℕ) (key : List Value) → IsIndexed columns store sets ends → All (λ p. p.0 < n) store
    → ((q : ℕ × ℕ) → get end_cmp put q
    ≡ cond (is_eq (end_cmp (end, n) q)) (Some key) (get end_cmp ends q))
    → ((q : ℕ × ℕ) → get end_cmp back q
    ≡ cond (is_eq (end_cmp (end, n) q)) None (get end_cmp put q))
    → (q : ℕ × ℕ) → get end_cmp back q ≡ get end_cmp ends q
taken_back columns store sets ends put back end n key is above puts takes q =
    takes q
    ∙ ap (λ (o : Option (List Value)). cond (is_eq (end_cmp (end, n) q)) None o) (puts q)
    ∙ back-case (is_eq (end_cmp (end, n) q)) key (get end_cmp ends q)
    (λ h.
    let b = and_parts (is_number end q.0) (is_number n q.1) (sym (end-test end n q.0 q.1) ∙ h) in
    is.by_end q.0 q.1
    ∙ ap (λ (k : ℕ). key_ending columns q.0 (element k store)) (sym (number_same n q.1 b.1))
    ∙ ap (key_ending columns q.0) (none_yet n store above))

-- ---- one goes
-- the element of an end and a number
record Ending (columns : List ℕ) (store : Numbered) (end n : ℕ) (key : List Value) : Type 0 where
  elem : Elem
  there : element n store ≡ Some elem
  ends : elem.span.end ≡ end
  key_is : key ≡ at_columns columns elem.tuple

ending-at : (columns : List ℕ) (store : Numbered) (end n : ℕ) (key : List Value) (e : Elem)
    (b : Bool)
    → element n store ≡ Some e → is_number e.span.end end ≡ b
    → cond b (Some (at_columns columns e.tuple)) None ≡ Some key
    → Ending columns store end n key
ending-at columns store end n key e true there test is =
    record {
      elem = e;
      there = there;
      ends = number_same e.span.end end test;
      key_is = cc;
    }
ending-at columns store end n key e false there test is = cc

ending : (columns : List ℕ) (store : Numbered) (end n : ℕ) (key : List Value) (o : Option Elem)
    → element n store ≡ o → key_ending columns end o ≡ Some key → Ending columns store end n key
ending columns store end n key (Some e) there is =
    ending-at columns store end n key e (is_number e.span.end end) there refl is
ending columns store end n key None there is = cc

unlisted-case : (columns : List ℕ) (store : Numbered) (sets : Sets) (n : ℕ) (e : Elem)
    (k : List Value) (b : Bool)
    → ((q : List Value) → numbers_at sets q ≡ numbers_of columns q store)
    → element n store ≡ Some e → tuple_eq (at_columns columns e.tuple) k ≡ b
    → cond b (remove_key (is_number n) (numbers_at sets (at_columns columns e.tuple)))
    (numbers_at sets k) ≡ numbers_of columns k (remove_entry (is_number n) store)
unlisted-case columns store sets n e k true by there is =
    let same : at_columns columns e.tuple ≡ k =
    (tuple_eq-Decides (at_columns columns e.tuple) k).0 is in
    ap (remove_key (is_number n)) (ap (numbers_at sets) same ∙ by k)
    ∙ sym (gone_same columns k n e store there is)
unlisted-case columns store sets n e k false by there is =
    by k ∙ sym (gone_other columns k n e store there is)

pub rising-element : (n m : ℕ) (store : Numbered) → IsRising store
    → element m (remove_entry (is_number n) store) ≡ cond (is_number n m) None (element m store)
rising-element n m store h =
    lookup-remove_entry (eq_by_cmp_equiv nat_cmp_total) (is_number n) (λ x y t. same_tests n x y t)
    m
    store (IsDistinct-from_sorted nat_cmp (keys_of store) h)
  where
    same_tests : (n x y : ℕ) → is_number n x ≡ true → is_number n y ≡ eq_by_cmp nat_cmp x y
    same_tests n x y t = ap (λ (k : ℕ). is_number k y) (number_same n x t)

popped-case : (columns : List ℕ) (store : Numbered) (e : Elem) (end n a m : ℕ)
    (old : Option (List Value)) (b : Bool) → is_number n m ≡ b
    → old ≡ key_ending columns a (element m store) → element n store ≡ Some e → e.span.end ≡ end
    → cond (is_number end a && b) None old ≡ key_ending columns a (cond b None (element m store))
popped-case columns store e end n a m old true test is there ends =
    let same : n ≡ m = number_same n m test in
    let here : old ≡ cond (is_number end a) (Some (at_columns columns e.tuple)) None =
    is ∙ ap (λ (k : ℕ). key_ending columns a (element k store)) (sym same)
    ∙ ap (key_ending columns a) there
    ∙ ap (λ (x : ℕ). cond (is_number x a) (Some (at_columns columns e.tuple)) None) ends in
    pick (is_number end a) here
  where
    pick : (c : Bool) → old ≡ cond c (Some (at_columns columns e.tuple)) None
        → cond (c && true) None old ≡ None
    pick true h = refl
    pick false h = h
popped-case columns store e end n a m old false test is there ends =
    pick (is_number end a)
  where
    pick : (c : Bool) → cond (c && false) None old ≡ key_ending columns a (element m store)
    pick true = is
    pick false = is

-- what is so of an area once an element has gone
pub record OneGone (columns : List ℕ) (t : ℕ) (store now : Numbered) (sets : Sets) (ends : Ends)
    : Type 0 where
  pub indexed : IsIndexed columns now sets ends
  pub stays : until t (values_of now) ≡ until t (values_of store)
  pub count : length now + 1 ≡ length store

pub indexed_less : (columns : List ℕ) (t : ℕ) (store now : Numbered) (sets sets' : Sets)
    (ends ends' : Ends) (n : ℕ) (key : List Value) → IsIndexed columns store sets ends
    → PopsEnded t ends ends' n key → now ≡ remove_entry (is_number n) store → IsRising now
    → ((k : List Value) → numbers_at sets' k
    ≡ cond (tuple_eq key k) (remove_key (is_number n) (numbers_at sets key)) (numbers_at sets k))
    → OneGone columns t store now sets' ends'
indexed_less columns t store now sets sets' ends ends' n key is pops gone rising unlisted =
    let end : ℕ = pops.end in
    let known : Ending columns store end n key =
    ending columns store end n key (element n store) refl (sym (is.by_end end n) ∙ pops.there) in
    let e : Elem = known.elem in
    record {
      indexed = record {
        rising = rising;
        by_key = λ k.
            unlisted k
            ∙ ap (λ (q : List Value). cond (tuple_eq q k)
            (remove_key (is_number n) (numbers_at sets q)) (numbers_at sets k)) known.key_is
            ∙ unlisted-case columns store sets n e k (tuple_eq (at_columns columns e.tuple) k)
            is.by_key known.there refl
            ∙ ap (numbers_of columns k) (sym gone);
        by_end = λ a m.
            pops.rest (a, m)
            ∙ ap (λ (b : Bool). cond b None (get end_cmp ends (a, m))) (end-test end n a m)
            ∙ popped-case columns store e end n a m (get end_cmp ends (a, m)) (is_number n m) refl
            (is.by_end a m) known.there known.ends
            ∙ ap (key_ending columns a) (sym (rising-element n m store is.rising))
            ∙ ap (λ (s : Numbered). key_ending columns a (element m s)) (sym gone);
      };
      stays =
          ap (λ (s : Numbered). until t (values_of s)) gone
          ∙ gone_until n t e store known.there (subst (λ (x : ℕ). x ≤ t) (sym known.ends)
          pops.ended);
      count = ap (λ (s : Numbered). length s + 1) gone ∙ gone_count n t e store known.there;
    }

-- ---- all end later
pub later_from_first : (t : ℕ) (first : ℕ × ℕ) (ends : Ends)
    → ((q : ℕ × ℕ) → IsSome (get end_cmp ends q) → is_gt (end_cmp first q) ≡ false)
    → nat_le first.0 t ≡ false → EndsLater t ends
later_from_first t first ends low late = λ q there.
    let l = end_low first q (low q there) in
    let h = leb-false first.0 t late in
    omega (arith, l, h)

some_key : (columns : List ℕ) (e : Elem) (o : Option (List Value))
    → o ≡ key_ending columns e.span.end (Some e) → IsSome o
some_key columns e o is = rw is (rw (itself e.span.end) refl)

later-all : (columns : List ℕ) (t : ℕ) (store ps : Numbered) (sets : Sets) (ends : Ends)
    → IsIndexed columns store sets ends → EndsLater t ends
    → AllByRecursion (λ p. element p.0 store ≡ Some p.1) ps
    → until t (values_of ps) ≡ values_of ps
later-all columns t store [] sets ends is later h = refl
later-all columns t store (p ∷ ps) sets ends is later h =
    let here : t < p.1.span.end =
    later (p.1.span.end, p.0)
    (some_key columns p.1 (get end_cmp ends (p.1.span.end, p.0))
    (is.by_end p.1.span.end p.0 ∙ ap (key_ending columns p.1.span.end) h.0)) in
    rw (lt-ltb t p.1.span.end here)
    (ap (λ (es : List Elem). p.1 ∷ es) (later-all columns t store ps sets ends is later h.1))

pub none_ended : (columns : List ℕ) (t : ℕ) (store : Numbered) (sets : Sets) (ends : Ends)
    → IsIndexed columns store sets ends → EndsLater t ends
    → until t (values_of store) ≡ values_of store
none_ended columns t store sets ends is later =
    later-all columns t store store sets ends is later (each_names store is.rising)

pub values_more : (store now : Numbered) (n : ℕ) (e : Elem) → now ≡ store ++ (n, e) ∷ []
    → values_of now ≡ values_of store ++ e ∷ []
values_more store now n e is =
    ap values_of is ∙ map-append (λ (p : ℕ × Elem). p.1) store ((n, e) ∷ [])

-- ---- what an area gives of a key
pub key_there : (columns : List ℕ) (store : Numbered) (sets : Sets) (ends : Ends) (key : List Value)
    (ns : List ℕ) → IsIndexed columns store sets ends → ns ≡ numbers_at sets key
    → All (λ n. IsSome (element n store)) ns
key_there columns store sets ends key ns is these =
    subst (λ (ks : List ℕ). All (λ n. IsSome (element n store)) ks)
    (sym (these ∙ is.by_key key)) (there_all columns key store is.rising)

pub key_elems : (area : KeptByKey) (columns : List ℕ) (store : Numbered) (sets : Sets) (ends : Ends)
    (key : List Value) (ns : List ℕ) → record { columns = columns; elems = values_of store } ≡ area
    → IsIndexed columns store sets ends → ns ≡ numbers_at sets key
    → filter_map (λ n. element n store) ns ≡ elems_with_key area.columns key area.elems
key_elems area columns store sets ends key ns view is these =
    ap (filter_map (λ n. element n store)) (these ∙ is.by_key key)
    ∙ found_all columns key store is.rising
    ∙ ap (λ (a : KeptByKey). elems_with_key a.columns key a.elems) view

-- ---- numbers by key
pub unlisted_none : (key k : List Value) (sets sets' : Sets) (n : ℕ) → sets' ≡ sets
    → lookup (tuple_eq key) sets ≡ None
    → numbers_at sets' k
    ≡ cond (tuple_eq key k) (remove_key (is_number n) (numbers_at sets key)) (numbers_at sets k)
unlisted_none key k sets sets' n same none =
    ap (λ (s : Sets). numbers_at s k) same ∙ pick (tuple_eq key k) refl
  where
    pick : (b : Bool) → tuple_eq key k ≡ b
        → numbers_at sets k ≡ cond b (remove_key (is_number n) (numbers_at sets key))
        (numbers_at sets k)
    pick true is =
        ap (λ (q : List Value). numbers_in (lookup (tuple_eq q) sets))
        (sym ((tuple_eq-Decides key k).0 is))
        ∙ ap numbers_in none ∙ sym (ap (λ (o : Option (BTreeSet ℕ)). remove_key (is_number n)
        (numbers_in o)) none)
    pick false is = refl

pub written_same : (key k : List Value) (sets sets' : Sets) (set set' : BTreeSet ℕ)
    → lookup (tuple_eq key) sets ≡ Some set → set'.keys ≡ set.keys
    → lookup (tuple_eq k) sets' ≡ cond (tuple_eq key k) (Some set') (lookup (tuple_eq k) sets)
    → numbers_at sets' k ≡ numbers_at sets k
written_same key k sets sets' set set' there same written =
    ap numbers_in written ∙ pick (tuple_eq key k) refl
  where
    pick : (b : Bool) → tuple_eq key k ≡ b
        → numbers_in (cond b (Some set') (lookup (tuple_eq k) sets)) ≡ numbers_at sets k
    pick true is =
        same ∙ sym (ap numbers_in there)
        ∙ ap (λ (q : List Value). numbers_in (lookup (tuple_eq q) sets))
        ((tuple_eq-Decides key k).0 is)
    pick false is = refl

pub counted_gone : (area : KeptByKey) (columns : List ℕ) (store now : Numbered)
    → record { columns = columns; elems = values_of store } ≡ area → length now + 1 ≡ length store
    → length (values_of now) + 1 ≡ length area.elems
counted_gone area columns store now view count =
    let all : length (values_of store) ≡ length area.elems =
    ap (λ (a : KeptByKey). length a.elems) view in
    let left : length (values_of now) ≡ length now = length-map now (λ (p : ℕ × Elem). p.1) in
    let was : length (values_of store) ≡ length store =
    length-map store (λ (p : ℕ × Elem). p.1) in
    omega (arith, all, left, was, count)
