-- Lists at columns: how long they are, and what is in them where the columns are there.
use Rattle.std.proofs.Common.{◌≡◌, ℕ, zero, suc, ◌+◌, ◌<◌, ◌≤◌, Bool, true, false, cond, List, []}
use Rattle.std.proofs.Common.{◌∷◌, ◌++◌, map, length, take, get_or, append-nil, Option, Some, None}
use Rattle.std.proofs.Common.{refl, sym, ap, ◌∙◌, arith}
use Rattle.std.specs.List.{slice_get, cons_option}
use Rattle.std.specs.Option.{option_map, unwrap_or}
use Rattle.std.specs.Prelude.{nat_le}
use Rattle.std.proofs.lemmas.Bool.Decides.{nat_tests}
use Rattle.std.proofs.lemmas.List.{take_more}
use Rattle.std.proofs.lemmas.List.Elements.{All-cons, All-head, All-tail, filter_map-append}
use Rattle.std.proofs.lemmas.Option.{slice_get-map, slice_get_past, slice_get_read}
use Rattle.pipes_tuple.specs.Columns.{at_columns, HasColumns, missing_column}

-- a column that is there has an item
pub slice_get-there : {X : Type 0} (items : List X) (i : ℕ) → i < length items
    → (x : X) × (slice_get items i ≡ Some x)
slice_get-there [] i h = absurd (omega arith)
slice_get-there (x ∷ xs) zero h = (x, refl)
slice_get-there (x ∷ xs) (suc i) h = slice_get-there xs i (omega arith)

module _ {X : Type 0} where
  one_more : (item : Option X) (xs : List X) (n : ℕ) → length xs ≤ n
      → length (cons_option item xs) ≤ suc n
  one_more None xs n h = omega arith
  one_more (Some x) xs n h = omega arith

  -- there are no more items than columns
  pub length-at_columns-le : (columns : List ℕ) (items : List X)
      → length (at_columns columns items) ≤ length columns
  length-at_columns-le [] items = omega arith
  length-at_columns-le (column ∷ columns) items =
      one_more (slice_get items column) (at_columns columns items) (length columns)
      (length-at_columns-le columns items)

  first_is : (column : ℕ) (columns : List ℕ) (items : List X) (past : Bool)
      → past ≡ nat_le (length items) column
      → cond past (Some column) (missing_column columns items) ≡ None
      → (column < length items) × (missing_column columns items ≡ None)
  first_is column columns items true e h = cc
  first_is column columns items false e h = (grind (arith, nat_tests), h)

  -- where no column is missing, all are there
  pub HasColumns-none_missing : (columns : List ℕ) (items : List X)
      → missing_column columns items ≡ None → HasColumns columns items
  HasColumns-none_missing [] items h = λ k d l. absurd (omega arith)
  HasColumns-none_missing (column ∷ columns) items h =
      let here = first_is column columns items (nat_le (length items) column) refl h in
      All-cons (λ column. column < length items) column columns here.0
      (HasColumns-none_missing columns items here.1)

  -- where all columns are there, each gives an item
  pub length-at_columns : (columns : List ℕ) (items : List X) → HasColumns columns items
      → length (at_columns columns items) ≡ length columns
  length-at_columns [] items h = refl
  length-at_columns (column ∷ columns) items h =
      let item = slice_get-there items column
      (All-head (λ column. column < length items) column columns h) in
      let rest = length-at_columns columns items
      (All-tail (λ column. column < length items) column columns h) in
      ap (λ (got : Option X). length (cons_option got (at_columns columns items))) item.1
      ∙ ap suc rest

  -- where all columns are there, an item stands for each, whatever stands for a missing one
  pub at_columns-map : (other : X) (columns : List ℕ) (items : List X) → HasColumns columns items
      → at_columns columns items ≡ map (λ column. unwrap_or (slice_get items column) other) columns
  at_columns-map other [] items h = refl
  at_columns-map other (column ∷ columns) items h =
      let item = slice_get-there items column
      (All-head (λ column. column < length items) column columns h) in
      let rest = at_columns-map other columns items
      (All-tail (λ column. column < length items) column columns h) in
      ap (λ (got : Option X). cons_option got (at_columns columns items)) item.1
      ∙ ap (λ (xs : List X). item.0 ∷ xs) rest
      ∙ ap (λ (got : Option X). unwrap_or got other ∷ map
      (λ column. unwrap_or (slice_get items column) other) columns) (sym item.1)

cons-map : {X Y : Type 0} (f : X → Y) (item : Option X) (xs : List X)
    → map f (cons_option item xs) ≡ cons_option (option_map f item) (map f xs)
cons-map f None xs = refl
cons-map f (Some x) xs = refl

-- what is made of the items at the columns is at the same columns of what is made of all items
pub map-at_columns : {X Y : Type 0} (f : X → Y) (columns : List ℕ) (items : List X)
    → map f (at_columns columns items) ≡ at_columns columns (map f items)
map-at_columns f [] items = refl
map-at_columns {X} {Y} f (column ∷ columns) items =
    cons-map f (slice_get items column) (at_columns columns items)
    ∙ ap (λ (ys : List Y). cons_option (option_map f (slice_get items column)) ys)
    (map-at_columns f columns items)
    ∙ ap (λ (item : Option Y). cons_option item (at_columns columns (map f items)))
    (sym (slice_get-map f items column))

module _ {X : Type 0} where
  last_column : (columns : List ℕ) (items : List X) (i : ℕ) (item : Option X) → i < length columns
      → slice_get items (get_or columns i 0) ≡ item
      → at_columns (take (i + 1) columns) items ≡ at_columns (take i columns) items
      ++ cons_option item []
  last_column columns items i item h e =
      ap (λ (cs : List ℕ). at_columns cs items) (take_more columns i 0 h)
      ∙ filter_map-append (slice_get items) (take i columns) (get_or columns i 0 ∷ [])
      ∙ ap (λ (got : Option X). at_columns (take i columns) items ++ cons_option got []) e

  -- one column more, which is there
  pub at_columns-there : (columns : List ℕ) (items : List X) (i : ℕ) (x : X) → i < length columns
      → get_or columns i 0 < length items → x ≡ get_or items (get_or columns i 0) x
      → at_columns (take (i + 1) columns) items ≡ at_columns (take i columns) items ++ x ∷ []
  at_columns-there columns items i x h there e =
      last_column columns items i (Some x) h
      (slice_get_read items (length items) (get_or columns i 0) x refl there e)

  -- one column more, which is not there
  pub at_columns-missing : (columns : List ℕ) (items : List X) (i : ℕ) → i < length columns
      → length items ≤ get_or columns i 0
      → at_columns (take (i + 1) columns) items ≡ at_columns (take i columns) items
  at_columns-missing columns items i h past =
      last_column columns items i None h (slice_get_past items (get_or columns i 0) past)
      ∙ append-nil (at_columns (take i columns) items)
