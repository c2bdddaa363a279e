-- The tally of a group as rows come and go.
use Rattle.std.proofs.Common.{◌≡◌, ℕ, zero, suc, ◌+◌, ◌-◌, ◌≤◌, ◌<◌, Bool, true, false, cond}
use Rattle.std.proofs.Common.{eqb}
use Rattle.std.proofs.Common.{nat_lt, List, [], ◌∷◌, map, length, refl, sym, ◌∙◌, subst}
use Rattle.std.proofs.Common.{ap, arith, get_or}
use Rattle.std.specs.Bool.{OnTrue}
use Rattle.std.specs.List.{All, AllByRecursion, filter}
use Rattle.std.specs.Vec.{with_items}
use Rattle.std.proofs.Math.ListN.{length-map}
use Rattle.std.proofs.lemmas.List.{with_items_is}
use Rattle.std.proofs.lemmas.Bool.Decides.{nat_tests}
use Rattle.pipes_tuple.specs.Columns.{at_columns, HasColumns}
use Rattle.pipes_tuple.specs.Equal.{tuple_eq}
use Rattle.pipes_tuple.specs.Bag.{count}
use Rattle.pipes_tuple.proofs.Bags.{count-cons}
use Rattle.pipes_tuple.proofs.Columns.{length-at_columns}
use Rattle.pipes_expr.specs.ExprValue.{Row}
use Rattle.pipes_relation.specs.declared.lists.Agg.{Agg}
use Rattle.pipes_relation.specs.Relations.{with_key, group_row}
use Rattle.pipes_timeline.specs.Rules.{RowBags, NoneOfKey}
use Rattle.pipes_timeline.specs.Tables.{with_arrival}
use Rattle.pipes_timeline.proofs.Calling.{on-true}
use Rattle.pipes_timeline.specs.LineMoves.{self-key}
use Rattle.pipes_group.specs.declared.part.Part.{Part}
use Rattle.pipes_group.specs.declared.tally.Tally.{Tally}
use Rattle.pipes_group.specs.Parts.{agg_read, PartOf, PartsGain, PartsLose}
use Rattle.pipes_group.specs.Groups.{group_gives, GroupTells}
use Rattle.pipes_group.specs.GroupLaw.{count-filter}

-- ---- rows of the key
none-kept : (p : Row → Bool) (rows : List Row) → ((row : Row) → p row ≡ true → count row rows ≡ 0)
    → filter p rows ≡ []
none-kept p rows none = go (filter p rows) (λ x. count-filter p x rows)
  where
    go : (kept : List Row) → ((x : Row) → count x kept ≡ cond (p x) (count x rows) 0) → kept ≡ []
    go [] is = refl
    go (x ∷ kept) is = absurd (
        let a = is x in
        let b = count-cons x x kept in
        let c : ◌≡◌ {A = ℕ} (cond (tuple_eq x x) 1 0) 1 =
        ap (λ (b : Bool). cond {A = ℕ} b 1 0) (self-key x) in
        let d = pick (p x) refl in
        omega (arith, a, b, c, d))
      where
        pick : (b : Bool) → p x ≡ b → cond b (count x rows) 0 ≡ 0
        pick true e = none x e
        pick false e = refl

kept-none : (p : Row → Bool) (rows : List Row) (row : Row) → filter p rows ≡ [] → p row ≡ true
    → count row rows ≡ 0
kept-none p rows row none e =
    sym (ap (λ (b : Bool). cond b (count row rows) 0) e)
    ∙ sym (count-filter p row rows) ∙ ap (λ (rs : List Row). count row rs) none

length-none : (rows : List Row) → length rows ≡ 0 → rows ≡ []
length-none [] h = refl
length-none (r ∷ rows) h = absurd (omega (arith, h))

module _ (columns : List ℕ) (aggs : List Agg) (k : Row) where
  abbrev of_key : List Row → List Row
  of_key rows = with_key columns rows k

  key-more : (row : Row) (rows : List Row) → at_columns columns row ≡ k
      → of_key (row ∷ rows) ≡ row ∷ of_key rows
  key-more row rows is =
      let yes : tuple_eq (at_columns columns row) k ≡ true =
      subst (λ (q : Row). tuple_eq (at_columns columns row) q ≡ true) is
      (self-key (at_columns columns row)) in
      ap (λ (b : Bool). cond b (row ∷ of_key rows) (of_key rows)) yes

  other-port : (bags : RowBags) (row : Row) (port : ℕ) → 1 ≤ port
      → with_arrival bags 0 row port ≡ bags port
  other-port bags row port h =
      ap (λ (b : Bool). cond b (row ∷ bags port) (bags port)) (apart port h)
    where
      apart : (n : ℕ) → 1 ≤ n → eqb 0 n ≡ false
      apart n l = grind (arith, nat_tests)

  -- ---- no rows
  pub tally_none : (tally : Tally) (bags : RowBags) → tally.count ≡ 0
      → map agg_read tally.parts.items ≡ aggs → AllByRecursion (PartOf []) tally.parts.items
      → NoneOfKey (at_columns columns) k bags → GroupTells columns aggs k tally bags
  tally_none tally bags zero_is same parts none =
      let gone : (port : ℕ) → of_key (bags port) ≡ [] =
      λ port. none-kept (λ (row : Row). tuple_eq (at_columns columns row) k) (bags port)
      (none port) in
      record {
        count = zero_is ∙ sym (ap (λ (rows : List Row). length rows) (gone 0));
        aggs_are = same;
        parts = subst (λ (rows : List Row). AllByRecursion (PartOf rows) tally.parts.items)
            (sym (gone 0)) parts;
        whole = λ some. absurd (omega (arith, some, zero_is));
        others = λ port h. gone port;
      }

  pub tally_empty : (tally : Tally) (bags : RowBags) → tally.count ≡ 0
      → GroupTells columns aggs k tally bags → NoneOfKey (at_columns columns) k bags
  tally_empty tally bags zero_is t port row e =
      kept-none (λ (row : Row). tuple_eq (at_columns columns row) k) (bags port) row (at port) e
    where
      at : (p : ℕ) → of_key (bags p) ≡ []
      at zero = length-none (of_key (bags 0)) (sym t.count ∙ zero_is)
      at (suc p) = t.others (suc p) (omega arith)

  -- ---- a row more and less
  pub tally_added : (old new : Tally) (row : Row) (bags : RowBags) → at_columns columns row ≡ k
      → HasColumns columns row → new.count ≡ old.count + 1
      → PartsGain row old.parts.items new.parts.items → GroupTells columns aggs k old bags
      → GroupTells columns aggs k new (with_arrival bags 0 row)
  tally_added old new row bags is there more gain t =
      let rows : of_key (row ∷ bags 0) ≡ row ∷ of_key (bags 0) = key-more row (bags 0) is in
      record {
        count = (let a = t.count in
            let b = ap (λ (rs : List Row). length rs) rows in
            omega (arith, a, b, more));
        aggs_are = gain.aggs ∙ t.aggs_are;
        parts = subst (λ (rs : List Row). AllByRecursion (PartOf rs) new.parts.items) (sym rows)
            (gain.more (of_key (bags 0)) t.parts);
        whole = λ some. ap (λ (q : Row). length q) (sym is) ∙ length-at_columns columns row there;
        others = λ port h.
            ap (λ (rs : List Row). of_key rs) (other-port bags row port h) ∙ t.others port h;
      }

  pub tally_removed : (old new : Tally) (row : Row) (bags : RowBags) → at_columns columns row ≡ k
      → new.count ≡ old.count - 1 → PartsLose row old.parts.items new.parts.items
      → GroupTells columns aggs k old (with_arrival bags 0 row) → GroupTells columns aggs k new bags
  tally_removed old new row bags is less lose t =
      let rows : of_key (row ∷ bags 0) ≡ row ∷ of_key (bags 0) = key-more row (bags 0) is in
      record {
        count = (let a = t.count in
            let b = ap (λ (rs : List Row). length rs) rows in
            omega (arith, a, b, less));
        aggs_are = lose.aggs ∙ t.aggs_are;
        parts = lose.less (of_key (bags 0))
            (subst (λ (rs : List Row). AllByRecursion (PartOf rs) old.parts.items) rows t.parts);
        whole = λ some. t.whole (omega (arith, some, less));
        others = λ port h.
            ap (λ (rs : List Row). of_key rs) (sym (other-port bags row port h))
            ∙ t.others port h;
      }

  -- ---- the answer
  gives-some : (tally : Tally) (bags : RowBags) (x : Row) → 0 < tally.count
      → GroupTells columns aggs k tally bags → group_gives columns aggs k bags x
      ≡ cond (tuple_eq (group_row columns aggs (bags 0) k) x) 1 0
  gives-some tally bags x some t =
      let many = t.count in
      let a : nat_lt 0 (length (of_key (bags 0))) ≡ true =
      above (length (of_key (bags 0))) (omega (arith, some, many)) in
      let b : eqb (length k) (length columns) ≡ true =
      same (length k) (length columns) (t.whole some) in
      ap (λ (p : Bool). cond p (cond (eqb (length k) (length columns))
      (cond {A = ℕ} (tuple_eq (group_row columns aggs (bags 0) k) x) 1 0) 0) 0) a
      ∙ ap (λ (p : Bool). cond p
      (cond {A = ℕ} (tuple_eq (group_row columns aggs (bags 0) k) x) 1 0) 0) b
    where
      above : (n : ℕ) → 0 < n → nat_lt 0 n ≡ true
      above n h = grind (arith, nat_tests)

      same : (n m : ℕ) → n ≡ m → eqb n m ≡ true
      same n m e = grind (arith, nat_tests)

  pub tally_some : (tally : Tally) (bags : RowBags) → 0 < tally.count
      → GroupTells columns aggs k tally bags → (x : Row) × (0 < group_gives columns aggs k bags x)
  tally_some tally bags some t =
      let row : Row = group_row columns aggs (bags 0) k in
      let a = gives-some tally bags row some t in
      let b : ◌≡◌ {A = ℕ} (cond (tuple_eq row row) 1 0) 1 =
      ap (λ (b : Bool). cond {A = ℕ} b 1 0) (self-key row) in
      (row, omega (arith, a, b))

-- ---- as the rule says it
above-zero : (n : ℕ) → nat_lt 0 n ≡ true → 0 < n
above-zero n e = grind (arith, nat_tests)

is-zero : (n : ℕ) → eqb n 0 ≡ true → n ≡ 0
is-zero n e = grind (arith, nat_tests)

module _ (columns : List ℕ) (aggs : List Agg) (tally : Tally) where
  pub tally_has : OnTrue (nat_lt 0 tally.count) ((k : Row) (bags : RowBags)
      → GroupTells columns aggs k tally bags
      → (x : Row) × (0 < group_gives columns aggs k bags x))
  tally_has = on-true (nat_lt 0 tally.count)
      ((k : Row) (bags : RowBags) → GroupTells columns aggs k tally bags
      → (x : Row) × (0 < group_gives columns aggs k bags x))
      (λ e k bags t. tally_some columns aggs k tally bags (above-zero tally.count e) t)

  pub tally_idle : OnTrue (eqb tally.count 0) ((k : Row) (bags : RowBags)
      → GroupTells columns aggs k tally bags → NoneOfKey (at_columns columns) k bags)
  tally_idle = on-true (eqb tally.count 0)
      ((k : Row) (bags : RowBags) → GroupTells columns aggs k tally bags
      → NoneOfKey (at_columns columns) k bags)
      (λ e k bags t. tally_empty columns aggs k tally bags (is-zero tally.count e) t)

-- ---- the columns of a row
same-default : (xs : List ℕ) (k d : ℕ) → k < length xs → get_or xs k d ≡ get_or xs k 0
same-default [] k d h = absurd (omega (arith, h))
same-default (x ∷ xs) zero d h = refl
same-default (x ∷ xs) (suc k) d h = same-default xs k d (omega (arith, h))

pub columns_all : (columns : List ℕ) (n i : ℕ) → length columns ≤ i
    → ((k : ℕ) → k < i → get_or columns k 0 < n) → All (λ c. c < n) columns
columns_all columns n i upto below k d h =
    let low = below k (omega (arith, h, upto)) in
    subst (λ (c : ℕ). c < n) (sym (same-default columns k d h)) low

-- ---- a row more and less, at the one port
module _ (columns : List ℕ) (aggs : List Agg) (old : Tally) (n port : ℕ) (row : Row)
    (start parts : List Part) (is : port ≡ 0) (from : start ≡ old.parts.items) where
  abbrev renewed : Tally
  renewed = record { count = n; parts = with_items old.parts parts }

  parts-are : map agg_read parts ≡ map agg_read start → renewed.parts.items ≡ parts
  parts-are same = with_items_is old.parts parts
      (sym (length-map parts agg_read) ∙ ap (λ (as_read : List Agg). length as_read) same
      ∙ length-map start agg_read ∙ ap (λ (ps : List Part). length ps) from
      ∙ sym old.parts.ok.0)

  pub tally_add : HasColumns columns row → n ≡ old.count + 1 → PartsGain row start parts
      → (k : Row) (bags : RowBags) → at_columns columns row ≡ k
      → GroupTells columns aggs k old bags
      → GroupTells columns aggs k renewed (with_arrival bags port row)
  tally_add there more gain k bags e t =
      subst (λ (i : ℕ). GroupTells columns aggs k renewed (with_arrival bags i row)) (sym is)
      (tally_added columns aggs k old renewed row bags e there more
      (subst (λ (ps : List Part). PartsGain row ps renewed.parts.items) from
      (subst (λ (ps : List Part). PartsGain row start ps) (sym (parts-are gain.aggs)) gain)) t)

  pub tally_remove : n ≡ old.count - 1 → PartsLose row start parts → (k : Row) (bags : RowBags)
      → at_columns columns row ≡ k → GroupTells columns aggs k old (with_arrival bags port row)
      → GroupTells columns aggs k renewed bags
  tally_remove less lose k bags e t =
      tally_removed columns aggs k old renewed row bags e less
      (subst (λ (ps : List Part). PartsLose row ps renewed.parts.items) from
      (subst (λ (ps : List Part). PartsLose row start ps) (sym (parts-are lose.aggs)) lose))
      (subst (λ (i : ℕ). GroupTells columns aggs k old (with_arrival bags i row)) is t)
