-- A tally stands for the rows of its key, whatever their order.
use Rattle.std.proofs.Common.{◌≡◌, ℕ, ◌+ℤ◌, List, [], ◌∷◌, length, refl}
use Rattle.std.proofs.Common.{◌∙◌, ap, arith}
use Rattle.std.specs.BTreeMap.{BTreeMap}
use Rattle.std.specs.List.{AllByRecursion}
use Rattle.std.proofs.lemmas.Int.{ints}
use Rattle.pipes_plan.proofs.SameAnswers.{exact_sum-Perm}
use Rattle.pipes_tuple.specs.declared.value.Value.{Value}
use Rattle.pipes_tuple.specs.Columns.{at_columns}
use Rattle.pipes_tuple.specs.Equal.{value_eq}
use Rattle.pipes_tuple.proofs.Perm.{Perm, none, keep, swap, then, Perm-map, count_by-Perm}
use Rattle.pipes_expr.specs.ExprValue.{Row, column}
use Rattle.pipes_relation.specs.declared.lists.Agg.{Agg}
use Rattle.pipes_relation.specs.Aggregate.{number, exact_sum}
use Rattle.pipes_relation.specs.Relations.{with_key}
use Rattle.pipes_timeline.specs.Rules.{RowBags, SameOfKey}
use Rattle.pipes_group.specs.declared.part.Part.{Part}
use Rattle.pipes_group.specs.declared.part.Part.TheVariants as part
use Rattle.pipes_group.specs.declared.tally.Tally.{Tally}
use Rattle.pipes_group.specs.Values.{HasValues}
use Rattle.pipes_group.specs.Parts.{IntsFit, PartOf}
use Rattle.pipes_group.specs.Groups.{GroupTells}
use Rattle.pipes_tuple.proofs.Perm.{length-Perm}
use Rattle.pipes_group.specs.GroupLaw.{same-group}

fit-Perm : (c : ℕ) {xs ys : List Row} → Perm xs ys → IntsFit c xs → IntsFit c ys
fit-Perm c none f = f
fit-Perm c (keep x p) f = (f.0, fit-Perm c p f.1)
fit-Perm c (swap x y xs) f = (f.1.0, (f.0, f.1.1))
fit-Perm c (then p q) f = fit-Perm c q (fit-Perm c p f)

values-Perm : (c : ℕ) (xs ys : List Row) → Perm xs ys → (values : BTreeMap Value ℕ)
    → HasValues values c xs → HasValues values c ys
values-Perm c xs ys p values h = record {
  counts = λ v. h.counts v ∙ count_by-Perm (λ (w : Value). value_eq w v)
      (Perm-map (λ (row : Row). column row c) p);
  there = h.there;
}

part-Perm : (p : Part) (xs ys : List Row) → Perm xs ys → PartOf xs p → PartOf ys p
part-Perm part.Rows xs ys q t = t
part-Perm (part.Sum c z) xs ys q t = t ∙ exact_sum-Perm c q
part-Perm (part.Average c z) xs ys q t = (t.0 ∙ exact_sum-Perm c q, fit-Perm c q t.1)
part-Perm (part.Least c m) xs ys q t = values-Perm c xs ys q m t
part-Perm (part.Greatest c m) xs ys q t = values-Perm c xs ys q m t

parts-Perm : (parts : List Part) (xs ys : List Row) → Perm xs ys
    → AllByRecursion (PartOf xs) parts → AllByRecursion (PartOf ys) parts
parts-Perm [] xs ys q t = t
parts-Perm (p ∷ parts) xs ys q t = (part-Perm p xs ys q t.0, parts-Perm parts xs ys q t.1)

none-Perm : {X : Type 0} (xs ys : List X) → Perm xs ys → xs ≡ [] → ys ≡ []
none-Perm xs [] p e = refl
none-Perm {X} xs (y ∷ ys) p e = absurd (
    let a = length-Perm p in
    let b : length xs ≡ 0 = ap (λ (zs : List X). length zs) e in
    omega (arith, a, b))

pub group_stays : (columns : List ℕ) (aggs : List Agg) (k : Row) (tally : Tally)
    (bags others : RowBags) → SameOfKey (at_columns columns) k bags others
    → GroupTells columns aggs k tally bags → GroupTells columns aggs k tally others
group_stays columns aggs k tally bags others same t =
    let p = same-group columns k bags others 0 same in
    record {
      count = t.count ∙ length-Perm p;
      aggs_are = t.aggs_are;
      parts = parts-Perm tally.parts.items (with_key columns (bags 0) k)
          (with_key columns (others 0) k) p t.parts;
      whole = t.whole;
      others = λ port h. none-Perm (with_key columns (bags port) k)
          (with_key columns (others port) k) (same-group columns k bags others port same)
          (t.others port h);
    }
