-- What the aggregates of a group are read from.
use Rattle.std.specs.Prelude.{ℕ, ◌≡◌, List, ◌∷◌, map, FitsSigned}
use Rattle.std.specs.Int.{w64}
use Rattle.std.specs.List.{AllByRecursion}
use Rattle.pipes_expr.specs.ExprValue.{Row, column}
use Rattle.pipes_relation.specs.declared.lists.Agg.{Agg}
use Rattle.pipes_relation.specs.declared.lists.Agg.TheVariants as agg
use Rattle.pipes_relation.specs.Aggregate.{number, exact_sum}
use Rattle.pipes_group.specs.declared.part.Part.{Part}
use Rattle.pipes_group.specs.declared.part.Part.TheVariants as part
use Rattle.pipes_group.specs.Values.{HasValues}

-- the aggregate that is read from it
abbrev pub agg_read : Part → Agg
agg_read part.Rows = agg.Count
agg_read (part.Sum c z) = agg.Sum c
agg_read (part.Average c z) = agg.Avg c
agg_read (part.Least c values) = agg.Min c
agg_read (part.Greatest c values) = agg.Max c

-- the column of which it is
abbrev pub column_read : Part → ℕ
column_read part.Rows = 0
column_read (part.Sum c z) = c
column_read (part.Average c z) = c
column_read (part.Least c values) = c
column_read (part.Greatest c values) = c

-- the integers in the column are of 64 bits
abbrev pub IntsFit : ℕ → List Row → Type 0
IntsFit c rows = AllByRecursion (λ row. FitsSigned w64 (number (column row c))) rows

-- it is that of the rows
abbrev pub PartOf : List Row → Part → Type 0
PartOf rows part.Rows = Unit {0}
PartOf rows (part.Sum c z) = z ≡ exact_sum c rows
PartOf rows (part.Average c z) = (z ≡ exact_sum c rows) × IntsFit c rows
PartOf rows (part.Least c values) = HasValues values c rows
PartOf rows (part.Greatest c values) = HasValues values c rows

-- a row came
pub record PartGains (row : Row) (old new : Part) : Type 0 where
  pub agg : agg_read new ≡ agg_read old
  pub more : (rows : List Row) → PartOf rows old → PartOf (row ∷ rows) new

-- a row went
pub record PartLoses (row : Row) (old new : Part) : Type 0 where
  pub agg : agg_read new ≡ agg_read old
  pub less : (rows : List Row) → PartOf (row ∷ rows) old → PartOf rows new

-- a row came, for each part
pub record PartsGain (row : Row) (old new : List Part) : Type 0 where
  pub aggs : map agg_read new ≡ map agg_read old
  pub more : (rows : List Row) → AllByRecursion (PartOf rows) old
      → AllByRecursion (PartOf (row ∷ rows)) new

-- a row went, for each part
pub record PartsLose (row : Row) (old new : List Part) : Type 0 where
  pub aggs : map agg_read new ≡ map agg_read old
  pub less : (rows : List Row) → AllByRecursion (PartOf (row ∷ rows)) old
      → AllByRecursion (PartOf rows) new
