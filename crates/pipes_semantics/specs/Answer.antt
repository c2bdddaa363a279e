-- The answer of a query at an instant.
use Rattle.std.specs.Prelude.{ℕ, List, [], ◌∷◌, map, unwrap_or}
use Rattle.pipes_tuple.specs.declared.value.Kind.{Kind}
use Rattle.pipes_tuple.specs.declared.value.Value.{Value}
use Rattle.pipes_plan.specs.Algebra.{alg}
use Rattle.pipes_plan.specs.PlanKinds.{plan_kinds}
use Rattle.pipes_window.specs.declared.item.Item.{Item}
use Rattle.pipes_window.specs.Windows.{in_window}
use Rattle.pipes_query.specs.declared.query.Query.{Query}
use Rattle.pipes_query.specs.declared.query.SourceDecl.{SourceDecl}

-- the kinds of the columns of each source
abbrev pub schemas_of : Query → List (List Kind)
schemas_of query = map (λ s. s.schema) query.sources

-- the kinds of the rows of a query's answer
abbrev pub schema_of : Query → List Kind
schema_of query = unwrap_or (plan_kinds query.plan (schemas_of query)) []

-- each source's rows that are valid at the instant
abbrev pub bags_at : List SourceDecl → List (List Item) → ℕ → List (List (List Value))
bags_at [] items t = []
bags_at (s ∷ ss) [] t = [] ∷ bags_at ss [] t
bags_at (s ∷ ss) (is ∷ items) t = in_window s.window is t ∷ bags_at ss items t

-- the relational answer on the rows that are valid at the instant
abbrev pub answer : Query → List (List Item) → ℕ → List (List Value)
answer query items t = alg query.plan (bags_at query.sources items t)
