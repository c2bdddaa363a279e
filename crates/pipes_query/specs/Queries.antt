-- The names of a query's sources.
use Rattle.std.specs.Prelude.{ℕ, List, map}
use Rattle.pipes_query.specs.declared.query.SourceDecl.{SourceDecl}

abbrev pub names_of : List SourceDecl → List (List ℕ)
names_of sources = map (λ (s : SourceDecl). s.name) sources
