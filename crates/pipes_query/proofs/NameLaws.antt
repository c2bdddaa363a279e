-- There are as many names as sources.
use Rattle.std.proofs.Common.{◌≡◌, ℕ, suc, ◌<◌, ◌≤◌, List, [], ◌∷◌, length, refl, ap, arith}
use Rattle.pipes_query.specs.declared.query.SourceDecl.{SourceDecl}
use Rattle.pipes_query.specs.Queries.{names_of}

pub count_names : (ss : List SourceDecl) → length (names_of ss) ≡ length ss
count_names [] = refl
count_names (s ∷ ss) = ap (λ (n : ℕ). suc n) (count_names ss)

pub some_names : (ss : List SourceDecl) → 1 ≤ length ss → 0 < length (names_of ss)
some_names [] le = absurd (omega (arith, le))
some_names (s ∷ ss) le = omega arith
