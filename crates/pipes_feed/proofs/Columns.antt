-- The values of columns, one after another.
use Rattle.std.proofs.Common.{◌≡◌, ℕ, zero, suc, ◌+◌, ◌<◌, List, [], ◌∷◌, ◌++◌, drop, length}
use Rattle.std.proofs.Common.{get_or, Some, None, refl, sym, ap, ◌∙◌, arith, append_assoc}
use Rattle.std.specs.Prelude.{Result, Ok, Err, slice_get}
use Rattle.std.proofs.lemmas.List.{drop_more, drop-drop}
use Rattle.pipes_tuple.specs.declared.value.Kind.{Kind}
use Rattle.pipes_tuple.specs.declared.value.Kind.TheVariants as kind
use Rattle.pipes_tuple.specs.declared.value.Value.{Value}
use Rattle.pipes_tuple.specs.Reading.{reading}
use Rattle.pipes_feed.specs.declared.reason.RowWhy.{RowWhy}
use Rattle.pipes_feed.specs.declared.reason.RowWhy.TheVariants as why
use Rattle.pipes_feed.specs.declared.judge.Fault.{Fault}
use Rattle.pipes_feed.specs.declared.judge.Fault.TheVariants as fault
use Rattle.pipes_feed.specs.AnswersJudged.{AnswersJudged}
use Rattle.pipes_time.specs.Results.{◌>>=◌}
use Rattle.pipes_feed.specs.Judged.{field_value, field_values}

-- what is known of the values of all columns, with those before this one read
abbrev pub SoFar : List Value → ℕ → List Kind → List (List ℕ) → Result (List Value) RowWhy → Type 0
SoFar done column kinds fields all = all ≡ (field_values column (drop column kinds)
    (drop column fields) >>= λ values. Ok (done ++ values))

some_at : (fields : List (List ℕ)) (i : ℕ) (field : List ℕ) → slice_get fields i ≡ Some field
    → drop i fields ≡ field ∷ drop (i + 1) fields
some_at [] i field h = cc
some_at (f ∷ fields) zero field h = let e : f ≡ field = cc in ap (λ (x : List ℕ). x ∷ fields) e
some_at (f ∷ fields) (suc i) field h =
    let e : suc i + 1 ≡ suc (i + 1) = omega arith in
    some_at fields i field h ∙ ap (λ (n : ℕ). field ∷ drop n (f ∷ fields)) (sym e)

none_at : (fields : List (List ℕ)) (i : ℕ) → slice_get fields i ≡ None → drop i fields ≡ []
none_at [] zero h = refl
none_at [] (suc i) h = refl
none_at (f ∷ fields) zero h = cc
none_at (f ∷ fields) (suc i) h = none_at fields i h

-- the fields beside the stamp
beside : (fields : List (List ℕ)) (column : ℕ) → drop column (drop 1 fields) ≡ drop (column + 1)
    fields
beside fields column = drop-drop column 1 fields ∙ ap (λ (n : ℕ). drop n fields) (omega arith)

some_beside : (fields : List (List ℕ)) (column : ℕ) (field : List ℕ)
    → slice_get fields (column + 1) ≡ Some field
    → drop column (drop 1 fields) ≡ field ∷ drop (column + 1) (drop 1 fields)
some_beside fields column field h =
    beside fields column ∙ some_at fields (column + 1) field h
    ∙ ap (λ (l : List (List ℕ)). field ∷ l) (sym (beside fields (column + 1)))

stepped : (done : List Value) (value : Value) (r : Result (List Value) RowWhy)
    → ((r >>= λ values. Ok (value ∷ values)) >>= λ values. Ok (done ++ values)) ≡
    (r >>= λ values. Ok ((done ++ value ∷ []) ++ values))
stepped done value (Ok values) = ap (λ (l : List Value). Ok l)
    (sym (append_assoc done (value ∷ []) values))
stepped done value (Err refusal) = refl

-- one column further
pub one_more : (done : List Value) (column : ℕ) (kinds : List Kind) (fields : List (List ℕ))
    (field : List ℕ) (value : Value) (all : Result (List Value) RowWhy)
    → column < length kinds → slice_get fields (column + 1) ≡ Some field
    → field_value column (reading (get_or kinds column kind.Int) field) ≡ Ok value
    → SoFar done column kinds (drop 1 fields) all → SoFar (done ++ value ∷ []) (column + 1) kinds
    (drop 1 fields) all
one_more done column kinds fields field value all within at reads h =
    h ∙ rw (drop_more kinds column kind.Int within, some_beside fields column field at, reads)
    (stepped done value (field_values (column + 1) (drop (column + 1) kinds)
    (drop (column + 1) (drop 1 fields))))

one_refused : (done : List Value) (column : ℕ) (kinds : List Kind) (fields : List (List ℕ))
    (field : List ℕ) (refusal : RowWhy) (all : Result (List Value) RowWhy)
    → column < length kinds → slice_get fields (column + 1) ≡ Some field
    → field_value column (reading (get_or kinds column kind.Int) field) ≡ Err refusal
    → SoFar done column kinds (drop 1 fields) all → all ≡ Err refusal
one_refused done column kinds fields field refusal all within at reads h =
    h ∙ rw (drop_more kinds column kind.Int within, some_beside fields column field at, reads) refl

-- the first field of which no value is read
pub one_fails : {A : Type 0} (shown : A → List Value) (done : List Value) (column : ℕ)
    (kinds : List Kind) (fields : List (List ℕ)) (field : List ℕ) (fault : Fault)
    (all : Result (List Value) RowWhy)
    → column < length kinds → slice_get fields (column + 1) ≡ Some field
    → AnswersJudged (λ (value : Value). value) (Err fault) (field_value column
    (reading (get_or kinds column kind.Int) field))
    → SoFar done column kinds (drop 1 fields) all → AnswersJudged shown (Err fault) all
one_fails shown done column kinds fields field (fault.Refused refusal) all within at reads h =
    one_refused done column kinds fields field refusal all within at reads h
one_fails shown done column kinds fields field fault.Memory all within at reads h = tt

-- a column without a field
pub one_lacks : (done : List Value) (column : ℕ) (kinds : List Kind) (fields : List (List ℕ))
    (all : Result (List Value) RowWhy)
    → column < length kinds → slice_get fields (column + 1) ≡ None
    → SoFar done column kinds (drop 1 fields) all → all ≡ Err why.Fields
one_lacks done column kinds fields all within at h =
    h ∙ rw (
      drop_more kinds column kind.Int within,
      beside fields column,
      none_at fields (column + 1) at,
    ) refl
