-- Whole fields, by `csv`'s machine.
use Rattle.std.proofs.Common.{◌≡◌, ℕ, ◌<◌, List, [], ◌∷◌, ◌++◌, Bool, true, false, not, ◌==◌, ◌&&◌}
use Rattle.std.proofs.Common.{cond, Option, Some, length, refl, sym, ap, ◌∙◌, append_assoc}
use Rattle.std.proofs.Common.{append-nil, arith}
use Rattle.std.proofs.lemmas.Bool.{eqb-true}
use Rattle.std.specs.List.{list_all}
use Rattle.std.proofs.lemmas.Bool.{and_parts}
use Rattle.csv.specs.Machine.{Read, next_record}
use Rattle.csv.specs.Reading.{default_config}
use Rattle.csv.specs.declared.parser.State.{State}
use Rattle.csv.specs.declared.parser.State.TheVariants as state
use Rattle.pipes_line.specs.Bytes.{is_inner, is_no_quote}
use Rattle.pipes_line.specs.Parts.{begins_quoted, state_at}

is_not : (x : Bool) → not x ≡ true → x ≡ false
is_not true h = cc
is_not false h = refl

-- what a record is that the line's end ends
abbrev pub whole : List (List ℕ) → Option Read
whole fields = Some (fields, state.StartRecord, [])

-- the machine, by its defaults
abbrev pub reads : State → List (List ℕ) → List ℕ → List ℕ → Option Read
reads s fields field rest = next_record default_config s fields field rest

record Inner (byte : ℕ) : Type 0 where
  comma : (byte == 44) ≡ false
  carriage_return : (byte == 13) ≡ false
  line_feed : (byte == 10) ≡ false

inner : (byte : ℕ) → is_inner byte ≡ true → Inner byte
inner byte h =
    let p = and_parts (not (byte == 44) && not (byte == 13)) (not (byte == 10)) h in
    let q = and_parts (not (byte == 44)) (not (byte == 13)) p.0 in
    record { comma = is_not _ q.0; carriage_return = is_not _ q.1; line_feed = is_not _ p.1 }

-- the bytes of a field without quotes
bare_bytes : (xs rest : List ℕ) (fields : List (List ℕ)) (field : List ℕ)
    → list_all is_inner xs ≡ true
    → reads state.InField fields field (xs ++ rest) ≡ reads state.InField fields (field ++ xs) rest
unfolding next_record
bare_bytes [] rest fields field h = ap (λ (f : List ℕ). reads state.InField fields f rest)
    (sym (append-nil field))
bare_bytes (byte ∷ xs) rest fields field h =
    let p = and_parts (is_inner byte) (list_all is_inner xs) h in
    let i = inner byte p.0 in
    rw (i.comma, i.carriage_return, i.line_feed) (bare_bytes xs rest fields (field ++ byte ∷ []) p.1
    ∙ ap (λ (f : List ℕ). reads state.InField fields f rest)
    (append_assoc field (byte ∷ []) xs))

-- the bytes between quotes
quoted_bytes : (xs rest : List ℕ) (fields : List (List ℕ)) (field : List ℕ)
    → list_all is_no_quote xs ≡ true
    → reads state.InQuoted fields field (xs ++ rest) ≡ reads state.InQuoted fields (field ++ xs)
    rest
unfolding next_record
quoted_bytes [] rest fields field h = ap (λ (f : List ℕ). reads state.InQuoted fields f rest)
    (sym (append-nil field))
quoted_bytes (byte ∷ xs) rest fields field h =
    let p = and_parts (is_no_quote byte) (list_all is_no_quote xs) h in
    rw (is_not (byte == 34) p.0) (quoted_bytes xs rest fields (field ++ byte ∷ []) p.1
    ∙ ap (λ (f : List ℕ). reads state.InQuoted fields f rest)
    (append_assoc field (byte ∷ []) xs))

-- a field's start, where the first byte neither quotes it nor ends a record
bare_start : (from : ℕ) (fields : List (List ℕ)) (byte : ℕ) (rest : List ℕ) → (byte == 34) ≡ false
    → (byte == 13) ≡ false → (byte == 10) ≡ false
    → reads (state_at from) fields [] (byte ∷ rest) ≡ reads state.InField fields [] (byte ∷ rest)
unfolding next_record
bare_start from fields byte rest q c l = by (from == 0)
  where
    by : (b : Bool) → reads (cond b state.StartRecord state.StartField) fields []
        (byte ∷ rest) ≡ reads state.InField fields [] (byte ∷ rest)
    by true = rw (q, c, l) refl
    by false = rw q refl

-- the same where a comma follows at once, or other bytes of the field
bare_begin : (from : ℕ) (fields : List (List ℕ)) (xs more : List ℕ)
    → begins_quoted (xs ++ 44 ∷ more) ≡ false → list_all is_inner xs ≡ true
    → reads (state_at from) fields [] (xs ++ 44 ∷ more) ≡ reads state.InField fields []
    (xs ++ 44 ∷ more)
bare_begin from fields [] more q h = bare_start from fields 44 more refl refl refl
bare_begin from fields (byte ∷ xs) more q h =
    let i = inner byte (and_parts (is_inner byte) (list_all is_inner xs) h).0 in
    bare_start from fields byte (xs ++ 44 ∷ more) q i.carriage_return i.line_feed

pub bare_comma : (from : ℕ) (fields : List (List ℕ)) (xs more : List ℕ)
    → begins_quoted (xs ++ 44 ∷ more) ≡ false → list_all is_inner xs ≡ true
    → reads (state_at from) fields [] (xs ++ 44 ∷ more) ≡ reads state.StartField (fields ++ xs ∷ [])
    [] more
unfolding next_record
bare_comma from fields xs more q h = bare_begin from fields xs more q h
    ∙ bare_bytes xs (44 ∷ more) fields [] h

pub bare_last : (from : ℕ) (fields : List (List ℕ)) (xs : List ℕ) → (from ≡ 0 → 0 < length xs)
    → begins_quoted xs ≡ false → list_all is_inner xs ≡ true
    → reads (state_at from) fields [] xs ≡ whole (fields ++ xs ∷ [])
unfolding next_record
bare_last from fields [] some q h = by (from == 0) refl
  where
    by : (b : Bool) → (from == 0) ≡ b → reads (cond b state.StartRecord state.StartField) fields []
        [] ≡ whole (fields ++ [] ∷ [])
    by true e = absurd (let no = some (eqb-true from 0 e) in omega arith)
    by false e = refl
bare_last from fields (byte ∷ xs) some q h =
    let i = inner byte (and_parts (is_inner byte) (list_all is_inner xs) h).0 in
    bare_start from fields byte xs q i.carriage_return i.line_feed
    ∙ ap (λ (l : List ℕ). reads state.InField fields [] l) (sym (append-nil (byte ∷ xs)))
    ∙ bare_bytes (byte ∷ xs) [] fields [] h

quoted_begin : (from : ℕ) (fields : List (List ℕ)) (xs rest : List ℕ)
    → list_all is_no_quote xs ≡ true
    → reads (state_at from) fields [] (34 ∷ xs ++ 34 ∷ rest) ≡ reads state.AfterQuote fields xs rest
unfolding next_record
quoted_begin from fields xs rest h = by (from == 0)
  where
    by : (b : Bool) → reads (cond b state.StartRecord state.StartField) fields []
        (34 ∷ xs ++ 34 ∷ rest) ≡ reads state.AfterQuote fields xs rest
    by true = quoted_bytes xs (34 ∷ rest) fields [] h
    by false = quoted_bytes xs (34 ∷ rest) fields [] h

pub quoted_comma : (from : ℕ) (fields : List (List ℕ)) (xs more : List ℕ)
    → list_all is_no_quote xs ≡ true
    → reads (state_at from) fields [] (34 ∷ xs ++ 34 ∷ 44 ∷ more) ≡ reads state.StartField
    (fields ++ xs ∷ []) [] more
unfolding next_record
quoted_comma from fields xs more h = quoted_begin from fields xs (44 ∷ more) h

pub quoted_last : (from : ℕ) (fields : List (List ℕ)) (xs : List ℕ) → list_all is_no_quote xs ≡ true
    → reads (state_at from) fields [] (34 ∷ xs ++ 34 ∷ []) ≡ whole (fields ++ xs ∷ [])
unfolding next_record
quoted_last from fields xs h = quoted_begin from fields xs [] h
