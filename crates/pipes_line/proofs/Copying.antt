-- Fields that are copied stay as they are while others are.
use Rattle.std.proofs.Common.{◌≡◌, ◌⊎◌, inl, inr, ℕ, zero, suc, ◌+◌, ◌-◌, ◌<◌, ◌≤◌, List, [], ◌∷◌}
use Rattle.std.proofs.Common.{◌++◌, All, Some, None, map, take, drop, length, refl, ap, ◌∙◌, arith}
use Rattle.std.proofs.Common.{length-drop}
use Rattle.std.proofs.lemmas.List.{drop-append-le, take-append-le}
use Rattle.std.proofs.lemmas.Bool.{cases_lt}
use Rattle.csv.specs.Records.{field_at}
use Rattle.pipes_line.specs.declared.part.Part.{Part}
use Rattle.pipes_line.specs.Bytes.{bytes_in}
use Rattle.pipes_line.specs.Copied.{Fields}

-- what is shown of bytes with these parts and an open field from this place on
abbrev pub fields_with : List Part → ℕ → List ℕ → Fields
fields_with parts from bytes = record {
  closed = map (bytes_in bytes) parts;
  last =
      drop from bytes;
}

-- more bytes after a part change nothing in it
part_kept : (bytes more : List ℕ) (part : Part) → part.to ≤ length bytes
    → bytes_in (bytes ++ more) part ≡ bytes_in bytes part
part_kept bytes more part h = by (cases_lt part.to part.from)
  where
    by : ((part.to < part.from) ⊎ (part.from ≤ part.to)) → bytes_in (bytes ++ more) part ≡ bytes_in
        bytes part
    by (inr le) =
        let left = length-drop part.from bytes in
        ap (take (part.to - part.from)) (drop-append-le part.from bytes more (omega arith))
        ∙ take-append-le (part.to - part.from) (drop part.from bytes) more (omega arith)
    by (inl lt) =
        let none : part.to - part.from ≡ 0 = omega arith in
        rw none refl

pub parts_kept : (bytes more : List ℕ) (parts : List Part) → All (λ part. part.to ≤ length bytes)
    parts → map (bytes_in (bytes ++ more)) parts ≡ map (bytes_in bytes) parts
parts_kept bytes more [] h = refl
parts_kept bytes more (part ∷ parts) h = let first : part.to ≤ length bytes =
    h 0 part (omega arith) in
    let others : All (λ part. part.to ≤ length bytes) parts = λ k d lt. h (suc k) d (omega arith) in
    λ k. part_kept bytes more part first k ∷ parts_kept bytes more parts others k

-- one more field of a record
pub one_more : (fields : List (List ℕ)) (i : ℕ) (field : List ℕ) → field_at fields i ≡ Some field
    → take (i + 1) fields ≡ take i fields ++ field ∷ []
unfolding field_at
one_more [] i field h = cc
one_more (f ∷ fields) zero field h = let e : f ≡ field = cc in ap (λ (x : List ℕ). x ∷ []) e
one_more (f ∷ fields) (suc i) field h =
    let e : suc i + 1 ≡ suc (i + 1) = omega arith in
    rw e (ap (λ (l : List (List ℕ)). f ∷ l) (one_more fields i field h))

-- no more field of a record
pub no_more : (fields : List (List ℕ)) (i : ℕ) → field_at fields i ≡ None → take i fields ≡ fields
unfolding field_at
no_more [] zero h = refl
no_more [] (suc i) h = refl
no_more (f ∷ fields) zero h = cc
no_more (f ∷ fields) (suc i) h = ap (λ (l : List (List ℕ)). f ∷ l) (no_more fields i h)

-- what is shown of the bytes once there are more of them
pub appended : (parts : List Part) (from : ℕ) (bytes more : List ℕ) → from ≤ length bytes
    → All (λ part. part.to ≤ length bytes) parts
    → fields_with parts from (bytes ++ more) ≡ record {
      closed = map (bytes_in bytes) parts;
      last =
          drop from bytes ++ more;
    }
appended parts from bytes more within inside = λ k. record {
  closed =
      parts_kept bytes more parts inside k;
  last = drop-append-le from bytes more within k;
}
