-- What is certain of a normal text, while elements come in order of start.
use Rattle.std.specs.Prelude.{◌≡◌, ◌≤◌, ℕ, List, ◌++◌, All}
use Rattle.pipes_time.specs.Interval.{IsInterval}
use Rattle.pipes_stream.specs.declared.Elem.{Elem}
use Rattle.pipes_stream.specs.Snapshot.{snapshot}
use Rattle.pipes_output.specs.NormalText.{IsNormalText}

abbrev pub AreIntervals : List Elem → Type 0
AreIntervals elems = All (λ e. IsInterval e.span.start e.span.end) elems

-- none starts below the instant
abbrev pub StartFrom : ℕ → List Elem → Type 0
StartFrom h elems = All (λ e. h ≤ e.span.start) elems

-- the whole begins with the text
abbrev pub IsPrefix : List ℕ → List ℕ → Type 0
IsPrefix text whole = (rest : List ℕ) × (whole ≡ text ++ rest)

-- Whatever elements come that start at h or later, the text is a prefix of the normal text of all.
abbrev pub IsCertain : List Elem → ℕ → List ℕ → Type 0
IsCertain elems h text = (more : List Elem) (whole : List ℕ) → AreIntervals more
    → StartFrom h more → IsNormalText (snapshot (elems ++ more)) whole → IsPrefix text whole

-- It is a prefix of that of the elements alone, and stays certain whatever of it comes.
pub record CertainLaws : Type 0 where
  pub now : (elems : List Elem) (h : ℕ) (text whole : List ℕ) → IsCertain elems h text
      → IsNormalText (snapshot elems) whole → IsPrefix text whole
  pub later : (elems more : List Elem) (h k : ℕ) (text : List ℕ) → AreIntervals more
      → StartFrom h more → h ≤ k → IsCertain elems h text → IsCertain (elems ++ more) k text
