-- Bytes that are read and written in several pieces.
use Rattle.std.specs.Prelude.{◌≡◌, ◌⊎◌, ℕ, ◌<◌, List, ◌++◌, length, take, Option}
use Rattle.std.specs.Io.KnownBytes.{Appends}

-- a prefix of the bytes was appended
abbrev pub AppendsPrefix : Option (List ℕ) → Option (List ℕ) → List ℕ → Type 0
AppendsPrefix before now bytes = (n : ℕ) × Appends before now (take n bytes)

-- so was a prefix that is not all of them
abbrev pub AppendsShort : Option (List ℕ) → Option (List ℕ) → List ℕ → Type 0
AppendsShort before now bytes = (n : ℕ) × (n < length bytes) × Appends before now (take n bytes)

-- all of the file's bytes, or the first ones, more than the limit, of a file that has more
abbrev pub ReadsUpTo : ℕ → List ℕ → List ℕ → Type 0
ReadsUpTo limit file bytes = (bytes ≡ file) ⊎ ((limit < length bytes) × (limit < length file)
    × (bytes ≡ take (length bytes) file))

-- a prefix of the text was passed on, and the rest is still kept
abbrev pub PassesOn : Option (List ℕ) → Option (List ℕ) → List ℕ → List ℕ → Type 0
PassesOn before now text kept = (prefix : List ℕ) × Appends before now prefix
    × (text ≡ prefix ++ kept)
