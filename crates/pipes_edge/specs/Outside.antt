-- Named files, and what a search among them answers.
use Rattle.std.specs.Prelude.{◌≡◌, ℕ, ◌≤◌, List, Option, Some, None, Result, Ok, Err, IsSome, ⊤}
use Rattle.pipes_edge.specs.declared.FindFault.{FindFault}
use Rattle.pipes_edge.specs.declared.FindFault.TheVariants.{Missing, Failed, Memory}
use Rattle.pipes_edge.specs.Causes.{Rose}

-- the bytes under each name, where there is such a file
abbrev pub Names : Type 0
Names = List ℕ → Option (List ℕ)

-- no name has a file
abbrev pub no_files : Names
no_files name = None

-- Where the files are known: a found source has its file's bytes left, and a name is missing
-- exactly where no file has it.
abbrev pub Finds : {S : Type 0} → (S → Option (List ℕ)) → Option Names → List ℕ → Result S FindFault
    → Type 0
Finds left None name r = ⊤
Finds left (Some files) name (Ok src) = IsSome (files name) × (left src ≡ files name)
Finds left (Some files) name (Err Missing) = files name ≡ None
Finds left (Some files) name (Err Failed) = IsSome (files name)
Finds left (Some files) name (Err Memory) = ⊤

-- the count of failed searches rises in a search that fails, and stays in every other
abbrev pub CountsSearch : {S : Type 0} → Result S FindFault → ℕ → ℕ → Type 0
CountsSearch (Ok src) before now = now ≡ before
CountsSearch (Err Missing) before now = now ≡ before
CountsSearch (Err Failed) before now = (before ≤ now) × Rose before now
CountsSearch (Err Memory) before now = now ≡ before

-- a search fails only where the name's count rose
abbrev pub FailsByName : {S : Type 0} → Result S FindFault → ℕ → ℕ → Type 0
FailsByName (Err Failed) before now = Rose before now
FailsByName r before now = ⊤

-- no name's count falls
abbrev pub NoneFalls : (List ℕ → ℕ) → (List ℕ → ℕ) → Type 0
NoneFalls before now = (n : List ℕ) → before n ≤ now n

-- a source was found under this name, which is kept, and has had no fault since
pub record IsFoundAs {S : Type 0} (source_name : S → List ℕ) (found_at faults : S → ℕ)
    (keeps : List ℕ → Type 0) (name : List ℕ) (src : S) : Type 0 where
  pub named : source_name src ≡ name
  pub fresh : faults src ≡ found_at src
  pub kept : keeps name
