-- Functions of a name, and the maps that keep one.
use Rattle.std.specs.Prelude.{ℕ, List, Option, Some, None, if◌then◌else◌, option_map, unwrap_or}
use Rattle.std.specs.Prelude.{String, Vec}
use Rattle.std.specs.BTreeMap.{BTreeMap, get_by_text}
use Rattle.std.specs.Str.{bytes_eq}
use Rattle.pipes_edge.specs.Causes.{raised}
use Rattle.pipes_edge.specs.Outside.{Names}

-- what a function of a name gives once it has this value at one name
abbrev pub set_at : {A : Type 0} → (List ℕ → A) → List ℕ → A → List ℕ → A
set_at f name value n = if bytes_eq name n then value else f n

-- the counts of some names
abbrev pub Counts : Type 0
Counts = List ℕ → Option ℕ

-- no name has a count
abbrev pub no_counts : Counts
no_counts name = None

-- the count under a name, 0 where none is kept
abbrev pub count_at : Counts → List ℕ → ℕ
count_at counts name = unwrap_or (counts name) 0

-- the counts once one is kept under the name, from 0 on where none was
abbrev pub kept_at : Counts → List ℕ → Counts
kept_at counts name = set_at counts name (Some (count_at counts name))

-- the counts once the one under the name has risen, where one is kept
abbrev pub raised_at : Counts → List ℕ → Counts
raised_at counts name = set_at counts name (option_map raised (counts name))

module _ {A B : Type 0} where
  -- the files of a map from names to bytes
  abbrev pub files_in : BTreeMap (String A) (Vec ℕ B) → Names
  files_in files name = option_map (λ bytes. bytes.items) (get_by_text files name)

module _ {A : Type 0} where
  -- the counts of a map from names to counts
  abbrev pub counts_in : BTreeMap (String A) ℕ → Counts
  counts_in counts name = get_by_text counts name
