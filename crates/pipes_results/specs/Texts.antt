-- The texts of results: a line for each, or the normal text of all.
use Rattle.std.specs.Prelude.{◌≡◌, ◌⊎◌, ℕ, List, [], take}
use Rattle.pipes_stream.specs.declared.Elem.{Elem}
use Rattle.pipes_stream.specs.Snapshot.{snapshot}
use Rattle.pipes_output.specs.declared.entry.Entry.{Entry}
use Rattle.pipes_output.specs.declared.entry.Entry.TheVariants.{Ended}
use Rattle.pipes_output.specs.declared.form.Form.{Form}
use Rattle.pipes_output.specs.declared.form.Form.TheVariants.{Stream, Normal}
use Rattle.pipes_output.specs.Lines.{lines}
use Rattle.pipes_output.specs.NormalText.{IsNormalText}
use Rattle.pipes_semantics.specs.Written.{entries_of}

-- the whole text of these elements: a line for each, with this entry's line at the end; or their
-- normal text
abbrev pub WholeText : Form → List Elem → Entry → List ℕ → Type 0
WholeText Stream elems last bytes = bytes ≡ lines (entries_of elems last)
WholeText Normal elems last bytes = IsNormalText (snapshot elems) bytes

-- nothing, or a prefix of it
abbrev pub PrefixText : Form → List Elem → Entry → List ℕ → Type 0
PrefixText form elems last bytes = (bytes ≡ []) ⊎ ((whole : List ℕ) × (n : ℕ)
    × WholeText form elems last whole × (bytes ≡ take n whole))

-- what is written before all are known: nothing, or a prefix of the lines, and nothing of the
-- normal text
abbrev pub EarlyText : Form → List Elem → List ℕ → Type 0
EarlyText Stream elems bytes = PrefixText Stream elems Ended bytes
EarlyText Normal elems bytes = bytes ≡ []
