-- Results on their way out.
use Rattle.std.specs.Prelude.{◌≡◌, ℕ, List, [], map, Option}
use Rattle.std.specs.Io.KnownBytes.{Appends}
use Rattle.pipes_stream.specs.declared.Elem.{Elem}
use Rattle.pipes_output.specs.declared.entry.Entry.{Entry}
use Rattle.pipes_output.specs.declared.entry.Entry.TheVariants as entry
use Rattle.pipes_output.specs.declared.form.Form.{Form}
use Rattle.pipes_output.specs.declared.form.Form.TheVariants as form
use Rattle.pipes_output.specs.Lines.{lines}
use Rattle.pipes_buffer.specs.Pieces.{PassesOn}
use Rattle.pipes_results.specs.declared.results.Results.{Results}
use Rattle.pipes_results.specs.declared.results.Results.TheVariants.{Stream, Normal}
use Rattle.pipes_results.specs.Texts.{EarlyText, PrefixText, WholeText}

abbrev pub form_of : Results → Form
form_of (Stream text) = form.Stream
form_of (Normal normal) = form.Normal

-- Since the sink knew these bytes, the results are these elements: of the stream a prefix was
-- written and the rest is kept, of the normal form all are kept.
abbrev pub Keeps : Option (List ℕ) → Option (List ℕ) → Results → List Elem → Type 0
Keeps init now (Stream text) elems = PassesOn init now (lines (map entry.Result elems)) text.items
Keeps init now (Normal normal) elems = Appends init now [] × (normal ≡ elems)

-- what was written before the source has ended, of these elements
abbrev pub StopsEarly : Option (List ℕ) → Option (List ℕ) → Form → List Elem → Type 0
StopsEarly init now form elems = (bytes : List ℕ) × Appends init now bytes
    × EarlyText form elems bytes

-- what was written is nothing, or a prefix of the text of these elements, with this entry at the
-- end
abbrev pub WritesPrefixOf : Option (List ℕ) → Option (List ℕ) → Form → List Elem → Entry → Type 0
WritesPrefixOf init now form elems last = (bytes : List ℕ) × Appends init now bytes
    × PrefixText form elems last bytes

-- all was written
abbrev pub WritesWhole : Option (List ℕ) → Option (List ℕ) → Form → List Elem → Entry → Type 0
WritesWhole init now form elems last = (bytes : List ℕ) × Appends init now bytes
    × WholeText form elems last bytes
