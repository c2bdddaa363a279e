-- What a run writes.
use Rattle.std.specs.Prelude.{◌≡◌, ◌⊎◌, ℕ, List, [], take}
use Rattle.pipes_stream.specs.declared.Elem.{Elem}
use Rattle.pipes_window.specs.declared.item.Item.{Item}
use Rattle.pipes_query.specs.declared.query.Query.{Query}
use Rattle.pipes_output.specs.declared.entry.Entry.{Entry}
use Rattle.pipes_output.specs.declared.form.Form.{Form}
use Rattle.pipes_output.specs.declared.form.Form.TheVariants.{Stream, Normal}
use Rattle.pipes_output.specs.Lines.{line, lines}
use Rattle.pipes_output.specs.NormalText.{IsNormalText}
use Rattle.pipes_semantics.specs.Answer.{answer}
use Rattle.pipes_semantics.specs.Written.{EndsRun, entries_of}
use Rattle.pipes_semantics.specs.Right.{Right, Final}

-- The whole of what a run over these items of its sources writes: the lines of its results and of
-- this last entry, which are right and final; or the normal text of the answers.
abbrev pub WritesRun : Form → Query → List (List Item) → Entry → List ℕ → Type 0
WritesRun Stream query items last bytes = (elems : List Elem)
    × (bytes ≡ lines (entries_of elems last)) × Right query items (entries_of elems last)
    × Final query items (entries_of elems last)
WritesRun Normal query items last bytes = IsNormalText (answer query items) bytes

-- What a run has written that was cut short: a prefix of the lines of results and of a last entry,
-- which are final; or nothing, or a prefix of the normal text. So no more than the last line is
-- cut.
abbrev pub WritesRunPrefix : Form → Query → List (List Item) → List ℕ → Type 0
WritesRunPrefix Stream query items bytes = (elems : List Elem) × (last : Entry) × (n : ℕ)
    × EndsRun last × (bytes ≡ take n (lines (entries_of elems last)))
    × Final query items (entries_of elems last)
WritesRunPrefix Normal query items bytes = (bytes ≡ []) ⊎ ((text : List ℕ) × (n : ℕ)
    × IsNormalText (answer query items) text × (bytes ≡ take n text))
