-- What written entries say of results.
use Rattle.std.specs.Prelude.{◌≡◌, ◌⊎◌, ℕ, List, [], ◌∷◌, ◌++◌, map}
use Rattle.pipes_tuple.specs.declared.value.Value.{Value}
use Rattle.pipes_stream.specs.declared.Elem.{Elem}
use Rattle.pipes_stream.specs.Snapshot.{snapshot}
use Rattle.pipes_output.specs.declared.entry.Entry.{Entry}
use Rattle.pipes_output.specs.declared.entry.Entry.TheVariants as entry

-- the results among the entries
abbrev pub results : List Entry → List Elem
results [] = []
results (entry.Result e ∷ es) = e ∷ results es
results (entry.Beat h ∷ es) = results es
results (entry.Accepted number split ∷ es) = results es
results (entry.Refused command why ∷ es) = results es
results (entry.Idle number ∷ es) = results es
results (entry.Over number ∷ es) = results es
results (entry.Drained inputs output ∷ es) = results es
results (entry.Ended ∷ es) = results es
results (entry.Stopped ∷ es) = results es

-- the starts of results and the heartbeats, in the order written
abbrev pub starts : List Entry → List ℕ
starts [] = []
starts (entry.Result e ∷ es) = e.span.start ∷ starts es
starts (entry.Beat h ∷ es) = h ∷ starts es
starts (entry.Accepted number split ∷ es) = starts es
starts (entry.Refused command why ∷ es) = starts es
starts (entry.Idle number ∷ es) = starts es
starts (entry.Over number ∷ es) = starts es
starts (entry.Drained inputs output ∷ es) = starts es
starts (entry.Ended ∷ es) = starts es
starts (entry.Stopped ∷ es) = starts es

-- the tuples of the results that are valid at the instant
abbrev pub written_snapshot : List Entry → ℕ → List (List Value)
written_snapshot entries t = snapshot (results entries) t

-- the entries of a run with an empty script: a result for each element, and then this entry
abbrev pub entries_of : List Elem → Entry → List Entry
entries_of elems last = map entry.Result elems ++ last ∷ []

-- the entry at the end of a run
abbrev pub EndsRun : Entry → Type 0
EndsRun last = (last ≡ entry.Ended) ⊎ (last ≡ entry.Stopped)
