-- What a run over its sources does.
use Rattle.std.specs.Prelude.{◌≡◌, ℕ, ◌<◌, List, [], ◌∷◌, take, map, length, get_or, slice_get}
use Rattle.std.specs.Prelude.{Option, Some, None, Result, Ok, Err, ⊤}
use Rattle.std.specs.List.{All}
use Rattle.std.specs.Io.KnownBytes.{Appends}
use Rattle.pipes_edge.specs.Causes.{Rose}
use Rattle.pipes_window.specs.declared.item.Item.{Item}
use Rattle.pipes_output.specs.declared.entry.Entry.TheVariants.{Ended, Stopped}
use Rattle.pipes_output.specs.declared.form.Form.{Form}
use Rattle.pipes_feed.specs.declared.reason.Reason.{Reason}
use Rattle.pipes_feed.specs.declared.reason.Reason.TheVariants as reason
use Rattle.pipes_feed.specs.Items.{Items, arrivals_of, in_order}
use Rattle.pipes_query.specs.declared.query.Query.{Query}
use Rattle.pipes_query.specs.declared.query.SourceDecl.{SourceDecl}
use Rattle.pipes_semantics.specs.Run.{WritesRun, WritesRunPrefix}
use Rattle.pipes_inline.specs.declared.RunFault.{RunFault}
use Rattle.pipes_inline.specs.declared.RunFault.TheVariants.{Row, Limit, Read, Write, Memory}

-- the items of each source: its arrivals in order
abbrev pub lists_of : List Items → List (List Item)
lists_of arrivals = map (λ a. in_order a.list) arrivals

-- each source was read to its end
abbrev pub AllEnd : List Items → Type 0
AllEnd arrivals = All (λ a. a.end ≡ reason.AtEnd) arrivals

-- Of each source its first arrivals were taken, and these, in order, are its items then. Without
-- slack they are a prefix of all its items.
abbrev pub ArePrefixes : List Items → List (List Item) → Type 0
ArePrefixes [] [] = ⊤
ArePrefixes (a ∷ others) (t ∷ ts) =
    ((n : ℕ) × (t ≡ in_order (take n a.list))) × ArePrefixes others ts
ArePrefixes _ _ = ⊥

-- the arrivals of the source with this number end so, and all of them were taken
abbrev pub StoppedAt : List Items → List (List Item) → ℕ → Reason → Type 0
StoppedAt arrivals taken source why = (a : Items) × (slice_get arrivals source ≡ Some a)
    × (a.end ≡ why) × (slice_get taken source ≡ Some (in_order a.list))

-- the arrivals of each source, where it is known which bytes it has left
abbrev pub AreArrivals : List SourceDecl → List (Option (List ℕ)) → List Items → Type 0
AreArrivals [] [] [] = ⊤
AreArrivals (s ∷ ss) (left ∷ lefts) (a ∷ others) =
    ((bytes : List ℕ) × (left ≡ Some bytes) × (a ≡ arrivals_of s.schema s.slack bytes))
    × AreArrivals ss lefts others
AreArrivals _ _ _ = ⊥

-- the fault that a run ended with, if there was one
abbrev pub fault_in : Result (Unit {0}) RunFault → Option RunFault
fault_in (Ok u) = None
fault_in (Err fault) = Some fault

-- what was written over the arrivals of the sources: over all of them, or over those before the
-- fault
abbrev pub DoesRun : Form → Query → List Items → Option RunFault → List ℕ → Type 0
DoesRun form query arrivals None bytes = AllEnd arrivals
    × WritesRun form query (lists_of arrivals) Ended bytes
DoesRun form query arrivals (Some (Row source line why)) bytes = (taken : List (List Item))
    × ArePrefixes arrivals taken × StoppedAt arrivals taken source (reason.Row line why)
    × WritesRun form query taken Stopped bytes
DoesRun form query arrivals (Some (Limit source line)) bytes = (taken : List (List Item))
    × ArePrefixes arrivals taken × StoppedAt arrivals taken source (reason.Limit line)
    × WritesRun form query taken Stopped bytes
DoesRun form query arrivals (Some (Read source)) bytes = (taken : List (List Item))
    × ArePrefixes arrivals taken × WritesRun form query taken Stopped bytes
DoesRun form query arrivals (Some Write) bytes = (taken : List (List Item))
    × ArePrefixes arrivals taken × WritesRunPrefix form query taken bytes
DoesRun form query arrivals (Some Memory) bytes = (taken : List (List Item))
    × ArePrefixes arrivals taken × WritesRunPrefix form query taken bytes

-- A fault of a source names one; a read fails only where that source's count rose, and a write
-- where that of the output did.
abbrev pub HasRunCause : List ℕ → List ℕ → ℕ → ℕ → Option RunFault → Type 0
HasRunCause before now out_before out_now None = ⊤
HasRunCause before now out_before out_now (Some (Row source line why)) = source < length now
HasRunCause before now out_before out_now (Some (Limit source line)) = source < length now
HasRunCause before now out_before out_now (Some (Read source)) = (source < length now)
    × Rose (get_or before source 0) (get_or now source 0)
HasRunCause before now out_before out_now (Some Write) = Rose out_before out_now
HasRunCause before now out_before out_now (Some Memory) = ⊤

-- what a run did with what its sources had left
pub record DidRun (form : Form) (query : Query) (lefts : List (Option (List ℕ)))
    (before now : Option (List ℕ)) (fault : Option RunFault) : Type 0 where
  pub wrote : List ℕ
  pub appended : Appends before now wrote
  pub does : (arrivals : List Items) → AreArrivals query.sources lefts arrivals
      → DoesRun form query arrivals fault wrote
