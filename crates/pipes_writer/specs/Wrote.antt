-- What was written of entries, and what waits.
use Rattle.std.specs.Prelude.{◌≡◌, ℕ, ◌≤◌, List, [], ◌∷◌, ◌++◌, Option}
use Rattle.std.specs.List.{All}
use Rattle.std.specs.Io.KnownBytes.{Appends}
use Rattle.pipes_time.specs.Interval.{closed, IsInterval}
use Rattle.pipes_stream.specs.declared.Elem.{Elem}
use Rattle.pipes_stream.specs.Snapshot.{snapshot}
use Rattle.pipes_buffer.specs.Pieces.{AppendsShort, PassesOn}
use Rattle.pipes_output.specs.declared.entry.Entry.{Entry}
use Rattle.pipes_output.specs.declared.entry.Entry.TheVariants as entry
use Rattle.pipes_output.specs.declared.form.Form.{Form}
use Rattle.pipes_output.specs.declared.form.Form.TheVariants as form
use Rattle.pipes_output.specs.Lines.{lines}
use Rattle.pipes_output.specs.NormalText.{IsNormalText}
use Rattle.pipes_semantics.specs.Written.{results}
use Rattle.pipes_settled.specs.declared.settled.Settled.{Settled}
use Rattle.pipes_settled.specs.Certainty.{IsCertain}
use Rattle.pipes_settled.specs.Standing.{Stands, Adds}
use Rattle.pipes_writer.specs.declared.writer.Waiting.{Waiting}
use Rattle.pipes_writer.specs.declared.writer.Waiting.TheVariants.{Stream, Normal}
use Rattle.pipes_writer.specs.declared.writer.Writer.{Writer}

abbrev pub form_waiting : Waiting → Form
form_waiting (Stream text) = form.Stream
form_waiting (Normal settled text) = form.Normal

abbrev pub form_of : Writer → Form
form_of w = form_waiting w.waiting

-- the text that was given of results is written but for what waits, and it is certain
pub record GaveOf (init now : Option (List ℕ)) (settled : Settled) (kept : List ℕ)
    (elems : List Elem) (h : ℕ) : Type 0 where
  pub within : h ≤ closed
  pub given : List ℕ
  pub passed : PassesOn init now given kept
  pub stands : Stands elems h given settled

abbrev pub WroteWaiting : Option (List ℕ) → Option (List ℕ) → Waiting → List Entry → ℕ → Type 0
WroteWaiting init now (Stream text) entries h = PassesOn init now (lines entries) text.items
WroteWaiting init now (Normal settled text) entries h =
    GaveOf init now settled text.items (results entries) h

-- Since the sink knew these bytes, these entries came, and no later result starts below h: of the
-- stream's lines a first part was written, and the rest waits; of the normal text a first part was
-- written that is certain.
abbrev pub Wrote : Option (List ℕ) → Option (List ℕ) → Writer → List Entry → ℕ → Type 0
Wrote init now w entries h = WroteWaiting init now w.waiting entries h

-- ---- where a call failed

-- a part of a text was written that is certain, whatever results come that start at h or later
pub record WroteCertain (init now : Option (List ℕ)) (elems : List Elem) (h : ℕ) : Type 0 where
  pub bytes : List ℕ
  pub appended : Appends init now bytes
  pub certain : IsCertain elems h bytes

-- a first part of the lines of these entries, but not all of them, or a first part of the normal
-- text of their results
abbrev pub WrotePart : Option (List ℕ) → Option (List ℕ) → Form → List Entry → ℕ → Type 0
WrotePart init now form.Stream entries h = AppendsShort init now (lines entries)
WrotePart init now form.Normal entries h = WroteCertain init now (results entries) h

-- the lines of these entries, or the normal text of their results
pub record WroteText (init now : Option (List ℕ)) (elems : List Elem) : Type 0 where
  pub text : List ℕ
  pub appended : Appends init now text
  pub whole : IsNormalText (snapshot elems) text

abbrev pub WroteAll : Option (List ℕ) → Option (List ℕ) → Form → List Entry → Type 0
WroteAll init now form.Stream entries = Appends init now (lines entries)
WroteAll init now form.Normal entries = WroteText init now (results entries)

-- ---- what single calls do

-- the results of an entry are intervals that start at h or later
abbrev pub ComesFrom : ℕ → Entry → Type 0
ComesFrom h e =
    All (λ x. IsInterval x.span.start x.span.end × (h ≤ x.span.start)) (results (e ∷ []))

abbrev pub PutsOne : Option (List ℕ) → Option (List ℕ) → Writer → Writer → Entry → Type 0
PutsOne before now old new e = (init : Option (List ℕ)) (entries : List Entry) (h : ℕ)
    → Wrote init before old entries h → ComesFrom h e → Wrote init now new (entries ++ e ∷ []) h

abbrev pub StopsAt : Option (List ℕ) → Option (List ℕ) → Writer → Entry → Type 0
StopsAt before now old e = (init : Option (List ℕ)) (entries : List Entry) (h : ℕ)
    → Wrote init before old entries h → ComesFrom h e
    → WrotePart init now (form_of old) (entries ++ e ∷ []) h

abbrev pub Passes : Option (List ℕ) → Option (List ℕ) → Writer → Writer → ℕ → Type 0
Passes before now old new h = (init : Option (List ℕ)) (entries : List Entry) (from : ℕ)
    → Wrote init before old entries from → from ≤ h → h ≤ closed → Wrote init now new entries h

abbrev pub StopsPast : Option (List ℕ) → Option (List ℕ) → Writer → ℕ → Type 0
StopsPast before now old h = (init : Option (List ℕ)) (entries : List Entry) (from : ℕ)
    → Wrote init before old entries from → from ≤ h → h ≤ closed
    → WrotePart init now (form_of old) entries h

abbrev pub Completes : Option (List ℕ) → Option (List ℕ) → Writer → Type 0
Completes before now old = (init : Option (List ℕ)) (entries : List Entry) (h : ℕ)
    → Wrote init before old entries h → WroteAll init now (form_of old) entries

abbrev pub StopsBefore : Option (List ℕ) → Option (List ℕ) → Writer → Type 0
StopsBefore before now old = (init : Option (List ℕ)) (entries : List Entry) (h : ℕ)
    → Wrote init before old entries h → WrotePart init now (form_of old) entries closed

-- the result is added, where the entry is one
abbrev pub AddsResult : Entry → Settled → Settled → Type 0
AddsResult (entry.Result e) old new = Adds e old new
AddsResult (entry.Beat h) old new = new ≡ old
AddsResult (entry.Accepted number split) old new = new ≡ old
AddsResult (entry.Refused command why) old new = new ≡ old
AddsResult (entry.Idle number) old new = new ≡ old
AddsResult (entry.Over number) old new = new ≡ old
AddsResult (entry.Drained inputs output) old new = new ≡ old
AddsResult entry.Ended old new = new ≡ old
AddsResult entry.Stopped old new = new ≡ old
