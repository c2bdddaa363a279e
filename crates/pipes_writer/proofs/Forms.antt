-- What was written, form by form.
use Rattle.std.proofs.Common.{◌≡◌, ℕ, List, Option, sym, subst}
use Rattle.std.specs.declared.vec.Vec.{Vec}
use Rattle.std.specs.declared.alloc.Global.{Global}
use Rattle.std.specs.Io.KnownBytes.{Appends}
use Rattle.pipes_output.specs.declared.entry.Entry.{Entry}
use Rattle.pipes_output.specs.Lines.{lines}
use Rattle.pipes_semantics.specs.Written.{results}
use Rattle.pipes_buffer.specs.Pieces.{AppendsShort, PassesOn}
use Rattle.pipes_settled.specs.declared.settled.Settled.{Settled}
use Rattle.pipes_writer.specs.declared.writer.Waiting.{Waiting}
use Rattle.pipes_writer.specs.declared.writer.Waiting.TheVariants.{Stream, Normal}
use Rattle.pipes_writer.specs.Wrote.{WroteWaiting, WrotePart, WroteAll, form_waiting, GaveOf}
use Rattle.pipes_writer.specs.Wrote.{WroteCertain, WroteText}

module _ (init now : Option (List ℕ)) (w : Waiting) (text : Vec ℕ Global)
    (entries : List Entry) (h : ℕ) where
  pub stream-kept : w ≡ Stream text → WroteWaiting init now w entries h
      → PassesOn init now (lines entries) text.items
  stream-kept is wrote = subst (λ (x : Waiting). WroteWaiting init now x entries h) is wrote

  pub normal-kept : (settled : Settled) → w ≡ Normal settled text
      → WroteWaiting init now w entries h
      → GaveOf init now settled text.items (results entries) h
  normal-kept settled is wrote =
      subst (λ (x : Waiting). WroteWaiting init now x entries h) is wrote

  pub part-stream : w ≡ Stream text → AppendsShort init now (lines entries)
      → WrotePart init now (form_waiting w) entries h
  part-stream is short =
      subst (λ (x : Waiting). WrotePart init now (form_waiting x) entries h) (sym is) short

  pub part-normal : (settled : Settled) → w ≡ Normal settled text
      → WroteCertain init now (results entries) h → WrotePart init now (form_waiting w) entries h
  part-normal settled is part =
      subst (λ (x : Waiting). WrotePart init now (form_waiting x) entries h) (sym is) part

module _ (init now : Option (List ℕ)) (w : Waiting) (text : Vec ℕ Global) (entries : List Entry)
  where
    pub all-stream : w ≡ Stream text → Appends init now (lines entries)
        → WroteAll init now (form_waiting w) entries
    all-stream is all = subst (λ (x : Waiting). WroteAll init now (form_waiting x) entries) (sym is) all

    pub all-normal : (settled : Settled) → w ≡ Normal settled text
        → WroteText init now (results entries) → WroteAll init now (form_waiting w) entries
    all-normal settled is all =
        subst (λ (x : Waiting). WroteAll init now (form_waiting x) entries) (sym is) all
