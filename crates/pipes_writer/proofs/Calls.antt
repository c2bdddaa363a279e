-- What the calls of a writer leave written.
use Rattle.std.proofs.Common.{◌≡◌, ℕ, ◌≤◌, List, [], ◌∷◌, ◌++◌, take, Option, refl, sym}
use Rattle.std.proofs.Common.{subst}
use Rattle.std.proofs.lemmas.List.{append-nil}
use Rattle.std.proofs.lemmas.List.Elements.{All-head, All-nil, All-cons}
use Rattle.std.specs.Io.KnownBytes.{Appends}
use Rattle.pipes_time.specs.Interval.{closed, IsInterval}
use Rattle.pipes_stream.specs.declared.Elem.{Elem}
use Rattle.pipes_output.specs.declared.entry.Entry.{Entry}
use Rattle.pipes_output.specs.declared.entry.Entry.TheVariants as entry
use Rattle.pipes_semantics.specs.Written.{results}
use Rattle.pipes_written.proofs.Splits.{results-append}
use Rattle.pipes_buffer.specs.Pieces.{AppendsPrefix, PassesOn}
use Rattle.pipes_buffer.proofs.Passing.{passed-grown, all-passed, prefix-last}
use Rattle.pipes_settled.specs.declared.settled.Settled.{Settled}
use Rattle.pipes_settled.specs.Certainty.{AreIntervals, StartFrom, IsCertain}
use Rattle.pipes_settled.specs.Standing.{Stands, Advances, Finishes}
use Rattle.pipes_settled.proofs.Calls.{call-laws}
use Rattle.pipes_writer.specs.Wrote.{GaveOf, WroteCertain, WroteText, AddsResult, ComesFrom}
use Rattle.pipes_writer.proofs.Certain.{certain-part, certain-taken, certain-later, certain-more}
use Rattle.pipes_writer.proofs.Lines.{all-out}

-- ---- one entry more

-- the results of an entry, as elements that come
intervals-of : (h : ℕ) (e : Entry) → ComesFrom h e → AreIntervals (results (e ∷ []))
intervals-of h (entry.Result x) comes = All-cons (λ (y : Elem). IsInterval y.span.start y.span.end) x
    [] (All-head (λ (y : Elem). IsInterval y.span.start y.span.end × (h ≤ y.span.start)) x []
    comes).0 (All-nil _)
intervals-of h (entry.Beat b) comes = All-nil _
intervals-of h (entry.Accepted number split) comes = All-nil _
intervals-of h (entry.Refused command why) comes = All-nil _
intervals-of h (entry.Idle number) comes = All-nil _
intervals-of h (entry.Over number) comes = All-nil _
intervals-of h (entry.Drained inputs output) comes = All-nil _
intervals-of h entry.Ended comes = All-nil _
intervals-of h entry.Stopped comes = All-nil _

starts-of : (h : ℕ) (e : Entry) → ComesFrom h e → StartFrom h (results (e ∷ []))
starts-of h (entry.Result x) comes = All-cons (λ (y : Elem). h ≤ y.span.start) x
    [] (All-head (λ (y : Elem). IsInterval y.span.start y.span.end × (h ≤ y.span.start)) x []
    comes).1 (All-nil _)
starts-of h (entry.Beat b) comes = All-nil _
starts-of h (entry.Accepted number split) comes = All-nil _
starts-of h (entry.Refused command why) comes = All-nil _
starts-of h (entry.Idle number) comes = All-nil _
starts-of h (entry.Over number) comes = All-nil _
starts-of h (entry.Drained inputs output) comes = All-nil _
starts-of h entry.Ended comes = All-nil _
starts-of h entry.Stopped comes = All-nil _

-- an entry without a result
kept : (elems : List Elem) (h : ℕ) (given : List ℕ) (old new : Settled) → Stands elems h given old
    → new ≡ old → Stands (elems ++ []) h given new
kept elems h given old new stands same =
    subst (λ (es : List Elem). Stands es h given new) (sym (append-nil elems))
    (subst (λ (s : Settled). Stands elems h given s) (sym same) stands)

-- the tables stand for the results with those of the entry
adds : (elems : List Elem) (h : ℕ) (given : List ℕ) (e : Entry) (old new : Settled)
    → Stands elems h given old → ComesFrom h e → AddsResult e old new
    → Stands (elems ++ results (e ∷ [])) h given new
adds elems h given (entry.Result x) old new stands comes added = added elems h given stands
    (All-head (λ (y : Elem). IsInterval y.span.start y.span.end × (h ≤ y.span.start)) x [] comes).1
adds elems h given (entry.Beat b) old new stands comes same = kept elems h given old new stands same
adds elems h given (entry.Accepted number split) old new stands comes same =
    kept elems h given old new stands same
adds elems h given (entry.Refused command why) old new stands comes same =
    kept elems h given old new stands same
adds elems h given (entry.Idle number) old new stands comes same =
    kept elems h given old new stands same
adds elems h given (entry.Over number) old new stands comes same =
    kept elems h given old new stands same
adds elems h given (entry.Drained inputs output) old new stands comes same =
    kept elems h given old new stands same
adds elems h given entry.Ended old new stands comes same = kept elems h given old new stands same
adds elems h given entry.Stopped old new stands comes same = kept elems h given old new stands same

pub normal-put : (init now : Option (List ℕ)) (entries : List Entry) (h : ℕ) (e : Entry)
    (old new : Settled) (text : List ℕ) → GaveOf init now old text (results entries) h
    → ComesFrom h e → AddsResult e old new
    → GaveOf init now new text (results (entries ++ e ∷ [])) h
normal-put init now entries h e old new text gave comes added = record {
  within = gave.within;
  given = gave.given;
  passed = gave.passed;
  stands = subst (λ (es : List Elem). Stands es h gave.given new)
      (sym (results-append entries (e ∷ [])))
      (adds (results entries) h gave.given e old new gave.stands comes added);
}

-- what was written of a text that is certain
written : (init now : Option (List ℕ)) (old : Settled) (text : List ℕ) (elems : List Elem) (h : ℕ)
    → GaveOf init now old text elems h → WroteCertain init now elems h
written init now old text elems h gave = record {
  bytes = gave.passed.0;
  appended = gave.passed.1;
  certain = certain-part elems h gave.given gave.passed.0 text gave.passed.2
      (call-laws.certain elems h gave.given old gave.stands);
}

pub normal-put-stops : (init now : Option (List ℕ)) (entries : List Entry) (h : ℕ) (e : Entry)
    (old : Settled) (text : List ℕ) → GaveOf init now old text (results entries) h
    → ComesFrom h e → WroteCertain init now (results (entries ++ e ∷ [])) h
normal-put-stops init now entries h e old text gave comes =
    let w = written init now old text (results entries) h gave in record {
      bytes = w.bytes;
      appended = w.appended;
      certain = subst (λ (es : List Elem). IsCertain es h w.bytes)
          (sym (results-append entries (e ∷ []))) (certain-more (results entries) (results (e ∷ []))
          h w.bytes (intervals-of h e comes) (starts-of h e comes) w.certain);
    }

-- ---- no later result starts below an instant

pub normal-pass : (init cur new : Option (List ℕ)) (elems : List Elem) (from h : ℕ)
    (old mid : Settled) (text more left : List ℕ) → GaveOf init cur old text elems from → from ≤ h
    → h ≤ closed → Advances h text more old mid → Appends cur new more → left ≡ []
    → GaveOf init new mid left elems h
normal-pass init cur new elems from h old mid text more left gave low high advances out none =
    let gives = advances elems from gave.given gave.stands low in record {
      within = high;
      given = gave.given ++ gives.fresh;
      passed = all-out init cur new (gave.given ++ gives.fresh) more left
          (passed-grown init cur gave.given text gives.fresh _ _ gave.passed refl gives.appended)
          out none;
      stands = gives.stands;
    }

pub normal-pass-stops : (init now : Option (List ℕ)) (elems : List Elem) (from h : ℕ)
    (old : Settled) (text : List ℕ) → GaveOf init now old text elems from → from ≤ h
    → WroteCertain init now elems h
normal-pass-stops init now elems from h old text gave low =
    let w = written init now old text elems from gave in record {
      bytes = w.bytes;
      appended = w.appended;
      certain = certain-later elems from h w.bytes low w.certain;
    }

cut : (init cur new : Option (List ℕ)) (elems : List Elem) (h : ℕ) (given kept fresh more : List ℕ)
    → PassesOn init cur given kept → more ≡ kept ++ fresh → IsCertain elems h (given ++ fresh)
    → AppendsPrefix cur new more → WroteCertain init new elems h
cut init cur new elems h given kept fresh more passed is certain prefix =
    let all = prefix-last init cur new (given ++ fresh) more
    (passed-grown init cur given kept fresh _ _ passed refl is) prefix in record {
      bytes = take all.0 (given ++ fresh);
      appended = all.1;
      certain = certain-taken elems h all.0 (given ++ fresh) certain;
    }

pub normal-pass-cut : (init cur new : Option (List ℕ)) (elems : List Elem) (from h : ℕ)
    (old mid : Settled) (text more : List ℕ) → GaveOf init cur old text elems from → from ≤ h
    → Advances h text more old mid → AppendsPrefix cur new more → WroteCertain init new elems h
normal-pass-cut init cur new elems from h old mid text more gave low advances prefix =
    let gives = advances elems from gave.given gave.stands low in
    cut init cur new elems h gave.given text gives.fresh more gave.passed gives.appended
    gives.certain prefix

-- ---- the end

pub normal-end : (init cur new : Option (List ℕ)) (elems : List Elem) (from : ℕ)
    (old mid : Settled) (text more : List ℕ) → GaveOf init cur old text elems from
    → Finishes text more old mid → Appends cur new more → WroteText init new elems
normal-end init cur new elems from old mid text more gave finishes out =
    let done = finishes elems from gave.given gave.stands gave.within in record {
      text = gave.given ++ done.fresh;
      appended = all-passed init cur new (gave.given ++ done.fresh) more
          (passed-grown init cur gave.given text done.fresh _ _ gave.passed refl done.appended) out;
      whole = done.whole;
    }

pub normal-end-stops : (init now : Option (List ℕ)) (elems : List Elem) (from : ℕ)
    (old : Settled) (text : List ℕ) → GaveOf init now old text elems from
    → WroteCertain init now elems closed
normal-end-stops init now elems from old text gave =
    normal-pass-stops init now elems from closed old text gave gave.within

pub normal-end-cut : (init cur new : Option (List ℕ)) (elems : List Elem) (from : ℕ)
    (old mid : Settled) (text more : List ℕ) → GaveOf init cur old text elems from
    → Finishes text more old mid → AppendsPrefix cur new more → WroteCertain init new elems closed
normal-end-cut init cur new elems from old mid text more gave finishes prefix =
    let done = finishes elems from gave.given gave.stands gave.within in
    cut init cur new elems closed gave.given text done.fresh more gave.passed done.appended
    (call-laws.certain elems closed (gave.given ++ done.fresh) mid done.stands) prefix
