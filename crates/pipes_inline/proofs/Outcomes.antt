-- What a run has done at its end.
use Rattle.std.proofs.Common.{◌≡◌, ℕ, zero, suc, ◌+◌, ◌≤◌, ◌<◌, List, [], ◌∷◌, ◌++◌, length, get_or}
use Rattle.std.proofs.Common.{map, take, slice_get, Option, None, Some, refl, sym, ◌∙◌, ap, subst}
use Rattle.std.proofs.Common.{arith, inl}
use Rattle.std.specs.List.{All}
use Rattle.std.specs.Io.KnownBytes.{Appends}
use Rattle.std.proofs.lemmas.List.{append-nil}
use Rattle.std.proofs.Math.Seq.{take-append_seam}
use Rattle.std.proofs.lemmas.List.Elements.{All-nil, All-cons}
use Rattle.pipes_edge.specs.Causes.{Rose}
use Rattle.pipes_buffer.specs.declared.IoFault.{IoFault}
use Rattle.pipes_buffer.specs.declared.IoFault.TheVariants as io
use Rattle.pipes_window.specs.declared.item.Item.{Item}
use Rattle.pipes_output.specs.declared.entry.Entry.TheVariants as entry
use Rattle.pipes_output.specs.declared.form.Form.{Form}
use Rattle.pipes_output.specs.declared.form.Form.TheVariants.{Stream, Normal}
use Rattle.pipes_feed.specs.declared.reason.Reason.{Reason}
use Rattle.pipes_feed.specs.declared.reason.Reason.TheVariants as reason
use Rattle.pipes_feed.specs.declared.reader.Next.{Next}
use Rattle.pipes_feed.specs.declared.reader.Next.TheVariants as next
use Rattle.pipes_feed.specs.Items.{Items, arrivals_of, in_order}
use Rattle.pipes_feed.specs.Ahead.{arrivals_ahead}
use Rattle.pipes_query.specs.declared.query.Query.{Query}
use Rattle.pipes_query.specs.declared.query.SourceDecl.{SourceDecl}
use Rattle.pipes_semantics.specs.Run.{WritesRun, WritesRunPrefix}
use Rattle.pipes_results.proofs.Entries.{final-ended}
use Rattle.pipes_intake.specs.declared.intake.Intake.{Intake}
use Rattle.pipes_intake.specs.Taken.{ArePart, EndsSo, ComesThen}
use Rattle.pipes_inline.specs.declared.RunFault.{RunFault}
use Rattle.pipes_inline.specs.declared.RunFault.TheVariants as fault
use Rattle.pipes_inline.specs.declared.underway.Underway.{Underway}
use Rattle.pipes_inline.specs.declared.taking.Stop.{Stop}
use Rattle.pipes_inline.specs.Ran.{lists_of, AllEnd, ArePrefixes, StoppedAt, AreArrivals, DoesRun}
use Rattle.pipes_inline.specs.Ran.{DidRun, HasRunCause}
use Rattle.pipes_inline.specs.Standing.{Start, GoesOn, StopsAt, CutShort, WroteAll, PartsTaken}
use Rattle.pipes_inline.specs.Standing.{IsPartTaken, items_from}
use Rattle.pipes_inline.specs.Ending.{fault_of_write, fault_of_stop}
use Rattle.pipes_inline.proofs.Answering.{some-of}
use Rattle.pipes_inline.proofs.Turning.{parts-taken}

-- the source's arrivals, where it is known what it has left
abbrev Whole : SourceDecl → List ℕ → Items
Whole s bytes = arrivals_of s.schema s.slack bytes

prefix_is : (all taken rest : List Item) → all ≡ taken ++ rest → take (length taken) all ≡ taken
prefix_is all taken rest is = ap (take (length taken)) is ∙ take-append_seam taken rest

-- ---- the sources' arrivals, and what was taken of them

part-prefixes : (ss : List SourceDecl) (lefts : List (Option (List ℕ))) (arrivals : List Items)
    (n : ℕ) (taken : ℕ → List Item) → AreArrivals ss lefts arrivals
    → ((k : ℕ) → k < length ss → (s : SourceDecl)
    → IsPartTaken (get_or ss k s) (get_or lefts k None) (taken (n + k)))
    → ArePrefixes arrivals (items_from ss n taken)
part-prefixes [] [] [] n taken are parts = tt
part-prefixes [] [] (a ∷ others) n taken are parts = absurd are
part-prefixes [] (left ∷ lefts) arrivals n taken are parts = absurd are
part-prefixes (s ∷ ss) [] arrivals n taken are parts = absurd are
part-prefixes (s ∷ ss) (left ∷ lefts) [] n taken are parts = absurd are
part-prefixes (s ∷ ss) (left ∷ lefts) (a ∷ others) n taken are parts =
    let own = are.0 in
    let first : n + 0 ≡ n = omega arith in
    let part : ArePart (Whole s own.0) (taken n) =
    subst (λ (j : ℕ). ArePart (Whole s own.0) (taken j)) first
    (parts 0 (omega arith) s own.0 own.1) in
    let listed : a.list ≡ taken n ++ part.0 = ap (λ (x : Items). x.list) own.2 ∙ part.1 in (
      (length (taken n), ap in_order (sym (prefix_is a.list (taken n) part.0 listed))),
      part-prefixes ss lefts others (n + 1) taken are.1 (λ k l d.
          let e : n + suc k ≡ n + 1 + k = omega arith in
          subst (λ (j : ℕ). IsPartTaken (get_or ss k d) (get_or lefts k None) (taken j)) e
          (parts (suc k) (omega (arith, l)) d)),
    )

arrival-at : (ss : List SourceDecl) (lefts : List (Option (List ℕ))) (arrivals : List Items)
    (k : ℕ) (s : SourceDecl) → AreArrivals ss lefts arrivals → k < length ss → (bytes : List ℕ)
    × (get_or lefts k None ≡ Some bytes)
    × (slice_get arrivals k ≡ Some (Whole (get_or ss k s) bytes))
arrival-at [] lefts arrivals k s are l = absurd (omega (arith, l))
arrival-at (d ∷ ss) [] arrivals k s are l = absurd are
arrival-at (d ∷ ss) (left ∷ lefts) [] k s are l = absurd are
arrival-at (d ∷ ss) (left ∷ lefts) (a ∷ others) zero s are l = (are.0.0, are.0.1, ap Some are.0.2)
arrival-at (d ∷ ss) (left ∷ lefts) (a ∷ others) (suc k) s are l =
    arrival-at ss lefts others k s are.1 (omega (arith, l))

items-at : (ss : List SourceDecl) (n : ℕ) (taken : ℕ → List Item) (k : ℕ) → k < length ss
    → slice_get (items_from ss n taken) k ≡ Some (in_order (taken (n + k)))
items-at [] n taken k l = absurd (omega (arith, l))
items-at (s ∷ ss) n taken zero l =
    let e : n ≡ n + 0 = omega arith in ap (λ (j : ℕ). Some (in_order (taken j))) e
items-at (s ∷ ss) n taken (suc k) l =
    let e : n + 1 + k ≡ n + suc k = omega arith in
    items-at ss (n + 1) taken k (omega (arith, l))
    ∙ ap (λ (j : ℕ). Some (in_order (taken j))) e

-- the arrivals of the source with this number end so, where it is known what it had left
abbrev EndsAt : Start → (ℕ → List Item) → ℕ → Reason → Type 0
EndsAt start taken k why = (s : SourceDecl) (bytes : List ℕ)
    → get_or start.lefts k None ≡ Some bytes
    → EndsSo (Whole (get_or start.query.sources k s) bytes) (taken k) why

stopped-at : (start : Start) (arrivals : List Items) (taken : ℕ → List Item) (k : ℕ)
    (why : Reason) → AreArrivals start.query.sources start.lefts arrivals
    → k < length start.query.sources
    → ((s : SourceDecl) (bytes : List ℕ) → get_or start.lefts k None ≡ Some bytes
    → ((Whole (get_or start.query.sources k s) bytes).list ≡ taken k)
    × ((Whole (get_or start.query.sources k s) bytes).end ≡ why))
    → StoppedAt arrivals (items_from start.query.sources 0 taken) k why
stopped-at start arrivals taken k why are l ends =
    let s = some-of start.query.sources k l in
    let own = arrival-at start.query.sources start.lefts arrivals k s are l in
    let end = ends s own.0 own.1 in
    let e : 0 + k ≡ k = omega arith in (
      Whole (get_or start.query.sources k s) own.0,
      own.2,
      end.1,
      items-at start.query.sources 0 taken k l
          ∙ ap (λ (j : ℕ). Some (in_order (taken j))) e
          ∙ ap (λ (x : List Item). Some (in_order x)) (sym end.0),
    )

all-end : (ss : List SourceDecl) (lefts : List (Option (List ℕ))) (arrivals : List Items)
    (n : ℕ) (taken : ℕ → List Item) → AreArrivals ss lefts arrivals
    → ((k : ℕ) → k < length ss → (s : SourceDecl) (bytes : List ℕ)
    → get_or lefts k None ≡ Some bytes
    → EndsSo (Whole (get_or ss k s) bytes) (taken (n + k)) reason.AtEnd)
    → AllEnd arrivals × (lists_of arrivals ≡ items_from ss n taken)
all-end [] [] [] n taken are ends = (All-nil (λ (a : Items). a.end ≡ reason.AtEnd), refl)
all-end [] [] (a ∷ others) n taken are ends = absurd are
all-end [] (left ∷ lefts) arrivals n taken are ends = absurd are
all-end (s ∷ ss) [] arrivals n taken are ends = absurd are
all-end (s ∷ ss) (left ∷ lefts) [] n taken are ends = absurd are
all-end (s ∷ ss) (left ∷ lefts) (a ∷ others) n taken are ends =
    let own = are.0 in
    let first : n + 0 ≡ n = omega arith in
    let end : EndsSo (Whole s own.0) (taken n) reason.AtEnd =
    subst (λ (j : ℕ). EndsSo (Whole s own.0) (taken j) reason.AtEnd) first
    (ends 0 (omega arith) s own.0 own.1) in
    let rest = all-end ss lefts others (n + 1) taken are.1 (λ k l d bytes is.
    let e : n + suc k ≡ n + 1 + k = omega arith in
    subst (λ (j : ℕ). EndsSo (Whole (get_or ss k d) bytes) (taken j) reason.AtEnd) e
    (ends (suc k) (omega (arith, l)) d bytes is)) in (
      All-cons (λ (x : Items). x.end ≡ reason.AtEnd) a others
          (ap (λ (x : Items). x.end) own.2 ∙ end.1) rest.0,
      let here : in_order a.list ≡ in_order (taken n) =
          ap in_order (ap (λ (x : Items). x.list) own.2 ∙ end.0) in
          ap (λ (l : List Item). l ∷ lists_of others) here
          ∙ ap (λ (ls : List (List Item)). in_order (taken n) ∷ ls) rest.1,
    )

parts-prefixes : (start : Start) (arrivals : List Items) (taken : ℕ → List Item)
    → PartsTaken start taken → AreArrivals start.query.sources start.lefts arrivals
    → ArePrefixes arrivals (items_from start.query.sources 0 taken)
parts-prefixes start arrivals taken parts are =
    part-prefixes start.query.sources start.lefts arrivals 0 taken are (λ k l s.
    let e : k ≡ 0 + k = omega arith in
    subst (λ (j : ℕ). IsPartTaken (get_or start.query.sources k s) (get_or start.lefts k None)
    (taken j)) e (parts k l s))

-- ---- the end of a source

-- where this comes next, the arrivals end so
end-of : (whole : Items) (taken : List Item) (n : Next) (ahead : Option Items) (why : Reason)
    → n ≡ next.Ended why → ComesThen whole taken n ahead → EndsSo whole taken why
end-of whole taken n ahead why is h =
    subst (λ (x : Next). ComesThen whole taken x ahead) is h

module _ (start : Start) (lefts : List (Option (List ℕ))) (faults : List ℕ)
    (now : Option (List ℕ)) (underway : Underway) (g : GoesOn start lefts faults now underway) where
  -- the source with this number has ended so
  source-ends : (k : ℕ) (why : Reason) → k < length start.query.sources
      → ((d : Intake) → (get_or underway.intakes.items k d).ahead.next ≡ next.Ended why)
      → EndsAt start g.taken k why
  source-ends k why l ends s bytes is =
      let d : Intake = some-of underway.intakes.items k (omega (arith, l, g.count)) in
      end-of _ (g.taken k) _ _ why (ends d) ((g.each k l s d).ahead.source bytes is)

  -- ---- what was done

  pub did-cut : (form : Form) (after : Option (List ℕ)) → CutShort form start after
      → (f : IoFault) → DidRun form start.query start.lefts start.written after
      (Some (fault_of_write f))
  did-cut form after c f = by f
    where
      by : (f : IoFault) → DidRun form start.query start.lefts start.written after
          (Some (fault_of_write f))
      by io.Failed = record {
        wrote = c.bytes;
        appended = c.appended;
        does = λ arrivals are. (
          items_from start.query.sources 0 c.taken,
          parts-prefixes start arrivals c.taken c.parts are,
          c.writes,
        );
      }
      by io.Memory = record {
        wrote = c.bytes;
        appended = c.appended;
        does = λ arrivals are. (
          items_from start.query.sources 0 c.taken,
          parts-prefixes start arrivals c.taken c.parts are,
          c.writes,
        );
      }

  pub did-all : (form : Form) (after : Option (List ℕ)) → StopsAt None underway
      → WroteAll form start g.taken after entry.Ended
      → DidRun form start.query start.lefts start.written after None
  did-all form after stops w = record {
    wrote = w.bytes;
    appended = w.appended;
    does = λ arrivals are.
        let all = all-end start.query.sources start.lefts arrivals 0 g.taken are
        (λ k l s bytes is.
        let e : k ≡ 0 + k = omega arith in
        subst (λ (j : ℕ). EndsSo (Whole (get_or start.query.sources k s) bytes) (g.taken j)
        reason.AtEnd) e
        (source-ends k reason.AtEnd l (λ d.
        ((g.each k l s d).over (stops k d (omega (arith, l, g.count)))).1) s bytes is)) in (
          all.0,
          subst (λ (ls : List (List Item)). WritesRun form start.query ls entry.Ended w.bytes)
              (sym all.1) w.writes,
        );
  }

  module _ (form : Form) (after : Option (List ℕ))
      (w : WroteAll form start g.taken after entry.Stopped) (source : ℕ)
      (l : source < length start.query.sources) where
    prefixes : (arrivals : List Items) → AreArrivals start.query.sources start.lefts arrivals
        → ArePrefixes arrivals (items_from start.query.sources 0 g.taken)
    prefixes arrivals are = parts-prefixes start arrivals g.taken
        (parts-taken start lefts faults now underway g) are

    did-stop : (why : Reason) → (why ≡ reason.AtEnd → ⊥) → (why ≡ reason.Memory → ⊥)
        → EndsAt start g.taken source why
        → DidRun form start.query start.lefts start.written after (fault_of_stop source why)
    did-stop reason.AtEnd some ample ends = absurd (some refl)
    did-stop (reason.Row line refusal) some ample ends = record {
      wrote = w.bytes;
      appended = w.appended;
      does = λ arrivals are. (
        items_from start.query.sources 0 g.taken,
        prefixes arrivals are,
        stopped-at start arrivals g.taken source (reason.Row line refusal) are l ends,
        w.writes,
      );
    }
    did-stop (reason.Limit line) some ample ends = record {
      wrote = w.bytes;
      appended = w.appended;
      does = λ arrivals are. (
        items_from start.query.sources 0 g.taken,
        prefixes arrivals are,
        stopped-at start arrivals g.taken source (reason.Limit line) are l ends,
        w.writes,
      );
    }
    did-stop reason.Failed some ample ends = record {
      wrote = w.bytes;
      appended = w.appended;
      does = λ arrivals are. (
        items_from start.query.sources 0 g.taken,
        prefixes arrivals are,
        w.writes,
      );
    }
    did-stop reason.Memory some ample ends = absurd (ample refl)

  pub did-stopped : (form : Form) (after : Option (List ℕ)) (stop : Stop)
      → StopsAt (Some stop) underway → (stop.reason ≡ reason.Memory → ⊥)
      → WroteAll form start g.taken after entry.Stopped
      → DidRun form start.query start.lefts start.written after
      (fault_of_stop stop.source stop.reason)
  did-stopped form after stop stops ample w =
      let l : stop.source < length start.query.sources = omega (arith, stops.0, g.count) in
      did-stop form after w stop.source l stop.reason stops.1.1 ample
      (source-ends stop.source stop.reason l stops.1.0)

  -- ---- causes

  rose_later : (first before now : ℕ) → first ≤ before → Rose before now → Rose first now
  rose_later first before now h rose = omega (arith, h, rose)

  pub write-cause : (out_before out out_now : ℕ) → out_before ≤ out → (f : IoFault)
      → (f ≡ io.Failed → Rose out out_now)
      → HasRunCause start.faults faults out_before out_now (Some (fault_of_write f))
  write-cause out_before out out_now h io.Failed rose = rose_later out_before out out_now h
      (rose refl)
  write-cause out_before out out_now h io.Memory rose = tt

  stop_cause : (why : Reason) (source out_before out_now : ℕ) → source < length faults
      → (why ≡ reason.Failed → Rose (get_or start.faults source 0) (get_or faults source 0))
      → HasRunCause start.faults faults out_before out_now (fault_of_stop source why)
  stop_cause reason.AtEnd source out_before out_now l rose = tt
  stop_cause (reason.Row line why) source out_before out_now l rose = l
  stop_cause (reason.Limit line) source out_before out_now l rose = l
  stop_cause reason.Failed source out_before out_now l rose = (l, rose refl)
  stop_cause reason.Memory source out_before out_now l rose = tt

  pub stop-cause : (stop : Stop) (out_before out_now : ℕ) → StopsAt (Some stop) underway
      → HasRunCause start.faults faults out_before out_now
      (fault_of_stop stop.source stop.reason)
  stop-cause stop out_before out_now stops =
      let l : stop.source < length start.query.sources = omega (arith, stops.0, g.count) in
      let d : Intake = some-of underway.intakes.items stop.source stops.0 in
      let s : SourceDecl = some-of start.query.sources stop.source l in
      stop_cause stop.reason stop.source out_before out_now (omega (arith, l, g.counts)) (λ f.
      (g.each stop.source l s d).ahead.failed (stops.1.0 d ∙ ap next.Ended f))

-- nothing was taken or written
appends_none : (w : Option (List ℕ)) → Appends w w []
appends_none None = tt
appends_none (Some bytes) = sym (append-nil bytes)

none-parts : (ss : List SourceDecl) (lefts : List (Option (List ℕ))) (arrivals : List Items)
    → AreArrivals ss lefts arrivals → ArePrefixes arrivals (items_from ss 0 (λ _. []))
none-parts ss lefts arrivals are =
    part-prefixes ss lefts arrivals 0 (λ _. []) are (λ k l s bytes is.
    ((Whole (get_or ss k s) bytes).list, refl))

pub did-nothing : (form : Form) (query : Query) (lefts : List (Option (List ℕ)))
    (w : Option (List ℕ)) → DidRun form query lefts w w (Some fault.Memory)
did-nothing Stream query lefts w = record {
  wrote = [];
  appended = appends_none w;
  does = λ arrivals are. (
    items_from query.sources 0 (λ _. []),
    none-parts query.sources lefts arrivals are,
    (
      [],
      entry.Ended,
      0,
      inl refl,
      refl,
      final-ended query (items_from query.sources 0 (λ _. [])),
    ),
  );
}
did-nothing Normal query lefts w = record {
  wrote = [];
  appended = appends_none w;
  does = λ arrivals are. (
    items_from query.sources 0 (λ _. []),
    none-parts query.sources lefts arrivals are,
    inl refl,
  );
}
