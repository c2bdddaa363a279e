-- What a timeline stands for as it takes elements and sends what is ready.
use Rattle.std.proofs.Common.{◌≡◌, ℕ, ◌≤◌, ◌<◌, Bool, true, false, cond, nat_lt, List, [], ◌∷◌}
use Rattle.std.proofs.Common.{◌++◌, refl, sym, ◌∙◌, subst, arith, append_assoc}
use Rattle.std.specs.List.{All}
use Rattle.std.proofs.lemmas.Bool.Decides.{nat_tests}
use Rattle.std.proofs.lemmas.List.Elements.{All-head, All-tail}
use Rattle.pipes_time.specs.Interval.{closed, IsInterval}
use Rattle.pipes_stream.specs.declared.Elem.{Elem}
use Rattle.pipes_stream.specs.declared.message.Message.{Message}
use Rattle.pipes_stream.specs.Lists.{run, start_of_list, Valid, beat, elements}
use Rattle.pipes_sweep.specs.Sending.{progress_after}
use Rattle.pipes_timeline.specs.declared.timeline.Timeline.{Timeline}
use Rattle.pipes_stream.specs.Weights.{weigh}
use Rattle.pipes_timeline.specs.Rules.{Row, RowBags, Arrival, KeyRule}
use Rattle.pipes_timeline.specs.Lines.{ends_by}
use Rattle.pipes_timeline.specs.Queues.{FirstIsOpen}
use Rattle.pipes_timeline.specs.Reached.{HasComeTo}
use Rattle.pipes_timeline.specs.Timelines.{Runs, Arrives, Trims, Passes, Sends, reach}
use Rattle.pipes_timeline.specs.Stands.{TimelineStands}
use Rattle.pipes_timeline.specs.Feeding.{LineFed}
use Rattle.pipes_timeline.proofs.Telling.{stands_told}

ends-later : (h n : ℕ) → h < n → cond {A = ℕ} (nat_lt h n) 0 1 ≡ 0
ends-later h n l = grind (arith, nat_tests)

none-by_then : (h : ℕ) (es : List Arrival) → All (λ s. h < s.1.span.end) es
    → weigh (λ (s : Arrival). ends_by h s.1.span) es ≡ 0
none-by_then h [] all = refl
none-by_then h (s ∷ es) all =
    let a = ends-later h s.1.span.end (All-head (λ (d : Arrival). h < d.1.span.end) s es all) in
    let b = none-by_then h es (All-tail (λ (d : Arrival). h < d.1.span.end) s es all) in
    omega (arith, a, b)

module _ {T R : Type 0} (r : KeyRule) (tells : Row → T → RowBags → Type 0) where
  -- before the next message
  pub fed_start : (t : Timeline T R) (h : ℕ) (ended : Bool) (taken : List Arrival)
      (sent : List Message) → TimelineStands r tells t h ended taken sent
      → LineFed r tells t (beat sent) h taken (elements sent)
  fed_start t h ended taken sent s = record { now = s.now; runs = s.runs; over = s.over }

  pub fed_passed : (old new : Timeline T R) (low h to : ℕ) (taken : List Arrival)
      (sent : List Elem) → h ≤ to → Passes r tells old new to → new.instant ≡ to
      → All (λ s. to < s.1.span.end) new.ends → LineFed r tells old low h taken sent
      → LineFed r tells new low to taken sent
  fed_passed old new low h to taken sent upto p now over f = record {
    now = now;
    runs = (let a = f.now in (p.good low taken sent (omega (arith, a, upto)) f.runs).1);
    over = none-by_then to new.ends over;
  }

  pub fed_arrived : (old new : Timeline T R) (low h : ℕ) (taken : List Arrival)
      (sent : List Elem) (s : Arrival) → s.1.span.start ≡ h
      → IsInterval s.1.span.start s.1.span.end → Arrives r tells old new s
      → LineFed r tells old low h taken sent → LineFed r tells new low h (taken ++ s ∷ []) sent
  fed_arrived old new low h taken sent s start inside a f = record {
    now = a.now ∙ f.now;
    runs = a.good low taken sent (start ∙ sym f.now) inside f.runs;
    over = (let w = a.adds.weight (λ (d : Arrival). ends_by h d.1.span) in
        let rises : s.1.span.start < s.1.span.end = inside.0 in
        let z = ends-later h s.1.span.end (omega (arith, rises, start)) in
        let o = f.over in
        omega (arith, w, z, o));
  }

  pub fed_trimmed : (old new : Timeline T R) (low h : ℕ) (taken : List Arrival)
      (sent : List Elem) → h ≤ 1000000000000000 → Trims r tells old new
      → LineFed r tells old low h taken sent → LineFed r tells new low h taken sent
  fed_trimmed old new low h taken sent upto t f = record {
    now = t.now ∙ f.now;
    runs = (let n = f.now in
        subst (λ (es : List Arrival). Runs r tells low es new taken sent) (sym t.ends)
        (t.good low old.ends taken sent (omega (arith, n, upto)) f.runs));
    over = subst (λ (es : List Arrival). weigh (λ (d : Arrival). ends_by h d.1.span) es ≡ 0)
        (sym t.ends) f.over;
  }

  -- what is ready is sent, and then the heartbeat or the end
  pub stands_sent : (old new : Timeline T R) (h before : ℕ) (ended : Bool)
      (taken : List Arrival) (earlier out between : List Message)
      → Valid earlier → (run start_of_list earlier).ended ≡ false → beat earlier ≡ before
      → LineFed r tells old (beat earlier) h taken (elements earlier)
      → (sends : Sends r tells old new out between)
      → FirstIsOpen new.pieces.queue.items → h ≤ closed → (ended ≡ true → h ≡ closed)
      → TimelineStands r tells new h ended taken
      (earlier ++ (sends.more ++ progress_after before (reach new.pieces.queue.items h) ended))
  stands_sent old new h before ended taken earlier out between valid going was f sends
      waits most end =
      let from : HasComeTo (beat earlier) earlier =
      record { valid = valid; going = going; at_most = omega arith } in
      let m = sends.good taken earlier (beat earlier) from f.runs in
      let over = subst (λ (es : List Arrival). weigh (λ (d : Arrival). ends_by h d.1.span) es ≡ 0)
      (sym sends.ends) f.over in
      subst (λ (ms : List Message). TimelineStands r tells new h ended taken ms)
      (append_assoc earlier sends.more (progress_after before (reach new.pieces.queue.items h)
      ended))
      (stands_told r tells new h taken m.0 before ended earlier sends.more valid was m.2 m.3
      (sends.now ∙ f.now) over waits most end)
