-- What is sent after the pieces, and how a timeline stands then.
use Rattle.std.proofs.Common.{◌≡◌, ℕ, ◌≤◌, ◌<◌, Bool, true, false, cond, nat_lt, List, [], ◌∷◌}
use Rattle.std.proofs.Common.{◌++◌, refl, sym, ap, ◌∙◌, subst, arith, append-nil}
use Rattle.std.proofs.lemmas.Bool.Decides.{nat_tests}
use Rattle.pipes_time.specs.Interval.{closed}
use Rattle.pipes_stream.specs.declared.Elem.{Elem}
use Rattle.pipes_stream.specs.declared.message.Message.{Message}
use Rattle.pipes_stream.specs.declared.message.Message.TheVariants as message
use Rattle.pipes_stream.specs.Progress.{Progress}
use Rattle.pipes_stream.specs.Lists.{run, start_of_list, Valid, beat, elements}
use Rattle.pipes_stream.proofs.Messages.{run-push, run-append, run-rises, valid-push, valid-suffix}
use Rattle.pipes_stream.proofs.Messages.{beat-closed, elements-append}
use Rattle.pipes_sweep.specs.Sending.{progress_after}
use Rattle.pipes_timeline.specs.declared.piece.Piece.{Piece}
use Rattle.pipes_timeline.specs.declared.piece.Piece.TheVariants as piece
use Rattle.pipes_timeline.specs.declared.timeline.Timeline.{Timeline}
use Rattle.pipes_stream.specs.Weights.{weigh}
use Rattle.pipes_timeline.specs.Rules.{Row, RowBags, Arrival, KeyRule}
use Rattle.pipes_timeline.specs.Lines.{ends_after, ends_by, starts_early, none_counted}
use Rattle.pipes_timeline.specs.Lines.{unfit}
use Rattle.pipes_timeline.specs.Lines.{no_key}
use Rattle.pipes_timeline.specs.LineMoves.{not-lt}
use Rattle.pipes_timeline.specs.Queues.{InOrder, FirstIsOpen}
use Rattle.pipes_timeline.specs.Reached.{HasComeTo}
use Rattle.pipes_timeline.specs.Timelines.{Runs, reach}
use Rattle.pipes_timeline.specs.Stands.{TimelineStands}
use Rattle.pipes_timeline.proofs.Tabling.{StartsBy, starts-by}
use Rattle.pipes_timeline.proofs.Turns.{order-lower}

-- ---- how far all is sent
reach-above : (high h : ℕ) (ps : List Piece) → high ≤ h → InOrder high ps → high ≤ reach ps h
reach-above high h [] u o = u
reach-above high h (p ∷ ps) u o = o.0

reach-below : (h : ℕ) (ps : List Piece) → StartsBy h ps → reach ps h ≤ h
reach-below h [] s = omega arith
reach-below h (p ∷ ps) s = s.0

order-reach : (high h : ℕ) (ps : List Piece) → InOrder high ps → InOrder (reach ps h) ps
order-reach high h [] o = tt
order-reach high h (p ∷ ps) o = (omega arith, o.1, o.2)

-- ---- after the end nothing lives
none-lives : (h : ℕ) (live : List Arrival) → h ≡ closed
    → weigh (λ (s : Arrival). ends_by h s.1.span) live ≡ 0
    → weigh (λ (s : Arrival). ends_after 1000000000000000 s.1.span) live ≡ 0 → live ≡ []
none-lives h [] end over most = refl
none-lives h (s ∷ live) end over most = absurd (
    let a : h < s.1.span.end = later h s.1.span.end (omega (arith, over)) in
    let b : s.1.span.end ≤ 1000000000000000 =
    not-lt 1000000000000000 s.1.span.end (omega (arith, most)) in
    omega (arith, a, b, end))
  where
    later : (n m : ℕ) → cond {A = ℕ} (nat_lt n m) 0 1 ≡ 0 → n < m
    later n m z = grind (arith, nat_tests)

no-pieces : (r : KeyRule) (h : ℕ) (live taken : List Arrival) (ps : List Piece) → live ≡ []
    → FirstIsOpen ps → weigh (unfit r no_key h live taken) ps ≡ 0 → ps ≡ []
no-pieces r h live taken [] e w z = refl
no-pieces r h live taken (piece.Closed d many ∷ ps) e w z = absurd w
no-pieces r h live taken (piece.Void b ∷ ps) e w z = absurd w
no-pieces r h live taken (piece.Open k b ∷ ps) e w z = absurd (
    let a : none_counted (weigh (starts_early r.key k b) live) ≡ 1 =
    ap (λ (es : List Arrival). none_counted (weigh (starts_early r.key k b) es)) e in
    omega (arith, a, z))

module _ {T R : Type 0} (r : KeyRule) (tells : Row → T → RowBags → Type 0) (t : Timeline T R)
    (h : ℕ) (taken : List Arrival) where
  lower : (low high : ℕ) (sent : List Elem) → low ≤ high → Runs r tells high t.ends t taken sent
      → Runs r tells low t.ends t taken sent
  lower low high sent l g = record {
    line = g.line;
    order = order-lower low high t.pieces.queue.items l g.order;
    upto = (let a = g.upto in omega (arith, a, l));
    linked = g.linked;
    each_key = g.each_key;
  }

  moved : (high at : ℕ) (sent : List Elem) → at ≤ t.instant → InOrder at t.pieces.queue.items
      → Runs r tells high t.ends t taken sent → Runs r tells at t.ends t taken sent
  moved high at sent u o g = record {
    line = g.line;
    order = o;
    upto = u;
    linked = g.linked;
    each_key = g.each_key;
  }

  -- the list with what is sent after the pieces
  pub stands_told : (high before : ℕ) (ended : Bool) (earlier more : List Message)
      → Valid earlier → beat earlier ≡ before → HasComeTo high (earlier ++ more)
      → Runs r tells high t.ends t taken (elements (earlier ++ more)) → t.instant ≡ h
      → weigh (λ (s : Arrival). ends_by h s.1.span) t.ends ≡ 0 → FirstIsOpen t.pieces.queue.items
      → h ≤ closed
      → (ended ≡ true → h ≡ closed)
      → TimelineStands r tells t h ended taken
      ((earlier ++ more) ++ progress_after before (reach t.pieces.queue.items h) ended)
  stands_told high before ended earlier more valid was reaches g now over waits most at_end =
      choose ended (nat_lt before (reach t.pieces.queue.items h)) refl refl
    where
      bounds : (high ≤ reach t.pieces.queue.items h) × (reach t.pieces.queue.items h ≤ h)
      bounds = (
        reach-above high h t.pieces.queue.items (let a = g.upto in omega (arith, a, now)) g.order,
        reach-below h t.pieces.queue.items
            (subst (λ (n : ℕ). StartsBy n t.pieces.queue.items) now
            (starts-by r no_key high t.instant t.ends taken t.pieces.queue.items g.line.fit
            g.order)),
      )

      -- a message that has no element
      same-elements : (m : Message) → elements (m ∷ []) ≡ []
          → elements ((earlier ++ more) ++ m ∷ []) ≡ elements (earlier ++ more)
      same-elements m e =
          elements-append (earlier ++ more) (m ∷ [])
          ∙ ap (λ (es : List Elem). elements (earlier ++ more) ++ es) e
          ∙ append-nil (elements (earlier ++ more))

      runs-at : (m : Message) (at : ℕ) → elements (m ∷ []) ≡ []
          → beat ((earlier ++ more) ++ m ∷ []) ≡ at
          → Runs r tells at t.ends t taken (elements (earlier ++ more))
          → Runs r tells (beat ((earlier ++ more) ++ m ∷ [])) t.ends t taken
          (elements ((earlier ++ more) ++ m ∷ []))
      runs-at m at none is x =
          subst (λ (n : ℕ). Runs r tells n t.ends t taken (elements ((earlier ++ more) ++ m ∷ [])))
          (sym is)
          (subst (λ (es : List Elem). Runs r tells at t.ends t taken es)
          (sym (same-elements m none)) x)

      choose : (b c : Bool) → ended ≡ b → nat_lt before (reach t.pieces.queue.items h) ≡ c
          → TimelineStands r tells t h ended taken ((earlier ++ more)
          ++ cond b (message.End ∷ []) (cond c
          (message.Beat (reach t.pieces.queue.items h) ∷ []) []))
      choose true c e f =
          let sent : List Message = earlier ++ more in
          let end : h ≡ closed = at_end e in
          let live : t.ends ≡ [] = none-lives h t.ends end over g.line.lives.most in
          let empty : t.pieces.queue.items ≡ [] =
          no-pieces r t.instant t.ends taken t.pieces.queue.items live waits g.line.fit in
          let ran = run-push start_of_list sent message.End in
          let b : beat (sent ++ message.End ∷ []) ≡ closed = ap (λ (p : Progress). p.beat) ran in
          record {
            now = now;
            runs = runs-at message.End closed refl b
                (moved high closed (elements sent) (omega (arith, now, end))
                (subst (λ (ps : List Piece). InOrder closed ps) (sym empty) tt) g);
            over = over;
            waits = waits;
            sent_valid = valid-push start_of_list sent message.End reaches.valid reaches.going;
            sent_beat = b ∙ sym (ap (λ (ps : List Piece). reach ps h) empty ∙ end);
            sent_ended = ap (λ (p : Progress). p.ended) ran ∙ sym e;
          }
      choose false true e f =
          let sent : List Message = earlier ++ more in
          let at : ℕ = reach t.pieces.queue.items h in
          let ran = run-push start_of_list sent (message.Beat at) in
          let at_most = reaches.at_most in
          let b : beat (sent ++ message.Beat at ∷ []) ≡ at = ap (λ (p : Progress). p.beat) ran in
          record {
            now = now;
            runs = runs-at (message.Beat at) at refl b
                (moved high at (elements sent) (let a = bounds.1 in omega (arith, a, now))
                (order-reach high h t.pieces.queue.items g.order) g);
            over = over;
            waits = waits;
            sent_valid = valid-push start_of_list sent (message.Beat at) reaches.valid (
              reaches.going,
              (let a = bounds.0 in let x : beat sent ≤ at = omega (arith, a, at_most) in x),
              (let a = bounds.1 in let x : at ≤ closed = omega (arith, a, most) in x),
            );
            sent_beat = b;
            sent_ended = ap (λ (p : Progress). p.ended) ran ∙ reaches.going ∙ sym e;
          }
      choose false false e f =
          let sent : List Message = earlier ++ more in
          let at : ℕ = reach t.pieces.queue.items h in
          let upto : at ≤ before = not-below before at f in
          let at_most = reaches.at_most in
          let rose : beat earlier ≤ beat sent =
          subst (λ (n : ℕ). beat earlier ≤ n)
          (sym (ap (λ (p : Progress). p.beat) (run-append start_of_list earlier more)))
          (run-rises (run start_of_list earlier) more
          (valid-suffix start_of_list earlier more reaches.valid)
          (beat-closed earlier valid)).0 in
          let is : beat sent ≡ at =
          (let a = bounds.0 in omega (arith, a, at_most, upto, rose, was)) in
          subst (λ (ms : List Message). TimelineStands r tells t h ended taken ms)
          (sym (append-nil sent)) (record {
            now = now;
            runs = lower (beat sent) high (elements sent) at_most g;
            over = over;
            waits = waits;
            sent_valid = reaches.valid;
            sent_beat = is;
            sent_ended = reaches.going ∙ sym e;
          })
        where
          not-below : (n m : ℕ) → nat_lt n m ≡ false → m ≤ n
          not-below n m l = grind (arith, nat_tests)
