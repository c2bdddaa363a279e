-- A difference goes on to stand for longer lists.
use Rattle.std.proofs.Common.{◌≡◌, ℕ, zero, suc, ◌+◌, ◌≤◌, ◌<◌, Bool, true, false, cond, eqb}
use Rattle.std.proofs.Common.{nat_lt, ◌&&◌, min, List, [], ◌∷◌, ◌++◌, refl, sym, ◌∙◌, subst}
use Rattle.std.proofs.Common.{ap, arith, append_assoc}
use Rattle.std.specs.List.{All}
use Rattle.std.proofs.lemmas.Bool.Decides.{nat_tests}
use Rattle.std.proofs.lemmas.List.Elements.{All-nil, All-cons, All-append}
use Rattle.pipes_stream.proofs.Following.{arrived-fits}
use Rattle.pipes_stream.proofs.Following.{not_ended}
use Rattle.pipes_time.specs.Interval.{closed}
use Rattle.pipes_tuple.specs.declared.value.Kind.{Kind}
use Rattle.pipes_tuple.specs.Kinds.{Fits}
use Rattle.pipes_stream.specs.declared.Elem.{Elem}
use Rattle.pipes_stream.specs.declared.message.Message.{Message}
use Rattle.pipes_stream.specs.declared.message.Message.TheVariants as message
use Rattle.pipes_stream.specs.Progress.{Progress}
use Rattle.pipes_stream.specs.Lists.{CanFollow, after, run, start_of_list, Valid, beat, elements}
use Rattle.pipes_stream.specs.Lawful.{Lists, Takes, CanTake, MessageFits, with_message, least}
use Rattle.pipes_stream.specs.Lawful.{no_messages}
use Rattle.pipes_stream.proofs.Messages.{run-push, after-rises, valid-push, elements-append}
use Rattle.pipes_stream.proofs.Messages.{beat-closed, beat-ended}
use Rattle.pipes_sweep.specs.Sending.{progress_after}
use Rattle.pipes_stream.specs.Weights.{weigh}
use Rattle.pipes_stream.proofs.Weights.{weigh-append, weigh-where_zero}
use Rattle.pipes_timeline.specs.Rules.{Arrival}
use Rattle.pipes_timeline.specs.Queues.{FirstIsOpen}
use Rattle.pipes_timeline.specs.Timelines.{Sends, reach}
use Rattle.pipes_timeline.specs.Stands.{TimelineStands}
use Rattle.pipes_timeline.proofs.Beginning.{stands_new}
use Rattle.pipes_timeline.proofs.Fed.{fed_start, stands_sent}
use Rattle.pipes_minus.specs.declared.minus.Minus.{Minus}
use Rattle.pipes_minus.specs.Tasks.{minus_task}
use Rattle.pipes_minus.specs.Differences.{minus_rule, MinusTells}
use Rattle.pipes_minus.specs.Feeds.{CountLine, arrives_before, arrives_by, TookIn, FeedsAll}
use Rattle.pipes_minus.specs.Feeds.{WatchSees}
use Rattle.pipes_minus.specs.Feeds.{Waits}
use Rattle.pipes_minus.specs.Minuses.{at_port, MinusStands}

-- ---- the lists

eqb-is : (n m : ℕ) → eqb n m ≡ true → n ≡ m
eqb-is n m e = grind (arith, nat_tests)

eqb-back : (n m : ℕ) → eqb n m ≡ eqb m n
eqb-back n m = grind (arith, nat_tests)

-- of the lists with one message more, by port
each-list : (P : ℕ → List Message → Type 0) (taken : Lists) (port : ℕ) (m : Message)
    → P port (taken port ++ m ∷ []) → ((q : ℕ) → P q (taken q)) → (q : ℕ)
    → P q (with_message taken port m q)
each-list P taken port m own others q = pick (eqb q port) refl
  where
    pick : (b : Bool) → eqb q port ≡ b → P q (cond b (taken q ++ m ∷ []) (taken q))
    pick true e = subst (λ (i : ℕ). P i (taken i ++ m ∷ [])) (sym (eqb-is q port e)) own
    pick false e = others q

-- what waits, with the message's element
waits-weight : (port : ℕ) (m : Message) (old new : List Arrival) (g : Arrival → ℕ)
    → Waits port m old new
    → weigh g new ≡ weigh (λ (e : Elem). g (port, e)) (elements (m ∷ [])) + weigh g old
waits-weight port (message.Elem e) old new g w = omega (arith, w.weight g)
waits-weight port (message.Beat at) old new g w = omega (arith, ap (weigh g) w)
waits-weight port message.End old new g w = omega (arith, ap (weigh g) w)

-- an element that may follow starts no earlier than the heartbeat
start-late : (p : Progress) (m : Message) (n : ℕ) → CanFollow p m → n ≤ p.beat
    → weigh (λ (e : Elem). cond (nat_lt e.span.start n) 1 0) (elements (m ∷ [])) ≡ 0
start-late p (message.Elem e) n w h =
    let a : p.beat ≤ e.span.start = w.1 in
    let b = late e.span.start n (omega (arith, a, h)) in omega (arith, b)
  where
    late : (a n : ℕ) → n ≤ a → cond {A = ℕ} (nat_lt a n) 1 0 ≡ 0
    late a n l = grind (arith, nat_tests)
start-late p (message.Beat at) n w h = refl
start-late p message.End n w h = refl

by-before : (h : ℕ) (s : Arrival) → arrives_by h s ≡ 0 → arrives_before h s ≡ 0
by-before h s z = grind (arith, nat_tests)

module _ (old new : Minus) (port : ℕ) (m : Message) (taken : Lists) (earlier : List Message)
    (s : MinusStands old taken earlier) (low : port < 2)
    (can : CanTake (minus_task old.schema) taken port m)
    (sees : WatchSees port m old.left old.right new.left new.right)
    (waits : List Arrival) (puts : Waits port m old.waits waits)
    (line : CountLine) (fed : FeedsAll old.line line waits new.waits
    (min new.left.beat new.right.beat))
    (schema : new.schema ≡ old.schema) (failed : new.failed ≡ old.failed) where
  abbrev now : Lists
  now = with_message taken port m

  watches : (new.left ≡ run start_of_list (now 0)) × (new.right ≡ run start_of_list (now 1))
  watches = by port low sees can.follows
    where
      by : (q : ℕ) → q < 2 → WatchSees q m old.left old.right new.left new.right
          → CanFollow (run start_of_list (taken q)) m
          → (new.left ≡ run start_of_list (with_message taken q m 0))
          × (new.right ≡ run start_of_list (with_message taken q m 1))
      by zero l w f = (
        w.0 (subst (λ (p : Progress). CanFollow p m) (sym s.left_is) f)
            ∙ ap (λ (p : Progress). after p m) s.left_is ∙ sym (run-push start_of_list (taken 0) m),
        w.1 ∙ s.right_is,
      )
      by (suc zero) l w f = (
        w.0 ∙ s.left_is,
        w.1 (subst (λ (p : Progress). CanFollow p m) (sym s.right_is) f)
            ∙ ap (λ (p : Progress). after p m) s.right_is ∙ sym
            (run-push start_of_list (taken 1) m),
      )
      by (suc (suc q)) l w f = absurd (omega (arith, l))

  valid : (q : ℕ) → q < 2 → Valid (now q)
  valid = each-list (λ (q : ℕ) (ms : List Message). q < 2 → Valid ms) taken port m
      (λ l. valid-push start_of_list (taken port) m (s.taken_valid port l) can.follows)
      s.taken_valid

  fits : (q : ℕ) → q < 2 → All (λ e. Fits e.tuple new.schema) (elements (now q))
  fits = each-list
      (λ (q : ℕ) (ms : List Message). q < 2 → All (λ e. Fits e.tuple new.schema) (elements ms))
      taken port m
      (λ l. subst (λ (k : List Kind). All (λ e. Fits e.tuple k) (elements (taken port ++ m ∷ [])))
      (sym schema)
      (subst (λ (es : List Elem). All (λ e. Fits e.tuple old.schema) es)
      (sym (elements-append (taken port) (m ∷ [])))
      (All-append (λ (e : Elem). Fits e.tuple old.schema) (elements (taken port))
      (elements (m ∷ [])) (s.taken_fits port l) (arrived-fits m old.schema can.fits))))
      (λ q l. subst (λ (k : List Kind). All (λ e. Fits e.tuple k) (elements (taken q))) (sym schema)
      (s.taken_fits q l))

  beats : (beat (now 0) ≤ closed) × (beat (now 1) ≤ closed)
  beats = (beat-closed (now 0) (valid 0 (omega arith)), beat-closed (now 1) (valid 1 (omega arith)))

  least-is : least 2 now ≡ min new.left.beat new.right.beat
  least-is =
      let a : new.left.beat ≡ beat (now 0) = ap (λ (p : Progress). p.beat) watches.0 in
      let b : new.right.beat ≡ beat (now 1) = ap (λ (p : Progress). p.beat) watches.1 in
      let c = beats.0 in
      let d = beats.1 in
      omega (arith, a, b, c, d)

  rises : (q : ℕ) → beat (taken q) ≤ beat (now q)
  rises q = by (eqb q port) refl
    where
      by : (b : Bool) → eqb q port ≡ b
          → beat (taken q) ≤ beat (cond b (taken q ++ m ∷ []) (taken q))
      by true e =
          let f : CanFollow (run start_of_list (taken q)) m =
          subst (λ (i : ℕ). CanFollow (run start_of_list (taken i)) m) (sym (eqb-is q port e))
          can.follows in
          let v : Valid (taken q) = s.taken_valid q
          (subst (λ (i : ℕ). i < 2) (sym (eqb-is q port e)) low) in
          let a = after-rises (run start_of_list (taken q)) m f (beat-closed (taken q) v) in
          subst (λ (n : ℕ). beat (taken q) ≤ n)
          (sym (ap (λ (p : Progress). p.beat) (run-push start_of_list (taken q) m))) a.0
      by false e = omega arith

  least-rises : least 2 taken ≤ least 2 now
  least-rises = let a = rises 0 in let b = rises 1 in omega (arith, a, b)

  -- what waits then starts no earlier than the least heartbeat was
  waits-late : weigh (arrives_before (least 2 taken)) waits ≡ 0
  waits-late =
      let a = waits-weight port m old.waits waits (arrives_before (least 2 taken)) puts in
      let b = weigh-where_zero (arrives_by (least 2 taken)) (arrives_before (least 2 taken))
      (λ s z. by-before (least 2 taken) s z) old.waits s.later in
      let c = start-late (run start_of_list (taken port)) m (least 2 taken) can.follows
      (least-below port low) in
      omega (arith, a, b, c)
    where
      least-below : (q : ℕ) → q < 2 → least 2 taken ≤ beat (taken q)
      least-below zero l = omega arith
      least-below (suc zero) l = omega arith
      least-below (suc (suc q)) l = absurd (omega (arith, l))

  was-going : (old.left.ended && old.right.ended) ≡ false
  was-going = by port low can.follows
    where
      and-false : (b : Bool) → (b && false) ≡ false
      and-false true = refl
      and-false false = refl

      by : (q : ℕ) → q < 2 → CanFollow (run start_of_list (taken q)) m
          → (old.left.ended && old.right.ended) ≡ false
      by zero l f =
          let a : old.left.ended ≡ false =
          ap (λ (p : Progress). p.ended) s.left_is ∙ not_ended (run start_of_list (taken 0)) m f in
          ap (λ (b : Bool). b && old.right.ended) a
      by (suc zero) l f =
          let a : old.right.ended ≡ false =
          ap (λ (p : Progress). p.ended) s.right_is ∙ not_ended (run start_of_list (taken 1)) m f in
          ap (λ (b : Bool). old.left.ended && b) a ∙ and-false old.left.ended
      by (suc (suc q)) l f = absurd (omega (arith, l))

  at-end : (new.left.ended && new.right.ended) ≡ true → least 2 now ≡ closed
  at-end e =
      let both = parts new.left.ended new.right.ended e in
      let a = beat-ended (now 0) (valid 0 (omega arith))
      (sym (ap (λ (p : Progress). p.ended) watches.0) ∙ both.0) in
      let b = beat-ended (now 1) (valid 1 (omega arith))
      (sym (ap (λ (p : Progress). p.ended) watches.1) ∙ both.1) in
      omega (arith, a, b)
    where
      parts : (b c : Bool) → (b && c) ≡ true → (b ≡ true) × (c ≡ true)
      parts true c h = (refl, h)
      parts false c h = absurd cc

  took : TookIn old.line line waits new.waits (least 2 now) (beat earlier) (least 2 taken)
      (least 2 now)
      s.fed (elements earlier)
  took =
      let f = fed_start minus_rule MinusTells old.line (least 2 taken)
      (old.left.ended && old.right.ended) s.fed earlier s.line in
      let all : FeedsAll old.line line waits new.waits (least 2 now) =
      subst (λ (n : ℕ). FeedsAll old.line line waits new.waits n) (sym least-is) fed in
      all.good (beat earlier) (least 2 taken) s.fed (elements earlier) least-rises f waits-late

  split : (q : ℕ) (f : Elem → ℕ) → q < 2 → weigh f (elements (now q))
      ≡ weigh (at_port q f) (s.fed ++ took.more) + weigh (at_port q f) new.waits
  split q f l =
      let a = s.split q f l in
      let b = weigh-append (at_port q f) s.fed took.more in
      let c = took.split (at_port q f) in
      let d = waits-weight port m old.waits waits (at_port q f) puts in
      let e = list-weight (eqb q port) refl in
      omega (arith, a, b, c, d, e)
    where
      new-elems : (b : Bool) → eqb port q ≡ b
          → weigh (λ (e : Elem). at_port q f (port, e)) (elements (m ∷ []))
          ≡ cond b (weigh f (elements (m ∷ []))) 0
      new-elems b e = by m
        where
          by : (x : Message) → weigh (λ (e : Elem). cond (eqb port q) (f e) 0) (elements (x ∷ []))
              ≡ cond b (weigh f (elements (x ∷ []))) 0
          by (message.Elem d) = ap (λ (c : Bool). cond {A = ℕ} c (f d) 0 + 0) e ∙ one b (f d)
            where
              one : (c : Bool) (n : ℕ) → cond {A = ℕ} c n 0 + 0 ≡ cond c (n + 0) 0
              one true n = refl
              one false n = refl
          by (message.Beat at) = zeros b
            where
              zeros : (c : Bool) → 0 ≡ cond {A = ℕ} c 0 0
              zeros true = refl
              zeros false = refl
          by message.End = zeros b
            where
              zeros : (c : Bool) → 0 ≡ cond {A = ℕ} c 0 0
              zeros true = refl
              zeros false = refl

      list-weight : (b : Bool) → eqb q port ≡ b
          → weigh f (elements (now q)) ≡ weigh f (elements (taken q))
          + weigh (λ (e : Elem). at_port q f (port, e)) (elements (m ∷ []))
      list-weight true e =
          let x : now q ≡ taken q ++ m ∷ [] =
          ap (λ (b : Bool). cond b (taken q ++ m ∷ []) (taken q)) e in
          let y : weigh f (elements (now q)) ≡ weigh f (elements (taken q) ++ elements (m ∷ [])) =
          ap (λ (ms : List Message). weigh f (elements ms)) x
          ∙ ap (λ (es : List Elem). weigh f es) (elements-append (taken q) (m ∷ [])) in
          let z = weigh-append f (elements (taken q)) (elements (m ∷ [])) in
          let w = new-elems true (eqb-back port q ∙ e) in
          omega (arith, y, z, w)
      list-weight false e =
          let x : now q ≡ taken q = ap (λ (b : Bool). cond b (taken q ++ m ∷ []) (taken q)) e in
          let y : weigh f (elements (now q)) ≡ weigh f (elements (taken q)) =
          ap (λ (ms : List Message). weigh f (elements ms)) x in
          let w = new-elems false (eqb-back port q ∙ e) in
          omega (arith, y, w)

  ports : weigh (λ (d : Arrival). cond (nat_lt d.0 2) 0 1) (s.fed ++ took.more)
      + weigh (λ (d : Arrival). cond (nat_lt d.0 2) 0 1) new.waits ≡ 0
  ports =
      let g : Arrival → ℕ = λ d. cond (nat_lt d.0 2) 0 1 in
      let a = s.ports in
      let b = weigh-append g s.fed took.more in
      let c = took.split g in
      let d = waits-weight port m old.waits waits g puts in
      let e : weigh (λ (e : Elem). cond {A = ℕ} (nat_lt port 2) 0 1) (elements (m ∷ [])) ≡ 0 =
      by m in
      omega (arith, a, b, c, d, e)
    where
      in-range : cond {A = ℕ} (nat_lt port 2) 0 1 ≡ 0
      in-range = below port low
        where
          below : (q : ℕ) → q < 2 → cond {A = ℕ} (nat_lt q 2) 0 1 ≡ 0
          below q l = grind (arith, nat_tests)

      by : (x : Message) → weigh (λ (e : Elem). cond {A = ℕ} (nat_lt port 2) 0 1)
          (elements (x ∷ [])) ≡ 0
      by (message.Elem e) = omega (arith, in-range)
      by (message.Beat at) = refl
      by message.End = refl

  module _ (sends_to : List Message) (out : List Message) (sends : Sends minus_rule MinusTells line
      new.line out sends_to)
      (opens : FirstIsOpen new.line.pieces.queue.items) where
    pub stands_next : MinusStands new now
        (earlier ++ (sends.more ++ progress_after (reach old.line.pieces.queue.items
        old.line.instant)
        (reach new.line.pieces.queue.items new.line.instant) (new.left.ended && new.right.ended)))
    stands_next =
        let before : beat earlier ≡ reach old.line.pieces.queue.items old.line.instant =
        s.line.sent_beat ∙ ap (λ (n : ℕ). reach old.line.pieces.queue.items n) (sym s.line.now) in
        let below : least 2 now ≤ closed = (let a = beats.0 in omega (arith, a)) in
        let t = stands_sent minus_rule MinusTells line new.line (least 2 now)
        (reach old.line.pieces.queue.items old.line.instant) (new.left.ended && new.right.ended)
        (s.fed ++ took.more) earlier out sends_to s.line.sent_valid
        (s.line.sent_ended ∙ was-going) before took.line sends opens below at-end in
        record {
          going = failed ∙ s.going;
          taken_valid = valid;
          taken_fits = fits;
          left_is = watches.0;
          right_is = watches.1;
          fed = s.fed ++ took.more;
          split = split;
          ports = ports;
          later = subst (λ (n : ℕ). weigh (arrives_by n) new.waits ≡ 0) (sym least-is) fed.later;
          line = subst (λ (n : ℕ). TimelineStands minus_rule MinusTells new.line (least 2 now)
              (new.left.ended && new.right.ended) (s.fed ++ took.more)
              (earlier ++ (sends.more ++ progress_after
              (reach old.line.pieces.queue.items old.line.instant)
              (reach new.line.pieces.queue.items n) (new.left.ended && new.right.ended))))
              (sym t.now) t;
        }

pub minus_takes : (old watched waited new : Minus) (port : ℕ) (m : Message) (h before at : ℕ)
    (ended : Bool) (line : CountLine) (out between now : List Message) → port < 2
    → WatchSees port m old.left old.right watched.left watched.right
    → watched.waits ≡ old.waits → watched.line ≡ old.line
    → Waits port m watched.waits waited.waits → waited.left ≡ watched.left
    → waited.right ≡ watched.right → waited.line ≡ watched.line
    → h ≡ min waited.left.beat waited.right.beat
    → FeedsAll waited.line line waited.waits new.waits h
    → new.left ≡ waited.left → new.right ≡ waited.right
    → Sends minus_rule MinusTells line new.line out between
    → FirstIsOpen new.line.pieces.queue.items
    → before ≡ reach old.line.pieces.queue.items old.line.instant
    → at ≡ reach new.line.pieces.queue.items new.line.instant
    → ended ≡ (new.left.ended && new.right.ended) → now ≡ between ++ progress_after before at ended
    → new.schema ≡ old.schema → new.failed ≡ old.failed
    → Takes (minus_task old.schema) (MinusStands old) (MinusStands new) port m out now
minus_takes old watched waited new port m h before at ended line out between last low sees
    same_waits
    same_line puts left right line_is h_is fed new_left new_right sends opens before_is at_is
    ended_is
    appended schema failed =
    let saw : WatchSees port m old.left old.right new.left new.right =
    subst (λ (p : Progress). WatchSees port m old.left old.right p new.right)
    (sym (new_left ∙ left))
    (subst (λ (p : Progress). WatchSees port m old.left old.right watched.left p)
    (sym (new_right ∙ right)) sees) in
    let put : Waits port m old.waits waited.waits =
    subst (λ (es : List Arrival). Waits port m es waited.waits) same_waits puts in
    let beats : h ≡ min new.left.beat new.right.beat =
    h_is ∙ ap (λ (p : Progress). min p.beat waited.right.beat) (sym new_left)
    ∙ ap (λ (p : Progress). min new.left.beat p.beat) (sym new_right) in
    let feeds : FeedsAll old.line line waited.waits new.waits (min new.left.beat new.right.beat) =
    subst (λ (n : ℕ). FeedsAll old.line line waited.waits new.waits n) beats
    (subst (λ (l : CountLine). FeedsAll l line waited.waits new.waits h) (line_is ∙ same_line)
    fed) in
    let beats : List Message = progress_after before at ended in
    let is : beats ≡ progress_after (reach old.line.pieces.queue.items old.line.instant)
    (reach new.line.pieces.queue.items new.line.instant) (new.left.ended && new.right.ended) =
    ap (λ (n : ℕ). progress_after n at ended) before_is
    ∙ ap (λ (n : ℕ). progress_after (reach old.line.pieces.queue.items old.line.instant) n ended)
    at_is
    ∙ ap (λ (b : Bool). progress_after (reach old.line.pieces.queue.items old.line.instant)
    (reach new.line.pieces.queue.items new.line.instant) b) ended_is in
    record {
      sent = sends.more ++ beats;
      appended = appended ∙ ap (λ (ms : List Message). ms ++ beats) sends.appended
          ∙ append_assoc out sends.more beats;
      stands = λ taken earlier s can.
          subst (λ (ms : List Message). MinusStands new (with_message taken port m)
          (earlier ++ (sends.more ++ ms))) (sym is)
          (stands_next old new port m taken earlier s low can saw waited.waits put line feeds schema
          failed between out sends opens);
    }

-- nothing has come
pub minus_new : (m : Minus) → m.failed ≡ false → m.left ≡ start_of_list → m.right ≡ start_of_list
    → m.waits ≡ [] → m.line.instant ≡ 0 → m.line.slots.entries ≡ []
    → m.line.pieces.queue.items ≡ [] → m.line.ends ≡ [] → MinusStands m no_messages []
minus_new m going left right waits now slots pieces ends =
    let none : (f : Arrival → ℕ) → weigh f m.waits ≡ 0 =
    λ f. ap (λ (es : List Arrival). weigh f es) waits in
    let zero_is : least 2 no_messages ≡ 0 = omega arith in
    let ended : (m.left.ended && m.right.ended) ≡ false =
    ap (λ (p : Progress). p.ended && m.right.ended) left in
    record {
      going = going;
      taken_valid = λ port low. tt;
      taken_fits = λ port low. All-nil (λ (e : Elem). Fits e.tuple m.schema);
      left_is = left;
      right_is = right;
      fed = [];
      split = λ port f low. (let a = none (at_port port f) in omega (arith, a));
      ports = (let a = none (λ (s : Arrival). cond (nat_lt s.0 2) 0 1) in omega (arith, a));
      later = none (arrives_by (least 2 no_messages));
      line = subst (λ (n : ℕ). TimelineStands minus_rule MinusTells m.line n
          (m.left.ended && m.right.ended) [] []) (sym zero_is)
          (subst (λ (b : Bool). TimelineStands minus_rule MinusTells m.line 0 b [] []) (sym ended)
          (stands_new minus_rule MinusTells m.line now slots pieces ends));
    }
