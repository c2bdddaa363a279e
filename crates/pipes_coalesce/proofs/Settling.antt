-- The end of a call: all that can go was sent, and then how far that is.
use Rattle.std.proofs.Common.{◌≡◌, ◌≢◌, ℕ, suc, ◌+◌, ◌≤◌, ◌<◌, max, min, Bool, true, false, cond}
use Rattle.std.proofs.Common.{nat_lt, ◌&&◌, List, [], ◌∷◌, ◌++◌, refl, sym, ap, ◌∙◌, subst, arith}
use Rattle.std.proofs.Common.{inl, inr, ◌⊎◌, append-nil, append_assoc}
use Rattle.std.proofs.lemmas.Bool.{cases_lt, false≢true, leb-false}
use Rattle.std.proofs.lemmas.Bool.{and_parts}
use Rattle.pipes_stream.proofs.Following.{not_ended}
use Rattle.pipes_time.specs.Interval.{closed, horizon, IsInterval}
use Rattle.pipes_stream.specs.declared.Elem.{Elem}
use Rattle.pipes_stream.specs.declared.message.Message.{Message}
use Rattle.pipes_stream.specs.declared.message.Message.TheVariants as message
use Rattle.pipes_stream.specs.Progress.{Progress}
use Rattle.pipes_stream.specs.Lists.{CanFollow, after, run, start_of_list, ValidFrom, Valid, beat}
use Rattle.pipes_stream.specs.Lists.{elements, HasEnded}
use Rattle.pipes_stream.proofs.Messages.{run-append, run-rises, valid-append, valid-suffix}
use Rattle.pipes_stream.proofs.Messages.{valid-prefix, elements-append, beat-closed, beat-ended}
use Rattle.pipes_stream.specs.Weights.{weigh}
use Rattle.pipes_coalesce.specs.Tests.{starts_above, starts_by, ends_elsewhere, is_no_interval}
use Rattle.pipes_coalesce.specs.Filed.{StartsLater}
use Rattle.pipes_coalesce.specs.Stands.{ElemsRiseFrom, count_of, lone_from, now_of, Parts, Flows}
use Rattle.pipes_coalesce.specs.Stands.{IsSettled, CoalesceStands, Stays, Moves, SameBut, IsBlocked}
use Rattle.pipes_coalesce.specs.Stands.{Releases, tell, SendsDue}
use Rattle.pipes_coalesce.specs.Stands.{EndsBy, StartsFromSplit, AdmitsOld, AdmitsFresh, TakesOld}
use Rattle.pipes_coalesce.specs.Stands.{TakesFresh, HandsOver, SideAdmits, SideTakes}
use Rattle.pipes_coalesce.specs.declared.merge.Coalesce.{Coalesce}
use Rattle.pipes_coalesce.specs.declared.merge.Side.{Side}
use Rattle.pipes_coalesce.specs.declared.merge.Side.TheVariants as side
use Rattle.pipes_coalesce.proofs.Touching.{not-le, else-zero, interval-zero}
use Rattle.pipes_coalesce.proofs.Steps.{rises-below, sent-low}
use Rattle.pipes_coalesce.proofs.Moving.{moves-then, stays-then}
use Rattle.pipes_coalesce.proofs.Sending.{some-lone}

-- ---- how far what was sent is
later-from : (n b : ℕ) (es : List Elem) → StartsLater n es → ElemsRiseFrom b es → ElemsRiseFrom n es
later-from n b [] h r = tt
later-from n b (e ∷ es) h r = (omega (arith, h), r.1, r.2)

none-by : (n b : ℕ) (es : List Elem) → n < b → ElemsRiseFrom b es → weigh (starts_by n) es ≡ 0
none-by n b [] h r = refl
none-by n b (e ∷ es) h r =
    omega (
      arith,
      not-le e.span.start n (omega (arith, h, r.0)),
      none-by n e.span.start es (omega (arith, h, r.0)) r.2,
    )

later-none : (n b : ℕ) (es : List Elem) → StartsLater n es → ElemsRiseFrom b es
    → weigh (starts_by n) es ≡ 0
later-none n b [] h r = refl
later-none n b (e ∷ es) h r =
    omega (arith, not-le e.span.start n h, none-by n e.span.start es h r.2)

olds-from : (n s : ℕ) (lone olds : List Elem) → (lone ≡ [] → olds ≡ [])
    → (0 < count_of lone → (n ≤ s) × ElemsRiseFrom s olds) → ElemsRiseFrom n olds
olds-from n s [] olds none low = rw (none refl) tt
olds-from n s (x ∷ xs) olds none low = let l = low (omega arith) in rises-below n s olds l.0 l.1

level-rises : (t ob fb b s : ℕ) (olds lone partners later os fs ss : List Elem)
    → Parts t ob fb b s olds lone partners later os fs ss → (n : ℕ) → b ≤ n → n ≤ ob
    → n ≤ max t fb → (0 < count_of lone → n ≤ s) → (lone ≡ [] → olds ≡ [])
    → (0 < count_of partners → n ≤ t) → StartsLater n later
    → Parts t ob fb n s olds lone partners later os fs ss
level-rises t ob fb b s olds lone partners later os fs ss p n h k l low none single late = record {
  old_beat = k;
  fresh_beat = l;
  olds_rise = olds-from n s lone olds none (λ q. (low q, (p.lone_low q).3));
  olds_low = p.olds_low;
  olds_end = p.olds_end;
  lone_at = p.lone_at;
  lone_end = p.lone_end;
  lone_are = p.lone_are;
  lone_low = λ q. let w = p.lone_low q in (low q, w.1, w.2, w.3);
  partners_at = p.partners_at;
  partners_low = single;
  partners_are = p.partners_are;
  later_rise = later-from n b later late p.later_rise;
  later_high = p.later_high;
  later_low = p.later_low;
  sent_low = sent-low b n ss h p.sent_low;
  early = p.early;
  apart = p.apart;
  bags = p.bags;
}

-- the heartbeat is no lower than what was sent
lone-start : (lone : List Elem) (s n : ℕ) → n ≤ lone_from lone s → 0 < count_of lone → n ≤ s
lone-start [] s n h q = absurd (omega (arith, q))
lone-start (x ∷ xs) s n h q = h

parts-now : (c : Coalesce) (w os fs ss : List Elem) (b : ℕ) → c.old_watch.beat ≤ closed
    → Parts c.split c.old_watch.beat c.fresh_watch.beat b c.lone_start w c.lone c.partners c.later
    os fs ss → b ≤ now_of c
parts-now c w os fs ss b h p =
    omega (arith, p.old_beat, p.fresh_beat, low (some-lone c.lone c.lone_start))
  where
    low : (c.lone ≡ []) ⊎ ((0 < count_of c.lone) × (lone_from c.lone c.lone_start ≡ c.lone_start))
        → b ≤ lone_from c.lone c.lone_start
    low (inl none) =
        let q : lone_from c.lone c.lone_start ≡ closed =
        ap (λ (es : List Elem). lone_from es c.lone_start) none in
        omega (arith, q, p.old_beat, h)
    low (inr some) = omega (arith, (p.lone_low some.0).0, some.1)

old-closed : (c : Coalesce) (w : List Elem) (olds fresh sent : List Message)
    → Flows c w olds fresh sent → c.old_watch.beat ≤ closed
old-closed c w olds fresh sent f =
    let q = ap (λ (p : Progress). p.beat) f.old_watch in
    omega (arith, q, beat-closed olds f.old_valid)

pub flows-now : (c : Coalesce) (w : List Elem) (olds fresh sent : List Message)
    → Flows c w olds fresh sent → beat sent ≤ now_of c
flows-now c w olds fresh sent f =
    parts-now c w (elements olds) (elements fresh) (elements sent) (beat sent)
    (old-closed c w olds fresh sent f) f.parts

-- ---- a longer list is no less far
pub beat-grows : (xs ys : List Message) → Valid (xs ++ ys) → beat xs ≤ beat (xs ++ ys)
beat-grows xs ys v =
    let r = ap (λ (p : Progress). p.beat) (run-append start_of_list xs ys) in
    let a = run-rises (run start_of_list xs) ys (valid-suffix start_of_list xs ys v)
    (beat-closed xs (valid-prefix start_of_list xs ys v)) in
    omega (arith, r, a.0)

-- ---- the message after the elements
record Tells (p : Progress) (now : ℕ) (over : Bool) (ms : List Message) : Type 0 where
  valid : ValidFrom p ms
  beat : (run p ms).beat ≡ now
  ended : (run p ms).ended ≡ over
  none : elements ms ≡ []

tells-late : (r : Bool) (p : Progress) (beat_sent now : ℕ) → nat_lt beat_sent now ≡ r
    → p.ended ≡ false
    → beat_sent ≤ p.beat → p.beat ≤ now → now ≤ closed
    → Tells p now false (cond r (message.Beat now ∷ []) [])
tells-late true p beat_sent now h o q r s =
    record { valid = ((o, r, s), tt); beat = refl; ended = o; none = refl }
tells-late false p beat_sent now h o q r s =
    let k : now < suc beat_sent = leb-false (suc beat_sent) now h in
    record { valid = tt; beat = omega (arith, k, q, r); ended = o; none = refl }

tells : (ended : Bool) (p : Progress) (beat_sent now : ℕ) → p.ended ≡ false → beat_sent ≤ p.beat
    → p.beat ≤ now → now ≤ closed → (ended ≡ true → now ≡ closed)
    → Tells p now ended (tell beat_sent now ended)
tells true p beat_sent now o q r s e =
    record { valid = (o, tt); beat = sym (e refl); ended = refl; none = refl }
tells false p beat_sent now o q r s e = tells-late (nat_lt beat_sent now) p beat_sent now refl o q r
    s

-- no old element waits for a partner at the end of time
pub none-there : (t : ℕ) (es : List Elem) → closed ≤ t → weigh (ends_elsewhere t) es ≡ 0
    → weigh is_no_interval es ≡ 0 → es ≡ []
none-there t [] h z w = refl
none-there t (e ∷ es) h z w =
    let end : e.span.end ≡ t = else-zero e.span.end t (omega (arith, z)) in
    let i = interval-zero e.span.start e.span.end (omega (arith, w)) in
    absurd (omega (arith, end, i.1, h))

at-end : (c : Coalesce) (olds fresh sent : List Message) → Flows c c.olds olds fresh sent
    → (c.split < c.fresh_watch.beat → c.lone ≡ [])
    → (c.old_watch.ended && c.fresh_watch.ended) ≡ true → now_of c ≡ closed
at-end c olds fresh sent f opened h =
    let both = and_parts c.old_watch.ended c.fresh_watch.ended h in
    let o : c.old_watch.beat ≡ closed = ap (λ (p : Progress). p.beat) f.old_watch
    ∙ beat-ended olds f.old_valid (sym (ap (λ (p : Progress). p.ended) f.old_watch) ∙ both.0) in
    let g : c.fresh_watch.beat ≡ closed = ap (λ (p : Progress). p.beat) f.fresh_watch
    ∙ beat-ended fresh f.fresh_valid (sym (ap (λ (p : Progress). p.ended) f.fresh_watch)
    ∙ both.1) in
    let none : c.lone ≡ [] = by (cases_lt c.split closed) g in
    let q : lone_from c.lone c.lone_start ≡ closed =
    ap (λ (es : List Elem). lone_from es c.lone_start) none in
    omega (arith, o, g, q)
  where
    by : (c.split < closed) ⊎ (closed ≤ c.split) → c.fresh_watch.beat ≡ closed → c.lone ≡ []
    by (inl k) g = opened (omega (arith, k, g))
    by (inr k) g = none-there c.split c.lone k f.parts.lone_end f.parts.lone_are

-- what holds once all that can go was sent
pub record AllSent (d : Coalesce) (at : ℕ) : Type 0 where
  pub now : at ≡ now_of d
  pub opened : d.split < d.fresh_watch.beat → d.lone ≡ []
  pub blocked : IsBlocked d
  pub partners_gone : d.split ≤ at → d.partners ≡ []
  pub late : StartsLater at d.later

partners-wait : (t at : ℕ) (partners : List Elem) → (t ≤ at → partners ≡ []) → 0 < count_of partners
    → at ≤ t
partners-wait t at partners gone q = by (cases_lt at t)
  where
    by : (at < t) ⊎ (t ≤ at) → at ≤ t
    by (inl h) = omega (arith, h)
    by (inr h) = let z : count_of partners ≡ 0 = ap count_of (gone h) in absurd
        (omega (arith, z, q))

pub sent-stands : (d : Coalesce) (at beat_sent : ℕ) (olds fresh sent : List Message)
    → Flows d d.olds olds fresh sent → AllSent d at → beat_sent ≤ beat sent → beat sent ≤ at
    → CoalesceStands d olds fresh (sent ++ tell beat_sent at
    (d.old_watch.ended && d.fresh_watch.ended))
sent-stands d at beat_sent olds fresh sent f a h k =
    let over : Bool = d.old_watch.ended && d.fresh_watch.ended in
    let more : List Message = tell beat_sent at over in
    let u : Progress = run start_of_list sent in
    let oc = old-closed d d.olds olds fresh sent f in
    let ts = tells over u beat_sent at f.unended h k (omega (arith, a.now, oc))
    (λ q. a.now ∙ at-end d olds fresh sent f a.opened q) in
    let run-is = run-append start_of_list sent more in
    let there : beat (sent ++ more) ≡ at = ap (λ (p : Progress). p.beat) run-is ∙ ts.beat in
    let elems : elements (sent ++ more) ≡ elements sent =
    elements-append sent more ∙ ap (λ (es : List Elem). elements sent ++ es) ts.none
    ∙ append-nil (elements sent) in
    let p = level-rises d.split d.old_watch.beat d.fresh_watch.beat
    (beat sent) d.lone_start d.olds d.lone d.partners d.later (elements olds) (elements fresh)
    (elements sent) f.parts at k (omega (arith, a.now)) (omega (arith, a.now))
    (lone-start d.lone d.lone_start at (omega (arith, a.now))) a.blocked.passed
    (partners-wait d.split at d.partners a.partners_gone) a.late in
    record {
      going = f.going;
      old_valid = f.old_valid;
      fresh_valid = f.fresh_valid;
      old_watch = f.old_watch;
      fresh_watch = f.fresh_watch;
      old_low = f.old_low;
      fresh_high = f.fresh_high;
      sent_valid = valid-append start_of_list sent more f.sent_valid ts.valid;
      sent_beat = there ∙ a.now;
      sent_ended = ap (λ (p : Progress). p.ended) run-is ∙ ts.ended;
      parts = rw (there, elems) p;
      settled = record {
        opened = a.opened;
        blocked = a.blocked;
        partners_gone = λ q. a.partners_gone (omega (arith, q, a.now));
        later_gone = subst (λ (n : ℕ). weigh (starts_by n) d.later ≡ 0) a.now
            (later-none at (beat sent) d.later a.late f.parts.later_rise);
      };
    }

-- ---- the steps of the end one after another
pub settles : (c e f g d : Coalesce) (at beat_sent : ℕ) (before b1 b2 b3 b4 now : List Message)
    → Moves c e c.olds e.olds before b1
    → (c.split < c.fresh_watch.beat → e.lone ≡ []) → Moves e f e.olds f.olds b1 b2 → IsBlocked f
    → at ≡ now_of f → Releases f g at b2 b3
    → (f.split ≤ at → g.partners ≡ []) → Releases g d at b3 b4 → d.partners ≡ g.partners
    → StartsLater at d.later
    → now ≡ b4 ++ tell beat_sent at (d.old_watch.ended && d.fresh_watch.ended)
    → SendsDue c d beat_sent before now
settles c e f g d at beat_sent before b1 b2 b3 b4 now m1 gone m2 blocked is r3 g3 r4 p4 late out =
    let all = moves-then c e d c.olds e.olds d.olds before b1 b4 m1
    (moves-then e f d e.olds f.olds d.olds b1 b2 b4 m2
    (moves-then f g d f.olds g.olds d.olds b2 b3 b4 r3.moves r4.moves)) in
    let over : Bool = d.old_watch.ended && d.fresh_watch.ended in
    let lone : d.lone ≡ f.lone = r4.lone ∙ r3.lone in
    let start : d.lone_start ≡ f.lone_start = r4.lone_start ∙ r3.lone_start in
    let olds : d.olds ≡ f.olds = r4.olds ∙ r3.olds in
    let y = stays-then f g d r3.moves.stays r4.moves.stays in
    let z = stays-then c e f m1.stays m2.stays in
    let sent-all : AllSent d at = record {
      now = rw (y.old_watch, y.fresh_watch, y.split, lone, start) is;
      opened = λ h.
          let low : c.split < c.fresh_watch.beat =
          let q1 = y.split ∙ z.split in
          let q2 = ap (λ (p : Progress). p.beat) (y.fresh_watch ∙ z.fresh_watch) in
          omega (arith, h, q1, q2) in
          let low-e : e.split < e.fresh_watch.beat =
          rw (m1.stays.split, m1.stays.fresh_watch) low in
          lone ∙ m2.opened low-e (gone low);
      blocked = record {
        passed = λ h. olds ∙ blocked.passed (sym lone ∙ h);
        ahead = rw (start, olds) blocked.ahead;
      };
      partners_gone = λ h. p4 ∙ g3 (omega (arith, h, y.split));
      late = late;
    } in
    record {
      stays = all.stays;
      more = all.more ++ tell beat_sent at over;
      appended = out ∙ ap (λ (ms : List Message). ms ++ tell beat_sent at over) all.appended
          ∙ append_assoc before all.more (tell beat_sent at over);
      stands = λ os fs ss fl low.
          let f1 = m1.flows os fs ss fl in
          let f2 = m2.flows os fs (ss ++ m1.more) f1 in
          let w2 : beat ((ss ++ m1.more) ++ m2.more) ≤ at =
          omega (arith, is, flows-now f f.olds os fs ((ss ++ m1.more) ++ m2.more) f2) in
          let w3 = r3.within os fs ((ss ++ m1.more) ++ m2.more) f2 w2 in
          let f3 = r3.moves.flows os fs ((ss ++ m1.more) ++ m2.more) f2 in
          let w4 = r4.within os fs (((ss ++ m1.more) ++ m2.more) ++ r3.moves.more) f3 w3 in
          let f4 = r4.moves.flows os fs (((ss ++ m1.more) ++ m2.more) ++ r3.moves.more) f3 in
          let same : ((((ss ++ m1.more) ++ m2.more) ++ r3.moves.more) ++ r4.moves.more) ≡ ss
          ++ all.more =
          append_assoc ((ss ++ m1.more) ++ m2.more) r3.moves.more r4.moves.more
          ∙ append_assoc (ss ++ m1.more) m2.more (r3.moves.more ++ r4.moves.more)
          ∙ append_assoc ss m1.more (m2.more ++ (r3.moves.more ++ r4.moves.more)) in
          let fd : Flows d d.olds os fs (ss ++ all.more) =
          subst (λ (ms : List Message). Flows d d.olds os fs ms) same f4 in
          let wd : beat (ss ++ all.more) ≤ at =
          subst (λ (ms : List Message). beat ms ≤ at) same w4 in
          let up = beat-grows ss all.more fd.sent_valid in
          subst (λ (ms : List Message). CoalesceStands d os fs ms)
          (append_assoc ss all.more (tell beat_sent at over))
          (sent-stands d at beat_sent os fs (ss ++ all.more) fd sent-all
          (omega (arith, low, up)) wd);
    }

and-false : (a b : Bool) → (a ≡ false) ⊎ (b ≡ false) → (a && b) ≡ false
and-false true b (inl h) = absurd (false≢true (sym h))
and-false false b h = refl
and-false true b (inr h) = h

stands-flows : (c : Coalesce) (olds fresh sent : List Message) → CoalesceStands c olds fresh sent
    → (c.old_watch.ended ≡ false) ⊎ (c.fresh_watch.ended ≡ false) → Flows c c.olds olds fresh sent
stands-flows c olds fresh sent s going = record {
  going = s.going;
  old_valid = s.old_valid;
  fresh_valid = s.fresh_valid;
  old_watch = s.old_watch;
  fresh_watch = s.fresh_watch;
  old_low = s.old_low;
  fresh_high = s.fresh_high;
  sent_valid = s.sent_valid;
  unended = s.sent_ended ∙ and-false c.old_watch.ended c.fresh_watch.ended going;
  parts = s.parts;
}

pub takes-old : (c e d : Coalesce) (m : Message) (beat_sent : ℕ) (before now : List Message)
    → beat_sent ≡ now_of c → AdmitsOld c e m → SendsDue e d beat_sent before now
    → TakesOld c d m before now
takes-old c e d m beat_sent before now is a s = record {
  more = s.more;
  appended = s.appended;
  stands = λ os fs ss st can low.
      let going : c.old_watch.ended ≡ false = ap (λ (p : Progress). p.ended) st.old_watch
      ∙ not_ended (run start_of_list os) m can in
      let f = a.flows os fs ss (stands-flows c os fs ss st (inl going)) can low in
      s.stands (os ++ m ∷ []) fs ss f (omega (arith, is, st.sent_beat));
}

pub takes-fresh : (c e d : Coalesce) (m : Message) (beat_sent : ℕ) (before mid now : List Message)
    → beat_sent ≡ now_of c → AdmitsFresh c e m before mid
    → SendsDue e d beat_sent mid now → TakesFresh c d m before now
takes-fresh c e d m beat_sent before mid now is a s = record {
  more = a.more ++ s.more;
  appended = s.appended ∙ ap (λ (ms : List Message). ms ++ s.more) a.appended
      ∙ append_assoc before a.more s.more;
  stands = λ os fs ss st can high.
      let going : c.fresh_watch.ended ≡ false = ap (λ (p : Progress). p.ended) st.fresh_watch
      ∙ not_ended (run start_of_list fs) m can in
      let f = a.flows os fs ss (stands-flows c os fs ss st (inr going)) can high in
      let up = beat-grows ss a.more f.sent_valid in
      subst (λ (ms : List Message). CoalesceStands d os (fs ++ m ∷ []) ms)
      (append_assoc ss a.more s.more)
      (s.stands os (fs ++ m ∷ []) (ss ++ a.more) f (omega (arith, is, st.sent_beat, up)));
}

pub takes-side : (s : Side) (c e d : Coalesce) (m : Message) (beat_sent : ℕ)
    (before mid now : List Message)
    → beat_sent ≡ now_of c → SideAdmits s c e m before mid → SendsDue e d beat_sent mid now
    → SideTakes s c d m before now
takes-side side.Old c e d m beat_sent before mid now is a s =
    takes-old c e d m beat_sent before now is a.0
    (subst (λ (ms : List Message). SendsDue e d beat_sent ms now) a.1 s)
takes-side side.Fresh c e d m beat_sent before mid now is a s =
    takes-fresh c e d m beat_sent before mid now is a s

-- only the buffer was changed
pub stands-same : (c d : Coalesce) (olds fresh sent : List Message) → SameBut c d → d.olds ≡ c.olds
    → CoalesceStands c olds fresh sent → CoalesceStands d olds fresh sent
stands-same c d os fs ss y olds s = record {
  going = y.stays.failed ∙ s.going;
  old_valid = s.old_valid;
  fresh_valid = s.fresh_valid;
  old_watch = y.stays.old_watch ∙ s.old_watch;
  fresh_watch = y.stays.fresh_watch ∙ s.fresh_watch;
  old_low = rw y.stays.split s.old_low;
  fresh_high = rw y.stays.split s.fresh_high;
  sent_valid = s.sent_valid;
  sent_beat = rw
      (y.stays.split, y.stays.old_watch, y.stays.fresh_watch, y.lone, y.lone_start) s.sent_beat;
  sent_ended = rw (y.stays.old_watch, y.stays.fresh_watch) s.sent_ended;
  parts = rw (
    y.stays.split,
    y.stays.old_watch,
    y.stays.fresh_watch,
    y.lone,
    y.lone_start,
    y.partners,
    y.later,
    olds,
  ) s.parts;
  settled = record {
    opened = λ h. y.lone ∙ s.settled.opened (rw (sym y.stays.split, sym y.stays.fresh_watch) h);
    blocked = record {
      passed = λ h. olds ∙ s.settled.blocked.passed (sym y.lone ∙ h);
      ahead = rw (y.lone_start, olds) s.settled.blocked.ahead;
    };
    partners_gone = λ h. y.partners
        ∙ s.settled.partners_gone
        (rw (
          sym y.stays.split,
          sym y.stays.old_watch,
          sym y.stays.fresh_watch,
          sym y.lone,
          sym y.lone_start,
        ) h);
    later_gone = rw (
      y.stays.split,
      y.stays.old_watch,
      y.stays.fresh_watch,
      y.lone,
      y.lone_start,
      y.later,
    ) s.settled.later_gone;
  };
}

-- a step whose messages lay in the buffer
pub old-over : (c b e d : Coalesce) (m : Message) (sent before now : List Message) → SameBut c b
    → b.olds ≡ c.olds → TakesOld b e m [] sent → HandsOver e d
    → now ≡ before ++ sent → TakesOld c d m before now
old-over c b e d m sent before now y olds t h out = record {
  more = t.more;
  appended = out ∙ ap (λ (ms : List Message). before ++ ms) t.appended;
  stands = λ os fs ss st can low.
      stands-same e d (os ++ m ∷ []) fs (ss ++ t.more) h.same h.olds
      (t.stands os fs ss (stands-same c b os fs ss y olds st) can
      (subst (λ (n : ℕ). EndsBy n m) (sym y.stays.split) low));
}

pub fresh-over : (c b e d : Coalesce) (m : Message) (sent before now : List Message) → SameBut c b
    → b.olds ≡ c.olds → TakesFresh b e m [] sent → HandsOver e d
    → now ≡ before ++ sent → TakesFresh c d m before now
fresh-over c b e d m sent before now y olds t h out = record {
  more = t.more;
  appended = out ∙ ap (λ (ms : List Message). before ++ ms) t.appended;
  stands = λ os fs ss st can high.
      stands-same e d os (fs ++ m ∷ []) (ss ++ t.more) h.same h.olds
      (t.stands os fs ss (stands-same c b os fs ss y olds st) can
      (subst (λ (n : ℕ). StartsFromSplit n m) (sym y.stays.split) high));
}

pub side-over : (s : Side) (c b e d : Coalesce) (m : Message) (none sent before now : List Message)
    → SameBut c b → b.olds ≡ c.olds → none ≡ [] → SideTakes s b e m none sent → HandsOver e d
    → now ≡ before ++ sent → SideTakes s c d m before now
side-over side.Old c b e d m none sent before now y olds is t h out =
    old-over c b e d m sent before now y olds
    (subst (λ (ms : List Message). TakesOld b e m ms sent) is t) h out
side-over side.Fresh c b e d m none sent before now y olds is t h out =
    fresh-over c b e d m sent before now y olds
    (subst (λ (ms : List Message). TakesFresh b e m ms sent) is t) h out
