-- A union goes on to stand for longer lists, and is lawful.
use Rattle.std.proofs.Common.{◌≡◌, ℕ, ◌≤◌, ◌<◌, ◌+◌, min, Bool, true, false, ◌&&◌, nat_lt, List}
use Rattle.std.proofs.Common.{[], ◌∷◌, ◌++◌, length, refl, sym, ◌∙◌, subst, ap, arith}
use Rattle.std.proofs.Common.{append_assoc, append-nil}
use Rattle.std.specs.List.{All}
use Rattle.std.proofs.lemmas.List.Elements.{All-nil, All-cons, All-append}
use Rattle.std.proofs.lemmas.List.Elements.{All-weaker}
use Rattle.std.proofs.Math.Bool.{and_comm}
use Rattle.std.proofs.lemmas.Bool.{and_parts, and_left}
use Rattle.std.proofs.Math.Nat.{min_comm}
use Rattle.pipes_time.specs.Interval.{closed, IsInterval}
use Rattle.pipes_tuple.specs.declared.value.Value.{Value}
use Rattle.pipes_tuple.specs.declared.value.Kind.{Kind}
use Rattle.pipes_tuple.specs.Kinds.{Fits}
use Rattle.pipes_tuple.proofs.Bags.{SameBag-Perm}
use Rattle.pipes_tuple.proofs.Perm.{Perm, then, Perm-refl, Perm-sym, Perm-equal, Perm-left}
use Rattle.pipes_tuple.proofs.Perm.{Perm-right, Perm-append_comm, count_by-Perm}
use Rattle.pipes_stream.specs.declared.Elem.{Elem}
use Rattle.pipes_stream.specs.declared.message.Message.{Message}
use Rattle.pipes_stream.specs.declared.message.Message.TheVariants as message
use Rattle.pipes_stream.specs.Progress.{Progress}
use Rattle.pipes_stream.specs.Snapshot.{snapshot}
use Rattle.pipes_stream.specs.Lists.{CanFollow, after, run, start_of_list, Valid, beat}
use Rattle.pipes_stream.specs.Lists.{HasEnded, elements}
use Rattle.pipes_stream.specs.Lawful.{Lists, Lawful, Takes, MessageFits, no_messages, least}
use Rattle.pipes_stream.specs.Lawful.{all_elements, IsCovered, open_count}
use Rattle.pipes_stream.proofs.Following.{arrived, arrived-fits, not_ended, intervals}
use Rattle.pipes_stream.proofs.Messages.{run-append, run-push, run-rises, valid-append, valid-push}
use Rattle.pipes_stream.proofs.Messages.{elements-append, beat-closed, beat-ended}
use Rattle.pipes_stream.proofs.Snapshots.{snapshot-append, snapshot-Perm, snapshot-above}
use Rattle.pipes_stream.proofs.Ports.{floor-below, covered-itself, All-Perm, All-parts}
use Rattle.pipes_stream.proofs.Ports.{open_count-all, open_count-append}
use Rattle.pipes_sweep.specs.Waiting.{StartsRise, due, later}
use Rattle.pipes_sweep.specs.Sending.{sent_at}
use Rattle.pipes_sweep.proofs.Places.{placed-Perm, due-later, later-above}
use Rattle.pipes_sweep.proofs.SentAt.{SentAt, sent_due}
use Rattle.pipes_flat.specs.declared.union.Union.{Union}
use Rattle.pipes_flat.specs.Tasks.{union_task}
use Rattle.pipes_flat.specs.Unions.{StandsForBoth, UnionStands, with_elem, Sends}

-- the message's element is among those that wait
with-Perm : (m : Message) (hold : List Elem) → Perm (with_elem m hold) (elements (m ∷ []) ++ hold)
with-Perm (message.Elem e) hold = placed-Perm e hold
with-Perm (message.Beat at) hold = Perm-refl hold
with-Perm message.End hold = Perm-refl hold

-- what was sent, what goes now and what stays
moved : (sent hold gone stays more lefts rights : List Elem) → Perm (sent ++ hold) (lefts ++ rights)
    → Perm (gone ++ stays) (more ++ hold) → Perm ((sent ++ gone) ++ stays) ((lefts ++ more)
    ++ rights)
moved sent hold gone stays more lefts rights p q =
    then (Perm-equal (append_assoc sent gone stays))
    (then (Perm-left sent q)
    (then (Perm-equal (sym (append_assoc sent more hold)))
    (then (Perm-right hold (Perm-append_comm sent more))
    (then (Perm-equal (append_assoc more sent hold))
    (then (Perm-left more p)
    (then (Perm-equal (sym (append_assoc more lefts rights)))
    (Perm-right rights (Perm-append_comm more lefts))))))))

turn : (kinds : List Kind) (hold : List Elem) (left right : Progress)
    (lefts rights sent : List Message) → StandsForBoth kinds hold left right lefts rights sent
    → StandsForBoth kinds hold right left rights lefts sent
turn kinds hold left right lefts rights sent s =
    record {
      left_valid = s.right_valid;
      right_valid = s.left_valid;
      left_fits = s.right_fits;
      right_fits = s.left_fits;
      left_is = s.right_is;
      right_is = s.left_is;
      sent_valid = s.sent_valid;
      sent_beat = let a : beat sent ≡ min left.beat right.beat = s.sent_beat in omega arith;
      sent_ended = s.sent_ended ∙ and_comm left.ended right.ended;
      waits = s.waits;
      all = then s.all (Perm-append_comm (elements lefts) (elements rights));
    }

-- one more message on the left
step : (kinds : List Kind) (hold held : List Elem) (left right moves : Progress)
    (lefts rights sent : List Message) (m : Message) (known now : ℕ) (ended : Bool)
    → StandsForBoth kinds hold left right lefts rights sent → CanFollow (run start_of_list lefts) m
    → MessageFits m kinds → moves ≡ after left m → held ≡ with_elem m hold
    → known ≡ min left.beat right.beat → now ≡ min moves.beat right.beat
    → ended ≡ (moves.ended && right.ended) → StartsRise (due now held)
    → StandsForBoth kinds (later now held) moves right (lefts ++ m ∷ []) rights
    (sent ++ sent_at known now ended held)
step kinds hold held left right moves lefts rights sent m known now ended s w fits moves_is
    held_is known_is now_is ended_is rise =
    let gone : List Elem = due now held in
    let more : List Message = sent_at known now ended held in
    let comes : Perm held (elements (m ∷ []) ++ hold) = subst
    (λ (es : List Elem). Perm es (elements (m ∷ []) ++ hold)) (sym held_is)
    (with-Perm m hold) in
    let p : Progress = run start_of_list sent in
    let left_valid : Valid (lefts ++ m ∷ []) = valid-push start_of_list lefts m s.left_valid w in
    let left_is : moves ≡ run start_of_list (lefts ++ m ∷ []) = moves_is
    ∙ ap (λ (q : Progress). after q m) s.left_is ∙ sym (run-push start_of_list lefts m) in
    let left_beat : moves.beat ≡ beat (lefts ++ m ∷ []) = ap (λ (q : Progress). q.beat) left_is in
    let right_beat : right.beat ≡ beat rights = ap (λ (q : Progress). q.beat) s.right_is in
    let left_most : beat (lefts ++ m ∷ []) ≤ closed = beat-closed (lefts ++ m ∷ []) left_valid in
    let right_most : beat rights ≤ closed = beat-closed rights s.right_valid in
    let follows : CanFollow left m = subst (λ (q : Progress). CanFollow q m) (sym s.left_is) w in
    let old_beat : beat sent ≡ min left.beat right.beat = s.sent_beat in
    let old_left : left.beat ≡ beat lefts = ap (λ (q : Progress). q.beat) s.left_is in
    let old_most : beat lefts ≤ closed = beat-closed lefts s.left_valid in
    let rose : (left.beat ≤ (run left (m ∷ [])).beat) × ((run left (m ∷ [])).beat ≤ closed) =
    run-rises left (m ∷ []) (follows, tt) (omega arith) in
    let rose_is : moves.beat ≡ (run left (m ∷ [])).beat = ap (λ (q : Progress). q.beat) moves_is in
    let going : p.ended ≡ false = s.sent_ended ∙ and_left left.ended right.ended
    (not_ended left m follows) in
    let low : All (λ e. p.beat ≤ e.span.start) held =
    All-Perm (λ (e : Elem). p.beat ≤ e.span.start) (Perm-sym comes)
    (All-append (λ (e : Elem). p.beat ≤ e.span.start) (elements (m ∷ [])) hold
    (All-weaker (λ (e : Elem). left.beat ≤ e.span.start) (λ (e : Elem). p.beat ≤ e.span.start)
    (λ e h. omega (arith, old_beat, h)) (elements (m ∷ [])) (arrived left m follows))
    (All-weaker (λ (e : Elem). p.beat < e.span.start) (λ (e : Elem). p.beat ≤ e.span.start)
    (λ e h. omega (arith, h)) hold s.waits)) in
    let taken : Perm (elements sent ++ hold) (elements lefts ++ elements rights) = s.all in
    let kept : All (λ e. IsInterval e.span.start e.span.end) hold =
    (All-parts (λ (e : Elem). IsInterval e.span.start e.span.end) (elements sent) hold
    (All-Perm (λ (e : Elem). IsInterval e.span.start e.span.end) (Perm-sym taken)
    (All-append (λ (e : Elem). IsInterval e.span.start e.span.end) (elements lefts)
    (elements rights) (intervals start_of_list lefts s.left_valid)
    (intervals start_of_list rights s.right_valid)))).1 in
    let inside : All (λ e. IsInterval e.span.start e.span.end) held =
    All-Perm (λ (e : Elem). IsInterval e.span.start e.span.end) (Perm-sym comes)
    (All-append (λ (e : Elem). IsInterval e.span.start e.span.end) (elements (m ∷ [])) hold
    (intervals left (m ∷ []) (follows, tt)) kept) in
    let split : Perm (gone ++ later now held) held = due-later now held in
    let out : SentAt p now ended gone more =
    sent_due p known now ended held going (omega (arith, known_is, old_beat))
    (omega (arith, old_beat, rose.0, rose_is, now_is)) (omega arith)
    (λ h.
    let both = and_parts moves.ended right.ended (sym ended_is ∙ h) in
    let a : beat (lefts ++ m ∷ []) ≡ closed = beat-ended (lefts ++ m ∷ []) left_valid
    (sym (ap (λ (x : Progress). x.ended) left_is) ∙ both.0) in
    let b : beat rights ≡ closed = beat-ended rights s.right_valid
    (sym (ap (λ (x : Progress). x.ended) s.right_is) ∙ both.1) in
    omega arith)
    rise low inside in
    let ran : run start_of_list (sent ++ more) ≡ run p more = run-append start_of_list sent more in
    let now_beat : beat (sent ++ more) ≡ now = ap (λ (x : Progress). x.beat) ran ∙ out.beat_is in
    let now_elements : elements (sent ++ more) ≡ elements sent ++ gone =
    elements-append sent more
    ∙ ap (λ (es : List Elem). elements sent ++ es) out.elements_are in
    record {
      left_valid = left_valid;
      right_valid = s.right_valid;
      left_fits = subst (λ (es : List Elem). All (λ e. Fits e.tuple kinds) es)
          (sym (elements-append lefts (m ∷ []))) (All-append (λ (e : Elem). Fits e.tuple kinds)
          (elements lefts) (elements (m ∷ [])) s.left_fits (arrived-fits m kinds fits));
      right_fits = s.right_fits;
      left_is = left_is;
      right_is = s.right_is;
      sent_valid = valid-append start_of_list sent more s.sent_valid out.valid;
      sent_beat = now_beat ∙ now_is;
      sent_ended = ap (λ (x : Progress). x.ended) ran ∙ out.ended_is ∙ ended_is;
      waits = All-weaker (λ (e : Elem). now < e.span.start)
          (λ (e : Elem). beat (sent ++ more) < e.span.start)
          (λ e h. omega (arith, now_beat, h)) (later now held) (later-above now held);
      all =
          subst (λ (es : List Elem). Perm (es ++ later now held) (elements (lefts ++ m ∷ [])
          ++ elements rights)) (sym now_elements)
          (subst (λ (es : List Elem). Perm ((elements sent ++ gone) ++ later now held)
          (es ++ elements rights)) (sym (elements-append lefts (m ∷ [])))
          (moved (elements sent) hold gone (later now held) (elements (m ∷ [])) (elements lefts)
          (elements rights) taken (then split comes)));
    }

carry : (kinds kinds' : List Kind) (hold hold' : List Elem) (left left' right right' : Progress)
    (lefts rights sent : List Message)
    → kinds' ≡ kinds → hold' ≡ hold → left' ≡ left → right' ≡ right
    → StandsForBoth kinds hold left right lefts rights sent
    → StandsForBoth kinds' hold' left' right' lefts rights sent
carry kinds kinds' hold hold' left left' right right' lefts rights sent a b c d s =
    rw (a, b, c, d) s

-- the steps of the code, on either port
pub union_takes_left : (old mid new : Union) (m : Message) (known : ℕ)
    (before now : List Message)
    → known ≡ min old.left.beat old.right.beat → mid.schema ≡ old.schema
    → mid.failed ≡ old.failed
    → (CanFollow old.left m → mid.left ≡ after old.left m) → mid.right ≡ old.right
    → mid.hold ≡ with_elem m old.hold → Sends mid new known before now
    → Takes (union_task old.schema) (UnionStands old) (UnionStands new) 0 m before now
union_takes_left old mid new m known before now known_is schema failed left right hold
    sends =
    record {
      sent = sent_at known (min mid.left.beat mid.right.beat) (mid.left.ended && mid.right.ended)
          mid.hold;
      appended = sends.appended;
      stands = λ taken earlier s can.
          let follows : CanFollow old.left m = subst (λ (p : Progress). CanFollow p m)
          (sym s.both.left_is) can.follows in
          let both =
          step old.schema old.hold mid.hold old.left old.right mid.left (taken 0) (taken 1) earlier
          m known (min mid.left.beat mid.right.beat) (mid.left.ended && mid.right.ended)
          s.both can.follows can.fits (left follows) hold known_is
          (ap (λ (p : Progress). min mid.left.beat p.beat) right)
          (ap (λ (p : Progress). mid.left.ended && p.ended) right) sends.rises in
          record {
            going = sends.failed ∙ failed ∙ s.going;
            both = carry old.schema new.schema (later (min mid.left.beat mid.right.beat) mid.hold)
                new.hold mid.left new.left old.right new.right _ _ _ (sends.schema ∙ schema)
                sends.hold sends.left (sends.right ∙ right) both;
          };
    }

pub union_takes_right : (old mid new : Union) (m : Message) (known : ℕ)
    (before now : List Message)
    → known ≡ min old.left.beat old.right.beat → mid.schema ≡ old.schema
    → mid.failed ≡ old.failed
    → (CanFollow old.right m → mid.right ≡ after old.right m) → mid.left ≡ old.left
    → mid.hold ≡ with_elem m old.hold → Sends mid new known before now
    → Takes (union_task old.schema) (UnionStands old) (UnionStands new) 1 m before now
union_takes_right old mid new m known before now known_is schema failed right left hold
    sends =
    record {
      sent = sent_at known (min mid.left.beat mid.right.beat) (mid.left.ended && mid.right.ended)
          mid.hold;
      appended = sends.appended;
      stands = λ taken earlier s can.
          let follows : CanFollow old.right m = subst (λ (p : Progress). CanFollow p m)
          (sym s.both.right_is) can.follows in
          let turned = turn old.schema old.hold old.left old.right (taken 0) (taken 1) earlier
          s.both in
          let both =
          step old.schema old.hold mid.hold old.right old.left mid.right (taken 1) (taken 0) earlier
          m known (min mid.left.beat mid.right.beat) (mid.left.ended && mid.right.ended)
          turned can.follows can.fits (right follows) hold (known_is
          ∙ min_comm old.left.beat old.right.beat)
          (ap (λ (p : Progress). min p.beat mid.right.beat) left
          ∙ min_comm old.left.beat mid.right.beat)
          (ap (λ (p : Progress). p.ended && mid.right.ended) left
          ∙ and_comm old.left.ended mid.right.ended) sends.rises in
          record {
            going = sends.failed ∙ failed ∙ s.going;
            both = carry old.schema new.schema (later (min mid.left.beat mid.right.beat) mid.hold)
                new.hold old.left new.left mid.right new.right _ _ _ (sends.schema ∙ schema)
                sends.hold (sends.left ∙ left) sends.right
                (turn old.schema (later (min mid.left.beat mid.right.beat) mid.hold) mid.right
                old.left _ _ _ both);
          };
    }

all-both : (es : List Elem) (low h : ℕ) → low ≡ h → All (λ e. low < e.span.start) es
    → All (λ e. IsInterval e.span.start e.span.end) es → All (λ e. h < e.span.end) es
all-both es low h same a b = λ k d l. let x = a k d l in let y = (b k d l).0 in omega arith

none-late : (es : List Elem) (low : ℕ) → low ≡ closed → All (λ e. low < e.span.start) es
    → All (λ e. IsInterval e.span.start e.span.end) es → length es ≡ 0
none-late [] low is a b = refl
none-late (e ∷ es) low is a b =
    let x : low < e.span.start = a 0 e (omega arith) in
    let y : e.span.start < e.span.end = (b 0 e (omega arith)).0 in
    let z : e.span.end ≤ 1000000000000000 = (b 0 e (omega arith)).1 in
    absurd (omega arith)

-- the law
pub union_lawful : (u : Union) (taken : Lists) (sent : List Message) → UnionStands u taken sent
    → Lawful (union_task u.schema) taken sent (length u.hold)
union_lawful u taken sent stands =
    let s = stands.both in
    let lefts : List Elem = elements (taken 0) in
    let rights : List Elem = elements (taken 1) in
    let left_beat : u.left.beat ≡ beat (taken 0) = ap (λ (p : Progress). p.beat) s.left_is in
    let right_beat : u.right.beat ≡ beat (taken 1) = ap (λ (p : Progress). p.beat) s.right_is in
    let left_most : beat (taken 0) ≤ closed = beat-closed (taken 0) s.left_valid in
    let right_most : beat (taken 1) ≤ closed = beat-closed (taken 1) s.right_valid in
    let sent_beat : beat sent ≡ min u.left.beat u.right.beat = s.sent_beat in
    let prompt : beat sent ≡ least 2 taken = omega arith in
    let fits : All (λ e. Fits e.tuple u.schema) (elements sent ++ u.hold) =
    All-Perm (λ (e : Elem). Fits e.tuple u.schema) (Perm-sym s.all)
    (All-append (λ (e : Elem). Fits e.tuple u.schema) lefts rights s.left_fits s.right_fits) in
    let inside : All (λ e. IsInterval e.span.start e.span.end) (elements sent ++ u.hold) =
    All-Perm (λ (e : Elem). IsInterval e.span.start e.span.end) (Perm-sym s.all)
    (All-append (λ (e : Elem). IsInterval e.span.start e.span.end) lefts rights
    (intervals start_of_list (taken 0) s.left_valid) (intervals start_of_list
    (taken 1) s.right_valid)) in
    let held : All (λ e. IsInterval e.span.start e.span.end) u.hold =
    (All-parts (λ (e : Elem). IsInterval e.span.start e.span.end) (elements sent) u.hold
    inside).1 in
    let waits : All (λ e. beat sent < e.span.start) u.hold = s.waits in
    let past : All (λ e. least 2 taken < e.span.end) u.hold =
    all-both u.hold (beat sent) (least 2 taken) prompt waits held in
    let counted : open_count (least 2 taken) (elements sent ++ u.hold) ≡ open_count (least 2 taken)
    (lefts ++ rights) = count_by-Perm (λ (e : Elem). nat_lt (least 2 taken) e.span.end)
    s.all in
    let parts : open_count (least 2 taken) (elements sent ++ u.hold) ≡ open_count (least 2 taken)
    (elements sent) + open_count (least 2 taken) u.hold = open_count-append (least 2 taken)
    (elements sent) u.hold in
    let all_open : open_count (least 2 taken) u.hold ≡ length u.hold =
    open_count-all (least 2 taken) u.hold past in
    record {
      valid = s.sent_valid;
      fits = (All-parts (λ (e : Elem). Fits e.tuple u.schema) (elements sent) u.hold fits).0;
      answer = λ t below.
          let late : All (λ e. t < e.span.start) u.hold = All-weaker
          (λ (e : Elem). beat sent < e.span.start) (λ (e : Elem). t < e.span.start)
          (λ e h. omega (arith, below, h)) u.hold waits in
          let empty : snapshot u.hold t ≡ [] = snapshot-above t u.hold late in
          let here : snapshot (elements sent ++ u.hold) t ≡ snapshot (elements sent) t =
          snapshot-append (elements sent) u.hold t
          ∙ ap (λ (rows : List (List Value)). snapshot (elements sent) t ++ rows) empty
          ∙ append-nil (snapshot (elements sent) t) in
          SameBag-Perm (then (Perm-equal (sym here)) (then (snapshot-Perm t s.all)
          (Perm-equal (snapshot-append lefts rights t))));
      below = omega arith;
      above = let h = floor-below (least 2 taken) (all_elements 2 taken) in omega
          (arith, prompt, h);
      prompt = λ lags. prompt;
      ends = λ h.
          let a : HasEnded (taken 0) = h 0 (omega arith) in
          let b : HasEnded (taken 1) = h 1 (omega arith) in
          let c : beat (taken 0) ≡ closed = beat-ended (taken 0) s.left_valid a in
          let d : beat (taken 1) ≡ closed = beat-ended (taken 1) s.right_valid b in
          let le : u.left.ended ≡ true = ap (λ (p : Progress). p.ended) s.left_is ∙ a in
          let re : u.right.ended ≡ true = ap (λ (p : Progress). p.ended) s.right_is ∙ b in
          (s.sent_ended ∙ rw (le, re) refl, none-late u.hold (beat sent) (omega arith) waits held);
      few = omega (arith, counted, parts, all_open);
      spans =
          (All-parts (IsCovered (lefts ++ rights)) (elements sent) u.hold
          (All-Perm (IsCovered (lefts ++ rights)) (Perm-sym s.all)
          (covered-itself (lefts ++ rights)))).0;
    }

pub union_beat : (u : Union) (taken : Lists) (sent : List Message) → UnionStands u taken sent
    → min u.left.beat u.right.beat ≡ beat sent
union_beat u taken sent s = sym s.both.sent_beat

-- before any message
start-both : (kinds : List Kind) → StandsForBoth kinds [] start_of_list start_of_list [] [] []
start-both kinds =
    record {
      left_valid = tt;
      right_valid = tt;
      left_fits = All-nil (λ (e : Elem). Fits e.tuple kinds);
      right_fits = All-nil (λ (e : Elem). Fits e.tuple kinds);
      left_is = refl;
      right_is = refl;
      sent_valid = tt;
      sent_beat = refl;
      sent_ended = refl;
      waits = All-nil (λ (e : Elem). 0 < e.span.start);
      all = Perm-refl [];
    }

pub union_new : (u : Union) → u.failed ≡ false → u.left ≡ start_of_list → u.right ≡ start_of_list
    → u.hold ≡ [] → UnionStands u no_messages []
union_new u going left right hold =
    record {
      going = going;
      both = carry u.schema u.schema [] u.hold start_of_list u.left start_of_list u.right [] [] []
          refl hold left right (start-both u.schema);
    }

-- what the code does one after the other
pub union_sends_from : (old new : Union) (known now : ℕ) (ended : Bool)
    (before after : List Message) → new.schema ≡ old.schema → new.failed ≡ old.failed
    → new.left ≡ old.left → new.right ≡ old.right → now ≡ min old.left.beat old.right.beat
    → ended ≡ (old.left.ended && old.right.ended) → StartsRise (due now old.hold)
    → new.hold ≡ later now old.hold → after ≡ before ++ sent_at known now ended old.hold
    → Sends old new known before after
union_sends_from old new known now ended before after schema failed left right now_is ended_is rise
    hold sent =
    record {
      schema = schema;
      failed = failed;
      left = left;
      right = right;
      hold = subst (λ (t : ℕ). new.hold ≡ later t old.hold) now_is hold;
      rises = subst (λ (t : ℕ). StartsRise (due t old.hold)) now_is rise;
      appended =
          subst (λ (t : ℕ). after ≡ before
          ++ sent_at known t (old.left.ended && old.right.ended) old.hold) now_is
          (subst (λ (b : Bool). after ≡ before ++ sent_at known now b old.hold) ended_is sent);
    }
