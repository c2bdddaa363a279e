-- An operator that answers each element by itself is lawful.
use Rattle.std.proofs.Common.{◌≡◌, ℕ, ◌≤◌, ◌<◌, min, Bool, true, false, cond, List, [], ◌∷◌, ◌++◌}
use Rattle.std.proofs.Common.{map, refl, sym, ◌∙◌, subst, ap, arith, Option, Some, None, filter_map}
use Rattle.std.specs.Option.{option_map}
use Rattle.std.specs.List.{All, cons_option}
use Rattle.std.proofs.lemmas.List.Elements.{All-nil, All-cons, All-head, All-tail, All-append}
use Rattle.std.proofs.lemmas.List.Elements.{filter_map-append}
use Rattle.pipes_stream.proofs.Following.{arrived-fits}
use Rattle.pipes_time.specs.Interval.{closed}
use Rattle.pipes_tuple.specs.declared.value.Kind.{Kind}
use Rattle.pipes_tuple.specs.Kinds.{Fits}
use Rattle.pipes_tuple.proofs.Bags.{SameBag-Perm}
use Rattle.pipes_tuple.proofs.Perm.{Perm-equal}
use Rattle.pipes_stream.specs.declared.Elem.{Elem}
use Rattle.pipes_stream.specs.declared.message.Message.{Message}
use Rattle.pipes_stream.specs.declared.message.Message.TheVariants as message
use Rattle.pipes_stream.specs.Progress.{Progress}
use Rattle.pipes_stream.specs.Snapshot.{is_held, snapshot}
use Rattle.pipes_stream.specs.Lists.{CanFollow, after, run, start_of_list, beat, elements}
use Rattle.pipes_stream.specs.Lawful.{Lists, Task, Lawful, Takes, MessageFits, no_messages}
use Rattle.pipes_stream.specs.Lawful.{with_message, least, all_elements, IsCovered}
use Rattle.pipes_stream.proofs.Messages.{run-push, valid-push, elements-append, beat-closed}
use Rattle.pipes_stream.proofs.Ports.{floor-below, covered-itself}
use Rattle.pipes_expr.specs.ExprValue.{Row}
use Rattle.pipes_flat.specs.Each.{answered, sent_for, sent_for_elem, StandsForEach}

-- what is sent goes as far as what was taken, and may follow where that may
elem-after : (e : Elem) (o : Option Row) (p : Progress) → after p (sent_for_elem e o) ≡ after p
    (message.Elem e)
elem-after e (Some row) p = refl
elem-after e None p = refl

sent-after : (answer : Row → Option Row) (m : Message) (p : Progress)
    → after p (sent_for answer m) ≡ after p m
sent-after answer (message.Elem e) p = elem-after e (answer e.tuple) p
sent-after answer (message.Beat at) p = refl
sent-after answer message.End p = refl

elem-follows : (e : Elem) (o : Option Row) (p : Progress) → CanFollow p (message.Elem e)
    → CanFollow p (sent_for_elem e o)
elem-follows e (Some row) p w = w
elem-follows e None p w =
    let a : e.span.start < e.span.end = w.2.0 in
    let b : e.span.end ≤ 1000000000000000 = w.2.1 in
    (w.0, w.1, omega arith)

sent-follows : (answer : Row → Option Row) (m : Message) (p : Progress) → CanFollow p m
    → CanFollow p (sent_for answer m)
sent-follows answer (message.Elem e) p w = elem-follows e (answer e.tuple) p w
sent-follows answer (message.Beat at) p w = w
sent-follows answer message.End p w = w

-- the element with another row
abbrev pub with_row : Elem → Row → Elem
with_row e row = record { tuple = row; span = e.span }

one-elem : (e : Elem) (o : Option Row) → elements (sent_for_elem e o ∷ []) ≡ cons_option
    (option_map (with_row e) o) []
one-elem e (Some row) = refl
one-elem e None = refl

sent-elements : (answer : Row → Option Row) (m : Message) → elements
    (sent_for answer m ∷ []) ≡ filter_map (answered answer) (elements (m ∷ []))
sent-elements answer (message.Elem e) = one-elem e (answer e.tuple)
sent-elements answer (message.Beat at) = refl
sent-elements answer message.End = refl

-- one more message
pub each-push : (answer : Row → Option Row) (kinds : List Kind) (failed : Bool) (watch : Progress)
    (now : Bool) (moved : Progress) (taken : Lists) (sent : List Message) (m : Message)
    → StandsForEach answer kinds failed watch taken sent → CanFollow (run start_of_list (taken 0)) m
    → MessageFits m kinds → now ≡ false → (CanFollow watch m → moved ≡ after watch m)
    → StandsForEach answer kinds now moved (with_message taken 0 m) (sent ++ sent_for answer m ∷ [])
each-push answer kinds failed watch now moved taken sent m s w fits going moves =
    let ran : run start_of_list (sent ++ sent_for answer m ∷ []) ≡ run start_of_list
    (taken 0 ++ m ∷ []) =
    run-push start_of_list sent (sent_for answer m) ∙ sent-after answer m (run start_of_list sent)
    ∙ ap (λ (p : Progress). after p m) s.sent_run ∙ sym (run-push start_of_list (taken 0) m) in
    let can : CanFollow watch m = subst (λ (p : Progress). CanFollow p m) (sym s.watch_is) w in
    let next : CanFollow (run start_of_list sent) m = subst (λ (p : Progress). CanFollow p m)
    (sym s.sent_run) w in
    record {
      going = going;
      taken_valid = valid-push start_of_list (taken 0) m s.taken_valid w;
      taken_fits = subst (λ (es : List Elem). All (λ e. Fits e.tuple kinds) es)
          (sym (elements-append (taken 0) (m ∷ []))) (All-append (λ (e : Elem). Fits e.tuple kinds)
          (elements (taken 0)) (elements (m ∷ [])) s.taken_fits (arrived-fits m kinds fits));
      watch_is = moves can ∙ ap (λ (p : Progress). after p m) s.watch_is
          ∙ sym (run-push start_of_list (taken 0) m);
      sent_valid = valid-push start_of_list sent (sent_for answer m) s.sent_valid
          (sent-follows answer m (run start_of_list sent) next);
      sent_run = ran;
      elements_are =
          elements-append sent (sent_for answer m ∷ [])
          ∙ ap (λ (es : List Elem). es ++ elements (sent_for answer m ∷ [])) s.elements_are
          ∙ ap (λ (es : List Elem). filter_map (answered answer) (elements (taken 0)) ++ es)
          (sent-elements answer m)
          ∙ sym (filter_map-append (answered answer) (elements (taken 0)) (elements (m ∷ [])))
          ∙ ap (filter_map (answered answer)) (sym (elements-append (taken 0) (m ∷ [])));
    }

-- before any message
pub each_new : (answer : Row → Option Row) (kinds : List Kind) (watch : Progress)
    → watch ≡ start_of_list → StandsForEach answer kinds false watch no_messages []
each_new answer kinds watch is =
    record {
      going = refl;
      taken_valid = tt;
      taken_fits = All-nil (λ (e : Elem). Fits e.tuple kinds);
      watch_is = is;
      sent_valid = tt;
      sent_run = refl;
      elements_are = refl;
    }

-- the step of the code
pub each_takes : (answer : Row → Option Row) (task : Task) (failed now : Bool)
    (watch moved : Progress) (port : ℕ) (m : Message) (before later : List Message)
    → port < 1 → now ≡ false → (CanFollow watch m → moved ≡ after watch m)
    → later ≡ before ++ sent_for answer m ∷ []
    → Takes task (StandsForEach answer (task.takes 0) failed watch)
    (StandsForEach answer (task.takes 0) now moved) port m before later
each_takes answer task failed now watch moved port m before later small going moves appended =
    record {
      sent = sent_for answer m ∷ [];
      appended = appended;
      stands = λ taken earlier s can.
          let first : port ≡ 0 = omega arith in
          let follows : CanFollow (run start_of_list (taken 0)) m =
          subst (λ (k : ℕ). CanFollow (run start_of_list (taken k)) m) first can.follows in
          let fits : MessageFits m (task.takes 0) = subst (λ (k : ℕ). MessageFits m (task.takes k))
          first can.fits in
          let pushed = each-push answer (task.takes 0) failed watch now moved taken earlier m s
          follows fits going moves in
          subst (λ (k : ℕ). StandsForEach answer (task.takes 0) now moved (with_message taken k m)
          (earlier ++ sent_for answer m ∷ [])) (sym first) pushed;
    }

pub each_beat : (answer : Row → Option Row) (kinds : List Kind) (failed : Bool) (watch : Progress)
    (taken : Lists) (sent : List Message) → StandsForEach answer kinds failed watch taken sent
    → watch.beat ≡ beat sent
each_beat answer kinds failed watch taken sent s = ap (λ (p : Progress). p.beat)
    (s.watch_is ∙ sym s.sent_run)

-- what holds of each element's answer
answered-case : (Q : Elem → Type 0) (e : Elem) (rest : List Elem) (o : Option Row)
    → ((row : Row) → o ≡ Some row → Q (with_row e row)) → All Q rest
    → All Q (cons_option (option_map (with_row e) o) rest)
answered-case Q e rest (Some row) f h = All-cons Q (with_row e row) rest (f row refl) h
answered-case Q e rest None f h = h

all-answered : (P Q : Elem → Type 0) (answer : Row → Option Row)
    → ((e : Elem) (row : Row) → answer e.tuple ≡ Some row → P e → Q (with_row e row))
    → (es : List Elem) → All P es → All Q (filter_map (answered answer) es)
all-answered P Q answer f [] h = All-nil Q
all-answered P Q answer f (e ∷ es) h =
    answered-case Q e (filter_map (answered answer) es) (answer e.tuple)
    (λ row is. f e row is (All-head P e es h)) (all-answered P Q answer f es
    (All-tail P e es h))

-- an instant's rows are answered as the elements are
snapshot-case : (b : Bool) (o : Option Row) (e : Elem) (es : List Elem) (rows : List Row) (t : ℕ)
    (answer : Row → Option Row) → answer e.tuple ≡ o → is_held e.span t ≡ b
    → snapshot es t ≡ filter_map answer rows
    → snapshot (cons_option (option_map (with_row e) o) es) t ≡ filter_map answer
    (map (λ (d : Elem). d.tuple) (cond b (e ∷ []) []) ++ rows)
snapshot-case true (Some row) e es rows t answer is held h =
    rw (is, held) (ap (λ (xs : List Row). row ∷ xs) h)
snapshot-case true None e es rows t answer is held h = rw is h
snapshot-case false (Some row) e es rows t answer is held h = rw held h
snapshot-case false None e es rows t answer is held h = h

snapshot-cons : (b : Bool) (e : Elem) (es : List Elem) (t : ℕ) → is_held e.span t ≡ b
    → snapshot (e ∷ es) t ≡ map (λ (d : Elem). d.tuple) (cond b (e ∷ []) []) ++ snapshot es t
snapshot-cons true e es t held = rw held refl
snapshot-cons false e es t held = rw held refl

snapshot-answered : (answer : Row → Option Row) (es : List Elem) (t : ℕ)
    → snapshot (filter_map (answered answer) es) t ≡ filter_map answer (snapshot es t)
snapshot-answered answer [] t = refl
snapshot-answered answer (e ∷ es) t =
    snapshot-case (is_held e.span t) (answer e.tuple) e (filter_map (answered answer) es)
    (snapshot es t) t answer refl refl (snapshot-answered answer es t)
    ∙ ap (filter_map answer) (sym (snapshot-cons (is_held e.span t) e es t refl))

-- the law of a task whose meaning answers each row of its one port
pub each-lawful : (answer : Row → Option Row) (task : Task) (failed : Bool) (watch : Progress)
    (taken : Lists) (sent : List Message)
    → task.ports ≡ 1 → ((bags : ℕ → List Row) → task.meaning bags ≡ filter_map answer (bags 0))
    → ((row changed : Row) → answer row ≡ Some changed → Fits row (task.takes 0)
    → Fits changed task.gives)
    → StandsForEach answer (task.takes 0) failed watch taken sent → Lawful task taken sent 0
each-lawful answer task failed watch taken sent ports means fits s =
    let es : List Elem = elements (taken 0) in
    let as_far : beat sent ≡ beat (taken 0) = ap (λ (p : Progress). p.beat) s.sent_run in
    let low : beat (taken 0) ≤ closed = beat-closed (taken 0) s.taken_valid in
    let one : least task.ports taken ≡ beat (taken 0) = ap (λ (n : ℕ). least n taken) ports
    ∙ (let m : min (beat (taken 0)) closed ≡ beat (taken 0) = omega arith in m) in
    let all : all_elements task.ports taken ≡ es = ap (λ (n : ℕ). all_elements n taken) ports in
    record {
      valid = s.sent_valid;
      fits = rw s.elements_are (all-answered (λ (e : Elem). Fits e.tuple (task.takes 0))
          (λ (e : Elem). Fits e.tuple task.gives) answer (λ e row is f. fits e.tuple row is f) es
          s.taken_fits);
      answer = λ t below. SameBag-Perm
          (Perm-equal (ap (λ (ds : List Elem). snapshot ds t) s.elements_are
          ∙ snapshot-answered answer es t
          ∙ sym (means (λ port. snapshot (elements (taken port)) t))));
      below = omega (arith, as_far, one);
      above = let h = floor-below (least task.ports taken) (all_elements task.ports taken) in omega
          (arith, as_far, one, h);
      prompt = λ lags. as_far ∙ sym one;
      ends = λ h. (ap (λ (p : Progress). p.ended) s.sent_run ∙ h 0 (omega (arith, ports)), refl);
      few = omega arith;
      spans = rw (s.elements_are, all) (all-answered (IsCovered es) (IsCovered es) answer
          (λ e row is c. c) es (covered-itself es));
    }
