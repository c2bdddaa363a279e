-- What is sent once a heartbeat has risen may follow, and shows how far the list has come.
use Rattle.std.proofs.Common.{◌≡◌, ℕ, ◌≤◌, ◌<◌, Bool, true, false, cond, suc, nat_le, nat_lt, List}
use Rattle.std.proofs.Common.{[], ◌∷◌, ◌++◌, map, refl, sym, ◌∙◌, ap, arith, append-nil}
use Rattle.std.specs.List.{All}
use Rattle.std.proofs.lemmas.Bool.{ltb-false}
use Rattle.std.proofs.lemmas.List.Elements.{All-nil, All-cons, All-head, All-tail, All-filter}
use Rattle.pipes_time.specs.Interval.{closed, IsInterval}
use Rattle.pipes_stream.specs.declared.Elem.{Elem}
use Rattle.pipes_stream.specs.declared.message.Message.{Message}
use Rattle.pipes_stream.specs.declared.message.Message.TheVariants as message
use Rattle.pipes_stream.specs.Progress.{Progress}
use Rattle.pipes_stream.specs.Lists.{after, run, ValidFrom, elements}
use Rattle.pipes_stream.proofs.Following.{intervals}
use Rattle.pipes_stream.proofs.Messages.{run-append, valid-append, elements-append, elements-map}
use Rattle.pipes_sweep.specs.Waiting.{StartsRise, due}
use Rattle.pipes_sweep.specs.Sending.{progress_after, sent_at}
use Rattle.pipes_sweep.proofs.Places.{due-below}

rise-head : (e : Elem) (es : List Elem) → StartsRise (e ∷ es)
    → All (λ d. e.span.start ≤ d.span.start) es
rise-head e es h = λ k d l. h 0 (suc k) d (omega arith) (omega arith)

rise-tail : (e : Elem) (es : List Elem) → StartsRise (e ∷ es) → StartsRise es
rise-tail e es h = λ i j d le l. h (suc i) (suc j) d (omega arith) (omega arith)

-- elements that may follow, up to an instant
record Reaches (p : Progress) (now : ℕ) (ms : List Message) : Type 0 where
  pub valid : ValidFrom p ms
  pub ended : (run p ms).ended ≡ false
  pub low : p.beat ≤ (run p ms).beat
  pub high : (run p ms).beat ≤ now

reach-due : (p : Progress) (now : ℕ) (es : List Elem) → p.ended ≡ false → p.beat ≤ now
    → StartsRise es → All (λ e. p.beat ≤ e.span.start) es → All (λ e. e.span.start ≤ now) es
    → All (λ e. IsInterval e.span.start e.span.end) es → Reaches p now (map message.Elem es)
reach-due p now [] going below rise low high inside =
    record { valid = tt; ended = going; low = omega arith; high = below }
reach-due p now (e ∷ es) going below rise low high inside =
    let start : p.beat ≤ e.span.start =
    All-head (λ (d : Elem). p.beat ≤ d.span.start) e es low in
    let here : e.span.start ≤ now = All-head (λ (d : Elem). d.span.start ≤ now) e es high in
    let rest = reach-due (after p (message.Elem e)) now es going here (rise-tail e es rise)
    (rise-head e es rise) (All-tail (λ (d : Elem). d.span.start ≤ now) e es high)
    (All-tail (λ (d : Elem). IsInterval d.span.start d.span.end) e es inside) in
    let a = rest.low in
    record {
      valid = (
        (
          going,
          start,
          All-head (λ (d : Elem). IsInterval d.span.start d.span.end) e es inside,
        ),
        rest.valid,
      );
      ended = rest.ended;
      low = omega (arith, start, a);
      high = rest.high;
    }

-- the progress after them
record Shows (q : Progress) (now : ℕ) (ended : Bool) (ms : List Message) : Type 0 where
  pub valid : ValidFrom q ms
  pub beat_is : (run q ms).beat ≡ now
  pub ended_is : (run q ms).ended ≡ ended
  pub nothing : elements ms ≡ []

shows-beat : (b : Bool) (q : Progress) (known now : ℕ) → nat_lt known now ≡ b → q.ended ≡ false
    → known ≤ q.beat → q.beat ≤ now → now ≤ closed
    → Shows q now false (cond b (message.Beat now ∷ []) [])
shows-beat true q known now is going low high most =
    record { valid = ((going, high, most), tt); beat_is = refl; ended_is = going; nothing = refl }
shows-beat false q known now is going low high most =
    let a : now ≤ known = ltb-false known now is in
    record { valid = tt; beat_is = omega (arith, a, low, high); ended_is = going; nothing = refl }

shows : (ended : Bool) (q : Progress) (known now : ℕ) → (ended ≡ true → now ≡ closed)
    → q.ended ≡ false → known ≤ q.beat → q.beat ≤ now → now ≤ closed
    → Shows q now ended (progress_after known now ended)
shows true q known now at going low high most =
    record { valid = (going, tt); beat_is = sym (at refl); ended_is = refl; nothing = refl }
shows false q known now at going low high most =
    shows-beat (nat_lt known now) q known now refl going low high most

-- what is sent at a heartbeat
pub record SentAt (p : Progress) (now : ℕ) (ended : Bool) (gone : List Elem) (ms : List Message)
    : Type 0 where
  pub valid : ValidFrom p ms
  pub beat_is : (run p ms).beat ≡ now
  pub ended_is : (run p ms).ended ≡ ended
  pub elements_are : elements ms ≡ gone

pub sent_due : (p : Progress) (known now : ℕ) (ended : Bool) (waiting : List Elem)
    → p.ended ≡ false → known ≤ p.beat → p.beat ≤ now → now ≤ closed
    → (ended ≡ true → now ≡ closed) → StartsRise (due now waiting)
    → All (λ e. p.beat ≤ e.span.start) waiting
    → All (λ e. IsInterval e.span.start e.span.end) waiting
    → SentAt p now ended (due now waiting) (sent_at known now ended waiting)
sent_due p known now ended waiting going low high most at rise starts inside =
    let gone : List Elem = due now waiting in
    let tail : List Message = progress_after known now ended in
    let reach : Reaches p now (map message.Elem gone) =
    reach-due p now gone going high rise
    (All-filter (λ (e : Elem). nat_le e.span.start now) (λ (e : Elem). p.beat ≤ e.span.start)
    waiting starts)
    (due-below now waiting)
    (All-filter (λ (e : Elem). nat_le e.span.start now)
    (λ (e : Elem). IsInterval e.span.start e.span.end) waiting inside) in
    let q : Progress = run p (map message.Elem gone) in
    let q_low : p.beat ≤ q.beat = reach.low in
    let after_it : Shows q now ended tail =
    shows ended q known now at reach.ended (omega (arith, low, q_low)) reach.high most in
    let ran : run p (map message.Elem gone ++ tail) ≡ run q tail =
    run-append p (map message.Elem gone) tail in
    record {
      valid = valid-append p (map message.Elem gone) tail reach.valid after_it.valid;
      beat_is = ap (λ (x : Progress). x.beat) ran ∙ after_it.beat_is;
      ended_is = ap (λ (x : Progress). x.ended) ran ∙ after_it.ended_is;
      elements_are =
          elements-append (map message.Elem gone) tail
          ∙ ap (λ (es : List Elem). elements (map message.Elem gone) ++ es) after_it.nothing
          ∙ append-nil (elements (map message.Elem gone)) ∙ elements-map gone;
    }
