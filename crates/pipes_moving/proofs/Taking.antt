-- A message was taken in while a plan is replaced.
use Rattle.std.proofs.Common.{◌≡◌, ℕ, ◌≤◌, max, Bool, true, false, cond, eqb, List, [], ◌∷◌}
use Rattle.std.proofs.Common.{◌++◌}
use Rattle.std.proofs.Common.{refl, sym, ◌∙◌, ap, append-nil, append_assoc}
use Rattle.std.proofs.Common.{inl, inr}
use Rattle.std.specs.List.{All}
use Rattle.std.proofs.lemmas.List.Elements.{All-nil, All-cons, All-append, All-same}
use Rattle.pipes_stream.specs.declared.Elem.{Elem}
use Rattle.pipes_stream.specs.declared.message.Message.{Message}
use Rattle.pipes_stream.specs.declared.message.Message.TheVariants as message
use Rattle.pipes_stream.specs.Lists.{elements}
use Rattle.pipes_stream.proofs.Messages.{elements-append}
use Rattle.pipes_coalesce.specs.Stands.{EndsBy, StartsFromSplit}
use Rattle.pipes_seam.specs.Seams.{opening_of}
use Rattle.pipes_works.specs.Standing.{Puts}
use Rattle.pipes_written.specs.declared.output.Output.{Output}
use Rattle.pipes_moving.specs.declared.moving.Moving.{Moving}
use Rattle.pipes_moving.specs.Moves.{split_of, first_of}
use Rattle.pipes_moving.specs.Steps.{TakesOld, TakesFresh, MayComeOld, MayComeFresh}

message-ends : (split : ℕ) (m : Message) → EndsBy split m
    → All (λ e. e.span.end ≤ split) (elements (m ∷ []))
message-ends split (message.Elem e) low = All-cons (λ (e : Elem). e.span.end ≤ split) e [] low
    (All-nil (λ (e : Elem). e.span.end ≤ split))
message-ends split (message.Beat at) low = All-nil (λ (e : Elem). e.span.end ≤ split)
message-ends split message.End low = All-nil (λ (e : Elem). e.span.end ≤ split)

message-starts : (low : ℕ) (m : Message) → StartsFromSplit low m
    → All (λ e. low ≤ e.span.start) (elements (m ∷ []))
message-starts low (message.Elem e) up = All-cons (λ (e : Elem). low ≤ e.span.start) e [] up
    (All-nil (λ (e : Elem). low ≤ e.span.start))
message-starts low (message.Beat at) up = All-nil (λ (e : Elem). low ≤ e.span.start)
message-starts low message.End up = All-nil (λ (e : Elem). low ≤ e.span.start)

-- what holds of the elements of a list, and of one message more
still-all : (P : Elem → Type 0) (b : Bool) (ms : List Message) (m : Message)
    → All P (elements ms) → All P (elements (m ∷ []))
    → All P (elements (cond b (ms ++ m ∷ []) ms))
still-all P true ms m h last = All-same P (elements (ms ++ m ∷ []))
    (elements ms ++ elements (m ∷ [])) (elements-append ms (m ∷ []))
    (All-append P (elements ms) (elements (m ∷ [])) h last)
still-all P false ms m h last = h

-- a message came to the old plan
pub takes-old : (old new : Moving) (source : ℕ) (m : Message)
    → Puts old.old_works new.old_works source m old.old_sent.items new.old_sent.items
    → new.fresh_works ≡ old.fresh_works → new.fresh_sent ≡ old.fresh_sent → new.seam ≡ old.seam
    → new.output ≡ old.output → MayComeOld old source m → TakesOld old new source m
takes-old old new source m puts fresh news seam output may = record {
  entries = ap (λ (o : Output). o.entries.items) output
      ∙ sym (append-nil old.output.entries.items);
  beat = ap (λ (o : Output). o.beat) output;
  taken_in = λ came schemas before after rows base below from entries s. record {
    typed_old = s.typed_old;
    typed_fresh = s.typed_fresh;
    alike = s.alike;
    old_got = s.old_got ++ puts.more;
    fresh_got = s.fresh_got;
    old = puts.stands schemas before below s.old_got s.old;
    fresh = rw fresh s.fresh;
    ends = rw seam (λ place reads. still-all (λ (e : Elem). e.span.end ≤ split_of old)
        (eqb place source) (below place) m (s.ends place reads)
        (message-ends (split_of old) m came.0));
    starts = rw seam s.starts;
    begun = s.begun;
    earlier = s.earlier;
    begun_is = rw seam s.begun_is;
    shown = s.shown;
    based = rw seam s.based;
    rises = rw seam s.rises;
    closes = rw seam s.closes;
    over_before = rw seam s.over_before;
    since = s.since ++ puts.more;
    old_got_is = ap (λ (l : List Message). l ++ puts.more) s.old_got_is
        ∙ append_assoc s.begun s.since puts.more;
    olds = s.olds;
    news = s.news;
    sent = s.sent;
    merge = rw seam s.merge;
    olds_are = ap (λ (l : List Message). s.olds ++ l) puts.appended
        ∙ sym (append_assoc s.olds old.old_sent.items puts.more)
        ∙ ap (λ (l : List Message). l ++ puts.more) s.olds_are
        ∙ append_assoc (opening_of s.begun) s.since puts.more;
    news_are = rw news s.news_are;
    written = rw output s.written;
    results_are = s.results_are;
    beat_is = rw (output, seam) s.beat_is;
  };
  passed_over = λ not. absurd (not may);
  may = inl may;
  seam = seam;
}

pub passes-old : (s : Moving) (source : ℕ) (m : Message) → (MayComeOld s source m → ⊥)
    → TakesOld s s source m
passes-old s source m not = record {
  entries = sym (append-nil s.output.entries.items);
  beat = refl;
  taken_in = λ may. absurd (not may);
  passed_over = λ _. refl;
  may = inr not;
  seam = refl;
}

-- a message came to the fresh plan
pub takes-fresh : (old new : Moving) (source : ℕ) (m : Message)
    → Puts old.fresh_works new.fresh_works source m old.fresh_sent.items new.fresh_sent.items
    → new.old_works ≡ old.old_works → new.old_sent ≡ old.old_sent → new.seam ≡ old.seam
    → new.output ≡ old.output → MayComeFresh old source m → TakesFresh old new source m
takes-fresh old new source m puts works olds seam output may = record {
  entries = ap (λ (o : Output). o.entries.items) output
      ∙ sym (append-nil old.output.entries.items);
  beat = ap (λ (o : Output). o.beat) output;
  taken_in = λ came schemas before after rows base below from entries s.
      let high : ℕ = max (split_of old) (first_of old) in
      record {
        typed_old = s.typed_old;
        typed_fresh = s.typed_fresh;
        alike = s.alike;
        old_got = s.old_got;
        fresh_got = s.fresh_got ++ puts.more;
        old = rw works s.old;
        fresh = puts.stands schemas after from s.fresh_got s.fresh;
        ends = rw seam s.ends;
        starts = rw seam (λ place reads. still-all (λ (e : Elem). high ≤ e.span.start)
            (eqb place source) (from place) m (s.starts place reads)
            (message-starts high m came.0));
        begun = s.begun;
        earlier = s.earlier;
        begun_is = rw seam s.begun_is;
        shown = s.shown;
        based = rw seam s.based;
        rises = rw seam s.rises;
        closes = rw seam s.closes;
        over_before = rw seam s.over_before;
        since = s.since;
        old_got_is = s.old_got_is;
        olds = s.olds;
        news = s.news;
        sent = s.sent;
        merge = rw seam s.merge;
        olds_are = rw olds s.olds_are;
        news_are = ap (λ (l : List Message). s.news ++ l) puts.appended
            ∙ sym (append_assoc s.news old.fresh_sent.items puts.more)
            ∙ ap (λ (l : List Message). l ++ puts.more) s.news_are;
        written = rw output s.written;
        results_are = s.results_are;
        beat_is = rw (output, seam) s.beat_is;
      };
  passed_over = λ not. absurd (not may);
  may = inl may;
  seam = seam;
}

pub passes-fresh : (s : Moving) (source : ℕ) (m : Message) → (MayComeFresh s source m → ⊥)
    → TakesFresh s s source m
passes-fresh s source m not = record {
  entries = sym (append-nil s.output.entries.items);
  beat = refl;
  taken_in = λ may. absurd (not may);
  passed_over = λ _. refl;
  may = inr not;
  seam = refl;
}
