-- One part of a call after another.
use Rattle.std.proofs.Common.{◌≡◌, List, [], ◌++◌, ap, subst, ◌∙◌, arith}
use Rattle.std.proofs.Common.{append_assoc, append-nil, Bool}
use Rattle.std.proofs.lemmas.List.Elements.{All-same}
use Rattle.pipes_stream.specs.declared.Elem.{Elem}
use Rattle.pipes_output.specs.declared.entry.Entry.{Entry}
use Rattle.pipes_semantics.specs.Written.{results}
use Rattle.pipes_written.specs.Made.{last_entry}
use Rattle.pipes_written.proofs.Splits.{results-append}
use Rattle.pipes_live.specs.Lives.{entries_in}
use Rattle.pipes_engine.specs.declared.serving.Serving.{Serving}
use Rattle.pipes_engine.specs.Runs.{IsRunning, IsPacedAt, beat_now}
use Rattle.pipes_engine.specs.Deeds.{MakesEntries, Rises, AnswersIn, Asking, nothing_asked}
use Rattle.pipes_engine.specs.Deeds.{FinishesIn, IsAllOfRun}
use Rattle.pipes_engine.specs.Parts.{SettlesIn, PacesIn, RepliesIn, EndsIn}
use Rattle.pipes_engine.proofs.Splits.{StartsFrom}

-- entries, and then others
made-both : (old mid new : Serving) (xs ys : List Entry) → MakesEntries old mid xs
    → MakesEntries mid new ys → MakesEntries old new (xs ++ ys)
made-both old mid new xs ys first second =
    second ∙ ap (λ (l : List Entry). l ++ ys) first
    ∙ append_assoc (entries_in old.live.state) xs ys

-- the others are no results, and the output stays where it is
rises-on : (old mid new : Serving) (xs ys : List Entry) → Rises old mid xs → results ys ≡ []
    → beat_now new ≡ beat_now mid → Rises old new (xs ++ ys)
rises-on old mid new xs ys r none beat = record {
  beat = (let up = r.beat in omega (arith, up, beat));
  starts = All-same (StartsFrom (beat_now old)) (results (xs ++ ys)) (results xs)
      (results-append xs ys ∙ ap (λ (es : List Elem). results xs ++ es) none
      ∙ append-nil (results xs)) r.starts;
}

pub settles : (old mid new : Serving) → AnswersIn old mid nothing_asked → PacesIn mid new
    → SettlesIn old new
settles old mid new a p = record {
  more = a.more ++ p.more;
  entries = made-both old mid new a.more p.more a.entries p.entries;
  runs = λ query items asks later by_source entries inputs end r given.
      let first = a.runs query items asks later by_source entries inputs end r given in
      let second = p.runs query items asks later by_source (entries ++ a.more) inputs end first.1
      given in (
        rises-on old mid new a.more p.more first.0 p.none p.beat,
        subst (λ (l : List Entry). IsPacedAt new query items asks later by_source l inputs)
            (append_assoc entries a.more p.more) second,
      );
}

-- a call that only settles
pub settled : (old new : Serving) → SettlesIn old new → AnswersIn old new nothing_asked
settled old new s = record {
  more = s.more;
  entries = s.entries;
  runs = λ query items asks later by_source entries inputs end r given.
      let both = s.runs query items asks later by_source entries inputs end r given in
      (both.0, both.1.running);
}

pub replies : (old mid new : Serving) (asking : Asking) → SettlesIn old mid
    → RepliesIn mid new asking → AnswersIn old new asking
replies old mid new asking s p = record {
  more = s.more ++ p.more;
  entries = made-both old mid new s.more p.more s.entries p.entries;
  runs = λ query items asks later by_source entries inputs end r given.
      let first = s.runs query items asks (asking inputs end ++ later) by_source entries inputs end
      r given in
      let second = p.runs query items asks later by_source (entries ++ s.more) inputs end first.1
      given in (
        rises-on old mid new s.more p.more first.0 p.none p.beat,
        subst (λ (l : List Entry). IsRunning new query items asks later by_source l)
            (append_assoc entries s.more p.more) second,
      );
}

pub finishes : (old mid new : Serving) (stopped : Bool) → SettlesIn old mid
    → EndsIn mid new stopped → FinishesIn old new stopped
finishes old mid new stopped s p = record {
  more = s.more ++ p.more;
  entries = made-both old mid new s.more p.more s.entries p.entries;
  whole = λ query items asks by_source entries end r given.
      let first = s.runs query items asks [] by_source entries _ end r given in
      let second = p.whole query items asks by_source (entries ++ s.more) end first.1 given in (
        rises-on old mid new s.more p.more first.0 p.none p.beat,
        subst (λ (l : List Entry). IsAllOfRun query items asks (last_entry stopped) l)
            (append_assoc entries s.more p.more) second,
      );
}
