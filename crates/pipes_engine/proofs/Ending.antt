-- The last entry of a run, and what entries are so far.
use Rattle.std.proofs.Common.{◌≡◌, ℕ, Bool, true, false, List, [], ◌∷◌, ◌++◌, inl, inr, refl}
use Rattle.std.proofs.Common.{◌∙◌, arith}
use Rattle.std.specs.List.{Contains}
use Rattle.pipes_time.specs.Interval.{closed}
use Rattle.pipes_tuple.specs.declared.value.Kind.{Kind}
use Rattle.pipes_stream.specs.Lawful.{Lists}
use Rattle.pipes_plan.specs.declared.plan.Plan.{Plan}
use Rattle.pipes_window.specs.declared.item.Item.{Item}
use Rattle.pipes_query.specs.declared.query.Query.{Query}
use Rattle.pipes_output.specs.declared.entry.Entry.{Entry}
use Rattle.pipes_output.specs.declared.entry.Entry.TheVariants as entry
use Rattle.pipes_semantics.specs.Answer.{bags_at, schemas_of}
use Rattle.pipes_semantics.specs.Written.{results}
use Rattle.pipes_semantics.specs.Right.{Right}
use Rattle.pipes_written.specs.Made.{last_entry}
use Rattle.pipes_written.specs.Written.{IsWritten}
use Rattle.pipes_standing.specs.Calms.{Rows, answer_of, kinds_of}
use Rattle.pipes_derivation.specs.declared.derivation.Derivation.{Derivation}
use Rattle.pipes_told.specs.Asks.{Ask}
use Rattle.pipes_told.specs.Told.{nothing_told}
use Rattle.pipes_told.specs.Pacing.{MayFollow}
use Rattle.pipes_told.specs.Steep.{steep}
use Rattle.pipes_told.proofs.Calls.{Follow-append}
use Rattle.pipes_replies.specs.Leading.{target, ComesTo}
use Rattle.pipes_replies.specs.Telling.{AllTold}
use Rattle.pipes_replies.proofs.Calls.{tells-end}
use Rattle.pipes_live.specs.declared.live.Live.{Live}
use Rattle.pipes_live.specs.Lives.{Serves, beat_in}
use Rattle.pipes_live.specs.Deeds.{Reaches}
use Rattle.pipes_live.specs.Deeds.{Tells as TellsLive}
use Rattle.pipes_course.specs.Given.{HaveGiven}
use Rattle.pipes_engine.specs.declared.serving.Serving.{Serving}
use Rattle.pipes_engine.specs.Runs.{IsRunning, IsPacedAt, IsSound, told_by, beat_now}
use Rattle.pipes_engine.specs.Deeds.{IsAllOfRun, IsSoFar}
use Rattle.pipes_engine.specs.Parts.{EndsIn}
use Rattle.pipes_engine.proofs.Splits.{contains-cases, coalesced-same}
use Rattle.pipes_engine.proofs.Running.{spans_of}
use Rattle.pipes_engine.proofs.Writing.{IsFinal}
use Rattle.pipes_engine.proofs.Timing.{KeepsUp, reached-known}

-- once the output has ended, what is written is right; and below its heartbeat before: laws of
-- `Live`
abbrev pub IsRight : Live → Type 0
IsRight l = (query : Query) (items : List (List Item)) (plan : Plan) (earlier : List Plan)
    (by_source : Lists) (entries : List Entry)
    → Serves l (schemas_of query) query.plan plan earlier (bags_at query.sources items) by_source
    entries → beat_in l.state ≡ closed → Right query items entries

abbrev pub HasWritten : Live → Type 0
HasWritten l = (schemas : List (List Kind)) (query plan : Plan) (earlier : List Plan)
    (rows : Rows) (by_source : Lists) (entries : List Entry)
    → Serves l schemas query plan earlier rows by_source entries
    → IsWritten (kinds_of schemas query) (answer_of query rows) (beat_in l.state) entries

last-none : (stopped : Bool) (number split : ℕ)
    → Contains (last_entry stopped ∷ []) (entry.Accepted number split) → ⊥
last-none true number split c =
    elim (contains-cases entry.Stopped [] (entry.Accepted number split) c) [
      | inl is ↦ cc (is)
      | inr none ↦ (let low = none.1 in omega (arith, low))
    ]
last-none false number split c =
    elim (contains-cases entry.Ended [] (entry.Accepted number split) c) [
      | inl is ↦ cc (is)
      | inr none ↦ (let low = none.1 in omega (arith, low))
    ]

last-results : (stopped : Bool) → results (last_entry stopped ∷ []) ≡ []
last-results true = refl
last-results false = refl

module _ (old new : Serving) (sound : IsSound old) (stopped : Bool) (up : KeepsUp old.live)
    (t : TellsLive old.live new.live (last_entry stopped ∷ [])) (final : IsFinal new.live)
    (right : IsRight new.live) where
  abbrev more : List Entry
  more = last_entry stopped ∷ []

  module _ (query : Query) (items : List (List Item)) (asks : List (Ask Derivation))
      (by_source : Lists) (entries : List Entry) (end : ℕ)
      (p : IsPacedAt old query items asks [] by_source entries closed)
      (given : HaveGiven query.sources items closed end by_source) where
    abbrev r : IsRunning old query items asks [] by_source entries
    r = p.running

    abbrev told : AllTold
    told = told_by query asks entries

    may : MayFollow (ComesTo (schemas_of query)) steep (spans_of query items) told
        (last_entry stopped)
    may = by stopped
      where
        both : MayFollow (ComesTo (schemas_of query)) steep (spans_of query items) told entry.Ended
            × MayFollow (ComesTo (schemas_of query)) steep (spans_of query items) told entry.Stopped
        both = tells-end old.replies (schemas_of query) (spans_of query items) told closed
            (beat_now old) p.paced refl r.later_are

        by : (b : Bool) → MayFollow (ComesTo (schemas_of query)) steep (spans_of query items) told
            (last_entry b)
        by true = both.1
        by false = both.0

    served : Serves new.live (schemas_of query) query.plan old.plan told.earlier
        (bags_at query.sources items) by_source (entries ++ more)
    served = t.holds (schemas_of query) query.plan old.plan told.earlier
        (bags_at query.sources items) by_source entries r.serves

    reach : Reaches old.live (schemas_of query) old.plan told.earlier closed by_source
    reach = reached-known old sound up query items asks [] by_source entries closed end r given

    pub end-of : IsAllOfRun query items asks (last_entry stopped) (entries ++ more)
    end-of = record {
      so_far = λ typed. record {
        typed = typed;
        final = final query items old.plan told.earlier by_source (entries ++ more) served;
        coalesced = coalesced-same entries more (last-results stopped)
            (λ number split c. last-none stopped number split c) r.coalesced;
        follow = Follow-append target (ComesTo (schemas_of query)) steep (spans_of query items)
            (nothing_told query.plan asks) entries more r.follow (may, tt);
      };
      right = right query items old.plan told.earlier by_source (entries ++ more) served
          (t.beat ∙ reach.ends refl);
      ends = (entries, refl);
    }

  pub ends-in : EndsIn old new stopped
  ends-in = record {
    more = more;
    entries = t.entries;
    none = last-results stopped;
    beat = t.beat;
    whole = λ query items asks by_source entries end p given.
        end-of query items asks by_source entries end p given;
  }

-- ---- so far

pub so-far : (s : Serving) → IsFinal s.live → HasWritten s.live → (query : Query)
    (items : List (List Item)) (asks later : List (Ask Derivation)) (by_source : Lists)
    (entries : List Entry) → IsRunning s query items asks later by_source entries
    → IsSoFar query items asks (beat_now s) entries
so-far s final written query items asks later by_source entries r =
    let w = written (schemas_of query) query.plan s.plan (told_by query asks entries).earlier
    (bags_at query.sources items) by_source entries r.serves in
    record {
      so_far = λ typed. record {
        typed = typed;
        final = final query items s.plan (told_by query asks entries).earlier by_source entries
            r.serves;
        coalesced = r.coalesced;
        follow = r.follow;
      };
      going = r.going;
      bounded = w.bounded;
      right = λ t low within. w.done t low within;
    }
