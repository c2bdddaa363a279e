-- How what single calls tell makes up what a run tells.
use Rattle.std.proofs.Common.{◌≡◌, ℕ, ◌≤◌, List, [], ◌∷◌, ◌++◌, Option, inl, inr, refl, sym}
use Rattle.std.proofs.Common.{subst, arith}
use Rattle.pipes_stream.specs.declared.Elem.{Elem}
use Rattle.pipes_output.specs.declared.entry.Entry.{Entry}
use Rattle.pipes_output.specs.declared.entry.Entry.TheVariants as entry
use Rattle.pipes_semantics.specs.Written.{EndsRun}
use Rattle.pipes_told.specs.Asks.{Ask, Migrates, Drains, Taken, Awaited}
use Rattle.pipes_told.specs.Told.{Move, Told, asking, after_entry, after_entries}
use Rattle.pipes_told.specs.Pacing.{IsPaced, IsTimely, EachMove, MayFollow, Follow, GoesOn}

module _ {P D : Type 0} (target : D → P) (ComesTo : P → D → Option ℕ → Type 0)
    (steep : P → ℕ) (spans : List Elem) where
  -- what is told after two lists of entries
  pub after-append : (told : Told P D) (es more : List Entry)
      → after_entries target told (es ++ more)
      ≡ after_entries target (after_entries target told es) more
  after-append told [] more = refl
  after-append told (e ∷ es) more = after-append (after_entry target told e) es more

  -- entries that may follow, and others that may follow those
  pub Follow-append : (told : Told P D) (es more : List Entry) → Follow target ComesTo steep spans told es
      → Follow target ComesTo steep spans (after_entries target told es) more
      → Follow target ComesTo steep spans told (es ++ more)
  Follow-append told [] more first second = second
  Follow-append told (e ∷ es) more first second =
      (first.0, Follow-append (after_entry target told e) es more first.1 second)

  -- of entries that may follow the first ones may, and the others after them
  pub Follow-front : (told : Told P D) (es more : List Entry)
      → Follow target ComesTo steep spans told (es ++ more) → Follow target ComesTo steep spans told es
  Follow-front told [] more follow = tt
  Follow-front told (e ∷ es) more follow =
      (follow.0, Follow-front (after_entry target told e) es more follow.1)

  pub Follow-rest : (told : Told P D) (es more : List Entry)
      → Follow target ComesTo steep spans told (es ++ more)
      → Follow target ComesTo steep spans (after_entries target told es) more
  Follow-rest told [] more follow = follow
  Follow-rest told (e ∷ es) more follow =
      Follow-rest (after_entry target told e) es more follow.1

  -- ---- more that is asked for later

  -- an entry that may follow may follow still, but for the last one of a run
  may_follow-more : (told : Told P D) (asks more : List (Ask D)) (e : Entry) → ¬ (EndsRun e)
      → MayFollow ComesTo steep spans (asking told asks) e
      → MayFollow ComesTo steep spans (asking told (asks ++ more)) e
  may_follow-more told asks more (entry.Result e) goes m =
      record { going = m.going; due = m.due; replies = tt; paced = m.paced }
  may_follow-more told [] more (entry.Beat h) goes m = absurd m.replies
  may_follow-more told (Migrates d i ∷ asks) more (entry.Beat h) goes m = absurd m.replies
  may_follow-more told (Drains i ∷ asks) more (entry.Beat h) goes m =
      record { going = m.going; due = m.due; replies = tt; paced = tt }
  may_follow-more told [] more (entry.Accepted k t) goes m = absurd m.replies
  may_follow-more told (Migrates d i ∷ asks) more (entry.Accepted k t) goes m =
      let r = m.replies in
      record {
        going = m.going;
        due = m.due;
        replies = record {
          derived = r.derived;
          alone = r.alone;
          room = r.room;
          next = r.next;
          rising = r.rising;
          above = r.above;
          within = r.within;
        };
        paced = m.paced;
      }
  may_follow-more told (Drains i ∷ asks) more (entry.Accepted k t) goes m = absurd m.replies
  may_follow-more told [] more (entry.Refused k why) goes m = absurd m.replies
  may_follow-more told (Migrates d i ∷ asks) more (entry.Refused k why) goes m =
      let r = m.replies in
      record {
        going = m.going;
        due = m.due;
        replies = record { refused = r.refused; next = r.next };
        paced = m.paced;
      }
  may_follow-more told (Drains i ∷ asks) more (entry.Refused k why) goes m = absurd m.replies
  may_follow-more told asks more (entry.Idle k) goes m =
      record { going = m.going; due = m.due; replies = tt; paced = m.paced }
  may_follow-more told asks more (entry.Over k) goes m =
      record { going = m.going; due = m.due; replies = tt; paced = m.paced }
  may_follow-more told [] more (entry.Drained f h) goes m = absurd m.replies
  may_follow-more told (Migrates d i ∷ asks) more (entry.Drained f h) goes m = absurd m.replies
  may_follow-more told (Drains i ∷ asks) more (entry.Drained f h) goes m =
      let p = m.paced in
      record {
        going = m.going;
        due = m.due;
        replies = tt;
        paced = record { tells = p.tells; reached = p.reached; moves = p.moves };
      }
  may_follow-more told asks more entry.Ended goes m = absurd (goes (inl refl))
  may_follow-more told asks more entry.Stopped goes m = absurd (goes (inr refl))

  -- and it leaves the later ones
  after-more : (told : Told P D) (asks more : List (Ask D)) (e : Entry)
      → MayFollow ComesTo steep spans (asking told asks) e → ¬ (EndsRun e)
      → after_entry target (asking told (asks ++ more)) e
      ≡ asking (after_entry target (asking told asks) e)
      ((after_entry target (asking told asks) e).asks ++ more)
  after-more told asks more (entry.Result e) m goes = refl
  after-more told asks more (entry.Beat h) m goes = refl
  after-more told [] more (entry.Accepted k t) m goes = absurd m.replies
  after-more told (Migrates d i ∷ asks) more (entry.Accepted k t) m goes = refl
  after-more told (Drains i ∷ asks) more (entry.Accepted k t) m goes = absurd m.replies
  after-more told [] more (entry.Refused k why) m goes = absurd m.replies
  after-more told (Migrates d i ∷ asks) more (entry.Refused k why) m goes = refl
  after-more told (Drains i ∷ asks) more (entry.Refused k why) m goes = absurd m.replies
  after-more told asks more (entry.Idle k) m goes = refl
  after-more told asks more (entry.Over k) m goes = refl
  after-more told [] more (entry.Drained f h) m goes = absurd m.replies
  after-more told (Migrates d i ∷ asks) more (entry.Drained f h) m goes = absurd m.replies
  after-more told (Drains i ∷ asks) more (entry.Drained f h) m goes = refl
  after-more told asks more entry.Ended m goes = absurd (goes (inl refl))
  after-more told asks more entry.Stopped m goes = absurd (goes (inr refl))

  -- entries may follow still where more is asked for later
  pub Follow-more : (told : Told P D) (more : List (Ask D)) (es : List Entry) → GoesOn es
      → Follow target ComesTo steep spans told es
      → Follow target ComesTo steep spans (asking told (told.asks ++ more)) es
  Follow-more told more [] goes follow = tt
  Follow-more told more (e ∷ es) goes follow = (
    may_follow-more told told.asks more e goes.0 follow.0,
    subst (λ (t : Told P D). Follow target ComesTo steep spans t es)
        (sym (after-more told told.asks more e follow.0 goes.0))
        (Follow-more (after_entry target told e) more es goes.1 follow.1),
  )

  pub after_entries-more : (told : Told P D) (more : List (Ask D)) (es : List Entry) → GoesOn es
      → Follow target ComesTo steep spans told es
      → after_entries target (asking told (told.asks ++ more)) es
      ≡ asking (after_entries target told es) ((after_entries target told es).asks ++ more)
  after_entries-more told more [] goes follow = refl
  after_entries-more told more (e ∷ es) goes follow =
      let step = after-more told told.asks more e follow.0 goes.0 in
      subst (λ (t : Told P D). after_entries target t es
      ≡ asking (after_entries target told (e ∷ es))
      ((after_entries target told (e ∷ es)).asks ++ more)) (sym step)
      (after_entries-more (after_entry target told e) more es goes.1 follow.1)

  -- ---- a threaded run, whose calls know the heartbeat of the inputs and whose script what was
  -- awaited

  -- What may follow a drain command whose inputs are known may follow it where a heartbeat that is
  -- no higher was awaited.
  pub awaited-drain : (told : Told P D) (others : List (Ask D)) (inputs end low : ℕ) (e : Entry)
      → low ≤ inputs
      → MayFollow ComesTo steep spans (asking told (Drains (Taken inputs end) ∷ others)) e
      → MayFollow ComesTo steep spans (asking told (Drains (Awaited low) ∷ others)) e
  awaited-drain told others inputs end low (entry.Result e) h m =
      record { going = m.going; due = m.due; replies = tt; paced = m.paced }
  awaited-drain told others inputs end low (entry.Beat b) h m =
      record { going = m.going; due = m.due; replies = tt; paced = tt }
  awaited-drain told others inputs end low (entry.Accepted k t) h m = absurd m.replies
  awaited-drain told others inputs end low (entry.Refused k why) h m = absurd m.replies
  awaited-drain told others inputs end low (entry.Idle k) h m =
      record { going = m.going; due = m.due; replies = tt; paced = m.paced }
  awaited-drain told others inputs end low (entry.Over k) h m =
      record { going = m.going; due = m.due; replies = tt; paced = m.paced }
  awaited-drain told others inputs end low (entry.Drained f b) h m =
      let p = m.paced in
      let tells : f ≡ inputs = p.tells in
      record {
        going = m.going;
        due = m.due;
        replies = tt;
        paced = record { tells = omega (arith, h, tells); reached = p.reached; moves = p.moves };
      }
  awaited-drain told others inputs end low entry.Ended h m =
      absurd (let nothing = m.replies in cc (nothing))
  awaited-drain told others inputs end low entry.Stopped h m =
      absurd (let nothing = m.replies in cc (nothing))

  pub awaited-migrate : (told : Told P D) (others : List (Ask D)) (d : D) (inputs end low : ℕ)
      (e : Entry)
      → MayFollow ComesTo steep spans (asking told (Migrates d (Taken inputs end) ∷ others)) e
      → MayFollow ComesTo steep spans (asking told (Migrates d (Awaited low) ∷ others)) e
  awaited-migrate told others d inputs end low (entry.Result e) m =
      record { going = m.going; due = m.due; replies = tt; paced = m.paced }
  awaited-migrate told others d inputs end low (entry.Beat b) m = absurd m.replies
  awaited-migrate told others d inputs end low (entry.Accepted k t) m =
      let r = m.replies in
      record {
        going = m.going;
        due = m.due;
        replies = record {
          derived = r.derived;
          alone = r.alone;
          room = r.room;
          next = r.next;
          rising = r.rising;
          above = r.above;
          within = r.within;
        };
        paced = (tt, tt);
      }
  awaited-migrate told others d inputs end low (entry.Refused k why) m =
      let r = m.replies in
      record {
        going = m.going;
        due = m.due;
        replies = record { refused = r.refused; next = r.next };
        paced = tt;
      }
  awaited-migrate told others d inputs end low (entry.Idle k) m =
      record { going = m.going; due = m.due; replies = tt; paced = m.paced }
  awaited-migrate told others d inputs end low (entry.Over k) m =
      record { going = m.going; due = m.due; replies = tt; paced = m.paced }
  awaited-migrate told others d inputs end low (entry.Drained f b) m = absurd m.replies
  awaited-migrate told others d inputs end low entry.Ended m =
      absurd (let nothing = m.replies in cc (nothing))
  awaited-migrate told others d inputs end low entry.Stopped m =
      absurd (let nothing = m.replies in cc (nothing))

-- A migration that was paced is timely at the reply that follows, where the output has reached what
-- it must.
pub paced-timely : (inputs output least : ℕ) (m : Move) → least ≤ inputs → least ≤ output
    → IsPaced inputs output m → IsTimely inputs least m
paced-timely inputs output least m low reached paced (inl passed) =
    paced.over.1 (inl (omega (arith, low, passed), omega (arith, reached, passed)))
paced-timely inputs output least m low reached paced (inr ended) = paced.over.1 (inr ended)

pub each-timely : (inputs output least : ℕ) (ms : List Move) → least ≤ inputs → least ≤ output
    → EachMove (IsPaced inputs output) ms → EachMove (IsTimely inputs least) ms
each-timely inputs output least [] low reached paced = tt
each-timely inputs output least (m ∷ ms) low reached paced = (
  paced-timely inputs output least m low reached paced.0,
  each-timely inputs output least ms low reached paced.1,
)
