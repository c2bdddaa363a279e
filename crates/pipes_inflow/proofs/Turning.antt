-- From turn to turn, and to the end.
use Rattle.std.proofs.Common.{◌≡◌, ◌<◌, ◌≤◌, ◌+◌, ℕ, List, [], ◌∷◌, ◌++◌, Option, Some, None}
use Rattle.std.proofs.Common.{refl, sym, ap, ◌∙◌, subst, arith, true, false, inl, inr, ⊎_elim, Bool}
use Rattle.std.specs.Option.{option_or}
use Rattle.std.proofs.lemmas.List.{append-nil, length-append}
use Rattle.pipes_window.specs.declared.item.Item.{Item}
use Rattle.pipes_parcel.specs.declared.parcel.Fed.{Fed}
use Rattle.pipes_query.specs.declared.query.SourceDecl.{SourceDecl}
use Rattle.pipes_feed.specs.declared.reason.Reason.{Reason}
use Rattle.pipes_feed.specs.declared.reason.Reason.TheVariants as reason
use Rattle.pipes_feed.specs.declared.reader.Next.{Next}
use Rattle.pipes_feed.specs.declared.reader.Next.TheVariants as next
use Rattle.pipes_arrivals.specs.Arriving.{Arriving}
use Rattle.pipes_feeder.specs.declared.feeder.Feeder.{Feeder}
use Rattle.pipes_feeder.specs.Feeding.{FeederStands, FeederKeeps, FeederStays, IsFresh}
use Rattle.pipes_feeder.specs.Feeding.{FeederEnds}
use Rattle.pipes_packer.specs.Packed.{Packing}
use Rattle.pipes_intake.specs.declared.ahead.Ahead.{Ahead}
use Rattle.pipes_intake.specs.Ahead.{HasTaken, turns_left, turns_after, turn_of, IsNext}
use Rattle.pipes_intake.specs.Ahead.{MayArrive}
use Rattle.pipes_inflow.specs.declared.inflow.Inflow.{Inflow}
use Rattle.pipes_inflow.specs.declared.inflow.Turn.{Turn}
use Rattle.pipes_inflow.specs.declared.inflow.Turn.TheVariants.{Moved, NoRoom, Ended}
use Rattle.pipes_inflow.specs.Inflows.{InflowStands, HasEndedFor, Feeds, TurnsTo, Passes, Ends}
use Rattle.pipes_inflow.specs.Inflows.{FinishesFor, LeavesLess, stamp_ahead}
use Rattle.pipes_inflow.proofs.Feeds.{feeds-same, feeds-failed, feeds-more, feeds-all, feeds-none}
use Rattle.pipes_inflow.proofs.Feeds.{feeds-still_failed}

-- the feeder stands for what it stood for, and nothing was read
pub stays-stands : (s : SourceDecl) (first left : Option (List ℕ)) (before now : ℕ)
    (gone : List Fed) (taken : List Item) (old new : Inflow) → new.ahead ≡ old.ahead
    → new.taken ≡ old.taken → new.ended ≡ old.ended → FeederStays old.feeder new.feeder
    → InflowStands s first left before now gone taken old
    → InflowStands s first left before now gone taken new
stays-stands s first left before now gone taken old new ahead counted ended f h = record {
  ahead = rw ahead h.ahead;
  counted = counted ∙ h.counted;
  few = rw (counted, ahead) h.few;
  slack_is = ap (λ (a : Arriving). a.slack) f.arriving ∙ h.slack_is;
  kind_is = ap (λ (a : Arriving). a.window.kind) f.arriving ∙ h.kind_is;
  feeds = feeds-same gone taken old.feeder new.feeder f h.feeds;
  going = λ none. f.failed ∙ h.going (sym ended ∙ none);
  ended = λ why is.
      let e : HasEndedFor old why = h.ended why (sym ended ∙ is) in record {
        cause = rw (ahead, f.failed) e.cause;
        whole = λ all. (f.failed ∙ (e.whole all).0, f.finished ∙ (e.whole all).1);
      };
}

-- what comes next may arrive
pub may-next : (s : SourceDecl) (first left : Option (List ℕ)) (before now : ℕ)
    (gone : List Fed) (taken : List Item) (f : Inflow) (i : Item)
    → InflowStands s first left before now gone taken f → f.ahead.next ≡ next.Item i
    → MayArrive s.schema s.slack taken i
may-next s first left before now gone taken f i h is =
    (subst (λ (n : Next). IsNext s.schema s.slack taken f.ahead.reader n) is h.ahead.follows).0

module _ (s : SourceDecl) (first : Option (List ℕ)) (before : ℕ) (gone : List Fed)
    (taken : List Item) (old new : Inflow) (left left' : Option (List ℕ)) (now now' : ℕ)
    (h : InflowStands s first left before now gone taken old) (going : old.ended ≡ None)
    (unfinished : old.feeder.finished ≡ false)
  where
    stands : FeederStands gone taken old.feeder
    stands = h.feeds.going (h.going going) unfinished

    -- an arrival was taken
    pub turn-item : (i : Item) (ahead : Ahead)
        → HasTaken s.schema s.slack first left' before now' ahead (taken ++ i ∷ [])
        → turns_left ahead < turns_left old.ahead → (turn : Turn)
        → Passes (record {
          feeder = old.feeder;
          ahead = ahead;
          taken = old.taken;
          ended = old.ended;
        }) new i turn → TurnsTo s first left' before now' gone new taken turn
    turn-item i ahead read fewer Moved p = (
      i,
      record {
        ahead = rw p.0 read;
        counted = omega (arith, p.1, h.counted, length-append taken (i ∷ []));
        few = rw (p.0, p.1) (omega (arith, h.few, fewer));
        slack_is = p.3.packer.slack ∙ h.slack_is;
        kind_is = p.3.packer.kind ∙ h.kind_is;
        feeds = feeds-more gone taken i old.feeder new.feeder p.3 unfinished stands;
        going = λ _. p.3.unfailed;
        ended = λ why is. absurd (cc);
      },
    )
    turn-item i ahead read fewer NoRoom p = absurd p
    turn-item i ahead read fewer (Ended why) p = (
      i ∷ [],
      record {
        ahead = rw p.0 read;
        counted = omega (arith, p.1, h.counted, length-append taken (i ∷ []));
        few = rw (p.0, p.1) (omega (arith, h.few, fewer));
        slack_is = p.4.packer.slack ∙ h.slack_is;
        kind_is = p.4.packer.kind ∙ h.kind_is;
        feeds = feeds-failed gone taken (i ∷ []) old.feeder new.feeder p.4 unfinished p.5 stands;
        going = λ none. absurd (cc);
        ended = λ also is. record {
          cause = inr (cc, p.5);
          whole = λ all. absurd (cc);
        };
      },
      p.2,
      inr p.3,
    )

    -- what it becomes at its end
    ends-so : (why : Reason) → new.ahead ≡ old.ahead → new.taken ≡ old.taken
        → new.ended ≡ Some why → new.feeder.packer.arriving.slack ≡ old.feeder.packer.arriving.slack
        → new.feeder.packer.arriving.window.kind ≡ old.feeder.packer.arriving.window.kind
        → Feeds gone taken new.feeder → HasEndedFor new why
        → InflowStands s first left before now gone taken new
    ends-so why ahead counted is slack kind feeds ended = record {
      ahead = rw ahead h.ahead;
      counted = counted ∙ h.counted;
      few = rw (counted, ahead) h.few;
      slack_is = slack ∙ h.slack_is;
      kind_is = kind ∙ h.kind_is;
      feeds = feeds;
      going = λ none. absurd (cc);
      ended = λ also so.
          let same : also ≡ why = cc in
          subst (λ (r : Reason). HasEndedFor new r) (sym same) ended;
    }

    finishes : (given why : Reason) → old.ahead.next ≡ next.Ended given → new.ahead ≡ old.ahead
        → new.taken ≡ old.taken → new.ended ≡ Some why
        → FinishesFor old.feeder new.feeder given why
        → InflowStands s first left before now gone taken new
    finishes given why next_is ahead counted is f =
        ⊎_elim
        (λ other.
        let same : new.feeder ≡ old.feeder = other.2 in
        ends-so why ahead counted is
        (ap (λ (f : Feeder). f.packer.arriving.slack) same)
        (ap (λ (f : Feeder). f.packer.arriving.window.kind) same)
        (subst (λ (f : Feeder). Feeds gone taken f) (sym same) h.feeds)
        (record {
          cause = inl (ap (λ (a : Ahead). a.next) ahead ∙ next_is ∙ ap next.Ended (sym other.1));
          whole = λ all. absurd (other.0 (sym other.1 ∙ all));
        }))
        (⊎_elim
        (λ all. ends-so why ahead counted is all.2.packer.slack all.2.packer.kind
        (feeds-all gone taken old.feeder new.feeder all.2 stands)
        (record {
          cause = inl (ap (λ (a : Ahead). a.next) ahead ∙ next_is ∙ ap next.Ended (sym all.1));
          whole = λ _. (all.2.unfailed, all.2.finished);
        }))
        (λ lack.
        let keeps : FeederKeeps old.feeder new.feeder = lack.1 in
        ends-so why ahead counted is keeps.packer.slack keeps.packer.kind
        (subst (λ (l : List Item). Feeds gone l new.feeder) (append-nil taken)
        (feeds-failed gone taken [] old.feeder new.feeder keeps unfinished lack.2 stands))
        (record {
          cause = inr (lack.0, lack.2);
          whole = λ all. absurd (cc);
        })))
        f

    -- no arrival is left
    pub turn-end : (given : Reason) → old.ahead.next ≡ next.Ended given → (turn : Turn)
        → Ends old new given turn → TurnsTo s first left before now gone new taken turn
    turn-end given next_is turn e =
        subst (λ (t : Turn). TurnsTo s first left before now gone new taken t) (sym e.1) (
          [],
          subst (λ (l : List Item). InflowStands s first left before now gone l new)
              (sym (append-nil taken))
              (finishes given e.0 next_is e.3 e.4 e.2 e.5),
          e.2,
          inl refl,
        )

-- it had ended before
pub turn-again : (s : SourceDecl) (first left : Option (List ℕ)) (before now : ℕ)
    (gone : List Fed) (taken : List Item) (f : Inflow) (why : Reason) → f.ended ≡ Some why
    → InflowStands s first left before now gone taken f
    → TurnsTo s first left before now gone f taken (Ended why)
turn-again s first left before now gone taken f why is h = (
  [],
  subst (λ (l : List Item). InflowStands s first left before now gone l f)
      (sym (append-nil taken)) h,
  is,
  inl refl,
)

most-turns : (items : ℕ) (n : Next) → turns_after items n ≤ 4000002
most-turns items (next.Item i) = omega arith
most-turns items (next.Ended why) = omega arith

-- nothing was taken yet
pub stands-new : (s : SourceDecl) (first left : Option (List ℕ)) (before now : ℕ)
    (gone : List Fed) (f : Inflow) → IsFresh s gone f.feeder
    → HasTaken s.schema s.slack first left before now f.ahead [] → f.taken ≡ 0 → f.ended ≡ None
    → InflowStands s first left before now gone [] f
stands-new s first left before now gone f fresh ahead none going = record {
  ahead = ahead;
  counted = none;
  few = omega (arith, none, most-turns f.ahead.reader.reached.items f.ahead.next);
  slack_is = ap (λ (a : Arriving). a.slack) fresh.arriving;
  kind_is = ap (λ (a : Arriving). a.window.kind) fresh.arriving;
  feeds = feeds-none gone f.feeder fresh.stands fresh.unfailed fresh.begins;
  going = λ _. fresh.unfailed;
  ended = λ why is. absurd (cc);
}

-- the stamp of the next arrival
pub stamp-none : (s : SourceDecl) (first left : Option (List ℕ)) (before now : ℕ)
    (gone : List Fed) (taken : List Item) (f : Inflow) (n : Next) → f.ahead.next ≡ n
    → InflowStands s first left before now gone taken f → turn_of n ≡ 0
    → None ≡ stamp_ahead None n
stamp-none s first left before now gone taken f (next.Item i) is h zero = absurd (omega arith)
stamp-none s first left before now gone taken f (next.Ended why) is h zero = refl

pub stamp-some : (s : SourceDecl) (first left : Option (List ℕ)) (before now : ℕ)
    (gone : List Fed) (taken : List Item) (f : Inflow) (n : Next) → f.ahead.next ≡ n
    → InflowStands s first left before now gone taken f → (at : ℕ) → turn_of n ≡ at + 1
    → Some at ≡ stamp_ahead None n
stamp-some s first left before now gone taken f (next.Item i) is h at turn =
    let below = (may-next s first left before now gone taken f i h is).below in
    ap Some (omega (arith, below, turn))
stamp-some s first left before now gone taken f (next.Ended why) is h at turn =
    absurd (omega (arith, turn))

never-none : (o : Option Reason) → option_or o (Some reason.Memory) ≡ None → ⊥
never-none None is = absurd (cc)
never-none (Some r) is = absurd (cc)

keeps-failed : (gone : List Fed) (taken : List Item) (old new : Feeder) → FeederKeeps old new
    → old.finished ≡ false → new.packer.failed ≡ true → (b : Bool) → old.packer.failed ≡ b
    → Feeds gone taken old → Feeds gone taken new
keeps-failed gone taken old new k unfinished failed false was h =
    subst (λ (l : List Item). Feeds gone l new) (append-nil taken)
    (feeds-failed gone taken [] old new k unfinished failed (h.going was unfinished))
keeps-failed gone taken old new k unfinished failed true was h =
    feeds-still_failed gone taken old new k unfinished failed (h.failed was)

ended-failed : (old new : Inflow) → new.ahead ≡ old.ahead → FeederKeeps old.feeder new.feeder
    → old.feeder.finished ≡ false → new.feeder.packer.failed ≡ true → (why : Reason)
    → (o : Option Reason) → old.ended ≡ o → option_or o (Some reason.Memory) ≡ Some why
    → ((r : Reason) → old.ended ≡ Some r → HasEndedFor old r) → HasEndedFor new why
ended-failed old new ahead k unfinished failed why None was is h = record {
  cause = inr (cc, failed);
  whole = λ all. absurd (cc);
}
ended-failed old new ahead k unfinished failed why (Some r) was is h =
    let e : HasEndedFor old why = h why (was ∙ is) in record {
      cause = ⊎_elim (λ n. inl (ap (λ (a : Ahead). a.next) ahead ∙ n))
          (λ lack. inr (lack.0, failed)) e.cause;
      whole = λ all. absurd (let so = (e.whole all).1 in cc);
    }

-- it was finished where it is
pub finish-ends : (s : SourceDecl) (first left : Option (List ℕ)) (before now : ℕ)
    (gone : List Fed) (taken : List Item) (old new : Inflow) → new.ahead ≡ old.ahead
    → new.taken ≡ old.taken → new.ended ≡ old.ended → old.feeder.finished ≡ false
    → old.feeder.packer.failed ≡ false → FeederEnds old.feeder new.feeder
    → InflowStands s first left before now gone taken old
    → InflowStands s first left before now gone taken new
finish-ends s first left before now gone taken old new ahead counted ended unfinished unfailed e h =
    record {
      ahead = rw ahead h.ahead;
      counted = counted ∙ h.counted;
      few = rw (counted, ahead) h.few;
      slack_is = e.packer.slack ∙ h.slack_is;
      kind_is = e.packer.kind ∙ h.kind_is;
      feeds = feeds-all gone taken old.feeder new.feeder e (h.feeds.going unfailed unfinished);
      going = λ _. e.unfailed;
      ended = λ why is.
          let was : HasEndedFor old why = h.ended why (sym ended ∙ is) in record {
            cause = ⊎_elim (λ n. inl (ap (λ (a : Ahead). a.next) ahead ∙ n))
                (λ lack. absurd (cc)) was.cause;
            whole = λ _. (e.unfailed, e.finished);
          };
    }

-- memory was wanting for that
finish-fails : (s : SourceDecl) (first left : Option (List ℕ)) (before now : ℕ)
    (gone : List Fed) (taken : List Item) (old new : Inflow) → new.ahead ≡ old.ahead
    → new.taken ≡ old.taken → new.ended ≡ option_or old.ended (Some reason.Memory)
    → FeederKeeps old.feeder new.feeder → old.feeder.finished ≡ false
    → new.feeder.packer.failed ≡ true
    → InflowStands s first left before now gone taken old
    → InflowStands s first left before now gone taken new
finish-fails s first left before now gone taken old new ahead counted ended k unfinished failed h =
    record {
      ahead = rw ahead h.ahead;
      counted = counted ∙ h.counted;
      few = rw (counted, ahead) h.few;
      slack_is = k.packer.slack ∙ h.slack_is;
      kind_is = k.packer.kind ∙ h.kind_is;
      feeds = keeps-failed gone taken old.feeder new.feeder k unfinished failed
          old.feeder.packer.failed refl h.feeds;
      going = λ none. absurd (never-none old.ended (sym ended ∙ none));
      ended = λ why is. ended-failed old new ahead k unfinished failed why old.ended refl
          (sym ended ∙ is) h.ended;
    }

pub finish-lacks : (s : SourceDecl) (first left : Option (List ℕ)) (before now : ℕ)
    (gone : List Fed) (taken : List Item) (old new : Inflow) → new.ahead ≡ old.ahead
    → new.taken ≡ old.taken → new.ended ≡ option_or old.ended (Some reason.Memory)
    → FeederKeeps old.feeder new.feeder → (b : Bool) → old.feeder.finished ≡ b
    → (old.feeder.finished ≡ true → new.feeder.packer ≡ old.feeder.packer)
    → new.feeder.packer.failed ≡ true
    → InflowStands s first left before now gone taken old
    → InflowStands s first left before now gone taken new
finish-lacks s first left before now gone taken old new ahead counted ended k false was same failed
    h = finish-fails s first left before now gone taken old new ahead counted ended k was failed h
finish-lacks s first left before now gone taken old new ahead counted ended k true was same failed
    h =
    let un = (h.feeds.finished was).0 in
    let one = ap (λ (p : Packing). p.failed) (same was) in
    absurd (cc)

-- it has finished
pub finish-done : (gone : List Fed) (taken : List Item) (old new : Feeder) (b : Bool)
    → old.finished ≡ b → Feeds gone taken old → (old.finished ≡ false → FeederEnds old new)
    → (old.finished ≡ true → FeederKeeps old new)
    → (old.finished ≡ true → new.packer ≡ old.packer)
    → (new.finished ≡ true) × (new.packer.failed ≡ false)
finish-done gone taken old new false was h ends keeps same =
    let e : FeederEnds old new = ends was in (e.finished, e.unfailed)
finish-done gone taken old new true was h ends keeps same = (
  (keeps was).finished ∙ was,
  ap (λ (p : Packing). p.failed) (same was) ∙ (h.finished was).0,
)

-- a turn that took an arrival left fewer
pub less-passes : (old mid new : Inflow) (i : Item) (turn : Turn) → Passes mid new i turn
    → turns_left mid.ahead < turns_left old.ahead → LeavesLess old new turn
less-passes old mid new i Moved p less = rw p.0 less
less-passes old mid new i NoRoom p less = absurd p
less-passes old mid new i (Ended why) p less = tt

-- where nothing was read
pub unread : {S : Type 0} (left : S → Option (List ℕ)) (faults : S → ℕ) (src src' : S)
    (s : SourceDecl) (first : Option (List ℕ)) (before : ℕ) (gone : List Fed) (taken : List Item)
    (f : Inflow) (turn : Turn) → src' ≡ src
    → TurnsTo s first (left src) before (faults src) gone f taken turn
    → TurnsTo s first (left src') before (faults src') gone f taken turn
unread {S} left faults src src' s first before gone taken f turn same h =
    subst (λ (x : S). TurnsTo s first (left x) before (faults x) gone f taken turn) (sym same) h
