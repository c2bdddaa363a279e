-- What a feeder stands for, from call to call.
use Rattle.std.proofs.Common.{◌≡◌, List, [], ◌∷◌, ◌++◌, refl, sym, ap, ◌∙◌, subst, true, false}
use Rattle.pipes_window.specs.declared.item.Item.{Item}
use Rattle.pipes_link.specs.Ends.{sent}
use Rattle.pipes_split.specs.Knowledge.{Knowledge, seat_knows}
use Rattle.pipes_parcel.specs.declared.parcel.Fed.{Fed}
use Rattle.pipes_stream.specs.declared.Elem.{Elem}
use Rattle.pipes_packer.specs.Packing.{ArePacked, TopsAreEnds}
use Rattle.pipes_packer.specs.Packed.{Packing, HasPacked, HasPackedAll}
use Rattle.pipes_packer.proofs.Staying.{stays}
use Rattle.pipes_feeder.specs.declared.feeder.Feeder.{Feeder}
use Rattle.pipes_feeder.specs.Feeding.{messages, FeederStands, FeederKeeps, FeederStays}
use Rattle.pipes_feeder.specs.Feeding.{FeederTakes, FeederEnds}
use Rattle.pipes_inflow.specs.Inflows.{Feeds, HasPart}

messages-same : (gone : List Fed) (old new : Feeder)
    → sent new.outlet ++ new.pending.items ≡ sent old.outlet ++ old.pending.items
    → messages gone new ≡ messages gone old
messages-same gone old new is = ap (λ (l : List Fed). gone ++ l) is

tops-same : (k l : Knowledge) (es : List Elem) → l ≡ k → TopsAreEnds k es → TopsAreEnds l es
tops-same k l es is h = subst (λ (x : Knowledge). TopsAreEnds x es) (sym is) h

packed-same : (taken : List Item) (feds feds' : List Fed) (p q : Packing) → feds' ≡ feds
    → q.arriving ≡ p.arriving → seat_knows q.seat ≡ seat_knows p.seat → HasPacked taken feds p
    → HasPacked taken feds' q
packed-same taken feds feds' p q is arriving knows h = record {
  arrived = rw arriving h.arrived;
  packed = rw (is, arriving, knows) h.packed;
  tops = rw arriving (tops-same (seat_knows p.seat) (seat_knows q.seat) _ knows h.tops);
}

packed_all-same : (taken : List Item) (feds feds' : List Fed) (p q : Packing) → feds' ≡ feds
    → q.arriving ≡ p.arriving → seat_knows q.seat ≡ seat_knows p.seat → HasPackedAll taken feds p
    → HasPackedAll taken feds' q
packed_all-same taken feds feds' p q is arriving knows h = record {
  finished = rw arriving h.finished;
  packed = rw (is, arriving, knows) h.packed;
  tops = rw arriving (tops-same (seat_knows p.seat) (seat_knows q.seat) _ knows h.tops);
}

part-same : (gone : List Fed) (taken : List Item) (old new : Feeder) → FeederStays old new
    → HasPart gone taken old → HasPart gone taken new
part-same gone taken old new s h = record {
  first = h.first;
  rest = h.rest;
  all = h.all;
  packed = rw (s.arriving, s.knows, messages-same gone old new s.messages_kept) h.packed;
}

-- it stands for what it stood for
pub feeds-same : (gone : List Fed) (taken : List Item) (old new : Feeder) → FeederStays old new
    → Feeds gone taken old → Feeds gone taken new
feeds-same gone taken old new s h =
    let same : messages gone new ≡ messages gone old = messages-same gone old new s.messages_kept in
    record {
      going = λ unfailed unfinished. packed-same taken (messages gone old) (messages gone new)
          old.packer new.packer same s.arriving s.knows
          (h.going (sym s.failed ∙ unfailed) (sym s.finished ∙ unfinished));
      finished = λ finished.
          let all = h.finished (sym s.finished ∙ finished) in (
            s.failed ∙ all.0,
            packed_all-same taken (messages gone old) (messages gone new) old.packer new.packer
                same s.arriving s.knows all.1,
          );
      failed = λ failed. part-same gone taken old new s (h.failed (sym s.failed ∙ failed));
    }

packed-more : (gone : List Fed) (first : List Item) (old new : Feeder) → FeederKeeps old new
    → ArePacked (seat_knows old.packer.seat) old.packer.arriving.slack
    old.packer.arriving.window.kind first (messages gone old)
    → ArePacked (seat_knows new.packer.seat) new.packer.arriving.slack
    new.packer.arriving.window.kind first (messages gone new)
packed-more gone first old new k h =
    rw (messages-same gone old new k.messages_kept, k.packer.slack, k.packer.kind)
    (stays (seat_knows old.packer.seat) (seat_knows new.packer.seat) old.packer.arriving.slack
    old.packer.arriving.window.kind first (messages gone old) k.packer.grows h)

-- memory was wanting, at these arrivals
pub feeds-failed : (gone : List Fed) (first rest : List Item) (old new : Feeder)
    → FeederKeeps old new → old.finished ≡ false → new.packer.failed ≡ true
    → FeederStands gone first old → Feeds gone (first ++ rest) new
feeds-failed gone first rest old new k unfinished failed h = record {
  going = λ unfailed. absurd (cc);
  finished = λ finished. absurd (let same = k.finished in cc);
  failed = λ _. record {
    first = first;
    rest = rest;
    all = refl;
    packed = packed-more gone first old new k h.packed;
  };
}

-- memory was wanting before
pub feeds-still_failed : (gone : List Fed) (taken : List Item) (old new : Feeder)
    → FeederKeeps old new → old.finished ≡ false → new.packer.failed ≡ true
    → HasPart gone taken old → Feeds gone taken new
feeds-still_failed gone taken old new k unfinished failed h = record {
  going = λ unfailed. absurd (cc);
  finished = λ finished. absurd (let same = k.finished in cc);
  failed = λ _. record {
    first = h.first;
    rest = h.rest;
    all = h.all;
    packed = packed-more gone h.first old new k h.packed;
  };
}

-- one more arrival was taken
pub feeds-more : (gone : List Fed) (taken : List Item) (i : Item) (old new : Feeder)
    → FeederTakes old new i → old.finished ≡ false → FeederStands gone taken old
    → Feeds gone (taken ++ i ∷ []) new
feeds-more gone taken i old new t unfinished h = record {
  going = λ _ _. t.stands gone taken h;
  finished = λ finished. absurd (let same = t.finished in cc);
  failed = λ failed. absurd (let not = t.unfailed in cc);
}

-- it finished
pub feeds-all : (gone : List Fed) (taken : List Item) (old new : Feeder) → FeederEnds old new
    → FeederStands gone taken old → Feeds gone taken new
feeds-all gone taken old new e h = record {
  going = λ _ unfinished. absurd (let done = e.finished in cc);
  finished = λ _. (e.unfailed, e.stands gone taken h);
  failed = λ failed. absurd (let not = e.unfailed in cc);
}

-- nothing was taken yet
pub feeds-none : (gone : List Fed) (f : Feeder) → FeederStands gone [] f
    → f.packer.failed ≡ false → f.finished ≡ false → Feeds gone [] f
feeds-none gone f h unfailed unfinished = record {
  going = λ _ _. h;
  finished = λ finished. absurd (cc);
  failed = λ failed. absurd (cc);
}
