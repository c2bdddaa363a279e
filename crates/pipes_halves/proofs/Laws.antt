-- What comes on both sides of a split stands for the source's list.
use Rattle.std.proofs.Common.{◌≡◌, ℕ, ◌≤◌, ◌<◌, max, Bool, true, false, nat_lt, List, [], ◌∷◌, ◌++◌}
use Rattle.std.proofs.Common.{if◌then◌else◌, Option, Some, None, refl, sym, ap, subst, ◌∙◌, arith, ⊎_elim}
use Rattle.std.specs.List.{All}
use Rattle.std.proofs.lemmas.Bool.{cases_lt, lt-ltb, le-ltb}
use Rattle.std.proofs.lemmas.List.{append-nil}
use Rattle.std.proofs.lemmas.List.Elements.{All-head, All-tail}
use Rattle.pipes_time.specs.Interval.{closed, IsInterval, Holds}
use Rattle.pipes_tuple.specs.declared.value.Value.{Value}
use Rattle.pipes_tuple.specs.Bag.{SameBag}
use Rattle.pipes_tuple.proofs.Bags.{SameBag-refl}
use Rattle.pipes_stream.specs.declared.Elem.{Elem}
use Rattle.pipes_stream.specs.declared.message.Message.{Message}
use Rattle.pipes_stream.specs.declared.message.Message.TheVariants as message
use Rattle.pipes_stream.specs.Snapshot.{snapshot}
use Rattle.pipes_stream.specs.Lists.{CanFollow, after, run, start_of_list, Valid, beat, HasEnded}
use Rattle.pipes_stream.specs.Lists.{elements}
use Rattle.pipes_stream.proofs.Messages.{beat-closed, beat-ended, valid-push}
use Rattle.pipes_split.specs.Cutting.{IsCut}
use Rattle.pipes_halves.specs.Halves.{IsHalved, IsCutThere, ArePart, low_part, high_part}
use Rattle.pipes_halves.specs.Halves.{low_opening, high_opening, grown, StandsBelow, StandsFrom}
use Rattle.pipes_halves.specs.Halves.{SplitsUp, IsSoFar, SplitLaws}
use Rattle.pipes_halves.proofs.Parts.{held-no, snapshot-same, snapshot-none, first-there, first-gone}
use Rattle.pipes_halves.proofs.Parts.{second-there, second-gone}
use Rattle.pipes_halves.proofs.Sides.{beat-push, ended-push, grown-going, grown-over, below-goes}
use Rattle.pipes_halves.proofs.Sides.{below-ends, from-goes, from-stays, same-push}

module _ (split base : ℕ) (close : split ≤ closed) (all below from : List Message)
    (valid : Valid all) where
  -- ---- an element

  low-elem : (e : Elem) (first second : Option Elem)
      → StandsBelow split base all below → CanFollow (run start_of_list all) (message.Elem e)
      → IsCut e split first second → ArePart first
      → StandsBelow split base (all ++ message.Elem e ∷ []) (grown below (low_part first))
  low-elem e (Some a) second s can cut part =
      let whole = can.2 in
      let there = first-there e a split second whole part cut in
      let at = beat-push all (message.Elem e) in
      let on = beat-push below (message.Elem a) in
      let start = there.1 in let under = there.0 in let behind = can.1 in
      let low : beat all < split = omega (arith, behind, under) in
      let level = s.beat_is low in
      below-goes split base all below (message.Elem e) (message.Elem a) s low
      (s.goes low, omega (arith, level, behind, start), part)
      (omega (arith, at, under)) (omega (arith, at, on, start))
      (ended-push below (message.Elem a) ∙ s.goes low)
      (λ t below_it. snapshot-same a e t cut.below.0 (
        λ h. ((cut.below.1 t).0 h).0,
        λ h. (cut.below.1 t).1 (h, below_it),
      ))
  low-elem e None second s can cut part =
      let over = first-gone e split second can.2 cut in
      let at = beat-push all (message.Elem e) in
      below-ends split base all below (message.Elem e) s (omega (arith, at, over))
      (λ t under. snapshot-none e t (λ h. (let start = h.0 in omega (arith, start, under, over))))

  high-elem : (e : Elem) (first second : Option Elem)
      → StandsFrom split all from → CanFollow (run start_of_list all) (message.Elem e)
      → IsCut e split first second → ArePart second
      → StandsFrom split (all ++ message.Elem e ∷ []) (from ++ high_part second)
  high-elem e first (Some b) s can cut part =
      let whole = can.2 in
      let there = second-there e b split first whole part cut in
      let at = beat-push all (message.Elem e) in
      let on = beat-push from (message.Elem b) in
      let start = there.1 in let behind = can.1 in let level = s.beat_is in
      from-goes split all from (message.Elem e) (message.Elem b) s
      (s.ended_is ∙ can.0, omega (arith, level, behind, start), part)
      (omega (arith, at, on, start))
      (ended-push from (message.Elem b) ∙ s.ended_is ∙ sym (ended-push all (message.Elem e)))
      (λ t over. snapshot-same b e t cut.above.0 (
        λ h. ((cut.above.1 t).0 h).0,
        λ h. (cut.above.1 t).1 (h, over),
      ))
  high-elem e first None s can cut part =
      let whole = can.2.0 in
      let end = second-gone e split first can.2 cut in
      let at = beat-push all (message.Elem e) in
      let behind = can.1 in let level = s.beat_is in
      from-stays split all from (message.Elem e) s
      (omega (arith, level, at, behind, whole, end))
      (s.ended_is ∙ sym (ended-push all (message.Elem e)))
      (λ t over. snapshot-none e t (λ h. (let last = h.1 in omega (arith, last, over, end))))

  -- ---- a heartbeat

  low-beat : (at : ℕ) → StandsBelow split base all below
      → CanFollow (run start_of_list all) (message.Beat at)
      → StandsBelow split base (all ++ message.Beat at ∷ [])
      (grown below ((if nat_lt at split then message.Beat at else message.End) ∷ []))
  low-beat at s can = ⊎_elim below_it over_it (cases_lt at split)
    where
      pushed : beat (all ++ message.Beat at ∷ []) ≡ at
      pushed = beat-push all (message.Beat at)

      below_it : at < split → StandsBelow split base (all ++ message.Beat at ∷ [])
          (grown below ((if nat_lt at split then message.Beat at else message.End) ∷ []))
      below_it under =
          let is = pushed in let behind = can.1 in let most = can.2 in
          let low : beat all < split = omega (arith, behind, under) in
          let level = s.beat_is low in
          let on = beat-push below (message.Beat at) in
          rw (lt-ltb at split under)
          (below-goes split base all below (message.Beat at) (message.Beat at) s low
          (s.goes low, omega (arith, level, behind), most) (omega (arith, is, under))
          (omega (arith, is, on)) (ended-push below (message.Beat at) ∙ s.goes low)
          (λ t below_it. refl))

      over_it : split ≤ at → StandsBelow split base (all ++ message.Beat at ∷ [])
          (grown below ((if nat_lt at split then message.Beat at else message.End) ∷ []))
      over_it over = let is = pushed in
          rw (le-ltb at split over)
          (below-ends split base all below (message.Beat at) s (omega (arith, is, over))
          (λ t under. refl))

  high-beat : (at : ℕ) → StandsFrom split all from
      → CanFollow (run start_of_list all) (message.Beat at)
      → StandsFrom split (all ++ message.Beat at ∷ []) (from ++ message.Beat (max at split) ∷ [])
  high-beat at s can =
      let is = beat-push all (message.Beat at) in
      let on = beat-push from (message.Beat (max at split)) in
      let behind = can.1 in let most = can.2 in let level = s.beat_is in
      from-goes split all from (message.Beat at) (message.Beat (max at split)) s
      (s.ended_is ∙ can.0, omega (arith, level, behind), omega (arith, most, close))
      (omega (arith, is, on))
      (ended-push from (message.Beat (max at split)) ∙ s.ended_is
      ∙ sym (ended-push all (message.Beat at)))
      (λ t over. refl)

  -- ---- the end

  low-end : StandsBelow split base all below
      → StandsBelow split base (all ++ message.End ∷ []) (grown below (message.End ∷ []))
  low-end s = let is = beat-push all message.End in
      below-ends split base all below message.End s (omega (arith, is, close)) (λ t under. refl)

  high-end : StandsFrom split all from → CanFollow (run start_of_list all) message.End
      → StandsFrom split (all ++ message.End ∷ []) (from ++ message.End ∷ [])
  high-end s can =
      let is = beat-push all message.End in let on = beat-push from message.End in
      from-goes split all from message.End message.End s (s.ended_is ∙ can)
      (omega (arith, is, on, close))
      (ended-push from message.End ∙ sym (ended-push all message.End))
      (λ t over. refl)

  -- ---- any message

  pub one-more : (m : Message) (lows highs : List Message) → SplitsUp split base all below from
      → CanFollow (run start_of_list all) m → IsHalved split m lows highs
      → SplitsUp split base (all ++ m ∷ []) (grown below lows) (from ++ highs)
  one-more (message.Elem e) lows highs s can h = record {
    low = subst (λ (l : List Message). StandsBelow split base (all ++ message.Elem e ∷ [])
        (grown below l)) (sym h.below_is) (low-elem e h.first h.second s.low can h.cut h.intervals.0);
    high = subst (λ (l : List Message). StandsFrom split (all ++ message.Elem e ∷ [])
        (from ++ l)) (sym h.from_is) (high-elem e h.first h.second s.high can h.cut h.intervals.1);
  }
  one-more (message.Beat at) lows highs s can h = record {
    low = subst (λ (l : List Message). StandsBelow split base (all ++ message.Beat at ∷ [])
        (grown below l)) (sym h.0) (low-beat at s.low can);
    high = subst (λ (l : List Message). StandsFrom split (all ++ message.Beat at ∷ [])
        (from ++ l)) (sym h.1) (high-beat at s.high can);
  }
  one-more message.End lows highs s can h = record {
    low = subst (λ (l : List Message). StandsBelow split base (all ++ message.End ∷ [])
        (grown below l)) (sym h.0) (low-end s.low);
    high = subst (λ (l : List Message). StandsFrom split (all ++ message.End ∷ [])
        (from ++ l)) (sym h.1) (high-end s.high can);
  }

-- ---- what comes first

none-valid : (t split : ℕ) (es : List Elem) → split ≤ t → All (λ e. e.span.end ≤ split) es
    → snapshot es t ≡ []
none-valid t split [] over ends = refl
none-valid t split (e ∷ es) over ends =
    let first = All-head (λ (e : Elem). e.span.end ≤ split) e es ends in
    rw (held-no e.span t (λ h. (let last = h.1 in omega (arith, last, over, first))))
    (none-valid t split es over (All-tail (λ (e : Elem). e.span.end ≤ split) e es ends))

opens-low : (split base : ℕ) (all given : List Message) → split ≤ closed
    → IsSoFar base all given
    → StandsBelow split base all (grown given (low_opening (beat all) split))
opens-low split base all given close g = ⊎_elim below_it over_it (cases_lt (beat all) split)
  where
    below_it : beat all < split
        → StandsBelow split base all (grown given (low_opening (beat all) split))
    below_it under = rw (lt-ltb (beat all) split under) (go (run start_of_list given).ended refl)
      where
        bare : (run start_of_list given).ended ≡ false → StandsBelow split base all given
        bare going = record {
          valid = g.valid;
          beat_is = λ low. g.beat_is;
          goes = λ low. going;
          past = λ high. absurd (omega (arith, high, under));
          same = λ t from low. g.same t from;
        }

        go : (b : Bool) → (run start_of_list given).ended ≡ b
            → StandsBelow split base all (grown given [])
        go true ended =
            let top = beat-ended given g.valid ended in let level = g.beat_is in
            absurd (omega (arith, top, level, under, close))
        go false going = subst (λ (l : List Message). StandsBelow split base all l)
            (sym (grown-going given [] going ∙ append-nil given)) (bare going)

    ended_same : (t : ℕ) → SameBag (snapshot (elements given) t) (snapshot (elements all) t)
        → SameBag (snapshot (elements (given ++ message.End ∷ [])) t)
        (snapshot (elements all) t)
    ended_same t same = subst (λ (l : List Message). SameBag
        (snapshot (elements (given ++ message.End ∷ [])) t) (snapshot (elements l) t))
        (append-nil all) (same-push given all (message.End ∷ []) [] t same refl)

    over_it : split ≤ beat all
        → StandsBelow split base all (grown given (low_opening (beat all) split))
    over_it over = rw (le-ltb (beat all) split over) (go (run start_of_list given).ended refl)
      where
        go : (b : Bool) → (run start_of_list given).ended ≡ b
            → StandsBelow split base all (grown given (message.End ∷ []))
        go true ended = subst (λ (l : List Message). StandsBelow split base all l)
            (sym (grown-over given (message.End ∷ []) ended)) (record {
              valid = g.valid;
              beat_is = λ low. absurd (omega (arith, low, over));
              goes = λ low. absurd (omega (arith, low, over));
              past = λ high. ended;
              same = λ t from low. g.same t from;
            })
        go false going = subst (λ (l : List Message). StandsBelow split base all l)
            (sym (grown-going given (message.End ∷ []) going)) (record {
              valid = valid-push start_of_list given message.End g.valid going;
              beat_is = λ low. absurd (omega (arith, low, over));
              goes = λ low. absurd (omega (arith, low, over));
              past = λ high. ended-push given message.End;
              same = λ t from low. ended_same t (g.same t from);
            })

opens-high : (split : ℕ) (all : List Message) (ended : Bool) → 1 ≤ split → split ≤ closed
    → Valid all → (run start_of_list all).ended ≡ ended
    → All (λ e. e.span.end ≤ split) (elements all)
    → StandsFrom split all (high_opening (beat all) ended split)
opens-high split all true some close valid is ends =
    let top = beat-ended all valid is in record {
      valid = (refl, tt);
      beat_is = omega (arith, top, close);
      ended_is = sym is;
      same = λ t over. subst (λ (l : List (List Value)). SameBag [] l)
          (sym (none-valid t split (elements all) over ends)) (SameBag-refl []);
    }
opens-high split all false some close valid is ends =
    let top = beat-closed all valid in record {
      valid = ((refl, omega arith, omega (arith, top, close)), tt);
      beat_is = refl;
      ended_is = sym is;
      same = λ t over. subst (λ (l : List (List Value)). SameBag [] l)
          (sym (none-valid t split (elements all) over ends)) (SameBag-refl []);
    }

pub split-laws : SplitLaws
split-laws = record {
  opens = λ split base all given some close low valid so_far ends. record {
    low = opens-low split base all given close so_far;
    high = opens-high split all (run start_of_list all).ended some close valid refl ends;
  };
  goes_on = λ split base all below from m lows highs close valid s can h.
      one-more split base close all below from valid m lows highs s can h;
  joins = λ split base all below from s past. (let level = s.high.beat_is in record {
    valid = s.high.valid;
    beat_is = omega (arith, level, past);
    ended_is = s.high.ended_is;
    same = s.high.same;
  });
}
