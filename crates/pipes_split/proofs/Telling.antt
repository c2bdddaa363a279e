-- What the steps tell, in terms of what the seats know.
use Rattle.std.proofs.Common.{◌≡◌, ℕ, ◌+◌, ◌<◌, ◌≤◌, Some, None, refl, sym, ap, ◌∙◌, subst, arith}
use mathlib.Core.Logic.{dite}
use native.Mathlib.Decide.{ℕ_discrete}
use Rattle.pipes_split.specs.declared.views.View.{View}
use Rattle.pipes_split.specs.declared.views.Act.{Act}
use Rattle.pipes_split.specs.declared.views.Kind.{Kind}
use Rattle.pipes_split.specs.Views.{last_epoch, low, top_of, split_of, with_step, with_end}
use Rattle.pipes_split.specs.Views.{with_split, with_halt}
use Rattle.pipes_split.specs.Knowledge.{Knowledge, knows, KnowsMore, KnowsSame, EndRegistered}
use Rattle.pipes_split.specs.Knowledge.{SplitLearnt, SplitMet, FoundOpen, HaltAsked}
use Rattle.pipes_split.specs.AfterSteps.{AgreesWith, ClosedTells, OpenTells}
use Rattle.pipes_split.proofs.Maps.{greatest-here, greatest-other, first-here, first-other}
use Rattle.pipes_split.proofs.Maps.{key-here, key-other, key-kept}

-- ---- an end was registered
module _ (v : View) (e x n : ℕ) where
  abbrev w : View
  w = with_end v e x n

  tops : (i : ℕ) → top_of v i ≤ top_of w i
  tops i =
      dite (ℕ_discrete i e)
      (λ q. subst (λ k. top_of v k ≤ top_of w k) (sym q) (omega (arith, greatest-here v.ends e x)))
      (λ ne. omega (arith, greatest-other v.ends e i x ne))

  with-end : split_of v e ≡ None → EndRegistered (knows v) e x (knows w)
  with-end fresh = record {
    unknown = fresh;
    top = greatest-here v.ends e x;
    other_tops = λ i ne. greatest-other v.ends e i x ne;
    splits = λ i. refl;
    asked = λ i. refl;
    grows = record { tops = tops; splits = λ i t k. k; asked = λ i h. h; closes = refl };
  }

pub registered : (v w : View) (e x n : ℕ) → OpenTells v e (with_end v e x n) w
    → EndRegistered (knows v) e x (knows w)
registered v w e x n known_to =
    subst (λ (u : View). EndRegistered (knows v) e x (knows u)) (sym known_to.view)
    (with-end v e x n known_to.unknown)

-- ---- a split was learnt
module _ (k : Kind) (v : View) (e n : ℕ) (agrees : AgreesWith n e v) where
  abbrev u : View
  u = with_split k v e n

  splits : (i t : ℕ) → split_of v i ≡ Some t → split_of u i ≡ Some t
  splits i t h =
      dite (ℕ_discrete i e)
      (λ q. subst (λ j. split_of u j ≡ Some t) (sym q)
      (first-here v.splits e (low n + 1)
      ∙ ap Some (sym (agrees.before t (subst (λ j. split_of v j ≡ Some t) q h)))))
      (λ ne. first-other v.splits e i (low n + 1) ne ∙ h)

  with-split : e < last_epoch → SplitLearnt (knows v) e (low n + 1) (knows u)
  with-split early = record {
    known = first-here v.splits e (low n + 1);
    above = omega (arith, agrees.top);
    within = omega (arith, agrees.within);
    early = early;
    before = agrees.before;
    other_splits = λ i ne. first-other v.splits e i (low n + 1) ne;
    tops = λ i. refl;
    asked = λ i. refl;
    grows = record { tops = λ i. omega arith; splits = splits; asked = λ i h. h; closes = refl };
  }

pub learns : (k : Kind) (v w : View) (e n t : ℕ) → e < last_epoch → t ≡ low n + 1 → AgreesWith n e v
    → w ≡ with_split k v e n
    → SplitLearnt (knows v) e t (knows w)
learns k v w e n t early split agrees is =
    subst (λ (z : View). SplitLearnt (knows v) e t (knows z)) (sym is)
    (subst (λ (z : ℕ). SplitLearnt (knows v) e z (knows (with_split k v e n))) (sym split)
    (with-split k v e n agrees early))

pub meets : (k : Kind) (v w : View) (e n t : ℕ) → t ≡ low n + 1 → ClosedTells k v e n w
    → SplitMet (knows v) e t (knows w)
meets k v w e n t split known_to = record {
  closer = λ mark. known_to.closer mark ∙ ap Some (sym split);
  learnt = learns k v w e n t known_to.early split known_to.agrees known_to.view;
}

-- ---- nothing was learnt
pub same_after : (v w : View) (a : Act) → w ≡ with_step a v → KnowsSame (knows v) (knows w)
same_after v w a is =
    subst (λ (u : View). KnowsSame (knows v) (knows u)) (sym is)
    (record { tops = λ i. refl; splits = λ i. refl; asked = λ i. refl; closes = refl })

pub found_open : (v w : View) (e : ℕ) (a : Act) → OpenTells v e (with_step a v) w
    → FoundOpen (knows v) e (knows w)
found_open v w e a known_to = record {
  unknown = known_to.unknown;
  same =
      same_after v w a known_to.view;
}

pub same_grows : (k l : Knowledge) → KnowsSame k l → KnowsMore k l
same_grows k l s = record {
  tops = λ e. omega (arith, s.tops e);
  splits = λ e t h. s.splits e ∙ h;
  asked = λ i h. s.asked i ∙ h;
  closes = s.closes;
}

-- ---- a halt word was set
pub asks : (v w : View) (i n : ℕ) → w ≡ with_halt v i n → HaltAsked (knows v) i (knows w)
asks v w i n is =
    subst (λ (u : View). HaltAsked (knows v) i (knows u)) (sym is)
    (record {
      asked = key-here v.asked i;
      others = λ j ne. key-other v.asked i j ne;
      tops = λ e. refl;
      splits = λ e. refl;
      grows = record {
        tops = λ e. omega arith;
        splits = λ e t k. k;
        asked =
            λ j h. key-kept v.asked i j h;
        closes = refl;
      };
    })
