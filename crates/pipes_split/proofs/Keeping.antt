-- Each kind of step keeps the rule, and tells what its play says.
use Rattle.std.proofs.Common.{◌≡◌, ◌≢◌, ℕ, zero, suc, ◌+◌, ◌-◌, ◌^◌, ◌<◌, ◌≤◌, max, true, false}
use Rattle.std.proofs.Common.{List, [], ◌∷◌, ◌++◌}
use Rattle.std.proofs.Common.{length, get_or, set, Some, None, refl, sym, ap, ◌∙◌, subst, ⊎_elim}
use Rattle.std.proofs.Common.{inl, inr, arith}
use Rattle.std.proofs.Common.{length-set, bit_or, replicate}
use mathlib.Core.Logic.{dite}
use mathlib.Core.Option.{some, none, some-ne-none, some-injective}
use native.Mathlib.Decide.{ℕ_discrete}
use lib.ListN.{get_elem?, get_or-replicate}
use Rattle.std.proofs.lemmas.Bool.{cases_lt}
use Rattle.std.specs.Int.Bits.{or_add_and}
use Rattle.std.proofs.lemmas.Nat.Bits.{and_pow}
use Rattle.std.proofs.lemmas.List.{set-get_or}
use Rattle.atomic_table.specs.Table.{step, keeps, stepped, Allows, Splits, Joins, Act, Valid}
use Rattle.atomic_table.specs.Table.{carried_after}
use Rattle.atomic_table.proofs.Lists.{set_else, set_again}
use Rattle.pipes_time.specs.Interval.{horizon}
use Rattle.pipes_split.specs.declared.views.View.{View}
use Rattle.pipes_split.specs.declared.views.Kind.{Kind}
use Rattle.pipes_split.specs.declared.views.Kind.TheVariants as kind
use Rattle.pipes_split.specs.Views.{epochs, last_epoch, all_halts, all_words, halt_word, Map}
use Rattle.pipes_split.specs.Views.{greatest_at, first_value_at, is_among, low, split_of, has_asked}
use Rattle.pipes_split.specs.Views.{act, blank, first_view, with_step, with_end, with_split}
use Rattle.pipes_split.specs.Views.{with_halt, note_of, joined, without_note}
use Rattle.pipes_split.specs.Rule.{HasView, ViewFits, EpochRule, HaltRule, Book, SplitRule}
use Rattle.pipes_split.specs.Rule.{EndsLieBelow, SplitsAgree, WordsHoldEnds, HaltsWereAsked}
use Rattle.pipes_split.specs.Rule.{CloserKnows}
use Rattle.pipes_split.specs.AfterSteps.{MySeat, AgreesWith, OpenTells, ClosedTells, NoteSays}
use Rattle.pipes_split.specs.AfterSteps.{after_raise}
use Rattle.pipes_split.specs.AfterSteps.{after_look, after_close, after_halt, after_halted}
use Rattle.pipes_split.specs.AfterSteps.{after_read}
use Rattle.pipes_split.proofs.Maps.{greatest-here, greatest-other, first-here, first-other}
use Rattle.pipes_split.proofs.Maps.{key-here, key-other, key-kept}
use Rattle.pipes_split.proofs.Maps.{none-unless, none-is, same-number, same-there, word-set}
use Rattle.pipes_split.proofs.Changes.{EpochMove, HaltMove, SameEpoch, NoteFits, rule-moved}
use Rattle.pipes_split.proofs.Changes.{epoch-still, halt-still, rule-longer}

-- the notes of a view that fits
note-fits : (n e : ℕ) (v w : View) → ViewFits n e v → w.noted_splits ≡ v.noted_splits
    → w.noted_ends ≡ v.noted_ends → NoteFits n e w
note-fits n e v w a splits ends = record {
  splits = λ t k. a.noted_split t (subst (λ (l : Map). first_value_at l e ≡ Some t) splits k);
  ends = let q : greatest_at w.noted_ends e ≡ greatest_at v.noted_ends e =
      ap (λ (l : Map). greatest_at l e) ends in
      omega (arith, a.noted_end, q);
}

-- What a step leaves as it was, whatever its kind.
record Unmoved (v w : View) : Type 0 where
  noted_splits : w.noted_splits ≡ v.noted_splits
  noted_ends : w.noted_ends ≡ v.noted_ends
  closes : w.closes ≡ v.closes

-- ---- a step on the word of the epoch i, which tells of this epoch alone
module _ (s : Book) (id i m : ℕ) (v w : View) (r : SplitRule s) (at : HasView s.views id v)
    (inside : i < epochs) where
  wide : i < length s.words
  wide = omega (arith, r.wide, inside)

  epoch-step : (i ≡ last_epoch → m < 2 ^ 63) → EpochMove (get_or s.words i 0) m i v w
      → ((e : ℕ) → e ≢ i → SameEpoch e v w) → w.asked ≡ v.asked → Unmoved v w
      → (c : List (ℕ × Unit {0})) → SplitRule (stepped s i m id c w keeps)
  epoch-step last move others asked same c =
      rule-moved s (set s.words i m) id v w r at (length-set s.words i m ∙ r.wide)
      (word-set (λ k. k < 2 ^ 63) s.words i m last_epoch wide (λ h. last (sym h))
      (λ _. r.last_open))
      same.closes each halts
    where
      each : (e : ℕ) → e < epochs
          → EpochMove (get_or s.words e 0) (get_or (set s.words i m) e 0) e v w
      each e h =
          word-set (λ k. EpochMove (get_or s.words e 0) k e v w) s.words i m e wide
          (λ here. subst (λ k. EpochMove (get_or s.words k 0) m k v w) (sym here) move)
          (λ ne. let a = (r.epoch e h).each id v at in
          epoch-still (get_or s.words e 0) e v w (r.epoch e h).within a (others e ne)
          (note-fits (get_or s.words e 0) e v w a same.noted_splits same.noted_ends))

      halts : (k : ℕ) → k < all_halts
          → HaltMove (get_or s.words (halt_word k) 0)
          (get_or (set s.words i m) (halt_word k) 0) k v w
      halts k h =
          word-set (λ n. HaltMove (get_or s.words (halt_word k) 0) n k v w) s.words i m
          (halt_word k) wide
          (λ here. absurd (omega (arith, inside, here)))
          (λ _. halt-still _ k s.views v w (r.halt k h) (ap (λ l. is_among l k) asked))

-- the word of an epoch that is closed isn't the last one
not-last : (s : Book) (e : ℕ) → SplitRule s → e < epochs → 2 ^ 63 ≤ get_or s.words e 0
    → e < last_epoch
not-last s e r h c =
    dite (ℕ_discrete e last_epoch)
    (λ q. let l : get_or s.words e 0 < 2 ^ 63 = subst (λ k. get_or s.words k 0 < 2 ^ 63)
    (sym q) r.last_open in
    absurd (omega (arith, l, c)))
    (λ ne. omega (arith, ne, h))

last-open : (s : Book) (e : ℕ) → SplitRule s → e ≡ last_epoch → get_or s.words e 0 < 2 ^ 63
last-open s e r q = subst (λ k. get_or s.words k 0 < 2 ^ 63) (sym q) r.last_open

-- no split of an open word is known
open-unknown : (n e : ℕ) (v : View) → n < 2 ^ 63 → ViewFits n e v → split_of v e ≡ None
open-unknown n e v h a =
    none-unless (split_of v e) (λ t k. let c = (a.split t k).closed in omega (arith, c, h))

-- the seat that closes knows the split of each closed word
closer-knows : (s : Book) (id e : ℕ) (v : View) → SplitRule s → HasView s.views id v → e < epochs
    → v.closes ≡ true
    → 2 ^ 63 ≤ get_or s.words e 0 → split_of v e ≡ Some (low (get_or s.words e 0) + 1)
closer-knows s id e v r at h mark c =
    let z = (r.epoch e h).closed_by c in
    let same : z.0 ≡ id = r.closer.4 z.0 z.1 z.2 z.3 ∙ sym (r.closer.4 id v at mark) in
    ap (λ (u : View). split_of u e) (same-there s.views id z.0 v z.1 at z.2 same) ∙ z.4

-- ---- the view learns the split of a word, which was n and is m
module _ (k : Kind) (n e : ℕ) (v : View) (within : low n ≤ horizon) (a : ViewFits n e v) where
  learnt-here : split_of (with_split k v e n) e ≡ Some (low n + 1)
  learnt-here = first-here v.splits e (low n + 1)

  learnt-number : (t : ℕ) → split_of (with_split k v e n) e ≡ Some t → t ≡ low n + 1
  learnt-number t h = same-number t (low n + 1) (sym h ∙ learnt-here)

  learns-closed : 2 ^ 63 ≤ n → EpochMove n n e v (with_split k v e n)
  learns-closed c = record {
    within = within;
    grows = omega arith;
    closed_stays = λ _. refl;
    fits = record {
      top = a.top;
      split = λ t h. record { closed = c; above = learnt-number t h };
      noted_split = a.noted_split;
      noted_end = a.noted_end;
    };
    top = omega arith;
    reached = inl refl;
    split = λ t h. (low n + 1, learnt-here);
    closing = λ _. inl c;
  }

  learns-closing : v.closes ≡ true → n < 2 ^ 63 → EpochMove n (n + 2 ^ 63) e v (with_split k v e n)
  learns-closing mark h = record {
    within = omega (arith, within);
    grows = omega arith;
    closed_stays = λ c. absurd (omega (arith, h, c));
    fits = record {
      top = omega (arith, a.top);
      split = λ t q. record { closed = omega arith; above = omega (arith, h, learnt-number t q) };
      noted_split = λ t q. let c = (a.noted_split t q).closed in absurd (omega (arith, h, c));
      noted_end = omega (arith, a.noted_end);
    };
    top = omega arith;
    reached = inl (omega arith);
    split = λ t q. (low n + 1, learnt-here);
    closing = λ _. inr (mark, (low n + 1, learnt-here));
  }

learnt-others : (k : Kind) (n e : ℕ) (v : View) (i : ℕ) → i ≢ e → SameEpoch i v (with_split k v e n)
learnt-others k n e v i ne = record { top = refl; split = first-other v.splits e i (low n + 1) ne }

-- the word agrees with what the view knew
agrees : (n e : ℕ) (v : View) → low n ≤ horizon → ViewFits n e v → AgreesWith n e v
agrees n e v within a = record { within = within; before = λ t k. (a.split t k).above; top = a.top }

-- ---- raise
raise-move : (n e x : ℕ) (v : View) → n < 2 ^ 63 → low n ≤ horizon → x ≤ horizon → ViewFits n e v
    → EpochMove n (max n x) e v (with_end v e x n)
raise-move n e x v h within most a =
    let here = greatest-here v.ends e x in
    record {
      within = omega (arith, h, within, most);
      grows = omega (arith, h, most);
      closed_stays = λ c. absurd (omega (arith, h, c));
      fits = record {
        top = omega (arith, here, a.top, h, most);
        split = λ t k. let c = (a.split t k).closed in absurd (omega (arith, h, c));
        noted_split = λ t k. let c = (a.noted_split t k).closed in absurd (omega (arith, h, c));
        noted_end = omega (arith, a.noted_end, h, most);
      };
      top = omega (arith, here);
      reached = ⊎_elim
          (λ (less : n < x). inr (omega (arith, here, a.top, h, most, less)))
          (λ (ge : x ≤ n). inl (omega (arith, h, most, ge)))
          (cases_lt n x);
      split = λ t k. let c = (a.split t k).closed in absurd (omega (arith, h, c));
      closing = λ c. absurd (omega (arith, h, most, c));
    }

-- the word as it is at the step, with what is known of it
module _ (s : Book) (id e : ℕ) (v : View) (r : SplitRule s) (at : HasView s.views id v)
    (inside : e < epochs) where
  abbrev word : ℕ
  word = get_or s.words e 0

  rule : EpochRule word e s.views
  rule = r.epoch e inside

  mine : ViewFits word e v
  mine = rule.each id v at

  -- a step that found the word closed
  met : (k : Kind) (m : ℕ) → m ≡ word → 2 ^ 63 ≤ word → (c : List (ℕ × Unit {0}))
      → SplitRule (stepped s e m id c (with_split k v e word) keeps)
  met k m same c carried =
      epoch-step s id e m v (with_split k v e word) r at inside
      (λ q. let l = last-open s e r q in absurd (omega (arith, l, c)))
      (subst (λ n. EpochMove word n e v (with_split k v e word)) (sym same)
      (learns-closed k word e v rule.within mine c))
      (learnt-others k word e v) refl
      (record { noted_splits = refl; noted_ends = refl; closes = refl }) carried

  met-tells : (k : Kind) → 2 ^ 63 ≤ word → ClosedTells k v e word (with_split k v e word)
  met-tells k c = record {
    early = not-last s e r inside c;
    closer = λ mark. closer-knows s id e v r at inside mark c;
    agrees = agrees word e v rule.within mine;
    view = refl;
  }

  unknown : word < 2 ^ 63 → split_of v e ≡ None
  unknown h = open-unknown word e v h mine

  raised : (x : ℕ) → x ≤ horizon → word < 2 ^ 63 → (c : List (ℕ × Unit {0}))
      → SplitRule (stepped s e (max word x) id c (with_end v e x word) keeps)
  raised x most h carried =
      epoch-step s id e (max word x) v (with_end v e x word) r at inside
      (λ _. omega (arith, h, most))
      (raise-move word e x v h rule.within most mine)
      (λ i ne. record { top = greatest-other v.ends e i x ne; split = refl })
      refl (record { noted_splits = refl; noted_ends = refl; closes = refl }) carried

  looked : word < 2 ^ 63 → (c : List (ℕ × Unit {0}))
      → SplitRule (stepped s e word id c (with_step (act kind.Look e word) v) keeps)
  looked h carried =
      epoch-step s id e word v (with_step (act kind.Look e word) v) r at inside (λ _. h)
      (epoch-still word e v (with_step (act kind.Look e word) v) rule.within mine
      (record { top = refl; split = refl })
      (record { splits = mine.noted_split; ends = mine.noted_end }))
      (λ i ne. record { top = refl; split = refl })
      refl (record { noted_splits = refl; noted_ends = refl; closes = refl }) carried

  closing : (m : ℕ) → m ≡ word + 2 ^ 63 → v.closes ≡ true → e < last_epoch → word < 2 ^ 63
      → (c : List (ℕ × Unit {0}))
      → SplitRule (stepped s e m id c (with_split kind.Close v e word) keeps)
  closing m is mark early h carried =
      epoch-step s id e m v (with_split kind.Close v e word) r at inside
      (λ q. absurd (omega (arith, early, q)))
      (subst (λ n. EpochMove word n e v (with_split kind.Close v e word)) (sym is)
      (learns-closing kind.Close word e v rule.within mine mark h))
      (learnt-others kind.Close word e v) refl
      (record { noted_splits = refl; noted_ends = refl; closes = refl }) carried

pub raises : (slots id : ℕ) (me : MySeat) (e x : ℕ) → e < epochs → x ≤ horizon
    → Allows SplitRule slots id me e (λ n. max n x) (after_raise (step slots e x 0 none) me)
raises slots id me e x inside most s r deep at fits = ⊎_elim free cut (cases_lt n (2 ^ 63))
  where
    n : ℕ
    n = get_or s.words e 0

    Goal : Type 0
    Goal =
        (w : View) × (a : Act (Unit {0})) × Valid s.homes me.1 a
        × SplitRule (stepped s e (max n x) id me.1 w a)
        × after_raise (step slots e x 0 none) me n (w, carried_after me.1 a)

    free : n < 2 ^ 63 → Goal
    free h =
        let w = with_end me.0 e x n in
        let known : OpenTells me.0 e w w =
        record { unknown = unknown s id e me.0 r at inside h; view = refl } in (
          w,
          keeps,
          tt,
          raised s id e me.0 r at inside x most h me.1,
          (record { free = λ _. known; cut = λ c. absurd (omega (arith, h, c)) }, refl),
        )

    cut : 2 ^ 63 ≤ n → Goal
    cut c =
        let w = with_split kind.Raise me.0 e n in (
          w,
          keeps,
          tt,
          met s id e me.0 r at inside kind.Raise (max n x) (omega (arith, most, c)) c me.1,
          (
            record {
              free = λ h. absurd (omega (arith, h, c));
              cut =
                  λ _. met-tells s id e me.0 r at inside kind.Raise c;
            },
            refl,
          ),
        )

pub looks : (slots id : ℕ) (me : MySeat) (e : ℕ) → e < epochs
    → Allows SplitRule slots id me e (λ n. n) (after_look (step slots e 0 0 none) me)
looks slots id me e inside s r deep at fits = ⊎_elim free cut (cases_lt n (2 ^ 63))
  where
    n : ℕ
    n = get_or s.words e 0

    Goal : Type 0
    Goal =
        (w : View) × (a : Act (Unit {0})) × Valid s.homes me.1 a
        × SplitRule (stepped s e n id me.1 w a)
        × after_look (step slots e 0 0 none) me n (w, carried_after me.1 a)

    free : n < 2 ^ 63 → Goal
    free h =
        let w = with_step (act kind.Look e n) me.0 in
        let known : OpenTells me.0 e w w =
        record { unknown = unknown s id e me.0 r at inside h; view = refl } in (
          w,
          keeps,
          tt,
          looked s id e me.0 r at inside h me.1,
          (record { free = λ _. known; cut = λ c. absurd (omega (arith, h, c)) }, refl),
        )

    cut : 2 ^ 63 ≤ n → Goal
    cut c = (
      with_split kind.Look me.0 e n,
      keeps,
      tt,
      met s id e me.0 r at inside kind.Look n refl c me.1,
      (
        record {
          free = λ h. absurd (omega (arith, h, c));
          cut =
              λ _. met-tells s id e me.0 r at inside kind.Look c;
        },
        refl,
      ),
    )

-- the bit of a closed word
or-high : (n : ℕ) → n < 2 ^ 64 → (n < 2 ^ 63 → bit_or n (2 ^ 63) ≡ n + 2 ^ 63)
    × (2 ^ 63 ≤ n → bit_or n (2 ^ 63) ≡ n)
or-high n h = let p = or_add_and n (2 ^ 63) in
    let q = and_pow n 63 in ((λ a. omega arith), (λ b. omega arith))

pub closes : (slots id : ℕ) (me : MySeat) (e : ℕ) → e < last_epoch → me.0.closes ≡ true
    → Allows SplitRule slots id me e (λ n. bit_or n (2 ^ 63))
    (after_close (step slots e (2 ^ 63) 0 none) me)
closes slots id me e early mark s r deep at fits = (
  w,
  keeps,
  tt,
  ⊎_elim free cut (cases_lt n (2 ^ 63)),
  (
    record {
      word = fits;
      agrees = agrees n e me.0 (rule s id e me.0 r at inside).within
          (mine s id e me.0 r at inside);
      view = refl;
    },
    refl,
  ),
)
  where
    inside : e < epochs
    inside = omega (arith, early)

    n : ℕ
    n = get_or s.words e 0

    w : View
    w = with_split kind.Close me.0 e n

    free : n < 2 ^ 63 → SplitRule (stepped s e (bit_or n (2 ^ 63)) id me.1 w keeps)
    free h = closing s id e me.0 r at inside (bit_or n (2 ^ 63))
        ((or-high n fits).0 h) mark early h me.1

    cut : 2 ^ 63 ≤ n → SplitRule (stepped s e (bit_or n (2 ^ 63)) id me.1 w keeps)
    cut c = met s id e me.0 r at inside kind.Close (bit_or n (2 ^ 63)) ((or-high n fits).1 c) c me.1

-- ---- a step on the halt word i
module _ (s : Book) (id i m : ℕ) (v w : View) (r : SplitRule s) (at : HasView s.views id v)
    (inside : i < all_halts) where
  halt-wide : halt_word i < length s.words
  halt-wide = omega (arith, r.wide, inside)

  halt-step : HaltMove (get_or s.words (halt_word i) 0) m i v w
      → ((k : ℕ) → k ≢ i → has_asked w k ≡ has_asked v k)
      → w.ends ≡ v.ends → w.splits ≡ v.splits → Unmoved v w
      → (c : List (ℕ × Unit {0})) → SplitRule (stepped s (halt_word i) m id c w keeps)
  halt-step move others ends splits same c =
      rule-moved s (set s.words (halt_word i) m) id v w r at
      (length-set s.words (halt_word i) m ∙ r.wide)
      (word-set (λ k. k < 2 ^ 63) s.words (halt_word i) m last_epoch halt-wide
      (λ h. absurd (omega (arith, h))) (λ _. r.last_open))
      same.closes each halts
    where
      each : (e : ℕ) → e < epochs
          → EpochMove (get_or s.words e 0) (get_or (set s.words (halt_word i) m) e 0) e v w
      each e h =
          word-set (λ k. EpochMove (get_or s.words e 0) k e v w) s.words (halt_word i) m e halt-wide
          (λ here. absurd (omega (arith, h, here)))
          (λ ne. let a = (r.epoch e h).each id v at in
          epoch-still (get_or s.words e 0) e v w (r.epoch e h).within a
          (record {
            top = ap (λ (l : Map). greatest_at l e) ends;
            split =
                ap (λ (l : Map). first_value_at l e) splits;
          })
          (note-fits (get_or s.words e 0) e v w a same.noted_splits same.noted_ends))

      halts : (k : ℕ) → k < all_halts
          → HaltMove (get_or s.words (halt_word k) 0)
          (get_or (set s.words (halt_word i) m) (halt_word k) 0) k v w
      halts k h =
          word-set (λ n. HaltMove (get_or s.words (halt_word k) 0) n k v w) s.words (halt_word i) m
          (halt_word k) halt-wide
          (λ here. let q : i ≡ k = omega (arith, here) in
          subst (λ z. HaltMove (get_or s.words (halt_word z) 0) m z v w) q move)
          (λ ne. halt-still _ k s.views v w (r.halt k h) (others k (λ q. ne (ap halt_word q))))

or-one : (n : ℕ) → n ≤ 1 → bit_or n 1 ≡ 1
or-one zero h = refl
or-one (suc n) h = let q : suc n ≡ 1 = omega (arith, h) in subst (λ k. bit_or k 1 ≡ 1) (sym q) refl

number-of : (i : ℕ) → halt_word i - epochs ≡ i
number-of i = omega arith

pub halts : (slots id : ℕ) (me : MySeat) (i : ℕ) → i < all_halts
    → Allows SplitRule slots id me (halt_word i) (λ n. bit_or n 1)
    (after_halt (step slots (halt_word i) 1 0 none) me)
halts slots id me i inside s r deep at fits = (
  w,
  keeps,
  tt,
  halt-step s id i (bit_or n 1) v w r at inside move (λ k ne. key-other v.asked i k ne) refl refl
      (record { noted_splits = refl; noted_ends = refl; closes = refl }) me.1,
  (ap (λ k. with_halt v k n) (sym (number-of i)), refl),
)
  where
    v : View
    v = me.0

    n : ℕ
    n = get_or s.words (halt_word i) 0

    w : View
    w = with_halt v i n

    move : HaltMove n (bit_or n 1) i v w
    move =
        let is = or-one n (r.halt i inside).bit in
        record {
          bit = omega (arith, is);
          asked = key-kept v.asked i i;
          rose =
              λ _. inr (key-here v.asked i);
        }

pub halteds : (slots id : ℕ) (me : MySeat) (i : ℕ) → i < all_halts
    → Allows SplitRule slots id me (halt_word i) (λ n. n)
    (after_halted (step slots (halt_word i) 0 0 none) me)
halteds slots id me i inside s r deep at fits = (
  w,
  keeps,
  tt,
  halt-step s id i n v w r at inside (halt-still n i s.views v w (r.halt i inside) refl)
      (λ k ne. refl) refl refl
      (record { noted_splits = refl; noted_ends = refl; closes = refl }) me.1,
  (ap (λ k. with_step (act kind.Halted k n) v) (sym (number-of i)), refl),
)
  where
    v : View
    v = me.0

    n : ℕ
    n = get_or s.words (halt_word i) 0

    w : View
    w = with_step (act kind.Halted i n) v

-- ---- seats are made and joined: no word changes
blank-fits : (n e : ℕ) → ViewFits n e blank
blank-fits n e = record {
  top = omega arith;
  split = λ t k. none-is t k;
  noted_split = λ t k. none-is t k;
  noted_end = omega arith;
}

-- the view of one seat changes in its notes and steps alone
view-moved : (s : Book) (id : ℕ) (v w : View) → SplitRule s → HasView s.views id v
    → w.closes ≡ v.closes
    → w.ends ≡ v.ends → w.splits ≡ v.splits → w.asked ≡ v.asked
    → ((e : ℕ) → e < epochs → NoteFits (get_or s.words e 0) e w)
    → SplitRule record { words = s.words; homes = s.homes; views = set s.views id w }
view-moved s id v w r at closes ends splits asked notes =
    rule-moved s s.words id v w r at r.wide r.last_open closes
    (λ e h. epoch-still (get_or s.words e 0) e v w (r.epoch e h).within ((r.epoch e h).each id v at)
    (record {
      top = ap (λ (l : Map). greatest_at l e) ends;
      split =
          ap (λ (l : Map). first_value_at l e) splits;
    }) (notes e h))
    (λ i h. halt-still _ i s.views v w (r.halt i h) (ap (λ l. is_among l i) asked))

no-note : (n e : ℕ) (w : View) → w.noted_splits ≡ [] → w.noted_ends ≡ [] → NoteFits n e w
no-note n e w splits ends = record {
  splits = λ t k. none-is t (ap (λ (l : Map). first_value_at l e) (sym splits) ∙ k);
  ends = let q : greatest_at w.noted_ends e ≡ 0 = ap (λ (l : Map). greatest_at l e) ends in
      omega (arith, q);
}

splits-to : (id : ℕ) (v u : View)
    → ((s : Book) → SplitRule s → HasView s.views id v → (e : ℕ) → e < epochs
    → ViewFits (get_or s.words e 0) e u)
    → u.closes ≡ false → Splits SplitRule id v v u
splits-to id v u fits off s r at =
    subst (λ (l : List View). SplitRule record {
      words = s.words;
      homes = s.homes;
      views =
          l ++ u ∷ [];
    })
    (sym (set_again s.views id v at)) (rule-longer s u r (fits s r at) off)

pub splits-blank : (id : ℕ) (v : View) → Splits SplitRule id v v blank
splits-blank id v = splits-to id v blank (λ s r at e h. blank-fits (get_or s.words e 0) e) refl

pub splits-note : (id : ℕ) (v : View) → Splits SplitRule id v v (note_of v)
splits-note id v = splits-to id v (note_of v) fits refl
  where
    fits : (s : Book) → SplitRule s → HasView s.views id v → (e : ℕ) → e < epochs
        → ViewFits (get_or s.words e 0) e (note_of v)
    fits s r at e h =
        let a = (r.epoch e h).each id v at in
        record {
          top = omega arith;
          split = λ t k. none-is t k;
          noted_split = a.split;
          noted_end =
              a.top;
        }

pub joins-note : (id : ℕ) (v : View) (other : ℕ) (u : View)
    → Joins SplitRule id v other (note_of u) (joined v (note_of u)) blank
joins-note id v other u s r at apart there =
    view-moved record { words = s.words; homes = s.homes; views = set s.views id w } other
    (note_of u) blank first there
    refl refl refl refl (λ e h. no-note _ e blank refl refl)
  where
    w : View
    w = joined v (note_of u)

    was : HasView s.views other (note_of u)
    was = sym (set_else s.views id other w apart) ∙ there

    first : SplitRule record { words = s.words; homes = s.homes; views = set s.views id w }
    first = view-moved s id v w r at refl refl refl refl
        (λ e h. let a = (r.epoch e h).each other (note_of u) was in
        record { splits = a.noted_split; ends = a.noted_end })

pub reads : (slots id : ℕ) (me : MySeat)
    → Allows SplitRule slots id me 0 (λ n. n) (after_read (step slots 0 0 0 none) me)
reads slots id me s r deep at fits = (w, keeps, tt, kept, (says, refl, refl))
  where
    w : View
    w = without_note me.0 (get_or s.words 0 0)

    kept : SplitRule (stepped s 0 (get_or s.words 0 0) id me.1 w keeps)
    kept =
        subst (λ (ws : List ℕ). SplitRule record {
          words = ws;
          homes = s.homes;
          views =
              set s.views id w;
        })
        (sym (set-get_or s.words 0 0))
        (view-moved s id me.0 w r at refl refl refl refl (λ e h. no-note _ e w refl refl))

    says : NoteSays me.0
    says = record {
      splits = λ e t h mark k. let a = ((r.epoch e h).each id me.0 at).noted_split t k in
          closer-knows s id e me.0 r at h mark a.closed ∙ ap Some (sym a.above);
      ends = λ e t h k. let a = (r.epoch e h).each id me.0 at in
          omega (arith, a.noted_end, (a.split t k).above);
    }

-- ---- the start
alone : (j : ℕ) (v : View) → get_elem? (first_view ∷ []) j ≡ some v → (j ≡ 0) × (first_view ≡ v)
alone zero v is = (refl, some-injective first_view v is)
alone (suc j) v is = absurd (some-ne-none v (sym is))

first-fits : (e : ℕ) → ViewFits 0 e first_view
first-fits e = record {
  top = omega arith;
  split = λ t k. none-is t k;
  noted_split = λ t k. none-is t k;
  noted_end = omega arith;
}

abbrev zero-word : ℕ
zero-word = 0

pub begins : SplitRule record { words = replicate all_words 0; homes = []; views = first_view ∷ [] }
begins = record {
  wide = refl;
  epoch = λ e h. subst (λ n. EpochRule n e (first_view ∷ [])) (sym (zeros e (omega (arith, h))))
      (at-first e);
  last_open = omega arith;
  halt = λ i h. subst (λ n. HaltRule n i (first_view ∷ []))
      (sym (zeros (halt_word i) (omega (arith, h))))
      (record { bit = omega arith; asked_by = λ one. absurd (omega (arith, one)) });
  closer = (0, first_view, refl, refl, λ k w is c. (alone k w is).0);
}
  where
    zeros : (e : ℕ) → e < all_words → get_or (replicate all_words zero-word) e 0 ≡ zero-word
    zeros e h = get_or-replicate all_words e zero-word 0 h

    at-first : (e : ℕ) → EpochRule 0 e (first_view ∷ [])
    at-first e = record {
      within = omega arith;
      each = λ j v is. subst (ViewFits 0 e) (alone j v is).1 (first-fits e);
      reached = inl refl;
      closed_by = λ c. absurd (omega (arith, c));
    }

-- ---- the laws across seats
pub ends-below : EndsLieBelow
ends-below s r e i j v w inside at there t k =
    let is = ((r.epoch e inside).each j w there).split t k in
    let top = ((r.epoch e inside).each i v at).top in
    omega (arith, is.above, top)

pub splits-agree : SplitsAgree
splits-agree s r e i j v w inside at there t u k l =
    (((r.epoch e inside).each i v at).split t k).above
    ∙ sym (((r.epoch e inside).each j w there).split u l).above

pub halts-were-asked : HaltsWereAsked
halts-were-asked s r i inside = (r.halt i inside).asked_by

pub words-hold-ends : WordsHoldEnds
words-hold-ends s r e inside =
    ((r.epoch e inside).reached, ((r.epoch e inside).closed_by, back))
  where
    n : ℕ
    n = get_or s.words e 0

    back : CloserKnows s.views e (low n + 1) → 2 ^ 63 ≤ n
    back z = (((r.epoch e inside).each z.0 z.1 z.2).split (low n + 1) z.4).closed
