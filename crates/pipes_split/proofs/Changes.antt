-- One view and one word change, or a view joins the others, and the rule holds again.
use Rattle.std.proofs.Common.{◌≡◌, ◌≢◌, ◌⊎◌, ℕ, ◌+◌, ◌^◌, ◌<◌, ◌≤◌, true, false, List, [], ◌∷◌}
use Rattle.std.proofs.Common.{◌++◌}
use Rattle.std.proofs.Common.{length, get_or, set, Some, refl, sym, ap, ◌∙◌, subst, ⊎_elim, inl}
use Rattle.std.proofs.Common.{inr, arith}
use mathlib.Core.Logic.{dite}
use native.Mathlib.Decide.{ℕ_discrete}
use lib.ListN.{get_elem?}
use Rattle.atomic_table.proofs.Lists.{at_set, set_else, at_snoc, at_longer}
use Rattle.pipes_time.specs.Interval.{horizon}
use Rattle.pipes_split.specs.declared.views.View.{View}
use Rattle.pipes_split.specs.Views.{epochs, last_epoch, all_halts, all_words, halt_word}
use Rattle.pipes_split.specs.Views.{greatest_at, first_value_at, low, IsSplitOf, top_of, split_of}
use Rattle.pipes_split.specs.Views.{has_asked}
use Rattle.pipes_split.specs.Rule.{HasView, ViewFits, SomeTop, CloserKnows, EpochRule, HaltRule}
use Rattle.pipes_split.specs.Rule.{OneCloses, Book, SplitRule}
use Rattle.pipes_split.proofs.Maps.{at-set, same-there}

-- The word of the epoch e goes from n to m, and one view from v to w.
pub record EpochMove (n m e : ℕ) (v w : View) : Type 0 where
  pub within : low m ≤ horizon
  pub grows : low n ≤ low m
  pub closed_stays : 2 ^ 63 ≤ n → m ≡ n
  pub fits : ViewFits m e w
  pub top : top_of v e ≤ top_of w e
  pub reached : (low m ≡ low n) ⊎ (top_of w e ≡ low m)
  pub split : (t : ℕ) → split_of v e ≡ Some t → (u : ℕ) × (split_of w e ≡ Some u)
  pub closing : 2 ^ 63 ≤ m
      → (2 ^ 63 ≤ n) ⊎ ((w.closes ≡ true) × ((u : ℕ) × (split_of w e ≡ Some u)))

-- A halt word goes from n to m, and one view from v to w.
pub record HaltMove (n m i : ℕ) (v w : View) : Type 0 where
  pub bit : m ≤ 1
  pub asked : has_asked v i ≡ true → has_asked w i ≡ true
  pub rose : m ≡ 1 → (n ≡ 1) ⊎ (has_asked w i ≡ true)

-- what the word says of the other views
split-kept : (n m t : ℕ) → (2 ^ 63 ≤ n → m ≡ n) → IsSplitOf n t → IsSplitOf m t
split-kept n m t stays s = subst (λ k. IsSplitOf k t) (sym (stays s.closed)) s

fits-kept : (n m e : ℕ) (u : View) → low n ≤ low m → (2 ^ 63 ≤ n → m ≡ n) → ViewFits n e u
    → ViewFits m e u
fits-kept n m e u grows stays a = record {
  top = omega (arith, a.top, grows);
  split = λ t k. split-kept n m t stays (a.split t k);
  noted_split = λ t k. split-kept n m t stays (a.noted_split t k);
  noted_end = omega (arith, a.noted_end, grows);
}

-- the seat `id` had the view v and has w
module _ (views : List View) (id : ℕ) (v w : View) (at : HasView views id v) where
  there : HasView (set views id w) id w
  there = at-set views id v w at

  -- a fact about a seat that is this one or another
  either : (P : View → Type 0) (j : ℕ) (u : View) → HasView views j u → (P v → P w) → P u
      → (k : ℕ) × (z : View) × HasView (set views id w) k z × P z
  either P j u is mine h =
      dite (ℕ_discrete j id)
      (λ same. (id, w, there, mine (subst P (sym (same-there views id j v u at is same)) h)))
      (λ ne. (j, u, set_else views id j w ne ∙ is, h))

  each-moved : (P Q : View → Type 0) → ((j : ℕ) (u : View) → HasView views j u → P u)
      → ((u : View) → P u → Q u) → Q w
      → (j : ℕ) (u : View) → HasView (set views id w) j u → Q u
  each-moved P Q all weaker mine j u is =
      ⊎_elim
      (λ (t : (j ≡ id) × (w ≡ u)). subst Q t.1 mine)
      (λ (t : (j ≢ id) × HasView views j u). weaker u (all j u t.1))
      (at_set views id j w u is)

  top-moved : (n m e : ℕ) → EpochMove n m e v w → ((low n ≡ 0) ⊎ SomeTop views e (low n))
      → (low m ≡ 0) ⊎ SomeTop (set views id w) e (low m)
  top-moved n m e move was =
      ⊎_elim
      (λ (same : low m ≡ low n).
      ⊎_elim
      (λ (z : low n ≡ 0). inl (same ∙ z))
      (λ (z : SomeTop views e (low n)).
      inr (either (λ u. top_of u e ≡ low m) z.0 z.1 z.2
      (λ q. let a = move.top in let b = move.fits.top in omega arith)
      (z.3 ∙ sym same)))
      was)
      (λ (top : top_of w e ≡ low m). inr (id, w, there, top))
      move.reached

  closer-moved : (n m e : ℕ) → w.closes ≡ v.closes → EpochMove n m e v w
      → (2 ^ 63 ≤ n → CloserKnows views e (low n + 1)) → 2 ^ 63 ≤ m
      → CloserKnows (set views id w) e (low m + 1)
  closer-moved n m e closes move was c = ⊎_elim before now (move.closing c)
    where
      Knows : View → Type 0
      Knows u = (u.closes ≡ true) × (split_of u e ≡ Some (low m + 1))

      mine : w.closes ≡ true → (u : ℕ) → split_of w e ≡ Some u → Knows w
      mine mark u k = (mark, k ∙ ap Some (move.fits.split u k).above)

      kept : Knows v → Knows w
      kept k = let s = move.split (low m + 1) k.1 in mine (closes ∙ k.0) s.0 s.1

      found : ((k : ℕ) × (z : View) × HasView (set views id w) k z × Knows z)
          → CloserKnows (set views id w) e (low m + 1)
      found k = (k.0, k.1, k.2, k.3.0, k.3.1)

      before : 2 ^ 63 ≤ n → CloserKnows (set views id w) e (low m + 1)
      before b =
          let z = was b in
          found (either Knows z.0 z.1 z.2 kept
          (z.3, z.4 ∙ ap (λ k. Some (low k + 1)) (sym (move.closed_stays b))))

      now : ((w.closes ≡ true) × ((u : ℕ) × (split_of w e ≡ Some u)))
          → CloserKnows (set views id w) e (low m + 1)
      now k = found (id, w, there, mine k.0 k.1.0 k.1.1)

  pub epoch-moved : (n m e : ℕ) → EpochRule n e views → w.closes ≡ v.closes → EpochMove n m e v w
      → EpochRule m e (set views id w)
  epoch-moved n m e r closes move = record {
    within = move.within;
    each = each-moved (ViewFits n e) (ViewFits m e) r.each
        (λ u. fits-kept n m e u move.grows move.closed_stays) move.fits;
    reached = top-moved n m e move r.reached;
    closed_by = closer-moved n m e closes move r.closed_by;
  }

  pub halt-moved : (n m i : ℕ) → HaltRule n i views → HaltMove n m i v w
      → HaltRule m i (set views id w)
  halt-moved n m i r move =
      record { bit = move.bit; asked_by = λ one. ⊎_elim was mine (move.rose one) }
    where
      Asker : Type 0
      Asker = (k : ℕ) × (z : View) × HasView (set views id w) k z × (has_asked z i ≡ true)

      was : n ≡ 1 → Asker
      was one = let z = r.asked_by one in
          either (λ u. has_asked u i ≡ true) z.0 z.1 z.2 move.asked z.3

      mine : has_asked w i ≡ true → Asker
      mine h = (id, w, there, h)

  pub one-moved : OneCloses views → w.closes ≡ v.closes → OneCloses (set views id w)
  one-moved z closes =
      let mark = either (λ u. u.closes ≡ true) z.0 z.1 z.2 (λ h. closes ∙ h) z.3 in (
        mark.0,
        mark.1,
        mark.2,
        mark.3,
        λ k u is c. only k u is c
            ∙ sym (only mark.0 mark.1 mark.2 mark.3),
      )
    where
      only : (k : ℕ) (u : View) → HasView (set views id w) k u → u.closes ≡ true → k ≡ z.0
      only k u is c =
          ⊎_elim
          (λ (t : (k ≡ id) × (w ≡ u)).
          z.4 k v (ap (get_elem? views) t.0 ∙ at) (sym closes ∙ ap (λ (y : View). y.closes) t.1
          ∙ c))
          (λ (t : (k ≢ id) × HasView views k u). z.4 k u t.1 c)
          (at_set views id k w u is)

-- the words become ws, and the view of the seat `id` becomes w
pub rule-moved : (s : Book) (ws : List ℕ) (id : ℕ) (v w : View) → SplitRule s → HasView s.views id v
    → length ws ≡ all_words → get_or ws last_epoch 0 < 2 ^ 63 → w.closes ≡ v.closes
    → ((e : ℕ) → e < epochs → EpochMove (get_or s.words e 0) (get_or ws e 0) e v w)
    → ((i : ℕ) → i < all_halts
    → HaltMove (get_or s.words (halt_word i) 0) (get_or ws (halt_word i) 0) i v w)
    → SplitRule record { words = ws; homes = s.homes; views = set s.views id w }
rule-moved s ws id v w r at wide last closes each halts = record {
  wide = wide;
  epoch = λ e h. epoch-moved s.views id v w at _ _ e (r.epoch e h) closes (each e h);
  last_open = last;
  halt = λ i h. halt-moved s.views id v w at _ _ i (r.halt i h) (halts i h);
  closer = one-moved s.views id v w at r.closer closes;
}

-- Of an epoch the views v and w know the same, but for their notes.
pub record SameEpoch (e : ℕ) (v w : View) : Type 0 where
  pub top : top_of w e ≡ top_of v e
  pub split : split_of w e ≡ split_of v e

-- the notes of a view fit the word
pub record NoteFits (n e : ℕ) (v : View) : Type 0 where
  pub splits : (t : ℕ) → first_value_at v.noted_splits e ≡ Some t → IsSplitOf n t
  pub ends : greatest_at v.noted_ends e ≤ low n

-- the word of the epoch stays
pub epoch-still : (n e : ℕ) (v w : View) → low n ≤ horizon → ViewFits n e v → SameEpoch e v w
    → NoteFits n e w
    → EpochMove n n e v w
epoch-still n e v w within a same note = record {
  within = within;
  grows = omega arith;
  closed_stays = λ _. refl;
  fits = record {
    top = omega (arith, a.top, same.top);
    split = λ t k. a.split t (sym same.split ∙ k);
    noted_split = note.splits;
    noted_end = note.ends;
  };
  top = omega (arith, same.top);
  reached = inl refl;
  split = λ t k. (t, same.split ∙ k);
  closing = λ c. inl c;
}

pub halt-still : (n i : ℕ) (views : List View) (v w : View) → HaltRule n i views
    → has_asked w i ≡ has_asked v i
    → HaltMove n n i v w
halt-still n i views v w r same =
    record { bit = r.bit; asked = λ h. same ∙ h; rose = λ one. inl one }

-- ---- one more view
epoch-longer : (n e : ℕ) (views : List View) (w : View) → EpochRule n e views → ViewFits n e w
    → EpochRule n e (views ++ w ∷ [])
epoch-longer n e views w r a = record {
  within = r.within;
  each = λ j u is.
      ⊎_elim (λ (t : HasView views j u). r.each j u t) (λ (t : w ≡ u). subst (ViewFits n e) t a)
      (at_snoc views w u j is);
  reached = ⊎_elim (λ (z : low n ≡ 0). inl z)
      (λ (z : SomeTop views e (low n)). inr
      (z.0, z.1, at_longer views (w ∷ []) z.0 z.1 z.2, z.3)) r.reached;
  closed_by = λ c. let z =
      r.closed_by c in (z.0, z.1, at_longer views (w ∷ []) z.0 z.1 z.2, z.3, z.4);
}

halt-longer : (n i : ℕ) (views : List View) (w : View) → HaltRule n i views
    → HaltRule n i (views ++ w ∷ [])
halt-longer n i views w r = record {
  bit = r.bit;
  asked_by = λ one. let z = r.asked_by one in (z.0, z.1, at_longer views (w ∷ []) z.0 z.1 z.2, z.3);
}

one-longer : (views : List View) (w : View) → OneCloses views → w.closes ≡ false
    → OneCloses (views ++ w ∷ [])
one-longer views w z off = (z.0, z.1, at_longer views (w ∷ []) z.0 z.1 z.2, z.3, only)
  where
    only : (k : ℕ) (u : View) → HasView (views ++ w ∷ []) k u → u.closes ≡ true → k ≡ z.0
    only k u is c =
        ⊎_elim
        (λ (t : HasView views k u). z.4 k u t c)
        (λ (t : w ≡ u). absurd (let f : false ≡ true = sym off ∙ ap (λ (y : View). y.closes) t
        ∙ c in cc))
        (at_snoc views w u k is)

pub rule-longer : (s : Book) (w : View) → SplitRule s
    → ((e : ℕ) → e < epochs → ViewFits (get_or s.words e 0) e w) → w.closes ≡ false
    → SplitRule record { words = s.words; homes = s.homes; views = s.views ++ w ∷ [] }
rule-longer s w r a off = record {
  wide = r.wide;
  epoch = λ e h. epoch-longer _ e s.views w (r.epoch e h) (a e h);
  last_open = r.last_open;
  halt = λ i h. halt-longer _ i s.views w (r.halt i h);
  closer = one-longer s.views w r.closer off;
}
