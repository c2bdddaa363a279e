-- What a merge sends, of what is known of both sides.
use Rattle.std.proofs.Common.{◌≡◌, ℕ, zero, suc, ◌+◌, ◌≤◌, ◌<◌, Bool, true, false, cond, List, []}
use Rattle.std.proofs.Common.{◌∷◌}
use Rattle.std.proofs.Common.{◌++◌, map, refl, sym, ◌∙◌, ap, subst, arith, inl, inr}
use Rattle.std.specs.List.{All}
use Rattle.std.proofs.lemmas.Bool.{cases_lt}
use Rattle.std.proofs.lemmas.Bool.Decides.{nat_tests}
use Rattle.std.proofs.lemmas.List.Elements.{All-nil, All-cons, All-head, All-tail}
use Rattle.pipes_tuple.specs.declared.value.Value.{Value}
use Rattle.pipes_tuple.specs.declared.value.Kind.{Kind}
use Rattle.pipes_tuple.specs.Kinds.{Fits, kind_of}
use Rattle.pipes_tuple.specs.Equal.{schema_eq}
use Rattle.pipes_tuple.specs.Bag.{SameBag}
use Rattle.pipes_tuple.proofs.Bags.{SameBag-trans, SameBag-append}
use Rattle.pipes_tuple.proofs.Equality.{schema_eq-Decides}
use Rattle.pipes_stream.specs.declared.Elem.{Elem}
use Rattle.pipes_stream.specs.declared.message.Message.{Message}
use Rattle.pipes_stream.specs.Snapshot.{snapshot, is_held}
use Rattle.pipes_stream.specs.Lists.{beat, elements}
use Rattle.pipes_stream.specs.Weights.{weigh}
use Rattle.pipes_stream.proofs.Messages.{elements-append}
use Rattle.pipes_stream.proofs.Snapshots.{snapshot-append}
use Rattle.pipes_stream.proofs.Weights.{weigh-append}
use Rattle.pipes_coalesce.specs.Tests.{ends_above}
use Rattle.pipes_coalesce.specs.Merging.{Pairing, ArePairings}
use Rattle.pipes_coalesce.specs.Merged.{Merged, Outcome}
use Rattle.pipes_coalesce.proofs.Touching.{lt-zero}

-- ---- the kinds of tuples

module _ (kinds : List Kind) where
  abbrev misfit : Elem → ℕ
  misfit e = cond (schema_eq (map kind_of e.tuple) kinds) 0 1

  passed : (b : Bool) → cond {A = ℕ} b 0 1 ≡ 0 → b ≡ true
  passed true z = refl
  passed false z = absurd (let one : suc zero ≡ zero = z in omega (arith, one))

  fits-none : (es : List Elem) → All (λ e. Fits e.tuple kinds) es → weigh misfit es ≡ 0
  fits-none [] all = refl
  fits-none (e ∷ es) all =
      let fits : Fits e.tuple kinds = All-head (λ (e : Elem). Fits e.tuple kinds) e es all in
      let one : misfit e ≡ 0 =
      ap (λ (b : Bool). cond {A = ℕ} b 0 1) ((schema_eq-Decides (map kind_of e.tuple) kinds).1 fits)
      in omega (
        arith,
        one,
        fits-none es (All-tail (λ (e : Elem). Fits e.tuple kinds) e es all),
      )

  none-fits : (es : List Elem) → weigh misfit es ≡ 0 → All (λ e. Fits e.tuple kinds) es
  none-fits [] z = All-nil (λ (e : Elem). Fits e.tuple kinds)
  none-fits (e ∷ es) z = All-cons (λ (e : Elem). Fits e.tuple kinds) e es
      ((schema_eq-Decides (map kind_of e.tuple) kinds).0
      (passed (schema_eq (map kind_of e.tuple) kinds) (omega (arith, z))))
      (none-fits es (omega (arith, z)))

  pairs-fit : (split : ℕ) (pairs : List Pairing) → ArePairings split pairs
      → weigh misfit (map (λ (p : Pairing). p.both) pairs)
      ≡ weigh misfit (map (λ (p : Pairing). p.first) pairs)
  pairs-fit split [] are = refl
  pairs-fit split (p ∷ pairs) are =
      let one : misfit p.both ≡ misfit p.first =
      ap (λ (t : List Value). cond {A = ℕ} (schema_eq (map kind_of t) kinds) 0 1) are.0.tuple in
      omega (arith, one, pairs-fit split pairs are.1)

  outcome-fits : (split : ℕ) (olds fresh all : List Elem) → Outcome split olds fresh all
      → weigh misfit olds ≡ 0 → weigh misfit fresh ≡ 0 → weigh misfit all ≡ 0
  outcome-fits split olds fresh all o old_fit fresh_fit =
      let firsts : List Elem = map (λ (p : Pairing). p.first) o.pairs in
      let seconds : List Elem = map (λ (p : Pairing). p.second) o.pairs in
      let boths : List Elem = map (λ (p : Pairing). p.both) o.pairs in
      let a : weigh misfit olds ≡ weigh misfit o.loose_old + weigh misfit firsts =
      o.from_old misfit ∙ weigh-append misfit o.loose_old firsts in
      let b : weigh misfit fresh ≡ weigh misfit o.loose_fresh + weigh misfit seconds =
      o.from_fresh misfit ∙ weigh-append misfit o.loose_fresh seconds in
      let c : weigh misfit all ≡ weigh misfit o.loose_old
      + (weigh misfit o.loose_fresh + weigh misfit boths) =
      o.into misfit ∙ weigh-append misfit o.loose_old (o.loose_fresh ++ boths)
      ∙ ap (λ (n : ℕ). weigh misfit o.loose_old + n) (weigh-append misfit o.loose_fresh boths) in
      omega (arith, a, b, c, pairs-fit split o.pairs o.pairings)

  -- tuples of both sides are of these kinds, and so are those that are sent
  pub sent-fits : (split held : ℕ) (olds fresh sent : List Message)
      → Merged split olds fresh sent held → All (λ e. Fits e.tuple kinds) (elements olds)
      → All (λ e. Fits e.tuple kinds) (elements fresh)
      → All (λ e. Fits e.tuple kinds) (elements sent)
  sent-fits split held olds fresh sent m old_fit fresh_fit =
      let kept : List Elem = m.held_old ++ m.held_fresh in
      let all : weigh misfit (elements sent ++ kept) ≡ 0 =
      outcome-fits split (elements olds) (elements fresh) (elements sent ++ kept) m.outcome
      (fits-none (elements olds) old_fit) (fits-none (elements fresh) fresh_fit) in
      none-fits (elements sent) (omega (arith, all, weigh-append misfit (elements sent) kept))

-- ---- snapshots

not_held : (s e t : ℕ) → e ≤ t → is_held (record { start = s; end = e }) t ≡ false
not_held s e t low = grind (arith, nat_tests)

-- what ends by the split is over from it on
pub over-none : (split t : ℕ) (es : List Elem) → weigh (ends_above split) es ≡ 0 → split ≤ t
    → snapshot es t ≡ []
over-none split t [] z up = refl
over-none split t (e ∷ es) z up =
    let low : e.span.end ≤ split = lt-zero split e.span.end (omega (arith, z)) in
    rw (not_held e.span.start e.span.end t (omega (arith, low, up)))
    (over-none split t es (omega (arith, z)) up)

-- bags of two parts
pub two-parts : (a b c d : List Elem) (t : ℕ) → SameBag (snapshot a t) (snapshot b t)
    → SameBag (snapshot c t) (snapshot d t) → SameBag (snapshot (a ++ c) t) (snapshot (b ++ d) t)
two-parts a b c d t first second =
    subst (λ (xs : List (List Value)). SameBag xs (snapshot (b ++ d) t))
    (sym (snapshot-append a c t))
    (subst (SameBag (snapshot a t ++ snapshot c t)) (sym (snapshot-append b d t))
    (SameBag-append first second))

-- What was written before is what had come to the old top by then. What is written with what the
-- merge sent since is the old plan's answer before the split, and the fresh one's from it on.
pub sent-right : (split held t : ℕ) (rows : List (List Value)) (earlier : List Elem)
    (begun since olds fresh sent : List Message) → Merged split olds fresh sent held
    → SameBag (snapshot earlier t) (snapshot (elements begun) t)
    → weigh (ends_above split) (elements begun) ≡ 0 → elements olds ≡ elements since
    → t < beat sent
    → (t < split → t < beat olds → SameBag (snapshot (elements (begun ++ since)) t) rows)
    → (split ≤ t → t < beat fresh → SameBag (snapshot (elements fresh) t) rows)
    → SameBag (snapshot (earlier ++ elements sent) t) rows
sent-right split held t rows earlier begun since olds fresh sent m shown low same before old_right
    fresh_right = elim (cases_lt t split) [
      | inl below ↦
          (let both = two-parts earlier (elements begun) (elements sent) (elements olds) t shown
          (m.below t before below) in
          let all : elements begun ++ elements olds ≡ elements (begun ++ since) =
          ap (λ (es : List Elem). elements begun ++ es) same ∙ sym (elements-append begun since) in
          SameBag-trans
          (subst (λ (es : List Elem). SameBag (snapshot (earlier ++ elements sent) t)
          (snapshot es t)) all both) (old_right below (omega (arith, before, m.beat_old))))
      | inr from ↦
          (let none : SameBag (snapshot earlier t) (snapshot [] t) =
          subst (SameBag (snapshot earlier t)) (over-none split t (elements begun) low from) shown
          in SameBag-trans (two-parts earlier [] (elements sent) (elements fresh) t none
          (m.from t before from))
          (fresh_right from (omega (arith, before, from, m.beat_fresh))))
    ]
