-- What the plans at work were given of a source's list, after one message more.
use Rattle.std.proofs.Common.{◌≡◌, ℕ, ◌-◌, ◌≤◌, Bool, true, false, List, [], ◌∷◌, ◌++◌}
use Rattle.std.proofs.Common.{nat_lt, if◌then◌else◌}
use Rattle.std.proofs.Common.{Option, Some, None, refl, sym, ap, subst, ◌∙◌, arith, inl, inr}
use Rattle.std.proofs.Common.{append-nil}
use Rattle.std.specs.List.{All}
use Rattle.std.proofs.lemmas.Bool.Decides.{eqb_tells}
use Rattle.std.proofs.lemmas.List.Elements.{All-nil, All-cons, All-append, All-same, All-weaker}
use Rattle.std.proofs.lemmas.List.Elements.{Contains-append_left, Contains-append_right}
use Rattle.pipes_time.specs.Interval.{closed, IsInterval}
use Rattle.pipes_stream.specs.declared.Elem.{Elem}
use Rattle.pipes_stream.specs.declared.message.Message.{Message}
use Rattle.pipes_stream.specs.declared.message.Message.TheVariants as message
use Rattle.pipes_stream.specs.Progress.{Progress}
use Rattle.pipes_stream.specs.Lists.{CanFollow, after, run, start_of_list, Valid, beat}
use Rattle.pipes_stream.specs.Lists.{elements}
use Rattle.pipes_stream.specs.Lawful.{Lists, with_message, IsCovered}
use Rattle.pipes_stream.proofs.Messages.{run-push, run-rises, valid-push}
use Rattle.pipes_stream.proofs.Messages.{elements-append, beat-closed}
use Rattle.pipes_stream.proofs.Ports.{covered-itself}
use Rattle.pipes_split.specs.Cutting.{IsCut}
use Rattle.pipes_node.proofs.NodeSteps.{with-same, with-other}
use Rattle.pipes_halves.specs.Halves.{IsSoFar, IsHalved, ArePart, low_part, high_part, grown}
use Rattle.pipes_halves.proofs.Sides.{same-push, grown-going, grown-over}
use Rattle.pipes_halves.proofs.Laws.{split-laws}
use Rattle.pipes_live.specs.Lives.{ArePartsOf, IsGiven, AreGiven}

-- ---- lists

-- what holds of each source's list, after a message more from one of them
pub at-each : (Q : ℕ → List Message → Type 0) (lists : Lists) (source : ℕ) (m : Message)
    → Q source (lists source ++ m ∷ []) → ((k : ℕ) → (k ≡ source → ⊥) → Q k (lists k))
    → (k : ℕ) → Q k (with_message lists source m k)
at-each Q lists source m here others k = elim (eqb_tells k source) [
  | inl same ↦ subst (λ (x : ℕ). Q x (with_message lists source m x)) (sym same.1)
      (subst (Q source) (sym (with-same lists source m)) here)
  | inr apart ↦ subst (Q k) (sym (with-other lists source m k apart.1)) (others k apart.1)
]

covered-more : (xs ys : List Elem) (e : Elem) → IsCovered xs e → IsCovered (xs ++ ys) e
covered-more xs ys e c = (c.0, Contains-append_left xs ys c.0 c.1, c.2, c.3)

covered-later : (xs ys : List Elem) (e : Elem) → IsCovered ys e → IsCovered (xs ++ ys) e
covered-later xs ys e c = (c.0, Contains-append_right xs ys c.0 c.1, c.2, c.3)

pub parts-more : (all given ms xs : List Message) → ArePartsOf all given
    → All (IsCovered (elements ms)) (elements xs) → ArePartsOf (all ++ ms) (given ++ xs)
parts-more all given ms xs before now =
    let both : List Elem = elements all ++ elements ms in
    All-same (IsCovered (elements (all ++ ms))) (elements (given ++ xs))
    (elements given ++ elements xs) (elements-append given xs)
    (subst (λ (es : List Elem). All (IsCovered es) (elements given ++ elements xs))
    (sym (elements-append all ms))
    (All-append (IsCovered both) (elements given) (elements xs)
    (All-weaker (IsCovered (elements all)) (IsCovered both)
    (covered-more (elements all) (elements ms)) (elements given) before)
    (All-weaker (IsCovered (elements ms)) (IsCovered both)
    (covered-later (elements all) (elements ms)) (elements xs) now)))

-- nothing was given of a message
parts-passed : (all given : List Message) (m : Message) → ArePartsOf all given
    → ArePartsOf (all ++ m ∷ []) given
parts-passed all given m before =
    subst (λ (l : List Message). ArePartsOf (all ++ m ∷ []) l) (append-nil given)
    (parts-more all given (m ∷ []) [] before (All-nil (IsCovered (elements (m ∷ [])))))

progress-same : (p q : Progress) → p.beat ≡ q.beat → p.ended ≡ q.ended → p ≡ q
progress-same p q beat_is ended_is =
    ap (λ (n : ℕ). (let at : Progress = record { beat = n; ended = p.ended } in at)) beat_is
    ∙ ap (λ (b : Bool). (let at : Progress = record { beat = q.beat; ended = b } in at)) ended_is

pub so-far-run : (base : ℕ) (all given : List Message) → IsSoFar base all given
    → run start_of_list given ≡ run start_of_list all
so-far-run base all given g =
    progress-same (run start_of_list given) (run start_of_list all) g.beat_is g.ended_is

pub beat-grows : (all : List Message) (m : Message) → Valid all
    → CanFollow (run start_of_list all) m → beat all ≤ beat (all ++ m ∷ [])
beat-grows all m valid can =
    let up = (run-rises (run start_of_list all) (m ∷ []) (can, tt) (beat-closed all valid)).0 in
    let at : beat (all ++ m ∷ []) ≡ (after (run start_of_list all) m).beat =
    ap (λ (p : Progress). p.beat) (run-push start_of_list all m) in
    omega (arith, up, at)

-- a message more to a plan that stands alone
pub given-more : (base : ℕ) (all given : List Message) (m : Message) → IsGiven base all given
    → CanFollow (run start_of_list all) m → IsGiven base (all ++ m ∷ []) (given ++ m ∷ [])
given-more base all given m g can =
    let same = so-far-run base all given g.so_far in
    let ahead : run start_of_list (given ++ m ∷ []) ≡ run start_of_list (all ++ m ∷ []) =
    run-push start_of_list given m ∙ ap (λ (p : Progress). after p m) same
    ∙ sym (run-push start_of_list all m) in
    record {
      so_far = record {
        valid = valid-push start_of_list given m g.so_far.valid
            (subst (λ (p : Progress). CanFollow p m) (sym same) can);
        beat_is = ap (λ (p : Progress). p.beat) ahead;
        ended_is = ap (λ (p : Progress). p.ended) ahead;
        same = λ t from. same-push given all (m ∷ []) (m ∷ []) t (g.so_far.same t from) refl;
      };
      parts = parts-more all given (m ∷ []) (m ∷ []) g.parts
          (covered-itself (elements (m ∷ [])));
    }

-- ---- a message on both sides of a split

pub part-below : (e a : Elem) (split : ℕ) (second : Option Elem)
    → IsInterval a.span.start a.span.end → IsCut e split (Some a) second
    → (e.span.start ≤ a.span.start) × (a.span.end ≤ e.span.end) × (a.span.end ≤ split)
part-below e a split second part cut =
    let some = part.0 in
    let end : ℕ = a.span.end - 1 in
    let first = (cut.below.1 a.span.start).0 (omega (arith, some), some) in
    let late = (cut.below.1 end).0 (omega (arith, some), omega (arith, some)) in
    let from = first.0.0 in let onto = late.0.1 in let under = late.1 in
    (omega (arith, from), omega (arith, onto, some), omega (arith, under, some))

pub part-from : (e b : Elem) (split : ℕ) (first : Option Elem)
    → IsInterval b.span.start b.span.end → IsCut e split first (Some b)
    → (e.span.start ≤ b.span.start) × (b.span.end ≤ e.span.end) × (split ≤ b.span.start)
part-from e b split first part cut =
    let some = part.0 in
    let end : ℕ = b.span.end - 1 in
    let early = (cut.above.1 b.span.start).0 (omega (arith, some), some) in
    let late = (cut.above.1 end).0 (omega (arith, some), omega (arith, some)) in
    let from = early.0.0 in let onto = late.0.1 in let over = early.1 in
    (omega (arith, from), omega (arith, onto, some), omega (arith, over))

covers-one : (e a : Elem) → e.span.start ≤ a.span.start → a.span.end ≤ e.span.end
    → All (IsCovered (e ∷ [])) (a ∷ [])
covers-one e a from onto =
    All-cons (IsCovered (e ∷ [])) a [] (e, (0, omega arith, refl), from, onto)
    (All-nil (IsCovered (e ∷ [])))

-- what is given of a message is a part of it
low-covers : (split : ℕ) (m : Message) (lows highs : List Message) → IsHalved split m lows highs
    → All (IsCovered (elements (m ∷ []))) (elements lows)
low-covers split (message.Elem e) lows highs h =
    subst (λ (l : List Message). All (IsCovered (e ∷ [])) (elements l)) (sym h.below_is)
    (go h.first h.intervals.0 h.cut)
  where
    go : (first : Option Elem) → ArePart first → IsCut e split first h.second
        → All (IsCovered (e ∷ [])) (elements (low_part first))
    go (Some a) part cut = let p = part-below e a split h.second part cut in
        covers-one e a p.0 p.1
    go None part cut = All-nil (IsCovered (e ∷ []))
low-covers split (message.Beat at) lows highs h =
    subst (λ (l : List Message). All (IsCovered []) (elements l)) (sym h.0) (two (nat_lt at split))
  where
    two : (b : Bool) → All (IsCovered [])
        (elements ((if b then message.Beat at else message.End) ∷ []))
    two true = All-nil (IsCovered [])
    two false = All-nil (IsCovered [])
low-covers split message.End lows highs h =
    subst (λ (l : List Message). All (IsCovered []) (elements l)) (sym h.0)
    (All-nil (IsCovered []))

high-covers : (split : ℕ) (m : Message) (lows highs : List Message) → IsHalved split m lows highs
    → All (IsCovered (elements (m ∷ []))) (elements highs)
high-covers split (message.Elem e) lows highs h =
    subst (λ (l : List Message). All (IsCovered (e ∷ [])) (elements l)) (sym h.from_is)
    (go h.second h.intervals.1 h.cut)
  where
    go : (second : Option Elem) → ArePart second → IsCut e split h.first second
        → All (IsCovered (e ∷ [])) (elements (high_part second))
    go (Some b) part cut = let p = part-from e b split h.first part cut in
        covers-one e b p.0 p.1
    go None part cut = All-nil (IsCovered (e ∷ []))
high-covers split (message.Beat at) lows highs h =
    subst (λ (l : List Message). All (IsCovered []) (elements l)) (sym h.1)
    (All-nil (IsCovered []))
high-covers split message.End lows highs h =
    subst (λ (l : List Message). All (IsCovered []) (elements l)) (sym h.1)
    (All-nil (IsCovered []))

-- a message more to two plans
pub given-both : (split base first : ℕ) (all below from : List Message) (m : Message)
    (lows highs : List Message) → split ≤ closed → Valid all
    → AreGiven split base first all below from → CanFollow (run start_of_list all) m
    → IsHalved split m lows highs
    → AreGiven split base first (all ++ m ∷ []) (grown below lows) (from ++ highs)
given-both split base first all below from m lows highs close valid g can h = record {
  sides = split-laws.goes_on split base all below from m lows highs close valid g.sides can h;
  low_parts = low (run start_of_list below).ended refl;
  high_parts = parts-more all from (m ∷ []) highs g.high_parts
      (high-covers split m lows highs h);
  begun = omega (arith, g.begun, beat-grows all m valid can);
}
  where
    low : (b : Bool) → (run start_of_list below).ended ≡ b
        → ArePartsOf (all ++ m ∷ []) (grown below lows)
    low true ended = subst (ArePartsOf (all ++ m ∷ [])) (sym (grown-over below lows ended))
        (parts-passed all below m g.low_parts)
    low false going = subst (ArePartsOf (all ++ m ∷ [])) (sym (grown-going below lows going))
        (parts-more all below (m ∷ []) lows g.low_parts (low-covers split m lows highs h))
