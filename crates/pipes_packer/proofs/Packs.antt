-- The messages of one more arrival, and those at the end.
use Rattle.std.proofs.Common.{◌≡◌, ℕ, List, [], ◌∷◌, ◌++◌, false, refl, sym, ap, ◌∙◌, subst}
use Rattle.std.proofs.Common.{append_assoc, ⊎_elim, inl, inr, Bool, Result, Ok, Err, OnOk}
use Rattle.pipes_time.specs.declared.memory.Memory.{Memory}
use Rattle.std.proofs.lemmas.List.Elements.{Contains-append_left, Contains-append_right}
use Rattle.atomic_table.specs.declared.shared.Seat.{Seat}
use Rattle.pipes_stream.specs.declared.Elem.{Elem}
use Rattle.pipes_window.specs.declared.item.Item.{Item}
use Rattle.pipes_window.specs.declared.kind.WindowKind.{WindowKind}
use Rattle.pipes_window.specs.Windows.{known, spans, window_beat}
use Rattle.pipes_feed.specs.Released.{released, completed}
use Rattle.pipes_split.specs.declared.views.View.{View}
use Rattle.pipes_split.specs.Seats.{IsSameSeat}
use Rattle.pipes_split.specs.Knowledge.{Knowledge, seat_knows}
use Rattle.pipes_parcel.specs.declared.parcel.Fed.{Fed}
use Rattle.pipes_parcel.specs.declared.parcel.Fed.TheVariants.{Beat, End}
use Rattle.pipes_parcel.proofs.Growing.{grows-none}
use Rattle.pipes_arrivals.specs.Arriving.{Arriving, HasArrived}
use Rattle.pipes_arrivals.specs.Taking.{ArrivalsTake, ArrivalsFinish}
use Rattle.pipes_packer.specs.Packing.{ArePacked, TopsAreEnds}
use Rattle.pipes_packer.specs.Packing as words
use Rattle.pipes_packer.specs.Packed.{RaisesEnds, CutsThen, Packs, PacksRest, SamePacker}
use Rattle.pipes_packer.specs.Packed.{packing, HasPacked}
use Rattle.pipes_packer.proofs.Staying.{stays}

tops-more : (k l : Knowledge) (elems more all : List Elem) → all ≡ elems ++ more
    → TopsAreEnds k elems → RaisesEnds k more l → TopsAreEnds l all
tops-more k l elems more all is tops r =
    subst (λ (es : List Elem). TopsAreEnds l es) (sym is) (λ epoch. ⊎_elim
    (λ same. ⊎_elim (λ zero. inl (same ∙ zero))
    (λ end. inr (end.0, Contains-append_left elems more end.0 end.1, end.2 ∙ sym same)) (tops epoch))
    (λ end. inr (end.0, Contains-append_right elems more end.0 end.1, end.2)) (r.tops epoch))

-- the same, whatever the slack and the kind are called
of_same : (P : ℕ → WindowKind → Type 0) (a b : Arriving) → b.slack ≡ a.slack
    → b.window.kind ≡ a.window.kind → P a.slack a.window.kind → P b.slack b.window.kind
of_same P a b slack kind p =
    subst (λ (n : ℕ). P n b.window.kind) (sym slack)
    (subst (λ (w : WindowKind). P a.slack w) (sym kind) p)

pub packs-one : (s t : Seat (Unit {0}) View) (a b : Arriving) (x : Item) (elems : List Elem)
    (beat : ℕ) (before after : List Fed) → ArrivalsTake a b x [] elems
    → ((arrivals : List Item) → HasArrived arrivals b
    → beat ≡ window_beat b.window.kind (released b.slack arrivals) false)
    → CutsThen (seat_knows s) (seat_knows t) elems (Beat beat) before after
    → Packs (packing s a false) (packing t b false) x before after
packs-one s t a b x elems beat before after take at cuts = record {
  failed = refl;
  ended = take.ended;
  held = take.held;
  sent = (
    cuts.cuts.feds ++ Beat beat ∷ [],
    cuts.put ∙ ap (λ (l : List Fed). l ++ Beat beat ∷ []) cuts.cuts.put
        ∙ append_assoc before cuts.cuts.feds (Beat beat ∷ []),
    λ arrivals feds h.
        let longer : List Item = arrivals ++ x ∷ [] in
        let k : Knowledge = seat_knows t in
        let arrived : HasArrived longer b = take.taken arrivals h.arrived in
        let made : known a.window.kind (released a.slack longer)
        ≡ known a.window.kind (released a.slack arrivals) ++ elems =
        take.sent.2 arrivals h.arrived
        ∙ ap (λ (l : List Elem). known a.window.kind (released a.slack arrivals) ++ l)
        (sym take.sent.1) in
        let here : beat ≡ window_beat a.window.kind (released a.slack longer) false =
        at longer arrived
        ∙ ap (λ (n : ℕ). window_beat b.window.kind (released n longer) false) take.slack
        ∙ ap (λ (w : WindowKind). window_beat w (released a.slack longer) false) take.kind in
        let first : ArePacked k a.slack a.window.kind longer (feds ++ (cuts.cuts.feds
        ++ Beat (window_beat a.window.kind (released a.slack longer) false) ∷ [])) =
        ArePacked.more arrivals feds x elems cuts.cuts.feds
        (stays (seat_knows s) k a.slack a.window.kind arrivals feds cuts.cuts.raises.grows h.packed)
        made cuts.cuts.cut in
        let packed : ArePacked k a.slack a.window.kind longer
        (feds ++ (cuts.cuts.feds ++ Beat beat ∷ [])) =
        subst (λ (n : ℕ). ArePacked k a.slack a.window.kind longer
        (feds ++ (cuts.cuts.feds ++ Beat n ∷ []))) (sym here) first in
        let tops : TopsAreEnds k (known a.window.kind (released a.slack longer)) =
        tops-more (seat_knows s) k (known a.window.kind (released a.slack arrivals)) elems
        (known a.window.kind (released a.slack longer)) made h.tops cuts.cuts.raises in record {
          arrived = arrived;
          packed = of_same (λ (n : ℕ) (w : WindowKind). ArePacked k n w longer
              (feds ++ (cuts.cuts.feds ++ Beat beat ∷ []))) a b take.slack take.kind packed;
          tops = of_same (λ (n : ℕ) (w : WindowKind). TopsAreEnds k (known w (released n longer)))
              a b take.slack take.kind tops;
        },
  );
}

pub packs-rest : (s t : Seat (Unit {0}) View) (a b : Arriving) (elems : List Elem)
    (before after : List Fed) → ArrivalsFinish a b [] elems
    → CutsThen (seat_knows s) (seat_knows t) elems End before after
    → PacksRest (packing s a false) (packing t b false) before after
packs-rest s t a b elems before after finish cuts = record {
  failed = refl;
  ended = finish.ended;
  sent = (
    cuts.cuts.feds ++ End ∷ [],
    cuts.put ∙ ap (λ (l : List Fed). l ++ End ∷ []) cuts.cuts.put
        ∙ append_assoc before cuts.cuts.feds (End ∷ []),
    λ arrivals feds h.
        let k : Knowledge = seat_knows t in
        let made : spans a.window.kind (completed a.slack arrivals)
        ≡ known a.window.kind (released a.slack arrivals) ++ elems =
        finish.sent.2 arrivals h.arrived
        ∙ ap (λ (l : List Elem). known a.window.kind (released a.slack arrivals) ++ l)
        (sym finish.sent.1) in
        let packed : words.ArePackedWhole k a.slack a.window.kind arrivals
        (feds ++ (cuts.cuts.feds ++ End ∷ [])) = record {
          before = feds;
          packed = stays (seat_knows s) k a.slack a.window.kind arrivals feds
              cuts.cuts.raises.grows h.packed;
          elems = elems;
          left = made;
          cut = cuts.cuts.feds;
          pieces = cuts.cuts.cut;
          all = refl;
        } in
        let tops : TopsAreEnds k (spans a.window.kind (completed a.slack arrivals)) =
        tops-more (seat_knows s) k (known a.window.kind (released a.slack arrivals)) elems
        (spans a.window.kind (completed a.slack arrivals)) made h.tops cuts.cuts.raises in record {
          finished = finish.taken arrivals h.arrived;
          packed = of_same (λ (n : ℕ) (w : WindowKind). words.ArePackedWhole k n w arrivals
              (feds ++ (cuts.cuts.feds ++ End ∷ []))) a b finish.slack finish.kind packed;
          tops = of_same (λ (n : ℕ) (w : WindowKind). TopsAreEnds k (spans w (completed n arrivals)))
              a b finish.slack finish.kind tops;
        },
  );
}

-- ---- what each call keeps
pub keeps-all : (s t : Seat (Unit {0}) View) (a b : Arriving) (f g : Bool) (elems : List Elem)
    → IsSameSeat s t → RaisesEnds (seat_knows s) elems (seat_knows t) → b.slack ≡ a.slack
    → b.window.kind ≡ a.window.kind → SamePacker (packing s a f) (packing t b g)
keeps-all s t a b f g elems seat r slack kind = record {
  seat = seat;
  grows = r.grows;
  asked = r.asked;
  slack = slack;
  kind = kind;
}

pub keeps-seat : (s : Seat (Unit {0}) View) (a b : Arriving) (f g : Bool)
    → b.slack ≡ a.slack → b.window.kind ≡ a.window.kind
    → SamePacker (packing s a f) (packing s b g)
keeps-seat s a b f g slack kind = record {
  seat = record { book = refl; number = refl; slots = refl };
  grows = grows-none (seat_knows s);
  asked = λ i. refl;
  slack = slack;
  kind = kind;
}

-- ---- unless memory is wanting
pub packs-unless : (r : Result (Unit {0}) Memory) (s t : Seat (Unit {0}) View) (a b : Arriving)
    (x : Item) (none elems : List Elem) (beat : ℕ) (before after : List Fed) → none ≡ []
    → ArrivalsTake a b x none elems
    → ((arrivals : List Item) → HasArrived arrivals b
    → beat ≡ window_beat b.window.kind (released b.slack arrivals) false)
    → OnOk r (CutsThen (seat_knows s) (seat_knows t) elems (Beat beat) before after)
    → OnOk r (Packs (packing s a false) (packing t b false) x before after)
packs-unless (Ok done) s t a b x none elems beat before after is take at cuts =
    packs-one s t a b x elems beat before after
    (subst (λ (l : List Elem). ArrivalsTake a b x l elems) is take) at cuts
packs-unless (Err memory) s t a b x none elems beat before after is take at cuts = tt

pub rest-unless : (r : Result (Unit {0}) Memory) (s t : Seat (Unit {0}) View) (a b : Arriving)
    (none elems : List Elem) (before after : List Fed) → none ≡ []
    → ArrivalsFinish a b none elems
    → OnOk r (CutsThen (seat_knows s) (seat_knows t) elems End before after)
    → OnOk r (PacksRest (packing s a false) (packing t b false) before after)
rest-unless (Ok done) s t a b none elems before after is finish cuts =
    packs-rest s t a b elems before after
    (subst (λ (l : List Elem). ArrivalsFinish a b l elems) is finish) cuts
rest-unless (Err memory) s t a b none elems before after is finish cuts = tt

-- no arrival has come
pub packed-none : (s t : Seat (Unit {0}) View) (a : Arriving) (f : Bool) → t ≡ s
    → HasArrived [] a → ((e : ℕ) → (seat_knows s).top e ≡ 0) → HasPacked [] [] (packing t a f)
packed-none s t a f same arrived zero =
    subst (λ (u : Seat (Unit {0}) View). HasPacked [] [] (packing u a f)) (sym same) (record {
      arrived = arrived;
      packed = ArePacked.none;
      tops = λ epoch. inl (zero epoch);
    })
