-- Elements cut one after another.
use Rattle.std.proofs.Common.{◌≡◌, List, [], ◌∷◌, ◌++◌, reverse, refl, sym, ap, ◌∙◌, subst}
use Rattle.std.proofs.Common.{append_assoc, append-nil, ⊎_elim, inl, inr, arith}
use Rattle.std.specs.List.{Contains}
use Rattle.std.proofs.lemmas.List.{reverse-append}
use Rattle.std.proofs.lemmas.List.Elements.{Contains-append_left, Contains-append_right}
use Rattle.pipes_stream.specs.declared.Elem.{Elem}
use Rattle.pipes_split.specs.Knowledge.{Knowledge}
use Rattle.pipes_parcel.specs.declared.parcel.Fed.{Fed}
use Rattle.pipes_parcel.specs.Feds.{feds_of}
use Rattle.pipes_parcel.specs.Pieces.{RaisesEnd}
use Rattle.pipes_parcel.specs.Placed.{CutWhole}
use Rattle.pipes_parcel.proofs.Growing.{grows-none, grows-on}
use Rattle.pipes_packer.specs.Packing.{AreCut}
use Rattle.pipes_packer.specs.Packed.{RaisesEnds, CutsAll, CutsSome}
use Rattle.pipes_packer.proofs.Staying.{cut-stays}

alone : (e : Elem) → Contains (e ∷ []) e
alone e = (0, omega arith, refl)

pub raises-none : (k : Knowledge) → RaisesEnds k [] k
raises-none k = record { tops = λ epoch. inl refl; asked = λ i. refl; grows = grows-none k }

-- one more end
pub raises-more : (k l m : Knowledge) (elems : List Elem) (e : Elem) → RaisesEnds k elems l
    → RaisesEnd l e.span.end m → RaisesEnds k (elems ++ e ∷ []) m
raises-more k l m elems e a b = record {
  tops = λ epoch. ⊎_elim
      (λ same. ⊎_elim (λ was. inl (same ∙ was))
      (λ end. inr (end.0, Contains-append_left elems (e ∷ []) end.0 end.1, end.2 ∙ sym same))
      (a.tops epoch))
      (λ is. inr (e, Contains-append_right elems (e ∷ []) e (alone e), sym is))
      (b.tops epoch);
  asked = λ i. b.asked i ∙ a.asked i;
  grows = grows-on k l m a.grows b.grows;
}

-- the ends of more elements
pub raises-wider : (k l : Knowledge) (elems more all : List Elem) → all ≡ elems ++ more
    → RaisesEnds k elems l → RaisesEnds k all l
raises-wider k l elems more all is a =
    subst (λ (es : List Elem). RaisesEnds k es l) (sym is) (record {
      tops = λ epoch. ⊎_elim (λ was. inl was)
          (λ end. inr (end.0, Contains-append_left elems more end.0 end.1, end.2)) (a.tops epoch);
      asked = a.asked;
      grows = a.grows;
    })

pub cuts-none : (k : Knowledge) (elems : List Elem) (out : List Fed)
    → CutsSome k k elems elems out out
cuts-none k elems out = record {
  done = [];
  split = refl;
  cuts = record { feds = []; put = sym (append-nil out); cut = AreCut.none; raises = raises-none k };
}

-- one more element, which was the last of those left
pub cuts-more : (k l m : Knowledge) (elems now left : List Elem) (e : Elem)
    (before between after : List Fed) → CutsSome k l elems now before between
    → now ≡ left ++ e ∷ [] → RaisesEnd l e.span.end m → CutWhole m 0 e between after
    → CutsSome k m elems left before after
cuts-more k l m elems now left e before between after c is raises whole = record {
  done = c.done ++ e ∷ [];
  split = c.split ∙ ap (λ (es : List Elem). c.done ++ reverse es) is
      ∙ ap (λ (es : List Elem). c.done ++ es) (reverse-append left (e ∷ []))
      ∙ sym (append_assoc c.done (e ∷ []) (reverse left));
  cuts = record {
    feds = c.cuts.feds ++ feds_of whole.parts;
    put = whole.put ∙ ap (λ (l : List Fed). l ++ feds_of whole.parts) c.cuts.put
        ∙ append_assoc before c.cuts.feds (feds_of whole.parts);
    cut = AreCut.more c.done c.cuts.feds e whole.parts
        (cut-stays l m c.done c.cuts.feds raises.grows c.cuts.cut) whole.pieces;
    raises = raises-more k l m c.done e c.cuts.raises raises;
  };
}

pub raised-more : (k l m : Knowledge) (elems now left : List Elem) (e : Elem)
    (before between : List Fed) → CutsSome k l elems now before between
    → now ≡ left ++ e ∷ [] → RaisesEnd l e.span.end m → RaisesEnds k (reverse elems) m
raised-more k l m elems now left e before between c is raises =
    raises-wider k m (c.done ++ e ∷ []) (reverse left) (reverse elems)
    (c.split ∙ ap (λ (es : List Elem). c.done ++ reverse es) is
    ∙ ap (λ (es : List Elem). c.done ++ es) (reverse-append left (e ∷ []))
    ∙ sym (append_assoc c.done (e ∷ []) (reverse left)))
    (raises-more k l m c.done e c.cuts.raises raises)

-- all were cut
pub cuts-all : (k l : Knowledge) (elems now : List Elem) (before after : List Fed)
    → CutsSome k l elems now before after → now ≡ [] → CutsAll k l (reverse elems) before after
cuts-all k l elems now before after c none =
    subst (λ (es : List Elem). CutsAll k l es before after)
    (sym (c.split ∙ ap (λ (es : List Elem). c.done ++ reverse es) none ∙ append-nil c.done)) c.cuts
