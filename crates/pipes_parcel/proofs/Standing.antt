-- Pieces stand for their element.
use Rattle.std.proofs.Common.{◌≡◌, ℕ, ◌≤◌, ◌<◌, Bool, true, false, ◌&&◌, cond, nat_le, nat_lt}
use Rattle.std.proofs.Common.{List, [], ◌∷◌, ◌++◌, map, refl, sym, ap, ◌∙◌, arith}
use Rattle.std.proofs.Common.{⊎_elim, inr, append-nil}
use Rattle.std.specs.List.{All}
use Rattle.std.proofs.lemmas.Bool.{cases_lt, le-leb, lt-ltb, le-ltb}
use Rattle.std.proofs.lemmas.List.Elements.{All-nil, All-cons, All-weaker}
use Rattle.pipes_time.specs.Interval.{IsInterval}
use Rattle.pipes_tuple.specs.declared.value.Value.{Value}
use Rattle.pipes_stream.specs.declared.Elem.{Elem}
use Rattle.pipes_stream.specs.Snapshot.{is_held, snapshot}
use Rattle.pipes_stream.proofs.Snapshots.{snapshot-append, snapshot-above}
use Rattle.pipes_split.specs.Views.{last_epoch}
use Rattle.pipes_split.specs.Knowledge.{Knowledge}
use Rattle.pipes_parcel.specs.declared.parcel.Parcel.{Parcel}
use Rattle.pipes_parcel.specs.Pieces.{ArePieces, whole, cut, parcel, up_to, from_on}
use Rattle.pipes_parcel.specs.Laws.{IsPlaced, PiecesStandFor, PiecesStay}
use Rattle.pipes_parcel.proofs.Putting.{pieces-more}

-- an element alone, by whether it holds the instant
alone : (e : Elem) (t : ℕ) (b : Bool) → is_held e.span t ≡ b
    → snapshot (e ∷ []) t ≡ cond b (e.tuple ∷ []) []
alone e t true h = rw h refl
alone e t false h = rw h refl

-- two parts of an element hold what it holds
two_parts : (e : Elem) (c t : ℕ) → e.span.start < c → c < e.span.end
    → snapshot (up_to c e ∷ from_on c e ∷ []) t ≡ snapshot (e ∷ []) t
two_parts e c t low high = ⊎_elim before after (cases_lt t c)
  where
    before : t < c → snapshot (up_to c e ∷ from_on c e ∷ []) t ≡ snapshot (e ∷ []) t
    before h =
        let below : nat_lt t c ≡ true = lt-ltb t c h in
        let end : nat_lt t e.span.end ≡ true = lt-ltb t e.span.end (omega (arith, h, high)) in
        let none : snapshot (from_on c e ∷ []) t ≡ [] = snapshot-above t (from_on c e ∷ [])
        (All-cons (λ (d : Elem). t < d.span.start) (from_on c e) [] h
        (All-nil (λ (d : Elem). t < d.span.start))) in
        let same : snapshot (up_to c e ∷ []) t ≡ snapshot (e ∷ []) t =
        alone (up_to c e) t (nat_le e.span.start t && true)
        (ap (λ (b : Bool). nat_le e.span.start t && b) below)
        ∙ sym (alone e t (nat_le e.span.start t && true)
        (ap (λ (b : Bool). nat_le e.span.start t && b) end)) in
        snapshot-append (up_to c e ∷ []) (from_on c e ∷ []) t
        ∙ ap (λ (l : List (List Value)). snapshot (up_to c e ∷ []) t ++ l) none
        ∙ append-nil (snapshot (up_to c e ∷ []) t) ∙ same

    after : c ≤ t → snapshot (up_to c e ∷ from_on c e ∷ []) t ≡ snapshot (e ∷ []) t
    after h =
        let past : nat_lt t c ≡ false = le-ltb t c h in
        let first : nat_le e.span.start t ≡ true = le-leb e.span.start t (omega (arith, h, low)) in
        let from : nat_le c t ≡ true = le-leb c t h in
        let none : snapshot (up_to c e ∷ []) t ≡ [] =
        alone (up_to c e) t false (rw (first, past) refl) in
        let same : snapshot (from_on c e ∷ []) t ≡ snapshot (e ∷ []) t =
        alone (from_on c e) t (true && nat_lt t e.span.end)
        (ap (λ (b : Bool). b && nat_lt t e.span.end) from)
        ∙ sym (alone e t (true && nat_lt t e.span.end)
        (ap (λ (b : Bool). b && nat_lt t e.span.end) first)) in
        snapshot-append (up_to c e ∷ []) (from_on c e ∷ []) t
        ∙ ap (λ (l : List (List Value)). l ++ snapshot (from_on c e ∷ []) t) none ∙ same

abbrev elems : List Parcel → List Elem
elems parts = map (λ p. p.elem) parts

same_snapshots : (k : Knowledge) (first : ℕ) (e : Elem) (parts : List Parcel) (t : ℕ)
    → ArePieces k first e parts → snapshot (elems parts) t ≡ snapshot (e ∷ []) t
same_snapshots k first e parts t (whole _ epoch _ from early start end) = refl
same_snapshots k first e parts t (cut _ epoch c _ rest from above below split start more) =
    let left = same_snapshots k _ _ rest t more in
    snapshot-append (up_to c e ∷ []) (elems rest) t
    ∙ ap (λ (l : List (List Value)). snapshot (up_to c e ∷ []) t ++ l) left
    ∙ sym (snapshot-append (up_to c e ∷ []) (from_on c e ∷ []) t) ∙ two_parts e c t above below

-- a place within a part of an element is one within the element
placed_within : (k : Knowledge) (e : Elem) (c : ℕ) (p : Parcel) → e.span.start < c
    → IsPlaced k (from_on c e) p → IsPlaced k e p
placed_within k e c p h is = record {
  interval = is.interval;
  starts = omega (arith, is.starts, h);
  ends = is.ends;
  epoch = is.epoch;
  may_start = is.may_start;
  may_end = is.may_end;
}

-- an epoch with another after it is not the last
not_last : (k : Knowledge) (first : ℕ) (e : Elem) (parts : List Parcel) → ArePieces k first e parts
    → first ≤ last_epoch
not_last k first e parts (whole _ epoch _ from early start end) = omega (arith, from, early)
not_last k first e parts (cut _ epoch c _ rest from above below split start more) =
    let later = not_last k _ _ rest more in
    omega (arith, later, from)

places : (k : Knowledge) (first : ℕ) (e : Elem) (parts : List Parcel)
    → IsInterval e.span.start e.span.end → ArePieces k first e parts → All (IsPlaced k e) parts
places k first e parts within (whole _ epoch _ from early start end) =
    All-cons (IsPlaced k e) (parcel epoch e) [] (record {
      interval = within;
      starts = omega arith;
      ends = omega arith;
      epoch = early;
      may_start = start;
      may_end = end;
    }) (All-nil (IsPlaced k e))
places k first e parts within (cut _ epoch c _ rest from above below split start more) =
    let later = not_last k _ _ rest more in
    let left : All (IsPlaced k (from_on c e)) rest = places k _ (from_on c e) rest (below, within.1)
    more in
    All-cons (IsPlaced k e) (parcel epoch (up_to c e)) rest (record {
      interval = (above, omega (arith, below, within.1));
      starts = omega arith;
      ends = omega (arith, below);
      epoch = omega (arith, later);
      may_start = start;
      may_end = inr (c, split, omega arith);
    }) (All-weaker (IsPlaced k (from_on c e)) (IsPlaced k e)
    (λ p is. placed_within k e c p above is) rest left)

pub stand_for : PiecesStandFor
stand_for k first e parts within are = record {
  snapshots = λ t. same_snapshots k first e parts t are;
  places = places k first e parts within are;
}

pub stay : PiecesStay
stay k l first e parts g are = pieces-more k l first e parts g are
