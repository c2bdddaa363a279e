-- The parts so far of an element, an epoch further and at the end.
use Rattle.std.proofs.Common.{◌≡◌, ℕ, ◌+◌, ◌≤◌, Some, List, [], ◌∷◌, ◌++◌, sym, ap}
use Rattle.std.proofs.Common.{◌∙◌, subst, arith, append_assoc, append-nil, inl, inr}
use Rattle.std.proofs.Common.{Result, Ok, Err, OnOk}
use Rattle.pipes_time.specs.declared.memory.Memory.{Memory}
use Rattle.std.proofs.lemmas.List.{map-append}
use Rattle.pipes_stream.specs.declared.Elem.{Elem}
use Rattle.pipes_split.specs.Views.{last_epoch}
use Rattle.pipes_split.specs.Knowledge.{Knowledge, KnowsMore}
use Rattle.pipes_parcel.specs.declared.parcel.Parcel.{Parcel}
use Rattle.pipes_parcel.specs.declared.parcel.Fed.{Fed}
use Rattle.pipes_parcel.specs.declared.parcel.Fed.TheVariants.{Part}
use Rattle.pipes_parcel.specs.declared.cutter.Rest.TheVariants.{Registered, Below, Above}
use Rattle.pipes_parcel.specs.Feds.{feds_of}
use Rattle.pipes_parcel.specs.Pieces.{ArePieces, whole, cut, MayStart, MayEnd, parcel, up_to}
use Rattle.pipes_parcel.specs.Placed.{Leaves, LeavesAbove, CutSoFar, CutWhole}
use Rattle.pipes_parcel.proofs.Growing.{grows-on, may-start-more, may-end-more}

-- pieces from a later epoch on are pieces from an earlier one on
pub pieces-earlier : (k : Knowledge) (low first : ℕ) (e : Elem) (parts : List Parcel) → low ≤ first
    → ArePieces k first e parts → ArePieces k low e parts
pieces-earlier k low first e parts h (whole _ epoch _ from early start end) =
    whole low epoch _ (omega (arith, h, from)) early start end
pieces-earlier k low first e parts h (cut _ epoch t _ rest from above below split start more) =
    cut low epoch t _ rest (omega (arith, h, from)) above below split start more

-- pieces stay pieces as more is known
pub pieces-more : (k l : Knowledge) (first : ℕ) (e : Elem) (parts : List Parcel) → KnowsMore k l
    → ArePieces k first e parts → ArePieces l first e parts
pieces-more k l first e parts g (whole _ epoch _ from early start end) =
    whole first epoch _ from early (may-start-more k l epoch _ g start)
    (may-end-more k l epoch _ g end)
pieces-more k l first e parts g (cut _ epoch t _ rest from above below split start more) =
    cut first epoch t _ rest from above below (g.splits epoch t split)
    (may-start-more k l epoch _ g start) (pieces-more k l _ _ rest g more)

-- nothing was cut yet
pub cut-none : (k : Knowledge) (first : ℕ) (e : Elem) (before : List Fed)
    → CutSoFar k first e first e before before
cut-none k first e before = record {
  parts = [];
  put = sym (append-nil before);
  pieces = λ l g more h. h;
}

put_one : (before now after : List Fed) (parts : List Parcel) (p : Parcel)
    → now ≡ before ++ feds_of parts → after ≡ now ++ Part p ∷ []
    → after ≡ before ++ feds_of (parts ++ p ∷ [])
put_one before now after parts p was is =
    is ∙ ap (λ (l : List Fed). l ++ Part p ∷ []) was
    ∙ append_assoc before (feds_of parts) (Part p ∷ [])
    ∙ ap (λ (l : List Fed). before ++ l) (sym (map-append (λ (q : Parcel). Part q) parts (p ∷ [])))

-- an epoch further
pub cut-more : (k k' : Knowledge) (first epoch : ℕ) (e rest above : Elem) (before now after : List Fed)
    → CutSoFar k first e epoch rest before now → KnowsMore k k' → MayStart k' epoch rest.span.start
    → Leaves k' epoch rest (Above above) now after
    → CutSoFar k' first e (epoch + 1) above before after
cut-more k k' first epoch e rest above before now after c g may leaves =
    by leaves.1.0 leaves.1.1 leaves.1.2
  where
    by : (t : ℕ) → k'.split epoch ≡ Some t → LeavesAbove epoch t rest above now after
        → CutSoFar k' first e (epoch + 1) above before after
    by t known (inl h) = record {
      parts = c.parts;
      put = h.2 ∙ c.put;
      pieces = λ l g' more pieces.
          c.pieces l (grows-on k k' l g g') more
          (pieces-earlier l epoch (epoch + 1) rest more (omega arith)
          (subst (λ (d : Elem). ArePieces l (epoch + 1) d more) h.1 pieces));
    }
    by t known (inr h) =
        let p : Parcel = parcel epoch (up_to t rest) in record {
          parts = c.parts ++ p ∷ [];
          put = put_one before now after c.parts p c.put h.3;
          pieces = λ l g' more pieces.
              subst (λ (ps : List Parcel). ArePieces l first e ps)
              (sym (append_assoc c.parts (p ∷ []) more))
              (c.pieces l (grows-on k k' l g g') (p ∷ more)
              (cut epoch epoch t rest more (omega arith) h.0 h.1 (g'.splits epoch t known)
              (may-start-more k' l epoch rest.span.start g' may)
              (subst (λ (d : Elem). ArePieces l (epoch + 1) d more) h.2 pieces)));
        }

-- the rest goes to this epoch whole
cut_last : (k k' : Knowledge) (first epoch : ℕ) (e rest : Elem) (before now after : List Fed)
    → CutSoFar k first e epoch rest before now → KnowsMore k k' → MayStart k' epoch rest.span.start
    → MayEnd k' epoch rest.span.end → epoch ≤ last_epoch
    → after ≡ now ++ Part (parcel epoch rest) ∷ []
    → CutWhole k' first e before after
cut_last k k' first epoch e rest before now after c g start end early put =
    let p : Parcel = parcel epoch rest in record {
      parts = c.parts ++ p ∷ [];
      put = put_one before now after c.parts p c.put put;
      pieces = c.pieces k' g (p ∷ []) (whole epoch epoch rest (omega arith) early start end);
    }

pub cut-registered : (k k' : Knowledge) (first epoch : ℕ) (e rest : Elem)
    (before now after : List Fed) → CutSoFar k first e epoch rest before now → KnowsMore k k'
    → MayStart k' epoch rest.span.start → epoch ≤ last_epoch
    → Leaves k' epoch rest Registered now after → CutWhole k' first e before after
cut-registered k k' first epoch e rest before now after c g start early leaves =
    cut_last k k' first epoch e rest before now after c g start (inl leaves.0) early leaves.2

pub cut-below : (k k' l : Knowledge) (first epoch : ℕ) (e rest : Elem)
    (before now after : List Fed) → CutSoFar k first e epoch rest before now → KnowsMore k k'
    → KnowsMore k' l → MayStart k' epoch rest.span.start
    → Leaves k' epoch rest Below now after → CutWhole l first e before after
cut-below k k' l first epoch e rest before now after c g g' start leaves =
    cut_last k l first epoch e rest before now after c (grows-on k k' l g g')
    (may-start-more k' l epoch rest.span.start g' start)
    (may-end-more k' l epoch rest.span.end g' (inr leaves.1)) (omega (arith, leaves.0)) leaves.2

-- what is left above starts at the split or later, and ends where the element does
pub above-starts : (epoch t : ℕ) (e rest : Elem) (before now : List Fed)
    → LeavesAbove epoch t e rest before now → t ≤ rest.span.start
above-starts epoch t e rest before now (inl h) =
    subst (λ (d : Elem). t ≤ d.span.start) (sym h.1) h.0
above-starts epoch t e rest before now (inr h) =
    subst (λ (d : Elem). t ≤ d.span.start) (sym h.2) (omega arith)

pub above-ends : (epoch t : ℕ) (e rest : Elem) (before now : List Fed)
    → LeavesAbove epoch t e rest before now → rest.span.end ≡ e.span.end
above-ends epoch t e rest before now (inl h) = ap (λ (d : Elem). d.span.end) h.1
above-ends epoch t e rest before now (inr h) = ap (λ (d : Elem). d.span.end) h.2

-- what was put in from an epoch on was put in from the first on
pub cut-all : (k : Knowledge) (first : ℕ) (e : Elem) (before now : List Fed)
    → CutWhole k first e before now → CutWhole k 0 e before now
cut-all k first e before now c = record {
  parts = c.parts;
  put = c.put;
  pieces = pieces-earlier k 0 first e c.parts (omega arith) c.pieces;
}

pub whole-all : (r : Result (Unit {0}) Memory) (k : Knowledge) (first : ℕ) (e : Elem)
    (before now : List Fed) → OnOk r (CutWhole k first e before now)
    → OnOk r (CutWhole k 0 e before now)
whole-all (Ok done) k first e before now h = cut-all k first e before now h
whole-all (Err memory) k first e before now h = tt
