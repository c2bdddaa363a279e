-- Bytes that are read and written in several pieces.
use Rattle.std.proofs.Common.{◌≡◌, ℕ, zero, suc, ◌+◌, ◌-◌, ◌≤◌, min, length, List, [], ◌∷◌, ◌++◌}
use Rattle.std.proofs.Common.{take, drop, Option, Result, Ok, Err, OnOk, OnErr, sym, ◌∙◌, ap, subst}
use Rattle.std.proofs.Common.{arith}
use Rattle.std.proofs.Math.Seq.{take-add}
use Rattle.std.proofs.lemmas.List.{take-take, take_all}
use Rattle.std.proofs.KnownBytes.{Appends-trans}
use Rattle.std.specs.Io.KnownBytes.{Appends}
use Rattle.pipes_buffer.specs.Pieces.{AppendsPrefix}

-- one piece more of the bytes
pub appends_piece : (init cur new : Option (List ℕ)) (place n : ℕ) (bs : List ℕ) → place ≤ length bs
    → place + n ≤ length bs → Appends init cur (take place bs)
    → Appends cur new (take n (take (length bs - place) (drop place bs)))
    → Appends init new (take (place + n) bs)
appends_piece init cur new place n bs within more before piece =
    let same : take n (take (length bs - place) (drop place bs)) ≡ take n (drop place bs) =
    take-take n (length bs - place) (drop place bs) (omega arith) in
    subst (λ (l : List ℕ). Appends init new l) (sym (take-add place n bs))
    (Appends-trans init cur new (take place bs) (take n (drop place bs)) before
    (subst (λ (l : List ℕ). Appends cur new l) same piece))

take_min : (n : ℕ) (x z : List ℕ) → take n x ≡ take (min n (length x)) (x ++ z)
take_min zero x z = let e : min zero (length x) ≡ 0 = omega arith in sym
    (ap (λ (k : ℕ). take k (x ++ z)) e)
take_min (suc n) [] z = let e : min (suc n) 0 ≡ 0 = omega arith in sym (ap (λ (k : ℕ). take k z) e)
take_min (suc n) (a ∷ x) z =
    let e : min (suc n) (suc (length x)) ≡ suc (min n (length x)) = omega arith in
    ap (λ (l : List ℕ). a ∷ l) (take_min n x z) ∙ ap (λ (k : ℕ). take k (a ∷ x ++ z)) (sym e)

pub take_after : (n : ℕ) (x y : List ℕ) → x ++ take n y ≡ take (length x + n) (x ++ y)
take_after n [] y = ap (λ (k : ℕ). take k y) (omega arith)
take_after n (a ∷ x) y =
    let e : suc (length x + n) ≡ suc (length x) + n = omega arith in
    ap (λ (l : List ℕ). a ∷ l) (take_after n x y) ∙ ap (λ (k : ℕ). take k (a ∷ x ++ y)) e

-- a prefix of the first part is a prefix of the whole
pub prefix_in : (before now : Option (List ℕ)) (x z : List ℕ) → AppendsPrefix before now x
    → AppendsPrefix before now (x ++ z)
prefix_in before now x z h = (
  min h.0 (length x),
  subst (λ (l : List ℕ). Appends before now l)
      (take_min h.0 x z) h.1,
)

-- the first part, and then a prefix of the second
pub prefix_after : (before mid now : Option (List ℕ)) (x y : List ℕ) → Appends before mid x
    → AppendsPrefix mid now y → AppendsPrefix before now (x ++ y)
prefix_after before mid now x y p h = (
  length x + h.0,
  subst (λ (l : List ℕ). Appends before now l)
      (take_after h.0 x y) (Appends-trans before mid now x (take h.0 y) p h.1),
)

-- the whole is a prefix of itself and more
pub prefix_whole : (before now : Option (List ℕ)) (x z : List ℕ) → Appends before now x
    → AppendsPrefix before now (x ++ z)
prefix_whole before now x z p = prefix_in before now x z (
  length x,
  subst (λ (l : List ℕ). Appends before now l) (sym (take_all (length x) x (omega arith))) p,
)

pub prefix_as : (before now : Option (List ℕ)) (x y : List ℕ) → x ≡ y → AppendsPrefix before now x
    → AppendsPrefix before now y
prefix_as before now x y e h = subst (λ (l : List ℕ). AppendsPrefix before now l) e h

-- by cases on a result

pub on_err : {T E : Type 0} (r : Result T E) {P : Type 0} → P → OnErr r P
on_err (Ok x) p = tt
on_err (Err e) p = p

pub map_ok : {T E : Type 0} (r : Result T E) {P Q : Type 0} → (P → Q) → OnOk r P → OnOk r Q
map_ok (Ok x) f h = f h
map_ok (Err e) f h = h

-- the whole is a prefix of itself
pub prefix_all : (before now : Option (List ℕ)) (x : List ℕ) → Appends before now x
    → AppendsPrefix before now x
prefix_all before now x p = (
  length x,
  subst (λ (l : List ℕ). Appends before now l)
      (sym (take_all (length x) x (omega arith))) p,
)
