-- What several calls do, and what calls do that answer as others.
use Rattle.std.proofs.Common.{◌≡◌, ℕ, ◌≤◌, List, [], ◌∷◌, ◌++◌, Ok, Err, OnOk, OnErr}
use Rattle.std.proofs.Common.{sym, ◌∙◌, ap, subst, append_assoc}
use Rattle.std.specs.Prelude.{Result}
use Rattle.pipes_stream.specs.declared.Elem.{Elem}
use Rattle.pipes_settled.specs.declared.settled.Settled.{Settled}
use Rattle.pipes_settled.specs.Certainty.{IsCertain}
use Rattle.pipes_settled.specs.Standing.{Stands, Gives, Adds, Advances, CallLaws}
use Rattle.pipes_settled.proofs.Certain.{certain}

pub on_same : {T E : Type 0} (r s : Result T E) {P Q R : Type 0} → s ≡ r → OnOk r P → OnOk s Q
    → (P → Q → R) → OnOk s R
on_same (Ok x) (Ok y) is p q f = f p q
on_same (Ok x) (Err e) is p q f = tt
on_same (Err x) (Ok y) is p q f = absurd (cc)
on_same (Err x) (Err e) is p q f = tt

pub err-same : {T E : Type 0} (r s : Result T E) (P : Type 0) → s ≡ r → OnErr r P → OnErr s P
err-same r s P is p = subst (λ o. OnErr o P) (sym is) p

-- what an element that is added leaves certain is certain of the element too
pub advance-add : (elem : Elem) (h : ℕ) (out out' : List ℕ) (a b c : Settled)
    → Advances h out out' a b → Adds elem b c → (elems : List Elem) (from : ℕ) (text : List ℕ)
    → Stands elems from text a → from ≤ h → h ≤ elem.span.start
    → Gives out out' (elems ++ elem ∷ []) h text c
advance-add elem h out out' a b c advances adds elems from text s le late =
    let g = advances elems from text s le in
    let stands = adds elems h (text ++ g.fresh) g.stands late in
    record {
      fresh = g.fresh;
      appended = g.appended;
      stands = stands;
      certain = certain (elems ++ elem ∷ []) h (text ++ g.fresh) c stands;
    }

pub advance-twice : (h k : ℕ) (out mid out' : List ℕ) (a b c : Settled) → h ≤ k
    → Advances h out mid a b → Advances k mid out' b c → (elems : List Elem) (from : ℕ)
    (text : List ℕ) → Stands elems from text a → from ≤ h → Gives out out' elems k text c
advance-twice h k out mid out' a b c more advances further elems from text s le =
    let g = advances elems from text s le in
    let d = further elems h (text ++ g.fresh) g.stands more in
    let all : (text ++ g.fresh) ++ d.fresh ≡ text ++ (g.fresh ++ d.fresh) =
    append_assoc text g.fresh d.fresh in
    record {
      fresh = g.fresh ++ d.fresh;
      appended = d.appended ∙ ap (λ (bs : List ℕ). bs ++ d.fresh) g.appended
          ∙ append_assoc out g.fresh d.fresh;
      stands = subst (λ (bs : List ℕ). Stands elems k bs c) all d.stands;
      certain = subst (IsCertain elems k) all d.certain;
    }

pub call-laws : CallLaws
call-laws = record {
  certain = certain;
  add_advance = λ elem h out out' a b c adds advances elems from text s late le.
      advances (elems ++ elem ∷ []) from text (adds elems from text s late) le;
  advance_add = advance-add;
  advance_twice = advance-twice;
}
