-- The stream form: lines, one entry after another.
use Rattle.std.proofs.Common.{◌≡◌, ℕ, ◌+◌, ◌<◌, List, [], ◌∷◌, ◌++◌, take, length, Option, refl}
use Rattle.std.proofs.Common.{sym, ◌∙◌, ap, subst, arith, Result, Ok, Err, OnOk}
use Rattle.std.proofs.lemmas.List.{append-nil, length-append}
use Rattle.std.proofs.KnownBytes.{Appends-trans}
use Rattle.std.proofs.lemmas.Grind.{flat_map-append}
use Rattle.std.specs.Io.KnownBytes.{Appends}
use Rattle.pipes_output.specs.declared.entry.Entry.{Entry}
use Rattle.pipes_output.specs.Lines.{line, lines}
use Rattle.pipes_buffer.specs.Pieces.{AppendsShort, PassesOn}
use Rattle.pipes_buffer.proofs.Appended.{take_after}
use Rattle.pipes_buffer.proofs.Passing.{passed-then, passed-grown, all-passed}

lines-more : (entries : List Entry) (e : Entry)
    → lines (entries ++ e ∷ []) ≡ lines entries ++ line e
lines-more entries e = flat_map-append line entries (e ∷ [])
    ∙ ap (λ (l : List ℕ). lines entries ++ l) (append-nil (line e))

pub line-put : (init cur new : Option (List ℕ)) (entries : List Entry) (e : Entry)
    (text left : List ℕ) → PassesOn init cur (lines entries) text
    → PassesOn cur new (text ++ line e) left → PassesOn init new (lines (entries ++ e ∷ [])) left
line-put init cur new entries e text left kept next =
    subst (λ (l : List ℕ). PassesOn init new l left) (sym (lines-more entries e))
    (passed-then init cur new (lines entries) text (line e) left kept next)

short-as : (before now : Option (List ℕ)) (x y : List ℕ) → x ≡ y → AppendsShort before now x
    → AppendsShort before now y
short-as before now x y e h = subst (λ (l : List ℕ). AppendsShort before now l) e h

-- the first part, and then some of the second
short-after : (before mid now : Option (List ℕ)) (x y : List ℕ) → Appends before mid x
    → AppendsShort mid now y → AppendsShort before now (x ++ y)
short-after before mid now x y p h = (
  length x + h.0,
  subst (λ (k : ℕ). length x + h.0 < k) (sym (length-append x y)) (omega (h.1, arith)),
  subst (λ (l : List ℕ). Appends before now l) (take_after h.0 x y)
      (Appends-trans before mid now x (take h.0 y) p h.2),
)

-- some of what waited was written
pub short-last : (init cur new : Option (List ℕ)) (text kept : List ℕ)
    → PassesOn init cur text kept → AppendsShort cur new kept → AppendsShort init new text
short-last init cur new text kept passed short = short-as init new (passed.0 ++ kept) text
    (sym passed.2) (short-after init cur new passed.0 kept passed.1 short)

pub line-cut : (init cur new : Option (List ℕ)) (entries : List Entry) (e : Entry)
    (text : List ℕ) → PassesOn init cur (lines entries) text
    → AppendsShort cur new (text ++ line e) → AppendsShort init new (lines (entries ++ e ∷ []))
line-cut init cur new entries e text kept short =
    short-as init new _ _ (sym (lines-more entries e))
    (short-last init cur new (lines entries ++ line e) (text ++ line e)
    (passed-grown init cur (lines entries) text (line e) _ _ kept refl refl) short)

-- all that waited was written, and nothing waits
pub all-out : (init cur new : Option (List ℕ)) (text kept left : List ℕ)
    → PassesOn init cur text kept → Appends cur new kept → left ≡ []
    → PassesOn init new text left
all-out init cur new text kept left passed more none =
    subst (λ (l : List ℕ). PassesOn init new text l) (sym none)
    (text, all-passed init cur new text kept passed more, sym (append-nil text))

pub both-ok : {T E : Type 0} (r : Result T E) {P Q R : Type 0} → (P → Q → R) → OnOk r P → OnOk r Q
    → OnOk r R
both-ok (Ok x) f p q = f p q
both-ok (Err e) f p q = tt
