-- A text that is made piece by piece, of which a prefix is passed on.
use Rattle.std.proofs.Common.{◌≡◌, ℕ, List, ◌++◌, Option, refl, sym, ◌∙◌, ap, subst, append_assoc}
use Rattle.std.specs.Io.KnownBytes.{Appends}
use Rattle.std.proofs.KnownBytes.{Appends-trans}
use Rattle.pipes_buffer.specs.Pieces.{AppendsPrefix, PassesOn}
use Rattle.pipes_buffer.proofs.Appended.{prefix_as, prefix_in, prefix_after, prefix_whole}

-- what was passed on of a prefix is a prefix of the whole
pub prefix-of_passed : (init cur : Option (List ℕ)) (whole text kept rest : List ℕ) → whole ≡ text
    ++ rest → PassesOn init cur text kept → AppendsPrefix init cur whole
prefix-of_passed init cur whole text kept rest is passed =
    let split : passed.0 ++ (kept ++ rest) ≡ whole = sym (append_assoc passed.0 kept rest)
    ∙ ap (λ (l : List ℕ). l ++ rest) (sym passed.2) ∙ sym is in
    prefix_as init cur _ _ split (prefix_whole init cur passed.0 (kept ++ rest) passed.1)

-- so is what was passed on, and a prefix of what was kept
pub prefix-of_stopped : (init cur new : Option (List ℕ)) (whole text kept rest : List ℕ)
    → whole ≡ text ++ rest → PassesOn init cur text kept → AppendsPrefix cur new kept
    → AppendsPrefix init new whole
prefix-of_stopped init cur new whole text kept rest is passed prefix =
    let split : (passed.0 ++ kept) ++ rest ≡ whole = ap (λ (l : List ℕ). l ++ rest) (sym passed.2)
    ∙ sym is in
    prefix_as init new _ _ split (prefix_in init new (passed.0 ++ kept) rest
    (prefix_after init cur new passed.0 kept passed.1 prefix))

-- the text has grown
pub passed-grown : (init cur : Option (List ℕ)) (text kept more text' kept' : List ℕ)
    → PassesOn init cur text kept → text' ≡ text ++ more → kept' ≡ kept ++ more
    → PassesOn init cur text' kept'
passed-grown init cur text kept more text' kept' passed e f = (
  passed.0,
  passed.1,
  e ∙ ap (λ (l : List ℕ). l ++ more) passed.2
      ∙ append_assoc passed.0 kept more ∙ ap (λ (l : List ℕ). passed.0 ++ l) (sym f),
)

-- more of it was passed on
pub passed-on : (init cur new : Option (List ℕ)) (text kept left : List ℕ)
    → PassesOn init cur text kept → PassesOn cur new kept left → PassesOn init new text left
passed-on init cur new text kept left passed more = (
  passed.0
      ++ more.0,
  Appends-trans init cur new passed.0 more.0 passed.1 more.1,
  passed.2
      ∙ ap (λ (l : List ℕ). passed.0 ++ l) more.2 ∙ sym (append_assoc passed.0 more.0 left),
)

-- all of it was passed on
pub all-passed : (init cur new : Option (List ℕ)) (text kept : List ℕ) → PassesOn init cur text kept
    → Appends cur new kept → Appends init new text
all-passed init cur new text kept passed more = subst (λ (l : List ℕ). Appends init new l)
    (sym passed.2) (Appends-trans init cur new passed.0 kept passed.1 more)

-- a prefix of the last piece was passed on
pub prefix-last : (init cur new : Option (List ℕ)) (text kept : List ℕ)
    → PassesOn init cur text kept
    → AppendsPrefix cur new kept → AppendsPrefix init new text
prefix-last init cur new text kept passed prefix = prefix_as init new (passed.0 ++ kept) text
    (sym passed.2) (prefix_after init cur new passed.0 kept passed.1 prefix)

-- more of the text was made and passed on
pub passed-then : (init cur new : Option (List ℕ)) (text kept more left : List ℕ)
    → PassesOn init cur text kept → PassesOn cur new (kept ++ more) left
    → PassesOn init new (text ++ more) left
passed-then init cur new text kept more left passed next = passed-on init cur new _ (kept ++ more)
    left (passed-grown init cur text kept more _ _ passed refl refl) next

-- a prefix of what was kept and of what came after it was passed on
pub prefix-then : (init cur new : Option (List ℕ)) (text kept more : List ℕ)
    → PassesOn init cur text kept → AppendsPrefix cur new (kept ++ more)
    → AppendsPrefix init new (text ++ more)
prefix-then init cur new text kept more passed prefix = prefix-last init cur new _ (kept ++ more)
    (passed-grown init cur text kept more _ _ passed refl refl) prefix
