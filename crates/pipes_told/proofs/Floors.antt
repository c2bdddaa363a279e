-- The floor at a heartbeat: it is monotone, it is the least over parts of a list, and whatever
-- starts at or above the heartbeat changes nothing of it.
use Rattle.std.proofs.Common.{◌≡◌, ℕ, zero, suc, ◌≤◌, min, List, [], ◌∷◌, ◌++◌, Bool, true, false}
use Rattle.std.proofs.Common.{nat_le, cond, refl, ap, ◌∙◌, arith, inl, inr, subst}
use Rattle.std.proofs.lemmas.Bool.{cases_lt}
use Rattle.std.proofs.lemmas.Bool.Decides.{nat_tests}
use Rattle.pipes_stream.specs.declared.Elem.{Elem}
use Rattle.pipes_stream.specs.Lawful.{floor}
use Rattle.pipes_stream.proofs.Ports.{floor-below}
use Rattle.pipes_box.specs.Prompt.{floors}
use Rattle.pipes_told.specs.Floors.{Grown, empty, kept, added}

pub floors-below : (n h : ℕ) (es : List Elem) → floors n h es ≤ h
floors-below zero h es = omega arith
floors-below (suc n) h es = omega (arith, floor-below (floors n h es) es, floors-below n h es)

-- of a list in two parts it is the lower one
pub floor-append : (h : ℕ) (xs ys : List Elem) → floor h (xs ++ ys) ≡ min (floor h xs) (floor h ys)
floor-append h [] ys = let low = floor-below h ys in omega arith
floor-append h (e ∷ xs) ys = let more = floor-append h xs ys in omega arith

-- a higher heartbeat has a floor that is no lower
pub floor-rises : (h high : ℕ) (es : List Elem) → h ≤ high → floor h es ≤ floor high es
floor-rises h high [] up = up
floor-rises h high (e ∷ es) up =
    by (nat_le h e.span.end) (nat_le high e.span.end) refl refl (floor-rises h high es up)
  where
    by : (a b : Bool) → nat_le h e.span.end ≡ a → nat_le high e.span.end ≡ b
        → floor h es ≤ floor high es
        → min (cond a e.span.start h) (floor h es) ≤ min (cond b e.span.start high) (floor high es)
    by true true p q more = omega arith
    by true false p q more = let low = floor-below h es in omega arith
    by false false p q more = omega arith
    by false true p q more = absurd (grind (arith, nat_tests, p, q, up))

pub floors-rise : (n h high : ℕ) (es : List Elem) → h ≤ high → floors n h es ≤ floors n high es
floors-rise zero h high es up = up
floors-rise (suc n) h high es up =
    floor-rises (floors n h es) (floors n high es) es (floors-rise n h high es up)

-- with more turns it is no higher
pub floors-turns : (n m h : ℕ) (es : List Elem) → m ≤ n → floors n h es ≤ floors m h es
floors-turns zero zero h es few = omega arith
floors-turns zero (suc m) h es few = absurd (omega (arith, few))
floors-turns (suc n) m h es few =
    elim (cases_lt n m) [
      | inl g ↦ let e : suc n ≡ m = omega (arith, g, few) in
          subst (λ (k : ℕ). floors (suc n) h es ≤ floors k h es) e (omega arith)
      | inr g ↦ omega (arith, floor-below (floors n h es) es, floors-turns n m h es g)
    ]

-- with more elements it is no higher
pub floor-grows : (beat h : ℕ) (es all : List Elem) → Grown beat es all → floor h all ≤ floor h es
floor-grows beat h [] [] empty = omega arith
floor-grows beat h (e ∷ es) [] g = elim g [ ]
floor-grows beat h (e ∷ es) (e' ∷ all) (kept g) =
    let more = floor-grows beat h es all g in omega arith
floor-grows beat h es (e ∷ all) (added from g) =
    let more = floor-grows beat h es all g in omega arith

-- what starts at or above the heartbeat changes nothing of the floor at a lower one
pub floor-grown : (beat h : ℕ) (es all : List Elem) → h ≤ beat → Grown beat es all
    → floor h all ≡ floor h es
floor-grown beat h [] [] low empty = refl
floor-grown beat h (e ∷ es) [] low g = elim g [ ]
floor-grown beat h (e ∷ es) (e' ∷ all) low (kept g) =
    ap (λ (n : ℕ). min (cond (nat_le h e.span.end) e.span.start h) n)
    (floor-grown beat h es all low g)
floor-grown beat h es (e ∷ all) low (added from g) =
    by (nat_le h e.span.end) (floor-below h es) (floor-grown beat h es all low g)
  where
    by : (b : Bool) → floor h es ≤ h → floor h all ≡ floor h es
        → min (cond b e.span.start h) (floor h all) ≡ floor h es
    by true below same = omega arith
    by false below same = omega arith

pub floors-grown : (n beat h : ℕ) (es all : List Elem) → h ≤ beat → Grown beat es all
    → floors n h all ≡ floors n h es
floors-grown zero beat h es all low g = refl
floors-grown (suc n) beat h es all low g =
    ap (λ (k : ℕ). floor k all) (floors-grown n beat h es all low g)
    ∙ floor-grown beat (floors n h es) es all (omega (arith, low, floors-below n h es)) g

-- ---- lists that grow

pub grown-itself : (beat : ℕ) (es : List Elem) → Grown beat es es
grown-itself beat [] = empty
grown-itself beat (e ∷ es) = kept (grown-itself beat es)

pub grown-append : (beat : ℕ) (xs all ys rest : List Elem) → Grown beat xs all
    → Grown beat ys rest → Grown beat (xs ++ ys) (all ++ rest)
grown-append beat [] [] ys rest empty h = h
grown-append beat (e ∷ xs) [] ys rest g h = elim g [ ]
grown-append beat (e ∷ xs) (e' ∷ all) ys rest (kept g) h =
    kept (grown-append beat xs all ys rest g h)
grown-append beat xs (e ∷ all) ys rest (added from g) h =
    added from (grown-append beat xs all ys rest g h)

-- a list grows so at a lower heartbeat too
pub grown-lower : (beat high : ℕ) (es all : List Elem) → beat ≤ high → Grown high es all
    → Grown beat es all
grown-lower beat high [] [] low empty = empty
grown-lower beat high (e ∷ es) [] low g = elim g [ ]
grown-lower beat high (e ∷ es) (e' ∷ all) low (kept g) = kept (grown-lower beat high es all low g)
grown-lower beat high es (e ∷ all) low (added from g) =
    added (omega (arith, low, from)) (grown-lower beat high es all low g)
