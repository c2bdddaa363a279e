-- Entries one after another.
use Rattle.std.proofs.Common.{◌≡◌, ℕ, ◌≤◌, List, [], ◌∷◌, ◌++◌, map, refl, sym, ◌∙◌, ap, arith}
use Rattle.std.proofs.Common.{◌⊎◌, inl, inr}
use Rattle.std.specs.List.{All}
use Rattle.std.proofs.lemmas.List.Elements.{All-head, All-tail}
use Rattle.pipes_stream.specs.declared.Elem.{Elem}
use Rattle.pipes_output.specs.declared.entry.Entry.{Entry}
use Rattle.pipes_output.specs.declared.entry.Entry.TheVariants as entry
use Rattle.pipes_semantics.specs.Written.{results, starts}
use Rattle.pipes_semantics.specs.Right.{NeverFall}

pub results-append : (xs ys : List Entry) → results (xs ++ ys) ≡ results xs ++ results ys
results-append [] ys = refl
results-append (entry.Result e ∷ xs) ys = ap (λ (es : List Elem). e ∷ es) (results-append xs ys)
results-append (entry.Beat h ∷ xs) ys = results-append xs ys
results-append (entry.Accepted number split ∷ xs) ys = results-append xs ys
results-append (entry.Refused command why ∷ xs) ys = results-append xs ys
results-append (entry.Idle number ∷ xs) ys = results-append xs ys
results-append (entry.Over number ∷ xs) ys = results-append xs ys
results-append (entry.Drained inputs output ∷ xs) ys = results-append xs ys
results-append (entry.Ended ∷ xs) ys = results-append xs ys
results-append (entry.Stopped ∷ xs) ys = results-append xs ys

pub starts-append : (xs ys : List Entry) → starts (xs ++ ys) ≡ starts xs ++ starts ys
starts-append [] ys = refl
starts-append (entry.Result e ∷ xs) ys =
    ap (λ (ns : List ℕ). e.span.start ∷ ns) (starts-append xs ys)
starts-append (entry.Beat h ∷ xs) ys = ap (λ (ns : List ℕ). h ∷ ns) (starts-append xs ys)
starts-append (entry.Accepted number split ∷ xs) ys = starts-append xs ys
starts-append (entry.Refused command why ∷ xs) ys = starts-append xs ys
starts-append (entry.Idle number ∷ xs) ys = starts-append xs ys
starts-append (entry.Over number ∷ xs) ys = starts-append xs ys
starts-append (entry.Drained inputs output ∷ xs) ys = starts-append xs ys
starts-append (entry.Ended ∷ xs) ys = starts-append xs ys
starts-append (entry.Stopped ∷ xs) ys = starts-append xs ys

pub results-map : (es : List Elem) → results (map entry.Result es) ≡ es
results-map [] = refl
results-map (e ∷ es) = ap (λ (xs : List Elem). e ∷ xs) (results-map es)

pub starts-map : (es : List Elem)
    → starts (map entry.Result es) ≡ map (λ (e : Elem). e.span.start) es
starts-map [] = refl
starts-map (e ∷ es) = ap (λ (ns : List ℕ). e.span.start ∷ ns) (starts-map es)

-- numbers up to m, and then numbers from m on
pub rising-append : (low m : ℕ) (xs ys : List ℕ) → low ≤ m → NeverFall low xs → All (λ n. n ≤ m) xs
    → NeverFall m ys → NeverFall low (xs ++ ys)
rising-append low m [] [] h rise all next = tt
rising-append low m [] (y ∷ ys) h rise all next = (omega (arith, h, next.0), next.1)
rising-append low m (x ∷ xs) ys h rise all next = (
  rise.0,
  rising-append x m xs ys (All-head (λ (n : ℕ). n ≤ m) x xs all) rise.1
      (All-tail (λ (n : ℕ). n ≤ m) x xs all) next,
)

module _ {X : Type 0} where
  -- where an item stands in two lists, one after the other
  pub record InFirst (xs before : List X) (x : X) : Type 0 where
    pub rest : List X
    pub is : xs ≡ before ++ x ∷ rest

  pub record InSecond (xs ys before after : List X) (x : X) : Type 0 where
    pub middle : List X
    pub is : before ≡ xs ++ middle
    pub there : ys ≡ middle ++ x ∷ after

  pub found-in : (xs ys before after : List X) (x : X) → xs ++ ys ≡ before ++ x ∷ after
      → InFirst xs before x ⊎ InSecond xs ys before after x
  found-in [] ys before after x e = inr (record { middle = before; is = refl; there = e })
  found-in (y ∷ xs) ys [] after x e =
      let same : y ≡ x = cc in
      inl (record { rest = xs; is = ap (λ (z : X). z ∷ xs) same })
  found-in (y ∷ xs) ys (z ∷ before) after x e =
      let same : y ≡ z = cc in
      let tails : xs ++ ys ≡ before ++ x ∷ after = cc in
      elim (found-in xs ys before after x tails) [
        | inl f ↦ inl (record {
          rest = f.rest;
          is = ap (λ (w : X). w ∷ xs) same ∙ ap (λ (l : List X). z ∷ l) f.is;
        })
        | inr s ↦ inr (record {
          middle = s.middle;
          is = ap (λ (w : X). w ∷ before) (sym same) ∙ ap (λ (l : List X). y ∷ l) s.is;
          there = s.there;
        })
      ]
