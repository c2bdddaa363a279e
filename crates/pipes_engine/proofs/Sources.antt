-- What the sources gave, as one list of elements.
use Rattle.std.proofs.Common.{◌≡◌, ℕ, zero, suc, ◌<◌, ◌+◌, max, List, [], ◌∷◌, ◌++◌, length, refl}
use Rattle.std.proofs.Common.{ap, ap₂, subst, ◌∙◌, arith, cond, eq-eqb, ne_eqb, ◌≢◌, Bool}
use Rattle.std.specs.List.{All, Contains}
use Rattle.std.proofs.lemmas.List.Elements.{All-nil, All-cons, All-weaker, All-contains}
use Rattle.std.proofs.lemmas.List.Elements.{All-contains_itself, Contains-append_left}
use Rattle.std.proofs.lemmas.List.Elements.{Contains-append_right}
use Rattle.pipes_tuple.specs.declared.value.Kind.{Kind}
use Rattle.pipes_stream.specs.declared.Elem.{Elem}
use Rattle.pipes_stream.specs.declared.message.Message.{Message}
use Rattle.pipes_stream.specs.Lists.{elements}
use Rattle.pipes_stream.specs.Lawful.{Lists, with_message, IsCovered}
use Rattle.pipes_stream.proofs.Messages.{elements-append}
use Rattle.pipes_plan.specs.declared.plan.Plan.{Plan}
use Rattle.pipes_query.specs.declared.query.SourceDecl.{SourceDecl}
use Rattle.pipes_works.specs.Sources.{Reads, AllWithin}
use Rattle.pipes_live.specs.Deeds.{AllEndBelow}
use Rattle.pipes_course.specs.Known.{last_end}
use Rattle.pipes_course.specs.Given.{elements_from}

-- an element of a source is one of them
pub elements-there : (sources : List SourceDecl) (number k : ℕ) (by_source : Lists) (e : Elem)
    → k < length sources → Contains (elements (by_source (number + k))) e
    → Contains (elements_from number sources by_source) e
elements-there [] number k by_source e low there = absurd (omega (arith, low))
elements-there (s ∷ ss) number zero by_source e low there =
    let same : number + 0 ≡ number = omega arith in
    Contains-append_left (elements (by_source number)) (elements_from (number + 1) ss by_source) e
    (subst (λ (n : ℕ). Contains (elements (by_source n)) e) same there)
elements-there (s ∷ ss) number (suc k) by_source e low there =
    let same : number + suc k ≡ number + 1 + k = omega arith in
    Contains-append_right (elements (by_source number)) (elements_from (number + 1) ss by_source) e
    (elements-there ss (number + 1) k by_source e (omega (arith, low))
    (subst (λ (n : ℕ). Contains (elements (by_source n)) e) same there))

module _ (schemas : List (List Kind)) (plan : Plan) (sources : List SourceDecl)
    (by_source : Lists)
    (within : (source : ℕ) → Reads schemas plan source → source < length sources) where
  abbrev given : List Elem
  given = elements_from 0 sources by_source

  there : (source : ℕ) → Reads schemas plan source → (e : Elem)
      → Contains (elements (by_source source)) e → Contains given e
  there source reads e c =
      let same : source ≡ 0 + source = omega arith in
      elements-there sources 0 source by_source e (within source reads)
      (subst (λ (n : ℕ). Contains (elements (by_source n)) e) same c)

  -- those that the plan reads lie within them
  pub within-given : AllWithin schemas plan by_source given
  within-given source reads =
      All-weaker (Contains (elements (by_source source))) (IsCovered given)
      (λ e c. (e, there source reads e c, omega arith, omega arith))
      (elements (by_source source)) (All-contains_itself (elements (by_source source)))

  ends-below : (split : ℕ) (es : List Elem) → last_end es < split
      → All (λ e. e.span.end < split) es
  ends-below split [] low = All-nil (λ (e : Elem). e.span.end < split)
  ends-below split (e ∷ es) low =
      All-cons (λ (e : Elem). e.span.end < split) e es (omega (arith, low))
      (ends-below split es (omega (arith, low)))

  -- and end below a split above the greatest end
  pub given-below : (split : ℕ) → last_end given < split → AllEndBelow schemas plan split by_source
  given-below split low source reads =
      All-weaker (Contains (elements (by_source source))) (λ (e : Elem). e.span.end < split)
      (λ e c. All-contains (λ (d : Elem). d.span.end < split) given e (ends-below split given low)
      (there source reads e c))
      (elements (by_source source)) (All-contains_itself (elements (by_source source)))

-- ---- one message more

last_end-append : (xs ys : List Elem) → last_end (xs ++ ys) ≡ max (last_end xs) (last_end ys)
last_end-append [] ys = omega arith
last_end-append (e ∷ xs) ys = let more = last_end-append xs ys in omega (arith, more)

pub here : (by_source : Lists) (source k : ℕ) (m : Message) → k ≡ source
    → with_message by_source source m k ≡ by_source k ++ m ∷ []
here by_source source k m is =
    ap (λ (b : Bool). cond b (by_source k ++ m ∷ []) (by_source k)) (eq-eqb k source is)

pub elsewhere : (by_source : Lists) (source k : ℕ) (m : Message) → k ≢ source
    → with_message by_source source m k ≡ by_source k
elsewhere by_source source k m not =
    ap (λ (b : Bool). cond b (by_source k ++ m ∷ []) (by_source k)) (ne_eqb k source not)

below-all : (sources : List SourceDecl) (number source : ℕ) (by_source : Lists) (m : Message)
    → source < number
    → elements_from number sources (with_message by_source source m)
    ≡ elements_from number sources by_source
below-all [] number source by_source m low = refl
below-all (s ∷ ss) number source by_source m low =
    ap₂ (λ (l : List Message) (es : List Elem). elements l ++ es)
    (elsewhere by_source source number m (λ same. omega (arith, low, same)))
    (below-all ss (number + 1) source by_source m (omega (arith, low)))

longer-from : (sources : List SourceDecl) (number k source : ℕ) (by_source : Lists) (m : Message)
    → k < length sources → source ≡ number + k
    → last_end (elements_from number sources (with_message by_source source m))
    ≡ max (last_end (elements_from number sources by_source)) (last_end (elements (m ∷ [])))
longer-from [] number k source by_source m low is = absurd (omega (arith, low))
longer-from (s ∷ ss) number zero source by_source m low is =
    let own : number ≡ source = omega (arith, is) in
    let first = last_end-append (elements (by_source number))
    (elements_from (number + 1) ss by_source) in
    let more = last_end-append (elements (by_source number)) (elements (m ∷ [])) in
    let now = last_end-append (elements (by_source number) ++ elements (m ∷ []))
    (elements_from (number + 1) ss by_source) in
    let same : elements_from number (s ∷ ss) (with_message by_source source m)
    ≡ (elements (by_source number) ++ elements (m ∷ []))
    ++ elements_from (number + 1) ss by_source =
    ap₂ (λ (xs ys : List Elem). xs ++ ys)
    (ap elements (here by_source source number m own)
    ∙ elements-append (by_source number) (m ∷ []))
    (below-all ss (number + 1) source by_source m (omega (arith, own))) in
    ap last_end same ∙ omega (arith, first, more, now)
longer-from (s ∷ ss) number (suc k) source by_source m low is =
    let rest = longer-from ss (number + 1) k source by_source m (omega (arith, low))
    (omega (arith, is)) in
    let first = last_end-append (elements (by_source number))
    (elements_from (number + 1) ss by_source) in
    let now = last_end-append (elements (by_source number))
    (elements_from (number + 1) ss (with_message by_source source m)) in
    ap (λ (l : List Message). last_end (elements l
    ++ elements_from (number + 1) ss (with_message by_source source m)))
    (elsewhere by_source source number m (λ same. omega (arith, same, is)))
    ∙ omega (arith, rest, first, now)

-- the greatest end, with one message more of a source
pub end-longer : (sources : List SourceDecl) (source : ℕ) (by_source : Lists) (m : Message)
    → source < length sources
    → last_end (elements_from 0 sources (with_message by_source source m))
    ≡ max (last_end (elements_from 0 sources by_source)) (last_end (elements (m ∷ [])))
end-longer sources source by_source m low =
    longer-from sources 0 source source by_source m low (omega arith)
