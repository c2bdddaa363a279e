-- A string, or a refusal inside it, can be read in one way alone.
use Rattle.std.proofs.Common.{◌≡◌, ℕ, List, [], ◌∷◌, ◌++◌, length, refl, sym, ap, subst, ap₂, ◌∙◌}
use Rattle.std.proofs.Common.{append_assoc, arith}
use Rattle.std.specs.Str.{encode_utf8_all}
use Rattle.pipes_token.specs.declared.refusal.TextWhy.{TextWhy}
use Rattle.pipes_token.specs.declared.refusal.Refusal.{Refusal}
use Rattle.pipes_token.specs.Strings.{StopsString, IsString, IsBrokenString}
use Rattle.pipes_token.proofs.Characters.{same_chars, no_char_at_quote, no_char_where_stopped}

tail : {a b : ℕ} {s t : List ℕ} → a ∷ s ≡ b ∷ t → s ≡ t
tail e = cc

-- what stands after the opening quote of a string, and after the string
inside_of : (s x inside : List ℕ) → s ≡ 34 ∷ (inside ++ (34 ∷ [])) → s
    ++ x ≡ 34 ∷ (inside ++ (34 ∷ x))
inside_of s x inside e = ap (λ (z : List ℕ). z ++ x) e ∙ ap (λ (z : List ℕ). 34 ∷ z)
    (append_assoc inside (34 ∷ []) x)

pub same_string : (content other s t x y : List ℕ) → IsString content s → IsString other t → s
    ++ x ≡ t ++ y → (content ≡ other) × (s ≡ t)
same_string content other s t x y p q e =
    let inside = tail (sym (inside_of s x p.inside p.quoted) ∙ e
    ∙ inside_of t y q.inside q.quoted) in
    let same = same_chars p.characters q.characters p.inside q.inside (34 ∷ x) (34 ∷ y) p.spells
    q.spells (no_char_at_quote x) (no_char_at_quote y) inside in (
      p.content_is ∙ ap encode_utf8_all same.0 ∙ sym q.content_is,
      p.quoted
          ∙ ap (λ (z : List ℕ). 34 ∷ (z ++ (34 ∷ []))) same.1 ∙ sym q.quoted,
    )

quote_goes_on : (why : TextWhy) (x : List ℕ) → StopsString why (34 ∷ x) → ⊥
quote_goes_on why x h = h.1 refl

-- a string that has its closing quote isn't refused
pub not_cut : (n : ℕ) (content s x bs : List ℕ) (refusal : Refusal) → IsString content s → bs ≡ s
    ++ x → IsBrokenString n bs refusal → ⊥
not_cut n content s x bs refusal p e q =
    let inside = tail (sym (inside_of s x p.inside p.quoted) ∙ sym e ∙ q.begins) in
    let same = same_chars p.characters q.characters p.inside q.inside (34 ∷ x) q.left p.spells
    q.spells (no_char_at_quote x) (no_char_where_stopped refusal.why q.left q.stops) inside in
    quote_goes_on refusal.why x (subst (StopsString refusal.why) (sym same.2) q.stops)

same_why : (why other : TextWhy) (bs : List ℕ) → StopsString why bs → StopsString other bs
    → why ≡ other
same_why why other [] p q = p ∙ sym q
same_why why other (b ∷ bs) p q = p.0 ∙ sym q.0

pub same_cut : (n : ℕ) (bs : List ℕ) (r s : Refusal) → IsBrokenString n bs r → IsBrokenString n bs s
    → r ≡ s
same_cut n bs r s p q =
    let inside = tail (sym p.begins ∙ q.begins) in
    let same = same_chars p.characters q.characters p.inside q.inside p.left q.left p.spells
    q.spells (no_char_where_stopped r.why p.left p.stops)
    (no_char_where_stopped s.why q.left q.stops) inside in
    let left : length p.left ≡ length q.left = ap (λ (x : List ℕ). length x) same.2 in
    let place : r.at ≡ s.at = omega (arith, p.place, q.place, left) in
    let why : r.why ≡ s.why = same_why r.why s.why q.left (subst (StopsString r.why) same.2 p.stops)
    q.stops in
    let made : ℕ → TextWhy → Refusal = λ (a : ℕ) (w : TextWhy). record { at = a; why = w } in
    ap₂ made place why
