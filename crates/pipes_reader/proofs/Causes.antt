-- Causes of refusals: of one token, and from a reader to the reader that it is a part of.
use Rattle.std.proofs.Common.{◌≡◌, ℕ, Bool, true, false, List, [], ◌∷◌, ◌++◌, Option, Some, None}
use Rattle.std.proofs.Common.{Result, Ok, Err, refl, sym, ap, subst, ◌∙◌, ◌⊎◌, inl, inr}
use Rattle.pipes_token.specs.declared.refusal.TextWhy.{TextWhy}
use Rattle.pipes_token.specs.declared.refusal.Refusal.{Refusal}
use Rattle.pipes_token.specs.declared.token.TokenKind.{TokenKind}
use Rattle.pipes_token.specs.declared.token.TokenKind.TheVariants.{Sign, Keyword, Name, Number}
use Rattle.pipes_token.specs.declared.token.TokenKind.TheVariants.{Text, Long, Cut, Byte, End}
use Rattle.pipes_token.specs.declared.token.Token.{Token}
use Rattle.pipes_reader.specs.Reading.{kinds_of, refused_by}
use Rattle.pipes_reader.specs.Sentences.{Grammar, Begins}
use Rattle.pipes_reader.specs.Causes.{AreAlike, itself, two_numbers, two_names, IsTextWhy, own}
use Rattle.pipes_reader.specs.Causes.{broken}
use Rattle.pipes_reader.specs.Causes.{other_number, other_word, over_limit, not_allowed}

pub why_map : (G G2 : TokenKind → Type 0) (F F2 : Type 0) (S S2 : TokenKind → Type 0)
    → ((k : TokenKind) → G k → G2 k) → (F → F2) → (k : TokenKind) (w : TextWhy)
    → ((j : TokenKind) → AreAlike k j → S j → S2 j) → IsTextWhy G F S k w → IsTextWhy G2 F2 S2 k w
why_map G G2 F F2 S S2 g f _ _ s (own k w e) = own k w e
why_map G G2 F F2 S S2 g f _ _ s (broken r content goes) = broken r content (g (Text content) goes)
why_map G G2 F F2 S S2 g f _ _ s (other_number n m goes) = other_number n m (g (Number m) goes)
why_map G G2 F F2 S S2 g f _ _ s (other_word k w is named goes) =
    other_word k w is named (g (Name w) goes)
why_map G G2 F F2 S S2 g f _ _ s (over_limit k w is (inl goes)) = over_limit k w is (inl (g k goes))
why_map G G2 F F2 S S2 g f _ _ s (over_limit k w is (inr full)) = over_limit k w is (inr (f full))
why_map G G2 F F2 S S2 g f _ _ s (not_allowed k e stuck) = not_allowed k e
    (λ j a. s j a (stuck j a))

-- ---- a reader's refusals

abbrev pub Refuses : {B : Type 0} → (List Token → Result B Refusal) → List Token → Type 0
Refuses read ts = (r : Refusal) × (read ts ≡ Err r)

-- why a reader refuses a token after others
abbrev pub CauseOf : {A B : Type 0} → Grammar A → (List Token → Result B Refusal) → List Token
    → TokenKind → TextWhy → Type 0
CauseOf Is read before =
    IsTextWhy (λ k. Begins Is (kinds_of before ++ (k ∷ [])))
    ((other : List Token) → Refuses read (before ++ other))
    (λ k. (u : Token) (other : List Token) → u.kind ≡ k → Refuses read (before ++ (u ∷ other)))

-- ---- one token

-- a token of the kind has a value
abbrev pub HasValue : {A : Type 0} → (TokenKind → Option A) → TokenKind → Type 0
HasValue {A} value k = (x : A) × (value k ≡ Some x)

abbrev pub NoValue : {A : Type 0} → (TokenKind → Option A) → TokenKind → Type 0
NoValue value k = value k ≡ None

-- why a token without a value is refused
abbrev pub LeafWhy : {A : Type 0} → (TokenKind → Option A) → TokenKind → TextWhy → Type 0
LeafWhy value = IsTextWhy (HasValue value) ⊥ (NoValue value)

-- where a token has no value, none like it has
abbrev pub IsSteady : {A : Type 0} → (TokenKind → Option A) → Type 0
IsSteady value = (k j : TokenKind) → AreAlike k j → NoValue value k → NoValue value j

pub steady_by : {A : Type 0} (value : TokenKind → Option A)
    → ((n m : ℕ) → NoValue value (Number n) → NoValue value (Number m))
    → ((v w : List ℕ) → NoValue value (Name v) → NoValue value (Name w)) → IsSteady value
steady_by value of_number of_name _ _ (itself k) e = e
steady_by value of_number of_name _ _ (two_numbers n m) e = of_number n m e
steady_by value of_number of_name _ _ (two_names v w) e = of_name v w e

-- a token that the grammar doesn't allow, nor any like it
pub plain_why : (G : TokenKind → Type 0) (F : Type 0) (S : TokenKind → Type 0) (k : TokenKind)
    (at : ℕ) → ((j : TokenKind) → AreAlike k j → S j) → IsTextWhy G F S k (refused_by k at).why
plain_why G F S Long at s = own Long _ refl
plain_why G F S Byte at s = own Byte _ refl
plain_why G F S End at s = own End _ refl
plain_why G F S (Sign x) at s = not_allowed (Sign x) refl s
plain_why G F S (Keyword x) at s = not_allowed (Keyword x) refl s
plain_why G F S (Name x) at s = not_allowed (Name x) refl s
plain_why G F S (Number x) at s = not_allowed (Number x) refl s
plain_why G F S (Text x) at s = not_allowed (Text x) refl s
plain_why G F S (Cut x) at s = not_allowed (Cut x) refl s

pub steady_why : {A : Type 0} (value : TokenKind → Option A) → IsSteady value → (k : TokenKind)
    (at : ℕ) → NoValue value k → LeafWhy value k (refused_by k at).why
steady_why value steady k at none =
    plain_why (HasValue value) ⊥ (NoValue value) k at (λ j a. steady k j a none)
