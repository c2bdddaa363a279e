-- Which bytes at the start of a text spell a token, and that they are the longest that do.
use Rattle.std.proofs.Common.{◌≡◌, ◌≢◌, ℕ, Bool, true, List, [], ◌∷◌, ◌++◌, length, refl, sym, ap}
use Rattle.std.proofs.Common.{subst, true≢false, ◌∙◌, arith, inl, inr, ◌⊎◌, append-nil}
use Rattle.std.proofs.Common.{length-append}
use Rattle.std.specs.Char.{is_ascii_lowercase, is_ascii_digit}
use Rattle.std.specs.List.{list_all}
use Rattle.std.proofs.lemmas.Bool.{and_parts}
use Rattle.std.proofs.lemmas.List.{nil_from_length}
use Rattle.std.proofs.lemmas.List.Folds.{list_all-append}
use Rattle.pipes_tuple.specs.Reading.{is_numeral}
use Rattle.pipes_token.specs.declared.token.Sign.{Sign as ASign}
use Rattle.pipes_token.specs.declared.token.Sign.TheVariants as sign
use Rattle.pipes_token.specs.declared.token.TokenKind.{TokenKind}
use Rattle.pipes_token.specs.Strings.{IsString}
use Rattle.pipes_token.specs.Spelling.{sign_text, is_word_byte, is_word, Spells, IsLongest}
use Rattle.pipes_token.proofs.Runs.{Stopped}
use Rattle.pipes_token.proofs.Strings.{same_string}
use Rattle.pipes_token.proofs.ByFirst.{Class, class_of, a_word, a_number, a_string, a_sign, Of}
use Rattle.pipes_token.proofs.ByFirst.{by_first, first_of_word, first_of_number}

of_class : (kind : TokenKind) (b : ℕ) (bs : List ℕ) (c : Class) → class_of b ≡ c
    → Spells kind (b ∷ bs) → Of c (b ∷ bs) kind
of_class kind b bs c e h = subst (λ (x : Class). Of x (b ∷ bs) kind) e (by_first kind b bs h)

-- a byte that passes can't follow the longest run that does
not_more : (test : ℕ → Bool) (prefix rest more left : List ℕ) (m : ℕ)
    → list_all test (prefix ++ (m ∷ more)) ≡ true → Stopped test rest → rest ≡ (m ∷ more) ++ left
    → ⊥
not_more test prefix [] more left m h s e = absurd cc
not_more test prefix (r ∷ rest) more left m h s e =
    let same : r ≡ m = cc in
    let all = and_parts (list_all test prefix) (list_all test (m ∷ more))
    (sym (list_all-append test prefix (m ∷ more)) ∙ h) in
    let passes = and_parts (test m) (list_all test more) all.1 in
    true≢false (sym passes.0 ∙ ap test (sym same) ∙ s)

pub word_longest : (word rest : List ℕ) → is_word word ≡ true → Stopped is_word_byte rest
    → IsLongest word rest
word_longest [] rest h s kind more left e k = absurd (true≢false (sym h))
word_longest (b ∷ bs) rest h s kind [] left e k = refl
word_longest (b ∷ bs) rest h s kind (m ∷ more) left e k =
    let word = of_class kind b (bs ++ (m ∷ more)) a_word (first_of_word b bs h) k in
    let all = and_parts (is_ascii_lowercase b) (list_all is_word_byte (bs ++ (m ∷ more))) word.0 in
    absurd (not_more is_word_byte bs rest more left m all.1 s e)

pub number_longest : (digits rest : List ℕ) → is_numeral digits ≡ true → Stopped is_ascii_digit rest
    → IsLongest digits rest
number_longest [] rest h s kind more left e k = absurd cc
number_longest (b ∷ bs) rest h s kind [] left e k = refl
number_longest (b ∷ bs) rest h s kind (m ∷ more) left e k =
    let number = of_class kind b (bs ++ (m ∷ more)) a_number (first_of_number b bs h) k in
    let all = (and_parts _ (list_all is_ascii_digit ((b ∷ bs) ++ (m ∷ more))) number.0).1 in
    absurd (not_more is_ascii_digit (b ∷ bs) rest more left m all s e)

none_more : (s more : List ℕ) → s ≡ s ++ more → more ≡ []
none_more s more e = nil_from_length more (omega (
  arith,
  ap (λ (x : List ℕ). length x) e,
  length-append s more,
))

string_more : (content s more : List ℕ) (kind : TokenKind) → IsString content s
    → Of a_string (s ++ more) kind → more ≡ []
string_more content s more kind p q =
    none_more s more (same_string content q.0 s (s ++ more) more [] p q.1
    (sym (append-nil (s ++ more)))).1

string_class : (content s more : List ℕ) (kind : TokenKind) → IsString content s
    → Spells kind (s ++ more) → Of a_string (s ++ more) kind
string_class content s more kind p h =
    let quoted : s ++ more ≡ 34 ∷ ((p.inside ++ (34 ∷ [])) ++ more) =
    ap (λ (x : List ℕ). x ++ more) p.quoted in
    subst (λ (x : List ℕ). Of a_string x kind) (sym quoted) (of_class kind 34
    ((p.inside ++ (34 ∷ [])) ++ more) a_string refl (subst (λ (x : List ℕ). Spells kind x)
    quoted h))

pub string_longest : (content s rest : List ℕ) → IsString content s → IsLongest s rest
string_longest content s rest p kind more left e h = string_more content s more kind p
    (string_class content s more kind p h)

-- ---- signs

sign_tail : (s : ASign) (b : ℕ) (bs : List ℕ) → b ∷ bs ≡ sign_text s → (bs ≡ [])
    ⊎ ((b ≡ 60) × (bs ≡ 61 ∷ []))
sign_tail sign.Open b bs e = inl cc
sign_tail sign.Close b bs e = inl cc
sign_tail sign.OpenList b bs e = inl cc
sign_tail sign.CloseList b bs e = inl cc
sign_tail sign.Comma b bs e = inl cc
sign_tail sign.Dollar b bs e = inl cc
sign_tail sign.Point b bs e = inl cc
sign_tail sign.Equal b bs e = inl cc
sign_tail sign.Less b bs e = inl cc
sign_tail sign.AtMost b bs e = inr (cc, cc)
sign_tail sign.Plus b bs e = inl cc
sign_tail sign.Minus b bs e = inl cc
sign_tail sign.Star b bs e = inl cc

pub no_sign : (b : ℕ) → b ≢ 40 → b ≢ 41 → b ≢ 91 → b ≢ 93 → b ≢ 44 → b ≢ 36 → b ≢ 46 → b ≢ 61
    → b ≢ 43 → b ≢ 45 → b ≢ 42 → (s : ASign) (bs : List ℕ) → b ∷ bs ≡ sign_text s → b ≡ 60
no_sign b h1 h2 h3 h4 h5 h6 h7 h8 h9 h10 h11 sign.Open bs e = absurd (h1 cc)
no_sign b h1 h2 h3 h4 h5 h6 h7 h8 h9 h10 h11 sign.Close bs e = absurd (h2 cc)
no_sign b h1 h2 h3 h4 h5 h6 h7 h8 h9 h10 h11 sign.OpenList bs e = absurd (h3 cc)
no_sign b h1 h2 h3 h4 h5 h6 h7 h8 h9 h10 h11 sign.CloseList bs e = absurd (h4 cc)
no_sign b h1 h2 h3 h4 h5 h6 h7 h8 h9 h10 h11 sign.Comma bs e = absurd (h5 cc)
no_sign b h1 h2 h3 h4 h5 h6 h7 h8 h9 h10 h11 sign.Dollar bs e = absurd (h6 cc)
no_sign b h1 h2 h3 h4 h5 h6 h7 h8 h9 h10 h11 sign.Point bs e = absurd (h7 cc)
no_sign b h1 h2 h3 h4 h5 h6 h7 h8 h9 h10 h11 sign.Equal bs e = absurd (h8 cc)
no_sign b h1 h2 h3 h4 h5 h6 h7 h8 h9 h10 h11 sign.Less bs e = cc
no_sign b h1 h2 h3 h4 h5 h6 h7 h8 h9 h10 h11 sign.AtMost bs e = cc
no_sign b h1 h2 h3 h4 h5 h6 h7 h8 h9 h10 h11 sign.Plus bs e = absurd (h9 cc)
no_sign b h1 h2 h3 h4 h5 h6 h7 h8 h9 h10 h11 sign.Minus bs e = absurd (h10 cc)
no_sign b h1 h2 h3 h4 h5 h6 h7 h8 h9 h10 h11 sign.Star bs e = absurd (h11 cc)

-- a sign of one byte, unless it is `<` and `=` follows
pub sign_longest : (s : ASign) (b : ℕ) (rest : List ℕ) → b ∷ [] ≡ sign_text s
    → ((more : List ℕ) → b ≡ 60 → rest ≡ 61 ∷ more → ⊥) → class_of b ≡ a_sign
    → IsLongest (b ∷ []) rest
sign_longest s b rest h alone c kind more left e k =
    let other = of_class kind b more a_sign c k in
    elim (sign_tail other.0 b more other.1) [
      | inl none ↦ none
      | inr two ↦ absurd (alone left two.0 (e ∙ ap (λ (x : List ℕ). x ++ left) two.1))
    ]

pub at_most_longest : (rest : List ℕ) → IsLongest (60 ∷ 61 ∷ []) rest
at_most_longest rest kind more left e k =
    let other = of_class kind 60 (61 ∷ more) a_sign refl k in
    elim (sign_tail other.0 60 (61 ∷ more) other.1) [
      | inl none ↦ absurd cc
      | inr two ↦
          let tail : 61 ∷ more ≡ 61 ∷ [] = two.1 in
          cc
    ]
