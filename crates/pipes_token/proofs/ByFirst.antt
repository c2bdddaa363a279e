-- What a token is, by its first byte and its bytes: there is one kind alone that they spell.
use Rattle.std.proofs.Common.{◌≡◌, ℕ, ◌-◌, ◌^◌, ◌≤◌, min, Bool, true, false, cond, ◌&&◌, List, []}
use Rattle.std.proofs.Common.{◌∷◌, ◌++◌, length, Option, Some, None, refl, sym, ap, subst}
use Rattle.std.proofs.Common.{true≢false, ◌∙◌, arith, inl, inr, ◌⊎◌, nat_lt, nat_le}
use Rattle.std.specs.Prelude.{◌==◌, if◌then◌else◌}
use Rattle.std.specs.Char.{is_ascii_lowercase, is_ascii_digit}
use Rattle.std.specs.List.{list_all, find}
use Rattle.std.specs.Str.{bytes_eq}
use Rattle.std.specs.Str.Parse.{digits_value}
use Rattle.std.proofs.lemmas.Bool.{and_parts, le-ltb, lt-ltb, leb-true, cases_Bool, cond-true}
use Rattle.std.proofs.lemmas.Bool.{cond-false}
use Rattle.std.proofs.lemmas.Bool.Decides.{nat_tests}
use Rattle.std.proofs.lemmas.Slice.Eq.{bytes_eq-Decides}
use Rattle.pipes_token.proofs.Strings.{same_string}
use Rattle.pipes_tuple.specs.Reading.{is_numeral}
use Rattle.pipes_token.specs.declared.keyword.Keyword.{Keyword as AKeyword}
use Rattle.pipes_token.specs.declared.keyword.Keyword.TheVariants as key
use Rattle.pipes_token.specs.declared.keyword.TheConstants.{KEYWORDS}
use Rattle.pipes_token.specs.declared.token.Sign.{Sign as ASign}
use Rattle.pipes_token.specs.declared.token.Sign.TheVariants as sign
use Rattle.pipes_token.specs.declared.token.TokenKind.{TokenKind}
use Rattle.pipes_token.specs.declared.token.TokenKind.TheVariants.{Sign, Keyword, Name, Number}
use Rattle.pipes_token.specs.declared.token.TokenKind.TheVariants.{Text, Long, Cut, Byte, End}
use Rattle.pipes_token.specs.Keywords.{keyword_text}
use Rattle.pipes_token.specs.Strings.{IsString}
use Rattle.pipes_token.specs.Spelling.{sign_text, is_word_byte, is_word, IsKeyword, IsShortWord}
use Rattle.pipes_token.specs.Spelling.{IsLongWord, IsLongString, Spells}

-- ---- keywords and signs by their spelling

unfoldable pub keyword_of : List ℕ → Option AKeyword
keyword_of w = find (λ k. bytes_eq (keyword_text k) w) KEYWORDS

keyword_again : (k : AKeyword) → keyword_of (keyword_text k) ≡ Some k
unfolding keyword_of
keyword_again key.Source = refl
keyword_again key.From = refl
keyword_again key.Slack = refl
keyword_again key.Window = refl
keyword_again key.Slide = refl
keyword_again key.Time = refl
keyword_again key.Count = refl
keyword_again key.Int = refl
keyword_again key.Text = refl
keyword_again key.Flag = refl
keyword_again key.Plan = refl
keyword_again key.Filter = refl
keyword_again key.Map = refl
keyword_again key.Union = refl
keyword_again key.Join = refl
keyword_again key.Distinct = refl
keyword_again key.Group = refl
keyword_again key.Minus = refl
keyword_again key.Sum = refl
keyword_again key.Min = refl
keyword_again key.Max = refl
keyword_again key.Avg = refl
keyword_again key.True = refl
keyword_again key.False = refl
keyword_again key.And = refl
keyword_again key.Or = refl
keyword_again key.Not = refl
keyword_again key.Step = refl
keyword_again key.Back = refl
keyword_again key.At = refl
keyword_again key.Top = refl
keyword_again key.With = refl
keyword_again key.Feed = refl
keyword_again key.Rest = refl
keyword_again key.Await = refl
keyword_again key.Migrate = refl
keyword_again key.Drain = refl

pub same_keyword : (k l : AKeyword) → keyword_text k ≡ keyword_text l → k ≡ l
same_keyword k l e =
    let some : Some k ≡ Some l = sym (keyword_again k) ∙ ap keyword_of e ∙ keyword_again l in
    cc

pub keyword_is_word : (k : AKeyword)
    → (is_word (keyword_text k) && nat_le (length (keyword_text k)) 64) ≡ true
keyword_is_word key.Source = refl
keyword_is_word key.From = refl
keyword_is_word key.Slack = refl
keyword_is_word key.Window = refl
keyword_is_word key.Slide = refl
keyword_is_word key.Time = refl
keyword_is_word key.Count = refl
keyword_is_word key.Int = refl
keyword_is_word key.Text = refl
keyword_is_word key.Flag = refl
keyword_is_word key.Plan = refl
keyword_is_word key.Filter = refl
keyword_is_word key.Map = refl
keyword_is_word key.Union = refl
keyword_is_word key.Join = refl
keyword_is_word key.Distinct = refl
keyword_is_word key.Group = refl
keyword_is_word key.Minus = refl
keyword_is_word key.Sum = refl
keyword_is_word key.Min = refl
keyword_is_word key.Max = refl
keyword_is_word key.Avg = refl
keyword_is_word key.True = refl
keyword_is_word key.False = refl
keyword_is_word key.And = refl
keyword_is_word key.Or = refl
keyword_is_word key.Not = refl
keyword_is_word key.Step = refl
keyword_is_word key.Back = refl
keyword_is_word key.At = refl
keyword_is_word key.Top = refl
keyword_is_word key.With = refl
keyword_is_word key.Feed = refl
keyword_is_word key.Rest = refl
keyword_is_word key.Await = refl
keyword_is_word key.Migrate = refl
keyword_is_word key.Drain = refl

sign_of : List ℕ → ASign
sign_of [] = sign.Less
sign_of (b ∷ bs) =
    if b == 40 then sign.Open
    else if b == 41 then sign.Close
    else if b == 91 then sign.OpenList
    else if b == 93 then sign.CloseList
    else if b == 44 then sign.Comma
    else if b == 36 then sign.Dollar
    else if b == 46 then sign.Point
    else if b == 61 then sign.Equal
    else if b == 43 then sign.Plus
    else if b == 45 then sign.Minus
    else if b == 42 then sign.Star
    else cond (bytes_eq bs []) sign.Less sign.AtMost

sign_again : (s : ASign) → sign_of (sign_text s) ≡ s
unfolding sign_of
sign_again sign.Open = refl
sign_again sign.Close = refl
sign_again sign.OpenList = refl
sign_again sign.CloseList = refl
sign_again sign.Comma = refl
sign_again sign.Dollar = refl
sign_again sign.Point = refl
sign_again sign.Equal = refl
sign_again sign.Less = refl
sign_again sign.AtMost = refl
sign_again sign.Plus = refl
sign_again sign.Minus = refl
sign_again sign.Star = refl

pub same_sign : (s t : ASign) → sign_text s ≡ sign_text t → s ≡ t
same_sign s t e = sym (sign_again s) ∙ ap sign_of e ∙ sign_again t

find_passes : (test : AKeyword → Bool) (keywords : List AKeyword) (k : AKeyword)
    → find test keywords ≡ Some k → test k ≡ true
find_passes test [] k e = absurd cc
find_passes test (l ∷ keywords) k e = elim (cases_Bool (test l)) [
  | inl good ↦
      let found : Some l ≡ Some k = sym (cond-true (test l) (Some l) (find test keywords) good)
      ∙ e in
      let same : l ≡ k = cc in
      subst (λ (x : AKeyword). test x ≡ true) same good
  | inr bad ↦ find_passes test keywords k
      (sym (cond-false (test l) (Some l) (find test keywords) bad) ∙ e)
]

pub keyword_found : (w : List ℕ) (k : AKeyword) → keyword_of w ≡ Some k → w ≡ keyword_text k
unfolding keyword_of
keyword_found w k e = sym ((bytes_eq-Decides (keyword_text k) w).0
    (find_passes (λ l. bytes_eq (keyword_text l) w) KEYWORDS k e))

not_found : (w : List ℕ) (found : Option AKeyword) → keyword_of w ≡ found → ¬ (IsKeyword w)
    → found ≡ None
not_found w None e h = refl
not_found w (Some k) e h = absurd (h (k, keyword_found w k e))

pub keyword_missing : (w : List ℕ) → ¬ (IsKeyword w) → keyword_of w ≡ None
keyword_missing w h = not_found w (keyword_of w) refl h

pub missing_keyword : (w : List ℕ) → keyword_of w ≡ None → ¬ (IsKeyword w)
missing_keyword w e (k, same) =
    let both : Some k ≡ None = sym (keyword_again k) ∙ ap keyword_of (sym same) ∙ e in
    absurd cc

-- ---- what the first byte says

head_of : (b c : ℕ) (bs cs : List ℕ) → b ∷ bs ≡ c ∷ cs → b ≡ c
head_of b c bs cs e = cc

pub data Class : Type 0 where
  a_word : Class
  a_number : Class
  a_string : Class
  a_sign : Class

abbrev pub class_of : ℕ → Class
class_of b = cond (is_ascii_lowercase b) a_word (cond (is_ascii_digit b) a_number
    (cond (b == 34) a_string a_sign))

abbrev pub named : Option AKeyword → List ℕ → TokenKind
named (Some k) w = Keyword k
named None w = Name w

abbrev pub word_kind : List ℕ → TokenKind
word_kind w = cond (nat_lt 64 (length w)) Long (named (keyword_of w) w)

abbrev pub number_kind : List ℕ → TokenKind
number_kind ds = Number (min (digits_value 10 ds) (2 ^ 64 - 1))

abbrev pub string_kind : List ℕ → TokenKind
string_kind content = cond (nat_lt 65535 (length content)) Long (Text content)

-- the bytes are a token of the class, and this is its kind
abbrev pub Of : Class → List ℕ → TokenKind → Type 0
Of a_word bs kind = (is_word bs ≡ true) × (kind ≡ word_kind bs)
Of a_number bs kind = (is_numeral bs ≡ true) × (kind ≡ number_kind bs)
Of a_string bs kind = (content : List ℕ) × IsString content bs × (kind ≡ string_kind content)
Of a_sign bs kind = (s : ASign) × (bs ≡ sign_text s) × (kind ≡ Sign s)

pub first_of_word : (b : ℕ) (bs : List ℕ) → is_word (b ∷ bs) ≡ true → class_of b ≡ a_word
first_of_word b bs h =
    let letter : is_ascii_lowercase b ≡ true =
    (and_parts (is_ascii_lowercase b) (list_all is_word_byte bs) h).0 in
    rw letter refl

digit_is_no_letter : (b : ℕ) → is_ascii_digit b ≡ true → is_ascii_lowercase b ≡ false
digit_is_no_letter b h = grind (arith, nat_tests)

pub first_of_number : (b : ℕ) (bs : List ℕ) → is_numeral (b ∷ bs) ≡ true → class_of b ≡ a_number
first_of_number b bs h =
    let digit : is_ascii_digit b ≡ true = (and_parts _ _ (and_parts _ _ h).1).0 in
    rw (digit_is_no_letter b digit, digit) refl

pub first_of_string : (content : List ℕ) (b : ℕ) (bs : List ℕ) → IsString content (b ∷ bs)
    → class_of b ≡ a_string
first_of_string content b bs h =
    let quote : b ≡ 34 = head_of b 34 bs (h.inside ++ (34 ∷ [])) h.quoted in
    ap class_of quote

first_of_sign : (s : ASign) (b : ℕ) (bs : List ℕ) → b ∷ bs ≡ sign_text s → class_of b ≡ a_sign
first_of_sign sign.Open b bs e = ap class_of (head_of b 40 bs _ e)
first_of_sign sign.Close b bs e = ap class_of (head_of b 41 bs _ e)
first_of_sign sign.OpenList b bs e = ap class_of (head_of b 91 bs _ e)
first_of_sign sign.CloseList b bs e = ap class_of (head_of b 93 bs _ e)
first_of_sign sign.Comma b bs e = ap class_of (head_of b 44 bs _ e)
first_of_sign sign.Dollar b bs e = ap class_of (head_of b 36 bs _ e)
first_of_sign sign.Point b bs e = ap class_of (head_of b 46 bs _ e)
first_of_sign sign.Equal b bs e = ap class_of (head_of b 61 bs _ e)
first_of_sign sign.Less b bs e = ap class_of (head_of b 60 bs _ e)
first_of_sign sign.AtMost b bs e = ap class_of (head_of b 60 bs _ e)
first_of_sign sign.Plus b bs e = ap class_of (head_of b 43 bs _ e)
first_of_sign sign.Minus b bs e = ap class_of (head_of b 45 bs _ e)
first_of_sign sign.Star b bs e = ap class_of (head_of b 42 bs _ e)

as_class : (b : ℕ) (c : Class) (bs : List ℕ) (kind : TokenKind) → class_of b ≡ c → Of c bs kind
    → Of (class_of b) bs kind
as_class b c bs kind e h = subst (λ (x : Class). Of x bs kind) (sym e) h

short_kind : (w : List ℕ) → length w ≤ 64 → word_kind w ≡ named (keyword_of w) w
short_kind w h = cond-false (nat_lt 64 (length w)) Long (named (keyword_of w) w)
    (le-ltb 64 (length w) h)

keyword_first : (k : AKeyword) (b : ℕ) (bs : List ℕ) → b ∷ bs ≡ keyword_text k
    → Of (class_of b) (b ∷ bs) (Keyword k)
keyword_first k b bs e =
    let good = and_parts (is_word (keyword_text k)) (nat_le (length (keyword_text k)) 64)
    (keyword_is_word k) in
    let word : is_word (b ∷ bs) ≡ true = ap is_word e ∙ good.0 in
    let short : length (b ∷ bs) ≤ 64 = subst (λ (x : List ℕ). length x ≤ 64) (sym e)
    (leb-true (length (keyword_text k)) 64 good.1) in
    let found : keyword_of (b ∷ bs) ≡ Some k = ap keyword_of e ∙ keyword_again k in
    let kind : Keyword k ≡ word_kind (b ∷ bs) = sym (short_kind (b ∷ bs) short
    ∙ ap (λ (o : Option AKeyword). named o (b ∷ bs)) found) in
    as_class b a_word (b ∷ bs) (Keyword k) (first_of_word b bs word) (word, kind)

name_first : (w : List ℕ) (b : ℕ) (bs : List ℕ) → b ∷ bs ≡ w → IsShortWord w → ¬ (IsKeyword w)
    → Of (class_of b) (b ∷ bs) (Name w)
name_first w b bs e short missing =
    let word : is_word (b ∷ bs) ≡ true = ap is_word e ∙ short.0 in
    let fits : length (b ∷ bs) ≤ 64 = subst (λ (x : List ℕ). length x ≤ 64) (sym e) short.1 in
    let kind : Name w ≡ word_kind (b ∷ bs) = sym (short_kind (b ∷ bs) fits
    ∙ ap (λ (x : List ℕ). named (keyword_of x) x) e ∙ ap (λ (o : Option AKeyword). named o w)
    (keyword_missing w missing)) in
    as_class b a_word (b ∷ bs) (Name w) (first_of_word b bs word) (word, kind)

long_first : (b : ℕ) (bs : List ℕ) → IsLongWord (b ∷ bs) ⊎ IsLongString (b ∷ bs)
    → Of (class_of b) (b ∷ bs) Long
long_first b bs (inl h) = as_class b a_word (b ∷ bs) Long (first_of_word b bs h.0) (
  h.0,
  sym (cond-true (nat_lt 64 (length (b ∷ bs))) Long (named (keyword_of (b ∷ bs)) (b ∷ bs))
      (lt-ltb 64 (length (b ∷ bs)) h.1)),
)
long_first b bs (inr h) = as_class b a_string (b ∷ bs) Long (first_of_string h.0 b bs h.1) (
  h.0,
  h.1,
  sym (cond-true (nat_lt 65535 (length h.0)) Long (Text h.0)
      (lt-ltb 65535 (length h.0) h.2)),
)

-- what spells a token is one of the class of its first byte
pub by_first : (kind : TokenKind) (b : ℕ) (bs : List ℕ) → Spells kind (b ∷ bs)
    → Of (class_of b) (b ∷ bs) kind
by_first (Sign s) b bs h = as_class b a_sign (b ∷ bs) (Sign s) (first_of_sign s b bs h) (s, h, refl)
by_first (Keyword k) b bs h = keyword_first k b bs h
by_first (Name w) b bs h = name_first w b bs h.0 h.1 h.2
by_first (Number n) b bs h = as_class b a_number (b ∷ bs) (Number n) (first_of_number b bs h.0)
    (h.0, ap Number h.1)
by_first (Text content) b bs h = as_class b a_string (b ∷ bs) (Text content)
    (first_of_string content b bs h.0) (
      content,
      h.0,
      sym (cond-false (nat_lt 65535 (length content)) Long (Text content)
          (le-ltb 65535 (length content) h.1)),
    )
by_first Long b bs h = long_first b bs h
by_first (Cut refusal) b bs h = absurd h
by_first Byte b bs h = absurd h
by_first End b bs h = absurd h

pub same_of : (c : Class) (bs : List ℕ) (kind other : TokenKind) → Of c bs kind → Of c bs other
    → kind ≡ other
same_of a_word bs kind other h k = h.1 ∙ sym k.1
same_of a_number bs kind other h k = h.1 ∙ sym k.1
same_of a_string bs kind other h k = h.2
    ∙ ap string_kind (same_string h.0 k.0 bs bs [] [] h.1 k.1 refl).0 ∙ sym k.2
same_of a_sign bs kind other h k = h.2 ∙ ap Sign (same_sign h.0 k.0 (sym h.1 ∙ k.1)) ∙ sym k.2

no_sign_empty : (s : ASign) → [] ≡ sign_text s → ⊥
no_sign_empty sign.Open e = absurd cc
no_sign_empty sign.Close e = absurd cc
no_sign_empty sign.OpenList e = absurd cc
no_sign_empty sign.CloseList e = absurd cc
no_sign_empty sign.Comma e = absurd cc
no_sign_empty sign.Dollar e = absurd cc
no_sign_empty sign.Point e = absurd cc
no_sign_empty sign.Equal e = absurd cc
no_sign_empty sign.Less e = absurd cc
no_sign_empty sign.AtMost e = absurd cc
no_sign_empty sign.Plus e = absurd cc
no_sign_empty sign.Minus e = absurd cc
no_sign_empty sign.Star e = absurd cc

no_keyword_empty : (k : AKeyword) → [] ≡ keyword_text k → ⊥
no_keyword_empty k e =
    let good = and_parts (is_word (keyword_text k)) (nat_le (length (keyword_text k)) 64)
    (keyword_is_word k) in
    true≢false (sym good.0 ∙ ap is_word (sym e))

-- no token is spelled by no bytes
pub never_empty : (kind : TokenKind) → Spells kind [] → ⊥
never_empty (Sign s) h = no_sign_empty s h
never_empty (Keyword k) h = no_keyword_empty k h
never_empty (Name w) h = true≢false (sym h.1.0 ∙ ap is_word (sym h.0))
never_empty (Number n) h = absurd cc
never_empty (Text content) h =
    let e = h.0.quoted in absurd cc
never_empty Long (inl h) = absurd cc
never_empty Long (inr h) =
    let e = h.1.quoted in absurd cc
never_empty (Cut refusal) h = h
never_empty Byte h = h
never_empty End h = h

-- the same bytes spell one kind alone
pub same_kind : (kind other : TokenKind) (bs : List ℕ) → Spells kind bs → Spells other bs
    → kind ≡ other
same_kind kind other [] h k = absurd (never_empty kind h)
same_kind kind other (b ∷ bs) h k = same_of (class_of b) (b ∷ bs) kind other (by_first kind b bs h)
    (by_first other b bs k)
