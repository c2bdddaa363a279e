-- The readers of numbers, strings and names.
use Rattle.std.proofs.Common.{◌≡◌, ℕ, ◌<◌, ◌≤◌, length, Bool, true, false, cond, nat_le, ◌&&◌, List}
use Rattle.std.proofs.Common.{[], ◌∷◌}
use Rattle.std.proofs.Common.{Option, Some, None, refl, sym, ap, ◌∙◌, ◌⊎◌, inl, inr, arith}
use Rattle.std.proofs.lemmas.Bool.{le-leb, leb-true}
use Rattle.pipes_token.specs.declared.refusal.Refusal.{Refusal}
use Rattle.pipes_token.specs.declared.token.TokenKind.{TokenKind}
use Rattle.pipes_token.specs.declared.token.TokenKind.TheVariants.{Sign, Keyword, Name, Number}
use Rattle.pipes_token.specs.declared.token.TokenKind.TheVariants.{Text, Long, Cut, Byte, End}
use Rattle.pipes_token.specs.Tokens.{is_last}
use Rattle.pipes_reader.specs.Reading.{refused_by}
use Rattle.pipes_reader.specs.Sentences.{Anywhere, Begins}
use Rattle.pipes_reader.specs.Causes.{AreAlike, itself, two_numbers, two_names, IsWord, broken}
use Rattle.pipes_reader.specs.Causes.{other_number, other_word}
use Rattle.pipes_reader.specs.Places.{AtToken}
use Rattle.pipes_reader.specs.Names.{is_taken}
use Rattle.pipes_reader.specs.Taking.{number_between, number_refused, take_number, string_content}
use Rattle.pipes_reader.specs.Taking.{text_refused, take_text, unless_taken, name_refused}
use Rattle.pipes_reader.specs.Taking.{take_name}
use Rattle.pipes_reader.proofs.Causes.{HasValue, NoValue, LeafWhy, IsSteady, steady_by, plain_why}
use Rattle.pipes_reader.proofs.Causes.{steady_why}
use Rattle.pipes_reader.proofs.Fresh.{fresh}
use Rattle.pipes_reader.proofs.ShortNames.{short_name}
use Rattle.pipes_reader.proofs.Readers.{IsReader, IsReaderIf}
use Rattle.pipes_reader.proofs.Singles.{One, one, NotLast, Placed, HasCauses, reads_one}
use Rattle.pipes_reader.proofs.Singles.{reads_one_if}
use Rattle.pipes_reader.proofs.Singles.{refused_place}

-- ---- numbers

-- the number that a token is, between these
pub record IsBetween (low high n : ℕ) (k : TokenKind) : Type 0 where
  pub is : k ≡ Number n
  pub least : low ≤ n
  pub most : n ≤ high

both_true : (a b : Bool) → (a && b) ≡ true → (a ≡ true) × (b ≡ true)
both_true true b e = (refl, e)
both_true false b e = absurd cc

number_by : (b : Bool) (m n : ℕ) → cond b (Some m) None ≡ Some n → (b ≡ true) × (m ≡ n)
number_by true m n e = (refl, cc)
number_by false m n e = absurd cc

pub number_is : (low high n : ℕ) (k : TokenKind) → number_between low high k ≡ Some n
    → IsBetween low high n k
number_is low high n (Number m) e =
    let by = number_by (nat_le low m && nat_le m high) m n e in
    let b = both_true (nat_le low m) (nat_le m high) by.0 in
    record {
      is = ap (λ (z : ℕ). Number z) by.1;
      least = omega (arith, leb-true low m b.0, by.1);
      most = omega (arith, leb-true m high b.1, by.1);
    }
number_is low high n (Sign z) e = absurd cc
number_is low high n (Keyword z) e = absurd cc
number_is low high n (Name z) e = absurd cc
number_is low high n (Text z) e = absurd cc
number_is low high n (Cut z) e = absurd cc
number_is low high n Long e = absurd cc
number_is low high n Byte e = absurd cc
number_is low high n End e = absurd cc

pub number_of : (low high n : ℕ) → low ≤ n → n ≤ high → number_between low high (Number n) ≡ Some n
number_of low high n least most = rw (le-leb low n least, le-leb n high most) refl

abbrev is_number : TokenKind → Bool
is_number (Number n) = true
is_number _ = false

number_not_last : (low high : ℕ) → NotLast (number_between low high)
number_not_last low high k n e = ap (λ (z : TokenKind). is_last z) (number_is low high n k e).is

number_placed : (low high : ℕ) → Placed (number_between low high) number_refused
number_placed low high (Number n) at is = inl refl
number_placed low high k at is = inl (place k at)
  where
    place : (k : TokenKind) (at : ℕ) → (number_refused k at).at ≡ at
    place (Number n) at = refl
    place k at = refused_place k at

pub some_number : (low high : ℕ) → low ≤ high → Begins (One (number_between low high)) []
some_number low high le =
    (low, Number low ∷ [], one (Number low) low (number_of low high low (omega arith) le))

-- a number that has no value is out of range, and what is like another token has none either
number_causes : (low high : ℕ) → low ≤ high → HasCauses (number_between low high) number_refused
number_causes low high le k at is = by k is
  where
    others : (k j : TokenKind) → AreAlike k j → is_number k ≡ false
        → number_between low high k ≡ None → number_between low high j ≡ None
    others _ _ (itself k) e none = none
    others _ _ (two_numbers n m) e none = absurd cc
    others _ _ (two_names v w) e none = refl

    plain : (k : TokenKind) → is_number k ≡ false → number_between low high k ≡ None
        → LeafWhy (number_between low high) k (refused_by k at).why
    plain k e none =
        plain_why (HasValue (number_between low high)) ⊥ (NoValue (number_between low high)) k at
        (λ j a. others k j a e none)

    by : (k : TokenKind) → number_between low high k ≡ None
        → LeafWhy (number_between low high) k (number_refused k at).why
    by (Number n) none = other_number n low (low, number_of low high low (omega arith) le)
    by (Sign x) none = plain (Sign x) refl none
    by (Keyword x) none = plain (Keyword x) refl none
    by (Name x) none = plain (Name x) refl none
    by (Text x) none = plain (Text x) refl none
    by (Cut x) none = plain (Cut x) refl none
    by Long none = plain Long refl none
    by Byte none = plain Byte refl none
    by End none = plain End refl none

pub reads_number : (low high : ℕ) → low ≤ high
    → IsReader (One (number_between low high)) (Anywhere (One (number_between low high))) AtToken
    (take_number low high)
unfolding take_number
reads_number low high le =
    reads_one (number_between low high) number_refused (some_number low high le)
    (number_not_last low high) (number_placed low high) (number_causes low high le)

-- ---- strings

pub text_is : (k : TokenKind) (t : List ℕ) → string_content k ≡ Some t → k ≡ Text t
text_is (Text s) t e =
    let same : s ≡ t = cc in
    ap (λ (z : List ℕ). Text z) same
text_is _ t e = absurd cc

text_not_last : NotLast string_content
text_not_last k t e = ap (λ (z : TokenKind). is_last z) (text_is k t e)

text_placed : Placed string_content text_refused
text_placed (Cut r) at is = inr refl
text_placed (Sign s) at is = inl refl
text_placed (Keyword k) at is = inl refl
text_placed (Name w) at is = inl refl
text_placed (Number n) at is = inl refl
text_placed (Text t) at is = inl refl
text_placed Long at is = inl refl
text_placed Byte at is = inl refl
text_placed End at is = inl refl

pub some_text : Begins (One string_content) []
some_text = ([], Text [] ∷ [], one (Text []) [] refl)

plain : (k : TokenKind) (at : ℕ) → string_content k ≡ None → LeafWhy string_content k
    (refused_by k at).why
plain k at none =
    steady_why string_content (steady_by string_content (λ n m e. refl) (λ v w e. refl)) k at none

text_causes : HasCauses string_content text_refused
text_causes (Cut r) at is = broken r [] ([], refl)
text_causes (Text t) at is = absurd cc
text_causes (Sign x) at is = plain (Sign x) at is
text_causes (Keyword x) at is = plain (Keyword x) at is
text_causes (Name x) at is = plain (Name x) at is
text_causes (Number x) at is = plain (Number x) at is
text_causes Long at is = plain Long at is
text_causes Byte at is = plain Byte at is
text_causes End at is = plain End at is

pub reads_text : IsReader (One string_content) (Anywhere (One string_content)) AtToken take_text
unfolding take_text
reads_text = reads_one string_content text_refused some_text text_not_last text_placed text_causes

-- ---- names

abbrev pub name_value : (TokenKind → Option (List ℕ)) → List (List ℕ) → TokenKind → Option (List ℕ)
name_value word names k = unless_taken names (word k)

pub name_is : (names : List (List ℕ)) (o : Option (List ℕ)) (name : List ℕ)
    → unless_taken names o ≡ Some name → (o ≡ Some name) × (is_taken names name ≡ false)
name_is names None name e = absurd cc
name_is names (Some w) name e = by (is_taken names w) refl e
  where
    by : (b : Bool) → is_taken names w ≡ b → cond b None (Some w) ≡ Some name
        → (Some w ≡ Some name) × (is_taken names name ≡ false)
    by true is h = absurd cc
    by false is h =
        let same : w ≡ name = cc in
        (h, ap (λ (n : List ℕ). is_taken names n) (sym same) ∙ is)

pub name_new : (names : List (List ℕ)) (o : Option (List ℕ)) (name : List ℕ) → o ≡ Some name
    → is_taken names name ≡ false → unless_taken names o ≡ Some name
name_new names o name e h = rw (e, h) refl

name_placed : (word : TokenKind → Option (List ℕ)) (names : List (List ℕ))
    → Placed (name_value word names) (λ k at. name_refused (word k) k at)
name_placed word names k at is = inl (by (word k))
  where
    by : (o : Option (List ℕ)) → (name_refused o k at).at ≡ at
    by (Some w) = refl
    by None = refused_place k at

module _ (word : TokenKind → Option (List ℕ)) (names : List (List ℕ))
    (named : (w : List ℕ) → word (Name w) ≡ Some w) (last : NotLast word)
    (words : (k : TokenKind) (w : List ℕ) → word k ≡ Some w → IsWord k) (steady : IsSteady word)
  where
    name_not_last : NotLast (name_value word names)
    name_not_last k w e = last k w (name_is names (word k) w e).0

    pub some_name : Begins (One (name_value word names)) []
    some_name = some (fresh names)
      where
        some : (w : List ℕ) × (is_taken names w ≡ false) → Begins (One (name_value word names)) []
        some (w, h) = (
          w,
          Name w ∷ [],
          one (Name w) w (name_new names (word (Name w)) w
              (named w) h),
        )

    name_causes : length names < 64
        → HasCauses (name_value word names) (λ k at. name_refused (word k) k at)
    name_causes room k at is = by (word k) refl
      where
        by : (o : Option (List ℕ)) → word k ≡ o
            → LeafWhy (name_value word names) k (name_refused o k at).why
        by (Some w) e =
            let f = short_name names room in
            other_word k f.name (words k w e) f.named
            (f.name, name_new names (word (Name f.name)) f.name (named f.name) f.new)
        by None e =
            plain_why (HasValue (name_value word names)) ⊥ (NoValue (name_value word names)) k at
            (λ j a. ap (λ (o : Option (List ℕ)). unless_taken names o) (steady k j a e))

    pub reads_name : IsReaderIf (λ ts. length names < 64) (One (name_value word names))
        (Anywhere (One (name_value word names))) AtToken
        (take_name word names)
    unfolding take_name
    reads_name =
        reads_one_if (length names < 64) (name_value word names)
        (λ k at. name_refused (word k) k at) some_name name_not_last
        (name_placed word names) name_causes
