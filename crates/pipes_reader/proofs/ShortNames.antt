-- Where fewer than 64 names are taken there is another one that texts have.
use Rattle.std.proofs.Common.{◌≡◌, ◌≢◌, ℕ, zero, suc, ◌+◌, ◌<◌, ◌≤◌, Bool, true, false, ◌==◌, List}
use Rattle.std.proofs.Common.{[], ◌∷◌, length, refl, sym, ap, subst, ◌∙◌, ◌⊎◌, inl, inr, arith}
use Rattle.std.specs.List.{list_all}
use Rattle.std.specs.Str.{bytes_eq}
use Rattle.std.specs.Bool.{Decides}
use Rattle.std.proofs.lemmas.Bool.{cases_lt}
use Rattle.std.proofs.lemmas.Slice.Eq.{bytes_eq-Decides}
use Rattle.pipes_token.specs.declared.keyword.Keyword.{Keyword}
use Rattle.pipes_token.specs.declared.keyword.Keyword.TheVariants.{Source}
use Rattle.pipes_token.specs.Keywords.{keyword_text}
use Rattle.pipes_token.specs.Spelling.{is_word_byte, is_word}
use Rattle.pipes_reader.specs.Names.{IsSourceName, is_taken}

-- ---- a length that no name has

-- no name has this length
abbrev NoneOf : ℕ → List (List ℕ) → Type 0
NoneOf n [] = Unit {0}
NoneOf n (name ∷ names) = (length name ≢ n) × NoneOf n names

-- all names but one of this length
record AllButOne (n : ℕ) (names : List (List ℕ)) : Type 0 where
  others : List (List ℕ)
  fewer : suc (length others) ≡ length names
  back : (m : ℕ) → m < n → NoneOf m others → NoneOf m names

is_or_not : (m n : ℕ) → (m ≡ n) ⊎ (m ≢ n)
is_or_not m n = by (cases_lt m n) (cases_lt n m)
  where
    by : (m < n) ⊎ (n ≤ m) → (n < m) ⊎ (m ≤ n) → (m ≡ n) ⊎ (m ≢ n)
    by (inl lt) _ = inr (λ e. omega (arith, lt, e))
    by (inr le) (inl lt) = inr (λ e. omega (arith, lt, e))
    by (inr le) (inr ge) = inl (omega (arith, le, ge))

find : (n : ℕ) (names : List (List ℕ)) → NoneOf n names ⊎ AllButOne n names
find n [] = inl tt
find n (name ∷ names) = by (is_or_not (length name) n) (find n names)
  where
    by : (length name ≡ n) ⊎ (length name ≢ n) → NoneOf n names ⊎ AllButOne n names
        → NoneOf n (name ∷ names) ⊎ AllButOne n (name ∷ names)
    by (inl same) _ = inr (record {
      others = names;
      fewer = refl;
      back = λ m lt none. ((λ e. omega (arith, lt, same, e)), none);
    })
    by (inr other) (inl none) = inl (other, none)
    by (inr other) (inr one) = inr (record {
      others = name ∷ one.others;
      fewer = ap (λ (k : ℕ). suc k) one.fewer;
      back = λ m lt none. (none.0, one.back m lt none.1);
    })

-- one of the first lengths is free
record FreeLength (most : ℕ) (names : List (List ℕ)) : Type 0 where
  size : ℕ
  least : 1 ≤ size
  within : size ≤ most
  free : NoneOf size names

free_length : (most : ℕ) (names : List (List ℕ)) → length names < most → FreeLength most names
free_length zero names lt = absurd (omega (arith, lt))
free_length (suc most) names lt = by (find (suc most) names) (free_length most)
  where
    by : NoneOf (suc most) names ⊎ AllButOne (suc most) names
        → ((others : List (List ℕ)) → length others < most → FreeLength most others)
        → FreeLength (suc most) names
    by (inl none) shorter = record {
      size = suc most;
      least = omega arith;
      within = omega arith;
      free = none;
    }
    by (inr one) shorter =
        let f = shorter one.others (omega (arith, lt, one.fewer)) in
        record {
          size = f.size;
          least = f.least;
          within = omega (arith, f.within);
          free = one.back f.size (omega (arith, f.within)) f.free;
        }

-- ---- a word of each length

-- so many letters a
letters : ℕ → List ℕ
letters zero = []
letters (suc n) = 97 ∷ letters n

abbrev is_a : ℕ → Bool
is_a b = b == 97

many_letters : (n : ℕ) → length (letters n) ≡ n
unfolding letters
many_letters zero = refl
many_letters (suc n) = ap (λ (k : ℕ). suc k) (many_letters n)

all_letters : (n : ℕ) → list_all is_a (letters n) ≡ true
unfolding letters
all_letters zero = refl
all_letters (suc n) = rw (all_letters n) refl

word_bytes : (n : ℕ) → list_all is_word_byte (letters n) ≡ true
unfolding letters
word_bytes zero = refl
word_bytes (suc n) = rw (word_bytes n) refl

letters_word : (n : ℕ) → 1 ≤ n → is_word (letters n) ≡ true
unfolding letters
letters_word zero le = absurd (omega (arith, le))
letters_word (suc n) le = rw (word_bytes n) refl

-- each keyword has another letter
keyword_letters : (k : Keyword) → list_all is_a (keyword_text k) ≡ false
keyword_letters Source = refl
keyword_letters _ = refl

no_keyword : (n : ℕ) (k : Keyword) → letters n ≡ keyword_text k → ⊥
no_keyword n k e = differ (sym (all_letters n) ∙ ap (λ (w : List ℕ). list_all is_a w) e
    ∙ keyword_letters k)
  where
    differ : true ≡ false → ⊥
    differ f = cc

-- ---- a name

other_length : (word name : List ℕ) (b : Bool) → Decides b (word ≡ name)
    → length name ≢ length word → b ≡ false
other_length word name false h ne = refl
other_length word name true h ne = absurd (ne (ap length (sym (same h))))
  where
    same : Decides true (word ≡ name) → word ≡ name
    same h = h.0 refl

not_taken : (names : List (List ℕ)) (word : List ℕ) → NoneOf (length word) names
    → is_taken names word ≡ false
not_taken [] word none = refl
not_taken (name ∷ names) word none =
    let first : bytes_eq word name ≡ false =
    other_length word name (bytes_eq word name) (bytes_eq-Decides word name) none.0 in
    rw (first, not_taken names word none.1) refl

-- a name that texts have, and that isn't among these
pub record ShortName (names : List (List ℕ)) : Type 0 where
  pub name : List ℕ
  pub named : IsSourceName name
  pub new : is_taken names name ≡ false

pub short_name : (names : List (List ℕ)) → length names < 64 → ShortName names
short_name names lt =
    let f = free_length 64 names lt in
    let size = many_letters f.size in
    record {
      name = letters f.size;
      named = (
        (letters_word f.size f.least, omega (arith, size, f.within)),
        λ is. no_keyword f.size is.0 is.1,
      );
      new = not_taken names (letters f.size)
          (subst (λ (n : ℕ). NoneOf n names) (sym size) f.free);
    }
