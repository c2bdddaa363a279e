-- Words, numbers and strings at the start of a text.
use Rattle.std.proofs.Common.{append_assoc, ◌≡◌, ◌≢◌, ℕ, ◌+◌, ◌-◌, ◌^◌, ◌<◌, min, Bool, true, false}
use Rattle.std.proofs.Common.{cond, List, [], ◌∷◌, ◌++◌, length, take, drop, get_or, refl, sym, ap}
use Rattle.std.proofs.Common.{ap₂, subst, true≢false, ◌∙◌, arith, inl, inr, take-append-drop}
use Rattle.std.proofs.Common.{IsUtf8, one-add, nat_lt}
use Rattle.std.specs.Char.{is_ascii_lowercase, is_ascii_digit}
use Rattle.std.specs.List.{list_all, prefix_len}
use Rattle.std.specs.Str.{IsAscii}
use Rattle.std.specs.Str.Parse.{digits_value}
use Rattle.std.proofs.lemmas.Bool.{and_parts, and_from, cases_lt, lt-ltb}
use Rattle.std.proofs.lemmas.Bool.Decides.{nat_tests}
use Rattle.std.proofs.lemmas.List.{get_or_past}
use Rattle.std.proofs.lemmas.List.Elements.{All-get_or}
use Rattle.std.proofs.lemmas.List.Sums.{AllPass-from_list_all}
use Rattle.std.proofs.lemmas.Str.{IsUtf8-from_ascii}
use Rattle.pipes_tuple.specs.Reading.{is_numeral}
use Rattle.pipes_token.specs.declared.token.TokenKind.{TokenKind}
use Rattle.pipes_token.specs.declared.token.TokenKind.TheVariants.{Number}
use Rattle.pipes_token.specs.declared.refusal.TextWhy.TheVariants as why
use Rattle.pipes_token.specs.Strings.{IsString, IsInside, IsBrokenString, StopsString, HasNoChar}
use Rattle.pipes_token.specs.Spelling.{is_word_byte, is_word, Spells}
use Rattle.pipes_token.specs.Tokens.{TokenBegins}
use Rattle.pipes_token.proofs.Runs.{Stopped, run_passes, run_stops}
use Rattle.pipes_token.proofs.Longest.{word_longest, number_longest, string_longest}

-- the bytes of words

letter_is_word_byte : (b : ℕ) → is_ascii_lowercase b ≡ true → is_word_byte b ≡ true
letter_is_word_byte b h = grind (arith, nat_tests)

word_byte_is_ascii : (b : ℕ) → is_word_byte b ≡ true → b < 128
word_byte_is_ascii b h = grind (arith, nat_tests)

pub all_word_bytes : (word : List ℕ) → is_word word ≡ true → list_all is_word_byte word ≡ true
all_word_bytes [] h = refl
all_word_bytes (b ∷ bs) h =
    let k = and_parts (is_ascii_lowercase b) (list_all is_word_byte bs) h in
    and_from (is_word_byte b) (list_all is_word_byte bs) (letter_is_word_byte b k.0) k.1

all_ascii : (word : List ℕ) → list_all is_word_byte word ≡ true → IsAscii word
all_ascii word h i = elim (cases_lt i (length word)) [
  | inl within ↦ word_byte_is_ascii (get_or word i 0) (All-get_or (λ x. is_word_byte x ≡ true) word
      i 0 within (AllPass-from_list_all is_word_byte word h))
  | inr beyond ↦ omega (arith, get_or_past word i 0 beyond)
]

-- a word is ASCII
pub word_is_text : (word : List ℕ) → is_word word ≡ true → IsUtf8 word
word_is_text word h = IsUtf8-from_ascii word (all_ascii word (all_word_bytes word h))

-- a prefix of word bytes that begins with a letter is a word
prefix_by : (b : ℕ) (bs : List ℕ) (t : Bool) → is_word_byte b ≡ t → is_ascii_lowercase b ≡ true
    → is_word (take (cond t (1 + prefix_len is_word_byte bs) 0) (b ∷ bs)) ≡ true
prefix_by b bs true e h = rw one-add (and_from (is_ascii_lowercase b)
    (list_all is_word_byte (take (prefix_len is_word_byte bs) bs)) h (run_passes is_word_byte bs))
prefix_by b bs false e h = absurd (true≢false (sym (letter_is_word_byte b h) ∙ e))

prefix_word : (b : ℕ) (bs : List ℕ) → is_ascii_lowercase b ≡ true
    → is_word (take (prefix_len is_word_byte (b ∷ bs)) (b ∷ bs)) ≡ true
prefix_word b bs h = prefix_by b bs (is_word_byte b) refl h

pub prefix_is_word : (b : ℕ) (bs here word : List ℕ) (n : ℕ) → here ≡ b ∷ bs
    → is_ascii_lowercase b ≡ true → n ≡ prefix_len is_word_byte here → word ≡ take n here
    → is_word word ≡ true
prefix_is_word b bs here word n e h f g =
    ap is_word (g ∙ ap (λ (k : ℕ). take k here) f
    ∙ ap (λ (x : List ℕ). take (prefix_len is_word_byte x) x) e) ∙ prefix_word b bs h

pub word_begins : (kind : TokenKind) (b : ℕ) (bs here word rest : List ℕ) (n : ℕ) → here ≡ b ∷ bs
    → is_ascii_lowercase b ≡ true → n ≡ prefix_len is_word_byte here → word ≡ take n here
    → rest ≡ drop n here → Spells kind word → TokenBegins kind here rest
word_begins kind b bs here word rest n e h f g r k =
    let stops = subst (λ (x : List ℕ). Stopped is_word_byte x)
    (sym (r ∙ ap (λ (m : ℕ). drop m here) f)) (run_stops is_word_byte here) in
    record {
      spelling = word;
      parts = sym (ap₂ (λ (x y : List ℕ). x ++ y) g r ∙ take-append-drop n here);
      spells = k;
      longest = word_longest word rest (prefix_is_word b bs here word n e h f g) stops;
    }

-- numbers

digits_by : (b : ℕ) (bs : List ℕ) (t : Bool) → is_ascii_digit b ≡ t → is_ascii_digit b ≡ true
    → is_numeral (take (cond t (1 + prefix_len is_ascii_digit bs) 0) (b ∷ bs)) ≡ true
digits_by b bs true e h =
    let run = take (prefix_len is_ascii_digit bs) bs in
    rw one-add (and_from (nat_lt 0 (length (b ∷ run))) (list_all is_ascii_digit (b ∷ run))
    (lt-ltb 0 (length (b ∷ run)) (omega arith)) (and_from (is_ascii_digit b)
    (list_all is_ascii_digit run) h (run_passes is_ascii_digit bs)))
digits_by b bs false e h = absurd (true≢false (sym h ∙ e))

pub prefix_is_number : (b : ℕ) (bs here digits : List ℕ) (n : ℕ) → here ≡ b ∷ bs
    → is_ascii_digit b ≡ true → n ≡ prefix_len is_ascii_digit here → digits ≡ take n here
    → is_numeral digits ≡ true
prefix_is_number b bs here digits n e h f g =
    ap is_numeral (g ∙ ap (λ (k : ℕ). take k here) f
    ∙ ap (λ (x : List ℕ). take (prefix_len is_ascii_digit x) x) e)
    ∙ digits_by b bs (is_ascii_digit b) refl h

pub prefix_digits : (here digits : List ℕ) (n : ℕ) → n ≡ prefix_len is_ascii_digit here
    → digits ≡ take n here → list_all is_ascii_digit digits ≡ true
prefix_digits here digits n f g =
    ap (list_all is_ascii_digit) (g ∙ ap (λ (k : ℕ). take k here) f)
    ∙ run_passes is_ascii_digit here

pub number_begins : (value b : ℕ) (bs here digits rest : List ℕ) (n : ℕ) → here ≡ b ∷ bs
    → is_ascii_digit b ≡ true → n ≡ prefix_len is_ascii_digit here → digits ≡ take n here
    → rest ≡ drop n here → value ≡ min (digits_value 10 digits) (2 ^ 64 - 1)
    → TokenBegins (Number value) here rest
number_begins value b bs here digits rest n e h f g r k =
    let stops = subst (λ (x : List ℕ). Stopped is_ascii_digit x)
    (sym (r ∙ ap (λ (m : ℕ). drop m here) f)) (run_stops is_ascii_digit here) in
    let number = prefix_is_number b bs here digits n e h f g in
    record {
      spelling = digits;
      parts = sym (ap₂ (λ (x y : List ℕ). x ++ y) g r ∙ take-append-drop n here);
      spells = (number, k);
      longest = number_longest digits rest number stops;
    }

-- strings

pub string_begins : (kind : TokenKind) (content later here left rest : List ℕ) → here ≡ 34 ∷ later
    → IsInside later content left → left ≡ 34 ∷ rest → ((bs : List ℕ) → IsString content bs
    → Spells kind bs) → TokenBegins kind here rest
string_begins kind content later here left rest e p q k =
    let whole = 34 ∷ (p.inside ++ (34 ∷ [])) in
    let string : IsString content whole = record {
      characters = p.characters;
      inside = p.inside;
      content_is = p.content_is;
      spells = p.spells;
      quoted = refl;
    } in
    record {
      spelling = whole;
      parts = e ∙ ap (λ (x : List ℕ). 34 ∷ x) (p.parts ∙ ap (λ (x : List ℕ). p.inside ++ x) q
          ∙ sym (append_assoc p.inside (34 ∷ []) rest));
      spells = k whole string;
      longest = string_longest content whole rest string;
    }

pub string_ends : (n at : ℕ) (content later here left : List ℕ) → here ≡ 34 ∷ later
    → IsInside later content left → left ≡ [] → at ≡ n → IsBrokenString n here
    (record { at = at; why = why.Ended })
string_ends n at content later here left e p q f = record {
  characters = p.characters;
  inside = p.inside;
  left = left;
  spells = p.spells;
  begins = e ∙ ap (λ (x : List ℕ). 34 ∷ x) p.parts;
  place = omega (arith, ap (λ (x : List ℕ). length x) q);
  stops = subst (λ (x : List ℕ). StopsString why.Ended x) (sym q) refl;
}

pub string_breaks : (n at b : ℕ) (content later here left rest : List ℕ) → here ≡ 34 ∷ later
    → IsInside later content left → left ≡ b ∷ rest → b ≢ 34 → at + length left ≡ n
    → IsBrokenString n here (record { at = at; why = why.Byte })
string_breaks n at b content later here left rest e p q h f = record {
  characters = p.characters;
  inside = p.inside;
  left = left;
  spells = p.spells;
  begins = e ∙ ap (λ (x : List ℕ). 34 ∷ x) p.parts;
  place = f;
  stops = subst (λ (x : List ℕ). StopsString why.Byte x) (sym q)
      (refl, h, subst HasNoChar q p.longest);
}
