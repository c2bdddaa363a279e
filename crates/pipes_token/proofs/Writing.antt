-- What is written token by token has these tokens.
use Rattle.std.proofs.Common.{◌≡◌, ◌≢◌, ℕ, ◌-◌, ◌^◌, ◌<◌, ◌≤◌, min, true, false, ◌||◌, List, []}
use Rattle.std.proofs.Common.{◌∷◌, ◌++◌, length, refl, sym, ap₂, subst, ◌∙◌, arith, append_assoc}
use Rattle.std.proofs.Common.{length-append, ◌==◌, nat_le}
use Rattle.std.specs.Prelude.{codes}
use Rattle.std.proofs.lemmas.Fmt.{decimal_is_IsNumeral}
use Rattle.pipes_tuple.proofs.ReadBack.{is_numeral-IsNumeral}
use Rattle.std.specs.Char.{is_ascii_lowercase, is_ascii_digit}
use Rattle.std.specs.Fmt.{decimal}
use Rattle.std.specs.List.{list_all}
use Rattle.std.specs.Str.Parse.{digits_value}
use Rattle.std.proofs.lemmas.Bool.{and_parts, or_parts}
use Rattle.std.proofs.lemmas.List.{map-append}
use Rattle.std.proofs.lemmas.Bool.Decides.{nat_tests}
use Rattle.pipes_token.specs.declared.keyword.Keyword.{Keyword as AKeyword}
use Rattle.pipes_token.specs.declared.token.Sign.{Sign as ASign}
use Rattle.pipes_token.specs.declared.token.Sign.TheVariants as sign
use Rattle.pipes_token.specs.declared.token.TokenKind.{TokenKind}
use Rattle.pipes_token.specs.declared.token.TokenKind.TheVariants.{Sign, Keyword, Name, Number}
use Rattle.pipes_token.specs.declared.token.TokenKind.TheVariants.{Text, Long}
use Rattle.pipes_token.specs.declared.token.Token.{Token}
use Rattle.pipes_token.specs.Gaps.{is_separator, BeginsNoGap}
use Rattle.pipes_token.specs.Keywords.{keyword_text}
use Rattle.pipes_token.specs.Strings.{IsString}
use Rattle.pipes_token.specs.Spelling.{sign_text, is_word_byte, is_word, IsShortWord, IsKeyword}
use Rattle.pipes_token.specs.Spelling.{Spells, IsLongest}
use Rattle.pipes_token.specs.Tokens.{IsPlaced, TokenBegins, Tokens, next, too_long, stopped}
use Rattle.pipes_token.specs.Writing.{IsApart, BeginsWith, WritesBefore, Writes, WritesFreely}
use Rattle.pipes_token.proofs.Gaps.{past_none, past_separator}
use Rattle.pipes_token.proofs.Runs.{Stopped}
use Rattle.pipes_token.proofs.ByFirst.{Class, class_of, a_word, a_number, a_string, a_sign, Of}
use Rattle.pipes_token.proofs.ByFirst.{by_first, never_empty, keyword_is_word}
use Rattle.pipes_token.proofs.Longest.{word_longest, number_longest, string_longest, sign_longest}
use Rattle.pipes_token.proofs.Longest.{at_most_longest}

-- ---- a token begins no gap

letter_no_gap : (b : ℕ) → is_ascii_lowercase b ≡ true → (is_separator b ≡ false) × (b ≢ 35)
letter_no_gap b h = (grind (arith, nat_tests), grind (arith, nat_tests))

digit_no_gap : (b : ℕ) → is_ascii_digit b ≡ true → (is_separator b ≡ false) × (b ≢ 35)
digit_no_gap b h = (grind (arith, nat_tests), grind (arith, nat_tests))

is_byte_no_gap : (b c : ℕ) → b ≡ c → (is_separator c ≡ false) × (c ≢ 35) → (is_separator b ≡ false)
    × (b ≢ 35)
is_byte_no_gap b c e h = subst (λ (x : ℕ). (is_separator x ≡ false) × (x ≢ 35)) (sym e) h

head_is : (b c : ℕ) (bs cs : List ℕ) → b ∷ bs ≡ c ∷ cs → b ≡ c
head_is b c bs cs e = cc

sign_no_gap : (s : ASign) (b : ℕ) (bs : List ℕ) → b ∷ bs ≡ sign_text s → (is_separator b ≡ false)
    × (b ≢ 35)
sign_no_gap sign.Open b bs e = is_byte_no_gap b 40 (head_is b 40 bs _ e) (refl, λ h. omega arith)
sign_no_gap sign.Close b bs e = is_byte_no_gap b 41 (head_is b 41 bs _ e) (refl, λ h. omega arith)
sign_no_gap sign.OpenList b bs e = is_byte_no_gap b 91 (head_is b 91 bs _ e)
    (refl, λ h. omega arith)
sign_no_gap sign.CloseList b bs e = is_byte_no_gap b 93 (head_is b 93 bs _ e)
    (refl, λ h. omega arith)
sign_no_gap sign.Comma b bs e = is_byte_no_gap b 44 (head_is b 44 bs _ e) (refl, λ h. omega arith)
sign_no_gap sign.Dollar b bs e = is_byte_no_gap b 36 (head_is b 36 bs _ e) (refl, λ h. omega arith)
sign_no_gap sign.Point b bs e = is_byte_no_gap b 46 (head_is b 46 bs _ e) (refl, λ h. omega arith)
sign_no_gap sign.Equal b bs e = is_byte_no_gap b 61 (head_is b 61 bs _ e) (refl, λ h. omega arith)
sign_no_gap sign.Less b bs e = is_byte_no_gap b 60 (head_is b 60 bs _ e) (refl, λ h. omega arith)
sign_no_gap sign.AtMost b bs e = is_byte_no_gap b 60 (head_is b 60 bs _ e) (refl, λ h. omega arith)
sign_no_gap sign.Plus b bs e = is_byte_no_gap b 43 (head_is b 43 bs _ e) (refl, λ h. omega arith)
sign_no_gap sign.Minus b bs e = is_byte_no_gap b 45 (head_is b 45 bs _ e) (refl, λ h. omega arith)
sign_no_gap sign.Star b bs e = is_byte_no_gap b 42 (head_is b 42 bs _ e) (refl, λ h. omega arith)

of_no_gap : (c : Class) (b : ℕ) (bs : List ℕ) (kind : TokenKind) → Of c (b ∷ bs) kind
    → (is_separator b ≡ false) × (b ≢ 35)
of_no_gap a_word b bs kind h = letter_no_gap b (and_parts (is_ascii_lowercase b)
    (list_all is_word_byte bs) h.0).0
of_no_gap a_number b bs kind h = digit_no_gap b (and_parts (is_ascii_digit b)
    (list_all is_ascii_digit bs) (and_parts _ (list_all is_ascii_digit (b ∷ bs)) h.0).1).0
of_no_gap a_string b bs kind h = is_byte_no_gap b 34 (head_is b 34 bs (h.1.inside ++ (34 ∷ []))
    h.1.quoted) (refl, λ e. omega arith)
of_no_gap a_sign b bs kind h = sign_no_gap h.0 b bs h.1

pub begins_no_gap : (kind : TokenKind) (bs more : List ℕ) → Spells kind bs
    → BeginsNoGap (bs ++ more)
begins_no_gap kind [] more h = absurd (never_empty kind h)
begins_no_gap kind (b ∷ bs) more h = of_no_gap (class_of b) b bs kind (by_first kind b bs h)

-- ---- one token

pub write_one : (kind : TokenKind) (spelling more : List ℕ) (n : ℕ) (tokens : List Token)
    → Spells kind spelling → kind ≢ Long → IsLongest spelling more → length (spelling ++ more) ≤ n
    → Tokens n more tokens → BeginsWith n (kind ∷ []) (spelling ++ more) tokens
write_one kind spelling more n tokens h short long fits k =
    let bs = spelling ++ more in
    let token : Token = record { at = n - length bs; kind = kind } in
    let placed : IsPlaced n bs bs token = record {
      past_gap =
          past_none bs (begins_no_gap kind spelling more h);
      place = omega arith;
    } in
    let begins : TokenBegins kind bs more = record {
      spelling = spelling;
      parts = refl;
      spells = h;
      longest = long;
    } in
    record {
      prefix = token ∷ [];
      are = refl;
      whole = next bs bs more token tokens placed begins
          short k;
    }

-- what is apart stops words and numbers
pub apart_stops : (more : List ℕ) → IsApart more → Stopped is_word_byte more
apart_stops [] h = tt
apart_stops (b ∷ bs) h = h

word_byte_parts : (b : ℕ) → is_word_byte b ≡ false → is_ascii_digit b ≡ false
word_byte_parts b h = (or_parts (is_ascii_lowercase b) (is_ascii_digit b)
    (or_parts (is_ascii_lowercase b || is_ascii_digit b) (b == 95) h).0).1

pub apart_stops_digits : (more : List ℕ) → IsApart more → Stopped is_ascii_digit more
apart_stops_digits [] h = tt
apart_stops_digits (b ∷ bs) h = word_byte_parts b h

pub write_keyword : (k : AKeyword) → Writes (Keyword k ∷ []) (keyword_text k)
write_keyword k = record {
  begins = λ n more tokens fits apart t.
      let word = and_parts (is_word (keyword_text k)) (nat_le (length (keyword_text k)) 64)
      (keyword_is_word k) in
      write_one (Keyword k) (keyword_text k) more n tokens refl (λ e. absurd cc)
      (word_longest (keyword_text k) more word.0 (apart_stops more apart)) fits t;
}

pub write_name : (w : List ℕ) → IsShortWord w → ¬ (IsKeyword w) → Writes (Name w ∷ []) w
write_name w short free = record {
  begins = λ n more tokens fits apart t.
      write_one (Name w) w more n tokens (refl, short, free) (λ e. absurd cc)
      (word_longest w more short.0 (apart_stops more apart)) fits t;
}

pub spelled_number : (i : ℕ) → i < 2 ^ 64 → Spells (Number i) (decimal i)
spelled_number i small =
    let text = decimal_is_IsNumeral i small in
    let value : i ≡ min (digits_value 10 (decimal i)) (2 ^ 64 - 1) = omega (arith, text.1) in
    (is_numeral-IsNumeral (decimal i) text.0, value)

pub write_number : (i : ℕ) → i < 2 ^ 64 → Writes (Number i ∷ []) (decimal i)
write_number i small = record {
  begins = λ n more tokens fits apart t.
      let numeral = (spelled_number i small).0 in
      write_one (Number i) (decimal i) more n tokens (spelled_number i small) (λ e. absurd cc)
      (number_longest (decimal i) more numeral (apart_stops_digits more apart)) fits t;
}

pub write_string : (content s : List ℕ) → IsString content s → length content ≤ 65535
    → WritesFreely (Text content ∷ []) s
write_string content s string short = record {
  begins = λ n more tokens fits _ t.
      write_one (Text content) s more n tokens (string, short) (λ e. absurd cc)
      (string_longest content s more string) fits t;
}

one_byte : (s : ASign) (b : ℕ) → b ∷ [] ≡ sign_text s → b ≢ 60 → class_of b ≡ a_sign
    → WritesFreely (Sign s ∷ []) (sign_text s)
one_byte s b e h c = record {
  begins = λ n more tokens fits _ t.
      write_one (Sign s) (sign_text s) more n tokens refl (λ f. absurd cc)
      (subst (λ (x : List ℕ). IsLongest x more) e (sign_longest s b more e (λ left f g. h f) c))
      fits t;
}

-- every sign but `<`, after which `=` would be a part of it
pub write_open : WritesFreely (Sign sign.Open ∷ []) (codes "(")
write_open = one_byte sign.Open 40 refl (λ e. omega arith) refl

pub write_close : WritesFreely (Sign sign.Close ∷ []) (codes ")")
write_close = one_byte sign.Close 41 refl (λ e. omega arith) refl

pub write_open_list : WritesFreely (Sign sign.OpenList ∷ []) (codes "[")
write_open_list = one_byte sign.OpenList 91 refl (λ e. omega arith) refl

pub write_close_list : WritesFreely (Sign sign.CloseList ∷ []) (codes "]")
write_close_list = one_byte sign.CloseList 93 refl (λ e. omega arith) refl

pub write_comma : WritesFreely (Sign sign.Comma ∷ []) (codes ",")
write_comma = one_byte sign.Comma 44 refl (λ e. omega arith) refl

pub write_dollar : WritesFreely (Sign sign.Dollar ∷ []) (codes "$")
write_dollar = one_byte sign.Dollar 36 refl (λ e. omega arith) refl

pub write_point : WritesFreely (Sign sign.Point ∷ []) (codes ".")
write_point = one_byte sign.Point 46 refl (λ e. omega arith) refl

pub write_equal : WritesFreely (Sign sign.Equal ∷ []) (codes "=")
write_equal = one_byte sign.Equal 61 refl (λ e. omega arith) refl

pub write_plus : WritesFreely (Sign sign.Plus ∷ []) (codes "+")
write_plus = one_byte sign.Plus 43 refl (λ e. omega arith) refl

pub write_minus : WritesFreely (Sign sign.Minus ∷ []) (codes "-")
write_minus = one_byte sign.Minus 45 refl (λ e. omega arith) refl

pub write_star : WritesFreely (Sign sign.Star ∷ []) (codes "*")
write_star = one_byte sign.Star 42 refl (λ e. omega arith) refl

pub write_at_most : WritesFreely (Sign sign.AtMost ∷ []) (codes "<=")
write_at_most = record {
  begins = λ n more tokens fits _ t.
      write_one (Sign sign.AtMost) (codes "<=") more n tokens refl (λ f. absurd cc)
      (at_most_longest more) fits t;
}

-- ---- spaces

after_space : (n : ℕ) (bs here : List ℕ) (token : Token) → IsPlaced n bs here token
    → IsPlaced n (32 ∷ bs) here token
after_space n bs here token p = record {
  past_gap = past_separator 32 bs here refl p.past_gap;
  place = p.place;
}

pub space : (n : ℕ) (bs : List ℕ) (tokens : List Token) → Tokens n bs tokens
    → Tokens n (32 ∷ bs) tokens
space n bs _ (next _ here rest t ts p h long more) = next (32 ∷ bs) here rest t ts
    (after_space n bs here t p) h long more
space n bs _ (too_long _ here rest t p h long) = too_long (32 ∷ bs) here rest t
    (after_space n bs here t p) h long
space n bs _ (stopped _ here t p h) = stopped (32 ∷ bs) here t (after_space n bs here t p) h

pub write_space_before : (P : List ℕ → Type 0) (kinds : List TokenKind) (bytes : List ℕ)
    → WritesBefore P kinds bytes → WritesBefore P kinds (32 ∷ bytes)
write_space_before P kinds bytes w = record {
  begins = λ n more tokens fits h t.
      let made = w.begins n more tokens (omega arith) h t in
      record {
        prefix = made.prefix;
        are = made.are;
        whole = space n (bytes ++ more)
            (made.prefix ++ tokens) made.whole;
      };
}

pub write_space_after : (kinds : List TokenKind) (bytes : List ℕ) → Writes kinds bytes
    → WritesFreely kinds (bytes ++ (32 ∷ []))
write_space_after kinds bytes w = record {
  begins = λ n more tokens fits _ t.
      let parts : (bytes ++ (32 ∷ [])) ++ more ≡ bytes ++ (32 ∷ more) =
      append_assoc bytes (32 ∷ []) more in
      let short : length (bytes ++ (32 ∷ more)) ≤ n = subst (λ (x : List ℕ). length x ≤ n) parts
      fits in
      subst (λ (x : List ℕ). BeginsWith n kinds x tokens) (sym parts)
      (w.begins n (32 ∷ more) tokens short refl (space n more tokens t));
}

-- `<` and a space
pub write_less : WritesFreely (Sign sign.Less ∷ []) (codes "< ")
write_less = record {
  begins = λ n more tokens fits _ t.
      write_one (Sign sign.Less) (codes "<") (32 ∷ more) n tokens refl (λ f. absurd cc)
      (sign_longest sign.Less 60 (32 ∷ more) refl (λ left f g. absurd cc) refl) fits
      (space n more tokens t);
}

-- ---- one after the other

pub write_apart : (kinds : List TokenKind) (bytes : List ℕ) → WritesFreely kinds bytes
    → Writes kinds bytes
write_apart kinds bytes w = record {
  begins = λ n more tokens fits h t. w.begins n more tokens fits
      tt t;
}

both : (n : ℕ) (kinds others : List TokenKind) (a b more : List ℕ) (tokens : List Token)
    → BeginsWith n others (b ++ more) tokens → ((ts : List Token) → Tokens n (b ++ more) ts
    → BeginsWith n kinds (a ++ (b ++ more)) ts) → BeginsWith n (kinds ++ others) ((a ++ b) ++ more)
    tokens
both n kinds others a b more tokens second first =
    let one = first (second.prefix ++ tokens) second.whole in
    record {
      prefix = one.prefix ++ second.prefix;
      are = map-append (λ (t : Token). t.kind) one.prefix second.prefix
          ∙ ap₂ (λ (x y : List TokenKind). x ++ y) one.are second.are;
      whole = subst (λ (x : List ℕ). Tokens n x ((one.prefix ++ second.prefix) ++ tokens))
          (sym (append_assoc a b more)) (subst (λ (ts : List Token). Tokens n (a ++ (b ++ more)) ts)
          (sym (append_assoc one.prefix second.prefix tokens)) one.whole);
    }

-- what stands first may stand before the second, whatever follows that
pub write_both : (P Q : List ℕ → Type 0) (kinds others : List TokenKind) (a b : List ℕ)
    → ((more : List ℕ) → Q more → P (b ++ more)) → WritesBefore P kinds a → WritesBefore Q others b
    → WritesBefore Q (kinds ++ others) (a ++ b)
write_both P Q kinds others a b before v w = record {
  begins = λ n more tokens fits h t.
      let whole : length (a ++ (b ++ more)) ≤ n = subst (λ (x : List ℕ). length x ≤ n)
      (append_assoc a b more) fits in
      let part : length (b ++ more) ≤ n = omega (arith, length-append a (b ++ more)) in
      both n kinds others a b more tokens (w.begins n more tokens part h t)
      (λ ts k. v.begins n (b ++ more) ts whole (before more h) k);
}

-- after what may stand before anything
pub write_then : (Q : List ℕ → Type 0) (kinds others : List TokenKind) (a b : List ℕ)
    → WritesFreely kinds a → WritesBefore Q others b → WritesBefore Q (kinds ++ others) (a ++ b)
write_then Q kinds others a b v w = write_both (λ more. Unit {0}) Q kinds others a b (λ more h. tt)
    v w

-- after a word or a number, where what follows begins apart
pub write_apart_then : (Q : List ℕ → Type 0) (kinds others : List TokenKind) (a b : List ℕ)
    → ((more : List ℕ) → IsApart (b ++ more)) → Writes kinds a → WritesBefore Q others b
    → WritesBefore Q (kinds ++ others) (a ++ b)
write_apart_then Q kinds others a b apart v w = write_both IsApart Q kinds others a b
    (λ more h. apart more) v w
