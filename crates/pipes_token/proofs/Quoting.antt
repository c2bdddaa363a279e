-- A text that is written between quotes is a string with that content.
use Rattle.std.proofs.Common.{◌≡◌, ◌≢◌, ℕ, ◌+◌, ◌/◌, ◌%◌, ◌≤◌, Bool, true, false, cond, List, []}
use Rattle.std.proofs.Common.{◌∷◌, ◌++◌, Some, refl, sym, ap, ap₂, subst, ◌∙◌, arith, inl, inr, ◌⊎◌}
use Rattle.std.specs.Prelude.{◌==◌}
use Rattle.std.specs.Char.{IsScalar, encode_utf8}
use Rattle.std.specs.Str.{IsUtf8}
use Rattle.std.proofs.Math.Utf8.{scalar, scalars, low_scalar}
use Rattle.std.specs.Str.{encode_utf8_all}
use Rattle.std.proofs.lemmas.Bool.{and_parts, cases_lt, cases_Bool, ne_eqb, eqb-true, eqb-false}
use Rattle.std.proofs.lemmas.Bool.{le-ltb}
use Rattle.std.proofs.lemmas.Bool.Decides.{nat_tests}
use Rattle.std.proofs.Common.{ltb}
use Rattle.std.proofs.lemmas.List.Concat.{flat_map-append}
use Rattle.std.proofs.lemmas.Str.{encode_ascii}
use Rattle.pipes_tuple.specs.Texts.{escaped_byte, escaped, quoted}
use Rattle.pipes_token.specs.declared.token.TokenKind.TheVariants.{Text}
use Rattle.pipes_token.specs.Strings.{SpellsChar, itself, escape, SpellsChars, escaped_by, IsString}
use Rattle.pipes_token.specs.Writing.{WritesFreely, IsSpelled}
use Rattle.pipes_token.proofs.Writing.{write_string}

-- a character that is written by an escape, or that stands for itself
pub data HowWritten (c : ℕ) : Type 0 where
  is_quote : c ≡ 34 → HowWritten c
  is_backslash : c ≡ 92 → HowWritten c
  is_line_feed : c ≡ 10 → HowWritten c
  is_return : c ≡ 13 → HowWritten c
  is_other : c ≢ 34 → c ≢ 92 → c ≢ 10 → c ≢ 13 → HowWritten c

how_written : (c : ℕ) → HowWritten c
how_written c = elim (cases_Bool (c == 34)) [
  | inl e ↦ is_quote (eqb-true c 34 e)
  | inr p ↦ elim (cases_Bool (c == 92)) [
    | inl e ↦ is_backslash (eqb-true c 92 e)
    | inr q ↦ elim (cases_Bool (c == 10)) [
      | inl e ↦ is_line_feed (eqb-true c 10 e)
      | inr r ↦ elim (cases_Bool (c == 13)) [
        | inl e ↦ is_return (eqb-true c 13 e)
        | inr s ↦ is_other (λ e. differs c 34 p e) (λ e. differs c 92 q e) (λ e. differs c 10 r e)
            (λ e. differs c 13 s e)
      ]
    ]
  ]
]
  where
    differs : (a b : ℕ) → (a == b) ≡ false → a ≡ b → ⊥
    differs a b h e = eqb-false a b h e

stands_alone : (b : ℕ) → b ≢ 34 → b ≢ 92 → b ≢ 10 → b ≢ 13 → escaped_byte b ≡ b ∷ []
stands_alone b h k l m = rw (ne_eqb b 92 k, ne_eqb b 34 h, ne_eqb b 10 l, ne_eqb b 13 m) refl

high_alone : (b : ℕ) → 128 ≤ b → escaped_byte b ≡ b ∷ []
high_alone b h = stands_alone b (λ e. omega arith) (λ e. omega arith) (λ e. omega arith)
    (λ e. omega arith)

-- bytes from 128 on stand for themselves
pub data AreHigh : List ℕ → Type 0 where
  none : AreHigh []
  more : (b : ℕ) (bs : List ℕ) → 128 ≤ b → AreHigh bs → AreHigh (b ∷ bs)

high_escaped : (bs : List ℕ) → AreHigh bs → escaped bs ≡ bs
high_escaped _ none = refl
high_escaped _ (more b bs h k) = ap₂ (λ (x y : List ℕ). x ++ y) (high_alone b h) (high_escaped bs k)

wide_high : (c : ℕ) → 128 ≤ c → AreHigh (encode_utf8 c)
unfolding encode_utf8
wide_high c h = rw (le-ltb c 128 h) (wide_by (ltb c 2048) (ltb c 65536))
  where
    wide_by : (p q : Bool) → AreHigh (cond p ((192 + c / 64) ∷ (128 + c % 64) ∷ [])
        (cond q ((224 + c / 4096) ∷ (128 + (c / 64) % 64) ∷ (128 + c % 64) ∷ [])
        ((240 + c / 262144) ∷ (128 + (c / 4096) % 64) ∷ (128 + (c / 64) % 64) ∷
        (128 + c % 64) ∷ [])))
    wide_by true q = more _ _ (omega arith) (more _ _ (omega arith) none)
    wide_by false true = more _ _ (omega arith) (more _ _ (omega arith)
        (more _ _ (omega arith) none))
    wide_by false false = more _ _ (omega arith) (more _ _ (omega arith)
        (more _ _ (omega arith) (more _ _ (omega arith) none)))

other_escaped : (c : ℕ) → c ≢ 34 → c ≢ 92 → c ≢ 10 → c ≢ 13 → escaped (encode_utf8 c) ≡ encode_utf8
    c
other_escaped c h k l m = elim (cases_lt c 128) [
  | inl low ↦ ap escaped (encode_ascii c low) ∙ ap (λ (x : List ℕ). x ++ [])
      (stands_alone c h k l m) ∙ sym (encode_ascii c low)
  | inr high ↦ high_escaped (encode_utf8 c) (wide_high c high)
]

escape_of : (e c : ℕ) → escaped_by e ≡ Some c → (c ≡ 34) ⊎ ((c ≡ 92) ⊎ ((c ≡ 10) ⊎ (c ≡ 13)))
escape_of e c h = grind (arith, nat_tests)

-- each character is written by an escape or as itself
char_written : (c : ℕ) → IsScalar c → HowWritten c → SpellsChar c (escaped (encode_utf8 c))
char_written c is (is_quote e) = subst (λ (x : ℕ). SpellsChar x (escaped (encode_utf8 x)))
    (sym e) (escape 34 refl (ap escaped (encode_ascii 34 (omega arith))))
char_written c is (is_backslash e) = subst (λ (x : ℕ). SpellsChar x (escaped (encode_utf8 x)))
    (sym e) (escape 92 refl (ap escaped (encode_ascii 92 (omega arith))))
char_written c is (is_line_feed e) = subst (λ (x : ℕ). SpellsChar x (escaped (encode_utf8 x)))
    (sym e) (escape 110 refl (ap escaped (encode_ascii 10 (omega arith))))
char_written c is (is_return e) = subst (λ (x : ℕ). SpellsChar x (escaped (encode_utf8 x)))
    (sym e) (escape 114 refl (ap escaped (encode_ascii 13 (omega arith))))
char_written c is (is_other h k l m) =
    itself is (rw (ne_eqb c 34 h, ne_eqb c 92 k, ne_eqb c 10 l) refl) (other_escaped c h k l m)

chars_written : (cs : List ℕ) → scalars cs ≡ true → SpellsChars cs (escaped (encode_utf8_all cs))
chars_written [] are = refl
chars_written (c ∷ cs) are =
    let parts = and_parts (scalar c) (scalars cs) are in (
      escaped (encode_utf8 c),
      escaped (encode_utf8_all cs),
      char_written c parts.0 (how_written c),
      flat_map-append escaped_byte (encode_utf8 c) (encode_utf8_all cs),
      chars_written cs parts.1,
    )

-- what is UTF-8 is the content of the string that is written
pub string_of_utf8 : (content : List ℕ) → IsUtf8 content → IsString content (quoted content)
string_of_utf8 content (cs, (are, e)) = record {
  characters = cs;
  inside = escaped content;
  content_is = sym e;
  spells = subst (λ (x : List ℕ). SpellsChars cs (escaped x)) e (chars_written cs are);
  quoted = refl;
}

-- and each content of a string is UTF-8
char_scalar : (c : ℕ) (bs : List ℕ) → SpellsChar c bs → IsScalar c
char_scalar c bs (itself is plain e) = is
char_scalar c bs (escape x f e) = elim (escape_of x c f) [
  | inl g ↦ low_scalar c (omega (arith, g))
  | inr (inl g) ↦ low_scalar c (omega (arith, g))
  | inr (inr (inl g)) ↦ low_scalar c (omega (arith, g))
  | inr (inr (inr g)) ↦ low_scalar c (omega (arith, g))
]

chars_scalars : (cs bs : List ℕ) → SpellsChars cs bs → scalars cs ≡ true
chars_scalars [] bs h = refl
chars_scalars (c ∷ cs) bs (prefix, left, s, e, rest) =
    rw (char_scalar c prefix s) (chars_scalars cs left rest)

pub utf8_of_string : (content bs : List ℕ) → IsString content bs → IsUtf8 content
utf8_of_string content bs s =
    (s.characters, (chars_scalars s.characters s.inside s.spells, sym s.content_is))

-- a content of some string
pub quoted_string : (content bs : List ℕ) → IsString content bs → IsString content (quoted content)
quoted_string content bs s = string_of_utf8 content (utf8_of_string content bs s)

pub write_quoted : (content : List ℕ) → IsSpelled (Text content)
    → WritesFreely (Text content ∷ []) (quoted content)
write_quoted content h = write_string content (quoted content) (quoted_string content h.0 h.1.0)
    h.1.1
