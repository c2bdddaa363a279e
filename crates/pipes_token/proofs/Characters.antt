-- What stands for characters inside strings can be read in one way alone.
use Rattle.std.proofs.Common.{◌≡◌, ◌≢◌, ℕ, ◌<◌, ◌≤◌, true, false, List, [], ◌∷◌, ◌++◌, length, Some}
use Rattle.std.proofs.Common.{None, refl, sym, ap, subst, true≢false, ◌∙◌, ap₂, append_assoc, arith}
use Rattle.std.proofs.lemmas.Str.{encode_same, char_from_byte, len_utf8_bounds, length-encode}
use Rattle.std.specs.Char.{IsScalar, encode_utf8}
use Rattle.std.specs.Str.{IsUtf8}
use Rattle.std.proofs.Math.Utf8.{low_scalar}
use Rattle.std.proofs.lemmas.Str.{encode_ascii, IsUtf8-encode}
use Rattle.std.proofs.lemmas.Bool.{cases_lt, ne_eqb}
use Rattle.std.proofs.lemmas.List.{drop_at, take_at, take-take}
use Rattle.std.proofs.Common.{min, take, drop, take-append-drop, length-take, length-append, inl}
use Rattle.std.proofs.Common.{inr}
use Rattle.pipes_token.specs.declared.refusal.TextWhy.{TextWhy}
use Rattle.pipes_token.specs.Strings.{SpellsChar, itself, escape, SpellsChars, BeginsChar, IsInside}
use Rattle.pipes_token.specs.Strings.{HasNoChar, StopsString, is_plain, escaped_by}

-- the first byte of a character's UTF-8 is the character, where it is ASCII
first_byte : (c b : ℕ) (more bs : List ℕ) → encode_utf8 c ++ more ≡ b ∷ bs → b < 128 → c ≡ b
first_byte c b more bs e h = char_from_byte (b ∷ bs) more c (sym e) h (omega arith)

pub spelled_some : (c : ℕ) (bs : List ℕ) → SpellsChar c bs → 0 < length bs
spelled_some c bs (itself _ _ e) = rw e (omega (arith, length-encode c, len_utf8_bounds c))
spelled_some c bs (escape _ _ e) = rw e (omega arith)

-- a character that stands for itself is no other byte than it is
not_plain : (c b : ℕ) (more bs : List ℕ) → is_plain c ≡ true → is_plain b ≡ false → b < 128
    → encode_utf8 c ++ more ≡ b ∷ bs → ⊥
not_plain c b more bs p q l h =
    let plain : is_plain b ≡ true = subst (λ (x : ℕ). is_plain x ≡ true)
    (first_byte c b more bs h l) p in
    true≢false (sym plain ∙ q)

-- nothing that stands for a character begins with a quote
escape_no_quote : (e : ℕ) (prefix more bs : List ℕ) → prefix ≡ 92 ∷ e ∷ [] → prefix
    ++ more ≡ 34 ∷ bs
    → ⊥
escape_no_quote e prefix more bs p h = absurd cc

pub no_quote : (c : ℕ) (prefix more bs : List ℕ) → SpellsChar c prefix → prefix ++ more ≡ 34 ∷ bs
    → ⊥
no_quote c prefix more bs (itself s p e) h = not_plain c 34 more bs p refl (omega arith)
    (ap (λ (x : List ℕ). x ++ more) (sym e) ∙ h)
no_quote c prefix more bs (escape x p e) h = escape_no_quote x prefix more bs e h

-- two prefixes of the same bytes that each stand for a character are the same, for the same one
pub same_char : (c d : ℕ) (s t x y : List ℕ) → SpellsChar c s → SpellsChar d t → s ++ x ≡ t ++ y
    → (c ≡ d) × (s ≡ t) × (x ≡ y)
same_char c d s t x y (itself _ _ e) (itself _ _ f) h =
    let k = encode_same c d x y (ap (λ (z : List ℕ). z ++ x) (sym e) ∙ h
    ∙ ap (λ (z : List ℕ). z ++ y) f) in
    (k.0, e ∙ ap encode_utf8 k.0 ∙ sym f, k.1)
same_char c d s t x y (itself _ p e) (escape _ _ f) h =
    absurd (not_plain c 92 x _ p refl (omega arith) (ap (λ (z : List ℕ). z ++ x) (sym e) ∙ h
    ∙ ap (λ (z : List ℕ). z ++ y) f))
same_char c d s t x y (escape _ _ e) (itself _ p f) h =
    absurd (not_plain d 92 y _ p refl (omega arith) (ap (λ (z : List ℕ). z ++ y) (sym f) ∙ sym h
    ∙ ap (λ (z : List ℕ). z ++ x) e))
same_char c d s t x y (escape a p e) (escape b q f) h =
    let k : 92 ∷ a ∷ x ≡ 92 ∷ b ∷ y = ap (λ (z : List ℕ). z ++ x) (sym e) ∙ h
    ∙ ap (λ (z : List ℕ). z ++ y) f in
    let same : a ≡ b = cc in
    let chars : Some c ≡ Some d = sym p ∙ ap escaped_by same ∙ q in
    (cc, cc, cc)

-- and so are two that stand for characters up to where none can follow
pub same_chars : (cs ds s t x y : List ℕ) → SpellsChars cs s → SpellsChars ds t → HasNoChar x
    → HasNoChar y → s ++ x ≡ t ++ y → (cs ≡ ds) × (s ≡ t) × (x ≡ y)
same_chars [] [] s t x y p q h k e = (
  refl,
  cc,
  ap (λ (z : List ℕ). z ++ x) (sym p) ∙ e
      ∙ ap (λ (z : List ℕ). z ++ y) q,
)
same_chars [] (d ∷ ds) s t x y p (prefix, more, q, r, u) h k e =
    absurd (h d prefix (more ++ y) (ap (λ (z : List ℕ). z ++ x) (sym p) ∙ e
    ∙ ap (λ (z : List ℕ). z ++ y) r ∙ append_assoc prefix more y) q)
same_chars (c ∷ cs) [] s t x y (prefix, more, p, r, u) q h k e =
    absurd (k c prefix (more ++ x) (ap (λ (z : List ℕ). z ++ y) (sym q) ∙ sym e
    ∙ ap (λ (z : List ℕ). z ++ x) r ∙ append_assoc prefix more x) p)
same_chars (c ∷ cs) (d ∷ ds) s t x y (prefix, more, p, r, u) (prefix', more', p', r', u') h k e =
    let one = same_char c d prefix prefix' (more ++ x) (more' ++ y) p p'
    (sym (append_assoc prefix more x) ∙ ap (λ (z : List ℕ). z ++ x) (sym r) ∙ e
    ∙ ap (λ (z : List ℕ). z ++ y) r' ∙ append_assoc prefix' more' y) in
    let rest = same_chars cs ds more more' x y u u' h k one.2 in (
      ap₂ (λ (a : ℕ) (b : List ℕ). a ∷ b) one.0 rest.0,
      r ∙ ap₂ (λ (a b : List ℕ). a ++ b) one.1
          rest.1 ∙ sym r',
      rest.2,
    )

pub no_char_at_end : HasNoChar []
no_char_at_end c [] more e s = absurd (omega (arith, spelled_some c [] s))
no_char_at_end c (b ∷ bs) more e s = absurd cc

pub no_char_at_quote : (bs : List ℕ) → HasNoChar (34 ∷ bs)
no_char_at_quote bs c prefix more e s = no_quote c prefix more bs s (sym e)

pub no_char_where_stopped : (why : TextWhy) (bs : List ℕ) → StopsString why bs → HasNoChar bs
no_char_where_stopped why [] h = no_char_at_end
no_char_where_stopped why (b ∷ bs) h = h.2

-- ---- the bytes at the start, one case after the other

is_plain_from : (c : ℕ) → c ≢ 34 → c ≢ 92 → c ≢ 10 → is_plain c ≡ true
is_plain_from c h k l = rw (ne_eqb c 34 h, ne_eqb c 92 k, ne_eqb c 10 l) refl

pub no_char_in_none : (bytes : List ℕ) → bytes ≡ [] → HasNoChar bytes
no_char_in_none bytes e = subst HasNoChar (sym e) no_char_at_end

-- a byte that is no plain character and no backslash
pub no_char_at_byte : (b : ℕ) (bs bytes : List ℕ) → bytes ≡ b ∷ bs → b < 128 → is_plain b ≡ false
    → b ≢ 92 → HasNoChar bytes
no_char_at_byte b bs bytes e l p h c prefix more f (itself s q r) =
    not_plain c b more bs q p l (ap (λ (x : List ℕ). x ++ more) (sym r) ∙ sym f ∙ e)
no_char_at_byte b bs bytes e l p h c prefix more f (escape x q r) =
    let whole : 92 ∷ x ∷ more ≡ b ∷ bs = ap (λ (y : List ℕ). y ++ more) (sym r) ∙ sym f ∙ e in
    let same : b ≡ 92 = cc in
    h same

pub no_char_at_slash : (bytes : List ℕ) → bytes ≡ 92 ∷ [] → HasNoChar bytes
no_char_at_slash bytes e c prefix more f (itself s q r) =
    not_plain c 92 more [] q refl (omega arith) (ap (λ (x : List ℕ). x ++ more) (sym r) ∙ sym f ∙ e)
no_char_at_slash bytes e c prefix more f (escape x q r) =
    let whole : 92 ∷ x ∷ more ≡ 92 ∷ [] = ap (λ (y : List ℕ). y ++ more) (sym r) ∙ sym f ∙ e in
    absurd cc

pub no_char_at_escape : (code : ℕ) (rest bytes : List ℕ) → bytes ≡ 92 ∷ code ∷ rest
    → escaped_by code ≡ None → HasNoChar bytes
no_char_at_escape code rest bytes e h c prefix more f (itself s q r) =
    not_plain c 92 more (code ∷ rest) q refl (omega arith) (ap (λ (x : List ℕ). x ++ more) (sym r)
    ∙ sym f ∙ e)
no_char_at_escape code rest bytes e h c prefix more f (escape x q r) =
    let whole : 92 ∷ x ∷ more ≡ 92 ∷ code ∷ rest = ap (λ (y : List ℕ). y ++ more) (sym r) ∙ sym f
    ∙ e in
    let same : code ≡ x = cc in
    let both : None ≡ Some c = sym h ∙ ap escaped_by same ∙ q in
    absurd cc

pub escape_begins : (code c : ℕ) (rest bytes : List ℕ) → bytes ≡ 92 ∷ code ∷ rest
    → escaped_by code ≡ Some c → BeginsChar bytes c rest
escape_begins code c rest bytes e h = record {
  prefix = 92 ∷ code ∷ [];
  parts = e;
  spells =
      escape code h refl;
}

pub ascii_begins : (b : ℕ) (rest bytes : List ℕ) → bytes ≡ b ∷ rest → b < 128 → b ≢ 34 → b ≢ 92
    → b ≢ 10 → BeginsChar bytes b rest
ascii_begins b rest bytes e l h k f = record {
  prefix = b ∷ [];
  parts = e;
  spells =
      itself (low_scalar b (omega arith)) (is_plain_from b h k f) (sym (encode_ascii b l));
}

-- the first byte of every character that isn't ASCII
abbrev pub IsWide : List ℕ → Type 0
IsWide bytes = (b : ℕ) (bs : List ℕ) → bytes ≡ b ∷ bs → 128 ≤ b

wide_plain : (c : ℕ) (more bytes : List ℕ) → bytes ≡ encode_utf8 c ++ more → IsWide bytes
    → is_plain c ≡ true
wide_plain c more bytes e wide = elim (cases_lt c 128) [
  | inl low ↦
      let first : bytes ≡ c ∷ more = e ∙ ap (λ (x : List ℕ). x ++ more) (encode_ascii c low) in
      absurd (omega (arith, wide c more first, low))
  | inr high ↦ is_plain_from c (λ f. omega arith) (λ f. omega arith) (λ f. omega arith)
]

prefix_of : (prefix bytes : List ℕ) (n : ℕ) → prefix ≡ take (length prefix) (take n bytes)
    → bytes ≡ prefix ++ (drop (length prefix) (take n bytes) ++ drop n bytes)
prefix_of prefix bytes n e =
    let k = length prefix in
    sym (ap (λ (x : List ℕ). x ++ (drop k (take n bytes) ++ drop n bytes)) e
    ∙ sym (append_assoc (take k (take n bytes)) (drop k (take n bytes)) (drop n bytes))
    ∙ ap (λ (x : List ℕ). x ++ drop n bytes) (take-append-drop k (take n bytes))
    ∙ take-append-drop n bytes)

pub wide_begins : (c n : ℕ) (prefix later bytes rest : List ℕ)
    → prefix ≡ take (length prefix) (take n bytes) → prefix ≡ encode_utf8 c ++ later → IsScalar c
    → IsWide bytes → rest ≡ drop (length (encode_utf8 c)) bytes → BeginsChar bytes c rest
wide_begins c n prefix later bytes rest e f s wide r =
    let more = drop (length prefix) (take n bytes) ++ drop n bytes in
    let whole : bytes ≡ encode_utf8 c ++ (later ++ more) = prefix_of prefix bytes n e
    ∙ ap (λ (x : List ℕ). x ++ more) f ∙ append_assoc (encode_utf8 c) later more in
    let left : rest ≡ later ++ more = r ∙ ap (λ (x : List ℕ). drop (length (encode_utf8 c)) x)
    whole ∙ drop_at (encode_utf8 c) (later ++ more) (length (encode_utf8 c)) refl in
    record {
      prefix = encode_utf8 c;
      parts = whole ∙ ap (λ (x : List ℕ). encode_utf8 c ++ x)
          (sym left);
      spells = itself s (wide_plain c (later ++ more) bytes whole wide) refl;
    }

pub wide_none : (n : ℕ) (bytes : List ℕ) → n ≡ min (length bytes) 4
    → ((k : ℕ) → 0 < k → k ≤ length (take n bytes) → ¬ (IsUtf8 (take k (take n bytes))))
    → IsWide bytes → HasNoChar bytes
wide_none n bytes e none wide c prefix more f (itself s q r) =
    let whole : bytes ≡ encode_utf8 c ++ more = f ∙ ap (λ (x : List ℕ). x ++ more) r in
    let k = length (encode_utf8 c) in
    let few : (1 ≤ k) × (k ≤ 4) = subst (λ (x : ℕ). (1 ≤ x) × (x ≤ 4)) (sym (length-encode c))
    (len_utf8_bounds c) in
    let fits : k ≤ length bytes = omega (
      arith,
      ap (λ (x : List ℕ). length x) whole,
      length-append (encode_utf8 c) more,
    ) in
    let within : k ≤ n = omega arith in
    let taken : take k (take n bytes) ≡ encode_utf8 c = take-take k n bytes within
    ∙ ap (λ (x : List ℕ). take k x) whole ∙ take_at (encode_utf8 c) more k refl in
    none k (omega arith) (omega (arith, length-take n bytes))
    (subst IsUtf8 (sym taken) (IsUtf8-encode c s))
wide_none n bytes e none wide c prefix more f (escape x q r) =
    let whole : bytes ≡ 92 ∷ x ∷ more = f ∙ ap (λ (y : List ℕ). y ++ more) r in
    absurd (omega (arith, wide 92 (x ∷ more) whole))

-- ---- the loop over characters

pub inside_more : (c : ℕ) (rest later content left : List ℕ) → BeginsChar rest c later
    → IsInside later content left → IsInside rest (encode_utf8 c ++ content) left
inside_more c rest later content left b p = record {
  characters = c ∷ p.characters;
  inside = b.prefix ++ p.inside;
  parts = b.parts ∙ ap (λ (x : List ℕ). b.prefix ++ x) p.parts
      ∙ sym (append_assoc b.prefix p.inside left);
  spells = (b.prefix, p.inside, b.spells, refl, p.spells);
  content_is = ap (λ (x : List ℕ). encode_utf8 c ++ x) p.content_is;
  longest = p.longest;
}

pub inside_end : (rest : List ℕ) → HasNoChar rest → IsInside rest [] rest
inside_end rest h = record {
  characters = [];
  inside = [];
  parts = refl;
  spells = refl;
  content_is =
      refl;
  longest = h;
}

pub inside_longer : (bytes before after character content left : List ℕ) → after ≡ before
    ++ character → IsInside bytes (before ++ (character ++ content)) left
    → IsInside bytes (after ++ content) left
inside_longer bytes before after character content left e h =
    subst (λ (x : List ℕ). IsInside bytes x left) (sym (append_assoc before character content)
    ∙ ap (λ (x : List ℕ). x ++ content) (sym e)) h
