-- The reader of a whole text, over any grammar.
use Rattle.std.proofs.Common.{◌≡◌, ℕ, ◌≤◌, Bool, true, false, ◌||◌, List, [], ◌∷◌, ◌++◌, length}
use Rattle.std.proofs.Common.{Option, Some, Result, Ok, Err, refl, sym, ap, subst, ◌∙◌}
use Rattle.std.proofs.Common.{append_assoc, arith}
use Rattle.std.proofs.lemmas.List.{append-nil}
use Rattle.pipes_token.specs.declared.refusal.Refusal.{Refusal}
use Rattle.pipes_token.specs.declared.token.TokenKind.{TokenKind}
use Rattle.pipes_token.specs.declared.token.TokenKind.TheVariants.{Sign, Keyword, Name, Number}
use Rattle.pipes_token.specs.declared.token.TokenKind.TheVariants.{Text, Long, Cut, Byte, End}
use Rattle.pipes_token.specs.declared.token.Token.{Token}
use Rattle.pipes_token.specs.Places.{located}
use Rattle.pipes_token.specs.Spelling.{Spells}
use Rattle.pipes_token.specs.Tokens.{Tokens, is_last, Stops}
use Rattle.pipes_token.specs.Tokens as lexed
use Rattle.pipes_token.proofs.OnlyTokens.{same_tokens}
use Rattle.pipes_time.specs.Results.{◌>>=◌}
use Rattle.pipes_reader.specs.Reading.{Reads, kinds_of, refused_by, at_end, then_end, whole}
use Rattle.pipes_reader.specs.Sentences.{Grammar, GrammarBefore, Begins, next_of, has_last, Whole}
use Rattle.pipes_reader.specs.Causes.{AreAlike, itself, two_numbers, two_names}
use Rattle.pipes_reader.specs.Places.{Refusals, AtToken, there}
use Rattle.pipes_token.specs.declared.refusal.TextRefusal.{TextRefusal}
use Rattle.pipes_token.specs.declared.refusal.ReadFault.{ReadFault}
use Rattle.pipes_token.specs.declared.refusal.ReadFault.TheVariants as fault
use Rattle.pipes_reader.specs.Texts.{IsText, IsFile, ReadAs, IsRefused, HasTokens, IsRefusedBy}
use Rattle.pipes_reader.specs.Texts.{past_limit, by_tokens, IsReadBy}
use Rattle.pipes_reader.specs.Texts as texts
use Rattle.pipes_reader.proofs.TokenLists.{kinds-append, tokens_of, kinds-tokens, split, uncons}
use Rattle.pipes_reader.proofs.TokenLists.{none, last_after}
use Rattle.pipes_reader.proofs.Causes.{why_map, Refuses, CauseOf, plain_why}
use Rattle.pipes_reader.proofs.Readers.{IsReaderIf, RefusedAt, first_place}
use Rattle.pipes_reader.proofs.Singles.{refused_place}

-- ---- the last token

stops_last : (n : ℕ) (here : List ℕ) (k : TokenKind) → Stops n here k → is_last k ≡ true
stops_last n here End s = refl
stops_last n here Byte s = refl
stops_last n here (Cut r) s = refl
stops_last n here (Sign x) s = absurd s
stops_last n here (Keyword x) s = absurd s
stops_last n here (Name x) s = absurd s
stops_last n here (Number x) s = absurd s
stops_last n here (Text x) s = absurd s
stops_last n here Long s = absurd s

pub text_ends : (n : ℕ) (bs : List ℕ) (ts : List Token) → Tokens n bs ts
    → has_last (kinds_of ts) ≡ true
text_ends n _ _ (lexed.next bs here rest t ts placed begins short others) =
    either (is_last t.kind) (text_ends n rest ts others)
  where
    either : (b : Bool) → has_last (kinds_of ts) ≡ true → (b || has_last (kinds_of ts)) ≡ true
    either true h = refl
    either false h = h
text_ends n _ _ (lexed.too_long bs here rest t placed begins long) = rw long refl
text_ends n _ _ (lexed.stopped bs here t placed stops) = rw (stops_last n here t.kind stops) refl

one_token : (t : Token) (prefix rest : List Token) (ks : List TokenKind) → t ∷ [] ≡ prefix ++ rest
    → kinds_of prefix ≡ ks ++ (End ∷ []) → rest ≡ []
one_token t [] rest [] e f = absurd cc
one_token t [] rest (k ∷ ks) e f = absurd cc
one_token t (u ∷ []) rest ks e f = cc
one_token t (u ∷ v ∷ prefix) rest ks e f = absurd cc

-- after the end of the text no token follows
nothing_after : (n : ℕ) (bs : List ℕ) (ts : List Token) → Tokens n bs ts
    → (prefix rest : List Token)
    (ks : List TokenKind) → ts ≡ prefix ++ rest → kinds_of prefix ≡ ks ++ (End ∷ []) → rest ≡ []
nothing_after n _ _ (lexed.next bs here left t ts placed begins short others) [] rest [] e f =
    absurd cc
nothing_after n _ _ (lexed.next bs here left t ts placed begins short others) [] rest (k ∷ ks) e f =
    absurd cc
nothing_after n _ _ (lexed.next bs here left t ts placed begins short others)
    (u ∷ prefix) rest [] e f =
    absurd (subst (λ (k : TokenKind). Spells k begins.spelling) kind_is begins.spells)
  where
    kind_is : t.kind ≡ End
    kind_is =
        let same : t ≡ u = cc in
        let last : u.kind ≡ End = cc in
        ap (λ (z : Token). z.kind) same ∙ last
nothing_after n _ _ (lexed.next bs here left t ts placed begins short others) (u ∷ prefix) rest
    (k ∷ ks) e f =
    nothing_after n left ts others prefix rest ks (cc) (cc)
nothing_after n _ _ (lexed.too_long bs here left t placed begins long) prefix rest ks e f =
    one_token t prefix rest ks e f
nothing_after n _ _ (lexed.stopped bs here t placed stops) prefix rest ks e f =
    one_token t prefix rest ks e f

-- ---- a whole

abbrev is_end : TokenKind → Bool
is_end End = true
is_end _ = false

alike_ended : (k j : TokenKind) → AreAlike k j → is_end k ≡ false → is_end j ≡ false
alike_ended _ _ (itself k) e = e
alike_ended _ _ (two_numbers n m) e = refl
alike_ended _ _ (two_names v w) e = refl

abbrev err_of : {A : Type 0} → Refusal → Result A Refusal
err_of r = Err r

not_ended : {A : Type 0} (x : A) (k : TokenKind) (at : ℕ) → is_end k ≡ false
    → at_end x k at ≡ err_of (refused_by k at)
not_ended x End at e = absurd cc
not_ended x _ at e = refl

abbrev all_of : {A : Type 0} → A → Result A Refusal
all_of x = Ok x

all_is : {A : Type 0} (x y : A) → all_of x ≡ all_of y → x ≡ y
all_is x y e = cc

-- a value that ends with the text
pub record EndsWith {A : Type 0} (x y : A) (rest : List Token) : Type 0 where
  pub last : Token
  pub others : List Token
  pub same : x ≡ y
  pub is_end : last.kind ≡ End
  pub parts : rest ≡ last ∷ others

end_by : {A : Type 0} (x y : A) (t : Token) (ts : List Token) (k : TokenKind) → t.kind ≡ k
    → at_end x k t.at ≡ all_of y → EndsWith x y (t ∷ ts)
end_by x y t ts End is e =
    record { last = t; others = ts; same = all_is x y e; is_end = is; parts = refl }
end_by x y t ts (Sign z) is e = absurd cc
end_by x y t ts (Keyword z) is e = absurd cc
end_by x y t ts (Name z) is e = absurd cc
end_by x y t ts (Number z) is e = absurd cc
end_by x y t ts (Text z) is e = absurd cc
end_by x y t ts (Cut z) is e = absurd cc
end_by x y t ts Long is e = absurd cc
end_by x y t ts Byte is e = absurd cc

end_is : {A : Type 0} (x y : A) (ts : List Token) → then_end x ts ≡ all_of y → EndsWith x y ts
end_is x y [] e = absurd cc
end_is x y (t ∷ ts) e = end_by x y t ts t.kind refl e

module _ {A : Type 0} (Is Within : Grammar A) (In : GrammarBefore A) (Where WholeWhere : Refusals)
    (read : Reads A) {Holds : List Token → Type 0} (reads : IsReaderIf Holds Is In Where read)
    (within : (x : A) (ks : List TokenKind) (h : Option TokenKind) → In x ks h → Within x ks)
    (closed : (x : A) (ks : List TokenKind) → Within x ks → In x ks (Some End)) where
  found_by : (ts : List Token) (x : A) (q : Result (A × List Token) Refusal) → read ts ≡ q
      → (q >>= λ y. then_end y.0 y.1) ≡ Ok x
      → (prefix rest : List Token) × Whole Within x (kinds_of prefix) × (ts ≡ prefix ++ rest)
  found_by ts x (Err r) is e = absurd cc
  found_by ts x (Ok (y, us)) is e =
      let f = reads.found ts y us is in
      let d = end_is y x us e in
      let sentence = subst (λ (z : A). Within z (kinds_of f.0)) d.same
      (within y (kinds_of f.0) (next_of us) f.1) in
      let kinds : kinds_of (f.0 ++ (d.last ∷ [])) ≡ kinds_of f.0 ++ (End ∷ []) =
      kinds-append f.0 (d.last ∷ [])
      ∙ ap (λ (k : TokenKind). kinds_of f.0 ++ (k ∷ [])) d.is_end in (
        f.0 ++ (d.last ∷ []),
        d.others,
        (kinds_of f.0, sentence, kinds),
        f.2 ∙ ap (λ (z : List Token). f.0 ++ z) d.parts
            ∙ sym (append_assoc f.0 (d.last ∷ []) d.others),
      )

  -- what is read of a text's tokens is their value
  pub whole_found : (bytes : List ℕ) (ts : List Token) (x : A) → Tokens (length bytes) bytes ts
      → whole read ts ≡ Ok x → IsText Within x bytes
  whole_found bytes ts x are e =
      let f = found_by ts x (read ts) refl e in
      let nothing = nothing_after (length bytes) bytes ts are f.0 f.1 f.2.0 f.3 f.2.2 in
      let same : f.0 ≡ ts =
      sym (append-nil f.0) ∙ ap (λ (z : List Token). f.0 ++ z) (sym nothing) ∙ sym f.3 in
      record {
        tokens = ts;
        are = are;
        spells = subst (λ (z : List Token). Whole Within x (kinds_of z)) same f.2;
      }

  -- whatever follows the end, it isn't looked at
  only_whole : (x : A) (ts rest : List Token) → Whole Within x (kinds_of ts)
      → whole read (ts ++ rest) ≡ Ok x
  only_whole x ts rest (sentence, is, e) =
      let p = split sentence (End ∷ []) ts (sym e) in
      let c = uncons End [] p.back p.back_kinds in
      let nothing = none c.tail c.tail_kinds in
      let parts : ts ++ rest ≡ p.prefix ++ (c.head ∷ rest) =
      ap (λ (z : List Token). z ++ rest) (p.parts ∙ ap (λ (z : List Token). p.prefix ++ z)
      (c.parts ∙ ap (λ (z : List Token). c.head ∷ z) nothing))
      ∙ append_assoc p.prefix (c.head ∷ []) rest in
      let here : In x (kinds_of p.prefix) (Some c.head.kind) =
      subst (λ (k : TokenKind). In x (kinds_of p.prefix) (Some k)) (sym c.head_kind)
      (closed x (kinds_of p.prefix) (subst (λ (z : List TokenKind). Within x z) p.prefix_kinds is))
      in
      let one = reads.only x p.prefix (c.head ∷ rest) here in
      rw (parts, one, c.head_kind) refl

  -- a text's value is read
  pub whole_only : (bytes : List ℕ) (ts : List Token) (x : A) → Tokens (length bytes) bytes ts
      → IsText Within x bytes → whole read ts ≡ Ok x
  whole_only bytes ts x are is =
      let same : ts ≡ is.tokens = same_tokens (length bytes) bytes ts is.tokens are is.are in
      ap (λ (z : List Token). whole read z) (same ∙ sym (append-nil is.tokens))
      ∙ only_whole x is.tokens [] is.spells

  pub only_value : (bytes : List ℕ) (ts : List Token) (x y : A) → Tokens (length bytes) bytes ts
      → whole read ts ≡ Ok x → IsText Within y bytes → x ≡ y
  only_value bytes ts x y are e is = all_is x y (sym e ∙ whole_only bytes ts y are is)

  pub never_refused : (bytes : List ℕ) (ts : List Token) (r : Refusal) (x : A)
      → Tokens (length bytes) bytes ts → whole read ts ≡ Err r → IsText Within x bytes → ⊥
  never_refused bytes ts r x are e is = differ (sym (whole_only bytes ts x are is) ∙ e)
    where
      differ : all_of x ≡ Err r → ⊥
      differ f = cc

  -- ---- what a reader of texts answers

  pub text_found : (bytes : List ℕ) (x : A) → IsReadBy read bytes (Ok x) → IsFile Within x bytes
  text_found bytes x (ts, has, e) =
      record { text = whole_found bytes ts x has.are e; short = has.short }

  never : (bytes : List ℕ) (x : A) (r : TextRefusal) → IsFile Within x bytes
      → IsRefusedBy read bytes r → ⊥
  never bytes x _ is (past_limit past) = omega (arith, past, is.short)
  never bytes x _ is (by_tokens ts r has e) = never_refused bytes ts r x has.are e is.text

  pub text_only : (bytes : List ℕ) (x : A) (result : Result A ReadFault)
      → IsReadBy read bytes result
      → IsFile Within x bytes → ReadAs x result
  text_only bytes x (Ok y) (ts, has, e) is = only_value bytes ts y x has.are e is.text
  text_only bytes x (Err (fault.Text r)) by is = never bytes x r is by
  text_only bytes x (Err fault.Memory) by is = tt

  -- ---- its first place

  -- no text within the limits begins so
  barred : (before : List Token) → ((other : List Token) → Refuses (whole read) (before ++ other))
      → Begins (Whole Within) (kinds_of before) → ⊥
  barred before refuses (x, more, is) =
      let other = tokens_of more in
      let kinds : kinds_of before ++ more ≡ kinds_of (before ++ other) =
      ap (λ (z : List TokenKind). kinds_of before ++ z) (sym (kinds-tokens more))
      ∙ sym (kinds-append before other) in
      let read_on : whole read ((before ++ other) ++ []) ≡ Ok x =
      only_whole x (before ++ other) []
      (subst (λ (z : List TokenKind). Whole Within x z) kinds is) in
      differ x (sym read_on ∙ ap (λ (z : List Token). whole read z) (append-nil (before ++ other)))
      (refuses other)
    where
      differ : (x : A) → all_of x ≡ whole read (before ++ tokens_of more)
          → Refuses (whole read) (before ++ tokens_of more) → ⊥
      differ x e (r, f) = cc

  refuses_whole : (us : List Token) → Refuses read us → Refuses (whole read) us
  refuses_whole us (d, e) = (d, rw e refl)

  module _ (place : (before : List Token) (t : Token) (r : Refusal) → Where before t r
      → WholeWhere before t r)
      (place_end : (before : List Token) (t : Token) (r : Refusal) → AtToken before t r
      → WholeWhere before t r)
      (holds : (n : ℕ) (bs : List ℕ) (ts : List Token) → Tokens n bs ts → Holds ts) where
    at_place : (ts : List Token) (r : Refusal) → RefusedAt Is Where read ts r
        → RefusedAt (Whole Is) WholeWhere (whole read) ts r
    at_place ts r s = record {
      before = s.before;
      refused = s.refused;
      after = s.after;
      parts = s.parts;
      begins = begun (kinds_of s.before) s.begins;
      stands = λ other. rw (s.stands other) refl;
      place = place s.before s.refused r s.place;
      cause = why_map _ _ _ _ _ _ (λ k goes. begun (kinds_of s.before ++ (k ∷ [])) goes)
          (λ full other. refuses_whole (s.before ++ other) (full other)) s.refused.kind r.why
          (λ j a stuck u other e. refuses_whole (s.before ++ (u ∷ other)) (stuck u other e))
          s.cause;
    }
      where
        begun : (ks : List TokenKind) → Begins Is ks → Begins (Whole Is) ks
        begun ks (x, more, is) =
            (x, more ++ (End ∷ []), (ks ++ more, is, sym (append_assoc ks more (End ∷ []))))

    -- a token is left where the text would have to end
    not_end : (x : A) (t : Token) (k : TokenKind) (r : Refusal) → at_end x k t.at ≡ Err r
        → r.at ≡ t.at
    not_end x t End r e = absurd cc
    not_end x t (Sign z) r e = cc
    not_end x t (Keyword z) r e = cc
    not_end x t (Name z) r e = cc
    not_end x t (Number z) r e = cc
    not_end x t (Text z) r e = cc
    not_end x t (Cut z) r e = cc
    not_end x t Long r e = cc
    not_end x t Byte r e = cc

    at_rest : (ts : List Token) (r : Refusal) (x : A) (prefix us : List Token)
        → In x (kinds_of prefix) (next_of us) → ts ≡ prefix ++ us → has_last (kinds_of us) ≡ true
        → then_end x us ≡ Err r → RefusedAt (Whole Is) WholeWhere (whole read) ts r
    at_rest ts r x prefix [] is parts h e = absurd cc
    at_rest ts r x prefix (t ∷ us) is parts h e = record {
      before = prefix;
      refused = t;
      after = us;
      parts = parts;
      begins = (
        x,
        End ∷ [],
        (kinds_of prefix, reads.wider x (kinds_of prefix) (Some t.kind) is, refl),
      );
      stands = λ other. rw (reads.only x prefix (t ∷ other) is) e;
      place = place_end prefix t r (there (not_end x t t.kind r e));
      cause = subst (λ (z : Refusal). CauseOf (Whole Is) (whole read) prefix t.kind z.why)
          (err_is (sym (not_ended x t.kind t.at goes) ∙ e))
          (plain_why _ _ _ t.kind t.at (λ j a u other f. past u other
          (subst (λ (k : TokenKind). In x (kinds_of prefix) (Some k)) (sym f)
          (reads.alike x (kinds_of prefix) t.kind j a is))
          (ap is_end f ∙ alike_ended t.kind j a goes)));
    }
      where
        err_is : {y z : Refusal} → err_of {A = A} y ≡ err_of z → y ≡ z
        err_is f = cc

        goes_by : (k : TokenKind) → at_end x k t.at ≡ Err r → is_end k ≡ false
        goes_by End f = absurd cc
        goes_by _ f = refl

        goes : is_end t.kind ≡ false
        goes = goes_by t.kind e

        past : (u : Token) (other : List Token) → In x (kinds_of prefix) (Some u.kind)
            → is_end u.kind ≡ false → Refuses (whole read) (prefix ++ (u ∷ other))
        past u other may n = (
          refused_by u.kind u.at,
          rw (reads.only x prefix (u ∷ other) may) (not_ended x u.kind u.at n),
        )

    first_by : (ts : List Token) (r : Refusal) (q : Result (A × List Token) Refusal)
        → has_last (kinds_of ts) ≡ true → read ts ≡ q → (q >>= λ y. then_end y.0 y.1) ≡ Err r
        → Holds ts → RefusedAt (Whole Is) WholeWhere (whole read) ts r
    first_by ts r (Err d) h is e hold = at_place ts r (reads.first ts r h (is ∙ cc) hold)
    first_by ts r (Ok (x, us)) h is e hold =
        let f = reads.found ts x us is in
        let wide = reads.wider x (kinds_of f.0) (next_of us) f.1 in
        let left = last_after f.0 us ts (reads.unended x (kinds_of f.0) wide) f.2 h in
        at_rest ts r x f.0 us f.1 f.2 left e

    -- a text is refused at the first token with which no text goes on
    pub whole_refused : (bytes : List ℕ) (ts : List Token) (r : Refusal) → length bytes ≤ 1048576
        → Tokens (length bytes) bytes ts → whole read ts ≡ Err r
        → IsRefused Is Within WholeWhere read bytes (located bytes r)
    whole_refused bytes ts r short are e =
        texts.tokens ts r short are
        (first_place (Whole Within) (whole read) barred (Whole Is) WholeWhere WholeWhere
        (λ before t r p. p) ts r
        (first_by ts r (read ts) (text_ends (length bytes) bytes ts are) refl e
        (holds (length bytes) bytes ts are)))

    pub text_refused : (bytes : List ℕ) (r : TextRefusal) → IsRefusedBy read bytes r
        → IsRefused Is Within WholeWhere read bytes r
    text_refused bytes _ (past_limit past) = texts.too_long past
    text_refused bytes _ (by_tokens ts r has e) = whole_refused bytes ts r has.short has.are e

-- ---- the refusal with its place by line and column

pub known_refused : {A : Type 0} (read : Reads A) (bytes : List ℕ) (ts us : List Token)
    (r : Refusal)
    (line : TextRefusal) → length bytes ≤ 1048576 → Tokens (length bytes) bytes us → ts ≡ us
    → whole read ts ≡ Err r → line ≡ located bytes r → IsRefusedBy read bytes line
known_refused read bytes ts us r line short are same e f =
    let by = by_tokens us r (record { short = short; are = are })
    (subst (λ (z : List Token). whole read z ≡ Err r) same e) in
    subst (λ (z : TextRefusal). IsRefusedBy read bytes z) (sym f) by
