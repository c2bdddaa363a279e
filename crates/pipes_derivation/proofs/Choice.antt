-- A reader that the first token chooses of two.
use Rattle.std.proofs.Common.{◌≡◌, Bool, true, false, List, [], ◌∷◌, ◌++◌, Option, Some, None}
use Rattle.std.proofs.Common.{Result, Ok, Err, refl, sym, ap, ◌∙◌, ◌⊎◌, inl, inr}
use Rattle.pipes_token.specs.declared.refusal.Refusal.{Refusal}
use Rattle.pipes_token.specs.declared.token.TokenKind.{TokenKind}
use Rattle.pipes_token.specs.declared.token.Token.{Token}
use Rattle.pipes_reader.specs.Reading.{Reads, kinds_of}
use Rattle.pipes_reader.specs.Sentences.{Grammar, GrammarBefore, Begins, Prefix, next_of, has_last}
use Rattle.pipes_reader.specs.Causes.{AreAlike}
use Rattle.pipes_reader.specs.Places.{Refusals}
use Rattle.pipes_reader.proofs.Causes.{why_map, Refuses, CauseOf}
use Rattle.pipes_reader.proofs.Readers.{IsReader, RefusedAt, ReadsSome}
use Rattle.pipes_derivation.specs.Reading.{either}

-- the first of these is of the choice
abbrev pub FirstIs : (TokenKind → Bool) → Bool → List TokenKind → Type 0
FirstIs begins b [] = ⊥
FirstIs begins b (k ∷ ks) = begins k ≡ b

-- a sentence of the one or of the other
abbrev pub OneOf : {A : Type 0} → Grammar A → Grammar A → Grammar A
OneOf Is Other x ks = Is x ks ⊎ Other x ks

abbrev pub OneOfBefore : {A : Type 0} → GrammarBefore A → GrammarBefore A → GrammarBefore A
OneOfBefore In Other x ks h = In x ks h ⊎ Other x ks h

-- ---- a refusal by the chosen reader

module _ {A : Type 0} (begins : TokenKind → Bool) (b : Bool) (Is All : Grammar A)
    (Where : Refusals) (read all : Reads A)
    (to : (x : A) (ks : List TokenKind) → Is x ks → All x ks)
    (chosen : (t : Token) (ts : List Token) → begins t.kind ≡ b → all (t ∷ ts) ≡ read (t ∷ ts))
    (steady : (k j : TokenKind) → AreAlike k j → begins k ≡ begins j) (some : ReadsSome read) where
  refuses : (v : Token) (us : List Token) → begins v.kind ≡ b → Refuses read (v ∷ us)
      → Refuses all (v ∷ us)
  refuses v us is (r, e) = (r, chosen v us is ∙ e)

  differ : ((other : List Token) → Refuses read other) → ⊥
  differ full = by some.0 some.1 some.2 some.3 (full some.0)
    where
      by : (ts : List Token) (y : A) (rest : List Token) → read ts ≡ Ok (y, rest)
          → Refuses read ts → ⊥
      by ts y rest e (r, f) = cc

  goes : (before : List Token) (k : TokenKind) → Begins Is (kinds_of before ++ (k ∷ []))
      → Begins All (kinds_of before ++ (k ∷ []))
  goes before k (x, more, is) = (x, more, to x ((kinds_of before ++ (k ∷ [])) ++ more) is)

  first_token : (t v : Token) (ts us : List Token) → t ∷ ts ≡ v ∷ us → begins t.kind ≡ b
      → begins v.kind ≡ b
  first_token t v ts us e is =
      let same : t ≡ v = cc in
      ap (λ (z : Token). begins z.kind) (sym same) ∙ is

  lifted : (t : Token) (ts : List Token) (r : Refusal) → begins t.kind ≡ b
      → (before : List Token) (refused : Token) (after : List Token)
      → t ∷ ts ≡ before ++ (refused ∷ after) → Begins Is (kinds_of before)
      → ((other : List Token) → read (before ++ (refused ∷ other)) ≡ Err r)
      → Where before refused r → CauseOf Is read before refused.kind r.why
      → RefusedAt All Where all (t ∷ ts) r
  lifted t ts r is [] refused after parts begun stands place cause =
      let here = first_token t refused ts after parts is in
      record {
        before = [];
        refused = refused;
        after = after;
        parts = parts;
        begins = (begun.0, begun.1, to begun.0 begun.1 begun.2);
        stands = λ other. chosen refused other here ∙ stands other;
        place = place;
        cause = why_map _ _ _ _ _ _ (goes []) (λ full. absurd (differ full)) refused.kind r.why
            (λ j a stuck u other e. refuses u other
            (ap begins e ∙ sym (steady refused.kind j a) ∙ here) (stuck u other e)) cause;
      }
  lifted t ts r is (v ∷ vs) refused after parts begun stands place cause =
      let here = first_token t v ts (vs ++ (refused ∷ after)) parts is in
      record {
        before = v ∷ vs;
        refused = refused;
        after = after;
        parts = parts;
        begins = (begun.0, begun.1, to begun.0 (kinds_of (v ∷ vs) ++ begun.1) begun.2);
        stands = λ other. chosen v (vs ++ (refused ∷ other)) here ∙ stands other;
        place = place;
        cause = why_map _ _ _ _ _ _ (goes (v ∷ vs))
            (λ full other. refuses v (vs ++ other) here (full other)) refused.kind r.why
            (λ j a stuck u other e. refuses v (vs ++ (u ∷ other)) here (stuck u other e)) cause;
      }

  pub branch_first : (t : Token) (ts : List Token) (r : Refusal) → begins t.kind ≡ b
      → RefusedAt Is Where read (t ∷ ts) r → RefusedAt All Where all (t ∷ ts) r
  branch_first t ts r is s =
      lifted t ts r is s.before s.refused s.after s.parts s.begins s.stands s.place s.cause

-- ---- the reader

module _ {A : Type 0} (begins : TokenKind → Bool) (Is Other : Grammar A)
    (In OtherIn : GrammarBefore A) (Where : Refusals) (read other : Reads A)
    (steady : (k j : TokenKind) → AreAlike k j → begins k ≡ begins j)
    (one : IsReader Is In Where read) (two : IsReader Other OtherIn Where other)
    (first_one : (x : A) (ks : List TokenKind) → Is x ks → FirstIs begins true ks)
    (first_two : (x : A) (ks : List TokenKind) → Other x ks → FirstIs begins false ks)
    (some_one : ReadsSome read) (some_two : ReadsSome other) where
  chosen_one : (t : Token) (ts : List Token) → begins t.kind ≡ true
      → either begins read other (t ∷ ts) ≡ read (t ∷ ts)
  unfolding either
  chosen_one t ts is = rw is refl

  chosen_two : (t : Token) (ts : List Token) → begins t.kind ≡ false
      → either begins read other (t ∷ ts) ≡ other (t ∷ ts)
  unfolding either
  chosen_two t ts is = rw is refl

  found : (ts : List Token) (x : A) (rest : List Token) → either begins read other ts ≡ Ok (x, rest)
      → Prefix (OneOfBefore In OtherIn) x ts rest
  unfolding either
  found [] x rest e = absurd cc
  found (t ∷ ts) x rest e = by (begins t.kind) refl
    where
      by : (b : Bool) → begins t.kind ≡ b → Prefix (OneOfBefore In OtherIn) x (t ∷ ts) rest
      by true is =
          let f = one.found (t ∷ ts) x rest (sym (chosen_one t ts is) ∙ e) in
          (f.0, inl f.1, f.2)
      by false is =
          let f = two.found (t ∷ ts) x rest (sym (chosen_two t ts is) ∙ e) in
          (f.0, inr f.1, f.2)

  only : (x : A) (prefix rest : List Token)
      → OneOfBefore In OtherIn x (kinds_of prefix) (next_of rest)
      → either begins read other (prefix ++ rest) ≡ Ok (x, rest)
  only x [] rest (inl is) = absurd (first_one x [] (one.wider x [] (next_of rest) is))
  only x [] rest (inr is) = absurd (first_two x [] (two.wider x [] (next_of rest) is))
  only x (p ∷ ps) rest (inl is) =
      chosen_one p (ps ++ rest)
      (first_one x (kinds_of (p ∷ ps)) (one.wider x (kinds_of (p ∷ ps)) (next_of rest) is))
      ∙ one.only x (p ∷ ps) rest is
  only x (p ∷ ps) rest (inr is) =
      chosen_two p (ps ++ rest)
      (first_two x (kinds_of (p ∷ ps)) (two.wider x (kinds_of (p ∷ ps)) (next_of rest) is))
      ∙ two.only x (p ∷ ps) rest is

  wider : (x : A) (ks : List TokenKind) (h : Option TokenKind) → OneOfBefore In OtherIn x ks h
      → OneOf Is Other x ks
  wider x ks h (inl is) = inl (one.wider x ks h is)
  wider x ks h (inr is) = inr (two.wider x ks h is)

  alike : (x : A) (ks : List TokenKind) (k j : TokenKind) → AreAlike k j
      → OneOfBefore In OtherIn x ks (Some k) → OneOfBefore In OtherIn x ks (Some j)
  alike x ks k j a (inl is) = inl (one.alike x ks k j a is)
  alike x ks k j a (inr is) = inr (two.alike x ks k j a is)

  unended : (x : A) (ks : List TokenKind) → OneOf Is Other x ks → has_last ks ≡ false
  unended x ks (inl is) = one.unended x ks is
  unended x ks (inr is) = two.unended x ks is

  first : (ts : List Token) (r : Refusal) → has_last (kinds_of ts) ≡ true
      → either begins read other ts ≡ Err r
      → RefusedAt (OneOf Is Other) Where (either begins read other) ts r
  first [] r h e = absurd (no h)
    where
      no : false ≡ true → ⊥
      no f = cc
  first (t ∷ ts) r h e = by (begins t.kind) refl
    where
      by : (b : Bool) → begins t.kind ≡ b
          → RefusedAt (OneOf Is Other) Where (either begins read other) (t ∷ ts) r
      by true is =
          branch_first begins true Is (OneOf Is Other) Where read (either begins read other)
          (λ x ks s. inl s) chosen_one steady some_one t ts r is
          (one.first (t ∷ ts) r h (sym (chosen_one t ts is) ∙ e) tt)
      by false is =
          branch_first begins false Other (OneOf Is Other) Where other (either begins read other)
          (λ x ks s. inr s) chosen_two steady some_two t ts r is
          (two.first (t ∷ ts) r h (sym (chosen_two t ts is) ∙ e) tt)

  pub reads_either : IsReader (OneOf Is Other) (OneOfBefore In OtherIn) Where
      (either begins read other)
  reads_either = record {
    found = found;
    only = only;
    wider = wider;
    alike = alike;
    unended = unended;
    first = λ ts r h e u. first ts r h e;
  }
