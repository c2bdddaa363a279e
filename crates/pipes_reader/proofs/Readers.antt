-- What holds of a reader, and of two readers in turn.
use Rattle.std.proofs.Common.{◌≡◌, Bool, true, false, List, [], ◌∷◌, ◌++◌, Option, None, Result, Ok}
use Rattle.std.proofs.Common.{Err, refl, sym, ap, subst, ◌∙◌, append_assoc, ◌⊎◌, inl, inr, Some}
use Rattle.std.proofs.lemmas.List.{append-nil}
use Rattle.pipes_token.specs.declared.refusal.Refusal.{Refusal}
use Rattle.pipes_token.specs.declared.token.TokenKind.{TokenKind}
use Rattle.pipes_token.specs.declared.token.Token.{Token}
use Rattle.pipes_time.specs.Results.{◌>>=◌}
use Rattle.pipes_reader.specs.Reading.{Reads, kinds_of, in_turn}
use Rattle.pipes_reader.specs.Sentences.{Grammar, GrammarBefore, Anywhere, Begins, next_of, ahead}
use Rattle.pipes_reader.specs.Sentences.{Prefix, has_last}
use Rattle.pipes_reader.specs.Causes.{AreAlike}
use Rattle.pipes_reader.specs.Places.{Refusals, FirstPlace, AtToken, there, inside}
use Rattle.pipes_reader.proofs.Causes.{why_map, Refuses, CauseOf}
use Rattle.pipes_reader.proofs.TokenLists.{kinds-append, split, next-append, next-same}
use Rattle.pipes_reader.proofs.TokenLists.{both_unended, last_after}

-- A refusal at a token: what is before it begins a sentence, it is the same whatever follows, and
-- its cause is the grammar's.
pub record RefusedAt {A B : Type 0} (Is : Grammar A) (Where : Refusals)
    (read : List Token → Result B Refusal) (ts : List Token) (r : Refusal) : Type 0 where
  pub before : List Token
  pub refused : Token
  pub after : List Token
  pub parts : ts ≡ before ++ (refused ∷ after)
  pub begins : Begins Is (kinds_of before)
  pub stands : (other : List Token) → read (before ++ (refused ∷ other)) ≡ Err r
  pub place : Where before refused r
  pub cause : CauseOf Is read before refused.kind r.why

-- Is: the grammar without limits. In: its sentences within the limits, each before the tokens
-- before which it may be. Holds: the tokens of which the law on refusals is known.
pub record IsReaderIf {A : Type 0} (Holds : List Token → Type 0) (Is : Grammar A)
    (In : GrammarBefore A) (Where : Refusals) (read : Reads A) : Type 0 where
  -- what is read is a sentence,
  pub found : (ts : List Token) (x : A) (rest : List Token) → read ts ≡ Ok (x, rest)
      → Prefix In x ts rest
  -- each sentence is read,
  pub only : (x : A) (prefix rest : List Token) → In x (kinds_of prefix) (next_of rest)
      → read (prefix ++ rest) ≡ Ok (x, rest)
  pub wider : (x : A) (ks : List TokenKind) (h : Option TokenKind) → In x ks h → Is x ks
  -- each may be before tokens that are alike,
  pub alike : (x : A) (ks : List TokenKind) (k j : TokenKind) → AreAlike k j → In x ks (Some k)
      → In x ks (Some j)
  -- none has the last token of a text,
  pub unended : (x : A) (ks : List TokenKind) → Is x ks → has_last ks ≡ false
  -- and before that one a refusal comes at the first token with which nothing goes on.
  pub first : (ts : List Token) (r : Refusal) → has_last (kinds_of ts) ≡ true → read ts ≡ Err r
      → Holds ts → RefusedAt Is Where read ts r

-- the same of all tokens
abbrev pub IsReader : {A : Type 0} → Grammar A → GrammarBefore A → Refusals → Reads A → Type 0
IsReader Is In Where read = IsReaderIf (λ ts. Unit {0}) Is In Where read

-- of fewer tokens
pub under : {A : Type 0} {Is : Grammar A} {In : GrammarBefore A} {Where : Refusals} {read : Reads A}
    {Holds Holds2 : List Token → Type 0} → ((ts : List Token) → Holds2 ts → Holds ts)
    → IsReaderIf Holds Is In Where read → IsReaderIf Holds2 Is In Where read
under keeps one = record {
  found = one.found;
  only = one.only;
  wider = one.wider;
  alike = one.alike;
  unended = one.unended;
  first = λ ts r h e holds. one.first ts r h e (keeps ts holds);
}

-- ---- one sentence after the other

pub data Then {A B : Type 0} (Is : Grammar A) (Next : A → Grammar B) : B → List TokenKind
    → Type 0 where
  both : (x : A) (y : B) (ks ls : List TokenKind) → Is x ks → Next x y ls
      → Then Is Next y (ks ++ ls)

-- the first is before what comes first of the second and of what follows both
pub data ThenBefore {A B : Type 0} (In : GrammarBefore A) (NextIn : A → GrammarBefore B)
    : B → List TokenKind → Option TokenKind → Type 0 where
  turn : (x : A) (y : B) (ks ls : List TokenKind) (h : Option TokenKind) → In x ks (ahead ls h)
      → NextIn x y ls h → ThenBefore In NextIn y (ks ++ ls) h

module _ {A B : Type 0} (Is : Grammar A) (Next : A → Grammar B)
    (some : (x : A) (ks : List TokenKind) → Is x ks → Begins (Next x) []) where
  -- a sentence that begins with these is begun, and can be ended
  pub ended : (ks : List TokenKind) → Begins Is ks → Begins (Then Is Next) ks
  ended ks (x, more, is) =
      let n = some x (ks ++ more) is in
      let whole = both x n.0 (ks ++ more) n.1 is n.2 in (
        n.0,
        more ++ n.1,
        subst (λ (z : List TokenKind). Then Is Next n.0 z)
            (append_assoc ks more n.1) whole,
      )

  -- after the first sentence the next one is begun
  pub moved : (x : A) (ks us : List TokenKind) → Is x ks → Begins (Next x) us
      → Begins (Then Is Next) (ks ++ us)
  moved x ks us is (y, more, after) =
      let whole = both x y ks (us ++ more) is after in (
        y,
        more,
        subst (λ (z : List TokenKind). Then Is Next y z)
            (sym (append_assoc ks us more)) whole,
      )

-- whatever follows this sentence, it may be there
abbrev pub IsFree : {A : Type 0} → GrammarBefore A → A → List TokenKind → Type 0
IsFree In x ks = (h : Option TokenKind) → In x ks h

-- something is read
abbrev pub ReadsSome : {B : Type 0} → Reads B → Type 0
ReadsSome {B} read = (ts : List Token) × (y : B) × (rest : List Token) × (read ts ≡ Ok (y, rest))

-- After each sentence anything may follow, or the next reader doesn't refuse everything.
abbrev pub Continues : {A B : Type 0} → GrammarBefore A → (A → Reads B) → Type 0
Continues {A} In next = (x : A) (ks : List TokenKind) (h : Option TokenKind) → In x ks h
    → IsFree In x ks ⊎ ReadsSome (next x)

module _ {A B : Type 0} (Is : Grammar A) (In : GrammarBefore A) (Next : A → Grammar B)
    (NextIn : A → GrammarBefore B) (First : Refusals) (Second : A → Refusals) (Where : Refusals)
    (read : Reads A) (next : A → Reads B) {Holds HoldsFirst : List Token → Type 0}
    {HoldsSecond : A → List Token → Type 0} (one : IsReaderIf HoldsFirst Is In First read)
    (two : (x : A) (ks : List TokenKind) → Is x ks
    → IsReaderIf (HoldsSecond x) (Next x) (NextIn x) (Second x) (next x))
    (some : (x : A) (ks : List TokenKind) → Is x ks → Begins (Next x) [])
    (goes_on : Continues In next)
    (place_first : (before : List Token) (t : Token) (r : Refusal) → First before t r
    → Where before t r)
    (place_second : (x : A) (prefix before : List Token) (t : Token) (r : Refusal)
    → In x (kinds_of prefix) (next_of (before ++ (t ∷ []))) → Second x before t r
    → Where (prefix ++ before) t r)
    (keeps_first : (ts : List Token) → Holds ts → HoldsFirst ts)
    (keeps_second : (x : A) (prefix us : List Token) → In x (kinds_of prefix) (next_of us)
    → Holds (prefix ++ us) → HoldsSecond x us) where
  found_both : (ts : List Token) (y : B) (rest : List Token) (q : Result (A × List Token) Refusal)
      → read ts ≡ q → (q >>= λ x. next x.0 x.1) ≡ Ok (y, rest)
      → Prefix (ThenBefore In NextIn) y ts rest
  found_both ts y rest (Ok (x, us)) is e =
      let f = one.found ts x us is in
      let wide = one.wider x (kinds_of f.0) (next_of us) f.1 in
      let g = (two x (kinds_of f.0) wide).found us y rest e in
      let after : next_of us ≡ ahead (kinds_of g.0) (next_of rest) =
      ap (λ (z : List Token). next_of z) g.2 ∙ next-append g.0 rest in
      let here = subst (λ (z : Option TokenKind). In x (kinds_of f.0) z) after f.1 in
      let whole = turn x y (kinds_of f.0) (kinds_of g.0) (next_of rest) here g.1 in (
        f.0 ++ g.0,
        subst (λ (z : List TokenKind). ThenBefore In NextIn y z (next_of rest))
            (sym (kinds-append f.0 g.0)) whole,
        f.2 ∙ ap (λ (z : List Token). f.0 ++ z) g.2 ∙ sym (append_assoc f.0 g.0 rest),
      )
  found_both ts y rest (Err r) is e = absurd cc

  only_both : (y : B) (ks : List TokenKind) (h : Option TokenKind) → ThenBefore In NextIn y ks h
      → (prefix rest : List Token) → ks ≡ kinds_of prefix → h ≡ next_of rest
      → in_turn read next (prefix ++ rest) ≡ Ok (y, rest)
  only_both _ _ _ (turn x y ks ls h is later) prefix rest e f =
      let p = split ks ls prefix e in
      let after : ahead ls h ≡ next_of (p.back ++ rest) =
      ap (λ (z : List TokenKind). ahead z h) p.back_kinds
      ∙ ap (λ (z : Option TokenKind). ahead (kinds_of p.back) z) f
      ∙ sym (next-append p.back rest) in
      let here : In x (kinds_of p.prefix) (next_of (p.back ++ rest)) =
      subst (λ (z : Option TokenKind). In x (kinds_of p.prefix) z) after
      (subst (λ (z : List TokenKind). In x z (ahead ls h)) p.prefix_kinds is) in
      let there : NextIn x y (kinds_of p.back) (next_of rest) =
      subst (λ (z : Option TokenKind). NextIn x y (kinds_of p.back) z) f
      (subst (λ (z : List TokenKind). NextIn x y z h) p.back_kinds later) in
      let first = one.only x p.prefix (p.back ++ rest) here in
      let second = (two x ks (one.wider x ks (ahead ls h) is)).only y p.back rest there in
      let parts : prefix ++ rest ≡ p.prefix ++ (p.back ++ rest) =
      ap (λ (z : List Token). z ++ rest) p.parts ∙ append_assoc p.prefix p.back rest in
      rw (parts, first) second

  wider_both : (y : B) (ks : List TokenKind) (h : Option TokenKind) → ThenBefore In NextIn y ks h
      → Then Is Next y ks
  wider_both _ _ _ (turn x y ks ls h is later) =
      let wide = one.wider x ks (ahead ls h) is in
      both x y ks ls wide ((two x ks wide).wider y ls h later)

  unended_both : (y : B) (ks : List TokenKind) → Then Is Next y ks → has_last ks ≡ false
  unended_both _ _ (both x y ks ls is later) =
      both_unended ks ls (one.unended x ks is) ((two x ks is).unended y ls later)

  alike_both : (y : B) (ks : List TokenKind) (h : Option TokenKind) → ThenBefore In NextIn y ks h
      → (k j : TokenKind) → AreAlike k j → h ≡ Some k → ThenBefore In NextIn y ks (Some j)
  alike_both _ _ _ (turn x y ks ls h is later) k j a e =
      let wide = one.wider x ks (ahead ls h) is in
      turn x y ks ls (Some j)
      (first ls (subst (λ (z : Option TokenKind). In x ks (ahead ls z)) e is))
      ((two x ks wide).alike y ls k j a
      (subst (λ (z : Option TokenKind). NextIn x y ls z) e later))
    where
      first : (ls : List TokenKind) → In x ks (ahead ls (Some k)) → In x ks (ahead ls (Some j))
      first [] is = one.alike x ks k j a is
      first (l ∷ ls) is = is

  -- ---- causes

  refuses_first : (ts : List Token) → Refuses read ts → Refuses (in_turn read next) ts
  refuses_first ts (d, e) = (d, rw e refl)

  refuses_second : (x : A) (prefix before ts : List Token) → In x (kinds_of prefix) (next_of
      (before ++ ts)) → Refuses (next x) (before ++ ts)
      → Refuses (in_turn read next) ((prefix ++ before) ++ ts)
  refuses_second x prefix before ts is (d, e) =
      (d, rw (append_assoc prefix before ts, one.only x prefix (before ++ ts) is) e)

  -- where the next reader refuses everything, anything may follow
  full_after : (x : A) (prefix before : List Token) (t : Token)
      → In x (kinds_of prefix) (next_of (before ++ (t ∷ [])))
      → ((other : List Token) → Refuses (next x) (before ++ other)) → (other : List Token)
      → In x (kinds_of prefix) (next_of (before ++ other))
  full_after x prefix (v ∷ before) t is full other = is
  full_after x prefix [] t is full other =
      elim (goes_on x (kinds_of prefix) (Some t.kind) is) [
        | inl free ↦ free (next_of other)
        | inr some ↦ absurd (differ some.1 some.2 some.0 some.3 (full some.0))
      ]
    where
      differ : (y : B) (rest ts : List Token) → next x ts ≡ Ok (y, rest) → Refuses (next x) ts → ⊥
      differ y rest ts e (d, f) = cc

  alike_after : (x : A) (prefix before : List Token) (t : Token)
      → In x (kinds_of prefix) (next_of (before ++ (t ∷ []))) → (j : TokenKind)
      → AreAlike t.kind j
      → (u : Token) (other : List Token) → u.kind ≡ j
      → In x (kinds_of prefix) (next_of (before ++ (u ∷ other)))
  alike_after x prefix (v ∷ before) t is j a u other e = is
  alike_after x prefix [] t is j a u other e =
      subst (λ (k : TokenKind). In x (kinds_of prefix) (Some k)) (sym e)
      (one.alike x (kinds_of prefix) t.kind j a is)

  at_first : (ts : List Token) (r : Refusal) → RefusedAt Is First read ts r
      → RefusedAt (Then Is Next) Where (in_turn read next) ts r
  at_first ts r s = record {
    before = s.before;
    refused = s.refused;
    after = s.after;
    parts = s.parts;
    begins = ended Is Next some (kinds_of s.before) s.begins;
    stands = λ other. rw (s.stands other) refl;
    place = place_first s.before s.refused r s.place;
    cause = why_map _ _ _ _ _ _ (λ k goes. ended Is Next some (kinds_of s.before ++ (k ∷ [])) goes)
        (λ full other. refuses_first (s.before ++ other) (full other)) s.refused.kind r.why
        (λ j a stuck u other e. refuses_first (s.before ++ (u ∷ other)) (stuck u other e)) s.cause;
  }

  at_second : (ts : List Token) (r : Refusal) (x : A) (prefix us : List Token)
      → In x (kinds_of prefix) (next_of us) → ts ≡ prefix ++ us
      → RefusedAt (Next x) (Second x) (next x) us r
      → RefusedAt (Then Is Next) Where (in_turn read next) ts r
  at_second ts r x prefix us w parts s = record {
    before = prefix ++ s.before;
    refused = s.refused;
    after = s.after;
    parts = parts ∙ ap (λ (z : List Token). prefix ++ z) s.parts
        ∙ sym (append_assoc prefix s.before (s.refused ∷ s.after));
    begins = subst (λ (z : List TokenKind). Begins (Then Is Next) z)
        (sym (kinds-append prefix s.before))
        (moved Is Next some x (kinds_of prefix) (kinds_of s.before) wide s.begins);
    stands = λ other. rw (
      append_assoc prefix s.before (s.refused ∷ other),
      one.only x prefix (s.before ++ (s.refused ∷ other)) (before other),
    ) (s.stands other);
    place = place_second x prefix s.before s.refused r (before []) s.place;
    cause = why_map _ _ _ _ _ _ goes
        (λ full other. refuses_second x prefix s.before other
        (full_after x prefix s.before s.refused (before []) full other) (full other))
        s.refused.kind r.why
        (λ j a stuck u other e. refuses_second x prefix s.before (u ∷ other)
        (alike_after x prefix s.before s.refused (before []) j a u other e) (stuck u other e))
        s.cause;
  }
    where
      wide : Is x (kinds_of prefix)
      wide = one.wider x (kinds_of prefix) (next_of us) w

      goes : (k : TokenKind) → Begins (Next x) (kinds_of s.before ++ (k ∷ []))
          → Begins (Then Is Next) (kinds_of (prefix ++ s.before) ++ (k ∷ []))
      goes k begun =
          subst (λ (z : List TokenKind). Begins (Then Is Next) z)
          (sym (append_assoc (kinds_of prefix) (kinds_of s.before) (k ∷ []))
          ∙ ap (λ (z : List TokenKind). z ++ (k ∷ [])) (sym (kinds-append prefix s.before)))
          (moved Is Next some x (kinds_of prefix) (kinds_of s.before ++ (k ∷ [])) wide begun)

      before : (other : List Token)
          → In x (kinds_of prefix) (next_of (s.before ++ (s.refused ∷ other)))
      before other =
          subst (λ (z : Option TokenKind). In x (kinds_of prefix) z)
          (ap (λ (z : List Token). next_of z) s.parts
          ∙ next-same s.before s.refused s.after other) w

  first_by : (ts : List Token) (r : Refusal) (q : Result (A × List Token) Refusal)
      → has_last (kinds_of ts) ≡ true → read ts ≡ q → (q >>= λ x. next x.0 x.1) ≡ Err r → Holds ts
      → RefusedAt (Then Is Next) Where (in_turn read next) ts r
  first_by ts r (Err d) h is e holds =
      at_first ts r (one.first ts r h (is ∙ cc) (keeps_first ts holds))
  first_by ts r (Ok (x, us)) h is e holds =
      let f = one.found ts x us is in
      let wide = one.wider x (kinds_of f.0) (next_of us) f.1 in
      let left = last_after f.0 us ts (one.unended x (kinds_of f.0) wide) f.2 h in
      at_second ts r x f.0 us f.1 f.2 ((two x (kinds_of f.0) wide).first us r left e
      (keeps_second x f.0 us f.1 (subst (λ (z : List Token). Holds z) f.2 holds)))

  pub reads_in_turn : IsReaderIf Holds (Then Is Next) (ThenBefore In NextIn) Where
      (in_turn read next)
  reads_in_turn = record {
    found = λ ts y rest e. found_both ts y rest (read ts) refl e;
    only = λ y prefix rest is. only_both y (kinds_of prefix) (next_of rest) is prefix rest refl
        refl;
    wider = wider_both;
    alike = λ y ks k j a is. alike_both y ks (Some k) is k j a refl;
    unended = unended_both;
    first = λ ts r h e holds. first_by ts r (read ts) h refl e holds;
  }

-- ---- the same, where a refusal's place is at its token

pub moves : (prefix before : List Token) (t : Token) (r : Refusal) → AtToken before t r
    → AtToken (prefix ++ before) t r
moves prefix before t r (there e) = there e
moves prefix before t r (inside e) = inside e

pub turns_room : {A B : Type 0} (Room : Type 0) (Is : Grammar A) (In : GrammarBefore A)
    (Next : A → Grammar B) (NextIn : A → GrammarBefore B) (read : Reads A) (next : A → Reads B)
    → IsReaderIf (λ ts. Room) Is In AtToken read
    → ((x : A) (ks : List TokenKind) → Is x ks
    → IsReaderIf (λ ts. Room) (Next x) (NextIn x) AtToken (next x))
    → ((x : A) (ks : List TokenKind) → Is x ks → Begins (Next x) []) → Continues In next
    → IsReaderIf (λ ts. Room) (Then Is Next) (ThenBefore In NextIn) AtToken (in_turn read next)
turns_room Room Is In Next NextIn read next one two some goes_on =
    reads_in_turn Is In Next NextIn AtToken (λ x. AtToken) AtToken read next one two some goes_on
    (λ before t r p. p) (λ x prefix before t r w p. moves prefix before t r p)
    (λ ts room. room) (λ x prefix us is room. room)

pub turns_if : {A B : Type 0} (Is : Grammar A) (In : GrammarBefore A) (Next : A → Grammar B)
    (NextIn : A → GrammarBefore B) (read : Reads A) (next : A → Reads B) {Room : Type 0}
    → IsReaderIf (λ ts. Room) Is In AtToken read
    → ((x : A) (ks : List TokenKind) → Is x ks → IsReader (Next x) (NextIn x) AtToken (next x))
    → ((x : A) (ks : List TokenKind) → Is x ks → Begins (Next x) []) → Continues In next
    → IsReaderIf (λ ts. Room) (Then Is Next) (ThenBefore In NextIn) AtToken (in_turn read next)
turns_if Is In Next NextIn read next {Room} one two some goes_on =
    turns_room Room Is In Next NextIn read next one
    (λ x ks is. under (λ ts room. tt) (two x ks is)) some goes_on

-- and where anything may follow the first sentence
pub turns : {A B : Type 0} (Is Within : Grammar A) (Next : A → Grammar B)
    (NextIn : A → GrammarBefore B) (read : Reads A) (next : A → Reads B) {Room : Type 0}
    → IsReaderIf (λ ts. Room) Is (Anywhere Within) AtToken read
    → ((x : A) (ks : List TokenKind) → Is x ks → IsReader (Next x) (NextIn x) AtToken (next x))
    → ((x : A) (ks : List TokenKind) → Is x ks → Begins (Next x) [])
    → IsReaderIf (λ ts. Room) (Then Is Next) (ThenBefore (Anywhere Within) NextIn) AtToken
    (in_turn read next)
turns Is Within Next NextIn read next one two some =
    turns_if Is (Anywhere Within) Next NextIn read next one two some
    (λ x ks h is. inl (λ j. is))

-- ---- other words for the same language, and for the same refusals

module _ {A B : Type 0} (Is Is2 : Grammar A) (Where Where2 : Refusals)
    (to : (x : A) (ks : List TokenKind) → Is x ks → Is2 x ks)
    (place : (before : List Token) (t : Token) (r : Refusal) → Where before t r
    → Where2 before t r) where
  pub refused_as_well : (read : List Token → Result B Refusal) (ts : List Token) (r : Refusal)
      → RefusedAt Is Where read ts r → RefusedAt Is2 Where2 read ts r
  refused_as_well read ts r s = record {
    before = s.before;
    refused = s.refused;
    after = s.after;
    parts = s.parts;
    begins = (s.begins.0, s.begins.1, to s.begins.0 (kinds_of s.before ++ s.begins.1) s.begins.2);
    stands = s.stands;
    place = place s.before s.refused r s.place;
    cause = why_map _ _ _ _ _ _
        (λ k goes. (goes.0, goes.1, to goes.0 ((kinds_of s.before ++ (k ∷ [])) ++ goes.1) goes.2))
        (λ full. full) s.refused.kind r.why (λ j a stuck. stuck) s.cause;
  }

pub reworded : {A : Type 0} (Is Is2 : Grammar A) (In In2 : GrammarBefore A) (Where : Refusals)
    (read : Reads A) {Holds : List Token → Type 0} → IsReaderIf Holds Is In Where read
    → ((x : A) (ks : List TokenKind) → Is x ks → Is2 x ks)
    → ((x : A) (ks : List TokenKind) → Is2 x ks → has_last ks ≡ false)
    → ((x : A) (ks : List TokenKind) (h : Option TokenKind) → In x ks h → In2 x ks h)
    → ((x : A) (ks : List TokenKind) (h : Option TokenKind) → In2 x ks h → In x ks h)
    → IsReaderIf Holds Is2 In2 Where read
reworded {A} Is Is2 In In2 Where read one to unended within back = record {
  found = λ ts x rest e.
      let f = one.found ts x rest e in
      (f.0, within x (kinds_of f.0) (next_of rest) f.1, f.2);
  only = λ x prefix rest is. one.only x prefix rest (back x (kinds_of prefix) (next_of rest) is);
  wider = λ x ks h is. to x ks (one.wider x ks h (back x ks h is));
  alike = λ x ks k j a is. within x ks (Some j) (one.alike x ks k j a (back x ks (Some k) is));
  unended = unended;
  first = λ ts r h e holds. refused_as_well Is Is2 Where Where to (λ before t r p. p) read ts r
      (one.first ts r h e holds);
}

pub replaced : {A : Type 0} (Is : Grammar A) (In : GrammarBefore A) (Where Where2 : Refusals)
    (read : Reads A) {Holds : List Token → Type 0} → IsReaderIf Holds Is In Where read
    → ((before : List Token) (t : Token) (r : Refusal) → Where before t r → Where2 before t r)
    → IsReaderIf Holds Is In Where2 read
replaced Is In Where Where2 read one place = record {
  found = one.found;
  only = one.only;
  wider = one.wider;
  alike = one.alike;
  unended = one.unended;
  first = λ ts r h e holds. refused_as_well Is Is Where Where2 (λ x ks is. is) place read ts r
      (one.first ts r h e holds);
}

-- ---- the law on first places

module _ {A B : Type 0} (Within : Grammar A) (read : List Token → Result B Refusal)
    (barred : (before : List Token) → ((other : List Token) → Refuses read (before ++ other))
    → Begins Within (kinds_of before) → ⊥) where
  -- where a token of a kind is refused whatever follows, nothing goes on with that kind
  pub barred_with : (before : List Token) (j : TokenKind)
      → ((u : Token) (other : List Token) → u.kind ≡ j → Refuses read (before ++ (u ∷ other)))
      → Begins Within (kinds_of before ++ (j ∷ [])) → ⊥
  barred_with before j refuses begun =
      let u : Token = record { at = 0; kind = j } in
      barred (before ++ (u ∷ []))
      (λ other. subst (λ (z : List Token). Refuses read z)
      (sym (append_assoc before (u ∷ []) other)) (refuses u other refl))
      (subst (λ (z : List TokenKind). Begins Within z) (sym (kinds-append before (u ∷ []))) begun)

  -- and nothing goes on with a token that is refused
  pub barred_at : (r : Refusal) (before : List Token) (refused : Token)
      → ((other : List Token) → read (before ++ (refused ∷ other)) ≡ Err r)
      → Begins Within (kinds_of (before ++ (refused ∷ []))) → ⊥
  barred_at r before refused stands =
      barred (before ++ (refused ∷ []))
      (λ other. (
        r,
        ap (λ (z : List Token). read z) (append_assoc before (refused ∷ []) other)
            ∙ stands other,
      ))

  pub first_place : (Is : Grammar A) (Where Where2 : Refusals)
      → ((before : List Token) (t : Token) (r : Refusal) → Where before t r → Where2 before t r)
      → (ts : List Token) (r : Refusal) → RefusedAt Is Where read ts r
      → FirstPlace Is Within Where2 read ts r
  first_place Is Where Where2 place ts r s = record {
    before = s.before;
    refused = s.refused;
    after = s.after;
    parts = s.parts;
    begins = s.begins;
    ends = barred_at r s.before s.refused s.stands;
    stands = s.stands;
    place = place s.before s.refused r s.place;
    cause = why_map _ _ _ _ _ _ (λ k on. on) (λ full. barred s.before full) s.refused.kind r.why
        (λ j a stuck. barred_with s.before j stuck) s.cause;
  }
