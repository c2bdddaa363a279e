-- Readers of one token or of none, and tails that the next token decides.
use Rattle.std.proofs.Common.{◌≡◌, ℕ, Bool, true, false, ◌||◌, List, [], ◌∷◌, ◌++◌, Option, Some}
use Rattle.std.proofs.Common.{None, Result, Ok, Err, refl, sym, ap, subst, ◌∙◌, ◌⊎◌, inl, inr}
use Rattle.std.proofs.lemmas.List.{append-nil}
use Rattle.pipes_token.specs.declared.refusal.Refusal.{Refusal}
use Rattle.pipes_token.specs.declared.token.TokenKind.{TokenKind}
use Rattle.pipes_token.specs.declared.token.TokenKind.TheVariants.{Long, Cut, Byte, End}
use Rattle.pipes_token.specs.declared.token.Token.{Token}
use Rattle.pipes_token.specs.Tokens.{is_last}
use Rattle.pipes_token.specs.declared.refusal.TextWhy.TheVariants as why
use Rattle.pipes_reader.specs.Reading.{Reads, kinds_of, refusal, refused_by, run_out, refused_as}
use Rattle.pipes_reader.specs.Reading.{too_many, done_with, taken_or, take_by, in_turn, taken_if}
use Rattle.pipes_reader.specs.Reading.{optional, tail_of, with_tail, barred, unless}
use Rattle.pipes_reader.specs.Sentences.{Grammar, GrammarBefore, Anywhere, Begins, next_of, ahead}
use Rattle.pipes_reader.specs.Sentences.{Prefix, has_last}
use Rattle.pipes_reader.specs.Causes.{AreAlike, IsLimit, IsTextWhy, own, over_limit}
use Rattle.pipes_reader.specs.Places.{Refusals, AtToken, there, inside}
use Rattle.pipes_reader.proofs.Causes.{why_map, Refuses, CauseOf, HasValue, NoValue, LeafWhy}
use Rattle.pipes_reader.proofs.Causes.{IsSteady, steady_why}
use Rattle.pipes_reader.proofs.TokenLists.{uncons, none, next-append, next-same}
use Rattle.pipes_reader.proofs.Readers.{IsReader, IsReaderIf, under, RefusedAt, Then, both}
use Rattle.pipes_reader.proofs.Readers.{ThenBefore, turn, IsFree, turns_room}
use Rattle.pipes_reader.proofs.Readers.{ReadsSome, turns_if, reworded}

abbrev well : {A : Type 0} → A × List Token → Result (A × List Token) Refusal
well p = Ok p

ok_is : {A : Type 0} (p q : A × List Token) → well p ≡ well q → p ≡ q
ok_is p q e = cc

-- ---- a value with no token

pub data Pure {A : Type 0} (x : A) : A → List TokenKind → Type 0 where
  pure : Pure x x []

pub none_by : {A : Type 0} (Where : Refusals) (x : A)
    → IsReader (Pure x) (Anywhere (Pure x)) Where (done_with x)
none_by {A} Where x = record {
  found = λ ts y rest e. found ts y rest e;
  only = λ y prefix rest is. only y (kinds_of prefix) is prefix rest refl;
  wider = λ y ks h is. is;
  alike = λ y ks k j a is. is;
  unended = unended;
  first = λ ts r h e u. absurd (differ ts r e);
}
  where
    differ : (ts : List Token) (r : Refusal) → done_with x ts ≡ Err r → ⊥
    differ ts r e = cc

    unended : (y : A) (ks : List TokenKind) → Pure x y ks → has_last ks ≡ false
    unended _ _ pure = refl

    found : (ts : List Token) (y : A) (rest : List Token) → done_with x ts ≡ Ok (y, rest)
        → Prefix (Anywhere (Pure x)) y ts rest
    found ts y rest e =
        let pair = ok_is (x, ts) (y, rest) e in
        let same : x ≡ y = ap (λ (p : A × List Token). p.0) pair in
        let left : ts ≡ rest = ap (λ (p : A × List Token). p.1) pair in
        ([], subst (λ (z : A). Pure x z []) same pure, left)

    only : (y : A) (ks : List TokenKind) → Pure x y ks → (prefix rest : List Token)
        → ks ≡ kinds_of prefix
        → done_with x (prefix ++ rest) ≡ Ok (y, rest)
    only _ _ pure prefix rest e = rw (none prefix e) refl

pub reads_none : {A : Type 0} (x : A) → IsReader (Pure x) (Anywhere (Pure x)) AtToken (done_with x)
reads_none x = none_by AtToken x

-- ---- one token

pub data One {A : Type 0} (value : TokenKind → Option A) : A → List TokenKind → Type 0 where
  one : (k : TokenKind) (x : A) → value k ≡ Some x → One value x (k ∷ [])

-- the last token of a text has no value
abbrev pub NotLast : {A : Type 0} → (TokenKind → Option A) → Type 0
NotLast {A} value = (k : TokenKind) (x : A) → value k ≡ Some x → is_last k ≡ false

-- what a refusal of a token without a value says
abbrev pub Refusing : {A : Type 0} → Refusals → (TokenKind → Option A)
    → (TokenKind → ℕ → Refusal) → Type 0
Refusing Where value refused = (t : Token) → value t.kind ≡ None → Where [] t (refused t.kind t.at)

-- a refusal's cause is the grammar's
abbrev pub HasCauses : {A : Type 0} → (TokenKind → Option A) → (TokenKind → ℕ → Refusal) → Type 0
HasCauses value refused = (k : TokenKind) (at : ℕ) → NoValue value k
    → LeafWhy value k (refused k at).why

pub plain_causes : {A : Type 0} (value : TokenKind → Option A) → IsSteady value
    → HasCauses value refused_by
plain_causes value steady k at is = steady_why value steady k at is

pub one_unended : {A : Type 0} (value : TokenKind → Option A) → NotLast value → (x : A)
    (ks : List TokenKind) → One value x ks → has_last ks ≡ false
one_unended value last _ _ (one k x is) = ap (λ (b : Bool). b || false) (last k x is)

-- the causes are the grammar's where there is room
pub one_by : {A : Type 0} (Room : Type 0) (Where : Refusals) (value : TokenKind → Option A)
    (refused : TokenKind → ℕ → Refusal) → Begins (One value) [] → NotLast value
    → Refusing Where value refused → (Room → HasCauses value refused)
    → IsReaderIf (λ ts. Room) (One value) (Anywhere (One value)) Where (take_by value refused)
unfolding take_by
one_by {A} Room Where value refused some last placed causes = record {
  found = found;
  only = λ x prefix rest is. only x (kinds_of prefix) is prefix rest refl;
  wider = λ x ks h is. is;
  alike = λ x ks k j a is. is;
  unended = one_unended value last;
  first = λ ts r h e room. first room ts r h e;
}
  where
    found_by : (t : Token) (ts : List Token) (o : Option A) (x : A) (rest : List Token)
        → value t.kind ≡ o → taken_or o (refused t.kind t.at) ts ≡ Ok (x, rest)
        → Prefix (Anywhere (One value)) x (t ∷ ts) rest
    found_by t ts (Some y) x rest is e =
        let pair = ok_is (y, ts) (x, rest) e in
        let same : y ≡ x = ap (λ (p : A × List Token). p.0) pair in
        let left : ts ≡ rest = ap (λ (p : A × List Token). p.1) pair in (
          t ∷ [],
          one t.kind x (is ∙ ap (λ (z : A). Some z) same),
          ap (λ (z : List Token). t ∷ z) left,
        )
    found_by t ts None x rest is e = absurd cc

    found : (ts : List Token) (x : A) (rest : List Token) → take_by value refused ts ≡ Ok (x, rest)
        → Prefix (Anywhere (One value)) x ts rest
    found [] x rest e = absurd cc
    found (t ∷ ts) x rest e = found_by t ts (value t.kind) x rest refl e

    only : (x : A) (ks : List TokenKind) → One value x ks → (prefix rest : List Token)
        → ks ≡ kinds_of prefix → take_by value refused (prefix ++ rest) ≡ Ok (x, rest)
    only _ _ (one k x is) prefix rest e =
        let c = uncons k [] prefix e in
        let nothing = none c.tail c.tail_kinds in
        rw (c.parts, nothing, c.head_kind, is) refl

    begun : (k : TokenKind) → HasValue value k → Begins (One value) (k ∷ [])
    begun k (x, e) = (x, [], one k x e)

    refuses : (u : Token) (other : List Token) → value u.kind ≡ None
        → Refuses (take_by value refused) (u ∷ other)
    refuses u other e = (refused u.kind u.at, rw e refl)

    first_by : Room → (t : Token) (ts : List Token) (o : Option A) (r : Refusal)
        → value t.kind ≡ o → taken_or o (refused t.kind t.at) ts ≡ Err r
        → RefusedAt (One value) Where (take_by value refused) (t ∷ ts) r
    first_by room t ts (Some y) r is e = absurd cc
    first_by room t ts None r is e =
        let same : refused t.kind t.at ≡ r = cc in
        record {
          before = [];
          refused = t;
          after = ts;
          parts = refl;
          begins = some;
          stands = λ other. rw is (ap (λ (z : Refusal). Err z) same);
          place = subst (λ (z : Refusal). Where [] t z) same (placed t is);
          cause = subst (λ (z : Refusal). CauseOf (One value) (take_by value refused) [] t.kind
              z.why)
              same
              (why_map _ _ _ _ _ _ begun (λ no. absurd no) t.kind (refused t.kind t.at).why
              (λ j a e u other f. refuses u other (ap value f ∙ e))
              (causes room t.kind t.at is));
        }

    first : Room → (ts : List Token) (r : Refusal) → has_last (kinds_of ts) ≡ true
        → take_by value refused ts ≡ Err r
        → RefusedAt (One value) Where (take_by value refused) ts r
    first room [] r h e = absurd cc
    first room (t ∷ ts) r h e = first_by room t ts (value t.kind) r refl e

-- a token without a value is refused at its place, or inside it
abbrev pub Placed : {A : Type 0} → (TokenKind → Option A) → (TokenKind → ℕ → Refusal) → Type 0
Placed value refused = (k : TokenKind) (at : ℕ) → value k ≡ None
    → ((refused k at).at ≡ at) ⊎ (k ≡ Cut (refused k at))

pub placed_at : (t : Token) (r : Refusal) → (r.at ≡ t.at) ⊎ (t.kind ≡ Cut r) → AtToken [] t r
placed_at t r (inl h) = there h
placed_at t r (inr h) = inside h

pub reads_one_if : {A : Type 0} (Room : Type 0) (value : TokenKind → Option A)
    (refused : TokenKind → ℕ → Refusal) → Begins (One value) [] → NotLast value
    → Placed value refused → (Room → HasCauses value refused)
    → IsReaderIf (λ ts. Room) (One value) (Anywhere (One value)) AtToken (take_by value refused)
reads_one_if Room value refused some last placed causes =
    one_by Room AtToken value refused some last
    (λ t is. placed_at t (refused t.kind t.at) (placed t.kind t.at is)) causes

pub reads_one : {A : Type 0} (value : TokenKind → Option A) (refused : TokenKind → ℕ → Refusal)
    → Begins (One value) [] → NotLast value → Placed value refused → HasCauses value refused
    → IsReader (One value) (Anywhere (One value)) AtToken (take_by value refused)
reads_one value refused some last placed causes =
    reads_one_if (Unit {0}) value refused some last placed (λ u. causes)

-- a token that the grammar doesn't allow is refused at its place
pub refused_place : (k : TokenKind) (at : ℕ) → (refused_by k at).at ≡ at
refused_place Long at = refl
refused_place Byte at = refl
refused_place End at = refl
refused_place _ at = refl

pub plainly : {A : Type 0} (value : TokenKind → Option A) → Placed value refused_by
plainly value k at is = inl (refused_place k at)

-- one token, where others are refused as such
pub reads_plain : {A : Type 0} (value : TokenKind → Option A) → Begins (One value) []
    → NotLast value → IsSteady value
    → IsReader (One value) (Anywhere (One value)) AtToken (take_by value refused_by)
reads_plain value some last steady =
    reads_one value refused_by some last (plainly value) (plain_causes value steady)

-- ---- a value made of the one that is read

pub data Mapped {A B : Type 0} (f : A → B) (Is : Grammar A) : B → List TokenKind → Type 0 where
  mapped : (x : A) (ks : List TokenKind) → Is x ks → Mapped f Is (f x) ks

pub data MappedBefore {A B : Type 0} (f : A → B) (In : GrammarBefore A)
    : B → List TokenKind → Option TokenKind → Type 0 where
  mapped_before : (x : A) (ks : List TokenKind) (h : Option TokenKind) → In x ks h
      → MappedBefore f In (f x) ks h

module _ {A B : Type 0} (f : A → B) (Is : Grammar A) (In : GrammarBefore A) (Where : Refusals)
    (read : Reads A) {Holds : List Token → Type 0}
    (reads : IsReaderIf Holds Is In Where read)
    (turned : IsReaderIf Holds (Then Is (λ x. Pure (f x)))
    (ThenBefore In (λ x. Anywhere (Pure (f x)))) Where
    (in_turn read (λ x. done_with (f x)))) where
  to_by : (x : A) (y : B) (ks ls : List TokenKind) → Is x ks → Pure (f x) y ls
      → Mapped f Is y (ks ++ ls)
  to_by x _ ks _ is pure =
      subst (λ (z : List TokenKind). Mapped f Is (f x) z) (sym (append-nil ks)) (mapped x ks is)

  to : (y : B) (ks : List TokenKind) → Then Is (λ x. Pure (f x)) y ks → Mapped f Is y ks
  to _ _ (both x y ks ls is rest) = to_by x y ks ls is rest

  unended : (y : B) (ks : List TokenKind) → Mapped f Is y ks → has_last ks ≡ false
  unended _ _ (mapped x ks is) = reads.unended x ks is

  within_by : (x : A) (y : B) (ks ls : List TokenKind) (h : Option TokenKind) → In x ks (ahead ls h)
      → Pure (f x) y ls → MappedBefore f In y (ks ++ ls) h
  within_by x _ ks _ h is pure =
      subst (λ (z : List TokenKind). MappedBefore f In (f x) z h) (sym (append-nil ks))
      (mapped_before x ks h is)

  within : (y : B) (ks : List TokenKind) (h : Option TokenKind)
      → ThenBefore In (λ x. Anywhere (Pure (f x))) y ks h → MappedBefore f In y ks h
  within _ _ _ (turn x y ks ls h is rest) = within_by x y ks ls h is rest

  back : (y : B) (ks : List TokenKind) (h : Option TokenKind) → MappedBefore f In y ks h
      → ThenBefore In (λ x. Anywhere (Pure (f x))) y ks h
  back _ _ _ (mapped_before x ks h is) =
      subst (λ (z : List TokenKind). ThenBefore In (λ x. Anywhere (Pure (f x))) (f x) z h)
      (append-nil ks)
      (turn x (f x) ks [] h is pure)

  pub mapped_by : IsReaderIf Holds (Mapped f Is) (MappedBefore f In) Where
      (in_turn read (λ x. done_with (f x)))
  mapped_by =
      reworded (Then Is (λ x. Pure (f x))) (Mapped f Is)
      (ThenBefore In (λ x. Anywhere (Pure (f x))))
      (MappedBefore f In) Where (in_turn read (λ x. done_with (f x))) turned to unended within back

pub reads_mapped : {A B : Type 0} (f : A → B) (Is : Grammar A) (In : GrammarBefore A)
    (read : Reads A) {Room : Type 0}
    → IsReaderIf (λ ts. Room) Is In AtToken read
    → IsReaderIf (λ ts. Room) (Mapped f Is) (MappedBefore f In) AtToken
    (in_turn read (λ x. done_with (f x)))
reads_mapped f Is In read reads =
    mapped_by f Is In AtToken read reads
    (turns_if Is In (λ x. Pure (f x)) (λ x. Anywhere (Pure (f x))) read (λ x. done_with (f x))
    reads (λ x ks is. reads_none (f x)) (λ x ks is. (f x, [], pure))
    (λ x ks h is. inr ([], f x, [], refl)))

-- ---- a token or none, as the next one decides

-- no token of a value comes next
abbrev pub NotNext : {A : Type 0} → (TokenKind → Option A) → Option TokenKind → Type 0
NotNext value None = Unit {0}
NotNext value (Some k) = value k ≡ None

pub data Optional {A : Type 0} (value : TokenKind → Option A) : Option A → List TokenKind
    → Type 0 where
  given : (k : TokenKind) (x : A) → value k ≡ Some x → Optional value (Some x) (k ∷ [])
  absent : Optional value None []

-- none only where the next token has no value
pub data OptionalBefore {A : Type 0} (value : TokenKind → Option A)
    : Option A → List TokenKind → Option TokenKind → Type 0 where
  given_before : (k : TokenKind) (x : A) (h : Option TokenKind) → value k ≡ Some x
      → OptionalBefore value (Some x) (k ∷ []) h
  absent_before : (h : Option TokenKind) → NotNext value h → OptionalBefore value None [] h

pub optional_by : {A : Type 0} (Where : Refusals) (value : TokenKind → Option A) → NotLast value
    → IsSteady value → IsReader (Optional value) (OptionalBefore value) Where (optional value)
unfolding optional
optional_by {A} Where value last steady = record {
  found = found;
  only = λ x prefix rest is. only x (kinds_of prefix) (next_of rest) is prefix rest refl refl;
  wider = wider;
  alike = λ x ks k j a is. alike x ks (Some k) is k j a refl;
  unended = unended;
  first = λ ts r h e u. absurd (never ts r e);
}
  where
    nothing_by : (ts : List Token) (x : Option A) (rest : List Token) → NotNext value (next_of ts)
        → done_with None ts ≡ Ok (x, rest) → Prefix (OptionalBefore value) x ts rest
    nothing_by ts x rest is e =
        let pair = ok_is (None, ts) (x, rest) e in
        let same : None ≡ x = ap (λ (p : Option A × List Token). p.0) pair in
        let left : ts ≡ rest = ap (λ (p : Option A × List Token). p.1) pair in
        let next = subst (λ (z : List Token). NotNext value (next_of z)) left is in (
          [],
          subst (λ (z : Option A). OptionalBefore value z [] (next_of rest)) same
              (absent_before (next_of rest) next),
          left,
        )

    found_by : (t : Token) (ts : List Token) (o : Option A) (x : Option A) (rest : List Token)
        → value t.kind ≡ o → taken_if o t ts ≡ Ok (x, rest)
        → Prefix (OptionalBefore value) x (t ∷ ts) rest
    found_by t ts (Some y) x rest is e =
        let pair = ok_is (Some y, ts) (x, rest) e in
        let same : Some y ≡ x = ap (λ (p : Option A × List Token). p.0) pair in
        let left : ts ≡ rest = ap (λ (p : Option A × List Token). p.1) pair in (
          t ∷ [],
          subst (λ (z : Option A). OptionalBefore value z (t.kind ∷ []) (next_of rest)) same
              (given_before t.kind y (next_of rest) is),
          ap (λ (z : List Token). t ∷ z) left,
        )
    found_by t ts None x rest is e = nothing_by (t ∷ ts) x rest is e

    found : (ts : List Token) (x : Option A) (rest : List Token) → optional value ts ≡ Ok (x, rest)
        → Prefix (OptionalBefore value) x ts rest
    found [] x rest e = nothing_by [] x rest tt e
    found (t ∷ ts) x rest e = found_by t ts (value t.kind) x rest refl e

    left_as_is : (h : Option TokenKind) → NotNext value h → (rest : List Token) → h ≡ next_of rest
        → optional value rest ≡ Ok (None, rest)
    left_as_is h is [] e = refl
    left_as_is h is (t ∷ ts) e = rw (subst (λ (z : Option TokenKind). NotNext value z) e is) refl

    only : (x : Option A) (ks : List TokenKind) (h : Option TokenKind) → OptionalBefore value x ks h
        → (prefix rest : List Token) → ks ≡ kinds_of prefix → h ≡ next_of rest
        → optional value (prefix ++ rest) ≡ Ok (x, rest)
    only _ _ _ (given_before k x h is) prefix rest e f =
        let c = uncons k [] prefix e in
        let nothing = none c.tail c.tail_kinds in
        rw (c.parts, nothing, c.head_kind, is) refl
    only _ _ _ (absent_before h is) prefix rest e f = rw (none prefix e) (left_as_is h is rest f)

    wider : (x : Option A) (ks : List TokenKind) (h : Option TokenKind)
        → OptionalBefore value x ks h
        → Optional value x ks
    wider _ _ _ (given_before k x h is) = given k x is
    wider _ _ _ (absent_before h is) = absent

    alike : (x : Option A) (ks : List TokenKind) (h : Option TokenKind)
        → OptionalBefore value x ks h → (k j : TokenKind) → AreAlike k j → h ≡ Some k
        → OptionalBefore value x ks (Some j)
    alike _ _ _ (given_before l x h is) k j a e = given_before l x (Some j) is
    alike _ _ _ (absent_before h is) k j a e =
        absent_before (Some j)
        (steady k j a (subst (λ (z : Option TokenKind). NotNext value z) e is))

    unended : (x : Option A) (ks : List TokenKind) → Optional value x ks → has_last ks ≡ false
    unended _ _ (given k x is) = ap (λ (b : Bool). b || false) (last k x is)
    unended _ _ absent = refl

    never_by : (t : Token) (ts : List Token) (o : Option A) (r : Refusal) → taken_if o t ts ≡ Err r
        → ⊥
    never_by t ts (Some x) r e = cc
    never_by t ts None r e = cc

    never : (ts : List Token) (r : Refusal) → optional value ts ≡ Err r → ⊥
    never [] r e = cc
    never (t ∷ ts) r e = never_by t ts (value t.kind) r e

-- ---- a tail that the next token begins, or a value

abbrev pub TailIs : {A B : Type 0} → (A → Grammar B) → B → Option A → Grammar B
TailIs Tail v (Some x) = Tail x
TailIs Tail v None = Pure v

abbrev pub TailBefore : {A B : Type 0} → (A → GrammarBefore B) → B → Option A → GrammarBefore B
TailBefore Tail v (Some x) = Tail x
TailBefore Tail v None = Anywhere (Pure v)

module _ {A B : Type 0} (value : TokenKind → Option A) (Tail : A → Grammar B)
    (In : A → GrammarBefore B)
    (tail : A → Reads B) (v : B) {Room : Type 0} (last : NotLast value) (steady : IsSteady value)
    (reads : (x : A) → IsReaderIf (λ ts. Room) (Tail x) (In x) AtToken (tail x))
    (some : (x : A) → Begins (Tail x) []) where
  two : (o : Option A)
      → IsReaderIf (λ ts. Room) (TailIs Tail v o) (TailBefore In v o) AtToken (tail_of tail v o)
  two (Some x) = reads x
  two None = under (λ ts room. tt) (reads_none v)

  some_tail : (o : Option A) → Begins (TailIs Tail v o) []
  some_tail (Some x) = some x
  some_tail None = (v, [], pure)

  goes_on : (o : Option A) (ks : List TokenKind) (h : Option TokenKind)
      → OptionalBefore value o ks h
      → IsFree (OptionalBefore value) o ks ⊎ ReadsSome (tail_of tail v o)
  goes_on _ _ _ (given_before k x h is) = inl (λ j. given_before k x j is)
  goes_on _ _ _ (absent_before h is) = inr ([], v, [], refl)

  pub reads_tail : IsReaderIf (λ ts. Room) (Then (Optional value) (TailIs Tail v))
      (ThenBefore (OptionalBefore value) (TailBefore In v)) AtToken (with_tail value tail v)
  reads_tail =
      turns_room Room (Optional value) (OptionalBefore value) (TailIs Tail v) (TailBefore In v)
      (optional value) (tail_of tail v)
      (under (λ ts room. tt) (optional_by AtToken value last steady)) (λ o ks is. two o)
      (λ o ks is. some_tail o) goes_on

-- ---- a reader that no token of a value may come first of

-- no sentence that begins with a token of a value
abbrev pub Guarded : {A B : Type 0} → (TokenKind → Option A) → GrammarBefore B → GrammarBefore B
Guarded value In x ks h = In x ks h × NotNext value (ahead ks h)

module _ {A B : Type 0} (Is : Grammar B) (In : GrammarBefore B) (Where : Refusals)
    (value : TokenKind → Option A) (refused : TokenKind → ℕ → Refusal) (next : Reads B)
    {Holds : List Token → Type 0} (reads : IsReaderIf Holds Is In Where next)
    (steady : IsSteady value) (some : Begins Is [])
    (placed : (t : Token) (x : A) → value t.kind ≡ Some x → Where [] t (refused t.kind t.at))
    (limits : (k : TokenKind) (at : ℕ) (x : A) → value k ≡ Some x
    → IsLimit (refused k at).why × Begins Is (k ∷ [])) where
  abbrev passed : Reads (Unit {0})
  passed = unless value refused tt

  abbrev pub guarded : Reads B
  guarded = in_turn passed (λ done. next)

  free : (ts : List Token) → NotNext value (next_of ts) → guarded ts ≡ next ts
  unfolding unless
  free [] is = refl
  free (t ∷ ts) is = rw is refl

  bars : (t : Token) (ts : List Token) (x : A) → value t.kind ≡ Some x
      → guarded (t ∷ ts) ≡ Err (refused t.kind t.at)
  unfolding unless
  bars t ts x is = rw is refl

  refuses_too : (us : List Token) → Refuses next us → Refuses guarded us
  refuses_too [] (r, e) = (r, free [] tt ∙ e)
  refuses_too (u ∷ us) (r, e) = by (value u.kind) refl
    where
      by : (o : Option A) → value u.kind ≡ o → Refuses guarded (u ∷ us)
      by (Some x) is = (refused u.kind u.at, bars u us x is)
      by None is = (r, free (u ∷ us) is ∙ e)

  found_free : (ts : List Token) (x : B) (rest : List Token) → NotNext value (next_of ts)
      → guarded ts ≡ Ok (x, rest) → Prefix (Guarded value In) x ts rest
  found_free ts x rest is e =
      let f = reads.found ts x rest (sym (free ts is) ∙ e) in
      let same : next_of ts ≡ ahead (kinds_of f.0) (next_of rest) =
      ap (λ (z : List Token). next_of z) f.2 ∙ next-append f.0 rest in
      (f.0, (f.1, subst (λ (h : Option TokenKind). NotNext value h) same is), f.2)

  guarded_found : (ts : List Token) (x : B) (rest : List Token) → guarded ts ≡ Ok (x, rest)
      → Prefix (Guarded value In) x ts rest
  guarded_found [] x rest e = found_free [] x rest tt e
  guarded_found (t ∷ ts) x rest e = by (value t.kind) refl
    where
      differ : (r : Refusal) → guarded (t ∷ ts) ≡ Err r → ⊥
      differ r f = cc

      by : (o : Option A) → value t.kind ≡ o → Prefix (Guarded value In) x (t ∷ ts) rest
      by (Some y) is = absurd (differ (refused t.kind t.at) (bars t ts y is))
      by None is = found_free (t ∷ ts) x rest is e

  guarded_only : (x : B) (prefix rest : List Token)
      → Guarded value In x (kinds_of prefix) (next_of rest) → guarded (prefix ++ rest) ≡ Ok
      (x, rest)
  guarded_only x prefix rest (is, next_is) =
      free (prefix ++ rest)
      (subst (λ (h : Option TokenKind). NotNext value h) (sym (next-append prefix rest)) next_is)
      ∙ reads.only x prefix rest is

  guarded_alike : (x : B) (ks : List TokenKind) (k j : TokenKind) → AreAlike k j
      → Guarded value In x ks (Some k) → Guarded value In x ks (Some j)
  guarded_alike x [] k j a (is, next_is) = (reads.alike x [] k j a is, steady k j a next_is)
  guarded_alike x (l ∷ ls) k j a (is, next_is) = (reads.alike x (l ∷ ls) k j a is, next_is)

  -- where the first token is none of a value's
  first_free : (ts : List Token) (r : Refusal) → NotNext value (next_of ts)
      → RefusedAt Is Where next ts r → RefusedAt Is Where guarded ts r
  first_free ts r is s = record {
    before = s.before;
    refused = s.refused;
    after = s.after;
    parts = s.parts;
    begins = s.begins;
    stands = λ other. free (s.before ++ (s.refused ∷ other)) (still other) ∙ s.stands other;
    place = s.place;
    cause = why_map _ _ _ _ _ _ (λ k goes. goes)
        (λ full other. refuses_too (s.before ++ other) (full other)) s.refused.kind r.why
        (λ j a stuck u other e. refuses_too (s.before ++ (u ∷ other)) (stuck u other e)) s.cause;
  }
    where
      still : (other : List Token) → NotNext value (next_of (s.before ++ (s.refused ∷ other)))
      still other =
          subst (λ (h : Option TokenKind). NotNext value h)
          (ap (λ (z : List Token). next_of z) s.parts
          ∙ next-same s.before s.refused s.after other) is

  guarded_first : (ts : List Token) (r : Refusal) → has_last (kinds_of ts) ≡ true
      → guarded ts ≡ Err r → Holds ts → RefusedAt Is Where guarded ts r
  guarded_first [] r h e holds = absurd (no h)
    where
      no : false ≡ true → ⊥
      no f = cc
  guarded_first (t ∷ ts) r h e holds = by (value t.kind) refl
    where
      by : (o : Option A) → value t.kind ≡ o → RefusedAt Is Where guarded (t ∷ ts) r
      by None is =
          first_free (t ∷ ts) r is
          (reads.first (t ∷ ts) r h (sym (free (t ∷ ts) is) ∙ e) holds)
      by (Some x) is =
          let same : refused t.kind t.at ≡ r = refused_is (sym (bars t ts x is) ∙ e) in
          let l = limits t.kind t.at x is in
          record {
            before = [];
            refused = t;
            after = ts;
            parts = refl;
            begins = some;
            stands = λ other. bars t other x is ∙ ap (λ (z : Refusal). refusing z) same;
            place = subst (λ (z : Refusal). Where [] t z) same (placed t x is);
            cause = subst (λ (z : Refusal). CauseOf Is guarded [] t.kind z.why) same
                (over_limit t.kind (refused t.kind t.at).why l.0 (inl l.1));
          }
        where
          refusing : Refusal → Result (B × List Token) Refusal
          refusing z = Err z

          refused_is : {y z : Refusal} → refusing y ≡ refusing z → y ≡ z
          refused_is f = cc

  pub guarded_by : IsReaderIf Holds Is (Guarded value In) Where guarded
  guarded_by = record {
    found = guarded_found;
    only = guarded_only;
    wider = λ x ks h is. reads.wider x ks h is.0;
    alike = guarded_alike;
    unended = reads.unended;
    first = guarded_first;
  }

-- ---- a reader that refuses whatever comes

-- no sentence
abbrev pub Nothing : {A : Type 0} → GrammarBefore A
Nothing x ks h = ⊥

abbrev failed : {A : Type 0} → Refusal → Result (A × List Token) Refusal
failed r = Err r

pub reads_never : {A : Type 0} (Is : Grammar A) → Begins Is []
    → ((x : A) (ks : List TokenKind) → Is x ks → has_last ks ≡ false)
    → (refused : TokenKind → ℕ → Refusal) → ((k : TokenKind) (at : ℕ) → (refused k at).at ≡ at)
    → ((k : TokenKind) (at : ℕ) → IsTextWhy (λ j. Begins Is (j ∷ [])) (Unit {0}) (λ j. Unit {0}) k
    (refused k at).why)
    → (read : Reads A) → read [] ≡ Err run_out
    → ((t : Token) (ts : List Token) → read (t ∷ ts) ≡ Err (refused t.kind t.at))
    → IsReader Is Nothing AtToken read
reads_never {A} Is some ended refused placed causes read at_end refuses = record {
  found = found;
  only = λ x prefix rest is. absurd is;
  wider = λ x ks h is. absurd is;
  alike = λ x ks k j a is. absurd is;
  unended = ended;
  first = λ ts r h e u. first ts r h e;
}
  where
    differ : (r : Refusal) (x : A) (rest : List Token) → failed {A = A} r ≡ well (x, rest) → ⊥
    differ r x rest e = cc

    all : (ts : List Token) → Refuses read ts
    all [] = (run_out, at_end)
    all (t ∷ ts) = (refused t.kind t.at, refuses t ts)

    found : (ts : List Token) (x : A) (rest : List Token) → read ts ≡ Ok (x, rest)
        → Prefix Nothing x ts rest
    found [] x rest e = absurd (differ run_out x rest (sym at_end ∙ e))
    found (t ∷ ts) x rest e = absurd (differ (refused t.kind t.at) x rest (sym (refuses t ts) ∙ e))

    first : (ts : List Token) (r : Refusal) → has_last (kinds_of ts) ≡ true → read ts ≡ Err r
        → RefusedAt Is AtToken read ts r
    first [] r h e = absurd cc
    first (t ∷ ts) r h e =
        let same : refused t.kind t.at ≡ r = failed_is (sym (refuses t ts) ∙ e) in
        record {
          before = [];
          refused = t;
          after = ts;
          parts = refl;
          begins = some;
          stands = λ other. refuses t other ∙ ap (λ (z : Refusal). failed {A = A} z) same;
          place = there (ap (λ (z : Refusal). z.at) (sym same) ∙ placed t.kind t.at);
          cause = subst (λ (z : Refusal). CauseOf Is read [] t.kind z.why) same
              (why_map _ _ _ _ _ _ (λ k goes. goes) (λ full. all) t.kind
              (refused t.kind t.at).why (λ j a stuck u other e. all (u ∷ other))
              (causes t.kind t.at));
        }
      where
        failed_is : {x y : Refusal} → failed {A = A} x ≡ failed {A = A} y → x ≡ y
        failed_is e = cc

-- ---- an entry that is one too many

abbrev many_refused : TokenKind → ℕ → Refusal
many_refused k at = refused_as (refusal at why.Many) k at

many_place : (k : TokenKind) (at : ℕ) → (many_refused k at).at ≡ at
many_place Byte at = refl
many_place End at = refl
many_place _ at = refl

pub limit_causes : (G S : TokenKind → Type 0) (r : Refusal) → IsLimit r.why → (k : TokenKind)
    (at : ℕ) → IsTextWhy G (Unit {0}) S k (refused_as r k at).why
limit_causes G S r is Byte at = own Byte _ refl
limit_causes G S r is End at = own End _ refl
limit_causes G S r is k at = over_limit k r.why is (inr tt)

pub reads_too_many : {A : Type 0} (Is : Grammar A) → Begins Is []
    → ((x : A) (ks : List TokenKind) → Is x ks → has_last ks ≡ false) → (read : Reads A)
    → ((ts : List Token) → read ts ≡ Err (too_many ts)) → IsReader Is Nothing AtToken read
unfolding too_many
reads_too_many Is some ended read refuses =
    reads_never Is some ended many_refused many_place
    (λ k at. limit_causes _ _ (refusal at why.Many) tt k at) read (refuses [])
    (λ t ts. refuses (t ∷ ts))
