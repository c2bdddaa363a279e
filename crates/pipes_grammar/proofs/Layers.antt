-- Readers that go by the kind of the first token.
use Rattle.std.proofs.Common.{◌≡◌, ℕ, Bool, true, false, cond, Option, List, [], ◌∷◌, ◌++◌, Result}
use Rattle.std.proofs.Common.{Ok, Err, refl, sym, ap, subst, ◌∙◌, ◌⊎◌, inl, inr}
use Rattle.pipes_token.specs.declared.refusal.Refusal.{Refusal}
use Rattle.pipes_token.specs.declared.token.Sign.{Sign as ASign}
use Rattle.pipes_token.specs.declared.token.TokenKind.{TokenKind}
use Rattle.pipes_token.specs.declared.token.TokenKind.TheVariants.{Sign, Keyword, Name, Number}
use Rattle.pipes_token.specs.declared.token.TokenKind.TheVariants.{Text, Long, Cut, Byte, End}
use Rattle.pipes_token.specs.declared.token.Token.{Token}
use Rattle.pipes_time.specs.Results.{◌>>=◌}
use Rattle.pipes_reader.specs.Reading.{Reads, kinds_of, done, run_out, refused_by}
use Rattle.pipes_grammar.specs.Reading.{SentencePrefix, wanted}
use Rattle.pipes_reader.specs.Sentences.{Begins}
use Rattle.pipes_grammar.specs.Places.{RunsOut}
use Rattle.pipes_reader.proofs.TokenLists.{uncons, none}
use Rattle.pipes_reader.specs.Causes.{AreAlike, itself, two_numbers, two_names, IsTextWhy}
use Rattle.pipes_reader.proofs.Singles.{refused_place}
use Rattle.pipes_reader.proofs.Causes.{why_map, CauseOf, plain_why}
use Rattle.pipes_reader.proofs.Causes as causes
use Rattle.pipes_grammar.proofs.Readers.{AtToken, there, inside, Ends, here, in_expr, deep, Stops}
use Rattle.pipes_grammar.proofs.Readers.{Refuses, IsReader}

abbrev pub token : ℕ → TokenKind → Token
token at kind = record { at = at; kind = kind }

-- what is read is one value and one rest
pub one_value : {A : Type 0} (x y : A) (ts us : List Token) → done x ts ≡ done y us → (x ≡ y)
    × (ts ≡ us)
one_value {A} x y ts us e =
    let same : (x, ts) ≡ (y, us) = cc in
    (ap (λ (p : A × List Token). p.0) same, ap (λ (p : A × List Token). p.1) same)

-- ---- a value where no token is wanted

pub data Nothing {A : Type 0} (v : A) : A → List TokenKind → Type 0 where
  nothing : Nothing v v []

pub nothing_is : {A : Type 0} (v x : A) (ks : List TokenKind) → Nothing v x ks → (v ≡ x) × (ks ≡ [])
nothing_is v _ _ nothing = (refl, refl)

-- what holds of that value without a token holds of what is read
pub with_end : {A : Type 0} (P : A → List TokenKind → Type 0) (v x : A) (ks : List TokenKind)
    → Nothing v x ks → P v [] → P x ks
with_end P v _ _ nothing is = is

pub reads_nothing : {A : Type 0} (Begun Exprs : Type 0) (whole : Option ℕ) (v : A)
    → IsReader Begun Exprs whole (Nothing v) (Nothing v) (λ ts. Ok (v, ts))
reads_nothing {A} Begun Exprs whole v = record {
  found = λ ts x rest e.
      let o = one_value v x ts rest e in
      ([], subst (λ (z : A). Nothing v z []) o.0 nothing, o.1);
  only = λ x prefix rest is.
      let n = nothing_is v x (kinds_of prefix) is in
      let f = none prefix (sym n.1) in
      ap (λ (z : A). done z (prefix ++ rest)) n.0 ∙ ap (λ (z : List Token). done x (z ++ rest)) f;
  wider = λ x ks is. is;
  some = λ b. (v, [], nothing);
  first = λ b ts r e. absurd cc;
}

-- ---- the same reader for another way to say what it reads

pub reads_as : {A : Type 0} (Begun Exprs : Type 0) (whole : Option ℕ) (Is IsW To ToW : A
    → List TokenKind → Type 0) (read : Reads A)
    → IsReader Begun Exprs whole Is IsW read → ((x : A) (ks : List TokenKind) → Is x ks → To x ks)
    → ((x : A) (ks : List TokenKind) → IsW x ks → ToW x ks)
    → ((x : A) (ks : List TokenKind) → ToW x ks → IsW x ks) → ((x : A) (ks : List TokenKind)
    → ToW x ks → To x ks)
    → IsReader Begun Exprs whole To ToW read
reads_as Begun Exprs whole Is IsW To ToW read one to tow from wider = record {
  found = λ ts x rest e.
      let f = one.found ts x rest e in
      (f.0, tow x (kinds_of f.0) f.1, f.2);
  only = λ x prefix rest is. one.only x prefix rest (from x (kinds_of prefix) is);
  wider = wider;
  some = λ b. begun [] (one.some b);
  first = λ b ts r e. refuses ts r (one.first b ts r e);
}
  where
    begun : (ks : List TokenKind) → Begins Is ks → Begins To ks
    begun ks (x, more, is) = (x, more, to x (ks ++ more) is)

    refuses : (ts : List Token) (r : Refusal) → Refuses Exprs whole Is read ts r
        → Refuses Exprs whole To read ts r
    refuses ts r (inl out) = inl (record {
      is_end = out.is_end;
      begins =
          begun (kinds_of ts) out.begins;
    })
    refuses ts r (inr s) = inr (record {
      before = s.before;
      refused = s.refused;
      after = s.after;
      parts = s.parts;
      begins = begun (kinds_of s.before) s.begins;
      stands = s.stands;
      ends = s.ends;
      cause = why_map _ _ _ _ _ _ (λ k goes. begun (kinds_of s.before ++ (k ∷ [])) goes)
          (λ full. full) s.refused.kind r.why (λ j a stuck. stuck) s.cause;
    })

-- ---- by the first token

-- tokens of the kind are refused wherever they come first
abbrev pub Bars : {A : Type 0} → (TokenKind → ℕ → Reads A) → TokenKind → Type 0
Bars by k = (at : ℕ) (ts : List Token) → causes.Refuses (by k at) ts

-- why a token that comes first is refused
abbrev pub FirstWhy : {A : Type 0} → (A → List TokenKind → Type 0) → (TokenKind → ℕ → Reads A)
    → TokenKind → Refusal → Type 0
FirstWhy Is bys k r = IsTextWhy (λ j. Begins Is (j ∷ [])) ⊥ (Bars bys) k r.why

-- what is read by a token of this kind: values of sentences that begin with it, or a refusal at it
-- or after it
pub record Branch {A : Type 0} (bys : TokenKind → ℕ → Reads A) (Begun Exprs : Type 0)
    (whole : Option ℕ) (Is IsW : A → List TokenKind → Type 0) (k : TokenKind) (by : ℕ → Reads A)
    : Type 0 where
  pub found : (at : ℕ) (ts : List Token) (x : A) (rest : List Token) → by at ts ≡ Ok (x, rest)
      → SentencePrefix (λ y ls. IsW y (k ∷ ls)) x ts rest
  pub first : Begun → (at : ℕ) (ts : List Token) (r : Refusal) → by at ts ≡ Err r
      → (AtToken (token at k) r × FirstWhy Is bys k r
      × ((other : List Token) → by at other ≡ Err r))
      ⊎ Refuses Exprs whole (λ y ls. Is y (k ∷ ls)) (by at) ts r

-- after it another reader goes on
pub goes : {A : Type 0} (bys : TokenKind → ℕ → Reads A) (Begun Exprs : Type 0) (whole : Option ℕ)
    (Is IsW To ToW : A
    → List TokenKind → Type 0) (k : TokenKind) (by : ℕ → Reads A)
    → ((at : ℕ) → IsReader Begun Exprs whole Is IsW (by at))
    → ((x : A) (ls : List TokenKind) → Is x ls → To x (k ∷ ls))
    → ((x : A) (ls : List TokenKind) → IsW x ls → ToW x (k ∷ ls))
    → Branch bys Begun Exprs whole To ToW k by
goes bys Begun Exprs whole Is IsW To ToW k by one to tow = record {
  found = λ at ts x rest e.
      let f = (one at).found ts x rest e in
      (f.0, tow x (kinds_of f.0) f.1, f.2);
  first = λ b at ts r e. inr (refuses at ts r ((one at).first b ts r e));
}
  where
    begun : (ks : List TokenKind) → Begins Is ks → Begins (λ y ls. To y (k ∷ ls)) ks
    begun ks (x, more, is) = (x, more, to x (ks ++ more) is)

    refuses : (at : ℕ) (ts : List Token) (r : Refusal) → Refuses Exprs whole Is (by at) ts r
        → Refuses Exprs whole (λ y ls. To y (k ∷ ls)) (by at) ts r
    refuses at ts r (inl out) = inl
        (record { is_end = out.is_end; begins = begun (kinds_of ts) out.begins })
    refuses at ts r (inr s) = inr (record {
      before = s.before;
      refused = s.refused;
      after = s.after;
      parts = s.parts;
      begins = begun (kinds_of s.before) s.begins;
      stands = s.stands;
      ends = s.ends;
      cause = why_map _ _ _ _ _ _ (λ j on. begun (kinds_of s.before ++ (j ∷ [])) on)
          (λ full. full) s.refused.kind r.why (λ j a stuck. stuck) s.cause;
    })

-- it is refused
pub refuses : {A : Type 0} (bys : TokenKind → ℕ → Reads A) (Begun Exprs : Type 0)
    (whole : Option ℕ) (Is IsW : A → List TokenKind → Type 0) (k : TokenKind) (by : ℕ → Reads A)
    (why : ℕ → Refusal)
    → ((at : ℕ) (ts : List Token) → by at ts ≡ Err (why at))
    → ((at : ℕ) → AtToken (token at k) (why at))
    → (Begun → (at : ℕ) → FirstWhy Is bys k (why at)) → Branch bys Begun Exprs whole Is IsW k by
refuses {A} bys Begun Exprs whole Is IsW k by why is place cause = record {
  found = λ at ts x rest e. absurd (no at ts x rest (sym (is at ts) ∙ e));
  first = λ b at ts r e. inl (known b at r (alike at r (sym (is at ts) ∙ e)));
}
  where
    refused_so : Refusal → Result (A × List Token) Refusal
    refused_so r = Err r

    no : (at : ℕ) (ts : List Token) (x : A) (rest : List Token) → Err (why at) ≡ done x rest → ⊥
    no at ts x rest e = cc

    alike : (at : ℕ) (r : Refusal) → refused_so (why at) ≡ refused_so r → why at ≡ r
    alike at r e = cc

    known : Begun → (at : ℕ) (r : Refusal) → why at ≡ r → AtToken (token at k) r
        × FirstWhy Is bys k r × ((other : List Token) → by at other ≡ Err r)
    known b at r e = (
      subst (λ (z : Refusal). AtToken (token at k) z) e (place at),
      subst (λ (z : Refusal). FirstWhy Is bys k z) e (cause b at),
      λ other. is at other ∙ ap (λ (z : Refusal). Err z) e,
    )

-- it is a sentence by itself
pub takes : {A : Type 0} (bys : TokenKind → ℕ → Reads A) (Begun Exprs : Type 0)
    (whole : Option ℕ) (Is IsW : A → List TokenKind → Type 0) (k : TokenKind) (by : ℕ → Reads A)
    (v : A)
    → IsW v (k ∷ []) → ((at : ℕ) (ts : List Token) → by at ts ≡ Ok (v, ts))
    → Branch bys Begun Exprs whole Is IsW k by
takes {A} bys Begun Exprs whole Is IsW k by v is given = record {
  found = λ at ts x rest e.
      let o = one_value v x ts rest (sym (given at ts) ∙ e) in
      ([], subst (λ (z : A). IsW z (k ∷ [])) o.0 is, o.1);
  first = λ b at ts r e. absurd (no at ts r (sym (given at ts) ∙ e));
}
  where
    no : (at : ℕ) (ts : List Token) (r : Refusal) → done v ts ≡ Err r → ⊥
    no at ts r e = cc

-- numbers and names come first nowhere
pub bars_like : {A : Type 0} (bys : TokenKind → ℕ → Reads A) (k j : TokenKind) → AreAlike k j
    → ((at : ℕ) (ts : List Token) → bys k at ts ≡ Err (refused_by k at))
    → ((n m : ℕ) → k ≡ Number n → Bars bys (Number m))
    → ((v w : List ℕ) → k ≡ Name v → Bars bys (Name w)) → Bars bys j
bars_like bys _ _ (itself k) is numbers names at ts = (refused_by k at, is at ts)
bars_like bys _ _ (two_numbers n m) is numbers names at ts = numbers n m refl at ts
bars_like bys _ _ (two_names v w) is numbers names at ts = names v w refl at ts

-- a token that is refused as such, and so is what is like it
pub plainly : {A : Type 0} (bys : TokenKind → ℕ → Reads A) (Begun Exprs : Type 0)
    (whole : Option ℕ) (Is IsW : A → List TokenKind → Type 0) (k : TokenKind)
    → ((at : ℕ) (ts : List Token) → bys k at ts ≡ Err (refused_by k at))
    → ((n m : ℕ) → k ≡ Number n → Bars bys (Number m))
    → ((v w : List ℕ) → k ≡ Name v → Bars bys (Name w))
    → Branch bys Begun Exprs whole Is IsW k (bys k)
plainly bys Begun Exprs whole Is IsW k is numbers names =
    refuses bys Begun Exprs whole Is IsW k (bys k) (λ at. refused_by k at) is
    (λ at. there (refused_place k at))
    (λ b at. plain_why _ _ _ k at (λ j a. bars_like bys k j a is numbers names))

pub at_refused : (k : TokenKind) (at : ℕ) → AtToken (token at k) (refused_by k at)
at_refused k at = there (refused_place k at)

module _ {A : Type 0} (Begun Exprs : Type 0) (whole : Option ℕ) (Is IsW : A → List TokenKind
    → Type 0) (read : Reads A) (by : TokenKind → ℕ → Reads A)
    (at_end : read [] ≡ Err run_out) (at_token : (t : Token) (ts : List Token)
    → read (t ∷ ts) ≡ by t.kind t.at ts)
    (branch : (k : TokenKind) → Branch by Begun Exprs whole Is IsW k (by k)) (some : Begun
    → Begins Is []) where
  pub layer_found : (ts : List Token) (x : A) (rest : List Token) → read ts ≡ Ok (x, rest)
      → SentencePrefix IsW x ts rest
  layer_found [] x rest e = absurd cc
  layer_found (t ∷ ts) x rest e =
      let f = (branch t.kind).found t.at ts x rest (sym (at_token t ts) ∙ e) in
      (t ∷ f.0, f.1, ap (λ (z : List Token). t ∷ z) f.2)

  layer_ends : (t : Token) (before : List Token) (u : Token) (r : Refusal)
      → Ends Exprs whole (by t.kind t.at) before u r → Ends Exprs whole read (t ∷ before) u r
  layer_ends t before u r (here h) = here h
  layer_ends t before u r (in_expr q outside within e d) = in_expr q (t ∷ outside) within
      (ap (λ (z : List Token). t ∷ z) e) d
  layer_ends t before u r (deep n is e h) = deep n is e (λ other. at_token t (before ++ other)
      ∙ h other)

  pub layer_first : Begun → (ts : List Token) (r : Refusal) → read ts ≡ Err r
      → Refuses Exprs whole Is read ts r
  layer_first b [] r e = inl (record { is_end = is_end; begins = some b })
    where
      is_end : r ≡ run_out
      is_end = cc
  layer_first b (t ∷ ts) r e = known ((branch t.kind).first b t.at ts r (sym (at_token t ts) ∙ e))
    where
      barred : (u : Token) (other : List Token) (j : TokenKind) → u.kind ≡ j → Bars by j
          → causes.Refuses read (u ∷ other)
      barred u other j e bars =
          let d = subst (λ (z : TokenKind). Bars by z) (sym e) bars u.at other in
          (d.0, at_token u other ∙ d.1)

      after : (us : List Token) → causes.Refuses (by t.kind t.at) us
          → causes.Refuses read (t ∷ us)
      after us (d, f) = (d, at_token t us ∙ f)

      known : (AtToken t r × FirstWhy Is by t.kind r
          × ((other : List Token) → by t.kind t.at other ≡ Err r))
          ⊎ Refuses Exprs whole (λ y ls. Is y (t.kind ∷ ls)) (by t.kind t.at) ts r
          → Refuses Exprs whole Is read (t ∷ ts) r
      known (inl (place, cause, h)) = inr (record {
        before = [];
        refused = t;
        after = ts;
        parts = refl;
        begins = some b;
        stands = λ other. at_token t other ∙ h other;
        ends = here place;
        cause = why_map _ _ _ _ _ _ (λ j on. on) (λ no. absurd no) t.kind r.why
            (λ j a bars u other f. barred u other j f bars) cause;
      })
      known (inr (inl out)) = inl (record { is_end = out.is_end; begins = out.begins })
      known (inr (inr s)) = inr (record {
        before = t ∷ s.before;
        refused = s.refused;
        after = s.after;
        parts = ap (λ (z : List Token). t ∷ z) s.parts;
        begins = s.begins;
        stands = λ other. at_token t (s.before ++ (s.refused ∷ other)) ∙ s.stands other;
        ends = layer_ends t s.before s.refused r s.ends;
        cause = why_map _ _ _ _ _ _ (λ j on. on)
            (λ full other. after (s.before ++ other) (full other)) s.refused.kind r.why
            (λ j a stuck u other f. after (s.before ++ (u ∷ other)) (stuck u other f)) s.cause;
      })

  -- what begins with a token of this kind is read by it
  pub layer_only : (k : TokenKind) (ls : List TokenKind) (x : A)
      → ((at : ℕ) (prefix rest : List Token) → ls ≡ kinds_of prefix
      → by k at (prefix ++ rest) ≡ Ok (x, rest))
      → (prefix rest : List Token) → k ∷ ls ≡ kinds_of prefix → read (prefix ++ rest) ≡ Ok (x, rest)
  layer_only k ls x goes_on prefix rest e =
      let c = uncons k ls prefix e in
      ap (λ (z : List Token). read (z ++ rest)) c.parts ∙ at_token c.head (c.tail ++ rest)
      ∙ ap (λ (z : TokenKind). by z c.head.at (c.tail ++ rest)) c.head_kind
      ∙ goes_on c.head.at c.tail rest c.tail_kinds

  -- and what is such a token alone
  pub layer_one : (k : TokenKind) (v : A) → ((at : ℕ) (ts : List Token) → by k at ts ≡ Ok (v, ts))
      → (prefix rest : List Token) → k ∷ [] ≡ kinds_of prefix
      → read (prefix ++ rest) ≡ Ok (v, rest)
  layer_one k v given prefix rest e =
      layer_only k [] v (λ at us rest e. ap (λ (z : List Token). by k at (z ++ rest)) (none us e)
      ∙ given at rest) prefix rest e

-- ---- one token that is wanted

pub data OneKind {A : Type 0} (k : TokenKind) (v : A) : A → List TokenKind → Type 0 where
  one : OneKind k v v (k ∷ [])

abbrev pub ThisKind : TokenKind → Unit {0} → List TokenKind → Type 0
ThisKind k = OneKind k tt

pub reads_wanted : (Begun Exprs : Type 0) (whole : Option ℕ) (s : ASign) (is : TokenKind → Bool)
    → is (Sign s) ≡ true → ((j : TokenKind) → is j ≡ true → j ≡ Sign s)
    → IsReader Begun Exprs whole (ThisKind (Sign s)) (ThisKind (Sign s)) (wanted is)
unfolding wanted
reads_wanted Begun Exprs whole s is holds alone = record {
  found = layer_found Begun Exprs whole Is Is (wanted is) by refl (λ t ts. refl) branch some;
  only = λ x prefix rest w. only x (kinds_of prefix) w prefix rest refl;
  wider = λ x ks w. w;
  some = some;
  first = layer_first Begun Exprs whole Is Is (wanted is) by refl (λ t ts. refl) branch some;
}
  where
    Is : Unit {0} → List TokenKind → Type 0
    Is = ThisKind (Sign s)

    by : TokenKind → ℕ → Reads (Unit {0})
    by j at ts = cond (is j) (Ok (tt, ts)) (Err (refused_by j at))

    barred : (j : TokenKind) → is j ≡ false → Bars by j
    barred j e at ts = (refused_by j at, rw e refl)

    not_true : (b : Bool) → (b ≡ true → ⊥) → b ≡ false
    not_true true h = absurd (h refl)
    not_true false h = refl

    number_apart : (m : ℕ) → Number m ≡ Sign s → ⊥
    number_apart m e = cc

    name_apart : (w : List ℕ) → Name w ≡ Sign s → ⊥
    name_apart w e = cc

    alike : (j i : TokenKind) → AreAlike j i → is j ≡ false → is i ≡ false
    alike _ _ (itself j) e = e
    alike _ _ (two_numbers n m) e =
        not_true (is (Number m)) (λ f. number_apart m (alone (Number m) f))
    alike _ _ (two_names v w) e = not_true (is (Name w)) (λ f. name_apart w (alone (Name w) f))

    by_test : (j : TokenKind) (b : Bool) → is j ≡ b → (b ≡ true → j ≡ Sign s)
        → Branch by Begun Exprs whole Is Is j (λ at ts. cond b (Ok (tt, ts))
        (Err (refused_by j at)))
    by_test j true e h =
        takes by Begun Exprs whole Is Is j (λ at ts. Ok (tt, ts)) tt
        (subst (λ (z : TokenKind). OneKind (Sign s) tt tt (z ∷ [])) (sym (h refl)) one)
        (λ at ts. refl)
    by_test j false e h = refuses by Begun Exprs whole Is Is j (λ at ts. Err (refused_by j at))
        (λ at. refused_by j at) (λ at ts. refl) (λ at. at_refused j at)
        (λ b at. plain_why _ _ _ j at (λ i a. barred i (alike j i a e)))

    branch : (j : TokenKind) → Branch by Begun Exprs whole Is Is j (by j)
    branch j = by_test j (is j) refl (alone j)

    some : Begun → Begins Is []
    some b = (tt, Sign s ∷ [], one)

    only : (x : Unit {0}) (ks : List TokenKind) → Is x ks → (prefix rest : List Token)
        → ks ≡ kinds_of prefix → wanted is (prefix ++ rest) ≡ Ok (x, rest)
    only _ _ one prefix rest e =
        layer_one Begun Exprs whole Is Is (wanted is) by refl (λ t ts. refl) branch some (Sign s) tt
        (λ at ts. rw holds refl) prefix rest e
