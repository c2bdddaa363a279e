-- Readers with a limit of levels, from the first token of a whole on.
use Rattle.std.proofs.Common.{◌≡◌, ℕ, Option, Some, List, [], ◌∷◌, ◌++◌, Result, Ok, Err, refl, sym}
use Rattle.std.proofs.Common.{ap, subst, ◌∙◌, append_assoc, ◌⊎◌, inl, inr}
use Rattle.std.proofs.lemmas.List.{append-nil}
use Rattle.pipes_token.specs.declared.refusal.Refusal.{Refusal}
use Rattle.pipes_token.specs.declared.refusal.TextWhy.TheVariants as why
use Rattle.pipes_token.specs.declared.token.TokenKind.{TokenKind}
use Rattle.pipes_token.specs.declared.token.TokenKind.TheVariants.{Byte, End}
use Rattle.pipes_token.specs.declared.token.Token.{Token}
use Rattle.pipes_grammar.specs.Grammar.{IsExpr}
use Rattle.pipes_grammar.specs.Limits.{IsExprText}
use Rattle.pipes_reader.specs.Reading.{Reads, kinds_of, done, refusal, run_out, refused_as}
use Rattle.pipes_reader.specs.Reading.{place_of, too_deep}
use Rattle.pipes_grammar.specs.Reading.{SentencePrefix}
use Rattle.pipes_reader.specs.Sentences.{Begins}
use Rattle.pipes_reader.specs.Places.{FirstPlace}
use Rattle.pipes_grammar.specs.Places.{RunsOut, IsTooDeep}
use Rattle.pipes_reader.proofs.TokenLists.{kinds-append, tokens_of, kinds-tokens}
use Rattle.pipes_reader.proofs.Causes.{why_map, CauseOf}
use Rattle.pipes_reader.proofs.Causes as causes
use Rattle.pipes_reader.proofs.Readers.{RefusedAt, first_place}
use Rattle.pipes_reader.proofs.Singles.{limit_causes}
use Rattle.pipes_grammar.proofs.Readers.{AtToken, there, Ends, here, in_expr, deep, Stops, Refuses}
use Rattle.pipes_grammar.proofs.Readers.{IsReader}
use Rattle.pipes_grammar.proofs.Layers.{token, at_refused}

-- ---- where no level is left

deep_stops : {A : Type 0} (Exprs : Type 0) (whole : ℕ) (Is : A → List TokenKind → Type 0)
    (k : TokenKind) (at : ℕ) (ts : List Token) (r : Refusal)
    → Begins Is [] → refused_as (refusal whole why.Deep) k at ≡ r
    → Stops Exprs (Some whole) Is (λ us. Err (too_deep whole us)) (token at k ∷ ts) r
unfolding too_deep
deep_stops {A} Exprs whole Is k at ts r some e = record {
  before = [];
  refused = token at k;
  after = ts;
  parts = refl;
  begins = some;
  stands = λ other. ap (λ (z : Refusal). Err z) e;
  ends = ends k r e;
  cause = subst (λ (z : Refusal). CauseOf Is refusing [] k z.why) e
      (why_map _ _ _ _ _ _ (λ j on. on) (λ full other. (too_deep whole other, refl)) k
      (refused_as (refusal whole why.Deep) k at).why
      (λ j a stuck u other f. (too_deep whole (u ∷ other), refl))
      (limit_causes (λ j. Begins Is (j ∷ [])) (λ j. Unit {0}) (refusal whole why.Deep) tt k at));
}
  where
    refusing : Reads A
    refusing us = Err (too_deep whole us)

    ends : (j : TokenKind) (d : Refusal) → refused_as (refusal whole why.Deep) j at ≡ d
        → Ends Exprs (Some whole) refusing [] (token at j) d
    ends Byte d h = here (subst (λ (z : Refusal). AtToken (token at Byte) z) h (at_refused Byte at))
    ends End d h = here (subst (λ (z : Refusal). AtToken (token at End) z) h (at_refused End at))
    ends _ d h = deep whole refl (sym h) (λ other. refl)

pub reads_no_level : {A : Type 0} (Begun Exprs : Type 0) (whole : ℕ) (Is IsW : A → List TokenKind
    → Type 0) → ((x : A) (ks : List TokenKind) → IsW x ks → ⊥)
    → (Begun → Begins Is []) → IsReader Begun Exprs (Some whole) Is IsW
    (λ ts. Err (too_deep whole ts))
unfolding too_deep
reads_no_level {A} Begun Exprs whole Is IsW bar some = record {
  found = λ ts x rest e. absurd cc;
  only = λ x prefix rest is. absurd (bar x (kinds_of prefix) is);
  wider = λ x ks is. absurd (bar x ks is);
  some = some;
  first = λ b ts r e. stops b ts r (same ts r e);
}
  where
    failing : Refusal → Result (A × List Token) Refusal
    failing r = Err r

    same : (ts : List Token) (r : Refusal) → failing (too_deep whole ts) ≡ failing r
        → too_deep whole ts ≡ r
    same ts r e = cc

    stops : Begun → (ts : List Token) (r : Refusal) → too_deep whole ts ≡ r
        → Refuses Exprs (Some whole) Is (λ us. Err (too_deep whole us)) ts r
    stops b [] r e = inl (record { is_end = sym e; begins = some b })
    stops b (t ∷ ts) r e = inr (deep_stops Exprs whole Is t.kind t.at ts r (some b) e)

-- ---- a whole

-- where the place of a whole's refusal is
pub data WholePlace {A : Type 0} (Exprs : Type 0) (Is IsW : A → List TokenKind → Type 0)
    (before : List Token) (t : Token) (r : Refusal) : Type 0 where
  on_token : AtToken t r → WholePlace Exprs Is IsW before t r
  in_inner : Exprs → (outside within : List Token) → before ≡ outside ++ within
      → IsTooDeep IsExpr IsExprText within t r → WholePlace Exprs Is IsW before t r
  in_whole : IsTooDeep Is IsW before t r → WholePlace Exprs Is IsW before t r

place-before : (before : List Token) (t : Token) (one other : List Token)
    → place_of (before ++ (t ∷ one)) ≡ place_of (before ++ (t ∷ other))
place-before [] t one other = refl
place-before (u ∷ before) t one other = refl

module _ {A : Type 0} (Begun Exprs : Type 0) (Is IsW : A → List TokenKind → Type 0) (within : ℕ
    → Reads A)
    (reads : (whole : ℕ) → IsReader Begun Exprs (Some whole) Is IsW (within whole)) where
  abbrev pub parse : Reads A
  parse ts = within (place_of ts) ts

  -- whatever place the whole has, the same is refused
  anywhere : (whole other : ℕ) (us : List Token) → causes.Refuses (within whole) us
      → causes.Refuses (within other) us
  anywhere whole other us (d, e) = by (within other us) refl
    where
      apart : (x : A) (rest : List Token) → within whole us ≡ done x rest → ⊥
      apart x rest f = cc

      by : (q : Result (A × List Token) Refusal) → within other us ≡ q
          → causes.Refuses (within other) us
      by (Err r) f = (r, f)
      by (Ok (x, rest)) f =
          let g = (reads other).found us x rest f in
          absurd (apart x rest
          (ap (λ (z : List Token). within whole z) g.2 ∙ (reads whole).only x g.0 rest g.1))

  pub refuses_whole : (whole : ℕ) (us : List Token) → causes.Refuses (within whole) us
      → causes.Refuses parse us
  refuses_whole whole us refuses = anywhere whole (place_of us) us refuses

  -- nothing within the limits begins so
  pub barred : (before : List Token)
      → ((other : List Token) → causes.Refuses parse (before ++ other))
      → Begins IsW (kinds_of before) → ⊥
  barred before refuses (x, more, is) =
      let us = before ++ tokens_of more in
      let kinds : kinds_of before ++ more ≡ kinds_of us =
      ap (λ (z : List TokenKind). kinds_of before ++ z) (sym (kinds-tokens more))
      ∙ sym (kinds-append before (tokens_of more)) in
      apart x us
      ((reads (place_of (us ++ []))).only x us []
      (subst (λ (z : List TokenKind). IsW x z) kinds is))
      (refuses (tokens_of more))
    where
      apart : (x : A) (us : List Token) → parse (us ++ []) ≡ done x [] → causes.Refuses parse us → ⊥
      apart x us e (d, f) =
          differ (sym (ap (λ (z : List Token). parse z) (append-nil us)) ∙ e) f
        where
          differ : parse us ≡ done x [] → parse us ≡ Err d → ⊥
          differ g h = cc

  pub whole_first : Begun → (ts : List Token) (r : Refusal) → parse ts ≡ Err r → RunsOut Is ts r
      ⊎ RefusedAt Is (WholePlace Exprs Is IsW) parse ts r
  whole_first b ts r e = known ((reads (place_of ts)).first b ts r e)
    where
      known : Refuses Exprs (Some (place_of ts)) Is (within (place_of ts)) ts r → RunsOut Is ts r
          ⊎ RefusedAt Is (WholePlace Exprs Is IsW) parse ts r
      known (inl out) = inl out
      known (inr s) = inr (record {
        before = s.before;
        refused = s.refused;
        after = s.after;
        parts = s.parts;
        begins = s.begins;
        stands = λ other. ap (λ (n : ℕ). within n (s.before ++ (s.refused ∷ other))) (starts other)
            ∙ s.stands other;
        place = place s.before s.refused (starts []) s.begins s.ends;
        cause = why_map _ _ _ _ _ _ (λ k on. on)
            (λ full other. refuses_whole (place_of ts) (s.before ++ other) (full other))
            s.refused.kind r.why
            (λ j a stuck u other f. refuses_whole (place_of ts) (s.before ++ (u ∷ other))
            (stuck u other f)) s.cause;
      })
        where
          starts : (other : List Token) → place_of (s.before ++ (s.refused ∷ other)) ≡ place_of ts
          starts other = place-before s.before s.refused other s.after ∙ ap place_of (sym s.parts)

          same : (n : ℕ) → Some (place_of ts) ≡ Some n → place_of ts ≡ n
          same n e = cc

          place : (before : List Token) (t : Token) → place_of (before ++ (t ∷ [])) ≡ place_of ts
              → Begins Is (kinds_of before)
              → Ends Exprs (Some (place_of ts)) (within (place_of ts)) before t r
              → WholePlace Exprs Is IsW before t r
          place before t start begins (here h) = on_token h
          place before t start begins (in_expr q outside inner parts d) =
              in_inner q outside inner parts d
          place before t start begins (deep n whole is h) = in_whole (record {
            is_deep = is ∙ ap (λ (m : ℕ). refusal m why.Deep) (sym (same n whole) ∙ sym start);
            begins = begins;
            none = barred before
                (λ other. refuses_whole (place_of ts) (before ++ other)
                (too_deep n other, h other));
          })

  -- the law on its first place
  pub first_by : (Where Where2 : List Token → Token → Refusal → Type 0)
      → ((before : List Token) (t : Token) (r : Refusal) → Where before t r → Where2 before t r)
      → (ts : List Token) (r : Refusal) → RunsOut Is ts r ⊎ RefusedAt Is Where parse ts r
      → RunsOut Is ts r ⊎ FirstPlace Is IsW Where2 parse ts r
  first_by Where Where2 place ts r (inl out) = inl out
  first_by Where Where2 place ts r (inr s) =
      inr (first_place IsW parse barred Is Where Where2 place ts r s)

  pub whole_found : (ts : List Token) (x : A) (rest : List Token) → parse ts ≡ Ok (x, rest)
      → SentencePrefix IsW x ts rest
  whole_found ts x rest e = (reads (place_of ts)).found ts x rest e

  pub whole_only : (x : A) (prefix rest : List Token) → IsW x (kinds_of prefix)
      → parse (prefix ++ rest) ≡ Ok (x, rest)
  whole_only x prefix rest is = (reads (place_of (prefix ++ rest))).only x prefix rest is

  -- what is read of a text that begins with a sentence
  pub whole_prefix : (x : A) (ts rest : List Token) → SentencePrefix IsW x ts rest
      → parse ts ≡ Ok (x, rest)
  whole_prefix x ts rest (prefix, is, parts) = ap parse parts ∙ whole_only x prefix rest is
