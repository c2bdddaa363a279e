-- What is shown of a reader, and that one reader after another has it.
use Rattle.std.proofs.Common.{◌≡◌, ℕ, Bool, true, false, cond, Option, Some, None, List, [], ◌∷◌}
use Rattle.std.proofs.Common.{◌++◌, Result, Ok, Err, refl, sym, ap, subst, ◌∙◌, append_assoc, ◌⊎◌}
use Rattle.std.proofs.Common.{inl, inr}
use Rattle.pipes_token.specs.declared.refusal.Refusal.{Refusal}
use Rattle.pipes_token.specs.declared.refusal.TextWhy.TheVariants as why
use Rattle.pipes_token.specs.declared.token.TokenKind.{TokenKind}
use Rattle.pipes_token.specs.declared.token.TokenKind.TheVariants.{Sign, Keyword, Name, Number}
use Rattle.pipes_token.specs.declared.token.TokenKind.TheVariants.{Text, Long, Cut, Byte, End}
use Rattle.pipes_token.specs.declared.token.Token.{Token}
use Rattle.pipes_grammar.specs.Grammar.{IsExpr}
use Rattle.pipes_grammar.specs.Limits.{IsExprText}
use Rattle.pipes_time.specs.Results.{◌>>=◌}
use Rattle.pipes_reader.specs.Reading.{Reads, kinds_of, done, refusal, run_out, refused_by}
use Rattle.pipes_reader.specs.Reading.{too_deep}
use Rattle.pipes_grammar.specs.Reading.{SentencePrefix, wanted}
use Rattle.pipes_reader.specs.Sentences.{Begins}
use Rattle.pipes_grammar.specs.Places.{RunsOut, IsTooDeep}
use Rattle.pipes_reader.proofs.TokenLists.{kinds-append, Parts, split, none, Cons, uncons}
use Rattle.pipes_reader.proofs.Causes.{why_map, CauseOf}
use Rattle.pipes_reader.proofs.Causes as causes

-- ---- where a refusal comes

-- where the refused token is the one that is known: its place, or the place in a string that begins
-- with it
pub data AtToken (t : Token) (r : Refusal) : Type 0 where
  there : r.at ≡ t.at → AtToken t r
  inside : t.kind ≡ Cut r → AtToken t r

-- Why it stops at the token t after the tokens before: that token, an expression that is too deep
-- (where Exprs allows one), or the whole is too deep, which begins at a place (where it has a limit
-- of levels)
pub data Ends {A : Type 0} (Exprs : Type 0) (whole : Option ℕ) (read : Reads A)
    (before : List Token) (t : Token) (r : Refusal) : Type 0 where
  here : AtToken t r → Ends Exprs whole read before t r
  in_expr : Exprs → (outside within : List Token) → before ≡ outside ++ within
      → IsTooDeep IsExpr IsExprText within t r → Ends Exprs whole read before t r
  deep : (n : ℕ) → whole ≡ Some n → r ≡ refusal n why.Deep → ((other : List Token)
      → read (before ++ other) ≡ Err (too_deep n other)) → Ends Exprs whole read before t r

-- a refusal at a token: what stands before it begins a sentence, it stands whatever follows, and
-- its cause is the grammar's
pub record Stops {A : Type 0} (Exprs : Type 0) (whole : Option ℕ) (Is : A → List TokenKind → Type 0)
    (read : Reads A) (ts : List Token) (r : Refusal) : Type 0 where
  pub before : List Token
  pub refused : Token
  pub after : List Token
  pub parts : ts ≡ before ++ (refused ∷ after)
  pub begins : Begins Is (kinds_of before)
  pub stands : (other : List Token) → read (before ++ (refused ∷ other)) ≡ Err r
  pub ends : Ends Exprs whole read before refused r
  pub cause : CauseOf Is read before refused.kind r.why

abbrev pub Refuses : {A : Type 0} → Type 0 → Option ℕ → (A → List TokenKind → Type 0) → Reads A
    → List Token → Refusal → Type 0
Refuses Exprs whole Is read ts r = RunsOut Is ts r ⊎ Stops Exprs whole Is read ts r

-- A reader finds prefixes that are within the limits, gives each of them, and refuses at the first
-- token with which nothing goes on, where any sentence begins (Begun).
pub record IsReader {A : Type 0} (Begun Exprs : Type 0) (whole : Option ℕ) (Is Within : A
    → List TokenKind → Type 0) (read : Reads A) : Type 0 where
  pub found : (ts : List Token) (x : A) (rest : List Token) → read ts ≡ Ok (x, rest)
      → SentencePrefix Within x ts rest
  pub only : (x : A) (prefix rest : List Token) → Within x (kinds_of prefix)
      → read (prefix ++ rest) ≡ Ok (x, rest)
  pub wider : (x : A) (ks : List TokenKind) → Within x ks → Is x ks
  pub some : Begun → Begins Is []
  pub first : Begun → (ts : List Token) (r : Refusal) → read ts ≡ Err r
      → Refuses Exprs whole Is read ts r

-- ---- one reader after another

pub data Then {A B : Type 0} (Is : A → List TokenKind → Type 0) (Next : A → B → List TokenKind
    → Type 0) : B → List TokenKind → Type 0 where
  both : (x : A) (y : B) (ks ls : List TokenKind) → Is x ks → Next x y ls
      → Then Is Next y (ks ++ ls)

-- a reader that goes on with what the first one read
abbrev pub in_turn : {A B : Type 0} → Reads A → (A → Reads B) → Reads B
in_turn read next ts = read ts >>= λ x. next x.0 x.1

-- a sentence that begins with these is begun, and can be ended
ended : {A B : Type 0} (Is : A → List TokenKind → Type 0) (Next : A → B → List TokenKind → Type 0)
    (ks : List TokenKind) → Begins Is ks
    → ((x : A) → Begins (Next x) []) → Begins (Then Is Next) ks
ended Is Next ks (x, more, is) some =
    let n = some x in (
      n.0,
      more ++ n.1,
      subst (λ (z : List TokenKind). Then Is Next n.0 z) (append_assoc ks more n.1)
          (both x n.0 (ks ++ more) n.1 is n.2),
    )

-- after the first sentence the next one is begun
moved : {A B : Type 0} (Is : A → List TokenKind → Type 0) (Next : A → B → List TokenKind → Type 0)
    (x : A) (prefix us : List Token) → Is x (kinds_of prefix)
    → Begins (Next x) (kinds_of us) → Begins (Then Is Next) (kinds_of (prefix ++ us))
moved Is Next x prefix us is (y, more, after) =
    let e : kinds_of prefix ++ (kinds_of us ++ more) ≡ kinds_of (prefix ++ us)
    ++ more = sym (append_assoc (kinds_of prefix) (kinds_of us) more)
    ∙ ap (λ (z : List TokenKind). z ++ more) (sym (kinds-append prefix us)) in (
      y,
      more,
      subst (λ (z : List TokenKind). Then Is Next y z) e
          (both x y (kinds_of prefix) (kinds_of us ++ more) is after),
    )

moved_kinds : {A B : Type 0} (Is : A → List TokenKind → Type 0)
    (Next : A → B → List TokenKind → Type 0) (x : A) (ks us : List TokenKind) → Is x ks
    → Begins (Next x) us → Begins (Then Is Next) (ks ++ us)
moved_kinds Is Next x ks us is (y, more, after) = (
  y,
  more,
  subst (λ (z : List TokenKind). Then Is Next y z) (sym (append_assoc ks us more))
      (both x y ks (us ++ more) is after),
)

ends_first : {A B : Type 0} (Exprs : Type 0) (whole : Option ℕ) (read : Reads A)
    (next : A → Reads B) (before : List Token) (t : Token) (r : Refusal)
    → Ends Exprs whole read before t r → Ends Exprs whole (in_turn read next) before t r
ends_first Exprs whole read next before t r (here h) = here h
ends_first Exprs whole read next before t r (in_expr q outside within e d) =
    in_expr q outside within e d
ends_first Exprs whole read next before t r (deep n is e h) =
    deep n is e (λ other. rw (h other) refl)

ends_next : {A B : Type 0} (Exprs : Type 0) (whole : Option ℕ) (read : Reads A) (next : A → Reads B)
    (x : A) (prefix before : List Token) (t : Token) (r : Refusal)
    → ((rest : List Token) → read (prefix ++ rest) ≡ done x rest)
    → Ends Exprs whole (next x) before t r → Ends Exprs whole (in_turn read next) (prefix ++ before)
    t r
ends_next Exprs whole read next x prefix before t r h (here k) = here k
ends_next Exprs whole read next x prefix before t r h (in_expr q outside within e d) =
    in_expr q (prefix ++ outside) within (ap (λ (z : List Token). prefix ++ z) e
    ∙ sym (append_assoc prefix outside within)) d
ends_next Exprs whole read next x prefix before t r h (deep n is e k) =
    deep n is e (λ other. rw (append_assoc prefix before other, h (before ++ other)) (k other))

module _ {A B : Type 0} (Begun Exprs : Type 0) (whole : Option ℕ) (Is IsW : A → List TokenKind
    → Type 0) (Next NextW : A → B → List TokenKind → Type 0)
    (read : Reads A) (next : A → Reads B) (one : IsReader Begun Exprs whole Is IsW read)
    (two : (x : A) → IsReader Begun Exprs whole (Next x) (NextW x) (next x)) where
  found_both : (ts : List Token) (y : B) (rest : List Token) (q : Result (A × List Token) Refusal)
      → read ts ≡ q → (q >>= λ x. next x.0 x.1) ≡ Ok (y, rest)
      → SentencePrefix (Then IsW NextW) y ts rest
  found_both ts y rest (Ok (x, us)) is e =
      let f = one.found ts x us is in
      let g = (two x).found us y rest e in (
        f.0 ++ g.0,
        subst (λ (z : List TokenKind). Then IsW NextW y z) (sym (kinds-append f.0 g.0))
            (both x y (kinds_of f.0) (kinds_of g.0) f.1 g.1),
        f.2 ∙ ap (λ (z : List Token). f.0 ++ z) g.2 ∙ sym (append_assoc f.0 g.0 rest),
      )
  found_both ts y rest (Err r) is e = absurd cc

  only_both : (y : B) (ks : List TokenKind) → Then IsW NextW y ks → (prefix rest : List Token)
      → ks ≡ kinds_of prefix → in_turn read next (prefix ++ rest) ≡ Ok (y, rest)
  only_both _ _ (both x y ks ls is after) prefix rest e =
      let p = split ks ls prefix e in
      let first = one.only x p.prefix (p.back ++ rest) (subst (λ (z : List TokenKind). IsW x z)
      p.prefix_kinds is) in
      let second = (two x).only y p.back rest (subst (λ (z : List TokenKind). NextW x y z)
      p.back_kinds after) in
      let parts : prefix ++ rest ≡ p.prefix ++ (p.back ++ rest) =
      ap (λ (z : List Token). z ++ rest) p.parts ∙ append_assoc p.prefix p.back rest in
      rw (parts, first) second

  wider_both : (y : B) (ks : List TokenKind) → Then IsW NextW y ks → Then Is Next y ks
  wider_both _ _ (both x y ks ls is after) = both x y ks ls (one.wider x ks is)
      ((two x).wider y ls after)

  refuses_first : (ts : List Token) → causes.Refuses read ts
      → causes.Refuses (in_turn read next) ts
  refuses_first ts (d, e) = (d, rw e refl)

  refuses_next : (x : A) (prefix before ts : List Token) → IsW x (kinds_of prefix)
      → causes.Refuses (next x) (before ++ ts)
      → causes.Refuses (in_turn read next) ((prefix ++ before) ++ ts)
  refuses_next x prefix before ts is (d, e) =
      (d, rw (append_assoc prefix before ts, one.only x prefix (before ++ ts) is) e)

  some_both : Begun → Begins (Then Is Next) []
  some_both b = ended Is Next [] (one.some b) (λ x. (two x).some b)

  first_by : Begun → (ts : List Token) (r : Refusal) (q : Result (A × List Token) Refusal)
      → read ts ≡ q → (q >>= λ x. next x.0 x.1) ≡ Err r
      → Refuses Exprs whole (Then Is Next) (in_turn read next) ts r
  first_by b ts r (Err d) is e = elim (one.first b ts r (is ∙ cc)) [
    | inl out ↦ inl (record {
      is_end = out.is_end;
      begins = ended Is Next (kinds_of ts) out.begins
          (λ x. (two x).some b);
    })
    | inr s ↦ inr (record {
      before = s.before;
      refused = s.refused;
      after = s.after;
      parts = s.parts;
      begins = ended Is Next (kinds_of s.before) s.begins (λ x. (two x).some b);
      stands = λ other. rw (s.stands other) refl;
      ends = ends_first Exprs whole read next s.before s.refused r s.ends;
      cause = why_map _ _ _ _ _ _
          (λ k goes. ended Is Next (kinds_of s.before ++ (k ∷ [])) goes (λ x. (two x).some b))
          (λ full other. refuses_first (s.before ++ other) (full other)) s.refused.kind r.why
          (λ j a stuck u other e. refuses_first (s.before ++ (u ∷ other)) (stuck u other e))
          s.cause;
    })
  ]
  first_by b ts r (Ok (x, us)) is e =
      let f = one.found ts x us is in
      after_first x f.0 us f.1 f.2 ((two x).first b us r e)
    where
      after_first : (x : A) (prefix us : List Token) → IsW x (kinds_of prefix) → ts ≡ prefix ++ us
          → Refuses Exprs whole (Next x) (next x) us r
          → Refuses Exprs whole (Then Is Next) (in_turn read next) ts r
      after_first x prefix us w parts (inl out) = inl (record {
        is_end = out.is_end;
        begins = subst (λ (z : List Token). Begins (Then Is Next) (kinds_of z)) (sym parts)
            (moved Is Next x prefix us (one.wider x (kinds_of prefix) w) out.begins);
      })
      after_first x prefix us w parts (inr s) = inr (record {
        before = prefix ++ s.before;
        refused = s.refused;
        after = s.after;
        parts = parts ∙ ap (λ (z : List Token). prefix ++ z) s.parts
            ∙ sym (append_assoc prefix s.before (s.refused ∷ s.after));
        begins = moved Is Next x prefix s.before (one.wider x (kinds_of prefix) w) s.begins;
        stands = λ other. rw (
          append_assoc prefix s.before (s.refused ∷ other),
          one.only x prefix (s.before ++ (s.refused ∷ other)) w,
        ) (s.stands other);
        ends = ends_next Exprs whole read next x prefix s.before s.refused r
            (λ rest. one.only x prefix rest w) s.ends;
        cause = why_map _ _ _ _ _ _
            (λ k goes. subst (λ (z : List TokenKind). Begins (Then Is Next) z)
            (sym (append_assoc (kinds_of prefix) (kinds_of s.before) (k ∷ []))
            ∙ ap (λ (z : List TokenKind). z ++ (k ∷ [])) (sym (kinds-append prefix s.before)))
            (moved_kinds Is Next x (kinds_of prefix) (kinds_of s.before ++ (k ∷ []))
            (one.wider x (kinds_of prefix) w) goes))
            (λ full other. refuses_next x prefix s.before other w (full other)) s.refused.kind
            r.why
            (λ j a stuck u other e. refuses_next x prefix s.before (u ∷ other) w (stuck u other e))
            s.cause;
      })

  pub reads_in_turn : IsReader Begun Exprs whole (Then Is Next) (Then IsW NextW) (in_turn read next)
  reads_in_turn = record {
    found = λ ts y rest e. found_both ts y rest (read ts) refl e;
    only = λ y prefix rest is. only_both y (kinds_of prefix) is prefix rest refl;
    wider = wider_both;
    some = some_both;
    first = λ b ts r e. first_by b ts r (read ts) refl e;
  }

-- a reader without a limit of levels stands in any whole
pub reads_anywhere : {A : Type 0} (Begun Exprs : Type 0) (whole : Option ℕ)
    (Is IsW : A → List TokenKind → Type 0) (read : Reads A)
    → IsReader Begun Exprs None Is IsW read → IsReader Begun Exprs whole Is IsW read
reads_anywhere Begun Exprs whole Is IsW read one = record {
  found = one.found;
  only = one.only;
  wider = one.wider;
  some = one.some;
  first = λ b ts r e. known ts r (one.first b ts r e);
}
  where
    apart : (n : ℕ) → None ≡ Some n → ⊥
    apart n e = cc

    ends : (before : List Token) (t : Token) (r : Refusal) → Ends Exprs None read before t r
        → Ends Exprs whole read before t r
    ends before t r (here h) = here h
    ends before t r (in_expr q outside within e d) = in_expr q outside within e d
    ends before t r (deep n is e h) = absurd (apart n is)

    known : (ts : List Token) (r : Refusal) → Refuses Exprs None Is read ts r
        → Refuses Exprs whole Is read ts r
    known ts r (inl out) = inl out
    known ts r (inr s) = inr (record {
      before = s.before;
      refused = s.refused;
      after = s.after;
      parts = s.parts;
      begins = s.begins;
      stands = s.stands;
      ends = ends s.before s.refused r s.ends;
      cause = s.cause;
    })
