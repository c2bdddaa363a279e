-- No sentence of the grammar has the last token of a text; so the readers of expressions, of their
-- lists and of plans are readers as all texts have them.
use Rattle.std.proofs.Common.{◌≡◌, ℕ, ◌<◌, Bool, true, false, ◌||◌, List, [], ◌∷◌, ◌++◌, length}
use Rattle.std.proofs.Common.{Option, Some, None, Err, refl, sym, ap, subst, ◌∙◌, append_assoc}
use Rattle.std.proofs.Common.{append-nil, ◌⊎◌, inl, inr}
use Rattle.pipes_token.specs.declared.refusal.Refusal.{Refusal}
use Rattle.pipes_token.specs.declared.token.Sign.TheVariants.{Close, CloseList, Comma}
use Rattle.pipes_token.specs.declared.token.TokenKind.{TokenKind}
use Rattle.pipes_token.specs.declared.token.TokenKind.TheVariants.{Sign, Keyword, Name, Number}
use Rattle.pipes_token.specs.declared.token.TokenKind.TheVariants.{Text, Long, Cut, Byte, End}
use Rattle.pipes_token.specs.declared.token.Token.{Token}
use Rattle.pipes_token.specs.Tokens.{is_last}
use Rattle.pipes_expr.specs.declared.expr.Expr.{Expr}
use Rattle.pipes_plan.specs.declared.plan.Plan.{Plan}
use Rattle.pipes_reader.specs.declared.fault.ParseFault.{ParseFault}
use Rattle.pipes_reader.specs.declared.fault.ParseFault.TheVariants.{Refused, Memory}
use Rattle.pipes_reader.specs.Reading.{Reads, Fails, kinds_of, done}
use Rattle.pipes_reader.specs.Sentences.{Anywhere, Begins, has_last}
use Rattle.pipes_reader.specs.Places.{FirstPlace}
use Rattle.pipes_reader.proofs.TokenLists.{kinds-append, tokens_of, kinds-tokens, both_unended}
use Rattle.pipes_reader.proofs.TokenLists.{prefix_unended}
use Rattle.pipes_reader.proofs.Causes as causes
use Rattle.pipes_reader.proofs.Readers.{IsReader, IsReaderIf, RefusedAt, refused_as_well}
use Rattle.pipes_reader.proofs.Readers.{first_place}
use Rattle.pipes_expr.specs.declared.op.Op.{Op}
use Rattle.pipes_grammar.specs.Ops.{op_of}
use Rattle.pipes_grammar.specs.Grammar as grammar
use Rattle.pipes_grammar.specs.Grammar.{IsExpr, AreEntries, IsFilled, IsList, IsColumnPlace, IsPair}
use Rattle.pipes_grammar.specs.Grammar.{IsAgg, IsPlan, HasSourceName}
use Rattle.pipes_grammar.specs.Limits.{IsExprText, AreExprsText, IsPlanText}
use Rattle.pipes_grammar.specs.Places.{RunsOut, IsExprPlace, IsExprsPlace, in_entry, ExprsRefused}
use Rattle.pipes_grammar.specs.Places.{IsPlanPlace}
use Rattle.pipes_grammar.specs.Places as places
use Rattle.pipes_grammar.specs.ExprReading.{parse_expr}
use Rattle.pipes_grammar.specs.ListReading.{parse_exprs}
use Rattle.pipes_grammar.specs.PlanReading.{parse_plan}
use Rattle.pipes_grammar.proofs.Readers as readers
use Rattle.pipes_grammar.proofs.Readers.{Ends, here, in_expr, deep, Refuses}
use Rattle.pipes_grammar.proofs.EntryReaders as entry
use Rattle.pipes_grammar.proofs.EntryReaders.{exprs_found}
use Rattle.pipes_grammar.proofs.Wholes.{WholePlace}
use Rattle.pipes_grammar.proofs.WholeExprs.{expr_found, expr_only, expr_place, expr_at}
use Rattle.pipes_grammar.proofs.WholePlans.{plan_found, plan_only, plan_place, plan_at}

-- ---- expressions and plans

op_unended : (k : TokenKind) (op : Op) → op_of k ≡ Some op → is_last k ≡ false
op_unended (Sign s) op e = refl
op_unended (Keyword k) op e = refl
op_unended _ op e = absurd cc

token_then : (k : TokenKind) (ks : List TokenKind) → is_last k ≡ false → has_last ks ≡ false
    → has_last (k ∷ ks) ≡ false
token_then k ks e f = ap (λ (b : Bool). b || has_last ks) e ∙ f

pub expr_unended : (x : Expr) (ks : List TokenKind) → IsExpr x ks → has_last ks ≡ false
expr_unended _ _ (grammar.IsExpr.column i lt) = refl
expr_unended _ _ (grammar.IsExpr.number i lt) = refl
expr_unended _ _ (grammar.IsExpr.negative i le) = refl
expr_unended _ _ (grammar.IsExpr.text t) = refl
expr_unended _ _ grammar.IsExpr.truth = refl
expr_unended _ _ grammar.IsExpr.falsehood = refl
expr_unended _ _ (grammar.IsExpr.negated e es is) = expr_unended e es is
expr_unended _ _ (grammar.IsExpr.pair k op d e ds es is a b) =
    both_unended ds (k ∷ (es ++ (Sign Close ∷ []))) (expr_unended d ds a)
    (token_then k (es ++ (Sign Close ∷ [])) (op_unended k op is)
    (both_unended es (Sign Close ∷ []) (expr_unended e es b) refl))

abbrev AllUnended : {A : Type 0} → (A → List TokenKind → Type 0) → Type 0
AllUnended {A} Is = (x : A) (ks : List TokenKind) → Is x ks → has_last ks ≡ false

entries_unended : {A : Type 0} (IsEntry : A → List TokenKind → Type 0) → AllUnended IsEntry
    → AllUnended (AreEntries IsEntry)
entries_unended IsEntry h _ _ (grammar.AreEntries.last x ks is) = h x ks is
entries_unended IsEntry h _ _ (grammar.AreEntries.more x xs ks ls is are) =
    both_unended ks (Sign Comma ∷ ls) (h x ks is) (entries_unended IsEntry h xs ls are)

filled_unended : {A : Type 0} (IsEntry : A → List TokenKind → Type 0) → AllUnended IsEntry
    → AllUnended (IsFilled IsEntry)
filled_unended IsEntry h _ _ (grammar.IsFilled.entries xs ks are) =
    both_unended ks (Sign CloseList ∷ []) (entries_unended IsEntry h xs ks are) refl

list_unended : {A : Type 0} (IsEntry : A → List TokenKind → Type 0) → AllUnended IsEntry
    → AllUnended (IsList IsEntry)
list_unended IsEntry h _ _ grammar.IsList.empty = refl
list_unended IsEntry h _ _ (grammar.IsList.filled xs ks is) = filled_unended IsEntry h xs ks is

column_unended : AllUnended IsColumnPlace
column_unended _ _ (grammar.IsColumnPlace.column i lt) = refl

pair_unended : AllUnended IsPair
pair_unended _ _ (grammar.IsPair.pair i j lt lt2) = refl

agg_unended : AllUnended IsAgg
agg_unended _ _ grammar.IsAgg.count = refl
agg_unended _ _ (grammar.IsAgg.sum i lt) = refl
agg_unended _ _ (grammar.IsAgg.least i lt) = refl
agg_unended _ _ (grammar.IsAgg.greatest i lt) = refl
agg_unended _ _ (grammar.IsAgg.average i lt) = refl

closed : (ks : List TokenKind) → has_last ks ≡ false → has_last (ks ++ (Sign Close ∷ [])) ≡ false
closed ks e = both_unended ks (Sign Close ∷ []) e refl

comma_then : (ks ls : List TokenKind) → has_last ks ≡ false → has_last ls ≡ false
    → has_last (ks ++ (Sign Comma ∷ ls)) ≡ false
comma_then ks ls e f = both_unended ks (Sign Comma ∷ ls) e f

pub plan_unended : (names : List (List ℕ)) (p : Plan) (ks : List TokenKind) → IsPlan names p ks
    → has_last ks ≡ false
plan_unended names _ _ (grammar.IsPlan.source word i e) = refl
plan_unended names _ _ (grammar.IsPlan.filter c a cs ks is it) =
    comma_then cs (ks ++ (Sign Close ∷ [])) (expr_unended c cs is)
    (closed ks (plan_unended names a ks it))
plan_unended names _ _ (grammar.IsPlan.mapped es a ls ks is it) =
    comma_then ls (ks ++ (Sign Close ∷ [])) (filled_unended IsExpr expr_unended es ls is)
    (closed ks (plan_unended names a ks it))
plan_unended names _ _ (grammar.IsPlan.union a b ks ls is it) =
    comma_then ks (ls ++ (Sign Close ∷ [])) (plan_unended names a ks is)
    (closed ls (plan_unended names b ls it))
plan_unended names _ _ (grammar.IsPlan.join pairs c a b ps cs ks ls ip ic is it) =
    comma_then ps (cs ++ (Sign Comma ∷ (ks ++ (Sign Comma ∷ (ls ++ (Sign Close ∷ []))))))
    (list_unended IsPair pair_unended pairs ps ip)
    (comma_then cs (ks ++ (Sign Comma ∷ (ls ++ (Sign Close ∷ [])))) (expr_unended c cs ic)
    (comma_then ks (ls ++ (Sign Close ∷ [])) (plan_unended names a ks is)
    (closed ls (plan_unended names b ls it))))
plan_unended names _ _ (grammar.IsPlan.distinct a ks is) = closed ks (plan_unended names a ks is)
plan_unended names _ _ (grammar.IsPlan.group columns aggs a cs gs ks ic ig is) =
    comma_then cs (gs ++ (Sign Comma ∷ (ks ++ (Sign Close ∷ []))))
    (list_unended IsColumnPlace column_unended columns cs ic)
    (comma_then gs (ks ++ (Sign Close ∷ [])) (list_unended IsAgg agg_unended aggs gs ig)
    (closed ks (plan_unended names a ks is)))
plan_unended names _ _ (grammar.IsPlan.minus a b ks ls is it) =
    comma_then ks (ls ++ (Sign Close ∷ [])) (plan_unended names a ks is)
    (closed ls (plan_unended names b ls it))

-- ---- the readers of expressions and of their lists

-- tokens that begin such a sentence don't have the last token of a text
no_end : {A : Type 0} (Is : A → List TokenKind → Type 0) → AllUnended Is → (ts : List Token)
    → has_last (kinds_of ts) ≡ true → Begins Is (kinds_of ts) → ⊥
no_end Is unended ts h (x, more, is) =
    differ (has_last (kinds_of ts))
    (prefix_unended (kinds_of ts) more (unended x (kinds_of ts ++ more) is)) h
  where
    differ : (b : Bool) → b ≡ false → b ≡ true → ⊥
    differ b e f = cc

refused_within : {A : Type 0} (Is : A → List TokenKind → Type 0)
    (Where Where2 : List Token → Token → Refusal → Type 0) (read : Reads A) → AllUnended Is
    → ((before : List Token) (t : Token) (r : Refusal) → Where before t r → Where2 before t r)
    → (ts : List Token) (r : Refusal) → has_last (kinds_of ts) ≡ true
    → RunsOut Is ts r ⊎ RefusedAt Is Where read ts r → RefusedAt Is Where2 read ts r
refused_within Is Where Where2 read unended place ts r h (inl out) =
    absurd (no_end Is unended ts h out.begins)
refused_within Is Where Where2 read unended place ts r h (inr f) =
    refused_as_well Is Is Where Where2 (λ x ks is. is) place read ts r f

pub reads_expr : IsReader IsExpr (Anywhere IsExprText) IsExprPlace parse_expr
reads_expr = record {
  found = expr_found;
  only = expr_only;
  wider = λ e ks h is. is.spells;
  alike = λ e ks k j a is. is;
  unended = expr_unended;
  first = λ ts r h e u.
      refused_within IsExpr (WholePlace ⊥ IsExpr IsExprText) IsExprPlace parse_expr expr_unended
      expr_place ts r h (expr_at ts r e);
}

exprs_place : (before : List Token) (t : Token) (r : Refusal)
    → Ends {A = List Expr} (Unit {0}) None parse_exprs before t r → IsExprsPlace before t r
exprs_place before t r (here (readers.there e)) = in_entry before [] (sym (append-nil before))
    (places.IsExprPlace.there e)
exprs_place before t r (here (readers.inside e)) = in_entry before [] (sym (append-nil before))
    (places.IsExprPlace.inside e)
exprs_place before t r (in_expr q outside within e d) = in_entry outside within e
    (places.IsExprPlace.deep d)
exprs_place before t r (deep n is e h) = absurd (no n is)
  where
    no : (n : ℕ) → None ≡ Some n → ⊥
    no n e = cc

exprs_at : (ts : List Token) (r : Refusal) → parse_exprs ts ≡ Err r
    → RunsOut (IsFilled IsExpr) ts r ⊎ RefusedAt (IsFilled IsExpr) IsExprsPlace parse_exprs ts r
exprs_at ts r e = by ((entry.reads_exprs (Unit {0}) None).first tt ts r e)
  where
    by : Refuses (Unit {0}) None (IsFilled IsExpr) parse_exprs ts r → RunsOut (IsFilled IsExpr) ts r
        ⊎ RefusedAt (IsFilled IsExpr) IsExprsPlace parse_exprs ts r
    by (inl out) = inl out
    by (inr s) = inr (record {
      before = s.before;
      refused = s.refused;
      after = s.after;
      parts = s.parts;
      begins = s.begins;
      stands = s.stands;
      place = exprs_place s.before s.refused r s.ends;
      cause = s.cause;
    })

-- nothing within the limits begins so
exprs_barred : (before : List Token)
    → ((other : List Token) → causes.Refuses parse_exprs (before ++ other))
    → Begins AreExprsText (kinds_of before) → ⊥
exprs_barred before refuses (es, more, is) =
    let us = before ++ tokens_of more in
    let kinds : kinds_of before ++ more ≡ kinds_of us =
    ap (λ (z : List TokenKind). kinds_of before ++ z) (sym (kinds-tokens more))
    ∙ sym (kinds-append before (tokens_of more)) in
    let read_on = (entry.reads_exprs (Unit {0}) None).only es us []
    (subst (λ (z : List TokenKind). AreExprsText es z) kinds is) in
    differ us (ap (λ (z : List Token). parse_exprs z) (sym (append-nil us)) ∙ read_on)
    (refuses (tokens_of more))
  where
    differ : (us : List Token) → parse_exprs us ≡ done es [] → causes.Refuses parse_exprs us → ⊥
    differ us e (d, f) = cc

pub exprs_first : (ts : List Token) (r : Refusal) → parse_exprs ts ≡ Err r
    → RunsOut (IsFilled IsExpr) ts r
    ⊎ FirstPlace (IsFilled IsExpr) AreExprsText IsExprsPlace parse_exprs ts r
exprs_first ts r e = by (exprs_at ts r e)
  where
    by : RunsOut (IsFilled IsExpr) ts r
        ⊎ RefusedAt (IsFilled IsExpr) IsExprsPlace parse_exprs ts r → RunsOut (IsFilled IsExpr) ts r
        ⊎ FirstPlace (IsFilled IsExpr) AreExprsText IsExprsPlace parse_exprs ts r
    by (inl out) = inl out
    by (inr s) = inr (first_place AreExprsText parse_exprs exprs_barred (IsFilled IsExpr)
        IsExprsPlace IsExprsPlace (λ before t r p. p) ts r s)

pub reads_exprs : IsReader (IsFilled IsExpr) (Anywhere AreExprsText) IsExprsPlace parse_exprs
reads_exprs = record {
  found = exprs_found;
  only = λ es prefix rest is. (entry.reads_exprs (Unit {0}) None).only es prefix rest is;
  wider = λ es ks h is. is.spells;
  alike = λ es ks k j a is. is;
  unended = filled_unended IsExpr expr_unended;
  first = λ ts r h e u.
      refused_within (IsFilled IsExpr) IsExprsPlace IsExprsPlace parse_exprs
      (filled_unended IsExpr expr_unended) (λ before t r p. p) ts r h (exprs_at ts r e);
}

pub exprs_refused : (fault : ParseFault) (ts : List Token) → Fails fault (parse_exprs ts)
    → ExprsRefused parse_exprs ts fault
exprs_refused (Refused r) ts e = exprs_first ts r e
exprs_refused Memory ts e = tt

-- ---- the reader of plans

pub reads_plan : (names : List (List ℕ))
    → IsReaderIf (λ ts. HasSourceName names) (IsPlan names) (Anywhere (IsPlanText names))
    (IsPlanPlace names) (parse_plan names)
reads_plan names = record {
  found = plan_found names;
  only = plan_only names;
  wider = λ p ks h is. is.spells;
  alike = λ p ks k j a is. is;
  unended = plan_unended names;
  first = λ ts r h e some.
      refused_within (IsPlan names) (WholePlace (Unit {0}) (IsPlan names) (IsPlanText names))
      (IsPlanPlace names) (parse_plan names) (plan_unended names) (plan_place names) ts r h
      (plan_at names some ts r e);
}
