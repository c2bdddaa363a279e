-- A writable plan is one that some text has.
use Rattle.std.proofs.Common.{◌≡◌, ◌≤◌, ◌<◌, ◌^◌, ℕ, zero, suc, ◌+◌, Bool, true, false, List, []}
use Rattle.std.proofs.Common.{◌∷◌, ◌++◌, ◌||◌, Option, Some, None, length, refl, sym, ◌∙◌, cond}
use Rattle.std.proofs.Common.{ltb, lt-ltb, get_or, ap, arith}
use Rattle.std.specs.List.{position, position_or_len}
use Rattle.std.specs.Str.{bytes_eq}
use Rattle.std.proofs.lemmas.List.Quantifiers.{position-Some}
use Rattle.std.proofs.lemmas.List.Folds.{list_any-append}
use Rattle.std.proofs.lemmas.List.Sums.{position_or_len_is}
use Rattle.pipes_token.specs.declared.token.Sign.TheVariants.{Open, Close, Comma, Equal}
use Rattle.pipes_token.specs.declared.keyword.Keyword.{Keyword as AKeyword}
use Rattle.pipes_token.specs.declared.keyword.Keyword.TheVariants as keyword
use Rattle.pipes_token.specs.declared.token.TokenKind.{TokenKind}
use Rattle.pipes_token.specs.declared.token.TokenKind.TheVariants.{Sign, Keyword, Name, Number}
use Rattle.pipes_expr.specs.declared.expr.Expr.{Expr}
use Rattle.pipes_relation.specs.declared.lists.Pair.{Pair}
use Rattle.pipes_relation.specs.declared.lists.Agg.{Agg}
use Rattle.pipes_relation.specs.declared.lists.Agg.TheVariants as agg
use Rattle.pipes_plan.specs.declared.plan.Plan.{Plan}
use Rattle.pipes_plan.specs.declared.plan.Plan.TheVariants as plan
use Rattle.pipes_reader.specs.Names.{is_taken, AreNew}
use Rattle.pipes_grammar.specs.Grammar as grammar
use Rattle.pipes_grammar.specs.Grammar.{IsExpr, IsFilled, IsList, IsColumnPlace, IsPair, IsAgg}
use Rattle.pipes_grammar.specs.Grammar.{IsPlan}
use Rattle.pipes_grammar.specs.Grammar.{source_named}
use Rattle.pipes_grammar.specs.Limits.{IsExprText, AreExprsText, IsPlanText}
use Rattle.pipes_grammar.proofs.PlanLevels.{first_named}
use Rattle.pipes_print.specs.Printed.{AreSpelled, ExprPrinted, ExprsPrinted, PlanPrinted}
use Rattle.pipes_print.specs.Writable.{Each, HasExprNodes, IsWritableExpr, AreWritableExprs}
use Rattle.pipes_print.specs.Writable.{IsColumnNumber, HasPairColumns, HasAggColumn, HasPlanNodes}
use Rattle.pipes_print.specs.Writable.{source, filter, mapped, union, join, distinct, group, minus}
use Rattle.pipes_print.specs.Writable.{IsWritablePlan, AreSourceNames}
use Rattle.pipes_reader.specs.Names.{IsSourceName}
use Rattle.pipes_print.proofs.ExprPrinting.{spelled_parts}
use Rattle.pipes_print.proofs.Again.{expr_again, exprs_again, plan_again}
use Rattle.pipes_print.proofs.WritableExprs.{spelled_append, sign_spelled, keyword_spelled}
use Rattle.pipes_print.proofs.WritableExprs.{number_spelled, Sentence, expr_sentence, expr_nodes_of}
use Rattle.pipes_print.proofs.WritableExprs.{filled_sentence, list_sentence, filled_of, list_of}

-- ---- entries

column_sentence : (i : ℕ) → IsColumnNumber i → Sentence IsColumnPlace i
column_sentence i lt = record {
  kinds = Number i ∷ [];
  is = grammar.IsColumnPlace.column i lt;
  spelled = (number_spelled i (omega (arith, lt)), tt);
}

column_of : (i : ℕ) (ks : List TokenKind) → IsColumnPlace i ks → AreSpelled ks → IsColumnNumber i
column_of _ _ (grammar.IsColumnPlace.column i lt) s = lt

pair_sentence : (pair : Pair) → HasPairColumns pair → Sentence IsPair pair
pair_sentence pair h = record {
  kinds = Number pair.left ∷ Sign Equal ∷ Number pair.right ∷ [];
  is = grammar.IsPair.pair pair.left pair.right h.0 h.1;
  spelled = (
    number_spelled pair.left (omega (arith, h.0)),
    (sign_spelled Equal, (number_spelled pair.right (omega (arith, h.1)), tt)),
  );
}

pair_of : (pair : Pair) (ks : List TokenKind) → IsPair pair ks → AreSpelled ks
    → HasPairColumns pair
pair_of _ _ (grammar.IsPair.pair i j lt lt2) s = (lt, lt2)

agg_of_column : (k : AKeyword) (a : Agg) (i : ℕ) → i < 32 → IsAgg a (Keyword k ∷ Number i ∷ [])
    → Sentence IsAgg a
agg_of_column k a i lt is = record {
  kinds = Keyword k ∷ Number i ∷ [];
  is = is;
  spelled = (keyword_spelled k, (number_spelled i (omega (arith, lt)), tt));
}

agg_sentence : (a : Agg) → HasAggColumn a → Sentence IsAgg a
agg_sentence agg.Count h = record {
  kinds = Keyword keyword.Count ∷ [];
  is = grammar.IsAgg.count;
  spelled = (keyword_spelled keyword.Count, tt);
}
agg_sentence (agg.Sum i) h = agg_of_column keyword.Sum (agg.Sum i) i h (grammar.IsAgg.sum i h)
agg_sentence (agg.Min i) h = agg_of_column keyword.Min (agg.Min i) i h (grammar.IsAgg.least i h)
agg_sentence (agg.Max i) h = agg_of_column keyword.Max (agg.Max i) i h (grammar.IsAgg.greatest i h)
agg_sentence (agg.Avg i) h = agg_of_column keyword.Avg (agg.Avg i) i h (grammar.IsAgg.average i h)

agg_of : (a : Agg) (ks : List TokenKind) → IsAgg a ks → AreSpelled ks → HasAggColumn a
agg_of _ _ grammar.IsAgg.count s = tt
agg_of _ _ (grammar.IsAgg.sum i lt) s = lt
agg_of _ _ (grammar.IsAgg.least i lt) s = lt
agg_of _ _ (grammar.IsAgg.greatest i lt) s = lt
agg_of _ _ (grammar.IsAgg.average i lt) s = lt

-- ---- plans over declared sources

-- the name with this number, of names of a kind, which is none of those taken
pub record NameAt (IsName : List ℕ → Type 0) (taken names : List (List ℕ)) (i : ℕ) : Type 0 where
  pub word : List ℕ
  pub named : source_named names word ≡ Some i
  pub is : IsName word
  pub new : is_taken taken word ≡ false

some_below : (n m : ℕ) → n < m → cond (ltb n m) (Some n) None ≡ Some n
some_below n m lt = rw (lt-ltb n m lt) refl

-- what isn't the first is found after it
later : (p : List ℕ → Bool) (x : List ℕ) (xs : List (List ℕ)) (j : ℕ) → p x ≡ false
    → position p xs ≡ Some j → position p (x ∷ xs) ≡ Some (suc j)
later p x xs j other is =
    let w = position-Some p xs j [] is in
    let e : position_or_len p (x ∷ xs) ≡ suc j =
    position_or_len_is p (x ∷ xs) (suc j) [] (omega (arith, w.0)) (before w.2) (λ lt. w.1) in
    ap (λ (n : ℕ). cond (ltb n (length (x ∷ xs))) (Some n) None) e
    ∙ some_below (suc j) (length (x ∷ xs)) (omega (arith, w.0))
  where
    before : ((k : ℕ) → k < j → p (get_or xs k []) ≡ false) → (k : ℕ) → k < suc j
        → p (get_or (x ∷ xs) k []) ≡ false
    before h zero lt = other
    before h (suc k) lt = h k (omega (arith, lt))

pub none_of_two : (a b : Bool) → (a || b) ≡ false → (a ≡ false) × (b ≡ false)
none_of_two false b e = (refl, e)
none_of_two true b e = absurd cc

pub named_at : (IsName : List ℕ → Type 0) (taken names : List (List ℕ)) (i : ℕ) → Each IsName names
    → AreNew taken names → i < length names → NameAt IsName taken names i
named_at IsName taken [] i are new lt = absurd (omega (arith, lt))
named_at IsName taken (name ∷ names) zero are new lt = record {
  word = name;
  named = first_named name names;
  is = are.0;
  new = new.0;
}
named_at IsName taken (name ∷ names) (suc i) are new lt =
    let w = named_at IsName (taken ++ (name ∷ [])) names i are.1 new.1 (omega (arith, lt)) in
    let parts = none_of_two (is_taken taken w.word) (is_taken (name ∷ []) w.word)
    (sym (list_any-append (bytes_eq w.word) taken (name ∷ [])) ∙ w.new) in
    let other = none_of_two (bytes_eq w.word name) false parts.1 in
    record {
      word = w.word;
      named = later (bytes_eq w.word) name names i other.0 w.named;
      is = w.is;
      new = parts.0;
    }

module _ (names : List (List ℕ)) where
  -- parts with a comma or `)` after each
  closed : (ks : List TokenKind) → AreSpelled ks → AreSpelled (ks ++ (Sign Close ∷ []))
  closed ks h = spelled_append ks (Sign Close ∷ []) h (sign_spelled Close, tt)

  then_comma : (ks ls : List TokenKind) → AreSpelled ks → AreSpelled ls
      → AreSpelled (ks ++ (Sign Comma ∷ ls))
  then_comma ks ls h l = spelled_append ks (Sign Comma ∷ ls) h (sign_spelled Comma, l)

  opened : (k : AKeyword) (ks : List TokenKind) → AreSpelled ks
      → AreSpelled (Keyword k ∷ Sign Open ∷ ks)
  opened k ks h = (keyword_spelled k, (sign_spelled Open, h))

  plan_sentence : ((i : ℕ) → i < length names → NameAt IsSourceName [] names i) → (p : Plan)
      → HasPlanNodes (length names) p → Sentence (IsPlan names) p
  plan_sentence words _ (source i lt) =
      let w = words i lt in
      record {
        kinds = Name w.word ∷ [];
        is = grammar.IsPlan.source w.word i w.named;
        spelled = ((w.word, (refl, w.is.0, w.is.1)), tt);
      }
  plan_sentence words _ (filter c a is-c is-a) =
      let e = expr_sentence c is-c in
      let s = plan_sentence words a is-a in
      record {
        kinds = Keyword keyword.Filter ∷ Sign Open
            ∷ (e.kinds ++ (Sign Comma ∷ (s.kinds ++ (Sign Close ∷ []))));
        is = grammar.IsPlan.filter c a e.kinds s.kinds e.is s.is;
        spelled = opened keyword.Filter _ (then_comma e.kinds _ e.spelled
            (closed s.kinds s.spelled));
      }
  plan_sentence words _ (mapped es a some is-es is-a) =
      let e = filled_sentence IsExpr HasExprNodes expr_sentence es some is-es in
      let s = plan_sentence words a is-a in
      record {
        kinds = Keyword keyword.Map ∷ Sign Open
            ∷ (e.kinds ++ (Sign Comma ∷ (s.kinds ++ (Sign Close ∷ []))));
        is = grammar.IsPlan.mapped es a e.kinds s.kinds e.is s.is;
        spelled = opened keyword.Map _ (then_comma e.kinds _ e.spelled (closed s.kinds s.spelled));
      }
  plan_sentence words _ (union a b is-a is-b) =
      let s = plan_sentence words a is-a in
      let t = plan_sentence words b is-b in
      record {
        kinds = Keyword keyword.Union ∷ Sign Open
            ∷ (s.kinds ++ (Sign Comma ∷ (t.kinds ++ (Sign Close ∷ []))));
        is = grammar.IsPlan.union a b s.kinds t.kinds s.is t.is;
        spelled = opened keyword.Union _ (then_comma s.kinds _ s.spelled
            (closed t.kinds t.spelled));
      }
  plan_sentence words _ (join pairs c a b is-k is-c is-a is-b) =
      let k = list_sentence IsPair HasPairColumns pair_sentence pairs is-k in
      let e = expr_sentence c is-c in
      let s = plan_sentence words a is-a in
      let t = plan_sentence words b is-b in
      record {
        kinds = Keyword keyword.Join ∷ Sign Open ∷ (k.kinds ++ (Sign Comma ∷ (e.kinds ++ (Sign Comma
            ∷ (s.kinds ++ (Sign Comma ∷ (t.kinds ++ (Sign Close ∷ []))))))));
        is = grammar.IsPlan.join pairs c a b k.kinds e.kinds s.kinds t.kinds k.is e.is s.is t.is;
        spelled = opened keyword.Join _ (then_comma k.kinds _ k.spelled
            (then_comma e.kinds _ e.spelled
            (then_comma s.kinds _ s.spelled (closed t.kinds t.spelled))));
      }
  plan_sentence words _ (distinct a is-a) =
      let s = plan_sentence words a is-a in
      record {
        kinds = Keyword keyword.Distinct ∷ Sign Open ∷ (s.kinds ++ (Sign Close ∷ []));
        is = grammar.IsPlan.distinct a s.kinds s.is;
        spelled = opened keyword.Distinct _ (closed s.kinds s.spelled);
      }
  plan_sentence words _ (group columns aggs a is-k is-g is-a) =
      let k = list_sentence IsColumnPlace IsColumnNumber column_sentence columns is-k in
      let g = list_sentence IsAgg HasAggColumn agg_sentence aggs is-g in
      let s = plan_sentence words a is-a in
      record {
        kinds = Keyword keyword.Group ∷ Sign Open ∷ (k.kinds
            ++ (Sign Comma ∷ (g.kinds ++ (Sign Comma
            ∷ (s.kinds ++ (Sign Close ∷ []))))));
        is = grammar.IsPlan.group columns aggs a k.kinds g.kinds s.kinds k.is g.is s.is;
        spelled = opened keyword.Group _ (then_comma k.kinds _ k.spelled
            (then_comma g.kinds _ g.spelled (closed s.kinds s.spelled)));
      }
  plan_sentence words _ (minus a b is-a is-b) =
      let s = plan_sentence words a is-a in
      let t = plan_sentence words b is-b in
      record {
        kinds = Keyword keyword.Minus ∷ Sign Open
            ∷ (s.kinds ++ (Sign Comma ∷ (t.kinds ++ (Sign Close ∷ []))));
        is = grammar.IsPlan.minus a b s.kinds t.kinds s.is t.is;
        spelled = opened keyword.Minus _ (then_comma s.kinds _ s.spelled
            (closed t.kinds t.spelled));
      }

  -- ---- and back

  -- a source that is named is declared
  named_below : (names : List (List ℕ)) (word : List ℕ) (i : ℕ) → source_named names word ≡ Some i
      → i < length names
  named_below names word i e = (position-Some (bytes_eq word) names i [] e).0

  before_close : (ks : List TokenKind) → AreSpelled (ks ++ (Sign Close ∷ [])) → AreSpelled ks
  before_close ks h = (spelled_parts ks (Sign Close ∷ []) h).0

  before_comma : (ks ls : List TokenKind) → AreSpelled (ks ++ (Sign Comma ∷ ls))
      → AreSpelled ks × AreSpelled ls
  before_comma ks ls h = let parts = spelled_parts ks (Sign Comma ∷ ls) h in (parts.0, parts.1.1)

  plan_nodes_of : (p : Plan) (ks : List TokenKind) → IsPlan names p ks → AreSpelled ks
      → HasPlanNodes (length names) p
  plan_nodes_of _ _ (grammar.IsPlan.source word i e) s = source i (named_below names word i e)
  plan_nodes_of _ _ (grammar.IsPlan.filter c a cs ks is-c is-a) s =
      let parts = before_comma cs (ks ++ (Sign Close ∷ [])) s.1.1 in
      filter c a (expr_nodes_of c cs is-c parts.0)
      (plan_nodes_of a ks is-a (before_close ks parts.1))
  plan_nodes_of _ _ (grammar.IsPlan.mapped es a cs ks is-es is-a) s =
      let parts = before_comma cs (ks ++ (Sign Close ∷ [])) s.1.1 in
      let e = filled_of IsExpr HasExprNodes expr_nodes_of es cs is-es parts.0 in
      mapped es a e.0 e.1 (plan_nodes_of a ks is-a (before_close ks parts.1))
  plan_nodes_of _ _ (grammar.IsPlan.union a b ks ls is-a is-b) s =
      let parts = before_comma ks (ls ++ (Sign Close ∷ [])) s.1.1 in
      union a b (plan_nodes_of a ks is-a parts.0)
      (plan_nodes_of b ls is-b (before_close ls parts.1))
  plan_nodes_of _ _ (grammar.IsPlan.join pairs c a b ps cs ks ls is-k is-c is-a is-b) s =
      let p = before_comma ps (cs ++
      (Sign Comma ∷ (ks ++ (Sign Comma ∷ (ls ++ (Sign Close ∷ []))))))
      s.1.1 in
      let q = before_comma cs (ks ++ (Sign Comma ∷ (ls ++ (Sign Close ∷ [])))) p.1 in
      let r = before_comma ks (ls ++ (Sign Close ∷ [])) q.1 in
      join pairs c a b (list_of IsPair HasPairColumns pair_of pairs ps is-k p.0)
      (expr_nodes_of c cs is-c q.0) (plan_nodes_of a ks is-a r.0)
      (plan_nodes_of b ls is-b (before_close ls r.1))
  plan_nodes_of _ _ (grammar.IsPlan.distinct a ks is-a) s =
      distinct a (plan_nodes_of a ks is-a (before_close ks s.1.1))
  plan_nodes_of _ _ (grammar.IsPlan.group columns aggs a cs gs ks is-k is-g is-a) s =
      let p = before_comma cs (gs ++ (Sign Comma ∷ (ks ++ (Sign Close ∷ [])))) s.1.1 in
      let q = before_comma gs (ks ++ (Sign Close ∷ [])) p.1 in
      group columns aggs a (list_of IsColumnPlace IsColumnNumber column_of columns cs is-k p.0)
      (list_of IsAgg HasAggColumn agg_of aggs gs is-g q.0)
      (plan_nodes_of a ks is-a (before_close ks q.1))
  plan_nodes_of _ _ (grammar.IsPlan.minus a b ks ls is-a is-b) s =
      let parts = before_comma ks (ls ++ (Sign Close ∷ [])) s.1.1 in
      minus a b (plan_nodes_of a ks is-a parts.0)
      (plan_nodes_of b ls is-b (before_close ls parts.1))

-- ---- what is printed of a writable value is a text of it

pub expr_printed : (e : Expr) → IsWritableExpr e → ExprPrinted e
expr_printed e is =
    let s = expr_sentence e is.nodes in
    expr_again e s.kinds (record { spells = s.is; depth = is.depth }) s.spelled

pub exprs_printed : (es : List Expr) → AreWritableExprs es → ExprsPrinted es
exprs_printed es is =
    let s = filled_sentence IsExpr HasExprNodes expr_sentence es is.some is.nodes in
    exprs_again es s.kinds (record { spells = s.is; depth = is.depth; entries = is.entries })
    s.spelled

pub plan_text_of : (names : List (List ℕ)) (p : Plan) → AreSourceNames names
    → IsWritablePlan (length names) p → Sentence (IsPlanText names) p
plan_text_of names p named is =
    let s = plan_sentence names
    (λ i lt. named_at IsSourceName [] names i named.words named.once lt) p
    is.nodes in
    record {
      kinds = s.kinds;
      is = record { spells = s.is; depth = is.depth; exprs = is.exprs; lists = is.lists };
      spelled = s.spelled;
    }

pub plan_printed : (names : List (List ℕ)) (p : Plan) → AreSourceNames names
    → IsWritablePlan (length names) p → PlanPrinted names p
plan_printed names p named is =
    let s = plan_text_of names p named is in
    plan_again names p s.kinds s.is s.spelled

-- ---- and what some text has is writable

pub expr_writable : (e : Expr) (ks : List TokenKind) → IsExprText e ks → AreSpelled ks
    → IsWritableExpr e
expr_writable e ks is s = record { nodes = expr_nodes_of e ks is.spells s; depth = is.depth }

pub exprs_writable : (es : List Expr) (ks : List TokenKind) → AreExprsText es ks → AreSpelled ks
    → AreWritableExprs es
exprs_writable es ks is s =
    let e = filled_of IsExpr HasExprNodes expr_nodes_of es ks is.spells s in
    record { some = e.0; nodes = e.1; depth = is.depth; entries = is.entries }

pub plan_writable : (names : List (List ℕ)) (p : Plan) (ks : List TokenKind) → IsPlanText names p ks
    → AreSpelled ks → IsWritablePlan (length names) p
plan_writable names p ks is s = record {
  nodes = plan_nodes_of names p ks is.spells s;
  depth = is.depth;
  exprs = is.exprs;
  lists = is.lists;
}
