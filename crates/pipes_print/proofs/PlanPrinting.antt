-- The text of a plan has the tokens of a sentence of it.
use Rattle.std.proofs.Common.{◌≡◌, ℕ, ◌<◌, List, [], ◌∷◌, ◌++◌, Some, refl, sym, ap, subst, ◌∙◌}
use Rattle.std.proofs.Common.{rules, get_or}
use Rattle.std.specs.Prelude.{codes}
use Rattle.std.specs.Fmt.{decimal}
use Rattle.std.specs.Str.{bytes_eq}
use Rattle.std.proofs.lemmas.List.Quantifiers.{position-Some}
use Rattle.std.proofs.lemmas.Option.{unwrap_or-slice_get}
use Rattle.std.proofs.lemmas.Slice.Eq.{bytes_eq-Decides}
use Rattle.pipes_token.specs.declared.token.Sign.TheVariants.{Open, Close, Comma}
use Rattle.pipes_token.specs.declared.keyword.Keyword.{Keyword as AKeyword}
use Rattle.pipes_token.specs.declared.keyword.Keyword.TheVariants as keyword
use Rattle.pipes_token.specs.declared.token.TokenKind.{TokenKind}
use Rattle.pipes_token.specs.declared.token.TokenKind.TheVariants.{Sign, Keyword, Name}
use Rattle.pipes_token.specs.Keywords.{keyword_text}
use Rattle.pipes_token.specs.Writing.{IsApart, Writes, WritesFreely}
use Rattle.pipes_token.proofs.Writing.{write_keyword, write_name, write_open, write_close}
use Rattle.pipes_token.proofs.Writing.{write_apart, write_then, write_apart_then}
use Rattle.pipes_expr.specs.declared.expr.Expr.{Expr}
use Rattle.pipes_relation.specs.declared.lists.Pair.{Pair}
use Rattle.pipes_relation.specs.declared.lists.Agg.{Agg}
use Rattle.pipes_plan.specs.declared.plan.Plan.{Plan, the_lemmas}
use Rattle.pipes_plan.specs.declared.plan.Plan.TheVariants as plan
use Rattle.pipes_grammar.specs.Grammar as g
use Rattle.pipes_grammar.specs.Grammar.{IsExpr, IsFilled, IsList, IsColumnPlace, IsPair, IsAgg}
use Rattle.pipes_grammar.specs.Grammar.{IsPlan}
use Rattle.pipes_grammar.specs.Grammar.{source_named}
use Rattle.pipes_print.specs.ExprText.{expr_text, list_text}
use Rattle.pipes_print.specs.PlanText.{pair_text, agg_text, source_text, plan_text}
use Rattle.pipes_print.specs.Printed.{AreSpelled}
use Rattle.pipes_print.proofs.ExprPrinting.{Free, spelled_parts, comma_space, Prints, prints}
use Rattle.pipes_print.proofs.ListPrinting.{PrintsAs, filled_print, list_print, column_prints}
use Rattle.pipes_print.proofs.ListPrinting.{pair_prints, agg_prints}

expr_prints : (e : Expr) (ks : List TokenKind) → IsExpr e ks → AreSpelled ks
    → PrintsAs IsExpr expr_text e
expr_prints e ks h s =
    let p = prints e ks h s in
    record { kinds = p.kinds; is = p.is; writes = p.writes }

pub exprs_print : (es : List Expr) (ks : List TokenKind) → IsFilled IsExpr es ks → AreSpelled ks
    → PrintsAs (IsFilled IsExpr) (list_text expr_text) es
exprs_print es ks h s = filled_print Expr IsExpr expr_text expr_prints es ks h s

-- ---- pieces

-- a word and an opening bracket
opening : (k : AKeyword) → WritesFreely (Keyword k ∷ Sign Open ∷ []) (keyword_text k ++ codes "(")
opening k = write_apart_then Free (Keyword k ∷ []) (Sign Open ∷ []) (keyword_text k) (codes "(")
    (λ more. refl) (write_keyword k) write_open

-- the end of a node: its last part, and a closing bracket
closing : (ks : List TokenKind) (a : List ℕ) → Writes ks a → Writes (ks ++ (Sign Close ∷ []))
    (a ++ codes ")")
closing ks a w = write_apart_then IsApart ks (Sign Close ∷ []) a (codes ")") (λ more. refl) w
    (write_apart (Sign Close ∷ []) (codes ")") write_close)

-- a part, and what follows it after a comma
before_comma : (ks ls : List TokenKind) (a b : List ℕ) → Writes ks a → Writes ls b
    → Writes (ks ++ (Sign Comma ∷ ls)) (a ++ (codes ", " ++ b))
before_comma ks ls a b v w =
    write_apart_then IsApart ks (Sign Comma ∷ ls) a (codes ", " ++ b) (λ more. refl) v
    (write_then IsApart (Sign Comma ∷ []) ls (codes ", ") b comma_space w)

node : (k : AKeyword) (ks : List TokenKind) (a : List ℕ) → Writes ks a
    → Writes (Keyword k ∷ Sign Open ∷ ks) ((keyword_text k ++ codes "(") ++ a)
node k ks a w = write_then IsApart (Keyword k ∷ Sign Open ∷ []) ks (keyword_text k ++ codes "(") a
    (opening k) w

module _ (names : List (List ℕ)) where
  -- ---- the text of each node

  source_is : (i : ℕ) → plan_text names (plan.Source i) ≡ source_text names i
  source_is i = search (rules, the_lemmas)

  filter_is : (c : Expr) (a : Plan) → plan_text names (plan.Filter c a) ≡ codes "filter("
      ++ (expr_text c ++ (codes ", " ++ (plan_text names a ++ codes ")")))
  filter_is c a = search (rules, the_lemmas)

  map_is : (es : List Expr) (a : Plan) → plan_text names (plan.Map es a) ≡ codes "map("
      ++ (list_text expr_text es ++ (codes ", " ++ (plan_text names a ++ codes ")")))
  map_is es a = search (rules, the_lemmas)

  union_is : (a b : Plan) → plan_text names (plan.Union a b) ≡ codes "union("
      ++ (plan_text names a ++ (codes ", " ++ (plan_text names b ++ codes ")")))
  union_is a b = search (rules, the_lemmas)

  join_is : (k : List Pair) (c : Expr) (a b : Plan) → plan_text names (plan.Join k c a b) ≡ codes
      "join(" ++ (list_text pair_text k
      ++ (codes ", " ++ (expr_text c
      ++ (codes ", " ++ (plan_text names a ++ (codes ", " ++ (plan_text names b ++ codes ")")))))))
  join_is k c a b = search (rules, the_lemmas)

  distinct_is : (a : Plan) → plan_text names (plan.Distinct a) ≡ codes "distinct("
      ++ (plan_text names a ++ codes ")")
  distinct_is a = search (rules, the_lemmas)

  group_is : (k : List ℕ) (aggs : List Agg) (a : Plan) → plan_text names
      (plan.Group k aggs a) ≡ codes "group(" ++ (list_text decimal k
      ++ (codes ", " ++ (list_text agg_text aggs ++ (codes ", "
      ++ (plan_text names a ++ codes ")")))))
  group_is k aggs a = search (rules, the_lemmas)

  minus_is : (a b : Plan) → plan_text names (plan.Minus a b) ≡ codes "minus("
      ++ (plan_text names a ++ (codes ", " ++ (plan_text names b ++ codes ")")))
  minus_is a b = search (rules, the_lemmas)

  -- the name of the source that a word names is the word
  named : (word : List ℕ) (i : ℕ) → source_named names word ≡ Some i → source_text names i ≡ word
  named word i h =
      let found = position-Some (bytes_eq word) names i [] h in
      unwrap_or-slice_get names i [] ∙ sym ((bytes_eq-Decides word (get_or names i [])).0 found.1)

  abbrev Printed : Plan → Type 0
  Printed p = PrintsAs (IsPlan names) (plan_text names) p

  by_text : (p : Plan) (kinds : List TokenKind) (bytes : List ℕ) → plan_text names p ≡ bytes
      → IsPlan names p kinds → Writes kinds bytes → Printed p
  by_text p kinds bytes h k w = record {
    kinds = kinds;
    is = k;
    writes =
        subst (λ (x : List ℕ). Writes kinds x) (sym h) w;
  }

  pub plan_prints : (p : Plan) (ks : List TokenKind) → IsPlan names p ks → AreSpelled ks → Printed p
  plan_prints _ _ (g.IsPlan.source word i h) s =
      by_text (plan.Source i) (Name word ∷ []) word (source_is i ∙ named word i h)
      (g.IsPlan.source word i h) (write_name word s.0.1.1 s.0.1.2)
  plan_prints _ _ (g.IsPlan.filter c a cs ks h l) s =
      let parts = spelled_parts cs (Sign Comma ∷ (ks ++ (Sign Close ∷ []))) s.1.1 in
      let p = prints c cs h parts.0 in
      let q = plan_prints a ks l (spelled_parts ks (Sign Close ∷ []) parts.1.1).0 in
      let ca = before_comma p.kinds (q.kinds ++ (Sign Close ∷ [])) (expr_text c) (plan_text names a
      ++ codes ")") p.writes (closing q.kinds (plan_text names a) q.writes) in
      by_text (plan.Filter c a) _ _ (filter_is c a) (g.IsPlan.filter c a p.kinds q.kinds p.is q.is)
      (node keyword.Filter _ _ ca)
  plan_prints _ _ (g.IsPlan.mapped es a ls ks h l) s =
      let parts = spelled_parts ls (Sign Comma ∷ (ks ++ (Sign Close ∷ []))) s.1.1 in
      let p = exprs_print es ls h parts.0 in
      let q = plan_prints a ks l (spelled_parts ks (Sign Close ∷ []) parts.1.1).0 in
      let ea = before_comma p.kinds (q.kinds ++ (Sign Close ∷ [])) (list_text expr_text es)
      (plan_text names a ++ codes ")") p.writes (closing q.kinds (plan_text names a)
      q.writes) in
      by_text (plan.Map es a) _ _ (map_is es a) (g.IsPlan.mapped es a p.kinds q.kinds p.is q.is)
      (node keyword.Map _ _ ea)
  plan_prints _ _ (g.IsPlan.union a b ks ls h l) s =
      let parts = spelled_parts ks (Sign Comma ∷ (ls ++ (Sign Close ∷ []))) s.1.1 in
      let p = plan_prints a ks h parts.0 in
      let q = plan_prints b ls l (spelled_parts ls (Sign Close ∷ []) parts.1.1).0 in
      let ab = before_comma p.kinds (q.kinds ++ (Sign Close ∷ [])) (plan_text names a)
      (plan_text names b ++ codes ")") p.writes (closing q.kinds (plan_text names b)
      q.writes) in
      by_text (plan.Union a b) _ _ (union_is a b) (g.IsPlan.union a b p.kinds q.kinds p.is q.is)
      (node keyword.Union _ _ ab)
  plan_prints _ _ (g.IsPlan.minus a b ks ls h l) s =
      let parts = spelled_parts ks (Sign Comma ∷ (ls ++ (Sign Close ∷ []))) s.1.1 in
      let p = plan_prints a ks h parts.0 in
      let q = plan_prints b ls l (spelled_parts ls (Sign Close ∷ []) parts.1.1).0 in
      let ab = before_comma p.kinds (q.kinds ++ (Sign Close ∷ [])) (plan_text names a)
      (plan_text names b ++ codes ")") p.writes (closing q.kinds (plan_text names b)
      q.writes) in
      by_text (plan.Minus a b) _ _ (minus_is a b) (g.IsPlan.minus a b p.kinds q.kinds p.is q.is)
      (node keyword.Minus _ _ ab)
  plan_prints _ _ (g.IsPlan.distinct a ks h) s =
      let p = plan_prints a ks h (spelled_parts ks (Sign Close ∷ []) s.1.1).0 in
      by_text (plan.Distinct a) _ _ (distinct_is a) (g.IsPlan.distinct a p.kinds p.is)
      (node keyword.Distinct _ _ (closing p.kinds (plan_text names a) p.writes))
  plan_prints _ _ (g.IsPlan.join pairs c a b ps cs ks ls h i j l) s =
      let first = spelled_parts ps (Sign Comma ∷
      (cs ++ (Sign Comma ∷ (ks ++ (Sign Comma ∷ (ls ++ (Sign Close ∷ []))))))) s.1.1 in
      let second = spelled_parts cs (Sign Comma ∷ (ks ++ (Sign Comma ∷ (ls ++ (Sign Close ∷ [])))))
      first.1.1 in
      let third = spelled_parts ks (Sign Comma ∷ (ls ++ (Sign Close ∷ []))) second.1.1 in
      let o = list_print Pair IsPair pair_text pair_prints pairs ps h first.0 in
      let p = prints c cs i second.0 in
      let q = plan_prints a ks j third.0 in
      let r = plan_prints b ls l (spelled_parts ls (Sign Close ∷ []) third.1.1).0 in
      let ab = before_comma q.kinds (r.kinds ++ (Sign Close ∷ [])) (plan_text names a)
      (plan_text names b ++ codes ")") q.writes (closing r.kinds (plan_text names b)
      r.writes) in
      let cab = before_comma p.kinds _ (expr_text c) _ p.writes ab in
      let all = before_comma o.kinds _ (list_text pair_text pairs) _ o.writes cab in
      by_text (plan.Join pairs c a b) _ _ (join_is pairs c a b)
      (g.IsPlan.join pairs c a b o.kinds p.kinds q.kinds r.kinds o.is p.is q.is r.is)
      (node keyword.Join _ _ all)
  plan_prints _ _ (g.IsPlan.group columns aggs a cs gs ks h i j) s =
      let first = spelled_parts cs (Sign Comma ∷ (gs ++ (Sign Comma ∷ (ks ++ (Sign Close ∷ [])))))
      s.1.1 in
      let second = spelled_parts gs (Sign Comma ∷ (ks ++ (Sign Close ∷ []))) first.1.1 in
      let o = list_print ℕ IsColumnPlace decimal column_prints columns cs h first.0 in
      let p = list_print Agg IsAgg agg_text agg_prints aggs gs i second.0 in
      let q = plan_prints a ks j (spelled_parts ks (Sign Close ∷ []) second.1.1).0 in
      let ga = before_comma p.kinds (q.kinds ++ (Sign Close ∷ [])) (list_text agg_text aggs)
      (plan_text names a ++ codes ")") p.writes (closing q.kinds (plan_text names a)
      q.writes) in
      let all = before_comma o.kinds _ (list_text decimal columns) _ o.writes ga in
      by_text (plan.Group columns aggs a) _ _ (group_is columns aggs a)
      (g.IsPlan.group columns aggs a o.kinds p.kinds q.kinds o.is p.is q.is)
      (node keyword.Group _ _ all)
