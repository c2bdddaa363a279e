-- A writable expression is one that some text has.
use Rattle.std.proofs.Common.{◌≡◌, ◌≤◌, ◌<◌, ◌^◌, ℕ, ℤ, zero, suc, pos, negsuc, ◌-ℤ◌, true, false}
use Rattle.std.proofs.Common.{List, [], ◌∷◌, ◌++◌, Option, Some, length, refl, sym, subst, arith}
use Rattle.std.specs.Prelude.{FitsSigned, IsUtf8}
use Rattle.std.specs.Int.{w64}
use Rattle.std.specs.Fmt.{decimal}
use Rattle.std.proofs.lemmas.Int.{ints}
use Rattle.pipes_tuple.specs.declared.value.Value.{Value}
use Rattle.pipes_tuple.specs.declared.value.Value.TheVariants as value
use Rattle.pipes_tuple.specs.Limits.{IsValue}
use Rattle.pipes_tuple.specs.Texts.{quoted}
use Rattle.pipes_token.specs.declared.token.Sign.{Sign as ASign}
use Rattle.pipes_token.specs.declared.token.Sign.TheVariants.{Open, Close, OpenList, CloseList}
use Rattle.pipes_token.specs.declared.token.Sign.TheVariants.{Comma, Dollar, Minus}
use Rattle.pipes_token.specs.declared.keyword.Keyword.{Keyword as AKeyword}
use Rattle.pipes_token.specs.declared.keyword.Keyword.TheVariants as keyword
use Rattle.pipes_token.specs.declared.token.TokenKind.{TokenKind}
use Rattle.pipes_token.specs.declared.token.TokenKind.TheVariants.{Sign, Keyword, Number, Text}
use Rattle.pipes_token.specs.Keywords.{keyword_text}
use Rattle.pipes_token.specs.Spelling.{sign_text}
use Rattle.pipes_token.specs.Writing.{IsSpelled}
use Rattle.pipes_token.proofs.Quoting.{string_of_utf8, utf8_of_string}
use Rattle.pipes_token.proofs.Writing.{spelled_number}
use Rattle.pipes_expr.specs.declared.op.Op.{Op}
use Rattle.pipes_expr.specs.declared.expr.Expr.{Expr}
use Rattle.pipes_expr.specs.declared.expr.Expr.TheVariants as expr
use Rattle.pipes_grammar.specs.Grammar as grammar
use Rattle.pipes_grammar.specs.Ops.{op_of}
use Rattle.pipes_grammar.specs.Grammar.{IsExpr, AreEntries, IsFilled, IsList}
use Rattle.pipes_grammar.specs.Limits.{IsExprText, AreExprsText}
use Rattle.pipes_print.specs.Printed.{AreSpelled}
use Rattle.pipes_print.specs.Writable.{Each, HasExprNodes, column, literal, binary, negated}
use Rattle.pipes_print.specs.Writable.{IsWritableExpr, AreWritableExprs}
use Rattle.pipes_print.proofs.ExprPrinting.{spelled_parts, kind_of, op_again, below_zero}

-- ---- kinds of tokens that some bytes spell

pub spelled_append : (ks ls : List TokenKind) → AreSpelled ks → AreSpelled ls
    → AreSpelled (ks ++ ls)
spelled_append [] ls h l = l
spelled_append (k ∷ ks) ls h l = (h.0, spelled_append ks ls h.1 l)

pub sign_spelled : (s : ASign) → IsSpelled (Sign s)
sign_spelled s = (sign_text s, refl)

pub keyword_spelled : (k : AKeyword) → IsSpelled (Keyword k)
keyword_spelled k = (keyword_text k, refl)

pub number_spelled : (i : ℕ) → i < 2 ^ 64 → IsSpelled (Number i)
number_spelled i small = (decimal i, spelled_number i small)

pub text_spelled : (t : List ℕ) → IsUtf8 t → length t ≤ 65535 → IsSpelled (Text t)
text_spelled t valid short = (quoted t, (string_of_utf8 t valid, short))

-- what a spelled string holds
pub spelled_text : (t : List ℕ) → IsSpelled (Text t) → IsUtf8 t × (length t ≤ 65535)
spelled_text t (bs, (string, short)) = (utf8_of_string t bs string, short)

-- ---- sentences

-- some tokens that bytes spell are a sentence of this value
pub record Sentence {A : Type 0} (Is : A → List TokenKind → Type 0) (x : A) : Type 0 where
  pub kinds : List TokenKind
  pub is : Is x kinds
  pub spelled : AreSpelled kinds

int_sentence : (z : ℤ) → FitsSigned w64 z → Sentence IsExpr (expr.Literal (value.Int z))
int_sentence (pos n) fits = record {
  kinds = Number n ∷ [];
  is = grammar.IsExpr.number n (omega (arith, fits));
  spelled = (number_spelled n (omega (arith, fits)), tt);
}
int_sentence (negsuc n) fits = record {
  kinds = Sign Minus ∷ Number (suc n) ∷ [];
  is = subst (λ (z : ℤ). IsExpr (expr.Literal (value.Int z)) (Sign Minus ∷ Number (suc n) ∷ []))
      (below_zero n) (grammar.IsExpr.negative (suc n) (omega (arith, fits)));
  spelled = (sign_spelled Minus, (number_spelled (suc n) (omega (arith, fits)), tt));
}

-- and what is written so is an integer of 64 bits
int_fits : (i : ℕ) → i < 9223372036854775808 → FitsSigned w64 (pos i)
int_fits i lt = omega (arith, lt)

below_fits : (i : ℕ) → suc i ≤ 9223372036854775808 → FitsSigned w64 (negsuc i)
below_fits i le = omega (arith, le)

negative_fits : (i : ℕ) → i ≤ 9223372036854775808 → FitsSigned w64 (pos 0 -ℤ pos i)
negative_fits zero le = int_fits 0 (omega arith)
negative_fits (suc i) le =
    subst (λ (z : ℤ). FitsSigned w64 z) (sym (below_zero i)) (below_fits i le)

value_sentence : (v : Value) → IsValue v → Sentence IsExpr (expr.Literal v)
value_sentence (value.Int z) is = int_sentence z is
value_sentence (value.Text t) is = record {
  kinds = Text t ∷ [];
  is = grammar.IsExpr.text t;
  spelled = (text_spelled t is.0 is.1, tt);
}
value_sentence (value.Flag true) is = record {
  kinds = Keyword keyword.True ∷ [];
  is = grammar.IsExpr.truth;
  spelled = (keyword_spelled keyword.True, tt);
}
value_sentence (value.Flag false) is = record {
  kinds = Keyword keyword.False ∷ [];
  is = grammar.IsExpr.falsehood;
  spelled = (keyword_spelled keyword.False, tt);
}

op_spelled : (k : TokenKind) (o : Op) → op_of k ≡ Some o → IsSpelled k
op_spelled (Sign s) o e = sign_spelled s
op_spelled (Keyword k) o e = keyword_spelled k
op_spelled _ o e = absurd cc

pub expr_sentence : (e : Expr) → HasExprNodes e → Sentence IsExpr e
expr_sentence _ (column i lt) = record {
  kinds = Sign Dollar ∷ Number i ∷ [];
  is = grammar.IsExpr.column i lt;
  spelled = (sign_spelled Dollar, (number_spelled i (omega (arith, lt)), tt));
}
expr_sentence _ (literal v is) = value_sentence v is
expr_sentence _ (negated e is) =
    let s = expr_sentence e is in
    record {
      kinds = Keyword keyword.Not ∷ s.kinds;
      is = grammar.IsExpr.negated e s.kinds s.is;
      spelled = (keyword_spelled keyword.Not, s.spelled);
    }
expr_sentence _ (binary op d e is-d is-e) =
    let s = expr_sentence d is-d in
    let t = expr_sentence e is-e in
    record {
      kinds = Sign Open ∷ (s.kinds ++ (kind_of op ∷ (t.kinds ++ (Sign Close ∷ []))));
      is = grammar.IsExpr.pair (kind_of op) op d e s.kinds t.kinds (op_again op) s.is t.is;
      spelled = (
        sign_spelled Open,
        spelled_append s.kinds (kind_of op ∷ (t.kinds ++ (Sign Close ∷ []))) s.spelled (
          op_spelled (kind_of op) op (op_again op),
          spelled_append t.kinds (Sign Close ∷ []) t.spelled (sign_spelled Close, tt),
        ),
      );
    }

-- ---- and back

pub expr_nodes_of : (e : Expr) (ks : List TokenKind) → IsExpr e ks → AreSpelled ks → HasExprNodes e
expr_nodes_of _ _ (grammar.IsExpr.column i lt) s = column i lt
expr_nodes_of _ _ (grammar.IsExpr.number i lt) s =
    literal (value.Int (pos i)) (int_fits i lt)
expr_nodes_of _ _ (grammar.IsExpr.negative i le) s =
    literal (value.Int (pos 0 -ℤ pos i)) (negative_fits i le)
expr_nodes_of _ _ (grammar.IsExpr.text t) s = literal (value.Text t) (spelled_text t s.0)
expr_nodes_of _ _ grammar.IsExpr.truth s = literal (value.Flag true) tt
expr_nodes_of _ _ grammar.IsExpr.falsehood s = literal (value.Flag false) tt
expr_nodes_of _ _ (grammar.IsExpr.negated e ks is) s = negated e (expr_nodes_of e ks is s.1)
expr_nodes_of _ _ (grammar.IsExpr.pair k op d e ds es f is-d is-e) s =
    let left = spelled_parts ds (k ∷ (es ++ (Sign Close ∷ []))) s.1 in
    let right = spelled_parts es (Sign Close ∷ []) left.1.1 in
    binary op d e (expr_nodes_of d ds is-d left.0) (expr_nodes_of e es is-e right.0)

-- ---- lists of one entry or more

module _ {A : Type 0} (Is : A → List TokenKind → Type 0) (Has : A → Type 0) where
  module _ (sentence : (x : A) → Has x → Sentence Is x) where
    pub entries_sentence : (x : A) (xs : List A) → Has x → Each Has xs
        → Sentence (AreEntries Is) (x ∷ xs)
    entries_sentence x [] h hs =
        let s = sentence x h in
        record {
          kinds = s.kinds;
          is = grammar.AreEntries.last x s.kinds s.is;
          spelled = s.spelled;
        }
    entries_sentence x (y ∷ ys) h hs =
        let s = sentence x h in
        let others = entries_sentence y ys hs.0 hs.1 in
        record {
          kinds = s.kinds ++ (Sign Comma ∷ others.kinds);
          is = grammar.AreEntries.more x (y ∷ ys) s.kinds others.kinds s.is others.is;
          spelled = spelled_append s.kinds (Sign Comma ∷ others.kinds) s.spelled
              (sign_spelled Comma, others.spelled);
        }

    pub filled_sentence : (xs : List A) → 1 ≤ length xs → Each Has xs → Sentence (IsFilled Is) xs
    filled_sentence [] some hs = absurd (omega (arith, some))
    filled_sentence (x ∷ xs) some hs =
        let s = entries_sentence x xs hs.0 hs.1 in
        record {
          kinds = Sign OpenList ∷ (s.kinds ++ (Sign CloseList ∷ []));
          is = grammar.IsFilled.entries (x ∷ xs) s.kinds s.is;
          spelled = (
            sign_spelled OpenList,
            spelled_append s.kinds (Sign CloseList ∷ []) s.spelled (sign_spelled CloseList, tt),
          );
        }

    pub list_sentence : (xs : List A) → Each Has xs → Sentence (IsList Is) xs
    list_sentence [] hs = record {
      kinds = Sign OpenList ∷ Sign CloseList ∷ [];
      is = grammar.IsList.empty;
      spelled = (sign_spelled OpenList, (sign_spelled CloseList, tt));
    }
    list_sentence (x ∷ xs) hs =
        let s = filled_sentence (x ∷ xs) (omega arith) hs in
        record {
          kinds = s.kinds;
          is = grammar.IsList.filled (x ∷ xs) s.kinds s.is;
          spelled = s.spelled;
        }

  module _ (nodes : (x : A) (ks : List TokenKind) → Is x ks → AreSpelled ks → Has x) where
    pub entries_of : (xs : List A) (ks : List TokenKind) → AreEntries Is xs ks → AreSpelled ks
        → (1 ≤ length xs) × Each Has xs
    entries_of _ _ (grammar.AreEntries.last x ks is) s = (omega arith, (nodes x ks is s, tt))
    entries_of _ _ (grammar.AreEntries.more x xs ks ls is are) s =
        let parts = spelled_parts ks (Sign Comma ∷ ls) s in
        (omega arith, (nodes x ks is parts.0, (entries_of xs ls are parts.1.1).1))

    pub filled_of : (xs : List A) (ks : List TokenKind) → IsFilled Is xs ks → AreSpelled ks
        → (1 ≤ length xs) × Each Has xs
    filled_of _ _ (grammar.IsFilled.entries xs ks are) s =
        entries_of xs ks are (spelled_parts ks (Sign CloseList ∷ []) s.1).0

    pub list_of : (xs : List A) (ks : List TokenKind) → IsList Is xs ks → AreSpelled ks
        → Each Has xs
    list_of _ _ grammar.IsList.empty s = tt
    list_of _ _ (grammar.IsList.filled xs ks is) s = (filled_of xs ks is s).1
