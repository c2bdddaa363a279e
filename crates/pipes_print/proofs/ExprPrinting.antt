-- The text of an expression has the tokens of a sentence of it.
use Rattle.std.proofs.Common.{◌≡◌, ◌≢◌, ℕ, suc, zero, ◌+◌, ◌-◌, ◌^◌, ◌<◌, ◌≤◌, ℤ, pos, negsuc, ◌-ℤ◌}
use Rattle.std.proofs.Common.{Bool, true, false, List, [], ◌∷◌, ◌++◌, length, Some, refl, sym, ap}
use Rattle.std.proofs.Common.{subst, ◌∙◌, arith, rules, append_assoc, append-nil}
use Rattle.std.specs.Prelude.{codes}
use Rattle.std.specs.Fmt.{decimal}
use Rattle.std.specs.List.{flat_map}
use Rattle.std.proofs.lemmas.Int.{ints}
use Rattle.pipes_tuple.specs.Texts.{quoted}
use Rattle.pipes_tuple.specs.declared.value.Value.TheVariants as value
use Rattle.pipes_token.specs.declared.token.Sign.TheVariants.{Open, Close, OpenList, CloseList}
use Rattle.pipes_token.specs.declared.token.Sign.TheVariants.{Comma, Dollar, Equal, Minus}
use Rattle.pipes_token.specs.declared.token.Sign.TheVariants as sign
use Rattle.pipes_token.specs.declared.keyword.Keyword.TheVariants as keyword
use Rattle.pipes_token.specs.declared.token.TokenKind.{TokenKind}
use Rattle.pipes_token.specs.declared.token.TokenKind.TheVariants.{Sign, Keyword, Name, Number}
use Rattle.pipes_token.specs.declared.token.TokenKind.TheVariants.{Text}
use Rattle.pipes_token.specs.Writing.{IsApart, Writes, WritesFreely, IsSpelled}
use Rattle.pipes_token.proofs.Writing.{write_keyword, write_number, write_open, write_close}
use Rattle.pipes_token.proofs.Writing.{write_open_list, write_close_list, write_comma, write_dollar}
use Rattle.pipes_token.proofs.Writing.{write_plus, write_minus, write_star, write_equal, write_less}
use Rattle.pipes_token.proofs.Writing.{write_at_most, write_space_before, write_space_after}
use Rattle.pipes_token.proofs.Writing.{write_apart, write_then, write_apart_then}
use Rattle.pipes_token.proofs.Quoting.{write_quoted}
use Rattle.pipes_expr.specs.declared.expr.Expr.{Expr, the_lemmas}
use Rattle.pipes_expr.specs.declared.expr.Expr.TheVariants as expr
use Rattle.pipes_expr.specs.declared.op.Op.{Op}
use Rattle.pipes_expr.specs.declared.op.Op.TheVariants as op
use Rattle.pipes_grammar.specs.Ops.{op_of}
use Rattle.pipes_grammar.specs.Grammar as g
use Rattle.pipes_grammar.specs.Grammar.{IsExpr, column, number, negative, text, truth, falsehood}
use Rattle.pipes_grammar.specs.Grammar.{negated, pair}
use Rattle.pipes_print.specs.ExprText.{op_text, sides_text, expr_text}
use Rattle.pipes_print.specs.Printed.{AreSpelled}

-- what follows may be anything
abbrev pub Free : List ℕ → Type 0
Free more = Unit {0}

pub spelled_parts : (ks ls : List TokenKind) → AreSpelled (ks ++ ls) → AreSpelled ks × AreSpelled ls
spelled_parts [] ls h = (tt, h)
spelled_parts (k ∷ ks) ls h =
    let rest = spelled_parts ks ls h.1 in
    ((h.0, rest.0), rest.1)

-- ---- pieces

pub comma_space : WritesFreely (Sign Comma ∷ []) (codes ", ")
comma_space = write_space_after (Sign Comma ∷ []) (codes ",")
    (write_apart (Sign Comma ∷ []) (codes ",") write_comma)

spaced : (k : TokenKind) (bytes : List ℕ) → WritesFreely (k ∷ []) bytes
    → WritesFreely (k ∷ []) (32 ∷ (bytes ++ (32 ∷ [])))
spaced k bytes w = write_space_before Free (k ∷ []) (bytes ++ (32 ∷ []))
    (write_space_after (k ∷ []) bytes (write_apart (k ∷ []) bytes w))

spaced_word : (k : TokenKind) (bytes : List ℕ) → Writes (k ∷ []) bytes
    → WritesFreely (k ∷ []) (32 ∷ (bytes ++ (32 ∷ [])))
spaced_word k bytes w = write_space_before Free (k ∷ []) (bytes ++ (32 ∷ []))
    (write_space_after (k ∷ []) bytes w)

abbrev pub kind_of : Op → TokenKind
kind_of op.Add = Sign sign.Plus
kind_of op.Sub = Sign sign.Minus
kind_of op.Mul = Sign sign.Star
kind_of op.Eq = Sign sign.Equal
kind_of op.Lt = Sign sign.Less
kind_of op.Le = Sign sign.AtMost
kind_of op.And = Keyword keyword.And
kind_of op.Or = Keyword keyword.Or

pub op_again : (o : Op) → op_of (kind_of o) ≡ Some o
op_again op.Add = refl
op_again op.Sub = refl
op_again op.Mul = refl
op_again op.Eq = refl
op_again op.Lt = refl
op_again op.Le = refl
op_again op.And = refl
op_again op.Or = refl

op_written : (o : Op) → WritesFreely (kind_of o ∷ []) (op_text o)
op_written op.Add = spaced (Sign sign.Plus) (codes "+") write_plus
op_written op.Sub = spaced (Sign sign.Minus) (codes "-") write_minus
op_written op.Mul = spaced (Sign sign.Star) (codes "*") write_star
op_written op.Eq = spaced (Sign sign.Equal) (codes "=") write_equal
op_written op.Lt = write_space_before Free (Sign sign.Less ∷ []) (codes "< ") write_less
op_written op.Le = spaced (Sign sign.AtMost) (codes "<=") write_at_most
op_written op.And = spaced_word (Keyword keyword.And) (codes "and") (write_keyword keyword.And)
op_written op.Or = spaced_word (Keyword keyword.Or) (codes "or") (write_keyword keyword.Or)

op_apart : (o : Op) (rest more : List ℕ) → IsApart ((op_text o ++ rest) ++ more)
op_apart op.Add rest more = refl
op_apart op.Sub rest more = refl
op_apart op.Mul rest more = refl
op_apart op.Eq rest more = refl
op_apart op.Lt rest more = refl
op_apart op.Le rest more = refl
op_apart op.And rest more = refl
op_apart op.Or rest more = refl

-- ---- the text of each node

sides_are : (o : Op) (d e : Expr)
    → expr_text (expr.Binary o d e) ≡ sides_text o (expr_text d) (expr_text e)
sides_are o d e = search (rules, the_lemmas)

col_is : (i : ℕ) → expr_text (expr.Col i) ≡ codes "$" ++ decimal i
col_is i = search (rules, the_lemmas)

pos_is : (n : ℕ) → expr_text (expr.Literal (value.Int (pos n))) ≡ decimal n
pos_is n = search (rules, the_lemmas)

neg_is : (n : ℕ) → expr_text (expr.Literal (value.Int (negsuc n))) ≡ codes "-" ++ decimal (suc n)
neg_is n = search (rules, the_lemmas)

text_is : (t : List ℕ) → expr_text (expr.Literal (value.Text t)) ≡ quoted t
text_is t = search (rules, the_lemmas)

true_is : expr_text (expr.Literal (value.Flag true)) ≡ codes "true"
true_is = search (rules, the_lemmas)

false_is : expr_text (expr.Literal (value.Flag false)) ≡ codes "false"
false_is = search (rules, the_lemmas)

not_is : (e : Expr) → expr_text (expr.Not e) ≡ codes "not " ++ expr_text e
not_is e = search (rules, the_lemmas)

-- ---- an expression

pub record Prints (e : Expr) : Type 0 where
  pub kinds : List TokenKind
  pub is : IsExpr e kinds
  pub writes : Writes kinds (expr_text e)

by_text : (e : Expr) (kinds : List TokenKind) (bytes : List ℕ) → expr_text e ≡ bytes
    → IsExpr e kinds → Writes kinds bytes → Prints e
by_text e kinds bytes h k w = record {
  kinds = kinds;
  is = k;
  writes =
      subst (λ (x : List ℕ). Writes kinds x) (sym h) w;
}

sides_written : (o : Op) (ds es : List TokenKind) (a b : List ℕ) → Writes ds a → Writes es b
    → WritesFreely (Sign Open ∷ (ds ++ (kind_of o ∷ (es ++ (Sign Close ∷ []))))) (sides_text o a b)
sides_written o ds es a b v w =
    let last = write_apart_then Free es (Sign Close ∷ []) b (codes ")") (λ more. refl) w
    write_close in
    let right = write_then Free (kind_of o ∷ []) (es ++ (Sign Close ∷ [])) (op_text o)
    (b ++ codes ")") (op_written o) last in
    let left = write_apart_then Free ds (kind_of o ∷ (es ++ (Sign Close ∷ []))) a
    (op_text o ++ (b ++ codes ")")) (op_apart o (b ++ codes ")")) v right in
    write_then Free (Sign Open ∷ []) (ds ++ (kind_of o ∷ (es ++ (Sign Close ∷ [])))) (codes "(")
    (a ++ (op_text o ++ (b ++ codes ")"))) write_open left

both_sides : (o : Op) (d e : Expr) → Prints d → Prints e → Prints (expr.Binary o d e)
both_sides o d e p q =
    let kinds = Sign Open ∷ (p.kinds ++ (kind_of o ∷ (q.kinds ++ (Sign Close ∷ [])))) in
    by_text (expr.Binary o d e) kinds (sides_text o (expr_text d) (expr_text e)) (sides_are o d e)
    (pair (kind_of o) o d e p.kinds q.kinds (op_again o) p.is q.is)
    (write_apart kinds (sides_text o (expr_text d) (expr_text e))
    (sides_written o p.kinds q.kinds (expr_text d) (expr_text e) p.writes q.writes))

pub below_zero : (i : ℕ) → pos 0 -ℤ pos (suc i) ≡ negsuc i
below_zero i = omega (arith, ints)

negative_printed : (i : ℕ) → i ≤ 9223372036854775808 → Prints
    (expr.Literal (value.Int (pos 0 -ℤ pos i)))
negative_printed zero h = by_text (expr.Literal (value.Int (pos 0))) (Number 0 ∷ []) (decimal 0)
    (pos_is 0)
    (number 0 (omega arith)) (write_number 0 (omega arith))
negative_printed (suc i) h =
    let kinds = Sign Minus ∷ Number (suc i) ∷ [] in
    let is : IsExpr (expr.Literal (value.Int (negsuc i))) kinds =
    subst (λ (m : ℤ). IsExpr (expr.Literal (value.Int m)) kinds)
    (below_zero i) (negative (suc i) h) in
    let made = by_text (expr.Literal (value.Int (negsuc i))) kinds (codes "-" ++ decimal (suc i))
    (neg_is i) is
    (write_then IsApart (Sign Minus ∷ []) (Number (suc i) ∷ []) (codes "-") (decimal (suc i))
    write_minus (write_number (suc i) (omega arith))) in
    subst (λ (m : ℤ). Prints (expr.Literal (value.Int m))) (sym (below_zero i)) made

pub prints : (e : Expr) (ks : List TokenKind) → IsExpr e ks → AreSpelled ks → Prints e
prints _ _ (column i h) s = by_text (expr.Col i) (Sign Dollar ∷ Number i ∷ [])
    (codes "$" ++ decimal i) (col_is i) (column i h) (write_then IsApart (Sign Dollar ∷ [])
    (Number i ∷ []) (codes "$") (decimal i) write_dollar (write_number i (omega arith)))
prints _ _ (number i h) s = by_text (expr.Literal (value.Int (pos i))) (Number i ∷ []) (decimal i)
    (pos_is i)
    (number i h) (write_number i (omega arith))
prints _ _ (negative i h) s = negative_printed i h
prints _ _ (text t) s = by_text (expr.Literal (value.Text t)) (Text t ∷ []) (quoted t) (text_is t)
    (text t)
    (write_apart (Text t ∷ []) (quoted t) (write_quoted t s.0))
prints _ _ truth s = by_text (expr.Literal (value.Flag true)) (Keyword keyword.True ∷ [])
    (codes "true") true_is
    truth (write_keyword keyword.True)
prints _ _ falsehood s = by_text (expr.Literal (value.Flag false)) (Keyword keyword.False ∷ [])
    (codes "false")
    false_is falsehood (write_keyword keyword.False)
prints _ _ (negated e ks h) s =
    let p = prints e ks h s.1 in
    by_text (expr.Not e) (Keyword keyword.Not ∷ p.kinds) (codes "not " ++ expr_text e) (not_is e)
    (negated e p.kinds p.is) (write_then IsApart (Keyword keyword.Not ∷ []) p.kinds
    (codes "not ") (expr_text e) (write_space_after (Keyword keyword.Not ∷ []) (codes "not")
    (write_keyword keyword.Not)) p.writes)
prints _ _ (pair k o d e ds es f h l) s =
    let left = spelled_parts ds (k ∷ (es ++ (Sign Close ∷ []))) s.1 in
    let right = spelled_parts es (Sign Close ∷ []) left.1.1 in
    both_sides o d e (prints d ds h left.0) (prints e es l right.0)
