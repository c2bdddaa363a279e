-- The reader of a whole expression.
use Rattle.std.proofs.Common.{◌≡◌, ◌≤◌, ◌+◌, ℕ, zero, suc, pos, ◌-ℤ◌, Option, Some, List, [], ◌∷◌}
use Rattle.std.proofs.Common.{true, false}
use Rattle.std.proofs.Common.{◌++◌, Result, Ok, Err, refl, arith, ◌⊎◌, inl, inr}
use Rattle.pipes_tuple.specs.declared.value.Value.TheVariants as value
use Rattle.pipes_token.specs.declared.refusal.Refusal.{Refusal}
use Rattle.pipes_token.specs.declared.token.TokenKind.{TokenKind}
use Rattle.pipes_token.specs.declared.token.Token.{Token}
use Rattle.pipes_expr.specs.declared.expr.Expr.{Expr}
use Rattle.pipes_expr.specs.ExprSize.{expr_depth}
use Rattle.pipes_reader.specs.declared.fault.ParseFault.{ParseFault}
use Rattle.pipes_reader.specs.declared.fault.ParseFault.TheVariants.{Refused, Memory}
use Rattle.pipes_grammar.specs.Grammar.{IsExpr, column, number, negative, text, truth, falsehood}
use Rattle.pipes_grammar.specs.Grammar.{negated, pair}
use Rattle.pipes_grammar.specs.Limits.{IsExprText}
use Rattle.pipes_reader.specs.Reading.{Reads, kinds_of, Fails, place_of}
use Rattle.pipes_grammar.specs.Reading.{SentencePrefix}
use Rattle.pipes_grammar.specs.ExprReading.{expr_layer, expr_within, parse_expr}
use Rattle.pipes_reader.specs.Sentences.{Begins}
use Rattle.pipes_reader.specs.Places.{FirstPlace}
use Rattle.pipes_reader.proofs.Readers.{RefusedAt}
use Rattle.pipes_grammar.specs.Places.{RunsOut, IsExprPlace, there, inside, deep, ExprRefused}
use Rattle.pipes_grammar.proofs.Readers.{AtToken, Refuses, IsReader}
use Rattle.pipes_grammar.proofs.Readers as readers
use Rattle.pipes_grammar.proofs.Layers.{reads_as}
use Rattle.pipes_grammar.proofs.Wholes.{WholePlace, on_token, in_inner, in_whole, reads_no_level}
use Rattle.pipes_grammar.proofs.Wholes.{whole_first, first_by, whole_found, whole_only}
use Rattle.pipes_grammar.proofs.Depths.{expr_depth-Col, expr_depth-Literal, expr_depth-Not}
use Rattle.pipes_grammar.proofs.Depths.{expr_depth-Binary}
use Rattle.pipes_grammar.proofs.Expressions.{Level, some_expr, reads_level}

some_level : (e : Expr) (ks : List TokenKind) → IsExpr e ks → 1 ≤ expr_depth e
some_level _ _ (column i lt) = omega (arith, expr_depth-Col i)
some_level _ _ (number i lt) = omega (arith, expr_depth-Literal (value.Int (pos i)))
some_level _ _ (negative i le) = omega (arith, expr_depth-Literal (value.Int (pos 0 -ℤ pos i)))
some_level _ _ (text t) = omega (arith, expr_depth-Literal (value.Text t))
some_level _ _ truth = omega (arith, expr_depth-Literal (value.Flag true))
some_level _ _ falsehood = omega (arith, expr_depth-Literal (value.Flag false))
some_level _ _ (negated a ks is) = omega (arith, expr_depth-Not a)
some_level _ _ (pair k o a b ks ls is-o is-a is-b) = omega (arith, expr_depth-Binary o a b)

no_level : (e : Expr) (ks : List TokenKind) → Level 0 e ks → ⊥
no_level e ks is = omega (arith, some_level e ks is.spells, is.depth)

reads_levels : (Begun Exprs : Type 0) (whole n : ℕ) → IsReader Begun Exprs (Some whole) IsExpr
    (Level n) (expr_within n whole)
unfolding expr_within
reads_levels Begun Exprs whole zero = reads_no_level Begun Exprs whole IsExpr (Level 0) no_level
    (λ b. some_expr)
reads_levels Begun Exprs whole (suc n) = reads_level Begun Exprs (Some whole) n
    (expr_within n whole) (reads_levels Begun Exprs whole n)

-- an expression by itself has no other in it
reads_whole : (whole : ℕ) → IsReader (Unit {0}) ⊥ (Some whole) IsExpr IsExprText
    (expr_within 32 whole)
reads_whole whole =
    reads_as (Unit {0}) ⊥ (Some whole) IsExpr (Level 32) IsExpr IsExprText (expr_within 32 whole)
    (reads_levels (Unit {0}) ⊥ whole 32) (λ e ks is. is)
    (λ e ks is. record { spells = is.spells; depth = is.depth })
    (λ e ks is. record { spells = is.spells; depth = is.depth }) (λ e ks is. is.spells)

-- ---- the laws

pub expr_found : (ts : List Token) (e : Expr) (rest : List Token) → parse_expr ts ≡ Ok (e, rest)
    → SentencePrefix IsExprText e ts rest
unfolding parse_expr
expr_found ts e rest h = whole_found (Unit {0}) ⊥ IsExpr IsExprText (λ whole. expr_within 32 whole)
    reads_whole ts e rest h

pub expr_only : (e : Expr) (prefix rest : List Token) → IsExprText e (kinds_of prefix)
    → parse_expr (prefix ++ rest) ≡ Ok (e, rest)
unfolding parse_expr
expr_only e prefix rest is = whole_only (Unit {0}) ⊥ IsExpr IsExprText
    (λ whole. expr_within 32 whole) reads_whole e prefix rest is

pub expr_place : (before : List Token) (t : Token) (r : Refusal)
    → WholePlace ⊥ IsExpr IsExprText before t r → IsExprPlace before t r
expr_place before t r (on_token (readers.there h)) = there h
expr_place before t r (on_token (readers.inside h)) = inside h
expr_place before t r (in_inner q outside within parts d) = absurd q
expr_place before t r (in_whole d) = deep d

pub expr_at : (ts : List Token) (r : Refusal) → parse_expr ts ≡ Err r → RunsOut IsExpr ts r
    ⊎ RefusedAt IsExpr (WholePlace ⊥ IsExpr IsExprText) parse_expr ts r
unfolding parse_expr
expr_at ts r e = whole_first (Unit {0}) ⊥ IsExpr IsExprText (λ whole. expr_within 32 whole)
    reads_whole tt ts r e

pub expr_first : (ts : List Token) (r : Refusal) → parse_expr ts ≡ Err r → RunsOut IsExpr ts r
    ⊎ FirstPlace IsExpr IsExprText IsExprPlace parse_expr ts r
unfolding parse_expr
expr_first ts r e =
    first_by (Unit {0}) ⊥ IsExpr IsExprText (λ whole. expr_within 32 whole) reads_whole
    (WholePlace ⊥ IsExpr IsExprText) IsExprPlace expr_place ts r (expr_at ts r e)

pub expr_refused : (fault : ParseFault) (ts : List Token) → Fails fault (parse_expr ts)
    → ExprRefused parse_expr ts fault
expr_refused (Refused r) ts e = expr_first ts r e
expr_refused Memory ts e = tt

-- ---- an expression inside something else

pub reads_expr : (Begun : Type 0) (whole : Option ℕ) → IsReader Begun (Unit {0}) whole IsExpr
    IsExprText parse_expr
reads_expr Begun whole = record {
  found = expr_found;
  only = expr_only;
  wider = λ e ks is. is.spells;
  some = λ b. some_expr;
  first = λ b ts r e. known ts r (expr_at ts r e);
}
  where
    ends : (before : List Token) (t : Token) (r : Refusal) → IsExprPlace before t r
        → readers.Ends (Unit {0}) whole parse_expr before t r
    ends before t r (there h) = readers.here (readers.there h)
    ends before t r (inside h) = readers.here (readers.inside h)
    ends before t r (deep d) = readers.in_expr tt [] before refl d

    known : (ts : List Token) (r : Refusal) → RunsOut IsExpr ts r
        ⊎ RefusedAt IsExpr (WholePlace ⊥ IsExpr IsExprText) parse_expr ts r
        → Refuses (Unit {0}) whole IsExpr parse_expr ts r
    known ts r (inl out) = inl out
    known ts r (inr f) = inr (record {
      before = f.before;
      refused = f.refused;
      after = f.after;
      parts = f.parts;
      begins = f.begins;
      stands = f.stands;
      ends = ends f.before f.refused r (expr_place f.before f.refused r f.place);
      cause = f.cause;
    })

pub expr_prefix : (e : Expr) (ts rest : List Token) → SentencePrefix IsExprText e ts rest
    → parse_expr ts ≡ Ok (e, rest)
expr_prefix e ts rest (prefix, is, parts) = rw parts (expr_only e prefix rest is)
