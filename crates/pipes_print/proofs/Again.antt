-- What is printed of a value of some text is a text of that value, within the same limits.
use Rattle.std.proofs.Common.{ℕ, List}
use Rattle.pipes_token.specs.declared.token.TokenKind.{TokenKind}
use Rattle.pipes_expr.specs.declared.expr.Expr.{Expr}
use Rattle.pipes_plan.specs.declared.plan.Plan.{Plan}
use Rattle.pipes_grammar.specs.Limits.{IsExprText, AreExprsText, IsPlanText}
use Rattle.pipes_print.specs.Printed.{AreSpelled, ExprPrinted, ExprsPrinted, PlanPrinted}
use Rattle.pipes_print.proofs.ExprPrinting.{prints}
use Rattle.pipes_print.proofs.PlanPrinting.{exprs_print, plan_prints}

pub expr_again : (e : Expr) (kinds : List TokenKind) → IsExprText e kinds → AreSpelled kinds
    → ExprPrinted e
expr_again e kinds h s =
    let p = prints e kinds h.spells s in
    record { kinds = p.kinds; is = record { spells = p.is; depth = h.depth }; writes = p.writes }

pub exprs_again : (es : List Expr) (kinds : List TokenKind) → AreExprsText es kinds
    → AreSpelled kinds → ExprsPrinted es
exprs_again es kinds h s =
    let p = exprs_print es kinds h.spells s in
    record {
      kinds = p.kinds;
      are = record { spells = p.is; depth = h.depth; entries = h.entries };
      writes = p.writes;
    }

pub plan_again : (names : List (List ℕ)) (p : Plan) (kinds : List TokenKind)
    → IsPlanText names p kinds → AreSpelled kinds → PlanPrinted names p
plan_again names p kinds h s =
    let q = plan_prints names p kinds h.spells s in
    record {
      kinds = q.kinds;
      is = record {
        spells = q.is;
        depth = h.depth;
        exprs = h.exprs;
        lists =
            h.lists;
      };
      writes = q.writes;
    }
