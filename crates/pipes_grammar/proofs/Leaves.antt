-- Readers of a number or an operator.
use Rattle.std.proofs.Common.{◌≡◌, ◌≤◌, ◌<◌, ℕ, ℤ, pos, ◌-ℤ◌, Bool, true, false, cond, ltb, List}
use Rattle.std.proofs.Common.{[], ◌∷◌, ◌++◌, Option, Some, None, Result, Ok, Err, refl, sym}
use Rattle.std.proofs.Common.{ltb-true, lt-ltb, leb-true, le-leb, arith}
use lib.Dec.{leb}
use Rattle.pipes_token.specs.declared.refusal.TextWhy.TheVariants as why
use Rattle.pipes_token.specs.declared.token.Sign.TheVariants.{Plus}
use Rattle.pipes_token.specs.declared.token.TokenKind.{TokenKind}
use Rattle.pipes_token.specs.declared.token.TokenKind.TheVariants.{Sign, Name, Number}
use Rattle.pipes_token.specs.declared.token.Token.{Token}
use Rattle.pipes_expr.specs.declared.op.Op.{Op}
use Rattle.pipes_expr.specs.declared.op.Op.TheVariants.{Add}
use Rattle.pipes_grammar.specs.Ops.{op_of}
use Rattle.pipes_grammar.specs.Grammar.{IsColumnPlace, column}
use Rattle.pipes_reader.specs.Reading.{Reads, kinds_of, refusal, refused_by}
use Rattle.pipes_grammar.specs.ExprReading.{column_by, read_column, negative_by, read_negative}
use Rattle.pipes_grammar.specs.ExprReading.{op_or, read_op}
use Rattle.pipes_reader.specs.Sentences.{Begins}
use Rattle.pipes_reader.specs.Causes.{other_number}
use Rattle.pipes_reader.proofs.Causes.{plain_why}
use Rattle.pipes_grammar.proofs.Readers.{there, IsReader}
use Rattle.pipes_grammar.proofs.Layers.{Branch, takes, refuses, plainly, bars_like, at_refused}
use Rattle.pipes_grammar.proofs.Layers.{layer_found, layer_first, layer_one}

-- ---- columns

column_test : (Begun Exprs : Type 0) (whole : Option ℕ) (n : ℕ) (b : Bool) → (b ≡ true → n < 32)
    → Branch column_by Begun Exprs whole IsColumnPlace IsColumnPlace (Number n)
    (λ at ts. cond b (Ok (n, ts))
    (Err (refusal at why.Range)))
column_test Begun Exprs whole n true h = takes column_by Begun Exprs whole IsColumnPlace
    IsColumnPlace
    (Number n)
    (λ at ts. Ok (n, ts)) n (column n (h refl)) (λ at ts. refl)
column_test Begun Exprs whole n false h =
    refuses column_by Begun Exprs whole IsColumnPlace IsColumnPlace (Number n)
    (λ at ts. Err (refusal at why.Range)) (λ at. refusal at why.Range) (λ at ts. refl)
    (λ at. there refl) (λ b at. other_number n 0 (0, [], column 0 (omega arith)))

column_branch : (Begun Exprs : Type 0) (whole : Option ℕ) (k : TokenKind)
    → Branch column_by Begun Exprs whole IsColumnPlace IsColumnPlace k (column_by k)
column_branch Begun Exprs whole (Number n) = column_test Begun Exprs whole n (ltb n 32)
    (λ e. ltb-true n 32 e)
column_branch Begun Exprs whole k =
    plainly column_by Begun Exprs whole IsColumnPlace IsColumnPlace k (λ at ts. refl)
    (λ n m e. absurd cc)
    (λ v w e at ts. (refused_by (Name w) at, refl))

pub some_column : Begins IsColumnPlace []
some_column = (0, Number 0 ∷ [], column 0 (omega arith))

pub reads_column : (Begun Exprs : Type 0) (whole : Option ℕ)
    → IsReader Begun Exprs whole IsColumnPlace IsColumnPlace read_column
unfolding read_column
reads_column Begun Exprs whole = record {
  found = layer_found Begun Exprs whole IsColumnPlace IsColumnPlace read_column column_by refl
      (λ t ts. refl)
      (column_branch Begun Exprs whole) (λ b. some_column);
  only = λ x prefix rest is. only x (kinds_of prefix) is prefix rest refl;
  wider = λ x ks is. is;
  some = λ b. some_column;
  first = layer_first Begun Exprs whole IsColumnPlace IsColumnPlace read_column column_by refl
      (λ t ts. refl)
      (column_branch Begun Exprs whole) (λ b. some_column);
}
  where
    only : (x : ℕ) (ks : List TokenKind) → IsColumnPlace x ks → (prefix rest : List Token)
        → ks ≡ kinds_of prefix → read_column (prefix ++ rest) ≡ Ok (x, rest)
    only _ _ (column i lt) prefix rest e =
        layer_one Begun Exprs whole IsColumnPlace IsColumnPlace read_column column_by refl
        (λ t ts. refl)
        (column_branch Begun Exprs whole) (λ b. some_column)
        (Number i) i (λ at ts. rw (lt-ltb i 32 lt) refl) prefix rest e

-- ---- numbers after a minus sign

pub data IsNegative : ℤ → List TokenKind → Type 0 where
  number : (i : ℕ) → i ≤ 9223372036854775808 → IsNegative (pos 0 -ℤ pos i) (Number i ∷ [])

negative_test : (Begun Exprs : Type 0) (whole : Option ℕ) (n : ℕ) (b : Bool)
    → (b ≡ true → n ≤ 9223372036854775808)
    → Branch negative_by Begun Exprs whole IsNegative IsNegative (Number n)
    (λ at ts. cond b (Ok (pos 0 -ℤ pos n, ts)) (Err (refusal at why.Range)))
negative_test Begun Exprs whole n true h =
    takes negative_by Begun Exprs whole IsNegative IsNegative (Number n)
    (λ at ts. Ok (pos 0 -ℤ pos n, ts))
    (pos 0 -ℤ pos n) (number n (h refl)) (λ at ts. refl)
negative_test Begun Exprs whole n false h =
    refuses negative_by Begun Exprs whole IsNegative IsNegative (Number n)
    (λ at ts. Err (refusal at why.Range)) (λ at. refusal at why.Range) (λ at ts. refl)
    (λ at. there refl)
    (λ b at. other_number n 0 (pos 0 -ℤ pos 0, [], number 0 (omega arith)))

negative_branch : (Begun Exprs : Type 0) (whole : Option ℕ) (k : TokenKind)
    → Branch negative_by Begun Exprs whole IsNegative IsNegative k (negative_by k)
negative_branch Begun Exprs whole (Number n) = negative_test Begun Exprs whole n
    (leb n 9223372036854775808) (λ e. leb-true n 9223372036854775808 e)
negative_branch Begun Exprs whole k =
    plainly negative_by Begun Exprs whole IsNegative IsNegative k (λ at ts. refl)
    (λ n m e. absurd cc)
    (λ v w e at ts. (refused_by (Name w) at, refl))

some_negative : Begins IsNegative []
some_negative = (pos 0 -ℤ pos 0, Number 0 ∷ [], number 0 (omega arith))

pub reads_negative : (Begun Exprs : Type 0) (whole : Option ℕ)
    → IsReader Begun Exprs whole IsNegative IsNegative read_negative
unfolding read_negative
reads_negative Begun Exprs whole = record {
  found = layer_found Begun Exprs whole IsNegative IsNegative read_negative negative_by refl
      (λ t ts. refl) (negative_branch Begun Exprs whole) (λ b. some_negative);
  only = λ x prefix rest is. only x (kinds_of prefix) is prefix rest refl;
  wider = λ x ks is. is;
  some = λ b. some_negative;
  first = layer_first Begun Exprs whole IsNegative IsNegative read_negative negative_by refl
      (λ t ts. refl) (negative_branch Begun Exprs whole) (λ b. some_negative);
}
  where
    only : (x : ℤ) (ks : List TokenKind) → IsNegative x ks → (prefix rest : List Token)
        → ks ≡ kinds_of prefix → read_negative (prefix ++ rest) ≡ Ok (x, rest)
    only _ _ (number i le) prefix rest e =
        layer_one Begun Exprs whole IsNegative IsNegative read_negative negative_by refl
        (λ t ts. refl) (negative_branch Begun Exprs whole) (λ b. some_negative)
        (Number i) (pos 0 -ℤ pos i) (λ at ts. rw (le-leb i 9223372036854775808 le) refl) prefix rest
        e

-- ---- operators

pub data IsOp : Op → List TokenKind → Type 0 where
  op : (k : TokenKind) (o : Op) → op_of k ≡ Some o → IsOp o (k ∷ [])

abbrev op_by : TokenKind → ℕ → Reads Op
op_by k at ts = op_or (op_of k) k at ts

op_test : (Begun Exprs : Type 0) (whole : Option ℕ) (k : TokenKind) (o : Option Op) → op_of k ≡ o
    → Branch op_by Begun Exprs whole IsOp IsOp k (op_or o k)
op_test Begun Exprs whole k (Some o) is = takes op_by Begun Exprs whole IsOp IsOp k
    (op_or (Some o) k) o
    (op k o is) (λ at ts. refl)
op_test Begun Exprs whole k None is =
    refuses op_by Begun Exprs whole IsOp IsOp k (op_or None k) (λ at. refused_by k at)
    (λ at ts. refl) (λ at. at_refused k at)
    (λ b at. plain_why _ _ _ k at (λ j a. bars_like op_by k j a (λ at ts. rw is refl)
    (λ n m e at ts. (refused_by (Number m) at, refl))
    (λ v w e at ts. (refused_by (Name w) at, refl))))

op_branch : (Begun Exprs : Type 0) (whole : Option ℕ) (k : TokenKind)
    → Branch op_by Begun Exprs whole IsOp IsOp k (op_by k)
op_branch Begun Exprs whole k = op_test Begun Exprs whole k (op_of k) refl

some_op : Begins IsOp []
some_op = (Add, Sign Plus ∷ [], op (Sign Plus) Add refl)

pub reads_op : (Begun Exprs : Type 0) (whole : Option ℕ) → IsReader Begun Exprs whole IsOp IsOp
    read_op
unfolding read_op
reads_op Begun Exprs whole = record {
  found = layer_found Begun Exprs whole IsOp IsOp read_op op_by refl (λ t ts. refl)
      (op_branch Begun Exprs whole) (λ b. some_op);
  only = λ x prefix rest is. only x (kinds_of prefix) is prefix rest refl;
  wider = λ x ks is. is;
  some = λ b. some_op;
  first = layer_first Begun Exprs whole IsOp IsOp read_op op_by refl (λ t ts. refl)
      (op_branch Begun Exprs whole) (λ b. some_op);
}
  where
    only : (x : Op) (ks : List TokenKind) → IsOp x ks → (prefix rest : List Token)
        → ks ≡ kinds_of prefix → read_op (prefix ++ rest) ≡ Ok (x, rest)
    only _ _ (op k o is) prefix rest e =
        layer_one Begun Exprs whole IsOp IsOp read_op op_by refl (λ t ts. refl)
        (op_branch Begun Exprs whole) (λ b. some_op)
        k o (λ at ts. rw is refl) prefix rest e
