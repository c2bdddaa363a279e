-- The reader of an expression: of each level, and of the whole.
use Rattle.std.proofs.Common.{◌≡◌, ◌≤◌, ◌<◌, ◌+◌, ℕ, zero, suc, ℤ, pos, ◌-ℤ◌, max, Bool, true}
use Rattle.std.proofs.Common.{false, cond, ltb, List, [], ◌∷◌, ◌++◌, Option, Some, None, Result, Ok}
use Rattle.std.proofs.Common.{Err, refl, sym, ap, subst, ◌∙◌, ltb-true, lt-ltb, arith, ◌⊎◌, inl}
use Rattle.std.proofs.Common.{inr}
use Rattle.pipes_tuple.specs.declared.value.Value.TheVariants as value
use Rattle.pipes_token.specs.declared.refusal.Refusal.{Refusal}
use Rattle.pipes_token.specs.declared.refusal.TextWhy.TheVariants as why
use Rattle.pipes_token.specs.declared.token.Sign.TheVariants.{Open, Close, Dollar, Minus}
use Rattle.pipes_token.specs.declared.keyword.Keyword.TheVariants as keyword
use Rattle.pipes_token.specs.declared.token.TokenKind.{TokenKind}
use Rattle.pipes_token.specs.declared.token.TokenKind.TheVariants.{Sign, Keyword, Name, Number}
use Rattle.pipes_token.specs.declared.token.TokenKind.TheVariants.{Text}
use Rattle.pipes_token.specs.declared.token.TokenKind.TheVariants.{Cut}
use Rattle.pipes_token.specs.declared.token.Token.{Token}
use Rattle.pipes_expr.specs.declared.expr.Expr.{Expr}
use Rattle.pipes_expr.specs.declared.expr.Expr.TheVariants as expr
use Rattle.pipes_expr.specs.ExprSize.{expr_depth}
use Rattle.pipes_expr.specs.declared.op.Op.{Op}
use Rattle.pipes_grammar.specs.Ops.{op_of}
use Rattle.pipes_grammar.specs.Grammar.{IsColumnPlace, IsExpr, column, number, negative, text}
use Rattle.pipes_grammar.specs.Grammar.{truth}
use Rattle.pipes_grammar.specs.Grammar.{falsehood, negated, pair}
use Rattle.pipes_grammar.specs.Grammar as grammar
use Rattle.pipes_grammar.specs.Limits.{IsExprText}
use Rattle.pipes_time.specs.Results.{◌>>=◌}
use Rattle.pipes_reader.specs.Reading.{Reads, kinds_of, done, refusal, refused_by, place_of}
use Rattle.pipes_reader.specs.Reading.{too_deep, run_out}
use Rattle.pipes_reader.specs.Causes.{broken, other_number}
use Rattle.pipes_grammar.specs.Reading.{SentencePrefix, wanted}
use Rattle.pipes_grammar.specs.ExprReading.{is_close, read_column, read_negative, read_op}
use Rattle.pipes_grammar.specs.ExprReading.{pair_from, not_from, column_expr, negative_expr}
use Rattle.pipes_grammar.specs.ExprReading.{expr_by, expr_layer, expr_within, parse_expr}
use Rattle.pipes_reader.specs.Sentences.{Begins}
use Rattle.pipes_grammar.specs.Places.{RunsOut}
use Rattle.std.proofs.lemmas.List.{append-nil}
use Rattle.pipes_grammar.proofs.Readers.{there, inside, here, deep, Refuses, IsReader, Then, both}
use Rattle.pipes_grammar.proofs.Readers.{in_turn, reads_in_turn}
use Rattle.pipes_grammar.proofs.Layers.{Nothing, with_end, reads_nothing, ThisKind, one, nothing}
use Rattle.pipes_grammar.proofs.Layers.{reads_wanted, Branch, goes, takes, refuses, plainly}
use Rattle.pipes_grammar.proofs.Layers.{layer_found, layer_first, layer_only, layer_one}
use Rattle.pipes_grammar.proofs.Depths.{expr_depth-Col, expr_depth-Literal, expr_depth-Not}
use Rattle.pipes_grammar.proofs.Depths.{expr_depth-Binary}
use Rattle.pipes_grammar.proofs.Leaves.{reads_column, some_column, IsNegative, reads_negative, IsOp}
use Rattle.pipes_grammar.proofs.Leaves.{reads_op}
use Rattle.pipes_grammar.proofs.Leaves as leaves

-- an expression of so many levels at most
pub record Level (n : ℕ) (e : Expr) (ks : List TokenKind) : Type 0 where
  pub spells : IsExpr e ks
  pub depth : expr_depth e ≤ n

pub some_expr : Begins IsExpr []
some_expr = (expr.Col 0, Sign Dollar ∷ Number 0 ∷ [], column 0 (omega arith))

close_alone : (k : TokenKind) → is_close k ≡ true → k ≡ Sign Close
close_alone (Sign Close) e = refl
close_alone _ e = absurd cc

pub reads_close : (Begun Exprs : Type 0) (whole : Option ℕ) → IsReader Begun Exprs whole
    (ThisKind (Sign Close)) (ThisKind (Sign Close)) (wanted is_close)
reads_close Begun Exprs whole = reads_wanted Begun Exprs whole Close is_close refl
    close_alone

-- ---- what stands after the first token of an expression

abbrev PairIs : (Expr → List TokenKind → Type 0) → Expr → List TokenKind → Type 0
PairIs E = Then E (λ a. Then IsOp
    (λ o. Then E (λ b. Then (ThisKind (Sign Close)) (λ c. Nothing (expr.Binary o a b)))))

abbrev NotIs : (Expr → List TokenKind → Type 0) → Expr → List TokenKind → Type 0
NotIs E = Then E (λ a. Nothing (expr.Not a))

abbrev ColumnIs : Expr → List TokenKind → Type 0
ColumnIs = Then IsColumnPlace (λ i. Nothing (expr.Col i))

abbrev NegativeIs : Expr → List TokenKind → Type 0
NegativeIs = Then IsNegative (λ n. Nothing (expr.Literal (value.Int n)))

module _ (Begun Exprs : Type 0) (whole : Option ℕ) (Is IsW : Expr → List TokenKind → Type 0)
    (read : Reads Expr) (next : IsReader Begun Exprs whole Is IsW read) where
  reads_pair : IsReader Begun Exprs whole (PairIs Is) (PairIs IsW) (pair_from read)
  unfolding pair_from
  reads_pair =
      reads_in_turn Begun Exprs whole _ _ _ _ read (λ a. in_turn read_op
      (λ o. in_turn read (λ b. in_turn (wanted is_close) (λ c ts. Ok (expr.Binary o a b, ts)))))
      next
      (λ a. reads_in_turn Begun Exprs whole _ _ _ _ read_op (λ o. in_turn read
      (λ b. in_turn (wanted is_close) (λ c ts. Ok (expr.Binary o a b, ts))))
      (reads_op Begun Exprs whole)
      (λ o. reads_in_turn Begun Exprs whole _ _ _ _ read (λ b. in_turn (wanted is_close)
      (λ c ts. Ok (expr.Binary o a b, ts))) next
      (λ b. reads_in_turn Begun Exprs whole _ _ _ _ (wanted is_close)
      (λ c ts. Ok (expr.Binary o a b, ts)) (reads_close Begun Exprs whole)
      (λ c. reads_nothing Begun Exprs whole (expr.Binary o a b)))))

  reads_not : IsReader Begun Exprs whole (NotIs Is) (NotIs IsW) (not_from read)
  unfolding not_from
  reads_not = reads_in_turn Begun Exprs whole _ _ _ _ read (λ a ts. Ok (expr.Not a, ts)) next
      (λ a. reads_nothing Begun Exprs whole (expr.Not a))

reads_column_expr : (Begun Exprs : Type 0) (whole : Option ℕ)
    → IsReader Begun Exprs whole ColumnIs ColumnIs column_expr
unfolding column_expr
reads_column_expr Begun Exprs whole =
    reads_in_turn Begun Exprs whole _ _ _ _ read_column (λ i ts. Ok (expr.Col i, ts))
    (reads_column Begun Exprs whole) (λ i. reads_nothing Begun Exprs whole (expr.Col i))

reads_negative_expr : (Begun Exprs : Type 0) (whole : Option ℕ)
    → IsReader Begun Exprs whole NegativeIs NegativeIs negative_expr
unfolding negative_expr
reads_negative_expr Begun Exprs whole =
    reads_in_turn Begun Exprs whole _ _ _ _ read_negative
    (λ n ts. Ok (expr.Literal (value.Int n), ts))
    (reads_negative Begun Exprs whole) (λ n. reads_nothing Begun Exprs whole
    (expr.Literal (value.Int n)))

-- ---- and the expression that it makes with that token, whatever relation its sides are in

module _ (Side Made : Expr → List TokenKind → Type 0) where
  pair_made : ((k : TokenKind) (o : Op) (a b : Expr) (ks ls : List TokenKind) → op_of k ≡ Some o
      → Side a ks → Side b ls
      → Made (expr.Binary o a b) (Sign Open ∷ (ks ++ (k ∷ (ls ++ (Sign Close ∷ []))))))
      → (e : Expr) (ls : List TokenKind) → PairIs Side e ls → Made e (Sign Open ∷ ls)
  pair_made make e _ (both a _ ks _ is-a (both o _ _ _ (leaves.op k _ is-o)
      (both b _ ls _ is-b (both c _ _ ms one end)))) =
      with_end (λ z l. Made z (Sign Open ∷ (ks ++ (k ∷ (ls ++ (Sign Close ∷ l))))))
      (expr.Binary o a b) e ms end (make k o a b ks ls is-o is-a is-b)

  not_made : ((a : Expr) (ks : List TokenKind) → Side a ks → Made (expr.Not a)
      (Keyword keyword.Not ∷ ks))
      → (e : Expr) (ls : List TokenKind) → NotIs Side e ls → Made e (Keyword keyword.Not ∷ ls)
  not_made make e _ (both a _ ks ms is end) =
      with_end (λ z l. Made z (Keyword keyword.Not ∷ (ks ++ l))) (expr.Not a) e ms end
      (make a (ks ++ []) (subst (λ (z : List TokenKind). Side a z) (sym (append-nil ks)) is))

module _ (Made : Expr → List TokenKind → Type 0) where
  column_made : ((i : ℕ) → i < 32 → Made (expr.Col i) (Sign Dollar ∷ Number i ∷ []))
      → (e : Expr) (ls : List TokenKind) → ColumnIs e ls → Made e (Sign Dollar ∷ ls)
  column_made make e _ (both _ _ _ ms (grammar.column i lt) end) =
      with_end (λ z l. Made z (Sign Dollar ∷ Number i ∷ l)) (expr.Col i) e ms end (make i lt)

  negative_made : ((i : ℕ) → i ≤ 9223372036854775808
      → Made (expr.Literal (value.Int (pos 0 -ℤ pos i))) (Sign Minus ∷ Number i ∷ []))
      → (e : Expr) (ls : List TokenKind) → NegativeIs e ls → Made e (Sign Minus ∷ ls)
  negative_made make e _ (both _ _ _ ms (leaves.number i le) end) =
      with_end (λ z l. Made z (Sign Minus ∷ Number i ∷ l))
      (expr.Literal (value.Int (pos 0 -ℤ pos i))) e ms end (make i le)

pair_is : (e : Expr) (ls : List TokenKind) → PairIs IsExpr e ls → IsExpr e (Sign Open ∷ ls)
pair_is = pair_made IsExpr IsExpr
    (λ k o a b ks ls is-o is-a is-b. pair k o a b ks ls is-o is-a is-b)

pub pair_level : (n : ℕ) (e : Expr) (ls : List TokenKind) → PairIs (Level n) e ls
    → Level (suc n) e (Sign Open ∷ ls)
pair_level n = pair_made (Level n) (Level (suc n))
    (λ k o a b ks ls is-o is-a is-b. record {
      spells = pair k o a b ks ls is-o is-a.spells is-b.spells;
      depth = omega (arith, expr_depth-Binary o a b, is-a.depth, is-b.depth);
    })

not_is : (e : Expr) (ls : List TokenKind) → NotIs IsExpr e ls → IsExpr e (Keyword keyword.Not ∷ ls)
not_is = not_made IsExpr IsExpr (λ a ks is. negated a ks is)

not_level : (n : ℕ) (e : Expr) (ls : List TokenKind) → NotIs (Level n) e ls
    → Level (suc n) e (Keyword keyword.Not ∷ ls)
not_level n = not_made (Level n) (Level (suc n))
    (λ a ks is. record {
      spells = negated a ks is.spells;
      depth = omega (arith, expr_depth-Not a, is.depth);
    })

column_is : (e : Expr) (ls : List TokenKind) → ColumnIs e ls → IsExpr e (Sign Dollar ∷ ls)
column_is = column_made IsExpr (λ i lt. grammar.IsExpr.column i lt)

column_level : (n : ℕ) (e : Expr) (ls : List TokenKind) → ColumnIs e ls
    → Level (suc n) e (Sign Dollar ∷ ls)
column_level n = column_made (Level (suc n))
    (λ i lt. record {
      spells = grammar.IsExpr.column i lt;
      depth = omega (arith, expr_depth-Col i);
    })

negative_is : (e : Expr) (ls : List TokenKind) → NegativeIs e ls → IsExpr e (Sign Minus ∷ ls)
negative_is = negative_made IsExpr (λ i le. negative i le)

negative_level : (n : ℕ) (e : Expr) (ls : List TokenKind) → NegativeIs e ls
    → Level (suc n) e (Sign Minus ∷ ls)
negative_level n = negative_made (Level (suc n))
    (λ i le. record {
      spells = negative i le;
      depth = omega (arith, expr_depth-Literal (value.Int (pos 0 -ℤ pos i)));
    })

-- ---- one level

module _ (Begun Exprs : Type 0) (whole : Option ℕ) (n : ℕ) (read : Reads Expr)
    (next : IsReader Begun Exprs whole IsExpr (Level n) read) where
  abbrev by : TokenKind → ℕ → Reads Expr
  by k at ts = expr_by k at read ts

  number_test : (i : ℕ) (b : Bool) → (b ≡ true → i < 9223372036854775808)
      → Branch by Begun Exprs whole IsExpr (Level (suc n)) (Number i)
      (λ at ts. cond b (Ok (expr.Literal (value.Int (pos i)), ts)) (Err (refusal at why.Range)))
  number_test i true h =
      takes by Begun Exprs whole IsExpr (Level (suc n)) (Number i)
      (λ at ts. Ok (expr.Literal (value.Int (pos i)), ts))
      (expr.Literal (value.Int (pos i)))
      (record {
        spells = number i (h refl);
        depth = omega (
          arith,
          expr_depth-Literal (value.Int (pos i)),
        );
      })
      (λ at ts. refl)
  number_test i false h =
      refuses by Begun Exprs whole IsExpr (Level (suc n)) (Number i)
      (λ at ts. Err (refusal at why.Range)) (λ at. refusal at why.Range) (λ at ts. refl)
      (λ at. there refl)
      (λ b at. other_number i 0 (expr.Literal (value.Int (pos 0)), [], number 0 (omega arith)))

  flag_branch : (k : TokenKind) (b : Bool) → IsExpr (expr.Literal (value.Flag b)) (k ∷ [])
      → ((at : ℕ) (ts : List Token) → by k at ts ≡ Ok (expr.Literal (value.Flag b), ts))
      → Branch by Begun Exprs whole IsExpr (Level (suc n)) k (by k)
  flag_branch k b is given =
      takes by Begun Exprs whole IsExpr (Level (suc n)) k (by k) (expr.Literal (value.Flag b))
      (record { spells = is; depth = omega (arith, expr_depth-Literal (value.Flag b)) }) given

  branch : (k : TokenKind) → Branch by Begun Exprs whole IsExpr (Level (suc n)) k (by k)
  branch (Sign Open) = goes by Begun Exprs whole (PairIs IsExpr) (PairIs (Level n)) IsExpr
      (Level (suc n)) (Sign Open) (by (Sign Open))
      (λ at. reads_pair Begun Exprs whole IsExpr (Level n) read next) pair_is (pair_level n)
  branch (Sign Dollar) = goes by Begun Exprs whole ColumnIs ColumnIs IsExpr (Level (suc n))
      (Sign Dollar) (by (Sign Dollar))
      (λ at. reads_column_expr Begun Exprs whole) column_is (column_level n)
  branch (Sign Minus) = goes by Begun Exprs whole NegativeIs NegativeIs IsExpr (Level (suc n))
      (Sign Minus) (by (Sign Minus))
      (λ at. reads_negative_expr Begun Exprs whole) negative_is (negative_level n)
  branch (Keyword keyword.Not) = goes by Begun Exprs whole (NotIs IsExpr) (NotIs (Level n)) IsExpr
      (Level (suc n)) (Keyword keyword.Not) (by (Keyword keyword.Not))
      (λ at. reads_not Begun Exprs whole IsExpr (Level n) read next) not_is (not_level n)
  branch (Keyword keyword.True) = flag_branch (Keyword keyword.True) true truth (λ at ts. refl)
  branch (Keyword keyword.False) = flag_branch (Keyword keyword.False) false falsehood
      (λ at ts. refl)
  branch (Number i) = number_test i (ltb i 9223372036854775808)
      (λ e. ltb-true i 9223372036854775808 e)
  branch (Text t) = takes by Begun Exprs whole IsExpr (Level (suc n)) (Text t) (by (Text t))
      (expr.Literal (value.Text t))
      (record { spells = text t; depth = omega (arith, expr_depth-Literal (value.Text t)) })
      (λ at ts. refl)
  branch (Cut r) = refuses by Begun Exprs whole IsExpr (Level (suc n)) (Cut r) (by (Cut r))
      (λ at. r) (λ at ts. refl) (λ at. inside refl)
      (λ b at. broken r [] (expr.Literal (value.Text []), [], text []))
  branch k = plainly by Begun Exprs whole IsExpr (Level (suc n)) k (λ at ts. refl)
      (λ n m e. absurd cc) (λ v w e at ts. (refused_by (Name w) at, refl))

  only_level : (e : Expr) (ks : List TokenKind) → IsExpr e ks → expr_depth e ≤ suc n
      → (prefix rest : List Token) → ks ≡ kinds_of prefix
      → expr_layer read (prefix ++ rest) ≡ Ok (e, rest)
  unfolding expr_layer
  only_level _ _ (grammar.IsExpr.column i lt) le prefix rest e =
      layer_only Begun Exprs whole IsExpr (Level (suc n)) (expr_layer read) by refl (λ t ts. refl)
      branch (λ b. some_expr) (Sign Dollar) (Number i ∷ []) (expr.Col i)
      (λ at us rest h. (reads_column_expr Begun Exprs whole).only (expr.Col i) us rest
      (subst (λ (z : List TokenKind). ColumnIs (expr.Col i) z) h
      (both i (expr.Col i) (Number i ∷ []) [] (grammar.IsColumnPlace.column i lt) nothing)))
      prefix rest e
  only_level _ _ (negative i lt) le prefix rest e =
      layer_only Begun Exprs whole IsExpr (Level (suc n)) (expr_layer read) by refl (λ t ts. refl)
      branch (λ b. some_expr) (Sign Minus) (Number i ∷ []) (expr.Literal
      (value.Int (pos 0 -ℤ pos i)))
      (λ at us rest h. (reads_negative_expr Begun Exprs whole).only
      (expr.Literal (value.Int (pos 0 -ℤ pos i))) us
      rest
      (subst (λ (z : List TokenKind). NegativeIs (expr.Literal (value.Int (pos 0 -ℤ pos i))) z) h
      (both (pos 0 -ℤ pos i) (expr.Literal (value.Int (pos 0 -ℤ pos i))) (Number i ∷ []) []
      (leaves.number i lt)
      nothing)))
      prefix rest e
  only_level _ _ (number i lt) le prefix rest e =
      layer_one Begun Exprs whole IsExpr (Level (suc n)) (expr_layer read) by refl (λ t ts. refl)
      branch (λ b. some_expr) (Number i) (expr.Literal (value.Int (pos i)))
      (λ at ts. rw (lt-ltb i 9223372036854775808 lt) refl) prefix rest e
  only_level _ _ (text t) le prefix rest e =
      layer_one Begun Exprs whole IsExpr (Level (suc n)) (expr_layer read) by refl (λ t ts. refl)
      branch (λ b. some_expr) (Text t) (expr.Literal (value.Text t)) (λ at ts. refl) prefix rest e
  only_level _ _ truth le prefix rest e =
      layer_one Begun Exprs whole IsExpr (Level (suc n)) (expr_layer read) by refl (λ t ts. refl)
      branch (λ b. some_expr) (Keyword keyword.True) (expr.Literal (value.Flag true))
      (λ at ts. refl) prefix rest e
  only_level _ _ falsehood le prefix rest e =
      layer_one Begun Exprs whole IsExpr (Level (suc n)) (expr_layer read) by refl (λ t ts. refl)
      branch (λ b. some_expr) (Keyword keyword.False) (expr.Literal (value.Flag false))
      (λ at ts. refl) prefix rest e
  only_level _ _ (negated a ks is) le prefix rest e =
      layer_only Begun Exprs whole IsExpr (Level (suc n)) (expr_layer read) by refl (λ t ts. refl)
      branch (λ b. some_expr) (Keyword keyword.Not) ks (expr.Not a)
      (λ at us rest h. (reads_not Begun Exprs whole IsExpr (Level n) read next).only (expr.Not a) us
      rest
      (subst (λ (z : List TokenKind). NotIs (Level n) (expr.Not a) z) (append-nil ks ∙ h)
      (both a (expr.Not a) ks [] (record { spells = is; depth = omega (arith, expr_depth-Not a) })
      nothing)))
      prefix rest e
  only_level _ _ (pair k o a b ks ls is-o is-a is-b) le prefix rest e =
      layer_only Begun Exprs whole IsExpr (Level (suc n)) (expr_layer read) by refl (λ t ts. refl)
      branch (λ b. some_expr) (Sign Open)
      (ks ++ (k ∷ (ls ++ (Sign Close ∷ [])))) (expr.Binary o a b)
      (λ at us rest h. (reads_pair Begun Exprs whole IsExpr (Level n) read next).only
      (expr.Binary o a b)
      us rest
      (subst (λ (z : List TokenKind). PairIs (Level n) (expr.Binary o a b) z) h
      (both a _ ks _ (record { spells = is-a; depth = omega (arith, expr_depth-Binary o a b) })
      (both o _ (k ∷ []) _ (leaves.op k o is-o)
      (both b _ ls _ (record { spells = is-b; depth = omega (arith, expr_depth-Binary o a b) })
      (both tt _ (Sign Close ∷ []) [] one nothing))))))
      prefix rest e

  pub reads_level : IsReader Begun Exprs whole IsExpr (Level (suc n)) (expr_layer read)
  unfolding expr_layer
  reads_level = record {
    found = layer_found Begun Exprs whole IsExpr (Level (suc n)) (expr_layer read) by refl
        (λ t ts. refl) branch (λ b. some_expr);
    only = λ e prefix rest is. only_level e (kinds_of prefix) is.spells is.depth prefix rest refl;
    wider = λ e ks is. is.spells;
    some = λ b. some_expr;
    first = layer_first Begun Exprs whole IsExpr (Level (suc n)) (expr_layer read) by refl
        (λ t ts. refl) branch (λ b. some_expr);
  }
