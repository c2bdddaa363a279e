-- Readers of the lists in plans.
use Rattle.std.proofs.Common.{◌≡◌, ◌≤◌, ◌<◌, ℕ, max, Bool, true, Option, Some, None, List, [], ◌∷◌}
use Rattle.std.proofs.Common.{◌++◌, length, Result, Ok, Err, refl, sym, ap, subst, ◌∙◌, arith}
use Rattle.pipes_token.specs.declared.token.Sign.TheVariants.{CloseList, Equal}
use Rattle.pipes_token.specs.declared.keyword.Keyword.{Keyword as AKeyword}
use Rattle.pipes_token.specs.declared.keyword.Keyword.TheVariants as keyword
use Rattle.pipes_token.specs.declared.token.TokenKind.{TokenKind}
use Rattle.pipes_token.specs.declared.token.TokenKind.TheVariants.{Sign, Keyword, Name, Number}
use Rattle.pipes_token.specs.declared.token.Token.{Token}
use Rattle.pipes_expr.specs.declared.expr.Expr.{Expr}
use Rattle.pipes_relation.specs.declared.lists.Pair.{Pair}
use Rattle.pipes_relation.specs.declared.lists.Agg.{Agg}
use Rattle.pipes_relation.specs.declared.lists.Agg.TheVariants as agg
use Rattle.pipes_expr.specs.ExprSize.{expr_depth}
use Rattle.pipes_grammar.specs.Grammar.{IsExpr, AreEntries, last, more, IsFilled, entries, IsList}
use Rattle.pipes_grammar.specs.Grammar.{IsColumnPlace, IsPair, IsAgg, count, sum, least, greatest}
use Rattle.pipes_grammar.specs.Grammar.{average}
use Rattle.pipes_grammar.specs.Grammar as grammar
use Rattle.pipes_grammar.specs.Limits.{deepest, IsExprText, AreExprsText}
use Rattle.pipes_time.specs.Results.{◌>>=◌}
use Rattle.pipes_reader.specs.Reading.{Reads, kinds_of, refused_by}
use Rattle.pipes_grammar.specs.Reading.{SentencePrefix, wanted}
use Rattle.pipes_grammar.specs.ExprReading.{read_column, parse_expr}
use Rattle.pipes_grammar.specs.ListReading.{is_equal, read_pair, agg_of, agg_start_of, agg_by}
use Rattle.pipes_grammar.specs.ListReading.{read_agg, parse_exprs, parse_pairs, parse_columns}
use Rattle.pipes_grammar.specs.ListReading.{parse_aggs}
use Rattle.pipes_reader.specs.Sentences.{Begins}
use Rattle.pipes_grammar.proofs.Readers.{IsReader, Then, both, in_turn, reads_in_turn}
use Rattle.pipes_grammar.proofs.Layers.{Nothing, nothing, with_end, reads_nothing, reads_as}
use Rattle.pipes_grammar.proofs.Layers.{ThisKind, one, reads_wanted, Branch, goes, takes, plainly}
use Rattle.pipes_grammar.proofs.Layers.{at_refused, layer_found, layer_first, layer_only, layer_one}
use Rattle.pipes_grammar.proofs.Leaves.{reads_column}
use Rattle.pipes_grammar.proofs.WholeExprs.{reads_expr}
use Rattle.pipes_grammar.proofs.ListReaders.{FilledWithin, ListWithin, Starts, reads_filled}
use Rattle.pipes_grammar.proofs.ListReaders.{reads_list}

-- ---- lists of expressions

depth_of_entries : (es : List Expr) (ks : List TokenKind) → AreEntries IsExprText es ks
    → deepest es ≤ 32
depth_of_entries _ _ (last e ks is) = omega (arith, is.depth)
depth_of_entries _ _ (more e es ks ls is all) = omega (arith, is.depth, depth_of_entries es ls all)

plain_entries : (es : List Expr) (ks : List TokenKind) → AreEntries IsExprText es ks
    → AreEntries IsExpr es ks
plain_entries _ _ (last e ks is) = last e ks is.spells
plain_entries _ _ (more e es ks ls is all) = more e es ks ls is.spells (plain_entries es ls all)

shallow_entries : (es : List Expr) (ks : List TokenKind) → AreEntries IsExpr es ks → deepest es ≤ 32
    → AreEntries IsExprText es ks
shallow_entries _ _ (last e ks is) le =
    last e ks (record { spells = is; depth = omega (arith, le) })
shallow_entries _ _ (more e es ks ls is all) le = more e es ks ls
    (record { spells = is; depth = omega (arith, le) }) (shallow_entries es ls all
    (omega (arith, le)))

exprs_text : (es : List Expr) (ks : List TokenKind) → IsFilled IsExprText es ks → length es ≤ 32
    → AreExprsText es ks
exprs_text _ _ (entries es ks all) le = record {
  spells = entries es ks (plain_entries es ks all);
  depth = depth_of_entries es ks all;
  entries = le;
}

text_exprs : (es : List Expr) (ks : List TokenKind) → IsFilled IsExpr es ks → deepest es ≤ 32
    → length es ≤ 32 → FilledWithin IsExprText es ks
text_exprs _ _ (entries es ks all) depth le = record {
  spells =
      entries es ks (shallow_entries es ks all depth);
  count = le;
}

pub reads_exprs : (Begun : Type 0) (whole : Option ℕ) → IsReader Begun (Unit {0}) whole
    (IsFilled IsExpr) AreExprsText parse_exprs
unfolding parse_exprs
reads_exprs Begun whole =
    reads_as Begun (Unit {0}) whole (IsFilled IsExpr) (FilledWithin IsExprText) (IsFilled IsExpr)
    AreExprsText parse_exprs
    (reads_filled Begun (Unit {0}) whole IsExpr IsExprText parse_expr (reads_expr Begun whole))
    (λ es ks is. is) (λ es ks is. exprs_text es ks is.spells is.count)
    (λ es ks is. text_exprs es ks is.spells is.depth is.entries) (λ es ks is. is.spells)

pub exprs_found : (ts : List Token) (es : List Expr) (rest : List Token)
    → parse_exprs ts ≡ Ok (es, rest) → SentencePrefix AreExprsText es ts rest
exprs_found ts es rest e = (reads_exprs (Unit {0}) None).found ts es rest e

pub exprs_prefix : (es : List Expr) (ts rest : List Token) → SentencePrefix AreExprsText es ts rest
    → parse_exprs ts ≡ Ok (es, rest)
exprs_prefix es ts rest (prefix, is, parts) =
    rw parts ((reads_exprs (Unit {0}) None).only es prefix rest is)

-- ---- lists of columns

starts_column : (i : ℕ) (ks : List TokenKind) → IsColumnPlace i ks → Starts ks
starts_column _ _ (grammar.IsColumnPlace.column i lt) = record {
  head = Number i;
  tail = [];
  parts =
      refl;
  other = λ e. cc;
}

pub reads_columns : (Begun Exprs : Type 0) (whole : Option ℕ)
    → IsReader Begun Exprs whole (IsList IsColumnPlace) (ListWithin IsColumnPlace) parse_columns
unfolding parse_columns
reads_columns Begun Exprs whole = reads_list Begun Exprs whole IsColumnPlace IsColumnPlace
    read_column
    (reads_column Begun Exprs None)
    (0, Number 0 ∷ [], grammar.IsColumnPlace.column 0 (omega arith)) starts_column

-- ---- lists of pairs

equal_alone : (k : TokenKind) → is_equal k ≡ true → k ≡ Sign Equal
equal_alone (Sign Equal) e = refl
equal_alone _ e = absurd cc

abbrev PairIs : Pair → List TokenKind → Type 0
PairIs = Then IsColumnPlace (λ i. Then (ThisKind (Sign Equal)) (λ x. Then IsColumnPlace
    (λ j. Nothing (record { left = i; right = j }))))

pair_is : (p : Pair) (ks : List TokenKind) → PairIs p ks → IsPair p ks
pair_is p _ (both _ _ _ _ (grammar.IsColumnPlace.column i lt) (both x _ _ _ one
    (both _ _ _ ms (grammar.IsColumnPlace.column j below) end))) =
    with_end (λ z l. IsPair z (Number i ∷ Sign Equal ∷ Number j ∷ l))
    (record { left = i; right = j }) p ms end (grammar.IsPair.pair i j lt below)

spells_pair : (p : Pair) (ks : List TokenKind) → IsPair p ks → PairIs p ks
spells_pair _ _ (grammar.IsPair.pair i j lt below) =
    both i _ (Number i ∷ []) _ (grammar.IsColumnPlace.column i lt)
    (both tt _ (Sign Equal ∷ []) _ one (both j _ (Number j ∷ []) []
    (grammar.IsColumnPlace.column j below) nothing))

reads_pair_at : (Begun Exprs : Type 0) (whole : Option ℕ) → IsReader Begun Exprs whole PairIs PairIs
    read_pair
unfolding read_pair
reads_pair_at Begun Exprs whole =
    reads_in_turn Begun Exprs whole _ _ _ _ read_column (λ i. in_turn (wanted is_equal)
    (λ x. in_turn read_column (λ j ts. Ok (record { left = i; right = j }, ts))))
    (reads_column Begun Exprs whole)
    (λ i. reads_in_turn Begun Exprs whole _ _ _ _ (wanted is_equal)
    (λ x. in_turn read_column (λ j ts. Ok (record { left = i; right = j }, ts)))
    (reads_wanted Begun Exprs whole Equal is_equal refl equal_alone)
    (λ x. reads_in_turn Begun Exprs whole _ _ _ _ read_column
    (λ j ts. Ok (record { left = i; right = j }, ts)) (reads_column Begun Exprs whole)
    (λ j. reads_nothing Begun Exprs whole (record { left = i; right = j }))))

reads_pair : (Begun Exprs : Type 0) (whole : Option ℕ) → IsReader Begun Exprs whole IsPair IsPair
    read_pair
reads_pair Begun Exprs whole =
    reads_as Begun Exprs whole PairIs PairIs IsPair IsPair read_pair
    (reads_pair_at Begun Exprs whole) pair_is pair_is spells_pair (λ p ks is. is)

starts_pair : (p : Pair) (ks : List TokenKind) → IsPair p ks → Starts ks
starts_pair _ _ (grammar.IsPair.pair i j lt below) = record {
  head = Number i;
  tail =
      Sign Equal ∷ Number j ∷ [];
  parts = refl;
  other = λ e. cc;
}

pub reads_pairs : (Begun Exprs : Type 0) (whole : Option ℕ) → IsReader Begun Exprs whole
    (IsList IsPair) (ListWithin IsPair) parse_pairs
unfolding parse_pairs
reads_pairs Begun Exprs whole = reads_list Begun Exprs whole IsPair IsPair read_pair
    (reads_pair Begun Exprs None) (
      record { left = 0; right = 0 },
      Number 0 ∷ Sign Equal ∷ Number 0 ∷ [],
      grammar.IsPair.pair 0 0 (omega arith) (omega arith),
    ) starts_pair

-- ---- lists of aggregates

abbrev AggIs : (ℕ → Agg) → Agg → List TokenKind → Type 0
AggIs make = Then IsColumnPlace (λ i. Nothing (make i))

reads_agg_of : (Begun Exprs : Type 0) (whole : Option ℕ) (make : ℕ → Agg)
    → IsReader Begun Exprs whole (AggIs make) (AggIs make) (agg_of make)
unfolding agg_of
reads_agg_of Begun Exprs whole make =
    reads_in_turn Begun Exprs whole _ _ _ _ read_column (λ i ts. Ok (make i, ts))
    (reads_column Begun Exprs whole) (λ i. reads_nothing Begun Exprs whole (make i))

agg_is : (k : AKeyword) (make : ℕ → Agg) → ((i : ℕ) → i < 32
    → IsAgg (make i) (Keyword k ∷ Number i ∷ [])) → (g : Agg) (ls : List TokenKind)
    → AggIs make g ls
    → IsAgg g (Keyword k ∷ ls)
agg_is k make is g _ (both _ _ _ ms (grammar.IsColumnPlace.column i lt) end) =
    with_end (λ z l. IsAgg z (Keyword k ∷ Number i ∷ l)) (make i) g ms end (is i lt)

abbrev agg_kind_by : TokenKind → ℕ → Reads Agg
agg_kind_by k at ts = agg_by (agg_start_of k) k at ts

column_agg : (Begun Exprs : Type 0) (whole : Option ℕ) (k : AKeyword) (make : ℕ → Agg)
    → ((i : ℕ) → i < 32 → IsAgg (make i) (Keyword k ∷ Number i ∷ []))
    → Branch agg_kind_by Begun Exprs whole IsAgg IsAgg (Keyword k) (λ at. agg_of make)
column_agg Begun Exprs whole k make is =
    goes agg_kind_by Begun Exprs whole (AggIs make) (AggIs make) IsAgg IsAgg (Keyword k)
    (λ at. agg_of make)
    (λ at. reads_agg_of Begun Exprs whole make)
    (agg_is k make is) (agg_is k make is)

agg_branch : (Begun Exprs : Type 0) (whole : Option ℕ) (k : TokenKind)
    → Branch agg_kind_by Begun Exprs whole IsAgg IsAgg k (agg_kind_by k)
agg_branch Begun Exprs whole (Keyword keyword.Count) =
    takes agg_kind_by Begun Exprs whole IsAgg IsAgg (Keyword keyword.Count)
    (agg_kind_by (Keyword keyword.Count)) agg.Count count (λ at ts. refl)
agg_branch Begun Exprs whole (Keyword keyword.Sum) = column_agg Begun Exprs whole keyword.Sum
    (λ i. agg.Sum i) sum
agg_branch Begun Exprs whole (Keyword keyword.Min) = column_agg Begun Exprs whole keyword.Min
    (λ i. agg.Min i) least
agg_branch Begun Exprs whole (Keyword keyword.Max) = column_agg Begun Exprs whole keyword.Max
    (λ i. agg.Max i) greatest
agg_branch Begun Exprs whole (Keyword keyword.Avg) = column_agg Begun Exprs whole keyword.Avg
    (λ i. agg.Avg i) average
agg_branch Begun Exprs whole k =
    plainly agg_kind_by Begun Exprs whole IsAgg IsAgg k (λ at ts. refl)
    (λ n m e at ts. (refused_by (Number m) at, refl))
    (λ v w e at ts. (refused_by (Name w) at, refl))

some_agg : Begins IsAgg []
some_agg = (agg.Count, Keyword keyword.Count ∷ [], count)

module _ (Begun Exprs : Type 0) (whole : Option ℕ) where
  only_column : (k : AKeyword) (make : ℕ → Agg) → ((at : ℕ) (ts : List Token)
      → agg_kind_by (Keyword k) at ts ≡ agg_of make ts) → (i : ℕ) → i < 32
      → (prefix rest : List Token) → Keyword k ∷ Number i ∷ [] ≡ kinds_of prefix
      → read_agg (prefix ++ rest) ≡ Ok (make i, rest)
  unfolding read_agg
  only_column k make same i lt prefix rest e =
      layer_only Begun Exprs whole IsAgg IsAgg read_agg agg_kind_by refl (λ t ts. refl)
      (agg_branch Begun Exprs whole) (λ b. some_agg) (Keyword k) (Number i ∷ []) (make i)
      (λ at us rest h. same at (us ++ rest) ∙ (reads_agg_of Begun Exprs whole make).only
      (make i) us rest
      (subst (λ (z : List TokenKind). AggIs make (make i) z) h
      (both i (make i) (Number i ∷ []) [] (grammar.IsColumnPlace.column i lt) nothing)))
      prefix rest e

  only_agg : (g : Agg) (ks : List TokenKind) → IsAgg g ks → (prefix rest : List Token)
      → ks ≡ kinds_of prefix → read_agg (prefix ++ rest) ≡ Ok (g, rest)
  unfolding read_agg
  only_agg _ _ count prefix rest e =
      layer_one Begun Exprs whole IsAgg IsAgg read_agg agg_kind_by refl (λ t ts. refl)
      (agg_branch Begun Exprs whole) (λ b. some_agg) (Keyword keyword.Count) agg.Count
      (λ at ts. refl) prefix rest e
  only_agg _ _ (sum i lt) prefix rest e = only_column keyword.Sum (λ i. agg.Sum i) (λ at ts. refl) i
      lt prefix rest e
  only_agg _ _ (least i lt) prefix rest e = only_column keyword.Min (λ i. agg.Min i) (λ at ts. refl)
      i lt prefix rest e
  only_agg _ _ (greatest i lt) prefix rest e = only_column keyword.Max (λ i. agg.Max i)
      (λ at ts. refl) i lt prefix rest e
  only_agg _ _ (average i lt) prefix rest e = only_column keyword.Avg (λ i. agg.Avg i)
      (λ at ts. refl) i lt prefix rest e

  reads_agg : IsReader Begun Exprs whole IsAgg IsAgg read_agg
  unfolding read_agg
  reads_agg = record {
    found = layer_found Begun Exprs whole IsAgg IsAgg read_agg agg_kind_by refl (λ t ts. refl)
        (agg_branch Begun Exprs whole) (λ b. some_agg);
    only = λ g prefix rest is. only_agg g (kinds_of prefix) is prefix rest refl;
    wider = λ g ks is. is;
    some = λ b. some_agg;
    first = layer_first Begun Exprs whole IsAgg IsAgg read_agg agg_kind_by refl (λ t ts. refl)
        (agg_branch Begun Exprs whole) (λ b. some_agg);
  }

starts_agg : (g : Agg) (ks : List TokenKind) → IsAgg g ks → Starts ks
starts_agg _ _ count = record {
  head = Keyword keyword.Count;
  tail = [];
  parts = refl;
  other =
      λ e. cc;
}
starts_agg _ _ (sum i lt) = record {
  head = Keyword keyword.Sum;
  tail = Number i ∷ [];
  parts = refl;
  other = λ e. cc;
}
starts_agg _ _ (least i lt) = record {
  head = Keyword keyword.Min;
  tail = Number i ∷ [];
  parts =
      refl;
  other = λ e. cc;
}
starts_agg _ _ (greatest i lt) = record {
  head = Keyword keyword.Max;
  tail = Number i ∷ [];
  parts =
      refl;
  other = λ e. cc;
}
starts_agg _ _ (average i lt) = record {
  head = Keyword keyword.Avg;
  tail = Number i ∷ [];
  parts =
      refl;
  other = λ e. cc;
}

pub reads_aggs : (Begun Exprs : Type 0) (whole : Option ℕ) → IsReader Begun Exprs whole
    (IsList IsAgg) (ListWithin IsAgg) parse_aggs
unfolding parse_aggs
reads_aggs Begun Exprs whole = reads_list Begun Exprs whole IsAgg IsAgg read_agg
    (reads_agg Begun Exprs None) (agg.Count, Keyword keyword.Count ∷ [], count) starts_agg
