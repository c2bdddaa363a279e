-- The reader of a plan: of each level, and of the whole.
use Rattle.std.proofs.Common.{◌≡◌, ◌≤◌, ◌<◌, ◌+◌, ℕ, zero, suc, max, Bool, true, Option, Some, None}
use Rattle.std.proofs.Common.{List, [], ◌∷◌, ◌++◌, length, Result, Ok, Err, refl, sym, ap, subst}
use Rattle.std.proofs.Common.{◌∙◌, append_assoc, lt-ltb, arith, ◌⊎◌, inl, inr}
use Rattle.std.specs.Str.{bytes_eq}
use Rattle.std.proofs.lemmas.List.{append-nil}
use Rattle.std.proofs.lemmas.Slice.Eq.{bytes_eq-Decides}
use Rattle.pipes_token.specs.declared.refusal.Refusal.{Refusal}
use Rattle.pipes_token.specs.declared.refusal.TextWhy.TheVariants as why
use Rattle.pipes_token.specs.declared.token.Sign.TheVariants.{Open, Close, Comma}
use Rattle.pipes_token.specs.declared.keyword.Keyword.TheVariants as keyword
use Rattle.pipes_token.specs.declared.token.TokenKind.{TokenKind}
use Rattle.pipes_token.specs.declared.token.TokenKind.TheVariants.{Sign, Keyword, Name, Number}
use Rattle.pipes_token.specs.declared.token.Token.{Token}
use Rattle.pipes_expr.specs.declared.expr.Expr.{Expr}
use Rattle.pipes_relation.specs.declared.lists.Pair.{Pair}
use Rattle.pipes_relation.specs.declared.lists.Agg.{Agg}
use Rattle.pipes_plan.specs.declared.plan.Plan.{Plan}
use Rattle.pipes_plan.specs.declared.plan.Plan.TheVariants as plan
use Rattle.pipes_expr.specs.ExprSize.{expr_depth}
use Rattle.pipes_plan.specs.Sizes.{plan_depth}
use Rattle.pipes_grammar.specs.Grammar.{IsExpr, IsFilled, IsList, IsColumnPlace, IsPair, IsAgg}
use Rattle.pipes_grammar.specs.Grammar.{source_named, IsPlan, source, filter, mapped, union, join}
use Rattle.pipes_grammar.specs.Grammar.{distinct, group, minus, HasSourceName}
use Rattle.pipes_grammar.specs.Limits.{deepest_expr, longest_list, IsExprText, AreExprsText}
use Rattle.pipes_reader.specs.Reading.{Reads, kinds_of, refusal, refused_by}
use Rattle.pipes_grammar.specs.Reading.{SentencePrefix}
use Rattle.pipes_reader.specs.Causes.{other_word}
use Rattle.pipes_grammar.specs.PlanReading.{source_or, plan_by, plan_layer, filter_from, map_from}
use Rattle.pipes_grammar.specs.PlanReading.{union_from, join_from, distinct_from, group_from}
use Rattle.pipes_grammar.specs.PlanReading.{minus_from}
use Rattle.pipes_reader.specs.Sentences.{Begins}
use Rattle.pipes_grammar.proofs.Readers.{there, IsReader}
use Rattle.pipes_grammar.proofs.Layers.{Branch, goes, takes}
use Rattle.pipes_grammar.proofs.Layers.{refuses, plainly, layer_found, layer_first, layer_only}
use Rattle.pipes_grammar.proofs.Layers.{layer_one}
use Rattle.pipes_grammar.proofs.ListReaders.{ListWithin}
use Rattle.pipes_grammar.proofs.PlanNodes as nodes
use Rattle.pipes_grammar.proofs.NodeReaders.{FilterIs, MapIs, UnionIs, JoinIs}
use Rattle.pipes_grammar.proofs.NodeReaders.{DistinctIs, GroupIs, MinusIs, reads_filter, reads_map}
use Rattle.pipes_grammar.proofs.NodeReaders.{reads_union, reads_join, reads_distinct, reads_group}
use Rattle.pipes_grammar.proofs.NodeReaders.{reads_minus}
use Rattle.pipes_grammar.proofs.Depths as depths

-- a plan of so many levels at most, with the other limits of a text
pub record PlanLevel (names : List (List ℕ)) (n : ℕ) (p : Plan) (ks : List TokenKind) : Type 0 where
  pub spells : IsPlan names p ks
  pub depth : plan_depth p ≤ n
  pub exprs : deepest_expr p ≤ 32
  pub lists : longest_list p ≤ 32

pub first_named : (name : List ℕ) (names : List (List ℕ)) → source_named (name ∷ names) name ≡ Some
    0
first_named name names = rw (
  (bytes_eq-Decides name name).1 refl,
  lt-ltb 0 (suc (length names)) (omega arith),
) refl

pub some_plan : (names : List (List ℕ)) → HasSourceName names → Begins (IsPlan names) []
some_plan names some =
    (plan.Source some.place, Name some.name ∷ [], source some.name some.place some.is)

-- ---- the plan that a node makes with its keyword

module _ (names : List (List ℕ)) where
  abbrev Plain : Plan → List TokenKind → Type 0
  Plain = IsPlan names

  filter_is : (p : Plan) (ls : List TokenKind) → FilterIs IsExpr Plain p ls
      → Plain p (Keyword keyword.Filter ∷ ls)
  filter_is = nodes.headed Plain Plain (Keyword keyword.Filter) IsExpr plan.Filter
      (λ c a cs ks is-c is-a. filter c a cs ks is-c is-a)

  map_is : (p : Plan) (ls : List TokenKind) → MapIs (IsFilled IsExpr) Plain p ls
      → Plain p (Keyword keyword.Map ∷ ls)
  map_is = nodes.headed Plain Plain (Keyword keyword.Map) (IsFilled IsExpr) plan.Map
      (λ es a cs ks is-es is-a. mapped es a cs ks is-es is-a)

  union_is : (p : Plan) (ls : List TokenKind) → UnionIs Plain p ls
      → Plain p (Keyword keyword.Union ∷ ls)
  union_is = nodes.sides Plain Plain (Keyword keyword.Union) plan.Union
      (λ a b ks ls is-a is-b. union a b ks ls is-a is-b)

  join_is : (p : Plan) (ls : List TokenKind) → JoinIs (IsList IsPair) IsExpr Plain p ls
      → Plain p (Keyword keyword.Join ∷ ls)
  join_is = nodes.joined Plain Plain (Keyword keyword.Join) (IsList IsPair) IsExpr plan.Join
      (λ k c a b ps cs ks ls is-k is-c is-a is-b. join k c a b ps cs ks ls is-k is-c is-a is-b)

  distinct_is : (p : Plan) (ls : List TokenKind) → DistinctIs Plain p ls
      → Plain p (Keyword keyword.Distinct ∷ ls)
  distinct_is = nodes.over Plain Plain (Keyword keyword.Distinct) plan.Distinct
      (λ a ks is. distinct a ks is)

  group_is : (p : Plan) (ls : List TokenKind)
      → GroupIs (IsList IsColumnPlace) (IsList IsAgg) Plain p ls
      → Plain p (Keyword keyword.Group ∷ ls)
  group_is = nodes.grouped Plain Plain (Keyword keyword.Group) (IsList IsColumnPlace)
      (IsList IsAgg) plan.Group
      (λ k g a cs gs ks is-k is-g is-a. group k g a cs gs ks is-k is-g is-a)

  minus_is : (p : Plan) (ls : List TokenKind) → MinusIs Plain p ls
      → Plain p (Keyword keyword.Minus ∷ ls)
  minus_is = nodes.sides Plain Plain (Keyword keyword.Minus) plan.Minus
      (λ a b ks ls is-a is-b. minus a b ks ls is-a is-b)

  -- the same within the limits: the children have a level less
  module _ (n : ℕ) where
    abbrev Lower : Plan → List TokenKind → Type 0
    Lower = PlanLevel names n

    abbrev Upper : Plan → List TokenKind → Type 0
    Upper = PlanLevel names (suc n)

    filter_level : (p : Plan) (ls : List TokenKind) → FilterIs IsExprText Lower p ls
        → Upper p (Keyword keyword.Filter ∷ ls)
    filter_level = nodes.headed Lower Upper (Keyword keyword.Filter) IsExprText plan.Filter
        (λ c a cs ks is-c is-a. record {
          spells = filter c a cs ks is-c.spells is-a.spells;
          depth = omega (arith, depths.plan_depth-Filter c a, is-a.depth);
          exprs = omega (arith, depths.deepest_expr-Filter c a, is-c.depth, is-a.exprs);
          lists = omega (arith, depths.longest_list-Filter c a, is-a.lists);
        })

    map_level : (p : Plan) (ls : List TokenKind) → MapIs AreExprsText Lower p ls
        → Upper p (Keyword keyword.Map ∷ ls)
    map_level = nodes.headed Lower Upper (Keyword keyword.Map) AreExprsText plan.Map
        (λ es a cs ks is-es is-a. record {
          spells = mapped es a cs ks is-es.spells is-a.spells;
          depth = omega (arith, depths.plan_depth-Map es a, is-a.depth);
          exprs = omega (arith, depths.deepest_expr-Map es a, is-es.depth, is-a.exprs);
          lists = omega (arith, depths.longest_list-Map es a, is-es.entries, is-a.lists);
        })

    union_level : (p : Plan) (ls : List TokenKind) → UnionIs Lower p ls
        → Upper p (Keyword keyword.Union ∷ ls)
    union_level = nodes.sides Lower Upper (Keyword keyword.Union) plan.Union
        (λ a b ks ls is-a is-b. record {
          spells = union a b ks ls is-a.spells is-b.spells;
          depth = omega (arith, depths.plan_depth-Union a b, is-a.depth, is-b.depth);
          exprs = omega (arith, depths.deepest_expr-Union a b, is-a.exprs, is-b.exprs);
          lists = omega (arith, depths.longest_list-Union a b, is-a.lists, is-b.lists);
        })

    join_level : (p : Plan) (ls : List TokenKind) → JoinIs (ListWithin IsPair) IsExprText Lower p ls
        → Upper p (Keyword keyword.Join ∷ ls)
    join_level = nodes.joined Lower Upper (Keyword keyword.Join) (ListWithin IsPair) IsExprText
        plan.Join
        (λ k c a b ps cs ks ls is-k is-c is-a is-b. record {
          spells = join k c a b ps cs ks ls is-k.spells is-c.spells is-a.spells is-b.spells;
          depth = omega (arith, depths.plan_depth-Join k c a b, is-a.depth, is-b.depth);
          exprs = omega (
            arith,
            depths.deepest_expr-Join k c a b,
            is-c.depth,
            is-a.exprs,
            is-b.exprs,
          );
          lists = omega (
            arith,
            depths.longest_list-Join k c a b,
            is-k.count,
            is-a.lists,
            is-b.lists,
          );
        })

    distinct_level : (p : Plan) (ls : List TokenKind) → DistinctIs Lower p ls
        → Upper p (Keyword keyword.Distinct ∷ ls)
    distinct_level = nodes.over Lower Upper (Keyword keyword.Distinct) plan.Distinct
        (λ a ks is. record {
          spells = distinct a ks is.spells;
          depth = omega (arith, depths.plan_depth-Distinct a, is.depth);
          exprs = omega (arith, depths.deepest_expr-Distinct a, is.exprs);
          lists = omega (arith, depths.longest_list-Distinct a, is.lists);
        })

    group_level : (p : Plan) (ls : List TokenKind)
        → GroupIs (ListWithin IsColumnPlace) (ListWithin IsAgg) Lower p ls
        → Upper p (Keyword keyword.Group ∷ ls)
    group_level = nodes.grouped Lower Upper (Keyword keyword.Group) (ListWithin IsColumnPlace)
        (ListWithin IsAgg) plan.Group
        (λ k g a cs gs ks is-k is-g is-a. record {
          spells = group k g a cs gs ks is-k.spells is-g.spells is-a.spells;
          depth = omega (arith, depths.plan_depth-Group k g a, is-a.depth);
          exprs = omega (arith, depths.deepest_expr-Group k g a, is-a.exprs);
          lists = omega (
            arith,
            depths.longest_list-Group k g a,
            is-k.count,
            is-g.count,
            is-a.lists,
          );
        })

    minus_level : (p : Plan) (ls : List TokenKind) → MinusIs Lower p ls
        → Upper p (Keyword keyword.Minus ∷ ls)
    minus_level = nodes.sides Lower Upper (Keyword keyword.Minus) plan.Minus
        (λ a b ks ls is-a is-b. record {
          spells = minus a b ks ls is-a.spells is-b.spells;
          depth = omega (arith, depths.plan_depth-Minus a b, is-a.depth, is-b.depth);
          exprs = omega (arith, depths.deepest_expr-Minus a b, is-a.exprs, is-b.exprs);
          lists = omega (arith, depths.longest_list-Minus a b, is-a.lists, is-b.lists);
        })

-- ---- one level

module _ (names : List (List ℕ)) (whole : Option ℕ) (n : ℕ) (read : Reads Plan)
    (next : IsReader (HasSourceName names) (Unit {0}) whole (IsPlan names) (PlanLevel names n) read)
  where
    abbrev Begun : Type 0
    Begun = HasSourceName names

    abbrev Exprs : Type 0
    Exprs = Unit {0}

    abbrev Is : Plan → List TokenKind → Type 0
    Is = IsPlan names

    abbrev Now : Plan → List TokenKind → Type 0
    Now = PlanLevel names (suc n)

    abbrev Below : Plan → List TokenKind → Type 0
    Below = PlanLevel names n

    abbrev by : TokenKind → ℕ → Reads Plan
    by k at ts = plan_by names k at read ts

    source_level : (word : List ℕ) (i : ℕ) → source_named names word ≡ Some i
        → Now (plan.Source i) (Name word ∷ [])
    source_level word i is = record {
      spells = source word i is;
      depth = omega (arith, depths.plan_depth-Source i);
      exprs = omega (arith, depths.deepest_expr-Source i);
      lists = omega (arith, depths.longest_list-Source i);
    }

    source_test : (word : List ℕ) (o : Option ℕ) → source_named names word ≡ o
        → Branch by Begun Exprs whole Is Now (Name word) (source_or o)
    source_test word (Some i) is = takes by Begun Exprs whole Is Now (Name word)
        (source_or (Some i))
        (plan.Source i) (source_level word i is) (λ at ts. refl)
    source_test word None is =
        refuses by Begun Exprs whole Is Now (Name word) (source_or None)
        (λ at. refusal at why.Name) (λ at ts. refl) (λ at. there refl)
        (λ b at. other_word (Name word) b.name tt b.named
        (plan.Source b.place, [], source b.name b.place b.is))

    branch : (k : TokenKind) → Branch by Begun Exprs whole Is Now k (by k)
    branch (Name word) = source_test word (source_named names word) refl
    branch (Keyword keyword.Filter) = goes by Begun Exprs whole (FilterIs IsExpr Is)
        (FilterIs IsExprText (PlanLevel names n)) Is Now (Keyword keyword.Filter)
        (by (Keyword keyword.Filter))
        (λ at. reads_filter Begun whole Is (PlanLevel names n) read next) (filter_is names)
        (filter_level names n)
    branch (Keyword keyword.Map) = goes by Begun Exprs whole (MapIs (IsFilled IsExpr) Is)
        (MapIs AreExprsText (PlanLevel names n)) Is Now (Keyword keyword.Map)
        (by (Keyword keyword.Map))
        (λ at. reads_map Begun whole Is (PlanLevel names n) read next) (map_is names)
        (map_level names n)
    branch (Keyword keyword.Union) = goes by Begun Exprs whole (UnionIs Is)
        (UnionIs (PlanLevel names n))
        Is Now (Keyword keyword.Union) (by (Keyword keyword.Union))
        (λ at. reads_union Begun whole Is (PlanLevel names n) read next) (union_is names)
        (union_level names n)
    branch (Keyword keyword.Join) = goes by Begun Exprs whole (JoinIs (IsList IsPair) IsExpr Is)
        (JoinIs (ListWithin IsPair) IsExprText (PlanLevel names n)) Is Now (Keyword keyword.Join)
        (by (Keyword keyword.Join))
        (λ at. reads_join Begun whole Is (PlanLevel names n) read next) (join_is names)
        (join_level names n)
    branch (Keyword keyword.Distinct) = goes by Begun Exprs whole (DistinctIs Is)
        (DistinctIs (PlanLevel names n)) Is Now (Keyword keyword.Distinct)
        (by (Keyword keyword.Distinct))
        (λ at. reads_distinct Begun whole Is (PlanLevel names n) read next) (distinct_is names)
        (distinct_level names n)
    branch (Keyword keyword.Group) = goes by Begun Exprs whole (GroupIs (IsList IsColumnPlace)
        (IsList IsAgg)
        Is) (GroupIs (ListWithin IsColumnPlace) (ListWithin IsAgg) (PlanLevel names n)) Is Now
        (Keyword keyword.Group) (by (Keyword keyword.Group))
        (λ at. reads_group Begun whole Is (PlanLevel names n) read next) (group_is names)
        (group_level names n)
    branch (Keyword keyword.Minus) = goes by Begun Exprs whole (MinusIs Is)
        (MinusIs (PlanLevel names n))
        Is Now (Keyword keyword.Minus) (by (Keyword keyword.Minus))
        (λ at. reads_minus Begun whole Is (PlanLevel names n) read next) (minus_is names)
        (minus_level names n)
    branch k = plainly by Begun Exprs whole Is Now k (λ at ts. refl)
        (λ n m e at ts. (refused_by (Number m) at, refl)) (λ v w e. absurd cc)

    -- what a keyword and a node after it spell is read
    only_node : (k : TokenKind) (later : Reads Plan) (ls : List TokenKind) (p : Plan)
        → ((at : ℕ) (ts : List Token) → by k at ts ≡ later ts)
        → ((us rest : List Token) → ls ≡ kinds_of us → later (us ++ rest) ≡ Ok (p, rest))
        → (prefix rest : List Token) → k ∷ ls ≡ kinds_of prefix → plan_layer names read
        (prefix ++ rest) ≡ Ok (p, rest)
    unfolding plan_layer
    only_node k later ls p same given prefix rest e =
        layer_only Begun Exprs whole Is Now (plan_layer names read) by refl (λ t ts. refl) branch
        (some_plan names) k ls p
        (λ at us rest h. same at (us ++ rest) ∙ given us rest h) prefix rest e

    only_level : (p : Plan) (ks : List TokenKind) → IsPlan names p ks → plan_depth p ≤ suc n
        → deepest_expr p ≤ 32 → longest_list p ≤ 32
        → (prefix rest : List Token) → ks ≡ kinds_of prefix → plan_layer names read
        (prefix ++ rest) ≡ Ok
        (p, rest)
    unfolding plan_layer
    only_level _ _ (source word i is) depth exprs lists prefix rest e =
        layer_one Begun Exprs whole Is Now (plan_layer names read) by refl (λ t ts. refl) branch
        (some_plan names) (Name word) (plan.Source i) (λ at ts. rw is refl) prefix rest e
    only_level _ _ (filter c a cs ks is-c is-a) depth exprs lists prefix rest e =
        only_node (Keyword keyword.Filter) (filter_from read) _ (plan.Filter c a) (λ at ts. refl)
        (λ us rest h. (reads_filter Begun whole Is Below read next).only (plan.Filter c a) us rest
        (nodes.headed_is Below Now (Keyword keyword.Filter) IsExprText plan.Filter c a cs ks _
        (record {
          spells = is-c;
          depth = omega (arith, depths.deepest_expr-Filter c a, exprs);
        })
        (record {
          spells = is-a;
          depth = omega (arith, depths.plan_depth-Filter c a, depth);
          exprs = omega (arith, depths.deepest_expr-Filter c a, exprs);
          lists = omega (arith, depths.longest_list-Filter c a, lists);
        }) h)) prefix rest e
    only_level _ _ (mapped es a cs ks is-es is-a) depth exprs lists prefix rest e =
        only_node (Keyword keyword.Map) (map_from read) _ (plan.Map es a) (λ at ts. refl)
        (λ us rest h. (reads_map Begun whole Is Below read next).only (plan.Map es a) us rest
        (nodes.headed_is Below Now (Keyword keyword.Map) AreExprsText plan.Map es a cs ks _
        (record {
          spells = is-es;
          depth = omega (arith, depths.deepest_expr-Map es a, exprs);
          entries = omega (arith, depths.longest_list-Map es a, lists);
        })
        (record {
          spells = is-a;
          depth = omega (arith, depths.plan_depth-Map es a, depth);
          exprs = omega (arith, depths.deepest_expr-Map es a, exprs);
          lists = omega (arith, depths.longest_list-Map es a, lists);
        }) h)) prefix rest e
    only_level _ _ (union a b ks ls is-a is-b) depth exprs lists prefix rest e =
        only_node (Keyword keyword.Union) (union_from read) _ (plan.Union a b) (λ at ts. refl)
        (λ us rest h. (reads_union Begun whole Is Below read next).only (plan.Union a b) us rest
        (nodes.sides_are Below Now (Keyword keyword.Union) plan.Union a b ks ls _
        (record {
          spells = is-a;
          depth = omega (arith, depths.plan_depth-Union a b, depth);
          exprs = omega (arith, depths.deepest_expr-Union a b, exprs);
          lists = omega (arith, depths.longest_list-Union a b, lists);
        })
        (record {
          spells = is-b;
          depth = omega (arith, depths.plan_depth-Union a b, depth);
          exprs = omega (arith, depths.deepest_expr-Union a b, exprs);
          lists = omega (arith, depths.longest_list-Union a b, lists);
        }) h)) prefix rest e
    only_level _ _ (join k c a b ps cs ks ls is-k is-c is-a is-b) depth exprs lists prefix rest e =
        only_node (Keyword keyword.Join) (join_from read) _ (plan.Join k c a b) (λ at ts. refl)
        (λ us rest h. (reads_join Begun whole Is Below read next).only (plan.Join k c a b) us rest
        (nodes.joined_is Below Now (Keyword keyword.Join) (ListWithin IsPair) IsExprText plan.Join
        k c a b ps cs ks ls _
        (record { spells = is-k; count = omega (arith, depths.longest_list-Join k c a b, lists) })
        (record { spells = is-c; depth = omega (arith, depths.deepest_expr-Join k c a b, exprs) })
        (record {
          spells = is-a;
          depth = omega (arith, depths.plan_depth-Join k c a b, depth);
          exprs = omega (arith, depths.deepest_expr-Join k c a b, exprs);
          lists = omega (arith, depths.longest_list-Join k c a b, lists);
        })
        (record {
          spells = is-b;
          depth = omega (arith, depths.plan_depth-Join k c a b, depth);
          exprs = omega (arith, depths.deepest_expr-Join k c a b, exprs);
          lists = omega (arith, depths.longest_list-Join k c a b, lists);
        }) h)) prefix rest e
    only_level _ _ (distinct a ks is-a) depth exprs lists prefix rest e =
        only_node (Keyword keyword.Distinct) (distinct_from read) _ (plan.Distinct a)
        (λ at ts. refl)
        (λ us rest h. (reads_distinct Begun whole Is Below read next).only (plan.Distinct a) us rest
        (nodes.over_is Below Now (Keyword keyword.Distinct) plan.Distinct a ks _
        (record {
          spells = is-a;
          depth = omega (arith, depths.plan_depth-Distinct a, depth);
          exprs = omega (arith, depths.deepest_expr-Distinct a, exprs);
          lists = omega (arith, depths.longest_list-Distinct a, lists);
        }) h)) prefix rest e
    only_level _ _ (group k g a cs gs ks is-k is-g is-a) depth exprs lists prefix rest e =
        only_node (Keyword keyword.Group) (group_from read) _ (plan.Group k g a) (λ at ts. refl)
        (λ us rest h. (reads_group Begun whole Is Below read next).only (plan.Group k g a) us rest
        (nodes.grouped_is Below Now (Keyword keyword.Group) (ListWithin IsColumnPlace)
        (ListWithin IsAgg) plan.Group k g a cs gs ks _
        (record { spells = is-k; count = omega (arith, depths.longest_list-Group k g a, lists) })
        (record { spells = is-g; count = omega (arith, depths.longest_list-Group k g a, lists) })
        (record {
          spells = is-a;
          depth = omega (arith, depths.plan_depth-Group k g a, depth);
          exprs = omega (arith, depths.deepest_expr-Group k g a, exprs);
          lists = omega (arith, depths.longest_list-Group k g a, lists);
        }) h)) prefix rest e
    only_level _ _ (minus a b ks ls is-a is-b) depth exprs lists prefix rest e =
        only_node (Keyword keyword.Minus) (minus_from read) _ (plan.Minus a b) (λ at ts. refl)
        (λ us rest h. (reads_minus Begun whole Is Below read next).only (plan.Minus a b) us rest
        (nodes.sides_are Below Now (Keyword keyword.Minus) plan.Minus a b ks ls _
        (record {
          spells = is-a;
          depth = omega (arith, depths.plan_depth-Minus a b, depth);
          exprs = omega (arith, depths.deepest_expr-Minus a b, exprs);
          lists = omega (arith, depths.longest_list-Minus a b, lists);
        })
        (record {
          spells = is-b;
          depth = omega (arith, depths.plan_depth-Minus a b, depth);
          exprs = omega (arith, depths.deepest_expr-Minus a b, exprs);
          lists = omega (arith, depths.longest_list-Minus a b, lists);
        }) h)) prefix rest e

    pub reads_plan_level : IsReader Begun Exprs whole Is Now (plan_layer names read)
    unfolding plan_layer
    reads_plan_level = record {
      found = layer_found Begun Exprs whole Is Now (plan_layer names read) by refl (λ t ts. refl)
          branch (some_plan names);
      only = λ p prefix rest is. only_level p (kinds_of prefix) is.spells is.depth is.exprs is.lists
          prefix rest refl;
      wider = λ p ks is. is.spells;
      some = some_plan names;
      first = layer_first Begun Exprs whole Is Now (plan_layer names read) by refl (λ t ts. refl)
          branch (some_plan names);
    }
