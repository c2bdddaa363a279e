-- Readers of what stands in the nodes of plans, after the keyword.
use Rattle.std.proofs.Common.{◌≡◌, ◌≤◌, ℕ, Bool, true, Option, List, [], ◌∷◌, ◌++◌, Ok, refl, sym}
use Rattle.std.proofs.Common.{subst, append_assoc}
use Rattle.std.proofs.lemmas.List.{append-nil}
use Rattle.pipes_token.specs.declared.token.Sign.TheVariants.{Open, Close, Comma}
use Rattle.pipes_token.specs.declared.token.TokenKind.{TokenKind}
use Rattle.pipes_token.specs.declared.token.TokenKind.TheVariants.{Sign}
use Rattle.pipes_token.specs.declared.token.Token.{Token}
use Rattle.pipes_expr.specs.declared.expr.Expr.{Expr}
use Rattle.pipes_relation.specs.declared.lists.Pair.{Pair}
use Rattle.pipes_relation.specs.declared.lists.Agg.{Agg}
use Rattle.pipes_plan.specs.declared.plan.Plan.{Plan}
use Rattle.pipes_plan.specs.declared.plan.Plan.TheVariants as plan
use Rattle.pipes_grammar.specs.Grammar.{IsExpr, IsFilled, IsList, IsColumnPlace, IsPair, IsAgg}
use Rattle.pipes_grammar.specs.Limits.{IsExprText, AreExprsText}
use Rattle.pipes_time.specs.Results.{◌>>=◌}
use Rattle.pipes_reader.specs.Reading.{Reads}
use Rattle.pipes_grammar.specs.Reading.{wanted}
use Rattle.pipes_grammar.specs.ExprReading.{is_close, parse_expr}
use Rattle.pipes_grammar.specs.ListReading.{parse_exprs, parse_pairs, parse_columns, parse_aggs}
use Rattle.pipes_grammar.specs.PlanReading.{is_open, is_comma, filter_head, map_head, join_head}
use Rattle.pipes_grammar.specs.PlanReading.{group_head, one_from, two_from, filter_from, map_from}
use Rattle.pipes_grammar.specs.PlanReading.{union_from, join_from, distinct_from, group_from}
use Rattle.pipes_grammar.specs.PlanReading.{minus_from}
use Rattle.pipes_grammar.proofs.Readers.{IsReader, Then, both, in_turn, reads_in_turn}
use Rattle.pipes_grammar.proofs.Layers.{Nothing, nothing, with_end, reads_nothing, reads_as}
use Rattle.pipes_grammar.proofs.Layers.{ThisKind, one, reads_wanted}
use Rattle.pipes_grammar.proofs.Expressions.{reads_close}
use Rattle.pipes_grammar.proofs.WholeExprs.{reads_expr}
use Rattle.pipes_grammar.proofs.ListReaders.{ListWithin}
use Rattle.pipes_grammar.proofs.EntryReaders.{reads_exprs, reads_columns, reads_pairs, reads_aggs}

abbrev Says : Type 0 → Type 1
Says A = A → List TokenKind → Type 0

open_alone : (k : TokenKind) → is_open k ≡ true → k ≡ Sign Open
open_alone (Sign Open) e = refl
open_alone _ e = absurd cc

comma_alone : (k : TokenKind) → is_comma k ≡ true → k ≡ Sign Comma
comma_alone (Sign Comma) e = refl
comma_alone _ e = absurd cc

reads_open : (Begun Exprs : Type 0) (whole : Option ℕ) → IsReader Begun Exprs whole
    (ThisKind (Sign Open)) (ThisKind (Sign Open)) (wanted is_open)
reads_open Begun Exprs whole = reads_wanted Begun Exprs whole Open is_open refl open_alone

reads_comma : (Begun Exprs : Type 0) (whole : Option ℕ) → IsReader Begun Exprs whole
    (ThisKind (Sign Comma)) (ThisKind (Sign Comma)) (wanted is_comma)
reads_comma Begun Exprs whole = reads_wanted Begun Exprs whole Comma is_comma refl
    comma_alone

-- ---- before the plans

-- `(`, a part and `,`
pub data Head {A : Type 0} (Part : A → List TokenKind → Type 0) : A → List TokenKind → Type 0 where
  head : (x : A) (ks : List TokenKind) → Part x ks → Head Part x
      (Sign Open ∷ (ks ++ (Sign Comma ∷ [])))

-- `(`, a part, `,`, another part and `,`
pub data Heads {A B : Type 0} (Part : A → List TokenKind → Type 0) (Other : B → List TokenKind
    → Type 0) : A × B → List TokenKind → Type 0 where
  heads : (x : A) (y : B) (ks ls : List TokenKind) → Part x ks → Other y ls
      → Heads Part Other (x, y) (Sign Open ∷ (ks ++ (Sign Comma ∷ (ls ++ (Sign Comma ∷ [])))))

abbrev HeadIs : {A : Type 0} → (A → List TokenKind → Type 0) → A → List TokenKind → Type 0
HeadIs Part = Then (ThisKind (Sign Open))
    (λ o. Then Part (λ x. Then (ThisKind (Sign Comma)) (λ c. Nothing x)))

abbrev HeadsIs : {A B : Type 0} → (A → List TokenKind → Type 0) → (B → List TokenKind → Type 0) → A
    × B → List TokenKind → Type 0
HeadsIs Part Other =
    Then (ThisKind (Sign Open)) (λ o. Then Part (λ x. Then (ThisKind (Sign Comma))
    (λ c. Then Other (λ y. Then (ThisKind (Sign Comma)) (λ d. Nothing (x, y))))))

head_is : {A : Type 0} (Part : A → List TokenKind → Type 0) (x : A) (ks : List TokenKind)
    → HeadIs Part x ks → Head Part x ks
head_is Part x _ (both o _ _ _ one (both y _ ks _ is (both c _ _ ms one end))) =
    with_end (λ z l. Head Part z (Sign Open ∷ (ks ++ (Sign Comma ∷ l)))) y x ms end (head y ks is)

spells_head : {A : Type 0} (Part : A → List TokenKind → Type 0) (x : A) (ks : List TokenKind)
    → Head Part x ks → HeadIs Part x ks
spells_head Part _ _ (head x ks is) =
    both tt x (Sign Open ∷ []) (ks ++ (Sign Comma ∷ [])) one
    (both x x ks (Sign Comma ∷ []) is (both tt x (Sign Comma ∷ []) [] one nothing))

heads_is : {A B : Type 0} (Part : A → List TokenKind → Type 0) (Other : B → List TokenKind → Type 0)
    (p : A × B) (ks : List TokenKind) → HeadsIs Part Other p ks → Heads Part Other p ks
heads_is Part Other p _ (both o _ _ _ one
    (both x _ ks _ is (both c _ _ _ one (both y _ ls _ is-y (both d _ _ ms one end))))) =
    with_end (λ z l. Heads Part Other z
    (Sign Open ∷ (ks ++ (Sign Comma ∷ (ls ++ (Sign Comma ∷ l)))))) (x, y) p ms end
    (heads x y ks ls is is-y)

spells_heads : {A B : Type 0} (Part : A → List TokenKind → Type 0) (Other : B → List TokenKind
    → Type 0) (p : A × B) (ks : List TokenKind) → Heads Part Other p ks → HeadsIs Part Other p ks
spells_heads Part Other _ _ (heads x y ks ls is is-y) =
    both tt (x, y) (Sign Open ∷ []) _ one
    (both x (x, y) ks _ is
    (both tt (x, y) (Sign Comma ∷ []) _ one
    (both y (x, y) ls (Sign Comma ∷ []) is-y (both tt (x, y) (Sign Comma ∷ []) [] one nothing))))

head_wider : {A : Type 0} (Part Wide : A → List TokenKind → Type 0)
    → ((x : A) (ks : List TokenKind) → Part x ks → Wide x ks) → (x : A) (ks : List TokenKind)
    → Head Part x ks → Head Wide x ks
head_wider Part Wide wider _ _ (head x ks is) = head x ks (wider x ks is)

heads_wider : {A B : Type 0} (Part Wide : A → List TokenKind → Type 0) (Other Wider : B
    → List TokenKind → Type 0) → ((x : A) (ks : List TokenKind) → Part x ks → Wide x ks)
    → ((x : B) (ks : List TokenKind) → Other x ks → Wider x ks) → (p : A × B) (ks : List TokenKind)
    → Heads Part Other p ks → Heads Wide Wider p ks
heads_wider Part Wide Other Wider wide wider _ _ (heads x y ks ls is is-y) =
    heads x y ks ls (wide x ks is) (wider y ls is-y)

module _ {A : Type 0} (Begun Exprs : Type 0) (whole : Option ℕ) (Is IsW : A → List TokenKind
    → Type 0) (read : Reads A)
    (part : IsReader Begun Exprs whole Is IsW read) where
  abbrev head_from : Reads A
  head_from = in_turn (wanted is_open)
      (λ o. in_turn read (λ x. in_turn (wanted is_comma) (λ c ts. Ok (x, ts))))

  reads_head : IsReader Begun Exprs whole (Head Is) (Head IsW) head_from
  reads_head = reads_as Begun Exprs whole (HeadIs Is) (HeadIs IsW) (Head Is) (Head IsW) head_from
      (reads_in_turn Begun Exprs whole _ _ _ _ (wanted is_open)
      (λ o. in_turn read (λ x. in_turn (wanted is_comma) (λ c ts. Ok (x, ts))))
      (reads_open Begun Exprs whole)
      (λ o. reads_in_turn Begun Exprs whole _ _ _ _ read (λ x. in_turn (wanted is_comma)
      (λ c ts. Ok (x, ts))) part
      (λ x. reads_in_turn Begun Exprs whole _ _ _ _ (wanted is_comma) (λ c ts. Ok (x, ts))
      (reads_comma Begun Exprs whole) (λ c. reads_nothing Begun Exprs whole x))))
      (head_is Is) (head_is IsW) (spells_head IsW) (head_wider IsW Is part.wider)

module _ {A B : Type 0} (Begun Exprs : Type 0) (whole : Option ℕ) (Is IsW : A → List TokenKind
    → Type 0) (read : Reads A) (Also AlsoW : B → List TokenKind → Type 0)
    (other : Reads B) (part : IsReader Begun Exprs whole Is IsW read)
    (part2 : IsReader Begun Exprs whole Also AlsoW other) where
  abbrev heads_from : Reads (A × B)
  heads_from = in_turn (wanted is_open)
      (λ o. in_turn read (λ x. in_turn (wanted is_comma) (λ c. in_turn other
      (λ y. in_turn (wanted is_comma) (λ d ts. Ok ((x, y), ts))))))

  reads_heads : IsReader Begun Exprs whole (Heads Is Also) (Heads IsW AlsoW) heads_from
  reads_heads = reads_as Begun Exprs whole (HeadsIs Is Also) (HeadsIs IsW AlsoW) (Heads Is Also)
      (Heads IsW AlsoW) heads_from
      (reads_in_turn Begun Exprs whole _ _ _ _ (wanted is_open)
      (λ o. in_turn read (λ x. in_turn (wanted is_comma) (λ c. in_turn other
      (λ y. in_turn (wanted is_comma) (λ d ts. Ok ((x, y), ts))))))
      (reads_open Begun Exprs whole)
      (λ o. reads_in_turn Begun Exprs whole _ _ _ _ read (λ x. in_turn (wanted is_comma)
      (λ c. in_turn other (λ y. in_turn (wanted is_comma) (λ d ts. Ok ((x, y), ts))))) part
      (λ x. reads_in_turn Begun Exprs whole _ _ _ _ (wanted is_comma)
      (λ c. in_turn other (λ y. in_turn (wanted is_comma) (λ d ts. Ok ((x, y), ts))))
      (reads_comma Begun Exprs whole)
      (λ c. reads_in_turn Begun Exprs whole _ _ _ _ other (λ y. in_turn (wanted is_comma)
      (λ d ts. Ok ((x, y), ts))) part2
      (λ y. reads_in_turn Begun Exprs whole _ _ _ _ (wanted is_comma) (λ d ts. Ok ((x, y), ts))
      (reads_comma Begun Exprs whole)
      (λ d. reads_nothing Begun Exprs whole (x, y)))))))
      (heads_is Is Also) (heads_is IsW AlsoW) (spells_heads IsW AlsoW)
      (heads_wider IsW Is AlsoW Also part.wider part2.wider)

pub reads_filter_head : (Begun : Type 0) (whole : Option ℕ) → IsReader Begun (Unit {0}) whole
    (Head IsExpr) (Head IsExprText) filter_head
unfolding filter_head
reads_filter_head Begun whole = reads_head Begun (Unit {0}) whole IsExpr IsExprText parse_expr
    (reads_expr Begun whole)

pub reads_map_head : (Begun : Type 0) (whole : Option ℕ) → IsReader Begun (Unit {0}) whole
    (Head (IsFilled IsExpr)) (Head AreExprsText) map_head
unfolding map_head
reads_map_head Begun whole = reads_head Begun (Unit {0}) whole (IsFilled IsExpr) AreExprsText
    parse_exprs (reads_exprs Begun whole)

pub reads_join_head : (Begun : Type 0) (whole : Option ℕ) → IsReader Begun (Unit {0}) whole
    (Heads (IsList IsPair) IsExpr) (Heads (ListWithin IsPair) IsExprText) join_head
unfolding join_head
reads_join_head Begun whole =
    reads_heads Begun (Unit {0}) whole (IsList IsPair) (ListWithin IsPair) parse_pairs IsExpr
    IsExprText parse_expr (reads_pairs Begun (Unit {0}) whole) (reads_expr Begun whole)

pub reads_group_head : (Begun : Type 0) (whole : Option ℕ)
    → IsReader Begun (Unit {0}) whole (Heads (IsList IsColumnPlace) (IsList IsAgg))
    (Heads (ListWithin IsColumnPlace) (ListWithin IsAgg)) group_head
unfolding group_head
reads_group_head Begun whole =
    reads_heads Begun (Unit {0}) whole (IsList IsColumnPlace) (ListWithin IsColumnPlace)
    parse_columns
    (IsList IsAgg) (ListWithin IsAgg) parse_aggs
    (reads_columns Begun (Unit {0}) whole) (reads_aggs Begun (Unit {0}) whole)

-- ---- the plans

-- a plan and `)`
pub data OnePlan (P : Plan → List TokenKind → Type 0) : Plan → List TokenKind → Type 0 where
  one_plan : (a : Plan) (ks : List TokenKind) → P a ks → OnePlan P a (ks ++ (Sign Close ∷ []))

-- two plans and `)`
pub data TwoPlans (P : Plan → List TokenKind → Type 0) : Plan × Plan → List TokenKind → Type 0 where
  two_plans : (a b : Plan) (ks ls : List TokenKind) → P a ks → P b ls
      → TwoPlans P (a, b) (ks ++ (Sign Comma ∷ (ls ++ (Sign Close ∷ []))))

abbrev OneIs : (Plan → List TokenKind → Type 0) → Plan → List TokenKind → Type 0
OneIs P = Then P (λ a. Then (ThisKind (Sign Close)) (λ c. Nothing a))

abbrev TwoIs : (Plan → List TokenKind → Type 0) → Plan × Plan → List TokenKind → Type 0
TwoIs P = Then P (λ a. Then (ThisKind (Sign Comma)) (λ c. Then P
    (λ b. Then (ThisKind (Sign Close)) (λ d. Nothing (a, b)))))

one_is : (P : Plan → List TokenKind → Type 0) (a : Plan) (ks : List TokenKind) → OneIs P a ks
    → OnePlan P a ks
one_is P a _ (both x _ ks _ is (both c _ _ ms one end)) = with_end
    (λ z l. OnePlan P z (ks ++ (Sign Close ∷ l))) x a ms end (one_plan x ks is)

spells_one : (P : Plan → List TokenKind → Type 0) (a : Plan) (ks : List TokenKind) → OnePlan P a ks
    → OneIs P a ks
spells_one P _ _ (one_plan a ks is) = both a a ks (Sign Close ∷ []) is
    (both tt a (Sign Close ∷ []) [] one nothing)

two_is : (P : Plan → List TokenKind → Type 0) (p : Plan × Plan) (ks : List TokenKind) → TwoIs P p ks
    → TwoPlans P p ks
two_is P p _ (both a _ ks _ is-a (both c _ _ _ one (both b _ ls _ is-b (both d _ _ ms one end)))) =
    with_end (λ z l. TwoPlans P z (ks ++ (Sign Comma ∷ (ls ++ (Sign Close ∷ l))))) (a, b) p ms end
    (two_plans a b ks ls is-a is-b)

spells_two : (P : Plan → List TokenKind → Type 0) (p : Plan × Plan) (ks : List TokenKind)
    → TwoPlans P p ks → TwoIs P p ks
spells_two P _ _ (two_plans a b ks ls is-a is-b) =
    both a (a, b) ks _ is-a (both tt (a, b) (Sign Comma ∷ []) _ one
    (both b (a, b) ls (Sign Close ∷ []) is-b (both tt (a, b) (Sign Close ∷ []) [] one nothing)))

one_wider : (P Q : Plan → List TokenKind → Type 0) → ((a : Plan) (ks : List TokenKind) → P a ks
    → Q a ks) → (a : Plan) (ks : List TokenKind) → OnePlan P a ks → OnePlan Q a ks
one_wider P Q wider _ _ (one_plan a ks is) = one_plan a ks (wider a ks is)

two_wider : (P Q : Plan → List TokenKind → Type 0) → ((a : Plan) (ks : List TokenKind) → P a ks
    → Q a ks) → (p : Plan × Plan) (ks : List TokenKind)
    → TwoPlans P p ks → TwoPlans Q p ks
two_wider P Q wider _ _ (two_plans a b ks ls is-a is-b) = two_plans a b ks ls (wider a ks is-a)
    (wider b ls is-b)

-- ---- nodes after their keyword

abbrev pub FilterIs : (Expr → List TokenKind → Type 0) → (Plan → List TokenKind → Type 0) → Plan
    → List TokenKind → Type 0
FilterIs E P = Then (Head E) (λ c. Then (OnePlan P) (λ a. Nothing (plan.Filter c a)))

abbrev pub MapIs : (List Expr → List TokenKind → Type 0) → (Plan → List TokenKind → Type 0) → Plan
    → List TokenKind → Type 0
MapIs L P = Then (Head L) (λ es. Then (OnePlan P) (λ a. Nothing (plan.Map es a)))

abbrev pub UnionIs : (Plan → List TokenKind → Type 0) → Plan → List TokenKind → Type 0
UnionIs P = Then (ThisKind (Sign Open)) (λ o. Then (TwoPlans P)
    (λ ab. Nothing (plan.Union ab.0 ab.1)))

abbrev pub JoinIs : (List Pair → List TokenKind → Type 0) → (Expr → List TokenKind → Type 0)
    → (Plan → List TokenKind → Type 0) → Plan → List TokenKind → Type 0
JoinIs K E P = Then (Heads K E)
    (λ h. Then (TwoPlans P) (λ ab. Nothing (plan.Join h.0 h.1 ab.0 ab.1)))

abbrev pub DistinctIs : (Plan → List TokenKind → Type 0) → Plan → List TokenKind → Type 0
DistinctIs P = Then (ThisKind (Sign Open)) (λ o. Then (OnePlan P) (λ a. Nothing (plan.Distinct a)))

abbrev pub GroupIs : (List ℕ → List TokenKind → Type 0) → (List Agg → List TokenKind → Type 0)
    → (Plan → List TokenKind → Type 0) → Plan → List TokenKind → Type 0
GroupIs K G P = Then (Heads K G) (λ h. Then (OnePlan P) (λ a. Nothing (plan.Group h.0 h.1 a)))

abbrev pub MinusIs : (Plan → List TokenKind → Type 0) → Plan → List TokenKind → Type 0
MinusIs P = Then (ThisKind (Sign Open)) (λ o. Then (TwoPlans P)
    (λ ab. Nothing (plan.Minus ab.0 ab.1)))

module _ (Begun : Type 0) (whole : Option ℕ) (Is IsW : Plan → List TokenKind → Type 0)
    (read : Reads Plan) (next : IsReader Begun (Unit {0}) whole Is IsW read) where
  abbrev Exprs : Type 0
  Exprs = Unit {0}

  reads_one : IsReader Begun Exprs whole (OnePlan Is) (OnePlan IsW) (one_from read)
  unfolding one_from
  reads_one = reads_as Begun Exprs whole (OneIs Is) (OneIs IsW) (OnePlan Is) (OnePlan IsW)
      (one_from read)
      (reads_in_turn Begun Exprs whole _ _ _ _ read (λ a. in_turn (wanted is_close)
      (λ c ts. Ok (a, ts))) next
      (λ a. reads_in_turn Begun Exprs whole _ _ _ _ (wanted is_close) (λ c ts. Ok (a, ts))
      (reads_close Begun Exprs whole) (λ c. reads_nothing Begun Exprs whole a)))
      (one_is Is) (one_is IsW) (spells_one IsW) (one_wider IsW Is next.wider)

  reads_two : IsReader Begun Exprs whole (TwoPlans Is) (TwoPlans IsW) (two_from read)
  unfolding two_from
  reads_two = reads_as Begun Exprs whole (TwoIs Is) (TwoIs IsW) (TwoPlans Is) (TwoPlans IsW)
      (two_from read)
      (reads_in_turn Begun Exprs whole _ _ _ _ read (λ a. in_turn (wanted is_comma)
      (λ c. in_turn read (λ b. in_turn (wanted is_close) (λ d ts. Ok ((a, b), ts))))) next
      (λ a. reads_in_turn Begun Exprs whole _ _ _ _ (wanted is_comma)
      (λ c. in_turn read (λ b. in_turn (wanted is_close) (λ d ts. Ok ((a, b), ts))))
      (reads_comma Begun Exprs whole)
      (λ c. reads_in_turn Begun Exprs whole _ _ _ _ read (λ b. in_turn (wanted is_close)
      (λ d ts. Ok ((a, b), ts))) next
      (λ b. reads_in_turn Begun Exprs whole _ _ _ _ (wanted is_close) (λ d ts. Ok ((a, b), ts))
      (reads_close Begun Exprs whole) (λ d. reads_nothing Begun Exprs whole (a, b))))))
      (two_is Is) (two_is IsW) (spells_two IsW) (two_wider IsW Is next.wider)

  pub reads_filter : IsReader Begun Exprs whole (FilterIs IsExpr Is) (FilterIs IsExprText IsW)
      (filter_from read)
  unfolding filter_from
  reads_filter =
      reads_in_turn Begun Exprs whole _ _ _ _ filter_head (λ c. in_turn (one_from read)
      (λ a ts. Ok (plan.Filter c a, ts))) (reads_filter_head Begun whole)
      (λ c. reads_in_turn Begun Exprs whole _ _ _ _ (one_from read)
      (λ a ts. Ok (plan.Filter c a, ts)) reads_one (λ a. reads_nothing Begun Exprs whole
      (plan.Filter c a)))

  pub reads_map : IsReader Begun Exprs whole (MapIs (IsFilled IsExpr) Is) (MapIs AreExprsText IsW)
      (map_from read)
  unfolding map_from
  reads_map =
      reads_in_turn Begun Exprs whole _ _ _ _ map_head (λ es. in_turn (one_from read)
      (λ a ts. Ok (plan.Map es a, ts))) (reads_map_head Begun whole)
      (λ es. reads_in_turn Begun Exprs whole _ _ _ _ (one_from read)
      (λ a ts. Ok (plan.Map es a, ts)) reads_one (λ a. reads_nothing Begun Exprs whole
      (plan.Map es a)))

  pub reads_union : IsReader Begun Exprs whole (UnionIs Is) (UnionIs IsW) (union_from read)
  unfolding union_from
  reads_union =
      reads_in_turn Begun Exprs whole _ _ _ _ (wanted is_open)
      (λ o. in_turn (two_from read) (λ ab ts. Ok (plan.Union ab.0 ab.1, ts)))
      (reads_open Begun Exprs whole)
      (λ o. reads_in_turn Begun Exprs whole _ _ _ _ (two_from read)
      (λ ab ts. Ok (plan.Union ab.0 ab.1, ts)) reads_two
      (λ ab. reads_nothing Begun Exprs whole (plan.Union ab.0 ab.1)))

  pub reads_join : IsReader Begun Exprs whole (JoinIs (IsList IsPair) IsExpr Is)
      (JoinIs (ListWithin IsPair) IsExprText IsW) (join_from read)
  unfolding join_from
  reads_join =
      reads_in_turn Begun Exprs whole _ _ _ _ join_head (λ h. in_turn (two_from read)
      (λ ab ts. Ok (plan.Join h.0 h.1 ab.0 ab.1, ts))) (reads_join_head Begun whole)
      (λ h. reads_in_turn Begun Exprs whole _ _ _ _ (two_from read)
      (λ ab ts. Ok (plan.Join h.0 h.1 ab.0 ab.1, ts)) reads_two
      (λ ab. reads_nothing Begun Exprs whole (plan.Join h.0 h.1 ab.0 ab.1)))

  pub reads_distinct : IsReader Begun Exprs whole (DistinctIs Is) (DistinctIs IsW)
      (distinct_from read)
  unfolding distinct_from
  reads_distinct =
      reads_in_turn Begun Exprs whole _ _ _ _ (wanted is_open)
      (λ o. in_turn (one_from read) (λ a ts. Ok (plan.Distinct a, ts)))
      (reads_open Begun Exprs whole)
      (λ o. reads_in_turn Begun Exprs whole _ _ _ _ (one_from read)
      (λ a ts. Ok (plan.Distinct a, ts)) reads_one (λ a. reads_nothing Begun Exprs whole
      (plan.Distinct a)))

  pub reads_group : IsReader Begun Exprs whole (GroupIs (IsList IsColumnPlace) (IsList IsAgg) Is)
      (GroupIs (ListWithin IsColumnPlace) (ListWithin IsAgg) IsW) (group_from read)
  unfolding group_from
  reads_group =
      reads_in_turn Begun Exprs whole _ _ _ _ group_head (λ h. in_turn (one_from read)
      (λ a ts. Ok (plan.Group h.0 h.1 a, ts))) (reads_group_head Begun whole)
      (λ h. reads_in_turn Begun Exprs whole _ _ _ _ (one_from read)
      (λ a ts. Ok (plan.Group h.0 h.1 a, ts)) reads_one (λ a. reads_nothing Begun Exprs whole
      (plan.Group h.0 h.1 a)))

  pub reads_minus : IsReader Begun Exprs whole (MinusIs Is) (MinusIs IsW) (minus_from read)
  unfolding minus_from
  reads_minus =
      reads_in_turn Begun Exprs whole _ _ _ _ (wanted is_open)
      (λ o. in_turn (two_from read) (λ ab ts. Ok (plan.Minus ab.0 ab.1, ts)))
      (reads_open Begun Exprs whole)
      (λ o. reads_in_turn Begun Exprs whole _ _ _ _ (two_from read)
      (λ ab ts. Ok (plan.Minus ab.0 ab.1, ts)) reads_two
      (λ ab. reads_nothing Begun Exprs whole (plan.Minus ab.0 ab.1)))
