-- A group operator is lawful.
use Rattle.std.proofs.Common.{◌≡◌, ℕ, ◌+◌, ◌<◌, Bool, true, false, cond, nat_lt, List, []}
use Rattle.std.proofs.Common.{◌∷◌, map, length, Some, refl, sym, ◌∙◌, subst, ap, arith}
use Rattle.std.specs.Prelude.{unwrap_or, Option}
use Rattle.std.specs.Option.{option_and_then}
use Rattle.std.specs.List.{All, filter}
use Rattle.std.proofs.lemmas.List.Elements.{All-nil, All-cons, All-head, All-tail}
use Rattle.pipes_time.specs.Interval.{closed}
use Rattle.pipes_tuple.specs.declared.value.Kind.{Kind}
use Rattle.pipes_tuple.specs.Columns.{at_columns, HasColumns}
use Rattle.pipes_tuple.specs.Equal.{tuple_eq}
use Rattle.pipes_tuple.specs.Kinds.{Fits}
use Rattle.pipes_tuple.specs.Bag.{count}
use Rattle.pipes_tuple.proofs.Bags.{count-cons}
use Rattle.pipes_tuple.proofs.Columns.{length-at_columns}
use Rattle.pipes_stream.specs.declared.Elem.{Elem}
use Rattle.pipes_stream.specs.declared.message.Message.{Message}
use Rattle.pipes_stream.specs.Progress.{Progress}
use Rattle.pipes_stream.specs.Snapshot.{is_held, snapshot}
use Rattle.pipes_stream.specs.Lists.{beat, elements}
use Rattle.pipes_stream.specs.Lawful.{Lists, Lawful, least, all_elements, open_count}
use Rattle.pipes_stream.proofs.Messages.{beat-closed, beat-ended}
use Rattle.pipes_relation.specs.declared.lists.Agg.{Agg}
use Rattle.pipes_plan.specs.declared.plan.Plan.TheVariants as plan
use Rattle.pipes_expr.specs.ExprValue.{Row}
use Rattle.pipes_plan.specs.PlanKinds.{group_kinds}
use Rattle.pipes_relation.specs.Relations.{grouped}
use Rattle.pipes_plan.proofs.AnswerFits.{answer_fits, group_columns}
use Rattle.pipes_plan.proofs.PlanEquations.{alg-Source, alg-Group, kinds-Source, kinds-Group}
use Rattle.pipes_stream.specs.Weights.{weigh}
use Rattle.pipes_stream.proofs.Weights.{weigh-map, weigh-count}
use Rattle.pipes_timeline.specs.Rules.{Arrival, rows_at, valid_at}
use Rattle.pipes_timeline.specs.Lines.{ends_after, Living}
use Rattle.pipes_timeline.specs.LineMoves.{same-key}
use Rattle.pipes_timeline.specs.Stands.{RuleAnswers, timeline_lawful, live-length, closed-none}
use Rattle.pipes_group.specs.declared.group.Group.{Group}
use Rattle.pipes_group.specs.Tasks.{group_task}
use Rattle.pipes_group.specs.Groups.{GroupTells}
use Rattle.pipes_group.specs.GroupLaw.{group_rule, HasKeys, count-grouped}
use Rattle.pipes_group.specs.Grouped.{arrivals, GroupStands}

-- the rows of the one port are those of the snapshot
rows-arrived : (t : ℕ) (es : List Elem) → rows_at (valid_at t (arrivals es)) 0 ≡ snapshot es t
rows-arrived t [] = refl
rows-arrived t (e ∷ es) = pick (is_held e.span t) (rows-arrived t es)
  where
    pick : (b : Bool) → rows_at (valid_at t (arrivals es)) 0 ≡ snapshot es t
        → rows_at (cond b ((0, e) ∷ valid_at t (arrivals es)) (valid_at t (arrivals es))) 0
        ≡ map (λ (e : Elem). e.tuple)
        (cond b (e ∷ filter (λ (e : Elem). is_held e.span t) es)
        (filter (λ (e : Elem). is_held e.span t) es))
    pick true h = ap (λ (rows : List Row). e.tuple ∷ rows) h
    pick false h = h

snapshot-fits : (t : ℕ) (kinds : List Kind) (es : List Elem) → All (λ e. Fits e.tuple kinds) es
    → All (λ row. Fits row kinds) (snapshot es t)
snapshot-fits t kinds [] all = All-nil (λ (row : Row). Fits row kinds)
snapshot-fits t kinds (e ∷ es) all =
    pick (is_held e.span t)
    (snapshot-fits t kinds es (All-tail (λ (e : Elem). Fits e.tuple kinds) e es all))
  where
    pick : (b : Bool) → All (λ row. Fits row kinds) (snapshot es t)
        → All (λ row. Fits row kinds) (map (λ (e : Elem). e.tuple)
        (cond b (e ∷ filter (λ (e : Elem). is_held e.span t) es)
        (filter (λ (e : Elem). is_held e.span t) es)))
    pick true h = All-cons (λ (row : Row). Fits row kinds) e.tuple (snapshot es t)
        (All-head (λ (e : Elem). Fits e.tuple kinds) e es all) h
    pick false h = h

have-keys : (columns : List ℕ) (rows : List Row) → All (λ row. HasColumns columns row) rows
    → HasKeys columns rows
have-keys columns [] all = All-nil (λ (row : Row). length (at_columns columns row) ≡ length columns)
have-keys columns (row ∷ rows) all =
    All-cons (λ (row : Row). length (at_columns columns row) ≡ length columns) row rows
    (length-at_columns columns row (All-head (λ (row : Row). HasColumns columns row) row rows all))
    (have-keys columns rows (All-tail (λ (row : Row). HasColumns columns row) row rows all))

counted-fits : (kinds : List Kind) (x : Row) (rows : List Row) → All (λ row. Fits row kinds) rows
    → 0 < count x rows → Fits x kinds
counted-fits kinds x [] all s = absurd (omega arith)
counted-fits kinds x (row ∷ rows) all s =
    pick (tuple_eq row x) refl (omega (arith, s, count-cons x row rows))
    (counted-fits kinds x rows (All-tail (λ (row : Row). Fits row kinds) row rows all))
  where
    pick : (b : Bool) → tuple_eq row x ≡ b → 0 < cond {A = ℕ} b 1 0 + count x rows
        → (0 < count x rows → Fits x kinds) → Fits x kinds
    pick true e w rest = subst (λ (q : Row). Fits q kinds) (same-key row x e)
        (All-head (λ (row : Row). Fits row kinds) row rows all)
    pick false e w rest = rest (omega (arith, w))

module _ (g : Group) (taken : Lists) (sent : List Message) (s : GroupStands g taken sent) where
  abbrev columns : List ℕ
  columns = g.line.rule.columns

  abbrev aggs : List Agg
  aggs = g.line.rule.aggs

  abbrev es : List Elem
  es = elements (taken 0)

  keys-at : (t : ℕ) → HasKeys columns (snapshot es t)
  keys-at t = have-keys columns (snapshot es t)
      (group_columns (g.schema ∷ []) (snapshot es t ∷ []) columns aggs
      (plan.Group columns aggs (plan.Source 0)) (plan.Source 0) (snapshot es t) refl
      (snapshot-fits t g.schema es s.taken_fits, tt) s.typed
      (sym (alg-Source 0 (snapshot es t ∷ []))))

  meaning : (x : Row) (t : ℕ)
      → (group_rule columns aggs).gives ((group_rule columns aggs).key_of_answer x)
      (rows_at (valid_at t (arrivals es))) x ≡ count x (grouped columns aggs (snapshot es t))
  meaning x t =
      sym (count-grouped columns aggs x (rows_at (valid_at t (arrivals es)))
      (subst (λ (rows : List Row). HasKeys columns rows) (sym (rows-arrived t es)) (keys-at t)))
      ∙ ap (λ (rows : List Row). count x (grouped columns aggs rows)) (rows-arrived t es)

  gives-is : unwrap_or (group_kinds columns aggs g.schema) [] ≡ s.typed.schema
  gives-is =
      let kinds : List (List Kind) = g.schema ∷ [] in
      let is : group_kinds columns aggs g.schema ≡ Some s.typed.schema =
      ap (λ (o : Option (List Kind)). option_and_then (group_kinds columns aggs) o)
      (sym (kinds-Source 0 kinds))
      ∙ sym (kinds-Group columns aggs (plan.Source 0) kinds) ∙ s.typed.is in
      ap (λ (o : Option (List Kind)). unwrap_or o []) is

  -- the rows of the answer at an instant
  answer-fits : (t : ℕ)
      → All (λ row. Fits row s.typed.schema) (grouped columns aggs (snapshot es t))
  answer-fits t =
      let bags : List (List Row) = snapshot es t ∷ [] in
      subst (λ (rows : List Row). All (λ row. Fits row s.typed.schema) rows)
      (alg-Group columns aggs (plan.Source 0) bags
      ∙ ap (λ (rows : List Row). grouped columns aggs rows) (alg-Source 0 bags))
      (answer_fits (g.schema ∷ []) bags (snapshot-fits t g.schema es s.taken_fits, tt)
      (plan.Group columns aggs (plan.Source 0)) s.typed.schema s.typed.is)

  answers : RuleAnswers (group_task columns aggs g.schema) (group_rule columns aggs)
      (beat (taken 0))
      (arrivals es) taken
  answers = record {
    meaning = λ x t low. meaning x t;
    fits = λ x t low some.
        subst (λ (kinds : List Kind). Fits x kinds) (sym gives-is)
        (counted-fits s.typed.schema x (grouped columns aggs (snapshot es t))
        (answer-fits t)
        (let a = meaning x t in omega (arith, a, some)));
    among = λ f. (let a = weigh-map (λ (d : Arrival). f d.1) (λ (e : Elem). (0, e)) es in
        omega (arith, a));
  }

  open-is : (h : ℕ) → open_count h es ≡ weigh (λ (e : Elem). ends_after h e.span) es
  open-is h = weigh-count (λ (e : Elem). nat_lt h e.span.end) es

  held-open : length g.line.ends ≡ open_count (beat (taken 0)) es
  held-open =
      let h : ℕ = beat (taken 0) in
      let a = live-length h g.line.ends (arrivals es)
      (subst (λ (n : ℕ). Living n g.line.ends (arrivals es)) s.line.now s.line.runs.line.lives)
      s.line.over in
      let b = weigh-map (λ (d : Arrival). ends_after h d.1.span) (λ (e : Elem). (0, e)) es in
      let c = open-is h in
      omega (arith, a, b, c)

  least-is : beat (taken 0) ≡ least 1 taken
  least-is = let a = beat-closed (taken 0) s.taken_valid in omega (arith, a)

  -- what is held is what lives
  pub group_holds : length g.line.ends ≡ open_count (least 1 taken) (all_elements 1 taken)
  group_holds = held-open ∙ ap (λ (n : ℕ). open_count n es) least-is

  pub group_lawful : Lawful (group_task columns aggs g.schema) taken sent (length g.line.ends)
  group_lawful =
      timeline_lawful (group_task columns aggs g.schema) (group_rule columns aggs)
      (GroupTells columns aggs) g.line (beat (taken 0)) g.watch.ended (arrivals es) taken sent
      (length g.line.ends) s.line least-is refl answers
      (λ over. (
        ap (λ (p : Progress). p.ended) s.watch_is ∙ over 0 (omega arith),
        (let a : beat (taken 0) ≡ closed = beat-ended (taken 0) s.taken_valid
            (over 0 (omega arith)) in
            let b = closed-none (taken 0) s.taken_valid in
            let c = open-is closed in
            held-open ∙ ap (λ (n : ℕ). open_count n es) a ∙ omega (arith, b, c)),
      ))
      (let a = held-open in omega (arith, a))
