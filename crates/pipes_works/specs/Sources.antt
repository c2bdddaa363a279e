-- A plan at work over its sources: each leaf is given the list of its source.
use Rattle.std.specs.Prelude.{◌≡◌, ℕ, ◌+◌, ◌<◌, ◌≤◌, cond, eqb, List, [], ◌∷◌, get_or, slice_get}
use Rattle.std.specs.Prelude.{unwrap_or, Some}
use Rattle.std.specs.List.{All, Contains}
use Rattle.pipes_tuple.specs.declared.value.Value.{Value}
use Rattle.pipes_tuple.specs.declared.value.Kind.{Kind}
use Rattle.pipes_tuple.specs.Kinds.{Fits}
use Rattle.pipes_tuple.specs.Bag.{SameBag}
use Rattle.pipes_stream.specs.declared.Elem.{Elem}
use Rattle.pipes_stream.specs.declared.message.Message.{Message}
use Rattle.pipes_stream.specs.Snapshot.{snapshot}
use Rattle.pipes_stream.specs.Lists.{Valid, beat, elements, HasEnded}
use Rattle.pipes_stream.specs.Lawful.{Lists, IsCovered}
use Rattle.pipes_plan.specs.declared.plan.Plan.{Plan}
use Rattle.pipes_plan.specs.PlanKinds.{plan_kinds}
use Rattle.pipes_plan.specs.Algebra.{alg}
use Rattle.pipes_box.specs.Shapes.{Shape, shape_of, sources_of}
use Rattle.pipes_box.specs.Prompt.{lag_of, floors}

-- the source of a leaf; leaves are numbered in preorder
abbrev pub source_of : Shape → ℕ → ℕ
source_of shape leaf = get_or (sources_of shape) leaf 0

-- at each leaf the list of its source
abbrev pub by_leaf : Shape → Lists → Lists
by_leaf shape by_source leaf = by_source (source_of shape leaf)

-- the plan has a leaf of this source
abbrev pub Reads : List (List Kind) → Plan → ℕ → Type 0
Reads schemas plan source = Contains (sources_of (shape_of schemas plan)) source

-- the numbers of the leaves of a source; `sources` has the source of each leaf, from this leaf on
abbrev pub leaves_from : ℕ → ℕ → List ℕ → List ℕ
leaves_from source leaf [] = []
leaves_from source leaf (s ∷ sources) =
    cond (eqb s source) (leaf ∷ leaves_from source (leaf + 1) sources)
    (leaves_from source (leaf + 1) sources)

-- the element's span is a part of the span of one that a source gave
abbrev pub IsCoveredBySource : List (List Kind) → Plan → Lists → Elem → Type 0
IsCoveredBySource schemas plan by_source e =
    (source : ℕ) × Reads schemas plan source × IsCovered (elements (by_source source)) e

-- The list is the plan's answer to what its sources gave, as far as its heartbeat.
pub record AnswersSources (schemas : List (List Kind)) (plan : Plan) (by_source : Lists)
    (got : List Message) : Type 0 where
  -- nothing in it starts below the heartbeat of what comes before
  pub valid : Valid got
  pub fits : (kinds : List Kind) → plan_kinds plan schemas ≡ Some kinds
      → All (λ e. Fits e.tuple kinds) (elements got)
  -- at an instant at which each source that the plan reads gave what is valid in its bag
  pub answer : (t : ℕ) (bags : List (List (List Value))) → t < beat got
      → ((source : ℕ) → Reads schemas plan source
      → SameBag (snapshot (elements (by_source source)) t) (unwrap_or (slice_get bags source) []))
      → SameBag (snapshot (elements got) t) (alg plan bags)
  pub spans : All (IsCoveredBySource schemas plan by_source) (elements got)

-- each source that the plan reads has come as far
abbrev pub AllReached : List (List Kind) → Plan → Lists → ℕ → Type 0
AllReached schemas plan by_source h =
    (source : ℕ) → Reads schemas plan source → h ≤ beat (by_source source)

-- each element that such a source gave is a part of one of these
abbrev pub AllWithin : List (List Kind) → Plan → Lists → List Elem → Type 0
AllWithin schemas plan by_source es =
    (source : ℕ) → Reads schemas plan source → All (IsCovered es) (elements (by_source source))

abbrev pub AllSourcesEnded : List (List Kind) → Plan → Lists → Type 0
AllSourcesEnded schemas plan by_source =
    (source : ℕ) → Reads schemas plan source → HasEnded (by_source source)

-- The list has come as far as its sources: it is kept back by no more than the elements that reach
-- there, and not at all where no operator lags. It has ended once all sources have.
pub record KeepsUpWithSources (schemas : List (List Kind)) (plan : Plan) (by_source : Lists)
    (got : List Message) : Type 0 where
  pub below : AllReached schemas plan by_source (beat got)
  pub above : (h : ℕ) (es : List Elem) → AllReached schemas plan by_source h
      → AllWithin schemas plan by_source es
      → floors (lag_of (shape_of schemas plan)) h es ≤ beat got
  pub prompt : lag_of (shape_of schemas plan) ≡ 0 → (h : ℕ)
      → AllReached schemas plan by_source h → h ≤ beat got
  pub ends : AllSourcesEnded schemas plan by_source → HasEnded got
