-- A plan as the tasks of its nodes, and what it means over lists given at its leaves.
use Rattle.std.specs.Prelude.{◌≡◌, ℕ, ◌+◌, ◌<◌, cond, eqb, List, []}
use Rattle.std.specs.Prelude.{◌∷◌, ◌++◌}
use Rattle.std.specs.Prelude.{slice_get, unwrap_or}
use Rattle.std.specs.List.{All}
use Rattle.pipes_tuple.specs.declared.value.Value.{Value}
use Rattle.pipes_tuple.specs.declared.value.Kind.{Kind}
use Rattle.pipes_tuple.specs.Kinds.{Fits}
use Rattle.pipes_tuple.specs.Bag.{SameBag}
use Rattle.pipes_stream.specs.declared.Elem.{Elem}
use Rattle.pipes_stream.specs.declared.message.Message.{Message}
use Rattle.pipes_stream.specs.Snapshot.{snapshot}
use Rattle.pipes_stream.specs.Lists.{Valid, beat, elements}
use Rattle.pipes_stream.specs.Lawful.{Lists, Task, IsCovered}
use Rattle.pipes_plan.specs.declared.plan.Plan.{Plan, fold-Plan}
use Rattle.pipes_plan.specs.declared.plan.Plan.TheOpen.{Plan-F, Source, Filter, Map, Union, Join}
use Rattle.pipes_plan.specs.declared.plan.Plan.TheOpen.{Distinct, Group, Minus}
use Rattle.pipes_plan.specs.Algebra.{alg}
use Rattle.pipes_flat.specs.Tasks.{filter_task, map_task, union_task}
use Rattle.pipes_pair.specs.Tasks.{join_task}
use Rattle.pipes_group.specs.Tasks.{distinct_task, group_task}
use Rattle.pipes_minus.specs.Tasks.{minus_task}

-- The leaves are sources, each with its number and the kinds of its tuples.
pub data Shape : Type 0 where
  Leaf : ℕ → List Kind → Shape
  One : Task → Shape → Shape
  Two : Task → Shape → Shape → Shape

-- the kinds of the tuples that it sends
abbrev pub gives_of : Shape → List Kind
gives_of (Leaf source kinds) = kinds
gives_of (One task a) = task.gives
gives_of (Two task a b) = task.gives

-- the plan with the task of each node: each kind of node has one line
abbrev pub shape_step : List (List Kind) → Plan-F Shape → Shape
shape_step schemas (Source i) = Leaf i (unwrap_or (slice_get schemas i) [])
shape_step schemas (Filter p a) = One (filter_task p (gives_of a)) a
shape_step schemas (Map es a) = One (map_task es (gives_of a)) a
shape_step schemas (Union a b) = Two (union_task (gives_of a)) a b
shape_step schemas (Join k c a b) = Two (join_task k c (gives_of a) (gives_of b)) a b
shape_step schemas (Distinct a) = One (distinct_task (gives_of a)) a
shape_step schemas (Group k g a) = One (group_task k g (gives_of a)) a
shape_step schemas (Minus a b) = Two (minus_task (gives_of a)) a b

abbrev pub shape_of : List (List Kind) → Plan → Shape
shape_of schemas = fold-Plan Shape (shape_step schemas)

abbrev pub node_count : Shape → ℕ
node_count (Leaf source kinds) = 1
node_count (One task a) = node_count a + 1
node_count (Two task a b) = node_count a + node_count b + 1

abbrev pub leaf_count : Shape → ℕ
leaf_count (Leaf source kinds) = 1
leaf_count (One task a) = leaf_count a
leaf_count (Two task a b) = leaf_count a + leaf_count b

-- the numbers of its leaves' sources, in preorder
abbrev pub sources_of : Shape → List ℕ
sources_of (Leaf source kinds) = source ∷ []
sources_of (One task a) = sources_of a
sources_of (Two task a b) = sources_of a ++ sources_of b

abbrev pub two_bags : List (List Value) → List (List Value) → ℕ → List (List Value)
two_bags left right port = cond (eqb port 0) left right

-- what the plan makes of a bag for each of its leaves, which are numbered from n on in preorder
abbrev pub meaning_of : Shape → ℕ → (ℕ → List (List Value)) → List (List Value)
meaning_of (Leaf source kinds) n bags = bags n
meaning_of (One task a) n bags = task.meaning (λ port. meaning_of a n bags)
meaning_of (Two task a b) n bags = task.meaning (two_bags (meaning_of a n bags)
    (meaning_of b (n + leaf_count a) bags))

-- the elements given at the leaves
abbrev pub leaf_elements : Shape → ℕ → Lists → List Elem
leaf_elements (Leaf source kinds) n given = elements (given n)
leaf_elements (One task a) n given = leaf_elements a n given
leaf_elements (Two task a b) n given = leaf_elements a n given
    ++ leaf_elements b (n + leaf_count a) given

-- what is given at each leaf is valid, and its tuples fit
pub record LeafFits (kinds : List Kind) (list : List Message) : Type 0 where
  pub valid : Valid list
  pub fits : All (λ e. Fits e.tuple kinds) (elements list)

abbrev pub GivenFits : Shape → ℕ → Lists → Type 0
GivenFits (Leaf source kinds) n given = LeafFits kinds (given n)
GivenFits (One task a) n given = GivenFits a n given
GivenFits (Two task a b) n given = GivenFits a n given × GivenFits b (n + leaf_count a) given

-- The list is the plan's answer to what was given at the leaves, as far as its heartbeat.
pub record Answers (shape : Shape) (n : ℕ) (given : Lists) (list : List Message) : Type 0 where
  -- nothing in it starts below the heartbeat of what comes before
  pub valid : Valid list
  pub fits : All (λ e. Fits e.tuple (gives_of shape)) (elements list)
  pub answer : (t : ℕ) → t < beat list
      → SameBag (snapshot (elements list) t) (meaning_of shape n
      (λ leaf. snapshot (elements (given leaf)) t))
  -- each element's span is a part of the span of one that was given
  pub spans : All (IsCovered (leaf_elements shape n given)) (elements list)

-- the bag of each leaf is that of its source
abbrev pub AtSources : Shape → ℕ → (ℕ → List (List Value)) → List (List (List Value)) → Type 0
AtSources (Leaf source kinds) n bags sources = bags n ≡ unwrap_or (slice_get sources source) []
AtSources (One task a) n bags sources = AtSources a n bags sources
AtSources (Two task a b) n bags sources =
    AtSources a n bags sources × AtSources b (n + leaf_count a) bags sources

-- Below its heartbeat the list is what the algebra makes of the sources' bags, where each leaf was
-- given its source.
abbrev pub FollowsPlan : List (List Kind) → Plan → Lists → List Message → Type 0
FollowsPlan schemas plan given list =
    (t : ℕ) (sources : List (List (List Value))) → t < beat list
    → AtSources (shape_of schemas plan) 0 (λ leaf. snapshot (elements (given leaf)) t) sources
    → SameBag (snapshot (elements list) t) (alg plan sources)

-- the task makes the same bag of the same bags at its ports
abbrev pub KeepsBags : Task → Type 0
KeepsBags task = (f g : ℕ → List (List Value)) → ((port : ℕ) → port < task.ports
    → SameBag (f port) (g port)) → SameBag (task.meaning f) (task.meaning g)

-- the tasks keep bags, and each takes at its ports what its children send
abbrev pub IsProper : Shape → Type 0
IsProper (Leaf source kinds) = Unit {0}
IsProper (One task a) = KeepsBags task × (task.ports ≡ 1) × (task.takes 0 ≡ gives_of a) × IsProper a
IsProper (Two task a b) = KeepsBags task × (task.ports ≡ 2) × (task.takes 0 ≡ gives_of a)
    × (task.takes 1 ≡ gives_of b) × IsProper a × IsProper b
