-- What a plan at work over its sources stands for, and what its calls do.
use Rattle.std.specs.Prelude.{◌≡◌, ℕ, ◌<◌, ◌≤◌, false, List, [], ◌++◌, length, map, get_or}
use Rattle.std.specs.Prelude.{slice_get, unwrap_or, set}
use Rattle.pipes_tuple.specs.declared.value.Kind.{Kind}
use Rattle.pipes_stream.specs.declared.message.Message.{Message}
use Rattle.pipes_stream.specs.Lists.{run, start_of_list, after}
use Rattle.pipes_stream.specs.Lawful.{Lists, with_message}
use Rattle.pipes_plan.specs.declared.plan.Plan.{Plan}
use Rattle.pipes_node.specs.Passing.{MayPass}
use Rattle.pipes_box.specs.Shapes.{shape_of, sources_of, LeafFits}
use Rattle.pipes_box.specs.Boxes.{BoxStands, IsSound}
use Rattle.pipes_works.specs.declared.input.Input.{Input}
use Rattle.pipes_works.specs.declared.works.Works.{Works}
use Rattle.pipes_works.specs.Sources.{by_leaf, leaves_from}

-- a source of the plan, from which this list came
pub record InputStands (schemas : List (List Kind)) (plan : Plan) (source : ℕ)
    (list : List Message) (input : Input) : Type 0 where
  pub leaves : input.leaves.items ≡ leaves_from source 0 (sources_of (shape_of schemas plan))
  pub watch : input.watch ≡ run start_of_list list
  pub fits : LeafFits (unwrap_or (slice_get schemas source) []) list

-- It is the plan at work: each source gave this list, and this one was taken at the top.
pub record WorksStand (w : Works) (schemas : List (List Kind)) (plan : Plan) (by_source : Lists)
    (got : List Message) : Type 0 where
  pub plan_box : BoxStands w.plan_box schemas plan (by_leaf (shape_of schemas plan) by_source) got
  pub schemas_are : map (λ (i : Input). i.schema) w.inputs.items ≡ schemas
  pub inputs : (source : ℕ) (d : Input) → source < length w.inputs.items
      → InputStands schemas plan source (by_source source) (get_or w.inputs.items source d)

-- it stands for some lists
pub record StandsForSome (w : Works) : Type 0 where
  pub schemas : List (List Kind)
  pub plan : Plan
  pub by_source : Lists
  pub got : List Message
  pub stands : WorksStand w schemas plan by_source got

-- What holds of it since it was made, whatever was called. Out of memory it stands for nothing
-- more.
pub record IsWhole (w : Works) : Type 0 where
  pub sound : IsSound w.plan_box
  pub some_workers : 1 ≤ w.workers
  pub most_workers : w.workers ≤ 16
  pub stands : w.failed ≡ false → StandsForSome w

abbrev pub source_count : Works → ℕ
source_count w = length w.inputs.items

-- the message may come next from this source: its list stays valid, and the tuple fits
abbrev pub MayCome : Works → ℕ → Message → Type 0
MayCome w source m = (d : Input) → MayPass (get_or w.inputs.items source d).schema
    (get_or w.inputs.items source d).watch m

-- The watch of the source moved past the message; nothing else changed.
pub record Noted (old new : Works) (source : ℕ) (m : Message) : Type 0 where
  pub plan_box : new.plan_box ≡ old.plan_box
  pub inputs : (d : Input) → new.inputs.items ≡ set old.inputs.items source (record {
    leaves = (get_or old.inputs.items source d).leaves;
    watch = after (get_or old.inputs.items source d).watch m;
    schema = (get_or old.inputs.items source d).schema;
  })
  pub workers : new.workers ≡ old.workers

-- The source gave the message, and what came to the top meanwhile was appended.
pub record Puts (old new : Works) (source : ℕ) (m : Message) (before now : List Message) : Type 0
  where
    pub more : List Message
    pub appended : now ≡ before ++ more
    pub stands : (schemas : List (List Kind)) (plan : Plan) (by_source : Lists)
        (got : List Message) → WorksStand old schemas plan by_source got
        → WorksStand new schemas plan (with_message by_source source m) (got ++ more)

-- What came to the top was appended.
pub record WorksOff (old new : Works) (before now : List Message) : Type 0 where
  pub more : List Message
  pub appended : now ≡ before ++ more
  pub stands : (schemas : List (List Kind)) (plan : Plan) (by_source : Lists)
      (got : List Message) → WorksStand old schemas plan by_source got
      → WorksStand new schemas plan by_source (got ++ more)
