-- Only private functions need these: one message given at several leaves.
use Rattle.std.specs.Prelude.{◌≡◌, ℕ, ◌<◌, List, [], ◌∷◌, ◌++◌, map, length, get_or, ⊤}
use Rattle.pipes_tuple.specs.declared.value.Kind.{Kind}
use Rattle.pipes_stream.specs.declared.message.Message.{Message}
use Rattle.pipes_stream.specs.Lists.{start_of_list}
use Rattle.pipes_stream.specs.Lawful.{Lists, with_message}
use Rattle.pipes_plan.specs.declared.plan.Plan.{Plan}
use Rattle.pipes_box.specs.declared.plan_box.PlanBox.{PlanBox}
use Rattle.pipes_box.specs.declared.leaf.Leaf.{Leaf}
use Rattle.pipes_box.specs.Shapes.{Shape, shape_of, leaf_count, sources_of, GivenFits}
use Rattle.pipes_box.specs.Boxes.{BoxStands, IsSound}
use Rattle.pipes_works.specs.declared.input.Input.{Input}
use Rattle.pipes_works.specs.Sources.{leaves_from}

-- the lists with one more message at each of these leaves
abbrev pub with_each : Lists → List ℕ → Message → Lists
with_each given [] m = given
with_each given (leaf ∷ leaves) m = with_each (with_message given leaf m) leaves m

-- the message may be given at each of these leaves, one after another
abbrev pub EachFits : Shape → Lists → List ℕ → Message → Type 0
EachFits shape given [] m = ⊤
EachFits shape given (leaf ∷ leaves) m = (leaf < leaf_count shape)
    × GivenFits shape 0 (with_message given leaf m)
    × EachFits shape (with_message given leaf m) leaves m

-- the box is sound, and stands for some lists after which the message may be given at these leaves
pub record CanGive (b : PlanBox) (leaves : List ℕ) (m : Message) : Type 0 where
  pub sound : IsSound b
  pub schemas : List (List Kind)
  pub plan : Plan
  pub given : Lists
  pub got : List Message
  pub stands : BoxStands b schemas plan given got
  pub fits : EachFits (shape_of schemas plan) given leaves m

-- the message was given at these leaves, and what came to the top meanwhile was appended
pub record GivesEach (old new : PlanBox) (leaves : List ℕ) (m : Message)
    (before now : List Message) : Type 0 where
  pub more : List Message
  pub appended : now ≡ before ++ more
  pub stands : (schemas : List (List Kind)) (plan : Plan) (given : Lists) (got : List Message)
      → BoxStands old schemas plan given got → EachFits (shape_of schemas plan) given leaves m
      → BoxStands new schemas plan (with_each given leaves m) (got ++ more)

-- the sources of a box of which nothing was given
pub record AreInputs (b : PlanBox) (schemas : List (List Kind)) (inputs : List Input) : Type 0 where
  pub schemas_are : map (λ (i : Input). i.schema) inputs ≡ schemas
  pub watches : (k : ℕ) (d : Input) → k < length inputs
      → (get_or inputs k d).watch ≡ start_of_list
  pub leaves : (k : ℕ) (d : Input) → k < length inputs → (ss : List (List Kind)) (plan : Plan)
      (given : Lists) (got : List Message) → BoxStands b ss plan given got
      → (get_or inputs k d).leaves.items ≡ leaves_from k 0 (sources_of (shape_of ss plan))
