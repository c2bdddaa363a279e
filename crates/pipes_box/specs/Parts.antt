-- Only private functions need these: parts of a plan as they are built.
use Rattle.std.specs.Prelude.{◌≡◌, ℕ, ◌+◌, ◌<◌, ◌≤◌, List, [], ◌∷◌, ◌++◌, length, get_or, Option}
use Rattle.std.specs.Prelude.{Some, None, ◌⊎◌, false}
use Rattle.pipes_tuple.specs.declared.value.Kind.{Kind}
use Rattle.pipes_stream.specs.declared.message.Message.{Message}
use Rattle.pipes_stream.specs.Lists.{start_of_list}
use Rattle.pipes_stream.specs.Lawful.{Task, no_messages}
use Rattle.pipes_link.specs.declared.inlet.Inlet.{Inlet}
use Rattle.pipes_link.specs.Ends.{sent, taken, known, AreEnds}
use Rattle.pipes_plan.specs.declared.plan.Plan.{Plan}
use Rattle.pipes_plan.specs.PlanKinds.{IsTyped, plan_kinds}
use Rattle.pipes_plan.specs.Sizes.{plan_nodes, plan_depth}
use Rattle.pipes_node.specs.declared.operator.PlanOperator.{PlanOperator}
use Rattle.pipes_node.specs.declared.port.Port.{Port}
use Rattle.pipes_box.specs.declared.leaf.Leaf.{Leaf}
use Rattle.pipes_node.specs.declared.node.Node.{Node}
use Rattle.pipes_box.specs.declared.build.Part.{Part}
use Rattle.pipes_node.specs.Operators.{task_of, StandsFor}
use Rattle.pipes_node.specs.Nodes.{NodeStands}
use Rattle.pipes_box.specs.Shapes.{Shape, shape_of, node_count, gives_of, IsProper}
use Rattle.pipes_box.specs.Networks.{IsLinked, IsWired, IsSpot, IsNumbered, root_of}
use Rattle.pipes_box.specs.Networks.{leaves_of}

-- the port is over the part, and no message has passed
pub record IsPortOf (part : Part) (p : Port) : Type 0 where
  pub inlet : p.inlet ≡ part.inlet
  pub watch : p.watch ≡ start_of_list
  pub schema : p.schema ≡ part.schema
  pub child : p.child ≡ part.root

-- a node of this number was added at this depth, from which nothing has come
pub record Adds (number depth : ℕ) (old new : List Node) (operator : Option PlanOperator)
    (ports : List Port) (inlet : Inlet Message) : Type 0 where
  pub node : Node
  pub spot : IsSpot node number depth
  pub added : new ≡ old ++ node ∷ []
  pub operator_is : node.operator ≡ operator
  pub ports_are : node.ports.items ≡ ports
  pub nothing_pending : node.pending.items ≡ []
  pub going : node.failed ≡ false
  pub nothing_sent : sent node.outlet ≡ []
  pub ends : AreEnds node.outlet inlet
  pub nothing_taken : taken inlet ≡ []
  pub nothing_known : length (known inlet) ≡ 0

-- the ports are over the parts, in order
abbrev pub PortsOver : List Part → List Port → Type 0
PortsOver [] [] = Unit {0}
PortsOver (part ∷ parts) (p ∷ ps) = IsPortOf part p × PortsOver parts ps
PortsOver _ _ = ⊥

-- a node over parts was added
pub record AddsOver (number depth : ℕ) (old new : List Node) (operator : PlanOperator)
    (parts : List Part) (inlet : Inlet Message) : Type 0 where
  pub ports : List Port
  pub over : PortsOver parts ports
  pub adds : Adds number depth old new (Some operator) ports inlet

-- a node of a task was added over parts: its operator is new
pub record AddsTask (number depth : ℕ) (old new : List Node) (task : Task) (parts : List Part)
    (whole : Part) : Type 0 where
  pub operator : PlanOperator
  pub adds : AddsOver number depth old new operator parts whole.inlet
  pub task_is : task_of operator ≡ task
  pub stands : StandsFor operator no_messages []
  pub root : whole.root ≡ length old

-- the nodes are linked, each stands for what it took, and nothing has come from any
pub record IsNew (nodes : List Node) : Type 0 where
  pub linked : IsLinked nodes
  pub stands : (k : ℕ) (d : Node) → k < length nodes → NodeStands (get_or nodes k d)
  pub nothing_sent : (k : ℕ) (d : Node) → k < length nodes → sent (get_or nodes k d).outlet ≡ []
  pub shallow : (k : ℕ) (d : Node) → k < length nodes → (get_or nodes k d).depth ≤ 31
  pub going : (k : ℕ) (d : Node) → k < length nodes → (get_or nodes k d).failed ≡ false

-- the nodes from `start` on are those of the shape, numbered from `number` on, and the part is the
-- end of its root, which is at this depth
pub record PartHolds (nodes : List Node) (start number depth : ℕ) (shape : Shape) (part : Part)
    : Type 0 where
  pub there : start + node_count shape ≤ length nodes
  pub root : part.root ≡ root_of shape start
  pub wired : (d : Node) → IsWired (λ k. get_or nodes k d) shape start
  pub numbered : (d : Node) → IsNumbered (λ k. get_or nodes k d) shape start number depth
  pub proper : IsProper shape
  pub gives : gives_of shape ≡ part.schema
  pub ends : (d : Node) → AreEnds (get_or nodes part.root d).outlet part.inlet
  pub nothing_taken : taken part.inlet ≡ []
  pub nothing_known : length (known part.inlet) ≡ 0

-- a plan was built at the end of the nodes and of the leaves, its root of this number at this depth
pub record PartBuilt (schemas : List (List Kind)) (plan : Plan) (number depth : ℕ)
    (old new : List Node) (leaves leaves' : List Leaf) (part : Part) : Type 0 where
  pub more : List Node
  pub added : new ≡ old ++ more
  pub count : length new ≡ length old + node_count (shape_of schemas plan)
  pub kinds : plan_kinds plan schemas ≡ Some part.schema
  pub size : node_count (shape_of schemas plan) ≡ plan_nodes plan
  pub holds : PartHolds new (length old) number depth (shape_of schemas plan) part
  pub stays_new : IsNew old → IsNew new
  pub leaves_are : leaves' ≡ leaves ++ leaves_of (shape_of schemas plan) (length old)

-- The plan may be built with its root of this number at this depth: it is typed, and not too large.
-- The number after is `next`.
pub record CanBuild (schemas : List (List Kind)) (plan : Plan) (number depth next : ℕ)
    : Type 0 where
  pub typed : IsTyped plan schemas
  pub shallow : depth + plan_depth plan ≤ 32
  pub few : number + plan_nodes plan ≤ 1000
  pub next_is : next ≡ number + 1
