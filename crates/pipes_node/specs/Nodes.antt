-- What a node stands for, and what a turn does.
use Rattle.std.specs.Prelude.{◌≡◌, ℕ, ◌+◌, ◌-◌, ◌^◌, min, ◌<◌, ◌≤◌, true, false, List, [], ◌∷◌}
use Rattle.std.specs.Prelude.{◌++◌, ◌*◌, length, get_or, Option, Some, None, Bool, ⊤, cond, eqb}
use Rattle.std.specs.Bool.{OnTrue, OnFalse}
use Rattle.std.specs.List.{sum_by}
use Rattle.pipes_tuple.specs.declared.value.Kind.{Kind}
use Rattle.pipes_stream.specs.declared.message.Message.{Message}
use Rattle.pipes_stream.specs.Progress.{Progress}
use Rattle.pipes_stream.specs.Lists.{after, run, start_of_list, beat}
use Rattle.pipes_stream.specs.Lawful.{Lists, Task, Lawful, with_message}
use Rattle.pipes_link.specs.Ends.{sent, spare, taken, known, ready, SameOutlet, SameInlet}
use Rattle.pipes_node.specs.declared.operator.PlanOperator.{PlanOperator}
use Rattle.pipes_node.specs.declared.port.Port.{Port}
use Rattle.pipes_node.specs.declared.node.Node.{Node}
use Rattle.pipes_node.specs.Says.{Says}
use Rattle.pipes_node.specs.Operators.{task_of, StandsFor, held_by}
use Rattle.pipes_node.specs.Passing.{MayPass, Passes}

-- The port took its oldest message that was known to wait, and tested it.
pub record PortTakes (old new : Port) (m : Message) (passed : Bool) : Type 0 where
  pub taken : taken new.inlet ≡ taken old.inlet ++ m ∷ []
  pub known : known old.inlet ≡ m ∷ known new.inlet
  pub same_link : SameInlet old.inlet new.inlet
  pub schema : new.schema ≡ old.schema
  pub child : new.child ≡ old.child
  pub passes : OnTrue passed (MayPass old.schema old.watch m × (new.watch ≡ after old.watch m))
  pub fails : OnFalse passed ((MayPass old.schema old.watch m → ⊥) × (new.watch ≡ old.watch))

-- What only turns a port's inlet: messages known to wait are taken, the oldest first.
pub record PortMoves (old new : Port) : Type 0 where
  pub same_link : SameInlet old.inlet new.inlet
  pub schema : new.schema ≡ old.schema
  pub child : new.child ≡ old.child
  pub in_order : taken new.inlet ++ known new.inlet ≡ taken old.inlet ++ known old.inlet
  pub fewer : ready new.inlet ≤ ready old.inlet

-- the messages that passed at the port are these
pub record PortStands (p : Port) (passed : List Message) : Type 0 where
  pub passes : Passes p.schema start_of_list (taken p.inlet) passed
  pub watch : p.watch ≡ run start_of_list passed

-- the task of a node, which a source has not
abbrev pub task_in : Option PlanOperator → Option Task
task_in None = None
task_in (Some op) = Some (task_of op)

-- the number of elements that the node's operator keeps
abbrev pub held_in : Option PlanOperator → ℕ
held_in None = 0
held_in (Some op) = held_by op

abbrev pub ports_of : Option Task → ℕ
ports_of None = 0
ports_of (Some task) = task.ports

abbrev pub kinds_at : Option Task → ℕ → List Kind
kinds_at None port = []
kinds_at (Some task) port = task.takes port

-- the node has the ports of its task
pub record IsCounted (n : Node) : Type 0 where
  pub count : ports_of (task_in n.operator) ≡ length n.ports.items
  pub few : length n.ports.items ≤ 2

-- The operator stands for a list sent that says the same as this one.
pub record Emits (op : PlanOperator) (passed : Lists) (list : List Message) : Type 0 where
  pub was : List Message
  pub stands : StandsFor op passed was
  pub says : Says was list

-- what a node emits: `out` and then what is pending. With a source nothing is.
abbrev pub EmitsIn : Option PlanOperator → Lists → List Message → List Message → Type 0
EmitsIn None passed out pending = pending ≡ []
EmitsIn (Some op) passed out pending = Emits op passed (out ++ pending)

-- the heartbeat of a list that a node with a task has sent
abbrev pub IsLevel : Option Task → List Message → ℕ → Type 0
IsLevel None list level = ⊤
IsLevel (Some task) list level = beat list ≡ level

-- The node's operator took the messages that passed at its ports, and sent what is in the outlet or
-- pending.
pub record NodeStands (n : Node) : Type 0 where
  pub passed : Lists
  pub ports : (k : ℕ) (d : Port) → k < length n.ports.items
      → PortStands (get_or n.ports.items k d) (passed k)
  pub kinds : (k : ℕ) (d : Port) → k < length n.ports.items
      → kinds_at (task_in n.operator) k ≡ (get_or n.ports.items k d).schema
  pub emits : EmitsIn n.operator passed (sent n.outlet) n.pending.items

-- The same in mid-turn, where the last of what it sent is fresh.
pub record NodeOwes (n : Node) : Type 0 where
  pub passed : Lists
  pub ports : (k : ℕ) (d : Port) → k < length n.ports.items
      → PortStands (get_or n.ports.items k d) (passed k)
  pub kinds : (k : ℕ) (d : Port) → k < length n.ports.items
      → kinds_at (task_in n.operator) k ≡ (get_or n.ports.items k d).schema
  pub emits : EmitsIn n.operator passed (sent n.outlet) (n.pending.items ++ n.fresh.items)

-- the messages that passed at the port begin with these
abbrev pub PassedFirst : Port → List Message → Type 0
PassedFirst p passed = (rest : List Message)
    × Passes p.schema start_of_list (taken p.inlet) (passed ++ rest)

-- what was put is a prefix of what the task owes for the messages that passed; a source owes
-- nothing
abbrev pub PutOf : Option Task → Lists → List Message → Type 0
PutOf None passed put = ⊤
PutOf (Some task) passed put =
    (rest : List Message) × (held : ℕ) × Lawful task passed (put ++ rest) held

-- What stands of a node after out of memory too: what it put is a prefix of what its task owes for
-- the first of the messages that passed.
pub record NodeStood (n : Node) : Type 0 where
  pub passed : Lists
  pub ports : (k : ℕ) (d : Port) → k < length n.ports.items
      → PassedFirst (get_or n.ports.items k d) (passed k)
  pub kinds : (k : ℕ) (d : Port) → k < length n.ports.items
      → kinds_at (task_in n.operator) k ≡ (get_or n.ports.items k d).schema
  pub puts : PutOf (task_in n.operator) passed (sent n.outlet)

-- what holds of a node of a plan at work, whatever its turns answered
pub record NodeHolds (n : Node) : Type 0 where
  pub stood : NodeStood n
  pub stands : n.failed ≡ false → NodeStands n

-- the number of messages that are pending with the node
abbrev pub pends_with : Node → ℕ
pends_with n = length n.pending.items

-- The place of the first number of its box's backlog that the node's last turn lowered: that of the messages which wait,
-- where it took one, and else that of those which are pending. 64 where nothing moved.
abbrev pub lowered_by : Node → ℕ
lowered_by n =
    cond (eqb n.moved 0) 64 (2 * (31 - n.depth) + cond (eqb n.took 0) 1 0)

-- the messages known to wait at all ports
abbrev pub total_ready : List Port → ℕ
total_ready ports = sum_by (λ p. ready p.inlet) ports

-- what a node's turn never does otherwise, whatever it answers: messages are taken and put in
-- order, in the same links
pub record NodeMoves (old new : Node) : Type 0 where
  pub number : new.number ≡ old.number
  pub depth : new.depth ≡ old.depth
  pub task : task_in new.operator ≡ task_in old.operator
  pub count : length new.ports.items ≡ length old.ports.items
  pub ports : (k : ℕ) (d : Port) → k < length old.ports.items
      → PortMoves (get_or old.ports.items k d) (get_or new.ports.items k d)
  pub same_link : SameOutlet old.outlet new.outlet
  pub puts : (more : List Message) × (sent new.outlet ≡ sent old.outlet ++ more)

-- the message may be taken by a node of this task
abbrev pub CanTakeIn : Option Task → Lists → ℕ → Message → Type 0
CanTakeIn task passed port m = MayPass (kinds_at task port) (run start_of_list (passed port)) m

-- The node's operator took a message that passed at a port, and what it sent for it is fresh.
pub record NodeWorks (old new : Node) : Type 0 where
  pub number : new.number ≡ old.number
  pub depth : new.depth ≡ old.depth
  pub failed : new.failed ≡ old.failed
  pub ports : new.ports ≡ old.ports
  pub outlet : new.outlet ≡ old.outlet
  pub pending : new.pending ≡ old.pending
  pub task : task_in new.operator ≡ task_in old.operator

abbrev pub EmitsMore : Node → Node → ℕ → Message → Type 0
EmitsMore old new port m =
    (passed : Lists) (out : List Message)
    → EmitsIn old.operator passed out (old.pending.items ++ old.fresh.items)
    → CanTakeIn (task_in old.operator) passed port m
    → EmitsIn new.operator (with_message passed port m) out (old.pending.items ++ new.fresh.items)

-- nothing is known to wait at the port
abbrev pub IsDrained : Node → ℕ → Type 0
IsDrained n port = (d : Port) → port < length n.ports.items → ready
    (get_or n.ports.items port d).inlet ≡ 0

-- What a turn does where no memory is refused: it takes all that is known to wait, and puts what is
-- pending while there is room.
pub record Turned (old new : Node) : Type 0 where
  pub drained : total_ready new.ports.items ≡ 0
  -- how many messages it put
  pub put : ℕ
  pub sent : length (sent new.outlet) ≡ length (sent old.outlet) + put
  pub took : new.took ≡ total_ready old.ports.items
  pub moved : new.moved ≡ min (total_ready old.ports.items + put) (2 ^ 64 - 1)
  -- where it took nothing, what is pending grows by nothing, and is put if there is room
  pub kept : total_ready old.ports.items ≡ 0
      → length new.pending.items + put ≡ length old.pending.items
  pub stuck : total_ready old.ports.items ≡ 0 → put ≡ 0 → 0 < spare old.outlet
      → old.pending.items ≡ []
  pub places : put ≡ 0 → spare old.outlet ≤ spare new.outlet

-- A turn, whatever it answers.
pub record NodeTurned (old new : Node) : Type 0 where
  pub counted : IsCounted new
  pub moves : NodeMoves old new
  pub holds : NodeHolds old → NodeHolds new
  pub turned : new.failed ≡ false → Turned old new
  -- without memory it puts nothing
  pub kept : new.failed ≡ true → new.outlet ≡ old.outlet
  pub stays_failed : old.failed ≡ true → new.failed ≡ true

-- A look at the other ends of a node's links: nothing is taken or put, and no message or place that
-- was known is forgotten.
pub record PortLooks (old new : Port) : Type 0 where
  pub same_link : SameInlet old.inlet new.inlet
  pub watch : new.watch ≡ old.watch
  pub schema : new.schema ≡ old.schema
  pub child : new.child ≡ old.child
  pub taken : taken new.inlet ≡ taken old.inlet

pub record NodeLooks (old new : Node) : Type 0 where
  pub number : new.number ≡ old.number
  pub depth : new.depth ≡ old.depth
  pub operator : new.operator ≡ old.operator
  pub pending : new.pending ≡ old.pending
  pub failed : new.failed ≡ old.failed
  pub count : length new.ports.items ≡ length old.ports.items
  pub ports : (k : ℕ) (d : Port) → k < length old.ports.items
      → PortLooks (get_or old.ports.items k d) (get_or new.ports.items k d)
  pub same_link : SameOutlet old.outlet new.outlet
  pub sent : sent new.outlet ≡ sent old.outlet
  pub spare : spare old.outlet ≤ spare new.outlet
