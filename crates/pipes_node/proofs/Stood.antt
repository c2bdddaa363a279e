-- What holds of a node whatever its turns answered.
use Rattle.std.proofs.Common.{◌≡◌, ℕ, ◌<◌, Bool, true, false, List, [], ◌∷◌, ◌++◌, length, get_or}
use Rattle.std.proofs.Common.{set, length-set, Option, Some, None, refl, sym, ◌∙◌, ap, subst, arith}
use Rattle.std.proofs.Common.{append-nil, inl, inr, ◌⊎◌, Result, Ok, Err}
use Rattle.std.specs.Prelude.{OnErr}
use Rattle.std.proofs.lemmas.List.{get_or-set_same, get_or-set_other}
use Rattle.pipes_tuple.specs.declared.value.Kind.{Kind}
use Rattle.pipes_stream.specs.declared.message.Message.{Message}
use Rattle.pipes_stream.specs.Lists.{start_of_list}
use Rattle.pipes_stream.specs.Lawful.{Lists, Task}
use Rattle.pipes_link.specs.declared.outlet.Outlet.{Outlet}
use Rattle.pipes_link.specs.Ends.{sent, taken}
use Rattle.pipes_node.specs.declared.operator.PlanOperator.{PlanOperator}
use Rattle.pipes_node.specs.declared.port.Port.{Port}
use Rattle.pipes_node.specs.declared.node.Node.{Node}
use Rattle.pipes_node.specs.Operators.{held_by}
use Rattle.pipes_node.specs.Passing.{Passes}
use Rattle.pipes_node.specs.Nodes.{PortTakes, PortStands, PassedFirst, EmitsIn, PutOf, NodeStands}
use Rattle.pipes_node.specs.Nodes.{NodeOwes, NodeStood, NodeHolds, NodeTurned, task_in}
use Rattle.pipes_node.proofs.Emitting.{emits-lawful}
use Rattle.pipes_node.proofs.NodeSteps.{place, each-port, port-passes}

puts-of : (o : Option PlanOperator) (passed : Lists) (out pending : List Message)
    → EmitsIn o passed out pending → PutOf (task_in o) passed out
puts-of None passed out pending e = tt
puts-of (Some op) passed out pending e =
    (pending, held_by op, emits-lawful op passed (out ++ pending) e)

-- a node that stands for what it took
pub stands-stood : (n : Node) → NodeStands n → NodeStood n
stands-stood n s = record {
  passed = s.passed;
  ports = λ k d h. (
    [],
    subst (Passes (get_or n.ports.items k d).schema start_of_list
        (taken (get_or n.ports.items k d).inlet)) (sym (append-nil (s.passed k)))
        (s.ports k d h).passes,
  );
  kinds = s.kinds;
  puts = puts-of n.operator s.passed (sent n.outlet) n.pending.items s.emits;
}

pub stands-holds : (n : Node) → NodeStands n → NodeHolds n
stands-holds n s = record { stood = stands-stood n s; stands = λ going. s }

-- what holds of the port written, and of each that was left, holds of each
set-each : (ps : List Port) (i : ℕ) (q : Port) → i < length ps → (P : ℕ → Port → Type 0)
    → ((k : ℕ) (d : Port) → k < length ps → P k (get_or ps k d)) → P i q → (k : ℕ) (d : Port)
    → k < length (set ps i q) → P k (get_or (set ps i q) k d)
set-each ps i q small P old h k d l =
    elim (place k i) [
      | inl e ↦ subst (λ (z : ℕ). P z (get_or (set ps i q) z d)) (sym e)
          (subst (P i) (sym (get_or-set_same ps i q d small)) h)
      | inr n ↦ subst (P k) (sym (get_or-set_other ps i k q d n))
          (old k d (omega (arith, l, length-set ps i q)))
    ]

-- a node in mid-turn to which memory was refused
pub owes-stood : (n new : Node) → task_in new.operator ≡ task_in n.operator
    → new.ports ≡ n.ports → new.outlet ≡ n.outlet → NodeOwes n → NodeStood new
owes-stood n new task ports outlet s = record {
  passed = s.passed;
  ports = rw ports (λ k d h. (
    [],
    subst (Passes (get_or n.ports.items k d).schema start_of_list
        (taken (get_or n.ports.items k d).inlet)) (sym (append-nil (s.passed k)))
        (s.ports k d h).passes,
  ));
  kinds = rw (ports, task) s.kinds;
  puts = rw (outlet, task) (puts-of n.operator s.passed (sent n.outlet)
      (n.pending.items ++ n.fresh.items) s.emits);
}

-- a node to which memory was refused for a message that passed
pub node-stopped : (n new : Node) (i : ℕ) (q : Port) (m : Message) → i < length n.ports.items
    → task_in new.operator ≡ task_in n.operator → new.ports.items ≡ set n.ports.items i q
    → new.outlet ≡ n.outlet → ((d : Port) → PortTakes (get_or n.ports.items i d) q m true)
    → NodeOwes n → NodeStood new
node-stopped n new i q m small task ports outlet takes s =
    record {
      passed = s.passed;
      ports = rw ports (set-each n.ports.items i q small (λ k p. PassedFirst p (s.passed k))
          (λ k d h. (
            [],
            subst (Passes (get_or n.ports.items k d).schema start_of_list
                (taken (get_or n.ports.items k d).inlet)) (sym (append-nil (s.passed k)))
                (s.ports k d h).passes,
          )) (
            m ∷ [],
            (port-passes (get_or n.ports.items i q) q m (s.passed i) (takes q)
                (s.ports i q small)).passes,
          ));
      kinds = rw (ports, task) (λ k d l. s.kinds k d
          (omega (arith, l, length-set n.ports.items i q)) ∙ sym
          (each-port n.ports.items i q small (λ a b. b.schema ≡ a.schema) (λ p. refl)
          (λ e. (takes e).schema) k d (omega (arith, l, length-set n.ports.items i q))));
      puts = subst (λ (o : Outlet Message). PutOf (task_in new.operator) s.passed (sent o))
          (sym outlet)
          (subst (λ (t : Option Task). PutOf t s.passed (sent n.outlet)) (sym task)
          (puts-of n.operator s.passed (sent n.outlet) (n.pending.items ++ n.fresh.items)
          s.emits));
    }

-- whether memory was refused
true-or-false : (b : Bool) → (b ≡ true) ⊎ (b ≡ false)
true-or-false true = inl refl
true-or-false false = inr refl

pub refused-or-going : (n : Node) → (n.failed ≡ true) ⊎ (n.failed ≡ false)
refused-or-going n = true-or-false n.failed

true-false : ◌≡◌ {A = Bool} true false → ⊥
true-false h = cc

-- a node that goes on has gone on before
pub has-gone : (a b : Node) → NodeTurned a b → b.failed ≡ false → a.failed ≡ false
has-gone a b turned going =
    elim (refused-or-going a) [
      | inl e ↦ absurd (true-false (sym (turned.stays_failed e) ∙ going))
      | inr e ↦ e
    ]

-- a node that tells how much its turn moved
pub told-holds : (n : Node) (took moved : ℕ) → NodeStands n → NodeHolds (record {
  number = n.number;
  depth = n.depth;
  operator = n.operator;
  ports = n.ports;
  outlet = n.outlet;
  pending = n.pending;
  fresh = n.fresh;
  took = took;
  moved = moved;
  failed = n.failed;
})
told-holds n took moved s =
    stands-holds (record {
      number = n.number;
      depth = n.depth;
      operator = n.operator;
      ports = n.ports;
      outlet = n.outlet;
      pending = n.pending;
      fresh = n.fresh;
      took = took;
      moved = moved;
      failed = n.failed;
    }) (record { passed = s.passed; ports = s.ports; kinds = s.kinds; emits = s.emits })

-- a node that was refused memory
pub refused-holds : (n : Node) → NodeStood n → NodeHolds (record {
  number = n.number;
  depth = n.depth;
  operator = n.operator;
  ports = n.ports;
  outlet = n.outlet;
  pending = n.pending;
  fresh = n.fresh;
  took = n.took;
  moved = n.moved;
  failed = true;
})
refused-holds n s = record {
  stood = record { passed = s.passed; ports = s.ports; kinds = s.kinds; puts = s.puts };
  stands = λ going. absurd (true-false going);
}

pub on_err-any : {A E : Type 0} (r : Result A E) (P : Type 0) → P → OnErr r P
on_err-any (Ok x) P h = tt
on_err-any (Err x) P h = h
