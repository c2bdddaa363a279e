-- What one step of a node leaves of its ports and of what it stands for.
use Rattle.std.proofs.Common.{◌≡◌, ℕ, zero, suc, ◌+◌, ◌≤◌, ◌<◌, Bool, true, false, cond, eqb, List}
use Rattle.std.proofs.Common.{[], ◌∷◌, ◌++◌, length, get_or, set, refl, sym, ◌∙◌, ap, subst, arith}
use Rattle.std.proofs.Common.{append_assoc, append-nil, eq-eqb, inl, inr, ◌⊎◌, length-set, Result}
use Rattle.std.proofs.Common.{Ok, Err, Option, Some, None}
use Rattle.std.specs.Bool.{OnTrue, OnFalse}
use Rattle.std.specs.Prelude.{OnOk}
use Rattle.std.proofs.lemmas.Bool.{cases_lt, ne_eqb}
use Rattle.std.proofs.lemmas.List.{get_or-set_same, get_or-set_other}
use Rattle.pipes_tuple.specs.declared.value.Kind.{Kind}
use Rattle.pipes_stream.specs.declared.message.Message.{Message}
use Rattle.pipes_stream.specs.Progress.{Progress}
use Rattle.pipes_stream.specs.Lists.{after, run, start_of_list}
use Rattle.pipes_stream.specs.Lawful.{Lists, with_message}
use Rattle.pipes_stream.proofs.Messages.{run-push}
use Rattle.pipes_link.specs.Ends.{sent, taken, known, ready, SameOutlet}
use Rattle.pipes_link.proofs.Keeping.{same_outlet_self, same_outlet_trans, same_inlet_self}
use Rattle.pipes_link.proofs.Keeping.{same_inlet_trans, ready_within}
use Rattle.pipes_node.specs.declared.operator.PlanOperator.{PlanOperator}
use Rattle.pipes_node.specs.declared.port.Port.{Port}
use Rattle.pipes_node.specs.declared.node.Node.{Node}
use Rattle.pipes_node.specs.Passing.{MayPass, Passes}
use Rattle.pipes_node.specs.Merging.{MergedAll}
use Rattle.pipes_node.specs.Nodes.{PortTakes, PortMoves, PortStands, NodeStands, NodeMoves}
use Rattle.pipes_node.specs.Nodes.{EmitsMore, Emits, EmitsIn, CanTakeIn, kinds_at, task_in}
use Rattle.pipes_node.specs.Nodes.{total_ready, NodeOwes, IsLevel}
use Rattle.pipes_plan.proofs.NodeOutcome.{empty-append}
use Rattle.pipes_node.proofs.Emitting.{emits-merged}
use Rattle.pipes_node.proofs.Passed.{passes-push, passes-skip}

-- a place is the one that was written, or another
pub place : (k i : ℕ) → (k ≡ i) ⊎ (k ≡ i → ⊥)
place k i = elim (cases_lt k i) [
  | inl h ↦ inr (λ e. absurd (omega (arith, e, h)))
  | inr h ↦ elim
      (cases_lt i k) [
        | inl j ↦ inr (λ e. absurd (omega (arith, e, j)))
        | inr j ↦ inl
            (omega (arith, h, j))
      ]
]

pub port_moves-self : (p : Port) → PortMoves p p
port_moves-self p = record {
  same_link = same_inlet_self p.inlet;
  schema = refl;
  child = refl;
  in_order = refl;
  fewer = omega arith;
}

pub port_moves-then : (a b c : Port) → PortMoves a b → PortMoves b c → PortMoves a c
port_moves-then a b c p q = record {
  same_link = same_inlet_trans a.inlet b.inlet c.inlet p.same_link q.same_link;
  schema = q.schema ∙ p.schema;
  child = q.child ∙ p.child;
  in_order = q.in_order ∙ p.in_order;
  fewer = omega (arith, p.fewer, q.fewer);
}

pub takes-moves : (p q : Port) (m : Message) (b : Bool) → PortTakes p q m b → PortMoves p q
takes-moves p q m b t = record {
  same_link = t.same_link;
  schema = t.schema;
  child = t.child;
  in_order = ap (λ (xs : List Message). xs ++ known q.inlet) t.taken
      ∙ append_assoc (taken p.inlet) (m ∷ []) (known q.inlet)
      ∙ ap (λ (xs : List Message). taken p.inlet ++ xs) (sym t.known);
  fewer = let e : length (known p.inlet) ≡ length (m ∷ known q.inlet) =
      ap length t.known in omega (arith, e);
}

module _ (ps : List Port) (i : ℕ) (q : Port) (small : i < length ps) where
  -- what holds of the port written, and of each that was left, holds of each
  pub each-port : (R : Port → Port → Type 0) → ((p : Port) → R p p)
      → ((d : Port) → R (get_or ps i d) q) → (k : ℕ) (d : Port) → k < length ps
      → R (get_or ps k d) (get_or (set ps i q) k d)
  each-port R self h k d l =
      elim (place k i) [
        | inl e ↦ subst (λ (z : ℕ). R (get_or ps z d) (get_or (set ps i q) z d)) (sym e)
            (subst (R (get_or ps i d)) (sym (get_or-set_same ps i q d small)) (h d))
        | inr n ↦ subst (R (get_or ps k d)) (sym (get_or-set_other ps i k q d n))
            (self (get_or ps k d))
      ]

  pub stands-set : (before after : Lists) → ((k : ℕ) (d : Port) → k < length ps
      → PortStands (get_or ps k d) (before k)) → PortStands q (after i)
      → ((k : ℕ) → (k ≡ i → ⊥) → after k ≡ before k)
      → (k : ℕ) (d : Port) → k < length (set ps i q) → PortStands (get_or (set ps i q) k d)
      (after k)
  stands-set before after old h same k d l =
      elim (place k i) [
        | inl e ↦ subst (λ (z : ℕ). PortStands (get_or (set ps i q) z d) (after z)) (sym e)
            (subst (λ (p : Port). PortStands p (after i)) (sym (get_or-set_same ps i q d small)) h)
        | inr n ↦ subst (λ (p : Port). PortStands p (after k)) (sym (get_or-set_other ps i k q d n))
            (subst (PortStands (get_or ps k d)) (sym (same k n))
            (old k d (omega (arith, l, length-set ps i q))))
      ]

-- the port after a message that failed
pub port-skips : (p q : Port) (m : Message) (passed : List Message) → PortTakes p q m false
    → PortStands p passed → PortStands q passed
port-skips p q m passed t s = record {
  passes = subst (λ (ks : List Kind). Passes ks start_of_list (taken q.inlet) passed) (sym t.schema)
      (subst (λ (xs : List Message). Passes p.schema start_of_list xs passed) (sym t.taken)
      (passes-skip p.schema start_of_list (taken p.inlet) passed m s.passes
      (subst (λ (r : Progress). MayPass p.schema r m → ⊥) s.watch t.fails.0)));
  watch = t.fails.1 ∙ s.watch;
}

-- and after one that passed
pub port-passes : (p q : Port) (m : Message) (passed : List Message) → PortTakes p q m true
    → PortStands p passed → PortStands q (passed ++ m ∷ [])
port-passes p q m passed t s = record {
  passes = subst (λ (ks : List Kind). Passes ks start_of_list (taken q.inlet) (passed ++ m ∷ []))
      (sym t.schema)
      (subst (λ (xs : List Message). Passes p.schema start_of_list xs (passed ++ m ∷ []))
      (sym t.taken)
      (passes-push p.schema start_of_list (taken p.inlet) passed m s.passes
      (subst (λ (r : Progress). MayPass p.schema r m) s.watch t.passes.0)));
  watch = t.passes.1 ∙ ap (λ (r : Progress). after r m) s.watch
      ∙ sym (run-push start_of_list passed m);
}

pub with-same : (lists : Lists) (i : ℕ) (m : Message) → with_message lists i m i ≡ lists i ++ m ∷ []
with-same lists i m = ap (λ (b : Bool). cond b (lists i ++ m ∷ []) (lists i)) (eq-eqb i i refl)

pub with-other : (lists : Lists) (i : ℕ) (m : Message) (k : ℕ) → (k ≡ i → ⊥)
    → with_message lists i m k ≡ lists k
with-other lists i m k n = ap (λ (b : Bool). cond b (lists k ++ m ∷ []) (lists k)) (ne_eqb k i n)

-- a place of a list reads the same, whatever is read past its end
pub get-any : {X : Type 0} (xs : List X) (k : ℕ) (d e : X) → k < length xs
    → get_or xs k d ≡ get_or xs k e
get-any [] k d e h = absurd (omega arith)
get-any (x ∷ xs) zero d e h = refl
get-any (x ∷ xs) (suc k) d e h = get-any xs k d e (omega arith)

-- the port that was read took a message
pub port-took : (ps : List Port) (i : ℕ) (p q : Port) (m : Message) (b b' : Bool) → i < length ps
    → p ≡ get_or ps i p → b ≡ b' → PortTakes p q m b → (d : Port) → PortTakes (get_or ps i d) q m b'
port-took ps i p q m b b' small read same t d = subst (λ (x : Port). PortTakes x q m b')
    (read ∙ get-any ps i p d small) (subst (PortTakes p q m) same t)

pub on_ok-map : {A E : Type 0} (r : Result A E) (P Q : Type 0) → (P → Q) → OnOk r P → OnOk r Q
on_ok-map (Ok x) P Q f h = f h
on_ok-map (Err x) P Q f h = h

-- a node that took a message which failed
pub node-skips : (n new : Node) (i : ℕ) (q : Port) (m : Message) → i < length n.ports.items
    → new.operator ≡ n.operator → new.ports.items ≡ set n.ports.items i q → new.outlet ≡ n.outlet
    → new.pending ≡ n.pending → new.fresh ≡ n.fresh
    → ((d : Port) → PortTakes (get_or n.ports.items i d) q m false) → NodeOwes n → NodeOwes new
node-skips n new i q m small op ports outlet pending fresh takes s = record {
  passed = s.passed;
  ports = rw ports (stands-set n.ports.items i q small s.passed s.passed s.ports
      (port-skips (get_or n.ports.items i q) q m (s.passed i) (takes q) (s.ports i q small))
      (λ k h. refl));
  kinds = rw (ports, op) (λ k d l. s.kinds k d (omega (arith, l, length-set n.ports.items i q))
      ∙ sym (each-port n.ports.items i q small (λ a b. b.schema ≡ a.schema) (λ p. refl)
      (λ e. (takes e).schema) k d (omega (arith, l, length-set n.ports.items i q))));
  emits = rw (op, outlet, pending, fresh) s.emits;
}

-- a node that took one which passed, and worked it off
pub node-passes : (n new : Node) (i : ℕ) (q : Port) (m : Message) → i < length n.ports.items
    → task_in new.operator ≡ task_in n.operator → new.ports.items ≡ set n.ports.items i q
    → new.outlet ≡ n.outlet → new.pending ≡ n.pending
    → ((d : Port) → PortTakes (get_or n.ports.items i d) q m true) → EmitsMore n new i m
    → NodeOwes n → NodeOwes new
node-passes n new i q m small task ports outlet pending takes more s =
    let t = takes q in
    let p : PortStands (get_or n.ports.items i q) (s.passed i) = s.ports i q small in
    let may : MayPass (get_or n.ports.items i q).schema (run start_of_list (s.passed i)) m =
    subst (λ (r : Progress). MayPass (get_or n.ports.items i q).schema r m) p.watch
    t.passes.0 in
    let can : CanTakeIn (task_in n.operator) s.passed i m = subst
    (λ (ks : List Kind). MayPass ks (run start_of_list (s.passed i)) m)
    (sym (s.kinds i q small)) may in
    record {
      passed = with_message s.passed i m;
      ports = rw ports (stands-set n.ports.items i q small s.passed (with_message s.passed i m)
          s.ports
          (subst (PortStands q) (sym (with-same s.passed i m))
          (port-passes (get_or n.ports.items i q) q m (s.passed i) t p))
          (with-other s.passed i m));
      kinds = rw (ports, task) (λ k d l. s.kinds k d
          (omega (arith, l, length-set n.ports.items i q)) ∙ sym
          (each-port n.ports.items i q small (λ a b. b.schema ≡ a.schema) (λ p. refl)
          (λ e. (takes e).schema) k d (omega (arith, l, length-set n.ports.items i q))));
      emits = rw (outlet, pending) (more s.passed (sent n.outlet) s.emits can);
    }

-- the beginning of a turn, with nothing fresh
pub node-begins : (n new : Node) → new.operator ≡ n.operator → new.ports ≡ n.ports
    → new.outlet ≡ n.outlet → new.pending ≡ n.pending → new.fresh.items ≡ []
    → NodeStands n → NodeOwes new
node-begins n new op ports outlet pending none s = record {
  passed = s.passed;
  ports = rw ports s.ports;
  kinds = rw (ports, op) s.kinds;
  emits = rw (op, outlet, pending, none) (subst (EmitsIn n.operator s.passed (sent n.outlet))
      (sym (append-nil n.pending.items)) s.emits);
}

merged-in : (o : Option PlanOperator) (passed : Lists) (out pending fresh now : List Message)
    (level next : ℕ) → IsLevel (task_in o) (out ++ pending) level
    → MergedAll pending level fresh now next → (fresh ≡ [] → now ≡ pending)
    → EmitsIn o passed out (pending ++ fresh) → EmitsIn o passed out now
merged-in None passed out pending fresh now level next low merged same e =
    same (empty-append pending fresh e).1 ∙ (empty-append pending fresh e).0
merged-in (Some op) passed out pending fresh now level next low merged same e =
    emits-merged op passed out pending fresh now level next low merged e

-- the end of a turn's taking: what is fresh has come after what is pending
pub node-merges : (n new : Node) (level next : ℕ) → new.operator ≡ n.operator
    → new.ports ≡ n.ports → new.outlet ≡ n.outlet
    → IsLevel (task_in n.operator) (sent n.outlet ++ n.pending.items) level
    → MergedAll n.pending.items level n.fresh.items new.pending.items next
    → (n.fresh.items ≡ [] → new.pending ≡ n.pending) → NodeOwes n → NodeStands new
node-merges n new level next op ports outlet low merged same s = record {
  passed = s.passed;
  ports = rw ports s.ports;
  kinds = rw (ports, op) s.kinds;
  emits = rw (op, outlet) (merged-in n.operator s.passed (sent n.outlet) n.pending.items
      n.fresh.items new.pending.items level next low merged
      (λ h. ap (λ v. v.items) (same h)) s.emits);
}

-- the ports of a node that took a message
pub node-moves : (n new : Node) (i : ℕ) (q : Port) (m : Message) (b : Bool)
    → i < length n.ports.items → new.number ≡ n.number → new.depth ≡ n.depth
    → task_in new.operator ≡ task_in n.operator → new.ports.items ≡ set n.ports.items i q
    → new.outlet ≡ n.outlet
    → ((d : Port) → PortTakes (get_or n.ports.items i d) q m b) → NodeMoves n new
node-moves n new i q m b small number depth task ports outlet takes = record {
  number = number;
  depth = depth;
  task = task;
  count = ap length ports ∙ length-set n.ports.items i q;
  ports = rw ports (each-port n.ports.items i q small PortMoves port_moves-self
      (λ d. takes-moves (get_or n.ports.items i d) q m b (takes d)));
  same_link = rw outlet (same_outlet_self n.outlet);
  puts = ([], rw outlet (sym (append-nil (sent n.outlet))));
}

pub node_moves-self : (n : Node) → NodeMoves n n
node_moves-self n = record {
  number = refl;
  depth = refl;
  task = refl;
  count = refl;
  ports =
      λ k d l. port_moves-self (get_or n.ports.items k d);
  same_link = same_outlet_self n.outlet;
  puts = ([], sym (append-nil (sent n.outlet)));
}

pub node_moves-then : (a b c : Node) → NodeMoves a b → NodeMoves b c → NodeMoves a c
node_moves-then a b c p q = record {
  number = q.number ∙ p.number;
  depth = q.depth ∙ p.depth;
  task = q.task ∙ p.task;
  count = q.count ∙ p.count;
  ports = λ k d l. port_moves-then (get_or a.ports.items k d) (get_or b.ports.items k d)
      (get_or c.ports.items k d) (p.ports k d l) (q.ports k d (omega (arith, l, p.count)));
  same_link = same_outlet_trans a.outlet b.outlet c.outlet p.same_link q.same_link;
  puts = (
    p.puts.0 ++ q.puts.0,
    q.puts.1 ∙ ap (λ (xs : List Message). xs ++ q.puts.0) p.puts.1
        ∙ append_assoc (sent a.outlet) p.puts.0 q.puts.0,
  );
}

puts-emits : (o : Option PlanOperator) (passed : Lists) (out pending out' pending' : List Message)
    (m : Message) → pending ≡ m ∷ pending' → out' ≡ out ++ m ∷ [] → EmitsIn o passed out pending
    → EmitsIn o passed out' pending'
puts-emits None passed out pending out' pending' m popped put e =
    let none : length (m ∷ pending') ≡ length {A = Message} [] = ap length (sym popped ∙ e) in
    absurd (omega (arith, none))
puts-emits (Some op) passed out pending out' pending' m popped put e =
    subst (Emits op passed) (ap (λ (xs : List Message). out ++ xs) popped
    ∙ sym (append_assoc out (m ∷ []) pending') ∙ ap (λ (xs : List Message). xs ++ pending')
    (sym put)) e

-- a node that put the first of what was pending
pub node-puts : (n new : Node) (m : Message) → new.operator ≡ n.operator → new.ports ≡ n.ports
    → n.pending.items ≡ m ∷ new.pending.items → sent new.outlet ≡ sent n.outlet ++ m ∷ []
    → NodeStands n → NodeStands new
node-puts n new m op ports popped put s = record {
  passed = s.passed;
  ports = rw ports s.ports;
  kinds = rw (ports, op) s.kinds;
  emits = rw op (puts-emits n.operator s.passed (sent n.outlet) n.pending.items (sent new.outlet)
      new.pending.items m popped put s.emits);
}

-- a node that put nothing
pub node-stays : (n new : Node) → new.operator ≡ n.operator → new.ports ≡ n.ports
    → new.pending.items ≡ n.pending.items → sent new.outlet ≡ sent n.outlet → NodeStands n
    → NodeStands new
node-stays n new op ports pending put s = record {
  passed = s.passed;
  ports = rw ports s.ports;
  kinds = rw (ports, op) s.kinds;
  emits = rw (op, put, pending) s.emits;
}

pub moves-puts : (n new : Node) (more : List Message) → new.number ≡ n.number → new.depth ≡ n.depth
    → new.operator ≡ n.operator → new.ports ≡ n.ports → SameOutlet n.outlet new.outlet
    → sent new.outlet ≡ sent n.outlet ++ more → NodeMoves n new
moves-puts n new more number depth op ports same puts = record {
  number = number;
  depth = depth;
  task = ap task_in op;
  count = ap (λ v. length v.items) ports;
  ports = rw ports (λ k d l. port_moves-self (get_or n.ports.items k d));
  same_link = same;
  puts = (more, puts);
}

-- at most two ports know of so many messages
pub total_ready-small : (ps : List Port) → length ps ≤ 2 → total_ready ps ≤ 131072
total_ready-small [] h = omega arith
total_ready-small (p ∷ []) h = omega (arith, ready_within p.inlet)
total_ready-small (p ∷ q ∷ []) h = omega (arith, ready_within p.inlet, ready_within q.inlet)
total_ready-small (p ∷ q ∷ r ∷ ps) h = absurd (omega arith)

-- ports that know of no message
pub total_ready-none : (ps : List Port) → length ps ≤ 2 → ((k : ℕ) (d : Port) → k < length ps
    → ready (get_or ps k d).inlet ≡ 0) → total_ready ps ≡ 0
total_ready-none [] h none = refl
total_ready-none (p ∷ []) h none = omega (arith, none 0 p (omega arith))
total_ready-none (p ∷ q ∷ []) h none = omega (arith, none 0 p (omega arith), none 1 p (omega arith))
total_ready-none (p ∷ q ∷ r ∷ ps) h none = absurd (omega arith)
