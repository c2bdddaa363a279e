-- What the nodes of a plan at work have put is the plan's answer, from the leaves to the root.
use Rattle.std.proofs.Common.{◌≡◌, ℕ, zero, suc, ◌+◌, ◌≤◌, ◌<◌, List, [], ◌∷◌, ◌++◌, length, get_or}
use Rattle.std.proofs.Common.{Option, Some, None, refl, sym, ◌∙◌, ap, subst, arith, append_assoc}
use Rattle.pipes_tuple.specs.declared.value.Kind.{Kind}
use Rattle.pipes_stream.specs.declared.message.Message.{Message}
use Rattle.pipes_stream.specs.Lists.{start_of_list}
use Rattle.pipes_stream.specs.Lawful.{Lists, Task, Lawful}
use Rattle.pipes_link.specs.declared.outlet.Outlet.{Outlet}
use Rattle.pipes_link.specs.Ends.{sent, taken, known}
use Rattle.pipes_node.specs.declared.port.Port.{Port}
use Rattle.pipes_node.specs.declared.node.Node.{Node}
use Rattle.pipes_node.specs.Passing.{Passes}
use Rattle.pipes_node.specs.Nodes.{IsCounted, PassedFirst, PutOf, NodeStood, task_in, ports_of}
use Rattle.pipes_node.specs.Nodes.{kinds_at}
use Rattle.pipes_box.specs.Shapes.{Shape, Leaf, One, Two, gives_of, node_count, leaf_count}
use Rattle.pipes_box.specs.Shapes.{GivenFits, Answers, KeepsBags, IsProper}
use Rattle.pipes_box.specs.Networks.{LinkHolds, IsLinked, IsWired, LeavesGave, ChildAt, root_of}
use Rattle.pipes_node.proofs.Passed.{passes-all}
use Rattle.pipes_box.proofs.Answering.{answers-leaf, answers-one, answers-two, answers-prefix}

pub some-port : (ps : List Port) → 0 < length ps → Port
some-port [] h = absurd (omega (arith, h))
some-port (p ∷ ps) h = p

-- what passed at a port first is the child's answer
port-answers : (a : Shape) (n : ℕ) (given : Lists) (outlet : Outlet Message) (p : Port)
    (passed : List Message) → LinkHolds outlet p → PassedFirst p passed → p.schema ≡ gives_of a
    → Answers a n given (sent outlet) → Answers a n given passed
port-answers a n given outlet p passed link first kinds answers =
    let joined : sent outlet ≡ taken p.inlet ++ (known p.inlet ++ link.rest) = link.in_order
    ∙ append_assoc (taken p.inlet) (known p.inlet) link.rest in
    let got : Answers a n given (taken p.inlet) = answers-prefix a n given (taken p.inlet)
    (known p.inlet ++ link.rest) (subst (Answers a n given) joined answers) in
    let all : passed ++ first.0 ≡ taken p.inlet =
    passes-all (gives_of a) start_of_list (taken p.inlet) (passed ++ first.0) got.valid got.fits
    (subst (λ (ks : List Kind). Passes ks start_of_list (taken p.inlet) (passed ++ first.0)) kinds
    first.1) in
    answers-prefix a n given passed first.0 (subst (Answers a n given) (sym all) got)

module _ (nodes : List Node) (d : Node) (linked : IsLinked nodes)
    (stood : (k : ℕ) → k < length nodes → NodeStood (get_or nodes k d)) where
  abbrev node : ℕ → Node
  node k = get_or nodes k d

  at-port : (a : Shape) (n : ℕ) (given : Lists) (j port child : ℕ) (task : Task)
      (small : j < length nodes) → task_in (node j).operator ≡ Some task → port < task.ports
      → task.takes port ≡ gives_of a → ChildAt (node j) port child
      → Answers a n given (sent (node child).outlet) → Answers a n given
      ((stood j small).passed port)
  at-port a n given j port child task small is-task in-range kinds child-is answers =
      let count : task.ports ≡ length (node j).ports.items = sym (ap ports_of is-task)
      ∙ (linked.counted j d small).count in
      let there : port < length (node j).ports.items = omega (arith, in-range, count) in
      let e : Port = some-port (node j).ports.items (omega (arith, there)) in
      let p : Port = get_or (node j).ports.items port e in
      let link : LinkHolds (node child).outlet p = subst (λ (k : ℕ). LinkHolds (node k).outlet p)
      (child-is e) (linked.links j d port e small there) in
      let same : p.schema ≡ gives_of a = sym ((stood j small).kinds port e there)
      ∙ ap (λ (o : Option Task). kinds_at o port) is-task ∙ kinds in
      port-answers a n given (node child).outlet p ((stood j small).passed port) link
      ((stood j small).ports port e there) same answers

  pub network : (s : Shape) (i n : ℕ) (given : Lists) → i + node_count s ≤ length nodes → IsProper s
      → IsWired node s i → LeavesGave node s i n given → GivenFits s n given
      → Answers s n given (sent (node (root_of s i)).outlet)
  network (Leaf source kinds) i n given small proper wired gave fits =
      subst (Answers (Leaf source kinds) n given) gave (answers-leaf source kinds n given fits)
  network (One task a) i n given small proper wired gave fits =
      let j : ℕ = i + node_count a in
      let there : j < length nodes = omega (arith, small) in
      let child = network a i n given (omega (arith, small)) proper.3 wired.0 gave fits in
      let passed = at-port a n given j 0 (root_of a i) task there wired.1 (omega (arith, proper.1))
      proper.2 wired.2 child in
      let put = subst (λ (o : Option Task). PutOf o (stood j there).passed (sent (node j).outlet))
      wired.1 (stood j there).puts in
      answers-prefix (One task a) n given (sent (node j).outlet) put.0
      (answers-one task a n put.1 given (stood j there).passed (sent (node j).outlet ++ put.0)
      proper.0 proper.1 passed put.2)
  network (Two task a b) i n given small proper wired gave fits =
      let j : ℕ = i + (node_count a + node_count b) in
      let there : j < length nodes = omega (arith, small) in
      let left = network a i n given (omega (arith, small)) proper.4 wired.0 gave.0 fits.0 in
      let right = network b (i + node_count a) (n + leaf_count a) given (omega (arith, small))
      proper.5 wired.1 gave.1 fits.1 in
      let lefts = at-port a n given j 0 (root_of a i) task there wired.2 (omega (arith, proper.1))
      proper.2 wired.3 left in
      let rights = at-port b (n + leaf_count a) given j 1 (root_of b (i + node_count a)) task there
      wired.2 (omega (arith, proper.1)) proper.3 wired.4 right in
      let put = subst (λ (o : Option Task). PutOf o (stood j there).passed (sent (node j).outlet))
      wired.2 (stood j there).puts in
      answers-prefix (Two task a b) n given (sent (node j).outlet) put.0
      (answers-two task a b n put.1 given (stood j there).passed (sent (node j).outlet ++ put.0)
      proper.0 proper.1 lefts rights put.2)
