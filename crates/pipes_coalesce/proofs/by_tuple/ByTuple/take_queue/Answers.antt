use Rattle.std.proofs.Common.{rules, ◌≡◌, ◌++◌, [], ◌∷◌, List, ℕ, ◌-◌, ◌≤◌, length, sym, subst, ap}
use Rattle.std.proofs.Common.{◌∙◌, arith}
use Rattle.pipes_tuple.specs.declared.value.Value.{Value}
use Rattle.pipes_stream.specs.declared.Elem.{Elem}
use Rattle.pipes_coalesce.specs.Filed.{Entries, AreFiled, contents, QueueOut}
use Rattle.pipes_coalesce.proofs.Filing.{LastOut, last-out, last-queue}
use Rattle.pipes_coalesce.proofs.by_tuple.ByTuple.take_queue.Goals as goal

pub overflow_sub-self : goal.overflow_sub-self
overflow_sub-self c =
    let p : List Value × List Elem = (c.in-Some.field-0-0, c.in-Some.queue) in
    let is : c.self.inside.table.entries ≡ c.pop.new.self.entries ++ p ∷ [] = search rules in
    let l = last-out c.self.inside.table.entries c.pop.new.self.entries c.self.inside.count p
    c.self.invariant.0 c.self.invariant.1 is in
    let n : c.len.result ≡ length c.in-Some.queue = search rules in
    omega (arith, l.counted, n)

pub invariant_of-self : goal.invariant_of-self
invariant_of-self c =
    let p : List Value × List Elem = (c.in-Some.field-0-0, c.in-Some.queue) in
    let is : c.self.inside.table.entries ≡ c.pop.new.self.entries ++ p ∷ [] = search rules in
    let l = last-out c.self.inside.table.entries c.pop.new.self.entries c.self.inside.count p
    c.self.invariant.0 c.self.invariant.1 is in
    let n : c.len.result ≡ length c.in-Some.queue = search rules in
    (l.filed, omega (arith, l.counted, n))

pub returns-in-Some : goal.returns-in-Some
returns-in-Some c =
    let p : List Value × List Elem = (c.in-Some.field-0-0, c.in-Some.queue) in
    let is : c.self.inside.table.entries ≡ c.pop.new.self.entries ++ p ∷ [] = search rules in
    let l = last-out c.self.inside.table.entries c.pop.new.self.entries c.self.inside.count p
    c.self.invariant.0 c.self.invariant.1 is in
    let view : c.args.self.now ≡ contents c.self.inside.table.entries = search rules in
    subst (λ (xs : List Elem). QueueOut c.in-Some.queue xs (contents c.pop.new.self.entries))
    (sym view)
    (last-queue c.self.inside.table.entries c.pop.new.self.entries c.self.inside.count
    c.in-Some.queue l)
