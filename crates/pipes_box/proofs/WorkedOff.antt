-- Rounds in sequence, until nothing is on its way.
use Rattle.std.proofs.Common.{◌≡◌, ℕ, ◌+◌, ◌≤◌, ◌-◌, ◌<◌, true, cond, eqb, inl, List, []}
use Rattle.std.proofs.Common.{◌∷◌, ◌++◌, length, get_or, Option}
use Rattle.std.proofs.Common.{Some, None, refl, sym, ◌∙◌, ap, subst, arith, append_assoc}
use Rattle.std.proofs.Common.{append-nil}
use Rattle.std.proofs.Common.{length-append, ◌%◌, ◌/◌, inr, Bool, false}
use Rattle.std.proofs.lemmas.Bool.{cases_lt}
use Rattle.pipes_tuple.specs.declared.value.Kind.{Kind}
use Rattle.pipes_stream.specs.declared.message.Message.{Message}
use Rattle.pipes_stream.specs.Lawful.{Lists}
use Rattle.pipes_link.specs.Ends.{sent, taken, known, ready}
use Rattle.pipes_plan.specs.declared.plan.Plan.{Plan}
use Rattle.pipes_node.specs.declared.port.Port.{Port}
use Rattle.pipes_node.specs.declared.node.Node.{Node}
use Rattle.pipes_box.specs.declared.plan_box.PlanBox.{PlanBox}
use Rattle.pipes_node.specs.Nodes.{NodeLooks, total_ready}
use Rattle.pipes_box.specs.Networks.{IsLinked, SettlesPorts}
use Rattle.pipes_box.specs.Boxes.{IsSound, IsStill, BoxStands, StaysAsBefore, TakesOne, TakesAll}
use Rattle.pipes_box.specs.Rounds.{TopKnown, TopTaken, TopLooks, StepFalls}
use Rattle.pipes_box.specs.Backlog.{backlog, backlog_of, known_backlog, waits_for}
use Rattle.pipes_node.specs.Nodes.{pends_with}
use Rattle.pipes_box.specs.Backlog.{sum_at, FallsAt}
use Rattle.pipes_box.proofs.Rounds.{no-more}
use Rattle.pipes_node.proofs.NodeSteps.{get-any, place}
use Rattle.pipes_box.proofs.Falls.{Went, sum-alike, same-backlog}
use Rattle.pipes_box.proofs.Lowering.{looks-went}

-- ---- what is taken

pub takes-none : (a b : PlanBox) (xs : List Message) → StaysAsBefore a b → TakesAll a b xs xs
takes-none a b xs stays = record {
  more = [];
  appended = sym (append-nil xs);
  stands = λ schemas plan given got s. subst (BoxStands b schemas plan given) (sym (append-nil got))
      (stays schemas plan given got s);
}

pub takes-then : (a b c : PlanBox) (xs ys zs : List Message) → TakesAll a b xs ys
    → TakesAll b c ys zs → TakesAll a c xs zs
takes-then a b c xs ys zs p q = record {
  more = p.more ++ q.more;
  appended = q.appended ∙ ap (λ (l : List Message). l ++ q.more) p.appended
      ∙ append_assoc xs p.more q.more;
  stands = λ schemas plan given got s.
      subst (BoxStands c schemas plan given) (append_assoc got p.more q.more)
      (q.stands schemas plan given (got ++ p.more) (p.stands schemas plan given got s));
}

pub takes-one : (a b : PlanBox) (xs ys : List Message) (m : Message) → TakesOne a b m
    → ys ≡ xs ++ m ∷ [] → TakesAll a b xs ys
takes-one a b xs ys m one e = record { more = m ∷ []; appended = e; stands = one }

-- what was put into the top link was taken, where no message is known to wait there
pub top-taken : (b : PlanBox) → TopKnown b → ready b.top ≡ 0 → TopTaken b
top-taken b sure none k d last =
    sym (ap (λ (xs : List Message). taken b.top ++ xs) (no-more (known b.top) none)
    ∙ append-nil (taken b.top)) ∙ sure k d last

-- a box that failed is as sound as it was
pub failed-sound : (b : PlanBox) → IsSound b → IsSound (record {
  nodes = b.nodes;
  top = b.top;
  leaves = b.leaves;
  ended = b.ended;
  failed = true;
})
failed-sound b s = record {
  linked = s.linked;
  root = s.root;
  root_is = s.root_is;
  top = s.top;
  leaves = s.leaves;
  shallow = s.shallow;
  ended_is = s.ended_is;
  going = λ e. absurd (true-false e);
} where
  true-false : ◌≡◌ {A = Bool} true false → ⊥
  true-false h = cc

-- and stands for the same lists
pub failed-stays : (b : PlanBox) → StaysAsBefore b (record {
  nodes = b.nodes;
  top = b.top;
  leaves = b.leaves;
  ended = b.ended;
  failed = true;
})
failed-stays b = λ schemas plan given got s. record {
  count = s.count;
  few = s.few;
  wired = s.wired;
  numbered = s.numbered;
  proper = s.proper;
  holds = s.holds;
  leaves_are = s.leaves_are;
  gave = s.gave;
  fits = s.fits;
  got_is = s.got_is;
}

-- ---- the backlog

-- a fall after steps that left these numbers
pub falls-after : (a b c : PlanBox) (place : ℕ) → ((j : ℕ) → j < place → backlog b j ≡ backlog a j)
    → FallsAt (backlog b) (backlog c) place → backlog b place ≡ backlog a place
    → FallsAt (backlog a) (backlog c) place
falls-after a b c place same f here = record {
  in_range = f.in_range;
  lower = omega (arith, f.lower, here);
  same = λ j h. f.same j h ∙ same j h;
}

-- the nodes stay
pub same-nodes : (a b : PlanBox) → b.nodes ≡ a.nodes → (j : ℕ) → backlog b j ≡ backlog a j
same-nodes a b e j = ap (λ v. backlog_of v.items j) e

-- where the links are settled, what is known to wait is what waits
pub ready-waits : (old ns : List Node) → SettlesPorts old ns (length old) 0 → (k : ℕ) (d : Node)
    → k < length ns → total_ready (get_or ns k d).ports.items ≡ waits_for ns (get_or ns k d)
ready-waits old ns s k d h =
    let n : Node = get_or ns k d in
    sum-alike (λ (p : Port). ready p.inlet)
    (λ (p : Port). length (sent (get_or ns p.child n).outlet) - length (taken p.inlet))
    n.ports.items n.ports.items refl
    (λ i e l.
    let p : Port = get_or n.ports.items i e in
    let small : p.child < length ns = omega (arith, s.linked.earlier k d i e h l, h) in
    let link = s.settled k d i e h l (inl (omega (arith, h, s.count))) in
    omega (
      arith,
      ap length link.waits,
      length-append (taken p.inlet) (known p.inlet),
      ap (λ (m : Node). length (sent m.outlet)) (get-any ns p.child n d small),
    ))

-- so the number of messages that wait is read off what is known
pub waiting-known : (old ns : List Node) (depth : ℕ) → SettlesPorts old ns (length old) 0
    → sum_at depth (λ n. total_ready n.ports.items) ns ≡ sum_at depth (waits_for ns) ns
waiting-known old ns depth s =
    sum-alike (λ (n : Node). cond (eqb n.depth depth) (total_ready n.ports.items) 0)
    (λ (n : Node). cond (eqb n.depth depth) (waits_for ns n) 0) ns ns refl
    (λ k d h. ap (λ (x : ℕ). cond (eqb (get_or ns k d).depth depth) x 0)
    (ready-waits old ns s k d h))

-- a look at the links leaves the backlog
pub looked-backlog : (old new : List Node) → length new ≡ length old
    → ((k : ℕ) (d : Node) → k < length old → NodeLooks (get_or old k d) (get_or new k d))
    → IsLinked old → IsLinked new → (j : ℕ) → j < 64 → backlog_of new j ≡ backlog_of old j
looked-backlog old new count looks linked linked' j small =
    same-backlog old new count (λ k d h. looks-went (get_or old k d) (get_or new k d) (looks k d h))
    linked linked' j small

pub known-is : (old ns : List Node) (j : ℕ) → SettlesPorts old ns (length old) 0
    → known_backlog ns j ≡ backlog_of ns j
known-is old ns j s =
    ap (λ (x : ℕ). cond (eqb (j % 2) 0) x (sum_at (31 - j / 2) pends_with ns))
    (waiting-known old ns (31 - j / 2) s)

-- ---- steps

abbrev some-place : ℕ → Option ℕ
some-place p = Some p

-- one round, after all was taken from the top
pub step-made : (old mid new : PlanBox) (moved fell : ℕ) (r : Option ℕ) → mid.nodes ≡ old.nodes
    → TopKnown mid → ready mid.top ≡ 0
    → (0 < moved → FallsAt (backlog mid) (backlog new) fell)
    → (moved ≡ 0 → TopTaken mid → ready new.top ≡ 0)
    → (moved ≡ 0 → ready new.top ≡ 0 → IsStill new)
    → (0 < moved → r ≡ Some fell) → (moved ≡ 0 → r ≡ None)
    → (place : ℕ) → 64 ≤ place → StepFalls place old new r
step-made old mid new moved fell r nodes sure none falls empty still some no-one place large =
    elim (cases_lt 0 moved) [
      | inl h ↦
          let f = falls h in
          subst (StepFalls place old new) (sym (some h)) (
            omega (arith, f.in_range, large),
            falls-after old mid new fell (λ j l. same-nodes old mid nodes j) f
                (same-nodes old mid nodes fell),
          )
      | inr h ↦
          let zero-moved : moved ≡ 0 = omega (arith, h) in
          subst (StepFalls place old new) (sym (no-one zero-moved))
          (still zero-moved (empty zero-moved (top-taken mid sure none)))
    ]

-- a step that lowered the number at this place, after steps that left those before it
pub through-here : (a b c : PlanBox) (place : ℕ) (r : Option ℕ) → r ≡ Some place
    → StepFalls (place + 1) b c r → ((j : ℕ) → j < place → backlog b j ≡ backlog a j) → (j : ℕ)
    → j < place → backlog c j ≡ backlog a j
through-here a b c place r e h same j l =
    let s : StepFalls (place + 1) b c (Some place) = subst (StepFalls (place + 1) b c) e h in
    s.1.same j l ∙ same j l

pub through-lower : (b c : PlanBox) (place : ℕ) (r : Option ℕ) → r ≡ Some place
    → StepFalls (place + 1) b c r → backlog c place < backlog b place
through-lower b c place r e h =
    let s : StepFalls (place + 1) b c (Some place) = subst (StepFalls (place + 1) b c) e h in
    s.1.lower

-- and one that lowered an earlier one, or left nothing on its way
through-case : (a b c : PlanBox) (place : ℕ) (r : Option ℕ) → (r ≡ Some place → ⊥)
    → StepFalls (place + 1) b c r → ((j : ℕ) → j < place → backlog b j ≡ backlog a j)
    → StepFalls place a c r
through-case a b c q (Some p) ne h same =
    elim (place p q) [
      | inl e ↦ absurd (ne (ap some-place e))
      | inr n ↦
          let small : p < q = omega (arith, h.0, n) in
          (small, falls-after a b c p (λ j l. same j (omega (arith, l, small))) h.1 (same p small))
    ]
through-case a b c q None ne h same = h

pub through-done : (a b c : PlanBox) (place : ℕ) (r x : Option ℕ) → (x ≡ r) × (r ≡ Some place → ⊥)
    → StepFalls (place + 1) b c r → ((j : ℕ) → j < place → backlog b j ≡ backlog a j)
    → StepFalls place a c x
through-done a b c q r x e h same =
    subst (StepFalls q a c) (sym e.0) (through-case a b c q r e.1 h same)

-- below place 0 there is none
pub none-before : (a b : PlanBox) (r : Option ℕ) → StepFalls 0 a b r → IsStill b
none-before a b (Some p) h = absurd (omega (arith, h.0))
none-before a b None h = h
