-- A box answers its plan, from the day it is built.
use Rattle.std.proofs.Common.{◌≡◌, ℕ, zero, suc, ◌+◌, ◌≤◌, ◌<◌, false, List, [], ◌∷◌, ◌++◌, length}
use Rattle.std.proofs.Common.{get_or, refl, sym, ◌∙◌, ap, subst, arith, append_assoc, append-nil}
use Rattle.std.proofs.Common.{length-append, inl, inr}
use Rattle.std.proofs.lemmas.Bool.{cases_lt}
use Rattle.std.proofs.lemmas.List.Elements.{All-nil}
use Rattle.pipes_tuple.specs.declared.value.Kind.{Kind}
use Rattle.pipes_tuple.specs.Kinds.{Fits}
use Rattle.pipes_stream.specs.declared.Elem.{Elem}
use Rattle.pipes_stream.specs.declared.message.Message.{Message}
use Rattle.pipes_stream.specs.Lists.{start_of_list, run}
use Rattle.pipes_stream.specs.Lawful.{Lists, no_messages}
use Rattle.pipes_link.specs.declared.outlet.Outlet.{Outlet}
use Rattle.pipes_link.specs.declared.inlet.Inlet.{Inlet}
use Rattle.pipes_link.specs.Ends.{sent, taken, known}
use Rattle.pipes_plan.specs.declared.plan.Plan.{Plan}
use Rattle.pipes_plan.specs.Sizes.{plan_nodes}
use Rattle.pipes_box.specs.declared.leaf.Leaf.{Leaf as PlanLeaf}
use Rattle.pipes_node.specs.declared.node.Node.{Node}
use Rattle.pipes_box.specs.declared.plan_box.PlanBox.{PlanBox}
use Rattle.pipes_box.specs.declared.build.Part.{Part}
use Rattle.pipes_node.specs.Nodes.{NodeStands}
use Rattle.pipes_box.specs.Shapes.{Shape, Leaf, One, Two, shape_of, node_count, leaf_count}
use Rattle.pipes_box.specs.Shapes.{GivenFits, Answers, IsProper}
use Rattle.pipes_box.specs.Networks.{EndsHold, IsLinked, IsWired, LeavesGave, leaves_of, root_of}
use Rattle.pipes_box.specs.Parts.{IsNew, PartHolds, PartBuilt}
use Rattle.pipes_box.specs.Boxes.{IsSound, BoxStands}
use Rattle.pipes_box.proofs.Answering.{answers-prefix}
use Rattle.pipes_box.proofs.Network.{network}
use Rattle.pipes_node.proofs.Stood.{stands-holds}
use Rattle.pipes_box.proofs.Built.{get-before, no-length}

pub some-node : (ns : List Node) → 0 < length ns → Node
some-node [] h = absurd (omega (arith, h))
some-node (n ∷ ns) h = n

pub root-last : (s : Shape) (i : ℕ) → root_of s i + 1 ≡ i + node_count s
root-last (Leaf source kinds) i = refl
root-last (One task a) i = omega arith
root-last (Two task a b) i = omega arith

-- what came out at the top of a box is its plan's answer
pub box-answers : (b : PlanBox) (schemas : List (List Kind)) (plan : Plan) (given : Lists)
    (got : List Message) → IsSound b → BoxStands b schemas plan given got
    → Answers (shape_of schemas plan) 0 given got
box-answers b schemas plan given got sound s =
    let shape : Shape = shape_of schemas plan in
    let d : Node = some-node b.nodes.items (omega (arith, sound.root_is)) in
    let root : sound.root ≡ root_of shape 0 = omega (
      arith,
      sound.root_is,
      s.count,
      root-last shape 0,
    ) in
    let all : Answers shape 0 given (sent (get_or b.nodes.items (root_of shape 0) d).outlet) =
    network b.nodes.items d sound.linked (λ k h. (s.holds k d h).stood) shape 0 0 given
    (omega (arith, s.count)) s.proper (s.wired d) (s.gave d) s.fits in
    let top = subst (λ (k : ℕ). EndsHold (get_or b.nodes.items k d).outlet b.top) root
    (sound.top d) in
    let joined : sent (get_or b.nodes.items (root_of shape 0) d).outlet ≡ taken b.top
    ++ (known b.top ++ top.rest) = top.in_order ∙ append_assoc (taken b.top) (known b.top)
    top.rest in
    subst (Answers shape 0 given) (sym s.got_is) (answers-prefix shape 0 given (taken b.top)
    (known b.top ++ top.rest) (subst (Answers shape 0 given) joined all))

gave-none : (nodes : List Node) (d : Node) (s : Shape) (i n : ℕ) → i + node_count s ≤ length nodes
    → ((k : ℕ) → k < length nodes → sent (get_or nodes k d).outlet ≡ [])
    → LeavesGave (λ k. get_or nodes k d) s i n no_messages
gave-none nodes d (Leaf source kinds) i n h none = sym (none i (omega (arith, h)))
gave-none nodes d (One task a) i n h none = gave-none nodes d a i n (omega (arith, h)) none
gave-none nodes d (Two task a b) i n h none = (
  gave-none nodes d a i n (omega (arith, h)) none,
  gave-none nodes d b (i + node_count a) (n + leaf_count a) (omega (arith, h)) none,
)

fits-none : (s : Shape) (n : ℕ) → GivenFits s n no_messages
fits-none (Leaf source kinds) n = record {
  valid = tt;
  fits =
      All-nil (λ (e : Elem). Fits e.tuple kinds);
}
fits-none (One task a) n = fits-none a n
fits-none (Two task a b) n = (fits-none a n, fits-none b (n + leaf_count a))

get-after : (xs ys : List PlanLeaf) (P : PlanLeaf → Type 0) (d : PlanLeaf)
    → ((j : ℕ) → j < length ys → P (get_or ys j d)) → (j : ℕ) → length xs ≤ j
    → j < length (xs ++ ys) → P (get_or (xs ++ ys) j d)
get-after [] ys P d all j l m = all j m
get-after (x ∷ xs) ys P d all zero l m = absurd (omega (arith, l))
get-after (x ∷ xs) ys P d all (suc j) l m = get-after xs ys P d all j (omega (arith, l))
    (omega (arith, m))

-- the leaves are among the nodes
pub leaves-in : (s : Shape) (i : ℕ) (k : ℕ) (d : PlanLeaf) → k < length (leaves_of s i)
    → (get_or (leaves_of s i) k d).node < i + node_count s
leaves-in (Leaf source kinds) i zero d h = omega arith
leaves-in (Leaf source kinds) i (suc k) d h = absurd (omega (arith, h))
leaves-in (One task a) i k d h = omega (arith, leaves-in a i k d h)
leaves-in (Two task a b) i k d h =
    elim (cases_lt k (length (leaves_of a i))) [
      | inl l ↦ subst (λ (x : PlanLeaf). x.node < i + (node_count a + node_count b + 1))
          (sym (get-before (leaves_of a i) (leaves_of b (i + node_count a)) k d l))
          (omega (arith, leaves-in a i k d l))
      | inr l ↦ get-after (leaves_of a i) (leaves_of b (i + node_count a))
          (λ x. x.node < i + (node_count a + node_count b + 1)) d
          (λ j m. omega (arith, leaves-in b (i + node_count a) j d m)) k l h
    ]

none-new : IsNew []
none-new = record {
  linked = record {
    counted = λ k d h. absurd (omega (arith, h));
    earlier =
        λ k d i e h l. absurd (omega (arith, h));
    deeper = λ k d i e h l. absurd (omega (arith, h));
    links = λ k d i e h l. absurd (omega (arith, h));
  };
  stands = λ k d h. absurd (omega (arith, h));
  nothing_sent = λ k d h. absurd (omega (arith, h));
  shallow = λ k d h. absurd (omega (arith, h));
  going = λ k d h. absurd (omega (arith, h));
}

module _ (schemas : List (List Kind)) (plan : Plan) (box : PlanBox) (part : Part)
    (b : PartBuilt schemas plan 0 0 [] box.nodes.items [] box.leaves.items part)
    (top : box.top ≡ part.inlet) (ended : box.ended ≡ false) where
  -- a box that was built
  pub built-sound : IsSound box
  built-sound =
      let new = b.stays_new none-new in
      record {
        linked = new.linked;
        root = part.root;
        root_is = omega (arith, b.holds.root, b.count, root-last (shape_of schemas plan) 0);
        top = λ d. subst (EndsHold (get_or box.nodes.items part.root d).outlet) (sym top) (record {
          ends = b.holds.ends d;
          rest = [];
          in_order = new.nothing_sent part.root d
              (omega (arith, b.holds.root, b.count, root-last (shape_of schemas plan) 0))
              ∙ sym (append-nil (taken part.inlet ++ known part.inlet)
              ∙ ap (λ (xs : List Message). xs ++ known part.inlet) b.holds.nothing_taken
              ∙ no-length (known part.inlet) b.holds.nothing_known);
        });
        leaves = λ k d h. subst (λ (ls : List PlanLeaf). k < length ls
            → (get_or ls k d).node < length box.nodes.items) (sym b.leaves_are)
            (λ l. omega (arith, leaves-in (shape_of schemas plan) 0 k d l, b.count)) h;
        shallow = new.shallow;
        going = λ e. new.going;
        ended_is = ended ∙ ap (λ (xs : List Message). (run start_of_list xs).ended)
            (sym (ap (λ (i : Inlet Message). taken i) top ∙ b.holds.nothing_taken));
      }

  pub built-stands : plan_nodes plan ≤ 255 → BoxStands box schemas plan no_messages []
  built-stands small =
      let new = b.stays_new none-new in
      record {
        count = omega (arith, b.count);
        few = omega (arith, b.size, small);
        wired = b.holds.wired;
        numbered = b.holds.numbered;
        proper = b.holds.proper;
        holds = λ k d h. stands-holds (get_or box.nodes.items k d) (new.stands k d h);
        leaves_are = b.leaves_are;
        gave = λ d. gave-none box.nodes.items d (shape_of schemas plan) 0 0 (omega (arith, b.count))
            (λ k h. new.nothing_sent k d h);
        fits = fits-none (shape_of schemas plan) 0;
        got_is = sym (ap (λ (i : Inlet Message). taken i) top ∙ b.holds.nothing_taken);
      }
