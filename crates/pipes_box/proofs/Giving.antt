-- What a message given at a leaf leaves of a box.
use Rattle.std.proofs.Common.{◌≡◌, ℕ, zero, suc, ◌+◌, ◌-◌, ◌≤◌, ◌<◌, Bool, cond, eqb, List, [], ◌∷◌}
use Rattle.std.proofs.Common.{Option}
use Rattle.std.proofs.Common.{false}
use Rattle.std.proofs.Common.{◌++◌, length, get_or, set, None, refl, sym, ◌∙◌, ap, subst, arith}
use Rattle.std.proofs.Common.{append_assoc, append-nil, length-append, length-set, eq-eqb, inl, inr}
use Rattle.std.proofs.lemmas.Bool.{cases_lt, ne_eqb}
use Rattle.std.proofs.lemmas.List.{get_or-set_same, get_or-set_other}
use Rattle.pipes_tuple.specs.declared.value.Kind.{Kind}
use Rattle.pipes_stream.specs.declared.message.Message.{Message}
use Rattle.pipes_stream.specs.Lawful.{Lists, with_message, Task}
use Rattle.pipes_link.specs.declared.outlet.Outlet.{Outlet}
use Rattle.pipes_link.specs.Ends.{sent, taken, spare, SameOutlet}
use Rattle.pipes_link.proofs.Keeping.{same_outlet_self}
use Rattle.pipes_plan.specs.declared.plan.Plan.{Plan}
use Rattle.pipes_box.specs.declared.leaf.Leaf.{Leaf as PlanLeaf}
use Rattle.pipes_node.specs.declared.node.Node.{Node}
use Rattle.pipes_box.specs.declared.plan_box.PlanBox.{PlanBox}
use Rattle.pipes_node.specs.Nodes.{IsCounted, NodeStands, NodeHolds, NodeMoves, EmitsIn, PutOf}
use Rattle.pipes_node.specs.Nodes.{task_in}
use Rattle.pipes_box.specs.Shapes.{Shape, Leaf, One, Two, shape_of, node_count, leaf_count}
use Rattle.pipes_box.specs.Shapes.{GivenFits, sources_of}
use Rattle.pipes_box.specs.Networks.{IsLinked, IsWired, LeavesGave, leaves_of}
use Rattle.pipes_box.specs.Boxes.{IsSound, BoxStands, HasPlace}
use Rattle.pipes_node.proofs.NodeSteps.{place, get-any, node_moves-self, moves-puts, with-same}
use Rattle.pipes_node.proofs.NodeSteps.{with-other}
use Rattle.pipes_box.proofs.Looks.{with_outlet}
use Rattle.pipes_box.proofs.Built.{get-before}
use Rattle.pipes_box.proofs.BoxLaw.{leaves-in}
use Rattle.pipes_box.proofs.Rounds.{NodeKeeps, moves-keeps, wired-kept, numbered-kept}
use Rattle.pipes_box.proofs.Rounds.{linked-moved, Renews, renews-sound, renews-stands, no-task}

pub leaves-count : (s : Shape) (i : ℕ) → length (leaves_of s i) ≡ leaf_count s
leaves-count (Leaf source kinds) i = refl
leaves-count (One task a) i = leaves-count a i
leaves-count (Two task a b) i = omega (
  arith,
  length-append (leaves_of a i)
      (leaves_of b (i + node_count a)),
  leaves-count a i,
  leaves-count b (i + node_count a),
)

pub get-later : {X : Type 0} (xs ys : List X) (j : ℕ) (d : X) → length xs ≤ j
    → get_or (xs ++ ys) j d ≡ get_or ys (j - length xs) d
get-later {X} [] ys j d h = let e : j ≡ j - length {A = X} [] =
    omega arith in ap (λ (k : ℕ). get_or ys k d) e
get-later (x ∷ xs) ys zero d h = absurd (omega (arith, h))
get-later (x ∷ xs) ys (suc j) d h =
    let e : j - length xs ≡ suc j - length (x ∷ xs) = omega arith in
    get-later xs ys j d (omega (arith, h)) ∙ ap (λ (k : ℕ). get_or ys k d) e

leaves-from : (s : Shape) (i j : ℕ) (d : PlanLeaf) → j < leaf_count s
    → i ≤ (get_or (leaves_of s i) j d).node
leaves-from (Leaf source kinds) i zero d h = omega arith
leaves-from (Leaf source kinds) i (suc j) d h = absurd (omega (arith, h))
leaves-from (One task a) i j d h = leaves-from a i j d h
leaves-from (Two task a b) i j d h =
    elim (cases_lt j (leaf_count a)) [
      | inl l ↦ subst (λ (x : PlanLeaf). i ≤ x.node)
          (sym (get-before (leaves_of a i) (leaves_of b (i + node_count a)) j d
          (omega (arith, l, leaves-count a i)))) (leaves-from a i j d l)
      | inr l ↦
          subst (λ (x : PlanLeaf). i ≤ x.node)
          (sym (get-later (leaves_of a i) (leaves_of b (i + node_count a)) j d
          (omega (arith, l, leaves-count a i))))
          (omega (
            arith,
            leaves-from b (i + node_count a) (j - length (leaves_of a i)) d
                (omega (arith, l, h, leaves-count a i)),
          ))
    ]

sources-count : (s : Shape) → length (sources_of s) ≡ leaf_count s
sources-count (Leaf source kinds) = refl
sources-count (One task a) = sources-count a
sources-count (Two task a b) = omega (
  arith,
  length-append (sources_of a) (sources_of b),
  sources-count a,
  sources-count b,
)

-- a leaf has its source's number
pub source-at : (s : Shape) (i j : ℕ) (d : PlanLeaf) (x : ℕ) → j < leaf_count s
    → (get_or (leaves_of s i) j d).source ≡ get_or (sources_of s) j x
source-at (Leaf source kinds) i zero d x h = refl
source-at (Leaf source kinds) i (suc j) d x h = absurd (omega (arith, h))
source-at (One task a) i j d x h = source-at a i j d x h
source-at (Two task a b) i j d x h =
    elim (cases_lt j (leaf_count a)) [
      | inl l ↦
          ap (λ (y : PlanLeaf). y.source)
          (get-before (leaves_of a i) (leaves_of b (i + node_count a)) j d
          (omega (arith, l, leaves-count a i)))
          ∙ source-at a i j d x l
          ∙ sym (get-before (sources_of a) (sources_of b) j x (omega (arith, l, sources-count a)))
      | inr l ↦
          (let same : j - length (leaves_of a i) ≡ j - length (sources_of a) =
          omega (arith, leaves-count a i, sources-count a) in
          ap (λ (y : PlanLeaf). y.source)
          (get-later (leaves_of a i) (leaves_of b (i + node_count a)) j d
          (omega (arith, l, leaves-count a i)))
          ∙ source-at b (i + node_count a) (j - length (leaves_of a i)) d x
          (omega (arith, l, h, leaves-count a i))
          ∙ ap (λ (k : ℕ). get_or (sources_of b) k x) same
          ∙ sym (get-later (sources_of a) (sources_of b) j x (omega (arith, l, sources-count a))))
    ]

-- there are no more leaves than nodes
pub leaves-few : (s : Shape) → leaf_count s ≤ node_count s
leaves-few (Leaf source kinds) = omega arith
leaves-few (One task a) = omega (arith, leaves-few a)
leaves-few (Two task a b) = omega (arith, leaves-few a, leaves-few b)

-- a leaf's node is a source
leaf-source : (node : ℕ → Node) (s : Shape) (i j : ℕ) (d : PlanLeaf) → j < leaf_count s
    → IsWired node s i → task_in (node (get_or (leaves_of s i) j d).node).operator ≡ None
leaf-source node (Leaf source kinds) i zero d h w = w
leaf-source node (Leaf source kinds) i (suc j) d h w = absurd (omega (arith, h))
leaf-source node (One task a) i j d h w = leaf-source node a i j d h w.0
leaf-source node (Two task a b) i j d h w =
    elim (cases_lt j (leaf_count a)) [
      | inl l ↦
          subst (λ (x : PlanLeaf). task_in (node x.node).operator ≡ None)
          (sym (get-before (leaves_of a i) (leaves_of b (i + node_count a)) j d
          (omega (arith, l, leaves-count a i)))) (leaf-source node a i j d l w.0)
      | inr l ↦
          subst (λ (x : PlanLeaf). task_in (node x.node).operator ≡ None)
          (sym (get-later (leaves_of a i) (leaves_of b (i + node_count a)) j d
          (omega (arith, l, leaves-count a i))))
          (leaf-source node b (i + node_count a) (j - length (leaves_of a i)) d
          (omega (arith, l, h, leaves-count a i)) w.1)
    ]

module _ (old new : ℕ → Node) (spot leaf : ℕ) (m : Message) (given : Lists) (same : (k : ℕ)
    → (k ≡ spot → ⊥) → sent (new k).outlet ≡ sent (old k).outlet)
    (more : sent (new spot).outlet ≡ sent (old spot).outlet ++ m ∷ []) where
  -- the other leaves
  gave-apart : (s : Shape) (i n : ℕ) → ((k : ℕ) → i ≤ k → k < i + node_count s → k ≡ spot → ⊥)
      → ((l : ℕ) → n ≤ l → l < n + leaf_count s → l ≡ leaf → ⊥) → LeavesGave old s i n given
      → LeavesGave new s i n (with_message given leaf m)
  gave-apart (Leaf source kinds) i n a b g = with-other given leaf m n
      (b n (omega arith) (omega arith)) ∙ g ∙ sym (same i (a i (omega arith) (omega arith)))
  gave-apart (One task s) i n a b g = gave-apart s i n (λ k l h. a k l (omega (arith, h))) b g
  gave-apart (Two task s t) i n a b g = (
    gave-apart s i n (λ k l h. a k l (omega (arith, h))) (λ k l h. b k l (omega (arith, h))) g.0,
    gave-apart t (i + node_count s) (n + leaf_count s) (λ k l h. a k (omega (arith, l))
        (omega (arith, h))) (λ k l h. b k (omega (arith, l)) (omega (arith, h))) g.1,
  )

  -- the leaf itself
  pub gave-put : (s : Shape) (i n j : ℕ) (d : PlanLeaf) → j < leaf_count s → n + j ≡ leaf
      → (get_or (leaves_of s i) j d).node ≡ spot → LeavesGave old s i n given
      → LeavesGave new s i n (with_message given leaf m)
  gave-put (Leaf source kinds) i n zero d h e f g =
      let l : n ≡ leaf = omega (arith, e) in
      subst (λ (z : ℕ). with_message given leaf m z ≡ sent (new i).outlet) (sym l)
      (with-same given leaf m ∙ ap (λ (xs : List Message). xs ++ m ∷ []) (ap given (sym l) ∙ g)
      ∙ subst (λ (z : ℕ). sent (old i).outlet ++ m ∷ [] ≡ sent (new z).outlet) (sym f)
      (subst (λ (z : ℕ). sent (old z).outlet ++ m ∷ [] ≡ sent (new spot).outlet) (sym f)
      (sym more)))
  gave-put (Leaf source kinds) i n (suc j) d h e f g = absurd (omega (arith, h))
  gave-put (One task s) i n j d h e f g = gave-put s i n j d h e f g
  gave-put (Two task s t) i n j d h e f g =
      elim (cases_lt j (leaf_count s)) [
        | inl l ↦
            (let small : j < length (leaves_of s i) = omega (arith, l, leaves-count s i) in
            let here : (get_or (leaves_of s i) j d).node ≡ spot =
            ap (λ (x : PlanLeaf). x.node) (sym (get-before (leaves_of s i)
            (leaves_of t (i + node_count s)) j d small)) ∙ f in
            let low = leaves-in s i j d small in (
              gave-put s i n j d l e here g.0,
              gave-apart t (i + node_count s) (n + leaf_count s)
                  (λ k a b c. absurd (omega (arith, a, c, here, low)))
                  (λ k a b c. absurd (omega (arith, a, c, e, l))) g.1,
            ))
        | inr l ↦
            (let late : length (leaves_of s i) ≤ j = omega (arith, l, leaves-count s i) in
            let j' : ℕ = j - length (leaves_of s i) in
            let here : (get_or (leaves_of t (i + node_count s)) j' d).node ≡ spot =
            ap (λ (x : PlanLeaf). x.node) (sym (get-later (leaves_of s i)
            (leaves_of t (i + node_count s)) j d late)) ∙ f in
            let small : j' < leaf_count t = omega (arith, h, l, leaves-count s i) in
            let high = leaves-from t (i + node_count s) j' d small in (
              gave-apart s i n (λ k a b c. absurd (omega (arith, b, c, here, high)))
                  (λ k a b c. absurd (omega (arith, b, c, e, l))) g.0,
              gave-put t (i + node_count s) (n + leaf_count s) j' d small
                  (omega (arith, e, l, leaves-count s i)) here g.1,
            ))
      ]

-- a message was put into the outlet of a leaf's node, or none
pub record LeafPut (old new : PlanBox) (spot : ℕ) (more : List Message) : Type 0 where
  pub out : Outlet Message
  pub there : spot < length old.nodes.items
  pub nodes : (d : Node) → new.nodes.items ≡ set old.nodes.items spot
      (with_outlet (get_or old.nodes.items spot d) out)
  pub same_outlet : (d : Node) → SameOutlet (get_or old.nodes.items spot d).outlet out
  pub puts : (d : Node) → sent out ≡ sent (get_or old.nodes.items spot d).outlet ++ more
  pub top : new.top ≡ old.top
  pub leaves : new.leaves ≡ old.leaves
  pub ended : new.ended ≡ old.ended
  pub failed : new.failed ≡ old.failed

module _ (old new : PlanBox) (spot : ℕ) (more : List Message) (t : LeafPut old new spot more)
    (e0 : Node) where
  put-count : length new.nodes.items ≡ length old.nodes.items
  put-count = ap length (t.nodes e0) ∙ length-set old.nodes.items spot
      (with_outlet (get_or old.nodes.items spot e0) t.out)

  put-here : (d : Node) → get_or new.nodes.items spot d ≡ with_outlet
      (get_or old.nodes.items spot d) t.out
  put-here d = ap (λ (ns : List Node). get_or ns spot d) (t.nodes d)
      ∙ get_or-set_same old.nodes.items spot (with_outlet (get_or old.nodes.items spot d) t.out) d
      t.there

  put-other : (k : ℕ) (d : Node) → (k ≡ spot → ⊥) → get_or new.nodes.items k d ≡ get_or
      old.nodes.items k d
  put-other k d n = ap (λ (ns : List Node). get_or ns k d) (t.nodes d)
      ∙ get_or-set_other old.nodes.items spot k (with_outlet (get_or old.nodes.items spot d) t.out)
      d n

  put-each : (R : Node → Node → Type 0) → ((n : Node) → R n n)
      → ((d : Node) → R (get_or old.nodes.items spot d) (with_outlet (get_or old.nodes.items spot d)
      t.out)) → (k : ℕ) (d : Node) → R (get_or old.nodes.items k d) (get_or new.nodes.items k d)
  put-each R self h k d =
      elim (place k spot) [
        | inl x ↦ subst (λ (z : ℕ). R (get_or old.nodes.items z d) (get_or new.nodes.items z d))
            (sym x) (subst (R (get_or old.nodes.items spot d)) (sym (put-here d)) (h d))
        | inr n ↦ subst (R (get_or old.nodes.items k d)) (sym (put-other k d n))
            (self (get_or old.nodes.items k d))
      ]

  put-moves : (k : ℕ) (d : Node) → NodeMoves (get_or old.nodes.items k d)
      (get_or new.nodes.items k d)
  put-moves = put-each NodeMoves node_moves-self (λ d. moves-puts (get_or old.nodes.items spot d)
      (with_outlet (get_or old.nodes.items spot d) t.out) more refl refl refl refl (t.same_outlet d)
      (t.puts d))

  put-counted : (k : ℕ) (d : Node) → IsCounted (get_or old.nodes.items k d)
      → IsCounted (get_or new.nodes.items k d)
  put-counted = put-each (λ a b. IsCounted a → IsCounted b) (λ n c. c)
      (λ d c. record { count = c.count; few = c.few })

  put-renews : IsSound old → Renews old new
  put-renews sound = record {
    count = put-count;
    linked = linked-moved old.nodes.items new.nodes.items put-count
        (λ k d h. (put-counted k d (sound.linked.counted k d h), put-moves k d)) sound.linked;
    top = t.top;
    leaves = ap (λ v. v.items) t.leaves;
    ended = t.ended;
    going = λ e k d h. put-each (λ x y. x.failed ≡ false → y.failed ≡ false) (λ n g. g) (λ z g. g)
        k d (sound.going (sym t.failed ∙ e) k d h);
    depths = λ k d h. (put-moves k d).depth;
    outlets = λ k d h. (put-moves k d).same_link;
    puts = λ k d h. (put-moves k d).puts;
  }

  pub put-sound : IsSound old → IsSound new
  put-sound s = renews-sound old new (put-renews s) s

  stands-source : (n : Node) → task_in n.operator ≡ None → NodeStands n
      → NodeStands (with_outlet n t.out)
  stands-source n source s =
      let none = no-task n.operator source in
      record {
        passed = s.passed;
        ports = s.ports;
        kinds = s.kinds;
        emits = subst (λ o. EmitsIn o s.passed (sent t.out) n.pending.items) (sym none)
            (subst (λ o. EmitsIn o s.passed (sent n.outlet) n.pending.items) none s.emits);
      }

  holds-source : (n : Node) → task_in n.operator ≡ None → NodeHolds n
      → NodeHolds (with_outlet n t.out)
  holds-source n source h = record {
    stood = record {
      passed = h.stood.passed;
      ports = h.stood.ports;
      kinds = h.stood.kinds;
      puts = subst (λ (o : Option Task). PutOf o h.stood.passed (sent t.out)) (sym source) tt;
    };
    stands = λ going. stands-source n source (h.stands going);
  }

  -- the message was given
  pub put-stands : IsSound old → (leaf : ℕ) (d1 : PlanLeaf) (m : Message)
      → leaf < length old.leaves.items → (get_or old.leaves.items leaf d1).node ≡ spot
      → more ≡ m ∷ []
      → (schemas : List (List Kind)) (plan : Plan) (given : Lists) (got : List Message)
      → BoxStands old schemas plan given got → GivenFits (shape_of schemas plan) 0
      (with_message given leaf m) → BoxStands new schemas plan (with_message given leaf m) got
  put-stands sound leaf d1 m in-range spot-is one schemas plan given got b fits =
      let shape : Shape = shape_of schemas plan in
      let size : 0 + node_count shape ≤ length old.nodes.items = omega (arith, b.count) in
      let small : leaf < leaf_count shape = omega (
        arith,
        in-range,
        ap length b.leaves_are,
        leaves-count shape 0,
      ) in
      let at-spot : (get_or (leaves_of shape 0) leaf d1).node ≡ spot =
      ap (λ (ls : List PlanLeaf). (get_or ls leaf d1).node) (sym b.leaves_are) ∙ spot-is in
      let source : (d : Node) → task_in (get_or old.nodes.items spot d).operator ≡ None =
      λ d. subst (λ (z : ℕ). task_in (get_or old.nodes.items z d).operator ≡ None) at-spot
      (leaf-source (λ k. get_or old.nodes.items k d) shape 0 leaf d1 small (b.wired d)) in
      record {
        count = put-count ∙ b.count;
        few = b.few;
        wired = λ d.
            wired-kept (λ k. get_or old.nodes.items k d) (λ k. get_or new.nodes.items k d)
            (length old.nodes.items) (λ k h. sound.linked.counted k d h)
            (λ k h. moves-keeps (get_or old.nodes.items k d) (get_or new.nodes.items k d)
            (put-moves k d)) shape 0 size b.proper (b.wired d);
        numbered = λ d.
            numbered-kept (λ k. get_or old.nodes.items k d) (λ k. get_or new.nodes.items k d)
            (length old.nodes.items) (λ k h. sound.linked.counted k d h)
            (λ k h. moves-keeps (get_or old.nodes.items k d) (get_or new.nodes.items k d)
            (put-moves k d)) shape 0 0 0 size (b.numbered d);
        proper = b.proper;
        holds = λ k d h.
            let there : k < length old.nodes.items = omega (arith, h, put-count) in
            elim (place k spot) [
              | inl x ↦
                  subst (λ (z : ℕ). z < length old.nodes.items
                  → NodeHolds (get_or new.nodes.items z d)) (sym x)
                  (λ l. subst NodeHolds (sym (put-here d)) (holds-source
                  (get_or old.nodes.items spot d) (source d) (b.holds spot d l))) there
              | inr x ↦ subst NodeHolds (sym (put-other k d x)) (b.holds k d there)
            ];
        leaves_are = ap (λ v. v.items) t.leaves ∙ b.leaves_are;
        gave = λ d.
            gave-put (λ k. get_or old.nodes.items k d) (λ k. get_or new.nodes.items k d) spot leaf m
            given (λ k n. ap (λ (x : Node). sent x.outlet) (put-other k d n))
            (ap (λ (x : Node). sent x.outlet) (put-here d) ∙ t.puts d
            ∙ ap (λ (xs : List Message). sent (get_or old.nodes.items spot d).outlet ++ xs) one)
            shape 0 0 leaf d1 small (omega arith) at-spot (b.gave d);
        fits = fits;
        got_is = b.got_is ∙ sym (ap (λ i. taken i) t.top);
      }

  -- no place was free for it
  pub put-full : (leaf : ℕ) (d1 : PlanLeaf) → (get_or old.leaves.items leaf d1).node ≡ spot
      → spare t.out ≡ 0 → HasPlace new leaf → ⊥
  put-full leaf d1 spot-is none h =
      let at : (get_or new.leaves.items leaf d1).node ≡ spot =
      ap (λ v. (get_or v.items leaf d1).node) t.leaves ∙ spot-is in
      omega (
        arith,
        h d1 e0,
        none,
        ap (λ (k : ℕ). spare (get_or new.nodes.items k e0).outlet) at,
        ap (λ (n : Node). spare n.outlet) (put-here e0),
      )

  stands-quiet : (n : Node) → sent t.out ≡ sent n.outlet → NodeStands n
      → NodeStands (with_outlet n t.out)
  stands-quiet n same s = record {
    passed = s.passed;
    ports = s.ports;
    kinds = s.kinds;
    emits =
        subst (λ (xs : List Message). EmitsIn n.operator s.passed xs n.pending.items)
        (sym same) s.emits;
  }

  holds-quiet : (n : Node) → sent t.out ≡ sent n.outlet → NodeHolds n
      → NodeHolds (with_outlet n t.out)
  holds-quiet n same h = record {
    stood = record {
      passed = h.stood.passed;
      ports = h.stood.ports;
      kinds = h.stood.kinds;
      puts = subst (λ (xs : List Message). PutOf (task_in n.operator) h.stood.passed xs) (sym same)
          h.stood.puts;
    };
    stands = λ going. stands-quiet n same (h.stands going);
  }

  -- nothing was put
  pub put-stays : IsSound old → more ≡ [] → (schemas : List (List Kind)) (plan : Plan)
      (given : Lists) (got : List Message) → BoxStands old schemas plan given got
      → BoxStands new schemas plan given got
  put-stays sound none schemas plan given got b =
      let same : (d : Node) → sent t.out ≡ sent (get_or old.nodes.items spot d).outlet =
      λ d. t.puts d ∙ ap (λ (xs : List Message). sent (get_or old.nodes.items spot d).outlet
      ++ xs) none ∙ append-nil (sent (get_or old.nodes.items spot d).outlet) in
      renews-stands old new (put-renews sound) sound.linked
      (λ k d h. moves-keeps (get_or old.nodes.items k d) (get_or new.nodes.items k d)
      (put-moves k d))
      (λ k d h. put-each (λ x y. NodeHolds x → NodeHolds y) (λ n s. s)
      (λ e. holds-quiet (get_or old.nodes.items spot e) (same e)) k d)
      (λ k d h n x. put-each (λ a b. sent b.outlet ≡ sent a.outlet) (λ n. refl) same k d)
      schemas plan given got b
