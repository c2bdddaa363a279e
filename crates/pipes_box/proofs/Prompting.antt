-- Lists that have come as far as what was given, from the leaves to the root.
use Rattle.std.proofs.Common.{◌≡◌, ℕ, zero, suc, ◌+◌, ◌≤◌, ◌<◌, min, max, Bool, true, false, cond}
use Rattle.std.proofs.Common.{nat_le, List, [], ◌∷◌, ◌++◌, inl, inr, refl, sym, ◌∙◌, ap, subst}
use Rattle.std.proofs.Common.{arith}
use Rattle.std.specs.List.{All, Contains}
use Rattle.std.proofs.lemmas.Bool.{cases_lt, leb-true, le-leb}
use Rattle.std.proofs.lemmas.List.Elements.{All-nil, All-cons, All-head, All-tail, All-weaker}
use Rattle.std.proofs.lemmas.List.Elements.{All-append, All-contains}
use Rattle.pipes_time.specs.Interval.{closed}
use Rattle.pipes_stream.specs.declared.Elem.{Elem}
use Rattle.pipes_stream.specs.declared.message.Message.{Message}
use Rattle.pipes_stream.specs.Lists.{beat, HasEnded, elements}
use Rattle.pipes_stream.specs.Lawful.{Lists, Task, Lawful, least, all_elements, floor, IsCovered}
use Rattle.pipes_stream.proofs.Messages.{beat-closed}
use Rattle.pipes_stream.proofs.Ports.{floor-below, covered-itself}
use Rattle.pipes_tuple.specs.declared.value.Kind.{Kind}
use Rattle.pipes_box.specs.Shapes.{Shape, Leaf, One, Two, leaf_count, leaf_elements, Answers}
use Rattle.pipes_box.specs.Prompt.{least_given, with_lag, lag_of, floors, AllEnded, IsPrompt}
use Rattle.pipes_box.proofs.Answering.{wider-left, wider-right}

-- the floor is no higher than the start of an element that reaches h
floor-starts : (h : ℕ) (es : List Elem) → All (λ e. h ≤ e.span.end → floor h es ≤ e.span.start) es
floor-starts h [] = All-nil (λ (e : Elem). h ≤ e.span.end → floor h [] ≤ e.span.start)
floor-starts h (e ∷ es) =
    All-cons (λ (x : Elem). h ≤ x.span.end → floor h (e ∷ es) ≤ x.span.start) e es
    (λ r. let at : ◌≡◌ {A = ℕ} (cond (nat_le h e.span.end) e.span.start h) e.span.start =
    rw (le-leb h e.span.end r) refl in omega (arith, at))
    (All-weaker (λ (x : Elem). h ≤ x.span.end → floor h es ≤ x.span.start)
    (λ (x : Elem). h ≤ x.span.end → floor h (e ∷ es) ≤ x.span.start) (λ x q r. omega (arith, q r))
    es (floor-starts h es))

cond-least : (b : Bool) (x y z : ℕ) → (b ≡ true → z ≤ x) → z ≤ y → z ≤ cond b x y
cond-least true x y z p q = p refl
cond-least false x y z p q = q

-- the floor of parts is no lower
floor-parts : (h h' : ℕ) (es ds : List Elem) → h ≤ h' → All (IsCovered es) ds
    → floor h es ≤ floor h' ds
floor-parts h h' es [] low all = omega (arith, floor-below h es, low)
floor-parts h h' es (d ∷ ds) low all =
    let c : IsCovered es d = All-head (IsCovered es) d ds all in
    let more : floor h es ≤ floor h' ds = floor-parts h h' es ds low
    (All-tail (IsCovered es) d ds all) in
    let starts : h ≤ c.0.span.end → floor h es ≤ c.0.span.start =
    All-contains (λ (e : Elem). h ≤ e.span.end → floor h es ≤ e.span.start) es c.0
    (floor-starts h es) c.1 in
    let one : floor h es ≤ cond (nat_le h' d.span.end) d.span.start h' =
    cond-least (nat_le h' d.span.end) d.span.start h' (floor h es)
    (λ t. omega (arith, starts (omega (arith, leb-true h' d.span.end t, low, c.3)), c.2))
    (omega (arith, floor-below h es, low)) in
    omega (arith, more, one)

floors-parts : (n h h' : ℕ) (es ds : List Elem) → h ≤ h' → All (IsCovered es) ds
    → floors n h es ≤ floors n h' ds
floors-parts zero h h' es ds low all = low
floors-parts (suc n) h h' es ds low all =
    floor-parts (floors n h es) (floors n h' ds) es ds (floors-parts n h h' es ds low all) all

floors-more : (n m h : ℕ) (es : List Elem) → m ≤ n → floors n h es ≤ floors m h es
floors-more zero zero h es l = omega arith
floors-more zero (suc m) h es l = absurd (omega (arith, l))
floors-more (suc n) m h es l =
    elim (cases_lt n m) [
      | inl g ↦ let e : suc n ≡ m = omega (arith, g, l) in
          subst (λ (k : ℕ). floors (suc n) h es ≤ floors k h es) e (omega arith)
      | inr g ↦ omega (arith, floor-below (floors n h es) es, floors-more n m h es g)
    ]

-- an operator lowers the floor by a turn where it lags, and else not at all
turned-or-not : (b : Bool) (n h m : ℕ) (es : List Elem) → floor (floors n h es) es ≤ m
    → (b ≡ false → floors n h es ≤ m) → floors (with_lag b n) h es ≤ m
turned-or-not true n h m es turned kept = turned
turned-or-not false n h m es turned kept = kept refl

pub prompt-leaf : (source : ℕ) (kinds : List Kind) (n : ℕ) (given : Lists)
    → IsPrompt (Leaf source kinds) n given (given n)
prompt-leaf source kinds n given =
    let same : beat (given n) ≤ beat (given n) = omega arith in
    record { below = same; above = same; ends = λ h. h }

-- the end came at each port
pub ended-one : (ports : ℕ) (passed : Lists) → ports ≡ 1 → HasEnded (passed 0) → (port : ℕ)
    → port < ports → HasEnded (passed port)
ended-one ports passed one ended port small =
    let zero_port : 0 ≡ port = omega (arith, small, one) in
    subst (λ (k : ℕ). HasEnded (passed k)) zero_port ended

pub ended-two : (ports : ℕ) (passed : Lists) → ports ≡ 2 → HasEnded (passed 0) → HasEnded (passed 1)
    → (port : ℕ) → port < ports → HasEnded (passed port)
ended-two ports passed two left right zero small = left
ended-two ports passed two left right (suc zero) small = right
ended-two ports passed two left right (suc (suc k)) small = absurd (omega (arith, small, two))

pub prompt-one : (task : Task) (a : Shape) (n held : ℕ) (given passed : Lists) (list : List Message)
    → task.ports ≡ 1
    → Answers a n given (passed 0) → IsPrompt a n given (passed 0) → Lawful task passed list held
    → IsPrompt (One task a) n given list
prompt-one task a n held given passed list one answers child l =
    let es : List Elem = leaf_elements a n given in
    let h : ℕ = floors (lag_of a) (least_given a n given) es in
    let low : beat list ≤ least 1 passed = subst (λ (k : ℕ). beat list ≤ least k passed) one
    l.below in
    let up : floor (least 1 passed) (all_elements 1 passed) ≤ beat list =
    subst (λ (k : ℕ). floor (least k passed) (all_elements k passed) ≤ beat list) one l.above in
    let step : floor h es ≤ floor (least 1 passed) (all_elements 1 passed) =
    floor-parts h (least 1 passed) es (all_elements 1 passed)
    (omega (arith, child.above, beat-closed (passed 0) answers.valid)) answers.spans in
    let high : h ≤ least 1 passed =
    omega (arith, child.above, beat-closed (passed 0) answers.valid) in
    let kept : task.lags ≡ false → h ≤ beat list = λ e.
    let at : beat list ≡ least 1 passed = subst (λ (k : ℕ). beat list ≡ least k passed) one
    (l.prompt e) in omega (arith, at, high) in
    record {
      below = omega (arith, low, child.below);
      above = turned-or-not task.lags (lag_of a) (least_given a n given) (beat list) es
          (omega (arith, step, up)) kept;
      ends = λ e. (l.ends (ended-one task.ports passed one (child.ends e))).0;
    }

pub prompt-two : (task : Task) (a b : Shape) (n held : ℕ) (given passed : Lists)
    (list : List Message) → task.ports ≡ 2
    → Answers a n given (passed 0) → Answers b (n + leaf_count a) given (passed 1)
    → IsPrompt a n given (passed 0) → IsPrompt b (n + leaf_count a) given (passed 1)
    → Lawful task passed list held → IsPrompt (Two task a b) n given list
prompt-two task a b n held given passed list two answers answers' left right l =
    let xs : List Elem = leaf_elements a n given in
    let ys : List Elem = leaf_elements b (n + leaf_count a) given in
    let es : List Elem = xs ++ ys in
    let p : ℕ = least_given a n given in
    let q : ℕ = least_given b (n + leaf_count a) given in
    let most : ℕ = max (lag_of a) (lag_of b) in
    let h : ℕ = floors most (min p q) es in
    let low : beat list ≤ least 2 passed = subst (λ (k : ℕ). beat list ≤ least k passed) two
    l.below in
    let up : floor (least 2 passed) (all_elements 2 passed) ≤ beat list =
    subst (λ (k : ℕ). floor (least k passed) (all_elements k passed) ≤ beat list) two l.above in
    let first : h ≤ floors (lag_of a) p xs =
    omega (
      arith,
      floors-more most (lag_of a) (min p q) es (omega arith),
      floors-parts (lag_of a) (min p q) p es xs (omega arith)
          (All-weaker (IsCovered xs) (IsCovered es) (wider-left xs ys) xs (covered-itself xs)),
    ) in
    let second : h ≤ floors (lag_of b) q ys =
    omega (
      arith,
      floors-more most (lag_of b) (min p q) es (omega arith),
      floors-parts (lag_of b) (min p q) q es ys (omega arith)
          (All-weaker (IsCovered ys) (IsCovered es) (wider-right xs ys) ys (covered-itself ys)),
    ) in
    let lefts : All (IsCovered es) (elements (passed 0)) =
    All-weaker (IsCovered xs) (IsCovered es) (wider-left xs ys) (elements (passed 0))
    answers.spans in
    let rights : All (IsCovered es) (elements (passed 1)) =
    All-weaker (IsCovered ys) (IsCovered es) (wider-right xs ys) (elements (passed 1))
    answers'.spans in
    let step : floor h es ≤ floor (least 2 passed) (all_elements 2 passed) =
    floor-parts h (least 2 passed) es (all_elements 2 passed)
    (omega (arith, first, second, left.above, right.above, beat-closed (passed 0) answers.valid))
    (All-append (IsCovered es) (elements (passed 0)) (elements (passed 1)) lefts rights) in
    let high : h ≤ least 2 passed =
    omega (arith, first, second, left.above, right.above, beat-closed (passed 0) answers.valid) in
    let kept : task.lags ≡ false → h ≤ beat list = λ e.
    let at : beat list ≡ least 2 passed = subst (λ (k : ℕ). beat list ≡ least k passed) two
    (l.prompt e) in omega (arith, at, high) in
    record {
      below = omega (arith, low, left.below, right.below);
      above = turned-or-not task.lags most (min p q) (beat list) es (omega (arith, step, up)) kept;
      ends = λ e. (l.ends (ended-two task.ports passed two (left.ends e.0) (right.ends e.1))).0;
    }
