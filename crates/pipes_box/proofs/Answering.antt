-- Lists that are a plan's answer, from the leaves to the root.
use Rattle.std.proofs.Common.{◌≡◌, ℕ, zero, suc, ◌+◌, ◌≤◌, ◌<◌, min, Bool, true, false, cond, eqb}
use Rattle.std.proofs.Common.{List, [], ◌∷◌, ◌++◌, refl, sym, ◌∙◌, ap, subst, arith, append-nil}
use Rattle.std.specs.List.{All, Contains}
use Rattle.std.proofs.lemmas.List.Elements.{All-weaker, All-append, All-contains}
use Rattle.std.proofs.lemmas.List.Elements.{Contains-append_left, Contains-append_right}
use Rattle.pipes_tuple.specs.declared.value.Value.{Value}
use Rattle.pipes_tuple.specs.declared.value.Kind.{Kind}
use Rattle.pipes_tuple.specs.Kinds.{Fits}
use Rattle.pipes_tuple.specs.Bag.{SameBag}
use Rattle.pipes_tuple.proofs.Bags.{SameBag-refl, SameBag-trans}
use Rattle.pipes_stream.specs.declared.Elem.{Elem}
use Rattle.pipes_stream.specs.declared.message.Message.{Message}
use Rattle.pipes_stream.specs.Progress.{Progress}
use Rattle.pipes_stream.specs.Snapshot.{snapshot}
use Rattle.pipes_stream.specs.Lists.{run, start_of_list, Valid, beat, elements}
use Rattle.pipes_stream.specs.Lawful.{Lists, Task, Lawful, least, all_elements, IsCovered}
use Rattle.pipes_stream.proofs.Messages.{run-append, run-rises, valid-prefix, valid-suffix}
use Rattle.pipes_stream.proofs.Messages.{elements-append, beat-closed}
use Rattle.pipes_stream.proofs.Ports.{All-parts, covered-itself}
use Rattle.pipes_stream.proofs.Snapshots.{snapshot-final}
use Rattle.pipes_box.specs.Shapes.{Shape, Leaf, One, Two, gives_of, leaf_count, meaning_of}
use Rattle.pipes_box.specs.Shapes.{two_bags, leaf_elements, LeafFits, GivenFits, Answers, KeepsBags}

-- the heartbeat of a prefix
pub beat-prefix : (xs ys : List Message) → Valid (xs ++ ys) → beat xs ≤ beat (xs ++ ys)
beat-prefix xs ys v =
    let closed_xs = beat-closed xs (valid-prefix start_of_list xs ys v) in
    let rises = run-rises (run start_of_list xs) ys (valid-suffix start_of_list xs ys v)
    closed_xs in
    let e : beat (xs ++ ys) ≡ (run (run start_of_list xs) ys).beat =
    ap (λ (p : Progress). p.beat) (run-append start_of_list xs ys) in
    omega (arith, rises.0, e)

-- a prefix of an answer is an answer
pub answers-prefix : (s : Shape) (n : ℕ) (given : Lists) (xs ys : List Message)
    → Answers s n given (xs ++ ys) → Answers s n given xs
answers-prefix s n given xs ys a =
    let both : elements (xs ++ ys) ≡ elements xs ++ elements ys = elements-append xs ys in
    record {
      valid = valid-prefix start_of_list xs ys a.valid;
      fits = (All-parts (λ (e : Elem). Fits e.tuple (gives_of s)) (elements xs) (elements ys)
          (subst (λ (es : List Elem). All (λ e. Fits e.tuple (gives_of s)) es) both a.fits)).0;
      answer = λ t h.
          subst (λ (rows : List (List Value)). SameBag rows (meaning_of s n
          (λ leaf. snapshot (elements (given leaf)) t))) (snapshot-final xs ys t a.valid h)
          (a.answer t (omega (arith, h, beat-prefix xs ys a.valid)));
      spans = (All-parts (IsCovered (leaf_elements s n given)) (elements xs) (elements ys)
          (subst (λ (es : List Elem). All (IsCovered (leaf_elements s n given)) es) both
          a.spans)).0;
    }

pub answers-leaf : (source : ℕ) (kinds : List Kind) (n : ℕ) (given : Lists)
    → LeafFits kinds (given n) → Answers (Leaf source kinds) n given (given n)
answers-leaf source kinds n given f = record {
  valid = f.valid;
  fits = f.fits;
  answer = λ t h. SameBag-refl (snapshot (elements (given n)) t);
  spans = covered-itself (elements (given n));
}

-- a part of a part
covered-by : (es ds : List Elem) → All (IsCovered ds) es → (e : Elem) → IsCovered es e
    → IsCovered ds e
covered-by es ds all e c =
    let d : IsCovered ds c.0 = All-contains (IsCovered ds) es c.0 all c.1 in
    (d.0, d.1, omega (arith, d.2, c.2), omega (arith, d.3, c.3))

pub answers-one : (task : Task) (a : Shape) (n held : ℕ) (given passed : Lists)
    (list : List Message) → KeepsBags task → task.ports ≡ 1 → Answers a n given (passed 0)
    → Lawful task passed list held → Answers (One task a) n given list
answers-one task a n held given passed list keeps one child l = record {
  valid = l.valid;
  fits = l.fits;
  answer = λ t h.
      let low : beat list ≤ least 1 passed = subst (λ (k : ℕ). beat list ≤ least k passed) one
      l.below in
      SameBag-trans (l.answer t h)
      (keeps (λ port. snapshot (elements (passed port)) t) (λ port. meaning_of a n
      (λ leaf. snapshot (elements (given leaf)) t))
      (λ port small. let zero_port : 0 ≡ port = omega (arith, small, one) in
      subst (λ (k : ℕ). SameBag (snapshot (elements (passed k)) t)
      (meaning_of a n (λ leaf. snapshot (elements (given leaf)) t))) zero_port
      (child.answer t (omega (arith, h, low)))));
  spans = All-weaker (IsCovered (all_elements task.ports passed))
      (IsCovered (leaf_elements a n given))
      (covered-by (all_elements task.ports passed) (leaf_elements a n given)
      (subst (λ (k : ℕ). All (IsCovered (leaf_elements a n given)) (all_elements k passed))
      (sym one) child.spans))
      (elements list) l.spans;
}

pub wider-left : (xs ys : List Elem) (e : Elem) → IsCovered xs e → IsCovered (xs ++ ys) e
wider-left xs ys e c = (c.0, Contains-append_left xs ys c.0 c.1, c.2, c.3)

pub wider-right : (xs ys : List Elem) (e : Elem) → IsCovered ys e → IsCovered (xs ++ ys) e
wider-right xs ys e c = (c.0, Contains-append_right xs ys c.0 c.1, c.2, c.3)

pub answers-two : (task : Task) (a b : Shape) (n held : ℕ) (given passed : Lists)
    (list : List Message) → KeepsBags task → task.ports ≡ 2 → Answers a n given (passed 0)
    → Answers b (n + leaf_count a) given (passed 1) → Lawful task passed list held
    → Answers (Two task a b) n given list
answers-two task a b n held given passed list keeps two left right l = record {
  valid = l.valid;
  fits = l.fits;
  answer = λ t h.
      let low : beat list ≤ least 2 passed = subst (λ (k : ℕ). beat list ≤ least k passed) two
      l.below in
      let bags : ℕ → List (List Value) =
      two_bags (meaning_of a n (λ leaf. snapshot (elements (given leaf)) t))
      (meaning_of b (n + leaf_count a) (λ leaf. snapshot (elements (given leaf)) t)) in
      SameBag-trans (l.answer t h)
      (keeps (λ port. snapshot (elements (passed port)) t) bags
      (λ port small. by-port port (omega (arith, small, two))
      (λ k. SameBag (snapshot (elements (passed k)) t) (bags k))
      (left.answer t (omega (arith, h, low))) (right.answer t (omega (arith, h, low)))));
  spans =
      let ds : List Elem = leaf_elements a n given ++ leaf_elements b (n + leaf_count a) given in
      let lefts : All (IsCovered ds) (elements (passed 0)) =
      All-weaker (IsCovered (leaf_elements a n given)) (IsCovered ds)
      (wider-left (leaf_elements a n given) (leaf_elements b (n + leaf_count a) given))
      (elements (passed 0)) left.spans in
      let rights : All (IsCovered ds) (elements (passed 1)) =
      All-weaker (IsCovered (leaf_elements b (n + leaf_count a) given)) (IsCovered ds)
      (wider-right (leaf_elements a n given) (leaf_elements b (n + leaf_count a) given))
      (elements (passed 1)) right.spans in
      All-weaker (IsCovered (all_elements task.ports passed)) (IsCovered ds)
      (covered-by (all_elements task.ports passed) ds
      (subst (λ (k : ℕ). All (IsCovered ds) (all_elements k passed)) (sym two)
      (All-append (IsCovered ds) (elements (passed 0)) (elements (passed 1)) lefts rights)))
      (elements list) l.spans;
} where
  by-port : (port : ℕ) → port < 2 → (P : ℕ → Type 0) → P 0 → P 1 → P port
  by-port zero h P p q = p
  by-port (suc zero) h P p q = q
  by-port (suc (suc k)) h P p q = absurd (omega (arith, h))
