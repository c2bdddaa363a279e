-- One message given at several leaves of a box, in sequence.
use Rattle.std.proofs.Common.{◌≡◌, ℕ, ◌<◌, List, [], ◌∷◌, ◌++◌, length, refl, sym, ◌∙◌, ap, subst}
use Rattle.std.proofs.Common.{arith, append_assoc, append-nil, ◌≤◌, ◌-◌, get_or, take, drop}
use Rattle.std.proofs.lemmas.List.{take_all}
use Rattle.pipes_stream.specs.declared.message.Message.{Message}
use Rattle.pipes_stream.specs.Lawful.{with_message}
use Rattle.pipes_box.specs.declared.leaf.Leaf.{Leaf as PlanLeaf}
use Rattle.pipes_box.specs.declared.plan_box.PlanBox.{PlanBox}
use Rattle.pipes_box.specs.Shapes.{shape_of, leaf_count}
use Rattle.pipes_box.specs.Boxes.{BoxStands, IsSound, StaysAsBefore, TakesAll, GivesOne}
use Rattle.pipes_box.proofs.Giving.{leaves-count}
use Rattle.pipes_works.specs.Passed.{CanGive, GivesEach}

-- the leaves of a box are those of its plan
pub leaves-there : (b : PlanBox) (leaf : ℕ) (rest : List ℕ) (m : Message)
    → CanGive b (leaf ∷ rest) m → leaf < length b.leaves.items
leaves-there b leaf rest m c =
    omega (
      arith,
      ap (λ (ls : List PlanLeaf). length ls) c.stands.leaves_are,
      leaves-count (shape_of c.schemas c.plan) 0,
      c.fits.0,
    )

pub can-stay : (a b : PlanBox) (leaves : List ℕ) (m : Message) → StaysAsBefore a b → IsSound b
    → CanGive a leaves m → CanGive b leaves m
can-stay a b leaves m stays sound c = record {
  sound = sound;
  schemas = c.schemas;
  plan = c.plan;
  given = c.given;
  got = c.got;
  stands = stays c.schemas c.plan c.given c.got c.stands;
  fits = c.fits;
}

pub can-after : (a b : PlanBox) (leaves : List ℕ) (m : Message) (xs ys : List Message)
    → TakesAll a b xs ys → IsSound b → CanGive a leaves m → CanGive b leaves m
can-after a b leaves m xs ys takes sound c = record {
  sound = sound;
  schemas = c.schemas;
  plan = c.plan;
  given = c.given;
  got = c.got ++ takes.more;
  stands = takes.stands c.schemas c.plan c.given c.got c.stands;
  fits = c.fits;
}

pub can-first : (a : PlanBox) (leaf : ℕ) (rest : List ℕ) (m : Message) → CanGive a (leaf ∷ rest) m
    → CanGive a (leaf ∷ []) m
can-first a leaf rest m c = record {
  sound = c.sound;
  schemas = c.schemas;
  plan = c.plan;
  given = c.given;
  got = c.got;
  stands = c.stands;
  fits = (c.fits.0, c.fits.1, tt);
}

pub can-rest : (a b : PlanBox) (leaf : ℕ) (rest : List ℕ) (m : Message) (xs ys : List Message)
    → GivesEach a b (leaf ∷ []) m xs ys → IsSound b → CanGive a (leaf ∷ rest) m
    → CanGive b rest m
can-rest a b leaf rest m xs ys g sound c = record {
  sound = sound;
  schemas = c.schemas;
  plan = c.plan;
  given = with_message c.given leaf m;
  got = c.got ++ g.more;
  stands = g.stands c.schemas c.plan c.given c.got c.stands (c.fits.0, c.fits.1, tt);
  fits = c.fits.2;
}

pub gives-none : (a : PlanBox) (m : Message) (xs : List Message) → GivesEach a a [] m xs xs
gives-none a m xs = record {
  more = [];
  appended = sym (append-nil xs);
  stands = λ schemas plan given got s f. subst (BoxStands a schemas plan given)
      (sym (append-nil got)) s;
}

pub gives-one : (a b : PlanBox) (leaf : ℕ) (m : Message) (xs : List Message)
    → GivesOne a b leaf m → GivesEach a b (leaf ∷ []) m xs xs
gives-one a b leaf m xs g = record {
  more = [];
  appended = sym (append-nil xs);
  stands = λ schemas plan given got s f.
      subst (BoxStands b schemas plan (with_message given leaf m))
      (sym (append-nil got)) (g schemas plan given got s f.1);
}

pub gives-after : (a b c : PlanBox) (leaf : ℕ) (m : Message) (xs ys : List Message)
    → TakesAll a b xs ys → GivesOne b c leaf m → GivesEach a c (leaf ∷ []) m xs ys
gives-after a b c leaf m xs ys takes g = record {
  more = takes.more;
  appended = takes.appended;
  stands = λ schemas plan given got s f. g schemas plan given (got ++ takes.more)
      (takes.stands schemas plan given got s) f.1;
}

pub gives-stayed : (a b c : PlanBox) (leaves : List ℕ) (m : Message) (xs ys : List Message)
    → StaysAsBefore a b → GivesEach b c leaves m xs ys → GivesEach a c leaves m xs ys
gives-stayed a b c leaves m xs ys stays g = record {
  more = g.more;
  appended = g.appended;
  stands = λ schemas plan given got s f. g.stands schemas plan given got
      (stays schemas plan given got s) f;
}

pub gives-then : (a b c : PlanBox) (leaf : ℕ) (rest : List ℕ) (m : Message)
    (xs ys zs : List Message) → GivesEach a b (leaf ∷ []) m xs ys → GivesEach b c rest m ys zs
    → GivesEach a c (leaf ∷ rest) m xs zs
gives-then a b c leaf rest m xs ys zs g h = record {
  more = g.more ++ h.more;
  appended = h.appended ∙ ap (λ (l : List Message). l ++ h.more) g.appended
      ∙ append_assoc xs g.more h.more;
  stands = λ schemas plan given got s f.
      subst (BoxStands c schemas plan _) (append_assoc got g.more h.more)
      (h.stands schemas plan (with_message given leaf m) (got ++ g.more)
      (g.stands schemas plan given got s (f.0, f.1, tt)) f.2);
}

-- a list as its first item and the rest
pub first-rest : (xs : List ℕ) → 1 ≤ length xs
    → get_or xs 0 0 ∷ take (length xs - 1) (drop 1 xs) ≡ xs
first-rest [] l = absurd (omega (arith, l))
first-rest (x ∷ xs) l = ap (λ (ys : List ℕ). x ∷ ys)
    (take_all (length (x ∷ xs) - 1) xs (omega arith))
