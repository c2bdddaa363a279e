-- What the elements of two sides make, by lists: lemmas that the law of a join needs.
use Rattle.std.proofs.Common.{◌≡◌, ℕ, zero, suc, ◌+◌, ◌≤◌, ◌<◌, min, max, Bool, true, false, cond}
use Rattle.std.proofs.Common.{◌&&◌, nat_le, nat_lt, List, [], ◌∷◌, ◌++◌, map, length, refl, sym}
use Rattle.std.proofs.Common.{◌∙◌, subst, ap, arith, append_assoc, append-nil}
use Rattle.std.specs.List.{All, Contains, filter, flat_map}
use Rattle.std.proofs.lemmas.Bool.{ltb-false, lt-ltb}
use Rattle.std.proofs.lemmas.Bool.Decides.{nat_tests}
use Rattle.std.proofs.lemmas.Grind.{flat_map-append}
use Rattle.std.proofs.lemmas.List.{map-append, length-append, length-map}
use Rattle.std.proofs.lemmas.List.Elements.{All-nil, All-cons, All-head, All-tail, All-append}
use Rattle.std.proofs.lemmas.List.Elements.{All-weaker, Contains-append_left, All-contains_itself}
use Rattle.pipes_time.specs.Interval.{closed, IsInterval}
use Rattle.pipes_tuple.specs.declared.value.Value.{Value}
use Rattle.pipes_tuple.specs.declared.value.Kind.{Kind}
use Rattle.pipes_tuple.specs.Kinds.{Fits, kind_of}
use Rattle.pipes_tuple.proofs.Perm.{Perm, Perm-loops}
use Rattle.pipes_stream.specs.declared.Elem.{Elem}
use Rattle.pipes_stream.specs.declared.message.Message.{Message}
use Rattle.pipes_stream.specs.declared.message.Message.TheVariants as message
use Rattle.pipes_stream.specs.Progress.{Progress}
use Rattle.pipes_stream.specs.Snapshot.{is_held, snapshot}
use Rattle.pipes_stream.specs.Lists.{CanFollow, elements}
use Rattle.pipes_stream.specs.Lawful.{IsCovered}
use Rattle.pipes_stream.proofs.Snapshots.{snapshot-append}
use Rattle.pipes_expr.specs.ExprValue.{Row}
use Rattle.pipes_relation.specs.declared.lists.Pair.{Pair}
use Rattle.pipes_expr.specs.declared.expr.Expr.{Expr}
use Rattle.pipes_relation.specs.Relations.{meets, joined, joined_row}
use Rattle.pipes_sweep.specs.Areas.{is_overlap, until}
use Rattle.pipes_pair.specs.Meeting.{both_of, joined_elem, joined_from, made_by, AreNarrow}

-- the element is valid in no instant in which one of the two isn't
pub record IsWithin (l r e : Elem) : Type 0 where
  pub after_left : l.span.start ≤ e.span.start
  pub after_right : r.span.start ≤ e.span.start
  pub not_empty : e.span.start < e.span.end
  pub before_left : e.span.end ≤ l.span.end
  pub before_right : e.span.end ≤ r.span.end

abbrev pub StaysWithin : (Elem → Elem → List Elem) → Type 0
StaysWithin make = (l r : Elem) → All (IsWithin l r) (make l r)

overlap-is : (a b c d : ℕ) → nat_lt (max a b) (min c d) ≡ true → max a b < min c d
overlap-is a b c d h = grind (arith, nat_tests)

within-pick : (o m : Bool) (l r : Elem) → is_overlap l.span r.span ≡ o
    → All (IsWithin l r) (cond (o && m) (both_of l r ∷ []) [])
within-pick true true l r h =
    let w : max l.span.start r.span.start < min l.span.end r.span.end =
    overlap-is l.span.start r.span.start l.span.end r.span.end h in
    All-cons (IsWithin l r) (both_of l r) []
    (record {
      after_left = omega arith;
      after_right = omega arith;
      not_empty = w;
      before_left = omega arith;
      before_right = omega arith;
    }) (All-nil (IsWithin l r))
within-pick true false l r h = All-nil (IsWithin l r)
within-pick false m l r h = All-nil (IsWithin l r)

pub joined-within : (pairs : List Pair) (c : Expr) → StaysWithin (joined_from pairs c true)
joined-within pairs c l r =
    within-pick (is_overlap l.span r.span) (meets pairs c l.tuple r.tuple) l r refl

-- the two sides change places
pub within-turned : (make : Elem → Elem → List Elem) → StaysWithin make
    → StaysWithin (λ a b. make b a)
within-turned make w a b =
    All-weaker (IsWithin b a) (IsWithin a b)
    (λ e h. record {
      after_left = h.after_right;
      after_right = h.after_left;
      not_empty = h.not_empty;
      before_left = h.before_right;
      before_right = h.before_left;
    }) (make b a) (w b a)

module _ {X Y : Type 0} (P : Y → Type 0) (f : X → List Y) where
  pub All-flat_map : (xs : List X) → All (λ x. All P (f x)) xs → All P (flat_map f xs)
  All-flat_map [] h = All-nil P
  All-flat_map (x ∷ xs) h =
      All-append P (f x) (flat_map f xs) (All-head (λ x. All P (f x)) x xs h)
      (All-flat_map xs (All-tail (λ x. All P (f x)) x xs h))

-- what is so of all that a pair makes is so of all that is made
pub All-made : (P Q R : Elem → Type 0) (make : Elem → Elem → List Elem) (ls rs : List Elem)
    → ((l r : Elem) → Q l → R r → All P (make l r)) → All Q ls → All R rs
    → All P (made_by make ls rs)
All-made P Q R make ls rs h a b =
    All-flat_map P (λ (l : Elem). flat_map (make l) rs) ls
    (All-weaker Q (λ (l : Elem). All P (flat_map (make l) rs))
    (λ l q. All-flat_map P (make l) rs
    (All-weaker R (λ (r : Elem). All P (make l r)) (λ r s. h l r q s) rs b)) ls a)

-- elements that have ended make nothing with those that start later
nothing : (l r : Elem) (es : List Elem) → All (IsWithin l r) es → r.span.end ≤ l.span.start
    → es ≡ []
nothing l r [] a h = refl
nothing l r (e ∷ es) a h =
    let w = All-head (IsWithin l r) e es a in
    let x = w.after_left in let y = w.not_empty in let z = w.before_right in absurd (omega arith)

keep-open : (make : Elem → Elem → List Elem) (c : Bool) (l r : Elem) (xs rs : List Elem)
    → (c ≡ false → make l r ≡ []) → flat_map (make l) xs ≡ flat_map (make l) rs
    → flat_map (make l) (cond c (r ∷ xs) xs) ≡ make l r ++ flat_map (make l) rs
keep-open make true l r xs rs h k = ap (λ (es : List Elem). make l r ++ es) k
keep-open make false l r xs rs h k = rw (h refl) k

pub until-same : (make : Elem → Elem → List Elem) → StaysWithin make → (l : Elem) (b : ℕ)
    (rs : List Elem) → b ≤ l.span.start
    → flat_map (make l) (until b rs) ≡ flat_map (make l) rs
until-same make w l b [] h = refl
until-same make w l b (r ∷ rs) h =
    keep-open make (nat_lt b r.span.end) l r (until b rs) rs
    (λ e. nothing l r (make l r) (w l r)
    (let k : r.span.end ≤ b = ltb-false b r.span.end e in omega arith))
    (until-same make w l b rs h)

-- of a message's element
pub news-same : (make : Elem → Elem → List Elem) → StaysWithin make → (p : Progress) (m : Message)
    (rs : List Elem) → CanFollow p m
    → made_by make (elements (m ∷ [])) (until p.beat rs) ≡ made_by make (elements (m ∷ [])) rs
news-same make w p (message.Elem e) rs can =
    ap (λ (es : List Elem). es ++ []) (until-same make w e p.beat rs can.1)
news-same make w p (message.Beat at) rs can = refl
news-same make w p message.End rs can = refl

-- tests by ends
less : (a b n : ℕ) → a ≤ b → nat_lt a n ≡ false → nat_lt b n ≡ false
less a b n h k = grind (arith, nat_tests)

pick-until : (c : Bool) (e : Elem) (b : ℕ) (es rest : List Elem)
    → (c ≡ false → nat_lt b e.span.end ≡ false) → until b es ≡ rest
    → until b (cond c (e ∷ es) es) ≡ cond (nat_lt b e.span.end) (e ∷ rest) rest
pick-until true e b es rest h k = rw k refl
pick-until false e b es rest h k = rw (h refl) k

pub until-until : (a b : ℕ) (es : List Elem) → a ≤ b → until b (until a es) ≡ until b es
until-until a b [] h = refl
until-until a b (e ∷ es) h =
    pick-until (nat_lt a e.span.end) e b (until a es) (until b es) (less a b e.span.end h)
    (until-until a b es h)

-- rows that fit together
pub narrow-fits : (s t : List Kind) (a b : Elem) → length (s ++ t) ≤ 32 → Fits a.tuple s
    → Fits b.tuple t → AreNarrow a b
narrow-fits s t a b w f g =
    let x : length s ≡ length a.tuple = sym (ap length f) ∙ length-map a.tuple kind_of in
    let y : length t ≡ length b.tuple = sym (ap length g) ∙ length-map b.tuple kind_of in
    let z : length (s ++ t) ≡ length s + length t = length-append s t in
    omega arith

fits-pick : (c : Bool) (s t : List Kind) (l r : Elem) → Fits l.tuple s → Fits r.tuple t
    → All (λ e. Fits e.tuple (s ++ t)) (cond c (both_of l r ∷ []) [])
fits-pick true s t l r f g =
    All-cons (λ (e : Elem). Fits e.tuple (s ++ t)) (both_of l r) []
    (map-append kind_of l.tuple r.tuple
    ∙ ap (λ (ks : List Kind). ks ++ map kind_of r.tuple) f ∙ ap (λ (ks : List Kind). s ++ ks) g)
    (All-nil (λ (e : Elem). Fits e.tuple (s ++ t)))
fits-pick false s t l r f g = All-nil (λ (e : Elem). Fits e.tuple (s ++ t))

pub joined-fits : (pairs : List Pair) (c : Expr) (s t : List Kind) (l r : Elem) → Fits l.tuple s
    → Fits r.tuple t → All (λ e. Fits e.tuple (s ++ t)) (joined_from pairs c true l r)
joined-fits pairs c s t l r f g =
    fits-pick (is_overlap l.span r.span && meets pairs c l.tuple r.tuple) s t l r f g

-- each element of the left side covers what it makes
pub made-covered : (make : Elem → Elem → List Elem) → StaysWithin make → (ls rs : List Elem)
    → All (IsCovered (ls ++ rs)) (made_by make ls rs)
made-covered make w ls rs =
    All-flat_map (IsCovered (ls ++ rs)) (λ (l : Elem). flat_map (make l) rs) ls
    (All-weaker (Contains ls) (λ (l : Elem). All (IsCovered (ls ++ rs)) (flat_map (make l) rs))
    (λ l c. All-flat_map (IsCovered (ls ++ rs)) (make l) rs
    (λ k d lt. All-weaker (IsWithin l _) (IsCovered (ls ++ rs))
    (λ e h. (l, Contains-append_left ls rs l c, h.after_left, h.before_left)) _ (w l _)))
    ls (All-contains_itself ls))

-- snapshots
single : (x : Bool) (e : Elem) (t : ℕ) → is_held e.span t ≡ x
    → snapshot (e ∷ []) t ≡ cond x (e.tuple ∷ []) []
single true e t h = rw h refl
single false e t h = rw h refl

held-both : (a b c d t : ℕ) → nat_lt (max a b) (min c d) ≡ true
    → (nat_le (max a b) t && nat_lt t (min c d))
    ≡ ((nat_le a t && nat_lt t c) && (nat_le b t && nat_lt t d))
held-both a b c d t h = grind (arith, nat_tests)

held-none : (a b c d t : ℕ) → nat_lt (max a b) (min c d) ≡ false
    → ((nat_le a t && nat_lt t c) && (nat_le b t && nat_lt t d)) ≡ false
held-none a b c d t h = grind (arith, nat_tests)

snap-pick : (o m y : Bool) (b : Elem) (t : ℕ) → (o ≡ true → is_held b.span t ≡ y)
    → (o ≡ false → y ≡ false)
    → snapshot (cond (o && m) (b ∷ []) []) t ≡ cond y (cond m (b.tuple ∷ []) []) []
snap-pick true true y b t h k = single y b t (h refl)
snap-pick true false true b t h k = refl
snap-pick true false false b t h k = refl
snap-pick false m y b t h k = rw (k refl) refl

snap-one : (pairs : List Pair) (c : Expr) (l r : Elem) (t : ℕ)
    → snapshot (joined_elem pairs c l r) t
    ≡ cond (is_held l.span t && is_held r.span t) (joined_row pairs c l.tuple r.tuple) []
snap-one pairs c l r t =
    snap-pick (is_overlap l.span r.span) (meets pairs c l.tuple r.tuple)
    (is_held l.span t && is_held r.span t) (both_of l r) t
    (held-both l.span.start r.span.start l.span.end r.span.end t)
    (held-none l.span.start r.span.start l.span.end r.span.end t)

nothing-held : (h : Bool) → ◌≡◌ {A = List Row} (cond h [] []) []
nothing-held true = refl
nothing-held false = refl

row-more : (hl hr : Bool) (r : Elem) (es : List Elem) (g : Row → List Row)
    → cond (hl && hr) (g r.tuple) [] ++ cond hl (flat_map g (map (λ e. e.tuple) es)) []
    ≡ cond hl (flat_map g (map (λ e. e.tuple) (cond hr (r ∷ es) es))) []
row-more true true r es g = refl
row-more true false r es g = refl
row-more false hr r es g = refl

snap-row : (pairs : List Pair) (c : Expr) (l : Elem) (rs : List Elem) (t : ℕ)
    → snapshot (flat_map (joined_elem pairs c l) rs) t
    ≡ cond (is_held l.span t) (flat_map (joined_row pairs c l.tuple) (snapshot rs t)) []
snap-row pairs c l [] t = sym (nothing-held (is_held l.span t))
snap-row pairs c l (r ∷ rs) t =
    snapshot-append (joined_elem pairs c l r) (flat_map (joined_elem pairs c l) rs) t
    ∙ ap (λ (rows : List Row). rows ++ snapshot (flat_map (joined_elem pairs c l) rs) t)
    (snap-one pairs c l r t)
    ∙ ap (λ (rows : List Row). cond (is_held l.span t && is_held r.span t)
    (joined_row pairs c l.tuple r.tuple) [] ++ rows) (snap-row pairs c l rs t)
    ∙ row-more (is_held l.span t) (is_held r.span t) r (filter (λ e. is_held e.span t) rs)
    (joined_row pairs c l.tuple)

all-more : (hl : Bool) (l : Elem) (es : List Elem) (g : Row → List Row)
    → cond hl (g l.tuple) [] ++ flat_map g (map (λ e. e.tuple) es)
    ≡ flat_map g (map (λ e. e.tuple) (cond hl (l ∷ es) es))
all-more true l es g = refl
all-more false l es g = refl

snap-all : (pairs : List Pair) (c : Expr) (ls rs : List Elem) (t : ℕ)
    → snapshot (made_by (joined_from pairs c true) ls rs) t
    ≡ flat_map (λ l. flat_map (joined_row pairs c l) (snapshot rs t)) (snapshot ls t)
snap-all pairs c [] rs t = refl
snap-all pairs c (l ∷ ls) rs t =
    let g : Row → List Row = λ x. flat_map (joined_row pairs c x) (snapshot rs t) in
    snapshot-append (flat_map (joined_elem pairs c l) rs)
    (made_by (joined_from pairs c true) ls rs) t
    ∙ ap (λ (rows : List Row). rows ++ snapshot (made_by (joined_from pairs c true) ls rs) t)
    (snap-row pairs c l rs t)
    ∙ ap (λ (rows : List Row). cond (is_held l.span t) (g l.tuple) [] ++ rows)
    (snap-all pairs c ls rs t)
    ∙ all-more (is_held l.span t) l (filter (λ e. is_held e.span t) ls) g

-- the snapshots of what the elements make are the joins of their snapshots
pub snapshot-made : (pairs : List Pair) (c : Expr) (ls rs : List Elem) (t : ℕ)
    → snapshot (made_by (joined_from pairs c true) ls rs) t
    ≡ joined pairs c (snapshot ls t) (snapshot rs t)
unfolding joined
snapshot-made pairs c ls rs t = snap-all pairs c ls rs t
