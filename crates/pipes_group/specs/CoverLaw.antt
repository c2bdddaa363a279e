-- The coverage of one tuple, as elements come, are sent, and time passes.
use Rattle.std.proofs.Common.{◌≡◌, ℕ, ◌≤◌, ◌<◌, ◌+◌, Bool, true, false, cond}
use Rattle.std.proofs.Common.{min, max, List, [], ◌∷◌, ◌++◌, map, refl, ◌∙◌, ap, arith}
use Rattle.std.proofs.Common.{inl, inr}
use Rattle.std.proofs.lemmas.Bool.{cases_lt}
use Rattle.std.proofs.lemmas.Bool.Decides.{nat_tests}
use Rattle.std.proofs.lemmas.List.Sums.{sum_by-append}
use Rattle.pipes_tuple.specs.Equal.{tuple_eq}
use Rattle.pipes_tuple.specs.Bag.{count}
use Rattle.pipes_tuple.proofs.Equality.{tuple_eq-Decides}
use Rattle.pipes_tuple.proofs.Bags.{count-cons}
use Rattle.pipes_stream.specs.declared.Elem.{Elem}
use Rattle.pipes_stream.specs.Snapshot.{is_held, snapshot}
use Rattle.pipes_stream.proofs.Snapshots.{snapshot-append}
use Rattle.pipes_group.specs.Covers.{Row, copies, within, Covered}

-- ---- copies
pub count-append : (x : Row) (xs ys : List Row) → count x (xs ++ ys) ≡ count x xs + count x ys
count-append x xs ys = sum_by-append (λ (row : Row). cond {A = ℕ} (tuple_eq row x) 1 0) xs ys

pub copies-append : (x : Row) (t : ℕ) (es ds : List Elem)
    → copies x t (es ++ ds) ≡ copies x t es + copies x t ds
copies-append x t es ds =
    ap (count x) (snapshot-append es ds t) ∙ count-append x (snapshot es t) (snapshot ds t)

counted : (b c : Bool) (x : Row) (e : Elem) → tuple_eq e.tuple x ≡ c
    → count x (map (λ (d : Elem). d.tuple) (cond b (e ∷ []) []))
    ≡ cond {A = ℕ} c (cond {A = ℕ} b 1 0) 0
counted true true x e same = let a = count-cons x e.tuple [] in
    let s : cond {A = ℕ} (tuple_eq e.tuple x) 1 0 ≡ 1 = ap (λ (b : Bool). cond {A = ℕ} b 1 0)
    same in
    omega (arith, a, s)
counted true false x e same = let a = count-cons x e.tuple [] in
    let s : cond {A = ℕ} (tuple_eq e.tuple x) 1 0 ≡ 0 = ap (λ (b : Bool). cond {A = ℕ} b 1 0)
    same in
    omega (arith, a, s)
counted false true x e same = refl
counted false false x e same = refl

-- of its own tuple, and of another
pub copies-own : (x : Row) (t : ℕ) (e : Elem) → e.tuple ≡ x
    → copies x t (e ∷ []) ≡ within e.span.start e.span.end t
copies-own x t e is = counted (is_held e.span t) true x e ((tuple_eq-Decides e.tuple x).1 is)

pub copies-other : (x : Row) (t : ℕ) (e : Elem) → tuple_eq e.tuple x ≡ false
    → copies x t (e ∷ []) ≡ 0
copies-other x t e n = counted (is_held e.span t) false x e n

-- ---- instants
pub within-in : (a b t : ℕ) → a ≤ t → t < b → within a b t ≡ 1
within-in a b t h l = grind (arith, nat_tests)

pub within-below : (a b t : ℕ) → t < a → within a b t ≡ 0
within-below a b t h = grind (arith, nat_tests)

pub within-above : (a b t : ℕ) → b ≤ t → within a b t ≡ 0
within-above a b t h = grind (arith, nat_tests)

pub within-none : (a t : ℕ) → within a a t ≡ 0
within-none a t = elim (cases_lt t a) [
  | inl l ↦ within-below a a t l
  | inr l ↦ within-above a a t (omega arith)
]

-- ---- the coverage
-- where the elements of the tuple are the same
pub recovered : (x : Row) (now cover until : ℕ) (taken sent taken' sent' : List Elem)
    → ((t : ℕ) → copies x t taken' ≡ copies x t taken)
    → ((t : ℕ) → copies x t sent' ≡ copies x t sent)
    → Covered x now cover until taken sent → Covered x now cover until taken' sent'
recovered x now cover until taken sent taken' sent' more went c = record {
  order = c.order;
  over = λ t h. more t ∙ c.over t h;
  once = λ t. omega (arith, c.once t, more t, went t);
  solid = λ t h l. went t ∙ c.solid t h l;
}

-- an element of another tuple comes, or is sent
pub other-taken : (x : Row) (now cover until : ℕ) (taken sent : List Elem) (e : Elem)
    → tuple_eq e.tuple x ≡ false → Covered x now cover until taken sent
    → Covered x now cover until (taken ++ e ∷ []) sent
other-taken x now cover until taken sent e n c =
    recovered x now cover until taken sent (taken ++ e ∷ []) sent
    (λ t. omega (arith, copies-append x t taken (e ∷ []), copies-other x t e n)) (λ t. refl) c

pub other-sent : (x : Row) (now cover until : ℕ) (taken sent : List Elem) (e : Elem)
    → tuple_eq e.tuple x ≡ false → Covered x now cover until taken sent
    → Covered x now cover until taken (sent ++ e ∷ [])
other-sent x now cover until taken sent e n c =
    recovered x now cover until taken sent taken (sent ++ e ∷ []) (λ t. refl)
    (λ t. omega (arith, copies-append x t sent (e ∷ []), copies-other x t e n)) c

-- time passes
pub waited : (x : Row) (now then cover until : ℕ) (taken sent : List Elem) → now ≤ then
    → Covered x now cover until taken sent → Covered x then cover until taken sent
waited x now then cover until taken sent h c = record {
  order = c.order;
  over = c.over;
  once = c.once;
  solid = λ t a l. c.solid t (omega (arith, h, a)) l;
}

-- what is covered as far as it is to be covered needs no slot
pub forgotten : (x : Row) (now u then : ℕ) (taken sent : List Elem) → u ≤ then
    → Covered x now u u taken sent → Covered x then then then taken sent
forgotten x now u then taken sent h c = record {
  order = omega arith;
  over = λ t a. c.over t (omega (arith, h, a));
  once = λ t. omega (arith, c.once t, within-none u t, within-none then t);
  solid = λ t a l. absurd (omega (arith, a, l));
}

-- what is still to be sent is sent
pub extended : (x : Row) (now cover until : ℕ) (taken sent : List Elem) (e : Elem) → e.tuple ≡ x
    → e.span.start ≡ cover → e.span.end ≡ until → Covered x now cover until taken sent
    → Covered x cover until until taken (sent ++ e ∷ [])
extended x now cover until taken sent e is from to c =
    let one : (t : ℕ) → copies x t (e ∷ []) ≡ within cover until t =
    λ t. copies-own x t e is ∙ ap (λ (a : ℕ). within a e.span.end t) from
    ∙ ap (λ (b : ℕ). within cover b t) to in
    record {
      order = omega arith;
      over = c.over;
      once = λ t. omega (
        arith,
        copies-append x t sent (e ∷ []),
        one t,
        c.once t,
        within-none until t,
      );
      solid = λ t a l. omega (
        arith,
        copies-append x t sent (e ∷ []),
        one t,
        c.once t,
        within-in cover until t a l,
      );
    }

-- one more element of the tuple: nothing is new below its start, nor where the tuple is valid
once-more : (now cover until n t x o : ℕ) → now ≤ cover → cover ≤ until
    → x + within cover until t ≡ min o 1 → (now ≤ t → t < cover → x ≡ 1) → (until ≤ t → o ≡ 0)
    → x + within cover (max until n) t ≡ min (o + within now n t) 1
once-more now cover until n t x o h l c solid none = elim (cases_lt t now) [
  | inl a ↦ (omega (
    arith,
    c,
    a,
    h,
    within-below cover until t (omega (arith, a, h)),
    within-below cover (max until n) t (omega (arith, a, h)),
    within-below now n t a,
  ))
  | inr a ↦ elim (cases_lt t cover) [
    | inl b ↦ (omega (
      arith,
      c,
      within-below cover until t b,
      within-below cover (max until n) t b,
      solid (omega (arith, a)) b,
    ))
    | inr b ↦ elim (cases_lt t until) [
      | inl d ↦ (omega (
        arith,
        c,
        within-in cover until t (omega (arith, b)) d,
        within-in cover (max until n) t (omega (arith, b)) (omega (arith, d)),
      ))
      | inr d ↦ elim (cases_lt t n) [
        | inl f ↦ (omega (
          arith,
          c,
          within-above cover until t (omega (arith, d)),
          none (omega (arith, d)),
          within-in cover (max until n) t (omega (arith, b)) (omega (arith, f)),
          within-in now n t (omega (arith, a)) f,
        ))
        | inr f ↦ (omega (
          arith,
          c,
          within-above cover until t (omega (arith, d)),
          none (omega (arith, d)),
          within-above cover (max until n) t (omega (arith, d, f)),
          within-above now n t (omega (arith, f)),
        ))
      ]
    ]
  ]
]

pub widened : (x : Row) (now cover until : ℕ) (taken sent : List Elem) (e : Elem) → e.tuple ≡ x
    → e.span.start ≡ now → now ≤ cover → Covered x now cover until taken sent
    → Covered x now cover (max until e.span.end) (taken ++ e ∷ []) sent
widened x now cover until taken sent e is from h c =
    let one : (t : ℕ) → copies x t (e ∷ []) ≡ within now e.span.end t =
    λ t. copies-own x t e is ∙ ap (λ (a : ℕ). within a e.span.end t) from in
    let order : cover ≤ until = c.order in
    record {
      order = omega (arith, order);
      over = λ t a. omega (
        arith,
        copies-append x t taken (e ∷ []),
        c.over t (omega (arith, a)),
        one t,
        within-above now e.span.end t (omega (arith, a)),
      );
      once = λ t.
          let a = copies-append x t taken (e ∷ []) in
          let b = one t in
          let d = once-more now cover until e.span.end t (copies x t sent) (copies x t taken) h
          order
          (c.once t) (c.solid t) (c.over t) in
          omega (arith, a, b, d);
      solid = c.solid;
    }

-- below its coverage a tuple was sent once where it is valid
pub sent-once : (x : Row) (now cover until t : ℕ) (taken sent : List Elem)
    → Covered x now cover until taken sent → t < cover
    → copies x t sent ≡ min (copies x t taken) 1
sent-once x now cover until t taken sent c h =
    omega (arith, c.once t, within-below cover until t h)
