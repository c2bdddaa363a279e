-- The coverage of all tuples, as elements come, are sent, and time passes.
use Rattle.std.proofs.Common.{◌≡◌, ℕ, ◌≤◌, ◌<◌, ◌+◌, Bool, true, false, cond, max, List, []}
use Rattle.std.proofs.Common.{◌∷◌, ◌++◌, Option, Some, None, refl, sym, ◌∙◌, ap, subst, arith, inl}
use Rattle.std.proofs.Common.{inr}
use Rattle.std.specs.List.{All}
use Rattle.std.proofs.lemmas.Bool.{cases_lt}
use Rattle.std.proofs.lemmas.List.Elements.{All-nil, All-cons, All-head, All-tail, All-append}
use Rattle.std.proofs.lemmas.List.Elements.{All-weaker, Contains-append_left, Contains-push}
use Rattle.pipes_tuple.specs.Equal.{tuple_eq}
use Rattle.pipes_tuple.proofs.Equality.{tuple_eq-Decides}
use Rattle.pipes_time.specs.Interval.{IsInterval}
use Rattle.pipes_stream.specs.declared.Elem.{Elem}
use Rattle.pipes_stream.specs.declared.message.Message.{Message}
use Rattle.pipes_stream.specs.declared.message.Message.TheVariants as message
use Rattle.pipes_stream.specs.Progress.{Progress}
use Rattle.pipes_stream.specs.Lists.{start_of_list, beat, elements}
use Rattle.pipes_stream.proofs.Messages.{run-push, valid-push, elements-append}
use Rattle.pipes_group.specs.declared.coverage.Slot.{Slot}
use Rattle.pipes_group.specs.Dues.{Due, Among, Joins}
use Rattle.pipes_group.specs.Covers.{Row, slot_of, Covered, CoveredBy, IsInOneOf, Backed, Lives}
use Rattle.pipes_group.specs.Covers.{CoverReaches, Sets}
use Rattle.pipes_group.specs.CoverLaw.{waited, forgotten, extended, widened, other-taken}
use Rattle.pipes_group.specs.CoverLaw.{other-sent}

abbrev IsPartOfTaken : List Elem → Elem → Type 0
IsPartOfTaken taken e = IsInOneOf taken e.tuple e.span.start e.span.end

same-is : (x : Row) → tuple_eq x x ≡ true
same-is x = (tuple_eq-Decides x x).1 refl

-- ---- one tuple's slot changes
module _ (x : Row) (w : Option Slot) (find new : Row → Option Slot) (sets : Sets x w find new) where
  own : new x ≡ w
  own = sets x ∙ ap (λ (b : Bool). cond b w (find x)) (same-is x)

  other : (q : Row) → tuple_eq x q ≡ false → new q ≡ find q
  other q n = sets q ∙ ap (λ (b : Bool). cond b w (find q)) n

  module _ (P : Row → Option Slot → Type 0) (mine : P x w)
      (others : (q : Row) → tuple_eq x q ≡ false → P q (find q)) where
    at : (b : Bool) (q : Row) → tuple_eq x q ≡ b → P q (new q)
    at true q e = subst (λ (r : Row). P r (new r)) ((tuple_eq-Decides x q).0 e)
        (subst (P x) (sym own) mine)
    at false q e = subst (P q) (sym (other q e)) (others q e)

    pub each-set : (q : Row) → P q (new q)
    each-set q = at (tuple_eq x q) q refl

-- what a slot owes
abbrev Owes : List Due → ℕ → List Elem → Row → Option Slot → Type 0
Owes dues now taken q o = (s : Slot) → o ≡ Some s → Backed q s now taken × Among (s.cover, q) dues

pub lives-set : (x : Row) (w : Option Slot) (find new : Row → Option Slot) (dues : List Due)
    (now : ℕ) (taken sent : List Elem) → Sets x w find new
    → CoveredBy x now w taken sent → Owes dues now taken x w
    → ((q : Row) → tuple_eq x q ≡ false → CoveredBy q now (find q) taken sent)
    → ((q : Row) → tuple_eq x q ≡ false → Owes dues now taken q (find q))
    → All (IsPartOfTaken taken) sent → Lives new dues now taken sent
lives-set x w find new dues now taken sent sets mine owes theirs owe parts =
    let each = each-set x w find new sets (Owes dues now taken) owes owe in
    record {
      covered = each-set x w find new sets (λ (q : Row) (o : Option Slot). CoveredBy q now o taken
          sent) mine theirs;
      backed = λ q s e. (each q s e).0;
      queued = λ q s e. (each q s e).1;
      parts = parts;
    }

-- ---- time passes
pub by-waited : (x : Row) (now then : ℕ) (o : Option Slot) (taken sent : List Elem) → now ≤ then
    → CoveredBy x now o taken sent → CoveredBy x then o taken sent
by-waited x now then None taken sent h c = forgotten x now now then taken sent h c
by-waited x now then (Some s) taken sent h c = waited x now then s.cover s.until taken sent h c

by-taken : (x : Row) (now : ℕ) (o : Option Slot) (taken sent : List Elem) (e : Elem)
    → tuple_eq e.tuple x ≡ false → CoveredBy x now o taken sent
    → CoveredBy x now o (taken ++ e ∷ []) sent
by-taken x now None taken sent e n c = other-taken x now now now taken sent e n c
by-taken x now (Some s) taken sent e n c = other-taken x now s.cover s.until taken sent e n c

by-sent : (x : Row) (now : ℕ) (o : Option Slot) (taken sent : List Elem) (e : Elem)
    → tuple_eq e.tuple x ≡ false → CoveredBy x now o taken sent
    → CoveredBy x now o taken (sent ++ e ∷ [])
by-sent x now None taken sent e n c = other-sent x now now now taken sent e n c
by-sent x now (Some s) taken sent e n c = other-sent x now s.cover s.until taken sent e n c

pub backed-later : (x : Row) (s : Slot) (now then : ℕ) (taken : List Elem) → then ≤ s.cover
    → Backed x s now taken → Backed x s then taken
backed-later x s now then taken h b = record { late = h; most = b.most; source = b.source }

part-more : (taken : List Elem) (e : Elem) (x : Row) (a b : ℕ) → IsInOneOf taken x a b
    → IsInOneOf (taken ++ e ∷ []) x a b
part-more taken e x a b p = (p.0, Contains-append_left taken (e ∷ []) p.0 p.1, p.2, p.3, p.4)

part-own : (taken : List Elem) (e : Elem) (a b : ℕ) → e.span.start ≤ a → b ≤ e.span.end
    → IsInOneOf (taken ++ e ∷ []) e.tuple a b
part-own taken e a b h l = (e, Contains-push taken e, refl, h, l)

-- ---- what is due
-- those that are due lie no earlier than the first
among-late : (c : ℕ) (d : Due) (dues : List Due) → All (λ x. c ≤ x.0) dues → Among d dues → c ≤ d.0
among-late c d [] all h = absurd h
among-late c d (x ∷ xs) all h = elim h [
  | inl e ↦ subst (λ (y : Due). c ≤ y.0) (sym e) (All-head (λ (y : Due). c ≤ y.0) x xs all)
  | inr l ↦ among-late c d xs (All-tail (λ (y : Due). c ≤ y.0) x xs all) l
]

among-tail : (d x : Due) (xs : List Due) → (d ≡ x → ⊥) → Among d (x ∷ xs) → Among d xs
among-tail d x xs n h = elim h [ inl e ↦ absurd (n e) | inr l ↦ l ]

apart : (x q : Row) → tuple_eq x q ≡ false → q ≡ x → ⊥
apart x q n e = let a : tuple_eq x q ≡ true = (tuple_eq-Decides x q).1 (sym e) in
    absurd (let f : false ≡ true = sym n ∙ a in cc)

second : (c d : ℕ) (x q : Row) → ◌≡◌ {A = Due} (c, q) (d, x) → q ≡ x
second c d x q h = ap (λ (p : Due). p.1) h

first : (c d : ℕ) (x q : Row) → ◌≡◌ {A = Due} (c, q) (d, x) → c ≡ d
first c d x q h = ap (λ (p : Due). p.0) h

-- another tuple's slot, once this one was taken from what is due and time passed to it
owes-still : (x : Row) (c now : ℕ) (find : Row → Option Slot) (rest dues : List Due)
    (taken sent : List Elem) → Lives find ((c, x) ∷ rest) now taken sent
    → All (λ d. c ≤ d.0) rest → ((d : Due) → Among d rest → Among d dues)
    → (q : Row) → tuple_eq x q ≡ false → Owes dues c taken q (find q)
owes-still x c now find rest dues taken sent l all kept q n = λ s e.
    let there : Among (s.cover, q) rest = among-tail (s.cover, q) (c, x) rest
    (λ h. apart x q n (second s.cover c x q h)) (l.queued q s e) in (
      backed-later q s now c taken (among-late c (s.cover, q) rest all there) (l.backed q s e),
      kept (s.cover, q) there,
    )

-- the slot was dropped: it is covered as far as it is to be
pub lives-dropped : (x : Row) (s : Slot) (c now : ℕ) (find new : Row → Option Slot)
    (rest : List Due) (taken sent : List Elem) → Lives find ((c, x) ∷ rest) now taken sent
    → All (λ d. c ≤ d.0) rest → find x ≡ Some s → s.cover ≡ c → s.until ≤ c
    → Sets x None find new → Lives new rest c taken sent
lives-dropped x s c now find new rest taken sent l all there is ends sets =
    let b = l.backed x s there in
    let late : now ≤ s.cover = b.late in
    let mine : Covered x now s.cover s.until taken sent =
    subst (λ (o : Option Slot). CoveredBy x now o taken sent) there (l.covered x) in
    let order : s.cover ≤ s.until = mine.order in
    let alike : s.until ≡ s.cover = omega (arith, ends, is, order) in
    lives-set x None find new rest c taken sent sets
    (forgotten x now s.cover c taken sent (omega (arith, is))
    (subst (λ (u : ℕ). Covered x now s.cover u taken sent) alike mine))
    (λ s e. absurd cc)
    (λ q n. by-waited q now c (find q) taken sent (omega (arith, late, is)) (l.covered q))
    (owes-still x c now find rest rest taken sent l all (λ d h. h)) l.parts

-- the rest was sent
pub lives-extended : (e : Elem) (s : Slot) (now : ℕ) (find new : Row → Option Slot)
    (rest dues : List Due) (taken sent : List Elem)
    → Lives find ((e.span.start, e.tuple) ∷ rest) now taken sent
    → All (λ d. e.span.start ≤ d.0) rest → find e.tuple ≡ Some s → s.cover ≡ e.span.start
    → s.until ≡ e.span.end → Joins (e.span.end, e.tuple) rest dues
    → Sets e.tuple (Some (slot_of e.span.end e.span.end)) find new
    → Lives new dues e.span.start taken (sent ++ e ∷ [])
lives-extended e s now find new rest dues taken sent l all there is ends joins sets =
    let x : Row = e.tuple in
    let b = l.backed x s there in
    let late : now ≤ s.cover = b.late in
    let mine : Covered x now s.cover s.until taken sent =
    subst (λ (o : Option Slot). CoveredBy x now o taken sent) there (l.covered x) in
    let order : s.cover ≤ s.until = mine.order in
    let went = extended x now s.cover s.until taken sent e refl (sym is) (sym ends) mine in
    let here = subst (λ (u : ℕ). Covered x s.cover u u taken (sent ++ e ∷ [])) ends went in
    let covered = subst (λ (c : ℕ). Covered x c e.span.end e.span.end taken (sent ++ e ∷ [])) is
    here in
    let src = b.source in
    let from : src.0.span.start ≤ s.cover = src.3 in
    let to : s.until ≤ src.0.span.end = src.4 in
    let most : s.until ≤ 1000000000000000 = b.most in
    lives-set x (Some (slot_of e.span.end e.span.end)) find new dues e.span.start taken
    (sent ++ e ∷ []) sets
    covered
    (λ n h. let same : slot_of e.span.end e.span.end ≡ n = cc in
    subst (λ (n : Slot). Backed x n e.span.start taken × Among (n.cover, x) dues) same (
      record {
        late = omega (arith, is, ends, order);
        most = omega (arith, most, ends);
        source = (src.0, src.1, src.2, omega (arith, from, order, ends), omega (arith, to, ends));
      },
      joins.there,
    ))
    (λ q n. by-sent q e.span.start (find q) taken sent e n
    (by-waited q now e.span.start (find q) taken sent (omega (arith, late, is)) (l.covered q)))
    (owes-still x e.span.start now find rest dues taken sent l all joins.kept)
    (All-append (IsPartOfTaken taken) sent (e ∷ []) l.parts
    (All-cons (IsPartOfTaken taken) e []
    (src.0, src.1, src.2, omega (arith, from, is), omega (arith, to, ends))
    (All-nil (IsPartOfTaken taken))))

-- what was due is due no longer
pub lives-stale : (x : Row) (c now : ℕ) (find : Row → Option Slot) (rest : List Due)
    (taken sent : List Elem) → Lives find ((c, x) ∷ rest) now taken sent
    → ((s : Slot) → find x ≡ Some s → s.cover ≡ c → ⊥) → Lives find rest now taken sent
lives-stale x c now find rest taken sent l stale = record {
  covered = l.covered;
  backed = l.backed;
  queued = λ q s e. among-tail (s.cover, q) (c, x) rest
      (λ h. stale s (subst (λ (r : Row). find r ≡ Some s) (second s.cover c x q h) e)
      (first s.cover c x q h)) (l.queued q s e);
  parts = l.parts;
}

-- nothing is due up to an instant
pub lives-waited : (now then : ℕ) (find : Row → Option Slot) (dues : List Due)
    (taken sent : List Elem) → now ≤ then → All (λ d. then < d.0) dues
    → Lives find dues now taken sent → Lives find dues then taken sent
lives-waited now then find dues taken sent h all l = record {
  covered = λ q. by-waited q now then (find q) taken sent h (l.covered q);
  backed = λ q s e. backed-later q s now then taken
      (let a : then + 1 ≤ s.cover = among-late (then + 1) (s.cover, q) dues
      (All-weaker (λ (d : Due). then < d.0) (λ (d : Due). then + 1 ≤ d.0)
      (λ d l. omega (arith, l)) dues all) (l.queued q s e) in omega (arith, a)) (l.backed q s e);
  queued = l.queued;
  parts = l.parts;
}

-- then each slot lies later
pub slots-later : (now : ℕ) (find : Row → Option Slot) (dues : List Due) (taken sent : List Elem)
    → All (λ d. now < d.0) dues → Lives find dues now taken sent
    → (q : Row) (s : Slot) → find q ≡ Some s → now < s.cover
slots-later now find dues taken sent all l q s e =
    let a : now + 1 ≤ s.cover = among-late (now + 1) (s.cover, q) dues
    (All-weaker (λ (d : Due). now < d.0) (λ (d : Due). now + 1 ≤ d.0)
    (λ d l. omega (arith, l)) dues all) (l.queued q s e) in omega (arith, a)

-- ---- an element comes
owes-more : (find : Row → Option Slot) (before dues : List Due) (now : ℕ) (taken sent : List Elem)
    (e : Elem) → Lives find before now taken sent → ((d : Due) → Among d before → Among d dues)
    → (q : Row) → Owes dues now (taken ++ e ∷ []) q (find q)
owes-more find before dues now taken sent e l kept q = λ s h.
    let b = l.backed q s h in (
      record {
        late = b.late;
        most = b.most;
        source = part-more taken e q s.cover s.until
            b.source;
      },
      kept (s.cover, q) (l.queued q s h),
    )

parts-more : (taken sent : List Elem) (e : Elem) → All (IsPartOfTaken taken) sent
    → All (IsPartOfTaken (taken ++ e ∷ [])) sent
parts-more taken sent e all = All-weaker (IsPartOfTaken taken) (IsPartOfTaken (taken ++ e ∷ []))
    (λ d p. part-more taken e d.tuple d.span.start d.span.end p) sent all

-- and its tuple has no slot
pub lives-entered : (e : Elem) (find new : Row → Option Slot) (before dues : List Due)
    (taken sent : List Elem) → IsInterval e.span.start e.span.end
    → Lives find before e.span.start taken sent → find e.tuple ≡ None
    → Joins (e.span.end, e.tuple) before dues
    → Sets e.tuple (Some (slot_of e.span.end e.span.end)) find new
    → Lives new dues e.span.start (taken ++ e ∷ []) (sent ++ e ∷ [])
lives-entered e find new before dues taken sent inside l none joins sets =
    let x : Row = e.tuple in
    let now : ℕ = e.span.start in
    let rises : e.span.start < e.span.end = inside.0 in
    let most : e.span.end ≤ 1000000000000000 = inside.1 in
    let mine : Covered x now now now taken sent =
    subst (λ (o : Option Slot). CoveredBy x now o taken sent) none (l.covered x) in
    let wide = widened x now now now taken sent e refl refl (omega arith) mine in
    let far : max now e.span.end ≡ e.span.end = omega (arith, rises) in
    let wide' = subst (λ (u : ℕ). Covered x now now u (taken ++ e ∷ []) sent) far wide in
    let covered = extended x now now e.span.end (taken ++ e ∷ []) sent e refl refl refl wide' in
    lives-set x (Some (slot_of e.span.end e.span.end)) find new dues now (taken ++ e ∷ [])
    (sent ++ e ∷ []) sets
    covered
    (λ n h. let same : slot_of e.span.end e.span.end ≡ n = cc in
    subst (λ (n : Slot). Backed x n now (taken ++ e ∷ []) × Among (n.cover, x) dues) same (
      record {
        late = omega (arith, rises);
        most = most;
        source = part-own taken e e.span.end e.span.end (omega (arith, rises)) (omega arith);
      },
      joins.there,
    ))
    (λ q n. by-sent q now (find q) (taken ++ e ∷ []) sent e n
    (by-taken q now (find q) taken sent e n (l.covered q)))
    (λ q n. owes-more find before dues now taken sent e l joins.kept q)
    (All-append (IsPartOfTaken (taken ++ e ∷ [])) sent (e ∷ []) (parts-more taken sent e l.parts)
    (All-cons (IsPartOfTaken (taken ++ e ∷ [])) e []
    (part-own taken e e.span.start e.span.end (omega arith) (omega arith))
    (All-nil (IsPartOfTaken (taken ++ e ∷ [])))))

further : (taken : List Elem) (e : Elem) (cover until : ℕ) → e.span.start ≤ cover
    → IsInOneOf taken e.tuple cover until
    → IsInOneOf (taken ++ e ∷ []) e.tuple cover (max until e.span.end)
further taken e cover until h p = elim (cases_lt until e.span.end) [
  | inl l ↦ (let same : e.span.end ≡ max until e.span.end = omega (arith, l) in
      subst (IsInOneOf (taken ++ e ∷ []) e.tuple cover) same
      (part-own taken e cover e.span.end h (omega arith)))
  | inr l ↦ (let same : until ≡ max until e.span.end = omega (arith, l) in
      subst (IsInOneOf (taken ++ e ∷ []) e.tuple cover) same
      (part-more taken e e.tuple cover until p))
]

-- and its tuple has one
pub lives-widened : (e : Elem) (s : Slot) (find new : Row → Option Slot) (dues : List Due)
    (taken sent : List Elem) → IsInterval e.span.start e.span.end
    → Lives find dues e.span.start taken sent → find e.tuple ≡ Some s
    → Sets e.tuple (Some (slot_of s.cover (max s.until e.span.end))) find new
    → Lives new dues e.span.start (taken ++ e ∷ []) sent
lives-widened e s find new dues taken sent inside l there sets =
    let x : Row = e.tuple in
    let now : ℕ = e.span.start in
    let b = l.backed x s there in
    let late : now ≤ s.cover = b.late in
    let kept : s.until ≤ 1000000000000000 = b.most in
    let most : e.span.end ≤ 1000000000000000 = inside.1 in
    let mine : Covered x now s.cover s.until taken sent =
    subst (λ (o : Option Slot). CoveredBy x now o taken sent) there (l.covered x) in
    let covered = widened x now s.cover s.until taken sent e refl refl late mine in
    lives-set x (Some (slot_of s.cover (max s.until e.span.end))) find new dues now
    (taken ++ e ∷ []) sent sets
    covered
    (λ n h. let same : slot_of s.cover (max s.until e.span.end) ≡ n = cc in
    subst (λ (n : Slot). Backed x n now (taken ++ e ∷ []) × Among (n.cover, x) dues) same (
      record {
        late = late;
        most = omega (arith, kept, most);
        source = further taken e s.cover s.until late b.source;
      },
      l.queued x s there,
    ))
    (λ q n. by-taken q now (find q) taken sent e n (l.covered q))
    (λ q n. owes-more find dues dues now taken sent e l (λ d h. h) q)
    (parts-more taken sent e l.parts)

-- ---- the list sent
-- an element that starts no earlier than the list has come
pub reaches-elem : (now : ℕ) (sent : List Message) (e : Elem) → CoverReaches now sent
    → now ≤ e.span.start → IsInterval e.span.start e.span.end
    → CoverReaches e.span.start (sent ++ message.Elem e ∷ [])
reaches-elem now sent e r h inside =
    let at_most : beat sent ≤ now = r.at_most in
    let ran = run-push start_of_list sent (message.Elem e) in
    record {
      valid = valid-push start_of_list sent (message.Elem e) r.valid
          (r.going, omega (arith, at_most, h), inside);
      going = ap (λ (p : Progress). p.ended) ran ∙ r.going;
      at_most = let same : beat (sent ++ message.Elem e ∷ []) ≡ e.span.start =
          ap (λ (p : Progress). p.beat) ran in omega (arith, same);
    }

pub reaches-later : (now then : ℕ) (sent : List Message) → now ≤ then → CoverReaches now sent
    → CoverReaches then sent
reaches-later now then sent h r = record {
  valid = r.valid;
  going = r.going;
  at_most = let at_most : beat sent ≤ now = r.at_most in omega (arith, at_most, h);
}

pub elements-pushed : (sent : List Message) (e : Elem)
    → elements (sent ++ message.Elem e ∷ []) ≡ elements sent ++ e ∷ []
elements-pushed sent e = elements-append sent (message.Elem e ∷ [])
