-- The elements' changes are settled one by one, and elements are added.
use Rattle.std.proofs.Common.{◌≡◌, ◌≢◌, ◌⊎◌, ℕ, ◌+◌, ◌≤◌, ◌<◌, Bool, true, false, ◌&&◌, cond, List}
use Rattle.std.proofs.Common.{[], ◌∷◌, ◌++◌, Option, Some, None, refl, sym, ◌∙◌, ap, subst, arith}
use Rattle.std.proofs.Common.{inl, inr, append_assoc, append-nil}
use Rattle.std.specs.Prelude.{◌==◌, nat_lt}
use Rattle.std.specs.Map.{lookup}
use Rattle.std.specs.List.{flat_map}
use Rattle.std.specs.BTreeMap.{get, is_at}
use Rattle.std.specs.HashMap as hash
use Rattle.std.proofs.lemmas.Bool.{cases_lt, cases_eq, cond-true}
use Rattle.std.proofs.lemmas.Bool.Decides.{nat_tests}
use Rattle.std.proofs.lemmas.List.Elements.{All-append, All-cons, All-nil}
use Rattle.pipes_time.specs.Interval.{horizon}
use Rattle.pipes_tuple.specs.declared.value.Value.{Value}
use Rattle.pipes_tuple.specs.Equal.{tuple_eq}
use Rattle.pipes_tuple.proofs.Equality.{tuple_eq-Decides}
use Rattle.pipes_stream.specs.declared.Elem.{Elem}
use Rattle.pipes_output.specs.Periods.{Period}
use Rattle.pipes_settled.specs.declared.settled.Change.{Change}
use Rattle.pipes_settled.specs.declared.settled.Settled.{Settled}
use Rattle.pipes_settled.specs.declared.pieces.Pieces.{Pieces}
use Rattle.pipes_output.specs.NormalText.{period_line}
use Rattle.pipes_settled.specs.Certainty.{StartFrom}
use Rattle.pipes_settled.specs.Standing.{Gives, Waits, AreSettled, IsPending, LevelIs}
use Rattle.pipes_settled.specs.Standing.{PiecesSettled, Stands, at_cmp, piece_cmp, begins_of}
use Rattle.pipes_settled.specs.Standing.{ends_of, number, starts_at, ends_at}
use Rattle.pipes_settled.specs.Moves.{GivesFrom, GivesLines, IsLimit, is_past, LeavesFirst}
use Rattle.pipes_settled.specs.Moves.{BeginsPiece, EndsPiece, IsAdded, IsNext, IsSettledTo}
use Rattle.pipes_settled.specs.Moves.{IsSettling, TurnsAt, copies_of}
use Rattle.pipes_output.proofs.Elements.{IsElem}
use Rattle.pipes_settled.proofs.Leveling.{IsFlat, level-first, level-last}
use Rattle.pipes_settled.proofs.Instants.{number-flat, number-last, number-turns, number-agrees}
use Rattle.pipes_settled.proofs.Instants.{starts-more, ends-more}
use Rattle.pipes_settled.proofs.Moving.{Tuple, cases-tuple, settled-agree, settled-raise}
use Rattle.pipes_settled.proofs.Moving.{settled-stays, settled-gives, settled-turns, turns-within}
use Rattle.pipes_settled.proofs.Certain.{certain}
use Rattle.std.proofs.lemmas.List.Concat.{flat_map-append}

-- the turn of a tuple whose number stays
pub turn-stays : (pieces : Pieces) (at : ℕ) (tuple : Tuple) (begins ends now : ℕ)
    → now + ends ≡ copies_of (hash.get tuple_eq pieces.levels tuple) + begins
    → now ≡ copies_of (hash.get tuple_eq pieces.levels tuple)
    → TurnsAt pieces pieces at tuple begins ends
turn-stays pieces at tuple begins ends now counted stays f until later given s here step zeros next
    others =
    settled-stays f until later given _ _ _ tuple at s here (omega (arith, step, counted, stays))
    zeros next others

-- and of one whose number turns
pub turn-turns : (old between new : Pieces) (at : ℕ) (tuple : Tuple) (begins ends now : ℕ)
    → now + ends ≡ copies_of (hash.get tuple_eq old.levels tuple) + begins
    → now ≢ copies_of (hash.get tuple_eq old.levels tuple)
    → between.levels ≡ old.levels → EndsPiece (hash.get tuple_eq old.levels tuple) at tuple
    (get at_cmp old.opens) (get at_cmp between.opens) (get piece_cmp old.closed)
    (get piece_cmp between.closed)
    → new.closed ≡ between.closed → BeginsPiece now at tuple (hash.get tuple_eq between.levels)
    (hash.get tuple_eq new.levels) (get at_cmp between.opens) (get at_cmp new.opens)
    → TurnsAt old new at tuple begins ends
turn-turns old between new at tuple begins ends now counted turns levels done shut begun f until
    later given s here step zeros next others =
    let is : f tuple at ≡ now = omega (arith, step, counted) in
    let level : LevelIs (f tuple) at (hash.get tuple_eq old.levels tuple) = subst
    (λ n. LevelIs (f tuple) n (hash.get tuple_eq old.levels tuple)) here (s.levels tuple) in
    let started : BeginsPiece now at tuple (hash.get tuple_eq old.levels)
    (hash.get tuple_eq new.levels) (get at_cmp between.opens) (get at_cmp new.opens) = subst
    (λ m. BeginsPiece now at tuple (hash.get tuple_eq m) (hash.get tuple_eq new.levels)
    (get at_cmp between.opens) (get at_cmp new.opens)) levels begun in
    subst (λ m. AreSettled f later given (hash.get tuple_eq new.levels) (get at_cmp new.opens)
    (get piece_cmp m)) (sym shut)
    (settled-turns f until later given (hash.get tuple_eq old.levels) (hash.get tuple_eq new.levels)
    (get at_cmp old.opens) (get at_cmp between.opens) (get at_cmp new.opens)
    (get piece_cmp old.closed) (get piece_cmp between.closed) tuple at now s
    (record {
      here = here;
      most = turns-within (f tuple) at now _ level is turns (zeros tuple);
      is =
          is;
      turns = turns;
      next = next;
      others = others;
      ends = done;
      begins = started;
    }))

-- `until`, with another instant for one tuple
raised : (Tuple → ℕ) → Tuple → ℕ → Tuple → ℕ
raised until tuple n v = cond (tuple_eq v tuple) n (until v)

raised-here : (until : Tuple → ℕ) (tuple : Tuple) (n : ℕ) → raised until tuple n tuple ≡ n
unfolding raised
raised-here until tuple n = cond-true (tuple_eq tuple tuple) n (until tuple)
    ((tuple_eq-Decides tuple tuple).1 refl)

raised-others : (until : Tuple → ℕ) (tuple : Tuple) (n : ℕ) (v : Tuple) → v ≢ tuple
    → raised until tuple n v ≡ until v
unfolding raised
raised-others until tuple n v apart = by (tuple_eq v tuple) (tuple_eq-Decides v tuple).0
  where
    by : (b : Bool) → (b ≡ true → v ≡ tuple) → cond b n (until v) ≡ until v
    by true is = absurd (apart (is refl))
    by false is = refl

some-none : {X : Type 0} (x : X) → ◌≡◌ {A = Option X} (Some x) None → ⊥
some-none x e = absurd (cc)

pub settling-first : (elems : List Elem) (from h : ℕ) (given : List Period) (settled : Settled)
    → from ≤ h → IsSettledTo elems from given settled → IsSettling elems from h given settled
settling-first elems from h given settled le s = record {
  until = λ v. from;
  low = λ v. omega arith;
  high = λ v. le;
  intervals = s.intervals;
  pending = s.pending;
  pieces = s.pieces;
}

-- one change is settled
module _ (elems : List Elem) (from h : ℕ) (given : List Period) (old new : Settled) (at : ℕ)
    (tuple : Tuple) (change : Change) (s : IsSettling elems from h given old)
    (next : IsNext at tuple change (get at_cmp old.changes) (get at_cmp new.changes))
    (below : at < h) (turn : TurnsAt old.pieces new.pieces at tuple change.begins change.ends) where
  reached : s.until tuple ≤ at
  reached = elim (cases_lt at (s.until tuple)) [
    | inl k ↦ absurd (some-none change (sym next.first ∙ s.pending.past at tuple k))
    | inr k ↦ k
  ]

  -- nothing is there before the first change
  before : (t : ℕ) (v : Tuple) → t < at → get at_cmp old.changes (t, v) ≡ None
  before t v k = by (get at_cmp old.changes (t, v)) refl
    where
      by : (o : Option Change) → o ≡ get at_cmp old.changes (t, v)
          → get at_cmp old.changes (t, v) ≡ None
      by None e = sym e
      by (Some c) e = let l : at ≤ t = next.least t v c (sym e) in absurd (omega arith)

  middle : Tuple → ℕ
  middle = raised s.until tuple at

  after : Tuple → ℕ
  after = raised s.until tuple (at + 1)

  middle-up : (v : Tuple) → s.until v ≤ middle v
  unfolding middle
  middle-up v = elim (cases-tuple v tuple) [
    | inl e ↦ subst (λ w. s.until w ≤ raised s.until tuple at w) (sym e)
        (omega (arith, raised-here s.until tuple at, reached))
    | inr n ↦ omega (arith, raised-others s.until tuple at v n)
  ]

  middle-flat : (v : Tuple) (t : ℕ) → s.until v ≤ t → t < middle v → IsFlat (number elems v) t
  unfolding middle
  middle-flat v t k l = elim (cases-tuple v tuple) [
    | inl e ↦
        (let m : raised s.until tuple at v ≡ at = ap (raised s.until tuple at) e ∙ raised-here
        s.until tuple at in
        number-flat elems s.intervals s.until (get at_cmp old.changes) s.pending v t k
        (before t v (omega (arith, m, l))))
    | inr n ↦ absurd (omega (arith, raised-others s.until tuple at v n))
  ]

  zeros : (v : Tuple) (t : ℕ) → horizon ≤ t → number elems v t ≡ 0
  zeros v t k = number-last elems s.intervals v t k

  in_between : PiecesSettled (number elems) middle given old.pieces
  in_between = settled-raise (number elems) s.until middle given _ _ _ middle-up middle-flat zeros
      s.pieces

  level-here : LevelIs (number elems tuple) at (hash.get tuple_eq old.pieces.levels tuple)
  unfolding middle
  level-here = subst (λ n. LevelIs (number elems tuple) n (hash.get tuple_eq old.pieces.levels
      tuple)) (raised-here s.until tuple at) (in_between.levels tuple)

  counted : number elems tuple at + change.ends ≡ copies_of (hash.get tuple_eq old.pieces.levels
      tuple) + change.begins
  counted =
      let b : change.begins ≡ starts_at elems tuple at = sym (ap begins_of next.first)
      ∙ s.pending.begins at tuple reached in
      let e : change.ends ≡ ends_at elems tuple at = sym (ap ends_of next.first) ∙ s.pending.ends at
      tuple reached in
      let n = number-turns elems s.intervals tuple at
      (copies_of (hash.get tuple_eq old.pieces.levels tuple))
      (λ z. level-first (number elems tuple) at (hash.get tuple_eq old.pieces.levels tuple)
      level-here z)
      (λ k. level-last (number elems tuple) at (hash.get tuple_eq old.pieces.levels tuple)
      level-here k) in
      omega (arith, n, b, e)

  pieces-after : PiecesSettled (number elems) after given new.pieces
  unfolding middle after
  pieces-after = turn (number elems) middle after given in_between (raised-here s.until tuple at)
      counted zeros (raised-here s.until tuple (at + 1))
      (λ v n. raised-others s.until tuple (at + 1) v n ∙ sym (raised-others s.until tuple at v n))

  after-up : (v : Tuple) → s.until v ≤ after v
  unfolding after
  after-up v = elim (cases-tuple v tuple) [
    | inl e ↦ subst (λ w. s.until w ≤ raised s.until tuple (at + 1) w) (sym e)
        (omega (arith, raised-here s.until tuple (at + 1), reached))
    | inr n ↦ omega (arith, raised-others s.until tuple (at + 1) v n)
  ]

  after-high : (v : Tuple) → after v ≤ h
  unfolding after
  after-high v = elim (cases-tuple v tuple) [
    | inl e ↦ subst (λ w. raised s.until tuple (at + 1) w ≤ h) (sym e)
        (omega (arith, raised-here s.until tuple (at + 1)))
    | inr n ↦ (let k : s.until v ≤ h = s.high v in omega (
      arith,
      raised-others s.until tuple
          (at + 1) v n,
    ))
  ]

  -- the key is not one that is still to come
  still : (t : ℕ) (v : Tuple) → after v ≤ t → get at_cmp new.changes (t, v) ≡ get at_cmp old.changes
      (t, v)
  unfolding after
  still t v k = next.gone.others (t, v) (λ q. apart (ap (λ (x : ℕ × Tuple). x.0) q)
      (ap (λ (x : ℕ × Tuple). x.1) q))
    where
      apart : t ≡ at → v ≡ tuple → ⊥
      apart x y =
          let m : raised s.until tuple (at + 1) v ≡ at + 1 = ap (raised s.until tuple (at + 1)) y
          ∙ raised-here s.until tuple (at + 1) in
          omega (arith, m, k, x)

  past-after : (t : ℕ) (v : Tuple) → t < after v → get at_cmp new.changes (t, v) ≡ None
  unfolding after
  past-after t v k = elim (cases-tuple v tuple) [
    | inl e ↦
        (let m : raised s.until tuple (at + 1) v ≡ at + 1 = ap (raised s.until tuple (at + 1)) e
        ∙ raised-here s.until tuple (at + 1) in
        elim (cases_eq t at) [
          | inl x ↦ subst (λ q. get at_cmp new.changes q ≡ None) (λ i. (sym x i, sym e i))
              next.gone.here
          | inr x ↦ next.gone.others (t, v) (λ q. x (ap (λ (x : ℕ × Tuple). x.0) q)) ∙ before t v
              (low t at (raised s.until tuple (at + 1) v) m k x)
        ])
    | inr n ↦ next.gone.others (t, v) (λ q. n (ap (λ (x : ℕ × Tuple). x.1) q)) ∙ s.pending.past t v
        (omega (arith, k, raised-others s.until tuple (at + 1) v n))
  ]
    where
      low : (t at u : ℕ) → u ≡ at + 1 → t < u → t ≢ at → t < at
      low t at u e k n = elim (cases_lt t at) [ inl l ↦ l | inr l ↦ absurd (n (omega arith)) ]

  pub settling-next : IsSettling elems from h given new
  settling-next = record {
    until = after;
    low = λ v. (let a : from ≤ s.until v = s.low v in let b : s.until v ≤ after v = after-up v in
        omega arith);
    high = after-high;
    intervals = s.intervals;
    pending = record {
      begins = λ t v k. (let b : s.until v ≤ after v = after-up v in ap begins_of (still t v k)
          ∙ s.pending.begins t v (omega arith));
      ends = λ t v k. (let b : s.until v ≤ after v = after-up v in ap ends_of (still t v k)
          ∙ s.pending.ends t v (omega arith));
      past = past-after;
    };
    pieces = pieces-after;
  }

-- no change is left before h
pub settling-last : (elems : List Elem) (from h : ℕ) (given : List Period) (settled : Settled)
    → IsSettling elems from h given settled
    → ((t : ℕ) (v : Tuple) (c : Change) → get at_cmp settled.changes (t, v) ≡ Some c → h ≤ t)
    → IsSettledTo elems h given settled
settling-last elems from h given settled s none = record {
  intervals = s.intervals;
  pending = record {
    begins = λ t v k. (let b : s.until v ≤ h = s.high v in s.pending.begins t v (omega arith));
    ends = λ t v k. (let b : s.until v ≤ h = s.high v in s.pending.ends t v (omega arith));
    past = past;
  };
  pieces = settled-raise (number elems) s.until (λ v. h) given _ _ _ s.high
      (λ v t k l. number-flat elems s.intervals s.until (get at_cmp settled.changes) s.pending v t k
      (past t v l)) (λ v t k. number-last elems s.intervals v t k) s.pieces;
}
  where
    past : (t : ℕ) (v : Tuple) → t < h → get at_cmp settled.changes (t, v) ≡ None
    past t v k = by (get at_cmp settled.changes (t, v)) refl
      where
        by : (o : Option Change) → o ≡ get at_cmp settled.changes (t, v)
            → get at_cmp settled.changes (t, v) ≡ None
        by None e = sym e
        by (Some c) e = let l : h ≤ t = none t v c (sym e) in absurd (omega arith)

-- One element more.
module _ (elems : List Elem) (e : Elem) (until : ℕ) (p p1 p2 : ℕ × Tuple → Option Change)
    (pending : IsPending elems (λ v. until) p) (begun : IsAdded 1 0 (e.span.start, e.tuple) p p1)
    (done : IsAdded 0 1 (e.span.end, e.tuple) p1 p2) (interval : IsElem e)
    (late : until ≤ e.span.start) where
  counts : (begins ends a : ℕ) (old new : ℕ × Tuple → Option Change) (d : IsAdded begins ends
      (a, e.tuple) old new) (t : ℕ) (v : Tuple) → (begins_of (new (t, v)) ≡ begins_of (old (t, v))
      + cond (tuple_eq e.tuple v && (a == t)) begins 0) × (ends_of (new (t, v)) ≡ ends_of
      (old (t, v)) + cond (tuple_eq e.tuple v && (a == t)) ends 0)
  counts begins ends a old new d t v = by (tuple_eq e.tuple v) (tuple_eq-Decides e.tuple v)
      (cases_eq a t)
    where
      eq : a ≡ t → (a == t) ≡ true
      eq x = grind (arith, nat_tests)

      ne : a ≢ t → (a == t) ≡ false
      ne x = grind (arith, nat_tests)

      one : (b : Bool) (n : ℕ) → b ≡ true → cond {A = ℕ} (true && b) n 0 ≡ n
      one b n h = rw h refl

      none : (b : Bool) (n : ℕ) → b ≡ false → cond {A = ℕ} (true && b) n 0 ≡ 0
      none b n h = rw h refl

      by : (b : Bool) → (b ≡ true → e.tuple ≡ v) × (e.tuple ≡ v → b ≡ true) → (a ≡ t) ⊎ (a ≢ t)
          → (begins_of (new (t, v)) ≡ begins_of (old (t, v)) + cond (b && (a == t)) begins 0)
          × (ends_of (new (t, v)) ≡ ends_of (old (t, v)) + cond (b && (a == t)) ends 0)
      by false h k =
          let same = d.put.others (t, v) (λ q. cc (h.1 (sym (ap (λ (x : ℕ × Tuple). x.1) q)))) in
          (omega (arith, ap begins_of same), omega (arith, ap ends_of same))
      by true h (inl x) =
          let key : ◌≡◌ {A = ℕ × Tuple} (a, e.tuple) (t, v) = (λ i. (x i, h.0 refl i)) in
          let now : new (t, v) ≡ Some d.change = subst (λ q. new q ≡ Some d.change) key
          d.put.here in
          let was : old (a, e.tuple) ≡ old (t, v) = ap old key in (
            omega (arith, ap begins_of now, d.begins, ap begins_of was, one (a == t) begins (eq x)),
            omega (arith, ap ends_of now, d.ends, ap ends_of was, one (a == t) ends (eq x)),
          )
      by true h (inr x) =
          let same = d.put.others (t, v) (λ q. x (sym (ap (λ (x : ℕ × Tuple). x.0) q))) in (
            omega (arith, ap begins_of same, none (a == t) begins (ne x)),
            omega
                (arith, ap ends_of same, none (a == t) ends (ne x)),
          )

  zero-cond : (b : Bool) → cond {A = ℕ} b 0 0 ≡ 0
  zero-cond true = refl
  zero-cond false = refl

  pub pending-more : IsPending (elems ++ e ∷ []) (λ v. until) p2
  pending-more = record {
    begins = λ t v k. omega (
      arith,
      (counts 1 0 e.span.start p p1 begun t v).0,
      (counts 0 1 e.span.end p1 p2 done t v).0,
      pending.begins t v k,
      starts-more elems e v t,
      zero-cond (tuple_eq e.tuple v && (e.span.end == t)),
    );
    ends = λ t v k. omega (
      arith,
      (counts 1 0 e.span.start p p1 begun t v).1,
      (counts 0 1 e.span.end p1 p2 done t v).1,
      pending.ends t v k,
      ends-more elems e v t,
      zero-cond (tuple_eq e.tuple v && (e.span.start == t)),
    );
    past = λ t v k.
        (let proper : e.span.start < e.span.end = interval.0 in
        done.put.others (t, v) (λ q. (let x : t ≡ e.span.end = ap (λ (x : ℕ × Tuple). x.0) q in
        omega arith))
        ∙ begun.put.others (t, v) (λ q. (let x : t ≡ e.span.start = ap (λ (x : ℕ × Tuple). x.0) q in
        omega arith))
        ∙ pending.past t v k);
  }

pub stands-more : (elems : List Elem) (h : ℕ) (text : List ℕ) (old new : Settled) (e : Elem)
    (p1 : ℕ × Tuple → Option Change) → Stands elems h text old → IsElem e → h ≤ e.span.start
    → new.pieces ≡ old.pieces → new.failed ≡ false → IsAdded 1 0 (e.span.start, e.tuple)
    (get at_cmp old.changes) p1 → IsAdded 0 1 (e.span.end, e.tuple) p1 (get at_cmp new.changes)
    → Stands (elems ++ e ∷ []) h text new
stands-more elems h text old new e p1 s interval late same works begun done =
    let one : StartFrom h (e ∷ []) = All-cons (λ (x : Elem). h ≤ x.span.start) e [] late
    (All-nil (λ (x : Elem). h ≤ x.span.start)) in
    record {
      given = s.given;
      lines = s.lines;
      intervals = All-append IsElem elems (e ∷ []) s.intervals (All-cons IsElem e [] interval
          (All-nil IsElem));
      pending = pending-more elems e h (get at_cmp old.changes) p1 (get at_cmp new.changes)
          s.pending begun done interval late;
      pieces = subst (PiecesSettled (number (elems ++ e ∷ [])) (λ v. h) s.given) (sym same)
          (settled-agree (number elems) (number (elems ++ e ∷ [])) (λ v. h) s.given _ _ _
          (λ v t k. number-agrees elems (e ∷ []) v t h one k) s.pieces);
      waits = subst (λ (q : Pieces). (a b c : ℕ) (v : List Value) → get piece_cmp q.closed (a, b, v)
          ≡ Some c → (r : ℕ) × (d : ℕ) × (w : List Value) × (get at_cmp q.opens (r, w) ≡ Some d)
          × (r < a)) (sym same) s.waits;
      works = works;
    }

-- the lines of one more period
lines-last : (ps : List Period) (p : Period) → flat_map period_line (ps ++ p ∷ []) ≡ flat_map
    period_line ps ++ period_line p
lines-last ps p = flat_map-append period_line ps (p ∷ []) ∙ ap (λ (bs : List ℕ). flat_map
    period_line ps ++ bs) (append-nil (period_line p))

-- a closed piece is given, and its line is put behind the others
pub gives-next : (limit : Option ℕ) (f : Tuple → ℕ → ℕ) (h : ℕ) (given : List Period)
    (text mid out : List ℕ) (old new : Pieces) (a e c : ℕ) (v : Tuple)
    → GivesLines f h given text mid old
    → out ≡ mid ++ period_line (record { start = a; end = e; copies = c; tuple = v })
    → new.levels ≡ old.levels → new.opens ≡ old.opens
    → LeavesFirst a e c v (get piece_cmp old.closed) (get piece_cmp new.closed)
    → is_past limit a ≡ false → IsLimit limit (get at_cmp old.opens)
    → GivesLines f h given text out new
gives-next limit f h given text mid out old new a e c v s line levels opens leaves past limited =
    let p : Period = record { start = a; end = e; copies = c; tuple = v } in
    let moved = settled-gives f (λ v. h) (given ++ s.more) (hash.get tuple_eq old.levels)
    (get at_cmp old.opens) (get piece_cmp old.closed) (get piece_cmp new.closed) a e c v
    s.settled
    (record {
      known = λ w. (s.settled.sound a e c v leaves.first).1;
      first = leaves.first;
      gone =
          leaves.gone;
      least = leaves.least;
      free = λ b d w k. free limit limited past b d w k;
    }) in
    record {
      more = s.more ++ p ∷ [];
      appended = line ∙ ap (λ (bs : List ℕ). bs ++ period_line p) s.appended ∙ append_assoc text
          (flat_map period_line s.more) (period_line p) ∙ ap (λ (bs : List ℕ). text ++ bs)
          (sym (lines-last s.more p));
      settled = subst (λ (ps : List Period). AreSettled f (λ v. h) ps (hash.get tuple_eq new.levels)
          (get at_cmp new.opens) (get piece_cmp new.closed)) (append_assoc given s.more (p ∷ []))
          (subst (λ m. AreSettled f (λ v. h) ((given ++ s.more) ++ record {
            start = a;
            end =
                e;
            copies = c;
            tuple = v;
          } ∷ []) (hash.get tuple_eq new.levels) (get at_cmp m)
          (get piece_cmp new.closed)) (sym opens)
          (subst (λ m. AreSettled f (λ v. h) ((given ++ s.more) ++ record {
            start = a;
            end =
                e;
            copies = c;
            tuple = v;
          } ∷ []) (hash.get tuple_eq m) (get at_cmp old.opens)
          (get piece_cmp new.closed)) (sym levels) moved));
    }
  where
    none-some : (d : ℕ) → ◌≡◌ {A = Option ℕ} None (Some d) → ⊥
    none-some d e = absurd (cc)

    upto : (m n : ℕ) → nat_lt m n ≡ false → n ≤ m
    upto m n e = grind (arith, nat_tests)

    free : (l : Option ℕ) → IsLimit l (get at_cmp old.opens) → is_past l a ≡ false
        → (b d : ℕ) (w : Tuple) → get at_cmp old.opens (b, w) ≡ Some d → a ≤ b
    free None k q b d w o = absurd (none-some d (sym (k b w) ∙ o))
    free (Some l) k q b d w o = let x : a ≤ l = upto l a q in let y : l ≤ b = k.0 b d w o in omega
        arith

-- nothing more is given
pub gives-same : (f : Tuple → ℕ → ℕ) (h : ℕ) (given : List Period) (text out : List ℕ)
    (old new : Pieces) → new.levels ≡ old.levels → new.opens ≡ old.opens
    → new.closed.entries ≡ old.closed.entries → GivesLines f h given text out old
    → GivesLines f h given text out new
gives-same f h given text out old new levels opens closed s = record {
  more = s.more;
  appended = s.appended;
  settled = subst (λ (es : List ((ℕ × ℕ × Tuple) × ℕ)). AreSettled f (λ v. h) (given ++ s.more)
      (hash.get tuple_eq new.levels) (get at_cmp new.opens) (λ k. lookup (is_at (piece_cmp k)) es))
      (sym closed)
      (subst (λ m. AreSettled f (λ v. h) (given ++ s.more) (hash.get tuple_eq new.levels)
      (get at_cmp m) (get piece_cmp old.closed)) (sym opens)
      (subst (λ m. AreSettled f (λ v. h) (given ++ s.more) (hash.get tuple_eq m)
      (get at_cmp old.opens) (get piece_cmp old.closed)) (sym levels) s.settled));
}

-- what waits is past the limit
pub waits-past : (limit : Option ℕ) (pieces : Pieces) → IsLimit limit (get at_cmp pieces.opens)
    → ((s e c : ℕ) (v : Tuple) → get piece_cmp pieces.closed (s, e, v) ≡ Some c → is_past limit s
    ≡ true) → Waits (get at_cmp pieces.opens) (get piece_cmp pieces.closed)
waits-past None pieces l past s e c v h = absurd (cc (past s e c v h))
waits-past (Some limit) pieces l past s e c v h = (
  limit,
  l.1,
  l.2,
  l.3,
  below limit s
      (past s e c v h),
)
  where
    below : (m n : ℕ) → nat_lt m n ≡ true → m < n
    below m n e = grind (arith, nat_tests)

-- the same changes are left
pub settling-same : (elems : List Elem) (from h : ℕ) (given : List Period) (old new : Settled)
    → new.changes.entries ≡ old.changes.entries → new.pieces ≡ old.pieces
    → IsSettling elems from h given old → IsSettling elems from h given new
settling-same elems from h given old new changes pieces s = record {
  until = s.until;
  low = s.low;
  high = s.high;
  intervals = s.intervals;
  pending = subst (λ (es : List ((ℕ × Tuple) × Change)). IsPending elems s.until
      (λ k. lookup (is_at (at_cmp k)) es)) (sym changes) s.pending;
  pieces = subst (PiecesSettled (number elems) s.until given) (sym pieces) s.pieces;
}

-- what was settled, and what was given of it
pub gives-stands : (elems : List Elem) (h : ℕ) (text old new : List ℕ) (middle settled : Settled)
    (given : List Period) → text ≡ flat_map period_line given → IsSettledTo elems h given middle
    → settled.changes ≡ middle.changes → GivesFrom middle.pieces settled.pieces old new
    → Waits (get at_cmp settled.pieces.opens) (get piece_cmp settled.pieces.closed)
    → settled.failed ≡ false → Gives old new elems h text settled
gives-stands elems h text old new middle settled given lines s changes gives waits works =
    let g = gives (number elems) h given s.pieces in
    let stands : Stands elems h (text ++ flat_map period_line g.more) settled = record {
      given = given ++ g.more;
      lines = ap (λ (bs : List ℕ). bs ++ flat_map period_line g.more) lines ∙ sym
          (flat_map-append period_line given g.more);
      intervals = s.intervals;
      pending = subst (λ m. IsPending elems (λ v. h) (get at_cmp m)) (sym changes) s.pending;
      pieces = g.settled;
      waits = waits;
      works = works;
    } in
    record {
      fresh = flat_map period_line g.more;
      appended = g.appended;
      stands = stands;
      certain = certain elems h (text ++ flat_map period_line g.more) settled stands;
    }
