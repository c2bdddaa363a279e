-- How the pieces go on where an element comes, where a piece opens or goes, and as they are sent.
use Rattle.std.proofs.Common.{◌≡◌, ℕ, zero, suc, ◌+◌, ◌*◌, ◌≤◌, ◌<◌, Bool, true, false}
use Rattle.std.proofs.Common.{cond, eqb, nat_le, nat_lt, List, [], ◌∷◌, ◌++◌}
use Rattle.std.proofs.Common.{Some, slice_get, slice_set, replicate, refl, sym, ap, ◌∙◌}
use Rattle.std.proofs.Common.{arith, inl, inr}
use Rattle.std.proofs.lemmas.Bool.Decides.{nat_tests}
use Rattle.pipes_time.specs.Interval.{Span, IsInterval}
use Rattle.pipes_tuple.specs.Equal.{tuple_eq}
use Rattle.pipes_stream.specs.declared.Elem.{Elem}
use Rattle.pipes_stream.specs.Snapshot.{is_held}
use Rattle.pipes_timeline.specs.declared.piece.Piece.{Piece}
use Rattle.pipes_timeline.specs.declared.piece.Piece.TheVariants as piece
use Rattle.pipes_stream.specs.Weights.{weigh}
use Rattle.pipes_stream.proofs.Weights.{weigh-append, weigh-plus, weigh-le}
use Rattle.pipes_stream.proofs.Weights.{weigh-where, weigh-where_zero, weigh-set, weigh-member}
use Rattle.pipes_stream.proofs.Weights.{weigh-filter}
use Rattle.pipes_timeline.specs.Rules.{Row, Arrival, rows_at, valid_at}
use Rattle.pipes_timeline.specs.Rules.{row_of_key}
use Rattle.pipes_timeline.specs.Rules.{KeyRule}
use Rattle.pipes_timeline.specs.Lines.{ends_after, ends_before, starts_after, copy_at, starts_early}
use Rattle.pipes_timeline.specs.Lines.{spans_over, none_counted, is_bare, piece_at, opens}
use Rattle.pipes_timeline.specs.Lines.{unfit, Living, PiecesStand, no_key, only_key}
use Rattle.pipes_timeline.specs.LineMoves.{self-key, same-key, bool-cases, back-key, one-if}
use Rattle.pipes_timeline.specs.LineMoves.{zero-if, same-rows, key-rows_at, times-none}
use Rattle.pipes_timeline.specs.LineMoves.{piece-not_yet, not-lt, lt-not, none-weight}
use Rattle.pipes_timeline.specs.LineChanges.{own-shut, other-shut, fewer-open, other-piece}
use Rattle.pipes_timeline.specs.LineChanges.{same-others, some-nothing}
use Rattle.pipes_timeline.specs.LineChanges.{weigh-le-where}

-- ---- an element comes
nothing-less : (n m : ℕ) → n ≤ m → none_counted m ≤ none_counted n
nothing-less n m h = grind (arith, nat_tests)

bare-less : (taken : List Arrival) (s : Arrival) (e : Elem)
    → is_bare (taken ++ s ∷ []) e ≤ is_bare taken e
bare-less taken s e =
    let a = weigh-append (spans_over e.span) taken (s ∷ []) in
    nothing-less (weigh (spans_over e.span) taken) (weigh (spans_over e.span) (taken ++ s ∷ []))
    (omega (arith, a))

begun-unfit : (r : KeyRule) (free : Row → Bool) (now : ℕ) (live more taken : List Arrival)
    (s : Arrival) (p : Piece) → ((f : Arrival → ℕ) → weigh f more ≡ f s + weigh f live)
    → unfit r free now more (taken ++ s ∷ []) p ≤ unfit r free now live taken p
begun-unfit r free now live more taken s (piece.Open j b) w =
    let a = w (starts_early r.key j b) in
    let c = nothing-less (weigh (starts_early r.key j b) live) (weigh (starts_early r.key j b) more)
    (omega (arith, a)) in
    pick (free j) c
  where
    pick : (d : Bool)
        → none_counted (weigh (starts_early r.key j b) more)
        ≤ none_counted (weigh (starts_early r.key j b) live)
        → cond {A = ℕ} (nat_lt now b) 1 0
        + cond d (cond {A = ℕ} (nat_lt b now) 1 0) (none_counted
        (weigh (starts_early r.key j b) more))
        ≤ cond {A = ℕ} (nat_lt now b) 1 0
        + cond d (cond {A = ℕ} (nat_lt b now) 1 0) (none_counted
        (weigh (starts_early r.key j b) live))
    pick true h = omega arith
    pick false h = omega (arith, h)
begun-unfit r free now live more taken s (piece.Closed e many) w =
    let a = bare-less taken s e in omega (arith, a)
begun-unfit r free now live more taken s (piece.Void b) w = omega arith

start-lives : (now : ℕ) (span : Span) → span.start ≡ now → IsInterval span.start span.end
    → (ends_before now span ≡ 0) × (starts_after now span ≡ 0)
start-lives now span h inside =
    let a : span.start < span.end = inside.0 in
    (lt-not span.end now (omega (arith, a, h)), lt-not now span.start (omega (arith, h)))

living-more : (now : ℕ) (live more taken : List Arrival) (s : Arrival) → s.1.span.start ≡ now
    → IsInterval s.1.span.start s.1.span.end
    → ((f : Arrival → ℕ) → weigh f more ≡ f s + weigh f live) → Living now live taken
    → Living now more (taken ++ s ∷ [])
living-more now live more taken s h inside w l =
    let n = start-lives now s.1.span h inside in
    record {
      gone = l.gone;
      split = λ f. (let a = weigh-append f taken (s ∷ []) in let b = w f in let c = l.split f in
          omega (arith, a, b, c));
      over = l.over;
      going = (let a = w (λ (s : Arrival). ends_before now s.1.span) in let b = l.going in
          omega (arith, a, b, n.0));
      begun = (let a = w (λ (s : Arrival). starts_after now s.1.span) in let b = l.begun in
          omega (arith, a, b, n.1));
      most = (let a = w (λ (s : Arrival). ends_after 1000000000000000 s.1.span) in let b = l.most in
          let c = lt-not 1000000000000000 s.1.span.end inside.1 in omega (arith, a, b, c));
    }

pub not-held : (t : ℕ) (span : Span) → t < span.start → is_held span t ≡ false
not-held t span h = grind (arith, nat_tests)

-- it is not valid before it starts
valid-more : (t : ℕ) (taken : List Arrival) (s : Arrival) → t < s.1.span.start
    → (f : Arrival → ℕ) → weigh f (valid_at t (taken ++ s ∷ [])) ≡ weigh f (valid_at t taken)
valid-more t taken s h f =
    let held : Arrival → ℕ = λ s. cond (is_held s.1.span t) (f s) 0 in
    let a = weigh-filter f (λ (s : Arrival). is_held s.1.span t) (taken ++ s ∷ []) in
    let b = weigh-filter f (λ (s : Arrival). is_held s.1.span t) taken in
    let c = weigh-append held taken (s ∷ []) in
    let d : held s ≡ 0 = none-weight (is_held s.1.span t) (f s) (not-held t s.1.span h) in
    omega (arith, a, b, c, d)

pub line-begun : (r : KeyRule) (k : Row) (now : ℕ) (live more : List Arrival) (ps : List Piece)
    (taken : List Arrival) (sent : List Elem) (s : Arrival) → r.key s.1.tuple ≡ k
    → s.1.span.start ≡ now → IsInterval s.1.span.start s.1.span.end
    → ((f : Arrival → ℕ) → weigh f more ≡ f s + weigh f live)
    → PiecesStand r (only_key k) now live ps taken sent
    → PiecesStand r (only_key k) now more ps (taken ++ s ∷ []) sent
line-begun r k now live more ps taken sent s of h inside w l =
    let others = same-others r.key k live more s of w in
    record {
      lives = living-more now live more taken s h inside w l.lives;
      past = l.past;
      covered = (let a = weigh-le (is_bare (taken ++ s ∷ [])) (is_bare taken) (bare-less taken s)
          sent in
          let b = l.covered in omega (arith, a, b));
      fit = (let a = weigh-le (unfit r (only_key k) now more (taken ++ s ∷ []))
          (unfit r (only_key k) now live taken)
          (λ p. begun-unfit r (only_key k) now live more taken s p w) ps in
          let b = l.fit in omega (arith, a, b));
      single = l.single;
      idle = λ j x f z. sym (r.local j (rows_at live) (rows_at more) (others j f) x)
          ∙ l.idle j x f z;
      right = λ x t below. (let a : weigh (piece_at r (rows_at live) x t) ps
          ≡ weigh (piece_at r (rows_at more) x t) ps =
          weigh-where (unfit r (only_key k) now live taken) (piece_at r (rows_at live) x t)
          (piece_at r (rows_at more) x t)
          (λ p v. other-piece r k now live more taken x t p below others v) ps l.fit in
          let b = l.right x t below in
          let c : r.gives (r.key_of_answer x) (rows_at (valid_at t (taken ++ s ∷ []))) x
          ≡ r.gives (r.key_of_answer x) (rows_at (valid_at t taken)) x =
          r.local (r.key_of_answer x) (rows_at (valid_at t (taken ++ s ∷ [])))
          (rows_at (valid_at t taken))
          (same-rows r.key (r.key_of_answer x) (valid_at t (taken ++ s ∷ [])) (valid_at t taken)
          (valid-more t taken s (omega (arith, below, h)))) x in
          omega (arith, a, b, c));
    }

-- ---- the key is settled
early-row : (key : Row → Row) (k : Row) (now : ℕ) (s : Arrival) → starts_after now s.1.span ≡ 0
    → cond (eqb s.0 0) (row_of_key key k s.1.tuple) 0 ≤ starts_early key k now s
early-row key k now s z = pick (eqb s.0 0) (tuple_eq (key s.1.tuple) k)
  where
    starts : cond {A = ℕ} (nat_le s.1.span.start now) 1 0 ≡ 1
    starts = grind (arith, nat_tests)

    pick : (c d : Bool) → cond {A = ℕ} c (cond {A = ℕ} d 1 0) 0
        ≤ cond {A = ℕ} c (cond {A = ℕ} d (cond {A = ℕ} (nat_le s.1.span.start now) 1 0) 0) 0
    pick true true = omega (arith, starts)
    pick true false = omega arith
    pick false d = omega arith

-- where there is an answer, an element of the key lives
pub answer-early : (r : KeyRule) (k x : Row) (now : ℕ) (live taken : List Arrival)
    → Living now live taken → 0 < r.gives k (rows_at live) x
    → 0 < weigh (starts_early r.key k now) live
answer-early r k x now live taken l h =
    let a = r.from k x (rows_at live) h in
    let b = key-rows_at r.key k 0 live in
    let c = weigh-le-where (λ (s : Arrival). starts_after now s.1.span)
    (λ (s : Arrival). cond (eqb s.0 0) (row_of_key r.key k s.1.tuple) 0)
    (starts_early r.key k now) (λ s z. early-row r.key k now s z) live l.begun in
    omega (arith, a, b, c)

shut-unfit : (r : KeyRule) (k : Row) (now : ℕ) (live taken : List Arrival) (p : Piece)
    → unfit r (only_key k) now live taken p + opens k p ≡ 0 → unfit r no_key now live taken p ≡ 0
shut-unfit r k now live taken (piece.Open j b) z = pick (tuple_eq j k) z
  where
    pick : (c : Bool)
        → (cond {A = ℕ} (nat_lt now b) 1 0
        + cond c (cond {A = ℕ} (nat_lt b now) 1 0) (none_counted
        (weigh (starts_early r.key j b) live)))
        + cond {A = ℕ} c 1 0 ≡ 0
        → cond {A = ℕ} (nat_lt now b) 1 0 + none_counted (weigh (starts_early r.key j b) live) ≡ 0
    pick true v = absurd (omega (arith, v))
    pick false v = omega (arith, v)
shut-unfit r k now live taken (piece.Closed e many) z = omega arith
shut-unfit r k now live taken (piece.Void b) z = omega arith

fit-shut : (r : KeyRule) (k : Row) (now : ℕ) (live taken : List Arrival) (ps : List Piece)
    → weigh (unfit r (only_key k) now live taken) ps ≡ 0 → weigh (opens k) ps ≡ 0
    → weigh (unfit r no_key now live taken) ps ≡ 0
fit-shut r k now live taken ps z o =
    weigh-where_zero (λ (p : Piece). unfit r (only_key k) now live taken p + opens k p)
    (unfit r no_key now live taken) (λ p w. shut-unfit r k now live taken p w) ps
    (weigh-plus (unfit r (only_key k) now live taken) (opens k) ps ∙ omega (arith, z, o))

-- it gives nothing, and has no open piece
pub line-shut : (r : KeyRule) (k : Row) (now : ℕ) (live : List Arrival) (ps : List Piece)
    (taken : List Arrival) (sent : List Elem) → weigh (opens k) ps ≡ 0
    → ((x : Row) → r.gives k (rows_at live) x ≡ 0)
    → PiecesStand r (only_key k) now live ps taken sent → PiecesStand r no_key now live ps taken
    sent
line-shut r k now live ps taken sent o none l = record {
  lives = l.lives;
  past = l.past;
  covered = l.covered;
  fit = fit-shut r k now live taken ps l.fit o;
  single = l.single;
  idle = λ j x f z. elim (bool-cases (tuple_eq j k)) [
    | inl e ↦ (ap (λ (i : Row). r.gives i (rows_at live) x) (same-key j k e) ∙ none x)
    | inr e ↦ l.idle j x e z
  ];
  right = l.right;
}

-- it gives nothing, and its open piece goes
pub line-voided : (r : KeyRule) (k : Row) (now b i : ℕ) (live : List Arrival) (ps : List Piece)
    (taken : List Arrival) (sent : List Elem) → slice_get ps i ≡ Some (piece.Open k b)
    → ((x : Row) → r.gives k (rows_at live) x ≡ 0)
    → PiecesStand r (only_key k) now live ps taken sent
    → PiecesStand r no_key now live (slice_set ps i (piece.Void now)) taken sent
line-voided r k now b i live ps taken sent at none l =
    let qs : List Piece = slice_set ps i (piece.Void now) in
    let m : cond {A = ℕ} (nat_lt now b) 1 0
    + cond (tuple_eq k k) (cond {A = ℕ} (nat_lt b now) 1 0)
    (none_counted (weigh (starts_early r.key k b) live))
    ≤ weigh (unfit r (only_key k) now live taken) ps =
    weigh-member (unfit r (only_key k) now live taken) ps i (piece.Open k b) at in
    let own : cond (tuple_eq k k) (cond {A = ℕ} (nat_lt b now) 1 0)
    (none_counted (weigh (starts_early r.key k b) live)) ≡ cond {A = ℕ} (nat_lt b now) 1 0 =
    ap (λ (c : Bool). cond c (cond {A = ℕ} (nat_lt b now) 1 0)
    (none_counted (weigh (starts_early r.key k b) live))) (self-key k) in
    let fit = l.fit in
    let late : now ≤ b = not-lt b now (omega (arith, m, own, fit)) in
    let gone = own-shut r k now b i live ps taken sent (piece.Void now) at (λ j. refl)
    (l.single k) in
    line-shut r k now live qs taken sent gone none (record {
      lives = l.lives;
      past = l.past;
      covered = l.covered;
      fit = (let a = weigh-set (unfit r (only_key k) now live taken) ps i (piece.Open k b)
          (piece.Void now) at in
          let c : cond {A = ℕ} (nat_lt now now) 1 0 ≡ 0 = lt-not now now (omega arith) in
          omega (arith, a, c, fit));
      single = λ j. (let a = fewer-open r k now b i live ps taken sent (piece.Void now) at
          (λ j. refl) j in
          let c = l.single j in omega (arith, a, c));
      idle = λ j x f z. l.idle j x f
          (sym (other-shut r k now b i live ps taken sent (piece.Void now) at (λ j. refl) j f) ∙ z);
      right = λ x t h. (let a = weigh-set (piece_at r (rows_at live) x t) ps i (piece.Open k b)
          (piece.Void now) at in
          let c = piece-not_yet b t (r.gives k (rows_at live) x) (omega (arith, h, late)) in
          let d = l.right x t h in omega (arith, a, c, d));
    })

kept-unfit : (r : KeyRule) (k : Row) (now : ℕ) (live taken : List Arrival) (p : Piece)
    → 0 < weigh (starts_early r.key k now) live → unfit r (only_key k) now live taken p ≡ 0
    → unfit r no_key now live taken p ≡ 0
kept-unfit r k now live taken (piece.Open j b) some z = pick (tuple_eq j k) refl z
  where
    pick : (c : Bool) → tuple_eq j k ≡ c
        → cond {A = ℕ} (nat_lt now b) 1 0
        + cond c (cond {A = ℕ} (nat_lt b now) 1 0) (none_counted
        (weigh (starts_early r.key j b) live))
        ≡ 0
        → cond {A = ℕ} (nat_lt now b) 1 0 + none_counted (weigh (starts_early r.key j b) live) ≡ 0
    pick true e v =
        let from : now ≤ b = not-lt b now (omega (arith, v)) in
        let to : b ≤ now = not-lt now b (omega (arith, v)) in
        let a : weigh (starts_early r.key k now) live ≡ weigh (starts_early r.key j b) live =
        ap (λ (i : Row). weigh (starts_early r.key i now) live) (sym (same-key j k e))
        ∙ ap (λ (n : ℕ). weigh (starts_early r.key j n) live)
        (let f : now ≡ b = omega (arith, from, to) in f) in
        let c : none_counted (weigh (starts_early r.key j b) live) ≡ 0 =
        some-nothing (weigh (starts_early r.key j b) live) (omega (arith, a, some)) in
        omega (arith, v, c)
    pick false e v = v
kept-unfit r k now live taken (piece.Closed e many) some z = z
kept-unfit r k now live taken (piece.Void b) some z = z

fit-kept : (r : KeyRule) (k : Row) (now : ℕ) (live taken : List Arrival) (ps : List Piece)
    → 0 < weigh (starts_early r.key k now) live
    → weigh (unfit r (only_key k) now live taken) ps ≡ 0
    → weigh (unfit r no_key now live taken) ps ≡ 0
fit-kept r k now live taken ps some z =
    weigh-where_zero (unfit r (only_key k) now live taken) (unfit r no_key now live taken)
    (λ p w. kept-unfit r k now live taken p some w) ps z

-- it gives something, and its piece opens
pub line-opened : (r : KeyRule) (k : Row) (now : ℕ) (live : List Arrival) (ps : List Piece)
    (taken : List Arrival) (sent : List Elem) → weigh (opens k) ps ≡ 0
    → 0 < weigh (starts_early r.key k now) live → PiecesStand r (only_key k) now live ps taken sent
    → PiecesStand r no_key now live (ps ++ piece.Open k now ∷ []) taken sent
line-opened r k now live ps taken sent o some l =
    let p : Piece = piece.Open k now in
    record {
      lives = l.lives;
      past = l.past;
      covered = l.covered;
      fit = (let a = weigh-append (unfit r no_key now live taken) ps (p ∷ []) in
          let b = fit-kept r k now live taken ps some l.fit in
          let c : cond {A = ℕ} (nat_lt now now) 1 0 ≡ 0 = lt-not now now (omega arith) in
          let d = some-nothing (weigh (starts_early r.key k now) live) some in
          omega (arith, a, b, c, d));
      single = λ j. (let a = weigh-append (opens j) ps (p ∷ []) in
          elim (bool-cases (tuple_eq k j)) [
            | inl e ↦ (let z : weigh (opens j) ps ≡ 0 =
                ap (λ (i : Row). weigh (opens i) ps) (sym (same-key k j e)) ∙ o in
                let c = one-if (tuple_eq k j) e in omega (arith, a, z, c))
            | inr e ↦ (let c = zero-if (tuple_eq k j) e in let d = l.single j in
                omega (arith, a, c, d))
          ]);
      idle = λ j x f z. (let a = weigh-append (opens j) ps (p ∷ []) in
          elim (bool-cases (tuple_eq k j)) [
            | inl e ↦ absurd (let c = one-if (tuple_eq k j) e in omega (arith, a, z, c))
            | inr e ↦ l.idle j x (back-key k j false e)
                (let c = zero-if (tuple_eq k j) e in omega (arith, a, z, c))
          ]);
      right = λ x t h. (let a = weigh-append (piece_at r (rows_at live) x t) ps (p ∷ []) in
          let b = piece-not_yet now t (r.gives k (rows_at live) x) h in
          let c = l.right x t h in omega (arith, a, b, c));
    }

-- it gives something, and its open piece starts now
pub line-kept : (r : KeyRule) (k : Row) (now b i : ℕ) (live : List Arrival) (ps : List Piece)
    (taken : List Arrival) (sent : List Elem) → slice_get ps i ≡ Some (piece.Open k b)
    → 0 < weigh (starts_early r.key k now) live → PiecesStand r (only_key k) now live ps taken sent
    → PiecesStand r no_key now live ps taken sent
line-kept r k now b i live ps taken sent at some l = record {
  lives = l.lives;
  past = l.past;
  covered = l.covered;
  fit = fit-kept r k now live taken ps some l.fit;
  single = l.single;
  idle = λ j x f z. elim (bool-cases (tuple_eq j k)) [
    | inl e ↦ absurd (let a : cond {A = ℕ} (tuple_eq k j) 1 0 ≤ weigh (opens j) ps =
        weigh-member (opens j) ps i (piece.Open k b) at in
        let c = one-if (tuple_eq k j) (back-key j k true e) in omega (arith, a, c, z))
    | inr e ↦ l.idle j x e z
  ];
  right = l.right;
}

-- ---- the first piece is sent
pub weigh-replicate : {X : Type 0} (f : X → ℕ) (n : ℕ) (x : X)
    → weigh f (replicate n x) ≡ n * f x
weigh-replicate f zero x = omega arith
weigh-replicate f (suc n) x =
    let a : weigh f (replicate n x) ≡ n * f x = weigh-replicate f n x in
    let b : suc n * f x ≡ n * f x + f x = grind arith in
    omega (arith, a, b)

pub weigh-replicate_none : {X : Type 0} (f : X → ℕ) (n : ℕ) (x : X) → f x ≡ 0
    → weigh f (replicate n x) ≡ 0
weigh-replicate_none f n x z = weigh-replicate f n x ∙ times-none n (f x) z

pub line-sent : (r : KeyRule) (now : ℕ) (live : List Arrival) (e : Elem) (many : ℕ)
    (ps : List Piece) (taken : List Arrival) (sent : List Elem)
    → PiecesStand r no_key now live (piece.Closed e many ∷ ps) taken sent
    → PiecesStand r no_key now live ps taken (sent ++ replicate many e)
line-sent r now live e many ps taken sent l =
    let z : (ends_after now e.span + is_bare taken e) + weigh (unfit r no_key now live taken) ps
    ≡ 0 = l.fit in
    record {
      lives = l.lives;
      past = (let a = weigh-append (λ (e : Elem). ends_after now e.span) sent (replicate many e) in
          let b = weigh-replicate_none (λ (e : Elem). ends_after now e.span) many e
          (omega (arith, z)) in
          let c = l.past in omega (arith, a, b, c));
      covered = (let a = weigh-append (is_bare taken) sent (replicate many e) in
          let b = weigh-replicate_none (is_bare taken) many e (omega (arith, z)) in
          let c = l.covered in omega (arith, a, b, c));
      fit = omega (arith, z);
      single = λ j. (let a = l.single j in omega (arith, a));
      idle = λ j x f o. l.idle j x f (omega (arith, o));
      right = λ x t h. (let a = weigh-append (copy_at x t) sent (replicate many e) in
          let b = weigh-replicate (copy_at x t) many e in
          let c = l.right x t h in omega (arith, a, b, c));
    }

pub line-passed : (r : KeyRule) (now : ℕ) (live : List Arrival) (b : ℕ) (ps : List Piece)
    (taken : List Arrival) (sent : List Elem)
    → PiecesStand r no_key now live (piece.Void b ∷ ps) taken sent
    → PiecesStand r no_key now live ps taken sent
line-passed r now live b ps taken sent l =
    let z : cond {A = ℕ} (nat_lt now b) 1 0 + weigh (unfit r no_key now live taken) ps ≡ 0 =
    l.fit in
    record {
      lives = l.lives;
      past = l.past;
      covered = l.covered;
      fit = omega (arith, z);
      single = λ j. (let a = l.single j in omega (arith, a));
      idle = λ j x f o. l.idle j x f (omega (arith, o));
      right = λ x t h. (let c = l.right x t h in omega (arith, c));
    }
