-- How the pieces go on where the rows of one key change.
use Rattle.std.proofs.Common.{◌≡◌, ℕ, ◌+◌, ◌-◌, ◌*◌, ◌≤◌, ◌<◌, Bool, true, false}
use Rattle.std.proofs.Common.{cond, eqb, nat_le, nat_lt, ◌&&◌, List, [], ◌∷◌}
use Rattle.std.proofs.Common.{Some, slice_get, slice_set, refl, sym, ap, ◌∙◌, subst, arith}
use Rattle.std.proofs.lemmas.Bool.Decides.{nat_tests}
use Rattle.pipes_time.specs.Interval.{Span}
use Rattle.pipes_tuple.specs.Equal.{tuple_eq}
use Rattle.pipes_stream.specs.declared.Elem.{Elem}
use Rattle.pipes_timeline.specs.declared.piece.Piece.{Piece}
use Rattle.pipes_timeline.specs.declared.piece.Piece.TheVariants as piece
use Rattle.pipes_stream.specs.Weights.{weigh}
use Rattle.pipes_stream.proofs.Weights.{weigh-plus, weigh-le, weigh-same}
use Rattle.pipes_stream.proofs.Weights.{weigh-where, weigh-where_zero, weigh-set, weigh-member}
use Rattle.pipes_timeline.specs.Rules.{Row, Arrival, rows_at, SameOfKey}
use Rattle.pipes_timeline.specs.Rules.{KeyRule}
use Rattle.pipes_timeline.specs.Tables.{IsAnswer}
use Rattle.pipes_timeline.specs.Lines.{ends_after, ends_before, starts_after, starts_early}
use Rattle.pipes_timeline.specs.Lines.{spans_over, none_counted, is_bare, piece_at, opens, is_old}
use Rattle.pipes_timeline.specs.Lines.{unfit, Living, PiecesStand, no_key, only_key}
use Rattle.pipes_timeline.specs.LineMoves.{self-key, same-key, back-key, one-if}
use Rattle.pipes_timeline.specs.LineMoves.{zero-if, is_row, count-rows_at}
use Rattle.pipes_timeline.specs.LineMoves.{times-none, piece-not_yet, not-lt, lt-not}
use Rattle.pipes_timeline.specs.LineMoves.{held-weight}

-- ---- the key is free
pub old-opens : (k : Row) (now : ℕ) (p : Piece) → is_old k now p ≤ opens k p
old-opens k now (piece.Open j b) = both (tuple_eq j k) (nat_lt b now)
  where
    both : (c d : Bool) → cond {A = ℕ} c (cond {A = ℕ} d 1 0) 0 ≤ cond {A = ℕ} c 1 0
    both true true = omega arith
    both true false = omega arith
    both false d = omega arith
old-opens k now (piece.Closed e many) = omega arith
old-opens k now (piece.Void b) = omega arith

free-unfit : (r : KeyRule) (k : Row) (now : ℕ) (live taken : List Arrival) (j : Row) (b : ℕ)
    (c : Bool) → tuple_eq j k ≡ c
    → cond {A = ℕ} (nat_lt now b) 1 0 + none_counted (weigh (starts_early r.key j b) live) ≡ 0
    → cond {A = ℕ} c (cond {A = ℕ} (nat_lt b now) 1 0) 0 ≡ 0
    → cond {A = ℕ} (nat_lt now b) 1 0
    + cond c (cond {A = ℕ} (nat_lt b now) 1 0) (none_counted
    (weigh (starts_early r.key j b) live)) ≡ 0
free-unfit r k now live taken j b true e z o = omega (arith, z, o)
free-unfit r k now live taken j b false e z o = omega (arith, z, o)

unfit-freed : (r : KeyRule) (k : Row) (now : ℕ) (live taken : List Arrival) (p : Piece)
    → unfit r no_key now live taken p + is_old k now p ≡ 0
    → unfit r (only_key k) now live taken p ≡ 0
unfit-freed r k now live taken (piece.Open j b) z =
    free-unfit r k now live taken j b (tuple_eq j k) refl (omega arith) (omega arith)
unfit-freed r k now live taken (piece.Closed e many) z = omega arith
unfit-freed r k now live taken (piece.Void b) z = omega arith

fit-freed : (r : KeyRule) (k : Row) (now : ℕ) (live taken : List Arrival) (ps : List Piece)
    → weigh (unfit r no_key now live taken) ps ≡ 0 → weigh (is_old k now) ps ≡ 0
    → weigh (unfit r (only_key k) now live taken) ps ≡ 0
fit-freed r k now live taken ps z o =
    weigh-where_zero (λ (p : Piece). unfit r no_key now live taken p + is_old k now p)
    (unfit r (only_key k) now live taken) (λ p w. unfit-freed r k now live taken p w) ps
    (weigh-plus (unfit r no_key now live taken) (is_old k now) ps ∙ omega (arith, z, o))

-- no open piece of the key started before now
pub line-freed : (r : KeyRule) (k : Row) (now : ℕ) (live : List Arrival) (ps : List Piece)
    (taken : List Arrival) (sent : List Elem) → weigh (is_old k now) ps ≡ 0
    → PiecesStand r no_key now live ps taken sent → PiecesStand r (only_key k) now live ps taken
    sent
line-freed r k now live ps taken sent o l = record {
  lives = l.lives;
  past = l.past;
  covered = l.covered;
  fit = fit-freed r k now live taken ps l.fit o;
  single = l.single;
  idle = λ j x f. l.idle j x refl;
  right = l.right;
}

-- where the key has no open piece
pub none-old : (k : Row) (now : ℕ) (ps : List Piece) → weigh (opens k) ps ≡ 0
    → weigh (is_old k now) ps ≡ 0
none-old k now ps z = let a = weigh-le (is_old k now) (opens k) (old-opens k now) ps in
    omega (arith, a, z)

-- where it has one that starts now
pub new-old : (k : Row) (now b i : ℕ) (ps : List Piece) → slice_get ps i ≡ Some (piece.Open k b)
    → now ≤ b → weigh (opens k) ps ≤ 1 → weigh (is_old k now) ps ≡ 0
new-old k now b i ps at h most =
    let rest : Piece → ℕ = λ p. opens k p - is_old k now p in
    let a : weigh (λ (p : Piece). is_old k now p + rest p) ps ≡ weigh (is_old k now) ps + weigh rest
    ps =
    weigh-plus (is_old k now) rest ps in
    let c : weigh (λ (p : Piece). is_old k now p + rest p) ps ≡ weigh (opens k) ps =
    weigh-same (λ (p : Piece). is_old k now p + rest p) (opens k)
    (λ p. let f = old-opens k now p in omega (arith, f)) ps in
    let d : opens k (piece.Open k b) - is_old k now (piece.Open k b) ≤ weigh rest ps =
    weigh-member rest ps i (piece.Open k b) at in
    let e : cond {A = ℕ} (tuple_eq k k) 1 0 ≡ 1 = one-if (tuple_eq k k) (self-key k) in
    let g : cond {A = ℕ} (tuple_eq k k) (cond {A = ℕ} (nat_lt b now) 1 0) 0 ≡ 0 =
    held-weight (tuple_eq k k) (cond {A = ℕ} (nat_lt b now) 1 0) (self-key k) ∙ lt-not b now h in
    omega (arith, a, c, d, e, g, most)

-- ---- a piece closes
-- an early element that lives spans what ends now
early-spans : (key : Row → Row) (k : Row) (b now : ℕ) (span : Span) (s : Arrival) → span.start ≡ b
    → span.end ≡ now → ends_before now s.1.span ≡ 0 → starts_early key k b s ≤ spans_over span s
early-spans key k b now span s from to z = pick (eqb s.0 0) (tuple_eq (key s.1.tuple) k)
  where
    on : (c : Bool) (d : ℕ) → cond {A = ℕ} c d 0 ≤ d
    on true d = omega arith
    on false d = omega arith

    last : cond {A = ℕ} (nat_le s.1.span.start b) 1 0 ≤ spans_over span s
    last = rw (from, to) (grind (arith, nat_tests))

    pick : (c d : Bool)
        → cond {A = ℕ} c (cond {A = ℕ} d (cond {A = ℕ} (nat_le s.1.span.start b) 1 0) 0) 0
        ≤ spans_over span s
    pick true true = last
    pick true false = omega arith
    pick false d = omega arith

pub weigh-le-where : {X : Type 0} (g f h : X → ℕ) → ((x : X) → g x ≡ 0 → f x ≤ h x) → (xs : List X)
    → weigh g xs ≡ 0 → weigh f xs ≤ weigh h xs
weigh-le-where g f h w [] z = omega arith
weigh-le-where g f h w (x ∷ xs) z =
    let a : f x ≤ h x = w x (omega arith) in
    let b : weigh f xs ≤ weigh h xs = weigh-le-where g f h w xs (omega arith) in
    omega arith

pub nothing-some : (n : ℕ) → none_counted n ≡ 0 → 0 < n
nothing-some n z = grind (arith, nat_tests)

pub some-nothing : (n : ℕ) → 0 < n → none_counted n ≡ 0
some-nothing n h = grind (arith, nat_tests)

-- an open piece has an element that spans it
pub piece-covered : (r : KeyRule) (k : Row) (b now : ℕ) (live taken : List Arrival) (e : Elem)
    → e.span.start ≡ b → e.span.end ≡ now → Living now live taken
    → none_counted (weigh (starts_early r.key k b) live) ≡ 0 → is_bare taken e ≡ 0
piece-covered r k b now live taken e from to l z =
    let a : 0 < weigh (starts_early r.key k b) live =
    nothing-some (weigh (starts_early r.key k b) live) z in
    let c : weigh (starts_early r.key k b) live ≤ weigh (spans_over e.span) live =
    weigh-le-where (λ (s : Arrival). ends_before now s.1.span) (starts_early r.key k b)
    (spans_over e.span) (λ s w. early-spans r.key k b now e.span s from to w) live l.going in
    let d = l.split (spans_over e.span) in
    some-nothing (weigh (spans_over e.span) taken) (omega (arith, a, c, d))

-- the open piece at a place started before now, or now
pub open-unfit : (r : KeyRule) (now b i : ℕ) (live taken : List Arrival) (k : Row) (ps : List Piece)
    → slice_get ps i ≡ Some (piece.Open k b) → weigh (unfit r no_key now live taken) ps ≡ 0
    → (b ≤ now) × (none_counted (weigh (starts_early r.key k b) live) ≡ 0)
open-unfit r now b i live taken k ps at z =
    let a : unfit r no_key now live taken (piece.Open k b)
    ≤ weigh (unfit r no_key now live taken) ps =
    weigh-member (unfit r no_key now live taken) ps i (piece.Open k b) at in
    (not-lt now b (omega (arith, a, z)), omega (arith, a, z))

closed-weight : (g : ℕ) (b now t many : ℕ) (c : Bool) → t < now → g ≡ many * cond c 1 0
    → cond (nat_le b t) g 0 ≡ many * cond (nat_le b t && nat_lt t now) (cond {A = ℕ} c 1 0) 0
closed-weight g b now t many c h e = pick (nat_le b t) (nat_lt t now) (lt-true t now h)
  where
    lt-true : (i j : ℕ) → i < j → nat_lt i j ≡ true
    lt-true i j l = grind (arith, nat_tests)

    pick : (d f : Bool) → f ≡ true → cond d g 0 ≡ many * cond (d && f) (cond {A = ℕ} c 1 0) 0
    pick true true l = e
    pick true false l = absurd cc
    pick false f l = sym (times-none many 0 refl)

closed-piece : (r : KeyRule) (k : Row) (b now : ℕ) (live : List Arrival) (e : Elem) (many : ℕ)
    (x : Row) (t : ℕ) → t < now → e.span.start ≡ b → e.span.end ≡ now
    → IsAnswer r k (rows_at live) e.tuple many
    → piece_at r (rows_at live) x t (piece.Open k b)
    ≡ piece_at r (rows_at live) x t (piece.Closed e many)
closed-piece r k b now live e many x t h from to a =
    closed-weight (r.gives k (rows_at live) x) b now t many (tuple_eq e.tuple x) h (a.copies x)
    ∙ ap (λ (i : ℕ). many
    * cond (nat_le i t && nat_lt t now) (cond {A = ℕ} (tuple_eq e.tuple x) 1 0) 0) (sym from)
    ∙ ap (λ (i : ℕ). many
    * cond (nat_le e.span.start t && nat_lt t i) (cond {A = ℕ} (tuple_eq e.tuple x) 1 0) 0)
    (sym to)

-- the open piece of the key is replaced by one that is not open
module _ (r : KeyRule) (k : Row) (now b i : ℕ) (live : List Arrival) (ps : List Piece)
    (taken : List Arrival) (sent : List Elem) (q : Piece)
    (at : slice_get ps i ≡ Some (piece.Open k b)) (shut : (j : Row) → opens j q ≡ 0) where
  swapped-opens : (j : Row) → weigh (opens j) (slice_set ps i q) + cond {A = ℕ} (tuple_eq k j) 1 0
      ≡ weigh (opens j) ps
  swapped-opens j =
      let a = weigh-set (opens j) ps i (piece.Open k b) q at in omega (arith, a, shut j)

  pub own-shut : weigh (opens k) ps ≤ 1 → weigh (opens k) (slice_set ps i q) ≡ 0
  own-shut most =
      let a = swapped-opens k in
      let c = one-if (tuple_eq k k) (self-key k) in
      omega (arith, a, c, most)

  pub other-shut : (j : Row) → tuple_eq j k ≡ false
      → weigh (opens j) (slice_set ps i q) ≡ weigh (opens j) ps
  other-shut j n =
      let a = swapped-opens j in
      let c = zero-if (tuple_eq k j) (back-key j k false n) in
      omega (arith, a, c)

  pub fewer-open : (j : Row) → weigh (opens j) (slice_set ps i q) ≤ weigh (opens j) ps
  fewer-open j = let a = swapped-opens j in omega (arith, a)

  -- the key becomes free
  pub line-swapped : unfit r no_key now live taken q ≡ 0
      → ((x : Row) (t : ℕ) → t < now → piece_at r (rows_at live) x t (piece.Open k b)
      ≡ piece_at r (rows_at live) x t q)
      → PiecesStand r no_key now live ps taken sent
      → PiecesStand r (only_key k) now live (slice_set ps i q) taken sent
  line-swapped u same l = record {
    lives = l.lives;
    past = l.past;
    covered = l.covered;
    fit = fit-freed r k now live taken (slice_set ps i q)
        (let a = weigh-set (unfit r no_key now live taken) ps i (piece.Open k b) q at in
        let c = l.fit in omega (arith, a, c, u))
        (none-old k now (slice_set ps i q) (own-shut (l.single k)));
    single = λ j. (let a = fewer-open j in let c = l.single j in omega (arith, a, c));
    idle = λ j x f z. l.idle j x refl (sym (other-shut j f) ∙ z);
    right = λ x t h. (let a = weigh-set (piece_at r (rows_at live) x t) ps i (piece.Open k b) q
        at in
        let c = same x t h in let d = l.right x t h in omega (arith, a, c, d));
  }

pub line-closed : (r : KeyRule) (k : Row) (now b i : ℕ) (live : List Arrival) (ps : List Piece)
    (taken : List Arrival) (sent : List Elem) (e : Elem) (many : ℕ)
    → slice_get ps i ≡ Some (piece.Open k b) → e.span.start ≡ b → e.span.end ≡ now
    → IsAnswer r k (rows_at live) e.tuple many → PiecesStand r no_key now live ps taken sent
    → PiecesStand r (only_key k) now live (slice_set ps i (piece.Closed e many)) taken sent
line-closed r k now b i live ps taken sent e many at from to answer l =
    let o = open-unfit r now b i live taken k ps at l.fit in
    line-swapped r k now b i live ps taken sent (piece.Closed e many) at (λ j. refl)
    (let a : ends_after now e.span ≡ 0 = lt-not now e.span.end (omega (arith, to)) in
    let c = piece-covered r k b now live taken e from to l.lives o.1 in omega (arith, a, c))
    (λ x t h. closed-piece r k b now live e many x t h from to answer) l

-- ---- the rows of the key change
-- how a piece stands to the rows of other keys
pub other-piece : (r : KeyRule) (k : Row) (now : ℕ) (live new taken : List Arrival) (x : Row)
    (t : ℕ)
    (p : Piece) → t < now
    → ((j : Row) → tuple_eq j k ≡ false → SameOfKey r.key j (rows_at live) (rows_at new))
    → unfit r (only_key k) now live taken p ≡ 0
    → piece_at r (rows_at live) x t p ≡ piece_at r (rows_at new) x t p
other-piece r k now live new taken x t (piece.Open j b) h same z = pick (tuple_eq j k) refl z
  where
    pick : (c : Bool) → tuple_eq j k ≡ c
        → cond {A = ℕ} (nat_lt now b) 1 0
        + cond c (cond {A = ℕ} (nat_lt b now) 1 0) (none_counted
        (weigh (starts_early r.key j b) live))
        ≡ 0
        → cond (nat_le b t) (r.gives j (rows_at live) x) 0
        ≡ cond (nat_le b t) (r.gives j (rows_at new) x) 0
    pick true e w =
        let from : now ≤ b = not-lt b now (omega arith) in
        piece-not_yet b t (r.gives j (rows_at live) x) (omega arith)
        ∙ sym (piece-not_yet b t (r.gives j (rows_at new) x) (omega arith))
    pick false e w = ap (λ (n : ℕ). cond (nat_le b t) n 0)
        (r.local j (rows_at live) (rows_at new) (same j e) x)
other-piece r k now live new taken x t (piece.Closed e many) h same z = refl
other-piece r k now live new taken x t (piece.Void b) h same z = refl

-- elements of the key are no rows of others
other-row : (key : Row → Row) (k j row : Row) (port : ℕ) (s : Arrival) → key s.1.tuple ≡ k
    → tuple_eq j k ≡ false → tuple_eq (key row) j ≡ true → is_row port row s ≡ 0
other-row key k j row port s of n own = pick (eqb s.0 port) (tuple_eq s.1.tuple row) refl
  where
    pick : (c d : Bool) → tuple_eq s.1.tuple row ≡ d
        → cond {A = ℕ} c (cond {A = ℕ} d 1 0) 0 ≡ 0
    pick true true e =
        let a : s.1.tuple ≡ row = same-key s.1.tuple row e in
        let b : key row ≡ j = same-key (key row) j own in
        let c : j ≡ k = sym b ∙ sym (ap key a) ∙ of in
        absurd (let f : tuple_eq j k ≡ true = (tuple_true j k c) in
        let g : true ≡ false = sym f ∙ n in cc)
      where
        tuple_true : (p q : Row) → p ≡ q → tuple_eq p q ≡ true
        tuple_true p q h = subst (λ (y : Row). tuple_eq p y ≡ true) h (self-key p)
    pick true false e = refl
    pick false d e = refl

other-early : (key : Row → Row) (k j : Row) (b : ℕ) (s : Arrival) → key s.1.tuple ≡ k
    → tuple_eq j k ≡ false → starts_early key j b s ≡ 0
other-early key k j b s of n = pick (eqb s.0 0) (tuple_eq (key s.1.tuple) j) refl
  where
    pick : (c d : Bool) → tuple_eq (key s.1.tuple) j ≡ d
        → cond {A = ℕ} c (cond {A = ℕ} d (cond {A = ℕ} (nat_le s.1.span.start b) 1 0) 0) 0 ≡ 0
    pick true true e =
        let a : j ≡ k = sym (same-key (key s.1.tuple) j e) ∙ of in
        absurd (let f : tuple_eq j k ≡ true = subst (λ (y : Row). tuple_eq j y ≡ true) a
        (self-key j) in
        let g : true ≡ false = sym f ∙ n in cc)
    pick true false e = refl
    pick false d e = refl

-- the one list has an element of the key more
pub same-others : (key : Row → Row) (k : Row) (live more : List Arrival) (s : Arrival)
    → key s.1.tuple ≡ k → ((f : Arrival → ℕ) → weigh f more ≡ f s + weigh f live)
    → (j : Row) → tuple_eq j k ≡ false → SameOfKey key j (rows_at live) (rows_at more)
same-others key k live more s of w j n port row own =
    let a = count-rows_at row port live in
    let b = count-rows_at row port more in
    let c = w (is_row port row) in
    let d = other-row key k j row port s of n own in
    omega (arith, a, b, c, d)

pub back-others : (key : Row → Row) (k : Row) (live more : List Arrival) (s : Arrival)
    → key s.1.tuple ≡ k → ((f : Arrival → ℕ) → weigh f more ≡ f s + weigh f live)
    → (j : Row) → tuple_eq j k ≡ false → SameOfKey key j (rows_at more) (rows_at live)
back-others key k live more s of w j n port row own =
    sym (same-others key k live more s of w j n port row own)

-- ---- an element ends
ended-unfit : (r : KeyRule) (k : Row) (now : ℕ) (live less taken : List Arrival) (s : Arrival)
    (p : Piece) → r.key s.1.tuple ≡ k → ((f : Arrival → ℕ) → weigh f live ≡ f s + weigh f less)
    → unfit r (only_key k) now live taken p ≡ 0 → unfit r (only_key k) now less taken p ≡ 0
ended-unfit r k now live less taken s (piece.Open j b) of w z = pick (tuple_eq j k) refl z
  where
    pick : (c : Bool) → tuple_eq j k ≡ c
        → cond {A = ℕ} (nat_lt now b) 1 0
        + cond c (cond {A = ℕ} (nat_lt b now) 1 0) (none_counted
        (weigh (starts_early r.key j b) live))
        ≡ 0
        → cond {A = ℕ} (nat_lt now b) 1 0
        + cond c (cond {A = ℕ} (nat_lt b now) 1 0) (none_counted
        (weigh (starts_early r.key j b) less))
        ≡ 0
    pick true e v = v
    pick false e v =
        let a = w (starts_early r.key j b) in
        let d = other-early r.key k j b s of e in
        let f : weigh (starts_early r.key j b) live ≡ weigh (starts_early r.key j b) less =
        omega (arith, a, d) in
        let g : none_counted (weigh (starts_early r.key j b) live)
        ≡ none_counted (weigh (starts_early r.key j b) less) = ap none_counted f in
        omega (arith, v, g)
ended-unfit r k now live less taken s (piece.Closed e many) of w z = z
ended-unfit r k now live less taken s (piece.Void b) of w z = z

end-over : (now : ℕ) (span : Span) → span.end ≤ now → ends_after now span ≡ 0
end-over now span h = lt-not now span.end h

living-less : (now : ℕ) (live less taken : List Arrival) (s : Arrival) → s.1.span.end ≤ now
    → ((f : Arrival → ℕ) → weigh f live ≡ f s + weigh f less) → Living now live taken
    → Living now less taken
living-less now live less taken s h w l = record {
  gone = s ∷ l.gone;
  split = λ f. (let a = l.split f in let b = w f in omega (arith, a, b));
  over = (let a = l.over in let b = end-over now s.1.span h in omega (arith, a, b));
  going = (let a = w (λ (s : Arrival). ends_before now s.1.span) in let b = l.going in
      omega (arith, a, b));
  begun = (let a = w (λ (s : Arrival). starts_after now s.1.span) in let b = l.begun in
      omega (arith, a, b));
  most = (let a = w (λ (s : Arrival). ends_after 1000000000000000 s.1.span) in let b = l.most in
      omega (arith, a, b));
}

pub line-ended : (r : KeyRule) (k : Row) (now : ℕ) (live less : List Arrival) (ps : List Piece)
    (taken : List Arrival) (sent : List Elem) (s : Arrival) → r.key s.1.tuple ≡ k
    → s.1.span.end ≤ now → ((f : Arrival → ℕ) → weigh f live ≡ f s + weigh f less)
    → PiecesStand r (only_key k) now live ps taken sent → PiecesStand r (only_key k) now less ps
    taken sent
line-ended r k now live less ps taken sent s of h w l =
    let others = back-others r.key k less live s of w in
    record {
      lives = living-less now live less taken s h w l.lives;
      past = l.past;
      covered = l.covered;
      fit = weigh-where_zero (unfit r (only_key k) now live taken)
          (unfit r (only_key k) now less taken)
          (λ p v. ended-unfit r k now live less taken s p of w v) ps l.fit;
      single = l.single;
      idle = λ j x f z. sym (r.local j (rows_at live) (rows_at less) (others j f) x)
          ∙ l.idle j x f z;
      right = λ x t below. (let a : weigh (piece_at r (rows_at live) x t) ps
          ≡ weigh (piece_at r (rows_at less) x t) ps =
          weigh-where (unfit r (only_key k) now live taken) (piece_at r (rows_at live) x t)
          (piece_at r (rows_at less) x t)
          (λ p v. other-piece r k now live less taken x t p below others v) ps l.fit in
          let b = l.right x t below in omega (arith, a, b));
    }
