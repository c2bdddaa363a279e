-- How the pieces go on as time passes, and as elements come and end.
use Rattle.std.proofs.Common.{◌≡◌, ℕ, zero, suc, ◌+◌, ◌*◌, ◌≤◌, ◌<◌, ◌⊎◌, Bool, true, false}
use Rattle.std.proofs.Common.{cond, eqb, nat_le, nat_lt, List, [], ◌∷◌}
use Rattle.std.proofs.Common.{refl, sym, ap, ◌∙◌, arith}
use Rattle.std.proofs.Common.{inl, inr}
use Rattle.std.specs.List.{filter}
use Rattle.std.proofs.lemmas.Bool.{cases_lt}
use Rattle.std.proofs.lemmas.Bool.Decides.{nat_tests}
use Rattle.pipes_time.specs.Interval.{Span}
use Rattle.pipes_tuple.specs.Equal.{tuple_eq}
use Rattle.pipes_tuple.specs.Bag.{count}
use Rattle.pipes_tuple.proofs.Equality.{tuple_eq-Decides}
use Rattle.pipes_stream.specs.declared.Elem.{Elem}
use Rattle.pipes_stream.specs.Snapshot.{is_held}
use Rattle.pipes_timeline.specs.declared.piece.Piece.{Piece}
use Rattle.pipes_timeline.specs.declared.piece.Piece.TheVariants as piece
use Rattle.pipes_stream.specs.Weights.{weigh}
use Rattle.pipes_stream.proofs.Weights.{weigh-plus}
use Rattle.pipes_stream.proofs.Weights.{weigh-where, weigh-where_zero}
use Rattle.pipes_stream.proofs.Weights.{weigh-filter, weigh-count, weigh-map}
use Rattle.pipes_timeline.specs.Rules.{Row, Arrival, rows_at, valid_at, SameOfKey}
use Rattle.pipes_timeline.specs.Rules.{row_of_key}
use Rattle.pipes_timeline.specs.Rules.{KeyRule}
use Rattle.pipes_timeline.specs.Lines.{ends_after, ends_before, starts_after, copy_at}
use Rattle.pipes_timeline.specs.Lines.{piece_at, opens}
use Rattle.pipes_timeline.specs.Lines.{unfit, Living, PiecesStand, no_key}

-- ---- keys
pub self-key : (k : Row) → tuple_eq k k ≡ true
self-key k = (tuple_eq-Decides k k).1 refl

pub same-key : (j k : Row) → tuple_eq j k ≡ true → j ≡ k
same-key j k e = (tuple_eq-Decides j k).0 e

pub bool-cases : (b : Bool) → (b ≡ true) ⊎ (b ≡ false)
bool-cases true = inl refl
bool-cases false = inr refl

pub back-key : (j k : Row) (b : Bool) → tuple_eq j k ≡ b → tuple_eq k j ≡ b
back-key j k true e = (tuple_eq-Decides k j).1 (sym (same-key j k e))
back-key j k false e = elim (bool-cases (tuple_eq k j)) [
  | inl h ↦ absurd (let a : tuple_eq j k ≡ true = (tuple_eq-Decides j k).1 (sym (same-key k j h)) in
      let c : true ≡ false = sym a ∙ e in cc)
  | inr h ↦ h
]

pub one-if : (b : Bool) → b ≡ true → cond {A = ℕ} b 1 0 ≡ 1
one-if b e = ap (λ (c : Bool). cond {A = ℕ} c 1 0) e

pub zero-if : (b : Bool) → b ≡ false → cond {A = ℕ} b 1 0 ≡ 0
zero-if b e = ap (λ (c : Bool). cond {A = ℕ} c 1 0) e

pub if-zero : (b : Bool) → cond {A = ℕ} b 1 0 ≡ 0 → b ≡ false
if-zero true z = absurd (omega arith)
if-zero false z = refl

-- ---- rows
-- how often a row came at a port
abbrev pub is_row : ℕ → Row → Arrival → ℕ
is_row port row s = cond (eqb s.0 port) (cond (tuple_eq s.1.tuple row) 1 0) 0

pub count-rows_at : (row : Row) (port : ℕ) (es : List Arrival)
    → count row (rows_at es port) ≡ weigh (is_row port row) es
count-rows_at row port es =
    weigh-count (λ (q : Row). tuple_eq q row) (rows_at es port)
    ∙ weigh-map (λ (q : Row). cond {A = ℕ} (tuple_eq q row) 1 0) (λ (s : Arrival). s.1.tuple)
    (filter (λ (s : Arrival). eqb s.0 port) es)
    ∙ weigh-filter (λ (s : Arrival). cond {A = ℕ} (tuple_eq s.1.tuple row) 1 0)
    (λ (s : Arrival). eqb s.0 port) es

pub key-rows_at : (key : Row → Row) (k : Row) (port : ℕ) (es : List Arrival)
    → weigh (row_of_key key k) (rows_at es port)
    ≡ weigh (λ s. cond (eqb s.0 port) (row_of_key key k s.1.tuple) 0) es
key-rows_at key k port es =
    weigh-map (row_of_key key k) (λ (s : Arrival). s.1.tuple)
    (filter (λ (s : Arrival). eqb s.0 port) es)
    ∙ weigh-filter (λ (s : Arrival). row_of_key key k s.1.tuple) (λ (s : Arrival). eqb s.0 port) es

-- elements that weigh alike give equally many rows
pub same-rows : (key : Row → Row) (k : Row) (es others : List Arrival)
    → ((f : Arrival → ℕ) → weigh f es ≡ weigh f others)
    → SameOfKey key k (rows_at es) (rows_at others)
same-rows key k es others w port row e =
    count-rows_at row port es ∙ w (is_row port row) ∙ sym (count-rows_at row port others)

-- ---- time
over-later : (now n : ℕ) (span : Span) → now ≤ n → ends_after now span ≡ 0 → ends_after n span ≡ 0
over-later now n span h z = grind (arith, nat_tests)

line-begun_later : (now n : ℕ) (span : Span) → now ≤ n → starts_after now span ≡ 0
    → starts_after n span ≡ 0
line-begun_later now n span h z = grind (arith, nat_tests)

over-held : (now t : ℕ) (span : Span) → now ≤ t → ends_after now span ≡ 0 → is_held span t ≡ false
over-held now t span h z = grind (arith, nat_tests)

live-held : (now n t : ℕ) (span : Span) → now ≤ t → t < n → starts_after now span ≡ 0
    → ends_before n span ≡ 0 → is_held span t ≡ true
live-held now n t span h l z w = grind (arith, nat_tests)

pub held-weight : (b : Bool) (x : ℕ) → b ≡ true → cond b x 0 ≡ x
held-weight b x e = ap (λ (c : Bool). cond {A = ℕ} c x 0) e

pub none-weight : (b : Bool) (x : ℕ) → b ≡ false → cond b x 0 ≡ 0
none-weight b x e = ap (λ (c : Bool). cond {A = ℕ} c x 0) e

pub living-later : (now n : ℕ) (live taken : List Arrival) → now ≤ n
    → weigh (λ (s : Arrival). ends_before n s.1.span) live ≡ 0 → Living now live taken
    → Living n live taken
living-later now n live taken h z l = record {
  gone = l.gone;
  split = l.split;
  over = weigh-where_zero (λ (s : Arrival). ends_after now s.1.span)
      (λ (s : Arrival). ends_after n s.1.span) (λ s w. over-later now n s.1.span h w) l.gone l.over;
  going = z;
  begun = weigh-where_zero (λ (s : Arrival). starts_after now s.1.span)
      (λ (s : Arrival). starts_after n s.1.span) (λ s w. line-begun_later now n s.1.span h w) live
      l.begun;
  most = l.most;
}

-- from now until the first end, what is valid is what lives
pub living-valid : (now n t : ℕ) (live taken : List Arrival) → now ≤ t → t < n
    → weigh (λ (s : Arrival). ends_before n s.1.span) live ≡ 0 → Living now live taken
    → (f : Arrival → ℕ) → weigh f (valid_at t taken) ≡ weigh f live
living-valid now n t live taken h l z w f =
    let held : Arrival → ℕ = λ s. cond (is_held s.1.span t) (f s) 0 in
    let a : weigh f (valid_at t taken) ≡ weigh held taken =
    weigh-filter f (λ (s : Arrival). is_held s.1.span t) taken in
    let b : weigh held taken ≡ weigh held live + weigh held w.gone = w.split held in
    let c : weigh held w.gone ≡ 0 =
    weigh-where_zero (λ (s : Arrival). ends_after now s.1.span) held
    (λ s v. none-weight (is_held s.1.span t) (f s) (over-held now t s.1.span h v)) w.gone w.over in
    let both : weigh (λ (s : Arrival). starts_after now s.1.span + ends_before n s.1.span)
    live ≡ 0 =
    weigh-plus (λ (s : Arrival). starts_after now s.1.span)
    (λ (s : Arrival). ends_before n s.1.span) live ∙ (let d = w.begun in omega (arith, d, z)) in
    let e : weigh held live ≡ weigh f live =
    weigh-where (λ (s : Arrival). starts_after now s.1.span + ends_before n s.1.span) held f
    (λ s v. held-weight (is_held s.1.span t) (f s)
    (live-held now n t s.1.span h l (omega arith) (omega arith))) live both in
    omega (arith, a, b, c, e)

-- ---- pieces
pub times-none : (n m : ℕ) → m ≡ 0 → n * m ≡ 0
times-none n m h = rw h (omega arith)

past-copy : (x : Row) (now t : ℕ) (e : Elem) → now ≤ t → ends_after now e.span ≡ 0
    → copy_at x t e ≡ 0
past-copy x now t e h z =
    none-weight (is_held e.span t) (cond (tuple_eq e.tuple x) 1 0) (over-held now t e.span h z)

pub begun-on : (b now t x : ℕ) → now ≤ t → cond {A = ℕ} (nat_lt now b) 1 0 ≡ 0
    → cond (nat_le b t) x 0 ≡ x
begun-on b now t x h z = grind (arith, nat_tests)

pub piece-not_yet : (b t x : ℕ) → t < b → cond {A = ℕ} (nat_le b t) x 0 ≡ 0
piece-not_yet b t x h = grind (arith, nat_tests)

pub not-lt : (a b : ℕ) → cond {A = ℕ} (nat_lt a b) 1 0 ≡ 0 → b ≤ a
not-lt a b z = grind (arith, nat_tests)

pub lt-not : (a b : ℕ) → b ≤ a → cond {A = ℕ} (nat_lt a b) 1 0 ≡ 0
lt-not a b h = grind (arith, nat_tests)

pub lt-one : (a b : ℕ) → a < b → cond {A = ℕ} (nat_lt a b) 1 0 ≡ 1
lt-one a b h = grind (arith, nat_tests)

-- what the pieces give from now on: nothing where the key has no open piece
module _ (r : KeyRule) (free : Row → Bool) (now t : ℕ) (live taken : List Arrival) (x : Row)
    (h : now ≤ t) where
  abbrev k : Row
  k = r.key_of_answer x

  abbrev v : ℕ
  v = r.gives k (rows_at live) x

  other-open : (j : Row) (b : ℕ) → tuple_eq j k ≡ false
      → piece_at r (rows_at live) x t (piece.Open j b) ≡ 0
  other-open j b n =
      let a : r.gives j (rows_at live) x ≡ 0 = r.own j x (rows_at live) (back-key j k false n) in
      rw a (both (nat_le b t))
    where
      both : (c : Bool) → cond {A = ℕ} c 0 0 ≡ 0
      both true = refl
      both false = refl

  shut-piece : (e : Elem) (many : ℕ) → ends_after now e.span ≡ 0 → many * copy_at x t e ≡ 0
  shut-piece e many z = times-none many (copy_at x t e) (past-copy x now t e h z)

  pub pieces-none : (ps : List Piece) → weigh (unfit r free now live taken) ps ≡ 0
      → weigh (opens k) ps ≡ 0 → weigh (piece_at r (rows_at live) x t) ps ≡ 0
  pieces-none [] z o = refl
  pieces-none (piece.Open j b ∷ ps) z o =
      let n : tuple_eq j k ≡ false = if-zero (tuple_eq j k) (omega arith) in
      omega (arith, other-open j b n, pieces-none ps (omega arith) (omega arith))
  pieces-none (piece.Closed e many ∷ ps) z o =
      omega (arith, shut-piece e many (omega arith), pieces-none ps (omega arith) (omega arith))
  pieces-none (piece.Void b ∷ ps) z o = omega (arith, pieces-none ps (omega arith) (omega arith))

  open-head : (j : Row) (b : ℕ) (ps : List Piece) (c : Bool) → tuple_eq j k ≡ c
      → cond {A = ℕ} (nat_lt now b) 1 0 ≡ 0 → weigh (unfit r free now live taken) ps ≡ 0
      → cond {A = ℕ} c 1 0 + weigh (opens k) ps ≡ 1
      → (weigh (opens k) ps ≡ 1 → weigh (piece_at r (rows_at live) x t) ps ≡ v)
      → piece_at r (rows_at live) x t (piece.Open j b) + weigh (piece_at r (rows_at live) x t) ps
      ≡ v
  open-head j b ps true e z f o ih =
      let a : cond (nat_le b t) (r.gives j (rows_at live) x) 0 ≡ r.gives j (rows_at live) x =
      begun-on b now t (r.gives j (rows_at live) x) h z in
      let c : r.gives j (rows_at live) x ≡ v =
      ap (λ (i : Row). r.gives i (rows_at live) x) (same-key j k e) in
      omega (arith, a, c, pieces-none ps f (omega arith))
  open-head j b ps false e z f o ih =
      omega (arith, other-open j b e, ih (omega arith))

  pub pieces-once : (ps : List Piece) → weigh (unfit r free now live taken) ps ≡ 0
      → weigh (opens k) ps ≡ 1 → weigh (piece_at r (rows_at live) x t) ps ≡ v
  pieces-once [] z o = absurd (omega arith)
  pieces-once (piece.Open j b ∷ ps) z o =
      open-head j b ps (tuple_eq j k) refl (omega arith) (omega arith) o
      (λ i. pieces-once ps (omega arith) i)
  pieces-once (piece.Closed e many ∷ ps) z o =
      omega (arith, shut-piece e many (omega arith), pieces-once ps (omega arith) (omega arith))
  pieces-once (piece.Void b ∷ ps) z o = omega (arith, pieces-once ps (omega arith) (omega arith))

unfit-later : (r : KeyRule) (now n : ℕ) (live taken : List Arrival) (p : Piece) → now ≤ n
    → unfit r no_key now live taken p ≡ 0 → unfit r no_key n live taken p ≡ 0
unfit-later r now n live taken (piece.Open k b) h z =
    let a : b ≤ now = not-lt now b (omega arith) in
    omega (arith, lt-not n b (omega arith))
unfit-later r now n live taken (piece.Closed e many) h z =
    omega (arith, over-later now n e.span h (omega arith))
unfit-later r now n live taken (piece.Void b) h z =
    let a : b ≤ now = not-lt now b z in lt-not n b (omega arith)

pub some-open : (n : ℕ) → n ≤ 1 → (n ≡ 0) ⊎ (n ≡ 1)
some-open zero h = inl refl
some-open (suc zero) h = inr refl
some-open (suc (suc n)) h = absurd (omega arith)

-- time goes on, no further than the first end
pub line-later : (r : KeyRule) (now n : ℕ) (live : List Arrival) (ps : List Piece)
    (taken : List Arrival) (sent : List Elem) → now ≤ n
    → weigh (λ (s : Arrival). ends_before n s.1.span) live ≡ 0
    → PiecesStand r no_key now live ps taken sent → PiecesStand r no_key n live ps taken sent
line-later r now n live ps taken sent h z l = record {
  lives = living-later now n live taken h z l.lives;
  past = weigh-where_zero (λ (e : Elem). ends_after now e.span) (λ (e : Elem). ends_after n e.span)
      (λ e w. over-later now n e.span h w) sent l.past;
  covered = l.covered;
  fit = weigh-where_zero (unfit r no_key now live taken) (unfit r no_key n live taken)
      (λ p w. unfit-later r now n live taken p h w) ps l.fit;
  single = l.single;
  idle = l.idle;
  right = λ x t below. elim (cases_lt t now) [
    | inl c ↦ l.right x t c
    | inr c ↦ (let k : Row = r.key_of_answer x in
        let a : weigh (copy_at x t) sent ≡ 0 =
        weigh-where_zero (λ (e : Elem). ends_after now e.span) (copy_at x t)
        (λ e w. past-copy x now t e c w) sent l.past in
        let same : r.gives k (rows_at (valid_at t taken)) x ≡ r.gives k (rows_at live) x =
        r.local k (rows_at (valid_at t taken)) (rows_at live)
        (same-rows r.key k (valid_at t taken) live
        (living-valid now n t live taken c below z l.lives)) x in
        elim (some-open (weigh (opens k) ps) (l.single k)) [
          | inl o ↦ (omega (
            arith,
            a,
            same,
            l.idle k x refl o,
            pieces-none r no_key now t live taken x c ps l.fit o,
          ))
          | inr o ↦ (omega (arith, a, same, pieces-once r no_key now t live taken x c ps l.fit o))
        ])
  ];
}
