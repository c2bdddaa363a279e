-- What an operator over a timeline stands for, and the law of such operators.
use Rattle.std.proofs.Common.{◌≡◌, ℕ, zero, suc, ◌+◌, ◌≤◌, ◌<◌, Bool, true, false, cond, eqb}
use Rattle.std.proofs.Common.{nat_le, nat_lt, ◌&&◌, min, List, [], ◌∷◌, length}
use Rattle.std.proofs.Common.{get_or, refl, sym, ap, ◌∙◌, subst, arith}
use Rattle.std.specs.List.{All, Contains, filter}
use Rattle.std.proofs.lemmas.Bool.Decides.{nat_tests}
use Rattle.std.proofs.lemmas.List.Elements.{All-nil, All-cons, All-head, All-tail}
use Rattle.std.proofs.lemmas.List.Elements.{Contains-get_or, Contains-append_right}
use Rattle.pipes_stream.proofs.Ports.{floor-below}
use Rattle.indexmap.specs.IndexMap.{get}
use Rattle.pipes_time.specs.Interval.{Span, closed, IsInterval}
use Rattle.pipes_tuple.specs.Equal.{tuple_eq}
use Rattle.pipes_tuple.specs.Kinds.{Fits}
use Rattle.pipes_tuple.specs.Bag.{count}
use Rattle.pipes_stream.specs.declared.Elem.{Elem}
use Rattle.pipes_stream.specs.declared.message.Message.{Message}
use Rattle.pipes_stream.specs.declared.message.Message.TheVariants as message
use Rattle.pipes_stream.specs.Progress.{Progress}
use Rattle.pipes_stream.specs.Snapshot.{is_held, snapshot}
use Rattle.pipes_stream.specs.Lists.{after, run, start_of_list, Valid, ValidFrom, beat}
use Rattle.pipes_stream.specs.Lists.{HasEnded, elements}
use Rattle.pipes_stream.specs.Lawful.{Task, Lists, Lawful, least, all_elements, floor, IsCovered}
use Rattle.pipes_stream.specs.Lawful.{open_count}
use Rattle.pipes_timeline.specs.declared.piece.Piece.{Piece}
use Rattle.pipes_timeline.specs.declared.piece.Piece.TheVariants as piece
use Rattle.pipes_timeline.specs.declared.timeline.Timeline.{Timeline}
use Rattle.pipes_stream.specs.Weights.{weigh}
use Rattle.pipes_stream.proofs.Weights.{weigh-where, weigh-filter}
use Rattle.pipes_stream.proofs.Weights.{weigh-count, weigh-map, weigh-length}
use Rattle.pipes_timeline.specs.Rules.{Row, RowBags, Arrival, rows_at, valid_at, KeyRule}
use Rattle.pipes_timeline.specs.Lines.{ends_after, ends_by, ends_before, copy_at}
use Rattle.pipes_timeline.specs.Lines.{starts_early, spans_over, is_bare, piece_at}
use Rattle.pipes_timeline.specs.Lines.{unfit, Living, PiecesStand, no_key}
use Rattle.pipes_timeline.specs.LineMoves.{self-key, one-if, times-none, piece-not_yet}
use Rattle.pipes_timeline.specs.LineMoves.{not-lt}
use Rattle.pipes_timeline.specs.LineChanges.{nothing-some, weigh-le-where}
use Rattle.pipes_timeline.specs.Queues.{InOrder, FirstIsOpen}
use Rattle.pipes_timeline.specs.Tables.{Good}
use Rattle.pipes_timeline.specs.Timelines.{Runs, reach}

-- The timeline has come to an instant with the elements that were taken; what was sent has come up
-- to the start of its first piece, which is open.
pub record TimelineStands {T R : Type 0} (r : KeyRule) (tells : Row → T → RowBags → Type 0)
    (t : Timeline T R) (h : ℕ) (ended : Bool) (taken : List Arrival) (sent : List Message)
    : Type 0 where
  pub now : t.instant ≡ h
  pub runs : Runs r tells (beat sent) t.ends t taken (elements sent)
  pub over : weigh (λ s. ends_by h s.1.span) t.ends ≡ 0
  pub waits : FirstIsOpen t.pieces.queue.items
  pub sent_valid : Valid sent
  pub sent_beat : beat sent ≡ reach t.pieces.queue.items h
  pub sent_ended : (run start_of_list sent).ended ≡ ended

-- ---- snapshots
pub snapshot-count : (x : Row) (t : ℕ) (es : List Elem)
    → count x (snapshot es t) ≡ weigh (copy_at x t) es
snapshot-count x t es =
    weigh-count (λ (q : Row). tuple_eq q x) (snapshot es t)
    ∙ weigh-map (λ (q : Row). cond {A = ℕ} (tuple_eq q x) 1 0) (λ (e : Elem). e.tuple)
    (filter (λ (e : Elem). is_held e.span t) es)
    ∙ weigh-filter (λ (e : Elem). cond {A = ℕ} (tuple_eq e.tuple x) 1 0)
    (λ (e : Elem). is_held e.span t) es

not-in : (t a b x : ℕ) → t < a → cond {A = ℕ} (nat_le a t && nat_lt t b) x 0 ≡ 0
not-in t a b x h = grind (arith, nat_tests)

-- pieces give nothing before they start
pieces-before : (r : KeyRule) (bags : RowBags) (x : Row) (t low : ℕ) (ps : List Piece) → t < low
    → InOrder low ps → weigh (piece_at r bags x t) ps ≡ 0
pieces-before r bags x t low [] h o = refl
pieces-before r bags x t low (piece.Open k b ∷ ps) h o =
    let a : low ≤ b = o.0 in
    let c = piece-not_yet b t (r.gives k bags x) (omega (arith, a, h)) in
    let d = pieces-before r bags x t b ps (omega (arith, a, h)) o.2 in
    omega (arith, c, d)
pieces-before r bags x t low (piece.Closed e many ∷ ps) h o =
    let a : low ≤ e.span.start = o.0 in
    let c = times-none many (copy_at x t e)
    (not-in t e.span.start e.span.end (cond (tuple_eq e.tuple x) 1 0) (omega (arith, a, h))) in
    let d = pieces-before r bags x t e.span.start ps (omega (arith, a, h)) o.2 in
    omega (arith, c, d)
pieces-before r bags x t low (piece.Void b ∷ ps) h o =
    let a : low ≤ b = o.0 in
    let d = pieces-before r bags x t b ps (omega (arith, a, h)) o.2 in
    omega (arith, d)

-- 1 for an element that starts early and reaches there
abbrev reaches_from : ℕ → ℕ → Elem → ℕ
reaches_from b h e = cond (nat_le e.span.start b) (cond (nat_le h e.span.end) 1 0) 0

floor-part : (b h : ℕ) (es : List Elem) → 0 < weigh (reaches_from b h) es → floor h es ≤ b
floor-part b h [] s = absurd (omega arith)
floor-part b h (e ∷ es) s =
    pick (floor-part b h es) (nat_le e.span.start b) (nat_le h e.span.end) (le-true e.span.start b)
    s
  where
    le-true : (n m : ℕ) → nat_le n m ≡ true → n ≤ m
    le-true n m e = grind (arith, nat_tests)

    pick : (0 < weigh (reaches_from b h) es → floor h es ≤ b) → (c d : Bool)
        → (c ≡ true → e.span.start ≤ b)
        → 0 < cond {A = ℕ} c (cond {A = ℕ} d 1 0) 0 + weigh (reaches_from b h) es
        → min (cond d e.span.start h) (floor h es) ≤ b
    pick rest true true f v = let a = f refl in omega (arith, a)
    pick rest true false f v = let a = rest (omega (arith, v)) in omega (arith, a)
    pick rest false d f v = let a = rest (omega (arith, v)) in omega (arith, a)

early-reaches : (key : Row → Row) (k : Row) (b h : ℕ) (s : Arrival) → ends_before h s.1.span ≡ 0
    → starts_early key k b s ≤ reaches_from b h s.1
early-reaches key k b h s z = pick (eqb s.0 0) (tuple_eq (key s.1.tuple) k)
    (nat_le s.1.span.start b)
  where
    far : cond {A = ℕ} (nat_le h s.1.span.end) 1 0 ≡ 1
    far = grind (arith, nat_tests)

    pick : (c d f : Bool) → cond {A = ℕ} c (cond {A = ℕ} d (cond {A = ℕ} f 1 0) 0) 0
        ≤ cond {A = ℕ} f (cond {A = ℕ} (nat_le h s.1.span.end) 1 0) 0
    pick true true true = omega (arith, far)
    pick true true false = omega arith
    pick true false f = omega arith
    pick false d f = omega arith

-- the start of the first piece is no further back than an element that reaches to now
reach-floor : (r : KeyRule) (now : ℕ) (live taken : List Arrival) (ps : List Piece)
    (all : List Elem) → FirstIsOpen ps → weigh (unfit r no_key now live taken) ps ≡ 0
    → Living now live taken
    → ((f : Elem → ℕ) → weigh (λ (s : Arrival). f s.1) taken ≤ weigh f all)
    → (floor now all ≤ reach ps now) × (reach ps now ≤ now)
reach-floor r now live taken [] all w z l among = (floor-below now all, omega arith)
reach-floor r now live taken (piece.Closed e many ∷ ps) all w z l among = absurd w
reach-floor r now live taken (piece.Void b ∷ ps) all w z l among = absurd w
reach-floor r now live taken (piece.Open k b ∷ ps) all w z l among =
    let some : 0 < weigh (starts_early r.key k b) live =
    nothing-some (weigh (starts_early r.key k b) live) (omega (arith, z)) in
    let a = weigh-le-where (λ (s : Arrival). ends_before now s.1.span) (starts_early r.key k b)
    (λ (s : Arrival). reaches_from b now s.1)
    (λ s v. early-reaches r.key k b now s v) live l.going in
    let c = l.split (λ (s : Arrival). reaches_from b now s.1) in
    let d = among (reaches_from b now) in
    (floor-part b now all (omega (arith, some, a, c, d)), not-lt now b (omega (arith, z)))

-- ---- what was sent
-- the element at a place weighs no more than all
get-weight : {X : Type 0} (f : X → ℕ) (xs : List X) (i : ℕ) (d : X) → i < length xs
    → f (get_or xs i d) ≤ weigh f xs
get-weight f [] i d h = absurd (omega arith)
get-weight f (x ∷ xs) zero d h = omega arith
get-weight f (x ∷ xs) (suc i) d h = omega (arith, get-weight f xs i d (omega arith))

each-weight : {X : Type 0} (f : X → ℕ) (xs : List X) → weigh f xs ≡ 0 → All (λ x. f x ≡ 0) xs
each-weight f [] z = All-nil (λ x. f x ≡ 0)
each-weight f (x ∷ xs) z =
    All-cons (λ x. f x ≡ 0) x xs (omega arith) (each-weight f xs (omega arith))

-- an element that spans this one
spans-some : (span : Span) (es : List Elem)
    → 0 < weigh (λ (d : Elem). spans_over span (0, d)) es
    → (d : Elem) × Contains es d × (d.span.start ≤ span.start) × (span.end ≤ d.span.end)
spans-some span [] s = absurd (omega arith)
spans-some span (e ∷ es) s =
    pick (spans-some span es) (nat_le e.span.start span.start) (nat_le span.end e.span.end)
    (le-true e.span.start span.start) (le-true span.end e.span.end) s
  where
    le-true : (n m : ℕ) → nat_le n m ≡ true → n ≤ m
    le-true n m e = grind (arith, nat_tests)

    later : (d : Elem) × Contains es d × (d.span.start ≤ span.start) × (span.end ≤ d.span.end)
        → (d : Elem) × Contains (e ∷ es) d × (d.span.start ≤ span.start) × (span.end ≤ d.span.end)
    later p = (p.0, Contains-append_right (e ∷ []) es p.0 p.1, p.2, p.3)

    pick : (0 < weigh (λ (d : Elem). spans_over span (0, d)) es
        → (d : Elem) × Contains es d × (d.span.start ≤ span.start) × (span.end ≤ d.span.end))
        → (c d : Bool) → (c ≡ true → e.span.start ≤ span.start) → (d ≡ true → span.end ≤ e.span.end)
        → 0 < cond {A = ℕ} c (cond {A = ℕ} d 1 0) 0
        + weigh (λ (d : Elem). spans_over span (0, d)) es
        → (d : Elem) × Contains (e ∷ es) d × (d.span.start ≤ span.start) × (span.end ≤ d.span.end)
    pick rest true true f g v = (e, Contains-get_or (e ∷ es) 0 e (omega arith), f refl, g refl)
    pick rest true false f g v = later (rest (omega (arith, v)))
    pick rest false d f g v = later (rest (omega (arith, v)))

sent-covered : (taken : List Arrival) (all sent : List Elem)
    → ((f : Elem → ℕ) → weigh (λ (s : Arrival). f s.1) taken ≤ weigh f all)
    → weigh (is_bare taken) sent ≡ 0 → All (IsCovered all) sent
sent-covered taken all [] among z = All-nil (IsCovered all)
sent-covered taken all (e ∷ es) among z =
    let some : 0 < weigh (spans_over e.span) taken =
    nothing-some (weigh (spans_over e.span) taken) (omega (arith, z)) in
    let a = among (λ (d : Elem). spans_over e.span (0, d)) in
    All-cons (IsCovered all) e es (spans-some e.span all (omega (arith, some, a)))
    (sent-covered taken all es among (omega (arith, z)))

-- ---- what lives
after-one : (h : ℕ) (span : Span) → ends_by h span ≡ 0 → 1 ≡ ends_after h span
after-one h span z = grind (arith, nat_tests)

pub live-length : (h : ℕ) (live taken : List Arrival) → Living h live taken
    → weigh (λ (s : Arrival). ends_by h s.1.span) live ≡ 0
    → length live ≡ weigh (λ (s : Arrival). ends_after h s.1.span) taken
live-length h live taken l over =
    let a = l.split (λ (s : Arrival). ends_after h s.1.span) in
    let b = l.over in
    let c = weigh-where (λ (s : Arrival). ends_by h s.1.span) (λ (s : Arrival). 1)
    (λ (s : Arrival). ends_after h s.1.span) (λ s z. after-one h s.1.span z) live over in
    omega (arith, a, b, c, weigh-length live)

-- ---- the law
pub record RuleAnswers (task : Task) (r : KeyRule) (h : ℕ) (taken : List Arrival) (lists : Lists)
    : Type 0 where
  -- what the keys give is what the operator makes of the snapshots
  pub meaning : (x : Row) (t : ℕ) → t < h
      → r.gives (r.key_of_answer x) (rows_at (valid_at t taken)) x
      ≡ count x (task.meaning (λ port. snapshot (elements (lists port)) t))
  pub fits : (x : Row) (t : ℕ) → t < h
      → 0 < r.gives (r.key_of_answer x) (rows_at (valid_at t taken)) x → Fits x task.gives
  pub among : (f : Elem → ℕ)
      → weigh (λ (s : Arrival). f s.1) taken ≤ weigh f (all_elements task.ports lists)

pub valid-spans : (p : Progress) (ms : List Message) → ValidFrom p ms
    → All (λ e. IsInterval e.span.start e.span.end) (elements ms)
valid-spans p [] v = All-nil (λ (e : Elem). IsInterval e.span.start e.span.end)
valid-spans p (message.Elem e ∷ ms) v =
    All-cons (λ (e : Elem). IsInterval e.span.start e.span.end) e (elements ms) v.0.2
    (valid-spans (after p (message.Elem e)) ms v.1)
valid-spans p (message.Beat at ∷ ms) v = valid-spans (after p (message.Beat at)) ms v.1
valid-spans p (message.End ∷ ms) v = valid-spans (after p message.End) ms v.1

-- no element of a valid list ends after the heartbeat of an end
ends-none_late : (es : List Elem) → All (λ e. IsInterval e.span.start e.span.end) es
    → weigh (λ (e : Elem). ends_after closed e.span) es ≡ 0
ends-none_late [] all = refl
ends-none_late (e ∷ es) all =
    let i = All-head (λ (e : Elem). IsInterval e.span.start e.span.end) e es all in
    let a = late e.span.end i.1 in
    let b = ends-none_late es (All-tail (λ (e : Elem). IsInterval e.span.start e.span.end) e es
    all) in
    omega (arith, a, b)
  where
    late : (n : ℕ) → n ≤ 1000000000000000 → cond {A = ℕ} (nat_lt closed n) 1 0 ≡ 0
    late n l = grind (arith, nat_tests)

pub closed-none : (ms : List Message) → Valid ms
    → weigh (λ (e : Elem). ends_after closed e.span) (elements ms) ≡ 0
closed-none ms v = ends-none_late (elements ms) (valid-spans start_of_list ms v)

module _ {T R : Type 0} (task : Task) (r : KeyRule) (tells : Row → T → RowBags → Type 0)
    (t : Timeline T R) (h : ℕ) (ended : Bool) (taken : List Arrival) (lists : Lists)
    (sent : List Message) (held : ℕ) where
  sent-fits : PiecesStand r no_key h t.ends t.pieces.queue.items taken (elements sent)
      → RuleAnswers task r h taken lists → Valid sent → All (λ e. Fits e.tuple task.gives)
      (elements sent)
  sent-fits line answers valid = All-from-each (elements sent) (λ i d low.
      let e : Elem = get_or (elements sent) i d in
      let inside = each-at (λ (e : Elem). IsInterval e.span.start e.span.end) (elements sent) i d
      low
      (valid-spans start_of_list sent valid) in
      let over = each-at (λ (e : Elem). ends_after h e.span ≡ 0) (elements sent) i d low
      (each-weight (λ (e : Elem). ends_after h e.span) (elements sent) line.past) in
      let upto : e.span.end ≤ h = not-lt h e.span.end over in
      let rises : e.span.start < e.span.end = inside.0 in
      let one : copy_at e.tuple e.span.start e ≡ 1 = own-copy e rises in
      let some = get-weight (copy_at e.tuple e.span.start) (elements sent) i d low in
      let right = line.right e.tuple e.span.start (omega (arith, upto, rises)) in
      answers.fits e.tuple e.span.start (omega (arith, upto, rises))
      (omega (arith, one, some, right)))
    where
      each-at : (P : Elem → Type 0) (es : List Elem) (i : ℕ) (d : Elem) → i < length es → All P es
          → P (get_or es i d)
      each-at P [] i d low all = absurd (omega arith)
      each-at P (e ∷ es) zero d low all = All-head P e es all
      each-at P (e ∷ es) (suc i) d low all = each-at P es i d (omega arith) (All-tail P e es all)

      All-from-each : (es : List Elem)
          → ((i : ℕ) (d : Elem) → i < length es → Fits (get_or es i d).tuple task.gives)
          → All (λ e. Fits e.tuple task.gives) es
      All-from-each [] f = All-nil (λ (e : Elem). Fits e.tuple task.gives)
      All-from-each (e ∷ es) f =
          All-cons (λ (e : Elem). Fits e.tuple task.gives) e es (f 0 e (omega arith))
          (All-from-each es (λ i d low. f (suc i) d (omega arith)))

      own-copy : (e : Elem) → e.span.start < e.span.end → copy_at e.tuple e.span.start e ≡ 1
      own-copy e rises =
          let a : is_held e.span e.span.start ≡ true = is-in e.span.start e.span.end rises in
          ap (λ (b : Bool). cond {A = ℕ} b (cond {A = ℕ} (tuple_eq e.tuple e.tuple) 1 0) 0) a
          ∙ one-if (tuple_eq e.tuple e.tuple) (self-key e.tuple)
        where
          is-in : (a b : ℕ) → a < b → (nat_le a a && nat_lt a b) ≡ true
          is-in a b l = grind (arith, nat_tests)

  pub timeline_lawful : TimelineStands r tells t h ended taken sent → h ≡ least task.ports lists
      → task.lags ≡ true → RuleAnswers task r h taken lists
      → (((port : ℕ) → port < task.ports → HasEnded (lists port))
      → (ended ≡ true) × (held ≡ 0))
      → held ≤ open_count h (all_elements task.ports lists)
      → Lawful task lists sent held
  timeline_lawful s is lags answers ends few =
      let g : Good r tells no_key (beat sent) h t.ends (get tuple_eq t.slots) t.pieces.base
      t.pieces.queue.items taken (elements sent) =
      subst (λ (n : ℕ). Good r tells no_key (beat sent) n t.ends (get tuple_eq t.slots)
      t.pieces.base t.pieces.queue.items taken (elements sent)) s.now s.runs in
      let line = g.line in
      let all : List Elem = all_elements task.ports lists in
      let low = reach-floor r h t.ends taken t.pieces.queue.items all s.waits line.fit
      line.lives answers.among in
      let at = s.sent_beat in
      record {
        valid = s.sent_valid;
        fits = sent-fits line answers s.sent_valid;
        answer = λ i b. record {
          counts = λ x.
              (let c = snapshot-count x i (elements sent) in
              let d = pieces-before r (rows_at t.ends) x i (beat sent) t.pieces.queue.items b
              g.order in
              let before : i < h = omega (arith, b, at, low.1) in
              let e = line.right x i before in
              let f = answers.meaning x i before in
              omega (arith, c, d, e, f));
        };
        below = omega (arith, at, low.1, is);
        above = subst (λ (n : ℕ). floor n all ≤ beat sent) is
            (let c = low.0 in omega (arith, at, c));
        prompt = λ no. absurd (let e : true ≡ false = sym lags ∙ no in cc);
        ends = λ over. (let e = ends over in (s.sent_ended ∙ e.0, e.1));
        few = subst (λ (n : ℕ). held ≤ open_count n all) is few;
        spans = sent-covered taken all (elements sent) answers.among line.covered;
      }
