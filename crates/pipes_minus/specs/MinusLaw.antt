-- A difference is lawful.
use Rattle.std.proofs.Common.{◌≡◌, ℕ, zero, suc, ◌+◌, ◌-◌, ◌≤◌, ◌<◌, Bool, true, false, cond}
use Rattle.std.proofs.Common.{eqb, nat_le, nat_lt, ◌&&◌, List, [], ◌∷◌, length, refl}
use Rattle.std.proofs.Common.{sym, ◌∙◌, subst, ap, arith}
use Rattle.std.specs.List.{All}
use Rattle.std.proofs.lemmas.Bool.Decides.{nat_tests}
use Rattle.std.proofs.lemmas.List.Elements.{All-head, All-tail}
use Rattle.pipes_timeline.specs.LineOpens.{not-held}
use Rattle.pipes_time.specs.Interval.{Span, closed, IsInterval}
use Rattle.pipes_tuple.specs.declared.value.Kind.{Kind}
use Rattle.pipes_tuple.specs.Equal.{tuple_eq}
use Rattle.pipes_tuple.specs.Kinds.{Fits}
use Rattle.pipes_tuple.specs.Bag.{count}
use Rattle.pipes_stream.specs.declared.Elem.{Elem}
use Rattle.pipes_stream.specs.declared.message.Message.{Message}
use Rattle.pipes_stream.specs.Progress.{Progress}
use Rattle.pipes_stream.specs.Snapshot.{is_held, snapshot}
use Rattle.pipes_stream.specs.Lists.{start_of_list, beat, elements}
use Rattle.pipes_stream.specs.Lawful.{Lists, Lawful, least, all_elements, open_count}
use Rattle.pipes_stream.proofs.Messages.{beat-ended}
use Rattle.pipes_stream.specs.Weights.{weigh}
use Rattle.pipes_stream.proofs.Weights.{weigh-append, weigh-plus, weigh-same}
use Rattle.pipes_stream.proofs.Weights.{weigh-where, weigh-where_zero, weigh-filter}
use Rattle.pipes_stream.proofs.Weights.{weigh-count, weigh-length}
use Rattle.pipes_timeline.specs.Rules.{Row, Arrival, rows_at, valid_at}
use Rattle.pipes_timeline.specs.Lines.{ends_after, copy_at, Living}
use Rattle.pipes_timeline.specs.LineMoves.{self-key, same-key, is_row, count-rows_at, none-weight}
use Rattle.pipes_timeline.specs.Stands.{RuleAnswers, timeline_lawful}
use Rattle.pipes_timeline.specs.Stands.{snapshot-count}
use Rattle.pipes_timeline.specs.Stands.{live-length, valid-spans, closed-none}
use Rattle.pipes_minus.specs.declared.minus.Minus.{Minus}
use Rattle.pipes_minus.specs.Tasks.{minus_task}
use Rattle.pipes_minus.specs.Differences.{left_copies, minus_rule, MinusTells, count-minus}
use Rattle.pipes_minus.specs.Feeds.{arrives_by}
use Rattle.pipes_minus.specs.Minuses.{at_port, MinusStands}

-- ---- rows of a port
held-row : (port : ℕ) (x : Row) (t : ℕ) (s : Arrival)
    → cond (is_held s.1.span t) (is_row port x s) 0 ≡ at_port port (copy_at x t) s
held-row port x t s = pick (is_held s.1.span t) (eqb s.0 port)
  where
    pick : (b c : Bool) → cond {A = ℕ} b (cond {A = ℕ} c (cond {A = ℕ} (tuple_eq s.1.tuple x) 1 0)
        0) 0
        ≡ cond {A = ℕ} c (cond {A = ℕ} b (cond {A = ℕ} (tuple_eq s.1.tuple x) 1 0) 0) 0
    pick true true = refl
    pick true false = refl
    pick false true = refl
    pick false false = refl

by-start : (h : ℕ) (s : Arrival) → arrives_by h s ≡ 0 → h < s.1.span.start
by-start h s z = grind (arith, nat_tests)

waits-none : (h t port : ℕ) (x : Row) (waits : List Arrival) → t < h
    → weigh (arrives_by h) waits ≡ 0 → weigh (at_port port (copy_at x t)) waits ≡ 0
waits-none h t port x waits low z =
    weigh-where_zero (arrives_by h) (at_port port (copy_at x t))
    (λ s w. let a : h < s.1.span.start = by-start h s w in
    let b : copy_at x t s.1 ≡ 0 = none-weight (is_held s.1.span t)
    (cond (tuple_eq s.1.tuple x) 1 0)
    (not-held t s.1.span (omega (arith, a, low))) in
    none (eqb s.0 port) (copy_at x t s.1) b) waits z
  where
    none : (b : Bool) (n : ℕ) → n ≡ 0 → cond b n 0 ≡ 0
    none true n e = e
    none false n e = refl

-- below the least heartbeat the rows taken in are those of the snapshots
pub rows-taken : (m : Minus) (taken : Lists) (sent : List Message) (s : MinusStands m taken sent)
    (port t : ℕ) (x : Row) → port < 2 → t < least 2 taken
    → count x (rows_at (valid_at t s.fed) port) ≡ count x (snapshot (elements (taken port)) t)
rows-taken m taken sent s port t x p low =
    let a = count-rows_at x port (valid_at t s.fed) in
    let b = weigh-filter (is_row port x) (λ (d : Arrival). is_held d.1.span t) s.fed in
    let c = weigh-same (λ (d : Arrival). cond (is_held d.1.span t) (is_row port x d) 0)
    (at_port port (copy_at x t)) (λ d. held-row port x t d) s.fed in
    let d = snapshot-count x t (elements (taken port)) in
    let e = s.split port (copy_at x t) p in
    let f = waits-none (least 2 taken) t port x m.waits low s.later in
    omega (arith, a, b, c, d, e, f)

-- ---- both ports
abbrev other_port : Arrival → ℕ
other_port s = cond (nat_lt s.0 2) 0 1

two-ports : (f : Elem → ℕ) (s : Arrival) → other_port s ≡ 0 → f s.1 ≡ at_port 0 f s + at_port 1 f s
two-ports f s z = pick s.0 z
  where
    pick : (n : ℕ) → cond {A = ℕ} (nat_lt n 2) 0 1 ≡ 0
        → f s.1 ≡ cond (eqb n 0) (f s.1) 0 + cond (eqb n 1) (f s.1) 0
    pick zero w = omega arith
    pick (suc zero) w = omega arith
    pick (suc (suc n)) w = absurd (grind (arith, nat_tests))

both-ports : (f : Elem → ℕ) (es : List Arrival) → weigh other_port es ≡ 0
    → weigh (λ (s : Arrival). f s.1) es ≡ weigh (at_port 0 f) es + weigh (at_port 1 f) es
both-ports f es z =
    weigh-where other_port (λ (s : Arrival). f s.1) (λ (s : Arrival). at_port 0 f s + at_port 1 f s)
    (λ s w. two-ports f s w) es z
    ∙ weigh-plus (at_port 0 f) (at_port 1 f) es

-- all that was taken
pub all-taken : (m : Minus) (taken : Lists) (sent : List Message) (s : MinusStands m taken sent)
    (f : Elem → ℕ) → weigh f (all_elements 2 taken)
    ≡ weigh (λ (d : Arrival). f d.1) s.fed + weigh (λ (d : Arrival). f d.1) m.waits
all-taken m taken sent s f =
    let a = weigh-append f (all_elements 1 taken) (elements (taken 1)) in
    let b = weigh-append f [] (elements (taken 0)) in
    let c = s.split 0 f (omega arith) in
    let d = s.split 1 f (omega arith) in
    let p = s.ports in
    let e = both-ports f s.fed (omega (arith, p)) in
    let g = both-ports f m.waits (omega (arith, p)) in
    omega (arith, a, b, c, d, e, g)

-- ---- what is held
-- 1 for a span that is no interval
abbrev no_interval : Elem → ℕ
no_interval e = cond (nat_lt e.span.start e.span.end && nat_le e.span.end 1000000000000000) 0 1

sound-spans : (es : List Elem) → All (λ e. IsInterval e.span.start e.span.end) es
    → weigh no_interval es ≡ 0
sound-spans [] all = refl
sound-spans (e ∷ es) all =
    let i = All-head (λ (e : Elem). IsInterval e.span.start e.span.end) e es all in
    let a = one e.span.start e.span.end i.0 i.1 in
    let b = sound-spans es (All-tail (λ (e : Elem). IsInterval e.span.start e.span.end) e es all) in
    omega (arith, a, b)
  where
    one : (a b : ℕ) → a < b → b ≤ 1000000000000000
        → cond {A = ℕ} (nat_lt a b && nat_le b 1000000000000000) 0 1 ≡ 0
    one a b h l = grind (arith, nat_tests)

waits-sound : (m : Minus) (taken : Lists) (sent : List Message) → MinusStands m taken sent
    → weigh (λ (d : Arrival). no_interval d.1) m.waits ≡ 0
waits-sound m taken sent s =
    let a = sound-spans (elements (taken 0)) (valid-spans start_of_list (taken 0)
    (s.taken_valid 0 (omega arith))) in
    let b = sound-spans (elements (taken 1)) (valid-spans start_of_list (taken 1)
    (s.taken_valid 1 (omega arith))) in
    let c = s.split 0 no_interval (omega arith) in
    let d = s.split 1 no_interval (omega arith) in
    let p = s.ports in
    let e = both-ports no_interval m.waits (omega (arith, p)) in
    omega (arith, a, b, c, d, e)

waits-last : (h : ℕ) (s : Arrival) → arrives_by h s + no_interval s.1 ≡ 0
    → 1 ≡ ends_after h s.1.span
waits-last h s z = grind (arith, nat_tests)

pub waits-open : (m : Minus) (taken : Lists) (sent : List Message) → MinusStands m taken sent
    → length m.waits ≡ weigh (λ (d : Arrival). ends_after (least 2 taken) d.1.span) m.waits
waits-open m taken sent s =
    let h : ℕ = least 2 taken in
    let a = s.later in
    let b = waits-sound m taken sent s in
    let c = weigh-plus (arrives_by h) (λ (d : Arrival). no_interval d.1) m.waits in
    sym (weigh-length m.waits)
    ∙ weigh-where (λ (d : Arrival). arrives_by h d + no_interval d.1) (λ (d : Arrival). 1)
    (λ (d : Arrival). ends_after h d.1.span) (λ d w. waits-last h d w) m.waits
    (omega (arith, a, b, c))

pub line-open : (m : Minus) (taken : Lists) (sent : List Message) (s : MinusStands m taken sent)
    → length m.line.ends ≡ weigh (λ (d : Arrival). ends_after (least 2 taken) d.1.span) s.fed
line-open m taken sent s =
    live-length (least 2 taken) m.line.ends s.fed
    (subst (λ (n : ℕ). Living n m.line.ends s.fed) s.line.now
    s.line.runs.line.lives) s.line.over

pub held-open : (m : Minus) (taken : Lists) (sent : List Message) → MinusStands m taken sent
    → length m.line.ends + length m.waits
    ≡ open_count (least 2 taken) (all_elements 2 taken)
held-open m taken sent s =
    let h : ℕ = least 2 taken in
    let a = line-open m taken sent s in
    let b = waits-open m taken sent s in
    let c = all-taken m taken sent s (λ (e : Elem). ends_after h e.span) in
    let d = weigh-count (λ (e : Elem). nat_lt h e.span.end) (all_elements 2 taken) in
    omega (arith, a, b, c, d)

-- after the ends of both nothing is open
pub none-open : (m : Minus) (taken : Lists) (sent : List Message) → MinusStands m taken sent
    → least 2 taken ≡ closed → open_count (least 2 taken) (all_elements 2 taken) ≡ 0
none-open m taken sent s end =
    let a = closed-none (taken 0) (s.taken_valid 0 (omega arith)) in
    let b = closed-none (taken 1) (s.taken_valid 1 (omega arith)) in
    let f : Elem → ℕ = λ e. ends_after closed e.span in
    let c = weigh-append f (all_elements 1 taken) (elements (taken 1)) in
    let d = weigh-append f [] (elements (taken 0)) in
    let e = weigh-count (λ (e : Elem). nat_lt closed e.span.end) (all_elements 2 taken) in
    ap (λ (n : ℕ). open_count n (all_elements 2 taken)) end ∙ omega (arith, a, b, c, d, e)

-- ---- the law
some-fits : (kinds : List Kind) (x : Row) (t : ℕ) (es : List Elem)
    → All (λ e. Fits e.tuple kinds) es
    → 0 < weigh (copy_at x t) es → Fits x kinds
some-fits kinds x t [] all s = absurd (omega arith)
some-fits kinds x t (e ∷ es) all s =
    pick (is_held e.span t) (tuple_eq e.tuple x) refl s
    (some-fits kinds x t es (All-tail (λ (e : Elem). Fits e.tuple kinds) e es all))
  where
    pick : (b c : Bool) → tuple_eq e.tuple x ≡ c
        → 0 < cond {A = ℕ} b (cond {A = ℕ} c 1 0) 0 + weigh (copy_at x t) es
        → (0 < weigh (copy_at x t) es → Fits x kinds) → Fits x kinds
    pick true true h w rest = subst (λ (q : Row). Fits q kinds) (same-key e.tuple x h)
        (All-head (λ (e : Elem). Fits e.tuple kinds) e es all)
    pick true false h w rest = rest (omega (arith, w))
    pick false c h w rest = rest (omega (arith, w))

minus_answers : (m : Minus) (taken : Lists) (sent : List Message) (s : MinusStands m taken sent)
    → RuleAnswers (minus_task m.schema) minus_rule (least 2 taken) s.fed taken
minus_answers m taken sent s = record {
  meaning = λ x t low.
      (let a = rows-taken m taken sent s 0 t x (omega arith) low in
      let b = rows-taken m taken sent s 1 t x (omega arith) low in
      let c = count-minus x (snapshot (elements (taken 0)) t) (snapshot (elements (taken 1)) t) in
      let d : left_copies x (rows_at (valid_at t s.fed)) x
      ≡ count x (rows_at (valid_at t s.fed) 0) - count x (rows_at (valid_at t s.fed) 1) =
      ap (λ (q : Bool). cond q (count x (rows_at (valid_at t s.fed) 0)
      - count x (rows_at (valid_at t s.fed) 1)) 0) (self-key x) in
      omega (arith, a, b, c, d));
  fits = λ x t low some.
      (let a = rows-taken m taken sent s 0 t x (omega arith) low in
      let d : left_copies x (rows_at (valid_at t s.fed)) x
      ≡ count x (rows_at (valid_at t s.fed) 0) - count x (rows_at (valid_at t s.fed) 1) =
      ap (λ (q : Bool). cond q (count x (rows_at (valid_at t s.fed) 0)
      - count x (rows_at (valid_at t s.fed) 1)) 0) (self-key x) in
      let b = snapshot-count x t (elements (taken 0)) in
      some-fits m.schema x t (elements (taken 0)) (s.taken_fits 0 (omega arith))
      (omega (arith, a, b, d, some)));
  among = λ f. (let a = all-taken m taken sent s f in omega (arith, a));
}

and-true : (b c : Bool) → b ≡ true → c ≡ true → (b && c) ≡ true
and-true true c e f = f
and-true false c e f = absurd cc

pub minus_lawful : (m : Minus) (taken : Lists) (sent : List Message) → MinusStands m taken sent
    → Lawful (minus_task m.schema) taken sent (length m.line.ends + length m.waits)
minus_lawful m taken sent s =
    timeline_lawful (minus_task m.schema) minus_rule MinusTells m.line (least 2 taken)
    (m.left.ended && m.right.ended) s.fed taken sent (length m.line.ends + length m.waits) s.line
    refl
    refl (minus_answers m taken sent s)
    (λ over. (
      and-true m.left.ended m.right.ended
          (ap (λ (p : Progress). p.ended) s.left_is ∙ over 0 (omega arith))
          (ap (λ (p : Progress). p.ended) s.right_is ∙ over 1 (omega arith)),
      (let a : beat (taken 0) ≡ closed = beat-ended (taken 0) (s.taken_valid 0 (omega arith))
          (over 0 (omega arith)) in
          let b : beat (taken 1) ≡ closed = beat-ended (taken 1) (s.taken_valid 1 (omega arith))
          (over 1 (omega arith)) in
          let c : least 2 taken ≡ closed = omega (arith, a, b) in
          held-open m taken sent s ∙ none-open m taken sent s c),
    ))
    (let a = held-open m taken sent s in omega (arith, a))
