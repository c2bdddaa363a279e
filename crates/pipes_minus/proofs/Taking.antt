-- What waits is taken in, in order.
use Rattle.std.proofs.Common.{◌≡◌, ℕ, zero, suc, ◌+◌, ◌≤◌, ◌<◌, cond, nat_lt, List, [], ◌∷◌, ◌++◌}
use Rattle.std.proofs.Common.{refl, sym}
use Rattle.std.proofs.Common.{ap, subst, arith, append_assoc, append-nil}
use Rattle.std.specs.List.{All}
use Rattle.std.proofs.lemmas.Bool.Decides.{nat_tests}
use Rattle.std.proofs.lemmas.List.Elements.{All-head, All-tail}
use Rattle.pipes_time.specs.Interval.{IsInterval}
use Rattle.pipes_stream.specs.declared.message.Message.{Message}
use Rattle.pipes_stream.specs.Progress.{Progress}
use Rattle.pipes_stream.specs.Lists.{CanFollow, after}
use Rattle.pipes_stream.specs.Weights.{weigh}
use Rattle.pipes_stream.proofs.Weights.{weigh-append}
use Rattle.pipes_timeline.specs.Rules.{Arrival}
use Rattle.pipes_timeline.specs.Timelines.{Passes, Arrives, Trims}
use Rattle.pipes_timeline.proofs.Fed.{fed_passed, fed_arrived, fed_trimmed}
use Rattle.pipes_minus.specs.Differences.{minus_rule, MinusTells}
use Rattle.pipes_minus.specs.Feeds.{CountLine, LineTook, arrives_before, arrives_by, TakesIn}
use Rattle.pipes_minus.specs.Feeds.{Feeds}
use Rattle.pipes_minus.specs.Feeds.{FeedsAll, WatchSees}

-- ---- the watch of a port
pub sees_left : (port : ℕ) (m : Message) (l r left : Progress) → port ≡ 0
    → (CanFollow l m → left ≡ after l m) → WatchSees port m l r left r
sees_left port m l r left e saw =
    subst (λ (n : ℕ). WatchSees n m l r left r) (sym e) (saw, refl)

pub sees_right : (port : ℕ) (m : Message) (l r right : Progress) → 0 < port
    → (CanFollow r m → right ≡ after r m) → WatchSees port m l r l right
sees_right zero m l r right h saw = absurd (omega (arith, h))
sees_right (suc port) m l r right h saw = (refl, saw)

-- ---- what waits

pub takes_in : (old passed arrived new : CountLine) (s : Arrival) (start : ℕ)
    → start ≡ s.1.span.start
    → IsInterval s.1.span.start s.1.span.end
    → Passes minus_rule MinusTells old passed start → passed.instant ≡ start
    → All (λ d. start < d.1.span.end) passed.ends
    → Arrives minus_rule MinusTells passed arrived s → Trims minus_rule MinusTells arrived new
    → TakesIn old new s
takes_in old passed arrived new s start is inside passes now over arrives trims = record {
  good = λ low n fed sent upto f.
      (let most : start ≤ 1000000000000000 = (let a : s.1.span.start < s.1.span.end = inside.0 in
      let b : s.1.span.end ≤ 1000000000000000 = inside.1 in omega (arith, a, b, is)) in
      let a = fed_passed minus_rule MinusTells old passed low n start fed sent
      (omega (arith, upto, is)) passes now over f in
      let b = fed_arrived minus_rule MinusTells passed arrived low start fed sent s
      (sym is) inside
      arrives a in
      let c = fed_trimmed minus_rule MinusTells arrived new low start (fed ++ s ∷ []) sent most
      trims b in
      subst (λ (n : ℕ). LineTook new low n (fed ++ s ∷ []) sent) is c);
}

pub feeds_none : (line : CountLine) (waits : List Arrival) (h : ℕ) → Feeds line line waits waits h
feeds_none line waits h = record {
  good = λ low now fed sent upto f z. (
    now,
    record {
      more = [];
      upto = upto;
      line = subst (λ (es : List Arrival). LineTook line low now es sent) (sym (append-nil fed)) f;
      split = λ g. omega arith;
      later = z;
    },
  );
}

not-before : (n m : ℕ) → cond {A = ℕ} (nat_lt m n) 1 0 ≡ 0 → n ≤ m
not-before n m z = grind (arith, nat_tests)

before-none : (n m : ℕ) → n ≤ m → cond {A = ℕ} (nat_lt m n) 1 0 ≡ 0
before-none n m h = grind (arith, nat_tests)

by-none : (n m : ℕ) → n < m → cond {A = ℕ} (nat_lt n m) 0 1 ≡ 0
by-none n m h = grind (arith, nat_tests)

all-from : (n : ℕ) (es : List Arrival) → All (λ d. n ≤ d.1.span.start) es
    → weigh (arrives_before n) es ≡ 0
all-from n [] all = refl
all-from n (s ∷ es) all =
    let a = before-none n s.1.span.start (All-head (λ (d : Arrival). n ≤ d.1.span.start) s es
    all) in
    let b = all-from n es (All-tail (λ (d : Arrival). n ≤ d.1.span.start) s es all) in
    omega (arith, a, b)

all-later : (n : ℕ) (es : List Arrival) → All (λ d. n < d.1.span.start) es
    → (weigh (arrives_before n) es ≡ 0) × (weigh (arrives_by n) es ≡ 0)
all-later n [] all = (refl, refl)
all-later n (s ∷ es) all =
    let h : n < s.1.span.start = All-head (λ (d : Arrival). n < d.1.span.start) s es all in
    let a = before-none n s.1.span.start (omega (arith, h)) in
    let c = by-none n s.1.span.start h in
    let b = all-later n es (All-tail (λ (d : Arrival). n < d.1.span.start) s es all) in
    (omega (arith, a, b.0), omega (arith, c, b.1))

pub feeds_turn : (old mid new : CountLine) (waits some left : List Arrival) (h : ℕ) (s : Arrival)
    → Feeds old mid waits some h → some ≡ s ∷ left → s.1.span.start ≤ h
    → All (λ d. s.1.span.start ≤ d.1.span.start) left → TakesIn mid new s
    → Feeds old new waits left h
feeds_turn old mid new waits some left h s f is upto all takes = record {
  good = λ low now fed sent below line z.
      (let m = f.good low now fed sent below line z in
      let t = m.1 in
      let split = t.split in
      let later : weigh (arrives_before m.0) (s ∷ left) ≡ 0 =
      subst (λ (es : List Arrival). weigh (arrives_before m.0) es ≡ 0) is t.later in
      let from : m.0 ≤ s.1.span.start = not-before m.0 s.1.span.start (omega (arith, later)) in (
        s.1.span.start,
        record {
          more = t.more ++ s ∷ [];
          upto = upto;
          line = subst (λ (es : List Arrival). LineTook new low s.1.span.start es sent)
              (append_assoc fed t.more (s ∷ []))
              (takes.good low m.0 (fed ++ t.more) sent from t.line);
          split = λ g. (let a = split g in
              let b : weigh g some ≡ g s + weigh g left = ap (λ (es : List Arrival). weigh g es)
              is in
              let c = weigh-append g t.more (s ∷ []) in omega (arith, a, b, c));
          later = all-from s.1.span.start left all;
        },
      ));
}

pub feeds_all : (old mid new : CountLine) (waits left last : List Arrival) (h : ℕ)
    → Feeds old mid waits left h → last ≡ left → All (λ d. h < d.1.span.start) last
    → Passes minus_rule MinusTells mid new h → new.instant ≡ h
    → All (λ d. h < d.1.span.end) new.ends → FeedsAll old new waits last h
feeds_all old mid new waits left last h f same from passes now over =
    let all = subst (λ (es : List Arrival). All (λ d. h < d.1.span.start) es) same from in
    subst (λ (es : List Arrival). FeedsAll old new waits es h) (sym same) (record {
      good = λ low n fed sent below line z.
          (let m = f.good low n fed sent below line z in
          let t = m.1 in
          record {
            more = t.more;
            upto = omega arith;
            line = fed_passed minus_rule MinusTells mid new low m.0 h (fed ++ t.more) sent t.upto
                passes now over t.line;
            split = t.split;
            later = (all-later h left all).0;
          });
      later = (all-later h left all).1;
    })
