-- Elements that come, and pairs that become one.
use Rattle.std.proofs.Common.{◌≡◌, ℕ, ◌+◌, ◌≤◌, ◌<◌, cond, nat_le, nat_lt, ◌&&◌, List, [], ◌∷◌}
use Rattle.std.proofs.Common.{◌++◌, refl, sym, ap, ◌∙◌, arith}
use Rattle.std.proofs.lemmas.Bool.Decides.{nat_tests}
use Rattle.pipes_stream.specs.declared.Elem.{Elem}
use Rattle.pipes_stream.specs.Weights.{weigh}
use Rattle.pipes_coalesce.specs.Merging.{Pairing, IsPairing, below_split, above_split, across, Bags}
use Rattle.pipes_stream.proofs.Weights.{weigh-append}

if-le : (n m x : ℕ) → n ≤ m → cond (nat_le n m) x 0 ≡ x
if-le n m x h = grind (arith, nat_tests)

if-not : (n m x : ℕ) → m < n → cond (nat_le n m) x 0 ≡ 0
if-not n m x h = grind (arith, nat_tests)

if-across : (s t e x : ℕ) → s < t → t < e → cond (nat_lt s t && nat_lt t e) x 0 ≡ x
if-across s t e x h k = grind (arith, nat_tests)

if-below : (s t e x : ℕ) → e ≤ t → cond (nat_lt s t && nat_lt t e) x 0 ≡ 0
if-below s t e x h = grind (arith, nat_tests)

if-from : (s t e x : ℕ) → t ≤ s → cond (nat_lt s t && nat_lt t e) x 0 ≡ 0
if-from s t e x h = grind (arith, nat_tests)

pub bags-same : (t : ℕ) (olds fresh all new : List Elem)
    → ((f : Elem → ℕ) → weigh f new ≡ weigh f all) → Bags t olds fresh all → Bags t olds fresh new
bags-same t olds fresh all new w s = record {
  pairs = s.pairs;
  pairings = s.pairings;
  old_side = λ f. omega (arith, w (below_split t f), s.old_side f);
  fresh_side = λ f. omega (arith, w (above_split t f), s.fresh_side f);
  merged = λ f. omega (arith, w (across t f), s.merged f);
}

-- an element comes on the old side
pub bags-old : (t : ℕ) (olds fresh all new : List Elem) (e : Elem) → e.span.start < e.span.end
    → e.span.end ≤ t
    → ((f : Elem → ℕ) → weigh f new ≡ f e + weigh f all) → Bags t olds fresh all
    → Bags t (olds ++ e ∷ []) fresh new
bags-old t olds fresh all new e o h w s = record {
  pairs = s.pairs;
  pairings = s.pairings;
  old_side = λ f. omega (
    arith,
    weigh-append f olds (e ∷ []),
    if-le e.span.end t (f e) h,
    w (below_split t f),
    s.old_side f,
  );
  fresh_side = λ f. omega (
    arith,
    if-not t e.span.start (f e) (omega (arith, o, h)),
    w (above_split t f),
    s.fresh_side f,
  );
  merged = λ f. omega
      (arith, if-below e.span.start t e.span.end (f e) h, w (across t f), s.merged f);
}

-- and on the fresh side
pub bags-fresh : (t : ℕ) (olds fresh all new : List Elem) (e : Elem) → e.span.start < e.span.end
    → t ≤ e.span.start
    → ((f : Elem → ℕ) → weigh f new ≡ f e + weigh f all) → Bags t olds fresh all
    → Bags t olds (fresh ++ e ∷ []) new
bags-fresh t olds fresh all new e o h w s = record {
  pairs = s.pairs;
  pairings = s.pairings;
  old_side = λ f. omega
      (arith, if-not e.span.end t (f e) (omega (arith, o, h)), w (below_split t f), s.old_side f);
  fresh_side = λ f. omega (
    arith,
    weigh-append f fresh (e ∷ []),
    if-le t e.span.start (f e) h,
    w (above_split t f),
    s.fresh_side f,
  );
  merged = λ f. omega
      (arith, if-from e.span.start t e.span.end (f e) h, w (across t f), s.merged f);
}

-- two become one
pub bags-pair : (t : ℕ) (olds fresh all rest new : List Elem) (p : Pairing) → IsPairing t p
    → p.first.span.start < t → t < p.second.span.end
    → ((f : Elem → ℕ) → weigh f all ≡ (f p.first + f p.second) + weigh f rest)
    → ((f : Elem → ℕ) → weigh f new ≡ f p.both + weigh f rest)
    → Bags t olds fresh all → Bags t olds fresh new
bags-pair t olds fresh all rest new p h o q w v s =
    let s1 : p.first.span.end ≡ t = h.ends in
    let s2 : p.second.span.start ≡ t = h.starts in
    let s3 : p.both.span.start ≡ p.first.span.start = h.start in
    let s4 : p.both.span.end ≡ p.second.span.end = h.end in
    record {
      pairs = p ∷ s.pairs;
      pairings = (h, s.pairings);
      old_side = λ f.
          omega (
            arith,
            w (below_split t f),
            v (below_split t f),
            s.old_side f,
            if-le p.first.span.end t (f p.first) (omega (arith, s1)),
            if-not p.second.span.end t (f p.second) q,
            if-not p.both.span.end t (f p.both) (omega (arith, s4, q)),
          );
      fresh_side = λ f.
          omega (
            arith,
            w (above_split t f),
            v (above_split t f),
            s.fresh_side f,
            if-not t p.first.span.start (f p.first) o,
            if-le t p.second.span.start (f p.second) (omega (arith, s2)),
            if-not t p.both.span.start (f p.both) (omega (arith, s3, o)),
          );
      merged = λ f.
          omega (
            arith,
            w (across t f),
            v (across t f),
            s.merged f,
            if-below p.first.span.start t p.first.span.end (f p.first) (omega (arith, s1)),
            if-from p.second.span.start t p.second.span.end (f p.second) (omega (arith, s2)),
            if-across p.both.span.start t p.both.span.end (f p.both) (omega (arith, s3, o))
                (omega (arith, s4, q)),
          );
    }
