-- What each step makes of the parts of a merge.
use Rattle.std.proofs.Common.{◌≡◌, ◌≢◌, ℕ, zero, suc, ◌+◌, ◌≤◌, ◌<◌, max, List, [], ◌∷◌, ◌++◌, refl}
use Rattle.std.proofs.Common.{sym, ap, ◌∙◌, subst, arith, inl, inr, ◌⊎◌}
use Rattle.std.proofs.lemmas.Bool.{cases_lt}
use Rattle.pipes_time.specs.Interval.{horizon, IsInterval}
use Rattle.pipes_stream.specs.declared.Elem.{Elem}
use Rattle.pipes_stream.specs.Weights.{weigh}
use Rattle.pipes_coalesce.specs.Tests.{if_so, starts_below, starts_above, starts_by}
use Rattle.pipes_coalesce.specs.Tests.{starts_elsewhere, ends_above, ends_at, ends_elsewhere}
use Rattle.pipes_coalesce.specs.Tests.{is_no_interval, touch, touching}
use Rattle.pipes_coalesce.specs.Filed.{has_tuple, Added, TakenOut}
use Rattle.pipes_coalesce.specs.Joined.{IsJoint}
use Rattle.pipes_coalesce.specs.Merging.{Pairing, IsPairing, Bags}
use Rattle.pipes_coalesce.specs.Stands.{ElemsRiseFrom, count_of, Parts}
use Rattle.pipes_stream.proofs.Weights.{weigh-append, weigh-none}
use Rattle.pipes_coalesce.proofs.Touching.{not-lt, is-lt, lt-zero, not-le, le-zero, not-eq, is-else}
use Rattle.pipes_coalesce.proofs.Touching.{else-zero, no-interval, interval-zero, above-more}
use Rattle.pipes_coalesce.proofs.Touching.{zero-of, none-weighs}
use Rattle.pipes_coalesce.proofs.Touching.{end-apart, start-apart, touch-tuple, touched-tuple}
use Rattle.pipes_coalesce.proofs.Touching.{touch-end, touch-later, touch-elsewhere, touch-spans}
use Rattle.pipes_coalesce.proofs.Touching.{touching-more, touching-less, touching-same}
use Rattle.pipes_coalesce.proofs.Touching.{touching-across}
use Rattle.pipes_coalesce.proofs.Pairs.{bags-same, bags-old, bags-fresh, bags-pair}

-- ---- lists in order
pub rises-below : (a b : ℕ) (es : List Elem) → a ≤ b → ElemsRiseFrom b es → ElemsRiseFrom a es
rises-below a b [] h r = tt
rises-below a b (e ∷ es) h r = (omega (arith, h, r.0), r.1, r.2)

pub rises-above : (a b t : ℕ) (es : List Elem) → ElemsRiseFrom b es → weigh (starts_by t) es ≡ 0
    → a ≤ t + 1 → ElemsRiseFrom a es
rises-above a b t [] r z h = tt
rises-above a b t (e ∷ es) r z h = (
  let k : t < e.span.start = le-zero e.span.start t (omega (arith, z)) in
      omega (arith, h, k),
  r.1,
  r.2,
)

pub rises-push : (b o : ℕ) (es : List Elem) (e : Elem) → ElemsRiseFrom b es
    → weigh (starts_above o) es ≡ 0 → o ≤ e.span.start → b ≤ e.span.start
    → IsInterval e.span.start e.span.end → ElemsRiseFrom b (es ++ e ∷ [])
rises-push b o [] e r z h k i = (k, i, tt)
rises-push b o (x ∷ es) e r z h k i =
    let l : x.span.start ≤ o = lt-zero o x.span.start (omega (arith, z)) in
    (r.0, r.1, rises-push x.span.start o es e r.2 (omega (arith, z)) h (omega (arith, h, l)) i)

-- ---- sums over all parts
pub all-of : (f : Elem → ℕ) (ss os ls ps vs : List Elem)
    → weigh f (ss ++ (os ++ (ls ++ (ps ++ vs)))) ≡ weigh f ss +
    (weigh f os + (weigh f ls + (weigh f ps + weigh f vs)))
all-of f ss os ls ps vs =
    omega (
      arith,
      weigh-append f ss (os ++ (ls ++ (ps ++ vs))),
      weigh-append f os (ls ++ (ps ++ vs)),
      weigh-append f ls (ps ++ vs),
      weigh-append f ps vs,
    )

pub near-of : (f : Elem → ℕ) (ss ls ps : List Elem)
    → weigh f (ss ++ (ls ++ ps)) ≡ weigh f ss + (weigh f ls + weigh f ps)
near-of f ss ls ps = omega (arith, weigh-append f ss (ls ++ ps), weigh-append f ls ps)

pub push-of : (f : Elem → ℕ) (ss : List Elem) (e : Elem) → weigh f (ss ++ e ∷ []) ≡ f e + weigh f ss
push-of f ss e = omega (arith, weigh-append f ss (e ∷ []))

-- a higher bound on what was sent
pub sent-low : (b c : ℕ) (ss : List Elem) → b ≤ c → weigh (starts_above b) ss ≡ 0
    → weigh (starts_above c) ss ≡ 0
sent-low b c ss h z = zero-of (starts_above c) (starts_above b) ss
    (λ x. above-more b c x.span.start h) z

-- ---- an old element e is the next to pass
module _ (t ob fb b s : ℕ) (e : Elem) (rest lone partners later os fs ss : List Elem)
    (p : Parts t ob fb b s (e ∷ rest) lone partners later os fs ss)
    (can : 0 < count_of lone → e.span.start ≡ s) where
  e-from : b ≤ e.span.start
  e-from = p.olds_rise.0

  e-span : IsInterval e.span.start e.span.end
  e-span = p.olds_rise.1

  e-low : e.span.start ≤ ob
  e-low = lt-zero ob e.span.start (omega (arith, p.olds_low))

  e-end : e.span.end ≤ t
  e-end = lt-zero t e.span.end (omega (arith, p.olds_end))

  e-before : e.span.start < t
  e-before = omega (arith, e-span.0, e-end)

  rest-low : weigh (starts_above ob) rest ≡ 0
  rest-low = omega (arith, p.olds_low)

  rest-end : weigh (ends_above t) rest ≡ 0
  rest-end = omega (arith, p.olds_end)

  -- it is sent as x, which starts where it does, and partners and the pairs become others
  record Goes (x : Elem) (left : List Elem) : Type 0 where
    start : x.span.start ≡ e.span.start
    at : weigh (starts_elsewhere t) left ≡ 0
    are : weigh is_no_interval left ≡ 0
    early : fb ≤ t → x.span.end ≢ t
    apart : touching t ((ss ++ x ∷ []) ++ (lone ++ left)) ≡ 0
    bags : Bags t os fs ((ss ++ x ∷ []) ++ (rest ++ (lone ++ (left ++ later))))

  goes : (x : Elem) (left : List Elem) → Goes x left
      → Parts t ob fb x.span.start s rest lone left later os fs (ss ++ x ∷ [])
  goes x left g = record {
    old_beat = omega (arith, g.start, e-low);
    fresh_beat = omega (arith, g.start, e-before);
    olds_rise = subst (λ (n : ℕ). ElemsRiseFrom n rest) (sym g.start) p.olds_rise.2;
    olds_low = rest-low;
    olds_end = rest-end;
    lone_at = p.lone_at;
    lone_end = p.lone_end;
    lone_are = p.lone_are;
    lone_low = λ h. let q = can h in let l = p.lone_low h in (
      omega (arith, g.start, q),
      l.1,
      l.2,
      subst (λ (n : ℕ). ElemsRiseFrom n rest) q
          p.olds_rise.2,
    );
    partners_at = g.at;
    partners_low = λ h. omega (arith, g.start, e-before);
    partners_are = g.are;
    later_rise = rises-above x.span.start b t later p.later_rise p.later_high
        (omega (arith, g.start, e-before));
    later_high = p.later_high;
    later_low = p.later_low;
    sent_low =
        let z = sent-low b x.span.start ss (omega (arith, g.start, e-from)) p.sent_low in
        omega (
          arith,
          push-of (starts_above x.span.start) ss x,
          z,
          not-lt x.span.start x.span.start (omega arith),
        );
    early = λ h. omega
        (arith, push-of (ends_at t) ss x, p.early h, not-eq x.span.end t (g.early h));
    apart = g.apart;
    bags = g.bags;
  }

  moved : (f : Elem → ℕ)
      → weigh f ((ss ++ e ∷ []) ++ (rest ++ (lone ++ (partners ++ later)))) ≡ weigh f
      (ss ++ (e ∷ rest ++ (lone ++ (partners ++ later))))
  moved f = omega (
    arith,
    all-of f (ss ++ e ∷ []) rest lone partners later,
    all-of f ss (e ∷ rest) lone partners later,
    push-of f ss e,
  )

  near : (f : Elem → ℕ)
      → weigh f ((ss ++ e ∷ []) ++ (lone ++ partners)) ≡ f e + weigh f (ss ++ (lone ++ partners))
  near f = omega
      (arith, near-of f (ss ++ e ∷ []) lone partners, near-of f ss lone partners, push-of f ss e)

  -- one that doesn't end at the split
  pub goes-plain : e.span.end ≢ t
      → Parts t ob fb e.span.start s rest lone partners later os fs (ss ++ e ∷ [])
  goes-plain n = goes e partners (record {
    start = refl;
    at = p.partners_at;
    are = p.partners_are;
    early = λ _. n;
    apart = touching-across t (ss ++ (lone ++ partners)) ((ss ++ e ∷ []) ++ (lone ++ partners)) e
        (λ q. absurd (omega (arith, q, e-before))) n near p.apart;
    bags = bags-same t os fs (ss ++ (e ∷ rest ++ (lone ++ (partners ++ later))))
        ((ss ++ e ∷ []) ++ (rest ++ (lone ++ (partners ++ later)))) moved p.bags;
  })

  -- it touches nothing, if it has no partner
  touches-none : weigh (has_tuple e.tuple) partners ≡ 0
      → weigh (touch t e) (ss ++ (lone ++ partners)) ≡ 0
  touches-none none =
      omega (
        arith,
        near-of (touch t e) ss lone partners,
        in-sent,
        in-lone (cases_lt 0 (count_of lone)),
        in-partners,
      )
    where
      in-sent : weigh (touch t e) ss ≡ 0
      in-sent = zero-of (touch t e) (starts_above b) ss
          (λ x. touch-later t b e x (omega (arith, e-from, e-before))) p.sent_low

      in-lone : (0 < count_of lone) ⊎ (count_of lone ≤ 0) → weigh (touch t e) lone ≡ 0
      in-lone (inl h) = zero-of (touch t e) (starts_elsewhere s) lone
          (λ x. touch-elsewhere t s e x (p.lone_low h).2) p.lone_at
      in-lone (inr h) = none-weighs (touch t e) lone (omega (arith, h))

      in-partners : weigh (touch t e) partners ≡ 0
      in-partners = zero-of (touch t e) (has_tuple e.tuple) partners (λ x. touch-tuple t e x) none

  alone : weigh (has_tuple e.tuple) partners ≡ 0 → (new : List Elem)
      → ((f : Elem → ℕ) → weigh f new ≡ f e + weigh f (ss ++ (lone ++ partners)))
      → touching t new ≡ 0
  alone none new w =
      let apart-start : e.span.start ≢ t = λ q. absurd (omega (arith, q, e-before)) in
      touching-more t (ss ++ (lone ++ partners)) new e w (start-apart t e e apart-start)
      (touches-none none)
      (weigh-none (λ x. touch t x e) (λ x. start-apart t x e apart-start)
      (ss ++ (lone ++ partners))) p.apart

  -- one without a partner, once the fresh side is above the split
  pub goes-alone : t < fb → weigh (has_tuple e.tuple) partners ≡ 0
      → Parts t ob fb e.span.start s rest lone partners later os fs (ss ++ e ∷ [])
  goes-alone h none = goes e partners (record {
    start = refl;
    at = p.partners_at;
    are = p.partners_are;
    early = λ q. absurd (omega (arith, h, q));
    apart = alone none ((ss ++ e ∷ []) ++ (lone ++ partners)) near;
    bags = bags-same t os fs (ss ++ (e ∷ rest ++ (lone ++ (partners ++ later))))
        ((ss ++ e ∷ []) ++ (rest ++ (lone ++ (partners ++ later)))) moved p.bags;
  })

  -- and before that it waits
  pub waits : fb ≤ t → e.span.end ≡ t → weigh (has_tuple e.tuple) partners ≡ 0 → (now : List Elem)
      → Added e lone now
      → Parts t ob fb b e.span.start rest now partners later os fs ss
  waits h end none now put = record {
    old_beat = p.old_beat;
    fresh_beat = p.fresh_beat;
    olds_rise = rises-below b e.span.start rest e-from p.olds_rise.2;
    olds_low = rest-low;
    olds_end = rest-end;
    lone_at = omega (
      arith,
      put (starts_elsewhere e.span.start),
      is-else e.span.start e.span.start refl,
      was-at (cases_lt 0 (count_of lone)),
    );
    lone_end = omega (arith, put (ends_elsewhere t), is-else e.span.end t end, p.lone_end);
    lone_are = omega
        (arith, put is_no_interval, no-interval e.span.start e.span.end e-span, p.lone_are);
    lone_low = λ _. (e-from, e-low, e-before, p.olds_rise.2);
    partners_at = p.partners_at;
    partners_low = p.partners_low;
    partners_are = p.partners_are;
    later_rise = p.later_rise;
    later_high = p.later_high;
    later_low = p.later_low;
    sent_low = p.sent_low;
    early = p.early;
    apart = alone none (ss ++ (now ++ partners))
        (λ f. omega (arith, near-of f ss now partners, near-of f ss lone partners, put f));
    bags = bags-same t os fs (ss ++ (e ∷ rest ++ (lone ++ (partners ++ later))))
        (ss ++ (rest ++ (now ++ (partners ++ later))))
        (λ f. omega (
          arith,
          all-of f ss rest now partners later,
          all-of f ss (e ∷ rest) lone partners later,
          put f,
        )) p.bags;
  }
    where
      was-at : (0 < count_of lone) ⊎ (count_of lone ≤ 0)
          → weigh (starts_elsewhere e.span.start) lone ≡ 0
      was-at (inl h) = subst (λ (n : ℕ). weigh (starts_elsewhere n) lone ≡ 0)
          (sym (can h)) p.lone_at
      was-at (inr h) = none-weighs (starts_elsewhere e.span.start) lone (omega (arith, h))

  -- with its partner
  pub goes-both : e.span.end ≡ t → (second both : Elem) (left : List Elem) → second.tuple ≡ e.tuple
      → TakenOut second partners left → IsJoint e second both
      → Parts t ob fb both.span.start s rest lone left later os fs (ss ++ both ∷ [])
  goes-both end second both left same out joint = goes both left (record {
    start = joint.start;
    at = omega (arith, out (starts_elsewhere t), p.partners_at);
    are = omega (arith, out is_no_interval, p.partners_are);
    early = λ _ q. absurd (omega (arith, q, joint.end, second-high));
    apart =
        touching-across t (ss ++ (lone ++ left)) ((ss ++ both ∷ []) ++ (lone ++ left)) both
        (λ q. absurd (omega (arith, q, joint.start, e-before)))
        (λ q. absurd (omega (arith, q, joint.end, second-high)))
        (λ f. omega (
          arith,
          near-of f (ss ++ both ∷ []) lone left,
          near-of f ss lone left,
          push-of f ss both,
        ))
        (touching-less t (ss ++ (lone ++ partners)) (ss ++ (lone ++ left)) second
        (λ f. omega (arith, near-of f ss lone left, near-of f ss lone partners, out f)) p.apart);
    bags =
        bags-pair t os fs (ss ++ (e ∷ rest ++ (lone ++ (partners ++ later))))
        (ss ++ (rest ++ (lone ++ (left ++ later))))
        ((ss ++ both ∷ []) ++ (rest ++ (lone ++ (left ++ later)))) pair
        (record {
          ends = end;
          starts = second-at;
          tuples = same;
          tuple = joint.tuple;
          start =
              joint.start;
          end = joint.end;
        }) e-before second-high
        (λ f. omega (
          arith,
          all-of f ss (e ∷ rest) lone partners later,
          all-of f ss rest lone left later,
          out f,
        ))
        (λ f. omega (
          arith,
          all-of f (ss ++ both ∷ []) rest lone left later,
          all-of f ss rest lone left later,
          push-of f ss both,
        )) p.bags;
  })
    where
      pair : Pairing
      pair = record { first = e; second = second; both = both }

      second-at : second.span.start ≡ t
      second-at = else-zero second.span.start t
          (omega (arith, out (starts_elsewhere t), p.partners_at))

      second-high : t < second.span.end
      second-high =
          let i = interval-zero second.span.start second.span.end
          (omega (arith, out is_no_interval, p.partners_are)) in
          omega (arith, i.0, second-at)
