-- What is sent once nothing holds it back.
use Rattle.std.proofs.Common.{◌≡◌, ◌≢◌, ◌⊎◌, ℕ, ◌+◌, ◌≤◌, ◌<◌, max, List, [], ◌∷◌, ◌++◌, refl, sym}
use Rattle.std.proofs.Common.{ap, ◌∙◌, subst, arith, inl, inr}
use Rattle.pipes_time.specs.Interval.{horizon, IsInterval}
use Rattle.pipes_stream.specs.declared.Elem.{Elem}
use Rattle.pipes_stream.specs.Weights.{weigh}
use Rattle.pipes_coalesce.specs.Tests.{starts_above, starts_by, starts_elsewhere, ends_above}
use Rattle.pipes_coalesce.specs.Tests.{ends_at, ends_elsewhere, is_no_interval, touch, touching}
use Rattle.pipes_coalesce.specs.Merging.{Bags}
use Rattle.pipes_coalesce.specs.Stands.{ElemsRiseFrom, count_of, Parts}
use Rattle.pipes_stream.proofs.Weights.{weigh-append, weigh-none}
use Rattle.pipes_coalesce.proofs.Touching.{not-lt, lt-zero, le-zero, not-eq, zero-of, none-weighs}
use Rattle.pipes_coalesce.proofs.Touching.{touching-same, touching-across}
use Rattle.pipes_coalesce.proofs.Pairs.{bags-same}
use Rattle.pipes_coalesce.proofs.Steps.{rises-below, rises-above, all-of, near-of, push-of}
use Rattle.pipes_coalesce.proofs.Steps.{sent-low}

-- elements that all start at s
not-above : (s : ℕ) (xs : List Elem) → weigh (starts_elsewhere s) xs ≡ 0
    → weigh (starts_above s) xs ≡ 0
not-above s xs z = zero-of (starts_above s) (starts_elsewhere s) xs above z
  where
    above : (x : Elem) → starts_above s x ≤ starts_elsewhere s x
    above x = Rattle.pipes_coalesce.proofs.Touching.above-else s x.span.start

module _ (t ob fb b s : ℕ) (olds lone partners later os fs ss : List Elem)
    (p : Parts t ob fb b s olds lone partners later os fs ss) (sent : List Elem) where
  after : (f : Elem → ℕ) → weigh f (ss ++ sent) ≡ weigh f ss + weigh f sent
  after f = weigh-append f ss sent

  -- all that wait for a partner
  pub lone-leaves : t < fb → 0 < count_of lone → ((f : Elem → ℕ) → weigh f sent ≡ weigh f lone)
      → Parts t ob fb s s olds [] partners later os fs (ss ++ sent)
  lone-leaves h some w =
      let low = p.lone_low some in
      record {
        old_beat = low.1;
        fresh_beat = omega (arith, low.2);
        olds_rise = low.3;
        olds_low = p.olds_low;
        olds_end = p.olds_end;
        lone_at = refl;
        lone_end = refl;
        lone_are = refl;
        lone_low = λ n. absurd (omega (arith, n));
        partners_at = p.partners_at;
        partners_low = λ _. omega (arith, low.2);
        partners_are = p.partners_are;
        later_rise = rises-above s b t later p.later_rise p.later_high (omega (arith, low.2));
        later_high = p.later_high;
        later_low = p.later_low;
        sent_low = omega (
          arith,
          after (starts_above s),
          sent-low b s ss low.0 p.sent_low,
          w (starts_above s),
          not-above s lone p.lone_at,
        );
        early = λ q. absurd (omega (arith, q, h));
        apart = touching-same t (ss ++ (lone ++ partners)) ((ss ++ sent) ++ ([] ++ partners))
            (λ f. omega (
              arith,
              near-of f (ss ++ sent) [] partners,
              near-of f ss lone partners,
              after f,
              w f,
            )) p.apart;
        bags = bags-same t os fs (ss ++ (olds ++ (lone ++ (partners ++ later))))
            ((ss ++ sent) ++ (olds ++ ([] ++ (partners ++ later))))
            (λ f. omega (
              arith,
              all-of f (ss ++ sent) olds [] partners later,
              all-of f ss olds lone partners later,
              after f,
              w f,
            )) p.bags;
      }

  -- all fresh ones at the split
  pub partners-leave : olds ≡ [] → lone ≡ [] → t ≤ ob → 0 < count_of partners
      → ((f : Elem → ℕ) → weigh f sent ≡ weigh f partners)
      → Parts t ob fb t s olds lone [] later os fs (ss ++ sent)
  partners-leave none alone h some w = record {
    old_beat = h;
    fresh_beat = omega arith;
    olds_rise = rw none tt;
    olds_low = p.olds_low;
    olds_end = p.olds_end;
    lone_at = p.lone_at;
    lone_end = p.lone_end;
    lone_are = p.lone_are;
    lone_low = λ n. let z : count_of lone ≡ 0 = ap count_of alone in absurd (omega (arith, n, z));
    partners_at = refl;
    partners_low = λ _. omega arith;
    partners_are = refl;
    later_rise = rises-above t b t later p.later_rise p.later_high (omega arith);
    later_high = p.later_high;
    later_low = p.later_low;
    sent_low = omega (
      arith,
      after (starts_above t),
      sent-low b t ss (p.partners_low some) p.sent_low,
      w (starts_above t),
      not-above t partners p.partners_at,
    );
    early = λ q. omega (arith, after (ends_at t), p.early q, w (ends_at t), partners-end);
    apart = touching-same t (ss ++ (lone ++ partners)) ((ss ++ sent) ++ (lone ++ []))
        (λ f. omega (
          arith,
          near-of f (ss ++ sent) lone [],
          near-of f ss lone partners,
          after f,
          w f,
        )) p.apart;
    bags = bags-same t os fs (ss ++ (olds ++ (lone ++ (partners ++ later))))
        ((ss ++ sent) ++ (olds ++ (lone ++ ([] ++ later))))
        (λ f. omega (
          arith,
          all-of f (ss ++ sent) olds lone [] later,
          all-of f ss olds lone partners later,
          after f,
          w f,
        )) p.bags;
  }
    where
      partners-end : weigh (ends_at t) partners ≡ 0
      partners-end =
          let sum = Rattle.pipes_stream.proofs.Weights.weigh-plus
          (starts_elsewhere t) is_no_interval partners in
          zero-of (ends_at t) (λ x. starts_elsewhere t x + is_no_interval x) partners
          (λ x. Rattle.pipes_coalesce.proofs.Touching.end-spans t x)
          (omega (arith, sum, p.partners_at, p.partners_are))

-- the first of those above the split
pub later-leaves : (t ob fb b s : ℕ) (olds lone partners : List Elem) (x : Elem)
    (rest os fs ss : List Elem) → Parts t ob fb b s olds lone partners (x ∷ rest) os fs ss
    → olds ≡ [] → lone ≡ [] → partners ≡ [] → x.span.start ≤ ob → x.span.start ≤ max t fb
    → (b ≤ x.span.start) × IsInterval x.span.start x.span.end
    × Parts t ob fb x.span.start s olds lone partners rest os fs (ss ++ x ∷ [])
later-leaves t ob fb b s olds lone partners x rest os fs ss p none alone single h k = (
  p.later_rise.0,
  p.later_rise.1,
  record {
    old_beat = h;
    fresh_beat = k;
    olds_rise = rw none tt;
    olds_low = p.olds_low;
    olds_end = p.olds_end;
    lone_at = p.lone_at;
    lone_end = p.lone_end;
    lone_are = p.lone_are;
    lone_low = λ n. let z : count_of lone ≡ 0 = ap count_of alone in absurd (omega (arith, n, z));
    partners_at = p.partners_at;
    partners_low = λ n. let z : count_of partners ≡ 0 = ap count_of single in
        absurd (omega (arith, n, z));
    partners_are = p.partners_are;
    later_rise = p.later_rise.2;
    later_high = omega (arith, p.later_high);
    later_low = omega (arith, p.later_low);
    sent_low =
        omega (
          arith,
          push-of (starts_above x.span.start) ss x,
          sent-low b x.span.start ss p.later_rise.0 p.sent_low,
          not-lt x.span.start x.span.start (omega arith),
        );
    early = λ q. omega (
      arith,
      push-of (ends_at t) ss x,
      p.early q,
      not-eq x.span.end t (λ r. absurd (omega (arith, r, high, p.later_rise.1.0))),
    );
    apart =
        touching-across t (ss ++ (lone ++ partners)) ((ss ++ x ∷ []) ++ (lone ++ partners)) x
        (λ r. absurd (omega (arith, r, high)))
        (λ r. absurd (omega (arith, r, high, p.later_rise.1.0)))
        (λ f. omega (
          arith,
          near-of f (ss ++ x ∷ []) lone partners,
          near-of f ss lone partners,
          push-of f ss x,
        )) p.apart;
    bags = bags-same t os fs (ss ++ (olds ++ (lone ++ (partners ++ (x ∷ rest)))))
        ((ss ++ x ∷ []) ++ (olds ++ (lone ++ (partners ++ rest))))
        (λ f. omega (
          arith,
          all-of f (ss ++ x ∷ []) olds lone partners rest,
          all-of f ss olds lone partners (x ∷ rest),
          push-of f ss x,
        )) p.bags;
  },
)
  where
    high : t < x.span.start
    high = le-zero x.span.start t (omega (arith, p.later_high))
