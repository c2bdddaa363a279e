-- What comes on either side.
use Rattle.std.proofs.Common.{◌≡◌, ◌≢◌, ◌⊎◌, ℕ, ◌+◌, ◌≤◌, ◌<◌, max, List, [], ◌∷◌, ◌++◌, refl, sym}
use Rattle.std.proofs.Common.{ap, ◌∙◌, subst, arith, inl, inr}
use Rattle.std.proofs.lemmas.Bool.{cases_lt}
use Rattle.pipes_time.specs.Interval.{horizon, IsInterval}
use Rattle.pipes_stream.specs.declared.Elem.{Elem}
use Rattle.pipes_stream.specs.Weights.{weigh}
use Rattle.pipes_coalesce.specs.Tests.{starts_above, starts_by, starts_elsewhere, ends_above}
use Rattle.pipes_coalesce.specs.Tests.{ends_at, ends_elsewhere, is_no_interval, touch, touching}
use Rattle.pipes_coalesce.specs.Filed.{has_tuple, Added, TakenOut}
use Rattle.pipes_coalesce.specs.Joined.{IsJoint}
use Rattle.pipes_coalesce.specs.Merging.{Pairing, IsPairing, Bags}
use Rattle.pipes_coalesce.specs.Stands.{ElemsRiseFrom, count_of, Parts}
use Rattle.pipes_stream.proofs.Weights.{weigh-append, weigh-none}
use Rattle.pipes_coalesce.proofs.Touching.{not-lt, lt-zero, not-le, not-eq, is-else, else-zero}
use Rattle.pipes_coalesce.proofs.Touching.{no-interval, zero-of, none-weighs}
use Rattle.pipes_coalesce.proofs.Touching.{end-apart, start-apart, touched-tuple, touch-end}
use Rattle.pipes_coalesce.proofs.Touching.{touch-spans, touching-more, touching-less}
use Rattle.pipes_coalesce.proofs.Touching.{touching-across}
use Rattle.pipes_coalesce.proofs.Pairs.{bags-same, bags-old, bags-fresh, bags-pair}
use Rattle.pipes_coalesce.proofs.Steps.{rises-below, rises-above, rises-push, all-of, near-of}
use Rattle.pipes_coalesce.proofs.Steps.{push-of, sent-low}

module _ (t ob fb b s : ℕ) (olds lone partners later os fs ss : List Elem)
    (p : Parts t ob fb b s olds lone partners later os fs ss) where
  -- the sides' heartbeats rise
  pub beats-rise : (oc fc : ℕ) → ob ≤ oc → fb ≤ fc
      → Parts t oc fc b s olds lone partners later os fs ss
  beats-rise oc fc h k = record {
    old_beat = omega (arith, p.old_beat, h);
    fresh_beat = omega (arith, p.fresh_beat, k);
    olds_rise = p.olds_rise;
    olds_low = sent-low ob oc olds h p.olds_low;
    olds_end = p.olds_end;
    lone_at = p.lone_at;
    lone_end = p.lone_end;
    lone_are = p.lone_are;
    lone_low = λ n. let l = p.lone_low n in (l.0, omega (arith, l.1, h), l.2, l.3);
    partners_at = p.partners_at;
    partners_low = p.partners_low;
    partners_are = p.partners_are;
    later_rise = p.later_rise;
    later_high = p.later_high;
    later_low = sent-low fb fc later k p.later_low;
    sent_low = p.sent_low;
    early = λ n. p.early (omega (arith, n, k));
    apart = p.apart;
    bags = p.bags;
  }

  -- an old element comes
  pub old-comes : (e : Elem) → IsInterval e.span.start e.span.end → ob ≤ e.span.start
      → e.span.end ≤ t
      → Parts t e.span.start fb b s (olds ++ e ∷ []) lone partners later (os ++ e ∷ []) fs ss
  old-comes e i h k = record {
    old_beat = omega (arith, p.old_beat, h);
    fresh_beat = p.fresh_beat;
    olds_rise = rises-push b ob olds e p.olds_rise p.olds_low h (omega (arith, p.old_beat, h)) i;
    olds_low = omega (
      arith,
      push-of (starts_above e.span.start) olds e,
      sent-low ob e.span.start olds h p.olds_low,
      not-lt e.span.start e.span.start (omega arith),
    );
    olds_end = omega (arith, push-of (ends_above t) olds e, p.olds_end, not-lt t e.span.end k);
    lone_at = p.lone_at;
    lone_end = p.lone_end;
    lone_are = p.lone_are;
    lone_low = λ n. let l = p.lone_low n in (
      l.0,
      omega (arith, l.1, h),
      l.2,
      rises-push s ob olds e l.3 p.olds_low h (omega (arith, l.1, h)) i,
    );
    partners_at = p.partners_at;
    partners_low = p.partners_low;
    partners_are = p.partners_are;
    later_rise = p.later_rise;
    later_high = p.later_high;
    later_low = p.later_low;
    sent_low = p.sent_low;
    early = p.early;
    apart = p.apart;
    bags = bags-old t os fs (ss ++ (olds ++ (lone ++ (partners ++ later))))
        (ss ++ ((olds ++ e ∷ []) ++ (lone ++ (partners ++ later)))) e i.0 k
        (λ f. omega (
          arith,
          all-of f ss (olds ++ e ∷ []) lone partners later,
          all-of f ss olds lone partners later,
          push-of f olds e,
        )) p.bags;
  }

  -- a fresh element comes
  module _ (e : Elem) (i : IsInterval e.span.start e.span.end) (h : fb ≤ e.span.start)
      (k : t ≤ e.span.start) where
    came : (now : List Elem)
        → ((f : Elem → ℕ)
        → weigh f now ≡ f e + weigh f (ss ++ (olds ++ (lone ++ (partners ++ later)))))
        → Bags t os (fs ++ e ∷ []) now
    came now w = bags-fresh t os fs
        (ss ++ (olds ++ (lone ++ (partners ++ later)))) now e i.0 k w p.bags

    later-low : weigh (starts_above e.span.start) later ≡ 0
    later-low = sent-low fb e.span.start later h p.later_low

    -- above the split
    pub later-comes : t < e.span.start
        → Parts t ob e.span.start b s olds lone partners (later ++ e ∷ []) os (fs ++ e ∷ []) ss
    later-comes n = record {
      old_beat = p.old_beat;
      fresh_beat = omega (arith, p.fresh_beat, h);
      olds_rise = p.olds_rise;
      olds_low = p.olds_low;
      olds_end = p.olds_end;
      lone_at = p.lone_at;
      lone_end = p.lone_end;
      lone_are = p.lone_are;
      lone_low = p.lone_low;
      partners_at = p.partners_at;
      partners_low = p.partners_low;
      partners_are = p.partners_are;
      later_rise = rises-push b fb later e p.later_rise p.later_low h
          (omega (arith, p.fresh_beat, h, k)) i;
      later_high = omega
          (arith, push-of (starts_by t) later e, p.later_high, not-le e.span.start t n);
      later_low = omega (
        arith,
        push-of (starts_above e.span.start) later e,
        later-low,
        not-lt e.span.start e.span.start (omega arith),
      );
      sent_low = p.sent_low;
      early = λ q. absurd (omega (arith, q, n));
      apart = p.apart;
      bags = came (ss ++ (olds ++ (lone ++ (partners ++ (later ++ e ∷ [])))))
          (λ f. omega (
            arith,
            all-of f ss olds lone partners (later ++ e ∷ []),
            all-of f ss olds lone partners later,
            push-of f later e,
          ));
    }

    -- at the split, where no old one waits for it
    pub partner-comes : e.span.start ≡ t → weigh (has_tuple e.tuple) lone ≡ 0 → (now : List Elem)
        → Added e partners now
        → Parts t ob e.span.start b s olds lone now later os (fs ++ e ∷ []) ss
    partner-comes at none now put = record {
      old_beat = p.old_beat;
      fresh_beat = omega (arith, p.fresh_beat, h);
      olds_rise = p.olds_rise;
      olds_low = p.olds_low;
      olds_end = p.olds_end;
      lone_at = p.lone_at;
      lone_end = p.lone_end;
      lone_are = p.lone_are;
      lone_low = p.lone_low;
      partners_at =
          omega (arith, put (starts_elsewhere t), is-else e.span.start t at, p.partners_at);
      partners_low = λ _. omega (arith, p.fresh_beat, h, at);
      partners_are =
          omega (arith, put is_no_interval, no-interval e.span.start e.span.end i, p.partners_are);
      later_rise = p.later_rise;
      later_high = p.later_high;
      later_low = later-low;
      sent_low = p.sent_low;
      early = λ q. p.early (omega (arith, h, at));
      apart = touching-more t (ss ++ (lone ++ partners)) (ss ++ (lone ++ now)) e
          (λ f. omega (arith, near-of f ss lone now, near-of f ss lone partners, put f))
          (end-apart t e e end-later)
          (weigh-none (touch t e) (λ x. end-apart t e x end-later)
          (ss ++ (lone ++ partners))) touched p.apart;
      bags = came (ss ++ (olds ++ (lone ++ (now ++ later))))
          (λ f. omega (
            arith,
            all-of f ss olds lone now later,
            all-of f ss olds lone partners later,
            put f,
          ));
    }
      where
        end-later : e.span.end ≢ t
        end-later q = absurd (omega (arith, q, i.0, at))

        both-zero : (x : Elem)
            → starts_elsewhere t x + is_no_interval x ≡ starts_elsewhere t x + is_no_interval x
        both-zero x = refl

        in-partners : weigh (λ x. touch t x e) partners ≡ 0
        in-partners =
            let sum = Rattle.pipes_stream.proofs.Weights.weigh-plus
            (starts_elsewhere t) is_no_interval partners in
            zero-of (λ x. touch t x e) (λ x. starts_elsewhere t x + is_no_interval x) partners
            (λ x. touch-spans t x e)
            (omega (arith, sum, p.partners_at, p.partners_are))

        touched : weigh (λ x. touch t x e) (ss ++ (lone ++ partners)) ≡ 0
        touched =
            let a = zero-of (λ x. touch t x e) (ends_at t) ss (λ x. touch-end t x e)
            (p.early (omega (arith, h, at))) in
            let c = zero-of (λ x. touch t x e) (has_tuple e.tuple) lone
            (λ x. touched-tuple t x e) none in
            omega (arith, near-of (λ x. touch t x e) ss lone partners, a, c, in-partners)

    -- at the split, where an old one waits for it
    pub both-come : e.span.start ≡ t → (first both : Elem) (left : List Elem)
        → first.tuple ≡ e.tuple → TakenOut first lone left → IsJoint first e both
        → (b ≤ both.span.start) × IsInterval both.span.start both.span.end
        × Parts t ob e.span.start both.span.start s olds left partners later os (fs ++ e ∷ [])
        (ss ++ both ∷ [])
    both-come at first both left same out joint = (
      omega (arith, joint.start, first-at, low.0),
      (
        omega (arith, joint.start, joint.end, first-at, low.2, at, i.0),
        omega (arith, joint.end, i.1),
      ),
      record {
        old_beat = omega (arith, joint.start, first-at, low.1);
        fresh_beat = omega (arith, joint.start, first-at, low.2);
        olds_rise = subst (λ (n : ℕ). ElemsRiseFrom n olds) (sym (joint.start ∙ first-at)) low.3;
        olds_low = p.olds_low;
        olds_end = p.olds_end;
        lone_at = omega (arith, out (starts_elsewhere s), p.lone_at);
        lone_end = omega (arith, out (ends_elsewhere t), p.lone_end);
        lone_are = omega (arith, out is_no_interval, p.lone_are);
        lone_low = λ n. (omega (arith, joint.start, first-at), low.1, low.2, low.3);
        partners_at = p.partners_at;
        partners_low = λ n. omega (arith, joint.start, first-at, low.2);
        partners_are = p.partners_are;
        later_rise = rises-above both.span.start b t later p.later_rise p.later_high
            (omega (arith, joint.start, first-at, low.2));
        later_high = p.later_high;
        later_low = later-low;
        sent_low =
            let z = sent-low b both.span.start ss
            (omega (arith, joint.start, first-at, low.0)) p.sent_low in
            omega (
              arith,
              push-of (starts_above both.span.start) ss both,
              z,
              not-lt both.span.start both.span.start (omega arith),
            );
        early = λ q. omega (
          arith,
          push-of (ends_at t) ss both,
          p.early (omega (arith, h, at)),
          not-eq both.span.end t (λ r. absurd (omega (arith, r, joint.end, i.0, at))),
        );
        apart =
            touching-across t (ss ++ (left ++ partners))
            ((ss ++ both ∷ []) ++ (left ++ partners)) both
            (λ r. absurd (omega (arith, r, joint.start, first-at, low.2)))
            (λ r. absurd (omega (arith, r, joint.end, i.0, at)))
            (λ f. omega (
              arith,
              near-of f (ss ++ both ∷ []) left partners,
              near-of f ss left partners,
              push-of f ss both,
            ))
            (touching-less t (ss ++ (lone ++ partners)) (ss ++ (left ++ partners)) first
            (λ f. omega (
              arith,
              near-of f ss left partners,
              near-of f ss lone partners,
              out f,
            )) p.apart);
        bags =
            bags-pair t os (fs ++ e ∷ []) (e ∷ (ss ++ (olds ++ (lone ++ (partners ++ later)))))
            (ss ++ (olds ++ (left ++ (partners ++ later))))
            ((ss ++ both ∷ []) ++ (olds ++ (left ++ (partners ++ later)))) pair
            (record {
              ends = first-end;
              starts = at;
              tuples = sym same;
              tuple = joint.tuple;
              start = joint.start;
              end = joint.end;
            })
            (omega (arith, first-at, low.2)) (omega (arith, i.0, at))
            (λ f. omega (
              arith,
              all-of f ss olds lone partners later,
              all-of f ss olds left partners later,
              out f,
            ))
            (λ f. omega (
              arith,
              all-of f (ss ++ both ∷ []) olds left partners later,
              all-of f ss olds left partners later,
              push-of f ss both,
            ))
            (came (e ∷ (ss ++ (olds ++ (lone ++ (partners ++ later))))) (λ f. refl));
      },
    )
      where
        pair : Pairing
        pair = record { first = first; second = e; both = both }

        some : 0 < count_of lone
        some = omega (arith, out (λ _. 1))

        low : (b ≤ s) × (s ≤ ob) × (s < t) × ElemsRiseFrom s olds
        low = p.lone_low some

        first-at : first.span.start ≡ s
        first-at = else-zero first.span.start s (omega (arith, out (starts_elsewhere s), p.lone_at))

        first-end : first.span.end ≡ t
        first-end = else-zero first.span.end t (omega (arith, out (ends_elsewhere t), p.lone_end))
