-- Messages that come on either side.
use Rattle.std.proofs.Common.{◌≡◌, ◌≢◌, ℕ, ◌+◌, ◌≤◌, ◌<◌, Bool, true, false, List, [], ◌∷◌, ◌++◌}
use Rattle.std.proofs.Common.{refl, sym, ap, ◌∙◌, subst, arith, append-nil}
use Rattle.pipes_time.specs.Interval.{closed, IsInterval}
use Rattle.pipes_stream.specs.declared.Elem.{Elem}
use Rattle.pipes_stream.specs.declared.message.Message.{Message}
use Rattle.pipes_stream.specs.declared.message.Message.TheVariants as message
use Rattle.pipes_stream.specs.Progress.{Progress}
use Rattle.pipes_stream.specs.Lists.{CanFollow, after, run, start_of_list, Valid, beat, elements}
use Rattle.pipes_stream.proofs.Messages.{run-push, valid-push, elements-append, after-rises}
use Rattle.pipes_stream.proofs.Messages.{beat-closed}
use Rattle.pipes_stream.specs.Weights.{weigh}
use Rattle.pipes_coalesce.specs.Tests.{starts_below, ends_above}
use Rattle.pipes_coalesce.specs.Filed.{has_tuple, Added, TakenOut}
use Rattle.pipes_coalesce.specs.Joined.{IsJoint}
use Rattle.pipes_coalesce.specs.Stands.{count_of, EndsBy, StartsFromSplit, Parts, Flows, FreshFlows}
use Rattle.pipes_coalesce.specs.Stands.{Stays}
use Rattle.pipes_coalesce.specs.Stands.{AdmitsOld, AdmitsElem, AdmitsFresh}
use Rattle.pipes_coalesce.specs.declared.merge.Coalesce.{Coalesce}
use Rattle.pipes_coalesce.proofs.Touching.{not-lt, else-zero}
use Rattle.pipes_coalesce.proofs.Steps.{push-of}
use Rattle.pipes_coalesce.proofs.Coming.{beats-rise, old-comes, later-comes, partner-comes}
use Rattle.pipes_coalesce.proofs.Coming.{both-come}

-- ---- a fresh element
module _ (c d : Coalesce) (e : Elem) (before now : List Message) (y : Stays c d)
    (olds : d.olds ≡ c.olds) (start : d.lone_start ≡ c.lone_start) where
  pub admits-later : d.lone ≡ c.lone → d.partners ≡ c.partners → d.later ≡ c.later ++ e ∷ []
      → now ≡ before → e.span.start ≢ c.split → AdmitsElem c d e before now
  admits-later lone partners later is n = record {
    stays = y;
    olds = olds;
    more = [];
    appended = is ∙ sym (append-nil before);
    flows = λ was os fs sent f low high i.
        let p = later-comes c.split c.old_watch.beat was
        (beat sent) c.lone_start c.olds c.lone c.partners c.later os fs
        (elements sent) f.parts e i low high
        (omega (arith, n, high)) in
        subst (λ (ms : List Message). FreshFlows d e.span.start os (fs ++ e ∷ []) ms)
        (sym (append-nil sent))
        (record {
          sent_valid = f.sent_valid;
          unended = f.unended;
          parts =
              rw (y.split, y.old_watch, olds, start, lone, partners, later) p;
        });
  }

  pub admits-partner : d.lone ≡ c.lone → d.later ≡ c.later → Added e c.partners d.partners
      → now ≡ before → e.span.start ≡ c.split
      → weigh (has_tuple e.tuple) c.lone ≡ 0 → AdmitsElem c d e before now
  admits-partner lone later put is at none = record {
    stays = y;
    olds = olds;
    more = [];
    appended = is ∙ sym (append-nil before);
    flows = λ was os fs sent f low high i.
        let p = partner-comes c.split c.old_watch.beat was
        (beat sent) c.lone_start c.olds c.lone c.partners c.later os fs
        (elements sent) f.parts e i low high
        at none d.partners put in
        subst (λ (ms : List Message). FreshFlows d e.span.start os (fs ++ e ∷ []) ms)
        (sym (append-nil sent))
        (record {
          sent_valid = f.sent_valid;
          unended = f.unended;
          parts =
              rw (y.split, y.old_watch, olds, start, lone, later) p;
        });
  }

  pub admits-both : d.partners ≡ c.partners → d.later ≡ c.later → (first both : Elem)
      → TakenOut first c.lone d.lone → first.tuple ≡ e.tuple
      → (first.span.end ≡ e.span.start → IsJoint first e both)
      → now ≡ before ++ message.Elem both ∷ [] → e.span.start ≡ c.split
      → AdmitsElem c d e before now
  admits-both partners later first both out same joint is at = record {
    stays = y;
    olds = olds;
    more = message.Elem both ∷ [];
    appended = is;
    flows = λ was os fs sent f low high i.
        let end : first.span.end ≡ c.split =
        else-zero first.span.end c.split
        (omega (
          arith,
          out (Rattle.pipes_coalesce.specs.Tests.ends_elsewhere c.split),
          f.parts.lone_end,
        )) in
        let p = both-come c.split c.old_watch.beat was
        (beat sent) c.lone_start c.olds c.lone c.partners c.later os fs
        (elements sent) f.parts e i low high
        at first both d.lone same out (joint (end ∙ sym at)) in
        let run-is = run-push start_of_list sent (message.Elem both) in
        let there : beat (sent ++ message.Elem both ∷ []) ≡ both.span.start =
        ap (λ (p : Progress). p.beat) run-is in
        let elems : elements (sent ++ message.Elem both ∷ []) ≡ elements sent ++ both ∷ [] =
        elements-append sent (message.Elem both ∷ []) in
        record {
          sent_valid = valid-push start_of_list sent (message.Elem both) f.sent_valid
              (f.unended, p.0, p.1);
          unended = ap (λ (p : Progress). p.ended) run-is ∙ f.unended;
          parts = rw (y.split, y.old_watch, olds, start, partners, later, there, elems) p.2;
        };
  }

-- ---- a message of the fresh side: b has seen it, and d has taken it in
pub admits-elem : (c b d : Coalesce) (e : Elem) (before now : List Message) → b.split ≡ c.split
    → b.failed ≡ c.failed → b.old_watch ≡ c.old_watch
    → (CanFollow c.fresh_watch (message.Elem e)
    → b.fresh_watch ≡ after c.fresh_watch (message.Elem e)) → b.olds ≡ c.olds → b.lone ≡ c.lone
    → b.lone_start ≡ c.lone_start → b.partners ≡ c.partners → b.later ≡ c.later
    → AdmitsElem b d e before now → AdmitsFresh c d (message.Elem e) before now
admits-elem c b d e before now split failed old watch olds lone start partners later a = record {
  split = a.stays.split ∙ split;
  failed = a.stays.failed ∙ failed;
  more = a.more;
  appended = a.appended;
  flows = λ os fs sent f can high.
      let can-here = subst (λ (p : Progress). CanFollow p (message.Elem e))
      (sym f.fresh_watch) can in
      let g : FreshFlows b c.fresh_watch.beat (elements os) (elements fs) sent =
      record {
        sent_valid = f.sent_valid;
        unended = f.unended;
        parts =
            rw (split, old, olds, lone, start, partners, later) f.parts;
      } in
      let h = a.flows c.fresh_watch.beat (elements os) (elements fs) sent g can-here.1
      (rw split high) can.2 in
      let seen : d.fresh_watch ≡ run start_of_list (fs ++ message.Elem e ∷ []) =
      a.stays.fresh_watch ∙ watch can-here
      ∙ ap (λ (p : Progress). after p (message.Elem e)) f.fresh_watch
      ∙ sym (run-push start_of_list fs (message.Elem e)) in
      let there : d.fresh_watch.beat ≡ e.span.start =
      ap (λ (p : Progress). p.beat) (a.stays.fresh_watch ∙ watch can-here) in
      let elems : elements (fs ++ message.Elem e ∷ []) ≡ elements fs ++ e ∷ [] =
      elements-append fs (message.Elem e ∷ []) in
      let d-split : d.split ≡ c.split = a.stays.split ∙ split in
      record {
        going = a.stays.failed ∙ failed ∙ f.going;
        old_valid = f.old_valid;
        fresh_valid = valid-push start_of_list fs (message.Elem e) f.fresh_valid can;
        old_watch = a.stays.old_watch ∙ old ∙ f.old_watch;
        fresh_watch = seen;
        old_low = rw d-split f.old_low;
        fresh_high = rw (d-split, elems)
            (omega (
              arith,
              push-of (starts_below c.split) (elements fs) e,
              f.fresh_high,
              not-lt e.span.start c.split high,
            ));
        sent_valid = h.sent_valid;
        unended = h.unended;
        parts = rw (there, elems) h.parts;
      };
}

pub no-elem : (m : Message) → ((e : Elem) → m ≡ message.Elem e → ⊥) → elements (m ∷ []) ≡ []
no-elem (message.Elem e) n = absurd (n e refl)
no-elem (message.Beat at) n = refl
no-elem message.End n = refl

no-more : (ms : List Message) (m : Message) → elements (m ∷ []) ≡ []
    → elements (ms ++ m ∷ []) ≡ elements ms
no-more ms m n = elements-append ms (m ∷ []) ∙ ap (λ (es : List Elem). elements ms ++ es) n
    ∙ append-nil (elements ms)

rises : (ms : List Message) (m : Message) → Valid ms → CanFollow (run start_of_list ms) m
    → beat ms ≤ beat (ms ++ m ∷ [])
rises ms m v can =
    let r = ap (λ (p : Progress). p.beat) (run-push start_of_list ms m) in
    let a = after-rises (run start_of_list ms) m can (beat-closed ms v) in
    omega (arith, r, a.0)

pub admits-other : (c d : Coalesce) (m : Message) (before : List Message) → d.split ≡ c.split
    → d.failed ≡ c.failed → d.old_watch ≡ c.old_watch
    → (CanFollow c.fresh_watch m → d.fresh_watch ≡ after c.fresh_watch m) → d.olds ≡ c.olds
    → d.lone ≡ c.lone
    → d.lone_start ≡ c.lone_start → d.partners ≡ c.partners → d.later ≡ c.later
    → elements (m ∷ []) ≡ [] → AdmitsFresh c d m before before
admits-other c d m before split failed old watch olds lone start partners later n = record {
  split = split;
  failed = failed;
  more = [];
  appended = sym (append-nil before);
  flows = λ os fs sent f can high.
      let can-here = subst (λ (p : Progress). CanFollow p m) (sym f.fresh_watch) can in
      let seen : d.fresh_watch ≡ run start_of_list (fs ++ m ∷ []) =
      watch can-here ∙ ap (λ (p : Progress). after p m) f.fresh_watch
      ∙ sym (run-push start_of_list fs m) in
      let up : c.fresh_watch.beat ≤ d.fresh_watch.beat =
      let a = ap (λ (p : Progress). p.beat) f.fresh_watch in
      let b = ap (λ (p : Progress). p.beat) seen in
      omega (arith, a, b, rises fs m f.fresh_valid can) in
      let p = beats-rise c.split c.old_watch.beat c.fresh_watch.beat
      (beat sent) c.lone_start c.olds c.lone c.partners c.later (elements os) (elements fs)
      (elements sent) f.parts c.old_watch.beat d.fresh_watch.beat (omega arith) up in
      subst (λ (ms : List Message). Flows d d.olds os (fs ++ m ∷ []) ms) (sym (append-nil sent))
      (record {
        going = failed ∙ f.going;
        old_valid = f.old_valid;
        fresh_valid = valid-push start_of_list fs m f.fresh_valid can;
        old_watch = old ∙ f.old_watch;
        fresh_watch = seen;
        old_low = rw split f.old_low;
        fresh_high = rw (split, no-more fs m n) f.fresh_high;
        sent_valid = f.sent_valid;
        unended = f.unended;
        parts = rw (split, old, olds, lone, start, partners, later, no-more fs m n) p;
      });
}

-- ---- a message of the old side
pub admits-old : (c d : Coalesce) (e : Elem) → d.split ≡ c.split → d.failed ≡ c.failed
    → d.fresh_watch ≡ c.fresh_watch
    → (CanFollow c.old_watch (message.Elem e) → d.old_watch ≡ after c.old_watch (message.Elem e))
    → d.olds ≡ c.olds ++ e ∷ [] → d.lone ≡ c.lone
    → d.lone_start ≡ c.lone_start → d.partners ≡ c.partners → d.later ≡ c.later
    → AdmitsOld c d (message.Elem e)
admits-old c d e split failed fresh watch olds lone start partners later = record {
  split = split;
  failed = failed;
  flows = λ os fs sent f can low.
      let can-here = subst (λ (p : Progress). CanFollow p (message.Elem e)) (sym f.old_watch) can in
      let seen : d.old_watch ≡ run start_of_list (os ++ message.Elem e ∷ []) =
      watch can-here ∙ ap (λ (p : Progress). after p (message.Elem e)) f.old_watch
      ∙ sym (run-push start_of_list os (message.Elem e)) in
      let there : d.old_watch.beat ≡ e.span.start =
      ap (λ (p : Progress). p.beat) (watch can-here) in
      let elems : elements (os ++ message.Elem e ∷ []) ≡ elements os ++ e ∷ [] =
      elements-append os (message.Elem e ∷ []) in
      let p = old-comes c.split c.old_watch.beat c.fresh_watch.beat
      (beat sent) c.lone_start c.olds c.lone c.partners c.later (elements os) (elements fs)
      (elements sent) f.parts e can.2 can-here.1 low in
      record {
        going = failed ∙ f.going;
        old_valid = valid-push start_of_list os (message.Elem e) f.old_valid can;
        fresh_valid = f.fresh_valid;
        old_watch = seen;
        fresh_watch = fresh ∙ f.fresh_watch;
        old_low = rw (split, elems)
            (omega (
              arith,
              push-of (ends_above c.split) (elements os) e,
              f.old_low,
              not-lt c.split e.span.end low,
            ));
        fresh_high = rw split f.fresh_high;
        sent_valid = f.sent_valid;
        unended = f.unended;
        parts = rw (split, there, fresh, olds, lone, start, partners, later, elems) p;
      };
}

pub admits-old-other : (c d : Coalesce) (m : Message) → d.split ≡ c.split → d.failed ≡ c.failed
    → d.fresh_watch ≡ c.fresh_watch
    → (CanFollow c.old_watch m → d.old_watch ≡ after c.old_watch m) → d.olds ≡ c.olds
    → d.lone ≡ c.lone
    → d.lone_start ≡ c.lone_start → d.partners ≡ c.partners → d.later ≡ c.later
    → elements (m ∷ []) ≡ [] → AdmitsOld c d m
admits-old-other c d m split failed fresh watch olds lone start partners later n = record {
  split = split;
  failed = failed;
  flows = λ os fs sent f can low.
      let can-here = subst (λ (p : Progress). CanFollow p m) (sym f.old_watch) can in
      let seen : d.old_watch ≡ run start_of_list (os ++ m ∷ []) =
      watch can-here ∙ ap (λ (p : Progress). after p m) f.old_watch
      ∙ sym (run-push start_of_list os m) in
      let up : c.old_watch.beat ≤ d.old_watch.beat =
      let a = ap (λ (p : Progress). p.beat) f.old_watch in
      let b = ap (λ (p : Progress). p.beat) seen in
      omega (arith, a, b, rises os m f.old_valid can) in
      let p = beats-rise c.split c.old_watch.beat c.fresh_watch.beat
      (beat sent) c.lone_start c.olds c.lone c.partners c.later (elements os) (elements fs)
      (elements sent) f.parts d.old_watch.beat c.fresh_watch.beat up (omega arith) in
      record {
        going = failed ∙ f.going;
        old_valid = valid-push start_of_list os m f.old_valid can;
        fresh_valid = f.fresh_valid;
        old_watch = seen;
        fresh_watch = fresh ∙ f.fresh_watch;
        old_low = rw (split, no-more os m n) f.old_low;
        fresh_high = rw split f.fresh_high;
        sent_valid = f.sent_valid;
        unended = f.unended;
        parts = rw (split, fresh, olds, lone, start, partners, later, no-more os m n) p;
      };
}

pub admits-old-is : (c d : Coalesce) (m : Message) (e : Elem) → m ≡ message.Elem e
    → d.split ≡ c.split → d.failed ≡ c.failed → d.fresh_watch ≡ c.fresh_watch
    → (CanFollow c.old_watch m → d.old_watch ≡ after c.old_watch m) → d.olds ≡ c.olds ++ e ∷ []
    → d.lone ≡ c.lone
    → d.lone_start ≡ c.lone_start → d.partners ≡ c.partners → d.later ≡ c.later → AdmitsOld c d m
admits-old-is c d m e is split failed fresh watch olds lone start partners later =
    subst (λ (n : Message). AdmitsOld c d n) (sym is)
    (admits-old c d e split failed fresh (λ can. watch (subst (CanFollow c.old_watch) (sym is) can)
    ∙ ap (after c.old_watch) is) olds lone start partners later)
