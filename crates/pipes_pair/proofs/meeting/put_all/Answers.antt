use Rattle.std.proofs.Common.{◌≡◌, [], List, subst, arith}
use Rattle.std.specs.List.{All}
use Rattle.std.proofs.lemmas.List.Elements.{All-head, All-tail}
use Rattle.pipes_tuple.proofs.Perm.{Perm-refl}
use Rattle.pipes_stream.specs.declared.Elem.{Elem}
use Rattle.pipes_pair.specs.Meeting.{AreNarrow, joined_from}
use Rattle.pipes_pair.proofs.Puts.{put_next}
use Rattle.pipes_pair.proofs.meeting.put_all.Goals as goal

pub loop-other-init : goal.loop-other-init
loop-other-init g c = record { narrow = λ h. h; put = λ h. Perm-refl _; steps = omega arith }

pub loop-other-preserved : goal.loop-other-preserved
loop-other-preserved g c =
    let e : Elem = c.in-Some.other.now in
    record {
      narrow = λ h.
          All-tail (AreNarrow c.args.own.now) e c.next.new.self
          (subst (λ (es : List Elem). All (AreNarrow c.args.own.now) es) c.in-Some.ensures.next
          (c.loop-other.invariant.narrow h));
      put = λ h.
          put_next (joined_from [] c.args.condition.now c.args.is_left c.args.own.now) e _ _ _ _ _
          c.in-Some.ensures.next
          (c.in_ok-put_joined.ensures
          (All-head (AreNarrow c.args.own.now) e c.next.new.self
          (subst (λ (es : List Elem). All (AreNarrow c.args.own.now) es) c.in-Some.ensures.next
          (c.loop-other.invariant.narrow h))))
          (c.loop-other.invariant.put h);
      steps =
          let all = c.loop-other.invariant.steps in
          let one = c.next.ensures.steps in
          omega (arith, all, one);
    }
