-- What a union stands for, and what its steps do.
use Rattle.std.specs.Prelude.{◌≡◌, ℕ, ◌<◌, min, false, ◌&&◌, List, ◌++◌}
use Rattle.std.specs.List.{All}
use Rattle.pipes_tuple.specs.declared.value.Kind.{Kind}
use Rattle.pipes_tuple.specs.Kinds.{Fits}
use Rattle.pipes_tuple.proofs.Perm.{Perm}
use Rattle.pipes_stream.specs.declared.Elem.{Elem}
use Rattle.pipes_stream.specs.declared.message.Message.{Message}
use Rattle.pipes_stream.specs.declared.message.Message.TheVariants as message
use Rattle.pipes_stream.specs.Progress.{Progress}
use Rattle.pipes_stream.specs.Lists.{run, start_of_list, Valid, beat, elements}
use Rattle.pipes_stream.specs.Lawful.{Lists}
use Rattle.pipes_sweep.specs.Waiting.{StartsRise, due, later, placed}
use Rattle.pipes_sweep.specs.Sending.{sent_at}
use Rattle.pipes_flat.specs.declared.union.Union.{Union}

-- The elements sent and those that wait are those taken at both ports, and none that waits has been
-- reached by the lower heartbeat, which is how far the list sent has come.
pub record StandsForBoth (kinds : List Kind) (hold : List Elem) (left right : Progress)
    (lefts rights sent : List Message) : Type 0 where
  pub left_valid : Valid lefts
  pub right_valid : Valid rights
  pub left_fits : All (λ e. Fits e.tuple kinds) (elements lefts)
  pub right_fits : All (λ e. Fits e.tuple kinds) (elements rights)
  pub left_is : left ≡ run start_of_list lefts
  pub right_is : right ≡ run start_of_list rights
  pub sent_valid : Valid sent
  pub sent_beat : beat sent ≡ min left.beat right.beat
  pub sent_ended : (run start_of_list sent).ended ≡ (left.ended && right.ended)
  pub waits : All (λ e. beat sent < e.span.start) hold
  pub all : Perm (elements sent ++ hold) (elements lefts ++ elements rights)

pub record UnionStands (u : Union) (taken : Lists) (sent : List Message) : Type 0 where
  pub going : u.failed ≡ false
  pub both : StandsForBoth u.schema u.hold u.left u.right (taken 0) (taken 1) sent

-- the elements that wait, with the message's
abbrev pub with_elem : Message → List Elem → List Elem
with_elem (message.Elem e) hold = placed e hold
with_elem (message.Beat at) hold = hold
with_elem message.End hold = hold

-- what is due at the lower heartbeat goes, and how far that is
pub record Sends (old new : Union) (known : ℕ) (before now : List Message) : Type 0 where
  pub schema : new.schema ≡ old.schema
  pub failed : new.failed ≡ old.failed
  pub left : new.left ≡ old.left
  pub right : new.right ≡ old.right
  pub hold : new.hold ≡ later (min old.left.beat old.right.beat) old.hold
  pub rises : StartsRise (due (min old.left.beat old.right.beat) old.hold)
  pub appended : now ≡ before ++ sent_at known (min old.left.beat old.right.beat)
      (old.left.ended && old.right.ended) old.hold
