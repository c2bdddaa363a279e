-- What a seam does with the messages that came to two tops.
use Rattle.std.specs.Prelude.{◌≡◌, ℕ, max, Bool, true, false, List, [], ◌∷◌, ◌++◌, map}
use Rattle.pipes_stream.specs.declared.Elem.{Elem}
use Rattle.pipes_stream.specs.declared.message.Message.{Message}
use Rattle.pipes_stream.specs.declared.message.Message.TheVariants as message
use Rattle.pipes_stream.specs.Lists.{run, start_of_list, Valid, beat, elements}
use Rattle.pipes_stream.specs.Weights.{weigh}
use Rattle.pipes_coalesce.specs.Tests.{ends_above, starts_below}
use Rattle.pipes_coalesce.specs.Stands.{CoalesceStands, now_of}
use Rattle.pipes_coalesce.specs.declared.merge.Coalesce.{Coalesce}
use Rattle.pipes_seam.specs.declared.seam.Seam.{Seam}

-- the messages that are elements
abbrev pub only_elements : List Message → List Message
only_elements ms = map message.Elem (elements ms)

-- the elements, and then how far the output is
abbrev pub told : List Elem → ℕ → List Message
told es level = map message.Elem es ++ message.Beat level ∷ []

-- how far the output is: no less than at the beginning
abbrev pub level_of : Seam → ℕ
level_of s = max s.first (now_of s.merge)

-- The messages of the old top were taken, and these were sent for them.
pub record GivesOld (c d : Coalesce) (olds before now : List Message) : Type 0 where
  pub split : d.split ≡ c.split
  pub more : List Message
  pub appended : now ≡ before ++ more
  pub stands : (earlier fresh sent : List Message) → CoalesceStands c earlier fresh sent
      → Valid (earlier ++ olds) → weigh (ends_above c.split) (elements olds) ≡ 0
      → CoalesceStands d (earlier ++ olds) fresh (sent ++ more)

-- The messages of the fresh top were taken, and these were sent for them.
pub record GivesFresh (c d : Coalesce) (fresh before now : List Message) : Type 0 where
  pub split : d.split ≡ c.split
  pub more : List Message
  pub appended : now ≡ before ++ more
  pub stands : (olds earlier sent : List Message) → CoalesceStands c olds earlier sent
      → Valid (earlier ++ fresh) → weigh (starts_below c.split) (elements fresh) ≡ 0
      → CoalesceStands d olds (earlier ++ fresh) (sent ++ more)

-- The messages of both tops were taken. The elements that the merge sent for them, and then how
-- far the output is, were put after what was there.
pub record Joins (c d : Seam) (olds fresh before now : List Message) : Type 0 where
  pub split : d.merge.split ≡ c.merge.split
  pub first : d.first ≡ c.first
  pub more : List Message
  pub appended : now ≡ before ++ told (elements more) (level_of d)
  pub stands : (old_top fresh_top sent : List Message)
      → CoalesceStands c.merge old_top fresh_top sent
      → Valid (old_top ++ olds) → weigh (ends_above c.merge.split) (elements olds) ≡ 0
      → Valid (fresh_top ++ fresh) → weigh (starts_below c.merge.split) (elements fresh) ≡ 0
      → CoalesceStands d.merge (old_top ++ olds) (fresh_top ++ fresh) (sent ++ more)

abbrev pub end_of : Bool → List Message
end_of true = message.End ∷ []
end_of false = []

-- what stands for a list that has come this far: a heartbeat, and its end
abbrev pub opening_of : List Message → List Message
opening_of list = message.Beat (beat list) ∷ end_of (run start_of_list list).ended
