-- How far a plan's answer has come, once nothing is on its way.
use Rattle.std.specs.Prelude.{◌≡◌, ℕ, zero, suc, ◌+◌, ◌≤◌, min, max, List, Bool, cond}
use Rattle.pipes_stream.specs.declared.Elem.{Elem}
use Rattle.pipes_stream.specs.declared.message.Message.{Message}
use Rattle.pipes_stream.specs.Lists.{beat, HasEnded}
use Rattle.pipes_stream.specs.Lawful.{Lists, floor}
use Rattle.pipes_box.specs.Shapes.{Shape, Leaf, One, Two, leaf_count, leaf_elements}

-- the least heartbeat of what was given at the leaves, which are numbered from n on
abbrev pub least_given : Shape → ℕ → Lists → ℕ
least_given (Leaf source kinds) n given = beat (given n)
least_given (One task a) n given = least_given a n given
least_given (Two task a b) n given =
    min (least_given a n given) (least_given b (n + leaf_count a) given)

-- one more, where an operator lags
abbrev pub with_lag : Bool → ℕ → ℕ
with_lag lags n = cond lags (suc n) n

-- the most operators on the way from a leaf to the top that may keep their heartbeat below those of
-- their ports
abbrev pub lag_of : Shape → ℕ
lag_of (Leaf source kinds) = 0
lag_of (One task a) = with_lag task.lags (lag_of a)
lag_of (Two task a b) = with_lag task.lags (max (lag_of a) (lag_of b))

-- `floor`, so many times
abbrev pub floors : ℕ → ℕ → List Elem → ℕ
floors zero h es = h
floors (suc n) h es = floor (floors n h es) es

-- each leaf was given its end
abbrev pub AllEnded : Shape → ℕ → Lists → Type 0
AllEnded (Leaf source kinds) n given = HasEnded (given n)
AllEnded (One task a) n given = AllEnded a n given
AllEnded (Two task a b) n given = AllEnded a n given × AllEnded b (n + leaf_count a) given

-- The list has come as far as what was given at the leaves: its heartbeat is kept back by no more
-- than the elements that reach there, and not at all where no operator lags; and after the end of
-- each leaf it has ended.
pub record IsPrompt (shape : Shape) (n : ℕ) (given : Lists) (list : List Message) : Type 0 where
  pub below : beat list ≤ least_given shape n given
  pub above : floors (lag_of shape) (least_given shape n given) (leaf_elements shape n given)
      ≤ beat list
  pub ends : AllEnded shape n given → HasEnded list
