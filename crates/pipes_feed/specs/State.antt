-- A reader of items, as its callers see it.
use Rattle.std.specs.Prelude.{ℕ, List, [], Option, None}
use Rattle.pipes_tuple.specs.declared.value.Kind.{Kind}
use Rattle.pipes_feed.specs.declared.reason.Reason.{Reason}
use Rattle.pipes_feed.specs.Reached.{Reached, source_start}

-- the kinds of the columns and the slack, how far the source has been read, the bytes of a read
-- that no line has taken yet, and how the arrivals ended
pub record ReaderState : Type 0 where
  pub kinds : List Kind
  pub slack : ℕ
  pub reached : Reached
  pub unread : List ℕ
  pub ended : Option Reason

-- a reader that has read nothing
abbrev pub fresh_reader : List Kind → ℕ → ReaderState
fresh_reader kinds slack =
    record { kinds = kinds; slack = slack; reached = source_start; unread = []; ended = None }
