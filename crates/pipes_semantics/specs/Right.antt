-- What written entries have to do with the answer of a query.
use Rattle.std.specs.Prelude.{◌≡◌, ℕ, ◌≤◌, ◌<◌, List, [], ◌∷◌, ◌++◌, ⊤}
use Rattle.std.specs.List.{All}
use Rattle.pipes_time.specs.Interval.{horizon, IsInterval}
use Rattle.pipes_tuple.specs.Bag.{SameBag}
use Rattle.pipes_tuple.specs.Kinds.{Fits}
use Rattle.pipes_stream.specs.declared.Elem.{Elem}
use Rattle.pipes_window.specs.declared.item.Item.{Item}
use Rattle.pipes_query.specs.declared.query.Query.{Query}
use Rattle.pipes_output.specs.declared.entry.Entry.{Entry}
use Rattle.pipes_output.specs.declared.entry.Entry.TheVariants.{Beat}
use Rattle.pipes_semantics.specs.Answer.{answer, schema_of}
use Rattle.pipes_semantics.specs.Written.{results, starts, written_snapshot}

-- from the first number on, none is below the one before it
abbrev pub NeverFall : ℕ → List ℕ → Type 0
NeverFall low [] = ⊤
NeverFall low (n ∷ ns) = (low ≤ n) × NeverFall n ns

-- an interval, and a tuple of the query's result schema
abbrev pub IsResultOf : Query → Elem → Type 0
IsResultOf query e = IsInterval e.span.start e.span.end × Fits e.tuple (schema_of query)

-- starts and heartbeats never fall, and each result is one of the query's
pub record Ordered (query : Query) (entries : List Entry) : Type 0 where
  pub rising : NeverFall 0 (starts entries)
  pub typed : All (IsResultOf query) (results entries)

-- at each instant the results are the answer on the items of each source
pub record Right (query : Query) (items : List (List Item)) (entries : List Entry) : Type 0 where
  pub ordered : Ordered query entries
  pub answers : (t : ℕ) → t < horizon → SameBag (written_snapshot entries t) (answer query items t)

-- at each heartbeat the results before it are already the answer below it
pub record Final (query : Query) (items : List (List Item)) (entries : List Entry) : Type 0 where
  pub ordered : Ordered query entries
  pub answers : (before after : List Entry) (h t : ℕ) → entries ≡ before ++ Beat h ∷ after → t < h
      → t < horizon → SameBag (written_snapshot before t) (answer query items t)
