-- What a distinct stands for.
use Rattle.std.specs.Prelude.{◌≡◌, ◌<◌, false, List, Some}
use Rattle.std.specs.List.{All}
use Rattle.indexmap.specs.IndexMap.{get, IsUnique}
use Rattle.pipes_tuple.specs.Kinds.{Fits}
use Rattle.pipes_tuple.specs.Equal.{tuple_eq}
use Rattle.pipes_stream.specs.declared.message.Message.{Message}
use Rattle.pipes_stream.specs.declared.message.Message.TheVariants as message
use Rattle.pipes_stream.specs.Lists.{run, start_of_list, Valid, elements}
use Rattle.pipes_stream.specs.Lawful.{Lists}
use Rattle.pipes_group.specs.declared.coverage.Slot.{Slot}
use Rattle.pipes_group.specs.declared.coverage.Coverage.{Coverage}
use Rattle.pipes_group.specs.declared.distinct.Distinct.{Distinct}
use Rattle.pipes_group.specs.Covers.{Row, Lives, AdmitsElem}

-- The list sent has come as far as the list taken, covers each tuple up to there or further, and is
-- to cover it up to the end of the last element taken that has it.
pub record DistinctStands (d : Distinct) (taken : Lists) (sent : List Message) : Type 0 where
  pub going : d.failed ≡ false
  pub taken_valid : Valid (taken 0)
  pub taken_fits : All (λ e. Fits e.tuple d.schema) (elements (taken 0))
  pub watch_is : d.watch ≡ run start_of_list (taken 0)
  pub sent_valid : Valid sent
  pub sent_run : run start_of_list sent ≡ run start_of_list (taken 0)
  pub unique : IsUnique tuple_eq d.coverage.table
  pub lives : Lives (get tuple_eq d.coverage.table) d.coverage.dues d.watch.beat
      (elements (taken 0)) (elements sent)
  pub later : (x : Row) (s : Slot) → get tuple_eq d.coverage.table x ≡ Some s
      → d.watch.beat < s.cover

-- what is sent last for a message
abbrev pub Lasts : Coverage → Coverage → Message → Message → Type 0
Lasts old new (message.Elem e) sent = AdmitsElem old new e sent
Lasts old new (message.Beat at) sent = (new ≡ old) × (sent ≡ message.Beat at)
Lasts old new message.End sent = (new ≡ old) × (sent ≡ message.End)
