-- Which commands a mode has.
use Rattle.pipes_query.specs.declared.script.Mode.{Mode}
use Rattle.pipes_query.specs.declared.script.Mode.TheVariants.{Inline, Threaded}
use Rattle.pipes_query.specs.declared.script.Command.{Command}
use Rattle.pipes_query.specs.declared.script.Command.TheVariants.{Feed, Rest, Await, Migrate, Drain}

abbrev pub HasCommand : Mode → Command → Type 0
HasCommand Threaded (Feed source count) = ⊥
HasCommand Threaded Rest = ⊥
HasCommand Inline (Await instant) = ⊥
HasCommand _ _ = Unit {0}
