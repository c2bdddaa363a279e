-- Lists of what a feeder's link carries: how far they have come, and their elements.
use Rattle.std.specs.Prelude.{List, [], ◌∷◌, map, false, true}
use Rattle.pipes_time.specs.Interval.{closed}
use Rattle.pipes_stream.specs.declared.Elem.{Elem}
use Rattle.pipes_stream.specs.Progress.{Progress}
use Rattle.pipes_parcel.specs.declared.parcel.Parcel.{Parcel}
use Rattle.pipes_parcel.specs.declared.parcel.Fed.{Fed}
use Rattle.pipes_parcel.specs.declared.parcel.Fed.TheVariants.{Part, Beat, End}

-- the parts, as messages
abbrev pub feds_of : List Parcel → List Fed
feds_of parts = map (λ p. Part p) parts

-- the parts among the messages, in order, and their elements
abbrev pub parts_of : List Fed → List Parcel
parts_of [] = []
parts_of (Part p ∷ feds) = p ∷ parts_of feds
parts_of (Beat at ∷ feds) = parts_of feds
parts_of (End ∷ feds) = parts_of feds

abbrev pub elements_of : List Fed → List Elem
elements_of feds = map (λ p. p.elem) (parts_of feds)

-- after a message: a part changes nothing
abbrev pub after_fed : Progress → Fed → Progress
after_fed p (Part parcel) = p
after_fed p (Beat at) = record { beat = at; ended = p.ended }
after_fed p End = record { beat = closed; ended = true }

abbrev pub after_feds : Progress → List Fed → Progress
after_feds p [] = p
after_feds p (fed ∷ feds) = after_feds (after_fed p fed) feds

-- How far the list has come: its heartbeat is 0 at first, then that of the last Beat, and CLOSED
-- after the end.
abbrev pub fed_progress : List Fed → Progress
fed_progress feds = after_feds (record { beat = 0; ended = false }) feds
