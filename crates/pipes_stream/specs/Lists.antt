-- Lists of messages: which are valid, how far they have come, and their elements.
use Rattle.std.specs.Prelude.{◌≡◌, ℕ, ◌≤◌, true, false, List, [], ◌∷◌, ⊤}
use Rattle.pipes_time.specs.Interval.{closed, IsInterval}
use Rattle.pipes_stream.specs.declared.Elem.{Elem}
use Rattle.pipes_stream.specs.declared.message.Message.{Message}
use Rattle.pipes_stream.specs.declared.message.Message.TheVariants as message
use Rattle.pipes_stream.specs.Progress.{Progress}

abbrev pub start_of_list : Progress
start_of_list = record { beat = 0; ended = false }

-- The message may come next: nothing follows the end, and neither an element nor a heartbeat lies
-- below the heartbeat.
abbrev pub CanFollow : Progress → Message → Type 0
CanFollow p (message.Elem e) = (p.ended ≡ false) × (p.beat ≤ e.span.start)
    × IsInterval e.span.start e.span.end
CanFollow p (message.Beat at) = (p.ended ≡ false) × (p.beat ≤ at) × (at ≤ closed)
CanFollow p message.End = p.ended ≡ false

-- after the message
abbrev pub after : Progress → Message → Progress
after p (message.Elem e) = record { beat = e.span.start; ended = p.ended }
after p (message.Beat at) = record { beat = at; ended = p.ended }
after p message.End = record { beat = closed; ended = true }

-- after all the messages
abbrev pub run : Progress → List Message → Progress
run p [] = p
run p (m ∷ ms) = run (after p m) ms

abbrev pub ValidFrom : Progress → List Message → Type 0
ValidFrom p [] = ⊤
ValidFrom p (m ∷ ms) = CanFollow p m × ValidFrom (after p m) ms

abbrev pub Valid : List Message → Type 0
Valid ms = ValidFrom start_of_list ms

-- the heartbeat of a list: its greatest start or Beat, 0 before any, and above every instant after
-- the end
abbrev pub beat : List Message → ℕ
beat ms = (run start_of_list ms).beat

abbrev pub HasEnded : List Message → Type 0
HasEnded ms = (run start_of_list ms).ended ≡ true

-- the elements, in order
abbrev pub elements : List Message → List Elem
elements [] = []
elements (message.Elem e ∷ ms) = e ∷ elements ms
elements (message.Beat at ∷ ms) = elements ms
elements (message.End ∷ ms) = elements ms
