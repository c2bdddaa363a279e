-- Elements in queues by their tuple. Only private functions use these.
use Rattle.std.specs.Prelude.{ℕ, zero, suc, ◌≡◌, ◌≢◌, ◌≤◌, ◌<◌, ◌+◌, cond, List, [], ◌∷◌, ◌++◌, map}
use Rattle.std.specs.Prelude.{length, Option, Some, None, ⊤}
use Rattle.pipes_tuple.specs.declared.value.Value.{Value}
use Rattle.pipes_tuple.specs.Equal.{tuple_eq}
use Rattle.pipes_stream.specs.declared.Elem.{Elem}
use Rattle.pipes_stream.specs.declared.message.Message.{Message}
use Rattle.pipes_stream.specs.declared.message.Message.TheVariants as message
use Rattle.pipes_stream.specs.Weights.{weigh}

-- tuples, each with its queue
abbrev pub Entries : Type 0
Entries = List (List Value × List Elem)

abbrev pub contents : Entries → List Elem
contents [] = []
contents (p ∷ ps) = p.1 ++ contents ps

abbrev pub HaveTuple : List Value → List Elem → Type 0
HaveTuple t [] = ⊤
HaveTuple t (e ∷ es) = (e.tuple ≡ t) × HaveTuple t es

-- each queue has elements, of its tuple alone
abbrev pub AreFiled : Entries → Type 0
AreFiled [] = ⊤
AreFiled (p ∷ ps) = HaveTuple p.0 p.1 × (0 < length p.1) × AreFiled ps

-- the entry there is of this tuple, and has such a queue
abbrev pub EntryAt : Entries → ℕ → List Value → (List Elem → Type 0) → Type 0
EntryAt [] i t P = ⊥
EntryAt (p ∷ ps) zero t P = (p.0 ≡ t) × P p.1
EntryAt (p ∷ ps) (suc i) t P = EntryAt ps i t P

-- one, where the element has the tuple
abbrev pub has_tuple : List Value → Elem → ℕ
has_tuple t e = cond (tuple_eq t e.tuple) 1 0

-- with one element more, or less
abbrev pub Added : Elem → List Elem → List Elem → Type 0
Added e old new = (f : Elem → ℕ) → weigh f new ≡ f e + weigh f old

abbrev pub TakenOut : Elem → List Elem → List Elem → Type 0
TakenOut e old new = (f : Elem → ℕ) → weigh f old ≡ f e + weigh f new

-- an element of the tuple was taken out, if there was one
abbrev pub TakesOfTuple : List Value → List Elem → List Elem → Option Elem → Type 0
TakesOfTuple t old new None = (new ≡ old) × (weigh (has_tuple t) old ≡ 0)
TakesOfTuple t old new (Some e) = (e.tuple ≡ t) × TakenOut e old new

-- a queue was taken out
pub record QueueOut (queue old new : List Elem) : Type 0 where
  pub weights : (f : Elem → ℕ) → weigh f old ≡ weigh f queue + weigh f new
  pub fewer : length new < length old

-- the elements were put after what was sent, in some order
pub record SendsAll (elems : List Elem) (before now : List Message) : Type 0 where
  pub sent : List Elem
  pub appended : now ≡ before ++ map message.Elem sent
  pub weights : (f : Elem → ℕ) → weigh f sent ≡ weigh f elems

-- ---- queues
abbrev pub FirstStarts : ℕ → List Elem → Type 0
FirstStarts s [] = ⊥
FirstStarts s (e ∷ es) = e.span.start ≡ s

-- the first doesn't start at the instant, if there is one
abbrev pub FirstElsewhere : ℕ → List Elem → Type 0
FirstElsewhere s [] = ⊤
FirstElsewhere s (e ∷ es) = e.span.start ≢ s

-- the first starts after the instant, if there is one
abbrev pub StartsLater : ℕ → List Elem → Type 0
StartsLater at [] = ⊤
StartsLater at (e ∷ es) = at < e.span.start
