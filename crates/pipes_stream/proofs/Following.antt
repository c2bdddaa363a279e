-- What a message that may follow has, and the elements of a valid list.
use Rattle.std.proofs.Common.{◌≡◌, ◌≤◌, false, List, [], ◌∷◌}
use Rattle.std.specs.List.{All}
use Rattle.std.proofs.lemmas.List.Elements.{All-nil, All-cons}
use Rattle.pipes_time.specs.Interval.{IsInterval}
use Rattle.pipes_tuple.specs.declared.value.Kind.{Kind}
use Rattle.pipes_tuple.specs.Kinds.{Fits}
use Rattle.pipes_stream.specs.declared.Elem.{Elem}
use Rattle.pipes_stream.specs.declared.message.Message.{Message}
use Rattle.pipes_stream.specs.declared.message.Message.TheVariants as message
use Rattle.pipes_stream.specs.Progress.{Progress}
use Rattle.pipes_stream.specs.Lists.{CanFollow, after, ValidFrom, elements}
use Rattle.pipes_stream.specs.Lawful.{MessageFits}

-- the element of a message that may follow starts no earlier than the heartbeat
pub arrived : (p : Progress) (m : Message) → CanFollow p m
    → All (λ e. p.beat ≤ e.span.start) (elements (m ∷ []))
arrived p (message.Elem e) w =
    All-cons (λ (e : Elem). p.beat ≤ e.span.start) e [] w.1
    (All-nil (λ (e : Elem). p.beat ≤ e.span.start))
arrived p (message.Beat at) w = All-nil (λ (e : Elem). p.beat ≤ e.span.start)
arrived p message.End w = All-nil (λ (e : Elem). p.beat ≤ e.span.start)

pub arrived-fits : (m : Message) (kinds : List Kind) → MessageFits m kinds
    → All (λ e. Fits e.tuple kinds) (elements (m ∷ []))
arrived-fits (message.Elem e) kinds f =
    All-cons (λ (e : Elem). Fits e.tuple kinds) e [] f (All-nil (λ (e : Elem). Fits e.tuple kinds))
arrived-fits (message.Beat at) kinds f = All-nil (λ (e : Elem). Fits e.tuple kinds)
arrived-fits message.End kinds f = All-nil (λ (e : Elem). Fits e.tuple kinds)

-- nothing follows the end
pub not_ended : (p : Progress) (m : Message) → CanFollow p m → p.ended ≡ false
not_ended p (message.Elem e) w = w.0
not_ended p (message.Beat at) w = w.0
not_ended p message.End w = w

-- the elements of a valid list are valid in intervals
pub intervals : (p : Progress) (ms : List Message) → ValidFrom p ms
    → All (λ e. IsInterval e.span.start e.span.end) (elements ms)
intervals p [] v = All-nil (λ (e : Elem). IsInterval e.span.start e.span.end)
intervals p (message.Elem e ∷ ms) v =
    All-cons (λ (e : Elem). IsInterval e.span.start e.span.end) e (elements ms) v.0.2
    (intervals (after p (message.Elem e)) ms v.1)
intervals p (message.Beat at ∷ ms) v = intervals (after p (message.Beat at)) ms v.1
intervals p (message.End ∷ ms) v = intervals (after p message.End) ms v.1
