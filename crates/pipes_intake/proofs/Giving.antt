-- What a source gives, turn by turn.
use Rattle.std.proofs.Common.{◌≡◌, ℕ, List, [], ◌∷◌, ◌++◌, map, false, sym, ◌∙◌, subst}
use Rattle.pipes_stream.specs.declared.Elem.{Elem}
use Rattle.pipes_stream.specs.declared.message.Message.{Message}
use Rattle.pipes_stream.specs.declared.message.Message.TheVariants as message
use Rattle.pipes_stream.specs.Lists.{run, start_of_list}
use Rattle.pipes_window.specs.declared.item.Item.{Item}
use Rattle.pipes_window.specs.declared.kind.WindowKind.{WindowKind}
use Rattle.pipes_window.specs.Windows.{IsWindow, spans, known, window_beat}
use Rattle.pipes_feed.specs.Released.{released, completed}
use Rattle.pipes_feed.specs.Ahead.{ItemFits}
use Rattle.pipes_query.specs.declared.query.SourceDecl.{SourceDecl}
use Rattle.pipes_arrivals.specs.Arriving.{Arrive, Arriving, HasArrived}
use Rattle.pipes_arrivals.specs.Taking.{ArrivalsTake, ArrivalsFinish}
use Rattle.pipes_intake.specs.Giving.{MayPassAll, HasGiven, GoesOn}
use Rattle.pipes_intake.proofs.Known.{IsKnown, known-more, known-may, known-may_close, known-all}

module _ (s : SourceDecl) (taken : List Item) (list : List Message) (old : Arriving)
    (g : GoesOn s taken list old) where
  so-far : IsKnown s taken list
  so-far = record {
    limits = subst (λ (k : WindowKind). IsWindow k) g.kind_is g.arrived.window.limits;
    come = subst (λ (n : ℕ). Arrive n taken) g.slack_is g.arrived.come;
    fit = g.fit;
    going = g.going;
    low = g.low;
    given = g.given;
  }

  module _ (new : Arriving) (x : Item) (more : List Elem) (t : ArrivalsTake old new x [] more)
      (fits : ItemFits s.schema x) where
    abbrev Next : List Item
    Next = taken ++ x ∷ []

    slack-is : new.slack ≡ s.slack
    slack-is = t.slack ∙ g.slack_is

    arrived : HasArrived Next new
    arrived = t.taken taken g.arrived

    come-next : Arrive s.slack Next
    come-next = subst (λ (n : ℕ). Arrive n Next) slack-is arrived.come

    known-next : known s.window (released s.slack Next) ≡ known s.window (released s.slack taken)
        ++ more
    known-next =
        let same : t.sent.0 ≡ more = sym t.sent.1 in
        subst (λ (n : ℕ). known s.window (released n Next) ≡ known s.window (released n taken)
        ++ more) g.slack_is
        (subst (λ (k : WindowKind). known k (released old.slack Next)
        ≡ known k (released old.slack taken) ++ more) g.kind_is
        (subst (λ (l : List Elem). known old.window.kind (released old.slack Next)
        ≡ known old.window.kind (released old.slack taken) ++ l) same
        (t.sent.2 taken g.arrived)))

    abbrev Given : List Message
    Given = map message.Elem more
        ++ message.Beat (window_beat s.window (released s.slack Next) false) ∷ []

    pub gives-more : GoesOn s Next (list ++ Given) new
    gives-more =
        let all : IsKnown s Next (list ++ Given) =
        known-more s taken list so-far x more come-next known-next fits in
        record {
          slack_is = slack-is;
          kind_is = t.kind ∙ g.kind_is;
          arrived = arrived;
          fit = all.fit;
          going = all.going;
          low = all.low;
          given = all.given;
        }

    pub may-give : MayPassAll s.schema (run start_of_list list) Given
    may-give = known-may s taken list so-far x more come-next known-next fits

  module _ (new : Arriving) (more : List Elem) (t : ArrivalsFinish old new [] more) where
    whole : spans s.window (completed s.slack taken) ≡ known s.window (released s.slack taken)
        ++ more
    whole =
        let same : t.sent.0 ≡ more = sym t.sent.1 in
        subst (λ (n : ℕ). spans s.window (completed n taken) ≡ known s.window (released n taken)
        ++ more) g.slack_is
        (subst (λ (k : WindowKind). spans k (completed old.slack taken)
        ≡ known k (released old.slack taken) ++ more) g.kind_is
        (subst (λ (l : List Elem). spans old.window.kind (completed old.slack taken)
        ≡ known old.window.kind (released old.slack taken) ++ l) same
        (t.sent.2 taken g.arrived)))

    abbrev Last : List Message
    Last = map message.Elem more ++ message.End ∷ []

    pub may-close : MayPassAll s.schema (run start_of_list list) Last
    may-close = known-may_close s taken list so-far more whole

    pub gives-all : HasGiven s taken (list ++ Last)
    gives-all = known-all s taken list so-far more whole
