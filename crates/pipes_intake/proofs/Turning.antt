-- A source on its way in, from turn to turn and to its end.
use Rattle.std.proofs.Common.{◌≡◌, ℕ, ◌<◌, List, [], ◌∷◌, ◌++◌, map, Option, true, false, refl, sym}
use Rattle.std.proofs.Common.{◌∙◌, ap, subst, arith, Some, Result, Ok, Err, IfOk}
use Rattle.std.proofs.lemmas.List.{append-nil}
use Rattle.std.proofs.lemmas.List.Elements.{All-nil}
use Rattle.pipes_tuple.specs.declared.value.Kind.{Kind}
use Rattle.pipes_stream.specs.declared.Elem.{Elem}
use Rattle.pipes_stream.specs.declared.message.Message.{Message}
use Rattle.pipes_stream.specs.declared.message.Message.TheVariants as message
use Rattle.pipes_stream.specs.Lists.{run, start_of_list}
use Rattle.pipes_window.specs.declared.item.Item.{Item}
use Rattle.pipes_window.specs.declared.kind.WindowKind.{WindowKind}
use Rattle.pipes_window.specs.Windows.{window_beat}
use Rattle.pipes_feed.specs.declared.reason.Reason.TheVariants as reason
use Rattle.pipes_feed.specs.declared.reader.Next.{Next}
use Rattle.pipes_feed.specs.declared.reader.Next.TheVariants as next
use Rattle.pipes_feed.specs.Released.{released}
use Rattle.pipes_feed.specs.Ahead.{ItemFits}
use Rattle.pipes_query.specs.declared.query.SourceDecl.{SourceDecl}
use Rattle.pipes_arrivals.specs.Arriving.{Arriving, HasArrived, new_arriving}
use Rattle.pipes_arrivals.specs.Taking.{ArrivalsTake, ArrivalsFinish}
use Rattle.pipes_intake.specs.declared.ahead.Ahead.{Ahead}
use Rattle.pipes_intake.specs.declared.intake.Intake.{Intake}
use Rattle.pipes_intake.specs.declared.intake.Step.{Step}
use Rattle.pipes_intake.specs.declared.intake.Turned.{Turned}
use Rattle.pipes_intake.specs.declared.intake.Turned.TheVariants.{Gave, Stopped}
use Rattle.pipes_intake.specs.Ahead.{HasTaken, IsNext, MayArrive, turns_left}
use Rattle.pipes_intake.specs.Giving.{MayPassAll, HasGiven, GoesOn, IntakeStands, TurnsTo, Finishes}
use Rattle.pipes_intake.specs.Giving.{messages_of, turns_to_come, LeavesFewer}
use Rattle.pipes_intake.proofs.Known.{known-none}
use Rattle.pipes_intake.proofs.Giving.{gives-more, may-give, gives-all, may-close}

-- nothing was taken
pub goes-new : (s : SourceDecl) (a : Arriving) → a ≡ new_arriving s.slack s.window
    → HasArrived [] a → GoesOn s [] [] a
goes-new s a is arrived = record {
  slack_is = ap (λ (x : Arriving). x.slack) is;
  kind_is = ap (λ (x : Arriving). x.window.kind) is;
  arrived = arrived;
  fit = All-nil (ItemFits s.schema);
  going = refl;
  low = omega arith;
  given = sym (known-none s.window);
}

pub intake-new : (s : SourceDecl) (first left : Option (List ℕ)) (before now : ℕ)
    (intake : Intake) → intake.ended ≡ false
    → HasTaken s.schema s.slack first left before now intake.ahead []
    → intake.arrivals ≡ new_arriving s.slack s.window → HasArrived [] intake.arrivals
    → IntakeStands s first left before now intake [] []
intake-new s first left before now intake going taken is arrived = record {
  ahead = taken;
  goes_on = λ _. goes-new s intake.arrivals is arrived;
  over = λ ended. absurd (cc);
}

-- what comes next may arrive
may-next : (kinds : List Kind) (slack : ℕ) (first left : Option (List ℕ)) (before now : ℕ)
    (ahead : Ahead) (taken : List Item) (x : Item) → ahead.next ≡ next.Item x
    → HasTaken kinds slack first left before now ahead taken → MayArrive kinds slack taken x
may-next kinds slack first left before now ahead taken x is h =
    (subst (λ (n : Next). IsNext kinds slack taken ahead.reader n) is h.follows).0

module _ (s : SourceDecl) (first left : Option (List ℕ)) (before now : ℕ) (taken : List Item)
    (list : List Message) (old new : Intake) (step : Step)
    (stands : IntakeStands s first left before now old taken list) (going : old.ended ≡ false)
  where
    -- an arrival was taken
    pub turn-item : (x : Item) (left' : Option (List ℕ)) (now' : ℕ) → new.ended ≡ old.ended
        → old.ahead.next ≡ next.Item x
        → HasTaken s.schema s.slack first left' before now' new.ahead (taken ++ x ∷ [])
        → ArrivalsTake old.arrivals new.arrivals x [] step.elems.items
        → ((t : List Item) → HasArrived t new.arrivals → step.last ≡ message.Beat
        (window_beat new.arrivals.window.kind (released new.arrivals.slack t) false))
        → TurnsTo s first left' before now' new taken list (Gave step)
    turn-item x left' now' same is ahead t last =
        let g : GoesOn s taken list old.arrivals = stands.goes_on going in
        let fits : ItemFits s.schema x =
        (may-next s.schema s.slack first left before now old.ahead taken x is stands.ahead).fits in
        let more : List Elem = step.elems.items in
        let slack : new.arrivals.slack ≡ s.slack = t.slack ∙ g.slack_is in
        let kind : new.arrivals.window.kind ≡ s.window = t.kind ∙ g.kind_is in
        let beat : step.last ≡ message.Beat (window_beat s.window
        (released s.slack (taken ++ x ∷ [])) false) =
        last (taken ++ x ∷ []) (t.taken taken g.arrived)
        ∙ ap (λ (k : WindowKind). message.Beat (window_beat k
        (released new.arrivals.slack (taken ++ x ∷ [])) false)) kind
        ∙ ap (λ (n : ℕ). message.Beat (window_beat s.window (released n (taken ++ x ∷ [])) false))
        slack in
        let all : map message.Elem more ++ message.Beat (window_beat s.window
        (released s.slack (taken ++ x ∷ [])) false) ∷ [] ≡ messages_of step =
        ap (λ (m : Message). map message.Elem more ++ m ∷ []) (sym beat) in (
          x ∷ [],
          record {
            ahead = ahead;
            goes_on = λ _. subst (λ (ms : List Message). GoesOn s (taken ++ x ∷ []) (list ++ ms)
                new.arrivals) all
                (gives-more s taken list old.arrivals g new.arrivals x more t fits);
            over = λ ended. absurd (cc);
          },
          subst (λ (ms : List Message). MayPassAll s.schema (run start_of_list list) ms) all
              (may-give s taken list old.arrivals g new.arrivals x more t fits),
        )

    module _ (t : ArrivalsFinish old.arrivals new.arrivals [] step.elems.items)
        (last : step.last ≡ message.End) where
      closed : map message.Elem step.elems.items ++ message.End ∷ [] ≡ messages_of step
      closed = ap (λ (m : Message). map message.Elem step.elems.items ++ m ∷ []) (sym last)

      given : HasGiven s taken (list ++ messages_of step)
      given = subst (λ (ms : List Message). HasGiven s taken (list ++ ms)) closed
          (gives-all s taken list old.arrivals (stands.goes_on going) new.arrivals
          step.elems.items t)

      may : MayPassAll s.schema (run start_of_list list) (messages_of step)
      may = subst (λ (ms : List Message). MayPassAll s.schema (run start_of_list list) ms) closed
          (may-close s taken list old.arrivals (stands.goes_on going) new.arrivals
          step.elems.items t)

      -- the source is ended where it is
      pub finish-here : Finishes s taken list (Some step)
      finish-here = (given, may)

      -- it has come to its end
      pub turn-end : new.ahead ≡ old.ahead → new.ended ≡ true
          → old.ahead.next ≡ next.Ended reason.AtEnd
          → TurnsTo s first left before now new taken list (Gave step)
      turn-end same ended is = (
        [],
        subst (λ (l : List Item). IntakeStands s first left before now new l
            (list ++ messages_of step)) (sym (append-nil taken))
            (record {
              ahead = subst (λ (a : Ahead). HasTaken s.schema s.slack first left before now a taken)
                  (sym same) stands.ahead;
              goes_on = λ going'. absurd (cc);
              over = λ _. (given, ap (λ (a : Ahead). a.next) same ∙ is);
            }),
        may,
      )

-- nothing was read
pub stays-stands : (s : SourceDecl) (first left : Option (List ℕ)) (before now : ℕ)
    (taken : List Item) (list : List Message) (old new : Intake) → new.ahead ≡ old.ahead
    → new.arrivals ≡ old.arrivals → new.ended ≡ old.ended
    → IntakeStands s first left before now old taken list
    → IntakeStands s first left before now new taken list
stays-stands s first left before now taken list old new ahead arrivals ended h = record {
  ahead = rw ahead h.ahead;
  goes_on = rw (ended, arrivals) h.goes_on;
  over = rw (ended, ahead) h.over;
}

pub fewer-item : (old new : Intake) → old.ended ≡ false → new.ended ≡ old.ended
    → turns_left new.ahead < turns_left old.ahead → turns_to_come new < turns_to_come old
fewer-item old new going same less = rw (same, going) less

-- where the arrivals have ended, nothing was read
pub turned-same : {S E : Type 0} (left : S → Option (List ℕ)) (faults : S → ℕ) (src src' : S)
    (old mid new : Intake) (r : Result Turned E) → mid.arrivals ≡ old.arrivals
    → mid.ended ≡ old.ended
    → ((kinds : List Kind) (slack : ℕ) (first : Option (List ℕ)) (before : ℕ) (taken : List Item)
    → HasTaken kinds slack first (left src) before (faults src) old.ahead taken
    → (mid.ahead ≡ old.ahead) × (src' ≡ src))
    → IfOk r (λ turned. (s : SourceDecl) (first l : Option (List ℕ)) (before n : ℕ)
    (taken : List Item) (list : List Message) → IntakeStands s first l before n mid taken list
    → TurnsTo s first l before n new taken list turned)
    → IfOk r (λ turned. (s : SourceDecl) (first : Option (List ℕ)) (before : ℕ)
    (taken : List Item) (list : List Message)
    → IntakeStands s first (left src) before (faults src) old taken list
    → TurnsTo s first (left src') before (faults src') new taken list turned)
turned-same {S} left faults src src' old mid new (Ok t) arrivals ended same h =
    λ s first before taken list stands.
    let q = same s.schema s.slack first before taken stands.ahead in
    subst (λ (x : S). TurnsTo s first (left x) before (faults x) new taken list t) (sym q.1)
    (h s first (left src) before (faults src) taken list
    (stays-stands s first (left src) before (faults src) taken list old mid q.0 arrivals ended
    stands))
turned-same left faults src src' old mid new (Err e) arrivals ended same h = h

pub fewer-same : {E : Type 0} (old mid new : Intake) (r : Result Turned E)
    → mid.ahead ≡ old.ahead → mid.ended ≡ old.ended → IfOk r (λ t. LeavesFewer mid new t)
    → IfOk r (λ t. LeavesFewer old new t)
fewer-same old mid new (Ok (Gave step)) ahead ended h =
    rw (sym ended, sym ahead) h
fewer-same old mid new (Ok (Stopped why)) ahead ended h = tt
fewer-same old mid new (Err e) ahead ended h = h
