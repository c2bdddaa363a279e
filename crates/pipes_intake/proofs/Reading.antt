-- A source that is read one arrival ahead.
use Rattle.std.proofs.Common.{◌≡◌, ℕ, ◌≤◌, List, [], ◌∷◌, ◌++◌, Option, Some, None, refl, sym}
use Rattle.std.proofs.Common.{◌∙◌, ap, subst, arith, append_assoc}
use Rattle.std.specs.Option.{option_map}
use Rattle.std.proofs.lemmas.List.{append-nil}
use Rattle.pipes_tuple.specs.declared.value.Kind.{Kind}
use Rattle.pipes_window.specs.declared.item.Item.{Item}
use Rattle.pipes_feed.specs.declared.reason.Reason.{Reason}
use Rattle.pipes_feed.specs.declared.reason.Reason.TheVariants as reason
use Rattle.pipes_feed.specs.declared.reader.Next.{Next}
use Rattle.pipes_feed.specs.declared.reader.Next.TheVariants as next
use Rattle.pipes_feed.specs.Items.{Items, no_more, put, arrivals_of}
use Rattle.pipes_feed.specs.Reached.{newest_after, beat_after}
use Rattle.pipes_feed.specs.Released.{Arrived, held_after, rest_of, after_arrival}
use Rattle.pipes_feed.specs.State.{ReaderState}
use Rattle.pipes_feed.specs.Ahead.{TakesArrival, ArrivalFollows, MatchNext, arrivals_ahead}
use Rattle.pipes_edge.specs.Causes.{Rose}
use Rattle.std.specs.Prelude.{⊤}
use Rattle.pipes_intake.specs.Taken.{ArePart, ComesThen}
use Rattle.pipes_intake.specs.Ahead.{HasReached, IsNext, HasTaken}
use Rattle.pipes_intake.specs.declared.ahead.Ahead.{Ahead}

-- these were taken, and the others lie ahead
abbrev pub IsAhead : Items → List Item → Option Items → Type 0
IsAhead whole taken None = ⊥
IsAhead whole taken (Some rest) = (whole.list ≡ taken ++ rest.list) × (whole.end ≡ rest.end)

-- the arrival that was read ahead is taken
pub taken-more : (whole : Items) (taken : List Item) (i : Item) (ahead : Option Items)
    → ComesThen whole taken (next.Item i) ahead → IsAhead whole (taken ++ i ∷ []) ahead
taken-more whole taken i None h = h
taken-more whole taken i (Some rest) h =
    (h.0 ∙ sym (append_assoc taken (i ∷ []) rest.list), h.1)

item_next : (whole : Items) (taken : List Item) (i : Item) (before : Items) (now : Option Items)
    → (whole.list ≡ taken ++ before.list) × (whole.end ≡ before.end)
    → option_map (put i) now ≡ Some before → ComesThen whole taken (next.Item i) now
item_next whole taken i before None h is = absurd (cc)
item_next whole taken i before (Some rest) h is =
    let same : put i rest ≡ before = cc in (
      h.0 ∙ ap (λ (b : Items). taken ++ b.list) (sym same),
      h.1 ∙ ap (λ (b : Items). b.end) (sym same),
    )

no_more_ahead : (whole before : Items) (taken : List Item) (r : Reason)
    → (whole.list ≡ taken ++ before.list) × (whole.end ≡ before.end) → before ≡ no_more r
    → (whole.list ≡ taken) × (whole.end ≡ r)
no_more_ahead whole before taken r h is = (
  h.0 ∙ ap (λ (b : Items). taken ++ b.list) is
      ∙ append-nil taken,
  h.1 ∙ ap (λ (b : Items). b.end) is,
)

-- what is read next comes next
pub comes-next : (whole : Items) (taken : List Item) (before now : Option Items) (n : Next)
    → IsAhead whole taken before → TakesArrival before now n → ComesThen whole taken n now
comes-next whole taken None now n h t = absurd h
comes-next whole taken (Some before) now (next.Item i) h t =
    item_next whole taken i before now h t
comes-next whole taken (Some before) now (next.Ended reason.AtEnd) h t =
    no_more_ahead whole before taken reason.AtEnd h t
comes-next whole taken (Some before) now (next.Ended (reason.Row line why)) h t =
    no_more_ahead whole before taken (reason.Row line why) h t
comes-next whole taken (Some before) now (next.Ended (reason.Limit line)) h t =
    no_more_ahead whole before taken (reason.Limit line) h t
comes-next whole taken (Some before) now (next.Ended reason.Failed) h t = (before.list, h.0)
comes-next whole taken (Some before) now (next.Ended reason.Memory) h t = (before.list, h.0)

-- of a source that was read so far a part was taken
pub taken-part : (whole : Items) (taken : List Item) (n : Next) (ahead : Option Items)
    → ComesThen whole taken n ahead → ArePart whole taken
taken-part whole taken (next.Item i) None h = absurd h
taken-part whole taken (next.Item i) (Some rest) h = (i ∷ rest.list, h.0)
taken-part whole taken (next.Ended reason.AtEnd) ahead h = ([], h.0 ∙ sym (append-nil taken))
taken-part whole taken (next.Ended (reason.Row line why)) ahead h =
    ([], h.0 ∙ sym (append-nil taken))
taken-part whole taken (next.Ended (reason.Limit line)) ahead h =
    ([], h.0 ∙ sym (append-nil taken))
taken-part whole taken (next.Ended reason.Failed) ahead h = h
taken-part whole taken (next.Ended reason.Memory) ahead h = h

-- one arrival more is held
pub held-more : (slack : ℕ) (held : Arrived) (taken : List Item) (i : Item)
    → held_after slack held (taken ++ i ∷ []) ≡ rest_of slack (after_arrival i
    (held_after slack held taken))
held-more slack held [] i = refl
held-more slack held (a ∷ taken) i = held-more slack (rest_of slack (after_arrival a held)) taken i

newest-more : (slack : ℕ) (held : Arrived) (taken : List Item) (i : Item)
    → (held_after slack held (taken ++ i ∷ [])).newest ≡ newest_after
    (held_after slack held taken).newest i
newest-more slack held taken i = ap (λ (a : Arrived). a.newest) (held-more slack held taken i)

beat-more : (slack : ℕ) (held : Arrived) (taken : List Item) (i : Item)
    → (held_after slack held (taken ++ i ∷ [])).beat ≡ beat_after
    (held_after slack held taken).beat i
beat-more slack held taken i = ap (λ (a : Arrived). a.beat) (held-more slack held taken i)

-- the reader has come as far once it has read the arrival
pub reads-next : (kinds : List Kind) (slack : ℕ) (taken : List Item) (old new : ReaderState)
    (n : Next) → old.kinds ≡ kinds → old.slack ≡ slack → HasReached slack taken old.reached
    → MatchNext n (ArrivalFollows old.kinds old.slack old.reached new.reached) (λ _. ⊤)
    → MatchNext n (λ _. (old.ended ≡ None) × (new.ended ≡ None)) (λ r. new.ended ≡ Some r)
    → IsNext kinds slack taken new n
reads-next kinds slack taken old new (next.Item i) k s h f e =
    let g = subst (λ (x : ℕ). ArrivalFollows kinds x old.reached new.reached i) s
    (subst (λ (x : List Kind). ArrivalFollows x old.slack old.reached new.reached i) k f) in (
      record {
        at_floor = omega (arith, h.newest, h.beat, g.at_floor);
        below = g.in_range;
        fits = g.fits;
      },
      record {
        newest = g.newest ∙ ap (λ (m : ℕ). newest_after m i) h.newest
            ∙ sym (newest-more slack _ taken i);
        beat = g.beat ∙ ap (λ (m : ℕ). beat_after m i) h.beat ∙ sym (beat-more slack _ taken i);
        few = g.few;
      },
      e.1,
    )
reads-next kinds slack taken old new (next.Ended reason) k s h f e = e

rose_later : (first before now : ℕ) → first ≤ before → Rose before now → Rose first now
rose_later first before now h rose = omega (arith, h, rose)

-- the arrival that was read ahead is taken, and the next one read
pub takes-more : (kinds : List Kind) (slack : ℕ) (first left left' : Option (List ℕ))
    (before count count' : ℕ) (taken : List Item) (old new : Ahead) (i : Item)
    → old.next ≡ next.Item i → HasTaken kinds slack first left before count old taken
    → new.reader.kinds ≡ old.reader.kinds → new.reader.slack ≡ old.reader.slack
    → (old.reader.ended ≡ None → TakesArrival (arrivals_ahead old.reader left)
    (arrivals_ahead new.reader left') new.next)
    → MatchNext new.next (ArrivalFollows old.reader.kinds old.reader.slack old.reader.reached
    new.reader.reached) (λ _. ⊤)
    → MatchNext new.next (λ _. (old.reader.ended ≡ None) × (new.reader.ended ≡ None))
    (λ r. new.reader.ended ≡ Some r)
    → count ≤ count'
    → (old.reader.ended ≡ None → new.next ≡ next.Ended reason.Failed → Rose count count')
    → HasTaken kinds slack first left' before count' new (taken ++ i ∷ [])
takes-more kinds slack first left left' before count count' taken old new i is h k s t f e later
    cause =
    let at = subst (λ (n : Next). IsNext kinds slack taken old.reader n) is h.follows in
    record {
      kinds_are = k ∙ h.kinds_are;
      slack_is = s ∙ h.slack_is;
      follows = reads-next kinds slack (taken ++ i ∷ []) old.reader new.reader new.next h.kinds_are
          h.slack_is at.1 f e;
      source = λ bytes b.
          let whole = arrivals_of kinds slack bytes in
          comes-next whole (taken ++ i ∷ []) (arrivals_ahead old.reader left)
          (arrivals_ahead new.reader left') new.next
          (taken-more whole taken i (arrivals_ahead old.reader left)
          (subst (λ (n : Next). ComesThen whole taken n (arrivals_ahead old.reader left)) is
          (h.source bytes b))) (t at.2);
      later = omega (arith, h.later, later);
      failed = λ n. rose_later before count count' h.later (cause at.2 n);
    }
