-- What arrivals make known, as messages: one more arrival, and the end.
use Rattle.std.proofs.Common.{◌≡◌, ℕ, ◌≤◌, List, [], ◌∷◌, ◌++◌, map, true, false, refl, sym}
use Rattle.std.proofs.Common.{◌∙◌, ap, subst, arith, append_assoc}
use Rattle.std.specs.List.{All}
use Rattle.std.proofs.lemmas.List.{append-nil, append_cancel_left}
use Rattle.std.proofs.lemmas.List.Elements.{All-nil, All-cons, All-head, All-tail, All-append}
use Rattle.std.proofs.lemmas.List.Elements.{All-filter}
use Rattle.pipes_time.specs.Interval.{closed, IsInterval}
use Rattle.pipes_tuple.specs.declared.value.Kind.{Kind}
use Rattle.pipes_stream.specs.declared.Elem.{Elem}
use Rattle.pipes_stream.specs.declared.message.Message.{Message}
use Rattle.pipes_stream.specs.declared.message.Message.TheVariants as message
use Rattle.pipes_stream.specs.Progress.{Progress}
use Rattle.pipes_stream.specs.Snapshot.{snapshot}
use Rattle.pipes_stream.specs.Lists.{run, start_of_list, after, elements, beat}
use Rattle.pipes_stream.proofs.Messages.{run-append, elements-append, elements-map}
use Rattle.pipes_stream.proofs.Ports.{All-parts}
use Rattle.pipes_window.specs.declared.item.Item.{Item}
use Rattle.pipes_window.specs.declared.item.Item.TheVariants as items
use Rattle.pipes_window.specs.declared.kind.WindowKind.{WindowKind}
use Rattle.pipes_window.specs.Items.{StampsRise}
use Rattle.pipes_window.specs.Windows.{IsWindow, each_row, spans, known, window_beat}
use Rattle.pipes_window.specs.Laws.{StartsFrom}
use Rattle.pipes_window.proofs.Heartbeats.{starts_lower}
use Rattle.pipes_feed.specs.Waiting.{up_to}
use Rattle.pipes_feed.specs.Released.{Arrived, none_arrived, held_floor, rows_with, after_arrival}
use Rattle.pipes_feed.specs.Released.{due_of, rest_of, released_from, held_after, released}
use Rattle.pipes_feed.specs.Released.{completed}
use Rattle.pipes_feed.specs.Ahead.{ItemFits}
use Rattle.pipes_feed.proofs.Order.{placed-all}
use Rattle.pipes_query.specs.declared.query.SourceDecl.{SourceDecl}
use Rattle.pipes_arrivals.specs.Arriving.{Arrive}
use Rattle.pipes_arrivals.specs.Laws.{AreRowsInOrder, IsArrivalBeat}
use Rattle.pipes_arrivals.proofs.Rows.{rows_in_order, heartbeat}
use Rattle.pipes_arrivals.proofs.Releasing.{released-more}
use Rattle.pipes_arrivals.proofs.Rising.{released-rises}
use Rattle.pipes_intake.specs.Giving.{MayPassAll, HasGiven}
use Rattle.pipes_intake.proofs.Tuples.{ElemFits, spans_fit}
use Rattle.pipes_intake.proofs.Beats.{beat-rises, beat-below}

-- ---- what holds of all arrivals holds of all items

module _ (P : Item → Type 0) (beats : (t : ℕ) → P (items.Beat t)) where
  rows-all : (x : Item) (rows : List Item) → P x → All P rows → All P (rows_with x rows)
  rows-all (items.Row stamp tuple) rows one all =
      placed-all P (items.Row stamp tuple) rows one all
  rows-all (items.Beat stamp) rows one all = all

  items-all : (slack : ℕ) (held : Arrived) (xs : List Item) → All P held.rows → All P xs
      → All P (released_from slack held xs ++ (held_after slack held xs).rows)
  items-all slack held [] rows all = rows
  items-all slack held (x ∷ xs) rows all =
      let next : Arrived = after_arrival x held in
      let there : All P next.rows = rows-all x held.rows (All-head P x xs all) rows in
      let due : All P (due_of slack next) = All-append P (up_to (held_floor slack next) next.rows)
      (items.Beat (held_floor slack next) ∷ [])
      (All-filter _ P next.rows there)
      (All-cons P (items.Beat (held_floor slack next)) [] (beats (held_floor slack next))
      (All-nil P)) in
      let rest = items-all slack (rest_of slack next) xs (All-filter _ P next.rows there)
      (All-tail P x xs all) in
      subst (λ (l : List Item). All P l)
      (sym (append_assoc (due_of slack next) (released_from slack (rest_of slack next) xs) _))
      (All-append P (due_of slack next) _ due rest)

completed-fit : (kinds : List Kind) (slack : ℕ) (taken : List Item) → All (ItemFits kinds) taken
    → All (ItemFits kinds) (completed slack taken)
completed-fit kinds slack taken all =
    items-all (ItemFits kinds) (λ t. tt) slack none_arrived taken (All-nil (ItemFits kinds)) all

-- ---- elements that may come, and what comes after them

starts-front : (low : ℕ) (xs ys : List Elem) → StartsFrom low (xs ++ ys) → StartsFrom low xs
starts-front low [] ys up = tt
starts-front low (x ∷ xs) ys up = (up.0, starts-front x.span.start xs ys up.1)

-- elements of these kinds, in intervals
pub record AreFit (kinds : List Kind) (es : List Elem) : Type 0 where
  pub spans : All (λ e. IsInterval e.span.start e.span.end) es
  pub tuples : All (ElemFits kinds) es

fit-tail : (kinds : List Kind) (e : Elem) (es : List Elem) → AreFit kinds (e ∷ es)
    → AreFit kinds es
fit-tail kinds e es f = record {
  spans = All-tail (λ (x : Elem). IsInterval x.span.start x.span.end) e es f.spans;
  tuples = All-tail (ElemFits kinds) e es f.tuples;
}

pub pass-beat : (kinds : List Kind) (p : Progress) (es : List Elem) (h : ℕ) → p.ended ≡ false
    → StartsFrom p.beat es → AreFit kinds es → All (λ e. e.span.start ≤ h) es → p.beat ≤ h
    → h ≤ closed
    → MayPassAll kinds p (map message.Elem es ++ message.Beat h ∷ [])
    × (run p (map message.Elem es ++ message.Beat h ∷ []) ≡ record { beat = h; ended = false })
pass-beat kinds p [] h going up f all low high = (
  (((going, low, high), tt), tt),
  ap (λ b. record { beat = h; ended = b }) going,
)
pass-beat kinds p (e ∷ es) h going up f all low high =
    let rest = pass-beat kinds (after p (message.Elem e)) es h going up.1
    (fit-tail kinds e es f) (All-tail (λ (x : Elem). x.span.start ≤ h) e es all)
    (All-head (λ (x : Elem). x.span.start ≤ h) e es all) high in (
      (
        (
          (going, up.0, All-head (λ (x : Elem). IsInterval x.span.start x.span.end) e es f.spans),
          All-head (ElemFits kinds) e es f.tuples,
        ),
        rest.0,
      ),
      rest.1,
    )

pub pass-end : (kinds : List Kind) (p : Progress) (es : List Elem) → p.ended ≡ false
    → StartsFrom p.beat es → AreFit kinds es
    → MayPassAll kinds p (map message.Elem es ++ message.End ∷ [])
    × ((run p (map message.Elem es ++ message.End ∷ [])).ended ≡ true)
pass-end kinds p [] going up f = (((going, tt), tt), refl)
pass-end kinds p (e ∷ es) going up f =
    let rest = pass-end kinds (after p (message.Elem e)) es going up.1 (fit-tail kinds e es f) in (
      (
        (
          (going, up.0, All-head (λ (x : Elem). IsInterval x.span.start x.span.end) e es f.spans),
          All-head (ElemFits kinds) e es f.tuples,
        ),
        rest.0,
      ),
      rest.1,
    )

given-more : (list : List Message) (es : List Elem) (m : Message) → elements (m ∷ []) ≡ []
    → elements (list ++ (map message.Elem es ++ m ∷ [])) ≡ elements list ++ es
given-more list es m none =
    elements-append list (map message.Elem es ++ m ∷ [])
    ∙ ap (λ (l : List Elem). elements list ++ l)
    (elements-append (map message.Elem es) (m ∷ [])
    ∙ ap (λ (l : List Elem). elements (map message.Elem es) ++ l) none
    ∙ append-nil (elements (map message.Elem es)) ∙ elements-map es)

-- ---- what one more arrival gives, and the end

-- the list has what these arrivals make known, and others may follow
pub record IsKnown (s : SourceDecl) (taken : List Item) (list : List Message) : Type 0 where
  pub limits : IsWindow s.window
  pub come : Arrive s.slack taken
  pub fit : All (ItemFits s.schema) taken
  pub going : (run start_of_list list).ended ≡ false
  pub low : beat list ≤ window_beat s.window (released s.slack taken) false
  pub given : elements list ≡ known s.window (released s.slack taken)

pub known-none : (kind : WindowKind) → known kind [] ≡ []
unfolding each_row
known-none kind = refl

-- nothing has come
pub known-new : (s : SourceDecl) → IsWindow s.window → IsKnown s [] []
known-new s limits = record {
  limits = limits;
  come = tt;
  fit = All-nil (ItemFits s.schema);
  going = refl;
  low = omega arith;
  given = sym (known-none s.window);
}

module _ (s : SourceDecl) (taken : List Item) (list : List Message) (g : IsKnown s taken list) where
  beats : IsArrivalBeat s.slack s.window taken
  beats = heartbeat s.slack s.window taken g.limits g.come

  module _ (x : Item) (more : List Elem) (come-next : Arrive s.slack (taken ++ x ∷ []))
      (known-next : known s.window (released s.slack (taken ++ x ∷ []))
      ≡ known s.window (released s.slack taken) ++ more) (fits : ItemFits s.schema x) where
    abbrev Next : List Item
    Next = taken ++ x ∷ []

    rows : AreRowsInOrder s.slack s.window Next
    rows = rows_in_order s.slack s.window Next g.limits come-next

    beats-next : IsArrivalBeat s.slack s.window Next
    beats-next = heartbeat s.slack s.window Next g.limits come-next

    later : (rest : List Elem) × (spans s.window (completed s.slack Next)
        ≡ known s.window (released s.slack Next) ++ rest)
    later =
        let a = beats-next.ahead [] (subst (λ (l : List Item). Arrive s.slack l)
        (sym (append-nil Next)) come-next) in (
          a.0,
          subst (λ (l : List Item). spans s.window (completed s.slack l)
              ≡ known s.window (released s.slack Next) ++ a.0) (append-nil Next) a.1,
        )

    all-are : spans s.window (completed s.slack Next) ≡ known s.window (released s.slack taken)
        ++ (more ++ later.0)
    all-are = later.1 ∙ ap (λ (l : List Elem). l ++ later.0) known-next
        ∙ append_assoc (known s.window (released s.slack taken)) more later.0

    starts : StartsFrom (window_beat s.window (released s.slack taken) false) more
    starts =
        let a = beats.ahead (x ∷ []) come-next in
        let same : a.0 ≡ more ++ later.0 =
        append_cancel_left (known s.window (released s.slack taken)) a.0 (more ++ later.0)
        (sym a.1 ∙ all-are) in
        starts-front (window_beat s.window (released s.slack taken) false) more later.0
        (subst (λ (l : List Elem). StartsFrom (window_beat s.window (released s.slack taken) false)
        l) same a.2)

    fit-next : All (ItemFits s.schema) Next
    fit-next = All-append (ItemFits s.schema) taken (x ∷ []) g.fit
        (All-cons (ItemFits s.schema) x [] fits (All-nil (ItemFits s.schema)))

    are-fit : AreFit s.schema more
    are-fit =
        let P : Elem → Type 0 = λ e. IsInterval e.span.start e.span.end in
        let before = known s.window (released s.slack taken) in
        record {
          spans = (All-parts P more later.0 (All-parts P before (more ++ later.0)
              (subst (λ (l : List Elem). All P l) all-are rows.spans_are.intervals)).1).0;
          tuples = (All-parts (ElemFits s.schema) more later.0 (All-parts (ElemFits s.schema)
              before (more ++ later.0) (subst (λ (l : List Elem). All (ElemFits s.schema) l)
              all-are (spans_fit s.schema s.window (completed s.slack Next)
              (completed-fit s.schema s.slack Next fit-next)))).1).0;
        }

    abbrev Beat : ℕ
    Beat = window_beat s.window (released s.slack Next) false

    stamps : StampsRise (released s.slack Next)
    stamps = released-rises s.slack Next come-next

    caught-up : All (λ e. e.span.start ≤ Beat) more
    caught-up = (All-parts (λ (e : Elem). e.span.start ≤ Beat)
        (known s.window (released s.slack taken)) more
        (subst (λ (l : List Elem). All (λ e. e.span.start ≤ Beat) l) known-next
        beats-next.past)).1

    rises : window_beat s.window (released s.slack taken) false ≤ Beat
    rises =
        let e = released-more s.slack taken x in
        subst (λ (l : List Item). window_beat s.window (released s.slack taken) false
        ≤ window_beat s.window l false) (sym e)
        (beat-rises s.window (released s.slack taken) _ g.limits
        (subst (λ (l : List Item). StampsRise l) e stamps))

    abbrev Given : List Message
    Given = map message.Elem more ++ message.Beat Beat ∷ []

    passes : MayPassAll s.schema (run start_of_list list) Given
        × (run (run start_of_list list) Given ≡ record { beat = Beat; ended = false })
    passes = pass-beat s.schema (run start_of_list list) more Beat g.going
        (starts_lower (beat list) (window_beat s.window (released s.slack taken) false) more g.low
        starts) are-fit caught-up (omega (arith, g.low, rises))
        (omega (arith, beat-below s.window (released s.slack Next) stamps))

    pub known-more : IsKnown s Next (list ++ Given)
    known-more =
        let at : run start_of_list (list ++ Given) ≡ record { beat = Beat; ended = false } =
        run-append start_of_list list Given ∙ passes.1 in
        record {
          limits = g.limits;
          come = come-next;
          fit = fit-next;
          going = ap (λ (p : Progress). p.ended) at;
          low = omega (arith, ap (λ (p : Progress). p.beat) at);
          given = given-more list more (message.Beat Beat) refl
              ∙ ap (λ (l : List Elem). l ++ more) g.given ∙ sym known-next;
        }

    pub known-may : MayPassAll s.schema (run start_of_list list) Given
    known-may = passes.0

  module _ (more : List Elem) (whole : spans s.window (completed s.slack taken)
      ≡ known s.window (released s.slack taken) ++ more) where
    order : AreRowsInOrder s.slack s.window taken
    order = rows_in_order s.slack s.window taken g.limits g.come

    starts-last : StartsFrom (window_beat s.window (released s.slack taken) false) more
    starts-last =
        let a = beats.ahead [] (subst (λ (l : List Item). Arrive s.slack l)
        (sym (append-nil taken)) g.come) in
        let is = subst (λ (l : List Item). spans s.window (completed s.slack l)
        ≡ known s.window (released s.slack taken) ++ a.0) (append-nil taken) a.1 in
        let same : a.0 ≡ more =
        append_cancel_left (known s.window (released s.slack taken)) a.0 more
        (sym is ∙ whole) in
        subst (λ (l : List Elem). StartsFrom (window_beat s.window (released s.slack taken) false)
        l) same a.2

    are-fit_last : AreFit s.schema more
    are-fit_last =
        let P : Elem → Type 0 = λ e. IsInterval e.span.start e.span.end in
        let before = known s.window (released s.slack taken) in
        record {
          spans = (All-parts P before more
              (subst (λ (l : List Elem). All P l) whole order.spans_are.intervals)).1;
          tuples = (All-parts (ElemFits s.schema) before more
              (subst (λ (l : List Elem). All (ElemFits s.schema) l) whole
              (spans_fit s.schema s.window (completed s.slack taken)
              (completed-fit s.schema s.slack taken g.fit)))).1;
        }

    abbrev Last : List Message
    Last = map message.Elem more ++ message.End ∷ []

    passes-last : MayPassAll s.schema (run start_of_list list) Last
        × ((run (run start_of_list list) Last).ended ≡ true)
    passes-last = pass-end s.schema (run start_of_list list) more g.going
        (starts_lower (beat list) (window_beat s.window (released s.slack taken) false) more g.low
        starts-last) are-fit_last

    pub known-may_close : MayPassAll s.schema (run start_of_list list) Last
    known-may_close = passes-last.0

    pub known-all : HasGiven s taken (list ++ Last)
    known-all =
        let is : elements (list ++ Last) ≡ spans s.window (completed s.slack taken) =
        given-more list more message.End refl ∙ ap (λ (l : List Elem). l ++ more) g.given
        ∙ sym whole in
        record {
          ended = ap (λ (p : Progress). p.ended) (run-append start_of_list list Last)
              ∙ passes-last.1;
          rows = λ t below. ap (λ (l : List Elem). snapshot l t) is ∙ order.rows t below;
        }
