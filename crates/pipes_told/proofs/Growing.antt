-- What a source gives later changes nothing of the floor at its heartbeat.
use Rattle.std.proofs.Common.{ℕ, ◌≤◌, List, [], ◌∷◌, ◌++◌, false, sym, subst, arith}
use Rattle.pipes_stream.specs.declared.Elem.{Elem}
use Rattle.pipes_window.specs.declared.item.Item.{Item}
use Rattle.pipes_window.specs.declared.kind.WindowKind.{WindowKind}
use Rattle.pipes_window.specs.Items.{StampsRise}
use Rattle.pipes_window.specs.Windows.{spans, known, window_beat}
use Rattle.pipes_window.specs.Laws.{StartsFrom, IsHeartbeat}
use Rattle.pipes_told.specs.Floors.{Grown, empty, kept, added}

grown-starts-below : (beat low : ℕ) (rest : List Elem) → beat ≤ low → StartsFrom low rest
    → Grown beat [] rest
grown-starts-below beat low [] under starts = empty
grown-starts-below beat low (e ∷ rest) under starts =
    added (omega (arith, under, starts.0))
    (grown-starts-below beat e.span.start rest (omega (arith, under, starts.0)) starts.1)

-- a list with others behind it whose starts never fall from the heartbeat on
pub grown-starts : (beat : ℕ) (es rest : List Elem) → StartsFrom beat rest
    → Grown beat es (es ++ rest)
grown-starts beat [] rest starts = grown-starts-below beat beat rest (omega arith) starts
grown-starts beat (e ∷ es) rest starts = kept (grown-starts beat es rest starts)

-- what is known of a source that goes on grows to all its intervals, at the heartbeat of its window
pub grown-known : (kind : WindowKind) (items more : List Item) → IsHeartbeat kind items
    → StampsRise (items ++ more)
    → Grown (window_beat kind items false) (known kind items) (spans kind (items ++ more))
grown-known kind items more law rises =
    let ahead = law.ahead more rises in
    subst (λ (es : List Elem). Grown (window_beat kind items false) (known kind items) es)
    (sym ahead.1)
    (grown-starts (window_beat kind items false) (known kind items) ahead.0 ahead.2)
