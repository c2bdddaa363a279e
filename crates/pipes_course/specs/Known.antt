-- What is known of the inputs of a run: the items that sources have given, how far they have come,
-- and the greatest end that these items fix.
use Rattle.std.specs.Prelude.{ℕ, ◌+◌, min, max, List, [], ◌∷◌, ◌++◌, Bool, if◌then◌else◌}
use Rattle.pipes_time.specs.Interval.{closed}
use Rattle.pipes_stream.specs.declared.Elem.{Elem}
use Rattle.pipes_window.specs.declared.item.Item.{Item}
use Rattle.pipes_window.specs.Windows.{spans, known, window_beat}
use Rattle.pipes_feed.specs.Items.{in_order}
use Rattle.pipes_feed.specs.Released.{released}
use Rattle.pipes_query.specs.declared.query.SourceDecl.{SourceDecl}
use Rattle.pipes_course.specs.Steps.{ScriptStep, taken_from, has_ended}

-- the intervals of all rows of all sources
abbrev pub all_spans : List SourceDecl → List (List Item) → List Elem
all_spans [] items = []
all_spans (s ∷ ss) [] = []
all_spans (s ∷ ss) (is ∷ items) = spans s.window is ++ all_spans ss items

-- ---- one source

-- the items that it has given: those released of its arrivals, or all where it has ended
abbrev pub given_items : SourceDecl → List Item → Bool → List Item
given_items s arrivals ended = if ended then in_order arrivals else released s.slack arrivals

-- its heartbeat then
abbrev pub source_beat : SourceDecl → List Item → Bool → ℕ
source_beat s arrivals ended = window_beat s.window (given_items s arrivals ended) ended

-- the intervals whose ends its items fix then, whatever follows: all, where it has ended
abbrev pub source_known : SourceDecl → List Item → Bool → List Elem
source_known s arrivals ended =
    if ended then spans s.window (in_order arrivals) else known s.window
    (released s.slack arrivals)

-- the greatest end of elements, 0 where there is none
abbrev pub last_end : List Elem → ℕ
last_end [] = 0
last_end (e ∷ es) = max e.span.end (last_end es)

-- ---- all sources, after steps of a run

-- the least heartbeat of the sources from this number on
abbrev pub beat_from : List ScriptStep → ℕ → List SourceDecl → ℕ
beat_from past number [] = closed
beat_from past number (s ∷ ss) =
    min (source_beat s (taken_from number past) (has_ended number past))
    (beat_from past (number + 1) ss)

-- the intervals that are known of them
abbrev pub known_from : List ScriptStep → ℕ → List SourceDecl → List Elem
known_from past number [] = []
known_from past number (s ∷ ss) =
    source_known s (taken_from number past) (has_ended number past)
    ++ known_from past (number + 1) ss

-- the heartbeat of the inputs
abbrev pub inputs_beat : List ScriptStep → List SourceDecl → ℕ
inputs_beat past sources = beat_from past 0 sources

-- the greatest end that is known
abbrev pub inputs_end : List ScriptStep → List SourceDecl → ℕ
inputs_end past sources = last_end (known_from past 0 sources)
