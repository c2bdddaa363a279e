-- How a query is read: its value, or its first refusal.
use Rattle.std.specs.Prelude.{ℕ, Bool, true, false, List, [], ◌∷◌, ◌++◌, Err}
use Rattle.pipes_time.specs.Interval.{horizon}
use Rattle.pipes_tuple.specs.declared.value.Kind.{Kind}
use Rattle.pipes_window.specs.declared.kind.WindowKind.{WindowKind}
use Rattle.pipes_window.specs.declared.kind.WindowKind.TheVariants.{Time, Slide, Count}
use Rattle.pipes_reader.specs.Reading.{Reads, refused_by, too_many, take_by, done_with, in_turn}
use Rattle.pipes_reader.specs.Reading.{with_tail, unless, many_within}
use Rattle.pipes_reader.specs.Taking.{take_number, take_text, take_name}
use Rattle.pipes_grammar.specs.PlanReading.{parse_plan}
use Rattle.pipes_query.specs.declared.query.SourceDecl.{SourceDecl}
use Rattle.pipes_query.specs.declared.query.Query.{Query}
use Rattle.pipes_query.specs.Queries.{names_of}
use Rattle.pipes_text.specs.declared.mark.Mark.{Mark}
use Rattle.pipes_text.specs.declared.mark.Mark.TheVariants as mark
use Rattle.pipes_text.specs.declared.mark.Measure.{Measure}
use Rattle.pipes_text.specs.declared.mark.Measure.TheVariants as measure
use Rattle.pipes_text.specs.Grammar.{word_of, kind_of_token}
use Rattle.pipes_text.specs.Taking.{mark_value, source_word, comma_of, slack_of, measure_of}
use Rattle.pipes_text.specs.Taking.{slide_of, source_or_plan, another_of}
use Rattle.pipes_text.specs.Taking.{another_refused, plan_of}

unfoldable pub expect : Mark → Reads (Unit {0})
expect m ts = take_by (mark_value m) refused_by ts

unfoldable pub read_kind : Reads Kind
read_kind ts = take_by kind_of_token refused_by ts

-- ---- columns

-- the names and the kinds of columns
abbrev pub Columns : Type 0
Columns = List (List ℕ) × List Kind

abbrev pub with_column : Columns → List ℕ → Kind → Columns
with_column columns name sort = (columns.0 ++ (name ∷ []), columns.1 ++ (sort ∷ []))

-- a comma, or the end of the columns
unfoldable pub read_comma : Reads Bool
read_comma ts = take_by comma_of refused_by ts

-- a column beside others, and whether another follows
unfoldable pub read_column : Columns → Reads (Columns × Bool)
read_column columns =
    in_turn (take_name word_of columns.0) (λ name. in_turn read_kind (λ sort.
    in_turn read_comma (λ more. done_with (with_column columns name sort, more))))

-- a column that is one too many
abbrev pub one_too_many : Columns → Reads Columns
one_too_many columns ts = Err (too_many ts)

unfoldable pub read_columns : Reads Columns
read_columns = many_within 32 read_column one_too_many ([], [])

-- ---- slack and window

unfoldable pub read_slack : Reads ℕ
read_slack = with_tail slack_of (λ word. take_number 1 horizon) 0

unfoldable pub read_measure : Reads Measure
read_measure ts = take_by measure_of refused_by ts

-- after a size the slide, where there is one
unfoldable pub read_slide : ℕ → Reads WindowKind
read_slide n =
    with_tail slide_of
    (λ word. in_turn (take_number 1 horizon) (λ m. done_with (Slide n m))) (Time n)

abbrev pub read_size : Measure → Reads WindowKind
read_size measure.Time = in_turn (take_number 1 horizon) read_slide
read_size measure.Count = in_turn (take_number 1 1000000) (λ n. done_with (Count n))

unfoldable pub read_window : Reads WindowKind
read_window = in_turn read_measure read_size

-- ---- sources

-- a source's name and file
unfoldable pub read_head : List (List ℕ) → Reads (List ℕ × List ℕ)
read_head names =
    in_turn (take_name source_word names) (λ name.
    in_turn (expect mark.From) (λ from. in_turn take_text (λ file. done_with (name, file))))

-- its columns, slack and window
abbrev pub SourceShape : Type 0
SourceShape = Columns × ℕ × WindowKind

unfoldable pub read_shape : Reads SourceShape
read_shape =
    in_turn (expect mark.Open) (λ paren. in_turn read_columns (λ columns.
    in_turn read_slack (λ slack. in_turn (expect mark.Window) (λ word.
    in_turn read_window (λ window. done_with (columns, slack, window))))))

abbrev pub declared : List ℕ × List ℕ → SourceShape → SourceDecl
declared head shape = record {
  name = head.0;
  file = head.1;
  names = shape.0.0;
  schema = shape.0.1;
  slack = shape.1;
  window = shape.2;
}

-- after `source`, a source beside others with these names
unfoldable pub read_source : List (List ℕ) → Reads SourceDecl
read_source names =
    in_turn (read_head names)
    (λ head. in_turn read_shape (λ shape. done_with (declared head shape)))

-- there are some
abbrev pub are_some : List SourceDecl → Bool
are_some [] = false
are_some (s ∷ ss) = true

unfoldable pub read_next : Bool → Reads Bool
read_next some ts = take_by (source_or_plan some) refused_by ts

-- another source, or the end of the sources
abbrev pub source_if : Bool → List SourceDecl → Reads (List SourceDecl × Bool)
source_if true sources =
    in_turn (read_source (names_of sources)) (λ s. done_with (sources ++ (s ∷ []), true))
source_if false sources = done_with (sources, false)

unfoldable pub next_source : List SourceDecl → Reads (List SourceDecl × Bool)
next_source sources = in_turn (read_next (are_some sources)) (λ another. source_if another sources)

-- the end of the most sources that a query may have: no other source, and the plan where there
-- are some
unfoldable pub read_no_source : Reads (Unit {0})
read_no_source = unless another_of another_refused tt

unfoldable pub read_plan_mark : Bool → Reads (Unit {0})
read_plan_mark some ts = take_by (plan_of some) refused_by ts

unfoldable pub end_sources : List SourceDecl → Reads (List SourceDecl)
end_sources sources = in_turn read_no_source (λ done. in_turn (read_plan_mark (are_some sources))
    (λ word. done_with sources))

-- all sources, and `plan`
unfoldable pub read_sources : Reads (List SourceDecl)
read_sources = many_within 16 next_source end_sources []

-- ---- a query

abbrev pub query_over : List SourceDecl → Reads Query
query_over sources =
    in_turn (parse_plan (names_of sources))
    (λ plan. done_with (record { sources = sources; plan = plan }))

unfoldable pub parse_query : Reads Query
parse_query = in_turn read_sources query_over
