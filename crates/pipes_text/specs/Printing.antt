-- The one text in which a query is printed.
use Rattle.std.specs.Prelude.{ℕ, zero, suc, List, [], ◌∷◌, ◌++◌, codes}
use Rattle.std.specs.Fmt.{decimal}
use Rattle.pipes_tuple.specs.declared.value.Kind.{Kind}
use Rattle.pipes_tuple.specs.Kinds.{kind_word}
use Rattle.pipes_tuple.specs.Texts.{quoted}
use Rattle.pipes_window.specs.declared.kind.WindowKind.{WindowKind}
use Rattle.pipes_window.specs.declared.kind.WindowKind.TheVariants.{Time, Slide, Count}
use Rattle.pipes_plan.specs.declared.plan.Plan.{Plan}
use Rattle.pipes_print.specs.PlanText.{plan_text}
use Rattle.pipes_query.specs.declared.query.SourceDecl.{SourceDecl}
use Rattle.pipes_query.specs.declared.query.Query.{Query}
use Rattle.pipes_query.specs.Queries.{names_of}
use Rattle.pipes_text.specs.Texts.{IsTextOfQuery}

abbrev pub column_text : List ℕ → Kind → List ℕ
column_text name sort = name ++ (codes " " ++ kind_word sort)

-- each after a comma
abbrev pub more_columns_text : List (List ℕ) → List Kind → List ℕ
more_columns_text (name ∷ names) (sort ∷ sorts) =
    codes ", " ++ (column_text name sort ++ more_columns_text names sorts)
more_columns_text _ _ = []

abbrev pub columns_text : List (List ℕ) → List Kind → List ℕ
columns_text (name ∷ names) (sort ∷ sorts) = column_text name sort ++ more_columns_text names sorts
columns_text _ _ = []

abbrev pub window_text : WindowKind → List ℕ
window_text (Time n) = codes "time " ++ decimal n
window_text (Slide n m) = codes "time " ++ (decimal n ++ (codes " slide " ++ decimal m))
window_text (Count n) = codes "count " ++ decimal n

-- a source's name and file
abbrev pub head_text : SourceDecl → List ℕ
head_text s = codes "source " ++ (s.name ++ (codes " from " ++ quoted s.file))

-- how late its rows may come, where they may
abbrev pub slack_text : ℕ → List ℕ
slack_text zero = []
slack_text (suc n) = codes " slack " ++ decimal (suc n)

-- its columns, slack and window, and the end of its line
abbrev pub shape_text : SourceDecl → List ℕ
shape_text s =
    codes " (" ++ (columns_text s.names s.schema ++ (codes ")" ++ (slack_text s.slack
    ++ (codes " window " ++ (window_text s.window ++ codes "\n")))))

-- a line for each source
abbrev pub source_line : SourceDecl → List ℕ
source_line s = head_text s ++ shape_text s

abbrev pub sources_text : List SourceDecl → List ℕ
sources_text [] = []
sources_text (s ∷ ss) = source_line s ++ sources_text ss

-- and one for the plan
abbrev pub plan_line : List SourceDecl → Plan → List ℕ
plan_line sources p = codes "plan " ++ (plan_text (names_of sources) p ++ codes "\n")

abbrev pub query_text : Query → List ℕ
query_text q = sources_text q.sources ++ plan_line q.sources q.plan

-- some text has this value, whatever its length
abbrev pub HasText : Query → Type 0
HasText q = (bytes : List ℕ) × IsTextOfQuery q bytes

-- the query with another plan
abbrev pub with_plan : Query → Plan → Query
with_plan q p = record { sources = q.sources; plan = p }
