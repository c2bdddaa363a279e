-- Runs whose texts are accepted, by computing.
use Rattle.std.proofs.Common.{◌≡◌, List, [], ◌∷◌, refl, arith}
use Rattle.pipes_output.specs.declared.entry.Entry.{Entry}
use Rattle.pipes_output.specs.declared.entry.Entry.TheVariants.{Beat, Accepted, Refused, Idle, Over}
use Rattle.pipes_output.specs.declared.entry.Entry.TheVariants.{Drained, Ended, Stopped}
use Rattle.pipes_output.specs.declared.entry.RefusedWhy.TheVariants.{NotDerived, Busy}
use Rattle.pipes_feed.specs.declared.reason.Reason.TheVariants as reason
use Rattle.pipes_feed.specs.declared.reason.RowWhy.TheVariants.{Falling}
use Rattle.pipes_feed.specs.Items.{Items, in_order}
use Rattle.pipes_window.specs.declared.item.Item.TheVariants as item
use Rattle.pipes_window.specs.declared.kind.WindowKind.TheVariants.{Time, Slide}
use Rattle.pipes_window.specs.Windows.{spans}
use Rattle.pipes_query.specs.declared.query.SourceDecl.{SourceDecl}
use Rattle.pipes_query.specs.declared.script.Command.{Command}
use Rattle.pipes_query.specs.declared.script.Command.TheVariants.{Feed, Rest, Await, Migrate, Drain}
use Rattle.pipes_told.specs.Asks.{Ask, Migrates, Drains, Taken, Awaited}
use Rattle.pipes_told.specs.Told.{nothing_told}
use Rattle.pipes_told.specs.Pacing.{Follow}
use Rattle.pipes_course.specs.Turns.{Takes, Ends}
use Rattle.pipes_course.specs.Steps.{Made, inline_steps}
use Rattle.pipes_course.specs.Asking.{asks_after, asks_awaiting}
use Rattle.pipes_course.specs.Endings.{Stopped as Halted, ending_of}
use Rattle.pipes_course.specs.Taking.{taken_by, items_taken}
use Rattle.pipes_rows_course.proofs.Setting.{Apart, TestMove, Merge, Back, Bad, test_target}
use Rattle.pipes_rows_course.proofs.Setting.{TestComesTo}
use Rattle.pipes_rows_course.proofs.Setting.{test_steep, source_with, source_a, file_of, file_a}
use Rattle.pipes_rows_course.proofs.Setting.{row, found}

-- the entries may be those of a run of a source over a file, where this is asked for
abbrev pub MayWrite : SourceDecl → Items → List (Ask TestMove) → List Entry → Type 0
MayWrite source file asks entries =
    Follow test_target TestComesTo test_steep (spans source.window (in_order file.list))
    (nothing_told Apart asks) entries

-- what the commands ask for in an inline run
abbrev pub asks_inline : SourceDecl → Items → List TestMove → List Command → List (Ask TestMove)
asks_inline source file moves commands =
    asks_after (source ∷ []) moves [] (inline_steps commands (file ∷ []))

-- an inline run over the first file
abbrev pub RunA : List TestMove → List Command → List Entry → Type 0
RunA moves commands entries =
    MayWrite source_a file_a (asks_inline source_a file_a moves commands) entries

-- ---- what is asked for

abbrev pub script-move : List Command
script-move = Feed 0 1 ∷ Migrate 0 ∷ Feed 0 1 ∷ Drain ∷ Feed 0 1 ∷ []

abbrev pub script-drains : List Command
script-drains = Feed 0 1 ∷ Drain ∷ Feed 0 1 ∷ Drain ∷ []

abbrev pub script-rest : List Command
script-rest = Feed 0 1 ∷ Rest ∷ Feed 0 1 ∷ Rest ∷ Drain ∷ []

abbrev pub script-twice : List Command
script-twice = Feed 0 1 ∷ Migrate 0 ∷ Migrate 1 ∷ []

asks-move : asks_inline source_a file_a (Merge ∷ []) script-move
    ≡ Migrates Merge (Taken 0 10) ∷ Drains (Taken 5 15) ∷ []
unfolding Rattle.pipes_window.specs.Windows.each_row
asks-move = refl

asks-drains : asks_inline source_a file_a [] script-drains
    ≡ Drains (Taken 0 10) ∷ Drains (Taken 5 15) ∷ []
unfolding Rattle.pipes_window.specs.Windows.each_row
asks-drains = refl

asks-rest : asks_inline source_a file_a [] script-rest ≡ Drains (Taken 1000000000000001 15) ∷ []
unfolding Rattle.pipes_window.specs.Windows.each_row
asks-rest = refl

-- in a threaded run the greatest heartbeat that was awaited is known
asks-threaded : asks_awaiting (Merge ∷ []) 0 (Await 5 ∷ Migrate 0 ∷ Await 3 ∷ Drain ∷ [])
    ≡ Migrates Merge (Awaited 5) ∷ Drains (Awaited 5) ∷ []
unfolding Rattle.pipes_window.specs.Windows.each_row
asks-threaded = refl

-- ---- inline runs

row-move : RunA (Merge ∷ []) script-move (found 0 10 5 ∷ Accepted 1 11 ∷ found 5 15 6 ∷ Beat 5
    ∷ Drained 5 5 ∷ Idle 1 ∷ Over 1 ∷ Ended ∷ [])
unfolding Rattle.pipes_window.specs.Windows.each_row
row-move = search (refl, arith) parts 60

row-drains : RunA [] script-drains (found 0 10 5 ∷ Beat 0 ∷ Drained 0 0 ∷ found 5 15 6 ∷ Beat 5
    ∷ Drained 5 5 ∷ Ended ∷ [])
unfolding Rattle.pipes_window.specs.Windows.each_row
row-drains = search (refl, arith) parts 60

-- A heartbeat's bound from below is weak: this may follow too, since the interval from 0 reaches
-- past 5.
low-drains : RunA [] script-drains (found 0 10 5 ∷ Beat 0 ∷ Drained 0 0 ∷ Beat 0 ∷ Drained 5 0
    ∷ found 5 15 6 ∷ Ended ∷ [])
unfolding Rattle.pipes_window.specs.Windows.each_row
low-drains = search (refl, arith) parts 60

row-rest : RunA [] script-rest (found 0 10 5 ∷ found 5 15 6 ∷ Beat 1000000000000001
    ∷ Drained 1000000000000001 1000000000000001 ∷ Ended ∷ [])
unfolding Rattle.pipes_window.specs.Windows.each_row
row-rest = search (refl, arith) parts 60

-- nothing was taken: the split is the least there is
row-first : RunA (Merge ∷ []) (Migrate 0 ∷ []) (Accepted 1 1 ∷ found 0 10 5 ∷ found 5 15 6 ∷ Idle 1
    ∷ Over 1 ∷ Ended ∷ [])
unfolding Rattle.pipes_window.specs.Windows.each_row
row-first = search (refl, arith) parts 60

row-twice : RunA (Merge ∷ Back ∷ []) script-twice (found 0 10 5 ∷ Accepted 1 11
    ∷ Refused 2 (Busy 11) ∷ found 5 15 6 ∷ Idle 1 ∷ Over 1 ∷ Ended ∷ [])
unfolding Rattle.pipes_window.specs.Windows.each_row
row-twice = search (refl, arith) parts 60

row-bad : RunA (Bad ∷ []) (Feed 0 1 ∷ Migrate 0 ∷ []) (found 0 10 5 ∷ Refused 1 (NotDerived 2)
    ∷ found 5 15 6 ∷ Ended ∷ [])
unfolding Rattle.pipes_window.specs.Windows.each_row
row-bad = search (refl, arith) parts 60

-- the last instant, and the greatest split
abbrev pub file-last : Items
file-last = file_of (row 999999999999999 7 ∷ [])

row-last : MayWrite source_a file-last
    (asks_inline source_a file-last (Merge ∷ []) (Feed 0 1 ∷ Migrate 0 ∷ []))
    (found 999999999999999 1000000000000000 7 ∷ Accepted 1 1000000000000001 ∷ Idle 1 ∷ Over 1
    ∷ Ended ∷ [])
unfolding Rattle.pipes_window.specs.Windows.each_row
row-last = search (refl, arith) parts 60

-- the second migrate command finds the first migration over, and goes back
abbrev pub file-back : Items
file-back = file_of (row 0 5 ∷ row 1 6 ∷ item.Beat 20 ∷ [])

abbrev pub script-back : List Command
script-back = Feed 0 1 ∷ Migrate 0 ∷ Feed 0 2 ∷ Migrate 1 ∷ []

abbrev pub RunBack : List Entry → Type 0
RunBack entries = MayWrite source_a file-back
    (asks_inline source_a file-back (Merge ∷ Back ∷ []) script-back) entries

row-back : RunBack (found 0 10 5 ∷ Accepted 1 11 ∷ found 1 11 6 ∷ Idle 1 ∷ Over 1 ∷ Accepted 2 12
    ∷ Idle 2 ∷ Over 2 ∷ Ended ∷ [])
unfolding Rattle.pipes_window.specs.Windows.each_row
row-back = search (refl, arith) parts 60

-- ---- slack: rows at 5, 3 and 6

abbrev pub late : SourceDecl
late = source_with 2 (Time 10)

abbrev pub file-late : Items
file-late = file_of (row 5 1 ∷ row 3 2 ∷ row 6 3 ∷ [])

row-late : MayWrite late file-late (asks_inline late file-late [] (Feed 0 2 ∷ Drain ∷ []))
    (found 3 13 2 ∷ Beat 3 ∷ Drained 3 3 ∷ found 5 15 1 ∷ found 6 16 3 ∷ Ended ∷ [])
unfolding Rattle.pipes_window.specs.Windows.each_row
row-late = search (refl, arith) parts 60

-- the third row is below the floor
abbrev pub file-falling : Items
file-falling = record { list = row 5 1 ∷ row 3 2 ∷ []; end = reason.Row 4 (Falling 2 3) }

steps-falling : inline_steps [] (file-falling ∷ []) ≡ Made (Takes 0 (row 5 1))
    ∷ Made (Takes 0 (row 3 2)) ∷ Made (Ends 0 file-falling.end) ∷ []
steps-falling = refl

ending-falling : ending_of (inline_steps [] (file-falling ∷ []))
    ≡ Halted 0 (reason.Row 4 (Falling 2 3))
ending-falling = refl

taken-falling : taken_by (inline_steps [] (file-falling ∷ [])) 0 (file-falling ∷ []) ≡ 2 ∷ []
taken-falling = refl

items-falling : items_taken (2 ∷ []) (file-falling ∷ []) ≡ (row 3 2 ∷ row 5 1 ∷ []) ∷ []
items-falling = refl

row-falling : MayWrite late file-falling (asks_inline late file-falling [] [])
    (found 3 13 2 ∷ found 5 15 1 ∷ Stopped ∷ [])
unfolding Rattle.pipes_window.specs.Windows.each_row
row-falling = search (refl, arith) parts 60

-- the commands behind the one in which a fault was met ask for nothing
asks-stopped : asks_inline late file-falling (Merge ∷ [])
    (Feed 0 2 ∷ Drain ∷ Feed 0 1 ∷ Migrate 0 ∷ Drain ∷ []) ≡ Drains (Taken 3 13) ∷ []
unfolding Rattle.pipes_window.specs.Windows.each_row
asks-stopped = refl

-- ---- a sliding window

abbrev pub sliding : SourceDecl
sliding = source_with 0 (Slide 10 5)

abbrev pub file-slide : Items
file-slide = file_of (row 1 5 ∷ row 6 6 ∷ item.Beat 21 ∷ [])

row-slide : MayWrite sliding file-slide (asks_inline sliding file-slide (Merge ∷ []) script-move)
    (found 5 15 5 ∷ Accepted 1 16 ∷ found 10 20 6 ∷ Beat 10 ∷ Drained 10 10 ∷ Idle 1 ∷ Over 1
    ∷ Ended ∷ [])
unfolding Rattle.pipes_window.specs.Windows.each_row
row-slide = search (refl, arith) parts 60

-- ---- a threaded run, in which at least 5 was awaited

abbrev pub RunT : List Entry → Type 0
RunT entries = MayWrite source_a file_a
    (asks_awaiting (Merge ∷ []) 0 (Await 5 ∷ Migrate 0 ∷ Await 3 ∷ Drain ∷ [])) entries

row-threaded : RunT (found 0 10 5 ∷ Accepted 1 11 ∷ found 5 15 6 ∷ Beat 6 ∷ Drained 6 6 ∷ Idle 1
    ∷ Over 1 ∷ Ended ∷ [])
unfolding Rattle.pipes_window.specs.Windows.each_row
row-threaded = search (refl, arith) parts 60

-- ---- two sources: the least next stamp first, the lower source of equals, and before them one
-- that has no next arrival

abbrev pub two-files : List Items
two-files = record { list = row 0 1 ∷ row 9 2 ∷ []; end = reason.Row 4 (Falling 2 9) }
    ∷ file_of (row 0 3 ∷ row 4 4 ∷ []) ∷ []

rest-of-two : inline_steps [] two-files ≡ Made (Takes 0 (row 0 1)) ∷ Made (Takes 1 (row 0 3))
    ∷ Made (Takes 1 (row 4 4)) ∷ Made (Ends 1 reason.AtEnd) ∷ Made (Takes 0 (row 9 2))
    ∷ Made (Ends 0 (reason.Row 4 (Falling 2 9))) ∷ []
rest-of-two = refl

-- the second source is behind, at 8, when the first one's fault is met
abbrev pub early-fault : List Items
early-fault = record { list = row 7 1 ∷ []; end = reason.Limit 3 }
    ∷ file_of (row 5 3 ∷ row 8 4 ∷ []) ∷ []

taken-early : taken_by (inline_steps [] early-fault) 0 early-fault ≡ 1 ∷ 1 ∷ []
taken-early = refl
