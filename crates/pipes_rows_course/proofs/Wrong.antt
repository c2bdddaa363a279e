-- Texts that are no run's.
use Rattle.std.proofs.Common.{◌≡◌, ◌≤◌, ℕ, [], ◌∷◌, true, false, inl, refl, arith}
use Rattle.pipes_output.specs.declared.entry.Entry.TheVariants.{Beat, Accepted, Refused, Idle, Over}
use Rattle.pipes_output.specs.declared.entry.Entry.TheVariants.{Drained, Ended}
use Rattle.pipes_output.specs.declared.entry.RefusedWhy.TheVariants.{Busy}
use Rattle.pipes_query.specs.declared.script.Command.TheVariants.{Feed, Migrate, Drain}
use Rattle.pipes_rows_course.proofs.Setting.{Merge, Back, found}
use Rattle.pipes_rows_course.proofs.Runs.{RunA, RunT, RunBack, script-move, script-drains}
use Rattle.pipes_rows_course.proofs.Runs.{script-rest, script-twice}

-- `d 0 0` at the second drain
drain-0 : ¬ (RunA [] script-drains (found 0 10 5 ∷ Beat 0 ∷ Drained 0 0 ∷ found 5 15 6 ∷ Beat 0
    ∷ Drained 0 0 ∷ Ended ∷ []))
unfolding Rattle.pipes_window.specs.Windows.each_row
drain-0 p = let told : ◌≡◌ {A = ℕ} 0 5 = p.1.1.1.1.1.0.paced.tells in omega arith

-- the inputs have ended, and the output lags behind
drain-low : ¬ (RunA [] script-rest (found 0 10 5 ∷ found 5 15 6 ∷ Beat 5
    ∷ Drained 1000000000000001 5 ∷ Ended ∷ []))
unfolding Rattle.pipes_window.specs.Windows.each_row
drain-low p = let least : 1000000000000001 ≤ 5 = p.1.1.1.0.paced.reached in omega arith

-- a drain is left out
drain-none : ¬ (RunA [] script-drains (found 0 10 5 ∷ Beat 0 ∷ Drained 0 0 ∷ found 5 15 6 ∷ Ended
    ∷ []))
unfolding Rattle.pipes_window.specs.Windows.each_row
drain-none p = let all = p.1.1.1.1.0.replies in cc

-- busy where no migration is in progress
busy-alone : ¬ (RunA (Merge ∷ []) (Feed 0 1 ∷ Migrate 0 ∷ []) (found 0 10 5 ∷ Refused 1 (Busy 11)
    ∷ found 5 15 6 ∷ Ended ∷ []))
unfolding Rattle.pipes_window.specs.Windows.each_row
busy-alone p = let why = p.1.0.replies.refused.1 in cc

-- a second migration is accepted while one is in progress
accepted-twice : ¬ (RunA (Merge ∷ Back ∷ []) script-twice (found 0 10 5 ∷ Accepted 1 11
    ∷ Accepted 2 11 ∷ Idle 2 ∷ Over 2 ∷ Ended ∷ []))
unfolding Rattle.pipes_window.specs.Windows.each_row
accepted-twice p = let why = p.1.1.0.replies.alone in cc

-- `z 1` is missing at the end
over-none : ¬ (RunA (Merge ∷ []) script-move (found 0 10 5 ∷ Accepted 1 11 ∷ found 5 15 6 ∷ Beat 5
    ∷ Drained 5 5 ∷ Idle 1 ∷ Ended ∷ []))
unfolding Rattle.pipes_window.specs.Windows.each_row
over-none p = let over = p.1.1.1.1.1.1.0.paced.0.1 in cc

-- `o 1` too early: the inputs stand at 5, and the split at 11
idle-early : ¬ (RunA (Merge ∷ []) script-move (found 0 10 5 ∷ Accepted 1 11 ∷ Idle 1
    ∷ found 5 15 6 ∷ Beat 5 ∷ Drained 5 5 ∷ Over 1 ∷ Ended ∷ []))
unfolding Rattle.pipes_window.specs.Windows.each_row
idle-early p = let early = p.1.1.1.1.1.0.paced.moves.0.idle.0 refl in omega arith

-- `m 9 9` out of nowhere, and a split that is too low
accepted-9 : ¬ (RunA [] script-drains (found 0 10 5 ∷ Accepted 9 9 ∷ Ended ∷ []))
unfolding Rattle.pipes_window.specs.Windows.each_row
accepted-9 p = p.1.0.replies

split-low : ¬ (RunA (Merge ∷ []) script-move (found 0 10 5 ∷ Accepted 1 10 ∷ []))
unfolding Rattle.pipes_window.specs.Windows.each_row
split-low p = let above = p.1.0.paced.0 in omega arith

-- `end` in mid-text
end-early : ¬ (RunA [] [] (found 0 10 5 ∷ Ended ∷ found 5 15 6 ∷ Ended ∷ []))
unfolding Rattle.pipes_window.specs.Windows.each_row
end-early p = let going = p.1.1.0.going in cc

-- `~ 1000000000000001` that no drain asks for
beat-alone : ¬ (RunA [] [] (Beat 1000000000000001 ∷ []))
unfolding Rattle.pipes_window.specs.Windows.each_row
beat-alone p = p.0.replies

-- a result between `~ 5` and `d 5 5`
beat-apart : ¬ (RunA [] (Drain ∷ []) (Beat 0 ∷ found 0 10 5 ∷ []))
unfolding Rattle.pipes_window.specs.Windows.each_row
beat-apart p = let due = p.1.0.due in cc

-- a result at the split once the migration is over
result-late : ¬ (RunA (Merge ∷ []) (Migrate 0 ∷ []) (Accepted 1 1 ∷ Idle 1 ∷ Over 1 ∷ found 0 10 5
    ∷ []))
unfolding Rattle.pipes_window.specs.Windows.each_row
result-late p = let behind = p.1.1.1.0.paced.0 refl in omega arith

-- busy, where the migration must be over by then
busy-late : ¬ (RunBack (found 0 10 5 ∷ Accepted 1 11 ∷ found 1 11 6 ∷ Refused 2 (Busy 11) ∷ Idle 1
    ∷ Over 1 ∷ Ended ∷ []))
unfolding Rattle.pipes_window.specs.Windows.each_row
busy-late p = let over : false ≡ true = p.1.1.1.0.paced.0 (inl (omega arith)) in cc (over)

-- a drain of a threaded run below what was awaited
drain-unawaited : ¬ (RunT (found 0 10 5 ∷ Accepted 1 11 ∷ found 5 15 6 ∷ Beat 6 ∷ Drained 4 6
    ∷ Idle 1 ∷ Over 1 ∷ Ended ∷ []))
unfolding Rattle.pipes_window.specs.Windows.each_row
drain-unawaited p = let low : 5 ≤ 4 = p.1.1.1.1.0.paced.tells in omega arith

-- the first accepted migration is not the second
accepted-2 : ¬ (RunA (Merge ∷ []) script-move (found 0 10 5 ∷ Accepted 2 11 ∷ []))
unfolding Rattle.pipes_window.specs.Windows.each_row
accepted-2 p = let number : ◌≡◌ {A = ℕ} 2 1 = p.1.0.replies.next in omega arith

-- `z 1` before `o 1`
over-first : ¬ (RunA (Merge ∷ []) (Migrate 0 ∷ []) (Accepted 1 1 ∷ found 0 10 5 ∷ found 5 15 6
    ∷ Over 1 ∷ Idle 1 ∷ Ended ∷ []))
unfolding Rattle.pipes_window.specs.Windows.each_row
over-first p = let idle : false ≡ true = p.1.1.1.0.paced.1 in cc (idle)
