-- What a line that was read does to the arrivals ahead.
use Rattle.std.proofs.Common.{◌≡◌, ℕ, ◌+◌, ◌≤◌, ◌<◌, List, [], ◌∷◌, length, Bool, true, false, ◌==◌}
use Rattle.std.proofs.Common.{cond, Option, Some, None, refl, sym, ap, ◌∙◌, subst, arith}
use Rattle.std.specs.Prelude.{option_map}
use Rattle.std.specs.Io.KnownBytes.{IsAtEnd}
use Rattle.std.proofs.lemmas.Bool.{lt-ltb}
use Rattle.pipes_tuple.specs.declared.value.Kind.{Kind}
use Rattle.pipes_line.specs.Lines.{Line, lines_of, size_of}
use Rattle.pipes_line.specs.Reading.{TakesLine, TakesPrefix}
use Rattle.pipes_line.proofs.FirstLine.{first_line, begins_long}
use Rattle.pipes_feed.specs.declared.line.Verdict.TheVariants.{Limit}
use Rattle.pipes_feed.specs.declared.reader.Next.{Next}
use Rattle.pipes_feed.specs.declared.reader.Next.TheVariants as next
use Rattle.pipes_feed.specs.declared.reason.Reason.TheVariants as reason
use Rattle.pipes_feed.specs.declared.reason.RowWhy.TheVariants as why
use Rattle.pipes_feed.specs.Ahead.{TakesArrival, StepsAhead}
use Rattle.pipes_feed.specs.Reached.{Reached, most_bytes}
use Rattle.pipes_feed.specs.Items.{Items, arrivals_from, no_more, end_after, by_verdict}
use Rattle.pipes_feed.specs.Judged.{judge}

-- the arrivals of bytes that may be known
abbrev pub arrivals_in : List Kind → ℕ → Reached → Option (List ℕ) → Option Items
arrivals_in kinds slack reached bytes = option_map (λ bs. arrivals_from kinds slack reached
    (lines_of bs)) bytes

-- a line was taken, and judged
pub took_line : (kinds : List Kind) (slack : ℕ) (reached later : Reached)
    (before now : Option (List ℕ)) (line : List ℕ) (ended : Bool) (most : ℕ) (answer : Option Next)
    → TakesLine most before now line ended
    → ((more : List Line) → StepsAhead
    (Some (arrivals_from kinds slack reached (record { text = line; ended = ended } ∷ more)))
    (Some (arrivals_from kinds slack later more)) answer)
    → StepsAhead (arrivals_in kinds slack reached before) (arrivals_in kinds slack later now) answer
took_line kinds slack reached later None now line ended most answer t h = tt
took_line kinds slack reached later (Some xs) None line ended most answer t h = absurd t.bytes
took_line kinds slack reached later (Some xs) (Some ys) line ended most answer t h =
    let e : lines_of xs ≡ record { text = line; ended = ended } ∷ lines_of ys =
    ap lines_of (sym t.bytes) ∙ first_line line ys ended t.within t.last in
    subst (λ (ls : List Line). StepsAhead (Some (arrivals_from kinds slack reached ls))
    (Some (arrivals_from kinds slack later (lines_of ys))) answer) (sym e) (h (lines_of ys))

ended_so : (none : Bool) (before : Items) (now : Option Items)
    → before ≡ no_more (cond none (reason.Row 1 why.Header) reason.AtEnd)
    → TakesArrival (Some before) now (next.Ended (cond none (reason.Row 1 why.Header) reason.AtEnd))
ended_so true before now h = h
ended_so false before now h = h

-- no byte is left
pub took_none : (kinds : List Kind) (slack : ℕ) (reached : Reached) (before : Option (List ℕ))
    (now : Option Items) → IsAtEnd before
    → StepsAhead (arrivals_in kinds slack reached before) now
    (Some (next.Ended (end_after reached)))
unfolding arrivals_from
took_none kinds slack reached None now h = tt
took_none kinds slack reached (Some xs) now h =
    ended_so (reached.lines == 0) (arrivals_from kinds slack reached (lines_of xs)) now
    (ap (λ (l : List ℕ). arrivals_from kinds slack reached (lines_of l)) h)

too_long : (kinds : List Kind) (slack : ℕ) (reached : Reached) (line : Line)
    → most_bytes < reached.bytes + length line.text → judge kinds slack reached line ≡ Limit
unfolding judge
too_long kinds slack reached line h = rw (lt-ltb most_bytes (reached.bytes + size_of line)
    (over line.ended)) refl
  where
    over : (ended : Bool) → most_bytes < reached.bytes + (length line.text + cond ended 1 0)
    over true = omega arith
    over false = omega arith

-- the beginning of a line that is past the limit
pub took_prefix : (kinds : List Kind) (slack : ℕ) (reached : Reached) (before now : Option (List ℕ))
    (line : List ℕ) (most : ℕ) (later : Option Items)
    → TakesPrefix most before now line → most_bytes ≤ reached.bytes + most
    → StepsAhead (arrivals_in kinds slack reached before) later
    (Some (next.Ended (reason.Limit (reached.lines + 1))))
unfolding arrivals_from
took_prefix kinds slack reached None now line most later t h = tt
took_prefix kinds slack reached (Some xs) None line most later t h = absurd t.bytes
took_prefix kinds slack reached (Some xs) (Some ys) [] most later t h =
    absurd (let over = t.long in omega arith)
took_prefix kinds slack reached (Some xs) (Some ys) (byte ∷ line) most later t h =
    let begins = begins_long byte line ys t.within in
    let e : lines_of xs ≡ begins.head ∷ begins.tail = ap lines_of (sym t.bytes) ∙ begins.is in
    let over : most_bytes < reached.bytes + length begins.head.text =
    let l = begins.long in let o = t.long in omega arith in
    ap (arrivals_from kinds slack reached) e
    ∙ ap (by_verdict reached (size_of begins.head) (λ b. arrivals_from kinds slack b
    begins.tail)) (too_long kinds slack reached begins.head over)
