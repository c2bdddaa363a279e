-- A line that is one record.
use Rattle.std.proofs.Common.{◌≡◌, ℕ, List, [], ◌∷◌, false, Some, refl, ap, ◌∙◌}
use Rattle.csv.specs.Machine.{next_record}
use Rattle.csv.specs.Reading.{default_config, strip_bom}
use Rattle.csv.specs.declared.parser.State.TheVariants as state
use Rattle.pipes_line.specs.Content.{blank, single, content_of, content_by}
use Rattle.pipes_line.specs.Marks.{may_be_marked}

-- no mark is taken off a line that does not begin with the first byte of one
pub unmarked : (line : List ℕ) → may_be_marked line ≡ false → strip_bom line ≡ line
unfolding strip_bom
unmarked [] h = refl
unmarked (a ∷ []) h = refl
unmarked (a ∷ b ∷ []) h = refl
unmarked (a ∷ b ∷ c ∷ rest) h = rw h refl

-- where the machine comes to the end of the line within the first record
pub is_single : (line : List ℕ) (fields : List (List ℕ)) → may_be_marked line ≡ false
    → next_record default_config state.StartRecord [] [] line ≡ Some (fields, state.StartRecord, [])
    → content_of line ≡ single fields
unfolding next_record
is_single line fields plain h =
    ap (λ (l : List ℕ). content_by (next_record default_config state.StartRecord [] [] l))
    (unmarked line plain) ∙ ap content_by h

-- an empty line has no record
pub empty_is_blank : content_of [] ≡ blank
unfolding next_record strip_bom
empty_is_blank = refl
