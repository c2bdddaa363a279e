-- A walk over a line, byte by byte, by `csv`'s machine.
use Rattle.std.proofs.Common.{◌≡◌, ◌≢◌, ℕ, ◌+◌, ◌<◌, List, [], ◌∷◌, ◌++◌, false, drop, length}
use Rattle.std.proofs.Common.{get_or, refl, ap, ◌∙◌, sym, arith}
use Rattle.std.proofs.lemmas.List.{drop_more, drop_all}
use Rattle.csv.specs.Machine.{next_record, step, is_end, fields_after, field_after}
use Rattle.csv.specs.Reading.{default_config}
use Rattle.csv.specs.declared.parser.State.{State}
use Rattle.csv.specs.declared.parser.State.TheVariants as state
use Rattle.csv.specs.declared.parser.Action.{Action}
use Rattle.pipes_line.specs.declared.quoted.Walk.{Walk}
use Rattle.pipes_line.specs.declared.quoted.Walk.TheVariants as walk
use Rattle.pipes_line.specs.declared.quoted.Fate.{Fate}
use Rattle.pipes_line.specs.declared.quoted.Fate.TheVariants as fate
use Rattle.pipes_line.specs.Content.{single, content_of}
use Rattle.pipes_line.specs.Copied.{Fields}
use Rattle.pipes_line.specs.Marks.{may_be_marked}
use Rattle.pipes_line.specs.Walk.{state_of, action_of}
use Rattle.pipes_line.proofs.Machine.{reads, whole}
use Rattle.pipes_line.proofs.OneRecord.{is_single}

-- the record that begins with the line is the one that goes on from this place, with what was read
-- before it
abbrev pub Reaches : List ℕ → Walk → Fields → ℕ → Type 0
Reaches line at copied i = reads state.StartRecord [] [] line ≡ reads (state_of at) copied.closed
    copied.last (drop i line)

goes_on : (f : Fate) → is_end (action_of f) ≡ false
goes_on fate.Dropped = refl
goes_on fate.Kept = refl
goes_on fate.Comma = refl

one_byte : (s s2 : State) (a : Action) (fields : List (List ℕ)) (field : List ℕ) (byte : ℕ)
    (rest : List ℕ) → is_end a ≡ false → step default_config s byte ≡ (s2, a)
    → reads s fields field (byte ∷ rest) ≡ reads s2 (fields_after a fields field)
    (field_after a byte field) rest
unfolding next_record
one_byte s s2 a fields field byte rest e h =
    let first : (step default_config s byte).0 ≡ s2 = ap (λ (q : State × Action). q.0) h in
    let second : (step default_config s byte).1 ≡ a = ap (λ (q : State × Action). q.1) h in
    rw (second, e, first) refl

-- one byte further
pub reach_more : (line : List ℕ) (i byte : ℕ) (at next : Walk) (f : Fate) (old new : Fields)
    → i < length line → byte ≡ get_or line i 0
    → step default_config (state_of at) byte ≡ (state_of next, action_of f)
    → new.closed ≡ fields_after (action_of f) old.closed old.last
    → new.last ≡ field_after (action_of f) byte old.last → Reaches line at old i
    → Reaches line next new (i + 1)
reach_more line i byte at next f old new within here h closed last known =
    let rest = drop (i + 1) line in
    let cut : drop i line ≡ byte ∷ rest = drop_more line i 0 within
    ∙ ap (λ (b : ℕ). b ∷ rest) (sym here) in
    known ∙ ap (λ (l : List ℕ). reads (state_of at) old.closed old.last l) cut
    ∙ one_byte (state_of at) (state_of next) (action_of f) old.closed old.last byte rest
    (goes_on f) h
    ∙ ap (λ (fs : List (List ℕ)). reads (state_of next) fs (field_after (action_of f) byte old.last)
    rest) (sym closed)
    ∙ ap (λ (l : List ℕ). reads (state_of next) new.closed l rest) (sym last)

ends : (at : Walk) (fields : List (List ℕ)) (field : List ℕ) → at ≢ walk.Record
    → reads (state_of at) fields field [] ≡ whole (fields ++ field ∷ [])
unfolding next_record
ends walk.Record fields field begun = absurd (begun refl)
ends walk.Field fields field begun = refl
ends walk.Bare fields field begun = refl
ends walk.Quoted fields field begun = refl
ends walk.Quote fields field begun = refl

-- the end of the line ends the field that is open, and the only record
pub reach_end : (line : List ℕ) (i : ℕ) (at : Walk) (copied : Fields) → may_be_marked line ≡ false
    → length line ≡ i → at ≢ walk.Record
    → Reaches line at copied i → content_of line ≡ single (copied.closed ++ copied.last ∷ [])
reach_end line i at copied plain at_end begun known =
    let none : drop i line ≡ [] = drop_all i line (omega arith) in
    is_single line (copied.closed ++ copied.last ∷ []) plain
    (known ∙ ap (λ (l : List ℕ). reads (state_of at) copied.closed copied.last l) none
    ∙ ends at copied.closed copied.last begun)
