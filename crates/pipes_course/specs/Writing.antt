-- What a run writes.
use Rattle.std.specs.Prelude.{◌≡◌, ◌⊎◌, ℕ, ◌<◌, List, [], ◌∷◌, ◌++◌, take, length, Option}
use Rattle.std.specs.List.{All}
use Rattle.pipes_time.specs.Interval.{horizon}
use Rattle.pipes_tuple.specs.Bag.{SameBag}
use Rattle.pipes_plan.specs.declared.plan.Plan.{Plan}
use Rattle.pipes_output.specs.declared.entry.Entry.{Entry}
use Rattle.pipes_output.specs.declared.entry.Entry.TheVariants as entry
use Rattle.pipes_output.specs.declared.form.Form.{Form}
use Rattle.pipes_output.specs.declared.form.Form.TheVariants.{Stream, Normal}
use Rattle.pipes_output.specs.Lines.{IsEntry, line, lines}
use Rattle.pipes_output.specs.NormalText.{IsNormalText}
use Rattle.pipes_semantics.specs.Answer.{answer}
use Rattle.pipes_semantics.specs.Written.{results, written_snapshot}
use Rattle.pipes_semantics.specs.Right.{Right, Final}
use Rattle.pipes_settled.specs.Certainty.{IsCertain}
use Rattle.pipes_told.specs.Told.{nothing_told}
use Rattle.pipes_told.specs.Pacing.{Follow, GoesOn}
use Rattle.pipes_told.specs.Coalesced.{Coalesced}
use Rattle.pipes_told.specs.Steep.{steep}
use Rattle.pipes_course.specs.Known.{all_spans}
use Rattle.pipes_course.specs.Endings.{Ending, Whole, Stopped, Cut}
use Rattle.pipes_course.specs.Job.{About}

-- the last of these entries
abbrev pub EndsWith : Entry → List Entry → Type 0
EndsWith last entries = (before : List Entry) × (entries ≡ before ++ last ∷ [])

-- nothing, or a part of such a text, but not all of it
abbrev pub IsCutText : (List ℕ → Type 0) → List ℕ → Type 0
IsCutText IsText bytes =
    (bytes ≡ [])
    ⊎ ((text : List ℕ) × (n : ℕ) × IsText text × (n < length text) × (bytes ≡ take n text))

-- What derivations are to lead to, and what they come to from plans, are parameters.
module _ {Derivation : Type 0} (target : Derivation → Plan)
    (ComesTo : Plan → Derivation → Option ℕ → Type 0) where
  -- entries that may be written one after another from the start
  abbrev pub FollowFrom : About Derivation → List Entry → Type 0
  FollowFrom run entries =
      Follow target ComesTo steep (all_spans run.query.sources run.items)
      (nothing_told run.query.plan run.asks) entries

  -- entries that a run may have written so far
  pub record SoFar (run : About Derivation) (entries : List Entry) : Type 0 where
    pub typed : All IsEntry entries
    pub final : Final run.query run.items entries
    pub coalesced : Coalesced entries
    pub follow : FollowFrom run entries

  -- the lines of all entries of a run, of which this is the last
  pub record WritesAll (run : About Derivation) (last : Entry) (bytes : List ℕ) : Type 0 where
    pub entries : List Entry
    pub bytes_are : bytes ≡ lines entries
    pub so_far : SoFar run entries
    pub right : Right run.query run.items entries
    pub ends : EndsWith last entries

  -- the line of an entry that may be written next
  abbrev pub IsNextLine : About Derivation → List Entry → List ℕ → Type 0
  IsNextLine run entries text =
      (next : Entry) × (text ≡ line next) × SoFar run (entries ++ next ∷ [])

  -- the lines of a run's first entries, and perhaps the beginning of one more
  pub record WritesPart (run : About Derivation) (bytes : List ℕ) : Type 0 where
    pub entries : List Entry
    pub part : List ℕ
    pub bytes_are : bytes ≡ lines entries ++ part
    pub so_far : SoFar run entries
    pub going : GoesOn entries
    pub begun : IsCutText (IsNextLine run entries) part

  -- Of a run's first entries, whose results are the answer below an instant: a text that begins
  -- their normal text, whatever results come that start there or later.
  pub record WritesCertain (run : About Derivation) (bytes : List ℕ) : Type 0 where
    pub entries : List Entry
    pub so_far : SoFar run entries
    pub going : GoesOn entries
    pub known : ℕ
    pub right : (t : ℕ) → t < known → t < horizon
        → SameBag (written_snapshot entries t) (answer run.query run.items t)
    pub certain : IsCertain (results entries) known bytes

  abbrev pub WritesStream : About Derivation → Ending → List ℕ → Type 0
  WritesStream run Whole bytes = WritesAll run entry.Ended bytes
  WritesStream run (Stopped source why) bytes = WritesAll run entry.Stopped bytes
  WritesStream run Cut bytes = WritesPart run bytes

  abbrev pub WritesNormal : About Derivation → Ending → List ℕ → Type 0
  WritesNormal run Whole bytes = IsNormalText (answer run.query run.items) bytes
  WritesNormal run (Stopped source why) bytes = IsNormalText (answer run.query run.items) bytes
  WritesNormal run Cut bytes = WritesCertain run bytes

  abbrev pub WritesIn : Form → About Derivation → Ending → List ℕ → Type 0
  WritesIn Stream run ending bytes = WritesStream run ending bytes
  WritesIn Normal run ending bytes = WritesNormal run ending bytes
