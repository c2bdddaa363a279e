-- Nothing was written of a job.
use Rattle.std.proofs.Common.{List, [], ◌∷◌, Some, refl, inl}
use Rattle.pipes_window.specs.declared.item.Item.{Item}
use Rattle.pipes_feed.specs.Items.{Items}
use Rattle.pipes_error.specs.Fault.{Fault, Words, QueryText, QueryType, DerivationText, Unbuilt}
use Rattle.pipes_error.specs.Fault.{Missing, ReadFile}
use Rattle.pipes_error.specs.Fault.{ReadSource, Row, Limit, Write, Memory}
use Rattle.pipes_run.proofs.Prefixes.{prefix_nothing}
use Rattle.pipes_run.specs.Asked.{Job, RunOver, AnswerAt, PrintOf, DeriveBy}
use Rattle.pipes_inline.specs.Ran.{ArePrefixes}
use Rattle.pipes_run.specs.Outcome.{Does}
use Rattle.pipes_run.specs.Seen.{IsFree}

nothing_taken : (arrivals : List Items) → (taken : List (List Item)) × ArePrefixes arrivals taken
nothing_taken [] = ([], tt)
nothing_taken (a ∷ others) = let rest = nothing_taken others in ([] ∷ rest.0, ((0, refl), rest.1))

pub does_nothing : (job : Job) (fault : Fault) → IsFree fault → Does job (Some fault) []
does_nothing (RunOver form query items) Memory h = let t = nothing_taken items in
    (t.0, t.1, prefix_nothing form query t.0)
does_nothing (AnswerAt query items t) Memory h = inl refl
does_nothing (PrintOf query) Memory h = (0, refl)
does_nothing (DeriveBy query d) Memory h = inl refl
does_nothing (RunOver form query items) (ReadFile name) h = refl
does_nothing (AnswerAt query items t) (ReadFile name) h = refl
does_nothing (PrintOf query) (ReadFile name) h = refl
does_nothing (DeriveBy query d) (ReadFile name) h = refl
does_nothing job Words h = absurd h
does_nothing job (QueryText r) h = absurd h
does_nothing job (QueryType r) h = absurd h
does_nothing job (DerivationText file r) h = absurd h
does_nothing job Unbuilt h = absurd h
does_nothing job (Missing name) h = absurd h
does_nothing job (ReadSource name) h = absurd h
does_nothing job (Row source line why) h = absurd h
does_nothing job (Limit source line) h = absurd h
does_nothing job Write h = absurd h
