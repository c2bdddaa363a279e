-- A query that was printed, as what the command does.
use Rattle.std.proofs.Common.{◌≡◌, ℕ, List, ◌++◌, take, Option, Some, Result, Ok, Err, OnOk, OnErr}
use Rattle.std.proofs.Common.{IsErrOf, None, refl, ap}
use Rattle.std.specs.Io.KnownBytes.{Appends}
use Rattle.pipes_edge.specs.Outside.{Names}
use Rattle.pipes_edge.specs.Causes.{Rose}
use Rattle.pipes_buffer.specs.Pieces.{AppendsPrefix}
use Rattle.pipes_buffer.specs.declared.IoFault.{IoFault}
use Rattle.pipes_buffer.specs.declared.IoFault.TheVariants as io
use Rattle.pipes_run.specs.Errand.{Check}
use Rattle.pipes_tuple.specs.declared.value.Kind.{Kind}
use Rattle.pipes_plan.specs.PlanKinds.{plan_kinds}
use Rattle.pipes_query.specs.declared.query.Query.{Query}
use Rattle.pipes_text.specs.Printing.{query_text}
use Rattle.pipes_error.specs.Fault.{Write, Memory}
use Rattle.pipes_semantics.specs.Answer.{schemas_of}
use Rattle.pipes_run.specs.Asked.{PrintOf}
use Rattle.pipes_run.specs.Outcome.{FaultCounts, RanAfter, kinds_line, checked_text}
use Rattle.pipes_run.specs.Seen.{io_fault_of}
use Rattle.pipes_run.proofs.Composing.{after_by}

text_is : (query : Query) (schema : List Kind) → plan_kinds query.plan (schemas_of query) ≡ Some
    schema → query_text query ++ kinds_line schema ≡ checked_text query
text_is query schema kinds = rw kinds refl

pub printed : (name : List ℕ) (query : Query) (schema : List Kind) (known : Option Names)
    (before now : FaultCounts) (first last : Option (List ℕ)) (done : Result (Unit {0}) IoFault)
    → plan_kinds query.plan (schemas_of query) ≡ Some schema
    → OnOk done (Appends first last (query_text query ++ kinds_line schema))
    → OnErr done (AppendsPrefix first last (query_text query ++ kinds_line schema))
    → (IsErrOf done io.Failed → Rose before.out now.out)
    → RanAfter (Check name) query known before now first last (io_fault_of done)
printed name query schema known before now first last (Ok u) kinds ok err cause =
    after_by (Check name) query known before now first last None
    (query_text query ++ kinds_line schema) (λ files. Ok (PrintOf query)) (λ files. refl)
    (λ files job e. e) ok (λ e. cc) tt tt (λ files tells. text_is query schema kinds)
printed name query schema known before now first last (Err io.Failed) kinds ok err cause =
    after_by (Check name) query known before now first last (Some Write)
    (take err.0 (query_text query ++ kinds_line schema)) (λ files. Ok (PrintOf query))
    (λ files. refl) (λ files job e. e) err.1 (λ e. cc) (cause refl) tt
    (λ files tells. (err.0, ap (λ (l : List ℕ). take err.0 l) (text_is query schema kinds)))
printed name query schema known before now first last (Err io.Memory) kinds ok err cause =
    after_by (Check name) query known before now first last (Some Memory)
    (take err.0 (query_text query ++ kinds_line schema)) (λ files. Ok (PrintOf query))
    (λ files. refl) (λ files job e. e) err.1 (λ e. cc) tt tt
    (λ files tells. (err.0, ap (λ (l : List ℕ). take err.0 l) (text_is query schema kinds)))
