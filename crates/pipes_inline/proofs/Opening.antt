-- The start of a run: nothing is taken.
use Rattle.std.proofs.Common.{◌≡◌, ◌⊎◌, ℕ, ◌+◌, ◌≤◌, ◌<◌, List, [], ◌∷◌, ◌++◌, length, get_or, set}
use Rattle.std.proofs.Common.{map, Option, None, sym, subst, ◌∙◌, ap, arith, inl, inr, refl}
use Rattle.std.proofs.lemmas.List.{get_or-set_same, get_or-set_other, get_or_append_left}
use Rattle.std.proofs.Math.Seq.{get_or-append_seam}
use Rattle.pipes_tuple.specs.declared.value.Kind.{Kind}
use Rattle.pipes_stream.specs.declared.message.Message.{Message}
use Rattle.pipes_stream.specs.Lists.{elements}
use Rattle.pipes_stream.specs.Lawful.{no_messages}
use Rattle.pipes_plan.specs.PlanKinds.{IsTyped}
use Rattle.pipes_node.proofs.NodeSteps.{get-any}
use Rattle.pipes_query.specs.declared.query.Query.{Query}
use Rattle.pipes_query.specs.declared.query.SourceDecl.{SourceDecl}
use Rattle.pipes_semantics.specs.Answer.{schemas_of}
use Rattle.pipes_results.specs.Kept.{Keeps}
use Rattle.pipes_works.specs.Standing.{WorksStand}
use Rattle.pipes_intake.specs.declared.intake.Intake.{Intake}
use Rattle.pipes_intake.specs.Giving.{IntakeStands}
use Rattle.pipes_inline.specs.declared.underway.Underway.{Underway}
use Rattle.pipes_inline.specs.Standing.{Start, GoesOn, AllNew}
use Rattle.pipes_inline.proofs.Places.{same-or}

pub goes-first : (start : Start) (lefts : List (Option (List ℕ))) (faults : List ℕ)
    (underway : Underway) → IsTyped start.query.plan (schemas_of start.query)
    → length start.query.sources ≤ 16
    → length underway.intakes.items ≡ length start.query.sources
    → length faults ≡ length start.query.sources → length lefts ≡ length start.query.sources
    → AllNew start.query.sources start.lefts lefts start.faults faults
    (length start.query.sources) underway.intakes.items
    → (schemas : List (List Kind)) → schemas ≡ schemas_of start.query
    → WorksStand underway.works schemas start.query.plan no_messages [] → underway.top.items ≡ []
    → Keeps start.written start.written underway.results []
    → GoesOn start lefts faults start.written underway
goes-first start lefts faults underway typed few count counts lefts-are new schemas are stands none
    kept = record {
      typed = typed;
      few = few;
      count = count;
      counts = counts;
      lefts_are = lefts-are;
      taken = λ _. [];
      sent = no_messages;
      done = [];
      each = new;
      works = subst (λ (l : List Message). WorksStand underway.works (schemas_of start.query)
          start.query.plan no_messages l) (sym none)
          (subst (λ (ss : List (List Kind)). WorksStand underway.works ss start.query.plan
          no_messages []) are stands);
      kept = kept;
    }

at-end : (intakes : List Intake) (intake : Intake) (i : ℕ) (d : Intake) → length intakes ≡ i
    → get_or (intakes ++ intake ∷ []) i d ≡ intake
at-end intakes intake i d many =
    subst (λ (n : ℕ). get_or (intakes ++ intake ∷ []) n d ≡ intake) many
    (get_or-append_seam intakes intake [] d)

-- one source more was read
pub new-more : (sources : List SourceDecl) (firsts lefts : List (Option (List ℕ)))
    (befores nows : List ℕ) (i : ℕ) (intakes intakes' : List Intake) (left : Option (List ℕ))
    (count : ℕ) (intake : Intake) → AllNew sources firsts lefts befores nows i intakes
    → ((s : SourceDecl) → IntakeStands (get_or sources i s) (get_or firsts i None) left
    (get_or befores i 0) count intake [] [])
    → i < length lefts → i < length nows → intakes' ≡ intakes ++ intake ∷ []
    → length intakes ≡ i
    → AllNew sources firsts (set lefts i left) befores (set nows i count) (i + 1) intakes'
new-more sources firsts lefts befores nows i intakes intakes' left count intake all here l m is
    many = λ k below s d.
    elim (same-or k i) [
      | inl e ↦ subst (λ (j : ℕ). IntakeStands (get_or sources j s) (get_or firsts j None)
          (get_or (set lefts i left) j None) (get_or befores j 0)
          (get_or (set nows i count) j 0) (get_or intakes' j d) [] []) (sym e)
          (rw (
            get_or-set_same lefts i left None l,
            get_or-set_same nows i count 0 m,
            is,
            at-end intakes intake i d many,
          ) (here s))
      | inr e ↦
          let low : k < i = omega (arith, below, e) in
          rw (
            get_or-set_other lefts i k left None e,
            get_or-set_other nows i k count 0 e,
            is,
            get_or_append_left intakes (intake ∷ []) d k (omega (arith, low, many)),
          )
          (all k low s d)
    ]

-- a source that was read first, as one of the sources
pub stands-read : (sources : List SourceDecl) (i : ℕ) (q s : SourceDecl)
    (first first' left : Option (List ℕ)) (before before' count : ℕ) (intake : Intake)
    → q ≡ get_or sources i q → i < length sources → first ≡ first' → before ≡ before'
    → IntakeStands q first left before count intake [] []
    → IntakeStands (get_or sources i s) first' left before' count intake [] []
stands-read sources i q s first first' left before before' count intake is l same same' h =
    let source : q ≡ get_or sources i s = is ∙ get-any sources i q s l in
    subst (λ (d : SourceDecl). IntakeStands d first' left before' count intake [] []) source
    (subst (λ (f : Option (List ℕ)). IntakeStands q f left before' count intake [] []) same
    (subst (λ (n : ℕ). IntakeStands q first left n count intake [] []) same' h))
