-- The course of a run: what it took, what was asked for, and what it wrote, by how it ended.
use Rattle.std.specs.Prelude.{ℕ, List, Option, Some, None}
use Rattle.pipes_plan.specs.declared.plan.Plan.{Plan}
use Rattle.pipes_feed.specs.Items.{Items}
use Rattle.pipes_told.specs.Asks.{Ask}
use Rattle.pipes_course.specs.declared.fault.RunFault.{RunFault}
use Rattle.pipes_course.specs.Endings.{Ending, ending_with}
use Rattle.pipes_course.specs.Taking.{items_taken, met, AreTaken}
use Rattle.pipes_course.specs.Job.{RunJob, About, asks_in, AreAsked}
use Rattle.pipes_course.specs.Writing.{WritesIn}

-- What derivations are to lead to, and what they come to from plans, are parameters.
module _ {Derivation : Type 0} (target : Derivation → Plan)
    (ComesTo : Plan → Derivation → Option ℕ → Type 0) where
  -- what a job is about once so much was taken and this was asked for
  abbrev pub about : RunJob Derivation → List Items → List ℕ → List (Ask Derivation)
      → About Derivation
  about job arrivals taken asks =
      record { query = job.query; items = items_taken taken arrivals; asks = asks }

  -- A run of a job over arrivals, which ended so, took so many of each source, and wrote this.
  pub record Course (job : RunJob Derivation) (arrivals : List Items) (ending : Ending)
      (taken bytes : List ℕ) : Type 0 where
    pub takes : AreTaken job.mode job.commands (met ending taken arrivals) ending taken
    pub asks : List (Ask Derivation)
    pub asked : AreAsked job.mode ending (asks_in job.mode job (met ending taken arrivals)) asks
    pub writes : WritesIn target ComesTo job.form (about job arrivals taken asks) ending bytes

  -- a run that began, and ended with this fault or well
  abbrev pub CourseOf : RunJob Derivation → List Items → Option Ending → List ℕ → List ℕ → Type 0
  CourseOf job arrivals None taken bytes = ⊥
  CourseOf job arrivals (Some ending) taken bytes = Course job arrivals ending taken bytes

  abbrev pub RunsWith : RunJob Derivation → List Items → Option RunFault → List ℕ → List ℕ → Type 0
  RunsWith job arrivals fault taken bytes =
      CourseOf job arrivals (ending_with fault) taken bytes
