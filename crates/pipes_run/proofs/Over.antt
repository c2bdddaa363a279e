-- A run over sources that were found, from what it did with them.
use Rattle.std.proofs.Common.{◌≡◌, ℕ, List, length, map, get_or, Option, Some, None, Ok, sym, subst}
use Rattle.std.proofs.Common.{◌∙◌, ap}
use Rattle.std.specs.List.{All}
use Rattle.std.proofs.lemmas.List.{length-map}
use Rattle.pipes_edge.specs.Causes.{Rose}
use Rattle.pipes_edge.specs.Outside.{Names, NoneFalls}
use Rattle.pipes_output.specs.declared.form.Form.{Form}
use Rattle.pipes_feed.specs.Items.{Items}
use Rattle.pipes_query.specs.declared.query.Query.{Query}
use Rattle.pipes_query.specs.declared.query.SourceDecl.{SourceDecl}
use Rattle.pipes_error.specs.Fault.{Fault}
use Rattle.pipes_inline.specs.declared.RunFault.{RunFault}
use Rattle.pipes_inline.specs.Ran.{DidRun, HasRunCause, AreArrivals}
use Rattle.pipes_run.specs.Asked.{arrivals_in}
use Rattle.pipes_run.specs.Outcome.{FaultCounts}
use Rattle.pipes_run.specs.Running.{RanOver, AllFound, IsNamed, HasSource}
use Rattle.pipes_run.proofs.Finding.{found-kept, found-count, found-arrivals, found-rose}
use Rattle.pipes_run.proofs.Running.{over-all, over-fault, named-cause, has-source}

module _ {S : Type 0} (left : S → Option (List ℕ)) (faults found_at : S → ℕ)
    (source_name : S → List ℕ) (keeps : List ℕ → Type 0) (query : Query) (known : Option Names)
    (xs srcs ws : List S)
    (found : AllFound left faults found_at source_name keeps known query.sources xs)
    (are : srcs ≡ xs) (names : map source_name ws ≡ map source_name srcs) where
  same_names : map source_name ws ≡ map source_name xs
  same_names = names ∙ ap (λ (l : List S). map source_name l) are

  same_length : length ws ≡ length xs
  same_length = sym (length-map ws source_name) ∙ ap (λ (l : List (List ℕ)). length l) same_names
      ∙ length-map xs source_name

  -- none was lost
  pub count_after : length ws ≡ length query.sources
  count_after = same_length
      ∙ found-count left faults found_at source_name keeps known query.sources xs found

  -- they may be taken back
  pub kept_after : All (λ y. keeps (source_name y)) ws
  kept_after = found-kept left faults found_at source_name keeps known query.sources xs ws found
      same_names

  -- a fault's source is one of the query's
  pub source_of : (before : List ℕ) (out_before out_now count : ℕ) (fault : RunFault)
      → count ≡ length query.sources
      → HasRunCause before (map faults ws) out_before out_now (Some fault) → HasSource count fault
  source_of before out_before out_now count fault same cause =
      has-source before (map faults ws) out_before out_now count fault
      (length-map ws faults ∙ count_after ∙ sym same) cause

  arrivals : (files : Names) → known ≡ Some files → (others : List Items)
      × (arrivals_in files query.sources ≡ Ok others)
      × AreArrivals query.sources (map left srcs) others
  arrivals files tells = subst (λ (l : List S). (others : List Items)
      × (arrivals_in files query.sources ≡ Ok others)
      × AreArrivals query.sources (map left l) others) (sym are)
      (found-arrivals left faults found_at source_name keeps known files tells query.sources xs
      found)

  module _ (form : Form) (before now : FaultCounts) (first last : Option (List ℕ)) where
    pub ran_all : DidRun form query (map left srcs) first last None
        → RanOver form query known before now first last None
    ran_all did = over-all form query known before now first last (map left srcs) arrivals did

    -- mid are the counts from after the search
    pub ran_fault : (mid : List ℕ → ℕ) → map found_at ws ≡ map found_at srcs
        → NoneFalls before.files mid
        → All (λ y. Rose (found_at y) (faults y) → Rose (mid (source_name y))
        (now.files (source_name y))) ws
        → (fault : RunFault) (named : Fault) → IsNamed query.sources fault named
        → DidRun form query (map left srcs) first last (Some fault)
        → HasRunCause (map faults srcs) (map faults ws) before.out now.out (Some fault)
        → RanOver form query known before now first last (Some named)
    ran_fault mid ats later roses fault named is did cause =
        over-fault form query known before now first last (map left srcs) arrivals fault named is
        did
        (named-cause query.sources fault named before now mid (map faults srcs) (map faults ws) is
        later (λ i s at rose. found-rose left faults found_at source_name keeps known mid now.files
        query.sources xs ws i s found same_names
        (ats ∙ ap (λ (l : List S). map found_at l) are) roses at
        (subst (λ (l : List S). Rose (get_or (map faults l) i 0) (get_or (map faults ws) i 0)) are
        rose)) cause)
