-- What stands for a list that has come this far.
use Rattle.std.proofs.Common.{◌≡◌, ℕ, ◌≤◌, Bool, true, false, List, [], ◌∷◌, ◌++◌, refl, sym, ◌∙◌}
use Rattle.std.proofs.Common.{ap}
use Rattle.std.proofs.Common.{subst, arith}
use Rattle.pipes_time.specs.Interval.{closed}
use Rattle.pipes_stream.specs.declared.Elem.{Elem}
use Rattle.pipes_stream.specs.declared.message.Message.{Message}
use Rattle.pipes_stream.specs.declared.message.Message.TheVariants as message
use Rattle.pipes_stream.specs.Progress.{Progress}
use Rattle.pipes_stream.specs.Lists.{run, start_of_list, Valid, ValidFrom, beat, elements}
use Rattle.pipes_stream.specs.Weights.{weigh}
use Rattle.pipes_stream.proofs.Messages.{run-append, valid-append, valid-prefix, valid-suffix}
use Rattle.pipes_stream.proofs.Messages.{elements-append, beat-closed, beat-ended}
use Rattle.pipes_stream.proofs.Snapshots.{starts-from}
use Rattle.pipes_coalesce.specs.Tests.{starts_below}
use Rattle.pipes_seam.specs.Seams.{opening_of, end_of}
use Rattle.pipes_seam.proofs.Spans.{starts-none}

opened-run : (h : ℕ) (ended : Bool) → (ended ≡ true → h ≡ closed)
    → run start_of_list (message.Beat h ∷ end_of ended) ≡ record { beat = h; ended = ended }
opened-run h true full = ap (λ (n : ℕ). record { beat = n; ended = true }) (sym (full refl))
opened-run h false full = refl

opened-valid : (h : ℕ) (ended : Bool) → h ≤ closed → Valid (message.Beat h ∷ end_of ended)
opened-valid h true up = ((refl, omega arith, up), (refl, tt))
opened-valid h false up = ((refl, omega arith, up), tt)

opened-elements : (h : ℕ) (ended : Bool) → elements (message.Beat h ∷ end_of ended) ≡ []
opened-elements h true = refl
opened-elements h false = refl

module _ (begun : List Message) (valid : Valid begun) where
  pub opening-run : run start_of_list (opening_of begun) ≡ run start_of_list begun
  opening-run = opened-run (beat begun) (run start_of_list begun).ended
      (λ ended. beat-ended begun valid ended)

  pub opening-valid : Valid (opening_of begun)
  opening-valid = opened-valid (beat begun) (run start_of_list begun).ended
      (beat-closed begun valid)

module _ (begun since : List Message) (valid : Valid (begun ++ since)) where
  begun-valid : Valid begun
  begun-valid = valid-prefix start_of_list begun since valid

  since-valid : ValidFrom (run start_of_list begun) since
  since-valid = valid-suffix start_of_list begun since valid

  -- the list goes on as it would after what had come before
  pub opened-list-valid : Valid (opening_of begun ++ since)
  opened-list-valid = valid-append start_of_list (opening_of begun) since
      (opening-valid begun begun-valid)
      (subst (λ (p : Progress). ValidFrom p since) (sym (opening-run begun begun-valid))
      since-valid)

  pub opened-list-run : run start_of_list (opening_of begun ++ since)
      ≡ run start_of_list (begun ++ since)
  opened-list-run = run-append start_of_list (opening_of begun) since
      ∙ ap (λ (p : Progress). run p since) (opening-run begun begun-valid)
      ∙ sym (run-append start_of_list begun since)

  pub opened-list-elements : elements (opening_of begun ++ since) ≡ elements since
  opened-list-elements = elements-append (opening_of begun) since
      ∙ ap (λ (es : List Elem). es ++ elements since)
      (opened-elements (beat begun) (run start_of_list begun).ended)

  pub since-starts : weigh (starts_below (beat begun)) (elements since) ≡ 0
  since-starts = starts-none (beat begun) (elements since)
      (starts-from (run start_of_list begun) since since-valid (beat-closed begun begun-valid))
