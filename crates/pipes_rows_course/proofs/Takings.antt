-- What a run takes of its sources, and how it ends.
use Rattle.std.proofs.Common.{◌≡◌, ◌≤◌, [], ◌∷◌, inl, inr, refl, arith}
use Rattle.std.proofs.lemmas.List.Elements.{All-head, All-cons, All-nil}
use Rattle.pipes_feed.specs.declared.reason.Reason.TheVariants as reason
use Rattle.pipes_feed.specs.declared.reason.RowWhy.TheVariants.{Falling}
use Rattle.pipes_feed.specs.Items.{Items}
use Rattle.pipes_query.specs.declared.script.Mode.TheVariants.{Inline, Threaded}
use Rattle.pipes_query.specs.declared.script.Command.TheVariants.{Feed}
use Rattle.pipes_course.specs.Endings.{Whole, Stopped, Cut}
use Rattle.pipes_course.specs.Taking.{met, AreTaken}
use Rattle.pipes_rows_course.proofs.Setting.{file_a, row}
use Rattle.pipes_rows_course.proofs.Runs.{file-falling, two-files}

-- all arrivals are taken, whatever the script
taken-all : AreTaken Inline (Feed 0 1 ∷ []) (met Whole (3 ∷ []) (file_a ∷ [])) Whole (3 ∷ [])
taken-all = record {
  ends = All-cons (λ (a : Items). a.end ≡ reason.AtEnd) file_a [] refl
      (All-nil (λ (a : Items). a.end ≡ reason.AtEnd));
  taken_is = refl;
}

-- a read that fails after one arrival
taken-failed : AreTaken Inline (Feed 0 2 ∷ [])
    (met (Stopped 0 reason.Failed) (1 ∷ []) (file_a ∷ [])) (Stopped 0 reason.Failed) (1 ∷ [])
taken-failed = (
  record {
    of_source = record { list = row 0 5 ∷ []; end = reason.Failed };
    found = refl;
    ends = refl;
    fault = refl;
    taken_is = refl;
  },
  record { ending_is = refl; taken_is = refl },
)

-- of two sources of a threaded run the taken arrivals of the other one are free, and those of the
-- one with the fault are not
taken-threaded : AreTaken Threaded [] two-files (Stopped 0 (reason.Row 4 (Falling 2 9)))
    (2 ∷ 1 ∷ [])
taken-threaded = (
  record {
    of_source =
        record { list = row 0 1 ∷ row 9 2 ∷ []; end = reason.Row 4 (Falling 2 9) };
    found = refl;
    ends = refl;
    fault = refl;
    taken_is = refl;
  },
  (omega arith, (omega arith, tt)),
)

short-threaded : ¬ (AreTaken Threaded [] two-files (Stopped 0 (reason.Row 4 (Falling 2 9)))
    (1 ∷ 1 ∷ []))
short-threaded p = let found = p.0.found in let counts = p.0.taken_is in cc (found, counts)

-- nothing is taken because a source has a fault further on
taken-none : ¬ (AreTaken Inline []
    (met (Stopped 0 file-falling.end) (0 ∷ []) (file-falling ∷ [])) (Stopped 0 file-falling.end)
    (0 ∷ []))
taken-none p = let counts : 0 ∷ [] ≡ 2 ∷ [] = p.1.taken_is in cc (counts)

-- a run ends well over a source with a fault
whole-none : ¬ (AreTaken Inline [] (met Whole (2 ∷ []) (file-falling ∷ [])) Whole (2 ∷ []))
whole-none p =
    let end : file-falling.end ≡ reason.AtEnd =
    All-head (λ (a : Items). a.end ≡ reason.AtEnd) file-falling [] p.ends in
    cc (end)

-- a run that was cut takes no more than there is
cut-more : ¬ (AreTaken Inline [] (met Cut (4 ∷ []) (file_a ∷ [])) Cut (4 ∷ []))
cut-more (inl nothing) = cc (nothing)
cut-more (inr fronts) = let few : 4 ≤ 3 = fronts.0 in omega (arith, few)
