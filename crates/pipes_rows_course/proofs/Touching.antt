-- Results that touch at a split.
use Rattle.std.proofs.Common.{◌≡◌, [], ◌∷◌, refl, arith}
use Rattle.std.proofs.lemmas.List.Elements.{All-contains, All-cons, All-nil}
use Rattle.pipes_stream.specs.declared.Elem.{Elem}
use Rattle.pipes_output.specs.declared.entry.Entry.TheVariants.{Accepted, Idle, Over, Ended}
use Rattle.pipes_semantics.specs.Written.{results}
use Rattle.pipes_told.specs.Coalesced.{CoalescedAt, Coalesced}
use Rattle.pipes_rows_course.proofs.Setting.{found, elem}

abbrev EndsElsewhere : Elem → Type 0
EndsElsewhere e = e.span.end ≡ 1 → ⊥

coalesced-first : CoalescedAt
    (results (Accepted 1 1 ∷ found 0 10 5 ∷ found 5 15 6 ∷ Idle 1 ∷ Over 1 ∷ Ended ∷ [])) 1
coalesced-first x y has other same end start =
    All-contains EndsElsewhere (elem 0 10 5 ∷ elem 5 15 6 ∷ []) x
    (All-cons EndsElsewhere (elem 0 10 5) (elem 5 15 6 ∷ []) (λ is. omega (arith, is))
    (All-cons EndsElsewhere (elem 5 15 6) [] (λ is. omega (arith, is)) (All-nil EndsElsewhere))) has
    end

-- the element at 0 was cut at 1 and not merged
unmerged : ¬ (Coalesced (Accepted 1 1 ∷ found 0 1 5 ∷ found 1 10 5 ∷ found 5 15 6 ∷ Idle 1 ∷ Over 1
    ∷ Ended ∷ []))
unmerged all =
    all 1 1 (0, omega arith, refl) (elem 0 1 5) (elem 1 10 5) (0, omega arith, refl)
    (1, omega arith, refl) refl refl refl
