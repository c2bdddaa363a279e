-- The longest run of bytes that pass a test.
use Rattle.std.proofs.Common.{◌≡◌, ℕ, ◌+◌, ◌≤◌, Bool, true, false, cond, List, [], ◌∷◌, length}
use Rattle.std.proofs.Common.{take, drop, refl, one-add}
use Rattle.std.specs.List.{list_all, prefix_len}
use Rattle.std.proofs.lemmas.List.Sums.{prefix_len-le-length}

-- nothing that passes stands here
abbrev pub Stopped : (ℕ → Bool) → List ℕ → Type 0
Stopped test [] = Unit {0}
Stopped test (b ∷ bs) = test b ≡ false

passes_by : (test : ℕ → Bool) (b : ℕ) (bs : List ℕ) (t : Bool) → test b ≡ t
    → list_all test (take (prefix_len test bs) bs) ≡ true → list_all test
    (take (cond t (1 + prefix_len test bs) 0) (b ∷ bs)) ≡ true
passes_by test b bs true e h = simp (one-add, e, h)
passes_by test b bs false e h = refl

pub run_passes : (test : ℕ → Bool) (bs : List ℕ) → list_all test
    (take (prefix_len test bs) bs) ≡ true
run_passes test [] = refl
run_passes test (b ∷ bs) = passes_by test b bs (test b) refl (run_passes test bs)

stops_by : (test : ℕ → Bool) (b : ℕ) (bs : List ℕ) (t : Bool) → test b ≡ t
    → Stopped test (drop (prefix_len test bs) bs) → Stopped test
    (drop (cond t (1 + prefix_len test bs) 0) (b ∷ bs))
stops_by test b bs true e h = simp one-add h
stops_by test b bs false e h = e

pub run_stops : (test : ℕ → Bool) (bs : List ℕ) → Stopped test (drop (prefix_len test bs) bs)
run_stops test [] = tt
run_stops test (b ∷ bs) = stops_by test b bs (test b) refl (run_stops test bs)

pub run_bound : (test : ℕ → Bool) (bs : List ℕ) (n : ℕ) → n ≡ prefix_len test bs → n ≤ length bs
run_bound test bs n e = rw e (prefix_len-le-length test bs)
