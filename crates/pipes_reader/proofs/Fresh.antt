-- There is always another name.
use Rattle.std.proofs.Common.{◌≡◌, ℕ, ◌+◌, ◌<◌, ◌≤◌, Bool, true, false, ◌||◌, List, [], ◌∷◌, ◌++◌}
use Rattle.std.proofs.Common.{length, refl, ap, ◌∙◌, arith, length-append}
use Rattle.std.specs.Str.{bytes_eq}
use Rattle.std.specs.Bool.{Decides}
use Rattle.std.proofs.lemmas.Slice.Eq.{bytes_eq-Decides}
use Rattle.pipes_reader.specs.Names.{is_taken}

-- longer than each name
longer : List (List ℕ) → List ℕ
longer [] = []
longer (name ∷ names) = 97 ∷ (name ++ longer names)

differ : (word name : List ℕ) (b : Bool) → Decides b (word ≡ name) → length name < length word
    → b ≡ false
differ word name false h lt = refl
differ word name true h lt = absurd (omega (arith, ap length (same h)))
  where
    same : Decides true (word ≡ name) → word ≡ name
    same h = h.0 refl

past : (names : List (List ℕ)) (word : List ℕ) → length (longer names) ≤ length word
    → is_taken names word ≡ false
unfolding longer
past [] word le = refl
past (name ∷ names) word le =
    let first : bytes_eq word name ≡ false =
    differ word name (bytes_eq word name) (bytes_eq-Decides word name)
    (omega (arith, length-append name (longer names))) in
    let others : is_taken names word ≡ false =
    past names word (omega (arith, length-append name (longer names))) in
    rw (first, others) refl

pub fresh : (names : List (List ℕ)) → (word : List ℕ) × (is_taken names word ≡ false)
fresh names = (longer names, past names (longer names) (omega arith))
