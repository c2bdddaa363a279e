-- What a read copies out of the bytes that are left.
use Rattle.std.proofs.Common.{◌≡◌, ℕ, ◌+◌, ◌++◌, List, length, take, drop, sym, ◌∙◌, ap}
use Rattle.std.proofs.lemmas.List.{take-append-drop, take_at, drop-drop}

-- what was left is what stands at the start of the buffer now, and what is left after it
pub drop-copied : (p m : ℕ) (xs buf prefix : List ℕ) → prefix ≡ take m (drop p xs)
    → length prefix ≡ m
    → drop p xs ≡ take m (prefix ++ drop m buf) ++ drop (p + m) xs
drop-copied p m xs buf prefix e len =
    sym (take-append-drop m (drop p xs))
    ∙ ap (λ (l : List ℕ). l ++ drop m (drop p xs)) (sym e ∙ sym (take_at prefix (drop m buf) m len))
    ∙ ap (λ (l : List ℕ). take m (prefix ++ drop m buf) ++ l) (drop-drop m p xs)
