-- Parts of a buffer.
use Rattle.std.proofs.Common.{◌≡◌, ℕ, ◌+◌, ◌-◌, ◌≤◌, List, take, drop, ap, ◌∙◌, sym, arith}
use Rattle.std.proofs.lemmas.List.{take-take, drop-take, drop-drop}

-- the bytes between two places
abbrev pub between : ℕ → ℕ → List ℕ → List ℕ
between from to bytes = take (to - from) (drop from bytes)

pub prefix : (at filled count : ℕ) (bytes : List ℕ) → at + count ≤ filled
    → between at (at + count) bytes ≡ take count (between at filled bytes)
prefix at filled count bytes h =
    let size : at + count - at ≡ count = omega arith in
    rw size (sym (take-take count (filled - at) (drop at bytes) (omega arith)))

pub back : (at filled count : ℕ) (bytes : List ℕ) → at + count ≤ filled
    → between (at + count) filled bytes ≡ drop count (between at filled bytes)
back at filled count bytes h =
    let size : filled - at ≡ count + (filled - (at + count)) = omega arith in
    rw size (sym (drop-take count (filled - (at + count)) (drop at bytes)
    ∙ ap (take (filled - (at + count))) (drop-drop count at bytes)))
