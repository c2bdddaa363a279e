-- No result is cut in two at the split of a migration.
use Rattle.std.specs.Prelude.{◌≡◌, ℕ, List, Contains}
use Rattle.pipes_stream.specs.declared.Elem.{Elem}
use Rattle.pipes_output.specs.declared.entry.Entry.{Entry}
use Rattle.pipes_output.specs.declared.entry.Entry.TheVariants.{Accepted}
use Rattle.pipes_semantics.specs.Written.{results}

-- no tuple has both an element that ends at the split and one that starts there
abbrev pub CoalescedAt : List Elem → ℕ → Type 0
CoalescedAt elems split =
    (x y : Elem) → Contains elems x → Contains elems y → x.tuple ≡ y.tuple → x.span.end ≡ split
    → y.span.start ≡ split → ⊥

-- at each split that was accepted
abbrev pub Coalesced : List Entry → Type 0
Coalesced entries =
    (number split : ℕ) → Contains entries (Accepted number split)
    → CoalescedAt (results entries) split
