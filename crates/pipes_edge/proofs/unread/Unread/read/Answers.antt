use Rattle.std.proofs.Common.{◌≡◌, ◌∙◌, ◌-◌, List, ℕ, length, take, drop, arith, ap, sym}
use Rattle.std.proofs.Common.{length-drop, length-take}
use Rattle.std.proofs.lemmas.List.{take_all}
use Rattle.pipes_edge.proofs.Copied.{drop-copied}
use Rattle.pipes_edge.proofs.unread.Unread.read.Goals as goal

pub returns-clause-bytes : goal.returns-clause-bytes
returns-clause-bytes c =
    let p = c.self.inside.place in
    let m = c.min-count.result in
    let xs = c.self.inside.bytes.items in
    let d = c.deref.result.now in
    let prefix = c.copy_from_slice.new.self in
    let whole : take (length d - p) (drop p d) ≡ drop p xs = take_all (length d - p) (drop p d)
    (omega (arith, length-drop p d)) ∙ ap (λ (l : List ℕ). drop p l) c.deref.ensures.value in
    let moved : prefix ≡ take m (drop p xs) = c.copy_from_slice.ensures.after
    ∙ ap (λ (l : List ℕ). take m l) whole in
    let len : length prefix ≡ m = omega (
      arith,
      c.copy_from_slice.ensures.len,
      length-take m c.args.buf.now,
    ) in
    sym c.self.view_is ∙ drop-copied p m xs c.args.buf.now prefix moved len
