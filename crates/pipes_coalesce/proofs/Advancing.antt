-- Old elements one after another.
use Rattle.std.proofs.Common.{◌≡◌, ◌≢◌, ℕ, ◌≤◌, ◌<◌, List, [], ◌∷◌, ◌++◌, refl, sym, ap, ◌∙◌, subst}
use Rattle.std.proofs.Common.{arith}
use Rattle.pipes_stream.specs.declared.Elem.{Elem}
use Rattle.pipes_stream.specs.declared.message.Message.{Message}
use Rattle.pipes_coalesce.specs.Stands.{Parts, Flows, Stays, Moves, SameBut, CanPass, IsNext}
use Rattle.pipes_coalesce.specs.declared.merge.Coalesce.{Coalesce}
use Rattle.pipes_coalesce.proofs.Moving.{moves-from, moves-then}

-- the next old element passes after those before it
pub next-then : (c d e f : Coalesce) (x : Elem) (before mid now : List Message)
    → Moves c d c.olds d.olds before mid → IsNext d e x
    → Moves e f (x ∷ e.olds) f.olds mid now → Moves c f c.olds f.olds before now
next-then c d e f x before mid now m next p =
    let q = moves-from d e f (x ∷ e.olds) f.olds mid now next.same p in
    moves-then c d f c.olds d.olds f.olds before mid now m
    (subst (λ (w : List Elem). Moves d f w f.olds mid now) (sym next.olds) q)
