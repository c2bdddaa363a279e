-- What the output takes of a seam.
use Rattle.std.proofs.Common.{◌≡◌, ℕ, ◌≤◌, max, false, List, [], ◌∷◌, ◌++◌, map, refl, sym, ◌∙◌, ap}
use Rattle.std.proofs.Common.{arith, append_assoc, append-nil}
use Rattle.std.proofs.lemmas.List.{map-append}
use Rattle.pipes_time.specs.Interval.{closed}
use Rattle.pipes_stream.specs.declared.Elem.{Elem}
use Rattle.pipes_stream.specs.declared.message.Message.{Message}
use Rattle.pipes_stream.specs.declared.message.Message.TheVariants as message
use Rattle.pipes_stream.specs.Progress.{Progress}
use Rattle.pipes_stream.specs.Lists.{run, after, ValidFrom, elements}
use Rattle.pipes_stream.specs.Weights.{weigh}
use Rattle.pipes_stream.proofs.Messages.{run-append, elements-append, elements-map, after-rises}
use Rattle.pipes_coalesce.specs.Tests.{starts_below}
use Rattle.pipes_coalesce.proofs.Touching.{lt-zero}
use Rattle.pipes_seam.specs.Seams.{told, only_elements}

pub told-elements : (es : List Elem) (level : ℕ) → elements (told es level) ≡ es
told-elements es level = elements-append (map message.Elem es) (message.Beat level ∷ [])
    ∙ append-nil (elements (map message.Elem es)) ∙ elements-map es

pub told-level : (p : Progress) (es : List Elem) (level : ℕ)
    → (run p (told es level)).beat ≡ level
told-level p es level = ap (λ (q : Progress). q.beat)
    (run-append p (map message.Elem es) (message.Beat level ∷ []))

-- what the merge sends may be told, from no further than the beginning and its heartbeat
pub told-valid : (p : Progress) (m first : ℕ) (ms : List Message) → ValidFrom p ms
    → p.beat ≤ closed → first ≤ closed → m ≤ max first p.beat
    → weigh (starts_below first) (elements ms) ≡ 0
    → ValidFrom (record { beat = m; ended = false })
    (told (elements ms) (max first (run p ms).beat))
told-valid p m first [] v pc fc low none = ((refl, omega (arith, low), omega (arith, pc, fc)), tt)
told-valid p m first (message.Elem e ∷ ms) v pc fc low none =
    let up : first ≤ e.span.start = lt-zero e.span.start first (omega (arith, none)) in
    let follows = v.0 in
    let rises = after-rises p (message.Elem e) v.0 pc in (
      (refl, omega (arith, low, up, follows.1), follows.2),
      told-valid (after p (message.Elem e)) e.span.start first ms v.1 rises.1 fc
          (omega arith) (omega (arith, none)),
    )
told-valid p m first (message.Beat at ∷ ms) v pc fc low none =
    let rises = after-rises p (message.Beat at) v.0 pc in
    told-valid (after p (message.Beat at)) m first ms v.1 rises.1 fc
    (omega (arith, low, rises.0)) none
told-valid p m first (message.End ∷ ms) v pc fc low none =
    told-valid (after p message.End) m first ms v.1 (omega arith) fc (omega (arith, low, pc)) none

-- one message more
pub kept-more : (before now next ms : List Message) (m : Message)
    → now ≡ before ++ only_elements ms → next ≡ now ++ only_elements (m ∷ [])
    → next ≡ before ++ only_elements (ms ++ m ∷ [])
kept-more before now next ms m e f =
    f ∙ ap (λ (l : List Message). l ++ map message.Elem (elements (m ∷ []))) e
    ∙ append_assoc before (map message.Elem (elements ms)) (map message.Elem (elements (m ∷ [])))
    ∙ ap (λ (l : List Message). before ++ l)
    (sym (map-append message.Elem (elements ms) (elements (m ∷ []))))
    ∙ ap (λ (es : List Elem). before ++ map message.Elem es) (sym (elements-append ms (m ∷ [])))
