-- A name that is written part by part, each up to the next byte that is escaped.
use Rattle.std.proofs.Common.{◌≡◌, List, ◌++◌, ℕ, Option, sym, ◌∙◌, ap, subst, append_assoc}
use Rattle.std.specs.Io.KnownBytes.{Appends}
use Rattle.std.proofs.KnownBytes.{Appends-trans}
use Rattle.pipes_tuple.specs.Texts.{escaped}
use Rattle.pipes_buffer.specs.Pieces.{AppendsPrefix}
use Rattle.pipes_buffer.proofs.Appended.{prefix_as, prefix_in, prefix_after}

abbrev pub IsSaid : Option (List ℕ) → Option (List ℕ) → List ℕ → List ℕ → Type 0
IsSaid before now name rest = (done : List ℕ) × Appends before now done
    × (escaped name ≡ done ++ escaped rest)

split_said : (done first second rest name others : List ℕ) → escaped name ≡ done ++ escaped rest
    → escaped rest ≡ first ++ second ++ escaped others → escaped name ≡ (done ++ (first ++ second))
    ++ escaped others
split_said done first second rest name others e f = e ∙ ap (λ (l : List ℕ). done ++ l) f
    ∙ sym (append_assoc done (first ++ second) (escaped others))

pub said-more : (before mid now : Option (List ℕ)) (name rest others first second : List ℕ)
    → IsSaid before mid name rest → escaped rest ≡ first ++ second ++ escaped others
    → Appends mid now (first ++ second) → IsSaid before now name others
said-more before mid now name rest others first second said split more = (
  said.0 ++ (first ++ second),
  Appends-trans before mid now said.0 (first ++ second) said.1 more,
  split_said said.0 first second rest name others said.2 split,
)

pub said-prefix : (before mid now : Option (List ℕ)) (name rest others first second : List ℕ)
    → IsSaid before mid name rest → escaped rest ≡ first ++ second ++ escaped others
    → AppendsPrefix mid now (first ++ second) → AppendsPrefix before now (escaped name)
said-prefix before mid now name rest others first second said split more =
    prefix_as before now _ (escaped name)
    (sym (split_said said.0 first second rest name others said.2 split))
    (prefix_in before now (said.0 ++ (first ++ second)) (escaped others)
    (prefix_after before mid now said.0 (first ++ second) said.1 more))

pub said-end : (before mid now : Option (List ℕ)) (name rest : List ℕ) → IsSaid before mid name rest
    → escaped rest ≡ rest → Appends mid now rest → Appends before now (escaped name)
said-end before mid now name rest said plain more = subst (λ (l : List ℕ). Appends before now l)
    (sym (said.2 ∙ ap (λ (l : List ℕ). said.0 ++ l) plain)) (Appends-trans before mid now said.0
    rest said.1 more)

pub said-end-prefix : (before mid now : Option (List ℕ)) (name rest : List ℕ)
    → IsSaid before mid name rest → escaped rest ≡ rest → AppendsPrefix mid now rest
    → AppendsPrefix before now (escaped name)
said-end-prefix before mid now name rest said plain more = prefix_as before now (said.0 ++ rest)
    (escaped name) (sym (said.2 ∙ ap (λ (l : List ℕ). said.0 ++ l) plain))
    (prefix_after before mid now said.0 rest said.1 more)
