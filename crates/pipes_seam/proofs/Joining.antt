-- Both tops were given to a merge.
use Rattle.std.proofs.Common.{◌≡◌, ℕ, List, [], ◌∷◌, ◌++◌, sym, ◌∙◌, ap, subst, append_assoc}
use Rattle.pipes_stream.specs.declared.message.Message.{Message}
use Rattle.pipes_stream.specs.declared.message.Message.TheVariants as message
use Rattle.pipes_stream.specs.Lists.{elements}
use Rattle.pipes_stream.specs.Weights.{weigh}
use Rattle.pipes_coalesce.specs.Tests.{starts_below}
use Rattle.pipes_coalesce.specs.Stands.{CoalesceStands}
use Rattle.pipes_coalesce.specs.declared.merge.Coalesce.{Coalesce}
use Rattle.pipes_seam.specs.declared.seam.Seam.{Seam}
use Rattle.pipes_seam.specs.Seams.{GivesOld, GivesFresh, Joins, only_elements, told, level_of}

pub joined : (c d : Seam) (mid : Coalesce)
    (olds fresh none first sent before kept next : List Message) (level : ℕ)
    → GivesOld c.merge mid olds none first → none ≡ []
    → GivesFresh mid d.merge fresh first sent → d.first ≡ c.first
    → kept ≡ before ++ only_elements sent → level ≡ level_of d
    → next ≡ kept ++ message.Beat level ∷ [] → Joins c d olds fresh before next
joined c d mid olds fresh none first sent before kept next level g empty f same keeps is put =
    let all : sent ≡ g.more ++ f.more = f.appended
    ∙ ap (λ (l : List Message). l ++ f.more)
    (g.appended ∙ ap (λ (l : List Message). l ++ g.more) empty) in
    record {
      split = f.split ∙ g.split;
      first = same;
      more = g.more ++ f.more;
      appended = put ∙ ap (λ (l : List Message). l ++ message.Beat level ∷ []) keeps
          ∙ append_assoc before (only_elements sent) (message.Beat level ∷ [])
          ∙ ap (λ (n : ℕ). before ++ told (elements sent) n) is
          ∙ ap (λ (l : List Message). before ++ told (elements l) (level_of d)) all;
      stands = λ old_top fresh_top earlier s old_valid old_low fresh_valid fresh_high.
          let one = g.stands old_top fresh_top earlier s old_valid old_low in
          let high : weigh (starts_below mid.split) (elements fresh) ≡ 0 =
          subst (λ (t : ℕ). weigh (starts_below t) (elements fresh) ≡ 0) (sym g.split)
          fresh_high in
          let two = f.stands (old_top ++ olds) fresh_top (earlier ++ g.more) one fresh_valid
          high in
          subst (CoalesceStands d.merge (old_top ++ olds) (fresh_top ++ fresh))
          (append_assoc earlier g.more f.more) two;
    }
