use Rattle.std.proofs.Common.{rules, ◌≡◌, ◌++◌, ◌∷◌, [], List, refl, sym, ◌∙◌, ap, subst}
use Rattle.pipes_stream.specs.declared.message.Message.{Message}
use Rattle.pipes_node.specs.Merging.{MergedOne}
use Rattle.pipes_node.proofs.Merges.{merged-push, merged-needless, merged-set, set-kept}
use Rattle.pipes_node.proofs.merging.append_merged.Goals as goal
use Rattle.pipes_node.proofs.merging.append_merged.Goals.{in-Some+in_default-last}
use Rattle.pipes_node.proofs.merging.append_merged.Goals.{in_default-back_mut}

pub returns-then-at-level-clause-merged : goal.returns-then-at-level-clause-merged
returns-then-at-level-clause-merged c =
    subst (λ (m : Message). MergedOne c.args.pending.now.items c.args.level.now m
    c.args.pending.now.items c.args.level.now) (sym c.in-Beat.is)
    (merged-needless c.args.pending.now.items c.in-Beat.at c.args.level.now c.args.pending.now.items
    c.if-at-level.true refl)

pub returns-in-Beat-last-clause-merged : goal.returns-in-Beat-last-clause-merged
returns-in-Beat-last-clause-merged c =
    rw c.heartbeat-next.ensures
    (merged-set c.args.pending.now.items _ c.in-Beat-last.field-0 c.args.level.now
    c.in-Some.last.now c.args.message (search rules) (search rules) c.in-Some.ensures.value
    c.in-Beat-last.is)

pub returns-clause-merged : goal.returns-clause-merged
returns-clause-merged c =
    let same : c.match-back_mut.pending.items ≡ c.args.pending.now.items =
    elim c.match-back_mut.branch [
      | in-Some+in_default-last w ↦ rw w.pending-is
          (set-kept c.args.pending.now.items _ w.in-Some.last.now (search rules) (search rules)
          w.in-Some.ensures.value)
      | in_default-back_mut w ↦ rw w.pending-is refl
    ] in
    rw c.heartbeat-next.ensures
    (merged-push c.args.pending.now.items c.args.level.now c.args.message c.push_back.new.self.items
    (c.in_ok-push_back.ensures.items ∙ ap (λ (x : List Message). x ++ c.args.message ∷ [])
    same))
