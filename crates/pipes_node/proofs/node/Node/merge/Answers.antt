use Rattle.std.proofs.Common.{refl}
use Rattle.pipes_node.proofs.NodeSteps.{node-merges, on_ok-map}
use Rattle.pipes_node.proofs.Stood.{owes-stood}
use Rattle.pipes_node.proofs.node.Node.merge.Goals as goal

pub returns-clause-stands : goal.returns-clause-stands
returns-clause-stands c =
    on_ok-map c.move_merged.result _ _
    (λ merged s low. node-merges c.args.self.now _ c.args.level c.move_merged.new.level refl refl
    refl low merged c.move_merged.ensures.none s)
    c.move_merged.ensures.merged

pub returns-clause-stood : goal.returns-clause-stood
returns-clause-stood c = λ s. owes-stood c.args.self.now _ refl refl refl s
