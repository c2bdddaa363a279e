use Rattle.pipes_node.specs.Operators.{StandsFor}
use Rattle.pipes_node.proofs.operator.PlanOperatorOperator.beat_now.Goals as goal

pub returns-in-Filter : goal.returns-in-Filter
returns-in-Filter c = λ taken sent s. c.beat_now.ensures taken sent (rw c.in-Filter.is at s)

pub returns-in-Map : goal.returns-in-Map
returns-in-Map c = λ taken sent s. c.beat_now-in-Map.ensures taken sent (rw c.in-Map.is at s)

pub returns-in-Union : goal.returns-in-Union
returns-in-Union c = λ taken sent s. c.beat_now-in-Union.ensures taken sent (rw c.in-Union.is at s)

pub returns-in-Join : goal.returns-in-Join
returns-in-Join c = λ taken sent s. c.beat_now-in-Join.ensures taken sent (rw c.in-Join.is at s)

pub returns-in-Distinct : goal.returns-in-Distinct
returns-in-Distinct c = λ taken sent s.
    c.beat_now-in-Distinct.ensures taken sent (rw c.in-Distinct.is at s)

pub returns-in-Group : goal.returns-in-Group
returns-in-Group c = λ taken sent s. c.beat_now-in-Group.ensures taken sent (rw c.in-Group.is at s)

pub returns-in-Minus : goal.returns-in-Minus
returns-in-Minus c = λ taken sent s. c.beat_now-in-Minus.ensures taken sent (rw c.in-Minus.is at s)
