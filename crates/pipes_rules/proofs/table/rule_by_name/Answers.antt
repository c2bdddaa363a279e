use Rattle.pipes_rules.proofs.TableLaws.{some_named, none_named}
use Rattle.pipes_rules.proofs.table.rule_by_name.Goals as goal

pub returns-in-Some-clause-value : goal.returns-in-Some-clause-value
returns-in-Some-clause-value c = some_named c.args.name.now c.rule_rows-rows.result.now
    c.rule_rows-rows.ensures.rules c.rule_rows-rows.ensures.named c.in-Some.place c.rule_at.result
    c.in-Some.ensures c.rule_at.ensures

pub returns-in-None-clause-value : goal.returns-in-None-clause-value
returns-in-None-clause-value c = none_named c.args.name.now c.rule_rows-rows.result.now
    c.rule_rows-rows.ensures.rules c.rule_rows-rows.ensures.named c.in-None.ensures
