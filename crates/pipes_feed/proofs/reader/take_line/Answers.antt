use Rattle.std.proofs.Common.{rules, arith}
use Rattle.pipes_feed.specs.declared.line.Verdict.TheVariants.{Pass, Give}
use Rattle.pipes_feed.proofs.Laws.{found_allows, passes, follows}
use Rattle.pipes_feed.proofs.reader.take_line.Goals as goal

pub pass-requires-clause-short : goal.pass-requires-clause-short
pass-requires-clause-short c =
    let allows = found_allows c.args.schema.now c.args.slack c.args.place.now
    (record { text = c.args.text.now; ended = c.args.ended }) Pass (search rules) in
    rw c.size_of-size.ensures.value allows

pub give-requires-clause-short : goal.give-requires-clause-short
give-requires-clause-short c =
    let allows = found_allows c.args.schema.now c.args.slack c.args.place.now
    (record { text = c.args.text.now; ended = c.args.ended }) (Give c.in-Give.item)
    (search rules) in
    rw c.size_of-size.ensures.value allows.0

pub give-requires-clause-few : goal.give-requires-clause-few
give-requires-clause-few c =
    let allows = found_allows c.args.schema.now c.args.slack c.args.place.now
    (record { text = c.args.text.now; ended = c.args.ended }) (Give c.in-Give.item)
    (search rules) in
    let bound = c.lines-line.ensures.few in
    let other = allows.1 in
    omega arith

pub give-requires-clause-in_range : goal.give-requires-clause-in_range
give-requires-clause-in_range c =
    let allows = found_allows c.args.schema.now c.args.slack c.args.place.now
    (record { text = c.args.text.now; ended = c.args.ended }) (Give c.in-Give.item)
    (search rules) in
    allows.2.in_range

pub returns-in-Pass-clause-passes : goal.returns-in-Pass-clause-passes
returns-in-Pass-clause-passes c =
    let allows = found_allows c.args.schema.now c.args.slack c.args.place.now
    (record { text = c.args.text.now; ended = c.args.ended }) Pass (search rules) in
    passes c.args.schema.now c.args.slack c.args.place.now c.pass.new.self c.size_of-size.result
    (search rules) (rw c.size_of-size.ensures.value allows) (search rules)

pub returns-in-Give-clause-follows : goal.returns-in-Give-clause-follows
returns-in-Give-clause-follows c =
    let allows = found_allows c.args.schema.now c.args.slack c.args.place.now
    (record { text = c.args.text.now; ended = c.args.ended }) (Give c.in-Give.item)
    (search rules) in
    let size = c.size_of-size.ensures.value in
    follows c.args.schema.now c.args.slack c.args.place.now c.give.new.self c.size_of-size.result
    c.in-Give.item (search rules) (rw size allows) c.lines-line.ensures.few (search rules)
