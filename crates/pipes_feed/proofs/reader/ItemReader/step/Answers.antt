use Rattle.std.proofs.Common.{rules, ◌≡◌, sym, subst}
use Rattle.pipes_feed.specs.Ahead.{ArePassed}
use Rattle.pipes_feed.proofs.WaitingLines.{passed_line, none_whole}
use Rattle.pipes_feed.proofs.LinesAhead.{took_line, took_none, took_prefix}
use Rattle.pipes_feed.proofs.reader.ItemReader.step.Goals as goal

pub returns-in-Line-clause-steps : goal.returns-in-Line-clause-steps
returns-in-Line-clause-steps g c =
    let i = c.self.inside in
    let was : record {
      kinds = i.schema;
      slack = i.slack;
      reached = i.place;
      unread =
          i.lines.unread;
      ended = i.ended;
    } ≡ c.args.self.now = search rules in
    let steps = took_line i.schema i.slack i.place c.take_line.new.place _ _ _ c.in-Line.ended _
    c.take_line.result c.in-Line.ensures.reads
    (rw c.line.ensures at c.take_line.ensures.steps) in
    rw (← was) steps

pub returns-in-End-clause-steps : goal.returns-in-End-clause-steps
returns-in-End-clause-steps g c =
    let i = c.self.inside in
    let was : record {
      kinds = i.schema;
      slack = i.slack;
      reached = i.place;
      unread =
          i.lines.unread;
      ended = i.ended;
    } ≡ c.args.self.now = search rules in
    rw (← was, c.end_after.ensures) (took_none i.schema i.slack i.place _ _
    c.in-End.ensures.reads.0)

pub returns-in-Long-clause-steps : goal.returns-in-Long-clause-steps
returns-in-Long-clause-steps g c =
    let i = c.self.inside in
    let was : record {
      kinds = i.schema;
      slack = i.slack;
      reached = i.place;
      unread =
          i.lines.unread;
      ended = i.ended;
    } ≡ c.args.self.now = search rules in
    rw (← was, c.lines.ensures.value) (took_prefix i.schema i.slack i.place _ _ _ _ _
    c.in-Long.ensures.reads (search rules))

pub returns-in-Line-clause-passed : goal.returns-in-Line-clause-passed
returns-in-Line-clause-passed g c none rest =
    let i = c.self.inside in
    let was : record {
      kinds = i.schema;
      slack = i.slack;
      reached = i.place;
      unread =
          i.lines.unread;
      ended = i.ended;
    } ≡ c.args.self.now = search rules in
    rw (← was) (passed_line i.schema i.slack i.place c.take_line.new.place i.lines.unread _ _
    c.in-Line.ended c.in-Line.ensures.waiting c.in-Line.ensures.reads.within
    (rw c.line.ensures at c.take_line.ensures.passed none) rest)

pub returns-in-Failed-clause-waiting : goal.returns-in-Failed-clause-waiting
returns-in-Failed-clause-waiting g c e =
    let i = c.self.inside in
    let was : record {
      kinds = i.schema;
      slack = i.slack;
      reached = i.place;
      unread =
          i.lines.unread;
      ended = i.ended;
    } ≡ c.args.self.now = search rules in
    rw (← was) (subst (ArePassed i.schema i.slack i.place)
    (sym (none_whole i.lines.unread c.in-Failed.ensures.waiting)) tt)
