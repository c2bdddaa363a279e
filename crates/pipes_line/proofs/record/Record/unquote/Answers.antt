use Rattle.std.proofs.Common.{rules, arith, ◌≢◌}
use Rattle.pipes_line.specs.declared.quoted.Walk.TheVariants as walk
use Rattle.pipes_line.proofs.Walking.{reach_more, reach_end}
use Rattle.pipes_line.proofs.record.Record.unquote.Goals as goal

pub loop-byte-preserved : goal.loop-byte-preserved
loop-byte-preserved c = record {
  is_copied = c.loop-byte.invariant.is_copied;
  begun = λ e. absurd (c.in-Some.ensures.begun e);
  known = reach_more c.args.line.now c.loop-byte.byte-index _ c.loop-byte.walk c.in-Some.next
      c.in-Some.fate c.loop-byte.self.copied c.act.new.copied (search rules) (search rules)
      c.in-Some.ensures.machine c.in_ok-act.ensures.closed c.in_ok-act.ensures.last
      c.loop-byte.invariant.known;
}

pub returns : goal.returns
returns c _ =
    let begun : c.loop-byte.walk ≢ walk.Record = λ e. let at_start = c.loop-byte.invariant.begun
    e in omega arith in
    rw (c.loop-byte.invariant.is_copied, c.in_ok-close.ensures)
    (reach_end c.args.line.now c.loop-byte.byte-index c.loop-byte.walk c.loop-byte.self.copied
    c.requires.plain (search rules) begun c.loop-byte.invariant.known)
