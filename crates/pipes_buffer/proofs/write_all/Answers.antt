use Rattle.std.proofs.Common.{rules, ◌≤◌, ◌+◌, length}
use Rattle.pipes_buffer.proofs.Appended.{appends_piece}
use Rattle.pipes_buffer.proofs.write_all.Goals as goal

pub pieces-preserved : goal.pieces-preserved
pieces-preserved g c =
    let within : c.pieces.place + c.in_ok-place.field-0 ≤ length c.args.bytes.now = search rules in
    record {
      within = within;
      later = search rules;
      written = appends_piece _ _ _ c.pieces.place c.in_ok-place.field-0 c.args.bytes.now
          c.pieces.invariant.within within c.pieces.invariant.written c.in_ok-place.ensures.bytes;
    }
