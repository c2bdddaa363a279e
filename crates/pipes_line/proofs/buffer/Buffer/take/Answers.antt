use Rattle.std.proofs.Common.{rules, arith, ◌≡◌, ◌+◌, ◌≤◌, ap, take, drop, length-take, length-drop}
use Rattle.std.proofs.Common.{◌∙◌}
use Rattle.pipes_line.proofs.Slices.{between, prefix, back}
use Rattle.pipes_line.proofs.buffer.Buffer.take.Goals as goal

pub returns : goal.returns
returns c =
    let b = c.self.inside in
    let n = c.args.count in
    let unread : between b.at b.filled b.bytes.items ≡ c.args.self.now.unread = search rules in
    let within : b.at + n ≤ b.filled = search (rules, arith, length-take, length-drop) in
    let taken = prefix b.at b.filled n b.bytes.items within ∙ ap (take n) unread in
    let left = back b.at b.filled n b.bytes.items within ∙ ap (drop n) unread in
    λ k. record { taken = taken k; unread = left k }
