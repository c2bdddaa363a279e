use Rattle.std.proofs.Common.{rules, arith, ◌≡◌, ◌+◌, ◌≤◌, ap, drop, length-take, length-drop, ◌∙◌}
use Rattle.pipes_line.proofs.Slices.{between, back}
use Rattle.pipes_line.proofs.buffer.Buffer.skip.Goals as goal

pub returns : goal.returns
returns c =
    let b = c.self.inside in
    let taken : between b.from b.to b.bytes.items ≡ c.args.self.now.taken = search rules in
    let unread : between b.at b.filled b.bytes.items ≡ c.args.self.now.unread = search rules in
    let within : b.at + 1 ≤ b.filled = search (rules, arith, length-take, length-drop) in
    let left = back b.at b.filled 1 b.bytes.items within ∙ ap (drop 1) unread in
    λ k. record { taken = taken k; unread = left k }
