use Rattle.std.proofs.Common.{rules}
use Rattle.pipes_coalesce.proofs.Sending.{partners-release, releases-itself}
use Rattle.pipes_coalesce.proofs.merge.Coalesce.release_partners.Goals as goal

pub returns-in_ok-send_all-clause-releases : goal.returns-in_ok-send_all-clause-releases
returns-in_ok-send_all-clause-releases c =
    let sent = c.in_ok-send_all.ensures.sent in
    partners-release c.args.self.now _ c.args.now sent.sent c.args.out.now.items
    c.send_all.new.out.items (search rules) c.in_ok-send_all.ensures.empty c.requires.now
    (search rules) c.requires.blocked sent.weights sent.appended

pub returns-else-self-now-clause-releases : goal.returns-else-self-now-clause-releases
returns-else-self-now-clause-releases c =
    releases-itself c.args.self.now c.args.now c.args.out.now.items
