use Rattle.std.proofs.Common.{rules}
use Rattle.pipes_coalesce.proofs.Moving.{on-ok}
use Rattle.pipes_coalesce.proofs.Settling.{settles}
use Rattle.pipes_coalesce.proofs.merge.Coalesce.settle.Goals as goal

pub returns : goal.returns
returns c =
    on-ok c.tell.result
    (λ beat_sent. settles c.args.self.now c.let_go.new.self c.advance.new.self
    c.release_partners.new.self c.release_later.new.self c.beat_now-now.result c.args.beat_sent
    c.args.out.now.items c.let_go.new.out.items c.advance.new.out.items
    c.release_partners.new.out.items c.release_later.new.out.items c.tell.new.out.items
    c.in_ok-let_go.ensures.moves c.in_ok-let_go.ensures.gone c.in_ok-advance.ensures.moves
    c.in_ok-advance.ensures.blocked c.beat_now-now.ensures.value
    c.in_ok-release_partners.ensures.releases c.in_ok-release_partners.ensures.gone
    c.in_ok-release_later.ensures.releases
    c.in_ok-release_later.ensures.partners c.in_ok-release_later.ensures.gone beat_sent)
    c.tell.ensures
