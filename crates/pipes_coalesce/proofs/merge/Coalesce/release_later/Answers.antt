use Rattle.std.proofs.Common.{rules, refl, ◌∙◌, sym}
use Rattle.pipes_coalesce.proofs.Sending.{later-release, releases-then, releases-itself, due-now}
use Rattle.pipes_coalesce.proofs.Sending.{due-blocked, due-gone}
use Rattle.pipes_coalesce.proofs.merge.Coalesce.release_later.Goals as goal

pub loop-elem-init : goal.loop-elem-init
loop-elem-init c = record {
  releases = releases-itself c.args.self.now c.args.now c.args.out.now.items;
  partners = refl;
  now = c.requires.now;
  blocked = c.requires.blocked;
  gone = c.requires.partners;
}

pub loop-elem-preserved : goal.loop-elem-preserved
loop-elem-preserved c =
    let i = c.loop-elem.invariant in
    let due = c.in-Some.ensures in
    record {
      releases =
          releases-then c.args.self.now c.loop-elem.self c.next_due.new.self c.args.now
          c.args.out.now.items c.loop-elem.out.items c.append.new.out.items i.releases
          (later-release c.loop-elem.self c.next_due.new.self c.args.now c.in-Some.elem
          c.loop-elem.out.items c.append.new.out.items due i.now i.blocked i.gone
          c.in_ok-append.ensures);
      partners = due.partners ∙ i.partners;
      now = due-now c.loop-elem.self c.next_due.new.self c.args.now c.in-Some.elem due i.now;
      blocked = due-blocked c.loop-elem.self c.next_due.new.self c.args.now c.in-Some.elem due
          i.blocked;
      gone = due-gone c.loop-elem.self c.next_due.new.self c.args.now c.in-Some.elem due i.gone;
    }
