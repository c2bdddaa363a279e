use Rattle.std.proofs.Common.{leb, rules}
use Rattle.std.proofs.lemmas.List.Sorted.{IsPartitionPoint-from_clause, IsPartitionedBy-leb}
use Rattle.pipes_time.proofs.Times.{IsPlace, place-from_point, up_to-take, past-drop}
use Rattle.pipes_window.specs.declared.item.Item.{Item}
use Rattle.pipes_feed.specs.Items.{stamp_in}
use Rattle.pipes_feed.proofs.reorder.count_up_to.Goals as goal

pub returns : goal.returns
returns c =
    let parted = IsPartitionedBy-leb stamp_in _ c.args.stamp c.requires in
    let point = IsPartitionPoint-from_clause (λ (i : Item). leb (stamp_in i) c.args.stamp) _ _
    c.partition_point.ensures.partitioned parted (λ a r q k. search rules) in
    let place : IsPlace stamp_in c.args.stamp c.args.waiting.now.items c.partition_point.result =
    place-from_point stamp_in c.args.stamp _ _ (search rules) point in
    record {
      bound = c.partition_point.ensures.bound;
      first = up_to-take stamp_in c.args.stamp _ _ place;
      rest = past-drop stamp_in c.args.stamp _ _ place;
    }
