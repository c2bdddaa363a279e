use Rattle.std.proofs.Common.{leb, rules}
use Rattle.std.proofs.lemmas.List.Sorted.{IsPartitionPoint-from_clause, IsPartitionedBy-leb}
use Rattle.pipes_stream.specs.declared.Elem.{Elem}
use Rattle.pipes_sweep.proofs.Places.{Splits, splits}
use Rattle.pipes_sweep.proofs.hold.count_due.Goals as goal

pub returns : goal.returns
returns c =
    let parted = IsPartitionedBy-leb (λ (e : Elem). e.span.start) _ c.args.t c.requires in
    let point = IsPartitionPoint-from_clause (λ (e : Elem). leb e.span.start c.args.t) _ _
    c.partition_point.ensures.partitioned parted (λ a r q k. search rules) in
    let place : Splits c.args.t c.args.waiting.now.items c.partition_point.result =
    splits c.args.t _ _ (search rules) point in
    record {
      bound = c.partition_point.ensures.bound;
      due = place.before;
      later = place.rest;
    }
