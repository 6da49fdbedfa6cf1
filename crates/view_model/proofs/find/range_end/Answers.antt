-- Where a row passes, those before it do, since the rows are sorted.
use Rattle.std.proofs.Common.{rules}
use Rattle.std.proofs.lemmas.List.Sorted.{IsPartitionPoint-from_clause}
use Rattle.view_model.specs.Ends.{is_up_to_range}
use Rattle.view_model.proofs.Ends.{falls_up_to_range}
use Rattle.view_model.proofs.Prefixes.{parted, prefix}
use Rattle.view_model.proofs.find.range_end.Goals as goal

pub returns : goal.returns
returns c =
    let rows = c.args.rows.now in
    let test = is_up_to_range c.args.query.now in
    prefix test rows c.partition_point.result c.partition_point.ensures.bound
    (IsPartitionPoint-from_clause test rows c.partition_point.result c.partition_point.ensures.partitioned
    (parted test rows (falls_up_to_range c.args.query.now) c.requires) (λ a r q k. search rules))
