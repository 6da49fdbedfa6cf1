use Rattle.std.proofs.Common.{map}
use Rattle.json_terms.specs.Json.{items_of}
use Rattle.json_terms.specs.Seen.{json}
use Rattle.raw_collation.proofs.Groups.{items_equal_just_where_one}
use Rattle.raw_collation.proofs.group.same_items.Goals as goal

pub returns : goal.returns
returns c = rw (c.is_eq.ensures, c.compare_items.ensures) (items_equal_just_where_one (items_of (map json c.args.xs.now)) (items_of (map json c.args.ys.now)))
