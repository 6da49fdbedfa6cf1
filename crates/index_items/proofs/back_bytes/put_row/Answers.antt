-- A key within the bounds has a spelling.
use Rattle.json_terms.specs.Seen.{json}
use Rattle.index_items.specs.Counts.{bounds_within}
use Rattle.index_items.proofs.back_bytes.put_row.Goals as goal

pub encode_term-requires : goal.encode_term-requires
encode_term-requires c = bounds_within (json c.args.row.now.key) c.requires.key
