-- A part within the bounds has a spelling.
use Rattle.json_terms.specs.Seen.{json}
use Rattle.builtin_reduces.specs.Sizes.{part_within}
use Rattle.builtin_reduces.proofs.item_bytes.put_row.Goals as goal

pub encode_term-requires : goal.encode_term-requires
encode_term-requires c = part_within (json c.args.row.now.key) c.requires.key

pub encode_term-requires-2 : goal.encode_term-requires-2
encode_term-requires-2 c = part_within (json c.args.row.now.value) c.requires.value
