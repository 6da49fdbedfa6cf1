use Rattle.std.proofs.Common.{rules}
use Rattle.std.proofs.lemmas.Nat.{le_bytes_4}
use Rattle.term_codec.specs.Spelling.{count_bytes}
use Rattle.term_codec.proofs.decode.count_of.Goals as goal

pub returns : goal.returns
unfolding count_bytes
returns c = le_bytes_4 c.args.bytes _ (search rules) (search rules) c.from_le_bytes.ensures
