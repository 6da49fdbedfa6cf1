use Rattle.std.proofs.Common.{rules}
use Rattle.std.proofs.lemmas.Nat.{le_bytes_8}
use Rattle.term_codec.specs.Spelling.{whole_bytes}
use Rattle.term_codec.proofs.decode.whole_of.Goals as goal

pub returns : goal.returns
unfolding whole_bytes
returns c = le_bytes_8 c.args.bytes _ (search rules) (search rules) c.from_le_bytes.ensures
