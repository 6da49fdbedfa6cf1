use Rattle.std.proofs.Common.{rules}
use Rattle.std.proofs.lemmas.Nat.{le_bytes_2}
use Rattle.term_codec.specs.Spelling.{short_bytes}
use Rattle.term_codec.proofs.decode.short_of.Goals as goal

pub returns : goal.returns
unfolding short_bytes
returns c = le_bytes_2 c.args.bytes _ (search rules) (search rules) c.from_le_bytes.ensures
