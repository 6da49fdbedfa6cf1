use Rattle.std.proofs.Common.{rules}
use Rattle.std.proofs.lemmas.Nat.{le_bytes_8}
use Rattle.doc_file.specs.Record.{whole_bytes}
use Rattle.doc_file.proofs.record.whole_of.Goals as goal

pub returns : goal.returns
unfolding whole_bytes
returns c = le_bytes_8 c.args.bytes _ (search rules) (search rules) c.from_le_bytes.ensures
