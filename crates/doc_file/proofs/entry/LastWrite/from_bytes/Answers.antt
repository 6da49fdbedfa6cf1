use Rattle.std.proofs.Common.{slice_index, ◌==◌}
use Rattle.doc_file.specs.Reading.{last_at}
use Rattle.doc_file.proofs.entry.LastWrite.from_bytes.Goals as goal

pub returns : goal.returns
unfolding last_at
returns c = λ i. record {
  seq = c.whole_at.ensures i;
  generation = c.whole_at-2.ensures i;
  deleted = slice_index c.args.bytes.now 16 == 1;
  offset = c.whole_at-3.ensures i;
  length = c.count_at.ensures i;
}
