use Rattle.std.proofs.Common.{◌++◌, ap, ◌∙◌}
use Rattle.doc_file.specs.Record.{whole_bytes}
use Rattle.doc_file.proofs.record.put_whole.Goals as goal

pub returns : goal.returns
unfolding whole_bytes
returns c = c.in_ok-extend_from_slice.ensures.items ∙ ap (λ bs. c.args.out.now.items ++ bs) c.to_le_bytes.ensures
