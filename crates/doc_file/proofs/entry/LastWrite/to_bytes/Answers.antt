use Rattle.std.proofs.Common.{refl, ◌∙◌}
use Rattle.term_codec.specs.Spelling.{count_bytes}
use Rattle.doc_file.specs.Record.{last_bytes, whole_bytes}
use Rattle.doc_file.proofs.entry.LastWrite.to_bytes.Goals as goal

pub returns : goal.returns
unfolding last_bytes whole_bytes count_bytes
returns c =
    let seq = c.copy_from_slice.ensures.after ∙ c.to_le_bytes.ensures in
    let generation = c.copy_from_slice-2.ensures.after ∙ c.to_le_bytes-2.ensures in
    let offset = c.copy_from_slice-3.ensures.after ∙ c.to_le_bytes-3.ensures in
    let size = c.copy_from_slice-4.ensures.after ∙ c.to_le_bytes-4.ensures in
    rw (seq, generation, c.flag.ensures, offset, size) refl
