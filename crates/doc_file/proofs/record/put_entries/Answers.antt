use Rattle.std.proofs.Common.{◌<◌, length, arith}
use Rattle.doc_file.proofs.EntryParts.{IdsFit-at}
use Rattle.doc_file.proofs.record.put_entries.Goals as goal

pub put_entry-requires : goal.put_entry-requires
put_entry-requires c =
    let within : c.loop-entry.entry-index < length c.args.entries.now = omega arith in
    IdsFit-at c.args.entries.now c.loop-entry.entry-index c.entry-item.result within c.entry-item.is c.requires
