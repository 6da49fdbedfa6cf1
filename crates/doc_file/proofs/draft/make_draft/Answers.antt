-- The id of each entry has room, and so has that of the write.
use Rattle.std.proofs.Common.{sym, ◌∙◌, subst}
use Rattle.doc_file.specs.Counts.{has_room}
use Rattle.doc_file.specs.Record.{IdsFit}
use Rattle.doc_file.specs.Stored.{entry_of, with_last}
use Rattle.doc_file.proofs.CountsKept.{fits_of_room, room_of}
use Rattle.doc_file.proofs.Setting.{list_all-with_last}
use Rattle.doc_file.proofs.draft.make_draft.Goals as goal

pub write_root-requires : goal.write_root-requires
write_root-requires c =
    subst IdsFit (sym (c.as_slice.ensures.value ∙ c.in_ok-entries.ensures))
    (fits_of_room (with_last c.args.id (record { seq = c.next_rev-rev.result.seq; generation = c.next_rev-rev.result.generation; deleted = c.is_none-deleted.result; offset = c.place_of_body.result; length = c.len-body.result }) c.args.entries.now) (list_all-with_last has_room c.args.id (record { seq = c.next_rev-rev.result.seq; generation = c.next_rev-rev.result.generation; deleted = c.is_none-deleted.result; offset = c.place_of_body.result; length = c.len-body.result }) c.args.entries.now (room_of (entry_of c.args.id (record { seq = c.next_rev-rev.result.seq; generation = c.next_rev-rev.result.generation; deleted = c.is_none-deleted.result; offset = c.place_of_body.result; length = c.len-body.result })) c.requires.room.1) c.requires.room.0))
