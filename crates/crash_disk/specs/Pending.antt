-- A file with what is pending on it, as the disk has it.
use Rattle.view_ports.specs.File.{File}
use Rattle.crash_disk.specs.declared.pending.Pending.{Pending}

abbrev pub file_of : Pending → File
file_of pending = record { seen = pending.seen.items; durable = pending.durable.items; written = pending.written.items; added = pending.added.items; lengths = pending.lengths.items }
