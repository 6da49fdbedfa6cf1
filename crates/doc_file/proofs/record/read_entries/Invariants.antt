use Rattle.std.proofs.Common.{◌≡◌, ◌-◌, []}
use Rattle.doc_file.specs.Reading.{entries_from}
use Rattle.doc_file.proofs.record.read_entries.Given as goal

-- what is read and what is left to read give the whole
abbrev pub invariant-loop-index : goal.invariant-loop-index
invariant-loop-index l = entries_from [] l.count l.bytes ≡ entries_from l.entries.items (l.count - l._index) l.rest
