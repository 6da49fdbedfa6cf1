use Rattle.std.proofs.Common.{◌≡◌, ◌++◌, drop}
use Rattle.doc_file.specs.Record.{entries_bytes}
use Rattle.doc_file.proofs.record.put_entries.Given as goal

-- what is written and what is left to write are the whole
abbrev pub invariant-loop-entry : goal.invariant-loop-entry
invariant-loop-entry l = l.out.items ++ entries_bytes (drop l.entry-index l.entries) ≡ l.fn.out.items ++ entries_bytes l.entries
