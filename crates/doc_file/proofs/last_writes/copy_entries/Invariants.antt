use Rattle.std.proofs.Common.{◌≡◌, ◌++◌, take}
use Rattle.doc_file.proofs.last_writes.copy_entries.Given as goal

-- the entries so far are copied
abbrev pub invariant-loop-entry : goal.invariant-loop-entry
invariant-loop-entry l = l.to.items ≡ l.initial.to.items ++ take l.entry-index l.entries
