use Rattle.std.proofs.Common.{◌≡◌, drop}
use Rattle.doc_file.specs.Held.{find_last}
use Rattle.doc_file.proofs.last_writes.find_last.Given as goal

-- the search goes on in what is left
abbrev pub invariant-loop-entry : goal.invariant-loop-entry
invariant-loop-entry l = find_last l.id l.entries ≡ find_last l.id (drop l.entry-index l.entries)
