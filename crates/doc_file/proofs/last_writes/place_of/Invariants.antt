use Rattle.std.proofs.Common.{◌≡◌, ◌++◌, take, drop}
use Rattle.doc_file.specs.declared.entry.LastWrite.{LastWrite}
use Rattle.doc_file.specs.Stored.{with_last}
use Rattle.doc_file.proofs.last_writes.place_of.Given as goal

-- the entries that were passed stand before the id
abbrev pub invariant-loop-index : goal.invariant-loop-index
invariant-loop-index l = (last : LastWrite) → with_last l.id last l.entries ≡ take l.index l.entries ++ with_last l.id last (drop l.index l.entries)
