use Rattle.std.proofs.Common.{take}
use Rattle.std.specs.Prelude.{option_map}
use Rattle.doc_file.specs.Changes.{IsNext}
use Rattle.doc_file.proofs.docs.changes.next_after.Given as goal

-- the search has found the next of the entries so far
abbrev pub invariant-loop-entry : goal.invariant-loop-entry
invariant-loop-entry l = IsNext l.seq (take l.entry-index l.entries) (option_map (λ e. e.now) l.next)
