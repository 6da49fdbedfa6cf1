use Rattle.std.proofs.Common.{◌≡◌, take}
use Rattle.doc_file.specs.Docs.{entries_of}
use Rattle.doc_file.proofs.DesignIds.{live_designs}
use Rattle.doc_file.proofs.docs.Docs.design_ids.Given as goal

-- the ids of the live designs among the entries so far
abbrev pub invariant-loop-entry : goal.invariant-loop-entry
invariant-loop-entry l = l.ids.items ≡ live_designs (take l.entry-index (entries_of l.self))
