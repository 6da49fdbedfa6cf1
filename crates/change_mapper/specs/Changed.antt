-- The documents that were written, as they are read.
use Rattle.std.specs.Prelude.{◌≡◌, ℕ, List, map, is_some}
use Rattle.query_protocol.specs.CommandLines.{document_of}
use Rattle.design_docs.specs.History.{Write, mapped_by}
use Rattle.view_model.specs.Since.{mapped_of}
use Rattle.change_mapper.specs.declared.changed.Written.{Written}
use Rattle.change_mapper.specs.declared.changed.Changed.{Changed}

-- a write as it is noted: its id, and whether it left a document that views map
abbrev pub written_by : ℕ × Write → Written
written_by change = record { id = (change.1).id; is_mapped = is_some (mapped_by change.1) }

-- all of these writes are noted, and the documents that they left to be mapped are there, both in their order
pub record AreChangedOf (changes : List (ℕ × Write)) (changed : Changed) : Type 0 where
  pub written : changed.written.items ≡ map written_by changes
  pub documents : changed.documents.items ≡ map (λ entry. document_of entry.1) (mapped_of changes)
