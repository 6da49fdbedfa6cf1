-- Which writes are accepted: what the last write of the id alone decides.
use Rattle.std.specs.Prelude.{ℕ, List, Bool, true, false, not, Option, Some, None, is_none, bytes_eq}
use Rattle.doc_file.specs.declared.entry.LastWrite.{LastWrite}
use Rattle.doc_file.specs.declared.fault.DocFault.{DocFault}
use Rattle.doc_file.specs.declared.fault.DocFault.TheVariants.{Conflict, Missing, Deleted}
use Rattle.design_docs.specs.History.{Write, last_write, last_seq, generation}
use Rattle.design_docs.specs.Revision.{revision}

-- what a database knows of an id: nothing, or the revision of its last write and whether that was a deletion
pub data State : Type 0 where
  unseen : State
  known : List ℕ → Bool → State

abbrev pub is_deletion : Option Write → Bool
is_deletion None = false
is_deletion (Some write) = is_none write.document

abbrev pub state_after : Option Write → List ℕ → State
state_after None rev = unseen
state_after (Some write) rev = known rev (is_deletion (Some write))

-- the state of an id after these writes
abbrev pub state_of : List Write → List ℕ → State
state_of history id = state_after (last_write history id) (revision (generation history id) (last_seq history id))

-- a put conflicts unless it names the present revision; where the id is unseen or deleted it may name none
abbrev pub put_conflicts : State → Option (List ℕ) → Bool
put_conflicts unseen None = false
put_conflicts unseen (Some given) = true
put_conflicts (known rev deleted) None = not deleted
put_conflicts (known rev deleted) (Some given) = not (bytes_eq given rev)

abbrev pub unless_present : Bool → Option DocFault
unless_present true = None
unless_present false = Some Conflict

-- a deletion needs a live document and its present revision
abbrev pub delete_refusal : State → Option (List ℕ) → Option DocFault
delete_refusal unseen given = Some Missing
delete_refusal (known rev true) given = Some Deleted
delete_refusal (known rev false) None = Some Conflict
delete_refusal (known rev false) (Some given) = unless_present (bytes_eq given rev)

-- the state of an id with this last write
abbrev pub state_in : Option LastWrite → State
state_in None = unseen
state_in (Some last) = known (revision last.generation last.seq) last.deleted
