-- What a deletion does.
use Rattle.std.specs.Prelude.{◌≡◌, ℕ, List, Option, None}
use Rattle.doc_file.specs.declared.fault.DocFault.{DocFault}
use Rattle.doc_file.specs.Accepted.{State, state_of}
use Rattle.design_docs.specs.History.{Write}
use Rattle.doc_file.specs.Stored.{next_revision, write_of}
use Rattle.doc_file.specs.Writes.{IsAcceptedDelete, IsRefusedDelete}
use Rattle.view_engine.specs.declared.refusal.Refusal.{Refusal}
use Rattle.view_engine.specs.World.{World, written}
use Rattle.view_engine.specs.Answer.{write_text}
use Rattle.view_engine.specs.Refusals.{refused_as}

-- a deletion is refused where the documents refuse it, by the state of its id
abbrev pub IsDeleteRefusedIn : State → Option (List ℕ) → Refusal → Type 0
IsDeleteRefusedIn state given refusal = (fault : DocFault) × IsRefusedDelete state given fault × (refusal ≡ refused_as fault)

abbrev pub IsDeleteRefused : World → List ℕ → Option (List ℕ) → Refusal → Type 0
IsDeleteRefused world id = IsDeleteRefusedIn (state_of world.history id)

-- the next write of the id: a tombstone
abbrev pub delete_write : World → List ℕ → Write
delete_write world id = write_of world.history id None

-- an accepted deletion is the next write of its id
pub record DoesDelete (world : World) (id : List ℕ) (given : Option (List ℕ)) (reply : List ℕ) (new : World) : Type 0 where
  pub accepted : IsAcceptedDelete (state_of world.history id) given
  pub prints : reply ≡ write_text id (next_revision world.history id)
  pub wrote : new ≡ written world (delete_write world id)
