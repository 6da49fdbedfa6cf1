-- Which calls query servers in the process may have had.
use Rattle.std.specs.Prelude.{◌≡◌, ◌<◌, ◌↔◌, ℕ, IsTrue, cond, Result, Err, List, [], ◌∷◌, map, Option, Some, None, slice_index_or}
use Rattle.view_ports.specs.declared.in_process.Child.{Child}
use Rattle.view_ports.specs.declared.in_process.InProcess.{InProcess}
use Rattle.view_ports.specs.declared.servers_fault.ServersFault.{ServersFault}
use Rattle.view_ports.specs.declared.servers_fault.ServersFault.TheVariants.{Failed}
use Rattle.view_ports.specs.Faults.{next_count}
use Rattle.view_ports.specs.Memory.{is_listed}
use Rattle.view_ports.specs.Calls.{Call, Session, child}
use Rattle.view_ports.specs.Commands.{command}
use Rattle.view_ports.specs.declared.command.Command.TheVariants.{Other}
use Rattle.view_ports.specs.Honest.{IsTextOf, no_command}

-- the session of a child has these sources and these waiting lines
pub record IsChild {S : Type 0} (sources : S → List (List ℕ)) (c : Child S) (s : Session) : Type 0 where
  pub added : sources c.session ≡ s.sources
  pub waits : map (λ line. line.items) c.waiting.items ≡ s.waiting

-- a child is there exactly where the calls left one
abbrev pub IsSlot : {S : Type 0} → (S → List (List ℕ)) → Option (Child S) → Option Session → Type 0
IsSlot sources None None = Unit {0}
IsSlot sources None (Some s) = ⊥
IsSlot sources (Some c) None = ⊥
IsSlot sources (Some c) (Some s) = IsChild sources c s

-- each slot is as these calls leave it
abbrev pub MayFollow : {S : Type 0} → (S → List (List ℕ)) → List (Option (Child S)) → List Call → Type 0
MayFollow sources children calls = (slot : ℕ) → slot < 9 → IsSlot sources (slice_index_or children slot None) (child slot calls)

-- an empty line where none is due, and the answer to a line that is no proper command
abbrev pub GivesOldest : List (List ℕ) → List ℕ → Type 0
GivesOldest [] line = line ≡ []
GivesOldest (oldest ∷ waiting) line = command oldest ≡ Other → IsTextOf no_command line

abbrev pub GivesDue : Option Session → List ℕ → Type 0
GivesDue None line = line ≡ []
GivesDue (Some s) line = GivesOldest s.waiting line

-- a call was counted, and failed exactly where its number is listed; that alone is counted as a fault
pub record FailsAsListed {S T : Type 0} (old new : InProcess S) (result : Result T ServersFault) : Type 0 where
  pub listed : IsTrue (is_listed old.fail.items old.calls) ↔ (result ≡ Err Failed)
  pub counted : new.calls ≡ next_count old.calls
  pub faults : new.faults ≡ cond (is_listed old.fail.items old.calls) (next_count old.faults) old.faults
  pub kept : new.fail ≡ old.fail
