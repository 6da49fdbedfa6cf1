-- What the definitions say together: those of the history, and those of what a request does.
use Rattle.std.specs.Prelude.{◌≡◌, ◌++◌, ℕ, List, [], bytes_eq, None, Option, Result, Ok}
use Rattle.std.specs.Ordering.{nat_cmp}
use Rattle.std.specs.Cmp.Lexicographic.{slice_cmp}
use Rattle.std.specs.List.Sorted.{IsStrictlySortedBy}
use Rattle.std.specs.Map.{lookup, keys_of}
use Rattle.view_ports.specs.Exchanges.{Exchange}
use Rattle.view_ports.specs.File.{File, settled}
use Rattle.view_ports.specs.Functions.{Functions}
use Rattle.view_ports.specs.declared.file_name.FileName.{FileName}
use Rattle.design_docs.specs.History.{Write, last_write, last_writes, live, live_document}
use Rattle.doc_file.specs.declared.docs.Docs.{Docs}
use Rattle.view_engine.specs.declared.refusal.Refusal.{Refusal}
use Rattle.view_engine.specs.declared.request.Request.{Request}
use Rattle.view_engine.specs.Accepted.{accepted}
use Rattle.view_engine.specs.Disks.{IsView}
use Rattle.view_engine.specs.InMemory.{IsAcceptedBy, IsRefusedBy}
use Rattle.view_engine.specs.Moments.{Moment}
use Rattle.view_engine.specs.Steps.{Answers, IsRefusedAs, Makes, Performs}
use Rattle.view_engine.specs.Updating.{IsSound}
use Rattle.view_engine.specs.World.{knowing, of_history, World}
use Rattle.view_engine.specs.Worlds.{GoesOnFrom, Holds, IsBetween, MayBeTold, StandsFor}

-- among the last writes each id has the one that came last
abbrev pub HasLastWrites : List Write → Type 0
HasLastWrites history = (id : List ℕ) → lookup (bytes_eq id) (last_writes history) ≡ last_write history id

-- among the live documents each id has what its last write stored, and none where that is a deletion
abbrev pub HasLiveDocuments : List Write → Type 0
HasLiveDocuments history = (id : List ℕ) → lookup (bytes_eq id) (live history) ≡ live_document history id

-- the live documents are in strictly rising byte order of id
abbrev pub IsInOrderOfId : List Write → Type 0
IsInOrderOfId history = IsStrictlySortedBy (slice_cmp nat_cmp) (keys_of (live history))

-- the writes of two runs of lines, one after the other, are those of all their lines
abbrev pub IsAcceptedInTurn : Type 0
IsAcceptedInTurn = (world : World) (first second : List Exchange) → accepted world (first ++ second) ≡ accepted (accepted world first) second

-- by the documents in memory a request that is no view is refused for one reason at most
abbrev pub IsRefusedOnceBy : Type 0
IsRefusedOnceBy = (docs : Docs) (request : Request) (first second : Refusal) → (IsView (Ok request) → ⊥) → IsRefusedBy docs request first → IsRefusedBy docs request second → first ≡ second

-- and none but a view is both refused and accepted
abbrev pub IsNotRefusedAndAccepted : Type 0
IsNotRefusedAndAccepted = (docs : Docs) (request : Request) (refusal : Refusal) → IsRefusedBy docs request refusal → IsAcceptedBy docs request → IsView (Ok request)

-- files that hold a world, and images that stand for one, do so whichever functions may be told of it: none, among others
abbrev pub FilesMayBeTold : Type 0
FilesMayBeTold = (files : FileName → File) (world : World) (functions : List ℕ → List ℕ → Option Functions) → MayBeTold world functions → Holds files world → Holds files (knowing world functions)

abbrev pub ImagesMayBeTold : Type 0
ImagesMayBeTold = (image : FileName → List ℕ) (world : World) (functions : List ℕ → List ℕ → Option Functions) → MayBeTold world functions → StandsFor image world → StandsFor image (knowing world functions)

abbrev pub EachMayForget : Type 0
EachMayForget = (world : World) → MayBeTold world (λ sig language. None)

-- a folder without bytes holds a world without writes and indexes, of which any functions may be known
abbrev pub EmptyFoldersHoldWorlds : Type 0
EmptyFoldersHoldWorlds = (files : FileName → File) → ((name : FileName) → files name ≡ settled []) → (functions : List ℕ → List ℕ → Option Functions) → Holds files (knowing (of_history []) functions)

-- and what a crash left of a folder holds the world that the image stands for, once it is read again
abbrev pub ImagesHold : Type 0
ImagesHold = (image : FileName → List ℕ) (world : World) → StandsFor image world → Holds (λ name. settled (image name)) world

module _ (functions : List ℕ → Functions) (honest : List ℕ → Type 0) (languages : List (List ℕ × List ℕ)) where
  -- before any server is asked a request has one refusal at most
  abbrev pub IsRefusedOnce : Type 0
  IsRefusedOnce = (world : World) (request : Request) (first second : Refusal) → IsRefusedAs functions honest languages world request first → IsRefusedAs functions honest languages world request second → first ≡ second

  -- and a request that is refused then isn't done
  abbrev pub IsNotRefusedAndDone : Type 0
  IsNotRefusedAndDone = (before after : Moment) (request : Request) (refusal : Refusal) (reply : List ℕ) → IsRefusedAs functions honest languages before.world request refusal → Performs functions honest languages before request reply after → ⊥

  -- a line that is answered leads from a sound world to a sound one
  abbrev pub StepsKeepSound : Type 0
  StepsKeepSound = (before : Moment) (exchange : Exchange) (after : Moment) → Answers functions honest languages before exchange after
      → IsSound functions honest languages before.world → IsSound functions honest languages after.world

  -- and so does what a request makes
  abbrev pub MadeWorldsAreSound : Type 0
  MadeWorldsAreSound = (world : World) (request : Result Request Refusal) (made : World) → Makes functions honest languages world request made → IsSound functions honest languages world → IsSound functions honest languages made

  -- and so is a world between a sound one and another
  abbrev pub WorldsBetweenAreSound : Type 0
  WorldsBetweenAreSound = (before after mid : World) → IsBetween before after mid → IsSound functions honest languages before → IsSound functions honest languages mid

  -- a line that is answered leads to a world that goes on from the one before, and so does what a request makes
  abbrev pub StepsGoOn : Type 0
  StepsGoOn = (before : Moment) (exchange : Exchange) (after : Moment) → Answers functions honest languages before exchange after → GoesOnFrom before.world after.world

  abbrev pub MadeWorldsGoOn : Type 0
  MadeWorldsGoOn = (world : World) (request : Result Request Refusal) (made : World) → Makes functions honest languages world request made → GoesOnFrom world made
