-- The words in which the layers above speak of worlds, and of the files, the images of a disk and the engines that are at
-- one. Whoever uses them names no part of a world or of an engine, so a new part changes only this crate.
use Rattle.std.specs.Prelude.{◌≡◌, ◌⊎◌, ℕ, List, [], ◌++◌, Option, None, Some, Result}
use Rattle.view_ports.specs.File.{File}
use Rattle.view_ports.specs.Functions.{Functions}
use Rattle.view_ports.specs.declared.file_name.FileName.{FileName}
use Rattle.child_pool.specs.Languages.{path_in}
use Rattle.child_pool.specs.Pools.{languages_of, reducer_of, started_of, width_of}
use Rattle.doc_file.specs.declared.docs.Docs.{Docs}
use Rattle.doc_file.specs.Docs.{seq_of, HoldsHistory, IsAt as AreAt, IsDamagedAt, IsOpen as AreOpen}
use Rattle.doc_file.specs.Held.{Stands}
use Rattle.design_docs.specs.History.{Write}
use Rattle.tree_groups.specs.Groups.{AreAt as AreIndexesAt, AreOpen as AreIndexesOpen}
use Rattle.tree_groups.specs.Pictures.{forgetting as without_functions, AreHeld, StandFor}
use Rattle.view_engine.specs.declared.engine.Engine.{Engine}
use Rattle.view_engine.specs.declared.refusal.Refusal.{Refusal}
use Rattle.view_engine.specs.declared.request.Request.{Request}
use Rattle.view_engine.specs.Halts.{FitsFor, IsDamage, IsFullFor}
use Rattle.view_engine.specs.Moments.{Moment}
use Rattle.view_engine.specs.Signatures.{kinds_of, AreOpenOwned, AreOwned}
use Rattle.view_engine.specs.Steps.{IsWrite, Makes}
use Rattle.view_engine.specs.World.{knowing, World, NoneIsNewer}

-- ---- worlds

-- one world goes on from another: it has all of its writes, and maybe newer ones, and it knows the same functions
pub record GoesOnFrom (before after : World) : Type 0 where
  pub newer : List Write
  pub history : after.history ≡ newer ++ before.history
  pub known : after.functions ≡ before.functions

-- What a world knows for a signature and a language are the functions of the language's path, where it has one, and that path is honest. Of
-- languages without a path it may know any: nothing is asked of their servers.
abbrev pub KnowsPaths : (List ℕ → Functions) → (List ℕ → Type 0) → List (List ℕ × List ℕ) → World → Type 0
KnowsPaths functions honest languages world = (sig language : List ℕ) (known : Functions) (path : List ℕ) → world.functions sig language ≡ Some known → path_in languages language ≡ Some path
    → honest path × (functions path ≡ known)

-- These functions may be told of a world instead of those that it knows: for each signature it has no picture, or they are the same or none for
-- the design that the signature is of.
abbrev pub MayBeTold : World → (List ℕ → List ℕ → Option Functions) → Type 0
MayBeTold world functions = (sig : List ℕ) → (world.pictures sig ≡ None) ⊎ (kinds_of (knowing world functions) sig ≡ kinds_of world sig) ⊎ (kinds_of (knowing world functions) sig ≡ without_functions (kinds_of world) sig)

-- a world, and query servers of which so many map documents and that had so many faults, before any call
abbrev pub at_start : World → ℕ → ℕ → Moment
at_start world width faults = record { world = world; width = width; started = None; reducer = None; calls = []; faults = faults }

-- ---- files, and what a crash leaves of them

-- the files hold this world: its history, of which nothing is pending, and the picture of each index, which is that of a design document and
-- no newer
pub record Holds (files : FileName → File) (world : World) : Type 0 where
  pub documents : HoldsHistory files world.history
  pub indexes : AreHeld (kinds_of world) files world.pictures
  pub within : NoneIsNewer world
  pub owned : AreOwned world.history world.pictures

-- an image of the disk, as a crash leaves it, stands for this world
pub record StandsFor (image : FileName → List ℕ) (world : World) : Type 0 where
  pub documents : Stands image world.history
  pub indexes : StandFor (kinds_of world) image world.pictures
  pub within : NoneIsNewer world
  pub owned : AreOwned world.history world.pictures

-- a world between two: its history is that of the first, and so are its pictures, but for some that are gone in the second too
pub record IsBetween (before after mid : World) : Type 0 where
  pub history : mid.history ≡ before.history
  pub known : mid.functions ≡ before.functions
  pub pictures : (sig : List ℕ) → (mid.pictures sig ≡ before.pictures sig) ⊎ ((mid.pictures sig ≡ None) × (after.pictures sig ≡ None))

-- an image stands for a world between two, which may be the first, or for the second
abbrev pub StandsEither : World → World → (FileName → List ℕ) → Type 0
StandsEither before after image = ((mid : World) × IsBetween before after mid × StandsFor image mid) ⊎ StandsFor image after

module _ (functions : List ℕ → Functions) (honest : List ℕ → Type 0) (languages : List (List ℕ × List ℕ)) where
  -- an image stands for the world that the request makes
  abbrev pub StandsAfter : World → Result Request Refusal → (FileName → List ℕ) → Type 0
  StandsAfter world request image = (after : World) × Makes functions honest languages world request after × StandsFor image after

  -- an image stands for the world before a request, or for the one that it makes
  abbrev pub StandsAround : World → Result Request Refusal → (FileName → List ℕ) → Type 0
  StandsAround world request image = StandsFor image world ⊎ StandsAfter world request image

-- The files hold this world, in which the request is a write that is accepted, and with it the documents' file among them would
-- be too long, or else has one commit too many.
pub record IsFullAt (files : FileName → File) (world : World) (request : Result Request Refusal) (name : FileName) (length : Option ℕ) : Type 0 where
  pub docs : Docs
  pub at : AreAt docs files world.history
  pub full : IsFullFor docs request name length
  pub write : Write
  pub accepted : IsWrite world request write

-- An engine is open over the files, and what the request writes would make the documents' file among them too long, or else is
-- one commit too many.
pub record IsFullIn (files : FileName → File) (request : Result Request Refusal) (name : FileName) (length : Option ℕ) : Type 0 where
  pub docs : Docs
  pub is_open : AreOpen docs files
  pub full : IsFullFor docs request name length

-- The files hold this world, and what the request writes passes neither limit of the documents' file among them.
pub record HasRoomAt (files : FileName → File) (world : World) (request : Result Request Refusal) : Type 0 where
  pub docs : Docs
  pub at : AreAt docs files world.history
  pub fits : FitsFor docs request

-- what is damaged at this place of a file as an engine is opened over these files
abbrev pub HasDamage : (FileName → File) → FileName → ℕ → Type 0
HasDamage = IsDamagedAt

-- at this place of the documents' file the body of a live document is damaged, as an engine meets it that is open over the files
pub record HasBodyDamage (files : FileName → File) (name : FileName) (at : ℕ) : Type 0 where
  pub docs : Docs
  pub is_open : AreOpen docs files
  pub damage : IsDamage docs files name at

-- ---- engines

-- the languages that an engine knows, with their paths
abbrev pub languages : Engine → List (List ℕ × List ℕ)
languages engine = languages_of engine.pool

-- an engine knows these languages and no other
abbrev pub Knows : List (List ℕ × List ℕ) → Engine → Type 0
Knows known engine = languages engine ≡ known

-- how many writes its documents have
abbrev pub update_seq : Engine → ℕ
update_seq engine = seq_of engine.docs

-- how many children map its documents
abbrev pub width : Engine → ℕ
width engine = width_of engine.pool

-- what an engine keeps is what the folder holds, of the documents and of each index that is open
pub record IsOpen (engine : Engine) (files : FileName → File) : Type 0 where
  pub documents : AreOpen engine.docs files
  pub indexes : AreIndexesOpen engine.groups files

-- an engine and the folder are at this world, and each index that is open is that of a design document
pub record IsAtWorld (engine : Engine) (files : FileName → File) (world : World) : Type 0 where
  pub documents : AreAt engine.docs files world.history
  pub indexes : AreIndexesAt (kinds_of world) engine.groups files world.pictures
  pub within : NoneIsNewer world
  pub owned : AreOwned world.history world.pictures
  pub opened : AreOpenOwned world.history engine.groups

-- an engine keeps no child
abbrev pub IsChildless : Engine → Type 0
IsChildless engine = (started_of engine.pool ≡ None) × (reducer_of engine.pool ≡ None)
