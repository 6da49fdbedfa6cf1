-- What one call on a folder does.
use Rattle.std.specs.Prelude.{◌≡◌, ◌≢◌, ◌⊎◌, ◌↔◌, ℕ, ◌-◌, ◌<◌, min, List, ◌∷◌, length, take, drop, Result, OnOk, OnErr, Contains, AllPairs}
use Rattle.view_ports.specs.File.{File, IsImage}
use Rattle.view_ports.specs.Disk.{Disk}

-- The call is one more moment. A folder in memory that found no memory to note it changed nothing.
abbrev pub Ticks : {Name : Type 0} → Disk Name → Disk Name → Type 0
Ticks old new = (new.past ≡ old.now ∷ old.past) ⊎ (new ≡ old)

-- each image of the file is one of the file before the step or after it
abbrev pub LeavesEither : File → File → File → Type 0
LeavesEither before after file = (image : List ℕ) → IsImage file image → IsImage before image ⊎ IsImage after image

-- A call that takes a step on one file. Where it fails a crash leaves what it might have left without the step or with it.
pub record Changes {Name T E : Type 0} (name : Name) (step : File → File) (result : Result T E) (old new : Disk Name) : Type 0 where
  pub time : Ticks old new
  pub others : (n : Name) → n ≢ name → new.now n ≡ old.now n
  pub ok : OnOk result (new.now name ≡ step (old.now name))
  pub err : OnErr result (LeavesEither (old.now name) (step (old.now name)) (new.now name))

-- a call that changes no file
pub record Passes {Name : Type 0} (old new : Disk Name) : Type 0 where
  pub time : Ticks old new
  pub same : (name : Name) → new.now name ≡ old.now name

-- a read at a place gave the first `count` bytes of `into`, as many as the file has there and `into` has room for
pub record IsReadAt (bytes : List ℕ) (at count : ℕ) (into : List ℕ) : Type 0 where
  pub most : count ≡ min (length into) (length bytes - at)
  pub given : take count into ≡ take count (drop at bytes)

-- the names of all files that have bytes, each once
pub record IsListing {Name : Type 0} (files : Name → File) (names : List Name) : Type 0 where
  pub all : (name : Name) → Contains names name ↔ (0 < length (files name).seen)
  pub once : AllPairs (λ a b. a ≢ b) names
