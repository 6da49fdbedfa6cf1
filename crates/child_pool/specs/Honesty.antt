-- What an honest path's children are not refused for.
use Rattle.std.specs.Prelude.{◌≡◌, ◌⊎◌, ◌≤◌, ℕ, List, length, false}
use Rattle.std.specs.List.{AllByRecursion}
use Rattle.json_terms.specs.Json.{Json}
use Rattle.view_ports.specs.Calls.{Call}
use Rattle.view_ports.specs.Functions.{Functions, IsMappable, source_limit}
use Rattle.child_pool.specs.declared.pool_fault.PoolFault.TheVariants.{BadReply, Compile}
use Rattle.child_pool.specs.Jobs.{Job, IsAmong, job_of}
use Rattle.child_pool.specs.Outcomes.{IsCaused}

-- a job on an honest path whose sources aren't too many, and whose documents can be stored
pub record IsHonestJob (honest : List ℕ → Type 0) (job : Job) : Type 0 where
  pub path : honest job.path
  pub few : length job.sources ≤ source_limit
  pub stored : AllByRecursion IsMappable job.documents

-- one of the reduce sources doesn't compile
pub record SomeReduceFails (functions : Functions) (reduces : List (List ℕ)) : Type 0 where
  pub source : List ℕ
  pub among : IsAmong reduces source
  pub fails : functions.reduce_compiles source ≡ false

-- one of the sources doesn't compile
pub record SomeSourceFails (functions : Functions) (sources : List (List ℕ)) : Type 0 where
  pub source : List ℕ
  pub among : IsAmong sources source
  pub fails : functions.compiles source ≡ false

module _ (functions : List ℕ → Functions) (honest : List ℕ → Type 0) (job : Job) (added before : List Call) where
  -- no line of an honest path is a bad reply
  abbrev pub GivesNoBadReply : List ℕ → Type 0
  GivesNoBadReply text = IsHonestJob honest job → IsCaused functions honest job added before (BadReply text) → ⊥

  -- and it complains only where a source doesn't compile
  abbrev pub ComplainsRightly : Type 0
  ComplainsRightly = honest job.path → IsCaused functions honest job added before Compile → SomeSourceFails (functions job.path) job.sources ⊎ SomeReduceFails (functions job.path) job.reduces

-- where documents are mapped, one of the map sources doesn't compile
abbrev pub MapsComplainRightly : (List ℕ → Functions) → (List ℕ → Type 0) → Type 0
MapsComplainRightly functions honest = (path : List ℕ) (sources : List (List ℕ)) (documents : List (List (List ℕ × Json))) (added before : List Call) → honest path
    → IsCaused functions honest (job_of path sources documents) added before Compile → SomeSourceFails (functions path) sources
