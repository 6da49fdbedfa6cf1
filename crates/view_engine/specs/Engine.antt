-- What an engine keeps of a moment, and what its calls leave.
use Rattle.std.specs.Prelude.{◌≡◌, ℕ, List, ◌++◌, Option}
use Rattle.view_ports.specs.Calls.{Call}
use Rattle.view_ports.specs.Disk.{Disk, IfTold, LeavesOnly, Tells}
use Rattle.view_ports.specs.Functions.{Functions}
use Rattle.view_ports.specs.declared.file_name.FileName.{FileName}
use Rattle.child_pool.specs.declared.pool.Pool.{Pool}
use Rattle.child_pool.specs.Histories.{AllStops}
use Rattle.child_pool.specs.Pools.{AreStopped, HasItsChildren, reducer_of, started_of, width_of}
use Rattle.view_engine.specs.declared.engine.Engine.{Engine}
use Rattle.view_engine.specs.Moments.{Moment}
use Rattle.view_engine.specs.Worlds.{languages, IsAtWorld, KnowsPaths, StandsEither}

-- the pool has the moment's width and its children, which the calls left, and these may be the calls on the servers, which had so many faults
pub record HasChild (may_follow : List Call → Type 0) (faults : ℕ) (pool : Pool) (moment : Moment) : Type 0 where
  pub width : width_of pool ≡ moment.width
  pub started : started_of pool ≡ moment.started
  pub reducer : reducer_of pool ≡ moment.reducer
  pub child : HasItsChildren pool moment.calls
  pub follows : may_follow moment.calls
  pub counts : faults ≡ moment.faults

module _ (functions : List ℕ → Functions) (honest : List ℕ → Type 0) where
  -- the engine is at this moment: it, and the disk where it is told, are at the world, which knows functions of honest paths alone
  pub record IsAt (disk : Option (Disk FileName)) (may_follow : List Call → Type 0) (faults : ℕ) (engine : Engine) (moment : Moment) : Type 0 where
    pub documents : IfTold disk (λ d. IsAtWorld engine d.now moment.world)
    pub child : HasChild may_follow faults engine.pool moment
    pub known : IfTold disk (λ d. KnowsPaths functions honest (languages engine) moment.world)

  module _ (old disk : Option (Disk FileName)) (may_follow : List Call → Type 0) (faults : ℕ) (engine : Engine) (before : Moment) where
    -- a call leaves a moment that the definition allows, and meanwhile a crash leaves the world before it or after it
    pub record Leaves (Allows : Moment → Type 0) : Type 0 where
      pub after : Moment
      pub is_at : IsAt disk may_follow faults engine after
      pub moments : Tells old disk (LeavesOnly (StandsEither before.world after.world))
      pub allowed : IfTold old (λ d. Allows after)

    -- and it appended this text
    pub record Appends (Allows : List ℕ → Moment → Type 0) (out out' : List ℕ) : Type 0 where
      pub text : List ℕ
      pub leaves : Leaves (Allows text)
      pub appended : out' ≡ out ++ text

-- the same of an engine's pool
abbrev pub KeepsChild : (List Call → Type 0) → ℕ → Engine → Moment → Type 0
KeepsChild may_follow faults engine = HasChild may_follow faults engine.pool

-- these may be the calls now: those that were added are stops alone, and left no child
pub record HasStopped (may_follow : List Call → Type 0) (engine : Engine) (before : List Call) : Type 0 where
  pub added : List Call
  pub follows : may_follow (added ++ before)
  pub only : AllStops added
  pub stopped : AreStopped (width_of engine.pool) engine.pool (added ++ before)
