-- What a request acts on: the world, and the query servers with the calls that were made on them.
use Rattle.std.specs.Prelude.{◌≡◌, ◌≤◌, ℕ, List, ◌++◌, Option}
use Rattle.view_ports.specs.Calls.{Call}
use Rattle.child_pool.specs.declared.pool.Started.{Started}
use Rattle.child_pool.specs.Jobs.{Job, AllLawfulIn, AllReducing}
use Rattle.child_pool.specs.Reductions.{Children}
use Rattle.view_engine.specs.World.{World}

pub record Moment : Type 0 where
  pub world : World
  -- how many children map documents: those of the slots below this one
  pub width : ℕ
  -- the children that map and are kept: their path, and how many they are
  pub started : Option Started
  -- the path of the child that reduces, where one is kept
  pub reducer : Option (List ℕ)
  -- the calls on the query servers, the newest first
  pub calls : List Call
  -- how many faults they had
  pub faults : ℕ

-- the same query servers, beside another world
abbrev pub with_world : Moment → World → Moment
with_world moment world = record moment { world = world }

-- the children that are kept
abbrev pub children_at : Moment → Children
children_at moment = record { started = moment.started; reducer = moment.reducer }

-- what was called on the query servers for a job: each call is lawful on its slot, the count of faults never falls, and of the calls `P` holds
pub record Called (job : Job) (before after : Moment) (P : List Call → Type 0) : Type 0 where
  pub added : List Call
  pub is : after.calls ≡ added ++ before.calls
  pub width : after.width ≡ before.width
  pub lawful : AllLawfulIn job before.width added before.calls
  pub later : before.faults ≤ after.faults
  pub holds : P added

-- what was called to reduce by some sources of a path: each call is one by which a pool of this width reduces, the count of faults never
-- falls, and of the calls that were added and of all calls now `P` holds
pub record CalledReducing (path : List ℕ) (reduces : List (List ℕ)) (before after : Moment) (P : List Call → List Call → Type 0) : Type 0 where
  pub added : List Call
  pub is : after.calls ≡ added ++ before.calls
  pub width : after.width ≡ before.width
  pub lawful : AllReducing path reduces before.width added before.calls
  pub later : before.faults ≤ after.faults
  pub holds : P added after.calls
