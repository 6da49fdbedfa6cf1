-- The talk with the child that reduces: it is reset once, and then asked for values. After a refusal nothing more is asked.
use Rattle.std.specs.Prelude.{◌≡◌, ◌≢◌, ◌⊎◌, ◌≤◌, ◌++◌, ℕ, zero, suc, List, [], ◌∷◌, map, Bool, true, Option, Some, None, Result, Ok, Err, IfErr, IfOk, OnOk}
use Rattle.std.specs.List.{AllByRecursion, AllZip, flat_map}
use Rattle.json_terms.specs.Json.{Json}
use Rattle.json_terms.specs.Seen.{json}
use Rattle.json_terms.specs.declared.term.Row.{Row}
use Rattle.json_terms.specs.declared.term.Term.{Term}
use Rattle.design_docs.specs.declared.design.View.{View}
use Rattle.design_docs.specs.declared.design.Reduce.{Reduce}
use Rattle.design_docs.specs.declared.design.Reduce.TheVariants.{Absent, Builtin, Source}
use Rattle.view_ports.specs.declared.command.Command.{Command}
use Rattle.view_ports.specs.declared.servers.Servers.{Ghosts as Servers}
use Rattle.view_ports.specs.Calls.{Call}
use Rattle.view_ports.specs.Faults.{RoseBy}
use Rattle.view_ports.specs.Functions.{Functions, IsSomeList, IsWithinBounds, joined}
use Rattle.view_ports.specs.ReduceRow.{ReduceRow, reduce_row}
use Rattle.child_pool.specs.declared.pool.Pool.{Pool}
use Rattle.child_pool.specs.declared.pool_fault.PoolFault.{PoolFault}
use Rattle.child_pool.specs.declared.pool_fault.PoolFault.TheVariants.{NoMemory, ServerFault, UnknownLanguage}
use Rattle.child_pool.specs.declared.reduce_slot.ReduceSlot.{ReduceSlot}
use Rattle.child_pool.specs.declared.reduce_slot.Stage.{Stage}
use Rattle.child_pool.specs.declared.reduce_slot.Stage.TheVariants.{Idle, Begun, GivenUp}
use Rattle.child_pool.specs.Ends.{EndsTwice, HasRisen}
use Rattle.child_pool.specs.Histories.{AllOn, AllStops, Went, WentReducing}
use Rattle.child_pool.specs.Jobs.{IsAmong, reduce_job}
use Rattle.child_pool.specs.Languages.{path_in}
use Rattle.child_pool.specs.Outcomes.{IsCaused}
use Rattle.child_pool.specs.PoolCalls.{StaysAsMade}
use Rattle.child_pool.specs.Pools.{AreStopped, HasItsChildren, languages_of, started_of}
use Rattle.child_pool.specs.ReduceSlot.{IsReset, is_fresh, reset_prompts}
use Rattle.child_pool.specs.Reducing.{IsValueBy, ReducesBy, IsLineOf, reduce_prompt}
use Rattle.child_pool.specs.Refused.{Refused}
use Rattle.child_pool.specs.Tries.{AllAnswered, Prompt, StopsAt}

-- the sources of the reduce functions of views, in their order
abbrev pub reduce_source : Reduce → List (List ℕ)
reduce_source Absent = []
reduce_source (Builtin kind) = []
reduce_source (Source source) = source ∷ []

abbrev pub reduce_sources : List View → List (List ℕ)
reduce_sources views = flat_map (λ view. reduce_source view.reduce) views

-- a reduce, or none
abbrev pub or_absent : Option Reduce → Reduce
or_absent None = Absent
or_absent (Some reduce) = reduce

-- the reduce of the view in a place, or none where there is no view
abbrev pub reduce_in : List View → ℕ → Reduce
reduce_in [] place = Absent
reduce_in (view ∷ views) zero = view.reduce
reduce_in (view ∷ views) (suc place) = reduce_in views place

-- a command by which one of these sources reduces
abbrev pub IsReduction : List (List ℕ) → Command → Type 0
IsReduction reduces asked = (source : List ℕ) × IsAmong reduces source × ReducesBy source asked

-- ---- the prompts

-- what the talk begins with
abbrev pub opening : Stage → Stage → ℕ → Bool → List Prompt
opening Idle Idle slot fresh = []
opening Idle Begun slot fresh = reset_prompts slot fresh
opening Idle GivenUp slot fresh = reset_prompts slot fresh
opening Begun to slot fresh = []
opening GivenUp to slot fresh = []

-- and behind that the values that are asked for
abbrev pub talk_prompts : Stage → Stage → ℕ → Bool → List Command → List Prompt
talk_prompts from to slot fresh commands = opening from to slot fresh ++ map (reduce_prompt slot) commands

-- the prompts were answered on the slot at the width, and the children that map are those that were kept
pub record AreAnswered (prompts : List Prompt) (rose : Type 0) (old pool : Pool) (added : List Call) : Type 0 where
  pub answered : AllAnswered rose prompts added
  pub own : AllOn old.width added
  pub mapping : started_of pool ≡ started_of old

-- prompts were given up with a fault of which `IsFault` holds, on the slot at the width, and then all children were stopped, and nothing
-- else was done
pub record IsLeftOff (IsFault : PoolFault → Type 0) (prompts : List Prompt) (rose : Type 0) (old pool : Pool) (added now : List Call) : Type 0 where
  pub fault : PoolFault
  pub is_fault : IsFault fault
  pub tried : List Call
  pub stops : List Call
  pub is : added ≡ stops ++ tried
  pub only : AllStops stops
  pub own : AllOn old.width tried
  pub ends : StopsAt fault rose prompts tried
  pub stopped : AreStopped pool.width pool now

abbrev pub NothingSaid : Pool → Pool → List Call → Type 0
NothingSaid old pool added = (added ≡ []) × (pool ≡ old)

-- a child is reset to be asked for a value
abbrev pub AsksSome : Stage → Stage → List Command → Type 0
AsksSome Idle Idle commands = Unit {0}
AsksSome Idle Begun commands = commands ≢ []
AsksSome Idle GivenUp commands = Unit {0}
AsksSome Begun to commands = Unit {0}
AsksSome GivenUp to commands = Unit {0}

-- from one stage to another these prompts were answered, or given up
abbrev pub HasTalked : (PoolFault → Type 0) → Stage → Stage → List Prompt → Type 0 → Pool → Pool → List Call → List Call → Type 0
HasTalked IsFault Idle Idle prompts rose old pool added now = NothingSaid old pool added
HasTalked IsFault Idle Begun prompts rose old pool added now = AreAnswered prompts rose old pool added
HasTalked IsFault Idle GivenUp prompts rose old pool added now = IsLeftOff IsFault prompts rose old pool added now
HasTalked IsFault Begun Idle prompts rose old pool added now = ⊥
HasTalked IsFault Begun Begun prompts rose old pool added now = AreAnswered prompts rose old pool added
HasTalked IsFault Begun GivenUp prompts rose old pool added now = IsLeftOff IsFault prompts rose old pool added now
HasTalked IsFault GivenUp Idle prompts rose old pool added now = ⊥
HasTalked IsFault GivenUp Begun prompts rose old pool added now = ⊥
HasTalked IsFault GivenUp GivenUp prompts rose old pool added now = NothingSaid old pool added

-- ---- what calls do

-- a language has this path, or none
abbrev pub MayBePath : Option (List ℕ) → List ℕ → Type 0
MayBePath None path = Unit {0}
MayBePath (Some known) path = path ≡ known

module _ {C : Type 0} (s : Servers C) where
  -- the pool and the servers are those that were lent, and are as they may become
  pub record IsLent (old new : ReduceSlot C) : Type 0 where
    pub pool : new.pool.ghost_name ≡ old.pool.ghost_name
    pub servers : new.servers.ghost_name ≡ old.servers.ghost_name
    pub keeps : StaysAsMade old.pool.now new.pool.now
    pub later : s.faults old.servers.now ≤ s.faults new.servers.now

  -- the child was reset, where the talk begins
  abbrev pub AfterBegin : List ℕ → List (List ℕ) → ReduceSlot C → ReduceSlot C → Result (Unit {0}) PoolFault → List Call → List Call → List Call → Type 0
  AfterBegin path reduces old new (Ok done) before added now =
      AllAnswered (HasRisen s old.servers.now new.servers.now) (opening old.stage Begun old.pool.now.width (is_fresh path old.pool.now)) added
      × IsReset s.functions s.honest new.pool.now path now × HasItsChildren new.pool.now now
  AfterBegin path reduces old new (Err fault) before added now =
      Refused s.functions s.honest (reduce_job path reduces) (opening old.stage Begun old.pool.now.width (is_fresh path old.pool.now)) (HasRisen s old.servers.now new.servers.now) fault before added

  pub record Begins (path : List ℕ) (old new : ReduceSlot C) (result : Result (Unit {0}) PoolFault) : Type 0 where
    pub lent : IsLent old new
    pub stage : OnOk result (new.stage ≡ Begun)
    pub mapping : started_of new.pool.now ≡ started_of old.pool.now
    pub ends : EndsTwice s old.servers.now new.servers.now result
    pub went : (reduces : List (List ℕ)) (calls : List Call) → s.may_follow old.servers.now calls → HasItsChildren old.pool.now calls → (old.stage ≡ Begun → IsReset s.functions s.honest old.pool.now path calls)
        → Went (s.may_follow new.servers.now) (reduce_job path reduces) old.pool.now.width calls (AfterBegin path reduces old new result calls)

module _ {C : Type 0} (s : Servers C) (language : List ℕ) where
  -- after these calls the talk is at its stage, by the path of the language
  pub record Stands (slot : ReduceSlot C) (path : List ℕ) (calls : List Call) : Type 0 where
    pub known : MayBePath (path_in (languages_of slot.pool.now) language) path
    pub follows : s.may_follow slot.servers.now calls
    pub children : HasItsChildren slot.pool.now calls
    pub ready : slot.stage ≡ Begun → IsReset s.functions s.honest slot.pool.now path calls

  module _ (reduces : List (List ℕ)) where
    -- the talk between two states: some values were asked for by these sources
    pub record Stretch (IsFault : PoolFault → Type 0) (path : List ℕ) (old new : ReduceSlot C) (added now : List Call) : Type 0 where
      pub commands : List Command
      pub each : AllByRecursion (IsReduction reduces) commands
      pub some : AsksSome old.stage new.stage commands
      pub talked : HasTalked IsFault old.stage new.stage (talk_prompts old.stage new.stage old.pool.now.width (is_fresh path old.pool.now) commands)
          (HasRisen s old.servers.now new.servers.now) old.pool.now new.pool.now added now
      pub there : HasItsChildren new.pool.now now
      pub ready : new.stage ≡ Begun → IsReset s.functions s.honest new.pool.now path now

    -- what calls that answer a value may do: they talk on, and the pool and the servers are those that they were lent
    pub record Goes (old new : ReduceSlot C) : Type 0 where
      pub pool : new.pool.ghost_name ≡ old.pool.ghost_name
      pub servers : new.servers.ghost_name ≡ old.servers.ghost_name
      pub keeps : StaysAsMade old.pool.now new.pool.now
      pub later : s.faults old.servers.now ≤ s.faults new.servers.now
      pub stays : old.stage ≡ GivenUp → new.stage ≡ GivenUp
      pub talks : (path : List ℕ) (calls : List Call) → Stands old path calls
          → WentReducing (s.may_follow new.servers.now) path reduces old.pool.now.width calls (Stretch (λ fault. ⊥) path old new)

    -- a fault was answered: it ended the talk, but for want of memory outside the slot, and has its cause among the calls that were added
    pub record Fails (old new : ReduceSlot C) (fault : PoolFault) : Type 0 where
      pub pool : new.pool.ghost_name ≡ old.pool.ghost_name
      pub servers : new.servers.ghost_name ≡ old.servers.ghost_name
      pub keeps : StaysAsMade old.pool.now new.pool.now
      pub later : s.faults old.servers.now ≤ s.faults new.servers.now
      pub talks : (path : List ℕ) (calls : List Call) → Stands old path calls
          → WentReducing (s.may_follow new.servers.now) path reduces old.pool.now.width calls (λ added now.
          Stretch (λ met. met ≡ fault) path old new added now
          × ((fault ≡ UnknownLanguage) ⊎ IsCaused s.functions s.honest (reduce_job path reduces) added calls fault))
      pub given_up : fault ≢ NoMemory → new.stage ≡ GivenUp
      pub silent : old.stage ≡ GivenUp → fault ≡ NoMemory
      pub twice : fault ≡ ServerFault → RoseBy 2 (s.faults old.servers.now) (s.faults new.servers.now)
      pub unknown : fault ≡ UnknownLanguage → path_in (languages_of old.pool.now) language ≡ None

  -- ---- values

  -- on an honest path the source compiles
  abbrev pub Compiles : List ℕ → ReduceSlot C → Type 0
  Compiles source slot = (path : List ℕ) (calls : List Call) → Stands slot path calls → s.honest path → (s.functions path).reduce_compiles source ≡ true

  -- on an honest path this is what the function of the path makes of the rows
  abbrev pub IsRightFor : List ℕ → ReduceSlot C → List Row → Json → Type 0
  IsRightFor source slot rows value = (path : List ℕ) (calls : List Call) → Stands slot path calls → s.honest path → value ≡ (s.functions path).reduce_of source (map reduce_row rows)

  -- where values are right for parts, this is right for all rows together
  abbrev pub Rejoins : List ℕ → ReduceSlot C → List Json → Json → Type 0
  Rejoins source slot values value = (parts : List (List Row)) → IsSomeList parts → AllByRecursion IsSomeList parts → AllZip (IsRightFor source slot) parts values → IsRightFor source slot (joined parts) value

  -- ---- private clauses

  -- the calls talk on, whatever other sources there are
  abbrev pub Talks : List ℕ → ReduceSlot C → ReduceSlot C → Type 0
  Talks source old new = (reduces : List (List ℕ)) → IsAmong reduces source → Goes reduces old new

  -- and a fault has its cause
  abbrev pub Blames : List ℕ → ReduceSlot C → ReduceSlot C → PoolFault → Type 0
  Blames source old new fault = (reduces : List (List ℕ)) → IsAmong reduces source → Fails reduces old new fault

  -- on an honest path the source compiles, and the value is what the functions of the path make of what was asked
  abbrev pub IsMadeOf : List ℕ → Command → ReduceSlot C → Json → Type 0
  IsMadeOf source asked slot value = (path : List ℕ) (calls : List Call) → Stands slot path calls → s.honest path
      → ((s.functions path).reduce_compiles source ≡ true) × IsValueBy (s.functions path) asked value

  -- one command is asked
  pub record Asks (source : List ℕ) (asked : Command) (old new : ReduceSlot C) (result : Result Term PoolFault) : Type 0 where
    pub talks : OnOk result (Talks source old new)
    pub bounded : IfOk result (λ value. IsWithinBounds (json value))
    pub made : IfOk result (λ value. IsMadeOf source asked old (json value))
    pub cause : IfErr result (Blames source old new)

  -- by its line
  abbrev pub AsksBy : List ℕ → ReduceSlot C → ReduceSlot C → Result Term PoolFault → Type 0
  AsksBy line old new result = (source : List ℕ) (asked : Command) → IsLineOf asked line → ReducesBy source asked → Asks source asked old new result

  -- a command is asked, and what is done after a refusal isn't done yet
  abbrev pub AfterTry : List ℕ → List (List ℕ) → List ℕ → Command → ReduceSlot C → ReduceSlot C → Result Term PoolFault → List Call → List Call → List Call → Type 0
  AfterTry path reduces source asked old new (Ok value) before added now =
      AllAnswered (HasRisen s old.servers.now new.servers.now) (talk_prompts old.stage Begun old.pool.now.width (is_fresh path old.pool.now) (asked ∷ [])) added
      × IsReset s.functions s.honest new.pool.now path now × HasItsChildren new.pool.now now
      × (s.honest path → ((s.functions path).reduce_compiles source ≡ true) × IsValueBy (s.functions path) asked (json value))
  AfterTry path reduces source asked old new (Err fault) before added now =
      Refused s.functions s.honest (reduce_job path reduces) (talk_prompts old.stage Begun old.pool.now.width (is_fresh path old.pool.now) (asked ∷ [])) (HasRisen s old.servers.now new.servers.now) fault before added

  pub record Tries (line : List ℕ) (old new : ReduceSlot C) (result : Result Term PoolFault) : Type 0 where
    pub lent : IsLent s old new
    pub stage : OnOk result (new.stage ≡ Begun)
    pub mapping : started_of new.pool.now ≡ started_of old.pool.now
    pub bounded : IfOk result (λ value. IsWithinBounds (json value))
    pub twice : result ≡ Err ServerFault → RoseBy 2 (s.faults old.servers.now) (s.faults new.servers.now)
    pub went : (path : List ℕ) (reduces : List (List ℕ)) (source : List ℕ) (asked : Command) (calls : List Call) → path_in (languages_of old.pool.now) language ≡ Some path → IsAmong reduces source → IsLineOf asked line → ReducesBy source asked → Stands old path calls
        → Went (s.may_follow new.servers.now) (reduce_job path reduces) old.pool.now.width calls (AfterTry path reduces source asked old new result calls)
    pub unknown : path_in (languages_of old.pool.now) language ≡ None → (result ≡ Err UnknownLanguage) × (new.servers.now ≡ old.servers.now) × (new.pool.now ≡ old.pool.now)
    pub known : result ≡ Err UnknownLanguage → path_in (languages_of old.pool.now) language ≡ None

  -- these values are those of parts of the rows, of which none is empty
  pub record ArePartsOf (source : List ℕ) (rows : List Row) (values : List Json) (functions : Functions) : Type 0 where
    pub parts : List (List ReduceRow)
    pub some : AllByRecursion IsSomeList parts
    pub whole : joined parts ≡ map reduce_row rows
    pub are : values ≡ map (functions.reduce_of source) parts

  abbrev pub AreRightFor : List ℕ → ReduceSlot C → List Row → List Json → Type 0
  AreRightFor source slot rows values = (path : List ℕ) (calls : List Call) → Stands slot path calls → s.honest path → ArePartsOf source rows values (s.functions path)

  -- one value more is taken in, of some rows behind the others
  abbrev pub FoldsIn : List ℕ → ReduceSlot C → List Json → Json → List Json → Type 0
  FoldsIn source slot values value folded = (first : ReduceSlot C) (rows more : List Row) → Talks source first slot → AreRightFor source first rows values → IsSomeList more → IsRightFor source first more value
      → AreRightFor source first (rows ++ more) folded

  -- the values of all parts are made one
  abbrev pub IsWholeOf : List ℕ → ReduceSlot C → List Json → Json → Type 0
  IsWholeOf source slot values value = (first : ReduceSlot C) (rows : List Row) → Talks source first slot → AreRightFor source first rows values → IsRightFor source first rows value
