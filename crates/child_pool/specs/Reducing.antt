-- The value of rows, or of the values of parts, through the child that reduces: it was reset, and has no map functions.
use Rattle.std.specs.Prelude.{◌≡◌, ℕ, List, [], ◌∷◌, ◌++◌, Bool, true, ◌&&◌, nat_le, Option, Some, None, Result, Ok, Err}
use Rattle.json_terms.specs.Json.{Json, depth}
use Rattle.json_terms.specs.Seen.{json}
use Rattle.json_terms.specs.declared.term.Row.{Row}
use Rattle.json_terms.specs.declared.term.Term.{Term}
use Rattle.json_terms.specs.declared.term.Term.TheVariants.{Null}
use Rattle.view_ports.specs.declared.command.Command.{Command}
use Rattle.view_ports.specs.declared.command.Command.TheVariants.{Reset, AddFun, MapDoc, Reduce, Rereduce, Other}
use Rattle.view_ports.specs.declared.servers.Servers.{Ghosts as Servers}
use Rattle.view_ports.specs.Calls.{Call}
use Rattle.view_ports.specs.Commands.{command}
use Rattle.view_ports.specs.Functions.{Functions, IsWithinBounds, part_depth}
use Rattle.query_protocol.specs.CommandLines.{command_line, IsProperCommand, IsWhole}
use Rattle.query_protocol.specs.declared.reply.Reply.{Reply}
use Rattle.query_protocol.specs.declared.reply.Reply.TheVariants as reply
use Rattle.child_pool.specs.declared.pool_fault.PoolFault.{PoolFault}
use Rattle.child_pool.specs.declared.pool_fault.PoolFault.TheVariants.{Compile}
use Rattle.child_pool.specs.Ends.{HasRisen}
use Rattle.child_pool.specs.Histories.{Went, course}
use Rattle.child_pool.specs.Jobs.{IsAmong, IsRowPart, IsValuePart, Job, reduce_job}
use Rattle.child_pool.specs.Refused.{Refused, TryRefused}
use Rattle.child_pool.specs.Sessions.{HasTold}
use Rattle.child_pool.specs.Stages.{anew}
use Rattle.child_pool.specs.Talk.{AreTurns, Due, asks}
use Rattle.child_pool.specs.Tries.{HasFailedIn, IsAnswered, Prompt}

-- the command reduces by this source: some rows, or some values, within the bounds of a line
abbrev pub ReducesBy : List ℕ → Command → Type 0
ReducesBy source Reset = ⊥
ReducesBy source (AddFun added) = ⊥
ReducesBy source (MapDoc document) = ⊥
ReducesBy source (Reduce reduced rows) = (reduced ≡ source) × IsRowPart rows
ReducesBy source (Rereduce reduced values) = (reduced ≡ source) × IsValuePart values
ReducesBy source Other = ⊥

-- what the functions of a path make of it
abbrev pub IsValueBy : Functions → Command → Json → Type 0
IsValueBy functions Reset value = ⊥
IsValueBy functions (AddFun added) value = ⊥
IsValueBy functions (MapDoc document) value = ⊥
IsValueBy functions (Reduce source rows) value = value ≡ functions.reduce_of source rows
IsValueBy functions (Rereduce source values) value = value ≡ functions.rereduce_of source values
IsValueBy functions Other value = ⊥

-- the prompt, to a child that was reset; a fresh one is reset first
abbrev pub reduce_prompt : ℕ → Command → Prompt
reduce_prompt slot asked = record { slot = slot; once = asks slot asked 0; again = anew slot [] 1 ++ asks slot asked 0 }

module _ (functions : List ℕ → Functions) (honest : List ℕ → Type 0) where
  -- rows or values were reduced: the session is as ready as before, of the calls `P` holds, and there is a value within the bounds; on an
  -- honest path the source compiles, and the value is what the path's functions make of it
  pub record HasReduced (job : Job) (slot : ℕ) (source : List ℕ) (asked : Command) (P : List Call → Type 0) (value : Json) (added now : List Call) : Type 0 where
    pub told : HasTold functions honest job.path [] slot now
    pub tried : P added
    pub compiles : honest job.path → (functions job.path).reduce_compiles source ≡ true
    pub right : honest job.path → IsValueBy (functions job.path) asked value
    pub bounded : IsWithinBounds value

  abbrev pub AfterReduce : Job → ℕ → List ℕ → Command → Type 0 → Result Term PoolFault → List Call → List Call → List Call → Type 0
  AfterReduce job slot source asked rose (Ok value) before added now = HasReduced job slot source asked (IsAnswered rose (reduce_prompt slot asked)) (json value) added now
  AfterReduce job slot source asked rose (Err f) before added now = Refused functions honest job (reduce_prompt slot asked ∷ []) rose f before added

  -- one prompt's answer, without what came before it
  abbrev pub AfterValue : Job → ℕ → List ℕ → Command → List Due → Result (Option Term) PoolFault → List Call → List Call → List Call → Type 0
  AfterValue job slot source asked dues (Ok (Some value)) before added now = HasReduced job slot source asked (λ calls. AreTurns dues (course calls)) (json value) added now
  AfterValue job slot source asked dues (Ok None) before added now = HasFailedIn dues added
  AfterValue job slot source asked dues (Err f) before added now = TryRefused functions honest job slot dues f before added

-- ---- what is promised of it

-- the line is that of the command, and reads as it
abbrev pub IsLineOf : Command → List ℕ → Type 0
IsLineOf asked line = (line ≡ command_line asked) × (command line ≡ asked)

module _ {C : Type 0} (s : Servers C) (old new : C) (slot : ℕ) where
  -- a child that was reset is asked once
  abbrev pub AsksValue : List ℕ → Result (Option Term) PoolFault → Type 0
  AsksValue line result = (path : List ℕ) (reduces : List (List ℕ)) (source : List ℕ) (asked : Command) (calls : List Call) → s.may_follow old calls
      → IsLineOf asked line → ReducesBy source asked → IsAmong reduces source → HasTold s.functions s.honest path [] slot calls
      → Went (s.may_follow new) (reduce_job path reduces) slot calls
      (AfterValue s.functions s.honest (reduce_job path reduces) slot source asked (asks slot asked 0) result calls)

  -- and in two attempts at most
  abbrev pub ReducesOne : List ℕ → List ℕ → Result Term PoolFault → Type 0
  ReducesOne path line result = (reduces : List (List ℕ)) (source : List ℕ) (asked : Command) (calls : List Call) → s.may_follow old calls
      → IsLineOf asked line → ReducesBy source asked → IsAmong reduces source → HasTold s.functions s.honest path [] slot calls
      → Went (s.may_follow new) (reduce_job path reduces) slot calls
      (AfterReduce s.functions s.honest (reduce_job path reduces) slot source asked (HasRisen s old new) result calls)

-- ---- for private clauses

-- a value is said, or the complaint that the source doesn't compile
abbrev pub value_said : Reply → Result Term PoolFault
value_said (reply.Value value) = Ok value
value_said reply.Compile = Err Compile
value_said reply.Log = Ok Null
value_said reply.Yes = Ok Null
value_said (reply.Rows rows) = Ok Null

-- a value, or a row, nests as deep at most as a server is given
abbrev pub is_shallow_value : Term → Bool
is_shallow_value value = nat_le (depth (json value)) part_depth

abbrev pub is_shallow_row : Row → Bool
is_shallow_row row = is_shallow_value row.key && is_shallow_value row.value

-- the line is the command's, has no newline, and reads as the command where it is a proper one
pub record IsReduceLine (asked : Command) (line : List ℕ) : Type 0 where
  pub spelled : line ≡ command_line asked
  pub whole : IsWhole line
  pub reads : IsProperCommand asked → command line ≡ asked
