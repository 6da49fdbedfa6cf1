-- The rows of a document through a child.
use Rattle.std.specs.Prelude.{◌≡◌, ◌≤◌, ℕ, List, [], ◌∷◌, length, Option, Some, None, Result, Ok, Err}
use Rattle.std.specs.List.{AllByRecursion}
use Rattle.json_terms.specs.Json.{Json, depth}
use Rattle.json_terms.specs.Text.{text_of}
use Rattle.json_terms.specs.declared.rows.RowLists.{RowLists}
use Rattle.view_ports.specs.declared.command.Command.TheVariants.{MapDoc}
use Rattle.view_ports.specs.declared.servers.Servers.{Ghosts as Servers}
use Rattle.view_ports.specs.Calls.{Call}
use Rattle.view_ports.specs.Functions.{Functions, IsMappable, part_depth, part_limit, source_limit}
use Rattle.view_ports.specs.Honest.{rows_of}
use Rattle.query_protocol.specs.Replies.{AreFew}
use Rattle.child_pool.specs.declared.pool_fault.PoolFault.{PoolFault}
use Rattle.child_pool.specs.Ends.{HasRisen}
use Rattle.child_pool.specs.Histories.{Went, course}
use Rattle.child_pool.specs.Jobs.{IsAmong, Job, job_of}
use Rattle.child_pool.specs.Refused.{Refused, TryRefused}
use Rattle.child_pool.specs.Sessions.{HasTold}
use Rattle.child_pool.specs.Prompts.{document_prompt}
use Rattle.child_pool.specs.Talk.{AreTurns, Due, asks}
use Rattle.child_pool.specs.Tries.{HasFailedIn, IsAnswered, Prompt}

-- on any path a key or a value is as long and as deep at most as a reply may hold it
pub record IsPart (t : Json) : Type 0 where
  pub size : length (text_of t) ≤ part_limit
  pub nested : depth t ≤ part_depth

-- the rows of each source, of keys and values like that
abbrev pub AreParts : List (List (Json × Json)) → Type 0
AreParts rows = AllByRecursion (AllByRecursion (λ row. IsPart row.0 × IsPart row.1)) rows

-- the rows of a document on any path: a list for each source, none too long or too deep and not too many
pub record AreBoundedRows (sources : ℕ) (rows : List (List (Json × Json))) : Type 0 where
  pub each : length rows ≡ sources
  pub parts : AreParts rows
  pub few : AreFew rows

-- on any path, whatever the servers tell: for each document a list of rows for each source, none too long or too deep and not too many
pub record AreBounded (sources documents : ℕ) (lists : List (List (List (Json × Json)))) : Type 0 where
  pub each : length lists ≡ documents
  pub all : AllByRecursion (λ rows. length rows ≡ sources) lists
  pub parts : AllByRecursion AreParts lists
  pub few : AllByRecursion AreFew lists

module _ (functions : List ℕ → Functions) (honest : List ℕ → Type 0) where
  -- on an honest path these are the rows of the path's map functions, where the document can be stored
  abbrev pub AreHonestRows : List ℕ → List (List ℕ) → List (List ℕ × Json) → List (List (Json × Json)) → Type 0
  AreHonestRows path sources document rows = honest path → length sources ≤ source_limit → IsMappable document → rows ≡ rows_of (functions path) sources document

  -- a document was mapped: the session is as ready as before, of the calls `P` holds, and there is a list of rows for each source,
  -- which are those of an honest path
  pub record HasMapped (job : Job) (slot : ℕ) (document : List (List ℕ × Json)) (P : List Call → Type 0) (rows : List (List (Json × Json))) (added now : List Call) : Type 0 where
    pub told : HasTold functions honest job.path job.sources slot now
    pub tried : P added
    pub right : AreHonestRows job.path job.sources document rows
    pub bounded : AreBoundedRows (length job.sources) rows

  abbrev pub AfterMap : Job → ℕ → List (List ℕ × Json) → Prompt → Type 0 → Result RowLists PoolFault → List Call → List Call → List Call → Type 0
  AfterMap job slot document prompt rose (Ok rows) before added now = HasMapped job slot document (IsAnswered rose prompt) rows added now
  AfterMap job slot document prompt rose (Err f) before added now = Refused functions honest job (prompt ∷ []) rose f before added

  -- one prompt's answer, without what came before it
  abbrev pub AfterAnswer : Job → ℕ → List (List ℕ × Json) → List Due → Result (Option RowLists) PoolFault → List Call → List Call → List Call → Type 0
  AfterAnswer job slot document dues (Ok (Some rows)) before added now = HasMapped job slot document (λ calls. AreTurns dues (course calls)) rows added now
  AfterAnswer job slot document dues (Ok None) before added now = HasFailedIn dues added
  AfterAnswer job slot document dues (Err f) before added now = TryRefused functions honest job slot dues f before added

-- ---- what is promised of it

module _ {C : Type 0} (s : Servers C) (old new : C) (slot : ℕ) where
  -- the turns that map a document by so many sources
  abbrev pub map_turns : List (List ℕ) → List (List ℕ × Json) → List Due
  map_turns sources document = asks slot (MapDoc document) (length sources)

  -- a child that is ready is asked once for the rows of a document of the job
  abbrev pub AsksRows : List (List ℕ) → List (List ℕ × Json) → Result (Option RowLists) PoolFault → Type 0
  AsksRows sources document result = (path : List ℕ) (documents : List (List (List ℕ × Json))) (calls : List Call) → s.may_follow old calls
      → IsAmong documents document → HasTold s.functions s.honest path sources slot calls
      → Went (s.may_follow new) (job_of path sources documents) slot calls
      (AfterAnswer s.functions s.honest (job_of path sources documents) slot document (map_turns sources document) result calls)

  -- and in two attempts at most
  abbrev pub MapsOne : List ℕ → List (List ℕ) → List (List ℕ × Json) → Result RowLists PoolFault → Type 0
  MapsOne path sources document result = (documents : List (List (List ℕ × Json))) (calls : List Call) → s.may_follow old calls
      → IsAmong documents document → HasTold s.functions s.honest path sources slot calls
      → Went (s.may_follow new) (job_of path sources documents) slot calls
      (AfterMap s.functions s.honest (job_of path sources documents) slot document (document_prompt slot sources document) (HasRisen s old new) result calls)
