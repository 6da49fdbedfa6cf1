-- The pool: the paths of languages, and the children that it started.
use Rattle.std.specs.Prelude.{◌≡◌, ◌⊎◌, ◌<◌, ◌≤◌, ◌++◌, ℕ, List, [], bytes_eq, if◌then◌else◌, map, max, length, Bool, false, Option, Some, None, Result, Ok, Err, MatchOption}
use Rattle.std.specs.List.{AllByRecursion, AllZip}
use Rattle.json_terms.specs.Json.{Json}
use Rattle.view_ports.specs.Calls.{Call, child}
use Rattle.view_ports.specs.Functions.{Functions}
use Rattle.query_protocol.specs.declared.reply.Reply.{Reply}
use Rattle.query_protocol.specs.declared.reply.Reply.TheVariants.{Log, Yes, Rows, Value, Compile}
use Rattle.query_protocol.specs.Replies.{AreFew}
use Rattle.child_pool.specs.declared.pool.Language.{Language}
use Rattle.child_pool.specs.declared.pool.Pool.{Pool}
use Rattle.child_pool.specs.declared.pool.Started.{Started}
use Rattle.child_pool.specs.declared.doc_rows.DocRowLists.{DocRowLists}
use Rattle.child_pool.specs.declared.pool_fault.PoolFault.{PoolFault}
use Rattle.child_pool.specs.Histories.{AllStops}
use Rattle.child_pool.specs.Jobs.{Job}
use Rattle.child_pool.specs.Refused.{Refused, RefusedIn}
use Rattle.child_pool.specs.Sessions.{HasTold, IsThere}
use Rattle.child_pool.specs.Mapping.{AreHonestRows, AreParts}
use Rattle.child_pool.specs.Prompts.{document_prompts, slots_prompts}
use Rattle.child_pool.specs.Talk.{Due}
use Rattle.child_pool.specs.Tries.{AllAnswered, Prompt}

-- the rows that a reply says
abbrev pub rows_said : Reply → List (List (Json × Json))
rows_said (Rows rows) = rows
rows_said Log = []
rows_said Yes = []
rows_said (Value value) = []
rows_said Compile = []

-- the languages that the words name, with their paths
abbrev pub entry_of : Language → List ℕ × List ℕ
entry_of language = (language.name, language.path)

abbrev pub languages_of : Pool → List (List ℕ × List ℕ)
languages_of pool = map entry_of pool.languages.items

-- how many children map documents: those of the slots below this one
abbrev pub width_of : Pool → ℕ
width_of pool = pool.width

-- the children that it keeps
abbrev pub started_of : Pool → Option Started
started_of pool = pool.started

-- the path of the child that reduces, where it keeps one
abbrev pub reducer_of : Pool → Option (List ℕ)
reducer_of pool = pool.reducer

-- whether it keeps one of this path
abbrev pub is_reducer : List ℕ → Option (List ℕ) → Bool
is_reducer path None = false
is_reducer path (Some started) = bytes_eq started path

-- how many of the children that are kept are of this path: all or none
abbrev pub kept_of : List ℕ → Option Started → ℕ
kept_of path None = 0
kept_of path (Some started) = if bytes_eq started.path path then started.count else 0

-- in each of the first slots is a child that was started by this path
abbrev pub AreThere : List ℕ → ℕ → List Call → Type 0
AreThere path count calls = (slot : ℕ) → slot < count → IsThere path slot calls

-- the child that it remembers for reduces is there
abbrev pub HasItsReducer : Pool → List Call → Type 0
HasItsReducer pool calls = MatchOption pool.reducer (Unit {0}) (λ path. IsThere path pool.width calls)

-- the children that the pool remembers are there: those that map, as many as the width at most, and the one that reduces
pub record HasItsChildren (pool : Pool) (calls : List Call) : Type 0 where
  pub mapping : MatchOption pool.started (Unit {0}) (λ started. (started.count ≤ pool.width) × AreThere started.path started.count calls)
  pub reducing : HasItsReducer pool calls

-- the pool keeps the child that reduces
abbrev pub KeepsReducer : Pool → Pool → Type 0
KeepsReducer old pool = pool.reducer ≡ old.reducer

-- the pool remembers so many children, of this path
abbrev pub IsKept : Pool → List ℕ → ℕ → Type 0
IsKept pool path count = pool.started ≡ Some (record { path = path; count = count })

-- so many of the children that it remembers are of this path: all or none
abbrev pub IsKeptOf : Pool → List ℕ → ℕ → Type 0
IsKeptOf pool path count = IsKept pool path count ⊎ ((count ≡ 0) × ((other : ℕ) → IsKept pool path other → ⊥))

-- of so many as it remembers of this path `P` holds
abbrev pub ForKept : Pool → List ℕ → (ℕ → Type 0) → Type 0
ForKept pool path P = (kept : ℕ) × IsKeptOf pool path kept × P kept

-- it remembers so many children of this path at least
abbrev pub AreKept : Pool → List ℕ → ℕ → Type 0
AreKept pool path slots = (count : ℕ) × (slots ≤ count) × IsKept pool path count

-- no slot up to the width has a child
abbrev pub NoneIsLeft : ℕ → List Call → Type 0
NoneIsLeft width calls = (slot : ℕ) → slot ≤ width → child slot calls ≡ None

-- no child is remembered, and none is left in a pool of this width
pub record AreStopped (width : ℕ) (pool : Pool) (calls : List Call) : Type 0 where
  pub forgotten : pool.started ≡ None
  pub reducer : pool.reducer ≡ None
  pub stopped : NoneIsLeft width calls

module _ (functions : List ℕ → Functions) (honest : List ℕ → Type 0) where
  -- in each of the first slots the child has the job's sources
  abbrev pub AreTold : Job → ℕ → List Call → Type 0
  AreTold job slots calls = (slot : ℕ) → slot < slots → HasTold functions honest job.path job.sources slot calls

  -- and so many slots have a child of its path
  pub record StandReady (job : Job) (slots kept : ℕ) (calls : List Call) : Type 0 where
    pub told : AreTold job slots calls
    pub there : AreThere job.path kept calls

  -- they have them and are remembered, among others of this path, which are all there
  pub record IsReady (job : Job) (slots : ℕ) (pool : Pool) (calls : List Call) : Type 0 where
    pub remembered : AreKept pool job.path slots
    pub there : HasItsChildren pool calls
    pub told : AreTold job slots calls

  -- prompts were refused, and then all children were stopped, and nothing else was done
  pub record HasGivenUp (job : Job) (width : ℕ) (prompts : List Prompt) (rose : Type 0) (pool : Pool) (f : PoolFault) (before added now : List Call) : Type 0 where
    pub tried : List Call
    pub stops : List Call
    pub is : added ≡ stops ++ tried
    pub only : AllStops stops
    pub refused : Refused functions honest job prompts rose f before tried
    pub stopped : AreStopped width pool now

  -- a refusal stops all children
  pub record GaveUp (job : Job) (width : ℕ) (dues : List Due) (rose : Type 0) (pool : Pool) (f : PoolFault) (before added now : List Call) : Type 0 where
    pub refused : RefusedIn functions honest job width dues rose f before added
    pub stopped : AreStopped width pool now

  -- the first slots are made ready, or there is a refusal
  abbrev pub AfterReadying : Job → ℕ → ℕ → Type 0 → Result (Unit {0}) PoolFault → List Call → List Call → List Call → Type 0
  AfterReadying job kept slots rose (Ok done) before added now = AreTold job slots now × AllAnswered rose (slots_prompts job.sources kept slots) added
  AfterReadying job kept slots rose (Err f) before added now = Refused functions honest job (slots_prompts job.sources kept slots) rose f before added

  -- the first slots were made ready, where so many had a child: where there are any, the pool remembers these and the kept ones, and no
  -- others
  abbrev pub HasPrepared : Job → ℕ → ℕ → Type 0 → Pool → List Call → List Call → Type 0
  HasPrepared job kept slots rose pool added now =
      AreTold job slots now × AllAnswered rose (slots_prompts job.sources kept slots) added × (0 < slots → IsKept pool job.path (max slots kept)) × HasItsChildren pool now

  -- after a refusal the children may be as they were left
  abbrev pub AfterTrying : Job → Pool → ℕ → Type 0 → Pool → Result (Unit {0}) PoolFault → List Call → List Call → List Call → Type 0
  AfterTrying job old slots rose pool (Ok done) before added now = ForKept old job.path (λ kept. HasPrepared job kept slots rose pool added now) × KeepsReducer old pool
  AfterTrying job old slots rose pool (Err f) before added now =
      ForKept old job.path (λ kept. Refused functions honest job (slots_prompts job.sources kept slots) rose f before added)

  -- a refusal stops all children
  abbrev pub AfterPreparing : Job → Pool → ℕ → Type 0 → Pool → Result (Unit {0}) PoolFault → List Call → List Call → List Call → Type 0
  AfterPreparing job old slots rose pool (Ok done) before added now = ForKept old job.path (λ kept. HasPrepared job kept slots rose pool added now) × KeepsReducer old pool
  AfterPreparing job old slots rose pool (Err f) before added now =
      ForKept old job.path (λ kept. HasGivenUp job old.width (slots_prompts job.sources kept slots) rose pool f before added now)

  -- for each document a list of rows for each source, none too long or too deep and not too many, which on an honest path are those of
  -- the path's map functions, where the document can be stored
  pub record AreRowsOf (path : List ℕ) (sources : List (List ℕ)) (documents : List (List (List ℕ × Json))) (lists : List (List (List (Json × Json)))) : Type 0 where
    pub each : length lists ≡ length documents
    pub all : AllByRecursion (λ rows. length rows ≡ length sources) lists
    pub parts : AllByRecursion AreParts lists
    pub few : AllByRecursion AreFew lists
    pub right : AllZip (AreHonestRows functions honest path sources) documents lists

  -- documents were mapped one after another; the children of the first slots have the job's sources still, and those that the pool remembers
  -- are there
  pub record HasMappedAll (job : Job) (slots : ℕ) (documents : List (List (List ℕ × Json))) (rose : Type 0) (pool : Pool) (lists : List (List (List (Json × Json)))) (added now : List Call) : Type 0 where
    pub there : HasItsChildren pool now
    pub told : AreTold job slots now
    pub answered : AllAnswered rose (document_prompts job.sources documents) added
    pub rows : AreRowsOf job.path job.sources documents lists

  -- documents were mapped one after another by the child of slot 0
  pub record HasMappedEach (job : Job) (slots kept : ℕ) (documents : List (List (List ℕ × Json))) (rose : Type 0) (lists : List (List (List (Json × Json)))) (added now : List Call) : Type 0 where
    pub stand : StandReady job slots kept now
    pub answered : AllAnswered rose (document_prompts job.sources documents) added
    pub rows : AreRowsOf job.path job.sources documents lists

  abbrev pub AfterMapping : Job → ℕ → ℕ → List (List (List ℕ × Json)) → Type 0 → Result DocRowLists PoolFault → List Call → List Call → List Call → Type 0
  AfterMapping job slots kept documents rose (Ok lists) before added now = HasMappedEach job slots kept documents rose lists added now
  AfterMapping job slots kept documents rose (Err f) before added now = Refused functions honest job (document_prompts job.sources documents) rose f before added

  abbrev pub AfterBatch : Job → ℕ → ℕ → List (List (List ℕ × Json)) → Type 0 → Pool → Result DocRowLists PoolFault → List Call → List Call → List Call → Type 0
  AfterBatch job width slots documents rose pool (Ok lists) before added now = HasMappedAll job slots documents rose pool lists added now
  AfterBatch job width slots documents rose pool (Err f) before added now = HasGivenUp job width (document_prompts job.sources documents) rose pool f before added now
