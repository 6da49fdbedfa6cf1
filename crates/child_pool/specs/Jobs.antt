-- What a request asks of the query servers, and which calls it may make.
use Rattle.std.specs.Prelude.{◌≡◌, ◌≢◌, ◌⊎◌, ◌<◌, ◌≤◌, ℕ, List, [], ◌∷◌, ◌++◌, length, true, Option, Some, None}
use Rattle.std.specs.List.{AllByRecursion}
use Rattle.json_terms.specs.Json.{Json}
use Rattle.view_ports.specs.declared.command.Command.{Command}
use Rattle.view_ports.specs.declared.command.Command.TheVariants.{Reset, AddFun, MapDoc, Reduce, Rereduce, Other}
use Rattle.view_ports.specs.Calls.{Call, start, send, receive, stop, Session, child, slot_of}
use Rattle.view_ports.specs.Functions.{line_limit, IsReduceRowWithinBounds, IsSomeList, IsWithinBounds}
use Rattle.view_ports.specs.ReduceRow.{ReduceRow}
use Rattle.view_ports.specs.Honest.{log_limit}
use Rattle.query_protocol.specs.CommandLines.{command_line}

-- a design's path, the sources of its map functions in order of the views, the documents that are mapped, and the sources of the
-- reduce functions that are asked
pub record Job : Type 0 where
  pub path : List ℕ
  pub sources : List (List ℕ)
  pub documents : List (List (List ℕ × Json))
  pub reduces : List (List ℕ)

-- documents are mapped
abbrev pub job_of : List ℕ → List (List ℕ) → List (List (List ℕ × Json)) → Job
job_of path sources documents = record { path = path; sources = sources; documents = documents; reduces = [] }

-- rows are reduced
abbrev pub reduce_job : List ℕ → List (List ℕ) → Job
reduce_job path reduces = record { path = path; sources = []; documents = []; reduces = reduces }

-- one of the list
abbrev pub IsAmong : {A : Type 0} → List A → A → Type 0
IsAmong [] x = ⊥
IsAmong (y ∷ ys) x = (x ≡ y) ⊎ IsAmong ys x

-- what one line asks the value of: some rows, or some values of parts, 32 at most
abbrev pub IsRowPart : List ReduceRow → Type 0
IsRowPart rows = IsSomeList rows × AllByRecursion IsReduceRowWithinBounds rows × (length rows ≤ 32)

abbrev pub IsValuePart : List Json → Type 0
IsValuePart values = IsSomeList values × AllByRecursion IsWithinBounds values × (length values ≤ 32)

-- a command that maps the job's documents by the job's functions, or reduces by them
abbrev pub IsCommandOf : Job → Command → Type 0
IsCommandOf job Reset = Unit {0}
IsCommandOf job (AddFun source) = IsAmong job.sources source
IsCommandOf job (MapDoc document) = IsAmong job.documents document
IsCommandOf job (Reduce source rows) = IsAmong job.reduces source × IsRowPart rows
IsCommandOf job (Rereduce source values) = IsAmong job.reduces source × IsValuePart values
IsCommandOf job Other = ⊥

abbrev pub IsLineOfJob : Job → List ℕ → Type 0
IsLineOfJob job line = (command : Command) × IsCommandOf job command × (line ≡ command_line command)

-- a prompt of the job to a child that has these sources: where it maps a document, they are all those of the job, and where it
-- reduces, there is something to reduce, within the bounds of a line
abbrev pub IsPromptOf : Job → List (List ℕ) → Command → Type 0
IsPromptOf job sources Reset = Unit {0}
IsPromptOf job sources (AddFun source) = IsAmong job.sources source
IsPromptOf job sources (MapDoc document) = IsAmong job.documents document × (sources ≡ job.sources)
IsPromptOf job sources (Reduce source rows) = IsAmong job.reduces source × IsRowPart rows
IsPromptOf job sources (Rereduce source values) = IsAmong job.reduces source × IsValuePart values
IsPromptOf job sources Other = ⊥

-- a child is there, of whose session no call failed
abbrev pub HasChild : Option Session → Type 0
HasChild None = ⊥
HasChild (Some s) = s.sound ≡ true

-- and a line was sent to it that it hasn't answered, behind which it printed no more log lines than it may
abbrev pub IsAsked : Option Session → Type 0
IsAsked None = ⊥
IsAsked (Some s) = (s.waiting ≢ []) × (s.sound ≡ true) × (s.logs ≤ log_limit)

-- A child is started by the job's path alone, a line of the job that isn't too long is sent to a slot that has a child, and
-- a line is received from a child that was asked. After a call that failed nothing is sent to that child or received from it.
abbrev pub IsLawful : Job → Call → List Call → Type 0
IsLawful job (start slot path started) before = path ≡ job.path
IsLawful job (send slot line sent) before = IsLineOfJob job line × (length line ≤ line_limit) × HasChild (child slot before)
IsLawful job (receive slot line) before = IsAsked (child slot before)
IsLawful job (stop slot) before = Unit {0}

-- each of these calls is on the slot and lawful: the newest first, where `before` were made before them
abbrev pub AllLawful : Job → ℕ → List Call → List Call → Type 0
AllLawful job slot [] before = Unit {0}
AllLawful job slot (call ∷ added) before = (slot_of call ≡ slot) × IsLawful job call (added ++ before) × AllLawful job slot added before

-- a call that stops a child
abbrev pub IsStop : Call → Type 0
IsStop (start slot path started) = ⊥
IsStop (send slot line sent) = ⊥
IsStop (receive slot line) = ⊥
IsStop (stop slot) = Unit {0}

-- A pool of this width maps: it makes the call on one of the slots below the width, where it is lawful, or it stops the child of the
-- slot at the width, which is for reduces.
abbrev pub IsLawfulAt : Job → ℕ → Call → List Call → Type 0
IsLawfulAt job width call before = ((slot_of call < width) × IsLawful job call before) ⊎ ((slot_of call ≡ width) × IsStop call)

-- It reduces by some sources of a path: it makes the call on the slot at the width, where it is lawful, or it stops the child of another.
abbrev pub IsReducingAt : List ℕ → List (List ℕ) → ℕ → Call → List Call → Type 0
IsReducingAt path reduces width call before =
    ((slot_of call ≡ width) × IsLawful (reduce_job path reduces) call before × (reduces ≢ [])) ⊎ ((slot_of call ≤ width) × IsStop call)

-- each of these calls is one by which the pool reduces: the newest first, where `before` were made before them
abbrev pub AllReducing : List ℕ → List (List ℕ) → ℕ → List Call → List Call → Type 0
AllReducing path reduces width [] before = Unit {0}
AllReducing path reduces width (call ∷ added) before = IsReducingAt path reduces width call (added ++ before) × AllReducing path reduces width added before

-- each of these calls is one that the pool may make
abbrev pub AllLawfulIn : Job → ℕ → List Call → List Call → Type 0
AllLawfulIn job width [] before = Unit {0}
AllLawfulIn job width (call ∷ added) before = IsLawfulAt job width call (added ++ before) × AllLawfulIn job width added before
