-- What an honest query server answers (CouchDB documentation, "Query Server Protocol").
use Rattle.std.specs.Prelude.{◌≡◌, ◌⊎◌, ◌<◌, ◌≤◌, ℕ, List, [], ◌∷◌, map, length, Bool, true, false, bytes_eq, codes, ◌&&◌, ◌||◌, Option, Some, None, Result, Ok, Err, MatchBool}
use Rattle.std.specs.List.{AllByRecursion}
use Rattle.json_terms.specs.Json.{Json, is_true, Items, no_items, item}
use Rattle.json_terms.specs.Kinds.{text_in, items_in}
use Rattle.json_terms.specs.Reading.{reading}
use Rattle.json_terms.specs.Text.{text_of}
use Rattle.json_terms.specs.declared.fault.TermFault.{TermFault}
use Rattle.view_ports.specs.declared.command.Command.{Command}
use Rattle.view_ports.specs.declared.command.Command.TheVariants.{Reset, AddFun, MapDoc, Reduce, Rereduce, Other}
use Rattle.view_ports.specs.Commands.{command, list1, list2, three_strings}
use Rattle.view_ports.specs.Functions.{Functions, line_limit, source_limit, IsMappable, lists_term, IsWithinBounds, IsReduceRowWithinBounds}
use Rattle.view_ports.specs.Calls.{Session, is_log}

-- A query server may print so many log lines before an answer.
abbrev pub log_limit : ℕ
log_limit = 1000

-- the line is at most so long, and spells this term
pub record Spells (line : List ℕ) (t : Json) : Type 0 where
  pub short : length line ≤ line_limit
  pub spelled : reading line ≡ Ok t

-- the line is the term's text, and reads as it
pub record IsTextOf (t : Json) (line : List ℕ) : Type 0 where
  pub text : line ≡ text_of t
  pub spelled : reading line ≡ Ok t

-- what the built-in servers answer to a source that doesn't compile, and to a line that is no proper command
abbrev pub no_compilation : Json
no_compilation = three_strings (codes "error") (codes "compilation_error") (codes "source")

abbrev pub no_command : Json
no_command = three_strings (codes "error") (codes "bad_line") (codes "line")

-- ---- the complaint that a source doesn't compile: `["error","compilation_error",TEXT]`, or the same with `"fatal"`

abbrev pub is_complaint : Option (List ℕ) → Option (List ℕ) → Option (List ℕ) → Bool
is_complaint (Some how) (Some name) (Some reason) = (bytes_eq how (codes "error") || bytes_eq how (codes "fatal")) && bytes_eq name (codes "compilation_error")
is_complaint how name reason = false

abbrev pub is_complaint_in : Items → Bool
is_complaint_in no_items = false
is_complaint_in (item how no_items) = false
is_complaint_in (item how (item name no_items)) = false
is_complaint_in (item how (item name (item reason no_items))) = is_complaint (text_in how) (text_in name) (text_in reason)
is_complaint_in (item how (item name (item reason (item more ts)))) = false

abbrev pub is_complaint_of : Option Items → Bool
is_complaint_of None = false
is_complaint_of (Some ts) = is_complaint_in ts

abbrev pub is_complaint_term : Json → Bool
is_complaint_term t = is_complaint_of (items_in t)

abbrev pub is_complaint_read : Result Json TermFault → Bool
is_complaint_read (Ok t) = is_complaint_term t
is_complaint_read (Err fault) = false

abbrev pub Complains : List ℕ → Type 0
Complains line = (length line ≤ line_limit) × (is_complaint_read (reading line) ≡ true)

-- ---- answers

-- the rows of each source
abbrev pub rows_of : Functions → List (List ℕ) → List (List ℕ × Json) → List (List (Json × Json))
rows_of functions sources document = map (λ source. functions.map_of source document) sources

-- what a server is asked about: documents that can be stored, by 32 sources at most, and rows and values within the bounds
abbrev pub IsAnswerable : List (List ℕ) → Command → Type 0
IsAnswerable sources Reset = Unit {0}
IsAnswerable sources (AddFun source) = Unit {0}
IsAnswerable sources (MapDoc document) = IsMappable document × (length sources ≤ source_limit)
IsAnswerable sources (Reduce source rows) = AllByRecursion IsReduceRowWithinBounds rows
IsAnswerable sources (Rereduce source values) = AllByRecursion IsWithinBounds values
IsAnswerable sources Other = ⊥

-- the line answers the command, where these sources were added
abbrev pub Answers : Functions → List (List ℕ) → Command → List ℕ → Type 0
Answers functions sources Reset line = Spells line is_true
Answers functions sources (AddFun source) line = MatchBool (functions.compiles source) (Spells line is_true) (Complains line)
Answers functions sources (MapDoc document) line = Spells line (lists_term (rows_of functions sources document))
Answers functions sources (Reduce source rows) line =
    MatchBool (functions.reduce_compiles source) (Spells line (list2 is_true (list1 (functions.reduce_of source rows)))) (Complains line)
Answers functions sources (Rereduce source values) line =
    MatchBool (functions.reduce_compiles source) (Spells line (list2 is_true (list1 (functions.rereduce_of source values)))) (Complains line)
Answers functions sources Other line = ⊥

-- a log line where the child may still print one, or the answer
abbrev pub IsHonestLine : Functions → List (List ℕ) → ℕ → Command → List ℕ → Type 0
IsHonestLine functions sources logs asked line =
    ((is_log line ≡ true) × (logs < log_limit)) ⊎ ((is_log line ≡ false) × Answers functions sources asked line)

-- the line answers the oldest line that the child hasn't answered, if it was asked about what servers are asked about
abbrev pub AnswersOldest : Functions → Session → List (List ℕ) → List ℕ → Type 0
AnswersOldest functions s [] line = Unit {0}
AnswersOldest functions s (oldest ∷ waiting) line = IsAnswerable s.sources (command oldest) → IsHonestLine functions s.sources s.logs (command oldest) line

-- what an honest path promises of a line that a child sent
abbrev pub AnswersChild : (List ℕ → Functions) → (List ℕ → Type 0) → Option Session → List ℕ → Type 0
AnswersChild functions honest None line = Unit {0}
AnswersChild functions honest (Some s) line = honest s.path → s.sound ≡ true → AnswersOldest (functions s.path) s s.waiting line
