-- The calls on the query servers, and the session of each child after them.
use Rattle.std.specs.Prelude.{◌+◌, ℕ, List, [], ◌∷◌, ◌++◌, length, Bool, true, false, nat_eq, nat_le, bytes_eq, codes, ◌&&◌, if◌then◌else◌, Option, Some, None, option_and_then, Result, Ok, Err}
use Rattle.json_terms.specs.Json.{Json, number, is_false, is_null, is_true, object, array, string}
use Rattle.json_terms.specs.Kinds.{text_in, items_in, two_in}
use Rattle.json_terms.specs.Reading.{reading}
use Rattle.json_terms.specs.declared.fault.TermFault.{TermFault}
use Rattle.view_ports.specs.declared.command.Command.{Command}
use Rattle.view_ports.specs.declared.command.Command.TheVariants.{Reset, AddFun, MapDoc, Reduce, Rereduce, Other}
use Rattle.view_ports.specs.Commands.{command}
use Rattle.view_ports.specs.Functions.{line_limit}

-- a call with its slot and its outcome
pub data Call : Type 0 where
  -- the path, and whether a child was started
  start : ℕ → List ℕ → Bool → Call
  -- the line, and whether it was sent
  send : ℕ → List ℕ → Bool → Call
  -- the line that was received, or none
  receive : ℕ → Option (List ℕ) → Call
  stop : ℕ → Call

abbrev pub slot_of : Call → ℕ
slot_of (start slot path started) = slot
slot_of (send slot line sent) = slot
slot_of (receive slot line) = slot
slot_of (stop slot) = slot

-- ---- log lines

-- `["log",TEXT]`
abbrev pub is_log_pair : Option (List ℕ) → Option (List ℕ) → Bool
is_log_pair (Some name) (Some message) = bytes_eq name (codes "log")
is_log_pair (Some name) None = false
is_log_pair None message = false

abbrev pub is_log_of : Option (Json × Json) → Bool
is_log_of None = false
is_log_of (Some (name, message)) = is_log_pair (text_in name) (text_in message)

abbrev pub is_log_term : Json → Bool
is_log_term t = is_log_of (option_and_then two_in (items_in t))

abbrev pub is_log_read : Result Json TermFault → Bool
is_log_read (Ok t) = is_log_term t
is_log_read (Err fault) = false

abbrev pub is_log : List ℕ → Bool
is_log line = is_log_read (reading line)

-- ---- sessions

-- a child's session since it was started
pub record Session : Type 0 where
  pub path : List ℕ
  -- the sources that were added since the last reset, in order: those whose lines were answered `true`
  pub sources : List (List ℕ)
  -- the lines that it hasn't answered, the oldest first
  pub waiting : List (List ℕ)
  -- how many log lines it has sent since its last answer
  pub logs : ℕ
  -- whether each line that it was sent is short enough, and no call of the session failed
  pub sound : Bool

abbrev pub session : List ℕ → List (List ℕ) → List (List ℕ) → ℕ → Bool → Session
session path sources waiting logs sound = record { path = path; sources = sources; waiting = waiting; logs = logs; sound = sound }

abbrev pub is_short : List ℕ → Bool
is_short line = nat_le (length line) line_limit

-- `true`
abbrev pub is_yes_term : Json → Bool
is_yes_term is_true = true
is_yes_term (number n) = false
is_yes_term is_false = false
is_yes_term is_null = false
is_yes_term (object ms) = false
is_yes_term (array ts) = false
is_yes_term (string s) = false

abbrev pub is_yes_read : Result Json TermFault → Bool
is_yes_read (Ok t) = is_yes_term t
is_yes_read (Err fault) = false

abbrev pub is_yes : List ℕ → Bool
is_yes line = is_yes_read (reading line)

-- the sources after a command whose answer was `true` or another line: a source is added where the answer is `true`
abbrev pub sources_after : Command → Bool → List (List ℕ) → List (List ℕ)
sources_after Reset accepted sources = []
sources_after (AddFun source) true sources = sources ++ source ∷ []
sources_after (AddFun source) false sources = sources
sources_after (MapDoc document) accepted sources = sources
sources_after (Reduce source rows) accepted sources = sources
sources_after (Rereduce source values) accepted sources = sources
sources_after Other accepted sources = sources

-- the oldest line is answered
abbrev pub answered : Bool → List ℕ → List (List ℕ) → List (List ℕ) → Bool → Session
answered accepted path sources [] sound = session path sources [] 0 sound
answered accepted path sources (oldest ∷ waiting) sound = session path (sources_after (command oldest) accepted sources) waiting 0 sound

-- the line is a log line, or answers the oldest line
abbrev pub heard : Bool → List ℕ → Session → Session
heard true line s = session s.path s.sources s.waiting (s.logs + 1) s.sound
heard false line s = answered (is_yes line) s.path s.sources s.waiting s.sound

abbrev pub spoiled : Session → Session
spoiled s = session s.path s.sources s.waiting s.logs false

abbrev pub asked : List ℕ → Session → Session
asked line s = session s.path s.sources (s.waiting ++ line ∷ []) s.logs (s.sound && is_short line)

-- the child of a slot after a call on it: a start replaces it, and a start that failed leaves none
abbrev pub after : Call → Option Session → Option Session
after (start slot path true) child = Some (session path [] [] 0 true)
after (start slot path false) child = None
after (send slot line true) (Some s) = Some (asked line s)
after (send slot line false) (Some s) = Some (spoiled s)
after (send slot line sent) None = None
after (receive slot (Some line)) (Some s) = Some (heard (is_log line) line s)
after (receive slot None) (Some s) = Some (spoiled s)
after (receive slot line) None = None
after (stop slot) child = None

-- the child of a slot after these calls, the newest first
abbrev pub child : ℕ → List Call → Option Session
child slot [] = None
child slot (call ∷ calls) = if nat_eq (slot_of call) slot then after call (child slot calls) else child slot calls
