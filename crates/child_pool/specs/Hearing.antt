-- What a received line is taken for. For private clauses.
use Rattle.std.specs.Prelude.{◌≡◌, ◌⊎◌, ◌<◌, ◌≤◌, ℕ, List, true, false, Some, None, Result, Ok, Err}
use Rattle.json_terms.specs.Seen.{json}
use Rattle.view_ports.specs.Calls.{is_log}
use Rattle.query_protocol.specs.declared.reply.Kind.{Kind}
use Rattle.query_protocol.specs.declared.reply.Kind.TheVariants as kind
use Rattle.query_protocol.specs.declared.reply.Reply.{Reply}
use Rattle.query_protocol.specs.declared.reply.Reply.TheVariants as reply
use Rattle.query_protocol.specs.Replies.{reply_of}
use Rattle.child_pool.specs.declared.heard.Heard.{Heard}
use Rattle.child_pool.specs.declared.heard.Heard.TheVariants.{Failed, Log, Answer}
use Rattle.child_pool.specs.declared.pool_fault.PoolFault.{PoolFault}
use Rattle.child_pool.specs.declared.pool_fault.PoolFault.TheVariants.{ServerFault, BadReply, Compile, UnknownLanguage, NoMemory}
use Rattle.child_pool.specs.Mapping.{AreBoundedRows, IsPart}
use Rattle.child_pool.specs.Pools.{rows_said}
use Rattle.child_pool.specs.Shown.{shown}

-- a bad reply shows the line, unless memory ran out
abbrev pub IsShown : List ℕ → PoolFault → Type 0
IsShown line (BadReply text) = text ≡ shown line
IsShown line NoMemory = Unit {0}
IsShown line ServerFault = ⊥
IsShown line Compile = ⊥
IsShown line UnknownLanguage = ⊥

-- a log line stays one, unless it is one too many
abbrev pub IsKept : ℕ → Heard → List ℕ → Result Heard PoolFault → Type 0
IsKept logs Log line (Ok heard) = (heard ≡ Log) × (logs < 1000)
IsKept logs Log line (Err fault) = (1000 ≤ logs) × IsShown line fault
IsKept logs (Answer said) line result = result ≡ Ok (Answer said)
IsKept logs Failed line result = result ≡ Ok Failed

-- the line is a log line, an answer, or a bad reply
abbrev pub IsHeard : Kind → ℕ → List ℕ → Result Heard PoolFault → Type 0
IsHeard kind logs line (Ok Failed) = ⊥
IsHeard kind logs line (Ok Log) = (is_log line ≡ true) × (logs < 1000)
IsHeard kind logs line (Ok (Answer said)) = (is_log line ≡ false) × (reply_of kind line ≡ Some said)
IsHeard kind logs line (Err fault) = IsShown line fault × ((fault ≡ NoMemory) ⊎ ((reply_of kind line ≡ None) ⊎ ((is_log line ≡ true) × (1000 ≤ logs))))

-- a value is as long and as deep at most as a reply may hold it
abbrev pub IsBoundedValue : Reply → Type 0
IsBoundedValue (reply.Value value) = IsPart (json value)
IsBoundedValue reply.Log = Unit {0}
IsBoundedValue reply.Yes = Unit {0}
IsBoundedValue (reply.Rows rows) = Unit {0}
IsBoundedValue reply.Compile = Unit {0}

-- where a prompt asks for rows or for a value, its answer has bounded ones, and else nothing is said
abbrev pub HasBoundedParts : Kind → Reply → Type 0
HasBoundedParts (kind.Rows count) said = AreBoundedRows count (rows_said said)
HasBoundedParts kind.Reset said = Unit {0}
HasBoundedParts kind.Source said = Unit {0}
HasBoundedParts kind.Value said = IsBoundedValue said

-- the same of a line that is no log line
abbrev pub HasBoundedAnswer : Kind → Heard → Type 0
HasBoundedAnswer kind (Answer said) = HasBoundedParts kind said
HasBoundedAnswer kind Log = Unit {0}
HasBoundedAnswer kind Failed = Unit {0}
