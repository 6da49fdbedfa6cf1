-- Query servers that answer from a script.
use Rattle.std.specs.Prelude.{◌≡◌, ℕ, List, [], ◌∷◌, ◌++◌, take, drop, Some, None, Result, Ok, Err, Vec}
use Rattle.std.specs.declared.alloc.Global.{Global}
use Rattle.view_ports.specs.declared.script_servers.Answer.{Answer}
use Rattle.view_ports.specs.declared.script_servers.Answer.TheVariants.{Line, Fail}
use Rattle.view_ports.specs.declared.script_servers.ScriptServers.{ScriptServers}
use Rattle.view_ports.specs.declared.servers_fault.ServersFault.{ServersFault}
use Rattle.view_ports.specs.declared.servers_fault.ServersFault.TheVariants.{Failed, NoMemory}
use Rattle.view_ports.specs.Calls.{Call, start, send, receive, stop}

-- the answers that are still to be given
abbrev pub script_left : ScriptServers → List Answer
script_left servers = drop servers.at servers.script.items

-- the lines among some answers
abbrev pub lines_in : List Answer → List (List ℕ)
lines_in [] = []
lines_in (Line line ∷ answers) = line ∷ lines_in answers
lines_in (Fail ∷ answers) = lines_in answers

-- the lines that were received in these calls, in order
abbrev pub lines_heard : List Call → List (List ℕ)
lines_heard [] = []
lines_heard (receive slot (Some line) ∷ calls) = lines_heard calls ++ line ∷ []
lines_heard (receive slot None ∷ calls) = lines_heard calls
lines_heard (start slot path started ∷ calls) = lines_heard calls
lines_heard (send slot line sent ∷ calls) = lines_heard calls
lines_heard (stop slot ∷ calls) = lines_heard calls

-- in these calls the lines of the answers that were given were received
abbrev pub GaveScript : ScriptServers → List Call → Type 0
GaveScript servers calls = lines_heard calls ≡ lines_in (take servers.at servers.script.items)

-- a `receive` gives the next answer; past the script it fails; where memory runs out the answer is still to be given
abbrev pub GivesNext : List Answer → List Answer → Result (Vec ℕ Global) ServersFault → Type 0
GivesNext [] new result = (result ≡ Err Failed) × (new ≡ [])
GivesNext (Line line ∷ left) new (Ok given) = (given.items ≡ line) × (new ≡ left)
GivesNext (Line line ∷ left) new (Err fault) = (fault ≡ NoMemory) × (new ≡ Line line ∷ left)
GivesNext (Fail ∷ left) new result = (result ≡ Err Failed) × (new ≡ left)
