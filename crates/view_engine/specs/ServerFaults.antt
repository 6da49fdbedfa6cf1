-- The reply lines `server_fault`.
use Rattle.std.specs.Prelude.{◌≡◌, ◌++◌, ◌&&◌, ℕ, List, Bool, true, false, not, bytes_eq, Result, Ok}
use Rattle.std.specs.List.{count_by}
use Rattle.view_ports.specs.Exchanges.{Exchange}
use Rattle.view_ports.specs.Lines.{ended}
use Rattle.view_engine.specs.declared.refusal.Refusal.{Refusal}
use Rattle.view_engine.specs.declared.refusal.Refusal.TheVariants.{ServerFault}
use Rattle.view_engine.specs.declared.request.Request.{Request}
use Rattle.view_engine.specs.declared.request.Request.TheVariants.{Get}
use Rattle.view_engine.specs.Refusals.{refusal_text, request_of}

-- the line, with its newline
abbrev pub server_fault_line : List ℕ
server_fault_line = ended (refusal_text ServerFault)

-- a request that prints a document, of whatever text
abbrev pub is_get : Result Request Refusal → Bool
is_get (Ok (Get id)) = true
is_get other = false

-- the reply line that was appended is `server_fault`, and no document that a `get` prints
abbrev pub AppendsServerFault : Result Request Refusal → List ℕ → List ℕ → Type 0
AppendsServerFault request out out' = (is_get request ≡ false) × (out' ≡ out ++ server_fault_line)

-- a request was answered `server_fault`
abbrev pub says_server_fault : Result Request Refusal → List ℕ → Bool
says_server_fault request text = not (is_get request) && bytes_eq text server_fault_line

-- the same of a line
abbrev pub is_server_fault : Exchange → Bool
is_server_fault e = says_server_fault (request_of e.line) e.text

-- how many lines were answered so
abbrev pub server_faults : List Exchange → ℕ
server_faults exchanges = count_by is_server_fault exchanges
