-- Which reply lines are `server_fault`, and which are not.
use Rattle.std.specs.Prelude.{IfErr, bytes_eq, cond, if◌then◌else◌, not, ok_or}
use Rattle.std.specs.List.{starts_with}
use Rattle.std.proofs.Common.{◌≡◌, ◌≢◌, ◌≤◌, ◌+◌, ◌*◌, ◌++◌, ◌∙◌, ℕ, List, [], ◌∷◌, Bool, true, false, nat_eq, nat_lt, length, codes, decimal, refl, sym, ap, subst, arith, length-append, Option, Some, None, Result, Ok, Err}
use Rattle.std.proofs.lemmas.Bool.{and_parts, false≢true, not-true}
use Rattle.std.proofs.lemmas.Slice.Eq.{bytes_eq-Decides}
use Rattle.std.proofs.lemmas.List.Sums.{sum_by-cons}
use Rattle.std.proofs.lemmas.List.{append_cancel_left, append_cancel_right}
use Rattle.json_terms.specs.Json.{Json}
use Rattle.json_terms.specs.Reading.{reading}
use Rattle.json_terms.specs.declared.fault.TermFault.{TermFault}
use Rattle.json_terms.specs.declared.fault.TermFault.TheVariants as term
use Rattle.json_terms.specs.declared.term.Row.{Row}
use Rattle.gate_file.specs.declared.fault.GateFault.TheVariants as gate
use Rattle.doc_file.specs.declared.docs.Docs.{Docs}
use Rattle.doc_file.specs.declared.docs.Info.{Info}
use Rattle.doc_file.specs.declared.fault.DocFault.{DocFault}
use Rattle.doc_file.specs.declared.fault.DocFault.TheVariants as doc
use Rattle.view_ports.specs.Exchanges.{Exchange}
use Rattle.view_ports.specs.Faults.{RoseBy}
use Rattle.view_ports.specs.Lines.{ended}
use Rattle.child_pool.specs.declared.pool_fault.PoolFault.{PoolFault}
use Rattle.child_pool.specs.declared.pool_fault.PoolFault.TheVariants as pool
use Rattle.tree_index.specs.declared.fault.IndexFault.TheVariants as index
use Rattle.tree_updater.specs.declared.fault.UpdateFault.{UpdateFault}
use Rattle.tree_updater.specs.declared.fault.UpdateFault.TheVariants as update
use Rattle.view_engine.specs.declared.halt.Halt.{Halt}
use Rattle.view_engine.specs.declared.halt.Halt.TheVariants.{Refused, Stopped}
use Rattle.view_engine.specs.declared.halt.StepFault.TheVariants.{NoMemory as OutOfMemory}
use Rattle.view_engine.specs.declared.refusal.Refusal.{Refusal}
use Rattle.view_engine.specs.declared.refusal.Refusal.TheVariants.{LineTooLong, NotJson, NotWhole, TooDeep, UnknownRequest, NotBuiltYet, BadId, BadMember, BadRev, DocumentTooLarge, DocumentTooDeep, InvalidDesign, Missing, Deleted, MissingNamedView, Conflict, BadQuery, UnknownLanguage, CompilationError, ServerFault, ServerReply, NoMemory}
use Rattle.view_engine.specs.declared.request.Request.{Request}
use Rattle.view_engine.specs.Answer.{info_text, write_text}
use Rattle.view_model.specs.Answer.{group_text, rows_answer, with_commas, IsAnswer}
use Rattle.query_args.specs.declared.query.Query.{Query}
use Rattle.view_engine.specs.Calls.{AppendsReplyTo}
use Rattle.view_engine.specs.Cleanup.{done_text}
use Rattle.view_engine.specs.Halts.{halted_as}
use Rattle.view_engine.specs.Refusals.{refusal_text, request_in, request_limit, request_of}
use Rattle.view_engine.specs.Replies.{accepted_reply}
use Rattle.view_engine.specs.Requests.{form_of}
use Rattle.view_engine.specs.ViewPlan.{met_by, met_by_pool}
use Rattle.view_engine.specs.ServerFaults.{is_get, is_server_fault, server_fault_line, server_faults, AppendsServerFault}

-- ---- texts

-- how the text begins
abbrev begins : List ℕ → Bool
begins text = starts_with nat_eq text (codes "{\"error\":\"server_fault\"")

-- a text that begins otherwise is another
unlike : (text : List ℕ) → begins text ≡ false → text ≢ refusal_text ServerFault
unlike text other is = false≢true (sym other ∙ ap begins is)

pub unlike_write : (id rev : List ℕ) → write_text id rev ≢ refusal_text ServerFault
unlike_write id rev = unlike (write_text id rev) refl

pub unlike_accepted : (docs : Docs) (id : List ℕ) → accepted_reply docs id ≢ refusal_text ServerFault
unlike_accepted docs id = unlike (accepted_reply docs id) refl

pub unlike_info : (info : Info) → info_text info ≢ refusal_text ServerFault
unlike_info info = unlike (info_text info) refl

pub unlike_done : done_text ≢ refusal_text ServerFault
unlike_done = unlike done_text refl

-- an answer of a query begins otherwise, whatever the values are
pub unlike_answer : (IsValue : List Row → List ℕ → Type 0) (query : Query) (seq : ℕ) (rows : List Row) (reply : List ℕ) → IsAnswer IsValue query seq rows reply → reply ≢ refusal_text ServerFault
unlike_answer IsValue query seq rows reply is = unlike reply (either query.reduced refl)
  where
    groups_begin : (shown : Bool) (groups : List (Json × List ℕ))
        → begins (codes "{" ++ (if shown then codes "\"update_seq\":" ++ decimal seq ++ codes "," else []) ++ codes "\"rows\":[" ++ with_commas group_text groups ++ codes "]}") ≡ false
    groups_begin true groups = refl
    groups_begin false groups = refl

    rows_begin : begins (rows_answer query seq rows) ≡ false
    rows_begin = refl

    either : (reduced : Bool) → query.reduced ≡ reduced → begins reply ≡ false
    either true reduced = ap begins (is.reduced reduced).is ∙ groups_begin query.show_seq _
    either false whole = ap begins (is.whole whole) ∙ rows_begin

-- of the refusals one alone has this text
pub refusal_is_fault : (refusal : Refusal) → refusal_text refusal ≡ refusal_text ServerFault → refusal ≡ ServerFault
refusal_is_fault LineTooLong is = absurd (unlike (refusal_text LineTooLong) refl is)
refusal_is_fault NotJson is = absurd (unlike (refusal_text NotJson) refl is)
refusal_is_fault NotWhole is = absurd (unlike (refusal_text NotWhole) refl is)
refusal_is_fault TooDeep is = absurd (unlike (refusal_text TooDeep) refl is)
refusal_is_fault UnknownRequest is = absurd (unlike (refusal_text UnknownRequest) refl is)
refusal_is_fault NotBuiltYet is = absurd (unlike (refusal_text NotBuiltYet) refl is)
refusal_is_fault BadId is = absurd (unlike (refusal_text BadId) refl is)
refusal_is_fault (BadMember name) is = absurd (unlike (refusal_text (BadMember name)) refl is)
refusal_is_fault BadRev is = absurd (unlike (refusal_text BadRev) refl is)
refusal_is_fault DocumentTooLarge is = absurd (unlike (refusal_text DocumentTooLarge) refl is)
refusal_is_fault DocumentTooDeep is = absurd (unlike (refusal_text DocumentTooDeep) refl is)
refusal_is_fault (InvalidDesign fault) is = absurd (unlike (refusal_text (InvalidDesign fault)) refl is)
refusal_is_fault Missing is = absurd (unlike (refusal_text Missing) refl is)
refusal_is_fault Deleted is = absurd (unlike (refusal_text Deleted) refl is)
refusal_is_fault MissingNamedView is = absurd (unlike (refusal_text MissingNamedView) refl is)
refusal_is_fault Conflict is = absurd (unlike (refusal_text Conflict) refl is)
refusal_is_fault (BadQuery fault) is = absurd (unlike (refusal_text (BadQuery fault)) refl is)
refusal_is_fault (UnknownLanguage language) is = absurd (unlike (refusal_text (UnknownLanguage language)) refl is)
refusal_is_fault (CompilationError id) is = absurd (unlike (refusal_text (CompilationError id)) refl is)
refusal_is_fault ServerFault is = refl
refusal_is_fault (ServerReply line) is = absurd (unlike (refusal_text (ServerReply line)) refl is)
refusal_is_fault NoMemory is = absurd (unlike (refusal_text NoMemory) refl is)

-- ---- what is appended

-- the same line was appended
same_text : (out out' text reply : List ℕ) → out' ≡ out ++ ended text → out' ≡ out ++ ended reply → text ≡ reply
same_text out out' text reply one other = append_cancel_right text reply (10 ∷ []) (append_cancel_left out (ended text) (ended reply) (sym one ∙ other))

-- nothing was appended to an empty line
pub nothing_appended : (request : Result Request Refusal) (out : List ℕ) → AppendsServerFault request out out → ⊥
nothing_appended request out appends =
    let size : length (out ++ server_fault_line) ≡ length out = ap length (sym appends.1) in
    omega (arith, size, length-append out server_fault_line, length-append (refusal_text ServerFault) (10 ∷ []))

pub reply_no_fault : (request : Result Request Refusal) (out out' : List ℕ) → AppendsReplyTo request out out' → AppendsServerFault request out out' → ⊥
reply_no_fault request out out' replied appends =
    replied.unlike appends.0 (same_text out out' replied.reply (refusal_text ServerFault) replied.appended appends.1)

pub told_is_fault : (refusal : Refusal) (request : Result Request Refusal) (out out' : List ℕ) → out' ≡ out ++ ended (refusal_text refusal) → AppendsServerFault request out out' → refusal ≡ ServerFault
told_is_fault refusal request out out' told appends =
    refusal_is_fault refusal (same_text out out' (refusal_text refusal) (refusal_text ServerFault) told appends.1)

-- ---- halts

-- a fault of the documents is none of the query servers
pub halted_unblamed : (fault : DocFault) → halted_as fault ≢ Refused ServerFault
halted_unblamed doc.BadId is = cc
halted_unblamed (doc.BadMember name) is = cc
halted_unblamed doc.BadRev is = cc
halted_unblamed doc.TooLarge is = cc
halted_unblamed doc.TooDeep is = cc
halted_unblamed (doc.BadDesign fault) is = cc
halted_unblamed doc.Conflict is = cc
halted_unblamed doc.Missing is = cc
halted_unblamed doc.Deleted is = cc
halted_unblamed (doc.Gate gate.DiskFault) is = cc
halted_unblamed (doc.Gate (gate.Damaged name at)) is = cc
halted_unblamed (doc.Gate (gate.Full name length)) is = cc
halted_unblamed (doc.Gate gate.NoMemory) is = cc
halted_unblamed doc.NoMemory is = cc

-- of the pool's faults one is theirs
pub pool_server_fault : (id : List ℕ) (fault : PoolFault) → met_by_pool id fault ≡ Refused ServerFault → fault ≡ pool.ServerFault
pool_server_fault id pool.ServerFault is = refl
pool_server_fault id (pool.BadReply line) is = absurd cc
pool_server_fault id pool.Compile is = absurd cc
pool_server_fault id pool.NoMemory is = absurd cc
pool_server_fault id pool.UnknownLanguage is = absurd cc

-- and of an update's that one of the pool
pub met_server_fault : (id : List ℕ) (fault : UpdateFault) → met_by id fault ≡ Refused ServerFault → fault ≡ update.Pool pool.ServerFault
met_server_fault id (update.Pool fault) is = ap update.Pool (pool_server_fault id fault is)
met_server_fault id (update.Docs fault) is = absurd (halted_unblamed (doc.Gate fault) is)
met_server_fault id (update.Index (index.Store fault)) is = absurd (halted_unblamed (doc.Gate fault) is)
met_server_fault id (update.Index other) is = absurd cc
met_server_fault id update.NoMemory is = absurd cc

abbrev failed : Halt → Result (Unit {0}) Halt
failed halt = Err halt

-- what is said of a halt is said of the result
pub err_unblamed : (halt : Halt) → halt ≢ Refused ServerFault → failed halt ≢ failed (Refused ServerFault)
err_unblamed halt other is = other (let same : halt ≡ Refused ServerFault = cc in same)

-- where memory alone ran out
pub spent_unblamed : (result : Result (Unit {0}) Halt) → IfErr result (λ halt. halt ≡ Stopped OutOfMemory) → result ≢ failed (Refused ServerFault)
spent_unblamed (Ok done) spent is = cc
spent_unblamed (Err halt) spent is = let never : failed (Stopped OutOfMemory) ≡ failed (Refused ServerFault) = ap failed (sym spent) ∙ is in cc

-- ---- lines that are no request

formed_unblamed : (o : Option Request) → ok_or o UnknownRequest ≢ Err ServerFault
formed_unblamed None is = cc
formed_unblamed (Some request) is = cc

read_unblamed : (read : Result Json TermFault) → request_in read ≢ Err ServerFault
read_unblamed (Ok t) is = formed_unblamed (form_of t) is
read_unblamed (Err term.NotJson) is = cc
read_unblamed (Err term.NotWhole) is = cc
read_unblamed (Err term.TooDeep) is = cc
read_unblamed (Err term.NoMemory) is = cc

sized_unblamed : (long : Bool) (read : Result Json TermFault) → (if long then Err LineTooLong else request_in read) ≢ Err ServerFault
sized_unblamed true read is = cc
sized_unblamed false read is = read_unblamed read is

pub request_unblamed : (line : List ℕ) → request_of line ≢ Err ServerFault
unfolding request_of
request_unblamed line = sized_unblamed (nat_lt request_limit (length line)) (reading line)

-- ---- over a run

-- a line whose answer is `server_fault` has it appended
pub appended_fault : (line start out : List ℕ) → start ≡ [] → is_server_fault (record { line = line; text = out }) ≡ true → AppendsServerFault (request_of line) start out
appended_fault line start out empty is =
    let both = and_parts (not (is_get (request_of line))) (bytes_eq out server_fault_line) is in
    (not-true (is_get (request_of line)) both.0, (bytes_eq-Decides out server_fault_line).0 both.1 ∙ ap (λ (front : List ℕ). front ++ server_fault_line) (sym empty))

-- the constant for want of memory is another
pub constant_no_fault : (line : List ℕ) → is_server_fault (record { line = line; text = ended (refusal_text NoMemory) }) ≡ true → ⊥
constant_no_fault line is = let both = and_parts (not (is_get (request_of line))) (bytes_eq (ended (refusal_text NoMemory)) server_fault_line) is in false≢true both.1

pub none_rose : (count : ℕ) → RoseBy 0 count count
none_rose count = omega arith

pub rose_on : (more before mid now : ℕ) → RoseBy more before mid → mid ≤ now → RoseBy more before now
rose_on more before mid now rose later = omega (arith, rose, later)

-- one more line
pub one_more : (e : Exchange) (es : List Exchange) (before mid now : ℕ) → before ≤ mid → (is_server_fault e ≡ true → RoseBy 2 before mid) → RoseBy (2 * server_faults es) mid now
    → RoseBy (2 * server_faults (e ∷ es)) before now
one_more e es before mid now later blames rose =
    subst (λ (count : ℕ). RoseBy (2 * count) before now) (sym (sum_by-cons (λ x. cond (is_server_fault x) 1 0) e es)) (by_answer (is_server_fault e) blames)
  where
    by_answer : (b : Bool) → (b ≡ true → RoseBy 2 before mid) → RoseBy (2 * (cond b 1 0 + server_faults es)) before now
    by_answer true blames = let two = blames refl in omega (arith, two, rose)
    by_answer false blames = omega (arith, later, rose)
