-- A document was asked for: what follows.
use Rattle.std.proofs.Common.{◌≡◌, ◌≤◌, ◌+◌, ℕ, List, [], ◌∷◌, ◌++◌, length, Bool, true, false, Option, Some, None, is_some, Result, Ok, Err, refl, sym, ap, ◌∙◌, subst, inl, inr}
use Rattle.std.proofs.lemmas.List.{length-map}
use Rattle.json_terms.specs.Json.{Json, number, is_false, is_null, is_true, array, depth, list_of_members, members_of, object, string}
use Rattle.json_terms.specs.Kinds.{members_in}
use Rattle.json_terms.proofs.Sames.{members_of-list_of_members}
use Rattle.json_terms.specs.declared.rows.RowLists.{RowLists}
use Rattle.view_ports.specs.declared.command.Command.{Command}
use Rattle.view_ports.specs.declared.command.Command.TheVariants.{MapDoc}
use Rattle.view_ports.specs.Calls.{Call, child, is_log, is_yes, sources_after}
use Rattle.view_ports.specs.Commands.{command, document_depth}
use Rattle.view_ports.specs.Functions.{Functions, lists_term}
use Rattle.view_ports.specs.Honest.{IsHonestLine, Spells, rows_of}
use Rattle.query_protocol.specs.CommandLines.{command_line, document_of, IsDocument, IsProperCommand}
use Rattle.query_protocol.specs.declared.reply.Kind.TheVariants as kind
use Rattle.query_protocol.specs.declared.reply.Reply.{Reply}
use Rattle.query_protocol.specs.declared.reply.Reply.TheVariants as reply
use Rattle.query_protocol.specs.Replies.{reply_of}
use Rattle.child_pool.specs.declared.pool_fault.PoolFault.{PoolFault}
use Rattle.child_pool.specs.declared.pool_fault.PoolFault.TheVariants.{ServerFault}
use Rattle.child_pool.specs.Jobs.{Job}
use Rattle.child_pool.specs.Histories.{Went, says, course}
use Rattle.child_pool.specs.Sessions.{HasTold, IsIdle}
use Rattle.child_pool.specs.Prompts.{document_prompt}
use Rattle.child_pool.specs.Refused.{TryRefused}
use Rattle.child_pool.specs.Stages.{AfterStages, anew}
use Rattle.child_pool.specs.Tries.{HasFailedIn, IsTriedAgain, Prompt}
use Rattle.child_pool.specs.Causes.{kind_of}
use Rattle.child_pool.specs.Mapping.{AfterAnswer, AfterMap, AreBoundedRows, AreHonestRows, HasMapped}
use Rattle.child_pool.specs.Outcomes.{AfterPrompt, Replied}
use Rattle.child_pool.specs.Pools.{rows_said}
use Rattle.child_pool.specs.Talk.{AreTurns, Due, asks}
use Rattle.child_pool.proofs.Going.{Went-map, Went-then}
use Rattle.child_pool.proofs.Prepared.{all_told}
use Rattle.child_pool.proofs.Attempts.{again, failed_again, refused_again, refused_once, try_refused_then}
use Rattle.child_pool.proofs.Cutting.{cut_prompt, cut_wider, failed_later, failed_prompt, failed_wider, turns_then}
use Rattle.child_pool.proofs.RowReplies.{bounded_rows, rows_reply, proper_reply}
use Rattle.child_pool.proofs.Stagings.{no_log_said}
use Rattle.child_pool.proofs.Telling.{honest_line}

-- what a whole result's rows are
abbrev pub map_result : Result (Option Reply) PoolFault → Result (Option RowLists) PoolFault
map_result (Ok None) = Ok None
map_result (Ok (Some said)) = Ok (Some (rows_said said))
map_result (Err f) = Err f

-- what the rows of a second attempt are worth
abbrev pub last_of : Result (Option RowLists) PoolFault → Result RowLists PoolFault
last_of (Ok None) = Err ServerFault
last_of (Ok (Some rows)) = Ok rows
last_of (Err f) = Err f

-- a result that needs no second attempt
abbrev pub at_once : Result RowLists PoolFault → Result (Option RowLists) PoolFault
at_once (Ok rows) = Ok (Some rows)
at_once (Err f) = Err f

-- what a failed start comes to
abbrev pub failed_result : Result Bool PoolFault → Result RowLists PoolFault
failed_result (Ok started) = Err ServerFault
failed_result (Err f) = Err f

-- a document is the object of its members
pub object_of_document : (d : Json) → IsDocument d → object (members_of (document_of d)) ≡ d
object_of_document d h = ap (λ (t : Json). object (members_of (document_of t))) h.is ∙ ap object (members_of-list_of_members (members_of h.members)) ∙ sym h.is

-- what a document is, and what is one
pub object_is_document : (d : Json) → is_some (members_in d) ≡ true → depth d ≤ document_depth → IsDocument d
object_is_document (object ms) is shallow = record { members = list_of_members ms; is = ap object (sym (members_of-list_of_members ms)); shallow = shallow }
object_is_document (number n) is shallow = absurd cc
object_is_document is_false is shallow = absurd cc
object_is_document is_null is shallow = absurd cc
object_is_document is_true is shallow = absurd cc
object_is_document (array ts) is shallow = absurd cc
object_is_document (string s) is shallow = absurd cc

pub document_is_object : (d : Json) → IsDocument d → is_some (members_in d) ≡ true
document_is_object d h = ap (λ (t : Json). is_some (members_in t)) h.is

-- a document may be mapped
pub proper_document : (d : Json) → IsDocument d → IsProperCommand (MapDoc (document_of d))
proper_document d h =
    let same = object_of_document d h in
    subst (λ (t : Json). depth t ≤ document_depth) (sym same) h.shallow

spelled_rows : (functions : Functions) (sources : List (List ℕ)) (logs : ℕ) (document : List (List ℕ × Json)) (line : List ℕ) → is_log line ≡ false → IsHonestLine functions sources logs (MapDoc document) line → Spells line (lists_term (rows_of functions sources document))
spelled_rows functions sources logs document line no_log h = elim h [
  | inl log ↦ absurd cc
  | inr answer ↦ answer.1
]

-- a document's prompt, what is due in its tries, and what is due before with a fresh child
abbrev prompt_in : ℕ → Job → List (List ℕ × Json) → Prompt
prompt_in slot job document = document_prompt slot job.sources document

abbrev once_in : ℕ → Job → List (List ℕ × Json) → List Due
once_in slot job document = asks slot (MapDoc document) (length job.sources)

abbrev fresh_in : ℕ → Job → List Due
fresh_in slot job = anew slot job.sources (length job.sources + 1)

abbrev again_in : ℕ → Job → List (List ℕ × Json) → List Due
again_in slot job document = fresh_in slot job ++ once_in slot job document

module _ (functions : List ℕ → Functions) (honest : List ℕ → Type 0) where
  module _ (path : List ℕ) (sources : List (List ℕ)) (line : List ℕ) (document : List (List ℕ × Json)) (slot : ℕ) (said : Reply) (added now : List Call)
      (r : Replied functions honest path sources line slot (says slot line ∷ []) said added now) (is : command line ≡ MapDoc document) where
    reads : reply_of (kind.Rows (length sources)) r.line ≡ Some said
    reads = subst (λ (c : Command). reply_of (kind_of c (length sources)) r.line ≡ Some said) is r.reads

    pub honest_rows : AreHonestRows functions honest path sources document (rows_said said)
    honest_rows = λ h few mappable.
        let answered = honest_line functions honest path sources line r.logs (child slot r.earlier) r.line r.asked.is r.answers h (MapDoc document) is (mappable, few) in
        let lists : List (List (Json × Json)) = rows_of (functions path) sources document in
        let spells = spelled_rows (functions path) sources r.logs document r.line r.no_log answered in
        let counted : length lists ≡ length sources = length-map sources (λ source. (functions path).map_of source document) in
        let right = proper_reply (length sources) lists r.line spells ((functions path).proper_maps sources document few mappable) counted in
        let both : Some said ≡ Some (reply.Rows lists) = sym reads ∙ right in
        let same : said ≡ reply.Rows lists = cc in
        ap rows_said same

    pub rows_bounded : AreBoundedRows (length sources) (rows_said said)
    rows_bounded = bounded_rows (length sources) r.line said (no_log_said functions honest path line slot sources said added now r) reads

    pub mapped_turns : line ≡ command_line (MapDoc document) → AreTurns (asks slot (MapDoc document) (length sources)) (course added)
    mapped_turns spelled =
        let found = rows_reply (length sources) r.line said (no_log_said functions honest path line slot sources said added now r) reads in
        subst (AreTurns (asks slot (MapDoc document) (length sources))) (sym r.talked)
        ((refl, spelled), ((refl, record { reply = reply.Rows found.0; answer = tt; reads = reads ∙ ap Some found.1 }), tt))

  module _ {follow : List Call → Type 0} {slot : ℕ} {calls : List Call} (job : Job) where
    pub map_went : (line : List ℕ) (document : List (List ℕ × Json)) (result : Result (Option Reply) PoolFault) → HasTold functions honest job.path job.sources slot calls → command line ≡ MapDoc document → line ≡ command_line (MapDoc document)
        → Went follow job slot calls (AfterPrompt functions honest job job.sources line slot (says slot line ∷ []) result calls)
        → Went follow job slot calls (AfterAnswer functions honest job slot document (asks slot (MapDoc document) (length job.sources)) (map_result result) calls)
    map_went line document (Ok None) told is spelled w = Went-map w (AfterAnswer functions honest job slot document (asks slot (MapDoc document) (length job.sources)) (Ok None) calls)
        (failed_prompt slot (MapDoc document) (length job.sources) line w.added spelled w.holds)
    map_went line document (Err f) told is spelled w =
        Went-map w (AfterAnswer functions honest job slot document (asks slot (MapDoc document) (length job.sources)) (Err f) calls)
        (record { caused = w.holds.0; cut = cut_prompt slot (MapDoc document) (length job.sources) line (course w.added) spelled w.holds.1 })
    map_went line document (Ok (Some said)) told is spelled w =
        Went-map w (AfterAnswer functions honest job slot document (asks slot (MapDoc document) (length job.sources)) (Ok (Some (rows_said said))) calls) (record {
          told = record {
            idle = subst (λ (c : Command). IsIdle job.path (sources_after c (is_yes w.holds.line) job.sources) slot w.now) is w.holds.idle;
            compile = told.compile;
          };
          tried = mapped_turns job.path job.sources line document slot said w.added w.now w.holds is spelled;
          right = honest_rows job.path job.sources line document slot said w.added w.now w.holds is;
          bounded = rows_bounded job.path job.sources line document slot said w.added w.now w.holds is;
        })

    -- a first attempt that gave rows, or was refused
    pub first_rows : (document : List (List ℕ × Json)) (prompt : Prompt) (rose : Type 0) (result : Result (Option RowLists) PoolFault) (last : Result RowLists PoolFault) → result ≡ at_once last → prompt.slot ≡ slot → (result ≡ Err ServerFault → ⊥)
        → Went follow job slot calls (AfterAnswer functions honest job slot document prompt.once result calls) → Went follow job slot calls (AfterMap functions honest job slot document prompt rose last calls)
    first_rows document prompt rose result (Ok rows) e mine other w =
        let v : Went follow job slot calls (AfterAnswer functions honest job slot document prompt.once (Ok (Some rows)) calls) = subst (λ (r : Result (Option RowLists) PoolFault). Went follow job slot calls (AfterAnswer functions honest job slot document prompt.once r calls)) e w in
        Went-map v (AfterMap functions honest job slot document prompt rose (Ok rows) calls) (record { told = v.holds.told; tried = inl v.holds.tried; right = v.holds.right; bounded = v.holds.bounded })
    first_rows document prompt rose result (Err f) e mine other w =
        let v : Went follow job slot calls (AfterAnswer functions honest job slot document prompt.once (Err f) calls) = subst (λ (r : Result (Option RowLists) PoolFault). Went follow job slot calls (AfterAnswer functions honest job slot document prompt.once r calls)) e w in
        Went-map v (AfterMap functions honest job slot document prompt rose (Err f) calls) (refused_once functions honest job slot prompt rose f calls v.added mine (λ is. other (e ∙ ap Err is)) v.holds)

  -- the last of the calls mapped the document, or was refused
  abbrev MapsTo : (List Call → Type 0) → Job → ℕ → List (List ℕ × Json) → Type 0 → List Call → Result RowLists PoolFault → Type 0
  MapsTo follow job slot document rose calls last = Went follow job slot calls (AfterMap functions honest job slot document (prompt_in slot job document) rose last calls)

  module _ {first second : List Call → Type 0} {slot : ℕ} {calls : List Call} (job : Job) (document : List (List ℕ × Json)) (rose : Type 0) (counted : rose)
      (w : Went first job slot calls (λ added now. IsTriedAgain (document_prompt slot job.sources document) (λ second. second ≡ []) added)) where
    -- no fresh child's session is ready
    pub failed_start : (result : Result Bool PoolFault) (last : Result RowLists PoolFault) → failed_result result ≡ last → (result ≡ Ok true → ⊥) → (result ≡ Err ServerFault → ⊥)
        → (v : Went second job slot w.now (AfterStages functions honest job slot (length job.sources + 1) (fresh_in slot job) result w.now)) → MapsTo second job slot document rose calls last
    failed_start (Ok true) last e unready other v = absurd (unready refl)
    failed_start (Ok false) last e unready other v =
        subst (MapsTo second job slot document rose calls) e (Went-then w v (AfterMap functions honest job slot document (prompt_in slot job document) rose (Err ServerFault) calls)
        (failed_again functions honest job (prompt_in slot job document) rose w v counted w.holds (failed_wider (fresh_in slot job) (once_in slot job document) v.added v.holds)))
    failed_start (Err f) last e unready other v =
        let wider : TryRefused functions honest job slot (again_in slot job document) f w.now v.added = record { caused = v.holds.caused; cut = cut_wider slot (fresh_in slot job) (once_in slot job document) (course v.added) v.holds.cut } in
        subst (MapsTo second job slot document rose calls) e (Went-then w v (AfterMap functions honest job slot document (prompt_in slot job document) rose (Err f) calls)
        (refused_again functions honest job (prompt_in slot job document) rose f w v refl counted w.holds (λ is. other (ap Err is)) wider))

    -- a fresh child's session is ready
    pub started_over : (result : Result Bool PoolFault) → result ≡ Ok true → Went second job slot w.now (AfterStages functions honest job slot (length job.sources + 1) (fresh_in slot job) result w.now)
        → Went second job slot w.now (λ added now. HasTold functions honest job.path job.sources slot now × AreTurns (fresh_in slot job) (course added))
    started_over result e v =
        let u = subst (λ (r : Result Bool PoolFault). Went second job slot w.now (AfterStages functions honest job slot (length job.sources + 1) (fresh_in slot job) r w.now)) e v in
        Went-map u (λ added now. HasTold functions honest job.path job.sources slot now × AreTurns (fresh_in slot job) (course added)) (all_told functions honest job slot u.now u.holds.0, u.holds.1)

  module _ {first second third : List Call → Type 0} {slot : ℕ} {calls : List Call} (job : Job) (document : List (List ℕ × Json)) (rose : Type 0) (counted : rose)
      (w : Went first job slot calls (λ added now. IsTriedAgain (document_prompt slot job.sources document) (λ second. second ≡ []) added))
      (u : Went second job slot w.now (λ added now. HasTold functions honest job.path job.sources slot now × AreTurns (anew slot job.sources (length job.sources + 1)) (course added))) where
    -- the second attempt's rows
    pub once_more : (result : Result (Option RowLists) PoolFault) (last : Result RowLists PoolFault) → last_of result ≡ last → (result ≡ Err ServerFault → ⊥)
        → Went third job slot u.now (AfterAnswer functions honest job slot document (asks slot (MapDoc document) (length job.sources)) result u.now)
        → Went third job slot calls (AfterMap functions honest job slot document (document_prompt slot job.sources document) rose last calls)
    once_more (Ok (Some rows)) last e other v =
        let x = Went-then u v (λ added now. HasMapped functions honest job slot document (λ calls. AreTurns (again_in slot job document) (course calls)) rows added now)
        (record { told = v.holds.told; tried = turns_then (fresh_in slot job) (once_in slot job document) u.added v.added u.holds.1 v.holds.tried; right = v.holds.right; bounded = v.holds.bounded }) in
        subst (MapsTo third job slot document rose calls) e (Went-then w x (AfterMap functions honest job slot document (prompt_in slot job document) rose (Ok rows) calls) (record {
          told = x.holds.told;
          tried = inr (counted, again functions honest job (prompt_in slot job document) (λ calls. AreTurns (again_in slot job document) (course calls)) w x w.holds x.holds.tried);
          right = x.holds.right;
          bounded = x.holds.bounded;
        }))
    once_more (Ok None) last e other v =
        let x = Went-then u v (λ added now. HasFailedIn (again_in slot job document) added) (failed_later (fresh_in slot job) (once_in slot job document) u.added v.added u.holds.1 v.holds) in
        subst (MapsTo third job slot document rose calls) e (Went-then w x (AfterMap functions honest job slot document (prompt_in slot job document) rose (Err ServerFault) calls) (failed_again functions honest job (prompt_in slot job document) rose w x counted w.holds x.holds))
    once_more (Err f) last e other v =
        let x = Went-then u v (λ added now. TryRefused functions honest job slot (again_in slot job document) f w.now added) (try_refused_then functions honest job (fresh_in slot job) (once_in slot job document) f u v u.holds.1 v.holds) in
        subst (MapsTo third job slot document rose calls) e (Went-then w x (AfterMap functions honest job slot document (prompt_in slot job document) rose (Err f) calls) (refused_again functions honest job (prompt_in slot job document) rose f w x refl counted w.holds (λ is. other (ap Err is)) x.holds))
