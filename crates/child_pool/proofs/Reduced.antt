-- A value was asked for: what follows.
use Rattle.std.proofs.Common.{◌≡◌, ◌≤◌, ◌+◌, ℕ, List, [], ◌∷◌, ◌++◌, map, Bool, true, false, Option, Some, None, Result, Ok, Err, refl, sym, ap, ◌∙◌, subst, inl, inr, arith}
use Rattle.std.specs.List.{list_all}
use Rattle.std.proofs.lemmas.Bool.{and_parts, leb-true}
use Rattle.json_terms.specs.Json.{depth, items_depth, items_of}
use Rattle.json_terms.specs.Reading.{reading}
use Rattle.json_terms.specs.Seen.{json, term}
use Rattle.json_terms.specs.Terms.{IsTerm}
use Rattle.json_terms.specs.declared.term.Row.{Row}
use Rattle.json_terms.specs.declared.term.Term.{Term}
use Rattle.view_ports.specs.declared.command.Command.{Command}
use Rattle.view_ports.specs.declared.command.Command.TheVariants.{Reset, AddFun, MapDoc, Reduce, Rereduce, Other}
use Rattle.view_ports.specs.Calls.{Call, child, is_log, is_yes, sources_after}
use Rattle.view_ports.specs.Commands.{command, command_term, reduce_row_term}
use Rattle.view_ports.specs.Functions.{Functions, IsWithinBounds, part_depth}
use Rattle.view_ports.specs.Honest.{IsAnswerable, IsHonestLine, is_complaint_read}
use Rattle.view_ports.specs.ReduceRow.{reduce_row}
use Rattle.query_protocol.specs.CommandLines.{command_line}
use Rattle.query_protocol.specs.declared.reply.Kind.{Kind}
use Rattle.query_protocol.specs.declared.reply.Kind.TheVariants as kind
use Rattle.query_protocol.specs.declared.reply.Reply.{Reply}
use Rattle.query_protocol.specs.declared.reply.Reply.TheVariants as reply
use Rattle.query_protocol.specs.Replies.{reply_of}
use Rattle.child_pool.specs.declared.pool_fault.PoolFault.{PoolFault}
use Rattle.child_pool.specs.declared.pool_fault.PoolFault.TheVariants.{ServerFault, Compile}
use Rattle.child_pool.specs.Causes.{kind_of}
use Rattle.child_pool.specs.Histories.{Went, course, says, hears}
use Rattle.child_pool.specs.Jobs.{IsAmong, IsCommandOf, IsPromptOf, Job, reduce_job}
use Rattle.child_pool.specs.Mapping.{IsPart}
use Rattle.child_pool.specs.Outcomes.{AfterPrompt, AsksSource, WasComplaint}
use Rattle.child_pool.specs.Reducing.{AfterReduce, AfterValue, HasReduced, IsValueBy, ReducesBy, is_shallow_row, is_shallow_value, reduce_prompt, value_said}
use Rattle.child_pool.specs.Refused.{TryRefused}
use Rattle.child_pool.specs.Sessions.{HasTold, IsIdle}
use Rattle.child_pool.specs.Stages.{AfterStages, anew}
use Rattle.child_pool.specs.Talk.{AreTurns, Due, asks}
use Rattle.child_pool.specs.Tries.{HasFailedIn, IsTriedAgain}
use Rattle.child_pool.proofs.Attempts.{again, failed_again, refused_again, refused_once, try_refused_then}
use Rattle.child_pool.proofs.Cutting.{cut_prompt, cut_wider, failed_later, failed_prompt, failed_wider, turns_then}
use Rattle.child_pool.proofs.Going.{Went-map, Went-then}
use Rattle.child_pool.proofs.Stagings.{no_log_said}
use Rattle.child_pool.proofs.Telling.{honest_line, received_last}
use Rattle.child_pool.proofs.ValueReplies.{bounded_value, honest_value, value_said_by}

-- what a whole result's value is
abbrev pub some_value : Result Term PoolFault → Result (Option Term) PoolFault
some_value (Ok value) = Ok (Some value)
some_value (Err f) = Err f

abbrev pub value_result : Result (Option Reply) PoolFault → Result (Option Term) PoolFault
value_result (Ok None) = Ok None
value_result (Ok (Some said)) = some_value (value_said said)
value_result (Err f) = Err f

-- what the value of a second attempt is worth
abbrev pub last_value : Result (Option Term) PoolFault → Result Term PoolFault
last_value (Ok None) = Err ServerFault
last_value (Ok (Some value)) = Ok value
last_value (Err f) = Err f

-- what a failed start comes to
abbrev pub failed_value : Result Bool PoolFault → Result Term PoolFault
failed_value (Ok started) = Err ServerFault
failed_value (Err f) = Err f

-- ---- a command that reduces

pub value_kind : (source : List ℕ) (asked : Command) (count : ℕ) → ReducesBy source asked → kind.Value ≡ kind_of asked count
value_kind source (Reduce reduced rows) count by = refl
value_kind source (Rereduce reduced values) count by = refl
value_kind source Reset count by = absurd by
value_kind source (AddFun added) count by = absurd by
value_kind source (MapDoc document) count by = absurd by
value_kind source Other count by = absurd by

pub reduce_command : (job : Job) (source : List ℕ) (asked : Command) → ReducesBy source asked → IsAmong job.reduces source → IsCommandOf job asked
reduce_command job source (Reduce reduced rows) by among = (subst (IsAmong job.reduces) (sym by.0) among, by.1)
reduce_command job source (Rereduce reduced values) by among = (subst (IsAmong job.reduces) (sym by.0) among, by.1)
reduce_command job source Reset by among = absurd by
reduce_command job source (AddFun added) by among = absurd by
reduce_command job source (MapDoc document) by among = absurd by
reduce_command job source Other by among = absurd by

pub reduce_prompted : (job : Job) (sources : List (List ℕ)) (source : List ℕ) (asked : Command) → ReducesBy source asked → IsAmong job.reduces source → IsPromptOf job sources asked
reduce_prompted job sources source (Reduce reduced rows) by among = (subst (IsAmong job.reduces) (sym by.0) among, by.1)
reduce_prompted job sources source (Rereduce reduced values) by among = (subst (IsAmong job.reduces) (sym by.0) among, by.1)
reduce_prompted job sources source Reset by among = absurd by
reduce_prompted job sources source (AddFun added) by among = absurd by
reduce_prompted job sources source (MapDoc document) by among = absurd by
reduce_prompted job sources source Other by among = absurd by

asks_reduce : (job : Job) (source : List ℕ) (asked : Command) → ReducesBy source asked → IsAmong job.reduces source → AsksSource job source asked
asks_reduce job source (Reduce reduced rows) by among = (by.0, among)
asks_reduce job source (Rereduce reduced values) by among = (by.0, among)
asks_reduce job source Reset by among = absurd by
asks_reduce job source (AddFun added) by among = absurd by
asks_reduce job source (MapDoc document) by among = absurd by
asks_reduce job source Other by among = absurd by

keeps_sources : (source : List ℕ) (asked : Command) (accepted : Bool) (sources : List (List ℕ)) → ReducesBy source asked → sources_after asked accepted sources ≡ sources
keeps_sources source (Reduce reduced rows) accepted sources by = refl
keeps_sources source (Rereduce reduced values) accepted sources by = refl
keeps_sources source Reset accepted sources by = absurd by
keeps_sources source (AddFun added) accepted sources by = absurd by
keeps_sources source (MapDoc document) accepted sources by = absurd by
keeps_sources source Other accepted sources by = absurd by

reduce_answerable : (source : List ℕ) (asked : Command) (sources : List (List ℕ)) → ReducesBy source asked → IsAnswerable sources asked
reduce_answerable source (Reduce reduced rows) sources by = by.1.1
reduce_answerable source (Rereduce reduced values) sources by = by.1.1
reduce_answerable source Reset sources by = absurd by
reduce_answerable source (AddFun added) sources by = absurd by
reduce_answerable source (MapDoc document) sources by = absurd by
reduce_answerable source Other sources by = absurd by

right_value : (functions : Functions) (source : List ℕ) (asked : Command) (sources : List (List ℕ)) (logs : ℕ) (line : List ℕ) (value : Term) → ReducesBy source asked → is_log line ≡ false → reply_of kind.Value line ≡ Some (reply.Value value)
    → IsHonestLine functions sources logs asked line → (functions.reduce_compiles source ≡ true) × IsValueBy functions asked (json value)
right_value functions source (Reduce reduced rows) sources logs line value by no_log reads (inl log) = absurd (let yes : is_log line ≡ true = log.0 in cc)
right_value functions source (Reduce reduced rows) sources logs line value by no_log reads (inr answer) =
    let found = honest_value line (functions.reduce_compiles reduced) (functions.reduce_of reduced rows) value no_log (functions.proper_reduces reduced rows by.1.0 by.1.1) answer.1 reads in
    (subst (λ (s : List ℕ). functions.reduce_compiles s ≡ true) by.0 found.0, found.1)
right_value functions source (Rereduce reduced values) sources logs line value by no_log reads (inl log) = absurd (let yes : is_log line ≡ true = log.0 in cc)
right_value functions source (Rereduce reduced values) sources logs line value by no_log reads (inr answer) =
    let found = honest_value line (functions.reduce_compiles reduced) (functions.rereduce_of reduced values) value no_log (functions.proper_rereduces reduced values by.1.0 by.1.1) answer.1 reads in
    (subst (λ (s : List ℕ). functions.reduce_compiles s ≡ true) by.0 found.0, found.1)
right_value functions source Reset sources logs line value by no_log reads h = absurd by
right_value functions source (AddFun added) sources logs line value by no_log reads h = absurd by
right_value functions source (MapDoc document) sources logs line value by no_log reads h = absurd by
right_value functions source Other sources logs line value by no_log reads h = absurd by

-- a value that a reply holds is within the bounds
pub value_within : (value : Term) → IsTerm (json value) → IsPart (json value) → IsWithinBounds (json value)
value_within value valid part = record { valid = valid; size = part.size; nested = part.nested }

-- what is due with a fresh child
abbrev fresh_in : ℕ → List Due
fresh_in slot = anew slot [] 1

abbrev again_in : ℕ → Command → List Due
again_in slot asked = fresh_in slot ++ asks slot asked 0

-- ---- one prompt

module _ (functions : List ℕ → Functions) (honest : List ℕ → Type 0) (path : List ℕ) (reduces : List (List ℕ)) (source : List ℕ) (asked : Command) where
  abbrev job : Job
  job = reduce_job path reduces

  module _ (follow : List Call → Type 0) (slot : ℕ) (calls : List Call) (line : List ℕ) (is : command line ≡ asked) (spelled : line ≡ command_line asked) (by : ReducesBy source asked) (among : IsAmong reduces source) where
    abbrev Asked : Result (Option Reply) PoolFault → Type 0
    Asked result = Went follow job slot calls (AfterPrompt functions honest job [] line slot (says slot line ∷ []) result calls)

    abbrev Given : Result (Option Term) PoolFault → Type 0
    Given result = Went follow job slot calls (AfterValue functions honest job slot source asked (asks slot asked 0) result calls)

    reads_so : (said : Reply) (w : Asked (Ok (Some said))) → reply_of (kind_of asked 0) w.holds.line ≡ Some said
    reads_so said w = subst (λ (c : Command). reply_of (kind_of c 0) w.holds.line ≡ Some said) is w.holds.reads

    reads_value : (said : Reply) (w : Asked (Ok (Some said))) → reply_of kind.Value w.holds.line ≡ Some said
    reads_value said w = subst (λ (k : Kind). reply_of k w.holds.line ≡ Some said) (sym (value_kind source asked 0 by)) (reads_so said w)

    -- the value was given
    value_given : (value : Term) (w : Asked (Ok (Some (reply.Value value)))) → IsTerm (json value) → Given (Ok (Some value))
    value_given value w valid =
        let r = w.holds in
        let right = λ (h : honest path). right_value (functions path) source asked [] r.logs r.line value by r.no_log (reads_value (reply.Value value) w)
        (honest_line functions honest path [] line r.logs (child slot r.earlier) r.line r.asked.is r.answers h asked is (reduce_answerable source asked [] by)) in
        Went-map w (AfterValue functions honest job slot source asked (asks slot asked 0) (Ok (Some value)) calls) (record {
          told = record {
            idle = subst (λ (srcs : List (List ℕ)). IsIdle path srcs slot w.now) (ap (λ (c : Command). sources_after c (is_yes r.line) []) is ∙ keeps_sources source asked (is_yes r.line) [] by) r.idle;
            compile = λ h. tt;
          };
          tried = subst (AreTurns (asks slot asked 0)) (sym r.talked) ((refl, spelled), ((refl, record { reply = reply.Value value; answer = tt; reads = reads_so (reply.Value value) w }), tt));
          compiles = λ h. (right h).0;
          right = λ h. (right h).1;
          bounded = value_within value valid (bounded_value r.line (reply.Value value) (reads_value (reply.Value value) w));
        })

    -- the source was complained of
    complaint_given : (w : Asked (Ok (Some reply.Compile))) → is_complaint_read (reading w.holds.line) ≡ true → Given (Err Compile)
    complaint_given w complains =
        let r = w.holds in
        let p : WasComplaint functions honest job (child slot r.earlier) r.line = record {
          reply = record {
            sources = [];
            prompt = line;
            logs = r.logs;
            is = r.asked.is;
            asked = subst (IsPromptOf job []) (sym is) (reduce_prompted job [] source asked by among);
            answers = r.answers;
          };
          source = source;
          asks = subst (AsksSource job source) (sym is) (asks_reduce job source asked by among);
          complains = complains;
          silent = r.no_log;
        } in
        Went-map w (AfterValue functions honest job slot source asked (asks slot asked 0) (Err Compile) calls) (record {
          caused = received_last (WasComplaint functions honest job) slot r.line w.added calls w.now r.earlier (says slot line ∷ []) (hears slot r.line) w.is_now r.is r.talked p;
          cut = cut_prompt slot asked 0 line (course w.added) spelled (inr (Some r.line, r.talked));
        })

    -- an answer is a value or a complaint
    said_given : (said : Reply) (w : Asked (Ok (Some said))) → ((value : Term) → said ≡ reply.Value value → IsTerm (json value)) → Given (some_value (value_said said))
    said_given (reply.Value value) w valid = value_given value w (valid value refl)
    said_given reply.Compile w valid = elim (value_said_by w.holds.line reply.Compile (λ same. cc) (reads_value reply.Compile w)) [
      | inl complaint ↦ complaint_given w complaint.0
      | inr given ↦ let never : reply.Compile ≡ reply.Value (term given.0) = given.1 in absurd cc
    ]
    said_given reply.Log w valid = absurd (no_log_said functions honest path line slot [] reply.Log w.added w.now w.holds refl)
    said_given reply.Yes w valid = elim (value_said_by w.holds.line reply.Yes (λ same. cc) (reads_value reply.Yes w)) [
      | inl complaint ↦ let never : reply.Yes ≡ reply.Compile = complaint.1 in absurd cc
      | inr given ↦ let never : reply.Yes ≡ reply.Value (term given.0) = given.1 in absurd cc
    ]
    said_given (reply.Rows rows) w valid = elim (value_said_by w.holds.line (reply.Rows rows) (λ same. cc) (reads_value (reply.Rows rows) w)) [
      | inl complaint ↦ let never : reply.Rows rows ≡ reply.Compile = complaint.1 in absurd cc
      | inr given ↦ let never : reply.Rows rows ≡ reply.Value (term given.0) = given.1 in absurd cc
    ]

    pub value_went : (result : Result (Option Reply) PoolFault) → ((value : Term) → value_result result ≡ Ok (Some value) → IsTerm (json value)) → Asked result → Given (value_result result)
    value_went (Ok None) valid w = Went-map w (AfterValue functions honest job slot source asked (asks slot asked 0) (Ok None) calls) (failed_prompt slot asked 0 line w.added spelled w.holds)
    value_went (Ok (Some said)) valid w = said_given said w (λ value is. valid value (ap (λ (saying : Reply). some_value (value_said saying)) is))
    value_went (Err f) valid w =
        Went-map w (AfterValue functions honest job slot source asked (asks slot asked 0) (Err f) calls) (record { caused = w.holds.0; cut = cut_prompt slot asked 0 line (course w.added) spelled w.holds.1 })

    -- the same, where this is what it comes to
    pub value_went_to : (result : Result (Option Reply) PoolFault) (last : Result (Option Term) PoolFault) → value_result result ≡ last → ((value : Term) → last ≡ Ok (Some value) → IsTerm (json value)) → Asked result → Given last
    value_went_to result last e valid w = subst Given e (value_went result (λ value is. valid value (sym e ∙ is)) w)

  -- ---- two attempts

  -- the last of the calls gave a value, or was refused
  abbrev Ends : (List Call → Type 0) → ℕ → Type 0 → List Call → Result Term PoolFault → Type 0
  Ends follow slot rose calls last = Went follow job slot calls (AfterReduce functions honest job slot source asked rose last calls)

  -- a first attempt that gave a value, or was refused
  pub first_value : {follow : List Call → Type 0} {slot : ℕ} {calls : List Call} (rose : Type 0) (result : Result (Option Term) PoolFault) (last : Result Term PoolFault) → result ≡ some_value last → (result ≡ Err ServerFault → ⊥)
      → Went follow job slot calls (AfterValue functions honest job slot source asked (asks slot asked 0) result calls) → Ends follow slot rose calls last
  first_value {follow = follow} {slot = slot} {calls = calls} rose result (Ok value) e other w =
      let v = subst (λ (r : Result (Option Term) PoolFault). Went follow job slot calls (AfterValue functions honest job slot source asked (asks slot asked 0) r calls)) e w in
      Went-map v (AfterReduce functions honest job slot source asked rose (Ok value) calls) (record { told = v.holds.told; tried = inl v.holds.tried; compiles = v.holds.compiles; right = v.holds.right; bounded = v.holds.bounded })
  first_value {follow = follow} {slot = slot} {calls = calls} rose result (Err f) e other w =
      let v = subst (λ (r : Result (Option Term) PoolFault). Went follow job slot calls (AfterValue functions honest job slot source asked (asks slot asked 0) r calls)) e w in
      Went-map v (AfterReduce functions honest job slot source asked rose (Err f) calls) (refused_once functions honest job slot (reduce_prompt slot asked) rose f calls v.added refl (λ is. other (e ∙ ap Err is)) v.holds)

  module _ {first second : List Call → Type 0} {slot : ℕ} {calls : List Call} (rose : Type 0) (counted : rose) (w : Went first job slot calls (λ added now. IsTriedAgain (reduce_prompt slot asked) (λ second. second ≡ []) added)) where
    -- no fresh child was reset
    pub failed_reset : (result : Result Bool PoolFault) (last : Result Term PoolFault) → failed_value result ≡ last → (result ≡ Ok true → ⊥) → (result ≡ Err ServerFault → ⊥)
        → Went second job slot w.now (AfterStages functions honest job slot 1 (fresh_in slot) result w.now) → Ends second slot rose calls last
    failed_reset (Ok true) last e unready other v = absurd (unready refl)
    failed_reset (Ok false) last e unready other v =
        subst (Ends second slot rose calls) e (Went-then w v (AfterReduce functions honest job slot source asked rose (Err ServerFault) calls)
        (failed_again functions honest job (reduce_prompt slot asked) rose w v counted w.holds (failed_wider (fresh_in slot) (asks slot asked 0) v.added v.holds)))
    failed_reset (Err f) last e unready other v =
        let wider : TryRefused functions honest job slot (again_in slot asked) f w.now v.added = record { caused = v.holds.caused; cut = cut_wider slot (fresh_in slot) (asks slot asked 0) (course v.added) v.holds.cut } in
        subst (Ends second slot rose calls) e (Went-then w v (AfterReduce functions honest job slot source asked rose (Err f) calls)
        (refused_again functions honest job (reduce_prompt slot asked) rose f w v refl counted w.holds (λ is. other (ap Err is)) wider))

    -- a fresh child was reset
    pub was_reset : (result : Result Bool PoolFault) → result ≡ Ok true → Went second job slot w.now (AfterStages functions honest job slot 1 (fresh_in slot) result w.now)
        → Went second job slot w.now (λ added now. HasTold functions honest path [] slot now × AreTurns (fresh_in slot) (course added))
    was_reset result e v =
        let u = subst (λ (r : Result Bool PoolFault). Went second job slot w.now (AfterStages functions honest job slot 1 (fresh_in slot) r w.now)) e v in
        Went-map u (λ added now. HasTold functions honest path [] slot now × AreTurns (fresh_in slot) (course added)) u.holds

  module _ {first second third : List Call → Type 0} {slot : ℕ} {calls : List Call} (rose : Type 0) (counted : rose) (w : Went first job slot calls (λ added now. IsTriedAgain (reduce_prompt slot asked) (λ second. second ≡ []) added))
      (u : Went second job slot w.now (λ added now. HasTold functions honest path [] slot now × AreTurns (anew slot [] 1) (course added))) where
    -- the second attempt's value
    pub value_again : (result : Result (Option Term) PoolFault) (last : Result Term PoolFault) → last_value result ≡ last → (result ≡ Err ServerFault → ⊥)
        → Went third job slot u.now (AfterValue functions honest job slot source asked (asks slot asked 0) result u.now) → Went third job slot calls (AfterReduce functions honest job slot source asked rose last calls)
    value_again (Ok (Some value)) last e other v =
        let x = Went-then u v (λ added now. HasReduced functions honest job slot source asked (λ calls. AreTurns (again_in slot asked) (course calls)) (json value) added now)
        (record { told = v.holds.told; tried = turns_then (fresh_in slot) (asks slot asked 0) u.added v.added u.holds.1 v.holds.tried; compiles = v.holds.compiles; right = v.holds.right; bounded = v.holds.bounded }) in
        subst (Ends third slot rose calls) e (Went-then w x (AfterReduce functions honest job slot source asked rose (Ok value) calls) (record {
          told = x.holds.told;
          tried = inr (counted, again functions honest job (reduce_prompt slot asked) (λ calls. AreTurns (again_in slot asked) (course calls)) w x w.holds x.holds.tried);
          compiles = x.holds.compiles;
          right = x.holds.right;
          bounded = x.holds.bounded;
        }))
    value_again (Ok None) last e other v =
        let x = Went-then u v (λ added now. HasFailedIn (again_in slot asked) added) (failed_later (fresh_in slot) (asks slot asked 0) u.added v.added u.holds.1 v.holds) in
        subst (Ends third slot rose calls) e (Went-then w x (AfterReduce functions honest job slot source asked rose (Err ServerFault) calls) (failed_again functions honest job (reduce_prompt slot asked) rose w x counted w.holds x.holds))
    value_again (Err f) last e other v =
        let x = Went-then u v (λ added now. TryRefused functions honest job slot (again_in slot asked) f w.now added) (try_refused_then functions honest job (fresh_in slot) (asks slot asked 0) f u v u.holds.1 v.holds) in
        subst (Ends third slot rose calls) e (Went-then w x (AfterReduce functions honest job slot source asked rose (Err f) calls) (refused_again functions honest job (reduce_prompt slot asked) rose f w x refl counted w.holds (λ is. other (ap Err is)) x.holds))

-- ---- lines that aren't too deep

shallow_rows : (rows : List Row) → list_all is_shallow_row rows ≡ true → items_depth (items_of (map reduce_row_term (map reduce_row rows))) ≤ part_depth + 2
shallow_rows [] all = omega arith
shallow_rows (row ∷ rows) all =
    let both = and_parts (is_shallow_row row) (list_all is_shallow_row rows) all in
    let parts = and_parts (is_shallow_value row.key) (is_shallow_value row.value) both.0 in
    let key = leb-true (depth (json row.key)) part_depth parts.0 in
    let value = leb-true (depth (json row.value)) part_depth parts.1 in
    omega (arith, key, value, shallow_rows rows both.1)

shallow_values : (values : List Term) → list_all is_shallow_value values ≡ true → items_depth (items_of (map json values)) ≤ part_depth
shallow_values [] all = omega arith
shallow_values (value ∷ values) all =
    let both = and_parts (is_shallow_value value) (list_all is_shallow_value values) all in
    omega (arith, leb-true (depth (json value)) part_depth both.0, shallow_values values both.1)

pub rows_depth : (source : List ℕ) (rows : List Row) → list_all is_shallow_row rows ≡ true → depth (command_term (Reduce source (map reduce_row rows))) ≤ 100
rows_depth source rows all = omega (arith, shallow_rows rows all)

pub values_depth : (source : List ℕ) (values : List Term) → list_all is_shallow_value values ≡ true → depth (command_term (Rereduce source (map json values))) ≤ 100
values_depth source values all = omega (arith, shallow_values values all)
