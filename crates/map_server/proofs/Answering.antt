-- The answers of a session are those of an honest server.
use Rattle.std.specs.Prelude.{◌≡◌, ◌≤◌, ℕ, List, [], ◌∷◌, ◌++◌, length, Bool, true, false, cond, refl, codes, MatchBool}
use Rattle.std.proofs.Common.{sym, ap, ◌∙◌, arith}
use Rattle.json_terms.specs.Json.{Json, is_true, no_items, item}
use Rattle.json_terms.specs.Text.{text_of}
use Rattle.json_terms.proofs.Parts.{length-text_of-array}
use Rattle.view_ports.specs.declared.command.Command.{Command}
use Rattle.view_ports.specs.declared.command.Command.TheVariants.{Reset, AddFun, MapDoc, Reduce, Rereduce, Other}
use Rattle.view_ports.specs.Calls.{is_log, is_log_term, is_yes, is_yes_term, sources_after}
use Rattle.view_ports.specs.Commands.{list1}
use Rattle.view_ports.specs.Functions.{line_limit, part_limit, lists_term}
use Rattle.view_ports.specs.Honest.{Answers, Complains, IsAnswerable, IsTextOf, Spells, no_compilation, rows_of}
use Rattle.view_ports.proofs.Fields.{is_log-read, is_yes-read, lists_are_no_log, Spells-text, Spells-strings}
use Rattle.map_server.specs.Pick.{pick}
use Rattle.map_server.specs.PickFunctions.{pick_compiles, pick_reduce_compiles, pick_reduce, pick_rereduce}
use Rattle.map_server.specs.Replies.{IsReducible, answer_of, sources_then, result_term}

yes_spells : (line : List ℕ) → IsTextOf is_true line → Spells line is_true
yes_spells line is = Spells-text is_true line (omega arith) is

complains : (line : List ℕ) → IsTextOf no_compilation line → Complains line
complains line is =
    let spells = Spells-strings (codes "error") (codes "compilation_error") (codes "source") line (omega arith) is in
    (spells.short, rw spells.spelled refl)

-- a result within the bounds makes a short answer
result_short : (t : Json) → length (text_of t) ≤ part_limit → length (text_of (result_term t)) ≤ line_limit
result_short t h =
    let inner = length-text_of-array (item t no_items) in
    let outer = length-text_of-array (item is_true (item (list1 t) no_items)) in
    omega (arith, h, inner, outer)

add_answers : (b : Bool) (line : List ℕ) → IsTextOf (cond b is_true no_compilation) line → MatchBool b (Spells line is_true) (Complains line)
add_answers true line is = yes_spells line is
add_answers false line is = complains line is

result_answers : (b : Bool) (t : Json) (line : List ℕ) → length (text_of t) ≤ part_limit → IsTextOf (cond b (result_term t) no_compilation) line → MatchBool b (Spells line (result_term t)) (Complains line)
result_answers true t line short is = Spells-text (result_term t) line (result_short t short) is
result_answers false t line short is = complains line is

pub answers_honestly : (sources : List (List ℕ)) (c : Command) (line : List ℕ) → IsReducible c → IsTextOf (answer_of sources c) line → IsAnswerable sources c → Answers pick sources c line
answers_honestly sources Reset line meets is asked = yes_spells line is
answers_honestly sources (AddFun source) line meets is asked = add_answers (pick_compiles source) line is
answers_honestly sources (MapDoc document) line meets is asked = Spells-text (lists_term (rows_of pick sources document)) line (pick.proper_maps sources document asked.1 asked.0).short is
answers_honestly sources (Reduce source rows) line meets is asked =
    result_answers (pick_reduce_compiles source) (pick_reduce source rows) line (pick.proper_reduces source rows meets.0 asked).size is
answers_honestly sources (Rereduce source values) line meets is asked =
    result_answers (pick_reduce_compiles source) (pick_rereduce source values) line (pick.proper_rereduces source values meets.0 asked).size is
answers_honestly sources Other line meets is asked = absurd asked

-- ---- no answer is a log line

compiled_no_log : (b : Bool) → is_log_term (cond b is_true no_compilation) ≡ false
compiled_no_log true = refl
compiled_no_log false = refl

result_no_log : (b : Bool) (t : Json) → is_log_term (cond b (result_term t) no_compilation) ≡ false
result_no_log true t = refl
result_no_log false t = refl

no_log : (sources : List (List ℕ)) (c : Command) → is_log_term (answer_of sources c) ≡ false
no_log sources Reset = refl
no_log sources (AddFun source) = compiled_no_log (pick_compiles source)
no_log sources (MapDoc document) = lists_are_no_log (rows_of pick sources document)
no_log sources (Reduce source rows) = result_no_log (pick_reduce_compiles source) (pick_reduce source rows)
no_log sources (Rereduce source values) = result_no_log (pick_reduce_compiles source) (pick_rereduce source values)
no_log sources Other = refl

pub answers_silently : (sources : List (List ℕ)) (c : Command) (line : List ℕ) → IsTextOf (answer_of sources c) line → is_log line ≡ false
answers_silently sources c line is = is_log-read line (answer_of sources c) is.spelled ∙ no_log sources c

-- ---- a source is added where the answer is `true`

compiled_yes : (b : Bool) → is_yes_term (cond b is_true no_compilation) ≡ b
compiled_yes true = refl
compiled_yes false = refl

compiled_adds : (b : Bool) (sources : List (List ℕ)) (source : List ℕ) → cond b (sources ++ source ∷ []) sources ≡ sources_after (AddFun source) b sources
compiled_adds true sources source = refl
compiled_adds false sources source = refl

pub answers_add : (sources : List (List ℕ)) (c : Command) (line : List ℕ) → IsTextOf (answer_of sources c) line → sources_then sources c ≡ sources_after c (is_yes line) sources
answers_add sources Reset line is = refl
answers_add sources (AddFun source) line is =
    let yes : is_yes line ≡ pick_compiles source = is_yes-read line (answer_of sources (AddFun source)) is.spelled ∙ compiled_yes (pick_compiles source) in
    compiled_adds (pick_compiles source) sources source ∙ ap (λ b. sources_after (AddFun source) b sources) (sym yes)
answers_add sources (MapDoc document) line is = refl
answers_add sources (Reduce source rows) line is = refl
answers_add sources (Rereduce source values) line is = refl
answers_add sources Other line is = refl
