use Rattle.std.proofs.Common.{◌≡◌, ◌≤◌, ◌∙◌, ℕ, Vec, Global, Some, map, subst, sym, ap}
use Rattle.std.proofs.lemmas.Result.{IfOk-weaker}
use Rattle.json_terms.specs.Json.{Json, depth}
use Rattle.json_terms.specs.Seen.{json}
use Rattle.map_lang.specs.Reduce.{reduce_named, reduce_of}
use Rattle.view_ports.specs.Honest.{IsTextOf}
use Rattle.map_server.specs.PickFunctions.{value_of_row}
use Rattle.map_server.specs.Replies.{result_depth, result_term}
use Rattle.map_server.proofs.Reducing.{values_same, reduce_shallow, reduce_answer}
use Rattle.map_server.proofs.replies.reduce.Goals as goal

pub result_text-requires : goal.result_text-requires
result_text-requires c =
    let same : json c.in_ok-run_reduce.field-0 ≡ reduce_of c.in-Some.how (map value_of_row c.args.rows) =
    c.in_ok-run_reduce.ensures ∙ ap (reduce_of c.in-Some.how) (values_same c.as_slice.result.now ∙ ap (map value_of_row) c.as_slice.ensures) in
    subst (λ (t : Json). depth t ≤ result_depth) (sym same) (reduce_shallow c.in-Some.how c.args.rows c.requires.1)

pub returns : goal.returns
returns c =
    let same : json c.in_ok-run_reduce.field-0 ≡ reduce_of c.in-Some.how (map value_of_row c.args.rows) =
    c.in_ok-run_reduce.ensures ∙ ap (reduce_of c.in-Some.how) (values_same c.as_slice.result.now ∙ ap (map value_of_row) c.as_slice.ensures) in
    let named : reduce_named c.args.source ≡ Some c.in-Some.how = ap reduce_named (sym c.as_str.ensures) ∙ sym c.parse_reduce.ensures ∙ c.in-Some.is in
    let answer = ap result_term same ∙ reduce_answer c.args.source c.in-Some.how c.args.rows named in
    IfOk-weaker _ _ _ (λ (text : Vec ℕ Global) (is : IsTextOf (result_term (json c.in_ok-run_reduce.field-0)) text.items). λ sources. subst (λ (t : Json). IsTextOf t text.items) answer is) c.result_text.ensures
