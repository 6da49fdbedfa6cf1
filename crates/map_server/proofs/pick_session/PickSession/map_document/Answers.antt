use Rattle.std.proofs.Common.{◌≡◌, ◌∙◌, ℕ, Vec, Global, map, subst, ap, refl, arith}
use Rattle.std.proofs.lemmas.Result.{IfOk-weaker}
use Rattle.json_terms.specs.Json.{Json, array, items_of, items_depth}
use Rattle.view_ports.specs.Functions.{rows_term, lists_term}
use Rattle.view_ports.specs.Honest.{IsTextOf, rows_of}
use Rattle.map_server.specs.Pick.{pick}
use Rattle.map_server.specs.PickFunctions.{pick_map}
use Rattle.map_server.proofs.Mapping.{lists_depth, lists_same}
use Rattle.map_server.proofs.pick_session.PickSession.map_document.Goals as goal

pub answer_text-requires : goal.answer_text-requires
answer_text-requires c =
    let lists = c.in_ok-lists.ensures c.args.document refl in
    let shallow = lists_depth c.as_slice.result.now c.args.document in
    let same : items_depth (items_of c.in_ok-lists.lists) ≡ items_depth (items_of (map (λ f. rows_term (pick_map f.source c.args.document)) c.as_slice.result.now)) = ap (λ ls. items_depth (items_of ls)) lists in
    omega (arith, same, shallow)

pub returns : goal.returns
returns c =
    let lists = c.in_ok-lists.ensures c.args.document refl in
    let functions = c.as_slice.result.now in
    let sources : map (λ f. f.source) functions ≡ c.args.self.now = ap (map (λ f. f.source)) c.as_slice.ensures.value ∙ c.self.view_is in
    let all = ap (λ ls. array (items_of ls)) (lists ∙ lists_same functions c.args.document) ∙ ap (λ ss. lists_term (rows_of pick ss c.args.document)) sources in
    IfOk-weaker _ _ _ (λ (text : Vec ℕ Global) (is : IsTextOf (array (items_of c.in_ok-lists.lists)) text.items). subst (λ (t : Json). IsTextOf t text.items) all is) c.answer_text.ensures
