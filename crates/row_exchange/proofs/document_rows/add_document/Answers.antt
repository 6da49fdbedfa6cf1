-- The emissions of the function are those of its place.
use Rattle.std.specs.Prelude.{OnOk, slice_index_or}
use Rattle.std.proofs.Common.{◌≡◌, ◌∙◌, ◌++◌, [], map, ap, subst}
use Rattle.json_terms.specs.Emitted.{key_value}
use Rattle.view_model.specs.Rows.{rows_from}
use Rattle.row_exchange.proofs.document_rows.add_document.Goals as goal

pub returns-in-Some : goal.returns-in-Some
returns-in-Some c =
    let lists = c.args.lists.now in
    let emitted : map key_value c.as_slice-in-Some.result.now ≡ slice_index_or lists c.args.function [] = c.as_slice-in-Some.ensures ∙ c.in-Some.ensures.lookup.3.1 [] ∙ ap (λ ls. slice_index_or ls c.args.function []) c.as_slice.ensures in
    subst (λ es. OnOk c.add_rows.result (c.add_rows.new.rows.items ≡ c.args.rows.now.items ++ rows_from 0 c.args.id.now es)) emitted c.add_rows.ensures
