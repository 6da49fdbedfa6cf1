use Rattle.std.proofs.Common.{◌++◌, Some, FitsSigned, sym, ap, ◌∙◌}
use Rattle.std.proofs.lemmas.List.{take-append-drop}
use Rattle.std.specs.Int.{w64}
use Rattle.std.proofs.lemmas.Int.{to_z-of_z}
use Rattle.json_terms.specs.Json.{number}
use Rattle.term_codec.specs.Reading.{number_in}
use Rattle.term_codec.proofs.Words.{number_in-spelled, number_in-none}
use Rattle.term_codec.proofs.decode.read_number.Goals as goal

pub returns-in-Some : goal.returns-in-Some
returns-in-Some c =
    let head = c.in-Some.ensures.cases.0 in
    let behind = c.in-Some.ensures.cases.1 in
    let bytes = c.args.bytes.now in
    let whole = sym (take-append-drop 8 bytes) ∙ (λ i. (sym head ∙ sym c.number_of.ensures) i ++ sym behind i) in
    let fits : FitsSigned w64 c.number_of.result = record { sfits = c.number_of.type_inv } in
    ap (λ z. Some (number z, c.in-Some.rest.now)) (to_z-of_z w64 c.number_of.result fits) ∙ sym (ap number_in whole ∙ number_in-spelled c.number_of.result c.in-Some.rest.now fits)

pub returns-in-None : goal.returns-in-None
returns-in-None c = sym (number_in-none c.args.bytes.now c.in-None.ensures.cases)
