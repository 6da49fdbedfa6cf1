use Rattle.std.proofs.Common.{◌++◌, sym, ap, ◌∙◌}
use Rattle.std.proofs.lemmas.List.{take-append-drop}
use Rattle.term_codec.specs.Reading.{count_in}
use Rattle.term_codec.proofs.Words.{count_in-spelled, count_in-none}
use Rattle.term_codec.proofs.decode.read_count.Goals as goal

pub returns-in-Some : goal.returns-in-Some
returns-in-Some c =
    let head = c.in-Some.ensures.cases.0 in
    let behind = c.in-Some.ensures.cases.1 in
    let bytes = c.args.bytes.now in
    let whole = sym (take-append-drop 4 bytes) ∙ (λ i. (sym head ∙ sym c.count_of.ensures) i ++ sym behind i) in
    sym (ap count_in whole ∙ count_in-spelled c.count_of.result c.in-Some.rest.now c.count_of.type_inv)

pub returns-in-None : goal.returns-in-None
returns-in-None c = sym (count_in-none c.args.bytes.now c.in-None.ensures.cases)
