use Rattle.std.proofs.Common.{◌++◌, sym, ap, ◌∙◌}
use Rattle.std.proofs.lemmas.List.{take-append-drop}
use Rattle.term_codec.specs.Reading.{short_in}
use Rattle.term_codec.proofs.Wholes.{short_in-spelled, short_in-none}
use Rattle.term_codec.proofs.decode.read_short.Goals as goal

pub returns-in-Some : goal.returns-in-Some
returns-in-Some c =
    let head = c.in-Some.ensures.cases.0 in
    let behind = c.in-Some.ensures.cases.1 in
    let bytes = c.args.bytes.now in
    let whole = sym (take-append-drop 2 bytes) ∙ (λ i. (sym head ∙ sym c.short_of.ensures) i ++ sym behind i) in
    sym (ap short_in whole ∙ short_in-spelled c.short_of.result c.in-Some.rest.now c.short_of.type_inv)

pub returns-in-None : goal.returns-in-None
returns-in-None c = sym (short_in-none c.args.bytes.now c.in-None.ensures.cases)
