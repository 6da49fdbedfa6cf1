use Rattle.std.proofs.Common.{◌++◌, sym, ap, ◌∙◌}
use Rattle.std.proofs.lemmas.List.{take-append-drop}
use Rattle.builtin_reduces.specs.SumReading.{u128_in}
use Rattle.builtin_reduces.specs.SumSpelled.{u128_in-spelled}
use Rattle.builtin_reduces.proofs.SumReads.{u128_in-none}
use Rattle.builtin_reduces.proofs.sum_bytes.read_u128.Goals as goal

pub returns-in-Some : goal.returns-in-Some
returns-in-Some c =
    let head = c.in-Some.ensures.cases.0 in
    let behind = c.in-Some.ensures.cases.1 in
    let bytes = c.args.bytes.now in
    let whole = sym (take-append-drop 16 bytes) ∙ (λ i. (sym head ∙ sym c.u128_of.ensures) i ++ sym behind i) in
    sym (ap u128_in whole ∙ u128_in-spelled c.u128_of.result c.in-Some.rest.now c.u128_of.type_inv)

pub returns-in-None : goal.returns-in-None
returns-in-None c = sym (u128_in-none c.args.bytes.now c.in-None.ensures.cases)
