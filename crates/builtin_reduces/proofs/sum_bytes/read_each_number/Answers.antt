-- Number by number.
use Rattle.std.proofs.Common.{◌≡◌, ◌-◌, ◌+◌, ◌++◌, ◌∷◌, [], ℕ, suc, None, sym, ap, ◌∙◌, arith}
use Rattle.std.specs.Int.{w128}
use Rattle.std.proofs.lemmas.Int.{to_z-of_z}
use Rattle.builtin_reduces.specs.SumReading.{numbers_from}
use Rattle.builtin_reduces.proofs.SumReads.{i128_in-read, numbers_from-next, numbers_from-none, numbers_of_count-is}
use Rattle.builtin_reduces.proofs.sum_bytes.read_each_number.Goals as goal

pub returns-in-None : goal.returns-in-None
returns-in-None c =
    let l = c.loop-index in
    let k : ℕ = c.args.count - (l._index + 1) in
    let more : c.args.count - l._index ≡ suc k = omega arith in
    sym (numbers_of_count-is c.args.count c.args.bytes.now None (omega arith) (l.invariant ∙ numbers_from-none l.numbers.items (c.args.count - l._index) k l.rest.now more (sym c.in-None.ensures)))

pub loop-index-preserved : goal.loop-index-preserved
loop-index-preserved c =
    let l = c.loop-index in
    let k : ℕ = c.args.count - (l._index + 1) in
    let more : c.args.count - l._index ≡ suc k = omega arith in
    let number = c.in-Some.number in
    let behind = c.in-Some.behind.now in
    let found = sym c.in-Some.ensures in
    let fits = (i128_in-read l.rest.now number behind found).0 in
    let pushed = c.in_ok-push-in-Some.ensures.items ∙ ap (λ z. l.numbers.items ++ z ∷ []) (to_z-of_z w128 number fits) in
    l.invariant ∙ numbers_from-next l.numbers.items (c.args.count - l._index) k l.rest.now number behind more found ∙ ap (λ ns. numbers_from ns k behind) (sym pushed)
