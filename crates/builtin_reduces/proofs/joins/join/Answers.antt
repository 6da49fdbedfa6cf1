-- The parts are joined one by one.
use Rattle.std.proofs.Common.{◌≡◌, ◌<◌, ◌≤◌, ◌^◌, ◌∙◌, [], length, ap, sym, fold, take, arith, rules}
use Rattle.std.proofs.lemmas.List.{take_all}
use Rattle.std.proofs.lemmas.List.Sums.{fold_more}
use Rattle.builtin_reduces.specs.Values.{value_of}
use Rattle.builtin_reduces.specs.Added.{add_two}
use Rattle.builtin_reduces.proofs.AddedFits.{fits_with_part}
use Rattle.builtin_reduces.proofs.Appended.{parts_joined, terms_of, joined}
use Rattle.builtin_reduces.proofs.joins.join.Goals as goal

pub loop-part-preserved : goal.loop-part-preserved
loop-part-preserved c =
    let parts = c.args.parts.now in
    let i = c.loop-part.part-index in
    let part = c.part-item.result in
    let below : i < length parts = omega arith in
    let added = c.in_ok-total.ensures.value in
    record {
      total = added ∙ (λ j. add_two (c.loop-part.invariant.total j) (c.part-item.is j)) ∙ sym (fold_more add_two (value_of c.args.kind []) parts i part below);
      free = search rules;
      fits = fits_with_part c.args.kind parts i c.loop-part.total part c.in_ok-total.total below c.part-item.is added c.loop-part.invariant.fits;
    }

pub returns-clause-value : goal.returns-clause-value
returns-clause-value c = λ parts some each_some are same.
    let few : length (joined parts) ≤ 2 ^ 63 = let h = are.few in omega arith in
    let all : take c.loop-part.part-index c.args.parts.now ≡ c.args.parts.now = take_all _ _ (omega arith) in
    c.loop-part.invariant.total ∙ ap (fold add_two (value_of c.args.kind [])) (all ∙ same) ∙ parts_joined c.args.kind [] parts (terms_of _ are.terms) few
