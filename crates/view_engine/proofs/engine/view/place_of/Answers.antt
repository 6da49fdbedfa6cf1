-- The first view of the name is the one that is looked up.
use Rattle.std.proofs.Common.{◌≡◌, ◌∙◌, ◌<◌, length, true, false, bytes_eq, sym, ap, arith}
use Rattle.design_docs.specs.declared.design.View.{View}
use Rattle.view_engine.proofs.Places.{looked_up, passed_by, passed_on, passed_over, reduced_at, shown_at}
use Rattle.view_engine.proofs.engine.view.place_of.Goals as goal

pub returns-then-eq-clause-named : goal.returns-then-eq-clause-named
returns-then-eq-clause-named c =
    let views = c.args.views.now in
    let i = c.loop-place.place in
    let view : View = c.index-views-place.result in
    let within : i < length views = omega arith in
    let same : bytes_eq view.name c.args.name.now ≡ true = ap (λ name. bytes_eq name c.args.name.now) (sym c.as_str.ensures) ∙ sym c.if-eq.ensures in
    looked_up c.args.name.now views i view within c.index-views-place.is same ∙ c.loop-place.invariant.0

pub returns-then-eq-clause-shown : goal.returns-then-eq-clause-shown
returns-then-eq-clause-shown c = λ rows long.
    let views = c.args.views.now in
    let i = c.loop-place.place in
    let view : View = c.index-views-place.result in
    let within : i < length views = omega arith in
    let same : bytes_eq view.name c.args.name.now ≡ true = ap (λ name. bytes_eq name c.args.name.now) (sym c.as_str.ensures) ∙ sym c.if-eq.ensures in
    sym (c.loop-place.invariant.1 rows long) ∙ shown_at c.args.name.now views rows i view within long c.index-views-place.is same

pub returns-then-eq-clause-reduced : goal.returns-then-eq-clause-reduced
returns-then-eq-clause-reduced c =
    let views = c.args.views.now in
    let i = c.loop-place.place in
    let view : View = c.index-views-place.result in
    let within : i < length views = omega arith in
    let same : bytes_eq view.name c.args.name.now ≡ true = ap (λ name. bytes_eq name c.args.name.now) (sym c.as_str.ensures) ∙ sym c.if-eq.ensures in
    reduced_at c.args.name.now views i view within c.index-views-place.is same ∙ c.loop-place.invariant.2

pub loop-place-preserved : goal.loop-place-preserved
loop-place-preserved c =
    let views = c.args.views.now in
    let i = c.loop-place.place in
    let view : View = c.index-views-place.result in
    let within : i < length views = omega arith in
    let other : bytes_eq view.name c.args.name.now ≡ false = ap (λ name. bytes_eq name c.args.name.now) (sym c.as_str.ensures) ∙ sym c.if-eq.ensures in (
      passed_over c.args.name.now views i _ view (omega arith) within c.index-views-place.is other ∙ c.loop-place.invariant.0,
      λ rows long. passed_by c.args.name.now views rows i _ view (omega arith) within long c.index-views-place.is other ∙ c.loop-place.invariant.1 rows long,
      passed_on c.args.name.now views i _ view (omega arith) within c.index-views-place.is other ∙ c.loop-place.invariant.2,
    )
