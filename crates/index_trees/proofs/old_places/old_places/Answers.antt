use Rattle.std.proofs.Common.{◌∙◌, ◌≡◌, ◌++◌, ◌∷◌, length, arith, ap, subst}
use Rattle.std.specs.Prelude.{Some}
use Rattle.std.specs.List.{filter}
use Rattle.std.proofs.lemmas.Result.{err_from_is_err_and}
use Rattle.tree_laws.specs.Values.{no_values}
use Rattle.index_items.specs.BackLaws.{entries_spelled_once}
use Rattle.tree_query.specs.Bare.{HoldsItems}
use Rattle.tree_query.proofs.Calls.{Laws, fails_on, ran_bad, ran_err, went_on}
use Rattle.tree_query.proofs.Reached.{none_unfit}
use Rattle.index_trees.specs.Trees.{back_items}
use Rattle.index_trees.proofs.OldPlaces.{IsFirst, all_before, first_behind, is_before, none_stands, picked_rows}
use Rattle.index_trees.proofs.old_places.old_places.Goals as goal

pub returns-then-before-back-clause-places : goal.returns-then-before-back-clause-places
returns-then-before-back-clause-places g c there entries views told holds are =
    let id = c.args.id.now in
    let bound : c.new-bound.result ≡ id = c.new-bound.ensures ∙ c.as_str.ensures in
    let count : c.in_ok-before.before ≡ length (filter (is_before id) entries) = c.in_ok-before.ensures.count there entries told holds ∙ ap (λ own. length (filter (is_before own) entries)) bound in
    c.from_vec.ensures ∙ c.new.ensures.items ∙ none_stands id views entries are (all_before id entries (omega (arith, count, holds.count, c.if-before-back.true)))

pub returns-clause-places : goal.returns-clause-places
returns-clause-places g c there entries views told holds are =
    let id = c.args.id.now in
    let before = c.in_ok-before.before in
    let bound : c.new-bound.result ≡ id = c.new-bound.ensures ∙ c.as_str.ensures in
    let count : before ≡ length (filter (is_before id) entries) = c.in_ok-before.ensures.count there entries told holds ∙ ap (λ own. length (filter (is_before own) entries)) bound in
    let first : IsFirst id entries (length (filter (is_before id) entries)) = first_behind id entries holds.rises (omega (arith, count, holds.count, c.in_ok-before.ensures.within, c.if-before-back.false)) in
    let item : c.in_ok-item.item ≡ Some first.entry =
    c.in_ok-item.ensures.item there first.front first.rest first.entry (c.in_ok-before.ensures.reads.nodes ∙ told) (subst (HoldsItems back_items there c.args.back) {y = first.front ++ first.entry ∷ first.rest} first.whole holds) (count ∙ first.number) in
    picked_rows id views entries are (length (filter (is_before id) entries)) first c.in_ok-item.item c.rows_of.result item c.rows_of.ensures

pub returns-clause-ran : goal.returns-clause-ran
returns-clause-ran g c =
    let s = g.S.NodeSource in
    let laws : Laws s = record { steps = g.met.S.NodeSource.are_steps; caused = g.met.S.NodeSource.stays_caused } in
    went_on back_items s laws c.args.back c.args.store.now c.count_before.new.store c.item_at.new.store c.in_ok-before.ensures.reads.nodes c.in_ok-before.ensures.ran c.in_ok-item.ensures.ran

pub returns-in_err-item-clause-ran : goal.returns-in_err-item-clause-ran
returns-in_err-item-clause-ran g c =
    let s = g.S.NodeSource in
    let laws : Laws s = record { steps = g.met.S.NodeSource.are_steps; caused = g.met.S.NodeSource.stays_caused } in
    let q = c.from_residual-in_err-item in
    let p = err_from_is_err_and q.result q.ensures.1 in
    let s0 = c.args.store.now in
    ran_err back_items s laws c.args.back _ _ s0 c.item_at.new.store q.result c.in_err-item.field-0.0 p.0 p.2 p.1
    (fails_on back_items s laws c.args.back _ s0 c.count_before.new.store c.item_at.new.store _ c.in_ok-before.ensures.reads.nodes c.in_ok-before.ensures.ran c.in_err-item.ensures.ran)

pub returns-in_err-item-clause-sound : goal.returns-in_err-item-clause-sound
returns-in_err-item-clause-sound g c there entries at told holds e =
    let s = g.S.NodeSource in
    let laws : Laws s = record { steps = g.met.S.NodeSource.are_steps; caused = g.met.S.NodeSource.stays_caused } in
    let q = c.from_residual-in_err-item in
    let p = err_from_is_err_and q.result q.ensures.1 in
    let s0 = c.args.store.now in
    let ran = ran_err back_items s laws c.args.back _ _ s0 c.item_at.new.store q.result c.in_err-item.field-0.0 p.0 p.2 p.1
    (fails_on back_items s laws c.args.back _ s0 c.count_before.new.store c.item_at.new.store _ c.in_ok-before.ensures.reads.nodes c.in_ok-before.ensures.ran c.in_err-item.ensures.ran) in
    none_unfit back_items no_values entries_spelled_once there c.args.back entries holds at (ran_bad back_items s laws c.args.back _ _ s0 c.item_at.new.store there q.result at ran told e)
