use Rattle.std.proofs.Common.{◌∙◌, ◌≤◌, ◌+◌, ◌*◌, arith, ap}
use Rattle.std.proofs.lemmas.List.{take_all}
use Rattle.std.proofs.lemmas.Result.{err_from_is_err_and}
use Rattle.tree_laws.specs.declared.tree.TreeFault.TheVariants.{NoMemory}
use Rattle.tree_laws.specs.Values.{no_values}
use Rattle.index_items.specs.BackLaws.{entries_spelled_once}
use Rattle.tree_query.proofs.Calls.{Laws, fails_on, ran_bad, ran_err, went_no_memory, went_on}
use Rattle.tree_query.proofs.Reached.{none_unfit}
use Rattle.index_trees.specs.Edits as edits
use Rattle.index_trees.specs.Trees.{back_items}
use Rattle.index_trees.proofs.OldPlaces.{one_longer, places_more, reads_on}
use Rattle.index_trees.proofs.old_places.all_old_places.Goals as goal

pub returns-in_err-rows-clause-ran : goal.returns-in_err-rows-clause-ran
returns-in_err-rows-clause-ran g c =
    let s = g.S.NodeSource in
    let laws : Laws s = record { steps = g.met.S.NodeSource.are_steps; caused = g.met.S.NodeSource.stays_caused } in
    let q = c.from_residual in
    let p = err_from_is_err_and q.result q.ensures.1 in
    let s0 = c.args.store.now in
    ran_err back_items s laws c.args.back _ _ s0 c.old_places.new.store q.result c.in_err-rows.field-0.0 p.0 p.2 p.1
    (fails_on back_items s laws c.args.back _ s0 c.loop-change.store c.old_places.new.store c.in_err-rows.field-0.0 c.loop-change.invariant.reads.nodes c.loop-change.invariant.ran c.in_err-rows.ensures.ran)

pub returns-in_err-rows-clause-sound : goal.returns-in_err-rows-clause-sound
returns-in_err-rows-clause-sound g c there entries at told holds e =
    let s = g.S.NodeSource in
    let laws : Laws s = record { steps = g.met.S.NodeSource.are_steps; caused = g.met.S.NodeSource.stays_caused } in
    let q = c.from_residual in
    let p = err_from_is_err_and q.result q.ensures.1 in
    let s0 = c.args.store.now in
    let ran = ran_err back_items s laws c.args.back _ _ s0 c.old_places.new.store q.result c.in_err-rows.field-0.0 p.0 p.2 p.1
    (fails_on back_items s laws c.args.back _ s0 c.loop-change.store c.old_places.new.store c.in_err-rows.field-0.0 c.loop-change.invariant.reads.nodes c.loop-change.invariant.ran c.in_err-rows.ensures.ran) in
    none_unfit back_items no_values entries_spelled_once there c.args.back entries holds at (ran_bad back_items s laws c.args.back _ _ s0 c.old_places.new.store there q.result at ran told e)

pub returns-in_err-push_rows-clause-ran : goal.returns-in_err-push_rows-clause-ran
returns-in_err-push_rows-clause-ran g c =
    let s = g.S.NodeSource in
    let laws : Laws s = record { steps = g.met.S.NodeSource.are_steps; caused = g.met.S.NodeSource.stays_caused } in
    let q = c.from_residual-in_err-push_rows in
    let p = err_from_is_err_and q.result q.ensures.1 in
    let s0 = c.args.store.now in
    let went = went_on back_items s laws c.args.back s0 c.loop-change.store c.old_places.new.store c.loop-change.invariant.reads.nodes c.loop-change.invariant.ran c.in_ok-rows.ensures.ran in
    ran_err back_items s laws c.args.back _ _ s0 c.old_places.new.store q.result NoMemory p.0 p.2 p.1 (went_no_memory back_items s laws c.args.back s0 c.old_places.new.store went)

pub loop-change-preserved : goal.loop-change-preserved
loop-change-preserved g c =
    let s = g.S.NodeSource in
    let laws : Laws s = record { steps = g.met.S.NodeSource.are_steps; caused = g.met.S.NodeSource.stays_caused } in
    let s0 = c.args.store.now in
    let s1 = c.loop-change.store in
    let s2 = c.old_places.new.store in
    let i = c.loop-change.change-index in
    let before = c.loop-change.invariant in
    let rows = c.in_ok-rows.rows in
    let most : i * (2 * c.args.back.height) + 2 * c.args.back.height ≤ (i + 1) * (2 * c.args.back.height) = omega arith in
    record {
      places = λ there entries views told holds are.
          places_more views c.args.changes.now c.change-item.result i c.loop-change.olds.items c.push_rows.new.list.items rows (omega arith) c.change-item.is (before.places there entries views told holds are)
          (c.in_ok-rows.ensures.places there entries views (before.reads.nodes ∙ told) holds are) c.in_ok-push_rows.ensures;
      number = one_longer c.loop-change.olds.items c.push_rows.new.list.items rows i before.number c.in_ok-push_rows.ensures;
      reads = reads_on s (i * (2 * c.args.back.height)) (2 * c.args.back.height) ((i + 1) * (2 * c.args.back.height)) s0 s1 s2 c.args.steps.now c.loop-change.steps c.old_places.new.steps most before.reads c.in_ok-rows.ensures.reads;
      ran = went_on back_items s laws c.args.back s0 s1 s2 before.reads.nodes before.ran c.in_ok-rows.ensures.ran;
      ready = c.in_ok-rows.ensures.ready;
    }

pub returns-clause-places : goal.returns-clause-places
returns-clause-places g c there entries views told holds are =
    c.loop-change.invariant.places there entries views told holds are ∙ ap (λ list. edits.old_places list views) (take_all c.loop-change.change-index c.args.changes.now c.loop-change-test.false)
