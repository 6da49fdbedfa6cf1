-- One tree after another is edited.
use Rattle.std.proofs.Common.{rules, ◌+◌, ℕ, refl, ap, arith}
use Rattle.std.proofs.lemmas.Result.{err_from_is_err_and}
use Rattle.tree_laws.specs.declared.tree.TreeFault.TheVariants as tree_fault
use Rattle.index_trees.proofs.EditedViews.{all_done, answers_so, begins_so, goes_on, stops_here, wants_behind}
use Rattle.index_trees.proofs.Sequences.{StoreLaws}
use Rattle.index_trees.proofs.exchanging.edit_views.Goals as goal

pub loop-tree-init : goal.loop-tree-init
loop-tree-init g c =
    let laws : StoreLaws g.S.NodeSource = record { steps = g.met.S.NodeSource.are_steps; caused = g.met.S.NodeSource.stays_caused; keeps = g.met.S.NodeSource.keeps } in
    (refl, begins_so g.S.NodeSource laws g.C.Servers c.args.changes.now c.args.olds.now c.args.store.now c.args.summers.now c.args.steps.now c.new-edited.result.items c.new-edited.ensures.items c.requires.ready)

pub edit_view-requires-clause-ready : goal.edit_view-requires-clause-ready
edit_view-requires-clause-ready g c = c.loop-tree.invariant.1.went.ready

pub edit_view-requires-clause-few : goal.edit_view-requires-clause-few
edit_view-requires-clause-few g c = omega (arith, c.loop-tree.invariant.0, c.loop-tree-test.true, c.requires.few)

pub returns-in_err-after : goal.returns-in_err-after
returns-in_err-after g c =
    let laws : StoreLaws g.S.NodeSource = record { steps = g.met.S.NodeSource.are_steps; caused = g.met.S.NodeSource.stays_caused; keeps = g.met.S.NodeSource.keeps } in
    let p = err_from_is_err_and c.from_residual.result c.from_residual.ensures.1 in
    answers_so g.S.NodeSource laws g.C.Servers c.args.changes.now c.args.olds.now c.args.store.now c.edit_view.new.store c.args.summers.now c.edit_view.new.summers c.args.steps.now c.edit_view.new.steps c.args.trees.now
    c.in_err-after.field-0.0 p.0 c.from_residual.result p.1 p.2
    (stops_here g.S.NodeSource laws g.C.Servers c.args.changes.now c.args.olds.now c.args.store.now c.loop-tree.store c.edit_view.new.store c.args.summers.now c.loop-tree.summers c.edit_view.new.summers c.args.steps.now c.loop-tree.steps c.edit_view.new.steps
    c.args.trees.now c.loop-tree.edited.items c.loop-tree.tree-index c.loop-tree.view _ c.loop-tree.invariant.1 c.loop-tree-test.true (search rules) c.loop-tree.invariant.0 c.in_err-after.field-0.0 c.in_err-after.ensures)

pub returns-in_err-add_tree : goal.returns-in_err-add_tree
returns-in_err-add_tree g c =
    let laws : StoreLaws g.S.NodeSource = record { steps = g.met.S.NodeSource.are_steps; caused = g.met.S.NodeSource.stays_caused; keeps = g.met.S.NodeSource.keeps } in
    let p = err_from_is_err_and c.from_residual-in_err-add_tree.result c.from_residual-in_err-add_tree.ensures.1 in
    answers_so g.S.NodeSource laws g.C.Servers c.args.changes.now c.args.olds.now c.args.store.now c.edit_view.new.store c.args.summers.now c.edit_view.new.summers c.args.steps.now c.edit_view.new.steps c.args.trees.now
    tree_fault.NoMemory p.0 c.from_residual-in_err-add_tree.result p.1 p.2
    (wants_behind g.S.NodeSource laws g.C.Servers c.args.changes.now c.args.olds.now c.args.store.now c.loop-tree.store c.edit_view.new.store c.args.summers.now c.loop-tree.summers c.edit_view.new.summers c.args.steps.now c.loop-tree.steps c.edit_view.new.steps
    c.args.trees.now c.loop-tree.edited.items c.loop-tree.tree-index c.loop-tree.view _ c.loop-tree.invariant.1 c.loop-tree-test.true (search rules) c.loop-tree.invariant.0 c.in_ok-after.after c.in_ok-after.ensures)

pub overflow_add-view : goal.overflow_add-view
overflow_add-view g c = omega (arith, c.loop-tree.invariant.0, c.loop-tree-test.true, c.requires.few)

pub loop-tree-preserved : goal.loop-tree-preserved
loop-tree-preserved g c =
    let laws : StoreLaws g.S.NodeSource = record { steps = g.met.S.NodeSource.are_steps; caused = g.met.S.NodeSource.stays_caused; keeps = g.met.S.NodeSource.keeps } in (
      ap (λ (m : ℕ). m + 1) c.loop-tree.invariant.0,
      goes_on g.S.NodeSource laws g.C.Servers c.args.changes.now c.args.olds.now c.args.store.now c.loop-tree.store c.edit_view.new.store c.args.summers.now c.loop-tree.summers c.edit_view.new.summers c.args.steps.now c.loop-tree.steps c.edit_view.new.steps
          c.args.trees.now c.loop-tree.edited.items c.loop-tree.tree-index c.loop-tree.view _ c.loop-tree.invariant.1 c.loop-tree-test.true (search rules) c.loop-tree.invariant.0 c.in_ok-after.after c.add_tree.new.trees.items c.in_ok-after.ensures c.in_ok-add_tree.ensures.ok,
    )

pub returns : goal.returns
returns g c =
    let laws : StoreLaws g.S.NodeSource = record { steps = g.met.S.NodeSource.are_steps; caused = g.met.S.NodeSource.stays_caused; keeps = g.met.S.NodeSource.keeps } in
    all_done g.S.NodeSource laws g.C.Servers c.args.changes.now c.args.olds.now c.args.store.now c.loop-tree.store c.args.summers.now c.loop-tree.summers c.args.steps.now c.loop-tree.steps c.args.trees.now c.loop-tree.edited.items c.loop-tree.tree-index
    (omega (arith, c.loop-tree-test.false)) c.loop-tree.invariant.1
