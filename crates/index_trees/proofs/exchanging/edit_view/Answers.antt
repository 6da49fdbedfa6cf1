-- The tree of one view is edited, where there is anything to edit.
use Rattle.std.proofs.Common.{rules, ◌≡◌, Err, true, false, length, refl, sym, ap, ◌∙◌, subst, arith, eq-eqb, eqb-true}
use Rattle.std.proofs.lemmas.List.{nil_from_length}
use Rattle.std.proofs.lemmas.Result.{err_from_is_err_and}
use Rattle.tree_laws.specs.declared.tree.Tree.{Tree}
use Rattle.std.specs.Prelude.{IsPermutation, IsSorted, vec_len}
use Rattle.builtin_reduces.specs.ItemLaws.{items_spelled_once}
use Rattle.reduce_tree.specs.Calls.{places}
use Rattle.reduce_tree.proofs.Growth.{pieces_small}
use Rattle.child_pool.specs.Summers.{reduce_of}
use Rattle.child_pool.specs.ViewSumLaws.{view_sums_are_short}
use Rattle.index_trees.specs.Edited.{EditsView}
use Rattle.index_trees.specs.Edits.{view_edits}
use Rattle.index_trees.specs.Trees.{row_items}
use Rattle.index_trees.proofs.EditedView.{Called, edited_last, nothing_edited, wants_memory}
use Rattle.index_trees.proofs.Found.{takes_found}
use Rattle.index_trees.proofs.Got.{found_good}
use Rattle.index_trees.proofs.OneEdit.{Applies, few_inserted, found_bad, store_ran, sum_did}
use Rattle.index_trees.proofs.RowsExchanged.{edit_cmp}
use Rattle.index_trees.proofs.Sequences.{StoreLaws}
use Rattle.index_trees.proofs.ViewSums.{summer_values}
use Rattle.index_trees.proofs.exchanging.edit_view.Goals as goal

pub returns-in_err-edits : goal.returns-in_err-edits
returns-in_err-edits g c =
    let laws : StoreLaws g.S.NodeSource = record { steps = g.met.S.NodeSource.are_steps; caused = g.met.S.NodeSource.stays_caused; keeps = g.met.S.NodeSource.keeps } in
    let p = err_from_is_err_and c.from_residual.result c.from_residual.ensures.1 in
    subst (EditsView g.S.NodeSource g.C.Servers c.args.changes.now c.args.olds.now c.args.store.now c.args.store.now c.args.summers.now c.args.summers.now c.args.steps.now c.args.steps.now c.args.view c.args.tree)
    (ap Err (sym p.2) ∙ sym p.1)
    (wants_memory g.S.NodeSource laws g.C.Servers c.args.changes.now c.args.olds.now c.args.store.now c.args.summers.now c.args.steps.now c.args.view c.args.tree c.requires.ready)

pub returns-then-is_empty : goal.returns-then-is_empty
returns-then-is_empty g c =
    let laws : StoreLaws g.S.NodeSource = record { steps = g.met.S.NodeSource.are_steps; caused = g.met.S.NodeSource.stays_caused; keeps = g.met.S.NodeSource.keeps } in
    nothing_edited g.S.NodeSource laws g.C.Servers c.args.changes.now c.args.olds.now c.args.store.now c.args.summers.now c.args.steps.now c.args.view c.args.tree c.requires.ready c.requires.size
    c.in_ok-edits.edits.items c.in_ok-edits.ensures.edits c.in_ok-edits.ensures.sorted
    (nil_from_length c.in_ok-edits.edits.items (let none : vec_len c.in_ok-edits.edits ≡ 0 = eqb-true _ _ (sym c.is_empty.ensures ∙ c.if-is_empty.true) in omega (arith, none, c.in_ok-edits.edits.ok.0)))

pub returns-then-not-has_room : goal.returns-then-not-has_room
returns-then-not-has_room g c =
    let laws : StoreLaws g.S.NodeSource = record { steps = g.met.S.NodeSource.are_steps; caused = g.met.S.NodeSource.stays_caused; keeps = g.met.S.NodeSource.keeps } in
    wants_memory g.S.NodeSource laws g.C.Servers c.args.changes.now c.args.olds.now c.args.store.now c.args.summers.now c.args.steps.now c.args.view c.args.tree c.requires.ready

pub apply-requires-clause-few : goal.apply-requires-clause-few
apply-requires-clause-few g c = few_inserted c.as_slice.result.now c.args.tree.count _ (omega (arith, c.if-not-has_room.ensures refl, c.len.ensures, c.as_slice.ensures.len))

pub returns : goal.returns
returns g c =
    let laws : StoreLaws g.S.NodeSource = record { steps = g.met.S.NodeSource.are_steps; caused = g.met.S.NodeSource.stays_caused; keeps = g.met.S.NodeSource.keeps } in
    let n = g.S.NodeSource in
    let e = c.apply.ensures in
    let old = c.args.store.now in
    let new = c.apply.new.store in
    let edits = c.as_slice.result.now in
    let u = c.summer.result.now in
    let ran = store_ran {X = Tree} row_items n _ old new u c.apply.new.summer c.apply.result e.ran in
    let applies : Applies n edits old new c.args.steps.now c.apply.new.steps c.args.tree c.apply.result =
    record { kept = e.kept; ready = e.ready; reads = e.reads; store = ran; size = e.size; count = e.count; grows = e.grows; steps = e.steps; most_steps = e.most_steps; puts = e.puts; most_puts = e.most_puts } in
    let called : Called n laws g.C.Servers c.args.changes.now c.args.olds.now old new c.args.summers.now c.args.steps.now c.apply.new.steps c.args.view c.args.tree edits c.apply.result u c.apply.new.summer =
    record {
      to = λ first goes. record {
        tree_is = λ there items told. e.tree first there items told goes;
        bytes = λ there items among longest h told. e.bytes first there items among longest h told goes;
        done_bytes = λ there items among longest told. e.done_bytes first there items among longest told goes;
        pieces = λ there items among longest told holds old_among new_among short.
            pieces_small row_items _ first (view_sums_are_short (reduce_of g.C.Servers first)) longest among short n {X = Tree} (places (n.nodes new)) old new c.apply.result (e.pieces first there items among told goes holds old_among new_among);
        found = λ there items told holds. takes_found row_items (summer_values g.C.Servers first) items_spelled_once n laws c.args.tree there items old new told holds _ u (n.puts old) {X = Tree} c.apply.result e.kept (e.met there told);
        sound = λ there items told. e.sound first there items told goes;
      };
      ran = sum_did {X = Tree} row_items n _ old new u c.apply.new.summer c.apply.result e.ran;
      usable = e.usable;
      found = found_bad {X = Tree} row_items n _ u c.args.tree (n.puts old) old new c.apply.result e.met;
      good = found_good row_items n _ u c.args.tree (n.puts old) old new {X = Tree} c.apply.result e.met;
    } in
    edited_last n laws g.C.Servers c.args.changes.now c.args.olds.now old new c.args.summers.now c.args.steps.now c.apply.new.steps c.args.view c.args.tree edits c.apply.result u c.apply.new.summer _ (search rules)
    c.summer.ensures.slot c.summer.ensures.design c.summer.ensures.view applies called
    (subst (IsPermutation (view_edits c.args.view c.args.changes.now c.args.olds.now)) (sym c.as_slice.ensures.value) c.in_ok-edits.ensures.edits)
    (subst (IsSorted edit_cmp) (sym c.as_slice.ensures.value) c.in_ok-edits.ensures.sorted)
    (λ none.
    let long : vec_len c.in_ok-edits.edits ≡ 0 = omega (arith, ap length (sym c.as_slice.ensures.value ∙ none), c.in_ok-edits.edits.ok.0) in
    let clash : true ≡ false = sym (eq-eqb (vec_len c.in_ok-edits.edits) 0 long) ∙ sym c.is_empty.ensures ∙ c.if-is_empty.false in
    cc)
