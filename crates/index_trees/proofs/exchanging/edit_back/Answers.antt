use Rattle.std.proofs.Common.{refl, sym, subst, arith, Ok, Err}
use Rattle.tree_laws.specs.declared.tree.Tree.{Tree}
use Rattle.reduce_tree.specs.Calls.{places}
use Rattle.reduce_tree.proofs.Growth.{pieces_small}
use Rattle.index_items.specs.BackLaws.{entries_spelled_once}
use Rattle.index_items.specs.NoSummaryLaws.{value_is_short}
use Rattle.index_trees.specs.Edited.{EditsBack}
use Rattle.index_trees.specs.Trees.{back_items, no_summaries}
use Rattle.index_trees.proofs.EditedBack.{edited_back, entry_edits_of}
use Rattle.index_trees.proofs.Found.{takes_found}
use Rattle.index_trees.proofs.Got.{found_good}
use Rattle.index_trees.proofs.OneEdit.{few_inserted, found_bad, store_ran}
use Rattle.index_trees.proofs.Sequences.{StoreLaws}
use Rattle.index_trees.proofs.exchanging.edit_back.Goals as goal

pub apply-requires-clause-few : goal.apply-requires-clause-few
apply-requires-clause-few g c = few_inserted c.as_slice.result.now c.args.tree.count _ (omega (arith, c.if-not-has_room.ensures refl, c.len.ensures, c.as_slice.ensures.len))

pub returns-in-Ok : goal.returns-in-Ok
returns-in-Ok g c =
    let e = c.in-Ok.ensures in
    let s = c.new-summer.result in
    let n = g.S.NodeSource in
    let laws : StoreLaws n = record { steps = g.met.S.NodeSource.are_steps; caused = g.met.S.NodeSource.stays_caused; keeps = g.met.S.NodeSource.keeps } in
    let old = c.args.store.now in
    let new = c.apply.new.store in
    edited_back g.S.NodeSource c.args.changes.now c.args.olds.now c.as_slice.result.now
    (entry_edits_of c.args.changes.now c.args.olds.now c.as_slice.result.now c.in_ok-edits.edits.items c.as_slice.ensures.value c.in_ok-edits.ensures.edits c.in_ok-edits.ensures.sorted)
    c.args.store.now c.apply.new.store c.args.steps.now c.apply.new.steps c.args.tree
    laws (Ok c.in-Ok.after)
    (record { kept = e.kept; ready = e.ready; reads = e.reads; store = e.ran.store; size = e.size; count = e.count; grows = e.grows; steps = e.steps; most_steps = e.most_steps; puts = e.puts; most_puts = e.most_puts })
    (record {
      tree_is = λ there items told. e.tree s there items told refl;
      bytes = λ there items among longest h told. e.bytes s there items among longest h told refl;
      done_bytes = λ there items among longest told. e.done_bytes s there items among longest told refl;
      pieces = λ there items among longest told holds old_among new_among short.
          pieces_small back_items _ s (λ sum fits. value_is_short sum tt) longest among short n {X = Tree} (places (n.nodes new)) old new (Ok c.in-Ok.after) (e.pieces s there items among told refl holds old_among new_among);
      found = λ there items told holds. takes_found back_items no_summaries entries_spelled_once n laws c.args.tree there items old new told holds _ s (n.puts old) {X = Tree} (Ok c.in-Ok.after) e.kept (e.met there told);
      sound = λ there items told. e.sound s there items told refl;
    })
    tt
    (found_good back_items n _ s c.args.tree (n.puts old) old new {X = Tree} (Ok c.in-Ok.after) e.met)

pub returns : goal.returns
returns g c =
    let e = c.in-Err.ensures in
    let s = c.new-summer.result in
    let n = g.S.NodeSource in
    let old = c.args.store.now in
    let new = c.apply.new.store in
    let fault = c.in-Err.fault in
    let laws : StoreLaws n = record { steps = g.met.S.NodeSource.are_steps; caused = g.met.S.NodeSource.stays_caused; keeps = g.met.S.NodeSource.keeps } in
    let ran = store_ran {X = Tree} back_items n _ old new s c.apply.new.summer (Err fault) e.ran in
    subst (λ f. EditsBack n c.args.changes.now c.args.olds.now old new c.args.steps.now c.apply.new.steps c.args.tree (Err f)) (sym c.with_pool.ensures) (
    edited_back n c.args.changes.now c.args.olds.now c.as_slice.result.now
    (entry_edits_of c.args.changes.now c.args.olds.now c.as_slice.result.now c.in_ok-edits.edits.items c.as_slice.ensures.value c.in_ok-edits.ensures.edits c.in_ok-edits.ensures.sorted)
    old new c.args.steps.now c.apply.new.steps c.args.tree
    laws (Err fault)
    (record { kept = e.kept; ready = e.ready; reads = e.reads; store = ran; size = e.size; count = e.count; grows = e.grows; steps = e.steps; most_steps = e.most_steps; puts = e.puts; most_puts = e.most_puts })
    (record {
      tree_is = λ there items told. e.tree s there items told refl;
      bytes = λ there items among longest h told. e.bytes s there items among longest h told refl;
      done_bytes = λ there items among longest told. e.done_bytes s there items among longest told refl;
      pieces = λ there items among longest told holds old_among new_among short.
          pieces_small back_items _ s (λ sum fits. value_is_short sum tt) longest among short n {X = Tree} (places (n.nodes new)) old new (Err fault) (e.pieces s there items among told refl holds old_among new_among);
      found = λ there items told holds. takes_found back_items no_summaries entries_spelled_once n laws c.args.tree there items old new told holds _ s (n.puts old) {X = Tree} (Err fault) e.kept (e.met there told);
      sound = λ there items told. e.sound s there items told refl;
    })
    (found_bad {X = Tree} back_items n _ s c.args.tree (n.puts old) old new (Err fault) e.met)
    tt
    )
