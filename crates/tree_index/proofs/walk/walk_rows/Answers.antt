use Rattle.std.proofs.Common.{◌≡◌, ◌≤◌, ◌<◌, ◌+◌, ◌∙◌, Some, drop, get_or, length, sym, subst, arith}
use Rattle.std.proofs.lemmas.Result.{err_from_is_err_and}
use Rattle.tree_laws.specs.declared.tree.TreeFault.TheVariants.{NoMemory}
use Rattle.builtin_reduces.specs.Kept.{IsKept}
use Rattle.tree_query.specs.Calls.{OnlyReads}
use Rattle.tree_query.specs.Walking.{IsAt}
use Rattle.tree_query.proofs.Calls.{Laws, fails_on, went_no_memory, went_on}
use Rattle.index_trees.specs.Trees.{row_items}
use Rattle.tree_index.proofs.RowsWalked.{all_reads, next_left, next_reads, one_longer, one_more, row_had, walk_refused}
use Rattle.tree_index.proofs.walk.walk_rows.Goals as goal

pub returns-in_err-item : goal.returns-in_err-item
returns-in_err-item g c =
    let s = g.S.NodeSource in
    let laws : Laws s = record { steps = g.met.S.NodeSource.are_steps; caused = g.met.S.NodeSource.stays_caused } in
    let q = c.from_residual-in_err-item in
    let p = err_from_is_err_and q.result q.ensures.1 in
    let tree = c.args.tree in
    let s0 = c.args.store.now in
    let s1 = c.loop-row.store in
    let s2 = c.next.new.store in
    let i = c.loop-row._row in
    let before = c.loop-row.invariant in
    let fault = c.in_err-item.field-0.0 in
    let same = before.reads.nodes in
    let few : i + 1 ≤ tree.count = omega arith in
    let own = subst (λ h. OnlyReads s h s1 s2 c.loop-row.steps c.next.new.steps) before.height c.in_err-item.ensures.reads in
    let reads = next_reads s i tree.height s0 s1 s2 c.args.steps.now c.loop-row.steps c.next.new.steps before.reads own in
    let fails = c.in_err-item.ensures.ran tree (λ there told. before.over there (sym same ∙ told)) in
    walk_refused s laws tree s0 s2 c.args.steps.now c.next.new.steps q.result fault p.0 p.2 p.1 (fails_on row_items s laws tree _ s0 s1 s2 fault same before.ran fails)
    (all_reads s (i + 1) tree.count tree.height s0 s2 c.args.steps.now c.next.new.steps few reads)

pub returns-in_err-add_row-in-Some : goal.returns-in_err-add_row-in-Some
returns-in_err-add_row-in-Some g c =
    let s = g.S.NodeSource in
    let laws : Laws s = record { steps = g.met.S.NodeSource.are_steps; caused = g.met.S.NodeSource.stays_caused } in
    let q = c.from_residual-in_err-add_row-in-Some in
    let p = err_from_is_err_and q.result q.ensures.1 in
    let tree = c.args.tree in
    let s0 = c.args.store.now in
    let s1 = c.loop-row.store in
    let s2 = c.next.new.store in
    let i = c.loop-row._row in
    let before = c.loop-row.invariant in
    let same = before.reads.nodes in
    let few : i + 1 ≤ tree.count = omega arith in
    let own = subst (λ h. OnlyReads s h s1 s2 c.loop-row.steps c.next.new.steps) before.height c.in_ok-item.ensures.reads in
    let reads = next_reads s i tree.height s0 s1 s2 c.args.steps.now c.loop-row.steps c.next.new.steps before.reads own in
    let went = went_on row_items s laws tree s0 s1 s2 same before.ran (c.in_ok-item.ensures.ran tree (λ there told. before.over there (sym same ∙ told))) in
    walk_refused s laws tree s0 s2 c.args.steps.now c.next.new.steps q.result NoMemory p.0 p.2 p.1 (went_no_memory row_items s laws tree s0 s2 went)
    (all_reads s (i + 1) tree.count tree.height s0 s2 c.args.steps.now c.next.new.steps few reads)

pub loop-row-preserved : goal.loop-row-preserved
loop-row-preserved g c =
    let s = g.S.NodeSource in
    let laws : Laws s = record { steps = g.met.S.NodeSource.are_steps; caused = g.met.S.NodeSource.stays_caused } in
    let tree = c.args.tree in
    let s0 = c.args.store.now in
    let s1 = c.loop-row.store in
    let s2 = c.next.new.store in
    let i = c.loop-row._row in
    let before = c.loop-row.invariant in
    let same = before.reads.nodes in
    let next = c.in_ok-item.ensures in
    let row = c.item.inside.row in
    let rows = c.loop-row.rows.items in
    let now = c.add_row.new.rows.items in
    let more = c.in_ok-add_row-in-Some.ensures in
    let own = subst (λ h. OnlyReads s h s1 s2 c.loop-row.steps c.next.new.steps) before.height next.reads in
    record {
      rows = λ there items told holds.
          let within : i < length items = omega (arith, holds.count) in
          let left = subst (IsAt row_items there c.loop-row.walk) (next_left items i row within) (before.rest there items told holds) in
          let got : Some c.in-Some.item ≡ Some (get_or items i row) = sym c.in-Some.is ∙ next.item there (get_or items i row) (drop (i + 1) items) (same ∙ told) left in
          let is : row ≡ get_or items i row = cc c.item.view_is in
          row_had items rows now i row within (before.rows there items told holds) is more;
      rest = λ there items told holds.
          let within : i < length items = omega (arith, holds.count) in
          let left = subst (IsAt row_items there c.loop-row.walk) (next_left items i row within) (before.rest there items told holds) in
          next.rest there (get_or items i row) (drop (i + 1) items) (same ∙ told) left;
      left = omega (arith, next.left, before.left);
      height = next.height ∙ before.height;
      kept = one_more IsKept rows now row before.kept c.item.invariant more;
      number = one_longer rows now i row before.number more;
      over = λ there told. next.over tree there (same ∙ told) (before.over there told);
      reads = next_reads s i tree.height s0 s1 s2 c.args.steps.now c.loop-row.steps c.next.new.steps before.reads own;
      ran = went_on row_items s laws tree s0 s1 s2 same before.ran (next.ran tree (λ there told. before.over there (sym same ∙ told)));
      ready = next.ready;
    }
