-- The edits are those of all documents, sorted.
use Rattle.std.specs.Ordering.{is_lt}
use Rattle.std.specs.Prelude.{IsPermutation}
use Rattle.std.proofs.Common.{◌≡◌, ◌∙◌, ◌++◌, ℕ, suc, List, [], ◌∷◌, length, drop, sym, ap, subst, arith, rules, append_assoc, append-nil, length-append}
use Rattle.std.proofs.lemmas.List.Sorted.{ranks_by, answers_always}
use Rattle.std.proofs.lemmas.Slice.Zip.{zip_turn, zip_end}
use Rattle.reduce_tree.specs.declared.edit.Edit.{Edit}
use Rattle.reduce_tree.specs.Applied.{edit_key}
use Rattle.row_exchange.specs.declared.doc_rows.DocRows.{DocRows}
use Rattle.index_items.specs.declared.back_row.BackRow.{BackRow}
use Rattle.index_items.specs.BackItem.{BackEntry, entry_cmp}
use Rattle.index_items.specs.BackLaws.{entry_cmp_total}
use Rattle.index_trees.specs.Edits.{back_edits, entry_edits, new_places}
use Rattle.index_trees.proofs.BackSteps.{edits_step, edits_end}
use Rattle.index_trees.proofs.back_edits.back_edits.Goals as goal

pub returns : goal.returns
returns c =
    let s = c.loop-change in
    let sort = c.sort_unstable_by.ensures in
    let ended = zip_end c.args.changes.now c.args.olds.now s.yielded c.into_iter-change-iterator.result s.change-iterator c.next.new.self c.next.result
    (search rules) (search rules) s.yielded_by c.in-None.is c.next.ensures.steps in
    let none = edits_end c.args.changes.now c.args.olds.now (length s.yielded) ended in
    let whole : s.edits.items ≡ back_edits c.args.changes.now c.args.olds.now = sym (append-nil s.edits.items) ∙ ap (λ (l : List (Edit BackEntry)). s.edits.items ++ l) (sym none) ∙ s.invariant in
    record {
      edits = subst (λ (l : List (Edit BackEntry)). IsPermutation l c.sort_unstable_by.new.self.items) whole sort.permutation;
      sorted = sort.sorted (λ a b. is_lt (entry_cmp (edit_key a) (edit_key b))) (ranks_by entry_cmp_total edit_key) (answers_always _ _ _ (λ f a r g h. search rules));
    }

pub loop-change-preserved : goal.loop-change-preserved
loop-change-preserved c =
    let s = c.loop-change in
    let changes : List DocRows = c.args.changes.now in
    let olds : List (List BackRow) = c.args.olds.now in
    let turn = zip_turn changes olds s.yielded c.into_iter-change-iterator.result s.change-iterator c.next.new.self c.next.result
    (search rules) (search rules) s.yielded_by (c.in-Some.change, c.in-Some.old) c.in-Some.is c.next.ensures.steps in
    let done : ℕ = length s.yielded in
    let change : DocRows = c.in-Some.change.now in
    let old : List BackRow = c.in-Some.old.now in
    let edits : List (Edit BackEntry) = s.edits.items in
    let own : List (Edit BackEntry) = entry_edits change.id (new_places 0 change.id change.rows) old in
    let rest : List (Edit BackEntry) = back_edits (drop (suc done) changes) (drop (suc done) olds) in
    let one_more : length (s.yielded ++ ((c.in-Some.change, c.in-Some.old) ∷ [])) ≡ suc done = omega (arith, length-append s.yielded ((c.in-Some.change, c.in-Some.old) ∷ [])) in
    let added : c.add_edit.new.edits.items ≡ edits ++ own =
    c.in_ok-add_edit.ensures ∙ ap (λ (l : List BackRow). edits ++ entry_edits change.id (new_places 0 change.id change.rows) l) c.as_slice.ensures in
    ap (λ (n : ℕ). c.add_edit.new.edits.items ++ back_edits (drop n changes) (drop n olds)) one_more
    ∙ ap (λ (l : List (Edit BackEntry)). l ++ rest) added
    ∙ append_assoc edits own rest
    ∙ ap (λ (l : List (Edit BackEntry)). edits ++ l) (sym (edits_step changes olds done change old turn.0 turn.1 (turn.2 change) (turn.3 old)))
    ∙ s.invariant
