-- The edits of one document follow those of the others, and a sort only moves them.
use Rattle.std.proofs.Common.{◌≡◌, ◌∙◌, ◌++◌, ℕ, suc, List, [], ◌∷◌, length, length-append, drop, sym, ap, arith, rules, subst, append_assoc}
use Rattle.std.specs.Ordering.{is_lt}
use Rattle.std.specs.Prelude.{IsPermutation}
use Rattle.std.proofs.lemmas.List.{append-nil}
use Rattle.std.proofs.lemmas.List.Sorted.{ranks_by, answers_always}
use Rattle.std.proofs.lemmas.Slice.Zip.{zip_turn, zip_end}
use Rattle.json_terms.specs.declared.term.Row.{Row}
use Rattle.reduce_tree.specs.declared.edit.Edit.{Edit}
use Rattle.reduce_tree.specs.Applied.{edit_key}
use Rattle.builtin_reduces.specs.ItemLaws.{item_cmp_total}
use Rattle.builtin_reduces.specs.Kept.{item_cmp}
use Rattle.index_trees.specs.Edits.{row_edits, view_edits}
use Rattle.index_trees.proofs.EditSteps.{edits_step, no_edits_left}
use Rattle.index_trees.proofs.row_edits.row_edits.Goals as goal

pub loop-change-preserved : goal.loop-change-preserved
loop-change-preserved c =
    let s = c.loop-change in
    let view = c.args.view in
    let changes = c.args.changes.now in
    let olds = c.args.olds.now in
    let change = c.in-Some.change.now in
    let old = c.in-Some.old.now in
    let edits = s.edits.items in
    let at : ℕ = length s.yielded in
    let turn = zip_turn changes olds s.yielded c.into_iter-change-iterator.result s.change-iterator c.next.new.self c.next.result
    (search rules) (search rules) s.yielded_by (c.in-Some.change, c.in-Some.old) c.in-Some.is c.next.ensures.steps in
    let step = edits_step view changes olds at change old turn.0 turn.1 (turn.2 change) (turn.3 old) in
    let more : length (s.yielded ++ ((c.in-Some.change, c.in-Some.old) ∷ [])) ≡ suc at = omega (arith, length-append s.yielded ((c.in-Some.change, c.in-Some.old) ∷ [])) in
    let added : c.add_edits.new.edits.items ≡ edits ++ row_edits view change old = c.in_ok-add_edits.ensures ∙ ap (λ l. edits ++ row_edits view change l) c.as_slice.ensures in
    ap (λ n. c.add_edits.new.edits.items ++ view_edits view (drop n changes) (drop n olds)) more
    ∙ ap (λ l. l ++ view_edits view (drop (suc at) changes) (drop (suc at) olds)) added
    ∙ append_assoc edits (row_edits view change old) (view_edits view (drop (suc at) changes) (drop (suc at) olds))
    ∙ ap (λ l. edits ++ l) (sym step)
    ∙ s.invariant

pub returns-clause-edits : goal.returns-clause-edits
returns-clause-edits c =
    let s = c.loop-change in
    let ended = zip_end c.args.changes.now c.args.olds.now s.yielded c.into_iter-change-iterator.result s.change-iterator c.next.new.self c.next.result
    (search rules) (search rules) s.yielded_by c.in-None.is c.next.ensures.steps in
    let left = no_edits_left c.args.view c.args.changes.now c.args.olds.now (length s.yielded) ended in
    let all : s.edits.items ≡ view_edits c.args.view c.args.changes.now c.args.olds.now =
    sym (append-nil s.edits.items) ∙ ap (λ (l : List (Edit Row)). s.edits.items ++ l) (sym left) ∙ s.invariant in
    subst (λ l. IsPermutation l c.sort_unstable_by.new.self.items) all c.sort_unstable_by.ensures.permutation

pub returns-clause-sorted : goal.returns-clause-sorted
returns-clause-sorted c =
    c.sort_unstable_by.ensures.sorted (λ (a b : Edit Row). is_lt (item_cmp (edit_key a) (edit_key b))) (ranks_by item_cmp_total edit_key) (answers_always _ _ _ (λ f a r g h. search rules))
