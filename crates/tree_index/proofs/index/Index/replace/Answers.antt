-- The rows are exchanged in the file, and what the next commit makes is what came of it.
use Rattle.std.proofs.Common.{◌∙◌, refl, sym}
use Rattle.tree_index.proofs.Answering.{answered_err}
use Rattle.tree_index.proofs.ReplacedIn.{causes_in, costs_in, replaces_in}
use Rattle.tree_index.proofs.Replacing.{is_refused, is_replaced}
use Rattle.tree_index.proofs.Sizes.{are_sizes_of, sizes_of}
use Rattle.tree_index.proofs.index.Index.replace.Goals as goal

pub exchange_in-requires-clause-sizes : goal.exchange_in-requires-clause-sizes
exchange_in-requires-clause-sizes g c = sizes_of c.args.self.now.next c.args.self.now.next_sizes

pub invariant_of-self-clause-same : goal.invariant_of-self-clause-same
invariant_of-self-clause-same g c =
    let old = c.args.self.now in
    sym c.in-Ok.next.views.ok.0 ∙ (c.in-Ok.ensures.exchanges).number ∙ old.next.views.ok.0 ∙ old.same

pub invariant_of-self-clause-next_sizes : goal.invariant_of-self-clause-next_sizes
invariant_of-self-clause-next_sizes g c = are_sizes_of c.in-Ok.next (c.in-Ok.ensures.exchanges).sizes

-- ---- where they were exchanged

pub returns-in-Ok-clause-rows : goal.returns-in-Ok-clause-rows
returns-in-Ok-clause-rows g c = replaces_in c.args.self.now _ c.in-Ok.ensures (is_replaced _ _ _ _ refl refl refl c.exchanged-self.ensures) _ refl c.requires.open

pub returns-in-Ok-clause-causes : goal.returns-in-Ok-clause-causes
returns-in-Ok-clause-causes g c = causes_in c.args.self.now _ c.in-Ok.ensures (is_replaced _ _ _ _ refl refl refl c.exchanged-self.ensures) _ refl

pub returns-in-Ok-clause-costs : goal.returns-in-Ok-clause-costs
returns-in-Ok-clause-costs g c = costs_in c.args.self.now _ c.in-Ok.ensures (is_replaced _ _ _ _ refl refl refl c.exchanged-self.ensures) _ refl

-- ---- where they weren't

pub returns-in-Err-clause-rows : goal.returns-in-Err-clause-rows
returns-in-Err-clause-rows g c = replaces_in c.args.self.now _ c.in-Err.ensures (is_refused _ _ _ _ refl refl refl refl) _ (answered_err _ _ _ _ c.of_trees.ensures c.name-name.ensures) c.requires.open

pub returns-in-Err-clause-causes : goal.returns-in-Err-clause-causes
returns-in-Err-clause-causes g c = causes_in c.args.self.now _ c.in-Err.ensures (is_refused _ _ _ _ refl refl refl refl) _ (answered_err _ _ _ _ c.of_trees.ensures c.name-name.ensures)

pub returns-in-Err-clause-costs : goal.returns-in-Err-clause-costs
returns-in-Err-clause-costs g c = costs_in c.args.self.now _ c.in-Err.ensures (is_refused _ _ _ _ refl refl refl refl) _ (answered_err _ _ _ _ c.of_trees.ensures c.name-name.ensures)
