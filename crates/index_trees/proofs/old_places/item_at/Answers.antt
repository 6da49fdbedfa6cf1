use Rattle.std.proofs.Common.{◌∙◌, ◌++◌, ◌∷◌, [], subst, sym}
use Rattle.tree_query.specs.Walking.{IsAt}
use Rattle.tree_query.proofs.Calls.{Laws, ran_on}
use Rattle.index_trees.specs.Trees.{back_items}
use Rattle.index_trees.proofs.OldPlaces.{one_numbered}
use Rattle.index_trees.proofs.old_places.item_at.Goals as goal

pub returns-clause-item : goal.returns-clause-item
returns-clause-item g c there front rest entry told holds number =
    let walk = c.in_ok-walk.walk in
    let at = c.in_ok-walk.ensures.items there (front ++ entry ∷ rest) told holds in
    let one : IsAt back_items there walk (entry ∷ []) = subst (IsAt back_items there walk) (one_numbered front entry rest c.args.number number) at in
    c.next.ensures.item there entry [] (c.in_ok-walk.ensures.reads.nodes ∙ told) one

pub returns-clause-ran : goal.returns-clause-ran
returns-clause-ran g c =
    let s = g.S.NodeSource in
    let laws : Laws s = record { steps = g.met.S.NodeSource.are_steps; caused = g.met.S.NodeSource.stays_caused } in
    let same = c.in_ok-walk.ensures.reads.nodes in
    ran_on back_items s laws c.args.back _ _ c.args.store.now c.start.new.store c.next.new.store c.next.result same c.in_ok-walk.ensures.ran (c.next.ensures.ran c.args.back (λ there told. c.in_ok-walk.ensures.over there (sym same ∙ told)))
