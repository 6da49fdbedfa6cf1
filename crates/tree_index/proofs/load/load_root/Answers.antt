use Rattle.std.proofs.Common.{◌∙◌, ap, length, subst, IfSome}
use Rattle.std.proofs.lemmas.List.{length-replicate}
use Rattle.index_items.specs.RootRecord.{IsRootOf}
use Rattle.index_trees.specs.Laws.{no_tree}
use Rattle.tree_index.specs.Held.{Said}
use Rattle.tree_index.specs.Sizes.{are_sizes}
use Rattle.tree_index.proofs.Sizes.{no_sizes, sizes_said}
use Rattle.tree_index.proofs.load.load_root.Goals as goal

pub returns-clause-number : goal.returns-clause-number
returns-clause-number g c = ap (λ (s : Said). length s.views) c.in_ok-no_root-in-None.ensures ∙ length-replicate c.args.views no_tree

pub returns-clause-sizes : goal.returns-clause-sizes
returns-clause-sizes g c = ap (λ (s : Said). are_sizes s.views s.back) c.in_ok-no_root-in-None.ensures ∙ no_sizes c.args.views

pub returns-in-Some-2-clause-sizes : goal.returns-in-Some-2-clause-sizes
returns-in-Some-2-clause-sizes g c =
    let root = c.in-Some-2.root in
    let spelled : IsRootOf c.args.views c.in-Some.offset c.as_slice.result.now root.seq root.views.items root.back =
    subst (λ o. IfSome o (λ r. IsRootOf c.args.views c.in-Some.offset c.as_slice.result.now r.seq r.views.items r.back)) c.in-Some-2.is c.in_ok-root-in-Some.ensures.some in
    sizes_said c.args.views c.in-Some.offset root.seq root.views.items root.back spelled.content
