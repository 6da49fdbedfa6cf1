use Rattle.std.proofs.Common.{slice_index_or, ap}
use Rattle.index_trees.specs.Laws.{no_tree}
use Rattle.tree_index.proofs.RowsFound.{view_size}
use Rattle.tree_index.proofs.index.Index.tree.Goals as goal

pub returns-clause-size : goal.returns-clause-size
returns-clause-size c = view_size c.args.self.now c.args.view _ c.requires (ap (λ trees. slice_index_or trees c.args.view no_tree) c.as_slice.ensures.value)
