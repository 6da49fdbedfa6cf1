use Rattle.std.proofs.Common.{rules, Ok, Err, sym, ap, ◌∙◌}
use Rattle.tree_index.proofs.RowsFound.{rows_handed}
use Rattle.tree_index.proofs.index.Index.rows.Goals as goal

pub walk_rows-requires-clause-size : goal.walk_rows-requires-clause-size
walk_rows-requires-clause-size g c = c.tree-tree.ensures.size

pub returns-in-Ok : goal.returns-in-Ok
returns-in-Ok g c =
    let over = c.over-nodes.ensures in
    rows_handed g.F.Folder c.args.self.now c.args.view c.requires c.tree-tree.result c.tree-tree.ensures.is c.name-name.result c.name-name.ensures c.over-nodes.result c.walk_rows.new.store over.same_name c.args.steps.now c.walk_rows.new.steps (Ok c.in-Ok.rows.items) c.in-Ok.ensures
    c.args.folder.now _ c.args.cache.now _ over.same_folder over.same_cache
    (λ same. (let lent = sym (same.folder ∙ over.lent_folder) in search (rules, lent)))
    (λ same. (let lent = sym (same.cache ∙ over.lent_cache) in search (rules, lent))) _ (ap Ok c.sort_rows.ensures)

pub returns-in-Err : goal.returns-in-Err
returns-in-Err g c =
    let over = c.over-nodes.ensures in
    rows_handed g.F.Folder c.args.self.now c.args.view c.requires c.tree-tree.result c.tree-tree.ensures.is c.name-name.result c.name-name.ensures c.over-nodes.result c.walk_rows.new.store over.same_name c.args.steps.now c.walk_rows.new.steps (Err c.in-Err.fault) c.in-Err.ensures
    c.args.folder.now _ c.args.cache.now _ over.same_folder over.same_cache
    (λ same. (let lent = sym (same.folder ∙ over.lent_folder) in search (rules, lent)))
    (λ same. (let lent = sym (same.cache ∙ over.lent_cache) in search (rules, lent))) _ (ap Err c.of_walk.ensures)
