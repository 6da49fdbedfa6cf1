-- The emission that is looked at is the only one that could replace the row.
use Rattle.std.proofs.Common.{sym, ◌∙◌, ap}
use Rattle.std.specs.Ordering.{is_eq}
use Rattle.index_trees.proofs.Replacing.{not_replaced, replaced_by}
use Rattle.index_trees.proofs.row_edits.is_replaced.Goals as goal

pub returns-in-Some : goal.returns-in-Some
returns-in-Some c id =
    let look = c.in-Some.ensures.lookup in
    c.is_eq.ensures ∙ ap is_eq c.raw_cmp.ensures ∙ sym (replaced_by id c.args.here.now c.args.emissions.now c.in-Some.emission.now look.3.0 look.1)

pub returns-in-None : goal.returns-in-None
returns-in-None c id = sym (not_replaced id c.args.here.now c.args.emissions.now c.in-None.ensures.lookup.3)
