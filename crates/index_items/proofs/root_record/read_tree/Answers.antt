-- The one tree at the front doesn't fit.
use Rattle.std.proofs.Common.{◌≡◌, true, false, sym, ◌∙◌, subst}
use Rattle.index_items.specs.RootRecord.{IsFitTree, IsTypedTree, tree_bytes}
use Rattle.index_items.proofs.Roots.{tree_prefix_free}
use Rattle.index_items.proofs.Taking.{one_taken}
use Rattle.index_items.proofs.root_record.read_tree.Goals as goal

pub returns-then-not-is_fit : goal.returns-then-not-is_fit
returns-then-not-is_fit c = λ value more at is.
    let taken = one_taken IsTypedTree tree_bytes c.args.bytes.now c.read_numbers.result c.in-Some.tree c.in-Some.rest c.in-Some.is c.read_numbers.ensures in
    let one = tree_prefix_free value c.in-Some.tree more c.in-Some.rest.now at.typed taken.0 (sym is ∙ taken.1) in
    let passes : c.is_fit.result ≡ true = c.is_fit.ensures.1 (subst (IsFitTree c.args.offset) one.0 at.fit) in
    let both : false ≡ true = sym c.if-not-is_fit.true ∙ passes in
    absurd cc
