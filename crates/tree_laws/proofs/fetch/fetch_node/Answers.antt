use Rattle.std.proofs.Common.{refl, ◌∙◌, subst}
use Rattle.tree_laws.specs.Nodes.{FitsNode, spelled_node}
use Rattle.tree_laws.specs.Spelled.{IsReadBack}
use Rattle.tree_laws.proofs.Fetched.{bad_at, unfit}
use Rattle.tree_laws.proofs.fetch.fetch_node.Goals as goal

pub returns-in-Ok-2-clause-cause : goal.returns-in-Ok-2-clause-cause
returns-in-Ok-2-clause-cause g c =
    let i = g.T.Item in
    let read = subst (IsReadBack (FitsNode i.fits i.spelled) (spelled_node i.spelled) c.as_slice.result.now) c.in-Ok-2.is c.in_ok-node.ensures in
    let bad = unfit i c.args.level c.args.count c.args.fill g.met.T.Item.one_spelling c.in-Ok-2.node c.in-Ok.bytes.items read.0 (read.1 ∙ c.as_slice.ensures.value) (λ fit. let no = c.if-fits_there.ensures.1 fit in absurd cc) in
    (refl, bad_at i c.args.level c.args.count c.args.fill (g.S.NodeSource.nodes c.args.store.now) c.args.at c.in-Ok.bytes.items c.in-Ok.ensures.bytes bad, c.in-Ok.ensures.goes)
