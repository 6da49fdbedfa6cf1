use Rattle.std.proofs.Common.{◌≡◌, Some}
use Rattle.std.proofs.lemmas.Result.{err_from_is_err_and}
use Rattle.tree_laws.specs.Nodes.{spelled_node}
use Rattle.tree_laws.specs.Fetching.{IsBadAt}
use Rattle.tree_query.proofs.Calls.{Laws, caused_err, fetch_blames, fetch_caused, fetch_fails, fetch_went, ran_err, told_at}
use Rattle.tree_query.proofs.Leading.{blames_err}
use Rattle.tree_query.proofs.fetch.fetch.Goals as goal

pub returns-clause-ran : goal.returns-clause-ran
returns-clause-ran g c tree reached =
    let i = g.T.Item in
    let s = g.S.NodeSource in
    let laws : Laws s = record { steps = g.met.S.NodeSource.are_steps; caused = g.met.S.NodeSource.stays_caused } in
    let s0 = c.args.store.now in
    let node = c.in_ok-node.node in
    let says = c.in_ok-node.ensures in
    fetch_went i s laws tree s0 c.fetch_node.new.store c.args.level c.args.count c.args.fill c.args.at node says.gets says.goes reached
    (λ there told. record { fits = says.node; bytes = told_at (s.nodes s0) (λ there. there c.args.at ≡ Some (spelled_node i.spelled node)) says.bytes there told; place = says.fits })

pub returns-in_err-node-clause-ran : goal.returns-in_err-node-clause-ran
returns-in_err-node-clause-ran g c tree reached =
    let i = g.T.Item in
    let s = g.S.NodeSource in
    let laws : Laws s = record { steps = g.met.S.NodeSource.are_steps; caused = g.met.S.NodeSource.stays_caused } in
    let s0 = c.args.store.now in
    let says = c.in_err-node.ensures in
    let q = c.from_residual in
    let p = err_from_is_err_and q.result q.ensures.1 in
    ran_err i s laws tree _ _ s0 c.fetch_node.new.store q.result c.in_err-node.field-0.0 p.0 p.2 p.1
    (fetch_fails i s laws tree _ s0 c.fetch_node.new.store c.args.level c.args.count c.args.fill c.args.at _ says.gets reached says.cause)

pub returns-in_err-node-clause-cause : goal.returns-in_err-node-clause-cause
returns-in_err-node-clause-cause g c =
    let i = g.T.Item in
    let s = g.S.NodeSource in
    let laws : Laws s = record { steps = g.met.S.NodeSource.are_steps; caused = g.met.S.NodeSource.stays_caused } in
    let s0 = c.args.store.now in
    let q = c.from_residual in
    let p = err_from_is_err_and q.result q.ensures.1 in
    caused_err s laws s0 c.fetch_node.new.store q.result c.in_err-node.field-0.0 p.0 p.2 p.1 (fetch_caused i s s0 c.fetch_node.new.store c.args.level c.args.count c.args.fill c.args.at _ c.in_err-node.ensures.cause)

pub returns-in_err-node-clause-bad : goal.returns-in_err-node-clause-bad
returns-in_err-node-clause-bad g c there told =
    let i = g.T.Item in
    let s = g.S.NodeSource in
    let s0 = c.args.store.now in
    let q = c.from_residual in
    let p = err_from_is_err_and q.result q.ensures.1 in
    blames_err (λ place. (place ≡ c.args.at) × IsBadAt i c.args.level c.args.count c.args.fill there c.args.at) q.result c.in_err-node.field-0.0 p.0 p.2 p.1
    (fetch_blames i s s0 c.fetch_node.new.store there c.args.level c.args.count c.args.fill c.args.at _ told c.in_err-node.ensures.cause)
