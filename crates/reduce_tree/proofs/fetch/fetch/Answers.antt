use Rattle.std.proofs.Common.{◌≡◌, Some}
use Rattle.tree_laws.specs.Nodes.{spelled_node}
use Rattle.tree_laws.specs.SummerTrees.{Has}
use Rattle.tree_laws.proofs.SummerTrees.{same_node}
use Rattle.reduce_tree.specs.Calls.{places}
use Rattle.std.proofs.lemmas.Result.{err_from_is_err_and}
use Rattle.reduce_tree.proofs.Calls.{Laws, ran_err, fetch_fails, goes_store, told_at}
use Rattle.reduce_tree.proofs.Sound.{fetch_sound, none_unread, sound_err}
use Rattle.tree_laws.specs.declared.tree.TreeFault.TheVariants as tree_fault
use Rattle.tree_laws.proofs.Prefixes.{node_once}
use Rattle.reduce_tree.proofs.Given.{fetch_blames, fetch_takes, fetch_unread, got_no_memory, leads_same, took_fault}
use Rattle.reduce_tree.proofs.Had.{read_knows}
use Rattle.reduce_tree.proofs.fetch.fetch.Goals as goal

pub returns-then-read-clause-got : goal.returns-then-read-clause-got
returns-then-read-clause-got g c first items place known stands =
    let told = g.S.NodeSource.nodes c.args.store.now in
    let node = c.in_ok-node.node in
    let bytes = told_at told (λ there. there c.args.at ≡ Some (spelled_node g.M.Unit.Item.spelled node)) known.there c.in_ok-node.ensures.bytes known.told in
    same_node g.M.Unit.Item g.M.Summer first (places told) g.met.M.Unit.Item.one_spelling (Has g.M.Unit.Item g.M.Summer first (places told) c.args.level) place c.args.at items node c.in_ok-node.ensures.node bytes stands

pub returns-then-read-clause-ran : goal.returns-then-read-clause-ran
returns-then-read-clause-ran g c =
    let laws : Laws g.S.NodeSource g.M.Summer = record { store_steps = g.met.S.NodeSource.are_steps; store_keeps = g.met.S.NodeSource.keeps; store_caused = g.met.S.NodeSource.stays_caused; summer_steps = g.met.M.Summer.are_steps; summer_keeps = g.met.M.Summer.keeps; summer_caused = g.met.M.Summer.stays_caused; summer_asked = g.met.M.Summer.stays_asked; summer_gave = g.met.M.Summer.stays_given } in
    goes_store g.M.Unit.Item g.S.NodeSource g.M.Summer laws c.args.store.now c.fetch_node.new.store c.args.summer.now c.args.at c.in_ok-node.ensures.goes c.in_ok-node.ensures.puts c.in_ok-node.ensures.gets

pub returns-in_err-node-clause-ran : goal.returns-in_err-node-clause-ran
returns-in_err-node-clause-ran g c =
    let laws : Laws g.S.NodeSource g.M.Summer = record { store_steps = g.met.S.NodeSource.are_steps; store_keeps = g.met.S.NodeSource.keeps; store_caused = g.met.S.NodeSource.stays_caused; summer_steps = g.met.M.Summer.are_steps; summer_keeps = g.met.M.Summer.keeps; summer_caused = g.met.M.Summer.stays_caused; summer_asked = g.met.M.Summer.stays_asked; summer_gave = g.met.M.Summer.stays_given } in
    let p = err_from_is_err_and c.from_residual.result c.from_residual.ensures.1 in
    ran_err g.M.Unit.Item g.S.NodeSource g.M.Summer laws _ _ _ _ c.from_residual.result c.in_err-node.field-0.0 p.0 p.2 p.1 (fetch_fails g.M.Unit.Item g.S.NodeSource g.M.Summer laws c.args.store.now c.fetch_node.new.store c.args.summer.now c.args.level c.args.count c.args.fill c.args.at _ c.in_err-node.ensures.nodes c.in_err-node.ensures.puts c.in_err-node.ensures.gets c.in_err-node.ensures.cause)

pub returns-clause-ran : goal.returns-clause-ran
returns-clause-ran g c =
    let laws : Laws g.S.NodeSource g.M.Summer = record { store_steps = g.met.S.NodeSource.are_steps; store_keeps = g.met.S.NodeSource.keeps; store_caused = g.met.S.NodeSource.stays_caused; summer_steps = g.met.M.Summer.are_steps; summer_keeps = g.met.M.Summer.keeps; summer_caused = g.met.M.Summer.stays_caused; summer_asked = g.met.M.Summer.stays_asked; summer_gave = g.met.M.Summer.stays_given } in
    goes_store g.M.Unit.Item g.S.NodeSource g.M.Summer laws c.args.store.now c.fetch_node.new.store c.args.summer.now c.args.at c.in_ok-node.ensures.goes c.in_ok-node.ensures.puts c.in_ok-node.ensures.gets

pub returns-in_err-node-clause-sound : goal.returns-in_err-node-clause-sound
returns-in_err-node-clause-sound g c first items known st e =
    let p = err_from_is_err_and c.from_residual.result c.from_residual.ensures.1 in
    sound_err c.from_residual.result c.in_err-node.field-0.0 p.0 p.2 p.1 (fetch_sound g.M.Unit.Item g.M.Summer first g.S.NodeSource c.args.summer.now c.args.store.now c.fetch_node.new.store c.args.level c.args.count c.args.fill c.args.at items _ known st e c.in_err-node.ensures.cause)

pub returns-clause-sound : goal.returns-clause-sound
returns-clause-sound g c first items known st e =
    let told = g.S.NodeSource.nodes c.args.store.now in
    let node = c.in_ok-node.node in
    let bytes = told_at told (λ there. there c.args.at ≡ Some (spelled_node g.M.Unit.Item.spelled node)) known.there c.in_ok-node.ensures.bytes known.told in
    let has = same_node g.M.Unit.Item g.M.Summer first (places told) g.met.M.Unit.Item.one_spelling (Has g.M.Unit.Item g.M.Summer first (places told) c.args.level) c.args.fill c.args.at items node c.in_ok-node.ensures.node bytes st in
    none_unread g.M.Unit.Item g.M.Summer first (places told) g.met.M.Summer.keeps c.args.summer.now known.goes c.args.level node items has (c.in_ok-read.ensures.bad c.if-read.false)

pub returns-in_err-read-clause-ran : goal.returns-in_err-read-clause-ran
returns-in_err-read-clause-ran g c =
    let laws : Laws g.S.NodeSource g.M.Summer = record { store_steps = g.met.S.NodeSource.are_steps; store_keeps = g.met.S.NodeSource.keeps; store_caused = g.met.S.NodeSource.stays_caused; summer_steps = g.met.M.Summer.are_steps; summer_keeps = g.met.M.Summer.keeps; summer_caused = g.met.M.Summer.stays_caused; summer_asked = g.met.M.Summer.stays_asked; summer_gave = g.met.M.Summer.stays_given } in
    let p = err_from_is_err_and c.from_residual-in_err-read.result c.from_residual-in_err-read.ensures.1 in
    ran_err g.M.Unit.Item g.S.NodeSource g.M.Summer laws _ _ _ _ c.from_residual-in_err-read.result tree_fault.NoMemory p.0 p.2 p.1 (goes_store g.M.Unit.Item g.S.NodeSource g.M.Summer laws c.args.store.now c.fetch_node.new.store c.args.summer.now c.args.at c.in_ok-node.ensures.goes c.in_ok-node.ensures.puts c.in_ok-node.ensures.gets)

pub returns-then-read-clause-met : goal.returns-then-read-clause-met
returns-then-read-clause-met g c first tree pieces under leads =
    let laws : Laws g.S.NodeSource g.M.Summer = record { store_steps = g.met.S.NodeSource.are_steps; store_keeps = g.met.S.NodeSource.keeps; store_caused = g.met.S.NodeSource.stays_caused; summer_steps = g.met.M.Summer.are_steps; summer_keeps = g.met.M.Summer.keeps; summer_caused = g.met.M.Summer.stays_caused; summer_asked = g.met.M.Summer.stays_asked; summer_gave = g.met.M.Summer.stays_given } in
    let i = g.M.Unit.Item in let s = g.S.NodeSource in let m = g.M.Summer in let a = c.args.store.now in let b = c.fetch_node.new.store in let u = c.args.summer.now in
    let k = c.in_ok-node.ensures in
    let leads1 = leads_same i s m laws first tree pieces a b c.args.level c.args.at c.args.count c.args.fill k.nodes k.puts leads in
    fetch_takes i s m laws first tree pieces a b u c.args.level c.args.count c.args.at c.args.fill under leads1 k.nodes k.gets (node_once i.fits i.spelled g.met.M.Unit.Item.one_spelling) c.in_ok-node.node k.node k.bytes k.fits (c.in_ok-read.ensures.read c.if-read.true)

pub returns-clause-met : goal.returns-clause-met
returns-clause-met g c first tree pieces under leads =
    let laws : Laws g.S.NodeSource g.M.Summer = record { store_steps = g.met.S.NodeSource.are_steps; store_keeps = g.met.S.NodeSource.keeps; store_caused = g.met.S.NodeSource.stays_caused; summer_steps = g.met.M.Summer.are_steps; summer_keeps = g.met.M.Summer.keeps; summer_caused = g.met.M.Summer.stays_caused; summer_asked = g.met.M.Summer.stays_asked; summer_gave = g.met.M.Summer.stays_given } in
    let i = g.M.Unit.Item in let s = g.S.NodeSource in let m = g.M.Summer in let a = c.args.store.now in let b = c.fetch_node.new.store in let u = c.args.summer.now in
    let k = c.in_ok-node.ensures in
    let leads1 = leads_same i s m laws first tree pieces a b c.args.level c.args.at c.args.count c.args.fill k.nodes k.puts leads in
    (fetch_unread i s m laws first tree pieces a b u c.args.level c.args.count c.args.at c.args.fill under leads1 k.nodes k.gets (node_once i.fits i.spelled g.met.M.Unit.Item.one_spelling) c.in_ok-node.node k.node k.bytes k.fits (c.in_ok-read.ensures.bad c.if-read.false), tt)

pub returns-in_err-node-clause-met : goal.returns-in_err-node-clause-met
returns-in_err-node-clause-met g c first tree pieces under leads =
    let laws : Laws g.S.NodeSource g.M.Summer = record { store_steps = g.met.S.NodeSource.are_steps; store_keeps = g.met.S.NodeSource.keeps; store_caused = g.met.S.NodeSource.stays_caused; summer_steps = g.met.M.Summer.are_steps; summer_keeps = g.met.M.Summer.keeps; summer_caused = g.met.M.Summer.stays_caused; summer_asked = g.met.M.Summer.stays_asked; summer_gave = g.met.M.Summer.stays_given } in
    let i = g.M.Unit.Item in let s = g.S.NodeSource in let m = g.M.Summer in let a = c.args.store.now in let b = c.fetch_node.new.store in let u = c.args.summer.now in
    let k = c.in_err-node.ensures in
    let leads1 = leads_same i s m laws first tree pieces a b c.args.level c.args.at c.args.count c.args.fill k.nodes k.puts leads in
    let p = err_from_is_err_and c.from_residual.result c.from_residual.ensures.1 in
    took_fault i s m laws first tree pieces c.from_residual.result _ a b c.in_err-node.field-0.0 p.0 p.2 p.1 (fetch_blames i s m laws first tree pieces a b u c.args.level c.args.count c.args.at c.args.fill _ under leads1 k.nodes k.puts k.gets k.cause)

pub returns-in_err-read-clause-met : goal.returns-in_err-read-clause-met
returns-in_err-read-clause-met g c first tree pieces under leads =
    let laws : Laws g.S.NodeSource g.M.Summer = record { store_steps = g.met.S.NodeSource.are_steps; store_keeps = g.met.S.NodeSource.keeps; store_caused = g.met.S.NodeSource.stays_caused; summer_steps = g.met.M.Summer.are_steps; summer_keeps = g.met.M.Summer.keeps; summer_caused = g.met.M.Summer.stays_caused; summer_asked = g.met.M.Summer.stays_asked; summer_gave = g.met.M.Summer.stays_given } in
    let i = g.M.Unit.Item in let s = g.S.NodeSource in let m = g.M.Summer in let a = c.args.store.now in let b = c.fetch_node.new.store in
    let k = c.in_ok-node.ensures in
    let leads1 = leads_same i s m laws first tree pieces a b c.args.level c.args.at c.args.count c.args.fill k.nodes k.puts leads in
    let p = err_from_is_err_and c.from_residual-in_err-read.result c.from_residual-in_err-read.ensures.1 in
    took_fault i s m laws first tree pieces c.from_residual-in_err-read.result _ a b tree_fault.NoMemory p.0 p.2 p.1 (got_no_memory i s m laws first tree pieces a b c.args.level c.args.count c.args.at c.args.fill leads1 k.gets)

pub returns-then-read-clause-known : goal.returns-then-read-clause-known
returns-then-read-clause-known g c first begun way =
    let laws : Laws g.S.NodeSource g.M.Summer = record { store_steps = g.met.S.NodeSource.are_steps; store_keeps = g.met.S.NodeSource.keeps; store_caused = g.met.S.NodeSource.stays_caused; summer_steps = g.met.M.Summer.are_steps; summer_keeps = g.met.M.Summer.keeps; summer_caused = g.met.M.Summer.stays_caused; summer_asked = g.met.M.Summer.stays_asked; summer_gave = g.met.M.Summer.stays_given } in
    let i = g.M.Unit.Item in let s = g.S.NodeSource in let m = g.M.Summer in let s0 = c.args.store.now in let u0 = c.args.summer.now in
    let k = c.in_ok-node.ensures in
    read_knows i s m laws first begun u0 s0 c.fetch_node.new.store c.args.at c.in_ok-node.node way k.goes k.gets k.nodes k.node k.bytes
