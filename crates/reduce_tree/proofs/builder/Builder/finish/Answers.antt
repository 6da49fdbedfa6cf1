use Rattle.std.proofs.Common.{arith, ◌≡◌, ◌+◌, ◌∙◌, zero, ap, sym, refl, subst, length, length-append}
use Rattle.tree_laws.specs.declared.node.Node.TheVariants.{Leaf}
use Rattle.tree_laws.specs.SummerTrees.{HasRoot}
use Rattle.reduce_tree.specs.Built.{Built, IsCutting, pushed}
use Rattle.reduce_tree.specs.Calls.{places, IsKnown}
use Rattle.reduce_tree.specs.Packed.{IsCut}
use Rattle.reduce_tree.proofs.Stacks.{some_waits, stacked_counts}
use Rattle.reduce_tree.proofs.Climb.{packed_of}
use Rattle.std.proofs.lemmas.Result.{err_from_is_err_and}
use Rattle.reduce_tree.proofs.Calls.{Laws, ran_err}
use Rattle.reduce_tree.proofs.Working.{kept_unless, ready_unless, refused_on, told_places}
use Rattle.std.proofs.lemmas.List.Elements.{All-contains_itself}
use Rattle.reduce_tree.specs.Sums.{sums_of}
use Rattle.reduce_tree.proofs.Had.{rows_own}
use Rattle.reduce_tree.proofs.builder.Builder.finish.Goals as goal

pub rise-requires-clause-few : goal.rise-requires-clause-few
rise-requires-clause-few g c = omega (arith, ap length c.from_vec.ensures, c.requires.few)

pub rise-requires-clause-rows : goal.rise-requires-clause-rows
rise-requires-clause-rows g c = let w = c.requires.whole in w.rows

pub rise-requires-clause-least : goal.rise-requires-clause-least
rise-requires-clause-least g c s = let w = c.requires.whole in let eight = w.least s in omega (arith, eight, ap length c.from_vec.ensures)

pub returns-clause-tree : goal.returns-clause-tree
returns-clause-tree g c first there items told goes rises built =
    let i = g.T.Item in
    let m = g.M.Summer in
    let n0 = places (g.S.NodeSource.nodes c.args.store.now) in
    let n1 = places (g.S.NodeSource.nodes c.rise.new.store) in
    let tree = c.in_ok-tree.tree in
    let h = subst (λ p. Built i m first p c.args.self items) (sym (told_places (g.S.NodeSource.nodes c.args.store.now) there told)) built in
    let known : IsKnown i g.S.NodeSource m first c.args.summer.now c.args.store.now = record { goes = goes; there = there; told = told } in
    let own : h.back ≡ c.from_vec.result = h.at_back ∙ sym c.from_vec.ensures in
    let root = c.in_ok-tree.ensures.root first h.front h.back known h.at_front own in
    let rows = stacked_counts i m first n0 zero c.args.self.rows.items h.front h.at_front in
    record {
      root = subst (λ us. HasRoot i m first n1 tree.root tree.height us) (sym h.whole) root;
      count = omega (arith, c.in_ok-tree.ensures.count, rows, ap length own, ap length h.whole, length-append h.front h.back);
      rises = rises;
    }

pub returns-clause-packed : goal.returns-clause-packed
returns-clause-packed g c there items taken told cutting =
    let i = g.T.Item in
    let s0 = c.args.store.now in
    let n0 = places (g.S.NodeSource.nodes s0) in
    let n1 = places (g.S.NodeSource.nodes c.rise.new.store) in
    let tree = c.in_ok-tree.tree in
    let h = subst (λ p. IsCutting i p c.args.self items taken) (sym (told_places (g.S.NodeSource.nodes s0) there told)) cutting in
    let size = c.in_ok-tree.ensures.size in
    let count : tree.count ≡ pushed c.args.self = omega (arith, c.in_ok-tree.ensures.count, ap length c.from_vec.ensures) in
    packed_of i n0 n1 c.args.self tree items (g.S.NodeSource.size s0) (g.S.NodeSource.size c.rise.new.store) taken h (λ z. size.empty.1 (count ∙ z)) (λ rows leaf. c.in_ok-tree.ensures.none rows (ap length c.from_vec.ensures ∙ leaf))
    (λ some. let r = c.in_ok-tree.ensures.leaf there items c.from_vec.result h.0 h.1 h.2 told refl some (subst (λ l. IsCut i n0 Leaf items l h.0 h.1) (sym c.from_vec.ensures) h.3) h.4 in (r.0, ap (λ t. g.S.NodeSource.size c.rise.new.store + t) h.5 ∙ r.1, r.2))

pub returns-clause-count : goal.returns-clause-count
returns-clause-count g c = omega (arith, c.in_ok-tree.ensures.count, ap length c.from_vec.ensures)

pub returns-clause-kept : goal.returns-clause-kept
returns-clause-kept g c = g.met.S.NodeSource.keeps c.args.store.now c.rise.new.store c.in_ok-tree.ensures.ran.store

pub returns-clause-grows : goal.returns-clause-grows
returns-clause-grows g c = omega (arith, c.in_ok-tree.ensures.grows, ap length c.from_vec.ensures)

pub returns-clause-usable : goal.returns-clause-usable
returns-clause-usable g c some =
    let waits = some_waits c.args.self c.requires.whole some in
    c.in_ok-tree.ensures.usable (omega (arith, waits, ap length c.from_vec.ensures))

pub returns-in_err-tree-clause-ran : goal.returns-in_err-tree-clause-ran
returns-in_err-tree-clause-ran g c =
    let laws : Laws g.S.NodeSource g.M.Summer = record { store_steps = g.met.S.NodeSource.are_steps; store_keeps = g.met.S.NodeSource.keeps; store_caused = g.met.S.NodeSource.stays_caused; summer_steps = g.met.M.Summer.are_steps; summer_keeps = g.met.M.Summer.keeps; summer_caused = g.met.M.Summer.stays_caused; summer_asked = g.met.M.Summer.stays_asked; summer_gave = g.met.M.Summer.stays_given } in
    let p = err_from_is_err_and c.from_residual.result c.from_residual.ensures.1 in
    ran_err g.T.Item g.S.NodeSource g.M.Summer laws c.args.store.now c.rise.new.store c.args.summer.now c.rise.new.summer c.from_residual.result c.in_err-tree.field-0.0 p.0 p.2 p.1 c.in_err-tree.ensures.ran

pub returns-in_err-tree-clause-kept : goal.returns-in_err-tree-clause-kept
returns-in_err-tree-clause-kept g c =
    let laws : Laws g.S.NodeSource g.M.Summer = record { store_steps = g.met.S.NodeSource.are_steps; store_keeps = g.met.S.NodeSource.keeps; store_caused = g.met.S.NodeSource.stays_caused; summer_steps = g.met.M.Summer.are_steps; summer_keeps = g.met.M.Summer.keeps; summer_caused = g.met.M.Summer.stays_caused; summer_asked = g.met.M.Summer.stays_asked; summer_gave = g.met.M.Summer.stays_given } in
    kept_unless g.T.Item g.S.NodeSource g.M.Summer laws c.args.store.now c.rise.new.store c.args.summer.now c.rise.new.summer c.from_residual.result (returns-in_err-tree-clause-ran g c)

pub returns-in_err-tree-clause-ready : goal.returns-in_err-tree-clause-ready
returns-in_err-tree-clause-ready g c =
    let laws : Laws g.S.NodeSource g.M.Summer = record { store_steps = g.met.S.NodeSource.are_steps; store_keeps = g.met.S.NodeSource.keeps; store_caused = g.met.S.NodeSource.stays_caused; summer_steps = g.met.M.Summer.are_steps; summer_keeps = g.met.M.Summer.keeps; summer_caused = g.met.M.Summer.stays_caused; summer_asked = g.met.M.Summer.stays_asked; summer_gave = g.met.M.Summer.stays_given } in
    ready_unless g.T.Item g.S.NodeSource g.M.Summer laws g.met.S.NodeSource.stays_ready c.args.store.now c.rise.new.store c.args.summer.now c.rise.new.summer c.from_residual.result c.requires.ready (returns-in_err-tree-clause-ran g c)

pub returns-in_err-tree-clause-puts : goal.returns-in_err-tree-clause-puts
returns-in_err-tree-clause-puts g c =
    let w = c.requires.whole in
    let few = c.in_err-tree.ensures.puts (omega (arith, w.few, ap length c.from_vec.ensures)) in
    omega (arith, few)

pub returns-clause-puts : goal.returns-clause-puts
returns-clause-puts g c =
    let w = c.requires.whole in
    let few = c.in_ok-tree.ensures.puts (omega (arith, w.few, ap length c.from_vec.ensures)) in
    omega (arith, few)

pub returns-in_err-tree-clause-refused : goal.returns-in_err-tree-clause-refused
returns-in_err-tree-clause-refused g c =
    let p = err_from_is_err_and c.from_residual.result c.from_residual.ensures.1 in
    refused_on _ _ c.from_residual.result c.in_err-tree.field-0.0 p.0 p.2 p.1 (λ h. h) c.in_err-tree.ensures.refused

pub returns-in_err-tree-clause-sums : goal.returns-in_err-tree-clause-sums
returns-in_err-tree-clause-sums g c =
    let laws : Laws g.S.NodeSource g.M.Summer = record { store_steps = g.met.S.NodeSource.are_steps; store_keeps = g.met.S.NodeSource.keeps; store_caused = g.met.S.NodeSource.stays_caused; summer_steps = g.met.M.Summer.are_steps; summer_keeps = g.met.M.Summer.keeps; summer_caused = g.met.M.Summer.stays_caused; summer_asked = g.met.M.Summer.stays_asked; summer_gave = g.met.M.Summer.stays_given } in
    let i = g.T.Item in let s = g.S.NodeSource in let m = g.M.Summer in let s0 = c.args.store.now in let u0 = c.args.summer.now in
    let had = sums_of c.args.self in
    let own = rows_own i m had u0 u0 c.args.self.rows.items (All-contains_itself had) in
    c.in_err-tree.ensures.sums u0 had (laws.summer_steps.none u0) own tt

pub returns-clause-sums : goal.returns-clause-sums
returns-clause-sums g c =
    let laws : Laws g.S.NodeSource g.M.Summer = record { store_steps = g.met.S.NodeSource.are_steps; store_keeps = g.met.S.NodeSource.keeps; store_caused = g.met.S.NodeSource.stays_caused; summer_steps = g.met.M.Summer.are_steps; summer_keeps = g.met.M.Summer.keeps; summer_caused = g.met.M.Summer.stays_caused; summer_asked = g.met.M.Summer.stays_asked; summer_gave = g.met.M.Summer.stays_given } in
    let i = g.T.Item in let s = g.S.NodeSource in let m = g.M.Summer in let s0 = c.args.store.now in let u0 = c.args.summer.now in
    let had = sums_of c.args.self in
    let own = rows_own i m had u0 u0 c.args.self.rows.items (All-contains_itself had) in
    c.in_ok-tree.ensures.sums u0 had (laws.summer_steps.none u0) own tt
