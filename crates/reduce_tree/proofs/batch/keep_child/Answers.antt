use Rattle.std.proofs.Common.{◌+◌, ◌∷◌, ◌++◌, [], ◌∙◌, ap, arith, sym, subst, length, length-append, All}
use Rattle.tree_laws.specs.declared.node.Child.{Child}
use Rattle.tree_laws.specs.declared.node.Node.TheVariants.{Inner}
use Rattle.tree_laws.specs.Fitting.{AreLarge, item_count}
use Rattle.reduce_tree.specs.Calls.{places}
use Rattle.reduce_tree.proofs.Calls.{Laws, extends_on, ran_err, on_err}
use Rattle.reduce_tree.proofs.Nodes.{count_append, count_one, large_append, large_one}
use Rattle.reduce_tree.proofs.Walk.{kept_child}
use Rattle.std.proofs.lemmas.Result.{err_from_is_err_and}
use Rattle.tree_laws.specs.declared.tree.TreeFault.TheVariants as tree_fault
use Rattle.reduce_tree.proofs.Pieces.{on_match}
use Rattle.reduce_tree.proofs.Given.{given_on}
use Rattle.reduce_tree.specs.Given.{Given}
use Rattle.std.proofs.lemmas.List.Elements.{All-append, All-cons, All-nil}
use Rattle.reduce_tree.specs.Sums.{IsSumRead, KnowsRow, KnowsSum}
use Rattle.reduce_tree.proofs.Had.{had_append, sum_goes, knew_err}
use Rattle.reduce_tree.proofs.batch.keep_child.Goals as goal

pub returns-clause-items : goal.returns-clause-items
returns-clause-items g c first items mid known h child =
    let laws : Laws g.S.NodeSource g.M.Summer = record { store_steps = g.met.S.NodeSource.are_steps; store_keeps = g.met.S.NodeSource.keeps; store_caused = g.met.S.NodeSource.stays_caused; summer_steps = g.met.M.Summer.are_steps; summer_keeps = g.met.M.Summer.keeps; summer_caused = g.met.M.Summer.stays_caused; summer_asked = g.met.M.Summer.stays_asked; summer_gave = g.met.M.Summer.stays_given } in
    let s0 = c.args.store.now in
    let s1 = c.settle.new.store in
    let u0 = c.args.summer.now in
    let u1 = c.settle.new.summer in
    let n0 = places (g.S.NodeSource.nodes s0) in
    let n1 = places (g.S.NodeSource.nodes s1) in
    kept_child g.M.Unit.Item g.M.Summer first n0 n1 (extends_on g.M.Unit.Item g.S.NodeSource g.M.Summer laws s0 s1 u0 u1 c.in_ok-settle.ensures.ran) c.args.low c.empty.result.level c.args.child c.settle.new.done.items c.add_last.new.list.items c.empty.result.node items mid
    (c.in_ok-settle.ensures.items first items known h) child c.in_ok-add_last.ensures c.empty.ensures.level c.empty.ensures.node

pub returns-clause-done : goal.returns-clause-done
returns-clause-done g c =
    subst (λ ds. AreLarge (c.args.low + 1) (Inner ds)) (sym c.in_ok-add_last.ensures)
    (large_append (c.args.low + 1) c.settle.new.done.items (c.args.child ∷ []) c.in_ok-settle.ensures.done (large_one (c.args.low + 1) c.args.child c.requires.child))

pub returns-clause-count : goal.returns-clause-count
returns-clause-count g c =
    let l = ap (λ ds. item_count (Inner ds)) c.in_ok-add_last.ensures ∙ count_append c.settle.new.done.items (c.args.child ∷ []) in
    omega (arith, l, count_one c.args.child, c.in_ok-settle.ensures.count)

pub returns-clause-steps : goal.returns-clause-steps
returns-clause-steps g c =
    let one = ap length c.in_ok-add_last.ensures ∙ length-append c.settle.new.done.items (c.args.child ∷ []) in
    omega (arith, one, c.in_ok-settle.ensures.steps)

pub returns-clause-once : goal.returns-clause-once
returns-clause-once g c =
    let one = ap length c.in_ok-add_last.ensures ∙ length-append c.settle.new.done.items (c.args.child ∷ []) in
    omega (arith, one, c.in_ok-settle.ensures.once)

pub returns-clause-still : goal.returns-clause-still
returns-clause-still g c e = c.in_ok-add_last.ensures ∙ ap (λ ds. ds ++ c.args.child ∷ []) (c.in_ok-settle.ensures.none (c.requires.still (sym c.empty.ensures.same ∙ e)))

pub returns-clause-unput : goal.returns-clause-unput
returns-clause-unput g c e = c.in_ok-settle.ensures.unput (c.requires.still (sym c.empty.ensures.same ∙ e))

pub returns-clause-pieces : goal.returns-clause-pieces
returns-clause-pieces g c first items among known h all = c.in_ok-settle.ensures.pieces first items among known h all

pub returns-in_err-add_last-clause-ran : goal.returns-in_err-add_last-clause-ran
returns-in_err-add_last-clause-ran g c =
    let laws : Laws g.S.NodeSource g.M.Summer = record { store_steps = g.met.S.NodeSource.are_steps; store_keeps = g.met.S.NodeSource.keeps; store_caused = g.met.S.NodeSource.stays_caused; summer_steps = g.met.M.Summer.are_steps; summer_keeps = g.met.M.Summer.keeps; summer_caused = g.met.M.Summer.stays_caused; summer_asked = g.met.M.Summer.stays_asked; summer_gave = g.met.M.Summer.stays_given } in
    let p = err_from_is_err_and c.from_residual-in_err-add_last.result c.from_residual-in_err-add_last.ensures.1 in
    ran_err g.M.Unit.Item g.S.NodeSource g.M.Summer laws _ _ _ _ c.from_residual-in_err-add_last.result tree_fault.NoMemory p.0 p.2 p.1 (c.in_ok-settle.ensures.ran)

pub returns-in_err-settle-clause-spent : goal.returns-in_err-settle-clause-spent
returns-in_err-settle-clause-spent g c =
    let k = c.in_err-settle.ensures.spent in
    on_err c.from_residual.result _ (record { steps = let s = k.steps in omega (arith, s); puts = let s = k.puts in omega (arith, s) })

pub returns-in_err-add_last-clause-spent : goal.returns-in_err-add_last-clause-spent
returns-in_err-add_last-clause-spent g c =
    let k = c.in_ok-settle.ensures in
    on_err c.from_residual-in_err-add_last.result _ (record { steps = omega (arith, k.steps); puts = omega (arith, k.once) })

pub returns-in_err-settle-clause-pieces : goal.returns-in_err-settle-clause-pieces
returns-in_err-settle-clause-pieces g c first items among known h all =
    let p = err_from_is_err_and c.from_residual.result c.from_residual.ensures.1 in
    on_match c.from_residual.result _ _ _ p.0 p.2 p.1 (c.in_err-settle.ensures.pieces first items among known h all)

pub returns-in_err-add_last-clause-pieces : goal.returns-in_err-add_last-clause-pieces
returns-in_err-add_last-clause-pieces g c first items among known h all =
    let laws : Laws g.S.NodeSource g.M.Summer = record { store_steps = g.met.S.NodeSource.are_steps; store_keeps = g.met.S.NodeSource.keeps; store_caused = g.met.S.NodeSource.stays_caused; summer_steps = g.met.M.Summer.are_steps; summer_keeps = g.met.M.Summer.keeps; summer_caused = g.met.M.Summer.stays_caused; summer_asked = g.met.M.Summer.stays_asked; summer_gave = g.met.M.Summer.stays_given } in
    let p = err_from_is_err_and c.from_residual-in_err-add_last.result c.from_residual-in_err-add_last.ensures.1 in
    on_match c.from_residual-in_err-add_last.result _ _ tree_fault.NoMemory p.0 p.2 p.1 (c.in_ok-settle.ensures.pieces first items among known h all)

pub returns-clause-given : goal.returns-clause-given
returns-clause-given g c first tree pieces under done carry child =
    let laws : Laws g.S.NodeSource g.M.Summer = record { store_steps = g.met.S.NodeSource.are_steps; store_keeps = g.met.S.NodeSource.keeps; store_caused = g.met.S.NodeSource.stays_caused; summer_steps = g.met.M.Summer.are_steps; summer_keeps = g.met.M.Summer.keeps; summer_caused = g.met.M.Summer.stays_caused; summer_asked = g.met.M.Summer.stays_asked; summer_gave = g.met.M.Summer.stays_given } in
    let i = g.M.Unit.Item in let s = g.S.NodeSource in let m = g.M.Summer in let s0 = c.args.store.now in let u0 = c.args.summer.now in
    let s1 = c.settle.new.store in let u1 = c.settle.new.summer in
    let P = Given i s m first tree pieces s1 c.args.low in
    let one = given_on i s m laws first tree pieces s0 s1 u0 u1 c.in_ok-settle.ensures.ran c.args.low c.args.child child in
    subst (All P) (sym c.in_ok-add_last.ensures) (All-append P c.settle.new.done.items (c.args.child ∷ []) (c.in_ok-settle.ensures.given first tree pieces under done carry) (All-cons P c.args.child [] one (All-nil P)))

pub returns-in_err-settle-clause-sums : goal.returns-in_err-settle-clause-sums
returns-in_err-settle-clause-sums g c first begun knows =
    let p = err_from_is_err_and c.from_residual.result c.from_residual.ensures.1 in
    knew_err g.M.Unit.Item g.S.NodeSource g.M.Summer first begun _ _ _ c.from_residual.result c.in_err-settle.field-0.0 p.0 p.2 p.1 (c.in_err-settle.ensures.sums first begun knows)

pub returns-in_err-add_last-clause-sums : goal.returns-in_err-add_last-clause-sums
returns-in_err-add_last-clause-sums g c first begun knows =
    let p = err_from_is_err_and c.from_residual-in_err-add_last.result c.from_residual-in_err-add_last.ensures.1 in
    knew_err g.M.Unit.Item g.S.NodeSource g.M.Summer first begun _ _ _ c.from_residual-in_err-add_last.result tree_fault.NoMemory p.0 p.2 p.1 (c.in_ok-settle.ensures.sums first begun knows)

pub returns-clause-sums : goal.returns-clause-sums
returns-clause-sums g c first begun knows = c.in_ok-settle.ensures.sums first begun knows

pub returns-clause-known : goal.returns-clause-known
returns-clause-known g c first begun goes done child =
    let laws : Laws g.S.NodeSource g.M.Summer = record { store_steps = g.met.S.NodeSource.are_steps; store_keeps = g.met.S.NodeSource.keeps; store_caused = g.met.S.NodeSource.stays_caused; summer_steps = g.met.M.Summer.are_steps; summer_keeps = g.met.M.Summer.keeps; summer_caused = g.met.M.Summer.stays_caused; summer_asked = g.met.M.Summer.stays_asked; summer_gave = g.met.M.Summer.stays_given } in
    let i = g.M.Unit.Item in let s = g.S.NodeSource in let m = g.M.Summer in let s0 = c.args.store.now in let u0 = c.args.summer.now in
    let s1 = c.settle.new.store in let u1 = c.settle.new.summer in
    let P : Child _ → Type 0 = λ d. KnowsSum i s m first begun u1 s1 d.sum in
    let one = sum_goes i s m laws first begun s0 s1 u0 u1 c.in_ok-settle.ensures.ran c.args.child.sum child in
    subst (KnowsRow i s m first begun u1 s1) (sym c.in_ok-add_last.ensures) (had_append i m (IsSumRead i s begun s1) first u1 c.settle.new.done.items (c.args.child ∷ []) (c.in_ok-settle.ensures.known first begun goes done) (All-cons P c.args.child [] one (All-nil P)))
