use Rattle.std.proofs.Common.{◌+◌, ◌∙◌, ap, arith, sym, subst, refl, Contains, All}
use Rattle.tree_laws.specs.declared.node.Node.TheVariants.{Inner}
use Rattle.tree_laws.specs.Fitting.{AreLarge, item_count}
use Rattle.tree_laws.specs.Nodes.{entries}
use Rattle.tree_laws.specs.SummerTrees.{AreChildren, Stands}
use Rattle.reduce_tree.specs.Calls.{places}
use Rattle.reduce_tree.proofs.Calls.{Laws, extends_on, goes_none, ran_err, on_err}
use Rattle.reduce_tree.proofs.Charge.{ready_level, ready_least, some_by_test, rounding_some}
use Rattle.reduce_tree.proofs.Nodes.{count_append, large_append, none_counted, none_from_test}
use Rattle.reduce_tree.proofs.Walk.{settled, settled_none}
use Rattle.reduce_tree.proofs.Puts.{leaf_none, put_none, unput}
use Rattle.reduce_tree.proofs.Pieces.{pieces_none, on_match}
use Rattle.reduce_tree.proofs.Quiet.{all_back}
use Rattle.reduce_tree.specs.Pieces.{AreAmong}
use Rattle.tree_laws.specs.declared.tree.Fill.TheVariants.{Below}
use Rattle.std.proofs.lemmas.Result.{err_from_is_err_and}
use Rattle.tree_laws.specs.declared.tree.TreeFault.TheVariants as tree_fault
use Rattle.reduce_tree.proofs.Given.{all_on}
use Rattle.reduce_tree.specs.Given.{Given}
use Rattle.std.proofs.lemmas.List.Elements.{All-append}
use Rattle.reduce_tree.specs.Sums.{IsSumRead, KnowsRow}
use Rattle.reduce_tree.proofs.Had.{had_given, had_append, row_goes, known_none, knew_err}
use Rattle.reduce_tree.proofs.batch.settle.Goals as goal

pub place_row-requires-clause-least : goal.place_row-requires-clause-least
place_row-requires-clause-least g c =
    ready_least c.args.low c.args.row.level (entries c.args.row.node) c.requires.settled (some_by_test (entries c.args.row.node) c.is_empty.result c.is_empty.ensures c.if-is_empty.false)

pub returns-then-is_empty-clause-items : goal.returns-then-is_empty-clause-items
returns-then-is_empty-clause-items g c first items known h =
    let none = none_from_test (entries c.args.row.node) c.is_empty.result c.is_empty.ensures c.if-is_empty.true in
    settled_none g.M.Unit.Item g.M.Summer first (places (g.S.NodeSource.nodes c.args.store.now)) c.args.low c.args.row.level c.args.done.now.items c.args.row.node items none h

pub returns-then-is_empty-clause-count : goal.returns-then-is_empty-clause-count
returns-then-is_empty-clause-count g c =
    let none = none_from_test (entries c.args.row.node) c.is_empty.result c.is_empty.ensures c.if-is_empty.true in
    omega (arith, none_counted c.args.row.node none)

pub returns-then-is_empty-clause-ran : goal.returns-then-is_empty-clause-ran
returns-then-is_empty-clause-ran g c =
    let laws : Laws g.S.NodeSource g.M.Summer = record { store_steps = g.met.S.NodeSource.are_steps; store_keeps = g.met.S.NodeSource.keeps; store_caused = g.met.S.NodeSource.stays_caused; summer_steps = g.met.M.Summer.are_steps; summer_keeps = g.met.M.Summer.keeps; summer_caused = g.met.M.Summer.stays_caused; summer_asked = g.met.M.Summer.stays_asked; summer_gave = g.met.M.Summer.stays_given } in
    goes_none g.M.Unit.Item g.S.NodeSource g.M.Summer laws c.args.store.now c.args.summer.now

pub returns-clause-items : goal.returns-clause-items
returns-clause-items g c first items known h =
    let laws : Laws g.S.NodeSource g.M.Summer = record { store_steps = g.met.S.NodeSource.are_steps; store_keeps = g.met.S.NodeSource.keeps; store_caused = g.met.S.NodeSource.stays_caused; summer_steps = g.met.M.Summer.are_steps; summer_keeps = g.met.M.Summer.keeps; summer_caused = g.met.M.Summer.stays_caused; summer_asked = g.met.M.Summer.stays_asked; summer_gave = g.met.M.Summer.stays_given } in
    let s0 = c.args.store.now in
    let s1 = c.place_row.new.store in
    let u0 = c.args.summer.now in
    let u1 = c.place_row.new.summer in
    let n0 = places (g.S.NodeSource.nodes s0) in
    let n1 = places (g.S.NodeSource.nodes s1) in
    let some = some_by_test (entries c.args.row.node) c.is_empty.result c.is_empty.ensures c.if-is_empty.false in
    let level = ready_level c.args.low c.args.row.level (entries c.args.row.node) c.requires.settled some in
    subst (λ ds. AreChildren g.M.Unit.Item g.M.Summer first (Stands g.M.Unit.Item g.M.Summer first n1 c.args.low) ds items) (sym c.in_ok-add_all.ensures)
    (settled g.M.Unit.Item g.M.Summer first n0 n1 (extends_on g.M.Unit.Item g.S.NodeSource g.M.Summer laws s0 s1 u0 u1 c.in_ok-placed.ensures.ran) c.args.low c.args.row.level c.args.done.now.items c.in_ok-placed.placed.items c.args.row.node items level h
    (λ l zs k. c.in_ok-placed.ensures.children first l zs known k))

pub returns-clause-done : goal.returns-clause-done
returns-clause-done g c =
    let some = some_by_test (entries c.args.row.node) c.is_empty.result c.is_empty.ensures c.if-is_empty.false in
    let level = ready_level c.args.low c.args.row.level (entries c.args.row.node) c.requires.settled some in
    let large = subst (λ l. AreLarge (l + 1) (Inner c.in_ok-placed.placed.items)) level (c.in_ok-placed.ensures.large c.args.row.level c.requires.kind c.requires.large) in
    subst (λ ds. AreLarge (c.args.low + 1) (Inner ds)) (sym c.in_ok-add_all.ensures) (large_append (c.args.low + 1) c.args.done.now.items c.in_ok-placed.placed.items c.requires.done large)

pub returns-clause-count : goal.returns-clause-count
returns-clause-count g c =
    let l = ap (λ ds. item_count (Inner ds)) c.in_ok-add_all.ensures ∙ count_append c.args.done.now.items c.in_ok-placed.placed.items in
    omega (arith, l, c.in_ok-placed.ensures.count)

pub returns-then-is_empty-clause-leaf : goal.returns-then-is_empty-clause-leaf
returns-then-is_empty-clause-leaf g c =
    let none = none_from_test (entries c.args.row.node) c.is_empty.result c.is_empty.ensures c.if-is_empty.true in
    let z = leaf_none c.args.row.node none in
    put_none (omega (arith, z))

pub returns-then-is_empty-clause-unput : goal.returns-then-is_empty-clause-unput
returns-then-is_empty-clause-unput g c e = unput g.S.NodeSource c.args.store.now

pub returns-clause-unput : goal.returns-clause-unput
returns-clause-unput g c e =
    let some = some_by_test (entries c.args.row.node) c.is_empty.result c.is_empty.ensures c.if-is_empty.false in
    absurd (omega (arith, e, some))

pub returns-then-is_empty-clause-pieces : goal.returns-then-is_empty-clause-pieces
returns-then-is_empty-clause-pieces g c first items among known h all =
    pieces_none g.M.Unit.Item g.M.Summer first among (places (g.S.NodeSource.nodes c.args.store.now)) Below (g.S.NodeSource.puts c.args.store.now) (g.S.NodeSource.puts c.args.store.now) refl

pub returns-clause-pieces : goal.returns-clause-pieces
returns-clause-pieces g c first items among known h all =
    c.in_ok-placed.ensures.pieces first c.args.row.level h.back among known h.at_back (all_back (Contains among) h.front h.back (subst (AreAmong among) h.whole all))

pub returns-in_err-add_all-clause-ran : goal.returns-in_err-add_all-clause-ran
returns-in_err-add_all-clause-ran g c =
    let laws : Laws g.S.NodeSource g.M.Summer = record { store_steps = g.met.S.NodeSource.are_steps; store_keeps = g.met.S.NodeSource.keeps; store_caused = g.met.S.NodeSource.stays_caused; summer_steps = g.met.M.Summer.are_steps; summer_keeps = g.met.M.Summer.keeps; summer_caused = g.met.M.Summer.stays_caused; summer_asked = g.met.M.Summer.stays_asked; summer_gave = g.met.M.Summer.stays_given } in
    let p = err_from_is_err_and c.from_residual-in_err-add_all.result c.from_residual-in_err-add_all.ensures.1 in
    ran_err g.M.Unit.Item g.S.NodeSource g.M.Summer laws _ _ _ _ c.from_residual-in_err-add_all.result tree_fault.NoMemory p.0 p.2 p.1 (c.in_ok-placed.ensures.ran)

pub returns-in_err-placed-clause-spent : goal.returns-in_err-placed-clause-spent
returns-in_err-placed-clause-spent g c =
    let some = some_by_test (entries c.args.row.node) c.is_empty.result c.is_empty.ensures c.if-is_empty.false in
    let r = rounding_some (entries c.args.row.node) some in
    let k = c.in_err-placed.ensures.spent in
    on_err c.from_residual.result _ (record { steps = let s = k.steps in omega (arith, r, s); puts = let s = k.puts in omega (arith, r, s) })

pub returns-in_err-add_all-clause-spent : goal.returns-in_err-add_all-clause-spent
returns-in_err-add_all-clause-spent g c =
    let some = some_by_test (entries c.args.row.node) c.is_empty.result c.is_empty.ensures c.if-is_empty.false in
    let r = rounding_some (entries c.args.row.node) some in
    let k = c.in_ok-placed.ensures in
    on_err c.from_residual-in_err-add_all.result _ (record { steps = omega (arith, r, k.steps, k.packed); puts = omega (arith, r, k.steps, k.packed, k.puts) })

pub returns-in_err-placed-clause-pieces : goal.returns-in_err-placed-clause-pieces
returns-in_err-placed-clause-pieces g c first items among known h all =
    let p = err_from_is_err_and c.from_residual.result c.from_residual.ensures.1 in
    on_match c.from_residual.result _ _ _ p.0 p.2 p.1 (c.in_err-placed.ensures.pieces first c.args.row.level h.back among known h.at_back (all_back (Contains among) h.front h.back (subst (AreAmong among) h.whole all)))

pub returns-in_err-add_all-clause-pieces : goal.returns-in_err-add_all-clause-pieces
returns-in_err-add_all-clause-pieces g c first items among known h all =
    let laws : Laws g.S.NodeSource g.M.Summer = record { store_steps = g.met.S.NodeSource.are_steps; store_keeps = g.met.S.NodeSource.keeps; store_caused = g.met.S.NodeSource.stays_caused; summer_steps = g.met.M.Summer.are_steps; summer_keeps = g.met.M.Summer.keeps; summer_caused = g.met.M.Summer.stays_caused; summer_asked = g.met.M.Summer.stays_asked; summer_gave = g.met.M.Summer.stays_given } in
    let p = err_from_is_err_and c.from_residual-in_err-add_all.result c.from_residual-in_err-add_all.ensures.1 in
    on_match c.from_residual-in_err-add_all.result _ _ tree_fault.NoMemory p.0 p.2 p.1 (c.in_ok-placed.ensures.pieces first c.args.row.level h.back among known h.at_back (all_back (Contains among) h.front h.back (subst (AreAmong among) h.whole all)))

pub returns-clause-given : goal.returns-clause-given
returns-clause-given g c first tree pieces under done row =
    let laws : Laws g.S.NodeSource g.M.Summer = record { store_steps = g.met.S.NodeSource.are_steps; store_keeps = g.met.S.NodeSource.keeps; store_caused = g.met.S.NodeSource.stays_caused; summer_steps = g.met.M.Summer.are_steps; summer_keeps = g.met.M.Summer.keeps; summer_caused = g.met.M.Summer.stays_caused; summer_asked = g.met.M.Summer.stays_asked; summer_gave = g.met.M.Summer.stays_given } in
    let i = g.M.Unit.Item in let s = g.S.NodeSource in let m = g.M.Summer in let s0 = c.args.store.now in let u0 = c.args.summer.now in
    let s1 = c.place_row.new.store in let u1 = c.place_row.new.summer in
    let some = some_by_test (entries c.args.row.node) c.is_empty.result c.is_empty.ensures c.if-is_empty.false in
    let level = ready_level c.args.low c.args.row.level (entries c.args.row.node) c.requires.settled some in
    let placed = c.in_ok-placed.ensures.given first tree pieces c.args.row.level under c.requires.kind c.requires.large row in
    let new = subst (λ l. All (Given i s m first tree pieces s1 l) c.in_ok-placed.placed.items) level placed in
    subst (All (Given i s m first tree pieces s1 c.args.low)) (sym c.in_ok-add_all.ensures)
    (All-append (Given i s m first tree pieces s1 c.args.low) c.args.done.now.items c.in_ok-placed.placed.items (all_on i s m laws first tree pieces s0 s1 u0 u1 c.in_ok-placed.ensures.ran c.args.low c.args.done.now.items done) new)

pub returns-then-is_empty-clause-sums : goal.returns-then-is_empty-clause-sums
returns-then-is_empty-clause-sums g c first begun knows = known_none g.M.Unit.Item g.S.NodeSource g.M.Summer first begun c.args.summer.now c.args.store.now c.args.store.now refl

pub returns-in_err-placed-clause-sums : goal.returns-in_err-placed-clause-sums
returns-in_err-placed-clause-sums g c first begun knows =
    let p = err_from_is_err_and c.from_residual.result c.from_residual.ensures.1 in
    knew_err g.M.Unit.Item g.S.NodeSource g.M.Summer first begun _ _ _ c.from_residual.result c.in_err-placed.field-0.0 p.0 p.2 p.1 (c.in_err-placed.ensures.sums first begun knows)

pub returns-in_err-add_all-clause-sums : goal.returns-in_err-add_all-clause-sums
returns-in_err-add_all-clause-sums g c first begun knows =
    let p = err_from_is_err_and c.from_residual-in_err-add_all.result c.from_residual-in_err-add_all.ensures.1 in
    knew_err g.M.Unit.Item g.S.NodeSource g.M.Summer first begun _ _ _ c.from_residual-in_err-add_all.result tree_fault.NoMemory p.0 p.2 p.1 (c.in_ok-placed.ensures.sums first begun knows)

pub returns-clause-sums : goal.returns-clause-sums
returns-clause-sums g c first begun knows = c.in_ok-placed.ensures.sums first begun knows

pub returns-clause-known : goal.returns-clause-known
returns-clause-known g c first begun goes done =
    let laws : Laws g.S.NodeSource g.M.Summer = record { store_steps = g.met.S.NodeSource.are_steps; store_keeps = g.met.S.NodeSource.keeps; store_caused = g.met.S.NodeSource.stays_caused; summer_steps = g.met.M.Summer.are_steps; summer_keeps = g.met.M.Summer.keeps; summer_caused = g.met.M.Summer.stays_caused; summer_asked = g.met.M.Summer.stays_asked; summer_gave = g.met.M.Summer.stays_given } in
    let i = g.M.Unit.Item in let s = g.S.NodeSource in let m = g.M.Summer in let s0 = c.args.store.now in let u0 = c.args.summer.now in
    let s1 = c.place_row.new.store in let u1 = c.place_row.new.summer in let placed = c.in_ok-placed.placed.items in
    let new = had_given i m (IsSumRead i s begun s1) first u1 placed (c.in_ok-placed.ensures.answered first goes) in
    let old = row_goes i s m laws first begun s0 s1 u0 u1 c.in_ok-placed.ensures.ran c.args.done.now.items done in
    subst (KnowsRow i s m first begun u1 s1) (sym c.in_ok-add_all.ensures) (had_append i m (IsSumRead i s begun s1) first u1 c.args.done.now.items placed old new)
