use Rattle.std.proofs.Common.{◌-◌, max, length, sym, ap, ◌∙◌, subst, arith, inl, inr, ◌≡◌, refl, true, false, ℕ, List, ◌<◌, ◌^◌, Ok}
use Rattle.tree_laws.specs.Nodes.{entries}
use Rattle.tree_laws.specs.SummerTrees.{IsTree}
use Rattle.tree_laws.proofs.SummerTrees.{tree_stays}
use Rattle.reduce_tree.specs.Applied.{applied, insertions}
use Rattle.reduce_tree.specs.Calls.{places, IsKnown}
use Rattle.reduce_tree.proofs.Applied.{applied_sorted, none_given}
use Rattle.std.proofs.lemmas.Result.{err_from_is_err_and}
use Rattle.reduce_tree.proofs.Calls.{Laws, ran_err, extends_on, fails_on, goes_on, goes_none, known_on, ran_goes, unless_on}
use Rattle.reduce_tree.proofs.Charge.{all_bounds, few_puts, few_steps, some_by_test, fault_bounds, top_bounds}
use Rattle.reduce_tree.proofs.Nodes.{has_counts, height_small, none_from_test}
use Rattle.reduce_tree.proofs.Puts.{inserts_none, less_or, unput}
use Rattle.reduce_tree.specs.Rows.{leaf_items}
use Rattle.reduce_tree.proofs.Sound.{sound_err}
use Rattle.reduce_tree.proofs.Pieces.{applied_among, pieces_none, pieces_on, were_on, on_match}
use Rattle.tree_laws.specs.declared.tree.Fill.TheVariants.{Below, Root}
use Rattle.tree_laws.specs.declared.tree.Fill.{Fill}
use Rattle.tree_laws.specs.Fitting.{item_count}
use Rattle.reduce_tree.proofs.Given.{begins, taken_quiet, took_fault, took_none, took_quiet}
use Rattle.reduce_tree.proofs.Growth.{grown, ran_growing}
use Rattle.reduce_tree.proofs.Had.{way_begins, known_goes, known_fails, known_none, knew_err}
use Rattle.reduce_tree.proofs.apply_edits.apply.Goals as goal

pub returns-then-is_empty-clause-tree : goal.returns-then-is_empty-clause-tree
returns-then-is_empty-clause-tree g c first there items told goes edits tree =
    let none = none_from_test (length c.args.edits.now) c.is_empty.result c.is_empty.ensures c.if-is_empty.true in
    let here = subst (λ p. IsTree g.M.Unit.Item g.M.Summer first p c.args.tree items) (sym (ap places told)) tree in
    subst (λ xs. IsTree g.M.Unit.Item g.M.Summer first (places (g.S.NodeSource.nodes c.args.store.now)) c.args.tree xs) (sym (none_given g.M.Unit.Item.order c.args.edits.now items none)) here

pub returns-then-is_empty-clause-ran : goal.returns-then-is_empty-clause-ran
returns-then-is_empty-clause-ran g c =
    let laws : Laws g.S.NodeSource g.M.Summer = record { store_steps = g.met.S.NodeSource.are_steps; store_keeps = g.met.S.NodeSource.keeps; store_caused = g.met.S.NodeSource.stays_caused; summer_steps = g.met.M.Summer.are_steps; summer_keeps = g.met.M.Summer.keeps; summer_caused = g.met.M.Summer.stays_caused; summer_asked = g.met.M.Summer.stays_asked; summer_gave = g.met.M.Summer.stays_given } in
    goes_none g.M.Unit.Item g.S.NodeSource g.M.Summer laws c.args.store.now c.args.summer.now

pub returns-then-is_empty-clause-kept : goal.returns-then-is_empty-clause-kept
returns-then-is_empty-clause-kept g c = g.met.S.NodeSource.keeps c.args.store.now c.args.store.now (g.met.S.NodeSource.are_steps.none c.args.store.now)

pub returns-then-row-clause-tree : goal.returns-then-row-clause-tree
returns-then-row-clause-tree g c first there items told goes edits tree =
    let laws : Laws g.S.NodeSource g.M.Summer = record { store_steps = g.met.S.NodeSource.are_steps; store_keeps = g.met.S.NodeSource.keeps; store_caused = g.met.S.NodeSource.stays_caused; summer_steps = g.met.M.Summer.are_steps; summer_keeps = g.met.M.Summer.keeps; summer_caused = g.met.M.Summer.stays_caused; summer_asked = g.met.M.Summer.stays_asked; summer_gave = g.met.M.Summer.stays_given } in
    let i = g.M.Unit.Item in
    let m = g.M.Summer in
    let s0 = c.args.store.now in
    let s1 = c.edit_root.new.store in
    let u0 = c.args.summer.now in
    let u1 = c.edit_root.new.summer in
    let n0 = places (g.S.NodeSource.nodes s0) in
    let n1 = places (g.S.NodeSource.nodes s1) in
    let known : IsKnown i g.S.NodeSource m first u0 s0 = record { goes = goes; there = there; told = told } in
    let here : IsTree i m first n0 c.args.tree items = subst (λ p. IsTree i m first p c.args.tree items) (sym (ap places told)) tree in
    let none = c.in_ok-row.ensures.same first items known here.rises here.root c.if-row.true in
    subst (λ xs. IsTree i m first n1 c.args.tree xs) (sym none) (tree_stays i m first n0 n1 (extends_on g.M.Unit.Item g.S.NodeSource g.M.Summer laws s0 s1 u0 u1 c.in_ok-row.ensures.ran) c.args.tree items here)

pub returns-then-row-clause-kept : goal.returns-then-row-clause-kept
returns-then-row-clause-kept g c = g.met.S.NodeSource.keeps c.args.store.now c.edit_root.new.store c.in_ok-row.ensures.ran.store

pub returns-then-row-clause-puts : goal.returns-then-row-clause-puts
returns-then-row-clause-puts g c =
    let h = c.args.tree.height in
    let some = some_by_test (length c.args.edits.now) c.is_empty.result c.is_empty.ensures c.if-is_empty.false in
    few_puts (h - 1) (max h h) (length c.args.edits.now) c.args.steps.now c.edit_root.new.steps (entries c.in_ok-row.row.node) _ (length (g.S.NodeSource.puts c.args.store.now)) (length (g.S.NodeSource.puts c.edit_root.new.store)) some (omega arith) c.in_ok-row.ensures.steps c.in_ok-row.ensures.once

pub returns-then-row-clause-steps : goal.returns-then-row-clause-steps
returns-then-row-clause-steps g c =
    let h = c.args.tree.height in
    let some = some_by_test (length c.args.edits.now) c.is_empty.result c.is_empty.ensures c.if-is_empty.false in
    few_steps (h - 1) (max h h) (length c.args.edits.now) c.args.steps.now c.edit_root.new.steps (entries c.in_ok-row.row.node) _ some (omega arith) c.in_ok-row.ensures.steps

pub returns-clause-tree : goal.returns-clause-tree
returns-clause-tree g c first there items told goes edits tree =
    let laws : Laws g.S.NodeSource g.M.Summer = record { store_steps = g.met.S.NodeSource.are_steps; store_keeps = g.met.S.NodeSource.keeps; store_caused = g.met.S.NodeSource.stays_caused; summer_steps = g.met.M.Summer.are_steps; summer_keeps = g.met.M.Summer.keeps; summer_caused = g.met.M.Summer.stays_caused; summer_asked = g.met.M.Summer.stays_asked; summer_gave = g.met.M.Summer.stays_given } in
    let i = g.M.Unit.Item in
    let m = g.M.Summer in
    let s0 = c.args.store.now in
    let s1 = c.edit_root.new.store in
    let u0 = c.args.summer.now in
    let u1 = c.edit_root.new.summer in
    let n0 = places (g.S.NodeSource.nodes s0) in
    let n1 = places (g.S.NodeSource.nodes s1) in
    let known : IsKnown i g.S.NodeSource m first u0 s0 = record { goes = goes; there = there; told = told } in
    let here : IsTree i m first n0 c.args.tree items = subst (λ p. IsTree i m first p c.args.tree items) (sym (ap places told)) tree in
    let all = applied i.order c.args.edits.now items in
    let row = c.in_ok-row.ensures.items first items known here.rises here.root in
    let known1 = known_on g.M.Unit.Item g.S.NodeSource g.M.Summer laws first s0 s1 u0 u1 known c.in_ok-row.ensures.ran in
    record {
      root = c.in_ok-after.ensures.root first all known1 row;
      count = c.in_ok-after.ensures.count ∙ has_counts i m first n1 c.in_ok-row.row.level c.in_ok-row.row.node all row;
      rises = applied_sorted i.order g.met.M.Unit.Item.is_total c.args.edits.now items edits here.rises;
    }

pub returns-clause-kept : goal.returns-clause-kept
returns-clause-kept g c =
    let laws : Laws g.S.NodeSource g.M.Summer = record { store_steps = g.met.S.NodeSource.are_steps; store_keeps = g.met.S.NodeSource.keeps; store_caused = g.met.S.NodeSource.stays_caused; summer_steps = g.met.M.Summer.are_steps; summer_keeps = g.met.M.Summer.keeps; summer_caused = g.met.M.Summer.stays_caused; summer_asked = g.met.M.Summer.stays_asked; summer_gave = g.met.M.Summer.stays_given } in
    g.met.S.NodeSource.keeps c.args.store.now c.raise.new.store (goes_on g.M.Unit.Item g.S.NodeSource g.M.Summer laws c.args.store.now c.edit_root.new.store c.raise.new.store c.args.summer.now c.edit_root.new.summer c.raise.new.summer c.in_ok-row.ensures.ran c.in_ok-after.ensures.ran).store

pub returns-clause-ran : goal.returns-clause-ran
returns-clause-ran g c =
    let laws : Laws g.S.NodeSource g.M.Summer = record { store_steps = g.met.S.NodeSource.are_steps; store_keeps = g.met.S.NodeSource.keeps; store_caused = g.met.S.NodeSource.stays_caused; summer_steps = g.met.M.Summer.are_steps; summer_keeps = g.met.M.Summer.keeps; summer_caused = g.met.M.Summer.stays_caused; summer_asked = g.met.M.Summer.stays_asked; summer_gave = g.met.M.Summer.stays_given } in
    goes_on g.M.Unit.Item g.S.NodeSource g.M.Summer laws c.args.store.now c.edit_root.new.store c.raise.new.store c.args.summer.now c.edit_root.new.summer c.raise.new.summer c.in_ok-row.ensures.ran c.in_ok-after.ensures.ran

pub returns-in_err-after-clause-ran : goal.returns-in_err-after-clause-ran
returns-in_err-after-clause-ran g c =
    let laws : Laws g.S.NodeSource g.M.Summer = record { store_steps = g.met.S.NodeSource.are_steps; store_keeps = g.met.S.NodeSource.keeps; store_caused = g.met.S.NodeSource.stays_caused; summer_steps = g.met.M.Summer.are_steps; summer_keeps = g.met.M.Summer.keeps; summer_caused = g.met.M.Summer.stays_caused; summer_asked = g.met.M.Summer.stays_asked; summer_gave = g.met.M.Summer.stays_given } in
    let p = err_from_is_err_and c.from_residual-in_err-after.result c.from_residual-in_err-after.ensures.1 in
    ran_err g.M.Unit.Item g.S.NodeSource g.M.Summer laws _ _ _ _ c.from_residual-in_err-after.result c.in_err-after.field-0.0 p.0 p.2 p.1 (fails_on g.M.Unit.Item g.S.NodeSource g.M.Summer laws c.args.store.now c.edit_root.new.store c.raise.new.store c.args.summer.now c.edit_root.new.summer c.raise.new.summer c.in_ok-row.ensures.ran _ c.in_err-after.ensures.ran)

pub returns-clause-count : goal.returns-clause-count
returns-clause-count g c = omega (arith, c.in_ok-row.ensures.count, c.in_ok-after.ensures.count)

pub returns-clause-puts : goal.returns-clause-puts
returns-clause-puts g c =
    let h = c.args.tree.height in
    let after = c.in_ok-after.after.height in
    let row = c.in_ok-row.row in
    let some = some_by_test (length c.args.edits.now) c.is_empty.result c.is_empty.ensures c.if-is_empty.false in
    (all_bounds (h - 1) (max h after) after (length c.args.edits.now) row.level (entries row.node) c.args.steps.now c.edit_root.new.steps c.raise.new.steps
    (length (g.S.NodeSource.puts c.args.store.now)) (length (g.S.NodeSource.puts c.edit_root.new.store)) (length (g.S.NodeSource.puts c.raise.new.store))
    some (omega arith) (omega arith) c.in_ok-row.ensures.most c.in_ok-after.ensures.none c.in_ok-row.ensures.steps c.in_ok-row.ensures.once c.in_ok-after.ensures.steps c.in_ok-after.ensures.once).1

pub returns-clause-steps : goal.returns-clause-steps
returns-clause-steps g c =
    let h = c.args.tree.height in
    let after = c.in_ok-after.after.height in
    let row = c.in_ok-row.row in
    let some = some_by_test (length c.args.edits.now) c.is_empty.result c.is_empty.ensures c.if-is_empty.false in
    (all_bounds (h - 1) (max h after) after (length c.args.edits.now) row.level (entries row.node) c.args.steps.now c.edit_root.new.steps c.raise.new.steps
    (length (g.S.NodeSource.puts c.args.store.now)) (length (g.S.NodeSource.puts c.edit_root.new.store)) (length (g.S.NodeSource.puts c.raise.new.store))
    some (omega arith) (omega arith) c.in_ok-row.ensures.most c.in_ok-after.ensures.none c.in_ok-row.ensures.steps c.in_ok-row.ensures.once c.in_ok-after.ensures.steps c.in_ok-after.ensures.once).0

pub raise-requires-clause-level : goal.raise-requires-clause-level
raise-requires-clause-level g c = omega (arith, c.in_ok-row.ensures.most, height_small c.args.tree c.requires.size)

pub raise-requires-clause-few : goal.raise-requires-clause-few
raise-requires-clause-few g c = omega (arith, c.in_ok-row.ensures.count, c.requires.few)

pub returns-then-is_empty-clause-grows : goal.returns-then-is_empty-clause-grows
returns-then-is_empty-clause-grows g c =
    let none = none_from_test (length c.args.edits.now) c.is_empty.result c.is_empty.ensures c.if-is_empty.true in
    omega (arith, inserts_none c.args.edits.now none)

pub returns-then-is_empty-clause-usable : goal.returns-then-is_empty-clause-usable
returns-then-is_empty-clause-usable g c some =
    let none = none_from_test (length c.args.edits.now) c.is_empty.result c.is_empty.ensures c.if-is_empty.true in
    absurd (omega (arith, some, inserts_none c.args.edits.now none))

pub returns-then-row-clause-grows : goal.returns-then-row-clause-grows
returns-then-row-clause-grows g c =
    let z = c.in_ok-row.ensures.inserts c.if-row.true in
    let b = (c.in_ok-row.ensures.unput c.if-row.true).size in
    omega (arith, z, b)

pub returns-then-row-clause-usable : goal.returns-then-row-clause-usable
returns-then-row-clause-usable g c some =
    let z = c.in_ok-row.ensures.inserts c.if-row.true in
    absurd (omega (arith, z, some))

pub returns-clause-grows : goal.returns-clause-grows
returns-clause-grows g c =
    let a = c.in_ok-row.ensures.leaf.size in
    let b = c.in_ok-after.ensures.leaf.size in
    omega (arith, a, b)

pub returns-clause-usable : goal.returns-clause-usable
returns-clause-usable g c some =
    let row = leaf_items c.in_ok-row.row.node in
    elim (less_or row (insertions c.args.edits.now)) [
      | inl l ↦ c.in_ok-row.ensures.leaf.usable l
      | inr l ↦ g.met.M.Summer.keeps.usable c.args.summer.now c.edit_root.new.summer c.in_ok-row.ensures.ran.summer (c.in_ok-after.ensures.leaf.usable (omega (arith, l, some)))
    ]

pub returns-then-is_empty-clause-none : goal.returns-then-is_empty-clause-none
returns-then-is_empty-clause-none g c first there items told goes tree none = (refl, unput g.S.NodeSource c.args.store.now)

pub returns-then-row-clause-none : goal.returns-then-row-clause-none
returns-then-row-clause-none g c first there items told goes tree none = (refl, c.in_ok-row.ensures.unput c.if-row.true)

pub returns-clause-none : goal.returns-clause-none
returns-clause-none g c first there items told goes tree none =
    let i = g.M.Unit.Item in
    let m = g.M.Summer in
    let s0 = c.args.store.now in
    let known : IsKnown i g.S.NodeSource m first c.args.summer.now s0 = record { goes = goes; there = there; told = told } in
    let here : IsTree i m first (places (g.S.NodeSource.nodes s0)) c.args.tree items = subst (λ p. IsTree i m first p c.args.tree items) (sym (ap places told)) tree in
    let same : c.in_ok-row.row.same ≡ true = c.in_ok-row.ensures.quiet first items known here.root none in
    let other : c.in_ok-row.row.same ≡ false = c.if-row.false in
    absurd (cc)

pub returns-in_err-row-clause-sound : goal.returns-in_err-row-clause-sound
returns-in_err-row-clause-sound g c first there items told goes tree =
    let i = g.M.Unit.Item in
    let m = g.M.Summer in
    let s0 = c.args.store.now in
    let known : IsKnown i g.S.NodeSource m first c.args.summer.now s0 = record { goes = goes; there = there; told = told } in
    let here : IsTree i m first (places (g.S.NodeSource.nodes s0)) c.args.tree items = subst (λ p. IsTree i m first p c.args.tree items) (sym (ap places told)) tree in
    let p = err_from_is_err_and c.from_residual.result c.from_residual.ensures.1 in
    sound_err c.from_residual.result c.in_err-row.field-0.0 p.0 p.2 p.1 (c.in_err-row.ensures.sound first items known here.rises here.root here.count)

pub returns-in_err-after-clause-sound : goal.returns-in_err-after-clause-sound
returns-in_err-after-clause-sound g c first there items told goes tree =
    let p = err_from_is_err_and c.from_residual-in_err-after.result c.from_residual-in_err-after.ensures.1 in
    sound_err c.from_residual-in_err-after.result c.in_err-after.field-0.0 p.0 p.2 p.1 c.in_err-after.ensures.sound

pub returns-then-is_empty-clause-pieces : goal.returns-then-is_empty-clause-pieces
returns-then-is_empty-clause-pieces g c first there items among told goes tree ai ae =
    let s0 = c.args.store.now in
    let none = λ (fill : Fill). pieces_none g.M.Unit.Item g.M.Summer first among (places (g.S.NodeSource.nodes s0)) fill (g.S.NodeSource.puts s0) (g.S.NodeSource.puts s0) refl in
    record { mid = g.S.NodeSource.puts s0; below = none Below; root = none Root; one = omega arith }

pub returns-then-row-clause-pieces : goal.returns-then-row-clause-pieces
returns-then-row-clause-pieces g c first there items among told goes tree ai ae =
    let s0 = c.args.store.now in
    let s1 = c.edit_root.new.store in
    let e = (c.in_ok-row.ensures.unput c.if-row.true).puts in
    let none = λ (fill : Fill) (old new : List (List ℕ)) (h : new ≡ old). pieces_none g.M.Unit.Item g.M.Summer first among (places (g.S.NodeSource.nodes s1)) fill old new h in
    record { mid = g.S.NodeSource.puts s1; below = none Below (g.S.NodeSource.puts s0) (g.S.NodeSource.puts s1) e; root = none Root (g.S.NodeSource.puts s1) (g.S.NodeSource.puts s1) refl; one = omega arith }

pub returns-clause-pieces : goal.returns-clause-pieces
returns-clause-pieces g c first there items among told goes tree ai ae =
    let laws : Laws g.S.NodeSource g.M.Summer = record { store_steps = g.met.S.NodeSource.are_steps; store_keeps = g.met.S.NodeSource.keeps; store_caused = g.met.S.NodeSource.stays_caused; summer_steps = g.met.M.Summer.are_steps; summer_keeps = g.met.M.Summer.keeps; summer_caused = g.met.M.Summer.stays_caused; summer_asked = g.met.M.Summer.stays_asked; summer_gave = g.met.M.Summer.stays_given } in
    let i = g.M.Unit.Item in
    let m = g.M.Summer in
    let s0 = c.args.store.now in
    let s1 = c.edit_root.new.store in
    let s2 = c.raise.new.store in
    let u0 = c.args.summer.now in
    let u1 = c.edit_root.new.summer in
    let n0 = places (g.S.NodeSource.nodes s0) in
    let n1 = places (g.S.NodeSource.nodes s1) in
    let n2 = places (g.S.NodeSource.nodes s2) in
    let known : IsKnown i g.S.NodeSource m first u0 s0 = record { goes = goes; there = there; told = told } in
    let here : IsTree i m first n0 c.args.tree items = subst (λ p. IsTree i m first p c.args.tree items) (sym (ap places told)) tree in
    let edits = c.args.edits.now in
    let row = c.in_ok-row.ensures.items first items known here.rises here.root in
    let known1 = known_on i g.S.NodeSource m laws first s0 s1 u0 u1 known c.in_ok-row.ensures.ran in
    let one = c.in_ok-row.ensures.pieces first items among known here.rises here.root ai ae in
    let two = c.in_ok-after.ensures.pieces first (applied i.order edits items) among known1 row (applied_among i.order among edits items ae ai) in
    let e12 = extends_on i g.S.NodeSource m laws s1 s2 u1 c.raise.new.summer c.in_ok-after.ensures.ran in
    record { mid = two.mid; below = pieces_on i m first among n1 n2 e12 Below (g.S.NodeSource.puts s0) (g.S.NodeSource.puts s1) two.mid one two.below; root = two.root; one = two.one }

pub returns-in_err-row-clause-ran : goal.returns-in_err-row-clause-ran
returns-in_err-row-clause-ran g c =
    let laws : Laws g.S.NodeSource g.M.Summer = record { store_steps = g.met.S.NodeSource.are_steps; store_keeps = g.met.S.NodeSource.keeps; store_caused = g.met.S.NodeSource.stays_caused; summer_steps = g.met.M.Summer.are_steps; summer_keeps = g.met.M.Summer.keeps; summer_caused = g.met.M.Summer.stays_caused; summer_asked = g.met.M.Summer.stays_asked; summer_gave = g.met.M.Summer.stays_given } in
    let p = err_from_is_err_and c.from_residual.result c.from_residual.ensures.1 in
    ran_err g.M.Unit.Item g.S.NodeSource g.M.Summer laws _ _ _ _ c.from_residual.result c.in_err-row.field-0.0 p.0 p.2 p.1 c.in_err-row.ensures.ran

pub returns-in_err-row-clause-kept : goal.returns-in_err-row-clause-kept
returns-in_err-row-clause-kept g c =
    let laws : Laws g.S.NodeSource g.M.Summer = record { store_steps = g.met.S.NodeSource.are_steps; store_keeps = g.met.S.NodeSource.keeps; store_caused = g.met.S.NodeSource.stays_caused; summer_steps = g.met.M.Summer.are_steps; summer_keeps = g.met.M.Summer.keeps; summer_caused = g.met.M.Summer.stays_caused; summer_asked = g.met.M.Summer.stays_asked; summer_gave = g.met.M.Summer.stays_given } in
    unless_on _ _ c.from_residual.result (λ went. g.met.S.NodeSource.keeps c.args.store.now c.edit_root.new.store went) (ran_goes g.M.Unit.Item g.S.NodeSource g.M.Summer laws c.args.store.now c.edit_root.new.store c.args.summer.now c.edit_root.new.summer c.from_residual.result (returns-in_err-row-clause-ran g c))

pub returns-in_err-row-clause-ready : goal.returns-in_err-row-clause-ready
returns-in_err-row-clause-ready g c =
    let laws : Laws g.S.NodeSource g.M.Summer = record { store_steps = g.met.S.NodeSource.are_steps; store_keeps = g.met.S.NodeSource.keeps; store_caused = g.met.S.NodeSource.stays_caused; summer_steps = g.met.M.Summer.are_steps; summer_keeps = g.met.M.Summer.keeps; summer_caused = g.met.M.Summer.stays_caused; summer_asked = g.met.M.Summer.stays_asked; summer_gave = g.met.M.Summer.stays_given } in
    unless_on _ _ c.from_residual.result (λ went. g.met.S.NodeSource.stays_ready c.args.store.now c.edit_root.new.store went c.requires.ready) (ran_goes g.M.Unit.Item g.S.NodeSource g.M.Summer laws c.args.store.now c.edit_root.new.store c.args.summer.now c.edit_root.new.summer c.from_residual.result (returns-in_err-row-clause-ran g c))

pub returns-in_err-after-clause-kept : goal.returns-in_err-after-clause-kept
returns-in_err-after-clause-kept g c =
    let laws : Laws g.S.NodeSource g.M.Summer = record { store_steps = g.met.S.NodeSource.are_steps; store_keeps = g.met.S.NodeSource.keeps; store_caused = g.met.S.NodeSource.stays_caused; summer_steps = g.met.M.Summer.are_steps; summer_keeps = g.met.M.Summer.keeps; summer_caused = g.met.M.Summer.stays_caused; summer_asked = g.met.M.Summer.stays_asked; summer_gave = g.met.M.Summer.stays_given } in
    unless_on _ _ c.from_residual-in_err-after.result (λ went. g.met.S.NodeSource.keeps c.args.store.now c.raise.new.store went) (ran_goes g.M.Unit.Item g.S.NodeSource g.M.Summer laws c.args.store.now c.raise.new.store c.args.summer.now c.raise.new.summer c.from_residual-in_err-after.result (returns-in_err-after-clause-ran g c))

pub returns-in_err-after-clause-ready : goal.returns-in_err-after-clause-ready
returns-in_err-after-clause-ready g c =
    let laws : Laws g.S.NodeSource g.M.Summer = record { store_steps = g.met.S.NodeSource.are_steps; store_keeps = g.met.S.NodeSource.keeps; store_caused = g.met.S.NodeSource.stays_caused; summer_steps = g.met.M.Summer.are_steps; summer_keeps = g.met.M.Summer.keeps; summer_caused = g.met.M.Summer.stays_caused; summer_asked = g.met.M.Summer.stays_asked; summer_gave = g.met.M.Summer.stays_given } in
    unless_on _ _ c.from_residual-in_err-after.result (λ went. g.met.S.NodeSource.stays_ready c.args.store.now c.raise.new.store went c.requires.ready) (ran_goes g.M.Unit.Item g.S.NodeSource g.M.Summer laws c.args.store.now c.raise.new.store c.args.summer.now c.raise.new.summer c.from_residual-in_err-after.result (returns-in_err-after-clause-ran g c))

pub returns-then-is_empty-clause-most_puts : goal.returns-then-is_empty-clause-most_puts
returns-then-is_empty-clause-most_puts g c h high few = omega arith

pub returns-then-row-clause-most_puts : goal.returns-then-row-clause-most_puts
returns-then-row-clause-most_puts g c h high few =
    let some = some_by_test (length c.args.edits.now) c.is_empty.result c.is_empty.ensures c.if-is_empty.false in
    few_puts (c.args.tree.height - 1) h (length c.args.edits.now) c.args.steps.now c.edit_root.new.steps (entries c.in_ok-row.row.node) _ (length (g.S.NodeSource.puts c.args.store.now)) (length (g.S.NodeSource.puts c.edit_root.new.store)) some (omega (arith, high)) c.in_ok-row.ensures.steps c.in_ok-row.ensures.once

pub returns-in_err-row-clause-most_puts : goal.returns-in_err-row-clause-most_puts
returns-in_err-row-clause-most_puts g c h high few =
    let some = some_by_test (length c.args.edits.now) c.is_empty.result c.is_empty.ensures c.if-is_empty.false in
    let k = c.in_err-row.ensures.spent in
    (fault_bounds (c.args.tree.height - 1) h (length c.args.edits.now) c.args.steps.now c.edit_root.new.steps (length (g.S.NodeSource.puts c.args.store.now)) (length (g.S.NodeSource.puts c.edit_root.new.store)) some (omega (arith, high)) k.steps k.puts).1

pub returns-in_err-after-clause-most_puts : goal.returns-in_err-after-clause-most_puts
returns-in_err-after-clause-most_puts g c h high few =
    let some = some_by_test (length c.args.edits.now) c.is_empty.result c.is_empty.ensures c.if-is_empty.false in
    let row = c.in_ok-row.row in
    let r = c.in_ok-row.ensures in
    let less : item_count row.node < 8 ^ h = omega (arith, r.count, few) in
    let k = c.in_err-after.ensures.within h less in
    (top_bounds (c.args.tree.height - 1) h (length c.args.edits.now) row.level (entries row.node) c.args.steps.now c.edit_root.new.steps c.raise.new.steps (length (g.S.NodeSource.puts c.args.store.now)) (length (g.S.NodeSource.puts c.edit_root.new.store)) (length (g.S.NodeSource.puts c.raise.new.store)) some (omega (arith, high)) r.most r.steps r.once k.steps k.puts).1

pub returns-clause-most_puts : goal.returns-clause-most_puts
returns-clause-most_puts g c h high few =
    let some = some_by_test (length c.args.edits.now) c.is_empty.result c.is_empty.ensures c.if-is_empty.false in
    let row = c.in_ok-row.row in
    let r = c.in_ok-row.ensures in
    let less : item_count row.node < 8 ^ h = omega (arith, r.count, few) in
    let k = c.in_ok-after.ensures.within h less in
    (top_bounds (c.args.tree.height - 1) h (length c.args.edits.now) row.level (entries row.node) c.args.steps.now c.edit_root.new.steps c.raise.new.steps (length (g.S.NodeSource.puts c.args.store.now)) (length (g.S.NodeSource.puts c.edit_root.new.store)) (length (g.S.NodeSource.puts c.raise.new.store)) some (omega (arith, high)) r.most r.steps r.once k.steps k.puts).1

pub returns-then-is_empty-clause-most_steps : goal.returns-then-is_empty-clause-most_steps
returns-then-is_empty-clause-most_steps g c h high few = omega arith

pub returns-then-row-clause-most_steps : goal.returns-then-row-clause-most_steps
returns-then-row-clause-most_steps g c h high few =
    let some = some_by_test (length c.args.edits.now) c.is_empty.result c.is_empty.ensures c.if-is_empty.false in
    few_steps (c.args.tree.height - 1) h (length c.args.edits.now) c.args.steps.now c.edit_root.new.steps (entries c.in_ok-row.row.node) _ some (omega (arith, high)) c.in_ok-row.ensures.steps

pub returns-in_err-row-clause-most_steps : goal.returns-in_err-row-clause-most_steps
returns-in_err-row-clause-most_steps g c h high few =
    let some = some_by_test (length c.args.edits.now) c.is_empty.result c.is_empty.ensures c.if-is_empty.false in
    let k = c.in_err-row.ensures.spent in
    (fault_bounds (c.args.tree.height - 1) h (length c.args.edits.now) c.args.steps.now c.edit_root.new.steps (length (g.S.NodeSource.puts c.args.store.now)) (length (g.S.NodeSource.puts c.edit_root.new.store)) some (omega (arith, high)) k.steps k.puts).0

pub returns-in_err-after-clause-most_steps : goal.returns-in_err-after-clause-most_steps
returns-in_err-after-clause-most_steps g c h high few =
    let some = some_by_test (length c.args.edits.now) c.is_empty.result c.is_empty.ensures c.if-is_empty.false in
    let row = c.in_ok-row.row in
    let r = c.in_ok-row.ensures in
    let less : item_count row.node < 8 ^ h = omega (arith, r.count, few) in
    let k = c.in_err-after.ensures.within h less in
    (top_bounds (c.args.tree.height - 1) h (length c.args.edits.now) row.level (entries row.node) c.args.steps.now c.edit_root.new.steps c.raise.new.steps (length (g.S.NodeSource.puts c.args.store.now)) (length (g.S.NodeSource.puts c.edit_root.new.store)) (length (g.S.NodeSource.puts c.raise.new.store)) some (omega (arith, high)) r.most r.steps r.once k.steps k.puts).0

pub returns-clause-most_steps : goal.returns-clause-most_steps
returns-clause-most_steps g c h high few =
    let some = some_by_test (length c.args.edits.now) c.is_empty.result c.is_empty.ensures c.if-is_empty.false in
    let row = c.in_ok-row.row in
    let r = c.in_ok-row.ensures in
    let less : item_count row.node < 8 ^ h = omega (arith, r.count, few) in
    let k = c.in_ok-after.ensures.within h less in
    (top_bounds (c.args.tree.height - 1) h (length c.args.edits.now) row.level (entries row.node) c.args.steps.now c.edit_root.new.steps c.raise.new.steps (length (g.S.NodeSource.puts c.args.store.now)) (length (g.S.NodeSource.puts c.edit_root.new.store)) (length (g.S.NodeSource.puts c.raise.new.store)) some (omega (arith, high)) r.most r.steps r.once k.steps k.puts).0

pub returns-in_err-row-clause-pieces : goal.returns-in_err-row-clause-pieces
returns-in_err-row-clause-pieces g c first there items among told goes tree ai ae =
    let i = g.M.Unit.Item in
    let m = g.M.Summer in
    let s0 = c.args.store.now in
    let u0 = c.args.summer.now in
    let n0 = places (g.S.NodeSource.nodes s0) in
    let known : IsKnown i g.S.NodeSource m first u0 s0 = record { goes = goes; there = there; told = told } in
    let here : IsTree i m first n0 c.args.tree items = subst (λ p. IsTree i m first p c.args.tree items) (sym (ap places told)) tree in
    let p = err_from_is_err_and c.from_residual.result c.from_residual.ensures.1 in
    on_match c.from_residual.result _ _ _ p.0 p.2 p.1
    (c.in_err-row.ensures.pieces first items among known here.rises here.root ai ae)

pub returns-in_err-after-clause-pieces : goal.returns-in_err-after-clause-pieces
returns-in_err-after-clause-pieces g c first there items among told goes tree ai ae =
    let laws : Laws g.S.NodeSource g.M.Summer = record { store_steps = g.met.S.NodeSource.are_steps; store_keeps = g.met.S.NodeSource.keeps; store_caused = g.met.S.NodeSource.stays_caused; summer_steps = g.met.M.Summer.are_steps; summer_keeps = g.met.M.Summer.keeps; summer_caused = g.met.M.Summer.stays_caused; summer_asked = g.met.M.Summer.stays_asked; summer_gave = g.met.M.Summer.stays_given } in
    let i = g.M.Unit.Item in
    let m = g.M.Summer in
    let s0 = c.args.store.now in
    let s1 = c.edit_root.new.store in
    let s2 = c.raise.new.store in
    let u0 = c.args.summer.now in
    let u1 = c.edit_root.new.summer in
    let n0 = places (g.S.NodeSource.nodes s0) in
    let n1 = places (g.S.NodeSource.nodes s1) in
    let known : IsKnown i g.S.NodeSource m first u0 s0 = record { goes = goes; there = there; told = told } in
    let here : IsTree i m first n0 c.args.tree items = subst (λ p. IsTree i m first p c.args.tree items) (sym (ap places told)) tree in
    let edits = c.args.edits.now in
    let row = c.in_ok-row.ensures.items first items known here.rises here.root in
    let known1 = known_on i g.S.NodeSource m laws first s0 s1 u0 u1 known c.in_ok-row.ensures.ran in
    let one = c.in_ok-row.ensures.pieces first items among known here.rises here.root ai ae in
    let p = err_from_is_err_and c.from_residual-in_err-after.result c.from_residual-in_err-after.ensures.1 in
    on_match c.from_residual-in_err-after.result _ _ _ p.0 p.2 p.1
    (were_on i g.S.NodeSource m laws first among s0 s1 s2 u0 u1 c.raise.new.summer c.in_ok-row.ensures.ran one c.in_err-after.field-0.0 c.in_err-after.ensures.ran (c.in_err-after.ensures.pieces first (applied i.order edits items) among known1 row (applied_among i.order among edits items ae ai)))

pub returns-then-is_empty-clause-met : goal.returns-then-is_empty-clause-met
returns-then-is_empty-clause-met g c there told =
    let laws : Laws g.S.NodeSource g.M.Summer = record { store_steps = g.met.S.NodeSource.are_steps; store_keeps = g.met.S.NodeSource.keeps; store_caused = g.met.S.NodeSource.stays_caused; summer_steps = g.met.M.Summer.are_steps; summer_keeps = g.met.M.Summer.keeps; summer_caused = g.met.M.Summer.stays_caused; summer_asked = g.met.M.Summer.stays_asked; summer_gave = g.met.M.Summer.stays_given } in
    let i = g.M.Unit.Item in let s = g.S.NodeSource in let m = g.M.Summer in let s0 = c.args.store.now in let u0 = c.args.summer.now in
    let tree = c.args.tree in let pieces = s.puts s0 in
    took_none i s m laws u0 tree pieces s0 s0 refl

pub returns-then-row-clause-met : goal.returns-then-row-clause-met
returns-then-row-clause-met g c there told =
    let laws : Laws g.S.NodeSource g.M.Summer = record { store_steps = g.met.S.NodeSource.are_steps; store_keeps = g.met.S.NodeSource.keeps; store_caused = g.met.S.NodeSource.stays_caused; summer_steps = g.met.M.Summer.are_steps; summer_keeps = g.met.M.Summer.keeps; summer_caused = g.met.M.Summer.stays_caused; summer_asked = g.met.M.Summer.stays_asked; summer_gave = g.met.M.Summer.stays_given } in
    let i = g.M.Unit.Item in let s = g.S.NodeSource in let m = g.M.Summer in let s0 = c.args.store.now in let u0 = c.args.summer.now in
    let tree = c.args.tree in let pieces = s.puts s0 in
    let under = begins i s m laws s0 u0 there told in
    (c.in_ok-row.ensures.met u0 pieces under).0

pub returns-clause-met : goal.returns-clause-met
returns-clause-met g c there told =
    let laws : Laws g.S.NodeSource g.M.Summer = record { store_steps = g.met.S.NodeSource.are_steps; store_keeps = g.met.S.NodeSource.keeps; store_caused = g.met.S.NodeSource.stays_caused; summer_steps = g.met.M.Summer.are_steps; summer_keeps = g.met.M.Summer.keeps; summer_caused = g.met.M.Summer.stays_caused; summer_asked = g.met.M.Summer.stays_asked; summer_gave = g.met.M.Summer.stays_given } in
    let i = g.M.Unit.Item in let s = g.S.NodeSource in let m = g.M.Summer in let s0 = c.args.store.now in let u0 = c.args.summer.now in
    let tree = c.args.tree in let pieces = s.puts s0 in
    let under = begins i s m laws s0 u0 there told in
    let s1 = c.edit_root.new.store in let s2 = c.raise.new.store in let u1 = c.edit_root.new.summer in let u2 = c.raise.new.summer in
    taken_quiet i s m laws u0 tree pieces s1 s2 u1 u2 c.in_ok-after.ensures.ran (s.gets s0) c.in_ok-after.ensures.gets (c.in_ok-row.ensures.met u0 pieces under).0

pub returns-in_err-row-clause-met : goal.returns-in_err-row-clause-met
returns-in_err-row-clause-met g c there told =
    let laws : Laws g.S.NodeSource g.M.Summer = record { store_steps = g.met.S.NodeSource.are_steps; store_keeps = g.met.S.NodeSource.keeps; store_caused = g.met.S.NodeSource.stays_caused; summer_steps = g.met.M.Summer.are_steps; summer_keeps = g.met.M.Summer.keeps; summer_caused = g.met.M.Summer.stays_caused; summer_asked = g.met.M.Summer.stays_asked; summer_gave = g.met.M.Summer.stays_given } in
    let i = g.M.Unit.Item in let s = g.S.NodeSource in let m = g.M.Summer in let s0 = c.args.store.now in let u0 = c.args.summer.now in
    let tree = c.args.tree in let pieces = s.puts s0 in
    let under = begins i s m laws s0 u0 there told in
    let p = err_from_is_err_and c.from_residual.result c.from_residual.ensures.1 in
    (took_fault i s m laws u0 tree pieces c.from_residual.result (λ x. Unit {0}) s0 c.edit_root.new.store c.in_err-row.field-0.0 p.0 p.2 p.1 (c.in_err-row.ensures.met u0 pieces under).0).0

pub returns-in_err-after-clause-met : goal.returns-in_err-after-clause-met
returns-in_err-after-clause-met g c there told =
    let laws : Laws g.S.NodeSource g.M.Summer = record { store_steps = g.met.S.NodeSource.are_steps; store_keeps = g.met.S.NodeSource.keeps; store_caused = g.met.S.NodeSource.stays_caused; summer_steps = g.met.M.Summer.are_steps; summer_keeps = g.met.M.Summer.keeps; summer_caused = g.met.M.Summer.stays_caused; summer_asked = g.met.M.Summer.stays_asked; summer_gave = g.met.M.Summer.stays_given } in
    let i = g.M.Unit.Item in let s = g.S.NodeSource in let m = g.M.Summer in let s0 = c.args.store.now in let u0 = c.args.summer.now in
    let tree = c.args.tree in let pieces = s.puts s0 in
    let under = begins i s m laws s0 u0 there told in
    let s1 = c.edit_root.new.store in let s2 = c.raise.new.store in let u1 = c.edit_root.new.summer in let u2 = c.raise.new.summer in
    let p = err_from_is_err_and c.from_residual-in_err-after.result c.from_residual-in_err-after.ensures.1 in
    (took_quiet i s m laws u0 tree pieces c.from_residual-in_err-after.result (λ x. Unit {0}) s0 s1 s2 u0 u1 u2 c.in_ok-row.ensures.ran (c.in_ok-row.ensures.met u0 pieces under).0 c.in_err-after.field-0.0 p.0 p.2 p.1 c.in_err-after.ensures.ran c.in_err-after.ensures.gets c.in_err-after.ensures.sound).0

pub returns-then-is_empty-clause-bytes : goal.returns-then-is_empty-clause-bytes
returns-then-is_empty-clause-bytes g c first there items among longest h told goes tree ai ae all high few =
    let i = g.M.Unit.Item in let s = g.S.NodeSource in let m = g.M.Summer in let s0 = c.args.store.now in let u0 = c.args.summer.now in
    grown i m first (g.met.M.Summer.is_short first) longest among all s (places (s.nodes s0)) s0 s0 (Ok c.args.tree) _ (ran_growing i s m g.met.S.NodeSource.grows g.met.S.NodeSource.grew s0 s0 u0 u0 (Ok c.args.tree) (returns-then-is_empty-clause-ran g c))
    (returns-then-is_empty-clause-pieces g c first there items among told goes tree ai ae) (returns-then-is_empty-clause-most_puts g c h high few)

pub returns-then-row-clause-bytes : goal.returns-then-row-clause-bytes
returns-then-row-clause-bytes g c first there items among longest h told goes tree ai ae all high few =
    let i = g.M.Unit.Item in let s = g.S.NodeSource in let m = g.M.Summer in let s0 = c.args.store.now in let u0 = c.args.summer.now in
    grown i m first (g.met.M.Summer.is_short first) longest among all s (places (s.nodes c.edit_root.new.store)) s0 c.edit_root.new.store (Ok c.args.tree) _ (ran_growing i s m g.met.S.NodeSource.grows g.met.S.NodeSource.grew s0 c.edit_root.new.store u0 c.edit_root.new.summer (Ok c.args.tree) c.in_ok-row.ensures.ran)
    (returns-then-row-clause-pieces g c first there items among told goes tree ai ae) (returns-then-row-clause-most_puts g c h high few)

pub returns-clause-bytes : goal.returns-clause-bytes
returns-clause-bytes g c first there items among longest h told goes tree ai ae all high few =
    let i = g.M.Unit.Item in let s = g.S.NodeSource in let m = g.M.Summer in let s0 = c.args.store.now in let u0 = c.args.summer.now in
    grown i m first (g.met.M.Summer.is_short first) longest among all s (places (s.nodes c.raise.new.store)) s0 c.raise.new.store (Ok c.in_ok-after.after) _ (ran_growing i s m g.met.S.NodeSource.grows g.met.S.NodeSource.grew s0 c.raise.new.store u0 c.raise.new.summer (Ok c.in_ok-after.after) (returns-clause-ran g c))
    (returns-clause-pieces g c first there items among told goes tree ai ae) (returns-clause-most_puts g c h high few)

pub returns-in_err-row-clause-bytes : goal.returns-in_err-row-clause-bytes
returns-in_err-row-clause-bytes g c first there items among longest h told goes tree ai ae all high few =
    let i = g.M.Unit.Item in let s = g.S.NodeSource in let m = g.M.Summer in let s0 = c.args.store.now in let u0 = c.args.summer.now in
    grown i m first (g.met.M.Summer.is_short first) longest among all s (places (s.nodes c.edit_root.new.store)) s0 c.edit_root.new.store c.from_residual.result _ (ran_growing i s m g.met.S.NodeSource.grows g.met.S.NodeSource.grew s0 c.edit_root.new.store u0 c.edit_root.new.summer c.from_residual.result (returns-in_err-row-clause-ran g c))
    (returns-in_err-row-clause-pieces g c first there items among told goes tree ai ae) (returns-in_err-row-clause-most_puts g c h high few)

pub returns-in_err-after-clause-bytes : goal.returns-in_err-after-clause-bytes
returns-in_err-after-clause-bytes g c first there items among longest h told goes tree ai ae all high few =
    let i = g.M.Unit.Item in let s = g.S.NodeSource in let m = g.M.Summer in let s0 = c.args.store.now in let u0 = c.args.summer.now in
    grown i m first (g.met.M.Summer.is_short first) longest among all s (places (s.nodes c.raise.new.store)) s0 c.raise.new.store c.from_residual-in_err-after.result _ (ran_growing i s m g.met.S.NodeSource.grows g.met.S.NodeSource.grew s0 c.raise.new.store u0 c.raise.new.summer c.from_residual-in_err-after.result (returns-in_err-after-clause-ran g c))
    (returns-in_err-after-clause-pieces g c first there items among told goes tree ai ae) (returns-in_err-after-clause-most_puts g c h high few)

pub returns-then-is_empty-clause-done_bytes : goal.returns-then-is_empty-clause-done_bytes
returns-then-is_empty-clause-done_bytes g c first there items among longest told goes tree ai ae all =
    let i = g.M.Unit.Item in let s = g.S.NodeSource in let m = g.M.Summer in let s0 = c.args.store.now in let u0 = c.args.summer.now in
    let growing = ran_growing i s m g.met.S.NodeSource.grows g.met.S.NodeSource.grew s0 s0 u0 u0 (Ok c.args.tree) (returns-then-is_empty-clause-ran g c) in
    grown i m first (g.met.M.Summer.is_short first) longest among all s (places (s.nodes s0)) s0 s0 (Ok c.args.tree) _ growing
    (returns-then-is_empty-clause-pieces g c first there items among told goes tree ai ae) (omega arith)

pub returns-then-row-clause-done_bytes : goal.returns-then-row-clause-done_bytes
returns-then-row-clause-done_bytes g c first there items among longest told goes tree ai ae all =
    let i = g.M.Unit.Item in let s = g.S.NodeSource in let m = g.M.Summer in let s0 = c.args.store.now in let u0 = c.args.summer.now in
    let growing = ran_growing i s m g.met.S.NodeSource.grows g.met.S.NodeSource.grew s0 c.edit_root.new.store u0 c.edit_root.new.summer (Ok c.args.tree) (c.in_ok-row.ensures.ran) in
    grown i m first (g.met.M.Summer.is_short first) longest among all s (places (s.nodes c.edit_root.new.store)) s0 c.edit_root.new.store (Ok c.args.tree) _ growing
    (returns-then-row-clause-pieces g c first there items among told goes tree ai ae) (returns-then-row-clause-puts g c)

pub returns-clause-done_bytes : goal.returns-clause-done_bytes
returns-clause-done_bytes g c first there items among longest told goes tree ai ae all =
    let i = g.M.Unit.Item in let s = g.S.NodeSource in let m = g.M.Summer in let s0 = c.args.store.now in let u0 = c.args.summer.now in
    let growing = ran_growing i s m g.met.S.NodeSource.grows g.met.S.NodeSource.grew s0 c.raise.new.store u0 c.raise.new.summer (Ok c.in_ok-after.after) (returns-clause-ran g c) in
    grown i m first (g.met.M.Summer.is_short first) longest among all s (places (s.nodes c.raise.new.store)) s0 c.raise.new.store (Ok c.in_ok-after.after) _ growing
    (returns-clause-pieces g c first there items among told goes tree ai ae) (returns-clause-puts g c)

pub returns-then-is_empty-clause-sums : goal.returns-then-is_empty-clause-sums
returns-then-is_empty-clause-sums g c =
    let laws : Laws g.S.NodeSource g.M.Summer = record { store_steps = g.met.S.NodeSource.are_steps; store_keeps = g.met.S.NodeSource.keeps; store_caused = g.met.S.NodeSource.stays_caused; summer_steps = g.met.M.Summer.are_steps; summer_keeps = g.met.M.Summer.keeps; summer_caused = g.met.M.Summer.stays_caused; summer_asked = g.met.M.Summer.stays_asked; summer_gave = g.met.M.Summer.stays_given } in
    let i = g.M.Unit.Item in let s = g.S.NodeSource in let m = g.M.Summer in let s0 = c.args.store.now in let u0 = c.args.summer.now in
    known_none i s m u0 s0 u0 s0 s0 refl

pub returns-in_err-row-clause-sums : goal.returns-in_err-row-clause-sums
returns-in_err-row-clause-sums g c =
    let laws : Laws g.S.NodeSource g.M.Summer = record { store_steps = g.met.S.NodeSource.are_steps; store_keeps = g.met.S.NodeSource.keeps; store_caused = g.met.S.NodeSource.stays_caused; summer_steps = g.met.M.Summer.are_steps; summer_keeps = g.met.M.Summer.keeps; summer_caused = g.met.M.Summer.stays_caused; summer_asked = g.met.M.Summer.stays_asked; summer_gave = g.met.M.Summer.stays_given } in
    let i = g.M.Unit.Item in let s = g.S.NodeSource in let m = g.M.Summer in let s0 = c.args.store.now in let u0 = c.args.summer.now in
    let way = way_begins i s m laws u0 s0 in
    let p = err_from_is_err_and c.from_residual.result c.from_residual.ensures.1 in
    knew_err i s m u0 s0 _ _ _ c.from_residual.result c.in_err-row.field-0.0 p.0 p.2 p.1 (c.in_err-row.ensures.sums u0 s0 way)

pub returns-then-row-clause-sums : goal.returns-then-row-clause-sums
returns-then-row-clause-sums g c =
    let laws : Laws g.S.NodeSource g.M.Summer = record { store_steps = g.met.S.NodeSource.are_steps; store_keeps = g.met.S.NodeSource.keeps; store_caused = g.met.S.NodeSource.stays_caused; summer_steps = g.met.M.Summer.are_steps; summer_keeps = g.met.M.Summer.keeps; summer_caused = g.met.M.Summer.stays_caused; summer_asked = g.met.M.Summer.stays_asked; summer_gave = g.met.M.Summer.stays_given } in
    let i = g.M.Unit.Item in let s = g.S.NodeSource in let m = g.M.Summer in let s0 = c.args.store.now in let u0 = c.args.summer.now in
    let way = way_begins i s m laws u0 s0 in
    c.in_ok-row.ensures.sums u0 s0 way

pub returns-in_err-after-clause-sums : goal.returns-in_err-after-clause-sums
returns-in_err-after-clause-sums g c =
    let laws : Laws g.S.NodeSource g.M.Summer = record { store_steps = g.met.S.NodeSource.are_steps; store_keeps = g.met.S.NodeSource.keeps; store_caused = g.met.S.NodeSource.stays_caused; summer_steps = g.met.M.Summer.are_steps; summer_keeps = g.met.M.Summer.keeps; summer_caused = g.met.M.Summer.stays_caused; summer_asked = g.met.M.Summer.stays_asked; summer_gave = g.met.M.Summer.stays_given } in
    let i = g.M.Unit.Item in let s = g.S.NodeSource in let m = g.M.Summer in let s0 = c.args.store.now in let u0 = c.args.summer.now in
    let way = way_begins i s m laws u0 s0 in
    let s1 = c.edit_root.new.store in let s2 = c.raise.new.store in let u1 = c.edit_root.new.summer in let u2 = c.raise.new.summer in
    let k = c.in_ok-row.ensures in
    let one = k.sums u0 s0 way in
    let row = k.known u0 s0 way in
    let p = err_from_is_err_and c.from_residual-in_err-after.result c.from_residual-in_err-after.ensures.1 in
    knew_err i s m u0 s0 _ _ _ c.from_residual-in_err-after.result c.in_err-after.field-0.0 p.0 p.2 p.1 (known_fails i s m laws u0 s0 s0 s1 s2 u1 u2 c.in_err-after.field-0.0 c.in_err-after.ensures.ran one (c.in_err-after.ensures.sums u0 s0 k.ran.summer row))

pub returns-clause-sums : goal.returns-clause-sums
returns-clause-sums g c =
    let laws : Laws g.S.NodeSource g.M.Summer = record { store_steps = g.met.S.NodeSource.are_steps; store_keeps = g.met.S.NodeSource.keeps; store_caused = g.met.S.NodeSource.stays_caused; summer_steps = g.met.M.Summer.are_steps; summer_keeps = g.met.M.Summer.keeps; summer_caused = g.met.M.Summer.stays_caused; summer_asked = g.met.M.Summer.stays_asked; summer_gave = g.met.M.Summer.stays_given } in
    let i = g.M.Unit.Item in let s = g.S.NodeSource in let m = g.M.Summer in let s0 = c.args.store.now in let u0 = c.args.summer.now in
    let way = way_begins i s m laws u0 s0 in
    let s1 = c.edit_root.new.store in let s2 = c.raise.new.store in let u1 = c.edit_root.new.summer in let u2 = c.raise.new.summer in
    let k = c.in_ok-row.ensures in
    let one = k.sums u0 s0 way in
    let row = k.known u0 s0 way in
    known_goes i s m laws u0 s0 s0 s1 s2 u1 u2 c.in_ok-after.ensures.ran one (c.in_ok-after.ensures.sums u0 s0 k.ran.summer row)
