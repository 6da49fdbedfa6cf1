use Rattle.std.proofs.Common.{◌≡◌, zero, suc, ◌-◌, ◌≤◌, ◌<◌, ◌+◌, ◌*◌, [], length, refl, ap, sym, ◌∙◌, subst, arith}
use Rattle.tree_laws.specs.declared.node.Node.TheVariants.{Leaf}
use Rattle.tree_laws.specs.declared.tree.Fill.TheVariants.{Root, Below}
use Rattle.tree_laws.specs.Fitting.{AreLarge, item_count}
use Rattle.tree_laws.specs.Nodes.{entries}
use Rattle.tree_laws.specs.SummerTrees.{Has, HasRoot, IsAt}
use Rattle.tree_laws.proofs.SummerTrees.{has_stays}
use Rattle.reduce_tree.specs.Applied.{applied}
use Rattle.reduce_tree.specs.Charges.{slack}
use Rattle.reduce_tree.specs.Calls.{places}
use Rattle.std.proofs.lemmas.Result.{err_from_is_err_and}
use Rattle.reduce_tree.proofs.Calls.{Laws, ran_err, extends_on, fails_on, goes_on, known_on, on_err}
use Rattle.reduce_tree.proofs.Nodes.{has_once, level_small}
use Rattle.reduce_tree.proofs.Puts.{put_on}
use Rattle.reduce_tree.proofs.Sound.{sound_err}
use Rattle.reduce_tree.specs.Pieces.{ArePieces}
use Rattle.reduce_tree.proofs.Pieces.{were_none, were_on, on_match, pieces_none}
use Rattle.reduce_tree.proofs.Given.{root_leads, taken_on, took_fault, took_later, under_on}
use Rattle.reduce_tree.specs.Given.{AllGiven}
use Rattle.reduce_tree.specs.Sums.{KnowsNode, KnowsPieces, KnewPieces}
use Rattle.reduce_tree.proofs.Had.{way_on, knew_none, knew_err}
use Rattle.reduce_tree.proofs.root.edit_root.Goals as goal

pub edit_row-requires-clause-kind : goal.edit_row-requires-clause-kind
edit_row-requires-clause-kind g c = subst (λ n. Rattle.reduce_tree.specs.Rows.IsAtLevel 0 n) (sym c.empty-none.ensures.node) refl

pub edit_row-requires-clause-large : goal.edit_row-requires-clause-large
edit_row-requires-clause-large g c = subst (λ n. AreLarge 0 n) (sym c.empty-none.ensures.node) tt

pub edit_row-requires-clause-few : goal.edit_row-requires-clause-few
edit_row-requires-clause-few g c = omega (arith, ap item_count c.empty-none.ensures.node, c.requires.few)

pub edit_row-requires-2-clause-level : goal.edit_row-requires-2-clause-level
edit_row-requires-2-clause-level g c =
    let some : 0 < c.args.tree.height = omega (arith, c.if-tree-eq0.false) in
    let low = level_small (c.args.tree.height - 1) c.args.tree.count (c.requires.size.least some) c.requires.size.most in
    omega (arith, low)

pub returns-then-tree-eq0-clause-count : goal.returns-then-tree-eq0-clause-count
returns-then-tree-eq0-clause-count g c = omega (arith, ap item_count c.empty-none.ensures.node, c.in_ok-row.ensures.count)

pub returns-clause-count : goal.returns-clause-count
returns-clause-count g c = omega (arith, c.in_ok-root.ensures.fits.items, c.in_ok-row-2.ensures.count)

pub returns-then-tree-eq0-clause-items : goal.returns-then-tree-eq0-clause-items
returns-then-tree-eq0-clause-items g c first items known sorted root =
    let n0 = places (g.S.NodeSource.nodes c.args.store.now) in
    let z : c.args.tree.height ≡ zero = omega (arith, c.if-tree-eq0.true) in
    let e : items ≡ [] = subst (λ h. HasRoot g.M.Unit.Item g.M.Summer first n0 c.args.tree.root h items) z root in
    let has = subst (λ x. Has g.M.Unit.Item g.M.Summer first n0 zero x items) (sym c.empty-none.ensures.node) e in
    c.in_ok-row.ensures.items first items known sorted has

pub returns-then-tree-eq0-clause-same : goal.returns-then-tree-eq0-clause-same
returns-then-tree-eq0-clause-same g c first items known sorted root is_same =
    let n0 = places (g.S.NodeSource.nodes c.args.store.now) in
    let n1 = places (g.S.NodeSource.nodes c.edit_row.new.store) in
    let z : c.args.tree.height ≡ zero = omega (arith, c.if-tree-eq0.true) in
    let e : items ≡ [] = subst (λ h. HasRoot g.M.Unit.Item g.M.Summer first n0 c.args.tree.root h items) z root in
    let has = subst (λ x. Has g.M.Unit.Item g.M.Summer first n0 zero x items) (sym c.empty-none.ensures.node) e in
    let made = c.in_ok-row.ensures.items first items known sorted has in
    let all = applied g.M.Unit.Item.order c.args.edits.now items in
    let row = c.in_ok-row.row in
    let at0 : Has g.M.Unit.Item g.M.Summer first n1 zero row.node all = subst (λ l. Has g.M.Unit.Item g.M.Summer first n1 l row.node all) (c.in_ok-row.ensures.level is_same) made in
    let at1 : Has g.M.Unit.Item g.M.Summer first n1 zero (Leaf []) all = subst (λ n. Has g.M.Unit.Item g.M.Summer first n1 zero n all) (c.in_ok-row.ensures.node is_same ∙ c.empty-none.ensures.node) at0 in
    at1 ∙ sym e

pub returns-clause-items : goal.returns-clause-items
returns-clause-items g c first items known sorted root =
    let laws : Laws g.S.NodeSource g.M.Summer = record { store_steps = g.met.S.NodeSource.are_steps; store_keeps = g.met.S.NodeSource.keeps; store_caused = g.met.S.NodeSource.stays_caused; summer_steps = g.met.M.Summer.are_steps; summer_keeps = g.met.M.Summer.keeps; summer_caused = g.met.M.Summer.stays_caused; summer_asked = g.met.M.Summer.stays_asked; summer_gave = g.met.M.Summer.stays_given } in
    let s0 = c.args.store.now in
    let s1 = c.fetch.new.store in
    let u0 = c.args.summer.now in
    let a = c.in_ok-root.ensures.ran in
    let n0 = places (g.S.NodeSource.nodes s0) in
    let n1 = places (g.S.NodeSource.nodes s1) in
    let level = c.args.tree.height - 1 in
    let up : c.args.tree.height ≡ suc level = omega (arith, c.if-tree-eq0.false) in
    let st : IsAt g.M.Unit.Item g.M.Summer first n0 (Has g.M.Unit.Item g.M.Summer first n0 level) Root c.args.tree.root items = subst (λ h. HasRoot g.M.Unit.Item g.M.Summer first n0 c.args.tree.root h items) up root in
    let has = has_stays g.M.Unit.Item g.M.Summer first n0 n1 (extends_on g.M.Unit.Item g.S.NodeSource g.M.Summer laws s0 s1 u0 u0 a) level c.in_ok-root.root items (c.in_ok-root.ensures.got first items Root known st) in
    c.in_ok-row-2.ensures.items first items (known_on g.M.Unit.Item g.S.NodeSource g.M.Summer laws first s0 s1 u0 u0 known a) sorted has

pub returns-clause-same : goal.returns-clause-same
returns-clause-same g c first items known sorted root is_same =
    let laws : Laws g.S.NodeSource g.M.Summer = record { store_steps = g.met.S.NodeSource.are_steps; store_keeps = g.met.S.NodeSource.keeps; store_caused = g.met.S.NodeSource.stays_caused; summer_steps = g.met.M.Summer.are_steps; summer_keeps = g.met.M.Summer.keeps; summer_caused = g.met.M.Summer.stays_caused; summer_asked = g.met.M.Summer.stays_asked; summer_gave = g.met.M.Summer.stays_given } in
    let i = g.M.Unit.Item in
    let m = g.M.Summer in
    let s0 = c.args.store.now in
    let s1 = c.fetch.new.store in
    let s2 = c.edit_row-2.new.store in
    let u0 = c.args.summer.now in
    let u1 = c.edit_row-2.new.summer in
    let a = c.in_ok-root.ensures.ran in
    let n0 = places (g.S.NodeSource.nodes s0) in
    let n1 = places (g.S.NodeSource.nodes s1) in
    let n2 = places (g.S.NodeSource.nodes s2) in
    let level = c.args.tree.height - 1 in
    let up : c.args.tree.height ≡ suc level = omega (arith, c.if-tree-eq0.false) in
    let st : IsAt i m first n0 (Has i m first n0 level) Root c.args.tree.root items = subst (λ h. HasRoot i m first n0 c.args.tree.root h items) up root in
    let has = has_stays i m first n0 n1 (extends_on g.M.Unit.Item g.S.NodeSource g.M.Summer laws s0 s1 u0 u0 a) level c.in_ok-root.root items (c.in_ok-root.ensures.got first items Root known st) in
    let has2 = has_stays i m first n1 n2 (extends_on g.M.Unit.Item g.S.NodeSource g.M.Summer laws s1 s2 u0 u1 c.in_ok-row-2.ensures.ran) level c.in_ok-root.root items has in
    let made = c.in_ok-row-2.ensures.items first items (known_on g.M.Unit.Item g.S.NodeSource g.M.Summer laws first s0 s1 u0 u0 known a) sorted has in
    let all = applied i.order c.args.edits.now items in
    let row = c.in_ok-row-2.row in
    let at0 : Has i m first n2 level row.node all = subst (λ l. Has i m first n2 l row.node all) (c.in_ok-row-2.ensures.level is_same) made in
    let at1 : Has i m first n2 level c.in_ok-root.root all = subst (λ n. Has i m first n2 level n all) (c.in_ok-row-2.ensures.node is_same) at0 in
    has_once i m first n2 g.met.M.Unit.Item.one_spelling level c.in_ok-root.root all items at1 has2

pub returns-clause-ran : goal.returns-clause-ran
returns-clause-ran g c =
    let laws : Laws g.S.NodeSource g.M.Summer = record { store_steps = g.met.S.NodeSource.are_steps; store_keeps = g.met.S.NodeSource.keeps; store_caused = g.met.S.NodeSource.stays_caused; summer_steps = g.met.M.Summer.are_steps; summer_keeps = g.met.M.Summer.keeps; summer_caused = g.met.M.Summer.stays_caused; summer_asked = g.met.M.Summer.stays_asked; summer_gave = g.met.M.Summer.stays_given } in
    goes_on g.M.Unit.Item g.S.NodeSource g.M.Summer laws c.args.store.now c.fetch.new.store c.edit_row-2.new.store c.args.summer.now c.args.summer.now c.edit_row-2.new.summer c.in_ok-root.ensures.ran c.in_ok-row-2.ensures.ran

pub returns-in_err-row-2-clause-ran : goal.returns-in_err-row-2-clause-ran
returns-in_err-row-2-clause-ran g c =
    let laws : Laws g.S.NodeSource g.M.Summer = record { store_steps = g.met.S.NodeSource.are_steps; store_keeps = g.met.S.NodeSource.keeps; store_caused = g.met.S.NodeSource.stays_caused; summer_steps = g.met.M.Summer.are_steps; summer_keeps = g.met.M.Summer.keeps; summer_caused = g.met.M.Summer.stays_caused; summer_asked = g.met.M.Summer.stays_asked; summer_gave = g.met.M.Summer.stays_given } in
    let p = err_from_is_err_and c.from_residual-in_err-row-2.result c.from_residual-in_err-row-2.ensures.1 in
    ran_err g.M.Unit.Item g.S.NodeSource g.M.Summer laws _ _ _ _ c.from_residual-in_err-row-2.result c.in_err-row-2.field-0.0 p.0 p.2 p.1 (fails_on g.M.Unit.Item g.S.NodeSource g.M.Summer laws c.args.store.now c.fetch.new.store c.edit_row-2.new.store c.args.summer.now c.args.summer.now c.edit_row-2.new.summer c.in_ok-root.ensures.ran _ c.in_err-row-2.ensures.ran)

pub returns-then-tree-eq0-clause-steps : goal.returns-then-tree-eq0-clause-steps
returns-then-tree-eq0-clause-steps g c =
    let z : c.args.tree.height - 1 ≡ 0 = omega (arith, c.if-tree-eq0.true) in
    let n : entries c.empty-none.result.node ≡ 0 = ap entries c.empty-none.ensures.node in
    subst (λ l. 31 * c.edit_row.new.steps + (entries c.in_ok-row.row.node + 93 * slack l c.in_ok-row.row.level (entries c.in_ok-row.row.node)) ≤ 31 * c.args.steps.now + (63 + (length c.args.edits.now + 186 * (l * length c.args.edits.now)))) (sym z) (omega (arith, n, c.in_ok-row.ensures.steps))

pub returns-then-tree-eq0-clause-once : goal.returns-then-tree-eq0-clause-once
returns-then-tree-eq0-clause-once g c =
    let n : entries c.empty-none.result.node ≡ 0 = ap entries c.empty-none.ensures.node in
    omega (arith, n, c.in_ok-row.ensures.once)

pub returns-clause-steps : goal.returns-clause-steps
returns-clause-steps g c = omega (arith, c.in_ok-root.ensures.steps, c.in_ok-root.ensures.fits.filled.most, c.in_ok-row-2.ensures.steps)

pub returns-clause-once : goal.returns-clause-once
returns-clause-once g c = omega (arith, ap length c.in_ok-root.ensures.puts, c.in_ok-root.ensures.steps, c.in_ok-root.ensures.fits.filled.most, c.in_ok-row-2.ensures.once)

pub returns-clause-leaf : goal.returns-clause-leaf
returns-clause-leaf g c =
    let a = c.in_ok-root.ensures.size in
    put_on c.in_ok-row-2.ensures.leaf (omega (arith, a)) (omega arith) (λ u. u) (omega arith)

pub returns-clause-unput : goal.returns-clause-unput
returns-clause-unput g c e =
    let a = c.in_ok-root.ensures in
    let b = c.in_ok-row-2.ensures.unput e in
    record { puts = b.puts ∙ a.puts; size = b.size ∙ a.size }

pub returns-then-tree-eq0-clause-quiet : goal.returns-then-tree-eq0-clause-quiet
returns-then-tree-eq0-clause-quiet g c first items known root none =
    let n0 = places (g.S.NodeSource.nodes c.args.store.now) in
    let z : c.args.tree.height ≡ zero = omega (arith, c.if-tree-eq0.true) in
    let e : items ≡ [] = subst (λ h. HasRoot g.M.Unit.Item g.M.Summer first n0 c.args.tree.root h items) z root in
    let has = subst (λ x. Has g.M.Unit.Item g.M.Summer first n0 zero x items) (sym c.empty-none.ensures.node) e in
    c.in_ok-row.ensures.quiet first items known has none

pub returns-clause-quiet : goal.returns-clause-quiet
returns-clause-quiet g c first items known root none =
    let laws : Laws g.S.NodeSource g.M.Summer = record { store_steps = g.met.S.NodeSource.are_steps; store_keeps = g.met.S.NodeSource.keeps; store_caused = g.met.S.NodeSource.stays_caused; summer_steps = g.met.M.Summer.are_steps; summer_keeps = g.met.M.Summer.keeps; summer_caused = g.met.M.Summer.stays_caused; summer_asked = g.met.M.Summer.stays_asked; summer_gave = g.met.M.Summer.stays_given } in
    let s0 = c.args.store.now in
    let s1 = c.fetch.new.store in
    let u0 = c.args.summer.now in
    let a = c.in_ok-root.ensures.ran in
    let n0 = places (g.S.NodeSource.nodes s0) in
    let n1 = places (g.S.NodeSource.nodes s1) in
    let level = c.args.tree.height - 1 in
    let up : c.args.tree.height ≡ suc level = omega (arith, c.if-tree-eq0.false) in
    let st : IsAt g.M.Unit.Item g.M.Summer first n0 (Has g.M.Unit.Item g.M.Summer first n0 level) Root c.args.tree.root items = subst (λ h. HasRoot g.M.Unit.Item g.M.Summer first n0 c.args.tree.root h items) up root in
    let has = has_stays g.M.Unit.Item g.M.Summer first n0 n1 (extends_on g.M.Unit.Item g.S.NodeSource g.M.Summer laws s0 s1 u0 u0 a) level c.in_ok-root.root items (c.in_ok-root.ensures.got first items Root known st) in
    c.in_ok-row-2.ensures.quiet first items (known_on g.M.Unit.Item g.S.NodeSource g.M.Summer laws first s0 s1 u0 u0 known a) has none

pub returns-in_err-row-clause-sound : goal.returns-in_err-row-clause-sound
returns-in_err-row-clause-sound g c first items known sorted root count =
    let n0 = places (g.S.NodeSource.nodes c.args.store.now) in
    let z : c.args.tree.height ≡ zero = omega (arith, c.if-tree-eq0.true) in
    let e : items ≡ [] = subst (λ h. HasRoot g.M.Unit.Item g.M.Summer first n0 c.args.tree.root h items) z root in
    let has = subst (λ x. Has g.M.Unit.Item g.M.Summer first n0 zero x items) (sym c.empty-none.ensures.node) e in
    let p = err_from_is_err_and c.from_residual.result c.from_residual.ensures.1 in
    sound_err c.from_residual.result c.in_err-row.field-0.0 p.0 p.2 p.1 (c.in_err-row.ensures.items first items known sorted has)

pub returns-in_err-root-clause-sound : goal.returns-in_err-root-clause-sound
returns-in_err-root-clause-sound g c first items known sorted root count =
    let n0 = places (g.S.NodeSource.nodes c.args.store.now) in
    let level = c.args.tree.height - 1 in
    let up : c.args.tree.height ≡ suc level = omega (arith, c.if-tree-eq0.false) in
    let st : IsAt g.M.Unit.Item g.M.Summer first n0 (Has g.M.Unit.Item g.M.Summer first n0 level) Root c.args.tree.root items = subst (λ h. HasRoot g.M.Unit.Item g.M.Summer first n0 c.args.tree.root h items) up root in
    let p = err_from_is_err_and c.from_residual-in_err-root.result c.from_residual-in_err-root.ensures.1 in
    sound_err c.from_residual-in_err-root.result c.in_err-root.field-0.0 p.0 p.2 p.1 (c.in_err-root.ensures.sound first items known st count)

pub returns-in_err-row-2-clause-sound : goal.returns-in_err-row-2-clause-sound
returns-in_err-row-2-clause-sound g c first items known sorted root count =
    let laws : Laws g.S.NodeSource g.M.Summer = record { store_steps = g.met.S.NodeSource.are_steps; store_keeps = g.met.S.NodeSource.keeps; store_caused = g.met.S.NodeSource.stays_caused; summer_steps = g.met.M.Summer.are_steps; summer_keeps = g.met.M.Summer.keeps; summer_caused = g.met.M.Summer.stays_caused; summer_asked = g.met.M.Summer.stays_asked; summer_gave = g.met.M.Summer.stays_given } in
    let s0 = c.args.store.now in
    let s1 = c.fetch.new.store in
    let u0 = c.args.summer.now in
    let a = c.in_ok-root.ensures.ran in
    let n0 = places (g.S.NodeSource.nodes s0) in
    let n1 = places (g.S.NodeSource.nodes s1) in
    let level = c.args.tree.height - 1 in
    let up : c.args.tree.height ≡ suc level = omega (arith, c.if-tree-eq0.false) in
    let st : IsAt g.M.Unit.Item g.M.Summer first n0 (Has g.M.Unit.Item g.M.Summer first n0 level) Root c.args.tree.root items = subst (λ h. HasRoot g.M.Unit.Item g.M.Summer first n0 c.args.tree.root h items) up root in
    let has = has_stays g.M.Unit.Item g.M.Summer first n0 n1 (extends_on g.M.Unit.Item g.S.NodeSource g.M.Summer laws s0 s1 u0 u0 a) level c.in_ok-root.root items (c.in_ok-root.ensures.got first items Root known st) in
    let p = err_from_is_err_and c.from_residual-in_err-row-2.result c.from_residual-in_err-row-2.ensures.1 in
    sound_err c.from_residual-in_err-row-2.result c.in_err-row-2.field-0.0 p.0 p.2 p.1
    (c.in_err-row-2.ensures.items first items (known_on g.M.Unit.Item g.S.NodeSource g.M.Summer laws first s0 s1 u0 u0 known a) sorted has)

pub returns-then-tree-eq0-clause-pieces : goal.returns-then-tree-eq0-clause-pieces
returns-then-tree-eq0-clause-pieces g c first items among known sorted root ai ae =
    let n0 = places (g.S.NodeSource.nodes c.args.store.now) in
    let z : c.args.tree.height ≡ zero = omega (arith, c.if-tree-eq0.true) in
    let e : items ≡ [] = subst (λ h. HasRoot g.M.Unit.Item g.M.Summer first n0 c.args.tree.root h items) z root in
    let has = subst (λ x. Has g.M.Unit.Item g.M.Summer first n0 zero x items) (sym c.empty-none.ensures.node) e in
    c.in_ok-row.ensures.pieces first items among known sorted has ai ae

pub returns-clause-pieces : goal.returns-clause-pieces
returns-clause-pieces g c first items among known sorted root ai ae =
    let laws : Laws g.S.NodeSource g.M.Summer = record { store_steps = g.met.S.NodeSource.are_steps; store_keeps = g.met.S.NodeSource.keeps; store_caused = g.met.S.NodeSource.stays_caused; summer_steps = g.met.M.Summer.are_steps; summer_keeps = g.met.M.Summer.keeps; summer_caused = g.met.M.Summer.stays_caused; summer_asked = g.met.M.Summer.stays_asked; summer_gave = g.met.M.Summer.stays_given } in
    let i = g.M.Unit.Item in
    let m = g.M.Summer in
    let s0 = c.args.store.now in
    let s1 = c.fetch.new.store in
    let s2 = c.edit_row-2.new.store in
    let u0 = c.args.summer.now in
    let a = c.in_ok-root.ensures.ran in
    let n0 = places (g.S.NodeSource.nodes s0) in
    let n1 = places (g.S.NodeSource.nodes s1) in
    let n2 = places (g.S.NodeSource.nodes s2) in
    let level = c.args.tree.height - 1 in
    let up : c.args.tree.height ≡ suc level = omega (arith, c.if-tree-eq0.false) in
    let st : IsAt i m first n0 (Has i m first n0 level) Root c.args.tree.root items = subst (λ h. HasRoot i m first n0 c.args.tree.root h items) up root in
    let has = has_stays i m first n0 n1 (extends_on i g.S.NodeSource m laws s0 s1 u0 u0 a) level c.in_ok-root.root items (c.in_ok-root.ensures.got first items Root known st) in
    subst (λ p. ArePieces i m first among n2 Below p (g.S.NodeSource.puts s2)) c.in_ok-root.ensures.puts (c.in_ok-row-2.ensures.pieces first items among (known_on i g.S.NodeSource m laws first s0 s1 u0 u0 known a) sorted has ai ae)

pub returns-in_err-row-clause-spent : goal.returns-in_err-row-clause-spent
returns-in_err-row-clause-spent g c =
    let z : c.args.tree.height - 1 ≡ 0 = omega (arith, c.if-tree-eq0.true) in
    let n : entries c.empty-none.result.node ≡ 0 = ap entries c.empty-none.ensures.node in
    let k = c.in_err-row.ensures.spent in
    on_err c.from_residual.result _ (record {
      steps = subst (λ l. 31 * c.edit_row.new.steps ≤ 31 * c.args.steps.now + (63 + (length c.args.edits.now + 186 * (l * length c.args.edits.now)))) (sym z) (let a = k.steps in omega (arith, n, a));
      puts = let a = k.puts in omega (arith, n, a);
    })

pub returns-in_err-root-clause-spent : goal.returns-in_err-root-clause-spent
returns-in_err-root-clause-spent g c =
    let b = c.in_err-root.ensures in
    let same = ap length b.puts in
    on_err c.from_residual-in_err-root.result _ (record { steps = omega (arith, b.steps); puts = omega (arith, same, b.steps) })

pub returns-in_err-row-2-clause-spent : goal.returns-in_err-row-2-clause-spent
returns-in_err-row-2-clause-spent g c =
    let b = c.in_ok-root.ensures in
    let same = ap length b.puts in
    let most = b.fits.filled.most in
    let k = c.in_err-row-2.ensures.spent in
    on_err c.from_residual-in_err-row-2.result _ (record { steps = let s = k.steps in omega (arith, b.steps, most, s); puts = let s = k.puts in omega (arith, same, b.steps, most, s) })

pub returns-in_err-row-clause-pieces : goal.returns-in_err-row-clause-pieces
returns-in_err-row-clause-pieces g c first items among known sorted root ai ae =
    let n0 = places (g.S.NodeSource.nodes c.args.store.now) in
    let z : c.args.tree.height ≡ zero = omega (arith, c.if-tree-eq0.true) in
    let e : items ≡ [] = subst (λ h. HasRoot g.M.Unit.Item g.M.Summer first n0 c.args.tree.root h items) z root in
    let has = subst (λ x. Has g.M.Unit.Item g.M.Summer first n0 zero x items) (sym c.empty-none.ensures.node) e in
    let p = err_from_is_err_and c.from_residual.result c.from_residual.ensures.1 in
    on_match c.from_residual.result _ _ _ p.0 p.2 p.1
    (c.in_err-row.ensures.pieces first items among known sorted has ai ae)

pub returns-in_err-root-clause-pieces : goal.returns-in_err-root-clause-pieces
returns-in_err-root-clause-pieces g c first items among known sorted root ai ae =
    let laws : Laws g.S.NodeSource g.M.Summer = record { store_steps = g.met.S.NodeSource.are_steps; store_keeps = g.met.S.NodeSource.keeps; store_caused = g.met.S.NodeSource.stays_caused; summer_steps = g.met.M.Summer.are_steps; summer_keeps = g.met.M.Summer.keeps; summer_caused = g.met.M.Summer.stays_caused; summer_asked = g.met.M.Summer.stays_asked; summer_gave = g.met.M.Summer.stays_given } in
    let p = err_from_is_err_and c.from_residual-in_err-root.result c.from_residual-in_err-root.ensures.1 in
    on_match c.from_residual-in_err-root.result _ _ _ p.0 p.2 p.1 (were_none g.M.Unit.Item g.S.NodeSource g.M.Summer laws first among c.args.store.now c.fetch.new.store c.args.summer.now c.args.summer.now c.in_err-root.field-0.0 c.in_err-root.ensures.ran c.in_err-root.ensures.puts)

pub returns-in_err-row-2-clause-pieces : goal.returns-in_err-row-2-clause-pieces
returns-in_err-row-2-clause-pieces g c first items among known sorted root ai ae =
    let laws : Laws g.S.NodeSource g.M.Summer = record { store_steps = g.met.S.NodeSource.are_steps; store_keeps = g.met.S.NodeSource.keeps; store_caused = g.met.S.NodeSource.stays_caused; summer_steps = g.met.M.Summer.are_steps; summer_keeps = g.met.M.Summer.keeps; summer_caused = g.met.M.Summer.stays_caused; summer_asked = g.met.M.Summer.stays_asked; summer_gave = g.met.M.Summer.stays_given } in
    let i = g.M.Unit.Item in
    let m = g.M.Summer in
    let s0 = c.args.store.now in
    let s1 = c.fetch.new.store in
    let s2 = c.edit_row-2.new.store in
    let u0 = c.args.summer.now in
    let a = c.in_ok-root.ensures.ran in
    let n0 = places (g.S.NodeSource.nodes s0) in
    let n1 = places (g.S.NodeSource.nodes s1) in
    let level = c.args.tree.height - 1 in
    let up : c.args.tree.height ≡ suc level = omega (arith, c.if-tree-eq0.false) in
    let st : IsAt i m first n0 (Has i m first n0 level) Root c.args.tree.root items = subst (λ h. HasRoot i m first n0 c.args.tree.root h items) up root in
    let has = has_stays i m first n0 n1 (extends_on i g.S.NodeSource m laws s0 s1 u0 u0 a) level c.in_ok-root.root items (c.in_ok-root.ensures.got first items Root known st) in
    let known1 = known_on g.M.Unit.Item g.S.NodeSource g.M.Summer laws first s0 s1 u0 u0 known a in
    let p = err_from_is_err_and c.from_residual-in_err-row-2.result c.from_residual-in_err-row-2.ensures.1 in
    on_match c.from_residual-in_err-row-2.result _ _ _ p.0 p.2 p.1
    (were_on i g.S.NodeSource m laws first among s0 s1 s2 u0 u0 c.edit_row-2.new.summer a (pieces_none i m first among n1 Below (g.S.NodeSource.puts s0) (g.S.NodeSource.puts s1) c.in_ok-root.ensures.puts) c.in_err-row-2.field-0.0 c.in_err-row-2.ensures.ran (c.in_err-row-2.ensures.pieces first items among known1 sorted has ai ae))

pub returns-then-tree-eq0-clause-met : goal.returns-then-tree-eq0-clause-met
returns-then-tree-eq0-clause-met g c first pieces under =
    let laws : Laws g.S.NodeSource g.M.Summer = record { store_steps = g.met.S.NodeSource.are_steps; store_keeps = g.met.S.NodeSource.keeps; store_caused = g.met.S.NodeSource.stays_caused; summer_steps = g.met.M.Summer.are_steps; summer_keeps = g.met.M.Summer.keeps; summer_caused = g.met.M.Summer.stays_caused; summer_asked = g.met.M.Summer.stays_asked; summer_gave = g.met.M.Summer.stays_given } in
    let i = g.M.Unit.Item in let s = g.S.NodeSource in let m = g.M.Summer in let s0 = c.args.store.now in let u0 = c.args.summer.now in
    let tree = c.args.tree in
    let none = subst (λ n. AllGiven i s m first tree pieces s0 0 n) (sym c.empty-none.ensures.node) tt in
    c.in_ok-row.ensures.met first tree pieces under none

pub returns-in_err-row-clause-met : goal.returns-in_err-row-clause-met
returns-in_err-row-clause-met g c first pieces under =
    let laws : Laws g.S.NodeSource g.M.Summer = record { store_steps = g.met.S.NodeSource.are_steps; store_keeps = g.met.S.NodeSource.keeps; store_caused = g.met.S.NodeSource.stays_caused; summer_steps = g.met.M.Summer.are_steps; summer_keeps = g.met.M.Summer.keeps; summer_caused = g.met.M.Summer.stays_caused; summer_asked = g.met.M.Summer.stays_asked; summer_gave = g.met.M.Summer.stays_given } in
    let i = g.M.Unit.Item in let s = g.S.NodeSource in let m = g.M.Summer in let s0 = c.args.store.now in let u0 = c.args.summer.now in
    let tree = c.args.tree in
    let none = subst (λ n. AllGiven i s m first tree pieces s0 0 n) (sym c.empty-none.ensures.node) tt in
    let p = err_from_is_err_and c.from_residual.result c.from_residual.ensures.1 in
    took_fault i s m laws first tree pieces c.from_residual.result _ s0 c.edit_row.new.store c.in_err-row.field-0.0 p.0 p.2 p.1 (c.in_err-row.ensures.met first tree pieces under none).0

pub returns-in_err-root-clause-met : goal.returns-in_err-root-clause-met
returns-in_err-root-clause-met g c first pieces under =
    let laws : Laws g.S.NodeSource g.M.Summer = record { store_steps = g.met.S.NodeSource.are_steps; store_keeps = g.met.S.NodeSource.keeps; store_caused = g.met.S.NodeSource.stays_caused; summer_steps = g.met.M.Summer.are_steps; summer_keeps = g.met.M.Summer.keeps; summer_caused = g.met.M.Summer.stays_caused; summer_asked = g.met.M.Summer.stays_asked; summer_gave = g.met.M.Summer.stays_given } in
    let i = g.M.Unit.Item in let s = g.S.NodeSource in let m = g.M.Summer in let s0 = c.args.store.now in let u0 = c.args.summer.now in
    let tree = c.args.tree in let level = tree.height - 1 in let s1 = c.fetch.new.store in
    let leads = root_leads i s m laws first tree pieces s0 (omega (arith, c.if-tree-eq0.false)) in
    let p = err_from_is_err_and c.from_residual-in_err-root.result c.from_residual-in_err-root.ensures.1 in
    took_fault i s m laws first tree pieces c.from_residual-in_err-root.result _ s0 s1 c.in_err-root.field-0.0 p.0 p.2 p.1 (c.in_err-root.ensures.met first tree pieces under leads).0

pub returns-clause-met : goal.returns-clause-met
returns-clause-met g c first pieces under =
    let laws : Laws g.S.NodeSource g.M.Summer = record { store_steps = g.met.S.NodeSource.are_steps; store_keeps = g.met.S.NodeSource.keeps; store_caused = g.met.S.NodeSource.stays_caused; summer_steps = g.met.M.Summer.are_steps; summer_keeps = g.met.M.Summer.keeps; summer_caused = g.met.M.Summer.stays_caused; summer_asked = g.met.M.Summer.stays_asked; summer_gave = g.met.M.Summer.stays_given } in
    let i = g.M.Unit.Item in let s = g.S.NodeSource in let m = g.M.Summer in let s0 = c.args.store.now in let u0 = c.args.summer.now in
    let tree = c.args.tree in let level = tree.height - 1 in let s1 = c.fetch.new.store in
    let leads = root_leads i s m laws first tree pieces s0 (omega (arith, c.if-tree-eq0.false)) in
    let s2 = c.edit_row-2.new.store in let u1 = c.edit_row-2.new.summer in
    let got = c.in_ok-root.ensures.met first tree pieces under leads in
    let made = c.in_ok-row-2.ensures.met first tree pieces (under_on i s m laws first tree pieces s0 s1 u0 u0 under c.in_ok-root.ensures.ran) got.1 in
    (taken_on i s m laws first tree pieces s1 s2 u0 u1 c.in_ok-row-2.ensures.ran (s.gets s0) got.0 made.0, made.1)

pub returns-in_err-row-2-clause-met : goal.returns-in_err-row-2-clause-met
returns-in_err-row-2-clause-met g c first pieces under =
    let laws : Laws g.S.NodeSource g.M.Summer = record { store_steps = g.met.S.NodeSource.are_steps; store_keeps = g.met.S.NodeSource.keeps; store_caused = g.met.S.NodeSource.stays_caused; summer_steps = g.met.M.Summer.are_steps; summer_keeps = g.met.M.Summer.keeps; summer_caused = g.met.M.Summer.stays_caused; summer_asked = g.met.M.Summer.stays_asked; summer_gave = g.met.M.Summer.stays_given } in
    let i = g.M.Unit.Item in let s = g.S.NodeSource in let m = g.M.Summer in let s0 = c.args.store.now in let u0 = c.args.summer.now in
    let tree = c.args.tree in let level = tree.height - 1 in let s1 = c.fetch.new.store in
    let leads = root_leads i s m laws first tree pieces s0 (omega (arith, c.if-tree-eq0.false)) in
    let got = c.in_ok-root.ensures.met first tree pieces under leads in
    let p = err_from_is_err_and c.from_residual-in_err-row-2.result c.from_residual-in_err-row-2.ensures.1 in
    took_later i s m laws first tree pieces c.from_residual-in_err-row-2.result _ s0 s1 c.edit_row-2.new.store u0 u0 c.edit_row-2.new.summer c.in_ok-root.ensures.ran got.0 c.in_err-row-2.field-0.0 p.0 p.2 p.1 c.in_err-row-2.ensures.ran
    (c.in_err-row-2.ensures.met first tree pieces (under_on i s m laws first tree pieces s0 s1 u0 u0 under c.in_ok-root.ensures.ran) got.1).0

pub returns-in_err-row-clause-sums : goal.returns-in_err-row-clause-sums
returns-in_err-row-clause-sums g c first begun way =
    let laws : Laws g.S.NodeSource g.M.Summer = record { store_steps = g.met.S.NodeSource.are_steps; store_keeps = g.met.S.NodeSource.keeps; store_caused = g.met.S.NodeSource.stays_caused; summer_steps = g.met.M.Summer.are_steps; summer_keeps = g.met.M.Summer.keeps; summer_caused = g.met.M.Summer.stays_caused; summer_asked = g.met.M.Summer.stays_asked; summer_gave = g.met.M.Summer.stays_given } in
    let i = g.M.Unit.Item in let s = g.S.NodeSource in let m = g.M.Summer in let s0 = c.args.store.now in let u0 = c.args.summer.now in
    let none = subst (KnowsNode i s m first begun u0 s0) (sym c.empty-none.ensures.node) tt in
    let p = err_from_is_err_and c.from_residual.result c.from_residual.ensures.1 in
    knew_err i s m first begun _ _ _ c.from_residual.result c.in_err-row.field-0.0 p.0 p.2 p.1 (c.in_err-row.ensures.sums first begun way none)

pub returns-then-tree-eq0-clause-sums : goal.returns-then-tree-eq0-clause-sums
returns-then-tree-eq0-clause-sums g c first begun way =
    let laws : Laws g.S.NodeSource g.M.Summer = record { store_steps = g.met.S.NodeSource.are_steps; store_keeps = g.met.S.NodeSource.keeps; store_caused = g.met.S.NodeSource.stays_caused; summer_steps = g.met.M.Summer.are_steps; summer_keeps = g.met.M.Summer.keeps; summer_caused = g.met.M.Summer.stays_caused; summer_asked = g.met.M.Summer.stays_asked; summer_gave = g.met.M.Summer.stays_given } in
    let i = g.M.Unit.Item in let s = g.S.NodeSource in let m = g.M.Summer in let s0 = c.args.store.now in let u0 = c.args.summer.now in
    let none = subst (KnowsNode i s m first begun u0 s0) (sym c.empty-none.ensures.node) tt in
    c.in_ok-row.ensures.sums first begun way none

pub returns-in_err-root-clause-sums : goal.returns-in_err-root-clause-sums
returns-in_err-root-clause-sums g c first begun way =
    let laws : Laws g.S.NodeSource g.M.Summer = record { store_steps = g.met.S.NodeSource.are_steps; store_keeps = g.met.S.NodeSource.keeps; store_caused = g.met.S.NodeSource.stays_caused; summer_steps = g.met.M.Summer.are_steps; summer_keeps = g.met.M.Summer.keeps; summer_caused = g.met.M.Summer.stays_caused; summer_asked = g.met.M.Summer.stays_asked; summer_gave = g.met.M.Summer.stays_given } in
    let i = g.M.Unit.Item in let s = g.S.NodeSource in let m = g.M.Summer in let s0 = c.args.store.now in let u0 = c.args.summer.now in
    let p = err_from_is_err_and c.from_residual-in_err-root.result c.from_residual-in_err-root.ensures.1 in
    knew_err i s m first begun _ _ _ c.from_residual-in_err-root.result c.in_err-root.field-0.0 p.0 p.2 p.1 (knew_none i s m first begun u0 s0 c.fetch.new.store c.in_err-root.field-0.0 c.in_err-root.ensures.puts)

pub returns-in_err-row-2-clause-sums : goal.returns-in_err-row-2-clause-sums
returns-in_err-row-2-clause-sums g c first begun way =
    let laws : Laws g.S.NodeSource g.M.Summer = record { store_steps = g.met.S.NodeSource.are_steps; store_keeps = g.met.S.NodeSource.keeps; store_caused = g.met.S.NodeSource.stays_caused; summer_steps = g.met.M.Summer.are_steps; summer_keeps = g.met.M.Summer.keeps; summer_caused = g.met.M.Summer.stays_caused; summer_asked = g.met.M.Summer.stays_asked; summer_gave = g.met.M.Summer.stays_given } in
    let i = g.M.Unit.Item in let s = g.S.NodeSource in let m = g.M.Summer in let s0 = c.args.store.now in let u0 = c.args.summer.now in
    let s1 = c.fetch.new.store in
    let way1 = way_on i s m laws first begun s0 s1 u0 u0 c.in_ok-root.ensures.ran way in
    let root = c.in_ok-root.ensures.known first begun way in
    let p = err_from_is_err_and c.from_residual-in_err-row-2.result c.from_residual-in_err-row-2.ensures.1 in
    knew_err i s m first begun _ _ _ c.from_residual-in_err-row-2.result c.in_err-row-2.field-0.0 p.0 p.2 p.1 (subst (λ p. KnewPieces i s m first begun c.edit_row-2.new.summer c.edit_row-2.new.store p c.in_err-row-2.field-0.0) c.in_ok-root.ensures.puts (c.in_err-row-2.ensures.sums first begun way1 root))

pub returns-clause-sums : goal.returns-clause-sums
returns-clause-sums g c first begun way =
    let laws : Laws g.S.NodeSource g.M.Summer = record { store_steps = g.met.S.NodeSource.are_steps; store_keeps = g.met.S.NodeSource.keeps; store_caused = g.met.S.NodeSource.stays_caused; summer_steps = g.met.M.Summer.are_steps; summer_keeps = g.met.M.Summer.keeps; summer_caused = g.met.M.Summer.stays_caused; summer_asked = g.met.M.Summer.stays_asked; summer_gave = g.met.M.Summer.stays_given } in
    let i = g.M.Unit.Item in let s = g.S.NodeSource in let m = g.M.Summer in let s0 = c.args.store.now in let u0 = c.args.summer.now in
    let s1 = c.fetch.new.store in
    let way1 = way_on i s m laws first begun s0 s1 u0 u0 c.in_ok-root.ensures.ran way in
    let root = c.in_ok-root.ensures.known first begun way in
    subst (λ p. KnowsPieces i s m first begun c.edit_row-2.new.summer c.edit_row-2.new.store p) c.in_ok-root.ensures.puts (c.in_ok-row-2.ensures.sums first begun way1 root)

pub returns-then-tree-eq0-clause-known : goal.returns-then-tree-eq0-clause-known
returns-then-tree-eq0-clause-known g c first begun way =
    let laws : Laws g.S.NodeSource g.M.Summer = record { store_steps = g.met.S.NodeSource.are_steps; store_keeps = g.met.S.NodeSource.keeps; store_caused = g.met.S.NodeSource.stays_caused; summer_steps = g.met.M.Summer.are_steps; summer_keeps = g.met.M.Summer.keeps; summer_caused = g.met.M.Summer.stays_caused; summer_asked = g.met.M.Summer.stays_asked; summer_gave = g.met.M.Summer.stays_given } in
    let i = g.M.Unit.Item in let s = g.S.NodeSource in let m = g.M.Summer in let s0 = c.args.store.now in let u0 = c.args.summer.now in
    let none = subst (KnowsNode i s m first begun u0 s0) (sym c.empty-none.ensures.node) tt in
    c.in_ok-row.ensures.known first begun way none

pub returns-clause-known : goal.returns-clause-known
returns-clause-known g c first begun way =
    let laws : Laws g.S.NodeSource g.M.Summer = record { store_steps = g.met.S.NodeSource.are_steps; store_keeps = g.met.S.NodeSource.keeps; store_caused = g.met.S.NodeSource.stays_caused; summer_steps = g.met.M.Summer.are_steps; summer_keeps = g.met.M.Summer.keeps; summer_caused = g.met.M.Summer.stays_caused; summer_asked = g.met.M.Summer.stays_asked; summer_gave = g.met.M.Summer.stays_given } in
    let i = g.M.Unit.Item in let s = g.S.NodeSource in let m = g.M.Summer in let s0 = c.args.store.now in let u0 = c.args.summer.now in
    let s1 = c.fetch.new.store in
    let way1 = way_on i s m laws first begun s0 s1 u0 u0 c.in_ok-root.ensures.ran way in
    let root = c.in_ok-root.ensures.known first begun way in
    c.in_ok-row-2.ensures.known first begun way1 root
