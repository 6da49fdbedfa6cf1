use Rattle.std.proofs.Common.{rules, ◌≡◌, ◌+◌, ◌<◌, ◌≤◌, ◌^◌, ◌∙◌, ap, sym, subst, length, arith, refl}
use Rattle.tree_laws.specs.declared.node.Node.TheVariants.{Inner}
use Rattle.tree_laws.specs.Fitting.{AreLarge, item_count}
use Rattle.tree_laws.specs.Nodes.{entries}
use Rattle.tree_laws.specs.SummerTrees.{Has}
use Rattle.reduce_tree.specs.Calls.{places}
use Rattle.std.proofs.lemmas.Result.{err_from_is_err_and}
use Rattle.reduce_tree.proofs.Calls.{Laws, ran_err, fails_on, goes_on, known_on, extends_on}
use Rattle.reduce_tree.proofs.Nodes.{above_at_level, has_children, level_small, many_items, level_below}
use Rattle.reduce_tree.proofs.Puts.{put_two}
use Rattle.reduce_tree.proofs.Pieces.{pieces_none, pieces_on, were_on, on_match}
use Rattle.tree_laws.specs.declared.tree.Fill.TheVariants.{Below}
use Rattle.reduce_tree.proofs.Charge.{slack_some}
use Rattle.reduce_tree.specs.Sums.{IsSumRead, KnowsRow}
use Rattle.reduce_tree.proofs.Had.{had_given, known_goes, known_fails, knew_err}
use Rattle.reduce_tree.proofs.root.+raise.Goals as goal

pub raise-requires : goal.raise-requires
raise-requires g t c =
    let large = subst (λ ds. AreLarge (c.args.level + 1) (Inner ds)) (sym c.from_vec.ensures) (c.in_ok-children.ensures.large c.args.level c.requires.kind c.requires.large) in
    let one : 1 ≤ length c.from_vec.result = omega (arith, ap length c.from_vec.ensures, c.in_ok-children.ensures.some) in
    let many = many_items (c.args.level + 1) 1 (Inner c.from_vec.result) (above_at_level c.args.level c.from_vec.result) large one in
    let count : item_count (Inner c.from_vec.result) ≡ item_count c.args.node = ap (λ ds. item_count (Inner ds)) c.from_vec.ensures ∙ c.in_ok-children.ensures.count in
    let least : 8 ^ (c.args.level + 1) ≤ item_count c.args.node = omega (arith, many, count) in
    let low = level_small (c.args.level + 1) (item_count c.args.node) least c.requires.few in
    let less : length c.from_vec.result < entries c.args.node = omega (arith, ap length c.from_vec.ensures, c.in_ok-children.ensures.packed, c.len.ensures, c.if-len-le32.false) in
    let kind = above_at_level c.args.level c.from_vec.result in
    let few : item_count (Inner c.from_vec.result) ≤ 2 ^ 40 = omega (arith, count, c.requires.few) in
    let level : c.args.level + 1 < 2 ^ 31 = omega (arith, low) in
    search (rules, arith, less, kind, level, large, few)

pub returns-clause-root : goal.returns-clause-root
returns-clause-root g t c first items known has =
    let laws : Laws g.S.NodeSource g.M.Summer = record { store_steps = g.met.S.NodeSource.are_steps; store_keeps = g.met.S.NodeSource.keeps; store_caused = g.met.S.NodeSource.stays_caused; summer_steps = g.met.M.Summer.are_steps; summer_keeps = g.met.M.Summer.keeps; summer_caused = g.met.M.Summer.stays_caused; summer_asked = g.met.M.Summer.stays_asked; summer_gave = g.met.M.Summer.stays_given } in
    let s0 = c.args.store.now in
    let s1 = c.place_row.new.store in
    let u0 = c.args.summer.now in
    let u1 = c.place_row.new.summer in
    let n1 = places (g.S.NodeSource.nodes s1) in
    let cs = c.in_ok-children.ensures.children first c.args.level items known has in
    let at_cs = subst (λ ds. Has g.M.Unit.Item g.M.Summer first n1 (c.args.level + 1) (Inner ds) items) (sym c.from_vec.ensures) (has_children g.M.Unit.Item g.M.Summer first n1 c.args.level c.in_ok-children.children.items items cs) in
    c.in_ok-tree-2.ensures.root first items (known_on g.M.Unit.Item g.S.NodeSource g.M.Summer laws first s0 s1 u0 u1 known c.in_ok-children.ensures.ran) at_cs

pub returns-clause-count : goal.returns-clause-count
returns-clause-count g t c = omega (arith, c.in_ok-tree-2.ensures.count, ap (λ ds. item_count (Inner ds)) c.from_vec.ensures, c.in_ok-children.ensures.count)

pub returns-clause-ran : goal.returns-clause-ran
returns-clause-ran g t c =
    let laws : Laws g.S.NodeSource g.M.Summer = record { store_steps = g.met.S.NodeSource.are_steps; store_keeps = g.met.S.NodeSource.keeps; store_caused = g.met.S.NodeSource.stays_caused; summer_steps = g.met.M.Summer.are_steps; summer_keeps = g.met.M.Summer.keeps; summer_caused = g.met.M.Summer.stays_caused; summer_asked = g.met.M.Summer.stays_asked; summer_gave = g.met.M.Summer.stays_given } in
    goes_on g.M.Unit.Item g.S.NodeSource g.M.Summer laws c.args.store.now c.place_row.new.store c.raise.new.store c.args.summer.now c.place_row.new.summer c.raise.new.summer c.in_ok-children.ensures.ran c.in_ok-tree-2.ensures.ran

pub returns-in_err-tree-2-clause-ran : goal.returns-in_err-tree-2-clause-ran
returns-in_err-tree-2-clause-ran g t c =
    let laws : Laws g.S.NodeSource g.M.Summer = record { store_steps = g.met.S.NodeSource.are_steps; store_keeps = g.met.S.NodeSource.keeps; store_caused = g.met.S.NodeSource.stays_caused; summer_steps = g.met.M.Summer.are_steps; summer_keeps = g.met.M.Summer.keeps; summer_caused = g.met.M.Summer.stays_caused; summer_asked = g.met.M.Summer.stays_asked; summer_gave = g.met.M.Summer.stays_given } in
    let p = err_from_is_err_and c.from_residual-in_err-tree-2.result c.from_residual-in_err-tree-2.ensures.1 in
    ran_err g.M.Unit.Item g.S.NodeSource g.M.Summer laws _ _ _ _ c.from_residual-in_err-tree-2.result c.in_err-tree-2.field-0.0 p.0 p.2 p.1 (fails_on g.M.Unit.Item g.S.NodeSource g.M.Summer laws c.args.store.now c.place_row.new.store c.raise.new.store c.args.summer.now c.place_row.new.summer c.raise.new.summer c.in_ok-children.ensures.ran _ c.in_err-tree-2.ensures.ran)

pub returns-clause-low : goal.returns-clause-low
returns-clause-low g t c some =
    let low = c.in_ok-tree-2.ensures.low (omega (arith, ap length c.from_vec.ensures, c.in_ok-children.ensures.some)) in
    omega (arith, low)

pub returns-clause-steps : goal.returns-clause-steps
returns-clause-steps g t c =
    let low = c.in_ok-tree-2.ensures.low (omega (arith, ap length c.from_vec.ensures, c.in_ok-children.ensures.some)) in
    omega (arith, low, ap length c.from_vec.ensures, c.in_ok-tree-2.ensures.steps, c.in_ok-children.ensures.steps, c.in_ok-children.ensures.packed)

pub returns-clause-once : goal.returns-clause-once
returns-clause-once g t c =
    let low = c.in_ok-tree-2.ensures.low (omega (arith, ap length c.from_vec.ensures, c.in_ok-children.ensures.some)) in
    omega (arith, low, ap length c.from_vec.ensures, c.in_ok-tree-2.ensures.once, c.in_ok-children.ensures.steps, c.in_ok-children.ensures.puts, c.in_ok-children.ensures.packed)

pub returns-clause-leaf : goal.returns-clause-leaf
returns-clause-leaf g t c =
    put_two c.in_ok-children.ensures.leaf c.in_ok-tree-2.ensures.leaf (omega arith) (omega arith) (omega arith) (λ u. u)
    (λ u. g.met.M.Summer.keeps.usable c.args.summer.now c.place_row.new.summer c.in_ok-children.ensures.ran.summer u) (omega arith)

pub returns-then-len-le32-clause-pieces : goal.returns-then-len-le32-clause-pieces
returns-then-len-le32-clause-pieces g t c first items among known has all = record {
  mid = g.S.NodeSource.puts c.args.store.now;
  below = pieces_none g.M.Unit.Item g.M.Summer first among (places (g.S.NodeSource.nodes c.put_root.new.store)) Below (g.S.NodeSource.puts c.args.store.now) (g.S.NodeSource.puts c.args.store.now) refl;
  root = c.in_ok-tree.ensures.pieces first items among known has all;
  one = c.in_ok-tree.ensures.one;
}

pub returns-clause-pieces : goal.returns-clause-pieces
returns-clause-pieces g t c first items among known has all =
    let laws : Laws g.S.NodeSource g.M.Summer = record { store_steps = g.met.S.NodeSource.are_steps; store_keeps = g.met.S.NodeSource.keeps; store_caused = g.met.S.NodeSource.stays_caused; summer_steps = g.met.M.Summer.are_steps; summer_keeps = g.met.M.Summer.keeps; summer_caused = g.met.M.Summer.stays_caused; summer_asked = g.met.M.Summer.stays_asked; summer_gave = g.met.M.Summer.stays_given } in
    let i = g.M.Unit.Item in
    let m = g.M.Summer in
    let s0 = c.args.store.now in
    let s1 = c.place_row.new.store in
    let s2 = c.raise.new.store in
    let u0 = c.args.summer.now in
    let u1 = c.place_row.new.summer in
    let n1 = places (g.S.NodeSource.nodes s1) in
    let n2 = places (g.S.NodeSource.nodes s2) in
    let cs = c.in_ok-children.ensures.children first c.args.level items known has in
    let at_cs = subst (λ ds. Has i m first n1 (c.args.level + 1) (Inner ds) items) (sym c.from_vec.ensures) (has_children i m first n1 c.args.level c.in_ok-children.children.items items cs) in
    let one = c.in_ok-children.ensures.pieces first c.args.level items among known has all in
    let two = c.in_ok-tree-2.ensures.pieces first items among (known_on i g.S.NodeSource m laws first s0 s1 u0 u1 known c.in_ok-children.ensures.ran) at_cs all in
    let e12 = extends_on i g.S.NodeSource m laws s1 s2 u1 c.raise.new.summer c.in_ok-tree-2.ensures.ran in
    record { mid = two.mid; below = pieces_on i m first among n1 n2 e12 Below (g.S.NodeSource.puts s0) (g.S.NodeSource.puts s1) two.mid one two.below; root = two.root; one = two.one }

pub returns-then-len-le32-clause-within : goal.returns-then-len-le32-clause-within
returns-then-len-le32-clause-within g t c top few = c.in_ok-tree.ensures.within top few

pub returns-in_err-tree-clause-within : goal.returns-in_err-tree-clause-within
returns-in_err-tree-clause-within g t c top few = c.in_err-tree.ensures.within top few

pub returns-in_err-children-clause-within : goal.returns-in_err-children-clause-within
returns-in_err-children-clause-within g t c top few =
    let more : 0 < entries c.args.node = omega (arith, c.len.ensures, c.if-len-le32.false) in
    let z = slack_some top c.args.level (entries c.args.node) more in
    let low = level_below c.args.level top c.args.node c.requires.kind c.requires.large more few in
    let k = c.in_err-children.ensures.spent in
    record { steps = let a = k.steps in omega (arith, z, low, a); puts = let a = k.puts in omega (arith, z, low, a) }

pub returns-clause-within : goal.returns-clause-within
returns-clause-within g t c top few =
    let more : 0 < entries c.args.node = omega (arith, c.len.ensures, c.if-len-le32.false) in
    let z = slack_some top c.args.level (entries c.args.node) more in
    let low = level_below c.args.level top c.args.node c.requires.kind c.requires.large more few in
    let n = ap length c.from_vec.ensures in
    let k = c.in_ok-children.ensures in
    let same : item_count (Inner c.from_vec.result) ≡ item_count c.args.node = ap (λ ds. item_count (Inner ds)) c.from_vec.ensures ∙ k.count in
    let some : 0 < length c.from_vec.result = omega (arith, n, k.some) in
    let s = slack_some top (c.args.level + 1) (length c.from_vec.result) some in
    let w = c.in_ok-tree-2.ensures.within top (subst (λ x. x < 8 ^ top) (sym same) few) in
    record { steps = let a = w.steps in omega (arith, z, low, n, s, k.steps, k.packed, a); puts = let a = w.puts in omega (arith, z, low, n, s, k.steps, k.puts, k.packed, a) }

pub returns-in_err-tree-2-clause-within : goal.returns-in_err-tree-2-clause-within
returns-in_err-tree-2-clause-within g t c top few =
    let more : 0 < entries c.args.node = omega (arith, c.len.ensures, c.if-len-le32.false) in
    let z = slack_some top c.args.level (entries c.args.node) more in
    let low = level_below c.args.level top c.args.node c.requires.kind c.requires.large more few in
    let n = ap length c.from_vec.ensures in
    let k = c.in_ok-children.ensures in
    let same : item_count (Inner c.from_vec.result) ≡ item_count c.args.node = ap (λ ds. item_count (Inner ds)) c.from_vec.ensures ∙ k.count in
    let some : 0 < length c.from_vec.result = omega (arith, n, k.some) in
    let s = slack_some top (c.args.level + 1) (length c.from_vec.result) some in
    let w = c.in_err-tree-2.ensures.within top (subst (λ x. x < 8 ^ top) (sym same) few) in
    record { steps = let a = w.steps in omega (arith, z, low, n, s, k.steps, k.packed, a); puts = let a = w.puts in omega (arith, z, low, n, s, k.steps, k.puts, k.packed, a) }

pub returns-in_err-tree-clause-pieces : goal.returns-in_err-tree-clause-pieces
returns-in_err-tree-clause-pieces g t c first items among known has all =
    let p = err_from_is_err_and c.from_residual.result c.from_residual.ensures.1 in
    on_match c.from_residual.result _ _ _ p.0 p.2 p.1 (c.in_err-tree.ensures.pieces first items among known has all)

pub returns-in_err-children-clause-pieces : goal.returns-in_err-children-clause-pieces
returns-in_err-children-clause-pieces g t c first items among known has all =
    let p = err_from_is_err_and c.from_residual-in_err-children.result c.from_residual-in_err-children.ensures.1 in
    on_match c.from_residual-in_err-children.result _ _ _ p.0 p.2 p.1 (c.in_err-children.ensures.pieces first c.args.level items among known has all)

pub returns-in_err-tree-2-clause-pieces : goal.returns-in_err-tree-2-clause-pieces
returns-in_err-tree-2-clause-pieces g t c first items among known has all =
    let laws : Laws g.S.NodeSource g.M.Summer = record { store_steps = g.met.S.NodeSource.are_steps; store_keeps = g.met.S.NodeSource.keeps; store_caused = g.met.S.NodeSource.stays_caused; summer_steps = g.met.M.Summer.are_steps; summer_keeps = g.met.M.Summer.keeps; summer_caused = g.met.M.Summer.stays_caused; summer_asked = g.met.M.Summer.stays_asked; summer_gave = g.met.M.Summer.stays_given } in
    let i = g.M.Unit.Item in
    let m = g.M.Summer in
    let s0 = c.args.store.now in
    let s1 = c.place_row.new.store in
    let s2 = c.raise.new.store in
    let u0 = c.args.summer.now in
    let u1 = c.place_row.new.summer in
    let n1 = places (g.S.NodeSource.nodes s1) in
    let cs = c.in_ok-children.ensures.children first c.args.level items known has in
    let at_cs = subst (λ ds. Has i m first n1 (c.args.level + 1) (Inner ds) items) (sym c.from_vec.ensures) (has_children i m first n1 c.args.level c.in_ok-children.children.items items cs) in
    let one = c.in_ok-children.ensures.pieces first c.args.level items among known has all in
    let known1 = known_on g.M.Unit.Item g.S.NodeSource g.M.Summer laws first s0 s1 u0 u1 known c.in_ok-children.ensures.ran in
    let p = err_from_is_err_and c.from_residual-in_err-tree-2.result c.from_residual-in_err-tree-2.ensures.1 in
    on_match c.from_residual-in_err-tree-2.result _ _ _ p.0 p.2 p.1
    (were_on i g.S.NodeSource m laws first among s0 s1 s2 u0 u1 c.raise.new.summer c.in_ok-children.ensures.ran one c.in_err-tree-2.field-0.0 c.in_err-tree-2.ensures.ran (c.in_err-tree-2.ensures.pieces first items among known1 at_cs all))

pub returns-in_err-tree-clause-sums : goal.returns-in_err-tree-clause-sums
returns-in_err-tree-clause-sums g t c first begun goes knows =
    let p = err_from_is_err_and c.from_residual.result c.from_residual.ensures.1 in
    knew_err g.M.Unit.Item g.S.NodeSource g.M.Summer first begun _ _ _ c.from_residual.result c.in_err-tree.field-0.0 p.0 p.2 p.1 (c.in_err-tree.ensures.sums first begun knows)

pub returns-then-len-le32-clause-sums : goal.returns-then-len-le32-clause-sums
returns-then-len-le32-clause-sums g t c first begun goes knows = c.in_ok-tree.ensures.sums first begun knows

pub returns-in_err-children-clause-sums : goal.returns-in_err-children-clause-sums
returns-in_err-children-clause-sums g t c first begun goes knows =
    let p = err_from_is_err_and c.from_residual-in_err-children.result c.from_residual-in_err-children.ensures.1 in
    knew_err g.M.Unit.Item g.S.NodeSource g.M.Summer first begun _ _ _ c.from_residual-in_err-children.result c.in_err-children.field-0.0 p.0 p.2 p.1 (c.in_err-children.ensures.sums first begun knows)

pub returns-in_err-tree-2-clause-sums : goal.returns-in_err-tree-2-clause-sums
returns-in_err-tree-2-clause-sums g t c first begun goes knows =
    let laws : Laws g.S.NodeSource g.M.Summer = record { store_steps = g.met.S.NodeSource.are_steps; store_keeps = g.met.S.NodeSource.keeps; store_caused = g.met.S.NodeSource.stays_caused; summer_steps = g.met.M.Summer.are_steps; summer_keeps = g.met.M.Summer.keeps; summer_caused = g.met.M.Summer.stays_caused; summer_asked = g.met.M.Summer.stays_asked; summer_gave = g.met.M.Summer.stays_given } in
    let i = g.M.Unit.Item in let s = g.S.NodeSource in let m = g.M.Summer in let s0 = c.args.store.now in let u0 = c.args.summer.now in
    let s1 = c.place_row.new.store in let s2 = c.raise.new.store in let u1 = c.place_row.new.summer in let u2 = c.raise.new.summer in
    let k = c.in_ok-children.ensures in
    let above = subst (KnowsRow i s m first begun u1 s1) (sym c.from_vec.ensures) (had_given i m (IsSumRead i s begun s1) first u1 c.in_ok-children.children.items (k.answered first goes)) in
    let later = laws.summer_steps.both first u0 u1 goes k.ran.summer in
    let p = err_from_is_err_and c.from_residual-in_err-tree-2.result c.from_residual-in_err-tree-2.ensures.1 in
    knew_err i s m first begun _ _ _ c.from_residual-in_err-tree-2.result c.in_err-tree-2.field-0.0 p.0 p.2 p.1 (known_fails i s m laws first begun s0 s1 s2 u1 u2 c.in_err-tree-2.field-0.0 c.in_err-tree-2.ensures.ran (k.sums first begun knows) (c.in_err-tree-2.ensures.sums first begun later above))

pub returns-clause-sums : goal.returns-clause-sums
returns-clause-sums g t c first begun goes knows =
    let laws : Laws g.S.NodeSource g.M.Summer = record { store_steps = g.met.S.NodeSource.are_steps; store_keeps = g.met.S.NodeSource.keeps; store_caused = g.met.S.NodeSource.stays_caused; summer_steps = g.met.M.Summer.are_steps; summer_keeps = g.met.M.Summer.keeps; summer_caused = g.met.M.Summer.stays_caused; summer_asked = g.met.M.Summer.stays_asked; summer_gave = g.met.M.Summer.stays_given } in
    let i = g.M.Unit.Item in let s = g.S.NodeSource in let m = g.M.Summer in let s0 = c.args.store.now in let u0 = c.args.summer.now in
    let s1 = c.place_row.new.store in let s2 = c.raise.new.store in let u1 = c.place_row.new.summer in let u2 = c.raise.new.summer in
    let k = c.in_ok-children.ensures in
    let above = subst (KnowsRow i s m first begun u1 s1) (sym c.from_vec.ensures) (had_given i m (IsSumRead i s begun s1) first u1 c.in_ok-children.children.items (k.answered first goes)) in
    let later = laws.summer_steps.both first u0 u1 goes k.ran.summer in
    known_goes i s m laws first begun s0 s1 s2 u1 u2 c.in_ok-tree-2.ensures.ran (k.sums first begun knows) (c.in_ok-tree-2.ensures.sums first begun later above)
