use Rattle.std.proofs.Common.{◌≡◌, suc, ◌-◌, ◌+◌, ◌∷◌, ◌++◌, [], sym, ap, ◌∙◌, subst, ◌==◌, arith, Contains, refl, ◌<◌, length, All}
use Rattle.tree_laws.specs.declared.node.Node.TheVariants.{Inner}
use Rattle.tree_laws.specs.declared.tree.Fill.TheVariants.{Below}
use Rattle.tree_laws.specs.Fitting.{AreLarge, item_count}
use Rattle.tree_laws.specs.Nodes.{is_leaf}
use Rattle.tree_laws.specs.SummerTrees.{AreChildren, Has, Stands}
use Rattle.tree_laws.proofs.SummerTrees.{has_stays}
use Rattle.reduce_tree.specs.Calls.{places}
use Rattle.std.proofs.lemmas.Result.{err_from_is_err_and}
use Rattle.reduce_tree.proofs.Calls.{Laws, ran_err, extends_on, fails_on, goes_on, known_on, goes_none, on_err}
use Rattle.reduce_tree.proofs.Nodes.{count_append, count_one, has_join, joined_large, large_append, large_front, level_above, split_count}
use Rattle.reduce_tree.proofs.Walk.{graft_back}
use Rattle.reduce_tree.proofs.Puts.{leaf_split, put_none, put_two}
use Rattle.reduce_tree.specs.Rows.{leaf_items}
use Rattle.reduce_tree.proofs.Sound.{if_sound, child_last}
use Rattle.reduce_tree.proofs.Pieces.{pieces_none, pieces_on, were_none, were_on, on_match}
use Rattle.reduce_tree.proofs.Quiet.{all_front, all_back}
use Rattle.reduce_tree.specs.Pieces.{AreAmong, ArePieces}
use Rattle.std.proofs.lemmas.List.Elements.{All-append, All-head}
use Rattle.tree_laws.proofs.SummerTrees.{children_split}
use Rattle.tree_laws.specs.declared.tree.TreeFault.TheVariants as tree_fault
use Rattle.reduce_tree.proofs.Given.{all_on, row_on, taken_on, taken_quiet, took_fault, took_later, took_none, took_quiet, under_on, each_join, fails_none, halts_quiet}
use Rattle.reduce_tree.specs.Given.{AllGiven, AreEach, Given}
use Rattle.reduce_tree.specs.Sums.{IsSumRead, KnowsNode, KnowsPieces, KnowsRow, KnewPieces}
use Rattle.reduce_tree.proofs.Had.{had_given, had_append, had_cut, way_on, node_goes, row_goes, known_goes, known_fails, known_none, had_join, knew_none, knew_err}
use Rattle.reduce_tree.proofs.row.+join_back.Goals as goal

pub returns-then-low-level-clause-items : goal.returns-then-low-level-clause-items
returns-then-low-level-clause-items g t c first xs ys known hx hy =
    let there = places (g.S.NodeSource.nodes c.args.store.now) in
    let same : c.args.low ≡ c.args.level = c.if-low-level.true in
    let hx' = subst (λ l. Has g.M.Unit.Item g.M.Summer first there l c.args.row xs) same hx in
    has_join g.M.Unit.Item g.M.Summer first there c.args.level c.in_ok-join_nodes.field-0 c.args.node c.args.row ys xs c.in_ok-join_nodes.ensures.split hy hx'

pub returns-then-low-level-clause-count : goal.returns-then-low-level-clause-count
returns-then-low-level-clause-count g t c = omega (arith, split_count c.in_ok-join_nodes.field-0 c.args.node c.args.row c.in_ok-join_nodes.ensures.split)

pub returns-then-low-level-clause-large : goal.returns-then-low-level-clause-large
returns-then-low-level-clause-large g t c =
    let same : c.args.low ≡ c.args.level = c.if-low-level.true in
    joined_large c.args.level c.in_ok-join_nodes.field-0 c.args.node c.args.row c.in_ok-join_nodes.ensures.split c.requires.large (subst (λ l. AreLarge l c.args.row) same c.requires.large_row)

pub returns-in_ok-add_all-in-Inner-clause-items : goal.returns-in_ok-add_all-in-Inner-clause-items
returns-in_ok-add_all-in-Inner-clause-items g t c first xs ys known hx hy =
    let laws : Laws g.S.NodeSource g.M.Summer = record { store_steps = g.met.S.NodeSource.are_steps; store_keeps = g.met.S.NodeSource.keeps; store_caused = g.met.S.NodeSource.stays_caused; summer_steps = g.met.M.Summer.are_steps; summer_keeps = g.met.M.Summer.keeps; summer_caused = g.met.M.Summer.stays_caused; summer_asked = g.met.M.Summer.stays_asked; summer_gave = g.met.M.Summer.stays_given } in
    let s0 = c.args.store.now in
    let s1 = c.fetch.new.store in
    let s2 = c.join_back.new.store in
    let u0 = c.args.summer.now in
    let u1 = c.join_back.new.summer in
    let a = c.in_ok-below-in-Inner.ensures.ran in
    let s3 = c.place_row.new.store in
    let u2 = c.place_row.new.summer in
    let b = c.in_ok-joined-in-Inner.ensures.ran in
    let ab = goes_on g.M.Unit.Item g.S.NodeSource g.M.Summer laws s0 s1 s2 u0 u0 u1 a b in
    let cs = c.in-Inner.children in
    let low = c.args.level - 1 in
    let kind : is_leaf (Inner cs) ≡ (c.args.level == 0) = subst (λ x. is_leaf x ≡ (c.args.level == 0)) c.in-Inner.is c.requires.kind in
    let lvl : c.args.level ≡ suc low = level_above c.args.level kind in
    let e : cs ≡ c.take_last-child.new.list.items ++ c.take_last-child.result ∷ [] = sym c.into_vec-before.ensures ∙ c.take_last-child.ensures in
    let large0 : AreLarge c.args.level (Inner cs) = subst (AreLarge c.args.level) c.in-Inner.is c.requires.large in
    let large1 = subst (λ ds. AreLarge c.args.level (Inner ds)) e large0 in
    let i = g.M.Unit.Item in
    let m = g.M.Summer in
    let n0 = places (g.S.NodeSource.nodes s0) in
    let n1 = places (g.S.NodeSource.nodes s1) in
    let n2 = places (g.S.NodeSource.nodes s2) in
    let n3 = places (g.S.NodeSource.nodes s3) in
    let below = c.in_ok-below-in-Inner.below in
    let joined = c.in_ok-joined-in-Inner.joined in
    let placed = c.in_ok-placed-in-Inner.placed.items in
    let e01 = extends_on g.M.Unit.Item g.S.NodeSource g.M.Summer laws s0 s1 u0 u0 a in
    let e02 = extends_on g.M.Unit.Item g.S.NodeSource g.M.Summer laws s0 s2 u0 u1 ab in
    let e23 = extends_on g.M.Unit.Item g.S.NodeSource g.M.Summer laws s2 s3 u1 u2 c.in_ok-placed-in-Inner.ensures.ran in
    let known1 = known_on g.M.Unit.Item g.S.NodeSource g.M.Summer laws first s0 s1 u0 u0 known a in
    let known2 = known_on g.M.Unit.Item g.S.NodeSource g.M.Summer laws first s0 s2 u0 u1 known ab in
    let has0 : Has i m first n0 c.args.level (Inner cs) ys = subst (λ x. Has i m first n0 c.args.level x ys) c.in-Inner.is hy in
    let has1 : AreChildren i m first (Stands i m first n0 low) cs ys = subst (λ l. Has i m first n0 l (Inner cs) ys) lvl has0 in
    let has2 = subst (λ ds. AreChildren i m first (Stands i m first n0 low) ds ys) e has1 in
    let result = graft_back i m first n0 n2 n3 e02 e23 low c.take_last-child.result c.take_last-child.new.list.items placed below joined ys xs has2
    (λ mid st. c.in_ok-below-in-Inner.ensures.got first mid Below known st)
    (λ mid h. c.in_ok-joined-in-Inner.ensures.items first xs mid known1 (has_stays i m first n0 n1 e01 c.args.low c.args.row xs hx) (has_stays i m first n0 n1 e01 low below mid h))
    (λ zs h. c.in_ok-placed-in-Inner.ensures.children first low zs known2 h) in
    let list : c.from_vec.result ≡ c.take_last-child.new.list.items ++ placed = c.from_vec.ensures ∙ c.in_ok-add_all-in-Inner.ensures in
    let whole : Has i m first n3 (suc low) (Inner c.from_vec.result) (ys ++ xs) = subst (λ ds. AreChildren i m first (Stands i m first n3 low) ds (ys ++ xs)) (sym list) result in
    subst (λ l. Has i m first n3 l (Inner c.from_vec.result) (ys ++ xs)) (sym lvl) whole

pub returns-in_ok-add_all-in-Inner-clause-large : goal.returns-in_ok-add_all-in-Inner-clause-large
returns-in_ok-add_all-in-Inner-clause-large g t c =
    let cs = c.in-Inner.children in
    let low = c.args.level - 1 in
    let kind : is_leaf (Inner cs) ≡ (c.args.level == 0) = subst (λ x. is_leaf x ≡ (c.args.level == 0)) c.in-Inner.is c.requires.kind in
    let lvl : c.args.level ≡ suc low = level_above c.args.level kind in
    let e : cs ≡ c.take_last-child.new.list.items ++ c.take_last-child.result ∷ [] = sym c.into_vec-before.ensures ∙ c.take_last-child.ensures in
    let large0 : AreLarge c.args.level (Inner cs) = subst (AreLarge c.args.level) c.in-Inner.is c.requires.large in
    let large1 = subst (λ ds. AreLarge c.args.level (Inner ds)) e large0 in
    let placed = c.in_ok-placed-in-Inner.placed.items in
    let up : low + 1 ≡ c.args.level = omega (arith, lvl) in
    let large2 = subst (λ l. AreLarge l (Inner placed)) up (c.in_ok-placed-in-Inner.ensures.large low c.in_ok-joined-in-Inner.ensures.kind c.in_ok-joined-in-Inner.ensures.large) in
    let list : c.from_vec.result ≡ c.take_last-child.new.list.items ++ placed = c.from_vec.ensures ∙ c.in_ok-add_all-in-Inner.ensures in
    subst (λ ds. AreLarge c.args.level (Inner ds)) (sym list) (large_append c.args.level c.take_last-child.new.list.items placed (large_front c.args.level c.take_last-child.new.list.items (c.take_last-child.result ∷ []) large1) large2)

pub returns-in_ok-add_all-in-Inner-clause-count : goal.returns-in_ok-add_all-in-Inner-clause-count
returns-in_ok-add_all-in-Inner-clause-count g t c =
    let e : item_count c.args.node ≡ item_count (Inner (c.take_last-child.new.list.items ++ c.take_last-child.result ∷ [])) = ap item_count c.in-Inner.is ∙ ap (λ ds. item_count (Inner ds)) (sym c.into_vec-before.ensures ∙ c.take_last-child.ensures) in
    let f : item_count (Inner (c.take_last-child.new.list.items ++ c.take_last-child.result ∷ [])) ≡ c.take_last-child.result.count + item_count (Inner c.take_last-child.new.list.items) = omega (arith, count_append c.take_last-child.new.list.items (c.take_last-child.result ∷ []), count_one c.take_last-child.result) in
    let b = c.in_ok-below-in-Inner.ensures.fits.items in
    let placed = c.in_ok-placed-in-Inner.placed.items in
    let list : c.from_vec.result ≡ c.take_last-child.new.list.items ++ placed = c.from_vec.ensures ∙ c.in_ok-add_all-in-Inner.ensures in
    let l : item_count (Inner c.from_vec.result) ≡ item_count (Inner placed) + item_count (Inner c.take_last-child.new.list.items) = omega (arith, ap (λ ds. item_count (Inner ds)) list, count_append c.take_last-child.new.list.items placed) in
    omega (arith, e, f, b, l, c.in_ok-joined-in-Inner.ensures.count, c.in_ok-placed-in-Inner.ensures.count)

pub returns-in_ok-add_all-in-Inner-clause-ran : goal.returns-in_ok-add_all-in-Inner-clause-ran
returns-in_ok-add_all-in-Inner-clause-ran g t c =
    let laws : Laws g.S.NodeSource g.M.Summer = record { store_steps = g.met.S.NodeSource.are_steps; store_keeps = g.met.S.NodeSource.keeps; store_caused = g.met.S.NodeSource.stays_caused; summer_steps = g.met.M.Summer.are_steps; summer_keeps = g.met.M.Summer.keeps; summer_caused = g.met.M.Summer.stays_caused; summer_asked = g.met.M.Summer.stays_asked; summer_gave = g.met.M.Summer.stays_given } in
    let s0 = c.args.store.now in
    let s1 = c.fetch.new.store in
    let s2 = c.join_back.new.store in
    let u0 = c.args.summer.now in
    let u1 = c.join_back.new.summer in
    let a = c.in_ok-below-in-Inner.ensures.ran in
    let s3 = c.place_row.new.store in
    let u2 = c.place_row.new.summer in
    let b = c.in_ok-joined-in-Inner.ensures.ran in
    let ab = goes_on g.M.Unit.Item g.S.NodeSource g.M.Summer laws s0 s1 s2 u0 u0 u1 a b in
    goes_on g.M.Unit.Item g.S.NodeSource g.M.Summer laws s0 s2 s3 u0 u1 u2 ab c.in_ok-placed-in-Inner.ensures.ran

pub returns-in_err-joined-in-Inner-clause-ran : goal.returns-in_err-joined-in-Inner-clause-ran
returns-in_err-joined-in-Inner-clause-ran g t c =
    let laws : Laws g.S.NodeSource g.M.Summer = record { store_steps = g.met.S.NodeSource.are_steps; store_keeps = g.met.S.NodeSource.keeps; store_caused = g.met.S.NodeSource.stays_caused; summer_steps = g.met.M.Summer.are_steps; summer_keeps = g.met.M.Summer.keeps; summer_caused = g.met.M.Summer.stays_caused; summer_asked = g.met.M.Summer.stays_asked; summer_gave = g.met.M.Summer.stays_given } in
    let s0 = c.args.store.now in
    let s1 = c.fetch.new.store in
    let s2 = c.join_back.new.store in
    let u0 = c.args.summer.now in
    let u1 = c.join_back.new.summer in
    let a = c.in_ok-below-in-Inner.ensures.ran in
    let p = err_from_is_err_and c.from_residual-in_err-joined-in-Inner.result c.from_residual-in_err-joined-in-Inner.ensures.1 in
    ran_err g.M.Unit.Item g.S.NodeSource g.M.Summer laws _ _ _ _ c.from_residual-in_err-joined-in-Inner.result c.in_err-joined-in-Inner.field-0.0 p.0 p.2 p.1 (fails_on g.M.Unit.Item g.S.NodeSource g.M.Summer laws s0 s1 s2 u0 u0 u1 a _ c.in_err-joined-in-Inner.ensures.ran)

pub returns-in_err-placed-in-Inner-clause-ran : goal.returns-in_err-placed-in-Inner-clause-ran
returns-in_err-placed-in-Inner-clause-ran g t c =
    let laws : Laws g.S.NodeSource g.M.Summer = record { store_steps = g.met.S.NodeSource.are_steps; store_keeps = g.met.S.NodeSource.keeps; store_caused = g.met.S.NodeSource.stays_caused; summer_steps = g.met.M.Summer.are_steps; summer_keeps = g.met.M.Summer.keeps; summer_caused = g.met.M.Summer.stays_caused; summer_asked = g.met.M.Summer.stays_asked; summer_gave = g.met.M.Summer.stays_given } in
    let s0 = c.args.store.now in
    let s1 = c.fetch.new.store in
    let s2 = c.join_back.new.store in
    let u0 = c.args.summer.now in
    let u1 = c.join_back.new.summer in
    let a = c.in_ok-below-in-Inner.ensures.ran in
    let s3 = c.place_row.new.store in
    let u2 = c.place_row.new.summer in
    let b = c.in_ok-joined-in-Inner.ensures.ran in
    let ab = goes_on g.M.Unit.Item g.S.NodeSource g.M.Summer laws s0 s1 s2 u0 u0 u1 a b in
    let p = err_from_is_err_and c.from_residual-in_err-placed-in-Inner.result c.from_residual-in_err-placed-in-Inner.ensures.1 in
    ran_err g.M.Unit.Item g.S.NodeSource g.M.Summer laws _ _ _ _ c.from_residual-in_err-placed-in-Inner.result c.in_err-placed-in-Inner.field-0.0 p.0 p.2 p.1 (fails_on g.M.Unit.Item g.S.NodeSource g.M.Summer laws s0 s2 s3 u0 u1 u2 ab _ c.in_err-placed-in-Inner.ensures.ran)

pub returns-then-low-level-clause-leaf : goal.returns-then-low-level-clause-leaf
returns-then-low-level-clause-leaf g t c =
    let s = leaf_split c.in_ok-join_nodes.field-0 c.args.node c.args.row c.in_ok-join_nodes.ensures.split in
    put_none (omega (arith, s))

pub returns-in_ok-add_all-in-Inner-clause-leaf : goal.returns-in_ok-add_all-in-Inner-clause-leaf
returns-in_ok-add_all-in-Inner-clause-leaf g t c =
    let n : leaf_items c.args.node ≡ 0 = ap leaf_items c.in-Inner.is in
    let size = c.in_ok-below-in-Inner.ensures.size in
    put_two c.in_ok-joined-in-Inner.ensures.leaf c.in_ok-placed-in-Inner.ensures.leaf (omega (arith, size)) (omega arith) (omega arith) (λ u. u)
    (λ u. g.met.M.Summer.keeps.usable c.args.summer.now c.join_back.new.summer c.in_ok-joined-in-Inner.ensures.ran.summer u) (omega (arith, n))

pub returns-in_err-below-in-Inner-clause-items : goal.returns-in_err-below-in-Inner-clause-items
returns-in_err-below-in-Inner-clause-items g t c first xs ys known hx hy =
    let cs = c.in-Inner.children in
    let low = c.args.level - 1 in
    let kind : is_leaf (Inner cs) ≡ (c.args.level == 0) = subst (λ x. is_leaf x ≡ (c.args.level == 0)) c.in-Inner.is c.requires.kind in
    let lvl : c.args.level ≡ suc low = level_above c.args.level kind in
    let e : cs ≡ c.take_last-child.new.list.items ++ c.take_last-child.result ∷ [] = sym c.into_vec-before.ensures ∙ c.take_last-child.ensures in
    let i = g.M.Unit.Item in
    let m = g.M.Summer in
    let n0 = places (g.S.NodeSource.nodes c.args.store.now) in
    let has0 : Has i m first n0 c.args.level (Inner cs) ys = subst (λ x. Has i m first n0 c.args.level x ys) c.in-Inner.is hy in
    let has1 : AreChildren i m first (Stands i m first n0 low) cs ys = subst (λ l. Has i m first n0 l (Inner cs) ys) lvl has0 in
    let has2 = subst (λ ds. AreChildren i m first (Stands i m first n0 low) ds ys) e has1 in
    let last = child_last i m first (Stands i m first n0 low) c.take_last-child.new.list.items c.take_last-child.result ys has2 in
    let mid = last.0 in
    let child = last.1 in
    let p = err_from_is_err_and c.from_residual-in_err-below-in-Inner.result c.from_residual-in_err-below-in-Inner.ensures.1 in
    if_sound _ c.from_residual-in_err-below-in-Inner.result c.in_err-below-in-Inner.field-0.0 p.0 p.2 p.1 (c.in_err-below-in-Inner.ensures.sound first mid known child.stands child.count)

pub returns-in_err-joined-in-Inner-clause-items : goal.returns-in_err-joined-in-Inner-clause-items
returns-in_err-joined-in-Inner-clause-items g t c first xs ys known hx hy =
    let laws : Laws g.S.NodeSource g.M.Summer = record { store_steps = g.met.S.NodeSource.are_steps; store_keeps = g.met.S.NodeSource.keeps; store_caused = g.met.S.NodeSource.stays_caused; summer_steps = g.met.M.Summer.are_steps; summer_keeps = g.met.M.Summer.keeps; summer_caused = g.met.M.Summer.stays_caused; summer_asked = g.met.M.Summer.stays_asked; summer_gave = g.met.M.Summer.stays_given } in
    let cs = c.in-Inner.children in
    let low = c.args.level - 1 in
    let kind : is_leaf (Inner cs) ≡ (c.args.level == 0) = subst (λ x. is_leaf x ≡ (c.args.level == 0)) c.in-Inner.is c.requires.kind in
    let lvl : c.args.level ≡ suc low = level_above c.args.level kind in
    let e : cs ≡ c.take_last-child.new.list.items ++ c.take_last-child.result ∷ [] = sym c.into_vec-before.ensures ∙ c.take_last-child.ensures in
    let i = g.M.Unit.Item in
    let m = g.M.Summer in
    let n0 = places (g.S.NodeSource.nodes c.args.store.now) in
    let has0 : Has i m first n0 c.args.level (Inner cs) ys = subst (λ x. Has i m first n0 c.args.level x ys) c.in-Inner.is hy in
    let has1 : AreChildren i m first (Stands i m first n0 low) cs ys = subst (λ l. Has i m first n0 l (Inner cs) ys) lvl has0 in
    let has2 = subst (λ ds. AreChildren i m first (Stands i m first n0 low) ds ys) e has1 in
    let last = child_last i m first (Stands i m first n0 low) c.take_last-child.new.list.items c.take_last-child.result ys has2 in
    let mid = last.0 in
    let child = last.1 in
    let s0 = c.args.store.now in
    let s1 = c.fetch.new.store in
    let u0 = c.args.summer.now in
    let a = c.in_ok-below-in-Inner.ensures.ran in
    let n1 = places (g.S.NodeSource.nodes s1) in
    let below = c.in_ok-below-in-Inner.below in
    let e01 = extends_on g.M.Unit.Item g.S.NodeSource g.M.Summer laws s0 s1 u0 u0 a in
    let known1 = known_on g.M.Unit.Item g.S.NodeSource g.M.Summer laws first s0 s1 u0 u0 known a in
    let p = err_from_is_err_and c.from_residual-in_err-joined-in-Inner.result c.from_residual-in_err-joined-in-Inner.ensures.1 in
    if_sound _ c.from_residual-in_err-joined-in-Inner.result c.in_err-joined-in-Inner.field-0.0 p.0 p.2 p.1
    (c.in_err-joined-in-Inner.ensures.items first xs mid known1 (has_stays i m first n0 n1 e01 c.args.low c.args.row xs hx) (has_stays i m first n0 n1 e01 low below mid (c.in_ok-below-in-Inner.ensures.got first mid Below known child.stands)))

pub returns-then-low-level-clause-pieces : goal.returns-then-low-level-clause-pieces
returns-then-low-level-clause-pieces g t c first xs ys among known hx hy ax ay =
    pieces_none g.M.Unit.Item g.M.Summer first among (places (g.S.NodeSource.nodes c.args.store.now)) Below (g.S.NodeSource.puts c.args.store.now) (g.S.NodeSource.puts c.args.store.now) refl

pub returns-in_ok-add_all-in-Inner-clause-pieces : goal.returns-in_ok-add_all-in-Inner-clause-pieces
returns-in_ok-add_all-in-Inner-clause-pieces g t c first xs ys among known hx hy ax ay =
    let laws : Laws g.S.NodeSource g.M.Summer = record { store_steps = g.met.S.NodeSource.are_steps; store_keeps = g.met.S.NodeSource.keeps; store_caused = g.met.S.NodeSource.stays_caused; summer_steps = g.met.M.Summer.are_steps; summer_keeps = g.met.M.Summer.keeps; summer_caused = g.met.M.Summer.stays_caused; summer_asked = g.met.M.Summer.stays_asked; summer_gave = g.met.M.Summer.stays_given } in
    let s0 = c.args.store.now in
    let s1 = c.fetch.new.store in
    let s2 = c.join_back.new.store in
    let u0 = c.args.summer.now in
    let u1 = c.join_back.new.summer in
    let a = c.in_ok-below-in-Inner.ensures.ran in
    let s3 = c.place_row.new.store in
    let u2 = c.place_row.new.summer in
    let b = c.in_ok-joined-in-Inner.ensures.ran in
    let ab = goes_on g.M.Unit.Item g.S.NodeSource g.M.Summer laws s0 s1 s2 u0 u0 u1 a b in
    let cs = c.in-Inner.children in
    let low = c.args.level - 1 in
    let kind : is_leaf (Inner cs) ≡ (c.args.level == 0) = subst (λ x. is_leaf x ≡ (c.args.level == 0)) c.in-Inner.is c.requires.kind in
    let lvl : c.args.level ≡ suc low = level_above c.args.level kind in
    let e : cs ≡ c.take_last-child.new.list.items ++ c.take_last-child.result ∷ [] = sym c.into_vec-before.ensures ∙ c.take_last-child.ensures in
    let large0 : AreLarge c.args.level (Inner cs) = subst (AreLarge c.args.level) c.in-Inner.is c.requires.large in
    let large1 = subst (λ ds. AreLarge c.args.level (Inner ds)) e large0 in
    let i = g.M.Unit.Item in
    let m = g.M.Summer in
    let n0 = places (g.S.NodeSource.nodes s0) in
    let n1 = places (g.S.NodeSource.nodes s1) in
    let n2 = places (g.S.NodeSource.nodes s2) in
    let n3 = places (g.S.NodeSource.nodes s3) in
    let below = c.in_ok-below-in-Inner.below in
    let joined = c.in_ok-joined-in-Inner.joined in
    let placed = c.in_ok-placed-in-Inner.placed.items in
    let e01 = extends_on g.M.Unit.Item g.S.NodeSource g.M.Summer laws s0 s1 u0 u0 a in
    let e23 = extends_on g.M.Unit.Item g.S.NodeSource g.M.Summer laws s2 s3 u1 u2 c.in_ok-placed-in-Inner.ensures.ran in
    let known1 = known_on g.M.Unit.Item g.S.NodeSource g.M.Summer laws first s0 s1 u0 u0 known a in
    let known2 = known_on g.M.Unit.Item g.S.NodeSource g.M.Summer laws first s0 s2 u0 u1 known ab in
    let has0 : Has i m first n0 c.args.level (Inner cs) ys = subst (λ x. Has i m first n0 c.args.level x ys) c.in-Inner.is hy in
    let has1 : AreChildren i m first (Stands i m first n0 low) cs ys = subst (λ l. Has i m first n0 l (Inner cs) ys) lvl has0 in
    let has2 = subst (λ ds. AreChildren i m first (Stands i m first n0 low) ds ys) e has1 in
    let split = children_split i m first (Stands i m first n0 low) c.take_last-child.new.list.items (c.take_last-child.result ∷ []) ys has2 in
    let end = split.at_back in
    let mid = end.front in
    let child = end.at_front in
    let aw = all_back (Contains among) split.front split.back (subst (AreAmong among) split.whole ay) in
    let am = all_front (Contains among) end.front end.back (subst (AreAmong among) end.whole aw) in
    let zs = mid ++ xs in
    let az = All-append (Contains among) mid xs am ax in
    let got = has_stays i m first n0 n1 e01 low below mid (c.in_ok-below-in-Inner.ensures.got first mid Below known child.stands) in
    let row = has_stays i m first n0 n1 e01 c.args.low c.args.row xs hx in
    let made = c.in_ok-joined-in-Inner.ensures.items first xs mid known1 row got in
    let one = subst (λ p. ArePieces i m first among n2 Below p (g.S.NodeSource.puts s2)) c.in_ok-below-in-Inner.ensures.puts (c.in_ok-joined-in-Inner.ensures.pieces first xs mid among known1 row got ax am) in
    let two = c.in_ok-placed-in-Inner.ensures.pieces first low zs among known2 made az in
    pieces_on i m first among n2 n3 e23 Below (g.S.NodeSource.puts s0) (g.S.NodeSource.puts s2) (g.S.NodeSource.puts s3) one two

pub returns-in_err-join_nodes-clause-ran : goal.returns-in_err-join_nodes-clause-ran
returns-in_err-join_nodes-clause-ran g t c =
    let laws : Laws g.S.NodeSource g.M.Summer = record { store_steps = g.met.S.NodeSource.are_steps; store_keeps = g.met.S.NodeSource.keeps; store_caused = g.met.S.NodeSource.stays_caused; summer_steps = g.met.M.Summer.are_steps; summer_keeps = g.met.M.Summer.keeps; summer_caused = g.met.M.Summer.stays_caused; summer_asked = g.met.M.Summer.stays_asked; summer_gave = g.met.M.Summer.stays_given } in
    let p = err_from_is_err_and c.from_residual.result c.from_residual.ensures.1 in
    ran_err g.M.Unit.Item g.S.NodeSource g.M.Summer laws _ _ _ _ c.from_residual.result tree_fault.NoMemory p.0 p.2 p.1 (goes_none g.M.Unit.Item g.S.NodeSource g.M.Summer laws c.args.store.now c.args.summer.now)

pub returns-in_err-add_all-in-Inner-clause-ran : goal.returns-in_err-add_all-in-Inner-clause-ran
returns-in_err-add_all-in-Inner-clause-ran g t c =
    let laws : Laws g.S.NodeSource g.M.Summer = record { store_steps = g.met.S.NodeSource.are_steps; store_keeps = g.met.S.NodeSource.keeps; store_caused = g.met.S.NodeSource.stays_caused; summer_steps = g.met.M.Summer.are_steps; summer_keeps = g.met.M.Summer.keeps; summer_caused = g.met.M.Summer.stays_caused; summer_asked = g.met.M.Summer.stays_asked; summer_gave = g.met.M.Summer.stays_given } in
    let s0 = c.args.store.now in
    let s1 = c.fetch.new.store in
    let s2 = c.join_back.new.store in
    let s3 = c.place_row.new.store in
    let u0 = c.args.summer.now in
    let u1 = c.join_back.new.summer in
    let u2 = c.place_row.new.summer in
    let ab = goes_on g.M.Unit.Item g.S.NodeSource g.M.Summer laws s0 s1 s2 u0 u0 u1 c.in_ok-below-in-Inner.ensures.ran c.in_ok-joined-in-Inner.ensures.ran in
    let p = err_from_is_err_and c.from_residual-in_err-add_all-in-Inner.result c.from_residual-in_err-add_all-in-Inner.ensures.1 in
    ran_err g.M.Unit.Item g.S.NodeSource g.M.Summer laws _ _ _ _ c.from_residual-in_err-add_all-in-Inner.result tree_fault.NoMemory p.0 p.2 p.1 (goes_on g.M.Unit.Item g.S.NodeSource g.M.Summer laws s0 s2 s3 u0 u1 u2 ab c.in_ok-placed-in-Inner.ensures.ran)

pub returns-in_err-join_nodes-clause-spent : goal.returns-in_err-join_nodes-clause-spent
returns-in_err-join_nodes-clause-spent g t c =
    on_err c.from_residual.result _ (record { steps = omega arith; puts = omega arith })

pub returns-in_err-below-in-Inner-clause-spent : goal.returns-in_err-below-in-Inner-clause-spent
returns-in_err-below-in-Inner-clause-spent g t c =
    let deep : c.args.low < c.args.level = omega (arith, c.requires.low, c.if-low-level.false) in
    let some = c.requires.some in
    let b = c.in_err-below-in-Inner.ensures in
    let same = ap length b.puts in
    on_err c.from_residual-in_err-below-in-Inner.result _ (record { steps = omega (arith, deep, b.steps); puts = omega (arith, same, b.steps) })

pub returns-in_err-joined-in-Inner-clause-spent : goal.returns-in_err-joined-in-Inner-clause-spent
returns-in_err-joined-in-Inner-clause-spent g t c =
    let deep : c.args.low < c.args.level = omega (arith, c.requires.low, c.if-low-level.false) in
    let some = c.requires.some in
    let b = c.in_ok-below-in-Inner.ensures in
    let same = ap length b.puts in
    let most = b.fits.filled.most in
    let k = c.in_err-joined-in-Inner.ensures.spent in
    on_err c.from_residual-in_err-joined-in-Inner.result _ (record { steps = let s = k.steps in omega (arith, deep, some, b.steps, most, s); puts = let s = k.puts in omega (arith, same, some, b.steps, most, s) })

pub returns-in_err-placed-in-Inner-clause-spent : goal.returns-in_err-placed-in-Inner-clause-spent
returns-in_err-placed-in-Inner-clause-spent g t c =
    let deep : c.args.low < c.args.level = omega (arith, c.requires.low, c.if-low-level.false) in
    let some = c.requires.some in
    let b = c.in_ok-below-in-Inner.ensures in
    let same = ap length b.puts in
    let most = b.fits.filled.most in
    let j = c.in_ok-joined-in-Inner.ensures in
    let k = c.in_err-placed-in-Inner.ensures.spent in
    on_err c.from_residual-in_err-placed-in-Inner.result _ (record { steps = let s = k.steps in omega (arith, deep, some, b.steps, most, j.steps, s); puts = let s = k.puts in omega (arith, same, some, b.steps, most, j.once, s) })

pub returns-in_err-add_all-in-Inner-clause-spent : goal.returns-in_err-add_all-in-Inner-clause-spent
returns-in_err-add_all-in-Inner-clause-spent g t c =
    let deep : c.args.low < c.args.level = omega (arith, c.requires.low, c.if-low-level.false) in
    let some = c.requires.some in
    let b = c.in_ok-below-in-Inner.ensures in
    let same = ap length b.puts in
    let most = b.fits.filled.most in
    let j = c.in_ok-joined-in-Inner.ensures in
    let k = c.in_ok-placed-in-Inner.ensures in
    on_err c.from_residual-in_err-add_all-in-Inner.result _ (record { steps = omega (arith, deep, some, b.steps, most, j.steps, k.steps, k.packed); puts = omega (arith, same, some, b.steps, most, j.once, k.steps, k.puts, k.packed) })

pub returns-in_err-join_nodes-clause-pieces : goal.returns-in_err-join_nodes-clause-pieces
returns-in_err-join_nodes-clause-pieces g t c first xs ys among known hx hy ax ay =
    let p = err_from_is_err_and c.from_residual.result c.from_residual.ensures.1 in
    on_match c.from_residual.result _ _ tree_fault.NoMemory p.0 p.2 p.1 (pieces_none g.M.Unit.Item g.M.Summer first among (places (g.S.NodeSource.nodes c.args.store.now)) Below (g.S.NodeSource.puts c.args.store.now) (g.S.NodeSource.puts c.args.store.now) refl)

pub returns-in_err-below-in-Inner-clause-pieces : goal.returns-in_err-below-in-Inner-clause-pieces
returns-in_err-below-in-Inner-clause-pieces g t c first xs ys among known hx hy ax ay =
    let laws : Laws g.S.NodeSource g.M.Summer = record { store_steps = g.met.S.NodeSource.are_steps; store_keeps = g.met.S.NodeSource.keeps; store_caused = g.met.S.NodeSource.stays_caused; summer_steps = g.met.M.Summer.are_steps; summer_keeps = g.met.M.Summer.keeps; summer_caused = g.met.M.Summer.stays_caused; summer_asked = g.met.M.Summer.stays_asked; summer_gave = g.met.M.Summer.stays_given } in
    let p = err_from_is_err_and c.from_residual-in_err-below-in-Inner.result c.from_residual-in_err-below-in-Inner.ensures.1 in
    on_match c.from_residual-in_err-below-in-Inner.result _ _ _ p.0 p.2 p.1 (were_none g.M.Unit.Item g.S.NodeSource g.M.Summer laws first among c.args.store.now c.fetch.new.store c.args.summer.now c.args.summer.now c.in_err-below-in-Inner.field-0.0 c.in_err-below-in-Inner.ensures.ran c.in_err-below-in-Inner.ensures.puts)

pub returns-in_err-joined-in-Inner-clause-pieces : goal.returns-in_err-joined-in-Inner-clause-pieces
returns-in_err-joined-in-Inner-clause-pieces g t c first xs ys among known hx hy ax ay =
    let laws : Laws g.S.NodeSource g.M.Summer = record { store_steps = g.met.S.NodeSource.are_steps; store_keeps = g.met.S.NodeSource.keeps; store_caused = g.met.S.NodeSource.stays_caused; summer_steps = g.met.M.Summer.are_steps; summer_keeps = g.met.M.Summer.keeps; summer_caused = g.met.M.Summer.stays_caused; summer_asked = g.met.M.Summer.stays_asked; summer_gave = g.met.M.Summer.stays_given } in
    let s0 = c.args.store.now in
    let s1 = c.fetch.new.store in
    let s2 = c.join_back.new.store in
    let u0 = c.args.summer.now in
    let a = c.in_ok-below-in-Inner.ensures.ran in
    let cs = c.in-Inner.children in
    let low = c.args.level - 1 in
    let kind : is_leaf (Inner cs) ≡ (c.args.level == 0) = subst (λ x. is_leaf x ≡ (c.args.level == 0)) c.in-Inner.is c.requires.kind in
    let lvl : c.args.level ≡ suc low = level_above c.args.level kind in
    let e : cs ≡ c.take_last-child.new.list.items ++ c.take_last-child.result ∷ [] = sym c.into_vec-before.ensures ∙ c.take_last-child.ensures in
    let i = g.M.Unit.Item in
    let m = g.M.Summer in
    let n0 = places (g.S.NodeSource.nodes s0) in
    let n1 = places (g.S.NodeSource.nodes s1) in
    let below = c.in_ok-below-in-Inner.below in
    let e01 = extends_on g.M.Unit.Item g.S.NodeSource g.M.Summer laws s0 s1 u0 u0 a in
    let known1 = known_on g.M.Unit.Item g.S.NodeSource g.M.Summer laws first s0 s1 u0 u0 known a in
    let has0 : Has i m first n0 c.args.level (Inner cs) ys = subst (λ x. Has i m first n0 c.args.level x ys) c.in-Inner.is hy in
    let has1 : AreChildren i m first (Stands i m first n0 low) cs ys = subst (λ l. Has i m first n0 l (Inner cs) ys) lvl has0 in
    let has2 = subst (λ ds. AreChildren i m first (Stands i m first n0 low) ds ys) e has1 in
    let split = children_split i m first (Stands i m first n0 low) c.take_last-child.new.list.items (c.take_last-child.result ∷ []) ys has2 in
    let end = split.at_back in
    let mid = end.front in
    let child = end.at_front in
    let aw = all_back (Contains among) split.front split.back (subst (AreAmong among) split.whole ay) in
    let am = all_front (Contains among) end.front end.back (subst (AreAmong among) end.whole aw) in
    let got = has_stays i m first n0 n1 e01 low below mid (c.in_ok-below-in-Inner.ensures.got first mid Below known child.stands) in
    let row = has_stays i m first n0 n1 e01 c.args.low c.args.row xs hx in
    let p = err_from_is_err_and c.from_residual-in_err-joined-in-Inner.result c.from_residual-in_err-joined-in-Inner.ensures.1 in
    on_match c.from_residual-in_err-joined-in-Inner.result _ _ _ p.0 p.2 p.1
    (were_on i g.S.NodeSource m laws first among s0 s1 s2 u0 u0 c.join_back.new.summer a (pieces_none i m first among n1 Below (g.S.NodeSource.puts s0) (g.S.NodeSource.puts s1) c.in_ok-below-in-Inner.ensures.puts) c.in_err-joined-in-Inner.field-0.0 c.in_err-joined-in-Inner.ensures.ran (c.in_err-joined-in-Inner.ensures.pieces first xs mid among known1 row got ax am))

pub returns-in_err-placed-in-Inner-clause-pieces : goal.returns-in_err-placed-in-Inner-clause-pieces
returns-in_err-placed-in-Inner-clause-pieces g t c first xs ys among known hx hy ax ay =
    let laws : Laws g.S.NodeSource g.M.Summer = record { store_steps = g.met.S.NodeSource.are_steps; store_keeps = g.met.S.NodeSource.keeps; store_caused = g.met.S.NodeSource.stays_caused; summer_steps = g.met.M.Summer.are_steps; summer_keeps = g.met.M.Summer.keeps; summer_caused = g.met.M.Summer.stays_caused; summer_asked = g.met.M.Summer.stays_asked; summer_gave = g.met.M.Summer.stays_given } in
    let s0 = c.args.store.now in
    let s1 = c.fetch.new.store in
    let s2 = c.join_back.new.store in
    let u0 = c.args.summer.now in
    let u1 = c.join_back.new.summer in
    let a = c.in_ok-below-in-Inner.ensures.ran in
    let s3 = c.place_row.new.store in
    let b = c.in_ok-joined-in-Inner.ensures.ran in
    let ab = goes_on g.M.Unit.Item g.S.NodeSource g.M.Summer laws s0 s1 s2 u0 u0 u1 a b in
    let cs = c.in-Inner.children in
    let low = c.args.level - 1 in
    let kind : is_leaf (Inner cs) ≡ (c.args.level == 0) = subst (λ x. is_leaf x ≡ (c.args.level == 0)) c.in-Inner.is c.requires.kind in
    let lvl : c.args.level ≡ suc low = level_above c.args.level kind in
    let e : cs ≡ c.take_last-child.new.list.items ++ c.take_last-child.result ∷ [] = sym c.into_vec-before.ensures ∙ c.take_last-child.ensures in
    let i = g.M.Unit.Item in
    let m = g.M.Summer in
    let n0 = places (g.S.NodeSource.nodes s0) in
    let n1 = places (g.S.NodeSource.nodes s1) in
    let n2 = places (g.S.NodeSource.nodes s2) in
    let below = c.in_ok-below-in-Inner.below in
    let e01 = extends_on g.M.Unit.Item g.S.NodeSource g.M.Summer laws s0 s1 u0 u0 a in
    let known1 = known_on g.M.Unit.Item g.S.NodeSource g.M.Summer laws first s0 s1 u0 u0 known a in
    let known2 = known_on g.M.Unit.Item g.S.NodeSource g.M.Summer laws first s0 s2 u0 u1 known ab in
    let has0 : Has i m first n0 c.args.level (Inner cs) ys = subst (λ x. Has i m first n0 c.args.level x ys) c.in-Inner.is hy in
    let has1 : AreChildren i m first (Stands i m first n0 low) cs ys = subst (λ l. Has i m first n0 l (Inner cs) ys) lvl has0 in
    let has2 = subst (λ ds. AreChildren i m first (Stands i m first n0 low) ds ys) e has1 in
    let split = children_split i m first (Stands i m first n0 low) c.take_last-child.new.list.items (c.take_last-child.result ∷ []) ys has2 in
    let end = split.at_back in
    let mid = end.front in
    let child = end.at_front in
    let aw = all_back (Contains among) split.front split.back (subst (AreAmong among) split.whole ay) in
    let am = all_front (Contains among) end.front end.back (subst (AreAmong among) end.whole aw) in
    let zs = mid ++ xs in
    let az = All-append (Contains among) mid xs am ax in
    let got = has_stays i m first n0 n1 e01 low below mid (c.in_ok-below-in-Inner.ensures.got first mid Below known child.stands) in
    let row = has_stays i m first n0 n1 e01 c.args.low c.args.row xs hx in
    let made = c.in_ok-joined-in-Inner.ensures.items first xs mid known1 row got in
    let one = subst (λ p. ArePieces i m first among n2 Below p (g.S.NodeSource.puts s2)) c.in_ok-below-in-Inner.ensures.puts (c.in_ok-joined-in-Inner.ensures.pieces first xs mid among known1 row got ax am) in
    let p = err_from_is_err_and c.from_residual-in_err-placed-in-Inner.result c.from_residual-in_err-placed-in-Inner.ensures.1 in
    on_match c.from_residual-in_err-placed-in-Inner.result _ _ _ p.0 p.2 p.1
    (were_on i g.S.NodeSource m laws first among s0 s2 s3 u0 u1 c.place_row.new.summer ab one c.in_err-placed-in-Inner.field-0.0 c.in_err-placed-in-Inner.ensures.ran (c.in_err-placed-in-Inner.ensures.pieces first low zs among known2 made az))

pub returns-in_err-add_all-in-Inner-clause-pieces : goal.returns-in_err-add_all-in-Inner-clause-pieces
returns-in_err-add_all-in-Inner-clause-pieces g t c first xs ys among known hx hy ax ay =
    let laws : Laws g.S.NodeSource g.M.Summer = record { store_steps = g.met.S.NodeSource.are_steps; store_keeps = g.met.S.NodeSource.keeps; store_caused = g.met.S.NodeSource.stays_caused; summer_steps = g.met.M.Summer.are_steps; summer_keeps = g.met.M.Summer.keeps; summer_caused = g.met.M.Summer.stays_caused; summer_asked = g.met.M.Summer.stays_asked; summer_gave = g.met.M.Summer.stays_given } in
    let s0 = c.args.store.now in
    let s1 = c.fetch.new.store in
    let s2 = c.join_back.new.store in
    let u0 = c.args.summer.now in
    let u1 = c.join_back.new.summer in
    let a = c.in_ok-below-in-Inner.ensures.ran in
    let s3 = c.place_row.new.store in
    let u2 = c.place_row.new.summer in
    let b = c.in_ok-joined-in-Inner.ensures.ran in
    let ab = goes_on g.M.Unit.Item g.S.NodeSource g.M.Summer laws s0 s1 s2 u0 u0 u1 a b in
    let cs = c.in-Inner.children in
    let low = c.args.level - 1 in
    let kind : is_leaf (Inner cs) ≡ (c.args.level == 0) = subst (λ x. is_leaf x ≡ (c.args.level == 0)) c.in-Inner.is c.requires.kind in
    let lvl : c.args.level ≡ suc low = level_above c.args.level kind in
    let e : cs ≡ c.take_last-child.new.list.items ++ c.take_last-child.result ∷ [] = sym c.into_vec-before.ensures ∙ c.take_last-child.ensures in
    let i = g.M.Unit.Item in
    let m = g.M.Summer in
    let n0 = places (g.S.NodeSource.nodes s0) in
    let n1 = places (g.S.NodeSource.nodes s1) in
    let n2 = places (g.S.NodeSource.nodes s2) in
    let n3 = places (g.S.NodeSource.nodes s3) in
    let below = c.in_ok-below-in-Inner.below in
    let e01 = extends_on g.M.Unit.Item g.S.NodeSource g.M.Summer laws s0 s1 u0 u0 a in
    let e23 = extends_on g.M.Unit.Item g.S.NodeSource g.M.Summer laws s2 s3 u1 u2 c.in_ok-placed-in-Inner.ensures.ran in
    let known1 = known_on g.M.Unit.Item g.S.NodeSource g.M.Summer laws first s0 s1 u0 u0 known a in
    let known2 = known_on g.M.Unit.Item g.S.NodeSource g.M.Summer laws first s0 s2 u0 u1 known ab in
    let has0 : Has i m first n0 c.args.level (Inner cs) ys = subst (λ x. Has i m first n0 c.args.level x ys) c.in-Inner.is hy in
    let has1 : AreChildren i m first (Stands i m first n0 low) cs ys = subst (λ l. Has i m first n0 l (Inner cs) ys) lvl has0 in
    let has2 = subst (λ ds. AreChildren i m first (Stands i m first n0 low) ds ys) e has1 in
    let split = children_split i m first (Stands i m first n0 low) c.take_last-child.new.list.items (c.take_last-child.result ∷ []) ys has2 in
    let end = split.at_back in
    let mid = end.front in
    let child = end.at_front in
    let aw = all_back (Contains among) split.front split.back (subst (AreAmong among) split.whole ay) in
    let am = all_front (Contains among) end.front end.back (subst (AreAmong among) end.whole aw) in
    let zs = mid ++ xs in
    let az = All-append (Contains among) mid xs am ax in
    let got = has_stays i m first n0 n1 e01 low below mid (c.in_ok-below-in-Inner.ensures.got first mid Below known child.stands) in
    let row = has_stays i m first n0 n1 e01 c.args.low c.args.row xs hx in
    let made = c.in_ok-joined-in-Inner.ensures.items first xs mid known1 row got in
    let one = subst (λ p. ArePieces i m first among n2 Below p (g.S.NodeSource.puts s2)) c.in_ok-below-in-Inner.ensures.puts (c.in_ok-joined-in-Inner.ensures.pieces first xs mid among known1 row got ax am) in
    let two = c.in_ok-placed-in-Inner.ensures.pieces first low zs among known2 made az in
    let p = err_from_is_err_and c.from_residual-in_err-add_all-in-Inner.result c.from_residual-in_err-add_all-in-Inner.ensures.1 in
    on_match c.from_residual-in_err-add_all-in-Inner.result _ _ tree_fault.NoMemory p.0 p.2 p.1
    (pieces_on i m first among n2 n3 e23 Below (g.S.NodeSource.puts s0) (g.S.NodeSource.puts s2) (g.S.NodeSource.puts s3) one two)

pub returns-then-low-level-clause-ran : goal.returns-then-low-level-clause-ran
returns-then-low-level-clause-ran g t c =
    let laws : Laws g.S.NodeSource g.M.Summer = record { store_steps = g.met.S.NodeSource.are_steps; store_keeps = g.met.S.NodeSource.keeps; store_caused = g.met.S.NodeSource.stays_caused; summer_steps = g.met.M.Summer.are_steps; summer_keeps = g.met.M.Summer.keeps; summer_caused = g.met.M.Summer.stays_caused; summer_asked = g.met.M.Summer.stays_asked; summer_gave = g.met.M.Summer.stays_given } in
    goes_none g.M.Unit.Item g.S.NodeSource g.M.Summer laws c.args.store.now c.args.summer.now

pub returns-then-low-level-clause-met : goal.returns-then-low-level-clause-met
returns-then-low-level-clause-met g t c first tree pieces under low_given given =
    let laws : Laws g.S.NodeSource g.M.Summer = record { store_steps = g.met.S.NodeSource.are_steps; store_keeps = g.met.S.NodeSource.keeps; store_caused = g.met.S.NodeSource.stays_caused; summer_steps = g.met.M.Summer.are_steps; summer_keeps = g.met.M.Summer.keeps; summer_caused = g.met.M.Summer.stays_caused; summer_asked = g.met.M.Summer.stays_asked; summer_gave = g.met.M.Summer.stays_given } in
    let i = g.M.Unit.Item in let s = g.S.NodeSource in let m = g.M.Summer in let s0 = c.args.store.now in let u0 = c.args.summer.now in
    let same : c.args.low ≡ c.args.level = c.if-low-level.true in
    let row = subst (λ l. AllGiven i s m first tree pieces s0 l c.args.row) same low_given in
    (took_none i s m laws first tree pieces s0 s0 refl, each_join (Given i s m first tree pieces s0 (c.args.level - 1)) c.in_ok-join_nodes.field-0 c.args.node c.args.row c.in_ok-join_nodes.ensures.split given row)

pub returns-in_err-join_nodes-clause-met : goal.returns-in_err-join_nodes-clause-met
returns-in_err-join_nodes-clause-met g t c first tree pieces under low_given given =
    let laws : Laws g.S.NodeSource g.M.Summer = record { store_steps = g.met.S.NodeSource.are_steps; store_keeps = g.met.S.NodeSource.keeps; store_caused = g.met.S.NodeSource.stays_caused; summer_steps = g.met.M.Summer.are_steps; summer_keeps = g.met.M.Summer.keeps; summer_caused = g.met.M.Summer.stays_caused; summer_asked = g.met.M.Summer.stays_asked; summer_gave = g.met.M.Summer.stays_given } in
    let i = g.M.Unit.Item in let s = g.S.NodeSource in let m = g.M.Summer in let s0 = c.args.store.now in let u0 = c.args.summer.now in
    let p = err_from_is_err_and c.from_residual.result c.from_residual.ensures.1 in
    took_fault i s m laws first tree pieces c.from_residual.result _ s0 s0 tree_fault.NoMemory p.0 p.2 p.1 (halts_quiet i s m laws first tree pieces s0 s0 u0 u0 tree_fault.NoMemory (fails_none i s m laws first tree pieces s0 u0) refl tt)

pub returns-in_err-below-in-Inner-clause-met : goal.returns-in_err-below-in-Inner-clause-met
returns-in_err-below-in-Inner-clause-met g t c first tree pieces under low_given given =
    let laws : Laws g.S.NodeSource g.M.Summer = record { store_steps = g.met.S.NodeSource.are_steps; store_keeps = g.met.S.NodeSource.keeps; store_caused = g.met.S.NodeSource.stays_caused; summer_steps = g.met.M.Summer.are_steps; summer_keeps = g.met.M.Summer.keeps; summer_caused = g.met.M.Summer.stays_caused; summer_asked = g.met.M.Summer.stays_asked; summer_gave = g.met.M.Summer.stays_given } in
    let i = g.M.Unit.Item in let s = g.S.NodeSource in let m = g.M.Summer in let s0 = c.args.store.now in let u0 = c.args.summer.now in
    let s1 = c.fetch.new.store in
    let P0 = Given i s m first tree pieces s0 (c.args.level - 1) in
    let e = sym c.into_vec-before.ensures ∙ c.take_last-child.ensures in
    let cs = subst (All P0) e (subst (AreEach P0) c.in-Inner.is given) in
    let child = All-head P0 c.take_last-child.result [] (all_back P0 c.take_last-child.new.list.items (c.take_last-child.result ∷ []) cs) in
    let p = err_from_is_err_and c.from_residual-in_err-below-in-Inner.result c.from_residual-in_err-below-in-Inner.ensures.1 in
    took_fault i s m laws first tree pieces c.from_residual-in_err-below-in-Inner.result _ s0 s1 c.in_err-below-in-Inner.field-0.0 p.0 p.2 p.1 (c.in_err-below-in-Inner.ensures.met first tree pieces under child).0

pub returns-in_err-joined-in-Inner-clause-met : goal.returns-in_err-joined-in-Inner-clause-met
returns-in_err-joined-in-Inner-clause-met g t c first tree pieces under low_given given =
    let laws : Laws g.S.NodeSource g.M.Summer = record { store_steps = g.met.S.NodeSource.are_steps; store_keeps = g.met.S.NodeSource.keeps; store_caused = g.met.S.NodeSource.stays_caused; summer_steps = g.met.M.Summer.are_steps; summer_keeps = g.met.M.Summer.keeps; summer_caused = g.met.M.Summer.stays_caused; summer_asked = g.met.M.Summer.stays_asked; summer_gave = g.met.M.Summer.stays_given } in
    let i = g.M.Unit.Item in let s = g.S.NodeSource in let m = g.M.Summer in let s0 = c.args.store.now in let u0 = c.args.summer.now in
    let s1 = c.fetch.new.store in
    let P0 = Given i s m first tree pieces s0 (c.args.level - 1) in
    let e = sym c.into_vec-before.ensures ∙ c.take_last-child.ensures in
    let cs = subst (All P0) e (subst (AreEach P0) c.in-Inner.is given) in
    let child = All-head P0 c.take_last-child.result [] (all_back P0 c.take_last-child.new.list.items (c.take_last-child.result ∷ []) cs) in
    let s2 = c.join_back.new.store in let u1 = c.join_back.new.summer in let a = c.in_ok-below-in-Inner.ensures.ran in
    let got = c.in_ok-below-in-Inner.ensures.met first tree pieces under child in
    let p = err_from_is_err_and c.from_residual-in_err-joined-in-Inner.result c.from_residual-in_err-joined-in-Inner.ensures.1 in
    took_later i s m laws first tree pieces c.from_residual-in_err-joined-in-Inner.result _ s0 s1 s2 u0 u0 u1 a got.0 c.in_err-joined-in-Inner.field-0.0 p.0 p.2 p.1 c.in_err-joined-in-Inner.ensures.ran
    (c.in_err-joined-in-Inner.ensures.met first tree pieces (under_on i s m laws first tree pieces s0 s1 u0 u0 under a) (row_on i s m laws first tree pieces s0 s1 u0 u0 a c.args.low c.args.row low_given) got.1).0

pub returns-in_err-placed-in-Inner-clause-met : goal.returns-in_err-placed-in-Inner-clause-met
returns-in_err-placed-in-Inner-clause-met g t c first tree pieces under low_given given =
    let laws : Laws g.S.NodeSource g.M.Summer = record { store_steps = g.met.S.NodeSource.are_steps; store_keeps = g.met.S.NodeSource.keeps; store_caused = g.met.S.NodeSource.stays_caused; summer_steps = g.met.M.Summer.are_steps; summer_keeps = g.met.M.Summer.keeps; summer_caused = g.met.M.Summer.stays_caused; summer_asked = g.met.M.Summer.stays_asked; summer_gave = g.met.M.Summer.stays_given } in
    let i = g.M.Unit.Item in let s = g.S.NodeSource in let m = g.M.Summer in let s0 = c.args.store.now in let u0 = c.args.summer.now in
    let s1 = c.fetch.new.store in
    let P0 = Given i s m first tree pieces s0 (c.args.level - 1) in
    let e = sym c.into_vec-before.ensures ∙ c.take_last-child.ensures in
    let cs = subst (All P0) e (subst (AreEach P0) c.in-Inner.is given) in
    let child = All-head P0 c.take_last-child.result [] (all_back P0 c.take_last-child.new.list.items (c.take_last-child.result ∷ []) cs) in
    let s2 = c.join_back.new.store in let u1 = c.join_back.new.summer in let a = c.in_ok-below-in-Inner.ensures.ran in
    let got = c.in_ok-below-in-Inner.ensures.met first tree pieces under child in
    let s3 = c.place_row.new.store in let u2 = c.place_row.new.summer in let b = c.in_ok-joined-in-Inner.ensures.ran in
    let ab = goes_on i s m laws s0 s1 s2 u0 u0 u1 a b in
    let made = c.in_ok-joined-in-Inner.ensures.met first tree pieces (under_on i s m laws first tree pieces s0 s1 u0 u0 under a) (row_on i s m laws first tree pieces s0 s1 u0 u0 a c.args.low c.args.row low_given) got.1 in
    let taken = taken_on i s m laws first tree pieces s1 s2 u0 u1 b (s.gets s0) got.0 made.0 in
    let p = err_from_is_err_and c.from_residual-in_err-placed-in-Inner.result c.from_residual-in_err-placed-in-Inner.ensures.1 in
    took_quiet i s m laws first tree pieces c.from_residual-in_err-placed-in-Inner.result _ s0 s2 s3 u0 u1 u2 ab taken c.in_err-placed-in-Inner.field-0.0 p.0 p.2 p.1 c.in_err-placed-in-Inner.ensures.ran c.in_err-placed-in-Inner.ensures.gets c.in_err-placed-in-Inner.ensures.sound

pub returns-in_err-add_all-in-Inner-clause-met : goal.returns-in_err-add_all-in-Inner-clause-met
returns-in_err-add_all-in-Inner-clause-met g t c first tree pieces under low_given given =
    let laws : Laws g.S.NodeSource g.M.Summer = record { store_steps = g.met.S.NodeSource.are_steps; store_keeps = g.met.S.NodeSource.keeps; store_caused = g.met.S.NodeSource.stays_caused; summer_steps = g.met.M.Summer.are_steps; summer_keeps = g.met.M.Summer.keeps; summer_caused = g.met.M.Summer.stays_caused; summer_asked = g.met.M.Summer.stays_asked; summer_gave = g.met.M.Summer.stays_given } in
    let i = g.M.Unit.Item in let s = g.S.NodeSource in let m = g.M.Summer in let s0 = c.args.store.now in let u0 = c.args.summer.now in
    let s1 = c.fetch.new.store in
    let P0 = Given i s m first tree pieces s0 (c.args.level - 1) in
    let e = sym c.into_vec-before.ensures ∙ c.take_last-child.ensures in
    let cs = subst (All P0) e (subst (AreEach P0) c.in-Inner.is given) in
    let child = All-head P0 c.take_last-child.result [] (all_back P0 c.take_last-child.new.list.items (c.take_last-child.result ∷ []) cs) in
    let s2 = c.join_back.new.store in let u1 = c.join_back.new.summer in let a = c.in_ok-below-in-Inner.ensures.ran in
    let got = c.in_ok-below-in-Inner.ensures.met first tree pieces under child in
    let s3 = c.place_row.new.store in let u2 = c.place_row.new.summer in let b = c.in_ok-joined-in-Inner.ensures.ran in let d = c.in_ok-placed-in-Inner.ensures.ran in
    let ab = goes_on i s m laws s0 s1 s2 u0 u0 u1 a b in
    let made = c.in_ok-joined-in-Inner.ensures.met first tree pieces (under_on i s m laws first tree pieces s0 s1 u0 u0 under a) (row_on i s m laws first tree pieces s0 s1 u0 u0 a c.args.low c.args.row low_given) got.1 in
    let abd = goes_on i s m laws s0 s2 s3 u0 u1 u2 ab d in
    let taken = taken_quiet i s m laws first tree pieces s2 s3 u1 u2 d (s.gets s0) c.in_ok-placed-in-Inner.ensures.gets (taken_on i s m laws first tree pieces s1 s2 u0 u1 b (s.gets s0) got.0 made.0) in
    let p = err_from_is_err_and c.from_residual-in_err-add_all-in-Inner.result c.from_residual-in_err-add_all-in-Inner.ensures.1 in
    took_quiet i s m laws first tree pieces c.from_residual-in_err-add_all-in-Inner.result _ s0 s3 s3 u0 u2 u2 abd taken tree_fault.NoMemory p.0 p.2 p.1 (fails_none i s m laws first tree pieces s3 u2) refl tt

pub returns-in_ok-add_all-in-Inner-clause-met : goal.returns-in_ok-add_all-in-Inner-clause-met
returns-in_ok-add_all-in-Inner-clause-met g t c first tree pieces under low_given given =
    let laws : Laws g.S.NodeSource g.M.Summer = record { store_steps = g.met.S.NodeSource.are_steps; store_keeps = g.met.S.NodeSource.keeps; store_caused = g.met.S.NodeSource.stays_caused; summer_steps = g.met.M.Summer.are_steps; summer_keeps = g.met.M.Summer.keeps; summer_caused = g.met.M.Summer.stays_caused; summer_asked = g.met.M.Summer.stays_asked; summer_gave = g.met.M.Summer.stays_given } in
    let i = g.M.Unit.Item in let s = g.S.NodeSource in let m = g.M.Summer in let s0 = c.args.store.now in let u0 = c.args.summer.now in
    let s1 = c.fetch.new.store in
    let P0 = Given i s m first tree pieces s0 (c.args.level - 1) in
    let e = sym c.into_vec-before.ensures ∙ c.take_last-child.ensures in
    let cs = subst (All P0) e (subst (AreEach P0) c.in-Inner.is given) in
    let child = All-head P0 c.take_last-child.result [] (all_back P0 c.take_last-child.new.list.items (c.take_last-child.result ∷ []) cs) in
    let s2 = c.join_back.new.store in let u1 = c.join_back.new.summer in let a = c.in_ok-below-in-Inner.ensures.ran in
    let got = c.in_ok-below-in-Inner.ensures.met first tree pieces under child in
    let s3 = c.place_row.new.store in let u2 = c.place_row.new.summer in let b = c.in_ok-joined-in-Inner.ensures.ran in let d = c.in_ok-placed-in-Inner.ensures.ran in
    let ab = goes_on i s m laws s0 s1 s2 u0 u0 u1 a b in
    let abd = goes_on i s m laws s0 s2 s3 u0 u1 u2 ab d in
    let made = c.in_ok-joined-in-Inner.ensures.met first tree pieces (under_on i s m laws first tree pieces s0 s1 u0 u0 under a) (row_on i s m laws first tree pieces s0 s1 u0 u0 a c.args.low c.args.row low_given) got.1 in
    let taken = taken_quiet i s m laws first tree pieces s2 s3 u1 u2 d (s.gets s0) c.in_ok-placed-in-Inner.ensures.gets (taken_on i s m laws first tree pieces s1 s2 u0 u1 b (s.gets s0) got.0 made.0) in
    let P3 = Given i s m first tree pieces s3 (c.args.level - 1) in
    let placed = c.in_ok-placed-in-Inner.placed.items in
    let new = c.in_ok-placed-in-Inner.ensures.given first tree pieces (c.args.level - 1) (under_on i s m laws first tree pieces s0 s2 u0 u1 under ab) c.in_ok-joined-in-Inner.ensures.kind c.in_ok-joined-in-Inner.ensures.large made.1 in
    let old = all_on i s m laws first tree pieces s0 s3 u0 u2 abd (c.args.level - 1) c.take_last-child.new.list.items (all_front P0 c.take_last-child.new.list.items (c.take_last-child.result ∷ []) cs) in
    let list : c.from_vec.result ≡ c.take_last-child.new.list.items ++ placed = c.from_vec.ensures ∙ c.in_ok-add_all-in-Inner.ensures in
    (taken, subst (All P3) (sym list) (All-append P3 c.take_last-child.new.list.items placed old new))

pub returns-then-low-level-clause-sums : goal.returns-then-low-level-clause-sums
returns-then-low-level-clause-sums g t c first begun way row node = known_none g.M.Unit.Item g.S.NodeSource g.M.Summer first begun c.args.summer.now c.args.store.now c.args.store.now refl

pub returns-in_err-join_nodes-clause-sums : goal.returns-in_err-join_nodes-clause-sums
returns-in_err-join_nodes-clause-sums g t c first begun way row node =
    let p = err_from_is_err_and c.from_residual.result c.from_residual.ensures.1 in
    knew_err g.M.Unit.Item g.S.NodeSource g.M.Summer first begun _ _ _ c.from_residual.result tree_fault.NoMemory p.0 p.2 p.1 (known_none g.M.Unit.Item g.S.NodeSource g.M.Summer first begun c.args.summer.now c.args.store.now c.args.store.now refl)

pub returns-in_err-below-in-Inner-clause-sums : goal.returns-in_err-below-in-Inner-clause-sums
returns-in_err-below-in-Inner-clause-sums g t c first begun way row node =
    let laws : Laws g.S.NodeSource g.M.Summer = record { store_steps = g.met.S.NodeSource.are_steps; store_keeps = g.met.S.NodeSource.keeps; store_caused = g.met.S.NodeSource.stays_caused; summer_steps = g.met.M.Summer.are_steps; summer_keeps = g.met.M.Summer.keeps; summer_caused = g.met.M.Summer.stays_caused; summer_asked = g.met.M.Summer.stays_asked; summer_gave = g.met.M.Summer.stays_given } in
    let i = g.M.Unit.Item in let s = g.S.NodeSource in let m = g.M.Summer in let s0 = c.args.store.now in let u0 = c.args.summer.now in
    let p = err_from_is_err_and c.from_residual-in_err-below-in-Inner.result c.from_residual-in_err-below-in-Inner.ensures.1 in
    knew_err i s m first begun _ _ _ c.from_residual-in_err-below-in-Inner.result c.in_err-below-in-Inner.field-0.0 p.0 p.2 p.1 (knew_none i s m first begun u0 s0 c.fetch.new.store c.in_err-below-in-Inner.field-0.0 c.in_err-below-in-Inner.ensures.puts)

pub returns-in_err-joined-in-Inner-clause-sums : goal.returns-in_err-joined-in-Inner-clause-sums
returns-in_err-joined-in-Inner-clause-sums g t c first begun way row node =
    let laws : Laws g.S.NodeSource g.M.Summer = record { store_steps = g.met.S.NodeSource.are_steps; store_keeps = g.met.S.NodeSource.keeps; store_caused = g.met.S.NodeSource.stays_caused; summer_steps = g.met.M.Summer.are_steps; summer_keeps = g.met.M.Summer.keeps; summer_caused = g.met.M.Summer.stays_caused; summer_asked = g.met.M.Summer.stays_asked; summer_gave = g.met.M.Summer.stays_given } in
    let i = g.M.Unit.Item in let s = g.S.NodeSource in let m = g.M.Summer in let s0 = c.args.store.now in let u0 = c.args.summer.now in
    let s1 = c.fetch.new.store in let a = c.in_ok-below-in-Inner.ensures.ran in
    let way1 = way_on i s m laws first begun s0 s1 u0 u0 a way in
    let below = c.in_ok-below-in-Inner.ensures.known first begun way in
    let p = err_from_is_err_and c.from_residual-in_err-joined-in-Inner.result c.from_residual-in_err-joined-in-Inner.ensures.1 in
    knew_err i s m first begun _ _ _ c.from_residual-in_err-joined-in-Inner.result c.in_err-joined-in-Inner.field-0.0 p.0 p.2 p.1 (subst (λ p. KnewPieces i s m first begun c.join_back.new.summer c.join_back.new.store p c.in_err-joined-in-Inner.field-0.0) c.in_ok-below-in-Inner.ensures.puts (c.in_err-joined-in-Inner.ensures.sums first begun way1 (node_goes i s m laws first begun s0 s1 u0 u0 a c.args.row row) below))

pub returns-in_err-placed-in-Inner-clause-sums : goal.returns-in_err-placed-in-Inner-clause-sums
returns-in_err-placed-in-Inner-clause-sums g t c first begun way row node =
    let laws : Laws g.S.NodeSource g.M.Summer = record { store_steps = g.met.S.NodeSource.are_steps; store_keeps = g.met.S.NodeSource.keeps; store_caused = g.met.S.NodeSource.stays_caused; summer_steps = g.met.M.Summer.are_steps; summer_keeps = g.met.M.Summer.keeps; summer_caused = g.met.M.Summer.stays_caused; summer_asked = g.met.M.Summer.stays_asked; summer_gave = g.met.M.Summer.stays_given } in
    let i = g.M.Unit.Item in let s = g.S.NodeSource in let m = g.M.Summer in let s0 = c.args.store.now in let u0 = c.args.summer.now in
    let s1 = c.fetch.new.store in let a = c.in_ok-below-in-Inner.ensures.ran in
    let way1 = way_on i s m laws first begun s0 s1 u0 u0 a way in
    let below = c.in_ok-below-in-Inner.ensures.known first begun way in
    let s2 = c.join_back.new.store in let u1 = c.join_back.new.summer in let b = c.in_ok-joined-in-Inner.ensures.ran in
    let one = subst (λ p. KnowsPieces i s m first begun u1 s2 p) c.in_ok-below-in-Inner.ensures.puts (c.in_ok-joined-in-Inner.ensures.sums first begun way1 (node_goes i s m laws first begun s0 s1 u0 u0 a c.args.row row) below) in
    let made = c.in_ok-joined-in-Inner.ensures.known first begun way1 (node_goes i s m laws first begun s0 s1 u0 u0 a c.args.row row) below in
    let s3 = c.place_row.new.store in let u2 = c.place_row.new.summer in
    let p = err_from_is_err_and c.from_residual-in_err-placed-in-Inner.result c.from_residual-in_err-placed-in-Inner.ensures.1 in
    knew_err i s m first begun _ _ _ c.from_residual-in_err-placed-in-Inner.result c.in_err-placed-in-Inner.field-0.0 p.0 p.2 p.1 (known_fails i s m laws first begun s0 s2 s3 u1 u2 c.in_err-placed-in-Inner.field-0.0 c.in_err-placed-in-Inner.ensures.ran one (c.in_err-placed-in-Inner.ensures.sums first begun made))

pub returns-in_err-add_all-in-Inner-clause-sums : goal.returns-in_err-add_all-in-Inner-clause-sums
returns-in_err-add_all-in-Inner-clause-sums g t c first begun way row node =
    let laws : Laws g.S.NodeSource g.M.Summer = record { store_steps = g.met.S.NodeSource.are_steps; store_keeps = g.met.S.NodeSource.keeps; store_caused = g.met.S.NodeSource.stays_caused; summer_steps = g.met.M.Summer.are_steps; summer_keeps = g.met.M.Summer.keeps; summer_caused = g.met.M.Summer.stays_caused; summer_asked = g.met.M.Summer.stays_asked; summer_gave = g.met.M.Summer.stays_given } in
    let i = g.M.Unit.Item in let s = g.S.NodeSource in let m = g.M.Summer in let s0 = c.args.store.now in let u0 = c.args.summer.now in
    let s1 = c.fetch.new.store in let a = c.in_ok-below-in-Inner.ensures.ran in
    let way1 = way_on i s m laws first begun s0 s1 u0 u0 a way in
    let below = c.in_ok-below-in-Inner.ensures.known first begun way in
    let s2 = c.join_back.new.store in let u1 = c.join_back.new.summer in let b = c.in_ok-joined-in-Inner.ensures.ran in
    let one = subst (λ p. KnowsPieces i s m first begun u1 s2 p) c.in_ok-below-in-Inner.ensures.puts (c.in_ok-joined-in-Inner.ensures.sums first begun way1 (node_goes i s m laws first begun s0 s1 u0 u0 a c.args.row row) below) in
    let made = c.in_ok-joined-in-Inner.ensures.known first begun way1 (node_goes i s m laws first begun s0 s1 u0 u0 a c.args.row row) below in
    let s3 = c.place_row.new.store in let u2 = c.place_row.new.summer in
    let p = err_from_is_err_and c.from_residual-in_err-add_all-in-Inner.result c.from_residual-in_err-add_all-in-Inner.ensures.1 in
    knew_err i s m first begun _ _ _ c.from_residual-in_err-add_all-in-Inner.result tree_fault.NoMemory p.0 p.2 p.1 (known_goes i s m laws first begun s0 s2 s3 u1 u2 c.in_ok-placed-in-Inner.ensures.ran one (c.in_ok-placed-in-Inner.ensures.sums first begun made))

pub returns-in_ok-add_all-in-Inner-clause-sums : goal.returns-in_ok-add_all-in-Inner-clause-sums
returns-in_ok-add_all-in-Inner-clause-sums g t c first begun way row node =
    let laws : Laws g.S.NodeSource g.M.Summer = record { store_steps = g.met.S.NodeSource.are_steps; store_keeps = g.met.S.NodeSource.keeps; store_caused = g.met.S.NodeSource.stays_caused; summer_steps = g.met.M.Summer.are_steps; summer_keeps = g.met.M.Summer.keeps; summer_caused = g.met.M.Summer.stays_caused; summer_asked = g.met.M.Summer.stays_asked; summer_gave = g.met.M.Summer.stays_given } in
    let i = g.M.Unit.Item in let s = g.S.NodeSource in let m = g.M.Summer in let s0 = c.args.store.now in let u0 = c.args.summer.now in
    let s1 = c.fetch.new.store in let a = c.in_ok-below-in-Inner.ensures.ran in
    let way1 = way_on i s m laws first begun s0 s1 u0 u0 a way in
    let below = c.in_ok-below-in-Inner.ensures.known first begun way in
    let s2 = c.join_back.new.store in let u1 = c.join_back.new.summer in let b = c.in_ok-joined-in-Inner.ensures.ran in
    let one = subst (λ p. KnowsPieces i s m first begun u1 s2 p) c.in_ok-below-in-Inner.ensures.puts (c.in_ok-joined-in-Inner.ensures.sums first begun way1 (node_goes i s m laws first begun s0 s1 u0 u0 a c.args.row row) below) in
    let made = c.in_ok-joined-in-Inner.ensures.known first begun way1 (node_goes i s m laws first begun s0 s1 u0 u0 a c.args.row row) below in
    let s3 = c.place_row.new.store in let u2 = c.place_row.new.summer in
    known_goes i s m laws first begun s0 s2 s3 u1 u2 c.in_ok-placed-in-Inner.ensures.ran one (c.in_ok-placed-in-Inner.ensures.sums first begun made)

pub returns-then-low-level-clause-known : goal.returns-then-low-level-clause-known
returns-then-low-level-clause-known g t c first begun way row node =
    let laws : Laws g.S.NodeSource g.M.Summer = record { store_steps = g.met.S.NodeSource.are_steps; store_keeps = g.met.S.NodeSource.keeps; store_caused = g.met.S.NodeSource.stays_caused; summer_steps = g.met.M.Summer.are_steps; summer_keeps = g.met.M.Summer.keeps; summer_caused = g.met.M.Summer.stays_caused; summer_asked = g.met.M.Summer.stays_asked; summer_gave = g.met.M.Summer.stays_given } in
    let i = g.M.Unit.Item in let s = g.S.NodeSource in let m = g.M.Summer in let s0 = c.args.store.now in let u0 = c.args.summer.now in
    had_join i m (IsSumRead i s begun s0) first u0 c.in_ok-join_nodes.field-0 c.args.node c.args.row c.in_ok-join_nodes.ensures.split node row

pub returns-in_ok-add_all-in-Inner-clause-known : goal.returns-in_ok-add_all-in-Inner-clause-known
returns-in_ok-add_all-in-Inner-clause-known g t c first begun way row node =
    let laws : Laws g.S.NodeSource g.M.Summer = record { store_steps = g.met.S.NodeSource.are_steps; store_keeps = g.met.S.NodeSource.keeps; store_caused = g.met.S.NodeSource.stays_caused; summer_steps = g.met.M.Summer.are_steps; summer_keeps = g.met.M.Summer.keeps; summer_caused = g.met.M.Summer.stays_caused; summer_asked = g.met.M.Summer.stays_asked; summer_gave = g.met.M.Summer.stays_given } in
    let i = g.M.Unit.Item in let s = g.S.NodeSource in let m = g.M.Summer in let s0 = c.args.store.now in let u0 = c.args.summer.now in
    let s1 = c.fetch.new.store in let a = c.in_ok-below-in-Inner.ensures.ran in
    let way1 = way_on i s m laws first begun s0 s1 u0 u0 a way in
    let below = c.in_ok-below-in-Inner.ensures.known first begun way in
    let s2 = c.join_back.new.store in let u1 = c.join_back.new.summer in let b = c.in_ok-joined-in-Inner.ensures.ran in
    let one = subst (λ p. KnowsPieces i s m first begun u1 s2 p) c.in_ok-below-in-Inner.ensures.puts (c.in_ok-joined-in-Inner.ensures.sums first begun way1 (node_goes i s m laws first begun s0 s1 u0 u0 a c.args.row row) below) in
    let made = c.in_ok-joined-in-Inner.ensures.known first begun way1 (node_goes i s m laws first begun s0 s1 u0 u0 a c.args.row row) below in
    let s3 = c.place_row.new.store in let u2 = c.place_row.new.summer in
    let others = (had_cut i m (IsSumRead i s begun s0) first u0 c.in-Inner.children c.take_last-child.new.list.items (c.take_last-child.result ∷ []) (sym c.into_vec-before.ensures ∙ c.take_last-child.ensures) (subst (KnowsNode i s m first begun u0 s0) c.in-Inner.is node)).0 in
    let ab = goes_on i s m laws s0 s1 s2 u0 u0 u1 a b in
    let abd = goes_on i s m laws s0 s2 s3 u0 u1 u2 ab c.in_ok-placed-in-Inner.ensures.ran in
    let placed = c.in_ok-placed-in-Inner.placed.items in
    let new = had_given i m (IsSumRead i s begun s3) first u2 placed (c.in_ok-placed-in-Inner.ensures.answered first (laws.summer_steps.both first u0 u1 way.goes ab.summer)) in
    let old = row_goes i s m laws first begun s0 s3 u0 u2 abd c.take_last-child.new.list.items others in
    let list : c.from_vec.result ≡ c.take_last-child.new.list.items ++ placed = c.from_vec.ensures ∙ c.in_ok-add_all-in-Inner.ensures in
    subst (KnowsRow i s m first begun u2 s3) (sym list) (had_append i m (IsSumRead i s begun s3) first u2 c.take_last-child.new.list.items placed old new)
