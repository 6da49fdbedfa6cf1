use Rattle.std.proofs.Common.{Contains, rules, arith, inr, ◌≤◌, ◌≡◌, ◌<◌, ◌+◌, ◌∙◌, ◌∷◌, ◌++◌, [], ◌^◌, ap, sym, subst, length, append_assoc, length-append}
use Rattle.tree_laws.specs.declared.node.Node.TheVariants.{Inner}
use Rattle.tree_laws.specs.declared.tree.Fill.TheVariants.{Below}
use Rattle.tree_laws.specs.declared.tree.TreeFault.TheVariants as tree_fault
use Rattle.tree_laws.specs.Fitting.{AreLarge, IsFilled, item_count}
use Rattle.tree_laws.specs.Nodes.{spelled_node}
use Rattle.tree_laws.specs.Stores.{pieces_size}
use Rattle.tree_laws.specs.SummerTrees.{AreChildren, Has, Stands}
use Rattle.tree_laws.proofs.SummerTrees.{children_append, children_one, children_split}
use Rattle.tree_laws.proofs.SummerTrees.{children_stay, stands_stays}
use Rattle.reduce_tree.specs.Built.{Stacked, row_items}
use Rattle.reduce_tree.specs.Calls.{places}
use Rattle.reduce_tree.specs.Packed.{IsCut, Climbs, StandsAt}
use Rattle.std.proofs.lemmas.Result.{err_from_is_err_and}
use Rattle.reduce_tree.proofs.Calls.{Laws, extends_on, fails_on, goes_none, goes_on, known_on, ran_err, told_on}
use Rattle.reduce_tree.proofs.Climb.{grew_on, cut_put, cut_stays, cut_wait, climbs_popped, climbs_push, climbs_stay}
use Rattle.reduce_tree.proofs.Nodes.{above_at_level, filled_large, has_children, large_append, large_back, large_front, large_one}
use Rattle.reduce_tree.proofs.Stacks.{IsRow, count_added, items_cut, items_pop, items_push, popped, rows_pop, rows_push, stacked_push, stacked_stays}
use Rattle.reduce_tree.proofs.Working.{filled_none, filled_on, filled_wider}
use Rattle.reduce_tree.specs.Sums.{AreHad}
use Rattle.reduce_tree.proofs.Had.{gave_fails, gave_goes, given_since, had_added, had_both, had_cut, had_none, had_on, rows_on, rows_popped, rows_stacked}
use Rattle.reduce_tree.proofs.builder.+hand.Goals as goal

pub put_node-requires-clause-some : goal.put_node-requires-clause-some
put_node-requires-clause-some g t c = omega (arith, ap length c.from_vec.ensures, c.in_ok-full.ensures.full)

pub put_node-requires-clause-most : goal.put_node-requires-clause-most
put_node-requires-clause-most g t c = omega (arith, ap length c.from_vec.ensures, c.in_ok-full.ensures.full)

pub put_node-requires-clause-few : goal.put_node-requires-clause-few
put_node-requires-clause-few g t c =
    let all = items_cut c.args.rows.now.items c.pop_row-row.new.rows.items c.pop_row-row.result c.in_ok-list.list.items c.in_ok-full.full.items c.in_ok-full.rest.items c.args.child c.pop_row-row.ensures.items c.in_ok-list.ensures c.in_ok-full.ensures.whole in
    let own : item_count (Inner c.from_vec.result) ≡ item_count (Inner c.in_ok-full.full.items) = ap (λ ds. item_count (Inner ds)) c.from_vec.ensures in
    omega (arith, all, own, c.requires.few)

pub hand-requires : goal.hand-requires
hand-requires g t c =
    let all = items_cut c.args.rows.now.items c.pop_row-row.new.rows.items c.pop_row-row.result c.in_ok-list.list.items c.in_ok-full.full.items c.in_ok-full.rest.items c.args.child c.pop_row-row.ensures.items c.in_ok-list.ensures c.in_ok-full.ensures.whole in
    let own : item_count (Inner c.from_vec.result) ≡ item_count (Inner c.in_ok-full.full.items) = ap (λ ds. item_count (Inner ds)) c.from_vec.ensures in
    let long : 0 < length c.pop_row-row.result = omega (arith, ap length c.in_ok-list.ensures, length-append c.pop_row-row.result (c.args.child ∷ []), c.len.ensures, c.if-len-lt40.false) in
    let less = c.pop_row-row.ensures.less long in
    let few : row_items c.pop_row-row.new.rows.items + c.in_ok-parent.parent.count ≤ 2 ^ 40 = omega (arith, all, own, c.requires.few, c.in_ok-parent.ensures.count) in
    search (rules, arith, less, few)

pub returns-then-len-lt40-clause-items : goal.returns-then-len-lt40-clause-items
returns-then-len-lt40-clause-items g t c first low xs mid known st one =
    let i = g.M.Unit.Item in
    let m = g.M.Summer in
    let n0 = places (g.S.NodeSource.nodes c.args.store.now) in
    let row = c.pop_row-row.result in
    let above = c.pop_row-row.new.rows.items in
    let list = c.in_ok-list.list.items in
    let P = Stands i m first n0 low in
    let j = popped i m first n0 low c.args.rows.now.items above row xs c.pop_row-row.ensures.items st in
    let all = subst (λ ds. AreChildren i m first P ds (j.back ++ mid)) (sym c.in_ok-list.ensures) (children_append i m first P row (c.args.child ∷ []) j.back mid j.at_back (children_one i m first P c.args.child mid one)) in
    let whole : j.front ++ (j.back ++ mid) ≡ xs ++ mid = sym (append_assoc j.front j.back mid) ∙ ap (λ u. u ++ mid) (sym j.whole) in
    let r = stacked_push i m first n0 low above list j.front (j.back ++ mid) j.at_front all in
    subst (λ u. Stacked i m first n0 low c.stack_row.new.rows.items u) whole (subst (λ rs. Stacked i m first n0 low rs (j.front ++ (j.back ++ mid))) (sym c.in_ok-stack_row.ensures) r)

pub returns-then-len-lt40-clause-climbs : goal.returns-then-len-lt40-clause-climbs
returns-then-len-lt40-clause-climbs g t c there below taken told h =
    let i = g.M.Unit.Item in
    let n0 = places (g.S.NodeSource.nodes c.args.store.now) in
    let row = c.pop_row-row.result in
    let above = c.pop_row-row.new.rows.items in
    let list = c.in_ok-list.list.items in
    let all = below ++ (c.args.child ∷ []) in
    let k = climbs_popped i n0 c.args.rows.now.items above row below taken c.pop_row-row.ensures.items h in
    let cut = subst (λ r. IsCut i n0 Inner all r k.given k.own) (sym c.in_ok-list.ensures) (cut_wait i Inner n0 below row k.given k.own c.args.child k.cut) in
    let r = climbs_push i n0 above list [] k.given all k.own k.more k.climbs cut (omega (arith, length-append below (c.args.child ∷ []))) in
    (k.own + k.more, omega (arith, k.sum), subst (λ rs. Climbs i n0 rs [] all (k.own + k.more)) (sym c.in_ok-stack_row.ensures) r)

pub returns-then-len-lt40-clause-rows : goal.returns-then-len-lt40-clause-rows
returns-then-len-lt40-clause-rows g t c low rows large =
    let row = c.pop_row-row.result in
    let above = c.pop_row-row.new.rows.items in
    let list = c.in_ok-list.list.items in
    let k = rows_pop low c.args.rows.now.items above row c.pop_row-row.ensures.items rows in
    let long = ap length c.in_ok-list.ensures ∙ length-append row (c.args.child ∷ []) in
    let all = subst (λ ds. AreLarge (low + 1) (Inner ds)) (sym c.in_ok-list.ensures) (large_append (low + 1) row (c.args.child ∷ []) k.0.large (large_one (low + 1) c.args.child large)) in
    let one : IsRow 1 low list = record { some = omega (arith, long); few = omega (arith, c.len.ensures, c.if-len-lt40.true); large = all } in
    rows_push low above c.stack_row.new.rows.items list c.in_ok-stack_row.ensures k.0.rows one (λ s. let eight = k.0.wait s in omega (arith, long, eight))

pub returns-then-len-lt40-clause-count : goal.returns-then-len-lt40-clause-count
returns-then-len-lt40-clause-count g t c =
    let row = c.pop_row-row.result in
    let above = c.pop_row-row.new.rows.items in
    let list = c.in_ok-list.list.items in
    omega (arith, items_pop c.args.rows.now.items above row c.pop_row-row.ensures.items, items_push above c.stack_row.new.rows.items list c.in_ok-stack_row.ensures, count_added list row c.args.child c.in_ok-list.ensures)

pub returns-then-len-lt40-clause-ran : goal.returns-then-len-lt40-clause-ran
returns-then-len-lt40-clause-ran g t c =
    let laws : Laws g.S.NodeSource g.M.Summer = record { store_steps = g.met.S.NodeSource.are_steps; store_keeps = g.met.S.NodeSource.keeps; store_caused = g.met.S.NodeSource.stays_caused; summer_steps = g.met.M.Summer.are_steps; summer_keeps = g.met.M.Summer.keeps; summer_caused = g.met.M.Summer.stays_caused; summer_asked = g.met.M.Summer.stays_asked; summer_gave = g.met.M.Summer.stays_given } in
    goes_none g.M.Unit.Item g.S.NodeSource g.M.Summer laws c.args.store.now c.args.summer.now

pub returns-clause-items : goal.returns-clause-items
returns-clause-items g t c first low xs mid known st one =
    let laws : Laws g.S.NodeSource g.M.Summer = record { store_steps = g.met.S.NodeSource.are_steps; store_keeps = g.met.S.NodeSource.keeps; store_caused = g.met.S.NodeSource.stays_caused; summer_steps = g.met.M.Summer.are_steps; summer_keeps = g.met.M.Summer.keeps; summer_caused = g.met.M.Summer.stays_caused; summer_asked = g.met.M.Summer.stays_asked; summer_gave = g.met.M.Summer.stays_given } in
    let i = g.M.Unit.Item in
    let m = g.M.Summer in
    let s0 = c.args.store.now in
    let s1 = c.put_node.new.store in
    let s2 = c.hand.new.store in
    let u0 = c.args.summer.now in
    let u1 = c.put_node.new.summer in
    let u2 = c.hand.new.summer in
    let n0 = places (g.S.NodeSource.nodes s0) in
    let n1 = places (g.S.NodeSource.nodes s1) in
    let n2 = places (g.S.NodeSource.nodes s2) in
    let e01 = extends_on g.M.Unit.Item g.S.NodeSource m laws s0 s1 u0 u1 c.in_ok-parent.ensures.ran in
    let e12 = extends_on g.M.Unit.Item g.S.NodeSource m laws s1 s2 u1 u2 c.in_ok-hand.ensures.ran in
    let row = c.pop_row-row.result in
    let above = c.pop_row-row.new.rows.items in
    let list = c.in_ok-list.list.items in
    let full = c.in_ok-full.full.items in
    let rest = c.in_ok-full.rest.items in
    let is : c.from_vec.result ≡ full = c.from_vec.ensures in
    let P = Stands i m first n0 low in
    let j = popped i m first n0 low c.args.rows.now.items above row xs c.pop_row-row.ensures.items st in
    let all = subst (λ ds. AreChildren i m first P ds (j.back ++ mid)) (sym c.in_ok-list.ensures) (children_append i m first P row (c.args.child ∷ []) j.back mid j.at_back (children_one i m first P c.args.child mid one)) in
    let whole : j.front ++ (j.back ++ mid) ≡ xs ++ mid = sym (append_assoc j.front j.back mid) ∙ ap (λ u. u ++ mid) (sym j.whole) in
    let k = children_split i m first P full rest (j.back ++ mid) (subst (λ ds. AreChildren i m first P ds (j.back ++ mid)) c.in_ok-full.ensures.whole all) in
    let has = subst (λ ds. Has i m first n0 (low + 1) (Inner ds) k.front) (sym is) (has_children i m first n0 low full k.front k.at_front) in
    let fill : IsFilled Below (Inner c.from_vec.result) = record { least = omega (arith, ap length is, c.in_ok-full.ensures.full); most = omega (arith, ap length is, c.in_ok-full.ensures.full) } in
    let parent = c.in_ok-parent.ensures.child first (low + 1) k.front known fill has in
    let above1 = stacked_stays i m first n0 n1 e01 (low + 1) above j.front j.at_front in
    let says = c.in_ok-hand.ensures.items first (low + 1) j.front k.front (known_on g.M.Unit.Item g.S.NodeSource m laws first s0 s1 u0 u1 known c.in_ok-parent.ensures.ran) above1 parent in
    let rest1 = children_stay i m first P (Stands i m first n1 low) (stands_stays i m first n0 n1 e01 low) rest k.back k.at_back in
    let rest2 = children_stay i m first (Stands i m first n1 low) (Stands i m first n2 low) (stands_stays i m first n1 n2 e12 low) rest k.back rest1 in
    let r = stacked_push i m first n2 low c.hand.new.rows.items rest (j.front ++ k.front) k.back says rest2 in
    let whole2 : (j.front ++ k.front) ++ k.back ≡ xs ++ mid = append_assoc j.front k.front k.back ∙ ap (λ u. j.front ++ u) (sym k.whole) ∙ whole in
    subst (λ u. Stacked i m first n2 low c.stack_row-2.new.rows.items u) whole2 (subst (λ rs. Stacked i m first n2 low rs ((j.front ++ k.front) ++ k.back)) (sym c.in_ok-stack_row-2.ensures) r)

pub returns-clause-climbs : goal.returns-clause-climbs
returns-clause-climbs g t c there below taken told h =
    let laws : Laws g.S.NodeSource g.M.Summer = record { store_steps = g.met.S.NodeSource.are_steps; store_keeps = g.met.S.NodeSource.keeps; store_caused = g.met.S.NodeSource.stays_caused; summer_steps = g.met.M.Summer.are_steps; summer_keeps = g.met.M.Summer.keeps; summer_caused = g.met.M.Summer.stays_caused; summer_asked = g.met.M.Summer.stays_asked; summer_gave = g.met.M.Summer.stays_given } in
    let i = g.M.Unit.Item in
    let m = g.M.Summer in
    let s0 = c.args.store.now in
    let s1 = c.put_node.new.store in
    let s2 = c.hand.new.store in
    let u0 = c.args.summer.now in
    let u1 = c.put_node.new.summer in
    let u2 = c.hand.new.summer in
    let n0 = places (g.S.NodeSource.nodes s0) in
    let n1 = places (g.S.NodeSource.nodes s1) in
    let n2 = places (g.S.NodeSource.nodes s2) in
    let e01 = extends_on g.M.Unit.Item g.S.NodeSource m laws s0 s1 u0 u1 c.in_ok-parent.ensures.ran in
    let e12 = extends_on g.M.Unit.Item g.S.NodeSource m laws s1 s2 u1 u2 c.in_ok-hand.ensures.ran in
    let row = c.pop_row-row.result in
    let above = c.pop_row-row.new.rows.items in
    let list = c.in_ok-list.list.items in
    let full = c.in_ok-full.full.items in
    let rest = c.in_ok-full.rest.items in
    let is : c.from_vec.result ≡ full = c.from_vec.ensures in
    let all = below ++ (c.args.child ∷ []) in
    let parent = c.in_ok-parent.parent in
    let mid = told_on (g.S.NodeSource.nodes s0) (g.S.NodeSource.nodes s1) there told (laws.store_keeps s0 s1 c.in_ok-parent.ensures.ran.store) in
    let k = climbs_popped i n0 c.args.rows.now.items above row below taken c.pop_row-row.ensures.items h in
    let cut = subst (λ r. IsCut i n0 Inner all r k.given k.own) (sym c.in_ok-list.ensures) (cut_wait i Inner n0 below row k.given k.own c.args.child k.cut) in
    let long = ap length c.in_ok-full.ensures.whole ∙ length-append full rest in
    let few : 8 ≤ length rest = omega (arith, long, c.in_ok-full.ensures.full, c.len.ensures, c.if-len-lt40.false) in
    let at = subst (λ ds. StandsAt i n1 parent.at (Inner ds)) is (c.in_ok-parent.ensures.stored there told) in
    let one = pieces_size (spelled_node i.spelled (Inner full) ∷ []) in
    let own = k.own + one in
    let takes = c.in_ok-parent.ensures.takes ∙ ap (λ ds. g.S.NodeSource.size s0 + pieces_size (spelled_node i.spelled (Inner ds) ∷ [])) is in
    let cut1 = cut_put i Inner n1 all list full rest k.given k.own parent (cut_stays i Inner n0 n1 e01 all list k.given k.own cut) c.in_ok-full.ensures.whole c.in_ok-full.ensures.full few at in
    let up = c.in_ok-hand.ensures.climbs mid.0 k.given k.more mid.1 (climbs_stay i n0 n1 e01 above [] k.given k.more k.climbs) in
    let cut2 = cut_stays i Inner n1 n2 e12 all rest (k.given ++ (parent ∷ [])) own cut1 in
    let r = climbs_push i n2 c.hand.new.rows.items rest [] (k.given ++ (parent ∷ [])) all own up.0 up.2 cut2 (omega (arith, length-append below (c.args.child ∷ []))) in
    (own + up.0, grew_on (g.S.NodeSource.size s0) (g.S.NodeSource.size s1) (g.S.NodeSource.size s2) taken k.own k.more one up.0 k.sum takes up.1, subst (λ rs. Climbs i n2 rs [] all (own + up.0)) (sym c.in_ok-stack_row-2.ensures) r)

pub returns-clause-rows : goal.returns-clause-rows
returns-clause-rows g t c low rows large =
    let row = c.pop_row-row.result in
    let above = c.pop_row-row.new.rows.items in
    let list = c.in_ok-list.list.items in
    let full = c.in_ok-full.full.items in
    let rest = c.in_ok-full.rest.items in
    let is : c.from_vec.result ≡ full = c.from_vec.ensures in
    let k = rows_pop low c.args.rows.now.items above row c.pop_row-row.ensures.items rows in
    let long = ap length c.in_ok-list.ensures ∙ length-append row (c.args.child ∷ []) in
    let parts = ap length c.in_ok-full.ensures.whole ∙ length-append full rest in
    let all = subst (λ ds. AreLarge (low + 1) (Inner ds)) (sym c.in_ok-list.ensures) (large_append (low + 1) row (c.args.child ∷ []) k.0.large (large_one (low + 1) c.args.child large)) in
    let both = subst (λ ds. AreLarge (low + 1) (Inner ds)) c.in_ok-full.ensures.whole all in
    let first = subst (λ ds. AreLarge (low + 1) (Inner ds)) (sym is) (large_front (low + 1) full rest both) in
    let many = filled_large (low + 1) (Inner c.from_vec.result) (above_at_level low c.from_vec.result) first (omega (arith, ap length is, c.in_ok-full.ensures.full)) in
    let up = c.in_ok-hand.ensures.rows (low + 1) k.0.rows (subst (λ n. 8 ^ ((low + 1) + 1) ≤ n) (sym c.in_ok-parent.ensures.count) many) in
    let few : length rest ≡ 8 = omega (arith, long, parts, c.in_ok-full.ensures.full, k.0.few, c.len.ensures, c.if-len-lt40.false) in
    let one : IsRow 1 low rest = record { some = omega (arith, few); few = omega (arith, few); large = large_back (low + 1) full rest both } in
    rows_push low c.hand.new.rows.items c.stack_row-2.new.rows.items rest c.in_ok-stack_row-2.ensures up one (λ s. omega (arith, few))

pub returns-clause-count : goal.returns-clause-count
returns-clause-count g t c =
    let all = items_cut c.args.rows.now.items c.pop_row-row.new.rows.items c.pop_row-row.result c.in_ok-list.list.items c.in_ok-full.full.items c.in_ok-full.rest.items c.args.child c.pop_row-row.ensures.items c.in_ok-list.ensures c.in_ok-full.ensures.whole in
    let own : item_count (Inner c.from_vec.result) ≡ item_count (Inner c.in_ok-full.full.items) = ap (λ ds. item_count (Inner ds)) c.from_vec.ensures in
    omega (arith, all, own, c.in_ok-parent.ensures.count, c.in_ok-hand.ensures.count, items_push c.hand.new.rows.items c.stack_row-2.new.rows.items c.in_ok-full.rest.items c.in_ok-stack_row-2.ensures)

pub returns-clause-grows : goal.returns-clause-grows
returns-clause-grows g t c = omega (arith, c.in_ok-parent.ensures.leaf, c.in_ok-hand.ensures.grows)

pub returns-clause-ran : goal.returns-clause-ran
returns-clause-ran g t c =
    let laws : Laws g.S.NodeSource g.M.Summer = record { store_steps = g.met.S.NodeSource.are_steps; store_keeps = g.met.S.NodeSource.keeps; store_caused = g.met.S.NodeSource.stays_caused; summer_steps = g.met.M.Summer.are_steps; summer_keeps = g.met.M.Summer.keeps; summer_caused = g.met.M.Summer.stays_caused; summer_asked = g.met.M.Summer.stays_asked; summer_gave = g.met.M.Summer.stays_given } in
    goes_on g.M.Unit.Item g.S.NodeSource g.M.Summer laws c.args.store.now c.put_node.new.store c.hand.new.store c.args.summer.now c.put_node.new.summer c.hand.new.summer c.in_ok-parent.ensures.ran c.in_ok-hand.ensures.ran

pub returns-in_err-hand-clause-ran : goal.returns-in_err-hand-clause-ran
returns-in_err-hand-clause-ran g t c =
    let laws : Laws g.S.NodeSource g.M.Summer = record { store_steps = g.met.S.NodeSource.are_steps; store_keeps = g.met.S.NodeSource.keeps; store_caused = g.met.S.NodeSource.stays_caused; summer_steps = g.met.M.Summer.are_steps; summer_keeps = g.met.M.Summer.keeps; summer_caused = g.met.M.Summer.stays_caused; summer_asked = g.met.M.Summer.stays_asked; summer_gave = g.met.M.Summer.stays_given } in
    let p = err_from_is_err_and c.from_residual-in_err-hand.result c.from_residual-in_err-hand.ensures.1 in
    ran_err g.M.Unit.Item g.S.NodeSource g.M.Summer laws _ _ _ _ c.from_residual-in_err-hand.result c.in_err-hand.field-0.0 p.0 p.2 p.1 (fails_on g.M.Unit.Item g.S.NodeSource g.M.Summer laws c.args.store.now c.put_node.new.store c.hand.new.store c.args.summer.now c.put_node.new.summer c.hand.new.summer c.in_ok-parent.ensures.ran _ c.in_err-hand.ensures.ran)

pub returns-in_err-stack_row-2-clause-ran : goal.returns-in_err-stack_row-2-clause-ran
returns-in_err-stack_row-2-clause-ran g t c =
    let laws : Laws g.S.NodeSource g.M.Summer = record { store_steps = g.met.S.NodeSource.are_steps; store_keeps = g.met.S.NodeSource.keeps; store_caused = g.met.S.NodeSource.stays_caused; summer_steps = g.met.M.Summer.are_steps; summer_keeps = g.met.M.Summer.keeps; summer_caused = g.met.M.Summer.stays_caused; summer_asked = g.met.M.Summer.stays_asked; summer_gave = g.met.M.Summer.stays_given } in
    let p = err_from_is_err_and c.from_residual-in_err-stack_row-2.result c.from_residual-in_err-stack_row-2.ensures.1 in
    ran_err g.M.Unit.Item g.S.NodeSource g.M.Summer laws _ _ _ _ c.from_residual-in_err-stack_row-2.result tree_fault.NoMemory p.0 p.2 p.1 (goes_on g.M.Unit.Item g.S.NodeSource g.M.Summer laws c.args.store.now c.put_node.new.store c.hand.new.store c.args.summer.now c.put_node.new.summer c.hand.new.summer c.in_ok-parent.ensures.ran c.in_ok-hand.ensures.ran)

pub returns-in_err-list-clause-filled : goal.returns-in_err-list-clause-filled
returns-in_err-list-clause-filled g t c = filled_none g.M.Unit.Item _ _ (g.S.NodeSource.puts c.args.store.now)

pub returns-in_err-stack_row-clause-filled : goal.returns-in_err-stack_row-clause-filled
returns-in_err-stack_row-clause-filled g t c = filled_none g.M.Unit.Item _ _ (g.S.NodeSource.puts c.args.store.now)

pub returns-then-len-lt40-clause-filled : goal.returns-then-len-lt40-clause-filled
returns-then-len-lt40-clause-filled g t c = filled_none g.M.Unit.Item _ _ (g.S.NodeSource.puts c.args.store.now)

pub returns-in_err-full-clause-filled : goal.returns-in_err-full-clause-filled
returns-in_err-full-clause-filled g t c = filled_none g.M.Unit.Item _ _ (g.S.NodeSource.puts c.args.store.now)

pub returns-in_err-list-clause-ran : goal.returns-in_err-list-clause-ran
returns-in_err-list-clause-ran g t c =
    let laws : Laws g.S.NodeSource g.M.Summer = record { store_steps = g.met.S.NodeSource.are_steps; store_keeps = g.met.S.NodeSource.keeps; store_caused = g.met.S.NodeSource.stays_caused; summer_steps = g.met.M.Summer.are_steps; summer_keeps = g.met.M.Summer.keeps; summer_caused = g.met.M.Summer.stays_caused; summer_asked = g.met.M.Summer.stays_asked; summer_gave = g.met.M.Summer.stays_given } in
    let p = err_from_is_err_and c.from_residual.result c.from_residual.ensures.1 in
    ran_err g.M.Unit.Item g.S.NodeSource g.M.Summer laws _ _ _ _ c.from_residual.result tree_fault.NoMemory p.0 p.2 p.1 (goes_none g.M.Unit.Item g.S.NodeSource g.M.Summer laws c.args.store.now c.args.summer.now)

pub returns-in_err-stack_row-clause-ran : goal.returns-in_err-stack_row-clause-ran
returns-in_err-stack_row-clause-ran g t c =
    let laws : Laws g.S.NodeSource g.M.Summer = record { store_steps = g.met.S.NodeSource.are_steps; store_keeps = g.met.S.NodeSource.keeps; store_caused = g.met.S.NodeSource.stays_caused; summer_steps = g.met.M.Summer.are_steps; summer_keeps = g.met.M.Summer.keeps; summer_caused = g.met.M.Summer.stays_caused; summer_asked = g.met.M.Summer.stays_asked; summer_gave = g.met.M.Summer.stays_given } in
    let p = err_from_is_err_and c.from_residual-in_err-stack_row.result c.from_residual-in_err-stack_row.ensures.1 in
    ran_err g.M.Unit.Item g.S.NodeSource g.M.Summer laws _ _ _ _ c.from_residual-in_err-stack_row.result tree_fault.NoMemory p.0 p.2 p.1 (goes_none g.M.Unit.Item g.S.NodeSource g.M.Summer laws c.args.store.now c.args.summer.now)

pub returns-in_err-full-clause-ran : goal.returns-in_err-full-clause-ran
returns-in_err-full-clause-ran g t c =
    let laws : Laws g.S.NodeSource g.M.Summer = record { store_steps = g.met.S.NodeSource.are_steps; store_keeps = g.met.S.NodeSource.keeps; store_caused = g.met.S.NodeSource.stays_caused; summer_steps = g.met.M.Summer.are_steps; summer_keeps = g.met.M.Summer.keeps; summer_caused = g.met.M.Summer.stays_caused; summer_asked = g.met.M.Summer.stays_asked; summer_gave = g.met.M.Summer.stays_given } in
    let p = err_from_is_err_and c.from_residual-in_err-full.result c.from_residual-in_err-full.ensures.1 in
    ran_err g.M.Unit.Item g.S.NodeSource g.M.Summer laws _ _ _ _ c.from_residual-in_err-full.result tree_fault.NoMemory p.0 p.2 p.1 (goes_none g.M.Unit.Item g.S.NodeSource g.M.Summer laws c.args.store.now c.args.summer.now)

pub returns-in_err-parent-clause-filled : goal.returns-in_err-parent-clause-filled
returns-in_err-parent-clause-filled g t c =
    let own : length c.from_vec.result ≡ 32 = omega (arith, ap length c.from_vec.ensures, c.in_ok-full.ensures.full) in
    filled_wider g.M.Unit.Item _ _ 32 32 (omega (arith, own)) (omega (arith, own)) _ _ c.in_err-parent.ensures.filled

pub returns-in_err-parent-clause-puts : goal.returns-in_err-parent-clause-puts
returns-in_err-parent-clause-puts g t c =
    let long : 0 < length c.pop_row-row.result = omega (arith, ap length c.in_ok-list.ensures, length-append c.pop_row-row.result (c.args.child ∷ []), c.len.ensures, c.if-len-lt40.false) in
    let less = c.pop_row-row.ensures.less long in
    omega (arith, less, c.in_err-parent.ensures.puts)

pub returns-in_err-hand-clause-filled : goal.returns-in_err-hand-clause-filled
returns-in_err-hand-clause-filled g t c =
    let own : length c.from_vec.result ≡ 32 = omega (arith, ap length c.from_vec.ensures, c.in_ok-full.ensures.full) in
    filled_on g.M.Unit.Item 32 32 (g.S.NodeSource.puts c.args.store.now) (g.S.NodeSource.puts c.put_node.new.store) (g.S.NodeSource.puts c.hand.new.store) (filled_wider g.M.Unit.Item _ _ 32 32 (omega (arith, own)) (omega (arith, own)) _ _ c.in_ok-parent.ensures.filled) c.in_err-hand.ensures.filled

pub returns-in_err-hand-clause-puts : goal.returns-in_err-hand-clause-puts
returns-in_err-hand-clause-puts g t c =
    let long : 0 < length c.pop_row-row.result = omega (arith, ap length c.in_ok-list.ensures, length-append c.pop_row-row.result (c.args.child ∷ []), c.len.ensures, c.if-len-lt40.false) in
    let less = c.pop_row-row.ensures.less long in
    omega (arith, less, c.in_ok-parent.ensures.puts, c.in_err-hand.ensures.puts)

pub returns-in_err-stack_row-2-clause-filled : goal.returns-in_err-stack_row-2-clause-filled
returns-in_err-stack_row-2-clause-filled g t c =
    let own : length c.from_vec.result ≡ 32 = omega (arith, ap length c.from_vec.ensures, c.in_ok-full.ensures.full) in
    filled_on g.M.Unit.Item 32 32 (g.S.NodeSource.puts c.args.store.now) (g.S.NodeSource.puts c.put_node.new.store) (g.S.NodeSource.puts c.hand.new.store) (filled_wider g.M.Unit.Item _ _ 32 32 (omega (arith, own)) (omega (arith, own)) _ _ c.in_ok-parent.ensures.filled) c.in_ok-hand.ensures.filled

pub returns-in_err-stack_row-2-clause-puts : goal.returns-in_err-stack_row-2-clause-puts
returns-in_err-stack_row-2-clause-puts g t c =
    let long : 0 < length c.pop_row-row.result = omega (arith, ap length c.in_ok-list.ensures, length-append c.pop_row-row.result (c.args.child ∷ []), c.len.ensures, c.if-len-lt40.false) in
    let less = c.pop_row-row.ensures.less long in
    omega (arith, less, c.in_ok-parent.ensures.puts, c.in_ok-hand.ensures.puts)

pub returns-clause-filled : goal.returns-clause-filled
returns-clause-filled g t c =
    let own : length c.from_vec.result ≡ 32 = omega (arith, ap length c.from_vec.ensures, c.in_ok-full.ensures.full) in
    filled_on g.M.Unit.Item 32 32 (g.S.NodeSource.puts c.args.store.now) (g.S.NodeSource.puts c.put_node.new.store) (g.S.NodeSource.puts c.hand.new.store) (filled_wider g.M.Unit.Item _ _ 32 32 (omega (arith, own)) (omega (arith, own)) _ _ c.in_ok-parent.ensures.filled) c.in_ok-hand.ensures.filled

pub returns-clause-puts : goal.returns-clause-puts
returns-clause-puts g t c =
    let long : 0 < length c.pop_row-row.result = omega (arith, ap length c.in_ok-list.ensures, length-append c.pop_row-row.result (c.args.child ∷ []), c.len.ensures, c.if-len-lt40.false) in
    let less = c.pop_row-row.ensures.less long in
    omega (arith, less, c.in_ok-parent.ensures.puts, c.in_ok-hand.ensures.puts)

pub returns-in_err-list-clause-sums : goal.returns-in_err-list-clause-sums
returns-in_err-list-clause-sums g t c first had goes rows child = had_none g.M.Unit.Item g.M.Summer (Contains had) first c.args.summer.now (g.S.NodeSource.puts c.args.store.now)

pub returns-in_err-stack_row-clause-sums : goal.returns-in_err-stack_row-clause-sums
returns-in_err-stack_row-clause-sums g t c first had goes rows child = had_none g.M.Unit.Item g.M.Summer (Contains had) first c.args.summer.now (g.S.NodeSource.puts c.args.store.now)

pub returns-then-len-lt40-clause-sums : goal.returns-then-len-lt40-clause-sums
returns-then-len-lt40-clause-sums g t c first had goes rows child = had_none g.M.Unit.Item g.M.Summer (Contains had) first c.args.summer.now (g.S.NodeSource.puts c.args.store.now)

pub returns-in_err-full-clause-sums : goal.returns-in_err-full-clause-sums
returns-in_err-full-clause-sums g t c first had goes rows child = had_none g.M.Unit.Item g.M.Summer (Contains had) first c.args.summer.now (g.S.NodeSource.puts c.args.store.now)

pub returns-in_err-parent-clause-sums : goal.returns-in_err-parent-clause-sums
returns-in_err-parent-clause-sums g t c first had goes rows child =
    let laws : Laws g.S.NodeSource g.M.Summer = record { store_steps = g.met.S.NodeSource.are_steps; store_keeps = g.met.S.NodeSource.keeps; store_caused = g.met.S.NodeSource.stays_caused; summer_steps = g.met.M.Summer.are_steps; summer_keeps = g.met.M.Summer.keeps; summer_caused = g.met.M.Summer.stays_caused; summer_asked = g.met.M.Summer.stays_asked; summer_gave = g.met.M.Summer.stays_given } in
    let i = g.M.Unit.Item in let s = g.S.NodeSource in let m = g.M.Summer in let s0 = c.args.store.now in let u0 = c.args.summer.now in
    let popped = rows_popped i m (Contains had) first u0 c.args.rows.now.items c.pop_row-row.new.rows.items c.pop_row-row.result c.pop_row-row.ensures.items rows in
    let list = had_added i m (Contains had) first u0 c.pop_row-row.result c.in_ok-list.list.items c.args.child c.in_ok-list.ensures popped.1 child in
    let cut = had_cut i m (Contains had) first u0 c.in_ok-list.list.items c.in_ok-full.full.items c.in_ok-full.rest.items c.in_ok-full.ensures.whole list in
    let full = subst (AreHad i m (Contains had) first u0) (sym c.from_vec.ensures) cut.0 in
    c.in_err-parent.ensures.sums first had full

pub returns-in_err-hand-clause-sums : goal.returns-in_err-hand-clause-sums
returns-in_err-hand-clause-sums g t c first had goes rows child =
    let laws : Laws g.S.NodeSource g.M.Summer = record { store_steps = g.met.S.NodeSource.are_steps; store_keeps = g.met.S.NodeSource.keeps; store_caused = g.met.S.NodeSource.stays_caused; summer_steps = g.met.M.Summer.are_steps; summer_keeps = g.met.M.Summer.keeps; summer_caused = g.met.M.Summer.stays_caused; summer_asked = g.met.M.Summer.stays_asked; summer_gave = g.met.M.Summer.stays_given } in
    let i = g.M.Unit.Item in let s = g.S.NodeSource in let m = g.M.Summer in let s0 = c.args.store.now in let u0 = c.args.summer.now in
    let u1 = c.put_node.new.summer in let u2 = c.hand.new.summer in let s1 = c.put_node.new.store in let s2 = c.hand.new.store in
    let popped = rows_popped i m (Contains had) first u0 c.args.rows.now.items c.pop_row-row.new.rows.items c.pop_row-row.result c.pop_row-row.ensures.items rows in
    let list = had_added i m (Contains had) first u0 c.pop_row-row.result c.in_ok-list.list.items c.args.child c.in_ok-list.ensures popped.1 child in
    let cut = had_cut i m (Contains had) first u0 c.in_ok-list.list.items c.in_ok-full.full.items c.in_ok-full.rest.items c.in_ok-full.ensures.whole list in
    let full = subst (AreHad i m (Contains had) first u0) (sym c.from_vec.ensures) cut.0 in
    let ran = c.in_ok-parent.ensures.ran in
    let on = gave_goes s m laws first u0 u1 ran.summer in
    let above = rows_on i m (Contains had) first u0 u1 on c.pop_row-row.new.rows.items popped.0 in
    let parent = given_since s m laws first u0 u1 goes c.in_ok-parent.parent.sum c.in_ok-parent.ensures.gave in
    let later = laws.summer_steps.both first u0 u1 goes ran.summer in
    let one = c.in_ok-parent.ensures.sums first had full in
    had_both i m (Contains had) first u1 u2 (gave_fails s m laws first i s1 s2 u1 u2 c.in_err-hand.field-0.0 c.in_err-hand.ensures.ran) (s.puts s0) (s.puts s1) (s.puts s2) one (c.in_err-hand.ensures.sums first had later above (inr parent))

pub returns-in_err-stack_row-2-clause-sums : goal.returns-in_err-stack_row-2-clause-sums
returns-in_err-stack_row-2-clause-sums g t c first had goes rows child =
    let laws : Laws g.S.NodeSource g.M.Summer = record { store_steps = g.met.S.NodeSource.are_steps; store_keeps = g.met.S.NodeSource.keeps; store_caused = g.met.S.NodeSource.stays_caused; summer_steps = g.met.M.Summer.are_steps; summer_keeps = g.met.M.Summer.keeps; summer_caused = g.met.M.Summer.stays_caused; summer_asked = g.met.M.Summer.stays_asked; summer_gave = g.met.M.Summer.stays_given } in
    let i = g.M.Unit.Item in let s = g.S.NodeSource in let m = g.M.Summer in let s0 = c.args.store.now in let u0 = c.args.summer.now in
    let u1 = c.put_node.new.summer in let u2 = c.hand.new.summer in let s1 = c.put_node.new.store in let s2 = c.hand.new.store in
    let popped = rows_popped i m (Contains had) first u0 c.args.rows.now.items c.pop_row-row.new.rows.items c.pop_row-row.result c.pop_row-row.ensures.items rows in
    let list = had_added i m (Contains had) first u0 c.pop_row-row.result c.in_ok-list.list.items c.args.child c.in_ok-list.ensures popped.1 child in
    let cut = had_cut i m (Contains had) first u0 c.in_ok-list.list.items c.in_ok-full.full.items c.in_ok-full.rest.items c.in_ok-full.ensures.whole list in
    let full = subst (AreHad i m (Contains had) first u0) (sym c.from_vec.ensures) cut.0 in
    let ran = c.in_ok-parent.ensures.ran in
    let on = gave_goes s m laws first u0 u1 ran.summer in
    let above = rows_on i m (Contains had) first u0 u1 on c.pop_row-row.new.rows.items popped.0 in
    let parent = given_since s m laws first u0 u1 goes c.in_ok-parent.parent.sum c.in_ok-parent.ensures.gave in
    let later = laws.summer_steps.both first u0 u1 goes ran.summer in
    let one = c.in_ok-parent.ensures.sums first had full in
    had_both i m (Contains had) first u1 u2 (gave_goes s m laws first u1 u2 c.in_ok-hand.ensures.ran.summer) (s.puts s0) (s.puts s1) (s.puts s2) one (c.in_ok-hand.ensures.sums first had later above (inr parent))

pub returns-clause-sums : goal.returns-clause-sums
returns-clause-sums g t c first had goes rows child =
    let laws : Laws g.S.NodeSource g.M.Summer = record { store_steps = g.met.S.NodeSource.are_steps; store_keeps = g.met.S.NodeSource.keeps; store_caused = g.met.S.NodeSource.stays_caused; summer_steps = g.met.M.Summer.are_steps; summer_keeps = g.met.M.Summer.keeps; summer_caused = g.met.M.Summer.stays_caused; summer_asked = g.met.M.Summer.stays_asked; summer_gave = g.met.M.Summer.stays_given } in
    let i = g.M.Unit.Item in let s = g.S.NodeSource in let m = g.M.Summer in let s0 = c.args.store.now in let u0 = c.args.summer.now in
    let u1 = c.put_node.new.summer in let u2 = c.hand.new.summer in let s1 = c.put_node.new.store in let s2 = c.hand.new.store in
    let popped = rows_popped i m (Contains had) first u0 c.args.rows.now.items c.pop_row-row.new.rows.items c.pop_row-row.result c.pop_row-row.ensures.items rows in
    let list = had_added i m (Contains had) first u0 c.pop_row-row.result c.in_ok-list.list.items c.args.child c.in_ok-list.ensures popped.1 child in
    let cut = had_cut i m (Contains had) first u0 c.in_ok-list.list.items c.in_ok-full.full.items c.in_ok-full.rest.items c.in_ok-full.ensures.whole list in
    let full = subst (AreHad i m (Contains had) first u0) (sym c.from_vec.ensures) cut.0 in
    let ran = c.in_ok-parent.ensures.ran in
    let on = gave_goes s m laws first u0 u1 ran.summer in
    let above = rows_on i m (Contains had) first u0 u1 on c.pop_row-row.new.rows.items popped.0 in
    let parent = given_since s m laws first u0 u1 goes c.in_ok-parent.parent.sum c.in_ok-parent.ensures.gave in
    let later = laws.summer_steps.both first u0 u1 goes ran.summer in
    let one = c.in_ok-parent.ensures.sums first had full in
    had_both i m (Contains had) first u1 u2 (gave_goes s m laws first u1 u2 c.in_ok-hand.ensures.ran.summer) (s.puts s0) (s.puts s1) (s.puts s2) one (c.in_ok-hand.ensures.sums first had later above (inr parent))

pub returns-then-len-lt40-clause-held : goal.returns-then-len-lt40-clause-held
returns-then-len-lt40-clause-held g t c first had goes rows child =
    let laws : Laws g.S.NodeSource g.M.Summer = record { store_steps = g.met.S.NodeSource.are_steps; store_keeps = g.met.S.NodeSource.keeps; store_caused = g.met.S.NodeSource.stays_caused; summer_steps = g.met.M.Summer.are_steps; summer_keeps = g.met.M.Summer.keeps; summer_caused = g.met.M.Summer.stays_caused; summer_asked = g.met.M.Summer.stays_asked; summer_gave = g.met.M.Summer.stays_given } in
    let i = g.M.Unit.Item in let s = g.S.NodeSource in let m = g.M.Summer in let s0 = c.args.store.now in let u0 = c.args.summer.now in
    let popped = rows_popped i m (Contains had) first u0 c.args.rows.now.items c.pop_row-row.new.rows.items c.pop_row-row.result c.pop_row-row.ensures.items rows in
    let list = had_added i m (Contains had) first u0 c.pop_row-row.result c.in_ok-list.list.items c.args.child c.in_ok-list.ensures popped.1 child in
    rows_stacked i m (Contains had) first u0 c.pop_row-row.new.rows.items c.stack_row.new.rows.items c.in_ok-list.list.items c.in_ok-stack_row.ensures popped.0 list

pub returns-clause-held : goal.returns-clause-held
returns-clause-held g t c first had goes rows child =
    let laws : Laws g.S.NodeSource g.M.Summer = record { store_steps = g.met.S.NodeSource.are_steps; store_keeps = g.met.S.NodeSource.keeps; store_caused = g.met.S.NodeSource.stays_caused; summer_steps = g.met.M.Summer.are_steps; summer_keeps = g.met.M.Summer.keeps; summer_caused = g.met.M.Summer.stays_caused; summer_asked = g.met.M.Summer.stays_asked; summer_gave = g.met.M.Summer.stays_given } in
    let i = g.M.Unit.Item in let s = g.S.NodeSource in let m = g.M.Summer in let s0 = c.args.store.now in let u0 = c.args.summer.now in
    let u1 = c.put_node.new.summer in let u2 = c.hand.new.summer in let s1 = c.put_node.new.store in let s2 = c.hand.new.store in
    let popped = rows_popped i m (Contains had) first u0 c.args.rows.now.items c.pop_row-row.new.rows.items c.pop_row-row.result c.pop_row-row.ensures.items rows in
    let list = had_added i m (Contains had) first u0 c.pop_row-row.result c.in_ok-list.list.items c.args.child c.in_ok-list.ensures popped.1 child in
    let cut = had_cut i m (Contains had) first u0 c.in_ok-list.list.items c.in_ok-full.full.items c.in_ok-full.rest.items c.in_ok-full.ensures.whole list in
    let full = subst (AreHad i m (Contains had) first u0) (sym c.from_vec.ensures) cut.0 in
    let ran = c.in_ok-parent.ensures.ran in
    let on = gave_goes s m laws first u0 u1 ran.summer in
    let above = rows_on i m (Contains had) first u0 u1 on c.pop_row-row.new.rows.items popped.0 in
    let parent = given_since s m laws first u0 u1 goes c.in_ok-parent.parent.sum c.in_ok-parent.ensures.gave in
    let later = laws.summer_steps.both first u0 u1 goes ran.summer in
    let rest = had_on i m (Contains had) first u1 u2 (gave_goes s m laws first u1 u2 c.in_ok-hand.ensures.ran.summer) c.in_ok-full.rest.items (had_on i m (Contains had) first u0 u1 on c.in_ok-full.rest.items cut.1) in
    rows_stacked i m (Contains had) first u2 c.hand.new.rows.items c.stack_row-2.new.rows.items c.in_ok-full.rest.items c.in_ok-stack_row-2.ensures (c.in_ok-hand.ensures.held first had later above (inr parent)) rest
