use Rattle.std.proofs.Common.{rules, ◌≡◌, ◌<◌, ◌≤◌, ◌∷◌, ◌++◌, ◌==◌, ◌+◌, ◌-◌, suc, All, IfOk, Some, drop, length, sym, ap, subst, ◌∙◌, arith, refl, append_assoc}
use Rattle.std.proofs.lemmas.List.{drop-append-le, length-drop}
use Rattle.std.proofs.lemmas.List.Elements.{All-head, All-tail}
use Rattle.std.proofs.lemmas.Result.{err_from_is_err_and}
use Rattle.std.specs.List.{sum_by}
use Rattle.tree_laws.specs.declared.node.Child.{Child}
use Rattle.tree_laws.specs.declared.node.Node.TheVariants.{Inner}
use Rattle.tree_laws.specs.declared.tree.Fill.TheVariants.{Below}
use Rattle.tree_laws.specs.Fitting.{item_count}
use Rattle.tree_laws.specs.Nodes.{is_leaf}
use Rattle.tree_laws.specs.Reaching.{IsMet, Reaches}
use Rattle.tree_laws.specs.Trees.{AreChildren}
use Rattle.tree_laws.specs.Values.{no_values}
use Rattle.tree_query.specs.Bare.{HasItems, StandItems}
use Rattle.tree_query.specs.Reaching.{AreReached}
use Rattle.tree_query.specs.Walking.{AreTurned, Brings, turned}
use Rattle.tree_query.proofs.Calls.{Laws, call_caused_on, caused_err, no_memory, ran_err, ran_on, went_none}
use Rattle.tree_query.proofs.Lists.{level_above, level_of_leaves}
use Rattle.tree_query.proofs.Reached.{children_reached, has_got, has_leaf, node_met}
use Rattle.tree_query.proofs.Walks.{all_back, children_turned, reached, turned_all, turned_counts, turned_length, turned_twice}
use Rattle.tree_laws.specs.declared.tree.TreeFault.TheVariants as tree_fault
use Rattle.tree_laws.specs.declared.node.Node.TheVariants.{Leaf}
use Rattle.tree_query.specs.Leading.{IsGap}
use Rattle.tree_query.specs.Numbers.{HasNumber, number_at}
use Rattle.tree_query.proofs.Leading.{blames_err, gap_at}
use Rattle.tree_query.proofs.Numbers.{child_got, child_past, leaf_at_hand, next_leads, node_turn}
use Rattle.tree_query.proofs.walk.+go_to.Goals as goal

pub returns-in_ok-leaf-in-Leaf-clause-items : goal.returns-in_ok-leaf-in-Leaf-clause-items
returns-in_ok-leaf-in-Leaf-clause-items g t c there items later is-told has h =
    let i = g.T.Item in
    let flag = c.args.descending in
    let e : turned flag items ≡ c.in-Leaf.items = has_leaf i no_values there c.args.level c.in-Leaf.items (turned flag items) (subst (λ x. HasItems i there c.args.level x (turned flag items)) c.in-Leaf.is has) in
    let list : c.turn-list.result.items ≡ items = c.turn-list.ensures ∙ ap (turned flag) (c.into_vec.ensures ∙ sym e) ∙ turned_twice flag items in
    let leaf : c.in_ok-leaf-in-Leaf.leaf.items ≡ drop c.args.skip items = c.in_ok-leaf-in-Leaf.ensures ∙ ap (drop c.args.skip) list in
    record { front = drop c.args.skip items; back = later; whole = refl; at_front = sym leaf; at_back = h }

pub returns-in_ok-leaf-in-Leaf-clause-some : goal.returns-in_ok-leaf-in-Leaf-clause-some
returns-in_ok-leaf-in-Leaf-clause-some g t c =
    let xs = c.turn-list.result.items in
    let e : item_count c.args.node ≡ length c.in-Leaf.items = ap item_count c.in-Leaf.is in
    let long : length xs ≡ length c.in-Leaf.items = ap length c.turn-list.ensures ∙ turned_length c.args.descending c.into_vec.result.items ∙ ap length c.into_vec.ensures in
    omega (arith, e, long, c.requires.inside, ap length c.in_ok-leaf-in-Leaf.ensures, length-drop c.args.skip xs)

pub returns-in_ok-leaf-in-Leaf-clause-ran : goal.returns-in_ok-leaf-in-Leaf-clause-ran
returns-in_ok-leaf-in-Leaf-clause-ran g t c tree at met =
    let i = g.T.Item in
    let s = g.S.NodeSource in
    let laws : Laws s = record { steps = g.met.S.NodeSource.are_steps; caused = g.met.S.NodeSource.stays_caused } in
    went_none i s laws tree c.args.store.now

pub rest_of-requires : goal.rest_of-requires
rest_of-requires g t c =
    let cs = c.in-Inner.children in
    let flag = c.args.descending in
    let list : c.turn-list-in-Inner.result.items ≡ turned flag cs = c.turn-list-in-Inner.ensures ∙ ap (turned flag) c.into_vec-in-Inner.ensures in
    let e : item_count c.args.node ≡ sum_by (λ d. d.count) cs = ap item_count c.in-Inner.is in
    omega (arith, e, c.requires.inside, ap (sum_by (λ (d : Child _). d.count)) list, turned_counts flag cs)

pub go_to-requires : goal.go_to-requires
go_to-requires g t c =
    let child = c.take_first-child.result in
    let rest = c.take_first-child.new.list.items in
    let inside : c.in_ok-found-in-Inner.offset < item_count c.in_ok-below-in-Inner.below = omega (arith, c.in_ok-found-in-Inner.ensures.rest.inside child rest c.take_first-child.ensures, c.in_ok-below-in-Inner.ensures.fit.items) in
    search (rules, arith, inside)

pub returns-in_ok-below-in-Inner-clause-items : goal.returns-in_ok-below-in-Inner-clause-items
returns-in_ok-below-in-Inner-clause-items g t c there items later is-told has h =
    let i = g.T.Item in
    let flag = c.args.descending in
    let cs = c.in-Inner.children in
    let low = c.args.level - 1 in
    let kind : is_leaf (Inner cs) ≡ (c.args.level == 0) = subst (λ x. is_leaf x ≡ (c.args.level == 0)) c.in-Inner.is c.requires.kind in
    let up : c.args.level ≡ suc low = level_above c.args.level kind in
    let list : c.turn-list-in-Inner.result.items ≡ turned flag cs = c.turn-list-in-Inner.ensures ∙ ap (turned flag) c.into_vec-in-Inner.ensures in
    let found = c.in_ok-found-in-Inner.found.items in
    let offset = c.in_ok-found-in-Inner.offset in
    let child = c.take_first-child.result in
    let rest = c.take_first-child.new.list.items in
    let P = StandItems i there low in
    let skip = c.args.skip in
    let below = c.in_ok-below-in-Inner.below in
    let has0 : HasItems i there c.args.level (Inner cs) (turned flag items) = subst (λ x. HasItems i there c.args.level x (turned flag items)) c.in-Inner.is has in
    let has1 : AreChildren no_values P cs (turned flag items) = subst (λ l. HasItems i there l (Inner cs) (turned flag items)) up has0 in
    let all = subst (λ ds. AreTurned flag P ds items) (sym list) (children_turned P flag cs items has1) in
    let k = reached flag P c.turn-list-in-Inner.result.items found skip offset items all c.in_ok-found-in-Inner.ensures.rest in
    let kk : AreTurned flag P (child ∷ rest) k.back = subst (λ ds. AreTurned flag P ds k.back) c.take_first-child.ensures k.at_back in
    let one : length kk.front ≡ child.count = sym (turned_length flag kk.front) ∙ sym kk.at_front.count in
    let few : offset ≤ length kk.front = omega (arith, one, c.in_ok-found-in-Inner.ensures.rest.inside child rest c.take_first-child.ensures) in
    let has2 : HasItems i there low below (turned flag kk.front) = has_got i no_values g.met.T.Item.one_spelling there (HasItems i there low) child.at low child.count Below Below (turned flag kk.front) below (c.in_ok-below-in-Inner.ensures.stands there is-told) kk.at_front.stands in
    let rows = c.in_ok-push_row-in-Inner.ensures.items there flag kk.back later kk.at_back h in
    let says = c.go_to.ensures.items there kk.front (kk.back ++ later) (c.in_ok-below-in-Inner.ensures.reads.nodes ∙ is-told) has2 rows in
    let whole : drop offset kk.front ++ (kk.back ++ later) ≡ drop skip items ++ later =
    sym (append_assoc (drop offset kk.front) kk.back later) ∙ ap (λ u. u ++ later) (sym (k.dropped ∙ ap (drop offset) kk.whole ∙ drop-append-le offset kk.front kk.back few)) in
    subst (λ u. IfOk c.go_to.result (λ leaf. Brings i flag there leaf.items c.go_to.new.rows.items u)) whole says

pub returns-in_ok-below-in-Inner-clause-over : goal.returns-in_ok-below-in-Inner-clause-over
returns-in_ok-below-in-Inner-clause-over g t c tree at there is-told met over =
    let i = g.T.Item in
    let s = g.S.NodeSource in
    let laws : Laws s = record { steps = g.met.S.NodeSource.are_steps; caused = g.met.S.NodeSource.stays_caused } in
    let s0 = c.args.store.now in
    let told = s.nodes s0 in
    let flag = c.args.descending in
    let cs = c.in-Inner.children in
    let low = c.args.level - 1 in
    let kind : is_leaf (Inner cs) ≡ (c.args.level == 0) = subst (λ x. is_leaf x ≡ (c.args.level == 0)) c.in-Inner.is c.requires.kind in
    let up : c.args.level ≡ suc low = level_above c.args.level kind in
    let list : c.turn-list-in-Inner.result.items ≡ turned flag cs = c.turn-list-in-Inner.ensures ∙ ap (turned flag) c.into_vec-in-Inner.ensures in
    let found = c.in_ok-found-in-Inner.found.items in
    let offset = c.in_ok-found-in-Inner.offset in
    let child = c.take_first-child.result in
    let rest = c.take_first-child.new.list.items in
    let all : (there : _) → IsMet i there tree at c.args.level c.args.node → AreReached i there tree low (child ∷ rest) = λ there met.
    let met' : IsMet i there tree at (suc low) (Inner cs) = subst (λ l. IsMet i there tree at l (Inner cs)) up (subst (λ n. IsMet i there tree at c.args.level n) c.in-Inner.is met) in
    let P = λ (d : Child _). Reaches i there tree d.at low d.count Below in
    let turned-cs = turned_all P flag cs (children_reached i there tree at low cs met') in
    let in-list = subst (All P) (sym list ∙ c.in_ok-found-in-Inner.ensures.rest.whole) turned-cs in
    subst (All P) c.take_first-child.ensures (all_back P c.in_ok-found-in-Inner.ensures.rest.front found in-list) in
    let P = λ (d : Child _). Reaches i there tree d.at low d.count Below in
    let own = All-head P child rest (all there met) in
    let rows = c.in_ok-push_row-in-Inner.ensures.over there tree (All-tail P child rest (all there met)) over in
    let met' : IsMet i there tree child.at low c.in_ok-below-in-Inner.below = record { count = child.count; fill = Below; reached = own; stands = c.in_ok-below-in-Inner.ensures.stands there is-told } in
    c.go_to.ensures.over tree child.at there (c.in_ok-below-in-Inner.ensures.reads.nodes ∙ is-told) met' rows

pub returns-in_err-below-in-Inner-clause-ran : goal.returns-in_err-below-in-Inner-clause-ran
returns-in_err-below-in-Inner-clause-ran g t c tree at met =
    let i = g.T.Item in
    let s = g.S.NodeSource in
    let laws : Laws s = record { steps = g.met.S.NodeSource.are_steps; caused = g.met.S.NodeSource.stays_caused } in
    let s0 = c.args.store.now in
    let told = s.nodes s0 in
    let flag = c.args.descending in
    let cs = c.in-Inner.children in
    let low = c.args.level - 1 in
    let kind : is_leaf (Inner cs) ≡ (c.args.level == 0) = subst (λ x. is_leaf x ≡ (c.args.level == 0)) c.in-Inner.is c.requires.kind in
    let up : c.args.level ≡ suc low = level_above c.args.level kind in
    let list : c.turn-list-in-Inner.result.items ≡ turned flag cs = c.turn-list-in-Inner.ensures ∙ ap (turned flag) c.into_vec-in-Inner.ensures in
    let found = c.in_ok-found-in-Inner.found.items in
    let offset = c.in_ok-found-in-Inner.offset in
    let child = c.take_first-child.result in
    let rest = c.take_first-child.new.list.items in
    let all : (there : _) → IsMet i there tree at c.args.level c.args.node → AreReached i there tree low (child ∷ rest) = λ there met.
    let met' : IsMet i there tree at (suc low) (Inner cs) = subst (λ l. IsMet i there tree at l (Inner cs)) up (subst (λ n. IsMet i there tree at c.args.level n) c.in-Inner.is met) in
    let P = λ (d : Child _). Reaches i there tree d.at low d.count Below in
    let turned-cs = turned_all P flag cs (children_reached i there tree at low cs met') in
    let in-list = subst (All P) (sym list ∙ c.in_ok-found-in-Inner.ensures.rest.whole) turned-cs in
    subst (All P) c.take_first-child.ensures (all_back P c.in_ok-found-in-Inner.ensures.rest.front found in-list) in
    let reached = λ (there : _) (is : told ≡ Some there). All-head (λ (d : Child _). Reaches i there tree d.at low d.count Below) child rest (all there (met there is)) in
    let q = c.from_residual-in_err-below-in-Inner in
    let p = err_from_is_err_and q.result q.ensures.1 in
    ran_err i s laws tree _ _ s0 c.fetch.new.store q.result c.in_err-below-in-Inner.field-0.0 p.0 p.2 p.1 (c.in_err-below-in-Inner.ensures.ran tree reached)

pub returns-in_ok-below-in-Inner-clause-ran : goal.returns-in_ok-below-in-Inner-clause-ran
returns-in_ok-below-in-Inner-clause-ran g t c tree at met =
    let i = g.T.Item in
    let s = g.S.NodeSource in
    let laws : Laws s = record { steps = g.met.S.NodeSource.are_steps; caused = g.met.S.NodeSource.stays_caused } in
    let s0 = c.args.store.now in
    let told = s.nodes s0 in
    let flag = c.args.descending in
    let cs = c.in-Inner.children in
    let low = c.args.level - 1 in
    let kind : is_leaf (Inner cs) ≡ (c.args.level == 0) = subst (λ x. is_leaf x ≡ (c.args.level == 0)) c.in-Inner.is c.requires.kind in
    let up : c.args.level ≡ suc low = level_above c.args.level kind in
    let list : c.turn-list-in-Inner.result.items ≡ turned flag cs = c.turn-list-in-Inner.ensures ∙ ap (turned flag) c.into_vec-in-Inner.ensures in
    let found = c.in_ok-found-in-Inner.found.items in
    let offset = c.in_ok-found-in-Inner.offset in
    let child = c.take_first-child.result in
    let rest = c.take_first-child.new.list.items in
    let all : (there : _) → IsMet i there tree at c.args.level c.args.node → AreReached i there tree low (child ∷ rest) = λ there met.
    let met' : IsMet i there tree at (suc low) (Inner cs) = subst (λ l. IsMet i there tree at l (Inner cs)) up (subst (λ n. IsMet i there tree at c.args.level n) c.in-Inner.is met) in
    let P = λ (d : Child _). Reaches i there tree d.at low d.count Below in
    let turned-cs = turned_all P flag cs (children_reached i there tree at low cs met') in
    let in-list = subst (All P) (sym list ∙ c.in_ok-found-in-Inner.ensures.rest.whole) turned-cs in
    subst (All P) c.take_first-child.ensures (all_back P c.in_ok-found-in-Inner.ensures.rest.front found in-list) in
    let reached = λ (there : _) (is : told ≡ Some there). All-head (λ (d : Child _). Reaches i there tree d.at low d.count Below) child rest (all there (met there is)) in
    let below = c.in_ok-below-in-Inner.below in
    let same = c.in_ok-below-in-Inner.ensures.reads.nodes in
    let at_child = node_met i tree told child.at low child.count Below below reached c.in_ok-below-in-Inner.ensures.stands in
    ran_on i s laws tree _ _ s0 c.fetch.new.store c.go_to.new.store c.go_to.result same (c.in_ok-below-in-Inner.ensures.ran tree reached) (c.go_to.ensures.ran tree child.at (λ there is. at_child there (sym same ∙ is)))

pub returns-in_err-leaf-in-Leaf-clause-ran : goal.returns-in_err-leaf-in-Leaf-clause-ran
returns-in_err-leaf-in-Leaf-clause-ran g t c tree at met =
    let i = g.T.Item in
    let s = g.S.NodeSource in
    let laws : Laws s = record { steps = g.met.S.NodeSource.are_steps; caused = g.met.S.NodeSource.stays_caused } in
    let s0 = c.args.store.now in
    let told = s.nodes s0 in
    let q = c.from_residual in
    let p = err_from_is_err_and q.result q.ensures.1 in
    ran_err i s laws tree _ _ s0 s0 q.result tree_fault.NoMemory p.0 p.2 p.1 (no_memory i s laws tree s0)

pub returns-in_err-found-in-Inner-clause-ran : goal.returns-in_err-found-in-Inner-clause-ran
returns-in_err-found-in-Inner-clause-ran g t c tree at met =
    let i = g.T.Item in
    let s = g.S.NodeSource in
    let laws : Laws s = record { steps = g.met.S.NodeSource.are_steps; caused = g.met.S.NodeSource.stays_caused } in
    let s0 = c.args.store.now in
    let told = s.nodes s0 in
    let q = c.from_residual-in_err-found-in-Inner in
    let p = err_from_is_err_and q.result q.ensures.1 in
    ran_err i s laws tree _ _ s0 s0 q.result tree_fault.NoMemory p.0 p.2 p.1 (no_memory i s laws tree s0)

pub returns-in_err-push_row-in-Inner-clause-ran : goal.returns-in_err-push_row-in-Inner-clause-ran
returns-in_err-push_row-in-Inner-clause-ran g t c tree at met =
    let i = g.T.Item in
    let s = g.S.NodeSource in
    let laws : Laws s = record { steps = g.met.S.NodeSource.are_steps; caused = g.met.S.NodeSource.stays_caused } in
    let s0 = c.args.store.now in
    let told = s.nodes s0 in
    let q = c.from_residual-in_err-push_row-in-Inner in
    let p = err_from_is_err_and q.result q.ensures.1 in
    ran_err i s laws tree _ _ s0 s0 q.result tree_fault.NoMemory p.0 p.2 p.1 (no_memory i s laws tree s0)

pub returns-in_ok-leaf-in-Leaf-clause-edge : goal.returns-in_ok-leaf-in-Leaf-clause-edge
returns-in_ok-leaf-in-Leaf-clause-edge g t c tree there at from to edge after is-told led past skipped rows =
    let i = g.T.Item in
    let flag = c.args.descending in
    let xs = c.turn-list.result.items in
    let leaf = c.in_ok-leaf-in-Leaf.leaf.items in
    let e : item_count c.args.node ≡ length c.in-Leaf.items = ap item_count c.in-Leaf.is in
    let long : length xs ≡ length c.in-Leaf.items = ap length c.turn-list.ensures ∙ turned_length flag c.into_vec.result.items ∙ ap length c.into_vec.ensures in
    let count : item_count c.args.node ≡ c.args.skip + length leaf = omega (arith, e, long, c.requires.inside, ap length c.in_ok-leaf-in-Leaf.ensures, length-drop c.args.skip xs) in
    let kind : is_leaf (Leaf c.in-Leaf.items) ≡ (c.args.level == 0) = subst (λ x. is_leaf x ≡ (c.args.level == 0)) c.in-Leaf.is c.requires.kind in
    record { mid = to; at_hand = leaf_at_hand i there tree flag at c.args.level c.args.node leaf c.args.skip from edge to (level_of_leaves c.args.level kind) count led past skipped; ahead = rows }

pub returns-in_ok-below-in-Inner-clause-edge : goal.returns-in_ok-below-in-Inner-clause-edge
returns-in_ok-below-in-Inner-clause-edge g t c tree there at from to edge after is-told led past skipped rows =
    let i = g.T.Item in
    let flag = c.args.descending in
    let cs = c.in-Inner.children in
    let low = c.args.level - 1 in
    let kind : is_leaf (Inner cs) ≡ (c.args.level == 0) = subst (λ x. is_leaf x ≡ (c.args.level == 0)) c.in-Inner.is c.requires.kind in
    let up : c.args.level ≡ suc low = level_above c.args.level kind in
    let list : c.turn-list-in-Inner.result.items ≡ turned flag cs = c.turn-list-in-Inner.ensures ∙ ap (turned flag) c.into_vec-in-Inner.ensures in
    let found = c.in_ok-found-in-Inner.found.items in
    let offset = c.in_ok-found-in-Inner.offset in
    let child = c.take_first-child.result in
    let rest = c.take_first-child.new.list.items in
    let turn = node_turn i there tree flag at c.args.level low c.args.node cs c.turn-list-in-Inner.result.items c.in_ok-found-in-Inner.ensures.rest.front found rest child c.args.skip offset from edge to
    c.in-Inner.is up list c.in_ok-found-in-Inner.ensures.rest.whole c.take_first-child.ensures c.in_ok-found-in-Inner.ensures.rest.count led past skipped in
    let below = c.in_ok-below-in-Inner.below in
    let stands = c.in_ok-below-in-Inner.ensures.stands there is-told in
    let same = c.in_ok-below-in-Inner.ensures.reads.nodes in
    let got = child_got i there tree flag low child turn.begin turn.end below turn.own stands in
    let long = child_past i there tree flag low child turn.begin turn.end below turn.own stands in
    let pushed = c.in_ok-push_row-in-Inner.ensures.edge there tree flag turn.end to after turn.after rows in
    c.go_to.ensures.edge tree there child.at turn.begin turn.end edge after (same ∙ is-told) got long turn.past pushed

pub returns-in_err-leaf-in-Leaf-clause-gap : goal.returns-in_err-leaf-in-Leaf-clause-gap
returns-in_err-leaf-in-Leaf-clause-gap g t c tree there at from to edge is-told led past skipped =
    let i = g.T.Item in
    let q = c.from_residual in
    let p = err_from_is_err_and q.result q.ensures.1 in
    blames_err (IsGap i there tree (HasNumber (number_at c.args.descending edge))) q.result tree_fault.NoMemory p.0 p.2 p.1 tt

pub returns-in_err-found-in-Inner-clause-gap : goal.returns-in_err-found-in-Inner-clause-gap
returns-in_err-found-in-Inner-clause-gap g t c tree there at from to edge is-told led past skipped =
    let i = g.T.Item in
    let q = c.from_residual-in_err-found-in-Inner in
    let p = err_from_is_err_and q.result q.ensures.1 in
    blames_err (IsGap i there tree (HasNumber (number_at c.args.descending edge))) q.result tree_fault.NoMemory p.0 p.2 p.1 tt

pub returns-in_err-push_row-in-Inner-clause-gap : goal.returns-in_err-push_row-in-Inner-clause-gap
returns-in_err-push_row-in-Inner-clause-gap g t c tree there at from to edge is-told led past skipped =
    let i = g.T.Item in
    let q = c.from_residual-in_err-push_row-in-Inner in
    let p = err_from_is_err_and q.result q.ensures.1 in
    blames_err (IsGap i there tree (HasNumber (number_at c.args.descending edge))) q.result tree_fault.NoMemory p.0 p.2 p.1 tt

pub returns-in_err-below-in-Inner-clause-gap : goal.returns-in_err-below-in-Inner-clause-gap
returns-in_err-below-in-Inner-clause-gap g t c tree there at from to edge is-told led past skipped =
    let i = g.T.Item in
    let flag = c.args.descending in
    let cs = c.in-Inner.children in
    let low = c.args.level - 1 in
    let kind : is_leaf (Inner cs) ≡ (c.args.level == 0) = subst (λ x. is_leaf x ≡ (c.args.level == 0)) c.in-Inner.is c.requires.kind in
    let up : c.args.level ≡ suc low = level_above c.args.level kind in
    let list : c.turn-list-in-Inner.result.items ≡ turned flag cs = c.turn-list-in-Inner.ensures ∙ ap (turned flag) c.into_vec-in-Inner.ensures in
    let found = c.in_ok-found-in-Inner.found.items in
    let offset = c.in_ok-found-in-Inner.offset in
    let child = c.take_first-child.result in
    let rest = c.take_first-child.new.list.items in
    let turn = node_turn i there tree flag at c.args.level low c.args.node cs c.turn-list-in-Inner.result.items c.in_ok-found-in-Inner.ensures.rest.front found rest child c.args.skip offset from edge to
    c.in-Inner.is up list c.in_ok-found-in-Inner.ensures.rest.whole c.take_first-child.ensures c.in_ok-found-in-Inner.ensures.rest.count led past skipped in
    let less = c.in_ok-found-in-Inner.ensures.rest.inside child rest c.take_first-child.ensures in
    let leads = next_leads i there tree flag low child turn.begin turn.end edge offset turn.own turn.past less in
    let Picks = HasNumber (number_at flag edge) in
    let q = c.from_residual-in_err-below-in-Inner in
    let p = err_from_is_err_and q.result q.ensures.1 in
    blames_err (IsGap i there tree Picks) q.result c.in_err-below-in-Inner.field-0.0 p.0 p.2 p.1 (gap_at i there tree Picks child.at low child.count _ Below _ leads (c.in_err-below-in-Inner.ensures.bad there is-told))

pub returns-in_ok-below-in-Inner-clause-gap : goal.returns-in_ok-below-in-Inner-clause-gap
returns-in_ok-below-in-Inner-clause-gap g t c tree there at from to edge is-told led past skipped =
    let i = g.T.Item in
    let flag = c.args.descending in
    let cs = c.in-Inner.children in
    let low = c.args.level - 1 in
    let kind : is_leaf (Inner cs) ≡ (c.args.level == 0) = subst (λ x. is_leaf x ≡ (c.args.level == 0)) c.in-Inner.is c.requires.kind in
    let up : c.args.level ≡ suc low = level_above c.args.level kind in
    let list : c.turn-list-in-Inner.result.items ≡ turned flag cs = c.turn-list-in-Inner.ensures ∙ ap (turned flag) c.into_vec-in-Inner.ensures in
    let found = c.in_ok-found-in-Inner.found.items in
    let offset = c.in_ok-found-in-Inner.offset in
    let child = c.take_first-child.result in
    let rest = c.take_first-child.new.list.items in
    let turn = node_turn i there tree flag at c.args.level low c.args.node cs c.turn-list-in-Inner.result.items c.in_ok-found-in-Inner.ensures.rest.front found rest child c.args.skip offset from edge to
    c.in-Inner.is up list c.in_ok-found-in-Inner.ensures.rest.whole c.take_first-child.ensures c.in_ok-found-in-Inner.ensures.rest.count led past skipped in
    let below = c.in_ok-below-in-Inner.below in
    let stands = c.in_ok-below-in-Inner.ensures.stands there is-told in
    let same = c.in_ok-below-in-Inner.ensures.reads.nodes in
    let got = child_got i there tree flag low child turn.begin turn.end below turn.own stands in
    let long = child_past i there tree flag low child turn.begin turn.end below turn.own stands in
    c.go_to.ensures.gap tree there child.at turn.begin turn.end edge (same ∙ is-told) got long turn.past

pub returns-in_ok-leaf-in-Leaf-clause-cause : goal.returns-in_ok-leaf-in-Leaf-clause-cause
returns-in_ok-leaf-in-Leaf-clause-cause g t c = g.met.S.NodeSource.are_steps.none c.args.store.now

pub returns-in_err-leaf-in-Leaf-clause-cause : goal.returns-in_err-leaf-in-Leaf-clause-cause
returns-in_err-leaf-in-Leaf-clause-cause g t c =
    let i = g.T.Item in
    let s = g.S.NodeSource in
    let laws : Laws s = record { steps = g.met.S.NodeSource.are_steps; caused = g.met.S.NodeSource.stays_caused } in
    let s0 = c.args.store.now in
    let q = c.from_residual in
    let p = err_from_is_err_and q.result q.ensures.1 in
    caused_err s laws s0 s0 q.result tree_fault.NoMemory p.0 p.2 p.1 (laws.steps.none s0)

pub returns-in_err-found-in-Inner-clause-cause : goal.returns-in_err-found-in-Inner-clause-cause
returns-in_err-found-in-Inner-clause-cause g t c =
    let i = g.T.Item in
    let s = g.S.NodeSource in
    let laws : Laws s = record { steps = g.met.S.NodeSource.are_steps; caused = g.met.S.NodeSource.stays_caused } in
    let s0 = c.args.store.now in
    let q = c.from_residual-in_err-found-in-Inner in
    let p = err_from_is_err_and q.result q.ensures.1 in
    caused_err s laws s0 s0 q.result tree_fault.NoMemory p.0 p.2 p.1 (laws.steps.none s0)

pub returns-in_err-push_row-in-Inner-clause-cause : goal.returns-in_err-push_row-in-Inner-clause-cause
returns-in_err-push_row-in-Inner-clause-cause g t c =
    let i = g.T.Item in
    let s = g.S.NodeSource in
    let laws : Laws s = record { steps = g.met.S.NodeSource.are_steps; caused = g.met.S.NodeSource.stays_caused } in
    let s0 = c.args.store.now in
    let q = c.from_residual-in_err-push_row-in-Inner in
    let p = err_from_is_err_and q.result q.ensures.1 in
    caused_err s laws s0 s0 q.result tree_fault.NoMemory p.0 p.2 p.1 (laws.steps.none s0)

pub returns-in_err-below-in-Inner-clause-cause : goal.returns-in_err-below-in-Inner-clause-cause
returns-in_err-below-in-Inner-clause-cause g t c =
    let i = g.T.Item in
    let s = g.S.NodeSource in
    let laws : Laws s = record { steps = g.met.S.NodeSource.are_steps; caused = g.met.S.NodeSource.stays_caused } in
    let s0 = c.args.store.now in
    let q = c.from_residual-in_err-below-in-Inner in
    let p = err_from_is_err_and q.result q.ensures.1 in
    caused_err s laws s0 c.fetch.new.store q.result c.in_err-below-in-Inner.field-0.0 p.0 p.2 p.1 c.in_err-below-in-Inner.ensures.cause

pub returns-in_ok-below-in-Inner-clause-cause : goal.returns-in_ok-below-in-Inner-clause-cause
returns-in_ok-below-in-Inner-clause-cause g t c =
    let i = g.T.Item in
    let s = g.S.NodeSource in
    let laws : Laws s = record { steps = g.met.S.NodeSource.are_steps; caused = g.met.S.NodeSource.stays_caused } in
    let s0 = c.args.store.now in
    call_caused_on s laws s0 c.fetch.new.store c.go_to.new.store c.go_to.result c.in_ok-below-in-Inner.ensures.cause c.go_to.ensures.cause
