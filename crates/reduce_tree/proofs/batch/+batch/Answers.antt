use Rattle.std.proofs.Common.{rules, arith, ◌≡◌, ◌==◌, suc, ◌+◌, ◌-◌, ◌*◌, ◌<◌, ◌≤◌, ◌^◌, ◌∷◌, ◌++◌, [], length, vec_len, sym, subst, ap, ◌∙◌, length-append, append_assoc, refl, Bool, true, false, Contains, ◌⊎◌, inl, inr, All}
use Rattle.std.proofs.lemmas.List.{append-nil}
use Rattle.tree_laws.specs.declared.node.Child.{Child}
use Rattle.tree_laws.specs.declared.node.Node.TheVariants.{Inner}
use Rattle.tree_laws.specs.declared.tree.Fill.TheVariants.{Below}
use Rattle.tree_laws.specs.Fitting.{AreLarge, item_count}
use Rattle.tree_laws.specs.Nodes.{entries, is_leaf}
use Rattle.tree_laws.specs.SummerTrees.{AreChildren, Has, Stands}
use Rattle.tree_laws.proofs.SummerTrees.{child_stays, has_stays, stands_stays}
use Rattle.reduce_tree.specs.Applied.{applied, insertions, RemoveNone}
use Rattle.reduce_tree.specs.Charges.{slack, ready, pending, rounding}
use Rattle.reduce_tree.specs.Calls.{places}
use Rattle.reduce_tree.specs.Rows.{Carries, leaf_items}
use Rattle.reduce_tree.proofs.Applied.{insertions_append, insertions_most, none_given}
use Rattle.std.proofs.lemmas.Result.{err_from_is_err_and}
use Rattle.reduce_tree.proofs.Calls.{ran_err, extends_on, fails_on, goes_on, goes_none, known_on, on_err}
use Rattle.reduce_tree.proofs.Charge.{pending_none, ready_put, ready_some, slack_most, some_by_test, steps_edited, steps_joined, steps_kept, steps_step, paid, steps_fault}
use Rattle.reduce_tree.proofs.Nodes.{count_cons, empty_at_level, has_once, large_head, large_none, large_tail, level_above, none_counted, none_from_test, some_from_test, has_leaf}
use Rattle.reduce_tree.proofs.Walk.{carries_stays, held_start, held_step, held_end, touched_child}
use Rattle.reduce_tree.proofs.Puts.{inserts_none, put_none, put_on, put_two, unput, unput_on}
use Rattle.reduce_tree.proofs.Quiet.{all_front, still_step}
use Rattle.reduce_tree.proofs.Sound.{held_child, if_sound}
use Rattle.reduce_tree.proofs.Pieces.{applied_among, left_step, pieces_none, pieces_on, were_none, on_match}
use Rattle.reduce_tree.specs.Pieces.{AreAmong}
use Rattle.tree_laws.specs.declared.tree.TreeFault.TheVariants as tree_fault
use Rattle.reduce_tree.proofs.batch.+batch.Goals.{edit_child-else-is_empty-via-then-is_empty+else-is_ready, edit_child-else-is_empty-via-else-is_empty, edit_child-else-row-via-then-row+else-is_ready-2, edit_child-else-row-via-else-row}
use Rattle.reduce_tree.proofs.Given.{all_on, halts_quiet, taken_on, took_fault, took_none, under_on}
use Rattle.reduce_tree.specs.Given.{AllGiven, AreEach, Given}
use Rattle.std.proofs.lemmas.List.Elements.{All-head, All-nil, All-tail}
use Rattle.reduce_tree.specs.Sums.{KnowsNode, KnowsRow, KnowsSum}
use Rattle.reduce_tree.proofs.Had.{way_on, row_goes, known_goes, known_none, knew_none, knew_err}
use Rattle.reduce_tree.proofs.batch.+batch.Goals as goal
use Rattle.reduce_tree.proofs.batch.+batch.Answers.Held.{laws}
use Rattle.reduce_tree.proofs.batch.+batch.Answers.Held as held
mod Held

not_both : {X : Type 0} (b : Bool) → b ≡ true → b ≡ false → X
not_both true e f = absurd (cc)
not_both false e f = absurd (cc)

-- ---- edit_child

pub edit_child-returns-clause-count : goal.edit_child-returns-clause-count
edit_child-returns-clause-count g t c = omega (arith, c.in_ok-node.ensures.fits.items, c.in_ok-row-2.ensures.count, c.in_ok-joined.ensures.count)

pub edit_child-returns-clause-most : goal.edit_child-returns-clause-most
edit_child-returns-clause-most g t c = c.in_ok-joined.ensures.most c.args.low c.requires.most c.in_ok-row-2.ensures.most

pub edit_child-returns-in_err-row-2-clause-ran : goal.edit_child-returns-in_err-row-2-clause-ran
edit_child-returns-in_err-row-2-clause-ran g t c =
    let s0 = c.args.store.now in let s1 = c.fetch.new.store in let s2 = c.edit_row.new.store in let u0 = c.args.summer.now in let u1 = c.edit_row.new.summer in let a = c.in_ok-node.ensures.ran in let p = err_from_is_err_and c.from_residual-in_err-row-2.result c.from_residual-in_err-row-2.ensures.1 in
    ran_err g.M.Unit.Item g.S.NodeSource g.M.Summer (laws g) _ _ _ _ c.from_residual-in_err-row-2.result c.in_err-row-2.field-0.0 p.0 p.2 p.1 (fails_on g.M.Unit.Item g.S.NodeSource g.M.Summer (laws g) s0 s1 s2 u0 u0 u1 a _ c.in_err-row-2.ensures.ran)

pub edit_child-returns-in_err-row-3-clause-ran : goal.edit_child-returns-in_err-row-3-clause-ran
edit_child-returns-in_err-row-3-clause-ran g t c =
    let s0 = c.args.store.now in let s1 = c.fetch.new.store in let s2 = c.edit_row.new.store in let u0 = c.args.summer.now in let u1 = c.edit_row.new.summer in let a = c.in_ok-node.ensures.ran in let b = c.in_ok-row-2.ensures.ran in
    let ab = goes_on g.M.Unit.Item g.S.NodeSource g.M.Summer (laws g) s0 s1 s2 u0 u0 u1 a b in let p = err_from_is_err_and c.from_residual-in_err-row-3.result c.from_residual-in_err-row-3.ensures.1 in
    ran_err g.M.Unit.Item g.S.NodeSource g.M.Summer (laws g) _ _ _ _ c.from_residual-in_err-row-3.result c.in_err-row-3.field-0.0 p.0 p.2 p.1 (fails_on g.M.Unit.Item g.S.NodeSource g.M.Summer (laws g) s0 s2 c.keep_child-then-is_ready-2.new.store u0 u1 c.keep_child-then-is_ready-2.new.summer ab _ c.in_err-row-3.ensures.ran)

pub edit_child-returns-in_err-joined-clause-ran : goal.edit_child-returns-in_err-joined-clause-ran
edit_child-returns-in_err-joined-clause-ran g t c =
    let s0 = c.args.store.now in let s1 = c.fetch.new.store in let s2 = c.edit_row.new.store in let u0 = c.args.summer.now in let u1 = c.edit_row.new.summer in let a = c.in_ok-node.ensures.ran in let b = c.in_ok-row-2.ensures.ran in
    let ab = goes_on g.M.Unit.Item g.S.NodeSource g.M.Summer (laws g) s0 s1 s2 u0 u0 u1 a b in let p = err_from_is_err_and c.from_residual-in_err-joined.result c.from_residual-in_err-joined.ensures.1 in
    ran_err g.M.Unit.Item g.S.NodeSource g.M.Summer (laws g) _ _ _ _ c.from_residual-in_err-joined.result c.in_err-joined.field-0.0 p.0 p.2 p.1 (fails_on g.M.Unit.Item g.S.NodeSource g.M.Summer (laws g) s0 s2 c.join_rows.new.store u0 u1 c.join_rows.new.summer ab _ c.in_err-joined.ensures.ran)

pub edit_child-returns-then-is_ready-2-clause-ran : goal.edit_child-returns-then-is_ready-2-clause-ran
edit_child-returns-then-is_ready-2-clause-ran g t c =
    let s0 = c.args.store.now in let s1 = c.fetch.new.store in let s2 = c.edit_row.new.store in let u0 = c.args.summer.now in let u1 = c.edit_row.new.summer in let a = c.in_ok-node.ensures.ran in let b = c.in_ok-row-2.ensures.ran in let ab = goes_on g.M.Unit.Item g.S.NodeSource g.M.Summer (laws g) s0 s1 s2 u0 u0 u1 a b in
    goes_on g.M.Unit.Item g.S.NodeSource g.M.Summer (laws g) s0 s2 c.keep_child-then-is_ready-2.new.store u0 u1 c.keep_child-then-is_ready-2.new.summer ab c.in_ok-row-3.ensures.ran

pub edit_child-returns-clause-ran : goal.edit_child-returns-clause-ran
edit_child-returns-clause-ran g t c =
    let s0 = c.args.store.now in let s1 = c.fetch.new.store in let s2 = c.edit_row.new.store in let u0 = c.args.summer.now in let u1 = c.edit_row.new.summer in let a = c.in_ok-node.ensures.ran in let b = c.in_ok-row-2.ensures.ran in let ab = goes_on g.M.Unit.Item g.S.NodeSource g.M.Summer (laws g) s0 s1 s2 u0 u0 u1 a b in
    goes_on g.M.Unit.Item g.S.NodeSource g.M.Summer (laws g) s0 s2 c.join_rows.new.store u0 u1 c.join_rows.new.summer ab c.in_ok-joined.ensures.ran

pub edit_child-returns-then-is_ready-clause-items : goal.edit_child-returns-then-is_ready-clause-items
edit_child-returns-then-is_ready-clause-items g t c first items mid known sorted h child =
    let none = none_from_test (length c.args.edits.now) c.is_empty.result c.is_empty.ensures c.if-is_empty.true in let es = none_given g.M.Unit.Item.order c.args.edits.now mid none in
    subst (λ xs. Carries g.M.Unit.Item g.M.Summer first (places (g.S.NodeSource.nodes c.keep_child.new.store)) c.args.low c.keep_child.new.done.items c.in_ok-row.row.level c.in_ok-row.row.node (items ++ xs)) (sym es)
    (c.in_ok-row.ensures.items first items mid known h child)

pub edit_child-returns-then-is_ready-2-clause-items : goal.edit_child-returns-then-is_ready-2-clause-items
edit_child-returns-then-is_ready-2-clause-items g t c first items mid known sorted h child =
    let s0 = c.args.store.now in let s1 = c.fetch.new.store in let s2 = c.edit_row.new.store in let u0 = c.args.summer.now in let u1 = c.edit_row.new.summer in let a = c.in_ok-node.ensures.ran in let b = c.in_ok-row-2.ensures.ran in
    let ab = goes_on g.M.Unit.Item g.S.NodeSource g.M.Summer (laws g) s0 s1 s2 u0 u0 u1 a b in let i = g.M.Unit.Item in let m = g.M.Summer in let n0 = places (g.S.NodeSource.nodes s0) in
    let n1 = places (g.S.NodeSource.nodes s1) in let n2 = places (g.S.NodeSource.nodes s2) in let low = c.args.low in let got = c.in_ok-node.node in let row = c.in_ok-row-2.row in
    let e01 = extends_on g.M.Unit.Item g.S.NodeSource g.M.Summer (laws g) s0 s1 u0 u0 a in let e12 = extends_on g.M.Unit.Item g.S.NodeSource g.M.Summer (laws g) s1 s2 u0 u1 b in
    let e02 = extends_on g.M.Unit.Item g.S.NodeSource g.M.Summer (laws g) s0 s2 u0 u1 ab in let at0 : Has i m first n0 low got mid = c.in_ok-node.ensures.got first mid Below known child.stands in let at1 = has_stays i m first n0 n1 e01 low got mid at0 in let at2 = has_stays i m first n1 n2 e12 low got mid at1 in
    let made = c.in_ok-row-2.ensures.items first mid (known_on g.M.Unit.Item g.S.NodeSource g.M.Summer (laws g) first s0 s1 u0 u0 known a) sorted at1 in let is_same = c.if-row.true in
    let made1 : Has i m first n2 low row.node (applied i.order c.args.edits.now mid) = subst (λ l. Has i m first n2 l row.node (applied i.order c.args.edits.now mid)) (c.in_ok-row-2.ensures.level is_same) made in
    let made2 : Has i m first n2 low got (applied i.order c.args.edits.now mid) = subst (λ n. Has i m first n2 low n (applied i.order c.args.edits.now mid)) (c.in_ok-row-2.ensures.node is_same) made1 in
    let none : applied i.order c.args.edits.now mid ≡ mid = has_once i m first n2 g.met.M.Unit.Item.one_spelling low got (applied i.order c.args.edits.now mid) mid made2 at2 in
    let known2 = known_on g.M.Unit.Item g.S.NodeSource g.M.Summer (laws g) first s0 s2 u0 u1 known ab in let carries = carries_stays i m first n0 n2 e02 low c.args.carry.level c.args.done.now.items c.args.carry.node items h in
    let child2 = child_stays i m first (Stands i m first n0 low) (Stands i m first n2 low) (stands_stays i m first n0 n2 e02 low) c.args.child mid child in
    subst (λ xs. Carries i m first (places (g.S.NodeSource.nodes c.keep_child-then-is_ready-2.new.store)) low c.keep_child-then-is_ready-2.new.done.items c.in_ok-row-3.row.level c.in_ok-row-3.row.node (items ++ xs)) (sym none)
    (c.in_ok-row-3.ensures.items first items mid known2 carries child2)

pub edit_child-returns-clause-items : goal.edit_child-returns-clause-items
edit_child-returns-clause-items g t c first items mid known sorted h child =
    let s0 = c.args.store.now in let s1 = c.fetch.new.store in let s2 = c.edit_row.new.store in let u0 = c.args.summer.now in let u1 = c.edit_row.new.summer in let a = c.in_ok-node.ensures.ran in let b = c.in_ok-row-2.ensures.ran in
    let ab = goes_on g.M.Unit.Item g.S.NodeSource g.M.Summer (laws g) s0 s1 s2 u0 u0 u1 a b in let i = g.M.Unit.Item in let m = g.M.Summer in let s3 = c.join_rows.new.store in let u2 = c.join_rows.new.summer in
    let n0 = places (g.S.NodeSource.nodes s0) in let n1 = places (g.S.NodeSource.nodes s1) in let n2 = places (g.S.NodeSource.nodes s2) in let n3 = places (g.S.NodeSource.nodes s3) in let low = c.args.low in let got = c.in_ok-node.node in
    let e01 = extends_on g.M.Unit.Item g.S.NodeSource g.M.Summer (laws g) s0 s1 u0 u0 a in let e02 = extends_on g.M.Unit.Item g.S.NodeSource g.M.Summer (laws g) s0 s2 u0 u1 ab in
    let e23 = extends_on g.M.Unit.Item g.S.NodeSource g.M.Summer (laws g) s2 s3 u1 u2 c.in_ok-joined.ensures.ran in let known1 = known_on g.M.Unit.Item g.S.NodeSource g.M.Summer (laws g) first s0 s1 u0 u0 known a in let known2 = known_on g.M.Unit.Item g.S.NodeSource g.M.Summer (laws g) first s0 s2 u0 u1 known ab in
    touched_child i m first n0 n2 n3 e02 e23 low c.args.carry.level c.in_ok-row-2.row.level c.in_ok-joined.joined.level c.args.child c.args.done.now.items c.args.carry.node got c.in_ok-row-2.row.node c.in_ok-joined.joined.node c.args.edits.now items mid sorted h child
    (λ xs st. c.in_ok-node.ensures.got first xs Below known st)
    (λ xs s k. c.in_ok-row-2.ensures.items first xs known1 s (has_stays i m first n0 n1 e01 low got xs k))
    (λ xs ys p q. c.in_ok-joined.ensures.items first xs ys known2 p q)

pub edit_child-returns-then-is_ready-clause-steps : goal.edit_child-returns-then-is_ready-clause-steps
edit_child-returns-then-is_ready-clause-steps g t c =
    let z : entries c.in_ok-row.row.node ≡ 0 = ap entries c.in_ok-row.ensures.none in let r : rounding (entries c.in_ok-row.row.node) ≡ 0 = ap rounding z in omega (arith, z, r, pending_none c.args.low c.in_ok-row.row.level (entries c.in_ok-row.row.node) z, c.in_ok-row.ensures.steps)

pub edit_child-returns-then-is_ready-clause-once : goal.edit_child-returns-then-is_ready-clause-once
edit_child-returns-then-is_ready-clause-once g t c =
    let z : entries c.in_ok-row.row.node ≡ 0 = ap entries c.in_ok-row.ensures.none in let r : rounding (entries c.in_ok-row.row.node) ≡ 0 = ap rounding z in omega (arith, z, r, c.in_ok-row.ensures.once)

pub edit_child-returns-clause-once : goal.edit_child-returns-clause-once
edit_child-returns-clause-once g t c =
    let same = ap length c.in_ok-node.ensures.puts in omega (arith, same, c.in_ok-node.ensures.steps, c.in_ok-node.ensures.fits.filled.most, c.in_ok-row-2.ensures.once, c.in_ok-joined.ensures.once, Rattle.reduce_tree.proofs.Charge.rounding_most (entries c.in_ok-joined.joined.node))

-- ---- edit_children

pub edit_children-loop-left-init : goal.edit_children-loop-left-init
edit_children-loop-left-init g t c =
    let v = c.empty-carry.ensures in let z : entries c.empty-carry.result.node ≡ 0 = ap entries v.node in let r : rounding (entries c.empty-carry.result.node) ≡ 0 = ap rounding z in
    record {
      ran = goes_none g.M.Unit.Item g.S.NodeSource g.M.Summer (laws g) c.args.store.now c.args.summer.now;
      ready = c.requires.ready;
      carry = empty_at_level c.empty-carry.result.level c.empty-carry.result.node v.level v.node;
      most = omega (arith, v.level);
      large = subst (λ n. AreLarge c.empty-carry.result.level n) (sym v.node) tt;
      done = subst (λ ds. AreLarge (c.args.low + 1) (Inner ds)) (sym c.new-done.ensures.items) (large_none (c.args.low + 1));
      rest = c.requires.large;
      count = let d : item_count (Inner c.new-done.result.items) ≡ 0 = ap (λ ds. item_count (Inner ds)) c.new-done.ensures.items in omega (arith, d, none_counted c.empty-carry.result.node z);
      ended = λ e. absurd (omega (arith, e, c.requires.some));
      same = λ e. ap (λ ds. ds ++ c.args.children.items) c.new-done.ensures.items;
      still = λ e. z;
      steps = omega (arith, z, r, c.new-done.ensures.len, pending_none c.args.low c.empty-carry.result.level (entries c.empty-carry.result.node) z);
      once = omega (arith, z, r, c.new-done.ensures.len);
      reads = (omega arith, omega arith);
      leaf = let n = ap leaf_items v.node in put_none (omega (arith, n));
      unput = λ e. unput g.S.NodeSource c.args.store.now;
      inserts = λ e. refl;
      met = λ first tree pieces under children. (
        took_none g.M.Unit.Item g.S.NodeSource g.M.Summer (laws g) first tree pieces c.args.store.now c.args.store.now refl,
        let P = Given g.M.Unit.Item g.S.NodeSource g.M.Summer first tree pieces c.args.store.now c.args.low in subst (All P) (sym c.new-done.ensures.items) (All-nil P),
        subst (λ n. AllGiven g.M.Unit.Item g.S.NodeSource g.M.Summer first tree pieces c.args.store.now c.empty-carry.result.level n) (sym v.node) tt,
        children,
      );
      known = λ first begun way children.
          let i = g.M.Unit.Item in let s = g.S.NodeSource in let m = g.M.Summer in let u0 = c.args.summer.now in (
            known_none i s m first begun u0 c.args.store.now c.args.store.now refl,
            subst (KnowsRow i s m first begun u0 c.args.store.now) (sym c.new-done.ensures.items) (All-nil (λ (d : Child _). KnowsSum i s m first begun u0 c.args.store.now d.sum)),
            subst (KnowsNode i s m first begun u0 c.args.store.now) (sym v.node) tt,
            children,
          );
      pieces = λ first items among known sorted cs ai ae. (
        pieces_none g.M.Unit.Item g.M.Summer first among (places (g.S.NodeSource.nodes c.args.store.now)) Below (g.S.NodeSource.puts c.args.store.now) (g.S.NodeSource.puts c.args.store.now) refl,
        record { back = items; at_back = cs; sorted = sorted; known = ai; inserts = ae },
      );
      quiet = λ first items known cs none. (v.same, record { back = items; at_back = cs; none = none });
      items = λ first items known sorted cs. held_start g.M.Unit.Item g.M.Summer first (places (g.S.NodeSource.nodes c.args.store.now)) c.args.low c.empty-carry.result.level c.new-done.result.items c.args.children.items c.empty-carry.result.node c.args.edits.now items
          c.new-done.ensures.items v.level v.node cs sorted;
    }

pub edit_children-edit_child-requires : goal.edit_children-edit_child-requires
edit_children-edit_child-requires g t c =
    let low = c.args.low in let inv = c.loop-left.invariant in let child = c.take_first-child.result in let rest = c.take_first-child.new.list.items in
    let l = ap insertions c.share.ensures.whole ∙ insertions_append c.share.result.0.now c.share.result.1.now in let r = ap (λ ds. item_count (Inner ds)) c.take_first-child.ensures ∙ count_cons child rest in
    let large_child : 8 ^ (low + 1) ≤ child.count = large_head (low + 1) child rest (subst (λ ds. AreLarge (low + 1) (Inner ds)) c.take_first-child.ensures inv.rest) in
    let few : item_count (Inner c.loop-left.done.items) + (item_count c.loop-left.carry.node + (child.count + insertions c.share.result.0.now)) ≤ 2 ^ 40 = omega (arith, l, r, inv.count, c.requires.few) in let less : 3 * low + 3 < 3 * low + 4 = omega arith in let done : AreLarge (low + 1) (Inner c.loop-left.done.items) = inv.done in
    λ κs out. (search (rules, arith, less), (search rules, (search rules, (search rules, (search rules, (search rules, (search rules, (search rules, (inv.ready, (c.requires.low, (inv.most, (inv.carry, (inv.large, (done, (large_child, (few, inv.still))))))))))))))))

pub edit_children-loop-left-preserved : goal.edit_children-loop-left-preserved
edit_children-loop-left-preserved g t c =
    let i = g.M.Unit.Item in let m = g.M.Summer in let s0 = c.args.store.now in let s1 = c.loop-left.store in let s2 = c.edit_child.new.store in let u0 = c.args.summer.now in let u1 = c.loop-left.summer in
    let u2 = c.edit_child.new.summer in let n1 = places (g.S.NodeSource.nodes s1) in let n2 = places (g.S.NodeSource.nodes s2) in let low = c.args.low in let inv = c.loop-left.invariant in let says = c.in_ok-next.ensures in
    let child = c.take_first-child.result in let rest = c.take_first-child.new.list.items in let own = c.share.result.0.now in let others = c.share.result.1.now in let carry = c.loop-left.carry in let next = c.in_ok-next.next in
    let done = c.loop-left.done.items in let now = c.edit_child.new.done.items in let len = ap length c.share.ensures.whole ∙ length-append own others in
    let taken : length c.loop-left.rest.items ≡ suc (length rest) = ap length c.take_first-child.ensures in let l = ap insertions c.share.ensures.whole ∙ insertions_append own others in let r = ap (λ ds. item_count (Inner ds)) c.take_first-child.ensures ∙ count_cons child rest in
    record {
      ran = goes_on g.M.Unit.Item g.S.NodeSource g.M.Summer (laws g) s0 s1 s2 u0 u1 u2 inv.ran says.ran;
      ready = says.ready;
      carry = says.kind;
      most = says.most;
      large = says.large;
      done = says.done;
      rest = large_tail (low + 1) child rest (subst (λ ds. AreLarge (low + 1) (Inner ds)) c.take_first-child.ensures inv.rest);
      count = omega (arith, l, r, inv.count, says.count);
      ended = λ e. c.share.ensures.all (c.is_empty-in-loop-left.ensures ∙ ap (λ n. n == 0) e);
      same = λ e. ap (λ ds. ds ++ rest) (says.kept e) ∙ append_assoc done (child ∷ []) rest ∙ ap (λ ds. done ++ ds) (sym c.take_first-child.ensures) ∙ inv.same (says.still e);
      still = says.empty;
      steps = let all = steps_step (low + 1) c.args.steps.now c.loop-left.steps c.edit_child.new.steps (length done) (length now) (length c.loop-left.rest.items) (length rest) (entries carry.node) (entries next.node) (rounding (entries carry.node)) (rounding (entries next.node)) (pending low carry.level (entries carry.node)) (pending low next.level (entries next.node)) (length c.args.children.items) (length c.args.edits.now) (length own) (length others) (length c.loop-left.left.now)
          len taken (omega (arith, inv.steps)) (omega (arith, says.steps)) in omega (arith, all);
      once = omega (arith, len, taken, inv.once, says.once);
      reads = (omega (arith, inv.reads.0, says.reads.0), omega (arith, inv.reads.1, says.reads.1));
      leaf = put_two inv.leaf says.leaf (omega arith) (omega arith) (omega arith) (λ u. u) (λ u. g.met.M.Summer.keeps.usable u0 u1 inv.ran.summer u) (omega (arith, l));
      unput = λ e. unput_on g.S.NodeSource (inv.unput (says.still e)) (says.unput e);
      met = λ first tree pieces under children.
          let s = g.S.NodeSource in
          let P = Given i s m first tree pieces s1 low in
          let was = inv.met first tree pieces under children in
          let left = subst (All P) c.take_first-child.ensures was.3 in
          let now_all = says.met first tree pieces (under_on i s m (laws g) first tree pieces s0 s1 u0 u1 under inv.ran) was.1 was.2 (All-head P child rest left) in (
            taken_on i s m (laws g) first tree pieces s1 s2 u1 u2 says.ran (s.gets s0) was.0 now_all.0,
            now_all.1.0,
            now_all.1.1,
            all_on i s m (laws g) first tree pieces s1 s2 u1 u2 says.ran low rest (All-tail P child rest left),
          );
      known = λ first begun way children.
          let s = g.S.NodeSource in
          let was = inv.known first begun way children in
          let P : Child _ → Type 0 = λ d. KnowsSum i s m first begun u1 s1 d.sum in
          let left = subst (KnowsRow i s m first begun u1 s1) c.take_first-child.ensures was.3 in
          let way1 = way_on i s m (laws g) first begun s0 s1 u0 u1 inv.ran way in
          let now_all = says.known first begun way1 was.1 was.2 (All-head P child rest left) in (
            known_goes i s m (laws g) first begun s0 s1 s2 u1 u2 says.ran was.0 (says.sums first begun way1 was.2),
            now_all.0,
            now_all.1,
            row_goes i s m (laws g) first begun s1 s2 u1 u2 says.ran rest (All-tail P child rest left),
          );
      pieces = λ first items among known sorted cs ai ae.
          let known1 = known_on g.M.Unit.Item g.S.NodeSource g.M.Summer (laws g) first s0 s1 u0 u1 known inv.ran in
          let e12 = extends_on g.M.Unit.Item g.S.NodeSource g.M.Summer (laws g) s1 s2 u1 u2 says.ran in
          let was = inv.pieces first items among known sorted cs ai ae in
          let held = inv.items first items known sorted cs in
          let whole = subst (AreAmong among) (sym held.all) (applied_among i.order among c.args.edits.now items ae ai) in
          let front = all_front (Contains among) held.front (applied i.order c.loop-left.left.now held.back) whole in
          let next_left = left_step i m first among n1 n2 e12 low child c.loop-left.rest.items rest c.loop-left.left.now own others c.take_first-child.ensures c.share.ensures.whole was.1 in
          let two = says.pieces first held.front next_left.mid among known1 next_left.sorted held.at_front next_left.child front next_left.known next_left.inserts in
          (pieces_on i m first among n1 n2 e12 Below (g.S.NodeSource.puts s0) (g.S.NodeSource.puts s1) (g.S.NodeSource.puts s2) was.0 two, next_left.later);
      quiet = λ first items known cs none.
          let known1 = known_on g.M.Unit.Item g.S.NodeSource g.M.Summer (laws g) first s0 s1 u0 u1 known inv.ran in
          still_step i m first n1 n2 (extends_on g.M.Unit.Item g.S.NodeSource g.M.Summer (laws g) s1 s2 u1 u2 says.ran) low child c.loop-left.rest.items rest c.loop-left.left.now own others carry.same next.same
          c.take_first-child.ensures c.share.ensures.whole (λ mid p q. says.quiet first mid known1 p q) (inv.quiet first items known cs none);
      inserts = λ e. let a = inv.inserts (says.still e) in let b = says.inserts e in omega (arith, a, b, l);
      items = λ first items known sorted cs.
          let known1 = known_on g.M.Unit.Item g.S.NodeSource g.M.Summer (laws g) first s0 s1 u0 u1 known inv.ran in
          held_step i m first n1 n2 (extends_on g.M.Unit.Item g.S.NodeSource g.M.Summer (laws g) s1 s2 u1 u2 says.ran) g.met.M.Unit.Item.is_total low child c.loop-left.rest.items rest c.loop-left.left.now own others done now carry.level next.level carry.node next.node (applied i.order c.args.edits.now items)
          c.take_first-child.ensures c.share.ensures.whole
          (λ some. c.share.ensures.below (some_from_test (vec_len c.take_first-child.new.list) c.is_empty-in-loop-left.result c.is_empty-in-loop-left.ensures (omega (arith, some))))
          c.share.ensures.above (λ xs mid s p q. says.items first xs mid known1 s p q) (inv.items first items known sorted cs);
    }

pub edit_children-returns-in_err-next-clause-ran : goal.edit_children-returns-in_err-next-clause-ran
edit_children-returns-in_err-next-clause-ran g t c =
    let p = err_from_is_err_and c.from_residual.result c.from_residual.ensures.1 in
    ran_err g.M.Unit.Item g.S.NodeSource g.M.Summer (laws g) _ _ _ _ c.from_residual.result c.in_err-next.field-0.0 p.0 p.2 p.1 (fails_on g.M.Unit.Item g.S.NodeSource g.M.Summer (laws g) c.args.store.now c.loop-left.store c.edit_child.new.store c.args.summer.now c.loop-left.summer c.edit_child.new.summer c.loop-left.invariant.ran _ c.in_err-next.ensures.ran)

pub edit_children-returns-in_err-row-clause-ran : goal.edit_children-returns-in_err-row-clause-ran
edit_children-returns-in_err-row-clause-ran g t c =
    let p = err_from_is_err_and c.from_residual-in_err-row.result c.from_residual-in_err-row.ensures.1 in
    ran_err g.M.Unit.Item g.S.NodeSource g.M.Summer (laws g) _ _ _ _ c.from_residual-in_err-row.result c.in_err-row.field-0.0 p.0 p.2 p.1 (fails_on g.M.Unit.Item g.S.NodeSource g.M.Summer (laws g) c.args.store.now c.loop-left.store c.finish.new.store c.args.summer.now c.loop-left.summer c.finish.new.summer c.loop-left.invariant.ran _ c.in_err-row.ensures.ran)

pub edit_children-returns-clause-ran : goal.edit_children-returns-clause-ran
edit_children-returns-clause-ran g t c = goes_on g.M.Unit.Item g.S.NodeSource g.M.Summer (laws g) c.args.store.now c.loop-left.store c.finish.new.store c.args.summer.now c.loop-left.summer c.finish.new.summer c.loop-left.invariant.ran c.in_ok-row.ensures.ran

pub edit_children-returns-clause-items : goal.edit_children-returns-clause-items
edit_children-returns-clause-items g t c first items known sorted cs =
    let s0 = c.args.store.now in let s1 = c.loop-left.store in let u0 = c.args.summer.now in let u1 = c.loop-left.summer in let inv = c.loop-left.invariant in let edits = c.args.edits.now in
    let all = applied g.M.Unit.Item.order edits items in let r : vec_len c.loop-left.rest ≡ 0 = none_from_test (vec_len c.loop-left.rest) c.is_empty.result c.is_empty.ensures c.loop-left-test.false in
    let carries = held_end g.M.Unit.Item g.M.Summer first (places (g.S.NodeSource.nodes s1)) c.args.low c.loop-left.carry.level c.loop-left.done.items c.loop-left.rest.items c.loop-left.carry.node c.loop-left.left.now all
    (omega (arith, r)) (inv.ended r) (inv.items first items known sorted cs) in
    c.in_ok-row.ensures.items first all (known_on g.M.Unit.Item g.S.NodeSource g.M.Summer (laws g) first s0 s1 u0 u1 known inv.ran) carries

pub edit_children-returns-clause-count : goal.edit_children-returns-clause-count
edit_children-returns-clause-count g t c = omega (arith, c.loop-left.invariant.count, c.in_ok-row.ensures.count)

pub edit_children-returns-clause-node : goal.edit_children-returns-clause-node
edit_children-returns-clause-node g t c e =
    let r : vec_len c.loop-left.rest ≡ 0 = none_from_test (vec_len c.loop-left.rest) c.is_empty.result c.is_empty.ensures c.loop-left-test.false in let none : c.loop-left.rest.items ≡ [] = Rattle.reduce_tree.proofs.Lists.none_long c.loop-left.rest.items (omega (arith, r)) in
    c.in_ok-row.ensures.node e ∙ ap Inner (sym (append-nil c.loop-left.done.items) ∙ ap (λ ds. c.loop-left.done.items ++ ds) (sym none) ∙ c.loop-left.invariant.same (c.in_ok-row.ensures.still e))

pub edit_children-returns-clause-steps : goal.edit_children-returns-clause-steps
edit_children-returns-clause-steps g t c = omega (arith, c.in_ok-row.ensures.steps, c.loop-left.invariant.steps)

pub edit_children-returns-clause-once : goal.edit_children-returns-clause-once
edit_children-returns-clause-once g t c = omega (arith, c.in_ok-row.ensures.once, c.loop-left.invariant.once)

pub edit_child-returns-clause-steps : goal.edit_child-returns-clause-steps
edit_child-returns-clause-steps g t c =
    let low = c.args.low in let e = length c.args.edits.now in let cl = c.args.carry.level in let cn = entries c.args.carry.node in let rl = c.in_ok-row-2.row.level in let rn = entries c.in_ok-row-2.row.node in
    let jl = c.in_ok-joined.joined.level in let jn = entries c.in_ok-joined.joined.node in let fn = entries c.in_ok-node.node in let t0 = c.args.steps.now in let t1 = c.fetch.new.steps in let t2 = c.edit_row.new.steps in
    let t3 = c.join_rows.new.steps in let most = c.in_ok-node.ensures.fits.filled.most in let joined = c.in_ok-joined.ensures.steps low c.requires.most c.in_ok-row-2.ensures.most in
    elim c.else-is_empty.branch [
      | edit_child-else-is_empty-via-then-is_empty+else-is_ready w ↦
          let none = none_from_test e c.is_empty.result c.is_empty.ensures w.if-is_empty.true in
          let is_same = c.in_ok-row-2.ensures.same none in
          let same : rl ≡ low = c.in_ok-row-2.ensures.level is_same in
          let whole : rn ≡ fn = ap entries (c.in_ok-row-2.ensures.node is_same) in
          let least : 8 ≤ fn = c.in_ok-node.ensures.fits.filled.least in
          let long : 8 ≤ rn = omega (arith, whole, least) in
          let high : jl ≡ rl = c.in_ok-joined.ensures.high (omega (arith, same, c.requires.most)) (omega (arith, long)) in
          let more : rn ≤ jn = c.in_ok-joined.ensures.least (omega (arith, same, c.requires.most)) (omega (arith, long)) in
          let n : ready low cl cn ≡ false = sym w.is_ready.ensures.ready ∙ w.if-is_ready.false in
          steps_joined low e t0 t1 t2 t3 cl cn rl rn jl jn fn (vec_len c.args.done.now) none c.requires.most c.in_ok-node.ensures.steps most c.in_ok-row-2.ensures.steps joined n (ready_put low jl jn (high ∙ same) (omega (arith, long, more)))
      | edit_child-else-is_empty-via-else-is_empty w ↦
          let some = some_by_test e c.is_empty.result c.is_empty.ensures w.if-is_empty.false in
          steps_edited low e t0 t1 t2 t3 cl cn rl rn jl jn fn (vec_len c.args.done.now) some c.requires.most (c.in_ok-joined.ensures.most low c.requires.most c.in_ok-row-2.ensures.most) c.in_ok-node.ensures.steps most c.in_ok-row-2.ensures.steps joined
    ]

pub edit_child-returns-then-is_ready-2-clause-steps : goal.edit_child-returns-then-is_ready-2-clause-steps
edit_child-returns-then-is_ready-2-clause-steps g t c =
    let low = c.args.low in let e = length c.args.edits.now in let cl = c.args.carry.level in let cn = entries c.args.carry.node in
    let some : 0 < e = elim c.else-is_empty.branch [
      | edit_child-else-is_empty-via-then-is_empty+else-is_ready w ↦
          let n : ready low cl cn ≡ false = sym w.is_ready.ensures.ready ∙ w.if-is_ready.false in
          let y : ready low cl cn ≡ true = sym c.is_ready-then-row.ensures.ready ∙ c.if-is_ready-2.true in
          absurd (cc)
      | edit_child-else-is_empty-via-else-is_empty w ↦ some_by_test e c.is_empty.result c.is_empty.ensures w.if-is_empty.false
    ] in
    let z : entries c.in_ok-row-3.row.node ≡ 0 = ap entries c.in_ok-row-3.ensures.none in
    steps_kept low e c.args.steps.now c.fetch.new.steps c.edit_row.new.steps c.keep_child-then-is_ready-2.new.steps cl cn c.in_ok-row-2.row.level (entries c.in_ok-row-2.row.node) (entries c.in_ok-node.node) (vec_len c.args.done.now) (vec_len c.keep_child-then-is_ready-2.new.done) c.in_ok-row-3.row.level (entries c.in_ok-row-3.row.node)
    some c.in_ok-node.ensures.steps c.in_ok-node.ensures.fits.filled.most z c.in_ok-row-2.ensures.steps c.in_ok-row-3.ensures.steps

pub edit_child-returns-then-is_ready-2-clause-once : goal.edit_child-returns-then-is_ready-2-clause-once
edit_child-returns-then-is_ready-2-clause-once g t c =
    let same = ap length c.in_ok-node.ensures.puts in let z : entries c.in_ok-row-3.row.node ≡ 0 = ap entries c.in_ok-row-3.ensures.none in let r : rounding (entries c.in_ok-row-3.row.node) ≡ 0 = ap rounding z in omega (arith, z, r, same, c.in_ok-node.ensures.steps, c.in_ok-node.ensures.fits.filled.most, c.in_ok-row-2.ensures.once, c.in_ok-row-3.ensures.once)

-- ---- edit_row

pub edit_row-returns-then-is_empty-clause-ran : goal.edit_row-returns-then-is_empty-clause-ran
edit_row-returns-then-is_empty-clause-ran g t c = goes_none g.M.Unit.Item g.S.NodeSource g.M.Summer (laws g) c.args.store.now c.args.summer.now

pub edit_row-returns-then-is_empty-clause-items : goal.edit_row-returns-then-is_empty-clause-items
edit_row-returns-then-is_empty-clause-items g t c first items known sorted has =
    let none = none_from_test (length c.args.edits.now) c.is_empty.result c.is_empty.ensures c.if-is_empty.true in subst (λ xs. Has g.M.Unit.Item g.M.Summer first (places (g.S.NodeSource.nodes c.args.store.now)) c.args.level c.args.node xs) (sym (none_given g.M.Unit.Item.order c.args.edits.now items none)) has

pub edit_row-returns-in_ok-row-in-Inner-clause-items : goal.edit_row-returns-in_ok-row-in-Inner-clause-items
edit_row-returns-in_ok-row-in-Inner-clause-items g t c first items known sorted has =
    let i = g.M.Unit.Item in let m = g.M.Summer in let n0 = places (g.S.NodeSource.nodes c.args.store.now) in let cs0 = c.in-Inner.children in let low = c.args.level - 1 in
    let kind : is_leaf (Inner cs0) ≡ (c.args.level == 0) = subst (λ x. is_leaf x ≡ (c.args.level == 0)) c.in-Inner.is c.requires.kind in let lvl : c.args.level ≡ suc low = level_above c.args.level kind in
    let has0 : Has i m first n0 c.args.level (Inner cs0) items = subst (λ x. Has i m first n0 c.args.level x items) c.in-Inner.is has in let has1 : AreChildren i m first (Stands i m first n0 low) cs0 items = subst (λ l. Has i m first n0 l (Inner cs0) items) lvl has0 in
    c.in_ok-row-in-Inner.ensures.items first items known sorted (subst (λ ds. AreChildren i m first (Stands i m first n0 low) ds items) (sym c.into_vec-in-Inner.ensures) has1)

pub edit_row-returns-in_ok-row-in-Inner-clause-steps : goal.edit_row-returns-in_ok-row-in-Inner-clause-steps
edit_row-returns-in_ok-row-in-Inner-clause-steps g t c =
    let cs0 = c.in-Inner.children in let kind : is_leaf (Inner cs0) ≡ (c.args.level == 0) = subst (λ x. is_leaf x ≡ (c.args.level == 0)) c.in-Inner.is c.requires.kind in
    let lvl : c.args.level ≡ suc (c.args.level - 1) = level_above c.args.level kind in let up : (c.args.level - 1) + 1 ≡ c.args.level = omega (arith, lvl) in let n = ap entries c.in-Inner.is in let list = ap length c.into_vec-in-Inner.ensures in
    let says = subst (λ l. 31 * c.edit_children.new.steps + (entries c.in_ok-row-in-Inner.row.node + 93 * slack l c.in_ok-row-in-Inner.row.level (entries c.in_ok-row-in-Inner.row.node)) ≤ 31 * c.args.steps.now + (vec_len c.into_vec-in-Inner.result + (length c.args.edits.now + 186 * (l * length c.args.edits.now)))) up c.in_ok-row-in-Inner.ensures.steps in omega (arith, n, list, says)

pub edit_row-returns-in_ok-row-in-Inner-clause-once : goal.edit_row-returns-in_ok-row-in-Inner-clause-once
edit_row-returns-in_ok-row-in-Inner-clause-once g t c =
    let n = ap entries c.in-Inner.is in let list = ap length c.into_vec-in-Inner.ensures in omega (arith, n, list, c.in_ok-row-in-Inner.ensures.once)

pub edit_child-returns-then-is_ready-clause-kind : goal.edit_child-returns-then-is_ready-clause-kind
edit_child-returns-then-is_ready-clause-kind g t c = empty_at_level c.in_ok-row.row.level c.in_ok-row.row.node c.in_ok-row.ensures.level c.in_ok-row.ensures.none

pub edit_child-returns-then-is_ready-clause-large : goal.edit_child-returns-then-is_ready-clause-large
edit_child-returns-then-is_ready-clause-large g t c = subst (λ n. AreLarge c.in_ok-row.row.level n) (sym c.in_ok-row.ensures.none) tt

pub edit_child-returns-then-is_ready-clause-count : goal.edit_child-returns-then-is_ready-clause-count
edit_child-returns-then-is_ready-clause-count g t c = omega (arith, ap item_count c.in_ok-row.ensures.none, c.in_ok-row.ensures.count)

pub edit_child-returns-then-is_ready-clause-empty : goal.edit_child-returns-then-is_ready-clause-empty
edit_child-returns-then-is_ready-clause-empty g t c e = ap entries c.in_ok-row.ensures.none

pub edit_child-returns-then-is_ready-2-clause-kind : goal.edit_child-returns-then-is_ready-2-clause-kind
edit_child-returns-then-is_ready-2-clause-kind g t c = empty_at_level c.in_ok-row-3.row.level c.in_ok-row-3.row.node c.in_ok-row-3.ensures.level c.in_ok-row-3.ensures.none

pub edit_child-returns-then-is_ready-2-clause-large : goal.edit_child-returns-then-is_ready-2-clause-large
edit_child-returns-then-is_ready-2-clause-large g t c = subst (λ n. AreLarge c.in_ok-row-3.row.level n) (sym c.in_ok-row-3.ensures.none) tt

pub edit_child-returns-then-is_ready-2-clause-count : goal.edit_child-returns-then-is_ready-2-clause-count
edit_child-returns-then-is_ready-2-clause-count g t c = omega (arith, ap item_count c.in_ok-row-3.ensures.none, c.in_ok-row-3.ensures.count)

pub edit_child-returns-then-is_ready-2-clause-empty : goal.edit_child-returns-then-is_ready-2-clause-empty
edit_child-returns-then-is_ready-2-clause-empty g t c e = ap entries c.in_ok-row-3.ensures.none

pub edit_row-returns-in_ok-after-in-Leaf-clause-steps : goal.edit_row-returns-in_ok-after-in-Leaf-clause-steps
edit_row-returns-in_ok-after-in-Leaf-clause-steps g t c =
    let n : entries c.args.node ≡ length c.in-Leaf.items = ap entries c.in-Leaf.is in let l : length c.into_vec.result.items ≡ length c.in-Leaf.items = ap length c.into_vec.ensures in let f : length c.from_vec.result ≡ length c.in_ok-after-in-Leaf.after.items = ap length c.from_vec.ensures in
    omega (arith, n, l, f, slack_most c.args.level c.args.level (length c.from_vec.result), c.in_ok-after-in-Leaf.ensures.count, insertions_most c.args.edits.now)

pub edit_row-returns-in_ok-after-in-Leaf-clause-once : goal.edit_row-returns-in_ok-after-in-Leaf-clause-once
edit_row-returns-in_ok-after-in-Leaf-clause-once g t c =
    let n : entries c.args.node ≡ length c.in-Leaf.items = ap entries c.in-Leaf.is in let l : length c.into_vec.result.items ≡ length c.in-Leaf.items = ap length c.into_vec.ensures in let f : length c.from_vec.result ≡ length c.in_ok-after-in-Leaf.after.items = ap length c.from_vec.ensures in
    omega (arith, n, l, f, slack_most c.args.level c.args.level (length c.from_vec.result), c.in_ok-after-in-Leaf.ensures.count, insertions_most c.args.edits.now)

-- ---- which items were put

pub edit_child-returns-then-is_ready-clause-leaf : goal.edit_child-returns-then-is_ready-clause-leaf
edit_child-returns-then-is_ready-clause-leaf g t c =
    let none = none_from_test (length c.args.edits.now) c.is_empty.result c.is_empty.ensures c.if-is_empty.true in let z = inserts_none c.args.edits.now none in let n = ap leaf_items c.in_ok-row.ensures.none in put_on c.in_ok-row.ensures.leaf (omega arith) (omega arith) (λ u. u) (omega (arith, z, n))

pub edit_child-returns-then-is_ready-clause-inserts : goal.edit_child-returns-then-is_ready-clause-inserts
edit_child-returns-then-is_ready-clause-inserts g t c e =
    let none = none_from_test (length c.args.edits.now) c.is_empty.result c.is_empty.ensures c.if-is_empty.true in inserts_none c.args.edits.now none

pub edit_child-returns-then-is_ready-2-clause-leaf : goal.edit_child-returns-then-is_ready-2-clause-leaf
edit_child-returns-then-is_ready-2-clause-leaf g t c =
    let is_same = c.if-row.true in let z = c.in_ok-row-2.ensures.inserts is_same in let a = c.in_ok-node.ensures.size in let b = (c.in_ok-row-2.ensures.unput is_same).size in let n = ap leaf_items c.in_ok-row-3.ensures.none in
    put_on c.in_ok-row-3.ensures.leaf (omega (arith, a, b)) (omega arith)
    (λ u. g.met.M.Summer.keeps.usable c.args.summer.now c.edit_row.new.summer c.in_ok-row-2.ensures.ran.summer u) (omega (arith, z, n))

pub edit_child-returns-then-is_ready-2-clause-inserts : goal.edit_child-returns-then-is_ready-2-clause-inserts
edit_child-returns-then-is_ready-2-clause-inserts g t c e = c.in_ok-row-2.ensures.inserts c.if-row.true

pub edit_child-returns-then-is_ready-2-clause-unput : goal.edit_child-returns-then-is_ready-2-clause-unput
edit_child-returns-then-is_ready-2-clause-unput g t c e =
    let a = c.in_ok-node.ensures in let b = c.in_ok-row-2.ensures.unput c.if-row.true in let d = c.in_ok-row-3.ensures.unput e in record { puts = d.puts ∙ b.puts ∙ a.puts; size = d.size ∙ b.size ∙ a.size }

pub edit_child-returns-clause-leaf : goal.edit_child-returns-clause-leaf
edit_child-returns-clause-leaf g t c =
    let a = c.in_ok-node.ensures.size in
    put_two c.in_ok-row-2.ensures.leaf c.in_ok-joined.ensures.leaf (omega (arith, a)) (omega arith) (omega arith) (λ u. u)
    (λ u. g.met.M.Summer.keeps.usable c.args.summer.now c.edit_row.new.summer c.in_ok-row-2.ensures.ran.summer u) (omega arith)

pub edit_child-returns-clause-unput : goal.edit_child-returns-clause-unput
edit_child-returns-clause-unput g t c e = not_both c.in_ok-joined.joined.same e c.in_ok-joined.ensures.same

pub edit_child-returns-clause-inserts : goal.edit_child-returns-clause-inserts
edit_child-returns-clause-inserts g t c e = not_both c.in_ok-joined.joined.same e c.in_ok-joined.ensures.same

pub edit_children-returns-clause-leaf : goal.edit_children-returns-clause-leaf
edit_children-returns-clause-leaf g t c =
    let inv = c.loop-left.invariant in let r : vec_len c.loop-left.rest ≡ 0 = none_from_test (vec_len c.loop-left.rest) c.is_empty.result c.is_empty.ensures c.loop-left-test.false in let z = inserts_none c.loop-left.left.now (inv.ended r) in
    put_two inv.leaf c.in_ok-row.ensures.leaf (omega arith) (omega arith) (omega arith) (λ u. u)
    (λ u. g.met.M.Summer.keeps.usable c.args.summer.now c.loop-left.summer inv.ran.summer u) (omega (arith, z))

pub edit_children-returns-clause-unput : goal.edit_children-returns-clause-unput
edit_children-returns-clause-unput g t c e = unput_on g.S.NodeSource (c.loop-left.invariant.unput (c.in_ok-row.ensures.still e)) (c.in_ok-row.ensures.unput e)

pub edit_children-returns-clause-inserts : goal.edit_children-returns-clause-inserts
edit_children-returns-clause-inserts g t c e =
    let inv = c.loop-left.invariant in let r : vec_len c.loop-left.rest ≡ 0 = none_from_test (vec_len c.loop-left.rest) c.is_empty.result c.is_empty.ensures c.loop-left-test.false in inv.inserts (c.in_ok-row.ensures.still e) ∙ inserts_none c.loop-left.left.now (inv.ended r)

pub edit_row-returns-then-is_empty-clause-leaf : goal.edit_row-returns-then-is_empty-clause-leaf
edit_row-returns-then-is_empty-clause-leaf g t c =
    let none = none_from_test (length c.args.edits.now) c.is_empty.result c.is_empty.ensures c.if-is_empty.true in let z = inserts_none c.args.edits.now none in put_none (omega (arith, z))

pub edit_row-returns-then-is_empty-clause-unput : goal.edit_row-returns-then-is_empty-clause-unput
edit_row-returns-then-is_empty-clause-unput g t c e = unput g.S.NodeSource c.args.store.now

pub edit_row-returns-then-is_empty-clause-inserts : goal.edit_row-returns-then-is_empty-clause-inserts
edit_row-returns-then-is_empty-clause-inserts g t c e =
    let none = none_from_test (length c.args.edits.now) c.is_empty.result c.is_empty.ensures c.if-is_empty.true in inserts_none c.args.edits.now none

pub edit_row-returns-in_ok-after-in-Leaf-clause-leaf : goal.edit_row-returns-in_ok-after-in-Leaf-clause-leaf
edit_row-returns-in_ok-after-in-Leaf-clause-leaf g t c =
    let f : length c.from_vec.result ≡ length c.in_ok-after-in-Leaf.after.items = ap length c.from_vec.ensures in let placed = c.in_ok-after-in-Leaf.ensures.placed in put_none (omega (arith, f, placed))

pub edit_row-returns-in_ok-after-in-Leaf-clause-unput : goal.edit_row-returns-in_ok-after-in-Leaf-clause-unput
edit_row-returns-in_ok-after-in-Leaf-clause-unput g t c e = unput g.S.NodeSource c.args.store.now

-- ---- where no edit changes anything

pub edit_child-returns-then-is_ready-clause-quiet : goal.edit_child-returns-then-is_ready-clause-quiet
edit_child-returns-then-is_ready-clause-quiet g t c first mid known child none same = c.in_ok-row.ensures.same ∙ same

pub edit_child-returns-then-is_ready-2-clause-quiet : goal.edit_child-returns-then-is_ready-2-clause-quiet
edit_child-returns-then-is_ready-2-clause-quiet g t c first mid known child none same = c.in_ok-row-3.ensures.same ∙ same

pub edit_child-returns-clause-quiet : goal.edit_child-returns-clause-quiet
edit_child-returns-clause-quiet g t c first mid known child none same =
    let i = g.M.Unit.Item in let m = g.M.Summer in let s0 = c.args.store.now in let s1 = c.fetch.new.store in let u0 = c.args.summer.now in let a = c.in_ok-node.ensures.ran in let n0 = places (g.S.NodeSource.nodes s0) in
    let n1 = places (g.S.NodeSource.nodes s1) in let got = c.in_ok-node.node in let known1 = known_on i g.S.NodeSource m (laws g) first s0 s1 u0 u0 known a in let has = has_stays i m first n0 n1 (extends_on i g.S.NodeSource m (laws g) s0 s1 u0 u0 a) c.args.low got mid (c.in_ok-node.ensures.got first mid Below known child.stands) in
    let still : c.in_ok-row-2.row.same ≡ true = c.in_ok-row-2.ensures.quiet first mid known1 has none in let z = c.requires.still same in let low = c.args.low in let cl = c.args.carry.level in let cn = entries c.args.carry.node in
    elim c.else-row.branch [
      | edit_child-else-row-via-then-row+else-is_ready-2 w ↦
          let n : ready low cl cn ≡ false = sym w.is_ready-then-row.ensures.ready ∙ w.if-is_ready-2.false in
          absurd (omega (arith, z, ready_some low cl cn n))
      | edit_child-else-row-via-else-row w ↦ let other : c.in_ok-row-2.row.same ≡ false = w.if-row.false in absurd (cc)
    ]

pub edit_children-returns-clause-quiet : goal.edit_children-returns-clause-quiet
edit_children-returns-clause-quiet g t c first items known cs none = c.in_ok-row.ensures.quiet (c.loop-left.invariant.quiet first items known cs none).0

pub edit_row-returns-in_ok-after-in-Leaf-clause-quiet : goal.edit_row-returns-in_ok-after-in-Leaf-clause-quiet
edit_row-returns-in_ok-after-in-Leaf-clause-quiet g t c first items known has none =
    let i = g.M.Unit.Item in let m = g.M.Summer in let n0 = places (g.S.NodeSource.nodes c.args.store.now) in let e = has_leaf i m first n0 c.args.level c.in-Leaf.items items (subst (λ x. Has i m first n0 c.args.level x items) c.in-Leaf.is has) in c.in_ok-after-in-Leaf.ensures.quiet (subst (λ xs. RemoveNone i.order c.args.edits.now xs) (e ∙ sym c.into_vec.ensures) none)

pub edit_row-returns-in_ok-row-in-Inner-clause-quiet : goal.edit_row-returns-in_ok-row-in-Inner-clause-quiet
edit_row-returns-in_ok-row-in-Inner-clause-quiet g t c first items known has none =
    let i = g.M.Unit.Item in let m = g.M.Summer in let n0 = places (g.S.NodeSource.nodes c.args.store.now) in let cs0 = c.in-Inner.children in let low = c.args.level - 1 in
    let kind : is_leaf (Inner cs0) ≡ (c.args.level == 0) = subst (λ x. is_leaf x ≡ (c.args.level == 0)) c.in-Inner.is c.requires.kind in let lvl : c.args.level ≡ suc low = level_above c.args.level kind in
    let has0 : Has i m first n0 c.args.level (Inner cs0) items = subst (λ x. Has i m first n0 c.args.level x items) c.in-Inner.is has in let has1 : AreChildren i m first (Stands i m first n0 low) cs0 items = subst (λ l. Has i m first n0 l (Inner cs0) items) lvl has0 in
    c.in_ok-row-in-Inner.ensures.quiet first items known (subst (λ ds. AreChildren i m first (Stands i m first n0 low) ds items) (sym c.into_vec-in-Inner.ensures) has1) none

-- ---- where no node is found to be bad

pub edit_child-returns-in_err-node-clause-items : goal.edit_child-returns-in_err-node-clause-items
edit_child-returns-in_err-node-clause-items g t c first items mid known sorted h child =
    let p = err_from_is_err_and c.from_residual-in_err-node.result c.from_residual-in_err-node.ensures.1 in if_sound _ c.from_residual-in_err-node.result c.in_err-node.field-0.0 p.0 p.2 p.1 (c.in_err-node.ensures.sound first mid known child.stands child.count)

pub edit_child-returns-in_err-row-2-clause-items : goal.edit_child-returns-in_err-row-2-clause-items
edit_child-returns-in_err-row-2-clause-items g t c first items mid known sorted h child =
    let i = g.M.Unit.Item in let m = g.M.Summer in let s0 = c.args.store.now in let s1 = c.fetch.new.store in let u0 = c.args.summer.now in let a = c.in_ok-node.ensures.ran in let n0 = places (g.S.NodeSource.nodes s0) in
    let n1 = places (g.S.NodeSource.nodes s1) in let at1 = has_stays i m first n0 n1 (extends_on i g.S.NodeSource m (laws g) s0 s1 u0 u0 a) c.args.low c.in_ok-node.node mid (c.in_ok-node.ensures.got first mid Below known child.stands) in
    let p = err_from_is_err_and c.from_residual-in_err-row-2.result c.from_residual-in_err-row-2.ensures.1 in if_sound _ c.from_residual-in_err-row-2.result c.in_err-row-2.field-0.0 p.0 p.2 p.1 (c.in_err-row-2.ensures.items first mid (known_on i g.S.NodeSource m (laws g) first s0 s1 u0 u0 known a) sorted at1)

pub edit_child-returns-in_err-joined-clause-items : goal.edit_child-returns-in_err-joined-clause-items
edit_child-returns-in_err-joined-clause-items g t c first items mid known sorted h child =
    let i = g.M.Unit.Item in let m = g.M.Summer in let s0 = c.args.store.now in let s1 = c.fetch.new.store in let s2 = c.edit_row.new.store in let u0 = c.args.summer.now in let u1 = c.edit_row.new.summer in
    let a = c.in_ok-node.ensures.ran in let b = c.in_ok-row-2.ensures.ran in let ab = goes_on i g.S.NodeSource m (laws g) s0 s1 s2 u0 u0 u1 a b in let n0 = places (g.S.NodeSource.nodes s0) in let n1 = places (g.S.NodeSource.nodes s1) in
    let n2 = places (g.S.NodeSource.nodes s2) in let at1 = has_stays i m first n0 n1 (extends_on i g.S.NodeSource m (laws g) s0 s1 u0 u0 a) c.args.low c.in_ok-node.node mid (c.in_ok-node.ensures.got first mid Below known child.stands) in
    let row = c.in_ok-row-2.ensures.items first mid (known_on i g.S.NodeSource m (laws g) first s0 s1 u0 u0 known a) sorted at1 in let back = has_stays i m first n0 n2 (extends_on i g.S.NodeSource m (laws g) s0 s2 u0 u1 ab) c.args.carry.level c.args.carry.node h.back h.at_back in
    let p = err_from_is_err_and c.from_residual-in_err-joined.result c.from_residual-in_err-joined.ensures.1 in
    if_sound _ c.from_residual-in_err-joined.result c.in_err-joined.field-0.0 p.0 p.2 p.1
    (c.in_err-joined.ensures.items first h.back (applied i.order c.args.edits.now mid) (known_on i g.S.NodeSource m (laws g) first s0 s2 u0 u1 known ab) back row)

pub edit_children-returns-in_err-next-clause-items : goal.edit_children-returns-in_err-next-clause-items
edit_children-returns-in_err-next-clause-items g t c first items known sorted cs =
    let i = g.M.Unit.Item in let m = g.M.Summer in let s0 = c.args.store.now in let s1 = c.loop-left.store in let u0 = c.args.summer.now in let u1 = c.loop-left.summer in let inv = c.loop-left.invariant in let n1 = places (g.S.NodeSource.nodes s1) in let held = inv.items first items known sorted cs in
    let child = held_child i m first n1 c.args.low c.take_first-child.result c.loop-left.rest.items c.take_first-child.new.list.items held.back c.take_first-child.ensures held.sorted held.at_back in let p = err_from_is_err_and c.from_residual.result c.from_residual.ensures.1 in
    if_sound _ c.from_residual.result c.in_err-next.field-0.0 p.0 p.2 p.1
    (c.in_err-next.ensures.items first held.front child.0 (known_on i g.S.NodeSource m (laws g) first s0 s1 u0 u1 known inv.ran) child.1 held.at_front child.2)

pub edit_children-returns-in_err-row-clause-items : goal.edit_children-returns-in_err-row-clause-items
edit_children-returns-in_err-row-clause-items g t c first items known sorted cs =
    let s0 = c.args.store.now in let s1 = c.loop-left.store in let u0 = c.args.summer.now in let u1 = c.loop-left.summer in let inv = c.loop-left.invariant in let edits = c.args.edits.now in
    let all = applied g.M.Unit.Item.order edits items in let r : vec_len c.loop-left.rest ≡ 0 = none_from_test (vec_len c.loop-left.rest) c.is_empty.result c.is_empty.ensures c.loop-left-test.false in
    let carries = held_end g.M.Unit.Item g.M.Summer first (places (g.S.NodeSource.nodes s1)) c.args.low c.loop-left.carry.level c.loop-left.done.items c.loop-left.rest.items c.loop-left.carry.node c.loop-left.left.now all
    (omega (arith, r)) (inv.ended r) (inv.items first items known sorted cs) in
    let p = err_from_is_err_and c.from_residual-in_err-row.result c.from_residual-in_err-row.ensures.1 in
    if_sound _ c.from_residual-in_err-row.result c.in_err-row.field-0.0 p.0 p.2 p.1
    (c.in_err-row.ensures.items first all (known_on g.M.Unit.Item g.S.NodeSource g.M.Summer (laws g) first s0 s1 u0 u1 known inv.ran) carries)

pub edit_row-returns-in_err-row-in-Inner-clause-items : goal.edit_row-returns-in_err-row-in-Inner-clause-items
edit_row-returns-in_err-row-in-Inner-clause-items g t c first items known sorted has =
    let i = g.M.Unit.Item in let m = g.M.Summer in let n0 = places (g.S.NodeSource.nodes c.args.store.now) in let cs0 = c.in-Inner.children in let low = c.args.level - 1 in
    let kind : is_leaf (Inner cs0) ≡ (c.args.level == 0) = subst (λ x. is_leaf x ≡ (c.args.level == 0)) c.in-Inner.is c.requires.kind in let lvl : c.args.level ≡ suc low = level_above c.args.level kind in
    let has0 : Has i m first n0 c.args.level (Inner cs0) items = subst (λ x. Has i m first n0 c.args.level x items) c.in-Inner.is has in let has1 : AreChildren i m first (Stands i m first n0 low) cs0 items = subst (λ l. Has i m first n0 l (Inner cs0) items) lvl has0 in
    let p = err_from_is_err_and c.from_residual-in_err-row-in-Inner.result c.from_residual-in_err-row-in-Inner.ensures.1 in
    if_sound _ c.from_residual-in_err-row-in-Inner.result c.in_err-row-in-Inner.field-0.0 p.0 p.2 p.1
    (c.in_err-row-in-Inner.ensures.items first items known sorted (subst (λ ds. AreChildren i m first (Stands i m first n0 low) ds items) (sym c.into_vec-in-Inner.ensures) has1))

-- ---- what is put

pub edit_child-returns-then-is_ready-clause-pieces : goal.edit_child-returns-then-is_ready-clause-pieces
edit_child-returns-then-is_ready-clause-pieces g t c first items mid among known sorted h child ai am ae = c.in_ok-row.ensures.pieces first items among known h ai

pub edit_child-returns-then-is_ready-2-clause-pieces : goal.edit_child-returns-then-is_ready-2-clause-pieces
edit_child-returns-then-is_ready-2-clause-pieces = held.edit_child-returns-then-is_ready-2-clause-pieces

pub edit_child-returns-clause-pieces : goal.edit_child-returns-clause-pieces
edit_child-returns-clause-pieces = held.edit_child-returns-clause-pieces

pub edit_children-returns-clause-pieces : goal.edit_children-returns-clause-pieces
edit_children-returns-clause-pieces = held.edit_children-returns-clause-pieces

pub edit_row-returns-then-is_empty-clause-pieces : goal.edit_row-returns-then-is_empty-clause-pieces
edit_row-returns-then-is_empty-clause-pieces g t c first items among known sorted has ai ae = pieces_none g.M.Unit.Item g.M.Summer first among (places (g.S.NodeSource.nodes c.args.store.now)) Below (g.S.NodeSource.puts c.args.store.now) (g.S.NodeSource.puts c.args.store.now) refl

pub edit_row-returns-in_ok-after-in-Leaf-clause-pieces : goal.edit_row-returns-in_ok-after-in-Leaf-clause-pieces
edit_row-returns-in_ok-after-in-Leaf-clause-pieces g t c first items among known sorted has ai ae = pieces_none g.M.Unit.Item g.M.Summer first among (places (g.S.NodeSource.nodes c.args.store.now)) Below (g.S.NodeSource.puts c.args.store.now) (g.S.NodeSource.puts c.args.store.now) refl

pub edit_row-returns-in_ok-row-in-Inner-clause-pieces : goal.edit_row-returns-in_ok-row-in-Inner-clause-pieces
edit_row-returns-in_ok-row-in-Inner-clause-pieces = held.edit_row-returns-in_ok-row-in-Inner-clause-pieces

-- ---- what calls that gave up cost

pub edit_child-returns-in_err-row-clause-spent : goal.edit_child-returns-in_err-row-clause-spent
edit_child-returns-in_err-row-clause-spent g t c =
    let k = c.in_err-row.ensures.spent in on_err c.from_residual.result _ (record { steps = let s = k.steps in omega (arith, s); puts = let s = k.puts in omega (arith, s) })

pub edit_child-returns-in_err-node-clause-spent : goal.edit_child-returns-in_err-node-clause-spent
edit_child-returns-in_err-node-clause-spent g t c =
    let low = c.args.low in let e = length c.args.edits.now in let cl = c.args.carry.level in let cn = entries c.args.carry.node in
    let why : (0 < e) ⊎ (ready low cl cn ≡ false) = elim c.else-is_empty.branch [
      | edit_child-else-is_empty-via-then-is_empty+else-is_ready w ↦ inr (sym w.is_ready.ensures.ready ∙ w.if-is_ready.false)
      | edit_child-else-is_empty-via-else-is_empty w ↦ inl (some_by_test e c.is_empty.result c.is_empty.ensures w.if-is_empty.false)
    ] in
    let pays = paid low e cl cn c.requires.most why in let b = c.in_err-node.ensures in let same = ap length b.puts in on_err c.from_residual-in_err-node.result _ (record { steps = omega (arith, pays, b.steps); puts = omega (arith, same, b.steps) })

pub edit_child-returns-in_err-row-2-clause-spent : goal.edit_child-returns-in_err-row-2-clause-spent
edit_child-returns-in_err-row-2-clause-spent g t c =
    let low = c.args.low in let e = length c.args.edits.now in let cl = c.args.carry.level in let cn = entries c.args.carry.node in
    let why : (0 < e) ⊎ (ready low cl cn ≡ false) = elim c.else-is_empty.branch [
      | edit_child-else-is_empty-via-then-is_empty+else-is_ready w ↦ inr (sym w.is_ready.ensures.ready ∙ w.if-is_ready.false)
      | edit_child-else-is_empty-via-else-is_empty w ↦ inl (some_by_test e c.is_empty.result c.is_empty.ensures w.if-is_empty.false)
    ] in
    let pays = paid low e cl cn c.requires.most why in let b = c.in_ok-node.ensures in let same = ap length b.puts in let most = b.fits.filled.most in let k = c.in_err-row-2.ensures.spent in on_err c.from_residual-in_err-row-2.result _ (record { steps = let s = k.steps in omega (arith, pays, b.steps, most, s); puts = let s = k.puts in omega (arith, same, b.steps, most, s) })

pub edit_child-returns-in_err-row-3-clause-spent : goal.edit_child-returns-in_err-row-3-clause-spent
edit_child-returns-in_err-row-3-clause-spent g t c =
    let low = c.args.low in let e = length c.args.edits.now in let cl = c.args.carry.level in let cn = entries c.args.carry.node in
    let why : (0 < e) ⊎ (ready low cl cn ≡ false) = elim c.else-is_empty.branch [
      | edit_child-else-is_empty-via-then-is_empty+else-is_ready w ↦ inr (sym w.is_ready.ensures.ready ∙ w.if-is_ready.false)
      | edit_child-else-is_empty-via-else-is_empty w ↦ inl (some_by_test e c.is_empty.result c.is_empty.ensures w.if-is_empty.false)
    ] in
    let pays = paid low e cl cn c.requires.most why in let b = c.in_ok-node.ensures in let same = ap length b.puts in let most = b.fits.filled.most in let row = c.in_ok-row-2.ensures in let k = c.in_err-row-3.ensures.spent in
    on_err c.from_residual-in_err-row-3.result _ (record { steps = let s = k.steps in omega (arith, pays, b.steps, most, row.steps, s); puts = let s = k.puts in omega (arith, same, b.steps, most, row.once, s) })

pub edit_child-returns-in_err-joined-clause-spent : goal.edit_child-returns-in_err-joined-clause-spent
edit_child-returns-in_err-joined-clause-spent g t c =
    let low = c.args.low in let e = length c.args.edits.now in let cl = c.args.carry.level in let cn = entries c.args.carry.node in
    let why : (0 < e) ⊎ (ready low cl cn ≡ false) = elim c.else-is_empty.branch [
      | edit_child-else-is_empty-via-then-is_empty+else-is_ready w ↦ inr (sym w.is_ready.ensures.ready ∙ w.if-is_ready.false)
      | edit_child-else-is_empty-via-else-is_empty w ↦ inl (some_by_test e c.is_empty.result c.is_empty.ensures w.if-is_empty.false)
    ] in
    let pays = paid low e cl cn c.requires.most why in let b = c.in_ok-node.ensures in let same = ap length b.puts in let most = b.fits.filled.most in let row = c.in_ok-row-2.ensures in let k = c.in_err-joined.ensures.spent low c.requires.most row.most in
    on_err c.from_residual-in_err-joined.result _ (record { steps = let s = k.steps in omega (arith, pays, b.steps, most, row.steps, s); puts = let s = k.puts in omega (arith, same, b.steps, most, row.once, s) })

pub edit_children-returns-in_err-next-clause-spent : goal.edit_children-returns-in_err-next-clause-spent
edit_children-returns-in_err-next-clause-spent g t c =
    let inv = c.loop-left.invariant in let carry = c.loop-left.carry in let own = c.share.result.0.now in let others = c.share.result.1.now in let rest = c.take_first-child.new.list.items in
    let len = ap length c.share.ensures.whole ∙ length-append own others in let taken : length c.loop-left.rest.items ≡ suc (length rest) = ap length c.take_first-child.ensures in let k = c.in_err-next.ensures.spent in
    let all = steps_fault (c.args.low + 1) c.args.steps.now c.loop-left.steps c.edit_child.new.steps (length c.loop-left.done.items) (length c.loop-left.rest.items) (length rest) (entries carry.node) (rounding (entries carry.node)) (pending c.args.low carry.level (entries carry.node)) (length c.args.children.items) (length c.args.edits.now) (length own) (length others) (length c.loop-left.left.now)
    len taken (omega (arith, inv.steps)) (let s = k.steps in omega (arith, s)) in
    on_err c.from_residual.result _ (record { steps = omega (arith, all); puts = let s = k.puts in omega (arith, len, taken, inv.once, s) })

pub edit_children-returns-in_err-row-clause-spent : goal.edit_children-returns-in_err-row-clause-spent
edit_children-returns-in_err-row-clause-spent g t c =
    let inv = c.loop-left.invariant in let k = c.in_err-row.ensures.spent in on_err c.from_residual-in_err-row.result _ (record { steps = let s = k.steps in omega (arith, inv.steps, s); puts = let s = k.puts in omega (arith, inv.once, s) })

pub edit_row-returns-in_err-after-in-Leaf-clause-spent : goal.edit_row-returns-in_err-after-in-Leaf-clause-spent
edit_row-returns-in_err-after-in-Leaf-clause-spent g t c = on_err c.from_residual.result _ (record { steps = omega arith; puts = omega arith })

pub edit_row-returns-in_err-row-in-Inner-clause-spent : goal.edit_row-returns-in_err-row-in-Inner-clause-spent
edit_row-returns-in_err-row-in-Inner-clause-spent g t c =
    let cs0 = c.in-Inner.children in let kind : is_leaf (Inner cs0) ≡ (c.args.level == 0) = subst (λ x. is_leaf x ≡ (c.args.level == 0)) c.in-Inner.is c.requires.kind in
    let lvl : c.args.level ≡ suc (c.args.level - 1) = level_above c.args.level kind in let up : (c.args.level - 1) + 1 ≡ c.args.level = omega (arith, lvl) in let n = ap entries c.in-Inner.is in let list = ap length c.into_vec-in-Inner.ensures in let k = c.in_err-row-in-Inner.ensures.spent in
    let says = subst (λ l. 31 * c.edit_children.new.steps ≤ 31 * c.args.steps.now + (vec_len c.into_vec-in-Inner.result + (length c.args.edits.now + 186 * (l * length c.args.edits.now)))) up k.steps in on_err c.from_residual-in_err-row-in-Inner.result _ (record { steps = omega (arith, n, list, says); puts = let s = k.puts in omega (arith, n, list, s) })

pub edit_row-returns-in_err-after-in-Leaf-clause-ran : goal.edit_row-returns-in_err-after-in-Leaf-clause-ran
edit_row-returns-in_err-after-in-Leaf-clause-ran g t c =
    let p = err_from_is_err_and c.from_residual.result c.from_residual.ensures.1 in ran_err g.M.Unit.Item g.S.NodeSource g.M.Summer (laws g) _ _ _ _ c.from_residual.result tree_fault.NoMemory p.0 p.2 p.1 (goes_none g.M.Unit.Item g.S.NodeSource g.M.Summer (laws g) c.args.store.now c.args.summer.now)

-- ---- what was put by calls that gave up

pub edit_child-returns-in_err-row-clause-pieces : goal.edit_child-returns-in_err-row-clause-pieces
edit_child-returns-in_err-row-clause-pieces g t c first items mid among known sorted h child ai am ae =
    let p = err_from_is_err_and c.from_residual.result c.from_residual.ensures.1 in on_match c.from_residual.result _ _ _ p.0 p.2 p.1 (c.in_err-row.ensures.pieces first items among known h ai)

pub edit_child-returns-in_err-node-clause-pieces : goal.edit_child-returns-in_err-node-clause-pieces
edit_child-returns-in_err-node-clause-pieces g t c first items mid among known sorted h child ai am ae =
    let p = err_from_is_err_and c.from_residual-in_err-node.result c.from_residual-in_err-node.ensures.1 in on_match c.from_residual-in_err-node.result _ _ _ p.0 p.2 p.1 (were_none g.M.Unit.Item g.S.NodeSource g.M.Summer (laws g) first among c.args.store.now c.fetch.new.store c.args.summer.now c.args.summer.now c.in_err-node.field-0.0 c.in_err-node.ensures.ran c.in_err-node.ensures.puts)

pub edit_child-returns-in_err-row-2-clause-pieces : goal.edit_child-returns-in_err-row-2-clause-pieces
edit_child-returns-in_err-row-2-clause-pieces = held.edit_child-returns-in_err-row-2-clause-pieces

pub edit_child-returns-in_err-row-3-clause-pieces : goal.edit_child-returns-in_err-row-3-clause-pieces
edit_child-returns-in_err-row-3-clause-pieces = held.edit_child-returns-in_err-row-3-clause-pieces

pub edit_child-returns-in_err-joined-clause-pieces : goal.edit_child-returns-in_err-joined-clause-pieces
edit_child-returns-in_err-joined-clause-pieces = held.edit_child-returns-in_err-joined-clause-pieces

pub edit_children-returns-in_err-next-clause-pieces : goal.edit_children-returns-in_err-next-clause-pieces
edit_children-returns-in_err-next-clause-pieces = held.edit_children-returns-in_err-next-clause-pieces

pub edit_children-returns-in_err-row-clause-pieces : goal.edit_children-returns-in_err-row-clause-pieces
edit_children-returns-in_err-row-clause-pieces = held.edit_children-returns-in_err-row-clause-pieces

pub edit_row-returns-in_err-after-in-Leaf-clause-pieces : goal.edit_row-returns-in_err-after-in-Leaf-clause-pieces
edit_row-returns-in_err-after-in-Leaf-clause-pieces g t c first items among known sorted has ai ae =
    let p = err_from_is_err_and c.from_residual.result c.from_residual.ensures.1 in on_match c.from_residual.result _ _ tree_fault.NoMemory p.0 p.2 p.1 (pieces_none g.M.Unit.Item g.M.Summer first among (places (g.S.NodeSource.nodes c.args.store.now)) Below (g.S.NodeSource.puts c.args.store.now) (g.S.NodeSource.puts c.args.store.now) refl)

pub edit_row-returns-in_err-row-in-Inner-clause-pieces : goal.edit_row-returns-in_err-row-in-Inner-clause-pieces
edit_row-returns-in_err-row-in-Inner-clause-pieces = held.edit_row-returns-in_err-row-in-Inner-clause-pieces

pub edit_row-returns-in_ok-after-in-Leaf-clause-ran : goal.edit_row-returns-in_ok-after-in-Leaf-clause-ran
edit_row-returns-in_ok-after-in-Leaf-clause-ran g t c = goes_none g.M.Unit.Item g.S.NodeSource g.M.Summer (laws g) c.args.store.now c.args.summer.now

-- ---- what was got

pub edit_child-returns-then-is_ready-clause-met : goal.edit_child-returns-then-is_ready-clause-met
edit_child-returns-then-is_ready-clause-met g t c first tree pieces under done carry child =
    let i = g.M.Unit.Item in let s = g.S.NodeSource in let m = g.M.Summer in let s0 = c.args.store.now in let u0 = c.args.summer.now in let s1 = c.keep_child.new.store in let none = subst (λ n. AllGiven i s m first tree pieces s1 c.in_ok-row.row.level n) (sym c.in_ok-row.ensures.none) tt in
    (took_none i s m (laws g) first tree pieces s0 s1 c.in_ok-row.ensures.gets, (c.in_ok-row.ensures.given first tree pieces under done carry child, none))

pub edit_child-returns-then-is_ready-2-clause-met : goal.edit_child-returns-then-is_ready-2-clause-met
edit_child-returns-then-is_ready-2-clause-met = held.edit_child-returns-then-is_ready-2-clause-met

pub edit_child-returns-clause-met : goal.edit_child-returns-clause-met
edit_child-returns-clause-met = held.edit_child-returns-clause-met

pub edit_child-returns-in_err-row-clause-met : goal.edit_child-returns-in_err-row-clause-met
edit_child-returns-in_err-row-clause-met g t c first tree pieces under done carry child =
    let i = g.M.Unit.Item in let s = g.S.NodeSource in let m = g.M.Summer in let s0 = c.args.store.now in let u0 = c.args.summer.now in let p = err_from_is_err_and c.from_residual.result c.from_residual.ensures.1 in took_fault i s m (laws g) first tree pieces c.from_residual.result _ s0 c.keep_child.new.store c.in_err-row.field-0.0 p.0 p.2 p.1 (halts_quiet i s m (laws g) first tree pieces s0 c.keep_child.new.store u0 c.keep_child.new.summer _ c.in_err-row.ensures.ran c.in_err-row.ensures.gets c.in_err-row.ensures.sound)

pub edit_child-returns-in_err-node-clause-met : goal.edit_child-returns-in_err-node-clause-met
edit_child-returns-in_err-node-clause-met g t c first tree pieces under done carry child =
    let i = g.M.Unit.Item in let s = g.S.NodeSource in let m = g.M.Summer in let s0 = c.args.store.now in let u0 = c.args.summer.now in let p = err_from_is_err_and c.from_residual-in_err-node.result c.from_residual-in_err-node.ensures.1 in
    took_fault i s m (laws g) first tree pieces c.from_residual-in_err-node.result _ s0 c.fetch.new.store c.in_err-node.field-0.0 p.0 p.2 p.1 (c.in_err-node.ensures.met first tree pieces under child).0

pub edit_child-returns-in_err-row-2-clause-met : goal.edit_child-returns-in_err-row-2-clause-met
edit_child-returns-in_err-row-2-clause-met = held.edit_child-returns-in_err-row-2-clause-met

pub edit_child-returns-in_err-row-3-clause-met : goal.edit_child-returns-in_err-row-3-clause-met
edit_child-returns-in_err-row-3-clause-met = held.edit_child-returns-in_err-row-3-clause-met

pub edit_child-returns-in_err-joined-clause-met : goal.edit_child-returns-in_err-joined-clause-met
edit_child-returns-in_err-joined-clause-met = held.edit_child-returns-in_err-joined-clause-met

pub edit_children-returns-clause-met : goal.edit_children-returns-clause-met
edit_children-returns-clause-met g t c first tree pieces under children =
    let i = g.M.Unit.Item in let s = g.S.NodeSource in let m = g.M.Summer in let s0 = c.args.store.now in let u0 = c.args.summer.now in let s1 = c.loop-left.store in let u1 = c.loop-left.summer in let inv = c.loop-left.invariant in
    let was = inv.met first tree pieces under children in let all = c.in_ok-row.ensures.met first tree pieces (under_on i s m (laws g) first tree pieces s0 s1 u0 u1 under inv.ran) was.1 was.2 in (taken_on i s m (laws g) first tree pieces s1 c.finish.new.store u1 c.finish.new.summer c.in_ok-row.ensures.ran (s.gets s0) was.0 all.0, all.1)

pub edit_children-returns-in_err-next-clause-met : goal.edit_children-returns-in_err-next-clause-met
edit_children-returns-in_err-next-clause-met = held.edit_children-returns-in_err-next-clause-met

pub edit_children-returns-in_err-row-clause-met : goal.edit_children-returns-in_err-row-clause-met
edit_children-returns-in_err-row-clause-met = held.edit_children-returns-in_err-row-clause-met

pub edit_row-returns-then-is_empty-clause-met : goal.edit_row-returns-then-is_empty-clause-met
edit_row-returns-then-is_empty-clause-met g t c first tree pieces under given =
    let i = g.M.Unit.Item in let s = g.S.NodeSource in let m = g.M.Summer in let s0 = c.args.store.now in let u0 = c.args.summer.now in (took_none i s m (laws g) first tree pieces s0 s0 refl, given)

pub edit_row-returns-in_ok-after-in-Leaf-clause-met : goal.edit_row-returns-in_ok-after-in-Leaf-clause-met
edit_row-returns-in_ok-after-in-Leaf-clause-met g t c first tree pieces under given =
    let i = g.M.Unit.Item in let s = g.S.NodeSource in let m = g.M.Summer in let s0 = c.args.store.now in let u0 = c.args.summer.now in (took_none i s m (laws g) first tree pieces s0 s0 refl, tt)

pub edit_row-returns-in_err-after-in-Leaf-clause-met : goal.edit_row-returns-in_err-after-in-Leaf-clause-met
edit_row-returns-in_err-after-in-Leaf-clause-met g t c first tree pieces under given =
    let i = g.M.Unit.Item in let s = g.S.NodeSource in let m = g.M.Summer in let s0 = c.args.store.now in let u0 = c.args.summer.now in let p = err_from_is_err_and c.from_residual.result c.from_residual.ensures.1 in took_fault i s m (laws g) first tree pieces c.from_residual.result _ s0 s0 tree_fault.NoMemory p.0 p.2 p.1 (halts_quiet i s m (laws g) first tree pieces s0 s0 u0 u0 tree_fault.NoMemory (goes_none i s m (laws g) s0 u0) refl tt)

pub edit_row-returns-in_ok-row-in-Inner-clause-met : goal.edit_row-returns-in_ok-row-in-Inner-clause-met
edit_row-returns-in_ok-row-in-Inner-clause-met g t c first tree pieces under given =
    let i = g.M.Unit.Item in let s = g.S.NodeSource in let m = g.M.Summer in let s0 = c.args.store.now in let u0 = c.args.summer.now in let P = Given i s m first tree pieces s0 (c.args.level - 1) in let cs = subst (All P) (sym c.into_vec-in-Inner.ensures) (subst (AreEach P) c.in-Inner.is given) in c.in_ok-row-in-Inner.ensures.met first tree pieces under cs

pub edit_row-returns-in_err-row-in-Inner-clause-met : goal.edit_row-returns-in_err-row-in-Inner-clause-met
edit_row-returns-in_err-row-in-Inner-clause-met = held.edit_row-returns-in_err-row-in-Inner-clause-met

pub edit_child-returns-in_err-row-clause-sums : goal.edit_child-returns-in_err-row-clause-sums
edit_child-returns-in_err-row-clause-sums g t c first begun way carry =
    let p = err_from_is_err_and c.from_residual.result c.from_residual.ensures.1 in
    knew_err g.M.Unit.Item g.S.NodeSource g.M.Summer first begun _ _ _ c.from_residual.result c.in_err-row.field-0.0 p.0 p.2 p.1 (c.in_err-row.ensures.sums first begun carry)

pub edit_child-returns-then-is_ready-clause-sums : goal.edit_child-returns-then-is_ready-clause-sums
edit_child-returns-then-is_ready-clause-sums g t c first begun way carry = c.in_ok-row.ensures.sums first begun carry

pub edit_child-returns-in_err-node-clause-sums : goal.edit_child-returns-in_err-node-clause-sums
edit_child-returns-in_err-node-clause-sums g t c first begun way carry =
    let i = g.M.Unit.Item in let s = g.S.NodeSource in let m = g.M.Summer in let s0 = c.args.store.now in let u0 = c.args.summer.now in
    let p = err_from_is_err_and c.from_residual-in_err-node.result c.from_residual-in_err-node.ensures.1 in
    knew_err i s m first begun _ _ _ c.from_residual-in_err-node.result c.in_err-node.field-0.0 p.0 p.2 p.1 (knew_none i s m first begun u0 s0 c.fetch.new.store c.in_err-node.field-0.0 c.in_err-node.ensures.puts)

pub edit_child-returns-in_err-row-2-clause-sums : goal.edit_child-returns-in_err-row-2-clause-sums
edit_child-returns-in_err-row-2-clause-sums = held.edit_child-returns-in_err-row-2-clause-sums

pub edit_child-returns-in_err-row-3-clause-sums : goal.edit_child-returns-in_err-row-3-clause-sums
edit_child-returns-in_err-row-3-clause-sums = held.edit_child-returns-in_err-row-3-clause-sums

pub edit_child-returns-then-is_ready-2-clause-sums : goal.edit_child-returns-then-is_ready-2-clause-sums
edit_child-returns-then-is_ready-2-clause-sums = held.edit_child-returns-then-is_ready-2-clause-sums

pub edit_child-returns-in_err-joined-clause-sums : goal.edit_child-returns-in_err-joined-clause-sums
edit_child-returns-in_err-joined-clause-sums = held.edit_child-returns-in_err-joined-clause-sums

pub edit_child-returns-clause-sums : goal.edit_child-returns-clause-sums
edit_child-returns-clause-sums = held.edit_child-returns-clause-sums

pub edit_child-returns-then-is_ready-clause-known : goal.edit_child-returns-then-is_ready-clause-known
edit_child-returns-then-is_ready-clause-known g t c first begun way done carry child =
    let i = g.M.Unit.Item in let s = g.S.NodeSource in let m = g.M.Summer in let s0 = c.args.store.now in let u0 = c.args.summer.now in
    (c.in_ok-row.ensures.known first begun way.goes done child, subst (KnowsNode i s m first begun c.keep_child.new.summer c.keep_child.new.store) (sym c.in_ok-row.ensures.none) tt)

pub edit_child-returns-then-is_ready-2-clause-known : goal.edit_child-returns-then-is_ready-2-clause-known
edit_child-returns-then-is_ready-2-clause-known = held.edit_child-returns-then-is_ready-2-clause-known

pub edit_child-returns-clause-known : goal.edit_child-returns-clause-known
edit_child-returns-clause-known = held.edit_child-returns-clause-known

pub edit_children-returns-in_err-next-clause-sums : goal.edit_children-returns-in_err-next-clause-sums
edit_children-returns-in_err-next-clause-sums = held.edit_children-returns-in_err-next-clause-sums

pub edit_children-returns-in_err-row-clause-sums : goal.edit_children-returns-in_err-row-clause-sums
edit_children-returns-in_err-row-clause-sums = held.edit_children-returns-in_err-row-clause-sums

pub edit_children-returns-clause-sums : goal.edit_children-returns-clause-sums
edit_children-returns-clause-sums = held.edit_children-returns-clause-sums

pub edit_children-returns-clause-known : goal.edit_children-returns-clause-known
edit_children-returns-clause-known = held.edit_children-returns-clause-known

pub edit_row-returns-then-is_empty-clause-sums : goal.edit_row-returns-then-is_empty-clause-sums
edit_row-returns-then-is_empty-clause-sums g t c first begun way node = known_none g.M.Unit.Item g.S.NodeSource g.M.Summer first begun c.args.summer.now c.args.store.now c.args.store.now refl

pub edit_row-returns-in_ok-after-in-Leaf-clause-sums : goal.edit_row-returns-in_ok-after-in-Leaf-clause-sums
edit_row-returns-in_ok-after-in-Leaf-clause-sums g t c first begun way node = known_none g.M.Unit.Item g.S.NodeSource g.M.Summer first begun c.args.summer.now c.args.store.now c.args.store.now refl

pub edit_row-returns-in_err-after-in-Leaf-clause-sums : goal.edit_row-returns-in_err-after-in-Leaf-clause-sums
edit_row-returns-in_err-after-in-Leaf-clause-sums g t c first begun way node =
    let p = err_from_is_err_and c.from_residual.result c.from_residual.ensures.1 in
    knew_err g.M.Unit.Item g.S.NodeSource g.M.Summer first begun _ _ _ c.from_residual.result tree_fault.NoMemory p.0 p.2 p.1 (known_none g.M.Unit.Item g.S.NodeSource g.M.Summer first begun c.args.summer.now c.args.store.now c.args.store.now refl)

pub edit_row-returns-in_err-row-in-Inner-clause-sums : goal.edit_row-returns-in_err-row-in-Inner-clause-sums
edit_row-returns-in_err-row-in-Inner-clause-sums = held.edit_row-returns-in_err-row-in-Inner-clause-sums

pub edit_row-returns-in_ok-row-in-Inner-clause-sums : goal.edit_row-returns-in_ok-row-in-Inner-clause-sums
edit_row-returns-in_ok-row-in-Inner-clause-sums = held.edit_row-returns-in_ok-row-in-Inner-clause-sums

pub edit_row-returns-in_ok-row-in-Inner-clause-known : goal.edit_row-returns-in_ok-row-in-Inner-clause-known
edit_row-returns-in_ok-row-in-Inner-clause-known = held.edit_row-returns-in_ok-row-in-Inner-clause-known
