use Rattle.reduce_tree.proofs.Had.{knew_err}
use Rattle.std.proofs.Common.{◌≡◌, ◌+◌, arith, sym, subst, ap, ◌∙◌, length, false, Contains, ◌-◌, All}
use Rattle.tree_laws.specs.declared.node.Node.TheVariants.{Inner}
use Rattle.tree_laws.specs.Fitting.{AreLarge, item_count}
use Rattle.tree_laws.specs.Nodes.{entries}
use Rattle.tree_laws.specs.SummerTrees.{Has}
use Rattle.reduce_tree.specs.Charges.{ready}
use Rattle.reduce_tree.specs.Calls.{places}
use Rattle.reduce_tree.proofs.Charge.{pending_not, slack_most, ready_some}
use Rattle.reduce_tree.proofs.Nodes.{above_at_level, has_children}
use Rattle.reduce_tree.proofs.Puts.{put_on}
use Rattle.reduce_tree.proofs.Sound.{if_sound}
use Rattle.std.proofs.lemmas.Result.{err_from_is_err_and}
use Rattle.reduce_tree.proofs.Quiet.{all_front, all_back}
use Rattle.reduce_tree.specs.Pieces.{AreAmong}
use Rattle.reduce_tree.proofs.Calls.{on_err, Laws}
use Rattle.reduce_tree.proofs.Pieces.{on_match}
use Rattle.reduce_tree.proofs.Given.{halts_quiet, took_fault, took_none}
use Rattle.reduce_tree.specs.Given.{Given}
use Rattle.reduce_tree.specs.Sums.{KnowsRow}
use Rattle.reduce_tree.proofs.batch.finish.Goals as goal

pub returns-then-is_ready-clause-items : goal.returns-then-is_ready-clause-items
returns-then-is_ready-clause-items g c first items known h =
    let there = places (g.S.NodeSource.nodes c.settle.new.store) in
    let low = c.args.low in
    subst (λ ds. Has g.M.Unit.Item g.M.Summer first there (low + 1) (Inner ds) items) (sym c.from_vec.ensures) (has_children g.M.Unit.Item g.M.Summer first there low c.settle.new.done.items items (c.in_ok-settle.ensures.items first items known h))

pub returns-clause-items : goal.returns-clause-items
returns-clause-items g c first items known h =
    let there = places (g.S.NodeSource.nodes c.args.store.now) in
    let low = c.args.low in
    let front = subst (λ ds. Has g.M.Unit.Item g.M.Summer first there (low + 1) (Inner ds) h.front) (sym c.from_vec-2.ensures) (has_children g.M.Unit.Item g.M.Summer first there low c.args.done.items h.front h.at_front) in
    let all = c.in_ok-joined.ensures.items first h.front h.back known front h.at_back in
    subst (λ xs. Has g.M.Unit.Item g.M.Summer first (places (g.S.NodeSource.nodes c.join_rows.new.store)) c.in_ok-joined.joined.level c.in_ok-joined.joined.node xs) (sym h.whole) all

pub returns-clause-most : goal.returns-clause-most
returns-clause-most g c = c.in_ok-joined.ensures.most (c.args.low + 1) (omega arith) (omega arith)

pub returns-clause-steps : goal.returns-clause-steps
returns-clause-steps g c =
    let low = c.args.low in
    let n : ready low c.args.carry.level (entries c.args.carry.node) ≡ false = sym c.is_ready.ensures.ready ∙ c.if-is_ready.false in
    omega (arith, c.in_ok-joined.ensures.steps (low + 1) (omega arith) (omega arith), slack_most (low + 1) (low + 1) (length c.from_vec-2.result), slack_most (low + 1) c.args.carry.level (entries c.args.carry.node), pending_not low c.args.carry.level (entries c.args.carry.node) n, ap length c.from_vec-2.ensures)

pub returns-then-is_ready-clause-steps : goal.returns-then-is_ready-clause-steps
returns-then-is_ready-clause-steps g c = omega (arith, slack_most (c.args.low + 1) (c.args.low + 1) (length c.from_vec.result), ap length c.from_vec.ensures, c.in_ok-settle.ensures.steps)

pub returns-then-is_ready-clause-kind : goal.returns-then-is_ready-clause-kind
returns-then-is_ready-clause-kind g c = above_at_level c.args.low c.from_vec.result

pub returns-then-is_ready-clause-large : goal.returns-then-is_ready-clause-large
returns-then-is_ready-clause-large g c = subst (λ ds. AreLarge (c.args.low + 1) (Inner ds)) (sym c.from_vec.ensures) c.in_ok-settle.ensures.done

pub returns-then-is_ready-clause-count : goal.returns-then-is_ready-clause-count
returns-then-is_ready-clause-count g c = ap (λ ds. item_count (Inner ds)) c.from_vec.ensures ∙ c.in_ok-settle.ensures.count

pub returns-then-is_ready-clause-node : goal.returns-then-is_ready-clause-node
returns-then-is_ready-clause-node g c e = ap Inner (c.from_vec.ensures ∙ c.in_ok-settle.ensures.none (c.requires.still e))

pub join_rows-requires-clause-front : goal.join_rows-requires-clause-front
join_rows-requires-clause-front g c = above_at_level c.args.low c.from_vec-2.result

pub join_rows-requires-clause-large_front : goal.join_rows-requires-clause-large_front
join_rows-requires-clause-large_front g c = subst (λ ds. AreLarge (c.args.low + 1) (Inner ds)) (sym c.from_vec-2.ensures) c.requires.done

pub join_rows-requires-clause-few : goal.join_rows-requires-clause-few
join_rows-requires-clause-few g c = omega (arith, ap (λ ds. item_count (Inner ds)) c.from_vec-2.ensures, c.requires.few)

pub returns-clause-count : goal.returns-clause-count
returns-clause-count g c = omega (arith, ap (λ ds. item_count (Inner ds)) c.from_vec-2.ensures, c.in_ok-joined.ensures.count)

pub returns-then-is_ready-clause-leaf : goal.returns-then-is_ready-clause-leaf
returns-then-is_ready-clause-leaf g c = c.in_ok-settle.ensures.leaf

pub returns-then-is_ready-clause-unput : goal.returns-then-is_ready-clause-unput
returns-then-is_ready-clause-unput g c e = c.in_ok-settle.ensures.unput (c.requires.still e)

pub returns-clause-leaf : goal.returns-clause-leaf
returns-clause-leaf g c = put_on c.in_ok-joined.ensures.leaf (omega arith) (omega arith) (λ u. u) (omega arith)

pub returns-clause-unput : goal.returns-clause-unput
returns-clause-unput g c e = let n = c.in_ok-joined.ensures.same in absurd (cc)

pub returns-in_err-joined-clause-items : goal.returns-in_err-joined-clause-items
returns-in_err-joined-clause-items g c first items known h =
    let there = places (g.S.NodeSource.nodes c.args.store.now) in
    let low = c.args.low in
    let front = subst (λ ds. Has g.M.Unit.Item g.M.Summer first there (low + 1) (Inner ds) h.front) (sym c.from_vec-2.ensures) (has_children g.M.Unit.Item g.M.Summer first there low c.args.done.items h.front h.at_front) in
    let p = err_from_is_err_and c.from_residual-in_err-joined.result c.from_residual-in_err-joined.ensures.1 in
    if_sound _ c.from_residual-in_err-joined.result c.in_err-joined.field-0.0 p.0 p.2 p.1 (c.in_err-joined.ensures.items first h.front h.back known front h.at_back)

pub returns-clause-quiet : goal.returns-clause-quiet
returns-clause-quiet g c e =
    let z = c.requires.still e in
    let n : ready c.args.low c.args.carry.level (entries c.args.carry.node) ≡ false = sym c.is_ready.ensures.ready ∙ c.if-is_ready.false in
    absurd (omega (arith, z, ready_some c.args.low c.args.carry.level (entries c.args.carry.node) n))

pub returns-then-is_ready-clause-pieces : goal.returns-then-is_ready-clause-pieces
returns-then-is_ready-clause-pieces g c first items among known h all = c.in_ok-settle.ensures.pieces first items among known h all

pub returns-clause-pieces : goal.returns-clause-pieces
returns-clause-pieces g c first items among known h all =
    let there = places (g.S.NodeSource.nodes c.args.store.now) in
    let low = c.args.low in
    let front = subst (λ ds. Has g.M.Unit.Item g.M.Summer first there (low + 1) (Inner ds) h.front) (sym c.from_vec-2.ensures) (has_children g.M.Unit.Item g.M.Summer first there low c.args.done.items h.front h.at_front) in
    let parts = subst (AreAmong among) h.whole all in
    c.in_ok-joined.ensures.pieces first h.front h.back among known front h.at_back (all_front (Contains among) h.front h.back parts) (all_back (Contains among) h.front h.back parts)

pub returns-in_err-settle-clause-spent : goal.returns-in_err-settle-clause-spent
returns-in_err-settle-clause-spent g c =
    let k = c.in_err-settle.ensures.spent in
    on_err c.from_residual.result _ (record { steps = let s = k.steps in omega (arith, s); puts = let s = k.puts in omega (arith, s) })

pub returns-in_err-joined-clause-spent : goal.returns-in_err-joined-clause-spent
returns-in_err-joined-clause-spent g c =
    let low = c.args.low in
    let n : ready low c.args.carry.level (entries c.args.carry.node) ≡ false = sym c.is_ready.ensures.ready ∙ c.if-is_ready.false in
    let none = slack_most (low + 1) (low + 1) (length c.from_vec-2.result) in
    let some = slack_most (low + 1) c.args.carry.level (entries c.args.carry.node) in
    let pays = pending_not low c.args.carry.level (entries c.args.carry.node) n in
    let list = ap length c.from_vec-2.ensures in
    let m = c.requires.most in
    let k = c.in_err-joined.ensures.spent (low + 1) (omega arith) (omega (arith, m)) in
    on_err c.from_residual-in_err-joined.result _ (record { steps = let a = k.steps in omega (arith, none, some, pays, list, a); puts = let a = k.puts in omega (arith, list, a) })

pub returns-in_err-settle-clause-pieces : goal.returns-in_err-settle-clause-pieces
returns-in_err-settle-clause-pieces g c first items among known h all =
    let p = err_from_is_err_and c.from_residual.result c.from_residual.ensures.1 in
    on_match c.from_residual.result _ _ _ p.0 p.2 p.1 (c.in_err-settle.ensures.pieces first items among known h all)

pub returns-in_err-joined-clause-pieces : goal.returns-in_err-joined-clause-pieces
returns-in_err-joined-clause-pieces g c first items among known h all =
    let there = places (g.S.NodeSource.nodes c.args.store.now) in
    let low = c.args.low in
    let front = subst (λ ds. Has g.M.Unit.Item g.M.Summer first there (low + 1) (Inner ds) h.front) (sym c.from_vec-2.ensures) (has_children g.M.Unit.Item g.M.Summer first there low c.args.done.items h.front h.at_front) in
    let parts = subst (AreAmong among) h.whole all in
    let p = err_from_is_err_and c.from_residual-in_err-joined.result c.from_residual-in_err-joined.ensures.1 in
    on_match c.from_residual-in_err-joined.result _ _ _ p.0 p.2 p.1
    (c.in_err-joined.ensures.pieces first h.front h.back among known front h.at_back (all_front (Contains among) h.front h.back parts) (all_back (Contains among) h.front h.back parts))

pub returns-then-is_ready-clause-met : goal.returns-then-is_ready-clause-met
returns-then-is_ready-clause-met g c first tree pieces under done carry =
    let laws : Laws g.S.NodeSource g.M.Summer = record { store_steps = g.met.S.NodeSource.are_steps; store_keeps = g.met.S.NodeSource.keeps; store_caused = g.met.S.NodeSource.stays_caused; summer_steps = g.met.M.Summer.are_steps; summer_keeps = g.met.M.Summer.keeps; summer_caused = g.met.M.Summer.stays_caused; summer_asked = g.met.M.Summer.stays_asked; summer_gave = g.met.M.Summer.stays_given } in
    let i = g.M.Unit.Item in let s = g.S.NodeSource in let m = g.M.Summer in let s0 = c.args.store.now in let u0 = c.args.summer.now in
    let low = c.args.low in
    let same : low ≡ (low + 1) - 1 = omega arith in
    let s1 = c.settle.new.store in
    let all = subst (All (Given i s m first tree pieces s1 low)) (sym c.from_vec.ensures) (c.in_ok-settle.ensures.given first tree pieces under done carry) in
    (took_none i s m laws first tree pieces s0 s1 c.in_ok-settle.ensures.gets, subst (λ n. All (Given i s m first tree pieces s1 n) c.from_vec.result) same all)

pub returns-clause-met : goal.returns-clause-met
returns-clause-met g c first tree pieces under done carry =
    let laws : Laws g.S.NodeSource g.M.Summer = record { store_steps = g.met.S.NodeSource.are_steps; store_keeps = g.met.S.NodeSource.keeps; store_caused = g.met.S.NodeSource.stays_caused; summer_steps = g.met.M.Summer.are_steps; summer_keeps = g.met.M.Summer.keeps; summer_caused = g.met.M.Summer.stays_caused; summer_asked = g.met.M.Summer.stays_asked; summer_gave = g.met.M.Summer.stays_given } in
    let i = g.M.Unit.Item in let s = g.S.NodeSource in let m = g.M.Summer in let s0 = c.args.store.now in let u0 = c.args.summer.now in
    let low = c.args.low in
    let same : low ≡ (low + 1) - 1 = omega arith in
    let front = subst (λ n. All (Given i s m first tree pieces s0 n) c.from_vec-2.result) same (subst (All (Given i s m first tree pieces s0 low)) (sym c.from_vec-2.ensures) done) in
    c.in_ok-joined.ensures.met first tree pieces under front carry

pub returns-in_err-settle-clause-met : goal.returns-in_err-settle-clause-met
returns-in_err-settle-clause-met g c first tree pieces under done carry =
    let laws : Laws g.S.NodeSource g.M.Summer = record { store_steps = g.met.S.NodeSource.are_steps; store_keeps = g.met.S.NodeSource.keeps; store_caused = g.met.S.NodeSource.stays_caused; summer_steps = g.met.M.Summer.are_steps; summer_keeps = g.met.M.Summer.keeps; summer_caused = g.met.M.Summer.stays_caused; summer_asked = g.met.M.Summer.stays_asked; summer_gave = g.met.M.Summer.stays_given } in
    let i = g.M.Unit.Item in let s = g.S.NodeSource in let m = g.M.Summer in let s0 = c.args.store.now in let u0 = c.args.summer.now in
    let p = err_from_is_err_and c.from_residual.result c.from_residual.ensures.1 in
    took_fault i s m laws first tree pieces c.from_residual.result _ s0 c.settle.new.store c.in_err-settle.field-0.0 p.0 p.2 p.1 (halts_quiet i s m laws first tree pieces s0 c.settle.new.store u0 c.settle.new.summer _ c.in_err-settle.ensures.ran c.in_err-settle.ensures.gets c.in_err-settle.ensures.sound)

pub returns-in_err-joined-clause-met : goal.returns-in_err-joined-clause-met
returns-in_err-joined-clause-met g c first tree pieces under done carry =
    let laws : Laws g.S.NodeSource g.M.Summer = record { store_steps = g.met.S.NodeSource.are_steps; store_keeps = g.met.S.NodeSource.keeps; store_caused = g.met.S.NodeSource.stays_caused; summer_steps = g.met.M.Summer.are_steps; summer_keeps = g.met.M.Summer.keeps; summer_caused = g.met.M.Summer.stays_caused; summer_asked = g.met.M.Summer.stays_asked; summer_gave = g.met.M.Summer.stays_given } in
    let i = g.M.Unit.Item in let s = g.S.NodeSource in let m = g.M.Summer in let s0 = c.args.store.now in let u0 = c.args.summer.now in
    let low = c.args.low in
    let same : low ≡ (low + 1) - 1 = omega arith in
    let front = subst (λ n. All (Given i s m first tree pieces s0 n) c.from_vec-2.result) same (subst (All (Given i s m first tree pieces s0 low)) (sym c.from_vec-2.ensures) done) in
    let p = err_from_is_err_and c.from_residual-in_err-joined.result c.from_residual-in_err-joined.ensures.1 in
    took_fault i s m laws first tree pieces c.from_residual-in_err-joined.result _ s0 c.join_rows.new.store c.in_err-joined.field-0.0 p.0 p.2 p.1 (c.in_err-joined.ensures.met first tree pieces under front carry).0

pub returns-in_err-settle-clause-sums : goal.returns-in_err-settle-clause-sums
returns-in_err-settle-clause-sums g c first begun way done carry =
    let p = err_from_is_err_and c.from_residual.result c.from_residual.ensures.1 in
    knew_err g.M.Unit.Item g.S.NodeSource g.M.Summer first begun _ _ _ c.from_residual.result c.in_err-settle.field-0.0 p.0 p.2 p.1 (c.in_err-settle.ensures.sums first begun carry)

pub returns-then-is_ready-clause-sums : goal.returns-then-is_ready-clause-sums
returns-then-is_ready-clause-sums g c first begun way done carry = c.in_ok-settle.ensures.sums first begun carry

pub returns-in_err-joined-clause-sums : goal.returns-in_err-joined-clause-sums
returns-in_err-joined-clause-sums g c first begun way done carry =
    let laws : Laws g.S.NodeSource g.M.Summer = record { store_steps = g.met.S.NodeSource.are_steps; store_keeps = g.met.S.NodeSource.keeps; store_caused = g.met.S.NodeSource.stays_caused; summer_steps = g.met.M.Summer.are_steps; summer_keeps = g.met.M.Summer.keeps; summer_caused = g.met.M.Summer.stays_caused; summer_asked = g.met.M.Summer.stays_asked; summer_gave = g.met.M.Summer.stays_given } in
    let i = g.M.Unit.Item in let s = g.S.NodeSource in let m = g.M.Summer in let s0 = c.args.store.now in let u0 = c.args.summer.now in
    let front = subst (KnowsRow i s m first begun u0 s0) (sym c.from_vec-2.ensures) done in
    let p = err_from_is_err_and c.from_residual-in_err-joined.result c.from_residual-in_err-joined.ensures.1 in
    knew_err i s m first begun _ _ _ c.from_residual-in_err-joined.result c.in_err-joined.field-0.0 p.0 p.2 p.1 (c.in_err-joined.ensures.sums first begun way front carry)

pub returns-clause-sums : goal.returns-clause-sums
returns-clause-sums g c first begun way done carry =
    let laws : Laws g.S.NodeSource g.M.Summer = record { store_steps = g.met.S.NodeSource.are_steps; store_keeps = g.met.S.NodeSource.keeps; store_caused = g.met.S.NodeSource.stays_caused; summer_steps = g.met.M.Summer.are_steps; summer_keeps = g.met.M.Summer.keeps; summer_caused = g.met.M.Summer.stays_caused; summer_asked = g.met.M.Summer.stays_asked; summer_gave = g.met.M.Summer.stays_given } in
    let i = g.M.Unit.Item in let s = g.S.NodeSource in let m = g.M.Summer in let s0 = c.args.store.now in let u0 = c.args.summer.now in
    let front = subst (KnowsRow i s m first begun u0 s0) (sym c.from_vec-2.ensures) done in
    c.in_ok-joined.ensures.sums first begun way front carry

pub returns-then-is_ready-clause-known : goal.returns-then-is_ready-clause-known
returns-then-is_ready-clause-known g c first begun way done carry =
    let laws : Laws g.S.NodeSource g.M.Summer = record { store_steps = g.met.S.NodeSource.are_steps; store_keeps = g.met.S.NodeSource.keeps; store_caused = g.met.S.NodeSource.stays_caused; summer_steps = g.met.M.Summer.are_steps; summer_keeps = g.met.M.Summer.keeps; summer_caused = g.met.M.Summer.stays_caused; summer_asked = g.met.M.Summer.stays_asked; summer_gave = g.met.M.Summer.stays_given } in
    let i = g.M.Unit.Item in let s = g.S.NodeSource in let m = g.M.Summer in let s0 = c.args.store.now in let u0 = c.args.summer.now in
    subst (KnowsRow i s m first begun c.settle.new.summer c.settle.new.store) (sym c.from_vec.ensures) (c.in_ok-settle.ensures.known first begun way.goes done)

pub returns-clause-known : goal.returns-clause-known
returns-clause-known g c first begun way done carry =
    let laws : Laws g.S.NodeSource g.M.Summer = record { store_steps = g.met.S.NodeSource.are_steps; store_keeps = g.met.S.NodeSource.keeps; store_caused = g.met.S.NodeSource.stays_caused; summer_steps = g.met.M.Summer.are_steps; summer_keeps = g.met.M.Summer.keeps; summer_caused = g.met.M.Summer.stays_caused; summer_asked = g.met.M.Summer.stays_asked; summer_gave = g.met.M.Summer.stays_given } in
    let i = g.M.Unit.Item in let s = g.S.NodeSource in let m = g.M.Summer in let s0 = c.args.store.now in let u0 = c.args.summer.now in
    let front = subst (KnowsRow i s m first begun u0 s0) (sym c.from_vec-2.ensures) done in
    c.in_ok-joined.ensures.known first begun way front carry
