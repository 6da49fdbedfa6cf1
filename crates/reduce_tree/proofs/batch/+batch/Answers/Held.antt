-- What the parts of a batch got and put, and what is known of it: the longer of the answers.
use Rattle.std.proofs.Common.{arith, ◌≡◌, ◌==◌, suc, ◌-◌, vec_len, sym, subst, false, Contains, All}
use Rattle.tree_laws.specs.declared.node.Node.TheVariants.{Inner}
use Rattle.tree_laws.specs.declared.tree.Fill.TheVariants.{Below}
use Rattle.tree_laws.specs.Nodes.{is_leaf}
use Rattle.tree_laws.specs.SummerTrees.{AreChildren, Has, Stands}
use Rattle.tree_laws.proofs.SummerTrees.{has_stays}
use Rattle.reduce_tree.specs.Applied.{applied}
use Rattle.reduce_tree.specs.Calls.{places}
use Rattle.std.proofs.lemmas.Result.{err_from_is_err_and}
use Rattle.reduce_tree.proofs.Calls.{Laws, extends_on, goes_on, known_on}
use Rattle.reduce_tree.proofs.Nodes.{level_above, none_from_test}
use Rattle.reduce_tree.proofs.Walk.{carries_stays, held_end}
use Rattle.reduce_tree.proofs.Quiet.{all_front, all_back}
use Rattle.reduce_tree.proofs.Pieces.{applied_among, left_step, pieces_none, pieces_on, were_on, on_match}
use Rattle.reduce_tree.specs.Pieces.{AreAmong, ArePieces}
use Rattle.reduce_tree.proofs.Given.{all_on, given_on, row_on, taken_on, taken_quiet, took_fault, took_later, took_quiet, under_on}
use Rattle.reduce_tree.specs.Given.{AllGiven, AreEach, Given}
use Rattle.std.proofs.lemmas.List.Elements.{All-head}
use Rattle.reduce_tree.proofs.batch.+batch.Given as ghosts
use Rattle.reduce_tree.specs.Sums.{KnowsNode, KnowsPieces, KnowsRow, KnewPieces}
use Rattle.reduce_tree.proofs.Had.{way_on, node_goes, row_goes, sum_goes, known_goes, known_fails, knew_err}
use Rattle.reduce_tree.proofs.batch.+batch.Goals as goal

pub laws : (g : ghosts.Over) → Laws g.S.NodeSource g.M.Summer
laws g = record { store_steps = g.met.S.NodeSource.are_steps; store_keeps = g.met.S.NodeSource.keeps; store_caused = g.met.S.NodeSource.stays_caused; summer_steps = g.met.M.Summer.are_steps; summer_keeps = g.met.M.Summer.keeps; summer_caused = g.met.M.Summer.stays_caused; summer_asked = g.met.M.Summer.stays_asked; summer_gave = g.met.M.Summer.stays_given }

pub edit_child-returns-then-is_ready-2-clause-pieces : goal.edit_child-returns-then-is_ready-2-clause-pieces
edit_child-returns-then-is_ready-2-clause-pieces g t c first items mid among known sorted h child ai am ae =
    let i = g.M.Unit.Item in let m = g.M.Summer in let s0 = c.args.store.now in let s1 = c.fetch.new.store in let s2 = c.edit_row.new.store in let u0 = c.args.summer.now in let u1 = c.edit_row.new.summer in
    let a = c.in_ok-node.ensures.ran in let b = c.in_ok-row-2.ensures.ran in let ab = goes_on i g.S.NodeSource m (laws g) s0 s1 s2 u0 u0 u1 a b in let n0 = places (g.S.NodeSource.nodes s0) in let n1 = places (g.S.NodeSource.nodes s1) in
    let n2 = places (g.S.NodeSource.nodes s2) in let e02 = extends_on i g.S.NodeSource m (laws g) s0 s2 u0 u1 ab in let at1 = has_stays i m first n0 n1 (extends_on i g.S.NodeSource m (laws g) s0 s1 u0 u0 a) c.args.low c.in_ok-node.node mid (c.in_ok-node.ensures.got first mid Below known child.stands) in
    let known1 = known_on i g.S.NodeSource m (laws g) first s0 s1 u0 u0 known a in let known2 = known_on i g.S.NodeSource m (laws g) first s0 s2 u0 u1 known ab in
    let one = subst (λ p. ArePieces i m first among n2 Below p (g.S.NodeSource.puts s2)) c.in_ok-node.ensures.puts (c.in_ok-row-2.ensures.pieces first mid among known1 sorted at1 am ae) in
    let s3 = c.keep_child-then-is_ready-2.new.store in let n3 = places (g.S.NodeSource.nodes s3) in let e23 = extends_on i g.S.NodeSource m (laws g) s2 s3 u1 c.keep_child-then-is_ready-2.new.summer c.in_ok-row-3.ensures.ran in
    let carries = carries_stays i m first n0 n2 e02 c.args.low c.args.carry.level c.args.done.now.items c.args.carry.node items h in let two = c.in_ok-row-3.ensures.pieces first items among known2 carries ai in pieces_on i m first among n2 n3 e23 Below (g.S.NodeSource.puts s0) (g.S.NodeSource.puts s2) (g.S.NodeSource.puts s3) one two

pub edit_child-returns-clause-pieces : goal.edit_child-returns-clause-pieces
edit_child-returns-clause-pieces g t c first items mid among known sorted h child ai am ae =
    let i = g.M.Unit.Item in let m = g.M.Summer in let s0 = c.args.store.now in let s1 = c.fetch.new.store in let s2 = c.edit_row.new.store in let u0 = c.args.summer.now in let u1 = c.edit_row.new.summer in
    let a = c.in_ok-node.ensures.ran in let b = c.in_ok-row-2.ensures.ran in let ab = goes_on i g.S.NodeSource m (laws g) s0 s1 s2 u0 u0 u1 a b in let n0 = places (g.S.NodeSource.nodes s0) in let n1 = places (g.S.NodeSource.nodes s1) in
    let n2 = places (g.S.NodeSource.nodes s2) in let e02 = extends_on i g.S.NodeSource m (laws g) s0 s2 u0 u1 ab in let at1 = has_stays i m first n0 n1 (extends_on i g.S.NodeSource m (laws g) s0 s1 u0 u0 a) c.args.low c.in_ok-node.node mid (c.in_ok-node.ensures.got first mid Below known child.stands) in
    let known1 = known_on i g.S.NodeSource m (laws g) first s0 s1 u0 u0 known a in let known2 = known_on i g.S.NodeSource m (laws g) first s0 s2 u0 u1 known ab in
    let one = subst (λ p. ArePieces i m first among n2 Below p (g.S.NodeSource.puts s2)) c.in_ok-node.ensures.puts (c.in_ok-row-2.ensures.pieces first mid among known1 sorted at1 am ae) in
    let s3 = c.join_rows.new.store in let n3 = places (g.S.NodeSource.nodes s3) in let e23 = extends_on i g.S.NodeSource m (laws g) s2 s3 u1 c.join_rows.new.summer c.in_ok-joined.ensures.ran in
    let row = c.in_ok-row-2.ensures.items first mid known1 sorted at1 in let back = has_stays i m first n0 n2 e02 c.args.carry.level c.args.carry.node h.back h.at_back in let ab2 = all_back (Contains among) h.front h.back (subst (AreAmong among) h.whole ai) in
    let two = c.in_ok-joined.ensures.pieces first h.back (applied i.order c.args.edits.now mid) among known2 back row ab2 (applied_among i.order among c.args.edits.now mid ae am) in pieces_on i m first among n2 n3 e23 Below (g.S.NodeSource.puts s0) (g.S.NodeSource.puts s2) (g.S.NodeSource.puts s3) one two

pub edit_children-returns-clause-pieces : goal.edit_children-returns-clause-pieces
edit_children-returns-clause-pieces g t c first items among known sorted cs ai ae =
    let i = g.M.Unit.Item in let m = g.M.Summer in let s0 = c.args.store.now in let s1 = c.loop-left.store in let s2 = c.finish.new.store in let u0 = c.args.summer.now in let u1 = c.loop-left.summer in let inv = c.loop-left.invariant in
    let n1 = places (g.S.NodeSource.nodes s1) in let n2 = places (g.S.NodeSource.nodes s2) in let edits = c.args.edits.now in let all = applied i.order edits items in let r : vec_len c.loop-left.rest ≡ 0 = none_from_test (vec_len c.loop-left.rest) c.is_empty.result c.is_empty.ensures c.loop-left-test.false in
    let carries = held_end i m first n1 c.args.low c.loop-left.carry.level c.loop-left.done.items c.loop-left.rest.items c.loop-left.carry.node c.loop-left.left.now all
    (omega (arith, r)) (inv.ended r) (inv.items first items known sorted cs) in
    let two = c.in_ok-row.ensures.pieces first all among (known_on i g.S.NodeSource m (laws g) first s0 s1 u0 u1 known inv.ran) carries (applied_among i.order among edits items ae ai) in
    pieces_on i m first among n1 n2 (extends_on i g.S.NodeSource m (laws g) s1 s2 u1 c.finish.new.summer c.in_ok-row.ensures.ran) Below (g.S.NodeSource.puts s0) (g.S.NodeSource.puts s1) (g.S.NodeSource.puts s2) (inv.pieces first items among known sorted cs ai ae).0 two

pub edit_row-returns-in_ok-row-in-Inner-clause-pieces : goal.edit_row-returns-in_ok-row-in-Inner-clause-pieces
edit_row-returns-in_ok-row-in-Inner-clause-pieces g t c first items among known sorted has ai ae =
    let i = g.M.Unit.Item in let m = g.M.Summer in let n0 = places (g.S.NodeSource.nodes c.args.store.now) in let cs0 = c.in-Inner.children in let low = c.args.level - 1 in
    let kind : is_leaf (Inner cs0) ≡ (c.args.level == 0) = subst (λ x. is_leaf x ≡ (c.args.level == 0)) c.in-Inner.is c.requires.kind in let lvl : c.args.level ≡ suc low = level_above c.args.level kind in
    let has0 : Has i m first n0 c.args.level (Inner cs0) items = subst (λ x. Has i m first n0 c.args.level x items) c.in-Inner.is has in let has1 : AreChildren i m first (Stands i m first n0 low) cs0 items = subst (λ l. Has i m first n0 l (Inner cs0) items) lvl has0 in
    c.in_ok-row-in-Inner.ensures.pieces first items among known sorted (subst (λ ds. AreChildren i m first (Stands i m first n0 low) ds items) (sym c.into_vec-in-Inner.ensures) has1) ai ae

pub edit_child-returns-in_err-row-2-clause-pieces : goal.edit_child-returns-in_err-row-2-clause-pieces
edit_child-returns-in_err-row-2-clause-pieces g t c first items mid among known sorted h child ai am ae =
    let i = g.M.Unit.Item in let m = g.M.Summer in let s0 = c.args.store.now in let s1 = c.fetch.new.store in let s2 = c.edit_row.new.store in let u0 = c.args.summer.now in let a = c.in_ok-node.ensures.ran in let n0 = places (g.S.NodeSource.nodes s0) in let n1 = places (g.S.NodeSource.nodes s1) in
    let at1 = has_stays i m first n0 n1 (extends_on i g.S.NodeSource m (laws g) s0 s1 u0 u0 a) c.args.low c.in_ok-node.node mid (c.in_ok-node.ensures.got first mid Below known child.stands) in
    let known1 = known_on i g.S.NodeSource m (laws g) first s0 s1 u0 u0 known a in let p = err_from_is_err_and c.from_residual-in_err-row-2.result c.from_residual-in_err-row-2.ensures.1 in
    on_match c.from_residual-in_err-row-2.result _ _ _ p.0 p.2 p.1
    (were_on i g.S.NodeSource m (laws g) first among s0 s1 s2 u0 u0 c.edit_row.new.summer a (pieces_none i m first among n1 Below (g.S.NodeSource.puts s0) (g.S.NodeSource.puts s1) c.in_ok-node.ensures.puts) c.in_err-row-2.field-0.0 c.in_err-row-2.ensures.ran (c.in_err-row-2.ensures.pieces first mid among known1 sorted at1 am ae))

pub edit_child-returns-in_err-row-3-clause-pieces : goal.edit_child-returns-in_err-row-3-clause-pieces
edit_child-returns-in_err-row-3-clause-pieces g t c first items mid among known sorted h child ai am ae =
    let i = g.M.Unit.Item in let m = g.M.Summer in let s0 = c.args.store.now in let s1 = c.fetch.new.store in let s2 = c.edit_row.new.store in let u0 = c.args.summer.now in let u1 = c.edit_row.new.summer in
    let a = c.in_ok-node.ensures.ran in let b = c.in_ok-row-2.ensures.ran in let ab = goes_on i g.S.NodeSource m (laws g) s0 s1 s2 u0 u0 u1 a b in let n0 = places (g.S.NodeSource.nodes s0) in let n1 = places (g.S.NodeSource.nodes s1) in
    let n2 = places (g.S.NodeSource.nodes s2) in let e02 = extends_on i g.S.NodeSource m (laws g) s0 s2 u0 u1 ab in let at1 = has_stays i m first n0 n1 (extends_on i g.S.NodeSource m (laws g) s0 s1 u0 u0 a) c.args.low c.in_ok-node.node mid (c.in_ok-node.ensures.got first mid Below known child.stands) in
    let known1 = known_on i g.S.NodeSource m (laws g) first s0 s1 u0 u0 known a in let known2 = known_on i g.S.NodeSource m (laws g) first s0 s2 u0 u1 known ab in
    let one = subst (λ p. ArePieces i m first among n2 Below p (g.S.NodeSource.puts s2)) c.in_ok-node.ensures.puts (c.in_ok-row-2.ensures.pieces first mid among known1 sorted at1 am ae) in let s3 = c.keep_child-then-is_ready-2.new.store in
    let carries = carries_stays i m first n0 n2 e02 c.args.low c.args.carry.level c.args.done.now.items c.args.carry.node items h in let p = err_from_is_err_and c.from_residual-in_err-row-3.result c.from_residual-in_err-row-3.ensures.1 in
    on_match c.from_residual-in_err-row-3.result _ _ _ p.0 p.2 p.1
    (were_on i g.S.NodeSource m (laws g) first among s0 s2 s3 u0 u1 c.keep_child-then-is_ready-2.new.summer ab one c.in_err-row-3.field-0.0 c.in_err-row-3.ensures.ran (c.in_err-row-3.ensures.pieces first items among known2 carries ai))

pub edit_child-returns-in_err-joined-clause-pieces : goal.edit_child-returns-in_err-joined-clause-pieces
edit_child-returns-in_err-joined-clause-pieces g t c first items mid among known sorted h child ai am ae =
    let i = g.M.Unit.Item in let m = g.M.Summer in let s0 = c.args.store.now in let s1 = c.fetch.new.store in let s2 = c.edit_row.new.store in let u0 = c.args.summer.now in let u1 = c.edit_row.new.summer in
    let a = c.in_ok-node.ensures.ran in let b = c.in_ok-row-2.ensures.ran in let ab = goes_on i g.S.NodeSource m (laws g) s0 s1 s2 u0 u0 u1 a b in let n0 = places (g.S.NodeSource.nodes s0) in let n1 = places (g.S.NodeSource.nodes s1) in
    let n2 = places (g.S.NodeSource.nodes s2) in let e02 = extends_on i g.S.NodeSource m (laws g) s0 s2 u0 u1 ab in let at1 = has_stays i m first n0 n1 (extends_on i g.S.NodeSource m (laws g) s0 s1 u0 u0 a) c.args.low c.in_ok-node.node mid (c.in_ok-node.ensures.got first mid Below known child.stands) in
    let known1 = known_on i g.S.NodeSource m (laws g) first s0 s1 u0 u0 known a in let known2 = known_on i g.S.NodeSource m (laws g) first s0 s2 u0 u1 known ab in
    let one = subst (λ p. ArePieces i m first among n2 Below p (g.S.NodeSource.puts s2)) c.in_ok-node.ensures.puts (c.in_ok-row-2.ensures.pieces first mid among known1 sorted at1 am ae) in let s3 = c.join_rows.new.store in
    let row = c.in_ok-row-2.ensures.items first mid known1 sorted at1 in let back = has_stays i m first n0 n2 e02 c.args.carry.level c.args.carry.node h.back h.at_back in
    let ab2 = all_back (Contains among) h.front h.back (subst (AreAmong among) h.whole ai) in let p = err_from_is_err_and c.from_residual-in_err-joined.result c.from_residual-in_err-joined.ensures.1 in
    on_match c.from_residual-in_err-joined.result _ _ _ p.0 p.2 p.1
    (were_on i g.S.NodeSource m (laws g) first among s0 s2 s3 u0 u1 c.join_rows.new.summer ab one c.in_err-joined.field-0.0 c.in_err-joined.ensures.ran (c.in_err-joined.ensures.pieces first h.back (applied i.order c.args.edits.now mid) among known2 back row ab2 (applied_among i.order among c.args.edits.now mid ae am)))

pub edit_children-returns-in_err-next-clause-pieces : goal.edit_children-returns-in_err-next-clause-pieces
edit_children-returns-in_err-next-clause-pieces g t c first items among known sorted cs ai ae =
    let i = g.M.Unit.Item in let m = g.M.Summer in let s0 = c.args.store.now in let s1 = c.loop-left.store in let u0 = c.args.summer.now in let u1 = c.loop-left.summer in
    let n1 = places (g.S.NodeSource.nodes s1) in let inv = c.loop-left.invariant in let rest = c.take_first-child.new.list.items in let own = c.share.result.0.now in let others = c.share.result.1.now in
    let known1 = known_on g.M.Unit.Item g.S.NodeSource g.M.Summer (laws g) first s0 s1 u0 u1 known inv.ran in
    let was = inv.pieces first items among known sorted cs ai ae in let held = inv.items first items known sorted cs in let whole = subst (AreAmong among) (sym held.all) (applied_among i.order among c.args.edits.now items ae ai) in let front = all_front (Contains among) held.front (applied i.order c.loop-left.left.now held.back) whole in
    let next_left = left_step i m first among n1 n1 (λ at bytes s. s) c.args.low c.take_first-child.result c.loop-left.rest.items rest c.loop-left.left.now own others c.take_first-child.ensures c.share.ensures.whole was.1 in
    let two = c.in_err-next.ensures.pieces first held.front next_left.mid among known1 next_left.sorted held.at_front next_left.child front next_left.known next_left.inserts in let p = err_from_is_err_and c.from_residual.result c.from_residual.ensures.1 in
    on_match c.from_residual.result _ _ _ p.0 p.2 p.1
    (were_on i g.S.NodeSource m (laws g) first among s0 s1 c.edit_child.new.store u0 u1 c.edit_child.new.summer inv.ran was.0 c.in_err-next.field-0.0 c.in_err-next.ensures.ran two)

pub edit_children-returns-in_err-row-clause-pieces : goal.edit_children-returns-in_err-row-clause-pieces
edit_children-returns-in_err-row-clause-pieces g t c first items among known sorted cs ai ae =
    let i = g.M.Unit.Item in let m = g.M.Summer in let s0 = c.args.store.now in let s1 = c.loop-left.store in let s2 = c.finish.new.store in let u0 = c.args.summer.now in let u1 = c.loop-left.summer in let inv = c.loop-left.invariant in
    let n1 = places (g.S.NodeSource.nodes s1) in let edits = c.args.edits.now in let all = applied i.order edits items in let r : vec_len c.loop-left.rest ≡ 0 = none_from_test (vec_len c.loop-left.rest) c.is_empty.result c.is_empty.ensures c.loop-left-test.false in
    let carries = held_end i m first n1 c.args.low c.loop-left.carry.level c.loop-left.done.items c.loop-left.rest.items c.loop-left.carry.node c.loop-left.left.now all
    (omega (arith, r)) (inv.ended r) (inv.items first items known sorted cs) in
    let known1 = known_on g.M.Unit.Item g.S.NodeSource g.M.Summer (laws g) first s0 s1 u0 u1 known inv.ran in
    let p = err_from_is_err_and c.from_residual-in_err-row.result c.from_residual-in_err-row.ensures.1 in
    on_match c.from_residual-in_err-row.result _ _ _ p.0 p.2 p.1
    (were_on i g.S.NodeSource m (laws g) first among s0 s1 s2 u0 u1 c.finish.new.summer inv.ran (inv.pieces first items among known sorted cs ai ae).0 c.in_err-row.field-0.0 c.in_err-row.ensures.ran (c.in_err-row.ensures.pieces first all among known1 carries (applied_among i.order among edits items ae ai)))

pub edit_row-returns-in_err-row-in-Inner-clause-pieces : goal.edit_row-returns-in_err-row-in-Inner-clause-pieces
edit_row-returns-in_err-row-in-Inner-clause-pieces g t c first items among known sorted has ai ae =
    let i = g.M.Unit.Item in let m = g.M.Summer in let n0 = places (g.S.NodeSource.nodes c.args.store.now) in let cs0 = c.in-Inner.children in let low = c.args.level - 1 in
    let kind : is_leaf (Inner cs0) ≡ (c.args.level == 0) = subst (λ x. is_leaf x ≡ (c.args.level == 0)) c.in-Inner.is c.requires.kind in let lvl : c.args.level ≡ suc low = level_above c.args.level kind in
    let has0 : Has i m first n0 c.args.level (Inner cs0) items = subst (λ x. Has i m first n0 c.args.level x items) c.in-Inner.is has in let has1 : AreChildren i m first (Stands i m first n0 low) cs0 items = subst (λ l. Has i m first n0 l (Inner cs0) items) lvl has0 in
    let p = err_from_is_err_and c.from_residual-in_err-row-in-Inner.result c.from_residual-in_err-row-in-Inner.ensures.1 in
    on_match c.from_residual-in_err-row-in-Inner.result _ _ _ p.0 p.2 p.1
    (c.in_err-row-in-Inner.ensures.pieces first items among known sorted (subst (λ ds. AreChildren i m first (Stands i m first n0 low) ds items) (sym c.into_vec-in-Inner.ensures) has1) ai ae)

pub edit_child-returns-then-is_ready-2-clause-met : goal.edit_child-returns-then-is_ready-2-clause-met
edit_child-returns-then-is_ready-2-clause-met g t c first tree pieces under done carry child =
    let i = g.M.Unit.Item in let s = g.S.NodeSource in let m = g.M.Summer in let s0 = c.args.store.now in let u0 = c.args.summer.now in let s1 = c.fetch.new.store in let s2 = c.edit_row.new.store in let u1 = c.edit_row.new.summer in let a = c.in_ok-node.ensures.ran in let got = c.in_ok-node.ensures.met first tree pieces under child in
    let b = c.in_ok-row-2.ensures.ran in let ab = goes_on i s m (laws g) s0 s1 s2 u0 u0 u1 a b in let made = c.in_ok-row-2.ensures.met first tree pieces (under_on i s m (laws g) first tree pieces s0 s1 u0 u0 under a) got.1 in
    let taken = taken_on i s m (laws g) first tree pieces s1 s2 u0 u1 b (s.gets s0) got.0 made.0 in let under2 = under_on i s m (laws g) first tree pieces s0 s2 u0 u1 under ab in
    let done2 = all_on i s m (laws g) first tree pieces s0 s2 u0 u1 ab c.args.low c.args.done.now.items done in let carry2 = row_on i s m (laws g) first tree pieces s0 s2 u0 u1 ab c.args.carry.level c.args.carry.node carry in
    let s3 = c.keep_child-then-is_ready-2.new.store in let u2 = c.keep_child-then-is_ready-2.new.summer in let child2 = given_on i s m (laws g) first tree pieces s0 s2 u0 u1 ab c.args.low c.args.child child in
    let none = subst (λ n. AllGiven i s m first tree pieces s3 c.in_ok-row-3.row.level n) (sym c.in_ok-row-3.ensures.none) tt in (taken_quiet i s m (laws g) first tree pieces s2 s3 u1 u2 c.in_ok-row-3.ensures.ran (s.gets s0) c.in_ok-row-3.ensures.gets taken, (c.in_ok-row-3.ensures.given first tree pieces under2 done2 carry2 child2, none))

pub edit_child-returns-clause-met : goal.edit_child-returns-clause-met
edit_child-returns-clause-met g t c first tree pieces under done carry child =
    let i = g.M.Unit.Item in let s = g.S.NodeSource in let m = g.M.Summer in let s0 = c.args.store.now in let u0 = c.args.summer.now in let s1 = c.fetch.new.store in let s2 = c.edit_row.new.store in let u1 = c.edit_row.new.summer in let a = c.in_ok-node.ensures.ran in let got = c.in_ok-node.ensures.met first tree pieces under child in
    let b = c.in_ok-row-2.ensures.ran in let ab = goes_on i s m (laws g) s0 s1 s2 u0 u0 u1 a b in let made = c.in_ok-row-2.ensures.met first tree pieces (under_on i s m (laws g) first tree pieces s0 s1 u0 u0 under a) got.1 in
    let taken = taken_on i s m (laws g) first tree pieces s1 s2 u0 u1 b (s.gets s0) got.0 made.0 in let under2 = under_on i s m (laws g) first tree pieces s0 s2 u0 u1 under ab in
    let done2 = all_on i s m (laws g) first tree pieces s0 s2 u0 u1 ab c.args.low c.args.done.now.items done in let carry2 = row_on i s m (laws g) first tree pieces s0 s2 u0 u1 ab c.args.carry.level c.args.carry.node carry in
    let s3 = c.join_rows.new.store in let u2 = c.join_rows.new.summer in let d = c.in_ok-joined.ensures.ran in let all = c.in_ok-joined.ensures.met first tree pieces under2 carry2 made.1 in (taken_on i s m (laws g) first tree pieces s2 s3 u1 u2 d (s.gets s0) taken all.0, (all_on i s m (laws g) first tree pieces s2 s3 u1 u2 d c.args.low c.args.done.now.items done2, all.1))

pub edit_child-returns-in_err-row-2-clause-met : goal.edit_child-returns-in_err-row-2-clause-met
edit_child-returns-in_err-row-2-clause-met g t c first tree pieces under done carry child =
    let i = g.M.Unit.Item in let s = g.S.NodeSource in let m = g.M.Summer in let s0 = c.args.store.now in let u0 = c.args.summer.now in
    let s1 = c.fetch.new.store in let s2 = c.edit_row.new.store in let u1 = c.edit_row.new.summer in let a = c.in_ok-node.ensures.ran in let got = c.in_ok-node.ensures.met first tree pieces under child in let p = err_from_is_err_and c.from_residual-in_err-row-2.result c.from_residual-in_err-row-2.ensures.1 in
    took_later i s m (laws g) first tree pieces c.from_residual-in_err-row-2.result _ s0 s1 s2 u0 u0 u1 a got.0 c.in_err-row-2.field-0.0 p.0 p.2 p.1 c.in_err-row-2.ensures.ran (c.in_err-row-2.ensures.met first tree pieces (under_on i s m (laws g) first tree pieces s0 s1 u0 u0 under a) got.1).0

pub edit_child-returns-in_err-row-3-clause-met : goal.edit_child-returns-in_err-row-3-clause-met
edit_child-returns-in_err-row-3-clause-met g t c first tree pieces under done carry child =
    let i = g.M.Unit.Item in let s = g.S.NodeSource in let m = g.M.Summer in let s0 = c.args.store.now in let u0 = c.args.summer.now in let s1 = c.fetch.new.store in let s2 = c.edit_row.new.store in let u1 = c.edit_row.new.summer in let a = c.in_ok-node.ensures.ran in let got = c.in_ok-node.ensures.met first tree pieces under child in
    let b = c.in_ok-row-2.ensures.ran in let ab = goes_on i s m (laws g) s0 s1 s2 u0 u0 u1 a b in let made = c.in_ok-row-2.ensures.met first tree pieces (under_on i s m (laws g) first tree pieces s0 s1 u0 u0 under a) got.1 in
    let taken = taken_on i s m (laws g) first tree pieces s1 s2 u0 u1 b (s.gets s0) got.0 made.0 in let p = err_from_is_err_and c.from_residual-in_err-row-3.result c.from_residual-in_err-row-3.ensures.1 in
    took_quiet i s m (laws g) first tree pieces c.from_residual-in_err-row-3.result _ s0 s2 c.keep_child-then-is_ready-2.new.store u0 u1 c.keep_child-then-is_ready-2.new.summer ab taken c.in_err-row-3.field-0.0 p.0 p.2 p.1 c.in_err-row-3.ensures.ran c.in_err-row-3.ensures.gets c.in_err-row-3.ensures.sound

pub edit_child-returns-in_err-joined-clause-met : goal.edit_child-returns-in_err-joined-clause-met
edit_child-returns-in_err-joined-clause-met g t c first tree pieces under done carry child =
    let i = g.M.Unit.Item in let s = g.S.NodeSource in let m = g.M.Summer in let s0 = c.args.store.now in let u0 = c.args.summer.now in let s1 = c.fetch.new.store in let s2 = c.edit_row.new.store in let u1 = c.edit_row.new.summer in let a = c.in_ok-node.ensures.ran in let got = c.in_ok-node.ensures.met first tree pieces under child in
    let b = c.in_ok-row-2.ensures.ran in let ab = goes_on i s m (laws g) s0 s1 s2 u0 u0 u1 a b in let made = c.in_ok-row-2.ensures.met first tree pieces (under_on i s m (laws g) first tree pieces s0 s1 u0 u0 under a) got.1 in
    let taken = taken_on i s m (laws g) first tree pieces s1 s2 u0 u1 b (s.gets s0) got.0 made.0 in let under2 = under_on i s m (laws g) first tree pieces s0 s2 u0 u1 under ab in
    let done2 = all_on i s m (laws g) first tree pieces s0 s2 u0 u1 ab c.args.low c.args.done.now.items done in let carry2 = row_on i s m (laws g) first tree pieces s0 s2 u0 u1 ab c.args.carry.level c.args.carry.node carry in let p = err_from_is_err_and c.from_residual-in_err-joined.result c.from_residual-in_err-joined.ensures.1 in
    took_later i s m (laws g) first tree pieces c.from_residual-in_err-joined.result _ s0 s2 c.join_rows.new.store u0 u1 c.join_rows.new.summer ab taken c.in_err-joined.field-0.0 p.0 p.2 p.1 c.in_err-joined.ensures.ran (c.in_err-joined.ensures.met first tree pieces under2 carry2 made.1).0

pub edit_children-returns-in_err-next-clause-met : goal.edit_children-returns-in_err-next-clause-met
edit_children-returns-in_err-next-clause-met g t c first tree pieces under children =
    let i = g.M.Unit.Item in let s = g.S.NodeSource in let m = g.M.Summer in let s0 = c.args.store.now in let u0 = c.args.summer.now in let s1 = c.loop-left.store in let u1 = c.loop-left.summer in let inv = c.loop-left.invariant in
    let was = inv.met first tree pieces under children in let child = c.take_first-child.result in let rest = c.take_first-child.new.list.items in let P = Given i s m first tree pieces s1 c.args.low in let left = subst (All P) c.take_first-child.ensures was.3 in let p = err_from_is_err_and c.from_residual.result c.from_residual.ensures.1 in
    took_later i s m (laws g) first tree pieces c.from_residual.result _ s0 s1 c.edit_child.new.store u0 u1 c.edit_child.new.summer inv.ran was.0 c.in_err-next.field-0.0 p.0 p.2 p.1 c.in_err-next.ensures.ran (c.in_err-next.ensures.met first tree pieces (under_on i s m (laws g) first tree pieces s0 s1 u0 u1 under inv.ran) was.1 was.2 (All-head P child rest left)).0

pub edit_children-returns-in_err-row-clause-met : goal.edit_children-returns-in_err-row-clause-met
edit_children-returns-in_err-row-clause-met g t c first tree pieces under children =
    let i = g.M.Unit.Item in let s = g.S.NodeSource in let m = g.M.Summer in let s0 = c.args.store.now in let u0 = c.args.summer.now in let s1 = c.loop-left.store in let u1 = c.loop-left.summer in let inv = c.loop-left.invariant in
    let was = inv.met first tree pieces under children in let p = err_from_is_err_and c.from_residual-in_err-row.result c.from_residual-in_err-row.ensures.1 in
    took_later i s m (laws g) first tree pieces c.from_residual-in_err-row.result _ s0 s1 c.finish.new.store u0 u1 c.finish.new.summer inv.ran was.0 c.in_err-row.field-0.0 p.0 p.2 p.1 c.in_err-row.ensures.ran (c.in_err-row.ensures.met first tree pieces (under_on i s m (laws g) first tree pieces s0 s1 u0 u1 under inv.ran) was.1 was.2).0

pub edit_row-returns-in_err-row-in-Inner-clause-met : goal.edit_row-returns-in_err-row-in-Inner-clause-met
edit_row-returns-in_err-row-in-Inner-clause-met g t c first tree pieces under given =
    let i = g.M.Unit.Item in let s = g.S.NodeSource in let m = g.M.Summer in let s0 = c.args.store.now in let u0 = c.args.summer.now in let P = Given i s m first tree pieces s0 (c.args.level - 1) in
    let cs = subst (All P) (sym c.into_vec-in-Inner.ensures) (subst (AreEach P) c.in-Inner.is given) in let p = err_from_is_err_and c.from_residual-in_err-row-in-Inner.result c.from_residual-in_err-row-in-Inner.ensures.1 in
    took_fault i s m (laws g) first tree pieces c.from_residual-in_err-row-in-Inner.result _ s0 c.edit_children.new.store c.in_err-row-in-Inner.field-0.0 p.0 p.2 p.1 (c.in_err-row-in-Inner.ensures.met first tree pieces under cs).0

pub edit_child-returns-in_err-row-2-clause-sums : goal.edit_child-returns-in_err-row-2-clause-sums
edit_child-returns-in_err-row-2-clause-sums g t c first begun way carry =
    let i = g.M.Unit.Item in let s = g.S.NodeSource in let m = g.M.Summer in let s0 = c.args.store.now in let u0 = c.args.summer.now in
    let s1 = c.fetch.new.store in let a = c.in_ok-node.ensures.ran in
    let way1 = way_on i s m (laws g) first begun s0 s1 u0 u0 a way in
    let node = c.in_ok-node.ensures.known first begun way in
    let p = err_from_is_err_and c.from_residual-in_err-row-2.result c.from_residual-in_err-row-2.ensures.1 in
    knew_err i s m first begun _ _ _ c.from_residual-in_err-row-2.result c.in_err-row-2.field-0.0 p.0 p.2 p.1 (subst (λ p. KnewPieces i s m first begun c.edit_row.new.summer c.edit_row.new.store p c.in_err-row-2.field-0.0) c.in_ok-node.ensures.puts (c.in_err-row-2.ensures.sums first begun way1 node))

pub edit_child-returns-in_err-row-3-clause-sums : goal.edit_child-returns-in_err-row-3-clause-sums
edit_child-returns-in_err-row-3-clause-sums g t c first begun way carry =
    let i = g.M.Unit.Item in let s = g.S.NodeSource in let m = g.M.Summer in let s0 = c.args.store.now in let u0 = c.args.summer.now in
    let s1 = c.fetch.new.store in let a = c.in_ok-node.ensures.ran in
    let way1 = way_on i s m (laws g) first begun s0 s1 u0 u0 a way in
    let node = c.in_ok-node.ensures.known first begun way in
    let s2 = c.edit_row.new.store in let u1 = c.edit_row.new.summer in let k = c.in_ok-row-2.ensures in
    let ab = goes_on i s m (laws g) s0 s1 s2 u0 u0 u1 a k.ran in
    let one = subst (λ p. KnowsPieces i s m first begun u1 s2 p) c.in_ok-node.ensures.puts (k.sums first begun way1 node) in
    let way2 = way_on i s m (laws g) first begun s0 s2 u0 u1 ab way in
    let row2 = k.known first begun way1 node in
    let carry2 = node_goes i s m (laws g) first begun s0 s2 u0 u1 ab c.args.carry.node carry in
    let p = err_from_is_err_and c.from_residual-in_err-row-3.result c.from_residual-in_err-row-3.ensures.1 in
    knew_err i s m first begun _ _ _ c.from_residual-in_err-row-3.result c.in_err-row-3.field-0.0 p.0 p.2 p.1 (known_fails i s m (laws g) first begun s0 s2 c.keep_child-then-is_ready-2.new.store u1 c.keep_child-then-is_ready-2.new.summer c.in_err-row-3.field-0.0 c.in_err-row-3.ensures.ran one (c.in_err-row-3.ensures.sums first begun carry2))

pub edit_child-returns-then-is_ready-2-clause-sums : goal.edit_child-returns-then-is_ready-2-clause-sums
edit_child-returns-then-is_ready-2-clause-sums g t c first begun way carry =
    let i = g.M.Unit.Item in let s = g.S.NodeSource in let m = g.M.Summer in let s0 = c.args.store.now in let u0 = c.args.summer.now in
    let s1 = c.fetch.new.store in let a = c.in_ok-node.ensures.ran in
    let way1 = way_on i s m (laws g) first begun s0 s1 u0 u0 a way in
    let node = c.in_ok-node.ensures.known first begun way in
    let s2 = c.edit_row.new.store in let u1 = c.edit_row.new.summer in let k = c.in_ok-row-2.ensures in
    let ab = goes_on i s m (laws g) s0 s1 s2 u0 u0 u1 a k.ran in
    let one = subst (λ p. KnowsPieces i s m first begun u1 s2 p) c.in_ok-node.ensures.puts (k.sums first begun way1 node) in
    let way2 = way_on i s m (laws g) first begun s0 s2 u0 u1 ab way in
    let row2 = k.known first begun way1 node in
    let carry2 = node_goes i s m (laws g) first begun s0 s2 u0 u1 ab c.args.carry.node carry in
    known_goes i s m (laws g) first begun s0 s2 c.keep_child-then-is_ready-2.new.store u1 c.keep_child-then-is_ready-2.new.summer c.in_ok-row-3.ensures.ran one (c.in_ok-row-3.ensures.sums first begun carry2)

pub edit_child-returns-in_err-joined-clause-sums : goal.edit_child-returns-in_err-joined-clause-sums
edit_child-returns-in_err-joined-clause-sums g t c first begun way carry =
    let i = g.M.Unit.Item in let s = g.S.NodeSource in let m = g.M.Summer in let s0 = c.args.store.now in let u0 = c.args.summer.now in
    let s1 = c.fetch.new.store in let a = c.in_ok-node.ensures.ran in
    let way1 = way_on i s m (laws g) first begun s0 s1 u0 u0 a way in
    let node = c.in_ok-node.ensures.known first begun way in
    let s2 = c.edit_row.new.store in let u1 = c.edit_row.new.summer in let k = c.in_ok-row-2.ensures in
    let ab = goes_on i s m (laws g) s0 s1 s2 u0 u0 u1 a k.ran in
    let one = subst (λ p. KnowsPieces i s m first begun u1 s2 p) c.in_ok-node.ensures.puts (k.sums first begun way1 node) in
    let way2 = way_on i s m (laws g) first begun s0 s2 u0 u1 ab way in
    let row2 = k.known first begun way1 node in
    let carry2 = node_goes i s m (laws g) first begun s0 s2 u0 u1 ab c.args.carry.node carry in
    let p = err_from_is_err_and c.from_residual-in_err-joined.result c.from_residual-in_err-joined.ensures.1 in
    knew_err i s m first begun _ _ _ c.from_residual-in_err-joined.result c.in_err-joined.field-0.0 p.0 p.2 p.1 (known_fails i s m (laws g) first begun s0 s2 c.join_rows.new.store u1 c.join_rows.new.summer c.in_err-joined.field-0.0 c.in_err-joined.ensures.ran one (c.in_err-joined.ensures.sums first begun way2 carry2 row2))

pub edit_child-returns-clause-sums : goal.edit_child-returns-clause-sums
edit_child-returns-clause-sums g t c first begun way carry =
    let i = g.M.Unit.Item in let s = g.S.NodeSource in let m = g.M.Summer in let s0 = c.args.store.now in let u0 = c.args.summer.now in
    let s1 = c.fetch.new.store in let a = c.in_ok-node.ensures.ran in
    let way1 = way_on i s m (laws g) first begun s0 s1 u0 u0 a way in
    let node = c.in_ok-node.ensures.known first begun way in
    let s2 = c.edit_row.new.store in let u1 = c.edit_row.new.summer in let k = c.in_ok-row-2.ensures in
    let ab = goes_on i s m (laws g) s0 s1 s2 u0 u0 u1 a k.ran in
    let one = subst (λ p. KnowsPieces i s m first begun u1 s2 p) c.in_ok-node.ensures.puts (k.sums first begun way1 node) in
    let way2 = way_on i s m (laws g) first begun s0 s2 u0 u1 ab way in
    let row2 = k.known first begun way1 node in
    let carry2 = node_goes i s m (laws g) first begun s0 s2 u0 u1 ab c.args.carry.node carry in
    known_goes i s m (laws g) first begun s0 s2 c.join_rows.new.store u1 c.join_rows.new.summer c.in_ok-joined.ensures.ran one (c.in_ok-joined.ensures.sums first begun way2 carry2 row2)

pub edit_child-returns-then-is_ready-2-clause-known : goal.edit_child-returns-then-is_ready-2-clause-known
edit_child-returns-then-is_ready-2-clause-known g t c first begun way done carry child =
    let i = g.M.Unit.Item in let s = g.S.NodeSource in let m = g.M.Summer in let s0 = c.args.store.now in let u0 = c.args.summer.now in
    let s1 = c.fetch.new.store in let a = c.in_ok-node.ensures.ran in
    let way1 = way_on i s m (laws g) first begun s0 s1 u0 u0 a way in
    let node = c.in_ok-node.ensures.known first begun way in
    let s2 = c.edit_row.new.store in let u1 = c.edit_row.new.summer in let k = c.in_ok-row-2.ensures in
    let ab = goes_on i s m (laws g) s0 s1 s2 u0 u0 u1 a k.ran in
    let one = subst (λ p. KnowsPieces i s m first begun u1 s2 p) c.in_ok-node.ensures.puts (k.sums first begun way1 node) in
    let way2 = way_on i s m (laws g) first begun s0 s2 u0 u1 ab way in
    let row2 = k.known first begun way1 node in
    let carry2 = node_goes i s m (laws g) first begun s0 s2 u0 u1 ab c.args.carry.node carry in
    let done2 = row_goes i s m (laws g) first begun s0 s2 u0 u1 ab c.args.done.now.items done in
    let child2 = sum_goes i s m (laws g) first begun s0 s2 u0 u1 ab c.args.child.sum child in
    (c.in_ok-row-3.ensures.known first begun way2.goes done2 child2, subst (KnowsNode i s m first begun c.keep_child-then-is_ready-2.new.summer c.keep_child-then-is_ready-2.new.store) (sym c.in_ok-row-3.ensures.none) tt)

pub edit_child-returns-clause-known : goal.edit_child-returns-clause-known
edit_child-returns-clause-known g t c first begun way done carry child =
    let i = g.M.Unit.Item in let s = g.S.NodeSource in let m = g.M.Summer in let s0 = c.args.store.now in let u0 = c.args.summer.now in
    let s1 = c.fetch.new.store in let a = c.in_ok-node.ensures.ran in
    let way1 = way_on i s m (laws g) first begun s0 s1 u0 u0 a way in
    let node = c.in_ok-node.ensures.known first begun way in
    let s2 = c.edit_row.new.store in let u1 = c.edit_row.new.summer in let k = c.in_ok-row-2.ensures in
    let ab = goes_on i s m (laws g) s0 s1 s2 u0 u0 u1 a k.ran in
    let one = subst (λ p. KnowsPieces i s m first begun u1 s2 p) c.in_ok-node.ensures.puts (k.sums first begun way1 node) in
    let way2 = way_on i s m (laws g) first begun s0 s2 u0 u1 ab way in
    let row2 = k.known first begun way1 node in
    let carry2 = node_goes i s m (laws g) first begun s0 s2 u0 u1 ab c.args.carry.node carry in
    let abd = goes_on i s m (laws g) s0 s2 c.join_rows.new.store u0 u1 c.join_rows.new.summer ab c.in_ok-joined.ensures.ran in
    (row_goes i s m (laws g) first begun s0 c.join_rows.new.store u0 c.join_rows.new.summer abd c.args.done.now.items done, c.in_ok-joined.ensures.known first begun way2 carry2 row2)

pub edit_children-returns-in_err-next-clause-sums : goal.edit_children-returns-in_err-next-clause-sums
edit_children-returns-in_err-next-clause-sums g t c first begun way children =
    let i = g.M.Unit.Item in let s = g.S.NodeSource in let m = g.M.Summer in let s0 = c.args.store.now in let u0 = c.args.summer.now in
    let s1 = c.loop-left.store in let u1 = c.loop-left.summer in let inv = c.loop-left.invariant in
    let was = inv.known first begun way children in
    let way1 = way_on i s m (laws g) first begun s0 s1 u0 u1 inv.ran way in
    let p = err_from_is_err_and c.from_residual.result c.from_residual.ensures.1 in
    knew_err i s m first begun _ _ _ c.from_residual.result c.in_err-next.field-0.0 p.0 p.2 p.1 (known_fails i s m (laws g) first begun s0 s1 c.edit_child.new.store u1 c.edit_child.new.summer c.in_err-next.field-0.0 c.in_err-next.ensures.ran was.0 (c.in_err-next.ensures.sums first begun way1 was.2))

pub edit_children-returns-in_err-row-clause-sums : goal.edit_children-returns-in_err-row-clause-sums
edit_children-returns-in_err-row-clause-sums g t c first begun way children =
    let i = g.M.Unit.Item in let s = g.S.NodeSource in let m = g.M.Summer in let s0 = c.args.store.now in let u0 = c.args.summer.now in
    let s1 = c.loop-left.store in let u1 = c.loop-left.summer in let inv = c.loop-left.invariant in
    let was = inv.known first begun way children in
    let way1 = way_on i s m (laws g) first begun s0 s1 u0 u1 inv.ran way in
    let p = err_from_is_err_and c.from_residual-in_err-row.result c.from_residual-in_err-row.ensures.1 in
    knew_err i s m first begun _ _ _ c.from_residual-in_err-row.result c.in_err-row.field-0.0 p.0 p.2 p.1 (known_fails i s m (laws g) first begun s0 s1 c.finish.new.store u1 c.finish.new.summer c.in_err-row.field-0.0 c.in_err-row.ensures.ran was.0 (c.in_err-row.ensures.sums first begun way1 was.1 was.2))

pub edit_children-returns-clause-sums : goal.edit_children-returns-clause-sums
edit_children-returns-clause-sums g t c first begun way children =
    let i = g.M.Unit.Item in let s = g.S.NodeSource in let m = g.M.Summer in let s0 = c.args.store.now in let u0 = c.args.summer.now in
    let s1 = c.loop-left.store in let u1 = c.loop-left.summer in let inv = c.loop-left.invariant in
    let was = inv.known first begun way children in
    let way1 = way_on i s m (laws g) first begun s0 s1 u0 u1 inv.ran way in
    known_goes i s m (laws g) first begun s0 s1 c.finish.new.store u1 c.finish.new.summer c.in_ok-row.ensures.ran was.0 (c.in_ok-row.ensures.sums first begun way1 was.1 was.2)

pub edit_children-returns-clause-known : goal.edit_children-returns-clause-known
edit_children-returns-clause-known g t c first begun way children =
    let i = g.M.Unit.Item in let s = g.S.NodeSource in let m = g.M.Summer in let s0 = c.args.store.now in let u0 = c.args.summer.now in
    let s1 = c.loop-left.store in let u1 = c.loop-left.summer in let inv = c.loop-left.invariant in
    let was = inv.known first begun way children in
    let way1 = way_on i s m (laws g) first begun s0 s1 u0 u1 inv.ran way in
    c.in_ok-row.ensures.known first begun way1 was.1 was.2

pub edit_row-returns-in_err-row-in-Inner-clause-sums : goal.edit_row-returns-in_err-row-in-Inner-clause-sums
edit_row-returns-in_err-row-in-Inner-clause-sums g t c first begun way node =
    let i = g.M.Unit.Item in let s = g.S.NodeSource in let m = g.M.Summer in let s0 = c.args.store.now in let u0 = c.args.summer.now in
    let cs = subst (KnowsRow i s m first begun u0 s0) (sym c.into_vec-in-Inner.ensures) (subst (KnowsNode i s m first begun u0 s0) c.in-Inner.is node) in
    let p = err_from_is_err_and c.from_residual-in_err-row-in-Inner.result c.from_residual-in_err-row-in-Inner.ensures.1 in
    knew_err i s m first begun _ _ _ c.from_residual-in_err-row-in-Inner.result c.in_err-row-in-Inner.field-0.0 p.0 p.2 p.1 (c.in_err-row-in-Inner.ensures.sums first begun way cs)

pub edit_row-returns-in_ok-row-in-Inner-clause-sums : goal.edit_row-returns-in_ok-row-in-Inner-clause-sums
edit_row-returns-in_ok-row-in-Inner-clause-sums g t c first begun way node =
    let i = g.M.Unit.Item in let s = g.S.NodeSource in let m = g.M.Summer in let s0 = c.args.store.now in let u0 = c.args.summer.now in
    let cs = subst (KnowsRow i s m first begun u0 s0) (sym c.into_vec-in-Inner.ensures) (subst (KnowsNode i s m first begun u0 s0) c.in-Inner.is node) in
    c.in_ok-row-in-Inner.ensures.sums first begun way cs

pub edit_row-returns-in_ok-row-in-Inner-clause-known : goal.edit_row-returns-in_ok-row-in-Inner-clause-known
edit_row-returns-in_ok-row-in-Inner-clause-known g t c first begun way node =
    let i = g.M.Unit.Item in let s = g.S.NodeSource in let m = g.M.Summer in let s0 = c.args.store.now in let u0 = c.args.summer.now in
    let cs = subst (KnowsRow i s m first begun u0 s0) (sym c.into_vec-in-Inner.ensures) (subst (KnowsNode i s m first begun u0 s0) c.in-Inner.is node) in
    c.in_ok-row-in-Inner.ensures.known first begun way cs
