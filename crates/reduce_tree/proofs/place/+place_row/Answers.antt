use Rattle.std.proofs.Common.{arith, ◌≡◌, ◌+◌, ◌∙◌, ap, Contains, subst, refl, ◌-◌}
use Rattle.tree_laws.specs.declared.node.Child.{Child}
use Rattle.tree_laws.specs.declared.node.Node.TheVariants.{Inner}
use Rattle.tree_laws.specs.Fitting.{item_count}
use Rattle.tree_laws.specs.SummerTrees.{Stands}
use Rattle.tree_laws.proofs.SummerTrees.{children_append}
use Rattle.tree_laws.proofs.SummerTrees.{children_stay, has_stays, stands_stays}
use Rattle.reduce_tree.specs.Calls.{places}
use Rattle.std.proofs.lemmas.Result.{err_from_is_err_and}
use Rattle.reduce_tree.proofs.Calls.{Laws, ran_err, extends_on, fails_on, goes_on, known_on, goes_none, on_err}
use Rattle.reduce_tree.proofs.Nodes.{count_append, has_split, large_append, split_count, split_kind, split_large}
use Rattle.reduce_tree.proofs.Puts.{leaf_split, put_two}
use Rattle.reduce_tree.proofs.Pieces.{pieces_on, were_on, on_match, pieces_none}
use Rattle.reduce_tree.proofs.Quiet.{all_front, all_back}
use Rattle.reduce_tree.specs.Pieces.{AreAmong}
use Rattle.tree_laws.specs.declared.tree.Fill.TheVariants.{Below}
use Rattle.tree_laws.specs.declared.tree.TreeFault.TheVariants as tree_fault
use Rattle.reduce_tree.proofs.Given.{all_on, row_on, under_on, each_split}
use Rattle.reduce_tree.specs.Given.{Given}
use Rattle.std.proofs.lemmas.List.Elements.{All-append, All-weaker}
use Rattle.reduce_tree.specs.Sums.{IsSumGiven, IsSumRead}
use Rattle.reduce_tree.proofs.Had.{given_later, had_split, node_goes, known_goes, known_fails, known_none, knew_err}
use Rattle.reduce_tree.proofs.place.+place_row.Goals as goal

pub returns-clause-children : goal.returns-clause-children
returns-clause-children g t c first level items known has =
    let laws : Laws g.S.NodeSource g.M.Summer = record { store_steps = g.met.S.NodeSource.are_steps; store_keeps = g.met.S.NodeSource.keeps; store_caused = g.met.S.NodeSource.stays_caused; summer_steps = g.met.M.Summer.are_steps; summer_keeps = g.met.M.Summer.keeps; summer_caused = g.met.M.Summer.stays_caused; summer_asked = g.met.M.Summer.stays_asked; summer_gave = g.met.M.Summer.stays_given } in
    let i = g.M.Unit.Item in
    let m = g.M.Summer in
    let s0 = c.args.store.now in
    let s1 = c.place_row.new.store in
    let s2 = c.place_row-2.new.store in
    let u0 = c.args.summer.now in
    let u1 = c.place_row.new.summer in
    let u2 = c.place_row-2.new.summer in
    let old = places (g.S.NodeSource.nodes s0) in
    let mid = places (g.S.NodeSource.nodes s1) in
    let new = places (g.S.NodeSource.nodes s2) in
    let left = c.in_ok-left.left in
    let right = c.in_ok-left.right in
    let j = has_split i m first old level c.args.node left right items c.in_ok-left.ensures.split has in
    let done = c.in_ok-front.ensures.children first level j.front known j.at_front in
    let at_right = has_stays i m first old mid (extends_on g.M.Unit.Item g.S.NodeSource g.M.Summer laws s0 s1 u0 u1 c.in_ok-front.ensures.ran) level right j.back j.at_back in
    let second = c.in_ok-back.ensures.children first level j.back (known_on g.M.Unit.Item g.S.NodeSource g.M.Summer laws first s0 s1 u0 u1 known c.in_ok-front.ensures.ran) at_right in
    let first_now = children_stay i m first (Stands i m first mid level) (Stands i m first new level) (stands_stays i m first mid new (extends_on g.M.Unit.Item g.S.NodeSource g.M.Summer laws s1 s2 u1 u2 c.in_ok-back.ensures.ran) level) c.in_ok-front.front.items j.front done in
    rw (c.in_ok-add_all.ensures, j.whole)
    (children_append i m first (Stands i m first new level) c.in_ok-front.front.items c.in_ok-back.back.items j.front j.back first_now second)

pub returns-clause-large : goal.returns-clause-large
returns-clause-large g t c level kind large =
    let k = split_kind level c.args.node c.in_ok-left.left c.in_ok-left.right c.in_ok-left.ensures.split kind in
    let l = split_large level c.args.node c.in_ok-left.left c.in_ok-left.right c.in_ok-left.ensures.split large in
    rw c.in_ok-add_all.ensures (large_append (level + 1) c.in_ok-front.front.items c.in_ok-back.back.items (c.in_ok-front.ensures.large level k.0 l.0) (c.in_ok-back.ensures.large level k.1 l.1))

pub returns-clause-count : goal.returns-clause-count
returns-clause-count g t c =
    let s = split_count c.args.node c.in_ok-left.left c.in_ok-left.right c.in_ok-left.ensures.split in
    let a : item_count (Inner c.add_all.new.list.items) ≡ item_count (Inner c.in_ok-front.front.items) + item_count (Inner c.in_ok-back.back.items) =
    ap (λ cs. item_count (Inner cs)) c.in_ok-add_all.ensures ∙ count_append c.in_ok-front.front.items c.in_ok-back.back.items in
    omega (arith, s, a, c.in_ok-front.ensures.count, c.in_ok-back.ensures.count)

pub returns-clause-ran : goal.returns-clause-ran
returns-clause-ran g t c =
    let laws : Laws g.S.NodeSource g.M.Summer = record { store_steps = g.met.S.NodeSource.are_steps; store_keeps = g.met.S.NodeSource.keeps; store_caused = g.met.S.NodeSource.stays_caused; summer_steps = g.met.M.Summer.are_steps; summer_keeps = g.met.M.Summer.keeps; summer_caused = g.met.M.Summer.stays_caused; summer_asked = g.met.M.Summer.stays_asked; summer_gave = g.met.M.Summer.stays_given } in
    goes_on g.M.Unit.Item g.S.NodeSource g.M.Summer laws c.args.store.now c.place_row.new.store c.place_row-2.new.store c.args.summer.now c.place_row.new.summer c.place_row-2.new.summer c.in_ok-front.ensures.ran c.in_ok-back.ensures.ran

pub returns-in_err-back-clause-ran : goal.returns-in_err-back-clause-ran
returns-in_err-back-clause-ran g t c =
    let laws : Laws g.S.NodeSource g.M.Summer = record { store_steps = g.met.S.NodeSource.are_steps; store_keeps = g.met.S.NodeSource.keeps; store_caused = g.met.S.NodeSource.stays_caused; summer_steps = g.met.M.Summer.are_steps; summer_keeps = g.met.M.Summer.keeps; summer_caused = g.met.M.Summer.stays_caused; summer_asked = g.met.M.Summer.stays_asked; summer_gave = g.met.M.Summer.stays_given } in
    let p = err_from_is_err_and c.from_residual-in_err-back.result c.from_residual-in_err-back.ensures.1 in
    ran_err g.M.Unit.Item g.S.NodeSource g.M.Summer laws _ _ _ _ c.from_residual-in_err-back.result c.in_err-back.field-0.0 p.0 p.2 p.1 (fails_on g.M.Unit.Item g.S.NodeSource g.M.Summer laws c.args.store.now c.place_row.new.store c.place_row-2.new.store c.args.summer.now c.place_row.new.summer c.place_row-2.new.summer c.in_ok-front.ensures.ran _ c.in_err-back.ensures.ran)

pub returns-clause-leaf : goal.returns-clause-leaf
returns-clause-leaf g t c =
    let s = leaf_split c.args.node c.in_ok-left.left c.in_ok-left.right c.in_ok-left.ensures.split in
    put_two c.in_ok-front.ensures.leaf c.in_ok-back.ensures.leaf (omega arith) (omega arith) (omega arith) (λ u. u)
    (λ u. g.met.M.Summer.keeps.usable c.args.summer.now c.place_row.new.summer c.in_ok-front.ensures.ran.summer u) (omega (arith, s))

pub returns-clause-pieces : goal.returns-clause-pieces
returns-clause-pieces g t c first level items among known has all =
    let laws : Laws g.S.NodeSource g.M.Summer = record { store_steps = g.met.S.NodeSource.are_steps; store_keeps = g.met.S.NodeSource.keeps; store_caused = g.met.S.NodeSource.stays_caused; summer_steps = g.met.M.Summer.are_steps; summer_keeps = g.met.M.Summer.keeps; summer_caused = g.met.M.Summer.stays_caused; summer_asked = g.met.M.Summer.stays_asked; summer_gave = g.met.M.Summer.stays_given } in
    let i = g.M.Unit.Item in
    let m = g.M.Summer in
    let s0 = c.args.store.now in
    let s1 = c.place_row.new.store in
    let s2 = c.place_row-2.new.store in
    let u0 = c.args.summer.now in
    let u1 = c.place_row.new.summer in
    let u2 = c.place_row-2.new.summer in
    let old = places (g.S.NodeSource.nodes s0) in
    let mid = places (g.S.NodeSource.nodes s1) in
    let new = places (g.S.NodeSource.nodes s2) in
    let left = c.in_ok-left.left in
    let right = c.in_ok-left.right in
    let j = has_split i m first old level c.args.node left right items c.in_ok-left.ensures.split has in
    let parts = subst (AreAmong among) j.whole all in
    let e12 = extends_on g.M.Unit.Item g.S.NodeSource g.M.Summer laws s1 s2 u1 u2 c.in_ok-back.ensures.ran in
    let at_right = has_stays i m first old mid (extends_on g.M.Unit.Item g.S.NodeSource g.M.Summer laws s0 s1 u0 u1 c.in_ok-front.ensures.ran) level right j.back j.at_back in
    let done = c.in_ok-front.ensures.pieces first level j.front among known j.at_front (all_front (Contains among) j.front j.back parts) in
    let second = c.in_ok-back.ensures.pieces first level j.back among (known_on g.M.Unit.Item g.S.NodeSource g.M.Summer laws first s0 s1 u0 u1 known c.in_ok-front.ensures.ran) at_right (all_back (Contains among) j.front j.back parts) in
    pieces_on i m first among mid new e12 Below (g.S.NodeSource.puts s0) (g.S.NodeSource.puts s1) (g.S.NodeSource.puts s2) done second

pub returns-in_err-left-clause-ran : goal.returns-in_err-left-clause-ran
returns-in_err-left-clause-ran g t c =
    let laws : Laws g.S.NodeSource g.M.Summer = record { store_steps = g.met.S.NodeSource.are_steps; store_keeps = g.met.S.NodeSource.keeps; store_caused = g.met.S.NodeSource.stays_caused; summer_steps = g.met.M.Summer.are_steps; summer_keeps = g.met.M.Summer.keeps; summer_caused = g.met.M.Summer.stays_caused; summer_asked = g.met.M.Summer.stays_asked; summer_gave = g.met.M.Summer.stays_given } in
    let p = err_from_is_err_and c.from_residual-in_err-left.result c.from_residual-in_err-left.ensures.1 in
    ran_err g.M.Unit.Item g.S.NodeSource g.M.Summer laws _ _ _ _ c.from_residual-in_err-left.result tree_fault.NoMemory p.0 p.2 p.1 (goes_none g.M.Unit.Item g.S.NodeSource g.M.Summer laws c.args.store.now c.args.summer.now)

pub returns-in_err-add_all-clause-ran : goal.returns-in_err-add_all-clause-ran
returns-in_err-add_all-clause-ran g t c =
    let laws : Laws g.S.NodeSource g.M.Summer = record { store_steps = g.met.S.NodeSource.are_steps; store_keeps = g.met.S.NodeSource.keeps; store_caused = g.met.S.NodeSource.stays_caused; summer_steps = g.met.M.Summer.are_steps; summer_keeps = g.met.M.Summer.keeps; summer_caused = g.met.M.Summer.stays_caused; summer_asked = g.met.M.Summer.stays_asked; summer_gave = g.met.M.Summer.stays_given } in
    let p = err_from_is_err_and c.from_residual-in_err-add_all.result c.from_residual-in_err-add_all.ensures.1 in
    ran_err g.M.Unit.Item g.S.NodeSource g.M.Summer laws _ _ _ _ c.from_residual-in_err-add_all.result tree_fault.NoMemory p.0 p.2 p.1 (goes_on g.M.Unit.Item g.S.NodeSource g.M.Summer laws c.args.store.now c.place_row.new.store c.place_row-2.new.store c.args.summer.now c.place_row.new.summer c.place_row-2.new.summer c.in_ok-front.ensures.ran c.in_ok-back.ensures.ran)

pub returns-in_err-whole-clause-spent : goal.returns-in_err-whole-clause-spent
returns-in_err-whole-clause-spent g t c =
    let k = c.in_err-whole.ensures.spent in
    on_err c.from_residual.result _ (record { steps = k.steps; puts = k.puts })

pub returns-in_err-left-clause-spent : goal.returns-in_err-left-clause-spent
returns-in_err-left-clause-spent g t c =
    on_err c.from_residual-in_err-left.result _ (record { steps = omega arith; puts = omega arith })

pub returns-in_err-front-clause-spent : goal.returns-in_err-front-clause-spent
returns-in_err-front-clause-spent g t c =
    let k = c.in_err-front.ensures.spent in
    let l = c.in_ok-left.ensures.left in
    let r = c.in_ok-left.ensures.right in
    on_err c.from_residual-in_err-front.result _ (record { steps = let s = k.steps in omega (arith, s, l, r); puts = let s = k.puts in omega (arith, s, l, r) })

pub returns-in_err-back-clause-spent : goal.returns-in_err-back-clause-spent
returns-in_err-back-clause-spent g t c =
    let k = c.in_err-back.ensures.spent in
    let a = c.in_ok-front.ensures in
    let l = c.in_ok-left.ensures.left in
    let r = c.in_ok-left.ensures.right in
    on_err c.from_residual-in_err-back.result _ (record { steps = let s = k.steps in omega (arith, s, l, r, a.packed, a.steps); puts = let s = k.puts in omega (arith, s, l, r, a.packed, a.steps, a.puts) })

pub returns-in_err-add_all-clause-spent : goal.returns-in_err-add_all-clause-spent
returns-in_err-add_all-clause-spent g t c =
    let a = c.in_ok-front.ensures in
    let b = c.in_ok-back.ensures in
    let l = c.in_ok-left.ensures.left in
    let r = c.in_ok-left.ensures.right in
    on_err c.from_residual-in_err-add_all.result _ (record { steps = omega (arith, l, r, a.packed, a.steps, b.packed, b.steps); puts = omega (arith, l, r, a.packed, a.steps, a.puts, b.packed, b.steps, b.puts) })

pub returns-in_err-whole-clause-pieces : goal.returns-in_err-whole-clause-pieces
returns-in_err-whole-clause-pieces g t c first level items among known has all =
    let p = err_from_is_err_and c.from_residual.result c.from_residual.ensures.1 in
    on_match c.from_residual.result _ _ _ p.0 p.2 p.1 (c.in_err-whole.ensures.pieces first level items among known has all)

pub returns-in_err-left-clause-pieces : goal.returns-in_err-left-clause-pieces
returns-in_err-left-clause-pieces g t c first level items among known has all =
    let p = err_from_is_err_and c.from_residual-in_err-left.result c.from_residual-in_err-left.ensures.1 in
    on_match c.from_residual-in_err-left.result _ _ tree_fault.NoMemory p.0 p.2 p.1 (pieces_none g.M.Unit.Item g.M.Summer first among (places (g.S.NodeSource.nodes c.args.store.now)) Below (g.S.NodeSource.puts c.args.store.now) (g.S.NodeSource.puts c.args.store.now) refl)

pub returns-in_err-front-clause-pieces : goal.returns-in_err-front-clause-pieces
returns-in_err-front-clause-pieces g t c first level items among known has all =
    let i = g.M.Unit.Item in
    let m = g.M.Summer in
    let s0 = c.args.store.now in
    let old = places (g.S.NodeSource.nodes s0) in
    let left = c.in_ok-left.left in
    let right = c.in_ok-left.right in
    let j = has_split i m first old level c.args.node left right items c.in_ok-left.ensures.split has in
    let parts = subst (AreAmong among) j.whole all in
    let p = err_from_is_err_and c.from_residual-in_err-front.result c.from_residual-in_err-front.ensures.1 in
    on_match c.from_residual-in_err-front.result _ _ _ p.0 p.2 p.1
    (c.in_err-front.ensures.pieces first level j.front among known j.at_front (all_front (Contains among) j.front j.back parts))

pub returns-in_err-back-clause-pieces : goal.returns-in_err-back-clause-pieces
returns-in_err-back-clause-pieces g t c first level items among known has all =
    let laws : Laws g.S.NodeSource g.M.Summer = record { store_steps = g.met.S.NodeSource.are_steps; store_keeps = g.met.S.NodeSource.keeps; store_caused = g.met.S.NodeSource.stays_caused; summer_steps = g.met.M.Summer.are_steps; summer_keeps = g.met.M.Summer.keeps; summer_caused = g.met.M.Summer.stays_caused; summer_asked = g.met.M.Summer.stays_asked; summer_gave = g.met.M.Summer.stays_given } in
    let i = g.M.Unit.Item in
    let m = g.M.Summer in
    let s0 = c.args.store.now in
    let s1 = c.place_row.new.store in
    let s2 = c.place_row-2.new.store in
    let u0 = c.args.summer.now in
    let u1 = c.place_row.new.summer in
    let old = places (g.S.NodeSource.nodes s0) in
    let mid = places (g.S.NodeSource.nodes s1) in
    let left = c.in_ok-left.left in
    let right = c.in_ok-left.right in
    let j = has_split i m first old level c.args.node left right items c.in_ok-left.ensures.split has in
    let parts = subst (AreAmong among) j.whole all in
    let at_right = has_stays i m first old mid (extends_on g.M.Unit.Item g.S.NodeSource g.M.Summer laws s0 s1 u0 u1 c.in_ok-front.ensures.ran) level right j.back j.at_back in
    let done = c.in_ok-front.ensures.pieces first level j.front among known j.at_front (all_front (Contains among) j.front j.back parts) in
    let known1 = known_on g.M.Unit.Item g.S.NodeSource g.M.Summer laws first s0 s1 u0 u1 known c.in_ok-front.ensures.ran in
    let p = err_from_is_err_and c.from_residual-in_err-back.result c.from_residual-in_err-back.ensures.1 in
    on_match c.from_residual-in_err-back.result _ _ _ p.0 p.2 p.1
    (were_on i g.S.NodeSource m laws first among s0 s1 s2 u0 u1 c.place_row-2.new.summer c.in_ok-front.ensures.ran done c.in_err-back.field-0.0 c.in_err-back.ensures.ran (c.in_err-back.ensures.pieces first level j.back among known1 at_right (all_back (Contains among) j.front j.back parts)))

pub returns-in_err-add_all-clause-pieces : goal.returns-in_err-add_all-clause-pieces
returns-in_err-add_all-clause-pieces g t c first level items among known has all =
    let laws : Laws g.S.NodeSource g.M.Summer = record { store_steps = g.met.S.NodeSource.are_steps; store_keeps = g.met.S.NodeSource.keeps; store_caused = g.met.S.NodeSource.stays_caused; summer_steps = g.met.M.Summer.are_steps; summer_keeps = g.met.M.Summer.keeps; summer_caused = g.met.M.Summer.stays_caused; summer_asked = g.met.M.Summer.stays_asked; summer_gave = g.met.M.Summer.stays_given } in
    let i = g.M.Unit.Item in
    let m = g.M.Summer in
    let s0 = c.args.store.now in
    let s1 = c.place_row.new.store in
    let s2 = c.place_row-2.new.store in
    let u0 = c.args.summer.now in
    let u1 = c.place_row.new.summer in
    let u2 = c.place_row-2.new.summer in
    let old = places (g.S.NodeSource.nodes s0) in
    let mid = places (g.S.NodeSource.nodes s1) in
    let new = places (g.S.NodeSource.nodes s2) in
    let left = c.in_ok-left.left in
    let right = c.in_ok-left.right in
    let j = has_split i m first old level c.args.node left right items c.in_ok-left.ensures.split has in
    let parts = subst (AreAmong among) j.whole all in
    let e12 = extends_on g.M.Unit.Item g.S.NodeSource g.M.Summer laws s1 s2 u1 u2 c.in_ok-back.ensures.ran in
    let at_right = has_stays i m first old mid (extends_on g.M.Unit.Item g.S.NodeSource g.M.Summer laws s0 s1 u0 u1 c.in_ok-front.ensures.ran) level right j.back j.at_back in
    let done = c.in_ok-front.ensures.pieces first level j.front among known j.at_front (all_front (Contains among) j.front j.back parts) in
    let second = c.in_ok-back.ensures.pieces first level j.back among (known_on g.M.Unit.Item g.S.NodeSource g.M.Summer laws first s0 s1 u0 u1 known c.in_ok-front.ensures.ran) at_right (all_back (Contains among) j.front j.back parts) in
    let p = err_from_is_err_and c.from_residual-in_err-add_all.result c.from_residual-in_err-add_all.ensures.1 in
    on_match c.from_residual-in_err-add_all.result _ _ tree_fault.NoMemory p.0 p.2 p.1
    (pieces_on i m first among mid new e12 Below (g.S.NodeSource.puts s0) (g.S.NodeSource.puts s1) (g.S.NodeSource.puts s2) done second)

pub returns-clause-given : goal.returns-clause-given
returns-clause-given g t c first tree pieces level under kind large given =
    let laws : Laws g.S.NodeSource g.M.Summer = record { store_steps = g.met.S.NodeSource.are_steps; store_keeps = g.met.S.NodeSource.keeps; store_caused = g.met.S.NodeSource.stays_caused; summer_steps = g.met.M.Summer.are_steps; summer_keeps = g.met.M.Summer.keeps; summer_caused = g.met.M.Summer.stays_caused; summer_asked = g.met.M.Summer.stays_asked; summer_gave = g.met.M.Summer.stays_given } in
    let i = g.M.Unit.Item in let s = g.S.NodeSource in let m = g.M.Summer in let s0 = c.args.store.now in let u0 = c.args.summer.now in
    let s1 = c.place_row.new.store in let s2 = c.place_row-2.new.store in let u1 = c.place_row.new.summer in let u2 = c.place_row-2.new.summer in
    let left = c.in_ok-left.left in let right = c.in_ok-left.right in
    let split = c.in_ok-left.ensures.split in
    let k = split_kind level c.args.node left right split kind in
    let l = split_large level c.args.node left right split large in
    let halves = each_split (Given i s m first tree pieces s0 (level - 1)) c.args.node left right split given in
    let ran = c.in_ok-front.ensures.ran in
    let one = c.in_ok-front.ensures.given first tree pieces level under k.0 l.0 halves.0 in
    let two = c.in_ok-back.ensures.given first tree pieces level (under_on i s m laws first tree pieces s0 s1 u0 u1 under ran) k.1 l.1 (row_on i s m laws first tree pieces s0 s1 u0 u1 ran level right halves.1) in
    let one_now = all_on i s m laws first tree pieces s1 s2 u1 u2 c.in_ok-back.ensures.ran level c.in_ok-front.front.items one in
    rw c.in_ok-add_all.ensures (All-append (Given i s m first tree pieces s2 level) c.in_ok-front.front.items c.in_ok-back.back.items one_now two)

pub returns-in_err-whole-clause-sums : goal.returns-in_err-whole-clause-sums
returns-in_err-whole-clause-sums g t c first begun knows =
    let p = err_from_is_err_and c.from_residual.result c.from_residual.ensures.1 in
    knew_err g.M.Unit.Item g.S.NodeSource g.M.Summer first begun _ _ _ c.from_residual.result c.in_err-whole.field-0.0 p.0 p.2 p.1 (c.in_err-whole.ensures.sums first begun knows)

pub returns-then-len-le64-clause-sums : goal.returns-then-len-le64-clause-sums
returns-then-len-le64-clause-sums g t c first begun knows = c.in_ok-whole.ensures.sums first begun knows

pub returns-in_err-left-clause-sums : goal.returns-in_err-left-clause-sums
returns-in_err-left-clause-sums g t c first begun knows =
    let p = err_from_is_err_and c.from_residual-in_err-left.result c.from_residual-in_err-left.ensures.1 in
    knew_err g.M.Unit.Item g.S.NodeSource g.M.Summer first begun _ _ _ c.from_residual-in_err-left.result tree_fault.NoMemory p.0 p.2 p.1 (known_none g.M.Unit.Item g.S.NodeSource g.M.Summer first begun c.args.summer.now c.args.store.now c.args.store.now refl)

pub returns-in_err-front-clause-sums : goal.returns-in_err-front-clause-sums
returns-in_err-front-clause-sums g t c first begun knows =
    let laws : Laws g.S.NodeSource g.M.Summer = record { store_steps = g.met.S.NodeSource.are_steps; store_keeps = g.met.S.NodeSource.keeps; store_caused = g.met.S.NodeSource.stays_caused; summer_steps = g.met.M.Summer.are_steps; summer_keeps = g.met.M.Summer.keeps; summer_caused = g.met.M.Summer.stays_caused; summer_asked = g.met.M.Summer.stays_asked; summer_gave = g.met.M.Summer.stays_given } in
    let i = g.M.Unit.Item in let s = g.S.NodeSource in let m = g.M.Summer in let s0 = c.args.store.now in let u0 = c.args.summer.now in
    let halves = had_split i m (IsSumRead i s begun s0) first u0 c.args.node c.in_ok-left.left c.in_ok-left.right c.in_ok-left.ensures.split knows in
    let p = err_from_is_err_and c.from_residual-in_err-front.result c.from_residual-in_err-front.ensures.1 in
    knew_err i s m first begun _ _ _ c.from_residual-in_err-front.result c.in_err-front.field-0.0 p.0 p.2 p.1 (c.in_err-front.ensures.sums first begun halves.0)

pub returns-in_err-back-clause-sums : goal.returns-in_err-back-clause-sums
returns-in_err-back-clause-sums g t c first begun knows =
    let laws : Laws g.S.NodeSource g.M.Summer = record { store_steps = g.met.S.NodeSource.are_steps; store_keeps = g.met.S.NodeSource.keeps; store_caused = g.met.S.NodeSource.stays_caused; summer_steps = g.met.M.Summer.are_steps; summer_keeps = g.met.M.Summer.keeps; summer_caused = g.met.M.Summer.stays_caused; summer_asked = g.met.M.Summer.stays_asked; summer_gave = g.met.M.Summer.stays_given } in
    let i = g.M.Unit.Item in let s = g.S.NodeSource in let m = g.M.Summer in let s0 = c.args.store.now in let u0 = c.args.summer.now in
    let s1 = c.place_row.new.store in let s2 = c.place_row-2.new.store in let u1 = c.place_row.new.summer in let u2 = c.place_row-2.new.summer in
    let halves = had_split i m (IsSumRead i s begun s0) first u0 c.args.node c.in_ok-left.left c.in_ok-left.right c.in_ok-left.ensures.split knows in
    let one = c.in_ok-front.ensures.sums first begun halves.0 in
    let right = node_goes i s m laws first begun s0 s1 u0 u1 c.in_ok-front.ensures.ran c.in_ok-left.right halves.1 in
    let p = err_from_is_err_and c.from_residual-in_err-back.result c.from_residual-in_err-back.ensures.1 in
    knew_err i s m first begun _ _ _ c.from_residual-in_err-back.result c.in_err-back.field-0.0 p.0 p.2 p.1 (known_fails i s m laws first begun s0 s1 s2 u1 u2 c.in_err-back.field-0.0 c.in_err-back.ensures.ran one (c.in_err-back.ensures.sums first begun right))

pub returns-in_err-add_all-clause-sums : goal.returns-in_err-add_all-clause-sums
returns-in_err-add_all-clause-sums g t c first begun knows =
    let laws : Laws g.S.NodeSource g.M.Summer = record { store_steps = g.met.S.NodeSource.are_steps; store_keeps = g.met.S.NodeSource.keeps; store_caused = g.met.S.NodeSource.stays_caused; summer_steps = g.met.M.Summer.are_steps; summer_keeps = g.met.M.Summer.keeps; summer_caused = g.met.M.Summer.stays_caused; summer_asked = g.met.M.Summer.stays_asked; summer_gave = g.met.M.Summer.stays_given } in
    let i = g.M.Unit.Item in let s = g.S.NodeSource in let m = g.M.Summer in let s0 = c.args.store.now in let u0 = c.args.summer.now in
    let s1 = c.place_row.new.store in let s2 = c.place_row-2.new.store in let u1 = c.place_row.new.summer in let u2 = c.place_row-2.new.summer in
    let halves = had_split i m (IsSumRead i s begun s0) first u0 c.args.node c.in_ok-left.left c.in_ok-left.right c.in_ok-left.ensures.split knows in
    let one = c.in_ok-front.ensures.sums first begun halves.0 in
    let right = node_goes i s m laws first begun s0 s1 u0 u1 c.in_ok-front.ensures.ran c.in_ok-left.right halves.1 in
    let p = err_from_is_err_and c.from_residual-in_err-add_all.result c.from_residual-in_err-add_all.ensures.1 in
    knew_err i s m first begun _ _ _ c.from_residual-in_err-add_all.result tree_fault.NoMemory p.0 p.2 p.1 (known_goes i s m laws first begun s0 s1 s2 u1 u2 c.in_ok-back.ensures.ran one (c.in_ok-back.ensures.sums first begun right))

pub returns-clause-sums : goal.returns-clause-sums
returns-clause-sums g t c first begun knows =
    let laws : Laws g.S.NodeSource g.M.Summer = record { store_steps = g.met.S.NodeSource.are_steps; store_keeps = g.met.S.NodeSource.keeps; store_caused = g.met.S.NodeSource.stays_caused; summer_steps = g.met.M.Summer.are_steps; summer_keeps = g.met.M.Summer.keeps; summer_caused = g.met.M.Summer.stays_caused; summer_asked = g.met.M.Summer.stays_asked; summer_gave = g.met.M.Summer.stays_given } in
    let i = g.M.Unit.Item in let s = g.S.NodeSource in let m = g.M.Summer in let s0 = c.args.store.now in let u0 = c.args.summer.now in
    let s1 = c.place_row.new.store in let s2 = c.place_row-2.new.store in let u1 = c.place_row.new.summer in let u2 = c.place_row-2.new.summer in
    let halves = had_split i m (IsSumRead i s begun s0) first u0 c.args.node c.in_ok-left.left c.in_ok-left.right c.in_ok-left.ensures.split knows in
    let one = c.in_ok-front.ensures.sums first begun halves.0 in
    let right = node_goes i s m laws first begun s0 s1 u0 u1 c.in_ok-front.ensures.ran c.in_ok-left.right halves.1 in
    known_goes i s m laws first begun s0 s1 s2 u1 u2 c.in_ok-back.ensures.ran one (c.in_ok-back.ensures.sums first begun right)

pub returns-then-len-le64-clause-answered : goal.returns-then-len-le64-clause-answered
returns-then-len-le64-clause-answered g t c first goes = c.in_ok-whole.ensures.answered first goes

pub returns-clause-answered : goal.returns-clause-answered
returns-clause-answered g t c first goes =
    let laws : Laws g.S.NodeSource g.M.Summer = record { store_steps = g.met.S.NodeSource.are_steps; store_keeps = g.met.S.NodeSource.keeps; store_caused = g.met.S.NodeSource.stays_caused; summer_steps = g.met.M.Summer.are_steps; summer_keeps = g.met.M.Summer.keeps; summer_caused = g.met.M.Summer.stays_caused; summer_asked = g.met.M.Summer.stays_asked; summer_gave = g.met.M.Summer.stays_given } in
    let i = g.M.Unit.Item in let s = g.S.NodeSource in let m = g.M.Summer in let s0 = c.args.store.now in let u0 = c.args.summer.now in
    let s1 = c.place_row.new.store in let s2 = c.place_row-2.new.store in let u1 = c.place_row.new.summer in let u2 = c.place_row-2.new.summer in
    let P : Child _ → Type 0 = λ d. IsSumGiven m first u2 d.sum in
    let later = laws.summer_steps.both first u0 u1 goes c.in_ok-front.ensures.ran.summer in
    let one = All-weaker (λ (d : Child _). IsSumGiven m first u1 d.sum) P (λ d h. given_later s m laws first u1 u2 c.in_ok-back.ensures.ran.summer d.sum h) c.in_ok-front.front.items (c.in_ok-front.ensures.answered first goes) in
    rw c.in_ok-add_all.ensures (All-append P c.in_ok-front.front.items c.in_ok-back.back.items one (c.in_ok-back.ensures.answered first later))
