use Rattle.std.proofs.Common.{arith, ◌≡◌, ◌+◌, ◌≤◌, ◌∙◌, ◌∷◌, [], ◌^◌, ap, sym, subst, Contains, ◌<◌, refl, ◌-◌}
use Rattle.tree_laws.specs.declared.node.Child.{Child}
use Rattle.tree_laws.specs.declared.node.Node.TheVariants.{Inner}
use Rattle.tree_laws.specs.declared.tree.Fill.TheVariants.{Below}
use Rattle.tree_laws.specs.Fitting.{IsFilled, item_count}
use Rattle.tree_laws.specs.SummerTrees.{Stands}
use Rattle.tree_laws.proofs.SummerTrees.{children_append, children_one}
use Rattle.tree_laws.proofs.SummerTrees.{child_stays, has_stays, stands_stays}
use Rattle.reduce_tree.specs.Calls.{places}
use Rattle.std.proofs.lemmas.Result.{err_from_is_err_and}
use Rattle.reduce_tree.proofs.Calls.{Laws, ran_err, extends_on, fails_on, goes_on, known_on, goes_none, on_err}
use Rattle.reduce_tree.proofs.Nodes.{count_append, count_one, filled_large, has_split, large_append, large_one, split_count, split_kind, split_large}
use Rattle.reduce_tree.proofs.Puts.{leaf_split, put_two}
use Rattle.reduce_tree.proofs.Pieces.{pieces_on, were_on, on_match, pieces_none}
use Rattle.reduce_tree.proofs.Quiet.{all_front, all_back}
use Rattle.reduce_tree.specs.Pieces.{AreAmong}
use Rattle.tree_laws.specs.Nodes.{entries}
use Rattle.tree_laws.specs.declared.tree.TreeFault.TheVariants as tree_fault
use Rattle.reduce_tree.proofs.Given.{given_on, row_on, under_on, each_split}
use Rattle.reduce_tree.specs.Given.{Given}
use Rattle.std.proofs.lemmas.List.Elements.{All-cons, All-nil}
use Rattle.reduce_tree.specs.Sums.{IsSumGiven, IsSumRead}
use Rattle.reduce_tree.proofs.Had.{given_since, given_later, had_split, node_goes, known_goes, known_fails, known_none, knew_err}
use Rattle.reduce_tree.proofs.place.place_all.Goals as goal

pub returns-then-len-le32-clause-children : goal.returns-then-len-le32-clause-children
returns-then-len-le32-clause-children g c first level items known has =
    let new = places (g.S.NodeSource.nodes c.place.new.store) in
    let full : IsFilled Below c.args.node = record { least = c.requires.least; most = omega (arith, c.len.ensures, c.if-len-le32.true) } in
    rw c.in_ok-list_of_one.ensures (children_one g.M.Unit.Item g.M.Summer first (Stands g.M.Unit.Item g.M.Summer first new level) c.in_ok-child.child items (c.in_ok-child.ensures.child first level items known full has))

pub returns-then-len-le32-clause-large : goal.returns-then-len-le32-clause-large
returns-then-len-le32-clause-large g c level kind large =
    let many = filled_large level c.args.node kind large c.requires.least in
    rw c.in_ok-list_of_one.ensures (large_one (level + 1) c.in_ok-child.child (subst (λ n. 8 ^ (level + 1) ≤ n) (sym c.in_ok-child.ensures.count) many))

pub returns-then-len-le32-clause-count : goal.returns-then-len-le32-clause-count
returns-then-len-le32-clause-count g c = rw c.in_ok-list_of_one.ensures (count_one c.in_ok-child.child ∙ c.in_ok-child.ensures.count)

pub returns-clause-children : goal.returns-clause-children
returns-clause-children g c first level items known has =
    let laws : Laws g.S.NodeSource g.M.Summer = record { store_steps = g.met.S.NodeSource.are_steps; store_keeps = g.met.S.NodeSource.keeps; store_caused = g.met.S.NodeSource.stays_caused; summer_steps = g.met.M.Summer.are_steps; summer_keeps = g.met.M.Summer.keeps; summer_caused = g.met.M.Summer.stays_caused; summer_asked = g.met.M.Summer.stays_asked; summer_gave = g.met.M.Summer.stays_given } in
    let i = g.M.Unit.Item in
    let m = g.M.Summer in
    let s0 = c.args.store.now in
    let s1 = c.place-2.new.store in
    let s2 = c.place-3.new.store in
    let u0 = c.args.summer.now in
    let u1 = c.place-2.new.summer in
    let u2 = c.place-3.new.summer in
    let old = places (g.S.NodeSource.nodes s0) in
    let mid = places (g.S.NodeSource.nodes s1) in
    let new = places (g.S.NodeSource.nodes s2) in
    let left = c.in_ok-left.left in
    let right = c.in_ok-left.right in
    let j = has_split i m first old level c.args.node left right items c.in_ok-left.ensures.split has in
    let full_left : IsFilled Below left = record { least = omega (arith, c.in_ok-left.ensures.left); most = omega (arith, c.in_ok-left.ensures.left) } in
    let full_right : IsFilled Below right = record { least = omega (arith, c.in_ok-left.ensures.left, c.in_ok-left.ensures.right); most = omega (arith, c.in_ok-left.ensures.left, c.in_ok-left.ensures.right) } in
    let done = c.in_ok-first.ensures.child first level j.front known full_left j.at_front in
    let at_right = has_stays i m first old mid (extends_on g.M.Unit.Item g.S.NodeSource g.M.Summer laws s0 s1 u0 u1 c.in_ok-first.ensures.ran) level right j.back j.at_back in
    let second = c.in_ok-second.ensures.child first level j.back (known_on g.M.Unit.Item g.S.NodeSource g.M.Summer laws first s0 s1 u0 u1 known c.in_ok-first.ensures.ran) full_right at_right in
    let first_now = child_stays i m first (Stands i m first mid level) (Stands i m first new level) (stands_stays i m first mid new (extends_on g.M.Unit.Item g.S.NodeSource g.M.Summer laws s1 s2 u1 u2 c.in_ok-second.ensures.ran) level) c.in_ok-first.first j.front done in
    rw (c.in_ok-list_of_two.ensures, j.whole)
    (children_append i m first (Stands i m first new level) (c.in_ok-first.first ∷ []) (c.in_ok-second.second ∷ []) j.front j.back
    (children_one i m first (Stands i m first new level) c.in_ok-first.first j.front first_now)
    (children_one i m first (Stands i m first new level) c.in_ok-second.second j.back second))

pub returns-clause-large : goal.returns-clause-large
returns-clause-large g c level kind large =
    let left = c.in_ok-left.left in
    let right = c.in_ok-left.right in
    let k = split_kind level c.args.node left right c.in_ok-left.ensures.split kind in
    let l = split_large level c.args.node left right c.in_ok-left.ensures.split large in
    let one = filled_large level left k.0 l.0 (omega (arith, c.in_ok-left.ensures.left)) in
    let two = filled_large level right k.1 l.1 (omega (arith, c.in_ok-left.ensures.left, c.in_ok-left.ensures.right)) in
    rw c.in_ok-list_of_two.ensures (large_append (level + 1) (c.in_ok-first.first ∷ []) (c.in_ok-second.second ∷ [])
    (large_one (level + 1) c.in_ok-first.first (subst (λ n. 8 ^ (level + 1) ≤ n) (sym c.in_ok-first.ensures.count) one))
    (large_one (level + 1) c.in_ok-second.second (subst (λ n. 8 ^ (level + 1) ≤ n) (sym c.in_ok-second.ensures.count) two)))

pub returns-clause-count : goal.returns-clause-count
returns-clause-count g c =
    let s = split_count c.args.node c.in_ok-left.left c.in_ok-left.right c.in_ok-left.ensures.split in
    let a : item_count (Inner c.in_ok-list_of_two.field-0.items) ≡ item_count (Inner (c.in_ok-first.first ∷ [])) + item_count (Inner (c.in_ok-second.second ∷ [])) =
    ap (λ cs. item_count (Inner cs)) c.in_ok-list_of_two.ensures ∙ count_append (c.in_ok-first.first ∷ []) (c.in_ok-second.second ∷ []) in
    omega (arith, s, a, count_one c.in_ok-first.first, count_one c.in_ok-second.second, c.in_ok-first.ensures.count, c.in_ok-second.ensures.count)

pub returns-clause-ran : goal.returns-clause-ran
returns-clause-ran g c =
    let laws : Laws g.S.NodeSource g.M.Summer = record { store_steps = g.met.S.NodeSource.are_steps; store_keeps = g.met.S.NodeSource.keeps; store_caused = g.met.S.NodeSource.stays_caused; summer_steps = g.met.M.Summer.are_steps; summer_keeps = g.met.M.Summer.keeps; summer_caused = g.met.M.Summer.stays_caused; summer_asked = g.met.M.Summer.stays_asked; summer_gave = g.met.M.Summer.stays_given } in
    goes_on g.M.Unit.Item g.S.NodeSource g.M.Summer laws c.args.store.now c.place-2.new.store c.place-3.new.store c.args.summer.now c.place-2.new.summer c.place-3.new.summer c.in_ok-first.ensures.ran c.in_ok-second.ensures.ran

pub returns-in_err-second-clause-ran : goal.returns-in_err-second-clause-ran
returns-in_err-second-clause-ran g c =
    let laws : Laws g.S.NodeSource g.M.Summer = record { store_steps = g.met.S.NodeSource.are_steps; store_keeps = g.met.S.NodeSource.keeps; store_caused = g.met.S.NodeSource.stays_caused; summer_steps = g.met.M.Summer.are_steps; summer_keeps = g.met.M.Summer.keeps; summer_caused = g.met.M.Summer.stays_caused; summer_asked = g.met.M.Summer.stays_asked; summer_gave = g.met.M.Summer.stays_given } in
    let p = err_from_is_err_and c.from_residual-in_err-second.result c.from_residual-in_err-second.ensures.1 in
    ran_err g.M.Unit.Item g.S.NodeSource g.M.Summer laws _ _ _ _ c.from_residual-in_err-second.result c.in_err-second.field-0.0 p.0 p.2 p.1 (fails_on g.M.Unit.Item g.S.NodeSource g.M.Summer laws c.args.store.now c.place-2.new.store c.place-3.new.store c.args.summer.now c.place-2.new.summer c.place-3.new.summer c.in_ok-first.ensures.ran _ c.in_err-second.ensures.ran)

pub returns-clause-leaf : goal.returns-clause-leaf
returns-clause-leaf g c =
    let s = leaf_split c.args.node c.in_ok-left.left c.in_ok-left.right c.in_ok-left.ensures.split in
    put_two c.in_ok-first.ensures.leaf c.in_ok-second.ensures.leaf (omega arith) (omega arith) (omega arith) (λ u. u)
    (λ u. g.met.M.Summer.keeps.usable c.args.summer.now c.place-2.new.summer c.in_ok-first.ensures.ran.summer u) (omega (arith, s))

pub returns-then-len-le32-clause-pieces : goal.returns-then-len-le32-clause-pieces
returns-then-len-le32-clause-pieces g c first level items among known has all =
    let full : IsFilled Below c.args.node = record { least = c.requires.least; most = omega (arith, c.len.ensures, c.if-len-le32.true) } in
    c.in_ok-child.ensures.pieces first level Below items among known full has all

pub returns-clause-pieces : goal.returns-clause-pieces
returns-clause-pieces g c first level items among known has all =
    let laws : Laws g.S.NodeSource g.M.Summer = record { store_steps = g.met.S.NodeSource.are_steps; store_keeps = g.met.S.NodeSource.keeps; store_caused = g.met.S.NodeSource.stays_caused; summer_steps = g.met.M.Summer.are_steps; summer_keeps = g.met.M.Summer.keeps; summer_caused = g.met.M.Summer.stays_caused; summer_asked = g.met.M.Summer.stays_asked; summer_gave = g.met.M.Summer.stays_given } in
    let i = g.M.Unit.Item in
    let m = g.M.Summer in
    let s0 = c.args.store.now in
    let s1 = c.place-2.new.store in
    let s2 = c.place-3.new.store in
    let u0 = c.args.summer.now in
    let u1 = c.place-2.new.summer in
    let u2 = c.place-3.new.summer in
    let old = places (g.S.NodeSource.nodes s0) in
    let mid = places (g.S.NodeSource.nodes s1) in
    let new = places (g.S.NodeSource.nodes s2) in
    let left = c.in_ok-left.left in
    let right = c.in_ok-left.right in
    let j = has_split i m first old level c.args.node left right items c.in_ok-left.ensures.split has in
    let full_left : IsFilled Below left = record { least = omega (arith, c.in_ok-left.ensures.left); most = omega (arith, c.in_ok-left.ensures.left) } in
    let full_right : IsFilled Below right = record { least = omega (arith, c.in_ok-left.ensures.left, c.in_ok-left.ensures.right); most = omega (arith, c.in_ok-left.ensures.left, c.in_ok-left.ensures.right) } in
    let parts = subst (AreAmong among) j.whole all in
    let e12 = extends_on g.M.Unit.Item g.S.NodeSource g.M.Summer laws s1 s2 u1 u2 c.in_ok-second.ensures.ran in
    let at_right = has_stays i m first old mid (extends_on g.M.Unit.Item g.S.NodeSource g.M.Summer laws s0 s1 u0 u1 c.in_ok-first.ensures.ran) level right j.back j.at_back in
    let done = c.in_ok-first.ensures.pieces first level Below j.front among known full_left j.at_front (all_front (Contains among) j.front j.back parts) in
    let second = c.in_ok-second.ensures.pieces first level Below j.back among (known_on g.M.Unit.Item g.S.NodeSource g.M.Summer laws first s0 s1 u0 u1 known c.in_ok-first.ensures.ran) full_right at_right (all_back (Contains among) j.front j.back parts) in
    pieces_on i m first among mid new e12 Below (g.S.NodeSource.puts s0) (g.S.NodeSource.puts s1) (g.S.NodeSource.puts s2) done second

pub returns-in_err-list_of_one-clause-ran : goal.returns-in_err-list_of_one-clause-ran
returns-in_err-list_of_one-clause-ran g c =
    let laws : Laws g.S.NodeSource g.M.Summer = record { store_steps = g.met.S.NodeSource.are_steps; store_keeps = g.met.S.NodeSource.keeps; store_caused = g.met.S.NodeSource.stays_caused; summer_steps = g.met.M.Summer.are_steps; summer_keeps = g.met.M.Summer.keeps; summer_caused = g.met.M.Summer.stays_caused; summer_asked = g.met.M.Summer.stays_asked; summer_gave = g.met.M.Summer.stays_given } in
    let p = err_from_is_err_and c.from_residual-in_err-list_of_one.result c.from_residual-in_err-list_of_one.ensures.1 in
    ran_err g.M.Unit.Item g.S.NodeSource g.M.Summer laws _ _ _ _ c.from_residual-in_err-list_of_one.result tree_fault.NoMemory p.0 p.2 p.1 (c.in_ok-child.ensures.ran)

pub returns-in_err-left-clause-ran : goal.returns-in_err-left-clause-ran
returns-in_err-left-clause-ran g c =
    let laws : Laws g.S.NodeSource g.M.Summer = record { store_steps = g.met.S.NodeSource.are_steps; store_keeps = g.met.S.NodeSource.keeps; store_caused = g.met.S.NodeSource.stays_caused; summer_steps = g.met.M.Summer.are_steps; summer_keeps = g.met.M.Summer.keeps; summer_caused = g.met.M.Summer.stays_caused; summer_asked = g.met.M.Summer.stays_asked; summer_gave = g.met.M.Summer.stays_given } in
    let p = err_from_is_err_and c.from_residual-in_err-left.result c.from_residual-in_err-left.ensures.1 in
    ran_err g.M.Unit.Item g.S.NodeSource g.M.Summer laws _ _ _ _ c.from_residual-in_err-left.result tree_fault.NoMemory p.0 p.2 p.1 (goes_none g.M.Unit.Item g.S.NodeSource g.M.Summer laws c.args.store.now c.args.summer.now)

pub returns-in_err-list_of_two-clause-ran : goal.returns-in_err-list_of_two-clause-ran
returns-in_err-list_of_two-clause-ran g c =
    let laws : Laws g.S.NodeSource g.M.Summer = record { store_steps = g.met.S.NodeSource.are_steps; store_keeps = g.met.S.NodeSource.keeps; store_caused = g.met.S.NodeSource.stays_caused; summer_steps = g.met.M.Summer.are_steps; summer_keeps = g.met.M.Summer.keeps; summer_caused = g.met.M.Summer.stays_caused; summer_asked = g.met.M.Summer.stays_asked; summer_gave = g.met.M.Summer.stays_given } in
    let p = err_from_is_err_and c.from_residual-in_err-list_of_two.result c.from_residual-in_err-list_of_two.ensures.1 in
    ran_err g.M.Unit.Item g.S.NodeSource g.M.Summer laws _ _ _ _ c.from_residual-in_err-list_of_two.result tree_fault.NoMemory p.0 p.2 p.1 (goes_on g.M.Unit.Item g.S.NodeSource g.M.Summer laws c.args.store.now c.place-2.new.store c.place-3.new.store c.args.summer.now c.place-2.new.summer c.place-3.new.summer c.in_ok-first.ensures.ran c.in_ok-second.ensures.ran)

pub returns-in_err-child-clause-spent : goal.returns-in_err-child-clause-spent
returns-in_err-child-clause-spent g c =
    let k = c.in_err-child.ensures.spent in
    on_err c.from_residual.result _ (record { steps = let s = k.steps in omega (arith, s); puts = let s = k.puts in omega (arith, s) })

pub returns-in_err-list_of_one-clause-spent : goal.returns-in_err-list_of_one-clause-spent
returns-in_err-list_of_one-clause-spent g c =
    let k = c.in_ok-child.ensures in
    on_err c.from_residual-in_err-list_of_one.result _ (record { steps = omega (arith, k.steps); puts = omega (arith, k.steps, k.puts) })

pub returns-in_err-left-clause-spent : goal.returns-in_err-left-clause-spent
returns-in_err-left-clause-spent g c =
    on_err c.from_residual-in_err-left.result _ (record { steps = omega arith; puts = omega arith })

pub returns-in_err-first-clause-spent : goal.returns-in_err-first-clause-spent
returns-in_err-first-clause-spent g c =
    let k = c.in_err-first.ensures.spent in
    on_err c.from_residual-in_err-first.result _ (record { steps = let s = k.steps in omega (arith, s); puts = let s = k.puts in omega (arith, s) })

pub returns-in_err-second-clause-spent : goal.returns-in_err-second-clause-spent
returns-in_err-second-clause-spent g c =
    let k = c.in_err-second.ensures.spent in
    let a = c.in_ok-first.ensures in
    let more : 32 < entries c.args.node = omega (arith, c.len.ensures, c.if-len-le32.false) in
    on_err c.from_residual-in_err-second.result _ (record { steps = let s = k.steps in omega (arith, s, a.steps, more); puts = let s = k.puts in omega (arith, s, a.steps, a.puts, more) })

pub returns-in_err-list_of_two-clause-spent : goal.returns-in_err-list_of_two-clause-spent
returns-in_err-list_of_two-clause-spent g c =
    let a = c.in_ok-first.ensures in
    let b = c.in_ok-second.ensures in
    let more : 32 < entries c.args.node = omega (arith, c.len.ensures, c.if-len-le32.false) in
    on_err c.from_residual-in_err-list_of_two.result _ (record { steps = omega (arith, a.steps, b.steps, more); puts = omega (arith, a.steps, a.puts, b.steps, b.puts, more) })

pub returns-in_err-child-clause-pieces : goal.returns-in_err-child-clause-pieces
returns-in_err-child-clause-pieces g c first level items among known has all =
    let full : IsFilled Below c.args.node = record { least = c.requires.least; most = omega (arith, c.len.ensures, c.if-len-le32.true) } in
    let p = err_from_is_err_and c.from_residual.result c.from_residual.ensures.1 in
    on_match c.from_residual.result _ _ _ p.0 p.2 p.1 (c.in_err-child.ensures.pieces first level Below items among known full has all)

pub returns-in_err-list_of_one-clause-pieces : goal.returns-in_err-list_of_one-clause-pieces
returns-in_err-list_of_one-clause-pieces g c first level items among known has all =
    let laws : Laws g.S.NodeSource g.M.Summer = record { store_steps = g.met.S.NodeSource.are_steps; store_keeps = g.met.S.NodeSource.keeps; store_caused = g.met.S.NodeSource.stays_caused; summer_steps = g.met.M.Summer.are_steps; summer_keeps = g.met.M.Summer.keeps; summer_caused = g.met.M.Summer.stays_caused; summer_asked = g.met.M.Summer.stays_asked; summer_gave = g.met.M.Summer.stays_given } in
    let full : IsFilled Below c.args.node = record { least = c.requires.least; most = omega (arith, c.len.ensures, c.if-len-le32.true) } in
    let p = err_from_is_err_and c.from_residual-in_err-list_of_one.result c.from_residual-in_err-list_of_one.ensures.1 in
    on_match c.from_residual-in_err-list_of_one.result _ _ tree_fault.NoMemory p.0 p.2 p.1 (c.in_ok-child.ensures.pieces first level Below items among known full has all)

pub returns-in_err-left-clause-pieces : goal.returns-in_err-left-clause-pieces
returns-in_err-left-clause-pieces g c first level items among known has all =
    let p = err_from_is_err_and c.from_residual-in_err-left.result c.from_residual-in_err-left.ensures.1 in
    on_match c.from_residual-in_err-left.result _ _ tree_fault.NoMemory p.0 p.2 p.1 (pieces_none g.M.Unit.Item g.M.Summer first among (places (g.S.NodeSource.nodes c.args.store.now)) Below (g.S.NodeSource.puts c.args.store.now) (g.S.NodeSource.puts c.args.store.now) refl)

pub returns-in_err-first-clause-pieces : goal.returns-in_err-first-clause-pieces
returns-in_err-first-clause-pieces g c first level items among known has all =
    let i = g.M.Unit.Item in
    let m = g.M.Summer in
    let s0 = c.args.store.now in
    let old = places (g.S.NodeSource.nodes s0) in
    let left = c.in_ok-left.left in
    let right = c.in_ok-left.right in
    let j = has_split i m first old level c.args.node left right items c.in_ok-left.ensures.split has in
    let full_left : IsFilled Below left = record { least = omega (arith, c.in_ok-left.ensures.left); most = omega (arith, c.in_ok-left.ensures.left) } in
    let parts = subst (AreAmong among) j.whole all in
    let p = err_from_is_err_and c.from_residual-in_err-first.result c.from_residual-in_err-first.ensures.1 in
    on_match c.from_residual-in_err-first.result _ _ _ p.0 p.2 p.1
    (c.in_err-first.ensures.pieces first level Below j.front among known full_left j.at_front (all_front (Contains among) j.front j.back parts))

pub returns-in_err-second-clause-pieces : goal.returns-in_err-second-clause-pieces
returns-in_err-second-clause-pieces g c first level items among known has all =
    let laws : Laws g.S.NodeSource g.M.Summer = record { store_steps = g.met.S.NodeSource.are_steps; store_keeps = g.met.S.NodeSource.keeps; store_caused = g.met.S.NodeSource.stays_caused; summer_steps = g.met.M.Summer.are_steps; summer_keeps = g.met.M.Summer.keeps; summer_caused = g.met.M.Summer.stays_caused; summer_asked = g.met.M.Summer.stays_asked; summer_gave = g.met.M.Summer.stays_given } in
    let i = g.M.Unit.Item in
    let m = g.M.Summer in
    let s0 = c.args.store.now in
    let s1 = c.place-2.new.store in
    let s2 = c.place-3.new.store in
    let u0 = c.args.summer.now in
    let u1 = c.place-2.new.summer in
    let old = places (g.S.NodeSource.nodes s0) in
    let mid = places (g.S.NodeSource.nodes s1) in
    let left = c.in_ok-left.left in
    let right = c.in_ok-left.right in
    let j = has_split i m first old level c.args.node left right items c.in_ok-left.ensures.split has in
    let full_left : IsFilled Below left = record { least = omega (arith, c.in_ok-left.ensures.left); most = omega (arith, c.in_ok-left.ensures.left) } in
    let full_right : IsFilled Below right = record { least = omega (arith, c.in_ok-left.ensures.left, c.in_ok-left.ensures.right); most = omega (arith, c.in_ok-left.ensures.left, c.in_ok-left.ensures.right) } in
    let parts = subst (AreAmong among) j.whole all in
    let at_right = has_stays i m first old mid (extends_on g.M.Unit.Item g.S.NodeSource g.M.Summer laws s0 s1 u0 u1 c.in_ok-first.ensures.ran) level right j.back j.at_back in
    let done = c.in_ok-first.ensures.pieces first level Below j.front among known full_left j.at_front (all_front (Contains among) j.front j.back parts) in
    let known1 = known_on g.M.Unit.Item g.S.NodeSource g.M.Summer laws first s0 s1 u0 u1 known c.in_ok-first.ensures.ran in
    let p = err_from_is_err_and c.from_residual-in_err-second.result c.from_residual-in_err-second.ensures.1 in
    on_match c.from_residual-in_err-second.result _ _ _ p.0 p.2 p.1
    (were_on i g.S.NodeSource m laws first among s0 s1 s2 u0 u1 c.place-3.new.summer c.in_ok-first.ensures.ran done c.in_err-second.field-0.0 c.in_err-second.ensures.ran (c.in_err-second.ensures.pieces first level Below j.back among known1 full_right at_right (all_back (Contains among) j.front j.back parts)))

pub returns-in_err-list_of_two-clause-pieces : goal.returns-in_err-list_of_two-clause-pieces
returns-in_err-list_of_two-clause-pieces g c first level items among known has all =
    let laws : Laws g.S.NodeSource g.M.Summer = record { store_steps = g.met.S.NodeSource.are_steps; store_keeps = g.met.S.NodeSource.keeps; store_caused = g.met.S.NodeSource.stays_caused; summer_steps = g.met.M.Summer.are_steps; summer_keeps = g.met.M.Summer.keeps; summer_caused = g.met.M.Summer.stays_caused; summer_asked = g.met.M.Summer.stays_asked; summer_gave = g.met.M.Summer.stays_given } in
    let i = g.M.Unit.Item in
    let m = g.M.Summer in
    let s0 = c.args.store.now in
    let s1 = c.place-2.new.store in
    let s2 = c.place-3.new.store in
    let u0 = c.args.summer.now in
    let u1 = c.place-2.new.summer in
    let u2 = c.place-3.new.summer in
    let old = places (g.S.NodeSource.nodes s0) in
    let mid = places (g.S.NodeSource.nodes s1) in
    let new = places (g.S.NodeSource.nodes s2) in
    let left = c.in_ok-left.left in
    let right = c.in_ok-left.right in
    let j = has_split i m first old level c.args.node left right items c.in_ok-left.ensures.split has in
    let full_left : IsFilled Below left = record { least = omega (arith, c.in_ok-left.ensures.left); most = omega (arith, c.in_ok-left.ensures.left) } in
    let full_right : IsFilled Below right = record { least = omega (arith, c.in_ok-left.ensures.left, c.in_ok-left.ensures.right); most = omega (arith, c.in_ok-left.ensures.left, c.in_ok-left.ensures.right) } in
    let parts = subst (AreAmong among) j.whole all in
    let e12 = extends_on g.M.Unit.Item g.S.NodeSource g.M.Summer laws s1 s2 u1 u2 c.in_ok-second.ensures.ran in
    let at_right = has_stays i m first old mid (extends_on g.M.Unit.Item g.S.NodeSource g.M.Summer laws s0 s1 u0 u1 c.in_ok-first.ensures.ran) level right j.back j.at_back in
    let done = c.in_ok-first.ensures.pieces first level Below j.front among known full_left j.at_front (all_front (Contains among) j.front j.back parts) in
    let second = c.in_ok-second.ensures.pieces first level Below j.back among (known_on g.M.Unit.Item g.S.NodeSource g.M.Summer laws first s0 s1 u0 u1 known c.in_ok-first.ensures.ran) full_right at_right (all_back (Contains among) j.front j.back parts) in
    let p = err_from_is_err_and c.from_residual-in_err-list_of_two.result c.from_residual-in_err-list_of_two.ensures.1 in
    on_match c.from_residual-in_err-list_of_two.result _ _ tree_fault.NoMemory p.0 p.2 p.1
    (pieces_on i m first among mid new e12 Below (g.S.NodeSource.puts s0) (g.S.NodeSource.puts s1) (g.S.NodeSource.puts s2) done second)

pub returns-then-len-le32-clause-given : goal.returns-then-len-le32-clause-given
returns-then-len-le32-clause-given g c first tree pieces level under kind large given =
    let i = g.M.Unit.Item in let s = g.S.NodeSource in let m = g.M.Summer in let s0 = c.args.store.now in let u0 = c.args.summer.now in
    let full : IsFilled Below c.args.node = record { least = c.requires.least; most = omega (arith, c.len.ensures, c.if-len-le32.true) } in
    let P = Given i s m first tree pieces c.place.new.store level in
    rw c.in_ok-list_of_one.ensures (All-cons P c.in_ok-child.child [] (c.in_ok-child.ensures.given first tree pieces level under kind large full given) (All-nil P))

pub returns-clause-given : goal.returns-clause-given
returns-clause-given g c first tree pieces level under kind large given =
    let laws : Laws g.S.NodeSource g.M.Summer = record { store_steps = g.met.S.NodeSource.are_steps; store_keeps = g.met.S.NodeSource.keeps; store_caused = g.met.S.NodeSource.stays_caused; summer_steps = g.met.M.Summer.are_steps; summer_keeps = g.met.M.Summer.keeps; summer_caused = g.met.M.Summer.stays_caused; summer_asked = g.met.M.Summer.stays_asked; summer_gave = g.met.M.Summer.stays_given } in
    let i = g.M.Unit.Item in let s = g.S.NodeSource in let m = g.M.Summer in let s0 = c.args.store.now in let u0 = c.args.summer.now in
    let s1 = c.place-2.new.store in let s2 = c.place-3.new.store in let u1 = c.place-2.new.summer in let u2 = c.place-3.new.summer in
    let left = c.in_ok-left.left in let right = c.in_ok-left.right in
    let split = c.in_ok-left.ensures.split in
    let k = split_kind level c.args.node left right split kind in
    let l = split_large level c.args.node left right split large in
    let full_left : IsFilled Below left = record { least = omega (arith, c.in_ok-left.ensures.left); most = omega (arith, c.in_ok-left.ensures.left) } in
    let full_right : IsFilled Below right = record { least = omega (arith, c.in_ok-left.ensures.left, c.in_ok-left.ensures.right); most = omega (arith, c.in_ok-left.ensures.left, c.in_ok-left.ensures.right) } in
    let halves = each_split (Given i s m first tree pieces s0 (level - 1)) c.args.node left right split given in
    let ran = c.in_ok-first.ensures.ran in
    let one = c.in_ok-first.ensures.given first tree pieces level under k.0 l.0 full_left halves.0 in
    let two = c.in_ok-second.ensures.given first tree pieces level (under_on i s m laws first tree pieces s0 s1 u0 u1 under ran) k.1 l.1 full_right (row_on i s m laws first tree pieces s0 s1 u0 u1 ran level right halves.1) in
    let P = Given i s m first tree pieces s2 level in
    let one_now = given_on i s m laws first tree pieces s1 s2 u1 u2 c.in_ok-second.ensures.ran level c.in_ok-first.first one in
    rw c.in_ok-list_of_two.ensures (All-cons P c.in_ok-first.first (c.in_ok-second.second ∷ []) one_now (All-cons P c.in_ok-second.second [] two (All-nil P)))

pub returns-in_err-child-clause-sums : goal.returns-in_err-child-clause-sums
returns-in_err-child-clause-sums g c first begun knows =
    let p = err_from_is_err_and c.from_residual.result c.from_residual.ensures.1 in
    knew_err g.M.Unit.Item g.S.NodeSource g.M.Summer first begun _ _ _ c.from_residual.result c.in_err-child.field-0.0 p.0 p.2 p.1 (c.in_err-child.ensures.sums first begun knows)

pub returns-in_err-list_of_one-clause-sums : goal.returns-in_err-list_of_one-clause-sums
returns-in_err-list_of_one-clause-sums g c first begun knows =
    let p = err_from_is_err_and c.from_residual-in_err-list_of_one.result c.from_residual-in_err-list_of_one.ensures.1 in
    knew_err g.M.Unit.Item g.S.NodeSource g.M.Summer first begun _ _ _ c.from_residual-in_err-list_of_one.result tree_fault.NoMemory p.0 p.2 p.1 (c.in_ok-child.ensures.sums first begun knows)

pub returns-then-len-le32-clause-sums : goal.returns-then-len-le32-clause-sums
returns-then-len-le32-clause-sums g c first begun knows = c.in_ok-child.ensures.sums first begun knows

pub returns-in_err-left-clause-sums : goal.returns-in_err-left-clause-sums
returns-in_err-left-clause-sums g c first begun knows =
    let p = err_from_is_err_and c.from_residual-in_err-left.result c.from_residual-in_err-left.ensures.1 in
    knew_err g.M.Unit.Item g.S.NodeSource g.M.Summer first begun _ _ _ c.from_residual-in_err-left.result tree_fault.NoMemory p.0 p.2 p.1 (known_none g.M.Unit.Item g.S.NodeSource g.M.Summer first begun c.args.summer.now c.args.store.now c.args.store.now refl)

pub returns-in_err-first-clause-sums : goal.returns-in_err-first-clause-sums
returns-in_err-first-clause-sums g c first begun knows =
    let laws : Laws g.S.NodeSource g.M.Summer = record { store_steps = g.met.S.NodeSource.are_steps; store_keeps = g.met.S.NodeSource.keeps; store_caused = g.met.S.NodeSource.stays_caused; summer_steps = g.met.M.Summer.are_steps; summer_keeps = g.met.M.Summer.keeps; summer_caused = g.met.M.Summer.stays_caused; summer_asked = g.met.M.Summer.stays_asked; summer_gave = g.met.M.Summer.stays_given } in
    let i = g.M.Unit.Item in let s = g.S.NodeSource in let m = g.M.Summer in let s0 = c.args.store.now in let u0 = c.args.summer.now in
    let halves = had_split i m (IsSumRead i s begun s0) first u0 c.args.node c.in_ok-left.left c.in_ok-left.right c.in_ok-left.ensures.split knows in
    let p = err_from_is_err_and c.from_residual-in_err-first.result c.from_residual-in_err-first.ensures.1 in
    knew_err i s m first begun _ _ _ c.from_residual-in_err-first.result c.in_err-first.field-0.0 p.0 p.2 p.1 (c.in_err-first.ensures.sums first begun halves.0)

pub returns-in_err-second-clause-sums : goal.returns-in_err-second-clause-sums
returns-in_err-second-clause-sums g c first begun knows =
    let laws : Laws g.S.NodeSource g.M.Summer = record { store_steps = g.met.S.NodeSource.are_steps; store_keeps = g.met.S.NodeSource.keeps; store_caused = g.met.S.NodeSource.stays_caused; summer_steps = g.met.M.Summer.are_steps; summer_keeps = g.met.M.Summer.keeps; summer_caused = g.met.M.Summer.stays_caused; summer_asked = g.met.M.Summer.stays_asked; summer_gave = g.met.M.Summer.stays_given } in
    let i = g.M.Unit.Item in let s = g.S.NodeSource in let m = g.M.Summer in let s0 = c.args.store.now in let u0 = c.args.summer.now in
    let s1 = c.place-2.new.store in let s2 = c.place-3.new.store in let u1 = c.place-2.new.summer in let u2 = c.place-3.new.summer in
    let halves = had_split i m (IsSumRead i s begun s0) first u0 c.args.node c.in_ok-left.left c.in_ok-left.right c.in_ok-left.ensures.split knows in
    let one = c.in_ok-first.ensures.sums first begun halves.0 in
    let right = node_goes i s m laws first begun s0 s1 u0 u1 c.in_ok-first.ensures.ran c.in_ok-left.right halves.1 in
    let p = err_from_is_err_and c.from_residual-in_err-second.result c.from_residual-in_err-second.ensures.1 in
    knew_err i s m first begun _ _ _ c.from_residual-in_err-second.result c.in_err-second.field-0.0 p.0 p.2 p.1 (known_fails i s m laws first begun s0 s1 s2 u1 u2 c.in_err-second.field-0.0 c.in_err-second.ensures.ran one (c.in_err-second.ensures.sums first begun right))

pub returns-in_err-list_of_two-clause-sums : goal.returns-in_err-list_of_two-clause-sums
returns-in_err-list_of_two-clause-sums g c first begun knows =
    let laws : Laws g.S.NodeSource g.M.Summer = record { store_steps = g.met.S.NodeSource.are_steps; store_keeps = g.met.S.NodeSource.keeps; store_caused = g.met.S.NodeSource.stays_caused; summer_steps = g.met.M.Summer.are_steps; summer_keeps = g.met.M.Summer.keeps; summer_caused = g.met.M.Summer.stays_caused; summer_asked = g.met.M.Summer.stays_asked; summer_gave = g.met.M.Summer.stays_given } in
    let i = g.M.Unit.Item in let s = g.S.NodeSource in let m = g.M.Summer in let s0 = c.args.store.now in let u0 = c.args.summer.now in
    let s1 = c.place-2.new.store in let s2 = c.place-3.new.store in let u1 = c.place-2.new.summer in let u2 = c.place-3.new.summer in
    let halves = had_split i m (IsSumRead i s begun s0) first u0 c.args.node c.in_ok-left.left c.in_ok-left.right c.in_ok-left.ensures.split knows in
    let one = c.in_ok-first.ensures.sums first begun halves.0 in
    let right = node_goes i s m laws first begun s0 s1 u0 u1 c.in_ok-first.ensures.ran c.in_ok-left.right halves.1 in
    let p = err_from_is_err_and c.from_residual-in_err-list_of_two.result c.from_residual-in_err-list_of_two.ensures.1 in
    knew_err i s m first begun _ _ _ c.from_residual-in_err-list_of_two.result tree_fault.NoMemory p.0 p.2 p.1 (known_goes i s m laws first begun s0 s1 s2 u1 u2 c.in_ok-second.ensures.ran one (c.in_ok-second.ensures.sums first begun right))

pub returns-clause-sums : goal.returns-clause-sums
returns-clause-sums g c first begun knows =
    let laws : Laws g.S.NodeSource g.M.Summer = record { store_steps = g.met.S.NodeSource.are_steps; store_keeps = g.met.S.NodeSource.keeps; store_caused = g.met.S.NodeSource.stays_caused; summer_steps = g.met.M.Summer.are_steps; summer_keeps = g.met.M.Summer.keeps; summer_caused = g.met.M.Summer.stays_caused; summer_asked = g.met.M.Summer.stays_asked; summer_gave = g.met.M.Summer.stays_given } in
    let i = g.M.Unit.Item in let s = g.S.NodeSource in let m = g.M.Summer in let s0 = c.args.store.now in let u0 = c.args.summer.now in
    let s1 = c.place-2.new.store in let s2 = c.place-3.new.store in let u1 = c.place-2.new.summer in let u2 = c.place-3.new.summer in
    let halves = had_split i m (IsSumRead i s begun s0) first u0 c.args.node c.in_ok-left.left c.in_ok-left.right c.in_ok-left.ensures.split knows in
    let one = c.in_ok-first.ensures.sums first begun halves.0 in
    let right = node_goes i s m laws first begun s0 s1 u0 u1 c.in_ok-first.ensures.ran c.in_ok-left.right halves.1 in
    known_goes i s m laws first begun s0 s1 s2 u1 u2 c.in_ok-second.ensures.ran one (c.in_ok-second.ensures.sums first begun right)

pub returns-then-len-le32-clause-answered : goal.returns-then-len-le32-clause-answered
returns-then-len-le32-clause-answered g c first goes =
    let laws : Laws g.S.NodeSource g.M.Summer = record { store_steps = g.met.S.NodeSource.are_steps; store_keeps = g.met.S.NodeSource.keeps; store_caused = g.met.S.NodeSource.stays_caused; summer_steps = g.met.M.Summer.are_steps; summer_keeps = g.met.M.Summer.keeps; summer_caused = g.met.M.Summer.stays_caused; summer_asked = g.met.M.Summer.stays_asked; summer_gave = g.met.M.Summer.stays_given } in
    let i = g.M.Unit.Item in let s = g.S.NodeSource in let m = g.M.Summer in let s0 = c.args.store.now in let u0 = c.args.summer.now in
    let u1 = c.place.new.summer in
    let P : Child _ → Type 0 = λ d. IsSumGiven m first u1 d.sum in
    rw c.in_ok-list_of_one.ensures (All-cons P c.in_ok-child.child [] (given_since s m laws first u0 u1 goes c.in_ok-child.child.sum c.in_ok-child.ensures.gave) (All-nil P))

pub returns-clause-answered : goal.returns-clause-answered
returns-clause-answered g c first goes =
    let laws : Laws g.S.NodeSource g.M.Summer = record { store_steps = g.met.S.NodeSource.are_steps; store_keeps = g.met.S.NodeSource.keeps; store_caused = g.met.S.NodeSource.stays_caused; summer_steps = g.met.M.Summer.are_steps; summer_keeps = g.met.M.Summer.keeps; summer_caused = g.met.M.Summer.stays_caused; summer_asked = g.met.M.Summer.stays_asked; summer_gave = g.met.M.Summer.stays_given } in
    let i = g.M.Unit.Item in let s = g.S.NodeSource in let m = g.M.Summer in let s0 = c.args.store.now in let u0 = c.args.summer.now in
    let s1 = c.place-2.new.store in let s2 = c.place-3.new.store in let u1 = c.place-2.new.summer in let u2 = c.place-3.new.summer in
    let P : Child _ → Type 0 = λ d. IsSumGiven m first u2 d.sum in
    let later = laws.summer_steps.both first u0 u1 goes c.in_ok-first.ensures.ran.summer in
    let one = given_later s m laws first u1 u2 c.in_ok-second.ensures.ran.summer c.in_ok-first.first.sum (given_since s m laws first u0 u1 goes c.in_ok-first.first.sum c.in_ok-first.ensures.gave) in
    let two = given_since s m laws first u1 u2 later c.in_ok-second.second.sum c.in_ok-second.ensures.gave in
    rw c.in_ok-list_of_two.ensures (All-cons P c.in_ok-first.first (c.in_ok-second.second ∷ []) one (All-cons P c.in_ok-second.second [] two (All-nil P)))
