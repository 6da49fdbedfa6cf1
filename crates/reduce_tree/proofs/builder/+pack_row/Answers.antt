use Rattle.std.proofs.Common.{Contains, rules, arith, inl, inr, ◌≡◌, ◌+◌, ◌<◌, ◌≤◌, ◌∙◌, ◌∷◌, [], ◌^◌, ap, sym, subst, length}
use Rattle.std.proofs.lemmas.Bool.{cases_lt}
use Rattle.std.proofs.lemmas.List.Elements.{All-cons, All-nil}
use Rattle.tree_laws.specs.declared.node.Child.{Child}
use Rattle.tree_laws.specs.declared.node.Node.TheVariants.{Inner}
use Rattle.tree_laws.specs.declared.tree.Fill.TheVariants.{Below}
use Rattle.tree_laws.specs.declared.tree.TreeFault.TheVariants as tree_fault
use Rattle.tree_laws.specs.Fitting.{IsFilled, item_count}
use Rattle.tree_laws.specs.Nodes.{entries, spelled_node}
use Rattle.tree_laws.specs.Stores.{pieces_size}
use Rattle.tree_laws.specs.SummerTrees.{Stands}
use Rattle.tree_laws.proofs.SummerTrees.{children_append, children_one}
use Rattle.tree_laws.proofs.SummerTrees.{child_stays, has_stays, stands_stays}
use Rattle.reduce_tree.specs.Calls.{places}
use Rattle.reduce_tree.specs.Packed.{ArePacked}
use Rattle.std.proofs.lemmas.Result.{err_from_is_err_and}
use Rattle.reduce_tree.proofs.Calls.{Laws, extends_on, fails_on, goes_none, goes_on, known_on, ran_err, told_on}
use Rattle.reduce_tree.proofs.Climb.{stand_stays}
use Rattle.reduce_tree.proofs.Fills.{IsFirst, leaf_first, packed_one, packed_more}
use Rattle.reduce_tree.proofs.Nodes.{count_cons, count_one, filled_large, has_split, large_append, large_one, split_count, split_kind, split_large}
use Rattle.reduce_tree.proofs.Puts.{leaf_split}
use Rattle.reduce_tree.proofs.Working.{filled_none, filled_on, filled_wider, row_puts}
use Rattle.reduce_tree.specs.Sums.{IsSumGiven}
use Rattle.reduce_tree.proofs.Had.{gave_fails, gave_goes, given_later, given_since, had_both, had_none, had_split, node_on}
use Rattle.reduce_tree.proofs.builder.+pack_row.Goals as goal

pub pack_row-requires : goal.pack_row-requires
pack_row-requires g t c =
    let right = c.in_ok-left.right in
    let s = split_count c.args.node c.in_ok-left.left right c.in_ok-left.ensures.split in
    let less : entries right < entries c.args.node = omega (arith, c.in_ok-left.ensures.right, c.cut_at-at.ensures.least) in
    let least : 8 ≤ entries right = omega (arith, c.in_ok-left.ensures.right, c.cut_at-at.ensures.rest, c.len-2.ensures) in
    let few : item_count right ≤ 2 ^ 40 = omega (arith, s, c.requires.few) in
    search (rules, arith, less, least, few)

pub returns-then-len-le32-clause-children : goal.returns-then-len-le32-clause-children
returns-then-len-le32-clause-children g t c first level items known has =
    let new = places (g.S.NodeSource.nodes c.put_node.new.store) in
    let full : IsFilled Below c.args.node = record { least = c.requires.least; most = omega (arith, c.len.ensures, c.if-len-le32.true) } in
    rw c.in_ok-list_of_one.ensures (children_one g.M.Unit.Item g.M.Summer first (Stands g.M.Unit.Item g.M.Summer first new level) c.in_ok-child.child items (c.in_ok-child.ensures.child first level items known full has))

pub returns-then-len-le32-clause-large : goal.returns-then-len-le32-clause-large
returns-then-len-le32-clause-large g t c level kind large =
    let many = filled_large level c.args.node kind large c.requires.least in
    rw c.in_ok-list_of_one.ensures (large_one (level + 1) c.in_ok-child.child (subst (λ n. 8 ^ (level + 1) ≤ n) (sym c.in_ok-child.ensures.count) many))

pub returns-then-len-le32-clause-count : goal.returns-then-len-le32-clause-count
returns-then-len-le32-clause-count g t c = rw c.in_ok-list_of_one.ensures (count_one c.in_ok-child.child ∙ c.in_ok-child.ensures.count)

pub returns-then-len-le32-clause-packed : goal.returns-then-len-le32-clause-packed
returns-then-len-le32-clause-packed g t c there told =
    let now = places (g.S.NodeSource.nodes c.put_node.new.store) in
    let few : entries c.args.node ≤ 32 = omega (arith, c.len.ensures, c.if-len-le32.true) in
    let size = pieces_size (spelled_node g.M.Unit.Item.spelled c.args.node ∷ []) in
    let one = packed_one g.M.Unit.Item now c.args.node c.in_ok-child.child few (c.in_ok-child.ensures.stored there told) in
    (size, omega (arith, c.in_ok-child.ensures.takes), subst (λ cs. ArePacked g.M.Unit.Item now c.args.node cs size) (sym c.in_ok-list_of_one.ensures) one)

pub returns-clause-children : goal.returns-clause-children
returns-clause-children g t c first level items known has =
    let laws : Laws g.S.NodeSource g.M.Summer = record { store_steps = g.met.S.NodeSource.are_steps; store_keeps = g.met.S.NodeSource.keeps; store_caused = g.met.S.NodeSource.stays_caused; summer_steps = g.met.M.Summer.are_steps; summer_keeps = g.met.M.Summer.keeps; summer_caused = g.met.M.Summer.stays_caused; summer_asked = g.met.M.Summer.stays_asked; summer_gave = g.met.M.Summer.stays_given } in
    let i = g.M.Unit.Item in
    let m = g.M.Summer in
    let s0 = c.args.store.now in
    let s1 = c.put_node-2.new.store in
    let s2 = c.pack_row.new.store in
    let u0 = c.args.summer.now in
    let u1 = c.put_node-2.new.summer in
    let u2 = c.pack_row.new.summer in
    let old = places (g.S.NodeSource.nodes s0) in
    let mid = places (g.S.NodeSource.nodes s1) in
    let new = places (g.S.NodeSource.nodes s2) in
    let left = c.in_ok-left.left in
    let right = c.in_ok-left.right in
    let e01 = extends_on g.M.Unit.Item g.S.NodeSource m laws s0 s1 u0 u1 c.in_ok-first.ensures.ran in
    let e12 = extends_on g.M.Unit.Item g.S.NodeSource m laws s1 s2 u1 u2 c.in_ok-rest.ensures.ran in
    let j = has_split i m first old level c.args.node left right items c.in_ok-left.ensures.split has in
    let full_left : IsFilled Below left = record { least = omega (arith, c.in_ok-left.ensures.left, c.cut_at-at.ensures.least); most = omega (arith, c.in_ok-left.ensures.left, c.cut_at-at.ensures.most) } in
    let done = c.in_ok-first.ensures.child first level j.front known full_left j.at_front in
    let at_right = has_stays i m first old mid e01 level right j.back j.at_back in
    let others = c.in_ok-rest.ensures.children first level j.back (known_on g.M.Unit.Item g.S.NodeSource m laws first s0 s1 u0 u1 known c.in_ok-first.ensures.ran) at_right in
    let first_now = child_stays i m first (Stands i m first mid level) (Stands i m first new level) (stands_stays i m first mid new e12 level) c.in_ok-first.first j.front done in
    rw (c.in_ok-with_first.ensures, j.whole)
    (children_append i m first (Stands i m first new level) (c.in_ok-first.first ∷ []) c.in_ok-rest.rest.items j.front j.back
    (children_one i m first (Stands i m first new level) c.in_ok-first.first j.front first_now) others)

pub returns-clause-large : goal.returns-clause-large
returns-clause-large g t c level kind large =
    let left = c.in_ok-left.left in
    let right = c.in_ok-left.right in
    let k = split_kind level c.args.node left right c.in_ok-left.ensures.split kind in
    let l = split_large level c.args.node left right c.in_ok-left.ensures.split large in
    let one = filled_large level left k.0 l.0 (omega (arith, c.in_ok-left.ensures.left, c.cut_at-at.ensures.least)) in
    rw c.in_ok-with_first.ensures (large_append (level + 1) (c.in_ok-first.first ∷ []) c.in_ok-rest.rest.items
    (large_one (level + 1) c.in_ok-first.first (subst (λ n. 8 ^ (level + 1) ≤ n) (sym c.in_ok-first.ensures.count) one))
    (c.in_ok-rest.ensures.large level k.1 l.1))

pub returns-clause-count : goal.returns-clause-count
returns-clause-count g t c =
    let s = split_count c.args.node c.in_ok-left.left c.in_ok-left.right c.in_ok-left.ensures.split in
    let a : item_count (Inner c.in_ok-with_first.field-0.items) ≡ c.in_ok-first.first.count + item_count (Inner c.in_ok-rest.rest.items) =
    ap (λ cs. item_count (Inner cs)) c.in_ok-with_first.ensures ∙ count_cons c.in_ok-first.first c.in_ok-rest.rest.items in
    omega (arith, s, a, c.in_ok-first.ensures.count, c.in_ok-rest.ensures.count)

pub returns-clause-packed : goal.returns-clause-packed
returns-clause-packed g t c there told =
    let laws : Laws g.S.NodeSource g.M.Summer = record { store_steps = g.met.S.NodeSource.are_steps; store_keeps = g.met.S.NodeSource.keeps; store_caused = g.met.S.NodeSource.stays_caused; summer_steps = g.met.M.Summer.are_steps; summer_keeps = g.met.M.Summer.keeps; summer_caused = g.met.M.Summer.stays_caused; summer_asked = g.met.M.Summer.stays_asked; summer_gave = g.met.M.Summer.stays_given } in
    let i = g.M.Unit.Item in
    let s0 = c.args.store.now in
    let s1 = c.put_node-2.new.store in
    let s2 = c.pack_row.new.store in
    let u1 = c.put_node-2.new.summer in
    let u2 = c.pack_row.new.summer in
    let new = places (g.S.NodeSource.nodes s2) in
    let left = c.in_ok-left.left in
    let right = c.in_ok-left.right in
    let first = c.in_ok-first.first in
    let mid = told_on (g.S.NodeSource.nodes s0) (g.S.NodeSource.nodes s1) there told (laws.store_keeps s0 s1 c.in_ok-first.ensures.ran.store) in
    let e12 = extends_on g.M.Unit.Item g.S.NodeSource g.M.Summer laws s1 s2 u1 u2 c.in_ok-rest.ensures.ran in
    let len = entries c.args.node in
    let l : entries left ≡ c.cut_at-at.result = c.in_ok-left.ensures.left in
    let r : entries right + c.cut_at-at.result ≡ len = c.in_ok-left.ensures.right in
    let long : 32 < len = omega (arith, c.len.ensures, c.if-len-le32.false) in
    let f : IsFirst (entries left) (entries right) = elim (cases_lt len 40) [
      | inl s ↦ let e : c.cut_at-at.result ≡ 24 = c.cut_at-at.ensures.short (omega (arith, s, c.len-2.ensures)) in inl (omega (arith, e, l), omega (arith, e, r, long), omega (arith, e, r, s))
      | inr b ↦ let e : c.cut_at-at.result ≡ 32 = c.cut_at-at.ensures.long (omega (arith, b, c.len-2.ensures)) in inr (omega (arith, e, l), omega (arith, e, r, b))
    ] in
    let rest = c.in_ok-rest.ensures.packed mid.0 mid.1 in
    let size = pieces_size (spelled_node i.spelled left ∷ []) in
    let more = packed_more i new c.args.node left right first c.in_ok-rest.rest.items rest.0 c.in_ok-left.ensures.split (stand_stays i (places (g.S.NodeSource.nodes s1)) new e12 first.at left (c.in_ok-first.ensures.stored there told)) f rest.2 in
    (size + rest.0, omega (arith, c.in_ok-first.ensures.takes, rest.1), subst (λ cs. ArePacked i new c.args.node cs (size + rest.0)) (sym c.in_ok-with_first.ensures) more)

pub returns-clause-leaf : goal.returns-clause-leaf
returns-clause-leaf g t c =
    let s = leaf_split c.args.node c.in_ok-left.left c.in_ok-left.right c.in_ok-left.ensures.split in
    omega (arith, s, c.in_ok-first.ensures.leaf, c.in_ok-rest.ensures.leaf)

pub returns-clause-usable : goal.returns-clause-usable
returns-clause-usable g t c some =
    c.in_ok-first.ensures.usable (leaf_first c.args.node c.in_ok-left.left c.in_ok-left.right c.in_ok-left.ensures.split some (omega (arith, c.in_ok-left.ensures.left, c.cut_at-at.ensures.least)))

pub returns-clause-ran : goal.returns-clause-ran
returns-clause-ran g t c =
    let laws : Laws g.S.NodeSource g.M.Summer = record { store_steps = g.met.S.NodeSource.are_steps; store_keeps = g.met.S.NodeSource.keeps; store_caused = g.met.S.NodeSource.stays_caused; summer_steps = g.met.M.Summer.are_steps; summer_keeps = g.met.M.Summer.keeps; summer_caused = g.met.M.Summer.stays_caused; summer_asked = g.met.M.Summer.stays_asked; summer_gave = g.met.M.Summer.stays_given } in
    goes_on g.M.Unit.Item g.S.NodeSource g.M.Summer laws c.args.store.now c.put_node-2.new.store c.pack_row.new.store c.args.summer.now c.put_node-2.new.summer c.pack_row.new.summer c.in_ok-first.ensures.ran c.in_ok-rest.ensures.ran

pub returns-in_err-rest-clause-ran : goal.returns-in_err-rest-clause-ran
returns-in_err-rest-clause-ran g t c =
    let laws : Laws g.S.NodeSource g.M.Summer = record { store_steps = g.met.S.NodeSource.are_steps; store_keeps = g.met.S.NodeSource.keeps; store_caused = g.met.S.NodeSource.stays_caused; summer_steps = g.met.M.Summer.are_steps; summer_keeps = g.met.M.Summer.keeps; summer_caused = g.met.M.Summer.stays_caused; summer_asked = g.met.M.Summer.stays_asked; summer_gave = g.met.M.Summer.stays_given } in
    let p = err_from_is_err_and c.from_residual-in_err-rest.result c.from_residual-in_err-rest.ensures.1 in
    ran_err g.M.Unit.Item g.S.NodeSource g.M.Summer laws _ _ _ _ c.from_residual-in_err-rest.result c.in_err-rest.field-0.0 p.0 p.2 p.1 (fails_on g.M.Unit.Item g.S.NodeSource g.M.Summer laws c.args.store.now c.put_node-2.new.store c.pack_row.new.store c.args.summer.now c.put_node-2.new.summer c.pack_row.new.summer c.in_ok-first.ensures.ran _ c.in_err-rest.ensures.ran)

pub returns-in_err-with_first-clause-ran : goal.returns-in_err-with_first-clause-ran
returns-in_err-with_first-clause-ran g t c =
    let laws : Laws g.S.NodeSource g.M.Summer = record { store_steps = g.met.S.NodeSource.are_steps; store_keeps = g.met.S.NodeSource.keeps; store_caused = g.met.S.NodeSource.stays_caused; summer_steps = g.met.M.Summer.are_steps; summer_keeps = g.met.M.Summer.keeps; summer_caused = g.met.M.Summer.stays_caused; summer_asked = g.met.M.Summer.stays_asked; summer_gave = g.met.M.Summer.stays_given } in
    let p = err_from_is_err_and c.from_residual-in_err-with_first.result c.from_residual-in_err-with_first.ensures.1 in
    ran_err g.M.Unit.Item g.S.NodeSource g.M.Summer laws _ _ _ _ c.from_residual-in_err-with_first.result tree_fault.NoMemory p.0 p.2 p.1 (goes_on g.M.Unit.Item g.S.NodeSource g.M.Summer laws c.args.store.now c.put_node-2.new.store c.pack_row.new.store c.args.summer.now c.put_node-2.new.summer c.pack_row.new.summer c.in_ok-first.ensures.ran c.in_ok-rest.ensures.ran)

pub returns-in_err-child-clause-filled : goal.returns-in_err-child-clause-filled
returns-in_err-child-clause-filled g t c = filled_wider g.M.Unit.Item _ _ 8 32 c.requires.least (omega (arith, c.len.ensures, c.if-len-le32.true)) _ _ c.in_err-child.ensures.filled

pub returns-in_err-list_of_one-clause-filled : goal.returns-in_err-list_of_one-clause-filled
returns-in_err-list_of_one-clause-filled g t c = filled_wider g.M.Unit.Item _ _ 8 32 c.requires.least (omega (arith, c.len.ensures, c.if-len-le32.true)) _ _ c.in_ok-child.ensures.filled

pub returns-then-len-le32-clause-filled : goal.returns-then-len-le32-clause-filled
returns-then-len-le32-clause-filled g t c = filled_wider g.M.Unit.Item _ _ 8 32 c.requires.least (omega (arith, c.len.ensures, c.if-len-le32.true)) _ _ c.in_ok-child.ensures.filled

pub returns-in_err-left-clause-filled : goal.returns-in_err-left-clause-filled
returns-in_err-left-clause-filled g t c = filled_none g.M.Unit.Item _ _ (g.S.NodeSource.puts c.args.store.now)

pub returns-in_err-left-clause-ran : goal.returns-in_err-left-clause-ran
returns-in_err-left-clause-ran g t c =
    let laws : Laws g.S.NodeSource g.M.Summer = record { store_steps = g.met.S.NodeSource.are_steps; store_keeps = g.met.S.NodeSource.keeps; store_caused = g.met.S.NodeSource.stays_caused; summer_steps = g.met.M.Summer.are_steps; summer_keeps = g.met.M.Summer.keeps; summer_caused = g.met.M.Summer.stays_caused; summer_asked = g.met.M.Summer.stays_asked; summer_gave = g.met.M.Summer.stays_given } in
    let p = err_from_is_err_and c.from_residual-in_err-left.result c.from_residual-in_err-left.ensures.1 in
    ran_err g.M.Unit.Item g.S.NodeSource g.M.Summer laws _ _ _ _ c.from_residual-in_err-left.result tree_fault.NoMemory p.0 p.2 p.1 (goes_none g.M.Unit.Item g.S.NodeSource g.M.Summer laws c.args.store.now c.args.summer.now)

pub returns-in_err-first-clause-filled : goal.returns-in_err-first-clause-filled
returns-in_err-first-clause-filled g t c = filled_wider g.M.Unit.Item _ _ 8 32 (omega (arith, c.in_ok-left.ensures.left, c.cut_at-at.ensures.least)) (omega (arith, c.in_ok-left.ensures.left, c.cut_at-at.ensures.most)) _ _ c.in_err-first.ensures.filled

pub returns-in_err-rest-clause-filled : goal.returns-in_err-rest-clause-filled
returns-in_err-rest-clause-filled g t c = filled_on g.M.Unit.Item 8 32 (g.S.NodeSource.puts c.args.store.now) (g.S.NodeSource.puts c.put_node-2.new.store) (g.S.NodeSource.puts c.pack_row.new.store) (filled_wider g.M.Unit.Item _ _ 8 32 (omega (arith, c.in_ok-left.ensures.left, c.cut_at-at.ensures.least)) (omega (arith, c.in_ok-left.ensures.left, c.cut_at-at.ensures.most)) _ _ c.in_ok-first.ensures.filled) c.in_err-rest.ensures.filled

pub returns-in_err-rest-clause-puts : goal.returns-in_err-rest-clause-puts
returns-in_err-rest-clause-puts g t c =
    let n = entries c.args.node in
    let long : 32 < n = omega (arith, c.len.ensures, c.if-len-le32.false) in
    row_puts n c.cut_at-at.result (entries c.in_ok-left.right) (length (g.S.NodeSource.puts c.args.store.now)) (length (g.S.NodeSource.puts c.put_node-2.new.store)) (length (g.S.NodeSource.puts c.pack_row.new.store)) long c.in_ok-left.ensures.right
    (λ s. c.cut_at-at.ensures.short (omega (arith, s, c.len-2.ensures))) (λ b. c.cut_at-at.ensures.long (omega (arith, b, c.len-2.ensures))) c.in_ok-first.ensures.puts c.in_err-rest.ensures.puts

pub returns-in_err-with_first-clause-filled : goal.returns-in_err-with_first-clause-filled
returns-in_err-with_first-clause-filled g t c = filled_on g.M.Unit.Item 8 32 (g.S.NodeSource.puts c.args.store.now) (g.S.NodeSource.puts c.put_node-2.new.store) (g.S.NodeSource.puts c.pack_row.new.store) (filled_wider g.M.Unit.Item _ _ 8 32 (omega (arith, c.in_ok-left.ensures.left, c.cut_at-at.ensures.least)) (omega (arith, c.in_ok-left.ensures.left, c.cut_at-at.ensures.most)) _ _ c.in_ok-first.ensures.filled) c.in_ok-rest.ensures.filled

pub returns-in_err-with_first-clause-puts : goal.returns-in_err-with_first-clause-puts
returns-in_err-with_first-clause-puts g t c =
    let n = entries c.args.node in
    let long : 32 < n = omega (arith, c.len.ensures, c.if-len-le32.false) in
    row_puts n c.cut_at-at.result (entries c.in_ok-left.right) (length (g.S.NodeSource.puts c.args.store.now)) (length (g.S.NodeSource.puts c.put_node-2.new.store)) (length (g.S.NodeSource.puts c.pack_row.new.store)) long c.in_ok-left.ensures.right
    (λ s. c.cut_at-at.ensures.short (omega (arith, s, c.len-2.ensures))) (λ b. c.cut_at-at.ensures.long (omega (arith, b, c.len-2.ensures))) c.in_ok-first.ensures.puts c.in_ok-rest.ensures.puts

pub returns-clause-filled : goal.returns-clause-filled
returns-clause-filled g t c = filled_on g.M.Unit.Item 8 32 (g.S.NodeSource.puts c.args.store.now) (g.S.NodeSource.puts c.put_node-2.new.store) (g.S.NodeSource.puts c.pack_row.new.store) (filled_wider g.M.Unit.Item _ _ 8 32 (omega (arith, c.in_ok-left.ensures.left, c.cut_at-at.ensures.least)) (omega (arith, c.in_ok-left.ensures.left, c.cut_at-at.ensures.most)) _ _ c.in_ok-first.ensures.filled) c.in_ok-rest.ensures.filled

pub returns-clause-puts : goal.returns-clause-puts
returns-clause-puts g t c =
    let n = entries c.args.node in
    let long : 32 < n = omega (arith, c.len.ensures, c.if-len-le32.false) in
    row_puts n c.cut_at-at.result (entries c.in_ok-left.right) (length (g.S.NodeSource.puts c.args.store.now)) (length (g.S.NodeSource.puts c.put_node-2.new.store)) (length (g.S.NodeSource.puts c.pack_row.new.store)) long c.in_ok-left.ensures.right
    (λ s. c.cut_at-at.ensures.short (omega (arith, s, c.len-2.ensures))) (λ b. c.cut_at-at.ensures.long (omega (arith, b, c.len-2.ensures))) c.in_ok-first.ensures.puts c.in_ok-rest.ensures.puts

pub returns-clause-pieces : goal.returns-clause-pieces
returns-clause-pieces g t c =
    let n = entries c.args.node in
    let long : 32 < n = omega (arith, c.len.ensures, c.if-len-le32.false) in
    let rest = c.in_ok-rest.rest.items in
    let all = ap length c.in_ok-with_first.ensures in
    let most = row_puts n c.cut_at-at.result (entries c.in_ok-left.right) 0 1 (length rest + 1) long c.in_ok-left.ensures.right
    (λ s. c.cut_at-at.ensures.short (omega (arith, s, c.len-2.ensures))) (λ b. c.cut_at-at.ensures.long (omega (arith, b, c.len-2.ensures))) (omega arith) (omega (arith, c.in_ok-rest.ensures.pieces)) in
    omega (arith, all, most)

pub returns-in_err-child-clause-sums : goal.returns-in_err-child-clause-sums
returns-in_err-child-clause-sums g t c first had keeps = c.in_err-child.ensures.sums first had keeps

pub returns-in_err-list_of_one-clause-sums : goal.returns-in_err-list_of_one-clause-sums
returns-in_err-list_of_one-clause-sums g t c first had keeps = c.in_ok-child.ensures.sums first had keeps

pub returns-then-len-le32-clause-sums : goal.returns-then-len-le32-clause-sums
returns-then-len-le32-clause-sums g t c first had keeps = c.in_ok-child.ensures.sums first had keeps

pub returns-in_err-left-clause-sums : goal.returns-in_err-left-clause-sums
returns-in_err-left-clause-sums g t c first had keeps = had_none g.M.Unit.Item g.M.Summer (Contains had) first c.args.summer.now (g.S.NodeSource.puts c.args.store.now)

pub returns-in_err-first-clause-sums : goal.returns-in_err-first-clause-sums
returns-in_err-first-clause-sums g t c first had keeps =
    let halves = had_split g.M.Unit.Item g.M.Summer (Contains had) first c.args.summer.now c.args.node c.in_ok-left.left c.in_ok-left.right c.in_ok-left.ensures.split keeps in
    c.in_err-first.ensures.sums first had halves.0

pub returns-in_err-rest-clause-sums : goal.returns-in_err-rest-clause-sums
returns-in_err-rest-clause-sums g t c first had keeps =
    let laws : Laws g.S.NodeSource g.M.Summer = record { store_steps = g.met.S.NodeSource.are_steps; store_keeps = g.met.S.NodeSource.keeps; store_caused = g.met.S.NodeSource.stays_caused; summer_steps = g.met.M.Summer.are_steps; summer_keeps = g.met.M.Summer.keeps; summer_caused = g.met.M.Summer.stays_caused; summer_asked = g.met.M.Summer.stays_asked; summer_gave = g.met.M.Summer.stays_given } in
    let i = g.M.Unit.Item in let s = g.S.NodeSource in let m = g.M.Summer in let s0 = c.args.store.now in let u0 = c.args.summer.now in
    let u1 = c.put_node-2.new.summer in let u2 = c.pack_row.new.summer in let s1 = c.put_node-2.new.store in let s2 = c.pack_row.new.store in
    let halves = had_split i m (Contains had) first u0 c.args.node c.in_ok-left.left c.in_ok-left.right c.in_ok-left.ensures.split keeps in
    let one = c.in_ok-first.ensures.sums first had halves.0 in
    let on = gave_goes s m laws first u0 u1 c.in_ok-first.ensures.ran.summer in
    let right = node_on i m (Contains had) first u0 u1 on c.in_ok-left.right halves.1 in
    had_both i m (Contains had) first u1 u2 (gave_fails s m laws first i s1 s2 u1 u2 c.in_err-rest.field-0.0 c.in_err-rest.ensures.ran) (s.puts s0) (s.puts s1) (s.puts s2) one (c.in_err-rest.ensures.sums first had right)

pub returns-in_err-with_first-clause-sums : goal.returns-in_err-with_first-clause-sums
returns-in_err-with_first-clause-sums g t c first had keeps =
    let laws : Laws g.S.NodeSource g.M.Summer = record { store_steps = g.met.S.NodeSource.are_steps; store_keeps = g.met.S.NodeSource.keeps; store_caused = g.met.S.NodeSource.stays_caused; summer_steps = g.met.M.Summer.are_steps; summer_keeps = g.met.M.Summer.keeps; summer_caused = g.met.M.Summer.stays_caused; summer_asked = g.met.M.Summer.stays_asked; summer_gave = g.met.M.Summer.stays_given } in
    let i = g.M.Unit.Item in let s = g.S.NodeSource in let m = g.M.Summer in let s0 = c.args.store.now in let u0 = c.args.summer.now in
    let u1 = c.put_node-2.new.summer in let u2 = c.pack_row.new.summer in let s1 = c.put_node-2.new.store in let s2 = c.pack_row.new.store in
    let halves = had_split i m (Contains had) first u0 c.args.node c.in_ok-left.left c.in_ok-left.right c.in_ok-left.ensures.split keeps in
    let one = c.in_ok-first.ensures.sums first had halves.0 in
    let on = gave_goes s m laws first u0 u1 c.in_ok-first.ensures.ran.summer in
    let right = node_on i m (Contains had) first u0 u1 on c.in_ok-left.right halves.1 in
    had_both i m (Contains had) first u1 u2 (gave_goes s m laws first u1 u2 c.in_ok-rest.ensures.ran.summer) (s.puts s0) (s.puts s1) (s.puts s2) one (c.in_ok-rest.ensures.sums first had right)

pub returns-clause-sums : goal.returns-clause-sums
returns-clause-sums g t c first had keeps =
    let laws : Laws g.S.NodeSource g.M.Summer = record { store_steps = g.met.S.NodeSource.are_steps; store_keeps = g.met.S.NodeSource.keeps; store_caused = g.met.S.NodeSource.stays_caused; summer_steps = g.met.M.Summer.are_steps; summer_keeps = g.met.M.Summer.keeps; summer_caused = g.met.M.Summer.stays_caused; summer_asked = g.met.M.Summer.stays_asked; summer_gave = g.met.M.Summer.stays_given } in
    let i = g.M.Unit.Item in let s = g.S.NodeSource in let m = g.M.Summer in let s0 = c.args.store.now in let u0 = c.args.summer.now in
    let u1 = c.put_node-2.new.summer in let u2 = c.pack_row.new.summer in let s1 = c.put_node-2.new.store in let s2 = c.pack_row.new.store in
    let halves = had_split i m (Contains had) first u0 c.args.node c.in_ok-left.left c.in_ok-left.right c.in_ok-left.ensures.split keeps in
    let one = c.in_ok-first.ensures.sums first had halves.0 in
    let on = gave_goes s m laws first u0 u1 c.in_ok-first.ensures.ran.summer in
    let right = node_on i m (Contains had) first u0 u1 on c.in_ok-left.right halves.1 in
    had_both i m (Contains had) first u1 u2 (gave_goes s m laws first u1 u2 c.in_ok-rest.ensures.ran.summer) (s.puts s0) (s.puts s1) (s.puts s2) one (c.in_ok-rest.ensures.sums first had right)

pub returns-then-len-le32-clause-given : goal.returns-then-len-le32-clause-given
returns-then-len-le32-clause-given g t c first goes =
    let laws : Laws g.S.NodeSource g.M.Summer = record { store_steps = g.met.S.NodeSource.are_steps; store_keeps = g.met.S.NodeSource.keeps; store_caused = g.met.S.NodeSource.stays_caused; summer_steps = g.met.M.Summer.are_steps; summer_keeps = g.met.M.Summer.keeps; summer_caused = g.met.M.Summer.stays_caused; summer_asked = g.met.M.Summer.stays_asked; summer_gave = g.met.M.Summer.stays_given } in
    let i = g.M.Unit.Item in let s = g.S.NodeSource in let m = g.M.Summer in let s0 = c.args.store.now in let u0 = c.args.summer.now in
    let u1 = c.put_node.new.summer in
    let P : Child _ → Type 0 = λ d. IsSumGiven m first u1 d.sum in
    rw c.in_ok-list_of_one.ensures (All-cons P c.in_ok-child.child [] (given_since s m laws first u0 u1 goes c.in_ok-child.child.sum c.in_ok-child.ensures.gave) (All-nil P))

pub returns-clause-given : goal.returns-clause-given
returns-clause-given g t c first goes =
    let laws : Laws g.S.NodeSource g.M.Summer = record { store_steps = g.met.S.NodeSource.are_steps; store_keeps = g.met.S.NodeSource.keeps; store_caused = g.met.S.NodeSource.stays_caused; summer_steps = g.met.M.Summer.are_steps; summer_keeps = g.met.M.Summer.keeps; summer_caused = g.met.M.Summer.stays_caused; summer_asked = g.met.M.Summer.stays_asked; summer_gave = g.met.M.Summer.stays_given } in
    let i = g.M.Unit.Item in let s = g.S.NodeSource in let m = g.M.Summer in let s0 = c.args.store.now in let u0 = c.args.summer.now in
    let u1 = c.put_node-2.new.summer in let u2 = c.pack_row.new.summer in let s1 = c.put_node-2.new.store in let s2 = c.pack_row.new.store in
    let P : Child _ → Type 0 = λ d. IsSumGiven m first u2 d.sum in
    let ran = c.in_ok-first.ensures.ran in
    let one = given_later s m laws first u1 u2 c.in_ok-rest.ensures.ran.summer c.in_ok-first.first.sum (given_since s m laws first u0 u1 goes c.in_ok-first.first.sum c.in_ok-first.ensures.gave) in
    rw c.in_ok-with_first.ensures (All-cons P c.in_ok-first.first c.in_ok-rest.rest.items one (c.in_ok-rest.ensures.given first (laws.summer_steps.both first u0 u1 goes ran.summer)))
