use Rattle.std.proofs.Common.{Contains, rules, arith, ◌⊎◌, inl, inr, ◌≡◌, ◌≤◌, ◌<◌, ◌+◌, ◌-◌, ◌∙◌, ◌∷◌, ◌++◌, [], ◌^◌, ap, sym, refl, subst, length, append_assoc, length-append}
use Rattle.tree_laws.specs.declared.node.Node.TheVariants.{Inner, Leaf}
use Rattle.tree_laws.specs.Fitting.{AreLarge, item_count}
use Rattle.tree_laws.specs.Nodes.{entries, spelled_node}
use Rattle.tree_laws.specs.Stores.{pieces_size}
use Rattle.tree_laws.specs.SummerTrees.{Has, HasRoot, Stands}
use Rattle.tree_laws.proofs.SummerTrees.{children_append}
use Rattle.reduce_tree.specs.Built.{AreRows, Stacked, row_items}
use Rattle.reduce_tree.specs.Calls.{places}
use Rattle.reduce_tree.specs.Packed.{ArePacked, IsCut, StandsAt}
use Rattle.std.proofs.lemmas.Result.{err_from_is_err_and}
use Rattle.reduce_tree.proofs.Calls.{Laws, extends_on, fails_on, goes_on, known_on, ran_err, told_on}
use Rattle.reduce_tree.proofs.Climb.{grew_up, cut_root, cut_stays, cut_waits, climbs_none, climbs_popped, climbs_some, climbs_stay, nodes_stay, packs_root, packs_up, two_given}
use Rattle.reduce_tree.proofs.Lists.{none_long}
use Rattle.reduce_tree.proofs.Nodes.{above_at_level, count_append, has_children, large_append, level_small, many_items}
use Rattle.reduce_tree.proofs.Puts.{less_or}
use Rattle.reduce_tree.proofs.Stacks.{items_pop, none_row, popped, rows_pop, stacked_stays}
use Rattle.reduce_tree.proofs.Working.{filled_on, filled_same, packed_below, packed_on, packed_top, refused_on, refused_sure, rise_puts}
use Rattle.reduce_tree.specs.Sums.{AreHad}
use Rattle.reduce_tree.proofs.Had.{gave_fails, gave_goes, had_append, had_both, had_given, rows_on, rows_popped}
use Rattle.reduce_tree.proofs.builder.+rise.Goals as goal

pub pack_row-requires-clause-least : goal.pack_row-requires-clause-least
pack_row-requires-clause-least g t c =
    let size : 0 < length c.args.rows.items → 8 ≤ entries c.args.node = c.requires.least in
    let more : c.len.result ≡ 0 → 32 < entries c.args.node = λ z. let m = c.fits_root.ensures.more c.if-fits_root.false z in omega (arith, m, c.len-2.ensures) in
    elim (less_or 0 (length c.args.rows.items)) [
      | inl s ↦ size s
      | inr z ↦ let m = more (omega (arith, z, c.len.ensures)) in omega (arith, m)
    ]

pub rise-requires : goal.rise-requires
rise-requires g t c =
    let size : 0 < length c.args.rows.items → 8 ≤ entries c.args.node = c.requires.least in
    let more : c.len.result ≡ 0 → 32 < entries c.args.node = λ z. let m = c.fits_root.ensures.more c.if-fits_root.false z in omega (arith, m, c.len-2.ensures) in
    let placed = c.in_ok-placed.placed.items in
    let row = c.pop_row-row.result in
    let above = c.pop_row-row.new.rows.items in
    let list : c.from_vec.result ≡ row ++ placed = c.from_vec.ensures ∙ c.in_ok-add_all.ensures ∙ ap (λ r. r ++ placed) c.into_vec-list.ensures in
    let long = ap length list ∙ length-append row placed in
    let level = c.args.level in
    let k = rows_pop level c.args.rows.items above row c.pop_row-row.ensures.items c.requires.rows in
    let large_placed = c.in_ok-placed.ensures.large level c.requires.kind c.requires.large in
    let large = subst (λ ds. AreLarge (level + 1) (Inner ds)) (sym list) (large_append (level + 1) row placed k.0.large large_placed) in
    let two : 2 ≤ length c.from_vec.result = elim (less_or 0 (length c.args.rows.items)) [
      | inl s ↦ let one = k.1 s in omega (arith, one, long, c.in_ok-placed.ensures.some)
      | inr z ↦ let t = c.in_ok-placed.ensures.two (more (omega (arith, z, c.len.ensures))) in omega (arith, t, long)
    ] in
    let count : item_count (Inner c.from_vec.result) ≡ item_count (Inner row) + item_count c.args.node = ap (λ ds. item_count (Inner ds)) list ∙ count_append row placed ∙ ap (λ n. item_count (Inner row) + n) c.in_ok-placed.ensures.count in
    let pop = items_pop c.args.rows.items above row c.pop_row-row.ensures.items in
    let few : row_items above + item_count (Inner c.from_vec.result) ≤ 2 ^ 40 = omega (arith, count, pop, c.requires.few) in
    let kind = above_at_level level c.from_vec.result in
    let many = many_items (level + 1) 1 (Inner c.from_vec.result) kind large (omega (arith, two)) in
    let low = level_small (level + 1) (item_count (Inner c.from_vec.result)) (omega (arith, many)) (omega (arith, few)) in
    let up : level + 1 < 2 ^ 31 = omega (arith, low) in
    let less : 2 ^ 31 - (level + 1) < 2 ^ 31 - level = omega (arith, up) in
    let ready = c.in_ok-placed.ensures.ready in
    let rows : AreRows (level + 1) above = k.0.rows in
    let least : 0 < length above → 8 ≤ length c.from_vec.result = λ s. let eight = k.0.wait s in omega (arith, eight, long) in
    let two' : 0 < level + 1 → 2 ≤ length c.from_vec.result = λ s. two in
    λ κs within. (search (rules, arith, less), search (rules, arith, ready, kind, up, large, two', rows, least, few))

pub returns-then-fits_root-clause-root : goal.returns-then-fits_root-clause-root
returns-then-fits_root-clause-root g t c first xs ys known st has =
    let i = g.M.Unit.Item in
    let m = g.M.Summer in
    let n0 = places (g.S.NodeSource.nodes c.args.store.now) in
    let n1 = places (g.S.NodeSource.nodes c.put_top.new.store) in
    let none = none_long c.args.rows.items (omega (arith, c.len.ensures, c.fits_root.ensures.none c.if-fits_root.true)) in
    let z : xs ≡ [] = subst (λ rs. Stacked i m first n0 c.args.level rs xs) none st in
    subst (λ us. HasRoot i m first n1 c.in_ok-tree.tree.root c.in_ok-tree.tree.height us) (ap (λ us. us ++ ys) (sym z)) (c.in_ok-tree.ensures.root first ys known has)

pub returns-then-fits_root-clause-count : goal.returns-then-fits_root-clause-count
returns-then-fits_root-clause-count g t c =
    let none = none_row c.args.rows.items (omega (arith, c.len.ensures, c.fits_root.ensures.none c.if-fits_root.true)) in
    omega (arith, none, c.in_ok-tree.ensures.count)

pub returns-clause-root : goal.returns-clause-root
returns-clause-root g t c first xs ys known st has =
    let laws : Laws g.S.NodeSource g.M.Summer = record { store_steps = g.met.S.NodeSource.are_steps; store_keeps = g.met.S.NodeSource.keeps; store_caused = g.met.S.NodeSource.stays_caused; summer_steps = g.met.M.Summer.are_steps; summer_keeps = g.met.M.Summer.keeps; summer_caused = g.met.M.Summer.stays_caused; summer_asked = g.met.M.Summer.stays_asked; summer_gave = g.met.M.Summer.stays_given } in
    let i = g.M.Unit.Item in
    let m = g.M.Summer in
    let s0 = c.args.store.now in
    let s1 = c.pack_row.new.store in
    let s2 = c.rise.new.store in
    let u0 = c.args.summer.now in
    let u1 = c.pack_row.new.summer in
    let u2 = c.rise.new.summer in
    let n0 = places (g.S.NodeSource.nodes s0) in
    let n1 = places (g.S.NodeSource.nodes s1) in
    let n2 = places (g.S.NodeSource.nodes s2) in
    let e01 = extends_on g.M.Unit.Item g.S.NodeSource m laws s0 s1 u0 u1 c.in_ok-placed.ensures.ran in
    let e12 = extends_on g.M.Unit.Item g.S.NodeSource m laws s1 s2 u1 u2 c.in_ok-tree-2.ensures.ran in
    let placed = c.in_ok-placed.placed.items in
    let row = c.pop_row-row.result in
    let above = c.pop_row-row.new.rows.items in
    let list : c.from_vec.result ≡ row ++ placed = c.from_vec.ensures ∙ c.in_ok-add_all.ensures ∙ ap (λ r. r ++ placed) c.into_vec-list.ensures in
    let long = ap length list ∙ length-append row placed in
    let level = c.args.level in
    let cs = c.in_ok-placed.ensures.children first level ys known has in
    let st1 = stacked_stays i m first n0 n1 e01 level c.args.rows.items xs st in
    let j = popped i m first n1 level c.args.rows.items above row xs c.pop_row-row.ensures.items st1 in
    let all = children_append i m first (Stands i m first n1 level) row placed j.back ys j.at_back cs in
    let at = subst (λ ds. Has i m first n1 (level + 1) (Inner ds) (j.back ++ ys)) (sym list) (has_children i m first n1 level (row ++ placed) (j.back ++ ys) all) in
    let whole : j.front ++ (j.back ++ ys) ≡ xs ++ ys = sym (append_assoc j.front j.back ys) ∙ ap (λ u. u ++ ys) (sym j.whole) in
    let says = c.in_ok-tree-2.ensures.root first j.front (j.back ++ ys) (known_on g.M.Unit.Item g.S.NodeSource m laws first s0 s1 u0 u1 known c.in_ok-placed.ensures.ran) j.at_front at in
    subst (λ u. HasRoot i m first n2 c.in_ok-tree-2.tree.root c.in_ok-tree-2.tree.height u) whole says

pub returns-clause-count : goal.returns-clause-count
returns-clause-count g t c =
    let placed = c.in_ok-placed.placed.items in
    let row = c.pop_row-row.result in
    let above = c.pop_row-row.new.rows.items in
    let list : c.from_vec.result ≡ row ++ placed = c.from_vec.ensures ∙ c.in_ok-add_all.ensures ∙ ap (λ r. r ++ placed) c.into_vec-list.ensures in
    let long = ap length list ∙ length-append row placed in
    let count : item_count (Inner c.from_vec.result) ≡ item_count (Inner row) + item_count c.args.node = ap (λ ds. item_count (Inner ds)) list ∙ count_append row placed ∙ ap (λ n. item_count (Inner row) + n) c.in_ok-placed.ensures.count in
    omega (arith, count, items_pop c.args.rows.items above row c.pop_row-row.ensures.items, c.in_ok-tree-2.ensures.count)

pub returns-clause-leaf : goal.returns-clause-leaf
returns-clause-leaf g t c there given ws above own more told is some cut climbs =
    let laws : Laws g.S.NodeSource g.M.Summer = record { store_steps = g.met.S.NodeSource.are_steps; store_keeps = g.met.S.NodeSource.keeps; store_caused = g.met.S.NodeSource.stays_caused; summer_steps = g.met.M.Summer.are_steps; summer_keeps = g.met.M.Summer.keeps; summer_caused = g.met.M.Summer.stays_caused; summer_asked = g.met.M.Summer.stays_asked; summer_gave = g.met.M.Summer.stays_given } in
    let i = g.M.Unit.Item in
    let m = g.M.Summer in
    let s0 = c.args.store.now in
    let s1 = c.pack_row.new.store in
    let s2 = c.rise.new.store in
    let u0 = c.args.summer.now in
    let u1 = c.pack_row.new.summer in
    let u2 = c.rise.new.summer in
    let n0 = places (g.S.NodeSource.nodes s0) in
    let n1 = places (g.S.NodeSource.nodes s1) in
    let n2 = places (g.S.NodeSource.nodes s2) in
    let e01 = extends_on g.M.Unit.Item g.S.NodeSource m laws s0 s1 u0 u1 c.in_ok-placed.ensures.ran in
    let e12 = extends_on g.M.Unit.Item g.S.NodeSource m laws s1 s2 u1 u2 c.in_ok-tree-2.ensures.ran in
    let level = c.args.level in
    let tree = c.in_ok-tree-2.tree in
    let placed = c.in_ok-placed.placed.items in
    let row = c.pop_row-row.result in
    let rest = c.pop_row-row.new.rows.items in
    let mid = told_on (g.S.NodeSource.nodes s0) (g.S.NodeSource.nodes s1) there told (laws.store_keeps s0 s1 c.in_ok-placed.ensures.ran.store) in
    let size : entries c.args.node ≡ length ws = ap entries is in
    let eight : 0 < length c.args.rows.items → 8 ≤ entries c.args.node = c.requires.least in
    let many_left : c.len.result ≡ 0 → 32 < entries c.args.node = λ z. let m = c.fits_root.ensures.more c.if-fits_root.false z in omega (arith, m, c.len-2.ensures) in
    let which : (0 < length above) ⊎ ((32 < length ws) × (2 ≤ length placed)) = elim (less_or 0 (length c.args.rows.items)) [
      | inl s ↦ inl (climbs_some i n0 c.args.rows.items [] above more s climbs)
      | inr z ↦
          let many = many_left (omega (arith, z, c.len.ensures)) in
          let two = c.in_ok-placed.ensures.two many in
          inr (omega (arith, many, size), omega (arith, two))
    ] in
    let long : 8 ≤ length ws = elim (less_or 0 (length c.args.rows.items)) [
      | inl s ↦ let e = eight s in omega (arith, e, size)
      | inr z ↦ let many = many_left (omega (arith, z, c.len.ensures)) in omega (arith, many, size)
    ] in
    let got = c.in_ok-placed.ensures.packed there told in
    let p : ArePacked i n1 (Leaf ws) placed got.0 = subst (λ x. ArePacked i n1 x placed got.0) is got.2 in
    let cut1 = cut_stays i Leaf n0 n1 e01 given ws above own cut in
    let one : 0 < length placed = omega (arith, c.in_ok-placed.ensures.some) in
    let two = two_given i Leaf n1 given ws above placed own cut1 long one which in
    let k = climbs_popped i n1 c.args.rows.items rest row above more c.pop_row-row.ensures.items (climbs_stay i n0 n1 e01 c.args.rows.items [] above more climbs) in
    let list : c.from_vec.result ≡ row ++ placed = c.from_vec.ensures ∙ c.in_ok-add_all.ensures ∙ ap (λ r. r ++ placed) c.into_vec-list.ensures in
    let wait = subst (λ r. IsCut i n1 Inner (above ++ placed) r k.given k.own) (sym list) (cut_waits i n1 above row k.given placed k.own k.cut) in
    let up = c.in_ok-tree-2.ensures.inner mid.0 (above ++ placed) c.from_vec.result k.given k.own k.more mid.1 refl two.1 wait k.climbs in
    let sum = grew_up (g.S.NodeSource.size s0) (g.S.NodeSource.size s1) (g.S.NodeSource.size s2) own more k.own k.more got.0 up.0 k.sum got.1 up.1 in
    ((own + got.0) + up.0, sum, packs_up i Leaf n2 level tree given ws above placed p.0 own got.0 up.0 (cut_stays i Leaf n1 n2 e12 given ws above own cut1) long p.1 (nodes_stay i Leaf n1 n2 e12 placed p.0 p.2) p.3 two.0 up.2)

pub returns-then-fits_root-clause-leaf : goal.returns-then-fits_root-clause-leaf
returns-then-fits_root-clause-leaf g t c there given ws above own more told is some cut climbs =
    let i = g.M.Unit.Item in
    let n0 = places (g.S.NodeSource.nodes c.args.store.now) in
    let n1 = places (g.S.NodeSource.nodes c.put_top.new.store) in
    let tree = c.in_ok-tree.tree in
    let none = none_long c.args.rows.items (omega (arith, c.len.ensures, c.fits_root.ensures.none c.if-fits_root.true)) in
    let z = climbs_none i n0 c.args.rows.items [] above more none climbs in
    let all = cut_root i Leaf n0 given ws above own cut (sym z.0) in
    let size : entries c.args.node ≡ length ws = ap entries is in
    let one : 0 < entries c.args.node = omega (arith, size, ap length all.0, some) in
    let at = subst (λ x. StandsAt i n1 tree.root x) is (c.in_ok-tree.ensures.stored there told one) in
    let few : length ws ≤ 32 = omega (arith, size, c.len-2.ensures, c.fits_root.ensures.few c.if-fits_root.true) in
    let s0 = c.args.store.now in
    let takes = c.in_ok-tree.ensures.takes one ∙ ap (λ x. g.S.NodeSource.size s0 + pieces_size (spelled_node i.spelled x ∷ [])) is in
    (pieces_size (spelled_node i.spelled (Leaf ws) ∷ []), omega (arith, all.1, z.1, takes), packs_root i Leaf n1 c.args.level tree given ws all.0 at few (c.in_ok-tree.ensures.height one))

pub returns-clause-inner : goal.returns-clause-inner
returns-clause-inner g t c there given ws above own more told is some cut climbs =
    let laws : Laws g.S.NodeSource g.M.Summer = record { store_steps = g.met.S.NodeSource.are_steps; store_keeps = g.met.S.NodeSource.keeps; store_caused = g.met.S.NodeSource.stays_caused; summer_steps = g.met.M.Summer.are_steps; summer_keeps = g.met.M.Summer.keeps; summer_caused = g.met.M.Summer.stays_caused; summer_asked = g.met.M.Summer.stays_asked; summer_gave = g.met.M.Summer.stays_given } in
    let i = g.M.Unit.Item in
    let m = g.M.Summer in
    let s0 = c.args.store.now in
    let s1 = c.pack_row.new.store in
    let s2 = c.rise.new.store in
    let u0 = c.args.summer.now in
    let u1 = c.pack_row.new.summer in
    let u2 = c.rise.new.summer in
    let n0 = places (g.S.NodeSource.nodes s0) in
    let n1 = places (g.S.NodeSource.nodes s1) in
    let n2 = places (g.S.NodeSource.nodes s2) in
    let e01 = extends_on g.M.Unit.Item g.S.NodeSource m laws s0 s1 u0 u1 c.in_ok-placed.ensures.ran in
    let e12 = extends_on g.M.Unit.Item g.S.NodeSource m laws s1 s2 u1 u2 c.in_ok-tree-2.ensures.ran in
    let level = c.args.level in
    let tree = c.in_ok-tree-2.tree in
    let placed = c.in_ok-placed.placed.items in
    let row = c.pop_row-row.result in
    let rest = c.pop_row-row.new.rows.items in
    let mid = told_on (g.S.NodeSource.nodes s0) (g.S.NodeSource.nodes s1) there told (laws.store_keeps s0 s1 c.in_ok-placed.ensures.ran.store) in
    let size : entries c.args.node ≡ length ws = ap entries is in
    let eight : 0 < length c.args.rows.items → 8 ≤ entries c.args.node = c.requires.least in
    let many_left : c.len.result ≡ 0 → 32 < entries c.args.node = λ z. let m = c.fits_root.ensures.more c.if-fits_root.false z in omega (arith, m, c.len-2.ensures) in
    let which : (0 < length above) ⊎ ((32 < length ws) × (2 ≤ length placed)) = elim (less_or 0 (length c.args.rows.items)) [
      | inl s ↦ inl (climbs_some i n0 c.args.rows.items [] above more s climbs)
      | inr z ↦
          let many = many_left (omega (arith, z, c.len.ensures)) in
          let two = c.in_ok-placed.ensures.two many in
          inr (omega (arith, many, size), omega (arith, two))
    ] in
    let long : 8 ≤ length ws = elim (less_or 0 (length c.args.rows.items)) [
      | inl s ↦ let e = eight s in omega (arith, e, size)
      | inr z ↦ let many = many_left (omega (arith, z, c.len.ensures)) in omega (arith, many, size)
    ] in
    let got = c.in_ok-placed.ensures.packed there told in
    let p : ArePacked i n1 (Inner ws) placed got.0 = subst (λ x. ArePacked i n1 x placed got.0) is got.2 in
    let cut1 = cut_stays i Inner n0 n1 e01 given ws above own cut in
    let one : 0 < length placed = omega (arith, c.in_ok-placed.ensures.some) in
    let two = two_given i Inner n1 given ws above placed own cut1 long one which in
    let k = climbs_popped i n1 c.args.rows.items rest row above more c.pop_row-row.ensures.items (climbs_stay i n0 n1 e01 c.args.rows.items [] above more climbs) in
    let list : c.from_vec.result ≡ row ++ placed = c.from_vec.ensures ∙ c.in_ok-add_all.ensures ∙ ap (λ r. r ++ placed) c.into_vec-list.ensures in
    let wait = subst (λ r. IsCut i n1 Inner (above ++ placed) r k.given k.own) (sym list) (cut_waits i n1 above row k.given placed k.own k.cut) in
    let up = c.in_ok-tree-2.ensures.inner mid.0 (above ++ placed) c.from_vec.result k.given k.own k.more mid.1 refl two.1 wait k.climbs in
    let sum = grew_up (g.S.NodeSource.size s0) (g.S.NodeSource.size s1) (g.S.NodeSource.size s2) own more k.own k.more got.0 up.0 k.sum got.1 up.1 in
    ((own + got.0) + up.0, sum, packs_up i Inner n2 level tree given ws above placed p.0 own got.0 up.0 (cut_stays i Inner n1 n2 e12 given ws above own cut1) long p.1 (nodes_stay i Inner n1 n2 e12 placed p.0 p.2) p.3 two.0 up.2)

pub returns-then-fits_root-clause-inner : goal.returns-then-fits_root-clause-inner
returns-then-fits_root-clause-inner g t c there given ws above own more told is some cut climbs =
    let i = g.M.Unit.Item in
    let n0 = places (g.S.NodeSource.nodes c.args.store.now) in
    let n1 = places (g.S.NodeSource.nodes c.put_top.new.store) in
    let tree = c.in_ok-tree.tree in
    let none = none_long c.args.rows.items (omega (arith, c.len.ensures, c.fits_root.ensures.none c.if-fits_root.true)) in
    let z = climbs_none i n0 c.args.rows.items [] above more none climbs in
    let all = cut_root i Inner n0 given ws above own cut (sym z.0) in
    let size : entries c.args.node ≡ length ws = ap entries is in
    let one : 0 < entries c.args.node = omega (arith, size, ap length all.0, some) in
    let at = subst (λ x. StandsAt i n1 tree.root x) is (c.in_ok-tree.ensures.stored there told one) in
    let few : length ws ≤ 32 = omega (arith, size, c.len-2.ensures, c.fits_root.ensures.few c.if-fits_root.true) in
    let s0 = c.args.store.now in
    let takes = c.in_ok-tree.ensures.takes one ∙ ap (λ x. g.S.NodeSource.size s0 + pieces_size (spelled_node i.spelled x ∷ [])) is in
    (pieces_size (spelled_node i.spelled (Inner ws) ∷ []), omega (arith, all.1, z.1, takes), packs_root i Inner n1 c.args.level tree given ws all.0 at few (c.in_ok-tree.ensures.height one))

pub returns-then-fits_root-clause-none : goal.returns-then-fits_root-clause-none
returns-then-fits_root-clause-none g t c rows none = c.in_ok-tree.ensures.none none

pub returns-clause-none : goal.returns-clause-none
returns-clause-none g t c rows none =
    let z : c.len.result ≡ 0 = omega (arith, c.len.ensures, rows) in
    let many = c.fits_root.ensures.more c.if-fits_root.false z in
    absurd (omega (arith, many, c.len-2.ensures, none))

pub returns-clause-grows : goal.returns-clause-grows
returns-clause-grows g t c = omega (arith, c.in_ok-placed.ensures.leaf, c.in_ok-tree-2.ensures.grows)

pub returns-clause-usable : goal.returns-clause-usable
returns-clause-usable g t c some = c.in_ok-placed.ensures.usable some

pub returns-clause-ran : goal.returns-clause-ran
returns-clause-ran g t c =
    let laws : Laws g.S.NodeSource g.M.Summer = record { store_steps = g.met.S.NodeSource.are_steps; store_keeps = g.met.S.NodeSource.keeps; store_caused = g.met.S.NodeSource.stays_caused; summer_steps = g.met.M.Summer.are_steps; summer_keeps = g.met.M.Summer.keeps; summer_caused = g.met.M.Summer.stays_caused; summer_asked = g.met.M.Summer.stays_asked; summer_gave = g.met.M.Summer.stays_given } in
    goes_on g.M.Unit.Item g.S.NodeSource g.M.Summer laws c.args.store.now c.pack_row.new.store c.rise.new.store c.args.summer.now c.pack_row.new.summer c.rise.new.summer c.in_ok-placed.ensures.ran c.in_ok-tree-2.ensures.ran

pub returns-in_err-tree-2-clause-ran : goal.returns-in_err-tree-2-clause-ran
returns-in_err-tree-2-clause-ran g t c =
    let laws : Laws g.S.NodeSource g.M.Summer = record { store_steps = g.met.S.NodeSource.are_steps; store_keeps = g.met.S.NodeSource.keeps; store_caused = g.met.S.NodeSource.stays_caused; summer_steps = g.met.M.Summer.are_steps; summer_keeps = g.met.M.Summer.keeps; summer_caused = g.met.M.Summer.stays_caused; summer_asked = g.met.M.Summer.stays_asked; summer_gave = g.met.M.Summer.stays_given } in
    let p = err_from_is_err_and c.from_residual-in_err-tree-2.result c.from_residual-in_err-tree-2.ensures.1 in
    ran_err g.M.Unit.Item g.S.NodeSource g.M.Summer laws _ _ _ _ c.from_residual-in_err-tree-2.result c.in_err-tree-2.field-0.0 p.0 p.2 p.1 (fails_on g.M.Unit.Item g.S.NodeSource g.M.Summer laws c.args.store.now c.pack_row.new.store c.rise.new.store c.args.summer.now c.pack_row.new.summer c.rise.new.summer c.in_ok-placed.ensures.ran _ c.in_err-tree-2.ensures.ran)

pub returns-in_err-tree-clause-filled : goal.returns-in_err-tree-clause-filled
returns-in_err-tree-clause-filled g t c = packed_top g.M.Unit.Item _ _ c.in_err-tree.ensures.filled c.in_err-tree.ensures.puts

pub returns-then-fits_root-clause-filled : goal.returns-then-fits_root-clause-filled
returns-then-fits_root-clause-filled g t c = packed_top g.M.Unit.Item _ _ c.in_ok-tree.ensures.filled c.in_ok-tree.ensures.puts

pub returns-in_err-placed-clause-filled : goal.returns-in_err-placed-clause-filled
returns-in_err-placed-clause-filled g t c = packed_below g.M.Unit.Item _ _ c.in_err-placed.ensures.filled

pub returns-in_err-add_all-clause-filled : goal.returns-in_err-add_all-clause-filled
returns-in_err-add_all-clause-filled g t c = packed_below g.M.Unit.Item _ _ c.in_ok-placed.ensures.filled

pub returns-in_err-placed-clause-once : goal.returns-in_err-placed-clause-once
returns-in_err-placed-clause-once g t c rows few =
    let z : c.len.result ≡ 0 = omega (arith, c.len.ensures, rows) in
    let many = c.fits_root.ensures.more c.if-fits_root.false z in
    absurd (omega (arith, many, c.len-2.ensures, few))

pub returns-in_err-add_all-clause-once : goal.returns-in_err-add_all-clause-once
returns-in_err-add_all-clause-once g t c rows few =
    let z : c.len.result ≡ 0 = omega (arith, c.len.ensures, rows) in
    let many = c.fits_root.ensures.more c.if-fits_root.false z in
    absurd (omega (arith, many, c.len-2.ensures, few))

pub returns-in_err-tree-2-clause-once : goal.returns-in_err-tree-2-clause-once
returns-in_err-tree-2-clause-once g t c rows few =
    let z : c.len.result ≡ 0 = omega (arith, c.len.ensures, rows) in
    let many = c.fits_root.ensures.more c.if-fits_root.false z in
    absurd (omega (arith, many, c.len-2.ensures, few))

pub returns-clause-once : goal.returns-clause-once
returns-clause-once g t c rows few =
    let z : c.len.result ≡ 0 = omega (arith, c.len.ensures, rows) in
    let many = c.fits_root.ensures.more c.if-fits_root.false z in
    absurd (omega (arith, many, c.len-2.ensures, few))

pub returns-in_err-tree-2-clause-filled : goal.returns-in_err-tree-2-clause-filled
returns-in_err-tree-2-clause-filled g t c = packed_on g.M.Unit.Item (g.S.NodeSource.puts c.args.store.now) (g.S.NodeSource.puts c.pack_row.new.store) (g.S.NodeSource.puts c.rise.new.store) c.in_ok-placed.ensures.filled c.in_err-tree-2.ensures.filled

pub returns-in_err-tree-2-clause-puts : goal.returns-in_err-tree-2-clause-puts
returns-in_err-tree-2-clause-puts g t c most =
    let placed = c.in_ok-placed.placed.items in
    let row = c.pop_row-row.result in
    let above = c.pop_row-row.new.rows.items in
    let list : c.from_vec.result ≡ row ++ placed = c.from_vec.ensures ∙ c.in_ok-add_all.ensures ∙ ap (λ r. r ++ placed) c.into_vec-list.ensures in
    let long = ap length list ∙ length-append row placed in
    let k = rows_pop c.args.level c.args.rows.items above row c.pop_row-row.ensures.items c.requires.rows in
    rise_puts c.args.rows.items above row (length placed) (length c.from_vec.result) (entries c.args.node) (length (g.S.NodeSource.puts c.args.store.now)) (length (g.S.NodeSource.puts c.pack_row.new.store)) (length (g.S.NodeSource.puts c.rise.new.store))
    c.pop_row-row.ensures.items k.0.few long (omega (arith, c.in_ok-placed.ensures.pieces)) most c.in_ok-placed.ensures.puts c.in_err-tree-2.ensures.once c.in_err-tree-2.ensures.puts

pub returns-clause-filled : goal.returns-clause-filled
returns-clause-filled g t c = packed_on g.M.Unit.Item (g.S.NodeSource.puts c.args.store.now) (g.S.NodeSource.puts c.pack_row.new.store) (g.S.NodeSource.puts c.rise.new.store) c.in_ok-placed.ensures.filled c.in_ok-tree-2.ensures.filled

pub returns-clause-puts : goal.returns-clause-puts
returns-clause-puts g t c most =
    let placed = c.in_ok-placed.placed.items in
    let row = c.pop_row-row.result in
    let above = c.pop_row-row.new.rows.items in
    let list : c.from_vec.result ≡ row ++ placed = c.from_vec.ensures ∙ c.in_ok-add_all.ensures ∙ ap (λ r. r ++ placed) c.into_vec-list.ensures in
    let long = ap length list ∙ length-append row placed in
    let k = rows_pop c.args.level c.args.rows.items above row c.pop_row-row.ensures.items c.requires.rows in
    rise_puts c.args.rows.items above row (length placed) (length c.from_vec.result) (entries c.args.node) (length (g.S.NodeSource.puts c.args.store.now)) (length (g.S.NodeSource.puts c.pack_row.new.store)) (length (g.S.NodeSource.puts c.rise.new.store))
    c.pop_row-row.ensures.items k.0.few long (omega (arith, c.in_ok-placed.ensures.pieces)) most c.in_ok-placed.ensures.puts c.in_ok-tree-2.ensures.once c.in_ok-tree-2.ensures.puts

pub returns-in_err-tree-clause-refused : goal.returns-in_err-tree-clause-refused
returns-in_err-tree-clause-refused g t c =
    let p = err_from_is_err_and c.from_residual.result c.from_residual.ensures.1 in
    refused_on _ _ c.from_residual.result c.in_err-tree.field-0.0 p.0 p.2 p.1 (λ e. filled_same g.M.Unit.Item 8 32 (g.S.NodeSource.puts c.args.store.now) (g.S.NodeSource.puts c.put_top.new.store) e) c.in_err-tree.ensures.refused

pub returns-in_err-placed-clause-refused : goal.returns-in_err-placed-clause-refused
returns-in_err-placed-clause-refused g t c = refused_sure _ c.from_residual-in_err-placed.result c.in_err-placed.ensures.filled

pub returns-in_err-add_all-clause-refused : goal.returns-in_err-add_all-clause-refused
returns-in_err-add_all-clause-refused g t c = refused_sure _ c.from_residual-in_err-add_all.result c.in_ok-placed.ensures.filled

pub returns-in_err-tree-2-clause-refused : goal.returns-in_err-tree-2-clause-refused
returns-in_err-tree-2-clause-refused g t c =
    let p = err_from_is_err_and c.from_residual-in_err-tree-2.result c.from_residual-in_err-tree-2.ensures.1 in
    refused_on _ _ c.from_residual-in_err-tree-2.result c.in_err-tree-2.field-0.0 p.0 p.2 p.1
    (λ h. filled_on g.M.Unit.Item 8 32 (g.S.NodeSource.puts c.args.store.now) (g.S.NodeSource.puts c.pack_row.new.store) (g.S.NodeSource.puts c.rise.new.store) c.in_ok-placed.ensures.filled h) c.in_err-tree-2.ensures.refused

pub returns-in_err-tree-clause-sums : goal.returns-in_err-tree-clause-sums
returns-in_err-tree-clause-sums g t c first had goes rows keeps = c.in_err-tree.ensures.sums first had keeps

pub returns-then-fits_root-clause-sums : goal.returns-then-fits_root-clause-sums
returns-then-fits_root-clause-sums g t c first had goes rows keeps = c.in_ok-tree.ensures.sums first had keeps

pub returns-in_err-placed-clause-sums : goal.returns-in_err-placed-clause-sums
returns-in_err-placed-clause-sums g t c first had goes rows keeps = c.in_err-placed.ensures.sums first had keeps

pub returns-in_err-add_all-clause-sums : goal.returns-in_err-add_all-clause-sums
returns-in_err-add_all-clause-sums g t c first had goes rows keeps = c.in_ok-placed.ensures.sums first had keeps

pub returns-in_err-tree-2-clause-sums : goal.returns-in_err-tree-2-clause-sums
returns-in_err-tree-2-clause-sums g t c first had goes rows keeps =
    let laws : Laws g.S.NodeSource g.M.Summer = record { store_steps = g.met.S.NodeSource.are_steps; store_keeps = g.met.S.NodeSource.keeps; store_caused = g.met.S.NodeSource.stays_caused; summer_steps = g.met.M.Summer.are_steps; summer_keeps = g.met.M.Summer.keeps; summer_caused = g.met.M.Summer.stays_caused; summer_asked = g.met.M.Summer.stays_asked; summer_gave = g.met.M.Summer.stays_given } in
    let i = g.M.Unit.Item in let s = g.S.NodeSource in let m = g.M.Summer in let s0 = c.args.store.now in let u0 = c.args.summer.now in
    let u1 = c.pack_row.new.summer in let u2 = c.rise.new.summer in let s1 = c.pack_row.new.store in let s2 = c.rise.new.store in
    let ran = c.in_ok-placed.ensures.ran in
    let on = gave_goes s m laws first u0 u1 ran.summer in
    let placed = c.in_ok-placed.placed.items in
    let row = c.pop_row-row.result in
    let popped = rows_popped i m (Contains had) first u1 c.args.rows.items c.pop_row-row.new.rows.items row c.pop_row-row.ensures.items (rows_on i m (Contains had) first u0 u1 on c.args.rows.items rows) in
    let own = had_given i m (Contains had) first u1 placed (c.in_ok-placed.ensures.given first goes) in
    let list : c.from_vec.result ≡ row ++ placed = c.from_vec.ensures ∙ c.in_ok-add_all.ensures ∙ ap (λ r. r ++ placed) c.into_vec-list.ensures in
    let all = subst (AreHad i m (Contains had) first u1) (sym list) (had_append i m (Contains had) first u1 row placed popped.1 own) in
    let later = laws.summer_steps.both first u0 u1 goes ran.summer in
    let one = c.in_ok-placed.ensures.sums first had keeps in
    had_both i m (Contains had) first u1 u2 (gave_fails s m laws first i s1 s2 u1 u2 c.in_err-tree-2.field-0.0 c.in_err-tree-2.ensures.ran) (s.puts s0) (s.puts s1) (s.puts s2) one (c.in_err-tree-2.ensures.sums first had later popped.0 all)

pub returns-clause-sums : goal.returns-clause-sums
returns-clause-sums g t c first had goes rows keeps =
    let laws : Laws g.S.NodeSource g.M.Summer = record { store_steps = g.met.S.NodeSource.are_steps; store_keeps = g.met.S.NodeSource.keeps; store_caused = g.met.S.NodeSource.stays_caused; summer_steps = g.met.M.Summer.are_steps; summer_keeps = g.met.M.Summer.keeps; summer_caused = g.met.M.Summer.stays_caused; summer_asked = g.met.M.Summer.stays_asked; summer_gave = g.met.M.Summer.stays_given } in
    let i = g.M.Unit.Item in let s = g.S.NodeSource in let m = g.M.Summer in let s0 = c.args.store.now in let u0 = c.args.summer.now in
    let u1 = c.pack_row.new.summer in let u2 = c.rise.new.summer in let s1 = c.pack_row.new.store in let s2 = c.rise.new.store in
    let ran = c.in_ok-placed.ensures.ran in
    let on = gave_goes s m laws first u0 u1 ran.summer in
    let placed = c.in_ok-placed.placed.items in
    let row = c.pop_row-row.result in
    let popped = rows_popped i m (Contains had) first u1 c.args.rows.items c.pop_row-row.new.rows.items row c.pop_row-row.ensures.items (rows_on i m (Contains had) first u0 u1 on c.args.rows.items rows) in
    let own = had_given i m (Contains had) first u1 placed (c.in_ok-placed.ensures.given first goes) in
    let list : c.from_vec.result ≡ row ++ placed = c.from_vec.ensures ∙ c.in_ok-add_all.ensures ∙ ap (λ r. r ++ placed) c.into_vec-list.ensures in
    let all = subst (AreHad i m (Contains had) first u1) (sym list) (had_append i m (Contains had) first u1 row placed popped.1 own) in
    let later = laws.summer_steps.both first u0 u1 goes ran.summer in
    let one = c.in_ok-placed.ensures.sums first had keeps in
    had_both i m (Contains had) first u1 u2 (gave_goes s m laws first u1 u2 c.in_ok-tree-2.ensures.ran.summer) (s.puts s0) (s.puts s1) (s.puts s2) one (c.in_ok-tree-2.ensures.sums first had later popped.0 all)
