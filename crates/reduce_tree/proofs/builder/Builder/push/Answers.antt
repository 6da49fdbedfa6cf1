use Rattle.std.proofs.Common.{Contains, arith, inr, ◌≤◌, ◌≡◌, ◌+◌, ◌∙◌, ◌∷◌, ◌++◌, [], zero, ap, sym, refl, subst, length, append_assoc, length-append}
use Rattle.tree_laws.specs.declared.node.Node.TheVariants.{Leaf}
use Rattle.tree_laws.specs.declared.tree.Fill.TheVariants.{Below}
use Rattle.tree_laws.specs.declared.tree.TreeFault.TheVariants as tree_fault
use Rattle.tree_laws.specs.Fitting.{IsFilled}
use Rattle.tree_laws.specs.Nodes.{spelled_node}
use Rattle.tree_laws.specs.Stores.{pieces_size}
use Rattle.tree_laws.specs.SummerTrees.{Has}
use Rattle.reduce_tree.specs.Built.{Built, IsCutting}
use Rattle.reduce_tree.specs.Calls.{places, IsKnown}
use Rattle.reduce_tree.specs.Packed.{IsCut, StandsAt}
use Rattle.std.proofs.lemmas.Result.{err_from_is_err_and}
use Rattle.reduce_tree.proofs.Calls.{Laws, extends_on, fails_on, goes_none, goes_on, known_on, ran_err, told_on}
use Rattle.reduce_tree.proofs.Climb.{grew_on, cut_put, cut_stays, cut_wait, climbs_stay}
use Rattle.reduce_tree.proofs.Stacks.{stacked_stays}
use Rattle.reduce_tree.proofs.Working.{filled_none, filled_on, filled_wider, kept_unless, ready_unless, told_places}
use Rattle.std.proofs.lemmas.List.Elements.{All-contains_itself}
use Rattle.reduce_tree.specs.Sums.{sums_of}
use Rattle.reduce_tree.proofs.Had.{gave_fails, gave_goes, had_both, had_none, rows_on, rows_own}
use Rattle.reduce_tree.proofs.builder.Builder.push.Goals as goal

pub cut_full-requires : goal.cut_full-requires
cut_full-requires g c = omega (arith, ap (λ v. length v.items) c.replace-list.ensures.value, c.len.ensures, c.if-len-lt40.false)

pub put_node-requires-clause-some : goal.put_node-requires-clause-some
put_node-requires-clause-some g c = omega (arith, ap length c.from_vec.ensures, c.in_ok-full.ensures.full)

pub put_node-requires-clause-most : goal.put_node-requires-clause-most
put_node-requires-clause-most g c = omega (arith, ap length c.from_vec.ensures, c.in_ok-full.ensures.full)

pub put_node-requires-clause-few : goal.put_node-requires-clause-few
put_node-requires-clause-few g c = omega (arith, ap length c.from_vec.ensures, c.in_ok-full.ensures.full)

pub hand-requires-clause-few : goal.hand-requires-clause-few
hand-requires-clause-few g c =
    let self = c.args.self.now in
    let one = c.args.item ∷ [] in
    let list = c.replace-list.result.items in
    let full = c.in_ok-full.full.items in
    let rest = c.in_ok-full.rest.items in
    let pushed_list : list ≡ self.leaf.items ++ one = ap (λ v. v.items) c.replace-list.ensures.value ∙ c.in_ok-add_last.ensures in
    let cut : list ≡ full ++ rest = c.in_ok-full.ensures.whole in
    let is : c.from_vec.result ≡ full = c.from_vec.ensures in
    let size : length self.leaf.items + 1 ≡ 32 + length rest = omega (arith, ap length pushed_list, length-append self.leaf.items one, ap length cut, length-append full rest, c.in_ok-full.ensures.full) in
    let own : length c.from_vec.result ≡ 32 = omega (arith, ap length is, c.in_ok-full.ensures.full) in
    omega (arith, size, own, c.in_ok-child.ensures.count, c.requires.few)

pub returns-then-len-lt40-clause-items : goal.returns-then-len-lt40-clause-items
returns-then-len-lt40-clause-items g c first there items told goes built =
    let n0 = places (g.S.NodeSource.nodes c.args.store.now) in
    let one = c.args.item ∷ [] in
    let h = subst (λ p. Built g.T.Item g.M.Summer first p c.args.self.now items) (sym (told_places (g.S.NodeSource.nodes c.args.store.now) there told)) built in
    record {
      front = h.front;
      back = h.back ++ one;
      whole = ap (λ u. u ++ one) h.whole ∙ append_assoc h.front h.back one;
      at_front = h.at_front;
      at_back = ap (λ u. u ++ one) h.at_back ∙ sym c.in_ok-add_last.ensures;
    }

pub returns-then-len-lt40-clause-cut : goal.returns-then-len-lt40-clause-cut
returns-then-len-lt40-clause-cut g c there items taken told cutting =
    let i = g.T.Item in
    let n0 = places (g.S.NodeSource.nodes c.args.store.now) in
    let self = c.args.self.now in
    let h = subst (λ p. IsCutting i p self items taken) (sym (told_places (g.S.NodeSource.nodes c.args.store.now) there told)) cutting in
    let wait = cut_wait i Leaf n0 items self.leaf.items h.0 h.1 c.args.item h.3 in
    (taken, refl, (h.0, h.1, h.2, subst (λ l. IsCut i n0 Leaf (items ++ (c.args.item ∷ [])) l h.0 h.1) (sym c.in_ok-add_last.ensures) wait, h.4, h.5))

pub returns-then-len-lt40-clause-whole : goal.returns-then-len-lt40-clause-whole
returns-then-len-lt40-clause-whole g c =
    let w = c.requires.whole in
    let long = ap length c.in_ok-add_last.ensures ∙ length-append c.args.self.now.leaf.items (c.args.item ∷ []) in
    record { rows = w.rows; few = omega (arith, c.len.ensures, c.if-len-lt40.true); least = λ s. let eight = w.least s in omega (arith, long, eight) }

pub returns-then-len-lt40-clause-pushed : goal.returns-then-len-lt40-clause-pushed
returns-then-len-lt40-clause-pushed g c = omega (arith, ap length c.in_ok-add_last.ensures, length-append c.args.self.now.leaf.items (c.args.item ∷ []))

pub returns-then-len-lt40-clause-grows : goal.returns-then-len-lt40-clause-grows
returns-then-len-lt40-clause-grows g c = omega (arith, ap length c.in_ok-add_last.ensures, length-append c.args.self.now.leaf.items (c.args.item ∷ []))

pub returns-then-len-lt40-clause-usable : goal.returns-then-len-lt40-clause-usable
returns-then-len-lt40-clause-usable g c less = absurd (omega (arith, less, ap length c.in_ok-add_last.ensures, length-append c.args.self.now.leaf.items (c.args.item ∷ [])))

pub returns-then-len-lt40-clause-kept : goal.returns-then-len-lt40-clause-kept
returns-then-len-lt40-clause-kept g c = g.met.S.NodeSource.keeps c.args.store.now c.args.store.now (g.met.S.NodeSource.are_steps.none c.args.store.now)

pub returns-then-len-lt40-clause-ran : goal.returns-then-len-lt40-clause-ran
returns-then-len-lt40-clause-ran g c =
    let laws : Laws g.S.NodeSource g.M.Summer = record { store_steps = g.met.S.NodeSource.are_steps; store_keeps = g.met.S.NodeSource.keeps; store_caused = g.met.S.NodeSource.stays_caused; summer_steps = g.met.M.Summer.are_steps; summer_keeps = g.met.M.Summer.keeps; summer_caused = g.met.M.Summer.stays_caused; summer_asked = g.met.M.Summer.stays_asked; summer_gave = g.met.M.Summer.stays_given } in
    goes_none g.T.Item g.S.NodeSource g.M.Summer laws c.args.store.now c.args.summer.now

pub returns-clause-items : goal.returns-clause-items
returns-clause-items g c first there items told goes built =
    let laws : Laws g.S.NodeSource g.M.Summer = record { store_steps = g.met.S.NodeSource.are_steps; store_keeps = g.met.S.NodeSource.keeps; store_caused = g.met.S.NodeSource.stays_caused; summer_steps = g.met.M.Summer.are_steps; summer_keeps = g.met.M.Summer.keeps; summer_caused = g.met.M.Summer.stays_caused; summer_asked = g.met.M.Summer.stays_asked; summer_gave = g.met.M.Summer.stays_given } in
    let i = g.T.Item in
    let m = g.M.Summer in
    let s0 = c.args.store.now in
    let s1 = c.put_node.new.store in
    let s2 = c.hand.new.store in
    let u0 = c.args.summer.now in
    let u1 = c.put_node.new.summer in
    let u2 = c.hand.new.summer in
    let n0 = places (g.S.NodeSource.nodes s0) in
    let n1 = places (g.S.NodeSource.nodes s1) in
    let n2 = places (g.S.NodeSource.nodes s2) in
    let e01 = extends_on g.T.Item g.S.NodeSource m laws s0 s1 u0 u1 c.in_ok-child.ensures.ran in
    let e12 = extends_on g.T.Item g.S.NodeSource m laws s1 s2 u1 u2 c.in_ok-hand.ensures.ran in
    let self = c.args.self.now in
    let one = c.args.item ∷ [] in
    let list = c.replace-list.result.items in
    let full = c.in_ok-full.full.items in
    let rest = c.in_ok-full.rest.items in
    let pushed_list : list ≡ self.leaf.items ++ one = ap (λ v. v.items) c.replace-list.ensures.value ∙ c.in_ok-add_last.ensures in
    let cut : list ≡ full ++ rest = c.in_ok-full.ensures.whole in
    let is : c.from_vec.result ≡ full = c.from_vec.ensures in
    let size : length self.leaf.items + 1 ≡ 32 + length rest = omega (arith, ap length pushed_list, length-append self.leaf.items one, ap length cut, length-append full rest, c.in_ok-full.ensures.full) in
    let own : length c.from_vec.result ≡ 32 = omega (arith, ap length is, c.in_ok-full.ensures.full) in
    let h = subst (λ p. Built i m first p self items) (sym (told_places (g.S.NodeSource.nodes s0) there told)) built in
    let known : IsKnown i g.S.NodeSource m first u0 s0 = record { goes = goes; there = there; told = told } in
    let has : Has i m first n0 zero (Leaf c.from_vec.result) full = sym is in
    let fill : IsFilled Below (Leaf c.from_vec.result) = record { least = omega (arith, own); most = omega (arith, own) } in
    let child = c.in_ok-child.ensures.child first zero full known fill has in
    let rows1 = stacked_stays i m first n0 n1 e01 zero self.rows.items h.front h.at_front in
    let says = c.in_ok-hand.ensures.items first zero h.front full (known_on g.T.Item g.S.NodeSource m laws first s0 s1 u0 u1 known c.in_ok-child.ensures.ran) rows1 child in
    record {
      front = h.front ++ full;
      back = rest;
      whole = ap (λ u. u ++ one) h.whole ∙ append_assoc h.front h.back one ∙ ap (λ u. h.front ++ u) (ap (λ u. u ++ one) h.at_back ∙ sym pushed_list ∙ cut) ∙ sym (append_assoc h.front full rest);
      at_front = says;
      at_back = refl;
    }

pub returns-clause-cut : goal.returns-clause-cut
returns-clause-cut g c there items taken told cutting =
    let laws : Laws g.S.NodeSource g.M.Summer = record { store_steps = g.met.S.NodeSource.are_steps; store_keeps = g.met.S.NodeSource.keeps; store_caused = g.met.S.NodeSource.stays_caused; summer_steps = g.met.M.Summer.are_steps; summer_keeps = g.met.M.Summer.keeps; summer_caused = g.met.M.Summer.stays_caused; summer_asked = g.met.M.Summer.stays_asked; summer_gave = g.met.M.Summer.stays_given } in
    let i = g.T.Item in
    let m = g.M.Summer in
    let s0 = c.args.store.now in
    let s1 = c.put_node.new.store in
    let s2 = c.hand.new.store in
    let u0 = c.args.summer.now in
    let u1 = c.put_node.new.summer in
    let u2 = c.hand.new.summer in
    let n0 = places (g.S.NodeSource.nodes s0) in
    let n1 = places (g.S.NodeSource.nodes s1) in
    let n2 = places (g.S.NodeSource.nodes s2) in
    let e01 = extends_on g.T.Item g.S.NodeSource m laws s0 s1 u0 u1 c.in_ok-child.ensures.ran in
    let e12 = extends_on g.T.Item g.S.NodeSource m laws s1 s2 u1 u2 c.in_ok-hand.ensures.ran in
    let self = c.args.self.now in
    let one = c.args.item ∷ [] in
    let list = c.replace-list.result.items in
    let full = c.in_ok-full.full.items in
    let rest = c.in_ok-full.rest.items in
    let pushed_list : list ≡ self.leaf.items ++ one = ap (λ v. v.items) c.replace-list.ensures.value ∙ c.in_ok-add_last.ensures in
    let cut : list ≡ full ++ rest = c.in_ok-full.ensures.whole in
    let is : c.from_vec.result ≡ full = c.from_vec.ensures in
    let size : length self.leaf.items + 1 ≡ 32 + length rest = omega (arith, ap length pushed_list, length-append self.leaf.items one, ap length cut, length-append full rest, c.in_ok-full.ensures.full) in
    let own : length c.from_vec.result ≡ 32 = omega (arith, ap length is, c.in_ok-full.ensures.full) in
    let h = subst (λ p. IsCutting i p self items taken) (sym (told_places (g.S.NodeSource.nodes s0) there told)) cutting in
    let all = items ++ one in
    let child = c.in_ok-child.child in
    let mid = told_on (g.S.NodeSource.nodes s0) (g.S.NodeSource.nodes s1) there told (laws.store_keeps s0 s1 c.in_ok-child.ensures.ran.store) in
    let wait = subst (λ l. IsCut i n0 Leaf all l h.0 h.1) (sym pushed_list) (cut_wait i Leaf n0 items self.leaf.items h.0 h.1 c.args.item h.3) in
    let few : 8 ≤ length rest = omega (arith, size, ap length pushed_list, length-append self.leaf.items one, ap length c.in_ok-add_last.ensures, c.len.ensures, c.if-len-lt40.false) in
    let at = subst (λ ds. StandsAt i n1 child.at (Leaf ds)) is (c.in_ok-child.ensures.stored there told) in
    let put = pieces_size (spelled_node i.spelled (Leaf full) ∷ []) in
    let own = h.1 + put in
    let takes = c.in_ok-child.ensures.takes ∙ ap (λ ds. g.S.NodeSource.size s0 + pieces_size (spelled_node i.spelled (Leaf ds) ∷ [])) is in
    let cut1 = cut_put i Leaf n1 all list full rest h.0 h.1 child (cut_stays i Leaf n0 n1 e01 all list h.0 h.1 wait) cut c.in_ok-full.ensures.full few at in
    let up = c.in_ok-hand.ensures.climbs mid.0 h.0 h.2 mid.1 (climbs_stay i n0 n1 e01 self.rows.items [] h.0 h.2 h.4) in
    (own + up.0, grew_on (g.S.NodeSource.size s0) (g.S.NodeSource.size s1) (g.S.NodeSource.size s2) taken h.1 h.2 put up.0 h.5 takes up.1, (h.0 ++ (child ∷ []), own, up.0, cut_stays i Leaf n1 n2 e12 all rest (h.0 ++ (child ∷ [])) own cut1, up.2, refl))

pub returns-clause-whole : goal.returns-clause-whole
returns-clause-whole g c =
    let self = c.args.self.now in
    let one = c.args.item ∷ [] in
    let list = c.replace-list.result.items in
    let full = c.in_ok-full.full.items in
    let rest = c.in_ok-full.rest.items in
    let pushed_list : list ≡ self.leaf.items ++ one = ap (λ v. v.items) c.replace-list.ensures.value ∙ c.in_ok-add_last.ensures in
    let cut : list ≡ full ++ rest = c.in_ok-full.ensures.whole in
    let is : c.from_vec.result ≡ full = c.from_vec.ensures in
    let size : length self.leaf.items + 1 ≡ 32 + length rest = omega (arith, ap length pushed_list, length-append self.leaf.items one, ap length cut, length-append full rest, c.in_ok-full.ensures.full) in
    let own : length c.from_vec.result ≡ 32 = omega (arith, ap length is, c.in_ok-full.ensures.full) in
    let w = c.requires.whole in
    let eight : length rest ≡ 8 = omega (arith, size, w.few, ap length pushed_list, length-append self.leaf.items one, ap length c.in_ok-add_last.ensures, c.len.ensures, c.if-len-lt40.false) in
    record {
      rows = c.in_ok-hand.ensures.rows zero w.rows (omega (arith, own, c.in_ok-child.ensures.count));
      few = omega (arith, eight);
      least = λ s. omega (arith, eight);
    }

pub returns-clause-pushed : goal.returns-clause-pushed
returns-clause-pushed g c =
    let self = c.args.self.now in
    let one = c.args.item ∷ [] in
    let list = c.replace-list.result.items in
    let full = c.in_ok-full.full.items in
    let rest = c.in_ok-full.rest.items in
    let pushed_list : list ≡ self.leaf.items ++ one = ap (λ v. v.items) c.replace-list.ensures.value ∙ c.in_ok-add_last.ensures in
    let cut : list ≡ full ++ rest = c.in_ok-full.ensures.whole in
    let is : c.from_vec.result ≡ full = c.from_vec.ensures in
    let size : length self.leaf.items + 1 ≡ 32 + length rest = omega (arith, ap length pushed_list, length-append self.leaf.items one, ap length cut, length-append full rest, c.in_ok-full.ensures.full) in
    let own : length c.from_vec.result ≡ 32 = omega (arith, ap length is, c.in_ok-full.ensures.full) in
    omega (arith, size, own, c.in_ok-child.ensures.count, c.in_ok-hand.ensures.count)

pub returns-clause-kept : goal.returns-clause-kept
returns-clause-kept g c =
    let laws : Laws g.S.NodeSource g.M.Summer = record { store_steps = g.met.S.NodeSource.are_steps; store_keeps = g.met.S.NodeSource.keeps; store_caused = g.met.S.NodeSource.stays_caused; summer_steps = g.met.M.Summer.are_steps; summer_keeps = g.met.M.Summer.keeps; summer_caused = g.met.M.Summer.stays_caused; summer_asked = g.met.M.Summer.stays_asked; summer_gave = g.met.M.Summer.stays_given } in
    let ran = goes_on g.T.Item g.S.NodeSource g.M.Summer laws c.args.store.now c.put_node.new.store c.hand.new.store c.args.summer.now c.put_node.new.summer c.hand.new.summer c.in_ok-child.ensures.ran c.in_ok-hand.ensures.ran in
    laws.store_keeps c.args.store.now c.hand.new.store ran.store

pub returns-clause-grows : goal.returns-clause-grows
returns-clause-grows g c =
    let self = c.args.self.now in
    let one = c.args.item ∷ [] in
    let list = c.replace-list.result.items in
    let full = c.in_ok-full.full.items in
    let rest = c.in_ok-full.rest.items in
    let pushed_list : list ≡ self.leaf.items ++ one = ap (λ v. v.items) c.replace-list.ensures.value ∙ c.in_ok-add_last.ensures in
    let cut : list ≡ full ++ rest = c.in_ok-full.ensures.whole in
    let is : c.from_vec.result ≡ full = c.from_vec.ensures in
    let size : length self.leaf.items + 1 ≡ 32 + length rest = omega (arith, ap length pushed_list, length-append self.leaf.items one, ap length cut, length-append full rest, c.in_ok-full.ensures.full) in
    let own : length c.from_vec.result ≡ 32 = omega (arith, ap length is, c.in_ok-full.ensures.full) in
    omega (arith, size, own, c.in_ok-child.ensures.leaf, c.in_ok-hand.ensures.grows)

pub returns-clause-usable : goal.returns-clause-usable
returns-clause-usable g c less =
    let self = c.args.self.now in
    let one = c.args.item ∷ [] in
    let list = c.replace-list.result.items in
    let full = c.in_ok-full.full.items in
    let rest = c.in_ok-full.rest.items in
    let pushed_list : list ≡ self.leaf.items ++ one = ap (λ v. v.items) c.replace-list.ensures.value ∙ c.in_ok-add_last.ensures in
    let cut : list ≡ full ++ rest = c.in_ok-full.ensures.whole in
    let is : c.from_vec.result ≡ full = c.from_vec.ensures in
    let size : length self.leaf.items + 1 ≡ 32 + length rest = omega (arith, ap length pushed_list, length-append self.leaf.items one, ap length cut, length-append full rest, c.in_ok-full.ensures.full) in
    let own : length c.from_vec.result ≡ 32 = omega (arith, ap length is, c.in_ok-full.ensures.full) in
    c.in_ok-child.ensures.usable (omega (arith, own))

pub returns-clause-ran : goal.returns-clause-ran
returns-clause-ran g c =
    let laws : Laws g.S.NodeSource g.M.Summer = record { store_steps = g.met.S.NodeSource.are_steps; store_keeps = g.met.S.NodeSource.keeps; store_caused = g.met.S.NodeSource.stays_caused; summer_steps = g.met.M.Summer.are_steps; summer_keeps = g.met.M.Summer.keeps; summer_caused = g.met.M.Summer.stays_caused; summer_asked = g.met.M.Summer.stays_asked; summer_gave = g.met.M.Summer.stays_given } in
    goes_on g.T.Item g.S.NodeSource g.M.Summer laws c.args.store.now c.put_node.new.store c.hand.new.store c.args.summer.now c.put_node.new.summer c.hand.new.summer c.in_ok-child.ensures.ran c.in_ok-hand.ensures.ran

pub returns-in_err-hand-clause-ran : goal.returns-in_err-hand-clause-ran
returns-in_err-hand-clause-ran g c =
    let laws : Laws g.S.NodeSource g.M.Summer = record { store_steps = g.met.S.NodeSource.are_steps; store_keeps = g.met.S.NodeSource.keeps; store_caused = g.met.S.NodeSource.stays_caused; summer_steps = g.met.M.Summer.are_steps; summer_keeps = g.met.M.Summer.keeps; summer_caused = g.met.M.Summer.stays_caused; summer_asked = g.met.M.Summer.stays_asked; summer_gave = g.met.M.Summer.stays_given } in
    let p = err_from_is_err_and c.from_residual-in_err-hand.result c.from_residual-in_err-hand.ensures.1 in
    ran_err g.T.Item g.S.NodeSource g.M.Summer laws _ _ _ _ c.from_residual-in_err-hand.result c.in_err-hand.field-0.0 p.0 p.2 p.1 (fails_on g.T.Item g.S.NodeSource g.M.Summer laws c.args.store.now c.put_node.new.store c.hand.new.store c.args.summer.now c.put_node.new.summer c.hand.new.summer c.in_ok-child.ensures.ran _ c.in_err-hand.ensures.ran)

pub returns-in_err-add_last-clause-filled : goal.returns-in_err-add_last-clause-filled
returns-in_err-add_last-clause-filled g c = filled_none g.T.Item _ _ (g.S.NodeSource.puts c.args.store.now)

pub returns-then-len-lt40-clause-filled : goal.returns-then-len-lt40-clause-filled
returns-then-len-lt40-clause-filled g c = filled_none g.T.Item _ _ (g.S.NodeSource.puts c.args.store.now)

pub returns-in_err-full-clause-filled : goal.returns-in_err-full-clause-filled
returns-in_err-full-clause-filled g c = filled_none g.T.Item _ _ (g.S.NodeSource.puts c.args.store.now)

pub returns-in_err-add_last-clause-ran : goal.returns-in_err-add_last-clause-ran
returns-in_err-add_last-clause-ran g c =
    let laws : Laws g.S.NodeSource g.M.Summer = record { store_steps = g.met.S.NodeSource.are_steps; store_keeps = g.met.S.NodeSource.keeps; store_caused = g.met.S.NodeSource.stays_caused; summer_steps = g.met.M.Summer.are_steps; summer_keeps = g.met.M.Summer.keeps; summer_caused = g.met.M.Summer.stays_caused; summer_asked = g.met.M.Summer.stays_asked; summer_gave = g.met.M.Summer.stays_given } in
    let p = err_from_is_err_and c.from_residual.result c.from_residual.ensures.1 in
    ran_err g.T.Item g.S.NodeSource g.M.Summer laws _ _ _ _ c.from_residual.result tree_fault.NoMemory p.0 p.2 p.1 (goes_none g.T.Item g.S.NodeSource g.M.Summer laws c.args.store.now c.args.summer.now)

pub returns-in_err-add_last-clause-kept : goal.returns-in_err-add_last-clause-kept
returns-in_err-add_last-clause-kept g c =
    let laws : Laws g.S.NodeSource g.M.Summer = record { store_steps = g.met.S.NodeSource.are_steps; store_keeps = g.met.S.NodeSource.keeps; store_caused = g.met.S.NodeSource.stays_caused; summer_steps = g.met.M.Summer.are_steps; summer_keeps = g.met.M.Summer.keeps; summer_caused = g.met.M.Summer.stays_caused; summer_asked = g.met.M.Summer.stays_asked; summer_gave = g.met.M.Summer.stays_given } in
    kept_unless g.T.Item g.S.NodeSource g.M.Summer laws c.args.store.now c.args.store.now c.args.summer.now c.args.summer.now c.from_residual.result (returns-in_err-add_last-clause-ran g c)

pub returns-in_err-add_last-clause-ready : goal.returns-in_err-add_last-clause-ready
returns-in_err-add_last-clause-ready g c =
    let laws : Laws g.S.NodeSource g.M.Summer = record { store_steps = g.met.S.NodeSource.are_steps; store_keeps = g.met.S.NodeSource.keeps; store_caused = g.met.S.NodeSource.stays_caused; summer_steps = g.met.M.Summer.are_steps; summer_keeps = g.met.M.Summer.keeps; summer_caused = g.met.M.Summer.stays_caused; summer_asked = g.met.M.Summer.stays_asked; summer_gave = g.met.M.Summer.stays_given } in
    ready_unless g.T.Item g.S.NodeSource g.M.Summer laws g.met.S.NodeSource.stays_ready c.args.store.now c.args.store.now c.args.summer.now c.args.summer.now c.from_residual.result c.requires.ready (returns-in_err-add_last-clause-ran g c)

pub returns-in_err-full-clause-ran : goal.returns-in_err-full-clause-ran
returns-in_err-full-clause-ran g c =
    let laws : Laws g.S.NodeSource g.M.Summer = record { store_steps = g.met.S.NodeSource.are_steps; store_keeps = g.met.S.NodeSource.keeps; store_caused = g.met.S.NodeSource.stays_caused; summer_steps = g.met.M.Summer.are_steps; summer_keeps = g.met.M.Summer.keeps; summer_caused = g.met.M.Summer.stays_caused; summer_asked = g.met.M.Summer.stays_asked; summer_gave = g.met.M.Summer.stays_given } in
    let p = err_from_is_err_and c.from_residual-in_err-full.result c.from_residual-in_err-full.ensures.1 in
    ran_err g.T.Item g.S.NodeSource g.M.Summer laws _ _ _ _ c.from_residual-in_err-full.result tree_fault.NoMemory p.0 p.2 p.1 (goes_none g.T.Item g.S.NodeSource g.M.Summer laws c.args.store.now c.args.summer.now)

pub returns-in_err-full-clause-kept : goal.returns-in_err-full-clause-kept
returns-in_err-full-clause-kept g c =
    let laws : Laws g.S.NodeSource g.M.Summer = record { store_steps = g.met.S.NodeSource.are_steps; store_keeps = g.met.S.NodeSource.keeps; store_caused = g.met.S.NodeSource.stays_caused; summer_steps = g.met.M.Summer.are_steps; summer_keeps = g.met.M.Summer.keeps; summer_caused = g.met.M.Summer.stays_caused; summer_asked = g.met.M.Summer.stays_asked; summer_gave = g.met.M.Summer.stays_given } in
    kept_unless g.T.Item g.S.NodeSource g.M.Summer laws c.args.store.now c.args.store.now c.args.summer.now c.args.summer.now c.from_residual-in_err-full.result (returns-in_err-full-clause-ran g c)

pub returns-in_err-full-clause-ready : goal.returns-in_err-full-clause-ready
returns-in_err-full-clause-ready g c =
    let laws : Laws g.S.NodeSource g.M.Summer = record { store_steps = g.met.S.NodeSource.are_steps; store_keeps = g.met.S.NodeSource.keeps; store_caused = g.met.S.NodeSource.stays_caused; summer_steps = g.met.M.Summer.are_steps; summer_keeps = g.met.M.Summer.keeps; summer_caused = g.met.M.Summer.stays_caused; summer_asked = g.met.M.Summer.stays_asked; summer_gave = g.met.M.Summer.stays_given } in
    ready_unless g.T.Item g.S.NodeSource g.M.Summer laws g.met.S.NodeSource.stays_ready c.args.store.now c.args.store.now c.args.summer.now c.args.summer.now c.from_residual-in_err-full.result c.requires.ready (returns-in_err-full-clause-ran g c)

pub returns-in_err-child-clause-filled : goal.returns-in_err-child-clause-filled
returns-in_err-child-clause-filled g c =
    let own : length c.from_vec.result ≡ 32 = omega (arith, ap length c.from_vec.ensures, c.in_ok-full.ensures.full) in
    filled_wider g.T.Item _ _ 32 32 (omega (arith, own)) (omega (arith, own)) _ _ c.in_err-child.ensures.filled

pub returns-in_err-child-clause-ran : goal.returns-in_err-child-clause-ran
returns-in_err-child-clause-ran g c =
    let laws : Laws g.S.NodeSource g.M.Summer = record { store_steps = g.met.S.NodeSource.are_steps; store_keeps = g.met.S.NodeSource.keeps; store_caused = g.met.S.NodeSource.stays_caused; summer_steps = g.met.M.Summer.are_steps; summer_keeps = g.met.M.Summer.keeps; summer_caused = g.met.M.Summer.stays_caused; summer_asked = g.met.M.Summer.stays_asked; summer_gave = g.met.M.Summer.stays_given } in
    let p = err_from_is_err_and c.from_residual-in_err-child.result c.from_residual-in_err-child.ensures.1 in
    ran_err g.T.Item g.S.NodeSource g.M.Summer laws c.args.store.now c.put_node.new.store c.args.summer.now c.put_node.new.summer c.from_residual-in_err-child.result c.in_err-child.field-0.0 p.0 p.2 p.1 c.in_err-child.ensures.ran

pub returns-in_err-child-clause-kept : goal.returns-in_err-child-clause-kept
returns-in_err-child-clause-kept g c =
    let laws : Laws g.S.NodeSource g.M.Summer = record { store_steps = g.met.S.NodeSource.are_steps; store_keeps = g.met.S.NodeSource.keeps; store_caused = g.met.S.NodeSource.stays_caused; summer_steps = g.met.M.Summer.are_steps; summer_keeps = g.met.M.Summer.keeps; summer_caused = g.met.M.Summer.stays_caused; summer_asked = g.met.M.Summer.stays_asked; summer_gave = g.met.M.Summer.stays_given } in
    kept_unless g.T.Item g.S.NodeSource g.M.Summer laws c.args.store.now c.put_node.new.store c.args.summer.now c.put_node.new.summer c.from_residual-in_err-child.result (returns-in_err-child-clause-ran g c)

pub returns-in_err-child-clause-ready : goal.returns-in_err-child-clause-ready
returns-in_err-child-clause-ready g c =
    let laws : Laws g.S.NodeSource g.M.Summer = record { store_steps = g.met.S.NodeSource.are_steps; store_keeps = g.met.S.NodeSource.keeps; store_caused = g.met.S.NodeSource.stays_caused; summer_steps = g.met.M.Summer.are_steps; summer_keeps = g.met.M.Summer.keeps; summer_caused = g.met.M.Summer.stays_caused; summer_asked = g.met.M.Summer.stays_asked; summer_gave = g.met.M.Summer.stays_given } in
    ready_unless g.T.Item g.S.NodeSource g.M.Summer laws g.met.S.NodeSource.stays_ready c.args.store.now c.put_node.new.store c.args.summer.now c.put_node.new.summer c.from_residual-in_err-child.result c.requires.ready (returns-in_err-child-clause-ran g c)

pub returns-in_err-hand-clause-kept : goal.returns-in_err-hand-clause-kept
returns-in_err-hand-clause-kept g c =
    let laws : Laws g.S.NodeSource g.M.Summer = record { store_steps = g.met.S.NodeSource.are_steps; store_keeps = g.met.S.NodeSource.keeps; store_caused = g.met.S.NodeSource.stays_caused; summer_steps = g.met.M.Summer.are_steps; summer_keeps = g.met.M.Summer.keeps; summer_caused = g.met.M.Summer.stays_caused; summer_asked = g.met.M.Summer.stays_asked; summer_gave = g.met.M.Summer.stays_given } in
    kept_unless g.T.Item g.S.NodeSource g.M.Summer laws c.args.store.now c.hand.new.store c.args.summer.now c.hand.new.summer c.from_residual-in_err-hand.result (returns-in_err-hand-clause-ran g c)

pub returns-in_err-hand-clause-ready : goal.returns-in_err-hand-clause-ready
returns-in_err-hand-clause-ready g c =
    let laws : Laws g.S.NodeSource g.M.Summer = record { store_steps = g.met.S.NodeSource.are_steps; store_keeps = g.met.S.NodeSource.keeps; store_caused = g.met.S.NodeSource.stays_caused; summer_steps = g.met.M.Summer.are_steps; summer_keeps = g.met.M.Summer.keeps; summer_caused = g.met.M.Summer.stays_caused; summer_asked = g.met.M.Summer.stays_asked; summer_gave = g.met.M.Summer.stays_given } in
    ready_unless g.T.Item g.S.NodeSource g.M.Summer laws g.met.S.NodeSource.stays_ready c.args.store.now c.hand.new.store c.args.summer.now c.hand.new.summer c.from_residual-in_err-hand.result c.requires.ready (returns-in_err-hand-clause-ran g c)

pub returns-in_err-hand-clause-filled : goal.returns-in_err-hand-clause-filled
returns-in_err-hand-clause-filled g c =
    let own : length c.from_vec.result ≡ 32 = omega (arith, ap length c.from_vec.ensures, c.in_ok-full.ensures.full) in
    filled_on g.T.Item 32 32 (g.S.NodeSource.puts c.args.store.now) (g.S.NodeSource.puts c.put_node.new.store) (g.S.NodeSource.puts c.hand.new.store) (filled_wider g.T.Item _ _ 32 32 (omega (arith, own)) (omega (arith, own)) _ _ c.in_ok-child.ensures.filled) c.in_err-hand.ensures.filled

pub returns-clause-filled : goal.returns-clause-filled
returns-clause-filled g c =
    let own : length c.from_vec.result ≡ 32 = omega (arith, ap length c.from_vec.ensures, c.in_ok-full.ensures.full) in
    filled_on g.T.Item 32 32 (g.S.NodeSource.puts c.args.store.now) (g.S.NodeSource.puts c.put_node.new.store) (g.S.NodeSource.puts c.hand.new.store) (filled_wider g.T.Item _ _ 32 32 (omega (arith, own)) (omega (arith, own)) _ _ c.in_ok-child.ensures.filled) c.in_ok-hand.ensures.filled

pub returns-in_err-add_last-clause-sums : goal.returns-in_err-add_last-clause-sums
returns-in_err-add_last-clause-sums g c = had_none g.T.Item g.M.Summer (Contains (sums_of c.args.self.now)) c.args.summer.now c.args.summer.now (g.S.NodeSource.puts c.args.store.now)

pub returns-then-len-lt40-clause-sums : goal.returns-then-len-lt40-clause-sums
returns-then-len-lt40-clause-sums g c = had_none g.T.Item g.M.Summer (Contains (sums_of c.args.self.now)) c.args.summer.now c.args.summer.now (g.S.NodeSource.puts c.args.store.now)

pub returns-in_err-full-clause-sums : goal.returns-in_err-full-clause-sums
returns-in_err-full-clause-sums g c = had_none g.T.Item g.M.Summer (Contains (sums_of c.args.self.now)) c.args.summer.now c.args.summer.now (g.S.NodeSource.puts c.args.store.now)

pub returns-in_err-child-clause-sums : goal.returns-in_err-child-clause-sums
returns-in_err-child-clause-sums g c = c.in_err-child.ensures.sums c.args.summer.now (sums_of c.args.self.now) tt

pub returns-in_err-hand-clause-sums : goal.returns-in_err-hand-clause-sums
returns-in_err-hand-clause-sums g c =
    let laws : Laws g.S.NodeSource g.M.Summer = record { store_steps = g.met.S.NodeSource.are_steps; store_keeps = g.met.S.NodeSource.keeps; store_caused = g.met.S.NodeSource.stays_caused; summer_steps = g.met.M.Summer.are_steps; summer_keeps = g.met.M.Summer.keeps; summer_caused = g.met.M.Summer.stays_caused; summer_asked = g.met.M.Summer.stays_asked; summer_gave = g.met.M.Summer.stays_given } in
    let i = g.T.Item in let s = g.S.NodeSource in let m = g.M.Summer in let s0 = c.args.store.now in let u0 = c.args.summer.now in
    let u1 = c.put_node.new.summer in let u2 = c.hand.new.summer in let s1 = c.put_node.new.store in let s2 = c.hand.new.store in
    let rows0 = c.args.self.now.rows.items in
    let had = sums_of c.args.self.now in
    let own = rows_own i m had u0 u0 rows0 (All-contains_itself had) in
    let ran = c.in_ok-child.ensures.ran in
    let above = rows_on i m (Contains had) u0 u0 u1 (gave_goes s m laws u0 u0 u1 ran.summer) rows0 own in
    let child = c.in_ok-child.ensures.gave in
    had_both i m (Contains had) u0 u1 u2 (gave_fails s m laws u0 i s1 s2 u1 u2 c.in_err-hand.field-0.0 c.in_err-hand.ensures.ran) (s.puts s0) (s.puts s1) (s.puts s2) (c.in_ok-child.ensures.sums u0 had tt) (c.in_err-hand.ensures.sums u0 had ran.summer above (inr child))

pub returns-clause-sums : goal.returns-clause-sums
returns-clause-sums g c =
    let laws : Laws g.S.NodeSource g.M.Summer = record { store_steps = g.met.S.NodeSource.are_steps; store_keeps = g.met.S.NodeSource.keeps; store_caused = g.met.S.NodeSource.stays_caused; summer_steps = g.met.M.Summer.are_steps; summer_keeps = g.met.M.Summer.keeps; summer_caused = g.met.M.Summer.stays_caused; summer_asked = g.met.M.Summer.stays_asked; summer_gave = g.met.M.Summer.stays_given } in
    let i = g.T.Item in let s = g.S.NodeSource in let m = g.M.Summer in let s0 = c.args.store.now in let u0 = c.args.summer.now in
    let u1 = c.put_node.new.summer in let u2 = c.hand.new.summer in let s1 = c.put_node.new.store in let s2 = c.hand.new.store in
    let rows0 = c.args.self.now.rows.items in
    let had = sums_of c.args.self.now in
    let own = rows_own i m had u0 u0 rows0 (All-contains_itself had) in
    let ran = c.in_ok-child.ensures.ran in
    let above = rows_on i m (Contains had) u0 u0 u1 (gave_goes s m laws u0 u0 u1 ran.summer) rows0 own in
    let child = c.in_ok-child.ensures.gave in
    had_both i m (Contains had) u0 u1 u2 (gave_goes s m laws u0 u1 u2 c.in_ok-hand.ensures.ran.summer) (s.puts s0) (s.puts s1) (s.puts s2) (c.in_ok-child.ensures.sums u0 had tt) (c.in_ok-hand.ensures.sums u0 had ran.summer above (inr child))

pub returns-then-len-lt40-clause-held : goal.returns-then-len-lt40-clause-held
returns-then-len-lt40-clause-held g c =
    let laws : Laws g.S.NodeSource g.M.Summer = record { store_steps = g.met.S.NodeSource.are_steps; store_keeps = g.met.S.NodeSource.keeps; store_caused = g.met.S.NodeSource.stays_caused; summer_steps = g.met.M.Summer.are_steps; summer_keeps = g.met.M.Summer.keeps; summer_caused = g.met.M.Summer.stays_caused; summer_asked = g.met.M.Summer.stays_asked; summer_gave = g.met.M.Summer.stays_given } in
    let i = g.T.Item in let s = g.S.NodeSource in let m = g.M.Summer in let s0 = c.args.store.now in let u0 = c.args.summer.now in
    let rows0 = c.args.self.now.rows.items in
    let had = sums_of c.args.self.now in
    let own = rows_own i m had u0 u0 rows0 (All-contains_itself had) in
    own

pub returns-clause-held : goal.returns-clause-held
returns-clause-held g c =
    let laws : Laws g.S.NodeSource g.M.Summer = record { store_steps = g.met.S.NodeSource.are_steps; store_keeps = g.met.S.NodeSource.keeps; store_caused = g.met.S.NodeSource.stays_caused; summer_steps = g.met.M.Summer.are_steps; summer_keeps = g.met.M.Summer.keeps; summer_caused = g.met.M.Summer.stays_caused; summer_asked = g.met.M.Summer.stays_asked; summer_gave = g.met.M.Summer.stays_given } in
    let i = g.T.Item in let s = g.S.NodeSource in let m = g.M.Summer in let s0 = c.args.store.now in let u0 = c.args.summer.now in
    let u1 = c.put_node.new.summer in let u2 = c.hand.new.summer in let s1 = c.put_node.new.store in let s2 = c.hand.new.store in
    let rows0 = c.args.self.now.rows.items in
    let had = sums_of c.args.self.now in
    let own = rows_own i m had u0 u0 rows0 (All-contains_itself had) in
    let ran = c.in_ok-child.ensures.ran in
    let above = rows_on i m (Contains had) u0 u0 u1 (gave_goes s m laws u0 u0 u1 ran.summer) rows0 own in
    let child = c.in_ok-child.ensures.gave in
    c.in_ok-hand.ensures.held u0 had ran.summer above (inr child)
