use Rattle.std.proofs.Common.{◌==◌, vec_len, arith, ◌≡◌, ◌≢◌, ◌∷◌, ◌++◌, take, drop, sym, ap, ◌∙◌, append_assoc, All, true, subst, length}
use Rattle.std.proofs.lemmas.List.{take-append-drop}
use Rattle.std.specs.declared.cmp.Ordering.TheVariants.{Less, Equal}
use Rattle.reduce_tree.specs.Applied.{applied, edit_key, placed_of, IsWithoutEqual, RemoveNone}
use Rattle.reduce_tree.proofs.Order.{sorted_back, first_of_rest}
use Rattle.reduce_tree.proofs.Applied.{applied_first, without_sorted}
use Rattle.reduce_tree.proofs.Quiet.{names_none, none_dropped, none_of_first, none_of_others, places_none}
use Rattle.reduce_tree.proofs.leaf.merge_one.Goals as goal

pub returns-clause-items : goal.returns-clause-items
returns-clause-items g c es s =
    let order = g.T.Item.order in
    let edit = c.args.edit.now in
    let key = edit_key edit in
    let xs = c.args.items.items in
    let at = c.count_below-at.result in
    let e : take at xs ++ drop at xs ≡ xs = take-append-drop at xs in
    let h = rw (c.deref.ensures.value, c.key.ensures) at c.count_below-at.ensures in
    let n : (x : _) (rest : _) → drop at xs ≡ x ∷ rest → order x key ≢ Less =
    λ x rest f l. let r = first_of_rest xs at x rest f in h.stops x r.0 (rw r.1 l) in
    let w : IsWithoutEqual order key (drop at xs) c.drop_equal-kept.new.items.items = rw (c.in_ok-rest.ensures.tail, c.key-2.ensures) at c.drop_equal-kept.ensures.kept in
    let all : applied order (edit ∷ es) (take at xs ++ drop at xs) ≡ take at xs ++ (placed_of edit ++ applied order es c.drop_equal-kept.new.items.items) =
    applied_first order g.met.T.Item.is_total edit es (take at xs) (drop at xs) c.drop_equal-kept.new.items.items (rw e s) h.below n w in
    let all' : applied order (edit ∷ es) xs ≡ take at xs ++ (placed_of edit ++ applied order es c.drop_equal-kept.new.items.items) = ap (λ ys. applied order (edit ∷ es) ys) (sym e) ∙ all in
    let list : c.append-2.new.self.items ≡ (c.args.done.now.items ++ take at xs) ++ placed_of edit = cc (c.in_ok-append-2.ensures.items, c.in_ok-append.ensures.items, c.in_ok-rest.ensures.items, c.in_ok-placed.ensures) in
    let a = append_assoc (c.args.done.now.items ++ take at xs) (placed_of edit) (applied order es c.drop_equal-kept.new.items.items) in
    let b = append_assoc c.args.done.now.items (take at xs) (placed_of edit ++ applied order es c.drop_equal-kept.new.items.items) in
    ap (λ t. t ++ applied order es c.drop_equal-kept.new.items.items) list ∙ a ∙ b ∙ ap (λ t. c.args.done.now.items ++ t) (sym all')

pub returns-clause-sorted : goal.returns-clause-sorted
returns-clause-sorted g c s =
    let order = g.T.Item.order in
    let key = edit_key c.args.edit.now in
    let xs = c.args.items.items in
    let at = c.count_below-at.result in
    let e : take at xs ++ drop at xs ≡ xs = take-append-drop at xs in
    let w : IsWithoutEqual order key (drop at xs) c.drop_equal-kept.new.items.items = rw (c.in_ok-rest.ensures.tail, c.key-2.ensures) at c.drop_equal-kept.ensures.kept in
    without_sorted order key (drop at xs) c.drop_equal-kept.new.items.items (sorted_back order (take at xs) (drop at xs) (rw e s)) w

pub returns-clause-quiet : goal.returns-clause-quiet
returns-clause-quiet g c es h =
    let order = g.T.Item.order in
    let edit = c.args.edit.now in
    let xs = c.args.items.items in
    let at = c.count_below-at.result in
    let left = none_dropped order at xs (edit ∷ es) h in
    let named : All (λ x. order x (edit_key edit) ≢ Equal) (drop at xs) = names_none order edit (drop at xs) (none_of_first order edit es (drop at xs) left) in
    let says = rw (c.in_ok-rest.ensures.tail, c.key-2.ensures) at c.drop_equal-kept.ensures.quiet in
    let kept : c.drop_equal-kept.result ≡ true = says named in
    let list : c.drop_equal-kept.new.items.items ≡ drop at xs = c.drop_equal-kept.ensures.same kept ∙ c.in_ok-rest.ensures.tail in
    let z = places_none order edit (drop at xs) (none_of_first order edit es (drop at xs) left) in
    let n : vec_len c.in_ok-placed.placed ≡ 0 = omega (arith, ap length c.in_ok-placed.ensures, z) in
    let none : c.is_empty.result ≡ true = c.is_empty.ensures ∙ ap (λ k. k == 0) n in
    (c.both-same.ensures.both kept none, subst (λ ys. RemoveNone order es ys) (sym list) (none_of_others order edit es (drop at xs) left))
