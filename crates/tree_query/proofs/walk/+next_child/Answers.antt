use Rattle.std.proofs.Common.{◌≡◌, ◌∷◌, ◌++◌, [], All, length, vec_len, sym, ap, subst, ◌∙◌, arith, append_assoc}
use Rattle.std.proofs.lemmas.List.Elements.{All-head, All-push, All-tail}
use Rattle.tree_laws.specs.declared.node.Child.{Child}
use Rattle.tree_laws.specs.declared.tree.Fill.TheVariants.{Below}
use Rattle.tree_laws.specs.Reaching.{Reaches}
use Rattle.tree_query.specs.Bare.{StandItems}
use Rattle.tree_query.specs.Reaching.{AreReached}
use Rattle.tree_query.specs.Walking.{Ahead, AreTurned, Finds}
use Rattle.tree_query.proofs.Lists.{none_from_test, none_long}
use Rattle.tree_query.proofs.Walks.{ahead_pop, ahead_push, all_back, all_front, turned_none}
use Rattle.tree_query.specs.declared.walk.WalkRow.{WalkRow}
use Rattle.tree_query.specs.Numbers.{AreNext, RowsNext}
use Rattle.tree_query.proofs.Numbers.{next_none, rows_pop, rows_push}
use Rattle.tree_query.proofs.walk.+next_child.Goals as goal

pub push_reserved-requires : goal.push_reserved-requires
push_reserved-requires g t c = omega (arith, c.in-Some.ensures.cases, c.in-Some.ensures.capacity, c.args.rows.now.ok.1)

pub returns-then-is_empty-clause-items : goal.returns-then-is_empty-clause-items
returns-then-is_empty-clause-items g t c there flag items h =
    let i = g.T.Item in
    let row = c.in-Some.row in
    let P = StandItems i there row.level in
    let k = ahead_pop i flag there c.pop.new.self.items row items (subst (λ rs. Ahead i flag there rs items) c.in-Some.ensures.items h) in
    let len : length c.into_vec-rest.result.items ≡ 0 = let v = none_from_test (vec_len c.into_vec-rest.result) c.is_empty.result c.is_empty.ensures c.if-is_empty.true in omega (arith, v) in
    let none : row.children ≡ [] = sym c.into_vec-rest.ensures ∙ none_long c.into_vec-rest.result.items len in
    let x : k.front ≡ [] = turned_none flag P row.children k.front k.at_front none in
    let whole : items ≡ k.back = k.whole ∙ ap (λ t. t ++ k.back) x in
    subst (Finds i flag there c.next_child.result c.next_child.new.rows.items) (sym whole) (c.next_child.ensures.items there flag k.back k.at_back)

pub returns-then-is_empty-clause-over : goal.returns-then-is_empty-clause-over
returns-then-is_empty-clause-over g t c there tree h =
    let i = g.T.Item in
    let P = λ (row : WalkRow _). AreReached i there tree row.level row.children in
    c.next_child.ensures.over there tree (all_front P c.pop.new.self.items (c.in-Some.row ∷ []) (subst (All P) c.in-Some.ensures.items h))

pub returns-clause-items : goal.returns-clause-items
returns-clause-items g t c there flag items h =
    let i = g.T.Item in
    let row = c.in-Some.row in
    let P = StandItems i there row.level in
    let child = c.take_first-child.result in
    let rest = c.take_first-child.new.list.items in
    let left : WalkRow _ = record { level = row.level; children = c.from_vec.result } in
    let k = ahead_pop i flag there c.pop.new.self.items row items (subst (λ rs. Ahead i flag there rs items) c.in-Some.ensures.items h) in
    let some : row.children ≡ child ∷ rest = sym c.into_vec-rest.ensures ∙ c.take_first-child.ensures in
    let kk : AreTurned flag P (child ∷ rest) k.front = subst (λ ds. AreTurned flag P ds k.front) some k.at_front in
    let own : AreTurned flag P c.from_vec.result kk.back = subst (λ ds. AreTurned flag P ds kk.back) (sym c.from_vec.ensures) kk.at_back in
    record {
      front = kk.front;
      back = kk.back ++ k.back;
      whole = k.whole ∙ ap (λ t. t ++ k.back) kk.whole ∙ append_assoc kk.front kk.back k.back;
      at_front = kk.at_front;
      at_back = subst (λ rs. Ahead i flag there rs (kk.back ++ k.back)) (sym c.push_reserved.ensures.items) (ahead_push i flag there c.pop.new.self.items left kk.back k.back own k.at_back);
    }

pub returns-clause-over : goal.returns-clause-over
returns-clause-over g t c there tree h =
    let i = g.T.Item in
    let row = c.in-Some.row in
    let child = c.take_first-child.result in
    let rest = c.take_first-child.new.list.items in
    let left : WalkRow _ = record { level = row.level; children = c.from_vec.result } in
    let P = λ (row : WalkRow _). AreReached i there tree row.level row.children in
    let R = λ (d : Child _). Reaches i there tree d.at row.level d.count Below in
    let rows = subst (All P) c.in-Some.ensures.items h in
    let some : row.children ≡ child ∷ rest = sym c.into_vec-rest.ensures ∙ c.take_first-child.ensures in
    let own = subst (All R) some (All-head P row [] (all_back P c.pop.new.self.items (row ∷ []) rows)) in
    let after = subst (All R) (sym c.from_vec.ensures) (All-tail R child rest own) in
    (All-head R child rest own, subst (All P) (sym c.push_reserved.ensures.items) (All-push P c.pop.new.self.items left (all_front P c.pop.new.self.items (row ∷ []) rows) after))

pub returns-then-is_empty-clause-edge : goal.returns-then-is_empty-clause-edge
returns-then-is_empty-clause-edge g t c there tree flag from to h =
    let i = g.T.Item in
    let row = c.in-Some.row in
    let k = rows_pop i there tree flag c.pop.new.self.items row from to (subst (λ rs. RowsNext i there tree flag rs from to) c.in-Some.ensures.items h) in
    let len : length c.into_vec-rest.result.items ≡ 0 = let v = none_from_test (vec_len c.into_vec-rest.result) c.is_empty.result c.is_empty.ensures c.if-is_empty.true in omega (arith, v) in
    let none : row.children ≡ [] = sym c.into_vec-rest.ensures ∙ none_long c.into_vec-rest.result.items len in
    let same = next_none i there tree flag row.level row.children from k.mid none k.own in
    c.next_child.ensures.edge there tree flag from to (subst (λ n. RowsNext i there tree flag c.pop.new.self.items n to) (sym same) k.others)

pub returns-clause-edge : goal.returns-clause-edge
returns-clause-edge g t c there tree flag from to h =
    let i = g.T.Item in
    let row = c.in-Some.row in
    let child = c.take_first-child.result in
    let rest = c.take_first-child.new.list.items in
    let left : WalkRow _ = record { level = row.level; children = c.from_vec.result } in
    let k = rows_pop i there tree flag c.pop.new.self.items row from to (subst (λ rs. RowsNext i there tree flag rs from to) c.in-Some.ensures.items h) in
    let some : row.children ≡ child ∷ rest = sym c.into_vec-rest.ensures ∙ c.take_first-child.ensures in
    let kk : AreNext i there tree flag row.level (child ∷ rest) from k.mid = subst (λ ds. AreNext i there tree flag row.level ds from k.mid) some k.own in
    let own : AreNext i there tree flag row.level c.from_vec.result kk.0 k.mid = subst (λ ds. AreNext i there tree flag row.level ds kk.0 k.mid) (sym c.from_vec.ensures) kk.2 in
    (kk.0, kk.1, subst (λ rs. RowsNext i there tree flag rs kk.0 to) (sym c.push_reserved.ensures.items) (rows_push i there tree flag c.pop.new.self.items left kk.0 k.mid to own k.others))

pub returns-in-None-clause-edge : goal.returns-in-None-clause-edge
returns-in-None-clause-edge g t c there tree flag from to h =
    let none : c.args.rows.now.items ≡ [] = none_long c.args.rows.now.items (omega (arith, c.in-None.ensures.cases.0, c.args.rows.now.ok.0)) in
    subst (λ rs. RowsNext g.T.Item there tree flag rs from to) none h
