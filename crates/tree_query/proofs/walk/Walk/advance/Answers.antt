use Rattle.std.specs.Prelude.{vec_capacity}
use Rattle.std.proofs.Common.{[], ◌≡◌, ◌≤◌, ◌++◌, ◌+◌, vec_len, sym, ap, subst, ◌∙◌, arith}
use Rattle.std.proofs.lemmas.Result.{err_from_is_err_and}
use Rattle.tree_laws.specs.declared.tree.TreeFault.TheVariants as tree_fault
use Rattle.tree_query.specs.Walking.{Ahead, AreOver, Finds}
use Rattle.tree_query.proofs.Calls.{Laws, caused_err, ran_err, went_no_memory, went_none}
use Rattle.tree_query.proofs.Lists.{none_from_test, none_long}
use Rattle.tree_query.specs.Leading.{IsGap}
use Rattle.tree_query.specs.Numbers.{FindsNext, HasNumber, RowsNext, number_at}
use Rattle.tree_query.proofs.Leading.{blames_err}
use Rattle.tree_query.proofs.Numbers.{nothing_at_hand}
use Rattle.tree_query.proofs.walk.Walk.advance.Goals as goal

pub overflow_add-count : goal.overflow_add-count
overflow_add-count g c =
    let rows = c.args.self.now.rows in
    let fresh = c.in_ok-leaf.fresh in
    omega (arith, c.len.ensures, c.len-2.ensures, rows.ok.1, rows.small, fresh.ok.1, fresh.small)

pub join_rows-all-requires-clause-room : goal.join_rows-all-requires-clause-room
join_rows-all-requires-clause-room g c =
    let rows = c.args.self.now.rows in
    let fresh = c.in_ok-leaf.fresh in
    let room = c.in_ok-room.room in
    let fits : vec_len rows + vec_len fresh ≤ vec_capacity room = omega (arith, c.in_ok-room.ensures.room, c.len.ensures, c.len-2.ensures) in
    subst (λ rs. vec_len rs + vec_len fresh ≤ vec_capacity room) (sym c.replace-rows.ensures.value) fits

pub returns-then-not-is_empty-clause-ran : goal.returns-then-not-is_empty-clause-ran
returns-then-not-is_empty-clause-ran g c tree over =
    let i = g.T.Item in
    let s = g.S.NodeSource in
    let laws : Laws s = record { steps = g.met.S.NodeSource.are_steps; caused = g.met.S.NodeSource.stays_caused } in
    let s0 = c.args.store.now in
    let told = s.nodes s0 in
    went_none i s laws tree s0

pub returns-in_err-leaf-clause-ran : goal.returns-in_err-leaf-clause-ran
returns-in_err-leaf-clause-ran g c tree over =
    let i = g.T.Item in
    let s = g.S.NodeSource in
    let laws : Laws s = record { steps = g.met.S.NodeSource.are_steps; caused = g.met.S.NodeSource.stays_caused } in
    let s0 = c.args.store.now in
    let told = s.nodes s0 in
    let q = c.from_residual in
    let p = err_from_is_err_and q.result q.ensures.1 in
    ran_err i s laws tree _ _ s0 c.refill.new.store q.result c.in_err-leaf.field-0.0 p.0 p.2 p.1 (c.in_err-leaf.ensures.ran tree c.args.self.now.rows.items over)

pub returns-in_err-room-clause-ran : goal.returns-in_err-room-clause-ran
returns-in_err-room-clause-ran g c tree over =
    let i = g.T.Item in
    let s = g.S.NodeSource in
    let laws : Laws s = record { steps = g.met.S.NodeSource.are_steps; caused = g.met.S.NodeSource.stays_caused } in
    let s0 = c.args.store.now in
    let told = s.nodes s0 in
    let q = c.from_residual-in_err-room in
    let p = err_from_is_err_and q.result q.ensures.1 in
    ran_err i s laws tree _ _ s0 c.refill.new.store q.result tree_fault.NoMemory p.0 p.2 p.1 (went_no_memory i s laws tree s0 c.refill.new.store (c.in_ok-leaf.ensures.ran tree c.args.self.now.rows.items over))

pub returns-clause-ran : goal.returns-clause-ran
returns-clause-ran g c tree over = c.in_ok-leaf.ensures.ran tree c.args.self.now.rows.items over

pub returns-clause-over : goal.returns-clause-over
returns-clause-over g c tree there is-told over =
    let i = g.T.Item in
    let self = c.args.self.now in
    let fresh = c.in_ok-leaf.fresh.items in
    let all : c.join_rows-all.result.items ≡ self.rows.items ++ fresh = subst (λ rs. c.join_rows-all.result.items ≡ rs.items ++ fresh) c.replace-rows.ensures.value c.join_rows-all.ensures in
    c.next_child.ensures.over there tree (subst (AreOver i there tree) (sym all) (c.in_ok-leaf.ensures.over tree there self.rows.items is-told over))

pub returns-clause-brings : goal.returns-clause-brings
returns-clause-brings g c there items is-told h =
    let i = g.T.Item in
    let self = c.args.self.now in
    let flag = self.descending in
    let fresh = c.in_ok-leaf.fresh.items in
    let none : self.leaf.items ≡ [] = none_long self.leaf.items (let v = none_from_test (vec_len self.leaf) c.is_empty.result c.is_empty.ensures c.if-not-is_empty.false in omega (arith, v, self.leaf.ok.0)) in
    let finds : Finds i flag there self.next self.rows.items items = subst (Finds i flag there self.next self.rows.items) (sym (h.whole ∙ ap (λ t. t ++ h.back) (h.at_front ∙ none))) h.at_back in
    let k = c.in_ok-leaf.ensures.items there self.rows.items items is-told finds in
    let all : c.join_rows-all.result.items ≡ self.rows.items ++ fresh = subst (λ rs. c.join_rows-all.result.items ≡ rs.items ++ fresh) c.replace-rows.ensures.value c.join_rows-all.ensures in
    record {
      front = k.front;
      back = k.back;
      whole = k.whole;
      at_front = k.at_front;
      at_back = c.next_child.ensures.items there flag k.back (subst (λ rs. Ahead i flag there rs k.back) (sym all) k.at_back);
    }

pub returns-clause-edge : goal.returns-clause-edge
returns-clause-edge g c tree there from to is-told h =
    let i = g.T.Item in
    let self = c.args.self.now in
    let flag = self.descending in
    let fresh = c.in_ok-leaf.fresh.items in
    let none : self.leaf.items ≡ [] = none_long self.leaf.items (let v = none_from_test (vec_len self.leaf) c.is_empty.result c.is_empty.ensures c.if-not-is_empty.false in omega (arith, v, self.leaf.ok.0)) in
    let here = nothing_at_hand i there tree flag self.leaf.items from h.mid none h.at_hand in
    let k = c.in_ok-leaf.ensures.edge tree there self.rows.items from to is-told (subst (λ n. FindsNext i there tree flag self.next self.rows.items n to) here h.finds) in
    let all : c.join_rows-all.result.items ≡ self.rows.items ++ fresh = subst (λ rs. c.join_rows-all.result.items ≡ rs.items ++ fresh) c.replace-rows.ensures.value c.join_rows-all.ensures in
    record { mid = k.mid; at_hand = k.at_hand; finds = c.next_child.ensures.edge there tree flag k.mid to (subst (λ rs. RowsNext i there tree flag rs k.mid to) (sym all) k.ahead) }

pub returns-in_err-leaf-clause-gap : goal.returns-in_err-leaf-clause-gap
returns-in_err-leaf-clause-gap g c tree there from to is-told h =
    let i = g.T.Item in
    let self = c.args.self.now in
    let flag = self.descending in
    let none : self.leaf.items ≡ [] = none_long self.leaf.items (let v = none_from_test (vec_len self.leaf) c.is_empty.result c.is_empty.ensures c.if-not-is_empty.false in omega (arith, v, self.leaf.ok.0)) in
    let here = nothing_at_hand i there tree flag self.leaf.items from h.mid none h.at_hand in
    let finds = subst (λ n. FindsNext i there tree flag self.next self.rows.items n to) here h.finds in
    let q = c.from_residual in
    let p = err_from_is_err_and q.result q.ensures.1 in
    blames_err (IsGap i there tree (HasNumber (number_at flag from))) q.result c.in_err-leaf.field-0.0 p.0 p.2 p.1 (c.in_err-leaf.ensures.gap tree there self.rows.items from to is-told finds)

pub returns-in_err-room-clause-gap : goal.returns-in_err-room-clause-gap
returns-in_err-room-clause-gap g c tree there from to is-told h =
    let q = c.from_residual-in_err-room in
    let p = err_from_is_err_and q.result q.ensures.1 in
    blames_err (IsGap g.T.Item there tree (HasNumber (number_at c.args.self.now.descending from))) q.result tree_fault.NoMemory p.0 p.2 p.1 tt

pub returns-then-not-is_empty-clause-cause : goal.returns-then-not-is_empty-clause-cause
returns-then-not-is_empty-clause-cause g c = g.met.S.NodeSource.are_steps.none c.args.store.now

pub returns-in_err-leaf-clause-cause : goal.returns-in_err-leaf-clause-cause
returns-in_err-leaf-clause-cause g c =
    let i = g.T.Item in
    let s = g.S.NodeSource in
    let laws : Laws s = record { steps = g.met.S.NodeSource.are_steps; caused = g.met.S.NodeSource.stays_caused } in
    let s0 = c.args.store.now in
    let q = c.from_residual in
    let p = err_from_is_err_and q.result q.ensures.1 in
    caused_err s laws s0 c.refill.new.store q.result c.in_err-leaf.field-0.0 p.0 p.2 p.1 c.in_err-leaf.ensures.cause

pub returns-in_err-room-clause-cause : goal.returns-in_err-room-clause-cause
returns-in_err-room-clause-cause g c =
    let i = g.T.Item in
    let s = g.S.NodeSource in
    let laws : Laws s = record { steps = g.met.S.NodeSource.are_steps; caused = g.met.S.NodeSource.stays_caused } in
    let s0 = c.args.store.now in
    let q = c.from_residual-in_err-room in
    let p = err_from_is_err_and q.result q.ensures.1 in
    caused_err s laws s0 c.refill.new.store q.result tree_fault.NoMemory p.0 p.2 p.1 c.in_ok-leaf.ensures.cause

pub returns-then-not-is_empty-clause-edge : goal.returns-then-not-is_empty-clause-edge
returns-then-not-is_empty-clause-edge g c tree there from to is-told h = h
