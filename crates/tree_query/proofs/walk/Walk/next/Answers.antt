use Rattle.std.proofs.Common.{◌≡◌, ◌<◌, length, ◌++◌, ◌-◌, Some, take, sym, ap, subst, ◌∙◌, arith, refl}
use Rattle.std.proofs.lemmas.Result.{err_from_is_err_and}
use Rattle.tree_laws.specs.Values.{no_values}
use Rattle.tree_query.specs.Walking.{BringsOn, IsOver}
use Rattle.tree_query.proofs.Calls.{Laws, caused_err, ran_bad, ran_err, told_same, went_none}
use Rattle.tree_query.proofs.Reached.{none_unfit}
use Rattle.tree_query.proofs.Walks.{taken_first}
use Rattle.tree_query.specs.Numbers.{GoesFrom, HasNumber, edge_after, number_at}
use Rattle.tree_query.proofs.Leading.{down_err}
use Rattle.tree_query.proofs.Numbers.{at_hand_rest, first_found, found_stands}
use Rattle.tree_query.proofs.walk.Walk.next.Goals as goal

pub returns-clause-item : goal.returns-clause-item
returns-clause-item g c there x xs is-told h =
    let self = c.args.self.now in
    let k = c.in_ok-advance.ensures.brings there h.all is-told h.brings in
    let w = k.whole ∙ ap (λ u. u ++ k.back) k.at_front in
    let one = taken_first self.left x c.take_first-item.result xs c.take_first-item.new.list.items k.back h.all c.advance.new.self.leaf.items h.whole h.count w c.take_first-item.ensures in
    ap Some one.0

pub returns-clause-rest : goal.returns-clause-rest
returns-clause-rest g c there x xs is-told h =
    let i = g.T.Item in
    let self = c.args.self.now in
    let after = c.advance.new.self in
    let k = c.in_ok-advance.ensures.brings there h.all is-told h.brings in
    let w = k.whole ∙ ap (λ u. u ++ k.back) k.at_front in
    let rest = c.take_first-item.new.list.items in
    let one = taken_first self.left x c.take_first-item.result xs rest k.back h.all after.leaf.items h.whole h.count w c.take_first-item.ensures in
    let brings : BringsOn i self.descending there rest after.next after.rows.items (rest ++ k.back) = record { front = rest; back = k.back; whole = refl; at_front = refl; at_back = k.at_back } in
    record {
      all = rest ++ k.back;
      brings = subst (λ flag. BringsOn i flag there rest after.next after.rows.items (rest ++ k.back)) (sym c.in_ok-advance.ensures.order) brings;
      whole = subst (λ n. xs ≡ take (n - 1) (rest ++ k.back)) (sym c.in_ok-advance.ensures.left) one.1;
      count = omega (arith, h.count, c.in_ok-advance.ensures.left);
    }

pub returns-then-self-eq0-clause-ran : goal.returns-then-self-eq0-clause-ran
returns-then-self-eq0-clause-ran g c tree over =
    let i = g.T.Item in
    let s = g.S.NodeSource in
    let laws : Laws s = record { steps = g.met.S.NodeSource.are_steps; caused = g.met.S.NodeSource.stays_caused } in
    went_none i s laws tree c.args.store.now

pub returns-in_err-advance-clause-ran : goal.returns-in_err-advance-clause-ran
returns-in_err-advance-clause-ran g c tree over =
    let i = g.T.Item in
    let s = g.S.NodeSource in
    let laws : Laws s = record { steps = g.met.S.NodeSource.are_steps; caused = g.met.S.NodeSource.stays_caused } in
    let s0 = c.args.store.now in
    let told = s.nodes s0 in
    let q = c.from_residual in
    let p = err_from_is_err_and q.result q.ensures.1 in
    ran_err i s laws tree _ _ s0 c.advance.new.store q.result c.in_err-advance.field-0.0 p.0 p.2 p.1 (c.in_err-advance.ensures.ran tree over)

pub returns-in_err-advance-clause-sound : goal.returns-in_err-advance-clause-sound
returns-in_err-advance-clause-sound g c tree there items at is-told over is e =
    let i = g.T.Item in
    let s = g.S.NodeSource in
    let laws : Laws s = record { steps = g.met.S.NodeSource.are_steps; caused = g.met.S.NodeSource.stays_caused } in
    let s0 = c.args.store.now in
    let told = s.nodes s0 in
    let q = c.from_residual in
    let p = err_from_is_err_and q.result q.ensures.1 in
    let same-there = λ (other : _) (is' : told ≡ Some other). subst (λ o. IsOver i o tree c.args.self.now) (told_same told there other is-told is') over in
    let ran = ran_err i s laws tree _ _ s0 c.advance.new.store q.result c.in_err-advance.field-0.0 p.0 p.2 p.1 (c.in_err-advance.ensures.ran tree same-there) in
    none_unfit i no_values g.met.T.Item.one_spelling there tree items is at (ran_bad i s laws tree _ _ s0 c.advance.new.store there q.result at ran is-told e)

pub returns-clause-edge : goal.returns-clause-edge
returns-clause-edge g c tree there edge is-told h =
    let i = g.T.Item in
    let self = c.args.self.now in
    let after = c.advance.new.self in
    let x = c.take_first-item.result in
    let rest = c.take_first-item.new.list.items in
    let k = c.in_ok-advance.ensures.edge tree there edge h.to is-told h.goes in
    let at_hand = at_hand_rest i there tree self.descending after.leaf.items rest x edge k.mid c.take_first-item.ensures k.at_hand in
    let goes : GoesFrom i there tree self.descending rest after.next after.rows.items (edge_after self.descending edge (Some x)) h.to = record { mid = k.mid; at_hand = at_hand; finds = k.finds } in
    record { to = h.to; goes = subst (λ flag. GoesFrom i there tree flag rest after.next after.rows.items (edge_after self.descending edge (Some x)) h.to) (sym c.in_ok-advance.ensures.order) goes }

pub returns-clause-down : goal.returns-clause-down
returns-clause-down g c tree there edge is-told h left =
    let i = g.T.Item in
    let self = c.args.self.now in
    let flag = self.descending in
    let leaf = c.advance.new.self.leaf in
    let k = c.in_ok-advance.ensures.edge tree there edge h.to is-told h.goes in
    let full : 0 < length leaf.items = omega (arith, c.in_ok-advance.ensures.some, leaf.ok.0) in
    found_stands i there tree g.met.T.Item.one_spelling (number_at flag edge) (first_found i there tree flag leaf.items edge k.mid full k.at_hand)

pub returns-in_err-advance-clause-down : goal.returns-in_err-advance-clause-down
returns-in_err-advance-clause-down g c tree there edge is-told h left =
    let i = g.T.Item in
    let Picks = HasNumber (number_at c.args.self.now.descending edge) in
    let q = c.from_residual in
    let p = err_from_is_err_and q.result q.ensures.1 in
    down_err i there tree Picks q.result c.in_err-advance.field-0.0 p.0 p.2 p.1 (c.in_err-advance.ensures.gap tree there edge h.to is-told h.goes)

pub returns-then-self-eq0-clause-down : goal.returns-then-self-eq0-clause-down
returns-then-self-eq0-clause-down g c tree there edge is-told h left = absurd (omega (arith, left, c.if-self-eq0.true))

pub returns-then-self-eq0-clause-cause : goal.returns-then-self-eq0-clause-cause
returns-then-self-eq0-clause-cause g c = g.met.S.NodeSource.are_steps.none c.args.store.now

pub returns-in_err-advance-clause-cause : goal.returns-in_err-advance-clause-cause
returns-in_err-advance-clause-cause g c =
    let i = g.T.Item in
    let s = g.S.NodeSource in
    let laws : Laws s = record { steps = g.met.S.NodeSource.are_steps; caused = g.met.S.NodeSource.stays_caused } in
    let s0 = c.args.store.now in
    let q = c.from_residual in
    let p = err_from_is_err_and q.result q.ensures.1 in
    caused_err s laws s0 c.advance.new.store q.result c.in_err-advance.field-0.0 p.0 p.2 p.1 c.in_err-advance.ensures.cause

pub returns-then-self-eq0-clause-edge : goal.returns-then-self-eq0-clause-edge
returns-then-self-eq0-clause-edge g c tree there edge is-told h = h
