use Rattle.std.proofs.Common.{◌≡◌, ◌<◌, arith, ◌++◌, [], Some, sym, ap, subst, ◌∙◌, append_assoc, refl}
use Rattle.std.proofs.lemmas.List.{append-nil}
use Rattle.std.proofs.lemmas.List.Elements.{All-append, All-nil}
use Rattle.std.proofs.lemmas.Result.{err_from_is_err_and}
use Rattle.tree_laws.specs.declared.tree.Fill.TheVariants.{Below}
use Rattle.tree_laws.specs.Reaching.{IsMet}
use Rattle.tree_laws.specs.Values.{no_values}
use Rattle.tree_query.specs.Bare.{HasItems}
use Rattle.tree_query.specs.Reaching.{AreReached}
use Rattle.tree_query.specs.Walking.{Ahead, AreOver, Finds, FindsReached, turned}
use Rattle.tree_query.specs.declared.walk.WalkRow.{WalkRow}
use Rattle.tree_query.proofs.Calls.{Laws, caused_err, caused_on, fails_on, no_memory, ran_err, went_on}
use Rattle.tree_query.proofs.Reached.{has_got, node_met}
use Rattle.tree_query.proofs.Walks.{ahead_append}
use Rattle.tree_query.specs.Leading.{IsGap}
use Rattle.tree_query.specs.Numbers.{FindsNext, HasNumber, number_at}
use Rattle.tree_query.proofs.Leading.{blames_err, gap_at}
use Rattle.tree_query.proofs.Numbers.{child_got, child_past, next_leads, past_here, rows_append, rows_none}
use Rattle.tree_query.proofs.walk.refill.Goals as goal

pub returns-in-None-clause-ran : goal.returns-in-None-clause-ran
returns-in-None-clause-ran g c tree later over =
    let i = g.T.Item in
    let s = g.S.NodeSource in
    let laws : Laws s = record { steps = g.met.S.NodeSource.are_steps; caused = g.met.S.NodeSource.stays_caused } in
    let s0 = c.args.store.now in
    let told = s.nodes s0 in
    no_memory i s laws tree s0

pub returns-then-level-height-clause-ran : goal.returns-then-level-height-clause-ran
returns-then-level-height-clause-ran g c tree later over =
    let i = g.T.Item in
    let s = g.S.NodeSource in
    let laws : Laws s = record { steps = g.met.S.NodeSource.are_steps; caused = g.met.S.NodeSource.stays_caused } in
    let s0 = c.args.store.now in
    let told = s.nodes s0 in
    no_memory i s laws tree s0

pub returns-then-count-eq0-clause-ran : goal.returns-then-count-eq0-clause-ran
returns-then-count-eq0-clause-ran g c tree later over =
    let i = g.T.Item in
    let s = g.S.NodeSource in
    let laws : Laws s = record { steps = g.met.S.NodeSource.are_steps; caused = g.met.S.NodeSource.stays_caused } in
    let s0 = c.args.store.now in
    let told = s.nodes s0 in
    no_memory i s laws tree s0

pub returns-in_err-node-clause-ran : goal.returns-in_err-node-clause-ran
returns-in_err-node-clause-ran g c tree later over =
    let i = g.T.Item in
    let s = g.S.NodeSource in
    let laws : Laws s = record { steps = g.met.S.NodeSource.are_steps; caused = g.met.S.NodeSource.stays_caused } in
    let s0 = c.args.store.now in
    let told = s.nodes s0 in
    let found = c.in-Some.found in
    let child = found.child in
    let level = found.level in
    let reached = λ (there : _) (is : told ≡ Some there). (subst (λ f. FindsReached i there tree f later) c.in-Some.is (over there is)).0 in
    let q = c.from_residual in
    let p = err_from_is_err_and q.result q.ensures.1 in
    ran_err i s laws tree _ _ s0 c.fetch.new.store q.result c.in_err-node.field-0.0 p.0 p.2 p.1 (c.in_err-node.ensures.ran tree reached)

pub returns-in_err-leaf-clause-ran : goal.returns-in_err-leaf-clause-ran
returns-in_err-leaf-clause-ran g c tree later over =
    let i = g.T.Item in
    let s = g.S.NodeSource in
    let laws : Laws s = record { steps = g.met.S.NodeSource.are_steps; caused = g.met.S.NodeSource.stays_caused } in
    let s0 = c.args.store.now in
    let told = s.nodes s0 in
    let found = c.in-Some.found in
    let child = found.child in
    let level = found.level in
    let reached = λ (there : _) (is : told ≡ Some there). (subst (λ f. FindsReached i there tree f later) c.in-Some.is (over there is)).0 in
    let same = c.in_ok-node.ensures.reads.nodes in
    let met = node_met i tree told child.at level child.count Below c.in_ok-node.node reached c.in_ok-node.ensures.stands in
    let q = c.from_residual-in_err-leaf in
    let p = err_from_is_err_and q.result q.ensures.1 in
    ran_err i s laws tree _ _ s0 c.go_to.new.store q.result c.in_err-leaf.field-0.0 p.0 p.2 p.1
    (fails_on i s laws tree _ s0 c.fetch.new.store c.go_to.new.store _ same (c.in_ok-node.ensures.ran tree reached) (c.in_err-leaf.ensures.ran tree child.at (λ there is. met there (sym same ∙ is))))

pub returns-clause-ran : goal.returns-clause-ran
returns-clause-ran g c tree later over =
    let i = g.T.Item in
    let s = g.S.NodeSource in
    let laws : Laws s = record { steps = g.met.S.NodeSource.are_steps; caused = g.met.S.NodeSource.stays_caused } in
    let s0 = c.args.store.now in
    let told = s.nodes s0 in
    let found = c.in-Some.found in
    let child = found.child in
    let level = found.level in
    let reached = λ (there : _) (is : told ≡ Some there). (subst (λ f. FindsReached i there tree f later) c.in-Some.is (over there is)).0 in
    let same = c.in_ok-node.ensures.reads.nodes in
    let met = node_met i tree told child.at level child.count Below c.in_ok-node.node reached c.in_ok-node.ensures.stands in
    went_on i s laws tree s0 c.fetch.new.store c.go_to.new.store same (c.in_ok-node.ensures.ran tree reached) (c.in_ok-leaf.ensures.ran tree child.at (λ there is. met there (sym same ∙ is)))

pub returns-clause-over : goal.returns-clause-over
returns-clause-over g c tree there later is-told over =
    let i = g.T.Item in
    let found = c.in-Some.found in
    let child = found.child in
    let level = found.level in
    let says = subst (λ f. FindsReached i there tree f later) c.in-Some.is over in
    let met : IsMet i there tree child.at level c.in_ok-node.node = record { count = child.count; fill = Below; reached = says.0; stands = c.in_ok-node.ensures.stands there is-told } in
    let none = subst (AreOver i there tree) (sym c.new-rows.ensures.items) (All-nil _) in
    let fresh = c.in_ok-leaf.ensures.over tree child.at there (c.in_ok-node.ensures.reads.nodes ∙ is-told) met none in
    All-append (λ (row : WalkRow _). AreReached i there tree row.level row.children) later c.go_to.new.rows.items says.1 fresh

pub returns-clause-items : goal.returns-clause-items
returns-clause-items g c there later items is-told h =
    let i = g.T.Item in
    let flag = c.args.descending in
    let found = c.in-Some.found in
    let child = found.child in
    let level = found.level in
    let fresh = c.go_to.new.rows.items in
    let says : Finds i flag there (Some found) later items = subst (λ f. Finds i flag there f later items) c.in-Some.is h in
    let has : HasItems i there level c.in_ok-node.node (turned flag says.front) = has_got i no_values g.met.T.Item.one_spelling there (HasItems i there level) child.at level child.count Below Below (turned flag says.front) c.in_ok-node.node (c.in_ok-node.ensures.stands there is-told) says.at_front.stands in
    let none : Ahead i flag there c.new-rows.result.items [] = subst (λ rs. Ahead i flag there rs []) (sym c.new-rows.ensures.items) refl in
    let r = c.in_ok-leaf.ensures.items there says.front [] (c.in_ok-node.ensures.reads.nodes ∙ is-told) has none in
    let e : says.front ≡ r.front ++ r.back = sym (append-nil says.front) ∙ r.whole in
    record {
      front = r.front;
      back = r.back ++ says.back;
      whole = says.whole ∙ ap (λ t. t ++ says.back) e ∙ append_assoc r.front r.back says.back;
      at_front = r.at_front;
      at_back = ahead_append i flag there later fresh r.back says.back r.at_back says.at_back;
    }

pub returns-clause-edge : goal.returns-clause-edge
returns-clause-edge g c tree there later from to is-told h =
    let i = g.T.Item in
    let flag = c.args.descending in
    let found = c.in-Some.found in
    let child = found.child in
    let level = found.level in
    let says : FindsNext i there tree flag (Some found) later from to = subst (λ f. FindsNext i there tree flag f later from to) c.in-Some.is h in
    let own = says.1 in
    let node = c.in_ok-node.node in
    let stands = c.in_ok-node.ensures.stands there is-told in
    let same = c.in_ok-node.ensures.reads.nodes in
    let got = child_got i there tree flag level child from says.0 node own stands in
    let long = child_past i there tree flag level child from says.0 node own stands in
    let none = rows_none i there tree flag c.new-rows.result.items says.0 c.new-rows.ensures.items in
    let k = c.in_ok-leaf.ensures.edge tree there child.at from says.0 from says.0 (same ∙ is-told) got long (past_here flag from) none in
    record { mid = k.mid; at_hand = k.at_hand; ahead = rows_append i there tree flag later c.go_to.new.rows.items k.mid says.0 to k.ahead says.2 }

pub returns-in_err-node-clause-gap : goal.returns-in_err-node-clause-gap
returns-in_err-node-clause-gap g c tree there later from to is-told h =
    let i = g.T.Item in
    let flag = c.args.descending in
    let found = c.in-Some.found in
    let child = found.child in
    let level = found.level in
    let says : FindsNext i there tree flag (Some found) later from to = subst (λ f. FindsNext i there tree flag f later from to) c.in-Some.is h in
    let own = says.1 in
    let Picks = HasNumber (number_at flag from) in
    let some : 0 < child.count = omega (arith, c.if-count-eq0.false) in
    let leads = next_leads i there tree flag level child from says.0 from 0 own (past_here flag from) some in
    let q = c.from_residual in
    let p = err_from_is_err_and q.result q.ensures.1 in
    blames_err (IsGap i there tree Picks) q.result c.in_err-node.field-0.0 p.0 p.2 p.1 (gap_at i there tree Picks child.at level child.count _ Below _ leads (c.in_err-node.ensures.bad there is-told))

pub returns-in_err-leaf-clause-gap : goal.returns-in_err-leaf-clause-gap
returns-in_err-leaf-clause-gap g c tree there later from to is-told h =
    let i = g.T.Item in
    let flag = c.args.descending in
    let found = c.in-Some.found in
    let child = found.child in
    let level = found.level in
    let says : FindsNext i there tree flag (Some found) later from to = subst (λ f. FindsNext i there tree flag f later from to) c.in-Some.is h in
    let own = says.1 in
    let node = c.in_ok-node.node in
    let stands = c.in_ok-node.ensures.stands there is-told in
    let same = c.in_ok-node.ensures.reads.nodes in
    let got = child_got i there tree flag level child from says.0 node own stands in
    let long = child_past i there tree flag level child from says.0 node own stands in
    let Picks = HasNumber (number_at flag from) in
    let q = c.from_residual-in_err-leaf in
    let p = err_from_is_err_and q.result q.ensures.1 in
    blames_err (IsGap i there tree Picks) q.result c.in_err-leaf.field-0.0 p.0 p.2 p.1 (c.in_err-leaf.ensures.gap tree there child.at from says.0 from (same ∙ is-told) got long (past_here flag from))

pub returns-in-None-clause-cause : goal.returns-in-None-clause-cause
returns-in-None-clause-cause g c = g.met.S.NodeSource.are_steps.none c.args.store.now

pub returns-then-level-height-clause-cause : goal.returns-then-level-height-clause-cause
returns-then-level-height-clause-cause g c = g.met.S.NodeSource.are_steps.none c.args.store.now

pub returns-then-count-eq0-clause-cause : goal.returns-then-count-eq0-clause-cause
returns-then-count-eq0-clause-cause g c = g.met.S.NodeSource.are_steps.none c.args.store.now

pub returns-in_err-node-clause-cause : goal.returns-in_err-node-clause-cause
returns-in_err-node-clause-cause g c =
    let i = g.T.Item in
    let s = g.S.NodeSource in
    let laws : Laws s = record { steps = g.met.S.NodeSource.are_steps; caused = g.met.S.NodeSource.stays_caused } in
    let s0 = c.args.store.now in
    let q = c.from_residual in
    let p = err_from_is_err_and q.result q.ensures.1 in
    caused_err s laws s0 c.fetch.new.store q.result c.in_err-node.field-0.0 p.0 p.2 p.1 c.in_err-node.ensures.cause

pub returns-in_err-leaf-clause-cause : goal.returns-in_err-leaf-clause-cause
returns-in_err-leaf-clause-cause g c =
    let i = g.T.Item in
    let s = g.S.NodeSource in
    let laws : Laws s = record { steps = g.met.S.NodeSource.are_steps; caused = g.met.S.NodeSource.stays_caused } in
    let s0 = c.args.store.now in
    let q = c.from_residual-in_err-leaf in
    let p = err_from_is_err_and q.result q.ensures.1 in
    caused_err s laws s0 c.go_to.new.store q.result c.in_err-leaf.field-0.0 p.0 p.2 p.1 (caused_on s laws s0 c.fetch.new.store c.go_to.new.store _ c.in_ok-node.ensures.cause c.in_err-leaf.ensures.cause)

pub returns-clause-cause : goal.returns-clause-cause
returns-clause-cause g c =
    let i = g.T.Item in
    let s = g.S.NodeSource in
    let laws : Laws s = record { steps = g.met.S.NodeSource.are_steps; caused = g.met.S.NodeSource.stays_caused } in
    let s0 = c.args.store.now in
    laws.steps.both s0 c.fetch.new.store c.go_to.new.store c.in_ok-node.ensures.cause c.in_ok-leaf.ensures.cause
