-- The first documents of an update make the children ready, and the next ones go on.
use Rattle.std.proofs.Common.{◌≡◌, ◌≢◌, ◌==◌, List, [], ◌∷◌, false, length, Err, sym, ◌∙◌}
use Rattle.child_pool.specs.Firsts.{FollowsFirst}
use Rattle.child_pool.proofs.Nexts.{at_first, begins_so, begun, next_follows, none_is, some_is, some_then, unready}
use Rattle.child_pool.proofs.pool.Pool.map_next.Goals as goal

-- documents of which the number isn't 0
some_documents : {X : Type 0} (xs : List X) → (length xs == 0) ≡ false → xs ≢ []
some_documents [] other = λ none. cc
some_documents (x ∷ xs) other = λ none. cc

pub returns-then-begun-clause-went : goal.returns-then-begun-clause-went
returns-then-begun-clause-went g c = λ old made done lists is first.
    let now = c.args.servers.now in
    let new = c.map_batch.new.servers in
    let pool = c.args.self.now in
    let documents = c.args.documents.now in
    let ends = c.map_batch.ensures.ends in
    let some = some_is done (sym c.if-begun.true ∙ is) in
    next_follows g.C.Servers c.args.design.now old now new made pool c.map_batch.new.self done documents lists first.keeps first.later ends.later
    (begun g.C.Servers c.args.design.now old now made pool done documents lists first some) (some_then done documents some) ends.keeps
    c.map_batch.result c.map_batch.ensures.went c.map_batch.ensures.remembers

pub returns-in-Ok-clause-went : goal.returns-in-Ok-clause-went
returns-in-Ok-clause-went g c = λ old made done lists is first.
    let s = g.C.Servers in
    let design = c.args.design.now in
    let now = c.args.servers.now in
    let mid = c.prepare.new.servers in
    let new = c.map_batch-in-Ok.new.servers in
    let pool = c.args.self.now in
    let ready = c.prepare.new.self in
    let result = c.map_batch-in-Ok.result in
    let documents = c.args.documents.now in
    let slots = c.slots_for-slots.result in
    let prepared = c.in-Ok.ensures.ends in
    let ends = c.map_batch-in-Ok.ensures.ends in
    let some = some_documents documents (sym c.is_empty.ensures ∙ c.if-is_empty.false) in
    let none = none_is done (sym c.if-begun.false ∙ is) in
    let idle = first.idle none in
    let follows : FollowsFirst s now new pool c.map_batch-in-Ok.new.self design documents [] result =
    next_follows s design now mid new pool ready c.map_batch-in-Ok.new.self [] documents [] prepared.keeps prepared.later ends.later
    (begins_so s design now mid pool ready documents slots c.slots_for-slots.ensures some c.in-Ok.ensures.went) some ends.keeps
    result c.map_batch-in-Ok.ensures.went c.map_batch-in-Ok.ensures.remembers in
    at_first s design now new pool c.map_batch-in-Ok.new.self documents result old made done lists none idle follows

pub returns-in-Err-clause-went : goal.returns-in-Err-clause-went
returns-in-Err-clause-went g c = λ old made done lists is first.
    let s = g.C.Servers in
    let design = c.args.design.now in
    let now = c.args.servers.now in
    let mid = c.prepare.new.servers in
    let pool = c.args.self.now in
    let documents = c.args.documents.now in
    let some = some_documents documents (sym c.is_empty.ensures ∙ c.if-is_empty.false) in
    let none = none_is done (sym c.if-begun.false ∙ is) in
    at_first s design now mid pool c.prepare.new.self documents (Err c.in-Err.fault) old made done lists none (first.idle none)
    (unready s design now mid pool c.prepare.new.self documents c.slots_for-slots.result c.slots_for-slots.ensures some c.in-Err.fault c.in-Err.ensures.went)
