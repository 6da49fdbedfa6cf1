-- The documents are mapped, or all children are stopped.
use Rattle.std.specs.Prelude.{is_some}
use Rattle.std.proofs.Common.{◌≡◌, ◌<◌, ◌==◌, ◌∙◌, List, [], ◌∷◌, true, false, length, min, ap, refl, sym, subst, arith, eqb-true}
use Rattle.view_ports.specs.Faults.{Rose}
use Rattle.design_docs.specs.Design.{map_sources}
use Rattle.child_pool.specs.Jobs.{job_of}
use Rattle.child_pool.specs.PoolCalls.{path_for}
use Rattle.child_pool.proofs.Pooled.{mapped_pool, refused_pool, told_stand, unasked_batch}
use Rattle.child_pool.proofs.pool.Pool.map_batch.Goals as goal
use Rattle.child_pool.proofs.pool.Pool.map_batch.Goals.{else-is_empty-via-then-is_empty+else-knows, else-is_empty-via-else-is_empty}

-- documents of which the number is 0, or isn't
no_documents : {X : Type 0} (xs : List X) → (length xs == 0) ≡ true → xs ≡ []
no_documents [] is = refl
no_documents (x ∷ xs) is = absurd (let none : length (x ∷ xs) ≡ 0 = eqb-true (length (x ∷ xs)) 0 is in omega (arith, none))

some_documents : {X : Type 0} (xs : List X) → (length xs == 0) ≡ false → 0 < length xs
some_documents [] other = cc
some_documents (x ∷ xs) other = omega arith

pub returns-then-knows-clause-went : goal.returns-then-knows-clause-went
returns-then-knows-clause-went g c = λ path all slots calls follows known among within enough there told.
    let pool = c.args.self.now in
    let job = job_of path (map_sources c.args.design.now.views) all in
    let rose = Rose (g.C.Servers.faults c.args.servers.now) (g.C.Servers.faults c.args.servers.now) in
    let none = no_documents c.args.documents.now (sym c.is_empty.ensures ∙ c.if-is_empty.true) in
    unasked_batch g.C.Servers.functions g.C.Servers.honest job slots pool c.args.documents.now rose c.new.result none c.new.ensures follows there told

pub returns-in-Ok-clause-went : goal.returns-in-Ok-clause-went
returns-in-Ok-clause-went g c = λ path all slots calls follows known among within enough there told.
    let functions = g.C.Servers.functions in
    let honest = g.C.Servers.honest in
    let pool = c.args.self.now in
    let job = job_of path (map_sources c.args.design.now.views) all in
    let documents = c.args.documents.now in
    let rose = Rose (g.C.Servers.faults c.args.servers.now) (g.C.Servers.faults c.try_map.new.servers) in
    let some : 0 < length documents = elim c.else-is_empty.branch [
      | else-is_empty-via-then-is_empty+else-knows w ↦
          let yes : is_some (path_for pool c.args.design.now) ≡ true = ap is_some known in
          let no : is_some (path_for pool c.args.design.now) ≡ false = sym w.knows.ensures ∙ w.if-knows.false in
          absurd (let clash : true ≡ false = sym yes ∙ no in cc)
      | else-is_empty-via-else-is_empty w ↦ some_documents documents (sym c.is_empty.ensures ∙ w.if-is_empty.false)
    ] in
    let stand = told_stand functions honest job slots calls told in
    mapped_pool functions honest job slots slots pool pool.one_child (omega (arith, pool.one_child, some, enough)) documents rose c.in-Ok.lists there told
    (c.in-Ok.ensures.went path all slots slots calls follows known among within within enough stand)

pub returns-in-Err-clause-went : goal.returns-in-Err-clause-went
returns-in-Err-clause-went g c = λ path all slots calls follows known among within enough there told.
    let functions = g.C.Servers.functions in
    let honest = g.C.Servers.honest in
    let pool = c.args.self.now in
    let job = job_of path (map_sources c.args.design.now.views) all in
    let documents = c.args.documents.now in
    let x = g.C.Servers.faults c.args.servers.now in
    let y = g.C.Servers.faults c.try_map.new.servers in
    let z = g.C.Servers.faults c.stop_all.new.servers in
    let same : y ≡ z = omega (arith, c.stop_all.ensures.faults) in
    let stand = told_stand functions honest job slots calls told in
    let w = c.in-Err.ensures.went path all slots slots calls follows known among within within enough stand in
    refused_pool functions honest job pool.width slots slots pool.one_child documents (Rose x y) (Rose x z) c.stop_all.new.self c.in-Err.fault (subst (Rose x) same) w (c.stop_all.ensures.went job w.now w.follows)
