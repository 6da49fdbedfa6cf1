-- Page by page up to the last one, or to one that is refused.
use Rattle.std.specs.Prelude.{◌≡◌, [], false, Option, None, Ok}
use Rattle.std.proofs.Common.{refl, sym, subst, arith}
use Rattle.change_mapper.specs.declared.mapping.Progress.{Progress}
use Rattle.change_mapper.specs.Mapped.{listed, outer, MapsChanges}
use Rattle.change_mapper.specs.Pages.{FollowsPage, HasComeTo}
use Rattle.change_mapper.proofs.PageByPage.{nothing_yet}
use Rattle.change_mapper.proofs.OnlyReading.{failed_as}
use Rattle.change_mapper.proofs.mapping.map_changes.Goals as goal

pub loop-rows-init : goal.loop-rows-init
loop-rows-init g c =
    let old = outer c.args.folder.now c.args.servers.now c.args.pool.now in
    let first : Progress = record { after = c.args.seq; begun = false } in (
      [],
      subst (HasComeTo g.F.Folder g.C.Servers c.args.docs.now c.args.design.now c.args.seq old old first []) (sym c.new-rows.ensures.items)
          (nothing_yet g.F.Folder g.C.Servers c.args.docs.now c.args.design.now c.args.seq old first refl refl),
    )

pub returns-in_err-next : goal.returns-in_err-next
returns-in_err-next g c =
    let old = outer c.args.folder.now c.args.servers.now c.args.pool.now in
    let new = outer c.map_page.new.folder c.map_page.new.servers c.map_page.new.pool in
    let so_far = c.loop-rows.invariant in
    let fault = c.in_err-next.field-0.0 in
    subst (λ r. MapsChanges g.F.Folder g.C.Servers c.args.docs.now c.args.design.now c.args.seq old new (listed r)) (sym (failed_as c.from_residual.result fault c.from_residual.ensures)) (c.in_err-next.ensures c.args.seq old so_far.0 so_far.1)

pub loop-rows-smaller : goal.loop-rows-smaller
loop-rows-smaller g c =
    let old = outer c.args.folder.now c.args.servers.now c.args.pool.now in
    let new = outer c.map_page.new.folder c.map_page.new.servers c.map_page.new.pool in
    let so_far = c.loop-rows.invariant in
    let next = subst (λ (o : Option Progress). FollowsPage g.F.Folder g.C.Servers c.args.docs.now c.args.design.now c.args.seq old new c.loop-rows.progress.after c.map_page.new.rows.items (Ok o)) c.in-Some.is (c.in_ok-next.ensures c.args.seq old so_far.0 so_far.1) in
    omega (arith, next.0)

pub loop-rows-preserved : goal.loop-rows-preserved
loop-rows-preserved g c =
    let old = outer c.args.folder.now c.args.servers.now c.args.pool.now in
    let new = outer c.map_page.new.folder c.map_page.new.servers c.map_page.new.pool in
    let so_far = c.loop-rows.invariant in
    let next = subst (λ (o : Option Progress). FollowsPage g.F.Folder g.C.Servers c.args.docs.now c.args.design.now c.args.seq old new c.loop-rows.progress.after c.map_page.new.rows.items (Ok o)) c.in-Some.is (c.in_ok-next.ensures c.args.seq old so_far.0 so_far.1) in
    (next.1, next.2)

pub returns : goal.returns
returns g c =
    let old = outer c.args.folder.now c.args.servers.now c.args.pool.now in
    let new = outer c.map_page.new.folder c.map_page.new.servers c.map_page.new.pool in
    let so_far = c.loop-rows.invariant in
    let none : c.in_ok-next.field-0 ≡ None = c.in_default.is in
    subst (λ (o : Option Progress). FollowsPage g.F.Folder g.C.Servers c.args.docs.now c.args.design.now c.args.seq old new c.loop-rows.progress.after c.map_page.new.rows.items (Ok o)) none (c.in_ok-next.ensures c.args.seq old so_far.0 so_far.1)
