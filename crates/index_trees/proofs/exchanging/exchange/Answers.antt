-- The old places are found, the trees of the views are edited, and then that of the back-index.
use Rattle.std.proofs.Common.{Err, Ok, refl, sym, ap, ◌∙◌, subst}
use Rattle.std.proofs.lemmas.Result.{err_from_is_err_and}
use Rattle.index_trees.specs.declared.trees.IndexTrees.{IndexTrees}
use Rattle.index_trees.specs.Edited.{EditsBack, EditsViews}
use Rattle.index_trees.specs.Exchanges.{Exchanges}
use Rattle.index_trees.proofs.Exchanged.{ArePlaces, at_back, at_end, at_places, at_views}
use Rattle.index_trees.proofs.Sequences.{StoreLaws, refused}
use Rattle.index_trees.proofs.exchanging.exchange.Goals as goal

pub returns-in-Err : goal.returns-in-Err
returns-in-Err g c =
    let n = g.S.NodeSource in
    let laws : StoreLaws n = record { steps = g.met.S.NodeSource.are_steps; caused = g.met.S.NodeSource.stays_caused; keeps = g.met.S.NodeSource.keeps } in
    let e = c.in-Err.ensures in
    subst (λ f. Exchanges n g.C.Servers c.args.trees.now c.args.changes.now c.args.store.now c.all_old_places.new.store c.args.summers.now c.args.summers.now c.args.steps.now c.all_old_places.new.steps (refused IndexTrees f)) (sym c.with_pool.ensures)
    (at_places n laws g.C.Servers c.args.trees.now c.args.changes.now c.args.store.now c.all_old_places.new.store c.args.summers.now c.args.steps.now c.all_old_places.new.steps e.reads c.in-Err.fault e.ran c.requires.ready
    (g.met.S.NodeSource.stays_ready c.args.store.now c.all_old_places.new.store) (λ there entries at told holds is. e.sound there entries at told holds (ap Err is)))

pub returns-in_err-views : goal.returns-in_err-views
returns-in_err-views g c =
    let n = g.S.NodeSource in
    let s = g.C.Servers in
    let laws : StoreLaws n = record { steps = g.met.S.NodeSource.are_steps; caused = g.met.S.NodeSource.stays_caused; keeps = g.met.S.NodeSource.keeps } in
    let e = c.in-Ok.ensures in
    let olds = c.in-Ok.olds.items in
    let changes = c.args.changes.now in
    let s1 = c.all_old_places.new.store in
    let t1 = c.all_old_places.new.steps in
    let s2 = c.edit_views.new.store in
    let u2 = c.edit_views.new.summers in
    let t2 = c.edit_views.new.steps in
    let fault = c.in_err-views.field-0.0 in
    let p = err_from_is_err_and c.from_residual.result c.from_residual.ensures.1 in
    let are : ArePlaces n changes c.args.trees.now.back c.args.store.now olds = record { number = e.number; places = e.places } in
    let views : EditsViews n s changes olds s1 s2 c.args.summers.now u2 t1 t2 c.args.trees.now.views.items (Err fault) =
    subst (λ os. EditsViews n s changes os s1 s2 c.args.summers.now u2 t1 t2 c.args.trees.now.views.items (Err fault)) c.as_slice-2.ensures.value
    (subst (λ ts. EditsViews n s changes c.as_slice-2.result.now s1 s2 c.args.summers.now u2 t1 t2 ts (Err fault)) c.as_slice.ensures.value c.in_err-views.ensures) in
    subst (Exchanges n s c.args.trees.now changes c.args.store.now s2 c.args.summers.now u2 c.args.steps.now t2) (sym (p.1 ∙ ap (refused IndexTrees) p.2))
    (at_views n laws s c.args.trees.now changes c.args.store.now s1 c.args.summers.now c.args.steps.now t1 e.reads e.ran olds are s2 u2 t2 fault views)

pub returns-in_err-back : goal.returns-in_err-back
returns-in_err-back g c =
    let n = g.S.NodeSource in
    let s = g.C.Servers in
    let laws : StoreLaws n = record { steps = g.met.S.NodeSource.are_steps; caused = g.met.S.NodeSource.stays_caused; keeps = g.met.S.NodeSource.keeps } in
    let e = c.in-Ok.ensures in
    let olds = c.in-Ok.olds.items in
    let changes = c.args.changes.now in
    let s1 = c.all_old_places.new.store in
    let t1 = c.all_old_places.new.steps in
    let s2 = c.edit_views.new.store in
    let u2 = c.edit_views.new.summers in
    let t2 = c.edit_views.new.steps in
    let s3 = c.edit_back.new.store in
    let t3 = c.edit_back.new.steps in
    let es = c.in_ok-views.views.items in
    let fault = c.in_err-back.field-0.0 in
    let p = err_from_is_err_and c.from_residual-in_err-back.result c.from_residual-in_err-back.ensures.1 in
    let are : ArePlaces n changes c.args.trees.now.back c.args.store.now olds = record { number = e.number; places = e.places } in
    let views : EditsViews n s changes olds s1 s2 c.args.summers.now u2 t1 t2 c.args.trees.now.views.items (Ok es) =
    subst (λ os. EditsViews n s changes os s1 s2 c.args.summers.now u2 t1 t2 c.args.trees.now.views.items (Ok es)) c.as_slice-2.ensures.value
    (subst (λ ts. EditsViews n s changes c.as_slice-2.result.now s1 s2 c.args.summers.now u2 t1 t2 ts (Ok es)) c.as_slice.ensures.value c.in_ok-views.ensures) in
    let own : EditsBack n changes olds s2 s3 t2 t3 c.args.trees.now.back (Err fault) = subst (λ os. EditsBack n changes os s2 s3 t2 t3 c.args.trees.now.back (Err fault)) c.as_slice-3.ensures.value c.in_err-back.ensures in
    subst (Exchanges n s c.args.trees.now changes c.args.store.now s3 c.args.summers.now u2 c.args.steps.now t3) (sym (p.1 ∙ ap (refused IndexTrees) p.2))
    (at_back n laws s c.args.trees.now changes c.args.store.now s1 c.args.summers.now c.args.steps.now t1 e.reads e.ran olds are s2 u2 t2 es views s3 t3 fault own)

pub returns : goal.returns
returns g c =
    let n = g.S.NodeSource in
    let s = g.C.Servers in
    let laws : StoreLaws n = record { steps = g.met.S.NodeSource.are_steps; caused = g.met.S.NodeSource.stays_caused; keeps = g.met.S.NodeSource.keeps } in
    let e = c.in-Ok.ensures in
    let olds = c.in-Ok.olds.items in
    let changes = c.args.changes.now in
    let s1 = c.all_old_places.new.store in
    let t1 = c.all_old_places.new.steps in
    let s2 = c.edit_views.new.store in
    let u2 = c.edit_views.new.summers in
    let t2 = c.edit_views.new.steps in
    let s3 = c.edit_back.new.store in
    let t3 = c.edit_back.new.steps in
    let es = c.in_ok-views.views.items in
    let back = c.in_ok-back.back in
    let are : ArePlaces n changes c.args.trees.now.back c.args.store.now olds = record { number = e.number; places = e.places } in
    let views : EditsViews n s changes olds s1 s2 c.args.summers.now u2 t1 t2 c.args.trees.now.views.items (Ok es) =
    subst (λ os. EditsViews n s changes os s1 s2 c.args.summers.now u2 t1 t2 c.args.trees.now.views.items (Ok es)) c.as_slice-2.ensures.value
    (subst (λ ts. EditsViews n s changes c.as_slice-2.result.now s1 s2 c.args.summers.now u2 t1 t2 ts (Ok es)) c.as_slice.ensures.value c.in_ok-views.ensures) in
    let own : EditsBack n changes olds s2 s3 t2 t3 c.args.trees.now.back (Ok back) = subst (λ os. EditsBack n changes os s2 s3 t2 t3 c.args.trees.now.back (Ok back)) c.as_slice-3.ensures.value c.in_ok-back.ensures in
    at_end n laws s c.args.trees.now changes c.args.store.now s1 c.args.summers.now c.args.steps.now t1 e.reads e.ran olds are s2 u2 t2 es views s3 t3 back own (record { views = c.in_ok-views.views; back = back }) refl refl
