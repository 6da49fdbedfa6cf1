use Rattle.std.proofs.Common.{refl, sym, subst}
use Rattle.std.specs.Prelude.{Result}
use Rattle.tree_index.specs.declared.fault.IndexFault.{IndexFault}
use Rattle.change_mapper.proofs.OnlyReading.{failed_as}
use Rattle.tree_updater.proofs.Written.{refuses, refuses_commit, writes}
use Rattle.tree_updater.specs.Sides.{side, IsRolledBack}
use Rattle.tree_updater.specs.Writes.{Writes}
use Rattle.tree_updater.proofs.writing.write_rows.Goals as goal

pub returns-in_err-replace_rows : goal.returns-in_err-replace_rows
returns-in_err-replace_rows g c =
    let index = c.args.index.now in
    let old = side c.args.folder.now c.args.servers.now c.args.pool.now index c.args.cache.now c.args.steps.now in
    let back : IsRolledBack index index = record { same = record { picture = refl; last = refl; name = refl }; file = refl; settled = c.requires.settled } in
    let mid = side c.replace_rows.new.folder c.replace_rows.new.servers c.replace_rows.new.pool c.replace_rows.new.index c.replace_rows.new.cache c.replace_rows.new.steps in
    let fault = c.in_err-replace_rows.field-0.0 in
    subst (λ (result : Result (Unit {0}) IndexFault). Writes g.F.Folder g.C.Servers c.args.design.now c.args.rows.now c.args.seq old mid result) (sym (failed_as c.from_residual.result fault c.from_residual.ensures))
    (refuses g.F.Folder g.C.Servers c.args.design.now c.args.rows.now old c.requires.number index back mid fault c.in_err-replace_rows.ensures c.args.seq)

pub returns-in-Ok : goal.returns-in-Ok
returns-in-Ok g c =
    let index = c.args.index.now in
    let old = side c.args.folder.now c.args.servers.now c.args.pool.now index c.args.cache.now c.args.steps.now in
    let back : IsRolledBack index index = record { same = record { picture = refl; last = refl; name = refl }; file = refl; settled = c.requires.settled } in
    let mid = side c.replace_rows.new.folder c.replace_rows.new.servers c.replace_rows.new.pool c.replace_rows.new.index c.replace_rows.new.cache c.replace_rows.new.steps in
    writes g.F.Folder g.C.Servers c.args.design.now c.args.rows.now old c.requires.number index back mid c.in_ok-replace_rows.ensures c.args.seq c.commit.new.self c.commit.new.folder c.in-Ok.ensures

pub returns-in-Err : goal.returns-in-Err
returns-in-Err g c =
    let index = c.args.index.now in
    let old = side c.args.folder.now c.args.servers.now c.args.pool.now index c.args.cache.now c.args.steps.now in
    let back : IsRolledBack index index = record { same = record { picture = refl; last = refl; name = refl }; file = refl; settled = c.requires.settled } in
    let mid = side c.replace_rows.new.folder c.replace_rows.new.servers c.replace_rows.new.pool c.replace_rows.new.index c.replace_rows.new.cache c.replace_rows.new.steps in
    let last = c.roll_back.new.self in
    let again : IsRolledBack c.commit.new.self last = record { same = c.roll_back.ensures.same; file = c.roll_back.ensures.file; settled = c.roll_back.ensures.settled } in
    refuses_commit g.F.Folder g.C.Servers c.args.design.now c.args.rows.now old c.requires.number index back mid c.in_ok-replace_rows.ensures c.args.seq c.commit.new.self c.commit.new.folder c.in-Err.fault c.in-Err.ensures last again
