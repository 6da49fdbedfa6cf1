-- The index of the design is opened, and brought up to date.
use Rattle.std.specs.Prelude.{◌≡◌, ℕ, List, Ok, Err}
use Rattle.std.proofs.Common.{ap, refl, subst}
use Rattle.doc_file.specs.declared.docs.Info.{Info}
use Rattle.doc_file.specs.Docs.{seq_of as documents_seq}
use Rattle.tree_updater.specs.Faults.{by_index}
use Rattle.tree_groups.specs.Groups.{IsGroup}
use Rattle.tree_groups.specs.Openings.{OpensGroup}
use Rattle.tree_groups.specs.Reached.{sig_of, views_in}
use Rattle.tree_groups.specs.Sides.{side}
use Rattle.tree_groups.proofs.Bringing.{brings_nothing, brings_refused, brings_updated}
use Rattle.change_mapper.proofs.OnlyReading.{failed_as}
use Rattle.tree_groups.proofs.groups.Groups.update.Goals as goal

pub returns-in-Err : goal.returns-in-Err
returns-in-Err g c =
    let old = side c.args.folder.now c.args.servers.now c.args.pool.now c.args.self.now c.args.cache.now c.args.steps.now in
    brings_nothing g.F.Folder g.C.Servers c.args.docs.now c.args.design.now old _ refl

pub returns-in_err-place : goal.returns-in_err-place
returns-in_err-place g c =
    let old = side c.args.folder.now c.args.servers.now c.args.pool.now c.args.self.now c.args.cache.now c.args.steps.now in
    let design = c.args.design.now in
    let newest = c.info-newest.result.update_seq in
    let newest_is : newest ≡ documents_seq c.args.docs.now = ap (λ (info : Info). info.update_seq) c.info-newest.ensures.kept in
    let fault = c.in_err-place.field-0.0 in
    let opens : OpensGroup (sig_of design) (views_in design) newest g.F.Folder c.args.self.now c.opened.new.self c.args.folder.now c.opened.new.folder (Err fault) =
    subst (λ (sig : List ℕ). OpensGroup sig (views_in design) newest g.F.Folder c.args.self.now c.opened.new.self c.args.folder.now c.opened.new.folder (Err fault)) c.in-Ok.ensures.digest
    (subst (λ (n : ℕ). OpensGroup c.in-Ok.sig n newest g.F.Folder c.args.self.now c.opened.new.self c.args.folder.now c.opened.new.folder (Err fault)) c.len.ensures c.in_err-place.ensures) in
    brings_refused g.F.Folder g.C.Servers c.args.docs.now design old newest newest_is c.opened.new.self c.opened.new.folder fault opens
    c.from_residual.result (failed_as c.from_residual.result (by_index fault) c.from_residual.ensures)

pub bring-requires-clause-place : goal.bring-requires-clause-place
bring-requires-clause-place g c =
    let design = c.args.design.now in
    let group = c.in_ok-place.ensures.place in (
      group.0,
      subst (λ (sig : List ℕ). IsGroup c.opened.new.self c.in_ok-place.place sig (views_in design) group.0) c.in-Ok.ensures.digest
          (subst (λ (n : ℕ). IsGroup c.opened.new.self c.in_ok-place.place c.in-Ok.sig n group.0) c.len.ensures group.1),
    )

pub returns-in_err-bring : goal.returns-in_err-bring
returns-in_err-bring g c =
    let old = side c.args.folder.now c.args.servers.now c.args.pool.now c.args.self.now c.args.cache.now c.args.steps.now in
    let new = side c.bring.new.folder c.bring.new.servers c.bring.new.pool c.bring.new.self c.bring.new.cache c.bring.new.steps in
    let design = c.args.design.now in
    let newest = c.info-newest.result.update_seq in
    let newest_is : newest ≡ documents_seq c.args.docs.now = ap (λ (info : Info). info.update_seq) c.info-newest.ensures.kept in
    let place = c.in_ok-place.place in
    let fault = c.in_err-bring.field-0.0 in
    let opens : OpensGroup (sig_of design) (views_in design) newest g.F.Folder c.args.self.now c.opened.new.self c.args.folder.now c.opened.new.folder (Ok place) =
    subst (λ (sig : List ℕ). OpensGroup sig (views_in design) newest g.F.Folder c.args.self.now c.opened.new.self c.args.folder.now c.opened.new.folder (Ok place)) c.in-Ok.ensures.digest
    (subst (λ (n : ℕ). OpensGroup c.in-Ok.sig n newest g.F.Folder c.args.self.now c.opened.new.self c.args.folder.now c.opened.new.folder (Ok place)) c.len.ensures c.in_ok-place.ensures) in
    brings_updated g.F.Folder g.C.Servers c.args.docs.now design old newest newest_is c.opened.new.self c.opened.new.folder place opens new (Err fault) c.in_err-bring.ensures
    c.from_residual-in_err-bring.result (failed_as c.from_residual-in_err-bring.result fault c.from_residual-in_err-bring.ensures)

pub returns : goal.returns
returns g c =
    let old = side c.args.folder.now c.args.servers.now c.args.pool.now c.args.self.now c.args.cache.now c.args.steps.now in
    let new = side c.bring.new.folder c.bring.new.servers c.bring.new.pool c.bring.new.self c.bring.new.cache c.bring.new.steps in
    let design = c.args.design.now in
    let newest = c.info-newest.result.update_seq in
    let newest_is : newest ≡ documents_seq c.args.docs.now = ap (λ (info : Info). info.update_seq) c.info-newest.ensures.kept in
    let place = c.in_ok-place.place in
    let opens : OpensGroup (sig_of design) (views_in design) newest g.F.Folder c.args.self.now c.opened.new.self c.args.folder.now c.opened.new.folder (Ok place) =
    subst (λ (sig : List ℕ). OpensGroup sig (views_in design) newest g.F.Folder c.args.self.now c.opened.new.self c.args.folder.now c.opened.new.folder (Ok place)) c.in-Ok.ensures.digest
    (subst (λ (n : ℕ). OpensGroup c.in-Ok.sig n newest g.F.Folder c.args.self.now c.opened.new.self c.args.folder.now c.opened.new.folder (Ok place)) c.len.ensures c.in_ok-place.ensures) in
    brings_updated g.F.Folder g.C.Servers c.args.docs.now design old newest newest_is c.opened.new.self c.opened.new.folder place opens new (Ok tt) c.in_ok-bring.ensures (Ok place) refl
