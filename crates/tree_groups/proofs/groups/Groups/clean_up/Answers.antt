-- The names are listed, and each index is removed that is not kept.
use Rattle.std.specs.Prelude.{◌≡◌, List}
use Rattle.std.proofs.Common.{sym, subst}
use Rattle.view_ports.specs.declared.file_name.FileName.{FileName}
use Rattle.view_ports.specs.declared.folder.FolderFault.TheVariants.{Failed}
use Rattle.tree_index.specs.Faults.{folder_fault}
use Rattle.change_mapper.proofs.OnlyReading.{failed_as}
use Rattle.tree_groups.specs.Cleans.{Cleans}
use Rattle.tree_groups.specs.Removing.{IsNamed, RemovesEach}
use Rattle.tree_groups.proofs.Cleaning.{cleans, cleans_failed}
use Rattle.tree_groups.proofs.groups.Groups.clean_up.Goals as goal

pub returns-in_err-names : goal.returns-in_err-names
returns-in_err-names g c =
    let fault = c.in_err-names.field-0.0 in
    let failed = failed_as c.from_residual.result (folder_fault fault) c.from_residual.ensures in
    subst (λ r. Cleans c.args.kept.now g.F.Folder c.args.self.now c.args.self.now c.args.folder.now c.names.new.self r) (sym failed)
    (cleans_failed g.F.Folder c.args.kept.now c.args.self.now c.args.folder.now c.names.new.self c.in_err-names.ensures.disk c.in_err-names.ensures.cause.later fault c.in_err-names.ensures.cause.failed
    (λ other. c.in_err-names.ensures.counted.still (λ is. other (let same : fault ≡ Failed = cc in same))))

pub returns : goal.returns
returns g c =
    let names = c.in_ok-names.names.items in
    cleans g.F.Folder c.args.kept.now c.args.self.now c.args.folder.now c.names.new.self c.in_ok-names.ensures.disk c.in_ok-names.ensures.cause.later
    (c.in_ok-names.ensures.counted.still (λ is. let no : ⊥ = cc in no)) names c.remove_each.new.self c.remove_each.new.folder c.remove_each.result c.in_ok-names.ensures.names
    (subst (λ (ns : List FileName). RemovesEach c.args.kept.now (IsNamed ns) g.F.Folder c.args.self.now c.remove_each.new.self c.names.new.self c.remove_each.new.folder c.remove_each.result) c.as_slice.ensures.value c.remove_each.ensures)
