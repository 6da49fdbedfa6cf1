-- The index is opened, and put behind the others.
use Rattle.std.specs.Prelude.{◌≡◌, length}
use Rattle.std.specs.Result.{is_ok}
use Rattle.view_ports.specs.declared.file_name.Stem.TheVariants.{View}
use Rattle.std.proofs.Common.{rules, sym, subst}
use Rattle.tree_index.specs.declared.fault.IndexFault.TheVariants.{NoMemory}
use Rattle.change_mapper.proofs.OnlyReading.{failed_as}
use Rattle.tree_groups.specs.Groups.{open_of}
use Rattle.tree_groups.specs.Openings.{OpensGroup}
use Rattle.tree_groups.proofs.Opening.{opened_new, pushed_apart, pushed_of_views, refused_open, refused_push}
use Rattle.tree_groups.proofs.groups.Groups.open_new.Goals as goal

pub returns-in_err-index : goal.returns-in_err-index
returns-in_err-index g c =
    let fault = c.in_err-index.field-0.0 in
    let failed = failed_as c.from_residual.result fault c.from_residual.ensures in
    subst (λ r. OpensGroup c.args.sig c.args.views c.args.newest g.F.Folder c.args.self.now c.args.self.now c.args.folder.now c.open.new.folder r) (sym failed)
    (refused_open g.F.Folder c.args.sig c.args.views c.args.newest c.args.self.now c.requires.none c.args.folder.now c.open.new.folder fault c.in_err-index.ensures)

pub returns-in_err-push : goal.returns-in_err-push
returns-in_err-push g c =
    refused_push g.F.Folder c.args.sig c.args.views c.args.newest c.args.self.now c.requires.none c.args.folder.now c.open.new.folder c.in_ok-index.index c.in_ok-index.ensures _ c.in_err-push.ensures.items
    c.from_residual-in_err-push.result (failed_as c.from_residual-in_err-push.result NoMemory c.from_residual-in_err-push.ensures)

pub returns : goal.returns
returns g c =
    let last : c.len-place.result ≡ length (open_of c.args.self.now) = search rules in
    opened_new g.F.Folder c.args.sig c.args.views c.args.newest c.args.self.now c.requires.none c.args.folder.now c.open.new.folder c.in_ok-index.index c.in_ok-index.ensures _ c.len-place.result c.in_ok-push.ensures.items last

pub invariant_of-self-clause-apart : goal.invariant_of-self-clause-apart
invariant_of-self-clause-apart g c = pushed_apart c.args.self.now (View c.args.sig) c.in_ok-index.index c.requires.none c.in_ok-index.ensures.fresh.named (is_ok c.push.result) c.push.new.self.items c.push.ensures.items

pub invariant_of-self-clause-of_views : goal.invariant_of-self-clause-of_views
invariant_of-self-clause-of_views g c = pushed_of_views c.args.self.now c.args.sig c.in_ok-index.index c.in_ok-index.ensures.fresh.named (is_ok c.push.result) c.push.new.self.items c.push.ensures.items
