-- One name after another.
use Rattle.std.specs.Prelude.{◌+◌, [], take, Err}
use Rattle.std.proofs.Common.{sym, subst, arith}
use Rattle.change_mapper.proofs.OnlyReading.{failed_as}
use Rattle.tree_groups.specs.Removing.{IsNamed, RemovesEach}
use Rattle.tree_groups.proofs.Removing.{named_more, removes_failed, removes_nothing, removes_of, removes_then, well}
use Rattle.tree_groups.proofs.groups.Groups.remove_each.Goals as goal

pub loop-name-init : goal.loop-name-init
loop-name-init g c = removes_nothing c.args.kept.now g.F.Folder (IsNamed []) c.args.self.now c.args.folder.now (λ sig is unkept. let no = is.1.1 in omega (arith, no))

pub returns-in_err-remove_unless_kept : goal.returns-in_err-remove_unless_kept
returns-in_err-remove_unless_kept g c =
    let fault = c.in_err-remove_unless_kept.field-0.0 in
    let failed = failed_as c.from_residual.result fault c.from_residual.ensures in
    subst (λ r. RemovesEach c.args.kept.now (IsNamed c.args.names.now) g.F.Folder c.args.self.now c.remove_unless_kept.new.self c.args.folder.now c.remove_unless_kept.new.folder r) (sym failed)
    (removes_failed c.args.kept.now g.F.Folder _ (IsNamed c.args.names.now) c.args.self.now c.remove_unless_kept.new.self c.args.folder.now c.remove_unless_kept.new.folder fault
    (removes_then c.args.kept.now g.F.Folder (IsNamed (take c.loop-name.name-index c.args.names.now)) _ c.args.self.now c.loop-name.self c.remove_unless_kept.new.self c.args.folder.now c.loop-name.folder c.remove_unless_kept.new.folder (Err fault)
    c.loop-name.invariant c.in_err-remove_unless_kept.ensures))

pub loop-name-preserved : goal.loop-name-preserved
loop-name-preserved g c =
    let i = c.loop-name.name-index in
    removes_of c.args.kept.now g.F.Folder _ (IsNamed (take (i + 1) c.args.names.now)) c.args.self.now c.remove_unless_kept.new.self c.args.folder.now c.remove_unless_kept.new.folder well
    (λ sig is. named_more c.args.names.now i _ (omega arith) _ is)
    (removes_then c.args.kept.now g.F.Folder (IsNamed (take i c.args.names.now)) _ c.args.self.now c.loop-name.self c.remove_unless_kept.new.self c.args.folder.now c.loop-name.folder c.remove_unless_kept.new.folder well
    c.loop-name.invariant c.in_ok-remove_unless_kept.ensures)
