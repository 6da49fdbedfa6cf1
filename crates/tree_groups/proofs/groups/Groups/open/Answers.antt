-- The index of the design is opened, and nothing else.
use Rattle.std.specs.Prelude.{◌≡◌, ℕ, List}
use Rattle.std.proofs.Common.{ap, inl, subst}
use Rattle.doc_file.specs.declared.docs.Info.{Info}
use Rattle.doc_file.specs.Docs.{seq_of as documents_seq}
use Rattle.tree_groups.specs.Openings.{OpensGroup}
use Rattle.tree_groups.specs.Reached.{sig_of, views_in}
use Rattle.tree_groups.proofs.groups.Groups.open.Goals as goal

pub returns-in-Ok : goal.returns-in-Ok
returns-in-Ok g c =
    let design = c.args.design.now in
    let newest = c.info-newest.result.update_seq in
    let newest_is : newest ≡ documents_seq c.args.docs.now = ap (λ (info : Info). info.update_seq) c.info-newest.ensures.kept in
    inl (subst (λ (n : ℕ). OpensGroup (sig_of design) (views_in design) n g.F.Folder c.args.self.now c.opened.new.self c.args.folder.now c.opened.new.folder c.opened.result) newest_is
    (subst (λ (sig : List ℕ). OpensGroup sig (views_in design) newest g.F.Folder c.args.self.now c.opened.new.self c.args.folder.now c.opened.new.folder c.opened.result) c.in-Ok.ensures.digest
    (subst (λ (n : ℕ). OpensGroup c.in-Ok.sig n newest g.F.Folder c.args.self.now c.opened.new.self c.args.folder.now c.opened.new.folder c.opened.result) c.len.ensures c.opened.ensures)))
