-- Files of no index and of one that is kept are left alone; any other index is closed and removed.
use Rattle.std.specs.Prelude.{◌≡◌, Contains, bytes_eq, true}
use Rattle.std.specs.Bool.{Decides}
use Rattle.std.proofs.Common.{sym, subst}
use Rattle.std.proofs.lemmas.List.Elements.{contains_decides, Decides-contains}
use Rattle.std.proofs.lemmas.Slice.Eq.{bytes_eq-Decides}
use Rattle.view_ports.specs.declared.file_name.Stem.{Stem}
use Rattle.tree_groups.specs.Removing.{RemovesEach}
use Rattle.tree_groups.proofs.Removing.{removed_one, removes_nothing}
use Rattle.tree_groups.proofs.groups.Groups.remove_unless_kept.Goals as goal

pub returns-in_default : goal.returns-in_default
returns-in_default g c = removes_nothing c.args.kept.now g.F.Folder _ c.args.self.now c.args.folder.now (λ sig is unkept. c.in_default.not-View sig (sym is))

pub returns-then-contains : goal.returns-then-contains
returns-then-contains g c =
    let kept = c.args.kept.now in
    let sig = c.in-View.sig in
    let decides : Decides c.contains.result (Contains kept sig) = Decides-contains kept sig c.contains.result (contains_decides bytes_eq bytes_eq-Decides kept sig c.contains.result c.contains.ensures.cases) in
    let there : Contains kept sig = decides.0 c.if-contains.true in
    removes_nothing kept g.F.Folder _ c.args.self.now c.args.folder.now (λ own is unkept. let same : sig ≡ own = cc in unkept (subst (Contains kept) same there))

pub returns : goal.returns
returns g c =
    let kept = c.args.kept.now in
    let sig = c.in-View.sig in
    let decides : Decides c.contains.result (Contains kept sig) = Decides-contains kept sig c.contains.result (contains_decides bytes_eq bytes_eq-Decides kept sig c.contains.result c.contains.ensures.cases) in
    let unkept : Contains kept sig → ⊥ = λ there. let yes : c.contains.result ≡ true = decides.1 there in let no : ⊥ = cc in no in
    subst (λ (stem : Stem). RemovesEach kept (λ s. s ≡ stem) g.F.Folder c.args.self.now c.close.new.self c.args.folder.now c.remove.new.folder c.remove.result) (sym c.in-View.is)
    (removed_one kept g.F.Folder sig c.args.self.now c.close.new.self c.close.ensures unkept c.args.folder.now c.remove.new.folder c.remove.result c.remove.ensures)
