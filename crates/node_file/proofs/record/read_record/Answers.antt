use Rattle.std.proofs.Common.{◌≡◌, ℕ, Option, Some, drop, subst}
use Rattle.view_ports.specs.Disk.{IfTold}
use Rattle.gate_file.proofs.Looks.{told_none, told_none_then}
use Rattle.node_file.specs.Records.{size_in}
use Rattle.node_file.proofs.Found.{found_cut, found_whole}
use Rattle.node_file.proofs.record.read_record.Goals as goal

pub returns-in_err-length-clause-disk : goal.returns-in_err-length-clause-disk
returns-in_err-length-clause-disk g c = told_none (g.F.Folder.disk c.args.folder.now) (g.F.Folder.disk c.length_at.new.folder) (g.F.Folder.disk c.length_at.new.folder) c.length_at.ensures.disk

pub returns-then-length-size-clause-found : goal.returns-then-length-size-clause-found
returns-then-length-size-clause-found g c =
    found_cut (g.F.Folder.disk c.args.folder.now) c.args.name c.args.at c.args.size c.in-Some.length c.requires.within c.if-length-size.true c.requires.size
    (subst (λ (o : Option ℕ). IfTold (g.F.Folder.disk c.args.folder.now) (λ d. o ≡ Some (size_in (drop c.args.at (d.now c.args.name).seen)))) c.in-Some.is c.in_ok-length.ensures.length)

pub returns-then-length-size-clause-disk : goal.returns-then-length-size-clause-disk
returns-then-length-size-clause-disk g c = told_none (g.F.Folder.disk c.args.folder.now) (g.F.Folder.disk c.length_at.new.folder) (g.F.Folder.disk c.length_at.new.folder) c.length_at.ensures.disk

pub returns-else-length-size-clause-found : goal.returns-else-length-size-clause-found
returns-else-length-size-clause-found g c =
    found_whole (g.F.Folder.disk c.args.folder.now) c.args.name c.args.at (g.F.Folder.disk c.length_at.new.folder) c.bytes_at.result _ c.args.size c.in-Some.length c.requires.behind c.requires.within c.if-length-size.false c.requires.size
    (subst (λ (o : Option ℕ). IfTold (g.F.Folder.disk c.args.folder.now) (λ d. o ≡ Some (size_in (drop c.args.at (d.now c.args.name).seen)))) c.in-Some.is c.in_ok-length.ensures.length)
    c.length_at.ensures.disk c.bytes_at.ensures.bytes

pub returns-else-length-size-clause-disk : goal.returns-else-length-size-clause-disk
returns-else-length-size-clause-disk g c =
    told_none_then (g.F.Folder.disk c.args.folder.now) (g.F.Folder.disk c.length_at.new.folder) (g.F.Folder.disk c.bytes_at.new.folder)
    (told_none (g.F.Folder.disk c.args.folder.now) (g.F.Folder.disk c.length_at.new.folder) (g.F.Folder.disk c.length_at.new.folder) c.length_at.ensures.disk) c.bytes_at.ensures.disk
