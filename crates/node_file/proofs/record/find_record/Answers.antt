use Rattle.std.proofs.Common.{arith}
use Rattle.gate_file.proofs.Looks.{told_none, told_none_then}
use Rattle.node_file.proofs.Found.{found_short, found_slots}
use Rattle.node_file.proofs.record.find_record.Goals as goal

pub returns-in_err-size-clause-disk : goal.returns-in_err-size-clause-disk
returns-in_err-size-clause-disk g c = told_none (g.F.Folder.disk c.args.folder.now) (g.F.Folder.disk c.len.new.self) (g.F.Folder.disk c.len.new.self) c.len.ensures.disk

pub returns-then-at-lt-FIRST-clause-found : goal.returns-then-at-lt-FIRST-clause-found
returns-then-at-lt-FIRST-clause-found g c = found_slots (g.F.Folder.disk c.args.folder.now) c.args.name c.args.at c.if-at-lt-FIRST.true

pub returns-then-at-lt-FIRST-clause-disk : goal.returns-then-at-lt-FIRST-clause-disk
returns-then-at-lt-FIRST-clause-disk g c = told_none (g.F.Folder.disk c.args.folder.now) (g.F.Folder.disk c.len.new.self) (g.F.Folder.disk c.len.new.self) c.len.ensures.disk

pub returns-then-saturating_sub-lt-HEAD-clause-found : goal.returns-then-saturating_sub-lt-HEAD-clause-found
returns-then-saturating_sub-lt-HEAD-clause-found g c =
    found_short (g.F.Folder.disk c.args.folder.now) c.args.name c.args.at c.in_ok-size.size (omega arith) c.in_ok-size.ensures.length

pub returns-then-saturating_sub-lt-HEAD-clause-disk : goal.returns-then-saturating_sub-lt-HEAD-clause-disk
returns-then-saturating_sub-lt-HEAD-clause-disk g c = told_none (g.F.Folder.disk c.args.folder.now) (g.F.Folder.disk c.len.new.self) (g.F.Folder.disk c.len.new.self) c.len.ensures.disk

pub returns-clause-disk : goal.returns-clause-disk
returns-clause-disk g c =
    told_none_then (g.F.Folder.disk c.args.folder.now) (g.F.Folder.disk c.len.new.self) (g.F.Folder.disk c.read_record.new.folder)
    (told_none (g.F.Folder.disk c.args.folder.now) (g.F.Folder.disk c.len.new.self) (g.F.Folder.disk c.len.new.self) c.len.ensures.disk) c.read_record.ensures.disk
