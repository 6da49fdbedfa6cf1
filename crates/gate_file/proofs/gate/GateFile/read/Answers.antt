use Rattle.gate_file.proofs.Looks.{told_none, told_none_then}
use Rattle.gate_file.proofs.gate.GateFile.read.Goals as goal

pub returns-in_err-size-clause-disk : goal.returns-in_err-size-clause-disk
returns-in_err-size-clause-disk g c = told_none (g.F.Folder.disk c.args.folder.now) (g.F.Folder.disk c.len.new.self) (g.F.Folder.disk c.len.new.self) c.len.ensures.disk

pub returns-then-saturating_sub-len-clause-disk : goal.returns-then-saturating_sub-len-clause-disk
returns-then-saturating_sub-len-clause-disk g c = told_none (g.F.Folder.disk c.args.folder.now) (g.F.Folder.disk c.len.new.self) (g.F.Folder.disk c.len.new.self) c.len.ensures.disk

pub returns-in_err-bytes-clause-disk : goal.returns-in_err-bytes-clause-disk
returns-in_err-bytes-clause-disk g c = told_none (g.F.Folder.disk c.args.folder.now) (g.F.Folder.disk c.len.new.self) (g.F.Folder.disk c.len.new.self) c.len.ensures.disk

pub returns-in_err-count-clause-disk : goal.returns-in_err-count-clause-disk
returns-in_err-count-clause-disk g c = told_none_then (g.F.Folder.disk c.args.folder.now) (g.F.Folder.disk c.len.new.self) (g.F.Folder.disk c.read_at.new.self) (told_none (g.F.Folder.disk c.args.folder.now) (g.F.Folder.disk c.len.new.self) (g.F.Folder.disk c.len.new.self) c.len.ensures.disk) (told_none (g.F.Folder.disk c.len.new.self) (g.F.Folder.disk c.read_at.new.self) (g.F.Folder.disk c.read_at.new.self) c.read_at.ensures.disk)

pub returns-clause-disk : goal.returns-clause-disk
returns-clause-disk g c = told_none_then (g.F.Folder.disk c.args.folder.now) (g.F.Folder.disk c.len.new.self) (g.F.Folder.disk c.read_at.new.self) (told_none (g.F.Folder.disk c.args.folder.now) (g.F.Folder.disk c.len.new.self) (g.F.Folder.disk c.len.new.self) c.len.ensures.disk) (told_none (g.F.Folder.disk c.len.new.self) (g.F.Folder.disk c.read_at.new.self) (g.F.Folder.disk c.read_at.new.self) c.read_at.ensures.disk)
