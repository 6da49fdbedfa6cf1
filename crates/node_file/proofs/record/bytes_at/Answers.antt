use Rattle.gate_file.proofs.Looks.{told_none}
use Rattle.node_file.proofs.record.bytes_at.Goals as goal

pub returns-in_err-got-clause-disk : goal.returns-in_err-got-clause-disk
returns-in_err-got-clause-disk g c = told_none (g.F.Folder.disk c.args.folder.now) (g.F.Folder.disk c.read_at.new.self) (g.F.Folder.disk c.read_at.new.self) c.read_at.ensures.disk

pub returns-clause-disk : goal.returns-clause-disk
returns-clause-disk g c = told_none (g.F.Folder.disk c.args.folder.now) (g.F.Folder.disk c.read_at.new.self) (g.F.Folder.disk c.read_at.new.self) c.read_at.ensures.disk
