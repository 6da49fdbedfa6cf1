-- What a session was lent is as it left it.
use Rattle.std.proofs.Common.{rules}
use Rattle.couchview_cli.proofs.Coming.{comes_behind, open_behind, replied_behind}
use Rattle.couchview_cli.proofs.serve.run.Goals as goal

pub returns-clause-comes : goal.returns-clause-comes
returns-clause-comes g c = λ origin at. comes_behind g.F.Folder g.C.Servers origin c.run.new.self _ _ _ (search rules) (search rules) (search rules) (c.run.ensures.comes origin at)

pub returns-clause-replies : goal.returns-clause-replies
returns-clause-replies g c = replied_behind g.F.Folder g.C.Servers c.run.new.self _ _ (search rules) (search rules) c.run.ensures.replies

pub returns-clause-open : goal.returns-clause-open
returns-clause-open g c = λ ended. open_behind g.F.Folder c.run.new.self _ _ (search rules) (search rules) (c.run.ensures.open ended)
