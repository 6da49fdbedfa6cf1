-- What a session does is what the loop over its lines did.
use Rattle.couchview_cli.proofs.Coming.{comes, disk_failed, disk_spared, has_replied, keeps, stays_open}
use Rattle.couchview_cli.proofs.session.Session.run.Goals as goal

pub returns-clause-comes : goal.returns-clause-comes
returns-clause-comes g c = λ origin come. comes g.F.Folder g.C.Servers _ (λ old new line answers. answers) (λ old new line fault stops. stops) origin _ _ _ _ _ _ c.answer_lines.result come c.answer_lines.ensures.loops

pub returns-clause-replies : goal.returns-clause-replies
returns-clause-replies g c = has_replied g.F.Folder g.C.Servers _ (λ old new line answers. answers) (λ old new line fault stops. stops) _ _ _ _ _ _ c.answer_lines.result c.answer_lines.ensures.loops c.requires

pub returns-clause-ports : goal.returns-clause-ports
returns-clause-ports g c = (keeps g.F.Folder g.C.Servers _ (λ old new line answers. answers) (λ old new line fault stops. stops) _ _ _ _ _ _ c.answer_lines.result c.answer_lines.ensures.loops).0

pub returns-clause-stays : goal.returns-clause-stays
returns-clause-stays g c = (keeps g.F.Folder g.C.Servers _ (λ old new line answers. answers) (λ old new line fault stops. stops) _ _ _ _ _ _ c.answer_lines.result c.answer_lines.ensures.loops).1

pub returns-clause-open : goal.returns-clause-open
returns-clause-open g c = stays_open g.F.Folder g.C.Servers _ (λ old new line answers. answers) (λ old new line fault stops. stops) _ _ _ _ _ _ c.answer_lines.result c.answer_lines.ensures.loops c.requires

pub returns-clause-disk_failed : goal.returns-clause-disk_failed
returns-clause-disk_failed g c = disk_failed g.F.Folder g.C.Servers _ (λ old new line answers. answers) (λ old new line fault stops. stops) _ _ _ _ _ _ c.answer_lines.result c.answer_lines.ensures.loops

pub returns-clause-disk_spared : goal.returns-clause-disk_spared
returns-clause-disk_spared g c = disk_spared g.F.Folder g.C.Servers _ (λ old new line answers. answers) (λ old new line fault stops. stops) _ _ _ _ _ _ c.answer_lines.result c.answer_lines.ensures.loops
