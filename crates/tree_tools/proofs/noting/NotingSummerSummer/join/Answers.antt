-- The value is noted.
use Rattle.std.proofs.Common.{ap}
use Rattle.tree_tools.specs.Noting.{NotingState}
use Rattle.tree_tools.specs.NotingLaws.{goes_given, since_one}
use Rattle.tree_tools.proofs.noting.NotingSummerSummer.join.Goals as goal

pub returns-clause-goes : goal.returns-clause-goes
returns-clause-goes c = goes_given c.args.self.now c.note_given.new.self c.in_ok-sum.sum c.note_given.ensures

pub returns-clause-gave : goal.returns-clause-gave
returns-clause-gave c = since_one c.in_ok-sum.sum c.args.self.now.answers c.note_given.new.self.answers (ap (λ (s : NotingState). s.answers) c.note_given.ensures)
