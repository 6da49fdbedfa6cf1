use Rattle.raw_collation.proofs.Groups.{first_items-take, first_items-all}
use Rattle.raw_collation.proofs.group.first_of.Goals as goal

pub returns-then-count-terms : goal.returns-then-count-terms
returns-then-count-terms c = first_items-take c.args.count c.args.terms.now

pub returns-else-count-terms : goal.returns-else-count-terms
returns-else-count-terms c = first_items-all c.args.count c.args.terms.now c.if-count-terms.false
