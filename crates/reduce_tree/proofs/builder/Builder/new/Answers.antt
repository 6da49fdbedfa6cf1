use Rattle.std.proofs.Common.{arith, length, ap}
use Rattle.reduce_tree.proofs.Climb.{cutting_new}
use Rattle.reduce_tree.proofs.Stacks.{none_row, whole_new}
use Rattle.reduce_tree.proofs.builder.Builder.new.Goals as goal

pub returns-clause-nothing : goal.returns-clause-nothing
returns-clause-nothing g c = record { leaf = c.in_ok-with_capacity.ensures.items; rows = c.new.ensures.items }

pub returns-clause-whole : goal.returns-clause-whole
returns-clause-whole g c = whole_new (record { leaf = c.in_ok-with_capacity.field-0; rows = c.new.result }) (record { leaf = c.in_ok-with_capacity.ensures.items; rows = c.new.ensures.items })

pub returns-clause-pushed : goal.returns-clause-pushed
returns-clause-pushed g c = omega (arith, none_row c.new.result.items (ap length c.new.ensures.items), ap length c.in_ok-with_capacity.ensures.items)

pub returns-clause-waiting : goal.returns-clause-waiting
returns-clause-waiting g c = ap length c.in_ok-with_capacity.ensures.items

pub returns-clause-cut : goal.returns-clause-cut
returns-clause-cut g c there = cutting_new g.T.Item there (record { leaf = c.in_ok-with_capacity.field-0; rows = c.new.result }) (record { leaf = c.in_ok-with_capacity.ensures.items; rows = c.new.ensures.items })
