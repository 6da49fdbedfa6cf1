-- the values of the parts so far
use Rattle.std.proofs.Common.{◌≡◌, map, take}
use Rattle.child_pool.specs.declared.view_sum.ViewSum.TheVariants.{Child}
use Rattle.child_pool.proofs.summers.children_of.Given as goal

abbrev pub invariant-loop-part : goal.invariant-loop-part
invariant-loop-part l = map Child l.sums.items ≡ take l.part-index l.parts
