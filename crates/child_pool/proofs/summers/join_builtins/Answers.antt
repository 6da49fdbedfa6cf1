-- The parts that fit are joined to a value that fits.
use Rattle.std.proofs.Common.{◌∙◌, ap, map}
use Rattle.child_pool.specs.declared.view_sum.ViewSum.TheVariants.{Builtin}
use Rattle.child_pool.proofs.ViewJoins.{parts_fit}
use Rattle.child_pool.proofs.summers.join_builtins.Goals as goal

pub returns-clause-fits : goal.returns-clause-fits
returns-clause-fits c = λ all. c.join.ensures.fits (parts_fit c.args.kind c.as_slice.result.now c.args.parts.now (ap (map Builtin) c.as_slice.ensures.value ∙ c.in_ok-sums.ensures) all)
