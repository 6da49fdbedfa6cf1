-- What the scan has passed is of one group; where it ends, another begins.
use Rattle.std.proofs.Common.{◌∙◌, arith, sym}
use Rattle.view_model.proofs.RunParts.{first_found, more_at_end, neighbours}
use Rattle.view_model.proofs.groups.first_run.Goals as goal

pub loop-end-preserved : goal.loop-end-preserved
loop-end-preserved c =
    let end = c.loop-end.end in
    let rows = c.args.rows.now in record {
      some = omega arith;
      within = omega arith;
      together = more_at_end c.args.level rows 0 end c.loop-end.invariant.together
          (neighbours c.args.level rows end _ _ _ (omega arith) c.index-rows-end.is c.index-rows-end-in-loop-end.is (sym c.are_together.ensures ∙ c.if-are_together.true));
    }

pub returns-else-are_together-clause-run : goal.returns-else-are_together-clause-run
returns-else-are_together-clause-run c =
    let rows = c.args.rows.now in
    first_found c.args.level rows c.loop-end.end c.loop-end.invariant.some c.loop-end.invariant.within c.loop-end.invariant.together
    (λ h. neighbours c.args.level rows c.loop-end.end _ _ _ h c.index-rows-end.is c.index-rows-end-in-loop-end.is (sym c.are_together.ensures ∙ c.if-are_together.false))

pub returns-after-loop-end-clause-run : goal.returns-after-loop-end-clause-run
returns-after-loop-end-clause-run c =
    first_found c.args.level c.args.rows.now c.loop-end.end c.loop-end.invariant.some c.loop-end.invariant.within c.loop-end.invariant.together (λ h. absurd (omega arith))
