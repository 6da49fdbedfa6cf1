-- What the scan has passed is of one group; where it ends, another begins.
use Rattle.std.proofs.Common.{◌∙◌, arith, sym}
use Rattle.view_model.proofs.RunParts.{last_found, more_at_start, neighbours}
use Rattle.view_model.proofs.groups.last_run.Goals as goal

pub loop-start-preserved : goal.loop-start-preserved
loop-start-preserved c =
    let start = c.loop-start.start in
    let rows = c.args.rows.now in record {
      within = omega arith;
      together = more_at_start c.args.level rows start _ c.loop-start.invariant.together
          (neighbours c.args.level rows start _ _ _ c.loop-start.invariant.within c.index-rows-start.is c.index-rows-start-in-loop-start.is
          (sym c.are_together.ensures ∙ c.if-are_together.true));
    }

pub returns-else-are_together-clause-run : goal.returns-else-are_together-clause-run
returns-else-are_together-clause-run c =
    let rows = c.args.rows.now in
    last_found c.args.level rows c.loop-start.start c.loop-start.invariant.within c.loop-start.invariant.together
    (λ h. neighbours c.args.level rows c.loop-start.start _ _ _ c.loop-start.invariant.within c.index-rows-start.is c.index-rows-start-in-loop-start.is
    (sym c.are_together.ensures ∙ c.if-are_together.false))

pub returns-after-loop-start-clause-run : goal.returns-after-loop-start-clause-run
returns-after-loop-start-clause-run c =
    last_found c.args.level c.args.rows.now c.loop-start.start c.loop-start.invariant.within c.loop-start.invariant.together (λ h. absurd (omega arith))
