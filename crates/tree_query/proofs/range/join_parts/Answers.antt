use Rattle.std.proofs.lemmas.List.Elements.{All-weaker}
use Rattle.tree_query.proofs.Ranges.{gathered_value}
use Rattle.tree_query.proofs.range.join_parts.Goals as goal

pub returns-in-Ok-clause-value : goal.returns-in-Ok-clause-value
returns-in-Ok-clause-value g c first items goes some fit few h lawful =
    gathered_value g.M.Unit.Item g.M.Summer first g.met.M.Summer.keeps c.args.summer.now c.args.parts.now c.in-Ok.sum items goes some fit few c.in-Ok.ensures.value h lawful

pub returns-in-Ok-clause-fits : goal.returns-in-Ok-clause-fits
returns-in-Ok-clause-fits g c first goes h =
    let m = g.M.Summer in
    let u = c.args.summer.now in
    let same = g.met.M.Summer.keeps.fits in
    (same first u c.in-Ok.sum goes).1 (c.in-Ok.ensures.fits (All-weaker (m.fits first) (m.fits u) (λ sum f. (same first u sum goes).0 f) c.args.parts.now h))
