use Rattle.std.proofs.Common.{All, subst, sym}
use Rattle.std.proofs.lemmas.List.Elements.{All-append, All-weaker}
use Rattle.tree_laws.specs.SummerTrees.{Stands}
use Rattle.tree_query.proofs.Ranges.{gathered_all}
use Rattle.tree_laws.specs.Values.{values_of}
use Rattle.tree_query.proofs.Summaries.{all_before, all_read}
use Rattle.tree_query.proofs.range.add_whole.Goals as goal

pub returns-clause-items : goal.returns-clause-items
returns-clause-items g c first there low done items goes are h =
    let i = g.M.Unit.Item in
    let m = g.M.Summer in
    gathered_all i m first g.met.M.Summer.keeps (g.met.M.Summer.one_spelling first) (Stands i m first there low) c.args.summer.now c.args.children.now c.args.parts.now.items c.append_sums.new.sums.items c.in_ok-sums.sums.items done items
    goes are c.in_ok-sums.ensures.spelled c.in_ok-sums.ensures.fits c.in_ok-append_sums.ensures h

pub returns-clause-fits : goal.returns-clause-fits
returns-clause-fits g c first goes h =
    let u = c.args.summer.now in
    let fits = g.M.Summer.fits first in
    let sums = c.in_ok-sums.sums.items in
    let own = All-weaker (g.M.Summer.fits u) fits (λ sum f. (g.met.M.Summer.keeps.fits first u sum goes).1 f) sums c.in_ok-sums.ensures.fits in
    subst (All fits) (sym c.in_ok-append_sums.ensures) (All-append fits c.args.parts.now.items sums h own)

pub returns-clause-sums : goal.returns-clause-sums
returns-clause-sums g c first goes =
    let m = g.M.Summer in
    let u = c.args.summer.now in
    let cs = c.args.children.now in
    all_before m g.met.M.Summer.keeps first u cs goes (all_read (values_of m u) cs c.in_ok-sums.sums.items c.in_ok-sums.ensures.spelled c.in_ok-sums.ensures.fits)
