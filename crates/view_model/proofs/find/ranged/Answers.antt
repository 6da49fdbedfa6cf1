-- What isn't before the range and isn't behind it is in it.
use Rattle.std.proofs.Common.{◌-◌, ◌∙◌, ap, drop, take, sym}
use Rattle.view_model.specs.Selection.{is_in_range}
use Rattle.view_model.specs.Ends.{is_below_range, is_up_to_range}
use Rattle.view_model.proofs.Ends.{in_range_between}
use Rattle.view_model.proofs.Prefixes.{between, part}
use Rattle.view_model.proofs.find.ranged.Goals as goal

pub returns : goal.returns
returns c =
    let rows = c.args.rows.now in
    let query = c.args.query.now in
    let from = c.range_start.result in
    let to = c.range_end-high.result in
    ap (λ low. take (to - low) (drop low rows)) c.min-low.ensures ∙ part rows from to c.range_end-high.ensures.within
    ∙ sym (between (is_in_range query) (is_below_range query) (is_up_to_range query) (in_range_between query) rows from to c.range_start.ensures c.range_end-high.ensures)
