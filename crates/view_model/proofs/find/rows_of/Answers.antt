-- What isn't before the key and isn't behind it has it.
use Rattle.std.proofs.Common.{◌-◌, ◌∙◌, ap, drop, take, sym}
use Rattle.json_terms.specs.Seen.{json}
use Rattle.view_model.specs.Selection.{has_key}
use Rattle.view_model.specs.Ends.{is_below_key, is_up_to_key}
use Rattle.view_model.proofs.Ends.{has_key_between}
use Rattle.view_model.proofs.Prefixes.{between, part}
use Rattle.view_model.proofs.find.rows_of.Goals as goal

pub returns : goal.returns
returns c =
    let rows = c.args.rows.now in
    let key = json c.args.key.now in
    let from = c.key_start.result in
    let to = c.key_end-high.result in
    ap (λ low. take (to - low) (drop low rows)) c.min-low.ensures ∙ part rows from to c.key_end-high.ensures.within
    ∙ sym (between (has_key key) (is_below_key key) (is_up_to_key key) (has_key_between key) rows from to c.key_start.ensures c.key_end-high.ensures)
