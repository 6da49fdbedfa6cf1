use Rattle.std.proofs.Common.{ap, sym, ◌∙◌}
use Rattle.std.proofs.lemmas.Result.{IfOk-weaker}
use Rattle.json_terms.specs.declared.term.Row.{Row}
use Rattle.json_terms.specs.Seen.{json}
use Rattle.map_lang.proofs.Parts.{last_value, some_length}
use Rattle.map_lang.proofs.reduce.run_reduce.Goals as goal

pub returns-in-Last : goal.returns-in-Last
returns-in-Last c =
    let last = last_value (λ (row : Row). json row.value) c.args.rows.now c.index-rows-rows.result (some_length c.args.rows.now c.requires) c.index-rows-rows.is in
    rw c.in-Last.is (IfOk-weaker c.copy_term-in-Last.result _ _ (λ t same. ap json same ∙ ap (λ (r : Row). json r.value) (sym c.index-rows-rows.is) ∙ last) c.copy_term-in-Last.ensures)
