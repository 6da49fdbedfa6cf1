use Rattle.std.proofs.Common.{ap, ◌∙◌}
use Rattle.std.proofs.lemmas.Result.{IfOk-weaker}
use Rattle.json_terms.specs.Seen.{json}
use Rattle.map_lang.proofs.Parts.{last_value, some_length}
use Rattle.map_lang.proofs.reduce.run_rereduce.Goals as goal

pub returns-in-Last : goal.returns-in-Last
returns-in-Last c =
    let last = last_value json c.args.values.now c.index-values-values.result (some_length c.args.values.now c.requires) c.index-values-values.is in
    rw c.in-Last.is (IfOk-weaker c.copy_term-in-Last.result _ _ (λ t same. ap json same ∙ last) c.copy_term-in-Last.ensures)
