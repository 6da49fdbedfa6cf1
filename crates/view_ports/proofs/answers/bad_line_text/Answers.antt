use Rattle.std.proofs.Common.{ℕ, Vec, Global, codes, arith}
use Rattle.std.proofs.lemmas.Result.{IfOk-weaker}
use Rattle.view_ports.specs.Honest.{IsTextOf, no_command}
use Rattle.view_ports.proofs.Fields.{Spells-strings}
use Rattle.view_ports.proofs.answers.bad_line_text.Goals as goal

pub returns-clause-short : goal.returns-clause-short
returns-clause-short c =
    IfOk-weaker _ _ _ (λ (text : Vec ℕ Global) (is : IsTextOf no_command text.items). Spells-strings (codes "error") (codes "bad_line") (codes "line") text.items (omega arith) is) c.three_texts.ensures
