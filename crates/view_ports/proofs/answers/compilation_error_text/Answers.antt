use Rattle.std.proofs.Common.{ℕ, Vec, Global, codes, arith}
use Rattle.std.proofs.lemmas.Result.{IfOk-weaker}
use Rattle.view_ports.specs.Honest.{IsTextOf, no_compilation}
use Rattle.view_ports.proofs.Fields.{Spells-strings}
use Rattle.view_ports.proofs.answers.compilation_error_text.Goals as goal

pub returns-clause-short : goal.returns-clause-short
returns-clause-short c =
    IfOk-weaker _ _ _ (λ (text : Vec ℕ Global) (is : IsTextOf no_compilation text.items). Spells-strings (codes "error") (codes "compilation_error") (codes "source") text.items (omega arith) is) c.three_texts.ensures
