-- A number in decimal is UTF-8.
use Rattle.doc_file.proofs.Revisions.{IsUtf8-generation}
use Rattle.doc_file.proofs.rev.is_generation.Goals as goal

pub returns-in-Err : goal.returns-in-Err
returns-in-Err c = (λ h. absurd cc, λ g. absurd (c.in-Err.ensures.cases.0 (IsUtf8-generation c.args.digits.now g)))
