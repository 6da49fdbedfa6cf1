use Rattle.json_terms.specs.Seen.{json}
use Rattle.json_terms.proofs.OneLine.{line-text_of}
use Rattle.json_terms.proofs.write.text_is_line.Goals as goal

pub returns : goal.returns
returns c = line-text_of (json c.args.term.now) c.validity.ensures
