-- What is counted is what the history counts.
use Rattle.std.proofs.Common.{◌∙◌, rules}
use Rattle.doc_file.proofs.Tallies.{info_is}
use Rattle.doc_file.proofs.docs.Docs.info.Goals as goal

pub returns-clause-kept : goal.returns-clause-kept
returns-clause-kept c = search rules

pub returns-clause-history : goal.returns-clause-history
returns-clause-history c = λ files history at. returns-clause-kept c ∙ info_is c.args.self.now files history at
