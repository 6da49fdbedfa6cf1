use Rattle.view_model.proofs.Distinct.{mapped_distinct}
use Rattle.view_model.proofs.Since.{maps_written_since}
use Rattle.view_model.proofs.laws.documents_are_mapped_once.Goals as goal

pub returns : goal.returns
returns c = record {
  distinct = λ history seq. mapped_distinct seq history;
  since = maps_written_since;
}
