use Rattle.doc_file.proofs.CanBeStored.{live_are_stored, mapped_are_stored}
use Rattle.doc_file.proofs.laws.live_documents_can_be_stored.Goals as goal

pub returns-clause-live : goal.returns-clause-live
returns-clause-live c = live_are_stored

pub returns-clause-mapped : goal.returns-clause-mapped
returns-clause-mapped c = mapped_are_stored
