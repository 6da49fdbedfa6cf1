use Rattle.view_engine.proofs.LiveDocuments.{has_last_writes, has_live_documents, is_in_order_of_id}
use Rattle.view_engine.proofs.laws.live_documents_have_their_last_write.Goals as goal

pub returns-clause-last : goal.returns-clause-last
returns-clause-last c = has_last_writes

pub returns-clause-live : goal.returns-clause-live
returns-clause-live c = has_live_documents

pub returns-clause-ordered : goal.returns-clause-ordered
returns-clause-ordered c = is_in_order_of_id
