use Rattle.doc_file.proofs.Stores.{at_holds}
use Rattle.doc_file.proofs.laws.files_of_open_documents_hold.Goals as goal

pub returns : goal.returns
returns c = λ docs files history at. at_holds docs files at.is_open history at
