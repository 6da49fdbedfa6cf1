use Rattle.doc_file.proofs.Stores.{image_now}
use Rattle.doc_file.proofs.laws.images_of_open_documents_stand.Goals as goal

pub returns : goal.returns
returns c = λ docs files history at image is. image_now docs files at.is_open history at image is
