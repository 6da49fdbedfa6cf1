use Rattle.doc_file.proofs.Pages.{go_in_pages}
use Rattle.doc_file.proofs.laws.changes_go_in_pages.Goals as goal

pub returns : goal.returns
returns c = go_in_pages
