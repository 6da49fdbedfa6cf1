use Rattle.doc_file.proofs.Histories.{state_kept}
use Rattle.doc_file.specs.Docs.{bytes_in, entries_of}
use Rattle.doc_file.proofs.laws.states_are_told.Goals as goal

pub returns : goal.returns
returns c = λ docs files history at id. state_kept history (bytes_in docs files) (entries_of docs) at.each id
