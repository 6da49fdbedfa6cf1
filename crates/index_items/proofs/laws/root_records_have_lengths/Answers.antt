use Rattle.index_items.proofs.Roots.{root_long}
use Rattle.index_items.proofs.laws.root_records_have_lengths.Goals as goal

pub returns : goal.returns
returns c = root_long
