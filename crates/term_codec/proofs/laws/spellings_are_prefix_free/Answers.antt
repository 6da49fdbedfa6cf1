use Rattle.term_codec.proofs.Spelled.{spelling-prefix_free}
use Rattle.term_codec.proofs.laws.spellings_are_prefix_free.Goals as goal

pub returns : goal.returns
returns c = spelling-prefix_free
