use Rattle.map_lang.proofs.Parts.{reduces_in_parts}
use Rattle.map_lang.proofs.laws.reduce_in_parts.Goals as goal

pub returns : goal.returns
returns c = reduces_in_parts
