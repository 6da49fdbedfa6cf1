use Rattle.map_lang.proofs.Compiled.{compiled_once}
use Rattle.map_lang.proofs.laws.compiles_once.Goals as goal

pub returns : goal.returns
returns c = compiled_once
