use Rattle.map_lang.proofs.Bounds.{stays_within_bounds}
use Rattle.map_lang.proofs.laws.runs_stay_within_bounds.Goals as goal

pub returns : goal.returns
returns c = stays_within_bounds
