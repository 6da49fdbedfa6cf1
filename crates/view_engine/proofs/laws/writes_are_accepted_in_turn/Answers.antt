use Rattle.view_engine.proofs.AcceptedWrites.{accepted_in_turn}
use Rattle.view_engine.proofs.laws.writes_are_accepted_in_turn.Goals as goal

pub returns : goal.returns
returns c = accepted_in_turn
