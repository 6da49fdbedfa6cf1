use Rattle.view_ports.proofs.Cutting.{IsCut-some, IsCut-unique}
use Rattle.view_ports.proofs.lines.cut_in_one_way.Goals as goal

pub returns : goal.returns
returns c = record { some = IsCut-some; one = IsCut-unique }
