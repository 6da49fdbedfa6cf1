-- The index in the place that was found goes, and where none was found all stay.
use Rattle.std.proofs.Common.{subst}
use Rattle.tree_groups.specs.Groups.{IsPlaceOf}
use Rattle.tree_groups.proofs.Places.{closed, none_closed}
use Rattle.tree_groups.proofs.groups.Groups.close.Goals as goal

pub returns-in-Some : goal.returns-in-Some
returns-in-Some c = closed c.args.self.now c.args.stem c.in-Some.place (subst (IsPlaceOf c.args.self.now c.args.stem) c.in-Some.is c.place_of.ensures) _ c.remove.ensures.items

pub returns-in_default : goal.returns-in_default
returns-in_default c = none_closed c.args.self.now c.args.stem (subst (IsPlaceOf c.args.self.now c.args.stem) c.in_default.is c.place_of.ensures)
