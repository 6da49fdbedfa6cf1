use Rattle.std.proofs.Common.{sym, ap, Some}
use Rattle.json_terms.proofs.Sames.{list_of_members-members_of}
use Rattle.view_engine.proofs.forms.object.Goals as goal

pub returns-in-Object : goal.returns-in-Object
returns-in-Object c = rw c.in-Object.is (sym (ap Some (list_of_members-members_of c.in-Object.members)))
