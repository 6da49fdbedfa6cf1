-- those so far are removed
use Rattle.std.specs.Prelude.{take}
use Rattle.tree_groups.specs.Removing.{IsNamed, RemovesEach}
use Rattle.tree_groups.proofs.Removing.{well}
use Rattle.tree_groups.proofs.groups.Groups.remove_each.Given as goal

abbrev pub invariant-loop-name : goal.invariant-loop-name
invariant-loop-name g l = RemovesEach l.kept (IsNamed (take l.name-index l.names)) g.F.Folder l.initial.self l.self l.initial.folder l.folder well
