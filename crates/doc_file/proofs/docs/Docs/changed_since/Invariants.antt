use Rattle.std.proofs.Common.{◌≡◌}
use Rattle.view_ports.specs.Causes.{RisesBy}
use Rattle.view_ports.specs.Disk.{Tells, MovesNone}
use Rattle.doc_file.proofs.Progress.{IsSoFar}
use Rattle.doc_file.proofs.docs.Docs.changed_since.Given as goal

-- the changes so far, and what the calls for them did to the folder
abbrev pub invariant-loop-index : goal.invariant-loop-index
invariant-loop-index g l = record {
  so_far : IsSoFar l.self l.seq l.n l.after l._index (g.F.Folder.disk l.initial.folder) l.items.items;
  disk : Tells (g.F.Folder.disk l.initial.folder) (g.F.Folder.disk l.folder) MovesNone;
  faults : g.F.Folder.faults l.folder ≡ g.F.Folder.faults l.initial.folder;
  reads : RisesBy l._index (g.F.Folder.reads l.initial.folder) (g.F.Folder.reads l.folder);
}
