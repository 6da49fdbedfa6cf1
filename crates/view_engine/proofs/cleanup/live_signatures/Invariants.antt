-- The ids so far were read, the signatures are those of their designs, over each history and as the files hold them, and no fault was
-- counted.
use Rattle.std.specs.Prelude.{◌≡◌, List, take}
use Rattle.view_ports.specs.Disk.{IfTold}
use Rattle.doc_file.specs.Docs.{bytes_in, IsAt}
use Rattle.design_docs.specs.History.{Write}
use Rattle.view_engine.specs.Cleaning.{IsSignatureOf}
use Rattle.view_engine.specs.Disks.{Reads}
use Rattle.view_engine.specs.HeldDesigns.{IsSignatureIn}
use Rattle.view_engine.proofs.LiveSignatures.{so_far, AreSignaturesOf}
use Rattle.view_engine.proofs.cleanup.live_signatures.Given as goal

abbrev pub invariant-loop-id : goal.invariant-loop-id
invariant-loop-id g l = Reads g.F.Folder l.docs l.initial.folder l.folder so_far
    × ((history : List Write) → IfTold (g.F.Folder.disk l.initial.folder) (λ d. IsAt l.docs d.now history → AreSignaturesOf (IsSignatureOf history) (take l.id-index l.id-items) l.signatures.items))
    × (g.F.Folder.faults l.folder ≡ g.F.Folder.faults l.initial.folder)
    × IfTold (g.F.Folder.disk l.initial.folder) (λ d. AreSignaturesOf (IsSignatureIn l.docs (bytes_in l.docs d.now)) (take l.id-index l.id-items) l.signatures.items)
