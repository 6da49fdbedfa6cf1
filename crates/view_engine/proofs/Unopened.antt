-- A folder that isn't opened: nothing of it changes.
use Rattle.std.proofs.Common.{ℕ, List, [], Option, Some, None, inl, refl, subst}
use Rattle.view_ports.specs.Disk.{Disk, IfTold, IsImageOf, LeavesOnly, Tells}
use Rattle.view_ports.specs.File.{File, IsImage}
use Rattle.view_ports.specs.declared.file_name.FileName.{FileName}
use Rattle.view_ports.specs.declared.file_name.Stem.TheVariants.{Docs as DocsStem}
use Rattle.view_ports.proofs.Images.{IsImage-settled}
use Rattle.gate_file.proofs.Beside.{stands_beside}
use Rattle.doc_file.specs.Held.{HoldsWrites}
use Rattle.tree_groups.proofs.Standing.{images_stand}
use Rattle.view_engine.specs.Openings.{IsMovedByOpening}
use Rattle.view_engine.specs.Signatures.{kinds_of}
use Rattle.view_engine.specs.World.{World}
use Rattle.view_engine.specs.Worlds.{Holds, StandsFor}

-- each image of files that hold a world stands for it
held_image : (files : FileName → File) (world : World) → Holds files world → (image : FileName → List ℕ) → IsImageOf files image → StandsFor image world
held_image files world held image is = record {
  documents = stands_beside DocsStem HoldsWrites image (λ name. (files name).seen) world.history (held.documents).stands
      (λ name own. IsImage-settled (files name).seen (image name) (subst (λ (f : File). IsImage f (image name)) ((held.documents).whole name own) (is name)));
  indexes = images_stand (kinds_of world) files world.pictures image held.indexes is;
  within = held.within;
  owned = held.owned;
}

pub still_stands : (disk : Option (Disk FileName)) (world : World) → IfTold disk (λ d. Holds d.now world) → Tells disk disk (LeavesOnly (λ image. StandsFor image world))
still_stands None world held = tt
still_stands (Some d) world held = record { between = []; follows = refl; then_on = tt; first = λ image is. held_image d.now world held image is }

pub unmoved : (disk : Option (Disk FileName)) → Tells disk disk IsMovedByOpening
unmoved None = tt
unmoved (Some d) = record {
  moments = record { between = []; follows = refl; then_on = tt; first = λ image is. record { inside = inl (λ name own. is name); outside = λ name not. is name } };
  others = λ name not. refl;
  ended = tt;
}
