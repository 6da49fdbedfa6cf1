-- Bringing the open index in a place up to date.
use Rattle.std.specs.Prelude.{◌≡◌, ℕ, Result, slice_set}
use Rattle.view_ports.specs.declared.folder.Folder.{Ghosts as Folders}
use Rattle.view_ports.specs.declared.servers.Servers.{Ghosts as Servers}
use Rattle.design_docs.specs.declared.design.Design.{Design}
use Rattle.doc_file.specs.declared.docs.Docs.{Docs}
use Rattle.tree_index.specs.declared.index.Index.{Index}
use Rattle.tree_updater.specs.declared.fault.UpdateFault.{UpdateFault}
use Rattle.tree_updater.specs.Updates.{Updates}
use Rattle.tree_groups.specs.Groups.{open_of, IsGroup}
use Rattle.tree_groups.specs.Reached.{sig_of, views_in}
use Rattle.tree_groups.specs.Sides.{of_index, Side}

module _ {F C : Type 0} (f : Folders F) (s : Servers C) (docs : Docs) (design : Design) (old new : Side F C) where
  -- the index of the design, which is in this place, is updated, and no other one
  pub record UpdatesAt (place : ℕ) (result : Result (Unit {0}) UpdateFault) : Type 0 where
    pub before : Index
    pub after : Index
    pub there : IsGroup old.groups place (sig_of design) (views_in design) before
    pub placed : open_of new.groups ≡ slice_set (open_of old.groups) place after
    -- where it is as it was, so are they all
    pub kept : after ≡ before → new.groups ≡ old.groups
    pub updates : Updates f s docs design (of_index old before) (of_index new after) result
