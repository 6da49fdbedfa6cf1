-- Opening the index of a signature among the others.
use Rattle.std.specs.Prelude.{◌≡◌, ◌⊎◌, ◌≤◌, ℕ, List, length, Result, Ok, Err, IfErr, IfOk}
use Rattle.view_ports.specs.Causes.{RisesBy}
use Rattle.view_ports.specs.Disk.{IfTold, Moves, Tells}
use Rattle.view_ports.specs.File.{File}
use Rattle.view_ports.specs.declared.file_name.FileName.{FileName}
use Rattle.view_ports.specs.declared.file_name.Stem.TheVariants.{View}
use Rattle.view_ports.specs.declared.folder.Folder.{Ghosts as Folders}
use Rattle.gate_file.specs.Open.{AreFitSlots}
use Rattle.tree_index.specs.declared.fault.IndexFault.{IndexFault}
use Rattle.tree_index.specs.declared.fault.IndexFault.TheVariants.{NoMemory, Store}
use Rattle.tree_index.specs.declared.index.Index.{Index}
use Rattle.tree_index.specs.Calls.{IsCounted}
use Rattle.tree_index.specs.Held.{or_empty, IsDamagedAt, IsFileOf, OnlyOpens}
use Rattle.tree_index.specs.Opens.{FindsDamage, IsFound, IsLeft, IsOpenFault, IsPastWrite}
use Rattle.tree_groups.specs.declared.groups.Groups.{Groups}
use Rattle.tree_groups.specs.Groups.{AreAt, AreOpen, IsGroup, OpensOnly, StayOpen}
use Rattle.tree_groups.specs.Pictures.{Kinds, Pictures, StandsOf}
use Rattle.tree_groups.specs.Reached.{sig_of, views_in}
use Rattle.design_docs.specs.declared.design.Design.{Design}
use Rattle.doc_file.specs.declared.docs.Docs.{Docs}
use Rattle.doc_file.specs.Docs.{seq_of as written}

module _ (own : List ℕ) (views newest : ℕ) where
  -- the picture of this signature is no newer than the newest write, and the signature is of so many views
  pub record IsFit (kinds : Kinds) (pictures : Pictures) : Type 0 where
    pub within : (or_empty views (pictures own)).seq ≤ newest
    pub number : length (kinds own).views ≡ views

  -- so it ends: want of memory leaves the pictures too
  abbrev pub EndsOpen : Kinds → Groups → Pictures → Result ℕ IndexFault → (FileName → File) → Type 0
  EndsOpen kinds groups pictures (Ok place) files = AreAt kinds groups files pictures
  EndsOpen kinds groups pictures (Err (Store fault)) files = Unit {0}
  EndsOpen kinds groups pictures (Err other) files = AreAt kinds groups files pictures

  module _ {F : Type 0} (f : Folders F) (groups groups' : Groups) (old new : F) where
    pub record OpensGroup (result : Result ℕ IndexFault) : Type 0 where
      -- a crash leaves the same pictures, and so does the opening
      pub stands : (kinds : Kinds) (pictures : Pictures) → IfTold (f.disk old) (λ d. AreAt kinds groups d.now pictures × IsFit kinds pictures)
          → Tells (f.disk old) (f.disk new) (Moves (IsFileOf (View own)) (λ image. StandsOf kinds own image (pictures own)) (EndsOpen kinds groups' pictures result))
      -- and nothing is damaged
      pub sound : (kinds : Kinds) (pictures : Pictures) → IfTold (f.disk old) (λ d. AreAt kinds groups d.now pictures × IsFit kinds pictures → FindsDamage (λ name at. ⊥) result)
      -- whatever the files hold: what is found damaged was so before
      pub damaged : IfTold (f.disk old) (λ d. FindsDamage (IsDamagedAt (View own) views d.now) result)
      -- and they are emptied only where they say to be past the newest write
      pub files : Tells (f.disk old) (f.disk new) (OnlyOpens (View own) (IsPastWrite (View own) views newest))
      -- where no slot is damaged, neither is the file touched whose root record is
      pub left : Tells (f.disk old) (f.disk new) (λ a b. FindsDamage (λ name at. AreFitSlots (View own) a.now → IsLeft (View own) a.now b.now) result)
      pub is_open : IfTold (f.disk old) (λ d. AreOpen groups d.now) → IfTold (f.disk new) (λ d. AreOpen groups' d.now)
      pub place : IfOk result (λ place. (index : Index) × IsGroup groups' place own views index)
      -- the other open indexes stay open, and no other is opened
      pub beside : StayOpen (View own) groups groups'
      pub only : OpensOnly (View own) groups groups'
      -- where none is open of so many views, the one that is opened is at what its files showed, as far as this reaches the newest write
      pub shown : ((place : ℕ) (index : Index) → IsGroup groups place own views index → ⊥)
          → Tells (f.disk old) (f.disk new) (λ a b. IfOk result (λ place. (index : Index) × IsGroup groups' place own views index × IsFound (View own) views newest a.now b.now index))
      -- one that is open, of so many views, is found in its place, and nothing is done
      pub found : (place : ℕ) (index : Index) → IsGroup groups place own views index → (result ≡ Ok place) × (groups' ≡ groups) × (new ≡ old)
      pub faults : IfErr result IsOpenFault
      pub cause : IsCounted f old new result
      pub reads : RisesBy 10 (f.reads old) (f.reads new)

-- the same for a design, over these documents; where its signature finds no memory nothing is done
abbrev pub OpensDesign : {F : Type 0} → Folders F → Docs → Design → Groups → Groups → F → F → Result ℕ IndexFault → Type 0
OpensDesign f docs design groups groups' old new result =
    OpensGroup (sig_of design) (views_in design) (written docs) f groups groups' old new result ⊎ ((result ≡ Err NoMemory) × (groups' ≡ groups) × (new ≡ old))
