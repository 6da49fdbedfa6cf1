-- Open indexes of live design documents stay open in a cleanup.
use Rattle.std.specs.List.{Contains}
use Rattle.std.proofs.Common.{◌≡◌, ℕ, List, Result, Ok}
use Rattle.std.proofs.lemmas.List.Elements.{All-contains_itself, All-weaker}
use Rattle.view_ports.specs.Disk.{IfTold}
use Rattle.view_ports.specs.File.{File}
use Rattle.view_ports.specs.declared.file_name.FileName.{FileName}
use Rattle.view_ports.specs.declared.file_name.Stem.TheVariants.{View}
use Rattle.view_ports.specs.declared.folder.Folder.{Ghosts as Folders}
use Rattle.view_ports.proofs.Told.{told_all, told_now}
use Rattle.doc_file.specs.declared.docs.Docs.{Docs}
use Rattle.doc_file.specs.Docs.{bytes_in}
use Rattle.tree_index.specs.declared.index.Index.{Index}
use Rattle.tree_index.specs.Index.{stem_of}
use Rattle.tree_groups.specs.declared.groups.Groups.{Groups}
use Rattle.tree_groups.specs.Cleans.{KeptStayOpen}
use Rattle.tree_groups.specs.Groups.{open_of}
use Rattle.view_engine.specs.declared.refusal.Refusal.{Refusal}
use Rattle.view_engine.specs.declared.request.Request.{Request}
use Rattle.view_engine.specs.declared.request.Request.TheVariants.{Cleanup}
use Rattle.view_engine.specs.Cleaning.{LiveStayOpen, StaysOpenFor}
use Rattle.view_engine.specs.HeldDesigns.{AreHeldSignatures, IsHeldSignature}

module _ {F : Type 0} (f : Folders F) (docs : Docs) (groups : Groups) where
  -- an index of a live design document is open
  abbrev Stays : (FileName → File) → Groups → Index → Type 0
  Stays files groups' index = (sig : List ℕ) → stem_of index ≡ View sig → IsHeldSignature docs (bytes_in docs files) sig → Contains (open_of groups') index

  -- where none is closed
  pub stay_open : (folder : F) → LiveStayOpen f docs groups groups folder
  stay_open folder = told_all (f.disk folder) _ (λ d. All-weaker (Contains (open_of groups)) (Stays d.now groups) (λ index there sig named lives. there) (open_of groups) (All-contains_itself (open_of groups)))

  module _ (groups' : Groups) (folder : F) (kept : List (List ℕ)) where
    -- where those are kept that are of these signatures, which are the live ones
    pub live_stay_open : IfTold (f.disk folder) (λ d. AreHeldSignatures docs (bytes_in docs d.now) kept) → KeptStayOpen kept groups groups' → LiveStayOpen f docs groups groups' folder
    live_stay_open held stay = told_now (f.disk folder) (λ d. AreHeldSignatures docs (bytes_in docs d.now) kept) _
        (λ d are. All-weaker (λ (index : Index). (sig : List ℕ) → stem_of index ≡ View sig → Contains kept sig → Contains (open_of groups') index) (Stays d.now groups')
        (λ index stays sig named lives. stays sig named ((are.each sig).1 lives)) (open_of groups) stay) held

  -- of a request that closes none
  pub stays_for : (folder : F) (request : Result Request Refusal) → StaysOpenFor f docs groups groups folder request
  stays_for folder (Ok Cleanup) = stay_open folder
  stays_for folder other = tt
