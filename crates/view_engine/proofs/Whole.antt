-- What is kept of the documents is kept of the world, where no file of an index changes.
use Rattle.std.proofs.Common.{◌≡◌, ◌⊎◌, ◌∙◌, ℕ, List, [], Option, None, Result, Ok, inl, inr, ⊎_elim, sym, subst, arith}
use Rattle.view_ports.specs.Disk.{Disk, Framed, IfTold, IsImageOf, LeavesOnly, Moves, MovesNone, Tells}
use Rattle.view_ports.specs.File.{File}
use Rattle.view_ports.specs.declared.file_name.FileName.{FileName}
use Rattle.view_ports.specs.declared.file_name.Stem.TheVariants.{Docs as DocsStem, View}
use Rattle.view_ports.specs.declared.folder.Folder.{Ghosts as Folders}
use Rattle.view_ports.proofs.DiskRuns.{none_same, none_wider}
use Rattle.view_ports.proofs.Moments.{weaker}
use Rattle.view_ports.proofs.Told.{told_after, told_given, told_map, told_now, told_pair}
use Rattle.doc_file.specs.declared.docs.Docs.{Docs}
use Rattle.doc_file.specs.Docs.{IsAt as AreAt, IsDocsFile, IsOpen as AreDocumentsOpen}
use Rattle.design_docs.specs.History.{Write}
use Rattle.doc_file.proofs.Stores.{image_now}
use Rattle.tree_groups.specs.declared.groups.Groups.{Groups}
use Rattle.tree_groups.specs.Cleans.{IsIndexFile}
use Rattle.tree_groups.specs.Groups.{AreAt as AreIndexesAt, AreOpen as AreIndexesOpen}
use Rattle.tree_groups.specs.Pictures.{AreHeld, Kinds, Pictures, StandFor}
use Rattle.tree_groups.proofs.Standing.{held_stands, images_stand, others_matter_not}
use Rattle.view_engine.specs.declared.engine.Engine.{Engine}
use Rattle.view_engine.specs.declared.refusal.Refusal.{Refusal}
use Rattle.view_engine.specs.declared.request.Request.{Request}
use Rattle.view_engine.specs.declared.request.Request.TheVariants.{Cleanup, View as ViewRequest}
use Rattle.view_engine.specs.Disks.{IsOnIndexes, KeepsDisk, KeepsDocuments, LiesOpen, MovesIndexes, MovesIndexOf}
use Rattle.view_engine.specs.Halts.{DocumentsStandAround, MovesDocuments, Writes}
use Rattle.view_engine.specs.Signatures.{kinds_by, kinds_of, AreOpenOwned, AreOwned}
use Rattle.view_engine.specs.Steps.{IsWrite}
use Rattle.view_engine.specs.World.{World, NoneIsNewer, written}
use Rattle.view_engine.specs.Worlds.{IsAtWorld, IsOpen, StandsEither, StandsFor}
use Rattle.view_engine.proofs.Between.{stands_first}
use Rattle.view_engine.proofs.Signatures.{owned_later, stand_later}
use Rattle.view_engine.specs.ViewQuery.{ViewQuery, view_query}

-- a file of an index is none of the documents
pub apart : (name : FileName) → IsIndexFile name → IsDocsFile name → ⊥
apart name (sig, of_view) of_docs = let same : View sig ≡ DocsStem = sym of_view ∙ of_docs in cc

-- files of which only those of the documents change
module _ (a b : Disk FileName) (moves : MovesDocuments (λ image. Unit {0}) a b) where
  same_files : (name : FileName) → IsIndexFile name → b.now name ≡ a.now name
  same_files name is = moves.others name (apart name is)

  pub indexes_at : (kinds : Kinds) (groups : Groups) (pictures : Pictures) → AreIndexesAt kinds groups a.now pictures → AreIndexesAt kinds groups b.now pictures
  indexes_at kinds groups pictures at = (others_matter_not kinds groups a.now b.now pictures same_files).0 at

  pub indexes_open : (groups : Groups) → AreIndexesOpen groups a.now → AreIndexesOpen groups b.now
  indexes_open groups is_open = (others_matter_not (kinds_by (λ sig language. None) []) groups a.now b.now (λ sig. None) same_files).1 is_open

-- an image in which only files of the documents may be others
module _ (kinds : Kinds) (files : FileName → File) (pictures : Pictures) (held : AreHeld kinds files pictures) (P : (FileName → List ℕ) → Type 0) (image : FileName → List ℕ) (framed : Framed IsDocsFile files P image) where
  pub pictures_stand : StandFor kinds image pictures
  pictures_stand = λ sig. held_stands kinds sig files image (pictures sig) (held sig) (λ n of_view. framed.outside n (apart n (sig, of_view)))

-- with one more write no picture is newer either
pub within_longer : (world : World) (write : Write) → NoneIsNewer world → NoneIsNewer (written world write)
within_longer world write within = λ sig picture has. let low = within sig picture has in omega arith

-- an image that stands for the documents around a write stands for the world around it
around : (world : World) (request : Result Request Refusal) (files : FileName → File) → AreHeld (kinds_of world) files world.pictures → NoneIsNewer world → AreOwned world.history world.pictures → (image : FileName → List ℕ)
    → Framed IsDocsFile files (DocumentsStandAround world request) image
    → StandsFor image world ⊎ ((write : Write) × IsWrite world request write × StandsFor image (written world write))
around world request files held within owned image framed = by_side framed.inside
  where
    indexes : StandFor (kinds_of world) image world.pictures
    indexes = pictures_stand (kinds_of world) files world.pictures held (DocumentsStandAround world request) image framed

    by_side : DocumentsStandAround world request image → StandsFor image world ⊎ ((write : Write) × IsWrite world request write × StandsFor image (written world write))
    by_side (inl before) = inl (record { documents = before; indexes = indexes; within = within; owned = owned })
    by_side (inr (write, is, after)) = inr (
      write,
      is,
      record {
        documents = after;
        indexes = stand_later world.functions write world.history world.pictures owned image indexes;
        within = within_longer world write within;
        owned = owned_later world.functions write world.history world.pictures owned within;
      },
    )

-- each image that a crash may leave now
pub image_stands : (engine : Engine) (files : FileName → File) (world : World) → IsAtWorld engine files world → (image : FileName → List ℕ) → IsImageOf files image → StandsFor image world
image_stands engine files world at image is = record {
  documents = image_now engine.docs files at.documents.is_open world.history at.documents image is;
  indexes = images_stand (kinds_of world) files world.pictures image at.indexes.held is;
  within = at.within;
  owned = at.owned;
}

-- ---- what a crash leaves

-- where no file changed, of the world that the engine is at, whatever the world after is
module _ (engine : Engine) (world after : World) where
  pub leaves_before : (a b : Disk FileName) → MovesNone a b → IsAtWorld engine a.now world → LeavesOnly (StandsEither world after) a b
  leaves_before a b none at = weaker (Framed (λ n. ⊥) a.now (λ image. Unit {0})) (StandsEither world after) a b
      (λ image framed. stands_first world after image (image_stands engine a.now world at image (λ name. framed.outside name (λ never. never)))) none.moments

  pub told_leaves_before : (old new : Option (Disk FileName)) → Tells old new MovesNone → IfTold old (λ d. IsAtWorld engine d.now world) → Tells old new (LeavesOnly (StandsEither world after))
  told_leaves_before old new none at = told_given old new (λ d. IsAtWorld engine d.now world) MovesNone (LeavesOnly (StandsEither world after)) (λ a b here same. leaves_before a b same here) at none

pub leaves_none : (engine : Engine) (world : World) (a b : Disk FileName) → MovesNone a b → IsAtWorld engine a.now world → LeavesOnly (StandsEither world world) a b
leaves_none engine world = leaves_before engine world world

pub told_leaves_none : (engine : Engine) (world : World) (old new : Option (Disk FileName)) → Tells old new MovesNone → IfTold old (λ d. IsAtWorld engine d.now world) → Tells old new (LeavesOnly (StandsEither world world))
told_leaves_none engine world = told_leaves_before engine world world

-- around a request on the documents, what is said of the world before it and of each world with its write
module _ (engine : Engine) (world : World) (request : Result Request Refusal) where
  pub leaves_around : (P : (FileName → List ℕ) → Type 0) (a b : Disk FileName) → ((image : FileName → List ℕ) → StandsFor image world → P image)
      → ((image : FileName → List ℕ) (write : Write) → IsWrite world request write → StandsFor image (written world write) → P image) → IsAtWorld engine a.now world
      → MovesDocuments (DocumentsStandAround world request) a b → LeavesOnly P a b
  leaves_around P a b before made at moves = weaker (Framed IsDocsFile a.now (DocumentsStandAround world request)) P a b
      (λ image framed. by_side image (around world request a.now at.indexes.held at.within at.owned image framed)) moves.moments
    where
      by_side : (image : FileName → List ℕ) → StandsFor image world ⊎ ((write : Write) × IsWrite world request write × StandsFor image (written world write)) → P image
      by_side image (inl stands) = before image stands
      by_side image (inr (write, is, stands)) = made image write is stands

-- where no file changes none of an index does
pub view_moves_none : {F : Type 0} (f : Folders F) (engine : Engine) (old new : F) (name : ViewQuery) → Tells (f.disk old) (f.disk new) MovesNone → Tells (f.disk old) (f.disk new) (MovesIndexOf engine name)
view_moves_none f engine old new name none = told_map (f.disk old) (f.disk new) MovesNone (MovesIndexOf engine name) (λ a b same. record { files = inl same; current = λ is. same; kept = λ keeps is. same; refused = λ history refusal at is. same }) none

-- a request that writes no document and changes no file changes none of an index
moves_no_index : {F : Type 0} (f : Folders F) (engine : Engine) (old new : F) (request : Result Request Refusal) → ((Writes request → ⊥) → Tells (f.disk old) (f.disk new) MovesNone) → MovesIndexes f engine old new request
moves_no_index f engine old new (Ok (ViewRequest name limits)) none = view_moves_none f engine old new (view_query name limits) (none (λ writes. writes))
moves_no_index f engine old new (Ok Cleanup) none = told_map (f.disk old) (f.disk new) MovesNone (Moves IsIndexFile (λ image. Unit {0}) (λ files. Unit {0}))
    (λ a b same. none_wider IsIndexFile (λ image. Unit {0}) (λ files. Unit {0}) a b (λ image is. tt) (λ kept. tt) same) (none (λ writes. writes))
moves_no_index f engine old new other none = tt

-- the files of the documents are as they were
abbrev pub LeavesDocuments : Disk FileName → Disk FileName → Type 0
LeavesDocuments a b = (n : FileName) → IsDocsFile n → b.now n ≡ a.now n

-- so a request on indexes leaves them
pub documents_left : {F : Type 0} (f : Folders F) (engine : Engine) (old new : F) (request : Result Request Refusal) → IsOnIndexes request → MovesIndexes f engine old new request → Tells (f.disk old) (f.disk new) LeavesDocuments
documents_left f engine old new (Ok (ViewRequest name limits)) is moves = told_map (f.disk old) (f.disk new) (MovesIndexOf engine (view_query name limits)) LeavesDocuments
    (λ a b moved n of_docs. ⊎_elim (λ none. none_same a b none n) (λ one. (one.2).others n (λ of_view. apart n (_, of_view) of_docs)) moved.files) moves
documents_left f engine old new (Ok Cleanup) is moves = told_map (f.disk old) (f.disk new) (Moves IsIndexFile (λ image. Unit {0}) (λ files. Unit {0})) LeavesDocuments
    (λ a b moved n of_docs. moved.others n (λ of_view. apart n of_view of_docs)) moves
documents_left f engine old new other is moves = absurd is

module _ {F : Type 0} {f : Folders F} {engine engine' : Engine} {old new : F} where
  module _ {request : Result Request Refusal} {GivenUp GoesOn : Type 0} (groups : engine'.groups ≡ engine.groups) where
    -- what is kept of the documents is kept of all files
    pub kept_whole : LiesOpen f engine old → KeepsDocuments f engine.docs engine'.docs old new request GivenUp GoesOn → KeepsDisk f engine engine' old new request GivenUp GoesOn
    kept_whole is_open keeps = record {
      documents = λ other. keeps;
      indexes = moves_no_index f engine old new request keeps.read;
      is_open = λ goes. told_pair (f.disk new) (λ d. AreDocumentsOpen engine'.docs d.now) (λ d. AreIndexesOpen engine.groups d.now) (λ d. IsOpen engine' d.now)
          (λ d here there. record { documents = here; indexes = subst (λ (g : Groups). AreIndexesOpen g d.now) (sym groups) there }) (keeps.is_open goes)
          (told_after (f.disk old) (f.disk new) (λ d. IsOpen engine d.now) (λ d. AreIndexesOpen engine.groups d.now) (MovesDocuments (λ image. Unit {0}))
          (λ a b here moves. indexes_open a b moves engine.groups here.indexes) is_open keeps.own);
    }

-- the documents of an engine that lies open do
pub documents_open : (disk : Option (Disk FileName)) (engine : Engine) → IfTold disk (λ d. IsOpen engine d.now) → IfTold disk (λ d. AreDocumentsOpen engine.docs d.now)
documents_open disk engine = told_now disk (λ d. IsOpen engine d.now) (λ d. AreDocumentsOpen engine.docs d.now) (λ d here. here.documents)

-- and those of one that is at a world
pub documents_at : (disk : Option (Disk FileName)) (engine : Engine) (world : World) → IfTold disk (λ d. IsAtWorld engine d.now world) → IfTold disk (λ d. AreAt engine.docs d.now world.history)
documents_at disk engine world = told_now disk (λ d. IsAtWorld engine d.now world) (λ d. AreAt engine.docs d.now world.history) (λ d here. here.documents)

-- where no file changed, an engine with these documents and indexes is at the world still
pub world_none : (engine engine' : Engine) (old new : Option (Disk FileName)) → engine'.docs ≡ engine.docs → engine'.groups ≡ engine.groups → Tells old new MovesNone → (world : World) → IfTold old (λ d. IsAtWorld engine d.now world) → IfTold new (λ d. IsAtWorld engine' d.now world)
world_none engine engine' old new docs groups moves world told =
    told_after old new (λ d. IsAtWorld engine d.now world) (λ d. IsAtWorld engine' d.now world) MovesNone
    (λ a b here none.
    let files : b.now ≡ a.now = λ i. λ name. none_same a b none name i in
    subst (λ (fs : FileName → File). IsAtWorld engine' fs world) (sym files) (record {
      documents = subst (λ (d : Docs). AreAt d a.now world.history) (sym docs) here.documents;
      indexes = subst (λ (g : Groups). AreIndexesAt (kinds_of world) g a.now world.pictures) (sym groups) here.indexes;
      within = here.within;
      owned = here.owned;
      opened = subst (AreOpenOwned world.history) (sym groups) here.opened;
    })) told moves
