-- When the index of a view's design is full.
use Rattle.std.specs.Prelude.{◌≡◌, ◌≢◌, ℕ, List, length, true, Option, Some, None, Result, Ok}
use Rattle.json_terms.specs.Json.{Json}
use Rattle.design_docs.specs.Design.{language_of, views_of}
use Rattle.child_pool.specs.Languages.{path_in}
use Rattle.view_ports.specs.File.{File}
use Rattle.view_ports.specs.Functions.{Functions}
use Rattle.view_ports.specs.declared.file_name.FileName.{FileName}
use Rattle.view_ports.specs.declared.file_name.Stem.TheVariants.{View as ViewStem}
use Rattle.design_docs.specs.History.{live_document}
use Rattle.view_signature.specs.Signature.{signature_of}
use Rattle.node_file.specs.declared.cache.NodeCache.{NodeCache}
use Rattle.view_model.specs.Picture.{Picture}
use Rattle.view_model.specs.Update.{IsUpdated}
use Rattle.tree_index.specs.declared.index.Index.{Index}
use Rattle.tree_index.specs.Calls.{IsAt}
use Rattle.tree_index.specs.Held.{IsFileOf}
use Rattle.tree_updater.specs.Filled.{AreNodesOf, IsFilled}
use Rattle.view_engine.specs.declared.refusal.Refusal.{Refusal}
use Rattle.view_engine.specs.declared.request.Request.{Request}
use Rattle.view_engine.specs.declared.request.Request.TheVariants.{View}
use Rattle.view_engine.specs.Updating.{picture_in}
use Rattle.view_engine.specs.View.{design_id, view_refusal}
use Rattle.view_engine.specs.World.{World}
use Rattle.view_engine.specs.ViewQuery.{ViewQuery, parameters_of, view_query}
use Rattle.query_args.specs.Query.{is_updated}

module _ (functions : List ℕ → Functions) (honest : List ℕ → Type 0) (languages : List (List ℕ × List ℕ)) (cache cache' : NodeCache) where
  -- The file is one of the index of the design that a view asks for. Something was written since its picture, which makes a next one; the index is
  -- at the picture of the world still. With the node of its trees that was put last, or with the root record, the file would be too long, or else
  -- it has all of its commits. That node is no longer than the two pictures may have. Where the path isn't honest, the next picture may be any.
  pub record IsIndexFull (files : FileName → File) (world : World) (view : ViewQuery) (name : FileName) (size : Option ℕ) : Type 0 where
    pub design : Json
    pub path : List ℕ
    pub next : Picture
    pub live : live_document world.history (design_id view.design) ≡ Some design
    pub updates : is_updated (parameters_of view) ≡ true
    pub accepted : view_refusal languages world view ≡ None
    pub path_is : path_in languages (language_of design) ≡ Some path
    pub updated : IsUpdated (functions path) (honest path) (views_of design) world.history (picture_in world design) next
    pub due : (picture_in world design).seq ≢ length world.history
    pub nodes : AreNodesOf cache cache' (picture_in world design) next
    pub index : Index
    pub own : IsFileOf (ViewStem (signature_of design)) name
    pub at : IsAt None (views_of design) index files (world.pictures (signature_of design))
    pub full : IsFilled (length (views_of design)) index cache cache' name size

  -- the same of a request, which is a view
  abbrev pub IsIndexFullFor : (FileName → File) → World → Result Request Refusal → FileName → Option ℕ → Type 0
  IsIndexFullFor files world (Ok (View view query)) name size = IsIndexFull files world (view_query view query) name size
  IsIndexFullFor files world other name size = ⊥

-- the same by some notes of the nodes that were put, so it is left open here which nodes filled the file
abbrev pub IsIndexFullOf : (List ℕ → Functions) → (List ℕ → Type 0) → List (List ℕ × List ℕ) → (FileName → File) → World → Result Request Refusal → FileName → Option ℕ → Type 0
IsIndexFullOf functions honest languages files world request name size =
    (cache : NodeCache) × (cache' : NodeCache) × IsIndexFullFor functions honest languages cache cache' files world request name size
