-- What planning a view promises, over a folder that tells its disk.
use Rattle.std.specs.Prelude.{◌≡◌, ◌≢◌, ◌<◌, ◌≤◌, ℕ, List, length, Result, None, Some, IfErr, IfOk}
use Rattle.json_terms.specs.Json.{Json}
use Rattle.design_docs.specs.Design.{IsDesignOf}
use Rattle.design_docs.specs.declared.design.Design.{Design}
use Rattle.view_ports.specs.Disk.{IfTold}
use Rattle.view_ports.specs.declared.folder.Folder.{Ghosts as Folders}
use Rattle.child_pool.specs.Languages.{path_in}
use Rattle.child_pool.specs.Pools.{languages_of}
use Rattle.doc_file.specs.declared.docs.Docs.{Docs}
use Rattle.doc_file.specs.Docs.{IsAt as AreAt}
use Rattle.design_docs.specs.History.{Write}
use Rattle.view_engine.specs.declared.engine.Engine.{Engine}
use Rattle.view_engine.specs.declared.engine.view.Plan.{Plan}
use Rattle.view_engine.specs.declared.halt.Halt.{Halt}
use Rattle.view_engine.specs.declared.halt.Halt.TheVariants.{Refused, Stopped}
use Rattle.view_engine.specs.declared.halt.StepFault.{StepFault}
use Rattle.view_engine.specs.declared.halt.StepFault.TheVariants.{NoMemory}
use Rattle.view_engine.specs.declared.refusal.Refusal.{Refusal}
use Rattle.view_engine.specs.InMemory.{IsLiveIn, IsReadUnder, IsSaidByDesign, IsViewRefusedBy}
use Rattle.view_engine.specs.View.{design_id, view_refusal}
use Rattle.view_engine.specs.World.{of_history}
use Rattle.view_engine.specs.ViewPlan.{HasReduce, IsPlan, ShowsRows}
use Rattle.view_engine.specs.ViewQuery.{query_for, ViewQuery}

-- a plan is made of a design document that is live in memory, and has its id
pub record IsOfLive (engine : Engine) (name : ViewQuery) (plan : Plan) : Type 0 where
  pub named : plan.id ≡ design_id name.design
  pub live : IsLiveIn engine.docs (design_id name.design)

-- a refusal is one that the documents in memory have for the view
abbrev pub RefusesAsKept : Engine → ViewQuery → Halt → Type 0
RefusesAsKept engine name halt = (refusal : Refusal) → halt ≡ Refused refusal → IsViewRefusedBy engine.docs (design_id name.design) refusal

-- a fault that isn't want of memory comes only where the design document is live in memory
abbrev pub StopsLive : Engine → ViewQuery → Halt → Type 0
StopsLive engine name halt = (fault : StepFault) → halt ≡ Stopped fault → fault ≢ NoMemory → IsLiveIn engine.docs (design_id name.design)

-- the design is that of the document under its id
pub record IsReadOf {F : Type 0} (f : Folders F) (docs : Docs) (folder : F) (name : ViewQuery) (design : Design) : Type 0 where
  pub document : Json
  pub read : IsReadUnder f docs folder (design_id name.design) document
  pub is : IsDesignOf document design

-- the language of a plan has a path
abbrev pub HasPath : Engine → Plan → Type 0
HasPath engine plan = (path : List ℕ) × (path_in (languages_of engine.pool) plan.design.language ≡ Some path)

-- where the design document is live in memory, a refusal is the one that it says
abbrev pub RefusesByDesign : {F : Type 0} → Folders F → Engine → F → ViewQuery → Halt → Type 0
RefusesByDesign f engine folder name halt = (refusal : Refusal) → halt ≡ Refused refusal → IsLiveIn engine.docs (design_id name.design)
    → IsSaidByDesign f engine.docs (languages_of engine.pool) folder name (Some refusal)

-- the design document refuses no such view
abbrev pub TakesByDesign : {F : Type 0} → Folders F → Engine → F → ViewQuery → Type 0
TakesByDesign f engine folder name = IsSaidByDesign f engine.docs (languages_of engine.pool) folder name None

-- a plan is that of the view: its design, the place of the view there, and its query, in a language that has a path
pub record IsPlanned {F : Type 0} (f : Folders F) (engine : Engine) (folder : F) (name : ViewQuery) (plan : Plan) : Type 0 where
  pub about : IsReadOf f engine.docs folder name plan.design
  pub few : length plan.design.views ≤ 32
  pub within : plan.place < length plan.design.views
  pub shown : ShowsRows plan.design.views name.view plan.place
  pub reduce : HasReduce plan.design.views name.view plan.place
  pub query : plan.query ≡ query_for plan.design.views name
  pub known : HasPath engine plan
  pub live : IsOfLive engine name plan
  pub taken : TakesByDesign f engine folder name

module _ {F : Type 0} (f : Folders F) (engine : Engine) (folder : F) (name : ViewQuery) (result : Result Plan Halt) where
  -- over a history it is that of the view
  abbrev pub PlansView : Type 0
  PlansView = (history : List Write) → IfTold (f.disk folder) (λ d. AreAt engine.docs d.now history
      → IfOk result (λ plan. (path : List ℕ) → path_in (languages_of engine.pool) plan.design.language ≡ Some path
      → IsPlan plan.query.update (languages_of engine.pool) history name plan.id plan.design plan.place path))

  -- over a history it is refused only as the view is
  abbrev pub RefusesView : Type 0
  RefusesView = IfErr result (λ halt. (refusal : Refusal) → halt ≡ Refused refusal → (history : List Write)
      → IfTold (f.disk folder) (λ d. AreAt engine.docs d.now history
      → view_refusal (languages_of engine.pool) (of_history history) name ≡ Some refusal))
