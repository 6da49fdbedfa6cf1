-- The pictures that documents make of one another.
use Rattle.std.specs.Prelude.{◌≡◌, ◌≢◌, ◌⊎◌, ◌≤◌, ℕ, List, [], length, true}
use Rattle.view_ports.specs.Functions.{Functions, source_limit}
use Rattle.design_docs.specs.declared.design.Design.{Design}
use Rattle.design_docs.specs.declared.design.View.{View}
use Rattle.design_docs.specs.Design.{map_sources}
use Rattle.design_docs.specs.History.{Write}
use Rattle.child_pool.specs.Honesty.{SomeSourceFails}
use Rattle.child_pool.specs.Sessions.{AllCompile}
use Rattle.view_model.specs.Picture.{Picture}
use Rattle.view_model.specs.Rows.{some_reduce_fails}
use Rattle.view_model.specs.Update.{IsUpdated}
use Rattle.change_mapper.specs.Written.{documents_since}

module _ (functions : List ℕ → Functions) (honest : List ℕ → Type 0) (design : Design) where
  -- a picture that the servers of a path made of another one: its rows are those of an honest path where there are no more views than a
  -- design document may have; and on an honest path all sources compile, where a document was mapped
  pub record IsMapped (path : List ℕ) (history : List Write) (picture next : Picture) : Type 0 where
    pub updated : IsUpdated (functions path) (honest path × (length design.views ≤ source_limit)) design.views history picture next
    pub compile : honest path → documents_since picture.seq history ≢ [] → AllCompile (functions path) (map_sources design.views)

  -- the picture has rows of a view whose reduce's source doesn't compile
  abbrev pub IsSpoiled : List ℕ → Picture → Type 0
  IsSpoiled path picture = some_reduce_fails (functions path) design.views picture.rows ≡ true

  -- and on an honest path it isn't spoiled where the old one wasn't
  pub record IsMade (path : List ℕ) (history : List Write) (picture next : Picture) : Type 0 where
    pub mapped : IsMapped path history picture next
    pub reduces : honest path → IsSpoiled path next → IsSpoiled path picture

  -- a document is to be mapped and a map source doesn't compile; or the picture is spoiled, or one that is made of it
  abbrev pub IsRefused : List ℕ → List Write → Picture → Type 0
  IsRefused path history picture =
      ((documents_since picture.seq history ≢ []) × SomeSourceFails (functions path) (map_sources design.views))
      ⊎ IsSpoiled path picture
      ⊎ ((next : Picture) × IsMapped path history picture next × IsSpoiled path next)

-- the new picture is of the whole history, and of the documents that it maps, whatever was emitted for them
abbrev pub IsUpdatedFreely : List View → List Write → Picture → Picture → Type 0
IsUpdatedFreely views history old new = (functions : Functions) → IsUpdated functions ⊥ views history old new
