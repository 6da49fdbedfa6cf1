-- An exchange by summers that are lent the pool and the query servers.
use Rattle.std.specs.Prelude.{◌≡◌, List, Result}
use Rattle.view_ports.specs.declared.folder.Folder.{Ghosts as Folders}
use Rattle.view_ports.specs.declared.servers.Servers.{Ghosts as Servers}
use Rattle.design_docs.specs.declared.design.Design.{Design}
use Rattle.child_pool.specs.declared.pool.Pool.{Pool}
use Rattle.child_pool.specs.declared.reduce_slot.Stage.TheVariants.{Idle}
use Rattle.child_pool.specs.declared.summers.Summers.{Summers}
use Rattle.row_exchange.specs.declared.doc_rows.DocRows.{DocRows}
use Rattle.tree_index.specs.declared.fault.IndexFault.{IndexFault}
use Rattle.tree_index.specs.Replaces.{HasItsCause, Replaces, TakesSteps}
use Rattle.tree_updater.specs.Sides.{Side}

-- the summers have these
pub record Lends {C : Type 0} (summers : Summers C) (servers : C) (pool : Pool) : Type 0 where
  pub servers_are : summers.slot.servers.now ≡ servers
  pub pool_is : summers.slot.pool.now ≡ pool

module _ {F C : Type 0} (f : Folders F) (s : Servers C) (design : Design) (rows : List DocRows) (old new : Side F C) where
  -- the exchange by summers of the design of which nothing was asked, and which leave the pool and the servers so
  pub record ReplacesBy (result : Result (Unit {0}) IndexFault) : Type 0 where
    pub first : Summers C
    pub last : Summers C
    pub idle : first.slot.stage ≡ Idle
    pub same : first.design.now ≡ design
    pub lent : Lends first old.servers old.pool
    pub left : Lends last new.servers new.pool
    pub replaces : Replaces f s rows old.index new.index old.folder new.folder first last result
    pub causes : HasItsCause f s rows old.index new.index old.folder new.folder first last old.cache new.cache result
    pub costs : TakesSteps f s rows old.index new.index old.folder new.folder first last old.cache new.cache old.steps new.steps result
