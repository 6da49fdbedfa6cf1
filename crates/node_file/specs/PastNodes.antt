-- The nodes of a file by its name: which stand there, and what the calls that read them do.
use Rattle.std.specs.Prelude.{◌≡◌, Option}
use Rattle.std.specs.Borrow.{MutBor}
use Rattle.view_ports.specs.declared.file_name.FileName.{FileName}
use Rattle.view_ports.specs.declared.folder.Folder.{Ghosts as Folders}
use Rattle.gate_file.specs.declared.fault.GateFault.{GateFault}
use Rattle.tree_laws.specs.Stores.{Places}
use Rattle.node_file.specs.declared.cache.NodeCache.{NodeCache}
use Rattle.node_file.specs.declared.past_nodes.PastNodes.{PastNodes}
use Rattle.node_file.specs.Cache.{gets_of, puts_of}
use Rattle.node_file.specs.Reads.{GetsNone, GoesOn, OnlyRead, OnlyTried, WasGot, nodes_in}

-- the references that the source was lent, and the name
pub record HasSamePast {F : Type 0} (old new : PastNodes F) : Type 0 where
  pub cache : new.cache.ghost_name ≡ old.cache.ghost_name
  pub folder : new.folder.ghost_name ≡ old.folder.ghost_name
  pub name : new.name ≡ old.name

-- the source was lent these, and nothing was done yet
pub record IsPastOver {F : Type 0} (cache : MutBor NodeCache) (folder : MutBor F) (name : FileName) (nodes : PastNodes F) : Type 0 where
  pub lent_cache : nodes.cache.ghost_name ≡ cache.ghost_name
  pub same_cache : nodes.cache.now ≡ cache.now
  pub lent_folder : nodes.folder.ghost_name ≡ folder.ghost_name
  pub same_folder : nodes.folder.now ≡ folder.now
  pub same_name : nodes.name ≡ name

module _ {F : Type 0} (f : Folders F) where
  -- the nodes of the file, where the folder tells its disk
  abbrev pub past_nodes : PastNodes F → Option Places
  past_nodes nodes = nodes_in f nodes.name nodes.folder.now

  -- what calls that answer Ok do
  pub record PastGoes (old new : PastNodes F) : Type 0 where
    pub lent : HasSamePast old new
    pub reads : OnlyRead f old.folder.now new.folder.now
    pub gets : GoesOn (gets_of old.cache.now) (gets_of new.cache.now)
    pub puts : puts_of new.cache.now ≡ puts_of old.cache.now

  -- what calls do of which the last answered a fault, and why it did
  pub record PastFails (old new : PastNodes F) (fault : GateFault) : Type 0 where
    pub lent : HasSamePast old new
    pub reads : OnlyTried f old.folder.now new.folder.now
    pub cause : GetsNone f old.name old.folder.now new.folder.now fault
    pub asked : WasGot old.cache.now new.cache.now fault
    pub puts : puts_of new.cache.now ≡ puts_of old.cache.now
