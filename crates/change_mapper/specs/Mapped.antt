-- What mapping the documents promises that were written since a sequence.
use Rattle.std.specs.Prelude.{◌≡◌, ◌≢◌, ◌⊎◌, ◌≤◌, ◌++◌, ℕ, List, [], length, true, bytes_eq, None, Vec, Result, Ok, Err, IfErr, IfOk, OnOk}
use Rattle.std.specs.List.{list_all, IsDistinct}
use Rattle.std.specs.declared.alloc.Global.{Global}
use Rattle.json_terms.specs.Json.{Json}
use Rattle.view_ports.specs.Disk.{IfTold, MovesNone, Tells}
use Rattle.view_ports.specs.Faults.{CountsFor, RoseBy}
use Rattle.view_ports.specs.declared.file_name.FileName.{FileName}
use Rattle.view_ports.specs.declared.folder.Folder.{Ghosts as Folders}
use Rattle.view_ports.specs.declared.servers.Servers.{Ghosts as Servers}
use Rattle.gate_file.specs.declared.fault.GateFault.TheVariants.{DiskFault, Damaged}
use Rattle.design_docs.specs.declared.design.Design.{Design}
use Rattle.design_docs.specs.History.{Write, changes_after, mapped_after}
use Rattle.doc_file.specs.declared.docs.Docs.{Docs}
use Rattle.doc_file.specs.Docs.{bytes_in, IsAt as AreAt, IsLoaded as AreLoaded}
use Rattle.child_pool.specs.declared.doc_rows.DocRowLists.{DocRowLists}
use Rattle.child_pool.specs.declared.pool.Pool.{Pool}
use Rattle.child_pool.specs.declared.pool_fault.PoolFault.{PoolFault}
use Rattle.child_pool.specs.declared.pool_fault.PoolFault.TheVariants.{ServerFault, UnknownLanguage}
use Rattle.child_pool.specs.Firsts.{FirstAreMapped}
use Rattle.child_pool.specs.PoolCalls.{path_for, MapsAll, StaysAsMade}
use Rattle.view_model.specs.Since.{mapped_of}
use Rattle.row_exchange.specs.declared.doc_rows.DocRows.{DocRows}
use Rattle.row_exchange.specs.Changed.{changed_rows}
use Rattle.row_exchange.specs.Replaced.{ids_of, is_change}
use Rattle.change_mapper.specs.declared.fault.MappingFault.{MappingFault}
use Rattle.change_mapper.specs.declared.fault.MappingFault.TheVariants.{Docs as OfDocuments, NoMemory, Pool as OfPool}
use Rattle.change_mapper.specs.Faults.{by_pool, IsReadFault}
use Rattle.change_mapper.specs.Written.{documents_of, documents_since, AreLastWrites, AreUndamaged, CoverAll, IsBodyDamaged}

-- what it is given and leaves
pub record Outer (F C : Type 0) : Type 0 where
  pub folder : F
  pub servers : C
  pub pool : Pool

abbrev pub outer : {F C : Type 0} → F → C → Pool → Outer F C
outer folder servers pool = record { folder = folder; servers = servers; pool = pool }

abbrev pub listed : Result (Vec DocRows Global) MappingFault → Result (List DocRows) MappingFault
listed (Ok rows) = Ok rows.items
listed (Err fault) = Err fault

-- reading the documents failed, or memory ran out
abbrev pub IsBreak : {T : Type 0} → Result T MappingFault → Type 0
IsBreak (Ok done) = ⊥
IsBreak (Err NoMemory) = Unit {0}
IsBreak (Err (OfDocuments fault)) = Unit {0}
IsBreak (Err other) = ⊥

-- the pool refused, with a fault that is told, or mapped all, and then it told none
abbrev pub IsMetAs : {T : Type 0} → Result DocRowLists PoolFault → Result T MappingFault → Type 0
IsMetAs (Ok lists) result = (fault : PoolFault) → result ≡ Err (by_pool fault) → result ≡ Err NoMemory
IsMetAs (Err fault) result = result ≡ Err (by_pool fault)

module _ {C : Type 0} (s : Servers C) (servers servers' : C) (pool pool' : Pool) (design : Design) (documents : List (List (List ℕ × Json))) where
  -- all of the documents were mapped, with this end; where there were none, nothing was done, nor refused
  pub record HasMapped {T : Type 0} (result : Result T MappingFault) : Type 0 where
    pub mapped : Result DocRowLists PoolFault
    pub met : IsMetAs mapped result
    pub maps : MapsAll s servers servers' pool design documents pool' mapped
    pub idle : IfOk mapped (λ lists. documents ≡ [] → (servers' ≡ servers) × (pool' ≡ pool))
    pub some : IfErr mapped (λ fault. documents ≢ [])

  -- the first of the documents were mapped, maybe none, and then reading more or making room failed
  pub record HasBrokenOff {T : Type 0} (result : Result T MappingFault) : Type 0 where
    pub done : List (List (List ℕ × Json))
    pub left : List (List (List ℕ × Json))
    pub all : documents ≡ done ++ left
    pub lists : DocRowLists
    pub mapped : FirstAreMapped s servers servers' pool pool' design done lists
    pub cause : IsBreak result

  -- the documents were mapped, all or the first ones
  abbrev pub HasMappedSome : {T : Type 0} → Result T MappingFault → Type 0
  HasMappedSome result = HasMapped result ⊎ HasBrokenOff result

-- the documents' files are only read, and what may fail there
module _ {F : Type 0} (f : Folders F) (docs : Docs) (old new : F) where
  pub record OnlyReads {T : Type 0} (result : Result T MappingFault) : Type 0 where
    pub disk : Tells (f.disk old) (f.disk new) MovesNone
    pub faults : IfErr result IsReadFault
    pub counted : CountsFor (OfDocuments DiskFault) (f.faults old) (f.faults new) result
    pub sound : (history : List Write) → IfTold (f.disk old) (λ d. AreAt docs d.now history → (name : FileName) (at : ℕ) → result ≢ Err (OfDocuments (Damaged name at)))
    pub damaged : IfTold (f.disk old) (λ d. AreLoaded docs d.now → (name : FileName) (at : ℕ) → result ≡ Err (OfDocuments (Damaged name at)) → IsBodyDamaged docs d.now name at)

module _ {F C : Type 0} (f : Folders F) (s : Servers C) (docs : Docs) (design : Design) (seq : ℕ) (old new : Outer F C) where
  -- the rows are those that the query servers gave for the documents of these writes
  pub record AreGiven (changes : List (ℕ × Write)) (rows : List DocRows) : Type 0 where
    pub lists : DocRowLists
    pub mapped : FirstAreMapped s old.servers new.servers old.pool new.pool design (documents_of changes) lists
    pub each : length lists ≡ length (mapped_of changes)
    pub rows_are : rows ≡ changed_rows (length design.views) changes lists

  -- all documents that were written since were mapped, with this end, a list for each document
  pub record HasMappedAll (history : List Write) (result : Result (List DocRows) MappingFault) : Type 0 where
    pub asked : HasMapped s old.servers new.servers old.pool new.pool design (documents_since seq history) result
    pub rows : IfOk result (λ rows. IfOk asked.mapped (λ lists. rows ≡ changed_rows (length design.views) (changes_after seq history) lists))
    pub each : OnOk result (IfOk asked.mapped (λ lists. length lists ≡ length (mapped_after seq history)))

  -- the first of them were mapped, maybe none, and then reading more or making room failed
  abbrev pub BreaksOff : List Write → Result (List DocRows) MappingFault → Type 0
  BreaksOff history result = HasBrokenOff s old.servers new.servers old.pool new.pool design (documents_since seq history) result

  -- the documents of some last writes were asked for, all or the first ones; where all were mapped, these are all last writes since, and
  -- the rows are those that were given for them
  pub record AsksSome (result : Result (List DocRows) MappingFault) : Type 0 where
    pub changes : List (ℕ × Write)
    pub written : AreLastWrites f docs old.folder seq changes
    pub mapped : HasMappedSome s old.servers new.servers old.pool new.pool design (documents_of changes) result
    pub all : OnOk result (CoverAll docs seq changes)
    pub given : IfOk result (AreGiven changes)

  pub record MapsChanges (result : Result (List DocRows) MappingFault) : Type 0 where
    pub asks : (history : List Write) → IfTold (f.disk old.folder) (λ d. AreAt docs d.now history → HasMappedAll history result ⊎ BreaksOff history result)
    pub asked : AsksSome result
    -- they are such as an exchange takes: no document is named twice, and each has a list for each view
    pub apart : IfTold (f.disk old.folder) (λ d. AreLoaded docs d.now → IfOk result (λ rows. IsDistinct bytes_eq (ids_of rows)))
    pub whole : IfOk result (λ rows. list_all (is_change (length design.views)) rows ≡ true)
    -- no body is damaged of a last write since, but where two of these have one number, which no history has
    pub undamaged : IfTold (f.disk old.folder) (λ d. AreLoaded docs d.now → OnOk result (AreUndamaged docs (bytes_in docs d.now) seq))
    pub reads : OnlyReads f docs old.folder new.folder result
    pub later : s.faults old.servers ≤ s.faults new.servers
    -- the pool's languages and width never change; servers are blamed only where two faults were counted, and a language is unknown only
    -- where it has no path
    pub keeps : StaysAsMade old.pool new.pool
    pub blames : result ≡ Err (OfPool ServerFault) → RoseBy 2 (s.faults old.servers) (s.faults new.servers)
    pub unknown : result ≡ Err (OfPool UnknownLanguage) → path_for old.pool design ≡ None
