-- What mapping page by page promises, within the crate.
use Rattle.std.specs.Prelude.{◌≡◌, ◌<◌, ◌++◌, ℕ, List, length, map, take, true, Option, Some, None, Result, Ok, Err, IfOk, OnErr, All}
use Rattle.std.specs.List.{list_all}
use Rattle.view_ports.specs.Disk.{IfTold, MovesNone, Tells}
use Rattle.view_ports.specs.declared.folder.Folder.{Ghosts as Folders}
use Rattle.view_ports.specs.declared.servers.Servers.{Ghosts as Servers}
use Rattle.design_docs.specs.declared.design.Design.{Design}
use Rattle.design_docs.specs.History.{Write, changes_after}
use Rattle.doc_file.specs.declared.docs.Docs.{Docs}
use Rattle.doc_file.specs.declared.docs.changes.Changes.{Changes}
use Rattle.doc_file.specs.Changes.{last_number, numbered, AreInOrder, AreWhole, HasDocument, HasShortId, IsChange}
use Rattle.doc_file.specs.Docs.{bytes_in, IsAt as AreAt, IsLoaded as AreLoaded}
use Rattle.child_pool.specs.Firsts.{has_some}
use Rattle.row_exchange.specs.declared.doc_rows.DocRows.{DocRows}
use Rattle.row_exchange.specs.Replaced.{is_change}
use Rattle.change_mapper.specs.declared.fault.MappingFault.{MappingFault}
use Rattle.change_mapper.specs.declared.mapping.Progress.{Progress}
use Rattle.change_mapper.specs.Mapped.{AreGiven, IsBreak, MapsChanges, OnlyReads, Outer}
use Rattle.change_mapper.specs.Written.{documents_of, AreLastWrites, CoverUpTo}

-- the next n last writes since a sequence are read
module _ {F : Type 0} (f : Folders F) (docs : Docs) (old new : F) where
  pub record ReadsPage (seq n : ℕ) (result : Result Changes MappingFault) : Type 0 where
    pub all : (history : List Write) → IfTold (f.disk old) (λ d. AreAt docs d.now history → IfOk result (λ changes. map numbered changes ≡ take n (changes_after seq history)))
    pub order : IfOk result (λ changes. AreInOrder seq changes)
    pub bodies : IfOk result (λ changes. All HasDocument changes)
    pub short : IfOk result (λ changes. All HasShortId changes)
    pub whole : IfOk result (λ changes. AreWhole docs seq n changes)
    pub each : IfTold (f.disk old) (λ d. AreLoaded docs d.now → IfOk result (λ changes. All (IsChange docs (bytes_in docs d.now)) changes))
    pub breaks : OnErr result (IsBreak result)
    pub reads : OnlyReads f docs old new result

module _ {F C : Type 0} (f : Folders F) (s : Servers C) (docs : Docs) (design : Design) (seq : ℕ) (old new : Outer F C) where
  -- the documents of the last writes since the sequence up to a number are mapped: these writes, and these rows
  pub record HasComeTo (progress : Progress) (changes : List (ℕ × Write)) (rows : List DocRows) : Type 0 where
    pub given : AreGiven f s docs design seq old new changes rows
    pub begun : progress.begun ≡ has_some (documents_of changes)
    pub goes : (history : List Write) → IfTold (f.disk old.folder) (λ d. AreAt docs d.now history
        → changes_after seq history ≡ changes ++ changes_after progress.after history)
    pub written : AreLastWrites f docs old.folder seq changes
    pub last : last_number seq changes ≡ progress.after
    pub covers : CoverUpTo docs seq progress.after changes
    pub whole : list_all (is_change (length design.views)) rows ≡ true
    pub disk : Tells (f.disk old.folder) (f.disk new.folder) MovesNone
    pub still : f.faults new.folder ≡ f.faults old.folder

  -- one page more is mapped, behind a smaller number; or it was the last one, or this is refused, and so is the whole call
  abbrev pub FollowsPage : ℕ → List DocRows → Result (Option Progress) MappingFault → Type 0
  FollowsPage before rows (Ok (Some progress)) = (before < progress.after) × (changes : List (ℕ × Write)) × HasComeTo progress changes rows
  FollowsPage before rows (Ok None) = MapsChanges f s docs design seq old new (Ok rows)
  FollowsPage before rows (Err fault) = MapsChanges f s docs design seq old new (Err fault)

module _ {F C : Type 0} (f : Folders F) (s : Servers C) (docs : Docs) (design : Design) (now new : Outer F C) where
  -- the next page is mapped, of any call that has come so far
  abbrev pub MapsPage : Progress → List DocRows → List DocRows → Result (Option Progress) MappingFault → Type 0
  MapsPage progress before rows result = (seq : ℕ) (old : Outer F C) (changes : List (ℕ × Write))
      → HasComeTo f s docs design seq old now progress changes before → FollowsPage f s docs design seq old new progress.after rows result
