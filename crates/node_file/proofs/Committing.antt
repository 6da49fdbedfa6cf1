-- A root that is committed once records were added: at each moment a crash leaves the old root with what was durable at first, or the new
-- root with all that was added.
use Rattle.std.proofs.Common.{◌⊎◌, inl, inr, ⊎_elim, ℕ, List, ◌++◌, length, Some, Result, subst}
use Rattle.std.specs.Prelude.{OnOk}
use Rattle.view_ports.specs.Disk.{Disk, MovesFile}
use Rattle.view_ports.specs.File.{File}
use Rattle.view_ports.specs.declared.file_name.FileName.{FileName}
use Rattle.view_ports.proofs.DiskRuns.{file_then}
use Rattle.gate_file.specs.declared.gate.GateFile.{GateFile}
use Rattle.gate_file.specs.declared.root.Root.{Root}
use Rattle.gate_file.specs.Calls.{Commits, KeepsIn}
use Rattle.gate_file.specs.GateFile.{committed, name_of, root_of, IsCommitted}
use Rattle.gate_file.specs.Publish.{published, published_root, IsPublished, Publishes, ShowsNew}
use Rattle.gate_file.specs.Shown.{Shows}
use Rattle.gate_file.proofs.Appends.{has_all_then, shows_then}
use Rattle.gate_file.proofs.Published.{has_all_more}
use Rattle.tree_laws.specs.Stores.{Extends}
use Rattle.node_file.specs.FileNodes.{IsKept, IsLonger, MovesOn}
use Rattle.gate_file.proofs.Published.{front_has}
use Rattle.node_file.specs.RecordLaws.{carried}
use Rattle.node_file.specs.Records.{node_at}

-- ---- each node stands in the file with its new root

pub nodes_committed : (gate : GateFile) (old new : File) → IsCommitted gate old new → Extends (node_at old.seen) (node_at new.seen)
nodes_committed gate old new done = carried old.seen new.seen done.shows.has

pub nodes_published : (gate : GateFile) (bytes : List ℕ) (old new : File) → IsPublished gate bytes old new → Extends (node_at old.seen) (node_at new.seen)
nodes_published gate bytes old new done =
    carried old.seen new.seen (has_all_then old.seen (done.front ++ bytes) new.seen (has_all_more old.seen done.front bytes (front_has old.seen done.front done.made)) done.shows.has)

-- and in each image with the new root
pub nodes_shown : (root : Root) (bytes : List ℕ) (file : File) (image : List ℕ) → ShowsNew root bytes file image → Extends (node_at file.seen) (node_at image)
nodes_shown root bytes file image new =
    carried file.seen image (has_all_then file.seen (new.front ++ bytes) image (has_all_more file.seen new.front bytes (front_has file.seen new.front new.made)) new.shows.has)

-- ---- what moves

module _ (gate gate' : GateFile) (longer : IsLonger gate gate') (a b c : Disk FileName) (keeps : KeepsIn gate a) (adds : MovesOn gate (IsKept gate gate') a b) where
  abbrev name : FileName
  name = name_of gate

  then_moves : (New : File → List ℕ → Type 0) (ends : File → File → Type 0) → MovesFile (name_of gate) (λ file image. Shows (root_of gate) file.durable image ⊎ New file image) ends b c
      → MovesFile (name_of gate) (λ file image. Shows (root_of gate) file.durable image ⊎ New (b.now (name_of gate)) image) (λ file now. ends (b.now (name_of gate)) now) a c
  then_moves New ends second =
      file_then name (λ file image. Shows (root_of gate) file.durable image) (λ file image. Shows (root_of gate) file.durable image ⊎ New file image)
      (λ file image. Shows (root_of gate) file.durable image ⊎ New (b.now name) image)
      (IsKept gate gate') ends (λ file now. ends (b.now name) now) a b c
      (λ image shows. inl shows)
      (λ kept image left. ⊎_elim (λ shows. inl (shows_then (root_of gate) (a.now name).durable (b.now name).durable image kept.durable shows)) (λ new. inr new) left)
      (λ kept ended. ended)
      (adds keeps) second

  pub then_commits : {T E : Type 0} (root : Root) (result : Result T E) → Commits gate' root result b c
      → MovesFile (name_of gate) (λ file image. Shows (root_of gate) file.durable image ⊎ Shows (Some root) (b.now (name_of gate)).seen image)
      (λ file now. OnOk result (IsCommitted (committed gate' root) (b.now (name_of gate)) now)) a c
  then_commits root result commits =
      then_moves (λ file image. Shows (Some root) file.seen image) (λ file now. OnOk result (IsCommitted (committed gate' root) file now))
      (subst (λ (g : GateFile). MovesFile (name_of g) (λ file image. Shows (root_of g) file.durable image ⊎ Shows (Some root) file.seen image) (λ file now. OnOk result (IsCommitted (committed gate' root) file now)) b c)
      longer.same commits)

  pub then_publishes : {T E : Type 0} (bytes : List ℕ) (skipped : ℕ) (result : Result T E) → Publishes gate' bytes skipped result b c
      → MovesFile (name_of gate) (λ file image. Shows (root_of gate) file.durable image ⊎ ShowsNew (published_root gate' (length bytes) skipped) bytes (b.now (name_of gate)) image)
      (λ file now. OnOk result (IsPublished (published gate' (length bytes) skipped) bytes (b.now (name_of gate)) now)) a c
  then_publishes bytes skipped result publishes =
      let root = published_root gate' (length bytes) skipped in
      let ends : File → File → Type 0 = λ file now. OnOk result (IsPublished (published gate' (length bytes) skipped) bytes file now) in
      then_moves (λ file image. ShowsNew root bytes file image) ends
      (subst (λ (g : GateFile). MovesFile (name_of g) (λ file image. Shows (root_of g) file.durable image ⊎ ShowsNew root bytes file image) ends b c) longer.same publishes)
