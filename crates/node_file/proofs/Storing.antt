-- What the calls of a file as a store of nodes do.
use Rattle.std.proofs.Common.{◌≡◌, ◌≢◌, inl, inr, ℕ, ◌+◌, ◌≤◌, List, [], ◌∷◌, length, None, Result, Ok, Err, refl, sym, ap, ◌∙◌, subst, arith}
use Rattle.std.proofs.lemmas.List.Sums.{sum_by-cons}
use Rattle.std.specs.Prelude.{IfErr, OnErr, OnOk}
use Rattle.view_ports.specs.Disk.{Disk, MovesFile, MovesNone, Tells}
use Rattle.view_ports.specs.File.{File}
use Rattle.view_ports.specs.declared.file_name.FileName.{FileName}
use Rattle.view_ports.specs.declared.folder.Folder.{Ghosts as Folders}
use Rattle.view_ports.proofs.DiskRuns.{file_weaker, none_same}
use Rattle.view_ports.proofs.Told.{told_after, told_map}
use Rattle.gate_file.specs.declared.gate.GateFile.{GateFile}
use Rattle.gate_file.specs.declared.fault.GateFault.{GateFault}
use Rattle.gate_file.specs.declared.fault.GateFault.TheVariants.{DiskFault, Damaged, Full, NoMemory}
use Rattle.gate_file.specs.Calls.{too_long, Appends, IsCounted, IsReadFault, KeepsIn, Moved, Told}
use Rattle.gate_file.specs.GateFile.{appended, name_of, root_of, start_of, IsAppended, Keeps}
use Rattle.gate_file.specs.Publish.{IsTooLong}
use Rattle.gate_file.specs.Shown.{Shows}
use Rattle.tree_laws.specs.Nodes.{sized}
use Rattle.tree_laws.specs.Stores.{pieces_size}
use Rattle.node_file.specs.Cache.{puts_of, NotesGet, NotesPut}
use Rattle.node_file.specs.declared.file_nodes.FileNodes.{FileNodes}
use Rattle.node_file.specs.FileNodes.{Adds, AddsNoMore, AddsSome, FileFails, FileGoes, Grows, HasSame, IsKept, MovesOn, Stays, WasAsked, record_size}
use Rattle.node_file.specs.FileNodeLaws.{adds_none, adds_ready, adds_same, longer_itself, moves_still}
use Rattle.node_file.specs.Puts.{IsPutFault}
use Rattle.node_file.specs.Reads.{GetsNone, WasGot}
use Rattle.node_file.specs.RecordLaws.{appended_stays, sized_long}
use Rattle.node_file.specs.Records.{node_at}
use Rattle.node_file.proofs.Getting.{gets_none, got_last}

-- ---- how long the file gets

-- nothing was put
pub grows_none : {F : Type 0} (a b : FileNodes F) → puts_of b.cache.now ≡ puts_of a.cache.now → b.file.now ≡ a.file.now → Grows a b
grows_none a b none same = let size = ap pieces_size none in let start = ap start_of same in omega (arith, size, start)

-- a piece was put, or wasn't
pub grows_piece : {F : Type 0} (a b : FileNodes F) (piece : List ℕ) → puts_of b.cache.now ≡ piece ∷ puts_of a.cache.now → start_of b.file.now ≤ start_of a.file.now + (length piece + 8) → Grows a b
grows_piece a b piece put within =
    let size : pieces_size (puts_of b.cache.now) ≡ (length piece + 8) + pieces_size (puts_of a.cache.now) = ap pieces_size put ∙ sum_by-cons (λ p. length p + 8) piece (puts_of a.cache.now) in
    omega (arith, size, within)

module _ {F : Type 0} (f : Folders F) where
  -- ---- a node is got

  pub same_ready : (gate : GateFile) (old new : F) → Told f old (KeepsIn gate) → Moved f old new MovesNone → Told f new (KeepsIn gate)
  same_ready gate old new ready none =
      told_after (f.disk old) (f.disk new) (KeepsIn gate) (KeepsIn gate) MovesNone (λ a b keeps still. subst (Keeps gate) (sym (none_same a b still (name_of gate))) keeps) ready none

  -- where it ends isn't said
  unended : (gate : GateFile) (ends : File → File → Type 0) (a b : Disk FileName) → (KeepsIn gate a → MovesFile (name_of gate) (λ file image. Shows (root_of gate) file.durable image) ends a b)
      → MovesOn gate (λ file now. Unit {0}) a b
  unended gate ends a b moved keeps =
      file_weaker (name_of gate) (λ file image. Shows (root_of gate) file.durable image) (λ file image. Shows (root_of gate) file.durable image) ends (λ file now. Unit {0}) a b
      (λ image left. left) (λ ended. tt) (moved keeps)

  -- why a node isn't got
  get_cause : (gate : GateFile) (old new : F) (fault : GateFault) → Moved f old new MovesNone → GetsNone f (name_of gate) old new fault → AddsNoMore f gate gate old new fault
  get_cause gate old new DiskFault none rose = rose
  get_cause gate old new (Full name length) none never = absurd never
  get_cause gate old new (Damaged name at) none damaged = (adds_same f gate old new none damaged.2, damaged.0, damaged.1)
  get_cause gate old new NoMemory none still = adds_same f gate old new none still

  -- no file changed
  some_same : (gate : GateFile) (old new : F) → Moved f old new MovesNone → f.faults old ≤ f.faults new → AddsSome f gate gate old new
  some_same gate old new none later = record {
    file = longer_itself gate;
    disk = told_map (f.disk old) (f.disk new) MovesNone (MovesOn gate (λ file now. Unit {0}))
        (λ a b still. unended gate (IsKept gate gate) a b (moves_still gate a b still)) none;
    faults = later;
  }

  -- what was asked for where a node isn't got
  get_asked : (a b : FileNodes F) (fault : GateFault) → WasGot a.cache.now b.cache.now fault → WasAsked a b fault
  get_asked a b DiskFault got = tt
  get_asked a b (Full name length) got = absurd got
  get_asked a b (Damaged name at) got = got
  get_asked a b NoMemory got = tt

  pub get_fails : {T : Type 0} (a b : FileNodes F) (name : FileName) (at : ℕ) (result : Result T GateFault) → HasSame a b → NotesGet at a.cache.now b.cache.now → b.file.now ≡ a.file.now → name ≡ name_of a.file.now
      → IfErr result (IsReadFault name at) → IsCounted f a.folder.now b.folder.now result
      → Told f a.folder.now (λ d. result ≡ Err (Damaged name at) → node_at (d.now name).seen at ≡ None) → Moved f a.folder.now b.folder.now MovesNone
      → IfErr result (λ fault. FileFails f a b fault)
  get_fails a b name at (Ok value) lent notes same own faults counted damaged none = tt
  get_fails a b name at (Err fault) lent notes same own faults counted damaged none =
      let gate = a.file.now in
      let why : GetsNone f (name_of gate) a.folder.now b.folder.now fault =
      subst (λ n. GetsNone f n a.folder.now b.folder.now fault) own (gets_none f name at a.folder.now b.folder.now fault faults counted damaged none) in
      record {
        lent = lent;
        adds = subst (λ (g : GateFile). AddsSome f gate g a.folder.now b.folder.now) (sym same) (some_same gate a.folder.now b.folder.now none counted.later);
        cause = subst (λ (g : GateFile). AddsNoMore f gate g a.folder.now b.folder.now fault) (sym same) (get_cause gate a.folder.now b.folder.now fault none why);
        asked = get_asked a b fault (got_last a.cache.now b.cache.now name at fault notes faults);
        grows = grows_none a b notes.puts same;
      }

  -- ---- a piece is put

  module _ (gate : GateFile) (bytes : List ℕ) (old new : F) where
    adds_appended : {T : Type 0} (E : Type 0) (value : T) → Tells (f.disk old) (f.disk new) (Appends {E = E} gate bytes (Ok value)) → f.faults new ≡ f.faults old → Adds f gate (appended gate (length bytes)) old new
    adds_appended E value moved still = record {
      file = record { same = refl; longer = omega arith };
      stays = told_map (f.disk old) (f.disk new) (Appends {E = E} gate bytes (Ok value)) (Stays gate)
          (λ a b moves. appended_stays gate (appended gate (length bytes)) bytes (a.now (name_of gate)) (b.now (name_of gate)) moves.ended) moved;
      disk = told_map (f.disk old) (f.disk new) (Appends {E = E} gate bytes (Ok value)) (MovesOn gate (IsKept gate (appended gate (length bytes))))
          (λ a b moves keeps.
          file_weaker (name_of gate) (λ file image. Shows (root_of gate) file.durable image) (λ file image. Shows (root_of gate) file.durable image)
          (IsAppended (appended gate (length bytes)) bytes) (IsKept gate (appended gate (length bytes))) a b
          (λ image left. left) (λ ended. record { durable = ended.durable; keeps = ended.keeps }) moves) moved;
      still = still;
    }

    some_appended : {E : Type 0} (T : Type 0) (fault : E) → Tells (f.disk old) (f.disk new) (Appends {T = T} gate bytes (Err fault)) → f.faults old ≤ f.faults new → AddsSome f gate gate old new
    some_appended T fault moved later = record {
      file = longer_itself gate;
      disk = told_map (f.disk old) (f.disk new) (Appends {T = T} gate bytes (Err fault)) (MovesOn gate (λ file now. Unit {0})) (λ a b moves keeps. moves) moved;
      faults = later;
    }

  pub put_adds : {T E : Type 0} (gate gate' : GateFile) (piece : List ℕ) (old new : F) (result : Result T E) → OnOk result (gate' ≡ appended gate (length piece + 8))
      → Moved f old new (Appends gate (sized piece) result) → OnOk result (f.faults new ≡ f.faults old) → OnOk result (Adds f gate gate' old new)
  put_adds {T} {E} gate gate' piece old new (Ok value) done moved still =
      let same : appended gate (length (sized piece)) ≡ gate' = ap (appended gate) (sized_long piece) ∙ sym done in
      subst (λ (g : GateFile). Adds f gate g old new) same (adds_appended gate (sized piece) old new E value moved still)
  put_adds {T} {E} gate gate' piece old new (Err fault) done moved still = tt

  pub put_ready : {T E : Type 0} (gate gate' : GateFile) (old new : F) (result : Result T E) → Told f old (KeepsIn gate) → OnOk result (Adds f gate gate' old new) → OnOk result (Told f new (KeepsIn gate'))
  put_ready gate gate' old new (Ok value) ready adds = adds_ready f gate gate' old new adds ready
  put_ready gate gate' old new (Err fault) ready adds = tt

  pub put_goes : {T E : Type 0} (a b : FileNodes F) (piece : List ℕ) (result : Result T E) → HasSame a b → NotesPut piece a.cache.now b.cache.now
      → OnOk result (b.file.now ≡ appended a.file.now (length piece + 8)) → OnOk result (Adds f a.file.now b.file.now a.folder.now b.folder.now) → OnOk result (FileGoes f a b)
  put_goes a b piece (Ok value) lent notes done adds =
      let start : start_of b.file.now ≡ start_of (appended a.file.now (length piece + 8)) = ap start_of done in
      record { lent = lent; adds = adds; grows = grows_piece a b piece notes.puts (omega (arith, start)); gets = ([], notes.gets); puts = (piece ∷ [], notes.puts) }
  put_goes a b piece (Err fault) lent notes done adds = tt

  -- why a piece isn't put
  put_cause : (gate : GateFile) (old new : F) (fault : GateFault) → IsPutFault gate fault → (fault ≡ DiskFault → AddsNoMore f gate gate old new DiskFault) → (fault ≢ DiskFault → new ≡ old) → AddsNoMore f gate gate old new fault
  put_cause gate old new fault (inl disk) rose untouched = subst (AddsNoMore f gate gate old new) (sym disk) (rose disk)
  put_cause gate old new fault (inr (inl full)) rose untouched =
      let still : new ≡ old = untouched (λ disk. (let never : too_long gate ≡ DiskFault = sym full ∙ disk in cc)) in
      subst (AddsNoMore f gate gate old new) (sym full) (subst (λ (n : F). Adds f gate gate old n) (sym still) (adds_none f gate old), refl)
  put_cause gate old new fault (inr (inr memory)) rose untouched =
      let still : new ≡ old = untouched (λ disk. (let never : NoMemory ≡ DiskFault = sym memory ∙ disk in cc)) in
      subst (AddsNoMore f gate gate old new) (sym memory) (subst (λ (n : F). Adds f gate gate old n) (sym still) (adds_none f gate old))

  -- what was asked for where a piece isn't put
  put_asked : (a b : FileNodes F) (piece : List ℕ) (fault : GateFault) → NotesPut piece a.cache.now b.cache.now → b.file.now ≡ a.file.now
      → (fault ≡ too_long a.file.now → IsTooLong a.file.now (record_size piece)) → IsPutFault a.file.now fault → WasAsked a b fault
  put_asked a b piece fault notes same full (inl disk) = subst (WasAsked a b) (sym disk) tt
  put_asked a b piece fault notes same full (inr (inl long)) =
      subst (WasAsked a b) (sym long) (piece, [], notes.puts, subst (λ (g : GateFile). IsTooLong g (record_size piece)) (sym same) (full long))
  put_asked a b piece fault notes same full (inr (inr memory)) = subst (WasAsked a b) (sym memory) tt

  pub put_fails : {T : Type 0} (a b : FileNodes F) (piece bytes : List ℕ) (result : Result T GateFault) → HasSame a b → NotesPut piece a.cache.now b.cache.now → OnErr result (b.file.now ≡ a.file.now)
      → (result ≡ Err (too_long a.file.now) → IsTooLong a.file.now (record_size piece))
      → IfErr result (IsPutFault a.file.now) → IsCounted f a.folder.now b.folder.now result
      → IfErr result (λ e. e ≢ DiskFault → b.folder.now ≡ a.folder.now) → Moved f a.folder.now b.folder.now (Appends a.file.now bytes result)
      → IfErr result (λ fault. FileFails f a b fault)
  put_fails {T} a b piece bytes (Ok value) lent notes same full faults counted untouched moved = tt
  put_fails {T} a b piece bytes (Err fault) lent notes same full faults counted untouched moved =
      let gate = a.file.now in
      record {
        lent = lent;
        adds = subst (λ (g : GateFile). AddsSome f gate g a.folder.now b.folder.now) (sym same) (some_appended gate bytes a.folder.now b.folder.now T fault moved counted.later);
        cause = subst (λ (g : GateFile). AddsNoMore f gate g a.folder.now b.folder.now fault) (sym same) (put_cause gate a.folder.now b.folder.now fault faults (λ disk. counted.failed disk) untouched);
        asked = put_asked a b piece fault notes same (λ is. full (ap Err is)) faults;
        grows = (let start = ap start_of same in grows_piece a b piece notes.puts (omega (arith, start)));
      }
