-- What a call that gets a node leaves of a folder and of what was got.
use Rattle.std.proofs.Common.{◌≡◌, ◌≢◌, inl, inr, ℕ, [], Option, Some, None, Result, Ok, Err, refl, sym, ap, ◌∙◌, subst}
use Rattle.std.specs.Prelude.{IfErr, OnOk, option_map}
use Rattle.view_ports.specs.Disk.{Disk, MovesNone, Tells}
use Rattle.view_ports.specs.Faults.{Rose}
use Rattle.view_ports.specs.File.{File}
use Rattle.view_ports.specs.declared.file_name.FileName.{FileName}
use Rattle.view_ports.specs.declared.folder.Folder.{Ghosts as Folders}
use Rattle.view_ports.proofs.DiskRuns.{none_same}
use Rattle.view_ports.proofs.Told.{told_after}
use Rattle.gate_file.specs.declared.fault.GateFault.{GateFault}
use Rattle.gate_file.specs.declared.fault.GateFault.TheVariants.{DiskFault, Damaged, NoMemory}
use Rattle.gate_file.specs.Calls.{IsCounted, IsReadFault, Moved, Told}
use Rattle.node_file.specs.declared.cache.NodeCache.{NodeCache}
use Rattle.node_file.specs.declared.past_nodes.PastNodes.{PastNodes}
use Rattle.node_file.specs.Cache.{NotesGet}
use Rattle.node_file.specs.PastNodes.{HasSamePast, PastFails}
use Rattle.node_file.specs.Reads.{GetsNone, WasGot}
use Rattle.node_file.specs.Records.{node_at}

pub on_always : {T E : Type 0} (result : Result T E) (P : Type 0) → P → OnOk result P
on_always (Ok value) P holds = holds
on_always (Err fault) P holds = tt

-- where no file changed the same nodes stand in each
pub same_nodes : (name : FileName) (old new : Option (Disk FileName)) → Tells old new MovesNone → option_map (λ d. node_at (d.now name).seen) new ≡ option_map (λ d. node_at (d.now name).seen) old
same_nodes name None None told = refl
same_nodes name None (Some b) told = absurd told
same_nodes name (Some a) None told = absurd told
same_nodes name (Some a) (Some b) told = ap (λ (file : File). Some (node_at file.seen)) (none_same a b told name)

-- what was asked for where a node isn't got
pub got_last : (a b : NodeCache) (name : FileName) (at : ℕ) (fault : GateFault) → NotesGet at a b → IsReadFault name at fault → WasGot a b fault
got_last a b name at fault notes (inl disk) = subst (WasGot a b) (sym disk) tt
got_last a b name at fault notes (inr (inl memory)) = subst (WasGot a b) (sym memory) tt
got_last a b name at fault notes (inr (inr there)) = subst (WasGot a b) (sym there) ([], notes.gets)

-- a call that answered Ok counted no fault
pub on_still : {T : Type 0} (result : Result T GateFault) (P : Type 0) → (result ≢ Err DiskFault → P) → OnOk result P
on_still (Ok value) P holds = holds (λ same. cc)
on_still (Err fault) P holds = tt

fault_of : {T : Type 0} (one other : GateFault) → ◌≡◌ {A = Result T GateFault} (Err one) (Err other) → one ≡ other
fault_of one other same = cc

module _ {F : Type 0} (f : Folders F) where
  -- why it isn't
  none_by : (name : FileName) (at : ℕ) (old new : F) (fault : GateFault) → IsReadFault name at fault → (fault ≡ DiskFault → Rose (f.faults old) (f.faults new))
      → (fault ≢ DiskFault → f.faults new ≡ f.faults old)
      → (fault ≡ Damaged name at → Told f new (λ d. node_at (d.now name).seen at ≡ None)) → GetsNone f name old new fault
  none_by name at old new fault (inl disk) rose still damaged = subst (GetsNone f name old new) (sym disk) (rose disk)
  none_by name at old new fault (inr (inl memory)) rose still damaged =
      subst (GetsNone f name old new) (sym memory) (still (λ disk. (let never : NoMemory ≡ DiskFault = sym memory ∙ disk in cc)))
  none_by name at old new fault (inr (inr there)) rose still damaged =
      subst (GetsNone f name old new) (sym there) (refl, damaged there, still (λ disk. (let never : Damaged name at ≡ DiskFault = sym there ∙ disk in cc)))

  pub gets_none : {T : Type 0} (name : FileName) (at : ℕ) (old new : F) (fault : GateFault) → IsReadFault name at fault → IsCounted f {T = T} old new (Err fault)
      → Told f old (λ d. ◌≡◌ {A = Result T GateFault} (Err fault) (Err (Damaged name at)) → node_at (d.now name).seen at ≡ None) → Moved f old new MovesNone → GetsNone f name old new fault
  gets_none {T} name at old new fault faults counted damaged none =
      none_by name at old new fault faults (λ disk. counted.failed disk) (λ other. counted.still (λ same. other (fault_of fault DiskFault same)))
      (λ there. told_after (f.disk old) (f.disk new) (λ d. ◌≡◌ {A = Result T GateFault} (Err fault) (Err (Damaged name at)) → node_at (d.now name).seen at ≡ None) (λ d. node_at (d.now name).seen at ≡ None) MovesNone
      (λ d e is still. subst (λ (file : File). node_at file.seen at ≡ None) (sym (none_same d e still name)) (is (ap Err there))) damaged none)

  -- the same of a source over the file's name
  pub past_fails : {T : Type 0} (a b : PastNodes F) (at : ℕ) (result : Result T GateFault) → HasSamePast a b → NotesGet at a.cache.now b.cache.now → IfErr result (IsReadFault a.name at)
      → IsCounted f a.folder.now b.folder.now result → Told f a.folder.now (λ d. result ≡ Err (Damaged a.name at) → node_at (d.now a.name).seen at ≡ None) → Moved f a.folder.now b.folder.now MovesNone
      → IfErr result (λ fault. PastFails f a b fault)
  past_fails a b at (Ok value) lent notes faults counted damaged none = tt
  past_fails a b at (Err fault) lent notes faults counted damaged none =
      record {
        lent = lent;
        reads = record { disk = none; faults = counted.later };
        cause = gets_none a.name at a.folder.now b.folder.now fault faults counted damaged none;
        asked = got_last a.cache.now b.cache.now a.name at fault notes faults;
        puts = notes.puts;
      }
