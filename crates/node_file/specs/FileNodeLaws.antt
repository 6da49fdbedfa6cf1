-- The laws of a file as a store of nodes.
use Rattle.std.proofs.Common.{◌≡◌, inl, inr, ℕ, [], length, refl, sym, ap, ◌∙◌, subst, arith}
use Rattle.std.proofs.lemmas.Bool.{cases_eq}
use Rattle.view_ports.specs.Disk.{Disk, IfTold, MovesNone, Tells}
use Rattle.view_ports.specs.File.{File}
use Rattle.view_ports.specs.declared.file_name.FileName.{FileName}
use Rattle.view_ports.specs.declared.folder.Folder.{Ghosts as Folders}
use Rattle.view_ports.proofs.Counting.{Rose-earlier}
use Rattle.view_ports.proofs.DiskRuns.{file_then, none_refl, none_wider}
use Rattle.view_ports.proofs.Told.{told_after, told_map, told_refl, told_then}
use Rattle.gate_file.specs.declared.gate.GateFile.{GateFile}
use Rattle.gate_file.specs.declared.fault.GateFault.{GateFault}
use Rattle.gate_file.specs.declared.fault.GateFault.TheVariants.{DiskFault, Damaged, Full, NoMemory}
use Rattle.gate_file.specs.Append.{IsZeros}
use Rattle.gate_file.specs.Calls.{KeepsIn}
use Rattle.gate_file.specs.GateFile.{length_of, name_of, root_of, Keeps}
use Rattle.gate_file.specs.Shown.{Shows}
use Rattle.gate_file.proofs.Appends.{has_all_then, made_already, shows_then, still_shows, zeros_shows}
use Rattle.tree_laws.specs.Meaning.{AreSteps, StaysCaused}
use Rattle.tree_laws.specs.Stores.{KeepsPlaces}
use Rattle.node_file.specs.declared.file_nodes.FileNodes.{FileNodes}
use Rattle.node_file.specs.Cache.{gets_of, puts_of}
use Rattle.node_file.specs.FileNodes.{Adds, AddsNoMore, AddsSome, FileFails, FileGoes, Grows, HasSame, IsKept, IsLonger, IsReady, MovesOn, Stays, WasAsked, nodes_of}
use Rattle.node_file.specs.ReadLaws.{goes_on_both, has_still, newest_both, places_kept}

-- ---- one file

-- what is durable shows the root
shows_own : (gate : GateFile) (file : File) → Keeps gate file → Shows (root_of gate) file.durable file.durable
shows_own gate file keeps = elim (cases_eq gate.length 0) [
  | inl none ↦
      let durable : file.durable ≡ [] = ap (λ (f : File). f.durable) (keeps.new none) in
      zeros_shows gate file keeps none file.durable (subst IsZeros (sym durable) (λ place. refl))
  | inr some ↦ (made_already gate file keeps (omega arith)).shows
]

pub longer_itself : (gate : GateFile) → IsLonger gate gate
longer_itself gate = record { same = refl; longer = omega arith }

longer_then : (a b c : GateFile) → IsLonger a b → IsLonger b c → IsLonger a c
longer_then a b c first second = record {
  same = second.same ∙ ap (λ (g : GateFile). record g { length = length_of c }) first.same;
  longer = omega (arith, first.longer, second.longer);
}

-- ---- the disk

-- nothing was changed
pub moves_still : (gate : GateFile) (a b : Disk FileName) → MovesNone a b → MovesOn gate (IsKept gate gate) a b
moves_still gate a b none keeps =
    let name = name_of gate in
    none_wider (λ n. n ≡ name) (λ image. Shows (root_of gate) (a.now name).durable (image name)) (λ files. IsKept gate gate (a.now name) (files name)) a b
    (λ image is. still_shows gate (a.now name) keeps (image name) (is name))
    (λ same. subst (IsKept gate gate (a.now name)) (sym (same name)) (record { durable = shows_own gate (a.now name) keeps; keeps = keeps }))
    none

-- one after the other, where the object has got longer between them
moves_both : (gate : GateFile) (size : ℕ) (ends1 ends2 ends : File → File → Type 0) (a b c : Disk FileName)
    → ((file then now : File) → ends1 file then → ends2 then now → ends file now)
    → ((file then : File) → ends1 file then → IsKept gate (record gate { length = size }) file then)
    → MovesOn gate ends1 a b → MovesOn (record gate { length = size }) ends2 b c → MovesOn gate ends a c
moves_both gate size ends1 ends2 ends a b c endings kept first second keeps =
    let name = name_of gate in
    let early = first keeps in
    let mid = kept (a.now name) (b.now name) early.ended in
    file_then name (λ file image. Shows (root_of gate) file.durable image) (λ file image. Shows (root_of gate) file.durable image) (λ file image. Shows (root_of gate) file.durable image)
    ends1 ends2 ends a b c
    (λ image shows. shows)
    (λ ended image shows. shows_then (root_of gate) (a.now name).durable (b.now name).durable image mid.durable shows)
    (λ ended1 ended2. endings (a.now name) (b.now name) (c.now name) ended1 ended2)
    early (second mid.keeps)

-- ---- what calls do

module _ {F : Type 0} (f : Folders F) where
  -- nothing was changed
  pub adds_same : (gate : GateFile) (old new : F) → Tells (f.disk old) (f.disk new) MovesNone → f.faults new ≡ f.faults old → Adds f gate gate old new
  adds_same gate old new none still = record {
    file = longer_itself gate;
    stays = told_map (f.disk old) (f.disk new) MovesNone (Stays gate)
        (has_still (name_of gate)) none;
    disk = told_map (f.disk old) (f.disk new) MovesNone (MovesOn gate (IsKept gate gate)) (λ a b still. moves_still gate a b still) none;
    still = still;
  }

  pub adds_none : (gate : GateFile) (folder : F) → Adds f gate gate folder folder
  adds_none gate folder = adds_same gate folder folder (told_refl (f.disk folder) MovesNone none_refl) refl

  -- the same, where what was lengthened is written out
  module _ (gate : GateFile) (size : ℕ) (a b c : F) (first : Adds f gate (record gate { length = size }) a b) where
    stays_both : Tells (f.disk b) (f.disk c) (Stays (record gate { length = size })) → Tells (f.disk a) (f.disk c) (Stays gate)
    stays_both second =
        told_then (f.disk a) (f.disk b) (f.disk c) (Stays gate) (Stays (record gate { length = size })) (Stays gate)
        (λ x y z early late. has_all_then (x.now (name_of gate)).seen (y.now (name_of gate)).seen (z.now (name_of gate)).seen early late) first.stays second

    disk_both : (ends2 ends : File → File → Type 0) → ((file then now : File) → IsKept gate (record gate { length = size }) file then → ends2 then now → ends file now)
        → Tells (f.disk b) (f.disk c) (MovesOn (record gate { length = size }) ends2) → Tells (f.disk a) (f.disk c) (MovesOn gate ends)
    disk_both ends2 ends endings second =
        told_then (f.disk a) (f.disk b) (f.disk c) (MovesOn gate (IsKept gate (record gate { length = size }))) (MovesOn (record gate { length = size }) ends2) (MovesOn gate ends)
        (λ x y z early late. moves_both gate size (IsKept gate (record gate { length = size })) ends2 ends x y z endings (λ file then kept. kept) early late) first.disk second

    both_written : (last : GateFile) → Adds f (record gate { length = size }) last b c → Adds f gate last a c
    both_written last second = record {
      file = longer_then gate (record gate { length = size }) last first.file second.file;
      stays = stays_both second.stays;
      disk = disk_both (IsKept (record gate { length = size }) last) (IsKept gate last)
          (λ file then now early late. record { durable = shows_then (root_of gate) file.durable then.durable now.durable early.durable late.durable; keeps = late.keeps }) second.disk;
      still = second.still ∙ first.still;
    }

    some_written : (last : GateFile) → AddsSome f (record gate { length = size }) last b c → AddsSome f gate last a c
    some_written last second = record {
      file = longer_then gate (record gate { length = size }) last first.file second.file;
      disk = disk_both (λ file now. Unit {0}) (λ file now. Unit {0}) (λ file then now early late. tt) second.disk;
      faults = omega (arith, first.still, second.faults);
    }

  -- one after the other
  module _ (x y z : GateFile) (a b c : F) (first : Adds f x y a b) where
    written : GateFile
    written = record x { length = length_of y }

    first_written : Adds f x (record x { length = length_of y }) a b
    first_written = subst (λ (g : GateFile). Adds f x g a b) first.file.same first

    pub adds_both : Adds f y z b c → Adds f x z a c
    adds_both second = both_written x (length_of y) a b c first_written z (subst (λ (g : GateFile). Adds f g z b c) first.file.same second)

    pub some_both : AddsSome f y z b c → AddsSome f x z a c
    some_both second = some_written x (length_of y) a b c first_written z (subst (λ (g : GateFile). AddsSome f g z b c) first.file.same second)

    pub cause_both : (fault : GateFault) → AddsNoMore f y z b c fault → AddsNoMore f x z a c fault
    cause_both DiskFault rose = Rose-earlier (f.faults a) (f.faults b) (f.faults c) (omega (arith, first.still)) rose
    cause_both (Full name length) cause = (adds_both cause.0, cause.1)
    cause_both (Damaged name at) cause = (adds_both cause.0, cause.1, cause.2)
    cause_both NoMemory adds = adds_both adds

  -- ---- the store

  asked_both : (a b c : FileNodes F) (fault : GateFault) → FileGoes f a b → WasAsked b c fault → WasAsked a c fault
  asked_both a b c DiskFault goes asked = tt
  asked_both a b c (Full name length) goes asked =
      let newest = newest_both (puts_of a.cache.now) (puts_of b.cache.now) (puts_of c.cache.now) asked.0 goes.puts (asked.1, asked.2) in
      (asked.0, newest.0, newest.1, asked.3)
  asked_both a b c (Damaged name at) goes asked = newest_both (gets_of a.cache.now) (gets_of b.cache.now) (gets_of c.cache.now) at goes.gets asked
  asked_both a b c NoMemory goes asked = tt

  same_both : (a b c : FileNodes F) → HasSame a b → HasSame b c → HasSame a c
  same_both a b c first second = record { cache = second.cache ∙ first.cache; folder = second.folder ∙ first.folder; file = second.file ∙ first.file }

  pub file_steps : AreSteps (FileGoes f)
  file_steps = record {
    none = λ a. record { lent = record { cache = refl; folder = refl; file = refl }; adds = adds_none a.file.now a.folder.now; grows = omega arith; gets = ([], refl); puts = ([], refl) };
    both = λ a b c first second. record {
      lent = same_both a b c first.lent second.lent;
      adds = adds_both a.file.now b.file.now c.file.now a.folder.now b.folder.now c.folder.now first.adds second.adds;
      grows = omega (arith, first.grows, second.grows);
      gets = goes_on_both (gets_of a.cache.now) (gets_of b.cache.now) (gets_of c.cache.now) first.gets second.gets;
      puts = goes_on_both (puts_of a.cache.now) (puts_of b.cache.now) (puts_of c.cache.now) first.puts second.puts;
    };
  }

  pub file_causes : StaysCaused (FileGoes f) (FileFails f)
  file_causes a b c fault goes fails = record {
    lent = same_both a b c goes.lent fails.lent;
    adds = some_both a.file.now b.file.now c.file.now a.folder.now b.folder.now c.folder.now goes.adds fails.adds;
    cause = cause_both a.file.now b.file.now c.file.now a.folder.now b.folder.now c.folder.now goes.adds fault fails.cause;
    asked = asked_both a b c fault goes fails.asked;
    grows = omega (arith, goes.grows, fails.grows);
  }

  same_name : (x y : GateFile) → IsLonger x y → name_of y ≡ name_of x
  same_name x y longer = ap name_of longer.same

  pub file_keeps : (a b : FileNodes F) → FileGoes f a b → KeepsPlaces (nodes_of f a) (nodes_of f b)
  file_keeps a b goes = places_kept (name_of a.file.now) (name_of b.file.now) (same_name a.file.now b.file.now goes.adds.file) (f.disk a.folder.now) (f.disk b.folder.now) goes.adds.stays

  -- what an object keeps is what the folder holds
  pub adds_ready : (x y : GateFile) (a b : F) → Adds f x y a b → IfTold (f.disk a) (KeepsIn x) → IfTold (f.disk b) (KeepsIn y)
  adds_ready x y a b adds ready =
      told_after (f.disk a) (f.disk b) (KeepsIn x) (KeepsIn y) (MovesOn x (IsKept x y))
      (λ d e keeps moves. subst (λ n. Keeps y (e.now n)) (sym (same_name x y adds.file)) (moves keeps).ended.keeps) ready adds.disk

  pub file_ready : (a b : FileNodes F) → FileGoes f a b → IsReady f a → IsReady f b
  file_ready a b goes ready = adds_ready a.file.now b.file.now a.folder.now b.folder.now goes.adds ready

  pub file_grows : (a b : FileNodes F) → FileGoes f a b → Grows a b
  file_grows a b goes = goes.grows

  pub file_grew : (a b : FileNodes F) (fault : GateFault) → FileFails f a b fault → Grows a b
  file_grew a b fault fails = fails.grows
