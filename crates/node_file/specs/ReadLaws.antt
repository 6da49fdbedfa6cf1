-- The laws of reads of the nodes of a file.
use Rattle.std.proofs.Common.{◌≡◌, List, ◌∷◌, ◌++◌, Option, Some, None, refl, sym, ap, ◌∙◌, subst, arith}
use Rattle.std.specs.Prelude.{option_map}
use Rattle.std.proofs.lemmas.List.{append_assoc}
use Rattle.view_ports.specs.Disk.{Disk, MovesNone, Tells}
use Rattle.view_ports.specs.declared.file_name.FileName.{FileName}
use Rattle.view_ports.specs.declared.folder.Folder.{Ghosts as Folders}
use Rattle.view_ports.proofs.Counting.{Rose-earlier}
use Rattle.view_ports.proofs.DiskRuns.{none_refl, none_same, none_then}
use Rattle.view_ports.proofs.Told.{told_map, told_refl, told_then}
use Rattle.gate_file.specs.declared.fault.GateFault.{GateFault}
use Rattle.gate_file.specs.declared.fault.GateFault.TheVariants.{DiskFault, Damaged, Full, NoMemory}
use Rattle.gate_file.specs.Shown.{HasAll}
use Rattle.tree_laws.specs.Stores.{Extends, KeepsPlaces}
use Rattle.node_file.specs.declared.cache.NodeCache.{NodeCache}
use Rattle.node_file.specs.Cache.{gets_of}
use Rattle.node_file.specs.Reads.{GetsNone, GoesOn, OnlyRead, OnlyTried, WasGot, nodes_in}
use Rattle.node_file.specs.RecordLaws.{carried, has_itself}
use Rattle.node_file.specs.Records.{node_at}

-- ---- lists that go on

pub goes_on_both : {X : Type 0} (a b c : List X) → GoesOn a b → GoesOn b c → GoesOn a c
goes_on_both {X} a b c on later = (later.0 ++ on.0, later.1 ∙ ap (λ list. later.0 ++ list) on.1 ∙ sym (append_assoc later.0 on.0 a))

pub newest_both : {X : Type 0} (a b c : List X) (x : X) → GoesOn a b → ((more : List X) × (c ≡ x ∷ (more ++ b))) → (more : List X) × (c ≡ x ∷ (more ++ a))
newest_both {X} a b c x on newest =
    (newest.0 ++ on.0, newest.1 ∙ ap (λ list. x ∷ list) (ap (λ list. newest.0 ++ list) on.1 ∙ sym (append_assoc newest.0 on.0 a)))

pub was_got_both : (a b c : NodeCache) (fault : GateFault) → GoesOn (gets_of a) (gets_of b) → WasGot b c fault → WasGot a c fault
was_got_both a b c DiskFault on got = tt
was_got_both a b c (Full name length) on got = absurd got
was_got_both a b c (Damaged name at) on got = newest_both (gets_of a) (gets_of b) (gets_of c) at on got
was_got_both a b c NoMemory on got = tt

-- ---- places that stay

-- the same bytes behind the slots, and maybe more
pub places_kept : (name name' : FileName) → name' ≡ name → (old new : Option (Disk FileName)) → Tells old new (λ a b. HasAll (a.now name).seen (b.now name).seen)
    → KeepsPlaces (option_map (λ disk. node_at (disk.now name).seen) old) (option_map (λ disk. node_at (disk.now name').seen) new)
places_kept name name' same None None told = refl
places_kept name name' same None (Some b) told = absurd told
places_kept name name' same (Some a) None told = absurd told
places_kept name name' same (Some a) (Some b) told = subst (λ n. Extends (node_at (a.now name).seen) (node_at (b.now n).seen)) (sym same) (carried (a.now name).seen (b.now name).seen told)

-- no file changed
pub has_still : (name : FileName) (a b : Disk FileName) → MovesNone a b → HasAll (a.now name).seen (b.now name).seen
has_still name a b still = subst (λ file. HasAll (a.now name).seen file.seen) (sym (none_same a b still name)) (has_itself (a.now name).seen)

-- ---- reads

module _ {F : Type 0} (f : Folders F) where
  pub read_none : (folder : F) → OnlyRead f folder folder
  read_none folder = record { disk = told_refl (f.disk folder) MovesNone none_refl; still = refl }

  pub read_both : (a b c : F) → OnlyRead f a b → OnlyRead f b c → OnlyRead f a c
  read_both a b c first second = record {
    disk = told_then (f.disk a) (f.disk b) (f.disk c) MovesNone MovesNone MovesNone none_then first.disk second.disk;
    still = second.still ∙ first.still;
  }

  pub tried_both : (a b c : F) → OnlyRead f a b → OnlyTried f b c → OnlyTried f a c
  tried_both a b c first second = record {
    disk = told_then (f.disk a) (f.disk b) (f.disk c) MovesNone MovesNone MovesNone none_then first.disk second.disk;
    faults = omega (arith, first.still, second.faults);
  }

  pub none_both : (name : FileName) (a b c : F) (fault : GateFault) → OnlyRead f a b → GetsNone f name b c fault → GetsNone f name a c fault
  none_both name a b c DiskFault first rose = Rose-earlier (f.faults a) (f.faults b) (f.faults c) (omega (arith, first.still)) rose
  none_both name a b c (Full other length) first never = absurd never
  none_both name a b c (Damaged other at) first damaged = (damaged.0, damaged.1, damaged.2 ∙ first.still)
  none_both name a b c NoMemory first still = still ∙ first.still

  pub read_places : (name name' : FileName) (a b : F) → name' ≡ name → OnlyRead f a b → KeepsPlaces (nodes_in f name a) (nodes_in f name' b)
  read_places name name' a b same only =
      places_kept name name' same (f.disk a) (f.disk b)
      (told_map (f.disk a) (f.disk b) MovesNone (λ d e. HasAll (d.now name).seen (e.now name).seen) (has_still name) only.disk)
