-- Whether the folder of a load has writes, as it was opened.
use Rattle.std.proofs.Common.{◌≡◌, ◌≢◌, ◌∙◌, ℕ, List, [], ◌∷◌, Option, inl, inr, length, refl, sym, ap, arith}
use Rattle.view_ports.specs.Calls.{Call}
use Rattle.view_ports.specs.Disk.{Disk, IfTold, LeavesOnly, Tells}
use Rattle.view_ports.specs.File.{File}
use Rattle.view_ports.specs.Functions.{Functions}
use Rattle.view_ports.specs.declared.file_name.FileName.{FileName}
use Rattle.view_ports.proofs.Told.{told_back, told_now}
use Rattle.design_docs.specs.History.{Write}
use Rattle.view_engine.specs.declared.engine.Engine.{Engine}
use Rattle.view_engine.specs.World.{World}
use Rattle.view_engine.specs.Worlds.{Holds, IsAtWorld, StandsFor}
use Rattle.couchview_cli.specs.Loading.{Loads}
use Rattle.couchview_cli.specs.Serving.{AreLeft, Outside}

none_long : (writes : List Write) → length writes ≡ 0 → writes ≡ []
none_long [] is = refl
none_long (write ∷ writes) is = absurd (omega (arith, is))

module _ (engine : Engine) (seq : ℕ) (counts : (files : FileName → File) (world : World) → IsAtWorld engine files world → seq ≡ length world.history) (old new : Option (Disk FileName)) (opening : World)
    (here : IfTold new (λ d. IsAtWorld engine d.now opening)) (moments : Tells old new (LeavesOnly (λ image. StandsFor image opening))) where
  back : (P : Type 0) → IfTold new (λ d. P) → IfTold old (λ d. P)
  back P known = told_back old new (λ d. P) (λ d. P) (LeavesOnly (λ image. StandsFor image opening)) (λ a b leaves is. is) moments known

  -- the sequence is 0 where there are no writes, and only there
  pub no_writes : seq ≡ 0 → IfTold old (λ d. opening.history ≡ [])
  no_writes is = back (opening.history ≡ []) (told_now new (λ d. IsAtWorld engine d.now opening) (λ d. opening.history ≡ []) (λ d at. none_long opening.history (sym (counts d.now opening at) ∙ is)) here)

  pub some_writes : seq ≢ 0 → IfTold old (λ d. opening.history ≢ [])
  some_writes is = back (opening.history ≢ []) (told_now new (λ d. IsAtWorld engine d.now opening) (λ d. opening.history ≢ []) (λ d at none. is (counts d.now opening at ∙ ap length none)) here)

-- where it has some nothing is done
pub has_writes : (functions : List ℕ → Functions) (honest : List ℕ → Type 0) (docs seed : ℕ) (opening : World) (before : Outside) (disk : Option (Disk FileName)) (disk_faults : ℕ) (may_follow : List Call → Type 0) → may_follow []
    → IfTold before.disk (λ d. opening.history ≢ []) → Tells before.disk disk (LeavesOnly (λ image. StandsFor image opening)) → IfTold disk (λ d. Holds d.now opening)
    → Loads functions honest docs seed opening before (record before { disk = disk; disk_faults = disk_faults }) (AreLeft may_follow) 10
has_writes functions honest docs seed opening before disk disk_faults may_follow follows some moments holds =
    inr (inl (record {
      is_10 = refl;
      silent = refl;
      some = some;
      idle = record { moments = moments; holds = holds; faulted = refl; at_end = record { added = []; only = tt; follows = follows; stopped = λ slot below. refl } };
    }))
