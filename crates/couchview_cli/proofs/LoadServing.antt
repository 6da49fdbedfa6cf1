-- Lines that were served from a source in memory to a sink in memory.
use Rattle.std.proofs.Common.{◌≡◌, ◌≢◌, ◌≤◌, ℕ, List, [], Option, Some, inl, inr, refl, subst}
use Rattle.std.specs.Io.KnownBytes.{IsAtEnd}
use Rattle.view_ports.specs.Faults.{Rose}
use Rattle.view_ports.specs.declared.folder.Folder.{Ghosts as Folders}
use Rattle.view_ports.specs.declared.run_end.RunEnd.{RunEnd}
use Rattle.view_ports.specs.declared.servers.Servers.{Ghosts as Servers}
use Rattle.line_loop.specs.declared.loop_end.LoopEnd.{LoopEnd}
use Rattle.line_loop.specs.declared.loop_end.LoopEnd.TheVariants.{Run, Stopped}
use Rattle.line_loop.specs.Loops.{HasEnded}
use Rattle.view_engine.specs.declared.halt.StepFault.{StepFault}
use Rattle.view_engine.specs.declared.halt.StepFault.TheVariants.{DiskFault, NoMemory}
use Rattle.view_engine.specs.Calls.{Scene}
use Rattle.view_engine.proofs.Worlds.{stays_still}
use Rattle.couchview_cli.specs.Ends.{Comes}
use Rattle.couchview_cli.specs.Loading.{HasWant}
use Rattle.view_engine.specs.Worlds.{update_seq}
use Rattle.couchview_cli.specs.Reading.{HasReplied}
use Rattle.couchview_cli.specs.Session.{IsAtOrigin, Origin}
use Rattle.couchview_cli.specs.Showing.{HasComeTo, StopsEarly}

module _ {F C : Type 0} (f : Folders F) (s : Servers C) (before after : Scene F C) (text : List ℕ) where
  -- the source had the text, and the sink nothing
  pub come_to : (first held left : Option (List ℕ)) (gained : List ℕ) (end : LoopEnd StepFault) → first ≡ Some text → held ≡ Some [] → ((origin : Origin) → IsAtOrigin f s origin before → Comes f s origin after first left held (Some gained) end)
      → HasReplied first left held (Some gained) (f.disk before.folder) (f.disk after.folder) (update_seq before.engine) (s.faults before.servers) (s.faults after.servers) end → (HasEnded end → IsAtEnd left) → f.faults before.folder ≤ f.faults after.folder
      → (end ≡ Stopped DiskFault → Rose (f.faults before.folder) (f.faults after.folder)) → (end ≢ Stopped DiskFault → f.faults after.folder ≡ f.faults before.folder) → HasComeTo f s before text after gained end
  come_to first held left gained end is_text is_empty comes replied over count cause spared = record {
    left = left;
    come = λ origin at. subst (λ (x : Option (List ℕ)). Comes f s origin after (Some text) left x (Some gained) end) is_empty (subst (λ (x : Option (List ℕ)). Comes f s origin after x left held (Some gained) end) is_text (comes origin at));
    replied = subst (λ (x : Option (List ℕ)). HasReplied (Some text) left x (Some gained) (f.disk before.folder) (f.disk after.folder) (update_seq before.engine) (s.faults before.servers) (s.faults after.servers) end) is_empty
        (subst (λ (x : Option (List ℕ)). HasReplied x left held (Some gained) (f.disk before.folder) (f.disk after.folder) (update_seq before.engine) (s.faults before.servers) (s.faults after.servers) end) is_text replied);
    over = over;
    count = count;
    cause = cause;
    spared = spared;
  }

  -- memory ran out, in a run that no line stopped
  pub ran_out : (gained : List ℕ) (end : RunEnd) → HasComeTo f s before text after gained (Run end) → StopsEarly f s before text after NoMemory
  ran_out gained end come = inr (inr (refl, inr (inl (gained, end, record { mid = after.folder; come = come; read = stays_still (f.disk after.folder) }, refl))))

  -- or one of its lines was refused for want of memory
  pub wanted : (gained : List ℕ) (end : LoopEnd StepFault) → HasComeTo f s before text after gained end → HasWant gained → StopsEarly f s before text after NoMemory
  wanted gained (Run end) come want = ran_out gained end come
  wanted gained (Stopped met) come want = inr (inr (refl, inr (inr (gained, met, come, want))))
