use Rattle.std.proofs.Common.{◌≢◌, ℕ, ◌<◌, get_or}
use Rattle.crash_disk.specs.declared.held_file.HeldFile.{HeldFile}
use Rattle.crash_disk.proofs.held_files.HeldFiles.place.Given as goal

-- none of the files so far has the name
abbrev pub invariant-loop-at : goal.invariant-loop-at
invariant-loop-at l = (k : ℕ) (d : HeldFile) → k < l.at → (get_or l.self.files.items k d).name ≢ l.name
