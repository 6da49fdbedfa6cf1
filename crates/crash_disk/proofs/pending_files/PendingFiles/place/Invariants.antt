use Rattle.std.proofs.Common.{◌≢◌, ℕ, ◌<◌, get_or}
use Rattle.crash_disk.specs.declared.pending_file.PendingFile.{PendingFile}
use Rattle.crash_disk.proofs.pending_files.PendingFiles.place.Given as goal

-- none of the files so far has the name
abbrev pub invariant-loop-at : goal.invariant-loop-at
invariant-loop-at l = (k : ℕ) (d : PendingFile) → k < l.at → (get_or l.self.files.items k d).name ≢ l.name
