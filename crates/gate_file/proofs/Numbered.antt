-- How many commits were made of a pair that is opened.
use Rattle.std.specs.Prelude.{◌≡◌, ℕ, List, length, nat_lt, is_none, Bool, true, false, if◌then◌else◌, Option, Some, None, refl}
use Rattle.std.proofs.Common.{sym, subst}
use Rattle.view_ports.specs.File.{File}
use Rattle.view_ports.specs.declared.file_name.FileName.{FileName}
use Rattle.view_ports.specs.declared.file_name.Stem.{Stem}
use Rattle.gate_file.specs.declared.gate.GateFile.{GateFile}
use Rattle.gate_file.specs.declared.root.Root.{Root}
use Rattle.gate_file.specs.GateFile.{commits_in, commits_of, root_of}
use Rattle.gate_file.specs.Header.{newer, open_root, slot_at}
use Rattle.gate_file.specs.Open.{found, found_newest, opened, opened_of, side_of}

-- a file without a root is opened with no commit, and any other with the number of its root
pub commits_opened : (stem : Stem) (gate : GateFile) (old : FileName → File) → gate ≡ opened stem old → commits_of gate ≡ commits_in (root_of gate)
commits_opened stem gate old gate_is = subst (λ (g : GateFile). commits_of g ≡ commits_in (root_of g)) (sym gate_is) (by_side (side_of stem false) (side_of stem true) (λ name. (old name).seen))
  where
    newest : (name : FileName) (size : ℕ) (low high root : Option Root) → commits_of (found_newest name size low high root) ≡ commits_in (root_of (found_newest name size low high root))
    newest name size low high None = refl
    newest name size low high (Some root) = refl

    whole : (name : FileName) (bytes : List ℕ) → commits_of (found name bytes) ≡ commits_in (root_of (found name bytes))
    whole name bytes = newest name (length bytes) (open_root (slot_at bytes 0)) (open_root (slot_at bytes 4096)) (newer (open_root (slot_at bytes 0)) (open_root (slot_at bytes 4096)))

    one_of : (first second : GateFile) → commits_of first ≡ commits_in (root_of first) → commits_of second ≡ commits_in (root_of second) → (less none : Bool)
        → (let file : GateFile = if less then second else (if none then record first { length = 0 } else first) in commits_of file ≡ commits_in (root_of file))
    one_of first second is is' true none = is'
    one_of first second is is' false true = is
    one_of first second is is' false false = is

    by_side : (one other : FileName) (image : FileName → List ℕ) → (let file = opened_of (found one (image one)) (found other (image other)) in commits_of file ≡ commits_in (root_of file))
    by_side one other image =
        let first = found one (image one) in
        let second = found other (image other) in
        one_of first second (whole one (image one)) (whole other (image other)) (nat_lt first.commits second.commits) (is_none first.root)
