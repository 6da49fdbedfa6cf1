-- A text in the making. For private clauses.
use Rattle.std.specs.Prelude.{◌≡◌, ℕ, List, [], ◌++◌, Bool, drop, take, codes, if◌then◌else◌}
use Rattle.builtin_reduces.specs.declared.text.Text.{Text}

-- the bytes before it
abbrev pub before_of : Text → List ℕ
before_of text = take text.start text.bytes.items

-- what is written of it
abbrev pub written_of : Text → List ℕ
written_of text = drop text.start text.bytes.items

-- this was written of it
abbrev pub Adds : Text → Text → List ℕ → Type 0
Adds old new text = written_of new ≡ written_of old ++ text

-- and the bytes before it are as they were
abbrev pub KeepsBefore : Text → Text → Type 0
KeepsBefore old new = before_of new ≡ before_of old

abbrev pub comma_if : Bool → List ℕ
comma_if later = if later then codes "," else []
