-- Which counts a root record may hold: those of a history.
use Rattle.std.specs.Prelude.{ℕ, ◌+◌, ◌*◌, ◌^◌, List, length, Bool, ◌&&◌, min, nat_le, nat_lt}
use Rattle.std.specs.List.{list_all}
use Rattle.doc_file.specs.declared.entry.Entry.{Entry}

-- how many writes there are at most after so many commits: 1,000 a commit, of which a file has 2^50 at most
abbrev pub most_writes : ℕ → ℕ
most_writes commits = 1000 * min commits (2 ^ 50)

-- the last write of an id is one of the writes, and not before the id's first
abbrev pub is_counted : ℕ → Entry → Bool
is_counted seq entry = nat_lt 0 (entry.last).generation && (nat_le (entry.last).generation (entry.last).seq && nat_le (entry.last).seq seq)

abbrev pub are_counted : ℕ → ℕ → List Entry → Bool
are_counted commits seq entries = nat_le seq (most_writes commits) && list_all (is_counted seq) entries

-- the id is short enough for an entry
abbrev pub has_room : Entry → Bool
has_room entry = nat_lt (length entry.id + 33) (2 ^ 32)
