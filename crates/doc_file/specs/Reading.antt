-- Reading a root record from the front of bytes: what is read and the bytes behind it, or none. For private clauses.
use Rattle.std.specs.Prelude.{ℕ, ◌+◌, ◌^◌, zero, suc, List, [], ◌∷◌, ◌++◌, length, take, drop, slice_index, slice_range, Bool, true, not, ◌&&◌, ◌||◌, ◌==◌, nat_le, nat_lt, bytes_eq, if◌then◌else◌, Option, Some, None, option_map, option_and_then}
use Rattle.std.specs.Int.{from_le_bytes, w32, w64}
use Rattle.std.specs.Ordering.{nat_cmp, is_lt}
use Rattle.std.specs.Cmp.Lexicographic.{slice_cmp}
use Rattle.term_codec.specs.Reading.{count_in, text_in}
use Rattle.doc_file.specs.declared.entry.LastWrite.{LastWrite}
use Rattle.doc_file.specs.declared.entry.Entry.{Entry}
use Rattle.doc_file.specs.Record.{whole_bytes, last_bytes}

abbrev pub whole_if : ℕ → List ℕ → Option (ℕ × List ℕ)
whole_if n bytes = if nat_lt n (2 ^ 64) && bytes_eq (whole_bytes n) (take 8 bytes) then Some (n, drop 8 bytes) else None

unfoldable pub whole_in : List ℕ → Option (ℕ × List ℕ)
whole_in bytes = whole_if (from_le_bytes w64 bytes) bytes

-- what these 29 bytes say
unfoldable pub last_at : List ℕ → LastWrite
last_at bytes = record {
  seq = from_le_bytes w64 (slice_range bytes 0 8);
  generation = from_le_bytes w64 (slice_range bytes 8 16);
  deleted = slice_index bytes 16 == 1;
  offset = from_le_bytes w64 (slice_range bytes 17 25);
  length = from_le_bytes w32 (slice_range bytes 25 29);
}

-- a tombstone has no body
abbrev pub is_sound : LastWrite → Bool
is_sound last = not last.deleted || (last.offset == 0 && last.length == 0)

abbrev pub numbers_fit : LastWrite → Bool
numbers_fit last = nat_lt last.seq (2 ^ 64) && (nat_lt last.generation (2 ^ 64) && (nat_lt last.offset (2 ^ 64) && nat_lt last.length (2 ^ 32)))

abbrev pub last_if : LastWrite → List ℕ → Option (LastWrite × List ℕ)
last_if last bytes = if numbers_fit last && (bytes_eq (last_bytes last) (take 29 bytes) && is_sound last) then Some (last, drop 29 bytes) else None

unfoldable pub last_in : List ℕ → Option (LastWrite × List ℕ)
last_in bytes = last_if (last_at (take 29 bytes)) bytes

abbrev pub entry_if : ℕ → List ℕ → LastWrite → List ℕ → Option (Entry × List ℕ)
entry_if size id last rest = if size == length id + 33 then Some (record { id = id; last = last }, rest) else None

abbrev pub entry_of_id : ℕ → List ℕ → List ℕ → Option (Entry × List ℕ)
entry_of_id size id bytes = option_and_then (λ l. entry_if size id l.0 l.1) (last_in bytes)

abbrev pub entry_of_size : ℕ → List ℕ → Option (Entry × List ℕ)
entry_of_size size bytes = option_and_then (λ t. entry_of_id size t.0 t.1) (text_in bytes)

abbrev pub entry_in : List ℕ → Option (Entry × List ℕ)
entry_in bytes = option_and_then (λ c. entry_of_size c.0 c.1) (count_in bytes)

-- the id is greater than the last of these
abbrev pub follows : List ℕ → List Entry → Bool
follows id [] = true
follows id (e ∷ []) = is_lt (slice_cmp nat_cmp e.id id)
follows id (e ∷ f ∷ es) = follows id (f ∷ es)

abbrev pub entry_after : List Entry → List ℕ → Option (Entry × List ℕ)
entry_after done bytes = option_and_then (λ r. if follows (r.0).id done then Some r else None) (entry_in bytes)

-- so many entries, behind those that are done
abbrev pub entries_from : List Entry → ℕ → List ℕ → Option (List Entry × List ℕ)
entries_from done zero bytes = Some (done, bytes)
entries_from done (suc n) bytes = option_and_then (λ r. entries_from (done ++ r.0 ∷ []) n r.1) (entry_after done bytes)

-- all of the bytes are so many entries, each of at least one byte
abbrev pub whole_entries : ℕ → List ℕ → Option (List Entry)
whole_entries n bytes = if nat_le n (length bytes) then option_and_then (λ r. if length r.1 == 0 then Some r.0 else None) (entries_from [] n bytes) else None

abbrev pub root_of : ℕ → List ℕ → Option (ℕ × List Entry)
root_of seq bytes = option_and_then (λ c. option_map (λ es. (seq, es)) (whole_entries c.0 c.1)) (whole_in bytes)

abbrev pub root_in : List ℕ → Option (ℕ × List Entry)
root_in bytes = option_and_then (λ s. root_of s.0 s.1) (whole_in bytes)
