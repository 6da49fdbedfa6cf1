-- The root record: the number of accepted writes, and the last write of each id in byte order of id.
use Rattle.std.specs.Prelude.{◌≡◌, ℕ, ◌+◌, ◌<◌, ◌^◌, List, [], ◌∷◌, ◌++◌, length, Bool, ◌&&◌, true, false, IsUtf8}
use Rattle.std.specs.List.{list_all}
use Rattle.std.specs.Int.{to_le_bytes, w64}
use Rattle.std.specs.declared.cmp.Ordering.TheVariants.{Less}
use Rattle.std.specs.Ordering.{is_lt, nat_cmp}
use Rattle.std.specs.Cmp.Lexicographic.{slice_cmp}
use Rattle.term_codec.specs.Spelling.{count_bytes, text_bytes}
use Rattle.doc_file.specs.declared.entry.LastWrite.{LastWrite}
use Rattle.doc_file.specs.declared.entry.Entry.{Entry}

-- a number of 64 bits, the low byte first
unfoldable pub whole_bytes : ℕ → List ℕ
whole_bytes n = to_le_bytes w64 n

abbrev pub flag_byte : Bool → ℕ
flag_byte true = 1
flag_byte false = 0

-- the parts of a last write that have one length
unfoldable pub last_bytes : LastWrite → List ℕ
last_bytes last = whole_bytes last.seq ++ whole_bytes last.generation ++ (flag_byte last.deleted ∷ []) ++ whole_bytes last.offset ++ count_bytes last.length

-- the length of the item, and the item
abbrev pub entry_bytes : Entry → List ℕ
entry_bytes entry = count_bytes (length entry.id + 33) ++ (text_bytes entry.id ++ last_bytes entry.last)

abbrev pub entries_bytes : List Entry → List ℕ
entries_bytes [] = []
entries_bytes (entry ∷ entries) = entry_bytes entry ++ entries_bytes entries

abbrev pub record_bytes : ℕ → List Entry → List ℕ
record_bytes seq entries = whole_bytes seq ++ (whole_bytes (length entries) ++ entries_bytes entries)

-- the numbers fit, and a tombstone has no body
pub record IsLast (last : LastWrite) : Type 0 where
  pub seq : last.seq < 2 ^ 64
  pub generation : last.generation < 2 ^ 64
  pub offset : last.offset < 2 ^ 64
  pub length : last.length < 2 ^ 32
  pub tombstone : last.deleted ≡ true → (last.offset ≡ 0) × (last.length ≡ 0)

pub record IsEntry (entry : Entry) : Type 0 where
  pub utf8 : IsUtf8 entry.id
  pub short : length entry.id + 33 < 2 ^ 32
  pub last : IsLast entry.last

-- the id is less than the first of these
abbrev pub ComesBefore : List ℕ → List Entry → Type 0
ComesBefore id [] = Unit {0}
ComesBefore id (entry ∷ entries) = slice_cmp nat_cmp id entry.id ≡ Less

-- entries of strictly rising ids
abbrev pub AreEntries : List Entry → Type 0
AreEntries [] = Unit {0}
AreEntries (entry ∷ entries) = IsEntry entry × ComesBefore entry.id entries × AreEntries entries

-- the id is less than that of the entry
abbrev pub precedes : List ℕ → Entry → Bool
precedes id entry = is_lt (slice_cmp nat_cmp id entry.id)

-- each id is less than those of the later entries
abbrev pub rise : List Entry → Bool
rise [] = true
rise (entry ∷ entries) = list_all (precedes entry.id) entries && rise entries

-- what a root record may hold
pub record IsRoot (seq : ℕ) (entries : List Entry) : Type 0 where
  pub small : seq < 2 ^ 64
  pub few : length entries < 2 ^ 64
  pub each : AreEntries entries

-- the bytes are the root record of these
abbrev pub IsRecordOf : List ℕ → ℕ → List Entry → Type 0
IsRecordOf bytes seq entries = IsRoot seq entries × (bytes ≡ record_bytes seq entries)

-- and of no others
abbrev pub IsOneRecord : List ℕ → ℕ → List Entry → Type 0
IsOneRecord bytes seq entries = (s : ℕ) (es : List Entry) → IsRoot s es → bytes ≡ record_bytes s es → (s ≡ seq) × (es ≡ entries)

-- the bytes are no root record
abbrev pub IsNoRecord : List ℕ → Type 0
IsNoRecord bytes = (seq : ℕ) (entries : List Entry) → IsRoot seq entries → bytes ≡ record_bytes seq entries → ⊥

-- no id is too long to be written
abbrev pub IdsFit : List Entry → Type 0
IdsFit [] = Unit {0}
IdsFit (entry ∷ entries) = (length entry.id + 33 < 2 ^ 32) × IdsFit entries
