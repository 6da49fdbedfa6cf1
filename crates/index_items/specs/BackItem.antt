-- What the back-index says of each document, its order and its bytes.
use Rattle.std.specs.Prelude.{ℕ, ◌≤◌, List, ◌++◌, length, IsUtf8, refl}
use Rattle.std.specs.declared.cmp.Ordering.{Ordering}
use Rattle.std.specs.Ordering.{nat_cmp}
use Rattle.std.specs.Cmp.Lexicographic.{slice_cmp}
use Rattle.std.specs.Coded.{Coded, code_by, coded×, coded_list, coded_ℕ}
use Rattle.term_codec.specs.Spelling.{text_bytes}
use Rattle.index_items.specs.declared.back_row.BackRow.{BackRow}
use Rattle.index_items.specs.contracts.back_row.BackRow as kept_row
use Rattle.index_items.specs.BackRows.{AreKeptRows, rows_bytes}

-- what the back-index says of a document: its id, and where its rows stand
pub record BackEntry : Type 0 where
  pub id : List ℕ
  pub rows : List BackRow

-- it is stored as the pair of these
abbrev pub entry_code : Coded BackEntry
entry_code =
    code_by (List ℕ × List BackRow) (coded× (coded_list coded_ℕ) (coded_list kept_row.the_row.coded)) (λ entry. (entry.id, entry.rows)) (λ parts. record { id = parts.0; rows = parts.1 }) (λ _. refl)

-- An id has so many bytes at most.
abbrev pub id_limit : ℕ
id_limit = 524288

-- the bytes of a text that is short enough
pub record IsId (id : List ℕ) : Type 0 where
  pub utf8 : IsUtf8 id
  pub short : length id ≤ id_limit

-- the entry is within the bounds of what a tree keeps
pub record IsKeptEntry (entry : BackEntry) : Type 0 where
  pub id : IsId entry.id
  pub rows : AreKeptRows entry.rows

-- entries go by id in byte order; their rows don't count
abbrev pub entry_cmp : BackEntry → BackEntry → Ordering
entry_cmp a b = slice_cmp nat_cmp a.id b.id

-- the id, and then the rows
abbrev pub entry_bytes : BackEntry → List ℕ
entry_bytes entry = text_bytes entry.id ++ rows_bytes entry.rows
