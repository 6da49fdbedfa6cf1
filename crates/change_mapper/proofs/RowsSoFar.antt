-- The rows of the documents that were written so far.
use Rattle.std.specs.Prelude.{◌≡◌, ℕ, ◌+◌, List, [], ◌∷◌, ◌++◌, map, length, drop, Bool, true, false, is_some, replicate, slice_index_or, if◌then◌else◌, MatchOption, Option, Some, None}
use Rattle.std.specs.Option.{option_to_list, unwrap_or}
use Rattle.std.proofs.Common.{refl, sym, ap, ◌∙◌, arith}
use Rattle.json_terms.specs.Json.{Json}
use Rattle.design_docs.specs.History.{Write, mapped_by}
use Rattle.row_exchange.specs.declared.doc_rows.DocRows.{DocRows}
use Rattle.row_exchange.specs.Changed.{changed_rows}
use Rattle.change_mapper.specs.declared.changed.Written.{Written}
use Rattle.change_mapper.specs.Changed.{written_by}

abbrev Lists : Type 0
Lists = List (List (List (Json × Json)))

-- what is left of the lists after this write, and the rows of its document
abbrev pub later : Bool → Lists → Lists
later is_mapped lists = if is_mapped then drop 1 lists else lists

abbrev pub own_rows : ℕ → Bool → Lists → List (List (Json × Json))
own_rows count is_mapped lists = if is_mapped then slice_index_or lists 0 [] else replicate count []

-- the rows of the documents of these writes
pub rows_of : ℕ → List Written → Lists → List DocRows
rows_of count [] lists = []
rows_of count (write ∷ written) lists = record { id = write.id; rows = own_rows count write.is_mapped lists } ∷ rows_of count written (later write.is_mapped lists)

-- what is left of the lists after them
pub left_of : List Written → Lists → Lists
left_of [] lists = lists
left_of (write ∷ written) lists = left_of written (later write.is_mapped lists)

pub nothing_of : (count : ℕ) (lists : Lists) → rows_of count [] lists ≡ []
unfolding rows_of
nothing_of count lists = refl

pub all_left : (lists : Lists) → left_of [] lists ≡ lists
unfolding left_of
all_left lists = refl

pub left-push : (written : List Written) (write : Written) (lists : Lists) → left_of (written ++ write ∷ []) lists ≡ later write.is_mapped (left_of written lists)
unfolding left_of
left-push [] write lists = refl
left-push (w ∷ written) write lists = left-push written write (later w.is_mapped lists)

pub rows-push : (count : ℕ) (written : List Written) (write : Written) (lists : Lists)
    → rows_of count (written ++ write ∷ []) lists ≡ rows_of count written lists ++ record { id = write.id; rows = own_rows count write.is_mapped (left_of written lists) } ∷ []
unfolding rows_of left_of
rows-push count [] write lists = refl
rows-push count (w ∷ written) write lists =
    ap (λ rows. record { id = w.id; rows = own_rows count w.is_mapped lists } ∷ rows) (rows-push count written write (later w.is_mapped lists))

one_changed : (count : ℕ) (id : List ℕ) (is_mapped : Bool) (changes : List (ℕ × Write)) (lists : Lists) (rest : List DocRows)
    → rest ≡ changed_rows count changes (later is_mapped lists)
    → record { id = id; rows = own_rows count is_mapped lists } ∷ rest
    ≡ (if is_mapped then record { id = id; rows = slice_index_or lists 0 [] } ∷ changed_rows count changes (drop 1 lists) else record { id = id; rows = replicate count [] } ∷ changed_rows count changes lists)
one_changed count id true changes lists rest is = ap (λ rows. record { id = id; rows = slice_index_or lists 0 [] } ∷ rows) is
one_changed count id false changes lists rest is = ap (λ rows. record { id = id; rows = replicate count [] } ∷ rows) is

-- they are those that a replacement takes
pub rows_changed : (count : ℕ) (changes : List (ℕ × Write)) (lists : Lists) → rows_of count (map written_by changes) lists ≡ changed_rows count changes lists
unfolding rows_of
rows_changed count [] lists = refl
rows_changed count (c ∷ changes) lists =
    one_changed count (c.1).id (is_some (mapped_by c.1)) changes lists (rows_of count (map written_by changes) (later (is_some (mapped_by c.1)) lists))
    (rows_changed count changes (later (is_some (mapped_by c.1)) lists))

-- ---- the next list is taken, or none

-- the rows of a write's document, and the lists that are left, of this number
pub record AreNext (views : ℕ) (is_mapped : Bool) (lists : Lists) (own : List (List (Json × Json))) (rest : Lists) (count : ℕ) : Type 0 where
  pub rows : own ≡ own_rows views is_mapped lists
  pub left : rest ≡ later is_mapped lists
  pub counted : count ≡ length rest

pub taken : (views : ℕ) (is_mapped : Bool) → is_mapped ≡ true → (lists rest : Lists) (before after : ℕ) (next : Option (List (List (Json × Json)))) → lists ≡ option_to_list next ++ rest
    → MatchOption next ((before ≡ 0) × (after ≡ 0)) (λ x. (lists ≡ x ∷ rest) × (after + 1 ≡ before)) → before ≡ length lists → AreNext views is_mapped lists (unwrap_or next []) rest after
taken views false not lists rest before after next is cases long = cc
taken views true mapped [] rest before after None is cases long = record { rows = refl; left = sym is; counted = cases.1 ∙ ap length is }
taken views true mapped (x ∷ lists) rest before after None is cases long = absurd (omega (arith, long, cases.0))
taken views true mapped lists rest before after (Some x) is cases long = record {
  rows = ap (λ (l : Lists). slice_index_or l 0 []) (sym is);
  left = ap (λ (l : Lists). drop 1 l) (sym is);
  counted = omega (arith, ap (λ (l : Lists). length l) is, long, cases.1);
}

pub none_taken : (views : ℕ) (is_mapped : Bool) → is_mapped ≡ false → (lists : Lists) (count : ℕ) → count ≡ length lists → AreNext views is_mapped lists (replicate views []) lists count
none_taken views false not lists count long = record { rows = refl; left = refl; counted = long }
none_taken views true mapped lists count long = cc
