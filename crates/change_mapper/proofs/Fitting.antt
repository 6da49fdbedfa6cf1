-- The rows that the pool gives are such as an exchange takes.
use Rattle.std.specs.Prelude.{◌≡◌, ◌<◌, ◌≤◌, ◌^◌, ℕ, zero, suc, List, [], ◌∷◌, map, length, drop, true, nat_eq, nat_le, nat_lt, is_some, replicate, slice_index_or, All, Option, Some, None, if◌then◌else◌}
use Rattle.std.specs.List.{cons_option, list_all, AllByRecursion}
use Rattle.std.proofs.Common.{refl, ap, arith}
use Rattle.std.proofs.lemmas.Bool.Decides.{nat_tests}
use Rattle.std.proofs.lemmas.List.Elements.{All-head, All-tail}
use Rattle.json_terms.specs.Json.{Json, depth}
use Rattle.json_terms.specs.Text.{text_of}
use Rattle.query_protocol.specs.Replies.{is_within_bounds}
use Rattle.view_ports.specs.Functions.{part_depth, part_limit}
use Rattle.doc_file.specs.declared.docs.changes.Change.{Change}
use Rattle.doc_file.specs.Changes.{numbered, HasShortId}
use Rattle.design_docs.specs.History.{Write, mapped_by}
use Rattle.child_pool.specs.Mapping.{AreBounded, AreParts, IsPart}
use Rattle.view_model.specs.Since.{mapped_of}
use Rattle.row_exchange.specs.Changed.{changed_rows}
use Rattle.row_exchange.specs.Replaced.{is_change, is_emission, is_list}
use Rattle.row_exchange.specs.Rows.{is_id}
use Rattle.row_exchange.proofs.NewRows.{both_so}

abbrev Lists : Type 0
Lists = List (List (List (Json × Json)))

part_within : (t : Json) → IsPart t → is_within_bounds t ≡ true
part_within t part =
    let size : length (text_of t) ≤ part_limit = part.size in
    let deep : depth t ≤ part_depth = part.nested in
    let short : nat_le (length (text_of t)) part_limit ≡ true = grind (arith, nat_tests) in
    let low : nat_le (depth t) part_depth ≡ true = grind (arith, nat_tests) in
    both_so (nat_le (length (text_of t)) part_limit) (nat_le (depth t) part_depth) short low

emissions_within : (emissions : List (Json × Json)) → AllByRecursion (λ row. IsPart row.0 × IsPart row.1) emissions → list_all is_emission emissions ≡ true
emissions_within [] all = refl
emissions_within (e ∷ emissions) all =
    both_so (is_emission e) (list_all is_emission emissions) (both_so (is_within_bounds e.0) (is_within_bounds e.1) (part_within e.0 (all.0).0) (part_within e.1 (all.0).1)) (emissions_within emissions all.1)

list_fits : (id : List ℕ) → is_id id ≡ true → (emissions : List (Json × Json)) → AllByRecursion (λ row. IsPart row.0 × IsPart row.1) emissions → is_list id emissions ≡ true
list_fits id short [] all = refl
list_fits id short (e ∷ emissions) all = both_so (is_id id) (list_all is_emission (e ∷ emissions)) short (emissions_within (e ∷ emissions) all)

lists_fit : (id : List ℕ) → is_id id ≡ true → (rows : List (List (Json × Json))) → AreParts rows → list_all (is_list id) rows ≡ true
lists_fit id short [] parts = refl
lists_fit id short (r ∷ rows) parts = both_so (is_list id r) (list_all (is_list id) rows) (list_fits id short r parts.0) (lists_fit id short rows parts.1)

so_many : (n m : ℕ) → n ≡ m → nat_eq n m ≡ true
so_many n m is = grind (arith, nat_tests)

row_fits : (count : ℕ) (id : List ℕ) (rows : List (List (Json × Json))) → is_id id ≡ true → length rows ≡ count → AreParts rows → is_change count (record { id = id; rows = rows }) ≡ true
row_fits count id rows short each parts = both_so (nat_eq (length rows) count) (list_all (is_list id) rows) (so_many (length rows) count each) (lists_fit id short rows parts)

long_none : (count : ℕ) → length (replicate {A = List (Json × Json)} count []) ≡ count
long_none zero = refl
long_none (suc count) = ap suc (long_none count)

none_parts : (count : ℕ) → AreParts (replicate count [])
none_parts zero = tt
none_parts (suc count) = (tt, none_parts count)

-- ids of so many bytes
abbrev AreShort : List (ℕ × Write) → Type 0
AreShort changes = AllByRecursion (λ change. is_id (change.1).id ≡ true) changes

module _ (count : ℕ) where
  -- the lists are those of these writes, in shape and in bounds
  record AreOf (changes : List (ℕ × Write)) (lists : Lists) : Type 0 where
    each : length lists ≡ length (mapped_of changes)
    all : AllByRecursion (λ rows. length rows ≡ count) lists
    parts : AllByRecursion AreParts lists

  one_fits : (id : List ℕ) → is_id id ≡ true → (mapped : Option (List ℕ × Json)) (changes : List (ℕ × Write))
      → ((ls : Lists) → AreOf changes ls → list_all (is_change count) (changed_rows count changes ls) ≡ true)
      → (lists : Lists) → length lists ≡ length (cons_option mapped (mapped_of changes)) → AllByRecursion (λ rows. length rows ≡ count) lists → AllByRecursion AreParts lists
      → list_all (is_change count) (if is_some mapped then record { id = id; rows = slice_index_or lists 0 [] } ∷ changed_rows count changes (drop 1 lists) else record { id = id; rows = replicate count [] } ∷ changed_rows count changes lists) ≡ true
  one_fits id short None changes rest lists each all parts =
      both_so (is_change count (record { id = id; rows = replicate count [] })) (list_all (is_change count) (changed_rows count changes lists))
      (row_fits count id (replicate count []) short (long_none count) (none_parts count)) (rest lists (record { each = each; all = all; parts = parts }))
  one_fits id short (Some d) changes rest [] each all parts = absurd (omega (arith, each))
  one_fits id short (Some d) changes rest (rows ∷ lists) each all parts =
      both_so (is_change count (record { id = id; rows = rows })) (list_all (is_change count) (changed_rows count changes lists))
      (row_fits count id rows short all.0 parts.0) (rest lists (record { each = omega (arith, each); all = all.1; parts = parts.1 }))

  all_fit : (changes : List (ℕ × Write)) → AreShort changes → (lists : Lists) → AreOf changes lists → list_all (is_change count) (changed_rows count changes lists) ≡ true
  all_fit [] short lists are = refl
  all_fit (c ∷ changes) short lists are = one_fits (c.1).id short.0 (mapped_by c.1) changes (all_fit changes short.1) lists are.each are.all are.parts

short_ids : (changes : List Change) → All HasShortId changes → AreShort (map numbered changes)
short_ids [] all = tt
short_ids (change ∷ changes) all =
    let size : length change.id < 2 ^ 32 = All-head HasShortId change changes all in
    let short : nat_lt (length change.id) (2 ^ 32) ≡ true = grind (arith, nat_tests) in
    (short, short_ids changes (All-tail HasShortId change changes all))

-- those that bounded lists make are such
pub bounded_fit : (count : ℕ) (changes : List Change) (lists : Lists) → All HasShortId changes → AreBounded count (length (mapped_of (map numbered changes))) lists
    → list_all (is_change count) (changed_rows count (map numbered changes) lists) ≡ true
bounded_fit count changes lists short bounded = all_fit count (map numbered changes) (short_ids changes short) lists (record { each = bounded.each; all = bounded.all; parts = bounded.parts })
