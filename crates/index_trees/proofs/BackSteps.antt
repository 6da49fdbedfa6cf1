-- The edits of the back-index and the new places of a document, one document and one view more.
use Rattle.std.specs.Prelude.{min}
use Rattle.std.proofs.Common.{◌≡◌, ◌<◌, ◌++◌, ◌∙◌, ℕ, zero, suc, List, [], ◌∷◌, length, map, drop, get_or, refl, sym, ap, arith}
use Rattle.json_terms.specs.Json.{Json}
use Rattle.raw_collation.specs.Sorting.{sorted_rows}
use Rattle.view_model.specs.Rows.{rows_from}
use Rattle.row_exchange.specs.declared.doc_rows.DocRows.{DocRows}
use Rattle.index_items.specs.declared.back_row.BackRow.{BackRow}
use Rattle.index_items.specs.BackIndex.{back_row}
use Rattle.index_trees.specs.Edits.{back_edits, entry_edits, new_places}

pub places_step : (view : ℕ) (id : List ℕ) (lists : List (List (Json × Json))) (at : ℕ) (list : List (Json × Json)) → at < length lists → list ≡ get_or lists at list
    → new_places view id (drop at lists) ≡ map (back_row view) (sorted_rows (rows_from 0 id list)) ++ new_places (suc view) id (drop (suc at) lists)
places_step view id [] at list within is = absurd (omega arith)
places_step view id (x ∷ lists) zero list within is = ap (λ (l : List (Json × Json)). map (back_row view) (sorted_rows (rows_from 0 id l)) ++ new_places (suc view) id lists) (sym is)
places_step view id (x ∷ lists) (suc at) list within is = places_step view id lists at list (omega (arith, within)) is

pub edits_step : (changes : List DocRows) (olds : List (List BackRow)) (at : ℕ) (change : DocRows) (old : List BackRow)
    → at < length changes → at < length olds → change ≡ get_or changes at change → old ≡ get_or olds at old
    → back_edits (drop at changes) (drop at olds) ≡ entry_edits change.id (new_places 0 change.id change.rows) old ++ back_edits (drop (suc at) changes) (drop (suc at) olds)
edits_step [] olds at change old within also is are = absurd (omega arith)
edits_step (c ∷ changes) [] at change old within also is are = absurd (omega arith)
edits_step (c ∷ changes) (o ∷ olds) zero change old within also is are =
    ap (λ (d : DocRows). entry_edits d.id (new_places 0 d.id d.rows) o ++ back_edits changes olds) (sym is)
    ∙ ap (λ (l : List BackRow). entry_edits change.id (new_places 0 change.id change.rows) l ++ back_edits changes olds) (sym are)
edits_step (c ∷ changes) (o ∷ olds) (suc at) change old within also is are = edits_step changes olds at change old (omega (arith, within)) (omega (arith, also)) is are

none_behind : (changes : List DocRows) → back_edits changes [] ≡ []
none_behind [] = refl
none_behind (c ∷ changes) = refl

-- behind the shorter of both lists there are none
pub edits_end : (changes : List DocRows) (olds : List (List BackRow)) (at : ℕ) → at ≡ min (length changes) (length olds) → back_edits (drop at changes) (drop at olds) ≡ []
edits_end [] olds zero is = refl
edits_end [] olds (suc at) is = refl
edits_end (c ∷ changes) [] zero is = refl
edits_end (c ∷ changes) [] (suc at) is = none_behind (drop at changes)
edits_end (c ∷ changes) (o ∷ olds) zero is = absurd (omega (arith, is))
edits_end (c ∷ changes) (o ∷ olds) (suc at) is = edits_end changes olds at (omega (arith, is))
