-- The edits of a view, one document more.
use Rattle.std.proofs.Common.{◌≡◌, ◌<◌, ◌++◌, ◌∙◌, ℕ, zero, suc, List, [], ◌∷◌, length, drop, get_or, min, refl, sym, ap, arith}
use Rattle.row_exchange.specs.declared.doc_rows.DocRows.{DocRows}
use Rattle.index_items.specs.declared.back_row.BackRow.{BackRow}
use Rattle.index_trees.specs.Edits.{row_edits, view_edits}

pub edits_step : (view : ℕ) (changes : List DocRows) (olds : List (List BackRow)) (at : ℕ) (change : DocRows) (old : List BackRow)
    → at < length changes → at < length olds → change ≡ get_or changes at change → old ≡ get_or olds at old
    → view_edits view (drop at changes) (drop at olds) ≡ row_edits view change old ++ view_edits view (drop (suc at) changes) (drop (suc at) olds)
edits_step view [] olds at change old within also is was = absurd (omega arith)
edits_step view (c ∷ changes) [] at change old within also is was = absurd (omega arith)
edits_step view (c ∷ changes) (o ∷ olds) zero change old within also is was =
    ap (λ (x : DocRows). row_edits view x o ++ view_edits view changes olds) (sym is) ∙ ap (λ (x : List BackRow). row_edits view change x ++ view_edits view changes olds) (sym was)
edits_step view (c ∷ changes) (o ∷ olds) (suc at) change old within also is was = edits_step view changes olds at change old (omega arith) (omega arith) is was

-- behind the shorter of both lists there are none
pub no_edits_left : (view : ℕ) (changes : List DocRows) (olds : List (List BackRow)) (at : ℕ) → at ≡ min (length changes) (length olds) → view_edits view (drop at changes) (drop at olds) ≡ []
no_edits_left view [] olds zero ended = refl
no_edits_left view [] olds (suc at) ended = absurd (omega arith)
no_edits_left view (c ∷ changes) [] zero ended = refl
no_edits_left view (c ∷ changes) [] (suc at) ended = absurd (omega arith)
no_edits_left view (c ∷ changes) (o ∷ olds) zero ended = absurd (omega arith)
no_edits_left view (c ∷ changes) (o ∷ olds) (suc at) ended = no_edits_left view changes olds at (omega arith)
