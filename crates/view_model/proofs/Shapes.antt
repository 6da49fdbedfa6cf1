-- Pictures have the shape of their views, and an update keeps it.
use Rattle.std.specs.Prelude.{◌≡◌, ℕ, suc, List, [], ◌∷◌, map, length, refl, IsSorted, None, if◌then◌else◌}
use Rattle.std.specs.List.{AllByRecursion, IsDistinct}
use Rattle.std.specs.List.Sorted.{IsStrictlySortedBy}
use Rattle.std.specs.Ordering.{is_lt}
use Rattle.std.proofs.Common.{ap, sym, ◌∙◌, subst, arith}
use Rattle.std.proofs.lemmas.List.{length-map}
use Rattle.json_terms.specs.Json.{Json}
use Rattle.json_terms.specs.declared.term.Row.{Row}
use Rattle.raw_collation.specs.Collation.{rows_cmp}
use Rattle.raw_collation.specs.Sorting.{insert_row, sorted_rows}
use Rattle.raw_collation.proofs.SortedRows.{sorted_rows_is_sorted}
use Rattle.design_docs.specs.declared.design.View.{View}
use Rattle.view_ports.specs.Functions.{Functions}
use Rattle.design_docs.specs.History.{Write, changes_after, mapped_after}
use Rattle.view_model.specs.Since.{first}
use Rattle.view_model.specs.Rows.{RiseStrictly, rows_of, view_rows}
use Rattle.view_model.specs.Picture.{IsShaped, picture_or_none}
use Rattle.view_model.specs.Update.{ids_of, updated_views}
use Rattle.view_model.specs.Laws.{RisingRowsAreSorted, TruePicturesAreShaped, UpdatesKeepShape}
use Rattle.view_model.proofs.Strict.{rows_rise, updates_rise}

-- rows that rise strictly are as putting them in order leaves them
already_sorted : (rows : List Row) → IsStrictlySortedBy rows_cmp rows → sorted_rows rows ≡ rows
unfolding IsStrictlySortedBy
already_sorted [] up = refl
already_sorted (x ∷ []) up = refl
already_sorted (x ∷ y ∷ rows) up =
    ap (insert_row x) (already_sorted (y ∷ rows) up.1) ∙ ap (λ o. if is_lt o then x ∷ y ∷ rows else y ∷ insert_row x rows) (up.0).0

pub rising_rows_are_sorted : RisingRowsAreSorted
rising_rows_are_sorted rows up = subst (IsSorted rows_cmp) (already_sorted rows up.rises) (sorted_rows_is_sorted rows)

-- ---- no picture, and a true one

none_rise : (views : List View) → AllByRecursion RiseStrictly (map (λ (view : View). []) views)
unfolding IsDistinct IsStrictlySortedBy
none_rise [] = tt
none_rise (view ∷ views) = (record { apart = tt; rises = tt }, none_rise views)

pub no_picture_is_shaped : (views : List View) → IsShaped views (picture_or_none views None)
no_picture_is_shaped views = record { each_view = length-map views (λ (view : View). []); rises = none_rise views }

all_rise : (functions : Functions) (history : List Write) (views : List View) → AllByRecursion RiseStrictly (rows_of functions views history)
all_rise functions history [] = tt
all_rise functions history (view ∷ views) = (rows_rise functions view.map history, all_rise functions history views)

pub true_pictures_are_shaped : (functions : Functions) (views : List View) → TruePicturesAreShaped functions views
true_pictures_are_shaped functions views history picture is = record {
  each_view = ap length is.rows ∙ length-map views (λ (view : View). view_rows functions view.map (first picture.seq history));
  rises = subst (AllByRecursion RiseStrictly) (sym is.rows) (all_rise functions (first picture.seq history) views);
}

-- ---- an update

module _ (history : List Write) (seq : ℕ) where
  abbrev updated : List (List Row) → List (List (List (Json × Json))) → List (List Row)
  updated = updated_views (changes_after seq history) (ids_of (mapped_after seq history))

  length-updated : (old : List (List Row)) (emitted : List (List (List (Json × Json)))) → length old ≡ length emitted → length (updated old emitted) ≡ length old
  length-updated [] emitted same = refl
  length-updated (rows ∷ old) [] same = absurd (omega (arith, same))
  length-updated (rows ∷ old) (lists ∷ emitted) same = ap suc (length-updated old emitted (omega (arith, same)))

  updated_rise : (old : List (List Row)) (emitted : List (List (List (Json × Json)))) → AllByRecursion RiseStrictly old → AllByRecursion RiseStrictly (updated old emitted)
  updated_rise [] emitted all = tt
  updated_rise (rows ∷ old) [] all = tt
  updated_rise (rows ∷ old) (lists ∷ emitted) all = (updates_rise history seq rows lists (all.0).apart, updated_rise old emitted all.1)

pub updates_keep_shape : (functions : Functions) (honest : Type 0) (views : List View) → UpdatesKeepShape functions honest views
updates_keep_shape functions honest views history old new is update = record {
  each_view = ap length update.rows ∙ length-updated history old.seq old.rows update.emitted (is.each_view ∙ sym update.each_view) ∙ is.each_view;
  rises = subst (AllByRecursion RiseStrictly) (sym update.rows) (updated_rise history old.seq old.rows update.emitted is.rises);
}
