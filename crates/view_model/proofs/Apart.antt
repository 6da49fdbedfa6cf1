-- Whatever is emitted, rows of ids without a write since stay, and each view is updated by itself.
use Rattle.std.specs.Prelude.{◌≡◌, ◌<◌, ℕ, zero, suc, List, [], ◌∷◌, map, length, refl, slice_index_or}
use Rattle.std.specs.List.{AllByRecursion, AllZip}
use Rattle.std.proofs.Common.{ap, sym, ◌∙◌, subst, arith}
use Rattle.json_terms.specs.Json.{Json}
use Rattle.json_terms.specs.declared.term.Row.{Row}
use Rattle.design_docs.specs.declared.design.View.{View}
use Rattle.view_ports.specs.Functions.{Functions}
use Rattle.design_docs.specs.History.{Write, changes_after, mapped_after}
use Rattle.view_model.specs.Update.{emitted_for, ids_of, unchanged_rows, updated_views, IsFreeUpdate, IsUpdatedView}
use Rattle.view_model.specs.Laws.{RowsOfOthers, ViewsAreUpdatedApart, UpdatesOfNothing}
use Rattle.view_model.proofs.Free.{updates_are_free}
use Rattle.view_model.proofs.Lists.{filter_all}
use Rattle.view_model.proofs.Firsts.{changes_none}

module _ (history : List Write) (seq : ℕ) where
  same_unchanged : (old new : List (List Row)) → AllZip (IsFreeUpdate history seq) old new
      → map (unchanged_rows (changes_after seq history)) new ≡ map (unchanged_rows (changes_after seq history)) old
  same_unchanged [] [] free = refl
  same_unchanged [] (n ∷ new) free = absurd free
  same_unchanged (o ∷ old) [] free = absurd free
  same_unchanged (o ∷ old) (n ∷ new) free = (λ i. (free.0).stay i ∷ same_unchanged old new free.1 i)

pub rows_of_others : (functions : Functions) (honest : Type 0) (views : List View) → RowsOfOthers functions honest views
rows_of_others functions honest views history old new same all updated =
    same_unchanged history old.seq old.rows new.rows (updates_are_free functions honest views history old new same all updated)

-- ---- where nothing was written since

unchanged_none : (views : List (List Row)) → map (unchanged_rows []) views ≡ views
unchanged_none [] = refl
unchanged_none (rows ∷ views) = (λ i. filter_all rows i ∷ unchanged_none views i)

pub updates_of_nothing : (functions : Functions) (honest : Type 0) (views : List View) → UpdatesOfNothing functions honest views
updates_of_nothing functions honest views history old new same all updated now =
    let none : changes_after old.seq history ≡ [] = changes_none old.seq history (omega (arith, now)) in
    sym (unchanged_none new.rows)
    ∙ ap (λ (cs : List (ℕ × Write)). map (unchanged_rows cs) new.rows) (sym none)
    ∙ rows_of_others functions honest views history old new same all updated
    ∙ ap (λ (cs : List (ℕ × Write)). map (unchanged_rows cs) old.rows) none
    ∙ unchanged_none old.rows

-- ---- view by view

abbrev behind_first : {X : Type 0} → List X → List X
behind_first [] = []
behind_first (x ∷ xs) = xs

module _ (functions : Functions) (honest : Type 0) (history : List Write) (seq : ℕ) where
  each_apart : (views : List View) (old : List (List Row)) (emitted : List (List (List (Json × Json)))) → length old ≡ length views → length emitted ≡ length views
      → AllByRecursion (λ lists. length lists ≡ length (mapped_after seq history)) emitted → (honest → emitted ≡ emitted_for functions views (mapped_after seq history))
      → (place : ℕ) (view : View) → place < length views
      → IsUpdatedView functions honest (slice_index_or views place view) history seq (slice_index_or old place [])
      (slice_index_or (updated_views (changes_after seq history) (ids_of (mapped_after seq history)) old emitted) place [])
  each_apart [] old emitted each every all right place view within = absurd (omega (arith, within))
  each_apart (v ∷ views) [] emitted each every all right place view within = absurd (omega (arith, each))
  each_apart (v ∷ views) (rows ∷ old) [] each every all right place view within = absurd (omega (arith, every))
  each_apart (v ∷ views) (rows ∷ old) (lists ∷ emitted) each every all right zero view within = record {
    emitted = lists;
    each_document = all.0;
    right = λ is_honest. ap (λ (l : List (List (List (Json × Json)))). slice_index_or l 0 []) (right is_honest);
    rows = refl;
  }
  each_apart (v ∷ views) (rows ∷ old) (lists ∷ emitted) each every all right (suc place) view within =
      each_apart views old emitted (omega (arith, each)) (omega (arith, every)) all.1 (λ is_honest. ap (λ (l : List (List (List (Json × Json)))). behind_first l) (right is_honest)) place view (omega (arith, within))

pub views_are_updated_apart : (functions : Functions) (honest : Type 0) (views : List View) → ViewsAreUpdatedApart functions honest views
views_are_updated_apart functions honest views history old new same updated place view within =
    subst (λ (rows : List (List Row)). IsUpdatedView functions honest (slice_index_or views place view) history old.seq (slice_index_or old.rows place []) (slice_index_or rows place [])) (sym updated.rows)
    (each_apart functions honest history old.seq views old.rows updated.emitted same updated.each_view updated.each_document updated.right place view within)
