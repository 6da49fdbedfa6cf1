-- Emissions document by document, taken view by view.
use Rattle.std.specs.Prelude.{◌≡◌, ℕ, zero, suc, List, [], ◌∷◌, ◌++◌, length, map, refl, slice_index_or}
use Rattle.std.specs.List.{AllByRecursion}
use Rattle.std.proofs.Common.{ap, sym, ◌∙◌, append_assoc, length-append, arith}
use Rattle.json_terms.specs.Json.{Json}
use Rattle.view_ports.specs.Functions.{Functions}
use Rattle.view_model.specs.Rows.{emitted_by, emitted_at}
use Rattle.view_model.specs.Update.{by_view, emitted_for}
use Rattle.view_model.specs.Laws.{AreTakenByView, AreEmittedByView}
use Rattle.design_docs.specs.declared.design.View.{View}

length-by_view : (from count : ℕ) (lists : List (List (List (Json × Json)))) → length (by_view from count lists) ≡ count
length-by_view from zero lists = refl
length-by_view from (suc count) lists = ap suc (length-by_view (suc from) count lists)

each_column : (from count : ℕ) (lists : List (List (List (Json × Json)))) → AllByRecursion (λ column. length column ≡ length lists) (by_view from count lists)
each_column from zero lists = tt
each_column from (suc count) lists = (long lists, each_column (suc from) count lists)
  where
    long : (ls : List (List (List (Json × Json)))) → length (emitted_at from ls) ≡ length ls
    long [] = refl
    long (l ∷ ls) = ap suc (long ls)

pub are_taken_by_view : AreTakenByView
are_taken_by_view count lists = (length-by_view 0 count lists, each_column 0 count lists)

module _ (functions : Functions) where
  abbrev each : List View → List ℕ × Json → List (List (Json × Json))
  each views entry = map (λ view. emitted_by functions view.map entry) views

  found_at : (front : List View) (view : View) (rest : List View) (entry : List ℕ × Json)
      → slice_index_or (each (front ++ view ∷ rest) entry) (length front) [] ≡ emitted_by functions view.map entry
  found_at [] view rest entry = refl
  found_at (v ∷ front) view rest entry = found_at front view rest entry

  column : (front : List View) (view : View) (rest : List View) (documents : List (List ℕ × Json))
      → emitted_at (length front) (map (each (front ++ view ∷ rest)) documents) ≡ map (emitted_by functions view.map) documents
  column front view rest [] = refl
  column front view rest (d ∷ documents) =
      (λ i. found_at front view rest d i ∷ column front view rest documents i)

  from_front : (front views : List View) (documents : List (List ℕ × Json))
      → by_view (length front) (length views) (map (each (front ++ views)) documents) ≡ emitted_for functions views documents
  from_front front [] documents = refl
  from_front front (view ∷ views) documents =
      let whole : (front ++ view ∷ []) ++ views ≡ front ++ view ∷ views = append_assoc front (view ∷ []) views in
      let long : length (front ++ view ∷ []) ≡ suc (length front) = (let both = length-append front (view ∷ []) in omega arith) in
      let rest = from_front (front ++ view ∷ []) views documents in
      let moved : by_view (suc (length front)) (length views) (map (each (front ++ view ∷ views)) documents) ≡ emitted_for functions views documents =
      (λ i. by_view (sym long i) (length views) (map (each (sym whole i)) documents)) ∙ rest in
      (λ i. column front view views documents i ∷ moved i)

pub are_emitted_by_view : AreEmittedByView
are_emitted_by_view functions views documents = from_front functions [] views documents
