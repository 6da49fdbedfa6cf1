-- The picture that an update makes.
use Rattle.std.specs.Prelude.{◌≡◌, ◌≤◌, ℕ, List, [], ◌∷◌, map, length}
use Rattle.std.specs.List.{AllByRecursion}
use Rattle.std.proofs.Common.{refl, sym, ap, ◌∙◌, subst, arith}
use Rattle.std.proofs.lemmas.List.{length-map}
use Rattle.json_terms.specs.Json.{Json, object, number, is_false, is_null, is_true, array, string}
use Rattle.json_terms.proofs.Sames.{members_of-list_of_members}
use Rattle.raw_collation.specs.Sorting.{sorted_rows}
use Rattle.view_ports.specs.Functions.{Functions, IsMappable, source_limit}
use Rattle.view_ports.specs.Honest.{rows_of}
use Rattle.view_ports.specs.Stored.{IsStoredDocument}
use Rattle.design_docs.specs.declared.design.View.{View}
use Rattle.design_docs.specs.Design.{map_sources}
use Rattle.query_protocol.specs.CommandLines.{document_of}
use Rattle.design_docs.specs.History.{AreStored, IsStoredAs, Write, changes_after, mapped_after}
use Rattle.doc_file.proofs.CanBeStored.{mapped_are_stored}
use Rattle.child_pool.specs.Pools.{AreRowsOf}
use Rattle.child_pool.proofs.Batches.{honest_lists}
use Rattle.view_model.specs.Picture.{Picture}
use Rattle.view_model.specs.Rows.{emitted_by}
use Rattle.view_model.specs.Since.{mapped_of}
use Rattle.view_model.specs.Update.{by_view, IsUpdated}
use Rattle.view_model.proofs.Columns.{are_emitted_by_view, are_taken_by_view}
use Rattle.view_model.proofs.Firsts.{changes_none}
use Rattle.row_exchange.specs.Changed.{changed_rows}
use Rattle.row_exchange.specs.Replaced.{replaced_views}
use Rattle.row_exchange.proofs.Updating.{replacements_are_updates, replacements_of_nothing}
use Rattle.change_mapper.specs.Written.{documents_of, documents_since}

abbrev Lists : Type 0
Lists = List (List (List (Json × Json)))

-- ---- documents that can be stored may be mapped

mappable : (document : Json) → IsStoredDocument document → IsMappable (document_of document)
mappable (object ms) is = subst IsStoredDocument (ap object (sym (members_of-list_of_members ms))) is
mappable (number n) is = absurd (let found = is.id.1 in cc)
mappable is_false is = absurd (let found = is.id.1 in cc)
mappable is_null is = absurd (let found = is.id.1 in cc)
mappable is_true is = absurd (let found = is.id.1 in cc)
mappable (array ts) is = absurd (let found = is.id.1 in cc)
mappable (string s) is = absurd (let found = is.id.1 in cc)

pub all_mappable : (entries : List (List ℕ × Json)) → AllByRecursion (λ entry. IsStoredAs entry.0 entry.1) entries → AllByRecursion IsMappable (map (λ entry. document_of entry.1) entries)
all_mappable [] all = tt
all_mappable (entry ∷ entries) all = (mappable entry.1 all.0.stored, all_mappable entries all.1)

-- ---- the rows of each map function

of_views : (functions : Functions) (document : List (List ℕ × Json)) (views : List View) → rows_of functions (map_sources views) document ≡ map (λ view. functions.map_of view.map document) views
of_views functions document [] = refl
of_views functions document (view ∷ views) = ap (λ rows. functions.map_of view.map document ∷ rows) (of_views functions document views)

of_entries : (functions : Functions) (views : List View) (entries : List (List ℕ × Json))
    → map (rows_of functions (map_sources views)) (map (λ entry. document_of entry.1) entries) ≡ map (λ entry. map (λ view. emitted_by functions view.map entry) views) entries
of_entries functions views [] = refl
of_entries functions views (entry ∷ entries) = λ i. of_views functions (document_of entry.1) views i ∷ of_entries functions views entries i

-- ---- a replacement by the lists of the mapped documents is an update

module _ (functions : Functions) (honest : Type 0) (views : List View) (history : List Write) (old next : Picture) (lists : Lists) (shaped : length old.rows ≡ length views) where
  updated_by : length lists ≡ length (mapped_after old.seq history) → (honest → lists ≡ map (λ entry. map (λ view. emitted_by functions view.map entry) views) (mapped_after old.seq history))
      → next.seq ≡ length history → next.rows ≡ replaced_views (changed_rows (length views) (changes_after old.seq history) lists) old.rows → IsUpdated functions honest views history old next
  updated_by each right seq rows = record {
    emitted = by_view 0 (length views) lists;
    each_view = (are_taken_by_view (length views) lists).0;
    each_document = subst (λ (n : ℕ). AllByRecursion (λ (column : List (List (Json × Json))). length column ≡ n) (by_view 0 (length views) lists)) each (are_taken_by_view (length views) lists).1;
    right = λ is. ap (by_view 0 (length views)) (right is) ∙ are_emitted_by_view functions views (mapped_after old.seq history);
    seq = seq;
    rows = rows ∙ replacements_are_updates history old.seq (length views) lists old.rows shaped;
  }

-- whatever the functions and the lists are
pub freely_updated : (functions : Functions) (views : List View) (history : List Write) (old next : Picture) (lists : Lists) → length old.rows ≡ length views → length lists ≡ length (mapped_after old.seq history)
    → next.seq ≡ length history → next.rows ≡ replaced_views (changed_rows (length views) (changes_after old.seq history) lists) old.rows → IsUpdated functions ⊥ views history old next
freely_updated functions views history old next lists shaped each seq rows = updated_by functions ⊥ views history old next lists shaped each (λ no. absurd no) seq rows

-- where nothing was written since there is no document to be mapped
pub no_documents_since : (seq : ℕ) (history : List Write) → seq ≡ length history → documents_since seq history ≡ []
no_documents_since seq history newest = ap documents_of (changes_none seq history (omega (arith, newest)))

-- and the picture stays
pub nothing_updated : (functions : Functions) (honest : Type 0) (views : List View) (history : List Write) (old : Picture) → length old.rows ≡ length views → old.seq ≡ length history → map sorted_rows old.rows ≡ old.rows
    → IsUpdated functions honest views history old old
nothing_updated functions honest views history old shaped newest sorted =
    let none : changes_after old.seq history ≡ [] = changes_none old.seq history (omega (arith, newest)) in
    let no_documents : mapped_after old.seq history ≡ [] = ap mapped_of none in
    updated_by functions honest views history old old [] shaped (ap (λ (es : List (List ℕ × Json)). length es) (sym no_documents))
    (λ is. ap (map (λ entry. map (λ view. emitted_by functions view.map entry) views)) (sym no_documents)) newest
    (sym sorted ∙ sym (replacements_of_nothing old.rows) ∙ ap (λ (cs : List (ℕ × Write)). replaced_views (changed_rows (length views) cs []) old.rows) (sym none))

-- the lists are those that the pool gave
pub rows_updated : (functions : List ℕ → Functions) (honest : List ℕ → Type 0) (path : List ℕ) (views : List View) (history : List Write) (old next : Picture) (lists : Lists) → length old.rows ≡ length views → AreStored history
    → AreRowsOf functions honest path (map_sources views) (documents_since old.seq history) lists → next.seq ≡ length history
    → next.rows ≡ replaced_views (changed_rows (length views) (changes_after old.seq history) lists) old.rows → IsUpdated (functions path) (honest path × (length views ≤ source_limit)) views history old next
rows_updated functions honest path views history old next lists shaped stored are seq rows =
    let entries : List (List ℕ × Json) = mapped_after old.seq history in
    updated_by (functions path) (honest path × (length views ≤ source_limit)) views history old next lists shaped (are.each ∙ length-map entries (λ (entry : List ℕ × Json). document_of entry.1))
    (λ is. honest_lists functions honest path (map_sources views) (documents_since old.seq history) lists is.0 (subst (λ (n : ℕ). n ≤ source_limit) (sym (length-map views (λ (view : View). view.map))) is.1)
    (all_mappable entries (mapped_are_stored history stored old.seq)) are.right ∙ of_entries (functions path) views entries) seq rows
