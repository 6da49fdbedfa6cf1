-- What is noted of the last writes so far.
use Rattle.std.specs.Prelude.{◌≡◌, ℕ, ◌<◌, ◌≤◌, List, [], ◌∷◌, ◌++◌, map, length, take, get_or, Bool, true, false, is_some, All, IfSome, Option, None, Some, option_map, if◌then◌else◌}
use Rattle.std.specs.List.{filter_map}
use Rattle.std.proofs.Common.{refl, sym, ap, ◌∙◌, subst, append-nil, inl, inr, arith}
use Rattle.std.proofs.lemmas.Bool.{cases_lt}
use Rattle.std.proofs.lemmas.List.{length-take-le, map-append, take_all}
use Rattle.std.proofs.lemmas.List.Elements.{All-get_or, filter_map-append}
use Rattle.json_terms.specs.Json.{Json, members_of, object, number, is_false, is_null, is_true, array, string}
use Rattle.json_terms.specs.Seen.{json}
use Rattle.json_terms.proofs.Sames.{members_of-list_of_members}
use Rattle.design_docs.specs.Documents.{is_design_id}
use Rattle.query_protocol.specs.CommandLines.{document_of, IsDocument}
use Rattle.doc_file.specs.declared.docs.changes.Change.{Change}
use Rattle.doc_file.specs.Changes.{numbered, HasDocument}
use Rattle.doc_file.specs.Held.{IsBodyOf, IsObject}
use Rattle.design_docs.specs.History.{mapped_by}
use Rattle.view_model.specs.Since.{mapped_of}
use Rattle.change_mapper.specs.declared.changed.Changed.{Changed}
use Rattle.change_mapper.specs.declared.changed.Written.{Written}
use Rattle.change_mapper.specs.Changed.{written_by, AreChangedOf}

abbrev left : List Change → List (List ℕ × Json)
left changes = mapped_of (map numbered changes)

abbrev noted : List Change → List Written
noted changes = map written_by (map numbered changes)

left-push : (changes : List Change) (change : Change) → left (changes ++ change ∷ []) ≡ left changes ++ left (change ∷ [])
left-push changes change =
    ap (filter_map (λ c. mapped_by c.1)) (map-append numbered changes (change ∷ []))
    ∙ filter_map-append (λ c. mapped_by c.1) (map numbered changes) (numbered change ∷ [])

noted-push : (changes : List Change) (change : Change) → noted (changes ++ change ∷ []) ≡ noted changes ++ written_by (numbered change) ∷ []
noted-push changes change = ap (map written_by) (map-append numbered changes (change ∷ [])) ∙ map-append written_by (map numbered changes) (numbered change ∷ [])

left_none : (change : Change) → mapped_by (numbered change).1 ≡ None → left (change ∷ []) ≡ []
left_none change is = rw is refl

left_one : (change : Change) (entry : List ℕ × Json) → mapped_by (numbered change).1 ≡ Some entry → left (change ∷ []) ≡ entry ∷ []
left_one change entry is = rw is refl

none_left : (b : Bool) (e : Option (List ℕ × Json)) → e ≡ None → (if b then None else e) ≡ None
none_left true e is = refl
none_left false e is = is

-- what is no document to be mapped
pub deletion_left : (change : Change) → change.doc ≡ None → mapped_by (numbered change).1 ≡ None
deletion_left change is =
    none_left (is_design_id change.id) (option_map (λ document. (change.id, document)) (option_map json change.doc))
    (ap (λ d. option_map (λ document. (change.id, document)) (option_map json d)) is)

pub design_left : (change : Change) → is_design_id change.id ≡ true → mapped_by (numbered change).1 ≡ None
design_left change is = ap (λ b. if b then None else option_map (λ document. (change.id, document)) (option_map json change.doc)) is

-- another change that leaves nothing
pub changed_less : (changes : List Change) (change : Change) (now new : Changed) → AreChangedOf (map numbered changes) now → mapped_by (numbered change).1 ≡ None
    → new.written.items ≡ now.written.items ++ record { id = change.id; is_mapped = false } ∷ [] → new.documents.items ≡ now.documents.items → AreChangedOf (map numbered (changes ++ change ∷ [])) new
changed_less changes change now new are none written documents =
    let same : left (changes ++ change ∷ []) ≡ left changes = left-push changes change ∙ ap (λ es. left changes ++ es) (left_none change none) ∙ append-nil (left changes) in
    let own : written_by (numbered change) ≡ record { id = change.id; is_mapped = false } = ap (λ b. record { id = change.id; is_mapped = b }) (ap is_some none) in
    record {
      written = written ∙ (λ i. are.written i ++ sym own i ∷ []) ∙ sym (noted-push changes change);
      documents = documents ∙ are.documents ∙ ap (map (λ (entry : List ℕ × Json). document_of entry.1)) (sym same);
    }

-- another change that leaves a document
pub changed_more : (changes : List Change) (change : Change) (now new : Changed) (document : Json) → AreChangedOf (map numbered changes) now
    → is_design_id change.id ≡ false → option_map json change.doc ≡ Some document
    → new.written.items ≡ now.written.items ++ record { id = change.id; is_mapped = true } ∷ [] → new.documents.items ≡ now.documents.items ++ document_of document ∷ []
    → AreChangedOf (map numbered (changes ++ change ∷ [])) new
changed_more changes change now new document are other live written documents =
    let is : mapped_by (numbered change).1 ≡ Some (change.id, document) =
    ap (λ b. if b then None else option_map (λ d. (change.id, d)) (option_map json change.doc)) other ∙ ap (option_map (λ d. (change.id, d))) live in
    let same : left (changes ++ change ∷ []) ≡ left changes ++ (change.id, document) ∷ [] = left-push changes change ∙ ap (λ es. left changes ++ es) (left_one change (change.id, document) is) in
    let own : written_by (numbered change) ≡ record { id = change.id; is_mapped = true } = ap (λ b. record { id = change.id; is_mapped = b }) (ap is_some is) in
    record {
      written = written ∙ (λ i. are.written i ++ sym own i ∷ []) ∙ sym (noted-push changes change);
      documents = documents ∙ ap (λ ds. ds ++ document_of document ∷ []) are.documents
          ∙ sym (map-append (λ (entry : List ℕ × Json). document_of entry.1) (left changes) ((change.id, document) ∷ [])) ∙ ap (map (λ (entry : List ℕ × Json). document_of entry.1)) (sym same);
    }

-- ---- a stored document may be mapped

object_is : (document : Json) → IsObject document → document ≡ object (members_of (document_of document))
object_is (object ms) is = ap object (sym (members_of-list_of_members ms))
object_is (number n) is = absurd is
object_is is_false is = absurd is
object_is is_null is = absurd is
object_is is_true is = absurd is
object_is (array ts) is = absurd is
object_is (string s) is = absurd is

may_be_mapped : (id : List ℕ) (document : Json) → IsBodyOf id document → IsDocument document
may_be_mapped id document body = record { members = document_of document; is = object_is document body.document_is.object; shallow = body.document_is.shallow }

pub change_may_be_mapped : (changes : List Change) (place : ℕ) (change : Change) (document : Json) → All HasDocument changes → place < length changes → change ≡ get_or changes place change
    → option_map json change.doc ≡ Some document → IsDocument document
change_may_be_mapped changes place change document all within is live =
    let has : HasDocument change = subst HasDocument (sym is) (All-get_or HasDocument changes place change within all) in
    may_be_mapped change.id document (subst (λ d. IfSome d (IsBodyOf change.id)) live has)

-- fewer than were asked for are all that there are
pub taken_all : {X : Type 0} (n : ℕ) (some all : List X) → length some < n → some ≡ take n all → some ≡ all
taken_all n some all few is =
    let short : length all ≤ n = elim (cases_lt n (length all)) [
      | inl long ↦ (let full : length some ≡ n = ap length is ∙ length-take-le n all (omega (arith, long)) in omega (arith, few, full))
      | inr within ↦ omega (arith, within)
    ] in
    is ∙ take_all n all short

pub itself : {X : Type 0} (xs : List X) → map (λ x. x) xs ≡ xs
itself [] = refl
itself (x ∷ xs) = ap (λ rest. x ∷ rest) (itself xs)
