-- What is stored of a document that may be put.
use Rattle.std.proofs.Common.{◌≡◌, ℕ, ◌+◌, ◌^◌, ◌<◌, List, length, Option, Some, None, refl, sym, ap, ◌∙◌, subst, arith}
use Rattle.std.specs.Prelude.{Bool, true, false, bytes_eq, codes, if◌then◌else◌}
use Rattle.json_terms.specs.Json.{Json, object, number, is_false, is_null, is_true, array, string, Members, no_members, member}
use Rattle.json_terms.specs.Find.{find}
use Rattle.json_terms.specs.Terms.{IsTerm}
use Rattle.design_docs.specs.Documents.{id_of, is_design_id}
use Rattle.design_docs.specs.Faults.{◌or◌, design_fault, HasDesign, language_fault, options_fault, shape_fault, views_fault}
use Rattle.design_docs.proofs.Revised.{revision_leaves_design}
use Rattle.std.specs.List.{list_all}
use Rattle.std.proofs.lemmas.Bool.Decides.{nat_tests}
use Rattle.doc_file.specs.declared.entry.LastWrite.{LastWrite}
use Rattle.doc_file.specs.declared.entry.Entry.{Entry}
use Rattle.doc_file.specs.Accepted.{delete_refusal, state_in}
use Rattle.doc_file.specs.Counts.{has_room}
use Rattle.view_ports.specs.Stored.{without}
use Rattle.doc_file.specs.Content.{content}
use Rattle.doc_file.specs.Held.{IsObject, find_last}
use Rattle.doc_file.specs.declared.fault.DocFault.{DocFault}
use Rattle.doc_file.specs.Incoming.{HasId, HasMembers, HasRevision, IsBadDesign, IsShallow, IsSmall, IsUnfit, IsWritable, deletes}
use Rattle.design_docs.specs.Revision.{revision, stored_document}
use Rattle.doc_file.specs.Stored.{IsStorable, entry_of}
use Rattle.doc_file.specs.Writes.{content_of}
use Rattle.doc_file.proofs.Contents.{IsDocument-stored, IsObject-writable, IsUtf8-revision, id_short, length-revision, spelling_short}
use Rattle.design_docs.proofs.Ids.{same_id}
use Rattle.doc_file.proofs.Setting.{passes}
use Rattle.doc_file.proofs.StoredAs.{stored_as}

-- leaving out a member leaves what another name finds
found_without : (name other : List ℕ) (ms : Members) → bytes_eq other name ≡ false → find name (without other ms) ≡ find name ms
found_without name other no_members apart = refl
found_without name other (member n t ms) apart = by_test (bytes_eq n other) refl (found_without name other ms apart)
  where
    by_test : (b : Bool) → bytes_eq n other ≡ b → find name (without other ms) ≡ find name ms
        → find name (if bytes_eq n other then without other ms else member n t (without other ms)) ≡ find name (member n t ms)
    by_test true is rest =
        let different : bytes_eq n name ≡ false = ap (λ m. bytes_eq m name) (same_id n other is) ∙ apart in
        ap (λ b. find name (if b then without other ms else member n t (without other ms))) is ∙ rest ∙ sym (ap (λ b. if b then Some t else find name ms) different)
    by_test false is rest =
        ap (λ b. find name (if b then without other ms else member n t (without other ms))) is ∙ ap (λ (found : Option Json). if bytes_eq n name then Some t else found) rest

without_both : (name : List ℕ) (ms : Members) → bytes_eq (codes "_rev") name ≡ false → bytes_eq (codes "_deleted") name ≡ false
    → find name (without (codes "_deleted") (without (codes "_rev") ms)) ≡ find name ms
without_both name ms one two = found_without name (codes "_deleted") (without (codes "_rev") ms) two ∙ found_without name (codes "_rev") ms one

-- what isn't stored has no part in the design
pub content_design : (document : Json) → design_fault (content document) ≡ design_fault document
content_design (object ms) =
    let language = without_both (codes "language") ms refl refl in
    let options = without_both (codes "options") ms refl refl in
    let views = without_both (codes "views") ms refl refl in
    λ i. language_fault (language i) or shape_fault (views i) or options_fault (options i) or views_fault (views i)
content_design (number n) = refl
content_design is_false = refl
content_design is_null = refl
content_design is_true = refl
content_design (array ts) = refl
content_design (string s) = refl

-- a document whose content has no design, and that needs one, is unfit, where it fits else
pub unfit_design : (document stored : Json) (id : List ℕ) (deleted : Bool) (fault : DocFault) → id ≡ id_of document → deleted ≡ deletes document → stored ≡ content document
    → HasId document → HasMembers document → HasRevision document → IsSmall document → IsShallow document → IsBadDesign id deleted stored fault → IsUnfit document fault
unfit_design document stored id deleted fault named same is has members revision small shallow bad =
    subst (IsUnfit document) (sym ((bad.2).2)) (
      has,
      members,
      revision,
      small,
      shallow,
      (ap is_design_id (sym named) ∙ bad.0, sym same ∙ bad.1),
      sym (content_design document) ∙ ap design_fault (sym is) ∙ (bad.2).1,
    )

-- a design stays under a revision
stored_design : (document : Json) (rev : List ℕ) → IsObject document → HasDesign document → HasDesign (stored_document (content document) rev)
stored_design (object ms) rev is has =
    (revision_leaves_design (without (codes "_deleted") (without (codes "_rev") ms)) (string rev)).0 ∙ content_design (object ms) ∙ has
stored_design (number n) rev is has = absurd is
stored_design is_false rev is has = absurd is
stored_design is_null rev is has = absurd is
stored_design is_true rev is has = absurd is
stored_design (array ts) rev is has = absurd is
stored_design (string s) rev is has = absurd is

-- what is put is stored as a document of its id
pub storable : (document : Json) → IsTerm document → IsWritable document → IsStorable (id_of document) (content_of document)
storable document term writable = by_kind (deletes document) refl
  where
    by_kind : (b : Bool) → deletes document ≡ b → IsStorable (id_of document) (if b then None else Some (content document))
    by_kind true is = tt
    by_kind false is = record {
      written = λ rev small.
          let text = revision rev.generation rev.seq in
          let an_object = IsObject-writable document writable in
          let utf8 = IsUtf8-revision rev.generation rev.seq small in
          let short = length-revision rev.generation rev.seq small in
          record {
            body = record {
              document_is = IsDocument-stored document text term an_object writable utf8 short;
              design = λ design. stored_design document text an_object (writable.design (design, is));
            };
            short = spelling_short document text term an_object writable utf8 short;
          };
      stored = λ rev some few. stored_as document term (IsObject-writable document writable) writable rev.generation rev.seq some few;
    }

pub id_fits : (document : Json) → IsWritable document → length (id_of document) + 33 < 2 ^ 32
id_fits document writable = omega (arith, id_short document (IsObject-writable document writable) writable)

-- an id that is found has room
found_fits : (entries : List Entry) (id : List ℕ) (last : LastWrite) → find_last id entries ≡ Some last → list_all has_room entries ≡ true → length id + 33 < 2 ^ 32
found_fits entries id last is room =
    let passed : has_room (entry_of id last) ≡ true = passes has_room id last entries is room in
    grind (arith, nat_tests)

-- so has that of a document that may be deleted
pub deleted_fits : (entries : List Entry) (id : List ℕ) (found : Option LastWrite) (given : Option (List ℕ)) → find_last id entries ≡ found → list_all has_room entries ≡ true
    → delete_refusal (state_in found) given ≡ None → length id + 33 < 2 ^ 32
deleted_fits entries id None given is room allowed = absurd (let clash : ⊥ = cc in clash)
deleted_fits entries id (Some last) given is room allowed = found_fits entries id last is room
