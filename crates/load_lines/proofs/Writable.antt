-- Each document of a load may be put: what is read of it.
use Rattle.std.proofs.Common.{◌≡◌, ◌+◌, ◌/◌, ◌%◌, ◌<◌, ◌≤◌, ◌^◌, ℕ, length, codes, true, false, Some, None, refl, arith, lt-ltb}
use Rattle.json_terms.specs.Json.{object, string, member}
use Rattle.json_terms.specs.Terms.{AreMembers}
use Rattle.json_terms.specs.Text.{text_of}
use Rattle.view_ports.specs.Stored.{is_id}
use Rattle.design_docs.specs.Documents.{id_of}
use Rattle.doc_file.specs.Content.{content}
use Rattle.doc_file.specs.Incoming.{IsWritable, given_revision, deletes}
use Rattle.design_docs.specs.Revision.{revision}
use Rattle.load_lines.specs.Numbers.{value}
use Rattle.load_lines.specs.Documents.{document_id, amount_and_group, load_design, document, raised}
use Rattle.load_lines.proofs.Revisions.{IsRevision-revision}
use Rattle.load_lines.proofs.Rooms.{length-text_of}
use Rattle.load_lines.proofs.Terms.{IsTerm-load_design, IsTerm-document, IsTerm-raised, length-document_id}

-- ---- the design document

pub id_of-load_design : id_of load_design ≡ codes "_design/load"
unfolding load_design
id_of-load_design = refl

pub content-load_design : content load_design ≡ load_design
unfolding load_design
content-load_design = refl

pub given-load_design : given_revision load_design ≡ None
unfolding load_design
given-load_design = refl

pub deletes-load_design : deletes load_design ≡ false
unfolding load_design
deletes-load_design = refl

pub IsWritable-load_design : IsWritable load_design
unfolding load_design
IsWritable-load_design = record {
  id = refl;
  members = refl;
  revision = tt;
  small = let whole = length-text_of load_design IsTerm-load_design in omega arith;
  shallow = omega arith;
  design = λ needs. refl;
}

-- ---- document k

is_id-document_id : (k : ℕ) → is_id (document_id k) ≡ true
unfolding document_id
is_id-document_id k = let some : 0 < length (document_id k) = omega arith in rw (lt-ltb 0 (length (document_id k)) some) refl

pub id_of-document : (seed k : ℕ) → id_of (document seed k) ≡ document_id k
unfolding document
id_of-document seed k = refl

pub content-document : (seed k : ℕ) → content (document seed k) ≡ document seed k
unfolding document
content-document seed k = refl

pub given-document : (seed k : ℕ) → given_revision (document seed k) ≡ None
unfolding document
given-document seed k = refl

pub deletes-document : (seed k : ℕ) → deletes (document seed k) ≡ false
unfolding document
deletes-document seed k = refl

small-document : (seed k : ℕ) → seed < 2 ^ 31 → k < 2 ^ 64 → length (text_of (content (document seed k))) ≤ 524288
unfolding document
small-document seed k below small = let whole = length-text_of (document seed k) (IsTerm-document seed k below small) in omega (arith, length-document_id k small)

pub IsWritable-document : (seed k : ℕ) → seed < 2 ^ 31 → k < 2 ^ 64 → IsWritable (document seed k)
unfolding document document_id
IsWritable-document seed k below small = record {
  id = is_id-document_id k;
  members = refl;
  revision = tt;
  small = small-document seed k below small;
  shallow = omega arith;
  design = λ needs. absurd (let clash : ⊥ = cc needs.0 in clash);
}

-- ---- document k with its amount raised

pub id_of-raised : (seed k : ℕ) → id_of (raised seed k) ≡ document_id k
unfolding raised
id_of-raised seed k = refl

pub content-raised : (seed k : ℕ) → content (raised seed k) ≡ object (member (codes "_id") (string (document_id k)) (amount_and_group (value seed k / 10 + 1) (value seed k % 10)))
unfolding raised
content-raised seed k = refl

pub given-raised : (seed k : ℕ) → given_revision (raised seed k) ≡ Some (revision 1 (k + 1))
unfolding raised
given-raised seed k = refl

pub deletes-raised : (seed k : ℕ) → deletes (raised seed k) ≡ false
unfolding raised
deletes-raised seed k = refl

small-raised : (seed k : ℕ) → seed < 2 ^ 31 → k < 2 ^ 64 → length (text_of (content (raised seed k))) ≤ 524288
unfolding raised
small-raised seed k below small =
    let term = IsTerm-raised seed k below small in
    let kept : AreMembers (amount_and_group (value seed k / 10 + 1) (value seed k % 10)) = term.3.3 in
    let whole = length-text_of (object (member (codes "_id") (string (document_id k)) (amount_and_group (value seed k / 10 + 1) (value seed k % 10)))) (term.0, refl, term.2, kept) in
    omega (arith, length-document_id k small)

pub IsWritable-raised : (seed k : ℕ) → seed < 2 ^ 31 → k < 2 ^ 64 → IsWritable (raised seed k)
unfolding raised document_id
IsWritable-raised seed k below small = record {
  id = is_id-document_id k;
  members = refl;
  revision = IsRevision-revision (k + 1);
  small = small-raised seed k below small;
  shallow = omega arith;
  design = λ needs. absurd (let clash : ⊥ = cc needs.0 in clash);
}
