-- What a document must be to be put, and what of it is stored.
use Rattle.std.specs.Prelude.{◌≡◌, ℕ, ◌≤◌, List, Bool, true, false, not, ◌&&◌, ◌||◌, length, codes, bytes_eq, if◌then◌else◌, Option, Some, None, option_and_then, IsTrue}
use Rattle.json_terms.specs.Json.{Json, number, is_false, is_null, is_true, object, array, string, Members, no_members, member, depth}
use Rattle.json_terms.specs.Find.{member_of}
use Rattle.json_terms.specs.Kinds.{text_in}
use Rattle.json_terms.specs.Seen.{json}
use Rattle.json_terms.specs.Text.{text_of}
use Rattle.view_ports.specs.Stored.{is_id, IsRevision}
use Rattle.design_docs.specs.Documents.{id_of, is_special, is_design_id, size_limit, document_depth_limit}
use Rattle.design_docs.specs.declared.fault.DesignFault.{DesignFault}
use Rattle.design_docs.specs.Faults.{design_fault, HasDesign}
use Rattle.doc_file.specs.declared.fault.DocFault.{DocFault}
use Rattle.doc_file.specs.declared.fault.DocFault.TheVariants.{BadId, BadMember, BadRev, TooLarge, TooDeep, BadDesign, Conflict, Missing, Deleted, Gate, NoMemory}
use Rattle.doc_file.specs.declared.incoming.Incoming.{Incoming}
use Rattle.doc_file.specs.Content.{content}

abbrev pub HasId : Json → Type 0
HasId document = IsTrue (is_id (id_of document))

-- the members with special names that a document may have
abbrev pub is_known : List ℕ → Bool
is_known name = bytes_eq name (codes "_id") || (bytes_eq name (codes "_rev") || bytes_eq name (codes "_deleted"))

abbrev pub is_truth_value : Json → Bool
is_truth_value is_true = true
is_truth_value is_false = true
is_truth_value is_null = false
is_truth_value (number n) = false
is_truth_value (object ms) = false
is_truth_value (array ts) = false
is_truth_value (string s) = false

-- a member that no document may have: one with another special name, or a `_deleted` that is neither true nor false
abbrev pub is_bad : List ℕ → Json → Bool
is_bad name value = (is_special name && not (is_known name)) || (bytes_eq name (codes "_deleted") && not (is_truth_value value))

-- the name of the first such member, in byte order
abbrev pub first_bad : Members → Option (List ℕ)
first_bad no_members = None
first_bad (member name value rest) = if is_bad name value then Some name else first_bad rest

abbrev pub bad_member : Json → Option (List ℕ)
bad_member (object members) = first_bad members
bad_member other = None

abbrev pub HasMembers : Json → Type 0
HasMembers document = bad_member document ≡ None

-- the revision is absent, or a text of the form of one
abbrev pub IsRevisionIn : Option Json → Type 0
IsRevisionIn None = Unit {0}
IsRevisionIn (Some (string text)) = IsRevision text
IsRevisionIn (Some other) = ⊥

abbrev pub HasRevision : Json → Type 0
HasRevision document = IsRevisionIn (member_of (codes "_rev") document)

-- the content's text has 524,288 bytes at most
abbrev pub IsSmall : Json → Type 0
IsSmall document = length (text_of (content document)) ≤ size_limit

abbrev pub IsShallow : Json → Type 0
IsShallow document = depth document ≤ document_depth_limit

abbrev pub says_true : Option Json → Bool
says_true (Some is_true) = true
says_true other = false

-- whether the put is a deletion
abbrev pub deletes : Json → Bool
deletes document = says_true (member_of (codes "_deleted") document)

-- a design document that isn't deleted has a design
abbrev pub NeedsDesign : Json → Type 0
NeedsDesign document = IsTrue (is_design_id (id_of document)) × (deletes document ≡ false)

-- what a document must be to be put
pub record IsWritable (document : Json) : Type 0 where
  pub id : HasId document
  pub members : HasMembers document
  pub revision : HasRevision document
  pub small : IsSmall document
  pub shallow : IsShallow document
  pub design : NeedsDesign document → HasDesign document

-- the first of these that a document isn't, which is its refusal
abbrev pub IsUnfit : Json → DocFault → Type 0
IsUnfit document BadId = HasId document → ⊥
IsUnfit document (BadMember name) = HasId document × (bad_member document ≡ Some name)
IsUnfit document BadRev = HasId document × HasMembers document × (HasRevision document → ⊥)
IsUnfit document TooLarge = HasId document × HasMembers document × HasRevision document × (IsSmall document → ⊥)
IsUnfit document TooDeep = HasId document × HasMembers document × HasRevision document × IsSmall document × (IsShallow document → ⊥)
IsUnfit document (BadDesign fault) =
    HasId document × HasMembers document × HasRevision document × IsSmall document × IsShallow document × NeedsDesign document × (design_fault document ≡ Some fault)
IsUnfit document Conflict = ⊥
IsUnfit document Missing = ⊥
IsUnfit document Deleted = ⊥
IsUnfit document (Gate fault) = ⊥
IsUnfit document NoMemory = ⊥

-- the revision that is given
abbrev pub given_revision : Json → Option (List ℕ)
given_revision document = option_and_then text_in (member_of (codes "_rev") document)

-- a design document, which isn't deleted, has this content, which has no design
abbrev pub IsBadDesign : List ℕ → Bool → Json → DocFault → Type 0
IsBadDesign id deletes content fault =
    IsTrue (is_design_id id) × (deletes ≡ false) × ((why : DesignFault) × (design_fault content ≡ Some why) × (fault ≡ BadDesign why))

-- what is read of a document that may be put
pub record IsReadAs (document : Json) (incoming : Incoming) : Type 0 where
  pub writable : IsWritable document
  pub id : incoming.id ≡ id_of document
  pub given : incoming.given ≡ given_revision document
  pub deletes : incoming.deletes ≡ deletes document
  pub content : json incoming.content ≡ content document
