-- The live design documents as the documents' file holds them, whether or not it stands for a history.
use Rattle.std.specs.Prelude.{◌≡◌, ℕ, List, true, Contains}
use Rattle.json_terms.specs.Json.{Json}
use Rattle.design_docs.specs.Documents.{is_design_id}
use Rattle.view_signature.specs.Signature.{signature_of}
use Rattle.view_ports.specs.File.{File}
use Rattle.view_ports.specs.declared.file_name.FileName.{FileName}
use Rattle.view_ports.specs.declared.file_name.Stem.TheVariants.{View}
use Rattle.doc_file.specs.declared.docs.Docs.{Docs}
use Rattle.doc_file.specs.Designs.{IsLiveEntry}
use Rattle.doc_file.specs.Docs.{bytes_in, last_of, IsLive}

-- this is the signature of the design of the document that stands under this id
abbrev pub IsSignatureIn : Docs → List ℕ → List ℕ → List ℕ → Type 0
IsSignatureIn docs bytes id sig = (document : Json) × IsLive id bytes (last_of docs id) document × (signature_of document ≡ sig)

-- this is the signature of the design of a live design document
pub record IsHeldSignature (docs : Docs) (bytes sig : List ℕ) : Type 0 where
  pub id : List ℕ
  pub of_design : is_design_id id ≡ true
  pub signed : IsSignatureIn docs bytes id sig

-- each live design document can be read
abbrev pub AreDesignsWhole : Docs → List ℕ → Type 0
AreDesignsWhole docs bytes = (id : List ℕ) → is_design_id id ≡ true → IsLiveEntry (last_of docs id) → (document : Json) × IsLive id bytes (last_of docs id) document

-- each of them can be read, and these are the signatures of their designs
pub record AreHeldSignatures (docs : Docs) (bytes : List ℕ) (sigs : List (List ℕ)) : Type 0 where
  pub whole : AreDesignsWhole docs bytes
  pub each : (sig : List ℕ) → (Contains sigs sig → IsHeldSignature docs bytes sig) × (IsHeldSignature docs bytes sig → Contains sigs sig)

-- each live design document can be read, and this is a file of an index that none of them has
abbrev pub IsUnheld : Docs → (FileName → File) → FileName → Type 0
IsUnheld docs files name = AreDesignsWhole docs (bytes_in docs files) × (sig : List ℕ) × (name.stem ≡ View sig) × (IsHeldSignature docs (bytes_in docs files) sig → ⊥)
