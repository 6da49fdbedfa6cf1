-- What is kept of an id, and its last write in the history.
use Rattle.std.proofs.Common.{◌≡◌, ◌⊎◌, inl, inr, ℕ, List, Option, Some, None, Result, Ok, Err, IfOk, IfErr, refl, sym, ap, ◌∙◌, subst}
use Rattle.std.specs.Prelude.{Bool, false, is_none, option_map}
use Rattle.json_terms.specs.Json.{Json}
use Rattle.view_ports.specs.File.{File}
use Rattle.view_ports.specs.declared.file_name.FileName.{FileName}
use Rattle.doc_file.specs.declared.docs.Docs.{Docs}
use Rattle.doc_file.specs.declared.entry.LastWrite.{LastWrite}
use Rattle.doc_file.specs.declared.fault.DocFault.{DocFault}
use Rattle.doc_file.specs.declared.fault.DocFault.TheVariants.{Gate, NoMemory}
use Rattle.gate_file.specs.declared.fault.GateFault.TheVariants.{Damaged, DiskFault}
use Rattle.doc_file.specs.Accepted.{is_deletion}
use Rattle.doc_file.specs.Docs.{bytes_in, is_deleted, last_of, IsAt, IsLive, IsSpoiled}
use Rattle.doc_file.specs.Held.{HasBody, KeepsLast, KeepsDocument}
use Rattle.design_docs.specs.History.{Write, last_write, live_document}
use Rattle.doc_file.proofs.Histories.{last_write-id}
use Rattle.doc_file.proofs.Since.{has_body, one_body}

-- whether an id is kept, and as a deletion
abbrev pub kept_flag : Option LastWrite → Option Bool
kept_flag found = option_map (λ last. last.deleted) found

abbrev pub write_flag : Option Write → Option Bool
write_flag found = option_map (λ write. is_none write.document) found

flag_of : (id bytes : List ℕ) (last : LastWrite) (document : Option Json) → KeepsDocument id bytes last document → last.deleted ≡ is_none document
flag_of id bytes last None keeps = keeps
flag_of id bytes last (Some document) keeps = keeps.0

pub same_flag : (history : List Write) (bytes : List ℕ) (found : Option LastWrite) (write : Option Write) → KeepsLast history bytes found write → kept_flag found ≡ write_flag write
same_flag history bytes None None keeps = refl
same_flag history bytes None (Some write) keeps = absurd keeps
same_flag history bytes (Some last) None keeps = absurd keeps
same_flag history bytes (Some last) (Some write) keeps = ap Some (flag_of write.id bytes last write.document keeps.document)

none_then : (found : Option LastWrite) (write : Option Write) → kept_flag found ≡ write_flag write → (found ≡ None → write ≡ None) × (write ≡ None → found ≡ None)
none_then None None same = (λ is. refl, λ is. refl)
none_then None (Some write) same = absurd (let clash : ⊥ = cc in clash)
none_then (Some last) None same = absurd (let clash : ⊥ = cc in clash)
none_then (Some last) (Some write) same = (λ is. absurd (let clash : ⊥ = cc in clash), λ is. absurd (let clash : ⊥ = cc in clash))

deleted_is : (found : Option LastWrite) (write : Option Write) → kept_flag found ≡ write_flag write → is_deleted found ≡ is_deletion write
deleted_is None None same = refl
deleted_is None (Some write) same = absurd (let clash : ⊥ = cc in clash)
deleted_is (Some last) None same = absurd (let clash : ⊥ = cc in clash)
deleted_is (Some last) (Some write) same = cc

document_kept : (id bytes : List ℕ) (last : LastWrite) (t : Json) (name : List ℕ) (document : Option Json) → IsLive id bytes (Some last) t → KeepsDocument name bytes last document → document ≡ Some t
document_kept id bytes last t name None live keeps = let is = live.0 in absurd (let clash : ⊥ = cc in clash)
document_kept id bytes last t name (Some u) live keeps = ap Some (one_body name bytes id last u t keeps.2 live.1)

live_kept : (history : List Write) (id bytes : List ℕ) (t : Json) (found : Option LastWrite) (write : Option Write) → last_write history id ≡ write → KeepsLast history bytes found write → IsLive id bytes found t → live_document history id ≡ Some t
live_kept history id bytes t None write is keeps live = absurd live
live_kept history id bytes t (Some last) None is keeps live = absurd keeps
live_kept history id bytes t (Some last) (Some write) is keeps live = rw is (document_kept id bytes last t write.id write.document live keeps.document)

spoiled_kept : (history : List Write) (id bytes : List ℕ) (at : ℕ) (found : Option LastWrite) (write : Option Write) → last_write history id ≡ write → KeepsLast history bytes found write
    → is_deleted found ≡ false → IsSpoiled id bytes found at → ⊥
spoiled_kept history id bytes at None write is keeps live spoiled = spoiled
spoiled_kept history id bytes at (Some last) None is keeps live spoiled = keeps
spoiled_kept history id bytes at (Some last) (Some write) is keeps live spoiled =
    has_body id bytes last write.document live (subst (λ name. KeepsDocument name bytes last write.document) (last_write-id history id write is) keeps.document) spoiled.1

module _ (docs : Docs) (files : FileName → File) (history : List Write) (at : IsAt docs files history) (id : List ℕ) where
  pub none_written : (last_of docs id ≡ None → last_write history id ≡ None) × (last_write history id ≡ None → last_of docs id ≡ None)
  none_written = none_then (last_of docs id) (last_write history id) (same_flag history (bytes_in docs files) (last_of docs id) (last_write history id) (at.each id))

  pub deletion_is : is_deleted (last_of docs id) ≡ is_deletion (last_write history id)
  deletion_is = deleted_is (last_of docs id) (last_write history id) (same_flag history (bytes_in docs files) (last_of docs id) (last_write history id) (at.each id))

  pub document_is : (t : Json) → IsLive id (bytes_in docs files) (last_of docs id) t → live_document history id ≡ Some t
  document_is t live = live_kept history id (bytes_in docs files) t (last_of docs id) (last_write history id) refl (at.each id) live

  pub not_damaged : (place : ℕ) → is_deleted (last_of docs id) ≡ false → IsSpoiled id (bytes_in docs files) (last_of docs id) place → ⊥
  not_damaged place live spoiled = spoiled_kept history id (bytes_in docs files) place (last_of docs id) (last_write history id) refl (at.each id) live spoiled

-- what is found, is live and is spelled
module _ (docs : Docs) (files : FileName → File) (history : List Write) (at : IsAt docs files history) (id : List ℕ) (last : LastWrite) (found : last_of docs id ≡ Some last) (live : last.deleted ≡ false) where
  pub body_is : (t : Json) → HasBody id (bytes_in docs files) last t → live_document history id ≡ Some t
  body_is t body = document_is docs files history at id t (subst (λ o. IsLive id (bytes_in docs files) o t) (sym found) (live, body))

  pub is_spelled : ((t : Json) → HasBody id (bytes_in docs files) last t → ⊥) → ⊥
  is_spelled none = not_damaged docs files history at id last.offset (ap is_deleted found ∙ live) (subst (λ o. IsSpoiled id (bytes_in docs files) o last.offset) (sym found) (refl, none))

pub ok_then : {T E : Type 0} (result : Result T E) (P Q : T → Type 0) → ((t : T) → P t → Q t) → IfOk result P → IfOk result Q
ok_then (Ok t) P Q then is = then t is
ok_then (Err e) P Q then is = is

place_match : (name n : FileName) (offset at : ℕ) (e : DocFault) → ((e ≡ Gate DiskFault) ⊎ (e ≡ NoMemory) ⊎ (e ≡ Gate (Damaged name offset))) → e ≡ Gate (Damaged n at) → e ≡ Gate (Damaged name offset)
place_match name n offset at e (inl disk) is = absurd (let clash : ⊥ = cc (disk, is) in clash)
place_match name n offset at e (inr (inl memory)) is = absurd (let clash : ⊥ = cc (memory, is) in clash)
place_match name n offset at e (inr (inr here)) is = here

-- the one place that can be damaged
pub place_is : {T : Type 0} (result : Result T DocFault) (name n : FileName) (offset at : ℕ) → IfErr result (λ e. (e ≡ Gate DiskFault) ⊎ (e ≡ NoMemory) ⊎ (e ≡ Gate (Damaged name offset))) → result ≡ Err (Gate (Damaged n at))
    → result ≡ Err (Gate (Damaged name offset))
place_is (Ok t) name n offset at faults is = absurd (let clash : ⊥ = cc in clash)
place_is (Err e) name n offset at faults is = let e_is : e ≡ Gate (Damaged n at) = cc in ap Err (place_match name n offset at e faults e_is)
