-- The next of the entries is the next change of the history.
use Rattle.std.proofs.Common.{◌≡◌, ◌⊎◌, inl, inr, ℕ, ◌<◌, ◌≤◌, List, [], ◌∷◌, ◌++◌, Option, Some, None, refl, sym, ap, ◌∙◌, subst, arith}
use Rattle.std.specs.Prelude.{true, false, bytes_eq, All}
use Rattle.std.proofs.lemmas.List.Elements.{All-contains, All-head, All-tail}
use Rattle.json_terms.specs.Json.{Json}
use Rattle.term_codec.specs.Spelling.{spelling}
use Rattle.term_codec.specs.SpelledAt.{IsWithin}
use Rattle.term_codec.proofs.Spelled.{spelling-prefix_free}
use Rattle.gate_file.specs.declared.root.Root.{Root}
use Rattle.doc_file.specs.declared.entry.LastWrite.{LastWrite}
use Rattle.doc_file.specs.declared.entry.Entry.{Entry}
use Rattle.doc_file.specs.Record.{AreEntries}
use Rattle.doc_file.specs.Stored.{entry_of}
use Rattle.design_docs.specs.History.{Write, changes_after, last_seq, last_write}
use Rattle.doc_file.specs.Held.{HasBody, HoldsRoot, IsDocument, IsKept, KeepsLast, KeepsDocument, KeepsEach, find_last}
use Rattle.doc_file.specs.Changes.{IsNext, IsStored}
use Rattle.design_docs.proofs.Ids.{bool_cases, same_id}
use Rattle.doc_file.proofs.Histories.{last_write-id}
use Rattle.design_docs.proofs.Numbers.{first_change, no_change}
use Rattle.doc_file.proofs.Rises.{found_of_rise, rise_of_entries}

-- ---- entries of rising ids

pub are_entries : (root : Option Root) (commits : ℕ) (bytes : List ℕ) (seq : ℕ) (entries : List Entry) → HoldsRoot root commits bytes seq entries → AreEntries entries
are_entries None commits bytes seq entries holds = subst AreEntries (sym holds.1) tt
are_entries (Some root) commits bytes seq entries holds = holds.0.each

-- an entry is what is found of its id
pub found_entries : (es : List Entry) → AreEntries es → All (λ (e : Entry). find_last e.id es ≡ Some e.last) es
found_entries es are = found_of_rise es (rise_of_entries es are)

-- what is found of an id is its entry
holds_match : (P : Entry → Type 0) (id : List ℕ) (last : LastWrite) (e : Entry) (es : List Entry) → (bytes_eq id e.id ≡ true) ⊎ (bytes_eq id e.id ≡ false) → find_last id (e ∷ es) ≡ Some last → All P (e ∷ es)
    → (find_last id es ≡ Some last → P (entry_of id last)) → P (entry_of id last)
holds_match P id last e es (inl here) is all rest =
    let found : Some e.last ≡ Some last = sym (rw here refl) ∙ is in
    let last_is : e.last ≡ last = cc in
    let entry_is : e ≡ entry_of id last = λ i. record { id = sym (same_id id e.id here) i; last = last_is i } in
    subst P entry_is (All-head P e es all)
holds_match P id last e es (inr there) is all rest = rest (sym (rw there refl) ∙ is)

pub holds_of_found : (P : Entry → Type 0) (id : List ℕ) (last : LastWrite) (es : List Entry) → find_last id es ≡ Some last → All P es → P (entry_of id last)
holds_of_found P id last [] is all = absurd (let clash : ⊥ = cc in clash)
holds_of_found P id last (e ∷ es) is all = holds_match P id last e es (bool_cases (bytes_eq id e.id)) is all (λ found. holds_of_found P id last es found (All-tail P e es all))

-- ---- what is kept of an id

pub record IsKnown (history : List Write) (bytes id : List ℕ) (last : LastWrite) : Type 0 where
  pub write : Write
  pub is : last_write history id ≡ Some write
  pub named : write.id ≡ id
  pub kept : IsKept history bytes last write

known_match : (history : List Write) (bytes id : List ℕ) (last : LastWrite) (found : Option LastWrite) (write : Option Write) → last_write history id ≡ write → found ≡ Some last → KeepsLast history bytes found write → IsKnown history bytes id last
known_match history bytes id last None write is found keeps = absurd (let clash : ⊥ = cc in clash)
known_match history bytes id last (Some l) None is found keeps = absurd keeps
known_match history bytes id last (Some l) (Some write) is found keeps =
    let same : l ≡ last = cc in
    record { write = write; is = is; named = last_write-id history id write is; kept = subst (λ x. IsKept history bytes x write) same keeps }

pub known : (history : List Write) (bytes : List ℕ) (entries : List Entry) → KeepsEach history bytes entries → (id : List ℕ) (last : LastWrite) → find_last id entries ≡ Some last → IsKnown history bytes id last
known history bytes entries each id last found = known_match history bytes id last (find_last id entries) (last_write history id) refl found (each id)

pub record IsFound (history : List Write) (bytes : List ℕ) (entries : List Entry) (id : List ℕ) : Type 0 where
  pub last : LastWrite
  pub is : find_last id entries ≡ Some last
  pub number : last.seq ≡ last_seq history id

found_match : (history : List Write) (bytes : List ℕ) (entries : List Entry) (id : List ℕ) (u : Write) (found : Option LastWrite) (write : Option Write) → find_last id entries ≡ found → last_write history id ≡ write → write ≡ Some u
    → KeepsLast history bytes found write → IsFound history bytes entries id
found_match history bytes entries id u None None found is some keeps = absurd (let clash : ⊥ = cc in clash)
found_match history bytes entries id u None (Some write) found is some keeps = absurd keeps
found_match history bytes entries id u (Some last) None found is some keeps = absurd keeps
found_match history bytes entries id u (Some last) (Some write) found is some keeps =
    record { last = last; is = found; number = keeps.seq ∙ ap (last_seq history) (last_write-id history id write is) }

pub found_of_write : (history : List Write) (bytes : List ℕ) (entries : List Entry) → KeepsEach history bytes entries → (id : List ℕ) (u : Write) → last_write history id ≡ Some u → IsFound history bytes entries id
found_of_write history bytes entries each id u is = found_match history bytes entries id u (find_last id entries) (last_write history id) refl refl is (each id)

-- ---- the document of a last write

within : (t : Json) → IsDocument t → IsWithin t
within t is = record { depth = let d = is.shallow in omega arith; counts = is.counts }

-- one document alone is spelled there
pub one_body : (id bytes other : List ℕ) (last : LastWrite) (t u : Json) → HasBody id bytes last t → HasBody other bytes last u → t ≡ u
one_body id bytes other last t u one two =
    let same : spelling t ++ [] ≡ spelling u ++ [] = ap (λ (l : List ℕ). l ++ []) (one.spelled.same ∙ sym two.spelled.same) in
    let first = one.body.document_is in
    let second = two.body.document_is in
    (spelling-prefix_free t u [] [] first.term (within t first) second.term (within u second) same).0

pub stored_is : (id bytes other : List ℕ) (last : LastWrite) (t u : Option Json) → IsStored id bytes last t → KeepsDocument other bytes last u → t ≡ u
stored_is id bytes other last None None stored keeps = refl
stored_is id bytes other last None (Some u) stored keeps = let live = keeps.0 in absurd (let clash : ⊥ = cc in clash)
stored_is id bytes other last (Some t) None stored keeps = let live = stored.0 in absurd (let clash : ⊥ = cc in clash)
stored_is id bytes other last (Some t) (Some u) stored keeps = ap Some (one_body id bytes other last t u stored.1 keeps.2)

-- a live last write has a document
pub has_body : (id bytes : List ℕ) (last : LastWrite) (u : Option Json) → last.deleted ≡ false → KeepsDocument id bytes last u → ((t : Json) → HasBody id bytes last t → ⊥) → ⊥
has_body id bytes last None live keeps none = let clash : ⊥ = cc (live, keeps) in clash
has_body id bytes last (Some u) live keeps none = none u keeps.2

-- ---- the next change

module _ (history : List Write) (bytes : List ℕ) (entries : List Entry) (are : AreEntries entries) (each : KeepsEach history bytes entries) where
  pub change_is : (seq : ℕ) (e : Entry) (doc : Option Json) → IsNext seq entries (Some e) → IsStored e.id bytes e.last doc
      → changes_after seq history ≡ ((e.last).seq, record { id = e.id; document = doc }) ∷ changes_after (e.last).seq history
  change_is seq e doc next stored =
      let found : find_last e.id entries ≡ Some e.last = All-contains (λ (x : Entry). find_last x.id entries ≡ Some x.last) entries e (found_entries entries are) next.0 in
      let known_here : IsKnown history bytes e.id e.last = known history bytes entries each e.id e.last found in
      let write : Write = known_here.write in
      let number : last_seq history e.id ≡ (e.last).seq = sym (known_here.kept.seq ∙ ap (last_seq history) known_here.named) in
      let documents : doc ≡ write.document = stored_is e.id bytes write.id e.last doc write.document stored known_here.kept.document in
      let writes : write ≡ record { id = e.id; document = doc } = λ i. record { id = known_here.named i; document = sym documents i } in
      first_change seq (e.last).seq history e.id write known_here.named known_here.is number next.1 least
      ∙ ap (λ (w : Write). ((e.last).seq, w) ∷ changes_after (e.last).seq history) writes
    where
      least : (other : List ℕ) (u : Write) → last_write history other ≡ Some u → seq < last_seq history other → (e.last).seq ≤ last_seq history other
      least other u is after =
          let f : IsFound history bytes entries other = found_of_write history bytes entries each other u is in
          let low = holds_of_found (λ (x : Entry). seq < (x.last).seq → (e.last).seq ≤ (x.last).seq) other f.last entries f.is next.2 (omega (arith, f.number)) in
          omega (arith, f.number)

  pub none_left : (seq : ℕ) → IsNext seq entries None → changes_after seq history ≡ []
  none_left seq next = no_change seq history (λ id u is after.
      let f : IsFound history bytes entries id = found_of_write history bytes entries each id u is in
      let low = holds_of_found (λ (x : Entry). (x.last).seq ≤ seq) id f.last entries f.is next in
      omega (arith, f.number))

  pub not_spoiled : (id : List ℕ) (last : LastWrite) → find_last id entries ≡ Some last → last.deleted ≡ false → ((t : Json) → HasBody id bytes last t → ⊥) → ⊥
  not_spoiled id last found live none =
      let known_here : IsKnown history bytes id last = known history bytes entries each id last found in
      has_body id bytes last known_here.write.document live (subst (λ name. KeepsDocument name bytes last known_here.write.document) known_here.named known_here.kept.document) none
