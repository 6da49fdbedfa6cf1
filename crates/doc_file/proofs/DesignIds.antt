-- The ids of the live design documents, among the entries and over a history.
use Rattle.std.proofs.Common.{◌≡◌, ◌⊎◌, inl, inr, ℕ, ◌+◌, ◌<◌, List, [], ◌∷◌, ◌++◌, length, get_or, take, Option, Some, None, refl, sym, ap, ◌∙◌, subst}
use Rattle.std.specs.Prelude.{Bool, ◌&&◌, not, true, false, bytes_eq, if◌then◌else◌, All, Contains}
use Rattle.std.specs.List.{cons_option, filter_map}
use Rattle.std.proofs.lemmas.List.{take_more}
use Rattle.std.proofs.lemmas.List.Elements.{All-cons, All-head, All-nil, All-tail, All-weaker, Contains-append_left, Contains-append_right, Contains-push, filter_map-append}
use Rattle.json_terms.specs.Json.{Json}
use Rattle.view_ports.specs.File.{File}
use Rattle.view_ports.specs.declared.file_name.FileName.{FileName}
use Rattle.design_docs.specs.Documents.{is_design_id}
use Rattle.doc_file.specs.declared.docs.Docs.{Docs}
use Rattle.doc_file.specs.declared.entry.LastWrite.{LastWrite}
use Rattle.doc_file.specs.declared.entry.Entry.{Entry}
use Rattle.doc_file.specs.Designs.{AreDesignIds, AreDesignsOf, IsLiveEntry}
use Rattle.doc_file.specs.Docs.{bytes_in, entries_of, last_of, IsAt}
use Rattle.doc_file.specs.Held.{KeepsDocument, KeepsLast, find_last}
use Rattle.design_docs.specs.History.{Write, last_write, live_document}
use Rattle.doc_file.proofs.Rises.{found_of_rise}
use Rattle.design_docs.proofs.Ids.{bool_cases, same_id}

-- the id of an entry of a live design document
abbrev pub live_design : Entry → Option (List ℕ)
live_design entry = if is_design_id entry.id && not (entry.last).deleted then Some entry.id else None

abbrev pub live_designs : List Entry → List (List ℕ)
live_designs entries = filter_map live_design entries

-- ---- among the entries

each_match : (P : List ℕ → Type 0) (design deleted : Bool) (id : List ℕ) (ids : List (List ℕ)) → (design ≡ true → deleted ≡ false → P id) → All P ids
    → All P (cons_option (if design && not deleted then Some id else None) ids)
each_match P true false id ids here rest = All-cons P id ids (here refl refl) rest
each_match P true true id ids here rest = rest
each_match P false deleted id ids here rest = rest

each_live : (P : List ℕ → Type 0) (es : List Entry) → All (λ (e : Entry). is_design_id e.id ≡ true → (e.last).deleted ≡ false → P e.id) es → All P (live_designs es)
each_live P [] all = All-nil P
each_live P (e ∷ es) all =
    let Q : Entry → Type 0 = λ (e : Entry). is_design_id e.id ≡ true → (e.last).deleted ≡ false → P e.id in
    each_match P (is_design_id e.id) (e.last).deleted e.id (live_designs es) (All-head Q e es all) (each_live P es (All-tail Q e es all))

behind : (o : Option (List ℕ)) (ids : List (List ℕ)) (id : List ℕ) → Contains ids id → Contains (cons_option o ids) id
behind None ids id is = is
behind (Some first) ids id is = Contains-append_right (first ∷ []) ids id is

listed_match : (id : List ℕ) (last : LastWrite) (e : Entry) (es : List Entry) → (bytes_eq id e.id ≡ true) ⊎ (bytes_eq id e.id ≡ false) → is_design_id id ≡ true → last.deleted ≡ false → find_last id (e ∷ es) ≡ Some last
    → (find_last id es ≡ Some last → Contains (live_designs es) id) → Contains (live_designs (e ∷ es)) id
listed_match id last e es (inl here) design live found rest =
    let first : Some e.last ≡ Some last = sym (rw here refl) ∙ found in
    let last_is : e.last ≡ last = cc in
    let is : live_design e ≡ Some id =
    ap (λ (l : LastWrite). if is_design_id e.id && not l.deleted then Some e.id else None) last_is
    ∙ ap (λ (i : List ℕ). if is_design_id i && not last.deleted then Some i else None) (sym (same_id id e.id here))
    ∙ rw (design, live) refl in
    subst (λ o. Contains (cons_option o (live_designs es)) id) (sym is) (Contains-append_left (id ∷ []) (live_designs es) id (Contains-push [] id))
listed_match id last e es (inr there) design live found rest = behind (live_design e) (live_designs es) id (rest (sym (rw there refl) ∙ found))

listed : (id : List ℕ) (last : LastWrite) (es : List Entry) → is_design_id id ≡ true → last.deleted ≡ false → find_last id es ≡ Some last → Contains (live_designs es) id
listed id last [] design live found = absurd (let clash : ⊥ = cc in clash)
listed id last (e ∷ es) design live found = listed_match id last e es (bool_cases (bytes_eq id e.id)) design live found (listed id last es design live)

listed_found : (id : List ℕ) (es : List Entry) (found : Option LastWrite) → find_last id es ≡ found → is_design_id id ≡ true → IsLiveEntry found → Contains (live_designs es) id
listed_found id es None is design live = absurd live
listed_found id es (Some last) is design live = listed id last es design live is

pub are_design_ids : (docs : Docs) → AreDesignIds docs (live_designs (entries_of docs))
are_design_ids docs = record {
  each =
      each_live (λ id. (is_design_id id ≡ true) × IsLiveEntry (last_of docs id)) (entries_of docs)
      (All-weaker (λ (e : Entry). last_of docs e.id ≡ Some e.last) (λ (e : Entry). is_design_id e.id ≡ true → (e.last).deleted ≡ false → (is_design_id e.id ≡ true) × IsLiveEntry (last_of docs e.id))
      (λ e found design live. (design, subst IsLiveEntry (sym found) live)) (entries_of docs) (found_of_rise (entries_of docs) docs.order));
  all = λ id design live. listed_found id (entries_of docs) (last_of docs id) refl design live;
}

-- one more entry
pub next_live : (es : List Entry) (i : ℕ) (e : Entry) → i < length es → e ≡ get_or es i e → live_designs (take (i + 1) es) ≡ live_designs (take i es) ++ cons_option (live_design e) []
next_live es i e more is = ap live_designs (take_more es i e more ∙ ap (λ x. take i es ++ x ∷ []) (sym is)) ∙ filter_map-append live_design (take i es) (e ∷ [])

-- ---- over a history

stored_then : (id bytes : List ℕ) (last : LastWrite) (document : Option Json) → KeepsDocument id bytes last document → last.deleted ≡ false → (d : Json) × (document ≡ Some d)
stored_then id bytes last None keeps live = absurd (let clash : ⊥ = cc (keeps, live) in clash)
stored_then id bytes last (Some d) keeps live = (d, refl)

then_stored : (id bytes : List ℕ) (last : LastWrite) (document : Option Json) (d : Json) → KeepsDocument id bytes last document → document ≡ Some d → last.deleted ≡ false
then_stored id bytes last None d keeps is = absurd (let clash : ⊥ = cc in clash)
then_stored id bytes last (Some u) d keeps is = keeps.0

module _ (history : List Write) (bytes id : List ℕ) where
  live_then : (found : Option LastWrite) (write : Option Write) → last_write history id ≡ write → KeepsLast history bytes found write → IsLiveEntry found → (d : Json) × (live_document history id ≡ Some d)
  live_then None write is keeps live = absurd live
  live_then (Some last) None is keeps live = absurd keeps
  live_then (Some last) (Some write) is keeps live = let stored = stored_then write.id bytes last write.document keeps.document live in (stored.0, rw is stored.1)

  then_live : (found : Option LastWrite) (write : Option Write) (d : Json) → last_write history id ≡ write → KeepsLast history bytes found write → live_document history id ≡ Some d → IsLiveEntry found
  then_live None None d is keeps some =
      let none : live_document history id ≡ None = rw is refl in
      absurd (let clash : ⊥ = cc (none, some) in clash)
  then_live None (Some write) d is keeps some = absurd keeps
  then_live (Some last) None d is keeps some = absurd keeps
  then_live (Some last) (Some write) d is keeps some =
      let here : live_document history id ≡ write.document = rw is refl in
      then_stored write.id bytes last write.document d keeps.document (sym here ∙ some)

pub are_designs_of : (docs : Docs) (files : FileName → File) (history : List Write) (ids : List (List ℕ)) → IsAt docs files history → AreDesignIds docs ids → AreDesignsOf history ids
are_designs_of docs files history ids at are = record {
  each =
      All-weaker (λ id. (is_design_id id ≡ true) × IsLiveEntry (last_of docs id)) (λ id. (is_design_id id ≡ true) × ((document : Json) × (live_document history id ≡ Some document)))
      (λ id is. (is.0, live_then history (bytes_in docs files) id (last_of docs id) (last_write history id) refl (at.each id) is.1)) ids are.each;
  all = λ id document design some. are.all id design (then_live history (bytes_in docs files) id (last_of docs id) (last_write history id) document refl (at.each id) some);
}
